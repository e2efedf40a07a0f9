-- Scopes as the code keeps them: how many variables, and where their types are found; and an array with the scope that each node stands in.
use Rattle.std.specs.Prelude.{◌≡◌, refl, Bool, true, false, cond, List, [], ◌∷◌, ◌++◌, ℕ, zero, suc, ◌+◌, ◌*◌, ◌-◌, ◌/◌, ◌%◌, ◌≤◌, ◌<◌, eqb, ltb, get_or, set}
use Rattle.std.proofs.Common.{ap, ◌∙◌, arith, length-append, lt-ltb, le-ltb}
use Rattle.std.proofs.Math.Option.{Option, none, some}
use Rattle.std.specs.Prelude.{None, Some}
use Rattle.std.specs.Prelude as Code
use Rattle.std.specs.Option.{is_none}
use Rattle.std.proofs.Math.Decide.{dec_lt}
use Rattle.std.proofs.Math.Dec.{leb-suc-suc}
use Rattle.std.proofs.Math.ListN.{length, get_elem?}
use Rattle.node.specs.declared.Node.{Node}
use Rattle.node.specs.declared.Node.TheVariants.{Var, False, True, Empty, Number, Front, Pair, ListCase, TruthCase, Split, Call, Add, Each, Wide}
use Rattle.rules.specs.Semantics.{two}
use Rattle.typing.specs.Types.{Ty, truths}
use Rattle.typing.specs.Fits.{Scope, added}
use Rattle.typing.specs.Written.{bytes_of, Short}
use Rattle.typing.specs.Numbers.{past_slots}
use Rattle.types.specs.declared.scopes.View.{View}
use Rattle.types.specs.declared.scopes.Found.TheVariants.{From, Inside}
use Rattle.types.specs.Slots.{part_at, At}
use Rattle.types.specs.SlotsLaws.{type_some, part_past}

-- what the code keeps for a node: the scope that it stands in, once it is known
abbrev pub Entry : Type 0
Entry = Code.Option View

-- so many variables in the slots from one on; a scope, and two variables more, the parts of the type of node s; one variable alone, the view of node i
abbrev pub slots : (width slot : ℕ) → View
slots width slot = record { width = width; found = From slot }

abbrev pub widen : View → ℕ → View
widen v s = record { width = v.width + 2; found = Inside s }

abbrev pub view_of : ℕ → View
view_of i = slots 1 (41 + i)

-- node n stands in the scope, unless it stands in one already
unfoldable pub place_of : List Entry → ℕ → View → List Entry
place_of a n v = cond (ltb n 200) (cond (is_none (get_or a n None)) (set a n (Some v)) a) a

unfoldable pub place_all : List Entry → List (ℕ × View) → List Entry
place_all a [] = a
place_all a (p ∷ ps) = place_all (place_of a p.0 p.1) ps

-- the array b, after that
pub record Put (a : List Entry) (n : ℕ) (v : View) (b : List Entry) : Type 0 where
  pub is : b ≡ place_of a n v

pub record PutAll (a : List Entry) (ps : List (ℕ × View)) (b : List Entry) : Type 0 where
  pub is : b ≡ place_all a ps

-- the children of node i, which stands in the scope: each number with its own scope
unfoldable pub child_scopes : (scope : View) (i : ℕ) → Node → List (ℕ × View)
child_scopes scope i (Var x) = []
child_scopes scope i False = []
child_scopes scope i True = []
child_scopes scope i Empty = []
child_scopes scope i (Number n) = []
child_scopes scope i (Wide n) = []
child_scopes scope i (Front a b) = (a, scope) ∷ (b, scope) ∷ []
child_scopes scope i (Pair a b) = (a, scope) ∷ (b, scope) ∷ []
child_scopes scope i (ListCase s e te n tn df dr) = (s, scope) ∷ (e, scope) ∷ (n, widen scope s) ∷ (df, view_of i) ∷ (dr, view_of i) ∷ []
child_scopes scope i (TruthCase s f tf g tg) = (s, scope) ∷ (f, scope) ∷ (g, scope) ∷ []
child_scopes scope i (Split s b) = (s, scope) ∷ (b, widen scope s) ∷ []
child_scopes scope i (Call c x y) = []
child_scopes scope i (Add n k) = (n, scope) ∷ []
child_scopes scope i (Each s c x d) = (s, scope) ∷ (d, slots 0 0) ∷ []

-- and the roots
unfoldable pub section_scopes : ℕ → List ℕ → List (ℕ × View)
section_scopes c [] = []
section_scopes c (r ∷ rs) = (r, slots 2 (16 + 3 * c)) ∷ section_scopes (suc c) rs

-- the view is of the scope
pub data Scoped (types starts : List ℕ) (stand : List Entry) : View → Scope → Type 0 where
  base : {v : View} {Γ : Scope} (slot : ℕ) → v.width ≡ length Γ → v.found ≡ From slot
      → ((x : ℕ) → x < length Γ → At types starts (slot + x) (get_or Γ x truths)) → Scoped types starts stand v Γ
  inner : {v w : View} (s : ℕ) (t a b : Ty) (Γ : Scope) → s < 200 → v.width ≡ length Γ + 2 → v.found ≡ Inside s → At types starts (41 + s) t
      → added t ≡ two a b → get_or stand s None ≡ Some w → Scoped types starts stand w Γ → Scoped types starts stand v (Γ ++ two a b)

-- node n stands in the scope
pub record StandsIn (types starts : List ℕ) (stand : List Entry) (n : ℕ) (Γ : Scope) : Type 0 where
  pub view : View
  pub there : get_or stand n None ≡ Some view
  pub scoped : Scoped types starts stand view Γ

-- by the view that the code found there
pub stands_as : {types starts : List ℕ} {stand : List Entry} {n : ℕ} {v : View} {Γ : Scope} → StandsIn types starts stand n Γ → get_or stand n None ≡ Some v
    → Scoped types starts stand v Γ
stands_as {v = v} k e = let t = k.there in let q : k.view ≡ v = cc in rw (← q) k.scoped

-- the bytes of a type that is there
pub data IsType (bs : List ℕ) : Option Ty → Type 0 where
  is_type : (t : Ty) → bs ≡ bytes_of t → IsType bs (some t)

-- WHAT A NUMBER TELLS

-- an element of two lists
at_append : {A : Type 0} (xs ys : List A) (x : ℕ) → get_elem? (xs ++ ys) x ≡ cond (ltb x (length xs)) (get_elem? xs x) (get_elem? ys (x - length xs))
at_append [] ys x = let q : x - 0 ≡ x = omega arith in rw (le-ltb x 0 (omega arith), q)
at_append (a ∷ xs) ys zero = rw (lt-ltb 0 (suc (length xs)) (omega arith))
at_append (a ∷ xs) ys (suc x) = let q : suc x - suc (length xs) ≡ x - length xs = omega arith in rw (q, leb-suc-suc (suc x) (length xs)) (at_append xs ys x)

at_none : {A : Type 0} (xs : List A) (x : ℕ) → length xs ≤ x → get_elem? xs x ≡ none
at_none [] x h = refl
at_none (a ∷ xs) zero h = absurd (omega arith)
at_none (a ∷ xs) (suc x) h = at_none xs x (omega arith)

at_some : {A : Type 0} (xs : List A) (x : ℕ) (d : A) → x < length xs → get_elem? xs x ≡ some (get_or xs x d)
at_some [] x d h = absurd (omega arith)
at_some (a ∷ xs) zero d h = refl
at_some (a ∷ xs) (suc x) d h = at_some xs x d (omega arith)

-- a type stands in a slot
at_inside : {types starts : List ℕ} (n : ℕ) {t : Ty} → At types starts n t → n < past_slots
at_inside {types} {starts} n {t} a = go (dec_lt n past_slots)
  where
    go : Dec (n < past_slots) → n < past_slots
    go (yes h) = h
    go (no h) = absurd (omega (arith, type_some t, ap length (part_past types starts n (omega arith) ∙ a.is)))

-- the scope around
pub record Around (types starts : List ℕ) (stand : List Entry) (v : View) (s : ℕ) (Γ : Scope) : Type 0 where
  pub type : Ty
  pub one : Ty
  pub other : Ty
  pub scope : Scope
  pub view : View
  pub below : s < 200
  pub is : Γ ≡ scope ++ two one other
  pub at : At types starts (41 + s) type
  pub adds : added type ≡ two one other
  pub there : get_or stand s None ≡ Some view
  pub outer : Scoped types starts stand view scope
  pub less : view.width < v.width

module _ {types starts : List ℕ} {stand : List Entry} where
  pub scope_width : {v : View} {Γ : Scope} → Scoped types starts stand v Γ → v.width ≡ length Γ
  scope_width (base slot e f h) = e
  scope_width (inner s t a b Γ l e f h d g r) = rw (length-append Γ (two a b)) (omega arith)

  pub scope_base : {v : View} {h : ℕ} {Γ : Scope} → Scoped types starts stand v Γ → v.found ≡ From h → (x : ℕ) → x < length Γ
      → At types starts (h + x) (get_or Γ x truths)
  scope_base {h = h} (base slot e f k) q x m = let z : slot ≡ h = cc in rw (← z) (k x m)
  scope_base (inner s t a b Γ l e f h d g r) q x m = absurd (cc)

  pub scope_around : {v : View} {h : ℕ} {Γ : Scope} → Scoped types starts stand v Γ → v.found ≡ Inside h → Around types starts stand v h Γ
  scope_around (base slot e f k) q = absurd (cc)
  scope_around {h = h} (inner {w = w} s t a b Γ l e f m d g r) q =
      let z : h ≡ s = cc in
      let k = scope_width r in
      record {
        type = t;
        one = a;
        other = b;
        scope = Γ;
        view = w;
        below = rw z l;
        is = refl;
        at = rw z m;
        adds = d;
        there = rw z g;
        outer = r;
        less = omega arith;
      }

-- CLIMBING: x is a variable of the scope, and of the one that was climbed to
pub record Climbed (types starts : List ℕ) (stand : List Entry) (v : View) (x : ℕ) (Γ : Scope) : Type 0 where
  pub scope : Scope
  pub here : Scoped types starts stand v scope
  pub within : x < length scope
  pub same : get_elem? Γ x ≡ get_elem? scope x

module _ (Σ : Scope) (p q : Ty) {Δ : Scope} (e : Δ ≡ Σ ++ two p q) (x : ℕ) where
  two_up : x < length Σ → get_elem? Δ x ≡ get_elem? Σ x
  two_up l = rw (e, at_append Σ (two p q) x, lt-ltb x (length Σ) l)

  two_part : {w : ℕ} → w ≡ length Σ → w ≤ x → x < length Δ → get_elem? Δ x ≡ some (cond (ltb w x) q p)
  two_part {w} l m n =
      let b : x < w + 2 = omega (arith, ap length e, length-append Σ (two p q)) in
      rw (e, at_append Σ (two p q) x, ← l, le-ltb x w m) (go (dec_lt w x) b)
    where
      go : Dec (w < x) → x < w + 2 → get_elem? (two p q) (x - w) ≡ some (cond (ltb w x) q p)
      go (yes y) n = let z : x - w ≡ 1 = omega arith in rw (z, lt-ltb w x y)
      go (no y) n = let z : x - w ≡ 0 = omega arith in rw (z, le-ltb w x (omega arith))

module _ {types starts : List ℕ} {stand : List Entry} {x : ℕ} {Γ : Scope} where
  pub climb_none : {v : View} → v.width ≤ x → Scoped types starts stand v Γ → get_elem? Γ x ≡ none
  climb_none h r = at_none Γ x (omega (arith, scope_width r))

  pub climb_start : {v : View} → x < v.width → Scoped types starts stand v Γ → Climbed types starts stand v x Γ
  climb_start h r = record { scope = Γ; here = r; within = omega (arith, scope_width r); same = refl }

  module _ {v : View} (k : Climbed types starts stand v x Γ) where
    module _ {h : ℕ} (f : v.found ≡ From h) where
      pub climb_slot : h + x < past_slots
      climb_slot = at_inside (h + x) (scope_base k.here f x k.within)

      pub climb_base : {b : List ℕ} → b ≡ part_at types starts (h + x) → IsType b (get_elem? Γ x)
      climb_base e =
          let a = scope_base k.here f x k.within in
          rw (k.same, at_some k.scope x truths k.within) (is_type (get_or k.scope x truths) (e ∙ a.is))

    module _ {s : ℕ} (f : v.found ≡ Inside s) where
      pub climb_around : Around types starts stand v s k.scope
      climb_around = scope_around k.here f

      module _ {w : View} (e : get_or stand s None ≡ Some w) where
        around_is : climb_around.view ≡ w
        around_is = let a = climb_around.there in cc

        outer_is : Scoped types starts stand w climb_around.scope
        outer_is = rw (← around_is) climb_around.outer

        pub climb_less : w.width < v.width
        climb_less = rw (← around_is) climb_around.less

        pub climb_up : x < w.width → Climbed types starts stand w x Γ
        climb_up m = let a = climb_around in let l : x < length a.scope = omega (arith, scope_width outer_is) in record {
          scope = a.scope;
          here = outer_is;
          within = l;
          same = k.same ∙ two_up a.scope a.one a.other a.is x l;
        }

        module _ (m : w.width ≤ x) {u : List ℕ} (d : u ≡ part_at types starts (41 + s)) where
          -- a type that adds no variables is no case's subject
          pub climb_no_parts : ((t p q : Ty) → u ≡ bytes_of t → Short t → added t ≡ two p q → ⊥) → ⊥
          climb_no_parts g = let a = climb_around in g a.type a.one a.other (d ∙ a.at.is) a.at.short a.adds

          pub climb_part : {v b : List ℕ} → ((t p q : Ty) → u ≡ bytes_of t → Short t → added t ≡ two p q → (v ≡ bytes_of p) × (b ≡ bytes_of q))
              → IsType (cond (ltb w.width x) b v) (get_elem? Γ x)
          climb_part {v} {b} g =
              let a = climb_around in let l : w.width ≡ length a.scope = scope_width outer_is in
              let y = g a.type a.one a.other (d ∙ a.at.is) a.at.short a.adds in
              rw (k.same, two_part a.scope a.one a.other a.is x l m k.within) (go a.one a.other (ltb w.width x) y.0 y.1)
            where
              go : (p q : Ty) (c : Bool) → v ≡ bytes_of p → b ≡ bytes_of q → IsType (cond c b v) (some (cond c q p))
              go p q true y z = is_type q z
              go p q false y z = is_type p y
