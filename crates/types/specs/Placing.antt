-- Laws of scopes placed: what the code does, one node after another, and that each node then stands in the scope that the definition gives it.
use Rattle.std.specs.Prelude.{◌≡◌, ◌⊎◌, Bool, cond, List, [], ◌∷◌, ◌++◌, eqb, ltb, set, drop, replicate}
use Rattle.std.proofs.Math.Path.{refl, ap}
use Rattle.std.proofs.Common.{sym, ◌∙◌, inl, inr, append_assoc, append-nil, get_or-set_same, drop-cons, drop_of_length-le}
use Rattle.std.proofs.Math.Bool.{true, false}
use Rattle.std.proofs.Math.Option.{Option, none, some}
use Prim.Native.Nat.{ℕ, suc, ◌+◌, ◌*◌, ◌≤◌, ◌<◌}
use native.Mathlib.Omega.{arith}
use Rattle.std.proofs.Math.Decide.{ℕ_discrete}
use Rattle.std.proofs.Math.Seq.{get_or-set_other}
use Rattle.std.proofs.Math.ListN.{length, get_or, length-set}
use Rattle.std.proofs.lemmas.List.{get_or-replicate}
use borrow.Author.Tests.{eq-eqb, ne_eqb, lt-ltb, le-ltb}
use Rattle.node.specs.declared.Node.{Node}
use Rattle.node.specs.declared.Node.TheVariants.{Var, False, True, Empty, Number, Front, Pair, ListCase, TruthCase, Split, Call, Add, Each, Wide}
use Rattle.node.specs.Kinds.{children}
use Rattle.sheet.specs.Table.{section_at}
use Rattle.typing.specs.Fits.{Scope}
use Rattle.typing.specs.Check.{apart, found}
use Rattle.typing.proofs.CheckLaws.{either}
use Rattle.types.specs.Uses.{Roots}
use Rattle.std.specs.Prelude.{None, Some}
use Rattle.std.specs.Option.{is_none, is_some}
use Rattle.std.specs.Prelude.{not}
use Rattle.types.specs.declared.scopes.View.{View}
use Rattle.types.specs.Scopes.{Entry, slots, place_of, place_all, Put, PutAll, child_scopes, section_scopes, Scoped, base, inner}

-- WHAT THE CODE DOES

module _ (a : List Entry) (n : ℕ) (v : View) where
  pub place_past : 200 ≤ n → Put a n v a
  unfolding place_of
  place_past h = record { is = rw (le-ltb n 200 h) }

  module _ (h : n < 200) {r : Bool} (e : is_some (get_or a n None) ≡ not r) where
    pub place_kept : r ≡ false → Put a n v a
    unfolding place_of
    place_kept f = record { is = rw (lt-ltb n 200 h, e, f) }

    pub place_set : r ≡ true → Put a n v (set a n (Some v))
    unfolding place_of
    place_set t = record { is = rw (lt-ltb n 200 h, e, t) }

pub put_none : (a : List Entry) → PutAll a [] a
unfolding place_all
put_none a = record { is = refl }

module _ {a b : List Entry} {n : ℕ} {s : View} (p : Put a n s b) where
  pub put_more : {c : List Entry} {ps : List (ℕ × View)} → PutAll b ps c → PutAll a ((n, s) ∷ ps) c
  unfolding place_all
  put_more {ps} q = record { is = q.is ∙ ap (λ z. place_all z ps) p.is }

  pub put_1 : PutAll a ((n, s) ∷ []) b
  put_1 = put_more (put_none b)

  -- the scope as it was computed
  pub as_scope : {t : View} → s ≡ t → Put a n t b
  as_scope e = record { is = p.is ∙ ap (place_of a n) e }

-- two, and then more
pub put_two : {a b c : List Entry} {x y : ℕ × View} {ps : List (ℕ × View)} → PutAll a (x ∷ y ∷ []) b → PutAll b ps c → PutAll a (x ∷ y ∷ ps) c
unfolding place_all
put_two {ps} p q = record { is = q.is ∙ ap (λ z. place_all z ps) p.is }

pub as_scopes : {a b : List Entry} {n m : ℕ} {s t : View} → PutAll a ((n, s) ∷ (m, s) ∷ []) b → s ≡ t → PutAll a ((n, t) ∷ (m, t) ∷ []) b
as_scopes {a} {n} {m} p e = record { is = p.is ∙ ap (λ z. place_all a ((n, z) ∷ (m, z) ∷ [])) e }

-- the node as it was read
pub as_kind : {a b : List Entry} (scope : View) (i : ℕ) {n m : Node} → n ≡ m → PutAll a (child_scopes scope i m) b → PutAll a (child_scopes scope i n) b
as_kind {a} scope i e q = record { is = q.is ∙ ap (λ z. place_all a (child_scopes scope i z)) (sym e) }

pub childless_scopes : (a : List Entry) (scope : View) (i : ℕ) (n : Node) → children n ≡ [] → PutAll a (child_scopes scope i n) a
unfolding child_scopes children
childless_scopes a scope i (Var x) e = put_none a
childless_scopes a scope i False e = put_none a
childless_scopes a scope i True e = put_none a
childless_scopes a scope i Empty e = put_none a
childless_scopes a scope i (Number n) e = put_none a
childless_scopes a scope i (Wide n) e = put_none a
childless_scopes a scope i (Front x y) e = apart (cc)
childless_scopes a scope i (Pair x y) e = apart (cc)
childless_scopes a scope i (ListCase s em te n tn df dr) e = apart (cc)
childless_scopes a scope i (TruthCase s f tf g tg) e = apart (cc)
childless_scopes a scope i (Split s b) e = apart (cc)
childless_scopes a scope i (Call c x y) e = put_none a
childless_scopes a scope i (Add n k) e = apart (cc)
childless_scopes a scope i (Each s c x d) e = apart (cc)

-- the roots of the sections from c on: what is still to be done for the array g
pub record Sections (a : List Entry) (c : ℕ) (rs : List ℕ) (g : List Entry) : Type 0 where
  pub is : place_all a (section_scopes c (drop c rs)) ≡ g

module _ {sheet rs : List ℕ} {sections : ℕ} (w : Roots sheet sections rs) where
  pub sections_all : (a : List Entry) → Sections a 0 rs (place_all a (section_scopes 0 rs))
  sections_all a = record { is = refl }

  pub sections_next : {a b g : List Entry} {c r : ℕ} → c < sections → r ≡ section_at sheet c → Sections a c rs g → Put a r (slots 2 (16 + 3 * c)) b
      → Sections b (c + 1) rs g
  unfolding place_all section_scopes
  sections_next {a} {b} {g} {c} {r} h e k p =
      let l : c < length rs = omega (arith, w.many) in let z : c + 1 ≡ suc c = omega arith in
      let y : place_all (place_of a (get_or rs c 0) (slots 2 (16 + 3 * c))) (section_scopes (suc c) (drop (suc c) rs)) ≡ g = rw (drop-cons rs c 0 l) at k.is in
      record { is = rw (p.is, z, e ∙ w.each c l) y }

  pub sections_done : {a b : List Entry} {c : ℕ} → sections ≤ c → Sections b c rs (place_all a (section_scopes 0 rs)) → PutAll a (section_scopes 0 rs) b
  unfolding place_all section_scopes
  sections_done {c} h k = let l : length rs ≤ c = omega (arith, w.many) in record { is = rw (drop_of_length-le rs l) at k.is }

-- WHERE NODES STAND

-- a node's entry, and the scope that the definition finds for it
pub data Both (types starts : List ℕ) (stand : List Entry) : Entry → Option Scope → Type 0 where
  nowhere : {e : Entry} → e ≡ None → Both types starts stand e none
  stands : {e : Entry} {v : View} {Γ : Scope} → e ≡ Some v → Scoped types starts stand v Γ → Both types starts stand e (some Γ)

pub record Standing (types starts : List ℕ) (stand : List Entry) (l : List (ℕ × Scope)) : Type 0 where
  pub long : length stand ≡ 200
  pub each : (m : ℕ) → m < 200 → Both types starts stand (get_or stand m None) (found m l)

pub standing_none : (types starts : List ℕ) → Standing types starts (replicate 200 None) []
unfolding found
standing_none types starts = record { long = refl; each = λ m h. nowhere (get_or-replicate 200 m None None h) }

-- an entry is empty, or a scope
pub data Filled (e : Entry) : Type 0 where
  empty : e ≡ None → Filled e
  filled : (v : View) → e ≡ Some v → Filled e

pub entry_is : (e : Entry) → Filled e
entry_is None = empty refl
entry_is (Some v) = filled v refl

module _ (a : List Entry) (n : ℕ) (v : View) where
  pub place_long : length (place_of a n v) ≡ length a
  unfolding place_of
  place_long = go (ltb n 200) (is_none (get_or a n None))
    where
      go : (b c : Bool) → length (cond b (cond c (set a n (Some v)) a) a) ≡ length a
      go true true = length-set a n (Some v)
      go true false = refl
      go false c = refl

  -- what stands there stays there
  pub place_keeps : (m : ℕ) {w : View} → get_or a m None ≡ Some w → get_or (place_of a n v) m None ≡ Some w
  unfolding place_of
  place_keeps m {w} h = go (ltb n 200) (entry_is (get_or a n None))
    where
      go : (b : Bool) → Filled (get_or a n None)
          → get_or (cond b (cond (is_none (get_or a n None)) (set a n (Some v)) a) a) m None ≡ Some w
      go false c = h
      go true (filled u f) = rw f h
      go true (empty z) = rw z (get_or-set_other a n m (Some v) None (λ e. let q = rw e at h in absurd (cc)) ∙ h)

  pub place_there : n < 200 → length a ≡ 200 → get_or a n None ≡ None → get_or (place_of a n v) n None ≡ Some v
  unfolding place_of
  place_there h l e = rw (lt-ltb n 200 h, e) (get_or-set_same a n (Some v) None (omega arith))

  pub place_other : (m : ℕ) → (m ≡ n → ⊥) → get_or (place_of a n v) m None ≡ get_or a m None
  unfolding place_of
  place_other m h = go (ltb n 200) (is_none (get_or a n None))
    where
      go : (b c : Bool) → get_or (cond b (cond c (set a n (Some v)) a) a) m None ≡ get_or a m None
      go true true = get_or-set_other a n m (Some v) None h
      go true false = refl
      go false c = refl

module _ {types starts : List ℕ} {a : List Entry} (n : ℕ) (v : View) where
  -- a scope stays one
  pub later : {w : View} {Γ : Scope} → Scoped types starts a w Γ → Scoped types starts (place_of a n v) w Γ
  later (base slot e f h) = base slot e f h
  later (inner s t p q Γ l e f h d g r) = inner s t p q Γ l e f h d (place_keeps a n v s g) (later r)

found_left : {A : Type 0} (m : ℕ) (xs ys : List (ℕ × A)) {v : A} → found m xs ≡ some v → found m (xs ++ ys) ≡ some v
unfolding found
found_left m [] ys e = apart (cc)
found_left m (x ∷ xs) ys {v} e = go (either (eqb m x.0)) (λ q. found_left m xs ys q)
  where
    go : (eqb m x.0 ≡ true) ⊎ (eqb m x.0 ≡ false) → (found m xs ≡ some v → found m (xs ++ ys) ≡ some v)
        → cond (eqb m x.0) (some x.1) (found m (xs ++ ys)) ≡ some v
    go (inl t) k = rw t (rw t at e)
    go (inr f) k = rw f (k (rw f at e))

found_right : {A : Type 0} (m : ℕ) (xs ys : List (ℕ × A)) → found m xs ≡ none → found m (xs ++ ys) ≡ found m ys
unfolding found
found_right m [] ys e = refl
found_right m (x ∷ xs) ys e = go (either (eqb m x.0)) (λ q. found_right m xs ys q)
  where
    go : (eqb m x.0 ≡ true) ⊎ (eqb m x.0 ≡ false) → (found m xs ≡ none → found m (xs ++ ys) ≡ found m ys)
        → cond (eqb m x.0) (some x.1) (found m (xs ++ ys)) ≡ found m ys
    go (inl t) k = let z = rw t at e in apart (cc)
    go (inr f) k = rw f (k (rw f at e))

module _ {types starts : List ℕ} {a : List Entry} {l : List (ℕ × Scope)} (w : Standing types starts a l) {n : ℕ} {v : View} {Γ : Scope} (h : n < 200)
    (r : Scoped types starts a v Γ) where
  place_one : Standing types starts (place_of a n v) (l ++ ((n, Γ) ∷ []))
  unfolding found
  place_one = record {
    long = place_long a n v ∙ w.long;
    each = λ m b. go m refl refl (w.each m b);
  }
    where
      last : (m : ℕ) → get_or a m None ≡ None → Dec (m ≡ n)
          → Both types starts (place_of a n v) (get_or (place_of a n v) m None) (cond (eqb m n) (some Γ) none)
      last m z (yes e) = rw (eq-eqb m n e) (stands {e = get_or (place_of a n v) m None} {v = v} (rw e (place_there a n v h w.long (rw e at z))) (later n v r))
      last m z (no e) = rw (ne_eqb m n e) (nowhere (place_other a n v m e ∙ z))

      go : (m : ℕ) {c : Entry} {o : Option Scope} → get_or a m None ≡ c → found m l ≡ o → Both types starts a c o
          → Both types starts (place_of a n v) (get_or (place_of a n v) m None) (found m (l ++ ((n, Γ) ∷ [])))
      go m x f (nowhere z) = rw (found_right m l ((n, Γ) ∷ []) f) (last m (x ∙ z) (ℕ_discrete m n))
      go m x f (stands z q) = rw (found_left m l ((n, Γ) ∷ []) f) (stands (place_keeps a n v m (x ∙ z)) (later n v q))

-- one node after another
pub data Steps (types starts : List ℕ) : (a : List Entry) → List (ℕ × View) → List (ℕ × Scope) → Type 0 where
  ends : {a : List Entry} → Steps types starts a [] []
  more : {a : List Entry} {n : ℕ} {v : View} {Γ : Scope} {ps : List (ℕ × View)} {qs : List (ℕ × Scope)} → n < 200 → Scoped types starts a v Γ
      → Steps types starts (place_of a n v) ps qs → Steps types starts a ((n, v) ∷ ps) ((n, Γ) ∷ qs)

pub place_steps : {types starts : List ℕ} {a : List Entry} {ps : List (ℕ × View)} {qs : List (ℕ × Scope)} (l : List (ℕ × Scope)) → Standing types starts a l
    → Steps types starts a ps qs → Standing types starts (place_all a ps) (l ++ qs)
unfolding place_all
place_steps l w ends = rw (append-nil l) w
place_steps l w (more {n = n} {Γ = Γ} {qs = qs} h r k) = rw (append_assoc l ((n, Γ) ∷ []) qs) at (place_steps (l ++ ((n, Γ) ∷ [])) (place_one w h r) k)
