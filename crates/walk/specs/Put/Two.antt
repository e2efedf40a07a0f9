-- Put into two nodes one after the other, and so into a front and a pair: what each return shows, and what the calls ask.
use Rattle.std.specs.Prelude.{◌≡◌, refl, Bool, true, false, List, ℕ, suc, ◌+◌, ◌-◌, ◌*◌, ◌≤◌, get_or}
use Rattle.std.proofs.Common.{sym, ◌∙◌, le_refl, arith}
use Rattle.std.proofs.Math.Path.{ap, ap₂}
use Rattle.std.proofs.lemmas.Bool.{false≢true}
use Rattle.outcome.specs.Outcome.{is_refusal, later_as, steps_of}
use Rattle.value.specs.Value.{Value, vfalse, list, pair as a_pair_of, cons, encode}
use Rattle.value.specs.Laws.{Readable}
use Rattle.value.proofs.Laws.{readable_front, readable_pair}
use Rattle.shapes.specs.Parts.{shape_of, first_part, second_part}
use Rattle.shapes.proofs.PartsLaws.{shape, shape_whole, first_of_list, rest_of_list, first_of_pair, second_of_pair}
use Rattle.shapes.specs.declared.Shape.{Shape}
use Rattle.shapes.specs.declared.Shape.TheVariants.{False, True, Empty, Front, Number, Pair, Wide, Malformed}
use Rattle.sheet.specs.Sheet.{Sheet}
use Rattle.rules.specs.Semantics
use Rattle.rules.specs.Semantics.{Env}
use Rattle.rules.specs.Explain.{wanted, Cells, both, put}
use Rattle.rules.specs.Numbers.{chain_start}
use Rattle.decisions.specs.declared.Apart.{Apart}
use Rattle.decisions.specs.declared.Apart.TheVariants.{At, Other}
use Rattle.decisions.specs.Decisions.{where_so, apart_of}
use Rattle.scopes.specs.declared.Scope.{Scope}
use Rattle.walk.specs.Decoded.{Own, after, later_said, refused_decoded, decoded, decoded_done, decoded_refused}
use Rattle.walk.specs.declared.at.At.{At as Where}
use Rattle.walk.specs.Represents.{then_done, then_refused, answer_by, give_none, had, not_had}
use Rattle.walk.specs.Arena.Cells.{Shown}
use Rattle.walk.specs.Arena.Frames.{frame_refl, frame_then}
use Rattle.walk.specs.Arena.Shapes.{front_of, no_front, pair_of_lem, no_pair}
use Rattle.walk.specs.Get.Two.{Two, a_front, a_two, two_known}
use Rattle.walk.specs.Put.{enter, own, pair, run, Ready, PutShows, Few, SomeView, PutHere, put_further, PutAsked, PutAsks, PutTold, PutTells}
use Rattle.walk.specs.Put.Requires.{ready_for, given_after, given_shown}

-- ONE AFTER THE OTHER

-- where the second put is made
abbrev pub after_here : PutHere → (a slots : List ℕ) → ℕ → PutHere
after_here h a slots r = put_further h a slots h.top (h.left - steps_of r)

module _ {h : PutHere} {P : Value → Type 0} {x y : ℕ} {u₀ : Value} (w : PutAsks h P (pair x y u₀)) where
  pub both_asks₁ : PutAsks h P (enter x)
  both_asks₁ = ready_for w w.known.0 w.given refl (le_refl _) (le_refl _) (le_refl _) w.room

  module _ {a₁ slots₁ : List ℕ} {r₁ : ℕ} (g₁ : PutTold h P a₁ slots₁ r₁ (enter x)) where
    pub both_refused : is_refusal r₁ ≡ true → (u : Value) → PutTold h P a₁ slots₁ r₁ (pair x y u)
    unfolding run Semantics.both
    both_refused e u = let d = decoded_refused _ _ r₁ e in record {
      frame = g₁.frame;
      long = g₁.long;
      told = λ w. then_refused _ _
          (not_had (g₁.told w) d).1 d;
    }

    module _ (e₁ : is_refusal r₁ ≡ false) where
      pub both_asks₂ : {other : List ℕ} → SomeView other → PutAsks (after_here h a₁ slots₁ r₁) (Shown other) (enter y)
      both_asks₂ q =
          ready_for w w.known.1 (given_after w.given g₁.frame (had (g₁.told w.given) (decoded_done _ _ r₁ e₁)).that.written q.shown)
          g₁.frame.long
          (omega arith) (le_refl _) (le_refl _) w.room

      module _ {Q : Value → Type 0} {a₂ slots₂ : List ℕ} {r₂ r : ℕ} (few₁ : Few h.left r₁) (few₂ : Few (h.left - steps_of r₁) r₂)
          (g₂ : PutTold (after_here h a₁ slots₁ r₁) Q a₂ slots₂ r₂ (enter y)) where
        later_is : r ≡ later_as r₂ (steps_of r₁) → decoded a₂ h.levels r ≡ after (steps_of r₁) (decoded a₂ h.levels r₂)
        later_is e = ap (decoded _ _) e ∙ later_said _ _ r₂ (steps_of r₁) (λ n. let y = few₂.at n in let x = few₁.at e₁ in omega (arith, w.few))

        pub both_told : r ≡ later_as r₂ (steps_of r₁) → (u : Value) → Q u → PutTold h P a₂ slots₂ r (pair x y u)
        unfolding run Semantics.both
        both_told e u q = record {
          frame = frame_then g₁.frame g₂.frame w.base (le_refl _);
          long = g₂.long ∙ g₁.long;
          told = λ w.
              let d = had (g₁.told w) (decoded_done _ _ r₁ e₁) in
              then_done _ _ d.is (g₂.told (given_after w g₁.frame d.that.written q)) (later_is e);
        }

-- the same at a place and for nodes by other names
module _ {at at' : Where} {x x' y y' : ℕ} (e : at ≡ at') (f : x ≡ x') (g : y ≡ y') where
  pub pair_ready : {s table a slots cells : List ℕ} {P : Value → Type 0} {sc : Scope} {u : Value}
      → Ready s table a slots P sc cells at'.cells at'.cells at'.top at'.levels at'.left (pair x' y' u)
      → Ready s table a slots P sc cells at.cells at.cells at.top at.levels at.left (pair x y u)
  pair_ready w = rw (e, f, g) w

  pub pair_told : {b a slots slots' s cells : List ℕ} {P Q : Value → Type 0} {sc : Scope} {r : ℕ}
      → ((u : Value) → Q u → PutShows b a slots slots' s P sc cells at.cells at.cells at.top at.left r at.levels (pair x y u))
      → (u : Value) → Q u → PutShows b a slots slots' s P sc cells at'.cells at'.cells at'.top at'.left r at'.levels (pair x' y' u)
  pair_told w = rw (e, f, g) at w

-- A VIEW TAKEN APART

pub shown_shape : {view : List ℕ} {v : Value} {q : Shape} → Shown view v → q ≡ shape_of view → q ≡ shape v
shown_shape h e = e ∙ ap shape_of h.bytes ∙ shape_whole h.readable

unfoldable there : Apart → Bool
there (At mid) = true
there Other = false

front_apart : (q : Shape) {mid : ℕ} → At mid ≡ apart_of 0x15 q → Front mid ≡ q
unfolding apart_of where_so there
front_apart (Front m) e = ap (λ (x : Apart). elim x [ At i ↦ Front i | Other ↦ False ]) e
front_apart (Pair m) e = absurd (false≢true (sym (ap there e)))
front_apart False e = absurd (false≢true (sym (ap there e)))
front_apart True e = absurd (false≢true (sym (ap there e)))
front_apart Empty e = absurd (false≢true (sym (ap there e)))
front_apart (Number n) e = absurd (false≢true (sym (ap there e)))
front_apart Wide e = absurd (false≢true (sym (ap there e)))
front_apart Malformed e = absurd (false≢true (sym (ap there e)))

pair_apart : (q : Shape) {mid : ℕ} → At mid ≡ apart_of 0x16 q → Pair mid ≡ q
unfolding apart_of where_so there
pair_apart (Pair m) e = ap (λ (x : Apart). elim x [ At i ↦ Pair i | Other ↦ False ]) e
pair_apart (Front m) e = absurd (false≢true (sym (ap there e)))
pair_apart False e = absurd (false≢true (sym (ap there e)))
pair_apart True e = absurd (false≢true (sym (ap there e)))
pair_apart Empty e = absurd (false≢true (sym (ap there e)))
pair_apart (Number n) e = absurd (false≢true (sym (ap there e)))
pair_apart Wide e = absurd (false≢true (sym (ap there e)))
pair_apart Malformed e = absurd (false≢true (sym (ap there e)))

-- the two parts of a view of v, and the rule for them
record ViewParts (x k : ℕ) (s : List ℕ) (n : ℕ) (left right : List ℕ) (v : Value) : Type 0 where
  f : Value
  r : Value
  one : Shown left f
  two : Shown right r
  rule : (l : ℕ) (sh : Sheet) (c : ℕ) (μ : Env) (σ : List ℕ) (W : Cells)
      → run l sh c (own x k s n) μ σ v W ≡ both (put l sh) μ σ W (get_or s (n + 1) 0) f (get_or s (n + 2) 0) r

module _ {x n mid : ℕ} {s view left right : List ℕ} {q : Shape} {v : Value} (e : q ≡ shape_of view) (e₁ : left ≡ first_part view mid)
    (e₂ : right ≡ second_part view mid) (h : Shown view v) where
  front_parts : Front mid ≡ q → ViewParts x 0x15 s n left right v
  unfolding run Semantics.put_node wanted
  front_parts i =
      let o = front_of v (i ∙ shown_shape h e) in
      let z : view ≡ encode (list (cons o.first o.rest)) = h.bytes ∙ ap encode o.whole in
      let r : Readable (list (cons o.first o.rest)) = rw o.whole at h.readable in
      record {
        f = o.first;
        r = list o.rest;
        one = record { bytes = e₁ ∙ ap₂ first_part z o.at ∙ first_of_list o.first o.rest; readable = (readable_front r).0 };
        two = record { bytes = e₂ ∙ ap₂ second_part z o.at ∙ rest_of_list o.first o.rest; readable = (readable_front r).1 };
        rule = λ l sh c μ σ W. rw o.seen;
      }

  pair_parts : Pair mid ≡ q → ViewParts x 0x16 s n left right v
  unfolding run Semantics.put_node wanted
  pair_parts i =
      let o = pair_of_lem v (i ∙ shown_shape h e) in
      let z : view ≡ encode (a_pair_of o.first o.second) = h.bytes ∙ ap encode o.whole in
      let r : Readable (a_pair_of o.first o.second) = rw o.whole at h.readable in
      record {
        f = o.first;
        r = o.second;
        one = record { bytes = e₁ ∙ ap₂ first_part z o.at ∙ first_of_pair o.first o.second; readable = (readable_pair r).0 };
        two = record { bytes = e₂ ∙ ap₂ second_part z o.at ∙ second_of_pair o.first o.second; readable = (readable_pair r).1 };
        rule = λ l sh c μ σ W. rw o.seen;
      }

-- AT A STAGE: the view was taken apart
pub record TakenApart (h : PutHere) (view : List ℕ) (x k n mid : ℕ) (left right : List ℕ) : Type 0 where
  pub asked : PutAsked h (Shown view) x k n
  pub two : Two k
  pub apart : At mid ≡ apart_of k (shape_of view)
  pub first : left ≡ first_part view mid
  pub second : right ≡ second_part view mid

module _ {h : PutHere} {view left right : List ℕ} {x k n mid : ℕ} (w : TakenApart h view x k n mid left right) where
  parts : {v : Value} → Shown view v → ViewParts x k h.sheet n left right v
  parts {v} s = go w.two
    where
      go : Two k → ViewParts x k h.sheet n left right v
      go (a_front e) = rw e (front_parts refl w.first w.second s (front_apart _ (rw e at w.apart)))
      go (a_two e) = rw e (pair_parts refl w.first w.second s (pair_apart _ (rw e at w.apart)))

  -- what is asked of its two parts, one after the other
  pub two_asks : PutAsks h (Shown left) (pair (get_or h.sheet (n + 1) 0) (get_or h.sheet (n + 2) 0) vfalse)
  two_asks =
      let z : h.top + 513 * suc h.levels ≤ chain_start = w.asked.room in
      ready_for w.asked (two_known h.sheet w.asked.sheet.sh n w.two w.asked.known.1)
      (given_shown w.asked.given (parts w.asked.given.shown).one) refl (omega arith) (omega arith) (le_refl _)
      (omega arith)

  pub right_view : SomeView right
  right_view = record { value = _; shown = (parts w.asked.given.shown).two }

  pub two_told : {a slots : List ℕ} {r : ℕ}
      → ((u : Value) → Shown right u → PutTold h (Shown left) a slots r (pair (get_or h.sheet (n + 1) 0) (get_or h.sheet (n + 2) 0) u))
      → PutTells h (Shown view) a slots r x k n
  unfolding run
  two_told g =
      let g₀ = g _ (parts w.asked.given.shown).two in
      record {
        frame = g₀.frame;
        long = g₀.long;
        told = λ {sh} {μ} {σ} {v} {W} m.
            let o = parts m.shown in
            answer_by ((g _ o.two).told (given_shown m o.one)) (o.rule h.levels sh h.count μ σ W);
      }

-- it could not be
pub two_51 : {h : PutHere} {view : List ℕ} {x k n r : ℕ} → PutAsked h (Shown view) x k n → Two k → Other ≡ apart_of k (shape_of view) → r ≡ 51
    → PutTells h (Shown view) h.arena h.slots r x k n
unfolding run Semantics.put_node apart_of where_so there
two_51 {h} {view} {x} {k} {n} {r} w two o is = go two
  where
    own_51 : decoded h.arena h.levels r ≡ Own 51
    own_51 = ap (decoded _ _) is ∙ refused_decoded _ _ (omega arith) (omega arith)

    whole : {j mid : ℕ} {v : Value} → k ≡ j → Shown view v → At mid ≡ apart_of j (shape v) → ⊥
    whole {j} e m i =
        false≢true (ap there (o ∙ ap (λ (y : ℕ). apart_of y (shape_of view)) e ∙ ap (apart_of j) (shown_shape m refl) ∙ sym i))

    go : Two k → PutTells h (Shown view) h.arena h.slots r x k n
    go (a_front e) = rw e (record {
      frame = frame_refl _ _;
      long = refl;
      told = λ {v = v} m. give_none 51 _ (no_front v λ mid i. whole e m.shown (ap (apart_of 0x15) i)) own_51;
    })
    go (a_two e) = rw e (record {
      frame = frame_refl _ _;
      long = refl;
      told = λ {v = v} m. give_none 51 _ (no_pair v λ mid i. whole e m.shown (ap (apart_of 0x16) i)) own_51;
    })
