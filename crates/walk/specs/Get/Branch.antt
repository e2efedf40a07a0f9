-- A branch that was got, judged by its test and moved down.
use Rattle.std.proofs.Math.Path.{◌≡◌, refl, ap}
use Rattle.std.proofs.Common.{sym, ◌∙◌, le_refl}
use Rattle.std.specs.Prelude.{Bool, List, length, ℕ, ◌+◌, ◌-◌, ◌≤◌, ◌<◌}
use Rattle.std.proofs.Math.Bool.{true, false}
use native.Mathlib.Omega.{arith}
use Rattle.outcome.specs.Outcome.{is_refusal, done_as, len_of, start_of, steps_of, len_small, start_small, steps_small}
use Rattle.value.specs.Value.{Value}
use Rattle.value.specs.Tests.{passes}
use Rattle.shapes.specs.Parts.{by_kinds, passes_bytes}
use Rattle.rules.specs.Semantics
use Rattle.rules.specs.Numbers.{stack_start}
use Rattle.scopes.specs.declared.Scope.{Scope}
use Rattle.walk.specs.Decoded.{Done, Own, after, done_said, refused_decoded, decoded, decoded_done, decoded_refused}
use Rattle.walk.specs.Arena.Parts.{part, SameBelow, kept_refl, kept_below, kept_then, Copied}
use Rattle.walk.specs.Arena.{on_stack, below_within}
use Rattle.walk.specs.Arena.Bytes.{held_passes}
use Rattle.walk.specs.Represents.{finish, then_done, then_refused, give_yes, give_no, had, not_had}
use Rattle.walk.specs.Get.{enter, branch, run, GotAt, GetShows, Here, Asks, ToldOf}
use Rattle.walk.specs.Get.Requires.{Sized}

-- the value that the answer g tells of is in the arena
pub record Judgeable (a : List ℕ) (g : ℕ) : Type 0 where
  pub inside : start_of g + len_of g ≤ length a

-- whether a test says yes to it
abbrev pub says_of : (test g : ℕ) → List ℕ → Bool
says_of test g a = passes_bytes test (part a (start_of g) (len_of g))

-- the test 0 says yes to anything
pub says_any : {test : ℕ} (bs : List ℕ) → test ≡ 0 → passes_bytes test bs ≡ true
unfolding passes_bytes by_kinds
says_any bs e = rw e

-- as the code asks the test, of the bytes from its start to its end
pub says_part : (test g : ℕ) (b : List ℕ) {start len : ℕ} {p q : Bool} → start ≡ start_of g → len ≡ len_of g
    → p ≡ passes_bytes test (part b start (start + len - start)) → p ≡ q → says_of test g b ≡ q
says_part test g b {start} {len} e f is h =
    let z : start + len - start ≡ len = omega arith in
    rw (← e, ← f) (ap (λ (n : ℕ). passes_bytes test (part b start n)) (sym z) ∙ sym is ∙ h)

-- the answer g of a branch, judged: refused already; refused by the test; let stand where it is; or moved down to `top`
pub data Judged (test top g : ℕ) (b a : List ℕ) (r : ℕ) : Type 0 where
  passed_on : is_refusal g ≡ true → r ≡ g → a ≡ b → Judged test top g b a r
  fails : is_refusal g ≡ false → says_of test g b ≡ false → r ≡ 46 → a ≡ b → Judged test top g b a r
  stays : is_refusal g ≡ false → says_of test g b ≡ true → start_of g ≤ top → r ≡ g → a ≡ b → Judged test top g b a r
  moves : is_refusal g ≡ false → says_of test g b ≡ true → top < start_of g → r ≡ done_as top (len_of g) (steps_of g) → Copied (start_of g) top (len_of g) b a
      → Judged test top g b a r

module _ {b a s : List ℕ} {sc : Scope} {from top left test x l g : ℕ} (base : stack_start ≤ top) (down : top ≤ from)
    (h : GetShows b a s sc from from left g l (enter x)) where
  branch_refused : is_refusal g ≡ true → GetShows b a s sc from top left g l (branch test x)
  unfolding run Semantics.tested
  branch_refused n = let e = decoded_refused _ _ g n in
      record { kept = kept_below h.kept top down; told = λ sh es μ w. then_refused _ _ (not_had (h.told sh es μ w) e).1 e }

  module _ (n : is_refusal g ≡ false) where
    branch_46 : {r : ℕ} → decoded a l r ≡ Own 46 → says_of test g a ≡ false → GetShows b a s sc from top left r l (branch test x)
    unfolding run Semantics.tested passes after
    branch_46 e f = record {
      kept = kept_below h.kept top down;
      told = λ sh es μ w.
          let d = had (h.told sh es μ w) (decoded_done _ _ g n) in
          let q = held_passes d.that.held test in
          then_done _ _ {q = Own 46} d.is (give_no _ _ _ (λ t. let z : true ≡ false = cc in let y : ◌≡◌ {A = ℕ} 0 1 = cc in omega arith) refl) e;
    }

    -- it says yes: the value stands where it was, or was moved down to the top
    branch_yes : {a₂ : List ℕ} {start r : ℕ} → says_of test g a ≡ true → SameBelow top a a₂ → decoded a₂ l r ≡ Done start (len_of g) (steps_of g)
        → ((v : Value) → GotAt a from (start_of g) (len_of g) v → GotAt a₂ top start (len_of g) v) → GetShows b a₂ s sc from top left r l (branch test x)
    unfolding run Semantics.tested passes after
    branch_yes {start = start} f k e stands = record {
      kept = kept_then (kept_below h.kept top down) k (le_refl top);
      told = λ sh es μ w.
          let d = had (h.told sh es μ w) (decoded_done _ _ g n) in
          let z : steps_of g + 0 ≡ steps_of g = omega arith in
          then_done _ _ {q = Done start (len_of g) 0} d.is
          (give_yes _ _ _ (sym (held_passes d.that.held test) ∙ f) (λ _. finish refl (stands _ d.that)))
          (e ∙ ap (Done start (len_of g)) (sym z));
    }

stands_lower : {a : List ℕ} {from top start len : ℕ} (v : Value) → start ≤ top → GotAt a from start len v → GotAt a top start len v
stands_lower {top = top} {len = len} v low s =
    let w = s.held in
    record { low = low; held = record { place = below_within (top + len) (omega arith) w.place; long = w.long; bytes = w.bytes; readable = w.readable } }

pub stands_moved : {a a₂ : List ℕ} {from top start len : ℕ} (v : Value) → stack_start ≤ top → Copied start top len a a₂ → GotAt a from start len v
    → GotAt a₂ top top len v
stands_moved {top = top} v base m s =
    let w = s.held in
    record { low = le_refl top; held = record { place = on_stack base (le_refl _); long = w.long; bytes = m.bytes ∙ w.bytes; readable = w.readable } }

-- what `judge` asks
pub judgeable : {h : Here} {a : List ℕ} {x g : ℕ} → Asks h x → ToldOf h a g x → Sized h.top h.left h.levels g → is_refusal g ≡ false → Judgeable a g
judgeable {g = g} w t s n =
    let z = s.at n in
    record { inside = omega (arith, t.kept.long, w.long, w.room) }

-- and what it gives
pub judge_gives : {b a a₂ s : List ℕ} {sc : Scope} {from top left test x l g r : ℕ} → stack_start ≤ top → top ≤ from → GetShows b a s sc from from left g l
    (enter x)
    → Judged test top g a a₂ r
    → GetShows b a₂ s sc from top left r l (branch test x)
judge_gives base down h (passed_on n e f) = rw (e, f) (branch_refused base down h n)
judge_gives base down h (fails n p e f) = rw f (branch_46 base down h n (ap (decoded _ _) e ∙ refused_decoded _ _ (omega arith) (omega arith)) p)
judge_gives {g = g} base down h (stays n p low e f) = rw (e, f) (branch_yes base down h n p (kept_refl _ _) (decoded_done _ _ g n) (λ v. stands_lower v low))
judge_gives {g = g} base down h (moves n p high e m) =
    branch_yes base down h n p m.kept (ap (decoded _ _) e ∙ done_said _ _ _ _ _ (omega (arith, start_small g)) (len_small g) (steps_small g))
    (λ v. stands_moved v base m)

-- by another test
pub judged_as : {test test' top g r : ℕ} {b a : List ℕ} → test ≡ test' → Judged test top g b a r → Judged test' top g b a r
judged_as e j = rw e at j
