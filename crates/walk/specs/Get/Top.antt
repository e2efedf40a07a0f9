-- A value brought to the top of the stack: what the walk then shows.
use Rattle.std.specs.Prelude.{◌≡◌, refl, Bool, true, false, List, ℕ, ◌+◌, ◌≤◌, ◌<◌, length}
use Rattle.std.proofs.Common.{ap, ◌∙◌, le_refl, arith}
use Rattle.outcome.specs.Outcome.{is_refusal, done_as, len_of, start_of, steps_of, len_small, steps_small}
use Rattle.rules.specs.Numbers.{scratch_size}
use Rattle.walk.specs.Decoded.{Done, done_said, decoded, decoded_done}
use Rattle.walk.specs.declared.at.At.{At}
use Rattle.walk.specs.Arena.Parts.{kept_then, Copied}
use Rattle.walk.specs.Arena.{on_stack}
use Rattle.walk.specs.Represents.{as_done, had}
use Rattle.walk.specs.Get.{Here, Asks, ToldOf}
use Rattle.walk.specs.Get.Requires.{Sized}

-- the value that the answer g tells of, and the place at `top` for it
pub record Movable (a : List ℕ) (top g : ℕ) : Type 0 where
  pub inside : start_of g + len_of g ≤ length a
  pub room : top + len_of g ≤ length a
  pub low : top < scratch_size

-- it was brought there, and r tells so
pub record Moved (top g : ℕ) (b a : List ℕ) (r : ℕ) : Type 0 where
  pub is : r ≡ done_as top (len_of g) (steps_of g)
  pub low : top < scratch_size
  pub copied : Copied (start_of g) top (len_of g) b a

pub record Brought (top g : ℕ) (b a : List ℕ) (r : ℕ) : Type 0 where
  pub refused : is_refusal g ≡ true → (r ≡ g) × (a ≡ b)
  pub moved : is_refusal g ≡ false → Moved top g b a r

-- a value that stands at the top, and its sizes
pub record AtTop (h : Here) (a : List ℕ) (r x : ℕ) : Type 0 where
  pub gives : ToldOf h a r x
  pub sized : Sized h.top h.left h.levels r
  pub there : is_refusal r ≡ false → start_of r ≡ h.top

module _ {h : Here} {a : List ℕ} {g x : ℕ} (w : Asks h x) (t : ToldOf h a g x) (z : Sized h.top h.left h.levels g) where
  -- what `bring` asks
  pub movable : is_refusal g ≡ false → Movable a h.top g
  movable n =
      let s = z.at n in
      let l : length a ≡ scratch_size = t.kept.long ∙ w.long in
      let r = w.room in
      record { inside = omega arith; room = omega arith; low = omega arith }

  brought : {a₂ : List ℕ} {r : ℕ} (n : is_refusal g ≡ false) (m : Moved h.top g a a₂ r) → decoded a₂ h.levels r ≡ Done h.top (len_of g) (steps_of g)
      → AtTop h a₂ r x
  brought {a₂} {r} n m d =
      let s = z.at n in
      record {
        gives = record {
          kept = kept_then t.kept m.copied.kept (le_refl _);
          told = λ sh es μ e.
              let q = had (t.told sh es μ e) (decoded_done _ _ g n) in
              as_done q.is d (record {
                low = le_refl _;
                held = record {
                  place = on_stack w.base (le_refl _);
                  long = q.that.held.long;
                  bytes = m.copied.bytes ∙ q.that.held.bytes;
                  readable = q.that.held.readable;
                };
              });
        };
        sized = record {
          at = λ f.
              let e = decoded_done a₂ h.levels r f in
              let x : start_of r ≡ h.top = let y = d in cc in
              let y : len_of r ≡ len_of g = let y = d in cc in
              let u : steps_of r ≡ steps_of g = let y = d in cc in
              rw (x, y, u) (record { low = le_refl _; some = s.some; short = s.short; steps = s.steps; deep = s.deep });
        };
        there = λ f. let e = decoded_done a₂ h.levels r f in let y = d in cc;
      }

  -- and what it gives
  pub at_top : {a₂ : List ℕ} {r : ℕ} → Brought h.top g a a₂ r → AtTop h a₂ r x
  at_top {a₂} {r} b = go (is_refusal g) refl
    where
      go : (p : Bool) → is_refusal g ≡ p → AtTop h a₂ r x
      go true e =
          let q = b.refused e in
          rw (q.0, q.1) (record { gives = t; sized = z; there = λ n. absurd (let y : true ≡ false = cc in let u : ◌≡◌ {A = ℕ} 0 1 = cc in omega arith) })
      go false e = let m = b.moved e in brought e m (ap (decoded _ _) m.is ∙ done_said _ _ _ _ _ m.low (len_small g) (steps_small g))

pub brought_as : {at at' : At} {g r : ℕ} {b a : List ℕ} → at ≡ at' → Brought at.top g b a r → Brought at'.top g b a r
brought_as e b = rw e at b
