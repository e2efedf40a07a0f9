-- A copy into a list, one element a turn.
use Rattle.std.specs.Prelude.{◌≡◌, refl, List, ℕ, ◌+◌, ◌<◌, length, drop, get_or, set}
use Rattle.std.proofs.Common.{◌∙◌, add-one, arith, length-set, length-drop, get_or-drop}
use Rattle.std.proofs.Math.Seq.{paste, paste-zero, paste-suc}

-- i elements are copied
pub record Pasting (at i : ℕ) (s b a : List ℕ) : Type 0 where
  pub made : a ≡ paste b at s i
  pub long : length a ≡ length b

pub pasting_none : (at : ℕ) (s b : List ℕ) → Pasting at 0 s b b
pasting_none at s b = record { made = paste-zero b at s; long = refl }

pub pasting_more : {at i : ℕ} {s b a : List ℕ} → Pasting at i s b a → at + i < length b → i < length s → Pasting at (i + 1) s b (set a (at + i) (get_or s i 0))
pasting_more {at} {i} {s} {b} {a} m p h = record {
  made = rw (m.made, add-one) (paste-suc b at s i 0 p h);
  long = length-set a (at + i) (get_or s i 0) ∙ m.long;
}

-- of what stands behind `start`
pub pasting_part : (start : ℕ) (x : List ℕ) {at i : ℕ} {b a : List ℕ} → Pasting at i (drop start x) b a → at + i < length b → start + i < length x
    → Pasting at (i + 1) (drop start x) b (set a (at + i) (get_or x (start + i) 0))
pasting_part start x {i = i} m p h = rw (← get_or-drop start x i 0) (pasting_more m p (rw length-drop (omega arith)))
