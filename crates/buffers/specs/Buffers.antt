-- What a call does to its caller's buffers.
use Rattle.std.specs.Prelude.{◌≡◌, refl, true, false, cond, List, ◌++◌, ℕ, ◌+◌, ◌≤◌, ◌<◌, min, leb, length, take, drop, set, get_or, replicate}
use Rattle.std.proofs.Common.{ap, ◌∙◌, add-one, arith, length-drop, length-set, get_or-drop}
use Rattle.std.proofs.Math.Seq.{paste, paste-zero, paste-suc}
use borrow.Author.Tests.{le-leb}
use Rattle.std.proofs.Common.{rules}
use Rattle.std.proofs.lemmas.Slice.{overwrites}
use borrow.Rule.Slice.PartMut.{put_mid}
use Rattle.rules.specs.Numbers.{scratch_size}

-- the first n bytes zero, and the others as they were
unfoldable pub zeros : ℕ → List ℕ → List ℕ
zeros n s = replicate n 0 ++ drop n s

-- scratch as a call leaves it
abbrev pub zeroed : List ℕ → List ℕ
zeroed s = zeros scratch_size s

-- a scratch that is long enough is cleared so
pub cleared_whole : (s : List ℕ) {a : List ℕ} → a ≡ zeros (min scratch_size (length s)) s → scratch_size ≤ length s → a ≡ zeroed s
cleared_whole s e h = let m : min scratch_size (length s) ≡ scratch_size = omega arith in e ∙ ap (λ (n : ℕ). zeros n s) m

-- n bytes of s from place `from` on, at place `to` of b; b as it was where either is too short for them
unfoldable pub copied : (from to n : ℕ) (s b : List ℕ) → List ℕ
copied from to n s b = cond (leb (from + n) (length s)) (cond (leb (to + n) (length b)) (paste b to (drop from s) n) b) b

module _ (from to n : ℕ) (s b : List ℕ) where
  pub copied_room : from + n ≤ length s → to + n ≤ length b → copied from to n s b ≡ paste b to (drop from s) n
  unfolding copied
  copied_room h k = rw (le-leb (from + n) (length s) h, le-leb (to + n) (length b) k)

  pub copied_short : leb (from + n) (length s) ≡ false → b ≡ copied from to n s b
  unfolding copied
  copied_short e = rw e

  pub copied_full : leb (from + n) (length s) ≡ true → leb (to + n) (length b) ≡ false → b ≡ copied from to n s b
  unfolding copied
  copied_full e f = rw (e, f)

  -- what a copy of them leaves
  pub copied_part : {k : ℕ} {p : List ℕ} → from + n ≤ length s → to + n ≤ length b → k ≡ n → p ≡ take k (drop from s) → put_mid to k b p ≡ copied from to n s b
  copied_part {k} {p} h j e d = rw (copied_room h j, d) (search (rules, overwrites))

-- i bytes are copied out
pub record Copying (from to i : ℕ) (s b a : List ℕ) : Type 0 where
  pub made : a ≡ paste b to (drop from s) i
  pub long : length a ≡ length b

pub copying_none : (from to : ℕ) (s b : List ℕ) → Copying from to 0 s b b
copying_none from to s b = record { made = paste-zero b to (drop from s); long = refl }

pub copying_more : {from to i : ℕ} {s b a : List ℕ} → Copying from to i s b a → from + i < length s → to + i < length b
    → Copying from to (i + 1) s b (set a (to + i) (get_or s (from + i) 0))
copying_more {from} {to} {i} {s} {b} {a} c hs hb = record {
  made = rw (← get_or-drop from s i 0, c.made, add-one) (paste-suc b to (drop from s) i 0 hb (rw length-drop (omega arith)));
  long = length-set a (to + i) (get_or s (from + i) 0) ∙ c.long;
}

pub copying_all : {from to i n : ℕ} {s b a : List ℕ} → Copying from to i s b a → i ≡ n → a ≡ paste b to (drop from s) n
copying_all {from} {to} {s = s} {b = b} c e = c.made ∙ ap (paste b to (drop from s)) e
