-- Laws of the bits that a put gives: each is that of its variable's cell, none is outside the first k, and a variable whose bit is clear
-- has its old value in the new plan (document 02, request 8).
use Rattle.std.specs.Prelude.{◌≡◌, refl, Bool, true, false, cond, List, [], ◌∷◌, map, ℕ, zero, suc, ◌+◌, ◌*◌, ◌/◌, ◌%◌, ◌^◌, ◌≤◌, ◌<◌, eqb, length, get_or}
use Rattle.std.proofs.Common.{sym, ap, ◌∙◌, arith}
use Rattle.std.proofs.Math.Option.{none, some}
use Rattle.std.proofs.Math.ListN.{get_or-eq_default}
use Rattle.value.specs.Result.{ok}
use Rattle.value.specs.Value.{vfalse}
use Rattle.value.specs.Reading.{read_plan}
use Rattle.value.proofs.Laws.{read_values_sound}
use Rattle.sheet.specs.Sheet.{Sheet, read_sheet}
use Rattle.sheet.specs.Laws.{sheet_ranges}
use Rattle.rules.specs.Outcome.{reading}
use Rattle.rules.specs.Semantics
use Rattle.rules.specs.Counting.{Env, Cells}
use Rattle.rules.specs.Answer.{success, new_plan, put_walk, put_answer}
use Rattle.rules.proofs.Laws.Allowances.{done-within}
use Rattle.rules.specs.Laws.Answers.{PutBack}
use Rattle.rules.proofs.Laws.Answers.{put_shows}
use Rattle.rules.proofs.Laws.Trips.{put_writes}
use Rattle.rules.specs.Bits.{bits_of, bit, took, took_in, put_written}

-- A NUMBER'S BITS

low_bit : (b : Bool) (n : ℕ) → (eqb ((cond b 1 0 + 2 * n) % 2) 1 ≡ b) × ((cond b 1 0 + 2 * n) / 2 ≡ n)
low_bit true n = let h : (1 + 2 * n) % 2 ≡ 1 = omega arith in (rw h, omega arith)
low_bit false n = let h : (0 + 2 * n) % 2 ≡ 0 = omega arith in (rw h, omega arith)

-- bit i is the i-th of them; behind the last there is none
none_of_zero : (i : ℕ) → bit i 0 ≡ false
unfolding bit
none_of_zero zero = refl
none_of_zero (suc i) = none_of_zero i

pub bit_is : (bs : List Bool) (i : ℕ) → bit i (bits_of bs) ≡ get_or bs i false
unfolding bit bits_of
bit_is [] i = none_of_zero i
bit_is (b ∷ bs) zero = (low_bit b (bits_of bs)).0
bit_is (b ∷ bs) (suc i) = ap (bit i) (low_bit b (bits_of bs)).1 ∙ bit_is bs i

-- n of them are below the n-th power of 2
pub bits_below : (bs : List Bool) (n : ℕ) → length bs ≤ n → bits_of bs < 2 ^ n
unfolding bits_of
bits_below [] zero h = omega arith
bits_below [] (suc n) h = let k = bits_below [] n (omega arith) in omega arith
bits_below (b ∷ bs) zero h = absurd (omega arith)
bits_below (b ∷ bs) (suc n) h = let k = bits_below bs n (omega arith) in go b k
  where
    go : (b : Bool) → bits_of bs < 2 ^ n → cond b 1 0 + 2 * bits_of bs < 2 ^ suc n
    go true k = omega arith
    go false k = omega arith

-- A CELL'S BIT

took_at : (X : Cells) (i : ℕ) → get_or (map took X) i false ≡ took (get_or X i none)
unfolding took
took_at [] i = refl
took_at (o ∷ X) zero = refl
took_at (o ∷ X) (suc i) = took_at X i

map-length : (X : Cells) → length (map took X) ≡ length X
map-length [] = refl
map-length (o ∷ X) = ap suc (map-length X)

-- a cell that took no view leaves its variable what it was
kept_at : (X : Cells) (μ : Env) (i : ℕ) → length X ≡ length μ → took (get_or X i none) ≡ false → get_or (new_plan X μ) i vfalse ≡ get_or μ i vfalse
unfolding new_plan took Semantics.or_old
kept_at [] [] i e h = refl
kept_at [] (v ∷ μ) i e h = absurd (omega arith)
kept_at (o ∷ X) [] i e h = absurd (omega arith)
kept_at (none ∷ X) (v ∷ μ) zero e h = refl
kept_at (some w ∷ X) (v ∷ μ) zero e h = let z : ◌≡◌ {A = ℕ} 0 1 = cc in absurd (omega arith)
kept_at (o ∷ X) (v ∷ μ) (suc i) e h = kept_at X μ i (omega arith) h

-- OF A PUT THAT SUCCEEDS

module _ {sheet plan view : List ℕ} {allowance : ℕ} {new : List ℕ} {n : ℕ} (p : PutBack sheet plan view allowance new n) where
  written_cells : put_written sheet plan view allowance ≡ bits_of (map took p.X)
  unfolding put_written took_in put_walk reading
  written_cells = rw (p.sheet_read, p.plan_read, p.view_read, p.walk, done-within allowance p.X _ p.few)

  -- as many cells as the plan has variables
  cell_count : length (map took p.X) ≡ p.sh.k
  cell_count = map-length p.X ∙ (put_writes p).cells ∙ (read_values_sound 20 p.sh.k plan p.plan_read).count

  -- bit i is set exactly where variable i took a view
  pub bit_cell : (i : ℕ) → bit i (put_written sheet plan view allowance) ≡ took (get_or p.X i none)
  bit_cell i = ap (bit i) written_cells ∙ bit_is (map took p.X) i ∙ took_at p.X i

module _ (sheet plan view : List ℕ) (allowance output scratch : ℕ) {new : List ℕ} {n : ℕ}
    (e : put_answer sheet plan view allowance output scratch ≡ success new n) where
  pub written_small : put_written sheet plan view allowance < 65536
  written_small =
      let p = (put_shows e).1 in
      rw (written_cells p) (bits_below (map took p.X) 16 (omega (arith, cell_count p, (sheet_ranges sheet p.sheet_read).few_variables)))

  module _ {sh : Sheet} (s : read_sheet sheet ≡ ok sh) (i : ℕ) where
    -- no bit outside the first k
    pub written_inside : sh.k ≤ i → bit i (put_written sheet plan view allowance) ≡ false
    written_inside h =
        let p = (put_shows e).1 in
        let es : p.sh ≡ sh = let z = p.sheet_read in cc in
        let k : p.sh.k ≡ sh.k = ap (λ (x : Sheet). x.k) es in
        ap (bit i) (written_cells p) ∙ bit_is (map took p.X) i ∙ get_or-eq_default (map took p.X) false (omega (arith, cell_count p))

    -- a variable whose bit is clear stands for its old value in the new plan
    pub clear_kept : {μ ν : Env} → read_plan sh.k plan ≡ ok μ → read_plan sh.k new ≡ ok ν → bit i (put_written sheet plan view allowance) ≡ false
        → get_or ν i vfalse ≡ get_or μ i vfalse
    clear_kept {μ} {ν} r q h =
        let p = (put_shows e).1 in
        let w = put_writes p in
        let es : p.sh ≡ sh = let z = p.sheet_read in cc in
        let old : p.μ ≡ μ = let z = rw es at p.plan_read in cc in
        let now : new_plan p.X p.μ ≡ ν = let z = rw es at w.new_read in cc in
        ap (λ (l : Env). get_or l i vfalse) (sym now) ∙ kept_at p.X p.μ i w.cells (sym (bit_cell p i) ∙ h) ∙ ap (λ (l : Env). get_or l i vfalse) old
