-- The line for an input whose letter walks nothing: a row for each letter.
use Rattle.std.specs.Prelude.{Bool, true, false, cond, ◌≡◌, List, ℕ, ◌≤◌, eqb, length, get_or}
use Rattle.std.proofs.Math.Path.{sym}
use Rattle.std.proofs.Common.{◌∙◌, arith}
use Rattle.std.proofs.Math.Decide.{ℕ_discrete}
use borrow.Author.Tests.{ne_eqb}
use Rattle.report.specs.Text.{refusal_line}
use Rattle.inputs.specs.Numbers.{input_limit}
use Rattle.words.specs.Numbers.{line_limit}
use Rattle.letters.specs.Lookups.{load_line, value_line}
use Rattle.letters.specs.LookupLaws.{fits_refusal, fits_load, fits_value}
use Rattle.letters.specs.Sheets.{number_line, join_line}
use Rattle.letters.specs.SheetLaws.{fits_number, fits_join}
use Rattle.letters.specs.Growths.{growth_line, fits_growth}
use Rattle.letters.specs.Texts.{text_line, parsed_line, fits_text, fits_parsed}
use Rattle.sheet.proofs.Written.{Bytes}
use Rattle.letters.specs.SheetTexts.{read_line, print_line}
use Rattle.letters.specs.SheetTextLaws.{fits_print, fits_as}
use Rattle.letters.specs.Checks.{types_line, fits_types}

unfoldable pub letter_line : List ℕ → List ℕ
letter_line bs =
    let letter = get_or bs 0 0 in
    cond (eqb letter 0x4C) (load_line bs)
    (cond (eqb letter 0x56) (value_line bs)
    (cond (eqb letter 0x4E) (number_line bs)
    (cond (eqb letter 0x4A) (join_line bs)
    (cond (eqb letter 0x52) (growth_line bs)
    (cond (eqb letter 0x44) (text_line bs)
    (cond (eqb letter 0x45) (parsed_line bs)
    (cond (eqb letter 0x54) (types_line bs)
    (cond (eqb letter 0x41) (read_line bs)
    (cond (eqb letter 0x55) (print_line bs)
    (refusal_line 60))))))))))

-- a row and those below it
one_fits : (p : Bool) (x y : List ℕ) → length x ≤ line_limit → length y ≤ line_limit → length (cond p x y) ≤ line_limit
one_fits true x y h k = h
one_fits false x y h k = k

-- every line but that of letter A, whose place is as the code has it
other_fits : (bs : List ℕ) → Bytes bs → length bs ≤ input_limit → eqb (get_or bs 0 0) 0x41 ≡ false → length (letter_line bs) ≤ line_limit
unfolding letter_line
other_fits bs b h a = let c = get_or bs 0 0 in one_fits (eqb c 0x4C) _ _ (fits_load bs h)
    (one_fits (eqb c 0x56) _ _ (fits_value bs h)
    (one_fits (eqb c 0x4E) _ _ (fits_number bs)
    (one_fits (eqb c 0x4A) _ _ (fits_join bs)
    (one_fits (eqb c 0x52) _ _ (fits_growth bs)
    (one_fits (eqb c 0x44) _ _ (fits_text bs)
    (one_fits (eqb c 0x45) _ _ (fits_parsed bs)
    (one_fits (eqb c 0x54) _ _ (fits_types bs)
    (rw a (one_fits (eqb c 0x55) _ _ (fits_print bs b)
    (fits_refusal 60 (omega arith)))))))))))

-- WHAT SHOWS IT OF THE CODE: a law for each row

module _ (bs : List ℕ) {letter : ℕ} (e : letter ≡ get_or bs 0 0) where
  pub letter_l : letter ≡ 0x4C → load_line bs ≡ letter_line bs
  unfolding letter_line
  letter_l q = sym (rw (sym e ∙ q))

  pub letter_v : letter ≡ 0x56 → value_line bs ≡ letter_line bs
  unfolding letter_line
  letter_v q = sym (rw (sym e ∙ q))

  pub letter_n : letter ≡ 0x4E → number_line bs ≡ letter_line bs
  unfolding letter_line
  letter_n q = sym (rw (sym e ∙ q))

  pub letter_j : letter ≡ 0x4A → join_line bs ≡ letter_line bs
  unfolding letter_line
  letter_j q = sym (rw (sym e ∙ q))

  pub letter_r : letter ≡ 0x52 → growth_line bs ≡ letter_line bs
  unfolding letter_line
  letter_r q = sym (rw (sym e ∙ q))

  pub letter_d : letter ≡ 0x44 → text_line bs ≡ letter_line bs
  unfolding letter_line
  letter_d q = sym (rw (sym e ∙ q))

  pub letter_e : letter ≡ 0x45 → parsed_line bs ≡ letter_line bs
  unfolding letter_line
  letter_e q = sym (rw (sym e ∙ q))

  pub letter_t : letter ≡ 0x54 → types_line bs ≡ letter_line bs
  unfolding letter_line
  letter_t q = sym (rw (sym e ∙ q))

  pub letter_a : letter ≡ 0x41 → read_line bs ≡ letter_line bs
  unfolding letter_line
  letter_a q = sym (rw (sym e ∙ q))

  pub letter_u : letter ≡ 0x55 → print_line bs ≡ letter_line bs
  unfolding letter_line
  letter_u q = sym (rw (sym e ∙ q))

  -- the line fits where that of letter A does
  pub letter_fits : Bytes bs → (letter ≡ 0x41 → length (read_line bs) ≤ line_limit) → length bs ≤ input_limit → length (letter_line bs) ≤ line_limit
  letter_fits b a h = go (ℕ_discrete letter 0x41)
    where
      go : Dec (letter ≡ 0x41) → length (letter_line bs) ≤ line_limit
      go (yes q) = fits_as (letter_a q) (a q)
      go (no q) = other_fits bs b h (rw (← e) (ne_eqb letter 0x41 q))

  pub letter_none : (letter ≡ 0x4C → ⊥) → (letter ≡ 0x56 → ⊥) → (letter ≡ 0x4E → ⊥) → (letter ≡ 0x4A → ⊥) → (letter ≡ 0x52 → ⊥)
      → (letter ≡ 0x44 → ⊥) → (letter ≡ 0x45 → ⊥) → (letter ≡ 0x54 → ⊥)
      → (letter ≡ 0x41 → ⊥) → (letter ≡ 0x55 → ⊥) → refusal_line 60 ≡ letter_line bs
  unfolding letter_line
  letter_none l v n j r d p t a u = sym (rw (
    ← e,
    ne_eqb letter 0x4C l,
    ne_eqb letter 0x56 v,
    ne_eqb letter 0x4E n,
    ne_eqb letter 0x4A j,
    ne_eqb letter 0x52 r,
    ne_eqb letter 0x44 d,
    ne_eqb letter 0x45 p,
    ne_eqb letter 0x54 t,
    ne_eqb letter 0x41 a,
    ne_eqb letter 0x55 u,
  ))
