-- What loading gives is small: a refusal's number is a byte, and all starts are below the plan's length.
use Rattle.std.specs.Prelude.{◌≡◌, refl, List, [], ℕ, ◌<◌, length}
use Rattle.std.proofs.Common.{arith}
use Rattle.std.proofs.Math.Decide.{dec_le}
use Rattle.value.specs.Result.{Result, ok, refusal as refuses, and_then, map_result}
use Rattle.value.specs.Value.{Value}
use Rattle.value.specs.Reading.{read_plan}
use Rattle.value.proofs.Laws.{read_values_sound}
use Rattle.sheet.specs.Sheet.{Sheet, read_sheet}
use Rattle.sheet.specs.Laws.{sheet_ranges}
use Rattle.rules.specs.Outcome.{when, given, reading}
use Rattle.rules.specs.Numbers.{scratch_size, get_output}
use Rattle.rules.specs.Answer.{refusal, answer, door, get_bytes, get_answer}
use Rattle.rules.proofs.Laws.Refusals.{stated_small, get_refusals}
use Rattle.report.proofs.TextLaws.{Below, none, each}
use Rattle.starts.specs.declared.Starts.{Starts}
use Rattle.starts.specs.Starts.{starts_of, load_of, numbers}
use Rattle.starts.proofs.Lookup.{Rising, end, over}
use Rattle.starts.proofs.StartsLaws.{starts_proper}

rising_below : {n low : ℕ} {l : List ℕ} → Rising n low l → Below n l
rising_below end = none
rising_below (over p q r) = each q (rising_below r)

-- what loading a plan of n bytes gives: a refusal's number is a byte, and all starts are below n
pub data LoadSmall (n : ℕ) : Result Starts → Type 0 where
  below : {s : Starts} → Below n (numbers s) → LoadSmall n (ok s)
  byte : {c : ℕ} → c < 256 → LoadSmall n (refuses c)

-- a sheet's refusals are those that a get meets
pub sheet_small : (s : List ℕ) {c : ℕ} → read_sheet s ≡ refuses c → c < 256
unfolding get_answer get_bytes door given when dec_le reading answer
sheet_small s {c} e = (stated_small c (get_refusals s [] 1 get_output scratch_size c (rw e))).1

-- the sheet's and the plan's refusals are those that a get meets
pub load_small : (sheet plan : List ℕ) → LoadSmall (length plan) (load_of sheet plan)
unfolding load_of map_result and_then get_answer get_bytes door given when dec_le reading answer
load_small sheet plan = by_sheet (read_sheet sheet) refl
  where
    met : (c : ℕ) → get_answer sheet plan 1 get_output scratch_size ≡ refusal c → c < 256
    met c e = (stated_small c (get_refusals sheet plan 1 get_output scratch_size c e)).1

    by_plan : (sh : Sheet) → read_sheet sheet ≡ ok sh → (r : Result (List Value)) → read_plan sh.k plan ≡ r → LoadSmall (length plan) (map_result starts_of r)
    by_plan sh e (refuses c) f = byte (met c (rw (e, f)))
    by_plan sh e (ok vs) f =
        let r = sheet_ranges sheet e in
        let v = read_values_sound 20 sh.k plan f in
        let p = starts_proper vs (omega (arith, v.count, r.some_variable)) (omega (arith, v.count, r.few_variables)) in
        below (rw v.bytes (rising_below p.rising))

    by_sheet : (r : Result Sheet) → read_sheet sheet ≡ r → LoadSmall (length plan) (map_result starts_of (and_then r λ sh. read_plan sh.k plan))
    by_sheet (refuses c) e = byte (met c (rw e))
    by_sheet (ok sh) e = by_plan sh e (read_plan sh.k plan) refl
