-- Which plan variables a put wrote, as a number of 16 bits: bit i for variable i (document 02, request 8).
use Rattle.std.specs.Prelude.{Bool, true, false, cond, List, [], ◌∷◌, map, ℕ, zero, suc, ◌+◌, ◌*◌, ◌/◌, ◌%◌, eqb, get_or}
use Rattle.std.proofs.Math.Option.{Option, none, some}
use Rattle.value.specs.Value.{Value, vfalse}
use Rattle.value.specs.Reading.{read_plan, read_view}
use Rattle.sheet.specs.Sheet.{read_sheet}
use Rattle.rules.specs.Outcome.{Out, done, refused, reading}
use Rattle.rules.specs.Counting.{Cells}
use Rattle.rules.specs.Answer.{put_walk}

-- bits as a number, the lowest first
unfoldable pub bits_of : List Bool → ℕ
bits_of [] = 0
bits_of (b ∷ bs) = cond b 1 0 + 2 * bits_of bs

-- bit i of a number: whether it is odd once it is halved i times
unfoldable pub bit : (i n : ℕ) → Bool
bit zero n = eqb (n % 2) 1
bit (suc i) n = bit i (n / 2)

-- whether a cell took a view, whatever it held before: the same value too
unfoldable pub took : Option Value → Bool
took none = false
took (some v) = true

-- of the cells at a walk's end, which are those of the plan's variables; a walk that is refused wrote none
unfoldable pub took_in : Out Cells → ℕ
took_in (done X n) = bits_of (map took X)
took_in (refused c n) = 0

unfoldable pub put_written : (sheet plan view : List ℕ) (allowance : ℕ) → ℕ
put_written sheet plan view allowance = took_in (
    reading (read_sheet sheet) λ sh. reading (read_plan sh.k plan) λ μ. reading (read_view view) λ vs. put_walk allowance sh μ (get_or vs 0 vfalse)
    )
