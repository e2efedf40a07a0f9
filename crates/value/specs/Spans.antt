-- Where the values of a plan stand in its bytes: starts and lengths, or the refusal's number.
use Rattle.std.specs.Prelude.{Bool, true, false, Option, Some, None, List, [], ◌∷◌, ◌++◌, map, ℕ, ◌+◌, ◌-◌, leb, length, replicate}
use Rattle.value.specs.Result.{Result, refusal, map_result}
use Rattle.value.specs.Value.{Value, size}
use Rattle.value.specs.Reading.{read_value, read_plan, read_view}
use Rattle.value.specs.Reader.{Read, outcome}
use Rattle.value.specs.declared.Spans.{Spans}

-- the next of several values: its length, or why it is none; nothing where the bytes end where it should begin
unfoldable pub next_of : List ℕ → Option Read
next_of [] = None
next_of (b ∷ bs) = Some (outcome (read_value (b ∷ bs)))

-- a place for each of 16 variables, 0 behind the last
unfoldable pub places : List ℕ → List ℕ
places l = l ++ replicate (16 - length l) 0

unfoldable pub starts : ℕ → List Value → List ℕ
starts at [] = []
starts at (v ∷ vs) = at ∷ starts (at + size v) vs

unfoldable pub spans : List Value → Spans
spans vs = record { starts = places (starts 0 vs); lens = places (map size vs) }

unfoldable pub within16 : Bool → Result (List Value) → Result (List Value)
within16 true r = r
within16 false r = refusal 13

-- a plan of k values; k over 16 is out of range
unfoldable pub plan_of : ℕ → List ℕ → Result (List Value)
plan_of k bs = within16 (leb k 16) (read_plan k bs)

unfoldable pub spans_of : ℕ → List ℕ → Result Spans
spans_of k bs = map_result spans (plan_of k bs)

-- a view: that it is one, or the refusal
unfoldable pub view_of : List ℕ → Result Unit
view_of bs = map_result (λ vs. tt) (read_view bs)
