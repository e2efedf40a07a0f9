-- The explanation of a whole call on bytes (request 9).
use Rattle.std.specs.Prelude.{◌≡◌, List, ℕ, ◌-◌, ◌<◌, length, get_or}
use Rattle.std.proofs.Math.Option.{Option, none, some}
use Rattle.std.proofs.Math.Decide.{dec_le}
use Rattle.std.proofs.Math.ListN.{replicate}
use Rattle.value.specs.Result.{Result, ok, refusal}
use Rattle.value.specs.Value.{vfalse}
use Rattle.value.specs.Reading.{read_plan, read_view}
use Rattle.sheet.specs.Sheet.{Sheet, read_sheet}
use Rattle.rules.specs.Numbers.{level_limit, allowance_limit, scratch_size}
use Rattle.rules.specs.Outcome.{Out, done, refused}
use Rattle.rules.specs.Answer.{Answer, count}
use Rattle.rules.specs.Explain.{Cause, Exit, got, met, get, put}
use Rattle.rules.specs.Nodes.{Way}
use Rattle.rules.specs.Explain.Chain.{Chain, Refuses}

-- the node where it was met, and its depth
abbrev pub node : Cause → ℕ
node y = get_or y.chain (length y.chain - 1) 0

abbrev pub depth : Cause → ℕ
depth y = length y.chain

-- a success; a refusal from before the walk; one that was met in the walk
pub data Explanation : Type 0 where
  success : Explanation
  before : ℕ → Explanation
  walked : Cause → Explanation

unfoldable pub explained : {A : Type 0} → Exit A → Explanation
explained (got a s) = success
explained (met y s) = walked y

unfoldable pub afterwards : {A : Type 0} → Result A → (A → Explanation) → Explanation
afterwards (ok a) f = f a
afterwards (refusal c) f = before c

unfoldable pub explain_get : (sheet plan : List ℕ) (allowance : ℕ) → Explanation
explain_get sheet plan allowance =
    afterwards (read_sheet sheet) λ sh. afterwards (read_plan sh.k plan) λ μ. explained (get level_limit sh sh.root μ allowance)

unfoldable pub explain_put : (sheet plan view : List ℕ) (allowance : ℕ) → Explanation
explain_put sheet plan view allowance =
    afterwards (read_sheet sheet) λ sh. afterwards (read_plan sh.k plan) λ μ. afterwards (read_view view) λ vs.
    explained (put level_limit sh sh.root μ (count 0 (length μ)) (get_or vs 0 vfalse) (replicate (length μ) none) allowance)

-- WHAT A TOOL ANSWERS, for every input. It asks for no output, so that it meets 2 and 3 and never 1

unfoldable pub unless_before : {P : Type 0} → ℕ → Dec P → Explanation → Explanation
unless_before c (yes p) e = e
unless_before c (no p) e = before c

-- 2 scratch under 65,536; 3 allowance 0 or over 1,000,000
unfoldable pub why_door : (allowance scratch : ℕ) → Explanation → Explanation
why_door allowance scratch e =
    unless_before 2 (dec_le scratch_size scratch) (unless_before 3 (dec_le 1 allowance) (unless_before 3 (dec_le allowance allowance_limit) e))

unfoldable pub why_get : (sheet plan : List ℕ) (allowance scratch : ℕ) → Explanation
why_get sheet plan allowance scratch = why_door allowance scratch (explain_get sheet plan allowance)

unfoldable pub why_put : (sheet plan view : List ℕ) (allowance scratch : ℕ) → Explanation
why_put sheet plan view allowance scratch = why_door allowance scratch (explain_put sheet plan view allowance)

-- ITS NUMBER is that of the call

unfoldable pub number : Explanation → Option ℕ
number success = none
number (before c) = some c
number (walked y) = some y.code

unfoldable pub refusal_of : {A : Type 0} → Out A → Option ℕ
refusal_of (done a s) = none
refusal_of (refused c s) = some c

-- and of whole calls, where their output is long enough

unfoldable pub answer_number : Answer → Option ℕ
answer_number (Answer.refusal c) = some c
answer_number (Answer.success bs s) = none

-- WHAT IT SAYS of a refusal from the walk: P, of the sheet that was read

pub data Says (sheet : List ℕ) (P : Sheet → Cause → Type 0) : Explanation → Type 0 where
  through : Says sheet P success
  early : {c : ℕ} → Says sheet P (before c)
  at : {y : Cause} (sh : Sheet) → read_sheet sheet ≡ ok sh → P sh y → Says sheet P (walked y)

-- all that is said of a refusal at the root or below it, and the node that wrote first is one of the sheet's
abbrev pub WellExplained : Way → Sheet → Cause → Type 0
WellExplained w sh y = Refuses (λ m. m < length sh.nodes) w sh sh.root level_limit y

-- ITS CHAIN begins with the root of the sheet, and each node of it is one that the node before it may enter

abbrev pub Traced : List ℕ → Explanation → Type 0
Traced sheet e = Says sheet (λ sh y. Chain sh sh.root level_limit y) e
