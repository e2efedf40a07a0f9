-- The line of an explanation (letter Y of `tools`): why a get or a put is refused.
use Rattle.std.proofs.Math.Option.{Option, none, some}
use Rattle.std.specs.Prelude.{List, [], ◌∷◌, ℕ, take}
use Rattle.rules.specs.Explain.Calls.{Explanation, success, before, walked}
use Rattle.explaining.specs.Explain.{WhyReply}
use Rattle.report.specs.Text.{decimal_of, refusal_line, ok_line}
use Rattle.words.specs.Answers.{no_line, met_words, told_line}

-- `by` and the node that wrote first, where there is one
unfoldable pub by_first : Option ℕ → List (List ℕ)
by_first none = []
by_first (some n) = (0x62 ∷ 0x79 ∷ []) ∷ decimal_of n ∷ []

-- a success; a refusal from before the walk, its number alone; one that was met in the walk
unfoldable pub why_line : Explanation → List ℕ
why_line success = ok_line []
why_line (before c) = refusal_line c
why_line (walked y) = no_line (met_words y.code y.chain (by_first y.first))

-- as the code has it: as many nodes as the depth says
abbrev pub told : WhyReply → List ℕ
told w = told_line w.refusal (take w.depth w.chain) w.first
