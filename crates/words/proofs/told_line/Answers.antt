-- `told_line` meets its contract: a success, a refusal that was met at no node, one that was met at a node. Assumes nothing.
use Rattle.std.proofs.Common.{sym, ◌∙◌, eq-eqb}
use Rattle.std.proofs.lemmas.Bool.{eqb-true}
use Rattle.report.specs.Writing.{wrote_text}
use Rattle.words.proofs.AnswersLaws.{told_ok, told_number, told_chain}
use Rattle.words.proofs.told_line.Goals as goal

pub returns-then-refusal-eq0 : goal.returns-then-refusal-eq0
returns-then-refusal-eq0 c = wrote_text c.bytes.ensures (told_ok _ _ _ c.if-refusal-eq0.true)

pub returns-then-is_empty : goal.returns-then-is_empty
returns-then-is_empty c =
    wrote_text (rw c.from.ensures at c.refusal.ensures) (told_number _ _ _ c.if-refusal-eq0.false (eqb-true _ _ (sym c.is_empty.ensures ∙ c.if-is_empty.true)))

pub returns : goal.returns
returns c =
    wrote_text c.met_line.ensures (told_chain _ _ _ c.if-refusal-eq0.false (λ e. let q = eq-eqb _ _ e in cc))
