-- `mark` meets its contract. Assumes nothing.
use native.Mathlib.Omega.{arith}
use Rattle.lexing.specs.Lexing.{lex_one, lex_last, lex_dash, lex_arrow}
use Rattle.lexing.proofs.mark.Goals as goal

pub returns-then-text-at-ne45 : goal.returns-then-text-at-ne45
returns-then-text-at-ne45 c = lex_one c.requires c.if-text-at-ne45.true

pub returns-then-text-at-lt2 : goal.returns-then-text-at-lt2
returns-then-text-at-lt2 c = let h = c.requires.inside in lex_last c.requires c.if-text-at-ne45.false (omega arith)

pub returns-then-text-at-ne62 : goal.returns-then-text-at-ne62
returns-then-text-at-ne62 c =
    let h = c.requires.inside in
    lex_dash c.requires c.if-text-at-ne45.false (omega (arith, c.if-text-at-lt2.false)) c.if-text-at-ne62.true

pub returns : goal.returns
returns c =
    let h = c.requires.inside in
    lex_arrow c.requires c.if-text-at-ne45.false (omega (arith, c.if-text-at-lt2.false)) c.if-text-at-ne62.false
