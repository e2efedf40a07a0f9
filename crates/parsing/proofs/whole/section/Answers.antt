-- `section` meets its contract. Assumes nothing.
use mathlib.Core.Path.{refl, ◌∙◌}
use native.Mathlib.Omega.{arith}
use Rattle.parsing.specs.Whole.{section_parsed}
use Rattle.parsing.proofs.whole.section.Goals as goal

pub title-named-requires : goal.title-named-requires
title-named-requires c =
    (c.requires.0, c.requires.1)

pub two-bound-requires : goal.two-bound-requires
two-bound-requires c =
    let l = c.requires.2.names_long in
    (omega arith, refl)

pub expr-requires : goal.expr-requires
expr-requires c =
    let l = c.requires.2 in
    let j = l.few in
    let i = (c.symbol-equals.ensures.same ∙ c.symbol-close.ensures.same ∙ c.two-bound.ensures.same_count ∙ c.symbol-open.ensures.same ∙
    c.title-named.ensures.same_count) in
    record {
      table_few = l.table_few;
      names_long = c.two-bound.ensures.below.long
          ∙ l.names_long;
      slots_long = l.slots_long;
      few = omega arith;
      low = omega arith;
    }

pub returns : goal.returns
returns c =
    section_parsed c.requires.2 c.title-named.ensures c.symbol-open.ensures c.two-bound.ensures c.symbol-close.ensures c.symbol-equals.ensures c.expr.ensures
