-- `parts_of` meets its contract. Assumes nothing.
use mathlib.Core.Path.{sym, ap, ◌∙◌}
use lib.ListN.{length}
use Rattle.std.specs.Prelude.{Some}
use native.Mathlib.Omega.{arith}
use Rattle.types.specs.SlotsLaws.{type_some, len_inside, parts_kind, list_parts, pair_none, pair_parts}
use Rattle.types.proofs.lent.parts_of.Goals as goal

pub returns-in_default : goal.returns-in_default
returns-in_default c u a b e s d = absurd (omega (arith, c.in_default.len_below, type_some u, ap length e))

pub returns-in_err-kind_of : goal.returns-in_err-kind_of
returns-in_err-kind_of c u a b e s d = absurd (parts_kind _ u a b e d (sym c.kind_of.ensures ∙ c.in_err-kind_of.was))

pub returns-in_err-type_len-in-Pairs : goal.returns-in_err-type_len-in-Pairs
returns-in_err-type_len-in-Pairs c u a b e s d =
    absurd (pair_none _ u a b e d s (sym c.kind_of.ensures ∙ c.in_ok-kind_of.was ∙ ap Some c.in-Pairs.is)
    (sym c.type_len.ensures ∙ c.in_err-type_len-in-Pairs.was))

pub split_at-requires : goal.split_at-requires
split_at-requires c = len_inside _ (sym c.type_len.ensures ∙ c.in_ok-type_len-in-Pairs.was)

pub returns-in_ok-type_len-in-Pairs : goal.returns-in_ok-type_len-in-Pairs
returns-in_ok-type_len-in-Pairs c u a b e s d =
    let p = pair_parts _ u a b e d s (sym c.kind_of.ensures ∙ c.in_ok-kind_of.was ∙ ap Some c.in-Pairs.is)
    (sym c.type_len.ensures ∙ c.in_ok-type_len-in-Pairs.was) in
    (c.split_at.ensures.front ∙ p.0, c.split_at.ensures.back ∙ p.1)

pub returns-in_default-2 : goal.returns-in_default-2
returns-in_default-2 c u a b e s d = list_parts _ u a b e d λ n. c.in_default-2.not-Pairs (let q = sym c.in_ok-kind_of.was ∙ c.kind_of.ensures ∙ n in cc)
