use mathlib.Core.Path.{refl, ◌∙◌}
use Rattle.parsing.specs.Names.{name_alike, name_other}
use Rattle.parsing.proofs.names.is_same.Goals as goal

pub returns-then-text-place-2 : goal.returns-then-text-place-2
returns-then-text-place-2 c = name_other c.args.place c.requires.0 c.requires.1 c.if-text-place.false c.if-text-place-2.true

pub returns-then-starts_with : goal.returns-then-starts_with
returns-then-starts_with c =
    let q = name_alike c.args.place c.requires.0 c.requires.1 c.if-text-place.false c.starts_with.ensures.value c.ends_word.ensures in
    rw c.if-starts_with.true at q

pub returns-else-starts_with : goal.returns-else-starts_with
returns-else-starts_with c =
    let q = name_alike c.args.place c.requires.0 c.requires.1 c.if-text-place.false c.starts_with.ensures.value refl in
    c.if-starts_with.false ∙ (rw c.if-starts_with.false at q)
