use mathlib.Core.Path.{◌≡◌, refl}
use native.Mathlib.Omega.{arith}
use Rattle.sheet.specs.Table.{section_at}
use Rattle.numbering.specs.Counting.{used_all, used_listing, roots_at}
use Rattle.numbering.proofs.count_roots.Goals as goal

pub loop-i-init : goal.loop-i-init
unfolding used_all
loop-i-init c = refl

pub loop-i-preserved : goal.loop-i-preserved
loop-i-preserved c =
    rw (c.count_use-in-loop-i.ensures, c.section_root.ensures, c.loop-i.invariant)
    (used_listing c.count_use.new.uses (section_at c.args.sheet.now) c.loop-i.i)

pub returns : goal.returns
unfolding used_all roots_at
returns c =
    let all : c.loop-i.i ≡ c.args.t.sections = omega arith in
    rw (c.loop-i.invariant, all, c.count_use.ensures) refl
