-- `constant` meets its contract. Assumes nothing.
use mathlib.Core.Path.{refl}
use mathlib.Core.List.{[], ◌∷◌}
use Prim.Native.Nat.{◌/◌, ◌%◌}
use Rattle.parsing.specs.Expressions.{row_of, constant_small, constant_wide, stored_kept}
use Rattle.parsing.proofs.expr.constant.Goals as goal

pub returns-then-v-le65535 : goal.returns-then-v-le65535
returns-then-v-le65535 c =
    let v = c.args.c.found in record {
      value = c.enter.ensures;
      constant = λ h. constant_small c.args.slots.now c.args.c.found c.requires.0 c.requires.1 c.if-v-le65535.true c.store.ensures;
      kept = stored_kept c.args.slots.now c.requires.0 c.requires.1 (row_of 20 (v / 256 % 256 ∷ v % 256 ∷ [])) refl c.store.ensures;
    }

pub returns : goal.returns
returns c =
    let v = c.args.c.found in record {
      value = c.enter-2.ensures;
      constant = λ h. constant_wide c.args.slots.now c.args.c.found c.requires.0 c.requires.1 c.if-v-le65535.false h c.store-2.ensures;
      kept = stored_kept c.args.slots.now c.requires.0 c.requires.1
          (row_of 29 (v / 256 / 256 / 256 % 256 ∷ v / 256 / 256 % 256 ∷ v / 256 % 256 ∷ v % 256 ∷ [])) refl c.store-2.ensures;
    }
