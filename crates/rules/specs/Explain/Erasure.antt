-- The explaining reading, its chains forgotten, is the counting one within the allowance.
use Rattle.std.specs.Prelude.{◌≡◌, map}
use Rattle.std.proofs.Math.Option
use Rattle.std.proofs.Math.Option.{Option}
use Prim.Native.Nat.{ℕ}
use Rattle.value.specs.Value.{Value}
use Rattle.rules.specs.Outcome.{Out, done, refused}
use Rattle.rules.specs.Allowance.{within}
use Rattle.rules.specs.Counting as Count
use Rattle.rules.specs.Counting.{counting}
use Rattle.rules.specs.Explain as Explain
use Rattle.rules.specs.Explain.{Cause, Exit, got, met, Explained, more, below, entered, choice, follow, next, wanted, Cell, explaining, own, barred}

-- where and who forgotten; f of what was done
unfoldable pub forget : {A B : Type 0} → (A → B) → Exit A → Out B
forget f (got a s) = done (f a) s
forget f (met y s) = refused y.code s

pub record Erases {A B : Type 0} (f : A → B) (m : Explained A) (o : Out B) : Type 0 where
  pub same : (left : ℕ) → forget f (m left) ≡ within left o

-- PUT

-- the cells, their writers forgotten
abbrev pub value_of : Option Cell → Option Value
value_of o = Option.map (λ w. w.value) o

abbrev pub strip : Explain.Cells → Count.Cells
strip W = map value_of W
