-- How a put may change cells; and who is named where a variable's cell has another value.
use Rattle.std.specs.Prelude.{List, [], ◌∷◌}
use Rattle.std.proofs.Math.Option.{Option, none, some}
use Rattle.rules.specs.Laws.Related.{All2}

-- HOW CELLS GROW: a cell is left as it is, or it is written where nothing was written before, by a node that B allows

pub data Grew {C : Type 0} (B : C → Type 0) : Option C → Option C → Type 0 where
  stays : {o : Option C} → Grew B o o
  wrote : {w : C} → B w → Grew B none (some w)

abbrev pub Grows : {C : Type 0} → (C → Type 0) → List (Option C) → List (Option C) → Type 0
Grows B W X = All2 (Grew B) W X

-- what is written, B allows
pub data WrittenBy {C : Type 0} (B : C → Type 0) : List (Option C) → Type 0 where
  empty : WrittenBy B []
  blank : {W : List (Option C)} → WrittenBy B W → WrittenBy B (none ∷ W)
  held : {w : C} {W : List (Option C)} → B w → WrittenBy B W → WrittenBy B (some w ∷ W)
