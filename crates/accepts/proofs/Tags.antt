-- What the last arm of a match on a node tells: it is of none of the variants before.
use Rattle.std.specs.Prelude.{◌≡◌, Bool, List, ℕ}
use Rattle.std.proofs.Common.{refl}
use Rattle.node.specs.declared.Node.{Node}
use Rattle.node.specs.declared.Node.TheVariants.{Var, False, True, Empty, Number, Front, Pair, ListCase, TruthCase, Split, Call, Add, Each, Wide}
use Rattle.node.specs.Kinds.{variables}
use Rattle.accepts.specs.Marks.{marked_all}

pub none_named :
    (n : Node) → ((y : ℕ) → n ≡ Var y → ⊥) → ((c y z : ℕ) → n ≡ Call c y z → ⊥) → ((s c y d : ℕ) → n ≡ Each s c y d → ⊥) → (m : List Bool)
    → m ≡ marked_all m (variables n)
unfolding marked_all variables
none_named (Var y) var call each m = absurd (var y refl)
none_named False var call each m = refl
none_named True var call each m = refl
none_named Empty var call each m = refl
none_named (Number n) var call each m = refl
none_named (Front a b) var call each m = refl
none_named (Pair a b) var call each m = refl
none_named (ListCase s e te n tn df dr) var call each m = refl
none_named (TruthCase s f tf t tt') var call each m = refl
none_named (Split s i) var call each m = refl
none_named (Call c y z) var call each m = absurd (call c y z refl)
none_named (Add n a) var call each m = refl
none_named (Each s c y d) var call each m = absurd (each s c y d refl)
none_named (Wide n) var call each m = refl
