-- What the last arm of a match on a node tells: it is of none of the variants before.
use Rattle.std.proofs.Common.{◌≡◌, refl, List, ℕ, true, false}
use Rattle.node.specs.declared.Node.{Node}
use Rattle.node.specs.declared.Node.TheVariants.{Var, False, True, Empty, Number, Front, Pair, ListCase, TruthCase, Split, Call, Add, Each, Wide}
use Rattle.node.specs.Kinds.{children, variables}
use Rattle.growth.specs.Growth.{own}
use Rattle.growth.specs.Tool.{OneCounted}

-- false is not true
no_plain : {A : Type 0} → false ≡ true → A
no_plain e = absurd (cc e)

pub none_counted : (n : Node) → ((y : ℕ) → n ≡ Var y → ⊥) → ((y z : ℕ) → n ≡ Front y z → ⊥) → ((y z : ℕ) → n ≡ Pair y z → ⊥)
    → ((y z : ℕ) → n ≡ Add y z → ⊥) → (x : ℕ) (counts : List ℕ) → OneCounted n x counts 0
unfolding own children variables
none_counted (Var y) v f p a x l e = absurd (v y refl)
none_counted False v f p a x l e = refl
none_counted True v f p a x l e = refl
none_counted Empty v f p a x l e = refl
none_counted (Number n) v f p a x l e = refl
none_counted (Front b c) v f p a x l e = absurd (f b c refl)
none_counted (Pair b c) v f p a x l e = absurd (p b c refl)
none_counted (ListCase s k te n tn df dr) v f p a x l e = no_plain e
none_counted (TruthCase s k tf t tt') v f p a x l e = no_plain e
none_counted (Split s i) v f p a x l e = no_plain e
none_counted (Call c y z) v f p a x l e = no_plain e
none_counted (Add n k) v f p a x l e = absurd (a n k refl)
none_counted (Each s c y d) v f p a x l e = no_plain e
none_counted (Wide n) v f p a x l e = refl
