-- What the last arm of a match on a node tells: it is of none of the kinds before.
use Rattle.std.proofs.Common.{◌≡◌, refl, [], ℕ}
use Rattle.node.specs.Kinds.{children}
use Rattle.node.specs.declared.Node.{Node}
use Rattle.node.specs.declared.Node.TheVariants.{Var, False, True, Empty, Number, Front, Pair, ListCase, TruthCase, Split, Call, Add, Each, Wide}

pub childless : (n : Node)
    → ((a b : ℕ) → n ≡ Front a b → ⊥)
    → ((a b : ℕ) → n ≡ Pair a b → ⊥)
    → ((s e te m tn df dr : ℕ) → n ≡ ListCase s e te m tn df dr → ⊥)
    → ((s f tf g tg : ℕ) → n ≡ TruthCase s f tf g tg → ⊥)
    → ((s i : ℕ) → n ≡ Split s i → ⊥)
    → ((m k : ℕ) → n ≡ Add m k → ⊥)
    → ((s c x d : ℕ) → n ≡ Each s c x d → ⊥)
    → children n ≡ []
unfolding children
childless (Var x) f p l t s a e = refl
childless False f p l t s a e = refl
childless True f p l t s a e = refl
childless Empty f p l t s a e = refl
childless (Number v) f p l t s a e = refl
childless (Front b c) f p l t s a e = absurd (f b c refl)
childless (Pair b c) f p l t s a e = absurd (p b c refl)
childless (ListCase x b tb m tm df dr) f p l t s a e = absurd (l x b tb m tm df dr refl)
childless (TruthCase x b tb g tg) f p l t s a e = absurd (t x b tb g tg refl)
childless (Split x i) f p l t s a e = absurd (s x i refl)
childless (Call c x y) f p l t s a e = refl
childless (Add m k) f p l t s a e = absurd (a m k refl)
childless (Each x c y d) f p l t s a e = absurd (e x c y d refl)
childless (Wide v) f p l t s a e = refl
