-- The last arm of a match on a node: the node is of no kind that has an arm before it.
use Rattle.std.specs.Prelude.{◌≡◌, refl, Bool, true, false, not, cond, List, [], ◌∷◌, ℕ, ◌+◌, ◌-◌, T, eqb}
use Rattle.std.proofs.Common.{subst, arith}
use mir.Val.{has_key}
use types.Run.{OneOf, miss}
use denote.Enum.Declared.{tag_of}
use Rattle.node.specs.contracts.Node as node
use Rattle.node.specs.Kinds.{row}
use Rattle.node.specs.declared.Node.{Node}
use Rattle.node.specs.declared.Node.TheVariants.{Var, False, True, Empty, Number, Front, Pair, ListCase, TruthCase, Split, Call, Add, Each, Wide}

-- the kind byte of a node, by its variant's number
kind_tag : (n : Node) → (row n).kind ≡ 16 + tag_of node.the_type n
kind_tag (Var x) = refl
kind_tag False = refl
kind_tag True = refl
kind_tag Empty = refl
kind_tag (Number v) = refl
kind_tag (Front a b) = refl
kind_tag (Pair a b) = refl
kind_tag (ListCase s e te n tn df dr) = refl
kind_tag (TruthCase s f tf g tg) = refl
kind_tag (Split s i) = refl
kind_tag (Call c x y) = refl
kind_tag (Add m k) = refl
kind_tag (Each s c x d) = refl
kind_tag (Wide v) = refl

-- numbers without one of them
abbrev without : ℕ → List ℕ → List ℕ
without k [] = []
without k (j ∷ l) = cond (eqb j k) (without k l) (j ∷ without k l)

none_left : (k : ℕ) (l : List ℕ) → T (not (has_key (without k l) k))
none_left k [] = tt
none_left k (j ∷ l) = go (eqb j k) refl (none_left k l)
  where
    go : (b : Bool) → eqb j k ≡ b → T (not (has_key (without k l) k)) → T (not (has_key (cond b (without k l) (j ∷ without k l)) k))
    go true e h = h
    go false e h = rw e h

-- the variants of all kinds, and of every kind but one
abbrev all : List ℕ
all = 0 ∷ 1 ∷ 2 ∷ 3 ∷ 4 ∷ 5 ∷ 6 ∷ 7 ∷ 8 ∷ 9 ∷ 10 ∷ 11 ∷ 12 ∷ 13 ∷ []

abbrev pub others : ℕ → List ℕ
others kind = without (kind - 16) all

-- a node of that kind does not come to the arm of all others
pub not_here : (kind : ℕ) (n : Node) → OneOf (others kind) (tag_of node.the_type n) → (row n).kind ≡ kind → ⊥
not_here kind n h e =
    let z : tag_of node.the_type n ≡ kind - 16 = omega (arith, kind_tag n) in
    miss (others kind) (kind - 16) (none_left (kind - 16) all) (subst (λ (x : ℕ). OneOf (others kind) x) z h)
