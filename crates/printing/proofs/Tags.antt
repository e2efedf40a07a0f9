-- What the last arm of a match on a node tells: it is of none of the kinds before.
-- Assumes nothing.
use mathlib.Core.Path.{◌≡◌, refl}
use Prim.Native.Nat.{ℕ}
use native.Mathlib.Omega.{arith}
use Rattle.node.specs.Kinds.{row}
use Rattle.node.specs.declared.Node.{Node}
use Rattle.node.specs.declared.Node.TheVariants.{Var, False, True, Empty, Number, Front, Pair, ListCase, TruthCase, Split, Call, Add, Each, Wide}
use Rattle.syntax.specs.Printer.{another, tail_of}

-- a node of a kind does not come to the arm of all others
pub not-front : (n : Node) → ((a b : ℕ) → n ≡ Front a b → ⊥) → (row n).kind ≡ 0x15 → ⊥
not-front (Var a) h e = omega arith
not-front False h e = omega arith
not-front True h e = omega arith
not-front Empty h e = omega arith
not-front (Number a) h e = omega arith
not-front (Front a b) h e = h a b refl
not-front (Pair a b) h e = omega arith
not-front (ListCase a b c d x y u) h e = omega arith
not-front (TruthCase a b c d x) h e = omega arith
not-front (Split a b) h e = omega arith
not-front (Call a b c) h e = omega arith
not-front (Add a b) h e = omega arith
not-front (Each a b c d) h e = omega arith
not-front (Wide a) h e = omega arith

pub not_pair : (n : Node) → ((a b : ℕ) → n ≡ Pair a b → ⊥) → (row n).kind ≡ 0x16 → ⊥
not_pair (Var a) h e = omega arith
not_pair False h e = omega arith
not_pair True h e = omega arith
not_pair Empty h e = omega arith
not_pair (Number a) h e = omega arith
not_pair (Front a b) h e = omega arith
not_pair (Pair a b) h e = h a b refl
not_pair (ListCase a b c d x y u) h e = omega arith
not_pair (TruthCase a b c d x) h e = omega arith
not_pair (Split a b) h e = omega arith
not_pair (Call a b c) h e = omega arith
not_pair (Add a b) h e = omega arith
not_pair (Each a b c d) h e = omega arith
not_pair (Wide a) h e = omega arith

pub not-list_case : (n : Node) → ((a b c d x y u : ℕ) → n ≡ ListCase a b c d x y u → ⊥) → (row n).kind ≡ 0x17 → ⊥
not-list_case (Var a) h e = omega arith
not-list_case False h e = omega arith
not-list_case True h e = omega arith
not-list_case Empty h e = omega arith
not-list_case (Number a) h e = omega arith
not-list_case (Front a b) h e = omega arith
not-list_case (Pair a b) h e = omega arith
not-list_case (ListCase a b c d x y u) h e = h a b c d x y u refl
not-list_case (TruthCase a b c d x) h e = omega arith
not-list_case (Split a b) h e = omega arith
not-list_case (Call a b c) h e = omega arith
not-list_case (Add a b) h e = omega arith
not-list_case (Each a b c d) h e = omega arith
not-list_case (Wide a) h e = omega arith

pub not-truth_case : (n : Node) → ((a b c d x : ℕ) → n ≡ TruthCase a b c d x → ⊥) → (row n).kind ≡ 0x18 → ⊥
not-truth_case (Var a) h e = omega arith
not-truth_case False h e = omega arith
not-truth_case True h e = omega arith
not-truth_case Empty h e = omega arith
not-truth_case (Number a) h e = omega arith
not-truth_case (Front a b) h e = omega arith
not-truth_case (Pair a b) h e = omega arith
not-truth_case (ListCase a b c d x y u) h e = omega arith
not-truth_case (TruthCase a b c d x) h e = h a b c d x refl
not-truth_case (Split a b) h e = omega arith
not-truth_case (Call a b c) h e = omega arith
not-truth_case (Add a b) h e = omega arith
not-truth_case (Each a b c d) h e = omega arith
not-truth_case (Wide a) h e = omega arith

pub not-split : (n : Node) → ((a b : ℕ) → n ≡ Split a b → ⊥) → (row n).kind ≡ 0x19 → ⊥
not-split (Var a) h e = omega arith
not-split False h e = omega arith
not-split True h e = omega arith
not-split Empty h e = omega arith
not-split (Number a) h e = omega arith
not-split (Front a b) h e = omega arith
not-split (Pair a b) h e = omega arith
not-split (ListCase a b c d x y u) h e = omega arith
not-split (TruthCase a b c d x) h e = omega arith
not-split (Split a b) h e = h a b refl
not-split (Call a b c) h e = omega arith
not-split (Add a b) h e = omega arith
not-split (Each a b c d) h e = omega arith
not-split (Wide a) h e = omega arith

pub not-add : (n : Node) → ((a b : ℕ) → n ≡ Add a b → ⊥) → (row n).kind ≡ 0x1B → ⊥
not-add (Var a) h e = omega arith
not-add False h e = omega arith
not-add True h e = omega arith
not-add Empty h e = omega arith
not-add (Number a) h e = omega arith
not-add (Front a b) h e = omega arith
not-add (Pair a b) h e = omega arith
not-add (ListCase a b c d x y u) h e = omega arith
not-add (TruthCase a b c d x) h e = omega arith
not-add (Split a b) h e = omega arith
not-add (Call a b c) h e = omega arith
not-add (Add a b) h e = h a b refl
not-add (Each a b c d) h e = omega arith
not-add (Wide a) h e = omega arith

pub not-each : (n : Node) → ((a b c d : ℕ) → n ≡ Each a b c d → ⊥) → (row n).kind ≡ 0x1C → ⊥
not-each (Var a) h e = omega arith
not-each False h e = omega arith
not-each True h e = omega arith
not-each Empty h e = omega arith
not-each (Number a) h e = omega arith
not-each (Front a b) h e = omega arith
not-each (Pair a b) h e = omega arith
not-each (ListCase a b c d x y u) h e = omega arith
not-each (TruthCase a b c d x) h e = omega arith
not-each (Split a b) h e = omega arith
not-each (Call a b c) h e = omega arith
not-each (Add a b) h e = omega arith
not-each (Each a b c d) h e = h a b c d refl
not-each (Wide a) h e = omega arith

-- a node that is neither a front nor the end
pub tail_other : (n : Node) → (n ≡ Empty → ⊥) → ((a b : ℕ) → n ≡ Front a b → ⊥) → tail_of n ≡ another
unfolding tail_of
tail_other (Var a) h k = refl
tail_other False h k = refl
tail_other True h k = refl
tail_other Empty h k = absurd (h refl)
tail_other (Number a) h k = refl
tail_other (Front a b) h k = absurd (k a b refl)
tail_other (Pair a b) h k = refl
tail_other (ListCase a b c d x y u) h k = refl
tail_other (TruthCase a b c d x) h k = refl
tail_other (Split a b) h k = refl
tail_other (Call a b c) h k = refl
tail_other (Add a b) h k = refl
tail_other (Each a b c d) h k = refl
tail_other (Wide a) h k = refl
