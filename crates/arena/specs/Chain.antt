-- The chain of a refusal in the arena, and the answer of a node that is left.
use Rattle.std.specs.Prelude.{◌≡◌, true, false, cond, List, ℕ, ◌+◌, ◌-◌, ◌%◌, ◌≤◌, ◌<◌, leb, length, set}
use Rattle.std.proofs.Common.{sym, ◌∙◌, le-leb}
use Rattle.std.proofs.lemmas.Bool.{lt-leb}
use Rattle.std.proofs.Math.Seq.{set_out}
use Rattle.outcome.specs.Outcome.{is_refusal, deeper_as, later_as}
use Rattle.rules.specs.Numbers.{level_limit, chain_start}

-- where a node has its place in the chain that was entered with l levels left: the root is the first of 49
abbrev pub chain_at : ℕ → ℕ
chain_at l = chain_start + level_limit - l

-- the node x at its place
unfoldable pub in_chain : (a : List ℕ) (x l : ℕ) → List ℕ
in_chain a x l = cond (leb l (chain_start + level_limit)) (set a (chain_at l) (x % 256)) a

-- the way out of the node x with the answer g: of a refusal the chain has the node
unfoldable pub chained : (a : List ℕ) (g x l : ℕ) → List ℕ
chained a g x l = cond (is_refusal g) (in_chain a x l) a

-- and is one node longer; a success took a step more
unfoldable pub left_as : ℕ → ℕ
left_as g = cond (is_refusal g) (deeper_as g) (later_as g 1)

-- LAWS, for the code here and for callers

module _ (a : List ℕ) (x l : ℕ) where
  pub in_place : l ≤ chain_start + level_limit → set a (chain_at l) (x % 256) ≡ in_chain a x l
  unfolding in_chain
  in_place h = rw (le-leb l (chain_start + level_limit) h)

  pub no_place : chain_start + level_limit < l → a ≡ in_chain a x l
  unfolding in_chain
  no_place h = rw (lt-leb l (chain_start + level_limit) h)

  pub place_out : l ≤ chain_start + level_limit → length a ≤ chain_at l → a ≡ in_chain a x l
  place_out h o = sym (set_out a (chain_at l) (x % 256) o) ∙ in_place h

-- a refusal, and a success
module _ (a : List ℕ) (g x l : ℕ) where
  pub chained_refused : is_refusal g ≡ true → chained a g x l ≡ in_chain a x l
  unfolding chained
  chained_refused e = rw e

  pub chained_done : is_refusal g ≡ false → chained a g x l ≡ a
  unfolding chained
  chained_done e = rw e

pub left_refused : (g : ℕ) → is_refusal g ≡ true → left_as g ≡ deeper_as g
unfolding left_as
left_refused g e = rw e

pub left_done : (g : ℕ) → is_refusal g ≡ false → left_as g ≡ later_as g 1
unfolding left_as
left_done g e = rw e

-- what `leave` answers
pub ruleset leaving = (chained_refused, chained_done, left_refused, left_done)
