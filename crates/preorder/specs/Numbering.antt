-- One numbering for a sheet (document 02, request 12): nodes are numbered as they are first met, from the main root downwards, a node before
-- its children, each child with all below it before the next, and then from each section's root in turn. Nodes never met are dropped.
use Rattle.std.specs.Prelude.{◌≡◌, ◌⊎◌, eqb}
use Rattle.std.proofs.Math.Path.{refl}
use Rattle.std.proofs.Common.{ap, inl, inr, eq-eqb, ne_eqb}
use Rattle.std.proofs.Math.Logic.{⊎_map}
use mathlib.Core.List.{List, [], ◌∷◌, ◌++◌, map}
use Prim.Native.Nat.{ℕ, zero, suc, ◌<◌}
use native.Mathlib.Omega.{arith}
use Rattle.std.proofs.Math.Decide.{ℕ_discrete}
use Rattle.std.proofs.Math.ListN.{length, get_or}
use Rattle.node.specs.declared.Node.{Node}
use Rattle.node.specs.declared.Node.TheVariants.{False}
use Rattle.node.specs.Kinds.{children}
use Rattle.sheet.specs.Renumbering.{renumber}
use Rattle.sheet.specs.Sheet.{Sheet}
use Rattle.sheet.specs.Rows.{Every}
use Rattle.rules.specs.Counting.{pick}
use Rattle.rules.specs.Explain.Chain.{◌∈◌, here, there}
use Rattle.rules.specs.Laws.Embedding.{itself}

-- THE NUMBERING

abbrev pub gathered : (ℕ → List ℕ) → List ℕ → List ℕ
gathered h [] = []
gathered h (n ∷ ns) = h n ++ gathered h ns

abbrev pub node_of : Sheet → ℕ → Node
node_of sh n = get_or sh.nodes n False

-- the nodes met from n downwards, in this order, with l levels. (Below a node there are nodes of higher numbers alone: as many levels as nodes are enough)
unfoldable pub met_from : ℕ → Sheet → ℕ → List ℕ
met_from zero sh n = []
met_from (suc l) sh n = n ∷ gathered (met_from l sh) (children (node_of sh n))

unfoldable pub roots : Sheet → List ℕ
roots sh = sh.root ∷ sh.sections

unfoldable pub order : Sheet → List ℕ
order sh = gathered (met_from (length sh.nodes) sh) (roots sh)

-- where n first stands in a list
unfoldable pub place_of : List ℕ → ℕ → ℕ
place_of [] n = 0
place_of (m ∷ ms) n = pick (eqb m n) (suc (place_of ms n)) 0

unfoldable pub new_number : Sheet → ℕ → ℕ
new_number sh = place_of (order sh)

unfoldable pub numbered : Sheet → Sheet
numbered sh = record {
  k = sh.k;
  root = new_number sh sh.root;
  sections = map (new_number sh) sh.sections;
  nodes = map (λ n. renumber (new_number sh) itself (node_of sh n)) (order sh);
}

-- LISTS

module _ {n : ℕ} where
  pub in_front : {xs : List ℕ} (ys : List ℕ) → n ∈ xs → n ∈ (xs ++ ys)
  in_front ys here = here
  in_front ys (there e) = there (in_front ys e)

  pub in_behind : (xs : List ℕ) {ys : List ℕ} → n ∈ ys → n ∈ (xs ++ ys)
  in_behind [] e = e
  in_behind (x ∷ xs) e = there (in_behind xs e)

  pub in_either : (xs ys : List ℕ) → n ∈ (xs ++ ys) → (n ∈ xs) ⊎ (n ∈ ys)
  in_either [] ys e = inr e
  in_either (x ∷ xs) ys here = inl here
  in_either (x ∷ xs) ys (there e) = ⊎_map there itself (in_either xs ys e)

  module _ (h : ℕ → List ℕ) where
    pub in_gathered : {c : ℕ} (cs : List ℕ) → c ∈ cs → n ∈ h c → n ∈ gathered h cs
    in_gathered {c = c} [] x'' e = elim x'' [ ]
    in_gathered (c ∷ cs) here e = in_front (gathered h cs) e
    in_gathered (m ∷ cs) (there i) e = in_behind (h m) (in_gathered cs i e)

    pub of_gathered : (cs : List ℕ) → n ∈ gathered h cs → (c : ℕ) × (c ∈ cs) × (n ∈ h c)
    of_gathered [] e = elim e [ ]
    of_gathered (c ∷ cs) e = go (λ i. of_gathered cs i) (in_either (h c) (gathered h cs) e)
      where
        go : (n ∈ gathered h cs → (d : ℕ) × (d ∈ cs) × (n ∈ h d)) → (n ∈ h c) ⊎ (n ∈ gathered h cs) → (d : ℕ) × (d ∈ (c ∷ cs)) × (n ∈ h d)
        go f (inl i) = (c, here, i)
        go f (inr i) = let (d, j, k) = f i in (d, there j, k)

-- P at every number of a list, and at each that is in it
pub every_at : (P : ℕ → Type 0) {n : ℕ} {l : List ℕ} → Every P l → n ∈ l → P n
every_at P h here = h.0
every_at P h (there e) = every_at P h.1 e

pub every_of : (P : ℕ → Type 0) (l : List ℕ) → ((n : ℕ) → n ∈ l → P n) → Every P l
every_of P [] h = tt
every_of P (n ∷ l) h = (h n here, every_of P l (λ m e. h m (there e)))

pub in_at : (l : List ℕ) (i : ℕ) → i < length l → get_or l i 0 ∈ l
in_at [] i h = absurd (omega arith)
in_at (n ∷ l) zero h = here
in_at (n ∷ l) (suc i) h = there (in_at l i (omega arith))

pub in_rest : {n m : ℕ} {l : List ℕ} → n ∈ (m ∷ l) → (m ≡ n → ⊥) → n ∈ l
in_rest here f = absurd (f refl)
in_rest (there e) f = e

-- places
pub place_first : (n : ℕ) (l : List ℕ) {m : ℕ} → m ≡ n → place_of (m ∷ l) n ≡ 0
unfolding place_of
place_first n l {m} e = rw (eq-eqb m n e)

pub place_later : {m n : ℕ} (l : List ℕ) → (m ≡ n → ⊥) → place_of (m ∷ l) n ≡ suc (place_of l n)
unfolding place_of
place_later {m} {n} l f = rw (ne_eqb m n f)

-- the entry at the place of n is that of n
pub place_at : {A : Type 0} (h : ℕ → A) (d : A) {n : ℕ} (l : List ℕ) → n ∈ l → get_or (map h l) (place_of l n) d ≡ h n
place_at {A = A} h d {n = n} [] e = elim e [ ]
place_at h d {n} (m ∷ l) e = go (λ i. place_at h d l i) (ℕ_discrete m n)
  where
    go : (n ∈ l → get_or (map h l) (place_of l n) d ≡ h n) → Dec (m ≡ n) → get_or (map h (m ∷ l)) (place_of (m ∷ l) n) d ≡ h n
    go f (yes q) = rw (place_first n l q) (ap h q)
    go f (no q) = rw (place_later l q) (f (in_rest e q))
