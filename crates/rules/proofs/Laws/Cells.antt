-- How a put may change cells; and who is named where a variable's cell has another value.
use Rattle.std.specs.Prelude.{◌≡◌, refl, List, ◌++◌, ℕ, zero, suc, length, take, set, replicate}
use Rattle.std.proofs.Math.Option.{Option, none, some}
use Rattle.std.proofs.Common.{arith}
use Rattle.std.proofs.Math.ListN.{get_elem?}
use Rattle.value.specs.Value.{Value, same_value}
use Rattle.node.specs.declared.Node.TheVariants.{Var}
use Rattle.sheet.specs.Sheet.{Sheet}
use Rattle.rules.specs.Outcome.{when}
use Rattle.rules.specs.Semantics
use Rattle.rules.specs.Semantics.{Env}
use Rattle.rules.specs.Explain.{met, wanted, Cell, Cells, Getter, Putter, put_node, own}
use Rattle.rules.specs.Laws.Related.{ends, more}
use Rattle.rules.proofs.Laws.Related.{all2_flip, all2_take, all2_set, all2_self, all2_join}
use Rattle.rules.specs.Laws.Cells.{Grew, stays, wrote, Grows, WrittenBy, blank, empty, held}

module _ {C : Type 0} {B : C → Type 0} where
  -- a cell once written is left as it is
  pub grew_kept : {o q : Option C} {w : C} → Grew B o q → o ≡ some w → q ≡ some w
  grew_kept stays e = e
  grew_kept (wrote b) e = let z : ◌≡◌ {A = ℕ} 0 1 = cc in absurd (omega arith)

  grew_trans : (o q r : Option C) → Grew B o q → Grew B q r → Grew B o r
  grew_trans o q r stays k = k
  grew_trans o q r (wrote b) stays = wrote b

  pub grows_refl : (W : List (Option C)) → Grows B W W
  grows_refl = all2_self λ o. stays

  pub grows_trans : {W X Y : List (Option C)} → Grows B W X → Grows B X Y → Grows B W Y
  grows_trans = all2_join grew_trans

  pub grows_take : (W Z : List (Option C)) {X : List (Option C)} → Grows B (W ++ Z) X → Grows B W (take (length W) X)
  grows_take W Z h = all2_flip (all2_take W Z (all2_flip h))

  pub grows_set : (W : List (Option C)) (c : ℕ) (w : C) → get_elem? W c ≡ some none → B w → Grows B W (set W c (some w))
  grows_set W c w e b = all2_flip (all2_set c (some w) (all2_flip (grows_refl W)) e (wrote b))

  pub written_grown : {W X : List (Option C)} → Grows B W X → WrittenBy B W → WrittenBy B X
  written_grown ends k = k
  written_grown (more stays h) (blank k) = blank (written_grown h k)
  written_grown (more stays h) (held b k) = held b (written_grown h k)
  written_grown (more (wrote b) h) (blank k) = held b (written_grown h k)

  pub written_append : {W Z : List (Option C)} → WrittenBy B W → WrittenBy B Z → WrittenBy B (W ++ Z)
  written_append empty k = k
  written_append (blank h) k = blank (written_append h k)
  written_append (held b h) k = held b (written_append h k)

  pub written_at : {W : List (Option C)} (c : ℕ) (w : C) → WrittenBy B W → get_elem? W c ≡ some (some w) → B w
  written_at c w empty e = let z : ◌≡◌ {A = ℕ} 0 1 = cc in absurd (omega arith)
  written_at zero w (blank h) e = let z : ◌≡◌ {A = ℕ} 0 1 = cc in absurd (omega arith)
  written_at zero w (held {w = x} b h) e = let z : x ≡ w = cc in rw z at b
  written_at (suc c) w (blank h) e = written_at c w h e
  written_at (suc c) w (held b h) e = written_at c w h e

pub written_blank : {C : Type 0} (B : C → Type 0) (n : ℕ) → WrittenBy B (replicate n none)
written_blank B zero = empty
written_blank B (suc n) = blank (written_blank B n)

-- WHO IS NAMED: a variable's view that differs from what its cell holds is refused with 54, and the node named is the one that wrote the cell

when_not : {P : Type 0} (d : Dec P) → (P → ⊥) → when d ≡ none
unfolding when
when_not (yes p) n = absurd (n p)
when_not (no p) n = refl

pub writer_named : (n x c : ℕ) (g : Getter) (p : Putter) (sh : Sheet) (μ : Env) (σ : List ℕ) (v : Value) (W : Cells) (w : Cell) (left : ℕ)
    → get_elem? σ x ≡ some c → get_elem? W c ≡ some (some w) → (w.value ≡ v → ⊥) → put_node n g p sh (Var x) μ σ v W left ≡ met (own 54 (some w.by)) 0
unfolding Semantics.put_node Semantics.write wanted
writer_named n x c g p sh μ σ v W w left s h differs = rw (s, wanted, h, Semantics.write, when_not (same_value w.value v) differs) refl
