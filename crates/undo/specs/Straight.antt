-- Sheets that choose nothing: no node that a walk can reach is a 17, 18 or 1C (document 02, request 13). Every get of one node then takes as many steps.
use Rattle.std.specs.Prelude.{◌≡◌, Bool, ◌&&◌, not, T, eqb, get_or}
use Prim.Native.Nat.{ℕ}
use Rattle.value.specs.Value.{Value}
use Rattle.node.specs.declared.Node.{Node}
use Rattle.node.specs.declared.Node.TheVariants.{False}
use Rattle.node.specs.Kinds.{row, children, calls}
use Rattle.sheet.specs.Rows.{Every}
use Rattle.sheet.specs.Sheet.{Sheet}
use Rattle.rules.specs.Outcome.{Out}
use Rattle.rules.specs.Counting.{Env}
use Rattle.rules.specs.Laws.Outcomes.{After}
use Rattle.undo.specs.Alike.{Occurs}

-- neither 17 nor 18 nor 1C
abbrev pub straight : Node → Bool
straight n = not (eqb (row n).kind 0x17) && not (eqb (row n).kind 0x18) && not (eqb (row n).kind 0x1C)

-- the nodes that a walk may enter: the root; the children of such a node; and the roots of the sections that it calls
pub data Reached (sh : Sheet) : ℕ → Type 0 where
  root : Reached sh sh.root
  child : {n c : ℕ} → Reached sh n → Occurs c (children (get_or sh.nodes n False)) → Reached sh c
  called : {n s : ℕ} → Reached sh n → Occurs s (calls (get_or sh.nodes n False)) → Reached sh (get_or sh.sections s 0)

abbrev pub Straight : Sheet → Type 0
Straight sh = (n : ℕ) → Reached sh n → T (straight (get_or sh.nodes n False))

-- P holds of the nodes that a node enters, and the node chooses nothing
pub record Closed (P : ℕ → Type 0) (sh : Sheet) (nd : Node) : Type 0 where
  pub kind : T (straight nd)
  pub below : Every P (children nd)
  pub roots : Every (λ s. P (get_or sh.sections s 0)) (calls nd)

-- STEPS OF A GET

-- o, if it is done, takes the steps of every such get that is done
abbrev pub InStep : (Env → Out Value) → Out Value → Type 0
InStep G o = After (Unit {0}) (λ v s. (ν : Env) → After (Unit {0}) (λ u t. t ≡ s) (G ν)) o
