-- Soundness: in a sheet that passed, a node that is reached gives values of its type, keeps cells to theirs, and is refused only as allowed.
use Rattle.std.specs.Prelude.{◌≡◌, List, length}
use Rattle.std.proofs.Math.Option.{Option, none, some}
use Prim.Native.Nat.{ℕ, ◌<◌}
use Rattle.std.proofs.Math.ListN.{get_elem?}
use Rattle.value.specs.Value.{Value}
use Rattle.node.specs.declared.Node.{Node}
use Rattle.sheet.specs.Sheet.{Sheet}
use Rattle.rules.specs.Semantics.{Env, two}
use Rattle.rules.specs.Explain.{Cell}
use Rattle.rules.specs.Laws.Related.{All2}
use Rattle.typing.specs.Types.{Ty, Of}
use Rattle.typing.specs.Fits.{Lent, Scope, root_of, type_of, section_of, places, In}
use Rattle.typing.specs.Judging.{Cells, Getter, Putter}
use Rattle.typing.specs.Ends.{Inside, Always}

-- the values of a scope's variables
abbrev pub Scoped : (P : ℕ → Type 0) → Scope → Env → Type 0
Scoped P Γ μ = All2 (Of P) Γ μ

module _ (sh : Sheet) (ts : Lent) (P : ℕ → Type 0) where
  -- of the children of a node, and of the roots of the sections that it calls
  pub record Gets (nd : Node) (t : Ty) (Γ : Scope) (g : Getter) : Type 0 where
    pub child : {m : ℕ} {Δ : Scope} {ν : Env} → In (m, Δ) (places ts nd t Γ) → Scoped P Δ ν → Always (Inside sh P nd) (Of P (type_of ts m)) (g m ν)
    pub root : (c : ℕ) {ν : Env} → c < length sh.sections → Scoped P (two (section_of ts c).first (section_of ts c).second) ν
        → Always (Inside sh P nd) (Of P (section_of ts c).result) (g (root_of sh c) ν)

-- PUT

-- what a cell for values of the type t holds
pub data CellOf (P : ℕ → Type 0) (t : Ty) : Option Cell → Type 0 where
  blank : CellOf P t none
  full : {w : Cell} → Of P t w.value → CellOf P t (some w)

-- the cells of these types
abbrev pub Held : (P : ℕ → Type 0) → List Ty → Cells → Type 0
Held P Θ W = All2 (CellOf P) Θ W

-- each variable's cell is there, and of its type
abbrev pub Named : List Ty → Scope → List ℕ → Type 0
Named Θ Γ σ = All2 (λ t c. get_elem? Θ c ≡ some t) Γ σ

pub record At (P : ℕ → Type 0) (Θ : List Ty) (Γ : Scope) (μ : Env) (σ : List ℕ) : Type 0 where
  pub values : Scoped P Γ μ
  pub cells : Named Θ Γ σ

module _ (sh : Sheet) (ts : Lent) (P : ℕ → Type 0) where
  pub record Puts (nd : Node) (t : Ty) (Γ : Scope) (p : Putter) : Type 0 where
    pub child : {m : ℕ} {Δ : Scope} {ν : Env} {ρ : List ℕ} {u : Value} {Θ : List Ty} {X : Cells} → In (m, Δ) (places ts nd t Γ)
        → At P Θ Δ ν ρ → Of P (type_of ts m) u → Held P Θ X → Always (Inside sh P nd) (Held P Θ) (p m ν ρ u X)
    pub root : (c : ℕ) {ν : Env} {ρ : List ℕ} {u : Value} {Θ : List Ty} {X : Cells} → c < length sh.sections
        → At P Θ (two (section_of ts c).first (section_of ts c).second) ν ρ → Of P (section_of ts c).result u → Held P Θ X
        → Always (Inside sh P nd) (Held P Θ) (p (root_of sh c) ν ρ u X)
