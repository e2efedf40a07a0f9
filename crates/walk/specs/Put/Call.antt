-- Calls: what each return of put shows, and what the section's root asks.
use Rattle.std.specs.Prelude.{◌≡◌, refl, List, ℕ, suc, ◌+◌, ◌*◌, ◌≤◌, ◌<◌, get_or}
use Rattle.std.proofs.Common.{ap, ◌∙◌, arith}
use Rattle.value.specs.Value.{Value, vfalse}
use Rattle.sheet.specs.Sheet.{Sheet}
use Rattle.sheet.specs.Table.{section_at}
use Rattle.rules.specs.Semantics
use Rattle.rules.specs.Semantics.{Env, two}
use Rattle.rules.specs.Explain.{Cells}
use Rattle.rules.specs.Numbers.{chain_start}
use Rattle.scopes.specs.Scopes.{picked, picked_two}
use Rattle.walk.specs.Decoded.{refused_decoded, decoded}
use Rattle.walk.specs.Arena.{env_pick}
use Rattle.walk.specs.Arena.Bytes.{elem_at, elem_none}
use Rattle.walk.specs.Represents.{give_some, give_none}
use Rattle.walk.specs.Arena.Frames.{frame_refl}
use Rattle.walk.specs.Arena.CellLaws.{named_pick}
use Rattle.walk.specs.Get.Call.{root_read, root_known, call_section}
use Rattle.walk.specs.Put.{enter, run, Given, PutHere, put_within, PutAsked, PutAsks, PutTold, PutTells}

module _ {h : PutHere} {P : Value → Type 0} {x k n : ℕ} (_ : PutAsked h P x k n) (call : k ≡ 0x1A) where
  pub call_42₁ : {r : ℕ} → h.scope.count ≤ get_or h.sheet (n + 2) 0 → r ≡ 42 → PutTells h P h.arena h.slots r x k n
  unfolding run Semantics.put_node
  call_42₁ g e = rw call (record {
    frame = frame_refl _ _;
    long = refl;
    told = λ {μ = μ} m. give_none 42 _ (elem_none μ _ (omega (arith, m.scoped.count))) (ap (decoded _ _) e ∙ refused_decoded _ _ (omega arith) (omega arith));
  })

  pub call_42₂ : {r : ℕ} → get_or h.sheet (n + 2) 0 < h.scope.count → h.scope.count ≤ get_or h.sheet (n + 3) 0 → r ≡ 42
      → PutTells h P h.arena h.slots r x k n
  unfolding run Semantics.put_node
  call_42₂ f g e = rw call (record {
    frame = frame_refl _ _;
    long = refl;
    told = λ {μ = μ} {σ = σ} m.
        give_some 42 _ (elem_at μ _ vfalse (omega (arith, m.scoped.count))) (give_some 42 _ (elem_at σ _ 0 (omega (arith, m.scoped.count, m.as_many)))
        (give_none 42 _ (elem_none μ _ (omega (arith, m.scoped.count))) (ap (decoded _ _) e ∙ refused_decoded _ _ (omega arith) (omega arith))));
  })

-- AT A STAGE: both variables are in scope, and `root` is the section's
pub record PutLooked (h : PutHere) (P : Value → Type 0) (x k n root : ℕ) : Type 0 where
  pub asked : PutAsked h P x k n
  pub call : k ≡ 0x1A
  pub first_in : get_or h.sheet (n + 2) 0 < h.scope.count
  pub second_in : get_or h.sheet (n + 3) 0 < h.scope.count
  pub root_is : root ≡ section_at h.sheet (get_or h.sheet (n + 1) 0)

module _ {h : PutHere} {P : Value → Type 0} {x k n root : ℕ} (w : PutLooked h P x k n root) where
  -- the section's scope, and the caller's cells
  abbrev pub section_here : PutHere
  section_here = put_within h (picked h.scope (get_or h.sheet (n + 2) 0) (get_or h.sheet (n + 3) 0))
      (picked_two h.cells (get_or h.sheet (n + 2) 0) (get_or h.sheet (n + 3) 0)) h.slots h.count

  given_few : {sh : Sheet} {μ : Env} {σ : List ℕ} {v : Value} {W : Cells}
      → Given h.arena h.slots h.sheet P h.scope h.cells h.count h.count h.top sh μ σ v W
      → Given h.arena h.slots h.sheet P section_here.scope section_here.cells h.count h.count h.top sh
      (two (get_or μ (get_or h.sheet (n + 2) 0) vfalse) (get_or μ (get_or h.sheet (n + 3) 0) vfalse))
      (two (get_or σ (get_or h.sheet (n + 2) 0) 0) (get_or σ (get_or h.sheet (n + 3) 0) 0)) v W
  given_few g = record {
    read = g.read;
    scoped = env_pick g.scoped (omega (arith, g.scoped.count, w.first_in)) (omega (arith, g.scoped.count, w.second_in));
    named = named_pick g.named (omega (arith, g.as_many, g.scoped.count, w.first_in)) (omega (arith, g.as_many, g.scoped.count, w.second_in));
    as_many = refl;
    written = g.written;
    shown = g.shown;
  }

  pub call_asks : PutAsks section_here P (enter root)
  call_asks =
      let a = w.asked in
      let x : h.scope.count + 2 * suc h.levels ≤ 112 = a.variables in
      let y : h.count + 2 * suc h.levels ≤ 112 = a.more_cells in
      let z : h.top + 513 * suc h.levels ≤ chain_start = a.room in
      record {
        long = a.long;
        few = omega (arith, a.few);
        base = a.base;
        room = omega arith;
        variables = omega (arith, w.first_in);
        more_cells = omega arith;
        sheet = a.sheet;
        known = root_known a.sheet (call_section a.sheet.sh h.sheet n w.call a.known.1) w.root_is;
        env = _;
        names = _;
        value = _;
        cells_now = _;
        given = given_few a.given;
      }

  pub call_told : {a slots : List ℕ} {r : ℕ} → PutTold section_here P a slots r (enter root) → PutTells h P a slots r x k n
  unfolding run Semantics.put_node
  call_told g = rw w.call (record {
    frame = g.frame;
    long = g.long;
    told = λ {μ = μ} {σ = σ} m.
        give_some 42 _ (elem_at μ _ vfalse (omega (arith, m.scoped.count, w.first_in)))
        (give_some 42 _ (elem_at σ _ 0 (omega (arith, m.as_many, m.scoped.count, w.first_in)))
        (give_some 42 _ (elem_at μ _ vfalse (omega (arith, m.scoped.count, w.second_in)))
        (give_some 42 _ (elem_at σ _ 0 (omega (arith, m.as_many, m.scoped.count, w.second_in)))
        (rw (← root_read w.asked.sheet (call_section w.asked.sheet.sh h.sheet n w.call w.asked.known.1) w.root_is m.read)
        (g.told (given_few m))))));
  })
