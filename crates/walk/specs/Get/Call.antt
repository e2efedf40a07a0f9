-- Calls: what get shows at each return, and what the section's root asks.
use Rattle.std.specs.Prelude.{◌≡◌, List, ℕ, suc, ◌+◌, ◌*◌, ◌≤◌, ◌<◌, length, get_or}
use Rattle.std.proofs.Common.{ap, ◌∙◌, le_refl, arith}
use Rattle.value.specs.Result.{ok}
use Rattle.value.specs.Value.{vfalse}
use Rattle.sheet.specs.Sheet.{Sheet, read_sheet}
use Rattle.sheet.specs.Table.{section_at}
use Rattle.sheet.specs.Laws.{sheet_ranges, section_read}
use Rattle.rules.specs.Semantics
use Rattle.rules.specs.Semantics.{Env, two}
use Rattle.rules.specs.Numbers.{chain_start}
use Rattle.scopes.specs.Scopes.{picked}
use Rattle.walk.specs.Decoded.{refused_decoded, decoded}
use Rattle.walk.specs.Arena.Parts.{kept_refl}
use Rattle.walk.specs.Arena.{Scoped, env_pick}
use Rattle.walk.specs.Arena.Bytes.{elem_at, elem_none}
use Rattle.walk.specs.Represents.{give_some, give_none}
use Rattle.walk.specs.Get.{Tabled, Known, own, run, Here, within_scope, Asked, Asks, Tells, ToldOf}
use Rattle.walk.specs.Get.Requires.{ready_in}
use Rattle.walk.specs.Get.Enter.{same_sheet}

-- the root of section c, and its node
module _ {s table : List ℕ} (t : Tabled s table) {c root : ℕ} (inside : c < length t.sh.sections) (is : root ≡ section_at s c) where
  pub root_read : {sh : Sheet} → read_sheet s ≡ ok sh → root ≡ get_or sh.sections c 0
  root_read e = is ∙ section_read s t.read c inside ∙ ap (λ (y : Sheet). get_or y.sections c 0) (same_sheet t e)

  pub root_known : root < length t.sh.nodes
  root_known = rw (root_read t.read) ((sheet_ranges s t.read).section c inside)

-- a call's section is there
pub call_section : (sh : Sheet) (s : List ℕ) {k : ℕ} (n : ℕ) → k ≡ 0x1A → Known sh (own k s n) → get_or s (n + 1) 0 < length sh.sections
call_section sh s n call known = (rw call at known.1).0

module _ {h : Here} {k n : ℕ} (_ : Asked h k n) (call : k ≡ 0x1A) where
  -- a variable of the two is not in scope
  pub call_42₁ : {r : ℕ} → h.scope.count ≤ get_or h.sheet (n + 2) 0 → r ≡ 42 → Tells h h.arena r k n
  unfolding run Semantics.get_node
  call_42₁ g e = rw call (record {
    kept = kept_refl h.top h.arena;
    told = λ sh es μ w. give_none _ _ (elem_none μ _ (omega (arith, w.count))) (ap (decoded _ _) e ∙ refused_decoded _ _ (omega arith) (omega arith));
  })

  pub call_42₂ : {r : ℕ} → get_or h.sheet (n + 2) 0 < h.scope.count → h.scope.count ≤ get_or h.sheet (n + 3) 0 → r ≡ 42 → Tells h h.arena r k n
  unfolding run Semantics.get_node
  call_42₂ f g e = rw call (record {
    kept = kept_refl h.top h.arena;
    told = λ sh es μ w. give_some _ _ (elem_at μ _ vfalse (omega (arith, w.count)))
        (give_none _ _ (elem_none μ _ (omega (arith, w.count))) (ap (decoded _ _) e ∙ refused_decoded _ _ (omega arith) (omega arith)));
  })

-- AT A STAGE: both variables are in scope, and `root` is the section's
pub record Looked (h : Here) (k n root : ℕ) : Type 0 where
  pub asked : Asked h k n
  pub call : k ≡ 0x1A
  pub first_in : get_or h.sheet (n + 2) 0 < h.scope.count
  pub second_in : get_or h.sheet (n + 3) 0 < h.scope.count
  pub root_is : root ≡ section_at h.sheet (get_or h.sheet (n + 1) 0)

module _ {h : Here} {k n root : ℕ} (w : Looked h k n root) where
  -- the section's scope
  abbrev pub section_here : Here
  section_here = within_scope h (picked h.scope (get_or h.sheet (n + 2) 0) (get_or h.sheet (n + 3) 0))

  env_few : {μ : Env} → Scoped h.arena h.scope h.top μ
      → Scoped h.arena section_here.scope h.top (two (get_or μ (get_or h.sheet (n + 2) 0) vfalse) (get_or μ (get_or h.sheet (n + 3) 0) vfalse))
  env_few e = env_pick e (omega (arith, e.count, w.first_in)) (omega (arith, e.count, w.second_in))

  pub call_asks : Asks section_here root
  call_asks =
      let a = w.asked in
      let y : h.scope.count + 2 * suc h.levels ≤ 112 = a.variables in
      let z : h.top + 513 * suc h.levels ≤ chain_start = a.room in
      ready_in a (kept_refl _ _) h.top h.levels h.left (le_refl _) (omega (arith, a.few)) (omega arith) (omega (arith, w.first_in))
      (root_known a.sheet (call_section a.sheet.sh h.sheet n w.call a.known) w.root_is) _ (env_few a.scoped)

  pub call_told : {a : List ℕ} {r : ℕ} → ToldOf section_here a r root → Tells h a r k n
  unfolding run Semantics.get_node
  call_told g = rw w.call (record {
    kept = g.kept;
    told = λ sh es μ e. give_some _ _ (elem_at μ _ vfalse (omega (arith, e.count, w.first_in)))
        (give_some _ _ (elem_at μ _ vfalse (omega (arith, e.count, w.second_in)))
        (rw (← root_read w.asked.sheet (call_section w.asked.sheet.sh h.sheet n w.call w.asked.known) w.root_is es)
        (g.told sh es _ (env_few e))));
  })
