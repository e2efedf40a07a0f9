-- The answer of the check, as the code gives it; and what is known where it is given.
use Rattle.std.specs.Prelude.{◌≡◌, List, get_or, drop}
use Rattle.std.proofs.Math.Path.{refl}
use Rattle.std.proofs.Common.{◌∙◌, zero-add, get_or-take, get_or-drop}
use Rattle.std.proofs.Math.Option.{Option, none, some}
use Prim.Native.Nat.{ℕ, zero, suc, ◌+◌, ◌*◌, ◌≤◌, ◌<◌}
use Rattle.std.proofs.Math.Nat.{add-zero}
use native.Mathlib.Omega.{arith}
use Rattle.std.proofs.Math.ListN.{length, length-take}
use borrow.Author.Tests.{ltb-false}
use Rattle.value.specs.Result.{ok, refusal, map_result}
use Rattle.sheet.specs.Sheet.{Sheet, read_sheet}
use Rattle.sheet.specs.Table.{table_of}
use Rattle.sheet.specs.Laws.{Reads, Ranges, sheet_ranges, table_refused}
use Rattle.sheet.specs.declared.Table.{Table}
use Rattle.typing.specs.Numbers.{past_slots}
use Rattle.typing.specs.Types.{Ty, truths}
use Rattle.typing.specs.Fits.{Section, section_of}
use Rattle.typing.specs.Check.{apart, read_all, threes, many, lent_of, twice, unfit, lowest, Verdict, passes, refused, refused_at, unless_at, check_sheet}
use Rattle.typing.specs.Check.{on_types, on_sheet, check}
use Rattle.typing.proofs.CheckLaws.{OnceBelow, Lowest, no_such, lowest_is, Says, all_right, used_twice, not_right}
use Rattle.typing.proofs.Calls.{Judges, no_sheet, no_types, judged, check_judges}
use Rattle.typing.proofs.Written.{types_read}
use Rattle.types.specs.Slots.{At, Laid, lent_below, Slotted}
use Rattle.types.specs.SlotsLaws.{clamp_before, clamp_in, clamp_past}
use Rattle.types.specs.Uses.{lowest_in}
use Rattle.types.specs.Unfit.{Ready}
use Rattle.types.specs.declared.Misfit.{Misfit}
use Rattle.refusal.specs.declared.Refusal.{Refusal}
use Rattle.refusal.specs.Refusal.{number_of}
use Rattle.std.specs.Prelude.{None, Some, Result as Answer, Ok, Err}
use Rattle.std.specs.Prelude as Code

-- a refusal about no node
abbrev pub about_none : Refusal → Misfit
about_none r = record { refusal = r; node = None }

-- what the code answers, as the definition says it: a refusal by its number, and the node told beside it
abbrev pub told_of : ℕ → Code.Option ℕ → Verdict
told_of c None = refused c
told_of c (Some n) = refused_at c n

abbrev pub verdict_of : Answer Unit Misfit → Verdict
verdict_of (Ok u) = passes
verdict_of (Err m) = told_of (number_of m.refusal) m.node

-- the number of each case in document 02, 0 for a sheet that passes; and the node that is told beside it
unfoldable pub code_of : Verdict → ℕ
code_of passes = 0
code_of (refused c) = c
code_of (refused_at c n) = c

unfoldable pub node_told : Verdict → ℕ
node_told passes = 0
node_told (refused c) = 0
node_told (refused_at c n) = n

-- WHERE TYPES STAND

module _ (k sections nodes : ℕ) (few : k ≤ 16) (few_sections : sections ≤ 8) where
  slot_plan : (x : ℕ) → x ≤ k → lent_below k sections nodes x ≡ x
  unfolding lent_below
  slot_plan x h =
      let a = clamp_in 0 k x (omega arith) (omega arith) in let b = clamp_before 16 (3 * sections) x (omega arith) in
      let c = clamp_before 40 (suc nodes) x (omega arith) in omega arith

  slot_section : (j : ℕ) → j ≤ 3 * sections → lent_below k sections nodes (16 + j) ≡ k + j
  unfolding lent_below
  slot_section j h =
      let a = clamp_past 0 k (16 + j) (omega arith) in let b = clamp_in 16 (3 * sections) (16 + j) (omega arith) (omega arith) in
      let c = clamp_before 40 (suc nodes) (16 + j) (omega arith) in omega arith

  slot_node : (j : ℕ) → j ≤ suc nodes → lent_below k sections nodes (40 + j) ≡ k + 3 * sections + j
  unfolding lent_below
  slot_node j h =
      let a = clamp_past 0 k (40 + j) (omega arith) in let b = clamp_past 16 (3 * sections) (40 + j) (omega arith) in
      let c = clamp_in 40 (suc nodes) (40 + j) (omega arith) (omega arith) in omega arith

  slots_all : nodes ≤ 200 → lent_below k sections nodes past_slots ≡ k + 3 * sections + 1 + nodes
  unfolding lent_below
  slots_all h =
      let a = clamp_past 0 k past_slots (omega arith) in let b = clamp_past 16 (3 * sections) past_slots (omega arith) in
      let c = clamp_past 40 (suc nodes) past_slots (omega arith) in omega arith

  module _ {types starts : List ℕ} {ts : List Ty} (few_nodes : nodes ≤ 200) (z : Slotted types starts (lent_below k sections nodes) ts) where
    at_plan : (x : ℕ) → x < k → At types starts x (get_or ts x truths)
    at_plan x h =
        let n : lent_below k sections nodes (x + 1) ≡ suc (lent_below k sections nodes x) = slot_plan (x + 1) (omega arith)
        ∙ (let e = slot_plan x (omega arith) in omega arith) in
        rw (slot_plan x (omega arith)) at (z.at x (omega arith) n)

    at_section : (j : ℕ) → j < 3 * sections → At types starts (16 + j) (get_or ts (k + j) truths)
    at_section j h =
        let e = slot_section j (omega arith) in let f = slot_section (j + 1) (omega arith) in let y : 16 + (j + 1) ≡ 16 + j + 1 = omega arith in
        let n : lent_below k sections nodes (16 + j + 1) ≡ suc (lent_below k sections nodes (16 + j)) = (rw y at f) ∙ (omega arith) in
        rw e at (z.at (16 + j) (omega arith) n)

    at_node : (j : ℕ) → j < suc nodes → At types starts (40 + j) (get_or ts (k + 3 * sections + j) truths)
    at_node j h =
        let e = slot_node j (omega arith) in let f = slot_node (j + 1) (omega arith) in let y : 40 + (j + 1) ≡ 40 + j + 1 = omega arith in
        let n : lent_below k sections nodes (40 + j + 1) ≡ suc (lent_below k sections nodes (40 + j)) = (rw y at f) ∙ (omega arith) in
        rw e at (z.at (40 + j) (omega arith) n)

-- three types of a section
abbrev three : List Ty → ℕ → Section
three l c = record { first = get_or l (3 * c) truths; second = get_or l (3 * c + 1) truths; result = get_or l (3 * c + 2) truths }

threes_at : (n : ℕ) (l : List Ty) (c : ℕ) (d : Section) → c < n → get_or (threes n l) c d ≡ three l c
unfolding threes
threes_at zero l c d h = absurd (omega arith)
threes_at (suc n) l zero d h = refl
threes_at (suc n) l (suc c) d h =
    let y : 3 + 3 * c ≡ 3 * suc c = omega arith in let y₁ : 3 + (3 * c + 1) ≡ 3 * suc c + 1 = omega arith in
    let y₂ : 3 + (3 * c + 2) ≡ 3 * suc c + 2 = omega arith in
    threes_at n (drop 3 l) c d (omega arith) ∙ rw (
      get_or-drop 3 l (3 * c) truths,
      get_or-drop 3 l (3 * c + 1) truths,
      get_or-drop 3 l (3 * c + 2) truths,
      y,
      y₁,
      y₂,
    )

module _ (sh : Sheet) (g : Ranges sh) {types starts : List ℕ} (ts : List Ty)
    (z : Slotted types starts (lent_below sh.k (length sh.sections) (length sh.nodes)) ts) where
  as_many : length ts ≡ sh.k + 3 * length sh.sections + 1 + length sh.nodes
  as_many = (types_read _ types z.read).many ∙ slots_all sh.k (length sh.sections) (length sh.nodes) g.few_variables g.few_sections
      g.few_nodes

  pub plan_long : length (lent_of sh ts).plan ≡ sh.k
  unfolding lent_of
  plan_long = omega (arith, length-take sh.k ts, as_many)

  section_is : (c : ℕ) → c < length sh.sections → section_of (lent_of sh ts) c ≡ three (drop sh.k ts) c
  unfolding lent_of
  section_is c h = threes_at (length sh.sections) (drop sh.k ts) c _ h

  at_three : (c j : ℕ) → c < length sh.sections → j ≤ 2 → At types starts (16 + 3 * c + j) (get_or (drop sh.k ts) (3 * c + j) truths)
  at_three c j h l =
      let y : 16 + (3 * c + j) ≡ 16 + 3 * c + j = omega arith in
      rw (get_or-drop sh.k ts (3 * c + j) truths, ← y)
      (at_section sh.k (length sh.sections) (length sh.nodes) g.few_variables g.few_sections g.few_nodes z (3 * c + j) (omega arith))

  pub lent_laid : Laid types starts (length sh.sections) (length sh.nodes) (lent_of sh ts)
  unfolding lent_of
  lent_laid = record {
    few_variables = omega (arith, plan_long, g.few_variables);
    few_sections = g.few_sections;
    few_nodes = g.few_nodes;
    plan = λ x h. let l : x < sh.k = omega (arith, plan_long) in
        rw (get_or-take sh.k ts x truths l)
        (at_plan sh.k (length sh.sections) (length sh.nodes) g.few_variables g.few_sections g.few_nodes z x l);
    first = λ c h. rw (section_is c h) (rw (add-zero (16 + 3 * c), add-zero (3 * c)) at (at_three c 0 h (omega arith)));
    second = λ c h. rw (section_is c h) (at_three c 1 h (omega arith));
    result = λ c h. rw (section_is c h) (at_three c 2 h (omega arith));
    view = rw (add-zero (sh.k + 3 * length sh.sections)) at (nodes_at 0 (omega arith));
    node = λ n h. go n h;
  }
    where
      nodes_at : (j : ℕ) → j < suc (length sh.nodes) → At types starts (40 + j) (get_or ts (sh.k + 3 * length sh.sections + j) truths)
      nodes_at = at_node sh.k (length sh.sections) (length sh.nodes) g.few_variables g.few_sections g.few_nodes z

      go : (n : ℕ) → n < length sh.nodes → At types starts (41 + n) (get_or (drop (sh.k + 3 * length sh.sections + 1) ts) n truths)
      go n h =
          let y : 40 + (1 + n) ≡ 41 + n = omega arith in
          let x : sh.k + 3 * length sh.sections + (1 + n) ≡ sh.k + 3 * length sh.sections + 1 + n = omega arith in
          rw (get_or-drop (sh.k + 3 * length sh.sections + 1) ts n truths, ← x, ← y) (nodes_at (1 + n) (omega arith))

-- THE ANSWERS

pub check_refused : (sheet : List ℕ) {c : ℕ} (types : List ℕ) → refusal c ≡ map_result table_of (read_sheet sheet) → refused c ≡ check sheet types
unfolding check on_sheet
check_refused sheet types e = rw (table_refused sheet e)

module _ {sheet : List ℕ} {t : Table} {sh : Sheet} (r : Reads sheet t sh) where
  all_lent : lent_below t.k t.sections t.nodes past_slots ≡ many sh
  unfolding many
  all_lent = rw (r.k, r.sections, r.nodes)
      (slots_all sh.k (length sh.sections) (length sh.nodes) r.ranges.few_variables r.ranges.few_sections r.ranges.few_nodes)

  pub reads_few : (t.k ≤ 16) × (t.sections ≤ 8)
  reads_few = (omega (arith, r.k, r.ranges.few_variables), omega (arith, r.sections, r.ranges.few_sections))

  pub reads_nodes : t.nodes ≤ 200
  reads_nodes = omega (arith, r.nodes, r.ranges.few_nodes)

  pub check_80 : (types : List ℕ) → read_all (lent_below t.k t.sections t.nodes past_slots) types ≡ none → refused 80 ≡ check sheet types
  unfolding check on_sheet on_types
  check_80 types e = rw (r.sheet, rw all_lent at e)

  module _ {types starts : List ℕ} {ts : List Ty} (z : Slotted types starts (lent_below t.k t.sections t.nodes) ts) where
    pub slotted : Slotted types starts (lent_below sh.k (length sh.sections) (length sh.nodes)) ts
    slotted = rw (r.k, r.sections, r.nodes) at z

    is_checked : check sheet types ≡ check_sheet sh (lent_of sh ts)
    unfolding check on_sheet on_types
    is_checked = rw (r.sheet, rw all_lent at z.read)

    pub check_81 : {n : ℕ} → Some n ≡ lowest_in (lowest (twice sh) 0 (length sh.nodes)) → refused_at 81 n ≡ check sheet types
    unfolding check_sheet unless_at lowest_in
    check_81 {n} e = rw is_checked (go (lowest (twice sh) 0 (length sh.nodes)) e)
      where
        go : (o : Option ℕ) → Some n ≡ lowest_in o
            → refused_at 81 n ≡ unless_at 81 o (unless_at 82 (lowest (unfit sh (lent_of sh ts)) 0 (length sh.nodes)) passes)
        go none e = apart (cc)
        go (some m) e = let q : n ≡ m = cc in rw q

    -- no node is used twice
    pub once : {p : ℕ} → Lowest (twice sh) 0 p none → OnceBelow sh (lent_of sh ts) p
    unfolding twice
    once (no_such h) = λ m lt. ltb-false 1 _ (h m (omega arith) lt)

    abbrev pub ready_of : lowest (twice sh) 0 (length sh.nodes) ≡ none → Ready sheet t types starts
    ready_of e = record {
      sh = sh;
      ts = lent_of sh ts;
      reads = r;
      laid = lent_laid sh r.ranges ts slotted;
      planned = plan_long sh r.ranges ts slotted;
      once = once (rw (zero-add (length sh.nodes), e) at (lowest_is (twice sh) 0 (length sh.nodes)));
    }

    pub none-twice : None ≡ lowest_in (lowest (twice sh) 0 (length sh.nodes)) → lowest (twice sh) 0 (length sh.nodes) ≡ none
    unfolding lowest_in
    none-twice e = go (lowest (twice sh) 0 (length sh.nodes)) e
      where
        go : (o : Option ℕ) → None ≡ lowest_in o → o ≡ none
        go none e = refl
        go (some m) e = apart (cc)

    module _ (u : lowest (twice sh) 0 (length sh.nodes) ≡ none) where
      pub check_82 : {n : ℕ} → Some n ≡ lowest_in (lowest (unfit sh (lent_of sh ts)) 0 (length sh.nodes)) → refused_at 82 n ≡ check sheet types
      unfolding check_sheet unless_at lowest_in
      check_82 {n} e = rw (is_checked, u) (go (lowest (unfit sh (lent_of sh ts)) 0 (length sh.nodes)) e)
        where
          go : (o : Option ℕ) → Some n ≡ lowest_in o → refused_at 82 n ≡ unless_at 81 none (unless_at 82 o passes)
          go none e = apart (cc)
          go (some m) e = let q : n ≡ m = cc in rw q

      pub check-passes : None ≡ lowest_in (lowest (unfit sh (lent_of sh ts)) 0 (length sh.nodes)) → passes ≡ check sheet types
      unfolding check_sheet unless_at lowest_in
      check-passes e = rw (is_checked, u) (go (lowest (unfit sh (lent_of sh ts)) 0 (length sh.nodes)) e)
        where
          go : (o : Option ℕ) → None ≡ lowest_in o → passes ≡ unless_at 81 none (unless_at 82 o passes)
          go none e = refl
          go (some m) e = apart (cc)

-- a node that is told is one of the sheet's
pub told_inside : (sheet types : List ℕ) {c n : ℕ} → check sheet types ≡ refused_at c n → n < 200
told_inside sheet types {c} {n} f = go (check_judges sheet types) f
  where
    says : (sh : Sheet) → read_sheet sheet ≡ ok sh → {l : _} {v : Verdict} → Says sh l v → v ≡ refused_at c n → n < 200
    says sh r (all_right o p) g = absurd (cc)
    says sh r (used_twice {n = m} a b o) g = let z : m ≡ n = cc in omega (arith, (sheet_ranges sheet r).few_nodes)
    says sh r (not_right {n = m} a o u b) g = let z : m ≡ n = cc in omega (arith, (sheet_ranges sheet r).few_nodes)

    go : {v : Verdict} → Judges sheet types v → v ≡ refused_at c n → n < 200
    go (no_sheet r) g = absurd (cc)
    go (no_types sh r q) g = absurd (cc)
    go (judged sh l r q y) g = says sh r y g
