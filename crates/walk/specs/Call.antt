-- Walks on bytes: what an entry shows of its answer; and that get's is the rules' answer.
pub mod Explained
pub mod Plan
pub mod NewStarts
pub mod Bits
pub mod Gather
pub mod Put
use Rattle.std.specs.Prelude.{◌≡◌, true, false, List, ◌++◌, map, ℕ, ◌+◌, ◌≤◌, ◌<◌, length, take, drop, get_or, Ok, Err}
use Rattle.std.proofs.Math.Path.{refl, sym, ap, ap₂}
use Rattle.std.proofs.Common.{◌∙◌, arith, length-append, length-drop, length-take-le, drop_at}
use Rattle.std.proofs.lemmas.List.{drop-append-le, take-append-le}
use Rattle.outcome.specs.Outcome.{is_refusal, code_of, len_of, start_of, steps_of}
use Rattle.value.specs.Result.{ok, refusal, map_result}
use Rattle.value.specs.Value.{Value, vfalse, encode, size, flat}
use Rattle.value.proofs.Encoding.{size-encode, size_pos}
use Rattle.value.specs.Laws.{ReadAs}
use Rattle.value.proofs.Laws.{read_values_sound}
use Rattle.value.specs.Reading.{read_plan}
use Rattle.value.specs.Spans.{places, starts, spans, spans_of}
use Rattle.value.proofs.SpansLaws.{plan_read as spans_read}
use Rattle.value.proofs.Progress.{starts-length}
use Rattle.value.specs.declared.Spans.{Spans}
use Rattle.sheet.specs.Sheet.{Sheet, read_sheet}
use Rattle.sheet.specs.Table.{table_of}
use Rattle.sheet.specs.declared.Table.{Table}
use Rattle.sheet.specs.Laws.{sheet_ranges, table_ok}
use Rattle.rules.specs.Outcome.{Out, done, refused, map_out, reading}
use Rattle.rules.specs.Explain.{Exit, get}
use Rattle.rules.specs.Explain.Erasure.{forget}
use Rattle.rules.proofs.Explain.Erasure.{get_erases}
use Rattle.rules.proofs.Explain.Chain.{get_chain}
use Rattle.rules.specs.Explain.Calls.{before, afterwards, explained, explain_get}
use Rattle.rules.specs.Answer.{get_walk, get_bytes}
use Rattle.rules.specs.Laws.Answers.{DoorOpens}
use Rattle.rules.specs.Numbers.{level_limit, scratch_size, stack_start, chain_limit, put_output, get_output}
use Rattle.scopes.specs.declared.Scope.{Scope}
use Rattle.arena.specs.Door.{shut, door_shut}
use Rattle.walk.specs.Decoded.{why_in, decoded_done, decoded_refused}
use Rattle.refusal.specs.declared.Refusal.{Refusal}
use Rattle.refusal.specs.Refusal.{number_of}
use Rattle.walk.specs.Reply.{Reply, finished, RefusedAs}
use Rattle.walk.specs.Arena.Parts.{part, CopiedIn}
use Rattle.walk.specs.Call.Plan.{standing, flat_short, sizes_at, sizes_length, placed}
use Rattle.walk.specs.Scope.{Spanned}
use Rattle.walk.specs.Arena.{Held, in_plan, Scoped}
use Rattle.walk.specs.Arena.Bytes.{held_short}
use Rattle.walk.specs.declared.chain.Met.{Met}
use Rattle.walk.specs.Call.Explained.{lent_front, Explains, nowhere, unmet_shut, unmet, few_nodes, met_explains, done_explains}
use Rattle.walk.specs.Represents.{had, not_had}
use Rattle.walk.specs.Get.{run, Here, Asks, ToldOf}
use Rattle.walk.specs.Get.Requires.{Sized}
use Rattle.walk.specs.Get.Top.{Brought, AtTop, at_top}

-- the result r and the arena a say the outcome: its bytes, at most `most`, stand at 32,256
pub data Says (most : ℕ) (a : List ℕ) (r : Reply) : Out (List ℕ) → Type 0 where
  says_done : {bs : List ℕ} {n : ℕ} (len : ℕ) → r ≡ finished len n → len ≡ length bs → len ≤ most → part a stack_start len ≡ bs → Says most a r (done bs n)
  says_refused : {c n : ℕ} {x : Refusal} → r ≡ Err x → number_of x ≡ c → Says most a r (refused c n)

-- the first n bytes are free, and may hold anything; those behind them are as they were
pub record Free (n : ℕ) (b a : List ℕ) : Type 0 where
  pub long : length a ≡ length b
  pub behind : drop n a ≡ drop n b

-- a reader refuses: the sheet's, or else the plan's
pub data Unread (sheet plan : List ℕ) : Type 0 where
  no_sheet : {c : ℕ} → read_sheet sheet ≡ refusal c → Unread sheet plan
  no_plan : {sh : Sheet} {c : ℕ} → read_sheet sheet ≡ ok sh → read_plan sh.k plan ≡ refusal c → Unread sheet plan

-- a call whose outcome is w, with the arena b before and a behind it: what the arena holds, and the answer r, at the door and behind it. U: a
-- reader refuses
pub record WalkCall (U : Type 0) (most : ℕ) (w : Out (List ℕ)) (allowance : ℕ) (b a : List ℕ) (r : Reply) : Type 0 where
  pub free : Free scratch_size b a
  pub unread : U → a ≡ b
  pub shuts : {c : ℕ} → c ≡ shut 0 0 (length b) allowance → (c ≡ 0 → ⊥) → RefusedAs c r × (a ≡ b)
  pub says : DoorOpens 0 0 (length b) allowance → Says most a r w

-- the sheet and the plan are read, and the scope has the plan's variables
pub record Planned (sheet plan : List ℕ) (table : Table) (sc : Scope) (allowance : ℕ) (b : List ℕ) : Type 0 where
  pub sh : Sheet
  pub μ : List Value
  pub read : read_sheet sheet ≡ ok sh
  pub is : table ≡ table_of sh
  pub values : read_plan sh.k plan ≡ ok μ
  pub spanned : Spanned sh.k (places (starts 0 μ)) (places (map size μ)) sc
  pub lent : DoorOpens 0 0 (length b) allowance
  pub long : length b ≡ scratch_size

pub record PlanWalked (most : ℕ) (w : Out (List ℕ)) (b a : List ℕ) (r : Reply) : Type 0 where
  pub long : length a ≡ length b
  pub says : Says most a r w

-- THE WALK FROM THE ROOT

module _ {sheet plan : List ℕ} {table : Table} {sc : Scope} {allowance : ℕ} {b : List ℕ} (w : Planned sheet plan table sc allowance b) where
  pub plan_read : ReadAs w.sh.k plan w.μ
  plan_read = read_values_sound 20 w.sh.k plan w.values

  pub plan_small : (length w.μ ≤ 16) × (length plan ≤ put_output)
  plan_small =
      let r = plan_read in
      let z = (sheet_ranges sheet w.read).few_variables in
      let k : length w.μ ≤ 16 = omega (arith, r.count, z) in
      (k, omega (arith, ap length r.bytes, flat_short r.readable))

  -- the plan fits in the arena
  pub plan_fits : length plan ≤ length b
  plan_fits = omega (arith, plan_small.1, w.long)

  pub root_is : table.root ≡ w.sh.root
  unfolding table_of
  root_is = ap (λ (t : Table). t.root) w.is

  get_is : get_bytes sheet plan allowance ≡ map_out encode (forget (λ v. v) (get level_limit w.sh table.root w.μ allowance))
  unfolding get_bytes get_walk reading
  get_is = rw (w.read, w.values, root_is) (ap (map_out encode) (sym ((get_erases level_limit w.sh w.sh.root w.μ).same allowance)))

  explain_is : explain_get sheet plan allowance ≡ explained (get level_limit w.sh table.root w.μ allowance)
  unfolding explain_get afterwards
  explain_is = rw (w.read, w.values, root_is) refl

  module _ {m : List ℕ} (c : CopiedIn plan b m) where
    pub plan_env : Scoped m sc stack_start w.μ
    plan_env = record {
      count = w.spanned.count ∙ sym plan_read.count;
      starts_long = w.spanned.starts_long;
      lens_long = w.spanned.lens_long;
      each = λ i h. go i h;
    }
      where
        go : (i : ℕ) → i < length w.μ → Held m stack_start (get_or sc.starts i 0) (get_or sc.lens i 0 + 1) (get_or w.μ i vfalse)
        go i h =
            let r = plan_read in
            let k : i < w.sh.k = omega (arith, r.count) in
            let p : part m 0 (length (flat w.μ)) ≡ flat w.μ = rw r.bytes at c.bytes in
            let s = standing m 0 r.readable p i h in
            let e : get_or sc.starts i 0 ≡ get_or (starts 0 w.μ) i 0
            = w.spanned.start i k ∙ placed (starts 0 w.μ) i (omega (arith, starts-length 0 w.μ)) in
            let d : get_or (places (map size w.μ)) i 0 ≡ size (get_or w.μ i vfalse)
            = placed (map size w.μ) i (omega (arith, sizes_length w.μ)) ∙ sizes_at w.μ i h in
            let f : get_or sc.lens i 0 + 1 ≡ size (get_or w.μ i vfalse)
            = w.spanned.len i k (omega (arith, size_pos (get_or w.μ i vfalse))) (omega (arith, s.readable.fits)) ∙ d in
            let z : length (flat w.μ) ≤ put_output = omega (arith, plan_small.1, ap length r.bytes) in
            rw (e, f) (record { place = in_plan (omega (arith, s.inside)); long = refl; bytes = s.bytes; readable = s.readable })

    -- the place of the walk
    abbrev pub at_root : Here
    at_root = record { sheet = sheet; table = table.starts; arena = m; scope = sc; top = stack_start; left = allowance; levels = level_limit }

    pub plan_ready : Asks at_root table.root
    unfolding table_of
    plan_ready = record {
      long = c.long ∙ w.long;
      few = w.lent.few_steps;
      base = omega arith;
      room = omega arith;
      variables = omega (arith, w.spanned.count, (sheet_ranges sheet w.read).few_variables);
      sheet = record { sh = w.sh; read = w.read; places = ap (λ (t : Table). t.starts) w.is };
      known = rw root_is (sheet_ranges sheet w.read).root;
      env = w.μ;
      scoped = plan_env;
    }

    -- the root was got, and its value brought to the top
    module _ {a a₂ : List ℕ} {g r : ℕ} (told : ToldOf at_root a g table.root) (sized : Sized stack_start allowance level_limit g)
        (brought : Brought stack_start g a a₂ r) where
      top : AtTop at_root a₂ r table.root
      top = at_top plan_ready told sized brought

      pub get_refused : {x : Refusal} → is_refusal r ≡ true → number_of x ≡ code_of r → PlanWalked get_output (get_bytes sheet plan allowance) b a₂ (Err x)
      unfolding run map_out forget why_in
      get_refused {x} e f =
          let d = not_had (top.gives.told w.sh w.read w.μ plan_env) (decoded_refused a₂ level_limit r e) in
          let z : get_bytes sheet plan allowance ≡ refused (code_of r) d.0 = get_is ∙ ap (λ (t : Exit Value). map_out encode (forget (λ v. v) t)) d.1 in
          record { long = top.gives.kept.long ∙ c.long; says = rw z (says_refused refl f) }

      pub get_met : {x : Refusal} {m : Met} → is_refusal r ≡ true → number_of x ≡ code_of r → m ≡ record { depth = len_of r; first = start_of r }
          → Explains (explain_get sheet plan allowance) allowance b a₂ (Err x) m
      unfolding run
      get_met e f g =
          let d = not_had (top.gives.told w.sh w.read w.μ plan_env) (decoded_refused a₂ level_limit r e) in
          rw g (met_explains a₂ r w.sh table.root (get_chain level_limit w.sh table.root w.μ allowance) d.1 _ f w.lent explain_is)

      pub few_met : is_refusal r ≡ true → len_of r ≤ chain_limit
      unfolding run
      few_met e =
          let d = not_had (top.gives.told w.sh w.read w.μ plan_env) (decoded_refused a₂ level_limit r e) in
          few_nodes a₂ r w.sh table.root (get_chain level_limit w.sh table.root w.μ allowance) d.1

      pub get_unmet : {len n : ℕ} {m : Met} → is_refusal r ≡ false → m ≡ nowhere → Explains (explain_get sheet plan allowance) allowance b a₂ (finished len n) m
      unfolding run
      get_unmet e f =
          let d = had (top.gives.told w.sh w.read w.μ plan_env) (decoded_done a₂ level_limit r e) in
          rw f (done_explains d.is explain_is)

      pub get_done : {len n : ℕ} → is_refusal r ≡ false → len ≡ len_of r → n ≡ steps_of r → PlanWalked get_output (get_bytes sheet plan allowance) b a₂
          (finished len n)
      unfolding run map_out forget
      get_done {len} {n} e f q =
          let d = had (top.gives.told w.sh w.read w.μ plan_env) (decoded_done a₂ level_limit r e) in
          let h = d.that.held in
          let z : get_bytes sheet plan allowance ≡ done (encode d.value) n = get_is ∙ ap (λ (t : Exit Value). map_out encode (forget (λ v. v) t)) d.is
          ∙ ap (done (encode d.value)) (sym q) in
          let y : part a₂ stack_start len ≡ encode d.value = ap₂ (part a₂) (sym (top.there e)) f ∙ h.bytes in
          let few : len ≤ 256 = omega (arith, f, held_short h) in
          record { long = top.gives.kept.long ∙ c.long; says = rw z (says_done len refl (f ∙ h.long ∙ sym (size-encode d.value)) few y) }

-- THE RETURNS OF THE ENTRY

-- the table says that a sheet was read
pub record TableRead (sheet : List ℕ) (table : Table) : Type 0 where
  pub sh : Sheet
  pub read : read_sheet sheet ≡ ok sh
  pub is : table ≡ table_of sh
  pub k_is : table.k ≡ sh.k
  pub few : table.k ≤ 16

pub table_read : (sheet : List ℕ) {table : Table} → ok table ≡ map_result table_of (read_sheet sheet) → TableRead sheet table
unfolding table_of
table_read sheet {table} is =
    let p = table_ok sheet is in
    let k : table.k ≡ p.value.k = ap (λ (t : Table). t.k) p.made in
    record { sh = p.value; read = p.found; is = p.made; k_is = k; few = omega (arith, k, (sheet_ranges sheet p.found).few_variables) }

spanned_as : {k k' : ℕ} {ss ss' ls ls' : List ℕ} {sc : Scope} → k ≡ k' → ss ≡ ss' → ls ≡ ls' → Spanned k ss ls sc → Spanned k' ss' ls' sc
spanned_as e f g s = rw (e, f, g) at s

-- the door opens, the sheet is read, and so is the plan, whose variables the scope has
pub record Opens (sheet plan : List ℕ) (scratch allowance : ℕ) (table : Table) (sc : Scope) : Type 0 where
  pub lent : DoorOpens 0 0 scratch allowance
  pub read : TableRead sheet table
  pub sp : Spans
  pub spans_are : ok sp ≡ spans_of table.k plan
  pub spanned : Spanned table.k sp.starts sp.lens sc

-- the door stays shut, or a reader refuses, with that number
pub data Bars (sheet plan : List ℕ) (scratch allowance c : ℕ) : Type 0 where
  at_door : c ≡ shut 0 0 scratch allowance → (DoorOpens 0 0 scratch allowance → ⊥) → Bars sheet plan scratch allowance c
  at_sheet : DoorOpens 0 0 scratch allowance → read_sheet sheet ≡ refusal c → Bars sheet plan scratch allowance c
  at_plan : {sh : Sheet} → DoorOpens 0 0 scratch allowance → read_sheet sheet ≡ ok sh → read_plan sh.k plan ≡ refusal c → Bars sheet plan scratch allowance c

pub plan_values : {sheet plan : List ℕ} {scratch allowance : ℕ} {table : Table} {sc : Scope} (o : Opens sheet plan scratch allowance table sc)
    → (μ : List Value) × (read_plan o.read.sh.k plan ≡ ok μ)
plan_values {plan = plan} {table = table} o =
    let p = spans_read table.k plan o.spans_are in
    (p.vs, ap (λ (k : ℕ). read_plan k plan) (sym o.read.k_is) ∙ p.found)

pub planned : {sheet plan : List ℕ} {allowance : ℕ} {table : Table} {sc : Scope} (b : List ℕ) → Opens sheet plan (length b) allowance table sc
    → Planned sheet plan table sc allowance (take scratch_size b)
unfolding spans
planned {plan = plan} {table = table} b o =
    let p = spans_read table.k plan o.spans_are in
    record {
      sh = o.read.sh;
      μ = p.vs;
      read = o.read.read;
      is = o.read.is;
      values = ap (λ (k : ℕ). read_plan k plan) (sym o.read.k_is) ∙ p.found;
      spanned = spanned_as o.read.k_is (ap (λ (s : Spans). s.starts) p.spans_are) (ap (λ (s : Spans). s.lens) p.spans_are) o.spanned;
      lent = lent_front b o.lent;
      long = length-take-le scratch_size b o.lent.scratch_long;
    }

-- what stands in the front stands in the whole
pub front_part : (a x : List ℕ) (len : ℕ) → length a ≡ scratch_size → len ≤ put_output → part (a ++ x) stack_start len ≡ part a stack_start len
front_part a x len l h = rw (drop-append-le stack_start a x (omega arith)) (take-append-le len (drop stack_start a) x (rw length-drop (omega arith)))

says_whole : (x : List ℕ) {most : ℕ} {a : List ℕ} {r : Reply} {o : Out (List ℕ)} → most ≤ put_output → length a ≡ scratch_size → Says most a r o
    → Says most (a ++ x) r o
says_whole x {a = a} t l (says_done len e q h p) = says_done len e q h (front_part a x len l (omega arith) ∙ p)
says_whole x t l (says_refused e c) = says_refused e c

nothing_moved : (b : List ℕ) → Free scratch_size b b
nothing_moved b = record { long = refl; behind = refl }

module _ {U : Type 0} {most : ℕ} {w : Out (List ℕ)} {allowance : ℕ} {b : List ℕ} where
  pub call_shut : {c : Refusal} → number_of c ≡ shut 0 0 (length b) allowance → (DoorOpens 0 0 (length b) allowance → ⊥)
      → WalkCall U most w allowance b b (Err c)
  call_shut e n = record {
    free = nothing_moved b;
    unread = λ _. refl;
    shuts = λ f _. (e ∙ sym f, refl);
    says = λ l. absurd (n l);
  }

  module _ (l : DoorOpens 0 0 (length b) allowance) where
    answered : {a : List ℕ} {r : Reply} → Free scratch_size b a → (U → a ≡ b) → Says most a r w → WalkCall U most w allowance b a r
    answered f u s = record { free = f; unread = u; shuts = λ e n. absurd (door_shut e n l); says = λ _. s }

    pub call_refused : {c : Refusal} {n : ℕ} → w ≡ refused (number_of c) n → WalkCall U most w allowance b b (Err c)
    call_refused e = answered (nothing_moved b) (λ _. refl) (rw e (says_refused refl refl))

    pub call_done : {a : List ℕ} {r : Reply} → (U → ⊥) → most ≤ put_output → PlanWalked most w (take scratch_size b) a r
        → WalkCall U most w allowance b (a ++ drop scratch_size b) r
    call_done {a} {r} read t g =
        let room = l.scratch_long in
        let long : length a ≡ scratch_size = g.long ∙ length-take-le scratch_size b room in
        let f : Free scratch_size b (a ++ drop scratch_size b) =
        record { long = rw (length-append, length-drop) (omega arith); behind = drop_at a (drop scratch_size b) scratch_size long } in
        answered f (λ u. absurd (read u)) (says_whole (drop scratch_size b) t long g.says)

-- what was read is not refused
pub all_read : {sheet plan : List ℕ} {sh : Sheet} {μ : List Value} → read_sheet sheet ≡ ok sh → read_plan sh.k plan ≡ ok μ → Unread sheet plan → ⊥
all_read e f (no_sheet g) = let y : ◌≡◌ {A = ℕ} 0 1 = cc in omega arith
all_read e f (no_plan g h) = let y : ◌≡◌ {A = ℕ} 0 1 = cc in omega arith

module _ (sheet plan : List ℕ) (allowance : ℕ) where
  pub get_sheet-refused : {c : ℕ} → read_sheet sheet ≡ refusal c → get_bytes sheet plan allowance ≡ refused c 0
  unfolding get_bytes reading
  get_sheet-refused e = rw e

  pub explain_sheet_refused : {c : ℕ} → read_sheet sheet ≡ refusal c → explain_get sheet plan allowance ≡ before c
  unfolding explain_get afterwards
  explain_sheet_refused e = rw e refl

  pub explain_plan_refused : {sh : Sheet} {c : ℕ} → read_sheet sheet ≡ ok sh → read_plan sh.k plan ≡ refusal c → explain_get sheet plan allowance ≡ before c
  unfolding explain_get afterwards
  explain_plan_refused e f = rw (e, f) refl

  pub get_plan-refused : {sh : Sheet} {c : ℕ} → read_sheet sheet ≡ ok sh → read_plan sh.k plan ≡ refusal c → get_bytes sheet plan allowance ≡ refused c 0
  unfolding get_bytes reading
  get_plan-refused e f = rw (e, f)

-- a get that does not begin
pub get_barred : {sheet plan : List ℕ} {allowance : ℕ} {b : List ℕ} {c : Refusal} → Bars sheet plan (length b) allowance (number_of c)
    → WalkCall (Unread sheet plan) get_output (get_bytes sheet plan allowance) allowance b b (Err c)
    × Explains (explain_get sheet plan allowance) allowance b b (Err c) nowhere
get_barred (at_door e n) = (call_shut e n, unmet_shut n)
get_barred (at_sheet l e) = (call_refused l (get_sheet-refused _ _ _ e), unmet (explain_sheet_refused _ _ _ e))
get_barred (at_plan l e f) = (call_refused l (get_plan-refused _ _ _ e f), unmet (explain_plan_refused _ _ _ e f))
