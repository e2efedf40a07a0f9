-- Put on bytes: what the walk from the root asks, and that the plan gathered behind it is the rules' answer.
use Rattle.std.specs.Prelude.{◌≡◌, true, false, get_or, Err}
use Rattle.std.proofs.Math.Path.{refl, sym, ap, ap₂}
use Rattle.std.proofs.Common.{◌∙◌, le_refl, arith}
use Rattle.std.proofs.Math.Option.{Option, none}
use mathlib.Core.List.{List, [], ◌∷◌, append-nil}
use Prim.Native.Nat.{ℕ, zero, suc, ◌+◌, ◌≤◌, ◌<◌, min}
use Rattle.std.proofs.Math.ListN.{length, take, replicate}
use Rattle.std.proofs.lemmas.List.{length-replicate, get_or-replicate}
use Rattle.std.proofs.Math.Seq.{take-length}
use Rattle.outcome.specs.Outcome.{is_refusal, code_of, start_of, len_of, steps_of}
use Rattle.value.specs.Result.{ok, refusal}
use Rattle.value.specs.All.{All, none, each}
use Rattle.value.specs.Value.{Value, vfalse, encode, flat}
use Rattle.value.specs.Laws.{Readable}
use Rattle.value.proofs.Laws.{read_values_sound, read_values_back}
use Rattle.value.specs.Reading.{read_plan, read_view}
use Rattle.value.specs.Spans.{places, starts, view_of}
use Rattle.value.proofs.SpansLaws.{view_ok}
use Rattle.sheet.specs.Sheet.{Sheet, read_sheet}
use Rattle.sheet.specs.Table.{table_of}
use Rattle.sheet.specs.declared.Table.{Table}
use Rattle.sheet.specs.Laws.{sheet_ranges}
use Rattle.starts.specs.Starts.{starts_of, load_of, starts_in}
use Rattle.starts.proofs.StartsLaws.{load_gives}
use Rattle.rules.specs.Outcome.{done, refused, map_out, reading}
use Rattle.rules.specs.Allowance.{within}
use Rattle.rules.specs.Counting
use Rattle.rules.specs.Explain.Erasure.{forget, strip}
use Rattle.rules.proofs.Explain.Erasure.{old_strip, put_erases}
use Rattle.rules.specs.Explain.Chain.{Chain, Meets}
use Rattle.rules.proofs.Explain.Chain.{put_chain}
use Rattle.rules.specs.Explain.Calls.{before as unmet_by, afterwards, explained, explain_put}
use Rattle.rules.proofs.Explain.Calls.{strip_blank}
use Rattle.walk.specs.declared.chain.Met.{Met}
use Rattle.walk.specs.Call.Explained.{Explains, nowhere, unmet_shut, unmet, few_nodes, met_explains, done_explains}
use Rattle.rules.specs.Semantics
use Rattle.rules.specs.Semantics.{Env}
use Rattle.rules.specs.Explain.{Cell, Cells, Exit, or_old, put}
use Rattle.rules.specs.Answer.{count, new_plan, put_walk, put_bytes}
use Rattle.rules.specs.Laws.Answers.{DoorOpens}
use Rattle.rules.specs.Numbers.{level_limit, scratch_size, stack_start, variable_limit, chain_limit, put_output}
use Rattle.rules.specs.Bits.{bits_of, took_in, put_written}
use Rattle.scopes.specs.declared.Scope.{Scope}
use Rattle.scopes.specs.Scopes.{place_of, slot_of}
use Rattle.scopes.specs.ScopesLaws.{was_written}
use Rattle.walk.specs.Decoded.{why_in, decoded_done, decoded_refused}
use Rattle.starts.specs.declared.NewPlan.{NewPlan}
use Rattle.refusal.specs.declared.Refusal.{Refusal}
use Rattle.refusal.specs.Refusal.{number_of}
use Rattle.walk.specs.Reply.{finished}
use Rattle.walk.specs.Arena.Parts.{part, part_length, CopiedIn}
use Rattle.walk.specs.Arena.{Held, Scoped, below_ends}
use Rattle.walk.specs.Arena.Bytes.{held_short}
use Rattle.walk.specs.Represents.{Had, had, not_had}
use Rattle.walk.specs.Arena.Cells.{Slot, blank, full, CellsHold, Named, Shown}
use Rattle.walk.specs.Arena.Frames.{env_framed}
use Rattle.walk.specs.Put.{enter, run, Given, Wrote, PutHere, PutAsks, PutTold}
use Rattle.walk.specs.Call.NewStarts.{new_starts}
use Rattle.walk.specs.Call.Bits.{new_written, slots_took}
use Rattle.arena.specs.Bits.{filled_from}
use Rattle.walk.specs.Call.Gather.{Rests, Placed, SomePlaced, AllGathered, Counted}
use Rattle.walk.specs.Call.{Unread, Bars, at_door, at_sheet, at_plan, says_done, says_refused}
use Rattle.walk.specs.Call.{WalkCall, Planned, PlanWalked, plan_small, plan_env, root_is, call_shut, call_refused}

-- the view is read
pub record Viewed (view : List ℕ) : Type 0 where
  pub value : Value
  pub read : read_view view ≡ ok (value ∷ [])

-- a reader refuses: the sheet's or the plan's, or else the view's
pub data PutUnread (sheet plan view : List ℕ) : Type 0 where
  before : Unread sheet plan → PutUnread sheet plan view
  no_view : {c : ℕ} → read_view view ≡ refusal c → PutUnread sheet plan view

pub put_all_read : {sheet plan view : List ℕ} → (Unread sheet plan → ⊥) → Viewed view → PutUnread sheet plan view → ⊥
put_all_read n v (before u) = n u
put_all_read n v (no_view e) = let z = v.read in let y : ◌≡◌ {A = ℕ} 0 1 = cc in omega arith

pub viewed : (view : List ℕ) → ok tt ≡ view_of view → Viewed view
viewed view e = let p = view_ok view e in record { value = p.0; read = p.1 }

-- the door stays shut, or a reader refuses, with that number
pub data PutBars (sheet plan view : List ℕ) (scratch allowance c : ℕ) : Type 0 where
  barred : Bars sheet plan scratch allowance c → PutBars sheet plan view scratch allowance c
  at_view : {sh : Sheet} {μ : List Value} → DoorOpens 0 0 scratch allowance → read_sheet sheet ≡ ok sh → read_plan sh.k plan ≡ ok μ
      → read_view view ≡ refusal c → PutBars sheet plan view scratch allowance c

view_shown : {view : List ℕ} (s : Viewed view) → Shown view s.value
unfolding flat
view_shown {view} s =
    let r = read_values_sound 30 1 view s.read in
    record { bytes = r.bytes ∙ append-nil (encode s.value); readable = first r.readable }
  where
    first : {v : Value} {vs : List Value} → All Readable (v ∷ vs) → Readable v
    first (each g h) = g

-- CELL i FOR VARIABLE i

count-length : (from n : ℕ) → length (count from n) ≡ n
unfolding count
count-length from zero = refl
count-length from (suc n) = ap suc (count-length (suc from) n)

count_at : (from n i : ℕ) → i < n → get_or (count from n) i 0 ≡ from + i
unfolding count
count_at from zero i h = absurd (omega arith)
count_at from (suc n) zero h = omega arith
count_at from (suc n) (suc i) h = omega (arith, count_at (suc from) n i (omega arith))

first_named : {k n : ℕ} {cells : List ℕ} → Counted k cells → n ≡ k → Named cells k (count 0 n)
first_named {k} {n} c e = record {
  long = c.long;
  each = λ i h. let l : i < n = omega (arith, count-length 0 n) in omega (arith, c.each i (omega arith), count_at 0 n i l);
  inside = λ i h. let l : i < n = omega (arith, count-length 0 n) in omega (arith, count_at 0 n i l);
}

none_written : (a : List ℕ) (m n : ℕ) → m ≡ n → m ≤ 16 → CellsHold a (replicate variable_limit 0) m (replicate n none)
none_written a m n e h = record {
  count = length-replicate n none ∙ sym e;
  few = omega arith;
  long = refl;
  each = λ i l. rw (get_or-replicate {A = ℕ} variable_limit i 0 0 (omega arith), get_or-replicate {A = Option Cell} n i none none (omega arith)) (blank refl);
}

-- THE NEW PLAN

new_count : (X : Cells) (μ : Env) → length X ≡ length μ → length (new_plan (strip X) μ) ≡ length μ
unfolding new_plan
new_count [] [] e = refl
new_count [] (v ∷ μ) e = refl
new_count (o ∷ X) [] e = refl
new_count (o ∷ X) (v ∷ μ) e = ap suc (new_count X μ (omega arith))

new_at : (X : Cells) (μ : Env) (i : ℕ) → length X ≡ length μ → i < length μ → get_or (new_plan (strip X) μ) i vfalse ≡ or_old (get_or X i none)
    (get_or μ i vfalse)
unfolding new_plan
new_at X [] i e h = absurd (omega arith)
new_at [] (v ∷ μ) i e h = absurd (omega arith)
new_at (o ∷ X) (v ∷ μ) zero e h = old_strip o v
new_at (o ∷ X) (v ∷ μ) (suc i) e h = new_at X μ i (omega arith) (omega arith)

rests : {a : List ℕ} {start len c w : ℕ} {o : Option Cell} {v : Value} → Slot a (slot_of c) w o → c < variable_limit → Held a stack_start start len v
    → Rests a (place_of w c start len) (or_old o v)
unfolding place_of Semantics.or_old
rests (blank z) h k = rw z (record { bytes = k.bytes; readable = k.readable; short = held_short k; inside = below_ends k.place (le_refl stack_start) })
rests {start = start} {len = len} {c = c} {w = w} (full s) h k =
    let short = s.readable.fits in
    rw (← was_written w c start len s.there)
    (record { bytes = s.bytes; readable = s.readable; short = omega (arith, s.long); inside = omega (arith, s.long) })

new_placed : {a slots : List ℕ} {sc : Scope} {n : ℕ} {μ : Env} {X : Cells} → length a ≡ scratch_size → length μ ≤ 16 → n ≡ length μ → Scoped a sc stack_start μ
    → CellsHold a slots n X → Placed a slots sc (new_plan (strip X) μ)
new_placed {a} {slots} {sc} {n} {μ} {X} long few e w x =
    let l : length X ≡ length μ = x.count ∙ e in
    let k : length (new_plan (strip X) μ) ≡ length μ = new_count X μ l in
    record {
      count = w.count ∙ sym k;
      few = omega arith;
      long = long;
      each = λ i h.
          let j : i < length μ = omega arith in
          rw (new_at X μ i l j) (rests (x.each i (omega arith)) (omega arith) (w.each i j));
    }

readable_all : (ws : List Value) → ((i : ℕ) → i < length ws → Readable (get_or ws i vfalse)) → All Readable ws
readable_all [] f = none
readable_all (v ∷ ws) f = each (f 0 (omega arith)) (readable_all ws λ i h. f (suc i) (omega arith))

-- THE WALK FROM THE ROOT

module _ {sheet plan view : List ℕ} {table : Table} {sc : Scope} {allowance : ℕ} {b : List ℕ}
    (w : Planned sheet plan table sc allowance b) (s : Viewed view) where
  pub few_variables : sc.count ≤ 16
  few_variables = omega (arith, w.spanned.count, (sheet_ranges sheet w.read).few_variables)

  -- the walk, and the bytes of the plan that it gives
  abbrev walk_put : Exit Cells
  walk_put = put level_limit w.sh table.root w.μ (count 0 (length w.μ)) s.value (replicate (length w.μ) none) allowance

  -- its writers forgotten
  walk_erased : forget strip walk_put ≡ within allowance (Counting.put level_limit w.sh w.sh.root w.μ (count 0 (length w.μ)) s.value
      (replicate (length w.μ) none))
  walk_erased =
      let blank : Cells = replicate (length w.μ) none in
      rw (root_is w) (rw (strip_blank (length w.μ)) at ((put_erases level_limit w.sh w.sh.root w.μ (count 0 (length w.μ))
      s.value blank).same allowance))

  put_is : put_bytes sheet plan view allowance ≡ map_out (λ X. flat (new_plan X w.μ)) (forget strip walk_put)
  unfolding put_bytes put_walk reading
  put_is = rw (w.read, w.values, s.read) (ap (map_out (λ X. flat (new_plan X w.μ))) (sym walk_erased))

  explain_put_lem : explain_put sheet plan view allowance ≡ explained walk_put
  unfolding explain_put afterwards
  explain_put_lem = rw (w.read, w.values, s.read, root_is w) refl

  walk_chain : Meets (Chain w.sh table.root level_limit) walk_put
  walk_chain = put_chain level_limit w.sh table.root w.μ (count 0 (length w.μ)) s.value (replicate (length w.μ) none) allowance

  written_is : put_written sheet plan view allowance ≡ took_in (forget strip walk_put)
  unfolding put_written put_walk reading
  written_is = rw (w.read, w.values, s.read) (ap took_in (sym walk_erased))

  module _ {m cells : List ℕ} (c : CopiedIn plan b m) (n : Counted sc.count cells) where
    put_given : Given m (replicate variable_limit 0) sheet (Shown view) sc cells sc.count sc.count stack_start
        w.sh w.μ (count 0 (length w.μ)) s.value (replicate (length w.μ) none)
    put_given = record {
      read = w.read;
      scoped = plan_env w c;
      named = first_named n (sym (plan_env w c).count);
      as_many = count-length 0 (length w.μ);
      written = none_written m sc.count (length w.μ) (plan_env w c).count few_variables;
      shown = view_shown s;
    }

    -- the place of the walk
    abbrev pub put_root : PutHere
    put_root = record {
      sheet = sheet;
      table = table.starts;
      arena = m;
      slots = replicate variable_limit 0;
      scope = sc;
      cells = cells;
      count = sc.count;
      top = stack_start;
      left = allowance;
      levels = level_limit;
    }

    pub put_ready : PutAsks put_root (Shown view) (enter table.root)
    unfolding table_of
    put_ready = record {
      long = c.long ∙ w.long;
      few = w.lent.few_steps;
      base = omega arith;
      room = omega arith;
      variables = omega (arith, few_variables);
      more_cells = omega (arith, few_variables);
      sheet = record { sh = w.sh; read = w.read; places = ap (λ (t : Table). t.starts) w.is };
      known = rw (root_is w) (sheet_ranges sheet w.read).root;
      env = w.μ;
      names = count 0 (length w.μ);
      value = s.value;
      cells_now = replicate (length w.μ) none;
      given = put_given;
    }

    module _ {a slots : List ℕ} {r : ℕ} (g : PutTold put_root (Shown view) a slots r (enter table.root)) where
      pub put_refused : {x : Refusal} → is_refusal r ≡ true → number_of x ≡ code_of r → PlanWalked put_output (put_bytes sheet plan view allowance) b a (Err x)
      unfolding run map_out forget why_in
      put_refused {x} e f =
          let d = not_had (g.told put_given) (decoded_refused a level_limit r e) in
          let z : put_bytes sheet plan view allowance ≡ refused (code_of r) d.0 = put_is ∙ ap
          (λ (t : Exit Cells). map_out (λ X. flat (new_plan X w.μ)) (forget strip t)) d.1 in
          record { long = g.frame.long ∙ c.long; says = rw z (says_refused refl f) }

      pub put_met : {x : Refusal} {m' : Met} → is_refusal r ≡ true → number_of x ≡ code_of r → m' ≡ record { depth = len_of r; first = start_of r }
          → Explains (explain_put sheet plan view allowance) allowance b a (Err x) m'
      unfolding run
      put_met e f h =
          let d = not_had (g.told put_given) (decoded_refused a level_limit r e) in
          rw h (met_explains a r w.sh table.root walk_chain d.1 _ f w.lent explain_put_lem)

      pub few_met : is_refusal r ≡ true → len_of r ≤ chain_limit
      unfolding run
      few_met e = few_nodes a r w.sh table.root walk_chain (not_had (g.told put_given) (decoded_refused a level_limit r e)).1

      module _ (e : is_refusal r ≡ false) where
        wrote : Had (Wrote a slots sc.count) (start_of r) (len_of r) (steps_of r) walk_put
        unfolding run
        wrote = had (g.told put_given) (decoded_done a level_limit r e)

        pub put_unmet : {a' : List ℕ} {len n : ℕ} {m' : Met} → m' ≡ nowhere → Explains (explain_put sheet plan view allowance) allowance b a'
            (finished len n) m'
        put_unmet f = rw f (done_explains wrote.is explain_put_lem)

        -- the bits of the slots are those of the cells
        pub put_written_lem : {bits k : ℕ} → bits ≡ bits_of (filled_from slots 0 (min k 16)) → k ≡ sc.count → (len n : ℕ)
            → bits ≡ new_written sheet plan view allowance (finished len n)
        unfolding new_written took_in forget
        put_written_lem {k = k} q e len n =
            let z : min k 16 ≡ sc.count = omega (arith, e, few_variables) in
            q ∙ ap (λ (k : ℕ). bits_of (filled_from slots 0 k)) z ∙ ap bits_of (slots_took wrote.that.written) ∙ sym
            (written_is ∙ ap (λ (t : Exit Cells). took_in (forget strip t)) wrote.is)

        placed_new : Placed a slots sc (new_plan (strip wrote.value) w.μ)
        placed_new =
            let v = env_framed g.frame stack_start (le_refl stack_start) (plan_env w c) in
            new_placed (g.frame.long ∙ c.long ∙ w.long) (plan_small w).0 v.count v wrote.that.written

        pub put_placed : SomePlaced a slots sc
        put_placed = record { values = new_plan (strip wrote.value) w.μ; placed = placed_new }

        module _ {a' : List ℕ} {new : NewPlan} (all : AllGathered slots sc a a' new) where
          abbrev ws : Env
          ws = new_plan (strip wrote.value) w.μ

          new_bytes : part a' stack_start new.len ≡ flat ws
          new_bytes = let p = placed_new in all.all.told p ∙ ap flat (ap (λ (i : ℕ). take i ws) p.count ∙ take-length ws)

          pub put_done : {n : ℕ} → n ≡ steps_of r → PlanWalked put_output (put_bytes sheet plan view allowance) b a' (finished new.len n)
          unfolding map_out forget
          put_done {n} q =
              let h = all.all in
              let z : put_bytes sheet plan view allowance ≡ done (flat ws) n
              = put_is ∙ ap (λ (t : Exit Cells). map_out (λ X. flat (new_plan X w.μ)) (forget strip t)) wrote.is ∙ ap (done (flat ws)) (sym q) in
              let few : new.len ≤ put_output = omega (arith, h.short, few_variables) in
              let l : length (part a' stack_start new.len) ≡ new.len = part_length a' stack_start new.len (omega (arith, h.kept.long, placed_new.long)) in
              record { long = h.kept.long ∙ g.frame.long ∙ c.long; says = rw z (says_done new.len refl (sym l ∙ ap length new_bytes) few new_bytes) }

          -- the starts are those that loading the new plan gives
          pub put_starts : (n : ℕ) → new.starts ≡ new_starts sheet a' (finished new.len n)
          unfolding new_starts starts_of starts_in
          put_starts n =
              let p = placed_new in
              let k : length ws ≡ w.sh.k = sym p.count ∙ w.spanned.count in
              let read : read_plan w.sh.k (flat ws) ≡ ok ws
              = ap (λ (i : ℕ). read_plan i (flat ws)) (sym k) ∙ read_values_back 20 (readable_all ws λ i h. (p.each i h).readable) in
              let at : new.starts.at ≡ places (starts 0 ws)
              = all.all.starting p ∙ ap (λ (l : List Value). places (starts 0 l)) (ap (λ (i : ℕ). take i ws) p.count ∙ take-length ws) in
              ap₂ (λ (x : ℕ) (l : List ℕ). record { count = x; at = l }) (all.count ∙ p.count) at
              ∙ sym (ap starts_in (ap (load_of sheet) new_bytes ∙ load_gives sheet (flat ws) w.read read))

-- THE REFUSALS

module _ (sheet plan view : List ℕ) (allowance : ℕ) where
  pub put_sheet-refused : {c : ℕ} → read_sheet sheet ≡ refusal c → put_bytes sheet plan view allowance ≡ refused c 0
  unfolding put_bytes reading
  put_sheet-refused e = rw e

  pub explain_sheet_refused : {c : ℕ} → read_sheet sheet ≡ refusal c → explain_put sheet plan view allowance ≡ unmet_by c
  unfolding explain_put afterwards
  explain_sheet_refused e = rw e refl

  pub explain_plan_refused : {sh : Sheet} {c : ℕ} → read_sheet sheet ≡ ok sh → read_plan sh.k plan ≡ refusal c
      → explain_put sheet plan view allowance ≡ unmet_by c
  unfolding explain_put afterwards
  explain_plan_refused e f = rw (e, f) refl

  pub explain_view_refused : {sh : Sheet} {μ : Env} {c : ℕ} → read_sheet sheet ≡ ok sh → read_plan sh.k plan ≡ ok μ → read_view view ≡ refusal c
      → explain_put sheet plan view allowance ≡ unmet_by c
  unfolding explain_put afterwards
  explain_view_refused e f g = rw (e, f, g) refl

  pub put_plan-refused : {sh : Sheet} {c : ℕ} → read_sheet sheet ≡ ok sh → read_plan sh.k plan ≡ refusal c → put_bytes sheet plan view allowance ≡ refused c 0
  unfolding put_bytes reading
  put_plan-refused e f = rw (e, f)

  pub put_view-refused : {sh : Sheet} {μ : Env} {c : ℕ} → read_sheet sheet ≡ ok sh → read_plan sh.k plan ≡ ok μ → read_view view ≡ refusal c
      → put_bytes sheet plan view allowance ≡ refused c 0
  unfolding put_bytes reading
  put_view-refused e f g = rw (e, f, g)

-- a put that does not begin
pub put_barred : {sheet plan view : List ℕ} {allowance : ℕ} {b : List ℕ} {c : Refusal} → PutBars sheet plan view (length b) allowance (number_of c)
    → WalkCall (PutUnread sheet plan view) put_output (put_bytes sheet plan view allowance) allowance b b (Err c)
    × Explains (explain_put sheet plan view allowance) allowance b b (Err c) nowhere
put_barred (barred (at_door e n)) = (call_shut e n, unmet_shut n)
put_barred (barred (at_sheet l e)) = (call_refused l (put_sheet-refused _ _ _ _ e), unmet (explain_sheet_refused _ _ _ _ e))
put_barred (barred (at_plan l e f)) = (call_refused l (put_plan-refused _ _ _ _ e f), unmet (explain_plan_refused _ _ _ _ e f))
put_barred (at_view l e f g) = (call_refused l (put_view-refused _ _ _ _ e f g), unmet (explain_view_refused _ _ _ _ e f g))
