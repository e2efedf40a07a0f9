-- From the readers and the walk to the verdict of a call.
use Rattle.std.specs.Prelude.{◌≡◌, Bool, false, ◌&&◌, List, [], ℕ, ◌+◌, ◌-◌, ◌≤◌, ◌<◌, length, take, drop}
use Rattle.std.proofs.Math.Path.{refl, sym, ap}
use Rattle.std.proofs.Common.{◌∙◌}
use Rattle.std.proofs.Math.Bool.{true}
use native.Mathlib.Omega.{arith}
use Rattle.std.proofs.Math.Decide.{dec_le}
use borrow.Author.Tests.{le-leb, lt-leb}
use Rattle.std.proofs.Math.Dec.{leb}
use Rattle.value.specs.Result.{Result, ok, refusal, and_then, map_result, unless}
use Rattle.std.specs.Prelude.{Result as Code, Ok, Err}
use Rattle.refusal.specs.declared.Refusal.{Refusal}
use Rattle.refusal.specs.Refusal.{number_of}
use Rattle.value.specs.Numbered.{numbered}
use Rattle.value.specs.Value.{Value, encode}
use Rattle.shapes.specs.Parts.{same_bytes}
use Rattle.value.specs.Reading.{read_plan, read_view}
use Rattle.value.specs.Spans.{spans, spans_of}
use Rattle.value.proofs.SpansLaws.{plan_read, plan_refused}
use Rattle.value.specs.declared.Spans.{Spans}
use Rattle.sheet.specs.declared.Table.{Table}
use Rattle.sheet.specs.Sheet.{Sheet, read_sheet}
use Rattle.sheet.specs.Table.{table_of}
use Rattle.sheet.specs.Laws.{table_reads}
use Rattle.rules.specs.Numbers.{allowance_limit, scratch_size, stack_start, get_output}
use Rattle.rules.specs.Outcome.{Out, done, refused, map_out, reading}
use Rattle.rules.specs.Counting.{Env}
use Rattle.rules.specs.Answer.{get_walk, get_bytes}
use Rattle.rules.specs.Laws.Answers.{DoorOpens}
use Rattle.rules.proofs.Laws.Answers.{door-scratch, door_none, door_over}
use Rattle.rules.proofs.Laws.Refusals.{Lists, l_done, l_refused, listed_above, lists_get_bytes, lists_put_bytes}
use Rattle.calls.specs.Reply.{Reply, Done as ReplyDone, Refused as ReplyRefused}
use Rattle.walk.specs.Call.{Free, get_sheet-refused, get_plan-refused}
use Rattle.calls.specs.WalkCalls.{Says, says_done, says_refused}
use Rattle.walk.specs.Call.Put.{put_view-refused}
use Rattle.calls.specs.Calls.{after_refusal}
use Rattle.arena.specs.Door.{shut, shut_is, shut_open}
use Rattle.venue.specs.Accepts.{kept, or_code, result, judged_of, accepts_of}
use Rattle.venue.proofs.Laws.{read_85}
use Rattle.accepts.specs.Accepts.{cleared, Accepted}
use Rattle.accepts.specs.Marks.{Readied}
use Rattle.accepts.specs.Kept.{Plans, KeptAs}

-- WHAT THE READERS SAY

pub ready : (sheet : List ℕ) {t : Table} → ok t ≡ map_result table_of (read_sheet sheet) → Readied sheet t
ready sheet e = let (sh, r) = table_reads sheet e in record { sh = sh; reads = r }

-- a plan of k values, with where they stand
pub record Values (k : ℕ) (plan : List ℕ) (sp : Spans) : Type 0 where
  pub vs : Env
  pub read : read_plan k plan ≡ ok vs
  pub is : sp ≡ spans vs

module _ {sheet : List ℕ} {t : Table} (q : Readied sheet t) (plan : List ℕ) where
  pub values_not : {c : ℕ} → refusal c ≡ spans_of t.k plan → read_plan q.sh.k plan ≡ refusal c
  values_not e =
      ap (λ (k : ℕ). read_plan k plan) (sym q.reads.k) ∙ plan_refused t.k plan (omega (arith, q.reads.k, q.reads.ranges.few_variables)) e

  pub values_of : {sp : Spans} → ok sp ≡ spans_of t.k plan → Values q.sh.k plan sp
  values_of e =
      let p = plan_read t.k plan e in
      record { vs = p.vs; read = ap (λ (k : ℕ). read_plan k plan) (sym q.reads.k) ∙ p.found; is = p.spans_are }

  -- a plan that is not read
  pub values_none : {r : Code Spans Refusal} → numbered r ≡ spans_of t.k plan → ((sp : Spans) → r ≡ Ok sp → ⊥)
      → (c : ℕ) × (read_plan q.sh.k plan ≡ refusal c)
  values_none {r = Ok sp} e n = absurd (n sp refl)
  values_none {r = Err x} e n = (number_of x, values_not e)

-- both plans are read
pub both_read : {sheet : List ℕ} {t : Table} {old new : List ℕ} {before after : Spans} (q : Readied sheet t)
    → Values q.sh.k old before → Values q.sh.k new after → Plans sheet t old before new after
both_read q o n = record {
  sh = q.sh;
  reads = q.reads;
  μ = o.vs;
  old_read = o.read;
  before_is = o.is;
  ν = n.vs;
  new_read = n.read;
  after_is = n.is;
}

-- WHAT A WALK BUILT, beside the list

abbrev pub Built : Reply → List ℕ → Type 0
Built (ReplyRefused c) a = Unit {0}
Built (ReplyDone len n) a = stack_start + len ≤ length a

unfoldable pub listed_of : Reply → (view a : List ℕ) → Result Bool
listed_of (ReplyRefused c) view a = refusal c
listed_of (ReplyDone len n) view a = ok (same_bytes (take len (drop stack_start a)) view)

pub listed_done : (len n : ℕ) (view a : List ℕ) {b : Bool} → b ≡ same_bytes (take (stack_start + len - stack_start) (drop stack_start a)) view
    → ok b ≡ listed_of (ReplyDone len n) view a
unfolding listed_of
listed_done len n view a e = let z : stack_start + len - stack_start ≡ len = omega arith in rw (e, z) refl

pub built : {a : List ℕ} {w : Reply} {x : Out (List ℕ)} → Says get_output a w x → scratch_size ≤ length a → Built w a
built {a} (says_done len e l h p) long = rw e (omega arith)
built (says_refused e) long = rw e tt

-- the verdict on the list alone
abbrev on_list : Out Value → List ℕ → Result Bool
on_list o view = and_then (result o) λ v. ok (same_bytes (encode v) view)

walk_listed : (view : List ℕ) {a : List ℕ} {w : Reply} {x : Out (List ℕ)} → Says get_output a w x → (o : Out Value) → map_out encode o ≡ x
    → listed_of w view a ≡ on_list o view
unfolding listed_of and_then result map_out
walk_listed view (says_done {bs = bs} len e l h p) (done v n) q =
    let z : bs ≡ encode v = cc in
    rw e (ap (λ (b : List ℕ). ok (same_bytes b view)) (p ∙ z))
walk_listed view (says_done len e l h p) (refused c n) q = let z : ◌≡◌ {A = ℕ} 0 1 = cc in absurd (omega arith)
walk_listed view (says_refused e) (done v n) q = let z : ◌≡◌ {A = ℕ} 0 1 = cc in absurd (omega arith)
walk_listed view (says_refused {c = c} e) (refused d n) q = let z : c ≡ d = cc in rw e (ap refusal z)

-- both comparisons
abbrev on_both : Out Value → List ℕ → Bool → Result Bool
on_both o view k = and_then (result o) λ v. ok (same_bytes (encode v) view && k)

both_yes : (o : Out Value) (view : List ℕ) (k : Bool) → ok true ≡ on_list o view → ok k ≡ on_both o view k
unfolding and_then result
both_yes (done v n) view k e = let z : same_bytes (encode v) view ≡ true = cc in rw z refl
both_yes (refused c n) view k e = absurd (cc)

both_no : (o : Out Value) (view : List ℕ) (k : Bool) → ok false ≡ on_list o view → ok false ≡ on_both o view k
unfolding and_then result
both_no (done v n) view k e = let z : same_bytes (encode v) view ≡ false = cc in rw z refl
both_no (refused c n) view k e = absurd (cc)

both_refused : (o : Out Value) (view : List ℕ) (k : Bool) {c : ℕ} → refusal c ≡ on_list o view → refusal c ≡ on_both o view k
unfolding and_then result
both_refused (done v n) view k e = absurd (cc)
both_refused (refused d n) view k e = e

-- THE VERDICT BEHIND THE DOOR, return by return

module _ (sheet old view new : List ℕ) (allowance : ℕ) where
  abbrev SaysSo : Result Bool → Type 0
  SaysSo r = r ≡ judged_of sheet old view new allowance

  pub no_sheet : {c : ℕ} → read_sheet sheet ≡ refusal c → SaysSo (refusal c)
  unfolding judged_of and_then
  no_sheet e = sym (rw e)

  module _ {sh : Sheet} (es : read_sheet sheet ≡ ok sh) where
    pub no_old : {c : ℕ} → read_plan sh.k old ≡ refusal c → SaysSo (refusal c)
    unfolding judged_of and_then
    no_old e = sym (rw (es, e))

    module _ {μ : Env} (eo : read_plan sh.k old ≡ ok μ) where
      pub no_view : {c : ℕ} → read_view view ≡ refusal c → SaysSo (refusal c)
      unfolding judged_of and_then
      no_view e = sym (rw (es, eo, e))

      module _ {vs : List Value} (ev : read_view view ≡ ok vs) where
        pub no_new : {c : ℕ} → read_plan sh.k new ≡ refusal c → SaysSo (refusal 85)
        unfolding judged_of and_then or_code
        no_new e = sym (rw (es, eo, ev, e))

-- all is read, the new plan is read out, and `l` says whether that is the list
pub record Beside (sheet old view new : List ℕ) (allowance : ℕ) (a : List ℕ) (w : Reply) (l : Result Bool) : Type 0 where
  pub sh : Sheet
  pub sheet_read : read_sheet sheet ≡ ok sh
  pub μ : Env
  pub old_read : read_plan sh.k old ≡ ok μ
  pub vs : List Value
  pub view_read : read_view view ≡ ok vs
  pub ν : Env
  pub new_read : read_plan sh.k new ≡ ok ν
  pub says : Says get_output a w (get_bytes sheet new allowance)
  pub told : l ≡ listed_of w view a

module _ {sheet old view new : List ℕ} {allowance : ℕ} {a : List ℕ} {w : Reply} {l : Result Bool} (b : Beside sheet old view new allowance a w l) where
  abbrev got : Out Value
  got = get_walk allowance b.sh b.ν

  all_read : judged_of sheet old view new allowance ≡ on_both got view (kept b.sh b.μ b.ν)
  unfolding judged_of and_then or_code
  all_read = rw (b.sheet_read, b.old_read, b.view_read, b.new_read)

  bytes_are : get_bytes sheet new allowance ≡ map_out encode got
  unfolding get_bytes reading
  bytes_are = rw (b.sheet_read, b.new_read)

  list_is : l ≡ on_list got view
  list_is = b.told ∙ walk_listed view b.says got (sym bytes_are)

  pub on_yes : l ≡ ok true → {k : Bool} → KeptAs sheet old new k → ok k ≡ judged_of sheet old view new allowance
  on_yes e q = ap ok (q b.sh b.sheet_read b.μ b.ν b.old_read b.new_read) ∙ both_yes got view _ (sym e ∙ list_is) ∙ sym all_read

  pub on_no : l ≡ ok false → ok false ≡ judged_of sheet old view new allowance
  on_no e = both_no got view _ (sym e ∙ list_is) ∙ sym all_read

  pub on_refused : {c : ℕ} → l ≡ refusal c → refusal c ≡ judged_of sheet old view new allowance
  on_refused e = both_refused got view _ (sym e ∙ list_is) ∙ sym all_read

pub nothing_moved : (s : List ℕ) → Free scratch_size s s
nothing_moved s = record { long = refl; behind = refl }

-- THE DOOR

module _ (sheet old view new : List ℕ) (allowance : ℕ) (s : List ℕ) where
  abbrev Answer : Result Bool
  Answer = accepts_of sheet old view new allowance (length s)

  -- refused at the door
  pub shut_told : {c : ℕ} → c ≡ shut 0 0 (length s) allowance → (c ≡ 0 → ⊥) → Accepted Answer (refusal c) s s
  unfolding accepts_of unless cleared after_refusal
  shut_told {c} f n = go (dec_le scratch_size (length s)) (dec_le 1 allowance) (dec_le allowance allowance_limit)
    where
      by : (k : ℕ) → c ≡ k → leb k 3 ≡ true → Answer ≡ refusal k → Accepted Answer (refusal c) s s
      by k q l w = rw w (record { answer = ap refusal q; scratch = rw l refl })

      go : Dec (scratch_size ≤ length s) → Dec (1 ≤ allowance) → Dec (allowance ≤ allowance_limit) → Accepted Answer (refusal c) s s
      go (no a) b d = by 2 (f ∙ sym (shut_is _ _ _ _ (door-scratch _ _ _ _ _ (omega arith) (omega arith)))) refl (rw (lt-leb scratch_size (length s)
          (omega arith)))
      go (yes a) (no b) d =
          by 3 (f ∙ sym (shut_is _ _ _ _ (door_none _ _ _ _ _ (omega arith) a (omega arith)))) refl
          (rw (le-leb scratch_size (length s) a, lt-leb 1 allowance (omega arith)))
      go (yes a) (yes b) (no d) =
          by 3 (f ∙ sym (shut_is _ _ _ _ (door_over _ _ _ _ _ (omega arith) a (omega arith)))) refl
          (rw (le-leb scratch_size (length s) a, le-leb 1 allowance b, lt-leb allowance allowance_limit (omega arith)))
      go (yes a) (yes b) (yes d) =
          let l : DoorOpens 0 0 (length s) allowance = record { output_long = omega arith; scratch_long = a; some_steps = b; few_steps = d } in
          absurd (n (f ∙ sym (shut_open l)))

  -- it opens
  pub opened : DoorOpens 0 0 (length s) allowance → Answer ≡ judged_of sheet old view new allowance
  unfolding accepts_of unless
  opened l = rw (le-leb scratch_size (length s) l.scratch_long, le-leb 1 allowance l.some_steps, le-leb allowance allowance_limit l.few_steps)

-- BEHIND IT no refusal is the door's

listed_code : {o : Out (List ℕ)} {c n : ℕ} → Lists o → o ≡ refused c n → 3 < c
listed_code l_done e = let z : ◌≡◌ {A = ℕ} 0 1 = cc in absurd (omega arith)
listed_code {c = c} (l_refused {c = d} h) e = let z : d ≡ c = cc in rw z at (listed_above d h)

abbrev pub High : {A : Type 0} → Result A → Type 0
High r = (c : ℕ) → r ≡ refusal c → 3 < c

high_then : {A B : Type 0} (r : Result A) (f : A → Result B) → High r → ((a : A) → r ≡ ok a → High (f a)) → High (and_then r f)
unfolding and_then
high_then (ok a) f h g c e = g a refl c e
high_then (refusal d) f h g c e = let z : d ≡ c = cc in h c (ap refusal z)

high_85 : {A : Type 0} (r : Result A) → High (or_code 85 r)
unfolding or_code
high_85 (ok a) c e = let z : ◌≡◌ {A = ℕ} 0 1 = cc in absurd (omega arith)
high_85 (refusal d) c e = let z : 85 ≡ c = cc in omega arith

walk_refused : {A : Type 0} (o : Out A) {c : ℕ} → result o ≡ refusal c → (n : ℕ) × (o ≡ refused c n)
unfolding result
walk_refused (done a n) e = let z : ◌≡◌ {A = ℕ} 0 1 = cc in absurd (omega arith)
walk_refused (refused d n) {c} e = let z : d ≡ c = cc in (n, ap (λ k. refused k n) z)

bytes_refused : (sheet new : List ℕ) (allowance : ℕ) {sh : Sheet} → read_sheet sheet ≡ ok sh → {ν : Env} → read_plan sh.k new ≡ ok ν → {c n : ℕ}
    → get_walk allowance sh ν ≡ refused c n → get_bytes sheet new allowance ≡ refused c n
unfolding get_bytes reading map_out
bytes_refused sheet new allowance es en e = rw (es, en, e)

pub judged_high : (sheet old view new : List ℕ) (allowance : ℕ) → High (judged_of sheet old view new allowance)
unfolding judged_of
judged_high sheet old view new allowance =
    high_then (read_sheet sheet) _ (λ c e. listed_code (lists_get_bytes sheet [] allowance) (get_sheet-refused sheet [] allowance e)) λ sh es.
    high_then (read_plan sh.k old) _ (λ c e. listed_code (lists_get_bytes sheet old allowance) (get_plan-refused sheet old allowance es e)) λ μ eo.
    high_then (read_view view) _ (λ c e. listed_code (lists_put_bytes sheet old view allowance) (put_view-refused sheet old view allowance es eo e)) λ vs ev.
    high_then (or_code 85 (read_plan sh.k new)) _ (high_85 (read_plan sh.k new)) λ ν en.
    high_then (result (get_walk allowance sh ν)) _ (λ c e. listed_code (lists_get_bytes sheet new allowance)
    (bytes_refused sheet new allowance es (read_85 (read_plan sh.k new) en) (walk_refused (get_walk allowance sh ν) e).1)) λ v _ c e.
    let z : ◌≡◌ {A = ℕ} 0 1 = cc in absurd (omega arith)
