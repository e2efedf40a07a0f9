-- What the joined sheet reads back, of whole calls on bytes (request 7).
use Rattle.std.specs.Prelude.{◌≡◌, true, false, List, [], ◌∷◌, ◌++◌, ℕ, zero, suc, ◌+◌, ◌≤◌, length, get_or, replicate}
use Rattle.std.proofs.Math.Path.{refl, ap, ap₂, sym}
use Rattle.std.proofs.Common.{◌∙◌, append-nil, arith}
use Rattle.std.proofs.Math.Bool.{◌||◌}
use Rattle.std.proofs.Math.Option.{Option, none, some}
use Rattle.value.specs.Result.{ok}
use Rattle.value.specs.All.{none, each}
use Rattle.value.specs.Value.{Value, vfalse, pair, encode, flat, size, e_pair}
use Rattle.value.specs.Views.{as_pair}
use Rattle.value.proofs.Encoding.{size-encode}
use Rattle.value.specs.Reading.{read_plan, read_view}
use Rattle.value.specs.Laws.{Readable}
use Rattle.value.proofs.Laws.{readable_pair, read_values_back}
use Rattle.sheet.specs.Sheet.{Sheet, read_sheet}
use Rattle.sheet.specs.Laws.{Ranges, sheet_ranges}
use Rattle.rules.specs.Numbers.{level_limit, allowance_limit, put_output}
use Rattle.rules.specs.Outcome.{Out, done, refused, plus, steps, map_out, ◌>>=◌, given, reading}
use Rattle.rules.specs.Allowance.{within}
use Rattle.rules.proofs.Laws.Allowances.{within_yes, done-within, within-done}
use Rattle.rules.specs.Semantics
use Rattle.rules.specs.Counting.{Env, Cells, or_old, put}
use Rattle.rules.specs.Answer.{answer, refusal, success, door, count, new_plan, put_walk, put_bytes, put_answer}
use Rattle.rules.specs.Laws.Answers.{DoorOpens, PutBack}
use Rattle.rules.proofs.Laws.Answers.{door_open, put_shows, put_answers}
use Rattle.rules.proofs.Laws.Trips.{put_writes}
use Rattle.rules.specs.Bits.{bit, took, put_written}
use Rattle.rules.proofs.Bits.Laws.{bit_cell}
use Rattle.published.specs.Published.{Merge1, neither, left, right, same}
use Rattle.joined.specs.Joined.{joined}
use Rattle.joined.proofs.Joined.{put_walk-joined}
use Rattle.joined.specs.Levels.{NoDeeper, put_from}
use Rattle.joined.proofs.Levels.{done_deep, put_more, put_fewer}
use Rattle.joined.proofs.JoinedPut.{plus-done, given-done, Parts, put_walk_both, put_walk_parts}
use Rattle.joined.proofs.JoinedClash.{Clash, merge_at, merge_of, put_walk_clash}
use Rattle.joined.specs.JoinedCalls.{Joins}
use Rattle.joined.specs.JoinedPuts.{PutsWithin, Apart}
use Rattle.joined.proofs.JoinedCalls.{joined_read, joined_put}

-- no node is deeper than l where the put succeeds with l levels
module _ (sheet plan view : List ℕ) (l : ℕ) where
  pub puts_within : {sh : Sheet} → read_sheet sheet ≡ ok sh → {μ : Env} → read_plan sh.k plan ≡ ok μ → {v : Value} → read_view view ≡ ok (v ∷ [])
      → {X : Cells} {m : ℕ} → put_from l sh sh.root μ v ≡ done X m → PutsWithin l sheet plan view
  puts_within {sh} es {μ} ep {v} ev e = record {
    no_deeper = λ {sh = sh'} {μ = μ'} {vs} es' ep' ev'.
        let qs : sh ≡ sh' = cc in
        let ep'' : read_plan sh'.k plan ≡ ok μ = rw qs at ep in
        let qμ : μ ≡ μ' = cc in
        let qv : v ∷ [] ≡ vs = cc in
        let first : v ≡ get_or vs 0 vfalse = ap (λ (l : List Value). get_or l 0 vfalse) qv in
        done_deep (rw (qs, qμ, first) at e);
  }

-- THE NEW PLAN, variable by variable
new_at : (X : Cells) (μ : Env) (i : ℕ) → length X ≡ length μ → get_or (new_plan X μ) i vfalse ≡ or_old (get_or X i none) (get_or μ i vfalse)
unfolding new_plan Semantics.or_old
new_at [] [] i e = refl
new_at [] (v ∷ μ) i e = absurd (omega arith)
new_at (o ∷ X) [] i e = absurd (omega arith)
new_at (o ∷ X) (v ∷ μ) zero e = refl
new_at (o ∷ X) (v ∷ μ) (suc i) e = new_at X μ i (omega arith)

merged_first : {o p q : Option Value} → Merge1 o p q → (v : Value) → took o ≡ true → or_old q v ≡ or_old o v
unfolding took Semantics.or_old
merged_first neither v e = refl
merged_first left v e = refl
merged_first right v e = let z : ◌≡◌ {A = ℕ} 0 1 = cc in absurd (omega arith)
merged_first (same h) v e = sym h

merged_second : {o p q : Option Value} → Merge1 o p q → (v : Value) → took p ≡ true → or_old q v ≡ or_old p v
unfolding took Semantics.or_old
merged_second neither v e = refl
merged_second left v e = let z : ◌≡◌ {A = ℕ} 0 1 = cc in absurd (omega arith)
merged_second right v e = refl
merged_second (same h) v e = refl

merged_took : {o p q : Option Value} → Merge1 o p q → took q ≡ (took o || took p)
unfolding took
merged_took neither = refl
merged_took left = refl
merged_took right = refl
merged_took (same h) = refl

or_neither : (o : Option Value) (v : Value) → took o ≡ false → or_old o v ≡ v
unfolding took Semantics.or_old
or_neither none v e = refl
or_neither (some w) v e = let z : ◌≡◌ {A = ℕ} 0 1 = cc in absurd (omega arith)

-- what a variable that took a view has
took-some : (o : Option Value) (v : Value) → took o ≡ true → o ≡ some (or_old o v)
unfolding took Semantics.or_old
took-some none v e = let z : ◌≡◌ {A = ℕ} 0 1 = cc in absurd (omega arith)
took-some (some w) v e = refl

some-took : (o : Option Value) (v w : Value) → o ≡ some w → (took o ≡ true) × (or_old o v ≡ w)
unfolding took Semantics.or_old
some-took o v w e = rw e (refl, refl)

-- the view of a pair is the byte 05, the first part's view, the second's
pair_readable : {v w : Value} → Readable v → Readable w → 1 + size v + size w ≤ 256 → Readable (pair v w)
unfolding size
pair_readable g k z = record { fits = omega arith; encodable = e_pair g.encodable k.encodable }

view_back : {v : Value} → Readable v → read_view (encode v) ≡ ok (v ∷ [])
unfolding flat
view_back g = rw append-nil at (read_values_back 30 (each g none))

pair_view : {x y : List ℕ} {v w : Value} → x ≡ encode v → y ≡ encode w → Readable v → Readable w → 1 + length x + length y ≤ 256
    → read_view (0x05 ∷ x ++ y) ≡ ok (pair v w ∷ [])
unfolding encode
pair_view {x} {y} {v} {w} ex ey g k z =
    let back : read_view (encode (pair v w)) ≡ ok (pair v w ∷ []) =
    view_back (pair_readable g k (omega (arith, size-encode v, size-encode w, ap length ex, ap length ey))) in
    rw (ex, ey) back

module _ {s t u : List ℕ} (h : Joins s t u) where
  abbrev a : Sheet
  a = h.first

  abbrev b : Sheet
  b = h.second

  ra : Ranges a
  ra = sheet_ranges s h.read_first

  rb : Ranges b
  rb = sheet_ranges t h.read_second

  -- PUT, EXACTLY, for every plan, view, allowance, output and scratch: behind the door, the plan and the view, a step for the pair; 51 where
  -- the view is no pair; the first part into the first sheet's root with 47 levels; then the second part into the second's, on the cells as
  -- the first left them and under the same old plan. The first refusal met is the answer, and steps add up
  pub joined_put-answer : (plan view : List ℕ) (allowance output scratch : ℕ) → put_answer u plan view allowance output scratch
      ≡ answer (door put_output output scratch allowance (reading (read_plan a.k plan) λ μ. reading (read_view view) λ vs. map_out (λ X. flat (new_plan X μ))
      (within allowance (plus 1 (given 51 (as_pair (get_or vs 0 vfalse)) λ c.
      put 47 a a.root μ (count 0 (length μ)) c.0 (replicate (length μ) none) >>= λ X. put 47 b b.root μ (count 0 (length μ)) c.1 X)))))
  unfolding put_answer
  joined_put-answer plan view allowance output scratch = ap (λ o. answer (door put_output output scratch allowance o)) (joined_put h plan view allowance)

  plan_of : (plan : List ℕ) {μ : Env} → read_plan a.k plan ≡ ok μ → read_plan (joined a b).k plan ≡ ok μ
  unfolding joined
  plan_of plan e = e

  plan_from : (plan : List ℕ) {μ : Env} → read_plan (joined a b).k plan ≡ ok μ → read_plan a.k plan ≡ ok μ
  unfolding joined
  plan_from plan e = e

  -- an answer from its walk
  walked : (plan view : List ℕ) (allowance output scratch : ℕ) → DoorOpens put_output output scratch allowance → {μ : Env} → read_plan a.k plan ≡ ok μ
      → {vs : List Value} → read_view view ≡ ok vs → {o : Out Cells} → put_walk allowance (joined a b) μ (get_or vs 0 vfalse) ≡ o
      → put_answer u plan view allowance output scratch ≡ answer (map_out (λ X. flat (new_plan X μ)) o)
  unfolding put_answer put_bytes reading
  walked plan view allowance output scratch l ep ev e = ap answer (door_open l) ∙ rw (joined_read h, plan_of plan ep, ev, e)

  -- a view that is no pair
  pub joined_put_51 : (plan view : List ℕ) (allowance output scratch : ℕ) → DoorOpens put_output output scratch allowance → {μ : Env}
      → read_plan a.k plan ≡ ok μ
      → {vs : List Value} → read_view view ≡ ok vs → ((x y : Value) → get_or vs 0 vfalse ≡ pair x y → ⊥)
      → put_answer u plan view allowance output scratch ≡ refusal 51
  unfolding answer map_out given plus steps
  joined_put_51 plan view allowance output scratch l {μ} ep {vs} ev no_pair =
      walked plan view allowance output scratch l ep ev {o = refused 51 1} (put_walk-joined ra rb allowance μ (get_or vs 0 vfalse)
      ∙ rw (not_pair (as_pair (get_or vs 0 vfalse))) (within_yes allowance (refused 51 1) l.some_steps))
    where
      not_pair : (o : Option ((x : Value) × (y : Value) × (get_or vs 0 vfalse ≡ pair x y))) → o ≡ none
      not_pair none = refl
      not_pair (some c) = absurd (no_pair c.0 c.1 c.2)

-- AS USERS SAY IT. Each part's put succeeds alone, with no node deeper than 47: the view x into the first sheet under the allowance A, which gives
-- the plan p in m steps; and y into the second under B, which gives q in n steps. The view of the pair fits
module _ {s t u : List ℕ} (h : Joins s t u) (plan x y p q : List ℕ) (A B output scratch m n : ℕ)
    (first : put_answer s plan x A output scratch ≡ success p m) (second : put_answer t plan y B output scratch ≡ success q n)
    (shallow : PutsWithin 47 s plan x) (shallow' : PutsWithin 47 t plan y) (fits : 1 + length x + length y ≤ 256) where
  -- the walks of both
  record Alone : Type 0 where
    μ : Env
    v : Value
    w : Value
    X : Cells
    Y : Cells
    plan_read : read_plan h.first.k plan ≡ ok μ
    view_read : read_view (0x05 ∷ x ++ y) ≡ ok (pair v w ∷ [])
    first_walk : put_from 47 h.first h.first.root μ v ≡ done X m
    second_walk : put_from 47 h.second h.second.root μ w ≡ done Y n
    first_cells : length X ≡ length μ
    second_cells : length Y ≡ length μ
    first_new : read_plan h.first.k p ≡ ok (new_plan X μ)
    second_new : read_plan h.first.k q ≡ ok (new_plan Y μ)
    first_bits : (i : ℕ) → bit i (put_written s plan x A) ≡ took (get_or X i none)
    second_bits : (i : ℕ) → bit i (put_written t plan y B) ≡ took (get_or Y i none)

  alone : Alone
  alone =
      let d = (put_shows first).1 in
      let e = (put_shows second).1 in
      let wd = put_writes d in
      let we = put_writes e in
      let qd : d.sh ≡ h.first = let z = d.sheet_read in let r = h.read_first in cc in
      let qe : e.sh ≡ h.second = let z = e.sheet_read in let r = h.read_second in cc in
      let pd : read_plan h.first.k plan ≡ ok d.μ = rw qd at d.plan_read in
      let pe : read_plan h.second.k plan ≡ ok e.μ = rw qe at e.plan_read in
      let pe' : read_plan h.first.k plan ≡ ok e.μ = rw (← h.variables) at pe in
      let qμ : e.μ ≡ d.μ = cc in
      let v = get_or d.vs 0 vfalse in
      let w = get_or e.vs 0 vfalse in
      let ws : put_from 47 h.second h.second.root e.μ w ≡ done e.X n =
      put_fewer h.second h.second.root e.μ w level_limit 47 (rw qe at e.walk) (shallow'.no_deeper h.read_second pe e.view_read) in
      let ne : read_plan h.second.k q ≡ ok (new_plan e.X e.μ) = rw qe at we.new_read in
      record {
        μ = d.μ;
        v = v;
        w = w;
        X = d.X;
        Y = e.X;
        plan_read = pd;
        view_read = pair_view wd.view_bytes we.view_bytes wd.view_readable we.view_readable fits;
        first_walk = put_fewer h.first h.first.root d.μ v level_limit 47 (rw qd at d.walk) (shallow.no_deeper h.read_first pd d.view_read);
        second_walk = rw qμ at ws;
        first_cells = wd.cells;
        second_cells = we.cells ∙ ap length qμ;
        first_new = rw qd at wd.new_read;
        second_new = rw (← h.variables, qμ) at ne;
        first_bits = bit_cell d;
        second_bits = bit_cell e;
      }

  -- The plans are read as μ before, and as ν₁ and ν₂ after each put alone. `put_written` has a bit for each variable that takes a view
  module _ {μ ν₁ ν₂ : Env} (read : read_plan h.first.k plan ≡ ok μ) (read₁ : read_plan h.first.k p ≡ ok ν₁)
      (read₂ : read_plan h.first.k q ≡ ok ν₂) where
    -- what each variable has, before and after each put
    module _ (i : ℕ) where
      abbrev Both : Type 0
      Both = (bit i (put_written s plan x A) ≡ true) × (bit i (put_written t plan y B) ≡ true)

      old_is : get_or alone.μ i vfalse ≡ get_or μ i vfalse
      old_is = let z = alone.plan_read in let e : alone.μ ≡ μ = cc in ap (λ (l : Env). get_or l i vfalse) e

      first_is : get_or ν₁ i vfalse ≡ or_old (get_or alone.X i none) (get_or alone.μ i vfalse)
      first_is =
          let z = alone.first_new in let e : ν₁ ≡ new_plan alone.X alone.μ = cc in
          ap (λ (l : Env). get_or l i vfalse) e ∙ new_at alone.X alone.μ i alone.first_cells

      second_is : get_or ν₂ i vfalse ≡ or_old (get_or alone.Y i none) (get_or alone.μ i vfalse)
      second_is =
          let z = alone.second_new in let e : ν₂ ≡ new_plan alone.Y alone.μ = cc in
          ap (λ (l : Env). get_or l i vfalse) e ∙ new_at alone.Y alone.μ i alone.second_cells

      -- put-writes with two values
      clash_at : Both → (get_or ν₁ i vfalse ≡ get_or ν₂ i vfalse → ⊥) → Clash alone.X alone.Y
      clash_at w f = record {
        variable = i;
        one = or_old (get_or alone.X i none) (get_or alone.μ i vfalse);
        other = or_old (get_or alone.Y i none) (get_or alone.μ i vfalse);
        first_writes = took-some _ _ (sym (alone.first_bits i) ∙ w.0);
        second_writes = took-some _ _ (sym (alone.second_bits i) ∙ w.1);
        differ = λ e. f (first_is ∙ e ∙ sym second_is);
      }

      -- or with one
      agree_at : (Both → get_or ν₁ i vfalse ≡ get_or ν₂ i vfalse) → (v w : Value) → get_or alone.X i none ≡ some v → get_or alone.Y i none ≡ some w → v ≡ w
      agree_at f v w ev ew =
          let (tv, ov) = some-took (get_or alone.X i none) (get_or alone.μ i vfalse) v ev in
          let (tw, ow) = some-took (get_or alone.Y i none) (get_or alone.μ i vfalse) w ew in
          sym ov ∙ sym first_is ∙ f (alone.first_bits i ∙ tv, alone.second_bits i ∙ tw) ∙ second_is ∙ ow

    lent : {allowance : ℕ} → 1 + m + n ≤ allowance → allowance ≤ allowance_limit → DoorOpens put_output output scratch allowance
    lent few most =
        let l = (put_shows first).0 in
        record { output_long = l.output_long; scratch_long = l.scratch_long; some_steps = omega arith; few_steps = most }

    -- A CLASH IS 54: a variable that both write, with different values
    pub joined_put_clash : (allowance i : ℕ) → bit i (put_written s plan x A) ≡ true → bit i (put_written t plan y B) ≡ true
        → (get_or ν₁ i vfalse ≡ get_or ν₂ i vfalse → ⊥) → 1 + m + n ≤ allowance → allowance ≤ allowance_limit
        → put_answer u plan (0x05 ∷ x ++ y) allowance output scratch ≡ refusal 54
    unfolding answer map_out
    joined_put_clash allowance i w w' f few most =
        let k = alone in
        let (c, e) = put_walk_clash (ra h) (rb h) allowance k.μ k.v k.w k.first_cells k.first_walk k.second_walk (clash_at i (w, w') f) few in
        walked h plan (0x05 ∷ x ++ y) allowance output scratch (lent few most) k.plan_read k.view_read {o = refused 54 c} e

    -- what the joined put gives: it succeeds in 1 + m + n steps, and each variable has what either wrote, else its old value
    pub record Together (allowance : ℕ) : Type 0 where
      pub new : List ℕ
      pub succeeds : put_answer u plan (0x05 ∷ x ++ y) allowance output scratch ≡ success new (1 + m + n)
      pub ν : Env
      pub new_read : read_plan h.first.k new ≡ ok ν
      pub first_wrote : (i : ℕ) → bit i (put_written s plan x A) ≡ true → get_or ν i vfalse ≡ get_or ν₁ i vfalse
      pub second_wrote : (i : ℕ) → bit i (put_written t plan y B) ≡ true → get_or ν i vfalse ≡ get_or ν₂ i vfalse
      pub else_old : (i : ℕ) → bit i (put_written s plan x A) ≡ false → bit i (put_written t plan y B) ≡ false → get_or ν i vfalse ≡ get_or μ i vfalse
      pub either_wrote : (i : ℕ) → bit i (put_written u plan (0x05 ∷ x ++ y) allowance) ≡ (bit i (put_written s plan x A) || bit i (put_written t plan y B))

    -- NO VARIABLE TAKES TWO VALUES: then the joined put succeeds
    pub joined_puts : (allowance : ℕ)
        → ((i : ℕ) → bit i (put_written s plan x A) ≡ true → bit i (put_written t plan y B) ≡ true → get_or ν₁ i vfalse ≡ get_or ν₂ i vfalse)
        → 1 + m + n ≤ allowance → allowance ≤ allowance_limit → Together allowance
    unfolding put_walk
    joined_puts allowance f few most =
        let k = alone in
        let (Z, mg) = merge_of k.X k.Y (k.first_cells ∙ sym k.second_cells) (λ i. agree_at i (λ w. f i w.0 w.1)) in
        let parts : Parts h.first h.second k.μ k.v k.w Z (1 + m + n) = record {
          first = k.X;
          second = k.Y;
          steps = m;
          others = n;
          puts_first = k.first_walk;
          puts_second = k.second_walk;
          together = mg;
          counted = refl;
        } in
        let (walk, _) = within-done allowance _ (put_walk_both (ra h) (rb h) allowance k.μ k.v k.w parts few) in
        let d : PutBack u plan (0x05 ∷ x ++ y) allowance (flat (new_plan Z k.μ)) (1 + m + n) = record {
          sh = joined h.first h.second;
          sheet_read = joined_read h;
          μ = k.μ;
          plan_read = plan_of h plan k.plan_read;
          vs = pair k.v k.w ∷ [];
          view_read = k.view_read;
          X = Z;
          walk = walk;
          few = few;
          bytes = refl;
        } in
        let wd = put_writes d in
        record {
          new = flat (new_plan Z k.μ);
          succeeds = put_answers (lent few most) d;
          ν = new_plan Z k.μ;
          new_read = plan_from h (flat (new_plan Z k.μ)) wd.new_read;
          first_wrote = λ i w. new_at Z k.μ i wd.cells ∙ merged_first (merge_at i mg) _ (sym (k.first_bits i) ∙ w) ∙ sym (first_is i);
          second_wrote = λ i w. new_at Z k.μ i wd.cells ∙ merged_second (merge_at i mg) _ (sym (k.second_bits i) ∙ w) ∙ sym (second_is i);
          else_old = λ i w w'. new_at Z k.μ i wd.cells ∙ or_neither _ _ (merged_took (merge_at i mg)
              ∙ ap₂ ◌||◌ (sym (k.first_bits i) ∙ w) (sym (k.second_bits i) ∙ w')) ∙ old_is i;
          either_wrote = λ i. bit_cell d i ∙ merged_took (merge_at i mg) ∙ ap₂ ◌||◌ (sym (k.first_bits i)) (sym (k.second_bits i));
        }

-- AND THE OTHER WAY ROUND: where the joined put succeeds, so did both, with no node deeper than 47, and no variable takes two values
module _ {s t u : List ℕ} (h : Joins s t u) (plan view : List ℕ) (allowance output scratch : ℕ) where
  -- one part of it, alone
  record Part (sheet : List ℕ) (k : ℕ) (μ : Env) (v : Value) (X : Cells) (m : ℕ) : Type 0 where
    answers : put_answer sheet plan (encode v) allowance output scratch ≡ success (flat (new_plan X μ)) m
    shallow : PutsWithin 47 sheet plan (encode v)
    new_read : read_plan k (flat (new_plan X μ)) ≡ ok (new_plan X μ)
    cells : length X ≡ length μ
    bits : (i : ℕ) → bit i (put_written sheet plan (encode v) allowance) ≡ took (get_or X i none)

  module _ (opened : DoorOpens put_output output scratch allowance) {sheet : List ℕ} {sh : Sheet} (es : read_sheet sheet ≡ ok sh)
      {μ : Env} (ep : read_plan sh.k plan ≡ ok μ) {v : Value} (g : Readable v) {X : Cells} {m : ℕ}
      (e : put_from 47 sh sh.root μ v ≡ done X m) (few : m ≤ allowance) where
    part_of : (k : ℕ) → sh.k ≡ k → Part sheet k μ v X m
    part_of k q =
        let d : PutBack sheet plan (encode v) allowance (flat (new_plan X μ)) m = record {
          sh = sh;
          sheet_read = es;
          μ = μ;
          plan_read = ep;
          vs = v ∷ [];
          view_read = view_back g;
          X = X;
          walk = put_more sh sh.root μ v 47 level_limit e (omega arith);
          few = few;
          bytes = refl;
        } in
        let w = put_writes d in
        record {
          answers = put_answers opened d;
          shallow = puts_within sheet plan (encode v) 47 es ep (view_back g) e;
          new_read = ap (λ c. read_plan c (flat (new_plan X μ))) (sym q) ∙ w.new_read;
          cells = w.cells;
          bits = bit_cell d;
        }

  -- the two parts together
  apart : {μ : Env} {v w : Value} {Z : Cells} {n : ℕ} → view ≡ encode (pair v w) → (ps : Parts h.first h.second μ v w Z n)
      → Part s h.first.k μ v ps.first ps.steps → Part t h.first.k μ w ps.second ps.others → Apart h plan view allowance output scratch n
  unfolding encode
  apart {μ} {v} {w} ev ps f g = record {
    x = encode v;
    y = encode w;
    view_is = ev;
    p = flat (new_plan ps.first μ);
    q = flat (new_plan ps.second μ);
    m = ps.steps;
    l = ps.others;
    first = f.answers;
    second = g.answers;
    counted = ps.counted;
    shallow = f.shallow;
    shallow' = g.shallow;
    ν₁ = new_plan ps.first μ;
    ν₂ = new_plan ps.second μ;
    read₁ = f.new_read;
    read₂ = g.new_read;
    agree = λ i b b'. new_at ps.first μ i f.cells ∙ sym (merged_first (merge_at i ps.together) _ (sym (f.bits i) ∙ b))
        ∙ merged_second (merge_at i ps.together) _ (sym (g.bits i) ∙ b') ∙ sym (new_at ps.second μ i g.cells);
  }

  -- the view of a joined put that succeeds is of a pair
  pair_put : (μ : Env) {v : Value} {Z : Cells} {n : ℕ} → put_walk allowance (joined h.first h.second) μ v ≡ done Z n
      → (x : Value) × (y : Value) × (v ≡ pair x y)
  pair_put μ {v} e =
      let whole = (within-done allowance _ (sym (put_walk-joined (ra h) (rb h) allowance μ v) ∙ e)).0 in
      (given-done 51 (as_pair v) _ (plus-done 1 _ whole).1).0

  from_walk : {μ : Env} {v : Value} {Z : Cells} {n : ℕ} → DoorOpens put_output output scratch allowance → read_plan h.first.k plan ≡ ok μ
      → Readable v → view ≡ encode v → n ≤ allowance → put_walk allowance (joined h.first h.second) μ v ≡ done Z n
      → Apart h plan view allowance output scratch n
  from_walk {μ} {v} {Z} {n} opened ep g ev few e =
      let (x, y, q) = pair_put μ e in
      let ps : Parts h.first h.second μ x y Z n = put_walk_parts (ra h) (rb h) allowance μ x y (rw q at e) in
      let gs : Readable x × Readable y = readable_pair (rw q at g) in
      let ep' : read_plan h.second.k plan ≡ ok μ = rw h.variables at ep in
      apart (ev ∙ ap encode q) ps (part_of opened h.read_first ep gs.0 ps.puts_first (omega (arith, ps.counted)) h.first.k refl)
      (part_of opened h.read_second ep' gs.1 ps.puts_second (omega (arith, ps.counted)) h.first.k (sym h.variables))

  pub joined_put_apart : {new : List ℕ} {n : ℕ} → put_answer u plan view allowance output scratch ≡ success new n → Apart h plan view allowance output scratch n
  unfolding put_walk
  joined_put_apart {n = n} e =
      let (opened, d) = put_shows e in
      let w = put_writes d in
      let qs : d.sh ≡ joined h.first h.second = let z = d.sheet_read in let r = joined_read h in cc in
      let walk : put level_limit (joined h.first h.second) (joined h.first h.second).root d.μ (count 0 (length d.μ))
      (get_or d.vs 0 vfalse) (replicate (length d.μ) none) ≡ done d.X n = rw qs at d.walk in
      from_walk opened (plan_from h plan (rw qs at d.plan_read)) w.view_readable w.view_bytes d.few
      (ap (within allowance) walk ∙ done-within allowance d.X n d.few)
