-- What the joined sheet reads out, of whole calls on bytes (request 7).
use Rattle.std.specs.Prelude.{◌≡◌, refl, ℕ, ◌+◌, ◌≤◌, ◌<◌}
use Rattle.std.proofs.Math.Path.{ap, ap₂, sym}
use Rattle.std.proofs.Common.{◌∙◌, arith}
use mathlib.Core.List.{List, ◌∷◌, ◌++◌}
use Rattle.std.proofs.Math.Decide.{dec_le}
use Rattle.std.proofs.Math.ListN.{length}
use Rattle.value.specs.Result.{ok}
use Rattle.value.specs.Value.{Value, pair, encode, size}
use Rattle.value.proofs.Encoding.{size-encode}
use Rattle.value.specs.Reading.{read_plan}
use Rattle.sheet.specs.Sheet.{Sheet, read_sheet}
use Rattle.sheet.specs.Laws.{Ranges, sheet_ranges}
use Rattle.rules.specs.Numbers.{level_limit, allowance_limit, get_output}
use Rattle.rules.specs.Outcome.{done, refused, plus, steps, when, map_out, ◌>>=◌, reading}
use Rattle.rules.specs.Allowance.{within}
use Rattle.rules.specs.Counting.{Env, bounded, get}
use Rattle.rules.proofs.Laws.Allowances.{within_yes, done-within, within-done}
use Rattle.rules.proofs.Laws.Outcomes.{given_not}
use Rattle.rules.specs.Semantics
use Rattle.rules.specs.Answer.{answer, refusal, success, door, get_walk, get_answer}
use Rattle.rules.specs.Laws.Answers.{DoorOpens}
use Rattle.rules.proofs.Laws.Answers.{door_open, get_shows, get_answers}
use Rattle.joined.specs.Joined.{joined}
use Rattle.joined.proofs.Joined.{get_walk-joined, get_walk-pair}
use Rattle.joined.specs.Levels.{NoDeeper}
use Rattle.joined.proofs.Levels.{done_deep, get_more, get_fewer}
use Rattle.joined.proofs.JoinedPut.{bind_done, plus-done, given-done}
use Rattle.joined.specs.JoinedCalls.{Joins}
use Rattle.joined.proofs.JoinedCalls.{joined_read, joined_get}

-- reading the plan out enters no node deeper than l: with l levels it is not refused with 40
pub record GetsWithin (l : ℕ) (sheet plan : List ℕ) : Type 0 where
  pub no_deeper : {sh : Sheet} {μ : Env} → read_sheet sheet ≡ ok sh → read_plan sh.k plan ≡ ok μ → NoDeeper (get l sh sh.root μ)

-- so it is where the get succeeds with l levels
module _ (sheet plan : List ℕ) (l : ℕ) where
  pub gets_within : {sh : Sheet} → read_sheet sheet ≡ ok sh → {μ : Env} → read_plan sh.k plan ≡ ok μ → {v : Value} {m : ℕ}
      → get l sh sh.root μ ≡ done v m → GetsWithin l sheet plan
  gets_within {sh} es {μ} ep e = record {
    no_deeper = λ {sh = sh'} {μ = μ'} es' ep'.
        let qs : sh ≡ sh' = cc in
        let ep'' : read_plan sh'.k plan ≡ ok μ = rw qs at ep in
        let qμ : μ ≡ μ' = cc in
        done_deep (rw (qs, qμ) at e);
  }

module _ {s t u : List ℕ} (h : Joins s t u) where
  abbrev a : Sheet
  a = h.first

  abbrev b : Sheet
  b = h.second

  ra : Ranges a
  ra = sheet_ranges s h.read_first

  rb : Ranges b
  rb = sheet_ranges t h.read_second

  -- GET, EXACTLY, for every plan, allowance, output and scratch: behind the door and the plan, a step for the pair; the first sheet's root
  -- with 47 levels; the second's; and 44 where the pair is over 256 bytes. The first refusal met is the answer, and steps add up
  pub joined_get-answer : (plan : List ℕ) (allowance output scratch : ℕ) → get_answer u plan allowance output scratch
      ≡ answer (door get_output output scratch allowance (reading (read_plan a.k plan) λ μ. map_out encode
      (within allowance (plus 1 (get 47 a a.root μ >>= λ x. get 47 b b.root μ >>= λ y. bounded (pair x y))))))
  unfolding get_answer
  joined_get-answer plan allowance output scratch = ap (λ o. answer (door get_output output scratch allowance o)) (joined_get h plan allowance)

  -- the same, of what both walks answer
  answered : (plan : List ℕ) (allowance output scratch : ℕ) → get_answer u plan allowance output scratch
      ≡ answer (door get_output output scratch allowance (reading (read_plan h.first.k plan) λ μ. map_out encode
      (within allowance (plus 1 (get 47 h.first h.first.root μ >>= λ x. get 47 h.second h.second.root μ >>= λ y. bounded (pair x y))))))
  unfolding get_answer
  answered plan allowance output scratch = ap (λ o. answer (door get_output output scratch allowance o)) (joined_get h plan allowance)

  -- where both walks succeed with 47 levels: the pair, or 44
  module _ (plan : List ℕ) (allowance output scratch : ℕ) (l : DoorOpens get_output output scratch allowance) {μ : Env} (ep : read_plan a.k plan ≡ ok μ)
      {x y : Value} {m n : ℕ} (ex : get 47 a a.root μ ≡ done x m) (ey : get 47 b b.root μ ≡ done y n) (few : 1 + m + n ≤ allowance) where
    pub joined_get_walks : size (pair x y) ≤ 256 → get_answer u plan allowance output scratch ≡ success (encode (pair x y)) (1 + m + n)
    unfolding answer reading map_out
    joined_get_walks fits = answered plan allowance output scratch ∙ ap answer (door_open l)
        ∙ rw (ep, sym (get_walk-joined ra rb allowance μ) ∙ get_walk-pair ra rb allowance μ ex ey fits few)

    pub joined_get_long : 256 < size (pair x y) → get_answer u plan allowance output scratch ≡ refusal 44
    unfolding answer reading map_out ◌>>=◌ plus Semantics.bounded steps
    joined_get_long long = answered plan allowance output scratch ∙ ap answer (door_open l)
        ∙ rw (
          ep,
          ex,
          ey,
          given_not {B = Value} 44 (dec_le (size (pair x y)) 256) (λ _. done (pair x y) 0) (λ z. omega arith),
          within_yes {A = Value} allowance (refused 44 (1 + (m + (n + 0)))) (omega arith),
        )

-- what both are alone
module _ {s t u : List ℕ} (h : Joins s t u) (plan x y : List ℕ) (A B output scratch m n : ℕ)
    (first : get_answer s plan A output scratch ≡ success x m) (second : get_answer t plan B output scratch ≡ success y n)
    (few : GetsWithin 47 s plan) (few' : GetsWithin 47 t plan) where
  -- the walks of both
  record Alone : Type 0 where
    μ : Env
    v : Value
    w : Value
    plan_read : read_plan h.first.k plan ≡ ok μ
    first_walk : get 47 h.first h.first.root μ ≡ done v m
    second_walk : get 47 h.second h.second.root μ ≡ done w n
    first_bytes : x ≡ encode v
    second_bytes : y ≡ encode w

  alone : Alone
  alone =
      let d = (get_shows first).1 in
      let e = (get_shows second).1 in
      let qd : d.sh ≡ h.first = let z = d.sheet_read in let r = h.read_first in cc in
      let qe : e.sh ≡ h.second = let z = e.sheet_read in let r = h.read_second in cc in
      let pd : read_plan h.first.k plan ≡ ok d.μ = rw qd at d.plan_read in
      let pe : read_plan h.second.k plan ≡ ok e.μ = rw qe at e.plan_read in
      let pe' : read_plan h.first.k plan ≡ ok e.μ = rw (← h.variables) at pe in
      let qμ : e.μ ≡ d.μ = cc in
      let walk : get 47 h.second h.second.root e.μ ≡ done e.v n =
      get_fewer h.second h.second.root e.μ level_limit 47 (rw qe at e.walk) (few'.no_deeper h.read_second pe) in
      record {
        μ = d.μ;
        v = d.v;
        w = e.v;
        plan_read = pd;
        first_walk = get_fewer h.first h.first.root d.μ level_limit 47 (rw qd at d.walk) (few.no_deeper h.read_first pd);
        second_walk = rw qμ at walk;
        first_bytes = d.bytes;
        second_bytes = e.bytes;
      }

  lent : {allowance : ℕ} → 1 + m + n ≤ allowance → allowance ≤ allowance_limit → DoorOpens get_output output scratch allowance
  lent fit most =
      let l = (get_shows first).0 in record { output_long = l.output_long; scratch_long = l.scratch_long; some_steps = omega arith; few_steps = most }

  long_as : size (pair alone.v alone.w) ≡ 1 + length x + length y
  unfolding size
  long_as = let k = alone in omega (arith, size-encode k.v, size-encode k.w, ap length k.first_bytes, ap length k.second_bytes)

  bytes_as : encode (pair alone.v alone.w) ≡ 0x05 ∷ x ++ y
  unfolding encode
  bytes_as = ap₂ (λ (p q : List ℕ). 0x05 ∷ p ++ q) (sym alone.first_bytes) (sym alone.second_bytes)

-- AS THE REQUEST SAYS IT. Both sheets read the plan out, and enter no node deeper than 47: the first to the bytes x in m steps, under the
-- allowance A; the second to y in n steps, under B
module _ {s t u : List ℕ} (h : Joins s t u) (plan x y : List ℕ) (A B output scratch m n : ℕ)
    (first : get_answer s plan A output scratch ≡ success x m) (second : get_answer t plan B output scratch ≡ success y n)
    (shallow : GetsWithin 47 s plan) (shallow' : GetsWithin 47 t plan) where
  -- If the pair fits in 256 bytes, the joined sheet gives the pair in 1 + m + n steps, allowance permitting
  pub joined_gets : (allowance : ℕ) → 1 + length x + length y ≤ 256 → 1 + m + n ≤ allowance → allowance ≤ allowance_limit
      → get_answer u plan allowance output scratch ≡ success (0x05 ∷ x ++ y) (1 + m + n)
  joined_gets allowance fits few most =
      let k = alone h plan x y A B output scratch m n first second shallow shallow' in
      joined_get_walks h plan allowance output scratch (lent h plan x y A B output scratch m n first second shallow shallow' few most) k.plan_read k.first_walk
      k.second_walk few (omega (arith, long_as h plan x y A B output scratch m n first second shallow shallow'))
      ∙ ap (λ (bs : List ℕ). success bs (1 + m + n)) (bytes_as h plan x y A B output scratch m n first second shallow shallow')

  -- and if it does not, 44
  pub joined_get_44 : (allowance : ℕ) → 256 < 1 + length x + length y → 1 + m + n ≤ allowance → allowance ≤ allowance_limit
      → get_answer u plan allowance output scratch ≡ refusal 44
  joined_get_44 allowance long few most =
      let k = alone h plan x y A B output scratch m n first second shallow shallow' in
      joined_get_long h plan allowance output scratch (lent h plan x y A B output scratch m n first second shallow shallow' few most) k.plan_read k.first_walk
      k.second_walk few (omega (arith, long_as h plan x y A B output scratch m n first second shallow shallow'))

-- AND THE OTHER WAY ROUND: where the joined sheet reads out, so do both, with no node deeper than 47, and what it gives is their pair
module _ {s t u : List ℕ} (h : Joins s t u) (plan : List ℕ) (allowance output scratch : ℕ) where
  pub record GotBoth (view : List ℕ) (n : ℕ) : Type 0 where
    pub x : List ℕ
    pub y : List ℕ
    pub m : ℕ
    pub l : ℕ
    pub first : get_answer s plan allowance output scratch ≡ success x m
    pub second : get_answer t plan allowance output scratch ≡ success y l
    pub view_is : view ≡ 0x05 ∷ x ++ y
    pub counted : n ≡ 1 + m + l
    pub shallow : GetsWithin 47 s plan
    pub shallow' : GetsWithin 47 t plan

  -- one part of it, alone
  module _ (opened : DoorOpens get_output output scratch allowance) (sheet : List ℕ) {sh : Sheet} (es : read_sheet sheet ≡ ok sh)
      {μ : Env} (ep : read_plan sh.k plan ≡ ok μ) {v : Value} {m : ℕ} (e : get 47 sh sh.root μ ≡ done v m) (few : m ≤ allowance) where
    part_answers : get_answer sheet plan allowance output scratch ≡ success (encode v) m
    part_answers = get_answers opened (record {
      sh = sh;
      sheet_read = es;
      μ = μ;
      plan_read = ep;
      v = v;
      walk = get_more sh sh.root μ 47 level_limit e (omega arith);
      few = few;
      bytes = refl;
    })

  bounded-done : (v : Value) {w : Value} {n : ℕ} → bounded v ≡ done w n → (w ≡ v) × (n ≡ 0)
  unfolding Semantics.bounded
  bounded-done v e = let (z, q) = given-done 44 (when (dec_le (size v) 256)) _ e in (cc, cc)

  pair_got : {μ : Env} {v : Value} {n k : ℕ} {view : List ℕ} → view ≡ encode v → k ≡ 1 + n
      → DoorOpens get_output output scratch allowance → read_plan h.first.k plan ≡ ok μ → n ≤ allowance
      → get 47 h.first h.first.root μ >>= (λ x. get 47 h.second h.second.root μ >>= λ y. bounded (pair x y)) ≡ done v n
      → GotBoth view k
  unfolding encode
  pair_got {μ} {v} {n} ev ek opened ep few e =
      let (x, m, ex, e₁) = bind_done (get 47 h.first h.first.root μ) _ e in
      let (n₁, e₂, q₁) = plus-done m _ e₁ in
      let (y, l, ey, e₃) = bind_done (get 47 h.second h.second.root μ) _ e₂ in
      let (n₂, e₄, q₂) = plus-done l _ e₃ in
      let (qv, q₃) = bounded-done (pair x y) {n = n₂} e₄ in
      let ep' : read_plan h.second.k plan ≡ ok μ = rw h.variables at ep in
      record {
        x = encode x;
        y = encode y;
        m = m;
        l = l;
        first = part_answers opened s h.read_first ep ex (omega arith);
        second = part_answers opened t h.read_second ep' ey (omega arith);
        view_is = ev ∙ ap encode qv;
        counted = omega arith;
        shallow = gets_within s plan 47 h.read_first ep ex;
        shallow' = gets_within t plan 47 h.read_second ep' ey;
      }

  pub joined_get_apart : {view : List ℕ} {n : ℕ} → get_answer u plan allowance output scratch ≡ success view n → GotBoth view n
  unfolding get_walk joined
  joined_get_apart {view} {n} e =
      let (opened, g) = get_shows e in
      let qs : g.sh ≡ joined h.first h.second = let z = g.sheet_read in let r = joined_read h in cc in
      let walk : get level_limit (joined h.first h.second) (joined h.first h.second).root g.μ ≡ done g.v n = rw qs at g.walk in
      let whole = (within-done allowance _ (sym (get_walk-joined (ra h) (rb h) allowance g.μ)
      ∙ ap (within allowance) walk ∙ done-within allowance g.v n g.few)).0 in
      let (k, e₁, q) = plus-done 1 _ whole in
      let few = g.few in
      pair_got {n = k} g.bytes q opened (plan_from (rw qs at g.plan_read)) (omega arith) e₁
    where
      plan_from : {μ : Env} → read_plan (joined h.first h.second).k plan ≡ ok μ → read_plan h.first.k plan ≡ ok μ
      plan_from e = e
