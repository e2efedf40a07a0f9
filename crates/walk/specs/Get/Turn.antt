-- A turn of the loop over the members of a list (1C): what its call asks, a refusal in it, and the list with one member more.
use Rattle.std.proofs.Math.Path.{◌≡◌, ap}
use Rattle.std.specs.Prelude.{refl, Bool, true, false, List, [], ◌∷◌, ◌++◌, ℕ, suc, ◌+◌, ◌-◌, ◌≤◌, ◌<◌, ltb, get_or}
use Rattle.std.proofs.Common.{sym, ◌∙◌, le_refl, arith, ltb-true, ltb-false}
use Rattle.std.proofs.Math.Decide.{dec_le}
use Rattle.outcome.specs.Outcome.{is_refusal, done_as, len_of, start_of, steps_of, steps_small}
use Rattle.value.specs.Result.{ok}
use Rattle.value.specs.Value.{Value, Values, vfalse, list, cons, encode, size, e_cons}
use Rattle.shapes.specs.Parts.{shape_of}
use Rattle.sheet.specs.Sheet.{Sheet, read_sheet}
use Rattle.rules.specs.Outcome.{when}
use Rattle.rules.specs.Semantics.{Env, two}
use Rattle.rules.specs.Explain.{◌>>=◌, get, given}
use Rattle.rules.specs.Numbers.{scratch_size, variable_limit}
use Rattle.scopes.specs.declared.Scope.{Scope}
use Rattle.decisions.specs.Decisions.{fronted_as}
use Rattle.decisions.specs.DecisionLaws.{front_refused, front_long, front_done as step_front_done}
use Rattle.walk.specs.Decoded.{Own, after, done_said, refused_decoded, decoded, decoded_done, decoded_refused}
use Rattle.walk.specs.declared.at.At.{At}
use Rattle.walk.specs.Arena.Parts.{part, SameBelow, kept_then, part_kept, part_join, Marked, marked_kept, marked_part}
use Rattle.walk.specs.Moves.{top_above, behind_of}
use Rattle.walk.specs.Scope.{with_member}
use Rattle.walk.specs.Arena.{Held, Scoped, env_later, env_member}
use Rattle.walk.specs.Arena.Bytes.{held_some, held_short, held_head, held_shape, TwoHeld, held_front}
use Rattle.walk.specs.Members.{fronts, front_sizes, onto_one, fronts_one, sizes_one, get_member, front_rest, first_bytes_of, front_middle}
use Rattle.walk.specs.Represents.{given_so, Represents, answer_by, steps_to, then_done, then_refused, give_no, had, not_had, then_steps_to}
use Rattle.walk.specs.Get.{run, GotAt, Here, Asks}
use Rattle.walk.specs.Get.Requires.{ready_in}
use Rattle.walk.specs.Get.Top.{AtTop}
use Rattle.walk.specs.Get.Members.{AsksMembers, TellsMembers, left_of, Reached, Building, held_now, some_reached, rest_inside}

-- WHAT `fronted` GIVES

pub data Fronted (base top got r : ℕ) : Type 0 where
  passed_on : is_refusal got ≡ true → r ≡ got → Fronted base top got r
  long : is_refusal got ≡ false → 256 < top + 1 - base + (1 + len_of got) → r ≡ 44 → Fronted base top got r
  fits : is_refusal got ≡ false → top + 1 - base + (1 + len_of got) ≤ 256 → r ≡ done_as top (1 + len_of got) (steps_of got) → Fronted base top got r

-- as the code has it: the list has top - base bytes so far
pub fronted_by : {base top got r : ℕ} → base ≤ top → r ≡ fronted_as got (top - base) top → Fronted base top got r
fronted_by {base} {top} {got} {r} low is = go (is_refusal got) refl (ltb 256 (top - base + (1 + len_of got) + 1)) refl
  where
    go : (p : Bool) → is_refusal got ≡ p → (o : Bool) → ltb 256 (top - base + (1 + len_of got) + 1) ≡ o → Fronted base top got r
    go true e o f = passed_on e (is ∙ sym (front_refused got _ _ e))
    go false e true f = long e (omega (arith, ltb-true 256 (top - base + (1 + len_of got) + 1) f)) (is ∙ sym (front_long got _ _ e refl f))
    go false e false f = fits e (omega (arith, ltb-false 256 (top - base + (1 + len_of got) + 1) f)) (is ∙ sym (step_front_done got _ _ e refl f refl))

-- where it gives no refusal
record FrontDone (base top got r : ℕ) : Type 0 where
  there : is_refusal got ≡ false
  short : top + 1 - base + (1 + len_of got) ≤ 256
  start : start_of r ≡ top
  len : len_of r ≡ 1 + len_of got
  steps : steps_of r ≡ steps_of got

front_done : {base top got r : ℕ} → top < scratch_size → Fronted base top got r → is_refusal r ≡ false → FrontDone base top got r
front_done few (passed_on n is) q = absurd (let y : true ≡ false = cc in let z : ◌≡◌ {A = ℕ} 0 1 = cc in omega arith)
front_done {r = r} few (long n lt is) q =
    let d = ap (decoded [] 0) is ∙ refused_decoded [] 0 {r = 44} (omega arith) (omega arith) in
    let y = decoded_done [] 0 r q in
    absurd (let z : ◌≡◌ {A = ℕ} 0 1 = cc in omega arith)
front_done {top = top} {got = got} {r = r} few (fits n le is) q =
    let d = ap (decoded [] 0) is ∙ done_said [] 0 top (1 + len_of got) (steps_of got) few (omega arith) (steps_small got) in
    let y = decoded_done [] 0 r q in
    record { there = n; short = le; start = cc; len = cc; steps = cc }

-- AT A STAGE: a turn begins; the next member stands behind a 03, in mid - 1 bytes
pub record Turning (h : Here) (x root start end : ℕ) (a : List ℕ) (to : At) (next mid : ℕ) : Type 0 where
  pub asked : AsksMembers h x root start end
  pub built : Building h x root start end a to next
  pub front : get_or a next 0 ≡ 3
  pub middle : mid ≡ first_bytes_of (shape_of (part a next (end - next)))

module _ {h : Here} {x root start end : ℕ} {a : List ℕ} {to : At} {next mid : ℕ} (k : Turning h x root start end a to next mid) where
  abbrev w : AsksMembers h x root start end
  w = k.asked

  abbrev b : Building h x root start end a to next
  b = k.built

  record Turn (sh : Sheet) (μ : Env) (ms : Values) : Type 0 where
    so_far : Reached h x root end a to.top to.left next sh μ ms
    first : Value
    others : Values
    are : so_far.rest ≡ cons first others
    parts : TwoHeld h.arena h.top next (end - next) mid first (list others)

  turn : {sh : Sheet} {μ : Env} {ms : Values} → Reached h x root end a to.top to.left next sh μ ms → Turn sh μ ms
  turn q =
      let f = front_rest q.rest (sym (held_head (held_now w b q.held)) ∙ k.front) in
      let e = f.2 in
      let v : Held h.arena h.top next (end - next) (list (cons f.0 f.1)) = rw e at q.held in
      let z : mid ≡ 1 + size f.0 = k.middle ∙ ap first_bytes_of (held_shape (held_now w b v) refl) ∙ front_middle f.0 f.1 in
      record { so_far = q; first = f.0; others = f.1; are = e; parts = held_front z v }

  -- what `member` asks, and that the list goes on behind it
  pub member_there : (x < variable_limit) × (next + 1 < scratch_size) × (2 ≤ mid) × (mid - 1 ≤ 256) × (next + mid < end)
  member_there =
      let v = (turn (some_reached w b)).parts in
      let s = held_some v.first in
      let t = held_some v.second in
      let e = rest_inside w b in
      let room = w.room in
      let y = w.narrow in
      let i = w.inside in
      (omega arith, omega arith, omega arith, held_short v.first, omega arith)

  abbrev pub inner : Scope
  inner = with_member h.scope x (next + 1) (mid - 1)

  module _ {m : List ℕ} (mark : Marked 3 to.top a m) where
    -- where it is got
    abbrev pub turn_here : Here
    turn_here = record { sheet = h.sheet; table = h.table; arena = m; scope = inner; top = to.top + 1; left = to.left; levels = to.levels }

    kept₁ : SameBelow h.top h.arena m
    kept₁ = kept_then b.kept (marked_kept mark) b.low

    env₁ : {sh : Sheet} {μ : Env} {ms : Values} → Scoped h.arena h.scope h.top μ → (t : Turn sh μ ms)
        → Scoped m inner (to.top + 1) (two t.first (get_or μ x vfalse))
    env₁ e t = env_later kept₁ w.asked.base (to.top + 1) (omega (arith, b.low)) (env_member e (omega (arith, e.count, w.inside)) t.parts.first)

    pub turn_asks : Asks turn_here root
    turn_asks =
        let l = b.level in
        let low = b.low in
        let short = b.short in
        let room = w.room in
        let y = w.asked.variables in
        ready_in w.asked kept₁ (to.top + 1) to.levels to.left (omega arith) (omega (arith, w.asked.few, b.few)) (omega arith)
        (omega (arith, w.inside)) w.asked.known _ (env₁ w.asked.scoped (turn (some_reached w b)))

    -- what is left of the list, by the rule
    rule : {sh : Sheet} {μ : Env} {ms : Values} (t : Turn sh μ ms) → left_of h x root sh μ t.so_far.vs t.so_far.rest
        ≡ (get h.levels sh root (two t.first (get_or μ x vfalse)) >>= λ v.
        given 44 (when (dec_le (suc (front_sizes t.so_far.vs) + suc (size v)) 256)) λ _. left_of h x root sh μ (t.so_far.vs ++ v ∷ []) t.others)
    rule {sh} {μ} t = ap (left_of h x root sh μ t.so_far.vs) t.are ∙ get_member _ root _ t.so_far.vs t.first t.others

    module _ {a₂ : List ℕ} {g : ℕ} (t : AtTop turn_here a₂ g root) where
      kept₂ : SameBelow h.top h.arena a₂
      kept₂ = kept_then kept₁ t.gives.kept (omega (arith, b.low))

      answered : (sh : Sheet) → read_sheet h.sheet ≡ ok sh → (μ : Env) → Scoped h.arena h.scope h.top μ → {ms : Values} (u : Turn sh μ ms)
          → Represents (GotAt a₂ (to.top + 1)) (decoded a₂ h.levels g) to.left (get h.levels sh root (two u.first (get_or μ x vfalse)))
      unfolding run
      answered sh es μ e u = rw b.level at (t.gives.told sh es _ (env₁ e u))

      -- it is refused
      pub turn_refused : {r : ℕ} → Fronted h.top to.top g r → is_refusal r ≡ true → TellsMembers h a₂ r x root start end
      unfolding run after
      turn_refused (passed_on n is) _ = rw is (record {
        told = λ v. record {
          kept = kept₂;
          told = λ sh es μ e.
              let u = turn (b.reached sh es μ e v) in
              let y = decoded_refused _ _ g n in
              steps_to u.so_far.onwards (answer_by (then_refused _ _ (not_had (answered sh es μ e u) y).1 refl) (rule u)) y;
        };
      })
      turn_refused {r} (long n lt is) _ = record {
        told = λ v. record {
          kept = kept₂;
          told = λ sh es μ e.
              let u = turn (b.reached sh es μ e v) in
              let d = had (answered sh es μ e u) (decoded_done _ _ g n) in
              let y : decoded a₂ h.levels r ≡ Own 44 = ap (decoded _ _) is ∙ refused_decoded _ _ (omega arith) (omega arith) in
              steps_to u.so_far.onwards (answer_by (then_done _ _ {q = Own 44} d.is
              (give_no _ _ _ (λ le. omega (arith, u.so_far.long, d.that.held.long)) refl) refl) (rule u)) y;
        };
      }
      turn_refused {r} (fits n le is) q =
          let room = w.room in
          let short = b.short in
          let d = ap (decoded a₂ h.levels) is ∙ done_said a₂ h.levels to.top (1 + len_of g) (steps_of g) (omega arith) (omega arith) (steps_small g) in
          let y = decoded_refused a₂ h.levels r q in
          absurd (let z : ◌≡◌ {A = ℕ} 0 1 = cc in omega arith)

      -- it is there: the list is one member longer
      module _ (n : is_refusal g ≡ false) (le : to.top + 1 - h.top + (1 + len_of g) ≤ 256) where
        longer_bytes : (vs : List Value) {v : Value} → to.top ≡ h.top + front_sizes vs → part a h.top (front_sizes vs) ≡ fronts vs
            → GotAt a₂ (to.top + 1) (start_of g) (len_of g) v → part a₂ h.top (front_sizes (vs ++ v ∷ [])) ≡ fronts (vs ++ v ∷ [])
        longer_bytes vs {v} e p s =
            let one : part a₂ to.top 1 ≡ 3 ∷ [] = part_kept t.gives.kept to.top 1 (le_refl _) ∙ marked_part mark in
            let two : part a₂ (to.top + 1) (size v) ≡ encode v = rw (t.there n, s.held.long) at s.held.bytes in
            let z : suc (size v) ≡ 1 + size v = omega arith in
            let low = part_kept (kept_then (marked_kept mark) t.gives.kept (omega arith)) h.top (front_sizes vs) (omega arith) in
            rw (sizes_one vs v, fronts_one vs v, z) (part_join a₂ h.top (front_sizes vs) (1 + size v)
            ∙ rw (low, p, ← e, part_join a₂ to.top 1 (size v), one, two))

        abbrev next_place : At
        next_place = record { levels = to.levels; left = to.left - steps_of g; top = to.top + (1 + len_of g); cells = to.cells }

        longer : Building h x root start end a₂ next_place (next + mid)
        longer =
            let low = b.low in
            let few = b.few in
            let s = t.sized.at n in
            record {
              level = b.level;
              kept = kept₂;
              low = omega arith;
              short = omega arith;
              few = omega arith;
              reached = λ sh es μ e {ms} v.
                  let u = turn (b.reached sh es μ e v) in
                  let q = u.so_far in
                  let d = had (answered sh es μ e u) (decoded_done _ _ g n) in
                  let z : end - next - mid ≡ end - (next + mid) = omega arith in
                  record {
                    vs = q.vs ++ d.value ∷ [];
                    rest = u.others;
                    long = omega (arith, q.long, d.that.held.long, sizes_one q.vs d.value);
                    bytes = longer_bytes q.vs q.long q.bytes d.that;
                    encodable = λ r. rw onto_one (q.encodable (e_cons d.that.held.readable.encodable r));
                    held = rw z at u.parts.second;
                    onwards = then_steps_to _ _ q.onwards (rule u) d.is
                        (given_so 44 _ _ (omega (arith, q.long, d.that.held.long))) (omega arith);
                  };
            }

      front_short : to.top < scratch_size
      front_short = omega (arith, w.room, b.short)

      -- no more steps were taken than were left
      pub turn_steps : {r : ℕ} → Fronted h.top to.top g r → is_refusal r ≡ false → steps_of r ≤ to.left
      turn_steps f q =
          let d = front_done front_short f q in
          let s = t.sized.at d.there in
          omega (arith, d.steps)

      pub turn_done : {r : ℕ} → Fronted h.top to.top g r → is_refusal r ≡ false → Building h x root start end a₂ (behind_of to r) (next + mid)
      turn_done f q =
          let d = front_done front_short f q in
          rw (d.start, d.len, d.steps, top_above to.top to.top (1 + len_of g) (omega arith)) (longer d.there d.short)
