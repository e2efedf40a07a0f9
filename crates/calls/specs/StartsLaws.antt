-- Laws of a put's starts: they are those that loading its new plan gives, and with them each variable is the value that a reading of the
-- new plan from the front gives (document 02, request 2).
use Rattle.std.specs.Prelude.{◌≡◌, List, ℕ, ◌≤◌, ◌<◌, length, get_or}
use Rattle.std.proofs.Common.{sym, ◌∙◌, arith}
use Rattle.std.proofs.Math.Path.{ap}
use Rattle.value.specs.Result.{ok}
use Rattle.value.specs.Result
use Rattle.value.specs.Value.{Value, vfalse, encode}
use Rattle.value.specs.Reading.{read_plan}
use Rattle.sheet.specs.Sheet.{Sheet, read_sheet}
use Rattle.starts.specs.declared.Starts.{Starts}
use Rattle.starts.specs.Starts.{no_starts, load_of, starts_in, find_of, part_of}
use Rattle.starts.proofs.StartsLaws.{load_few, load_gives, loaded_part, loaded_none}
use Rattle.rules.specs.Answer.{Answer, refusal, success, put_answer}
use Rattle.rules.proofs.Laws.Trips.{new_plan_lem}
use Rattle.calls.specs.Reply.{PutReply}
use Rattle.calls.specs.Calls.{new_starts, PutAnswered}

-- a put gives at most 16 starts
new_few : (sheet : List ℕ) (a : Answer) → (new_starts sheet a).count ≤ 16
unfolding new_starts no_starts
new_few sheet (refusal c) = omega arith
new_few sheet (success new n) = load_few sheet new

pub put_few : {sheet plan view : List ℕ} {allowance : ℕ} {a : Answer} {r : PutReply} {o o' s s' : List ℕ}
    → PutAnswered sheet plan view allowance a r o o' s s' → r.starts.count ≤ 16
put_few {sheet} {a = a} w = rw w.starts (new_few sheet a)

module _ (sheet plan view : List ℕ) (allowance output scratch : ℕ) {new : List ℕ} {n : ℕ}
    (e : put_answer sheet plan view allowance output scratch ≡ success new n) where
  -- the starts that the put gives
  abbrev given : Starts
  given = new_starts sheet (put_answer sheet plan view allowance output scratch)

  given_is : given ≡ starts_in (load_of sheet new)
  unfolding new_starts
  given_is = ap (new_starts sheet) e

  -- a reading from the front of the new plan succeeds
  pub new_read : (sh : Sheet) × (vs : List Value) × (read_sheet sheet ≡ ok sh) × (read_plan sh.k new ≡ ok vs)
  new_read = let (sh, vs, s, b, k, r, p) = new_plan_lem sheet plan view allowance output scratch new n e in (sh, vs, s, p)

  -- loading the new plan succeeds and gives the put's starts
  pub put_loads : load_of sheet new ≡ ok given
  unfolding starts_in
  put_loads =
      let (sh, vs, s, p) = new_read in
      let l = load_gives sheet new s p in
      l ∙ ap (λ (x : Starts). ok x) (sym (given_is ∙ ap starts_in l))

  module _ {sh : Sheet} {vs : List Value} (s : read_sheet sheet ≡ ok sh) (p : read_plan sh.k new ≡ ok vs) (i : ℕ) where
    -- variable i is the i-th value, and there is no other
    pub put_part : i < length vs → part_of (find_of given (length new) i) new ≡ encode (get_or vs i vfalse)
    put_part h = ap (λ (x : Starts). part_of (find_of x (length new) i) new) given_is ∙ loaded_part sheet new s p i h

    pub put_none : length vs ≤ i → find_of given (length new) i ≡ Result.refusal 23
    put_none h = ap (λ (x : Starts). find_of x (length new) i) given_is ∙ loaded_none sheet new s p i h
