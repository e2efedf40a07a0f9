-- On a sheet that passed 42 never occurs, whatever the plan and the view are: more than document 02's request 6 asks, which speaks of plans and views of
-- the stated types.
use Rattle.std.specs.Prelude.{◌≡◌, refl, List, [], ◌∷◌, ℕ, zero, suc, ◌+◌, ◌≤◌, ◌<◌, length}
use Rattle.std.proofs.Common.{sym, ◌∙◌, arith}
use Rattle.std.proofs.Math.Decide.{dec_le}
use Rattle.std.proofs.Math.ListN.{length-replicate}
use Rattle.std.proofs.Math.Seq.{length-take-le}
use Rattle.value.specs.All.{All, none as empty, each}
use Rattle.value.specs.Result.{Result, ok, refusal, map_result}
use Rattle.value.specs.Value.{Value, encode, flat}
use Rattle.value.specs.Reading.{Found, whole, malformed, too_long, nothing, a_value, value, read_value, on_value, read_values, read_plan, read_view}
use Rattle.value.proofs.Laws.{read_values_sound}
use Rattle.sheet.specs.Laws.{sheet_ranges}
use Rattle.rules.specs.Numbers.{level_limit}
use Rattle.rules.specs.Outcome.{Out, steps, when, map_out, given, reading}
use Rattle.rules.specs.Allowance.{within, cap}
use Rattle.rules.specs.Counting.{Env}
use Rattle.rules.specs.Answer.{Answer, answer, door, count, new_plan, get_walk, get_bytes, get_answer, put_walk, put_bytes, put_answer}
use Rattle.typing.specs.Check.{many, lent_of}
use Rattle.typing.specs.Fits.{root, here}
use Rattle.typing.proofs.CheckLaws.{all_ranged}
use Rattle.typing.proofs.Written.{types_read}
use Rattle.typing.proofs.Calls.{Passes}
use Rattle.typing.specs.Widths.{Safe, fine, other}
use Rattle.typing.proofs.Widths.{get_safe, put_safe}
use Rattle.typing.specs.Never.{Low, low, read}

-- REFUSALS THAT ARE NOT 42
safe_map_out : {A B : Type 0} {P : A → Type 0} (f : A → B) {o : Out A} → Safe P o → Safe (λ b. Unit {0}) (map_out f o)
unfolding map_out
safe_map_out f (fine p) = fine tt
safe_map_out f (other h) = other h

safe_within : {A : Type 0} {Q : A → Type 0} (a : ℕ) {o : Out A} → Safe Q o → Safe Q (within a o)
unfolding within cap
safe_within {Q = Q} a {o} h = go (dec_le (steps o) a)
  where
    go : (d : Dec (steps o ≤ a)) → Safe Q (cap {a = a} o d)
    go (yes l) = h
    go (no l) = other {c = 41} (λ e. omega arith)

safe_when : {A B : Type 0} {Q : B → Type 0} (c : ℕ) (d : Dec A) {o : Out B} → (c ≡ 42 → ⊥) → Safe Q o → Safe Q (given c (when d) λ _. o)
unfolding given when
safe_when c (yes a) n h = h
safe_when c (no a) n h = other n

safe_door : {Q : List ℕ → Type 0} (need output scratch allowance : ℕ) {o : Out (List ℕ)} → Safe Q o → Safe Q (door need output scratch allowance o)
unfolding door
safe_door need output scratch allowance h = safe_when 1 _ (λ e. omega arith) (safe_when 2 _ (λ e. omega arith) (safe_when 3 _ (λ e. omega arith)
    (safe_when 3 _ (λ e. omega arith) h)))

safe_answer : {Q : List ℕ → Type 0} {o : Out (List ℕ)} → Safe Q o → answer o ≡ Answer.refusal 42 → ⊥
unfolding answer
safe_answer (fine q) e = let z : ◌≡◌ {A = ℕ} 0 1 = cc in omega arith
safe_answer (other {c} n) e = let z : c ≡ 42 = cc in n z

low_map : {A B : Type 0} {m : ℕ} {r : Result A} (f : A → B) → Low m r → Low m (map_result f r)
unfolding map_result
low_map f read = read
low_map f (low h) = low h

low_value : {A : Type 0} (c : ℕ) (v : Found (value ∷ [])) (f : Value → List ℕ → Result A) → ((w : Value) (bs : List ℕ) → Low (c + 2) (f w bs))
    → Low (c + 2) (on_value c v f)
unfolding on_value
low_value c (whole (a_value v nothing) bs) f k = k v bs
low_value c malformed f k = low {d = c} (omega arith)
low_value c too_long f k = low {d = c + 1} (omega arith)

low_values : (c k : ℕ) (bs : List ℕ) → Low (c + 2) (read_values c k bs)
unfolding read_values
low_values c zero [] = read
low_values c zero (b ∷ bs) = low {d = c + 2} (omega arith)
low_values c (suc k) [] = low {d = c + 2} (omega arith)
low_values c (suc k) (b ∷ bs) = low_value c (read_value (b ∷ bs)) _ λ v more. low_map _ (low_values c k more)

safe_reading : {A B : Type 0} {Q : B → Type 0} {m : ℕ} (r : Result A) (f : A → Out B) → m < 42 → Low m r → ((a : A) → r ≡ ok a → Safe Q (f a))
    → Safe Q (reading r f)
unfolding reading
safe_reading (ok a) f h l k = k a refl
safe_reading (refusal d) f h (low {d = e} b) k = other {c = d} (λ z. omega arith)

-- the plan's cells
counted : (i n : ℕ) → length (count i n) ≡ n
unfolding count
counted i zero = refl
counted i (suc n) = let e = counted (suc i) n in omega arith

counted_in : (i n m : ℕ) → i + n ≤ m → All (λ c. c < m) (count i n)
unfolding count
counted_in i zero m h = empty
counted_in i (suc n) m h = each {a = i} (omega arith) (counted_in (suc i) n m (omega arith))

-- WHOLE CALLS
module _ {sheet types : List ℕ} (p : Passes sheet types) where
  -- the plan's scope has a type for each of its variables
  plan_wide : length (lent_of p.sh p.types_read).plan ≡ p.sh.k
  unfolding lent_of many
  plan_wide = length-take-le p.sh.k p.types_read (omega (arith, (types_read (many p.sh) types p.types_are).many))

  module _ (plan : List ℕ) (allowance : ℕ) where
    as_wide : {μ : Env} → read_plan p.sh.k plan ≡ ok μ → length μ ≡ length (lent_of p.sh p.types_read).plan
    as_wide e = (read_values_sound 20 p.sh.k plan e).count ∙ sym plan_wide

    pub get_never_42 : (output scratch : ℕ) → get_answer sheet plan allowance output scratch ≡ Answer.refusal 42 → ⊥
    unfolding get_answer get_bytes get_walk reading
    get_never_42 output scratch = safe_answer {Q = λ b. Unit {0}} (safe_door _ _ _ _ (rw p.sheet_is
        (safe_reading (read_plan p.sh.k plan) _ (omega arith) (low_values 20 _ plan) λ μ e.
        safe_map_out encode (safe_within allowance (get_safe p.sh (lent_of p.sh p.types_read) p.passed
        (all_ranged (sheet_ranges sheet p.sheet_is)) level_limit p.sh.root _ μ (root here) (as_wide e))))))

    pub put_never_42 : (view : List ℕ) (output scratch : ℕ) → put_answer sheet plan view allowance output scratch ≡ Answer.refusal 42 → ⊥
    unfolding put_answer put_bytes put_walk reading
    put_never_42 view output scratch = safe_answer {Q = λ b. Unit {0}} (safe_door _ _ _ _ (rw p.sheet_is
        (safe_reading (read_plan p.sh.k plan) _ (omega arith) (low_values 20 _ plan) λ μ e.
        safe_reading (read_view view) _ (omega arith) (low_values 30 1 view) λ vs f. safe_map_out (λ X. flat (new_plan X μ))
        (safe_within allowance (put_safe p.sh (lent_of p.sh p.types_read) p.passed (all_ranged (sheet_ranges sheet p.sheet_is))
        level_limit p.sh.root _ μ (count 0 (length μ)) _ _ (root here) (as_wide e)
        (counted 0 (length μ) ∙ as_wide e) (rw length-replicate (counted_in 0 (length μ) (length μ) (omega arith))))))))
