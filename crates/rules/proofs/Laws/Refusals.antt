-- Every refusal of a whole call is one number of document 01's table, and the first three come from the door alone.
use Rattle.std.specs.Prelude.{◌≡◌, Bool, true, false, ◌||◌, ◌&&◌, eqb, leb}
use Rattle.std.proofs.Math.Path.{refl}
use Rattle.std.proofs.Math.Option.{Option, none, some}
use mathlib.Core.List.{List, [], ◌∷◌}
use Prim.Native.Nat.{ℕ, zero, suc, ◌+◌, ◌<◌, ◌≤◌}
use Rattle.std.proofs.Common.{arith, leb-true}
use Rattle.std.proofs.Math.Decide.{dec_le}
use Rattle.value.specs.Result.{Result, ok, refusal, and_then, map_result, or_refuse, unless}
use Rattle.value.specs.Value.{Value}
use Rattle.value.specs.Reading.{Found, whole, malformed, too_long, nothing, a_value, value, read_value, on_value, read_values}
use Rattle.sheet.specs.Sheet.{read_nodes, one_section, if_section, read_records, Records, with_nodes, read_body, read_header, read_sheet}
use Rattle.node.specs.Kinds.{form_of}
use Rattle.rules.specs.Numbers.{level_limit, allowance_limit, scratch_size, get_output, put_output}
use Rattle.rules.specs.Outcome.{Out, done, refused, steps, when, map_out, given, reading}
use Rattle.rules.specs.Allowance.{within, cap}
unfoldable pub use Rattle.rules.specs.Nodes.{among}
use Rattle.rules.specs.Nodes.{and-true_both, everywhere, among_all, own_numbers}
use Rattle.rules.proofs.Laws.Counting.{Ends, ended, stopped, walk_numbers, get_ends, put_ends}
use Rattle.rules.specs.Answer.{Answer, answer, door, get_walk, get_bytes, get_answer, put_walk, put_bytes, put_answer}

-- the table behind the door, row by row; 50 to 54 and 30 to 32 are put's
unfoldable pub table : List ℕ
table =
    10 ∷ 11 ∷ 12 ∷ 13 ∷ 14 ∷ 20 ∷ 21 ∷ 22 ∷ 30 ∷ 31 ∷ 32 ∷ 40 ∷ 41 ∷ 42 ∷ 43 ∷ 44 ∷ 45 ∷ 46 ∷ 50 ∷ 51 ∷ 52 ∷ 53 ∷ 54 ∷ []

abbrev pub Listed : ℕ → Type 0
Listed c = among c table ≡ true

-- o is done, or refused with a listed number
pub data Lists {A : Type 0} : Out A → Type 0 where
  l_done : {a : A} {s : ℕ} → Lists (done a s)
  l_refused : {c s : ℕ} → Listed c → Lists (refused c s)

pub data ListsR {A : Type 0} : Result A → Type 0 where
  r_ok : {a : A} → ListsR (ok a)
  r_refused : {c : ℕ} → Listed c → ListsR (refusal c)

-- RULES

module _ {A : Type 0} where
  lists_within : (a : ℕ) {o : Out A} → Lists o → Lists (within a o)
  unfolding within cap among table
  lists_within a {o} h = go (dec_le (steps o) a)
    where
      go : (d : Dec (steps o ≤ a)) → Lists (cap {a = a} o d)
      go (yes k) = h
      go (no k) = l_refused refl

module _ {A B : Type 0} where
  lists_map : (f : A → B) {o : Out A} → Lists o → Lists (map_out f o)
  unfolding map_out
  lists_map f l_done = l_done
  lists_map f (l_refused h) = l_refused h

  lists_reading : {r : Result A} (f : A → Out B) → ListsR r → ((a : A) → Lists (f a)) → Lists (reading r f)
  unfolding reading
  lists_reading f (r_ok {a = a}) k = k a
  lists_reading f (r_refused h) k = l_refused h

  lists_then : {r : Result A} (f : A → Result B) → ListsR r → ((a : A) → ListsR (f a)) → ListsR (and_then r f)
  unfolding and_then
  lists_then f (r_ok {a = a}) k = k a
  lists_then f (r_refused h) k = r_refused h

  lists_or : (c : ℕ) (o : Option A) (f : A → Result B) → Listed c → ((a : A) → ListsR (f a)) → ListsR (or_refuse c o f)
  unfolding or_refuse
  lists_or c none f h k = r_refused h
  lists_or c (some a) f h k = k a

  lists_map_r : (f : A → B) {r : Result A} → ListsR r → ListsR (map_result f r)
  unfolding map_result
  lists_map_r f r_ok = r_ok
  lists_map_r f (r_refused h) = r_refused h

lists_unless : {A : Type 0} (c : ℕ) (b : Bool) {r : Result A} → Listed c → ListsR r → ListsR (unless c b r)
unfolding unless
lists_unless c true h k = k
lists_unless c false h k = r_refused h

-- THE READERS

lists_nodes : (left : ℕ) (bs : List ℕ) → ListsR (read_nodes left bs)
unfolding read_nodes among table
lists_nodes zero [] = r_ok
lists_nodes zero (b ∷ bs) = lists_or 10 (form_of b) _ refl λ _. r_refused refl
lists_nodes (suc left) [] = r_ok
lists_nodes (suc left) (b ∷ bs) = lists_or 10 (form_of b) _ refl λ f. lists_unless 11 _ refl (lists_map_r _ (lists_nodes left _))

lists_section : (b : Bool) {s : Result Records} (bs : List ℕ) → ListsR s → ListsR (if_section b s bs)
unfolding if_section
lists_section true bs h = h
lists_section false bs h = lists_map_r _ (lists_nodes 200 bs)

lists_one : (next : List ℕ → Result Records) (bs : List ℕ) → ((cs : List ℕ) → ListsR (next cs)) → ListsR (one_section next bs)
unfolding one_section among table
lists_one next [] h = r_refused refl
lists_one next (r ∷ bs) h = lists_map_r _ (h bs)

lists_records : (left : ℕ) (bs : List ℕ) → ListsR (read_records left bs)
unfolding read_records among table
lists_records zero [] = r_ok
lists_records zero (b ∷ bs) = lists_section _ (b ∷ bs) (r_refused refl)
lists_records (suc left) [] = r_ok
lists_records (suc left) (b ∷ bs) = lists_section _ (b ∷ bs) (lists_one _ bs (lists_records left))

lists_body : (bs : List ℕ) → ListsR (read_body bs)
unfolding read_body among table with_nodes
lists_body [] = r_refused refl
lists_body (k ∷ []) = r_refused refl
lists_body (k ∷ root ∷ bs) = lists_then _ (lists_records 8 bs) go
  where
    go : (x : Records) → ListsR (with_nodes k root x)
    go (secs, []) = r_refused refl
    go (secs, n ∷ ns) = r_ok

lists_header : (bs : List ℕ) → ListsR (read_header bs)
unfolding read_header among table
lists_header [] = r_refused refl
lists_header (b ∷ bs) = lists_unless 10 _ refl (lists_body bs)

lists_sheet : (bs : List ℕ) → ListsR (read_sheet bs)
unfolding read_sheet among table
lists_sheet bs = lists_then _ (lists_header bs) λ sh. lists_unless 13 _ refl r_ok

-- 20, 21 and 22, or 30, 31 and 32
module _ (c : ℕ) (h₀ : Listed c) (h₁ : Listed (c + 1)) (h₂ : Listed (c + 2)) where
  lists_value : {A : Type 0} (v : Found (value ∷ [])) (f : Value → List ℕ → Result A) → ((w : Value) (bs : List ℕ) → ListsR (f w bs)) → ListsR (on_value c v f)
  unfolding on_value
  lists_value (whole (a_value v nothing) bs) f k = k v bs
  lists_value malformed f k = r_refused h₀
  lists_value too_long f k = r_refused h₁

  lists_values : (k : ℕ) (bs : List ℕ) → ListsR (read_values c k bs)
  unfolding read_values
  lists_values zero [] = r_ok
  lists_values zero (b ∷ bs) = r_refused h₂
  lists_values (suc k) [] = r_refused h₂
  lists_values (suc k) (b ∷ bs) = lists_value (read_value (b ∷ bs)) _ λ v more. lists_map_r _ (lists_values k more)

-- THE WALKS

lists_walk : {A : Type 0} {Q : A → Type 0} {o : Out A} → Ends Q o → Lists o
unfolding among table everywhere walk_numbers own_numbers
lists_walk (ended q) = l_done
lists_walk (stopped {c} h) = l_refused (among_all (λ x. among x table) c walk_numbers refl h)

-- WHOLE CALLS

pub lists_get_bytes : (sheet plan : List ℕ) (allowance : ℕ) → Lists (get_bytes sheet plan allowance)
unfolding get_bytes get_walk among table
lists_get_bytes sheet plan allowance =
    lists_reading _ (lists_sheet sheet) λ sh. lists_reading _ (lists_values 20 refl refl refl sh.k plan) λ μ.
    lists_map _ (lists_within allowance (lists_walk (get_ends level_limit sh _ μ)))

pub lists_put_bytes : (sheet plan view : List ℕ) (allowance : ℕ) → Lists (put_bytes sheet plan view allowance)
unfolding put_bytes put_walk among table
lists_put_bytes sheet plan view allowance =
    lists_reading _ (lists_sheet sheet) λ sh. lists_reading _ (lists_values 20 refl refl refl sh.k plan) λ μ.
    lists_reading _ (lists_values 30 refl refl refl 1 view) λ vs. lists_map _ (lists_within allowance (lists_walk (put_ends level_limit sh _ μ _ _ _)))

-- a listed number is above the door's
pub listed_above : (c : ℕ) → Listed c → 3 < c
unfolding table everywhere
listed_above c h = leb-true 4 c (among_all (leb 4) c table refl h)

-- the door's three numbers, and the table
abbrev pub Stated : ℕ → Type 0
Stated c = among c (1 ∷ 2 ∷ 3 ∷ table) ≡ true

stated_listed : (c : ℕ) → Listed c → Stated c
unfolding among
stated_listed c h = rw h (go (eqb c 1) (eqb c 2) (eqb c 3))
  where
    go : (p q r : Bool) → (p || (q || (r || true))) ≡ true
    go true q r = refl
    go false true r = refl
    go false false true = refl
    go false false false = refl

stated_one : Stated 1
unfolding among table
stated_one = refl

stated_two : Stated 2
unfolding among table
stated_two = refl

stated_three : Stated 3
unfolding among table
stated_three = refl

stated_answer : (need output scratch allowance : ℕ) {o : Out (List ℕ)} {c : ℕ} → Lists o → answer (door need output scratch allowance o) ≡ Answer.refusal c
    → Stated c
unfolding door given when answer
stated_answer need output scratch allowance {o} {c} h e = go₁ (dec_le need output) (dec_le scratch_size scratch) (dec_le 1 allowance)
    (dec_le allowance allowance_limit) e
  where
    inner : {o : Out (List ℕ)} → Lists o → answer o ≡ Answer.refusal c → Stated c
    inner l_done e = let z : ◌≡◌ {A = ℕ} 0 1 = cc in absurd (omega arith)
    inner (l_refused {c = k} l) e = let z : k ≡ c = cc in rw z at (stated_listed k l)

    small : (k : ℕ) → Stated k → Answer.refusal k ≡ Answer.refusal c → Stated c
    small k l e = let z : k ≡ c = cc in rw z at l

    go₁ : (p : Dec (need ≤ output)) (q : Dec (scratch_size ≤ scratch)) (r : Dec (1 ≤ allowance)) (t : Dec (allowance ≤ allowance_limit))
        → answer (given 1 (when p) λ _. given 2 (when q) λ _. given 3 (when r) λ _. given 3 (when t) λ _. o) ≡ Answer.refusal c → Stated c
    go₁ (no p) q r t e = small 1 stated_one e
    go₁ (yes p) (no q) r t e = small 2 stated_two e
    go₁ (yes p) (yes q) (no r) t e = small 3 stated_three e
    go₁ (yes p) (yes q) (yes r) (no t) e = small 3 stated_three e
    go₁ (yes p) (yes q) (yes r) (yes t) e = inner h e

-- a byte holds it, and it is not 0
pub stated_small : (c : ℕ) → Stated c → (1 ≤ c) × (c < 256)
unfolding table everywhere
stated_small c e =
    let l = and-true_both (leb 1 c) (leb c 255) (among_all (λ x. leb 1 x && leb x 255) c (1 ∷ 2 ∷ 3 ∷ table) refl e) in
    (leb-true 1 c l.0, omega (arith, leb-true c 255 l.1))

-- THE CLAIM
pub get_refusals : (sheet plan : List ℕ) (allowance output scratch c : ℕ) → get_answer sheet plan allowance output scratch ≡ Answer.refusal c → Stated c
unfolding get_answer
get_refusals sheet plan allowance output scratch c e = stated_answer get_output output scratch allowance (lists_get_bytes sheet plan allowance) e

pub put_refusals : (sheet plan view : List ℕ) (allowance output scratch c : ℕ) → put_answer sheet plan view allowance output scratch ≡ Answer.refusal c
    → Stated c
unfolding put_answer
put_refusals sheet plan view allowance output scratch c e = stated_answer put_output output scratch allowance (lists_put_bytes sheet plan view allowance) e
