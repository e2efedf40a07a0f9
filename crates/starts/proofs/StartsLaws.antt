-- Laws of starts: what loading gives, and that a lookup with the starts of a plan's values gives each of them (document 02, request 2).
use Rattle.std.specs.Prelude.{◌≡◌, ℕ, zero, suc, ◌+◌, ◌-◌, ◌≤◌, ◌<◌, drop, replicate}
use Rattle.std.proofs.Math.Path.{refl, sym, ap, ap₂}
use Rattle.std.proofs.Common.{◌∙◌, add-one, arith, length-append}
use mathlib.Core.List.{List, [], ◌∷◌, ◌++◌}
use Rattle.std.proofs.Math.Nat.{zero-add}
use Rattle.std.proofs.Math.ListN.{length, get_or, take}
use Rattle.value.specs.Result.{Result, ok, refusal, and_then, map_result}
use Rattle.value.specs.Value.{Value, vfalse, encode, size, flat}
use Rattle.value.proofs.Encoding.{size-encode, size_pos}
use Rattle.value.proofs.Progress.{starts-length}
use Rattle.value.specs.Reading.{read_plan}
use Rattle.value.proofs.Laws.{read_values_sound}
use Rattle.value.specs.Spans.{places, starts, spans, spans_of}
use Rattle.value.proofs.SpansLaws.{plan_read, plan_refused, len_is, span_is}
use Rattle.value.specs.declared.Spans.{Spans}
use Rattle.sheet.specs.Sheet.{Sheet, read_sheet}
use Rattle.sheet.specs.Table.{table_of}
use Rattle.sheet.specs.Laws.{Reads, sheet_ranges, table_reads, table_refused}
use Rattle.sheet.specs.declared.Table.{Table}
use Rattle.starts.specs.declared.Starts.{Starts}
use Rattle.starts.specs.Starts.{no_starts, starts_of, load_of, starts_in, numbers, find_of, part_of}
use Rattle.starts.proofs.Lookup.{firsts_at, firsts_all, Rising, end, over, Proper, proper_so, find_23, find_at, part_found}

-- LOADING

module _ (sheet : List ℕ) where
  -- the sheet is refused
  pub load_no_sheet : (plan : List ℕ) {c : ℕ} → refusal c ≡ map_result table_of (read_sheet sheet) → refusal c ≡ load_of sheet plan
  unfolding load_of and_then map_result
  load_no_sheet plan e = rw (table_refused sheet e)

  module _ {t : Table} (is : ok t ≡ map_result table_of (read_sheet sheet)) where
    read : (sh : Sheet) × Reads sheet t sh
    read = table_reads sheet is

    pub few : t.k ≤ 16
    few = omega (arith, read.1.k, read.1.ranges.few_variables)

    module _ (plan : List ℕ) where
      load_is : load_of sheet plan ≡ map_result starts_of (read_plan t.k plan)
      unfolding load_of and_then
      load_is = rw read.1.sheet (ap (λ (k : ℕ). map_result starts_of (read_plan k plan)) (sym read.1.k))

      -- the plan is refused
      pub load_no_plan : {c : ℕ} → refusal c ≡ spans_of t.k plan → refusal c ≡ load_of sheet plan
      unfolding map_result
      load_no_plan e = sym (load_is ∙ rw (plan_refused t.k plan few e))

      -- both are read
      pub load_read : {sp : Spans} → ok sp ≡ spans_of t.k plan → ok (record { count = t.k; at = sp.starts }) ≡ load_of sheet plan
      unfolding map_result starts_of spans
      load_read {sp} e =
          let p = plan_read t.k plan e in
          let c : length p.vs ≡ t.k = (read_values_sound 20 t.k plan p.found).count in
          let s : sp.starts ≡ places (starts 0 p.vs) = ap (λ (s : Spans). s.starts) p.spans_are in
          sym (load_is ∙ rw p.found (ap₂ (λ (k : ℕ) (l : List ℕ). let s : Starts = record { count = k; at = l } in ok s) c (sym s)))

-- there are at most 16
pub load_few : (sheet plan : List ℕ) → (starts_in (load_of sheet plan)).count ≤ 16
unfolding load_of map_result and_then starts_of starts_in no_starts
load_few sheet plan = of_sheet (read_sheet sheet) refl
  where
    of_plan : {sh : Sheet} → read_sheet sheet ≡ ok sh → (r : Result (List Value)) → read_plan sh.k plan ≡ r → (starts_in (map_result starts_of r)).count ≤ 16
    of_plan {sh} e (ok vs) f = omega (arith, (read_values_sound 20 sh.k plan f).count, (sheet_ranges sheet e).few_variables)
    of_plan e (refusal c) f = omega arith

    of_sheet : (r : Result Sheet) → read_sheet sheet ≡ r → (starts_in (map_result starts_of (and_then r λ sh. read_plan sh.k plan))).count ≤ 16
    of_sheet (ok sh) e = of_plan e (read_plan sh.k plan) refl
    of_sheet (refusal c) e = omega arith

-- LOOKUPS

-- the bytes of values one after another
flat-cons : (at : ℕ) (v : Value) (vs : List Value) → at + size v + length (flat vs) ≡ at + length (flat (v ∷ vs))
unfolding flat
flat-cons at v vs = rw (length-append, size-encode) (omega arith)

-- the starts of values one after another rise, all below where the last one ends
rising_starts : (low at : ℕ) (vs : List Value) → low ≤ at → Rising (at + length (flat vs)) low (starts at vs)
unfolding starts
rising_starts low at [] h = end
rising_starts low at (v ∷ vs) h =
    let p = size_pos v in
    let r : Rising (at + length (flat (v ∷ vs))) (suc at) (starts (at + size v) vs)
    = rw (flat-cons at v vs) at (rising_starts (suc at) (at + size v) vs (omega (arith, p))) in
    over h (omega (arith, flat-cons at v vs, p)) r

-- each value ends where the next one starts, and the last where the bytes end
value_end : (at : ℕ) (vs : List Value) (i : ℕ) → i < length vs
    → get_or (starts at vs ++ ((at + length (flat vs)) ∷ [])) (suc i) 0 ≡ get_or (starts at vs) i 0 + size (get_or vs i vfalse)
unfolding starts flat
value_end at [] i h = absurd (omega arith)
value_end at (v ∷ []) zero h = sym (flat-cons at v []) ∙ omega arith
value_end at (v ∷ w ∷ vs) zero h = refl
value_end at (v ∷ vs) (suc i) h = rw (flat-cons at v vs) at (value_end (at + size v) vs i (omega arith))

pub numbers_are : (vs : List Value) → numbers (starts_of vs) ≡ starts 0 vs
unfolding starts_of places
numbers_are vs = firsts_all (starts 0 vs) (replicate (16 - length (starts 0 vs)) 0) (length vs) (sym (starts-length 0 vs))

start_is : (vs : List Value) (i : ℕ) → i < length vs → get_or (starts_of vs).at i 0 ≡ get_or (starts 0 vs) i 0
unfolding starts_of
start_is vs i h = sym (firsts_at (length vs) (starts_of vs).at i h) ∙ ap (λ (l : List ℕ). get_or l i 0) (numbers_are vs)

-- THE LAW: with the starts of a plan's values, variable i is the i-th of them, and there is no other
module _ (vs : List Value) (some : 1 ≤ length vs) (few : length vs ≤ 16) where
  pub starts_proper : Proper (starts_of vs) (length (flat vs))
  unfolding starts_of starts
  starts_proper = record {
    some = some;
    few = few;
    from_0 = start_is vs 0 (omega arith) ∙ first vs;
    rising = rw numbers_are (rw zero-add at (rising_starts 0 0 vs (omega arith)));
  }
    where
      first : (vs : List Value) → get_or (starts 0 vs) 0 0 ≡ 0
      first [] = refl
      first (v ∷ vs) = refl

  pub part_is : (i : ℕ) → i < length vs → part_of (find_of (starts_of vs) (length (flat vs)) i) (flat vs) ≡ encode (get_or vs i vfalse)
  unfolding starts_of spans
  part_is i h =
      let s = starts_of vs in
      let n = length (flat vs) in
      let a = get_or s.at i 0 in
      let b = get_or (numbers s ++ (n ∷ [])) (i + 1) 0 in
      let f : ok (record { start = a; end = b }) ≡ find_of s n i = find_at s n i (proper_so starts_proper) h refl refl in
      let e : b ≡ a + size (get_or vs i vfalse)
      = ap₂ (λ (l : List ℕ) (j : ℕ). get_or (l ++ (n ∷ [])) j 0) (numbers_are vs) (add-one i) ∙ rw zero-add at (value_end 0 vs i h)
      ∙ ap (λ (x : ℕ). x + size (get_or vs i vfalse)) (sym (start_is vs i h)) in
      let d : b - a ≡ get_or (spans vs).lens i 0 = omega (arith, e, len_is vs i h) in
      sym (part_found (flat vs) f) ∙ ap (λ (x : ℕ). take x (drop a (flat vs))) d ∙ span_is vs i h

  pub none_is : (i : ℕ) → length vs ≤ i → find_of (starts_of vs) (length (flat vs)) i ≡ refusal 23
  unfolding starts_of
  none_is i h = sym (find_23 (starts_of vs) (length (flat vs)) i (proper_so starts_proper) h)

-- whole calls: a reading from the front of the sheet and of the plan gives the values
module _ (sheet plan : List ℕ) {sh : Sheet} {vs : List Value} (s : read_sheet sheet ≡ ok sh) (p : read_plan sh.k plan ≡ ok vs) where
  pub load_gives : load_of sheet plan ≡ ok (starts_of vs)
  unfolding load_of map_result and_then
  load_gives = rw (s, p)

  some : 1 ≤ length vs
  some = omega (arith, (read_values_sound 20 sh.k plan p).count, (sheet_ranges sheet s).some_variable)

  few_values : length vs ≤ 16
  few_values = omega (arith, (read_values_sound 20 sh.k plan p).count, (sheet_ranges sheet s).few_variables)

  pub loaded_part : (i : ℕ) → i < length vs → part_of (find_of (starts_in (load_of sheet plan)) (length plan) i) plan ≡ encode (get_or vs i vfalse)
  unfolding starts_in
  loaded_part i h = rw (load_gives, (read_values_sound 20 sh.k plan p).bytes) (part_is vs some few_values i h)

  pub loaded_none : (i : ℕ) → length vs ≤ i → find_of (starts_in (load_of sheet plan)) (length plan) i ≡ refusal 23
  unfolding starts_in
  loaded_none i h = rw (load_gives, (read_values_sound 20 sh.k plan p).bytes) (none_is vs some few_values i h)
