-- Laws of the lines of letters L and V: how long they are, and what shows them of the code.
use Rattle.std.specs.Prelude.{Bool, true, false, cond, ◌≡◌, refl, ℕ, ◌+◌, ◌*◌, ◌≤◌, ◌<◌, leb, ltb, length, get_or, drop}
use Rattle.std.proofs.Math.Path.{sym, ap}
use Rattle.std.proofs.Common.{◌∙◌, arith, length-append, length-take, length-drop}
use mathlib.Core.List.{List, [], ◌∷◌, map}
use borrow.Author.Tests.{le-leb, lt-leb, leb-true}
use Rattle.report.specs.Text.{hex_of, words, decimal_of, refusal_line, ok_line}
use Rattle.report.proofs.TextLaws.{Below, none, each, hex_length, numbers_length, ok_length, refusal_length}
use Rattle.starts.specs.declared.Starts.{Starts}
use Rattle.value.specs.Result.{Result, ok, refusal}
use Rattle.starts.specs.declared.Place.{Place}
use Rattle.starts.specs.Starts.{load_of, numbers, starts_in as loaded_in, no_starts, proper, stands_at, find_of, part_of}
use Rattle.starts.proofs.Lookup.{length-firsts, proper_is}
use Rattle.starts.proofs.StartsLaws.{load_few}
use Rattle.inputs.specs.Numbers.{input_limit}
use Rattle.words.specs.Numbers.{line_limit}
use Rattle.inputs.specs.Format.{two, part}
use Rattle.inputs.specs.Starts.{starts_in}
use Rattle.words.proofs.Starts.{kept, kept_all}
use Rattle.letters.specs.Lookups.{loaded_line, load_line, found_line, value_line}
use Rattle.letters.specs.LoadLaws.{LoadSmall, below, byte, load_small}

-- HOW LONG A LINE IS

pub fits_refusal : (c : ℕ) → c < 256 → length (refusal_line c) ≤ line_limit
fits_refusal c h = omega (arith, refusal_length c h)

below_more : {m n : ℕ} {l : List ℕ} → m ≤ n → Below m l → Below n l
below_more h none = none
below_more h (each {a} p r) = each {a = a} (omega arith) (below_more h r)

-- the starts of a plan of at most 8,192 bytes that loads: at most 16 of 4 digits, each behind a space
plan_starts : (sheet plan : List ℕ) → length plan ≤ input_limit → {s : Starts} → load_of sheet plan ≡ ok s → length (words (map decimal_of (numbers s))) ≤ 80
unfolding loaded_in
plan_starts sheet plan h {s} e =
    let m = numbers_length 3 (below_more {m = length plan} (omega arith) (go (load_small sheet plan) e)) in
    let f : s.count ≤ 16 = rw e at (load_few sheet plan) in
    omega (arith, m, length-firsts s.count s.at, f)
  where
    go : {r : Result Starts} → LoadSmall (length plan) r → r ≡ ok s → Below (length plan) (numbers s)
    go (below {s = q} b) e = let z : q ≡ s = cc in rw z at b
    go (byte c) e = absurd (cc)

-- and of any, since a refusal has none
pub starts-length : (sheet plan : List ℕ) → length plan ≤ input_limit → length (words (map decimal_of (numbers (loaded_in (load_of sheet plan))))) ≤ 80
unfolding loaded_in no_starts words
starts-length sheet plan h = go (load_of sheet plan) refl
  where
    go : (r : Result Starts) → load_of sheet plan ≡ r → length (words (map decimal_of (numbers (loaded_in r)))) ≤ 80
    go (ok s) e = plan_starts sheet plan h e
    go (refusal c) e = omega arith

fits_loaded : (sheet plan : List ℕ) → length plan ≤ input_limit → length (loaded_line (load_of sheet plan)) ≤ line_limit
unfolding loaded_line
fits_loaded sheet plan h = go (load_of sheet plan) refl (load_small sheet plan)
  where
    go : (r : Result Starts) → load_of sheet plan ≡ r → LoadSmall (length plan) r → length (loaded_line r) ≤ line_limit
    go (ok s) e y = rw ok_length (omega (arith, plan_starts sheet plan h e))
    go (refusal c) e (byte l) = fits_refusal c l

pub fits_load : (bs : List ℕ) → length bs ≤ input_limit → length (load_line bs) ≤ line_limit
unfolding load_line
fits_load bs h = go (leb (3 + two bs 1) (length bs))
  where
    go : (p : Bool) → length (cond p (loaded_line (load_of (part bs 3 (two bs 1)) (drop (3 + two bs 1) bs))) (refusal_line 60)) ≤ line_limit
    go true = fits_loaded _ _ (rw length-drop (omega arith))
    go false = fits_refusal 60 (omega arith)

-- a lookup is made with at least one start
found_some : (s : Starts) (n i : ℕ) {p : Place} → find_of s n i ≡ ok p → 1 ≤ s.count
unfolding find_of
found_some s n i {p} e = go (proper s n) refl _ e
  where
    go : (a : Bool) → proper s n ≡ a → (x : Result Place) → cond a x (refusal 24) ≡ ok p → 1 ≤ s.count
    go true q x f = (proper_is s n q).some
    go false q x f = absurd (cc)

found_small : (s : Starts) (n i : ℕ) {c : ℕ} → find_of s n i ≡ refusal c → c < 256
unfolding find_of
found_small s n i {c} e = go (proper s n) (ltb i s.count) e
  where
    go : (p q : Bool) → cond p (cond q (ok (stands_at s n i)) (refusal 23)) (refusal 24) ≡ refusal c → c < 256
    go true true f = absurd (cc)
    go true false f = let z : 23 ≡ c = cc in omega arith
    go false q f = let z : 24 ≡ c = cc in omega arith

fits_found : (bs : List ℕ) → length bs ≤ input_limit → 3 + 2 * get_or bs 2 0 ≤ length bs → (f : Result Place)
    → find_of (starts_in bs) (length (drop (3 + 2 * get_or bs 2 0) bs)) (get_or bs 1 0) ≡ f →
    length (found_line f (drop (3 + 2 * get_or bs 2 0) bs)) ≤ line_limit
unfolding found_line part_of words starts_in
fits_found bs h k (ok p) e =
    let m : 1 ≤ get_or bs 2 0 = found_some (starts_in bs) _ _ e in
    simp (ok_length, length-append, hex_length, length-take, length-drop) (omega arith)
fits_found bs h k (refusal c) e = fits_refusal c (found_small (starts_in bs) _ _ e)

pub fits_value : (bs : List ℕ) → length bs ≤ input_limit → length (value_line bs) ≤ line_limit
unfolding value_line
fits_value bs h = go (leb (3 + 2 * get_or bs 2 0) (length bs)) refl
  where
    go : (p : Bool) → leb (3 + 2 * get_or bs 2 0) (length bs) ≡ p → let plan = drop (3 + 2 * get_or bs 2 0) bs in
        length (cond p (found_line (find_of (starts_in bs) (length plan) (get_or bs 1 0)) plan) (refusal_line 60)) ≤ line_limit
    go true e = fits_found bs h (leb-true _ _ e) _ refl
    go false e = fits_refusal 60 (omega arith)

-- WHAT SHOWS IT OF THE CODE

-- letter L
module _ (bs : List ℕ) {n : ℕ} (en : n ≡ two bs 1) where
  pub load_cut : length bs < 3 + n → refusal_line 60 ≡ load_line bs
  unfolding load_line
  load_cut h = sym (rw (← en, lt-leb (3 + n) (length bs) h))

  pub load_whole : 3 + n ≤ length bs → {sheet plan : List ℕ} → sheet ≡ part bs 3 n → plan ≡ drop (3 + n) bs
      → loaded_line (load_of sheet plan) ≡ load_line bs
  unfolding load_line
  load_whole h es ep = sym (rw (← en, le-leb (3 + n) (length bs) h, ← es, ← ep))

module _ {r : Result Starts} where
  pub loaded_refused : {c : ℕ} → refusal c ≡ r → refusal_line c ≡ loaded_line r
  unfolding loaded_line
  loaded_refused e = rw (← e)

  pub loaded_kept : {s : Starts} → ok s ≡ r → (loaded_in r).count ≤ 16 → ok_line (map decimal_of (kept s)) ≡ loaded_line r
  unfolding loaded_line loaded_in
  loaded_kept {s} e h = let f : s.count ≤ 16 = rw (← e) at h in rw (← e) (ap (λ (l : List ℕ). ok_line (map decimal_of l)) (kept_all s f))

-- letter V
module _ (bs : List ℕ) {count : ℕ} (ec : count ≡ get_or bs 2 0) where
  pub value_cut : length bs < 3 + 2 * count → refusal_line 60 ≡ value_line bs
  unfolding value_line
  value_cut h = sym (rw (← ec, lt-leb (3 + 2 * count) (length bs) h))

  pub value_whole : 3 + 2 * count ≤ length bs → {plan : List ℕ} → plan ≡ drop (3 + 2 * count) bs → {s : Starts} → s ≡ starts_in bs
      → {i : ℕ} → i ≡ get_or bs 1 0 → found_line (find_of s (length plan) i) plan ≡ value_line bs
  unfolding value_line
  value_whole h ep es ei = sym (rw (← ec, le-leb (3 + 2 * count) (length bs) h, ← ep, ← es, ← ei))

module _ (plan : List ℕ) {f : Result Place} where
  pub found_refused : {c : ℕ} → refusal c ≡ f → refusal_line c ≡ found_line f plan
  unfolding found_line
  found_refused e = rw (← e)

  pub found_part : {p : Place} {t : List ℕ} → ok p ≡ f → t ≡ part_of f plan → ok_line (hex_of t ∷ []) ≡ found_line f plan
  unfolding found_line
  found_part {p} {t} e q = let z : t ≡ part_of (ok p) plan = q ∙ rw (← e) refl in rw (← e) (ap (λ (l : List ℕ). ok_line (hex_of l ∷ [])) z)
