-- A text is judged at the first byte that shows its fault: what a front of it shows holds however it goes on, and a front that shows none is the front of a
-- text that is read.
use Rattle.std.specs.Prelude.{◌≡◌, Bool, List, [], ◌∷◌, ◌++◌, eqb}
use Rattle.std.proofs.Math.Path.{refl}
use Rattle.std.proofs.Common.{◌∙◌, arith}
use Rattle.std.proofs.Math.Bool.{true, false}
use Prim.Native.Nat.{ℕ, zero, suc, ◌+◌, ◌-◌, ◌*◌}
use Rattle.value.specs.Value.{Value, Values, vfalse, vtrue, list, pair, nil, cons}
use Rattle.value.specs.Result.{Result, ok, refusal, and_then}
use Rattle.notation.specs.Text.{level_limit}
use Rattle.notation.specs.Grammar.{
  Awaits,
  value,
  members,
  more,
  token,
  exactly,
  digits,
  finished,
  word,
  alse,
  rue,
  name,
  named,
  object,
  member,
  numeral,
  white,
  is_digit,
  follows,
  Start,
  start_false,
  start_true,
  start_array,
  start_object,
  start_number,
  no_start,
  start_of,
  begin,
  found,
  or_member,
  or_comma,
  or_digit,
  skip,
  take,
  judge,
  ends,
  run,
}
use Rattle.notation.specs.Texts.{none, here, n_byte, t_false, m_none, o_none}
use Rattle.notation.specs.Reads.{Spaced, s_more, s_token, s_finished}
use Rattle.notation.proofs.ReadsLaws.{run-white, run-token, run-exactly, run_ended, run_text, run-members, run_more}

-- what must stand behind a front of a text that begins where w is awaited; or the refusal that the front shows
unfoldable pub behind : List ℕ → Awaits → Result Awaits
behind [] w = ok w
behind (b ∷ bs) w = judge b (behind bs) (white b) w

-- HOWEVER THE TEXT GOES ON

-- one byte, where what is read behind it is known to go on by g
module _ {A : Type 0} (b : ℕ) (first : Awaits → Result Awaits) (all g : Awaits → Result A) (h : (w : Awaits) → all w ≡ and_then (first w) g) where
  begin_on : (l : ℕ) (k : Value → Awaits) (s : Start) → begin b all l k s ≡ and_then (begin b first l k s) g
  unfolding begin and_then
  begin_on l k start_false = h (word alse (k vfalse))
  begin_on l k start_true = h (word rue (k vtrue))
  begin_on zero k start_array = refl
  begin_on (suc l) k start_array = h (members l λ m. k (list m))
  begin_on zero k start_object = refl
  begin_on (suc l) k start_object = h (object l k)
  begin_on l k start_number = h (digits (b - 48) k)
  begin_on l k no_start = refl

  found_on : (d : Bool) (w : Awaits) → found b all d w ≡ and_then (found b first d w) g
  unfolding found and_then
  found_on true w = h w
  found_on false w = refl

  member_on : (d : Bool) (l : ℕ) (k : Values → Awaits) → or_member b all d l k ≡ and_then (or_member b first d l k) g
  unfolding or_member
  member_on true l k = h (k nil)
  member_on false l k = begin_on l (λ v. more l λ m. k (cons v m)) (start_of b)

  comma_on : (d : Bool) (l : ℕ) (k : Values → Awaits) → or_comma b all d l k ≡ and_then (or_comma b first d l k) g
  unfolding or_comma
  comma_on true l k = h (k nil)
  comma_on false l k = found_on (eqb b 0x2C) (member l k)

  digit_on : (d : Bool) (n : ℕ) (k : Value → Awaits) {x : Result A} (y : Result Awaits) → x ≡ and_then y g
      → or_digit b all d n k x ≡ and_then (or_digit b first d n k y) g
  unfolding or_digit
  digit_on true n k y e = found_on (follows n b) (digits (10 * n + (b - 48)) k)
  digit_on false n k y e = e

  skip_on : (w : Awaits) → skip b all w ≡ and_then (skip b first w) g
  unfolding skip
  skip_on (value l k) = h (value l k)
  skip_on (members l k) = h (members l k)
  skip_on (more l k) = h (more l k)
  skip_on (token c w) = h (token c w)
  skip_on (exactly c w) = found_on (eqb b c) w
  skip_on (digits n k) = skip_on (k (numeral n))
  skip_on (finished v) = h (finished v)

  take_on : (w : Awaits) → take b all w ≡ and_then (take b first w) g
  unfolding take and_then
  take_on (value l k) = begin_on l k (start_of b)
  take_on (members l k) = member_on (eqb b 0x5D) l k
  take_on (more l k) = comma_on (eqb b 0x5D) l k
  take_on (token c w) = found_on (eqb b c) w
  take_on (exactly c w) = found_on (eqb b c) w
  take_on (digits n k) = digit_on (is_digit b) n k (take b first (k (numeral n))) (take_on (k (numeral n)))
  take_on (finished v) = refl

  judge_on : (d : Bool) (w : Awaits) → judge b all d w ≡ and_then (judge b first d w) g
  unfolding judge
  judge_on true w = skip_on w
  judge_on false w = take_on w

pub run_front : (s t : List ℕ) (w : Awaits) → run (s ++ t) w ≡ and_then (behind s w) (run t)
unfolding run behind and_then
run_front [] t w = refl
run_front (b ∷ s) t w = judge_on b (behind s) (run (s ++ t)) (run t) (λ w. run_front s t w) (white b) w

pub behind_front : (s t : List ℕ) (w : Awaits) → behind (s ++ t) w ≡ and_then (behind s w) (behind t)
unfolding behind and_then
behind_front [] t w = refl
behind_front (b ∷ s) t w = judge_on b (behind s) (behind (s ++ t)) (behind t) (λ w. behind_front s t w) (white b) w

-- a refusal that a front shows is that of every text with this front
pub refused_early : (s : List ℕ) (w : Awaits) {c : ℕ} → behind s w ≡ refusal c → (t : List ℕ) → run (s ++ t) w ≡ refusal c
unfolding and_then
refused_early s w e t = run_front s t w ∙ rw e

-- A FRONT THAT SHOWS NO FAULT GOES ON

-- what is awaited can stand there: behind a value or a number white space may stand, and no token is white space
abbrev Fine : Awaits → Type 0
Fine (value l k) = (v : Value) → Fine (k v) × Spaced (k v)
Fine (members l k) = (m : Values) → Fine (k m) × Spaced (k m)
Fine (more l k) = (m : Values) → Fine (k m) × Spaced (k m)
Fine (token c w) = (white c ≡ false) × Fine w
Fine (exactly c w) = Fine w
Fine (digits n k) = (v : Value) → Fine (k v) × Spaced (k v)
Fine (finished v) = Unit

-- a text that can stand there
goes_on : (w : Awaits) → Fine w → (t : List ℕ) × (v : Value) × (run t w ≡ ok v)
unfolding run ends white is_digit
goes_on (value l k) f = let (t, v, e) = goes_on (k vfalse) (f vfalse).0 in
    (0x66 ∷ 0x61 ∷ 0x6C ∷ 0x73 ∷ 0x65 ∷ t, v, run_text (t_false {l = l} {r = t} none) k ∙ e)
goes_on (members l k) f = let (t, v, e) = goes_on (k nil) (f nil).0 in (0x5D ∷ t, v, run-members (m_none {l = l} {r = t} (here none)) k ∙ e)
goes_on (more l k) f = let (t, v, e) = goes_on (k nil) (f nil).0 in (0x5D ∷ t, v, run_more (o_none {l = l} {r = t} (here none)) k ∙ e)
goes_on (token c w) f = let (t, v, e) = goes_on w f.1 in (c ∷ t, v, run-token {r = t} (here none) f.0 w ∙ e)
goes_on (exactly c w) f = let (t, v, e) = goes_on w f in (c ∷ t, v, run-exactly c t w ∙ e)
goes_on (digits n k) f =
    let (t, v, e) = goes_on (k (numeral n)) (f (numeral n)).0 in
    (0x20 ∷ t, v, run_ended (n_byte {s = t} refl) n k ∙ run-white (f (numeral n)).1 0x20 t refl ∙ e)
goes_on (finished v) f = ([], v, refl)

fine_object : (l : ℕ) (k : Value → Awaits) → ((v : Value) → Fine (k v) × Spaced (k v)) → Fine (object l k)
unfolding object named name word white
fine_object l k f = (refl, (refl, λ a. ((refl, (refl, (refl, λ b. ((refl, (f (pair a b)).0), s_token)))), s_token)))

-- one byte: what is then awaited can stand there
module _ (b : ℕ) {next : Awaits → Result Awaits} {u : Awaits} (h : (w : Awaits) → Fine w → next w ≡ ok u → Fine u) where
  no_refusal : {c : ℕ} → ◌≡◌ {A = Result Awaits} (refusal c) (ok u) → Fine u
  no_refusal e = let z : ◌≡◌ {A = ℕ} 0 1 = cc in absurd (omega arith)

  begin_fine : (l : ℕ) (k : Value → Awaits) → ((v : Value) → Fine (k v) × Spaced (k v)) → (s : Start) → begin b next l k s ≡ ok u → Fine u
  unfolding begin word alse rue
  begin_fine l k f start_false e = h (word alse (k vfalse)) (f vfalse).0 e
  begin_fine l k f start_true e = h (word rue (k vtrue)) (f vtrue).0 e
  begin_fine zero k f start_array e = no_refusal e
  begin_fine (suc l) k f start_array e = h (members l λ m. k (list m)) (λ m. f (list m)) e
  begin_fine zero k f start_object e = no_refusal e
  begin_fine (suc l) k f start_object e = h (object l k) (fine_object l k f) e
  begin_fine l k f start_number e = h (digits (b - 48) k) f e
  begin_fine l k f no_start e = no_refusal e

  found_fine : (d : Bool) (w : Awaits) → Fine w → found b next d w ≡ ok u → Fine u
  unfolding found
  found_fine true w f e = h w f e
  found_fine false w f e = no_refusal e

  member_fine : (d : Bool) (l : ℕ) (k : Values → Awaits) → ((m : Values) → Fine (k m) × Spaced (k m)) → or_member b next d l k ≡ ok u → Fine u
  unfolding or_member
  member_fine true l k f e = h (k nil) (f nil).0 e
  member_fine false l k f e = begin_fine l (λ v. more l λ m. k (cons v m)) (λ v. ((λ m. f (cons v m)), s_more)) (start_of b) e

  comma_fine : (d : Bool) (l : ℕ) (k : Values → Awaits) → ((m : Values) → Fine (k m) × Spaced (k m)) → or_comma b next d l k ≡ ok u → Fine u
  unfolding or_comma member
  comma_fine true l k f e = h (k nil) (f nil).0 e
  comma_fine false l k f e = found_fine (eqb b 0x2C) (member l k) (λ v. ((λ m. f (cons v m)), s_more)) e

  digit_fine : (d : Bool) (n : ℕ) (k : Value → Awaits) → ((v : Value) → Fine (k v) × Spaced (k v)) → (x : Result Awaits) → (x ≡ ok u → Fine u)
      → or_digit b next d n k x ≡ ok u → Fine u
  unfolding or_digit
  digit_fine true n k f x g e = found_fine (follows n b) (digits (10 * n + (b - 48)) k) f e
  digit_fine false n k f x g e = g e

  skip_fine : (w : Awaits) → Fine w → skip b next w ≡ ok u → Fine u
  unfolding skip
  skip_fine (value l k) f e = h (value l k) f e
  skip_fine (members l k) f e = h (members l k) f e
  skip_fine (more l k) f e = h (more l k) f e
  skip_fine (token c w) f e = h (token c w) f e
  skip_fine (exactly c w) f e = found_fine (eqb b c) w f e
  skip_fine (digits n k) f e = skip_fine (k (numeral n)) (f (numeral n)).0 e
  skip_fine (finished v) f e = h (finished v) f e

  take_fine : (w : Awaits) → Fine w → take b next w ≡ ok u → Fine u
  unfolding take
  take_fine (value l k) f e = begin_fine l k f (start_of b) e
  take_fine (members l k) f e = member_fine (eqb b 0x5D) l k f e
  take_fine (more l k) f e = comma_fine (eqb b 0x5D) l k f e
  take_fine (token c w) f e = found_fine (eqb b c) w f.1 e
  take_fine (exactly c w) f e = found_fine (eqb b c) w f e
  take_fine (digits n k) f e =
      digit_fine (is_digit b) n k f (take b next (k (numeral n))) (λ g. take_fine (k (numeral n)) (f (numeral n)).0 g) e
  take_fine (finished v) f e = no_refusal e

  judge_fine : (d : Bool) (w : Awaits) → Fine w → judge b next d w ≡ ok u → Fine u
  unfolding judge
  judge_fine true w f e = skip_fine w f e
  judge_fine false w f e = take_fine w f e

behind_fine : (s : List ℕ) (w u : Awaits) → Fine w → behind s w ≡ ok u → Fine u
unfolding behind
behind_fine [] w u f e = rw (same e) at f
  where
    same : ◌≡◌ {A = Result Awaits} (ok w) (ok u) → w ≡ u
    same e = cc
behind_fine (b ∷ s) w u f e = judge_fine b (λ v g. behind_fine s v u g) (white b) w f e

-- EVERY FRONT THAT SHOWS NO FAULT is the front of a text that is read
pub front_goes_on : (s : List ℕ) {w : Awaits} → behind s (value level_limit finished) ≡ ok w
    → (t : List ℕ) × (v : Value) × (run (s ++ t) (value level_limit finished) ≡ ok v)
unfolding and_then
front_goes_on s {w} e =
    let (t, v, r) = goes_on w (behind_fine s (value level_limit finished) w (λ v. (tt, s_finished)) e) in
    (t, v, run_front s t (value level_limit finished) ∙ rw e r)
