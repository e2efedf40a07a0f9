-- A text is refused with 71, and not with 70, exactly where a bracket or a brace would open a 49th level: 48 arrays and objects are open in front of it, and
-- a value could stand in its place.
use Rattle.std.specs.Prelude.{◌≡◌, Bool, ◌||◌, cond, List, [], ◌∷◌, ◌++◌, eqb, leb}
use Rattle.std.proofs.Math.Path.{refl}
use Rattle.std.proofs.Common.{sym, ap, ◌∙◌, append_assoc, arith, eqb-true, ne_eqb}
use Rattle.std.proofs.Math.Bool.{true, false}
use Prim.Native.Nat.{ℕ, zero, suc, ◌+◌, ◌-◌, ◌*◌, ◌<◌}
use Rattle.value.specs.Value.{Value, Values, vfalse, vtrue, list, pair, nil, cons, size}
use Rattle.value.specs.Result.{Result, ok, refusal, and_then, unless}
use Rattle.notation.specs.Text.{level_limit}
use Rattle.notation.specs.Grammar.{
  Awaits,
  value,
  members,
  more,
  token,
  exactly,
  digits,
  finished,
  word,
  alse,
  rue,
  name,
  named,
  object,
  member,
  numeral,
  white,
  is_digit,
  follows,
  Start,
  start_of,
  begin,
  found,
  or_member,
  or_comma,
  or_digit,
  skip,
  take,
  judge,
  ends,
  run,
  read_json,
}
use Rattle.notation.specs.Texts.{Whole}
use Rattle.notation.proofs.ReadsLaws.{black, is_digit_lem, run_take, run_whole}
use Rattle.notation.proofs.Derives.{Starts, is_false, is_true, is_array, is_object, is_number, is_none, starts, read_whole}
use Rattle.notation.proofs.Fronts.{behind, run_front, behind_front, front_goes_on}
use Rattle.notation.specs.Numbers.{Told, malformed, deep as too_deep}
use Rattle.notation.proofs.Numbers.{told}

-- WHAT IT MEANS

-- a bracket or a brace
pub data Opens (b : ℕ) : Type 0 where
  bracket : b ≡ 0x5B → Opens b
  brace : b ≡ 0x7B → Opens b

unfoldable pub less : ℕ → ℕ
less zero = zero
less (suc n) = n

-- how many arrays and objects are open behind a byte, where n are open in front of it: `[` and `{` open one, `]` and `}` close one
unfoldable pub nests : (b n : ℕ) → ℕ
nests b n = cond (eqb b 0x5B || eqb b 0x7B) (suc n) (cond (eqb b 0x5D || eqb b 0x7D) (less n) n)

-- and behind a text. No name has a bracket or a brace in it, so that each counts
unfoldable pub opened : List ℕ → ℕ → ℕ
opened [] n = n
opened (b ∷ s) n = opened s (nests b n)

-- `false`, a value that may stand wherever one may
unfoldable pub a_value : List ℕ
a_value = 0x66 ∷ 0x61 ∷ 0x6C ∷ 0x73 ∷ 0x65 ∷ []

-- a bracket or a brace, b, would open a 49th level: behind p, in which 48 are open, and where a text could go on with a value
pub data Deep : List ℕ → Type 0 where
  deep : (p : List ℕ) (b : ℕ) (rest goes : List ℕ) {v : Value} → opened p 0 ≡ level_limit → Whole v (p ++ (a_value ++ goes)) → Opens b → Deep (p ++ (b ∷ rest))

-- THE LEVEL AT WHICH SOMETHING IS AWAITED
no : {A B : Type 0} {c : ℕ} {x : B} → ◌≡◌ {A = Result B} (refusal c) (ok x) → A
no e = let z : ◌≡◌ {A = ℕ} 0 1 = cc in absurd (omega arith)

no_70 : {A B : Type 0} → ◌≡◌ {A = Result B} (refusal 70) (refusal 71) → A
no_70 e = let z : ◌≡◌ {A = ℕ} 70 71 = cc in absurd (omega arith)

no_ok : {A B : Type 0} {x : B} {c : ℕ} → ◌≡◌ {A = Result B} (ok x) (refusal c) → A
no_ok e = no (sym e)

-- w is awaited where n arrays and objects are open: together with the levels that are left they are 48
abbrev At : ℕ → Awaits → Type 0
At n (value l k) = (l + n ≡ level_limit) × ((v : Value) → At n (k v))
At n (members l k) = (l + n ≡ level_limit) × ((m : Values) → At (less n) (k m))
At n (more l k) = (l + n ≡ level_limit) × ((m : Values) → At (less n) (k m))
At n (token c w) = (eqb 0x66 c ≡ false) × At (nests c n) w
At n (exactly c w) = (eqb 0x66 c ≡ false) × At (nests c n) w
At n (digits i k) = (v : Value) → At n (k v)
At n (finished v) = Unit

at_as : {n m : ℕ} → n ≡ m → (w : Awaits) → At n w → At m w
at_as e w f = rw e at f

-- a byte that is no bracket and no brace
plain : (b n : ℕ) → (b ≡ 0x5B → ⊥) → (b ≡ 0x7B → ⊥) → (b ≡ 0x5D → ⊥) → (b ≡ 0x7D → ⊥) → nests b n ≡ n
unfolding nests
plain b n h₁ h₂ h₃ h₄ = rw (ne_eqb b 0x5B h₁, ne_eqb b 0x7B h₂, ne_eqb b 0x5D h₃, ne_eqb b 0x7D h₄)

white_plain : (b n : ℕ) → white b ≡ true → nests b n ≡ n
white_plain b n e =
    plain b n (λ q. clash (omega arith)) (λ q. clash (omega arith)) (λ q. clash (omega arith)) (λ q. clash (omega arith))
  where
    clash : 0x20 < b → ⊥
    clash h = let f : true ≡ false = sym e ∙ black b h in let z : ◌≡◌ {A = ℕ} 0 1 = cc in omega arith

digit_plain : (b n : ℕ) → is_digit b ≡ true → nests b n ≡ n
digit_plain b n e =
    let h = is_digit_lem b e in
    plain b n (λ q. omega arith) (λ q. omega arith) (λ q. omega arith) (λ q. omega arith)

nests_as : {b c : ℕ} (n : ℕ) → b ≡ c → nests c n ≡ nests b n
nests_as n e = rw e

at-object : (l n : ℕ) (k : Value → Awaits) → suc l + n ≡ level_limit → ((v : Value) → At n (k v)) → At (suc n) (object l k)
unfolding object named name word nests less
at-object l n k e f =
    let q : l + suc n ≡ level_limit = omega arith in
    (refl, (refl, (refl, (refl, (q, λ a. (refl, (refl, (refl, (refl, (refl, (q, λ b. (refl, f (pair a b)))))))))))))

-- one byte: what is then awaited, is awaited where it says
module _ (n b m : ℕ) {next : Awaits → Result Awaits} {u : Awaits} (h : (w : Awaits) → At (nests b n) w → next w ≡ ok u → At m u) where
  begin_at : (l : ℕ) (k : Value → Awaits) → At n (value l k) → {s : Start} → Starts b s → begin b next l k s ≡ ok u → At m u
  unfolding begin word alse rue nests less
  begin_at l k f (is_false q) e = h (word alse (k vfalse)) (refl, (refl, (refl, (refl, at_as (nests_as n q) (k vfalse) (f.1 vfalse))))) e
  begin_at l k f (is_true q) e = h (word rue (k vtrue)) (refl, (refl, (refl, at_as (nests_as n q) (k vtrue) (f.1 vtrue)))) e
  begin_at zero k f (is_array q) e = no e
  begin_at (suc l) k f (is_array q) e =
      let z : suc n ≡ nests b n = nests_as n q in
      h (members l λ m. k (list m)) (omega (arith, z, f.0), λ m. at_as (ap less z) (k (list m)) (f.1 (list m))) e
  begin_at zero k f (is_object q) e = no e
  begin_at (suc l) k f (is_object q) e = h (object l k) (at_as (nests_as n q) (object l k) (at-object l n k f.0 f.1)) e
  begin_at l k f (is_number d) e = h (digits (b - 48) k) (λ v. at_as (sym (digit_plain b n d)) (k v) (f.1 v)) e
  begin_at l k f is_none e = no e

  found_at : (c : ℕ) (d : Bool) → eqb b c ≡ d → (w : Awaits) → At (nests c n) w → found b next d w ≡ ok u → At m u
  unfolding found
  found_at c true q w f e = h w (at_as (nests_as n (eqb-true b c q)) w f) e
  found_at c false q w f e = no e

  member_at : (d : Bool) → eqb b 0x5D ≡ d → (l : ℕ) (k : Values → Awaits) → At n (members l k) → or_member b next d l k ≡ ok u → At m u
  unfolding or_member nests
  member_at true q l k f e = h (k nil) (at_as (nests_as n (eqb-true b 0x5D q)) (k nil) (f.1 nil)) e
  member_at false q l k f e = begin_at l (λ v. more l λ m. k (cons v m)) (f.0, λ v. (f.0, λ m. f.1 (cons v m))) (starts b) e

  comma_at : (d : Bool) → eqb b 0x5D ≡ d → (l : ℕ) (k : Values → Awaits) → At n (more l k) → or_comma b next d l k ≡ ok u → At m u
  unfolding or_comma member nests
  comma_at true q l k f e = h (k nil) (at_as (nests_as n (eqb-true b 0x5D q)) (k nil) (f.1 nil)) e
  comma_at false q l k f e = found_at 0x2C (eqb b 0x2C) refl (member l k) (f.0, λ v. (f.0, λ m. f.1 (cons v m))) e

  digit_at : (i : ℕ) (k : Value → Awaits) → At n (digits i k) → is_digit b ≡ true → (d : Bool) → found b next d (digits (10 * i + (b - 48)) k) ≡ ok u → At m u
  unfolding found
  digit_at i k f q true e = h (digits (10 * i + (b - 48)) k) (λ v. at_as (sym (digit_plain b n q)) (k v) (f v)) e
  digit_at i k f q false e = no e

  digits_at : (d : Bool) → is_digit b ≡ d → (i : ℕ) (k : Value → Awaits) → At n (digits i k) → (x : Result Awaits) → (x ≡ ok u → At m u)
      → or_digit b next d i k x ≡ ok u → At m u
  unfolding or_digit
  digits_at true q i k f x g e = digit_at i k f q (follows i b) e
  digits_at false q i k f x g e = g e

  skip_at : white b ≡ true → (w : Awaits) → At n w → skip b next w ≡ ok u → At m u
  unfolding skip
  skip_at q (value l k) f e = h (value l k) (at_as (sym (white_plain b n q)) (value l k) f) e
  skip_at q (members l k) f e = h (members l k) (at_as (sym (white_plain b n q)) (members l k) f) e
  skip_at q (more l k) f e = h (more l k) (at_as (sym (white_plain b n q)) (more l k) f) e
  skip_at q (token c w) f e = h (token c w) (at_as (sym (white_plain b n q)) (token c w) f) e
  skip_at q (exactly c w) f e = found_at c (eqb b c) refl w f.1 e
  skip_at q (digits i k) f e = skip_at q (k (numeral i)) (f (numeral i)) e
  skip_at q (finished v) f e = h (finished v) tt e

  take_at : (w : Awaits) → At n w → take b next w ≡ ok u → At m u
  unfolding take
  take_at (value l k) f e = begin_at l k f (starts b) e
  take_at (members l k) f e = member_at (eqb b 0x5D) refl l k f e
  take_at (more l k) f e = comma_at (eqb b 0x5D) refl l k f e
  take_at (token c w) f e = found_at c (eqb b c) refl w f.1 e
  take_at (exactly c w) f e = found_at c (eqb b c) refl w f.1 e
  take_at (digits i k) f e =
      digits_at (is_digit b) refl i k f (take b next (k (numeral i))) (λ g. take_at (k (numeral i)) (f (numeral i)) g) e
  take_at (finished v) f e = no e

  judge_at : (d : Bool) → white b ≡ d → (w : Awaits) → At n w → judge b next d w ≡ ok u → At m u
  unfolding judge
  judge_at true q w f e = skip_at q w f e
  judge_at false q w f e = take_at w f e

behind_at : (s : List ℕ) (n : ℕ) (w u : Awaits) → At n w → behind s w ≡ ok u → At (opened s n) u
unfolding behind opened
behind_at [] n w u f e = rw (same e) at f
  where
    same : ◌≡◌ {A = Result Awaits} (ok w) (ok u) → w ≡ u
    same e = cc
behind_at (b ∷ s) n w u f e = judge_at n b (opened s (nests b n)) (λ v g. behind_at s (nests b n) v u g) (white b) refl w f e

-- THE BYTE THAT IS REFUSED WITH 71

-- b opens a 49th level where a value may stand
abbrev Here : (b n : ℕ) → Awaits → Type 0
Here b n w = Opens b × (n ≡ level_limit) × (u : Awaits) × (take 0x66 (behind alse) w ≡ ok u)

module _ (b n : ℕ) where
  begin_here : (l : ℕ) (k : Value → Awaits) → l + n ≡ level_limit → {s : Start} → Starts b s → begin b (behind []) l k s ≡ refusal 71
      → Opens b × (n ≡ level_limit)
  unfolding begin behind
  begin_here l k f (is_false q) e = no_ok e
  begin_here l k f (is_true q) e = no_ok e
  begin_here zero k f (is_array q) e = (bracket q, omega (arith, f))
  begin_here (suc l) k f (is_array q) e = no_ok e
  begin_here zero k f (is_object q) e = (brace q, omega (arith, f))
  begin_here (suc l) k f (is_object q) e = no_ok e
  begin_here l k f (is_number d) e = no_ok e
  begin_here l k f is_none e = no_70 e

  found_here : {A : Type 0} (d : Bool) (w : Awaits) → found b (behind []) d w ≡ refusal 71 → A
  unfolding found behind
  found_here true w e = no_ok e
  found_here false w e = no_70 e

  member_here : (d : Bool) (l : ℕ) (k : Values → Awaits) → l + n ≡ level_limit → or_member b (behind []) d l k ≡ refusal 71 → Opens b × (n ≡ level_limit)
  unfolding or_member behind
  member_here true l k f e = no_ok e
  member_here false l k f e = begin_here l (λ v. more l λ m. k (cons v m)) f (starts b) e

  comma_here : {A : Type 0} (d : Bool) (l : ℕ) (k : Values → Awaits) → or_comma b (behind []) d l k ≡ refusal 71 → A
  unfolding or_comma behind
  comma_here true l k e = no_ok e
  comma_here false l k e = found_here (eqb b 0x2C) (member l k) e

  digits_here : (d : Bool) (i : ℕ) (k : Value → Awaits) (x : Result Awaits) → or_digit b (behind []) d i k x ≡ refusal 71 → x ≡ refusal 71
  unfolding or_digit
  digits_here true i k x e = found_here (follows i b) (digits (10 * i + (b - 48)) k) e
  digits_here false i k x e = e

  skip_here : {A : Type 0} (w : Awaits) → skip b (behind []) w ≡ refusal 71 → A
  unfolding skip behind
  skip_here (value l k) e = no_ok e
  skip_here (members l k) e = no_ok e
  skip_here (more l k) e = no_ok e
  skip_here (token c w) e = no_ok e
  skip_here (exactly c w) e = found_here (eqb b c) w e
  skip_here (digits i k) e = skip_here (k (numeral i)) e
  skip_here (finished v) e = no_ok e

  take_here : (w : Awaits) → At n w → take b (behind []) w ≡ refusal 71 → Here b n w
  unfolding take begin start_of or_member or_digit is_digit behind word alse judge found white
  take_here (value l k) f e = let (o, q) = begin_here l k f.0 (starts b) e in (o, q, k vfalse, refl)
  take_here (members l k) f e =
      let (o, q) = member_here (eqb b 0x5D) l k f.0 e in
      (o, q, more l (λ m. k (cons vfalse m)), refl)
  take_here (more l k) f e = comma_here (eqb b 0x5D) l k e
  take_here (token c w) f e = found_here (eqb b c) w e
  take_here (exactly c w) f e = found_here (eqb b c) w e
  take_here (digits i k) f e = take_here (k (numeral i)) (f (numeral i)) (digits_here (is_digit b) i k (take b (behind []) (k (numeral i))) e)
  take_here (finished v) f e = no_70 e

  judge_here : (d : Bool) (w : Awaits) → At n w → judge b (behind []) d w ≡ refusal 71 → Here b n w
  unfolding judge
  judge_here true w f e = skip_here w e
  judge_here false w f e = take_here w f e

end_here : {A : Type 0} (w : Awaits) → ends w ≡ refusal 71 → A
unfolding ends
end_here (value l k) e = no_70 e
end_here (members l k) e = no_70 e
end_here (more l k) e = no_70 e
end_here (token c w) e = no_70 e
end_here (exactly c w) e = no_70 e
end_here (digits i k) e = end_here (k (numeral i)) e
end_here (finished v) e = no_ok e

-- a text that is refused with 71, from where n are open
data Found (n : ℕ) (w : Awaits) : List ℕ → Type 0 where
  there : (p : List ℕ) (b : ℕ) (rest : List ℕ) (u : Awaits) → opened p n ≡ level_limit → behind (p ++ a_value) w ≡ ok u → Opens b → Found n w (p ++ (b ∷ rest))

find : (t : List ℕ) (n : ℕ) (w : Awaits) → At n w → run t w ≡ refusal 71 → Found n w t
unfolding run behind and_then opened a_value alse judge white
find [] n w f e = end_here w e
find (b ∷ s) n w f e = go (behind (b ∷ []) w) refl (sym (run_front (b ∷ []) s w) ∙ e) λ w₁. find s (nests b n) w₁
  where
    number : {c d : ℕ} → ◌≡◌ {A = Result Value} (refusal c) (refusal d) → c ≡ d
    number e = cc

    on : (w₁ : Awaits) → behind (b ∷ []) w ≡ ok w₁ → {t : List ℕ} → Found (nests b n) w₁ t → Found n w (b ∷ t)
    on w₁ q (there p c rest u o g h) = there (b ∷ p) c rest u o (behind_front (b ∷ []) (p ++ a_value) w ∙ rw q g) h

    go : (x : Result Awaits) → behind (b ∷ []) w ≡ x → and_then x (run s) ≡ refusal 71
        → ((w₁ : Awaits) → At (nests b n) w₁ → run s w₁ ≡ refusal 71 → Found (nests b n) w₁ s) → Found n w (b ∷ s)
    go (ok w₁) q e h = on w₁ q (h w₁ (behind_at (b ∷ []) n w w₁ f q) e)
    go (refusal c) q e h =
        let z : behind (b ∷ []) w ≡ refusal 71 = q ∙ ap (λ (c : ℕ). refusal c) (number e) in
        let (o, h, u, g) = judge_here b n (white b) w f z in
        there [] b s u h g o

-- AND BACK: where 48 are open and `false` may stand, a bracket or a brace is refused with 71
begin_71 : {A : Type 0} (b : ℕ) (next : Awaits → Result A) (l : ℕ) (k : Value → Awaits) → l + level_limit ≡ level_limit → Opens b
    → begin b next l k (start_of b) ≡ refusal 71
unfolding begin start_of
begin_71 b next zero k e (bracket q) = rw q refl
begin_71 b next zero k e (brace q) = rw q refl
begin_71 b next (suc l) k e h = absurd (omega arith)

no_close : (b : ℕ) → Opens b → eqb b 0x5D ≡ false
no_close b (bracket q) = rw q refl
no_close b (brace q) = rw q refl

no_digit : (b : ℕ) → Opens b → is_digit b ≡ false
unfolding is_digit
no_digit b (bracket q) = rw q refl
no_digit b (brace q) = rw q refl

found_71 : {A C : Type 0} (next : Awaits → Result A) {x : A} (d : Bool) → d ≡ false → (w : Awaits) → found 0x66 next d w ≡ ok x → C
unfolding found
found_71 next true q w e = let z : ◌≡◌ {A = ℕ} 0 1 = cc in absurd (omega arith)
found_71 next false q w e = no e

take_71 : {A B : Type 0} (b : ℕ) → Opens b → (next : Awaits → Result A) (other : Awaits → Result B) {x : A} (w : Awaits) → At level_limit w
    → take 0x66 next w ≡ ok x → take b other w ≡ refusal 71
unfolding take or_member or_comma or_digit found is_digit
take_71 b o next other (value l k) f e = begin_71 b other l k f.0 o
take_71 b o next other (members l k) f e = rw (no_close b o) (begin_71 b other l (λ v. more l λ m. k (cons v m)) f.0 o)
take_71 b o next other (more l k) f e = no e
take_71 b o next other (token c w) f e = found_71 next (eqb 0x66 c) f.0 w e
take_71 b o next other (exactly c w) f e = found_71 next (eqb 0x66 c) f.0 w e
take_71 b o next other (digits i k) f e = rw (no_digit b o) (take_71 b o next other (k (numeral i)) (f (numeral i)) e)
take_71 b o next other (finished v) f e = no e

opens_black : (b : ℕ) → Opens b → white b ≡ false
opens_black b (bracket q) = black b (omega arith)
opens_black b (brace q) = black b (omega arith)

-- THE LAW
first : At 0 (value level_limit finished)
first = (refl, λ v. tt)

-- a text that is refused with 71 has a bracket or a brace that would open a 49th level
pub refused_deep : (t : List ℕ) → run t (value level_limit finished) ≡ refusal 71 → Deep t
refused_deep t e = go (find t 0 (value level_limit finished) first e)
  where
    go : {t : List ℕ} → Found 0 (value level_limit finished) t → Deep t
    go (there p b rest u o g h) =
        let (s, v, r) = front_goes_on (p ++ a_value) g in
        let z : (p ++ a_value) ++ s ≡ p ++ (a_value ++ s) = append_assoc p a_value s in
        deep p b rest s o (rw z at (read_whole ((p ++ a_value) ++ s) r)) h

-- and a text that has one is
pub deep_refused : {t : List ℕ} → Deep t → run t (value level_limit finished) ≡ refusal 71
unfolding and_then a_value
deep_refused (deep p b rest goes o h q) =
    go (behind p (value level_limit finished)) refl (sym (run_front p (a_value ++ goes) (value level_limit finished)) ∙ run_whole h)
  where
    go : {v : Value} (x : Result Awaits) → behind p (value level_limit finished) ≡ x → and_then x (run (a_value ++ goes)) ≡ ok v
        → run (p ++ (b ∷ rest)) (value level_limit finished) ≡ refusal 71
    go (ok w) f e =
        let a : At level_limit w = at_as o w (behind_at p 0 (value level_limit finished) w first f) in
        let y = sym (run_take 0x66 _ w (black 0x66 (omega arith))) ∙ e in
        run_front p (b ∷ rest) (value level_limit finished) ∙ rw f (run_take b rest w (opens_black b q) ∙ take_71 b q (run _) (run rest) w a y)
    go (refusal c) f e = no e

-- a whole reading is refused with 71 exactly so: 72 is judged behind the text
pub read_71 : (t : List ℕ) → read_json t ≡ refusal 71 → Deep t
unfolding read_json and_then unless
read_71 t e = refused_deep t (go (run t (value level_limit finished)) e)
  where
    late : {v : Value} (d : Bool) → unless 72 d (ok v) ≡ refusal 71 → ok v ≡ refusal 71
    late true e = e
    late false e = let z : ◌≡◌ {A = ℕ} 72 71 = cc in absurd (omega arith)

    go : (x : Result Value) → and_then x (λ v. unless 72 (leb (size v) 256) (ok v)) ≡ refusal 71 → x ≡ refusal 71
    go (ok v) e = late (leb (size v) 256) e
    go (refusal c) e = e

pub deep_71 : {t : List ℕ} → Deep t → read_json t ≡ refusal 71
unfolding read_json and_then
deep_71 d = rw (deep_refused d)

-- and with 70 exactly where it is neither the text of a value nor one that opens a 49th level
pub read_70 : (t : List ℕ) → ((v : Value) → Whole v t → ⊥) → (Deep t → ⊥) → read_json t ≡ refusal 70
unfolding read_json and_then
read_70 t f g = go (run t (value level_limit finished)) refl (told t (value level_limit finished))
  where
    go : (x : Result Value) → run t (value level_limit finished) ≡ x → Told x → and_then x (λ v. unless 72 (leb (size v) 256) (ok v)) ≡ refusal 70
    go (ok v) e h = absurd (f v (read_whole t e))
    go (refusal c) e malformed = refl
    go (refusal c) e too_deep = absurd (g (refused_deep t e))

pub neither_70 : (t : List ℕ) → read_json t ≡ refusal 70 → ((v : Value) → Whole v t → ⊥) × (Deep t → ⊥)
unfolding read_json and_then unless
neither_70 t e = ((λ v w. whole_70 v (leb (size v) 256) (rw (run_whole w) at e)), λ d. no_70 (sym e ∙ deep_71 d))
  where
    whole_70 : (v : Value) (d : Bool) → unless 72 d (ok v) ≡ refusal 70 → ⊥
    whole_70 v true e = no_ok e
    whole_70 v false e = let z : ◌≡◌ {A = ℕ} 72 70 = cc in omega arith
