-- What is read is a text of the value: the way back from the reading to the grammar.
use Rattle.std.specs.Prelude.{◌≡◌, Bool, cond, List, [], ◌∷◌, eqb}
use Rattle.std.proofs.Math.Path.{refl, ap}
use Rattle.std.proofs.Common.{sym, ◌∙◌, arith, eqb-true}
use Rattle.std.proofs.Math.Bool.{true, false}
use Prim.Native.Nat.{ℕ, zero, suc, ◌+◌, ◌-◌, ◌*◌}
use Rattle.value.specs.Value.{Value, Values, vfalse, vtrue, list, pair, nil, cons}
use Rattle.value.specs.Result.{Result, ok, refusal}
use Rattle.notation.specs.Text.{level_limit}
use Rattle.notation.specs.Grammar.{
  Awaits,
  value,
  members,
  more,
  token,
  exactly,
  digits,
  finished,
  word,
  alse,
  rue,
  name,
  named,
  object,
  member,
  numeral,
  white,
  is_digit,
  follows,
  Start,
  start_false,
  start_true,
  start_array,
  start_object,
  start_number,
  no_start,
  start_of,
  begin,
  found,
  or_member,
  or_comma,
  or_digit,
  skip,
  take,
  judge,
  ends,
  run,
}
use Rattle.notation.specs.Texts.{Spaces, none, space, Token, here, n_end, n_byte, Digits, d_end, d_more, Text, t_false, t_true, t_number, t_array}
use Rattle.notation.specs.Texts.{t_object, named as is_named, Members, m_none, m_some, More, o_none, o_some, Whole, whole}
use Rattle.notation.proofs.ReadsLaws.{black, is_digit_lem}

-- the text s is what w awaits, and the value x is read from it
abbrev pub Derives : Awaits → List ℕ → Value → Type 0
Derives (value l k) s x = (v : Value) × (r : List ℕ) × Text l v s r × Derives (k v) r x
Derives (members l k) s x = (m : Values) × (r : List ℕ) × Members l m s r × Derives (k m) r x
Derives (more l k) s x = (m : Values) × (r : List ℕ) × More l m s r × Derives (k m) r x
Derives (token c w) s x = (r : List ℕ) × Token c s r × Derives w r x
Derives (exactly c w) s x = (r : List ℕ) × (s ≡ c ∷ r) × Derives w r x
Derives (digits n k) s x = (m : ℕ) × (r : List ℕ) × Digits n m s r × Derives (k (numeral m)) r x
Derives (finished v) s x = Spaces s [] × (v ≡ x)

-- a refusal is no success
no_refusal : {A : Type 0} {c : ℕ} {x : Value} → ◌≡◌ {A = Result Value} (refusal c) (ok x) → A
no_refusal e = let z : ◌≡◌ {A = ℕ} 0 1 = cc in absurd (omega arith)

at_once : {s t : List ℕ} → s ≡ t → Spaces s t
at_once e = rw e none

is_here : {b c : ℕ} {s : List ℕ} → b ≡ c → Token c (b ∷ s) s
is_here {s} e = here (at_once (ap (λ (b : ℕ). b ∷ s) e))

token_as : {c : ℕ} {s r t : List ℕ} → Token c s r → r ≡ t → Token c s t
token_as p e = rw e at p

-- WHITE SPACE BEFORE
module _ {b : ℕ} (e : white b ≡ true) where
  token_later : {c : ℕ} {s r : List ℕ} → Token c s r → Token c (b ∷ s) r
  token_later (here p) = here (space e p)

  text_later : {l : ℕ} {v : Value} {s r : List ℕ} → Text l v s r → Text l v (b ∷ s) r
  text_later (t_false p) = t_false (space e p)
  text_later (t_true p) = t_true (space e p)
  text_later (t_number p d h q) = t_number (space e p) d h q
  text_later (t_array p h) = t_array (token_later p) h
  text_later (t_object p ha q hb o) = t_object (token_later p) ha q hb o

  members_later : {l : ℕ} {m : Values} {s r : List ℕ} → Members l m s r → Members l m (b ∷ s) r
  members_later (m_none p) = m_none (token_later p)
  members_later (m_some h q) = m_some (text_later h) q

  more_later : {l : ℕ} {m : Values} {s r : List ℕ} → More l m s r → More l m (b ∷ s) r
  more_later (o_none p) = o_none (token_later p)
  more_later (o_some p h q) = o_some (token_later p) h q

-- white space is no digit
white_no_digit : (b : ℕ) → white b ≡ true → (d : Bool) → is_digit b ≡ d → d ≡ false
white_no_digit b e true f = let z : true ≡ false = sym e ∙ black b (omega (arith, is_digit_lem b f)) in z
white_no_digit b e false f = refl

-- what a byte begins
pub data Starts : ℕ → Start → Type 0 where
  is_false : {b : ℕ} → b ≡ 0x66 → Starts b start_false
  is_true : {b : ℕ} → b ≡ 0x74 → Starts b start_true
  is_array : {b : ℕ} → b ≡ 0x5B → Starts b start_array
  is_object : {b : ℕ} → b ≡ 0x7B → Starts b start_object
  is_number : {b : ℕ} → is_digit b ≡ true → Starts b start_number
  is_none : {b : ℕ} → Starts b no_start

pub starts : (b : ℕ) → Starts b (start_of b)
unfolding start_of
starts b = t1 (eqb b 0x66) refl
  where
    t5 : (d : Bool) → is_digit b ≡ d → Starts b (cond d start_number no_start)
    t5 true e = is_number e
    t5 false e = is_none

    t4 : (d : Bool) → eqb b 0x7B ≡ d → Starts b (cond d start_object (cond (is_digit b) start_number no_start))
    t4 true e = is_object (eqb-true b 0x7B e)
    t4 false e = t5 (is_digit b) refl

    t3 : (d : Bool) → eqb b 0x5B ≡ d → Starts b (cond d start_array (cond (eqb b 0x7B) start_object (cond (is_digit b) start_number no_start)))
    t3 true e = is_array (eqb-true b 0x5B e)
    t3 false e = t4 (eqb b 0x7B) refl

    t2 : (d : Bool) → eqb b 0x74 ≡ d
        → Starts b (cond d start_true (cond (eqb b 0x5B) start_array (cond (eqb b 0x7B) start_object (cond (is_digit b) start_number no_start))))
    t2 true e = is_true (eqb-true b 0x74 e)
    t2 false e = t3 (eqb b 0x5B) refl

    t1 : (d : Bool) → eqb b 0x66 ≡ d
        → Starts b (cond d start_false (cond (eqb b 0x74) start_true
        (cond (eqb b 0x5B) start_array (cond (eqb b 0x7B) start_object (cond (is_digit b) start_number no_start)))))
    t1 true e = is_false (eqb-true b 0x66 e)
    t1 false e = t2 (eqb b 0x74) refl

-- THE TEXT ENDS
at_end : (w : Awaits) {x : Value} → ends w ≡ ok x → Derives w [] x
unfolding ends
at_end (value l k) e = no_refusal e
at_end (members l k) e = no_refusal e
at_end (more l k) e = no_refusal e
at_end (token c w) e = no_refusal e
at_end (exactly c w) e = no_refusal e
at_end (digits n k) e = (n, [], d_end n_end, at_end (k (numeral n)) e)
at_end (finished v) e = (none, cc)

-- ONE BYTE, where what is read behind it is derived
module _ (b : ℕ) (s : List ℕ) {x : Value} (next : (w : Awaits) → run s w ≡ ok x → Derives w s x) where
  when_found : {c : ℕ} (w : Awaits) (d : Bool) → eqb b c ≡ d → found b (run s) d w ≡ ok x → (b ≡ c) × Derives w s x
  unfolding found
  when_found {c} w true f e = (eqb-true b c f, next w e)
  when_found w false f e = no_refusal e

  after_white : white b ≡ true → (w : Awaits) → skip b (run s) w ≡ ok x → Derives w (b ∷ s) x
  unfolding skip
  after_white h (value l k) e = let (v, r, t, d) = next (value l k) e in (v, r, text_later h t, d)
  after_white h (members l k) e = let (m, r, t, d) = next (members l k) e in (m, r, members_later h t, d)
  after_white h (more l k) e = let (m, r, t, d) = next (more l k) e in (m, r, more_later h t, d)
  after_white h (token c w) e = let (r, t, d) = next (token c w) e in (r, token_later h t, d)
  after_white h (exactly c w) e = let (q, d) = when_found w (eqb b c) refl e in (s, ap (λ (b : ℕ). b ∷ s) q, d)
  after_white h (digits n k) e = (n, b ∷ s, d_end (n_byte (white_no_digit b h (is_digit b) refl)), after_white h (k (numeral n)) e)
  after_white h (finished v) e = let (p, d) = next (finished v) e in (space h p, d)

  after_begin : (l : ℕ) (k : Value → Awaits) {a : Start} → Starts b a → begin b (run s) l k a ≡ ok x → Derives (value l k) (b ∷ s) x
  unfolding begin word alse rue object named name
  after_begin l k (is_false q) e =
      let (r₁, e₁, (r₂, e₂, (r₃, e₃, (r₄, e₄, d)))) = next (word alse (k vfalse)) e in
      let z : b ∷ s ≡ 0x66 ∷ 0x61 ∷ 0x6C ∷ 0x73 ∷ 0x65 ∷ r₄ = cc in
      (vfalse, r₄, t_false (at_once z), d)
  after_begin l k (is_true q) e =
      let (r₁, e₁, (r₂, e₂, (r₃, e₃, d))) = next (word rue (k vtrue)) e in
      let z : b ∷ s ≡ 0x74 ∷ 0x72 ∷ 0x75 ∷ 0x65 ∷ r₃ = cc in
      (vtrue, r₃, t_true (at_once z), d)
  after_begin zero k (is_array q) e = no_refusal e
  after_begin (suc l) k (is_array q) e = let (m, r, t, d) = next (members l λ m. k (list m)) e in (list m, r, t_array (is_here q) t, d)
  after_begin zero k (is_object q) e = no_refusal e
  after_begin (suc l) k (is_object q) e =
      let (s₁, p₁, (s₂, e₂, (s₃, e₃, (s₄, p₄, (a, s₅, ta, (s₆, p₆, (s₇, p₇, (s₈, e₈, (s₉, e₉, (s₁₀, p₁₀, (c, s₁₁, tb, (s₁₂, p₁₂, d)))))))))))) =
      next (object l k) e in
      let y : s₁ ≡ 0x61 ∷ 0x22 ∷ s₃ = cc in
      let z : s₇ ≡ 0x62 ∷ 0x22 ∷ s₉ = cc in
      (pair a c, s₁₂, t_object (is_here q) (is_named (token_as p₁ y) p₄ ta) p₆ (is_named (token_as p₇ z) p₁₀ tb) p₁₂, d)
  after_begin l k (is_number f) e = let (m, r, t, d) = next (digits (b - 48) k) e in (numeral m, r, t_number none f t refl, d)
  after_begin l k is_none e = no_refusal e

  after_members : (l : ℕ) (k : Values → Awaits) (d : Bool) → eqb b 0x5D ≡ d → or_member b (run s) d l k ≡ ok x → Derives (members l k) (b ∷ s) x
  unfolding or_member
  after_members l k true f e = (nil, s, m_none (is_here (eqb-true b 0x5D f)), next (k nil) e)
  after_members l k false f e =
      let (v, r, t, (m, u, q, d)) = after_begin l (λ v. more l λ m. k (cons v m)) (starts b) e in
      (cons v m, u, m_some t q, d)

  after_more : (l : ℕ) (k : Values → Awaits) (d : Bool) → eqb b 0x5D ≡ d → or_comma b (run s) d l k ≡ ok x → Derives (more l k) (b ∷ s) x
  unfolding or_comma member
  after_more l k true f e = (nil, s, o_none (is_here (eqb-true b 0x5D f)), next (k nil) e)
  after_more l k false f e =
      let (c, (v, r, t, (m, u, q, d))) = when_found (member l k) (eqb b 0x2C) refl e in
      (cons v m, u, o_some (is_here c) t q, d)

  after_digit : (n : ℕ) (k : Value → Awaits) → is_digit b ≡ true → (d : Bool) → follows n b ≡ d → found b (run s) d (digits (10 * n + (b - 48)) k) ≡ ok x
      → Derives (digits n k) (b ∷ s) x
  unfolding found
  after_digit n k f true g e = let (m, r, t, d) = next (digits (10 * n + (b - 48)) k) e in (m, r, d_more f g t, d)
  after_digit n k f false g e = no_refusal e

  after_digits : (n : ℕ) (k : Value → Awaits) (ended : Result Value) → (ended ≡ ok x → Derives (k (numeral n)) (b ∷ s) x) → (d : Bool) → is_digit b ≡ d
      → or_digit b (run s) d n k ended ≡ ok x → Derives (digits n k) (b ∷ s) x
  unfolding or_digit
  after_digits n k ended h true f e = after_digit n k f (follows n b) refl e
  after_digits n k ended h false f e = (n, b ∷ s, d_end (n_byte f), h e)

  after_black : (w : Awaits) → take b (run s) w ≡ ok x → Derives w (b ∷ s) x
  unfolding take
  after_black (value l k) e = after_begin l k (starts b) e
  after_black (members l k) e = after_members l k (eqb b 0x5D) refl e
  after_black (more l k) e = after_more l k (eqb b 0x5D) refl e
  after_black (token c w) e = let (q, d) = when_found w (eqb b c) refl e in (s, is_here q, d)
  after_black (exactly c w) e = let (q, d) = when_found w (eqb b c) refl e in (s, ap (λ (b : ℕ). b ∷ s) q, d)
  after_black (digits n k) e = after_digits n k (take b (run s) (k (numeral n))) (λ f. after_black (k (numeral n)) f) (is_digit b) refl e
  after_black (finished v) e = no_refusal e

pub derives : (s : List ℕ) (w : Awaits) (x : Value) → run s w ≡ ok x → Derives w s x
unfolding run judge
derives [] w x e = at_end w e
derives (b ∷ s) w x e = go (white b) refl e λ w. derives s w x
  where
    go : (d : Bool) → white b ≡ d → judge b (run s) d w ≡ ok x → ((w : Awaits) → run s w ≡ ok x → Derives w s x) → Derives w (b ∷ s) x
    go true f e next = after_white b s next f w e
    go false f e next = after_black b s next w e

-- WHAT IS READ IS A TEXT OF THE VALUE
pub read_whole : (s : List ℕ) {v : Value} → run s (value level_limit finished) ≡ ok v → Whole v s
read_whole s {v} e = let (u, r, t, (p, q)) = derives s (value level_limit finished) v e in rw q at (whole t p)
