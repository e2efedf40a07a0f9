-- What each return of the reader's functions shows, and what their calls ask: a scalar, a value, the members of an array, an object.
use Rattle.std.specs.Prelude.{◌≡◌, false, List, [], ◌∷◌, ◌++◌, ℕ, suc, ◌+◌, ◌-◌, ◌≤◌, ◌<◌, leb, length, drop}
use Rattle.std.proofs.Math.Path.{refl, sym}
use Rattle.std.proofs.Common.{◌∙◌, append_assoc, arith}
use borrow.Author.Tests.{ne_eqb, lt-leb}
use Rattle.std.proofs.Math.ListN.{get_or}
use Rattle.value.specs.Value.{Value, Values, vfalse, vtrue, list, pair, nil, cons, encode, encodes}
use Rattle.value.specs.Result.{Result}
use Rattle.report.specs.Writing.{Wrote, wrote_long, wrote_text, wrote_then}
use Rattle.notation.specs.Grammar.{Awaits, value, members, more, token, digits, word, alse, rue, name, named, object, member, white, is_digit, no_start}
use Rattle.notation.specs.Grammar.{start_of, begin, found, or_member, or_comma, take, ends}
use Rattle.notation.specs.Reads.{s_value, s_members, s_more}
use Rattle.notation.proofs.ReadsLaws.{black, start_number_lem, run-member}
use Rattle.notation.proofs.Written.{in_digits_lem}
use Rattle.json_codec.specs.Reader.{On, at_byte, on_first, Skips, on_skip, on_take, on_then, off_then, off_take, off_end, Passes, on_passed}
use Rattle.json_codec.specs.Reader.{off_passed, Gives, g_done, g_refused, handed, and-false}
use Rattle.std.specs.Prelude.{Ok, Err}
use Rattle.std.specs.declared.result.Result.{Result as Outcome}
use Rattle.refusal.specs.declared.Refusal.{Refusal}
use Rattle.refusal.specs.declared.Refusal.TheVariants.{JsonMalformed, JsonDepth}
use Rattle.json_codec.specs.Steps.{Answer, done}

-- A SCALAR: the byte there begins a value, and is neither `[` nor `{`
pub record Scalar (s : List ℕ) (at : ℕ) : Type 0 where
  pub there : at < length s
  pub black : white (get_or s at 0) ≡ false
  pub no_array : get_or s at 0 ≡ 0x5B → ⊥
  pub no_object : get_or s at 0 ≡ 0x7B → ⊥

no_start_lem : (b : ℕ) → (b ≡ 0x66 → ⊥) → (b ≡ 0x74 → ⊥) → (b ≡ 0x5B → ⊥) → (b ≡ 0x7B → ⊥) → is_digit b ≡ false → start_of b ≡ no_start
unfolding start_of
no_start_lem b f t a o d = rw (ne_eqb b 0x66 f, ne_eqb b 0x74 t, ne_eqb b 0x5B a, ne_eqb b 0x7B o, d)

module _ {s : List ℕ} {at : ℕ} (q : Scalar s at) (l put : ℕ) where
  at_value : On (value l) s at at (value l)
  at_value = on_first (value l) s at (omega (arith, q.there))

  -- `f`
  module _ (e : get_or s at 0 ≡ 0x66) where
    at_false : On (value l) s at (at + 1) (λ k. word alse (k vfalse))
    unfolding take begin start_of white
    at_false = on_take at_value q.there 0x66 e refl (λ k next. refl)

    pub no_false : {b b' : List ℕ} {r : Outcome ℕ Refusal} {c : Refusal}
        → Passes (word alse) s (at + 1) r → r ≡ Err c → length b' ≡ length b → Gives (value l) encode s at put b b' (Err c)
    no_false p z y = g_refused _ y (off_passed (λ k. k vfalse) at_false p z)

    pub is_false : {b b' : List ℕ} {r : Outcome ℕ Refusal} {j n : ℕ} → Passes (word alse) s (at + 1) r → r ≡ Ok j → Wrote (0 ∷ []) put b b' n
        → Gives (value l) encode s at put b b' (done j n)
    unfolding encode
    is_false p z w = g_done vfalse w (on_passed (λ k. k vfalse) at_false p z)

  -- `t`
  module _ (e : get_or s at 0 ≡ 0x74) where
    at_true : On (value l) s at (at + 1) (λ k. word rue (k vtrue))
    unfolding take begin start_of white
    at_true = on_take at_value q.there 0x74 e refl (λ k next. refl)

    pub no_true : {b b' : List ℕ} {r : Outcome ℕ Refusal} {c : Refusal}
        → Passes (word rue) s (at + 1) r → r ≡ Err c → length b' ≡ length b → Gives (value l) encode s at put b b' (Err c)
    no_true p z y = g_refused _ y (off_passed (λ k. k vtrue) at_true p z)

    pub is_true : {b b' : List ℕ} {r : Outcome ℕ Refusal} {j n : ℕ} → Passes (word rue) s (at + 1) r → r ≡ Ok j → Wrote (1 ∷ []) put b b' n
        → Gives (value l) encode s at put b b' (done j n)
    unfolding encode
    is_true p z w = g_done vtrue w (on_passed (λ k. k vtrue) at_true p z)

  -- a digit
  pub is_number : 48 ≤ get_or s at 0 → get_or s at 0 ≤ 57 → {b b' : List ℕ} {r : Answer} → Gives (digits (get_or s at 0 - 48)) encode s (at + 1) put b b' r
      → Gives (value l) encode s at put b b' r
  unfolding take begin
  is_number h m g =
      let d = in_digits_lem (get_or s at 0) h m in
      handed (λ v. v) (λ v. refl) (on_take at_value q.there (get_or s at 0) refl (black (get_or s at 0) (omega arith))
      (λ k next. rw (start_number_lem (get_or s at 0) d))) g

  -- no value
  pub is_none : (get_or s at 0 ≡ 0x66 → ⊥) → (get_or s at 0 ≡ 0x74 → ⊥) → is_digit (get_or s at 0) ≡ false → {b b' : List ℕ} → length b' ≡ length b
      → Gives (value l) encode s at put b b' (Err JsonMalformed)
  unfolding take begin
  is_none f t d y = g_refused JsonMalformed y (off_take at_value q.there (get_or s at 0) refl q.black
      (λ k next. rw (no_start_lem (get_or s at 0) f t q.no_array q.no_object d)))

pub below_digits : (b : ℕ) → b < 48 → is_digit b ≡ false
unfolding is_digit
below_digits b h = rw (lt-leb 48 b h)

pub above_digits : (b : ℕ) → 57 < b → is_digit b ≡ false
unfolding is_digit
above_digits b h = rw (lt-leb b 57 h) (and-false (leb 48 b))

-- A VALUE

array_begins : (n : ℕ) {levels : ℕ} → levels ≡ suc n → (k : Value → Awaits) (next : Awaits → Result Value)
    → take 0x5B next (value levels k) ≡ next (members n λ m. k (list m))
unfolding take begin start_of
array_begins n e k next = rw e

object_begins : (n : ℕ) {levels : ℕ} → levels ≡ suc n → (k : Value → Awaits) (next : Awaits → Result Value)
    → take 0x7B next (value levels k) ≡ next (object n k)
unfolding take begin start_of
object_begins n e k next = rw e

module _ {s : List ℕ} {at i : ℕ} (levels put : ℕ) (h : at ≤ length s) (p : Skips s at i) where
  at_start : On (value levels) s at i (value levels)
  at_start = on_skip (on_first (value levels) s at h) (λ k. s_value) p

  pub value_ended : length s ≤ i → (b : List ℕ) → Gives (value levels) encode s at put b b (Err JsonMalformed)
  unfolding ends
  value_ended l b = g_refused _ refl (off_end at_start l (λ k. refl))

  module _ (l : i < length s) where
    pub array_deep : get_or s i 0 ≡ 0x5B → levels ≡ 0 → (b : List ℕ) → Gives (value levels) encode s at put b b (Err JsonDepth)
    unfolding take begin start_of white
    array_deep e z b = g_refused JsonDepth refl (off_take at_start l 0x5B e refl (λ k next. rw z))

    pub object_deep : get_or s i 0 ≡ 0x7B → levels ≡ 0 → (b : List ℕ) → Gives (value levels) encode s at put b b (Err JsonDepth)
    unfolding take begin start_of white
    object_deep e z b = g_refused JsonDepth refl (off_take at_start l 0x7B e refl (λ k next. rw z))

    pub value_array : get_or s i 0 ≡ 0x5B → (levels ≡ 0 → ⊥) → {b b' : List ℕ} {r : Answer} → Gives (members (levels - 1)) encodes s (i + 1) put b b' r
        → Gives (value levels) encode s at put b b' r
    unfolding white encode
    value_array e z g = handed list (λ m. refl) (on_take at_start l 0x5B e refl (array_begins (levels - 1) (omega arith))) g

    pub value-object : get_or s i 0 ≡ 0x7B → (levels ≡ 0 → ⊥) → {b b' : List ℕ} {r : Answer} → Gives (object (levels - 1)) encode s (i + 1) put b b' r
        → Gives (value levels) encode s at put b b' r
    unfolding white
    value-object e z g = handed (λ v. v) (λ v. refl) (on_take at_start l 0x7B e refl (object_begins (levels - 1) (omega arith))) g

    pub scalar_there : (get_or s i 0 ≡ 0x5B → ⊥) → (get_or s i 0 ≡ 0x7B → ⊥) → Scalar s i
    scalar_there a o = record { there = l; black = p.black l; no_array = a; no_object = o }

    pub value_scalar : {b b' : List ℕ} {r : Answer} → ((l : ℕ) → Gives (value l) encode s i put b b' r) → Gives (value levels) encode s at put b b' r
    value_scalar g = handed (λ v. v) (λ v. refl) at_start (g levels)

-- AN ARRAY

-- a member is to be read, and the 03 before it is written
pub record Listed (levels : ℕ) (s : List ℕ) (at put : ℕ) (b₀ : List ℕ) (i : ℕ) (b : List ℕ) (p : ℕ) : Type 0 where
  pub make : Values → Values
  pub on : On (members levels) s at i (λ k. member levels λ l. k (make l))
  pub text : List ℕ
  pub wrote : Wrote text put b₀ b p
  pub bytes : (v : Value) (l : Values) → encodes (make (cons v l)) ≡ text ++ (encode v ++ encodes l)

-- a member was read
pub record Behind (levels : ℕ) (s : List ℕ) (at put : ℕ) (b₀ : List ℕ) (i : ℕ) (b : List ℕ) (p : ℕ) : Type 0 where
  pub make : Values → Values
  pub on : On (members levels) s at i (λ k. more levels λ l. k (make l))
  pub text : List ℕ
  pub wrote : Wrote text put b₀ b p
  pub bytes : (l : Values) → encodes (make l) ≡ text ++ encodes l

module _ {s : List ℕ} {at i : ℕ} (levels put : ℕ) (h : at ≤ length s) (p : Skips s at i) where
  at-members : On (members levels) s at i (members levels)
  at-members = on_skip (on_first (members levels) s at h) (λ k. s_members) p

  pub array_ended : length s ≤ i → (b : List ℕ) → Gives (members levels) encodes s at put b b (Err JsonMalformed)
  unfolding ends
  array_ended l b = g_refused _ refl (off_end at-members l (λ k. refl))

  module _ (l : i < length s) where
    pub array_empty : get_or s i 0 ≡ 0x5D → {b b' : List ℕ} {n : ℕ} → Wrote (2 ∷ []) put b b' n → Gives (members levels) encodes s at put b b' (done (i + 1) n)
    unfolding take or_member white encodes
    array_empty e w = g_done nil w (on_take at-members l 0x5D e refl (λ k next. refl))

    pub array_first : (get_or s i 0 ≡ 0x5D → ⊥) → {b b' : List ℕ} {n : ℕ} → Wrote (3 ∷ []) put b b' n → Listed levels s at put b i b' n
    unfolding encodes
    array_first e w = record {
      make = λ l. l;
      on = on_then at-members (omega arith) p.inside
          (λ k. rw (at_byte s i {b = get_or s i 0} l refl) (run-member (get_or s i 0) (drop (i + 1) s) e (p.black l) levels k));
      text = 3 ∷ [];
      wrote = w;
      bytes = λ v l. refl;
    }

module _ {levels : ℕ} {s : List ℕ} {at put : ℕ} {b₀ : List ℕ} {i : ℕ} {b : List ℕ} {p : ℕ} (m : Listed levels s at put b₀ i b p) where
  member_refused' : {b' : List ℕ} {c : Refusal} → Gives (value levels) encode s i p b b' (Err c) → Gives (members levels) encodes s at put b₀ b' (Err c)
  unfolding member
  member_refused' (g_refused c l f) = g_refused _ (l ∙ wrote_long m.wrote) (off_then m.on (λ k. f (λ v. more levels λ l. k (m.make (cons v l)))))

  pub member_refused : {b' : List ℕ} {r : Answer} {c : Refusal} → Gives (value levels) encode s i p b b' r → r ≡ Err c
      → Gives (members levels) encodes s at put b₀ b' (Err c)
  member_refused g e = member_refused' (rw e at g)

  member_read' : {b' : List ℕ} {j q : ℕ} → Gives (value levels) encode s i p b b' (done j q) → Behind levels s at put b₀ j b' q
  unfolding member
  member_read' (g_done v w o) = record {
    make = λ l. m.make (cons v l);
    on = on_then m.on o.later o.inside (λ k. o.goes (λ v. more levels λ l. k (m.make (cons v l))));
    text = m.text ++ encode v;
    wrote = wrote_then m.wrote w;
    bytes = λ l. m.bytes v l ∙ sym (append_assoc m.text (encode v) (encodes l));
  }

  pub member_read : {b' : List ℕ} {r : Answer} {j q : ℕ} → Gives (value levels) encode s i p b b' r → r ≡ done j q → Behind levels s at put b₀ j b' q
  member_read g e = member_read' (rw e at g)

module _ {levels : ℕ} {s : List ℕ} {at put : ℕ} {b₀ : List ℕ} {j : ℕ} {b : List ℕ} {p : ℕ} (m : Behind levels s at put b₀ j b p) {i : ℕ} (q : Skips s j i) where
  behind : On (members levels) s at i (λ k. more levels λ l. k (m.make l))
  behind = on_skip m.on (λ k. s_more) q

  pub more_ended : length s ≤ i → Gives (members levels) encodes s at put b₀ b (Err JsonMalformed)
  unfolding ends
  more_ended l = g_refused _ (wrote_long m.wrote) (off_end behind l (λ k. refl))

  module _ (l : i < length s) where
    pub more_close : get_or s i 0 ≡ 0x5D → {b' : List ℕ} {n : ℕ} → Wrote (2 ∷ []) p b b' n → Gives (members levels) encodes s at put b₀ b' (done (i + 1) n)
    unfolding take or_comma white encodes
    more_close e w = g_done (m.make nil) (wrote_text (wrote_then m.wrote w) (sym (m.bytes nil))) (on_take behind l 0x5D e refl (λ k next. refl))

    pub more_other : (get_or s i 0 ≡ 0x5D → ⊥) → (get_or s i 0 ≡ 0x2C → ⊥) → Gives (members levels) encodes s at put b₀ b (Err JsonMalformed)
    unfolding take or_comma found
    more_other e f = g_refused JsonMalformed (wrote_long m.wrote) (off_take behind l (get_or s i 0) refl (q.black l)
        (λ k next. rw (ne_eqb (get_or s i 0) 0x5D e, ne_eqb (get_or s i 0) 0x2C f)))

    pub more_comma : get_or s i 0 ≡ 0x2C → {b' : List ℕ} {n : ℕ} → Wrote (3 ∷ []) p b b' n → Listed levels s at put b₀ (i + 1) b' n
    unfolding take or_comma found white encodes
    more_comma e w = record {
      make = m.make;
      on = on_take behind l 0x2C e refl (λ k next. refl);
      text = m.text ++ (3 ∷ []);
      wrote = wrote_then m.wrote w;
      bytes = λ v l. m.bytes (cons v l) ∙ sym (append_assoc m.text (3 ∷ []) (encode v ++ encodes l));
    }

-- AN OBJECT

-- behind the value of "a", and behind that of "b"
abbrev second : (levels : ℕ) → (Value → Awaits) → Value → Value → Awaits
second levels k a b = token 0x7D (k (pair a b))

abbrev first : (levels : ℕ) → (Value → Awaits) → Value → Awaits
first levels k a = token 0x2C (name 0x62 (value levels (second levels k a)))

pub record First (levels : ℕ) (s : List ℕ) (at put : ℕ) (b₀ : List ℕ) (i : ℕ) (b : List ℕ) (p : ℕ) : Type 0 where
  pub a : Value
  pub on : On (object levels) s at i (λ k. first levels k a)
  pub wrote : Wrote (5 ∷ encode a) put b₀ b p

pub record Second (levels : ℕ) (s : List ℕ) (at put : ℕ) (b₀ : List ℕ) (i : ℕ) (b : List ℕ) (p : ℕ) : Type 0 where
  pub a : Value
  pub c : Value
  pub on : On (object levels) s at i (λ k. second levels k a c)
  pub wrote : Wrote (5 ∷ (encode a ++ encode c)) put b₀ b p

module _ {s : List ℕ} {at : ℕ} {u : Outcome ℕ Refusal} (levels put : ℕ) (h : at ≤ length s) (p : Passes (name 0x61) s at u) where
  at-object : On (object levels) s at at (λ k. name 0x61 (value levels (first levels k)))
  unfolding object named
  at-object = on_first (object levels) s at h

  pub no_first : {c : Refusal} → u ≡ Err c → (b : List ℕ) → Gives (object levels) encode s at put b b (Err c)
  no_first z b = g_refused _ refl (off_passed (λ k. value levels (first levels k)) at-object p z)

  module _ {i : ℕ} (z : u ≡ Ok i) where
    at_first : On (object levels) s at i (λ k. value levels (first levels k))
    at_first = on_passed (λ k. value levels (first levels k)) at-object p z

    pub first_inside : (at ≤ i) × (i ≤ length s)
    first_inside = (at_first.later, at_first.inside)

    module _ {b b₁ : List ℕ} {n : ℕ} (w : Wrote (5 ∷ []) put b b₁ n) where
      first_refused' : {b₂ : List ℕ} {c : Refusal} → Gives (value levels) encode s i n b₁ b₂ (Err c) → Gives (object levels) encode s at put b b₂ (Err c)
      first_refused' (g_refused c l f) = g_refused _ (l ∙ wrote_long w) (off_then at_first (λ k. f (first levels k)))

      pub first_refused : {b₂ : List ℕ} {r : Answer} {c : Refusal} → Gives (value levels) encode s i n b₁ b₂ r → r ≡ Err c
          → Gives (object levels) encode s at put b b₂ (Err c)
      first_refused g e = first_refused' (rw e at g)

      first_read' : {b₂ : List ℕ} {j t : ℕ} → Gives (value levels) encode s i n b₁ b₂ (done j t) → First levels s at put b j b₂ t
      first_read' (g_done a q o) = record {
        a = a;
        on = on_then at_first o.later o.inside (λ k. o.goes (first levels k));
        wrote = wrote_then w q;
      }

      pub first_read : {b₂ : List ℕ} {r : Answer} {j t : ℕ} → Gives (value levels) encode s i n b₁ b₂ r → r ≡ done j t → First levels s at put b j b₂ t
      first_read g e = first_read' (rw e at g)

module _ {levels : ℕ} {s : List ℕ} {at put : ℕ} {b₀ : List ℕ} {j : ℕ} {b : List ℕ} {t : ℕ} (f : First levels s at put b₀ j b t) where
  pub comma_asks : j ≤ length s
  comma_asks = f.on.inside

  module _ {u : Outcome ℕ Refusal} (p : Passes (token 0x2C) s j u) where
    pub no_comma : {c : Refusal} → u ≡ Err c → Gives (object levels) encode s at put b₀ b (Err c)
    no_comma z = g_refused _ (wrote_long f.wrote) (off_passed (λ k. name 0x62 (value levels (second levels k f.a))) f.on p z)

    module _ {c : ℕ} (z : u ≡ Ok c) where
      at_comma : On (object levels) s at c (λ k. name 0x62 (value levels (second levels k f.a)))
      at_comma = on_passed (λ k. name 0x62 (value levels (second levels k f.a))) f.on p z

      pub label_asks : c ≤ length s
      label_asks = at_comma.inside

      module _ {o : Outcome ℕ Refusal} (q : Passes (name 0x62) s c o) where
        pub no_second : {d : Refusal} → o ≡ Err d → Gives (object levels) encode s at put b₀ b (Err d)
        no_second y = g_refused _ (wrote_long f.wrote) (off_passed (λ k. value levels (second levels k f.a)) at_comma q y)

        module _ {i : ℕ} (y : o ≡ Ok i) where
          at_second : On (object levels) s at i (λ k. value levels (second levels k f.a))
          at_second = on_passed (λ k. value levels (second levels k f.a)) at_comma q y

          pub second_inside : (at ≤ i) × (i ≤ length s)
          second_inside = (at_second.later, at_second.inside)

          second_refused' : {b' : List ℕ} {e : Refusal} → Gives (value levels) encode s i t b b' (Err e) → Gives (object levels) encode s at put b₀ b' (Err e)
          second_refused' (g_refused c l g) = g_refused _ (l ∙ wrote_long f.wrote) (off_then at_second (λ k. g (second levels k f.a)))

          pub second_refused : {b' : List ℕ} {r : Answer} {e : Refusal} → Gives (value levels) encode s i t b b' r → r ≡ Err e
              → Gives (object levels) encode s at put b₀ b' (Err e)
          second_refused g e = second_refused' (rw e at g)

          second_read' : {b' : List ℕ} {n u : ℕ} → Gives (value levels) encode s i t b b' (done n u) → Second levels s at put b₀ n b' u
          second_read' (g_done v w o) = record {
            a = f.a;
            c = v;
            on = on_then at_second o.later o.inside (λ k. o.goes (second levels k f.a));
            wrote = wrote_then f.wrote w;
          }

          pub second_read : {b' : List ℕ} {r : Answer} {n u : ℕ} → Gives (value levels) encode s i t b b' r → r ≡ done n u → Second levels s at put b₀ n b' u
          second_read g e = second_read' (rw e at g)

module _ {levels : ℕ} {s : List ℕ} {at put : ℕ} {b₀ : List ℕ} {j : ℕ} {b : List ℕ} {t : ℕ} (f : Second levels s at put b₀ j b t) where
  pub close_asks : j ≤ length s
  close_asks = f.on.inside

  module _ {u : Outcome ℕ Refusal} (p : Passes (token 0x7D) s j u) where
    pub not_closed : {c : Refusal} → u ≡ Err c → Gives (object levels) encode s at put b₀ b (Err c)
    not_closed z = g_refused _ (wrote_long f.wrote) (off_passed (λ k. k (pair f.a f.c)) f.on p z)

    pub closed : {c : ℕ} → u ≡ Ok c → Gives (object levels) encode s at put b₀ b (done c t)
    unfolding encode
    closed z = g_done (pair f.a f.c) f.wrote (on_passed (λ k. k (pair f.a f.c)) f.on p z)
