-- The reader's contracts: what a reading function answers, and what then holds of the bytes.
use Rattle.std.specs.Prelude.{◌≡◌, Ok, Err, Bool, true, false, ◌&&◌, ltb, length, take, drop}
use Rattle.std.proofs.Math.Path.{refl, ap}
use Rattle.std.proofs.Common.{sym, ap₂, ◌∙◌, arith, le_refl, one-add, lt-ltb, ne_eqb, le-leb, length-append, length-drop, take-append-drop, drop-cons}
use Rattle.std.proofs.Common.{drop-drop, take_all, get_or-drop, length-take-le}
use mathlib.Core.List.{List, [], ◌∷◌, ◌++◌}
use Prim.Native.Nat.{ℕ, zero, suc, ◌+◌, ◌-◌, ◌*◌, ◌≤◌, ◌<◌}
use Rattle.std.proofs.lemmas.Bool.{lt-leb}
use Rattle.std.proofs.Math.ListN.{get_or, get_or-eq_default}
use Rattle.value.specs.All.{All, none, each}
use Rattle.value.specs.Value.{Value, vfalse, vtrue, list, nil, least_wide, encode, size}
use Rattle.value.proofs.Encoding.{size-encode, size_pos}
use Rattle.value.specs.Reading.{
  Owed,
  value,
  rest,
  byte,
  Things,
  nothing,
  a_value,
  a_rest,
  a_body,
  Found,
  whole,
  malformed,
  too_long,
  on_whole,
  kind_of,
  Kind,
  k_false,
  k_true,
  k_empty,
  k_front,
  k_number,
  k_pair,
  k_wide,
  unknown,
  make_front,
  joined,
  make_number,
  make_wide,
  make_body,
  make_pair,
  make_rest,
  begin_value,
  begin_rest,
  due,
  may_be,
  begin_byte,
  read,
  read_value,
}
use Rattle.value.specs.Laws.{bytes_of, Sound, s_whole, Names, is0, is1, is2, is3, is4, is5, is6, is_other}
use Rattle.value.proofs.Laws.{names, sound, composed, body_read, nothing_owed, read_sound}
use Rattle.value.specs.declared.Fault.TheVariants.{Malformed, TooLong}
use Rattle.value.specs.Reader.{Read, outcome, Reads, r_malformed, r_too_long, r_whole, answer, from, TwoParts, BodyBegins, NumberBegins, small, large}

pub from-drop : (a : ℕ) (s : List ℕ) → from a s ≡ drop a s
from-drop a s = take_all (length s - a) (drop a s) (rw length-drop (le_refl (length s - a)))

-- each thing that is owed is judged in turn: the input ended, then no room
ended : {o : Owed} (s : List ℕ) (room : ℕ) (os : List Owed) → length s ≡ 0 → read s room (o ∷ os) ≡ malformed
unfolding read
ended [] room os h = refl
ended (b ∷ bs) room os h = absurd (omega arith)

full : {o : Owed} (s : List ℕ) (room : ℕ) (os : List Owed) → (length s ≡ 0 → ⊥) → room ≡ 0 → read s room (o ∷ os) ≡ too_long
unfolding read
full [] room os h e = absurd (h refl)
full (b ∷ bs) zero os h e = refl
full (b ∷ bs) (suc n) os h e = absurd (omega arith)

pub reads_ended : {o : Owed} {s : List ℕ} {room : ℕ} → length s ≡ 0 → Reads o s room (Err Malformed)
reads_ended {s} {room} h = r_malformed (λ os. ended s room os h)

pub reads_full : {o : Owed} {s : List ℕ} {room : ℕ} → (length s ≡ 0 → ⊥) → room ≡ 0 → Reads o s room (Err TooLong)
reads_full {s} {room} h e = r_too_long (λ os. full s room os h e)

-- the first byte is there and may be taken: b, the bytes behind it, and one less room
begins : (s : List ℕ) (room : ℕ) {b : ℕ} → (length s ≡ 0 → ⊥) → (room ≡ 0 → ⊥) → get_or s 0 0 ≡ b → (os : List Owed)
    → read s room os ≡ read (b ∷ drop 1 s) (suc (room - 1)) os
begins s room hs hr e os =
    let d : s ≡ get_or s 0 0 ∷ drop 1 s = drop-cons s 0 0 (omega arith) in
    let n : room ≡ suc (room - 1) = omega arith in
    ap₂ (λ (l : List ℕ) (m : ℕ). read l m os) (d ∙ ap (λ (k : ℕ). k ∷ drop 1 s) e) n

pub unknown_kind : (b : ℕ) → 7 ≤ b → kind_of b ≡ unknown
unfolding kind_of
unknown_kind b h = get_or-eq_default (k_false ∷ k_true ∷ k_empty ∷ k_front ∷ k_number ∷ k_pair ∷ k_wide ∷ []) unknown h

no_list : {b : ℕ} {k : Kind} → Names b k → (b ≡ 2 → ⊥) → (b ≡ 3 → ⊥) → (os : List Owed) (next : (ps : List Owed) → Found ps) → begin_rest os next k ≡ malformed
unfolding begin_rest
no_list is0 h₂ h₃ os next = refl
no_list is1 h₂ h₃ os next = refl
no_list is2 h₂ h₃ os next = absurd (h₂ refl)
no_list is3 h₂ h₃ os next = absurd (h₃ refl)
no_list is4 h₂ h₃ os next = refl
no_list is5 h₂ h₃ os next = refl
no_list is6 h₂ h₃ os next = refl
no_list is_other h₂ h₃ os next = refl

-- a rest is a list
unfoldable as_value : {os : List Owed} → Things (rest ∷ os) → Things (value ∷ os)
as_value (a_rest l t) = a_value (list l) t

list_value : {b : ℕ} {k : Kind} → Names b k → 2 ≤ b → b < 4 → (os : List Owed) (next : (ps : List Owed) → Found ps) →
    begin_value os next k ≡ on_whole as_value (begin_rest os next k)
unfolding begin_value begin_rest as_value make_front make_rest on_whole
list_value is0 h k os next = absurd (omega arith)
list_value is1 h k os next = absurd (omega arith)
list_value is2 h k os next = sym (composed as_value (a_rest nil) (a_value (list nil)) (λ t. refl) (next os))
list_value is3 h k os next = sym (composed as_value make_rest make_front from_two (next (value ∷ rest ∷ os)))
  where
    from_two : (t : Things (value ∷ rest ∷ os)) → as_value (make_rest t) ≡ make_front t
    from_two (a_value v (a_rest l t)) = refl
list_value is4 h k os next = absurd (omega arith)
list_value is5 h k os next = absurd (omega arith)
list_value is6 h k os next = absurd (omega arith)
list_value is_other h k os next = refl

module _ {s : List ℕ} {room : ℕ} (hs : length s ≡ 0 → ⊥) (hr : room ≡ 0 → ⊥) where
  one_byte : {o : Owed} {b : ℕ} → get_or s 0 0 ≡ b → (f : (os : List Owed) → Things os → Things (o ∷ os)) →
      ((os : List Owed) → read (b ∷ drop 1 s) (suc (room - 1)) (o ∷ os) ≡ on_whole (f os) (read (drop 1 s) (room - 1) os)) → Reads o s room (Ok 1)
  one_byte {o} e f h = r_whole {n = 1} f (omega arith) (omega arith) (λ os. begins s room hs hr e (o ∷ os) ∙ h os)

  pub reads_plain : get_or s 0 0 < 2 → Reads value s room (Ok 1)
  unfolding read begin_value kind_of
  reads_plain h = go (get_or s 0 0) refl h
    where
      go : (b : ℕ) → get_or s 0 0 ≡ b → b < 2 → Reads value s room (Ok 1)
      go zero e h = one_byte e (λ os. a_value vfalse) (λ os. refl)
      go (suc zero) e h = one_byte e (λ os. a_value vtrue) (λ os. refl)
      go (suc (suc b)) e h = absurd (omega arith)

  pub reads_empty : get_or s 0 0 ≡ 2 → Reads rest s room (Ok 1)
  unfolding read begin_rest kind_of
  reads_empty e = one_byte e (λ os. a_rest nil) (λ os. refl)

  pub reads_no_list : (get_or s 0 0 ≡ 2 → ⊥) → (get_or s 0 0 ≡ 3 → ⊥) → Reads rest s room (Err Malformed)
  unfolding read
  reads_no_list h₂ h₃ = r_malformed (λ os. begins s room hs hr refl (rest ∷ os) ∙ no_list (names (get_or s 0 0)) h₂ h₃ os _)

  pub reads_unknown : 7 ≤ get_or s 0 0 → Reads value s room (Err Malformed)
  unfolding read begin_value
  reads_unknown h = r_malformed (λ os. begins s room hs hr refl (value ∷ os) ∙ ap (begin_value os (read (drop 1 s) (room - 1))) (unknown_kind (get_or s 0 0) h))

  -- where a value is owed, a list is read as where a rest is
  pub reads_list : {r : Read} → 2 ≤ get_or s 0 0 → get_or s 0 0 < 4 → Reads rest s room r → Reads value s room r
  unfolding read on_whole
  reads_list h k w = go w
    where
      as_list : (os : List Owed) → read s room (value ∷ os) ≡ on_whole as_value (read s room (rest ∷ os))
      as_list os = begins s room hs hr refl (value ∷ os) ∙ list_value (names (get_or s 0 0)) h k os (read (drop 1 s) (room - 1))
          ∙ ap (on_whole as_value) (sym (begins s room hs hr refl (rest ∷ os)))

      go : {r : Read} → Reads rest s room r → Reads value s room r
      go (r_whole {n} f l m e) = r_whole (λ os t. as_value (f os t)) l m
          (λ os. as_list os ∙ ap (on_whole as_value) (e os) ∙ composed as_value (f os) (λ t. as_value (f os t)) (λ t. refl) (read (drop n s) (room - n) os))
      go (r_malformed e) = r_malformed (λ os. as_list os ∙ ap (on_whole as_value) (e os))
      go (r_too_long e) = r_too_long (λ os. as_list os ∙ ap (on_whole as_value) (e os))

pub pair_begins : {s : List ℕ} {room : ℕ} → (length s ≡ 0 → ⊥) → (room ≡ 0 → ⊥) → get_or s 0 0 ≡ 5 → TwoParts value value value s room
unfolding read begin_value kind_of
pair_begins {s} {room} hs hr e = record { make = λ os. make_pair; begun = λ os. begins s room hs hr e (value ∷ os); byte = omega arith; some = omega arith }

pub front_begins : {s : List ℕ} {room : ℕ} → (length s ≡ 0 → ⊥) → (room ≡ 0 → ⊥) → get_or s 0 0 ≡ 3 → TwoParts rest value rest s room
unfolding read begin_rest kind_of
front_begins {s} {room} hs hr e = record { make = λ os. make_rest; begun = λ os. begins s room hs hr e (rest ∷ os); byte = omega arith; some = omega arith }

pub number_begins : {s : List ℕ} {room : ℕ} → 0 < length s → 0 < room → get_or s 0 0 ≡ 4 → ((i : ℕ) → get_or s i 0 < 256) → BodyBegins 0 1 s room
unfolding read begin_value kind_of
number_begins {s} {room} hs hr e bytes =
    record { make = λ os. make_number; begun = λ os. begins s room (λ z. omega arith) (λ z. omega arith) e (value ∷ os); bytes = bytes; there = hs; some = hr }

pub wide_begins : {s : List ℕ} {room : ℕ} → 0 < length s → 0 < room → get_or s 0 0 ≡ 6 → ((i : ℕ) → get_or s i 0 < 256) → BodyBegins least_wide 3 s room
unfolding read begin_value kind_of
wide_begins {s} {room} hs hr e bytes =
    record { make = λ os. make_wide; begun = λ os. begins s room (λ z. omega arith) (λ z. omega arith) e (value ∷ os); bytes = bytes; there = hs; some = hr }

-- what is refused behind a byte of a body is refused
byte_refused : (s : List ℕ) (room least n h b : ℕ) (os : List Owed) (d : Bool) → read s room (byte least n (256 * h + b) ∷ os) ≡ malformed
    → begin_byte os (read s room) least (suc n) h b d ≡ malformed
unfolding begin_byte on_whole
byte_refused s room least n h b os true e = ap (on_whole (make_body b)) e
byte_refused s room least n h b os false e = refl

-- the bytes of a body are judged in turn: of the end of the input and that of the room the nearer one is met, the input's where both are one
short : (s : List ℕ) (room least n h : ℕ) (os : List Owed) → length s ≤ n → length s ≤ room → read s room (byte least n h ∷ os) ≡ malformed
unfolding read
short [] room least n h os l r = refl
short (b ∷ s) zero least n h os l r = absurd (omega arith)
short (b ∷ s) (suc room) least zero h os l r = absurd (omega arith)
short (b ∷ s) (suc room) least (suc n) h os l r =
    byte_refused s room least n h b os (may_be least (suc n) h b) (short s room least n (256 * h + b) os (omega arith) (omega arith))

crowded : (s : List ℕ) (room least n h : ℕ) (os : List Owed) → ((i : ℕ) → get_or s i 0 < 256) → room ≤ n → room < length s
    → read s room (byte least n h ∷ os) ≡ too_long
unfolding read begin_byte due may_be on_whole
crowded [] room least n h os bytes l r = absurd (omega arith)
crowded (b ∷ s) zero least n h os bytes l r = refl
crowded (b ∷ s) (suc room) least zero h os bytes l r = absurd (omega arith)
crowded (b ∷ s) (suc room) least (suc n) h os bytes l r =
    let z = le-leb (due least (suc n)) (256 * h + b) (omega arith) in
    rw (lt-ltb b 256 (bytes 0), z, crowded s room least n (256 * h + b) os (λ i. bytes (suc i)) (omega arith) (omega arith))

too_small : (s : List ℕ) (room least n h : ℕ) (os : List Owed) → n < length s → n < room → joined h (take (suc n) s) < least
    → read s room (byte least n h ∷ os) ≡ malformed
unfolding read begin_byte due may_be on_whole joined
too_small [] room least n h os l r lt = absurd (omega arith)
too_small (b ∷ s) zero least n h os l r lt = absurd (omega arith)
too_small (b ∷ s) (suc room) least zero h os l r lt = rw (lt-leb least (256 * h + b) lt) (go (ltb b 256))
  where
    go : (d : Bool) → begin_byte os (read s room) least zero h b (d && false) ≡ malformed
    go true = refl
    go false = refl
too_small (b ∷ s) (suc room) least (suc n) h os l r lt =
    byte_refused s room least n h b os (may_be least (suc n) h b) (too_small s room least n (256 * h + b) os (omega arith) (omega arith) lt)

all_bytes : (s : List ℕ) (n : ℕ) → ((i : ℕ) → get_or s i 0 < 256) → All (λ b. b < 256) (take n s)
all_bytes [] zero h = none
all_bytes [] (suc n) h = none
all_bytes (b ∷ s) zero h = none
all_bytes (b ∷ s) (suc n) h = each (h 0) (all_bytes s n (λ i. h (suc i)))

-- the four bytes of a wide number
pub four_joined : (s : List ℕ) → 5 ≤ length s
    → joined 0 (take 4 (drop 1 s)) ≡ 256 * (256 * (256 * get_or s 1 0 + get_or s 2 0) + get_or s 3 0) + get_or s 4 0
unfolding joined
four_joined (x ∷ a ∷ b ∷ c ∷ d ∷ s) h = omega arith
four_joined [] h = absurd (omega arith)
four_joined (x ∷ []) h = absurd (omega arith)
four_joined (x ∷ a ∷ []) h = absurd (omega arith)
four_joined (x ∷ a ∷ b ∷ []) h = absurd (omega arith)
four_joined (x ∷ a ∷ b ∷ c ∷ []) h = absurd (omega arith)

module _ {least follow : ℕ} {s : List ℕ} {room : ℕ} (p : BodyBegins least follow s room) where
  long : length (drop 1 s) ≡ length s - 1
  long = length-drop 1 s

  bytes_behind : (i : ℕ) → get_or (drop 1 s) i 0 < 256
  bytes_behind i = rw (get_or-drop 1 s i 0) (p.bytes (1 + i))

  pub body_ended : length s ≤ suc follow → length s ≤ room → Reads value s room (Err Malformed)
  unfolding on_whole
  body_ended l r = r_malformed (λ os. p.begun os
      ∙ ap (on_whole (p.make os)) (short (drop 1 s) (room - 1) least follow 0 os (omega (arith, long)) (omega (arith, long))))

  pub body_full : room ≤ suc follow → room < length s → Reads value s room (Err TooLong)
  unfolding on_whole
  body_full l r = r_too_long (λ os. p.begun os
      ∙ ap (on_whole (p.make os)) (crowded (drop 1 s) (room - 1) least follow 0 os bytes_behind (omega (arith, p.some)) (omega (arith, long, p.some))))

  module _ (l : suc follow < length s) (r : suc follow < room) where
    pub body_small : joined 0 (take (suc follow) (drop 1 s)) < least → Reads value s room (Err Malformed)
    unfolding on_whole
    body_small lt = r_malformed (λ os. p.begun os
        ∙ ap (on_whole (p.make os)) (too_small (drop 1 s) (room - 1) least follow 0 os (omega (arith, long)) (omega arith) lt))

    pub body_whole : least ≤ joined 0 (take (suc follow) (drop 1 s)) → Reads value s room (Ok (suc (suc follow)))
    body_whole le =
        let t = take (suc follow) (drop 1 s) in
        let n : length t ≡ suc follow = length-take-le (suc follow) (drop 1 s) (omega (arith, long)) in
        let z : t ++ drop (suc follow) (drop 1 s) ≡ drop 1 s = take-append-drop (suc follow) (drop 1 s) in
        let d : drop (suc follow) (drop 1 s) ≡ drop (suc (suc follow)) s = drop-drop (suc follow) 1 s ∙ rw one-add in
        r_whole {n = suc (suc follow)} (λ os x. p.make os (a_body t x)) (omega arith) (omega arith)
        (λ os. p.begun os ∙ ap (λ (x : List ℕ). on_whole (p.make os) (read x (room - 1) (byte least follow 0 ∷ os))) (sym z)
        ∙ ap (on_whole (p.make os)) (body_read least follow 0 (all_bytes (drop 1 s) (suc follow) bytes_behind) n le (drop (suc follow) (drop 1 s))
        (room - suc (suc follow)) (omega (arith, n)) os)
        ∙ composed (p.make os) (a_body t) (λ x. p.make os (a_body t x)) (λ x. refl) _ ∙ rw d)

-- a length of 1 to 256 is told by its number
pub answer_whole : (n : ℕ) → 0 < n → n ≤ 256 → answer n ≡ Ok n
answer_whole zero h k = absurd (omega arith)
answer_whole (suc n) h k = rw (ne_eqb n 256 (λ e. omega (arith, e)))

pub answered : {o : Owed} {s : List ℕ} {room n : ℕ} → Reads o s room (Ok n) → 0 < n → n ≤ 256 → Reads o s room (answer n)
answered {n} w h k = rw (answer_whole n h k) w

-- a number of either width
module _ {w : ℕ} {s : List ℕ} {room : ℕ} (p : NumberBegins w s room) where
  pub number_ended : length s < w → length s ≤ room → Reads value s room (Err Malformed)
  number_ended l r = go p l
    where
      go : {w : ℕ} → NumberBegins w s room → length s < w → Reads value s room (Err Malformed)
      go (small b) l = body_ended b (omega arith) r
      go (large b) l = body_ended b (omega arith) r

  pub number_full : room < w → room < length s → Reads value s room (Err TooLong)
  number_full l r = go p l
    where
      go : {w : ℕ} → NumberBegins w s room → room < w → Reads value s room (Err TooLong)
      go (small b) l = body_full b (omega arith) r
      go (large b) l = body_full b (omega arith) r

  module _ (l : w ≤ length s) (r : w ≤ room) where
    pub number_low : w ≡ 5 → 256 * get_or s 1 0 + get_or s 2 0 ≡ 0 → Reads value s room (Err Malformed)
    number_low e z = go p l r e
      where
        go : {w : ℕ} → NumberBegins w s room → w ≤ length s → w ≤ room → w ≡ 5 → Reads value s room (Err Malformed)
        go (small b) l r e = absurd (omega arith)
        go (large b) l r e = body_small b (omega arith) (omega arith) (omega (arith, four_joined s (omega arith), b.bytes 3, b.bytes 4))

    pub number_whole : (w ≡ 5 → 256 * get_or s 1 0 + get_or s 2 0 ≡ 0 → ⊥) → Reads value s room (Ok w)
    number_whole h = go p l r h
      where
        go : {w : ℕ} → NumberBegins w s room → w ≤ length s → w ≤ room → (w ≡ 5 → 256 * get_or s 1 0 + get_or s 2 0 ≡ 0 → ⊥) → Reads value s room (Ok w)
        go (small b) l r h = body_whole b (omega arith) (omega arith) (omega arith)
        go (large b) l r h =
            let z : 256 * get_or s 1 0 + get_or s 2 0 ≡ 0 → ⊥ = h refl in
            body_whole b (omega arith) (omega arith) (omega (arith, four_joined s (omega arith)))

-- what is read of one value says what reading finds
pub answers : {bs : List ℕ} {r : Read} → Reads value bs 256 r → r ≡ outcome (read_value bs)
unfolding read_value outcome on_whole
answers {bs} (r_whole {n} f l m e) = go (f [] nothing) (e [] ∙ rw nothing_owed)
  where
    go : (t : Things (value ∷ [])) → read_value bs ≡ whole t (drop n bs) → Ok n ≡ outcome (read_value bs)
    go (a_value v nothing) e =
        let d : length bs ≡ size v + (length bs - n) = ap length (read_sound bs e).0 ∙ length-append (encode v) (drop n bs) ∙ rw (size-encode, length-drop) in
        let i : n ≡ size v = omega arith in
        ap Ok i ∙ sym (ap outcome e)
answers (r_malformed e) = sym (ap outcome (e []))
answers (r_too_long e) = sym (ap outcome (e []))

-- a value takes a byte at least
pub reads_some : {s : List ℕ} {room n : ℕ} → Reads value s room (Ok n) → 0 < n
unfolding on_whole bytes_of
reads_some {s} {room} (r_whole {n} f l m e) = go (f [] nothing) (e [] ∙ rw nothing_owed)
  where
    taken : {v : Value} → Sound s room (value ∷ []) (whole (a_value v nothing) (drop n s)) → 0 < n
    taken {v = v} (s_whole d h p) =
        omega (arith, ap length d, length-append (encode v ++ []) (drop n s), length-append (encode v) [], size-encode v, size_pos v, length-drop n s)

    go : (t : Things (value ∷ [])) → read s room (value ∷ []) ≡ whole t (drop n s) → 0 < n
    go (a_value v nothing) q = taken {v = v} (rw q at (sound s room (value ∷ [])))
