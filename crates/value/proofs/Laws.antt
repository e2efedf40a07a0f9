-- Laws of reading: what is read is what stands there (sound), and what stands there is read (complete).
use Rattle.std.specs.Prelude.{◌≡◌, Bool, ◌&&◌, ltb, leb, length}
use Rattle.std.proofs.Math.Path.{refl}
use Rattle.std.proofs.Common.{sym, ap, ◌∙◌, suc-add, add_assoc, one-add, length-append}
use Rattle.std.proofs.Math.Bool.{true, false}
use Rattle.std.proofs.Math.Option.{some}
use mathlib.Core.List.{List, [], ◌∷◌, ◌++◌, append_assoc, append-nil}
use Prim.Native.Nat.{ℕ, zero, suc, ◌+◌, ◌-◌, ◌*◌, ◌/◌, ◌%◌, ◌≤◌, ◌<◌, zero-le}
use native.Mathlib.Omega.{arith}
use Rattle.std.proofs.Math.Decide.{dec_le}
use borrow.Author.Tests.{lt-ltb, ltb-true, le-leb, leb-true}
use Rattle.value.specs.All.{All, none, each}
use Rattle.value.specs.Result.{Result, ok, map_result}
use Rattle.value.specs.Value.{Value, Values, vfalse, vtrue, list, number, wide, pair, nil, cons, least_wide, encode, encodes, size, sizes, flat}
use Rattle.value.specs.Value.{Encodable, Encodables, e_false, e_true, e_list, e_number, e_wide, e_pair, e_nil, e_cons}
use Rattle.value.proofs.Encoding.{size-encode, size_pos}
use Rattle.value.specs.Reading.{Owed, value, rest, byte, Things, nothing, a_value, a_rest, a_body, Found, whole, malformed, too_long, on_whole, Kind}
use Rattle.value.specs.Reading.{kind_of, make_front, joined, make_number, make_wide, make_body, make_pair, make_rest, begin_value, begin_rest, due}
use Rattle.value.specs.Reading.{may_be, begin_byte, read, read_value, on_value, read_values}
use Rattle.value.specs.Laws.{bytes_of, Proper, Names, is0, is1, is2, is3, is4, is5, is6, is_other, Sound, s_malformed, s_too_long, s_whole, Readable}
use Rattle.value.specs.Laws.{numeral, ReadAs, SoundValues, s_ok, s_refusal}

pub names : (b : ℕ) → Names b (kind_of b)
unfolding kind_of
names zero = is0
names (suc zero) = is1
names (suc (suc zero)) = is2
names (suc (suc (suc zero))) = is3
names (suc (suc (suc (suc zero)))) = is4
names (suc (suc (suc (suc (suc zero))))) = is5
names (suc (suc (suc (suc (suc (suc zero)))))) = is6
names (suc (suc (suc (suc (suc (suc (suc b))))))) = is_other

-- f makes a thing that begins with the byte b of what was read after b
abbrev Adds : {os ps : List Owed} → ℕ → (Things os → Things ps) → Type 0
Adds {os} {ps} b f = (t : Things os) → Proper t → (b ∷ bytes_of t ≡ bytes_of (f t)) × Proper (f t)

sound_step : {os ps : List Owed} (f : Things os → Things ps) {b room : ℕ} {bs : List ℕ} {found : Found os} →
    Adds b f → Sound bs room os found → Sound (b ∷ bs) (suc room) ps (on_whole f found)
unfolding on_whole
sound_step f {b} {room} a (s_whole {t} {more} e h p) =
    let q = a t p in
    s_whole (ap (λ (l : List ℕ). b ∷ l) e ∙ ap (λ (l : List ℕ). l ++ more) q.0) (omega (arith, ap length q.0)) q.1
sound_step f a s_malformed = s_malformed
sound_step f a s_too_long = s_too_long

module _ {os : List Owed} where
  adds_one : (b : ℕ) (v : Value) → encode v ≡ b ∷ [] → Encodable v → Adds b (a_value {os = os} v)
  unfolding bytes_of
  adds_one b v e h t p = (ap (λ (l : List ℕ). l ++ bytes_of t) (sym e), (h, p))

  adds_front : Adds 3 (make_front {os = os})
  unfolding bytes_of make_front encode encodes
  adds_front (a_value v (a_rest l t)) (hv, (hl, p)) = (rw append_assoc, (e_list (e_cons hv hl), p))

  adds_rest : Adds 3 (make_rest {os = os})
  unfolding bytes_of make_rest encodes
  adds_rest (a_value v (a_rest l t)) (hv, (hl, p)) = (rw append_assoc, (e_cons hv hl, p))

  adds_pair : Adds 5 (make_pair {os = os})
  unfolding bytes_of make_pair encode
  adds_pair (a_value a (a_value b t)) (ha, (hb, p)) = (rw append_assoc, (e_pair ha hb, p))

  adds_number : Adds 4 (make_number {os = os})
  unfolding bytes_of make_number joined encode
  adds_number (a_body (h ∷ l ∷ []) t) ((n, each hh (each hl none), e), p) =
      let i : (256 * (256 * 0 + h) + l) / 256 ≡ h = omega arith in
      let j : (256 * (256 * 0 + h) + l) % 256 ≡ l = omega arith in
      (cc, (e_number {n = 256 * (256 * 0 + h) + l} (omega arith), p))
  adds_number (a_body [] t) ((n, b, e), p) = absurd (omega arith)
  adds_number (a_body (h ∷ []) t) ((n, b, e), p) = absurd (omega arith)
  adds_number (a_body (h ∷ l ∷ m ∷ ms) t) ((n, b, e), p) = absurd (omega arith)

  adds_wide : Adds 6 (make_wide {os = os})
  unfolding bytes_of make_wide joined encode
  adds_wide (a_body (a ∷ b ∷ c ∷ d ∷ []) t) ((n, each ha (each hb (each hc (each hd none))), e), p) =
      let m = 256 * (256 * (256 * (256 * 0 + a) + b) + c) + d in
      let i : m / 256 / 256 / 256 ≡ a = omega arith in
      let j : m / 256 / 256 % 256 ≡ b = omega arith in
      let k : m / 256 % 256 ≡ c = omega arith in
      let l : m % 256 ≡ d = omega arith in
      (cc, (e_wide {n = m} (omega arith) (omega arith), p))
  adds_wide (a_body [] t) ((n, _, e), p) = absurd (omega arith)
  adds_wide (a_body (a ∷ []) t) ((n, _, e), p) = absurd (omega arith)
  adds_wide (a_body (a ∷ b ∷ []) t) ((n, _, e), p) = absurd (omega arith)
  adds_wide (a_body (a ∷ b ∷ c ∷ []) t) ((n, _, e), p) = absurd (omega arith)
  adds_wide (a_body (a ∷ b ∷ c ∷ d ∷ x ∷ xs) t) ((n, _, e), p) = absurd (omega arith)

  adds_byte : (least follow h b : ℕ) → b < 256 → Adds b (make_body {os = os} {least = least} {follow = follow} {h = h} b)
  unfolding bytes_of make_body joined
  adds_byte least follow h b q (a_body l t) ((n, bs, e), p) = (refl, ((ap suc n, each q bs, e), p))

pub and-true : (a b : Bool) → a && b ≡ true → (a ≡ true) × (b ≡ true)
and-true true b e = (refl, e)
and-true false b e = let z : ◌≡◌ {A = ℕ} 0 1 = cc in absurd (omega arith)

module _ (bs : List ℕ) (room : ℕ) (os : List Owed) (next : (ps : List Owed) → Sound bs room ps (read bs room ps)) where
  sound_value : {b : ℕ} {k : Kind} → Names b k → Sound (b ∷ bs) (suc room) (value ∷ os) (begin_value os (read bs room) k)
  unfolding begin_value encode encodes
  sound_value is0 = sound_step (a_value vfalse) (adds_one 0 vfalse refl e_false) (next os)
  sound_value is1 = sound_step (a_value vtrue) (adds_one 1 vtrue refl e_true) (next os)
  sound_value is2 = sound_step (a_value (list nil)) (adds_one 2 (list nil) refl (e_list e_nil)) (next os)
  sound_value is3 = sound_step make_front adds_front (next (value ∷ rest ∷ os))
  sound_value is4 = sound_step make_number adds_number (next (byte 0 1 0 ∷ os))
  sound_value is5 = sound_step make_pair adds_pair (next (value ∷ value ∷ os))
  sound_value is6 = sound_step make_wide adds_wide (next (byte least_wide 3 0 ∷ os))
  sound_value is_other = s_malformed

  sound_rest : {b : ℕ} {k : Kind} → Names b k → Sound (b ∷ bs) (suc room) (rest ∷ os) (begin_rest os (read bs room) k)
  unfolding begin_rest bytes_of encodes
  sound_rest is0 = s_malformed
  sound_rest is1 = s_malformed
  sound_rest is2 = sound_step (a_rest nil) (λ t p. (refl, (e_nil, p))) (next os)
  sound_rest is3 = sound_step make_rest adds_rest (next (value ∷ rest ∷ os))
  sound_rest is4 = s_malformed
  sound_rest is5 = s_malformed
  sound_rest is6 = s_malformed
  sound_rest is_other = s_malformed

  sound_byte : (least follow h b : ℕ) (d : Bool) → may_be least follow h b ≡ d
      → Sound (b ∷ bs) (suc room) (byte least follow h ∷ os) (begin_byte os (read bs room) least follow h b d)
  unfolding begin_byte bytes_of due may_be joined
  sound_byte least zero h b true e =
      let q = and-true (ltb b 256) (leb least (256 * h + b)) e in
      sound_step (a_body (b ∷ [])) (λ t p. (refl, ((refl, each (ltb-true b 256 q.0) none, leb-true least (256 * h + b) q.1), p))) (next os)
  sound_byte least (suc n) h b true e =
      let q = and-true (ltb b 256) (leb (due least (suc n)) (256 * h + b)) e in
      sound_step (make_body b) (adds_byte least n h b (ltb-true b 256 q.0)) (next (byte least n (256 * h + b) ∷ os))
  sound_byte least zero h b false e = s_malformed
  sound_byte least (suc n) h b false e = s_malformed

pub sound : (bs : List ℕ) (room : ℕ) (os : List Owed) → Sound bs room os (read bs room os)
unfolding read bytes_of
sound [] room [] = s_whole refl (zero-le) tt
sound [] room (o ∷ os) = s_malformed
sound (b ∷ bs) room [] = s_whole refl (zero-le) tt
sound (b ∷ bs) zero (o ∷ os) = s_too_long
sound (b ∷ bs) (suc room) (value ∷ os) = sound_value bs room os (λ ps. sound bs room ps) (names b)
sound (b ∷ bs) (suc room) (rest ∷ os) = sound_rest bs room os (λ ps. sound bs room ps) (names b)
sound (b ∷ bs) (suc room) (byte least n h ∷ os) = sound_byte bs room os (λ ps. sound bs room ps) least n h b (may_be least n h b) refl

-- READ IS COMPLETE: where the bytes of a value stand and there is room, it is read, and then what is owed besides
pub composed : {os ps qs : List Owed} (f : Things ps → Things os) (g : Things qs → Things ps) (k : Things qs → Things os) →
    ((t : Things qs) → f (g t) ≡ k t) → (found : Found qs) → on_whole f (on_whole g found) ≡ on_whole k found
unfolding on_whole
composed f g k e (whole t more) = ap (λ (t : Things _). whole t more) (e t)
composed f g k e malformed = refl
composed f g k e too_long = refl

pub made_of_two : {os ps qs rs : List Owed} (f : Things ps → Things os) (g : Things qs → Things ps) (h : Things rs → Things qs) (k : Things rs → Things os) →
    ((t : Things rs) → f (g (h t)) ≡ k t) → (found : Found rs) → on_whole f (on_whole g (on_whole h found)) ≡ on_whole k found
made_of_two f g h k e found = ap (on_whole f) (composed g h (λ t. g (h t)) (λ t. refl) found) ∙ composed f (λ t. g (h t)) k e found

-- a number's bytes, as many as are owed
pub body_read : (least n h : ℕ) {l : List ℕ} → All (λ b. b < 256) l → length l ≡ suc n → least ≤ joined h l
    → (bs : List ℕ) {room : ℕ} (r : ℕ) → room ≡ length l + r → (os : List Owed) → read (l ++ bs) room (byte least n h ∷ os) ≡ on_whole (a_body l) (read bs r os)
unfolding read begin_byte due may_be joined make_body
body_read least n h none e le bs r q os = absurd (omega arith)
body_read least n h (each a more) e le bs {room = zero} r q os = absurd (omega arith)
body_read least zero h {l = b ∷ []} (each a none) e le bs {room = suc room} r q os =
    let f : room ≡ r = omega arith in
    rw (f, lt-ltb b 256 a, le-leb least (256 * h + b) le)
body_read least zero h (each a (each b more)) e le bs {room = suc room} r q os = absurd (omega arith)
body_read least (suc n) h {l = b ∷ l} (each a more) e le bs {room = suc room} r q os =
    let z = le-leb (due least (suc n)) (256 * h + b) (omega arith) in
    rw (lt-ltb b 256 a, z, body_read least n (256 * h + b) more (omega arith) le bs {room = room} r (omega arith) os)
    (composed (make_body b) (a_body l) (a_body (b ∷ l)) (λ t. refl) (read bs r os))

mutual
  unfolding read begin_value begin_rest kind_of make_front make_number make_wide joined make_pair make_rest encode encodes size sizes

  pub complete : {v : Value} → Encodable v → (bs : List ℕ) (r : ℕ) (os : List Owed) →
      read (encode v ++ bs) (size v + r) (value ∷ os) ≡ on_whole (a_value v) (read bs r os)
  complete e_false bs r os = rw one-add
  complete e_true bs r os = rw one-add
  complete (e_list h) bs r os = (completes h bs r os).0
  complete (e_number {n} h) bs r os =
      let e : 3 + r ≡ suc (2 + r) = omega arith in
      let l = n / 256 ∷ n % 256 ∷ [] in
      rw (e, body_read 0 1 0 {l = l} (each (omega arith) (each (omega arith) none)) refl (omega arith) bs r refl os)
      (composed make_number (a_body l) (a_value (number n)) (λ t. ap (λ (m : ℕ). a_value (number m) t) (omega arith)) (read bs r os))
  complete (e_wide {n} h k) bs r os =
      let e : 5 + r ≡ suc (4 + r) = omega arith in
      let l = n / 256 / 256 / 256 ∷ n / 256 / 256 % 256 ∷ n / 256 % 256 ∷ n % 256 ∷ [] in
      rw (
        e,
        body_read least_wide 3 0 {l = l} (each (omega arith) (each (omega arith) (each (omega arith) (each (omega arith) none)))) refl (omega arith) bs r refl
            os,
      )
      (composed make_wide (a_body l) (a_value (wide n)) (λ t. ap (λ (m : ℕ). a_value (wide m) t) (omega arith)) (read bs r os))
  complete (e_pair {a} {b} ha hb) bs r os =
      let e : read (encode a ++ encode b ++ bs) (size a + size b + r) (value ∷ value ∷ os) ≡ on_whole (a_value a) (on_whole (a_value b) (read bs r os)) =
      rw (append_assoc, add_assoc, complete ha (encode b ++ bs) (size b + r) (value ∷ os), complete hb bs r os) in
      rw (suc-add, e) (made_of_two make_pair (a_value a) (a_value b) (a_value (pair a b)) (λ t. refl) (read bs r os))

  -- of a list, where any value is owed, and where a rest is
  pub completes : {l : Values} → Encodables l → (bs : List ℕ) (r : ℕ) (os : List Owed) →
      (read (encodes l ++ bs) (sizes l + r) (value ∷ os) ≡ on_whole (a_value (list l)) (read bs r os))
      × (read (encodes l ++ bs) (sizes l + r) (rest ∷ os) ≡ on_whole (a_rest l) (read bs r os))
  completes e_nil bs r os = (rw one-add, rw one-add)
  completes (e_cons {v} {l} hv hl) bs r os =
      let e : read (encode v ++ encodes l ++ bs) (size v + sizes l + r) (value ∷ rest ∷ os) ≡ on_whole (a_value v) (on_whole (a_rest l) (read bs r os)) =
      rw (append_assoc, add_assoc, complete hv (encodes l ++ bs) (sizes l + r) (rest ∷ os), (completes hl bs r os).1) in (
        rw (suc-add, e) (made_of_two make_front (a_value v) (a_rest l) (a_value (list (cons v l))) (λ t. refl) (read bs r os)),
        rw (suc-add, e) (made_of_two make_rest (a_value v) (a_rest l) (a_rest (cons v l)) (λ t. refl) (read bs r os)),
      )

pub one_encoding : {v w : Value} {n : ℕ} → Encodable v → Encodable w → numeral v ≡ some n → numeral w ≡ some n → v ≡ w
unfolding numeral
one_encoding {n} h k e f = numbered h e ∙ sym (numbered k f)
  where
    kind_for : Dec (n ≤ 65535) → Value
    kind_for (yes q) = number n
    kind_for (no q) = wide n

    small : (m : ℕ) → m ≡ n → m ≤ 65535 → (d : Dec (n ≤ 65535)) → number m ≡ kind_for d
    small m e h (yes q) = ap number e
    small m e h (no q) = absurd (q (omega arith))

    large : (m : ℕ) → m ≡ n → 65535 < m → (d : Dec (n ≤ 65535)) → wide m ≡ kind_for d
    large m e h (yes q) = absurd (omega arith)
    large m e h (no q) = ap wide e

    numbered : {v : Value} → Encodable v → numeral v ≡ some n → v ≡ kind_for (dec_le n 65535)
    numbered e_false e = let z : ◌≡◌ {A = ℕ} 0 1 = cc in absurd (omega arith)
    numbered e_true e = let z : ◌≡◌ {A = ℕ} 0 1 = cc in absurd (omega arith)
    numbered (e_list h) e = let z : ◌≡◌ {A = ℕ} 0 1 = cc in absurd (omega arith)
    numbered (e_number {n = m} h) e = small m (cc) h (dec_le n 65535)
    numbered (e_wide {n = m} h k) e = large m (cc) h (dec_le n 65535)
    numbered (e_pair h k) e = let z : ◌≡◌ {A = ℕ} 0 1 = cc in absurd (omega arith)

-- the parts of such a value are such values, and what is made of encodable parts is encodable
pub readable_front : {f : Value} {r : Values} → Readable (list (cons f r)) → Readable f × Readable (list r)
unfolding size sizes
readable_front {f} {r} h = go h.fits h.encodable
  where
    go : suc (size f + sizes r) ≤ 256 → Encodable (list (cons f r)) → Readable f × Readable (list r)
    go le (e_list (e_cons hf hr)) = (record { fits = omega arith; encodable = hf }, record { fits = omega arith; encodable = e_list hr })

pub readable_pair : {a b : Value} → Readable (pair a b) → Readable a × Readable b
unfolding size
readable_pair {a} {b} h = go h.fits h.encodable
  where
    go : suc (size a + size b) ≤ 256 → Encodable (pair a b) → Readable a × Readable b
    go le (e_pair ha hb) = (record { fits = omega arith; encodable = ha }, record { fits = omega arith; encodable = hb })

pub encodable_front : {f : Value} {r : Values} → Encodable f → Encodable (list r) → Encodable (list (cons f r))
encodable_front hf (e_list hr) = e_list (e_cons hf hr)

front_sound : {bs more : List ℕ} {found : Found (value ∷ [])} {v : Value} → Sound bs 256 (value ∷ []) found → found ≡ whole (a_value v nothing) more →
    (bs ≡ encode v ++ more) × Readable v
unfolding bytes_of
front_sound {v} s e = go (rw e at s)
  where
    go : {bs more : List ℕ} {v : Value} → Sound bs 256 (value ∷ []) (whole (a_value v nothing) more) → (bs ≡ encode v ++ more) × Readable v
    go {v} (s_whole e h p) = (e ∙ rw append-nil, record { fits = omega (arith, h, size-encode v, ap length (append-nil (encode v))); encodable = p.0 })

-- what is read stands at the front of the bytes
pub read_sound : (bs : List ℕ) {v : Value} {more : List ℕ} → read_value bs ≡ whole (a_value v nothing) more → (bs ≡ encode v ++ more) × Readable v
unfolding read_value
read_sound bs e = front_sound (sound bs 256 (value ∷ [])) e

pub nothing_owed : (bs : List ℕ) (room : ℕ) → read bs room [] ≡ whole nothing bs
unfolding read
nothing_owed [] room = refl
nothing_owed (b ∷ bs) room = refl

-- a value that fits in the room is read from the front of the bytes
pub read_room : {v : Value} → Encodable v → (room : ℕ) → size v ≤ room → (more : List ℕ)
    → read (encode v ++ more) room (value ∷ []) ≡ whole (a_value v nothing) more
unfolding on_whole
read_room {v} h room le more =
    let e : room ≡ size v + (room - size v) = omega arith in
    ap (λ (n : ℕ). read (encode v ++ more) n (value ∷ [])) e ∙ complete h more (room - size v) [] ∙ rw nothing_owed

-- what stands at the front of the bytes is read
pub read_back : {v : Value} → Readable v → (more : List ℕ) → read_value (encode v ++ more) ≡ whole (a_value v nothing) more
unfolding read_value
read_back h more = read_room h.encodable 256 h.fits more

one_more : {v : Value} {k : ℕ} {bs more : List ℕ} {r : Result (List Value)} → (bs ≡ encode v ++ more) × Readable v → SoundValues k more r →
    SoundValues (suc k) bs (map_result (λ vs. v ∷ vs) r)
unfolding map_result flat
one_more {v} e (s_ok {vs} h) = s_ok
    (record { bytes = e.0 ∙ ap (λ (l : List ℕ). encode v ++ l) h.bytes; count = ap suc h.count; readable = each e.1 h.readable })
one_more e s_refusal = s_refusal

sound_values : (c k : ℕ) (bs : List ℕ) → SoundValues k bs (read_values c k bs)
unfolding read_values on_value flat
sound_values c zero [] = s_ok (record { bytes = refl; count = refl; readable = none })
sound_values c zero (b ∷ bs) = s_refusal
sound_values c (suc k) [] = s_refusal
sound_values c (suc k) (b ∷ bs) = go (λ more. sound_values c k more) (read_value (b ∷ bs)) refl
  where
    go : ((more : List ℕ) → SoundValues k more (read_values c k more)) → (found : Found (value ∷ [])) → read_value (b ∷ bs) ≡ found
        → SoundValues (suc k) (b ∷ bs) (on_value c found λ v more. map_result (λ vs. v ∷ vs) (read_values c k more))
    go next (whole (a_value v nothing) more) e = one_more (read_sound (b ∷ bs) e) (next more)
    go next malformed e = s_refusal
    go next too_long e = s_refusal

pub read_values_sound : (c k : ℕ) (bs : List ℕ) {vs : List Value} → read_values c k bs ≡ ok vs → ReadAs k bs vs
read_values_sound c k bs e = go (rw e at (sound_values c k bs))
  where
    go : {vs : List Value} → SoundValues k bs (ok vs) → ReadAs k bs vs
    go (s_ok h) = h

read_more : (c k : ℕ) (l : List ℕ) → 1 ≤ length l → read_values c (suc k) l ≡ on_value c (read_value l) λ v more. map_result (λ vs. v ∷ vs)
    (read_values c k more)
unfolding read_values
read_more c k [] h = absurd (omega arith)
read_more c k (b ∷ bs) h = refl

pub read_values_back : (c : ℕ) {vs : List Value} → All Readable vs → read_values c (length vs) (flat vs) ≡ ok vs
unfolding read_values on_value map_result flat
read_values_back c none = refl
read_values_back c (each {a = v} {l = vs} h hs) =
    read_more c (length vs) (encode v ++ flat vs) (rw (length-append, size-encode) (omega (arith, size_pos v)))
    ∙ rw (read_back h (flat vs), read_values_back c hs)
