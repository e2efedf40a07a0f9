-- The laws of whole calls: what is written is at most 2,048 bytes and reads back to the same bytes; every text of a value, whatever white space it has, is
-- read as that value's bytes, and nothing else is; what is read can be written, and is then read again as the same bytes.
use Rattle.std.specs.Prelude.{◌≡◌, refl, Bool, true, false, List, [], ◌∷◌, ℕ, ◌≤◌, leb, length, get_or}
use Rattle.std.proofs.Common.{sym, ◌∙◌, append-nil, arith, le-leb, leb-true}
use Rattle.value.specs.All.{All, none, each}
use Rattle.value.specs.Value.{Value, vfalse, Fits, encode, size, flat}
use Rattle.value.proofs.Encoding.{size-encode}
use Rattle.value.specs.Reading.{read_view}
use Rattle.value.specs.Laws.{Readable, ReadAs}
use Rattle.value.proofs.Laws.{read_values_sound, read_values_back}
use Rattle.value.specs.Result.{Result, ok, refusal, and_then, map_result, unless}
use Rattle.notation.specs.Text.{json_of, depth, level_limit, write_json}
use Rattle.notation.specs.Grammar.{value, finished, run, read_json}
use Rattle.notation.specs.Texts.{Whole, whole}
use Rattle.notation.proofs.ReadsLaws.{run_whole}
use Rattle.notation.proofs.Written.{whole_of, text_short, text_good}
use Rattle.notation.proofs.Derives.{read_whole}
use Rattle.notation.specs.Calls.{json_room, value_room, to_json, from_json}

no_refusal : {A B : Type 0} {c : ℕ} {x : B} → ◌≡◌ {A = Result B} (refusal c) (ok x) → A
no_refusal e = let z : ◌≡◌ {A = ℕ} 0 1 = cc in absurd (omega arith)

-- what went on where the test says yes
unless-ok : {A : Type 0} {a : A} (c : ℕ) (d : Bool) (r : Result A) → unless c d r ≡ ok a → (d ≡ true) × (r ≡ ok a)
unfolding unless
unless-ok c true r e = (refl, e)
unless-ok c false r e = no_refusal e

-- A VALUE AND ITS TEXT

-- a value that can be written: its bytes are read, and it nests at most 48 deep
pub record Writable (v : Value) : Type 0 where
  pub readable : Readable v
  pub level : depth v ≤ level_limit

-- exactly the texts of a value that fits are read as that value
pub read_text : {v : Value} {s : List ℕ} → Whole v s → Fits v → read_json s ≡ ok v
unfolding read_json and_then unless
read_text {v} w h = rw (run_whole w, le-leb (size v) 256 h)

pub text_read : (s : List ℕ) {v : Value} → read_json s ≡ ok v → Whole v s × Fits v
unfolding read_json and_then
text_read s {v} e = go (run s (value level_limit finished)) refl e
  where
    go : (x : Result Value) → run s (value level_limit finished) ≡ x → and_then x (λ v. unless 72 (leb (size v) 256) (ok v)) ≡ ok v → Whole v s × Fits v
    go (ok u) f e =
        let (d, q) = unless-ok 72 (leb (size u) 256) (ok u) e in
        let z : u ≡ v = cc in
        (read_whole s (f ∙ q), rw z at (leb-true (size u) 256 d))
    go (refusal c) f e = no_refusal e

-- white space changes nothing
pub white_alike : {v : Value} {s t : List ℕ} → Whole v s → Whole v t → read_json s ≡ read_json t
unfolding read_json
white_alike p q = rw (run_whole p, run_whole q)

-- what is written reads back to the same value
pub json_back : {v : Value} → Writable v → read_json (json_of v) ≡ ok v
json_back w = read_text (whole_of w.readable.encodable w.level) w.readable.fits

pub json_short : {v : Value} → Readable v → length (json_of v) ≤ json_room
json_short {v} h = omega (arith, text_short h.encodable, h.fits)

-- what is read can be written
pub read_writable : (s : List ℕ) {v : Value} → read_json s ≡ ok v → Writable v
read_writable s e = go (text_read s e)
  where
    go : {v : Value} → Whole v s × Fits v → Writable v
    go (whole t p, h) = let (q, d) = text_good t in record { readable = record { fits = h; encodable = q }; level = d }

pub writes : {v : Value} → Writable v → write_json v ≡ ok (json_of v)
unfolding write_json unless
writes {v} w = rw (le-leb (depth v) level_limit w.level)

-- WHOLE CALLS
pub view_back : {v : Value} → Readable v → read_view (encode v) ≡ ok (v ∷ [])
unfolding flat
view_back {v} h = rw append-nil at (read_values_back 30 (each h none))

pub to_json_lem : {v : Value} → Writable v → (room : ℕ) → json_room ≤ room → to_json (encode v) room ≡ ok (json_of v)
unfolding to_json unless and_then
to_json_lem w room h = rw (le-leb json_room room h, view_back w.readable) (writes w)

pub from_json_lem : (s : List ℕ) {v : Value} → read_json s ≡ ok v → (room : ℕ) → value_room ≤ room → from_json s room ≡ ok (encode v)
unfolding from_json unless map_result
from_json_lem s e room h = rw (le-leb value_room room h, e)

-- a call that writes text was given the bytes of a value that can be written, and the text is its text
pub data Told : (bytes text : List ℕ) → Type 0 where
  told : {v : Value} → Writable v → Told (encode v) (json_of v)

pub to_told : (bytes : List ℕ) (room : ℕ) {t : List ℕ} → to_json bytes room ≡ ok t → Told bytes t
unfolding to_json and_then write_json flat
to_told bytes room {t} e = go (read_view bytes) refl (unless-ok 1 (leb json_room room) (and_then (read_view bytes) λ vs. write_json (get_or vs 0 vfalse)) e).1
  where
    head : {v : Value} {vs : List Value} → All Readable (v ∷ vs) → Readable v
    head (each h hs) = h

    one : (vs : List Value) → ReadAs 1 bytes vs → write_json (get_or vs 0 vfalse) ≡ ok t → Told bytes t
    one [] r e = absurd (omega (arith, r.count))
    one (v ∷ w ∷ vs) r e = absurd (omega (arith, r.count))
    one (v ∷ []) r e =
        let (d, q) = unless-ok 71 (leb (depth v) level_limit) (ok (json_of v)) e in
        let y : encode v ≡ bytes = sym (r.bytes ∙ append-nil (encode v)) in
        let z : json_of v ≡ t = cc in
        let w : Told (encode v) (json_of v) = told (record { readable = head r.readable; level = leb-true (depth v) level_limit d }) in
        rw (y, z) at w

    go : (x : Result (List Value)) → read_view bytes ≡ x → and_then x (λ vs. write_json (get_or vs 0 vfalse)) ≡ ok t → Told bytes t
    go (ok vs) f e = one vs (read_values_sound 30 1 bytes f) e
    go (refusal c) f e = no_refusal e

-- AT MOST 2,048 BYTES
pub to_short : (bytes : List ℕ) (room : ℕ) {t : List ℕ} → to_json bytes room ≡ ok t → length t ≤ json_room
to_short bytes room e = go (to_told bytes room e)
  where
    go : {b t : List ℕ} → Told b t → length t ≤ json_room
    go (told w) = json_short w.readable

-- WHAT IS WRITTEN READS BACK to the same bytes
pub written_back : (bytes : List ℕ) (room : ℕ) {t : List ℕ} → to_json bytes room ≡ ok t → (more : ℕ) → value_room ≤ more → from_json t more ≡ ok bytes
written_back bytes room e more h = go (to_told bytes room e)
  where
    go : {b t : List ℕ} → Told b t → from_json t more ≡ ok b
    go (told w) = from_json_lem _ (json_back w) more h

-- WHAT IS READ, written, and read again, is the same
pub read_back : (s : List ℕ) (room : ℕ) {bytes : List ℕ} → from_json s room ≡ ok bytes → (more : ℕ) → json_room ≤ more
    → (t : List ℕ) × (to_json bytes more ≡ ok t) × (from_json t room ≡ ok bytes)
unfolding from_json map_result
read_back s room {bytes} e more h = go (read_json s) refl q.1
  where
    q : (leb value_room room ≡ true) × (map_result encode (read_json s) ≡ ok bytes)
    q = unless-ok 1 (leb value_room room) (map_result encode (read_json s)) e

    go : (x : Result Value) → read_json s ≡ x → map_result encode x ≡ ok bytes
        → (t : List ℕ) × (to_json bytes more ≡ ok t) × (from_json t room ≡ ok bytes)
    go (ok v) f g =
        let z : encode v ≡ bytes = cc in
        let w = read_writable s f in
        (json_of v, rw z at (to_json_lem w more h), rw z at (from_json_lem _ (json_back w) room (leb-true value_room room q.0)))
    go (refusal c) f g = no_refusal g

-- EXACTLY THE TEXTS OF A VALUE of at most 256 bytes are read as its bytes
pub from_text : {v : Value} {s : List ℕ} → Whole v s → Fits v → (room : ℕ) → value_room ≤ room → from_json s room ≡ ok (encode v)
from_text {s} w f room h = from_json_lem s (read_text w f) room h

-- a value that is read has at most 256 bytes
pub from_short : (s : List ℕ) (room : ℕ) {bytes : List ℕ} → from_json s room ≡ ok bytes → length bytes ≤ 256
unfolding from_json map_result
from_short s room {bytes} e = go (read_json s) refl (unless-ok 1 (leb value_room room) (map_result encode (read_json s)) e).1
  where
    go : (x : Result Value) → read_json s ≡ x → map_result encode x ≡ ok bytes → length bytes ≤ 256
    go (ok v) f g =
        let z : encode v ≡ bytes = cc in
        let w = read_writable s f in
        rw (← z) (omega (arith, size-encode v, w.readable.fits))
    go (refusal c) f g = no_refusal g
