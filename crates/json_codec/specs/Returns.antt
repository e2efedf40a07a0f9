-- What each return of a whole call shows.
use Rattle.std.specs.Prelude.{◌≡◌, refl, ℕ, ◌+◌, ◌≤◌, ◌<◌, leb, length, get_or, take}
use Rattle.std.proofs.Common.{◌∙◌, arith, drop_of_length-le}
use Rattle.std.proofs.Math.Path.{ap}
use mathlib.Core.List.{List, [], ◌∷◌, ◌++◌}
use borrow.Author.Tests.{le-leb, lt-leb}
use Rattle.std.proofs.Math.ListN.{drop}
use Rattle.value.specs.All.{All, each}
use Rattle.value.specs.Value.{Value, vfalse, encode, size, flat}
use Rattle.value.specs.Reading.{read_view}
use Rattle.value.specs.Laws.{Readable}
use Rattle.value.proofs.Laws.{read_values_sound}
use Rattle.value.specs.Spans.{view_of}
use Rattle.value.proofs.SpansLaws.{view_ok, view_refusal}
use Rattle.value.proofs.Encoding.{size-encode}
use Rattle.value.specs.Result.{ok, refusal, and_then, map_result, unless}
use Rattle.report.specs.Writing.{wrote_front, front_read}
use Rattle.notation.specs.Text.{json_of, depth, level_limit, write_json}
use Rattle.notation.proofs.Laws.{json_short}
use Rattle.json_codec.specs.Writer.{Puts, p_done, p_deep, Held, Holds, Writes}
use Rattle.notation.specs.Grammar.{value, finished, take as takes, ends, run, read_json}
use Rattle.notation.specs.Reads.{s_finished}
use Rattle.notation.proofs.ReadsLaws.{run_take}
use Rattle.json_codec.specs.Reader.{On, Skips, Gives, g_done, g_refused, at_byte}
use Rattle.notation.specs.Calls.{json_room, value_room, to_json, from_json}
use Rattle.made.specs.Made.{Makes, makes_no, makes_ok}
use Rattle.std.specs.Prelude.{Ok, Err}
use Rattle.refusal.specs.declared.Refusal.{Refusal}
use Rattle.refusal.specs.declared.Refusal.TheVariants.{OutputSmall, JsonMalformed, JsonLong}
use Rattle.refusal.specs.Refusal.{number_of}
use Rattle.json_codec.specs.Steps.{Answer, done}

-- READING

pub read_short : (s o : List ℕ) → length o < value_room → Makes (from_json s (length o)) (Err OutputSmall) o o
unfolding from_json unless
read_short s o h = makes_no OutputSmall (rw (lt-leb value_room (length o) h))

-- the value is read, and then nothing but white space stands there
whole : (s : List ℕ) {at j : ℕ} (v : Value) → On (value level_limit) s 0 at (λ k. k v) → Skips s at j → length s ≤ j → run s (value level_limit finished) ≡ ok v
unfolding run ends
whole s v t q l = t.goes finished ∙ q.goes (finished v) s_finished ∙ ap (λ (l : List ℕ). run l (finished v)) (drop_of_length-le s l)

module _ (s o : List ℕ) (h : value_room ≤ length o) where
  -- what the whole text is read as
  as_read : from_json s (length o) ≡ map_result encode (and_then (run s (value level_limit finished)) λ v. unless 72 (leb (size v) 256) (ok v))
  unfolding from_json unless read_json
  as_read = rw (le-leb value_room (length o) h)

  refused : (c : Refusal) → run s (value level_limit finished) ≡ refusal (number_of c) → Makes (from_json s (length o)) (Err c) o o
  unfolding and_then map_result
  refused c e = makes_no c (as_read ∙ rw e)

  pub read_refused : {b b' : List ℕ} {r : Answer} {c : Refusal} → Gives (value level_limit) encode s 0 0 b b' r → r ≡ Err c
      → Makes (from_json s (length o)) (Err c) o o
  read_refused {b} {b'} {c = c} g e = go (rw e at g)
    where
      go : Gives (value level_limit) encode s 0 0 b b' (Err c) → Makes (from_json s (length o)) (Err c) o o
      go (g_refused c l f) = refused c (f finished)

  pub read_more : {b b' : List ℕ} {r : Answer} {at n j : ℕ} → Gives (value level_limit) encode s 0 0 b b' r → r ≡ done at n → Skips s at j → j < length s
      → Makes (from_json s (length o)) (Err JsonMalformed) o o
  unfolding takes
  read_more {b} {b'} {at} {n} {j} g e q l = go (rw e at g)
    where
      go : Gives (value level_limit) encode s 0 0 b b' (done at n) → Makes (from_json s (length o)) (Err JsonMalformed) o o
      go (g_done v w t) = refused JsonMalformed (t.goes finished ∙ q.goes (finished v) s_finished ∙ ap (λ (l : List ℕ). run l (finished v)) (at_byte s j l refl)
          ∙ run_take (get_or s j 0) (drop (j + 1) s) (finished v) (q.black l))

  pub read_long : {b b' : List ℕ} {r : Answer} {at n j : ℕ} → Gives (value level_limit) encode s 0 0 b b' r → r ≡ done at n → Skips s at j → length s ≤ j
      → length b ≡ 257 → 256 < n → Makes (from_json s (length o)) (Err JsonLong) o o
  unfolding and_then unless map_result
  read_long {b} {b'} {at} {n} g e q l m k = go (rw e at g)
    where
      go : Gives (value level_limit) encode s 0 0 b b' (done at n) → Makes (from_json s (length o)) (Err JsonLong) o o
      go (g_done v w t) = makes_no JsonLong (as_read ∙ rw (whole s v t q l, lt-leb (size v) 256 (omega (arith, w.end, size-encode v))))

  pub read_done : {b b' : List ℕ} {r : Answer} {at n j : ℕ} {o' : List ℕ} → Gives (value level_limit) encode s 0 0 b b' r → r ≡ done at n → Skips s at j
      → length s ≤ j → length b ≡ 257 → n ≤ 256 → o' ≡ take n b' ++ drop n o → Makes (from_json s (length o)) (Ok n) o o'
  unfolding and_then unless map_result
  read_done {b} {b'} {at} {n} {o'} g e q l m k d = go (rw e at g)
    where
      go : Gives (value level_limit) encode s 0 0 b b' (done at n) → Makes (from_json s (length o)) (Ok n) o o'
      go (g_done v w t) =
          let z = size-encode v in
          let f = wrote_front w (omega (arith, w.end)) in
          makes_ok (encode v) (as_read ∙ rw (whole s v t q l, le-leb (size v) 256 (omega (arith, w.end)))) f.long
          (d ∙ ap (λ (l : List ℕ). l ++ drop n o) (front_read f))

-- what is asked for the copy: a value that was read has as many bytes as it says
pub read_at : {s b b' : List ℕ} {r : Answer} {at n : ℕ} → Gives (value level_limit) encode s 0 0 b b' r → r ≡ done at n → (at ≤ length s) × (n ≤ length b')
read_at {s} {b} {b'} {at} {n} g e = go (rw e at g)
  where
    go : Gives (value level_limit) encode s 0 0 b b' (done at n) → (at ≤ length s) × (n ≤ length b')
    go (g_done v w t) = (t.inside, w.inside)

-- WRITING

pub write_short : (v o : List ℕ) → length o < json_room → Makes (to_json v (length o)) (Err OutputSmall) o o
unfolding to_json unless
write_short v o h = makes_no OutputSmall (rw (lt-leb json_room (length o) h))

module _ (v o : List ℕ) (h : json_room ≤ length o) where
  as_written : to_json v (length o) ≡ and_then (read_view v) λ vs. write_json (get_or vs 0 vfalse)
  unfolding to_json unless
  as_written = rw (le-leb json_room (length o) h)

  pub write_malformed : {e : Refusal} → refusal (number_of e) ≡ view_of v → Makes (to_json v (length o)) (Err e) o o
  unfolding and_then
  write_malformed {e} q = makes_no e (as_written ∙ rw (view_refusal v q))

-- the value that the bytes are
pub record Whole (v : List ℕ) : Type 0 where
  pub x : Value
  pub view : read_view v ≡ ok (x ∷ [])
  pub readable : Readable x
  pub held : Held v 0 x []

pub is_whole : (v : List ℕ) → ok tt ≡ view_of v → Whole v
unfolding flat
is_whole v e =
    let (x, f) = view_ok v e in
    let r = read_values_sound 30 1 v f in
    record { x = x; view = f; readable = head r.readable; held = record { bytes = r.bytes } }
  where
    head : {x : Value} {vs : List Value} → All Readable (x ∷ vs) → Readable x
    head (each h hs) = h

pub whole_holds : {v : List ℕ} → Whole v → Holds v 0
whole_holds w = record { x = w.x; more = []; held = w.held }

module _ {v : List ℕ} (w : Whole v) {b b' : List ℕ} {r : Answer} (p : Writes v 0 level_limit 0 b b' r) where
  its_text : Puts (json_of w.x) (depth w.x) level_limit (0 + size w.x) 0 b b' r
  its_text = p.puts w.x [] w.held

  -- as many bytes as were written may be copied
  pub write_asks : length b ≡ json_room → {n m : ℕ} → r ≡ done n m → (m ≤ length b') × (m ≤ json_room)
  write_asks l {n} {m} e = go (rw e at its_text)
    where
      go : Puts (json_of w.x) (depth w.x) level_limit (0 + size w.x) 0 b b' (done n m) → (m ≤ length b') × (m ≤ json_room)
      go (p_done f d q) = (q.inside, omega (arith, q.end))

  module _ (o : List ℕ) (h : json_room ≤ length o) where
    pub write_deep : {c : Refusal} → r ≡ Err c → Makes (to_json v (length o)) (Err c) o o
    unfolding and_then write_json unless
    write_deep {c} e = go (rw e at its_text)
      where
        go : Puts (json_of w.x) (depth w.x) level_limit (0 + size w.x) 0 b b' (Err c) → Makes (to_json v (length o)) (Err c) o o
        go (p_deep f d l) = makes_no c (as_written v o h ∙ rw (w.view, lt-leb (depth w.x) level_limit d, f))

    pub write_done : length b ≡ json_room → {n m : ℕ} → r ≡ done n m → {o' : List ℕ} → o' ≡ take m b' ++ drop m o → Makes (to_json v (length o)) (Ok m) o o'
    unfolding and_then write_json unless
    write_done l {n} {m} e {o'} d = go (rw e at its_text)
      where
        go : Puts (json_of w.x) (depth w.x) level_limit (0 + size w.x) 0 b b' (done n m) → Makes (to_json v (length o)) (Ok m) o o'
        go (p_done f k q) =
            let y = wrote_front q (omega (arith, json_short w.readable)) in
            makes_ok (json_of w.x) (as_written v o h ∙ rw (w.view, le-leb (depth w.x) level_limit k)) y.long
            (d ∙ ap (λ (l : List ℕ). l ++ drop m o) (front_read y))
