-- The turns of the reader's two loops: what the first bytes were read for, and what is still owed behind them.
use Rattle.std.specs.Prelude.{◌≡◌, refl, Result, Ok, Err, List, [], ◌∷◌, ◌++◌, ℕ, suc, ◌+◌, ◌-◌, ◌≤◌, ◌<◌, length, get_or, drop, replicate}
use Rattle.std.proofs.Common.{sym, ◌∙◌, arith, add-zero, length-drop, drop-drop, get_or-drop}
use Rattle.std.proofs.Math.Path.{ap}
use Rattle.value.specs.Reading.{Owed, value, rest, Things, Found, whole, malformed, too_long, on_whole, read}
use Rattle.value.proofs.Laws.{composed}
use Rattle.value.specs.Reader.{Reads, r_whole, r_malformed, r_too_long, PartBegins, from, TwoParts}
use Rattle.value.proofs.Reader.{from-drop, reads_some, reads_ended, reads_full, reads_plain, reads_empty, reads_no_list, pair_begins, front_begins}
use Rattle.value.specs.declared.Fault.{Fault}
use Rattle.value.specs.declared.Fault.TheVariants.{Malformed, TooLong}

-- of one thing the first `at` bytes are read, and `owed` are still to be read from what is behind them
pub record Begun (o : Owed) (s : List ℕ) (room at : ℕ) (owed : List Owed) : Type 0 where
  pub make : (os : List Owed) → Things (owed ++ os) → Things (o ∷ os)
  pub goes : (os : List Owed) → read s room (o ∷ os) ≡ on_whole (make os) (read (drop at s) (room - at) (owed ++ os))
  pub inside : at ≤ length s
  pub fits : at ≤ room

all_kept : {os : List Owed} (x : Found os) → x ≡ on_whole (λ t. t) x
unfolding on_whole
all_kept (whole t bs) = refl
all_kept malformed = refl
all_kept too_long = refl

pub at_first : (o : Owed) (s : List ℕ) (room : ℕ) → Begun o s room 0 (o ∷ [])
at_first o s room =
    let e : room - 0 ≡ room = omega arith in
    record { make = λ os t. t; goes = λ os. rw e (all_kept (read s room (o ∷ os))); inside = omega arith; fits = omega arith }

-- nothing more is owed
pub finished : {o : Owed} {s : List ℕ} {room at : ℕ} → Begun o s room at [] → Reads o s room (Ok at)
finished b = r_whole b.make b.inside b.fits b.goes

module _ {o p : Owed} {s : List ℕ} {room at : ℕ} {ps : List Owed} (b : Begun o s room at (p ∷ ps)) where
  -- the next thing is read
  pub taken : {n : ℕ} → Reads p (drop at s) (room - at) (Ok n) → Begun o s room (at + n) ps
  taken (r_whole {n} f l k e) =
      let q : room - at - n ≡ room - (at + n) = omega arith in
      record {
        make = λ os t. b.make os (f (ps ++ os) t);
        goes = λ os. b.goes os ∙ ap (on_whole (b.make os)) (e (ps ++ os)) ∙ composed (b.make os) (f (ps ++ os)) (λ t. b.make os (f (ps ++ os) t))
            (λ t. refl) _ ∙ rw (drop-drop n at s, q);
        inside = omega (arith, b.inside, l, length-drop at s);
        fits = omega (arith, b.fits, k);
      }

  -- its kind byte is read, and its two parts are owed
  pub opened : {q r : Owed} → TwoParts p q r (drop at s) (room - at) → Begun o s room (at + 1) (q ∷ r ∷ ps)
  opened t =
      let q : room - at - 1 ≡ room - (at + 1) = omega arith in
      record {
        make = λ os x. b.make os (t.make (ps ++ os) x);
        goes = λ os. b.goes os ∙ ap (on_whole (b.make os)) (t.begun (ps ++ os))
            ∙ composed (b.make os) (t.make (ps ++ os)) (λ x. b.make os (t.make (ps ++ os) x)) (λ x. refl) _ ∙ rw (drop-drop 1 at s, q);
        inside = omega (arith, t.byte, length-drop at s);
        fits = omega (arith, t.some);
      }

  -- it is refused, and so is all
  pub refused : {e : Fault} → Reads p (drop at s) (room - at) (Err e) → Reads o s room (Err e)
  unfolding on_whole
  refused (r_malformed e) = r_malformed (λ os. b.goes os ∙ ap (on_whole (b.make os)) (e (ps ++ os)))
  refused (r_too_long e) = r_too_long (λ os. b.goes os ∙ ap (on_whole (b.make os)) (e (ps ++ os)))

-- an answer for the bytes from `at` on, as the code takes them
pub behind : {o : Owed} {room : ℕ} (s : List ℕ) (at : ℕ) {r : Result ℕ Fault} → Reads o (from at s) room r → Reads o (drop at s) room r
behind s at w = rw from-drop at w

-- the byte at `at`
there : (s : List ℕ) (at : ℕ) → at < length s → length (drop at s) ≡ 0 → ⊥
there s at h e = omega (arith, length-drop at s)

kind : (s : List ℕ) (at : ℕ) → get_or (drop at s) 0 0 ≡ get_or s at 0
kind s at = get_or-drop at s 0 0 ∙ rw add-zero

-- a list or a number, or no value, stands there
pub part_begins : (s : List ℕ) (room at : ℕ) → at < length s → at < room → room ≤ 256 → 2 ≤ get_or s at 0 → (get_or s at 0 ≡ 5 → ⊥)
    → PartBegins (from at s) (room - at)
part_begins s room at hs hr m k l =
    rw from-drop record {
      byte = rw length-drop (omega arith);
      some = omega arith;
      most = omega arith;
      kind = rw (kind s at) k;
      no_pair = λ e. l (sym (kind s at) ∙ e);
    }

-- so many values are owed: as many as bytes were read and one more at most, and one where no byte was
pub record Values (s : List ℕ) (room at owed : ℕ) : Type 0 where
  pub begun : Begun value s room at (replicate owed value)
  pub few : owed ≤ at + 1
  pub some : 1 ≤ at + owed

pub one_value : (s : List ℕ) (room : ℕ) → Values s room 0 1
one_value s room = record { begun = at_first value s room; few = omega arith; some = omega arith }

pub all_values : {s : List ℕ} {room at owed : ℕ} → Values s room at owed → owed ≡ 0 → Reads value s room (Ok at)
all_values v e = finished (rw e at v.begun)

module _ {s : List ℕ} {room at owed : ℕ} (v : Values s room at owed) (h : owed ≡ 0 → ⊥) where
  next : Begun value s room at (value ∷ replicate (owed - 1) value)
  next = let e : owed ≡ suc (owed - 1) = omega arith in rw e at v.begun

  pub value_ended : length s ≤ at → Reads value s room (Err Malformed)
  value_ended e = refused next (reads_ended (rw length-drop (omega arith)))

  pub value_full : at < length s → room ≤ at → Reads value s room (Err TooLong)
  value_full hs e = refused next (reads_full (there s at hs) (omega arith))

  pub value_taken : {n : ℕ} → Reads value (drop at s) (room - at) (Ok n) → Values s room (at + n) (owed - 1)
  value_taken w = record { begun = taken next w; few = omega (arith, v.few, reads_some w); some = omega (arith, reads_some w) }

  pub value_refused : {e : Fault} → Reads value (drop at s) (room - at) (Err e) → Reads value s room (Err e)
  value_refused = refused next

  pub value_plain : at < length s → at < room → get_or s at 0 < 2 → Values s room (at + 1) (owed - 1)
  value_plain hs hr k = value_taken (reads_plain (there s at hs) (λ e. omega arith) (rw (kind s at) k))

  pub value_pair : at < length s → at < room → get_or s at 0 ≡ 5 → Values s room (at + 1) (owed + 1)
  value_pair hs hr k =
      let e : owed + 1 ≡ suc (suc (owed - 1)) = omega arith in
      record { begun = rw e (opened next (pair_begins (there s at hs) (λ e. omega arith) (kind s at ∙ k))); few = omega (arith, v.few); some = omega arith }

-- a list is owed, and `at` bytes of it are read
module _ {s : List ℕ} {room at : ℕ} (b : Begun rest s room at (rest ∷ [])) where
  pub list_ended : length s ≤ at → Reads rest s room (Err Malformed)
  list_ended e = refused b (reads_ended (rw length-drop (omega arith)))

  pub list_full : at < length s → room ≤ at → Reads rest s room (Err TooLong)
  list_full hs e = refused b (reads_full (there s at hs) (omega arith))

  pub list_empty : at < length s → at < room → get_or s at 0 ≡ 2 → Reads rest s room (Ok (at + 1))
  list_empty hs hr k = finished (taken b (reads_empty (there s at hs) (λ e. omega arith) (kind s at ∙ k)))

  pub no_list_there : at < length s → at < room → (get_or s at 0 ≡ 2 → ⊥) → (get_or s at 0 ≡ 3 → ⊥) → Reads rest s room (Err Malformed)
  no_list_there hs hr k l =
      refused b (reads_no_list (there s at hs) (λ e. omega arith) (λ e. k (sym (kind s at) ∙ e)) (λ e. l (sym (kind s at) ∙ e)))

  pub member_owed : at < length s → at < room → get_or s at 0 ≡ 3 → Begun rest s room (at + 1) (value ∷ rest ∷ [])
  member_owed hs hr k = opened b (front_begins (there s at hs) (λ e. omega arith) (kind s at ∙ k))
