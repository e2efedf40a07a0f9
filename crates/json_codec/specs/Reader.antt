-- The reader's contracts: what a reading function answers, and what then holds of the text and of the bytes that it wrote.
use Rattle.std.specs.Prelude.{◌≡◌, Bool, true, false, not, cond, nat_eq, nat_lt, Some, None, ◌&&◌}
use Rattle.std.specs.Prelude.{ℕ, zero, suc, ◌+◌, ◌-◌, ◌*◌, ◌/◌, ◌%◌, ◌≤◌, ◌<◌, eqb, leb, drop}
use Rattle.std.proofs.Math.Path.{refl, ap}
use Rattle.std.proofs.Common.{sym, ◌∙◌, arith, add-one, lt-ltb, drop-drop, get_or-drop, eq-eqb, ne_eqb, le-leb, length-drop, drop_of_length-le, drop-cons}
use mathlib.Core.List.{List, [], ◌∷◌}
use Rattle.std.proofs.lemmas.Bool.{lt-leb, eqb-true}
use Rattle.std.specs.List.{starts_with, position}
use Rattle.std.specs.Char.{is_ascii_digit}
use Rattle.std.proofs.lemmas.List.{take_all}
use Rattle.std.proofs.lemmas.List.Quantifiers.{position-Some}
use Rattle.std.proofs.lemmas.List.Sums.{fails_before_first}
use Rattle.std.proofs.Math.Decide.{dec_le}
use Rattle.std.proofs.Math.ListN.{length, get_or, take as front}
use Rattle.value.specs.Value.{Value, least_wide, encode}
use Rattle.value.specs.Result.{Result, refusal}
use Rattle.report.specs.Writing.{Wrote, wrote_long, wrote_text, wrote_then}
use Rattle.notation.specs.Grammar.{Awaits, token, exactly, digits, word, name, numeral, white, is_digit, follows, largest_number, found}
use Rattle.notation.specs.Grammar.{or_digit, take, ends, run}
use Rattle.notation.specs.Reads.{Spaced, s_token}
use Rattle.notation.proofs.ReadsLaws.{black, run-white, run_take, run_byte, run_ended}
use Rattle.notation.proofs.Written.{in_digits_lem, may_follow}
use Rattle.notation.specs.Texts.{NoDigit, n_end, n_byte}
use Rattle.std.specs.Prelude.{Ok, Err}
use Rattle.std.specs.declared.result.Result.{Result as Outcome}
use Rattle.json_codec.specs.declared.Step.{Step}
use Rattle.refusal.specs.declared.Refusal.{Refusal}
use Rattle.refusal.specs.declared.Refusal.TheVariants.{JsonMalformed}
use Rattle.refusal.specs.Refusal.{number_of}
use Rattle.json_codec.specs.Steps.{Answer, done}

-- the byte at a place, and what stands behind it
pub at_byte : (s : List ℕ) (i : ℕ) {b : ℕ} → i < length s → get_or s i 0 ≡ b → drop i s ≡ b ∷ drop (i + 1) s
at_byte s i h e = rw (add-one, ← e) (drop-cons s i 0 h)

-- HOW FAR A FUNCTION IS: it began at a place where the text had to go on with w, is now at i, and the text has to go on with v; of every continuation
pub record On {K : Type 0} (w : K → Awaits) (s : List ℕ) (at i : ℕ) (v : K → Awaits) : Type 0 where
  pub later : at ≤ i
  pub inside : i ≤ length s
  pub goes : (k : K) → run (drop at s) (w k) ≡ run (drop i s) (v k)

-- or all is refused
abbrev pub Off : {K : Type 0} → (K → Awaits) → List ℕ → ℕ → ℕ → Type 0
Off w s at c = (k : _) → run (drop at s) (w k) ≡ refusal c

pub on_first : {K : Type 0} (w : K → Awaits) (s : List ℕ) (at : ℕ) → at ≤ length s → On w s at at w
on_first w s at h = record { later = omega arith; inside = h; goes = λ k. refl }

-- WHITE SPACE was passed from a place to r, and none stands there
pub record Skips (s : List ℕ) (at r : ℕ) : Type 0 where
  pub later : at ≤ r
  pub inside : r ≤ length s
  pub goes : (w : Awaits) → Spaced w → run (drop at s) w ≡ run (drop r s) w
  pub black : r < length s → white (get_or s r 0) ≡ false

-- so far
pub record Skipped (s : List ℕ) (at i : ℕ) : Type 0 where
  pub later : at ≤ i
  pub inside : i ≤ length s
  pub goes : (w : Awaits) → Spaced w → run (drop at s) w ≡ run (drop i s) w

pub not_yet : (s : List ℕ) (at : ℕ) → at ≤ length s → Skipped s at at
not_yet s at h = record { later = omega arith; inside = h; goes = λ w q. refl }

module _ {s : List ℕ} {at i : ℕ} (k : Skipped s at i) where
  pub one_more : i < length s → white (get_or s i 0) ≡ true → Skipped s at (i + 1)
  one_more h e = record {
    later = omega (arith, k.later);
    inside = omega arith;
    goes = λ w q. k.goes w q ∙ ap (λ (l : List ℕ). run l w) (at_byte s i h refl) ∙ run-white q (get_or s i 0) (drop (i + 1) s) e;
  }

  pub at_black : (i < length s → white (get_or s i 0) ≡ false) → Skips s at i
  at_black e = record { later = k.later; inside = k.inside; goes = k.goes; black = e }

-- one byte of it, and what stands behind that
pub skips_on : {s : List ℕ} {at r : ℕ} → at < length s → white (get_or s at 0) ≡ true → Skips s (at + 1) r → Skips s at r
skips_on {s} {at} h e p =
    let k = one_more (not_yet s at (omega arith)) h e in
    record { later = omega (arith, p.later); inside = p.inside; goes = λ w q. k.goes w q ∙ p.goes w q; black = p.black }

-- the bytes before the first that is none
pub skipped : (s : List ℕ) (at n : ℕ) → at + n ≤ length s → ((k : ℕ) → k < n → white (get_or s (at + k) 0) ≡ true) → Skipped s at (at + n)
skipped s at zero h w = let e : at + 0 ≡ at = omega arith in rw e (not_yet s at (omega arith))
skipped s at (suc n) h w =
    let e : at + suc n ≡ at + n + 1 = omega arith in
    rw e (one_more (skipped s at n (omega arith) (λ k l. w k (omega arith))) (omega arith) (w n (omega arith)))

flips : (b : Bool) {d : Bool} → not b ≡ d → b ≡ not d
flips true e = ap not e
flips false e = ap not e

-- all that stands behind a place
pub whole_rest : (s : List ℕ) (at : ℕ) → front (length s - at) (drop at s) ≡ drop at s
whole_rest s at = take_all (length s - at) (drop at s) (omega (arith, length-drop at s))

none_first : (m n : ℕ) → cond (nat_lt m n) (Some m) None ≡ None → n ≤ m
none_first m n e = go (dec_le n m)
  where
    go : Dec (n ≤ m) → n ≤ m
    go (yes h) = h
    go (no h) = let z = lt-ltb m n (omega arith) in let f : Some m ≡ None = rw z at e in cc

module _ {s : List ℕ} {at : ℕ} (h : at ≤ length s) where
  behind_white : (n : ℕ) → n ≤ length (drop at s) → ((k : ℕ) → k < n → not (white (get_or (drop at s) k 0)) ≡ false) → Skipped s at (at + n)
  behind_white n l w = skipped s at n (omega (arith, length-drop at s)) (λ k m. ap white (sym (get_or-drop at s k 0)) ∙ flips _ (w k m))

  -- the first byte that is none, or the end
  pub skips_to : {n : ℕ} → position (λ c. not (white c)) (front (length s - at) (drop at s)) ≡ Some n → Skips s at (at + n)
  skips_to {n} e =
      let p = position-Some (λ c. not (white c)) (drop at s) n 0 (rw (whole_rest s at) at e) in
      at_black (behind_white n (omega (arith, p.0)) p.2) (λ m. ap white (sym (get_or-drop at s n 0)) ∙ flips _ p.1)

  pub skips_all : position (λ c. not (white c)) (front (length s - at) (drop at s)) ≡ None → Skips s at (length s)
  skips_all e =
      let z : at + length (drop at s) ≡ length s = omega (arith, length-drop at s) in
      rw (← z) (at_black (behind_white (length (drop at s)) (omega arith)
      (λ k l. fails_before_first (λ c. not (white c)) (drop at s) k 0 (omega (arith, none_first _ _ (rw (whole_rest s at) at e)))))
      (λ m. absurd (omega (arith, length-drop at s))))

-- THE STEPS
module _ {K : Type 0} {w v : K → Awaits} {s : List ℕ} {at i : ℕ} (o : On w s at i v) where
  -- white space
  pub on_skip : {r : ℕ} → ((k : K) → Spaced (v k)) → Skips s i r → On w s at r v
  on_skip q p = record { later = omega (arith, o.later, p.later); inside = p.inside; goes = λ k. o.goes k ∙ p.goes (v k) (q k) }

  -- a byte that is no white space
  pub on_take : {x : K → Awaits} → i < length s → (b : ℕ) → get_or s i 0 ≡ b → white b ≡ false
      → ((k : K) (next : Awaits → Result Value) → take b next (v k) ≡ next (x k)) → On w s at (i + 1) x
  on_take h b e f g = record {
    later = omega (arith, o.later);
    inside = omega arith;
    goes = λ k. o.goes k ∙ ap (λ (l : List ℕ). run l (v k)) (at_byte s i h e) ∙ run_take b (drop (i + 1) s) (v k) f ∙ g k (run (drop (i + 1) s));
  }

  -- what stands there is read by another function
  pub on_then : {x : K → Awaits} {r : ℕ} → i ≤ r → r ≤ length s → ((k : K) → run (drop i s) (v k) ≡ run (drop r s) (x k)) → On w s at r x
  on_then h m g = record { later = omega (arith, o.later); inside = m; goes = λ k. o.goes k ∙ g k }

  -- it is refused there
  pub off_then : {c : ℕ} → Off v s i c → Off w s at c
  off_then f k = o.goes k ∙ f k

  pub off_take : {c : ℕ} → i < length s → (b : ℕ) → get_or s i 0 ≡ b → white b ≡ false
      → ((k : K) (next : Awaits → Result Value) → take b next (v k) ≡ refusal c) → Off w s at c
  off_take h b e f g =
      off_then (λ k. ap (λ (l : List ℕ). run l (v k)) (at_byte s i h e) ∙ run_take b (drop (i + 1) s) (v k) f ∙ g k (run (drop (i + 1) s)))

  pub off_end : length s ≤ i → ((k : K) → ends (v k) ≡ refusal 70) → Off w s at 70
  unfolding run
  off_end h g = off_then (λ k. ap (λ (l : List ℕ). run l (v k)) (drop_of_length-le s h) ∙ g k)

-- a byte that must stand there
module _ {K : Type 0} {w v : K → Awaits} {s : List ℕ} {at i c : ℕ} (o : On w s at i (λ k. exactly c (v k))) where
  pub on_byte : i < length s → get_or s i 0 ≡ c → On w s at (i + 1) v
  unfolding found
  on_byte h e = on_then o (omega arith) (omega arith) (λ k. ap (λ (l : List ℕ). run l (exactly c (v k))) (at_byte s i h e)
      ∙ run_byte c c (drop (i + 1) s) (v k) ∙ rw (eq-eqb c c refl))

  pub off_byte : i < length s → (get_or s i 0 ≡ c → ⊥) → Off w s at 70
  unfolding found
  off_byte h e = off_then o (λ k. ap (λ (l : List ℕ). run l (exactly c (v k))) (at_byte s i h refl)
      ∙ run_byte (get_or s i 0) c (drop (i + 1) s) (v k) ∙ rw (ne_eqb (get_or s i 0) c e))

-- A TOKEN OR MORE was passed, and the answer is the place behind it; or it does not stand there
pub record Passes (w : Awaits → Awaits) (s : List ℕ) (at : ℕ) (r : Outcome ℕ Refusal) : Type 0 where
  pub none : {e : Refusal} → r ≡ Err e → Off w s at (number_of e)
  pub some : {i : ℕ} → r ≡ Ok i → On w s at i (λ k. k)

pub passed : {w : Awaits → Awaits} {s : List ℕ} {at r : ℕ} → On w s at r (λ k. k) → Passes w s at (Ok r)
passed {r} o = record { none = λ e. cc; some = λ {i} e. let z : r ≡ i = cc in rw z at o }

pub refused_there : {w : Awaits → Awaits} {s : List ℕ} {at : ℕ} (c : Refusal) → Off w s at (number_of c) → Passes w s at (Err c)
refused_there c f = record { none = λ {e = d} e. let z : c ≡ d = cc in rw z at f; some = λ e. cc }

pub not_passed : {w : Awaits → Awaits} {s : List ℕ} {at : ℕ} → Off w s at 70 → Passes w s at (Err JsonMalformed)
not_passed f = refused_there JsonMalformed f

-- one byte, with white space before it
module _ {s : List ℕ} {at i c : ℕ} (h : at ≤ length s) (b : 0x20 < c) (p : Skips s at i) where
  before : On (token c) s at i (token c)
  before = on_skip (on_first (token c) s at h) (λ k. s_token) p

  pub token_ended : length s ≤ i → Passes (token c) s at (Err JsonMalformed)
  unfolding ends
  token_ended l = not_passed (off_end before l (λ k. refl))

  pub token_other : i < length s → (get_or s i 0 ≡ c → ⊥) → Passes (token c) s at (Err JsonMalformed)
  unfolding take found
  token_other l e = not_passed (off_take before l (get_or s i 0) refl (p.black l) (λ k next. rw (ne_eqb (get_or s i 0) c e)))

  pub token_there : i < length s → get_or s i 0 ≡ c → Passes (token c) s at (Ok (i + 1))
  unfolding take found
  token_there l e = passed (on_take before l c e (black c b) (λ k next. rw (eq-eqb c c refl)))

-- one byte, with none before it
module _ {s : List ℕ} {at : ℕ} (c : ℕ) (h : at ≤ length s) where
  pub exact_ended : length s ≤ at → Passes (exactly c) s at (Err JsonMalformed)
  unfolding ends
  exact_ended l = not_passed (off_end (on_first (exactly c) s at h) l (λ k. refl))

  pub exact_other : at < length s → (get_or s at 0 ≡ c → ⊥) → Passes (exactly c) s at (Err JsonMalformed)
  exact_other l e = not_passed (off_byte (on_first (exactly c) s at h) l e)

  pub exact_there : at < length s → get_or s at 0 ≡ c → Passes (exactly c) s at (Ok (at + 1))
  exact_there l e = passed (on_byte (on_first (exactly c) s at h) l e)

-- what another function passes
module _ {K : Type 0} {w : K → Awaits} {s : List ℕ} {at i : ℕ} {r : Outcome ℕ Refusal} {x : Awaits → Awaits} (v : K → Awaits) (o : On w s at i (λ k. x (v k)))
    (p : Passes x s i r) where
  pub on_passed : {j : ℕ} → r ≡ Ok j → On w s at j v
  on_passed e = let q = p.some e in on_then o q.later q.inside (λ k. q.goes (v k))

  pub off_passed : {c : Refusal} → r ≡ Err c → Off w s at (number_of c)
  off_passed e = off_then o (λ k. p.none e (v k))

-- BYTES THAT MUST STAND THERE

same_test : (b c : ℕ) → eqb b c ≡ nat_eq c b
same_test b c = go (eqb b c) refl
  where
    go : (d : Bool) → eqb b c ≡ d → eqb b c ≡ nat_eq c b
    go true e = e ∙ sym (eq-eqb c b (sym (eqb-true b c e)))
    go false e = e ∙ sym (ne_eqb c b (λ f. let q = eq-eqb b c (sym f) in cc))

-- those that the text begins with were passed, and any others are refused
word_run : (cs t : List ℕ) (k : Awaits) → run t (word cs k) ≡ cond (starts_with nat_eq t cs) (run (drop (length cs) t) k) (refusal 70)
unfolding word run ends found
word_run [] t k = refl
word_run (c ∷ cs) [] k = refl
word_run (c ∷ cs) (b ∷ t) k = run_byte b c t (word cs k) ∙ rw (same_test b c) (go (word_run cs t k) (nat_eq c b))
  where
    go : run t (word cs k) ≡ cond (starts_with nat_eq t cs) (run (drop (length cs) t) k) (refusal 70) → (d : Bool) → found b (run t) d (word cs k)
        ≡ cond (d && starts_with nat_eq t cs) (run (drop (length cs) t) k) (refusal 70)
    go e true = e
    go e false = refl

-- too few of them
or_refused : (b : ℕ) (next : Awaits → Result Value) (d : Bool) (w : Awaits) → next w ≡ refusal 70 → found b next d w ≡ refusal 70
unfolding found
or_refused b next true w e = e
or_refused b next false w e = refl

word_ended : (cs t : List ℕ) → length t < length cs → (k : Awaits) → run t (word cs k) ≡ refusal 70
unfolding word run ends
word_ended [] t h k = absurd (omega arith)
word_ended (c ∷ cs) [] h k = refl
word_ended (c ∷ cs) (b ∷ t) h k = run_byte b c t (word cs k) ∙ or_refused b (run t) (eqb b c) (word cs k) (word_ended cs t (omega arith) k)

pub word_short : (cs s : List ℕ) (i : ℕ) → length s - i < length cs → Off (word cs) s i 70
word_short cs s i h k = word_ended cs (drop i s) (rw length-drop h) k

module _ (cs : List ℕ) {s : List ℕ} {at : ℕ} (h : at ≤ length s) {r : Bool} (e : r ≡ starts_with nat_eq (front (length s - at) (drop at s)) cs) where
  pub spelled : length cs ≤ length (front (length s - at) (drop at s)) → r ≡ true → Passes (word cs) s at (Ok (at + length cs))
  spelled l t = passed record {
    later = omega arith;
    inside = omega (arith, rw (whole_rest s at) at l, length-drop at s);
    goes = λ k. word_run cs (drop at s) k ∙ rw (← (rw (whole_rest s at) at e), t, drop-drop (length cs) at s);
  }

  pub not_spelled : r ≡ false → Passes (word cs) s at (Err JsonMalformed)
  not_spelled t = not_passed (λ k. word_run cs (drop at s) k ∙ rw (← (rw (whole_rest s at) at e), t))

-- A MEMBER'S NAME
module _ (letter : ℕ) {s : List ℕ} {at : ℕ} {r : Outcome ℕ Refusal} (h : at ≤ length s) (p : Passes (token 0x22) s at r) where
  opening : On (name letter) s at at (λ k. token 0x22 (exactly letter (exactly 0x22 (token 0x3A k))))
  unfolding name word
  opening = on_first (name letter) s at h

  pub name_none : {c : Refusal} → r ≡ Err c → Passes (name letter) s at (Err c)
  name_none e = refused_there _ (off_passed (λ k. exactly letter (exactly 0x22 (token 0x3A k))) opening p e)

  module _ {i : ℕ} (e : r ≡ Ok i) where
    opened : On (name letter) s at i (λ k. exactly letter (exactly 0x22 (token 0x3A k)))
    opened = on_passed (λ k. exactly letter (exactly 0x22 (token 0x3A k))) opening p e

    pub name_inside : i ≤ length s
    name_inside = opened.inside

    module _ {u : Outcome ℕ Refusal} (q : Passes (exactly letter) s i u) where
      pub name_other : {c : Refusal} → u ≡ Err c → Passes (name letter) s at (Err c)
      name_other f = refused_there _ (off_passed (λ k. exactly 0x22 (token 0x3A k)) opened q f)

      module _ {j : ℕ} (f : u ≡ Ok j) where
        named : On (name letter) s at j (λ k. exactly 0x22 (token 0x3A k))
        named = on_passed (λ k. exactly 0x22 (token 0x3A k)) opened q f

        pub name_named : j ≤ length s
        name_named = named.inside

        module _ {v : Outcome ℕ Refusal} (x : Passes (exactly 0x22) s j v) where
          pub name_open : {c : Refusal} → v ≡ Err c → Passes (name letter) s at (Err c)
          name_open g = refused_there _ (off_passed (λ k. token 0x3A k) named x g)

          module _ {l : ℕ} (g : v ≡ Ok l) where
            closed : On (name letter) s at l (λ k. token 0x3A k)
            closed = on_passed (λ k. token 0x3A k) named x g

            pub name_closed : l ≤ length s
            name_closed = closed.inside

            pub name_passed : {t : Outcome ℕ Refusal} → Passes (token 0x3A) s l t → Passes (name letter) s at t
            name_passed y = record { none = λ e. off_passed (λ k. k) closed y e; some = λ e. on_passed (λ k. k) closed y e }

-- A THING WAS READ from a place on, and its bytes were written into the buffer b at place i: the answer has the places behind both; or its refusal
pub data Gives {A : Type 0} (w : (A → Awaits) → Awaits) (bytes : A → List ℕ) (s : List ℕ) (at i : ℕ) (b b' : List ℕ) : Answer → Type 0 where
  g_done : {e : Step} (a : A) → Wrote (bytes a) i b b' e.put → On w s at e.at (λ k. k a) → Gives w bytes s at i b b' (Ok e)
  g_refused : (c : Refusal) → length b' ≡ length b → Off w s at (number_of c) → Gives w bytes s at i b b' (Err c)

pub gives_long : {A : Type 0} {w : (A → Awaits) → Awaits} {bytes : A → List ℕ} {s : List ℕ} {at i : ℕ} {b b' : List ℕ} {r : Answer}
    → Gives w bytes s at i b b' r → length b' ≡ length b
gives_long (g_done a q o) = wrote_long q
gives_long (g_refused c l f) = l

pub gives_later : {A : Type 0} {w : (A → Awaits) → Awaits} {bytes : A → List ℕ} {s : List ℕ} {at i : ℕ} {b b' : List ℕ} {r : Answer} {n p : ℕ}
    → Gives w bytes s at i b b' r → r ≡ done n p → at ≤ n
gives_later {w} {bytes} {s} {at} {i} {b} {b'} {n} {p} g e = go (rw e at g)
  where
    go : Gives w bytes s at i b b' (done n p) → at ≤ n
    go (g_done a q o) = o.later

-- a thing that is read by another function, and made of what that gives
pub handed : {A B : Type 0} {w : (A → Awaits) → Awaits} {x : (B → Awaits) → Awaits} {bytes : A → List ℕ} {parts : B → List ℕ} {s : List ℕ} {at i put : ℕ}
    {b b' : List ℕ} {r : Answer} (make : B → A) → ((y : B) → parts y ≡ bytes (make y)) → On w s at i (λ k. x (λ y. k (make y)))
    → Gives x parts s i put b b' r → Gives w bytes s at put b b' r
handed make e o (g_done a q p) = g_done (make a) (wrote_text q (e a)) (on_then o p.later p.inside (λ k. p.goes (λ y. k (make y))))
handed make e o (g_refused c l f) = g_refused c l (off_then o (λ k. f (λ y. k (make y))))

-- A NUMBER'S BYTES
pub stored_small : {n i p q : ℕ} {b b₁ b₂ : List ℕ} → n < least_wide → Wrote (4 ∷ []) i b b₁ p → {t : List ℕ} → t ≡ n / 256 % 256 ∷ n % 256 ∷ []
    → Wrote t p b₁ b₂ q → Wrote (encode (numeral n)) i b b₂ q
unfolding numeral encode
stored_small {n} h x e y =
    let z : n / 256 % 256 ≡ n / 256 = omega arith in
    rw (lt-leb least_wide n h) (wrote_then x (wrote_text y (rw z at e)))

pub stored_wide : {n i p q r t u : ℕ} {b b₁ b₂ b₃ b₄ b₅ : List ℕ} → least_wide ≤ n → Wrote (6 ∷ []) i b b₁ p → Wrote (n / 256 / 256 / 256 ∷ []) p b₁ b₂ q
    → Wrote (n / 256 / 256 % 256 ∷ []) q b₂ b₃ r → Wrote (n / 256 % 256 ∷ []) r b₃ b₄ t → Wrote (n % 256 ∷ []) t b₄ b₅ u
    → Wrote (encode (numeral n)) i b b₅ u
unfolding numeral encode
stored_wide {n} h x y z v w = rw (le-leb least_wide n h) (wrote_then x (wrote_then y (wrote_then z (wrote_then v w))))

-- its four bytes at once
pub stored_four : {n i p q : ℕ} {b b₁ b₂ : List ℕ} → n ≤ largest_number → least_wide ≤ n → Wrote (6 ∷ []) i b b₁ p → {t : List ℕ}
    → t ≡ n / 16777216 % 256 ∷ n / 65536 % 256 ∷ n / 256 % 256 ∷ n % 256 ∷ [] → Wrote t p b₁ b₂ q → Wrote (encode (numeral n)) i b b₂ q
unfolding numeral encode
stored_four {n} m h x e y =
    let z : n / 16777216 % 256 ≡ n / 256 / 256 / 256 = omega arith in
    let f : n / 65536 % 256 ≡ n / 256 / 256 % 256 = omega arith in
    rw (le-leb least_wide n h) (wrote_then x (wrote_text y (rw (z, f) at e)))

pub and-false : (d : Bool) → d && false ≡ false
and-false true = refl
and-false false = refl

-- the digits that follow the first one: so far they make n, and the buffer is as it was
pub record Counted (s : List ℕ) (at first : ℕ) (b₀ b : List ℕ) (i n : ℕ) : Type 0 where
  pub on : On (digits first) s at i (digits n)
  pub most : n ≤ largest_number
  pub kept : b ≡ b₀

pub none_counted : (s : List ℕ) (at first : ℕ) (b : List ℕ) → at ≤ length s → first ≤ 9 → Counted s at first b b at first
none_counted s at first b h k = record { on = on_first (digits first) s at h; most = omega arith; kept = refl }

module _ {s : List ℕ} {at first : ℕ} {b₀ b : List ℕ} {i n : ℕ} (c : Counted s at first b₀ b i n) where
  -- the number has ended
  pub counted : NoDigit (drop i s) → {put p : ℕ} {b' : List ℕ} → Wrote (encode (numeral n)) put b b' p → Gives (digits first) encode s at put b₀ b' (done i p)
  counted d q = g_done (numeral n) (rw c.kept at q) (on_then c.on (omega arith) c.on.inside (λ k. run_ended d n k))

  pub ended_there : length s ≤ i → NoDigit (drop i s)
  ended_there h = rw (drop_of_length-le s h) n_end

  pub counted_all : length s ≤ i → {put p : ℕ} {b' : List ℕ}
      → Wrote (encode (numeral n)) put b b' p → Gives (digits first) encode s at put b₀ b' (done (length s) p)
  counted_all h q = let e : i ≡ length s = omega (arith, c.on.inside) in rw (← e) (counted (ended_there h) q)

  module _ (h : i < length s) where
    pub ended_other : {d : Bool} → d ≡ is_ascii_digit (get_or s i 0) → d ≡ false → NoDigit (drop i s)
    unfolding is_digit
    ended_other e f = rw (at_byte s i h refl) (n_byte {b = get_or s i 0} (sym e ∙ f))

    module _ (l : 48 ≤ get_or s i 0) (m : get_or s i 0 ≤ 57) where
      -- one more
      pub counted_more : (n ≡ 0 → ⊥) → 10 * n + (get_or s i 0 - 48) ≤ largest_number → Counted s at first b₀ b (i + 1) (10 * n + (get_or s i 0 - 48))
      unfolding take or_digit found
      counted_more e k = record {
        on = on_take c.on h (get_or s i 0) refl (black (get_or s i 0) (omega arith))
            (λ x next. rw (in_digits_lem (get_or s i 0) l m, may_follow n (get_or s i 0) (omega arith) k));
        most = k;
        kept = c.kept;
      }

      pub counted_over : (put : ℕ) → follows n (get_or s i 0) ≡ false → Gives (digits first) encode s at put b₀ b (Err JsonMalformed)
      unfolding take or_digit found
      counted_over put f = g_refused JsonMalformed (ap length c.kept) (off_take c.on h (get_or s i 0) refl (black (get_or s i 0) (omega arith))
          (λ x next. rw (in_digits_lem (get_or s i 0) l m, f)))

pub no_follow_zero : (n b : ℕ) → n ≡ 0 → follows n b ≡ false
unfolding follows
no_follow_zero n b e = rw e

pub no_follow_over : (n b : ℕ) → largest_number < 10 * n + (b - 48) → follows n b ≡ false
unfolding follows
no_follow_over n b h = rw (lt-leb (10 * n + (b - 48)) largest_number h) (and-false (leb 1 n))
