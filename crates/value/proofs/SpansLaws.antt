-- Laws of a plan's spans and a view's answer: what a success and a refusal say, and that each span is a value's bytes.
use Rattle.std.specs.Prelude.{◌≡◌, refl, List, [], ◌∷◌, ◌++◌, map, ℕ, zero, suc, ◌+◌, ◌-◌, ◌≤◌, ◌<◌, length, get_or, take, drop, replicate}
use Rattle.std.proofs.Common.{sym, ap₂, ◌∙◌, append_assoc, arith, le-leb, length-append, take_at, drop_at}
use Rattle.std.proofs.Math.Decide.{dec_le}
use Rattle.std.proofs.lemmas.Bool.{lt-leb}
use Rattle.std.proofs.Math.ListN.{length-map, get_or-append}
use Rattle.value.specs.Result.{ok, refusal}
use Rattle.value.proofs.Numbered.{Answered, numbered_ok, numbered_err}
use Rattle.value.specs.Value.{Value, vfalse, encode, size, flat}
use Rattle.value.proofs.Encoding.{size-encode}
use Rattle.value.specs.Reading.{read_plan, read_view}
use Rattle.value.proofs.Laws.{read_values_sound}
use Rattle.value.proofs.Progress.{starts-length}
use Rattle.value.specs.Spans.{places, starts, spans, within16, plan_of, spans_of, view_of}
use Rattle.value.specs.declared.Spans.{Spans}

-- read_plan: success
pub record PlanRead (k : ℕ) (bs : List ℕ) (t : Spans) : Type 0 where
  pub vs : List Value
  pub found : read_plan k bs ≡ ok vs
  pub spans_are : t ≡ spans vs
  pub few : k ≤ 16

plan_within : (k : ℕ) (bs : List ℕ) → k ≤ 16 → plan_of k bs ≡ read_plan k bs
unfolding plan_of within16
plan_within k bs h = rw (le-leb k 16 h)

plan_beyond : (k : ℕ) (bs : List ℕ) → 16 < k → plan_of k bs ≡ refusal 13
unfolding plan_of within16
plan_beyond k bs h = rw (lt-leb k 16 h)

pub plan_read : (k : ℕ) (bs : List ℕ) {t : Spans} → ok t ≡ spans_of k bs → PlanRead k bs t
unfolding spans_of
plan_read k bs {t} e = go (dec_le k 16)
  where
    p : Answered spans (plan_of k bs) t
    p = numbered_ok e

    go : Dec (k ≤ 16) → PlanRead k bs t
    go (yes h) = record { vs = p.value; found = sym (plan_within k bs h) ∙ p.found; spans_are = p.made; few = h }
    go (no h) = let z : refusal 13 ≡ ok p.value = sym (plan_beyond k bs (omega arith)) ∙ p.found in absurd (cc)

-- read_plan: a refusal is the definition's
pub plan_refused : (k : ℕ) (bs : List ℕ) {c : ℕ} → k ≤ 16 → refusal c ≡ spans_of k bs → read_plan k bs ≡ refusal c
unfolding spans_of
plan_refused k bs h q = sym (plan_within k bs h) ∙ numbered_err spans q

-- read_view: success, and a refusal
pub view_ok : (bs : List ℕ) → ok tt ≡ view_of bs → (v : Value) × (read_view bs ≡ ok (v ∷ []))
unfolding view_of
view_ok bs e = let p = numbered_ok e in one p.value p.found (read_values_sound 30 1 bs p.found).count
  where
    one : (vs : List Value) → read_view bs ≡ ok vs → length vs ≡ 1 → (v : Value) × (read_view bs ≡ ok (v ∷ []))
    one [] f l = absurd (omega arith)
    one (v ∷ []) f l = (v, f)
    one (v ∷ w ∷ vs) f l = absurd (omega arith)

pub view_refusal : (bs : List ℕ) {c : ℕ} → refusal c ≡ view_of bs → read_view bs ≡ refusal c
unfolding view_of
view_refusal bs q = numbered_err _ q

-- each span is a value's bytes, and stands within the plan
spanned : (x : List ℕ) (a : ℕ) (vs : List Value) (i : ℕ) → length x ≡ a → i < length vs →
    take (get_or (map size vs) i 0) (drop (get_or (starts a vs) i 0) (x ++ flat vs)) ≡ encode (get_or vs i vfalse)
unfolding starts flat
spanned x a [] i e h = absurd (omega arith)
spanned x a (v ∷ vs) zero e h = rw (drop_at x (encode v ++ flat vs) a e) (take_at (encode v) (flat vs) (size v) (size-encode v))
spanned x a (v ∷ vs) (suc i) e h =
    rw (← append_assoc) (spanned (x ++ encode v) (a + size v) vs i (length-append x (encode v) ∙ ap₂ ◌+◌ e (size-encode v)) (omega arith))

bounded : (a : ℕ) (vs : List Value) (i : ℕ) → i < length vs → get_or (starts a vs) i 0 + get_or (map size vs) i 0 ≤ a + length (flat vs)
unfolding starts flat
bounded a [] i h = absurd (omega arith)
bounded a (v ∷ vs) zero h = rw (length-append, size-encode) (omega arith)
bounded a (v ∷ vs) (suc i) h = rw (length-append, size-encode) (omega (arith, bounded (a + size v) vs i (omega arith)))

place_at : (l : List ℕ) (i : ℕ) → i < length l → get_or (places l) i 0 ≡ get_or l i 0
unfolding places
place_at l i h = get_or-append l (replicate (16 - length l) 0) 0 i h

module _ (vs : List Value) (i : ℕ) (h : i < length vs) where
  start_is : get_or (spans vs).starts i 0 ≡ get_or (starts 0 vs) i 0
  unfolding spans
  start_is = place_at (starts 0 vs) i (rw starts-length h)

  long_is : get_or (spans vs).lens i 0 ≡ get_or (map size vs) i 0
  unfolding spans
  long_is = place_at (map size vs) i (rw length-map h)

  pub len_is : get_or (spans vs).lens i 0 ≡ size (get_or vs i vfalse)
  len_is = long_is ∙ at vs i h
    where
      at : (vs : List Value) (i : ℕ) → i < length vs → get_or (map size vs) i 0 ≡ size (get_or vs i vfalse)
      at [] i h = absurd (omega arith)
      at (v ∷ vs) zero h = refl
      at (v ∷ vs) (suc i) h = at vs i (omega arith)

  pub span_is : take (get_or (spans vs).lens i 0) (drop (get_or (spans vs).starts i 0) (flat vs)) ≡ encode (get_or vs i vfalse)
  span_is = rw (start_is, long_is) (spanned [] 0 vs i refl h)

  pub span_inside : get_or (spans vs).starts i 0 + get_or (spans vs).lens i 0 ≤ length (flat vs)
  span_inside = rw (start_is, long_is) (omega (arith, bounded 0 vs i h))
