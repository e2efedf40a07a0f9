-- The writer's contracts: what a writing function answers, and what then stands in the buffer.
use Rattle.std.specs.Prelude.{◌≡◌, drop}
use Rattle.std.proofs.Math.Path.{refl, ap}
use Rattle.std.proofs.Common.{sym, ◌∙◌, arith, length-append, length-drop, drop-drop, drop_at, get_or-drop}
use mathlib.Core.List.{List, [], ◌∷◌, ◌++◌}
use Prim.Native.Nat.{ℕ, ◌+◌, ◌*◌, ◌≤◌, ◌<◌, max, zero-le}
use Rattle.std.proofs.Math.ListN.{length, get_or}
use Rattle.value.specs.Value.{Value, Values, vfalse, vtrue, list, number, wide, pair, nil, cons, encode, encodes, size, sizes}
use Rattle.value.proofs.Encoding.{size-encode, size_pos}
use Rattle.report.specs.Text.{decimal_of}
use Rattle.report.specs.Writing.{Wrote, wrote_long, wrote_text}
use Rattle.notation.specs.Text.{json_of, depth, depths}
use Rattle.std.specs.Prelude.{Err}
use Rattle.refusal.specs.declared.Refusal.{Refusal}
use Rattle.refusal.specs.declared.Refusal.TheVariants.{JsonDepth}
use Rattle.json_codec.specs.Steps.{Answer, done}

-- a text was written at place i, and `end` is the place behind the bytes that it was written from; or arrays and objects nest deeper than may be
pub data Puts (text : List ℕ) (deep levels end i : ℕ) (b b' : List ℕ) : Answer → Type 0 where
  p_done : {n p : ℕ} → n ≡ end → deep ≤ levels → Wrote text i b b' p → Puts text deep levels end i b b' (done n p)
  p_deep : {c : Refusal} → c ≡ JsonDepth → levels < deep → length b' ≡ length b → Puts text deep levels end i b b' (Err c)

pub puts_long : {text : List ℕ} {deep levels end i : ℕ} {b b' : List ℕ} {r : Answer} → Puts text deep levels end i b b' r → length b' ≡ length b
puts_long (p_done e h w) = wrote_long w
puts_long (p_deep e h l) = l

pub puts_end : {text : List ℕ} {deep levels end i : ℕ} {b b' : List ℕ} {r : Answer} {n p : ℕ} → Puts text deep levels end i b b' r → r ≡ done n p → n ≡ end
puts_end {text} {deep} {levels} {end} {i} {b} {b'} {n} {p} q e = go (rw e at q)
  where
    go : Puts text deep levels end i b b' (done n p) → n ≡ end
    go (p_done f h w) = f

-- WHAT STANDS IN THE BYTES, with `more` behind it: a value, a list, two values
pub record Held (v : List ℕ) (at : ℕ) (x : Value) (more : List ℕ) : Type 0 where
  pub bytes : drop at v ≡ encode x ++ more

pub record HeldList (v : List ℕ) (at : ℕ) (l : Values) (more : List ℕ) : Type 0 where
  pub bytes : drop at v ≡ encodes l ++ more

pub record HeldTwo (v : List ℕ) (at : ℕ) (a b : Value) (more : List ℕ) : Type 0 where
  pub bytes : drop at v ≡ encode a ++ (encode b ++ more)

-- one does
pub record Holds (v : List ℕ) (at : ℕ) : Type 0 where
  pub x : Value
  pub more : List ℕ
  pub held : Held v at x more

pub record HoldsList (v : List ℕ) (at : ℕ) : Type 0 where
  pub l : Values
  pub more : List ℕ
  pub held : HeldList v at l more

pub record HoldsTwo (v : List ℕ) (at : ℕ) : Type 0 where
  pub a : Value
  pub b : Value
  pub more : List ℕ
  pub held : HeldTwo v at a b more

-- a value that is neither a list nor a pair
pub record HoldsScalar (v : List ℕ) (at : ℕ) : Type 0 where
  pub holds : Holds v at
  pub no_nil : get_or v at 0 ≡ 2 → ⊥
  pub no_cons : get_or v at 0 ≡ 3 → ⊥
  pub no_pair : get_or v at 0 ≡ 5 → ⊥

-- whatever stands there, its text was written
pub record Writes (v : List ℕ) (at levels put : ℕ) (b b' : List ℕ) (r : Answer) : Type 0 where
  pub puts : (x : Value) (more : List ℕ) → Held v at x more → Puts (json_of x) (depth x) levels (at + size x) put b b' r

pub record WritesList (v : List ℕ) (at levels put : ℕ) (b b' : List ℕ) (r : Answer) : Type 0 where
  pub puts : (l : Values) (more : List ℕ) → HeldList v at l more → Puts (json_of (list l)) (depths l) levels (at + sizes l) put b b' r

pub record WritesTwo (v : List ℕ) (at levels put : ℕ) (b b' : List ℕ) (r : Answer) : Type 0 where
  pub puts : (a c : Value) (more : List ℕ) → HeldTwo v at a c more
      → Puts (json_of (pair a c)) (max (depth a) (depth c)) levels (at + (size a + size c)) put b b' r

-- THE FIRST BYTE
pub data Headed : Value → ℕ → Type 0 where
  h_false : Headed vfalse 0
  h_true : Headed vtrue 1
  h_nil : Headed (list nil) 2
  h_cons : {x : Value} {l : Values} → Headed (list (cons x l)) 3
  h_number : {n : ℕ} → Headed (number n) 4
  h_pair : {a b : Value} → Headed (pair a b) 5
  h_wide : {n : ℕ} → Headed (wide n) 6

headed : (x : Value) (more : List ℕ) → Headed x (get_or (encode x ++ more) 0 0)
unfolding encode encodes
headed vfalse more = h_false
headed vtrue more = h_true
headed (list nil) more = h_nil
headed (list (cons x l)) more = h_cons
headed (number n) more = h_number
headed (pair a b) more = h_pair
headed (wide n) more = h_wide

module _ {v : List ℕ} {at : ℕ} {x : Value} {more : List ℕ} (h : Held v at x more) where
  pub byte_at : (i : ℕ) → get_or v (at + i) 0 ≡ get_or (encode x ++ more) i 0
  byte_at i = sym (get_or-drop at v i 0) ∙ ap (λ (l : List ℕ). get_or l i 0) h.bytes

  pub kind_at : Headed x (get_or v at 0)
  kind_at = let z : at + 0 ≡ at = omega arith in rw (rw z at (byte_at 0)) (headed x more)

  pub inside : at + size x ≤ length v
  inside = omega (arith, ap length h.bytes, length-drop at v, length-append (encode x) more, size-encode x, size_pos x)

  pub behind : drop (at + size x) v ≡ more
  behind = sym (drop-drop (size x) at v) ∙ ap (drop (size x)) h.bytes ∙ drop_at (encode x) more (size x) (size-encode x)

-- A SCALAR

module _ {v : List ℕ} {at : ℕ} (q : HoldsScalar v at) where
  pub scalar_there : at < length v
  scalar_there = omega (arith, inside q.holds.held, size_pos q.holds.x)

  pub number_there : get_or v at 0 ≡ 4 → at + 3 ≤ length v
  unfolding size
  number_there e = go q.holds.held (rw e at (kind_at q.holds.held))
    where
      go : {x : Value} {more : List ℕ} → Held v at x more → Headed x 4 → at + 3 ≤ length v
      go h h_number = inside h

  module _ (f : get_or v at 0 ≡ 0 → ⊥) (t : get_or v at 0 ≡ 1 → ⊥) (n : get_or v at 0 ≡ 4 → ⊥) where
    must_be_wide : {x : Value} {k : ℕ} → Headed x k → get_or v at 0 ≡ k → (m : ℕ) × (x ≡ wide m)
    must_be_wide h_false e = absurd (f e)
    must_be_wide h_true e = absurd (t e)
    must_be_wide h_nil e = absurd (q.no_nil e)
    must_be_wide h_cons e = absurd (q.no_cons e)
    must_be_wide h_number e = absurd (n e)
    must_be_wide h_pair e = absurd (q.no_pair e)
    must_be_wide (h_wide {n = m}) e = (m, refl)

    pub wide_there : at + 5 ≤ length v
    unfolding size
    wide_there = let (m, e) = must_be_wide (kind_at q.holds.held) refl in omega (arith, inside q.holds.held, ap size e)

    pub put_wide : (levels put : ℕ) {b b' : List ℕ} {p : ℕ}
        → Wrote (decimal_of (65536 * (256 * get_or v (at + 1) 0 + get_or v (at + 2) 0) + (256 * get_or v (at + 3) 0 + get_or v (at + 4) 0))) put b b' p
        → Writes v at levels put b b' (done (at + 5) p)
    unfolding json_of depth size encode
    put_wide levels put {b} {b'} {p} w = record { puts = λ x more h. let (m, e) = must_be_wide (kind_at h) refl in go x more h m e }
      where
        go : (x : Value) (more : List ℕ) → Held v at x more → (m : ℕ) → x ≡ wide m → Puts (json_of x) (depth x) levels (at + size x) put b b' (done (at + 5) p)
        go x more h m e = rw e (p_done refl zero-le (wrote_text w (ap decimal_of (same (rw e at h)))))
          where
            same : Held v at (wide m) more
                → 65536 * (256 * get_or v (at + 1) 0 + get_or v (at + 2) 0) + (256 * get_or v (at + 3) 0 + get_or v (at + 4) 0) ≡ m
            same h = omega (arith, byte_at h 1, byte_at h 2, byte_at h 3, byte_at h 4)

module _ (v : List ℕ) (at levels put : ℕ) {b b' : List ℕ} {p : ℕ} where
  pub put_false : get_or v at 0 ≡ 0 → Wrote (0x66 ∷ 0x61 ∷ 0x6C ∷ 0x73 ∷ 0x65 ∷ []) put b b' p → Writes v at levels put b b' (done (at + 1) p)
  unfolding json_of depth size
  put_false e w = record { puts = λ x more h. go (rw e at (kind_at h)) }
    where
      go : {x : Value} → Headed x 0 → Puts (json_of x) (depth x) levels (at + size x) put b b' (done (at + 1) p)
      go h_false = p_done refl zero-le w

  pub put_true : get_or v at 0 ≡ 1 → Wrote (0x74 ∷ 0x72 ∷ 0x75 ∷ 0x65 ∷ []) put b b' p → Writes v at levels put b b' (done (at + 1) p)
  unfolding json_of depth size
  put_true e w = record { puts = λ x more h. go (rw e at (kind_at h)) }
    where
      go : {x : Value} → Headed x 1 → Puts (json_of x) (depth x) levels (at + size x) put b b' (done (at + 1) p)
      go h_true = p_done refl zero-le w

  pub put_number : get_or v at 0 ≡ 4 → Wrote (decimal_of (256 * get_or v (at + 1) 0 + get_or v (at + 2) 0)) put b b' p →
      Writes v at levels put b b' (done (at + 3) p)
  unfolding json_of depth size encode
  put_number e w = record { puts = λ x more h. go h (rw e at (kind_at h)) }
    where
      go : {x : Value} {more : List ℕ} → Held v at x more → Headed x 4 → Puts (json_of x) (depth x) levels (at + size x) put b b' (done (at + 3) p)
      go h (h_number {n}) =
          let z : 256 * get_or v (at + 1) 0 + get_or v (at + 2) 0 ≡ n = omega (arith, byte_at h 1, byte_at h 2) in
          p_done refl zero-le (wrote_text w (ap decimal_of z))
