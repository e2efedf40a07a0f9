-- Laws of the tests on bytes: how far each looks (document 02, request 3), what it says to a whole value, and to a list that is cut.
use Rattle.std.specs.Prelude.{◌≡◌, refl, Ok, Err, Bool, true, false, List, [], ◌∷◌, ◌++◌, map, ℕ, zero, suc, ◌+◌, ◌≤◌, eqb, length, get_or, take, drop}
use Rattle.std.proofs.Common.{sym, ap, ◌∙◌, append-nil, append_assoc, zero-le, arith, one-add, length-append, take-append-drop, take-take}
use Rattle.std.proofs.Math.ListN.{get_or-map, get_or-eq_default}
use Rattle.std.proofs.lemmas.List.{get_or_at, take-append-le}
use Rattle.std.proofs.Math.Seq.{take-append-add}
use Rattle.value.specs.Value.{Value, Values, vfalse, vtrue, list, number, wide, pair, nil, cons, encode, encodes, size, sizes}
use Rattle.value.proofs.Encoding.{size-encode, size_pos, prefix}
use Rattle.value.specs.Tests.{class, table, holds}
use Rattle.shapes.specs.Needs.{past_first, need, Agrees}
use Rattle.value.specs.Reading.{Kind, Found, whole, malformed, too_long, value, nothing, a_value, kind_of, read_value}
use Rattle.value.specs.Laws.{Readable, Names, is0, is1, is2, is3, is4, is5, is6, is_other}
use Rattle.value.proofs.Laws.{readable_front, read_sound, names}
use Rattle.value.specs.Reader.{Read, outcome}
use Rattle.shapes.specs.Parts.{behind, number_in, shape_as, shape_of, kind_at, kind_behind, rest_kind, by_kinds, passes_bytes}
use Rattle.shapes.proofs.PartsLaws.{front_shape}
use Rattle.shapes.specs.declared.Shape.TheVariants.{Front, Pair}

-- a value's kind byte, and that of its rest
unfoldable rest_byte : Values → ℕ
rest_byte nil = 2
rest_byte (cons f r) = 3

unfoldable kinds : Value → ℕ × ℕ
kinds vfalse = (0, 255)
kinds vtrue = (1, 255)
kinds (list nil) = (2, 255)
kinds (list (cons f r)) = (3, rest_byte r)
kinds (number n) = (4, 255)
kinds (wide n) = (6, 255)
kinds (pair a b) = (5, 255)

-- the column of the table for a value, by its kind bytes
column : (v : Value) → map (λ row. get_or row (class v) false) table ≡ by_kinds (kinds v).0 (kinds v).1
unfolding class table kinds rest_byte by_kinds
column vfalse = refl
column vtrue = refl
column (list nil) = refl
column (list (cons f nil)) = refl
column (list (cons f (cons g r))) = refl
column (number n) = refl
column (wide n) = refl
column (pair a b) = refl

holds_by : (t : ℕ) (v : Value) → holds t v ≡ get_or (by_kinds (kinds v).0 (kinds v).1) t false
unfolding holds
holds_by t v = sym (get_or-map (λ row. get_or row (class v) false) table t []) ∙ ap (λ (l : List Bool). get_or l t false) (column v)

begins : (n : ℕ) (bs : List ℕ) {first : List ℕ} → take n bs ≡ first → bs ≡ first ++ drop n bs
begins n bs e = sym (take-append-drop n bs) ∙ ap (λ (l : List ℕ). l ++ drop n bs) e

kind_agrees : (v : Value) (bs : List ℕ) → take 1 bs ≡ take 1 (encode v) → kind_at bs 0 ≡ (kinds v).0
unfolding encode encodes kinds
kind_agrees v bs e = ap (λ (l : List ℕ). kind_at l 0) (begins 1 bs e) ∙ own v
  where
    own : (v : Value) → kind_at (take 1 (encode v) ++ drop 1 bs) 0 ≡ (kinds v).0
    own vfalse = refl
    own vtrue = refl
    own (list nil) = refl
    own (list (cons f r)) = refl
    own (number n) = refl
    own (wide n) = refl
    own (pair a b) = refl

-- bytes that begin with no list with members have no rest
pub rest_none : (v : List ℕ) → (kind_at v 0 ≡ 3 → ⊥) → 255 ≡ rest_kind v
unfolding rest_kind kind_behind shape_of shape_as number_in behind
rest_none [] h = refl
rest_none (b ∷ bs) h = go (names b) h
  where
    of_number : (l bs : List ℕ) → 255 ≡ kind_behind l (number_in bs)
    of_number l [] = refl
    of_number l (x ∷ []) = refl
    of_number l (x ∷ y ∷ bs) = refl

    of_pair : (l : List ℕ) (r : Read) → 255 ≡ kind_behind l (behind Pair r)
    of_pair l (Ok n) = refl
    of_pair l (Err e) = refl

    go : {b : ℕ} {k : Kind} → Names b k → (b ≡ 3 → ⊥) → 255 ≡ kind_behind (b ∷ bs) (shape_as bs k)
    go is0 h = refl
    go is1 h = refl
    go is2 h = refl
    go is3 h = absurd (h refl)
    go is4 h = of_number (4 ∷ bs) bs
    go is5 h = of_pair (5 ∷ bs) (outcome (read_value bs))
    go is6 h = refl
    go is_other h = refl

-- the byte that follows the first member is the kind byte of the rest
rest_front : {f : Value} → Readable f → (b : ℕ) (more : List ℕ) → rest_kind (3 ∷ (encode f ++ (b ∷ more))) ≡ b
unfolding rest_kind kind_behind
rest_front {f} h b more =
    ap (kind_behind (3 ∷ (encode f ++ (b ∷ more)))) (front_shape h (b ∷ more))
    ∙ rw one-add (get_or_at (encode f) b more 255 (size f) (size-encode f))

-- a list's bytes as far as that byte
first_bytes : (f : Value) (r : Values) → take (2 + size f) (encode (list (cons f r))) ≡ 3 ∷ (encode f ++ (rest_byte r ∷ []))
unfolding encode encodes rest_byte
first_bytes f r =
    let n : 2 + size f ≡ suc (length (encode f) + 1) = omega (arith, size-encode f) in
    rw n (ap (λ (l : List ℕ). 3 ∷ l) (take-append-add (encode f) (encodes r) 1 ∙ ap (λ (l : List ℕ). encode f ++ l) (first r)))
  where
    first : (r : Values) → take 1 (encodes r) ≡ rest_byte r ∷ []
    first nil = refl
    first (cons g r) = refl

rest_agrees : (v : Value) → Readable v → (bs : List ℕ) → take (past_first v) bs ≡ take (past_first v) (encode v) → rest_kind bs ≡ (kinds v).1
unfolding past_first kinds
rest_agrees vfalse h bs e = sym (rest_none bs (λ k. omega (arith, kind_agrees vfalse bs e)))
rest_agrees vtrue h bs e = sym (rest_none bs (λ k. omega (arith, kind_agrees vtrue bs e)))
rest_agrees (list nil) h bs e = sym (rest_none bs (λ k. omega (arith, kind_agrees (list nil) bs e)))
rest_agrees (list (cons f r)) h bs e =
    let b : bs ≡ 3 ∷ (encode f ++ (rest_byte r ∷ drop (2 + size f) bs)) = begins (2 + size f) bs (e ∙ first_bytes f r) ∙ rw append_assoc in
    ap rest_kind b ∙ rest_front (readable_front h).0 (rest_byte r) (drop (2 + size f) bs)
rest_agrees (number n) h bs e = sym (rest_none bs (λ k. omega (arith, kind_agrees (number n) bs e)))
rest_agrees (wide n) h bs e = sym (rest_none bs (λ k. omega (arith, kind_agrees (wide n) bs e)))
rest_agrees (pair a b) h bs e = sym (rest_none bs (λ k. omega (arith, kind_agrees (pair a b) bs e)))

-- bytes that agree with a value's as far as a test needs give the value's answer
pub passes_enough : (t : ℕ) (v : Value) → Readable v → (bs : List ℕ) → Agrees t v bs → passes_bytes t bs ≡ holds t v
unfolding passes_bytes by_kinds need
passes_enough t v h bs e = go t e ∙ sym (holds_by t v)
  where
    go : (t : ℕ) → Agrees t v bs → passes_bytes t bs ≡ get_or (by_kinds (kinds v).0 (kinds v).1) t false
    go zero e = refl
    go (suc zero) e = ap (λ (k : ℕ). eqb k 2) (kind_agrees v bs e)
    go (suc (suc zero)) e = ap (λ (k : ℕ). eqb k 3) (kind_agrees v bs e)
    go (suc (suc (suc zero))) e = ap (λ (k : ℕ). eqb k 0) (kind_agrees v bs e)
    go (suc (suc (suc (suc zero)))) e = ap (λ (k : ℕ). eqb k 1) (kind_agrees v bs e)
    go (suc (suc (suc (suc (suc zero))))) e = ap (λ (k : ℕ). eqb k 2) (rest_agrees v h bs e)
    go (suc (suc (suc (suc (suc (suc zero)))))) e = ap (λ (k : ℕ). eqb k 3) (rest_agrees v h bs e)
    go (suc (suc (suc (suc (suc (suc (suc t))))))) e = refl

-- no test needs more than the value's own bytes
pub need_inside : (t : ℕ) (v : Value) → need t v ≤ size v
unfolding need past_first size sizes
need_inside t v = go t
  where
    past : (v : Value) → past_first v ≤ size v
    past vfalse = omega arith
    past vtrue = omega arith
    past (list nil) = omega arith
    past (list (cons f r)) = omega (arith, size_pos (list r))
    past (number n) = omega arith
    past (wide n) = omega arith
    past (pair a b) = omega arith

    go : (t : ℕ) → need t v ≤ size v
    go zero = zero-le
    go (suc zero) = size_pos v
    go (suc (suc zero)) = size_pos v
    go (suc (suc (suc zero))) = size_pos v
    go (suc (suc (suc (suc zero)))) = size_pos v
    go (suc (suc (suc (suc (suc zero))))) = past v
    go (suc (suc (suc (suc (suc (suc zero)))))) = past v
    go (suc (suc (suc (suc (suc (suc (suc t))))))) = zero-le

-- so the bytes of a value, whatever stands behind them, give its answer
pub passes_encode : (t : ℕ) {v : Value} → Readable v → (more : List ℕ) → passes_bytes t (encode v ++ more) ≡ holds t v
passes_encode t {v} h more =
    passes_enough t v h (encode v ++ more) (take-append-le (need t v) (encode v) more (omega (arith, need_inside t v, size-encode v)))

pub passes_whole : (t : ℕ) {v : Value} → Readable v → passes_bytes t (encode v) ≡ holds t v
passes_whole t {v} h = passes_enough t v h (encode v) refl

-- and so do its bytes cut anywhere behind what the test needs
pub passes_first : (t : ℕ) {v : Value} → Readable v → (n : ℕ) → need t v ≤ n → passes_bytes t (take n (encode v)) ≡ holds t v
passes_first t {v} h n le = passes_enough t v h (take n (encode v)) (take-take (need t v) n (encode v) le)

-- of a first member whose bytes are cut, nothing is read but perhaps the whole member, and then no byte follows it
cut_rest : (f : Value) (n : ℕ) → n ≤ size f → rest_kind (3 ∷ take n (encode f)) ≡ 255
unfolding rest_kind kind_behind shape_of shape_as kind_of behind outcome
cut_rest f n le = go (read_value (take n (encode f))) refl
  where
    none_behind : (g : Value) (more : List ℕ) → take n (encode f) ≡ encode g ++ more → length more ≡ 0
    none_behind g more e =
        let all : encode f ++ [] ≡ encode g ++ (more ++ drop n (encode f)) = rw append-nil (begins n (encode f) e ∙ append_assoc (encode g) more _) in
        let z : 0 ≡ length (more ++ drop n (encode f)) = ap length (prefix f g [] (more ++ drop n (encode f)) all).1 in
        omega (arith, length-append more (drop n (encode f)))

    go : (x : Found (value ∷ [])) → read_value (take n (encode f)) ≡ x → kind_behind (3 ∷ take n (encode f)) (behind Front (outcome x)) ≡ 255
    go (whole (a_value g nothing) more) e =
        let s = (read_sound (take n (encode f)) e).0 in
        get_or-eq_default (3 ∷ take n (encode f)) 255 {n = 1 + size g}
        (omega (arith, ap length s, length-append (encode g) more, size-encode g, none_behind g more s))
    go malformed e = refl
    go too_long e = refl

-- a list with members cut anywhere behind its kind byte and before the byte that follows the first: tests 0 and 2 say yes, and no other
pub passes_cut : (t : ℕ) (f : Value) (r : Values) (n : ℕ) → n ≤ size f
    → passes_bytes t (take (suc n) (encode (list (cons f r)))) ≡ get_or (true ∷ false ∷ true ∷ []) t false
unfolding passes_bytes by_kinds encode encodes
passes_cut t f r n le =
    let c : take n (encode f ++ encodes r) ≡ take n (encode f) = take-append-le n (encode f) (encodes r) (omega (arith, size-encode f)) in
    ap (λ (l : List ℕ). passes_bytes t (3 ∷ l)) c ∙ ap (λ (k : ℕ). get_or (by_kinds 3 k) t false) (cut_rest f n le) ∙ go t
  where
    go : (t : ℕ) → get_or (by_kinds 3 255) t false ≡ get_or (true ∷ false ∷ true ∷ []) t false
    go zero = refl
    go (suc zero) = refl
    go (suc (suc zero)) = refl
    go (suc (suc (suc zero))) = refl
    go (suc (suc (suc (suc zero)))) = refl
    go (suc (suc (suc (suc (suc zero))))) = refl
    go (suc (suc (suc (suc (suc (suc zero)))))) = refl
    go (suc (suc (suc (suc (suc (suc (suc t))))))) = refl
