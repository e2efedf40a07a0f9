-- Laws of values taken apart: what the definitions on bytes say where the bytes are a value's.
use Rattle.std.specs.Prelude.{◌≡◌, refl, Bool, true, false, List, [], ◌∷◌, ◌++◌, ℕ, ◌+◌, ◌-◌, eqb}
use Rattle.std.proofs.Common.{sym, ap, ap₂, ◌∙◌, append-nil, one-add, le-leb, eqb-true, eq-eqb, take_at, drop_at}
use native.Mathlib.Omega.{arith}
use Rattle.std.proofs.Math.ListN.{length, length-append}
use Rattle.value.specs.Value.{Value, Values, vfalse, vtrue, list, number, wide, pair, nil, cons, encode, encodes, size}
use Rattle.value.specs.Encoding.{Opened, o_false, o_true, o_nil, o_cons, o_number, o_pair, o_wide}
use Rattle.value.proofs.Encoding.{size-encode, encode_injective, opened}
use Rattle.value.specs.Reading.{kind_of, read_value}
use Rattle.value.specs.Laws.{Readable}
use Rattle.value.proofs.Laws.{readable_front, readable_pair, read_back}
use Rattle.value.specs.Reader.{outcome}
use Rattle.shapes.specs.Parts.{
  behind,
  number_in,
  shape_as,
  shape_of,
  part_where,
  first_part,
  second_part,
  both,
  same_bytes,
}
use Rattle.shapes.specs.declared.Shape.{Shape}
use Rattle.shapes.specs.declared.Shape.TheVariants.{False, True, Empty, Front, Number, Pair, Wide, Malformed}

-- a value's shape
unfoldable pub shape : Value → Shape
shape vfalse = False
shape vtrue = True
shape (list nil) = Empty
shape (list (cons f r)) = Front (1 + size f)
shape (number n) = Number n
shape (wide n) = Wide
shape (pair a b) = Pair (1 + size a)

-- which of the shapes it is: two with different numbers are different
unfoldable pub which : Shape → ℕ
which False = 0
which True = 1
which Empty = 2
which (Front mid) = 3
which (Number n) = 4
which (Pair mid) = 5
which Wide = 6
which Malformed = 7

pub unlike : {s t : Shape} → (which s ≡ which t → ⊥) → s ≡ t → ⊥
unlike n e = n (ap which e)

behind_value : (two : ℕ → Shape) {v : Value} → Readable v → (x : List ℕ) {z : List ℕ} → encode v ++ x ≡ z
    → behind two (outcome (read_value z)) ≡ two (1 + size v)
unfolding behind outcome
behind_value two {v} h x e = ap (λ (l : List ℕ). behind two (outcome (read_value l))) (sym e) ∙ rw (read_back h x)

-- the bytes of a value, whatever stands behind them, have its shape
pub shape-encode : {v : Value} → Readable v → (more : List ℕ) → shape_of (encode v ++ more) ≡ shape v
unfolding shape_of shape_as kind_of shape number_in
shape-encode {v} h more = go h (opened v more refl)
  where
    go : {v : Value} {x l : List ℕ} → Readable v → Opened v x l → shape_of l ≡ shape v
    go h o_false = refl
    go h o_true = refl
    go h o_nil = refl
    go h (o_cons e) = behind_value Front (readable_front h).0 _ e
    go h (o_number {n} e) = rw (← e) (ap Number (omega arith))
    go h (o_wide e) = refl
    go h (o_pair e) = behind_value Pair (readable_pair h).0 _ e

pub shape_whole : {v : Value} → Readable v → shape_of (encode v) ≡ shape v
shape_whole {v} h = ap shape_of (sym (append-nil (encode v))) ∙ shape-encode h []

-- a list with members: the first alone decides where the rest starts
pub front_shape : {f : Value} → Readable f → (x : List ℕ) → shape_of (3 ∷ (encode f ++ x)) ≡ Front (1 + size f)
unfolding shape_of shape_as kind_of
front_shape h x = behind_value Front h x refl

-- the parts of a list with members and of a pair
module _ (k : ℕ) (a : Value) (x : List ℕ) where
  first_of : first_part (k ∷ (encode a ++ x)) (1 + size a) ≡ encode a
  unfolding first_part part_where
  first_of =
      let l : length (encode a ++ x) ≡ size a + length x = length-append (encode a) x ∙ rw size-encode in
      let s : 1 + size a - 1 ≡ size a = omega arith in
      rw (le-leb (1 + size a) (length (k ∷ (encode a ++ x))) (omega arith), s) (take_at (encode a) x (size a) (size-encode a))

  second_of : second_part (k ∷ (encode a ++ x)) (1 + size a) ≡ x
  second_of = rw one-add (drop_at (encode a) x (size a) (size-encode a))

pub first_of_list : (f : Value) (r : Values) → first_part (encode (list (cons f r))) (1 + size f) ≡ encode f
unfolding encode encodes
first_of_list f r = first_of 3 f (encodes r)

pub rest_of_list : (f : Value) (r : Values) → second_part (encode (list (cons f r))) (1 + size f) ≡ encode (list r)
unfolding encode encodes
rest_of_list f r = second_of 3 f (encodes r)

pub first_of_pair : (a b : Value) → first_part (encode (pair a b)) (1 + size a) ≡ encode a
unfolding encode
first_of_pair a b = first_of 5 a (encode b)

pub second_of_pair : (a b : Value) → second_part (encode (pair a b)) (1 + size a) ≡ encode b
unfolding encode
second_of_pair a b = second_of 5 a (encode b)

-- equal values are equal bytes
pub same_bytes_lem : (a b : List ℕ) → same_bytes a b ≡ true → a ≡ b
unfolding same_bytes both
same_bytes_lem [] [] e = refl
same_bytes_lem [] (y ∷ b) e = absurd (let z : ◌≡◌ {A = ℕ} 0 1 = cc in omega arith)
same_bytes_lem (x ∷ a) [] e = absurd (let z : ◌≡◌ {A = ℕ} 0 1 = cc in omega arith)
same_bytes_lem (x ∷ a) (y ∷ b) e = ap₂ ◌∷◌ (eqb-true x y (first (eqb x y) e)) (same_bytes_lem a b (second (eqb x y) e))
  where
    first : (c : Bool) → both c (same_bytes a b) ≡ true → c ≡ true
    first true h = refl
    first false h = h

    second : (c : Bool) → both c (same_bytes a b) ≡ true → same_bytes a b ≡ true
    second true h = h
    second false h = absurd (let z : ◌≡◌ {A = ℕ} 0 1 = cc in omega arith)

pub same_refl : (a : List ℕ) → same_bytes a a ≡ true
unfolding same_bytes both
same_refl [] = refl
same_refl (x ∷ a) = rw (eq-eqb x x refl) (same_refl a)

pub same_values : (v w : Value) → same_bytes (encode v) (encode w) ≡ true → v ≡ w
same_values v w e = encode_injective v w (same_bytes_lem (encode v) (encode w) e)

pub other_values : (v w : Value) → same_bytes (encode v) (encode w) ≡ false → v ≡ w → ⊥
other_values v w e d =
    let s : same_bytes (encode v) (encode w) ≡ true = ap (λ (u : Value). same_bytes (encode v) (encode u)) (sym d) ∙ same_refl (encode v) in
    let z : ◌≡◌ {A = ℕ} 0 1 = cc in
    omega arith
