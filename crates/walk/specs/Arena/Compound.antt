-- A value made of two: a list of a first member and a rest (kind 3), or a pair (kind 5).
use Rattle.std.specs.Prelude.{◌≡◌, refl, true, false, ◌∷◌, ◌++◌, ℕ, ◌+◌, eqb, get_or}
use Rattle.std.proofs.Math.Option.{Option, none, some, map}
use Rattle.std.proofs.Common.{arith}
use Rattle.value.specs.Value.{Value, Values, vfalse, vtrue, list, number, wide, pair, nil, cons, encode, encodes, size, sizes, Encodable, e_pair}
use Rattle.value.specs.Views.{as_list}
use Rattle.value.proofs.Laws.{encodable_front}
use Rattle.rules.specs.Semantics.{mk_list, mk_pair}
use Rattle.rules.specs.Explain.{wanted, Explained, given}
use Rattle.decisions.specs.Decisions.{unfit_rest}

unfoldable pub maker : ℕ → Value → Value → Option Value
maker k = elim (eqb k 3) [ true ↦ mk_list | false ↦ mk_pair ]

-- by its kind byte
pub data Made (k : ℕ) : Type 0 where
  a_list : k ≡ 3 → Made k
  a_pair : k ≡ 5 → Made k

pub record Whole (k : ℕ) (x y : Value) : Type 0 where
  pub value : Value
  pub is : maker k x y ≡ some value
  pub bytes : encode value ≡ k ∷ (encode x ++ encode y)
  pub long : size value ≡ 1 + size x + size y
  pub encodable : Encodable value

whole_list : (x y : Value) → unfit_rest 3 (get_or (encode y) 0 0) ≡ false → Encodable x → Encodable y → Whole 3 x y
unfolding maker mk_list as_list encode encodes size sizes unfit_rest
whole_list x vfalse e f g = absurd (let z : ◌≡◌ {A = ℕ} 0 1 = cc in omega arith)
whole_list x vtrue e f g = absurd (let z : ◌≡◌ {A = ℕ} 0 1 = cc in omega arith)
whole_list x (list l) e f g = record { value = list (cons x l); is = refl; bytes = refl; long = omega arith; encodable = encodable_front f g }
whole_list x (number n) e f g = absurd (let z : ◌≡◌ {A = ℕ} 0 1 = cc in omega arith)
whole_list x (wide n) e f g = absurd (let z : ◌≡◌ {A = ℕ} 0 1 = cc in omega arith)
whole_list x (pair a b) e f g = absurd (let z : ◌≡◌ {A = ℕ} 0 1 = cc in omega arith)

whole_pair : (x y : Value) → Encodable x → Encodable y → Whole 5 x y
unfolding maker mk_pair encode size
whole_pair x y f g = record { value = pair x y; is = refl; bytes = refl; long = omega arith; encodable = e_pair f g }

-- the second is fit for it, by its kind byte
pub whole : {k : ℕ} (x y : Value) → Made k → unfit_rest k (get_or (encode y) 0 0) ≡ false → Encodable x → Encodable y → Whole k x y
whole x y (a_list e) n f g = rw e (whole_list x y (rw e at n) f g)
whole x y (a_pair e) n f g = rw e (whole_pair x y f g)

none_list : (x y : Value) → unfit_rest 3 (get_or (encode y) 0 0) ≡ true → maker 3 x y ≡ none
unfolding maker mk_list as_list encode encodes unfit_rest
none_list x vfalse e = refl
none_list x vtrue e = refl
none_list x (list nil) e = absurd (let z : ◌≡◌ {A = ℕ} 0 1 = cc in omega arith)
none_list x (list (cons f r)) e = absurd (let z : ◌≡◌ {A = ℕ} 0 1 = cc in omega arith)
none_list x (number n) e = refl
none_list x (wide n) e = refl
none_list x (pair a b) e = refl

-- it is not
pub no_whole : {k : ℕ} (x y : Value) → Made k → unfit_rest k (get_or (encode y) 0 0) ≡ true → maker k x y ≡ none
unfolding unfit_rest
no_whole x y (a_list e) n = rw e (none_list x y (rw e at n))
no_whole x y (a_pair e) n = absurd (let q = rw e at n in let z : ◌≡◌ {A = ℕ} 0 1 = cc in omega arith)

-- what is given of a list that is made, or of its rest
pub given-list : {B : Type 0} (x y : Value) (f : Value → Explained B) → given 43 (as_list y) (λ l. f (list (cons x l.0))) ≡ given 43 (maker 3 x y) f
unfolding maker mk_list map wanted
given-list x y f = go (as_list y)
  where
    go : (o : Option ((l : Values) × (y ≡ list l))) → given 43 o (λ l. f (list (cons x l.0))) ≡ given 43 (map (λ l. list (cons x l.0)) o) f
    go none = refl
    go (some l) = refl

pub given_pair : {B : Type 0} (x y : Value) (f : Value → Explained B) → f (pair x y) ≡ given 43 (maker 5 x y) f
unfolding maker mk_pair wanted
given_pair x y f = refl
