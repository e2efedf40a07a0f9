-- Members of a list, one after another: the bytes of a list that is being built, and what is left of get and put of each (1C) behind some members.
use Rattle.std.specs.Prelude.{◌≡◌, List, [], ◌∷◌, ◌++◌, length, get_or}
use Rattle.std.specs.Option.{unwrap_or}
use Rattle.std.proofs.Math.Path.{refl, sym, ap, ◌∙◌, fun_ext}
use Rattle.std.proofs.Math.Option.{Option, none, some}
use Rattle.std.proofs.Common.{append_assoc, append-nil}
use Prim.Native.Nat.{ℕ, suc, ◌+◌, ◌-◌}
use Rattle.std.proofs.Math.Decide.{dec_le}
use native.Mathlib.Omega.{arith}
use Rattle.std.proofs.Math.ListN.{take, get_elem?}
use Rattle.value.specs.Value.{Value, Values, list, nil, cons, encode, encodes, size, sizes}
use Rattle.shapes.specs.declared.Shape.{Shape}
use Rattle.shapes.specs.Parts.{middle_of}
use Rattle.shapes.proofs.PartsLaws.{shape}
use Rattle.rules.specs.Outcome.{when}
use Rattle.rules.specs.Semantics
use Rattle.rules.specs.Semantics.{two, rest_of}
use Rattle.rules.specs.Explain.{
  Exit,
  got,
  met,
  Explained,
  more,
  follow,
  next,
  wanted,
  give,
  ◌>>=◌,
  given,
  Cells,
  Getter,
  Putter,
  or_old,
  get_each,
  stood_for,
  put_each,
}

-- OUTCOMES

module _ {A : Type 0} where
  pub more-more : (i j : ℕ) (t : Exit A) → more i (more j t) ≡ more (i + j) t
  unfolding more
  more-more i j (got a s) = ap (got a) (omega arith)
  more-more i j (met y s) = ap (met y) (omega arith)

  pub more_none : (t : Exit A) → more 0 t ≡ t
  unfolding more
  more_none (got a s) = ap (got a) (omega arith)
  more_none (met y s) = ap (met y) (omega arith)

module _ {A B C : Type 0} (k : B → Explained C) where
  -- one after the other, and then a third
  bind_both : (left : ℕ) (f : A → Explained B) (t : Exit A)
      → follow (follow t (λ a s. f a (left - s))) (λ b s. k b (left - s)) ≡ follow t (λ a s. (f a >>= k) (left - s))
  unfolding next follow more
  bind_both left f (got a s) = go (f a (left - s))
    where
      go : (t : Exit B) → follow (more s t) (λ b n. k b (left - n)) ≡ more s (follow t (λ b n. k b (left - s - n)))
      go (got b n) = let z : left - (s + n) ≡ left - s - n = omega arith in rw z (sym (more-more s n (k b (left - s - n))))
      go (met y n) = refl
  bind_both left f (met y s) = refl

  pub bind_bind : (m : Explained A) (f : A → Explained B) → (m >>= f >>= k) ≡ (m >>= λ a. f a >>= k)
  unfolding next
  bind_bind m f = fun_ext λ left. bind_both left f (m left)

  pub given_bind : (c : ℕ) (o : Option A) (f : A → Explained B) → (given c o f >>= k) ≡ given c o (λ a. f a >>= k)
  unfolding wanted next follow
  given_bind c none f = refl
  given_bind c (some a) f = refl

module _ {A B : Type 0} where
  pub done_bind : (a : A) (f : A → Explained B) → (give a >>= f) ≡ f a
  unfolding next follow
  done_bind a f = fun_ext λ left. let z : left - 0 ≡ left = omega arith in rw z (more_none (f a left))

-- what comes behind two outcomes and two tests goes on at their end
module _ {A B C E F : Type 0} {D : A → B → C → Type 0} (m : Explained A) (n : A → Explained B) (c : ℕ) (o : A → B → Option C) (c' : ℕ)
    (q : (a : A) (b : B) (x : C) → Option (D a b x)) (f : (a : A) (b : B) (x : C) → D a b x → Explained E) (k : E → Explained F)
    {h : (a : A) (b : B) (x : C) → D a b x → Explained F} where
  through : ((a : A) (b : B) (x : C) (y : D a b x) → (f a b x y >>= k) ≡ h a b x y)
      → ((m >>= λ a. n a >>= λ b. given c (o a b) λ x. given c' (q a b x) (f a b x)) >>= k)
      ≡ (m >>= λ a. n a >>= λ b. given c (o a b) λ x. given c' (q a b x) (h a b x))
  through e = bind_bind k _ _ ∙ ap (λ (z : A → Explained F). m >>= z) (fun_ext λ a. bind_bind k _ _ ∙ ap (λ (z : B → Explained F). n a >>= z) (fun_ext λ b.
      given_bind k c _ _ ∙ ap (given c (o a b)) (fun_ext λ x. given_bind k c' _ _ ∙ ap (given c' (q a b x)) (fun_ext λ y. e a b x y))))

module _ {A : Type 0} where
  unchanged : (left : ℕ) (t : Exit A) → follow t (λ a _. got a 0) ≡ t
  unfolding follow more
  unchanged left (got a s) = ap (got a) (omega arith)
  unchanged left (met y s) = refl

  pub bind_done : (m : Explained A) → (m >>= λ a. give a) ≡ m
  unfolding next
  bind_done m = fun_ext λ left. unchanged left (m left)

-- A LIST THAT IS BEING BUILT: its members so far

-- with more behind them
unfoldable pub onto : List Value → Values → Values
onto [] l = l
onto (v ∷ vs) l = cons v (onto vs l)

-- their bytes, each behind its 03, and how many they are
unfoldable pub fronts : List Value → List ℕ
fronts [] = []
fronts (v ∷ vs) = 3 ∷ (encode v ++ fronts vs)

unfoldable pub front_sizes : List Value → ℕ
front_sizes [] = 0
front_sizes (v ∷ vs) = suc (size v + front_sizes vs)

pub onto_one : (vs : List Value) (w : Value) (l : Values) → onto (vs ++ w ∷ []) l ≡ onto vs (cons w l)
unfolding onto
onto_one [] w l = refl
onto_one (v ∷ vs) w l = ap (cons v) (onto_one vs w l)

pub fronts_one : (vs : List Value) (w : Value) → fronts (vs ++ w ∷ []) ≡ fronts vs ++ 3 ∷ encode w
unfolding fronts
fronts_one [] w = ap (λ (x : List ℕ). 3 ∷ x) (append-nil (encode w))
fronts_one (v ∷ vs) w = ap (λ (x : List ℕ). 3 ∷ x) (ap (λ (x : List ℕ). encode v ++ x) (fronts_one vs w)
    ∙ sym (append_assoc (encode v) (fronts vs) (3 ∷ encode w)))

pub onto_bytes : (vs : List Value) (l : Values) → encodes (onto vs l) ≡ fronts vs ++ encodes l
unfolding fronts onto encodes
onto_bytes [] l = refl
onto_bytes (v ∷ vs) l = ap (λ (x : List ℕ). 3 ∷ (encode v ++ x)) (onto_bytes vs l)
    ∙ ap (λ (x : List ℕ). 3 ∷ x) (sym (append_assoc (encode v) (fronts vs) (encodes l)))

pub onto_size : (vs : List Value) (l : Values) → sizes (onto vs l) ≡ front_sizes vs + sizes l
unfolding front_sizes onto sizes
onto_size [] l = omega arith
onto_size (v ∷ vs) l = omega (arith, onto_size vs l)

pub sizes_one : (vs : List Value) (w : Value) → front_sizes (vs ++ w ∷ []) ≡ front_sizes vs + suc (size w)
unfolding front_sizes
sizes_one [] w = omega arith
sizes_one (v ∷ vs) w = omega (arith, sizes_one vs w)

-- A LIST TAKEN APART, as the code does it: 03 where it has members, with the place where its rest starts, and another byte where it has none

pub front_rest : (l : Values) → get_or (encode (list l)) 0 0 ≡ 3 → (m : Value) × (r : Values) × (l ≡ cons m r)
unfolding encode encodes
front_rest nil e = absurd (omega arith)
front_rest (cons m r) e = (m, r, refl)

pub end_rest : (l : Values) → (get_or (encode (list l)) 0 0 ≡ 3 → ⊥) → l ≡ nil
unfolding encode encodes
end_rest nil n = refl
end_rest (cons m r) n = absurd (n refl)

-- how many bytes the first member of a list takes, with the 03 before it; 0 of an empty list
abbrev pub first_bytes_of : Shape → ℕ
first_bytes_of s = unwrap_or (middle_of s) 0

pub front_middle : (m : Value) (r : Values) → first_bytes_of (shape (list (cons m r))) ≡ 1 + size m
unfolding middle_of shape
front_middle m r = refl

-- GET BEHIND SOME MEMBERS: the list that they and what is got of the others make
unfoldable pub get_from : Getter → (root : ℕ) → Value → List Value → Values → Explained Value
get_from g root a vs l = get_each g root a (suc (front_sizes vs)) l >>= λ ws. give (list (onto vs ws))

-- how long the list is with one member more
longer : (vs : List Value) (w : Value) → suc (front_sizes vs) + suc (size w) ≡ suc (front_sizes (vs ++ w ∷ []))
longer vs w = omega (arith, sizes_one vs w)

module _ (g : Getter) (root : ℕ) (a : Value) (vs : List Value) where
  pub get_end : get_from g root a vs nil ≡ give (list (onto vs nil))
  unfolding get_from Semantics.get_each
  get_end = done_bind nil _

  pub get_member : (m : Value) (r : Values) → get_from g root a vs (cons m r)
      ≡ (g root (two m a) >>= λ w. given 44 (when (dec_le (suc (front_sizes vs) + suc (size w)) 256)) λ _. get_from g root a (vs ++ w ∷ []) r)
  unfolding get_from Semantics.get_each
  get_member m r = bind_bind _ _ _ ∙ ap (λ (f : Value → Explained Value). g root (two m a) >>= f) (fun_ext λ w. given_bind _ 44 _ _
      ∙ ap (given 44 (when (dec_le (suc (front_sizes vs) + suc (size w)) 256))) (fun_ext λ _. bind_bind _ _ _ ∙ rw (longer vs w)
      (ap (λ (f : Values → Explained Value). get_each g root a (suc (front_sizes (vs ++ w ∷ []))) r >>= f)
      (fun_ext λ ws. done_bind (cons w ws) _ ∙ rw onto_one))))

-- PUT OF ONE MEMBER, of n bytes with it: what it is then, and what was written
unfoldable pub put_member : Getter → Putter → (root d c : ℕ) → Value → (n : ℕ) → Values → Value → Cells → Explained (Value × Cells)
put_member g p root d c a n old v W =
    stood_for g d old >>= λ m. p root (two m a) (two (length W) c) v (W ++ none ∷ []) >>= λ X. given 42 (get_elem? X (length W)) λ o.
    given 44 (when (dec_le (n + suc (size (or_old o m))) 256)) λ _. give (or_old o m, take (length W) X)

-- PUT BEHIND SOME MEMBERS: they and what the others are then, and what was written
unfoldable pub put_from : Getter → Putter → (root d c : ℕ) → Value → List Value → Values → Values → Cells → Explained (Values × Cells)
put_from g p root d c a vs old l W = put_each g p root d c a (suc (front_sizes vs)) old l W >>= λ q. give (onto vs q.0, q.1)

module _ (g : Getter) (p : Putter) (root d c : ℕ) (a : Value) (old : Values) (W : Cells) where
  pub put_begin : (l : Values) → put_each g p root d c a 1 old l W ≡ put_from g p root d c a [] old l W
  unfolding put_from onto front_sizes
  put_begin l = sym (bind_done _)

  module _ (vs : List Value) where
    pub put_end : put_from g p root d c a vs old nil W ≡ give (onto vs nil, W)
    unfolding put_from Semantics.put_each
    put_end = done_bind (nil, W) _

    -- a member and then the others, as one
    unfoldable both_ways : (v : Value) (r : Values) → Explained (Values × Cells)
    both_ways v r =
        stood_for g d old >>= λ m. p root (two m a) (two (length W) c) v (W ++ none ∷ []) >>= λ X. given 42 (get_elem? X (length W)) λ o.
        given 44 (when (dec_le (suc (front_sizes vs) + suc (size (or_old o m))) 256)) λ _.
        put_from g p root d c a (vs ++ or_old o m ∷ []) (rest_of old) r (take (length W) X)

    pub put_member_lem : (v : Value) (r : Values) → put_from g p root d c a vs old (cons v r) W
        ≡ (put_member g p root d c a (suc (front_sizes vs)) old v W >>= λ q. put_from g p root d c a (vs ++ q.0 ∷ []) (rest_of old) r q.1)
    unfolding put_from put_member both_ways Semantics.put_each
    put_member_lem v r = ◌∙◌ {b = both_ways v r} (through _ _ 42 _ 44 _ _ _ λ m X o _. bind_bind _ _ _ ∙ rw (longer vs (or_old o m))
        (ap (λ (f : (Values × Cells) → Explained (Values × Cells)).
        put_each g p root d c a (suc (front_sizes (vs ++ or_old o m ∷ []))) (rest_of old) r (take (length W) X) >>= f)
        (fun_ext λ q. done_bind (cons (or_old o m) q.0, q.1) _ ∙ rw onto_one)))
        (sym (through _ _ 42 _ 44 _ _ _ λ m X o _. done_bind (or_old o m, take (length W) X) _))
