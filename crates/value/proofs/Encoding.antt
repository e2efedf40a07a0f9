-- Laws of the bytes of values: how many they are, and that no value's bytes begin another's.
use Rattle.std.specs.Prelude.{◌≡◌, refl, List, [], ◌∷◌, ◌++◌, ℕ, suc, ◌+◌, ◌/◌, ◌%◌, ◌≤◌, length}
use Rattle.std.proofs.Common.{sym, ap, ap₂, ◌∙◌, append_assoc, arith, length-append}
use Rattle.value.specs.Value.{Value, Values, vfalse, vtrue, list, number, wide, pair, nil, cons, encode, encodes, size, sizes, flat}
use Rattle.value.specs.Encoding.{Opened, o_cons, o_false, o_nil, o_number, o_pair, o_true, o_wide}

mutual
  unfolding encode encodes size sizes

  pub size-encode : (v : Value) → length (encode v) ≡ size v
  size-encode vfalse = refl
  size-encode vtrue = refl
  size-encode (list l) = size_encodes l
  size-encode (number n) = refl
  size-encode (wide n) = refl
  size-encode (pair a b) = ap suc (length-append (encode a) (encode b) ∙ ap₂ ◌+◌ (size-encode a) (size-encode b))

  pub size_encodes : (l : Values) → length (encodes l) ≡ sizes l
  size_encodes nil = refl
  size_encodes (cons v l) = ap suc (length-append (encode v) (encodes l) ∙ ap₂ ◌+◌ (size-encode v) (size_encodes l))

pub size_pos : (v : Value) → 1 ≤ size v
unfolding size sizes
size_pos vfalse = omega arith
size_pos vtrue = omega arith
size_pos (list nil) = omega arith
size_pos (list (cons f r)) = omega arith
size_pos (number n) = omega arith
size_pos (wide n) = omega arith
size_pos (pair a b) = omega arith

pub opened : (v : Value) (x : List ℕ) {l : List ℕ} → encode v ++ x ≡ l → Opened v x l
unfolding encode encodes
opened v x e = rw e at (go v x)
  where
    go : (v : Value) (x : List ℕ) → Opened v x (encode v ++ x)
    go vfalse x = o_false
    go vtrue x = o_true
    go (list nil) x = o_nil
    go (list (cons f r)) x = o_cons (sym (append_assoc (encode f) (encodes r) x))
    go (number n) x = o_number refl
    go (wide n) x = o_wide refl
    go (pair a b) x = o_pair (sym (append_assoc (encode a) (encode b) x))

mutual
  unfolding encode

  same_opened : (v : Value) {w : Value} {x y l : List ℕ} → Opened v x l → Opened w y l → (v ≡ w) × (x ≡ y)
  same_opened vfalse o_false o_false = (refl, refl)
  same_opened vtrue o_true o_true = (refl, refl)
  same_opened (list r) o p = same_lists r o p
  same_opened (number n) (o_number e) (o_number {n = m} e') =
      let h : n / 256 ≡ m / 256 = cc in
      let l : n % 256 ≡ m % 256 = cc in
      (ap number (omega arith), cc)
  same_opened (wide n) (o_wide e) (o_wide {n = m} e') =
      let h : n / 256 / 256 / 256 ≡ m / 256 / 256 / 256 = cc in
      let i : n / 256 / 256 % 256 ≡ m / 256 / 256 % 256 = cc in
      let j : n / 256 % 256 ≡ m / 256 % 256 = cc in
      let l : n % 256 ≡ m % 256 = cc in
      (ap wide (omega arith), cc)
  same_opened (pair a b) (o_pair e) (o_pair {a = c} {b = d} e') =
      let p = same_opened a (opened a _ e) (opened c _ e') in
      let q = same_opened b (opened b _ p.1) (opened d _ refl) in
      (ap₂ pair p.0 q.0, q.1)

  same_lists : (r : Values) {w : Value} {x y l : List ℕ} → Opened (list r) x l → Opened w y l → (list r ≡ w) × (x ≡ y)
  same_lists nil o_nil o_nil = (refl, refl)
  same_lists (cons f r) (o_cons e) (o_cons {f = g} {r = s} e') =
      let p = same_opened f (opened f _ e) (opened g _ e') in
      let q = same_lists r (opened (list r) _ p.1) (opened (list s) _ refl) in
      (cc, q.1)

-- no value's bytes begin another's
pub prefix : (v w : Value) (x y : List ℕ) → encode v ++ x ≡ encode w ++ y → (v ≡ w) × (x ≡ y)
prefix v w x y e = same_opened v (opened v x e) (opened w y refl)

pub encode_injective : (v w : Value) → encode v ≡ encode w → v ≡ w
encode_injective v w e = (prefix v w [] [] (ap (λ (l : List ℕ). l ++ []) e)).0

-- the bytes of several values
pub flat_append : (vs ws : List Value) → flat (vs ++ ws) ≡ flat vs ++ flat ws
unfolding flat
flat_append [] ws = refl
flat_append (v ∷ vs) ws = rw (flat_append vs ws, append_assoc)
