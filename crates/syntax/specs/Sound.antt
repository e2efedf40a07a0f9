-- WHAT IS READ is nodes as they are met, each number in its range: for every text.
use Rattle.std.specs.Prelude.{◌≡◌, Bool, cond}
use Rattle.std.proofs.Math.Path.{refl}
use Rattle.std.proofs.Common.{ap, leb-true}
use Rattle.std.proofs.Math.Bool.{true, false}
use Rattle.std.proofs.Math.Option.{Option, none, some}
use mathlib.Core.List.{List, [], ◌∷◌}
use Prim.Native.Nat.{ℕ, suc, ◌+◌, ◌*◌, ◌-◌, ◌≤◌, ◌<◌}
use native.Mathlib.Omega.{arith}
use Rattle.std.proofs.Math.Dec.{leb}
use Rattle.std.proofs.Math.ListN.{length}
use Rattle.tokens.specs.Quoted.{bytes}
use Rattle.tokens.specs.Tokens.{Token, word, digits, hash, mark, first, rest, word_of, same}
use Rattle.syntax.specs.Reader.{Out, ok, fault, ◌>>=◌, Name, Scope, find, tests, is_name}
use Rattle.syntax.specs.Reader.{known, Valued, is, over, value, zero_first, valued, number, by_number, variable_by, variable, test_by, test}
use Rattle.syntax.specs.Reader.{behind}

-- what holds of all that is read
pub data After {A : Type 0} (Q : A → Type 0) : Out A → Type 0 where
  fine : {a : A} → Q a → After Q (ok a)
  bad : {c l i d : ℕ} → After Q (fault c l i d)

pub after : {A B : Type 0} {P : A → Type 0} {Q : B → Type 0} {e : Out A} (f : A → Out B) → After P e → ((a : A) → P a → After Q (f a)) → After Q (e >>= f)
unfolding ◌>>=◌
after f (fine {a} p) g = g a p
after f bad g = bad

pub any : {A : Type 0} (o : Out A) → After (λ (a : A). Unit {0}) o
any (ok a) = fine tt
any (fault c l i d) = bad

pub after_ok : {A : Type 0} {Q : A → Type 0} {o : Out A} {a : A} → After Q o → o ≡ ok a → Q a
after_ok {A} {Q} {a = a} (fine {a = b} q) e = rw (got_ok e) at q
  where
    got : Out A → A
    got (ok x) = x
    got (fault c l i d) = b

    got_ok : {x y : A} → ok x ≡ ok y → x ≡ y
    got_ok p = ap got p
after_ok {A} {Q} {a = a} (bad {c}) e = absurd (tag e)
  where
    tag_of : Out A → ℕ
    tag_of (ok x) = 0
    tag_of (fault c l i d) = 1

    tag : {c l i d : ℕ} {x : A} → fault c l i d ≡ ok x → ⊥
    tag p = let z = ap tag_of p in omega arith

pub after_cond : {A : Type 0} {Q : A → Type 0} (b : Bool) {x y : Out A} → (b ≡ true → After Q x) → (b ≡ false → After Q y) → After Q (cond b x y)
after_cond true f g = f refl
after_cond false f g = g refl

-- NUMBERS AND NAMES

pub find_below : (ns : List Name) (w : Name) {x : ℕ} → find ns w ≡ some x → x < length ns
unfolding find
find_below [] w e = absurd (none-some e)
  where
    is_some : Option ℕ → ℕ
    is_some none = 0
    is_some (some x) = 1

    none-some : {x : ℕ} → none ≡ some x → ⊥
    none-some e = let z = ap is_some e in omega arith
find_below (n ∷ ns) w {x} e = go (same n w) e (find_below ns w)
  where
    some_same : {a b : ℕ} → some a ≡ some b → a ≡ b
    some_same {a} e = ap (λ (o : Option ℕ). elim o [ none ↦ a | some y ↦ y ]) e

    go : (b : Bool) → cond b (some (length ns)) (find ns w) ≡ some x → (find ns w ≡ some x → x < length ns) → x < suc (length ns)
    go true e f = let z = some_same e in omega arith
    go false e f = omega (arith, f e)

abbrev Small : ℕ → Valued → Type 0
Small most (is v) = v ≤ most
Small most (over r) = Unit {0}

value_sound : (most v : ℕ) (ds : List ℕ) → v ≤ most → Small most (value most v ds)
unfolding value
value_sound most v [] h = h
value_sound most v (d ∷ ds) h = go (leb (10 * v + (d - 48)) most) refl (value_sound most (10 * v + (d - 48)) ds)
  where
    go : (b : Bool) → leb (10 * v + (d - 48)) most ≡ b → (10 * v + (d - 48) ≤ most → Small most (value most (10 * v + (d - 48)) ds))
        → Small most (cond b (value most (10 * v + (d - 48)) ds) (over (suc (length ds))))
    go true e f = f (leb-true _ most e)
    go false e f = tt

pub number_sound : (most detail left behind : ℕ) (ds : List ℕ) (b : Bool) → After (λ v. v ≤ most) (number most detail left behind ds b)
unfolding number
number_sound most detail left behind ds b = after_cond (zero_first ds) (λ e. bad) (λ e. go (value most 0 ds) (value_sound most 0 ds (omega arith)))
  where
    letter : (b : Bool) (v c l i d : ℕ) → v ≤ most → After (λ v. v ≤ most) (cond b (fault c l i d) (ok v))
    letter true v c l i d h = bad
    letter false v c l i d h = fine h

    go : (x : Valued) → Small most x → After (λ v. v ≤ most) (valued b left behind (length ds) detail x)
    go (is v) h = unfold valued in letter b v 93 left (behind + length ds) 62 h
    go (over r) h = unfold valued in bad

-- EXPRESSIONS

-- (so many names are in scope at most: the plan's, and two for each node that binds)
abbrev pub Few : Scope → ℕ → Type 0
Few sc n = length sc.names ≤ 16 + n

module _ (sc : Scope) (n : ℕ) (few : Few sc n) (h : n < 200) where
  variable_by_lem : (left : ℕ) (t : Token) → After (λ x. x < 256) (variable_by sc left t)
  unfolding variable_by by_number
  variable_by_lem left (word w) = after_cond (is_name w) (λ e. name (find sc.names w) refl) (λ e. bad)
    where
      name : (o : Option ℕ) → find sc.names w ≡ o → After (λ x. x < 256) (known o left sc.lost)
      name none e = unfold known in bad
      name (some x) e = let z : x < 256 = omega (arith, find_below sc.names w e) in unfold known in fine z
  variable_by_lem left (digits ds b) = bad
  variable_by_lem left (hash [] b) = bad
  variable_by_lem left (hash (d ∷ ds) b) = weaker (number_sound 255 64 left 1 (d ∷ ds) b)
    where
      weaker : {o : Out ℕ} → After (λ v. v ≤ 255) o → After (λ x. x < 256) o
      weaker (fine {a = v} p) = let z : v < 256 = omega arith in fine z
      weaker bad = bad
  variable_by_lem left (mark m) = bad

  pub variable_sound : (ts : List Token) → After (λ x. x.0 < 256) (variable sc ts)
  unfolding variable
  variable_sound ts = after _ (variable_by_lem (length ts) (first ts)) (λ x p. fine p)

pub test_sound : (bare after' : ℕ) (ts : List Token) → After (λ x. x.0.0 ≤ 6) (test bare after' ts)
unfolding test
test_sound bare after' ts = after_cond (same (word_of (first ts)) (bytes "with")) (λ e. by (find tests (word_of (first (rest ts)))) refl)
    (λ e. fine (omega arith))
  where
    by : (o : Option ℕ) → find tests (word_of (first (rest ts))) ≡ o → After (λ x. x.0.0 ≤ 6) (test_by o (length (rest ts)) (rest (rest ts)) after')
    by none e = unfold test_by in bad
    by (some t) e = let z : t ≤ 6 = omega (arith, find_below tests (word_of (first (rest ts))) e) in unfold test_by in fine z
