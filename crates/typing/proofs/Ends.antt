-- What holds of every outcome of the judging reading: of what was done, and of a refusal with the value that was judged.
use Rattle.std.specs.Prelude.{◌≡◌, Bool, [], ◌∷◌}
use Rattle.std.proofs.Math.Path.{refl}
use Rattle.std.proofs.Math.Option.{Option, none, some}
use Prim.Native.Nat.{ℕ, zero, suc, ◌-◌, ◌≤◌}
use Rattle.std.proofs.Common.{arith}
use Rattle.value.specs.Value.{Value, Values, list, number, wide, pair, nil, cons, truth}
use Rattle.value.specs.Views.{as_list, as_front, as_pair, as_number, as_truth}
use Rattle.node.specs.declared.Node.{Node}
use Rattle.node.specs.declared.Node.TheVariants.{Front, Add}
use Rattle.sheet.specs.Sheet.{Sheet}
use Rattle.rules.specs.Semantics.{on_list}
use Rattle.rules.specs.Explain.{Cause, own, barred}
use Rattle.rules.proofs.Laws.Outcomes.{as_number_lem}
use Rattle.typing.specs.Types.{Ty, truths, numbers, lists, pairs, Of, Each, is_false, is_true, is_list, is_number, is_wide, is_pair, is_nil, is_cons}
use Rattle.typing.specs.Fits.{node_of}
use Rattle.typing.specs.Judging.{Judged, has, lacks, Judging, more, below, entered, choice, follow, next, wanted}
use Rattle.typing.specs.Ends.{Always, Ends, ill, well, Inside, Plain, further, plain, Allowed, before, excused, itself, last, Excuse, empty_put}

module _ {A : Type 0} {R : Cause → Option Value → Type 0} {Q : A → Type 0} where
  pub gives : {a : A} → Q a → Always R Q (λ _. has a 0)
  gives q = record { at = λ left. well q }

  pub refuses : {y : Cause} {v : Option Value} → R y v → Always R Q (λ _. lacks y v 0)
  refuses r = record { at = λ left. ill r }

  ends_more : (s : ℕ) {t : Judged A} → Ends R Q t → Ends R Q (more s t)
  unfolding more
  ends_more s (well q) = well q
  ends_more s (ill r) = ill r

  pub always_list : {P : ℕ → Type 0} {t : Ty} {l : Values} {x : Judging A} {f : Value → Values → Judging A} → Each P t l → (l ≡ nil → Always R Q x)
      → ((v : Value) (r : Values) → Of P t v → Each P t r → Always R Q (f v r)) → Always R Q (on_list l x f)
  unfolding on_list
  always_list is_nil h k = h refl
  always_list (is_cons o e) h k = k _ _ o e

  ends_map : {S : Cause → Option Value → Type 0} {T : A → Type 0} {t : Judged A} → Ends R Q t → ((y : Cause) (v : Option Value) → R y v → S y v)
      → ((a : A) → Q a → T a) → Ends S T t
  ends_map (well q) r f = well (f _ q)
  ends_map (ill h) r f = ill (r _ _ h)

  pub always_map : {S : Cause → Option Value → Type 0} {T : A → Type 0} {m : Judging A} → Always R Q m → ((y : Cause) (v : Option Value) → R y v → S y v)
      → ((a : A) → Q a → T a) → Always S T m
  always_map h r f = record { at = λ left. ends_map (h.at left) r f }

module _ {A B : Type 0} {R : Cause → Option Value → Type 0} {P : A → Type 0} {Q : B → Type 0} where
  ends_follow : {t : Judged A} {f : A → ℕ → Judged B} → Ends R P t → ((a : A) (s : ℕ) → P a → Ends R Q (f a s)) → Ends R Q (follow t f)
  unfolding follow
  ends_follow (well p) j = ends_more _ (j _ _ p)
  ends_follow (ill r) j = ill r

  pub always_next : {m : Judging A} {f : A → Judging B} → Always R P m → ((a : A) → P a → Always R Q (f a)) → Always R Q (next m f)
  unfolding next
  always_next {m} {f} h j = record { at = λ left. ends_follow (h.at left) λ a s p. (j a p).at (left - s) }

module _ {A B : Type 0} {R : Cause → Option Value → Type 0} {Q : B → Type 0} where
  -- it is there
  pub there_is : (y : Cause) (v : Option Value) {o : Option A} {a : A} (f : A → Judging B) → o ≡ some a → Always R Q (f a) → Always R Q (wanted y v o f)
  unfolding wanted
  there_is y v f e h = rw e h

-- it may be missing, with a plain refusal
module _ {A B : Type 0} {sh : Sheet} {P : ℕ → Type 0} {nd : Node} {Q : B → Type 0} where
  pub asked : (y : Cause) (v : Option Value) (o : Option A) {f : A → Judging B} → Plain y.code → ((a : A) → Always (Inside sh P nd) Q (f a))
      → Always (Inside sh P nd) Q (wanted y v o f)
  unfolding wanted
  asked y v none c h = refuses (further (plain c))
  asked y v (some a) c h = h a

module _ {A C D : Type 0} {sh : Sheet} {P : ℕ → Type 0} {nd : Node} {Q : A → Type 0} where
  pub chosen : (p : Dec C) (q : Dec D) {x y : Judging A} → Always (Inside sh P nd) Q x → Always (Inside sh P nd) Q y
      → Always (Inside sh P nd) Q (choice p q x y)
  unfolding choice
  chosen (yes p) q h j = h
  chosen (no p) (yes q) h j = j
  chosen (no p) (no q) h j = refuses (further (plain (omega arith)))

-- a node that is entered
module _ {A : Type 0} {sh : Sheet} {P : ℕ → Type 0} {Q : A → Type 0} (n : ℕ) where
  below_ends : {t : Judged A} → Ends (Inside sh P (node_of sh n)) Q t → Ends (Allowed sh P) Q (below n t)
  unfolding below
  below_ends (well q) = well q
  below_ends (ill {y} (itself e x)) = ill {y = record { code = y.code; chain = n ∷ y.chain; first = y.first }} (excused {n = n} (rw e last) x)
  below_ends (ill (further (plain c))) = ill (plain c)
  below_ends (ill (further (excused l x))) = ill (excused (before l) x)

  pub enters : {m : Judging A} → Always (Inside sh P (node_of sh n)) Q m → Always (Allowed sh P) Q (entered n m)
  unfolding entered
  enters {m} h = record { at = go }
    where
      go : (left : ℕ) → Ends (Allowed sh P) Q (entered n m left)
      go zero = ill {y = barred 41 n} (plain (omega arith))
      go (suc left) = below_ends (h.at left)

-- WHAT A VALUE OF A TYPE IS SEEN AS
module _ {B : Type 0} {R : Cause → Option Value → Type 0} {P : ℕ → Type 0} {Q : B → Type 0} (y : Cause) (x : Option Value) where
  pub saw_list : {v : Value} {t : Ty} {f : ((l : Values) × (v ≡ list l)) → Judging B} → Of P (lists t) v
      → ((l : (l : Values) × (v ≡ list l)) → Each P t l.0 → Always R Q (f l)) → Always R Q (wanted y x (as_list v) f)
  unfolding wanted as_list
  saw_list (is_list h) k = k _ h

  pub saw_truth : {v : Value} {f : ((b : Bool) × (v ≡ truth b)) → Judging B} → Of P truths v
      → ((b : (b : Bool) × (v ≡ truth b)) → Always R Q (f b)) → Always R Q (wanted y x (as_truth v) f)
  unfolding wanted as_truth
  saw_truth is_false k = k _
  saw_truth is_true k = k _

  pub saw_pair : {v : Value} {a b : Ty} {f : ((u : Value) × (w : Value) × (v ≡ pair u w)) → Judging B} → Of P (pairs a b) v
      → ((c : (u : Value) × (w : Value) × (v ≡ pair u w)) → Of P a c.0 → Of P b c.1 → Always R Q (f c)) → Always R Q (wanted y x (as_pair v) f)
  unfolding wanted as_pair
  saw_pair (is_pair h j) k = k _ h j

-- an 06 is no number to add to
module _ {B : Type 0} {sh : Sheet} {P : ℕ → Type 0} {Q : B → Type 0} {m k : ℕ} where
  pub saw_number : (y : Cause) {v : Value} {f : ((n : ℕ) × (v ≡ number n) × (n ≤ 65535)) → Judging B} → y.chain ≡ []
      → ((w : ℕ) → P w → Excuse P (Add m k) y.code (some (wide w))) → Of P numbers v
      → ((n : (n : ℕ) × (v ≡ number n) × (n ≤ 65535)) → Always (Inside sh P (Add m k)) Q (f n))
      → Always (Inside sh P (Add m k)) Q (wanted y (some v) (as_number v) f)
  unfolding wanted as_number
  saw_number y {f} e c (is_number {n} h) j = let (z, q) = as_number_lem n h in there_is y _ f q (j (n, refl, z))
  saw_number y e c (is_wide p) j = refuses (itself e (c _ p))

-- nor is an empty list one to take apart
module _ {B : Type 0} {sh : Sheet} {P : ℕ → Type 0} {Q : B → Type 0} {m k : ℕ} where
  pub saw_front : {v : Value} {t : Ty} {f : ((u : Value) × (r : Values) × (v ≡ list (cons u r))) → Judging B} → Of P (lists t) v
      → ((c : (u : Value) × (r : Values) × (v ≡ list (cons u r))) → Of P t c.0 → Each P t c.1 → Always (Inside sh P (Front m k)) Q (f c))
      → Always (Inside sh P (Front m k)) Q (wanted (own 51 none) (some v) (as_front v) f)
  unfolding wanted as_front
  saw_front (is_list is_nil) j = refuses (itself refl empty_put)
  saw_front (is_list (is_cons h r)) j = j _ h r
