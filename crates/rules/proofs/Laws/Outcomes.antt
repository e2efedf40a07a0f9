-- Rules for outcomes: what holds after one walk and the next, so that a proof reads like the definition it is about.
use Rattle.std.specs.Prelude.{◌≡◌, ℕ, ◌+◌, ◌≤◌}
use Rattle.std.proofs.Math.Path.{refl}
use Rattle.std.proofs.Common.{ap, arith}
use Rattle.std.proofs.Math.Option.{Option, none, some}
use Rattle.std.proofs.Math.Decide.{dec_le}
use Rattle.value.specs.Value.{Value, Values, number, nil, cons}
use Rattle.value.specs.Views.{as_number, if_small}
use Rattle.rules.specs.Outcome.{Out, done, refused, plus, when, ◌>>=◌, given, choose}
use Rattle.rules.specs.Counting.{on_list}
use Rattle.rules.specs.Laws.Outcomes.{After, finished, stopped, DoneWithin}

module _ {A : Type 0} {R : Type 0} where
  -- `finished` with its goal read first
  pub fine : {Q : A → ℕ → Type 0} {a : A} {s : ℕ} → Q a s → After R Q (done a s)
  fine q = finished q

  pub after_map : {P Q : A → ℕ → Type 0} {o : Out A} → After R P o → ((a : A) (s : ℕ) → P a s → Q a s) → After R Q o
  after_map (finished p) f = finished (f _ _ p)
  after_map (stopped r) f = stopped r

  pub after_plus : {Q : A → ℕ → Type 0} {o : Out A} (s : ℕ) → After R (λ a t. Q a (s + t)) o → After R Q (plus s o)
  unfolding plus
  after_plus s (finished q) = finished q
  after_plus s (stopped r) = stopped r

  pub after_at : {Q : A → ℕ → Type 0} {a : A} {s : ℕ} → After R Q (done a s) → Q a s
  after_at (finished q) = q

  pub after_any : (o : Out A) → R → After R (λ _ _. Unit {0}) o
  after_any (done a s) r = finished tt
  after_any (refused c s) r = stopped r

pub gives_out : {A : Type 0} {o : Out A} {a : A} {s : ℕ} → DoneWithin o a s → (t : ℕ) × (o ≡ done a t) × (t ≤ s)
gives_out (finished {s = t} p) = (t, ap (λ x. done x t) p.0, p.1)
gives_out (stopped r) = absurd r

pub after_out : {A : Type 0} {Q : A → ℕ → Type 0} {o : Out A} → After ⊥ Q o → (a : A) × (t : ℕ) × (o ≡ done a t) × Q a t
after_out (finished {a} {s} q) = (a, s, refl, q)
after_out (stopped r) = absurd r

pub gives_of : {A : Type 0} {o : Out A} {a : A} {s : ℕ} → o ≡ done a s → DoneWithin o a s
gives_of e = rw e (fine (refl, omega arith))

pub gives_le : {A : Type 0} {o : Out A} {a : A} {s t : ℕ} → DoneWithin o a s → s ≤ t → DoneWithin o a t
gives_le h k = after_map h λ a u p. (p.0, omega arith)

module _ {A B : Type 0} {R : Type 0} where
  pub after_bind : {P : A → ℕ → Type 0} {Q : B → ℕ → Type 0} {m : Out A} {f : A → Out B} → After R P m
      → ((a : A) (s : ℕ) → m ≡ done a s → P a s → After R (λ b t. Q b (s + t)) (f a)) → After R Q (m >>= f)
  unfolding ◌>>=◌
  after_bind (finished p) k = after_plus _ (k _ _ refl p)
  after_bind (stopped r) k = stopped r

module _ {A B : Type 0} where
  pub gives_bind : {m : Out A} {a : A} {s : ℕ} {Q : B → ℕ → Type 0} (f : A → Out B) → DoneWithin m a s
      → ((t : ℕ) → t ≤ s → After ⊥ (λ b u. Q b (t + u)) (f a)) → After ⊥ Q (m >>= f)
  gives_bind f h k = after_bind h (λ b t _ p. rw p.0 (k t p.1))

  pub after_given : {Q : B → ℕ → Type 0} {o : Option A} {f : A → Out B} (c : ℕ)
      → ((a : A) → o ≡ some a → After (Unit {0}) Q (f a)) → After (Unit {0}) Q (given c o f)
  unfolding given
  after_given {o = none} c k = stopped tt
  after_given {o = some a} c k = k a refl

  pub given-some : {R : Type 0} {Q : B → ℕ → Type 0} {o : Option A} {a : A} (c : ℕ) (f : A → Out B) → o ≡ some a → After R Q (f a) → After R Q (given c o f)
  unfolding given
  given-some c f e h = rw e h

  pub given-when : {R : Type 0} {Q : B → ℕ → Type 0} {f : A → Out B} (c : ℕ) (d : Dec A) → A → ((a : A) → After R Q (f a)) → After R Q (given c (when d) f)
  unfolding given when
  given-when c (yes p) a k = k p
  given-when c (no p) a k = absurd (p a)

  -- a test that says yes
  pub given_yes : (c : ℕ) (d : Dec A) {x : Out B} → A → given c (when d) (λ _. x) ≡ x
  unfolding given when
  given_yes c (yes p) a = refl
  given_yes c (no p) a = absurd (p a)

  -- and one that says no
  pub given_not : (c : ℕ) (d : Dec A) (f : A → Out B) → (A → ⊥) → given c (when d) f ≡ refused c 0
  unfolding given when
  given_not c (yes p) f n = absurd (n p)
  given_not c (no p) f n = refl

module _ {A P Q : Type 0} {S : A → ℕ → Type 0} {x y : Out A} where
  pub after_choose : (p : Dec P) (q : Dec Q) → (P → After (Unit {0}) S x) → (Q → After (Unit {0}) S y) → After (Unit {0}) S (choose p q x y)
  unfolding choose
  after_choose (yes p) q h k = h p
  after_choose (no p) (yes q) h k = k q
  after_choose (no p) (no q) h k = stopped tt

module _ {A P Q R : Type 0} {S : A → ℕ → Type 0} {x : Out A} where
  pub choose_first : (p : Dec P) (q : Dec Q) (y : Out A) → P → After R S x → After R S (choose p q x y)
  unfolding choose
  choose_first (yes p) q y t h = h
  choose_first (no p) q y t h = absurd (p t)

module _ {A R : Type 0} {Q : A → ℕ → Type 0} where
  pub after_list : (l : Values) {x : Out A} {k : Value → Values → Out A} → (l ≡ nil → After R Q x)
      → ((f : Value) (r : Values) → l ≡ cons f r → After R Q (k f r)) → After R Q (on_list l x k)
  unfolding on_list
  after_list nil h hc = h refl
  after_list (cons f r) h hc = hc f r refl

-- a number of kind 04 is seen as one
pub as_number_lem : (n : ℕ) → n ≤ 65535 → (k : n ≤ 65535) × (as_number (number n) ≡ some (n, refl, k))
unfolding as_number if_small
as_number_lem n h = go (dec_le n 65535)
  where
    go : (d : Dec (n ≤ 65535)) → (k : n ≤ 65535) × (if_small n d ≡ some (n, refl, k))
    go (yes k) = (k, refl)
    go (no k) = absurd (k h)

module _ {B R : Type 0} {Q : B → ℕ → Type 0} (n : ℕ) where
  pub given-number : (c : ℕ) (f : (m : ℕ) × (number n ≡ number m) × (m ≤ 65535) → Out B) → n ≤ 65535
      → ((k : n ≤ 65535) → After R Q (f (n, refl, k))) → After R Q (given c (as_number (number n)) f)
  given-number c f h k = let (z, e) = as_number_lem n h in given-some c f e (k z)
