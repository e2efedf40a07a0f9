-- Up to our limits: a walk of l levels under an allowance of a steps gives what a derivation of cost c asks, in as many steps as c
-- has nodes; or it is refused with 40 (depth), 41 (allowance) or 44 (size), and only where c is over that limit.
use Rattle.std.specs.Prelude.{◌≡◌, ℕ, suc, ◌≤◌, ◌<◌}
use Rattle.std.proofs.Math.Option.{Option, some}
use native.Mathlib.Omega.{arith}
use Rattle.std.proofs.Math.Decide.{dec_le}
use Rattle.value.specs.Value.{Value, size}
use Rattle.rules.specs.Outcome.{Out, done, refused, plus, steps, when, ◌>>=◌, given, choose}
use Rattle.rules.specs.Allowance.{within, cap}
use Rattle.published.specs.PublishedCost.{Cost, free, built, ◌⊕◌, entered}

-- what each limit's refusal shows of c
pub data Limit (l a : ℕ) (c : Cost) : ℕ → Type 0 where
  deep : l < c.height → Limit l a c 40
  spent : a < c.nodes → Limit l a c 41
  long : 256 < c.longest → Limit l a c 44

-- c has exactly s nodes, and is within l levels and 256 bytes
pub record Costs (l s : ℕ) (c : Cost) : Type 0 where
  pub levels : c.height ≤ l
  pub count : c.nodes ≡ s
  pub short : c.longest ≤ 256

-- Q of what was done; where it was refused, a limit
pub data UpTo {A : Type 0} (l a : ℕ) (c : Cost) (Q : A → Type 0) : Out A → Type 0 where
  reached : {x : A} {s : ℕ} → Costs l s c → Q x → UpTo l a c Q (done x s)
  limited : {n s : ℕ} → s ≤ c.nodes → Limit l a c n → UpTo l a c Q (refused n s)

-- o gives v
abbrev pub Comes : {A : Type 0} (l a : ℕ) → Cost → A → Out A → Type 0
Comes l a c v o = UpTo l a c (λ x. x ≡ v) o

module _ {l a : ℕ} where
  limit_left : {n : ℕ} (c d : Cost) → Limit l a c n → Limit l a (c ⊕ d) n
  limit_left c d (deep h) = deep (omega arith)
  limit_left c d (spent h) = spent (omega arith)
  limit_left c d (long h) = long (omega arith)

  limit_right : {n : ℕ} (c d : Cost) → Limit l a d n → Limit l a (c ⊕ d) n
  limit_right c d (deep h) = deep (omega arith)
  limit_right c d (spent h) = spent (omega arith)
  limit_right c d (long h) = long (omega arith)

  limit_as : {n : ℕ} (c d : Cost) → (c.height ≡ d.height) × (c.nodes ≡ d.nodes) × (c.longest ≤ d.longest) → Limit l a c n → Limit l a d n
  limit_as c d e (deep h) = deep (omega arith)
  limit_as c d e (spent h) = spent (omega arith)
  limit_as c d e (long h) = long (omega arith)

module _ {A : Type 0} {l a : ℕ} {c : Cost} {Q : A → Type 0} where
  -- `reached` and `limited` with their goal read first
  gives : {x : A} {s : ℕ} → Costs l s c → Q x → UpTo l a c Q (done x s)
  gives k q = reached k q

  pub stops : {n s : ℕ} → s ≤ c.nodes → Limit l a c n → UpTo l a c Q (refused n s)
  stops k h = limited k h

module _ {A : Type 0} {l a : ℕ} {c : Cost} {Q : A → Type 0} where
  -- another cost of the same height and nodes, whose values are no shorter, and within 256 bytes where those of c are
  pub up_as : {o : Out A} (d : Cost) → (c.height ≡ d.height) × (c.nodes ≡ d.nodes) × (c.longest ≤ d.longest) × (c.longest ≤ 256 → d.longest ≤ 256)
      → UpTo l a c Q o → UpTo l a d Q o
  up_as d e (reached k q) = gives (let z = e.3 k.short in omega arith) q
  up_as d e (limited k h) = stops (omega arith) (limit_as c d (e.0, e.1, e.2) h)

  pub up_map : {P : A → Type 0} {o : Out A} → UpTo l a c Q o → ((x : A) → Q x → P x) → UpTo l a c P o
  up_map (reached k q) f = reached k (f _ q)
  up_map (limited k h) f = limited k h

  pub up_within : {o : Out A} → UpTo l a c Q o → UpTo l a c Q (within a o)
  unfolding within cap steps
  up_within {o} h = go (dec_le (steps o) a)
    where
      few : {o : Out A} → UpTo l a c Q o → steps o ≤ c.nodes
      few (reached k q) = omega arith
      few (limited k h) = k

      go : (d : Dec (steps o ≤ a)) → UpTo l a c Q (cap {a = a} o d)
      go (yes k) = h
      go (no k) = let z = few h in stops (omega arith) (spent (omega arith))

  -- a node is entered
  pub up_enter : {o : Out A} → UpTo l a c Q o → UpTo (suc l) a (entered c) Q (plus 1 o)
  unfolding plus
  up_enter (reached k q) = gives (omega arith) q
  up_enter (limited k (deep h)) = stops (omega arith) (deep (omega arith))
  up_enter (limited k (spent h)) = stops (omega arith) (spent (omega arith))
  up_enter (limited k (long h)) = stops (omega arith) (long (omega arith))

  up_plus : {o : Out A} {s : ℕ} (d : Cost) → Costs l s d → UpTo l a c Q o → UpTo l a (d ⊕ c) Q (plus s o)
  unfolding plus
  up_plus d j (reached k q) = gives (omega arith) q
  up_plus d j (limited k h) = stops (omega arith) (limit_right d c h)

  pub up_costs : {x : A} {s : ℕ} → UpTo l a c Q (done x s) → Costs l s c
  up_costs (reached k q) = k

module _ {A : Type 0} {l a : ℕ} {Q : A → Type 0} where
  -- nothing is entered
  pub reach : {x : A} → Q x → UpTo l a free Q (done x 0)
  reach q = gives (omega arith) q

module _ {A B : Type 0} {l a : ℕ} {c d : Cost} {Q : B → Type 0} where
  pub up_bind : {P : A → Type 0} {m : Out A} (f : A → Out B) → UpTo l a c P m → ((x : A) → P x → UpTo l a d Q (f x)) → UpTo l a (c ⊕ d) Q (m >>= f)
  unfolding ◌>>=◌
  up_bind f (reached j p) k = up_plus c j (k _ p)
  up_bind f (limited j h) k = stops (omega arith) (limit_left c d h)

  pub comes_bind : {v : A} {m : Out A} (f : A → Out B) → Comes l a c v m → UpTo l a d Q (f v) → UpTo l a (c ⊕ d) Q (m >>= f)
  comes_bind f h k = up_bind f h λ x e. rw e k

module _ {A B : Type 0} {l a : ℕ} {c : Cost} {Q : B → Type 0} where
  -- nothing is entered after it
  pub up_last : {P : A → Type 0} {m : Out A} (f : A → Out B) → UpTo l a c P m → ((x : A) → P x → UpTo l a free Q (f x)) → UpTo l a c Q (m >>= f)
  up_last f h k = up_as c (omega arith) (up_bind f h k)

  pub comes_last : {v : A} {m : Out A} (f : A → Out B) → Comes l a c v m → UpTo l a free Q (f v) → UpTo l a c Q (m >>= f)
  comes_last f h k = up_last f h λ x e. rw e k

  pub up_given : {o : Option A} {x : A} (n : ℕ) (f : A → Out B) → o ≡ some x → UpTo l a c Q (f x) → UpTo l a c Q (given n o f)
  unfolding given
  up_given n f e h = rw e h

  pub up_when : {f : A → Out B} (n : ℕ) (d : Dec A) → A → ((x : A) → UpTo l a c Q (f x)) → UpTo l a c Q (given n (when d) f)
  unfolding given when
  up_when n (yes p) x k = k p
  up_when n (no p) x k = absurd (p x)

module _ {B : Type 0} {l a : ℕ} {c : Cost} {Q : B → Type 0} where
  -- over 256 bytes is a limit; n of them are part of what c builds
  pub up_bytes : (n : ℕ) {f : n ≤ 256 → Out B} → n ≤ c.longest → ((x : n ≤ 256) → UpTo l a c Q (f x)) → UpTo l a c Q (given 44 (when (dec_le n 256)) f)
  unfolding given when
  up_bytes n {f} h k = go (dec_le n 256)
    where
      go : (d : Dec (n ≤ 256)) → UpTo l a c Q (given 44 (when d) f)
      go (yes p) = k p
      go (no p) = stops (omega arith) (long (omega arith))

module _ {B : Type 0} {l a : ℕ} {c : Cost} {Q : B → Type 0} where
  pub up_size : (v : Value) {f : size v ≤ 256 → Out B} → ((x : size v ≤ 256) → UpTo l a c Q (f x))
      → UpTo l a (built v ⊕ c) Q (given 44 (when (dec_le (size v) 256)) f)
  up_size v k = up_bytes (size v) (omega arith) λ x. up_as (built v ⊕ c) (omega arith) (k x)

module _ {A P R : Type 0} {l a : ℕ} {c : Cost} {Q : A → Type 0} where
  pub up_first : (p : Dec P) (r : Dec R) {x : Out A} (y : Out A) → P → UpTo l a c Q x → UpTo l a c Q (choose p r x y)
  unfolding choose
  up_first (yes p) r y t h = h
  up_first (no p) r y t h = absurd (p t)

  pub up_second : (p : Dec P) (r : Dec R) (x : Out A) {y : Out A} → ¬ P → R → UpTo l a c Q y → UpTo l a c Q (choose p r x y)
  unfolding choose
  up_second (yes p) r x n t h = absurd (n p)
  up_second (no p) (yes r) x n t h = h
  up_second (no p) (no r) x n t h = absurd (r t)

-- o gives v in exactly as many steps as c has nodes, or a value is too long
pub data Exactly {A : Type 0} (c : Cost) (v : A) : Out A → Type 0 where
  exactly : Exactly c v (done v c.nodes)
  too_long : {s : ℕ} → 256 < c.longest → Exactly c v (refused 44 s)

-- and so it is where c is within the levels and the allowance
pub up_exactly : {A : Type 0} {l a : ℕ} {c : Cost} {v : A} {o : Out A} → Comes l a c v o → c.height ≤ l → c.nodes ≤ a → Exactly c v o
up_exactly (reached k q) h j = rw (q, ← k.count) exactly
up_exactly (limited k (deep d)) h j = absurd (omega arith)
up_exactly (limited k (spent d)) h j = absurd (omega arith)
up_exactly (limited k (long d)) h j = too_long d
