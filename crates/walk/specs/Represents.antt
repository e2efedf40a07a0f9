-- What an answer says of an outcome under an allowance: rules that follow the definitions of get and put step by step.
use Rattle.std.specs.Prelude.{◌≡◌, refl}
use Rattle.std.proofs.Math.Path.{ap}
use Rattle.std.proofs.Common.{◌∙◌}
use Rattle.std.proofs.Math.Option.{Option, none, some}
use Prim.Native.Nat.{ℕ, zero, suc, ◌+◌, ◌-◌, ◌<◌}
use native.Mathlib.Omega.{arith}
use Rattle.rules.specs.Outcome.{when}
use Rattle.rules.specs.Explain.{
  Cause,
  Exit as Outcome,
  got,
  met,
  Explained,
  own,
  barred,
  more,
  below,
  entered,
  follow,
  next,
  wanted,
  within,
  give,
  ◌>>=◌,
  given,
}
use Rattle.walk.specs.Decoded.{Decoded, Done, Refused, Own, after, beneath}
use Rattle.walk.specs.Members.{more-more}

-- the answer r serves the outcome: with its steps, and P of what was done and of where the answer says that it stands; or it is its refusal
pub data Matches {A : Type 0} (P : (start len : ℕ) → A → Type 0) (r : Decoded) : Outcome A → Type 0 where
  serves : {v : A} {start len n : ℕ} → r ≡ Done start len n → P start len v → Matches P r (got v n)
  denies : {y : Cause} {s : ℕ} → r ≡ Refused y → Matches P r (met y s)

pub record Represents {A : Type 0} (P : (start len : ℕ) → A → Type 0) (r : Decoded) (left : ℕ) (o : Explained A) : Type 0 where
  pub told : Matches P r (within left o)

-- o under `left` is p under left', once k steps are taken
pub record StepsTo {A : Type 0} (left : ℕ) (o : Explained A) (k left' : ℕ) (p : Explained A) : Type 0 where
  pub is : within left o ≡ more k (within left' p)

module _ {A : Type 0} {P : (start len : ℕ) → A → Type 0} where
  -- steps that were taken before
  told_after : (k : ℕ) {q r : Decoded} {o : Outcome A} → Matches P q o → r ≡ after k q → Matches P r (more k o)
  unfolding more after
  told_after k (serves e p) d = serves (d ∙ ap (after k) e) p
  told_after k (denies e) d = denies (d ∙ ap (after k) e)

  -- a node that was entered
  told_below : (x : ℕ) {q r : Decoded} {o : Outcome A} → Matches P q o → r ≡ beneath x q → Matches P r (below x o)
  unfolding below beneath
  told_below x (serves e p) d = serves (d ∙ ap (beneath x) e) p
  told_below x (denies e) d = denies (d ∙ ap (beneath x) e)

  module _ {r : Decoded} {left : ℕ} where
    pub answer_by : {o p : Explained A} → Represents P r left o → p ≡ o → Represents P r left p
    answer_by t e = rw e t

    -- done at once, or refused at once
    pub finish : {v : A} {start len : ℕ} → r ≡ Done start len 0 → P start len v → Represents P r left (give v)
    finish e p = record { told = serves e p }

    pub refuse : {y : Cause} → r ≡ Refused y → Represents P r left (λ _. met y 0)
    refuse e = record { told = denies e }

    -- a call's answer is the answer
    pub as_done : {o : Explained A} {v : A} {start len n : ℕ} → within left o ≡ got v n → r ≡ Done start len n → P start len v → Represents P r left o
    as_done e q p = record { told = rw e (serves q p) }

    -- k steps were taken, and what is left is answered
    pub steps_to : {o p : Explained A} {k left' : ℕ} {q : Decoded} → StepsTo left o k left' p → Represents P q left' p → r ≡ after k q → Represents P r left o
    steps_to {k = k} e t d = record { told = rw e.is (told_after k t.told d) }

    pub as_refused : {o : Explained A} {y : Cause} {s : ℕ} → within left o ≡ met y s → r ≡ Refused y → Represents P r left o
    as_refused e q = record { told = rw e (denies q) }

    module _ {B : Type 0} where
      -- one call was done in k steps, and then the rest
      pub then_done : (m : Explained B) (f : B → Explained A) {v : B} {k : ℕ} {q : Decoded} → within left m ≡ got v k → Represents P q (left - k) (f v)
          → r ≡ after k q
          → Represents P r left (m >>= f)
      unfolding next follow
      then_done m f {v} {k} e t d = record { told = rw e (told_after k t.told d) }

      -- it was refused
      pub then_refused : (m : Explained B) (f : B → Explained A) {y : Cause} {s : ℕ} → within left m ≡ met y s → r ≡ Refused y → Represents P r left (m >>= f)
      unfolding next follow
      then_refused m f e d = record { told = rw e (denies d) }

      pub give_some : (c : ℕ) (f : B → Explained A) {o : Option B} {b : B} → o ≡ some b → Represents P r left (f b) → Represents P r left (given c o f)
      unfolding wanted
      give_some c f e t = rw e t

      pub give_none : (c : ℕ) (f : B → Explained A) {o : Option B} → o ≡ none → r ≡ Own c → Represents P r left (given c o f)
      unfolding wanted
      give_none c f e d = rw e (refuse d)

      -- for the sake of a test
      when_yes : (y : Cause) (p : Dec B) (f : B → Explained A) → B → ((b : B) → Represents P r left (f b)) → Represents P r left (wanted y (when p) f)
      unfolding wanted when
      when_yes y (yes b) f _ k = k b
      when_yes y (no n) f b k = absurd (n b)

      when_no : (y : Cause) (p : Dec B) (f : B → Explained A) → (B → ⊥) → r ≡ Refused y → Represents P r left (wanted y (when p) f)
      unfolding wanted when
      when_no y (yes b) f n d = absurd (n b)
      when_no y (no n) f _ d = refuse d

      pub give_yes : (c : ℕ) (p : Dec B) (f : B → Explained A) → B → ((b : B) → Represents P r left (f b)) → Represents P r left (given c (when p) f)
      give_yes c p f b k = when_yes (own c none) p f b k

      pub give_no : (c : ℕ) (p : Dec B) (f : B → Explained A) → (B → ⊥) → r ≡ Own c → Represents P r left (given c (when p) f)
      give_no c p f n d = when_no (own c none) p f n d

      -- for the sake of what the node w wrote
      pub clash_yes : (w : ℕ) (p : Dec B) (f : B → Explained A) → B → ((b : B) → Represents P r left (f b))
          → Represents P r left (wanted (own 54 (some w)) (when p) f)
      clash_yes w p f b k = when_yes (own 54 (some w)) p f b k

      pub clash_no : (w : ℕ) (p : Dec B) (f : B → Explained A) → (B → ⊥) → r ≡ Refused (own 54 (some w))
          → Represents P r left (wanted (own 54 (some w)) (when p) f)
      clash_no w p f n d = when_no (own 54 (some w)) p f n d

    -- a node is entered: its step is paid
    pub step : (x : ℕ) (o : Explained A) {q : Decoded} → 0 < left → Represents P q (left - 1) o → r ≡ beneath x q → Represents P r left (entered x o)
    unfolding entered
    step x o {q} h t d = record { told = go left h t.told }
      where
        go : (n : ℕ) → 0 < n → Matches P q (within (n - 1) o) → Matches P r (entered x o n)
        go zero h t = absurd (omega arith)
        go (suc n) h t = let z : suc n - 1 ≡ n = omega arith in told_below x (rw z at t) d

    pub no_step : (x : ℕ) (o : Explained A) → left ≡ 0 → r ≡ Refused (barred 41 x) → Represents P r left (entered x o)
    unfolding entered
    no_step x o e d = record { told = rw e (denies d) }

-- a test that says yes
pub given_so : {A B : Type 0} (c : ℕ) (p : Dec B) (o : Explained A) → B → given c (when p) (λ _. o) ≡ o
unfolding wanted when
given_so c (yes b) o _ = refl
given_so c (no n) o b = absurd (n b)

-- WHAT IS LEFT OF AN OUTCOME

module _ {A : Type 0} {left left' i : ℕ} {o p : Explained A} (e : StepsTo left o i left' p) where
  -- nothing is left to do
  pub steps_to_done : {v : A} → p ≡ give v → within left o ≡ got v i
  unfolding more
  steps_to_done {v} x = let z : i + 0 ≡ i = omega arith in e.is ∙ ap (λ (q : Explained A). more i (within left' q)) x ∙ ap (got v) z

  -- a call was refused
  pub steps_to_refused : {B : Type 0} (m : Explained B) (f : B → Explained A) {y : Cause} {s : ℕ} → p ≡ (m >>= f) → within left' m ≡ met y s
      → within left o ≡ met y (i + s)
  unfolding next follow more
  steps_to_refused m f x d = e.is ∙ ap (λ (q : Explained A). more i (within left' q)) x
      ∙ ap (λ (t : Outcome _). more i (follow t (λ z s. f z (left' - s)))) d

module _ {A B : Type 0} where
  -- one call more was done, in k steps
  pub then_steps_to : {left left' i j k : ℕ} {o p n : Explained A} (m : Explained B) (f : B → Explained A) {v : B} → StepsTo left o i left' p → p ≡ (m >>= f)
      → within left' m ≡ got v k → f v ≡ n → i + k ≡ j → StepsTo left o j (left' - k) n
  unfolding next follow
  then_steps_to {left' = left'} {i = i} {k = k} {n = n} m f e x d y z = record {
    is = e.is ∙ ap (λ (q : Explained A). more i (within left' q)) x ∙ ap (λ (t : Outcome B). more i (follow t (λ u s. f u (left' - s)))) d
        ∙ ap (λ (q : Explained A). more i (more k (within (left' - k) q))) y ∙ more-more i k (within (left' - k) n) ∙ rw z;
  }

-- A CALL'S ANSWER, TAKEN APART

pub record Had {A : Type 0} (P : (start len : ℕ) → A → Type 0) (start len n : ℕ) (o : Outcome A) : Type 0 where
  pub value : A
  pub is : o ≡ got value n
  pub that : P start len value

module _ {A : Type 0} {P : (start len : ℕ) → A → Type 0} {r : Decoded} where
  told_done : {o : Outcome A} {start len n : ℕ} → Matches P r o → r ≡ Done start len n → Had P start len n o
  told_done {start = start} {len = len} {n = n} (serves {v = v} {start = s} {len = l} {n = m} e p) d =
      let x : s ≡ start = cc in
      let y : l ≡ len = cc in
      let z : m ≡ n = cc in
      record { value = v; is = ap (got v) z; that = rw (x, y) at p }
  told_done (denies e) d = absurd (let z : ◌≡◌ {A = ℕ} 0 1 = cc in omega arith)

  told_refused : {o : Outcome A} {y : Cause} → Matches P r o → r ≡ Refused y → (s : ℕ) × (o ≡ met y s)
  told_refused (serves e p) d = absurd (let z : ◌≡◌ {A = ℕ} 0 1 = cc in omega arith)
  told_refused {y = y} (denies {y = x} {s = s} e) d = let z : x ≡ y = cc in (s, ap (λ (u : Cause). met u s) z)

  module _ {left : ℕ} {o : Explained A} (a : Represents P r left o) where
    pub had : {start len n : ℕ} → r ≡ Done start len n → Had P start len n (within left o)
    had d = told_done a.told d

    pub not_had : {y : Cause} → r ≡ Refused y → (s : ℕ) × (within left o ≡ met y s)
    not_had d = told_refused a.told d
