-- Scopes as the code has them: where each variable's value starts, and one less than its length.
use Rattle.std.specs.Prelude.{◌≡◌, refl, List, [], ◌∷◌, ℕ, ◌+◌, ◌-◌, ◌≤◌, ◌<◌, length, get_or, set, replicate}
use Rattle.std.proofs.Common.{◌∙◌, arith, length-set, get_or-set_same, get_or-set_other}
use Rattle.std.proofs.Math.Decide.{dec_lt}
use Rattle.rules.specs.Numbers.{scratch_size, variable_limit}
use Rattle.scopes.specs.declared.Scope.{Scope}
use Rattle.scopes.specs.Scopes.{front_two}

abbrev pub no_variable : Scope
no_variable = record { count = 0; starts = replicate variable_limit 0; lens = replicate variable_limit 0 }

-- one variable more
abbrev pub pushed : Scope → ℕ → ℕ → Scope
pushed s start len = record { count = s.count + 1; starts = set s.starts s.count start; lens = set s.lens s.count (len - 1) }

-- two more, whose values stand one after the other
abbrev pub with_two : Scope → (start first second : ℕ) → Scope
with_two s start first second = record {
  count = s.count + 2;
  starts = set (set s.starts s.count start) (s.count + 1) (start + first);
  lens = set (set s.lens s.count (first - 1)) (s.count + 1) (second - 1);
}

pub two_pushed : (s : Scope) (start first second : ℕ) → with_two s start first second ≡ pushed (pushed s start first) (start + first) second
two_pushed s start first second = let z : s.count + 2 ≡ s.count + 1 + 1 = omega arith in rw z

-- two variables alone, each with its start and what is stored of its length
abbrev pub alone : Scope → (start len start' len' : ℕ) → Scope
alone s start len start' len' = record { count = 2; starts = front_two s.starts start start'; lens = front_two s.lens len len' }

-- a member of a list, and the variable x
abbrev pub with_member : Scope → (x start len : ℕ) → Scope
with_member s x start len = alone s start (len - 1) (get_or s.starts x 0) (get_or s.lens x 0)

-- a scope of two variables that has what s has behind them
pub record TwoOf (s r : Scope) : Type 0 where
  pub count : r.count ≡ 2
  pub starts : (a b : ℕ) → front_two r.starts a b ≡ front_two s.starts a b
  pub lens : (a b : ℕ) → front_two r.lens a b ≡ front_two s.lens a b

-- with other two
abbrev pub renewed : Scope → (start len start' len' : ℕ) → Scope
renewed r start len start' len' = record { count = r.count; starts = front_two r.starts start start'; lens = front_two r.lens len len' }

front_again : (l : List ℕ) (a b c d : ℕ) → front_two (front_two l a b) c d ≡ front_two l c d
front_again [] a b c d = refl
front_again (x ∷ []) a b c d = refl
front_again (x ∷ y ∷ l) a b c d = refl

pub two_at_first : {s : Scope} → TwoOf s (record { count = 2; starts = s.starts; lens = s.lens })
two_at_first = record { count = refl; starts = λ a b. refl; lens = λ a b. refl }

pub two_again : {s r : Scope} (start len start' len' : ℕ) → TwoOf s r → TwoOf s (renewed r start len start' len')
two_again {s} {r} start len start' len' t = record {
  count = t.count;
  starts = λ a b. front_again r.starts start start' a b ∙ t.starts a b;
  lens = λ a b. front_again r.lens len len' a b ∙ t.lens a b;
}

-- a member and x are what `with_member` has
pub two_member : {s r : Scope} (x start n : ℕ) {len : ℕ} → len ≡ n - 1 → TwoOf s r
    → renewed r start len (get_or s.starts x 0) (get_or s.lens x 0) ≡ with_member s x start n
two_member x start n e t = rw (e, t.count, t.starts start _, t.lens _ _)

-- two values that a scope can store
pub record Stored (start first second : ℕ) : Type 0 where
  pub inside : start + first < scratch_size
  pub some : 1 ≤ first
  pub short : first ≤ 256
  pub some' : 1 ≤ second
  pub short' : second ≤ 256

-- the k variables of a plan
pub record Spanned (k : ℕ) (ss ls : List ℕ) (s : Scope) : Type 0 where
  pub count : s.count ≡ k
  pub starts_long : length s.starts ≡ variable_limit
  pub lens_long : length s.lens ≡ variable_limit
  pub start : (i : ℕ) → i < k → get_or s.starts i 0 ≡ get_or ss i 0
  pub len : (i : ℕ) → i < k → 1 ≤ get_or ls i 0 → get_or ls i 0 ≤ 256 → get_or s.lens i 0 + 1 ≡ get_or ls i 0

-- i of them are copied
pub record Spanning (i : ℕ) (P : ℕ → ℕ → Type 0) (xs : List ℕ) : Type 0 where
  pub long : length xs ≡ variable_limit
  pub each : (j : ℕ) → j < i → P j (get_or xs j 0)

pub spanning_none : {P : ℕ → ℕ → Type 0} → Spanning 0 P (replicate variable_limit 0)
spanning_none = record { long = refl; each = λ j h. absurd (omega arith) }

pub spanning_more : {i x : ℕ} {P : ℕ → ℕ → Type 0} {xs : List ℕ} → i < variable_limit → Spanning i P xs → P i x → Spanning (i + 1) P (set xs i x)
spanning_more {i} {x} {P} {xs} h m p = record { long = length-set xs i x ∙ m.long; each = λ j lt. go j lt (dec_lt j i) }
  where
    go : (j : ℕ) → j < i + 1 → Dec (j < i) → P j (get_or (set xs i x) j 0)
    go j lt (yes y) = rw (get_or-set_other xs i j x 0 (λ e. omega arith)) (m.each j y)
    go j lt (no n) = let e : j ≡ i = omega arith in rw (e, get_or-set_same xs i x 0 (omega (arith, m.long))) p

-- by another start and length
pub stored_as : (mid : ℕ) {start start' len len' : ℕ} → start ≡ start' → len ≡ len' → Stored (start' + 1) (mid - 1) (len' - mid)
    → Stored (start + 1) (mid - 1) (len - mid)
stored_as mid e f s = rw (e, f) s
