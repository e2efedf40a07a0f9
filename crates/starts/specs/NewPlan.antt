-- A plan that is put together value by value, with the starts of its values.
use Rattle.std.specs.Prelude.{◌≡◌, cond, List, ℕ, ◌+◌, ◌≤◌, ◌<◌, leb, ltb, set}
use borrow.Author.Tests.{lt-ltb, le-ltb, le-leb, lt-leb}
use Rattle.starts.specs.declared.NewPlan.{NewPlan}

-- so many values, which start there, of so many bytes
abbrev pub plan_of : (count : ℕ) → (at : List ℕ) → (len : ℕ) → NewPlan
plan_of count at len = record { len = len; starts = record { count = count; at = at } }

-- one value of n bytes more: it starts where those before it end
abbrev pub with_one : NewPlan → ℕ → NewPlan
with_one p n = record { len = p.len + n; starts = record { count = p.starts.count + 1; at = set p.starts.at p.starts.count p.len } }

-- where there is room for its start: 16 of them, of 16 bits
unfoldable pub grown_by : NewPlan → ℕ → NewPlan
grown_by p n = cond (ltb p.starts.count 16) (cond (leb (p.len + n) 65535) (with_one p n) p) p

-- LAWS, for the code here and for callers

module _ (p : NewPlan) (n : ℕ) where
  pub grown_one : p.starts.count < 16 → p.len + n ≤ 65535 → grown_by p n ≡ with_one p n
  unfolding grown_by
  grown_one h k = rw (lt-ltb p.starts.count 16 h, le-leb (p.len + n) 65535 k)

  pub grown_full : 16 ≤ p.starts.count → grown_by p n ≡ p
  unfolding grown_by
  grown_full h = rw (le-ltb p.starts.count 16 h)

  pub grown_long : p.starts.count < 16 → 65535 < p.len + n → grown_by p n ≡ p
  unfolding grown_by
  grown_long h k = rw (lt-ltb p.starts.count 16 h, lt-leb (p.len + n) 65535 k)
