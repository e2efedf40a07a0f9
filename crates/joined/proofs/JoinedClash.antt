-- A variable still takes one value: where each part's put succeeds alone and some variable would take two values, the joined put is refused
-- with 54.
use Rattle.std.proofs.Math.Path.{◌≡◌, refl}
use Rattle.std.proofs.Common.{sym, ◌∙◌, arith}
use Rattle.std.specs.Prelude.{◌⊎◌, [], ◌∷◌, ℕ, zero, suc, ◌+◌, ◌≤◌, length, get_or}
use Rattle.std.proofs.Math.Logic.{inl, inr}
use Rattle.std.proofs.Math.Option.{Option, none, some, none-ne-some, some-injective}
use Rattle.value.specs.Value.{Value, pair}
use Rattle.value.specs.Views.{as_pair}
use Rattle.sheet.specs.Sheet.{Sheet}
use Rattle.sheet.specs.Laws.{Ranges}
use Rattle.rules.specs.Outcome.{Out, done, refused, plus, steps, ◌>>=◌, given}
use Rattle.rules.proofs.Laws.Allowances.{within_yes}
use Rattle.rules.specs.Counting.{Env, Cells, put}
use Rattle.rules.specs.Answer.{count, put_walk}
use Rattle.published.specs.Published.{Merge1, neither, left, right, same, Merge, m_ends, m_more}
use Rattle.joined.specs.Joined.{joined}
use Rattle.joined.proofs.Joined.{put_walk-joined}
use Rattle.joined.proofs.Beside.{Meets, alike, refuses, clashes, merge_none, puts_beside}
use Rattle.joined.specs.Levels.{put_from}

-- some variable takes two values: X and Y are what two puts wrote
pub record Clash (X Y : Cells) : Type 0 where
  pub variable : ℕ
  pub one : Value
  pub other : Value
  pub first_writes : get_or X variable none ≡ some one
  pub second_writes : get_or Y variable none ≡ some other
  pub differ : one ≡ other → ⊥

-- variable by variable
pub merge_at : {X Y Z : Cells} (i : ℕ) → Merge X Y Z → Merge1 (get_or X i none) (get_or Y i none) (get_or Z i none)
merge_at i m_ends = neither
merge_at zero (m_more m ms) = m
merge_at (suc i) (m_more m ms) = merge_at i ms

-- then they have no merge
pub clash_unmerged : {X Y Z : Cells} → Clash X Y → Merge X Y Z → ⊥
clash_unmerged {X} {Y} {Z} c m = go _ _ _ c.first_writes c.second_writes (merge_at c.variable m)
  where
    go : (o p q : Option Value) → o ≡ some c.one → p ≡ some c.other → Merge1 o p q → ⊥
    go o p q eo ep neither = none-ne-some _ eo
    go o p q eo ep left = none-ne-some _ ep
    go o p q eo ep right = none-ne-some _ eo
    go o p q eo ep (same h) = c.differ (sym (some-injective _ _ eo) ∙ h ∙ some-injective _ _ ep)

-- and otherwise they have one
pub merge_of : (X Y : Cells) → length X ≡ length Y → ((i : ℕ) (v w : Value) → get_or X i none ≡ some v → get_or Y i none ≡ some w → v ≡ w)
    → (Z : Cells) × Merge X Y Z
merge_of [] [] e h = ([], m_ends)
merge_of [] (p ∷ Y) e h = absurd (omega arith)
merge_of (o ∷ X) [] e h = absurd (omega arith)
merge_of (o ∷ X) (p ∷ Y) e h =
    let (q, m) = one o p (h 0) in let (Z, ms) = merge_of X Y (omega arith) (λ i. h (suc i)) in (q ∷ Z, m_more m ms)
  where
    one : (o p : Option Value) → ((v w : Value) → o ≡ some v → p ≡ some w → v ≡ w) → (q : Option Value) × Merge1 o p q
    one none none k = (none, neither)
    one none (some w) k = (some w, right)
    one (some v) none k = (some v, left)
    one (some v) (some w) k = (some w, same (k v w refl refl))

module _ (sh : Sheet) (n : ℕ) (μ : Env) (v : Value) (l : ℕ) where
  -- a put that succeeds alone, made on what another wrote: it is refused with 54, no later than it ended alone
  pub put_clash : {X Y : Cells} {t : ℕ} → length X ≡ length μ → put_from l sh n μ v ≡ done Y t → Clash X Y
      → (s : ℕ) × (put l sh n μ (count 0 (length μ)) v X ≡ refused 54 s) × (s ≤ t)
  unfolding steps
  put_clash {X} {Y} {t} e alone c = go _ _ alone (puts_beside l sh n μ (count 0 (length μ)) v X _ X (merge_none X (length μ) e))
    where
      go : (o o' : Out Cells) → o ≡ done Y t → Meets (Merge X) o o' → (s : ℕ) × (o' ≡ refused 54 s) × (s ≤ t)
      go o o' q (alike {a = U} {b = Z} m) = let z : U ≡ Y = cc in absurd (clash_unmerged {Z = Z} c (rw z at m))
      go o o' q refuses = let z : ◌≡◌ {A = ℕ} 0 1 = cc in absurd (omega arith)
      go o o' q (clashes {s = s} h) = (s, refl, rw q at h)

  -- and one that is refused alone is refused with the same, or with 54 no later
  pub put_refused : (X : Cells) {c t : ℕ} → length X ≡ length μ → put_from l sh n μ v ≡ refused c t
      → (put l sh n μ (count 0 (length μ)) v X ≡ refused c t) ⊎ ((s : ℕ) × (put l sh n μ (count 0 (length μ)) v X ≡ refused 54 s) × (s ≤ t))
  unfolding steps
  put_refused X {c} {t} e alone = go _ _ alone (puts_beside l sh n μ (count 0 (length μ)) v X _ X (merge_none X (length μ) e))
    where
      go : (o o' : Out Cells) → o ≡ refused c t → Meets (Merge X) o o' → (o' ≡ refused c t) ⊎ ((s : ℕ) × (o' ≡ refused 54 s) × (s ≤ t))
      go o o' q (alike m) = let z : ◌≡◌ {A = ℕ} 0 1 = cc in absurd (omega arith)
      go o o' q refuses = inl q
      go o o' q (clashes {s = s} h) = inr (s, refl, rw q at h)

module _ {a b : Sheet} (ra : Ranges a) (rb : Ranges b) (allowance : ℕ) (μ : Env) (x y : Value) where
  -- so the joined put is refused with 54, under every allowance under which it would have succeeded without the clash
  pub put_walk_clash : {X Y : Cells} {m n : ℕ} → length X ≡ length μ → put_from 47 a a.root μ x ≡ done X m → put_from 47 b b.root μ y ≡ done Y n
      → Clash X Y → 1 + m + n ≤ allowance → (s : ℕ) × (put_walk allowance (joined a b) μ (pair x y) ≡ refused 54 s)
  unfolding ◌>>=◌ plus given as_pair steps
  put_walk_clash {m = m} e first second c few =
      let (s, q, h) = put_clash b b.root μ y 47 e second c in
      (1 + (m + s), put_walk-joined ra rb allowance μ (pair x y) ∙ rw (first, q) (within_yes allowance (refused 54 (1 + (m + s))) (omega arith)))
