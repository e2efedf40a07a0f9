-- What a walk gives with some levels it gives with any other number of levels, or it is refused there with 40.
use Rattle.std.proofs.Math.Path.{◌≡◌}
use Rattle.std.specs.Prelude.{refl, ◌⊎◌, ℕ, ◌≤◌, ◌<◌}
use Rattle.std.proofs.Common.{ap, ◌∙◌, inl, inr, arith}
use Rattle.std.proofs.Math.Decide.{dec_le}
use Rattle.value.specs.Value.{Value}
use Rattle.sheet.specs.Sheet.{Sheet}
use Rattle.rules.specs.Outcome.{Out, done, refused, steps}
use Rattle.rules.specs.Allowance.{cap, within}
use Rattle.rules.proofs.Laws.Allowances.{done-within, within-done}
use Rattle.rules.specs.Counting.{Env, Cells, get}
use Rattle.published.specs.PublishedCost.{Cost}
use Rattle.published.proofs.PublishedGet.{gets_all, get_counted}
use Rattle.published.proofs.PublishedWalks.{plan_complete, plan_counted}
use Rattle.published.proofs.UpTo.{Costs, Comes, reached, limited, deep, spent, long}
use Rattle.joined.specs.Levels.{NoDeeper, Either, put_from}

pub done_deep : {A : Type 0} {o : Out A} {v : A} {m : ℕ} → o ≡ done v m → NoDeeper o
done_deep e t r = let z : ◌≡◌ {A = ℕ} 0 1 = cc in omega arith

module _ {A : Type 0} where
  came : {l a l' m : ℕ} {c : Cost} {v : A} {o : Out A} → Comes l a c v o → Costs l' m c → m ≤ a
      → (o ≡ done v m) ⊎ ((t : ℕ) × (o ≡ refused 40 t) × (l < l'))
  came (reached k q) h few = let i = k.count in let j = h.count in inl cc
  came (limited {s = t} k (deep d)) h few = inr (t, refl, omega (arith, h.levels))
  came (limited k (spent d)) h few = absurd (omega (arith, h.count))
  came (limited k (long d)) h few = absurd (omega (arith, h.short))

  within_deep : (a : ℕ) (o : Out A) {t : ℕ} → within a o ≡ refused 40 t → o ≡ refused 40 t
  unfolding within cap
  within_deep a o {t} e = go (dec_le (steps o) a) e
    where
      go : (d : Dec (steps o ≤ a)) → cap {a = a} o d ≡ refused 40 t → o ≡ refused 40 t
      go (yes k) e = e
      go (no k) e = let z : ◌≡◌ {A = ℕ} 41 40 = cc in absurd (omega arith)

module _ {A : Type 0} {l l' m : ℕ} {v : A} (o : Out A) where
  with_more : l ≤ l' → Either l l' v m o → o ≡ done v m
  with_more h (inl q) = q
  with_more h (inr q) = let z = q.2 in absurd (omega arith)

  with_fewer : NoDeeper o → Either l l' v m o → o ≡ done v m
  with_fewer h (inl q) = q
  with_fewer h (inr q) = absurd (h q.0 q.1)

module _ (sh : Sheet) (n : ℕ) (μ : Env) (l l' : ℕ) {v : Value} {m : ℕ} (e : get l sh n μ ≡ done v m) where
  get_either : Either l l' v m (get l' sh n μ)
  get_either =
      let (d, k) = get_counted sh n μ v l m m (ap (within m) e ∙ done-within m v m (omega arith)) in
      came (gets_all l' m sh n μ v d) k (omega arith)

  -- with more levels a get that succeeds is the same
  pub get_more : l ≤ l' → get l' sh n μ ≡ done v m
  get_more h = with_more (get l' sh n μ) h get_either

  -- and with fewer, where no node is deeper than they are
  pub get_fewer : NoDeeper (get l' sh n μ) → get l' sh n μ ≡ done v m
  get_fewer h = with_fewer (get l' sh n μ) h get_either

module _ (sh : Sheet) (n : ℕ) (μ : Env) (v : Value) (l l' : ℕ) {X : Cells} {m : ℕ} (e : put_from l sh n μ v ≡ done X m) where
  put_either : Either l l' X m (put_from l' sh n μ v)
  put_either =
      let (d, k) = plan_counted sh n μ v l m m X (ap (within m) e ∙ done-within m X m (omega arith)) in
      go (came (plan_complete sh n μ v l' m X d) k (omega arith))
    where
      go : Either l l' X m (within m (put_from l' sh n μ v)) → Either l l' X m (put_from l' sh n μ v)
      go (inl q) = inl (within-done m _ q).0
      go (inr q) = inr (q.0, within_deep m _ q.1, q.2)

  -- with more levels a put that succeeds is the same
  pub put_more : l ≤ l' → put_from l' sh n μ v ≡ done X m
  put_more h = with_more (put_from l' sh n μ v) h put_either

  -- and with fewer, where no node is deeper than they are
  pub put_fewer : NoDeeper (put_from l' sh n μ v) → put_from l' sh n μ v ≡ done X m
  put_fewer h = with_fewer (put_from l' sh n μ v) h put_either
