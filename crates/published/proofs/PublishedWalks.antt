-- Walks from a whole plan, with nothing written yet: they give the published value, and exactly the published writes, in as many
-- steps as a derivation has nodes.
use Rattle.std.specs.Prelude.{◌≡◌, refl, [], ◌∷◌, ℕ, zero, suc, ◌+◌, ◌≤◌, length, replicate}
use Rattle.std.proofs.Common.{ap, sym, ◌∙◌, arith}
use Rattle.std.proofs.Math.Option.{none, some, none-ne-some}
use Rattle.std.proofs.Math.ListN.{get_elem?}
use Rattle.value.specs.Value.{Value}
use Rattle.sheet.specs.Sheet.{Sheet}
use Rattle.rules.specs.Numbers.{level_limit}
use Rattle.rules.specs.Outcome.{done}
use Rattle.rules.specs.Allowance.{within}
use Rattle.rules.specs.Counting.{Env, Cells, or_old, put}
use Rattle.rules.specs.Answer.{get_walk, count, new_plan, put_walk}
use Rattle.rules.specs.Laws.Related.{ends, more}
use Rattle.rules.proofs.Laws.Related.{all2_at, all2_of, all2_length}
use Rattle.rules.proofs.Laws.Consistency.{Later}
use Rattle.published.specs.Published.{Writes, Over, blank, ◌◁◌, residual, Get, Put}
use Rattle.published.specs.PublishedCost.{get_cost, put_cost}
use Rattle.published.proofs.PublishedCells.{Laid, Seen, Joined, later_same, blank_at, seen_over}
use Rattle.published.proofs.PublishedGet.{get_sound, get_complete, get_counted}
use Rattle.published.proofs.PublishedPut.{put_sound, puts_all, put_over}
use Rattle.published.proofs.UpTo.{Costs, Comes, up_map, up_within, up_costs, Exactly, up_exactly}

-- VARIABLE i IS CELL i

count_at : (from n x : ℕ) {c : ℕ} → get_elem? (count from n) x ≡ some c → c ≡ from + x
unfolding count
count_at from zero x e = absurd (none-ne-some _ e)
count_at from (suc n) zero {c} e = let z : from ≡ c = cc in omega arith
count_at from (suc n) (suc x) e = omega (arith, count_at (suc from) n x e)

first_at : (n x : ℕ) {c : ℕ} → get_elem? (count 0 n) x ≡ some c → c ≡ x
first_at n x e = omega (arith, count_at 0 n x e)

length-count : (from n : ℕ) → length (count from n) ≡ n
unfolding count
length-count from zero = refl
length-count from (suc n) = ap suc (length-count (suc from) n)

pub blank_is : (μ : Env) → replicate (length μ) none ≡ blank μ
unfolding blank
blank_is [] = refl
blank_is (v ∷ μ) = ap (λ (X : Cells). none ∷ X) (blank_is μ)

pub blank_later : {ω : Writes} {μ : Env} → Over ω μ → Later (blank μ) ω
unfolding blank
blank_later ends = ends
blank_later (more _ h) = more (λ w e. absurd (none-ne-some w e)) (blank_later h)

pub blank_laid : (μ : Env) → Laid (blank μ) (count 0 (length μ)) μ
blank_laid μ = all2_of _ _ (length-count 0 (length μ)) λ x c m ec em. let z : c ≡ x = first_at
    (length μ) x ec in record { cell = none; there = rw z (blank_at μ x em) }

pub seen_self : {ω : Writes} {μ : Env} → Over ω μ → Seen ω (count 0 (length μ)) ω
seen_self {ω} {μ} h = all2_of _ _ (all2_length h ∙ sym (length-count 0 (length μ))) λ x o c eo ec.
    let z : c ≡ x = first_at (length μ) x ec in record { has = λ v e. rw z (cc) }

pub seen_below : {ω : Writes} {X : Cells} (n : ℕ) → length ω ≡ length X → Seen ω (count 0 n) X → Later ω X
seen_below n e h = all2_of _ _ e λ x o q eo eq w ew.
    let (c, ec, f) = all2_at x h eo in let z : c ≡ x = first_at n x ec in let k = rw z at (f.has w ew) in cc

-- blank cells merged with ω are ω
joined_blank_is : {ω : Writes} {μ : Env} {X : Cells} → Over ω μ → Joined (count 0 (length μ)) (blank μ) ω X → X ≡ ω
joined_blank_is {μ = μ} h j = later_same (j.least _ (blank_later h) (seen_self h))
    (seen_below (length μ) (sym (all2_length (blank_later h)) ∙ all2_length j.later) j.seen)

-- at the end each variable that was not written keeps its old value: μ' ◁ μ
pub new_plan_is : (ω : Writes) (μ : Env) → new_plan ω μ ≡ ω ◁ μ
unfolding new_plan ◌◁◌
new_plan_is [] [] = refl
new_plan_is [] (v ∷ μ) = refl
new_plan_is (o ∷ ω) [] = refl
new_plan_is (o ∷ ω) (v ∷ μ) = ap (λ (ν : Env). or_old o v ∷ ν) (new_plan_is ω μ)

-- THE THEOREMS, for every sheet, node, environment, number of levels and allowance
module _ (sh : Sheet) (n : ℕ) (μ : Env) (v : Value) where
  -- a put from a whole plan that succeeds has written what the published relation says
  pub plan_sound : (l a s : ℕ) (X : Cells) → within a (put l sh n μ (count 0 (length μ)) v (replicate (length μ) none)) ≡ done X s
      → Put sh μ v (residual sh n) X
  plan_sound l a s X e =
      let w = put_sound sh n μ v (count 0 (length μ)) (blank μ) (blank_laid μ) l a s X (rw (blank_is μ) at e) in
      rw (joined_blank_is (seen_over w.joined.seen (blank_laid μ)) w.joined) w.rel

  -- and where the published relation holds, it has written that, or is refused with 40, 41 or 44
  pub plan_complete : (l a : ℕ) (ω : Writes) (d : Put sh μ v (residual sh n) ω)
      → Comes l a (put_cost d) ω (within a (put l sh n μ (count 0 (length μ)) v (replicate (length μ) none)))
  plan_complete l a ω d = let h = put_over d in rw (blank_is μ)
      (up_within (up_map (puts_all l a sh n μ (count 0 (length μ)) v (blank μ) ω ω (blank_laid μ) d (blank_later h) (seen_self h)) λ X j. joined_blank_is h j))

  -- a derivation of at most l levels and a nodes gives its writes, in exactly as many steps as it has nodes, or refusal 44
  pub plan_exact : (l a : ℕ) (ω : Writes) (d : Put sh μ v (residual sh n) ω) → (put_cost d).height ≤ l → (put_cost d).nodes ≤ a
      → Exactly (put_cost d) ω (within a (put l sh n μ (count 0 (length μ)) v (replicate (length μ) none)))
  plan_exact l a ω d h k = up_exactly (plan_complete l a ω d) h k

  -- and a put that succeeds has a derivation of at most l levels and of exactly as many nodes as the steps
  pub plan_counted : (l a s : ℕ) (X : Cells) → within a (put l sh n μ (count 0 (length μ)) v (replicate (length μ) none)) ≡ done X s
      → (d : Put sh μ v (residual sh n) X) × Costs l s (put_cost d)
  plan_counted l a s X e = let d = plan_sound l a s X e in (d, up_costs (rw e at (plan_complete l a X d)))

-- the walks of whole calls
module _ (a : ℕ) (sh : Sheet) (μ : Env) (v : Value) where
  pub get_walk_sound : (s : ℕ) → get_walk a sh μ ≡ done v s → Get sh μ (residual sh sh.root) v
  unfolding get_walk
  get_walk_sound s e = get_sound sh sh.root μ v level_limit a s e

  pub get_walk_complete : (d : Get sh μ (residual sh sh.root) v) → Comes level_limit a (get_cost d) v (get_walk a sh μ)
  unfolding get_walk
  get_walk_complete d = get_complete sh sh.root μ v level_limit a d

  pub get_walk_exact : (d : Get sh μ (residual sh sh.root) v) → (get_cost d).height ≤ level_limit → (get_cost d).nodes ≤ a →
      Exactly (get_cost d) v (get_walk a sh μ)
  get_walk_exact d h k = up_exactly (get_walk_complete d) h k

  pub get_walk_counted : (s : ℕ) → get_walk a sh μ ≡ done v s → (d : Get sh μ (residual sh sh.root) v) × Costs level_limit s (get_cost d)
  unfolding get_walk
  get_walk_counted s e = get_counted sh sh.root μ v level_limit a s e

  pub put_walk_sound : (s : ℕ) (X : Cells) → put_walk a sh μ v ≡ done X s → Put sh μ v (residual sh sh.root) X × (new_plan X μ ≡ X ◁ μ)
  unfolding put_walk
  put_walk_sound s X e = (plan_sound sh sh.root μ v level_limit a s X e, new_plan_is X μ)

  pub put_walk_complete : (ω : Writes) (d : Put sh μ v (residual sh sh.root) ω) → Comes level_limit a (put_cost d) ω (put_walk a sh μ v)
  unfolding put_walk
  put_walk_complete ω d = plan_complete sh sh.root μ v level_limit a ω d

  pub put_walk_exact : (ω : Writes) (d : Put sh μ v (residual sh sh.root) ω) → (put_cost d).height ≤ level_limit → (put_cost d).nodes ≤ a
      → Exactly (put_cost d) ω (put_walk a sh μ v)
  put_walk_exact ω d h k = up_exactly (put_walk_complete ω d) h k

  pub put_walk_counted : (s : ℕ) (X : Cells) → put_walk a sh μ v ≡ done X s → (d : Put sh μ v (residual sh sh.root) X) × Costs level_limit s (put_cost d)
  unfolding put_walk
  put_walk_counted s X e = plan_counted sh sh.root μ v level_limit a s X e
