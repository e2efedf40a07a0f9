-- As users say it: the joined put succeeds exactly where each put succeeds alone, with one level less, and no variable takes two values; each
-- variable then has what either wrote.
use Rattle.std.specs.Prelude.{◌≡◌, refl, ℕ, ◌+◌, ◌≤◌, length, replicate}
use Rattle.std.proofs.Common.{ap, sym, ◌∙◌}
use Rattle.std.proofs.Math.Option.{Option, none, some, none-ne-some}
use native.Mathlib.Omega.{arith}
use Rattle.value.specs.Value.{Value, pair}
use Rattle.value.specs.Views.{as_pair}
use Rattle.sheet.specs.Sheet.{Sheet}
use Rattle.sheet.specs.Laws.{Ranges}
use Rattle.rules.specs.Outcome.{Out, done, refused, plus, ◌>>=◌, given}
use Rattle.rules.specs.Allowance.{within}
use Rattle.rules.proofs.Laws.Allowances.{done-within, within-done}
use Rattle.rules.specs.Counting.{Env, Cells, put}
use Rattle.rules.specs.Answer.{count, put_walk}
use Rattle.rules.specs.Laws.Related.{ends, more}
use Rattle.rules.proofs.Laws.Related.{all2_length}
use Rattle.rules.proofs.Laws.Consistency.{Later}
use Rattle.published.specs.Published.{Over, residual, Put, Merge1, neither, left, right, same, Merge, m_ends, m_more}
use Rattle.published.specs.PublishedCost.{Cost, put_cost}
use Rattle.published.proofs.PublishedCells.{Laid, Joined, seen_later, laid_later}
use Rattle.published.proofs.PublishedPut.{put_over, put_exact}
use Rattle.published.proofs.PublishedWalks.{blank_later, blank_laid, seen_self, seen_below, plan_counted}
use Rattle.published.proofs.UpTo.{Costs, Exactly, exactly, too_long}
use Rattle.joined.specs.Joined.{joined}
use Rattle.joined.proofs.Joined.{put_walk-joined, put_walk-pair}
use Rattle.joined.proofs.Beside.{Meets, alike, refuses, clashes, merge_none, puts_beside}

-- CELLS MERGED: the least that have what both have
left_kept : {o p q : Option Value} → Merge1 o p q → (w : Value) → o ≡ some w → q ≡ some w
left_kept neither w e = e
left_kept left w e = e
left_kept right w e = absurd (none-ne-some w e)
left_kept (same h) w e = cc

right_kept : {o p q : Option Value} → Merge1 o p q → (w : Value) → p ≡ some w → q ≡ some w
right_kept neither w e = e
right_kept left w e = absurd (none-ne-some w e)
right_kept right w e = e
right_kept (same h) w e = e

least_kept : {o p q : Option Value} {r : Option Value} → Merge1 o p q → ((w : Value) → o ≡ some w → r ≡ some w) → ((w : Value) → p ≡ some w → r ≡ some w)
    → (w : Value) → q ≡ some w → r ≡ some w
least_kept neither f g w e = f w e
least_kept left f g w e = f w e
least_kept right f g w e = g w e
least_kept (same h) f g w e = g w e

merge_left : {X Y Z : Cells} → Merge X Y Z → Later X Z
merge_left m_ends = ends
merge_left (m_more m ms) = more (left_kept m) (merge_left ms)

merge_right : {X Y Z : Cells} → Merge X Y Z → Later Y Z
merge_right m_ends = ends
merge_right (m_more m ms) = more (right_kept m) (merge_right ms)

merge_least : {X Y Z U : Cells} → Merge X Y Z → Later X U → Later Y U → Later Z U
merge_least m_ends ends ends = ends
merge_least (m_more m ms) (more f h) (more g k) = more (least_kept m f g) (merge_least ms h k)

-- ONE PUT ON WHAT ANOTHER WROTE
exact_done : {A : Type 0} {c : Cost} {v : A} {o : Out A} → Exactly c v o → c.longest ≤ 256 → o ≡ done v c.nodes
exact_done exactly h = refl
exact_done (too_long l) h = absurd (omega arith)

merge_joined : (μ : Env) {X Y Z : Cells} → Over Y μ → Merge X Y Z → Joined (count 0 (length μ)) X Y Z
merge_joined μ o m = record {
  later = merge_left m;
  seen = seen_later (seen_self o) (merge_right m);
  least = λ U a b. merge_least m a (seen_below (length μ) (all2_length (merge_right m) ∙ sym (all2_length (merge_left m)) ∙ all2_length a) b);
}

module _ (sh : Sheet) (n : ℕ) (μ : Env) (v : Value) (l : ℕ) where
  abbrev puts : Cells → Out Cells
  puts W = put l sh n μ (count 0 (length μ)) v W

  laid : {X : Cells} → Over X μ → Laid X (count 0 (length μ)) μ
  laid o = laid_later (blank_laid μ) (blank_later o)

  -- from any cells, where it is derived
  derived : {X Y Z : Cells} {t : ℕ} → Over X μ → (d : Put sh μ v (residual sh n) Y) → Costs l t (put_cost d)
      → Joined (count 0 (length μ)) X Y Z → puts X ≡ done Z t
  derived {X} {Y} {Z} {t} o d k j =
      let x = put_exact sh n μ v (count 0 (length μ)) X (laid o) l t Y Z d j k.levels (omega (arith, k.count)) in
      (within-done t (puts X) (exact_done x k.short ∙ ap (done Z) k.count)).0

  pub put_on : {X Y Z : Cells} {t : ℕ} → Over X μ → puts (replicate (length μ) none) ≡ done Y t → Merge X Y Z → puts X ≡ done Z t
  put_on {Y = Y} {t = t} o e m =
      let (d, k) = plan_counted sh n μ v l t t Y (ap (within t) e ∙ done-within t Y t (omega arith)) in
      derived o d k (merge_joined μ (put_over d) m)

  -- and the other way round: a put on what another wrote succeeds alone
  pub put_off : {X Z : Cells} {t : ℕ} → Over X μ → puts X ≡ done Z t → (Y : Cells) × (puts (replicate (length μ) none) ≡ done Y t) × Merge X Y Z
  put_off {X} {Z} {t} o e = go _ _ e (puts_beside l sh n μ (count 0 (length μ)) v X _ X (merge_none X (length μ) (all2_length o)))
    where
      go : (o o' : Out Cells) → o' ≡ done Z t → Meets (Merge X) o o' → (Y : Cells) × (o ≡ done Y t) × Merge X Y Z
      go o o' q (alike {a = Y} {b = U} {s = c} m) = let z : U ≡ Z = cc in let k : c ≡ t = cc in (Y, ap (done Y) k, rw z at m)
      go o o' q refuses = let z : ◌≡◌ {A = ℕ} 0 1 = cc in absurd (omega arith)
      go o o' q (clashes h) = let z : ◌≡◌ {A = ℕ} 0 1 = cc in absurd (omega arith)

-- THE LAW
over_of : (sh : Sheet) (μ : Env) (v : Value) {s : ℕ} (X : Cells)
    → put 47 sh sh.root μ (count 0 (length μ)) v (replicate (length μ) none) ≡ done X s → Over X μ
over_of sh μ v {s} X e = put_over (plan_counted sh sh.root μ v 47 s s X (ap (within s) e ∙ done-within s X s (omega arith))).0

pub bind_done : {A B : Type 0} (m : Out A) (f : A → Out B) {b : B} {n : ℕ} → m >>= f ≡ done b n → (a : A) × (s : ℕ) × (m ≡ done a s) × (plus s (f a) ≡ done b n)
unfolding ◌>>=◌
bind_done (done a s) f e = (a, s, refl, e)
bind_done (refused c s) f e = let z : ◌≡◌ {A = ℕ} 0 1 = cc in absurd (omega arith)

pub plus-done : {A : Type 0} (s : ℕ) (o : Out A) {a : A} {n : ℕ} → plus s o ≡ done a n → (t : ℕ) × (o ≡ done a t) × (n ≡ s + t)
unfolding plus
plus-done s (done a t) e = (t, cc, cc)
plus-done s (refused c t) e = let z : ◌≡◌ {A = ℕ} 0 1 = cc in absurd (omega arith)

pub given-done : {A B : Type 0} (c : ℕ) (o : Option A) (f : A → Out B) {b : B} {n : ℕ} → given c o f ≡ done b n → (a : A) × (f a ≡ done b n)
unfolding given
given-done c none f e = let z : ◌≡◌ {A = ℕ} 0 1 = cc in absurd (omega arith)
given-done c (some a) f e = (a, e)

-- how the two parts put the two halves of a view
pub record Parts (a b : Sheet) (μ : Env) (x y : Value) (Z : Cells) (n : ℕ) : Type 0 where
  pub first : Cells
  pub second : Cells
  pub steps : ℕ
  pub others : ℕ
  pub puts_first : put 47 a a.root μ (count 0 (length μ)) x (replicate (length μ) none) ≡ done first steps
  pub puts_second : put 47 b b.root μ (count 0 (length μ)) y (replicate (length μ) none) ≡ done second others
  pub together : Merge first second Z
  pub counted : n ≡ 1 + steps + others

module _ {a b : Sheet} (ra : Ranges a) (rb : Ranges b) (allowance : ℕ) (μ : Env) (x y : Value) {Z : Cells} {n : ℕ} where
  pub put_walk_both : Parts a b μ x y Z n → n ≤ allowance → put_walk allowance (joined a b) μ (pair x y) ≡ done Z n
  put_walk_both p few =
      rw p.counted (put_walk-pair ra rb allowance μ x y p.puts_first
      (put_on b b.root μ y 47 (over_of a μ x p.first p.puts_first) p.puts_second p.together) (omega (arith, p.counted)))

  pub put_walk_parts : put_walk allowance (joined a b) μ (pair x y) ≡ done Z n → Parts a b μ x y Z n
  unfolding given as_pair
  put_walk_parts e =
      let w = within-done allowance _ (sym (put_walk-joined ra rb allowance μ (pair x y)) ∙ e) in
      let (k, f, q) = plus-done 1 _ w.0 in
      let (X, s, p, g) = bind_done (put 47 a a.root μ (count 0 (length μ)) x (replicate (length μ) none)) _ f in
      let (t, h, r) = plus-done s _ g in
      let (Y, z, m) = put_off b b.root μ y 47 (over_of a μ x X p) h in
      record { first = X; second = Y; steps = s; others = t; puts_first = p; puts_second = z; together = m; counted = omega arith }
