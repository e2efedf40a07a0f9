-- A whole walk's scope and cells: variable i is cell i, and nothing is written yet.
use Rattle.std.specs.Prelude.{◌≡◌, refl, List, [], ◌∷◌, ◌++◌, ℕ, zero, suc, ◌+◌, ◌≤◌, ◌<◌, length, get_or, replicate}
use Rattle.std.proofs.Common.{ap, ap₂, append-nil, arith, length-append}
use Rattle.std.proofs.Math.Option.{Option, none, some, some-injective}
use Rattle.std.proofs.Math.Decide.{dec_lt}
use Rattle.std.proofs.Math.ListN.{get_elem?, get_or-eq_default}
use Rattle.std.proofs.Math.Seq.{append_snoc}
use Rattle.value.specs.Result.{ok}
use Rattle.value.specs.All.{All, none, each}
use Rattle.value.specs.Value.{Value, encode, flat, Fits}
use Rattle.value.specs.Reading.{read_view}
use Rattle.value.specs.Laws.{Readable}
use Rattle.value.proofs.Laws.{read_values_back}
use Rattle.node.specs.declared.Node.TheVariants.{False, Number, Wide}
use Rattle.sheet.specs.Sheet.{Sheet, read_sheet}
use Rattle.sheet.specs.Laws.{sheet_ranges}
use Rattle.rules.specs.Semantics
use Rattle.rules.specs.Counting.{Env, Cells, or_old}
use Rattle.rules.specs.Answer.{count, new_plan}
use Rattle.rules.specs.Laws.Related.{All2, ends, more}
use Rattle.rules.proofs.Laws.Related.{at_behind}
use Rattle.rules.proofs.Laws.Readable.{WideFits, NumbersFit}
use Rattle.rules.proofs.Laws.Consistency.{Reads, or_new}
use Rattle.rules.proofs.Laws.Acceptability.{Old, Keeps, free}
use Rattle.undo.proofs.Undo.{Alike, or_back}

-- Beside Laws/Trips.antt of `rules`, which has these for itself.
module _ {A B : Type 0} (R : List A → ℕ → B → Type 0) where
  next_cell : (P : List A) (a : A) (xs : List A) (n : ℕ) {ys : List B} → All2 (R ((P ++ a ∷ []) ++ xs)) (count (length (P ++ a ∷ [])) n) ys
      → All2 (R (P ++ a ∷ xs)) (count (suc (length P)) n) ys
  next_cell P a xs n h =
      let e : length (P ++ a ∷ []) ≡ suc (length P) = rw length-append (omega arith) in
      rw (append_snoc, e) at h

pub new_agrees : (P X : Cells) (μ : Env) → length X ≡ length μ → All2 (Reads (P ++ X)) (count (length P) (length μ)) (new_plan X μ)
unfolding count new_plan
new_agrees P [] [] e = ends
new_agrees P [] (v ∷ μ) e = absurd (omega arith)
new_agrees P (o ∷ X) [] e = absurd (omega arith)
new_agrees P (o ∷ X) (v ∷ μ) e = more (o, at_behind P o X, or_new o v) (next_cell Reads P o X (length μ) (new_agrees (P ++ o ∷ []) X μ (omega arith)))

pub old_agrees : (P μ : Env) → All Readable μ → Old (count (length P) (length μ)) (P ++ μ) μ
unfolding count
old_agrees P [] none = ends
old_agrees P (v ∷ μ) (each g h) =
    more (at_behind P v μ, g.fits) (next_cell (λ ω c m. (get_elem? ω c ≡ some m) × Fits m) P v μ (length μ) (old_agrees (P ++ v ∷ []) μ h))

pub new_length : (X : Cells) (μ : Env) → length X ≡ length μ → length (new_plan X μ) ≡ length μ
unfolding new_plan
new_length [] [] e = refl
new_length [] (v ∷ μ) e = refl
new_length (o ∷ X) [] e = refl
new_length (o ∷ X) (v ∷ μ) e = ap suc (new_length X μ (omega arith))

pub blank_keeps : (μ : Env) → Keeps (replicate (length μ) none) μ
blank_keeps [] = ends
blank_keeps (v ∷ μ) = more (free v) (blank_keeps μ)

pub numbers_fit : (bs : List ℕ) (sh : Sheet) → read_sheet bs ≡ ok sh → NumbersFit sh
numbers_fit bs sh e i = (λ n q. small n q (dec_lt i (length sh.nodes)), λ n q. large n q (dec_lt i (length sh.nodes)))
  where
    none_there : (i < length sh.nodes → ⊥) → get_or sh.nodes i False ≡ False
    none_there h = get_or-eq_default sh.nodes False (omega arith)

    small : (n : ℕ) → get_or sh.nodes i False ≡ Number n → Dec (i < length sh.nodes) → n ≤ 65535
    small n q (yes h) = (rw q at ((sheet_ranges bs e).node i h)).0
    small n q (no h) = let d = none_there h in let z : ◌≡◌ {A = ℕ} 0 1 = cc in absurd (omega arith)

    large : (n : ℕ) → get_or sh.nodes i False ≡ Wide n → Dec (i < length sh.nodes) → WideFits n
    large n q (yes h) = (rw q at ((sheet_ranges bs e).node i h)).0
    large n q (no h) = let d = none_there h in let z : ◌≡◌ {A = ℕ} 0 1 = cc in absurd (omega arith)

pub view_back : (v : Value) → Readable v → read_view (encode v) ≡ ok (v ∷ [])
unfolding flat
view_back v g = rw append-nil at (read_values_back 30 (each g none))

-- OF THE TWO LAWS
pub blank_alike : (n : ℕ) → Alike (replicate n none) (replicate n none)
blank_alike zero = ends
blank_alike (suc n) = more refl (blank_alike n)

-- cells that hold the old values, where the new plan was written
pub plan_back : {X Y : Cells} {μ : Env} → Keeps Y μ → Alike X Y → new_plan Y (new_plan X μ) ≡ μ
unfolding new_plan
plan_back ends ends = refl
plan_back (more {a = y} {b = v} h k) (more {a = x} e l) = ap₂ (λ x xs. x ∷ xs) (or_back x y v h e) (plan_back k l)

-- a cell that is not written leaves its variable what it was
pub new_left : (X : Cells) (μ : Env) (x : ℕ) → length X ≡ length μ → (x < length μ → get_elem? X x ≡ some none) → get_elem? (new_plan X μ) x ≡ get_elem? μ x
unfolding new_plan Semantics.or_old
new_left [] [] x e h = refl
new_left [] (v ∷ μ) x e h = absurd (omega arith)
new_left (o ∷ X) [] x e h = absurd (omega arith)
new_left (o ∷ X) (v ∷ μ) zero e h = rw (some-injective _ _ (h (omega arith)))
new_left (o ∷ X) (v ∷ μ) (suc x) e h = new_left X μ x (omega arith) λ q. h (omega arith)

-- and one that is written takes the same under any plan
pub new_same : (X : Cells) (μ ν : Env) (x : ℕ) → length X ≡ length μ → length μ ≡ length ν → get_elem? μ x ≡ get_elem? ν x
    → get_elem? (new_plan X μ) x ≡ get_elem? (new_plan X ν) x
unfolding new_plan
new_same [] [] [] x e q h = refl
new_same [] [] (w ∷ ν) x e q h = absurd (omega arith)
new_same [] (v ∷ μ) ν x e q h = absurd (omega arith)
new_same (o ∷ X) [] ν x e q h = absurd (omega arith)
new_same (o ∷ X) (v ∷ μ) [] x e q h = absurd (omega arith)
new_same (o ∷ X) (v ∷ μ) (w ∷ ν) zero e q h = ap (λ (u : Value). some (or_old o u)) (some-injective _ _ h)
new_same (o ∷ X) (v ∷ μ) (w ∷ ν) (suc x) e q h = new_same X μ ν x (omega arith) (omega arith) h

pub count_at : (from n x d : ℕ) → get_elem? (count from n) x ≡ some d → d ≡ from + x
unfolding count
count_at from zero x d e = let z : ◌≡◌ {A = ℕ} 0 1 = cc in absurd (omega arith)
count_at from (suc n) zero d e = let q : from ≡ d = some-injective _ _ e in omega arith
count_at from (suc n) (suc x) d e = let q = count_at (suc from) n x d e in omega arith

pub blank_at : (n x : ℕ) → x < n → get_elem? (replicate {A = Option Value} n none) x ≡ some none
blank_at zero x h = absurd (omega arith)
blank_at (suc n) zero h = refl
blank_at (suc n) (suc x) h = blank_at n x (omega arith)
