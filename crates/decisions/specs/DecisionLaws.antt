-- Laws of those definitions, for the code here and for callers.
use Rattle.std.specs.Prelude.{◌≡◌, refl, List, Bool, true, false, ℕ, zero, suc, ◌+◌, ◌≤◌, ◌<◌, eqb, ltb, ⊤, Result, Ok, Err}
use Rattle.std.proofs.Common.{sym, ap₂, ◌∙◌, arith, eqb-true, ne_eqb, eq-eqb, lt-ltb, le-ltb}
use Rattle.std.proofs.Math.Path.{ap}
use Rattle.std.proofs.lemmas.Bool.{false≢true}
use Rattle.shapes.specs.Parts.{passes_bytes}
use Rattle.shapes.proofs.TestsLaws.{passes_enough}
use Rattle.shapes.specs.declared.Shape.{Shape}
use Rattle.shapes.specs.declared.Shape.TheVariants.{False, True, Empty, Front, Number, Pair, Wide, Malformed}
use Rattle.refusal.specs.declared.Refusal.{Refusal}
use Rattle.refusal.specs.declared.Refusal.TheVariants.{ValueKind, NoBranch}
use Rattle.decisions.specs.declared.Branch.{Branch}
use Rattle.decisions.specs.declared.Branch.TheVariants.{Plain, Parts, Switch, Refused}
use Rattle.decisions.specs.declared.Apart.TheVariants.{At, Other}
use Rattle.outcome.specs.Outcome.{done_as, is_refusal, len_of, steps_of, len_small}
use Rattle.decisions.specs.Decisions.{
  where_so,
  entry_refusal,
  Enters,
  fits_kind,
  fit_of,
  other_of,
  choice,
  taken_from,
  take_of,
  TakenBy,
  apart_of,
  made_of,
  judged,
  unfit_rest,
  fronted_as,
}

pub no_level : (levels left : ℕ) → levels ≡ 0 → 40 ≡ entry_refusal levels left
unfolding entry_refusal
no_level levels left e = rw e

pub no_step : (levels left : ℕ) → (levels ≡ 0 → ⊥) → left ≡ 0 → 41 ≡ entry_refusal levels left
unfolding entry_refusal
no_step zero left n e = absurd (n refl)
no_step (suc l) left n e = rw e

pub both_left : (levels left : ℕ) → (levels ≡ 0 → ⊥) → (left ≡ 0 → ⊥) → 0 ≡ entry_refusal levels left
unfolding entry_refusal
both_left zero left n m = absurd (n refl)
both_left (suc l) zero n m = absurd (m refl)
both_left (suc l) (suc k) n m = refl

-- where a node may be entered, a level and a step are left
may_enter : (levels left : ℕ) → entry_refusal levels left ≡ 0 → (levels ≡ 0 → ⊥) × (left ≡ 0 → ⊥)
unfolding entry_refusal
may_enter zero left z = absurd (omega (arith, z))
may_enter (suc l) zero z = absurd (omega (arith, z))
may_enter (suc l) (suc k) z = (λ q. omega (arith, q), λ q. omega (arith, q))

pub entered : (levels left : ℕ) (r : Result ⊤ Refusal) → Enters levels left r → ((e : Refusal) → r ≡ Err e → ⊥) → (levels ≡ 0 → ⊥) × (left ≡ 0 → ⊥)
entered levels left (Ok x) z n = may_enter levels left z
entered levels left (Err e) z n = absurd (n e refl)

pub judged_yes : (c : ℕ) {p q : Bool} → p ≡ q → p ≡ true → done_as 0 0 0 ≡ judged c q
unfolding judged
judged_yes c e t = rw (← e, t)

pub judged_no : (c : ℕ) {p q : Bool} → p ≡ q → p ≡ false → c ≡ judged c q
unfolding judged
judged_no c e t = rw (← e, t)

pub other_kind : (kind rest : ℕ) → (kind ≡ 3 → ⊥) → false ≡ unfit_rest kind rest
unfolding unfit_rest
other_kind kind rest n = rw (ne_eqb kind 3 n)

pub too_low : (kind rest : ℕ) → kind ≡ 3 → rest < 2 → true ≡ unfit_rest kind rest
unfolding unfit_rest
too_low kind rest e h = rw (eq-eqb kind 3 e, lt-ltb rest 2 h)

pub by_height : (kind rest : ℕ) → kind ≡ 3 → 2 ≤ rest → ltb 3 rest ≡ unfit_rest kind rest
unfolding unfit_rest
by_height kind rest e h = rw (eq-eqb kind 3 e, le-ltb rest 2 h)

-- where a number is that one, and where it is not
module _ {A : Type 0} {n m : ℕ} (x y : A) where
  pub where_is : n ≡ m → where_so (eqb n m) x y ≡ x
  unfolding where_so
  where_is e = ap (λ (b : Bool). where_so b x y) (eq-eqb n m e)

  pub where_not : (n ≡ m → ⊥) → where_so (eqb n m) x y ≡ y
  unfolding where_so
  where_not e = ap (λ (b : Bool). where_so b x y) (ne_eqb n m e)

-- THE BRANCHES OF A CASE, as the code tells them

pub on_kind : {kind is : ℕ} (b : Branch) → kind ≡ is → b ≡ fits_kind kind is b
unfolding fits_kind
on_kind b e = sym (where_is _ _ e)

pub on_other : {kind is : ℕ} (b : Branch) → (kind ≡ is → ⊥) → Refused ValueKind ≡ fits_kind kind is b
unfolding fits_kind
on_other b n = sym (where_not _ _ n)

pub second_list : {kind : ℕ} → kind ≡ 0x17 → Switch ≡ other_of kind
unfolding other_of
second_list e = sym (where_is _ _ e)

pub second_truth : {kind : ℕ} → (kind ≡ 0x17 → ⊥) → Plain 4 1 ≡ other_of kind
unfolding other_of
second_truth n = sym (where_not _ _ n)

-- a subject of each shape, and of none that fits
module _ (kind : ℕ) {q : Shape} {r : Branch} where
  pub fits_empty : q ≡ Empty → r ≡ fits_kind kind 0x17 (Plain 2 2) → r ≡ fit_of kind q
  unfolding fit_of
  fits_empty e h = rw e h

  pub fits_false : q ≡ False → r ≡ fits_kind kind 0x18 (Plain 2 0) → r ≡ fit_of kind q
  unfolding fit_of
  fits_false e h = rw e h

  pub fits_true : q ≡ True → r ≡ fits_kind kind 0x18 (Plain 4 1) → r ≡ fit_of kind q
  unfolding fit_of
  fits_true e h = rw e h

  pub fits_front : {mid : ℕ} → q ≡ Front mid → r ≡ fits_kind kind 0x17 (Parts 4 mid) → r ≡ fit_of kind q
  unfolding fit_of
  fits_front e h = rw e h

  pub fits_pair : {mid : ℕ} → q ≡ Pair mid → r ≡ fits_kind kind 0x19 (Parts 2 mid) → r ≡ fit_of kind q
  unfolding fit_of
  fits_pair e h = rw e h

-- WHAT A BRANCH TELLS of the case and of its subject
pub data FitsBranch (k : ℕ) : Shape → Branch → Type 0 where
  empty : k ≡ 0x17 → FitsBranch k Empty (Plain 2 2)
  front : {mid : ℕ} → k ≡ 0x17 → FitsBranch k (Front mid) (Parts 4 mid)
  untrue : k ≡ 0x18 → FitsBranch k False (Plain 2 0)
  so : k ≡ 0x18 → FitsBranch k True (Plain 4 1)
  pair : {mid : ℕ} → k ≡ 0x19 → FitsBranch k (Pair mid) (Parts 2 mid)
  misfit : {q : Shape} → fit_of k q ≡ Refused ValueKind → FitsBranch k q (Refused ValueKind)

by_kind : (k x : ℕ) (q : Shape) (b : Branch) → fit_of k q ≡ fits_kind k x b → (k ≡ x → FitsBranch k q b) → FitsBranch k q (fit_of k q)
unfolding fits_kind where_so
by_kind k x q b e f = go (eqb k x) refl
  where
    go : (p : Bool) → eqb k x ≡ p → FitsBranch k q (fit_of k q)
    go true h = let z : fit_of k q ≡ b = e ∙ ap (λ (p : Bool). where_so p b (Refused ValueKind)) h in rw z (f (eqb-true k x h))
    go false h = let z : fit_of k q ≡ Refused ValueKind = e ∙ ap (λ (p : Bool). where_so p b (Refused ValueKind)) h in rw z (misfit z)

pub fits_told : (k : ℕ) (q : Shape) → FitsBranch k q (fit_of k q)
unfolding fit_of
fits_told k Empty = by_kind k 0x17 Empty (Plain 2 2) refl empty
fits_told k (Front mid) = by_kind k 0x17 (Front mid) (Parts 4 mid) refl front
fits_told k False = by_kind k 0x18 False (Plain 2 0) refl untrue
fits_told k True = by_kind k 0x18 True (Plain 4 1) refl so
fits_told k (Pair mid) = by_kind k 0x19 (Pair mid) (Parts 2 mid) refl pair
fits_told k (Number n) = misfit refl
fits_told k Wide = misfit refl
fits_told k Malformed = misfit refl

-- as the code has it
pub fits_as : {k : ℕ} {q : Shape} {d b : Branch} → d ≡ fit_of k q → d ≡ b → FitsBranch k q b
fits_as {k} {q} e f = rw (← f, e) (fits_told k q)

-- whether a shape is a number's or none at all
unfoldable pub neither : Shape → Bool
neither Empty = false
neither (Front m) = false
neither False = false
neither True = false
neither (Pair m) = false
neither (Number i) = true
neither Wide = true
neither Malformed = true

pub fits_none : (kind : ℕ) (q : Shape) → neither q ≡ true → Refused ValueKind ≡ fit_of kind q
unfolding fit_of neither
fits_none kind Empty e = absurd (false≢true e)
fits_none kind (Front m) e = absurd (false≢true e)
fits_none kind False e = absurd (false≢true e)
fits_none kind True e = absurd (false≢true e)
fits_none kind (Pair m) e = absurd (false≢true e)
fits_none kind (Number i) e = refl
fits_none kind Wide e = refl
fits_none kind Malformed e = refl

pub kept_yes : (p q : Bool) (b c : Branch) → p ≡ true → b ≡ choice p q b c
unfolding choice
kept_yes p q b c e = rw e

pub other_yes : (p q : Bool) (b c : Branch) → p ≡ false → q ≡ true → c ≡ choice p q b c
unfolding choice
other_yes p q b c e f = rw (e, f)

pub neither_says : (p q : Bool) (b c : Branch) → p ≡ false → q ≡ false → Refused NoBranch ≡ choice p q b c
unfolding choice
neither_says p q b c e f = rw (e, f)

-- from the branch that the subject fits
module _ (kind : ℕ) (s : Shape) (p q : Bool) {r : Branch} where
  pub plain_first : {i byte : ℕ} {d o : Branch} → d ≡ fit_of kind s → d ≡ Plain i byte → i ≡ 2 → o ≡ other_of kind → r ≡ choice p q (Plain i byte) o
      → r ≡ take_of kind s p q
  unfolding take_of taken_from
  plain_first x e two f g = g ∙ rw (← x, e, f) (sym (where_is _ _ two))

  pub plain_second : {i byte : ℕ} {d : Branch} → d ≡ fit_of kind s → d ≡ Plain i byte → (i ≡ 2 → ⊥) → r ≡ choice q p (Plain i byte) (Plain 2 0)
      → r ≡ take_of kind s p q
  unfolding take_of taken_from
  plain_second x e n g = g ∙ rw (← x, e) (sym (where_not _ _ n))

  pub parts_split : {i mid : ℕ} {d : Branch} → d ≡ fit_of kind s → d ≡ Parts i mid → i ≡ 2 → r ≡ Parts i mid → r ≡ take_of kind s p q
  unfolding take_of taken_from
  parts_split x e two g = g ∙ rw (← x, e) (sym (where_is _ _ two))

  pub parts_list : {i mid : ℕ} {d : Branch} → d ≡ fit_of kind s → d ≡ Parts i mid → (i ≡ 2 → ⊥) → r ≡ choice q p (Parts i mid) (Plain 2 2)
      → r ≡ take_of kind s p q
  unfolding take_of taken_from
  parts_list x e n g = g ∙ rw (← x, e) (sym (where_not _ _ n))

-- the byte of a branch's node, for the code's sums
pub plain_low : {k i byte : ℕ} {q : Shape} → FitsBranch k q (Plain i byte) → i ≤ 4
plain_low (empty e) = omega arith
plain_low (untrue e) = omega arith
plain_low (so e) = omega arith

pub parts_low : {k i mid : ℕ} {q : Shape} → FitsBranch k q (Parts i mid) → i ≤ 4
parts_low (front e) = omega arith
parts_low (pair e) = omega arith

-- whether a branch is a switch or a refusal
unfoldable pub unfitting : Branch → Bool
unfitting (Plain i b) = false
unfitting (Parts i m) = false
unfitting Switch = true
unfitting (Refused c) = true

none_fits : {k : ℕ} {q : Shape} {b : Branch} → FitsBranch k q b → unfitting b ≡ true → Refused ValueKind ≡ b
unfolding unfitting
none_fits (empty e) n = absurd (false≢true n)
none_fits (front e) n = absurd (false≢true n)
none_fits (untrue e) n = absurd (false≢true n)
none_fits (so e) n = absurd (false≢true n)
none_fits (pair e) n = absurd (false≢true n)
none_fits (misfit e) n = refl

pub fits_refused : (k : ℕ) (q : Shape) {d : Branch} → d ≡ fit_of k q → unfitting d ≡ true → Refused ValueKind ≡ fit_of k q
fits_refused k q e h = none_fits (fits_told k q) (ap unfitting (sym e) ∙ h)

none_from : (kind : ℕ) (b : Branch) (p q : Bool) → unfitting b ≡ true → Refused ValueKind ≡ taken_from kind b p q
unfolding taken_from unfitting
none_from kind (Plain i b) p q e = absurd (false≢true e)
none_from kind (Parts i k) p q e = absurd (false≢true e)
none_from kind Switch p q e = refl
none_from kind (Refused c) p q e = refl

pub takes_none : (kind : ℕ) (s : Shape) (p q : Bool) {d : Branch} → d ≡ fit_of kind s → unfitting d ≡ true → Refused ValueKind ≡ take_of kind s p q
unfolding take_of
takes_none kind s p q {d} x h = rw (← x) (none_from kind d p q h)

-- what is said of a view's bytes is said of every view with whose bytes they agree as far as both tests need
pub taken : (kind : ℕ) (s : Shape) (t u : ℕ) (bs : List ℕ) {r : Branch} → r ≡ take_of kind s (passes_bytes t bs) (passes_bytes u bs)
    → (r ≡ take_of kind s (passes_bytes t bs) (passes_bytes u bs)) × TakenBy kind s t u bs r
taken kind s t u bs e = (e, λ v h a b. e ∙ ap₂ (take_of kind s) (passes_enough t v h bs a) (passes_enough u v h bs b))

-- WHAT THE BRANCH THAT A VIEW TAKES TELLS of the case and of its old subject
pub data Took (k : ℕ) (q : Shape) : Branch → Type 0 where
  emptied : k ≡ 0x17 → Took k q (Plain 2 2)
  denied : k ≡ 0x18 → Took k q (Plain 2 0)
  affirmed : k ≡ 0x18 → Took k q (Plain 4 1)
  parted : {i mid : ℕ} → FitsBranch k q (Parts i mid) → Took k q (Parts i mid)
  switched : k ≡ 0x17 → q ≡ Empty → Took k q Switch
  unfitted : Took k q (Refused ValueKind)
  unsaid : Took k q (Refused NoBranch)

chosen : {k : ℕ} {s : Shape} (p q : Bool) (b c : Branch) → Took k s b → Took k s c → Took k s (choice p q b c)
unfolding choice
chosen true q b c x y = x
chosen false true b c x y = y
chosen false false b c x y = unsaid

second_took : {k : ℕ} {s : Shape} → k ≡ 0x17 → s ≡ Empty → Took k s (other_of k)
second_took e f = rw (← second_list e) (switched e f)

took_from : {k : ℕ} {s : Shape} {b : Branch} (p q : Bool) → FitsBranch k s b → Took k s (taken_from k b p q)
unfolding taken_from where_so
took_from p q (empty e) = chosen p q _ _ (emptied e) (second_took e refl)
took_from p q (front e) = chosen q p _ _ (parted (front e)) (emptied e)
took_from {k} p q (untrue e) = chosen p q _ _ (denied e) (rw (← second_truth {kind = k} (λ z. omega (arith, e, z))) (affirmed e))
took_from p q (so e) = chosen q p _ _ (affirmed e) (denied e)
took_from p q (pair e) = parted (pair e)
took_from p q (misfit e) = unfitted

pub took : {k : ℕ} {s : Shape} {d b : Branch} (p q : Bool) → d ≡ take_of k s p q → d ≡ b → Took k s b
unfolding take_of
took {k} {s} p q e f = rw (← f, e) (took_from p q (fits_told k s))

-- A VIEW TAKEN APART

module _ {kind : ℕ} {q : Shape} {mid : ℕ} where
  pub apart_front : q ≡ Front mid → kind ≡ 0x15 → At mid ≡ apart_of kind q
  unfolding apart_of
  apart_front e h = rw e (sym (where_is _ _ h))

  pub front_other : q ≡ Front mid → (kind ≡ 0x15 → ⊥) → Other ≡ apart_of kind q
  unfolding apart_of
  front_other e h = rw e (sym (where_not _ _ h))

  pub pair_other : q ≡ Pair mid → kind ≡ 0x15 → Other ≡ apart_of kind q
  unfolding apart_of
  pair_other e h = rw e (sym (where_is _ _ h))

  pub apart_pair : q ≡ Pair mid → (kind ≡ 0x15 → ⊥) → At mid ≡ apart_of kind q
  unfolding apart_of
  apart_pair e h = rw e (sym (where_not _ _ h))

-- whether a shape has not two parts
unfoldable pub whole : Shape → Bool
whole (Front m) = false
whole (Pair m) = false
whole Empty = true
whole False = true
whole True = true
whole (Number i) = true
whole Wide = true
whole Malformed = true

pub no_apart : (kind : ℕ) (q : Shape) → whole q ≡ true → Other ≡ apart_of kind q
unfolding apart_of whole
no_apart kind (Front m) e = absurd (false≢true e)
no_apart kind (Pair m) e = absurd (false≢true e)
no_apart kind Empty e = refl
no_apart kind False e = refl
no_apart kind True e = refl
no_apart kind (Number i) e = refl
no_apart kind Wide e = refl
no_apart kind Malformed e = refl

-- the kind that is made
pub made_front : {kind : ℕ} → kind ≡ 0x15 → 3 ≡ made_of kind
unfolding made_of
made_front e = sym (where_is _ _ e)

pub made_list : {kind : ℕ} → (kind ≡ 0x15 → ⊥) → kind ≡ 0x17 → 3 ≡ made_of kind
unfolding made_of
made_list n e = sym (where_not _ _ n ∙ where_is _ _ e)

pub made_pair : {kind : ℕ} → (kind ≡ 0x15 → ⊥) → (kind ≡ 0x17 → ⊥) → 5 ≡ made_of kind
unfolding made_of
made_pair n m = sym (where_not _ _ n ∙ where_not _ _ m)

-- A MEMBER BEHIND ITS 03: a refusal is handed on; the list is too long with it; or it fits
module _ (got built top : ℕ) where
  pub front_refused : is_refusal got ≡ true → got ≡ fronted_as got built top
  unfolding fronted_as where_so
  front_refused e = rw e

  module _ {l : ℕ} (there : is_refusal got ≡ false) (len : l ≡ len_of got) where
    pub front_long : ltb 256 (built + (1 + l) + 1) ≡ true → 44 ≡ fronted_as got built top
    unfolding fronted_as where_so
    front_long e = rw (there, ← len, e)

    pub front_done : {n : ℕ} → ltb 256 (built + (1 + l) + 1) ≡ false → n ≡ steps_of got → done_as top (1 + l) n ≡ fronted_as got built top
    unfolding fronted_as where_so
    front_done e steps = rw (there, ← len, e, steps)

-- what `fronted` answers
pub ruleset fronts = (front_refused, front_long, front_done, len_small)
