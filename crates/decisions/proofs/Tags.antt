-- What the last arm of a match tells: the value is of none of the variants before.
use mathlib.Core.Path.{◌≡◌, refl}
use mathlib.Core.Bool.{true}
use Rattle.std.proofs.Common.{ℕ}
use Rattle.shapes.specs.declared.Shape.{Shape}
use Rattle.shapes.specs.declared.Shape.TheVariants.{False, True, Empty, Front, Number, Pair, Wide, Malformed}
use Rattle.decisions.specs.declared.Branch.{Branch}
use Rattle.decisions.specs.declared.Branch.TheVariants.{Plain, Parts, Switch, Refused}
use Rattle.decisions.specs.DecisionLaws.{
  neither,
  whole,
  unfitting,
  fits_empty,
  fits_front,
  fits_false,
  fits_true,
  fits_pair,
  fits_none,
  apart_front,
  front_other,
  pair_other,
  apart_pair,
  no_apart,
}

pub fits_neither :
    (q : Shape) → (q ≡ False → ⊥) → (q ≡ True → ⊥) → (q ≡ Empty → ⊥) → ((m : ℕ) → q ≡ Front m → ⊥) → ((m : ℕ) → q ≡ Pair m → ⊥) → neither q ≡ true
unfolding neither
fits_neither False is_false is_true empty front pair = absurd (is_false refl)
fits_neither True is_false is_true empty front pair = absurd (is_true refl)
fits_neither Empty is_false is_true empty front pair = absurd (empty refl)
fits_neither (Front m) is_false is_true empty front pair = absurd (front m refl)
fits_neither (Number n) is_false is_true empty front pair = refl
fits_neither (Pair m) is_false is_true empty front pair = absurd (pair m refl)
fits_neither Wide is_false is_true empty front pair = refl
fits_neither Malformed is_false is_true empty front pair = refl

pub is_whole : (q : Shape) → ((m : ℕ) → q ≡ Front m → ⊥) → ((m : ℕ) → q ≡ Pair m → ⊥) → whole q ≡ true
unfolding whole
is_whole False front pair = refl
is_whole True front pair = refl
is_whole Empty front pair = refl
is_whole (Front m) front pair = absurd (front m refl)
is_whole (Number n) front pair = refl
is_whole (Pair m) front pair = absurd (pair m refl)
is_whole Wide front pair = refl
is_whole Malformed front pair = refl

pub is_unfitting : (b : Branch) → ((i x : ℕ) → b ≡ Plain i x → ⊥) → ((i m : ℕ) → b ≡ Parts i m → ⊥) → unfitting b ≡ true
unfolding unfitting
is_unfitting (Plain i x) plain parts = absurd (plain i x refl)
is_unfitting (Parts i m) plain parts = absurd (parts i m refl)
is_unfitting Switch plain parts = refl
is_unfitting (Refused c) plain parts = refl

-- what `fits` and `take_apart` answer
pub ruleset fittings = (fits_empty, fits_front, fits_false, fits_true, fits_pair, fits_none, fits_neither)

pub ruleset apart = (apart_front, front_other, pair_other, apart_pair, no_apart, is_whole)
