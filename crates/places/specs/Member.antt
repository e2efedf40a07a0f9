-- A function of a cycle of calls: the measure of its arguments, what it is given at a measure, what a call of it asks, and its places.
-- Assumes nothing.
use Rattle.std.specs.Prelude.{List, ℕ, ◌<◌}
use borrow.Fn.Kind.{ParamKind, ResultKind}
use borrow.Fn.Kinds.{In, Out}
use borrow.Fn.PlainCycle.{Measures, is, falls, and}

pub record Member : Type 3 where
  pub lifetimes : ℕ
  pub takes : List (ParamKind lifetimes)
  pub gives : ResultKind lifetimes
  pub measure : Measures lifetimes takes ℕ
  pub pre : In lifetimes takes

module _ (m : Member) where
  -- what it is given at the measure t
  abbrev pub AtMeasure : ℕ → In m.lifetimes m.takes
  AtMeasure t = and m.lifetimes m.takes (is m.lifetimes m.takes m.measure t) m.pre

  -- what a call of it asks below the measure t
  abbrev pub BelowMeasure : ℕ → In m.lifetimes m.takes
  BelowMeasure t = and m.lifetimes m.takes (falls m.lifetimes m.takes ◌<◌ m.measure t) m.pre

  -- its places, of the claims C about what it calls
  abbrev pub PlacesOf : Type 1 → Type 1
  PlacesOf C = C → In m.lifetimes m.takes → Out m.lifetimes m.takes m.gives → Type 0

  -- and of a function with a loop: of its invariant and its measure too
  abbrev pub LoopPlacesOf : Type 1 → Type 1 → Type 0 → Type 1
  LoopPlacesOf C I M = C → In m.lifetimes m.takes → Out m.lifetimes m.takes m.gives → I → M → Type 0
