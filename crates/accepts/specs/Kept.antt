-- The comparison of two plans, as far as it has come.
use Rattle.std.specs.Prelude.{◌≡◌, Bool, true, false, ◌&&◌, ◌||◌, List, length, get_or, take, drop}
use Rattle.std.proofs.Common.{refl, sym, ◌∙◌, add-one}
use Rattle.std.proofs.Math.Bool.{or-true}
use Rattle.std.proofs.Math.Path.{ap, ap₂}
use Prim.Native.Nat.{ℕ, suc, ◌+◌, ◌-◌, ◌≤◌, ◌<◌}
use native.Mathlib.Omega.{arith}
use Rattle.value.specs.Result.{ok}
use Rattle.value.specs.Value.{Value, vfalse, encode}
use Rattle.shapes.specs.Parts.{same_bytes}
use Rattle.value.specs.Reading.{read_plan}
use Rattle.value.proofs.Laws.{read_values_sound}
use Rattle.value.specs.Spans.{spans}
use Rattle.value.proofs.SpansLaws.{span_is, span_inside}
use Rattle.value.specs.declared.Spans.{Spans}
use Rattle.sheet.specs.declared.Table.{Table}
use Rattle.sheet.specs.Sheet.{Sheet, read_sheet}
use Rattle.sheet.specs.Laws.{Reads}
use Rattle.rules.specs.Counting.{Env}
use Rattle.undo.specs.Alike.{names}
use Rattle.venue.specs.Accepts.{spared, spared_from, kept}
use Rattle.accepts.specs.Marks.{same_sheet, is_marked, Marks}

-- THE BYTES OF A VARIABLE

abbrev pub span_of : List ℕ → Spans → ℕ → List ℕ
span_of plan sp x = take (get_or sp.lens x 0) (drop (get_or sp.starts x 0) plan)

pub record Within (plan : List ℕ) (sp : Spans) (x : ℕ) : Type 0 where
  pub few : x < 16
  pub inside : get_or sp.starts x 0 + get_or sp.lens x 0 ≤ length plan

module _ (k : ℕ) (plan : List ℕ) {sp : Spans} {vs : List Value} (read : read_plan k plan ≡ ok vs) (is : sp ≡ spans vs) (x : ℕ) (h : x < k) where
  there : x < length vs
  there = omega (arith, (read_values_sound 20 k plan read).count)

  span_value : span_of plan sp x ≡ encode (get_or vs x vfalse)
  span_value = rw (is, (read_values_sound 20 k plan read).bytes) (span_is vs x there)

  within : k ≤ 16 → Within plan sp x
  within l = record {
    few = omega arith;
    inside = rw (is, (read_values_sound 20 k plan read).bytes) (span_inside vs x there);
  }

-- BOTH PLANS

-- the sheet and both plans are read, with where their values stand
pub record Plans (sheet : List ℕ) (t : Table) (old : List ℕ) (before : Spans) (new : List ℕ) (after : Spans) : Type 0 where
  pub sh : Sheet
  pub reads : Reads sheet t sh
  pub μ : Env
  pub old_read : read_plan sh.k old ≡ ok μ
  pub before_is : before ≡ spans μ
  pub ν : Env
  pub new_read : read_plan sh.k new ≡ ok ν
  pub after_is : after ≡ spans ν

abbrev pub KeptAs : (sheet old new : List ℕ) → Bool → Type 0
KeptAs sheet old new r = (sh : Sheet) → read_sheet sheet ≡ ok sh → (μ ν : Env) → read_plan sh.k old ≡ ok μ → read_plan sh.k new ≡ ok ν → r ≡ kept sh μ ν

as_kept : (sheet old new : List ℕ) {sh : Sheet} {μ ν : Env} → read_sheet sheet ≡ ok sh → read_plan sh.k old ≡ ok μ → read_plan sh.k new ≡ ok ν
    → {b : Bool} → kept sh μ ν ≡ b → KeptAs sheet old new b
as_kept sheet old new {sh} {μ} {ν} es eo en {b} e sh' f μ' ν' g h =
    let z : sh ≡ sh' = same_sheet sheet es f in
    let m : μ ≡ μ' = let y = rw z at eo in cc in
    let n : ν ≡ ν' = let y = rw z at en in cc in
    sym (rw (z, m, n) at e)

-- variables below x are spared
pub record Keeping (sheet : List ℕ) (t : Table) (old : List ℕ) (before : Spans) (new : List ℕ) (after : Spans) (x : ℕ) : Type 0 where
  pub plans : Plans sheet t old before new after
  pub few : x ≤ t.k
  pub rest : kept plans.sh plans.μ plans.ν ≡ spared_from plans.sh plans.μ plans.ν x (t.k - x)

module _ {sheet : List ℕ} {t : Table} {old : List ℕ} {before : Spans} {new : List ℕ} {after : Spans} where
  pub none_kept : Plans sheet t old before new after → Keeping sheet t old before new after 0
  unfolding kept
  none_kept p = record { plans = p; few = omega arith; rest = ap (spared_from p.sh p.μ p.ν 0) (sym p.reads.k ∙ omega arith) }

  module _ {x : ℕ} (to : Keeping sheet t old before new after x) where
    abbrev p : Plans sheet t old before new after
    p = to.plans

    ends_kept : {b : Bool} → kept p.sh p.μ p.ν ≡ b → KeptAs sheet old new b
    ends_kept = as_kept sheet old new p.reads.sheet p.old_read p.new_read

    pub all_kept : t.k ≤ x → KeptAs sheet old new true
    unfolding spared_from
    all_kept h = let z : t.k - x ≡ 0 = omega arith in ends_kept (to.rest ∙ rw z)

    module _ (h : x < t.k) where
      few_variables : p.sh.k ≤ 16
      few_variables = p.reads.ranges.few_variables

      here : x < p.sh.k
      here = omega (arith, p.reads.k)

      pub both_within : Within old before x × Within new after x
      both_within =
          let k = p.sh.k in
          (within k old p.old_read p.before_is x here few_variables, within k new p.new_read p.after_is x here few_variables)

      names_as : (m : List Bool) → Marks sheet m → {b : Bool} → is_marked m x ≡ b → names x p.sh.nodes ≡ b
      names_as m n f = sym (n p.sh p.reads.sheet x (omega (arith, few_variables, here))) ∙ f

      module _ {same : Bool} (s : same ≡ same_bytes (span_of old before x) (span_of new after x)) where
        next_kept : kept p.sh p.μ p.ν ≡ (same || names x p.sh.nodes) && spared_from p.sh p.μ p.ν (x + 1) (t.k - (x + 1))
        unfolding spared_from spared
        next_kept =
            let z : t.k - x ≡ suc (t.k - (x + 1)) = omega arith in
            let q : same ≡ same_bytes (encode (get_or p.μ x vfalse)) (encode (get_or p.ν x vfalse)) = s
            ∙ ap₂ same_bytes (span_value p.sh.k old p.old_read p.before_is x here) (span_value p.sh.k new p.new_read p.after_is x here) in
            to.rest ∙ rw (z, q, add-one)

        pub same_kept : same ≡ true → Keeping sheet t old before new after (x + 1)
        same_kept e = record { plans = p; few = omega arith; rest = rw e at next_kept }

        pub not_kept : (m : List Bool) → Marks sheet m → is_marked m x ≡ false → same ≡ false → KeptAs sheet old new false
        not_kept m n f e = ends_kept (rw (e, names_as m n f) at next_kept)

      pub named_kept : (m : List Bool) → Marks sheet m → is_marked m x ≡ true → Keeping sheet t old before new after (x + 1)
      named_kept m n f = record {
        plans = p;
        few = omega arith;
        rest = rw (names_as m n f, or-true) at (next_kept {same = same_bytes (span_of old before x) (span_of new after x)} refl);
      }
