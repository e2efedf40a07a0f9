-- What a call of get asks, handed on from call to call, and what a call that was done tells of its sizes.
use Rattle.std.specs.Prelude.{◌≡◌, false, List, ℕ, zero, suc, ◌+◌, ◌*◌, ◌≤◌, ◌<◌, length}
use Rattle.std.proofs.Common.{◌∙◌, le_refl, arith}
use Rattle.outcome.specs.Outcome.{is_refusal, len_of, start_of, steps_of}
use Rattle.value.specs.Value.{Value}
use Rattle.sheet.specs.Records.{record_at}
use Rattle.sheet.specs.Sheet.{Sheet}
use Rattle.rules.specs.Semantics
use Rattle.rules.specs.Semantics.{Env}
use Rattle.rules.specs.Explain.{got, within}
use Rattle.rules.specs.Numbers.{allowance_limit, chain_start}
use Rattle.scopes.specs.declared.Scope.{Scope}
use Rattle.walk.specs.Decoded.{decoded_done}
use Rattle.walk.specs.declared.at.At.{At}
use Rattle.walk.specs.Arena.Parts.{SameBelow, kept_refl}
use Rattle.walk.specs.Arena.{Scoped, env_later}
use Rattle.walk.specs.Arena.Bytes.{held_some, held_short}
use Rattle.walk.specs.Members.{get_from}
use Rattle.walk.specs.Represents.{had}
use Rattle.walk.specs.Steps.{Frugal, frugal_give, frugal_next, frugal_given, get_frugal, get_node_frugal, get_each_frugal}
use Rattle.walk.specs.Get.{Task, enter, own, branch, members, run, Known, Ready, GetShows, Here, Asked, Asks}

-- a call further on: the arena is kept below the top, and the top is raised
module _ {s table b : List ℕ} {sc : Scope} {top levels left : ℕ} {t : Task} (w : Ready s table b sc top levels left t) where
  module _ {a : List ℕ} (kept : SameBelow top b a) (top' levels' left' : ℕ) (p : top ≤ top') (few : left' ≤ allowance_limit)
      (room : top' + 513 * levels' ≤ chain_start)
    where
      -- in another scope
      pub ready_in : {sc' : Scope} {t' : Task} → sc'.count + 2 * levels' ≤ 112 → Known w.sheet.sh t' → (μ : Env) → Scoped a sc' top' μ
          → Ready s table a sc' top' levels' left' t'
      ready_in variables known μ e = record {
        long = kept.long ∙ w.long;
        few = few;
        base = omega (arith, w.base);
        room = room;
        variables = variables;
        sheet = w.sheet;
        known = known;
        env = μ;
        scoped = e;
      }

      -- in the same scope
      pub ready_later : {t' : Task} → levels' ≤ levels → Known w.sheet.sh t' → Ready s table a sc top' levels' left' t'
      ready_later h known = ready_in (omega (arith, w.variables)) known w.env (env_later kept w.base top' p w.scoped)

-- the first call of a kind's function: as it was asked, in the level below
pub first_asks : {h : Here} {k n x : ℕ} (w : Asked h k n) → x < length w.sheet.sh.nodes → Asks h x
first_asks {h} w i =
    let z : h.top + 513 * suc h.levels ≤ chain_start = w.room in
    ready_later w (kept_refl _ _) h.top h.levels h.left (le_refl _) (omega (arith, w.few)) (omega arith) (omega arith) i

-- a call was done: a value's bytes, and no more steps than were left
pub record Sizes (top start len n left levels : ℕ) : Type 0 where
  pub low : start ≤ top
  pub some : 1 ≤ len
  pub short : len ≤ 256
  pub steps : n ≤ left
  pub deep : 1 ≤ levels

-- no more steps were taken than were left
pub run_frugal : (l : ℕ) (sh : Sheet) (t : Task) (μ : Env) → Frugal (run l sh t μ)
unfolding run Semantics.tested get_from
run_frugal l sh (enter n) μ = get_frugal l sh n μ
run_frugal l sh (own k s n) μ = get_node_frugal l sh (record_at k s n) μ
run_frugal l sh (branch t n) μ = frugal_next (get_frugal l sh n μ) λ v. frugal_given _ _ λ _. frugal_give v
run_frugal l sh (members x root ms) μ = frugal_next (get_each_frugal l sh root _ _ ms) λ ws. frugal_give _

pub few_steps : {s table b a : List ℕ} {sc : Scope} {levels left from low left' q l : ℕ} {t t' : Task} → Ready s table b sc from levels left t
    → GetShows b a s sc from low left' q l t' → is_refusal q ≡ false → steps_of q ≤ left'
few_steps {left' = left'} {q = q} {l = l} {t' = t'} w g e =
    (run_frugal l w.sheet.sh t' w.env).few left' (had (g.told w.sheet.sh w.sheet.read w.env w.scoped) (decoded_done _ _ q e)).is

-- with no level left a node is refused
deep : {l : ℕ} (left : ℕ) (sh : Sheet) (x : ℕ) (μ : Env) {v : Value} {n : ℕ} → within left (run l sh (enter x) μ) ≡ got v n → 1 ≤ l
unfolding run Semantics.get
deep {l = zero} left sh x μ e = absurd (let z : ◌≡◌ {A = ℕ} 0 1 = cc in omega arith)
deep {l = suc l} left sh x μ e = omega arith

-- whatever was answered
pub record Sized (top left levels r : ℕ) : Type 0 where
  pub at : is_refusal r ≡ false → Sizes top (start_of r) (len_of r) (steps_of r) left levels

pub sized : {s table b a : List ℕ} {sc : Scope} {top levels left x r : ℕ} → Ready s table b sc top levels left (enter x)
    → GetShows b a s sc top top left r levels (enter x) → Sized top left levels r
sized {levels = levels} {left = left} {x = x} {r = r} w g = record {
  at = λ e.
      let d = had (g.told w.sheet.sh w.sheet.read w.env w.scoped) (decoded_done _ _ r e) in
      record {
        low = d.that.low;
        some = held_some d.that.held;
        short = held_short d.that.held;
        steps = (run_frugal levels w.sheet.sh (enter x) w.env).few left d.is;
        deep = deep left w.sheet.sh x w.env d.is;
      };
}

pub sized_as : {at at' : At} {r : ℕ} → at ≡ at' → Sized at.top at.left at.levels r → Sized at'.top at'.left at'.levels r
sized_as e z = rw e at z
