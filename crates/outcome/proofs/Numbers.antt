-- The low byte of an answer is 0 or the number of a refusal.
use Rattle.std.specs.Prelude.{◌≡◌, Bool, true, false, refl, ℕ, suc, ◌+◌, ◌*◌, ◌%◌, ◌≤◌, ◌<◌, ltb, Result, Ok, Err, Option, None, Some}
use Rattle.std.specs.Result.{result_ok}
use Rattle.std.proofs.Common.{sym, ap, ◌∙◌, arith}
use Rattle.std.proofs.lemmas.Bool.{false≢true}
use borrow.Author.Tests.{lt-ltb}
use Rattle.refusal.specs.declared.Refusal.{Refusal}
use Rattle.refusal.specs.declared.NoRefusal.{NoRefusal}
use Rattle.refusal.specs.declared.Refusal.TheVariants.{
  OutputSmall,
  ScratchSmall,
  AllowanceRange,
  SheetKind,
  SheetCut,
  SheetFull,
  SheetRange,
  SheetEmpty,
  PlanMalformed,
  PlanLong,
  PlanCount,
  Variable,
  Starts,
  ViewMalformed,
  ViewLong,
  ViewCount,
  Depth,
  Spent,
  Scope,
  ValueKind,
  ValueLong,
  Sum,
  Test,
  Constant,
  ViewKind,
  ViewBelow,
  NoBranch,
  Clash,
  JobMalformed,
  JobLong,
  JsonMalformed,
  JsonDepth,
  JsonLong,
  TypesMalformed,
  NodeTwice,
  NodeType,
  SheetsDiffer,
  JoinFull,
  NewPlan,
  OtherKind,
  GrowthLarge,
  TextToken,
  TextName,
  TextTaken,
  TextNumber,
  TextFull,
}
use Rattle.refusal.specs.Refusal.{number_of, Decodes}
use Rattle.outcome.specs.Outcome.{
  done_as,
  refused_by,
  is_refusal,
  code_of,
  len_of,
  start_of,
  steps_of,
  deeper_as,
  later_as,
  Numbered,
  Refuses,
  done_there,
  len_small,
  start_small,
  later_refused,
  later_done,
}

-- no refusal has the number 0, and each is a byte
pub number_fits : (r : Refusal) → (1 ≤ number_of r) × (number_of r < 256)
number_fits OutputSmall = (omega arith, omega arith)
number_fits ScratchSmall = (omega arith, omega arith)
number_fits AllowanceRange = (omega arith, omega arith)
number_fits SheetKind = (omega arith, omega arith)
number_fits SheetCut = (omega arith, omega arith)
number_fits SheetFull = (omega arith, omega arith)
number_fits SheetRange = (omega arith, omega arith)
number_fits SheetEmpty = (omega arith, omega arith)
number_fits PlanMalformed = (omega arith, omega arith)
number_fits PlanLong = (omega arith, omega arith)
number_fits PlanCount = (omega arith, omega arith)
number_fits Variable = (omega arith, omega arith)
number_fits Starts = (omega arith, omega arith)
number_fits ViewMalformed = (omega arith, omega arith)
number_fits ViewLong = (omega arith, omega arith)
number_fits ViewCount = (omega arith, omega arith)
number_fits Depth = (omega arith, omega arith)
number_fits Spent = (omega arith, omega arith)
number_fits Scope = (omega arith, omega arith)
number_fits ValueKind = (omega arith, omega arith)
number_fits ValueLong = (omega arith, omega arith)
number_fits Sum = (omega arith, omega arith)
number_fits Test = (omega arith, omega arith)
number_fits Constant = (omega arith, omega arith)
number_fits ViewKind = (omega arith, omega arith)
number_fits ViewBelow = (omega arith, omega arith)
number_fits NoBranch = (omega arith, omega arith)
number_fits Clash = (omega arith, omega arith)
number_fits JobMalformed = (omega arith, omega arith)
number_fits JobLong = (omega arith, omega arith)
number_fits JsonMalformed = (omega arith, omega arith)
number_fits JsonDepth = (omega arith, omega arith)
number_fits JsonLong = (omega arith, omega arith)
number_fits TypesMalformed = (omega arith, omega arith)
number_fits NodeTwice = (omega arith, omega arith)
number_fits NodeType = (omega arith, omega arith)
number_fits SheetsDiffer = (omega arith, omega arith)
number_fits JoinFull = (omega arith, omega arith)
number_fits NewPlan = (omega arith, omega arith)
number_fits OtherKind = (omega arith, omega arith)
number_fits GrowthLarge = (omega arith, omega arith)
number_fits TextToken = (omega arith, omega arith)
number_fits TextName = (omega arith, omega arith)
number_fits TextTaken = (omega arith, omega arith)
number_fits TextNumber = (omega arith, omega arith)
number_fits TextFull = (omega arith, omega arith)

-- an answer that gives no refusal is a success
pub no_refusal : (a : ℕ) (r : Option Refusal) → Refuses a r → ((x : Refusal) → r ≡ Some x → ⊥) → is_refusal a ≡ false
no_refusal a None h n = h
no_refusal a (Some x) h n = absurd (n x refl)

pub done_numbered : (start len steps : ℕ) → Numbered (done_as start len steps)
done_numbered start len steps e = absurd (false≢true (sym (done_there start len steps) ∙ e))

pub refused_numbered : {n : ℕ} (r : Refusal) → n ≡ number_of r → Numbered n
unfolding code_of
refused_numbered {n} r e _ = let z = number_fits r in (r, omega (arith, e))

pub by_numbered : {n : ℕ} (i : ℕ) (r : Refusal) → n ≡ number_of r → Numbered (n + 16777216 * i)
unfolding code_of
by_numbered {n} i r e _ = let z = number_fits r in (r, omega (arith, e))

pub deeper_numbered : (a n s : ℕ) → Numbered a → Numbered (a % 256 + 256 * n + 16777216 * s)
unfolding is_refusal code_of
deeper_numbered a n s h e =
    let z : (a % 256 + 256 * n + 16777216 * s) % 256 ≡ a % 256 = omega arith in
    let p = h (sym (ap (ltb 0) z) ∙ e) in
    (p.0, p.1 ∙ sym z)

-- what the functions over numbers make, of an answer's number, is one's too
pub done_answer : {b : ℕ} (start len steps : ℕ) → b ≡ done_as start len steps → Numbered b
done_answer start len steps e = rw e (done_numbered start len steps)

pub by_answer : {b : ℕ} (i : ℕ) (r : Refusal) → b ≡ refused_by (number_of r) i → Numbered b
unfolding refused_by
by_answer i r e = rw e (by_numbered (suc i) r refl)

pub deeper_answer : {b : ℕ} (a : ℕ) → b ≡ deeper_as a → Numbered a → Numbered b
unfolding deeper_as code_of
deeper_answer a e h = rw e (deeper_numbered a ((len_of a + 1) % 65536) (start_of a) h)

pub later_answer : {b : ℕ} (a n : ℕ) → b ≡ later_as a n → Numbered a → Numbered b
later_answer {b} a n e h = go (is_refusal a) refl
  where
    go : (q : Bool) → is_refusal a ≡ q → Numbered b
    go true t = rw (e ∙ later_refused a n t) h
    go false t = done_answer (start_of a) (len_of a) (n % 16777216 + steps_of a) (e ∙ later_done a n t)

-- the low byte read
pub read_refusal : (a : ℕ) {n : ℕ} (q : Result Refusal NoRefusal) → Numbered a → n ≡ code_of a → Decodes n q → Refuses a (result_ok q)
unfolding is_refusal code_of
read_refusal a (Ok r) h e d = let z = number_fits r in (lt-ltb 0 (a % 256) (omega (arith, d, e)), d ∙ e)
read_refusal a (Err x) h e d = go (ltb 0 (a % 256)) refl
  where
    go : (b : Bool) → ltb 0 (a % 256) ≡ b → ltb 0 (a % 256) ≡ false
    go false t = t
    go true t = let p = h t in absurd (d.1 p.0 (p.1 ∙ sym e))

-- what an answer with one node more of its chain is made by
pub ruleset deeper_laws = (len_small, start_small, deeper_numbered)
