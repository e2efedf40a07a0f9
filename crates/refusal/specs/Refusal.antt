-- The refusals by their numbers.
use Rattle.std.specs.Prelude.{◌≡◌, ℕ, Option, Result, MatchOption, MatchResult}
use Rattle.refusal.specs.declared.Refusal.{Refusal}
use Rattle.refusal.specs.declared.NoRefusal.{NoRefusal}
use Rattle.refusal.specs.declared.Refusal.TheVariants.{
  OutputSmall,
  ScratchSmall,
  AllowanceRange,
  SheetKind,
  SheetCut,
  SheetFull,
  SheetRange,
  SheetEmpty,
  PlanMalformed,
  PlanLong,
  PlanCount,
  Variable,
  Starts,
  ViewMalformed,
  ViewLong,
  ViewCount,
  Depth,
  Spent,
  Scope,
  ValueKind,
  ValueLong,
  Sum,
  Test,
  Constant,
  ViewKind,
  ViewBelow,
  NoBranch,
  Clash,
  JobMalformed,
  JobLong,
  JsonMalformed,
  JsonDepth,
  JsonLong,
  TypesMalformed,
  NodeTwice,
  NodeType,
  SheetsDiffer,
  JoinFull,
  NewPlan,
  OtherKind,
  GrowthLarge,
  TextToken,
  TextName,
  TextTaken,
  TextNumber,
  TextFull,
}

-- the number of a refusal in the papers' tables
abbrev pub number_of : Refusal → ℕ
number_of OutputSmall = 1
number_of ScratchSmall = 2
number_of AllowanceRange = 3
number_of SheetKind = 10
number_of SheetCut = 11
number_of SheetFull = 12
number_of SheetRange = 13
number_of SheetEmpty = 14
number_of PlanMalformed = 20
number_of PlanLong = 21
number_of PlanCount = 22
number_of Variable = 23
number_of Starts = 24
number_of ViewMalformed = 30
number_of ViewLong = 31
number_of ViewCount = 32
number_of Depth = 40
number_of Spent = 41
number_of Scope = 42
number_of ValueKind = 43
number_of ValueLong = 44
number_of Sum = 45
number_of Test = 46
number_of Constant = 50
number_of ViewKind = 51
number_of ViewBelow = 52
number_of NoBranch = 53
number_of Clash = 54
number_of JobMalformed = 60
number_of JobLong = 61
number_of JsonMalformed = 70
number_of JsonDepth = 71
number_of JsonLong = 72
number_of TypesMalformed = 80
number_of NodeTwice = 81
number_of NodeType = 82
number_of SheetsDiffer = 83
number_of JoinFull = 84
number_of NewPlan = 85
number_of OtherKind = 87
number_of GrowthLarge = 88
number_of TextToken = 90
number_of TextName = 91
number_of TextTaken = 92
number_of TextNumber = 93
number_of TextFull = 94

-- the refusal that has a number, or none has it
abbrev pub Known : ℕ → Option Refusal → Type 0
Known n r = MatchOption r ((a : Refusal) → number_of a ≡ n → ⊥) (λ a. number_of a ≡ n)

-- a number read: the refusal that has it, or that no refusal has it
abbrev pub Decodes : ℕ → Result Refusal NoRefusal → Type 0
Decodes n r = MatchResult r (λ a. number_of a ≡ n) (λ e. (e.0 ≡ n) × ((a : Refusal) → number_of a ≡ n → ⊥))
