-- What a put of a joined sheet says of the puts of its parts (request 7).
use Rattle.std.specs.Prelude.{◌≡◌, true, List, ◌∷◌, ◌++◌, ℕ, ◌+◌, get_or}
use Rattle.value.specs.Result.{ok}
use Rattle.value.specs.Value.{Value, vfalse}
use Rattle.value.specs.Reading.{read_plan, read_view}
use Rattle.sheet.specs.Sheet.{Sheet, read_sheet}
use Rattle.rules.specs.Counting.{Env}
use Rattle.rules.specs.Answer.{success, put_answer}
use Rattle.rules.specs.Bits.{bit, put_written}
use Rattle.joined.specs.Levels.{NoDeeper, put_from}
use Rattle.joined.specs.JoinedCalls.{Joins}

-- putting the view enters no node deeper than l: with l levels it is not refused with 40
pub record PutsWithin (l : ℕ) (sheet plan view : List ℕ) : Type 0 where
  pub no_deeper : {sh : Sheet} {μ : Env} {vs : List Value} → read_sheet sheet ≡ ok sh → read_plan sh.k plan ≡ ok μ → read_view view ≡ ok vs
      → NoDeeper (put_from l sh sh.root μ (get_or vs 0 vfalse))

-- where the joined put succeeds, so did both, with no node deeper than 47, and no variable takes two values
module _ {s t u : List ℕ} (h : Joins s t u) (plan view : List ℕ) (allowance output scratch : ℕ) where
  pub record Apart (n : ℕ) : Type 0 where
    pub x : List ℕ
    pub y : List ℕ
    pub view_is : view ≡ 0x05 ∷ x ++ y
    pub p : List ℕ
    pub q : List ℕ
    pub m : ℕ
    pub l : ℕ
    pub first : put_answer s plan x allowance output scratch ≡ success p m
    pub second : put_answer t plan y allowance output scratch ≡ success q l
    pub counted : n ≡ 1 + m + l
    pub shallow : PutsWithin 47 s plan x
    pub shallow' : PutsWithin 47 t plan y
    pub ν₁ : Env
    pub ν₂ : Env
    pub read₁ : read_plan h.first.k p ≡ ok ν₁
    pub read₂ : read_plan h.first.k q ≡ ok ν₂
    pub agree : (i : ℕ) → bit i (put_written s plan x allowance) ≡ true → bit i (put_written t plan y allowance) ≡ true →
        get_or ν₁ i vfalse ≡ get_or ν₂ i vfalse
