-- What the functions of this crate give, for every input.
use Rattle.std.specs.Prelude.{◌≡◌, Bool, true, false, ◌&&◌, ◌||◌, List, ℕ, zero, suc, ◌+◌, eqb, ltb, ⊤, Result, MatchResult}
use Rattle.refusal.specs.declared.Refusal.{Refusal}
use Rattle.refusal.specs.Refusal.{number_of}
use Rattle.refusal.specs.declared.Refusal.TheVariants.{ValueKind, NoBranch}
use Rattle.decisions.specs.declared.Branch.{Branch}
use Rattle.decisions.specs.declared.Branch.TheVariants.{Plain, Parts, Switch, Refused}
use Rattle.decisions.specs.declared.Apart.{Apart}
use Rattle.decisions.specs.declared.Apart.TheVariants.{At, Other}
use Rattle.outcome.specs.Outcome.{done_as, is_refusal, len_of, steps_of}
use Rattle.value.specs.Value.{Value}
use Rattle.value.specs.Laws.{Readable}
use Rattle.value.specs.Tests.{holds}
use Rattle.shapes.specs.Needs.{Agrees}
use Rattle.shapes.specs.declared.Shape.{Shape}
use Rattle.shapes.specs.declared.Shape.TheVariants.{False, True, Empty, Front, Number, Pair, Wide, Malformed}

-- refusals 40 and 41, in this order; 0 where neither is met
unfoldable pub entry_refusal : (levels left : ℕ) → ℕ
entry_refusal zero left = 40
entry_refusal (suc l) zero = 41
entry_refusal (suc l) (suc n) = 0

-- r is that refusal, or that neither is met
abbrev pub Enters : (levels left : ℕ) → Result ⊤ Refusal → Type 0
Enters levels left r = MatchResult r (λ _. entry_refusal levels left ≡ 0) (λ e. number_of e ≡ entry_refusal levels left)

-- one thing where a test says yes, another where it says no
unfoldable pub where_so : {A : Type 0} → Bool → A → A → A
where_so true a b = a
where_so false a b = b

-- THE BRANCHES OF A CASE

-- a branch, where the case is of the kind that has it
unfoldable pub fits_kind : (kind is : ℕ) → Branch → Branch
fits_kind kind is b = where_so (eqb kind is) (b) (Refused ValueKind)

-- the branch that a subject fits, by its shape
unfoldable pub fit_of : ℕ → Shape → Branch
fit_of kind Empty = fits_kind kind 0x17 (Plain 2 2)
fit_of kind (Front mid) = fits_kind kind 0x17 (Parts 4 mid)
fit_of kind False = fits_kind kind 0x18 (Plain 2 0)
fit_of kind True = fits_kind kind 0x18 (Plain 4 1)
fit_of kind (Pair mid) = fits_kind kind 0x19 (Parts 2 mid)
fit_of kind (Number n) = Refused ValueKind
fit_of kind Wide = Refused ValueKind
fit_of kind Malformed = Refused ValueKind

-- the second branch, where the subject fits the first: of a list case it is switched to, of a truth case it is True's
unfoldable pub other_of : ℕ → Branch
other_of kind = where_so (eqb kind 0x17) (Switch) (Plain 4 1)

-- the branch that is kept where its test says yes, or else the other where its test does, or else refusal 53
unfoldable pub choice : (kept_says other-says : Bool) → Branch → Branch → Branch
choice true q kept other = kept
choice false true kept other = other
choice false false kept other = Refused NoBranch

-- from the branch that the old subject fits
unfoldable pub taken_from : (kind : ℕ) (fit : Branch) (first_says second-says : Bool) → Branch
taken_from kind (Plain i byte) p q = where_so (eqb i 2) (choice p q (Plain i byte) (other_of kind)) (choice q p (Plain i byte) (Plain 2 0))
taken_from kind (Parts i mid) p q = where_so (eqb i 2) (Parts i mid) (choice q p (Parts i mid) (Plain 2 2))
taken_from kind Switch p q = Refused ValueKind
taken_from kind (Refused c) p q = Refused ValueKind

-- the branch that a view takes, by the shape of the old subject and what the two tests say to the view
unfoldable pub take_of : (kind : ℕ) (subject : Shape) (first_says second-says : Bool) → Branch
take_of kind s p q = taken_from kind (fit_of kind s) p q

-- r is the branch that every view takes with whose bytes these agree as far as both tests need
abbrev pub TakenBy : (kind : ℕ) (subject : Shape) (first second : ℕ) → List ℕ → Branch → Type 0
TakenBy kind s t u bs r = (v : Value) → Readable v → Agrees t v bs → Agrees u v bs → r ≡ take_of kind s (holds t v) (holds u v)

-- a view taken apart for a front (15) or a pair
unfoldable pub apart_of : ℕ → Shape → Apart
apart_of kind (Front mid) = where_so (eqb kind 0x15) (At mid) (Other)
apart_of kind (Pair mid) = where_so (eqb kind 0x15) (Other) (At mid)
apart_of kind False = Other
apart_of kind True = Other
apart_of kind Empty = Other
apart_of kind (Number n) = Other
apart_of kind Wide = Other
apart_of kind Malformed = Other

-- the kind of the value that a front (15), a pair, a list case (17) or a split makes of two
unfoldable pub made_of : ℕ → ℕ
made_of kind = where_so (eqb kind 0x15) (3) (where_so (eqb kind 0x17) (3) (5))

-- nothing got and no step of its own, or a refusal
unfoldable pub judged : ℕ → Bool → ℕ
judged c true = done_as 0 0 0
judged c false = c

-- the rest of a list (kind 3) is no list
unfoldable pub unfit_rest : ℕ → ℕ → Bool
unfit_rest kind rest = eqb kind 3 && (ltb rest 2 || ltb 3 rest)

-- a member that was got, behind its 03 at `top`, in a list of `built` bytes so far, whose 02 is counted too; or refusal 44
unfoldable pub fronted_as : (got built top : ℕ) → ℕ
fronted_as got built top =
    where_so (is_refusal got) got (where_so (ltb 256 (built + (1 + len_of got) + 1)) 44 (done_as top (1 + len_of got) (steps_of got)))
