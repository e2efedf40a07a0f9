-- Whole calls on bytes: a sheet and types that the check passes, a plan and a view of the stated types (document 02, request 6).
use Rattle.std.specs.Prelude.{◌≡◌, refl, Bool, true, false, List, ℕ, ◌≤◌, length, get_or, replicate}
use Rattle.std.proofs.Common.{ap, arith}
use Rattle.std.proofs.Math.Option.{Option, none, some}
use Rattle.value.specs.All.{All}
use Rattle.value.specs.Result.{Result, ok, refusal}
use Rattle.value.specs.Value.{Value, vfalse, encode, flat}
use Rattle.value.specs.Reading.{read_plan, read_view}
use Rattle.value.specs.Laws.{Readable}
use Rattle.value.proofs.Laws.{read_values_sound}
use Rattle.node.specs.declared.Node.TheVariants.{Wide}
use Rattle.sheet.specs.Sheet.{Sheet, read_sheet}
use Rattle.sheet.specs.Laws.{sheet_ranges}
use Rattle.rules.specs.Semantics
use Rattle.rules.specs.Semantics.{Env}
use Rattle.rules.specs.Numbers.{level_limit}
use Rattle.rules.specs.Explain.{Cause, Exit, got, met}
use Rattle.rules.specs.Explain.Calls.{walked, explained, afterwards, explain_get, explain_put}
use Rattle.rules.specs.Outcome.{Out, done, refused, when, map_out, given, reading}
use Rattle.rules.specs.Answer.{Answer, answer, door, count, get_walk, get_bytes, get_answer, put_walk, put_bytes, put_answer}
use Rattle.typing.specs.Types.{Ty, Of}
use Rattle.typing.specs.Fits.{node_of, Passed}
use Rattle.typing.specs.Check.{apart, read_all, many, lent_of, Verdict, passes, check_sheet, on_types, on_sheet, check}
use Rattle.typing.specs.Check as Check
use Rattle.typing.proofs.CheckLaws.{Says, all_right, check_says}
use Rattle.typing.specs.Sound.{Scoped}
use Rattle.typing.specs.Walks.{typed, typed_all, If, Permitted, plainly, Facts}
use Rattle.typing.proofs.Walks.{typed_of, all_typed, never_42, never_43, get_explained_met}
use Rattle.typing.proofs.Walks.{get_walk-refused, get_walk-done, put_explained_met, put_walk-refused, put_walk-done}
use Rattle.typing.specs.Judging.{lacks, judging}

-- what the check read, and what it found
pub data Judges (sheet types : List ℕ) : Verdict → Type 0 where
  no_sheet : {c : ℕ} → read_sheet sheet ≡ refusal c → Judges sheet types (Check.refused c)
  no_types : (sh : Sheet) → read_sheet sheet ≡ ok sh → read_all (many sh) types ≡ none → Judges sheet types (Check.refused 80)
  judged : (sh : Sheet) (l : List Ty) {v : Verdict} → read_sheet sheet ≡ ok sh → read_all (many sh) types ≡ some l → Says sh (lent_of sh l) v
      → Judges sheet types v

pub check_judges : (sheet types : List ℕ) → Judges sheet types (check sheet types)
unfolding check on_sheet on_types
check_judges sheet types = go (read_sheet sheet) refl
  where
    read : (sh : Sheet) → read_sheet sheet ≡ ok sh → (o : Option (List Ty)) → read_all (many sh) types ≡ o
        → Judges sheet types (on_types o λ l. check_sheet sh (lent_of sh l))
    read sh e none q = no_types sh e q
    read sh e (some l) q = judged sh l e q (check_says sh (lent_of sh l) (sheet_ranges sheet e))

    go : (r : Result Sheet) → read_sheet sheet ≡ r → Judges sheet types (on_sheet r λ sh. on_types (read_all (many sh) types) λ l. check_sheet sh
        (lent_of sh l))
    go (ok sh) e = read sh e (read_all (many sh) types) refl
    go (refusal c) e = no_sheet e

-- A SHEET THAT PASSES
pub record Passes (sheet types : List ℕ) : Type 0 where
  pub sh : Sheet
  pub types_read : List Ty
  pub sheet_is : read_sheet sheet ≡ ok sh
  pub types_are : read_all (many sh) types ≡ some types_read
  pub passed : Passed sh (lent_of sh types_read)

pub check-passes : (sheet types : List ℕ) → check sheet types ≡ passes → Passes sheet types
check-passes sheet types e = go (check_judges sheet types) e
  where
    fine : (sh : Sheet) (l : List Ty) {v : Verdict} → read_sheet sheet ≡ ok sh → read_all (many sh) types ≡ some l → Says sh (lent_of sh l) v → v ≡ passes
        → Passes sheet types
    fine sh l e q (all_right o p) z = record { sh = sh; types_read = l; sheet_is = e; types_are = q; passed = p }
    fine sh l e q (Says.used_twice a b c) z = apart (cc)
    fine sh l e q (Says.not_right a b c d) z = apart (cc)

    go : {v : Verdict} → Judges sheet types v → v ≡ passes → Passes sheet types
    go (no_sheet h) z = apart (cc)
    go (no_types sh h q) z = apart (cc)
    go (judged sh l h q s) z = fine sh l h q s z

-- REFUSALS OF WHOLE CALLS

-- a refusal is one of R, what is done one of Q
pub data Only {A : Type 0} (R : ℕ → Type 0) (Q : A → Type 0) : Out A → Type 0 where
  well : {a : A} {s : ℕ} → Q a → Only R Q (done a s)
  ill : {c s : ℕ} → R c → Only R Q (refused c s)

only : {A : Type 0} {R : ℕ → Type 0} {Q : A → Type 0} (o : Out A) → ((c s : ℕ) → o ≡ refused c s → R c) → ((a : A) (s : ℕ) → o ≡ done a s → Q a) → Only R Q o
only (done a s) h k = well (k a s refl)
only (refused c s) h k = ill (h c s refl)

only_map : {A B : Type 0} {R : ℕ → Type 0} {Q : B → Type 0} (f : A → B) {o : Out A} → Only R (λ a. Q (f a)) o → Only R Q (map_out f o)
unfolding map_out
only_map f (well q) = well q
only_map f (ill h) = ill h

only_given : {A B : Type 0} {R : ℕ → Type 0} {Q : B → Type 0} (c : ℕ) (d : Dec A) {o : Out B} → R c → Only R Q o → Only R Q (given c (when d) λ _. o)
unfolding given when
only_given c (yes a) r h = h
only_given c (no a) r h = ill r

-- of an answer
pub data AnswerTold (R : ℕ → Type 0) (Q : List ℕ → Type 0) : Answer → Type 0 where
  answered : {bs : List ℕ} {n : ℕ} → Q bs → AnswerTold R Q (Answer.success bs n)
  refuses : {c : ℕ} → R c → AnswerTold R Q (Answer.refusal c)

only_answer : {R : ℕ → Type 0} {Q : List ℕ → Type 0} {o : Out (List ℕ)} → Only R Q o → AnswerTold R Q (answer o)
unfolding answer
only_answer (well q) = answered q
only_answer (ill h) = refuses h

told_refusal : {R : ℕ → Type 0} {Q : List ℕ → Type 0} {c : ℕ} → AnswerTold R Q (Answer.refusal c) → R c
told_refusal (refuses h) = h

module _ {sh : Sheet} {P : ℕ → Type 0} {Q : List ℕ → Type 0} where
  only_door : (need output scratch allowance : ℕ) {o : Out (List ℕ)} → Only (Permitted sh P) Q o
      → Only (Permitted sh P) Q (door need output scratch allowance o)
  unfolding door
  only_door need output scratch allowance h = only_given 1 _ (plainly (omega arith)) (only_given 2 _ (plainly (omega arith))
      (only_given 3 _ (plainly (omega arith)) (only_given 3 _ (plainly (omega arith)) h)))

-- the bytes of a value of a type, and of values of so many types
pub data BytesOf (P : ℕ → Type 0) (t : Ty) : List ℕ → Type 0 where
  bytes : (v : Value) → Of P t v → BytesOf P t (encode v)

pub data PlanOf (P : ℕ → Type 0) (ts : List Ty) : List ℕ → Type 0 where
  plan_bytes : (μ : Env) → Scoped P ts μ → PlanOf P ts (flat μ)

first_readable : {vs : List Value} → All Readable vs → 1 ≤ length vs → Readable (get_or vs 0 vfalse)
first_readable All.none h = absurd (omega arith)
first_readable (All.each r rs) h = r

-- a refusal met in the walk, as the judging reading has it: what was judged at the node where it was met, and what is known of both
pub record JudgedGet {sheet types : List ℕ} (p : Passes sheet types) (μ : Env) (allowance : ℕ) (P : ℕ → Type 0) (y : Cause) : Type 0 where
  pub steps : ℕ
  pub value : Option Value
  pub judged : Semantics.get judging level_limit p.sh p.sh.root μ allowance ≡ lacks y value steps
  pub facts : Facts p.sh P y value

pub record JudgedPut {sheet types : List ℕ} (p : Passes sheet types) (μ : Env) (v : Value) (allowance : ℕ) (P : ℕ → Type 0) (y : Cause) : Type 0 where
  pub steps : ℕ
  pub value : Option Value
  pub judged : Semantics.put judging level_limit p.sh p.sh.root μ (count 0 (length μ)) v (replicate (length μ) none) allowance ≡ lacks y value steps
  pub facts : Facts p.sh P y value

explained-met : {A : Type 0} (t : Exit A) {y : Cause} → explained t ≡ walked y → (s : ℕ) × (t ≡ met y s)
unfolding explained
explained-met (got a s) e = apart (cc)
explained-met (met x s) {y} e = let q : x ≡ y = cc in (s, ap (λ z. met z s) q)

-- w says whether the plan, the view and the sheet may have numbers of kind 06
module _ {sheet types : List ℕ} (p : Passes sheet types) (w : Bool) (plan : List ℕ) {μ : Env} (plan-is : read_plan p.sh.k plan ≡ ok μ)
    (plan-typed : typed_all w (lent_of p.sh p.types_read).plan μ ≡ true) (wides : (n k : ℕ) → node_of p.sh n ≡ Wide k → w ≡ true)
    (allowance output scratch : ℕ) where
  plan_scoped : Scoped (If w) (lent_of p.sh p.types_read).plan μ
  plan_scoped = all_typed w _ (read_values_sound 20 p.sh.k plan plan-is).readable plan-typed

  -- GET: a list of the view's type, or a refusal that is permitted
  pub get_call : AnswerTold (Permitted p.sh (If w)) (BytesOf (If w) (lent_of p.sh p.types_read).view) (get_answer sheet plan allowance output scratch)
  unfolding get_answer get_bytes reading
  get_call = only_answer (rw (p.sheet_is, plan-is) (only_door _ _ _ _ (only_map _ (only (get_walk allowance p.sh μ)
      (λ c s q. get_walk-refused (sheet_ranges sheet p.sheet_is) p.passed wides plan_scoped allowance q)
      (λ v s q. bytes v (get_walk-done (sheet_ranges sheet p.sheet_is) p.passed wides plan_scoped allowance q))))))

  module _ (view : List ℕ) {vs : List Value} (view_is : read_view view ≡ ok vs)
      (view-typed : typed w (lent_of p.sh p.types_read).view (get_or vs 0 vfalse) ≡ true) where
    view_of : Of (If w) (lent_of p.sh p.types_read).view (get_or vs 0 vfalse)
    view_of = let r = read_values_sound 30 1 view view_is in
        typed_of w _ _ (first_readable r.readable (omega (arith, r.count))).encodable view-typed

    -- PUT: a plan of the stated types, or a refusal that is permitted
    pub put_call : AnswerTold (Permitted p.sh (If w)) (PlanOf (If w) (lent_of p.sh p.types_read).plan)
        (put_answer sheet plan view allowance output scratch)
    unfolding put_answer put_bytes reading
    put_call = only_answer (rw (p.sheet_is, plan-is, view_is) (only_door _ _ _ _ (only_map _ (only (put_walk allowance p.sh μ (get_or vs 0 vfalse))
        (λ c s q. put_walk-refused (sheet_ranges sheet p.sheet_is) p.passed wides plan_scoped allowance view_of q)
        (λ X s q. plan_bytes _ (put_walk-done (sheet_ranges sheet p.sheet_is) p.passed wides plan_scoped allowance view_of q))))))

    -- why a put is refused
    pub put_why : {y : Cause} → explain_put sheet plan view allowance ≡ walked y → JudgedPut p μ (get_or vs 0 vfalse) allowance (If w) y
    unfolding explain_put afterwards
    put_why e = let q = explained-met _ (rw (p.sheet_is, plan-is, view_is) at e) in
        let f = put_explained_met (sheet_ranges sheet p.sheet_is) p.passed wides plan_scoped allowance view_of q.1 in
        record { steps = q.0; value = f.0; judged = f.1; facts = f.2 }

    -- in plain words
    pub put_not_42 : put_answer sheet plan view allowance output scratch ≡ Answer.refusal 42 → ⊥
    put_not_42 e = never_42 (told_refusal (rw e at put_call)) refl

  -- why a get is refused
  pub get_why : {y : Cause} → explain_get sheet plan allowance ≡ walked y → JudgedGet p μ allowance (If w) y
  unfolding explain_get afterwards
  get_why e = let q = explained-met _ (rw (p.sheet_is, plan-is) at e) in
      let f = get_explained_met (sheet_ranges sheet p.sheet_is) p.passed wides plan_scoped allowance q.1 in
      record { steps = q.0; value = f.0; judged = f.1; facts = f.2 }

  pub get_not_42 : get_answer sheet plan allowance output scratch ≡ Answer.refusal 42 → ⊥
  get_not_42 e = never_42 (told_refusal (rw e at get_call)) refl

-- with no 06 in the plan, the view and the sheet there is no 43
module _ {sheet types : List ℕ} (p : Passes sheet types) (plan : List ℕ) {μ : Env} (plan-is : read_plan p.sh.k plan ≡ ok μ)
    (plan-typed : typed_all false (lent_of p.sh p.types_read).plan μ ≡ true) (narrow : (n k : ℕ) → node_of p.sh n ≡ Wide k → ⊥)
    (allowance output scratch : ℕ) where
  pub get_not_43 : get_answer sheet plan allowance output scratch ≡ Answer.refusal 43 → ⊥
  get_not_43 e = never_43 (told_refusal (rw e at (get_call p false plan plan-is plan-typed (λ n k q. absurd (narrow n k q)) allowance output scratch))) refl

  pub put_not_43 : (view : List ℕ) {vs : List Value} → read_view view ≡ ok vs → typed false (lent_of p.sh p.types_read).view (get_or vs 0 vfalse) ≡ true
      → put_answer sheet plan view allowance output scratch ≡ Answer.refusal 43 → ⊥
  put_not_43 view view_is view-typed e =
      never_43 (told_refusal (rw e at
      (put_call p false plan plan-is plan-typed (λ n k q. absurd (narrow n k q)) allowance output scratch view view_is view-typed)))
      refl
