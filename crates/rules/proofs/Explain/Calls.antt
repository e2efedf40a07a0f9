-- The explanation of a whole call on bytes (request 9).
use Rattle.std.specs.Prelude.{◌≡◌, List, ◌∷◌, ℕ, zero, suc, ◌≤◌, length, get_or}
use Rattle.std.proofs.Math.Path.{refl, sym}
use Rattle.std.proofs.Common.{ap, ◌∙◌, arith}
use Rattle.std.proofs.Math.Option.{none}
use Rattle.std.proofs.Math.Decide.{dec_le}
use Rattle.std.proofs.Math.ListN.{replicate}
use Rattle.value.specs.Result.{Result, ok, refusal}
use Rattle.value.specs.Value.{Value, vfalse, encode, flat}
use Rattle.sheet.specs.Sheet.{Sheet, read_sheet}
use Rattle.sheet.specs.Laws.{sheet_ranges}
use Rattle.rules.specs.Numbers.{level_limit, allowance_limit, scratch_size, chain_limit, get_output, put_output}
use Rattle.rules.specs.Outcome.{Out, done, refused, when, map_out, given, reading}
use Rattle.rules.proofs.Laws.Outcomes.{given_yes}
use Rattle.rules.specs.Answer.{answer, door, count, new_plan, get_walk, get_bytes, get_answer, put_walk, put_bytes, put_answer}
use Rattle.rules.specs.Semantics.{Env}
use Rattle.rules.specs.Explain.{Cause, Exit, got, met, get, put}
use Rattle.rules.specs.Explain as Explain
use Rattle.rules.specs.Explain.Erasure.{forget, strip}
use Rattle.rules.proofs.Explain.Erasure.{get_erases, put_erases}
use Rattle.rules.proofs.Laws.Cells.{written_blank}
use Rattle.rules.specs.Nodes.{out, back, entry_in}
use Rattle.rules.specs.Explain.Chain.{Chain, Ends, ended, stopped}
use Rattle.rules.proofs.Explain.Chain.{get_ends, put_ends, get_spent, put_spent}
use Rattle.rules.specs.Explain.Calls.{depth, Explanation, walked, explained, afterwards, explain_get, explain_put, unless_before, why_door, why_get}
use Rattle.rules.specs.Explain.Calls.{why_put, number, refusal_of, answer_number, Says, at, early, through, WellExplained, Traced}

number_told : {A B C : Type 0} (f : A → B) (g : B → C) (t : Exit A) → number (explained t) ≡ refusal_of (map_out g (forget f t))
unfolding number explained refusal_of map_out forget
number_told f g (got a s) = refl
number_told f g (met y s) = refl

number_after : {A B : Type 0} (r : Result A) (f : A → Explanation) (g : A → Out B) → ((a : A) → number (f a) ≡ refusal_of (g a))
    → number (afterwards r f) ≡ refusal_of (reading r g)
unfolding number refusal_of afterwards reading
number_after (ok a) f g h = h a
number_after (refusal c) f g h = refl

pub get_number : (sheet plan : List ℕ) (allowance : ℕ) → number (explain_get sheet plan allowance) ≡ refusal_of (get_bytes sheet plan allowance)
unfolding explain_get get_bytes get_walk
get_number sheet plan allowance = number_after _ _ _ λ sh. number_after _ _ _ λ μ.
    number_told (λ v. v) encode (get level_limit sh sh.root μ allowance)
    ∙ ap (λ o. refusal_of (map_out encode o)) ((get_erases level_limit sh sh.root μ).same allowance)

pub strip_blank : (n : ℕ) → strip (replicate n none) ≡ replicate n none
strip_blank n = go n
  where
    go : (n : ℕ) → strip (replicate n none) ≡ replicate n none
    go zero = refl
    go (suc n) = ap (λ z. none ∷ z) (go n)

pub put_number : (sheet plan view : List ℕ) (allowance : ℕ) → number (explain_put sheet plan view allowance) ≡ refusal_of (put_bytes sheet plan view allowance)
unfolding explain_put put_bytes put_walk
put_number sheet plan view allowance = number_after _ _ _ λ sh. number_after _ _ _ λ μ. number_after _ _ _ λ vs.
    let blank : Explain.Cells = replicate (length μ) none in
    let v = get_or vs 0 vfalse in
    number_told strip (λ X. flat (new_plan X μ)) (put level_limit sh sh.root μ (count 0 (length μ)) v blank allowance)
    ∙ ap (λ o. refusal_of (map_out (λ X. flat (new_plan X μ)) o))
    (rw (strip_blank (length μ)) at ((put_erases level_limit sh sh.root μ (count 0 (length μ)) v blank).same allowance))

answer_number_lem : (o : Out (List ℕ)) → answer_number (answer o) ≡ refusal_of o
unfolding answer_number answer refusal_of
answer_number_lem (done bs s) = refl
answer_number_lem (refused c s) = refl

number_unless : {P : Type 0} (c : ℕ) (d : Dec P) (e : Explanation) (o : Out (List ℕ)) → number e ≡ refusal_of o
    → number (unless_before c d e) ≡ refusal_of (given c (when d) λ _. o)
unfolding unless_before given when number refusal_of
number_unless c (yes p) e o h = h
number_unless c (no p) e o h = refl

module _ (need output allowance scratch : ℕ) (h : need ≤ output) where
  number-door : (e : Explanation) (o : Out (List ℕ)) → number e ≡ refusal_of o
      → number (why_door allowance scratch e) ≡ answer_number (answer (door need output scratch allowance o))
  unfolding why_door door
  number-door e o same =
      number_unless 2 (dec_le scratch_size scratch) _ _ (number_unless 3 (dec_le 1 allowance) _ _ (number_unless 3 (dec_le allowance allowance_limit) e o same))
      ∙ sym (ap refusal_of (given_yes 1 (dec_le need output) h)) ∙ sym (answer_number_lem _)

pub why_get-number : (sheet plan : List ℕ) (allowance output scratch : ℕ) → get_output ≤ output
    → number (why_get sheet plan allowance scratch) ≡ answer_number (get_answer sheet plan allowance output scratch)
unfolding why_get get_answer
why_get-number sheet plan allowance output scratch h = number-door get_output output allowance scratch h _ _ (get_number sheet plan allowance)

pub why_put-number : (sheet plan view : List ℕ) (allowance output scratch : ℕ) → put_output ≤ output
    → number (why_put sheet plan view allowance scratch) ≡ answer_number (put_answer sheet plan view allowance output scratch)
unfolding why_put put_answer
why_put-number sheet plan view allowance output scratch h = number-door put_output output allowance scratch h _ _ (put_number sheet plan view allowance)

-- and a walk that is refused with 41 has taken the whole allowance

forget_spent : {A B : Type 0} (f : A → B) (left : ℕ) {s : ℕ} (t : Exit A) → ((y : Cause) → t ≡ met y s → y.code ≡ 41 → s ≡ left) → forget f t ≡ refused 41 s
    → s ≡ left
unfolding forget
forget_spent f left (got a r) h e = let z : ◌≡◌ {A = ℕ} 0 1 = cc in absurd (omega arith)
forget_spent f left {s} (met y r) h e = let c : y.code ≡ 41 = cc in let z : r ≡ s = cc in h y (ap (met y) z) c

module _ (allowance : ℕ) (sh : Sheet) (μ : Env) {s : ℕ} where
  pub get_walk_spent : get_walk allowance sh μ ≡ refused 41 s → s ≡ allowance
  unfolding get_walk
  get_walk_spent e = forget_spent (λ v. v) allowance (get level_limit sh sh.root μ allowance) (λ y. get_spent level_limit sh sh.root μ allowance)
      ((get_erases level_limit sh sh.root μ).same allowance ∙ e)

  pub put_walk_spent : (v : Value) → put_walk allowance sh μ v ≡ refused 41 s → s ≡ allowance
  unfolding put_walk
  put_walk_spent v e =
      let blank : Explain.Cells = replicate (length μ) none in
      forget_spent strip allowance (put level_limit sh sh.root μ (count 0 (length μ)) v blank allowance)
      (λ y. put_spent level_limit sh sh.root μ allowance (count 0 (length μ)) v blank)
      ((rw (strip_blank (length μ)) at ((put_erases level_limit sh sh.root μ (count 0 (length μ)) v blank).same allowance)) ∙ e)

pub says_walked : {sheet : List ℕ} {P : Sheet → Cause → Type 0} {y : Cause} → Says sheet P (walked y) → (sh : Sheet) × (read_sheet sheet ≡ ok sh) × P sh y
says_walked (at sh e p) = (sh, e, p)

says_map : {sheet : List ℕ} {P Q : Sheet → Cause → Type 0} {e : Explanation} → ((sh : Sheet) (y : Cause) → P sh y → Q sh y) → Says sheet P e → Says sheet Q e
says_map f through = through
says_map f early = early
says_map f (at sh e p) = at sh e (f sh _ p)

module _ {sheet : List ℕ} (P : Sheet → Cause → Type 0) where
  says_told : {A : Type 0} {sh : Sheet} {Q : A → Type 0} {left : ℕ} {t : Exit A} → read_sheet sheet ≡ ok sh → Ends (λ y. P sh y) Q left t
      → Says sheet P (explained t)
  unfolding explained
  says_told e (ended k q) = through
  says_told e (stopped k p) = at _ e p

  says_after : {A : Type 0} (r : Result A) (f : A → Explanation) → ((a : A) → r ≡ ok a → Says sheet P (f a)) → Says sheet P (afterwards r f)
  unfolding afterwards
  says_after (ok a) f h = h a refl
  says_after (refusal c) f h = early

  says_unless : {S : Type 0} (c : ℕ) (d : Dec S) {e : Explanation} → Says sheet P e → Says sheet P (unless_before c d e)
  unfolding unless_before
  says_unless c (yes p) h = h
  says_unless c (no p) h = early

  says_door : (allowance scratch : ℕ) {e : Explanation} → Says sheet P e → Says sheet P (why_door allowance scratch e)
  unfolding why_door
  says_door allowance scratch h = says_unless 2 _ (says_unless 3 _ (says_unless 3 _ h))

pub why_get_says : (sheet plan : List ℕ) (allowance scratch : ℕ) → Says sheet (WellExplained out) (why_get sheet plan allowance scratch)
unfolding why_get explain_get
why_get_says sheet plan allowance scratch = says_door (WellExplained out) allowance scratch (
    says_after (WellExplained out) _ _ λ sh e. says_after (WellExplained out) _ _ λ μ _. let r = sheet_ranges sheet e in
    says_told (WellExplained out) e (get_ends (entry_in r) level_limit sh.root μ allowance r.root))

pub why_put_says : (sheet plan view : List ℕ) (allowance scratch : ℕ) → Says sheet (WellExplained back) (why_put sheet plan view allowance scratch)
unfolding why_put explain_put
why_put_says sheet plan view allowance scratch = says_door (WellExplained back) allowance scratch (
    says_after (WellExplained back) _ _ λ sh e. says_after (WellExplained back) _ _ λ μ _. says_after (WellExplained back) _ _ λ vs _. let r = sheet_ranges
    sheet e in
    says_told (WellExplained back) e (put_ends (entry_in r) level_limit sh.root μ (count 0 (length μ)) (get_or vs 0 vfalse) (replicate (length μ) none)
    allowance
    r.root
    (written_blank _ (length μ))))

pub traced_chain : {sheet : List ℕ} {y : Cause} → Traced sheet (walked y) → (sh : Sheet) × (read_sheet sheet ≡ ok sh) × Chain sh sh.root level_limit y
traced_chain t = says_walked t

-- it has 1 to 49 nodes, and 49 for 40
pub chain_depth : {sh : Sheet} {n : ℕ} {y : Cause} → Chain sh n level_limit y → (1 ≤ depth y) × (depth y ≤ chain_limit)
chain_depth h = (rw h.begins (omega arith), rw h.begins (omega (arith, h.short)))

pub chain_deepest : {sh : Sheet} {n : ℕ} {y : Cause} → Chain sh n level_limit y → y.code ≡ 40 → depth y ≡ chain_limit
chain_deepest h e = rw h.begins (omega (arith, h.deepest e))

pub why_get_traced : (sheet plan : List ℕ) (allowance scratch : ℕ) → Traced sheet (why_get sheet plan allowance scratch)
why_get_traced sheet plan allowance scratch = says_map (λ sh y h. h.chain) (why_get_says sheet plan allowance scratch)

pub why_put_traced : (sheet plan view : List ℕ) (allowance scratch : ℕ) → Traced sheet (why_put sheet plan view allowance scratch)
why_put_traced sheet plan view allowance scratch = says_map (λ sh y h. h.chain) (why_put_says sheet plan view allowance scratch)
