-- What an explanation says: the number that the call answers, and a way from the root down.
use Rattle.std.specs.Prelude.{◌≡◌, refl, List, [], ◌∷◌, ℕ, zero, suc, ◌≤◌, ◌<◌, length}
use Rattle.std.proofs.Common.{ap, ◌∙◌, arith}
use Rattle.std.proofs.Math.Option.{Option, none, some}
use Rattle.value.specs.Result.{ok}
use Rattle.sheet.specs.Sheet.{Sheet, read_sheet}
use Rattle.rules.specs.Numbers.{get_output, put_output, chain_limit}
use Rattle.rules.specs.Answer.{Answer, refusal, get_answer, put_answer}
use Rattle.rules.proofs.Laws.Refusals.{Stated, stated_small, get_refusals, put_refusals}
use Rattle.rules.specs.Explain.{Cause}
use Rattle.rules.specs.Explain.Chain.{Leads}
use Rattle.rules.specs.Explain.Calls.{Explanation, success, before, walked, depth, why_get, why_put, number, answer_number, Traced}
use Rattle.rules.proofs.Explain.Calls.{why_get-number, why_put-number, traced_chain, chain_depth, chain_deepest, why_get_traced, why_put_traced}
use Rattle.starts.specs.Starts.{firsts}
use Rattle.explaining.specs.Explain.{WhyReply}
use Rattle.explaining.specs.Explain.{unmet, told_as, WhyAnswered}
use Rattle.rules.proofs.Explain.Nodes.{Named, why_get_named, why_put_named}

-- ITS NUMBER

-- 0 for a success
unfoldable pub refusal_number : Answer → ℕ
refusal_number (refusal c) = c
refusal_number (Answer.success bs n) = 0

unfoldable or_zero : Option ℕ → ℕ
or_zero none = 0
or_zero (some c) = c

told_number : (e : Explanation) → (told_as e).refusal ≡ or_zero (number e)
unfolding told_as unmet number or_zero
told_number success = refl
told_number (before c) = refl
told_number (walked y) = refl

answer_number_lem : (a : Answer) → or_zero (answer_number a) ≡ refusal_number a
unfolding or_zero answer_number refusal_number
answer_number_lem (refusal c) = refl
answer_number_lem (Answer.success bs n) = refl

-- it is that of get's answer, and of put's, where their output is long enough
pub why_get-refusal : (sheet plan : List ℕ) (allowance output scratch : ℕ) → get_output ≤ output
    → (told_as (why_get sheet plan allowance scratch)).refusal ≡ refusal_number (get_answer sheet plan allowance output scratch)
why_get-refusal sheet plan allowance output scratch h =
    told_number (why_get sheet plan allowance scratch) ∙ ap or_zero (why_get-number sheet plan allowance output scratch h)
    ∙ answer_number_lem (get_answer sheet plan allowance output scratch)

pub why_put-refusal : (sheet plan view : List ℕ) (allowance output scratch : ℕ) → put_output ≤ output
    → (told_as (why_put sheet plan view allowance scratch)).refusal ≡ refusal_number (put_answer sheet plan view allowance output scratch)
why_put-refusal sheet plan view allowance output scratch h =
    told_number (why_put sheet plan view allowance scratch) ∙ ap or_zero (why_put-number sheet plan view allowance output scratch h)
    ∙ answer_number_lem (put_answer sheet plan view allowance output scratch)

-- ITS NODES, as many as its depth says

abbrev pub nodes : WhyReply → List ℕ
nodes w = firsts w.depth w.chain

-- they begin with the root of the sheet, and each is one that the node before it may enter: a child, or the root of the section that it calls.
-- They are at most 49, and 49 for 40
pub record Way (sheet : List ℕ) (w : WhyReply) : Type 0 where
  pub sh : Sheet
  pub read : read_sheet sheet ≡ ok sh
  pub rest : List ℕ
  pub begins : nodes w ≡ sh.root ∷ rest
  pub leads : Leads sh sh.root rest
  pub few : w.depth ≤ chain_limit
  pub deepest : w.refusal ≡ 40 → w.depth ≡ chain_limit

pub firsts_back : (n : ℕ) (l : List ℕ) → length l ≤ n → firsts (length l) (firsts n l) ≡ l
firsts_back n [] h = refl
firsts_back zero (x ∷ l) h = absurd (omega arith)
firsts_back (suc n) (x ∷ l) h = ap (λ (z : List ℕ). x ∷ z) (firsts_back n l (omega arith))

told_way : {sheet : List ℕ} (e : Explanation) → Traced sheet e → ((told_as e).depth ≡ 0 → ⊥) → Way sheet (told_as e)
unfolding told_as unmet
told_way success t z = absurd (z refl)
told_way (before c) t z = absurd (z refl)
told_way (walked y) t z =
    let c = traced_chain t in
    let d = chain_depth c.2 in
    record {
      sh = c.0;
      read = c.1;
      rest = c.2.rest;
      begins = firsts_back chain_limit y.chain d.1 ∙ c.2.begins;
      leads = c.2.leads;
      few = d.1;
      deepest = chain_deepest c.2;
    }

pub why_get_way : (sheet plan : List ℕ) (allowance scratch : ℕ) → let w = told_as (why_get sheet plan allowance scratch) in
    (w.depth ≡ 0 → ⊥) → Way sheet w
why_get_way sheet plan allowance scratch = told_way _ (why_get_traced sheet plan allowance scratch)

pub why_put_way : (sheet plan view : List ℕ) (allowance scratch : ℕ) → let w = told_as (why_put sheet plan view allowance scratch) in
    (w.depth ≡ 0 → ⊥) → Way sheet w
why_put_way sheet plan view allowance scratch = told_way _ (why_put_traced sheet plan view allowance scratch)

-- WHAT FITS: a refusal's number is a byte and not 0; one from the walk has 1 to 49 nodes, all nodes of the sheet
abbrev pub Proper : Explanation → Type 0
Proper success = Unit
Proper (before c) = (1 ≤ c) × (c < 256)
Proper (walked y) = ((1 ≤ y.code) × (y.code < 256)) × ((1 ≤ depth y) × (depth y ≤ chain_limit)) × Named y

stated : (a : Answer) {c : ℕ} → ((k : ℕ) → a ≡ refusal k → Stated k) → some c ≡ answer_number a → (1 ≤ c) × (c < 256)
unfolding answer_number
stated (refusal k) {c} h e = let z : k ≡ c = cc in rw z at (stated_small k (h k refl))
stated (Answer.success bs n) h e = let z : ◌≡◌ {A = ℕ} 0 1 = cc in absurd (omega arith)

proper : (sheet : List ℕ) (a : Answer) → ((k : ℕ) → a ≡ refusal k → Stated k) → (e : Explanation) → number e ≡ answer_number a → Traced sheet e
    → ((y : Cause) → e ≡ walked y → Named y) → Proper e
unfolding number
proper sheet a h success n t m = tt
proper sheet a h (before c) n t m = stated a h n
proper sheet a h (walked y) n t m = (stated a h n, chain_depth (traced_chain t).2, m y refl)

pub why_get_proper : (sheet plan : List ℕ) (allowance scratch : ℕ) → Proper (why_get sheet plan allowance scratch)
why_get_proper sheet plan allowance scratch =
    proper sheet (get_answer sheet plan allowance get_output scratch) (get_refusals sheet plan allowance get_output scratch)
    (why_get sheet plan allowance scratch) (why_get-number sheet plan allowance get_output scratch (omega arith))
    (why_get_traced sheet plan allowance scratch) λ y. why_get_named sheet plan allowance scratch {y = y}

pub why_put_proper : (sheet plan view : List ℕ) (allowance scratch : ℕ) → Proper (why_put sheet plan view allowance scratch)
why_put_proper sheet plan view allowance scratch =
    proper sheet (put_answer sheet plan view allowance put_output scratch) (put_refusals sheet plan view allowance put_output scratch)
    (why_put sheet plan view allowance scratch) (why_put-number sheet plan view allowance put_output scratch (omega arith))
    (why_put_traced sheet plan view allowance scratch) λ y. why_put_named sheet plan view allowance scratch {y = y}

-- so what the code has fits the 49 bytes of its chain
told_few : (e : Explanation) → Proper e → (told_as e).depth ≤ chain_limit
unfolding told_as unmet
told_few success p = omega arith
told_few (before c) p = omega arith
told_few (walked y) p = p.1.1

pub why_few : {e : Explanation} {w : WhyReply} {s s' : List ℕ} → Proper e → WhyAnswered e w s s' → w.depth ≤ chain_limit
why_few {e} p h = rw h.answer (told_few e p)
