-- Laws of the line of an explanation: how long it is, and what shows it of the code.
use Rattle.std.specs.Prelude.{◌≡◌, refl, List, [], ◌∷◌, ℕ, zero, suc, ◌+◌, ◌-◌, ◌≤◌, ◌<◌, length, get_or, take}
use Rattle.std.proofs.Common.{ap, ◌∙◌, arith, ne_eqb, length-append}
use Rattle.std.proofs.Math.Option.{Option, none, some}
use Rattle.std.specs.Prelude.{Option as Found, Some, None}
use Rattle.rules.specs.Numbers.{scratch_size, chain_limit}
use Rattle.rules.specs.Explain.{Cause}
use Rattle.rules.specs.Explain.Calls.{Explanation, success, before, walked, why_get, why_put}
use Rattle.rules.proofs.Explain.Nodes.{Inside, First, nobody, writer}
use Rattle.starts.specs.Starts.{firsts}
use Rattle.explaining.specs.Explain.{WhyReply}
use Rattle.explaining.specs.Explain.{unmet, first_number, told_as, WhyAnswered}
use Rattle.explaining.specs.Explain.Laws.{Proper, why_get_proper, why_put_proper}
use Rattle.report.specs.Text.{words, refusal_line}
use Rattle.report.proofs.TextLaws.{Below, none as below_none, each, decimal_length, numbers_length, words_append, ok_length, refusal_length}
use Rattle.report.specs.Writing.{Wrote, wrote_text}
use Rattle.inputs.specs.declared.fields.Fields.{Fields}
use Rattle.inputs.specs.declared.Job.{Job}
use Rattle.inputs.specs.declared.Job.TheVariants.{Get, Put}
use Rattle.inputs.specs.Format.{sheet_of, plan_of, view_of, job_of}
use Rattle.words.specs.Answers.{no_line, by_number, met_words, told_line}
use Rattle.walking.specs.Explanations.{by_first, why_line, told}
use Rattle.walking.specs.Endings.{Ending, explains, why_by, whys, output_after, scratch_after}

-- HOW LONG IT IS

no_length : (ws : List (List ℕ)) → length (no_line ws) ≡ 3 + length (words ws)
unfolding no_line
no_length ws = rw length-append (omega arith)

by_length : (y : Cause) → First 200 y → length (words (by_first y.first)) ≤ 7
unfolding by_first words
by_length y (nobody e) = rw e (omega arith)
by_length y (writer {n} e l c) = rw e (simp length-append (omega (arith, decimal_length n 2 (omega arith))))

below_inside : (l : List ℕ) → Inside 200 l → Below 1000 l
below_inside [] i = below_none
below_inside (n ∷ l) i = each {a = n} (omega (arith, i.0)) (below_inside l i.1)

inside_at : (l : List ℕ) (i : ℕ) → Inside 200 l → get_or l i 0 < 200
inside_at [] i h = omega arith
inside_at (n ∷ l) zero h = h.0
inside_at (n ∷ l) (suc i) h = inside_at l i h.1

pub why_fits : (e : Explanation) → Proper e → length (why_line e) ≤ 230
unfolding why_line met_words words
why_fits success p = rw ok_length (omega arith)
why_fits (before c) p = omega (arith, refusal_length c p.1)
why_fits (walked y) p =
    let d = length y.chain in
    let i = p.2.chain in
    simp (no_length, length-append, words_append) (omega (
      arith,
      decimal_length y.code 2 (omega arith),
      decimal_length (get_or y.chain (d - 1) 0) 2 (omega (arith, inside_at y.chain (d - 1) i)),
      decimal_length d 1 (omega arith),
      numbers_length 2 (below_inside y.chain i),
      by_length y p.2.first,
    ))

pub whys_fit : (bs : List ℕ) → length (whys bs).line ≤ 230
unfolding whys why_by
whys_fit bs = go (job_of bs)
  where
    go : (j : Found Job) → length (why_by bs j).line ≤ 230
    go (Some (Get f)) = why_fits _ (why_get_proper (sheet_of bs f) (plan_of bs f) f.allowance scratch_size)
    go (Some (Put f)) = why_fits _ (why_put_proper (sheet_of bs f) (plan_of bs f) (view_of bs f) f.allowance scratch_size)
    go None = omega (arith, refusal_length 60 (omega arith))

-- WHAT SHOWS IT OF THE CODE

-- what the code tells is the line of the explanation

take-firsts : (n : ℕ) (l : List ℕ) → length l ≤ n → take (length l) (firsts n l) ≡ l
take-firsts n [] h = refl
take-firsts zero (x ∷ l) h = absurd (omega arith)
take-firsts (suc n) (x ∷ l) h = ap (λ (z : List ℕ). x ∷ z) (take-firsts n l (omega arith))

by_told : (o : Option ℕ) → by_number (first_number o) ≡ by_first o
unfolding by_number by_first first_number
by_told none = refl
by_told (some n) = refl

told_is : (e : Explanation) → Proper e → told (told_as e) ≡ why_line e
unfolding told_line told_as unmet why_line
told_is success p = refl
told_is (before c) p = rw (ne_eqb c 0 (λ z. omega arith))
told_is (walked y) p =
    let d = length y.chain in
    rw (ne_eqb y.code 0 (λ z. omega arith), take-firsts chain_limit y.chain p.1.1, ne_eqb d 0 (λ z. omega arith), by_told y.first)

told_text : {e : Explanation} {w : WhyReply} {s s' : List ℕ} → WhyAnswered e w s s' → Proper e → {r : ℕ} {t t' : List ℕ} → Wrote (told w) 0 t t' r
    → Wrote (why_line e) 0 t t' r
told_text {e} h p l = wrote_text l (ap (λ (w : WhyReply). told w) h.answer ∙ told_is e p)

-- the ending that is due: its line is written, and scratch is as its call leaves it
abbrev pub Explained : Ending → (r : ℕ) (t t' s s' : List ℕ) → Type 0
Explained e r t t' s s' = Wrote e.line 0 t t' r × (s' ≡ scratch_after e.call s)

-- a job, case by case
module _ {bs b : List ℕ} (eb : bs ≡ b) {j : Found Job} (q : j ≡ job_of bs) where
  by_job : {k : Found Job} → j ≡ k → whys b ≡ why_by bs k
  unfolding whys
  by_job e = rw (← eb, ← q, e)

  pub explained_none : {r : ℕ} {t t' s s' : List ℕ} → j ≡ None → s' ≡ s → Wrote (refusal_line 60) 0 t t' r → Explained (whys b) r t t' s s'
  unfolding why_by scratch_after
  explained_none e z l = rw (by_job e) (l, z)

  module _ {w : WhyReply} {r : ℕ} {t t' s s' : List ℕ} (l : Wrote (told w) 0 t t' r) {f : Fields} {k : ℕ} {sheet plan : List ℕ} (es : sheet ≡ sheet_of bs f)
      (ep : plan ≡ plan_of bs f) (ek : k ≡ scratch_size) where
    pub explained_get : j ≡ Some (Get f) → WhyAnswered (why_get sheet plan f.allowance k) w s s' → Explained (whys b) r t t' s s'
    unfolding why_by scratch_after
    explained_get e h =
        let a = f.allowance in
        let x : Explained (explains (why_get sheet plan a k)) r t t' s s' = (told_text h (why_get_proper sheet plan a k) l, h.scratch) in
        rw (by_job e, ← es, ← ep, ← ek) x

    pub explained_put : {view : List ℕ} → j ≡ Some (Put f) → view ≡ view_of bs f → WhyAnswered (why_put sheet plan view f.allowance k) w s s'
        → Explained (whys b) r t t' s s'
    unfolding why_by scratch_after
    explained_put {view} e ev h =
        let a = f.allowance in
        let x : Explained (explains (why_put sheet plan view a k)) r t t' s s' = (told_text h (why_put_proper sheet plan view a k) l, h.scratch) in
        rw (by_job e, ← es, ← ep, ← ev, ← ek) x

-- it takes no output
pub whys_output : (bs o : List ℕ) → o ≡ output_after (whys bs).call o
unfolding whys why_by output_after
whys_output bs o = go (job_of bs)
  where
    go : (j : Found Job) → o ≡ output_after (why_by bs j).call o
    go (Some (Get f)) = refl
    go (Some (Put f)) = refl
    go None = refl
