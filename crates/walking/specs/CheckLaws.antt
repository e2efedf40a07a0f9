-- Laws of the line of a venue's plan that is judged (letter C): how long it is, and what shows it of the code.
use Rattle.std.specs.Prelude.{◌≡◌, refl, Bool, true, false, cond, ◌&&◌, List, [], ◌∷◌, ℕ, ◌+◌, ◌≤◌, ◌<◌, leb, ltb, length, drop}
use Rattle.std.proofs.Math.Path.{sym}
use Rattle.std.proofs.Common.{ap, ◌∙◌, arith}
use borrow.Author.Tests.{le-leb, lt-leb, ltb-true}
use Rattle.value.specs.Result.{Result, ok, refusal, and_then}
use Rattle.value.specs.Value.{Value, encode}
use Rattle.shapes.specs.Parts.{same_bytes}
use Rattle.value.specs.Reading.{read_plan, read_view}
use Rattle.sheet.specs.Sheet.{Sheet, read_sheet}
use Rattle.rules.specs.Numbers.{scratch_size}
use Rattle.rules.specs.Outcome.{Out, done, refused, reading, map_out}
use Rattle.rules.specs.Counting.{Env}
use Rattle.rules.specs.Answer.{get_walk, get_bytes}
use Rattle.rules.specs.Nodes.{everywhere, among_all}
use Rattle.rules.proofs.Laws.Refusals.{table, Lists, l_refused, lists_get_bytes}
use Rattle.venue.specs.Accepts.{kept, or_code, result, judged_of, accepts_of}
use Rattle.accepts.specs.Accepts.{Accepted}
use Rattle.report.specs.Text.{words, refusal_line, ok_line}
use Rattle.report.proofs.TextLaws.{refusal_length}
use Rattle.report.specs.Writing.{Wrote, wrote_text}
use Rattle.inputs.specs.declared.fields.Fields.{Fields}
use Rattle.std.specs.Prelude.{Option, Some, None}
use Rattle.inputs.specs.Format.{two, part, fields_of, sheet_of, plan_of, view_of}
use Rattle.letters.specs.Small.{Small, no, small_number, small_unless, small_then, small_sheet, small_view, small_plan}
use Rattle.walking.specs.Endings.{says, yes_line, judges, checks_by, checks, output_after, scratch_after}
use Rattle.walking.specs.ExplanationLaws.{Explained}

-- HOW LONG IT IS

-- what a walk of get refuses with is a byte, as that of the whole call is
small_walk : (sheet new : List ℕ) (a : ℕ) (sh : Sheet) → read_sheet sheet ≡ ok sh → (ν : Env) → read_plan sh.k new ≡ ok ν → Small (result (get_walk a sh ν))
unfolding result get_bytes reading map_out table everywhere
small_walk sheet new a sh es ν en = go (get_walk a sh ν) (rw (es, en) at (lists_get_bytes sheet new a))
  where
    listed : {c n : ℕ} → Lists {A = List ℕ} (refused c n) → c < 256
    listed {c} (l_refused h) = ltb-true c 256 (among_all (λ x. ltb x 256) c table refl h)

    go : (o : Out Value) → Lists (map_out encode o) → Small (result o)
    go (done v n) l = Small.done
    go (refused c n) l = no {c = c} (listed l)

judged_small : (sheet old view new : List ℕ) (a : ℕ) → Small (judged_of sheet old view new a)
unfolding judged_of and_then or_code
judged_small sheet old view new a = go (read_sheet sheet) refl (small_sheet sheet)
  where
    over : (sh : Sheet) → read_sheet sheet ≡ ok sh → (μ : Env) (r : Result Env) → read_plan sh.k new ≡ r
        → Small (and_then (or_code 85 r) λ ν. and_then (result (get_walk a sh ν)) λ v. ok (same_bytes (encode v) view && kept sh μ ν))
    over sh es μ (ok ν) en = small_then (small_walk sheet new a sh es ν en) λ v. Small.done
    over sh es μ (refusal c) en = no {c = 85} (omega arith)

    go : (r : Result Sheet) → read_sheet sheet ≡ r → Small r → Small (and_then r λ sh. and_then (read_plan sh.k old) λ μ. and_then (read_view view) λ _.
        and_then (or_code 85 (read_plan sh.k new)) λ ν. and_then (result (get_walk a sh ν)) λ v. ok (same_bytes (encode v) view && kept sh μ ν))
    go (ok sh) es t = small_then (small_plan sh.k old) λ μ. small_then (small_view view) λ _. over sh es μ (read_plan sh.k new) refl
    go (refusal c) es t = no {c = c} (small_number t c refl)

accepts_small : (sheet old view new : List ℕ) (a n : ℕ) → Small (accepts_of sheet old view new a n)
unfolding accepts_of
accepts_small sheet old view new a n = small_unless 2 _ (omega arith) (small_unless 3 _ (omega arith) (small_unless 3 _ (omega arith)
    (judged_small sheet old view new a)))

yes_length : (a : Result Bool) → Small a → length (yes_line a) ≤ 7
unfolding yes_line ok_line words
yes_length (ok true) t = omega arith
yes_length (ok false) t = omega arith
yes_length (refusal c) t = refusal_length c (small_number t c refl)

pub checks_fit : (bs : List ℕ) (t : Option Fields) → length (checks bs t).line ≤ 7
unfolding checks checks_by
checks_fit bs None = refusal_length 60 (omega arith)
checks_fit bs (Some f) = go (leb (2 + two (view_of bs f) 0) (length (view_of bs f)))
  where
    go : (p : Bool) → let rest = view_of bs f in let n = two rest 0 in
        length (cond p (judges (accepts_of (sheet_of bs f) (plan_of bs f) (part rest 2 n) (drop (2 + n) rest) f.allowance scratch_size))
        (says (refusal_line 60))).line ≤ 7
    go true = yes_length _ (accepts_small _ _ _ _ _ _)
    go false = refusal_length 60 (omega arith)

-- it takes no output
pub checks_output : (bs : List ℕ) (t : Option Fields) (o : List ℕ) → o ≡ output_after (checks bs t).call o
unfolding checks checks_by output_after
checks_output bs None o = refl
checks_output bs (Some f) o = go (leb (2 + two (view_of bs f) 0) (length (view_of bs f))) _
  where
    go : (p : Bool) (a : Result Bool) → o ≡ output_after (cond p (judges a) (says (refusal_line 60))).call o
    go true a = refl
    go false a = refl

-- WHAT SHOWS IT OF THE CODE

-- the line of a verdict
module _ {v : Result Bool} where
  pub verdict_yes : v ≡ ok true → 0x6F ∷ 0x6B ∷ 0x20 ∷ 0x79 ∷ 0x65 ∷ 0x73 ∷ 0x0A ∷ [] ≡ yes_line v
  unfolding yes_line ok_line words
  verdict_yes e = sym (rw e)

  pub verdict_no : v ≡ ok false → 0x6F ∷ 0x6B ∷ 0x20 ∷ 0x6E ∷ 0x6F ∷ 0x0A ∷ [] ≡ yes_line v
  unfolding yes_line ok_line words
  verdict_no e = sym (rw e)

  pub verdict_refused : {c : ℕ} → v ≡ refusal c → refusal_line c ≡ yes_line v
  unfolding yes_line
  verdict_refused e = sym (rw e)

module _ (bs : List ℕ) {k : Option Fields} (e : k ≡ fields_of bs) where
  pub check_cut : {s : List ℕ} {r : ℕ} {t t' : List ℕ} → k ≡ None → Wrote (refusal_line 60) 0 t t' r → Explained (checks bs (fields_of bs)) r t t' s s
  unfolding checks scratch_after
  check_cut q w = rw (sym e ∙ q) (w, refl)

  module _ {f : Fields} (q : k ≡ Some f) {rest : List ℕ} (er : rest ≡ view_of bs f) where
    its_fields : checks bs (fields_of bs) ≡ checks_by bs f rest
    unfolding checks
    its_fields = rw (sym e ∙ q) (ap (checks_by bs f) (sym er))

    module _ {n : ℕ} (en : n ≡ two rest 0) {s : List ℕ} {r : ℕ} {t t' : List ℕ} where
      pub check_short : length rest < 2 + n → Wrote (refusal_line 60) 0 t t' r → Explained (checks bs (fields_of bs)) r t t' s s
      unfolding checks_by scratch_after
      check_short h w = rw (its_fields, ← en, lt-leb (2 + n) (length rest) h) (w, refl)

      pub check_whole : 2 + n ≤ length rest → {sheet plan list new : List ℕ} → sheet ≡ sheet_of bs f → plan ≡ plan_of bs f → list ≡ part rest 2 n
          → new ≡ drop (2 + n) rest → {m : ℕ} → m ≡ scratch_size → {v : Result Bool} {s' : List ℕ}
          → Accepted (accepts_of sheet plan list new f.allowance m) v s s'
          → Wrote (yes_line v) 0 t t' r → Explained (checks bs (fields_of bs)) r t t' s s'
      unfolding checks_by scratch_after
      check_whole h {sheet} {plan} {list} {new} es ep el ew {m} em {v} {s'} x w =
          let a = accepts_of sheet plan list new f.allowance m in
          let y : Explained (judges a) r t t' s s' = (wrote_text w (ap yes_line x.answer), x.scratch) in
          rw (its_fields, ← en, le-leb (2 + n) (length rest) h, ← es, ← ep, ← el, ← ew, ← em) y
