-- WHAT PRINTING ANSWERS: the definition that `print` is held to.
use Rattle.std.specs.Prelude.{◌≡◌, refl, Bool, true, false, cond, List, ℕ, ◌≤◌, ◌<◌, leb, ltb, length, Err}
use Rattle.std.proofs.Common.{sym, ◌∙◌, arith, le-leb}
use Rattle.std.proofs.Math.Path.{ap}
use Rattle.std.proofs.lemmas.Bool.{lt-leb}
use Rattle.value.specs.Result.{Result, ok, refusal, map_result}
use Rattle.sheet.specs.Sheet.{Sheet, read_sheet}
use Rattle.sheet.specs.Rows.{sheet_written}
use Rattle.preorder.specs.Numbering.{numbered}
use Rattle.preorder.specs.Uses.{lowest_twice}
use Rattle.preorder.specs.NumberAnswer.{Answer, done, refused, twice, sheet_answer, number_answer}
use Rattle.syntax.specs.Texts.{text_of, sheet_printed, printed_bytes}
use Rattle.numbering.specs.declared.Fault.{Fault}
use Rattle.numbering.specs.declared.Fault.TheVariants as fault
use Rattle.numbering.specs.Replies.{Reply, Done, Refused, Twice, told, reply_of, Answers, answers_no, answers_twice, answers_done}
use Rattle.numbering.specs.Counting.{Fine, fine_read}
use Rattle.sheet.specs.declared.Table.{Table}
use Rattle.sheet.specs.Table.{table_of}
use Rattle.sheet.specs.Laws.{table_refused}
use Rattle.sheet.proofs.Written.{Bytes}
use Rattle.report.specs.Writing.{wrote_text}
use Rattle.syntax.proofs.Short.{printed_short}
use Rattle.printing.specs.Whole.{Prints}

-- 1 an output under 16,384 bytes, judged first
unfoldable pub print_answer : List ℕ → (output : ℕ) → Answer
print_answer s output = cond (leb 16384 output) (printed_bytes s) (refused 1)

module _ (s : List ℕ) (n : ℕ) where
  pub print_1 : n < 16384 → print_answer s n ≡ refused 1
  unfolding print_answer
  print_1 h = rw (lt-leb 16384 n h)

  pub print_room : 16384 ≤ n → print_answer s n ≡ printed_bytes s
  unfolding print_answer
  print_room h = rw (le-leb 16384 n h)

-- WHAT NUMBERING REPLIES tells whether there is a text

refused_as : (x : Result Sheet) {c : ℕ} → reply_of (sheet_answer x) ≡ Refused c → sheet_printed x ≡ refused c
unfolding sheet_answer sheet_printed reply_of
refused_as (refusal d) {c} e = let z : d ≡ c = cc in ap refused z
refused_as (ok sh) {c} e = go (ltb (lowest_twice sh) (length sh.nodes)) e
  where
    go : (b : Bool) → reply_of (cond b (twice (lowest_twice sh)) (done (sheet_written (numbered sh)))) ≡ Refused c
        → cond b (twice (lowest_twice sh)) (done (text_of sh)) ≡ refused c
    go true q = let z : ◌≡◌ {A = ℕ} 0 1 = cc in absurd (omega arith)
    go false q = let z : ◌≡◌ {A = ℕ} 0 1 = cc in absurd (omega arith)

twice_as : (x : Result Sheet) {n : ℕ} → reply_of (sheet_answer x) ≡ Twice n → sheet_printed x ≡ twice n
unfolding sheet_answer sheet_printed reply_of
twice_as (refusal d) e = let z : ◌≡◌ {A = ℕ} 0 1 = cc in absurd (omega arith)
twice_as (ok sh) {n} e = go (ltb (lowest_twice sh) (length sh.nodes)) e
  where
    go : (b : Bool) → reply_of (cond b (twice (lowest_twice sh)) (done (sheet_written (numbered sh)))) ≡ Twice n
        → cond b (twice (lowest_twice sh)) (done (text_of sh)) ≡ twice n
    go true q = let z : lowest_twice sh ≡ n = cc in ap twice z
    go false q = let z : ◌≡◌ {A = ℕ} 0 1 = cc in absurd (omega arith)

done_as : (x : Result Sheet) {m : ℕ} → reply_of (sheet_answer x) ≡ Done m → (sh : Sheet) × (x ≡ ok sh) × (sheet_printed x ≡ done (text_of sh))
unfolding sheet_answer sheet_printed reply_of
done_as (refusal d) e = let z : ◌≡◌ {A = ℕ} 0 1 = cc in absurd (omega arith)
done_as (ok sh) {m} e = go (ltb (lowest_twice sh) (length sh.nodes)) e
  where
    go : (b : Bool) → reply_of (cond b (twice (lowest_twice sh)) (done (sheet_written (numbered sh)))) ≡ Done m
        → (y : Sheet) × (ok sh ≡ ok y) × (cond b (twice (lowest_twice sh)) (done (text_of sh)) ≡ done (text_of y))
    go true q = let z : ◌≡◌ {A = ℕ} 0 1 = cc in absurd (omega arith)
    go false q = (sh, refl, refl)

number_is : (s : List ℕ) (n : ℕ) → 2048 ≤ n → number_answer s n ≡ sheet_answer (read_sheet s)
unfolding number_answer
number_is s n h = rw (le-leb 2048 n h)

module _ (s b : List ℕ) where
  pub no_room : length b < 16384 → Answers (print_answer s (length b)) (Refused 1) b b
  no_room h = answers_no (print_answer s (length b)) b (print_1 s (length b) h)

  module _ (room : 16384 ≤ length b) {m : ℕ} (enough : 2048 ≤ m) {r : Reply} (e : r ≡ reply_of (number_answer s m)) where
    replied : r ≡ reply_of (sheet_answer (read_sheet s))
    replied = e ∙ ap reply_of (number_is s m enough)

    pub no_sheet : {c : ℕ} → r ≡ Refused c → Answers (print_answer s (length b)) (Refused c) b b
    unfolding printed_bytes
    no_sheet f = answers_no (print_answer s (length b)) b (print_room s (length b) room ∙ refused_as (read_sheet s) (sym replied ∙ f))

    pub is_twice : {n : ℕ} → r ≡ Twice n → Answers (print_answer s (length b)) (Twice n) b b
    unfolding printed_bytes
    is_twice f = answers_twice (print_answer s (length b)) b (print_room s (length b) room ∙ twice_as (read_sheet s) (sym replied ∙ f))

    pub is_done : {l n : ℕ} {t : Table} {b' : List ℕ} → r ≡ Done l → (g : Fine s t) → Bytes s → Prints s t b b' n
        → Answers (print_answer s (length b)) (Done n) b b'
    unfolding printed_bytes
    is_done f g small p =
        let (sh, q, z) = done_as (read_sheet s) (sym replied ∙ f) in
        let (y, x) = fine_read g in
        let same : y ≡ sh = let w = x.sheet in cc in
        answers_done (print_answer s (length b)) (print_room s (length b) room ∙ z) (wrote_text (p.told y x) (ap text_of same))
        (omega (arith, printed_short s small z))

  module _ (room : 16384 ≤ length b) where
    -- numbering has a fault
    pub no_text : {m : ℕ} → 2048 ≤ m → (x : Fault) → told (Err x) ≡ reply_of (number_answer s m) → Answers (print_answer s (length b)) (told (Err x)) b b
    no_text enough (fault.Refused c) e = no_sheet room enough e refl
    no_text enough (fault.Twice n) e = is_twice room enough e refl

    pub unread : {c : ℕ} → refusal c ≡ map_result table_of (read_sheet s) → Answers (print_answer s (length b)) (Refused c) b b
    unfolding printed_bytes sheet_printed
    unread e = answers_no (print_answer s (length b)) b (print_room s (length b) room ∙ ap sheet_printed (table_refused s e))
