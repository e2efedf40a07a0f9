-- What `number` has found out, stage by stage, and what it then answers.
use Rattle.std.specs.Prelude.{◌≡◌, cond, ltb, List, ℕ, ◌≤◌, ◌<◌, refl, length, take, Option, Some, None, ◌==◌}
use Rattle.std.specs.List.{position}
use Rattle.std.proofs.Common.{sym, ap, ◌∙◌, arith}
use Rattle.value.specs.Result.{refusal, map_result}
use Rattle.report.specs.Writing.{Wrote, wrote_text}
use Rattle.sheet.specs.declared.Table.{Table}
use Rattle.sheet.specs.Sheet.{read_sheet}
use Rattle.sheet.specs.Table.{table_of}
use Rattle.sheet.specs.Laws.{table_refused}
use Rattle.sheet.proofs.Written.{Bytes}
use Rattle.sheet.proofs.Ranging.{written_short}
use Rattle.records.specs.declared.Anew.{Anew}
use Rattle.numbering.specs.declared.Nodes.{Nodes}
use Rattle.preorder.specs.NumberingLaws.{uses}
use Rattle.preorder.proofs.NumberingLaws.{uses_in, numbered_ranges}
use Rattle.preorder.specs.Uses.{lowest_twice}
use Rattle.preorder.proofs.Uses.{all_once}
use Rattle.preorder.specs.NumberAnswer.{twice, number_answer, number_1, number_refused, number_twice, number_done}
use Rattle.numbering.specs.Replies.{Done, Refused, Twice, Answers, answers_no, answers_twice, answers_done}
use Rattle.numbering.specs.Counting.{first_two, first_told, lowest_is, used_twice, twice_some, twice_none, Fine, fine_read, fine_sizes, Counts}
use Rattle.numbering.specs.Meeting.{Single, Ordered}
use Rattle.numbering.specs.Places.{Numbers, text_anew, anew_text}

module _ (s b : List ℕ) where
  pub no_room : length b < 2048 → Answers (number_answer s (length b)) (Refused 1) b b
  no_room h = answers_no (number_answer s (length b)) b (number_1 s (length b) h)

  module _ (room : 2048 ≤ length b) {c : ℕ} where
    pub no_sheet : refusal c ≡ map_result table_of (read_sheet s) → Answers (number_answer s (length b)) (Refused c) b b
    no_sheet e = answers_no (number_answer s (length b)) b (number_refused s (length b) room (table_refused s e))

-- the lowest node that is used twice, as the table of uses tells it
lowest_told : {s : List ℕ} {t : Table} (f : Fine s t) {u : List ℕ} {n : ℕ} → Counts s u → n ≡ first_two 0 t.nodes u → n ≡ lowest_twice (fine_read f).0
unfolding lowest_twice
lowest_told f {u} c e =
    let r = (fine_read f).1 in
    let sh = (fine_read f).0 in
    e ∙ ap (λ k. first_two 0 k u) r.nodes ∙ ap (first_two 0 (length sh.nodes)) (c.told sh r.sheet)
    ∙ lowest_is (uses sh) (length sh.nodes) (omega (arith, r.ranges.few_nodes))

same_below : {a b n m : ℕ} → a ≡ b → n ≡ m → cond (ltb a n) (Some a) None ≡ cond (ltb b m) (Some b) None
same_below e q = rw (e, q) refl

-- what the search for a node that is used twice has found
pub twice_found : {s : List ℕ} {t : Table} (f : Fine s t) {u : List ℕ} → Counts s u → length u ≡ 256 → {r : Option ℕ}
    → r ≡ position (λ x. x == 2) (take t.nodes u) → r ≡ used_twice (fine_read f).0
unfolding used_twice
twice_found f {u} c long e =
    e ∙ first_told u _ (omega (arith, long, (fine_sizes f).nodes)) ∙ same_below (lowest_told f c refl) (fine_read f).1.nodes

module _ {s : List ℕ} {t : Table} (f : Fine s t) where
  pub is_twice : {n : ℕ} → Some n ≡ used_twice (fine_read f).0 → (b : List ℕ) → 2048 ≤ length b → Answers (number_answer s (length b)) (Twice n) b b
  is_twice e b room =
      let r = (fine_read f).1 in
      let q = twice_some (fine_read f).0 e in
      answers_twice (number_answer s (length b)) b (number_twice s (length b) room r.sheet q.1 ∙ ap twice (sym q.0))

  none-twice : None ≡ used_twice (fine_read f).0 → length (fine_read f).0.nodes ≤ lowest_twice (fine_read f).0
  none-twice h = twice_none (fine_read f).0 h

  pub is_single : None ≡ used_twice (fine_read f).0 → Single s t
  is_single h = record { fine = f; once = all_once (fine_read f).0 (none-twice h) (λ k i. uses_in (fine_read f).1.ranges i) }

  pub is_done : (b : List ℕ) → 2048 ≤ length b → (h : None ≡ used_twice (fine_read f).0) → Bytes s → {ns : Nodes} {m : Anew} {b' : List ℕ} {r : ℕ}
      → Ordered s ns → Numbers ns m → Wrote (text_anew s t m) 0 b b' r → Answers (number_answer s (length b)) (Done r) b b'
  unfolding is_single
  is_done b room h small met new w =
      let g = is_single h in
      let z = (fine_read f).1 in
      answers_done (number_answer s (length b)) (number_done s (length b) room z.sheet (none-twice h)) (wrote_text w (anew_text g small met new))
      (omega (arith, written_short (numbered_ranges z.ranges g.once)))
