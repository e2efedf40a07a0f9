-- What `join` has found out, stage by stage, and what it then answers.
use Rattle.std.specs.Prelude.{◌≡◌, List, ℕ, ◌+◌, ◌≤◌, ◌<◌, length, Ok, Err}
use Rattle.std.proofs.Common.{sym, ◌∙◌, arith}
use Rattle.std.proofs.Math.Path.{ap}
use Rattle.value.specs.Result.{ok, refusal, map_result}
use Rattle.report.specs.Writing.{Wrote}
use Rattle.sheet.specs.declared.Table.{Table}
use Rattle.sheet.specs.Sheet.{Sheet, read_sheet}
use Rattle.sheet.specs.Table.{table_of}
use Rattle.sheet.specs.Laws.{Reads, table_reads, table_refused}
use Rattle.sheet.specs.Rows.{sheet_written}
use Rattle.sheet.proofs.Written.{Bytes}
use Rattle.refusal.specs.declared.Refusal.{Refusal}
use Rattle.refusal.specs.declared.Refusal.TheVariants.{OutputSmall, SheetsDiffer, JoinFull}
use Rattle.refusal.specs.Refusal.{number_of}
use Rattle.made.specs.Made.{Makes, makes_no, makes_text}
use Rattle.joined.specs.Joined.{joined}
use Rattle.joined.specs.JoinedCalls.{joined_bytes}
use Rattle.join.specs.JoinAnswer.{join_answer, text_of, join_1, join_bytes, join_first, join_second, join_83, join_nodes, join_sections, join_ok}
use Rattle.join.specs.JoinWritten.{Joinable, joined_fits}

-- a sheet that was read
pub record Fine (s : List ℕ) (a : Table) : Type 0 where
  pub table : ok a ≡ map_result table_of (read_sheet s)

fine_read : {s : List ℕ} {a : Table} → Fine s a → (sh : Sheet) × Reads s a sh
fine_read {s} f = table_reads s f.table

-- its table holds no more
pub fine_few : {s : List ℕ} {a : Table} → Fine s a → (a.nodes ≤ 200) × (a.sections ≤ 8)
fine_few f = let r = (fine_read f).1 in (omega (arith, r.nodes, r.ranges.few_nodes), omega (arith, r.sections, r.ranges.few_sections))

module _ (s t b : List ℕ) where
  pub no_room : length b < 2048 → Makes (join_answer s t (length b)) (Err OutputSmall) b b
  no_room h = makes_no OutputSmall (join_1 s t (length b) h)

  module _ (room : 2048 ≤ length b) where
    pub no_first : {e : Refusal} → refusal (number_of e) ≡ map_result table_of (read_sheet s) → Makes (join_answer s t (length b)) (Err e) b b
    no_first {e} f = makes_no e (join_first s t (length b) room (table_refused s f))

    module _ {x : Table} (fine : Fine s x) where
      pub no_second : {e : Refusal} → refusal (number_of e) ≡ map_result table_of (read_sheet t) → Makes (join_answer s t (length b)) (Err e) b b
      no_second {e} f = makes_no e (join_second s t (length b) room (fine_read fine).1.sheet (table_refused t f))

      module _ {y : Table} (fine' : Fine t y) where
        pub no_variables : (x.k ≡ y.k → ⊥) → Makes (join_answer s t (length b)) (Err SheetsDiffer) b b
        no_variables f = makes_no SheetsDiffer (join_83 s t (length b) room (fine_read fine).1.sheet (fine_read fine').1.sheet
            (λ e. f ((fine_read fine).1.k ∙ e ∙ sym (fine_read fine').1.k)))

        module _ (k : x.k ≡ y.k) where
          same_k : (fine_read fine).0.k ≡ (fine_read fine').0.k
          same_k = sym (fine_read fine).1.k ∙ k ∙ (fine_read fine').1.k

          pub no_nodes : 200 < 1 + x.nodes + y.nodes → Makes (join_answer s t (length b)) (Err JoinFull) b b
          no_nodes h = makes_no JoinFull (join_nodes s t (length b) room (fine_read fine).1.sheet (fine_read fine').1.sheet same_k
              (omega (arith, (fine_read fine).1.nodes, (fine_read fine').1.nodes)))

          module _ (n : 1 + x.nodes + y.nodes ≤ 200) where
            pub no_sections : 8 < x.sections + y.sections → Makes (join_answer s t (length b)) (Err JoinFull) b b
            no_sections h = makes_no JoinFull (join_sections s t (length b) room (fine_read fine).1.sheet (fine_read fine').1.sheet same_k
                (omega (arith, (fine_read fine).1.nodes, (fine_read fine').1.nodes)) (omega (arith, (fine_read fine).1.sections, (fine_read fine').1.sections)))

            module _ (c : x.sections + y.sections ≤ 8) where
              answer_is : join_answer s t (length b) ≡ ok (sheet_written (joined (fine_read fine).0 (fine_read fine').0))
              answer_is = join_ok s t (length b) room (fine_read fine).1.sheet (fine_read fine').1.sheet same_k
                  (omega (arith, (fine_read fine).1.nodes, (fine_read fine').1.nodes))
                  (omega (arith, (fine_read fine).1.sections, (fine_read fine').1.sections))

              pub joinable : Joinable s x t y
              joinable = record {
                first_table = fine.table;
                second_table = fine'.table;
                bytes = sheet_written (joined (fine_read fine).0 (fine_read fine').0);
                answer = sym (join_bytes s t (length b) room) ∙ answer_is;
              }

              pub all_written : {r : ℕ} {b' : List ℕ} → Bytes s → Bytes t → Wrote (text_of (joined_bytes s t)) 0 b b' r
                  → Makes (join_answer s t (length b)) (Ok r) b b'
              unfolding text_of
              all_written small small' w =
                  let e : join_answer s t (length b) ≡ ok (text_of (joined_bytes s t))
                  = join_bytes s t (length b) room ∙ joinable.answer ∙ ap (λ z. ok (text_of z)) (sym joinable.answer) in
                  makes_text (text_of (joined_bytes s t)) e w (omega (arith, joined_fits joinable small small'))
