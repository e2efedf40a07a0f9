-- A WHOLE CALL: what reading a text answers, from its two readings.
use Rattle.std.specs.Prelude.{◌≡◌, refl, ℕ, ◌+◌, ◌*◌, ◌≤◌, ◌<◌, length}
use Rattle.std.proofs.Common.{sym, ◌∙◌, arith, length-take, length-take-le, take-take, le-leb}
use Rattle.std.proofs.Math.Path.{ap, fun_ext}
use Rattle.std.proofs.Math.Option.{Option, some}
use mathlib.Core.List.{List, [], ◌∷◌, ◌++◌}
use Rattle.std.proofs.Math.ListN.{take}
use Rattle.std.proofs.lemmas.Bool.{lt-leb}
use Rattle.report.specs.Writing.{Wrote, wrote_front}
use Rattle.sheet.specs.Rows.{roots_written, all_written, sheet_written}
use Rattle.tokens.specs.Tokens.{between, tokens}
use Rattle.syntax.specs.Reader.{Out, ok, fault, ◌>>=◌, Name, find, text_of_tokens, sheet_of_tokens, says, placed, sheet_of}
use Rattle.tokens.specs.Ahead.{place_at}
use Rattle.parsing.specs.Cursor.{Told, on, off}
use Rattle.parsing.specs.Names.{stack_of, stack_kept}
use Rattle.parsing.specs.Expect.{resolve_by}
use Rattle.parsing.specs.Nodes.{records_from, records_in, records_written}
use Rattle.parsing.specs.Whole.{Read, Passed}
use Rattle.parsing.specs.Answer.{ReadAnswer, small, met, answer_of, read_answer, reply_of, output_of}
use Rattle.parsing.specs.Small.{said_short}
use Rattle.parsing.specs.declared.Reading.{Reading}
use Rattle.parsing.specs.declared.Reading.TheVariants.{Done, Refused, At}
use Rattle.parsing.specs.declared.cursor.Cursor.{Cursor}

-- what is told, by whether there is a fault
record Faulty (s : List ℕ) {X : Type 0} (o : Out X) (r : Cursor) : Type 0 where
  left : ℕ
  inside : ℕ
  is : o ≡ fault r.code left inside r.detail
  place : r.at ≡ place_at s left + inside

told_fault : {s : List ℕ} {X : Type 0} {Q : X → Cursor → Type 0} {o : Out X} {r : Cursor} → Told s Q o r → (r.code ≡ 0 → ⊥) → Faulty s o r
told_fault (on e q) h = absurd (h e)
told_fault (off {n} {left} {inside} {d} {r} p c a e) h = record { left = left; inside = inside; is = rw (c, e); place = a }

record Fine {X : Type 0} (Q : X → Cursor → Type 0) (o : Out X) (r : Cursor) : Type 0 where
  what : X
  is : o ≡ ok what
  known : Q what r

told_fine : {s : List ℕ} {X : Type 0} {Q : X → Cursor → Type 0} {o : Out X} {r : Cursor} → Told s Q o r → r.code ≡ 0 → Fine Q o r
told_fine (on {x} e q) h = record { what = x; is = refl; known = q }
told_fine (off p c a e) h = absurd (omega arith)

-- a refusal in the text is told, and nothing is written
pub told_met : {a : ReadAnswer} (c p d : ℕ) → a ≡ met c p d → At c p d ≡ reply_of a
unfolding reply_of
told_met c p d e = rw e

pub kept_met : {a : ReadAnswer} (c p d : ℕ) (out : List ℕ) → a ≡ met c p d → out ≡ output_of a out
unfolding output_of
kept_met c p d out e = rw e

-- THE FIRST READING
no_table : (s : List ℕ) → resolve_by s [] ≡ λ w. some 0
no_table s = fun_ext (λ w. unfold resolve_by in refl)

module _ {s slots front fresh : List ℕ} {r : Cursor} (p : Passed s [] slots front fresh r) where
  pub first_fault : (r.code ≡ 0 → ⊥) → answer_of (sheet_of s) ≡ met r.code r.at r.detail
  unfolding sheet_of sheet_of_tokens placed answer_of ◌>>=◌
  first_fault h =
      let f = told_fault p.told h in
      let e : text_of_tokens (λ w. some 0) (tokens between s) ≡ fault r.code f.left f.inside r.detail = ap
      (λ (R : Name → Option ℕ). text_of_tokens R (tokens between s)) (sym (no_table s)) ∙ f.is in
      rw (e, ← f.place)

-- THE SECOND, with the names of the sections
roots_then : (rs l : List ℕ) → roots_written rs l ≡ roots_written rs [] ++ l
roots_then [] l = refl
roots_then (x ∷ rs) l = ap (λ (y : List ℕ). 0x20 ∷ x ∷ y) (roots_then rs l)

some_table : (s table : List ℕ) (m : ℕ) (w : Name) → length table ≡ m + 1 → resolve_by s table w ≡ find (stack_of s table 1 m) w
unfolding resolve_by
some_table s [] m w e = absurd (omega arith)
some_table s (x ∷ table) m w e = let l : length table ≡ m = omega arith in rw l

module _ {s slots front fresh slots₂ front₂ fresh₂ : List ℕ} {a r : Cursor} (p : Passed s [] slots front fresh a) (z : a.code ≡ 0)
    (long : length fresh ≡ 9) (q : Passed s (take (a.found + 1) fresh) slots₂ front₂ fresh₂ r) where
  first_read : Fine (Read s slots front fresh) (text_of_tokens (resolve_by s []) (tokens between s)) a
  first_read = told_fine p.told z

  by_names : resolve_by s (take (a.found + 1) fresh) ≡ find first_read.what.0
  by_names =
      let f = first_read.known.few in
      let l : length (take (a.found + 1) fresh) ≡ a.found + 1 = length-take-le (a.found + 1) fresh (omega arith) in
      fun_ext (λ w. some_table s (take (a.found + 1) fresh) a.found w l
      ∙ ap (λ (ns : List Name). find ns w) (stack_kept s (take (a.found + 1) fresh) fresh 1 a.found (same_front a.found)
      ∙ sym first_read.known.names_are))
    where
      same_front : (m : ℕ) → take (1 + m) (take (m + 1) fresh) ≡ take (1 + m) fresh
      same_front m = take-take (1 + m) (m + 1) fresh (omega arith)

  twice : sheet_of_tokens (tokens between s) ≡ text_of_tokens (resolve_by s (take (a.found + 1) fresh)) (tokens between s) >>= λ (ns, sh). ok sh
  unfolding sheet_of_tokens ◌>>=◌
  twice =
      let e : text_of_tokens (λ w. some 0) (tokens between s) ≡ ok first_read.what = ap (λ (R : Name → Option ℕ). text_of_tokens R (tokens between s))
      (sym (no_table s)) ∙ first_read.is in
      rw (e, ← by_names)

  pub second_fault : (r.code ≡ 0 → ⊥) → answer_of (sheet_of s) ≡ met r.code r.at r.detail
  unfolding sheet_of placed answer_of ◌>>=◌
  second_fault h = let f = told_fault q.told h in rw (twice, f.is, ← f.place)

  module _ (y : r.code ≡ 0) where
    second_read : Fine (Read s slots₂ front₂ fresh₂) (text_of_tokens (resolve_by s (take (a.found + 1) fresh)) (tokens between s)) r
    second_read = told_fine q.told y

    pub found_few : r.found ≤ 8
    found_few = second_read.known.few

    its_bytes : records_in slots₂ (take (3 + 2 * r.found) front₂) r.count ≡ sheet_written second_read.what.1
    unfolding sheet_written
    its_bytes =
        let k = second_read.known in
        let sh = second_read.what.1 in
        ap (λ (m : ℕ). take (3 + 2 * r.found) front₂ ++ records_from slots₂ 0 m) k.counted
        ∙ ap (λ (l : List ℕ). l ++ records_from slots₂ 0 (length sh.nodes)) k.fronted
        ∙ ap (λ (l : List ℕ). (1 ∷ sh.k ∷ sh.root ∷ roots_written sh.sections []) ++ l) (records_written k.held)
        ∙ ap (λ (l : List ℕ). 1 ∷ sh.k ∷ sh.root ∷ l) (sym (roots_then sh.sections (all_written sh.nodes)))

    said : sheet_of s ≡ says (sheet_written second_read.what.1)
    unfolding sheet_of placed ◌>>=◌
    said = rw (twice, second_read.is)

    pub second_done : {out out' : List ℕ} {n : ℕ} → 2048 ≤ length out → Wrote (records_in slots₂ (take (3 + 2 * r.found) front₂) r.count) 0 out out' n
        → (Done n ≡ reply_of (answer_of (sheet_of s))) × (out' ≡ output_of (answer_of (sheet_of s)) out)
    unfolding answer_of reply_of output_of
    second_done {out} {out'} {n} room w =
        let b = sheet_written second_read.what.1 in
        let l = said_short s said in
        let v : Wrote b 0 out out' n = rw its_bytes at w in
        let f = wrote_front v (omega arith) in
        rw said (ap Done f.long, rw (← f.long) f.made)

pub small_answer : (t : List ℕ) (n : ℕ) → n < 2048 → read_answer t n ≡ small
unfolding read_answer
small_answer t n h = rw (lt-leb 2048 n h)

pub large_answer : (t : List ℕ) (n : ℕ) → 2048 ≤ n → read_answer t n ≡ answer_of (sheet_of t)
unfolding read_answer
large_answer t n h = rw (le-leb 2048 n h)

pub few_titles : {s table slots front fresh : List ℕ} {a : Cursor} → Passed s table slots front fresh a → a.code ≡ 0 → a.found ≤ 8
few_titles p z = (told_fine p.told z).known.few

pub short_front : (l : List ℕ) (n : ℕ) → n ≤ 9 → length (take n l) ≤ 9
short_front l n h = let e = length-take n l in omega arith

-- little output is refused; otherwise it is as the text says
pub small_told : (t out : List ℕ) → length out < 2048
    → (Refused 1 ≡ reply_of (read_answer t (length out))) × (out ≡ output_of (read_answer t (length out)) out)
unfolding reply_of output_of
small_told t out h = rw (small_answer t (length out) h) (refl, refl)

pub large_told : (t out : List ℕ) {out' : List ℕ} {r : Reading} → 2048 ≤ length out
    → (r ≡ reply_of (answer_of (sheet_of t))) × (out' ≡ output_of (answer_of (sheet_of t)) out)
    → (r ≡ reply_of (read_answer t (length out))) × (out' ≡ output_of (read_answer t (length out)) out)
large_told t out h w = rw (large_answer t (length out) h) w
