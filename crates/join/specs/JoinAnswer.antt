-- What joining answers: the definition that `join::join` is held to.
use Rattle.std.specs.Prelude.{◌≡◌, List, [], ℕ, suc, ◌+◌, ◌≤◌, ◌<◌, leb}
use Rattle.std.proofs.Common.{◌∙◌}
use Rattle.std.proofs.Math.ListN.{length}
use borrow.Author.Tests.{le-leb, lt-leb, eq-eqb, ne_eqb}
use Rattle.value.specs.Result.{Result, ok, refusal, and_then, unless}
use Rattle.sheet.specs.Sheet.{Sheet, read_sheet}
use Rattle.sheet.specs.Rows.{sheet_written}
use Rattle.joined.specs.Joined.{joined}
use Rattle.joined.specs.JoinedCalls.{joined_bytes, Joins}
use Rattle.joined.proofs.JoinedCalls.{unless-ok, joined_told, joined_short}

-- 1 an output under 2,048 bytes, judged first
unfoldable pub join_answer : (s t : List ℕ) (output : ℕ) → Result (List ℕ)
join_answer s t output = unless 1 (leb 2048 output) (joined_bytes s t)

unfoldable pub text_of : Result (List ℕ) → List ℕ
text_of (ok u) = u
text_of (refusal c) = []

-- CASE BY CASE

module _ (s t : List ℕ) (n : ℕ) where
  pub join_1 : n < 2048 → join_answer s t n ≡ refusal 1
  unfolding join_answer unless
  join_1 h = rw (lt-leb 2048 n h)

  module _ (room : 2048 ≤ n) where
    pub join_bytes : join_answer s t n ≡ joined_bytes s t
    unfolding join_answer unless
    join_bytes = rw (le-leb 2048 n room)

    pub join_first : {c : ℕ} → read_sheet s ≡ refusal c → join_answer s t n ≡ refusal c
    unfolding joined_bytes and_then
    join_first e = join_bytes ∙ rw e

    module _ {x : Sheet} (ex : read_sheet s ≡ ok x) where
      pub join_second : {c : ℕ} → read_sheet t ≡ refusal c → join_answer s t n ≡ refusal c
      unfolding joined_bytes and_then
      join_second e = join_bytes ∙ rw (ex, e)

      module _ {y : Sheet} (ey : read_sheet t ≡ ok y) where
        pub join_83 : (x.k ≡ y.k → ⊥) → join_answer s t n ≡ refusal 83
        unfolding joined_bytes and_then unless
        join_83 f = join_bytes ∙ rw (ex, ey, ne_eqb x.k y.k f)

        module _ (k : x.k ≡ y.k) where
          pub join_nodes : 200 < suc (length x.nodes + length y.nodes) → join_answer s t n ≡ refusal 84
          unfolding joined_bytes and_then unless
          join_nodes h = join_bytes ∙ rw (ex, ey, eq-eqb x.k y.k k, lt-leb (suc (length x.nodes + length y.nodes)) 200 h)

          module _ (few : suc (length x.nodes + length y.nodes) ≤ 200) where
            pub join_sections : 8 < length x.sections + length y.sections → join_answer s t n ≡ refusal 84
            unfolding joined_bytes and_then unless
            join_sections h = join_bytes ∙ rw (
              ex,
              ey,
              eq-eqb x.k y.k k,
              le-leb (suc (length x.nodes + length y.nodes)) 200 few,
              lt-leb (length x.sections + length y.sections) 8 h,
            )

            pub join_ok : length x.sections + length y.sections ≤ 8 → join_answer s t n ≡ ok (sheet_written (joined x y))
            unfolding joined_bytes and_then unless
            join_ok h = join_bytes ∙ rw (
              ex,
              ey,
              eq-eqb x.k y.k k,
              le-leb (suc (length x.nodes + length y.nodes)) 200 few,
              le-leb (length x.sections + length y.sections) 8 h,
            )

-- what a success tells: all laws of the joined sheet begin here (JoinedGets, JoinedPuts)
pub join_told : (s t : List ℕ) (n : ℕ) {u : List ℕ} → join_answer s t n ≡ ok u → Joins s t u
unfolding join_answer
join_told s t n e = joined_told s t (unless-ok 1 (leb 2048 n) e).1

-- a joined sheet has at most 1,619 bytes
pub join_short : (s t : List ℕ) (n : ℕ) {u : List ℕ} → join_answer s t n ≡ ok u → length u ≤ 1619
join_short s t n e = joined_short (join_told s t n e)
