-- Two sheets' bytes joined (request 7), and what the joined sheet answers.
use Rattle.std.specs.Prelude.{◌≡◌, Bool, true, false, List, ℕ, suc, ◌+◌, ◌≤◌, leb, eqb, length, get_or, replicate}
use Rattle.std.proofs.Math.Path.{refl, ap}
use Rattle.std.proofs.Common.{◌∙◌, arith, leb-true, eqb-true}
use Rattle.std.proofs.Math.Option.{none}
use Rattle.value.specs.Result.{Result, ok, refusal, and_then, unless}
use Rattle.value.specs.Value.{vfalse, pair, encode, flat}
use Rattle.value.specs.Views.{as_pair}
use Rattle.value.specs.Reading.{read_plan, read_view}
use Rattle.sheet.specs.Sheet.{Sheet, read_sheet}
use Rattle.sheet.specs.Laws.{Ranges, sheet_ranges}
use Rattle.rules.specs.Outcome.{plus, map_out, ◌>>=◌, given, reading}
use Rattle.rules.specs.Allowance.{within}
use Rattle.rules.specs.Counting.{bounded, get, put}
use Rattle.rules.specs.Answer.{count, new_plan, get_bytes, put_bytes}
use Rattle.joined.specs.Joined.{joined}
use Rattle.joined.proofs.Joined.{get_walk-joined, put_walk-joined}
use Rattle.sheet.proofs.Ranging.{read_back, written_short}
use Rattle.joined.proofs.JoinedRanges.{joined_ranges}
use Rattle.embedding.specs.EmbeddingAnswers.{reading_same}
use Rattle.joined.specs.JoinedCalls.{Joins, joined_bytes}

then_ok : {A B : Type 0} {f : A → Result B} {b : B} (r : Result A) → and_then r f ≡ ok b → (a : A) × (r ≡ ok a) × (f a ≡ ok b)
unfolding and_then
then_ok (ok a) e = (a, refl, e)
then_ok (refusal c) e = let z : ◌≡◌ {A = ℕ} 0 1 = cc in absurd (omega arith)

pub unless-ok : {A : Type 0} (c : ℕ) (b : Bool) {r : Result A} {a : A} → unless c b r ≡ ok a → (b ≡ true) × (r ≡ ok a)
unfolding unless
unless-ok c true e = (refl, e)
unless-ok c false e = let z : ◌≡◌ {A = ℕ} 0 1 = cc in absurd (omega arith)

pub joined_told : (s t : List ℕ) {u : List ℕ} → joined_bytes s t ≡ ok u → Joins s t u
unfolding joined_bytes
joined_told s t e =
    let (a, ea, e₁) = then_ok (read_sheet s) e in
    let (b, eb, e₂) = then_ok (read_sheet t) e₁ in
    let (k, e₃) = unless-ok 83 (eqb a.k b.k) e₂ in
    let (n, e₄) = unless-ok 84 (leb (suc (length a.nodes + length b.nodes)) 200) e₃ in
    let (c, e₅) = unless-ok 84 (leb (length a.sections + length b.sections) 8) e₄ in
    record {
      first = a;
      second = b;
      read_first = ea;
      read_second = eb;
      variables = eqb-true a.k b.k k;
      few_nodes = leb-true (suc (length a.nodes + length b.nodes)) 200 n;
      few_sections = leb-true (length a.sections + length b.sections) 8 c;
      written = cc;
    }

module _ {s t u : List ℕ} (h : Joins s t u) where
  abbrev a : Sheet
  a = h.first

  abbrev b : Sheet
  b = h.second

  ra : Ranges a
  ra = sheet_ranges s h.read_first

  rb : Ranges b
  rb = sheet_ranges t h.read_second

  -- it is a sheet, of at most 1,619 bytes
  pub joined_read : read_sheet u ≡ ok (joined a b)
  joined_read = ap read_sheet h.written ∙ read_back (joined_ranges ra rb h.few_nodes h.few_sections)

  pub joined_short : length u ≤ 1619
  joined_short = rw h.written (written_short (joined_ranges ra rb h.few_nodes h.few_sections))

  same_k : (joined a b).k ≡ a.k
  unfolding joined
  same_k = refl

  -- what it answers to any plan
  pub joined_get : (plan : List ℕ) (allowance : ℕ) → get_bytes u plan allowance ≡ (reading (read_plan a.k plan) λ μ. map_out encode
      (within allowance (plus 1 (get 47 a a.root μ >>= λ x. get 47 b b.root μ >>= λ y. bounded (pair x y)))))
  unfolding get_bytes reading
  joined_get plan allowance = rw joined_read (reading_same (read_plan a.k plan) (ap (λ n. read_plan n plan) same_k) λ μ.
      ap (map_out encode) (get_walk-joined ra rb allowance μ))

  -- and to any view
  pub joined_put : (plan view : List ℕ) (allowance : ℕ) → put_bytes u plan view allowance ≡ (reading (read_plan a.k plan) λ μ. reading (read_view view) λ vs.
      map_out (λ X. flat (new_plan X μ)) (within allowance (plus 1 (given 51 (as_pair (get_or vs 0 vfalse)) λ c.
      put 47 a a.root μ (count 0 (length μ)) c.0 (replicate (length μ) none) >>= λ X. put 47 b b.root μ (count 0 (length μ)) c.1 X))))
  unfolding put_bytes reading
  joined_put plan view allowance = rw joined_read (reading_same (read_plan a.k plan) (ap (λ n. read_plan n plan) same_k) λ μ.
      reading_same (read_view view) refl λ vs. ap (map_out (λ X. flat (new_plan X μ))) (put_walk-joined ra rb allowance μ (get_or vs 0 vfalse)))
