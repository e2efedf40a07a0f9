-- What shows the words of answers of the code.
use Rattle.std.specs.Prelude.{◌≡◌, refl, List, [], ◌∷◌, ◌++◌, map, ℕ, zero, suc, ◌-◌, length, get_or}
use Rattle.std.proofs.Math.Path.{sym}
use Rattle.std.proofs.Common.{arith}
use borrow.Author.Tests.{eq-eqb, ne_eqb}
use Rattle.report.specs.Text.{words, decimal_of, refusal_line, ok_line}
use Rattle.report.proofs.TextLaws.{wrote_words}
use Rattle.report.specs.Writing.{Wrote, wrote_then}
use Rattle.words.specs.Answers.{no_line, node_line, by_number, met_words, told_line}

-- who wrote first
pub by_none : {f : ℕ} → f ≡ 0 → [] ≡ words (by_number f)
unfolding by_number words
by_none e = rw e refl

pub by_some : (f : ℕ) {n : ℕ} → (f ≡ 0 → ⊥) → n ≡ f - 1 → (0x20 ∷ 0x62 ∷ 0x79 ∷ []) ++ words (decimal_of n ∷ []) ≡ words (by_number f)
unfolding by_number words
by_some zero z e = absurd (z refl)
by_some (suc f) {n} z e = let q : n ≡ f = omega arith in rw q refl

-- `no`, words, line feed
pub wrote_no : (ws : List (List ℕ)) {i m n r : ℕ} {b b₁ b₂ b₃ : List ℕ}
    → Wrote (0x6E ∷ 0x6F ∷ []) i b b₁ m → Wrote (words ws) m b₁ b₂ n → Wrote (0x0A ∷ []) n b₂ b₃ r → Wrote (no_line ws) i b b₃ r
unfolding no_line
wrote_no ws p q f = wrote_then p (wrote_then q f)

-- a refusal that names a node
pub wrote_node_line : (code node : ℕ) {i₁ i₂ i₃ r : ℕ} {b b₁ b₂ b₃ b₄ : List ℕ} → Wrote (0x6E ∷ 0x6F ∷ []) 0 b b₁ i₁
    → Wrote (words (decimal_of code ∷ [])) i₁ b₁ b₂ i₂ → Wrote (words (decimal_of node ∷ [])) i₂ b₂ b₃ i₃ → Wrote (0x0A ∷ []) i₃ b₃ b₄ r
    → Wrote (node_line code node) 0 b b₄ r
unfolding node_line
wrote_node_line code node w c n feed =
    wrote_no (decimal_of code ∷ decimal_of node ∷ []) w (wrote_words (decimal_of code ∷ []) (decimal_of node ∷ []) c n) feed

-- the words of a refusal that was met at a node
pub wrote_met : (code : ℕ) (chain : List ℕ) (by : List (List ℕ)) {i₁ i₂ i₃ i₄ i₅ i₆ r : ℕ} {b b₁ b₂ b₃ b₄ b₅ b₆ b₇ : List ℕ}
    → Wrote (0x6E ∷ 0x6F ∷ []) 0 b b₁ i₁ → Wrote (words (decimal_of code ∷ [])) i₁ b₁ b₂ i₂
    → Wrote (words (decimal_of (get_or chain (length chain - 1) 0) ∷ [])) i₂ b₂ b₃ i₃ → Wrote (words (decimal_of (length chain) ∷ [])) i₃ b₃ b₄ i₄
    → Wrote (words (map decimal_of chain)) i₄ b₄ b₅ i₅ → Wrote (words by) i₅ b₅ b₆ i₆ → Wrote (0x0A ∷ []) i₆ b₆ b₇ r
    → Wrote (no_line (met_words code chain by)) 0 b b₇ r
unfolding met_words
wrote_met code chain by w c n d l f feed =
    let C = decimal_of code in
    let N = decimal_of (get_or chain (length chain - 1) 0) in
    let D = decimal_of (length chain) in
    let L = map decimal_of chain ++ by in
    wrote_no (C ∷ N ∷ D ∷ L) w
    (wrote_words (C ∷ []) (N ∷ D ∷ L) c (wrote_words (N ∷ []) (D ∷ L) n (wrote_words (D ∷ []) L d (wrote_words (map decimal_of chain) by l f)))) feed

-- an explanation, case by case
module _ (code : ℕ) (chain : List ℕ) (first : ℕ) where
  pub told_ok : code ≡ 0 → 0x6F ∷ 0x6B ∷ 0x0A ∷ [] ≡ told_line code chain first
  unfolding told_line ok_line words
  told_ok e = sym (rw (eq-eqb code 0 e))

  module _ (z : code ≡ 0 → ⊥) where
    pub told_number : length chain ≡ 0 → refusal_line code ≡ told_line code chain first
    unfolding told_line
    told_number e = sym (rw (ne_eqb code 0 z, eq-eqb (length chain) 0 e))

    pub told_chain : (length chain ≡ 0 → ⊥) → no_line (met_words code chain (by_number first)) ≡ told_line code chain first
    unfolding told_line
    told_chain e = sym (rw (ne_eqb code 0 z, ne_eqb (length chain) 0 e))
