-- The words of answers: bits, and the line of a refusal that is explained.
use Rattle.std.specs.Prelude.{cond, List, [], ◌∷◌, ◌++◌, map, ℕ, zero, suc, ◌-◌, ◌/◌, ◌%◌, eqb, length, get_or}
use Rattle.report.specs.Text.{hex_of, decimal_of, words, refusal_line, ok_line}

-- 16 bits as four hexadecimal digits
unfoldable pub bits_word : ℕ → List ℕ
bits_word b = hex_of (b / 256 ∷ b % 256 ∷ [])

-- `no`, words, line feed
unfoldable pub no_line : List (List ℕ) → List ℕ
no_line ws = 0x6E ∷ 0x6F ∷ (words ws ++ (0x0A ∷ []))

-- a refusal that names a node: its number, and the node
unfoldable pub node_line : (code node : ℕ) → List ℕ
node_line code node = no_line (decimal_of code ∷ decimal_of node ∷ [])

-- the refusal's number, the node where it was met, which ends the chain, its depth, the chain, and by whom it was written first
unfoldable pub met_words : (code : ℕ) (chain : List ℕ) (by : List (List ℕ)) → List (List ℕ)
met_words code chain by =
    decimal_of code ∷ decimal_of (get_or chain (length chain - 1) 0) ∷ decimal_of (length chain) ∷ (map decimal_of chain ++ by)

-- `by` and the node that wrote first, given as one more than its number; nothing for 0
unfoldable pub by_number : ℕ → List (List ℕ)
by_number zero = []
by_number (suc n) = (0x62 ∷ 0x79 ∷ []) ∷ decimal_of n ∷ []

-- a success, for the number 0; a refusal that was met at no node, its number alone; one that was met at the last of these nodes
unfoldable pub told_line : (code : ℕ) (chain : List ℕ) (first : ℕ) → List ℕ
told_line code chain first =
    cond (eqb code 0) (ok_line []) (cond (eqb (length chain) 0) (refusal_line code) (no_line (met_words code chain (by_number first))))
