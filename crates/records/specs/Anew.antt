-- The records of a sheet under other numbers, as they are written.
use Rattle.std.specs.Prelude.{cond, List, [], ◌∷◌, ◌++◌, ℕ, ◌+◌, ◌%◌, eqb, ltb, get_or}
use Rattle.node.specs.Forms.{listing}
use Rattle.sheet.specs.Table.{section_at}
use Rattle.sheet.specs.Parts.{record_anew}
use Rattle.records.specs.declared.Anew.{Anew}

-- each of 256 numbers raised by `by`; those over 255 start again at 0
unfoldable pub shifted_by : ℕ → List ℕ
shifted_by by = listing 256 (λ i. (by + i) % 256)

-- entry i of a table of n; 0 where there is none
unfoldable pub within : (n : ℕ) → List ℕ → ℕ → ℕ
within n l i = cond (ltb i n) (get_or l i 0) 0

-- a node's new number, a section's, or the byte itself
unfoldable pub chosen_of : (part byte node section : ℕ) → ℕ
chosen_of p b n s = cond (eqb p 1) n (cond (eqb p 2) s b)

abbrev pub new_node : Anew → ℕ → ℕ
new_node m n = get_or m.nodes n 0

abbrev pub new_section : Anew → ℕ → ℕ
new_section m i = get_or m.sections i 0

-- the record that starts at byte p
unfoldable pub record_of : List ℕ → ℕ → Anew → List ℕ
record_of s p m = record_anew (new_node m) (new_section m) s p

-- the records of these nodes
unfoldable pub records_of : (s starts : List ℕ) → Anew → List ℕ → List ℕ
records_of s starts m [] = []
records_of s starts m (n ∷ ns) = record_of s (within 200 starts n) m ++ records_of s starts m ns

-- the nodes that are written
unfoldable pub named : Anew → List ℕ
named m = listing m.count (within 256 m.order)

-- the records of sections with these roots
unfoldable pub roots_of : List ℕ → List ℕ
roots_of [] = []
roots_of (r ∷ rs) = 0x20 ∷ r ∷ roots_of rs

unfoldable pub sections_of : List ℕ → ℕ → Anew → List ℕ
sections_of s n m = roots_of (listing n (λ i. new_node m (section_at s i)))
