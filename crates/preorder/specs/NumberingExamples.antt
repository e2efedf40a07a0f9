-- Sheets numbered anew, byte by byte.
use Rattle.std.specs.Prelude.{◌≡◌, refl, List, [], ◌∷◌, map, ℕ}
use Rattle.value.specs.Result.{and_then, map_result, or_refuse, unless}
use Rattle.sheet.specs.Sheet.{read_nodes, one_section, if_section, read_records, with_nodes, read_body, nodes_in_range, roots_in_range, in_range}
use Rattle.sheet.specs.Sheet.{read_header, read_sheet}
use Rattle.node.specs.Kinds.{form_of, body_width, make, node_in_range, children, written}
use Rattle.sheet.specs.Renumbering.{of_kind, renumber}
use Rattle.sheet.specs.Rows.{sheet_written}
use Rattle.preorder.specs.Numbering.{met_from, roots, order, place_of, new_number, numbered}
use Rattle.preorder.specs.NumberingLaws.{uses}
use Rattle.preorder.specs.Uses.{times, lowest_from, lowest_twice}
use Rattle.preorder.specs.NumberAnswer.{done, twice, sheet_answer, number_answer}

-- the second child is met behind all that is below the first, the section's root behind the main root's nodes; node 6 is never met
abbrev drawn : List ℕ
drawn = 0x01 ∷ 0x02 ∷ 0x00 ∷ 0x20 ∷ 0x05 ∷ 0x16 ∷ 0x02 ∷ 0x01 ∷ 0x10 ∷ 0x00 ∷ 0x15 ∷ 0x03 ∷ 0x04 ∷ 0x10 ∷ 0x01 ∷ 0x13
    ∷ 0x16 ∷ 0x07 ∷ 0x08 ∷ 0x12 ∷ 0x10 ∷ 0x01 ∷ 0x10 ∷ 0x00 ∷ []

abbrev anew : List ℕ
anew = 0x01 ∷ 0x02 ∷ 0x00 ∷ 0x20 ∷ 0x05 ∷ 0x16 ∷ 0x01 ∷ 0x04 ∷ 0x15 ∷ 0x02 ∷ 0x03 ∷ 0x10 ∷ 0x01 ∷ 0x13 ∷ 0x10 ∷ 0x00
    ∷ 0x16 ∷ 0x06 ∷ 0x07 ∷ 0x10 ∷ 0x01 ∷ 0x10 ∷ 0x00 ∷ []

-- node 1 is used twice as a child
abbrev shared : List ℕ
shared = 0x01 ∷ 0x01 ∷ 0x00 ∷ 0x16 ∷ 0x01 ∷ 0x01 ∷ 0x10 ∷ 0x00 ∷ []

-- node 2 is, by a record that is never met
abbrev unmet : List ℕ
unmet = 0x01 ∷ 0x01 ∷ 0x00 ∷ 0x10 ∷ 0x00 ∷ 0x16 ∷ 0x02 ∷ 0x02 ∷ 0x10 ∷ 0x00 ∷ []

-- node 0 is the main root and a section's; and the root of two sections
abbrev root_twice : List ℕ
root_twice = 0x01 ∷ 0x01 ∷ 0x00 ∷ 0x20 ∷ 0x00 ∷ 0x10 ∷ 0x00 ∷ []

abbrev section_twice : List ℕ
section_twice = 0x01 ∷ 0x01 ∷ 0x00 ∷ 0x20 ∷ 0x01 ∷ 0x20 ∷ 0x01 ∷ 0x10 ∷ 0x00 ∷ 0x10 ∷ 0x00 ∷ []

pub numbers : map (λ s. number_answer s 2048) (drawn ∷ anew ∷ shared ∷ unmet ∷ root_twice ∷ section_twice ∷ [])
    ≡ done anew ∷ done anew ∷ twice 1 ∷ twice 2 ∷ twice 0 ∷ twice 1 ∷ []
unfolding number_answer sheet_answer lowest_twice lowest_from times numbered new_number place_of order roots met_from uses children renumber of_kind
    sheet_written
    written
    and_then map_result or_refuse unless form_of body_width make read_nodes one_section if_section
    read_records with_nodes read_body node_in_range nodes_in_range roots_in_range in_range read_header read_sheet
numbers = refl
