-- Sheets joined, byte by byte.
use Rattle.std.specs.Prelude.{◌≡◌, refl, List, [], ◌∷◌, ℕ}
use Rattle.value.specs.Result.{ok, refusal, and_then, map_result, or_refuse, unless}
use Rattle.sheet.specs.Sheet.{read_nodes, one_section, if_section, read_records, with_nodes, read_body, nodes_in_range, roots_in_range, in_range}
use Rattle.sheet.specs.Sheet.{read_header, read_sheet}
use Rattle.node.specs.Kinds.{form_of, body_width, make, node_in_range, written}
use Rattle.sheet.specs.Renumbering.{of_kind, renumber}
use Rattle.sheet.specs.Rows.{sheet_written}
use Rattle.rules.proofs.Examples.{P, T}
use Rattle.joined.specs.Joined.{joined}
use Rattle.joined.specs.JoinedCalls.{joined_bytes}

-- a list of one member
abbrev single : List ℕ
single = 0x01 ∷ 0x01 ∷ 0x00 ∷ 0x15 ∷ 0x01 ∷ 0x02 ∷ 0x10 ∷ 0x00 ∷ 0x13 ∷ []

-- a call of a section that makes a pair
abbrev calling : List ℕ
calling = 0x01 ∷ 0x01 ∷ 0x00 ∷ 0x20 ∷ 0x01 ∷ 0x1A ∷ 0x00 ∷ 0x00 ∷ 0x00 ∷ 0x16 ∷ 0x02 ∷ 0x03 ∷ 0x10 ∷ 0x00 ∷ 0x10 ∷ 0x01 ∷ []

pub joins_calling : joined_bytes calling calling ≡ ok (0x01 ∷ 0x01 ∷ 0x00 ∷ 0x20 ∷ 0x02 ∷ 0x20 ∷ 0x06 ∷ 0x16 ∷ 0x01 ∷ 0x05
    ∷ 0x1A ∷ 0x00 ∷ 0x00 ∷ 0x00 ∷ 0x16 ∷ 0x03 ∷ 0x04 ∷ 0x10 ∷ 0x00 ∷ 0x10 ∷ 0x01
    ∷ 0x1A ∷ 0x01 ∷ 0x00 ∷ 0x00 ∷ 0x16 ∷ 0x07 ∷ 0x08 ∷ 0x10 ∷ 0x00 ∷ 0x10 ∷ 0x01 ∷ [])
unfolding joined_bytes joined renumber of_kind sheet_written written and_then map_result or_refuse unless form_of body_width make read_nodes one_section
    if_section
    read_records with_nodes read_body node_in_range nodes_in_range roots_in_range in_range read_header read_sheet
joins_calling = refl

-- document 01's sheet P joined with itself is its sheet T: a put that gives the one variable two values (54), and one that gives it the same
-- value twice, are starred examples of T there
pub joins_p : joined_bytes P P ≡ ok T
unfolding joined_bytes joined renumber of_kind sheet_written written and_then map_result or_refuse unless form_of body_width make read_nodes one_section
    if_section
    read_records with_nodes read_body node_in_range nodes_in_range roots_in_range in_range read_header read_sheet
joins_p = refl

-- k differs
pub joins_not : joined_bytes single (0x01 ∷ 0x02 ∷ 0x00 ∷ 0x10 ∷ 0x01 ∷ []) ≡ refusal 83
unfolding joined_bytes joined renumber of_kind sheet_written written and_then map_result or_refuse unless form_of body_width make read_nodes one_section
    if_section
    read_records with_nodes read_body node_in_range nodes_in_range roots_in_range in_range read_header read_sheet
joins_not = refl
