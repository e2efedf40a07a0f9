-- What a tool reports of some sheets.
use Rattle.std.specs.Prelude.{◌≡◌, refl, List, [], ◌∷◌, ℕ}
use Rattle.value.specs.Result.{ok, refusal, and_then, map_result, or_refuse, unless}
use Rattle.sheet.specs.Sheet.{read_nodes, one_section, if_section, read_records, with_nodes, read_body, nodes_in_range, roots_in_range, in_range}
use Rattle.sheet.specs.Sheet.{read_header, read_sheet}
use Rattle.node.specs.Kinds.{form_of, body_width, make, children, variables, node_in_range}
use Rattle.growth.specs.Growth.{all_plain, own, capped_from, capped, growth_of}

-- pairs of one node twice, one below the other: variable 1 is entered 256 times, and 512 times
abbrev pub eight : List ℕ
eight = 0x01 ∷ 0x02 ∷ 0x00 ∷ 0x16 ∷ 0x01 ∷ 0x01 ∷ 0x16 ∷ 0x02 ∷ 0x02 ∷ 0x16 ∷ 0x03 ∷ 0x03 ∷ 0x16 ∷ 0x04 ∷ 0x04 ∷ 0x16 ∷ 0x05 ∷ 0x05 ∷ 0x16 ∷ 0x06 ∷ 0x06 ∷
    0x16 ∷ 0x07 ∷ 0x07 ∷ 0x16 ∷ 0x08 ∷ 0x08 ∷ 0x10 ∷ 0x01 ∷ []

abbrev pub nine : List ℕ
nine = 0x01 ∷ 0x02 ∷ 0x00 ∷ 0x16 ∷ 0x01 ∷ 0x01 ∷ 0x16 ∷ 0x02 ∷ 0x02 ∷ 0x16 ∷ 0x03 ∷ 0x03 ∷ 0x16 ∷ 0x04 ∷ 0x04 ∷ 0x16 ∷ 0x05 ∷ 0x05 ∷ 0x16 ∷ 0x06 ∷ 0x06 ∷
    0x16 ∷ 0x07 ∷ 0x07 ∷ 0x16 ∷ 0x08 ∷ 0x08 ∷ 0x16 ∷ 0x09 ∷ 0x09 ∷ 0x10 ∷ 0x01 ∷ []

-- the list [x, 7, x + 1], and a split
abbrev pub twice : List ℕ
twice = 0x01 ∷ 0x01 ∷ 0x00 ∷ 0x15 ∷ 0x01 ∷ 0x02 ∷ 0x10 ∷ 0x00 ∷ 0x15 ∷ 0x03 ∷ 0x04 ∷ 0x14 ∷ 0x00 ∷ 0x07 ∷ 0x15 ∷ 0x05 ∷ 0x06 ∷ 0x1B ∷ 0x07 ∷ 0x00 ∷ 0x01 ∷
    0x13 ∷ 0x10 ∷ 0x00 ∷ []

abbrev pub splits : List ℕ
splits = 0x01 ∷ 0x01 ∷ 0x00 ∷ 0x19 ∷ 0x01 ∷ 0x02 ∷ 0x10 ∷ 0x00 ∷ 0x10 ∷ 0x01 ∷ []

pub reports : growth_of eight 1 ∷ growth_of eight 0 ∷ growth_of nine 1 ∷ growth_of nine 0 ∷ growth_of nine 2 ∷ growth_of twice 0 ∷ growth_of splits 9 ∷
    growth_of []
    0 ∷ []
    ≡ ok 256 ∷ ok 0 ∷ refusal 88 ∷ ok 0 ∷ refusal 23 ∷ ok 2 ∷ refusal 87 ∷ refusal 14 ∷ []
unfolding growth_of capped capped_from own all_plain children variables and_then map_result or_refuse unless form_of body_width make read_nodes one_section
    if_section
    read_records with_nodes read_body node_in_range nodes_in_range roots_in_range in_range read_header read_sheet
reports = refl
