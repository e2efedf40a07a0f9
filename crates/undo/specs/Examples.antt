-- Why request 13 leaves out 17, 18 and 1C, and that a 1C names its variable.
use Rattle.std.specs.Prelude.{◌≡◌, refl, List, [], ◌∷◌, map, ℕ}
use Rattle.std.proofs.Math.Decide.{dec_le, ℕ_discrete}
use Rattle.value.specs.Result.{and_then, map_result, or_refuse, unless}
use Rattle.value.specs.Value.{encode, encodes, size, sizes, flat, same_value}
use Rattle.value.specs.Views.{as_list, as_front, as_pair, as_number, if_small, as_truth}
use Rattle.value.specs.Tests.{class, table, holds, passes}
use Rattle.value.specs.Reading.{
  on_whole,
  kind_of,
  make_front,
  joined,
  make_number,
  make_wide,
  make_body,
  make_pair,
  make_rest,
  begin_value,
  begin_rest,
  due,
  may_be,
  begin_byte,
  read,
  read_value,
  on_value,
  read_values,
}
use Rattle.sheet.specs.Sheet.{read_nodes, one_section, if_section, read_records, with_nodes, read_body, nodes_in_range, roots_in_range, in_range}
use Rattle.sheet.specs.Sheet.{read_header, read_sheet}
use Rattle.node.specs.Kinds.{form_of, body_width, make, node_in_range}
use Rattle.rules.specs.Outcome.{plus, steps, when, ◌>>=◌, map_out, given, reading, choose}
use Rattle.rules.specs.Allowance.{cap, within}
use Rattle.rules.specs.Semantics
use Rattle.rules.specs.Counting.{on_list, rest_of, mk_list, mk_pair}
use Rattle.rules.specs.Answer.{success, answer, door, get_walk, get_bytes, get_answer, count, new_plan, put_walk, put_bytes, put_answer}
use Rattle.rules.proofs.Examples.{Row, gets, puts, call, run}

-- a truth case on variable 0, both of whose branches are variable 1; the first one's test is True, the second one's anything
abbrev pub cases : List ℕ
cases = 0x01 ∷ 0x02 ∷ 0x00 ∷ 0x18 ∷ 0x01 ∷ 0x02 ∷ 0x04 ∷ 0x03 ∷ 0x00 ∷ 0x10 ∷ 0x00 ∷ 0x10 ∷ 0x01 ∷ 0x10 ∷ 0x01 ∷ []

-- a list case that copies variable 0
abbrev pub lists : List ℕ
lists =
    0x01 ∷ 0x01 ∷ 0x00 ∷ 0x17 ∷ 0x01 ∷ 0x02 ∷ 0x01 ∷ 0x03 ∷ 0x02 ∷ 0x06 ∷ 0x07 ∷ 0x10 ∷ 0x00 ∷ 0x13
    ∷ 0x15 ∷ 0x04 ∷ 0x05 ∷ 0x10 ∷ 0x01 ∷ 0x10 ∷ 0x02 ∷ 0x11 ∷ 0x13 ∷ []

-- a list case that lists the first part of the first pair of variable 0; its default is a pair of two empty lists
abbrev pub hiding : List ℕ
hiding =
    0x01 ∷ 0x01 ∷ 0x00 ∷ 0x17 ∷ 0x01 ∷ 0x02 ∷ 0x01 ∷ 0x03 ∷ 0x02 ∷ 0x07 ∷ 0x08 ∷ 0x10 ∷ 0x00 ∷ 0x13 ∷ 0x15 ∷ 0x04 ∷ 0x08
    ∷ 0x19 ∷ 0x05 ∷ 0x06 ∷ 0x10 ∷ 0x01 ∷ 0x10 ∷ 0x03 ∷ 0x16 ∷ 0x08 ∷ 0x08 ∷ 0x13 ∷ []

-- an each that copies variable 0
abbrev pub eachs : List ℕ
eachs = 0x01 ∷ 0x01 ∷ 0x00 ∷ 0x20 ∷ 0x03 ∷ 0x1C ∷ 0x01 ∷ 0x00 ∷ 0x00 ∷ 0x02 ∷ 0x10 ∷ 0x00 ∷ 0x11 ∷ 0x10 ∷ 0x00 ∷ []

-- an each of variable 0 that lists variable 2, which no 10 or 1A record names: its section calls it variable 1
abbrev pub named : List ℕ
named = 0x01 ∷ 0x03 ∷ 0x00 ∷ 0x20 ∷ 0x03 ∷ 0x1C ∷ 0x01 ∷ 0x00 ∷ 0x02 ∷ 0x02 ∷ 0x10 ∷ 0x00 ∷ 0x11 ∷ 0x10 ∷ 0x01 ∷ []

-- a split of a pair, handed to a section that makes it anew
abbrev pub straights : List ℕ
straights =
    0x01 ∷ 0x02 ∷ 0x00 ∷ 0x20 ∷ 0x05 ∷ 0x19 ∷ 0x01 ∷ 0x02 ∷ 0x16 ∷ 0x03 ∷ 0x04 ∷ 0x1A ∷ 0x00 ∷ 0x02 ∷ 0x03
    ∷ 0x10 ∷ 0x00 ∷ 0x10 ∷ 0x01 ∷ 0x16 ∷ 0x06 ∷ 0x07 ∷ 0x10 ∷ 0x00 ∷ 0x10 ∷ 0x01 ∷ []

unfoldable pub rows : List Row
rows =
    (gets straights (0x04 ∷ 0x00 ∷ 0x07 ∷ 0x04 ∷ 0x00 ∷ 0x08 ∷ []) (success (0x05 ∷ 0x04 ∷ 0x00 ∷ 0x07 ∷ 0x04 ∷ 0x00 ∷ 0x08 ∷ []) 8))
    ∷ (puts straights (0x04 ∷ 0x00 ∷ 0x07 ∷ 0x04 ∷ 0x00 ∷ 0x08 ∷ []) (0x05 ∷ 0x04 ∷ 0x00 ∷ 0x01 ∷ 0x04 ∷ 0x00 ∷ 0x02 ∷ [])
    (success (0x04 ∷ 0x00 ∷ 0x01 ∷ 0x04 ∷ 0x00 ∷ 0x02 ∷ []) 11))
    ∷ (puts straights (0x04 ∷ 0x00 ∷ 0x01 ∷ 0x04 ∷ 0x00 ∷ 0x02 ∷ []) (0x05 ∷ 0x04 ∷ 0x00 ∷ 0x07 ∷ 0x04 ∷ 0x00 ∷ 0x08 ∷ [])
    (success (0x04 ∷ 0x00 ∷ 0x07 ∷ 0x04 ∷ 0x00 ∷ 0x08 ∷ []) 11))
    ∷ (gets cases (0x00 ∷ 0x01 ∷ []) (success (0x01 ∷ []) 3))
    ∷ (puts cases (0x00 ∷ 0x01 ∷ []) (0x00 ∷ []) (success (0x01 ∷ 0x00 ∷ []) 4))
    ∷ (puts cases (0x01 ∷ 0x00 ∷ []) (0x01 ∷ []) (success (0x01 ∷ 0x01 ∷ []) 4))
    ∷ (gets lists (0x02 ∷ []) (success (0x02 ∷ []) 3))
    ∷ (puts lists (0x02 ∷ []) (0x03 ∷ 0x01 ∷ 0x02 ∷ []) (success (0x03 ∷ 0x01 ∷ 0x02 ∷ []) 8))
    ∷ (puts lists (0x03 ∷ 0x01 ∷ 0x02 ∷ []) (0x02 ∷ []) (success (0x02 ∷ []) 4))
    ∷ (gets hiding (0x03 ∷ 0x05 ∷ 0x01 ∷ 0x04 ∷ 0x00 ∷ 0x07 ∷ 0x02 ∷ []) (success (0x03 ∷ 0x01 ∷ 0x02 ∷ []) 7))
    ∷ (puts hiding (0x03 ∷ 0x05 ∷ 0x01 ∷ 0x04 ∷ 0x00 ∷ 0x07 ∷ 0x02 ∷ []) (0x02 ∷ []) (success (0x02 ∷ []) 4))
    ∷ (puts hiding (0x02 ∷ []) (0x03 ∷ 0x01 ∷ 0x02 ∷ []) (success (0x03 ∷ 0x05 ∷ 0x01 ∷ 0x02 ∷ 0x02 ∷ []) 13))
    ∷ (gets eachs (0x03 ∷ 0x01 ∷ 0x02 ∷ []) (success (0x03 ∷ 0x01 ∷ 0x02 ∷ []) 3))
    ∷ (puts eachs (0x03 ∷ 0x01 ∷ 0x02 ∷ []) (0x03 ∷ 0x01 ∷ 0x03 ∷ 0x00 ∷ 0x02 ∷ []) (success (0x03 ∷ 0x01 ∷ 0x03 ∷ 0x00 ∷ 0x02 ∷ []) 6))
    ∷ (puts eachs (0x03 ∷ 0x01 ∷ 0x03 ∷ 0x00 ∷ 0x02 ∷ []) (0x03 ∷ 0x01 ∷ 0x02 ∷ []) (success (0x03 ∷ 0x01 ∷ 0x02 ∷ []) 4))
    ∷ (gets named (0x03 ∷ 0x00 ∷ 0x02 ∷ 0x00 ∷ 0x00 ∷ []) (success (0x03 ∷ 0x00 ∷ 0x02 ∷ []) 3))
    ∷ (gets named (0x03 ∷ 0x00 ∷ 0x02 ∷ 0x00 ∷ 0x01 ∷ []) (success (0x03 ∷ 0x01 ∷ 0x02 ∷ []) 3))
    ∷ []

-- each row has its answer. The first three: taken back, in 11 steps each way. The next three: with an 18 the first plan is not given back. Three with
-- a 17: not in as many steps; three with another: not the first plan, since what the list does not show is forgotten. Three with a 1C: not in as many
-- steps. The last two: plans that differ only in a variable that stands in a 1C alone
pub shown : map run rows ≡ map (λ (r : Row). r.expected) rows
unfolding rows run call get_answer get_bytes get_walk put_answer put_bytes put_walk answer door count new_plan within cap
    plus steps when ◌>>=◌ map_out given reading choose Semantics.bounded Semantics.tested on_list rest_of Semantics.get_each Semantics.get_node Semantics.get
    Semantics.or_old Semantics.constant
    Semantics.write Semantics.both Semantics.under Semantics.stood_for Semantics.put_each mk_list mk_pair Semantics.put_node Semantics.put
    and_then map_result or_refuse unless encode encodes size sizes flat same_value as_list as_front as_pair as_number if_small as_truth class table holds passes
    on_whole kind_of make_front joined make_number make_wide make_body make_pair make_rest begin_value begin_rest due may_be begin_byte read read_value
    on_value read_values
    form_of body_width make read_nodes one_section if_section read_records with_nodes read_body node_in_range nodes_in_range roots_in_range in_range
    read_header read_sheet
    dec_le ℕ_discrete
shown = refl
