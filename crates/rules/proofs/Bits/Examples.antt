-- The bits of puts, worked out.
use Rattle.std.specs.Prelude.{◌≡◌, refl, List, [], ◌∷◌, map, ℕ}
use Rattle.std.proofs.Math.Decide.{dec_le, ℕ_discrete}
use Rattle.value.specs.Result.{and_then, map_result, or_refuse, unless}
use Rattle.value.specs.Value.{encode, encodes, size, sizes, same_value}
use Rattle.value.specs.Views.{as_list, as_front, as_pair, as_number, if_small, as_truth}
use Rattle.value.specs.Tests.{class, table, holds, passes}
use Rattle.value.specs.Reading.{
  on_whole,
  kind_of,
  make_front,
  joined,
  make_number,
  make_wide,
  make_body,
  make_pair,
  make_rest,
  begin_value,
  begin_rest,
  due,
  may_be,
  begin_byte,
  read,
  read_value,
  on_value,
  read_values,
}
use Rattle.sheet.specs.Sheet.{read_nodes, one_section, if_section, read_records, with_nodes, read_body, nodes_in_range, roots_in_range, in_range}
use Rattle.sheet.specs.Sheet.{read_header, read_sheet}
use Rattle.node.specs.Kinds.{form_of, body_width, make, node_in_range}
use Rattle.rules.specs.Outcome.{plus, steps, when, ◌>>=◌, given, reading, choose}
use Rattle.rules.specs.Allowance.{cap, within}
use Rattle.rules.specs.Semantics
use Rattle.rules.specs.Counting.{on_list, rest_of, mk_list, mk_pair}
use Rattle.rules.specs.Answer.{count, put_walk}
use Rattle.rules.proofs.Examples.{P, Q, T, J, opens, shared, price}
use Rattle.rules.specs.Bits.{bits_of, took, took_in, put_written}

-- a sheet, a plan, a view, and the bits of the put under 1,000 steps
pub record BitsRow : Type 0 where
  pub sheet : List ℕ
  pub plan : List ℕ
  pub view : List ℕ
  pub expected : ℕ

abbrev pub gives : List ℕ → List ℕ → List ℕ → ℕ → BitsRow
gives sheet plan view expected = record { sheet = sheet; plan = plan; view = view; expected = expected }

unfoldable pub run : BitsRow → ℕ
run r = put_written r.sheet r.plan r.view 1000

-- of two variables the second, in a list
abbrev pub second : List ℕ
second = 0x01 ∷ 0x02 ∷ 0x00 ∷ 0x15 ∷ 0x01 ∷ 0x02 ∷ 0x10 ∷ 0x01 ∷ 0x13 ∷ []

-- a pair of three variables
abbrev pub three : List ℕ
three = 0x01 ∷ 0x03 ∷ 0x00 ∷ 0x16 ∷ 0x01 ∷ 0x02 ∷ 0x10 ∷ 0x00 ∷ 0x16 ∷ 0x03 ∷ 0x04 ∷ 0x10 ∷ 0x01 ∷ 0x10 ∷ 0x02 ∷ []

-- a truth case whose subject is a truth case on variable 0: variable 1 where that is False, variable 2 where it is True
abbrev pub chosen : List ℕ
chosen = 0x01 ∷ 0x03 ∷ 0x00 ∷ 0x18 ∷ 0x01 ∷ 0x02 ∷ 0x03 ∷ 0x03 ∷ 0x04 ∷ 0x18 ∷ 0x04 ∷ 0x05 ∷ 0x03 ∷ 0x06 ∷ 0x04 ∷ 0x11 ∷ 0x12 ∷
    0x10 ∷ 0x00 ∷ 0x10 ∷ 0x01 ∷ 0x10 ∷ 0x02 ∷ []

unfoldable pub marking : List BitsRow
marking =
    -- none, by a constant; a variable with another value, with its old one, and twice with the same
    (gives price (0x00 ∷ []) (0x06 ∷ 0x01 ∷ 0x02 ∷ 0x03 ∷ 0x04 ∷ []) 0)
    ∷ (gives P (0x04 ∷ 0x00 ∷ 0x07 ∷ []) (0x01 ∷ []) 1)
    ∷ (gives P (0x04 ∷ 0x00 ∷ 0x07 ∷ []) (0x04 ∷ 0x00 ∷ 0x07 ∷ []) 1)
    ∷ (gives T (0x00 ∷ []) (0x05 ∷ 0x01 ∷ 0x01 ∷ []) 1)
    -- the second of two; all of three, the middle one alone with another value
    ∷ (gives second (0x00 ∷ 0x00 ∷ []) (0x03 ∷ 0x01 ∷ 0x02 ∷ []) 2)
    ∷ (gives three (0x00 ∷ 0x00 ∷ 0x00 ∷ []) (0x05 ∷ 0x00 ∷ 0x05 ∷ 0x01 ∷ 0x00 ∷ []) 7)
    -- variable 1 was only read, by the get of the subject
    ∷ (gives chosen (0x00 ∷ 0x00 ∷ 0x00 ∷ []) (0x01 ∷ []) 5)
    ∷ (gives chosen (0x00 ∷ 0x00 ∷ 0x00 ∷ []) (0x00 ∷ []) 3)
    -- the cell of a branch is no plan variable's, and no bit; a section's and an each's second variable is the caller's
    ∷ (gives opens (0x02 ∷ []) (0x01 ∷ []) 1)
    ∷ (gives shared (0x03 ∷ 0x04 ∷ 0x00 ∷ 0x05 ∷ 0x02 ∷ 0x01 ∷ []) (0x03 ∷ 0x00 ∷ 0x02 ∷ []) 3)
    ∷ (gives shared (0x02 ∷ 0x01 ∷ []) (0x02 ∷ []) 1)
    ∷ (gives J (0x03 ∷ 0x04 ∷ 0x00 ∷ 0x01 ∷ 0x02 ∷ 0x03 ∷ 0x04 ∷ 0x00 ∷ 0x02 ∷ 0x02 ∷ []) (0x02 ∷ []) 3)
    -- refused: by the walk, behind a variable that took a view; and before it
    ∷ (gives T (0x00 ∷ []) (0x05 ∷ 0x00 ∷ 0x01 ∷ []) 0)
    ∷ (gives Q (0x04 ∷ []) (0x02 ∷ []) 0)
    ∷ []

pub marked : map run marking ≡ map (λ (r : BitsRow). r.expected) marking
unfolding marking run put_written took_in took bits_of put_walk count within cap
    plus steps when ◌>>=◌ given reading choose Semantics.bounded Semantics.tested on_list rest_of Semantics.get_each Semantics.get_node Semantics.get
    Semantics.or_old Semantics.constant
    Semantics.write Semantics.both
    Semantics.under Semantics.stood_for Semantics.put_each mk_list mk_pair Semantics.put_node Semantics.put
    and_then map_result or_refuse unless encode encodes size sizes same_value as_list as_front as_pair as_number if_small as_truth class table holds passes
    on_whole kind_of make_front joined make_number make_wide make_body make_pair make_rest begin_value begin_rest due may_be begin_byte read read_value
    on_value read_values
    form_of body_width make read_nodes one_section if_section read_records with_nodes read_body node_in_range nodes_in_range roots_in_range in_range
    read_header read_sheet
    dec_le ℕ_discrete
marked = refl
