-- What the checker says of some plans.
use Rattle.std.specs.Prelude.{◌≡◌, refl, true, false, List, [], ◌∷◌, ℕ}
use Rattle.std.proofs.Math.Decide.{dec_le, ℕ_discrete}
use Rattle.value.specs.Result.{ok, refusal, and_then, map_result, or_refuse, unless}
use Rattle.value.specs.Value.{encode, encodes, size, sizes}
use Rattle.shapes.specs.Parts.{both, same_bytes}
use Rattle.value.specs.Reading.{
  on_whole,
  kind_of,
  make_front,
  joined,
  make_number,
  make_wide,
  make_body,
  make_pair,
  make_rest,
  begin_value,
  begin_rest,
  due,
  may_be,
  begin_byte,
  read,
  read_value,
  on_value,
  read_values,
}
use Rattle.sheet.specs.Sheet.{read_nodes, one_section, if_section, read_records, with_nodes, read_body, nodes_in_range, roots_in_range, in_range}
use Rattle.sheet.specs.Sheet.{read_header, read_sheet}
use Rattle.node.specs.Kinds.{form_of, body_width, make, variables, node_in_range}
use Rattle.rules.specs.Numbers.{scratch_size}
use Rattle.rules.specs.Outcome.{plus, steps, when, ◌>>=◌, map_out, given, choose}
use Rattle.rules.specs.Allowance.{cap, within}
use Rattle.rules.specs.Semantics
use Rattle.rules.specs.Counting.{on_list, rest_of, mk_list, mk_pair}
use Rattle.rules.specs.Answer.{get_walk}
use Rattle.undo.specs.Alike.{stands, names}
use Rattle.venue.specs.Accepts.{spared, spared_from, kept, or_code, result, judged_of, accepts_of}

-- a pair of variables 0 and 2 of three
abbrev pub ends : List ℕ
ends = 0x01 ∷ 0x03 ∷ 0x00 ∷ 0x16 ∷ 0x01 ∷ 0x02 ∷ 0x10 ∷ 0x00 ∷ 0x10 ∷ 0x02 ∷ []

-- plans: an old one, the new one that the list asks for, one with variable 1 changed, which no record names, and two that are cut
abbrev pub old : List ℕ
old = 0x04 ∷ 0x00 ∷ 0x01 ∷ 0x04 ∷ 0x00 ∷ 0x01 ∷ 0x04 ∷ 0x00 ∷ 0x03 ∷ []

abbrev pub new : List ℕ
new = 0x04 ∷ 0x00 ∷ 0x02 ∷ 0x04 ∷ 0x00 ∷ 0x01 ∷ 0x04 ∷ 0x00 ∷ 0x03 ∷ []

abbrev pub moved : List ℕ
moved = 0x04 ∷ 0x00 ∷ 0x02 ∷ 0x04 ∷ 0x00 ∷ 0x02 ∷ 0x04 ∷ 0x00 ∷ 0x03 ∷ []

abbrev pub cut_old : List ℕ
cut_old = 0x04 ∷ 0x00 ∷ 0x01 ∷ 0x04 ∷ 0x00 ∷ 0x01 ∷ 0x04 ∷ 0x00 ∷ []

abbrev pub cut_new : List ℕ
cut_new = 0x04 ∷ 0x00 ∷ 0x02 ∷ 0x04 ∷ 0x00 ∷ 0x02 ∷ 0x04 ∷ 0x00 ∷ []

-- lists: one that changes variable 0, and one that is cut
abbrev pub sent : List ℕ
sent = 0x05 ∷ 0x04 ∷ 0x00 ∷ 0x02 ∷ 0x04 ∷ 0x00 ∷ 0x03 ∷ []

abbrev pub cut_sent : List ℕ
cut_sent = 0x05 ∷ 0x04 ∷ 0x00 ∷ 0x02 ∷ []

-- taken; variable 1 is changed; the list is another one; the new plan is cut; with it the list, and the old plan; too few steps; none
pub verdicts :
    accepts_of ends old sent new 1000 scratch_size
    ∷ accepts_of ends old sent moved 1000 scratch_size
    ∷ accepts_of ends old sent old 1000 scratch_size
    ∷ accepts_of ends old sent cut_new 1000 scratch_size
    ∷ accepts_of ends old cut_sent cut_new 1000 scratch_size
    ∷ accepts_of ends cut_old cut_sent cut_new 1000 scratch_size
    ∷ accepts_of ends old sent new 2 scratch_size
    ∷ accepts_of ends old sent new 0 scratch_size
    ∷ []
    ≡ ok true ∷ ok false ∷ ok false ∷ refusal 85 ∷ refusal 30 ∷ refusal 20 ∷ refusal 41 ∷ refusal 3 ∷ []
unfolding accepts_of judged_of spared spared_from kept or_code result get_walk within cap stands names both same_bytes
    plus steps when ◌>>=◌ map_out given choose Semantics.bounded Semantics.tested on_list rest_of Semantics.get_each Semantics.get_node Semantics.get mk_list
    mk_pair
    and_then map_result or_refuse unless encode encodes size sizes
    on_whole kind_of make_front joined make_number make_wide make_body make_pair make_rest begin_value begin_rest due may_be begin_byte read read_value
    on_value read_values
    form_of body_width make variables read_nodes one_section if_section read_records with_nodes read_body node_in_range nodes_in_range roots_in_range in_range
    read_header
    read_sheet
    dec_le ℕ_discrete
verdicts = refl
