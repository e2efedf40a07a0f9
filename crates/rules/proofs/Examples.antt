-- The starred examples of document 01, as one table, and one claim over it.
use Rattle.std.specs.Prelude.{◌≡◌, refl, List, [], ◌∷◌, ◌++◌, map, ℕ, suc, replicate}
use Rattle.std.proofs.Math.Option.{Option, none, some}
use Rattle.std.proofs.Math.Decide.{dec_le, ℕ_discrete}
use Rattle.value.specs.Result.{and_then, map_result, or_refuse, unless}
use Rattle.value.specs.Value.{encode, encodes, size, sizes, flat, same_value}
use Rattle.value.specs.Views.{as_list, as_front, as_pair, as_number, if_small, as_truth}
use Rattle.value.specs.Tests.{class, table, holds, passes}
use Rattle.value.specs.Reading.{
  on_whole,
  kind_of,
  make_front,
  joined,
  make_number,
  make_wide,
  make_body,
  make_pair,
  make_rest,
  begin_value,
  begin_rest,
  due,
  may_be,
  begin_byte,
  read,
  read_value,
  on_value,
  read_values,
}
use Rattle.sheet.specs.Sheet.{read_nodes, one_section, if_section, read_records, with_nodes, read_body, nodes_in_range, roots_in_range, in_range}
use Rattle.sheet.specs.Sheet.{read_header, read_sheet}
use Rattle.node.specs.Kinds.{form_of, body_width, make, node_in_range}
use Rattle.rules.specs.Outcome.{plus, steps, when, ◌>>=◌, map_out, given, reading, choose}
use Rattle.rules.specs.Allowance.{cap, within}
use Rattle.rules.specs.Semantics
use Rattle.rules.specs.Counting.{on_list, rest_of, mk_list, mk_pair}
use Rattle.rules.specs.Answer.{Answer, refusal, success, answer, door, get_walk, get_bytes, get_answer, count, new_plan, put_walk, put_bytes, put_answer}
use Rattle.rules.specs.Numbers.{scratch_size, put_output}

-- a sheet, a plan, a view to be put (or none: a get), an allowance, and the answer
pub record Row : Type 0 where
  pub sheet : List ℕ
  pub plan : List ℕ
  pub view : Option (List ℕ)
  pub allowance : ℕ
  pub expected : Answer

-- the call of a row, with an output of 4,096 bytes and scratch of 65,536
unfoldable pub call : List ℕ → List ℕ → Option (List ℕ) → ℕ → Answer
call sheet plan none allowance = get_answer sheet plan allowance put_output scratch_size
call sheet plan (some view) allowance = put_answer sheet plan view allowance put_output scratch_size

unfoldable pub run : Row → Answer
unfolding call
run r = call r.sheet r.plan r.view r.allowance

abbrev pub gets : List ℕ → List ℕ → Answer → Row
gets sheet plan expected = record { sheet = sheet; plan = plan; view = none; allowance = 1000; expected = expected }

abbrev pub puts : List ℕ → List ℕ → List ℕ → Answer → Row
puts sheet plan view expected = record { sheet = sheet; plan = plan; view = some view; allowance = 1000; expected = expected }

-- the sheets
abbrev pub P : List ℕ
P = 0x01 ∷ 0x01 ∷ 0x00 ∷ 0x10 ∷ 0x00 ∷ []

abbrev pub Q : List ℕ
Q = 0x01 ∷ 0x01 ∷ 0x00 ∷ 0x15 ∷ 0x01 ∷ 0x02 ∷ 0x10 ∷ 0x00 ∷ 0x13 ∷ []

abbrev pub T : List ℕ
T = 0x01 ∷ 0x01 ∷ 0x00 ∷ 0x16 ∷ 0x01 ∷ 0x02 ∷ 0x10 ∷ 0x00 ∷ 0x10 ∷ 0x00 ∷ []

abbrev pub H : List ℕ
H = 0x01 ∷ 0x01 ∷ 0x00 ∷ 0x1B ∷ 0x01 ∷ 0x00 ∷ 0x64 ∷ 0x10 ∷ 0x00 ∷ []

abbrev pub B : List ℕ
B = 0x01 ∷ 0x01 ∷ 0x00 ∷ 0x18 ∷ 0x01 ∷ 0x02 ∷ 0x04 ∷ 0x03 ∷ 0x04 ∷ 0x10 ∷ 0x00 ∷ 0x12 ∷ 0x12 ∷ []

abbrev pub J : List ℕ
J = 0x01 ∷ 0x02 ∷ 0x00 ∷ 0x20 ∷ 0x01 ∷ 0x1A ∷ 0x00 ∷ 0x00 ∷ 0x01 ∷ 0x17 ∷ 0x02 ∷ 0x03 ∷ 0x00 ∷ 0x04 ∷ 0x02 ∷ 0x07 ∷ 0x08 ∷ 0x10 ∷ 0x00 ∷ 0x10 ∷ 0x01 ∷ 0x15 ∷
    0x05 ∷ 0x06 ∷ 0x10 ∷ 0x02 ∷ 0x1A ∷ 0x00 ∷ 0x03 ∷ 0x01 ∷ 0x11 ∷ 0x13 ∷ []

unfoldable pub rows : List Row
rows =
    (gets P (0x04 ∷ 0x00 ∷ 0xBA ∷ []) (success (0x04 ∷ 0x00 ∷ 0xBA ∷ []) 1))
    ∷ (puts P (0x04 ∷ 0x00 ∷ 0x07 ∷ []) (0x01 ∷ []) (success (0x01 ∷ []) 1))
    ∷ (gets Q (0x04 ∷ 0x00 ∷ 0x07 ∷ []) (success (0x03 ∷ 0x04 ∷ 0x00 ∷ 0x07 ∷ 0x02 ∷ []) 3))
    ∷ (record { sheet = Q; plan = 0x04 ∷ 0x00 ∷ 0x07 ∷ []; view = none; allowance = 2; expected = refusal 41 })
    ∷ (puts Q (0x04 ∷ 0x00 ∷ 0x07 ∷ []) (0x02 ∷ []) (refusal 51))
    ∷ (puts T (0x04 ∷ 0x00 ∷ 0x07 ∷ []) (0x05 ∷ 0x04 ∷ 0x00 ∷ 0x07 ∷ 0x04 ∷ 0x00 ∷ 0x08 ∷ []) (refusal 54))
    ∷ (puts T (0x04 ∷ 0x00 ∷ 0x07 ∷ []) (0x05 ∷ 0x04 ∷ 0x00 ∷ 0x08 ∷ 0x04 ∷ 0x00 ∷ 0x08 ∷ []) (success (0x04 ∷ 0x00 ∷ 0x08 ∷ []) 3))
    ∷ (gets H (0x04 ∷ 0xFF ∷ 0x9B ∷ []) (success (0x04 ∷ 0xFF ∷ 0xFF ∷ []) 2))
    ∷ (gets H (0x04 ∷ 0xFF ∷ 0x9C ∷ []) (refusal 45))
    ∷ (puts H (0x04 ∷ 0x00 ∷ 0x07 ∷ []) (0x04 ∷ 0x00 ∷ 0x64 ∷ []) (success (0x04 ∷ 0x00 ∷ 0x00 ∷ []) 2))
    ∷ (puts H (0x04 ∷ 0x00 ∷ 0x07 ∷ []) (0x04 ∷ 0x00 ∷ 0x63 ∷ []) (refusal 52))
    ∷ (puts B (0x00 ∷ []) (0x00 ∷ []) (refusal 53))
    ∷ (puts J (0x03 ∷ 0x04 ∷ 0x00 ∷ 0x01 ∷ 0x03 ∷ 0x04 ∷ 0x00 ∷ 0x02 ∷ 0x02 ∷ 0x03 ∷ 0x04 ∷ 0x00 ∷ 0x03 ∷ 0x03 ∷ 0x04 ∷ 0x00 ∷ 0x04 ∷ 0x03 ∷ 0x04 ∷ 0x00 ∷
    0x05 ∷ 0x02 ∷ []) (0x03 ∷ 0x04 ∷ 0x00 ∷ 0x06 ∷ 0x02 ∷ []) (success (0x03 ∷ 0x04 ∷ 0x00 ∷ 0x06 ∷ 0x02 ∷ 0x02 ∷ []) 11))
    ∷ []

-- each row has its answer
pub starred : map run rows ≡ map (λ (r : Row). r.expected) rows
unfolding rows run call get_answer get_bytes get_walk put_answer put_bytes put_walk answer door count new_plan within cap
    plus steps when ◌>>=◌ map_out given reading choose Semantics.bounded Semantics.tested on_list Semantics.get_node Semantics.get Semantics.or_old
    Semantics.constant Semantics.write Semantics.both
    Semantics.under mk_list mk_pair Semantics.put_node Semantics.put
    and_then map_result or_refuse unless encode encodes size sizes flat same_value as_list as_front as_pair as_number if_small as_truth class table holds passes
    on_whole kind_of make_front joined make_number make_wide make_body make_pair make_rest begin_value begin_rest due may_be begin_byte read read_value
    on_value read_values
    form_of body_width make read_nodes one_section if_section read_records with_nodes read_body node_in_range nodes_in_range roots_in_range in_range
    read_header read_sheet
    dec_le ℕ_discrete
starred = refl

-- Rows that tell the rules from document 01's plausible but mistaken builds; of the each, of wide numbers and of the defaults, from those of
-- document 02, requests 1, 4 and 5

-- a truth case whose two tests are both True
abbrev pub first : List ℕ
first = 0x01 ∷ 0x01 ∷ 0x00 ∷ 0x18 ∷ 0x01 ∷ 0x02 ∷ 0x04 ∷ 0x03 ∷ 0x04 ∷ 0x10 ∷ 0x00 ∷ 0x10 ∷ 0x00 ∷ 0x10 ∷ 0x00 ∷ []

-- a split whose subject is itself a case on the variable that the inner node writes
abbrev pub renewed : List ℕ
renewed = 0x01 ∷ 0x02 ∷ 0x00 ∷ 0x19 ∷ 0x01 ∷ 0x02 ∷ 0x18 ∷ 0x03 ∷ 0x04 ∷ 0x00 ∷ 0x05 ∷ 0x00 ∷ 0x10 ∷ 0x00 ∷ 0x10 ∷ 0x00 ∷ 0x10 ∷ 0x01 ∷ 0x10 ∷ 0x01 ∷ []

-- the same with a truth case around it
abbrev pub again : List ℕ
again = 0x01 ∷ 0x02 ∷ 0x00 ∷ 0x18 ∷ 0x01 ∷ 0x02 ∷ 0x00 ∷ 0x03 ∷ 0x00 ∷ 0x18 ∷ 0x04 ∷ 0x05 ∷ 0x00 ∷ 0x06 ∷ 0x00 ∷ 0x10 ∷ 0x00 ∷ 0x10 ∷ 0x00 ∷ 0x10 ∷ 0x00 ∷
    0x10 ∷ 0x01 ∷ 0x10 ∷ 0x01 ∷ []

-- a list case whose non-empty branch writes the first member alone; the defaults are True and [9]
abbrev pub opens : List ℕ
opens = 0x01 ∷ 0x01 ∷ 0x00 ∷ 0x17 ∷ 0x01 ∷ 0x02 ∷ 0x01 ∷ 0x03 ∷ 0x00 ∷ 0x04 ∷ 0x05 ∷ 0x10 ∷ 0x00 ∷ 0x13 ∷ 0x10 ∷ 0x01 ∷ 0x12 ∷ 0x15 ∷ 0x06 ∷ 0x07 ∷ 0x14 ∷
    0x00 ∷ 0x09 ∷ 0x13 ∷ []

-- and one that writes the rest alone
abbrev pub breaks : List ℕ
breaks = 0x01 ∷ 0x01 ∷ 0x00 ∷ 0x17 ∷ 0x01 ∷ 0x02 ∷ 0x01 ∷ 0x03 ∷ 0x00 ∷ 0x04 ∷ 0x05 ∷ 0x10 ∷ 0x00 ∷ 0x13 ∷ 0x10 ∷ 0x02 ∷ 0x12 ∷ 0x15 ∷ 0x06 ∷ 0x07 ∷ 0x14 ∷
    0x00 ∷ 0x09 ∷ 0x13 ∷ []

-- variable 1 and behind it, in a pair, a list case that writes neither of its two variables; the defaults are the view and a list of the view
abbrev pub takes_after : List ℕ
takes_after = 0x01 ∷ 0x02 ∷ 0x00 ∷ 0x16 ∷ 0x01 ∷ 0x02 ∷ 0x10 ∷ 0x01 ∷ 0x17 ∷ 0x03 ∷ 0x04 ∷ 0x03 ∷ 0x05 ∷ 0x04 ∷ 0x06 ∷ 0x07 ∷ 0x10 ∷ 0x00 ∷ 0x11 ∷ 0x12 ∷
    0x10 ∷ 0x00 ∷ 0x15 ∷ 0x08 ∷ 0x09 ∷ 0x10 ∷ 0x00 ∷ 0x13 ∷ []

-- such a list case alone, whose default first is False and whose default rest is the variable x of its scope
abbrev pub rest_is : ℕ → List ℕ
rest_is x = 0x01 ∷ 0x01 ∷ 0x00 ∷ 0x17 ∷ 0x01 ∷ 0x02 ∷ 0x03 ∷ 0x03 ∷ 0x04 ∷ 0x04 ∷ 0x05 ∷ 0x10 ∷ 0x00 ∷ 0x11 ∷ 0x12 ∷ 0x11 ∷ 0x10 ∷ x ∷ []

-- a value of 2n + 1 bytes
abbrev pub nest : ℕ → List ℕ
nest n = replicate n 0x05 ++ replicate (suc n) 0x00

-- an each (its subject is variable 0): every member, with 1 added, is paired with variable 1
abbrev pub paired : List ℕ
paired = 0x01 ∷ 0x02 ∷ 0x00 ∷ 0x20 ∷ 0x02 ∷ 0x1C ∷ 0x01 ∷ 0x00 ∷ 0x01 ∷ 0x01 ∷ 0x10 ∷ 0x00 ∷ 0x16 ∷ 0x03 ∷ 0x04 ∷ 0x1B ∷ 0x05 ∷ 0x00 ∷ 0x01 ∷ 0x10 ∷ 0x01 ∷
    0x10 ∷ 0x00 ∷ []

-- one that gives the members as they are; the default is 7
abbrev pub grown : List ℕ
grown = 0x01 ∷ 0x01 ∷ 0x00 ∷ 0x20 ∷ 0x02 ∷ 0x1C ∷ 0x01 ∷ 0x00 ∷ 0x00 ∷ 0x03 ∷ 0x10 ∷ 0x00 ∷ 0x10 ∷ 0x00 ∷ 0x14 ∷ 0x00 ∷ 0x07 ∷ []

-- one whose section is False, so that no member is written; the default is 7
abbrev pub kept : List ℕ
kept = 0x01 ∷ 0x01 ∷ 0x00 ∷ 0x20 ∷ 0x02 ∷ 0x1C ∷ 0x01 ∷ 0x00 ∷ 0x00 ∷ 0x03 ∷ 0x10 ∷ 0x00 ∷ 0x11 ∷ 0x14 ∷ 0x00 ∷ 0x07 ∷ []

-- the same, but the default is a variable, which is not in scope there
abbrev pub alone : List ℕ
alone = 0x01 ∷ 0x01 ∷ 0x00 ∷ 0x20 ∷ 0x02 ∷ 0x1C ∷ 0x01 ∷ 0x00 ∷ 0x00 ∷ 0x01 ∷ 0x10 ∷ 0x00 ∷ 0x11 ∷ []

-- one whose variable is not in scope
abbrev pub unbound : List ℕ
unbound = 0x01 ∷ 0x01 ∷ 0x00 ∷ 0x20 ∷ 0x02 ∷ 0x1C ∷ 0x01 ∷ 0x00 ∷ 0x01 ∷ 0x02 ∷ 0x10 ∷ 0x00 ∷ 0x11 ∷ []

-- one whose section gives its variable 1
abbrev pub shared : List ℕ
shared = 0x01 ∷ 0x02 ∷ 0x00 ∷ 0x20 ∷ 0x02 ∷ 0x1C ∷ 0x01 ∷ 0x00 ∷ 0x01 ∷ 0x01 ∷ 0x10 ∷ 0x00 ∷ 0x10 ∷ 0x01 ∷ []

-- a constant of four bytes, 01020304; and one that two bytes hold, 65,535
abbrev pub price : List ℕ
price = 0x01 ∷ 0x01 ∷ 0x00 ∷ 0x1D ∷ 0x01 ∷ 0x02 ∷ 0x03 ∷ 0x04 ∷ []

abbrev pub cheap : List ℕ
cheap = 0x01 ∷ 0x01 ∷ 0x00 ∷ 0x1D ∷ 0x00 ∷ 0x00 ∷ 0xFF ∷ 0xFF ∷ []

-- the least wide number
abbrev pub least : List ℕ
least = 0x06 ∷ 0x00 ∷ 0x01 ∷ 0x00 ∷ 0x00 ∷ []

unfoldable pub telling : List Row
telling =
    (puts first (0x01 ∷ []) (0x01 ∷ []) (success (0x01 ∷ []) 4))
    ∷ (puts renewed (0x00 ∷ 0x05 ∷ 0x00 ∷ 0x00 ∷ []) (0x01 ∷ []) (refusal 54))
    ∷ (puts again (0x00 ∷ 0x00 ∷ []) (0x01 ∷ []) (refusal 54))
    ∷ (puts opens (0x02 ∷ []) (0x01 ∷ []) (success (0x03 ∷ 0x01 ∷ 0x03 ∷ 0x04 ∷ 0x00 ∷ 0x09 ∷ 0x02 ∷ []) 8))
    ∷ (puts breaks (0x02 ∷ []) (0x01 ∷ []) (refusal 43))
    -- both defaults see the part of the view that was put into the list case, and nothing else; a rest that is no list is 43
    ∷ (puts takes_after (0x02 ∷ 0x01 ∷ []) (0x05 ∷ 0x00 ∷ 0x01 ∷ []) (success (0x03 ∷ 0x01 ∷ 0x03 ∷ 0x01 ∷ 0x02 ∷ 0x00 ∷ []) 10))
    ∷ (puts (rest_is 0) (0x02 ∷ []) (0x01 ∷ []) (refusal 43))
    ∷ (puts (rest_is 1) (0x02 ∷ []) (0x01 ∷ []) (refusal 42))
    -- an each: both variables of its section, and its steps
    ∷ (gets paired (0x03 ∷ 0x04 ∷ 0x00 ∷ 0x01 ∷ 0x03 ∷ 0x04 ∷ 0x00 ∷ 0x02 ∷ 0x02 ∷ 0x00 ∷ []) (success (0x03 ∷ 0x05 ∷ 0x04 ∷ 0x00 ∷ 0x02 ∷ 0x00 ∷ 0x03 ∷
    0x05 ∷ 0x04 ∷ 0x00 ∷ 0x03 ∷ 0x00 ∷ 0x02 ∷ []) 10))
    -- 44 where 257 bytes are reached, the 02 among them, and before the next member, which would be 43 or 50
    ∷ (gets paired (0x03 ∷ 0x04 ∷ 0x00 ∷ 0x01 ∷ 0x03 ∷ 0x04 ∷ 0x00 ∷ 0x02 ∷ 0x02 ∷ nest 61) (refusal 44))
    ∷ (gets paired (0x03 ∷ 0x04 ∷ 0x00 ∷ 0x01 ∷ 0x03 ∷ 0x04 ∷ 0x00 ∷ 0x02 ∷ 0x03 ∷ 0x00 ∷ 0x02 ∷ nest 61) (refusal 44))
    ∷ (puts kept (0x03 ∷ (nest 125 ++ 0x02 ∷ [])) (0x03 ∷ 0x00 ∷ 0x03 ∷ 0x00 ∷ 0x02 ∷ []) (refusal 44))
    ∷ (puts kept (0x03 ∷ (nest 125 ++ 0x02 ∷ [])) (0x03 ∷ 0x00 ∷ 0x03 ∷ 0x00 ∷ 0x03 ∷ 0x01 ∷ 0x02 ∷ []) (refusal 44))
    -- the default got anew for each of two new members: 7 steps; old members past the view's end dropped; what was written taken
    ∷ (puts grown (0x02 ∷ []) (0x03 ∷ 0x00 ∷ 0x03 ∷ 0x00 ∷ 0x02 ∷ []) (success (0x03 ∷ 0x00 ∷ 0x03 ∷ 0x00 ∷ 0x02 ∷ []) 7))
    ∷ (puts grown (0x03 ∷ 0x04 ∷ 0x00 ∷ 0x05 ∷ 0x03 ∷ 0x04 ∷ 0x00 ∷ 0x06 ∷ 0x02 ∷ []) (0x03 ∷ 0x00 ∷ 0x02 ∷ []) (success (0x03 ∷ 0x00 ∷ 0x02 ∷ []) 4))
    -- a member that is not written stays; the default is not got before it is needed, and then in an empty scope
    ∷ (puts alone (0x03 ∷ 0x04 ∷ 0x00 ∷ 0x05 ∷ 0x02 ∷ []) (0x03 ∷ 0x00 ∷ 0x02 ∷ []) (success (0x03 ∷ 0x04 ∷ 0x00 ∷ 0x05 ∷ 0x02 ∷ []) 4))
    ∷ (puts alone (0x03 ∷ 0x04 ∷ 0x00 ∷ 0x05 ∷ 0x02 ∷ []) (0x03 ∷ 0x01 ∷ 0x03 ∷ 0x00 ∷ 0x02 ∷ []) (refusal 50))
    ∷ (puts alone (0x03 ∷ 0x04 ∷ 0x00 ∷ 0x05 ∷ 0x02 ∷ []) (0x03 ∷ 0x00 ∷ 0x03 ∷ 0x00 ∷ 0x02 ∷ []) (refusal 42))
    -- the view is judged before the subject is got, the subject before the variable, and the variable whatever the list
    ∷ (puts unbound (0x00 ∷ []) (0x00 ∷ []) (refusal 51))
    ∷ (record { sheet = unbound; plan = 0x02 ∷ []; view = some (0x00 ∷ []); allowance = 1; expected = refusal 51 })
    ∷ (puts unbound (0x00 ∷ []) (0x02 ∷ []) (refusal 43))
    ∷ (puts unbound (0x02 ∷ []) (0x02 ∷ []) (refusal 42))
    ∷ (gets unbound (0x00 ∷ []) (refusal 43))
    ∷ (gets unbound (0x02 ∷ []) (refusal 42))
    -- the section's variable 1 is the caller's, for every member
    ∷ (puts shared (0x03 ∷ 0x04 ∷ 0x00 ∷ 0x05 ∷ 0x02 ∷ 0x01 ∷ []) (0x03 ∷ 0x00 ∷ 0x02 ∷ []) (success (0x03 ∷ 0x04 ∷ 0x00 ∷ 0x05 ∷ 0x02 ∷ 0x00 ∷ []) 4))
    ∷ (puts shared (0x03 ∷ 0x04 ∷ 0x00 ∷ 0x05 ∷ 0x03 ∷ 0x04 ∷ 0x00 ∷ 0x06 ∷ 0x02 ∷ 0x01 ∷ []) (0x03 ∷ 0x00 ∷ 0x03 ∷ 0x01 ∷ 0x02 ∷ []) (refusal 54))
    -- wide numbers: the high byte first, both ways; 65,535 is none, in a sheet, a plan and a view
    ∷ (gets price (0x00 ∷ []) (success (0x06 ∷ 0x01 ∷ 0x02 ∷ 0x03 ∷ 0x04 ∷ []) 1))
    ∷ (puts price (0x00 ∷ []) (0x06 ∷ 0x01 ∷ 0x02 ∷ 0x03 ∷ 0x04 ∷ []) (success (0x00 ∷ []) 1))
    ∷ (puts price (0x00 ∷ []) (0x06 ∷ 0x04 ∷ 0x03 ∷ 0x02 ∷ 0x01 ∷ []) (refusal 50))
    ∷ (puts price (0x00 ∷ []) (0x04 ∷ 0x03 ∷ 0x04 ∷ []) (refusal 50))
    ∷ (gets cheap (0x00 ∷ []) (refusal 13))
    ∷ (gets P least (success least 1))
    ∷ (gets P (0x06 ∷ 0x00 ∷ 0x00 ∷ 0xFF ∷ 0xFF ∷ []) (refusal 20))
    ∷ (puts P least (0x06 ∷ 0x00 ∷ 0x00 ∷ 0xFF ∷ 0xFF ∷ []) (refusal 30))
    -- one that is too small is malformed at its last byte: behind the end of the room within it, before the end of the room behind it
    ∷ (gets P (0x05 ∷ (nest 125 ++ 0x06 ∷ 0x00 ∷ 0x00 ∷ 0x00 ∷ 0x00 ∷ [])) (refusal 21))
    ∷ (gets P (0x05 ∷ 0x06 ∷ 0x00 ∷ 0x00 ∷ 0x00 ∷ 0x00 ∷ nest 125) (refusal 20))
    -- an added amount takes none, both ways, and no case or split does
    ∷ (gets H least (refusal 43))
    ∷ (puts H (0x04 ∷ 0x00 ∷ 0x07 ∷ []) least (refusal 51))
    ∷ (gets first least (refusal 43))
    ∷ (gets opens least (refusal 43))
    ∷ (gets renewed (0x00 ∷ least) (refusal 43))
    ∷ []

pub told_apart : map run telling ≡ map (λ (r : Row). r.expected) telling
unfolding telling run call get_answer get_bytes get_walk put_answer put_bytes put_walk answer door count new_plan within cap
    plus steps when ◌>>=◌ map_out given reading choose Semantics.bounded Semantics.tested on_list rest_of Semantics.get_each Semantics.get_node Semantics.get
    Semantics.or_old Semantics.constant
    Semantics.write Semantics.both
    Semantics.under Semantics.stood_for Semantics.put_each mk_list mk_pair Semantics.put_node Semantics.put
    and_then map_result or_refuse unless encode encodes size sizes flat same_value as_list as_front as_pair as_number if_small as_truth class table holds passes
    on_whole kind_of make_front joined make_number make_wide make_body make_pair make_rest begin_value begin_rest due may_be begin_byte read read_value
    on_value read_values
    form_of body_width make read_nodes one_section if_section read_records with_nodes read_body node_in_range nodes_in_range roots_in_range in_range
    read_header read_sheet
    dec_le ℕ_discrete
told_apart = refl
