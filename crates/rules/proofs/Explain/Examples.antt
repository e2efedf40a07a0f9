-- Explanations, worked out: each refusal of the walk, with the nodes from the root down to the one that refuses.
use Rattle.std.specs.Prelude.{◌≡◌, refl, List, [], ◌∷◌, ◌++◌, map, ℕ, zero, suc}
use Rattle.std.proofs.Math.Option.{Option, none, some}
use Rattle.std.proofs.Math.Decide.{dec_le, ℕ_discrete}
use Rattle.value.specs.Result.{and_then, map_result, or_refuse, unless}
use Rattle.value.specs.Value.{size, sizes, same_value}
use Rattle.value.specs.Views.{as_list, as_front, as_pair, as_number, if_small, as_truth}
use Rattle.value.specs.Tests.{class, table, holds, passes}
use Rattle.value.specs.Reading.{
  on_whole,
  kind_of,
  make_front,
  joined,
  make_number,
  make_wide,
  make_body,
  make_pair,
  make_rest,
  begin_value,
  begin_rest,
  due,
  may_be,
  begin_byte,
  read,
  read_value,
  on_value,
  read_values,
}
use Rattle.sheet.specs.Sheet.{read_nodes, one_section, if_section, read_records, with_nodes, read_body, nodes_in_range, roots_in_range, in_range}
use Rattle.sheet.specs.Sheet.{read_header, read_sheet}
use Rattle.node.specs.Kinds.{form_of, body_width, make, node_in_range}
use Rattle.rules.specs.Outcome.{when}
use Rattle.rules.specs.Semantics
use Rattle.rules.specs.Semantics.{on_list, rest_of, mk_list, mk_pair}
use Rattle.rules.specs.Answer.{count}
use Rattle.rules.specs.Explain.{more, below, entered, choice, follow, next, wanted}
use Rattle.rules.specs.Explain.Calls.{Explanation, success, before, walked, explained, afterwards, explain_get, explain_put}
use Rattle.rules.specs.Explain.Calls.{unless_before, why_door, why_get, why_put}
use Rattle.rules.specs.Numbers.{scratch_size}
use Rattle.rules.proofs.Examples.{Q, T, H, B, first, opens, breaks, rest_is, renewed, nest, paired, kept, alone, unbound, shared, least}

abbrev why : ℕ → List ℕ → Option ℕ → Explanation
why c ch f = walked (record { code = c; chain = ch; first = f })

-- what is told of a call, and what should be
pub record Row : Type 0 where
  pub told : Explanation
  pub expected : Explanation

abbrev gets : (sheet plan : List ℕ) (allowance : ℕ) → Explanation → Row
gets sheet plan allowance e = record { told = why_get sheet plan allowance scratch_size; expected = e }

abbrev puts : (sheet plan view : List ℕ) (allowance : ℕ) → Explanation → Row
puts sheet plan view allowance e = record { told = why_put sheet plan view allowance scratch_size; expected = e }

-- the number 7
abbrev seven : List ℕ
seven = 0x04 ∷ 0x00 ∷ 0x07 ∷ []

-- a section that adds 0 to what it gives itself: nodes 1 and 2 in turn, with no end
abbrev loops : List ℕ
loops = 0x01 ∷ 0x01 ∷ 0x00 ∷ 0x20 ∷ 0x01 ∷ 0x1A ∷ 0x00 ∷ 0x00 ∷ 0x00 ∷ 0x1B ∷ 0x02 ∷ 0x00 ∷ 0x00 ∷ 0x1A ∷ 0x00 ∷ 0x00 ∷ 0x00 ∷ []

-- a pair of a pair of variable 0 twice, and variable 0
abbrev thrice : List ℕ
thrice = 0x01 ∷ 0x01 ∷ 0x00 ∷ 0x16 ∷ 0x01 ∷ 0x04 ∷ 0x16 ∷ 0x02 ∷ 0x03 ∷ 0x10 ∷ 0x00 ∷ 0x10 ∷ 0x00 ∷ 0x10 ∷ 0x00 ∷ []

-- the same, but the last is variable 5, which is not in scope
abbrev outside : List ℕ
outside = 0x01 ∷ 0x01 ∷ 0x00 ∷ 0x16 ∷ 0x01 ∷ 0x04 ∷ 0x16 ∷ 0x02 ∷ 0x03 ∷ 0x10 ∷ 0x00 ∷ 0x10 ∷ 0x00 ∷ 0x10 ∷ 0x05 ∷ []

-- a section called with a variable that is not in scope
abbrev astray : List ℕ
astray = 0x01 ∷ 0x01 ∷ 0x00 ∷ 0x20 ∷ 0x01 ∷ 0x1A ∷ 0x00 ∷ 0x00 ∷ 0x05 ∷ 0x10 ∷ 0x00 ∷ []

-- a front whose first member and rest are both variable 0
abbrev doubled : List ℕ
doubled = 0x01 ∷ 0x01 ∷ 0x00 ∷ 0x15 ∷ 0x01 ∷ 0x02 ∷ 0x10 ∷ 0x00 ∷ 0x10 ∷ 0x00 ∷ []

-- a split whose inner node is the pair's first value
abbrev half : List ℕ
half = 0x01 ∷ 0x01 ∷ 0x00 ∷ 0x19 ∷ 0x01 ∷ 0x02 ∷ 0x10 ∷ 0x00 ∷ 0x10 ∷ 0x01 ∷ []

-- a truth case whose subject is a sum
abbrev sum : List ℕ
sum = 0x01 ∷ 0x01 ∷ 0x00 ∷ 0x18 ∷ 0x01 ∷ 0x02 ∷ 0x00 ∷ 0x03 ∷ 0x00 ∷ 0x1B ∷ 0x04 ∷ 0x00 ∷ 0x64 ∷ 0x11 ∷ 0x11 ∷ 0x10 ∷ 0x00 ∷ []

-- B, but its first test says yes to False alone, and its first branch gives True
abbrev denied : List ℕ
denied = 0x01 ∷ 0x01 ∷ 0x00 ∷ 0x18 ∷ 0x01 ∷ 0x02 ∷ 0x03 ∷ 0x03 ∷ 0x04 ∷ 0x10 ∷ 0x00 ∷ 0x12 ∷ 0x12 ∷ []

-- a truth case whose subject is such a case
abbrev in_denied : List ℕ
in_denied = 0x01 ∷ 0x01 ∷ 0x00 ∷ 0x18 ∷ 0x01 ∷ 0x04 ∷ 0x00 ∷ 0x04 ∷ 0x00 ∷ 0x18 ∷ 0x02 ∷ 0x03 ∷ 0x03 ∷ 0x03 ∷ 0x04 ∷ 0x10 ∷ 0x00 ∷ 0x12 ∷ 0x11 ∷ []

-- nodes 1 and 2, n times
abbrev turns : ℕ → List ℕ
turns zero = []
turns (suc n) = 1 ∷ 2 ∷ turns n

unfoldable pub rows : List Row
rows =
    -- before the walk, and a success
    (gets T seven 3 success)
    ∷ (puts T seven (0x05 ∷ 0x04 ∷ 0x00 ∷ 0x01 ∷ 0x04 ∷ 0x00 ∷ 0x01 ∷ []) 3 success)
    ∷ (gets T (0x04 ∷ 0x00 ∷ []) 3 (before 20))
    ∷ (puts T seven (0x05 ∷ 0x04 ∷ 0x00 ∷ []) 3 (before 30))
    ∷ (gets T seven 0 (before 3))
    ∷ (puts T seven (0x00 ∷ []) 1000001 (before 3))
    ∷ (record { told = why_get T seven 0 65535; expected = before 2 })
    -- 40: the node at depth 49, which could not be entered
    ∷ (gets loops seven 1000 (why 40 (0 ∷ turns 24) none))
    ∷ (puts loops seven seven 1000 (why 40 (0 ∷ turns 24) none))
    -- 41: the node that could not be entered, and not the last one that was
    ∷ (gets Q seven 2 (why 41 (0 ∷ 2 ∷ []) none))
    ∷ (gets T seven 1 (why 41 (0 ∷ 1 ∷ []) none))
    ∷ (gets thrice seven 4 (why 41 (0 ∷ 4 ∷ []) none))
    ∷ (puts T seven (0x05 ∷ 0x04 ∷ 0x00 ∷ 0x01 ∷ 0x04 ∷ 0x00 ∷ 0x02 ∷ []) 2 (why 41 (0 ∷ 2 ∷ []) none))
    ∷ (puts thrice seven (0x05 ∷ 0x05 ∷ 0x00 ∷ 0x00 ∷ 0x00 ∷ []) 4 (why 41 (0 ∷ 4 ∷ []) none))
    -- 42: the variable, though others were entered deeper; the call; the each; the variable in a default
    ∷ (gets outside seven 1000 (why 42 (0 ∷ 4 ∷ []) none))
    ∷ (puts outside seven (0x05 ∷ 0x05 ∷ 0x00 ∷ 0x00 ∷ 0x00 ∷ []) 1000 (why 42 (0 ∷ 4 ∷ []) none))
    ∷ (gets astray seven 1000 (why 42 (0 ∷ []) none))
    ∷ (puts astray seven seven 1000 (why 42 (0 ∷ []) none))
    ∷ (gets unbound (0x02 ∷ []) 1000 (why 42 (0 ∷ []) none))
    ∷ (puts unbound (0x02 ∷ []) (0x02 ∷ []) 1000 (why 42 (0 ∷ []) none))
    ∷ (puts (rest_is 1) (0x02 ∷ []) (0x01 ∷ []) 1000 (why 42 (0 ∷ 5 ∷ []) none))
    ∷ (puts alone (0x02 ∷ []) (0x03 ∷ 0x00 ∷ 0x02 ∷ []) 1000 (why 42 (0 ∷ 1 ∷ []) none))
    -- 43: the case, the split, the sum, the front or the each, and not the node that gave the value
    ∷ (gets first least 1000 (why 43 (0 ∷ []) none))
    ∷ (gets opens least 1000 (why 43 (0 ∷ []) none))
    ∷ (gets renewed (0x00 ∷ least) 1000 (why 43 (0 ∷ []) none))
    ∷ (gets H least 1000 (why 43 (0 ∷ []) none))
    ∷ (gets doubled seven 1000 (why 43 (0 ∷ []) none))
    ∷ (gets unbound (0x00 ∷ []) 1000 (why 43 (0 ∷ []) none))
    ∷ (puts B seven (0x00 ∷ []) 1000 (why 43 (0 ∷ []) none))
    ∷ (puts opens least (0x00 ∷ []) 1000 (why 43 (0 ∷ []) none))
    ∷ (puts half seven (0x00 ∷ []) 1000 (why 43 (0 ∷ []) none))
    ∷ (puts unbound (0x00 ∷ []) (0x02 ∷ []) 1000 (why 43 (0 ∷ []) none))
    -- of a default rest, and of a rebuilt subject
    ∷ (puts (rest_is 0) (0x02 ∷ []) (0x01 ∷ []) 1000 (why 43 (0 ∷ []) none))
    ∷ (puts breaks (0x02 ∷ []) (0x01 ∷ []) 1000 (why 43 (0 ∷ []) none))
    -- 44: the front, the pair, the each; the case or the split whose subject is rebuilt
    ∷ (gets doubled (0x03 ∷ (nest 63 ++ 0x02 ∷ [])) 1000 (why 44 (0 ∷ []) none))
    ∷ (gets T (nest 64) 1000 (why 44 (0 ∷ []) none))
    ∷ (gets paired (0x03 ∷ 0x04 ∷ 0x00 ∷ 0x01 ∷ 0x03 ∷ 0x04 ∷ 0x00 ∷ 0x02 ∷ 0x02 ∷ nest 61) 1000 (why 44 (0 ∷ []) none))
    ∷ (puts opens (0x03 ∷ 0x00 ∷ 0x03 ∷ (nest 60 ++ 0x02 ∷ [])) (nest 66) 1000 (why 44 (0 ∷ []) none))
    ∷ (puts half (0x05 ∷ 0x00 ∷ nest 62) (nest 66) 1000 (why 44 (0 ∷ []) none))
    ∷ (puts kept (0x03 ∷ (nest 125 ++ 0x02 ∷ [])) (0x03 ∷ 0x00 ∷ 0x03 ∷ 0x00 ∷ 0x02 ∷ []) 1000 (why 44 (0 ∷ []) none))
    -- 45: the sum
    ∷ (gets H (0x04 ∷ 0xFF ∷ 0x9C ∷ []) 1000 (why 45 (0 ∷ []) none))
    ∷ (puts sum (0x04 ∷ 0xFF ∷ 0x9C ∷ []) (0x00 ∷ []) 1000 (why 45 (0 ∷ 1 ∷ []) none))
    -- 46: the case, and not its branch
    ∷ (gets denied (0x00 ∷ []) 1000 (why 46 (0 ∷ []) none))
    ∷ (gets in_denied (0x00 ∷ []) 1000 (why 46 (0 ∷ 1 ∷ []) none))
    ∷ (puts in_denied (0x00 ∷ []) (0x00 ∷ []) 1000 (why 46 (0 ∷ 1 ∷ []) none))
    -- 50 to 53: the constant; the node that takes the view apart; the sum; the case
    ∷ (puts Q seven (0x03 ∷ 0x04 ∷ 0x00 ∷ 0x08 ∷ 0x03 ∷ 0x04 ∷ 0x00 ∷ 0x09 ∷ 0x02 ∷ []) 1000 (why 50 (0 ∷ 2 ∷ []) none))
    ∷ (puts Q seven (0x02 ∷ []) 1000 (why 51 (0 ∷ []) none))
    ∷ (puts T seven (0x00 ∷ []) 1000 (why 51 (0 ∷ []) none))
    ∷ (puts H seven least 1000 (why 51 (0 ∷ []) none))
    ∷ (puts unbound (0x00 ∷ []) (0x00 ∷ []) 1000 (why 51 (0 ∷ []) none))
    ∷ (puts H seven (0x04 ∷ 0x00 ∷ 0x63 ∷ []) 1000 (why 52 (0 ∷ []) none))
    ∷ (puts B (0x00 ∷ []) (0x00 ∷ []) 1000 (why 53 (0 ∷ []) none))
    -- 54: the second of two, by the first; the third, by the first and not by the second, which wrote the same; in an each; of a subject
    ∷ (puts T seven (0x05 ∷ 0x04 ∷ 0x00 ∷ 0x01 ∷ 0x04 ∷ 0x00 ∷ 0x02 ∷ []) 1000 (why 54 (0 ∷ 2 ∷ []) (some 1)))
    ∷ (puts thrice seven (0x05 ∷ 0x05 ∷ 0x00 ∷ 0x00 ∷ 0x01 ∷ []) 1000 (why 54 (0 ∷ 4 ∷ []) (some 2)))
    ∷ (puts shared (0x03 ∷ 0x00 ∷ 0x03 ∷ 0x00 ∷ 0x02 ∷ 0x01 ∷ []) (0x03 ∷ 0x00 ∷ 0x03 ∷ 0x01 ∷ 0x02 ∷ []) 1000 (why 54 (0 ∷ 2 ∷ []) (some 2)))
    ∷ (puts renewed (0x00 ∷ 0x05 ∷ 0x00 ∷ 0x00 ∷ []) (0x01 ∷ []) 1000 (why 54 (0 ∷ 1 ∷ 3 ∷ []) (some 2)))
    ∷ []

pub worked : map (λ (r : Row). r.told) rows ≡ map (λ (r : Row). r.expected) rows
unfolding rows why_get why_put why_door unless_before explain_get explain_put explained afterwards more below entered choice follow next wanted count when
    Semantics.bounded Semantics.tested on_list rest_of Semantics.get_each Semantics.get_node Semantics.get Semantics.or_old Semantics.constant Semantics.write
    Semantics.both
    Semantics.under Semantics.stood_for Semantics.put_each mk_list mk_pair Semantics.put_node Semantics.put
    and_then map_result or_refuse unless size sizes same_value as_list as_front as_pair as_number if_small as_truth class table holds passes
    on_whole kind_of make_front joined make_number make_wide make_body make_pair make_rest begin_value begin_rest due may_be begin_byte read read_value
    on_value read_values
    form_of body_width make read_nodes one_section if_section read_records with_nodes read_body node_in_range nodes_in_range roots_in_range in_range
    read_header read_sheet
    dec_le ℕ_discrete
worked = refl
