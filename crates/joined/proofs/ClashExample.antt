-- The law of a clash can be applied: document 01's sheet P joined with itself is its sheet T, and a put that gives the one variable true and
-- then false is refused with 54.
use Rattle.std.specs.Prelude.{◌≡◌, refl, [], ◌∷◌, ℕ}
use Rattle.std.proofs.Math.Option.{some}
use Rattle.std.proofs.Common.{arith}
use Rattle.std.proofs.Math.Decide.{dec_le, ℕ_discrete}
use Rattle.value.specs.Result.{ok, and_then, map_result, or_refuse, unless}
use Rattle.value.specs.Value.{Value, vfalse, vtrue, encode, flat, same_value}
use Rattle.value.specs.Reading.{on_whole, kind_of, begin_value, read, read_value, on_value, read_values}
use Rattle.node.specs.declared.Node.TheVariants.{Var}
use Rattle.sheet.specs.Sheet.{Sheet, read_nodes, one_section, if_section, read_records, with_nodes, read_body, nodes_in_range, roots_in_range}
use Rattle.sheet.specs.Sheet.{in_range, read_header}
use Rattle.sheet.specs.Sheet.{read_sheet}
use Rattle.node.specs.Kinds.{form_of, body_width, make, node_in_range, written}
use Rattle.sheet.specs.Renumbering.{of_kind, renumber}
use Rattle.sheet.specs.Rows.{sheet_written}
use Rattle.rules.specs.Outcome.{done, plus, steps, when, map_out, ◌>>=◌, given, reading}
use Rattle.rules.specs.Allowance.{cap, within}
use Rattle.rules.specs.Semantics
use Rattle.rules.specs.Answer.{refusal, answer, door, count, new_plan, put_walk, put_bytes, put_answer}
use Rattle.rules.specs.Bits.{bits_of, bit, took, took_in, put_written}
use Rattle.rules.proofs.Examples.{P, T}
use Rattle.joined.specs.Joined.{joined}
use Rattle.joined.specs.Levels.{put_from}
use Rattle.joined.specs.JoinedCalls.{Joins}
use Rattle.joined.proofs.JoinedPuts.{puts_within, joined_put_clash}

-- P: one variable
abbrev only : Sheet
only = record { k = 1; root = 0; sections = []; nodes = Var 0 ∷ [] }

reads_p : read_sheet P ≡ ok only
unfolding and_then map_result or_refuse unless form_of body_width make read_nodes one_section if_section read_records with_nodes read_body node_in_range
    nodes_in_range
    roots_in_range in_range read_header read_sheet
reads_p = refl

twice : Joins P P T
unfolding joined renumber of_kind sheet_written written form_of body_width make
twice = record {
  first = only;
  second = only;
  read_first = reads_p;
  read_second = reads_p;
  variables = refl;
  few_nodes = omega arith;
  few_sections = omega arith;
  written = refl;
}

-- a put into it
walk_p : (v : Value) → put_from 47 only 0 (vfalse ∷ []) v ≡ done (some v ∷ []) 1
unfolding Semantics.put Semantics.put_node Semantics.write given plus count
walk_p v = refl

-- the law, whose every hypothesis holds
pub clashes_t : put_answer T (0x00 ∷ []) (0x05 ∷ 0x01 ∷ 0x00 ∷ []) 3 4096 65536 ≡ refusal 54
unfolding put_answer put_bytes put_walk answer door count new_plan within cap plus steps when ◌>>=◌ map_out given reading Semantics.or_old Semantics.write
    Semantics.put_node Semantics.put
    and_then map_result or_refuse unless encode flat same_value on_whole kind_of begin_value read read_value on_value read_values form_of body_width make
    read_nodes
    one_section if_section read_records with_nodes read_body node_in_range nodes_in_range roots_in_range in_range read_header read_sheet dec_le ℕ_discrete
    bits_of bit took
    took_in put_written twice
clashes_t =
    joined_put_clash twice (0x00 ∷ []) (0x01 ∷ []) (0x00 ∷ []) (0x01 ∷ []) (0x00 ∷ []) 1 1 4096 65536 1 1 refl refl
    (puts_within P (0x00 ∷ []) (0x01 ∷ []) 47 reads_p {μ = vfalse ∷ []} refl {v = vtrue} refl (walk_p vtrue))
    (puts_within P (0x00 ∷ []) (0x00 ∷ []) 47 reads_p {μ = vfalse ∷ []} refl {v = vfalse} refl (walk_p vfalse))
    (omega arith) {μ = vfalse ∷ []} {ν₁ = vtrue ∷ []} {ν₂ = vfalse ∷ []} refl refl refl 3 0 refl refl
    (λ e. let z : ◌≡◌ {A = ℕ} 0 1 = cc in omega arith) (omega arith) (omega arith)
