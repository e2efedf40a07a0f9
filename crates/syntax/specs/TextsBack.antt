-- THE OTHER LAW: a text that is read says a sheet in range, which request 12 gives back unchanged.
use Rattle.std.specs.Prelude.{◌≡◌, List, [], ◌∷◌, ◌++◌, ℕ, suc, ◌≤◌, ◌<◌, length, get_or}
use Rattle.std.proofs.Common.{ap, ◌∙◌}
use native.Mathlib.Omega.{arith}
use Rattle.node.specs.declared.Node.{Node}
use Rattle.node.specs.declared.Node.TheVariants.{False}
use Rattle.node.specs.Kinds.{Role, a_node, a_section, a_variable, a_test, a_number, a_wide, Field, row, written}
use Rattle.sheet.specs.Sheet.{Sheet}
use Rattle.sheet.specs.Laws.{InRange, AllFit, Ranges}
use Rattle.sheet.specs.Rows.{Every, limit, Small, all_written, roots_written, sheet_written}
use Rattle.sheet.proofs.Rows.{written_bytes}
use Rattle.sheet.proofs.Written.{Bytes}
use Rattle.sheet.proofs.Ranging.{read_back}
use Rattle.preorder.proofs.Uses.{once_all}
use Rattle.preorder.specs.NumberAnswer.{done, number_answer, number_done}
use Rattle.syntax.specs.Trees.{Keeps, AllKeep, Trees, trees_keep, trees_ranges, trees_once, trees_still}

-- A SHEET THAT IS READ
pub record Met (sh : Sheet) : Type 0 where
  pub trees : Trees (length sh.sections) 0 (0 ∷ sh.sections) sh.nodes
  pub root : sh.root ≡ 0
  pub k : (1 ≤ sh.k) × (sh.k ≤ 16)
  pub few_nodes : length sh.nodes ≤ 200
  pub few_sections : length sh.sections ≤ 8

-- ITS BYTES

module _ (S N own : ℕ) (few : N ≤ 200) (few' : S ≤ 8) where
  role_small : (r : Role) (v : ℕ) → Keeps S r v → InRange N S own r v → v < limit r
  role_small a_node v k f = omega (arith, f.inside)
  role_small a_section v k f = omega arith
  role_small a_variable v k f = k
  role_small a_test v k f = omega arith
  role_small a_number v k f = omega arith
  role_small a_wide v k f = omega (arith, k.1)

  fields_small : (fs : List Field) → AllKeep S fs → AllFit N S own fs → Small fs
  fields_small [] k f = tt
  fields_small (x ∷ fs) k f = (role_small x.role x.value k.0 f.0, fields_small fs k.1 f.1)

every_append : (P : ℕ → Type 0) (xs ys : List ℕ) → Every P xs → Every P ys → Every P (xs ++ ys)
every_append P [] ys a b = b
every_append P (x ∷ xs) ys a b = (a.0, every_append P xs ys a.1 b)

all_bytes : (ns : List Node) → ((i : ℕ) → i < length ns → Small (row (get_or ns i False)).body) → Bytes (all_written ns)
all_bytes [] h = tt
all_bytes (n ∷ ns) h =
    every_append (λ b. b < 256) (written n) (all_written ns) (written_bytes n (h 0 (omega arith))) (all_bytes ns (λ i l. h (suc i) (omega arith)))

roots_bytes : (rs l : List ℕ) → ((i : ℕ) → i < length rs → get_or rs i 0 < 256) → Bytes l → Bytes (roots_written rs l)
roots_bytes [] l h b = b
roots_bytes (r ∷ rs) l h b = (omega arith, (h 0 (omega arith), roots_bytes rs l (λ i z. h (suc i) (omega arith)) b))

module _ {sh : Sheet} (m : Met sh) where
  ranges : Ranges sh
  ranges = trees_ranges m.trees m.root m.k m.few_nodes m.few_sections

  pub met_bytes : Bytes (sheet_written sh)
  unfolding sheet_written
  met_bytes =
      let r = ranges in (
        omega arith,
        (
          omega (arith, m.k.1),
          (
            omega (arith, m.root),
            roots_bytes sh.sections (all_written sh.nodes) (λ i h. omega (arith, r.section i h, m.few_nodes)) (all_bytes sh.nodes (λ i h.
                fields_small (length sh.sections) (length sh.nodes) i m.few_nodes m.few_sections (row (get_or sh.nodes i False)).body
                (trees_keep m.trees i h) (r.node i h))),
          ),
        ),
      )

  pub met_numbered : (n : ℕ) → 2048 ≤ n → number_answer (sheet_written sh) n ≡ done (sheet_written sh)
  met_numbered n room =
      let once = trees_once m.trees m.root m.k m.few_nodes m.few_sections in
      number_done (sheet_written sh) n room (read_back ranges) (omega (arith, once_all sh once))
      ∙ ap (λ (x : Sheet). done (sheet_written x)) (trees_still m.trees m.root m.k m.few_nodes m.few_sections)

-- THE LAW

pub record Read (b : List ℕ) : Type 0 where
  pub sheet : Sheet
  pub met : Met sheet
  pub written : b ≡ sheet_written sheet
