-- A whole sheet in range is held where each of its nodes and sections is.
use Rattle.std.specs.Prelude.{◌≡◌, ℕ, ◌<◌, length, get_or}
use Rattle.node.specs.declared.Node.TheVariants.{False}
use Rattle.node.specs.Kinds.{children, calls}
use Rattle.sheet.specs.Renumbering.{renumber}
use Rattle.sheet.specs.Sheet.{Sheet}
use Rattle.sheet.specs.Laws.{Child, Ranges}
use Rattle.sheet.proofs.Ranging.{every_map, children_in, calls_in}
use Rattle.rules.specs.Laws.Embedding.{Sent, Holds}

child_in : {nodes own : ℕ} (c : ℕ) → Child nodes own c → c < nodes
child_in c k = k.inside

module _ {sh sh' : Sheet} (r : Ranges sh) {f g : ℕ → ℕ}
    (nodes : (n : ℕ) → n < length sh.nodes → get_or sh'.nodes (f n) False ≡ renumber f g (get_or sh.nodes n False))
    (sections : (i : ℕ) → i < length sh.sections → get_or sh'.sections (g i) 0 ≡ f (get_or sh.sections i 0)) where
  section_sent : (i : ℕ) → i < length sh.sections → Sent (λ n. n < length sh.nodes) f g sh sh' i
  section_sent i h = record { root = r.section i h; same = sections i h }

  pub whole_held : Holds (λ n. n < length sh.nodes) f g sh sh'
  whole_held = record {
    node = nodes;
    below = λ n h. every_map child_in (children (get_or sh.nodes n False)) (children_in r n h);
    called = λ n h. every_map section_sent (calls (get_or sh.nodes n False)) (calls_in r n h);
  }
