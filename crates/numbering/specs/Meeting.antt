-- The nodes of a sheet in the order in which they are first met, by a stack: of those still to be met the first is taken, and its children
-- are put in its place.
use Rattle.std.specs.Prelude.{◌≡◌, ℕ, suc, ◌+◌, ◌-◌, ◌≤◌, ◌<◌, get_or, set, take, replicate}
use Rattle.std.proofs.Math.Path.{ap}
use Rattle.std.proofs.Common.{sym, ◌∙◌, add-one, length-append, length-drop, length-set, drop_of_length-le, drop_at, drop-cons, take-suc-set, length-take-le}
use mathlib.Core.List.{List, [], ◌∷◌, ◌++◌, append_assoc, append-nil}
use native.Mathlib.Omega.{arith}
use Rattle.std.proofs.Math.ListN.{length, drop, length-replicate}
use Rattle.std.proofs.lemmas.List.Edits.{sets-eq}
use Rattle.std.proofs.Math.Seq.{length-sets}
use Rattle.value.specs.Result.{ok}
use Rattle.sheet.specs.declared.Table.{Table}
use Rattle.sheet.specs.declared.Children.{Children}
use Rattle.node.specs.Kinds.{children}
use Rattle.sheet.specs.Sheet.{Sheet, read_sheet}
use Rattle.sheet.specs.Laws.{Child}
use Rattle.sheet.specs.Rows.{Every}
use Rattle.sheet.proofs.Ranging.{every_map, children_in}
use Rattle.report.specs.Writing.{Wrote}
use Rattle.numbering.specs.declared.Nodes.{Nodes}
use Rattle.preorder.specs.Numbering.{gathered, met_from, node_of, roots, order, every_of}
use Rattle.preorder.proofs.Numbering.{roots_in}
use Rattle.preorder.specs.NumberingLaws.{Once, uses}
use Rattle.preorder.proofs.NumberingLaws.{order_short, meet_next, meet_short}
use Rattle.numbering.specs.Counting.{Fine, fine_read, fine_sizes, roots_at, roots_are, roots_few, Named}

-- a sheet that was read, of which no node is used twice
pub record Single (s : List ℕ) (t : Table) : Type 0 where
  pub fine : Fine s t
  pub once : Once (uses (fine_read fine).0)

-- a list of nodes at the front of an array
pub record Holds (l : List ℕ) (ns : Nodes) : Type 0 where
  pub many : ns.count ≡ length l
  pub are : take ns.count ns.nodes ≡ l
  pub long : length ns.nodes ≡ 256

pub record Ordered (s : List ℕ) (ns : Nodes) : Type 0 where
  pub told : (sh : Sheet) → read_sheet s ≡ ok sh → Holds (order sh) ns

-- WHAT A TEXT LEAVES BEHIND ITS PLACE
wrote_drop : {t b b' : List ℕ} {i r : ℕ} → Wrote t i b b' r → i + length t ≤ length b → drop i b' ≡ t ++ drop (i + length t) b
wrote_drop {t} {b} {b'} {i} w h =
    ap (drop i) (w.made ∙ sets-eq t b i h ∙ append_assoc (take i b) t (drop (i + length t) b))
    ∙ drop_at (take i b) (t ++ drop (i + length t) b) i (length-take-le i b (omega arith))

-- THE MEETING, as far as it has come: `count` nodes are seen, and those from `top` on are still to be met
pub record Meeting (sh : Sheet) (todo : List ℕ) (top : ℕ) (seen : List ℕ) (count : ℕ) : Type 0 where
  pub todo_long : length todo ≡ 256
  pub seen_long : length seen ≡ 256
  pub below : top ≤ 256
  pub few : count ≤ 256
  pub met : take count seen ++ gathered (met_from (length sh.nodes) sh) (drop top todo) ≡ order sh
  pub inside : Every (λ n. n < length sh.nodes) (drop top todo)

every_append : (P : ℕ → Type 0) (xs ys : List ℕ) → Every P xs → Every P ys → Every P (xs ++ ys)
every_append P [] ys a b = b
every_append P (x ∷ xs) ys a b = (a.0, every_append P xs ys a.1 b)

module _ {s : List ℕ} {t : Table} (f : Fine s t) where
  abbrev sheet : Sheet
  sheet = (fine_read f).0

  pub meeting_starts : {b b' : List ℕ} {r : ℕ} → Wrote (roots_at s t) (255 - t.sections) b b' r → length b ≡ 256
      → Meeting (fine_read f).0 b' (255 - t.sections) (replicate 256 0) 0
  unfolding order
  meeting_starts {b} {b'} w l =
      let sh = (fine_read f).0 in
      let z = (fine_sizes f).sections in
      let n = roots_few f in
      let y : length b ≤ 255 - t.sections + length (roots_at s t) = omega arith in
      let d : drop (255 - t.sections) b' ≡ roots sh =
      wrote_drop w (omega arith) ∙ ap (λ x. roots_at s t ++ x) (drop_of_length-le b y) ∙ append-nil (roots_at s t) ∙ roots_are (fine_read f).1 in
      record {
        todo_long = ap length w.made ∙ length-sets b (255 - t.sections) (roots_at s t) ∙ l;
        seen_long = length-replicate {A = ℕ} 256 0;
        below = omega arith;
        few = omega arith;
        met = ap (gathered (met_from (length sh.nodes) sh)) d;
        inside = rw d (every_of (λ n. n < length sh.nodes) (roots sh) (λ n i. roots_in (fine_read f).1.ranges i));
      }

  module _ (once : Once (uses (fine_read f).0)) {todo seen : List ℕ} {top count : ℕ} (m : Meeting (fine_read f).0 todo top seen count) where
    -- of those seen and those to be met there are no more than nodes
    pub room : count + (256 - top) ≤ 200
    room =
        let r = (fine_read f).1.ranges in
        let e = ap length m.met in
        omega (
          arith,
          rw length-append at e,
          length-take-le count seen (omega (arith, m.few, m.seen_long)),
          meet_short r (drop top todo),
          length-drop top todo,
          m.todo_long,
          order_short r once,
          r.few_nodes,
        )

    module _ (h : top < 256) where
      -- the next one
      next : drop top todo ≡ get_or todo top 0 ∷ drop (suc top) todo
      next = drop-cons todo top 0 (omega (arith, m.todo_long))

      pub next_in : get_or todo top 0 < t.nodes
      next_in = let z = rw next at m.inside in omega (arith, z.0, (fine_read f).1.nodes)

      pub below_few : {c : Children} → Named (fine_read f).0 (get_or todo top 0) c → c.count ≤ top + 1
      below_few n = omega (arith, n.few, room)

      pub meeting_next : {c : Children} {ts todo' : List ℕ} {r : ℕ} → Named (fine_read f).0 (get_or todo top 0) c → ts ≡ take c.count c.nodes
          → Wrote ts (top + 1 - c.count) todo todo' r
          → Meeting (fine_read f).0 todo' (top + 1 - c.count) (set seen count (get_or todo top 0)) (count + 1)
      meeting_next {c} {ts} {todo'} n e w =
          let sh = (fine_read f).0 in
          let r = (fine_read f).1.ranges in
          let v = get_or todo top 0 in
          let q : ts ≡ children (node_of sh v) = e ∙ n.are in
          let k : c.count ≤ top + 1 = below_few n in
          let l : length ts ≡ c.count = ap length q ∙ sym n.many in
          let j : top + 1 - c.count + length ts ≡ suc top = omega arith in
          let i : v < length sh.nodes = omega (arith, next_in, (fine_read f).1.nodes) in
          let d : drop (top + 1 - c.count) todo' ≡ children (node_of sh v) ++ drop (suc top) todo =
          wrote_drop w (omega (arith, m.todo_long)) ∙ ap (λ x. ts ++ drop x todo) j ∙ ap (λ x. x ++ drop (suc top) todo) q in
          let g : List ℕ → List ℕ = gathered (met_from (length sh.nodes) sh) in
          record {
            todo_long = ap length w.made ∙ length-sets todo (top + 1 - c.count) ts ∙ m.todo_long;
            seen_long = length-set seen count v ∙ m.seen_long;
            below = omega arith;
            few = omega (arith, room);
            met = ap (λ x. take (count + 1) (set seen count v) ++ g x) d
                ∙ ap (λ x. x ++ g (children (node_of sh v) ++ drop (suc top) todo))
                (ap (λ x. take x (set seen count v)) (add-one count) ∙ take-suc-set seen count v (omega (arith, room, m.seen_long)))
                ∙ append_assoc (take count seen) (v ∷ []) (g (children (node_of sh v) ++ drop (suc top) todo))
                ∙ ap (λ x. take count seen ++ x) (sym (meet_next r v (drop (suc top) todo) i))
                ∙ ap (λ x. take count seen ++ g x) (sym next) ∙ m.met;
            inside = rw d (every_append (λ x. x < length sh.nodes) (children (node_of sh v)) (drop (suc top) todo)
                (every_map (λ x (z : Child (length sh.nodes) v x). z.inside) (children (node_of sh v)) (children_in r v i)) (rw next at m.inside).1);
          }

    pub meeting_ends : 256 ≤ top → Ordered s (record { count = count; nodes = seen })
    meeting_ends h = record { told = λ sh e. let z = (fine_read f).1.sheet in let q : (fine_read f).0 ≡ sh = cc in rw q at holds }
      where
        all : take count seen ≡ order (fine_read f).0
        all =
            let z : length todo ≤ top = omega (arith, m.todo_long) in
            sym (append-nil (take count seen))
            ∙ ap (λ x. take count seen ++ gathered (met_from (length (fine_read f).0.nodes) (fine_read f).0) x)
            (sym (drop_of_length-le todo z)) ∙ m.met

        holds : Holds (order (fine_read f).0) (record { count = count; nodes = seen })
        holds = record {
          many = sym (length-take-le count seen (omega (arith, m.few, m.seen_long))) ∙ ap length all;
          are = all;
          long = m.seen_long;
        }

-- there are no more than nodes
pub ordered_few : {s : List ℕ} {t : Table} {ns : Nodes} → Single s t → Ordered s ns → ns.count ≤ 200
ordered_few g o =
    let z = (fine_read g.fine).1 in
    omega (arith, (o.told (fine_read g.fine).0 z.sheet).many, order_short z.ranges g.once, z.ranges.few_nodes)
