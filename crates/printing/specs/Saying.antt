-- WHAT A FUNCTION OF THE PRINTER WRITES: the text of what the definition says before whatever follows it.
use Rattle.std.specs.Prelude.{◌≡◌, Bool, true, false, List, ◌∷◌, ◌++◌, ℕ, suc, pred, ◌+◌, ◌*◌, ◌≤◌, ◌<◌, length, get_or}
use Rattle.std.proofs.Common.{sym, ap, ◌∙◌, append_assoc, arith}
use Rattle.report.specs.Writing.{Wrote, wrote_then, wrote_long}
use Rattle.node.specs.declared.Node.{Node}
use Rattle.node.specs.declared.Node.TheVariants.{Var, False, True, Empty, Number, Front, Pair, ListCase, TruthCase, Split, Call, Add, Each, Wide}
use Rattle.node.specs.Kinds.{row}
use Rattle.sheet.specs.Sheet.{Sheet}
use Rattle.node.specs.Decoding.{node_at}
use Rattle.sheet.specs.Laws.{Ranges}
use Rattle.preorder.specs.Numbering.{node_of}
use Rattle.tokens.specs.Quoted.{bytes}
use Rattle.syntax.specs.Printer.{Reach, reach, gap, the, sign, space, line, called}
use Rattle.syntax.specs.Printer.{Piece, Speaker, alone, in_list, body_said, test_said, plain_node, said}
use Rattle.syntax.specs.Setting.{text_in}
use Rattle.printing.specs.declared.nodes.Source.{Source}
use Rattle.printing.specs.declared.pieces.Scope.{Scope}
use Rattle.printing.specs.Pieces.{reach_of, Bounded}

-- a text was written at place i: that of what f says, before whatever follows
pub record Says (f : List Piece → List Piece) (i : ℕ) (b b' : List ℕ) (r : ℕ) : Type 0 where
  pub text : List ℕ
  pub put : Wrote text i b b' r
  pub is : (k : List Piece) → text_in (f k) ≡ text ++ text_in k

-- one thing behind another
pub says_then : {f g : List Piece → List Piece} {i m r : ℕ} {b b₁ b₂ : List ℕ} → Says f i b b₁ m → Says g m b₁ b₂ r → Says (λ k. f (g k)) i b b₂ r
says_then {f} {g} p q = record {
  text = p.text ++ q.text;
  put = wrote_then p.put q.put;
  is = λ k. p.is (g k) ∙ ap (λ (t : List ℕ). p.text ++ t) (q.is k) ∙ sym (append_assoc p.text q.text (text_in k));
}

-- WHAT THE FUNCTIONS ARE LENT: a sheet's bytes, where each record starts, and a mark for each node that has no case in it
pub record Known (src : Source) (sh : Sheet) : Type 0 where
  pub node : (i : ℕ) → i < length sh.nodes → node_at src.sheet.now (get_or src.table i 0) ≡ node_of sh i
  pub flat : (i : ℕ) → i < length sh.nodes → get_or src.plain i false ≡ plain_node sh i
  pub ranges : Ranges sh

-- node n is there, and so far below the roots there are few variables and few blanks
pub record Ready (src : Source) (n : ℕ) (w : Scope) : Type 0 where
  pub sheet : Sheet
  pub known : Known src sheet
  pub inside : n < length sheet.nodes
  pub few : w.count ≤ 2 * n + 16
  pub shallow : w.indent ≤ 6 * n + 2

-- and it is a node of this kind
pub record Standing (src : Source) (n : ℕ) (w : Scope) (node : Node) (kind : ℕ) : Type 0 where
  pub ready : Ready src n w
  pub is : node_at src.sheet.now (get_or src.table n 0) ≡ node
  pub of_kind : (row node).kind ≡ kind

-- the rest of a list may have its node two blanks to the right
pub record Trailing (src : Source) (n : ℕ) (w : Scope) : Type 0 where
  pub ready : Ready src n w
  pub shallower : w.indent ≤ 6 * n

-- what the definition says of a case on a list from its defaults on; nothing of another node
unfoldable pub defaults_said : Speaker → (ℕ → Bool) → Reach → ℕ → Node → List Piece → List Piece
defaults_said say plain r i (Var x) k = k
defaults_said say plain r i False k = k
defaults_said say plain r i True k = k
defaults_said say plain r i Empty k = k
defaults_said say plain r i (Number n) k = k
defaults_said say plain r i (Front a b) k = k
defaults_said say plain r i (Pair a b) k = k
defaults_said say plain r i (ListCase s e te n tn df dr) k =
    gap (line (i + 4)) ∷ the (bytes "default") ∷ space ∷ the (called r.is_sent r.count) ∷ space ∷ sign (bytes "=")
    ∷ body_said say plain (reach 1 true) (i + 6) df (
    sign (bytes ",") ∷ space ∷ the (called r.is_sent (suc r.count)) ∷ space ∷ sign (bytes "=") ∷ body_said say plain (reach 1 true) (i + 6) dr (
    gap (line i) ∷ the (bytes "end") ∷ k))
defaults_said say plain r i (TruthCase s f tf t tu) k = k
defaults_said say plain r i (Split s n) k = k
defaults_said say plain r i (Call c x y) k = k
defaults_said say plain r i (Add n a) k = k
defaults_said say plain r i (Each s c x d) k = k
defaults_said say plain r i (Wide n) k = k

-- HOW A NODE IS SAID: alone; as the rest of a list, which has no case in it or has one; behind an arrow or an `=`; the same with a test behind it;
-- a case on a list, from its defaults on
pub data Way : Type 0 where
  Alone : Scope → Way
  Rest : Bool → Scope → Way
  Body : Scope → Way
  Branch : Scope → ℕ → Way
  Defaults : Scope → Node → Way

abbrev pub meant : Way → ℕ → Sheet → ℕ → List Piece → List Piece
meant (Alone w) n sh l k = said sh l alone (reach_of w) w.indent n k
meant (Rest p w) n sh l k = said sh l (in_list p) (reach_of w) w.indent n k
meant (Body w) n sh l k = body_said (said sh l) (plain_node sh) (reach_of w) w.indent n k
meant (Branch w t) n sh l k = body_said (said sh l) (plain_node sh) (reach_of w) w.indent n (test_said t k)
meant (Defaults w x) n sh l k = defaults_said (said sh (pred l)) (plain_node sh) (reach_of w) w.indent x k

-- WHAT THEY TELL: whatever the sheet is, and with whatever levels are enough for node n
pub record Tells (src : Source) (n : ℕ) (x : Way) (i : ℕ) (b b' : List ℕ) (r : ℕ) : Type 0 where
  pub told : (sh : Sheet) → Known src sh → n < length sh.nodes → (l : ℕ) → length sh.nodes ≤ n + l → Says (meant x n sh l) i b b' r

module _ {src : Source} {n : ℕ} {w : Scope} where
  pub ready_few : Ready src n w → n < 200
  ready_few r = omega (arith, r.inside, r.known.ranges.few_nodes)

  pub ready_bounded : Ready src n w → Bounded w
  ready_bounded r =
      let z = ready_few r in
      record { few = omega (arith, r.few); shallow = omega (arith, r.shallow) }

  -- the buffer is as long as it was
  pub tells_long : {x : Way} {i r : ℕ} {b b' : List ℕ} → Ready src n w → Tells src n x i b b' r
      → length b' ≡ length b
  tells_long q t = wrote_long (t.told q.sheet q.known q.inside (length q.sheet.nodes) (omega arith)).put
