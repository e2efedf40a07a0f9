-- Get and put of a node (document 01, "Walking a sheet"; docs/SHEETS.md, "Reading out" and "Reading back"; HOBiT, sections 2 and 4): one
-- text, over any reading of outcomes.
use Rattle.std.specs.Prelude.{Bool, true, false, not, List, [], ◌∷◌, ◌++◌, ℕ, zero, suc, ◌+◌, ◌-◌, length, get_or, take, set}
use Rattle.std.proofs.Math.Option.{Option, none, some, map}
use Rattle.std.proofs.Math.Decide.{dec_le}
use Rattle.std.proofs.Math.ListN.{get_elem?}
use Rattle.value.specs.Value.{Value, Values, vfalse, vtrue, list, number, wide, pair, nil, cons, size, same_value, truth}
use Rattle.value.specs.Views.{as_list, as_front, as_pair, as_number, as_truth}
use Rattle.value.specs.Tests.{passes}
use Rattle.node.specs.declared.Node.{Node}
use Rattle.node.specs.declared.Node.TheVariants.{Var, False, True, Empty, Number, Front, Pair, ListCase, TruthCase, Split, Call, Add, Each, Wide}
use Rattle.sheet.specs.Sheet.{Sheet}
use Rattle.rules.specs.Outcome.{when}

-- what the text asks of outcomes, and of what a cell holds once it is written to
pub record Reading : Type 1 where
  pub M : Type 0 → Type 0
  pub give : {A : Type 0} → A → M A
  pub bind : {A B : Type 0} → M A → (A → M B) → M B
  -- go on with what is there, or refuse with c
  pub given : {A B : Type 0} → ℕ → Option A → (A → M B) → M B
  -- the same, of what the value v is seen as
  pub seen : {A B : Type 0} → ℕ → (v : Value) → Option A → (A → M B) → M B
  -- the first choice where its test says yes, or else the second, or refusal 53
  pub choose : {A P Q : Type 0} → Dec P → Dec Q → M A → M A → M A
  -- enter the node of that number, or refuse to enter it for its depth (40)
  pub enter : {A : Type 0} → ℕ → M A → M A
  pub deep : {A : Type 0} → ℕ → M A
  -- a written cell: what the node of that number writes; its value; and 54, for the sake of this cell, where there is no proof
  pub Cell : Type 0
  pub mark : ℕ → Value → Cell
  pub held : Cell → Value
  pub clash : {A B : Type 0} → Cell → Option A → (A → M B) → M B

-- what the variables in scope stand for
abbrev pub Env : Type 0
Env = List Value

abbrev pub two : {A : Type 0} → A → A → List A
two a b = a ∷ b ∷ []

abbrev pub pick : {A : Type 0} → Bool → A → A → A
pick false a b = a
pick true a b = b

unfoldable pub on_list : {B : Type 0} → Values → B → (Value → Values → B) → B
on_list nil a f = a
on_list (cons x r) a f = f x r

unfoldable pub mk_list : Value → Value → Option Value
mk_list f r = map (λ l. list (cons f l.0)) (as_list r)

unfoldable pub mk_pair : Value → Value → Option Value
mk_pair a b = some (pair a b)

-- a list without its first member, if it has one
unfoldable pub rest_of : Values → Values
rest_of nil = nil
rest_of (cons x r) = r

module _ (R : Reading) where
  open R use {M, give, bind as ◌>>=◌, given, seen, choose, enter, deep, Cell, mark, held, clash}

  infixl 20 ◌>>=◌
  -- for each cell, what was written to it. A plan variable is a cell, and a branch adds two
  abbrev pub Cells : Type 0
  Cells = List (Option Cell)

  abbrev pub Getter : Type 0
  Getter = ℕ → Env → M Value

  -- node, what the variables stood for, the cell that each is, the view, what was written before
  abbrev pub Putter : Type 0
  Putter = ℕ → Env → List ℕ → Value → Cells → M Cells

  -- GET

  unfoldable pub bounded : Value → M Value
  bounded v = given 44 (when (dec_le (size v) 256)) λ _. give v

  unfoldable pub tested : ℕ → M Value → M Value
  tested t o = o >>= λ v. given 46 (when (passes t v)) λ _. give v

  -- what `root` gives for each member of a list, with the member and a for its two variables. The list so far, with the 02 that would end
  -- it, has n bytes
  unfoldable pub get_each : Getter → (root : ℕ) → Value → ℕ → Values → M Values
  get_each g root a n nil = give nil
  get_each g root a n (cons m r) =
      g root (two m a) >>= λ w. given 44 (when (dec_le (n + suc (size w)) 256)) λ _.
      get_each g root a (n + suc (size w)) r >>= λ ws. give (cons w ws)

  -- g gets the nodes that this one enters
  unfoldable pub get_node : Getter → Sheet → Node → Env → M Value
  get_node g sh (Var x) μ = given 42 (get_elem? μ x) λ v. give v
  get_node g sh False μ = give vfalse
  get_node g sh True μ = give vtrue
  get_node g sh Empty μ = give (list nil)
  get_node g sh (Number n) μ = give (number n)
  get_node g sh (Wide n) μ = give (wide n)
  get_node g sh (Front a b) μ = g a μ >>= λ f. g b μ >>= λ r. seen 43 r (as_list r) λ l. bounded (list (cons f l.0))
  get_node g sh (Pair a b) μ = g a μ >>= λ u. g b μ >>= λ v. bounded (pair u v)
  get_node g sh (ListCase s e te n tn df dr) μ =
      g s μ >>= λ v. seen 43 v (as_list v) λ l. on_list l.0 (tested te (g e μ)) λ f r. tested tn (g n (μ ++ two f (list r)))
  get_node g sh (TruthCase s f tf t tt) μ =
      g s μ >>= λ v. seen 43 v (as_truth v) λ b. tested (pick b.0 tf tt) (g (pick b.0 f t) μ)
  get_node g sh (Split s i) μ = g s μ >>= λ v. seen 43 v (as_pair v) λ p. g i (μ ++ two p.0 p.1)
  get_node g sh (Call sec x y) μ =
      given 42 (get_elem? μ x) λ a. given 42 (get_elem? μ y) λ b. g (get_or sh.sections sec 0) (two a b)
  get_node g sh (Add n k) μ =
      g n μ >>= λ v. seen 43 v (as_number v) λ m. given 45 (when (dec_le (m.0 + k) 65535)) λ _. give (number (m.0 + k))
  get_node g sh (Each s sec x d) μ =
      g s μ >>= λ v. seen 43 v (as_list v) λ l. given 42 (get_elem? μ x) λ a.
      get_each g (get_or sh.sections sec 0) a 1 l.0 >>= λ ws. give (list ws)

  -- with l levels left: 48 at the root, and a node for which none is left is at depth 49. Entering costs one step
  unfoldable pub get : ℕ → Sheet → Getter
  get zero sh n μ = deep n
  get (suc l) sh n μ = enter n (get_node (get l sh) sh (get_or sh.nodes n False) μ)

  -- PUT

  -- what was written, or else what it stood for
  unfoldable pub or_old : Option Cell → Value → Value
  or_old none v = v
  or_old (some w) v = held w

  -- a constant u must equal the view
  unfoldable pub constant : Value → Value → Cells → M Cells
  constant v u W = given 50 (when (same_value v u)) λ _. give W

  -- write v to the cell c, which holds o: a second view must equal the first
  unfoldable pub write : (Value → Cell) → ℕ → Value → Cells → Option Cell → M Cells
  write new c v W none = give (set W c (some (new v)))
  write new c v W (some w) = clash w (when (same_value (held w) v)) λ _. give W

  -- v into node a, then u into node b
  unfoldable pub both : Putter → Env → List ℕ → Cells → ℕ → Value → ℕ → Value → M Cells
  both p μ σ W a v b u = p a μ σ v W >>= λ X. p b μ σ u X

  -- v into a branch b that adds two variables, which stand for f and r; then what `mk` rebuilds of their new values into the
  -- subject s, under the old plan. The branch's two cells are dropped
  unfoldable pub under : Putter → Env → List ℕ → Cells → ℕ → Value → ℕ → (Value → Value → Option Value) → Value → Value → M Cells
  under p μ σ W b v s mk f r =
      p b (μ ++ two f r) (σ ++ two (length W) (suc (length W))) v (W ++ two none none) >>= λ X.
      given 42 (get_elem? X (length W)) λ x. given 42 (get_elem? X (suc (length W))) λ y.
      seen 43 (or_old y r) (mk (or_old x f) (or_old y r)) λ u. given 44 (when (dec_le (size u) 256)) λ _. p s μ σ u (take (length W) X)

  -- what the next member stands for: the first of the old ones, or past their end the default d, got anew in an empty scope
  unfoldable pub stood_for : Getter → (d : ℕ) → Values → M Value
  stood_for g d old = on_list old (g d []) λ m _. give m

  -- the view's members, from the left, into `root`: its first variable stands for the member and is a new cell, which is dropped behind it; its
  -- second stands for a and is the cell c. The members as they are then; that list so far, with its 02, has n bytes
  unfoldable pub put_each : Getter → Putter → (root d c : ℕ) → Value → ℕ → Values → Values → Cells → M (Values × Cells)
  put_each g p root d c a n old nil W = give (nil, W)
  put_each g p root d c a n old (cons v r) W =
      stood_for g d old >>= λ m.
      p root (two m a) (two (length W) c) v (W ++ none ∷ []) >>= λ X. given 42 (get_elem? X (length W)) λ o.
      given 44 (when (dec_le (n + suc (size (or_old o m))) 256)) λ _.
      put_each g p root d c a (n + suc (size (or_old o m))) (rest_of old) r (take (length W) X) >>= λ q. give (cons (or_old o m) q.0, q.1)

  -- g gets and p puts the nodes that this one enters; `new` is what this one writes
  unfoldable pub put_node : (Value → Cell) → Getter → Putter → Sheet → Node → Env → List ℕ → Value → Cells → M Cells
  put_node new g p sh (Var x) μ σ v W = given 42 (get_elem? σ x) λ c. given 42 (get_elem? W c) λ o. write new c v W o
  put_node new g p sh False μ σ v W = constant v vfalse W
  put_node new g p sh True μ σ v W = constant v vtrue W
  put_node new g p sh Empty μ σ v W = constant v (list nil) W
  put_node new g p sh (Number n) μ σ v W = constant v (number n) W
  put_node new g p sh (Wide n) μ σ v W = constant v (wide n) W
  put_node new g p sh (Front a b) μ σ v W = seen 51 v (as_front v) λ c. both p μ σ W a c.0 b (list c.1)
  put_node new g p sh (Pair a b) μ σ v W = seen 51 v (as_pair v) λ c. both p μ σ W a c.0 b c.1
  put_node new g p sh (ListCase s e te n tn df dr) μ σ v W =
      g s μ >>= λ o. seen 43 o (as_list o) λ l.
      on_list l.0
      (choose (passes te v) (passes tn v) (both p μ σ W e v s (list nil))
      (g df (v ∷ []) >>= λ f. g dr (v ∷ []) >>= λ r. seen 43 r (as_list r) λ _. under p μ σ W n v s mk_list f r))
      (λ f r. choose (passes tn v) (passes te v) (under p μ σ W n v s mk_list f (list r)) (both p μ σ W e v s (list nil)))
  put_node new g p sh (TruthCase s f tf t tt) μ σ v W =
      g s μ >>= λ o. seen 43 o (as_truth o) λ b.
      choose (passes (pick b.0 tf tt) v) (passes (pick (not b.0) tf tt) v)
      (both p μ σ W (pick b.0 f t) v s (truth b.0))
      (both p μ σ W (pick (not b.0) f t) v s (truth (not b.0)))
  put_node new g p sh (Split s i) μ σ v W = g s μ >>= λ o. seen 43 o (as_pair o) λ c. under p μ σ W i v s mk_pair c.0 c.1
  put_node new g p sh (Call sec x y) μ σ v W =
      given 42 (get_elem? μ x) λ a. given 42 (get_elem? σ x) λ c. given 42 (get_elem? μ y) λ b. given 42 (get_elem? σ y) λ d.
      p (get_or sh.sections sec 0) (two a b) (two c d) v W
  put_node new g p sh (Add n k) μ σ v W =
      seen 51 v (as_number v) λ m. given 52 (when (dec_le k m.0)) λ _. p n μ σ (number (m.0 - k)) W
  put_node new g p sh (Each s sec x d) μ σ v W =
      seen 51 v (as_list v) λ l. g s μ >>= λ o. seen 43 o (as_list o) λ old. given 42 (get_elem? μ x) λ a. given 42 (get_elem? σ x) λ c.
      put_each g p (get_or sh.sections sec 0) d c a 1 old.0 l.0 W >>= λ q. p s μ σ (list q.0) q.1

  unfoldable pub put : ℕ → Sheet → Putter
  put zero sh n μ σ v W = deep n
  put (suc l) sh n μ σ v W = enter n (put_node (mark n) (get l sh) (put l sh) sh (get_or sh.nodes n False) μ σ v W)
