-- What a function of put may assume, and what it shows.
pub mod Requires
pub mod Leaf
pub mod Two
pub mod Under
pub mod Rebuilt
pub mod Switch
pub mod Call
pub mod Add
pub mod Member
pub mod Members
pub mod Each
pub mod Enter
pub mod Case
use Rattle.std.specs.Prelude.{◌≡◌, false, List, [], ◌∷◌, ℕ, suc, ◌+◌, ◌*◌, ◌≤◌, ◌<◌, length, take, get_or}
use Rattle.std.proofs.Math.Option.{Option}
use Rattle.std.proofs.Math.Decide.{dec_le}
use Rattle.std.proofs.Math.ListN.{get_elem?}
use Rattle.outcome.specs.Outcome.{is_refusal, steps_of}
use Rattle.value.specs.Result.{ok}
use Rattle.value.specs.Value.{Value, size}
use Rattle.value.specs.Views.{as_list}
use Rattle.sheet.specs.Records.{record_at}
use Rattle.sheet.specs.Sheet.{Sheet, read_sheet}
use Rattle.sheet.specs.Laws.{Ranged}
use Rattle.rules.specs.Outcome.{when}
use Rattle.rules.specs.Semantics.{Env, mk_list}
use Rattle.rules.specs.Explain.{Cells, Explained, Putter, ◌>>=◌, both, get, given, or_old, put, put_node, under}
use Rattle.rules.specs.Numbers.{allowance_limit, scratch_size, stack_start, chain_start, variable_limit}
use Rattle.scopes.specs.declared.Scope.{Scope}
use Rattle.walk.specs.Decoded.{decoded}
use Rattle.walk.specs.declared.at.At.{At}
use Rattle.walk.specs.declared.at.Pos.{Pos}
use Rattle.walk.specs.declared.putter.Parts.{Parts}
use Rattle.walk.specs.Arena.{Scoped, Held}
use Rattle.walk.specs.Represents.{Represents}
use Rattle.walk.specs.Arena.Compound.{maker, Made}
use Rattle.walk.specs.Get.{Tabled}
use Rattle.walk.specs.Arena.Cells.{Frame, CellsHold, Named, Shown}

-- what a function of put does: enter a node by its number; put the view into the node x, whose record of that kind starts at byte n of the sheet s,
-- and which is noted of what it writes; put it into a and then u into b; put it into branch b, whose two variables stand for f and r, and then the
-- rebuilt subject into s; only rebuild and put the subject; or get the two defaults first and go on as with a branch
pub data Task : Type 0 where
  enter : ℕ → Task
  own : (x kind : ℕ) (s : List ℕ) (n : ℕ) → Task
  pair : (a b : ℕ) (u : Value) → Task
  inside : (k b s : ℕ) (f r : Value) → Task
  rebuilt : (k s : ℕ) (f r : Value) → Task
  switch : (b s df dr : ℕ) → Task

-- n cells are there before the branch; X are the cells with its two behind them
unfoldable pub rebuild : Putter → Env → List ℕ → ℕ → Cells → ℕ → (Value → Value → Option Value) → Value → Value → Explained Cells
rebuild p μ σ n X s mk f r =
    given 42 (get_elem? X n) λ x. given 42 (get_elem? X (suc n)) λ y.
    given 43 (mk (or_old x f) (or_old y r)) λ u. given 44 (when (dec_le (size u) 256)) λ _. p s μ σ u (take n X)

-- the two defaults of a list case, got in the scope of the view v alone, and what goes on with them
unfoldable pub with_defaults : ℕ → Sheet → (df dr : ℕ) → Value → (Value → Value → Explained Cells) → Explained Cells
with_defaults l sh df dr v k = get l sh df (v ∷ []) >>= λ f. get l sh dr (v ∷ []) >>= λ r. given 43 (as_list r) λ _. k f r

unfoldable pub run : ℕ → Sheet → ℕ → Task → Env → List ℕ → Value → Cells → Explained Cells
run l sh n (enter x) μ σ v W = put l sh x μ σ v W
run l sh n (own x k s i) μ σ v W = put_node x (get l sh) (put l sh) sh (record_at k s i) μ σ v W
run l sh n (pair a b u) μ σ v W = both (put l sh) μ σ W a v b u
run l sh n (inside k b s f r) μ σ v W = under (put l sh) μ σ W b v s (maker k) f r
run l sh n (rebuilt k s f r) μ σ v X = rebuild (put l sh) μ σ n X s (maker k) f r
run l sh n (switch b s df dr) μ σ v W = with_defaults l sh df dr v λ f r. under (put l sh) μ σ W b v s mk_list f r

-- the node numbers of a task are in range
abbrev pub Known : Sheet → Task → Type 0
Known sh (enter n) = n < length sh.nodes
Known sh (own x k s n) = (x < length sh.nodes) × ((i : ℕ) × Ranged (length sh.nodes) (length sh.sections) i (record_at k s n))
Known sh (pair a b u) = (a < length sh.nodes) × (b < length sh.nodes)
Known sh (inside k b s f r) = ((b < length sh.nodes) × (s < length sh.nodes)) × Made k
Known sh (rebuilt k s f r) = (s < length sh.nodes) × Made k
Known sh (switch b s df dr) = ((b < length sh.nodes) × (s < length sh.nodes)) × ((df < length sh.nodes) × (dr < length sh.nodes))

-- no view is looked at
abbrev pub Any : Value → Type 0
Any v = Unit {0}

-- two values that stand one after the other from `start` on, below `top`
pub record PartsAt (a : List ℕ) (top start first second : ℕ) (f r : Value) : Type 0 where
  pub one : Held a top start first f
  pub two : Held a top (start + first) second r

pub record SomeParts (a : List ℕ) (top start first second : ℕ) : Type 0 where
  pub f : Value
  pub r : Value
  pub parts : PartsAt a top start first second f r

pub record SomeView (view : List ℕ) : Type 0 where
  pub value : Value
  pub shown : Shown view value

-- the sheet that was read; what the variables in scope stand for, the cell of each, of `count`, what was written to the m cells so far
-- (`slots` has how long each is), and a value that P holds of (that the view shows it)
pub record Given (a slots s : List ℕ) (P : Value → Type 0) (sc : Scope) (cells : List ℕ) (count m top : ℕ) (sh : Sheet) (μ : Env) (σ : List ℕ) (v : Value)
    (W : Cells) : Type 0 where
  pub read : read_sheet s ≡ ok sh
  pub scoped : Scoped a sc top μ
  pub named : Named cells count σ
  pub as_many : length σ ≡ length μ
  pub written : CellsHold a slots m W
  pub shown : P v

-- a level takes at most 513 bytes of the stack, and adds at most two variables and two cells
pub record Ready (s table a slots : List ℕ) (P : Value → Type 0) (sc : Scope) (cells : List ℕ) (count m top levels left : ℕ) (t : Task) : Type 0 where
  pub long : length a ≡ scratch_size
  pub few : left ≤ allowance_limit
  pub base : stack_start ≤ top
  pub room : top + 513 * levels ≤ chain_start
  pub variables : sc.count + 2 * levels ≤ 112
  pub more_cells : count + 2 * levels ≤ 112
  pub sheet : Tabled s table
  pub known : Known sheet.sh t
  pub env : Env
  pub names : List ℕ
  pub value : Value
  pub cells_now : Cells
  pub given : Given a slots s P sc cells count m top sheet.sh env names value cells_now

-- the n cells hold X; a put has got nothing, so that it does not matter what its answer says of a place
pub record Wrote (a slots : List ℕ) (n start len : ℕ) (X : Cells) : Type 0 where
  pub written : CellsHold a slots n X

-- the plan and the stack below `top` are kept, and the answer is the task's, whatever is given; m cells were written to before, and
-- `count` at the end
pub record PutShows (b a slots slots' s : List ℕ) (P : Value → Type 0) (sc : Scope) (cells : List ℕ) (count m top left r l : ℕ) (t : Task) : Type 0 where
  pub frame : Frame top b a
  pub long : length slots' ≡ length slots
  pub told : {sh : Sheet} {μ : Env} {σ : List ℕ} {v : Value} {W : Cells} → Given b slots s P sc cells count m top sh μ σ v W
      → Represents (Wrote a slots' count) (decoded a l r) left (run l sh count t μ σ v W)

-- no more steps were taken than were left
pub record Few (left r : ℕ) : Type 0 where
  pub at : is_refusal r ≡ false → steps_of r ≤ left

-- a branch that adds two variables may still be entered
pub record Inner (sc : Scope) (count levels : ℕ) : Type 0 where
  pub some : 1 ≤ levels
  pub variables : sc.count + 2 * levels ≤ variable_limit
  pub more_cells : count + 2 * levels ≤ variable_limit

-- the switch of the list case whose record starts at byte n of the sheet s
abbrev pub switch_at : List ℕ → ℕ → Task
switch_at s n = switch (get_or s (n + 4) 0) (get_or s (n + 1) 0) (get_or s (n + 6) 0) (get_or s (n + 7) 0)

-- the branch and the subject of the parts p
abbrev pub inside_of : Parts → (f r : Value) → Task
inside_of p f r = inside p.kind p.branch p.subject f r

abbrev pub rebuilt_of : Parts → (f r : Value) → Task
rebuilt_of p f r = rebuilt p.kind p.subject f r

-- THE CONTRACT of the functions of put, for a task at a place, and of the functions of the kinds, for the node o
abbrev pub TaskAsked : (s table a slots : List ℕ) → Scope → (cells view : List ℕ) → At → Task → Type 0
TaskAsked s table a slots sc cells view at t = Ready s table a slots (Shown view) sc cells at.cells at.cells at.top at.levels at.left t

abbrev pub TaskTells : (s b a slots slots' : List ℕ) → Scope → (cells view : List ℕ) → At → ℕ → Task → Type 0
TaskTells s b a slots slots' sc cells view at r t =
    PutShows b a slots slots' s (Shown view) sc cells at.cells at.cells at.top at.left r at.levels t

abbrev pub KindAsked : (s table a slots : List ℕ) → Scope → List ℕ → Pos → List ℕ → At → Type 0
KindAsked s table a slots sc cells o view at = Ready s table a slots (Shown view) sc cells at.cells at.cells at.top (suc at.levels)
    (suc at.left) (own o.node o.kind s o.from)

abbrev pub KindTells : (s b a slots slots' : List ℕ) → Scope → List ℕ → Pos → List ℕ → At → ℕ → Type 0
KindTells s b a slots slots' sc cells o view at r = TaskTells s b a slots slots' sc cells view at r (own o.node o.kind s o.from)

-- WHERE A FUNCTION OF PUT IS: what it is lent, and its place

pub record PutHere : Type 0 where
  pub sheet : List ℕ
  pub table : List ℕ
  pub arena : List ℕ
  pub slots : List ℕ
  pub scope : Scope
  pub cells : List ℕ
  pub count : ℕ
  pub top : ℕ
  pub left : ℕ
  pub levels : ℕ

-- where the function of a kind is that was asked so
abbrev pub put_here : {s table a slots cells : List ℕ} {P : Value → Type 0} {sc : Scope} {count top l left x k n : ℕ}
    → Ready s table a slots P sc cells count count top (suc l) (suc left) (own x k s n) → PutHere
put_here {s} {table} {a} {slots} {cells} {P} {sc} {count} {top} {l} {left} w =
    record { sheet = s; table = table; arena = a; slots = slots; scope = sc; cells = cells; count = count; top = top; left = left; levels = l }

-- where a function is that was asked another task
abbrev pub put_there : {s table a slots cells : List ℕ} {P : Value → Type 0} {sc : Scope} {count m top l left : ℕ} {t : Task}
    → Ready s table a slots P sc cells count m top l left t → PutHere
put_there {s} {table} {a} {slots} {cells} {P} {sc} {count} {m} {top} {l} {left} w =
    record { sheet = s; table = table; arena = a; slots = slots; scope = sc; cells = cells; count = count; top = top; left = left; levels = l }

-- further on, with another arena, other slots, another top and allowance
abbrev pub put_further : PutHere → (arena slots : List ℕ) (top left : ℕ) → PutHere
put_further h a slots top left =
    record {
      sheet = h.sheet;
      table = h.table;
      arena = a;
      slots = slots;
      scope = h.scope;
      cells = h.cells;
      count = h.count;
      top = top;
      left = left;
      levels = h.levels;
    }

-- in another scope, with the cells of its variables
abbrev pub put_within : PutHere → Scope → (cells slots : List ℕ) (count : ℕ) → PutHere
put_within h sc cells slots count =
    record {
      sheet = h.sheet;
      table = h.table;
      arena = h.arena;
      slots = slots;
      scope = sc;
      cells = cells;
      count = count;
      top = h.top;
      left = h.left;
      levels = h.levels;
    }

-- what the function of a kind is asked, and what a task asks there
abbrev pub PutAsked : PutHere → (Value → Type 0) → (x kind n : ℕ) → Type 0
PutAsked h P x k n = Ready h.sheet h.table h.arena h.slots P h.scope h.cells h.count h.count h.top (suc h.levels) (suc h.left)
    (own x k h.sheet n)

abbrev pub PutAsks : PutHere → (Value → Type 0) → Task → Type 0
PutAsks h P t = Ready h.sheet h.table h.arena h.slots P h.scope h.cells h.count h.count h.top h.levels h.left t

-- what a task told there, with the arena and the slots as it leaves them
abbrev pub PutTold : PutHere → (Value → Type 0) → (a slots : List ℕ) → ℕ → Task → Type 0
PutTold h P a slots r t = PutShows h.arena a h.slots slots h.sheet P h.scope h.cells h.count h.count h.top h.left r h.levels t

abbrev pub PutTells : PutHere → (Value → Type 0) → (a slots : List ℕ) → (r x k n : ℕ) → Type 0
PutTells h P a slots r x k n = PutTold h P a slots r (own x k h.sheet n)
