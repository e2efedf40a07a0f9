-- What a function of get may assume, and what it shows.
pub mod Requires
pub mod Enter
pub mod Leaf
pub mod Top
pub mod Branch
pub mod Two
pub mod Case
pub mod Call
pub mod Members
pub mod Turn
pub mod Each
pub mod Add
use Rattle.std.specs.Prelude.{◌≡◌, List, [], ℕ, suc, ◌+◌, ◌*◌, ◌≤◌, ◌<◌, length, get_or}
use Rattle.std.proofs.Common.{ap}
use Rattle.value.specs.Result.{ok}
use Rattle.value.specs.Value.{Value, Values, vfalse}
use Rattle.sheet.specs.Records.{record_at}
use Rattle.sheet.specs.Sheet.{Sheet, read_sheet}
use Rattle.sheet.specs.Table.{table_of}
use Rattle.sheet.specs.Laws.{Ranged}
use Rattle.rules.specs.Semantics.{Env}
use Rattle.rules.specs.Explain.{Explained, get, get_node, tested}
use Rattle.rules.specs.Numbers.{allowance_limit, scratch_size, stack_start, chain_start}
use Rattle.scopes.specs.declared.Scope.{Scope}
use Rattle.walk.specs.Decoded.{decoded}
use Rattle.walk.specs.declared.at.At.{At}
use Rattle.walk.specs.declared.at.Pos.{Pos}
use Rattle.walk.specs.Arena.Parts.{SameBelow}
use Rattle.walk.specs.Arena.{Held, Scoped}
use Rattle.walk.specs.Members.{get_from}
use Rattle.walk.specs.Represents.{Represents}

-- what a function of get does: enter a node by its number, get the value of the node whose record
-- of that kind starts at byte n of the sheet s, get a branch and judge it by its test, or get a section's root
-- once for each of the members ms, with the member and the variable x, which is in scope, and make a list of what it gives
pub data Task : Type 0 where
  enter : ℕ → Task
  own : (kind : ℕ) (s : List ℕ) (n : ℕ) → Task
  branch : (test node : ℕ) → Task
  members : (x root : ℕ) (ms : Values) → Task

unfoldable pub run : ℕ → Sheet → Task → Env → Explained Value
run l sh (enter n) μ = get l sh n μ
run l sh (own k s n) μ = get_node (get l sh) sh (record_at k s n) μ
run l sh (branch t n) μ = tested t (get l sh n μ)
run l sh (members x root ms) μ = get_from (get l sh) root (get_or μ x vfalse) [] ms

-- the sheet that is lent was read, and the table has its nodes' places
pub record Tabled (s table : List ℕ) : Type 0 where
  pub sh : Sheet
  pub read : read_sheet s ≡ ok sh
  pub places : table ≡ (table_of sh).starts

-- the node numbers of a task are in range
abbrev pub Known : Sheet → Task → Type 0
Known sh (enter n) = n < length sh.nodes
Known sh (own k s n) = (i : ℕ) × Ranged (length sh.nodes) (length sh.sections) i (record_at k s n)
Known sh (branch t n) = n < length sh.nodes
Known sh (members x root ms) = root < length sh.nodes

-- a level takes at most 513 bytes of the stack, and adds at most two variables
pub record Ready (s table a : List ℕ) (sc : Scope) (top levels left : ℕ) (t : Task) : Type 0 where
  pub long : length a ≡ scratch_size
  pub few : left ≤ allowance_limit
  pub base : stack_start ≤ top
  pub room : top + 513 * levels ≤ chain_start
  pub variables : sc.count + 2 * levels ≤ 112
  pub sheet : Tabled s table
  pub known : Known sheet.sh t
  pub env : Env
  pub scoped : Scoped a sc top env

-- the value v that was got starts no higher than the top
pub record GotAt (a : List ℕ) (top start len : ℕ) (v : Value) : Type 0 where
  pub low : start ≤ top
  pub held : Held a (top + len) start len v

-- the bytes below `top` are kept, and the answer is the task's, for whatever values the scope's variables stand for
pub record GetShows (b a s : List ℕ) (sc : Scope) (from top left r l : ℕ) (t : Task) : Type 0 where
  pub kept : SameBelow top b a
  pub told : (sh : Sheet) → read_sheet s ≡ ok sh → (μ : Env) → Scoped b sc from μ → Represents (GotAt a top) (decoded a l r) left (run l sh t μ)

-- THE CONTRACT of the functions of the kinds, for the node o at a place
abbrev pub KindAsked : (s table a : List ℕ) → Scope → Pos → At → Type 0
KindAsked s table a sc o at = Ready s table a sc at.top (suc at.levels) (suc at.left) (own o.kind s o.from)

abbrev pub KindTells : (s b a : List ℕ) → Scope → Pos → At → ℕ → Type 0
KindTells s b a sc o at r = GetShows b a s sc at.top at.top at.left r at.levels (own o.kind s o.from)

-- WHERE A FUNCTION OF A KIND IS: what it is lent, and its place

pub record Here : Type 0 where
  pub sheet : List ℕ
  pub table : List ℕ
  pub arena : List ℕ
  pub scope : Scope
  pub top : ℕ
  pub left : ℕ
  pub levels : ℕ

-- where the function is that was asked so
abbrev pub here : {s table a : List ℕ} {sc : Scope} {top l left k n : ℕ} → Ready s table a sc top (suc l) (suc left) (own k s n) → Here
here {s} {table} {a} {sc} {top} {l} {left} w = record { sheet = s; table = table; arena = a; scope = sc; top = top; left = left; levels = l }

-- the same in another scope
abbrev pub within_scope : Here → Scope → Here
within_scope h sc = record { sheet = h.sheet; table = h.table; arena = h.arena; scope = sc; top = h.top; left = h.left; levels = h.levels }

-- and with another arena, top and allowance
abbrev pub further : Here → (arena : List ℕ) (top left : ℕ) → Here
further h a top left = record { sheet = h.sheet; table = h.table; arena = a; scope = h.scope; top = top; left = left; levels = h.levels }

-- what such a function is asked, and what a call of a node asks there
abbrev pub Asked : Here → (kind n : ℕ) → Type 0
Asked h k n = Ready h.sheet h.table h.arena h.scope h.top (suc h.levels) (suc h.left) (own k h.sheet n)

abbrev pub Asks : Here → ℕ → Type 0
Asks h x = Ready h.sheet h.table h.arena h.scope h.top h.levels h.left (enter x)

-- what the function of a kind tells, and what a node told, each with the arena as it leaves it
abbrev pub Tells : Here → List ℕ → (r kind n : ℕ) → Type 0
Tells h a r k n = GetShows h.arena a h.sheet h.scope h.top h.top h.left r h.levels (own k h.sheet n)

abbrev pub ToldOf : Here → List ℕ → (r x : ℕ) → Type 0
ToldOf h a r x = GetShows h.arena a h.sheet h.scope h.top h.top h.left r h.levels (enter x)

-- THE SAME at a place, in a scope and for a node by other names

pub levels_as : {at at' : At} → at ≡ at' → at.levels ≡ at'.levels
levels_as e = ap (λ (x : At). x.levels) e

module _ {at at' : At} {sc sc' : Scope} {x x' : ℕ} (e : at ≡ at') (f : sc ≡ sc') (g : x ≡ x') where
  pub ready_as : {s table a : List ℕ} → Ready s table a sc' at'.top at'.levels at'.left (enter x')
      → Ready s table a sc at.top at.levels at.left (enter x)
  ready_as w = rw (e, f, g) w

  pub shows_as : {b a s : List ℕ} {r : ℕ} → GetShows b a s sc at.top at.top at.left r at.levels (enter x)
      → GetShows b a s sc' at'.top at'.top at'.left r at'.levels (enter x')
  shows_as w = rw (e, f, g) at w

-- at the same place
pub as_node : {b a s : List ℕ} {sc : Scope} {from top left r l x y : ℕ} → x ≡ y → GetShows b a s sc from top left r l (enter x)
    → GetShows b a s sc from top left r l (enter y)
as_node e g = rw e at g

pub ready_node : {s table a : List ℕ} {sc : Scope} {top levels left x y : ℕ} → x ≡ y → Ready s table a sc top levels left (enter y)
    → Ready s table a sc top levels left (enter x)
ready_node e w = rw e w

pub as_scope : {b a s : List ℕ} {sc sc' : Scope} {from top left r l : ℕ} {t : Task} → sc ≡ sc' → GetShows b a s sc from top left r l t
    → GetShows b a s sc' from top left r l t
as_scope e g = rw e at g

pub ready_scope : {s table a : List ℕ} {sc sc' : Scope} {top levels left : ℕ} {t : Task} → sc ≡ sc' → Ready s table a sc' top levels left t
    → Ready s table a sc top levels left t
ready_scope e w = rw e w
