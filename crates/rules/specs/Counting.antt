-- The counting reading of get and put: what was done or why it was refused, with the steps taken.
use Rattle.std.proofs.Math.Option.{Option}
use Rattle.std.specs.Prelude.{List, ℕ}
use Rattle.value.specs.Value.{Value, Values}
use Rattle.node.specs.declared.Node.{Node}
use Rattle.sheet.specs.Sheet.{Sheet}
use Rattle.rules.specs.Outcome.{Out, done, refused, plus, ◌>>=◌, given, choose}
use Rattle.rules.specs.Semantics
use Rattle.rules.specs.Semantics.{Reading}
unfoldable pub use Rattle.rules.specs.Semantics.{Env, two, pick, on_list, rest_of, mk_list, mk_pair}

-- a cell is the value that was written; a node that is too deep costs no step
abbrev pub counting : Reading
counting = record {
  M = Out;
  give = λ a. done a 0;
  bind = ◌>>=◌;
  given = given;
  seen = λ c v. given c;
  choose = choose;
  enter = λ n. plus 1;
  deep = λ n. refused 40 0;
  Cell = Value;
  mark = λ n v. v;
  held = λ w. w;
  clash = λ w. given 54;
}

abbrev pub Cells : Type 0
Cells = Semantics.Cells counting

abbrev pub Getter : Type 0
Getter = Semantics.Getter counting

abbrev pub Putter : Type 0
Putter = Semantics.Putter counting

abbrev pub bounded : Value → Out Value
bounded = Semantics.bounded counting

abbrev pub tested : ℕ → Out Value → Out Value
tested = Semantics.tested counting

abbrev pub get_each : Getter → (root : ℕ) → Value → ℕ → Values → Out Values
get_each = Semantics.get_each counting

abbrev pub get_node : Getter → Sheet → Node → Env → Out Value
get_node = Semantics.get_node counting

abbrev pub get : ℕ → Sheet → Getter
get = Semantics.get counting

abbrev pub or_old : Option Value → Value → Value
or_old = Semantics.or_old counting

abbrev pub constant : Value → Value → Cells → Out Cells
constant = Semantics.constant counting

abbrev pub write : ℕ → Value → Cells → Option Value → Out Cells
write = Semantics.write counting (λ v. v)

abbrev pub both : Putter → Env → List ℕ → Cells → ℕ → Value → ℕ → Value → Out Cells
both = Semantics.both counting

abbrev pub under : Putter → Env → List ℕ → Cells → ℕ → Value → ℕ → (Value → Value → Option Value) → Value → Value → Out Cells
under = Semantics.under counting

abbrev pub stood_for : Getter → (d : ℕ) → Values → Out Value
stood_for = Semantics.stood_for counting

abbrev pub put_each : Getter → Putter → (root d c : ℕ) → Value → ℕ → Values → Values → Cells → Out (Values × Cells)
put_each = Semantics.put_each counting

abbrev pub put_node : Getter → Putter → Sheet → Node → Env → List ℕ → Value → Cells → Out Cells
put_node = Semantics.put_node counting (λ v. v)

abbrev pub put : ℕ → Sheet → Putter
put = Semantics.put counting
