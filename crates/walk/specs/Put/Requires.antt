-- What a call of put asks, handed on from call to call, and what is given after one; and the choice of two that put makes.
use Rattle.std.specs.Prelude.{◌≡◌, List, ℕ, ◌+◌, ◌*◌, ◌≤◌, length}
use Rattle.std.proofs.Common.{◌∙◌, le_refl, arith}
use Rattle.std.proofs.Math.Option.{Option}
use Rattle.value.specs.Value.{Value}
use Rattle.sheet.specs.Sheet.{Sheet}
use Rattle.rules.specs.Semantics
use Rattle.rules.specs.Semantics.{Env}
use Rattle.rules.specs.Explain.{Cells, Explained, choice, choose, put, under}
use Rattle.rules.specs.Numbers.{stack_start, chain_start}
use Rattle.scopes.specs.declared.Scope.{Scope}
use Rattle.walk.specs.Decoded.{Decoded, decoded_done}
use Rattle.walk.specs.declared.at.At.{At}
use Rattle.walk.specs.Arena.Parts.{SameBelow}
use Rattle.walk.specs.Arena.{env_later}
use Rattle.walk.specs.Represents.{Represents, had}
use Rattle.walk.specs.Steps.{Frugal, frugal_next, frugal_given, get_frugal, put_frugal, put_node_frugal}
use Rattle.walk.specs.Get as gets
use Rattle.walk.specs.Arena.Cells.{Frame, CellsHold, Shown}
use Rattle.walk.specs.Arena.Frames.{env_framed, written_kept}
use Rattle.walk.specs.Put.{Task, enter, own, pair, inside, rebuilt, switch, rebuild, with_defaults, run, Known, Given, Ready, PutShows, Few, Inner}

module _ {A : Type 0} {P : (start len : ℕ) → A → Type 0} {r : Decoded} {left : ℕ} {X Y : Type 0} where
  pub choose_first : (p : Dec X) (q : Dec Y) (x y : Explained A) → X → Represents P r left x → Represents P r left (choose p q x y)
  unfolding choice
  choose_first (yes p) q x y h t = t
  choose_first (no p) q x y h t = absurd (p h)

-- WHAT IS GIVEN AFTER A CALL

module _ {b slots s cells : List ℕ} {P : Value → Type 0} {sc : Scope} {count m top : ℕ} {sh : Sheet} {μ : Env} {σ : List ℕ} {v : Value} {W : Cells}
    (w : Given b slots s P sc cells count m top sh μ σ v W) where
  -- after a get
  pub given_later : {a : List ℕ} → SameBelow top b a → stack_start ≤ top → (top' : ℕ) → top ≤ top' → Given a slots s P sc cells count m top' sh μ σ v W
  given_later k h top' p = record {
    read = w.read;
    scoped = env_later k h top' p w.scoped;
    named = w.named;
    as_many = w.as_many;
    written = written_kept k h w.written;
    shown = w.shown;
  }

  -- after a put
  pub given_after : {a slots' : List ℕ} {Q : Value → Type 0} {n : ℕ} {u : Value} {X : Cells} → Frame top b a → CellsHold a slots' n X → Q u
      → Given a slots' s Q sc cells count n top sh μ σ u X
  given_after f x q = record {
    read = w.read;
    scoped = env_framed f top (le_refl top) w.scoped;
    named = w.named;
    as_many = w.as_many;
    written = x;
    shown = q;
  }

  -- the same with another view
  pub given_shown : {Q : Value → Type 0} {u : Value} → Q u → Given b slots s Q sc cells count m top sh μ σ u W
  given_shown q = record { read = w.read; scoped = w.scoped; named = w.named; as_many = w.as_many; written = w.written; shown = q }

-- the same things ready for another task
pub ready_for : {s table b a slots slots' cells : List ℕ} {P Q : Value
    → Type 0} {sc : Scope} {count m m' top top' levels levels' left left' : ℕ} {t t' : Task} {u : Value} {X : Cells}
    (w : Ready s table b slots P sc cells count m top levels left t) → Known w.sheet.sh t'
    → Given a slots' s Q sc cells count m' top' w.sheet.sh w.env w.names u X → length a ≡ length b
    → left' ≤ left → levels' ≤ levels → top ≤ top' → top' + 513 * levels' ≤ chain_start → Ready s table a slots' Q sc cells count m' top' levels' left' t'
ready_for w k g l h p q z = record {
  long = l ∙ w.long;
  few = omega (arith, w.few);
  base = omega (arith, w.base);
  room = z;
  variables = omega (arith, w.variables);
  more_cells = omega (arith, w.more_cells);
  sheet = w.sheet;
  known = k;
  env = w.env;
  names = w.names;
  value = _;
  cells_now = _;
  given = g;
}

-- what a get asks, of what a put was asked
pub get_ready : {s table b slots cells : List ℕ} {P : Value → Type 0} {sc : Scope} {count m top levels left levels' left' : ℕ} {t : Task} {t' : gets.Task}
    (w : Ready s table b slots P sc cells count m top levels left t)
    → gets.Known w.sheet.sh t' → levels' ≤ levels → left' ≤ left → gets.Ready s table b sc top levels' left' t'
get_ready w k h l = record {
  long = w.long;
  few = omega (arith, w.few);
  base = w.base;
  room = omega (arith, w.room);
  variables = omega (arith, w.variables);
  sheet = w.sheet;
  known = k;
  env = w.env;
  scoped = w.given.scoped;
}

-- no more steps were taken than were left
under_frugal : (l : ℕ) (sh : Sheet) (μ : Env) (σ : List ℕ) (W : Cells) (b : ℕ) (v : Value) (s : ℕ) (mk : Value → Value → Option Value) (f r : Value)
    → Frugal (under (put l sh) μ σ W b v s mk f r)
unfolding Semantics.under
under_frugal l sh μ σ W b v s mk f r = frugal_next (put_frugal l sh b _ _ v _) λ X. frugal_given _ _ λ x. frugal_given _ _ λ y. frugal_given _ _ λ u.
    frugal_given _ _ λ _. put_frugal l sh s μ σ u _

run_frugal : (l : ℕ) (sh : Sheet) (n : ℕ) (t : Task) (μ : Env) (σ : List ℕ) (v : Value) (W : Cells) → Frugal (run l sh n t μ σ v W)
unfolding run rebuild with_defaults Semantics.both
run_frugal l sh n (enter x) μ σ v W = put_frugal l sh x μ σ v W
run_frugal l sh n (own x k s i) μ σ v W = put_node_frugal l sh x _ μ σ v W
run_frugal l sh n (pair a b u) μ σ v W = frugal_next (put_frugal l sh a μ σ v W) λ X. put_frugal l sh b μ σ u X
run_frugal l sh n (inside k b s f r) μ σ v W = under_frugal l sh μ σ W b v s _ f r
run_frugal l sh n (rebuilt k s f r) μ σ v X = frugal_given _ _ λ x. frugal_given _ _ λ y. frugal_given _ _ λ u. frugal_given _ _ λ _. put_frugal l sh s μ σ u _
run_frugal l sh n (switch b s df dr) μ σ v W = frugal_next (get_frugal l sh df _) λ f. frugal_next (get_frugal l sh dr _) λ r. frugal_given _ _ λ _.
    under_frugal l sh μ σ W b v s _ f r

pub few : {s table b a slots slots' cells : List ℕ} {P : Value → Type 0} {sc : Scope} {count m top levels left left' l r : ℕ} {t t' : Task}
    → Ready s table b slots P sc cells count m top levels left t
    → PutShows b a slots slots' s P sc cells count m top left' r l t' → Few left' r
few {left' = left'} {r = r} {t' = t'} w g = record { at = λ e. (run_frugal _ _ _ t' _ _ _ _).few left' (had (g.told w.given) (decoded_done _ _ r e)).is }

-- THE SAME at a place, with cells, in a scope and for a node by other names
module _ {at at' : At} {sc sc' : Scope} {cells cells' : List ℕ} {x x' : ℕ} (e : at ≡ at') (f : sc ≡ sc') (c : cells ≡ cells') (g : x ≡ x') where
  pub ready_as : {s table a slots : List ℕ} {P : Value → Type 0}
      → Ready s table a slots P sc' cells' at'.cells at'.cells at'.top at'.levels at'.left (enter x')
      → Ready s table a slots P sc cells at.cells at.cells at.top at.levels at.left (enter x)
  ready_as w = rw (e, f, c, g) w

  pub shows_as : {b a slots slots' s : List ℕ} {P : Value → Type 0} {r : ℕ}
      → PutShows b a slots slots' s P sc cells at.cells at.cells at.top at.left r at.levels (enter x)
      → PutShows b a slots slots' s P sc' cells' at'.cells at'.cells at'.top at'.left r at'.levels (enter x')
  shows_as w = rw (e, f, c, g) at w

-- the same at a place by another name, whatever the task
module _ {at at' : At} (e : at ≡ at') where
  pub ready_at : {s table a slots cells : List ℕ} {P : Value → Type 0} {sc : Scope} {t : Task}
      → Ready s table a slots P sc cells at'.cells at'.cells at'.top at'.levels at'.left t
      → Ready s table a slots P sc cells at.cells at.cells at.top at.levels at.left t
  ready_at w = rw e w

  pub gives_at : {b a slots slots' s cells : List ℕ} {P : Value → Type 0} {sc : Scope} {r : ℕ} {t : Task}
      → PutShows b a slots slots' s P sc cells at.cells at.cells at.top at.left r at.levels t
      → PutShows b a slots slots' s P sc cells at'.cells at'.cells at'.top at'.left r at'.levels t
  gives_at w = rw e at w

  pub few_at : {r : ℕ} → Few at.left r → Few at'.left r
  few_at w = rw e at w

  pub inner_at : {sc : Scope} → Inner sc at'.cells at'.levels → Inner sc at.cells at.levels
  inner_at w = rw e w

-- the same of a view by another name
module _ {v v' : List ℕ} (e : v ≡ v') where
  pub ready_view : {s table a slots cells : List ℕ} {sc : Scope} {count m top levels left : ℕ} {t : Task}
      → Ready s table a slots (Shown v') sc cells count m top levels left t
      → Ready s table a slots (Shown v) sc cells count m top levels left t
  ready_view w = rw e w

  pub gives_view : {b a slots slots' s cells : List ℕ} {sc : Scope} {count m top left r l : ℕ} {t : Task}
      → PutShows b a slots slots' s (Shown v) sc cells count m top left r l t
      → PutShows b a slots slots' s (Shown v') sc cells count m top left r l t
  gives_view w = rw e at w
