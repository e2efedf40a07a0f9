-- What every get and put keeps in the counting reading: it is refused with 40 or with a number of the table by kind, and a cell once written
-- keeps its value.
use Rattle.std.specs.Prelude.{◌≡◌, true, List, [], ◌∷◌, ℕ}
use Rattle.std.proofs.Math.Path.{refl}
use Rattle.std.proofs.Common.{subst}
use Rattle.std.proofs.Math.Option.{Option, none, some}
use Rattle.std.proofs.Math.ListN.{get_elem?}
use Rattle.value.specs.Value.{Value}
use Rattle.node.specs.declared.Node.{Node}
use Rattle.sheet.specs.Sheet.{Sheet}
use Rattle.rules.specs.Outcome.{Out, done, refused, plus, ◌>>=◌, given, choose}
use Rattle.rules.specs.Counting.{Env, Cells, counting, get, put}
use Rattle.rules.specs.Nodes.{Way, MayRefuse, ask_refuse, among, everywhere, own_numbers, own_number}
use Rattle.rules.proofs.Laws.Related.{all2_at}
use Rattle.rules.specs.Laws.Cells.{Grows, WrittenBy, empty, blank, held}
use Rattle.rules.proofs.Laws.Cells.{grew_kept, grows_refl}
use Rattle.rules.specs.Laws.Invariant.{Invariant, Any}
use Rattle.rules.proofs.Laws.Invariant.{get_holds, put_holds}

-- the numbers of a walk without its allowance
unfoldable pub walk_numbers : List ℕ
walk_numbers = 40 ∷ own_numbers

-- Q of what was done; or a refusal with one of them
pub data Ends {A : Type 0} (Q : A → Type 0) : Out A → Type 0 where
  ended : {a : A} {s : ℕ} → Q a → Ends Q (done a s)
  stopped : {c s : ℕ} → among c walk_numbers ≡ true → Ends Q (refused c s)

own_walk : (w : Way) (nd : Node) (c : ℕ) → MayRefuse w nd c → among c walk_numbers ≡ true
unfolding among everywhere walk_numbers own_numbers
own_walk w nd c e = own_number w nd c (λ x. among x (40 ∷ 42 ∷ 43 ∷ 44 ∷ 45 ∷ 46 ∷ 50 ∷ 51 ∷ 52 ∷ 53 ∷ 54 ∷ [])) refl e

-- THE READING KEEPS IT

ends_plus : {A : Type 0} {Q : A → Type 0} {o : Out A} (s : ℕ) → Ends Q o → Ends Q (plus s o)
unfolding plus
ends_plus s (ended q) = ended q
ends_plus s (stopped h) = stopped h

ends_bind : {A B : Type 0} {P : A → Type 0} {Q : B → Type 0} {m : Out A} {k : A → Out B} → Ends P m → ((a : A) → P a → Ends Q (k a)) → Ends Q (m >>= k)
unfolding ◌>>=◌
ends_bind (ended p) h = ends_plus _ (h _ p)
ends_bind (stopped r) h = stopped r

module _ {B : Type 0} {Q : B → Type 0} where
  ends_given : {A : Type 0} (c : ℕ) (o : Option A) {k : A → Out B} → (o ≡ none → among c walk_numbers ≡ true) → ((a : A) → o ≡ some a → Ends Q (k a))
      → Ends Q (given c o k)
  unfolding given
  ends_given c none r h = stopped (r refl)
  ends_given c (some a) r h = h a refl

  ends_choose : {X Y : Type 0} (p : Dec X) (q : Dec Y) {x y : Out B} → among 53 walk_numbers ≡ true → Ends Q x → Ends Q y → Ends Q (choose p q x y)
  unfolding choose
  ends_choose (yes p) q r h j = h
  ends_choose (no p) (yes q) r h j = j
  ends_choose (no p) (no q) r h j = stopped r

deep : {A : Type 0} {Q : A → Type 0} → Ends Q (refused 40 0)
unfolding among walk_numbers
deep = stopped refl

abbrev RuleOf : Way → Node → ℕ → {A : Type 0} → (A → Type 0) → Out A → Type 0
RuleOf w nd l Q o = Ends Q o

abbrev WalkOf : Way → ℕ → ℕ → {A : Type 0} → (A → Type 0) → Out A → Type 0
WalkOf w l n Q o = Ends Q o

abbrev Whatever : Value → Type 0
Whatever v = Unit {0}

abbrev kept : (sh : Sheet) → Invariant counting sh
kept sh = record {
  In = λ n. Unit {0};
  By = Whatever;
  Rule = RuleOf;
  Walk = WalkOf;
  gives = λ a q. ended q;
  binds = λ h k. ends_bind h k;
  givens = λ {w} {nd} c o r k. ends_given c o (λ e. own_walk w nd c (ask_refuse w nd c (r e)).0) k;
  sees = λ {w} {nd} c v o r k. ends_given c o (λ e. own_walk w nd c (ask_refuse w nd c r).0) λ a _. k a;
  chooses = λ {w} {nd} p q r h j. ends_choose p q (own_walk w nd 53 r) h j;
  clashes = λ {w} {nd} c o r i k. ends_given 54 o (λ e. own_walk w nd 54 r) λ a _. k a;
  enters = λ n i h. ends_plus 1 h;
  deeps = λ n i. deep;
  goes = λ i h. h;
  looks = λ i h. h;
  marks = λ n v i. tt;
  leads = λ i e. tt;
}

anything : (W : Cells) → WrittenBy Whatever W
anything [] = empty
anything (none ∷ W) = blank (anything W)
anything (some v ∷ W) = held tt (anything W)

-- OF ANY NODE

pub get_ends : (l : ℕ) (sh : Sheet) (n : ℕ) (μ : Env) → Ends Any (get l sh n μ)
get_ends l sh n μ = get_holds (kept sh) l n μ tt

module _ (l : ℕ) (sh : Sheet) (n : ℕ) (μ : Env) (σ : List ℕ) (v : Value) (W : Cells) where
  pub put_ends : Ends (Grows Whatever W) (put l sh n μ σ v W)
  put_ends = put_holds (kept sh) l n μ σ v W W tt (anything W) (grows_refl W)

  -- a cell once written keeps its value through every put
  pub cell_kept : {X : Cells} {s : ℕ} → put l sh n μ σ v W ≡ done X s → (c : ℕ) (w : Value) → get_elem? W c ≡ some (some w) → get_elem? X c ≡ some (some w)
  cell_kept {X} {s} e c w h = go (subst (Ends (Grows Whatever W)) e put_ends)
    where
      go : Ends {A = Cells} (Grows Whatever W) (done X s) → get_elem? X c ≡ some (some w)
      go (ended g) = let (o, eo, r) = all2_at c g h in let z = grew_kept r refl in cc
