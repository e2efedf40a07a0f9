-- List cases, truth cases and splits: what get shows at each return, and what its calls ask.
use Rattle.std.specs.Prelude.{◌≡◌, true, false, List, [], ◌∷◌, ◌++◌, ℕ, suc, ◌+◌, ◌-◌, ◌*◌, ◌≤◌, ◌<◌, eqb, length, get_or}
use Rattle.std.proofs.Math.Path.{refl, sym, ap, fun_ext}
use Rattle.std.proofs.Common.{◌∙◌, append_assoc, le_refl, add-zero, arith}
use Rattle.std.proofs.Math.Option.{none}
use Rattle.std.proofs.Math.Decide.{dec_lt}
use Rattle.outcome.specs.Outcome.{is_refusal, later_as, len_of, start_of, steps_of}
use Rattle.value.specs.Value.{Value, vfalse, vtrue, list, number, wide, pair, nil, cons}
use Rattle.value.specs.Views.{as_list, as_pair, as_truth}
use Rattle.value.specs.Tests.{passes, holds, table, class}
use Rattle.shapes.specs.Parts.{shape_of}
use Rattle.shapes.proofs.PartsLaws.{shape}
use Rattle.shapes.specs.declared.Shape.{Shape}
use Rattle.sheet.specs.Sheet.{Sheet}
use Rattle.rules.specs.Outcome.{when}
use Rattle.rules.specs.Semantics
use Rattle.rules.specs.Semantics.{Env, on_list, two}
use Rattle.rules.specs.Explain.{Explained, Getter, Exit, Cause, follow, get, give, given, got, met, more, next, own as own_rule, tested, wanted, within}
use Rattle.rules.specs.Numbers.{chain_start, variable_limit}
use Rattle.scopes.specs.declared.Scope.{Scope}
use Rattle.refusal.specs.declared.Refusal.TheVariants.{ValueKind}
use Rattle.refusal.specs.Refusal.{number_of}
use Rattle.decisions.specs.declared.Branch.{Branch}
use Rattle.decisions.specs.declared.Branch.TheVariants.{Plain, Parts, Switch, Refused}
use Rattle.decisions.specs.Decisions.{where_so, fits_kind, fit_of}
use Rattle.decisions.specs.DecisionLaws.{where_is, where_not, FitsBranch, empty, front, untrue, so, pair as a_pair}
use Rattle.walk.specs.Decoded.{Own, Refused as Denied, Decoded, after, later_said, refused_decoded, decoded, decoded_done, decoded_refused}
use Rattle.walk.specs.Arena.Parts.{part, kept_then}
use Rattle.walk.specs.Moves.{Above, top_after, above}
use Rattle.walk.specs.Scope.{with_two, two_pushed, Stored}
use Rattle.walk.specs.Arena.{below_within, Held, Scoped, env_later, env_push}
use Rattle.walk.specs.Arena.Bytes.{held_shape, held_some, held_short, TwoHeld, held_front, held_pair}
use Rattle.walk.specs.Arena.Shapes.{front_of, pair_of_lem}
use Rattle.walk.specs.Represents.{Represents, answer_by, refuse, then_done, then_refused, had, not_had}
use Rattle.walk.specs.Get.{own, branch, run, Known, GetShows, Here, within_scope, further, Asked, Asks, Tells, ToldOf}
use Rattle.walk.specs.Get.Requires.{ready_in, ready_later, few_steps, first_asks, Sized}
use Rattle.walk.specs.Get.Branch.{Judged, judge_gives}

pub data Case (k : ℕ) : Type 0 where
  lists : k ≡ 0x17 → Case k
  truths : k ≡ 0x18 → Case k
  splits : k ≡ 0x19 → Case k

pub case_kind : {k : ℕ} → 0x17 ≤ k → k < 0x1A → Case k
case_kind {k} lo hi = go (dec_lt k 0x18) (dec_lt k 0x19)
  where
    go : Dec (k < 0x18) → Dec (k < 0x19) → Case k
    go (yes h) q = lists (omega arith)
    go (no h) (yes q) = truths (omega arith)
    go (no h) (no q) = splits (omega arith)

-- THE RULE, by the branch that the subject fits

-- the test of the branch whose node is byte i of the record; a split has none
unfoldable pub test_of : (kind : ℕ) (s : List ℕ) (n i : ℕ) → ℕ
test_of kind s n i = where_so (eqb kind 0x19) 0 (get_or s (n + (i + 1)) 0)

pub test_none : (kind : ℕ) (s : List ℕ) (n i : ℕ) → kind ≡ 0x19 → 0 ≡ test_of kind s n i
unfolding test_of
test_none kind s n i e = sym (where_is _ _ e)

pub test_there : (kind : ℕ) (s : List ℕ) (n i : ℕ) → (kind ≡ 0x19 → ⊥) → get_or s (n + (i + 1)) 0 ≡ test_of kind s n i
unfolding test_of
test_there kind s n i e = sym (where_not _ _ e)

-- the two parts of a value that has two
unfoldable pub parts_of : Value → Env
parts_of vfalse = []
parts_of vtrue = []
parts_of (list nil) = []
parts_of (list (cons f r)) = two f (list r)
parts_of (number n) = []
parts_of (wide n) = []
parts_of (pair a b) = two a b

unfoldable pub get_branch : Getter → List ℕ → (n kind : ℕ) → Env → Value → Branch → Explained Value
get_branch g s n k μ o (Plain i byte) = tested (test_of k s n i) (g (get_or s (n + i) 0) μ)
get_branch g s n k μ o (Parts i mid) = tested (test_of k s n i) (g (get_or s (n + i) 0) (μ ++ parts_of o))
get_branch g s n k μ o Switch = λ _. met (own_rule 43 none) 0
get_branch g s n k μ o (Refused c) = λ _. met (own_rule (number_of c) none) 0

-- a test that says yes to anything changes nothing
any_holds : (v : Value) → holds 0 v ≡ true
unfolding holds table class
any_holds vfalse = refl
any_holds vtrue = refl
any_holds (list nil) = refl
any_holds (list (cons f nil)) = refl
any_holds (list (cons f (cons g r))) = refl
any_holds (number n) = refl
any_holds (wide n) = refl
any_holds (pair a b) = refl

untested : (o : Explained Value) → tested 0 o ≡ o
unfolding Semantics.tested next follow more wanted when
untested o = fun_ext λ left. go left (o left)
  where
    kept : (v : Value) (d : Dec (holds 0 v ≡ true)) (n : ℕ) → within n (given 46 (when d) (λ _. give v)) ≡ got v 0
    kept v (yes p) n = refl
    kept v (no q) n = absurd (q (any_holds v))

    go : (left : ℕ) (t : Exit Value) → follow t (λ v s. within (left - s) (given 46 (when (passes 0 v)) (λ _. give v))) ≡ t
    go left (got v s) = ap (more s) (kept v (passes 0 v) (left - s)) ∙ ap (got v) (add-zero s)
    go left (met y s) = refl

module _ (g : Getter) (s : List ℕ) (n : ℕ) (μ : Env) where
  list_rule : (o : Value)
      → (given 43 (as_list o) λ l. on_list l.0 (tested (get_or s (n + 3) 0) (g (get_or s (n + 2) 0) μ)) λ f r. tested (get_or s (n + 5) 0)
      (g (get_or s (n + 4) 0) (μ ++ two f (list r))))
      ≡ get_branch g s n 0x17 μ o (fit_of 0x17 (shape o))
  unfolding get_branch test_of parts_of fit_of fits_kind where_so shape wanted as_list on_list
  list_rule vfalse = refl
  list_rule vtrue = refl
  list_rule (list nil) = refl
  list_rule (list (cons f r)) = refl
  list_rule (number i) = refl
  list_rule (wide i) = refl
  list_rule (pair a b) = refl

  truth_rule : (o : Value)
      → (given 43 (as_truth o) λ b. tested (Semantics.pick b.0 (get_or s (n + 3) 0) (get_or s (n + 5) 0))
      (g (Semantics.pick b.0 (get_or s (n + 2) 0) (get_or s (n + 4) 0)) μ))
      ≡ get_branch g s n 0x18 μ o (fit_of 0x18 (shape o))
  unfolding get_branch test_of fit_of fits_kind where_so shape wanted as_truth
  truth_rule vfalse = refl
  truth_rule vtrue = refl
  truth_rule (list nil) = refl
  truth_rule (list (cons f r)) = refl
  truth_rule (number i) = refl
  truth_rule (wide i) = refl
  truth_rule (pair a b) = refl

  split_rule : (o : Value) → (given 43 (as_pair o) λ p. g (get_or s (n + 2) 0) (μ ++ two p.0 p.1)) ≡ get_branch g s n 0x19 μ o (fit_of 0x19 (shape o))
  unfolding get_branch test_of parts_of fit_of fits_kind where_so shape wanted as_pair
  split_rule vfalse = refl
  split_rule vtrue = refl
  split_rule (list nil) = refl
  split_rule (list (cons f r)) = refl
  split_rule (number i) = refl
  split_rule (wide i) = refl
  split_rule (pair a b) = sym (untested _)

-- once the subject is got
module _ {P : (start len : ℕ) → Value → Type 0} {r : Decoded} {left k : ℕ} (case : Case k) (n l : ℕ) (s : List ℕ) (sh : Sheet) (μ : Env) where
  case_done : {o : Value} {i : ℕ} {q : Decoded} → within left (get l sh (get_or s (n + 1) 0) μ) ≡ got o i
      → Represents P q (left - i) (get_branch (get l sh) s n k μ o (fit_of k (shape o)))
      → r ≡ after i q → Represents P r left (run l sh (own k s n) μ)
  unfolding run Semantics.get_node
  case_done {o} e t d = go case
    where
      go : Case k → Represents P r left (run l sh (own k s n) μ)
      go (lists x) = rw x (then_done _ _ e (answer_by (rw x at t) (list_rule (get l sh) s n μ o)) d)
      go (truths x) = rw x (then_done _ _ e (answer_by (rw x at t) (truth_rule (get l sh) s n μ o)) d)
      go (splits x) = rw x (then_done _ _ e (answer_by (rw x at t) (split_rule (get l sh) s n μ o)) d)

  case_none : {c : Cause} {i : ℕ} → within left (get l sh (get_or s (n + 1) 0) μ) ≡ met c i → r ≡ Denied c → Represents P r left (run l sh (own k s n) μ)
  unfolding run Semantics.get_node
  case_none e d = go case
    where
      go : Case k → Represents P r left (run l sh (own k s n) μ)
      go (lists x) = rw x (then_refused _ _ e d)
      go (truths x) = rw x (then_refused _ _ e d)
      go (splits x) = rw x (then_refused _ _ e d)

-- THE SUBJECT

-- a value of two parts, which stand in it
pub record PartsHeld (a : List ℕ) (top start len mid : ℕ) (o : Value) : Type 0 where
  pub f : Value
  pub r : Value
  pub are : parts_of o ≡ two f r
  pub held : TwoHeld a top start len mid f r

pub parts_held : {a : List ℕ} {top start len k i mid : ℕ} {q : Shape} (o : Value) → FitsBranch k q (Parts i mid) → q ≡ shape o → Held a top start len o
    → PartsHeld a top start len mid o
unfolding parts_of
parts_held o (front x) e h =
    let z = front_of o e in
    record { f = z.first; r = list z.rest; are = ap parts_of z.whole; held = held_front z.at (rw z.whole at h) }
parts_held o (a_pair x) e h =
    let z = pair_of_lem o e in
    record { f = z.first; r = z.second; are = ap parts_of z.whole; held = held_pair z.at (rw z.whole at h) }

pub held_above : {a : List ℕ} {top start len top' : ℕ} {v : Value} → Above top start len top' → Held a (top + len) start len v → Held a top' start len v
held_above {top' = top'} up h = record { place = below_within top' up.clear h.place; long = h.long; bytes = h.bytes; readable = h.readable }

-- the stack goes on behind the subject
abbrev pub behind_here : Here → List ℕ → ℕ → Here
behind_here h a g = further h a (top_after h.top (start_of g) (len_of g)) (h.left - steps_of g)

module _ {h : Here} {k n : ℕ} (w : Asked h k n) (case : Case k) where
  pub subject_asks : Asks h (get_or h.sheet (n + 1) 0)
  subject_asks = first_asks w (go case)
    where
      go : Case k → get_or h.sheet (n + 1) 0 < length w.sheet.sh.nodes
      go (lists e) = (rw e at w.known.1).0.inside
      go (truths e) = (rw e at w.known.1).0.inside
      go (splits e) = (rw e at w.known.1).0.inside

  pub subject_refused : {a : List ℕ} {g : ℕ} → ToldOf h a g (get_or h.sheet (n + 1) 0) → is_refusal g ≡ true → Tells h a g k n
  unfolding run
  subject_refused {g = g} t e = let x = decoded_refused _ _ g e in
      record { kept = t.kept; told = λ sh es μ m. case_none case n h.levels h.sheet sh μ (not_had (t.told sh es μ m) x).1 x }

-- AT A STAGE: the subject was got, as the answer g, and is a value of the shape q
pub record Subject (h : Here) (k n g : ℕ) (a : List ℕ) (q : Shape) : Type 0 where
  pub asked : Asked h k n
  pub case : Case k
  pub gives : ToldOf h a g (get_or h.sheet (n + 1) 0)
  pub sized : Sized h.top h.left h.levels g
  pub done : is_refusal g ≡ false
  pub shape : q ≡ shape_of (part a (start_of g) (len_of g))

-- the nodes of its branches
module _ (s : List ℕ) (sh : Sheet) (n : ℕ) where
  pub plain_known : {k j byte : ℕ} {q : Shape} → FitsBranch k q (Plain j byte) → Known sh (own k s n) → get_or s (n + j) 0 < length sh.nodes
  plain_known (empty e) r = (rw e at r.1).1.0.inside
  plain_known (untrue e) r = (rw e at r.1).1.0.inside
  plain_known (so e) r = (rw e at r.1).1.1.1.0.inside

  pub parts_known : {k j mid : ℕ} {q : Shape} → FitsBranch k q (Parts j mid) → Known sh (own k s n) → get_or s (n + j) 0 < length sh.nodes
  parts_known (front e) r = (rw e at r.1).1.1.1.0.inside
  parts_known (a_pair e) r = (rw e at r.1).1.0.inside

module _ {h : Here} {k n g : ℕ} {a : List ℕ} {q : Shape} (w : Subject h k n g a q) where
  abbrev top' : ℕ
  top' = top_after h.top (start_of g) (len_of g)

  up : Above h.top (start_of g) (len_of g) top'
  up = above _ _ _ (w.sized.at w.done).low

  env₂ : {μ : Env} → Scoped h.arena h.scope h.top μ → Scoped a h.scope top' μ
  env₂ m = env_later w.gives.kept w.asked.base top' up.over m

  -- the branch that it fits
  subject_is : {b : Branch} {o : Value} {top : ℕ} → b ≡ fit_of k q → Held a top (start_of g) (len_of g) o → fit_of k (shape o) ≡ b
  subject_is e v = ap (fit_of k) (sym (held_shape v w.shape)) ∙ sym e

  -- A BRANCH WITHOUT VARIABLES
  pub plain_asks : {i byte : ℕ} → FitsBranch k q (Plain i byte) → Asks (behind_here h a g) (get_or h.sheet (n + i) 0)
  plain_asks f =
      let z : h.top + 513 * suc h.levels ≤ chain_start = w.asked.room in
      let s = w.sized.at w.done in
      let u = up in
      ready_later w.asked w.gives.kept top' h.levels (h.left - steps_of g) up.over (omega (arith, w.asked.few)) (omega arith) (omega arith)
      (plain_known h.sheet w.asked.sheet.sh n f w.asked.known)

  -- the answer of a judged branch, after the subject's steps
  later_told : {a₂ : List ℕ} {x t j r : ℕ} {sc : Scope} → Asks (within_scope (behind_here h a g) sc) x
      → GetShows a a₂ h.sheet sc top' h.top (h.left - steps_of g) j h.levels (branch t x)
      → r ≡ later_as j (steps_of g) → decoded a₂ h.levels r ≡ after (steps_of g) (decoded a₂ h.levels j)
  later_told {j = j} asks b e =
      let s = w.sized.at w.done in
      ap (decoded _ _) e ∙ later_said _ _ j (steps_of g) (λ f. let z = few_steps asks b f in omega (arith, w.asked.few))

  pub plain_told : {i byte g₂ j r : ℕ} {a₂ a₃ : List ℕ} → FitsBranch k q (Plain i byte) → Plain i byte ≡ fit_of k q
      → ToldOf (behind_here h a g) a₂ g₂ (get_or h.sheet (n + i) 0)
      → Judged (test_of k h.sheet n i) h.top g₂ a₂ a₃ j → r ≡ later_as j (steps_of g) → Tells h a₃ r k n
  unfolding run get_branch
  plain_told f e t v d =
      let b = judge_gives w.asked.base up.over t v in
      record {
        kept = kept_then w.gives.kept b.kept (le_refl _);
        told = λ sh es μ m.
            let o = had (w.gives.told sh es μ m) (decoded_done _ _ g w.done) in
            case_done w.case n h.levels h.sheet sh μ o.is (rw (subject_is e o.that.held) (b.told sh es μ (env₂ m)))
            (later_told (plain_asks f) b d);
      }

  -- A BRANCH WITH TWO VARIABLES, the subject's parts
  module _ {i mid : ℕ} (f : FitsBranch k q (Parts i mid)) where
    the_parts : {o : Value} → Held a (h.top + len_of g) (start_of g) (len_of g) o → PartsHeld a top' (start_of g) (len_of g) mid o
    the_parts {o} v = parts_held o f (held_shape v w.shape) (held_above up v)

    -- there is room for them
    pub parts_stored : (h.scope.count + 2 ≤ variable_limit) × Stored (start_of g + 1) (mid - 1) (len_of g - mid) × (1 ≤ mid) × (mid ≤ len_of g)
    parts_stored =
        let d = had (w.gives.told w.asked.sheet.sh w.asked.sheet.read w.asked.env w.asked.scoped) (decoded_done _ _ g w.done) in
        let p = (the_parts d.that.held).held in
        let s = w.sized.at w.done in
        let z : h.top + 513 * suc h.levels ≤ chain_start = w.asked.room in
        let y : h.scope.count + 2 * suc h.levels ≤ 112 = w.asked.variables in
        let one = held_some p.first in
        let two = held_some p.second in (
          omega arith,
          record { inside = omega arith; some = one; short = held_short p.first; some' = two; short' = held_short p.second },
          p.some,
          p.inside,
        )

    abbrev pub inner : Scope
    inner = with_two h.scope (start_of g + 1) (mid - 1) (len_of g - mid)

    env_inner : {μ : Env} {o : Value} → Scoped h.arena h.scope h.top μ → (p : PartsHeld a top' (start_of g) (len_of g) mid o)
        → Scoped a inner top' (μ ++ parts_of o)
    env_inner {μ} m p =
        let z : start_of g + 1 + (mid - 1) ≡ start_of g + mid = omega (arith, p.held.some) in
        let c = parts_stored.0 in
        rw (two_pushed h.scope (start_of g + 1) (mid - 1) (len_of g - mid), p.are, ← append_assoc μ (p.f ∷ []) (p.r ∷ []), z)
        (env_push (env_push (env₂ m) p.held.first (omega arith)) p.held.second (omega arith))

    pub parts_asks : Asks (within_scope (behind_here h a g) inner) (get_or h.sheet (n + i) 0)
    parts_asks =
        let z : h.top + 513 * suc h.levels ≤ chain_start = w.asked.room in
        let y : h.scope.count + 2 * suc h.levels ≤ 112 = w.asked.variables in
        let s = w.sized.at w.done in
        let u = up in
        let d = had (w.gives.told w.asked.sheet.sh w.asked.sheet.read w.asked.env w.asked.scoped) (decoded_done _ _ g w.done) in
        ready_in w.asked w.gives.kept top' h.levels (h.left - steps_of g) up.over (omega (arith, w.asked.few)) (omega arith) (omega arith)
        (parts_known h.sheet w.asked.sheet.sh n f w.asked.known) _
        (env_inner w.asked.scoped (the_parts d.that.held))

    pub parts_told : {g₂ j r : ℕ} {a₂ a₃ : List ℕ} → Parts i mid ≡ fit_of k q → ToldOf (within_scope (behind_here h a g) inner) a₂ g₂ (get_or h.sheet (n + i) 0)
        → Judged (test_of k h.sheet n i) h.top g₂ a₂ a₃ j → r ≡ later_as j (steps_of g) → Tells h a₃ r k n
    unfolding run get_branch
    parts_told e t v d =
        let b = judge_gives w.asked.base up.over t v in
        record {
          kept = kept_then w.gives.kept b.kept (le_refl _);
          told = λ sh es μ m.
              let o = had (w.gives.told sh es μ m) (decoded_done _ _ g w.done) in
              case_done w.case n h.levels h.sheet sh μ o.is
              (rw (subject_is e o.that.held) (b.told sh es _ (env_inner m (the_parts o.that.held)))) (later_told parts_asks b d);
        }

  -- NO BRANCH
  pub none_told : {r : ℕ} → FitsBranch k q (Refused ValueKind) → Refused ValueKind ≡ fit_of k q → r ≡ 43 → Tells h a r k n
  unfolding run get_branch after
  none_told {r} f e d = record {
    kept = w.gives.kept;
    told = λ sh es μ m.
        let o = had (w.gives.told sh es μ m) (decoded_done _ _ g w.done) in
        let x : decoded a h.levels r ≡ Own 43 = ap (decoded _ _) d ∙ refused_decoded _ _ (omega arith) (omega arith) in
        case_done w.case n h.levels h.sheet sh μ {q = Own 43} o.is (rw (subject_is e o.that.held) (refuse refl)) x;
  }
