-- Cases and splits: the old subject is got, and then the view is put into the branch that it takes. What each return shows, and what the calls ask.
use Rattle.std.specs.Prelude.{◌≡◌, Bool, true, false, not, List, [], ◌∷◌, length, get_or}
use Rattle.std.proofs.Math.Path.{refl, ap}
use Rattle.std.proofs.Common.{sym, ap₂, ◌∙◌, arith}
use Rattle.std.proofs.Math.Option.{none}
use Prim.Native.Nat.{ℕ, zero, suc, ◌+◌, ◌-◌, ◌*◌, ◌≤◌, ◌<◌}
use Rattle.outcome.specs.Outcome.{is_refusal, later_as, len_of, start_of, steps_of}
use Rattle.value.specs.Value.{Value, vfalse, vtrue, list, number, wide, pair as a_pair_of, nil, cons, encode, encodes, size, sizes, truth}
use Rattle.value.specs.Value.{e_false, e_true, e_list, e_nil}
use Rattle.value.specs.Views.{as_list, as_pair, as_truth}
use Rattle.value.specs.Tests.{passes, holds}
use Rattle.shapes.specs.Parts.{shape_of, passes_bytes}
use Rattle.shapes.proofs.PartsLaws.{shape}
use Rattle.shapes.proofs.TestsLaws.{passes_whole}
use Rattle.shapes.specs.declared.Shape.{Shape}
use Rattle.shapes.specs.declared.Shape.TheVariants as shapes
use Rattle.sheet.specs.Sheet.{Sheet}
use Rattle.rules.specs.Semantics
use Rattle.rules.specs.Semantics.{Env, mk_list, mk_pair, on_list, two}
use Rattle.rules.specs.Explain.{Cells, Explained, Cause, both, choice as choosing, choose, get, given, got, met, own as own_rule, put, under, wanted, within}
use Rattle.rules.specs.Numbers.{chain_start}
use Rattle.refusal.specs.declared.Refusal.{Refusal}
use Rattle.refusal.specs.declared.Refusal.TheVariants.{NoBranch}
use Rattle.refusal.specs.Refusal.{number_of}
use Rattle.decisions.specs.declared.Branch.{Branch}
use Rattle.decisions.specs.declared.Branch.TheVariants.{Plain, Parts, Switch, Refused}
use Rattle.decisions.specs.Decisions.{where_so, fits_kind, fit_of, other_of, choice, taken_from, take_of, made_of}
use Rattle.decisions.specs.DecisionLaws.{
  FitsBranch,
  front,
  pair as a_pair,
  Took,
  emptied,
  denied,
  affirmed,
  parted,
  switched,
  unfitted,
  unsaid,
  made_list,
  made_pair,
}
use Rattle.walk.specs.Decoded.{Own, Refused as Denied, Decoded, after, later_said, refused_decoded, decoded, decoded_done, decoded_refused}
use Rattle.walk.specs.Arena.Parts.{part}
use Rattle.walk.specs.Moves.{Above, top_after, above}
use Rattle.walk.specs.Arena.{Held}
use Rattle.walk.specs.Arena.Bytes.{held_shape}
use Rattle.walk.specs.Arena.Shapes.{empty_of}
use Rattle.walk.specs.Represents.{Represents, answer_by, refuse, then_done, then_refused, Had, had, not_had}
use Rattle.walk.specs.Arena.Cells.{Shown}
use Rattle.walk.specs.Arena.Frames.{frame_then, kept_frame}
use Rattle.walk.specs.Arena.Compound.{maker, Made, a_list, a_pair as a_pair_made}
use Rattle.walk.specs.Get as gets
use Rattle.walk.specs.Get.{Here, GotAt, Asks, ToldOf}
use Rattle.walk.specs.Get.Requires.{Sized}
use Rattle.walk.specs.Get.Case.{Case, lists, truths, splits, parts_of, PartsHeld, parts_held, held_above, parts_known}
use Rattle.walk.specs.Put.{Task, own, pair, inside, switch_at, with_defaults, run, Known, Wrote, PartsAt, SomeView, Given, Inner, PutHere}
use Rattle.walk.specs.Put.{put_further, PutAsked, PutAsks, PutTold, PutTells}
use Rattle.walk.specs.Put.Requires.{ready_for, get_ready, given_later, few}
use Rattle.walk.specs.Put.Under.{Under, got_parts}
use Rattle.walk.specs.Put.Switch.{Switching}

-- THE RULE, by the branch that the view takes

-- the value of one byte that a branch without variables stands for
unfoldable pub byte_value : ℕ → Value
byte_value zero = vfalse
byte_value (suc zero) = vtrue
byte_value (suc (suc i)) = list nil

unfoldable pub on_two : Env → (Value → Value → Explained Cells) → Explained Cells
on_two [] k = λ _. met (own_rule 43 none) 0
on_two (f ∷ []) k = λ _. met (own_rule 43 none) 0
on_two (f ∷ r ∷ μ) k = k f r

unfoldable pub put_branch : ℕ → Sheet → List ℕ → (n kind : ℕ) → Env → List ℕ → Value → Cells → Value → Branch → Explained Cells
put_branch l sh s n k μ σ v W o (Plain i byte) = both (put l sh) μ σ W (get_or s (n + i) 0) v (get_or s (n + 1) 0) (byte_value byte)
put_branch l sh s n k μ σ v W o (Parts i mid) = on_two (parts_of o) λ f r. under (put l sh) μ σ W (get_or s (n + i) 0) v (get_or s (n + 1) 0)
    (maker (made_of k)) f r
put_branch l sh s n k μ σ v W o Switch =
    with_defaults l sh (get_or s (n + 6) 0) (get_or s (n + 7) 0) v λ f r. under (put l sh) μ σ W (get_or s (n + 4) 0) v (get_or s (n + 1) 0) mk_list f r
put_branch l sh s n k μ σ v W o (Refused c) = λ _. met (own_rule (number_of c) none) 0

-- a choice by what the two tests say
unfoldable either : {A : Type 0} → Bool → Bool → Explained A → Explained A → Explained A
either true q x y = x
either false true x y = y
either false false x y = λ _. met (own_rule 53 none) 0

choose_by : {A : Type 0} {p q : Bool} (d : Dec (p ≡ true)) (e : Dec (q ≡ true)) (x y : Explained A) → choose d e x y ≡ either p q x y
unfolding choosing either
choose_by {p = true} (yes d) e x y = refl
choose_by {p = true} (no d) e x y = absurd (d refl)
choose_by {p = false} (yes d) e x y = absurd (let z : ◌≡◌ {A = ℕ} 0 1 = cc in omega arith)
choose_by {p = false} {q = true} (no d) (yes e) x y = refl
choose_by {p = false} {q = true} (no d) (no e) x y = absurd (e refl)
choose_by {p = false} {q = false} (no d) (yes e) x y = absurd (let z : ◌≡◌ {A = ℕ} 0 1 = cc in omega arith)
choose_by {p = false} {q = false} (no d) (no e) x y = refl

by_choice : (f : Branch → Explained Cells) → ((c : Refusal) → f (Refused c) ≡ (λ _. met (own_rule (number_of c) none) 0)) → (p q : Bool) (b c : Branch)
    → either p q (f b)
    (f c) ≡ f (choice p q b c)
unfolding either choice
by_choice f h true q b c = refl
by_choice f h false true b c = refl
by_choice f h false false b c = sym (h NoBranch)

module _ (l : ℕ) (sh : Sheet) (s : List ℕ) (n : ℕ) (μ : Env) (σ : List ℕ) (v : Value) (W : Cells) where
  chosen : (k : ℕ) (o : Value) (t u : ℕ) (b c : Branch) → choose (passes t v) (passes u v) (put_branch l sh s n k μ σ v W o b)
      (put_branch l sh s n k μ σ v W o c)
      ≡ put_branch l sh s n k μ σ v W o (choice (holds t v) (holds u v) b c)
  unfolding passes put_branch
  chosen k o t u b c = choose_by (passes t v) (passes u v) _ _ ∙ by_choice (put_branch l sh s n k μ σ v W o) (λ c. refl) (holds t v) (holds u v) b c

  list_rule : (o : Value)
      → (given 43 (as_list o) λ m.
      on_list m.0
      (choose (passes (get_or s (n + 3) 0) v) (passes (get_or s (n + 5) 0) v) (both (put l sh) μ σ W (get_or s (n + 2) 0) v (get_or s (n + 1) 0) (list nil))
      (with_defaults l sh (get_or s (n + 6) 0) (get_or s (n + 7) 0) v λ f r. under (put l sh) μ σ W (get_or s (n + 4) 0) v (get_or s (n + 1) 0) mk_list f r))
      (λ f r. choose (passes (get_or s (n + 5) 0) v) (passes (get_or s (n + 3) 0) v)
      (under (put l sh) μ σ W (get_or s (n + 4) 0) v (get_or s (n + 1) 0) mk_list f (list r))
      (both (put l sh) μ σ W (get_or s (n + 2) 0) v (get_or s (n + 1) 0) (list nil))))
      ≡ put_branch l sh s n 0x17 μ σ v W o (take_of 0x17 (shape o) (holds (get_or s (n + 3) 0) v) (holds (get_or s (n + 5) 0) v))
  unfolding put_branch byte_value on_two parts_of maker made_of take_of taken_from other_of fit_of fits_kind where_so shape wanted as_list on_list
  list_rule vfalse = refl
  list_rule vtrue = refl
  list_rule (list nil) = chosen 0x17 (list nil) (get_or s (n + 3) 0) (get_or s (n + 5) 0) (Plain 2 2) Switch
  list_rule (list (cons f r)) = chosen 0x17 (list (cons f r)) (get_or s (n + 5) 0) (get_or s (n + 3) 0) (Parts 4 (1 + size f)) (Plain 2 2)
  list_rule (number i) = refl
  list_rule (wide i) = refl
  list_rule (a_pair_of a b) = refl

  truth_rule : (o : Value)
      → (given 43 (as_truth o) λ b.
      choose (passes (Semantics.pick b.0 (get_or s (n + 3) 0) (get_or s (n + 5) 0)) v)
      (passes (Semantics.pick (not b.0) (get_or s (n + 3) 0) (get_or s (n + 5) 0)) v)
      (both (put l sh) μ σ W (Semantics.pick b.0 (get_or s (n + 2) 0) (get_or s (n + 4) 0)) v (get_or s (n + 1) 0) (truth b.0))
      (both (put l sh) μ σ W (Semantics.pick (not b.0) (get_or s (n + 2) 0) (get_or s (n + 4) 0)) v (get_or s (n + 1) 0) (truth (not b.0))))
      ≡ put_branch l sh s n 0x18 μ σ v W o (take_of 0x18 (shape o) (holds (get_or s (n + 3) 0) v) (holds (get_or s (n + 5) 0) v))
  unfolding put_branch byte_value take_of taken_from other_of fit_of fits_kind where_so shape wanted as_truth
  truth_rule vfalse = chosen 0x18 vfalse (get_or s (n + 3) 0) (get_or s (n + 5) 0) (Plain 2 0) (Plain 4 1)
  truth_rule vtrue = chosen 0x18 vtrue (get_or s (n + 5) 0) (get_or s (n + 3) 0) (Plain 4 1) (Plain 2 0)
  truth_rule (list nil) = refl
  truth_rule (list (cons f r)) = refl
  truth_rule (number i) = refl
  truth_rule (wide i) = refl
  truth_rule (a_pair_of a b) = refl

  split_rule : (o : Value) (p q : Bool) → (given 43 (as_pair o) λ c. under (put l sh) μ σ W (get_or s (n + 2) 0) v (get_or s (n + 1) 0) mk_pair c.0 c.1)
      ≡ put_branch l sh s n 0x19 μ σ v W o (take_of 0x19 (shape o) p q)
  unfolding put_branch on_two parts_of maker made_of take_of taken_from fit_of fits_kind where_so shape wanted as_pair
  split_rule vfalse p q = refl
  split_rule vtrue p q = refl
  split_rule (list nil) p q = refl
  split_rule (list (cons f r)) p q = refl
  split_rule (number i) p q = refl
  split_rule (wide i) p q = refl
  split_rule (a_pair_of a b) p q = refl

  -- once the subject is got
  module _ {P : (start len : ℕ) → Cells → Type 0} {r : Decoded} {left k : ℕ} (case : Case k) (x c : ℕ) where
    case_done : {o : Value} {i : ℕ} {q : Decoded} → within left (get l sh (get_or s (n + 1) 0) μ) ≡ got o i
        → Represents P q (left - i) (put_branch l sh s n k μ σ v W o (take_of k (shape o) (holds (get_or s (n + 3) 0) v) (holds (get_or s (n + 5) 0) v)))
        → r ≡ after i q → Represents P r left (run l sh c (own x k s n) μ σ v W)
    unfolding run Semantics.put_node with_defaults
    case_done {o} e t d = go case
      where
        go : Case k → Represents P r left (run l sh c (own x k s n) μ σ v W)
        go (lists f) = rw f (then_done _ _ e (answer_by (rw f at t) (list_rule o)) d)
        go (truths f) = rw f (then_done _ _ e (answer_by (rw f at t) (truth_rule o)) d)
        go (splits f) = rw f (then_done _ _ e (answer_by (rw f at t) (split_rule o _ _)) d)

    case_none : {e : Cause} {i : ℕ} → within left (get l sh (get_or s (n + 1) 0) μ) ≡ met e i → r ≡ Denied e
        → Represents P r left (run l sh c (own x k s n) μ σ v W)
    unfolding run Semantics.put_node
    case_none e d = go case
      where
        go : Case k → Represents P r left (run l sh c (own x k s n) μ σ v W)
        go (lists f) = rw f (then_refused _ _ e d)
        go (truths f) = rw f (then_refused _ _ e d)
        go (splits f) = rw f (then_refused _ _ e d)

-- THE SUBJECT

-- what the view and the tests say
pub shown_says : {view : List ℕ} {v : Value} (t : ℕ) → Shown view v → passes_bytes t view ≡ holds t v
shown_says t h = ap (passes_bytes t) h.bytes ∙ passes_whole t h.readable

-- the view of one byte
byte_shown : {k i byte : ℕ} {q : Shape} → Took k q (Plain i byte) → Shown (byte ∷ []) (byte_value byte)
unfolding byte_value encode encodes size sizes
byte_shown (emptied e) = record { bytes = refl; readable = record { fits = omega arith; encodable = e_list e_nil } }
byte_shown (denied e) = record { bytes = refl; readable = record { fits = omega arith; encodable = e_false } }
byte_shown (affirmed e) = record { bytes = refl; readable = record { fits = omega arith; encodable = e_true } }

made_of_lem : {k i mid : ℕ} {q : Shape} → FitsBranch k q (Parts i mid) → Made (made_of k)
made_of_lem (front e) = a_list (sym (made_list (λ y. omega (arith, e, y)) e))
made_of_lem (a_pair e) = a_pair_made (sym (made_pair (λ y. omega (arith, e, y)) (λ y. omega (arith, e, y))))

was_empty : {k : ℕ} {q : Shape} → Took k q Switch → q ≡ shapes.Empty
was_empty (switched e f) = f

code_said : (a : List ℕ) (l : ℕ) {k : ℕ} {q : Shape} {c : Refusal} → Took k q (Refused c) → decoded a l (number_of c) ≡ Own (number_of c)
code_said a l unfitted = refused_decoded a l (omega arith) (omega arith)
code_said a l unsaid = refused_decoded a l (omega arith) (omega arith)

took_fits : {k i mid : ℕ} {q : Shape} → Took k q (Parts i mid) → FitsBranch k q (Parts i mid)
took_fits (parted f) = f

-- a put's place, as a get has it
abbrev pub get_here : PutHere → Here
get_here h = record { sheet = h.sheet; table = h.table; arena = h.arena; scope = h.scope; top = h.top; left = h.left; levels = h.levels }

-- and behind the subject
abbrev pub put_behind : PutHere → List ℕ → ℕ → PutHere
put_behind h a g = put_further h a h.slots (top_after h.top (start_of g) (len_of g)) (h.left - steps_of g)

-- the nodes of a case
module _ (s : List ℕ) (sh : Sheet) (n : ℕ) where
  subject_known : {k : ℕ} → Case k → gets.Known sh (gets.own k s n) → get_or s (n + 1) 0 < length sh.nodes
  subject_known (lists e) r = (rw e at r.1).0.inside
  subject_known (truths e) r = (rw e at r.1).0.inside
  subject_known (splits e) r = (rw e at r.1).0.inside

  plain_known : {k i byte : ℕ} {q : Shape} → Took k q (Plain i byte) → gets.Known sh (gets.own k s n) → get_or s (n + i) 0 < length sh.nodes
  plain_known (emptied e) r = (rw e at r.1).1.0.inside
  plain_known (denied e) r = (rw e at r.1).1.0.inside
  plain_known (affirmed e) r = (rw e at r.1).1.1.1.0.inside

  switch_known : {k : ℕ} {q : Shape} → Took k q Switch → gets.Known sh (gets.own k s n) → Known sh (switch_at s n)
  switch_known (switched e f) r =
      let z = rw e at r.1 in
      ((z.1.1.1.0.inside, z.0.inside), (z.1.1.1.1.1.0.inside, z.1.1.1.1.1.1.0.inside))

module _ {h : PutHere} {view : List ℕ} {x k n : ℕ} (w : PutAsked h (Shown view) x k n) (case : Case k) where
  pub subject_asks : Asks (get_here h) (get_or h.sheet (n + 1) 0)
  subject_asks = get_ready w (subject_known h.sheet w.sheet.sh n case w.known.1) (omega arith) (omega arith)

  pub subject_refused : {a : List ℕ} {g : ℕ} → ToldOf (get_here h) a g (get_or h.sheet (n + 1) 0) → is_refusal g ≡ true
      → PutTells h (Shown view) a h.slots g x k n
  unfolding gets.run
  subject_refused {g = g} t e = let d = decoded_refused _ _ g e in record {
    frame = kept_frame t.kept w.base;
    long = refl;
    told = λ {sh} {μ} {σ} {v} {W} m. case_none h.levels sh h.sheet n μ σ v W case x h.count (not_had (t.told sh m.read μ m.scoped) d).1 d;
  }

-- AT A STAGE: the subject was got, as the answer g, is a value of the shape q, and the view takes the branch d
pub record PutSubject (h : PutHere) (view : List ℕ) (x k n g : ℕ) (a : List ℕ) (q : Shape) (d : Branch) : Type 0 where
  pub asked : PutAsked h (Shown view) x k n
  pub case : Case k
  pub gives : ToldOf (get_here h) a g (get_or h.sheet (n + 1) 0)
  pub sized : Sized h.top h.left h.levels g
  pub done : is_refusal g ≡ false
  pub shape : q ≡ shape_of (part a (start_of g) (len_of g))
  pub takes : d ≡ take_of k q (passes_bytes (get_or h.sheet (n + 3) 0) view) (passes_bytes (get_or h.sheet (n + 5) 0) view)
  pub took : Took k q d

module _ {h : PutHere} {view : List ℕ} {x k n g : ℕ} {a : List ℕ} {q : Shape} {d : Branch} (w : PutSubject h view x k n g a q d) where
  abbrev top' : ℕ
  top' = top_after h.top (start_of g) (len_of g)

  up : Above h.top (start_of g) (len_of g) top'
  up = above _ _ _ (w.sized.at w.done).low

  -- a task behind the subject
  behind_asks : {t : Task} → Known w.asked.sheet.sh t → PutAsks (put_behind h a g) (Shown view) t
  behind_asks known =
      let z : h.top + 513 * suc h.levels ≤ chain_start = w.asked.room in
      let s = w.sized.at w.done in
      let u = up in
      ready_for w.asked known (given_later w.asked.given w.gives.kept w.asked.base top' up.over) w.gives.kept.long (omega arith)
      (omega arith) up.over (omega arith)

  pub inner : Inner h.scope h.count h.levels
  inner =
      let y : h.scope.count + 2 * suc h.levels ≤ 112 = w.asked.variables in
      let z : h.count + 2 * suc h.levels ≤ 112 = w.asked.more_cells in
      record { some = (w.sized.at w.done).deep; variables = omega arith; more_cells = omega arith }

  takes_of : {o v : Value} {top : ℕ} → Held a top (start_of g) (len_of g) o → Shown view v
      → d ≡ take_of k (shape o) (holds (get_or h.sheet (n + 3) 0) v) (holds (get_or h.sheet (n + 5) 0) v)
  takes_of e m = w.takes ∙ ap (λ (y : Shape). take_of k y (passes_bytes (get_or h.sheet (n + 3) 0) view) (passes_bytes (get_or h.sheet (n + 5) 0) view))
      (held_shape e w.shape)
      ∙ ap₂ (take_of k _) (shown_says _ m) (shown_says _ m)

  -- what is told of the branch, with the task's answer p: the rule for the subject o
  told_by : {a₂ slots : List ℕ} {p r : ℕ} {t : Task} → PutAsks (put_behind h a g) (Shown view) t → PutTold (put_behind h a g) (Shown view) a₂ slots p t
      → r ≡ later_as p (steps_of g)
      → ((sh : Sheet) (μ : Env) (σ : List ℕ) (v : Value) (W : Cells) (o : Value) → Held a (h.top + len_of g) (start_of g) (len_of g) o
      → Given a h.slots h.sheet (Shown view) h.scope h.cells h.count h.count top' sh μ σ v W
      → Represents (Wrote a₂ slots h.count) (decoded a₂ h.levels p) (h.left - steps_of g) (put_branch h.levels sh h.sheet n k μ σ v W o d))
      → PutTells h (Shown view) a₂ slots r x k n
  unfolding gets.run
  told_by {a₂} {p = p} {r = r} asks t is rule =
      let s = w.sized.at w.done in
      let y : decoded a₂ h.levels r ≡ after (steps_of g) (decoded a₂ h.levels p) = ap (decoded _ _) is ∙ later_said _ _ p (steps_of g)
      (λ n. let z = (few asks t).at n in omega (arith, w.asked.few)) in
      record {
        frame = frame_then (kept_frame w.gives.kept w.asked.base) t.frame w.asked.base up.over;
        long = t.long;
        told = λ {sh} {μ} {σ} {v} {W} m.
            let o = had (w.gives.told sh m.read μ m.scoped) (decoded_done _ _ g w.done) in
            case_done h.levels sh h.sheet n μ σ v W w.case x h.count o.is
            (rw (← takes_of o.that.held m.shown)
            (rule sh μ σ v W o.value o.that.held (given_later m w.gives.kept w.asked.base top' up.over))) y;
      }

-- A BRANCH WITHOUT VARIABLES
module _ {h : PutHere} {view : List ℕ} {x k n g i byte : ℕ} {a : List ℕ} {q : Shape} (w : PutSubject h view x k n g a q (Plain i byte)) where
  pub plain_asks : (u : Value) → PutAsks (put_behind h a g) (Shown view) (pair (get_or h.sheet (n + i) 0) (get_or h.sheet (n + 1) 0) u)
  plain_asks u =
      let r = w.asked.known.1 in
      behind_asks w (plain_known h.sheet w.asked.sheet.sh n w.took r, subject_known h.sheet w.asked.sheet.sh n w.case r)

  pub plain_view : SomeView (byte ∷ [])
  plain_view = record { value = byte_value byte; shown = byte_shown w.took }

  pub plain_told : {a₂ slots : List ℕ} {p r : ℕ}
      → ((u : Value) → Shown (byte ∷ []) u
      → PutTold (put_behind h a g) (Shown view) a₂ slots p (pair (get_or h.sheet (n + i) 0) (get_or h.sheet (n + 1) 0) u))
      → r ≡ later_as p (steps_of g) → PutTells h (Shown view) a₂ slots r x k n
  unfolding run put_branch
  plain_told t is =
      let z = t _ (byte_shown w.took) in
      told_by w (plain_asks _) z is (λ sh μ σ v W o _ m. z.told m)

-- A BRANCH WITH TWO VARIABLES, the subject's parts
module _ {h : PutHere} {view : List ℕ} {x k n g i mid : ℕ} {a : List ℕ} {q : Shape} (w : PutSubject h view x k n g a q (Parts i mid)) where
  the_parts : {o : Value} → Held a (h.top + len_of g) (start_of g) (len_of g) o
      → PartsHeld a (top_after h.top (start_of g) (len_of g)) (start_of g) (len_of g) mid o
  the_parts {o} e = parts_held o (took_fits w.took) (held_shape e w.shape) (held_above (up w) e)

  parts_at : {o : Value} → (p : PartsHeld a (top_after h.top (start_of g) (len_of g)) (start_of g) (len_of g) mid o)
      → PartsAt a (top_after h.top (start_of g) (len_of g)) (start_of g + 1) (mid - 1) (len_of g - mid) p.f p.r
  parts_at p =
      let z : start_of g + 1 + (mid - 1) ≡ start_of g + mid = omega (arith, p.held.some) in
      record { one = p.held.first; two = rw z p.held.second }

  old_subject : Had (GotAt a h.top) (start_of g) (len_of g) (steps_of g)
      (within h.left (gets.run h.levels w.asked.sheet.sh (gets.enter (get_or h.sheet (n + 1) 0)) w.asked.env))
  old_subject = had (w.gives.told w.asked.sheet.sh w.asked.sheet.read w.asked.env w.asked.given.scoped) (decoded_done _ _ g w.done)

  old : PartsHeld a (top_after h.top (start_of g) (len_of g)) (start_of g) (len_of g) mid old_subject.value
  old = the_parts old_subject.that.held

  -- where the second part starts, for the code's sums
  pub parts_inside : (1 ≤ mid) × (mid ≤ len_of g)
  parts_inside = (old.held.some, old.held.inside)

  parts_task : Known w.asked.sheet.sh (inside (made_of k) (get_or h.sheet (n + i) 0) (get_or h.sheet (n + 1) 0) vfalse vfalse)
  parts_task =
      let f = took_fits w.took in
      let r = w.asked.known.1 in
      ((parts_known h.sheet w.asked.sheet.sh n f r, subject_known h.sheet w.asked.sheet.sh n w.case r), made_of_lem f)

  pub parts_under : Under (put_behind h a g) (Shown view) (got_parts (made_of k) (get_or h.sheet (n + i) 0) (get_or h.sheet (n + 1) 0) g mid)
  parts_under = record { asked = behind_asks w parts_task; inner = inner w; parts = record { f = _; r = _; parts = parts_at old } }

  pub parts_told : {a₂ slots : List ℕ} {p r : ℕ}
      → ((f u : Value) → PartsAt a (top_after h.top (start_of g) (len_of g)) (start_of g + 1) (mid - 1) (len_of g - mid) f u
      → PutTold (put_behind h a g) (Shown view) a₂ slots p (inside (made_of k) (get_or h.sheet (n + i) 0) (get_or h.sheet (n + 1) 0) f u))
      → r ≡ later_as p (steps_of g) → PutTells h (Shown view) a₂ slots r x k n
  unfolding run put_branch on_two
  parts_told t is =
      told_by w (behind_asks w parts_task) (t _ _ (parts_at old)) is
      (λ sh μ σ v W o e m. let p = the_parts e in rw p.are ((t _ _ (parts_at p)).told m))

-- A SWITCH to the branch with members
module _ {h : PutHere} {view : List ℕ} {x k n g : ℕ} {a : List ℕ} {q : Shape} (w : PutSubject h view x k n g a q Switch) where
  pub switch_asks : Switching (put_behind h a g) view n
  unfolding size sizes
  switch_asks =
      let d = had (w.gives.told w.asked.sheet.sh w.asked.sheet.read w.asked.env w.asked.given.scoped) (decoded_done _ _ g w.done) in
      let z : h.top + 513 * suc h.levels ≤ chain_start = w.asked.room in
      let e = empty_of d.value (sym (was_empty w.took) ∙ held_shape d.that.held w.shape) in
      let one = rw e at d.that.held.long in
      record {
        asked = behind_asks w (switch_known h.sheet w.asked.sheet.sh n w.took w.asked.known.1);
        inner = inner w;
        room = omega (arith, (up w).near);
      }

  pub switch_told : {a₂ slots : List ℕ} {p r : ℕ} → PutTold (put_behind h a g) (Shown view) a₂ slots p (switch_at h.sheet n) → r ≡ later_as p (steps_of g)
      → PutTells h (Shown view) a₂ slots r x k n
  unfolding run put_branch
  switch_told t is = told_by w switch_asks.asked t is (λ sh μ σ v W o _ m. t.told m)

-- NO BRANCH
module _ {h : PutHere} {view : List ℕ} {x k n g : ℕ} {a : List ℕ} {q : Shape} {c : Refusal} (w : PutSubject h view x k n g a q (Refused c)) where
  pub none_told : {r : ℕ} → r ≡ number_of c → PutTells h (Shown view) a h.slots r x k n
  unfolding gets.run put_branch after
  none_told {r} is =
      let y : decoded a h.levels r ≡ Own (number_of c) = ap (decoded _ _) is ∙ code_said a h.levels w.took in
      record {
        frame = kept_frame w.gives.kept w.asked.base;
        long = refl;
        told = λ {sh} {μ} {σ} {v} {W} m.
            let o = had (w.gives.told sh m.read μ m.scoped) (decoded_done _ _ g w.done) in
            case_done h.levels sh h.sheet n μ σ v W w.case x h.count {q = Own (number_of c)} o.is
            (rw (← takes_of w o.that.held m.shown) (refuse refl)) y;
      }
