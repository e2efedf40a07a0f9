-- Whole walks and calls of a sheet that passed, for plans and views of the stated types (document 02, request 6).
use Rattle.std.specs.Prelude.{◌≡◌, refl, ◌⊎◌, Bool, true, false, List, [], ◌∷◌, ◌++◌, ℕ, suc, ◌-◌, length, get_or, replicate}
use Rattle.std.proofs.Math.Path.{ap}
use Rattle.std.proofs.Common.{inl, inr, append_assoc, arith, length-append}
use Rattle.std.proofs.Math.Option.{Option, none}
use Rattle.value.specs.All.{All}
use Rattle.value.specs.Value.{Value, Values, vfalse, vtrue, list, number, wide, pair, Encodable, Encodables, e_list, e_number, e_pair, e_nil, e_cons}
use Rattle.value.specs.Laws.{Readable}
use Rattle.value.proofs.Laws.{and-true}
use Rattle.node.specs.declared.Node.{Node}
use Rattle.node.specs.declared.Node.TheVariants.{Wide}
use Rattle.sheet.specs.Sheet.{Sheet}
use Rattle.sheet.specs.Laws.{Ranges}
use Rattle.rules.specs.Semantics
use Rattle.rules.specs.Semantics.{Env}
use Rattle.rules.specs.Counting as Count
use Rattle.rules.specs.Counting.{counting}
use Rattle.rules.specs.Explain.{Cause, Cell, Exit, met, explaining}
use Rattle.rules.specs.Explain.Erasure.{forget, strip, value_of}
use Rattle.rules.proofs.Explain.Erasure.{get_erases, put_erases}
use Rattle.rules.specs.Explain.Calls.{node}
use Rattle.rules.proofs.Explain.Calls.{strip_blank}
use Rattle.rules.specs.Numbers.{level_limit}
use Rattle.rules.specs.Outcome.{Out, done, refused}
use Rattle.rules.specs.Answer.{get_walk, put_walk, new_plan, count}
use Rattle.rules.specs.Laws.Related.{ends, more}
use Rattle.rules.proofs.Laws.Related.{all2_length, at_behind}
use Rattle.typing.specs.Types.{Ty, truths, numbers, lists, pairs, Of, Each, is_false, is_true, is_list, is_number, is_wide, is_pair, is_nil, is_cons}
use Rattle.typing.specs.Fits.{Lent, node_of, type_of, main_root, here, Reached, root, Passed}
use Rattle.typing.specs.Judging.{Judged, lacks, judging, Cells}
use Rattle.typing.proofs.JudgingLaws.{drop, get_same, put_same}
use Rattle.typing.specs.Ends.{Excuse, wide_got, wide_put, empty_put, Last, last, before, Allowed, plain, excused, Ends, well, ill}
use Rattle.typing.specs.Sound.{Scoped, CellOf, blank, full, Held, Named, At}
use Rattle.typing.proofs.Sound.{get_sound, put_sound}
use Rattle.typing.proofs.CheckLaws.{all_ranged}
use Rattle.typing.specs.Walks.{is_truth, If, numeric, each, list_of, pair_of, typed, typed_all, Permitted, plainly, with_excuse, Adds, adds, Empties}
use Rattle.typing.specs.Walks.{empties, Facts}

apart : {A : Type 0} → ◌≡◌ {A = ℕ} 0 1 → A
apart e = absurd (omega arith)

truth_of : {P : ℕ → Type 0} (v : Value) → is_truth v ≡ true → Of P truths v
unfolding is_truth
truth_of vfalse e = is_false
truth_of vtrue e = is_true
truth_of (list l) e = apart (cc)
truth_of (number n) e = apart (cc)
truth_of (wide n) e = apart (cc)
truth_of (pair a b) e = apart (cc)

numeric_of : (w : Bool) {v : Value} → Encodable v → numeric w v ≡ true → Of (If w) numbers v
unfolding numeric
numeric_of w Encodable.e_false e = apart (cc)
numeric_of w Encodable.e_true e = apart (cc)
numeric_of w (e_list l) e = apart (cc)
numeric_of w (e_number h) e = is_number h
numeric_of w (Encodable.e_wide h k) e = is_wide e
numeric_of w (e_pair a b) e = apart (cc)

module _ {P : ℕ → Type 0} (t : Ty) (p : Value → Bool) (h : (v : Value) → Encodable v → p v ≡ true → Of P t v) where
  each_of : {l : Values} → Encodables l → each p l ≡ true → Each P t l
  unfolding each
  each_of e_nil e = is_nil
  each_of (e_cons {v} {l} a b) e = let q = and-true (p v) (each p l) e in is_cons (h v a q.0) (each_of b q.1)

  list_of_lem : {v : Value} → Encodable v → list_of p v ≡ true → Of P (lists t) v
  unfolding list_of
  list_of_lem Encodable.e_false e = apart (cc)
  list_of_lem Encodable.e_true e = apart (cc)
  list_of_lem (e_list l) e = is_list (each_of l e)
  list_of_lem (e_number h) e = apart (cc)
  list_of_lem (Encodable.e_wide h k) e = apart (cc)
  list_of_lem (e_pair a b) e = apart (cc)

pair_of_lem : {P : ℕ → Type 0} (t u : Ty) (p q : Value → Bool) → ((v : Value) → Encodable v → p v ≡ true → Of P t v)
    → ((v : Value) → Encodable v → q v ≡ true → Of P u v) → {v : Value} → Encodable v → pair_of p q v ≡ true → Of P (pairs t u) v
unfolding pair_of
pair_of_lem t u p q h k Encodable.e_false e = apart (cc)
pair_of_lem t u p q h k Encodable.e_true e = apart (cc)
pair_of_lem t u p q h k (e_list l) e = apart (cc)
pair_of_lem t u p q h k (e_number n) e = apart (cc)
pair_of_lem t u p q h k (Encodable.e_wide n m) e = apart (cc)
pair_of_lem t u p q h k (e_pair {a} {b} x y) e = let z = and-true (p a) (q b) e in is_pair (h a x z.0) (k b y z.1)

-- a value that was read and passes the test is of the type
pub typed_of : (w : Bool) (t : Ty) (v : Value) → Encodable v → typed w t v ≡ true → Of (If w) t v
unfolding typed
typed_of w truths v h e = truth_of v e
typed_of w numbers v h e = numeric_of w h e
typed_of w (lists t) v h e = list_of_lem t (typed w t) (typed_of w t) h e
typed_of w (pairs a b) v h e = pair_of_lem a b (typed w a) (typed w b) (typed_of w a) (typed_of w b) h e

pub all_typed : (w : Bool) (ts : List Ty) {vs : List Value} → All Readable vs → typed_all w ts vs ≡ true → Scoped (If w) ts vs
unfolding typed_all
all_typed w [] All.none e = ends
all_typed w [] (All.each h hs) e = apart (cc)
all_typed w (t ∷ ts) All.none e = apart (cc)
all_typed w (t ∷ ts) (All.each {a = v} {l = vs} h hs) e =
    let q = and-true (typed w t v) (typed_all w ts vs) e in
    more (typed_of w t v h.encodable q.0) (all_typed w ts hs q.1)

permitted : {sh : Sheet} {P : ℕ → Type 0} {y : Cause} {v : Option Value} → Allowed sh P y v → Permitted sh P y.code
permitted (plain h) = plainly h
permitted (excused {n} l x) = with_excuse n x

-- it is not 42
excuse_42 : {P : ℕ → Type 0} {nd : Node} {c : ℕ} {v : Option Value} → Excuse P nd c v → c ≡ 42 → ⊥
excuse_42 (wide_got h) e = omega arith
excuse_42 (wide_put h) e = omega arith
excuse_42 empty_put e = omega arith

pub never_42 : {sh : Sheet} {P : ℕ → Type 0} {c : ℕ} → Permitted sh P c → c ≡ 42 → ⊥
never_42 (plainly h) = h.0
never_42 (with_excuse n x) = excuse_42 x

pub excuse_43 : {P : ℕ → Type 0} {nd : Node} {c : ℕ} {v : Option Value} → Excuse P nd c v → c ≡ 43 → Adds P nd v
excuse_43 (wide_got h) e = adds h
excuse_43 (wide_put h) e = absurd (omega arith)
excuse_43 empty_put e = absurd (omega arith)

-- 51: an add and an 06, or a 15 and an empty list
pub excuse_51 : {P : ℕ → Type 0} {nd : Node} {c : ℕ} {v : Option Value} → Excuse P nd c v → c ≡ 51 → Adds P nd v ⊎ Empties nd v
excuse_51 (wide_got h) e = absurd (omega arith)
excuse_51 (wide_put h) e = inl (adds h)
excuse_51 empty_put e = inr empties

no_adds : {nd : Node} {v : Option Value} → Adds (If false) nd v → ⊥
no_adds (adds e) = apart (cc)

-- with no 06 about there is no 43
pub never_43 : {sh : Sheet} {c : ℕ} → Permitted sh (If false) c → c ≡ 43 → ⊥
never_43 (plainly h) e = h.1 e
never_43 (with_excuse n x) e = no_adds (excuse_43 x e)

-- the node where a refusal was met
last_node : {n : ℕ} {l : List ℕ} → Last n l → get_or l (length l - 1) 0 ≡ n
last_node last = refl
last_node {n} (before {m} {ns} h) = go m ns h (last_node h)
  where
    go : (m : ℕ) (ms : List ℕ) → Last n ms → get_or ms (length ms - 1) 0 ≡ n → get_or (m ∷ ms) (length (m ∷ ms) - 1) 0 ≡ n
    go m (k ∷ ms) l e =
        let q : length (m ∷ k ∷ ms) - 1 ≡ suc (length ms) = omega arith in let z : length (k ∷ ms) - 1 ≡ length ms = omega arith in
        rw q (rw z at e)
    go m [] l e = elim l [ ]

pub facts : {sh : Sheet} {P : ℕ → Type 0} {y : Cause} {v : Option Value} → Allowed sh P y v → Facts sh P y v
facts (plain h) = record { not_42 = h.0; at_43 = λ e. absurd (h.1 e); at_51 = λ e. absurd (h.2 e) }
facts {sh} {P} {y} {v} (excused l x) = let z : Excuse P (node_of sh (node y)) y.code v = rw (last_node l) x in
    record { not_42 = excuse_42 x; at_43 = excuse_43 z; at_51 = excuse_51 z }

-- WHOLE WALKS

-- a plan's variables are the first cells, and hold nothing yet
plan_names : (xs Γ : List Ty) → Named (xs ++ Γ) Γ (count (length xs) (length Γ))
unfolding count
plan_names xs [] = ends
plan_names xs (t ∷ Γ) =
    let q : length (xs ++ t ∷ []) ≡ suc (length xs) = rw length-append (omega arith) in
    more (at_behind xs t Γ) (rw (q, append_assoc) at (plan_names (xs ++ t ∷ []) Γ))

plan_blank : {P : ℕ → Type 0} (Γ : List Ty) → Held P Γ (replicate (length Γ) none)
plan_blank [] = ends
plan_blank (t ∷ Γ) = more blank (plan_blank Γ)

new_cell : {P : ℕ → Type 0} {t : Ty} {o : Option Cell} {v : Value} → CellOf P t o → Of P t v → Of P t (Semantics.or_old counting (value_of o) v)
unfolding Semantics.or_old
new_cell blank h = h
new_cell (full k) h = k

new_typed : {P : ℕ → Type 0} {Γ : List Ty} {X : Cells} {μ : Env} → Held P Γ X → Scoped P Γ μ → Scoped P Γ (new_plan (strip X) μ)
unfolding new_plan
new_typed ends ends = ends
new_typed (more c h) (more o k) = more (new_cell c o) (new_typed h k)

-- the outcomes of the three readings
module _ {A : Type 0} {R : Cause → Option Value → Type 0} {Q : A → Type 0} where
  -- refused in the explaining reading: what the judging one adds
  ends_met : {j : Judged A} {t : Exit A} {y : Cause} {s : ℕ} → Ends R Q j → drop j ≡ t → t ≡ met y s → (v : Option Value) × (j ≡ lacks y v s) × R y v
  unfolding drop
  ends_met (well q) e z = apart (cc)
  ends_met {y} {s} (ill {y = x} {v} {s = r} h) e z =
      let a : x ≡ y = cc in let b : r ≡ s = cc in (v, cc, rw a at h)

module _ {A B : Type 0} {R : Cause → Option Value → Type 0} {Q : A → Type 0} where
  -- and in the counting one
  ends_refused : (f : A → B) {j : Judged A} {t : Exit A} {o : Out B} {c s : ℕ} → Ends R Q j → drop j ≡ t → forget f t ≡ o → o ≡ refused c s
      → (y : Cause) × (v : Option Value) × (y.code ≡ c) × R y v
  unfolding drop forget
  ends_refused f (well q) e i z = let k = ap (forget f) e in apart (cc)
  ends_refused f (ill {y} {v} h) e i z = let k = ap (forget f) e in (y, v, cc, h)

  ends_done : (f : A → B) {j : Judged A} {t : Exit A} {o : Out B} {b : B} {s : ℕ} → Ends R Q j → drop j ≡ t → forget f t ≡ o → o ≡ done b s
      → (a : A) × (f a ≡ b) × Q a
  unfolding drop forget
  ends_done f (well {a} q) e i z = let k = ap (forget f) e in (a, cc, q)
  ends_done f (ill h) e i z = let k = ap (forget f) e in apart (cc)

-- of a sheet that passed, whose numbers of kind 06 are of P, and a plan of the stated types
module _ {sh : Sheet} {ts : Lent} {P : ℕ → Type 0} {μ : Env} (rs : Ranges sh) (passed : Passed sh ts) (wides : (n w : ℕ) → node_of sh n ≡ Wide w → P w)
    (plan : Scoped P ts.plan μ) (left : ℕ) where
  its_root : Reached sh ts sh.root ts.plan
  its_root = root {r = main_root sh ts} here

  its_type : type_of ts sh.root ≡ ts.view
  its_type = (passed sh.root ts.plan its_root).placed (main_root sh ts) here refl

  get_ends : Ends (Allowed sh P) (Of P ts.view) (Semantics.get judging level_limit sh sh.root μ left)
  get_ends = rw its_type at ((get_sound sh ts P passed (all_ranged rs) wides level_limit sh.root ts.plan μ its_root plan).at left)

  -- GET: a list of the view's type, or a refusal of which this is known
  pub get_explained_met : {y : Cause} {s : ℕ} → Semantics.get explaining level_limit sh sh.root μ left ≡ met y s
      → (v : Option Value) × (Semantics.get judging level_limit sh sh.root μ left ≡ lacks y v s) × Facts sh P y v
  get_explained_met e = let q = ends_met get_ends ((get_same level_limit sh sh.root μ).same left) e in (q.0, q.1, facts q.2)

  pub get_walk-refused : {c s : ℕ} → get_walk left sh μ ≡ refused c s → Permitted sh P c
  unfolding get_walk
  get_walk-refused e =
      let q = ends_refused (λ v. v) get_ends ((get_same level_limit sh sh.root μ).same left) ((get_erases level_limit sh sh.root μ).same left) e in
      rw q.2 at (permitted q.3)

  pub get_walk-done : {v : Value} {s : ℕ} → get_walk left sh μ ≡ done v s → Of P ts.view v
  unfolding get_walk
  get_walk-done e =
      let q = ends_done (λ v. v) get_ends ((get_same level_limit sh sh.root μ).same left) ((get_erases level_limit sh sh.root μ).same left) e in
      rw q.1 at q.2

  -- PUT of a view of the stated type: a plan of the stated types, or such a refusal
  module _ {v : Value} (view : Of P ts.view v) where
    plan_at : At P ts.plan ts.plan μ (count 0 (length μ))
    plan_at = record { values = plan; cells = rw (all2_length plan) at (plan_names [] ts.plan) }

    plan_held : Held P ts.plan (replicate (length μ) none)
    plan_held = rw (all2_length plan) at (plan_blank {P = P} ts.plan)

    put_ends : Ends (Allowed sh P) (Held P ts.plan)
        (Semantics.put judging level_limit sh sh.root μ (count 0 (length μ)) v (replicate (length μ) none) left)
    put_ends = (put_sound sh ts P passed (all_ranged rs) wides level_limit sh.root ts.plan ts.plan μ (count 0 (length μ)) v (replicate (length μ) none)
        its_root plan_at (rw its_type view) plan_held).at left

    pub put_explained_met : {y : Cause} {s : ℕ}
        → Semantics.put explaining level_limit sh sh.root μ (count 0 (length μ)) v (replicate (length μ) none) left ≡ met y s
        → (u : Option Value) × (Semantics.put judging level_limit sh sh.root μ (count 0 (length μ)) v (replicate (length μ) none) left ≡ lacks y u s) × Facts sh
        P y u
    put_explained_met e =
        let q = ends_met put_ends ((put_same level_limit sh sh.root μ (count 0 (length μ)) v (replicate (length μ) none)).same left) e in
        (q.0, q.1, facts q.2)

    pub put_walk-refused : {c s : ℕ} → put_walk left sh μ v ≡ refused c s → Permitted sh P c
    unfolding put_walk
    put_walk-refused e =
        let q = ends_refused strip put_ends ((put_same level_limit sh sh.root μ (count 0 (length μ)) v (replicate (length μ) none)).same left)
        (rw (strip_blank (length μ)) at ((put_erases level_limit sh sh.root μ (count 0 (length μ)) v (replicate (length μ) none)).same left)) e in
        rw q.2 at (permitted q.3)

    pub put_walk-done : {X : Count.Cells} {s : ℕ} → put_walk left sh μ v ≡ done X s → Scoped P ts.plan (new_plan X μ)
    unfolding put_walk
    put_walk-done e =
        let q = ends_done strip put_ends ((put_same level_limit sh sh.root μ (count 0 (length μ)) v (replicate (length μ) none)).same left)
        (rw (strip_blank (length μ)) at ((put_erases level_limit sh sh.root μ (count 0 (length μ)) v (replicate (length μ) none)).same left)) e in
        rw q.1 at (new_typed q.2 plan)
