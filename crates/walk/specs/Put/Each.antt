-- Each: what each return of put shows, and what its calls ask.
use Rattle.std.specs.Prelude.{◌≡◌, refl, true, false, List, ℕ, suc, ◌+◌, ◌-◌, ◌*◌, ◌≤◌, ◌<◌, length, get_or}
use Rattle.std.proofs.Common.{sym, ◌∙◌, arith}
use Rattle.std.proofs.Math.Path.{ap}
use Rattle.std.proofs.Math.Option.{none}
use Rattle.outcome.specs.Outcome.{is_refusal, later_as, len_of, start_of, steps_of}
use Rattle.value.specs.Value.{Value, vfalse, list}
use Rattle.value.proofs.Encoding.{size-encode, size_pos}
use Rattle.value.specs.Views.{as_list}
use Rattle.sheet.specs.Sheet.{Sheet}
use Rattle.sheet.specs.Table.{section_at}
use Rattle.rules.specs.Semantics
use Rattle.rules.specs.Semantics.{Env}
use Rattle.rules.specs.Explain.{Cells, get, put}
use Rattle.rules.specs.Numbers.{chain_start}
use Rattle.decisions.specs.Decisions.{unfit_rest}
use Rattle.walk.specs.Decoded.{Own, after, later_said, refused_decoded, decoded, decoded_done, decoded_refused}
use Rattle.walk.specs.declared.putter.Members.{Members}
use Rattle.walk.specs.Moves.{Above, top_after, above}
use Rattle.walk.specs.Arena.{Held}
use Rattle.walk.specs.Arena.Bytes.{View, elem_at, elem_none, no_list, a_list, unfit_no_list, fit_list}
use Rattle.walk.specs.Represents.{then_done, then_refused, give_some, give_none, had, not_had}
use Rattle.walk.specs.Members.{put_begin}
use Rattle.walk.specs.Get as gets
use Rattle.walk.specs.Get.{Asks, ToldOf}
use Rattle.walk.specs.Get.Requires.{Sized}
use Rattle.walk.specs.Get.Enter.{same_sheet}
use Rattle.walk.specs.Get.Case.{held_above}
use Rattle.walk.specs.Get.Call.{root_read, root_known}
use Rattle.walk.specs.Arena.Cells.{Shown}
use Rattle.walk.specs.Arena.Frames.{frame_refl, frame_then, kept_frame}
use Rattle.walk.specs.Put.{run, Any, Given, PutHere, PutAsked, PutTells}
use Rattle.walk.specs.Put.Requires.{ready_for, get_ready, given_later, given_shown}
use Rattle.walk.specs.Put.Case.{get_here}
use Rattle.walk.specs.Put.Member.{MembersAsked}
use Rattle.walk.specs.Put.Members.{SomeList, members_run, members_frugal, MembersTold}

-- THE VIEW, by its kind byte
view_none : {view : List ℕ} {v : Value} → Shown view v → unfit_rest 3 (get_or view 0 0) ≡ true → as_list v ≡ none
view_none {v = v} s e = no_list v (ap (λ (x : List ℕ). unfit_rest 3 (get_or x 0 0)) (sym s.bytes) ∙ e)

view_list : {view : List ℕ} {v : Value} → Shown view v → unfit_rest 3 (get_or view 0 0) ≡ false → View as_list v
view_list {v = v} s e = a_list v (ap (λ (x : List ℕ). unfit_rest 3 (get_or x 0 0)) (sym s.bytes) ∙ e)

module _ {h : PutHere} {view : List ℕ} {x k n : ℕ} (w : PutAsked h (Shown view) x k n) (each : k ≡ 0x1C) where
  pub view_some : 0 < length view
  view_some = let v = w.value in omega (arith, ap length w.given.shown.bytes, size-encode v, size_pos v)

  pub each_51 : {r : ℕ} → unfit_rest 3 (get_or view 0 0) ≡ true → r ≡ 51 → PutTells h (Shown view) h.arena h.slots r x k n
  unfolding run Semantics.put_node
  each_51 bad e = rw each (record {
    frame = frame_refl _ _;
    long = refl;
    told = λ m. give_none 51 _ (view_none m.shown bad) (ap (decoded _ _) e ∙ refused_decoded _ _ (omega arith) (omega arith));
  })

  pub each_asks : Asks (get_here h) (get_or h.sheet (n + 1) 0)
  each_asks = get_ready w (rw each at w.known.1.1).0.inside (omega arith) (omega arith)

  each_section : get_or h.sheet (n + 2) 0 < length w.sheet.sh.sections
  each_section = (rw each at w.known.1.1).1.0

  pub each_refused : {a : List ℕ} {g : ℕ} → unfit_rest 3 (get_or view 0 0) ≡ false → ToldOf (get_here h) a g (get_or h.sheet (n + 1) 0) → is_refusal g ≡ true
      → PutTells h (Shown view) a h.slots g x k n
  unfolding run Semantics.put_node gets.run
  each_refused {g = g} fit t e = let x = decoded_refused _ _ g e in rw each (record {
    frame = kept_frame t.kept w.base;
    long = refl;
    told = λ {sh} {μ} m. give_some 51 _ (view_list m.shown fit).is (then_refused _ _ (not_had (t.told sh m.read μ m.scoped) x).1 x);
  })

-- AT A STAGE: the view is a list, and the subject was got, as the answer g
pub record EachPut (h : PutHere) (view : List ℕ) (x k n g : ℕ) (a : List ℕ) : Type 0 where
  pub asked : PutAsked h (Shown view) x k n
  pub each : k ≡ 0x1C
  pub fit : unfit_rest 3 (get_or view 0 0) ≡ false
  pub gives : ToldOf (get_here h) a g (get_or h.sheet (n + 1) 0)
  pub sized : Sized h.top h.left h.levels g
  pub done : is_refusal g ≡ false

module _ {h : PutHere} {view : List ℕ} {x k n g : ℕ} {a : List ℕ} (w : EachPut h view x k n g a) where
  pub start_inside : start_of g < length a
  start_inside =
      let s = w.sized.at w.done in
      let z : h.top + 513 * suc h.levels ≤ chain_start = w.asked.room in
      omega (arith, w.gives.kept.long, w.asked.long)

  -- it is no list
  pub each_43 : {r : ℕ} → unfit_rest 3 (get_or a (start_of g) 0) ≡ true → r ≡ 43 → PutTells h (Shown view) a h.slots r x k n
  unfolding run Semantics.put_node gets.run after
  each_43 {r} bad is = rw w.each (record {
    frame = kept_frame w.gives.kept w.asked.base;
    long = refl;
    told = λ {sh} {μ} m.
        let d = had (w.gives.told sh m.read μ m.scoped) (decoded_done _ _ g w.done) in
        let x : decoded a h.levels r ≡ Own 43 = ap (decoded _ _) is ∙ refused_decoded _ _ (omega arith) (omega arith) in
        give_some 51 _ (view_list m.shown w.fit).is
        (then_done _ _ {q = Own 43} d.is (give_none 43 _ (unfit_no_list d.that.held bad) refl) x);
  })

  -- the variable is not in scope
  pub each_42 : {r : ℕ} → unfit_rest 3 (get_or a (start_of g) 0) ≡ false → h.scope.count ≤ get_or h.sheet (n + 3) 0 → r ≡ 42
      → PutTells h (Shown view) a h.slots r x k n
  unfolding run Semantics.put_node gets.run after
  each_42 {r} fit out is = rw w.each (record {
    frame = kept_frame w.gives.kept w.asked.base;
    long = refl;
    told = λ {sh} {μ} m.
        let d = had (w.gives.told sh m.read μ m.scoped) (decoded_done _ _ g w.done) in
        let x : decoded a h.levels r ≡ Own 42 = ap (decoded _ _) is ∙ refused_decoded _ _ (omega arith) (omega arith) in
        give_some 51 _ (view_list m.shown w.fit).is (then_done _ _ {q = Own 42} d.is
        (give_some 43 _ (fit_list d.that.held fit).is (give_none 42 _ (elem_none μ _ (omega (arith, m.scoped.count))) refl)) x);
  })

-- AT A STAGE: it is a list, the variable is in scope, and `root` is the section's
pub record EachListed (h : PutHere) (view : List ℕ) (x k n g : ℕ) (a : List ℕ) (root : ℕ) : Type 0 where
  pub got : EachPut h view x k n g a
  pub fit : unfit_rest 3 (get_or a (start_of g) 0) ≡ false
  pub inside : get_or h.sheet (n + 3) 0 < h.scope.count
  pub root_is : root ≡ section_at h.sheet (get_or h.sheet (n + 2) 0)

module _ {h : PutHere} {view : List ℕ} {x k n g : ℕ} {a : List ℕ} {root : ℕ} (w : EachListed h view x k n g a root) where
  abbrev asked : PutAsked h (Shown view) x k n
  asked = w.got.asked

  abbrev top' : ℕ
  top' = top_after h.top (start_of g) (len_of g)

  up : Above h.top (start_of g) (len_of g) top'
  up = above _ _ _ (w.got.sized.at w.got.done).low

  -- what its members are put by
  abbrev pub each_by : Members
  each_by = record {
    subject = get_or h.sheet (n + 1) 0;
    x = get_or h.sheet (n + 3) 0;
    root = root;
    default = get_or h.sheet (n + 4) 0;
    old = start_of g;
  }

  -- the subject's members stand there
  listed : {v : Value} (d : Held a (h.top + len_of g) (start_of g) (len_of g) v) → Held a top' (start_of g) (len_of g) (list (fit_list d w.fit).seen.0)
  listed d = rw (← (fit_list d w.fit).seen.1) (held_above up d)

  given_behind : {sh : Sheet} {μ : Env} {σ : List ℕ} {v : Value} {W : Cells}
      → Given h.arena h.slots h.sheet (Shown view) h.scope h.cells h.count h.count h.top sh μ σ v W
      → Given a h.slots h.sheet Any h.scope h.cells h.count h.count top' sh μ σ v W
  given_behind m = given_shown (given_later m w.got.gives.kept asked.base top' up.over) tt

  pub members_asks : MembersAsked h.sheet h.table a h.slots h.scope h.cells each_by h.count top' h.levels (h.left - steps_of g)
  members_asks =
      let x : h.scope.count + 2 * suc h.levels ≤ 112 = asked.variables in
      let y : h.count + 2 * suc h.levels ≤ 112 = asked.more_cells in
      let z : h.top + 513 * suc h.levels ≤ chain_start = asked.room in
      let s = w.got.sized.at w.got.done in
      let u = up in
      let known = simp w.got.each at asked.known.1.1 in
      let d = had (w.got.gives.told asked.sheet.sh asked.sheet.read asked.env asked.given.scoped) (decoded_done _ _ g w.got.done) in
      record {
        ready = ready_for asked (root_known asked.sheet (each_section asked w.got.each) w.root_is, known.1.1.1.0.inside)
            (given_behind asked.given) w.got.gives.kept.long (omega arith) (omega arith) up.over (omega arith);
        inner = record { some = s.deep; variables = omega arith; more_cells = omega arith };
        room = omega arith;
        subject = λ sh e. rw (← same_sheet asked.sheet e) known.0.inside;
        variable = w.inside;
        old = record { members = _; len = len_of g; held = listed d.that.held };
      }

  pub view_is : SomeList view
  view_is = let v = view_list asked.given.shown w.got.fit in record { members = v.seen.0; shown = rw v.seen.1 at asked.given.shown }

  pub each_told : {a₂ slots₂ : List ℕ} {q r : ℕ}
      → MembersTold h.sheet a a₂ h.slots slots₂ h.scope h.cells each_by view h.count top' h.levels (h.left - steps_of g) q
      → r ≡ later_as q (steps_of g) → PutTells h (Shown view) a₂ slots₂ r x k n
  unfolding run Semantics.put_node gets.run members_run
  each_told {a₂} {q = q} {r = r} t is = rw w.got.each (record {
    frame = frame_then (kept_frame w.got.gives.kept asked.base) t.frame asked.base up.over;
    long = t.long;
    told = λ {sh} {μ} {σ} {v} {W} m.
        let d = had (w.got.gives.told sh m.read μ m.scoped) (decoded_done _ _ g w.got.done) in
        let f = fit_list d.that.held w.fit in
        let l = view_list m.shown w.got.fit in
        let e = put_begin (get h.levels sh) (put h.levels sh) root each_by.default (get_or σ each_by.x 0) (get_or μ each_by.x vfalse) f.seen.0 W
        l.seen.0 in
        give_some 51 _ l.is (then_done _ _ d.is (give_some 43 _ f.is (give_some 42 _ (elem_at μ _ vfalse (omega (arith, m.scoped.count, w.inside)))
        (give_some 42 _ (elem_at σ _ 0 (omega (arith, m.as_many, m.scoped.count, w.inside)))
        (rw (← root_read asked.sheet (each_section asked w.got.each) w.root_is m.read, e)
        (t.told (given_behind m) (rw l.seen.1 at m.shown) (listed d.that.held)))))) after_all);
  })
    where
      after_all : decoded a₂ h.levels r ≡ after (steps_of g) (decoded a₂ h.levels q)
      after_all =
          let s = w.got.sized.at w.got.done in
          let y = members_asks in
          ap (decoded _ _) is ∙ later_said _ _ q (steps_of g) (λ f.
          let z : steps_of q ≤ h.left - steps_of g = (members_frugal h.levels y.ready.sheet.sh each_by y.ready.env y.ready.names
          y.old.members view_is.members
          y.ready.cells_now).few (h.left - steps_of g) (had (t.told y.ready.given view_is.shown y.old.held) (decoded_done _ _ q f)).is in omega
          (arith, asked.few))

-- by the numbers that the code has
pub by_as : {subject subject' x x' root default default' old old' : ℕ} → subject ≡ subject' → x ≡ x' → default ≡ default' → old ≡ old'
    → ◌≡◌ {A = Members} (record { subject = subject; x = x; root = root; default = default; old = old })
    (record { subject = subject'; x = x'; root = root; default = default'; old = old' })
by_as e f g i = rw (e, f, g, i)
