-- Each: what get shows at each return, and what its calls ask.
use Rattle.std.specs.Prelude.{◌≡◌, refl, Bool, true, false, List, ℕ, suc, ◌+◌, ◌-◌, ◌*◌, ◌≤◌, ◌<◌, length, get_or}
use Rattle.std.proofs.Math.Path.{ap}
use Rattle.std.proofs.Common.{◌∙◌, le_refl, arith}
use Rattle.outcome.specs.Outcome.{is_refusal, later_as, len_of, start_of, steps_of, len_small, steps_small}
use Rattle.value.specs.Value.{Value, Values, vfalse, list}
use Rattle.sheet.specs.Table.{section_at}
use Rattle.rules.specs.Semantics
use Rattle.rules.specs.Semantics.{Env}
use Rattle.rules.specs.Numbers.{scratch_size, stack_start, chain_start}
use Rattle.scopes.specs.declared.Scope.{Scope}
use Rattle.decisions.specs.Decisions.{unfit_rest}
use Rattle.walk.specs.Decoded.{Own, after, done_said, later_said, refused_decoded, decoded, decoded_done, decoded_refused}
use Rattle.walk.specs.declared.at.At.{At}
use Rattle.walk.specs.Arena.Parts.{kept_below, kept_then}
use Rattle.walk.specs.Moves.{Above, top_after, above}
use Rattle.walk.specs.Arena.{Held, Scoped, env_later}
use Rattle.walk.specs.Arena.Bytes.{elem_at, elem_none, held_short, unfit_no_list, fit_list}
use Rattle.walk.specs.Members.{onto, front_sizes, get_from}
use Rattle.walk.specs.Represents.{as_done, as_refused, then_done, then_refused, give_some, give_none, had, not_had}
use Rattle.walk.specs.Get.{Task, members, run, GetShows, Here, Asked, Asks, Tells, ToldOf}
use Rattle.walk.specs.Get.Requires.{ready_later, few_steps, first_asks, Sized}
use Rattle.walk.specs.Get.Top.{Movable, Brought}
use Rattle.walk.specs.Get.Branch.{stands_moved}
use Rattle.walk.specs.Get.Case.{behind_here, held_above}
use Rattle.walk.specs.Get.Call.{root_read, root_known}
use Rattle.walk.specs.Get.Members.{MembersAsked, MembersTold, AsksMembers, TellsMembers}

-- A LIST BROUGHT DOWN from where it was got to `top`, whatever it is
brought_down : {b a a₂ s : List ℕ} {sc : Scope} {from top left g r l : ℕ} {t : Task} → stack_start ≤ top → top ≤ from → GetShows b a s sc from from left g l t
    → Brought top g a a₂ r → GetShows b a₂ s sc from top left r l t
brought_down {b} {a} {a₂} {s} {sc} {from} {top} {left} {g} {r} {l} {t} base down h m = go (is_refusal g) refl
  where
    go : (p : Bool) → is_refusal g ≡ p → GetShows b a₂ s sc from top left r l t
    go true e =
        let q = m.refused e in
        let x = decoded_refused _ _ g e in
        rw (q.0, q.1) (record { kept = kept_below h.kept top down; told = λ sh es μ w. as_refused (not_had (h.told sh es μ w) x).1 x })
    go false e =
        let n = m.moved e in
        record {
          kept = kept_then (kept_below h.kept top down) n.copied.kept (le_refl top);
          told = λ sh es μ w.
              let q = had (h.told sh es μ w) (decoded_done _ _ g e) in
              as_done q.is (ap (decoded _ _) n.is ∙ done_said _ _ _ _ _ n.low (len_small g) (steps_small g))
              (stands_moved q.value base n.copied q.that);
        }

module _ {h : Here} {k n : ℕ} (w : Asked h k n) (each : k ≡ 0x1C) where
  pub each_asks : Asks h (get_or h.sheet (n + 1) 0)
  each_asks = first_asks w (rw each at w.known.1).0.inside

  each_section : get_or h.sheet (n + 2) 0 < length w.sheet.sh.sections
  each_section = (rw each at w.known.1).1.0

  pub each_refused : {a : List ℕ} {g : ℕ} → ToldOf h a g (get_or h.sheet (n + 1) 0) → is_refusal g ≡ true → Tells h a g k n
  unfolding run Semantics.get_node
  each_refused {g = g} t e = let x = decoded_refused _ _ g e in
      rw each (record { kept = t.kept; told = λ sh es μ m. then_refused _ _ (not_had (t.told sh es μ m) x).1 x })

-- AT A STAGE: the subject was got, as the answer g
pub record EachGot (h : Here) (k n g : ℕ) (a : List ℕ) : Type 0 where
  pub asked : Asked h k n
  pub each : k ≡ 0x1C
  pub gives : ToldOf h a g (get_or h.sheet (n + 1) 0)
  pub sized : Sized h.top h.left h.levels g
  pub done : is_refusal g ≡ false

module _ {h : Here} {k n g : ℕ} {a : List ℕ} (w : EachGot h k n g a) where
  pub start_inside : start_of g < length a
  start_inside =
      let s = w.sized.at w.done in
      let z : h.top + 513 * suc h.levels ≤ chain_start = w.asked.room in
      omega (arith, w.gives.kept.long, w.asked.long)

  -- it is no list
  pub each_43 : {r : ℕ} → unfit_rest 3 (get_or a (start_of g) 0) ≡ true → r ≡ 43 → Tells h a r k n
  unfolding run Semantics.get_node after
  each_43 {r} bad is = rw w.each (record {
    kept = w.gives.kept;
    told = λ sh es μ m.
        let d = had (w.gives.told sh es μ m) (decoded_done _ _ g w.done) in
        let x : decoded a h.levels r ≡ Own 43 = ap (decoded _ _) is ∙ refused_decoded _ _ (omega arith) (omega arith) in
        then_done _ _ {q = Own 43} d.is (give_none _ _ (unfit_no_list d.that.held bad) refl) x;
  })

  -- the variable is not in scope
  pub each_42 : {r : ℕ} → unfit_rest 3 (get_or a (start_of g) 0) ≡ false → h.scope.count ≤ get_or h.sheet (n + 3) 0 → r ≡ 42 → Tells h a r k n
  unfolding run Semantics.get_node after
  each_42 {r} fit out is = rw w.each (record {
    kept = w.gives.kept;
    told = λ sh es μ m.
        let d = had (w.gives.told sh es μ m) (decoded_done _ _ g w.done) in
        let x : decoded a h.levels r ≡ Own 42 = ap (decoded _ _) is ∙ refused_decoded _ _ (omega arith) (omega arith) in
        then_done _ _ {q = Own 42} d.is (give_some _ _ (fit_list d.that.held fit).is (give_none _ _ (elem_none μ _ (omega (arith, m.count))) refl)) x;
  })

-- AT A STAGE: it is a list, the variable is in scope, and `root` is the section's
pub record Listed (h : Here) (k n g : ℕ) (a : List ℕ) (root : ℕ) : Type 0 where
  pub got : EachGot h k n g a
  pub fit : unfit_rest 3 (get_or a (start_of g) 0) ≡ false
  pub inside : get_or h.sheet (n + 3) 0 < h.scope.count
  pub root_is : root ≡ section_at h.sheet (get_or h.sheet (n + 2) 0)

module _ {h : Here} {k n g : ℕ} {a : List ℕ} {root : ℕ} (w : Listed h k n g a root) where
  abbrev asked : Asked h k n
  asked = w.got.asked

  abbrev x : ℕ
  x = get_or h.sheet (n + 3) 0

  abbrev top' : ℕ
  top' = top_after h.top (start_of g) (len_of g)

  up : Above h.top (start_of g) (len_of g) top'
  up = above _ _ _ (w.got.sized.at w.got.done).low

  env₂ : {μ : Env} → Scoped h.arena h.scope h.top μ → Scoped a h.scope top' μ
  env₂ m = env_later w.got.gives.kept asked.base top' up.over m

  -- the subject's members stand behind it
  listed : {v : Value} (d : Held a (h.top + len_of g) (start_of g) (len_of g) v)
      → Held a top' (start_of g) (start_of g + len_of g - start_of g) (list (fit_list d w.fit).seen.0)
  listed d = let z : start_of g + len_of g - start_of g ≡ len_of g = omega arith in rw (z, ← (fit_list d w.fit).seen.1) (held_above up d)

  -- what `get_members` asks
  pub members_asks : AsksMembers (behind_here h a g) x root (start_of g) (start_of g + len_of g)
  members_asks =
      let y : h.scope.count + 2 * suc h.levels ≤ 112 = asked.variables in
      let z : h.top + 513 * suc h.levels ≤ chain_start = asked.room in
      let s = w.got.sized.at w.got.done in
      let u = up in
      let d = had (w.got.gives.told asked.sheet.sh asked.sheet.read asked.env asked.scoped) (decoded_done _ _ g w.got.done) in
      record {
        asked = ready_later asked w.got.gives.kept top' h.levels (h.left - steps_of g) up.over (omega (arith, asked.few)) (omega arith)
            (omega arith) (root_known asked.sheet (each_section asked w.got.each) w.root_is);
        room = omega arith;
        inside = w.inside;
        narrow = omega arith;
        some = _;
        held = listed d.that.held;
      }

  module _ {a₂ : List ℕ} {m : ℕ} (t : TellsMembers (behind_here h a g) a₂ m x root (start_of g) (start_of g + len_of g)) where
    -- what `bring` asks
    pub list_movable : is_refusal m ≡ false → Movable a₂ h.top m
    list_movable e =
        let q = members_asks in
        let p = t.told q.held in
        let d = had (p.told q.asked.sheet.sh q.asked.sheet.read q.asked.env q.asked.scoped) (decoded_done _ _ m e) in
        let s = held_short d.that.held in
        let low = d.that.low in
        let u = up in
        let long : length a₂ ≡ scratch_size = p.kept.long ∙ q.asked.long in
        let room : top' + 256 + 513 * h.levels ≤ chain_start = q.room in
        let z : h.top + 513 * suc h.levels ≤ chain_start = asked.room in
        record { inside = omega arith; room = omega arith; low = omega arith }

    -- what is told
    pub each_told : {a₃ : List ℕ} {q r : ℕ} → Brought h.top m a₂ a₃ q → r ≡ later_as q (steps_of g) → Tells h a₃ r k n
    unfolding run Semantics.get_node get_from front_sizes onto
    each_told {a₃} {q} {r} b is = rw w.got.each (record {
      kept = kept_then w.got.gives.kept (down members_asks.held).kept (le_refl _);
      told = λ sh es μ e.
          let d = had (w.got.gives.told sh es μ e) (decoded_done _ _ g w.got.done) in
          let f = fit_list d.that.held w.fit in
          let o = down (listed d.that.held) in
          then_done _ _ d.is (give_some _ _ f.is (give_some _ _ (elem_at μ _ vfalse (omega (arith, e.count, w.inside)))
          (rw (← root_read asked.sheet (each_section asked w.got.each) w.root_is es) (o.told sh es μ (env₂ e))))) after_all;
    })
      where
        down : {ms : Values} → Held a top' (start_of g) (start_of g + len_of g - start_of g) (list ms)
            → GetShows a a₃ h.sheet h.scope top' h.top (h.left - steps_of g) q h.levels (members x root ms)
        down v = brought_down asked.base up.over (t.told v) b

        after_all : decoded a₃ h.levels r ≡ after (steps_of g) (decoded a₃ h.levels q)
        after_all =
            let s = w.got.sized.at w.got.done in
            let y = members_asks in
            ap (decoded _ _) is ∙ later_said _ _ q (steps_of g) (λ f. let z = few_steps y.asked (down y.held) f in omega (arith, asked.few))

-- AT THE PLACE and by the numbers that the code has
module _ {at at' : At} {x x' start start' end end' : ℕ} (e : at ≡ at') (f : x ≡ x') (p : start ≡ start') (q : end ≡ end') where
  pub members_as : {s table a : List ℕ} {sc : Scope} {root : ℕ} → MembersAsked s table a sc at'.top at'.levels at'.left x' root start' end'
      → MembersAsked s table a sc at.top at.levels at.left x root start end
  members_as w = rw (e, f, p, q) w

  pub told_members_as : {b a s : List ℕ} {sc : Scope} {r root : ℕ} → MembersTold b a s sc at.top at.left r at.levels x root start end
      → MembersTold b a s sc at'.top at'.left r at'.levels x' root start' end'
  told_members_as t = rw (e, f, p, q) at t
