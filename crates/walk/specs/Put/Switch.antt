-- A switch to the non-empty branch: the two defaults are got in a scope of one variable, the view. What each return shows, and what the calls ask.
use Rattle.std.proofs.Math.Path.{◌≡◌, sym, ap}
use Rattle.std.specs.Prelude.{refl, List, [], ◌∷◌, ◌++◌, ℕ, ◌+◌, ◌-◌, ◌*◌, ◌≤◌, ◌<◌, length}
use Rattle.std.proofs.Common.{ap₂, ◌∙◌, le_refl}
use Rattle.std.proofs.Math.Bool.{true, false}
use Rattle.std.proofs.lemmas.Bool.{false≢true}
use native.Mathlib.Omega.{arith}
use Rattle.std.proofs.Math.ListN.{get_or}
use Rattle.std.proofs.Math.Seq.{paste}
use Rattle.outcome.specs.Outcome.{is_refusal, done_as, later_as, len_of, start_of, steps_of}
use Rattle.value.specs.Result.{ok}
use Rattle.value.specs.Value.{Value, encode, size}
use Rattle.value.proofs.Encoding.{size-encode, size_pos}
use Rattle.sheet.specs.Sheet.{Sheet, read_sheet}
use Rattle.rules.specs.Explain.{Cells, Explained, get, got, within}
use Rattle.rules.specs.Numbers.{allowance_limit, scratch_size, stack_start, chain_start}
use Rattle.scopes.specs.declared.Scope.{Scope}
use Rattle.decisions.specs.Decisions.{unfit_rest}
use Rattle.walk.specs.Decoded.{after_twice, Done, Own, Decoded, after, done_said, later_said, refused_decoded, decoded, decoded_done, decoded_refused}
use Rattle.walk.specs.declared.at.At.{At}
use Rattle.walk.specs.declared.putter.Parts.{Parts}
use Rattle.walk.specs.Arena.Parts.{SameBelow, kept_then, Copied, part_join, part_split}
use Rattle.walk.specs.Scope.{no_variable, pushed}
use Rattle.walk.specs.Arena.{on_stack, Scoped, Held, held_later, env_later, env_push}
use Rattle.walk.specs.Arena.Bytes.{unfit_no_list, fit_list}
use Rattle.walk.specs.Represents.{Represents, then_done, then_refused, give_some, give_none, had, not_had}
use Rattle.walk.specs.Arena.Cells.{Shown}
use Rattle.walk.specs.Arena.Frames.{frame_then, kept_frame}
use Rattle.walk.specs.Arena.CellLaws.{Filled, filled}
use Rattle.walk.specs.Arena.Compound.{maker, a_list}
use Rattle.walk.specs.Get as gets
use Rattle.walk.specs.Get.{Tabled, Here, Asks}
use Rattle.walk.specs.Get.Top.{AtTop}
use Rattle.walk.specs.Put.{inside, switch_at, with_defaults, run, Wrote, PartsAt, SomeView, Inner, PutHere, put_further, PutAsks, PutTold}
use Rattle.walk.specs.Put.Requires.{ready_for, given_later}
use Rattle.walk.specs.Put.Leaf.{shown_short}
use Rattle.walk.specs.Put.Under.{Under}

-- no variable stands for nothing
pub env_none : (a : List ℕ) (top : ℕ) → Scoped a no_variable top []
env_none a top = record { count = refl; starts_long = refl; lens_long = refl; each = λ i h. absurd (omega arith) }

-- the scope's one variable stands for v
abbrev pub Sees : List ℕ → Scope → ℕ → Value → Type 0
Sees a sc top v = Scoped a sc top (v ∷ [])

-- WHAT `two_defaults` ASKS, AND WHAT IT AND `defaults` GIVE

pub record BothAsked (s table a : List ℕ) (sc : Scope) (n top levels left : ℕ) : Type 0 where
  pub long : length a ≡ scratch_size
  pub few : left ≤ allowance_limit
  pub base : stack_start ≤ top
  pub room : top + 256 + 513 * levels ≤ chain_start
  pub variables : sc.count + 2 * levels ≤ 112
  pub sheet : Tabled s table
  pub known : (get_or s (n + 6) 0 < length sheet.sh.nodes) × (get_or s (n + 7) 0 < length sheet.sh.nodes)
  pub view : Value
  pub sees : Sees a sc top view

-- the two values that were got where the view is v, and how the walk goes on with them
pub record TwoDefaults (s : List ℕ) (n : ℕ) (a : List ℕ) (top levels left r : ℕ) (sh : Sheet) (v : Value) : Type 0 where
  pub f : Value
  pub u : Value
  pub parts : PartsAt a (top + start_of r + len_of r) top (start_of r) (len_of r) f u
  pub goes_on : (a₂ slots : List ℕ) (count : ℕ) {p q : Decoded} (k : Value → Value → Explained Cells)
      → Represents (Wrote a₂ slots count) p (left - steps_of r) (k f u)
      → q ≡ after (steps_of r) p
      → Represents (Wrote a₂ slots count) q left (with_defaults levels sh (get_or s (n + 6) 0) (get_or s (n + 7) 0) v k)

-- for whatever view P holds of
pub record Defaults (s : List ℕ) (n : ℕ) (P : Value → Type 0) (b a : List ℕ) (top levels left r : ℕ) : Type 0 where
  pub kept : SameBelow top b a
  pub refused : is_refusal r ≡ true → (sh : Sheet) → read_sheet s ≡ ok sh → {v : Value} → P v → (a₂ slots : List ℕ) (count : ℕ)
      (k : Value → Value → Explained Cells)
      → Represents (Wrote a₂ slots count) (decoded a levels r) left (with_defaults levels sh (get_or s (n + 6) 0) (get_or s (n + 7) 0) v k)
  pub done : is_refusal r ≡ false → (sh : Sheet) → read_sheet s ≡ ok sh → {v : Value} → P v → TwoDefaults s n a top levels left r sh v
  pub sizes : is_refusal r ≡ false → (start_of r ≤ 256) × (len_of r ≤ 256) × (steps_of r ≤ left)

-- where each is got
abbrev pub default_here : {s table a : List ℕ} {sc : Scope} {n top levels left : ℕ} → BothAsked s table a sc n top levels left → Here
default_here {s} {table} {a} {sc} {n} {top} {levels} {left} w =
    record { sheet = s; table = table; arena = a; scope = sc; top = top; left = left; levels = levels }

abbrev pub rest_here : {s table a : List ℕ} {sc : Scope} {n top levels left : ℕ} → BothAsked s table a sc n top levels left → List ℕ → ℕ → Here
rest_here {s} {table} {a} {sc} {n} {top} {levels} {left} w a₁ f =
    record { sheet = s; table = table; arena = a₁; scope = sc; top = top + len_of f; left = left - steps_of f; levels = levels }

module _ {s table b : List ℕ} {sc : Scope} {n top levels left : ℕ} (w : BothAsked s table b sc n top levels left) where
  pub default_asks₁ : Asks (default_here w) (get_or s (n + 6) 0)
  default_asks₁ = record {
    long = w.long;
    few = w.few;
    base = w.base;
    room = omega (arith, w.room);
    variables = w.variables;
    sheet = w.sheet;
    known = w.known.0;
    env = _;
    scoped = w.sees;
  }

  module _ {a₁ : List ℕ} {f : ℕ} (t₁ : AtTop (default_here w) a₁ f (get_or s (n + 6) 0)) where
    pub defaults_refused₁ : is_refusal f ≡ true → Defaults s n (Sees b sc top) b a₁ top levels left f
    unfolding gets.run with_defaults
    defaults_refused₁ e = let x = decoded_refused _ _ f e in record {
      kept = t₁.gives.kept;
      refused = λ _ sh es m a₂ slots count k. then_refused _ _ (not_had (t₁.gives.told sh es _ m) x).1 x;
      done = λ i. absurd (let z : true ≡ false = cc in let y : ◌≡◌ {A = ℕ} 0 1 = cc in omega arith);
      sizes = λ i. absurd (let z : true ≡ false = cc in let y : ◌≡◌ {A = ℕ} 0 1 = cc in omega arith);
    }

    -- the view is still there
    later : {v : Value} → Sees b sc top v → Sees a₁ sc (top + len_of f) v
    later = env_later t₁.gives.kept w.base (top + len_of f) (omega arith)

    module _ (e₁ : is_refusal f ≡ false) where
      pub default_asks₂ : Asks (rest_here w a₁ f) (get_or s (n + 7) 0)
      default_asks₂ =
          let z = t₁.sized.at e₁ in
          record {
            long = t₁.gives.kept.long ∙ w.long;
            few = omega (arith, w.few);
            base = omega (arith, w.base);
            room = omega (arith, w.room);
            variables = w.variables;
            sheet = w.sheet;
            known = w.known.1;
            env = _;
            scoped = later w.sees;
          }

      module _ {a₂ : List ℕ} {g : ℕ} (t₂ : AtTop (rest_here w a₁ f) a₂ g (get_or s (n + 7) 0)) where
        kept₂ : SameBelow top b a₂
        kept₂ = kept_then t₁.gives.kept t₂.gives.kept (omega arith)

        pub defaults_refused₂ : is_refusal g ≡ true → Defaults s n (Sees b sc top) b a₂ top levels left g
        unfolding gets.run with_defaults after
        defaults_refused₂ e = let x = decoded_refused a₂ levels g e in record {
          kept = kept₂;
          refused = λ _ sh es m a₃ slots count k.
              let d = had (t₁.gives.told sh es _ m) (decoded_done _ _ f e₁) in
              then_done _ _ {q = decoded a₂ levels g} d.is (then_refused _ _ (not_had (t₂.gives.told sh es _ (later m)) x).1 x)
              (x ∙ sym (ap (after (steps_of f)) x));
          done = λ i. absurd (let z : true ≡ false = cc in let y : ◌≡◌ {A = ℕ} 0 1 = cc in omega arith);
          sizes = λ i. absurd (let z : true ≡ false = cc in let y : ◌≡◌ {A = ℕ} 0 1 = cc in omega arith);
        }

        module _ (e₂ : is_refusal g ≡ false) where
          pub default_inside : top + len_of f < length a₂
          default_inside =
              let z = t₁.sized.at e₁ in
              omega (arith, t₂.gives.kept.long, t₁.gives.kept.long, w.long, w.room)

          pub defaults_43 : {r : ℕ} → unfit_rest 3 (get_or a₂ (top + len_of f) 0) ≡ true → r ≡ 43 → Defaults s n (Sees b sc top) b a₂ top levels left r
          unfolding gets.run with_defaults after
          defaults_43 {r} bad is =
              let x : decoded a₂ levels r ≡ Own 43 = ap (decoded _ _) is ∙ refused_decoded _ _ (omega arith) (omega arith) in
              record {
                kept = kept₂;
                refused = λ _ sh es m a₃ slots count k.
                    let d = had (t₁.gives.told sh es _ m) (decoded_done _ _ f e₁) in
                    let d' = had (t₂.gives.told sh es _ (later m)) (decoded_done _ _ g e₂) in
                    let y = ap (λ (i : ℕ). get_or a₂ i 0) (t₂.there e₂) in
                    then_done _ _ {q = Own 43} d.is (then_done _ _ {q = Own 43} d'.is
                    (give_none 43 _ (unfit_no_list d'.that.held (ap (unfit_rest 3) y ∙ bad)) refl) refl) x;
                done = λ i. absurd (let q = decoded_done a₂ levels r i in let y : ◌≡◌ {A = ℕ} 0 1 = cc in omega arith);
                sizes = λ i. absurd (let q = decoded_done a₂ levels r i in let y : ◌≡◌ {A = ℕ} 0 1 = cc in omega arith);
              }

          pub defaults_done : {r : ℕ} → unfit_rest 3 (get_or a₂ (top + len_of f) 0) ≡ false → r ≡ done_as (len_of f) (len_of g) (steps_of f + steps_of g)
              → Defaults s n (Sees b sc top) b a₂ top levels left r
          unfolding gets.run with_defaults after
          defaults_done {r} fit is =
              let z₁ = t₁.sized.at e₁ in
              let z₂ = t₂.sized.at e₂ in
              let x : decoded a₂ levels r ≡ Done (len_of f) (len_of g) (steps_of f + steps_of g) = ap (decoded _ _) is
              ∙ done_said _ _ _ _ _ (omega arith) (omega arith) (omega (arith, w.few)) in
              record {
                kept = kept₂;
                refused = λ i. absurd (let q = decoded_refused a₂ levels r i in let y : ◌≡◌ {A = ℕ} 0 1 = cc in omega arith);
                done = λ i sh es m.
                    let q = decoded_done a₂ levels r i in
                    let p₁ : start_of r ≡ len_of f = cc in
                    let p₂ : len_of r ≡ len_of g = cc in
                    let p₃ : steps_of r ≡ steps_of f + steps_of g = cc in
                    let d = had (t₁.gives.told sh es _ m) (decoded_done _ _ f e₁) in
                    let d' = had (t₂.gives.told sh es _ (later m)) (decoded_done _ _ g e₂) in
                    two_defaults sh _ p₁ p₂ p₃ d.value d'.value d.is d'.is d.that.held d'.that.held fit;
                sizes = λ i.
                    let q = decoded_done a₂ levels r i in
                    let p₁ : start_of r ≡ len_of f = cc in
                    let p₂ : len_of r ≡ len_of g = cc in
                    let p₃ : steps_of r ≡ steps_of f + steps_of g = cc in
                    (omega arith, omega arith, omega arith);
              }
            where
              two_defaults : {r : ℕ} (sh : Sheet) (x : Value) → start_of r ≡ len_of f → len_of r ≡ len_of g → steps_of r ≡ steps_of f + steps_of g →
                  (u v : Value)
                  → within left (get levels sh (get_or s (n + 6) 0) (x ∷ [])) ≡ got u (steps_of f)
                  → within (left - steps_of f) (get levels sh (get_or s (n + 7) 0) (x ∷ [])) ≡ got v (steps_of g)
                  → Held a₁ (top + len_of f) (start_of f) (len_of f) u → Held a₂ (top + len_of f + len_of g) (start_of g) (len_of g) v
                  → unfit_rest 3 (get_or a₂ (top + len_of f) 0) ≡ false
                  → TwoDefaults s n a₂ top levels left r sh x
              two_defaults {r} sh x p₁ p₂ p₃ u v is₁ is₂ h₁ h₂ fit = record {
                f = u;
                u = v;
                parts = rw (p₁, p₂) (record {
                  one = held_later t₂.gives.kept (omega (arith, w.base)) (top + len_of f + len_of g) (omega arith) (rw (t₁.there e₁) at h₁);
                  two = rw (t₂.there e₂) at h₂;
                });
                goes_on = λ a₃ slots count {p} k t d.
                    let z : left - steps_of r ≡ left - steps_of f - steps_of g = omega (arith, p₃) in
                    let y = ap (λ (i : ℕ). get_or a₂ i 0) (t₂.there e₂) in
                    then_done _ _ is₁ (then_done _ _ is₂ (give_some 43 _ (fit_list h₂ (ap (unfit_rest 3) y ∙ fit)).is (rw z at t)) refl)
                    (d ∙ ap (λ (i : ℕ). after i p) p₃ ∙ sym (after_twice (steps_of f) (steps_of g) p));
              }

-- WHAT `defaults` ASKS: there is room for the view, for a default and for the gets

pub record DefaultsAsked (s table a view : List ℕ) (n top levels left : ℕ) : Type 0 where
  pub long : length a ≡ scratch_size
  pub few : left ≤ allowance_limit
  pub base : stack_start ≤ top
  pub room : top + 512 + 513 * levels ≤ chain_start
  pub some : 1 ≤ levels
  pub deep : 1 + 2 * levels ≤ 112
  pub sheet : Tabled s table
  pub known : (get_or s (n + 6) 0 < length sheet.sh.nodes) × (get_or s (n + 7) 0 < length sheet.sh.nodes)
  pub view_is : SomeView view

shown_long : {view : List ℕ} {v : Value} → Shown view v → length view ≡ size v
shown_long {v = v} h = rw h.bytes (size-encode v)

module _ {s table b view : List ℕ} {n top levels left : ℕ} (w : DefaultsAsked s table b view n top levels left) where
  pub view_some : 1 ≤ length view
  view_some = omega (arith, shown_long w.view_is.shown, size_pos w.view_is.value)

  pub view_short : length view ≤ 256
  view_short = shown_short w.view_is.shown

  -- the view at the top, and its scope
  abbrev pub stored : List ℕ
  stored = paste b top view (length view)

  abbrev pub seen : Scope
  seen = pushed no_variable top (length view)

  fill : Filled top (length view) view b stored
  fill = filled b view top (omega (arith, w.long, w.room, view_short))

  sees_view : {v : Value} → Shown view v → Sees stored seen (top + length view) v
  sees_view h = env_push (env_none stored (top + length view)) (record {
    place = on_stack w.base (le_refl _);
    long = shown_long h;
    bytes = fill.bytes ∙ h.bytes;
    readable = h.readable;
  }) (omega arith)

  pub both_asked : BothAsked s table stored seen n (top + length view) levels left
  both_asked = record {
    long = fill.below.long ∙ w.long;
    few = w.few;
    base = omega (arith, w.base);
    room = omega (arith, w.room, view_short);
    variables = w.deep;
    sheet = w.sheet;
    known = w.known;
    view = _;
    sees = sees_view w.view_is.shown;
  }

  module _ {a₁ : List ℕ} {g : ℕ} (d : Defaults s n (Sees stored seen (top + length view)) stored a₁ (top + length view) levels left g) where
    kept_stored : SameBelow top b a₁
    kept_stored = kept_then fill.below d.kept (omega arith)

    pub view_refused : is_refusal g ≡ true → Defaults s n (Shown view) b a₁ top levels left g
    view_refused e = record {
      kept = kept_stored;
      refused = λ _ sh es m. d.refused e sh es (sees_view m);
      done = λ i. absurd (false≢true (sym i ∙ e));
      sizes = λ i. absurd (false≢true (sym i ∙ e));
    }

    module _ (e : is_refusal g ≡ false) where
      -- what bringing the defaults down asks
      pub down_fits : (top + length view + (start_of g + len_of g) ≤ length a₁) × (top + (start_of g + len_of g) ≤ length a₁)
      down_fits =
          let z = d.sizes e in
          let l : length a₁ ≡ scratch_size = kept_stored.long ∙ w.long in
          (omega (arith, w.room, w.some, view_short, z.0, z.1), omega (arith, w.room, z.0, z.1))

      pub view_done : {a₂ : List ℕ} → Copied (top + length view) top (start_of g + len_of g) a₁ a₂ → Defaults s n (Shown view) b a₂ top levels left g
      view_done {a₂} c = record {
        kept = kept_then kept_stored c.kept (le_refl _);
        refused = λ i. absurd (false≢true (sym e ∙ i));
        done = λ _ sh es m.
            let t = d.done e sh es (sees_view m) in
            record { f = t.f; u = t.u; parts = down t.parts; goes_on = t.goes_on };
        sizes = λ _. d.sizes e;
      }
        where
          down : {f u : Value} → PartsAt a₁ (top + length view + start_of g + len_of g) (top + length view) (start_of g) (len_of g) f u
              → PartsAt a₂ (top + start_of g + len_of g) top (start_of g) (len_of g) f u
          down {f} {u} p =
              let i = c.bytes ∙ part_join a₁ (top + length view) (start_of g) (len_of g) ∙ ap₂ ◌++◌ p.one.bytes p.two.bytes in
              let h = part_split a₂ (encode f) (encode u) top (start_of g) (len_of g) i (size-encode f ∙ sym p.one.long) in
              record {
                one = record { place = on_stack w.base (omega arith); long = p.one.long; bytes = h.0; readable = p.one.readable };
                two = record { place = on_stack (omega (arith, w.base)) (le_refl _); long = p.two.long; bytes = h.1; readable = p.two.readable };
              }

-- the same with an arena, in a scope and at a place by other names
module _ {a a' : List ℕ} {sc sc' : Scope} {at at' : At} (e : a ≡ a') (f : sc ≡ sc') (g : at ≡ at') where
  pub both_as : {s table : List ℕ} {n : ℕ} → BothAsked s table a' sc' n at'.top at'.levels at'.left
      → BothAsked s table a sc n at.top at.levels at.left
  both_as w = rw (e, f, g) w

  pub defaults_as : {s a₁ : List ℕ} {n r : ℕ} → Defaults s n (Sees a sc at.top) a a₁ at.top at.levels at.left r
      → Defaults s n (Sees a' sc' at'.top) a' a₁ at'.top at'.levels at'.left r
  defaults_as w = rw (e, f, g) at w

pub copied_as : {from from' to n n' : ℕ} {b a : List ℕ} → from ≡ from' → n ≡ n' → Copied from to n b a → Copied from' to n' b a
copied_as e f c = rw (e, f) at c

-- AT A STAGE: what `put_switch` is asked
pub record Switching (h : PutHere) (view : List ℕ) (n : ℕ) : Type 0 where
  pub asked : PutAsks h (Shown view) (switch_at h.sheet n)
  pub inner : Inner h.scope h.count h.levels
  pub room : h.top + 512 + 513 * h.levels ≤ chain_start

module _ {h : PutHere} {view : List ℕ} {n : ℕ} (w : Switching h view n) where
  pub defaults_asked : DefaultsAsked h.sheet h.table h.arena view n h.top h.levels h.left
  defaults_asked =
      let a = w.asked in
      record {
        long = a.long;
        few = a.few;
        base = a.base;
        room = omega (arith, w.room);
        some = w.inner.some;
        deep = omega (arith, w.inner.variables);
        sheet = a.sheet;
        known = a.known.1;
        view_is = record { value = _; shown = a.given.shown };
      }

  module _ {a₁ : List ℕ} {g : ℕ} (d : Defaults h.sheet n (Shown view) h.arena a₁ h.top h.levels h.left g) where
    pub switch_refused : is_refusal g ≡ true → PutTold h (Shown view) a₁ h.slots g (switch_at h.sheet n)
    unfolding run
    switch_refused e = record { frame = kept_frame d.kept w.asked.base; long = refl; told = λ {sh} m. d.refused e sh m.read m.shown _ _ _ _ }

    module _ (e : is_refusal g ≡ false) where
      abbrev pub switch_here : PutHere
      switch_here = put_further h a₁ h.slots (h.top + (start_of g + len_of g)) (h.left - steps_of g)

      parts_of : {sh : Sheet} {v : Value} → read_sheet h.sheet ≡ ok sh → (t : TwoDefaults h.sheet n a₁ h.top h.levels h.left g sh v)
          → PartsAt a₁ (h.top + (start_of g + len_of g)) h.top (start_of g) (len_of g) t.f t.u
      parts_of es t = let z : h.top + start_of g + len_of g ≡ h.top + (start_of g + len_of g) = omega arith in rw z at t.parts

      -- the defaults, as the parts of the subject
      abbrev pub switch_parts : Parts
      switch_parts = record {
        kind = 3;
        branch = get_or h.sheet (n + 4) 0;
        subject = get_or h.sheet (n + 1) 0;
        start = h.top;
        first = start_of g;
        second = len_of g;
      }

      pub switch_under : Under switch_here (Shown view) switch_parts
      switch_under =
          let a = w.asked in
          let z = d.sizes e in
          record {
            asked = ready_for a (a.known.0, a_list refl) (given_later a.given d.kept a.base (h.top + (start_of g + len_of g)) (omega arith))
                d.kept.long
                (omega arith) (le_refl _) (omega arith) (omega (arith, w.room));
            inner = w.inner;
            parts = record { f = _; r = _; parts = parts_of a.sheet.read (d.done e a.sheet.sh a.sheet.read a.given.shown) };
          }

      pub switch_told : {a₂ slots : List ℕ} {p r : ℕ}
          → ((f u : Value) → PartsAt a₁ (h.top + (start_of g + len_of g)) h.top (start_of g) (len_of g) f u
          → PutTold switch_here (Shown view) a₂ slots p (inside 3 (get_or h.sheet (n + 4) 0) (get_or h.sheet (n + 1) 0) f u))
          → (is_refusal p ≡ false → steps_of p ≤ h.left - steps_of g) → r ≡ later_as p (steps_of g) → PutTold h (Shown view) a₂ slots r (switch_at h.sheet n)
      unfolding run maker
      switch_told {a₂} {p = p} {r = r} g₂ fewer is =
          let a = w.asked in
          let t₀ = d.done e a.sheet.sh a.sheet.read a.given.shown in
          let g₀ = g₂ _ _ (parts_of a.sheet.read t₀) in
          let z = d.sizes e in
          let x : decoded a₂ h.levels r ≡ after (steps_of g) (decoded a₂ h.levels p) = ap (decoded _ _) is ∙ later_said _ _ p (steps_of g)
          (λ n. let y = fewer n in omega (arith, a.few)) in
          record {
            frame = frame_then (kept_frame d.kept a.base) g₀.frame a.base (omega arith);
            long = g₀.long;
            told = λ {sh} m.
                let t = d.done e sh m.read m.shown in
                t.goes_on _ _ _ _ ((g₂ _ _ (parts_of m.read t)).told (given_later m d.kept a.base (h.top + (start_of g + len_of g)) (omega arith))) x;
          }

-- the same at a place by another name
pub switch_room : {at at' : At} → at ≡ at' → at'.top + 512 + 513 * at'.levels ≤ chain_start → at.top + 512 + 513 * at.levels ≤ chain_start
switch_room e w = rw e w
