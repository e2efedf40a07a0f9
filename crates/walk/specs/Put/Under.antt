-- Put into a branch that adds two variables, and the rebuilt subject into its node: what each return shows, and what the calls ask.
use Rattle.std.specs.Prelude.{◌≡◌, true, false, List, ◌++◌, ℕ, suc, ◌+◌, ◌-◌, ◌≤◌, length}
use Rattle.std.proofs.Common.{sym, ◌∙◌, append_assoc, le_refl, arith, length-set, length-append}
use Rattle.std.proofs.Math.Path.{ap}
use Rattle.std.proofs.Math.Option.{Option, none}
use Rattle.outcome.specs.Outcome.{is_refusal, later_as, len_of, start_of, steps_of}
use Rattle.value.specs.Value.{Value, vfalse}
use Rattle.sheet.specs.Sheet.{Sheet}
use Rattle.rules.specs.Semantics
use Rattle.rules.specs.Semantics.{Env, two}
use Rattle.rules.specs.Explain.{Cells, Putter, ◌>>=◌, under}
use Rattle.scopes.specs.declared.Scope.{Scope}
use Rattle.scopes.specs.Scopes.{added_two}
use Rattle.rules.specs.Numbers.{variable_limit}
use Rattle.walk.specs.Decoded.{after, later_said, decoded, decoded_done, decoded_refused}
use Rattle.walk.specs.declared.at.At.{At}
use Rattle.walk.specs.declared.putter.Parts.{Parts}
use Rattle.walk.specs.Scope.{with_two, two_pushed, Stored}
use Rattle.walk.specs.Arena.{env_push, below_ends}
use Rattle.walk.specs.Arena.Bytes.{held_some, held_short}
use Rattle.walk.specs.Represents.{answer_by, then_done, then_refused, had, not_had}
use Rattle.walk.specs.Arena.Frames.{frame_then, parts_framed}
use Rattle.walk.specs.Arena.CellLaws.{written_more, named_more}
use Rattle.walk.specs.Arena.Compound.{maker}
use Rattle.walk.specs.Put.{
  Task,
  enter,
  inside_of,
  rebuilt,
  rebuilt_of,
  rebuild,
  run,
  Any,
  PartsAt,
  SomeParts,
  Given,
  Ready,
  PutShows,
  Few,
  Inner,
  PutHere,
  put_within,
  PutAsks,
  PutTold,
}
use Rattle.walk.specs.Put.Requires.{ready_for, given_after}
use Rattle.walk.specs.Put.Two.{after_here}

-- a branch's put and then the rest of the rule, with the number of cells for the length of what was written
under_run : (p : Putter) (μ : Env) (σ : List ℕ) (W : Cells) (b : ℕ) (v : Value) (s : ℕ) (mk : Value → Value → Option Value) (f r : Value) (n : ℕ) → length W ≡ n
    → under p μ σ W b v s mk f r ≡ (p b (μ ++ two f r) (σ ++ two n (suc n)) v (W ++ two none none) >>= λ X. rebuild p μ σ n X s mk f r)
unfolding Semantics.under rebuild
under_run p μ σ W b v s mk f r n e = rw e

-- the parts of the subject that was got as the answer g, the second `mid` bytes behind its start
abbrev pub got_parts : (kind branch subject g mid : ℕ) → Parts
got_parts k x y g mid = record { kind = k; branch = x; subject = y; start = start_of g + 1; first = mid - 1; second = len_of g - mid }

-- by the numbers that the code has
pub got_parts_lem : (g mid : ℕ) {k k' x y start len : ℕ} → k ≡ k' → start ≡ start_of g → len ≡ len_of g
    → ◌≡◌ {A = Parts} (record { kind = k; branch = x; subject = y; start = start + 1; first = mid - 1; second = len - mid }) (got_parts k' x y g mid)
got_parts_lem g mid e f h = rw (e, f, h)

pub parts_as : {k x x' y y' start first first' second second' : ℕ} → x ≡ x' → y ≡ y' → first ≡ first' → second ≡ second'
    → ◌≡◌ {A = Parts} (record { kind = k; branch = x; subject = y; start = start; first = first; second = second })
    (record { kind = k; branch = x'; subject = y'; start = start; first = first'; second = second' })
parts_as e f g h = rw (e, f, g, h)

-- AT A STAGE: what `put_under` is asked
pub record Under (h : PutHere) (P : Value → Type 0) (p : Parts) : Type 0 where
  pub asked : PutAsks h P (inside_of p vfalse vfalse)
  pub inner : Inner h.scope h.count h.levels
  pub parts : SomeParts h.arena h.top p.start p.first p.second

module _ {h : PutHere} {P : Value → Type 0} {p : Parts} (w : Under h P p) where
  -- the branch: two variables and two blank cells more
  abbrev pub inner_here : PutHere
  inner_here = put_within h (with_two h.scope p.start p.first p.second) (added_two h.cells h.scope.count h.count (h.count + 1))
      (added_two h.slots h.count 0 0) (h.count + 2)

  -- there is room for them
  pub under_stored : (h.scope.count + 2 ≤ variable_limit) × Stored p.start p.first p.second
  under_stored =
      let i = w.inner in
      let q = w.parts.parts in
      let b = below_ends q.two.place w.asked.base in
      let r = w.asked.room in
      let s = held_some q.two in (
        omega (arith, i.variables, i.some),
        record { inside = omega arith; some = held_some q.one; short = held_short q.one; some' = s; short' = held_short q.two },
      )

  given_inner : {sh : Sheet} {μ : Env} {σ : List ℕ} {v f u : Value} {W : Cells}
      → Given h.arena h.slots h.sheet P h.scope h.cells h.count h.count h.top sh μ σ v W
      → PartsAt h.arena h.top p.start p.first p.second f u
      → Given h.arena inner_here.slots h.sheet P inner_here.scope inner_here.cells (h.count + 2) (h.count + 2) h.top sh (μ ++ two f u)
      (σ ++ two h.count (suc h.count)) v (W ++ two none none)
  given_inner g t =
      let i = w.inner in
      record {
        read = g.read;
        scoped = rw (two_pushed h.scope p.start p.first p.second)
            (rw append_assoc at (env_push (env_push g.scoped t.one (omega (arith, i.variables, i.some))) t.two
            (omega (arith, i.variables, i.some))));
        named = named_more g.named (g.scoped.count ∙ sym g.as_many) (omega (arith, i.variables, i.some));
        as_many = rw (length-append, length-append) (omega (arith, g.as_many));
        written = written_more g.written (omega (arith, i.more_cells, i.some));
        shown = g.shown;
      }

  pub under_asks₁ : PutAsks inner_here P (enter p.branch)
  under_asks₁ =
      let a = w.asked in
      let i = w.inner in
      record {
        long = a.long;
        few = a.few;
        base = a.base;
        room = a.room;
        variables = omega (arith, i.variables);
        more_cells = omega (arith, i.more_cells);
        sheet = a.sheet;
        known = a.known.0.0;
        env = _;
        names = _;
        value = _;
        cells_now = _;
        given = given_inner a.given w.parts.parts;
      }

  module _ {a₁ slots₁ : List ℕ} {r₁ : ℕ} (g₁ : PutTold inner_here P a₁ slots₁ r₁ (enter p.branch)) where
    long₁ : length slots₁ ≡ length h.slots
    long₁ = g₁.long ∙ simp length-set

    pub under_refused : is_refusal r₁ ≡ true → (f u : Value) → PartsAt h.arena h.top p.start p.first p.second f u
        → PutTold h P a₁ slots₁ r₁ (inside_of p f u)
    unfolding run
    under_refused e f u t = let d = decoded_refused _ _ r₁ e in record {
      frame = g₁.frame;
      long = long₁;
      told = λ {sh} {μ} {σ} {v} {W} g.
          answer_by (then_refused _ _ (not_had (g₁.told (given_inner g t)) d).1 d)
          (under_run _ μ σ W p.branch v p.subject (maker p.kind) f u h.count g.written.count);
    }

    module _ (e₁ : is_refusal r₁ ≡ false) where
      -- what is given to the rest
      given_rest : {sh : Sheet} {μ : Env} {σ : List ℕ} {v f u : Value} {W : Cells}
          (g : Given h.arena h.slots h.sheet P h.scope h.cells h.count h.count h.top sh μ σ v W)
          (t : PartsAt h.arena h.top p.start p.first p.second f u)
          → Given a₁ slots₁ h.sheet Any h.scope h.cells h.count (h.count + 2) h.top sh μ σ v
          (had (g₁.told (given_inner g t)) (decoded_done _ _ r₁ e₁)).value
      given_rest g t = given_after g g₁.frame (had (g₁.told (given_inner g t)) (decoded_done _ _ r₁ e₁)).that.written tt

      abbrev pub rest_here : PutHere
      rest_here = after_here h a₁ slots₁ r₁

      pub under_asks₂ : Ready h.sheet h.table a₁ slots₁ Any h.scope h.cells h.count (h.count + 2) h.top h.levels (h.left - steps_of r₁)
          (rebuilt_of p vfalse vfalse)
      under_asks₂ =
          let a = w.asked in
          ready_for a (a.known.0.1, a.known.1) (given_rest a.given w.parts.parts) g₁.frame.long (omega arith) (le_refl _) (le_refl _) a.room

      pub under_parts : SomeParts a₁ h.top p.start p.first p.second
      under_parts = record { f = w.parts.f; r = w.parts.r; parts = parts_framed g₁.frame h.top (le_refl _) w.parts.parts }

      pub under_told : {a₂ slots₂ : List ℕ} {r₂ r : ℕ} → Few h.left r₁ → Few (h.left - steps_of r₁) r₂
          → ((f u : Value) → PartsAt a₁ h.top p.start p.first p.second f u
          → PutShows a₁ a₂ slots₁ slots₂ h.sheet Any h.scope h.cells h.count (h.count + 2) h.top (h.left - steps_of r₁) r₂ h.levels
          (rebuilt_of p f u))
          → r ≡ later_as r₂ (steps_of r₁) → (f u : Value) → PartsAt h.arena h.top p.start p.first p.second f u
          → PutTold h P a₂ slots₂ r (inside_of p f u)
      unfolding run
      under_told {a₂} {r₂ = r₂} {r = r} few₁ few₂ g₂ e f u t =
          let g = g₂ f u (parts_framed g₁.frame h.top (le_refl _) t) in
          let d : decoded a₂ h.levels r ≡ after (steps_of r₁) (decoded a₂ h.levels r₂)
          = ap (decoded _ _) e ∙ later_said _ _ r₂ (steps_of r₁) (λ n. let y = few₂.at n in let x = few₁.at e₁ in omega (arith, w.asked.few)) in
          record {
            frame = frame_then g₁.frame g.frame w.asked.base (le_refl _);
            long = g.long ∙ long₁;
            told = λ {sh} {μ} {σ} {v} {W} m.
                answer_by (then_done _ _ (had (g₁.told (given_inner m t)) (decoded_done _ _ r₁ e₁)).is (g.told (given_rest m t)) d)
                (under_run _ μ σ W p.branch v p.subject (maker p.kind) f u h.count m.written.count);
          }

-- the same at a place and of parts by other names
module _ {at at' : At} {p p' : Parts} (e : at ≡ at') (i : p ≡ p') where
  pub some_at : {a : List ℕ} → SomeParts a at'.top p'.start p'.first p'.second → SomeParts a at.top p.start p.first p.second
  some_at w = rw (e, i) w

  pub under_ready : {s table a slots cells : List ℕ} {P : Value → Type 0} {sc : Scope}
      → Ready s table a slots P sc cells at'.cells at'.cells at'.top at'.levels at'.left (inside_of p' vfalse vfalse)
      → Ready s table a slots P sc cells at.cells at.cells at.top at.levels at.left (inside_of p vfalse vfalse)
  under_ready w = rw (e, i) w

  pub under_as : {b a slots slots' s cells : List ℕ} {P : Value → Type 0} {sc : Scope} {r : ℕ}
      → ((f u : Value) → PartsAt b at.top p.start p.first p.second f u
      → PutShows b a slots slots' s P sc cells at.cells at.cells at.top at.left r at.levels (inside_of p f u))
      → (f u : Value) → PartsAt b at'.top p'.start p'.first p'.second f u
      → PutShows b a slots slots' s P sc cells at'.cells at'.cells at'.top at'.left r at'.levels (inside_of p' f u)
  under_as w = rw (e, i) at w

-- and of what is rebuilt
module _ {at at' : At} (e : at ≡ at') where
  pub rest_ready : {s table a slots cells : List ℕ} {sc : Scope} {t : Task}
      → Ready s table a slots Any sc cells at'.cells (at'.cells + 2) at'.top at'.levels at'.left t
      → Ready s table a slots Any sc cells at.cells (at.cells + 2) at.top at.levels at.left t
  rest_ready w = rw e w

  pub rest_as : {b a slots slots' s cells : List ℕ} {sc : Scope} {start first second k y r : ℕ}
      → ((f u : Value) → PartsAt b at.top start first second f u
      → PutShows b a slots slots' s Any sc cells at.cells (at.cells + 2) at.top at.left r at.levels (rebuilt k y f u))
      → (f u : Value) → PartsAt b at'.top start first second f u
      → PutShows b a slots slots' s Any sc cells at'.cells (at'.cells + 2) at'.top at'.left r at'.levels (rebuilt k y f u)
  rest_as w = rw e at w
