-- The new plan, gathered: each variable's value from where it now stands, one after another from byte 32,256 on. And the first cells.
use Rattle.std.specs.Prelude.{◌≡◌, refl, List, [], ◌∷◌, ◌++◌, ℕ, ◌+◌, ◌*◌, ◌≤◌, ◌<◌, length, take, get_or, set, replicate}
use Rattle.std.proofs.Common.{sym, ap, ap₂, ◌∙◌, append_assoc, append-nil, le_refl, add-one, arith, length-take-le, take-suc}
use Rattle.value.specs.Value.{Value, vfalse, encode, flat}
use Rattle.value.specs.Laws.{Readable}
use Rattle.value.specs.Spans.{places, starts}
use Rattle.value.proofs.Progress.{starts_filled}
use Rattle.rules.specs.Numbers.{scratch_size, stack_start, variable_limit}
use Rattle.scopes.specs.declared.Scope.{Scope}
use Rattle.scopes.specs.declared.Span.{Span}
use Rattle.scopes.specs.Scopes.{When, place_of, nowhere}
use Rattle.starts.specs.declared.NewPlan.{NewPlan}
use Rattle.starts.specs.NewPlan.{plan_of, grown_by, grown_one}
use Rattle.walk.specs.Arena.Parts.{part, SameBelow, Copied, part_length, part_kept, part_join, kept_refl, kept_then}
use Rattle.walk.specs.Scope.{Spanning}

-- the bytes of v, below the stack
pub record Rests (a : List ℕ) (p : Span) (v : Value) : Type 0 where
  pub bytes : part a p.start p.len ≡ encode v
  pub readable : Readable v
  pub short : p.len ≤ 256
  pub inside : p.start + p.len ≤ stack_start

-- the variables now stand for ws
pub record Placed (a slots : List ℕ) (sc : Scope) (ws : List Value) : Type 0 where
  pub count : sc.count ≡ length ws
  pub few : length ws ≤ 16
  pub long : length a ≡ scratch_size
  pub each : (i : ℕ) → i < length ws → Rests a (place_of (get_or slots i 0) i (get_or sc.starts i 0) (get_or sc.lens i 0 + 1)) (get_or ws i vfalse)

pub record SomePlaced (a slots : List ℕ) (sc : Scope) : Type 0 where
  pub values : List Value
  pub placed : Placed a slots sc values

-- i of them are gathered, in `len` bytes, and ss has their starts
pub record Gathered (i : ℕ) (slots : List ℕ) (sc : Scope) (b a : List ℕ) (len : ℕ) (ss : List ℕ) : Type 0 where
  pub kept : SameBelow stack_start b a
  pub short : len ≤ 256 * i
  pub told : {ws : List Value} → Placed b slots sc ws → part a stack_start len ≡ flat (take i ws)
  pub starting : {ws : List Value} → Placed b slots sc ws → ss ≡ places (starts 0 (take i ws))

pub record AllGathered (slots : List ℕ) (sc : Scope) (b a : List ℕ) (r : NewPlan) : Type 0 where
  pub count : r.starts.count ≡ sc.count
  pub all : Gathered sc.count slots sc b a r.len r.starts.at

pub gathered_none : {slots : List ℕ} {sc : Scope} (b : List ℕ) → Gathered 0 slots sc b b 0 (replicate 16 0)
unfolding flat places starts
gathered_none b = record { kept = kept_refl stack_start b; short = omega arith; told = λ _. refl; starting = λ _. refl }

flat_snoc : (ws : List Value) (v : Value) → flat (ws ++ (v ∷ [])) ≡ flat ws ++ encode v
unfolding flat
flat_snoc [] v = append-nil (encode v)
flat_snoc (w ∷ ws) v = ap (λ (l : List ℕ). encode w ++ l) (flat_snoc ws v) ∙ sym (append_assoc (encode w) (flat ws) (encode v))

module _ {i : ℕ} {slots : List ℕ} {sc : Scope} {b a : List ℕ} {len : ℕ} {ss : List ℕ}
    (g : Gathered i slots sc b a len ss) (s : SomePlaced b slots sc) (h : i < sc.count)
    {p : Span} {l : ℕ} (stood : l ≡ get_or sc.lens i 0 + 1)
    (place : When (i < variable_limit) p (place_of (get_or slots i 0) i (get_or sc.starts i 0) l) nowhere) where
  rests : {ws : List Value} → Placed b slots sc ws → Rests b p (get_or ws i vfalse)
  rests w =
      let is = place.inside (omega (arith, w.count, w.few)) ∙ ap (place_of (get_or slots i 0) i (get_or sc.starts i 0)) stood in
      rw is (w.each i (omega (arith, w.count)))

  -- what the copy of the next one asks
  pub gather_fits : (p.start + p.len ≤ length a) × (stack_start + len + p.len ≤ length a)
  gather_fits =
      let w = s.placed in
      let r = rests w in
      (omega (arith, r.inside, g.kept.long, w.long), omega (arith, r.short, g.short, g.kept.long, w.long, w.few, w.count))

  -- one value more
  one_more : {ws : List Value} → Placed b slots sc ws → take (i + 1) ws ≡ take i ws ++ (get_or ws i vfalse ∷ [])
  one_more {ws} w = ap (λ (j : ℕ). take j ws) (add-one i) ∙ take-suc ws i vfalse (omega (arith, w.count))

  started : {ws : List Value} → Placed b slots sc ws → set ss i len ≡ places (starts 0 (take (i + 1) ws))
  started {ws} w =
      let few : i < length ws = omega (arith, w.count) in
      let l : length (part a stack_start len) ≡ len = part_length a stack_start len (omega (arith, g.short, g.kept.long, w.long, w.few)) in
      starts_filled (take i ws) (get_or ws i vfalse) (g.starting w) (length-take-le i ws (omega arith)) (omega (arith, w.few))
      (sym l ∙ ap length (g.told w)) ∙ ap (λ (l : List Value). places (starts 0 l)) (sym (one_more w))

  pub gathered_more : {a' : List ℕ} → Copied p.start (stack_start + len) p.len a a' → Gathered (i + 1) slots sc b a' (len + p.len) (set ss i len)
  gathered_more {a'} c = record {
    kept = kept_then g.kept c.kept (omega arith);
    short = omega (arith, g.short, (rests s.placed).short);
    told = go;
    starting = started;
  }
    where
      go : {ws : List Value} → Placed b slots sc ws → part a' stack_start (len + p.len) ≡ flat (take (i + 1) ws)
      go {ws} w =
          let r = rests w in
          let x : part a' stack_start len ≡ flat (take i ws) = part_kept c.kept stack_start len (le_refl _) ∙ g.told w in
          let y : part a' (stack_start + len) p.len ≡ encode (get_or ws i vfalse) = c.bytes ∙ part_kept g.kept p.start p.len r.inside ∙ r.bytes in
          part_join a' stack_start len p.len ∙ ap₂ ◌++◌ x y ∙ sym (flat_snoc (take i ws) (get_or ws i vfalse)) ∙ sym (ap flat (one_more w))

-- the plan with one value more
pub grown_more : {i : ℕ} {slots : List ℕ} {sc : Scope} {b a a' : List ℕ} {len len' : ℕ} {ss ss' : List ℕ} (g : Gathered i slots sc b a len ss)
    (s : SomePlaced b slots sc) → i < sc.count → {p : Span} {l : ℕ} → l ≡ get_or sc.lens i 0 + 1
    → When (i < variable_limit) p (place_of (get_or slots i 0) i (get_or sc.starts i 0) l) nowhere → Copied p.start (stack_start + len) p.len a a'
    → len' ≡ (grown_by (plan_of i ss len) p.len).len → ss' ≡ (grown_by (plan_of i ss len) p.len).starts.at → Gathered (i + 1) slots sc b a' len' ss'
grown_more {i} {len = len} {ss = ss} g s h {p} stood place c e f =
    let w = s.placed in
    let fits = gather_fits g s h stood place in
    let k = grown_one (plan_of i ss len) p.len (omega (arith, w.count, w.few)) (omega (arith, fits.1, g.kept.long, w.long)) in
    rw (e, f, k) (gathered_more g s h stood place c)

pub gathered_all : {i : ℕ} {slots : List ℕ} {sc : Scope} {b a : List ℕ} {len : ℕ} {ss : List ℕ} → Gathered i slots sc b a len ss → i ≡ sc.count
    → Gathered sc.count slots sc b a len ss
gathered_all g e = rw e at g

-- THE FIRST CELLS: cell i for variable i

abbrev pub Counted : ℕ → List ℕ → Type 0
Counted k cells = Spanning k (λ (i x : ℕ). x ≡ i) cells
