-- Demand 3 of document 01, of the answers of whole calls: a list that was taken back stands, and a list sent back unedited moves nothing.
use Rattle.std.specs.Prelude.{◌≡◌, refl, List, [], ◌∷◌, ◌++◌, ℕ, zero, suc, ◌+◌, ◌*◌, ◌≤◌, ◌<◌, length, get_or, replicate}
use Rattle.std.proofs.Common.{sym, ap, ap₂, ◌∙◌, append-nil, arith, le_trans, length-append}
use Rattle.std.proofs.Math.Option.{none, some}
use Rattle.std.proofs.Math.Decide.{dec_lt}
use Rattle.std.proofs.Math.ListN.{get_elem?, get_or-eq_default}
use Rattle.std.proofs.lemmas.List.{length-replicate}
use Rattle.std.proofs.Math.Seq.{append_snoc}
use Rattle.value.specs.Result.{ok}
use Rattle.value.specs.All.{All, none, each}
use Rattle.value.specs.Value.{Value, vfalse, encode, flat, Fits}
use Rattle.value.specs.Reading.{read_plan, read_view}
use Rattle.value.proofs.Encoding.{size-encode}
use Rattle.value.specs.Laws.{Readable}
use Rattle.value.proofs.Laws.{read_values_sound, read_values_back}
use Rattle.node.specs.declared.Node.TheVariants.{False, Number, Wide}
use Rattle.sheet.specs.Sheet.{Sheet, read_sheet}
use Rattle.sheet.specs.Laws.{sheet_ranges}
use Rattle.rules.specs.Numbers.{level_limit, allowance_limit, factor, scratch_size, get_output, put_output}
use Rattle.rules.specs.Outcome.{Out, done, refused, plus}
use Rattle.rules.specs.Semantics
use Rattle.rules.specs.Counting.{Env, Cells, get_node, get}
use Rattle.rules.specs.Answer.{success, get_answer, count, new_plan, put_answer}
use Rattle.rules.specs.Laws.Related.{All2, ends, more}
use Rattle.rules.proofs.Laws.Related.{all2_length}
use Rattle.rules.proofs.Laws.Outcomes.{after_at, after_out, gives_out}
use Rattle.rules.specs.Laws.Answers.{Got, PutBack}
use Rattle.rules.proofs.Laws.Answers.{get_shows, get_answers, put_shows, put_answers}
use Rattle.rules.proofs.Laws.Readable.{ReadableCell, blank, old_readable, WideFits, NumbersFit, get_readable, put_readable}
use Rattle.rules.proofs.Laws.Consistency.{Reads, or_new, lawful}
use Rattle.rules.proofs.Laws.Acceptability.{Old, Keeps, free, stable, or_old_lem}

-- VARIABLE i IS CELL i

at_head : {A : Type 0} (xs : List A) (a : A) (ys : List A) → get_elem? (xs ++ a ∷ ys) (length xs) ≡ some a
at_head [] a ys = refl
at_head (b ∷ xs) a ys = at_head xs a ys

module _ {A B : Type 0} (R : List A → ℕ → B → Type 0) where
  -- relations by cell, from a cell to the next
  next_cell : (P : List A) (a : A) (xs : List A) (n : ℕ) {ys : List B} → All2 (R ((P ++ a ∷ []) ++ xs)) (count (length (P ++ a ∷ [])) n) ys
      → All2 (R (P ++ a ∷ xs)) (count (suc (length P)) n) ys
  next_cell P a xs n h =
      let e : length (P ++ a ∷ []) ≡ suc (length P) = rw length-append (omega arith) in
      rw (append_snoc, e) at h

-- the new plan is what the cells say
new_agrees : (P X : Cells) (μ : Env) → length X ≡ length μ → All2 (Reads (P ++ X)) (count (length P) (length μ)) (new_plan X μ)
unfolding count new_plan
new_agrees P [] [] e = ends
new_agrees P [] (v ∷ μ) e = absurd (omega arith)
new_agrees P (o ∷ X) [] e = absurd (omega arith)
new_agrees P (o ∷ X) (v ∷ μ) e = more (o, at_head P o X, or_new o v) (next_cell Reads P o X (length μ) (new_agrees (P ++ o ∷ []) X μ (omega arith)))

old_agrees : (P μ : Env) → All Readable μ → Old (count (length P) (length μ)) (P ++ μ) μ
unfolding count
old_agrees P [] none = ends
old_agrees P (v ∷ μ) (each g h) =
    more (at_head P v μ, g.fits) (next_cell (λ ω c m. (get_elem? ω c ≡ some m) × Fits m) P v μ (length μ) (old_agrees (P ++ v ∷ []) μ h))

new_length : (X : Cells) (μ : Env) → length X ≡ length μ → length (new_plan X μ) ≡ length μ
unfolding new_plan
new_length [] [] e = refl
new_length [] (v ∷ μ) e = refl
new_length (o ∷ X) [] e = refl
new_length (o ∷ X) (v ∷ μ) e = ap suc (new_length X μ (omega arith))

new_readable : {X : Cells} {μ : Env} → All ReadableCell X → All Readable μ → All Readable (new_plan X μ)
unfolding new_plan
new_readable none none = none
new_readable none (each g h) = each g h
new_readable (each c d) none = none
new_readable (each c d) (each g h) = each (old_readable c g) (new_readable d h)

blank_readable : (n : ℕ) → All ReadableCell (replicate n none)
blank_readable zero = none
blank_readable (suc n) = each blank (blank_readable n)

blank_keeps : (μ : Env) → Keeps (replicate (length μ) none) μ
blank_keeps [] = ends
blank_keeps (v ∷ μ) = more (free v) (blank_keeps μ)

keeps_plan : {X : Cells} {μ : Env} → Keeps X μ → new_plan X μ ≡ μ
unfolding new_plan
keeps_plan ends = refl
keeps_plan (more {a = o} {b = v} h k) = ap₂ (λ x xs. x ∷ xs) (or_old_lem o v h) (keeps_plan k)

steps_pos : (l : ℕ) (sh : Sheet) (n : ℕ) (μ : Env) {v : Value} {s : ℕ} → get l sh n μ ≡ done v s → 1 ≤ s
unfolding Semantics.get plus
steps_pos zero sh n μ e = let z : ◌≡◌ {A = ℕ} 0 1 = cc in absurd (omega arith)
steps_pos (suc l) sh n μ {v} {s} e = go (get_node (get l sh) sh (get_or sh.nodes n False) μ) e
  where
    go : (o : Out Value) → plus 1 o ≡ done v s → 1 ≤ s
    go (done a t) e = let h : 1 + t ≡ s = cc in omega arith
    go (refused c t) e = let z : ◌≡◌ {A = ℕ} 0 1 = cc in absurd (omega arith)

-- a sheet's constants are numbers that the bytes of their kind hold
numbers_fit : (bs : List ℕ) (sh : Sheet) → read_sheet bs ≡ ok sh → NumbersFit sh
numbers_fit bs sh e i = (λ n q. small n q (dec_lt i (length sh.nodes)), λ n q. large n q (dec_lt i (length sh.nodes)))
  where
    none_there : (i < length sh.nodes → ⊥) → get_or sh.nodes i False ≡ False
    none_there h = get_or-eq_default sh.nodes False (omega arith)

    small : (n : ℕ) → get_or sh.nodes i False ≡ Number n → Dec (i < length sh.nodes) → n ≤ 65535
    small n q (yes h) = (rw q at ((sheet_ranges bs e).node i h)).0
    small n q (no h) = let d = none_there h in let z : ◌≡◌ {A = ℕ} 0 1 = cc in absurd (omega arith)

    large : (n : ℕ) → get_or sh.nodes i False ≡ Wide n → Dec (i < length sh.nodes) → WideFits n
    large n q (yes h) = (rw q at ((sheet_ranges bs e).node i h)).0
    large n q (no h) = let d = none_there h in let z : ◌≡◌ {A = ℕ} 0 1 = cc in absurd (omega arith)

-- one value and its bytes
one_value : (vs : List Value) → length vs ≡ 1 → All Readable vs → (flat vs ≡ encode (get_or vs 0 vfalse)) × Readable (get_or vs 0 vfalse)
unfolding flat
one_value [] e g = absurd (omega arith)
one_value (v ∷ []) e (each g h) = (append-nil (encode v), g)
one_value (v ∷ w ∷ vs) e g = absurd (omega arith)

view_back : (v : Value) → Readable v → read_view (encode v) ≡ ok (v ∷ [])
unfolding flat
view_back v g = rw append-nil at (read_values_back 30 (each g none))

-- WHAT A PUT WRITES
pub record PutWrites (sheet plan view : List ℕ) (allowance : ℕ) (new : List ℕ) (n : ℕ) (p : PutBack sheet plan view allowance new n) : Type 0 where
  pub plan_bytes : plan ≡ flat p.μ
  pub old_plan_readable : All Readable p.μ
  pub view_bytes : view ≡ encode (get_or p.vs 0 vfalse)
  pub view_readable : Readable (get_or p.vs 0 vfalse)
  pub cells : length p.X ≡ length p.μ
  pub new_readable : All Readable (new_plan p.X p.μ)
  pub new_read : read_plan p.sh.k new ≡ ok (new_plan p.X p.μ)

pub put_writes : {sheet plan view : List ℕ} {allowance : ℕ} {new : List ℕ} {n : ℕ} (p : PutBack sheet plan view allowance new n)
    → PutWrites sheet plan view allowance new n p
put_writes {sheet} {plan} {view} {allowance} {new} {n} p =
    let r = read_values_sound 20 p.sh.k plan p.plan_read in
    let q = read_values_sound 30 1 view p.view_read in
    let (eb, g) = one_value p.vs q.count q.readable in
    let put_done = p.walk in
    let cells-readable = after_at (rw put_done at (put_readable level_limit p.sh (numbers_fit sheet p.sh p.sheet_read) p.sh.root p.μ
    (count 0 (length p.μ)) (get_or p.vs 0 vfalse) (replicate (length p.μ) none) r.readable g (blank_readable (length p.μ)))) in
    let later = (after_at (rw put_done at (lawful level_limit p.sh p.sh.root p.μ (count 0 (length p.μ))
    (get_or p.vs 0 vfalse) (replicate (length p.μ) none) g.fits))).0 in
    let lx : length p.X ≡ length p.μ = sym (all2_length later) ∙ length-replicate (length p.μ) none in
    let ng = new_readable cells-readable r.readable in
    let back = read_values_back 20 ng in
    record {
      plan_bytes = r.bytes;
      old_plan_readable = r.readable;
      view_bytes = q.bytes ∙ eb;
      view_readable = g;
      cells = lx;
      new_readable = ng;
      new_read = rw (p.bytes, ← r.count, ← new_length p.X p.μ lx) back;
    }

-- A LIST THAT WAS TAKEN BACK STANDS
stands : {sheet plan view : List ℕ} {allowance : ℕ} {new : List ℕ} {n : ℕ} → PutBack sheet plan view allowance new n
    → (g : ℕ) × Got sheet new allowance view g × (g ≤ n)
stands {sheet} {plan} {view} {allowance} {new} {n} p =
    let w = put_writes p in
    let put_done = p.walk in
    let law = (after_at (rw put_done at (lawful level_limit p.sh p.sh.root p.μ (count 0 (length p.μ))
    (get_or p.vs 0 vfalse) (replicate (length p.μ) none) w.view_readable.fits))).1 in
    let (t, e, h) = gives_out (law (new_plan p.X p.μ) (new_agrees [] p.X p.μ w.cells)) in (
      t,
      record {
        sh = p.sh;
        sheet_read = p.sheet_read;
        μ = new_plan p.X p.μ;
        plan_read = w.new_read;
        v = get_or p.vs 0 vfalse;
        walk = e;
        few = le_trans h p.few;
        bytes = w.view_bytes;
      },
      h,
    )

pub consistency : (sheet plan view : List ℕ) (allowance output scratch : ℕ) (new : List ℕ) (p : ℕ)
    → put_answer sheet plan view allowance output scratch ≡ success new p
    → (output' scratch' : ℕ) → get_output ≤ output' → scratch_size ≤ scratch'
    → (g : ℕ) × (get_answer sheet new allowance output' scratch' ≡ success view g) × (g ≤ p)
consistency sheet plan view allowance output scratch new p e output' scratch' ho hs =
    let (l, d) = put_shows e in let (g, got, h) = stands d in
    (g, get_answers (record { output_long = ho; scratch_long = hs; some_steps = l.some_steps; few_steps = l.few_steps }) got, h)

-- A LIST SENT BACK UNEDITED MOVES NOTHING
unmoved : {sheet plan : List ℕ} {allowance : ℕ} {view : List ℕ} {n : ℕ} → Got sheet plan allowance view n → (b : ℕ) → factor * n ≤ b
    → (p : ℕ) × PutBack sheet plan view b plan p
unmoved {sheet} {plan} {allowance} {view} {n} g b h =
    let r = read_values_sound 20 g.sh.k plan g.plan_read in
    let got = g.walk in
    let gv = after_at (rw got at (get_readable level_limit g.sh (numbers_fit sheet g.sh g.sheet_read) g.sh.root g.μ r.readable)) in
    let law = (after_at (rw got at (stable level_limit g.sh g.sh.root g.μ (count 0 (length g.μ)) g.μ (old_agrees [] g.μ r.readable)))).1 in
    let (X, t, e, k) = after_out (law (replicate (length g.μ) none) (blank_keeps g.μ)) in (
      t,
      record {
        sh = g.sh;
        sheet_read = g.sheet_read;
        μ = g.μ;
        plan_read = g.plan_read;
        vs = g.v ∷ [];
        view_read = rw g.bytes (view_back g.v gv);
        X = X;
        walk = e;
        few = omega arith;
        bytes = rw (keeps_plan k.0) r.bytes;
      },
    )

pub acceptability : (sheet plan : List ℕ) (allowance output scratch : ℕ) (view : List ℕ) (n : ℕ)
    → get_answer sheet plan allowance output scratch ≡ success view n
    → (b output' scratch' : ℕ) → factor * n ≤ b → b ≤ allowance_limit → put_output ≤ output' → scratch_size ≤ scratch'
    → (p : ℕ) × (put_answer sheet plan view b output' scratch' ≡ success plan p)
acceptability sheet plan allowance output scratch view n e b output' scratch' hn hb ho hs =
    let (l, g) = get_shows e in let (p, d) = unmoved g b hn in
    let pos : 1 ≤ n = steps_pos level_limit g.sh g.sh.root g.μ g.walk in
    (p, put_answers (record { output_long = ho; scratch_long = hs; some_steps = omega arith; few_steps = hb }) d)

-- WHAT A PUT GIVES: k values of at most 256 bytes each
pub new_plan_lem : (sheet plan view : List ℕ) (allowance output scratch : ℕ) (new : List ℕ) (p : ℕ)
    → put_answer sheet plan view allowance output scratch ≡ success new p
    → (sh : Sheet) × (μ : Env) × (read_sheet sheet ≡ ok sh) × (new ≡ flat μ) × (length μ ≡ sh.k) × All Readable μ × (read_plan sh.k new ≡ ok μ)
new_plan_lem sheet plan view allowance output scratch new p e =
    let (l, d) = put_shows e in let w = put_writes d in
    let r = read_values_sound 20 d.sh.k plan d.plan_read in
    (d.sh, new_plan d.X d.μ, d.sheet_read, d.bytes, new_length d.X d.μ w.cells ∙ r.count, w.new_readable, w.new_read)

-- HOW LONG AN OUTPUT IS: at most 256 bytes for a get, and 4,096 for a put

encode_short : {v : Value} → Readable v → length (encode v) ≤ 256
encode_short {v} r = omega (arith, size-encode v, r.fits)

flat_short : {vs : List Value} → All Readable vs → length (flat vs) ≤ 256 * length vs
unfolding flat
flat_short none = omega arith
flat_short (each {a = v} {l = vs} r h) = rw length-append (omega (arith, encode_short r, flat_short h))

pub get_short : (sheet plan : List ℕ) (allowance output scratch : ℕ) (view : List ℕ) (n : ℕ)
    → get_answer sheet plan allowance output scratch ≡ success view n → length view ≤ get_output
get_short sheet plan allowance output scratch view n e =
    let (l, g) = get_shows e in
    let r = read_values_sound 20 g.sh.k plan g.plan_read in
    let got = g.walk in
    let v = after_at (rw got at (get_readable level_limit g.sh (numbers_fit sheet g.sh g.sheet_read) g.sh.root g.μ r.readable)) in
    rw g.bytes (encode_short v)

pub put_short : (sheet plan view : List ℕ) (allowance output scratch : ℕ) (new : List ℕ) (p : ℕ)
    → put_answer sheet plan view allowance output scratch ≡ success new p → length new ≤ put_output
put_short sheet plan view allowance output scratch new p e =
    let (sh, μ, es, en, k, good, back) = new_plan_lem sheet plan view allowance output scratch new p e in
    rw en (omega (arith, flat_short good, k, (sheet_ranges sheet es).few_variables))
