-- Request 13 of document 02, of the answers of whole calls on bytes.
use Rattle.std.specs.Prelude.{◌≡◌, refl, ◌||◌, List, [], ◌∷◌, map, ℕ, ◌≤◌, T, eqb, length, get_or, replicate}
use Rattle.std.proofs.Math.Path.{sym, ap, fun_ext}
use Rattle.std.proofs.Common.{ap₂, ◌∙◌, inl, inr, arith}
use Rattle.std.proofs.Math.Option.{none}
use Rattle.std.proofs.Math.Decide.{dec_le}
use Rattle.std.proofs.Math.ListN.{get_elem?}
use Rattle.std.proofs.lemmas.List.{length-replicate}
use Rattle.value.specs.Result.{Result, ok}
use Rattle.value.specs.All.{All}
use Rattle.value.specs.Value.{Value, vfalse, encode, flat, Fits}
use Rattle.value.specs.Reading.{read_plan, read_view}
use Rattle.value.specs.Laws.{Readable}
use Rattle.value.proofs.Laws.{read_values_sound}
use Rattle.node.specs.declared.Node.{Node}
use Rattle.node.specs.declared.Node.TheVariants.{Var, False, True, Empty, Number, Front, Pair, ListCase, TruthCase, Split, Call, Add, Each, Wide}
use Rattle.node.specs.Kinds.{row, variables}
use Rattle.sheet.specs.Sheet.{Sheet, read_sheet}
use Rattle.rules.specs.Numbers.{level_limit, put_output, scratch_size, allowance_limit}
use Rattle.rules.specs.Outcome.{Out, done, refused, map_out, reading}
use Rattle.rules.specs.Allowance.{within}
use Rattle.rules.specs.Counting.{Env, Cells, get, put}
use Rattle.rules.specs.Answer.{Answer, success, answer, door, get_walk, get_bytes, get_answer, count, new_plan, put_walk, put_bytes, put_answer}
use Rattle.rules.proofs.Laws.Allowances.{within-done, done-within}
use Rattle.rules.proofs.Laws.Outcomes.{after_at, after_out, given_yes, given_not}
use Rattle.rules.specs.Laws.Answers.{PutBack}
use Rattle.rules.proofs.Laws.Answers.{get_shows, put_shows, put_answers}
use Rattle.rules.specs.Laws.Related.{ends, more}
use Rattle.rules.proofs.Laws.Readable.{get_readable}
use Rattle.rules.proofs.Laws.Trips.{put_writes}
use Rattle.rules.specs.Bits.{bits_of, took, took_in, put_written}
use Rattle.undo.specs.Alike.{Occurs, here, there, Named, SameAt, Spares}
use Rattle.undo.proofs.Alike.{named_covers, get_alike, put_alike, put_spares}
use Rattle.undo.specs.Straight.{straight, Straight, Reached, root}
use Rattle.undo.proofs.Straight.{all_straight, reached_closed}
use Rattle.undo.proofs.Undo.{Alike, undone}
use Rattle.undo.proofs.Plans.{new_agrees, old_agrees, new_length, blank_keeps, numbers_fit, view_back, blank_alike, plan_back, new_left, new_same}
use Rattle.undo.proofs.Plans.{count_at, blank_at}
use Rattle.undo.specs.Calls.{Either, PutsSame, refusals, successes, Wrote, NamedIn10or1A}

-- TAKING BACK AN EDIT
took_same : {X Y : Cells} → Alike X Y → map took X ≡ map took Y
took_same ends = refl
took_same (more e h) = ap₂ (λ b bs. b ∷ bs) e (took_same h)

walk_back : (sh : Sheet) → Straight sh → (μ : Env) → All Readable μ → (v : Value) (m : ℕ) → get level_limit sh sh.root μ ≡ done v m
    → (u : Value) → Fits u → (X : Cells) (n : ℕ) → put level_limit sh sh.root μ (count 0 (length μ)) u (replicate (length μ) none) ≡ done X n
    → length X ≡ length μ
    → (Y : Cells)
    × (put level_limit sh sh.root (new_plan X μ) (count 0 (length (new_plan X μ))) v (replicate (length (new_plan X μ)) none) ≡ done Y n)
    × (new_plan Y (new_plan X μ) ≡ μ) × (map took X ≡ map took Y)
walk_back sh st μ r v m got u z X n put_done lx =
    let law = after_at (rw got at (after_at (rw put_done at (undone (Reached sh) level_limit sh (reached_closed sh st) sh.root root μ (count 0 (length μ)) μ
    u (replicate (length μ) none) z (old_agrees [] μ r) (length-replicate (length μ) none))))) in
    let (Y, t, e, h) = after_out (law (new_plan X μ) (replicate (length μ) none) (new_agrees [] X μ lx) (blank_keeps μ) (blank_alike (length μ))) in
    (Y, rw (new_length X μ lx) (e ∙ ap (done Y) h.0), plan_back h.1 h.2, took_same h.2)

written_is : {sheet plan view : List ℕ} {allowance : ℕ} {new : List ℕ} {n : ℕ} (p : PutBack sheet plan view allowance new n)
    → put_written sheet plan view allowance ≡ bits_of (map took p.X)
unfolding put_written took_in put_walk reading
written_is {allowance = allowance} p = rw (p.sheet_read, p.plan_read, p.view_read, p.walk, done-within allowance p.X _ p.few)

same_bits : {sheet plan view : List ℕ} {b : ℕ} {new : List ℕ} {n : ℕ} (d : PutBack sheet plan view b new n)
    {plan' view' : List ℕ} {b' : ℕ} {new' : List ℕ} {n' : ℕ} (p : PutBack sheet plan' view' b' new' n')
    → map took d.X ≡ map took p.X → put_written sheet plan view b ≡ put_written sheet plan' view' b'
same_bits d p t = written_is d ∙ ap bits_of t ∙ sym (written_is p)

taken_back : {sheet plan : List ℕ} {sh : Sheet} → read_sheet sheet ≡ ok sh → Straight sh
    → {μ : Env} → read_plan sh.k plan ≡ ok μ → {v : Value} {m : ℕ} → get level_limit sh sh.root μ ≡ done v m
    → {edited new : List ℕ} {b n : ℕ} (d : PutBack sheet plan edited b new n) → d.sh ≡ sh → d.μ ≡ μ
    → PutBack sheet new (encode v) b plan n × (put_written sheet plan edited b ≡ put_written sheet new (encode v) b)
taken_back {sheet} {plan} {sh} es st {μ} ep {v} {m} got {edited} {new} {b} {n} d qs qμ =
    let w = put_writes d in
    let r = read_values_sound 20 sh.k plan ep in
    let gv = after_at (rw got at (get_readable level_limit sh (numbers_fit sheet sh es) sh.root μ r.readable)) in
    let (Y, e, q, t) = walk_back sh st μ r.readable v m got (get_or d.vs 0 vfalse) w.view_readable.fits d.X n (rw (qs, qμ) at d.walk)
    (rw qμ at w.cells) in
    let p : PutBack sheet new (encode v) b plan n = record {
      sh = sh;
      sheet_read = es;
      μ = new_plan d.X μ;
      plan_read = rw (qs, qμ) at w.new_read;
      vs = v ∷ [];
      view_read = view_back v gv;
      X = Y;
      walk = e;
      few = d.few;
      bytes = r.bytes ∙ ap flat (sym q);
    } in
    (p, same_bits d p t)

-- A plan reads out to a list, under any allowance. An edited list is put, under an allowance. The first list, put into the new plan under
-- that allowance, is taken in as many steps and gives the first plan, byte for byte
module _ (sheet plan : List ℕ) (allowance output scratch : ℕ) (view : List ℕ) (m : ℕ) (e : get_answer sheet plan allowance output scratch ≡ success view m)
    (edited : List ℕ) (b output' scratch' : ℕ) (new : List ℕ) (n : ℕ) (q : put_answer sheet plan edited b output' scratch' ≡ success new n)
    (output'' scratch'' : ℕ) (ho : put_output ≤ output'') (hs : scratch_size ≤ scratch'') where
  back : {sh : Sheet} → read_sheet sheet ≡ ok sh → Straight sh
      → PutBack sheet new view b plan n × (put_written sheet plan edited b ≡ put_written sheet new view b)
  back {sh} es st =
      let (l, g) = get_shows e in let (l', d) = put_shows q in
      let gs : g.sh ≡ sh = let z = g.sheet_read in cc in
      let ds : d.sh ≡ sh = let z = d.sheet_read in cc in
      let gp : read_plan sh.k plan ≡ ok g.μ = rw gs at g.plan_read in
      let dp : read_plan sh.k plan ≡ ok d.μ = rw ds at d.plan_read in
      let qμ : d.μ ≡ g.μ = cc in
      rw g.bytes (taken_back es st gp (rw gs at g.walk) d ds qμ)

  -- where no node that can be reached is a 17, 18 or 1C
  pub undo : {sh : Sheet} → read_sheet sheet ≡ ok sh → Straight sh → put_answer sheet new view b output'' scratch'' ≡ success plan n
  undo es st =
      let l' = (put_shows q).0 in
      put_answers (record { output_long = ho; scratch_long = hs; some_steps = l'.some_steps; few_steps = l'.few_steps }) (back es st).0

  -- and the variables that take a view are the same
  pub undo_written : {sh : Sheet} → read_sheet sheet ≡ ok sh → Straight sh → put_written sheet new view b ≡ put_written sheet plan edited b
  undo_written es st = sym (back es st).1

  -- in the request's words: where no record of the file is one
  pub undo_file : {sh : Sheet} → read_sheet sheet ≡ ok sh → ((i : ℕ) → T (straight (get_or sh.nodes i False)))
      → put_answer sheet new view b output'' scratch'' ≡ success plan n
  undo_file {sh} es st =
      let l' = (put_shows q).0 in
      put_answers (record { output_long = ho; scratch_long = hs; some_steps = l'.some_steps; few_steps = l'.few_steps }) (back es (all_straight sh st)).0

door_either : (need output scratch allowance : ℕ) → Either need output scratch allowance
unfolding door
door_either need output scratch allowance = go (dec_le need output) (dec_le scratch_size scratch) (dec_le 1 allowance) (dec_le allowance allowance_limit)
  where
    go : Dec (need ≤ output) → Dec (scratch_size ≤ scratch) → Dec (1 ≤ allowance) → Dec (allowance ≤ allowance_limit) → Either need output scratch allowance
    go (no a) b c d = inr (1, λ o. given_not 1 (dec_le need output) _ a)
    go (yes a) (no b) c d = inr (2, λ o. given_yes 1 (dec_le need output) a ∙ given_not 2 (dec_le scratch_size scratch) _ b)
    go (yes a) (yes b) (no c) d =
        inr (3, λ o. given_yes 1 (dec_le need output) a ∙ given_yes 2 (dec_le scratch_size scratch) b ∙ given_not 3 (dec_le 1 allowance) _ c)
    go (yes a) (yes b) (yes c) (no d) = inr (
      3,
      λ o. given_yes 1 (dec_le need output) a ∙ given_yes 2 (dec_le scratch_size scratch) b
          ∙ given_yes 3 (dec_le 1 allowance) c ∙ given_not 3 (dec_le allowance allowance_limit) _ d,
    )
    go (yes a) (yes b) (yes c) (yes d) = inl λ o. given_yes 1 (dec_le need output) a ∙ given_yes 2 (dec_le scratch_size scratch) b
        ∙ given_yes 3 (dec_le 1 allowance) c ∙ given_yes 3 (dec_le allowance allowance_limit) d

-- the same variables in other words
puts_as : {sh : Sheet} {N M : ℕ → Type 0} {μ ν : Env} {a b : Answer} → ((x : ℕ) → N x → M x) → ((x : ℕ) → M x → N x)
    → PutsSame sh N μ ν a b → PutsSame sh M μ ν a b
puts_as f g refusals = refusals
puts_as f g (successes w) = successes (record {
  first = w.first;
  second = w.second;
  first_read = w.first_read;
  second_read = w.second_read;
  rest = λ x m. w.rest x (g x m);
  first_left = λ x h. w.first_left x (λ n. h (f x n));
  second_left = λ x h. w.second_left x (λ n. h (f x n));
})

-- a put leaves what no record names
left_at : (sh : Sheet) (μ : Env) (v : Value) (X : Cells) (n : ℕ) → put level_limit sh sh.root μ (count 0 (length μ)) v (replicate (length μ) none) ≡ done X n
    → length X ≡ length μ → (x : ℕ) → (Named sh x → ⊥) → get_elem? (new_plan X μ) x ≡ get_elem? μ x
left_at sh μ v X n e lx x no_one = new_left X μ x lx λ h.
    let spares : Spares (Named sh) x (count 0 (length μ)) = λ y d ny ed q.
    let yx : y ≡ x = omega (arith, count_at 0 (length μ) y d ed) in no_one (rw yx at ny) in
    (after_at (rw e at (put_spares (Named sh) x level_limit sh (named_covers sh) sh.root μ (count 0 (length μ)) v (replicate (length μ) none) spares
    (rw length-replicate h)))).same ∙ blank_at (length μ) x h

-- a put that succeeds: every variable whose number stands in no 10, 1A or 1C record has its old value, and so its old bytes (request 10)
pub unnamed_kept : (sheet plan view : List ℕ) (allowance output scratch : ℕ) (new : List ℕ) (n : ℕ)
    → put_answer sheet plan view allowance output scratch ≡ success new n
    → {sh : Sheet} → read_sheet sheet ≡ ok sh → {μ ν : Env} → read_plan sh.k plan ≡ ok μ → read_plan sh.k new ≡ ok ν
    → (x : ℕ) → (Named sh x → ⊥) → get_elem? ν x ≡ get_elem? μ x
unnamed_kept sheet plan view allowance output scratch new n e {sh} es {μ} {ν} r q x h =
    let p = (put_shows e).1 in
    let w = put_writes p in
    let qs : p.sh ≡ sh = let z = p.sheet_read in cc in
    let old : p.μ ≡ μ = let z = rw qs at p.plan_read in cc in
    let now : new_plan p.X p.μ ≡ ν = let z = rw qs at w.new_read in cc in
    ap (λ (l : Env). get_elem? l x) (sym now)
    ∙ left_at p.sh p.μ (get_or p.vs 0 vfalse) p.X n p.walk w.cells x (rw (← qs) at h)
    ∙ ap (λ (l : Env). get_elem? l x) old

module _ (sheet plan plan' : List ℕ) {sh : Sheet} (es : read_sheet sheet ≡ ok sh) {μ ν : Env}
    (ep : read_plan sh.k plan ≡ ok μ) (eq : read_plan sh.k plan' ≡ ok ν)
    (same : (x : ℕ) → Named sh x → get_elem? μ x ≡ get_elem? ν x) where
  same_at : SameAt (Named sh) μ ν
  same_at = ((read_values_sound 20 sh.k plan ep).count ∙ sym (read_values_sound 20 sh.k plan' eq).count, same)

  -- two plans that have the same in every variable that a record names read out alike: the list, the steps, the refusals
  pub same_get : (allowance output scratch : ℕ) → get_answer sheet plan allowance output scratch ≡ get_answer sheet plan' allowance output scratch
  unfolding get_answer get_bytes get_walk reading
  same_get allowance output scratch = rw (es, ep, eq, get_alike (Named sh) level_limit sh (named_covers sh) sh.root μ ν same_at)

  same_walk : (v : Value) → put level_limit sh sh.root μ (count 0 (length μ)) v (replicate (length μ) none)
      ≡ put level_limit sh sh.root ν (count 0 (length ν)) v (replicate (length ν) none)
  same_walk v = put_alike (Named sh) level_limit sh (named_covers sh) sh.root μ ν (count 0 (length μ)) v (replicate (length μ) none) same_at
      ∙ rw same_at.0

  module _ (view : List ℕ) (allowance : ℕ) where
    wrote : (vs : List Value) → read_view view ≡ ok vs → (X : Cells) (n : ℕ) → put_walk allowance sh μ (get_or vs 0 vfalse) ≡ done X n
        → Wrote sh (Named sh) μ ν (flat (new_plan X μ)) (flat (new_plan X ν))
    unfolding put_walk
    wrote vs ev X n ew =
        let (e, few) = within-done allowance _ ew in
        let e' = sym (same_walk (get_or vs 0 vfalse)) ∙ e in
        let p : PutBack sheet plan view allowance (flat (new_plan X μ)) n = record {
          sh = sh;
          sheet_read = es;
          μ = μ;
          plan_read = ep;
          vs = vs;
          view_read = ev;
          X = X;
          walk = e;
          few = few;
          bytes = refl;
        } in
        let q : PutBack sheet plan' view allowance (flat (new_plan X ν)) n = record {
          sh = sh;
          sheet_read = es;
          μ = ν;
          plan_read = eq;
          vs = vs;
          view_read = ev;
          X = X;
          walk = e';
          few = few;
          bytes = refl;
        } in
        record {
          first = new_plan X μ;
          second = new_plan X ν;
          first_read = (put_writes p).new_read;
          second_read = (put_writes q).new_read;
          rest = λ x h. new_same X μ ν x (put_writes p).cells same_at.0 (same x h);
          first_left = left_at sh μ (get_or vs 0 vfalse) X n e (put_writes p).cells;
          second_left = left_at sh ν (get_or vs 0 vfalse) X n e' (put_writes q).cells;
        }

    walked : (vs : List Value) → read_view view ≡ ok vs → (o : Out Cells) → put_walk allowance sh μ (get_or vs 0 vfalse) ≡ o
        → PutsSame sh (Named sh) μ ν (answer (map_out (λ X. flat (new_plan X μ)) o)) (answer (map_out (λ X. flat (new_plan X ν)) o))
    unfolding map_out answer
    walked vs ev (done X n) e = successes (wrote vs ev X n e)
    walked vs ev (refused c n) e = refusals

    -- the bytes of the new plan of η
    bytes : Env → Result (List Value) → Out (List ℕ)
    bytes η r = reading r λ vs. map_out (λ X. flat (new_plan X η)) (put_walk allowance sh η (get_or vs 0 vfalse))

    read : (r : Result (List Value)) → read_view view ≡ r → PutsSame sh (Named sh) μ ν (answer (bytes μ r)) (answer (bytes ν r))
    unfolding bytes reading answer put_walk
    read (ok vs) e = rw (← same_walk (get_or vs 0 vfalse)) (walked vs e _ refl)
    read (Rattle.value.specs.Result.refusal c) e = refusals

    let_in : (output scratch : ℕ) → Either put_output output scratch allowance
        → PutsSame sh (Named sh) μ ν (answer (door put_output output scratch allowance (bytes μ (read_view view))))
        (answer (door put_output output scratch allowance (bytes ν (read_view view))))
    unfolding answer
    let_in output scratch (inl h) = rw (h (bytes μ (read_view view)), h (bytes ν (read_view view))) (read (read_view view) refl)
    let_in output scratch (inr (c, h)) = rw (h (bytes μ (read_view view)), h (bytes ν (read_view view))) refusals

    -- and take a list alike: refused with the same number, or done in as many steps; what no record names is left, and the rest is the same
    pub same_put : (output scratch : ℕ)
        → PutsSame sh (Named sh) μ ν (put_answer sheet plan view allowance output scratch) (put_answer sheet plan' view allowance output scratch)
    unfolding put_answer put_bytes reading bytes
    same_put output scratch = rw (es, ep, eq) (let_in output scratch (door_either put_output output scratch allowance))

    -- and the variables that take a view are the same
    pub same_written : put_written sheet plan view allowance ≡ put_written sheet plan' view allowance
    unfolding put_written reading put_walk
    same_written = rw (es, ep, eq) (ap took_in (ap (reading (read_view view)) (fun_ext λ vs. ap (within allowance) (same_walk (get_or vs 0 vfalse)))))

stands_some : {x : ℕ} {l : List ℕ} → Occurs x l → l ≡ [] → ⊥
stands_some here e = let z : ◌≡◌ {A = ℕ} 0 1 = cc in omega arith
stands_some (there s) e = let z : ◌≡◌ {A = ℕ} 0 1 = cc in omega arith

-- where there is no 1C, a record that names a variable is a 10 or a 1A
named_in : (x : ℕ) (nd : Node) → T (straight nd) → Occurs x (variables nd) → T (eqb (row nd).kind 0x10 || eqb (row nd).kind 0x1A)
unfolding variables
named_in x (Var y) st h = tt
named_in x False st h = absurd (stands_some h refl)
named_in x True st h = absurd (stands_some h refl)
named_in x Empty st h = absurd (stands_some h refl)
named_in x (Number n) st h = absurd (stands_some h refl)
named_in x (Wide n) st h = absurd (stands_some h refl)
named_in x (Front a b) st h = absurd (stands_some h refl)
named_in x (Pair a b) st h = absurd (stands_some h refl)
named_in x (ListCase s b tb n tn df dr) st h = absurd st
named_in x (TruthCase s f tf t t₁) st h = absurd st
named_in x (Split s b) st h = absurd (stands_some h refl)
named_in x (Call c y z) st h = tt
named_in x (Add n a) st h = absurd (stands_some h refl)
named_in x (Each s c y d) st h = absurd st

pub straight_named : (sh : Sheet) → ((i : ℕ) → T (straight (get_or sh.nodes i False))) → (x : ℕ) → Named sh x → NamedIn10or1A sh x
straight_named sh st x (i, h) = (i, named_in x _ (st i) h, h)

module _ (sheet plan plan' : List ℕ) {sh : Sheet} (es : read_sheet sheet ≡ ok sh) (st : (i : ℕ) → T (straight (get_or sh.nodes i False))) {μ ν : Env}
    (ep : read_plan sh.k plan ≡ ok μ) (eq : read_plan sh.k plan' ≡ ok ν)
    (same : (x : ℕ) → NamedIn10or1A sh x → get_elem? μ x ≡ get_elem? ν x) where
  widened : (x : ℕ) → Named sh x → get_elem? μ x ≡ get_elem? ν x
  widened x h = same x (straight_named sh st x h)

  pub straight_get : (allowance output scratch : ℕ) → get_answer sheet plan allowance output scratch ≡ get_answer sheet plan' allowance output scratch
  straight_get = same_get sheet plan plan' es ep eq widened

  pub straight_put : (view : List ℕ) (allowance output scratch : ℕ)
      → PutsSame sh (NamedIn10or1A sh) μ ν (put_answer sheet plan view allowance output scratch) (put_answer sheet plan' view allowance output scratch)
  straight_put view allowance output scratch =
      puts_as (straight_named sh st) (λ x h. (h.0, h.2)) (same_put sheet plan plan' es ep eq widened view allowance output scratch)

  pub straight_written : (view : List ℕ) (allowance : ℕ) → put_written sheet plan view allowance ≡ put_written sheet plan' view allowance
  straight_written = same_written sheet plan plan' es ep eq widened
