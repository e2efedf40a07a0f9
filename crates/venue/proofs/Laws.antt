-- When the checker says yes (document 02, request 10), of whole calls on bytes; and that it does so for what put gives.
use Rattle.std.specs.Prelude.{◌≡◌, Bool, ◌&&◌, ◌||◌, List, [], ◌∷◌, eqb, leb, length}
use Rattle.std.proofs.Math.Path.{refl, sym}
use Rattle.std.proofs.Common.{ap, ap₂, ◌∙◌, arith, leb-true, le-leb, eqb-true}
use Rattle.std.proofs.Math.Bool.{true, false, or-true}
use Rattle.std.proofs.Math.Option.{some}
use Prim.Native.Nat.{ℕ, zero, suc, ◌+◌, ◌≤◌, ◌<◌}
use Rattle.std.proofs.Math.Decide.{dec_lt}
use Rattle.std.proofs.Math.ListN.{get_or, get_elem?, get_or-eq_default}
use Rattle.value.specs.Result.{Result, ok, refusal, and_then, unless}
use Rattle.value.specs.Value.{Value, vfalse, encode}
use Rattle.shapes.specs.Parts.{both, same_bytes}
use Rattle.shapes.proofs.PartsLaws.{same_refl, same_values}
use Rattle.value.specs.Reading.{read_plan, read_view}
use Rattle.value.proofs.Laws.{read_values_sound, and-true}
use Rattle.sheet.specs.Sheet.{Sheet, read_sheet}
use Rattle.rules.specs.Numbers.{level_limit, allowance_limit, scratch_size, get_output}
use Rattle.rules.specs.Outcome.{Out, done, refused}
use Rattle.rules.specs.Counting.{Env, get}
use Rattle.rules.specs.Answer.{success, get_walk, put_answer}
use Rattle.rules.proofs.Laws.Allowances.{within-done, done-within}
use Rattle.rules.proofs.Laws.Outcomes.{after_at}
use Rattle.rules.proofs.Laws.Answers.{get_shows, get_answers, put_shows}
use Rattle.rules.proofs.Laws.Readable.{get_readable}
use Rattle.rules.proofs.Laws.Trips.{put_writes, consistency}
use Rattle.undo.specs.Alike.{Named, names}
use Rattle.undo.proofs.Alike.{names-true, names-false}
use Rattle.undo.proofs.Plans.{numbers_fit, view_back}
use Rattle.undo.proofs.Calls.{unnamed_kept}
use Rattle.venue.specs.Accepts.{spared, spared_from, kept, or_code, result, judged_of, accepts_of}
use Rattle.venue.specs.Laws.{Conforms}

-- a refusal of reading the new plan out is passed on, whatever the comparisons would say
pub refusal_passed : (sheet old view new : List ℕ) (allowance : ℕ) {sh : Sheet} {μ ν : Env} {vs : List Value} {c n : ℕ} → read_sheet sheet ≡ ok sh
    → read_plan sh.k old ≡ ok μ → read_view view ≡ ok vs → read_plan sh.k new ≡ ok ν → get_walk allowance sh ν ≡ refused c n
    → judged_of sheet old view new allowance ≡ refusal c
unfolding judged_of and_then or_code result
refusal_passed sheet old view new allowance es eo ev en ew = rw (es, eo, ev, en, ew)

-- bytes that compare as the same are
same_bytes_lem : (a b : List ℕ) → same_bytes a b ≡ true → a ≡ b
unfolding same_bytes both
same_bytes_lem [] [] e = refl
same_bytes_lem [] (y ∷ b) e = let z : ◌≡◌ {A = ℕ} 0 1 = cc in absurd (omega arith)
same_bytes_lem (x ∷ a) [] e = let z : ◌≡◌ {A = ℕ} 0 1 = cc in absurd (omega arith)
same_bytes_lem (x ∷ a) (y ∷ b) e = go (eqb x y) refl (same_bytes_lem a b) e
  where
    go : (q : Bool) → eqb x y ≡ q → (same_bytes a b ≡ true → a ≡ b) → both q (same_bytes a b) ≡ true → x ∷ a ≡ y ∷ b
    go true f h e = ap₂ (λ u l. u ∷ l) (eqb-true x y f) (h e)
    go false f h e = let z : ◌≡◌ {A = ℕ} 0 1 = cc in absurd (omega arith)

-- ONE VARIABLE

-- where values are there, they are the same at a place or as options
same_at : (μ ν : Env) (x : ℕ) → get_elem? ν x ≡ get_elem? μ x → get_or μ x vfalse ≡ get_or ν x vfalse
same_at [] [] x e = refl
same_at [] (v ∷ ν) zero e = let z : ◌≡◌ {A = ℕ} 0 1 = cc in absurd (omega arith)
same_at [] (v ∷ ν) (suc x) e = same_at [] ν x e
same_at (u ∷ μ) [] zero e = let z : ◌≡◌ {A = ℕ} 0 1 = cc in absurd (omega arith)
same_at (u ∷ μ) [] (suc x) e = same_at μ [] x e
same_at (u ∷ μ) (v ∷ ν) zero e = cc
same_at (u ∷ μ) (v ∷ ν) (suc x) e = same_at μ ν x e

same_elem : (μ ν : Env) (x : ℕ) → length ν ≡ length μ → get_or μ x vfalse ≡ get_or ν x vfalse → get_elem? ν x ≡ get_elem? μ x
same_elem [] [] x l e = refl
same_elem [] (v ∷ ν) x l e = absurd (omega arith)
same_elem (u ∷ μ) [] x l e = absurd (omega arith)
same_elem (u ∷ μ) (v ∷ ν) zero l e = ap some (sym e)
same_elem (u ∷ μ) (v ∷ ν) (suc x) l e = same_elem μ ν x (omega arith) e

module _ (sh : Sheet) (μ ν : Env) (x : ℕ) where
  spared_so : ((Named sh x → ⊥) → get_elem? ν x ≡ get_elem? μ x) → spared sh μ ν x ≡ true
  unfolding spared
  spared_so h = go (names x sh.nodes) refl
    where
      go : (b : Bool) → names x sh.nodes ≡ b → same_bytes (encode (get_or μ x vfalse)) (encode (get_or ν x vfalse)) || b ≡ true
      go true e = or-true (same_bytes (encode (get_or μ x vfalse)) (encode (get_or ν x vfalse)))
      go false e =
          let q : get_or μ x vfalse ≡ get_or ν x vfalse = same_at μ ν x (h λ (i, s). names-false x sh.nodes e i s) in
          rw (q, same_refl (encode (get_or ν x vfalse)))

  spared_says : spared sh μ ν x ≡ true → (Named sh x → ⊥) → get_or μ x vfalse ≡ get_or ν x vfalse
  unfolding spared
  spared_says e n = same_values (get_or μ x vfalse) (get_or ν x vfalse) (go (names x sh.nodes) refl e)
    where
      left : (a : Bool) → a || false ≡ true → a ≡ true
      left true f = refl
      left false f = f

      go : (b : Bool) → names x sh.nodes ≡ b → same_bytes (encode (get_or μ x vfalse)) (encode (get_or ν x vfalse)) || b ≡ true
          → same_bytes (encode (get_or μ x vfalse)) (encode (get_or ν x vfalse)) ≡ true
      go true f e = absurd (n (names-true x sh.nodes f))
      go false f e = left _ e

-- ALL OF THEM
module _ (sh : Sheet) (μ ν : Env) where
  all_spared : ((x : ℕ) → spared sh μ ν x ≡ true) → (x n : ℕ) → spared_from sh μ ν x n ≡ true
  unfolding spared_from
  all_spared h x zero = refl
  all_spared h x (suc n) = rw (h x, all_spared h (suc x) n)

  each_spared : (x n : ℕ) → spared_from sh μ ν x n ≡ true → (y : ℕ) → x ≤ y → y < x + n → spared sh μ ν y ≡ true
  unfolding spared_from
  each_spared x zero e y l h = absurd (omega arith)
  each_spared x (suc n) e y l h = go (λ k. each_spared (suc x) n p.1 y k (omega arith)) (dec_lt x y)
    where
      p : (spared sh μ ν x ≡ true) × (spared_from sh μ ν (suc x) n ≡ true)
      p = and-true (spared sh μ ν x) (spared_from sh μ ν (suc x) n) e

      go : (x < y → spared sh μ ν y ≡ true) → Dec (x < y) → spared sh μ ν y ≡ true
      go f (yes k) = f k
      go f (no k) = let z : x ≡ y = omega arith in rw z at p.0

  kept_so : ((x : ℕ) → (Named sh x → ⊥) → get_elem? ν x ≡ get_elem? μ x) → kept sh μ ν ≡ true
  unfolding kept
  kept_so h = all_spared (λ x. spared_so sh μ ν x (h x)) 0 sh.k

  kept_says : length μ ≡ sh.k → length ν ≡ sh.k → kept sh μ ν ≡ true → (x : ℕ) → (Named sh x → ⊥) → get_elem? ν x ≡ get_elem? μ x
  unfolding kept
  kept_says lm ln e x n = go (dec_lt x sh.k)
    where
      go : Dec (x < sh.k) → get_elem? ν x ≡ get_elem? μ x
      go (yes h) =
          same_elem μ ν x (omega arith) (spared_says sh μ ν x (each_spared 0 sh.k e x (omega arith) (omega arith)) n)
      go (no h) =
          same_elem μ ν x (omega arith)
          (get_or-eq_default μ vfalse {n = x} (omega arith) ∙ sym (get_or-eq_default ν vfalse {n = x} (omega arith)))

-- OF THE OLD PLAN only what no record names counts: two old plans that agree there get the same answer
module _ (sh : Sheet) (μ μ' ν : Env) (h : (x : ℕ) → (Named sh x → ⊥) → get_elem? μ x ≡ get_elem? μ' x) where
  spared_alike : (x : ℕ) → spared sh μ ν x ≡ spared sh μ' ν x
  unfolding spared
  spared_alike x = go (names x sh.nodes) refl
    where
      go : (b : Bool) → names x sh.nodes ≡ b
          → same_bytes (encode (get_or μ x vfalse)) (encode (get_or ν x vfalse)) || b ≡ same_bytes (encode (get_or μ' x vfalse)) (encode (get_or ν x vfalse))
          || b
      go true e =
          or-true (same_bytes (encode (get_or μ x vfalse)) (encode (get_or ν x vfalse)))
          ∙ sym (or-true (same_bytes (encode (get_or μ' x vfalse)) (encode (get_or ν x vfalse))))
      go false e = rw (same_at μ' μ x (h x λ (i, s). names-false x sh.nodes e i s))

  spared_all_alike : (x n : ℕ) → spared_from sh μ ν x n ≡ spared_from sh μ' ν x n
  unfolding spared_from
  spared_all_alike x zero = refl
  spared_all_alike x (suc n) = rw (spared_alike x, spared_all_alike (suc x) n)

  kept_alike : kept sh μ ν ≡ kept sh μ' ν
  unfolding kept
  kept_alike = spared_all_alike 0 sh.k

pub old_alike : (sheet old old' view new : List ℕ) (allowance scratch : ℕ) {sh : Sheet} {μ μ' : Env} → read_sheet sheet ≡ ok sh
    → read_plan sh.k old ≡ ok μ → read_plan sh.k old' ≡ ok μ' → ((x : ℕ) → (Named sh x → ⊥) → get_elem? μ x ≡ get_elem? μ' x)
    → accepts_of sheet old view new allowance scratch ≡ accepts_of sheet old' view new allowance scratch
unfolding accepts_of judged_of and_then
old_alike sheet old old' view new allowance scratch {sh} {μ} {μ'} es eo eo' h =
    ap (λ r. unless 2 (leb scratch_size scratch) (unless 3 (leb 1 allowance) (unless 3 (leb allowance allowance_limit) r))) (rw (
      es,
      eo,
      eo',
    ) (go (read_view view)))
  where
    last : (r : Result Env) → (and_then r λ ν. and_then (result (get_walk allowance sh ν)) λ v. ok (same_bytes (encode v) view && kept sh μ ν))
        ≡ (and_then r λ ν. and_then (result (get_walk allowance sh ν)) λ v. ok (same_bytes (encode v) view && kept sh μ' ν))
    last (ok ν) = rw (kept_alike sh μ μ' ν h)
    last (refusal c) = refl

    go : (r : Result (List Value))
        → (and_then r λ _. and_then (or_code 85 (read_plan sh.k new)) λ ν. and_then (result (get_walk allowance sh ν)) λ v.
        ok (same_bytes (encode v) view && kept sh μ ν)) ≡ (and_then r λ _. and_then (or_code 85 (read_plan sh.k new)) λ ν.
        and_then (result (get_walk allowance sh ν)) λ v. ok (same_bytes (encode v) view && kept sh μ' ν))
    go (ok vs) = last (or_code 85 (read_plan sh.k new))
    go (refusal c) = refl

-- EXACTLY WHEN IT SAYS YES
judged_yes : (sheet old view new : List ℕ) (allowance : ℕ) {sh : Sheet} → read_sheet sheet ≡ ok sh → {μ ν : Env} → read_plan sh.k old ≡ ok μ
    → read_plan sh.k new ≡ ok ν → {v : Value} {n : ℕ} → get level_limit sh sh.root ν ≡ done v n → n ≤ allowance → view ≡ encode v → kept sh μ ν ≡ true
    → judged_of sheet old view new allowance ≡ ok true
unfolding judged_of get_walk and_then or_code result
judged_yes sheet old view new allowance {sh} es {μ} {ν} eo en {v} {n} walk few bytes all =
    let r = read_values_sound 20 sh.k new en in
    let good = after_at (rw walk at (get_readable level_limit sh (numbers_fit sheet sh es) sh.root ν r.readable)) in
    rw (bytes, es, eo, view_back v good, en, walk, done-within allowance v n few, same_refl (encode v), all)

-- what stands gets a yes
pub yes_when : {sheet old view new : List ℕ} {allowance : ℕ} → Conforms sheet old view new allowance → (scratch : ℕ) → scratch_size ≤ scratch
    → accepts_of sheet old view new allowance scratch ≡ ok true
unfolding accepts_of unless
yes_when {sheet} {old} {view} {new} {allowance} t scratch long =
    let (l, g) = get_shows (t.list get_output scratch_size (omega arith) (omega arith)).1 in
    let gs : g.sh ≡ t.sh = let z = g.sheet_read in let y = t.sheet_read in cc in
    let gp : g.μ ≡ t.ν = let z = rw gs at g.plan_read in let y = t.new_read in cc in
    rw (le-leb scratch_size scratch long, le-leb 1 allowance l.some_steps, le-leb allowance allowance_limit l.few_steps)
    (judged_yes sheet old view new allowance t.sheet_read t.old_read t.new_read (rw (gs, gp) at g.walk) g.few g.bytes
    (kept_so t.sh t.μ t.ν t.same))

then_ok : {A B : Type 0} (r : Result A) (f : A → Result B) {b : B} → and_then r f ≡ ok b → (a : A) × (r ≡ ok a) × (f a ≡ ok b)
unfolding and_then
then_ok (ok a) f e = (a, refl, e)
then_ok (refusal c) f e = let z : ◌≡◌ {A = ℕ} 0 1 = cc in absurd (omega arith)

unless-ok : {A : Type 0} (c : ℕ) (b : Bool) (r : Result A) {a : A} → unless c b r ≡ ok a → (b ≡ true) × (r ≡ ok a)
unfolding unless
unless-ok c true r e = (refl, e)
unless-ok c false r e = let z : ◌≡◌ {A = ℕ} 0 1 = cc in absurd (omega arith)

walk_ok : {A : Type 0} (o : Out A) {a : A} → result o ≡ ok a → (n : ℕ) × (o ≡ done a n)
unfolding result
walk_ok (done b n) {a} e = let z : b ≡ a = cc in (n, ap (λ x. done x n) z)
walk_ok (refused c n) e = let z : ◌≡◌ {A = ℕ} 0 1 = cc in absurd (omega arith)

pub read_85 : {A : Type 0} (r : Result A) {a : A} → or_code 85 r ≡ ok a → r ≡ ok a
unfolding or_code
read_85 (ok b) e = e
read_85 (refusal d) e = let z : ◌≡◌ {A = ℕ} 0 1 = cc in absurd (omega arith)

-- what gets a yes stands
pub yes_means : (sheet old view new : List ℕ) (allowance scratch : ℕ) → accepts_of sheet old view new allowance scratch ≡ ok true
    → Conforms sheet old view new allowance
unfolding accepts_of judged_of get_walk
yes_means sheet old view new allowance scratch e =
    let (_, e₁) = unless-ok _ _ _ e in let (least, e₂) = unless-ok _ _ _ e₁ in let (few, e₃) = unless-ok _ _ _ e₂ in
    let (sh, es, e₄) = then_ok _ _ e₃ in let (μ, eo, e₅) = then_ok _ _ e₄ in let (vs, ev, e₆) = then_ok _ _ e₅ in
    let (ν, en, e₇) = then_ok _ _ e₆ in let (v, ew, e₈) = then_ok _ _ e₇ in
    let en' = read_85 (read_plan sh.k new) en in
    let (n, ew') = walk_ok _ ew in let (walk, h) = within-done allowance _ ew' in
    let both : same_bytes (encode v) view && kept sh μ ν ≡ true = cc in
    let (list, rest) = and-true (same_bytes (encode v) view) (kept sh μ ν) both in
    record {
      sh = sh;
      sheet_read = es;
      μ = μ;
      old_read = eo;
      ν = ν;
      new_read = en';
      same = kept_says sh μ ν (read_values_sound 20 sh.k old eo).count (read_values_sound 20 sh.k new en').count rest;
      list = λ output scratch' ho hs. (
        n,
        get_answers
            (record { output_long = ho; scratch_long = hs; some_steps = leb-true 1 allowance least; few_steps = leb-true allowance allowance_limit few })
            (record { sh = sh; sheet_read = es; μ = ν; plan_read = en'; v = v; walk = walk; few = h; bytes = sym (same_bytes_lem (encode v) view list) }),
      );
    }

-- and what gets a no does not stand
pub no_means : (sheet old view new : List ℕ) (allowance scratch : ℕ) → accepts_of sheet old view new allowance scratch ≡ ok false
    → Conforms sheet old view new allowance → ⊥
unfolding accepts_of
no_means sheet old view new allowance scratch e t =
    let h = (unless-ok _ _ _ e).0 in
    let q = yes_when t scratch (leb-true scratch_size scratch h) in
    let z : ◌≡◌ {A = ℕ} 0 1 = cc in omega arith

-- WHATEVER PUT GIVES under an allowance gets a yes under it
pub put_stands : (sheet plan view : List ℕ) (allowance output scratch : ℕ) (new : List ℕ) (n : ℕ)
    → put_answer sheet plan view allowance output scratch ≡ success new n → Conforms sheet plan view new allowance
put_stands sheet plan view allowance output scratch new n e =
    let p = (put_shows e).1 in
    let w = put_writes p in
    record {
      sh = p.sh;
      sheet_read = p.sheet_read;
      μ = p.μ;
      old_read = p.plan_read;
      ν = _;
      new_read = w.new_read;
      same = unnamed_kept sheet plan view allowance output scratch new n e p.sheet_read p.plan_read w.new_read;
      list = λ output' scratch' ho hs. let (g, q, _) = consistency sheet plan view allowance output scratch new n e output' scratch' ho hs in (g, q);
    }

pub put_accepted : (sheet plan view : List ℕ) (allowance output scratch : ℕ) (new : List ℕ) (n : ℕ)
    → put_answer sheet plan view allowance output scratch ≡ success new n
    → (scratch' : ℕ) → scratch_size ≤ scratch' → accepts_of sheet plan view new allowance scratch' ≡ ok true
put_accepted sheet plan view allowance output scratch new n e = yes_when (put_stands sheet plan view allowance output scratch new n e)
