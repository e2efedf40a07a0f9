-- Request 14 of document 02, of the answers of whole calls on bytes.
use Rattle.std.specs.Prelude.{◌≡◌, refl, Bool, true, false, List, [], ◌∷◌, ℕ, zero, suc, ◌+◌, ◌*◌, ◌≤◌, ◌<◌, T, leb, ltb, length, get_or}
use Rattle.std.proofs.Common.{sym, ap, ap₂, ◌∙◌, arith, length-append, ltb-true, leb-true, leb-false, lt-ltb}
use Rattle.std.proofs.Math.Option.{some-injective}
use Rattle.std.proofs.Math.ListN.{get_elem?}
use Rattle.std.proofs.lemmas.Bool.{lt-leb}
use Rattle.value.specs.Result.{Result, ok, refusal, and_then, unless}
use Rattle.value.specs.Value.{Value, vfalse, size, encode, flat}
use Rattle.value.specs.Reading.{read_plan}
use Rattle.value.proofs.Encoding.{size-encode}
use Rattle.value.proofs.Laws.{read_values_sound}
use Rattle.node.specs.declared.Node.{Node}
use Rattle.node.specs.declared.Node.TheVariants.{False}
use Rattle.sheet.specs.Sheet.{Sheet, read_sheet}
use Rattle.sheet.specs.Laws.{sheet_ranges}
use Rattle.rules.specs.Numbers.{level_limit}
use Rattle.rules.specs.Outcome.{Out, done, refused, reading}
use Rattle.rules.specs.Counting.{Env, get}
use Rattle.rules.specs.Answer.{success, get_bytes, get_answer}
use Rattle.rules.proofs.Laws.Refusals.{table, among, Lists, l_done, l_refused, lists_get_bytes}
use Rattle.rules.proofs.Laws.Outcomes.{after_at}
use Rattle.rules.proofs.Laws.Answers.{get_shows}
use Rattle.rules.proofs.Laws.Trips.{get_short}
use Rattle.growth.specs.Growth.{plain, all_plain, entered, capped, growth_of}
use Rattle.growth.proofs.Counts.{capped_is}
use Rattle.growth.proofs.Grows.{OnlyAt, grows, covers}
use Rattle.growth.proofs.Tool.{plain_at}
use Rattle.growth.specs.Calls.{Plain}

same_values : (μ ν : Env) → length μ ≡ length ν → ((y : ℕ) → get_elem? μ y ≡ get_elem? ν y) → μ ≡ ν
same_values [] [] e h = refl
same_values [] (u ∷ ν) e h = absurd (omega arith)
same_values (v ∷ μ) [] e h = absurd (omega arith)
same_values (v ∷ μ) (u ∷ ν) e h = ap₂ (λ x xs. x ∷ xs) (some-injective _ _ (h 0)) (same_values μ ν (omega arith) λ y. h (suc y))

-- the bytes of two plans that differ only in variable x differ by its two values' bytes
flat_only : (x : ℕ) (μ ν : Env) → length μ ≡ length ν → OnlyAt x μ ν → length (flat ν) + size (get_or μ x vfalse) ≡ length (flat μ) + size (get_or ν x vfalse)
unfolding flat
flat_only x [] [] e h = refl
flat_only x [] (u ∷ ν) e h = absurd (omega arith)
flat_only x (v ∷ μ) [] e h = absurd (omega arith)
flat_only zero (v ∷ μ) (u ∷ ν) e h =
    let q : μ ≡ ν = same_values μ ν (omega arith) (λ y. h (suc y) λ z. omega arith) in
    let l = ap (λ (η : Env). length (flat η)) q in
    omega (arith, length-append (encode u) (flat ν), length-append (encode v) (flat μ), size-encode u, size-encode v)
flat_only (suc x) (v ∷ μ) (u ∷ ν) e h =
    let q : v ≡ u = some-injective _ _ (h 0 λ z. omega arith) in
    let l = ap size q in
    let t = flat_only x μ ν (omega arith) (λ y k. h (suc y) λ z. k (omega arith)) in
    omega (arith, length-append (encode u) (flat ν), length-append (encode v) (flat μ), size-encode u, size-encode v)

-- what a get that succeeds shows, of a sheet and a plan that are known
got : (sheet plan : List ℕ) {sh : Sheet} → read_sheet sheet ≡ ok sh → {μ : Env} → read_plan sh.k plan ≡ ok μ
    → (allowance output scratch : ℕ) (view : List ℕ) (n : ℕ) → get_answer sheet plan allowance output scratch ≡ success view n
    → (v : Value) × (get level_limit sh sh.root μ ≡ done v n) × (length view ≡ size v)
got sheet plan {sh} es {μ} ep allowance output scratch view n e =
    let (l, g) = get_shows e in
    let gs : g.sh ≡ sh = let z = g.sheet_read in cc in
    let gp : g.μ ≡ μ = let z = rw gs at g.plan_read in cc in
    (g.v, rw (gs, gp) at g.walk, ap length g.bytes ∙ size-encode g.v)

module _ (sheet plan plan' : List ℕ) {sh : Sheet} (es : read_sheet sheet ≡ ok sh) (kinds : Plain sh) (x : ℕ) {μ ν : Env}
    (ep : read_plan sh.k plan ≡ ok μ) (eq : read_plan sh.k plan' ≡ ok ν) (only : OnlyAt x μ ν)
    (allowance output scratch : ℕ) (view : List ℕ) (n : ℕ) (e : get_answer sheet plan allowance output scratch ≡ success view n)
    (allowance' output' scratch' : ℕ) (view' : List ℕ) (n' : ℕ) (e' : get_answer sheet plan' allowance' output' scratch' ≡ success view' n') where
  -- two plans that differ only in variable x, both read out: the list grows r times as much as the value
  pub growth : length view' + entered sh x sh.root * size (get_or μ x vfalse) ≡ length view + entered sh x sh.root * size (get_or ν x vfalse)
  growth =
      let (v, w, q) = got sheet plan es ep allowance output scratch view n e in
      let (v', w', q') = got sheet plan' es eq allowance' output' scratch' view' n' e' in
      let law = after_at (rw w' at (after_at (rw w at (grows sh (sheet_ranges sheet es) kinds x μ ν only level_limit sh.root)))) in
      rw (q, q') law

  -- and as the plan
  pub growth_plan : length view' + entered sh x sh.root * length plan ≡ length view + entered sh x sh.root * length plan'
  growth_plan =
      let p = read_values_sound 20 sh.k plan ep in let p' = read_values_sound 20 sh.k plan' eq in
      let d = flat_only x μ ν (p.count ∙ sym p'.count) only in
      let b = ap length p.bytes in let b' = ap length p'.bytes in
      let r : ℕ = entered sh x sh.root in
      let z : length plan' + size (get_or μ x vfalse) ≡ length plan + size (get_or ν x vfalse) = omega arith in
      let m : r * (length plan' + size (get_or μ x vfalse)) ≡ r * (length plan + size (get_or ν x vfalse)) = ap (λ (t : ℕ). r * t) z in
      omega (arith, growth)

  -- by exactly r × d
  pub longer : (d : ℕ) → length plan' ≡ length plan + d → length view' ≡ length view + entered sh x sh.root * d
  longer d h =
      let r : ℕ = entered sh x sh.root in
      let m : r * length plan' ≡ r * (length plan + d) = ap (λ (t : ℕ). r * t) h in
      omega (arith, growth_plan)

-- over 256 no plan reads out
pub over : (sheet : List ℕ) {sh : Sheet} → read_sheet sheet ≡ ok sh → Plain sh → (x : ℕ) → 256 < entered sh x sh.root
    → (plan : List ℕ) (allowance output scratch : ℕ) (view : List ℕ) (n : ℕ) → get_answer sheet plan allowance output scratch ≡ success view n → ⊥
over sheet {sh} es kinds x h plan allowance output scratch view n e =
    let (l, g) = get_shows e in
    let gs : g.sh ≡ sh = let z = g.sheet_read in cc in
    let w : get level_limit sh sh.root g.μ ≡ done g.v n = rw gs at g.walk in
    let c = after_at (rw w at (covers sh (sheet_ranges sheet es) kinds x g.μ level_limit sh.root)) in
    omega (arith, get_short sheet plan allowance output scratch view n e, ap length g.bytes ∙ size-encode g.v)

-- WHAT A TOOL REPORTS
pub all_plain_lem : (ns : List Node) → all_plain ns ≡ true → (n : ℕ) → T (plain (get_or ns n False))
all_plain_lem ns e n = rw (plain_at ns e n) tt

unless-ok : {A : Type 0} (c : ℕ) (b : Bool) (r : Result A) {a : A} → unless c b r ≡ ok a → (b ≡ true) × (r ≡ ok a)
unfolding unless
unless-ok c true r e = (refl, e)
unless-ok c false r e = let z : ◌≡◌ {A = ℕ} 0 1 = cc in absurd (omega arith)

then_ok : {A B : Type 0} (r : Result A) (f : A → Result B) {b : B} → and_then r f ≡ ok b → (a : A) × (r ≡ ok a) × (f a ≡ ok b)
unfolding and_then
then_ok (ok a) f e = (a, refl, e)
then_ok (refusal c) f e = let z : ◌≡◌ {A = ℕ} 0 1 = cc in absurd (omega arith)

-- a number that is reported: the sheet has only the kinds, x is a variable, and the number is r, which is at most 256
pub reported : (sheet : List ℕ) (x r : ℕ) → growth_of sheet x ≡ ok r
    → (sh : Sheet) × (read_sheet sheet ≡ ok sh) × Plain sh × (x < sh.k) × (r ≡ entered sh x sh.root) × (r ≤ 256)
unfolding growth_of
reported sheet x r e =
    let (sh, es, e₁) = then_ok _ _ e in let (p, e₂) = unless-ok _ _ _ e₁ in let (k, e₃) = unless-ok _ _ _ e₂ in let (c, e₄) = unless-ok _ _ _ e₃ in
    let h = leb-true (capped sh x) 256 c in
    let q : capped sh x ≡ r = cc in
    let m = capped_is sh (sheet_ranges sheet es) x in
    (sh, es, all_plain_lem sh.nodes p, ltb-true x sh.k k, omega arith, omega arith)

-- and where r is over 256 it is refused with 88
pub over_88 : (sheet : List ℕ) {sh : Sheet} → read_sheet sheet ≡ ok sh → (x : ℕ) → all_plain sh.nodes ≡ true → x < sh.k
    → 256 < entered sh x sh.root → growth_of sheet x ≡ refusal 88
unfolding growth_of and_then unless
over_88 sheet {sh} es x p k h =
    let m = capped_is sh (sheet_ranges sheet es) x in
    rw (es, p, lt-ltb x sh.k k, lt-leb (capped sh x) 256 (omega arith))

-- 88 COMES ONLY WHERE r IS OVER 256

-- a sheet is not refused by it
no_sheet_88 : (s : List ℕ) → read_sheet s ≡ refusal 88 → ⊥
unfolding get_bytes reading among table
no_sheet_88 s e = go (lists_get_bytes s [] 1) (rw e)
  where
    go : {o : Out (List ℕ)} → Lists o → o ≡ refused 88 0 → ⊥
    go l_done f = let z : ◌≡◌ {A = ℕ} 0 1 = cc in omega arith
    go (l_refused {c = c} h) f =
        let q : c ≡ 88 = cc in
        let l : false ≡ true = rw q at h in
        let z : ◌≡◌ {A = ℕ} 0 1 = cc in omega arith

-- where one test says no, its number is the refusal
unless_refused : {A : Type 0} (c : ℕ) (b : Bool) (r : Result A) {d : ℕ} → unless c b r ≡ refusal d → (c ≡ d → ⊥) → (b ≡ true) × (r ≡ refusal d)
unfolding unless
unless_refused c true r e n = (refl, e)
unless_refused c false r {d} e n = let z : c ≡ d = cc in absurd (n z)

last_refused : {A : Type 0} (c : ℕ) (b : Bool) (a : A) {d : ℕ} → unless c b (ok a) ≡ refusal d → b ≡ false
unfolding unless
last_refused c true a e = let z : ◌≡◌ {A = ℕ} 0 1 = cc in absurd (omega arith)
last_refused c false a e = refl

pub only_88 : (sheet : List ℕ) (x : ℕ) → growth_of sheet x ≡ refusal 88
    → (sh : Sheet) × (read_sheet sheet ≡ ok sh) × Plain sh × (x < sh.k) × (256 < entered sh x sh.root)
unfolding growth_of and_then
only_88 sheet x e = go (read_sheet sheet) refl e
  where
    go : (r : Result Sheet) → read_sheet sheet ≡ r
        → and_then r (λ sh. unless 87 (all_plain sh.nodes) (unless 23 (ltb x sh.k) (unless 88 (leb (capped sh x) 256) (ok (capped sh x))))) ≡ refusal 88
        → (sh : Sheet) × (read_sheet sheet ≡ ok sh) × Plain sh × (x < sh.k) × (256 < entered sh x sh.root)
    go (refusal c) es f = let q : c ≡ 88 = cc f in absurd (no_sheet_88 sheet (es ∙ ap refusal q))
    go (ok sh) es f =
        let (p, f₁) = unless_refused _ _ _ f (λ z. omega arith) in
        let (k, f₂) = unless_refused _ _ _ f₁ (λ z. omega arith) in
        let h = leb-false (capped sh x) 256 (last_refused _ _ _ f₂) in
        let m = capped_is sh (sheet_ranges sheet es) x in
        (sh, es, all_plain_lem sh.nodes p, ltb-true x sh.k k, omega arith)
