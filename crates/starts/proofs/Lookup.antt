-- What shows a lookup of the code: the starts judged one after another, and each return.
use Rattle.std.specs.Prelude.{◌≡◌, refl, Bool, true, false, cond, ◌&&◌, List, [], ◌∷◌, ◌++◌, ℕ, zero, suc, ◌+◌, ◌-◌, ◌≤◌, ◌<◌, leb, ltb, eqb, get_or}
use Rattle.std.specs.Prelude.{take, drop}
use Rattle.std.proofs.Math.Path.{sym}
use Rattle.std.proofs.Common.{ap, ◌∙◌, arith, length-append, drop-cons}
use Rattle.std.proofs.lemmas.Bool.{false≢true}
use Rattle.std.proofs.Math.Numerals.{add-one}
use borrow.Author.Tests.{ltb-true, leb-true, eqb-true, lt-ltb, le-ltb, le-leb, lt-leb, eq-eqb, ne_eqb}
use Rattle.std.proofs.Math.ListN.{length, get_or-append}
use Rattle.std.proofs.Math.Seq.{drop-length}
use Rattle.std.proofs.lemmas.List.{get_or_at, length-take, get_or-take}
use Rattle.starts.specs.declared.Starts.{Starts}
use Rattle.starts.specs.declared.Place.{Place}
use Rattle.value.specs.Result.{Result, ok, refusal}
use Rattle.starts.specs.Starts.{firsts, numbers, rises, proper, stands_at, find_of, part_of}

-- THE NUMBERS

pub length-firsts : (n : ℕ) (l : List ℕ) → length (firsts n l) ≡ n
length-firsts zero l = refl
length-firsts (suc n) [] = ap suc (length-firsts n [])
length-firsts (suc n) (a ∷ l) = ap suc (length-firsts n l)

pub firsts_at : (n : ℕ) (l : List ℕ) (i : ℕ) → i < n → get_or (firsts n l) i 0 ≡ get_or l i 0
firsts_at zero l i h = absurd (omega arith)
firsts_at (suc n) [] zero h = refl
firsts_at (suc n) [] (suc i) h = firsts_at n [] i (omega arith)
firsts_at (suc n) (a ∷ l) zero h = refl
firsts_at (suc n) (a ∷ l) (suc i) h = firsts_at n l i (omega arith)

pub firsts_more : (n : ℕ) (l : List ℕ) → firsts (suc n) l ≡ firsts n l ++ (get_or l n 0 ∷ [])
firsts_more zero [] = refl
firsts_more zero (a ∷ l) = refl
firsts_more (suc n) [] = ap (λ (m : List ℕ). 0 ∷ m) (firsts_more n [])
firsts_more (suc n) (a ∷ l) = ap (λ (m : List ℕ). a ∷ m) (firsts_more n l)

pub firsts_all : (l r : List ℕ) (n : ℕ) → n ≡ length l → firsts n (l ++ r) ≡ l
firsts_all l r n e = rw e (go l)
  where
    go : (l : List ℕ) → firsts (length l) (l ++ r) ≡ l
    go [] = refl
    go (a ∷ l) = ap (λ m. a ∷ m) (go l)

module _ (s : Starts) (n : ℕ) where
  -- HOW MANY, AND FROM 0

  pub none_there : s.count ≡ 0 → false ≡ proper s n
  unfolding proper
  none_there e = sym (rw e)

  pub too_many : 16 < s.count → false ≡ proper s n
  unfolding proper
  too_many h = sym (rw (le-leb 1 s.count (omega arith), lt-leb s.count 16 h))

  pub not_from_0 : 1 ≤ s.count → s.count ≤ 16 → (get_or s.at 0 0 ≡ 0 → ⊥) → false ≡ proper s n
  unfolding proper
  not_from_0 h l z = sym (rw (le-leb 1 s.count h, le-leb s.count 16 l, ne_eqb (get_or s.at 0 0) 0 z))

  -- ONE AFTER ANOTHER

  -- i of the numbers are judged, and what is left is to rise from `low` on
  pub record Judged (low i : ℕ) : Type 0 where
    pub within : i ≤ s.count
    pub few : s.count ≤ 16
    pub left : proper s n ≡ rises low n (drop i (numbers s))

  pub judged_none : 1 ≤ s.count → s.count ≤ 16 → get_or s.at 0 0 ≡ 0 → Judged 0 0
  unfolding proper
  judged_none h l z = record {
    within = omega arith;
    few = l;
    left = rw (le-leb 1 s.count h, le-leb s.count 16 l, eq-eqb (get_or s.at 0 0) 0 z);
  }

  module _ {low i : ℕ} (j : Judged low i) where
    module _ (h : i < s.count) {a : ℕ} (e : a ≡ get_or s.at i 0) where
      next : drop i (numbers s) ≡ a ∷ drop (suc i) (numbers s)
      next = rw (e, ← firsts_at s.count s.at i h) (drop-cons (numbers s) i 0 (rw length-firsts h))

      pub falls : a < low → false ≡ proper s n
      unfolding rises
      falls l = sym (j.left ∙ rw (next, lt-leb low a l))

      pub too_far : low ≤ a → n ≤ a → false ≡ proper s n
      unfolding rises
      too_far l f = sym (j.left ∙ rw (next, le-leb low a l, le-ltb a n f))

      pub judged_more : low ≤ a → a < n → Judged (a + 1) (i + 1)
      unfolding rises
      judged_more l f = record {
        within = omega arith;
        few = j.few;
        left = j.left ∙ rw (next, le-leb low a l, lt-ltb a n f, add-one a, add-one i);
      }

    pub judged_all : s.count ≤ i → true ≡ proper s n
    unfolding rises
    judged_all h =
        let e : i ≡ length (numbers s) = omega (arith, j.within, length-firsts s.count s.at) in
        sym (j.left ∙ rw (e, drop-length (numbers s)))

-- the numbers as the code takes them
pub item_at : (n : ℕ) (l : List ℕ) (i : ℕ) {c : ℕ} → n ≡ c → i < length (take n l) → (i < c) × (get_or (take n l) i 0 ≡ get_or l i 0)
item_at n l i e h = let k : i < n = omega (arith, length-take n l) in (omega arith, get_or-take n l i 0 k)

pub items_all : (n : ℕ) (l : List ℕ) (i : ℕ) {c : ℕ} → n ≡ c → c ≤ length l → length (take n l) ≤ i → c ≤ i
items_all n l i e f h = omega (arith, length-take n l)

-- WHAT PROPER STARTS ARE

both : (a b : Bool) → (a && b) ≡ true → (a ≡ true) × (b ≡ true)
both true b e = (refl, e)
both false b e = absurd (false≢true e)

-- numbers from `low` on that rise, all below n
pub data Rising (n : ℕ) : ℕ → List ℕ → Type 0 where
  end : {low : ℕ} → Rising n low []
  over : {low a : ℕ} {l : List ℕ} → low ≤ a → a < n → Rising n (suc a) l → Rising n low (a ∷ l)

rising : (n low : ℕ) (l : List ℕ) → rises low n l ≡ true → Rising n low l
unfolding rises
rising n low [] e = end
rising n low (a ∷ l) e =
    let p = both (leb low a) _ e in
    let q = both (ltb a n) _ p.1 in
    over (leb-true low a p.0) (ltb-true a n q.0) (rising n (suc a) l q.1)

pub rises_so : {n low : ℕ} {l : List ℕ} → Rising n low l → rises low n l ≡ true
unfolding rises
rises_so end = refl
rises_so {n} {low} (over {a = a} h k r) = rw (le-leb low a h, lt-ltb a n k) (rises_so r)

pub record Proper (s : Starts) (n : ℕ) : Type 0 where
  pub some : 1 ≤ s.count
  pub few : s.count ≤ 16
  pub from_0 : get_or s.at 0 0 ≡ 0
  pub rising : Rising n 0 (numbers s)

pub proper_is : (s : Starts) (n : ℕ) → proper s n ≡ true → Proper s n
unfolding proper
proper_is s n e =
    let p = both (leb 1 s.count) _ e in
    let q = both (leb s.count 16) _ p.1 in
    let r = both (eqb (get_or s.at 0 0) 0) _ q.1 in
    record {
      some = leb-true 1 s.count p.0;
      few = leb-true s.count 16 q.0;
      from_0 = eqb-true _ 0 r.0;
      rising = rising n 0 (numbers s) r.1;
    }

pub proper_so : {s : Starts} {n : ℕ} → Proper s n → proper s n ≡ true
unfolding proper
proper_so {s} {n} p = rw (le-leb 1 s.count p.some, le-leb s.count 16 p.few, eq-eqb (get_or s.at 0 0) 0 p.from_0) (rises_so p.rising)

-- each of them, and the next one
rising_at : {n low : ℕ} {l : List ℕ} (i : ℕ) → Rising n low l → i < length l → (low ≤ get_or l i 0) × (get_or l i 0 < n)
rising_at i end h = absurd (omega arith)
rising_at zero (over p q r) h = (p, q)
rising_at (suc i) (over p q r) h = let k = rising_at i r (omega arith) in (omega (arith, k.0), k.1)

rising_next : {n low : ℕ} {l : List ℕ} (i : ℕ) → Rising n low l → suc i < length l → get_or l i 0 < get_or l (suc i) 0
rising_next i end h = absurd (omega arith)
rising_next zero (over p q r) h = (rising_at 0 r (omega arith)).0
rising_next (suc i) (over p q r) h = rising_next i r (omega arith)

-- and the plan's end behind them
rising_to_end : {n low : ℕ} {l : List ℕ} → Rising n low l → low ≤ n → Rising (suc n) low (l ++ (n ∷ []))
rising_to_end end h = over h (omega arith) end
rising_to_end (over p q r) h = over p (omega arith) (rising_to_end r (omega arith))

-- THE RETURNS OF A LOOKUP

module _ (s : Starts) (n i : ℕ) where
  pub find_24 : proper s n ≡ false → refusal 24 ≡ find_of s n i
  unfolding find_of
  find_24 e = sym (rw e)

  module _ (e : proper s n ≡ true) where
    pub find_23 : s.count ≤ i → refusal 23 ≡ find_of s n i
    unfolding find_of
    find_23 h = sym (rw (e, le-ltb i s.count h))

    module _ (h : i < s.count) where
      many : length (numbers s) ≡ s.count
      many = length-firsts s.count s.at

      pub find_at : {a b : ℕ} → a ≡ get_or s.at i 0 → b ≡ get_or (numbers s ++ (n ∷ [])) (i + 1) 0 → ok (record { start = a; end = b }) ≡ find_of s n i
      unfolding find_of stands_at
      find_at p q = sym (rw (e, lt-ltb i s.count h, firsts_at s.count s.at i h, p, q, add-one))

      -- the last value ends where the plan does, any other where the next one starts
      pub last_end : i + 1 ≡ s.count → n ≡ get_or (numbers s ++ (n ∷ [])) (i + 1) 0
      last_end l = sym (get_or_at (numbers s) n [] 0 (i + 1) (many ∙ sym l))

      pub next_end : (i + 1 ≡ s.count → ⊥) → get_or s.at (i + 1) 0 ≡ get_or (numbers s ++ (n ∷ [])) (i + 1) 0
      next_end l =
          let k : i + 1 < s.count = omega arith in
          sym (get_or-append (numbers s) (n ∷ []) 0 (i + 1) (omega (arith, many)) ∙ firsts_at s.count s.at (i + 1) k)

-- what is found lies within the plan, and is not empty
pub record Inside (n a b : ℕ) : Type 0 where
  pub some : a < b
  pub within : b ≤ n

pub found_inside : (s : Starts) (n i : ℕ) {p : Place} → ok p ≡ find_of s n i → Inside n p.start p.end
unfolding find_of stands_at
found_inside s n i {p} e = go (proper s n) (ltb i s.count) refl refl e
  where
    ends : List ℕ
    ends = numbers s ++ (n ∷ [])

    go : (a b : Bool) → proper s n ≡ a → ltb i s.count ≡ b → ok p ≡ cond a (cond b (ok (stands_at s n i)) (refusal 23)) (refusal 24) → Inside n p.start p.end
    go false b w l f = absurd (cc)
    go true false w l f = absurd (cc)
    go true true w l f =
        let w = proper_is s n w in
        let m : length (numbers s) ≡ s.count = length-firsts s.count s.at in
        let h : i < s.count = ltb-true i s.count l in
        let k : suc i < length ends = rw length-append (omega (arith, m)) in
        let r : Rising (suc n) 0 ends = rising_to_end w.rising (omega arith) in
        let x : get_or ends i 0 ≡ get_or (numbers s) i 0 = get_or-append (numbers s) (n ∷ []) 0 i (omega (arith, m)) in
        let q : p ≡ stands_at s n i = cc in
        let y : p.start ≡ get_or (numbers s) i 0 = ap (λ (p : Place). p.start) q in
        let z : p.end ≡ get_or ends (suc i) 0 = ap (λ (p : Place). p.end) q in
        record { some = omega (arith, rising_next i r k, x, y, z); within = omega (arith, (rising_at (suc i) r k).1, z) }

-- THE PART OF THE PLAN

pub part_found : {f : Result Place} {p : Place} (plan : List ℕ) → ok p ≡ f → take (p.end - p.start) (drop p.start plan) ≡ part_of f plan
unfolding part_of
part_found plan e = rw (← e)

pub part_refused : {f : Result Place} {c : ℕ} (plan : List ℕ) → refusal c ≡ f → [] ≡ part_of f plan
unfolding part_of
part_refused plan e = rw (← e)
