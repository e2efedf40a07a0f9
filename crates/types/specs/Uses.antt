-- How often nodes are used, in an array: 2 stands for two and more.
use Rattle.std.specs.Prelude.{◌≡◌, refl, Bool, true, false, List, [], ◌∷◌, ◌++◌, eqb, ltb, length, get_or, set, take, replicate, ◌==◌, position}
use Rattle.std.specs.List.{position_or_len}
use Rattle.std.proofs.lemmas.List.Sums.{position_or_len_is}
use Rattle.std.proofs.Common.{zero-add, le-ltb}
use Rattle.std.proofs.Common.{sym, ap, ◌∙◌, append-nil, get_or-set_same, get_or-set_other, take-suc, take_all, length-set, eq-eqb, ne_eqb, lt-ltb}
use Rattle.std.proofs.Math.Option.{Option, none, some}
use Prim.Native.Nat.{ℕ, zero, suc, ◌+◌, ◌-◌, ◌≤◌, ◌<◌}
use native.Mathlib.Omega.{arith}
use Rattle.std.proofs.Math.Decide.{ℕ_discrete}
use Rattle.std.proofs.lemmas.List.{get_or-replicate, get_or-take, length-take, length-take-le}
use Rattle.sheet.specs.Sheet.{Sheet}
use Rattle.node.specs.Decoding.{node_at}
use Rattle.sheet.specs.Table.{section_at}
use Rattle.sheet.specs.Laws.{Reads}
use Rattle.sheet.specs.declared.Table.{Table}
use Rattle.node.specs.Kinds.{children}
use Rattle.node.specs.declared.Node.{Node}
use Rattle.typing.specs.Check.{count, used, twice, lowest}
use Rattle.typing.proofs.CheckLaws.{NoneBelow, Lowest, no_such, such, lowest_is, count-append}
use Rattle.std.specs.Prelude.{None, Some}
use Rattle.std.specs.Prelude as Code

-- the lowest node, as the code answers it
unfoldable pub lowest_in : Option ℕ → Code.Option ℕ
lowest_in none = None
lowest_in (some n) = Some n

unfoldable pub capped : ℕ → ℕ
capped zero = 0
capped (suc zero) = 1
capped (suc (suc n)) = 2

-- the uses of the list
pub record Counted (uses l : List ℕ) : Type 0 where
  pub long : length uses ≡ 200
  pub is : (m : ℕ) → m < 200 → get_or uses m 0 ≡ capped (count m l)

pub counted_none : Counted (replicate 200 0) []
unfolding capped count
counted_none = record { long = refl; is = λ m h. get_or-replicate 200 m 0 0 h }

capped_more : (c : ℕ) → capped c < 2 → capped (c + 1) ≡ capped c + 1
unfolding capped
capped_more zero h = refl
capped_more (suc zero) h = refl
capped_more (suc (suc c)) h = absurd (omega arith)

capped_full : (c : ℕ) → 2 ≤ capped c → capped (c + 1) ≡ capped c
unfolding capped
capped_full zero h = absurd (omega arith)
capped_full (suc zero) h = absurd (omega arith)
capped_full (suc (suc c)) h = let z : suc (suc c) + 1 ≡ suc (suc (c + 1)) = omega arith in rw z

capped_twice : (c : ℕ) → eqb (capped c) 2 ≡ ltb 1 c
unfolding capped
capped_twice zero = refl
capped_twice (suc zero) = refl
capped_twice (suc (suc c)) = sym (lt-ltb 1 (suc (suc c)) (omega arith))

module _ {uses l : List ℕ} (k : Counted uses l) (n : ℕ) where
  same : (m : ℕ) → m ≡ n → count m (l ++ (n ∷ [])) ≡ count m l + 1
  unfolding count
  same m e = count-append m l (n ∷ []) ∙ rw (eq-eqb m n e)

  other : (m : ℕ) → (m ≡ n → ⊥) → count m (l ++ (n ∷ [])) ≡ count m l
  unfolding count
  other m e = count-append m l (n ∷ []) ∙ rw (ne_eqb m n e) (omega arith)

  pub counted_past : 200 ≤ n → Counted uses (l ++ (n ∷ []))
  counted_past h = record { long = k.long; is = λ m q. k.is m q ∙ sym (ap capped (other m (λ e. absurd (omega arith)))) }

  pub counted_full : 2 ≤ get_or uses n 0 → Counted uses (l ++ (n ∷ []))
  counted_full h = record { long = k.long; is = λ m q. go m q (ℕ_discrete m n) }
    where
      go : (m : ℕ) → m < 200 → Dec (m ≡ n) → get_or uses m 0 ≡ capped (count m (l ++ (n ∷ [])))
      go m q (yes e) =
          let f : 2 ≤ capped (count m l) = rw (← k.is m q, e) h in
          k.is m q ∙ sym (ap capped (same m e) ∙ capped_full (count m l) f)
      go m q (no e) = k.is m q ∙ sym (ap capped (other m e))

  pub counted_more : n < 200 → get_or uses n 0 < 2 → Counted (set uses n (get_or uses n 0 + 1)) (l ++ (n ∷ []))
  counted_more b h = record { long = length-set uses n _ ∙ k.long; is = λ m q. go m q (ℕ_discrete m n) }
    where
      go : (m : ℕ) → m < 200 → Dec (m ≡ n) → get_or (set uses n (get_or uses n 0 + 1)) m 0 ≡ capped (count m (l ++ (n ∷ [])))
      go m q (yes e) =
          let w = k.is n b in
          let f : capped (count n l) < 2 = rw (← w) h in
          rw (e, get_or-set_same uses n (get_or uses n 0 + 1) 0 (omega (arith, k.long)), same n refl, capped_more (count n l) f, w)
      go m q (no e) = get_or-set_other uses n m _ 0 e ∙ k.is m q ∙ sym (ap capped (other m e))

-- as many uses as the children of a node have
pub as_node : {uses : List ℕ} (l : List ℕ) {n m : Node} → n ≡ m → Counted uses (l ++ children m) → Counted uses (l ++ children n)
as_node l e k = rw e k

pub as_none : {uses : List ℕ} (l : List ℕ) (n : Node) → children n ≡ [] → Counted uses l → Counted uses (l ++ children n)
as_none l n e k = rw (e, append-nil l) k

-- THE PLACES of the nodes, one after another
module _ (t : Table) {i : ℕ} where
  pub early : i < length (take t.nodes t.starts) → i < t.nodes
  early h = omega (arith, length-take t.nodes t.starts)

  pub late : length (take t.nodes t.starts) ≤ i → t.nodes ≤ length t.starts → t.nodes ≤ i
  late h l = omega (arith, length-take t.nodes t.starts)

  pub place_in : {a : ℕ} → i < length (take t.nodes t.starts) → a ≡ get_or (take t.nodes t.starts) i 0 → a ≡ get_or t.starts i 0
  place_in h e = e ∙ get_or-take t.nodes t.starts i 0 (early h)

-- THE LOWEST

pub lowest_same : (p q : ℕ → Bool) (i left : ℕ) → ((n : ℕ) → i ≤ n → n < i + left → p n ≡ q n) → lowest p i left ≡ lowest q i left
unfolding lowest
lowest_same p q i zero h = refl
lowest_same p q i (suc left) h =
    rw (h i (omega arith) (omega arith), lowest_same p q (suc i) left (λ n a b. h n (omega arith) (omega arith)))

-- those below i say no
pub record Lower (p : ℕ → Bool) (i nodes : ℕ) : Type 0 where
  pub far : i ≤ nodes
  pub is : lowest p 0 nodes ≡ lowest p i (nodes - i)

pub lower_none : (p : ℕ → Bool) (nodes : ℕ) → Lower p 0 nodes
lower_none p nodes = let z : nodes - 0 ≡ nodes = omega arith in record { far = omega arith; is = rw z }

module _ (p : ℕ → Bool) {i nodes : ℕ} (w : Lower p i nodes) where
  pub lower_next : i < nodes → p i ≡ false → Lower p (i + 1) nodes
  unfolding lowest
  lower_next h e = record {
    far = omega arith;
    is = w.is ∙ (let z : nodes - i ≡ suc (nodes - (i + 1)) = omega arith in let y : suc i ≡ i + 1 = omega arith in rw (z, e, y));
  }

  pub lower_found : i < nodes → p i ≡ true → Some i ≡ lowest_in (lowest p 0 nodes)
  unfolding lowest lowest_in
  lower_found h e = let z : nodes - i ≡ suc (nodes - (i + 1)) = omega arith in rw (w.is, z, e)

  pub lower_done : nodes ≤ i → None ≡ lowest_in (lowest p 0 nodes)
  unfolding lowest lowest_in
  lower_done h = let z : nodes - i ≡ 0 = omega arith in rw (w.is, z)

-- the first of so many, as the code looks for it
position_lowest : (uses : List ℕ) (n : ℕ) → n ≤ length uses
    → position (λ m. m == 2) (take n uses) ≡ lowest_in (lowest (λ m. eqb (get_or uses m 0) 2) 0 n)
unfolding lowest_in
position_lowest uses n h = go (rw zero-add at (lowest_is (λ m. eqb (get_or uses m 0) 2) 0 n))
  where
    long : length (take n uses) ≡ n
    long = length-take-le n uses h

    before : (i : ℕ) → i ≤ n → NoneBelow (λ m. eqb (get_or uses m 0) 2) 0 i → (i < n → eqb (get_or uses i 0) 2 ≡ true)
        → position_or_len (λ m. m == 2) (take n uses) ≡ i
    before i l f g = position_or_len_is (λ m. m == 2) (take n uses) i 0 (omega (arith, long))
        (λ k d. rw (get_or-take n uses k 0 (omega arith)) (f k (omega arith) d))
        λ d. rw (get_or-take n uses i 0 (omega (arith, long))) (g (omega (arith, long)))

    go : {o : Option ℕ} → Lowest (λ m. eqb (get_or uses m 0) 2) 0 n o → position (λ m. m == 2) (take n uses) ≡ lowest_in o
    go (no_such f) = rw (before n (omega arith) f (λ d. absurd (omega arith)), long, le-ltb n n (omega arith))
    go (such {n = m} a l t f) = rw (before m (omega arith) f (λ d. t), long, lt-ltb m n l)

-- THE USES OF A SHEET

pub twice_found : (sh : Sheet) {uses : List ℕ} → length sh.nodes ≤ 200 → Counted uses (used sh (length sh.nodes))
    → lowest (λ n. eqb (get_or uses n 0) 2) 0 (length sh.nodes) ≡ lowest (twice sh) 0 (length sh.nodes)
unfolding twice
twice_found sh {uses} few k = lowest_same (λ n. eqb (get_or uses n 0) 2) (twice sh) 0 (length sh.nodes)
    λ n a b. ap (λ c. eqb c 2) (k.is n (omega arith)) ∙ capped_twice (count n (used sh (length sh.nodes)))

-- one root more
pub one_root : (rs : List ℕ) (c root : ℕ) → c < length rs → (root ∷ take c rs) ++ (get_or rs c 0 ∷ []) ≡ root ∷ take (c + 1) rs
one_root rs c root h = let z : c + 1 ≡ suc c = omega arith in rw (z, take-suc rs c 0)

-- the root and the first c sections' roots
pub record Roots (sheet : List ℕ) (sections : ℕ) (rs : List ℕ) : Type 0 where
  pub many : length rs ≡ sections
  pub each : (i : ℕ) → i < length rs → section_at sheet i ≡ get_or rs i 0

pub roots_next : {uses sheet rs : List ℕ} {sections c r root : ℕ} → Roots sheet sections rs → c < sections → r ≡ section_at sheet c
    → Counted uses ((root ∷ take c rs) ++ (r ∷ [])) → Counted uses (root ∷ take (c + 1) rs)
roots_next {rs} {c} {root} w h e k =
    let l : c < length rs = omega (arith, w.many) in let q : get_or rs c 0 ≡ _ = sym (e ∙ w.each c l) in
    rw (one_root rs c root l) at (rw (← q) at k)

pub roots_done : {uses sheet rs : List ℕ} {sections c root : ℕ} → Roots sheet sections rs → sections ≤ c → Counted uses (root ∷ take c rs)
    → Counted uses (root ∷ rs)
roots_done {rs} {c} w h k = rw (take_all c rs (omega (arith, w.many))) at k

-- as the table of a sheet tells them
module _ {s : List ℕ} {t : Table} {sh : Sheet} (r : Reads s t sh) where
  pub sheet_roots : Roots s t.sections sh.sections
  sheet_roots = record { many = sym r.sections; each = r.section }

  pub used_none : {uses : List ℕ} → Counted uses (t.root ∷ sh.sections) → Counted uses (used sh 0)
  unfolding used
  used_none k = rw r.root at k

  pub used_next : {uses : List ℕ} {i : ℕ} {n : Node} → i < t.nodes → n ≡ node_at s (get_or t.starts i 0) → Counted uses (used sh i ++ children n)
      → Counted uses (used sh (i + 1))
  unfolding used
  used_next {i} h e k =
      let z : i + 1 ≡ suc i = omega arith in let q = e ∙ r.node i (omega (arith, r.nodes)) in
      rw z (rw q at k)

  pub used_told : {uses : List ℕ} {i : ℕ} {a : Code.Option ℕ} → t.nodes ≤ i → i ≤ length (take t.nodes t.starts) → Counted uses (used sh i)
      → a ≡ position (λ n. n == 2) (take t.nodes uses) → a ≡ lowest_in (lowest (twice sh) 0 (length sh.nodes))
  used_told {uses} {i} g l k e =
      let q : i ≡ length sh.nodes = omega (arith, r.nodes, length-take t.nodes t.starts) in
      let f = r.ranges.few_nodes in
      e ∙ position_lowest uses t.nodes (omega (arith, k.long, r.nodes)) ∙ ap lowest_in (rw r.nodes (twice_found sh f (rw q at k)))
