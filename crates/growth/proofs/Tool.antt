-- What the tool of request 14 tells, and its counts.
use Rattle.std.specs.Prelude.{◌≡◌, refl, Bool, true, false, ◌&&◌, List, [], ◌∷◌, ℕ, zero, suc, ◌+◌, ◌-◌, ◌≤◌, ◌<◌, min, get_or, take, drop, set, replicate}
use Rattle.std.specs.Prelude.{cond, eqb}
use Rattle.std.proofs.Math.Path.{sym}
use Rattle.std.proofs.Common.{ap, ◌∙◌, add-one, arith, drop_of_length-le, length-set, drop-cons, get_or-set_same, get_or-set_other}
use Rattle.std.proofs.Math.Decide.{ℕ_discrete}
use Rattle.std.proofs.Math.ListN.{length}
use Rattle.std.proofs.lemmas.List.{get_or-take, length-take}
use borrow.Author.Tests.{lt-ltb, le-ltb, lt-leb, le-leb}
use mir.Val.{bool_byte}
use Rattle.value.specs.Result.{ok, refusal, and_then, map_result, unless}
use Rattle.value.proofs.Laws.{and-true}
use Rattle.node.specs.declared.Node.{Node}
use Rattle.node.specs.declared.Node.TheVariants.{False, Var, Front, Pair, Add}
use Rattle.sheet.specs.declared.Table.{Table}
use Rattle.node.specs.Kinds.{children, variables}
use Rattle.sheet.specs.Sheet.{Sheet, read_sheet}
use Rattle.node.specs.Decoding.{node_at}
use Rattle.sheet.specs.Table.{table_of}
use Rattle.sheet.specs.Laws.{Reads, table_refused, table_reads}
use Rattle.growth.specs.Growth.{plain, all_plain, own, entered, capped, growth_of}
use Rattle.growth.proofs.Counts.{none_behind, one_capped, capped_is}
use Rattle.growth.specs.Tool.{Plains, AllJudged, Readied, OneCounted, Counts, Counted}

same_sheet : (s : List ℕ) {sh sh' : Sheet} → read_sheet s ≡ ok sh → read_sheet s ≡ ok sh' → sh ≡ sh'
same_sheet s e f = cc

pub plains_none : (s : List ℕ) (t : Table) → Plains s t 0
plains_none s t = record { few = omega arith; rest = λ sh r. refl }

next_plain : (ns : List Node) (i : ℕ) → i < length ns → all_plain (drop i ns) ≡ plain (get_or ns i False) && all_plain (drop (i + 1) ns)
unfolding all_plain
next_plain ns i h = rw (add-one, drop-cons ns i False)

-- the places of the table's nodes, one by one
module _ (t : Table) {i : ℕ} where
  pub early : i < length (take t.nodes t.starts) → i < t.nodes
  early h = omega (arith, length-take t.nodes t.starts)

  pub node_in : (s : List ℕ) {n : Node} {a : ℕ} → i < length (take t.nodes t.starts) → n ≡ node_at s a → a ≡ get_or (take t.nodes t.starts) i 0
      → n ≡ node_at s (get_or t.starts i 0)
  node_in s h e f = e ∙ ap (node_at s) (f ∙ get_or-take t.nodes t.starts i 0 (early h))

  pub late : length (take t.nodes t.starts) ≤ i → t.nodes ≤ length t.starts → t.nodes ≤ i
  late h l = omega (arith, length-take t.nodes t.starts)

module _ {s : List ℕ} {t : Table} (q : Readied s t) {i : ℕ} (to : Plains s t i) where
  pub plains_all : t.nodes ≤ i → AllJudged s true
  unfolding all_plain
  plains_all h sh e =
      let z : q.sh ≡ sh = same_sheet s q.reads.sheet e in
      let l : length q.sh.nodes ≤ i = omega (arith, q.reads.nodes) in
      rw z at (sym (rw (drop_of_length-le q.sh.nodes l) at (to.rest q.sh q.reads)))

  module _ (h : i < t.nodes) {n : Node} (e : n ≡ node_at s (get_or t.starts i 0)) {b : Bool} (p : b ≡ plain n) where
    judged : (sh : Sheet) → Reads s t sh → all_plain sh.nodes ≡ b && all_plain (drop (i + 1) sh.nodes)
    judged sh r =
        let l : i < length sh.nodes = omega (arith, r.nodes) in
        let k : get_or sh.nodes i False ≡ n = sym (r.node i l) ∙ sym e in
        rw (to.rest sh r, next_plain sh.nodes i l, k, ← p)

    pub plain_out : b ≡ false → AllJudged s false
    plain_out o sh f =
        let z : q.sh ≡ sh = same_sheet s q.reads.sheet f in
        rw z at (sym (rw o at (judged q.sh q.reads)))

    pub plain_in : b ≡ true → Plains s t (i + 1)
    plain_in o = record { few = omega arith; rest = λ sh r. rw o at (judged sh r) }

-- ONE NODE'S COUNT
module _ {n : Node} (x : ℕ) (counts : List ℕ) where
  pub var_counted : {y r : ℕ} → n ≡ Var y → r ≡ bool_byte (eqb y x) → OneCounted n x counts r
  unfolding own children variables
  var_counted {y} e h p = rw (e, h) (one (eqb y x))
    where
      one : (b : Bool) → bool_byte b ≡ min 257 (cond b 1 0 + 0)
      one true = refl
      one false = refl

  module _ {a b ca cb r : ℕ} (first : ca ≡ get_or counts a 0) (second : cb ≡ get_or counts b 0) (sum : r ≡ min 257 (ca + cb)) where
    pub front_counted : n ≡ Front a b → OneCounted n x counts r
    unfolding own children
    front_counted e p = rw e (omega arith)

    pub pair_counted : n ≡ Pair a b → OneCounted n x counts r
    unfolding own children
    pair_counted e p = rw e (omega arith)

  pub add_counted : {a m ca r : ℕ} → n ≡ Add a m → ca ≡ get_or counts a 0 → r ≡ min 257 (ca + 0) → OneCounted n x counts r
  unfolding own children
  add_counted e first sum p = rw e (omega arith)

-- THE COUNTS of the nodes from i on
pub plain_at : (ns : List Node) → all_plain ns ≡ true → (i : ℕ) → plain (get_or ns i False) ≡ true
unfolding all_plain
plain_at [] e i = refl
plain_at (n ∷ ns) e zero = (and-true (plain n) (all_plain ns) e).0
plain_at (n ∷ ns) e (suc i) = plain_at ns (and-true (plain n) (all_plain ns) e).1 i

zeros : (n j : ℕ) → get_or {A = ℕ} (replicate n 0) j 0 ≡ 0
zeros zero j = refl
zeros (suc n) zero = refl
zeros (suc n) (suc j) = zeros n j

pub counts_none : (s : List ℕ) (t : Table) (x : ℕ) → Counts s t x (replicate 200 0) t.nodes
counts_none s t x = record {
  few = omega arith;
  long = refl;
  at = λ sh r p j h. rw (none_behind sh r.ranges x j (omega (arith, r.nodes))) (zeros 200 j);
}

module _ {s : List ℕ} {t : Table} (q : Readied s t) {x : ℕ} {counts : List ℕ} where
  pub counts_more : {i : ℕ} → Counts s t x counts i → 0 < i → {n : Node} → n ≡ node_at s (get_or t.starts (i - 1) 0) → {r : ℕ} → OneCounted n x counts r
      → Counts s t x (set counts (i - 1) r) (i - 1)
  counts_more {i} to h {n} e {r} o = record { few = omega (arith, to.few); long = length-set counts (i - 1) r ∙ to.long; at = counted }
    where
      last : (sh : Sheet) → Reads s t sh → all_plain sh.nodes ≡ true → r ≡ min 257 (entered sh x (i - 1))
      last sh rd p =
          let l : i - 1 < length sh.nodes = omega (arith, rd.nodes, to.few) in
          let k : n ≡ get_or sh.nodes (i - 1) False = e ∙ rd.node (i - 1) l in
          o (rw k (plain_at sh.nodes p (i - 1)))
          ∙ rw k (one_capped sh rd.ranges x (i - 1) (λ c. get_or counts c 0) (λ c g. to.at sh rd p c (omega arith)))

      here : (sh : Sheet) → Reads s t sh → all_plain sh.nodes ≡ true → (j : ℕ) → i - 1 ≤ j → Dec (j ≡ i - 1)
          → get_or (set counts (i - 1) r) j 0 ≡ min 257 (entered sh x j)
      here sh rd p j g (yes z) =
          let f = rd.ranges.few_nodes in
          rw z (get_or-set_same counts (i - 1) r 0 (omega (arith, to.long, to.few, rd.nodes)) ∙ last sh rd p)
      here sh rd p j g (no z) = get_or-set_other counts (i - 1) j r 0 z ∙ to.at sh rd p j (omega arith)

      counted : (sh : Sheet) → Reads s t sh → all_plain sh.nodes ≡ true → (j : ℕ) → i - 1 ≤ j → get_or (set counts (i - 1) r) j 0 ≡ min 257 (entered sh x j)
      counted sh rd p j g = here sh rd p j g (ℕ_discrete j (i - 1))

  pub counts_all : {i : ℕ} → Counts s t x counts i → i ≤ 0 → Counted s x (get_or counts t.root 0)
  counts_all to h sh e p =
      let z : q.sh ≡ sh = same_sheet s q.reads.sheet e in
      let rd : Reads s t sh = rw z at q.reads in
      rw rd.root (to.at sh rd p sh.root (omega arith)) ∙ sym (capped_is sh rd.ranges x)

-- WHOLE CALLS

-- the sheet is refused
pub no_sheet : (s : List ℕ) {c : ℕ} → refusal c ≡ map_result table_of (read_sheet s) → (x : ℕ) → refusal c ≡ growth_of s x
unfolding growth_of and_then
no_sheet s e x = sym (rw (table_refused s e))

-- it is read
pub ready : (s : List ℕ) {t : Table} → ok t ≡ map_result table_of (read_sheet s) → Readied s t
ready s e = let (sh, r) = table_reads s e in record { sh = sh; reads = r }

module _ {s : List ℕ} {t : Table} (q : Readied s t) (x : ℕ) {p : Bool} (judged : AllJudged s p) where
  all_are : all_plain q.sh.nodes ≡ p
  all_are = sym (judged q.sh q.reads.sheet)

  pub tells_87 : p ≡ false → refusal 87 ≡ growth_of s x
  unfolding growth_of and_then unless
  tells_87 e = sym (rw (q.reads.sheet, all_are, e))

  module _ (all : p ≡ true) where
    pub tells_23 : t.k ≤ x → refusal 23 ≡ growth_of s x
    unfolding growth_of and_then unless
    tells_23 h = sym (rw (q.reads.sheet, all_are, all, le-ltb x q.sh.k (omega (arith, q.reads.k))))

    module _ (h : x < t.k) {r : ℕ} (counted : Counted s x r) where
      count_is : r ≡ capped q.sh x
      count_is = counted q.sh q.reads.sheet (all_are ∙ all)

      pub tells_88 : 256 < r → refusal 88 ≡ growth_of s x
      unfolding growth_of and_then unless
      tells_88 g = sym (rw (q.reads.sheet, all_are, all, lt-ltb x q.sh.k (omega (arith, q.reads.k)), ← count_is, lt-leb r 256 g))

      pub tells_times : r ≤ 256 → ok r ≡ growth_of s x
      unfolding growth_of and_then unless
      tells_times g = sym (rw (q.reads.sheet, all_are, all, lt-ltb x q.sh.k (omega (arith, q.reads.k)), ← count_is, le-leb r 256 g))
