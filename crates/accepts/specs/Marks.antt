-- Which variables of a plan a sheet's records name: a mark for each, made in one pass over the records.
use Rattle.std.specs.Prelude.{◌≡◌, Bool, cond, ◌||◌, List, [], ◌∷◌, ℕ, zero, suc, ◌+◌, ◌≤◌, ◌<◌, eqb, ltb, get_or, take, drop, set, replicate}
use Rattle.std.proofs.Math.Path.{refl, sym, ap}
use Rattle.std.proofs.Common.{◌∙◌, add-one, arith, eq-eqb, ne_eqb, lt-ltb, le-ltb, drop_of_length-le, length-set, drop-cons, get_or-set_same, get_or-set_other}
use Rattle.std.proofs.lemmas.List.{get_or-take, length-take}
use Rattle.std.proofs.Math.Bool.{true, false}
use Rattle.std.proofs.Math.Decide.{ℕ_discrete, dec_le}
use Rattle.std.proofs.Math.ListN.{length}
use Rattle.value.specs.Result.{ok}
use Rattle.node.specs.declared.Node.{Node}
use Rattle.node.specs.declared.Node.TheVariants.{False, Var, Call, Each}
use Rattle.sheet.specs.declared.Table.{Table}
use Rattle.node.specs.Kinds.{variables}
use Rattle.sheet.specs.Sheet.{Sheet, read_sheet}
use Rattle.node.specs.Decoding.{node_at}
use Rattle.sheet.specs.Laws.{Reads}
use Rattle.undo.specs.Alike.{stands, names}

-- a sheet that was read, with its table
pub record Readied (s : List ℕ) (t : Table) : Type 0 where
  pub sh : Sheet
  pub reads : Reads s t sh

pub same_sheet : (s : List ℕ) {sh sh' : Sheet} → read_sheet s ≡ ok sh → read_sheet s ≡ ok sh' → sh ≡ sh'
same_sheet s e f = cc

-- 16 marks, of which that of x is set; a number that is no variable of a plan has none
unfoldable pub marked_one : List Bool → ℕ → List Bool
marked_one m x = cond (ltb x 16) (set m x true) m

unfoldable pub marked_all : List Bool → List ℕ → List Bool
marked_all m [] = m
marked_all m (x ∷ l) = marked_all (marked_one m x) l

-- whether x is marked
abbrev pub is_marked : List Bool → ℕ → Bool
is_marked m x = get_or m x false

-- a variable is marked where a record names it
abbrev pub Marks : List ℕ → List Bool → Type 0
Marks s m = (sh : Sheet) → read_sheet s ≡ ok sh → (x : ℕ) → x < 16 → is_marked m x ≡ names x sh.nodes

-- ONE MARK, AND MANY

marked_long : (m : List Bool) (x : ℕ) → length (marked_one m x) ≡ length m
unfolding marked_one
marked_long m x = go (ltb x 16)
  where
    go : (b : Bool) → length (cond b (set m x true) m) ≡ length m
    go true = length-set m x true
    go false = refl

pub one_marked : (m : List Bool) {x : ℕ} → x < 16 → set m x true ≡ marked_one m x
unfolding marked_one
one_marked m {x} h = sym (rw (lt-ltb x 16 h))

pub none_marked : (m : List Bool) {x : ℕ} → 16 ≤ x → m ≡ marked_one m x
unfolding marked_one
none_marked m {x} h = sym (rw (le-ltb x 16 h))

marked_is : (m : List Bool) (y x : ℕ) → length m ≡ 16 → x < 16 → is_marked (marked_one m y) x ≡ eqb y x || is_marked m x
marked_is m y x l h = go (ℕ_discrete y x) (dec_le 16 y)
  where
    go : Dec (y ≡ x) → Dec (16 ≤ y) → is_marked (marked_one m y) x ≡ eqb y x || is_marked m x
    go (yes e) (yes k) = absurd (omega arith)
    go (yes e) (no k) = rw (← one_marked m {x = y} (omega arith), eq-eqb y x e, e, get_or-set_same m x true false (omega arith))
    go (no e) (yes k) = rw (← none_marked m {x = y} k, ne_eqb y x e)
    go (no e) (no k) = rw (← one_marked m {x = y} (omega arith), ne_eqb y x e, get_or-set_other m y x true false (λ z. e (sym z)))

or_swap : (a b c : Bool) → b || (a || c) ≡ (a || b) || c
or_swap true true c = refl
or_swap true false c = refl
or_swap false b c = refl

pub all_marked : (l : List ℕ) (m : List Bool) (x : ℕ) → length m ≡ 16 → x < 16 → is_marked (marked_all m l) x ≡ stands x l || is_marked m x
unfolding marked_all stands
all_marked [] m x k h = refl
all_marked (y ∷ l) m x k h =
    all_marked l (marked_one m y) x (marked_long m y ∙ k) h ∙ ap (λ (b : Bool). stands x l || b) (marked_is m y x k h)
    ∙ or_swap (eqb y x) (stands x l) (is_marked m x)

pub all_long : (l : List ℕ) (m : List Bool) → length (marked_all m l) ≡ length m
unfolding marked_all
all_long [] m = refl
all_long (y ∷ l) m = all_long l (marked_one m y) ∙ marked_long m y

-- A RECORD'S VARIABLES, kind by kind

module _ {n : Node} (m : List Bool) where
  pub var_marked : {x : ℕ} → n ≡ Var x → marked_one m x ≡ marked_all m (variables n)
  unfolding marked_all variables
  var_marked e = rw e

  pub call_marked : {s x y : ℕ} → n ≡ Call s x y → {m₁ m₂ : List Bool} → m₁ ≡ marked_one m x → m₂ ≡ marked_one m₁ y → m₂ ≡ marked_all m (variables n)
  unfolding marked_all variables
  call_marked e f g = rw (e, g, f)

  pub each_marked : {a s x d : ℕ} → n ≡ Each a s x d → marked_one m x ≡ marked_all m (variables n)
  unfolding marked_all variables
  each_marked e = rw e

-- ALL RECORDS: those before i are marked

pub record Marking (s : List ℕ) (t : Table) (m : List Bool) (i : ℕ) : Type 0 where
  pub readied : Readied s t
  pub few : i ≤ t.nodes
  pub long : length m ≡ 16
  pub so_far : (x : ℕ) → x < 16 → is_marked m x || names x (drop i readied.sh.nodes) ≡ names x readied.sh.nodes

none_at : (n x : ℕ) → get_or (replicate n false) x false ≡ false
none_at zero x = refl
none_at (suc n) zero = refl
none_at (suc n) (suc x) = none_at n x

pub marking_none : {s : List ℕ} {t : Table} → Readied s t → Marking s t (replicate 16 false) 0
marking_none q = record { readied = q; few = omega arith; long = refl; so_far = λ x h. rw (none_at 16 x) }

next_named : (x : ℕ) (ns : List Node) (i : ℕ) → i < length ns → names x (drop i ns) ≡ stands x (variables (get_or ns i False)) || names x (drop (i + 1) ns)
unfolding names
next_named x ns i h = rw (add-one, drop-cons ns i False)

module _ {s : List ℕ} {t : Table} {m : List Bool} {i : ℕ} (to : Marking s t m i) where
  abbrev ns : List Node
  ns = to.readied.sh.nodes

  -- the next of the places of records
  pub marking_more : i < length (take t.nodes t.starts) → {at : ℕ} → at ≡ get_or (take t.nodes t.starts) i 0 → {n : Node} → n ≡ node_at s at
      → {m' : List Bool} → m' ≡ marked_all m (variables n) → Marking s t m' (i + 1)
  marking_more h {at} p {n} e {m'} f =
      let below : i < t.nodes = omega (arith, length-take t.nodes t.starts) in
      record {
        readied = to.readied;
        few = omega arith;
        long = ap length f ∙ all_long (variables n) m ∙ to.long;
        so_far = λ x k.
            let r = to.readied.reads in
            let l : i < length ns = omega (arith, r.nodes) in
            let q : at ≡ get_or t.starts i 0 = p ∙ get_or-take t.nodes t.starts i 0 below in
            let g : get_or ns i False ≡ n = sym (r.node i l) ∙ ap (node_at s) (sym q) ∙ sym e in
            let z = stands x (variables n) in
            rw f (ap (λ (b : Bool). b || names x (drop (i + 1) ns)) (all_marked (variables n) m x to.long k)
            ∙ sym (or_swap z (is_marked m x) (names x (drop (i + 1) ns)))
            ∙ ap (λ (b : Bool). is_marked m x || b) (sym (rw g at (next_named x ns i l))) ∙ to.so_far x k);
      }

  pub marking_all : length (take t.nodes t.starts) ≤ i → length t.starts ≡ 200 → Marks s m
  unfolding names
  marking_all h many sh e x k =
      let q : to.readied.sh ≡ sh = same_sheet s to.readied.reads.sheet e in
      let few : length ns ≤ 200 = to.readied.reads.ranges.few_nodes in
      let l : length ns ≤ i = omega (arith, to.readied.reads.nodes, length-take t.nodes t.starts) in
      let z : is_marked m x ≡ names x ns = sym (or-false (is_marked m x)) ∙ (rw (drop_of_length-le ns l) at (to.so_far x k)) in
      z ∙ ap (λ (w : Sheet). names x w.nodes) q
    where
      or-false : (b : Bool) → b || false ≡ b
      or-false true = refl
      or-false false = refl
