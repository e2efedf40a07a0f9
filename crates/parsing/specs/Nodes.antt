-- NODES IN SLOTS: node n has the eight bytes from 8 n on, and its record stands at their front.
use Rattle.std.specs.Prelude.{◌≡◌, refl, List, [], ◌∷◌, ◌++◌, ℕ, zero, suc, ◌+◌, ◌*◌, ◌-◌, ◌≤◌, ◌<◌, length, get_or, take, drop, set}
use Rattle.std.proofs.Common.{sym, ap, ◌∙◌, append_assoc, append-nil, arith, get_or-take, get_or-drop, take_at, drop_at}
use Rattle.std.proofs.Common.{drop-set-lt, drop-drop, take-take, length-take-le}
use borrow.Rule.Slice.PartMut.{put_mid}
use Rattle.std.proofs.lemmas.List.Edits.{sets, sets-eq}
use Rattle.std.proofs.Math.Seq.{take-nil, length-sets}
use Rattle.report.specs.Writing.{Wrote, wrote_text, wrote_then}
use Rattle.node.specs.declared.Node.{Node}
use Rattle.node.specs.Kinds.{row, form_of, width, body_width, written}
use Rattle.node.specs.Decoding.{kind_width, form_width}
use Rattle.sheet.specs.Rows.{all_written}
use Rattle.sheet.proofs.Rows.{width_8}
use Rattle.node.specs.declared.Node.TheVariants as node

abbrev pub slot : List ℕ → ℕ → List ℕ
slot s n = take 8 (drop (8 * n) s)

-- node n is x
abbrev pub Slot : List ℕ → ℕ → Node → Type 0
Slot s n x = take (width x) (slot s n) ≡ written x

-- from n on there are these
pub data Slots (s : List ℕ) : ℕ → List Node → Type 0 where
  none : {n : ℕ} → Slots s n []
  more : {n : ℕ} {x : Node} {xs : List Node} → Slot s n x → Slots s (suc n) xs → Slots s n (x ∷ xs)

pub slots_append : {s : List ℕ} {n : ℕ} {a b : List Node} → Slots s n a → Slots s (n + length a) b → Slots s n (a ++ b)
slots_append {s} {n} {b = b} none w = let e : n + 0 ≡ n = omega arith in rw e at w
slots_append {s} {n} {b = b} (more {xs = xs} x a) w = let e : n + suc (length xs) ≡ suc n + length xs = omega arith in more x (slots_append a (rw e at w))

-- KEPT: the slots below n are as they were
pub record Kept (n : ℕ) (s s' : List ℕ) : Type 0 where
  pub long : length s' ≡ length s
  pub below : take (8 * n) s' ≡ take (8 * n) s

pub kept_refl : (n : ℕ) (s : List ℕ) → Kept n s s
kept_refl n s = record { long = refl; below = refl }

pub kept_fewer : {n m : ℕ} {s s' : List ℕ} → n ≤ m → Kept m s s' → Kept n s s'
kept_fewer {n} {m} {s} {s'} h k = record {
  long = k.long;
  below = sym (take-take (8 * n) (8 * m) s' (omega arith)) ∙ ap (take (8 * n)) k.below ∙ take-take (8 * n) (8 * m) s (omega arith);
}

pub kept_then : {n : ℕ} {s s' s'' : List ℕ} → Kept n s s' → Kept n s' s'' → Kept n s s''
kept_then a b = record { long = b.long ∙ a.long; below = b.below ∙ a.below }

drop_taken : (k j : ℕ) (l : List ℕ) → drop k (take j l) ≡ take (j - k) (drop k l)
drop_taken zero j l = let e : j - 0 ≡ j = omega arith in rw e
drop_taken (suc k) zero l = let e : 0 - suc k ≡ 0 = omega arith in rw e
drop_taken (suc k) (suc j) [] = sym (take-nil (suc j - suc k))
drop_taken (suc k) (suc j) (x ∷ l) = let e : suc j - suc k ≡ j - k = omega arith in rw e (drop_taken k j l)

slot_below : (n m : ℕ) (s : List ℕ) → n < m → slot (take (8 * m) s) n ≡ slot s n
slot_below n m s h = ap (take 8) (drop_taken (8 * n) (8 * m) s) ∙ take-take 8 (8 * m - 8 * n) (drop (8 * n) s) (omega arith)

-- nodes below n stay
pub slots_kept : {m : ℕ} {s s' : List ℕ} {n : ℕ} {a : List Node} → Kept m s s' → n + length a ≤ m → Slots s n a → Slots s' n a
slots_kept k h none = none
slots_kept {m} {s} {s'} {n} k h (more {x = x} e a) =
    let f : slot s' n ≡ slot s n = sym (slot_below n m s' (omega arith)) ∙ ap (λ (l : List ℕ). slot l n) k.below ∙ slot_below n m s (omega arith) in
    more (ap (take (width x)) f ∙ e) (slots_kept k (omega arith) a)

-- A NODE STORED
sets_after : (v s : List ℕ) (i k : ℕ) → i + length v ≤ k → drop k (sets s i v) ≡ drop k s
sets_after [] s i k h = refl
sets_after (x ∷ v) s i k h = sets_after v (set s i x) (suc i) k (omega arith) ∙ drop-set-lt k s i x (omega arith)

module _ (s : List ℕ) (n : ℕ) (row : List ℕ) (l : length row ≡ 8) (h : 8 * n + 8 ≤ length s) where
  laid : sets s (8 * n) row ≡ take (8 * n) s ++ (row ++ drop (8 * n + length row) s)
  laid = sets-eq row s (8 * n) (omega arith) ∙ append_assoc (take (8 * n) s) row (drop (8 * n + length row) s)

  front_long : length (take (8 * n) s) ≡ 8 * n
  front_long = length-take-le (8 * n) s (omega arith)

  pub store_kept : Kept n s (sets s (8 * n) row)
  store_kept = record {
    long = length-sets s (8 * n) row;
    below = ap (take (8 * n)) laid ∙ take_at (take (8 * n) s) (row ++ drop (8 * n + length row) s) (8 * n) front_long;
  }

  pub store_slot : slot (sets s (8 * n) row) n ≡ row
  store_slot =
      ap (λ (x : List ℕ). take 8 (drop (8 * n) x)) laid
      ∙ ap (take 8) (drop_at (take (8 * n) s) (row ++ drop (8 * n + length row) s) (8 * n) front_long)
      ∙ take_at row (drop (8 * n + length row) s) 8 l

  pub store_above : (m : ℕ) → n < m → slot (sets s (8 * n) row) m ≡ slot s m
  store_above m g = ap (take 8) (sets_after row s (8 * n) (8 * m) (omega arith))

-- above it too
pub store_slots : (s : List ℕ) (n : ℕ) (row : List ℕ) {m : ℕ} {a : List Node} → length row ≡ 8 → 8 * n + 8 ≤ length s → n < m → Slots s m a
    → Slots (sets s (8 * n) row) m a
store_slots s n row l h g none = none
store_slots s n row {m} l h g (more {x = x} e a) = more (ap (take (width x)) (store_above s n row l h m g) ∙ e) (store_slots s n row l h (omega arith) a)

-- the node and those behind it
pub store_more : (s : List ℕ) (n : ℕ) (row : List ℕ) {x : Node} {a : List Node} → length row ≡ 8 → 8 * n + 8 ≤ length s → take (width x) row ≡ written x
    → Slots s (suc n) a → Slots (sets s (8 * n) row) n (x ∷ a)
store_more s n row {x} l h e a = more (ap (take (width x)) (store_slot s n row l h) ∙ e) (store_slots s n row l h (omega arith) a)

-- byte by byte
sets_more : (v s : List ℕ) (i x : ℕ) → sets s i (v ++ x ∷ []) ≡ set (sets s i v) (i + length v) x
sets_more [] s i x = let e : i + 0 ≡ i = omega arith in rw e
sets_more (y ∷ v) s i x = let e : i + suc (length v) ≡ suc i + length v = omega arith in rw e (sets_more v (set s i y) (suc i) x)

-- a row that is copied over its slot
pub copied : (s : List ℕ) (n : ℕ) {row row' : List ℕ} → length row ≡ 8 → 8 * n + 8 ≤ length s → row' ≡ row
    → put_mid (8 * n) (8 * n + 8 - 8 * n) s row' ≡ sets s (8 * n) row
copied s n {row} l h e =
    let a = 8 * n in
    let k = 8 * n + 8 - 8 * n in
    let q : a + k ≡ a + length row = omega arith in
    rw (e, drop-drop k a s, q) (sym (sets-eq row s a (omega arith) ∙ append_assoc (take a s) row (drop (a + length row) s)))

-- WRITTEN OUT: the record at the front of a slot, by its kind
unfoldable pub record_in : List ℕ → ℕ → List ℕ
record_in s n = take (kind_width (get_or s (8 * n) 0)) (drop (8 * n) s)

-- those of so many nodes, from n on
unfoldable pub records_from : List ℕ → ℕ → ℕ → List ℕ
records_from s n zero = []
records_from s n (suc k) = record_in s n ++ records_from s (suc n) k

abbrev pub records_in : List ℕ → List ℕ → ℕ → List ℕ
records_in s front k = front ++ records_from s 0 k

pub records_more : (s : List ℕ) (n k : ℕ) → records_from s n (k + 1) ≡ records_from s n k ++ record_in s (n + k)
unfolding records_from
records_more s n zero = let e : n + 0 ≡ n = omega arith in rw e (append-nil (record_in s n))
records_more s n (suc k) =
    let e : suc k + 1 ≡ suc (k + 1) = omega arith in
    let f : n + suc k ≡ suc n + k = omega arith in
    rw (e, f) (ap (λ (l : List ℕ). record_in s n ++ l) (records_more s (suc n) k)
    ∙ sym (append_assoc (record_in s n) (records_from s (suc n) k) (record_in s (suc n + k))))

-- the width of a kind is its nodes'
kind_wide : (x : Node) → kind_width (row x).kind ≡ width x
unfolding kind_width form_width form_of body_width width
kind_wide (node.Var x) = refl
kind_wide node.False = refl
kind_wide node.True = refl
kind_wide node.Empty = refl
kind_wide (node.Number n) = refl
kind_wide (node.Front a b) = refl
kind_wide (node.Pair a b) = refl
kind_wide (node.ListCase a b t n u d e) = refl
kind_wide (node.TruthCase a b t n u) = refl
kind_wide (node.Split a b) = refl
kind_wide (node.Call c x y) = refl
kind_wide (node.Add n a) = refl
kind_wide (node.Each a c x d) = refl
kind_wide (node.Wide n) = refl

some_width : (x : Node) → 0 < width x
unfolding width
some_width x = omega arith

first_byte : (x : Node) → get_or (written x) 0 0 ≡ (row x).kind
unfolding written
first_byte x = refl

record_written : (s : List ℕ) (n : ℕ) (x : Node) → Slot s n x → record_in s n ≡ written x
unfolding record_in
record_written s n x e =
    let d = drop (8 * n) s in
    let f : take (width x) d ≡ written x = sym (take-take (width x) 8 d (width_8 x)) ∙ e in
    let z : 8 * n + 0 ≡ 8 * n = omega arith in
    let k : get_or s (8 * n) 0 ≡ (row x).kind =
    ap (λ (m : ℕ). get_or s m 0) (sym z) ∙ sym (get_or-drop (8 * n) s 0 0) ∙ sym (get_or-take (width x) d 0 0 (some_width x)) ∙
    ap (λ (l : List ℕ). get_or l 0 0) f
    ∙ first_byte x in
    rw (k, kind_wide x) f

pub records_written : {s : List ℕ} {n : ℕ} {ns : List Node} → Slots s n ns → records_from s n (length ns) ≡ all_written ns
unfolding records_from
records_written none = refl
records_written {s} (more {n = n} {x = x} e w) = rw (record_written s n x e, records_written w)

pub record_part : (s : List ℕ) (n : ℕ) {w : ℕ} → w ≡ kind_width (get_or s (8 * n) 0) → take (8 * n + w - 8 * n) (drop (8 * n) s) ≡ record_in s n
unfolding record_in
record_part s n {w} e =
    let f : 8 * n + w - 8 * n ≡ w = omega arith in
    ap (λ (k : ℕ). take k (drop (8 * n) s)) (f ∙ e)

-- how far it is written
pub record Written (s : List ℕ) (m k at : ℕ) (out out' : List ℕ) (r : ℕ) : Type 0 where
  pub few : k ≤ m
  pub wrote : Wrote (records_from s 0 k) at out out' r

pub written_first : {s : List ℕ} {m at : ℕ} {out out' : List ℕ} {r : ℕ} → Wrote [] at out out' r → Written s m 0 at out out' r
unfolding records_from
written_first w = record { few = omega arith; wrote = w }

pub written_more : {s : List ℕ} {n k at : ℕ} {out out₁ out₂ : List ℕ} {m r : ℕ} → Written s n k at out out₁ m → Wrote (record_in s k) m out₁ out₂ r → k < n
    → Written s n (k + 1) at out out₂ r
written_more {s} {n} {k} w v h =
    let z : 0 + k ≡ k = omega arith in
    record { few = omega arith; wrote = wrote_text (wrote_then w.wrote v) (sym (records_more s 0 k ∙ ap (λ (n : ℕ). records_from s 0 k ++ record_in s n) z)) }

pub written_all : {s : List ℕ} {k m at : ℕ} {out out' : List ℕ} {r : ℕ} → Written s m k at out out' r → m ≤ k → Wrote (records_from s 0 m) at out out' r
written_all {s} {k} {m} w h = let f = w.few in let e : k ≡ m = omega arith in rw e at w.wrote
