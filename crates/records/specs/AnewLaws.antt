-- Laws of records written anew: piece by piece; and that they are those of the sheet's nodes renumbered.
use Rattle.std.specs.Prelude.{◌≡◌, cond, ltb, length, get_or, set, take, replicate}
use Rattle.std.proofs.Math.Path.{refl, ap}
use Rattle.std.proofs.Common.{sym, ◌∙◌, add-one, arith, Fits, lt-ltb, le-ltb}
use Rattle.std.proofs.Math.Decide.{dec_lt}
use Rattle.std.proofs.Math.ListN.{get_or-eq_default}
use mathlib.Core.List.{List, [], ◌∷◌, ◌++◌, map, append_assoc, append-nil}
use Prim.Native.Nat.{ℕ, zero, suc, ◌+◌, ◌*◌, ◌-◌, ◌%◌, ◌≤◌, ◌<◌}
use Rattle.std.proofs.lemmas.List.{set_at}
use Rattle.std.specs.Int.{w8}
use Rattle.report.specs.Writing.{Wrote, wrote_then, wrote_text}
use Rattle.value.specs.Result.{ok}
use Rattle.node.specs.declared.Node.TheVariants.{False}
use Rattle.sheet.specs.declared.Table.{Table}
use Rattle.node.specs.Kinds.{children, calls, written}
use Rattle.sheet.specs.Renumbering.{renumber}
use Rattle.sheet.specs.Sheet.{Sheet, read_sheet}
use Rattle.node.specs.Decoding.{kind_width}
use Rattle.sheet.specs.Table.{table_of, section_at}
use Rattle.node.specs.Forms.{listing}
use Rattle.sheet.specs.Reading.{Made}
use Rattle.sheet.specs.Laws.{node_made, table_start, sheet_ranges}
use Rattle.sheet.specs.Rows.{Every, all_written, roots_written}
use Rattle.sheet.proofs.Rows.{renumbered_alike}
use Rattle.sheet.proofs.Written.{Bytes}
use Rattle.sheet.specs.Parts.{part_at, byte_anew, record_anew}
use Rattle.sheet.proofs.PartsLaws.{record_anew_lem}
use Rattle.records.specs.declared.Anew.{Anew}
use Rattle.records.specs.Anew.{shifted_by, within, chosen_of, new_node, new_section, record_of, records_of, named, roots_of, sections_of}

-- LISTS

pub within_in : (n : ℕ) (l : List ℕ) (i : ℕ) → i < n → within n l i ≡ get_or l i 0
unfolding within
within_in n l i h = rw (lt-ltb i n h)

-- of a table that has all its entries
pub within_whole : (n : ℕ) (l : List ℕ) (i : ℕ) → length l ≡ n → within n l i ≡ get_or l i 0
unfolding within
within_whole n l i e = go (dec_lt i n)
  where
    go : Dec (i < n) → cond (ltb i n) (get_or l i 0) 0 ≡ get_or l i 0
    go (yes h) = rw (lt-ltb i n h)
    go (no h) = rw (le-ltb i n (omega arith)) (sym (get_or-eq_default l 0 (omega arith)))

pub listing_more : (n : ℕ) (h : ℕ → ℕ) → listing (suc n) h ≡ listing n h ++ h n ∷ []
listing_more zero h = refl
listing_more (suc n) h = ap (λ (l : List ℕ). h 0 ∷ l) (listing_more n (λ i. h (suc i)))

pub listing_long : (n : ℕ) (h : ℕ → ℕ) → length (listing n h) ≡ n
listing_long zero h = refl
listing_long (suc n) h = ap suc (listing_long n (λ i. h (suc i)))

pub listing_at : (n : ℕ) (h : ℕ → ℕ) (i : ℕ) → i < n → get_or (listing n h) i 0 ≡ h i
listing_at zero h i z = absurd (omega arith)
listing_at (suc n) h zero z = refl
listing_at (suc n) h (suc i) z = listing_at n (λ j. h (suc j)) i (omega arith)

pub listing_of : (l : List ℕ) → listing (length l) (λ i. get_or l i 0) ≡ l
listing_of [] = refl
listing_of (a ∷ l) = ap (λ (k : List ℕ). a ∷ k) (listing_of l)

-- two listings agree where their functions do
pub listing_same : (n : ℕ) (g h : ℕ → ℕ) → ((i : ℕ) → i < n → g i ≡ h i) → listing n g ≡ listing n h
listing_same zero g h e = refl
listing_same (suc n) g h e =
    ap (λ (a : ℕ). a ∷ listing n (λ i. g (suc i))) (e 0 (omega arith))
    ∙ ap (λ (l : List ℕ). h 0 ∷ l) (listing_same n (λ i. g (suc i)) (λ i. h (suc i)) (λ i z. e (suc i) (omega arith)))

pub listing-map : {A : Type 0} (h : A → ℕ) (d : A) (l : List A) → listing (length l) (λ i. h (get_or l i d)) ≡ map h l
listing-map h d [] = refl
listing-map h d (a ∷ l) = ap (λ (k : List ℕ). h a ∷ k) (listing-map h d l)

pub every_listing : (P : ℕ → Type 0) (n : ℕ) (h : ℕ → ℕ) → ((i : ℕ) → i < n → P (h i)) → Every P (listing n h)
every_listing P zero h f = tt
every_listing P (suc n) h f = (f 0 (omega arith), every_listing P n (λ i. h (suc i)) (λ i z. f (suc i) (omega arith)))

-- the entries of a table, as a list
pub listing-within : (n k : ℕ) (l : List ℕ) → k ≤ n → k ≤ length l → listing k (within n l) ≡ take k l
listing-within n k l h z = listing_same k (within n l) (λ i. get_or l i 0) (λ i y. within_in n l i (omega arith)) ∙ go k l z
  where
    go : (k : ℕ) (l : List ℕ) → k ≤ length l → listing k (λ i. get_or l i 0) ≡ take k l
    go zero l z = refl
    go (suc k) [] z = absurd (omega arith)
    go (suc k) (a ∷ l) z = ap (λ (t : List ℕ). a ∷ t) (go k l (omega arith))

-- ONE PIECE MORE

-- the next byte of a list that is written byte by byte
pub wrote_listing : (h : ℕ → ℕ) (i : ℕ) {v p m r : ℕ} {b b₁ b₂ : List ℕ} → Wrote (listing i h) p b b₁ m → Wrote (v ∷ []) m b₁ b₂ r → v ≡ h i
    → Wrote (listing (i + 1) h) p b b₂ r
wrote_listing h i p q e = wrote_text (wrote_then p q) (rw (add-one, e) (sym (listing_more i h)))

records_append : (s starts : List ℕ) (m : Anew) (ns ks : List ℕ) → records_of s starts m (ns ++ ks) ≡ records_of s starts m ns ++ records_of s starts m ks
unfolding records_of
records_append s starts m [] ks = refl
records_append s starts m (n ∷ ns) ks =
    ap (λ (l : List ℕ). record_of s (within 200 starts n) m ++ l) (records_append s starts m ns ks)
    ∙ sym (append_assoc (record_of s (within 200 starts n) m) (records_of s starts m ns) (records_of s starts m ks))

-- i records are written
pub record Listed (s starts : List ℕ) (m : Anew) (i at : ℕ) (b b' : List ℕ) (r : ℕ) : Type 0 where
  pub few : i ≤ m.count
  pub wrote : Wrote (records_of s starts m (listing i (within 256 m.order))) at b b' r

module _ {s starts : List ℕ} {m : Anew} where
  pub listed_none : {at r : ℕ} {b b' : List ℕ} → Wrote [] at b b' r → Listed s starts m 0 at b b' r
  unfolding records_of
  listed_none w = record { few = omega arith; wrote = w }

  pub listed_more : {n p i at k r : ℕ} {b b₁ b₂ : List ℕ} → Listed s starts m i at b b₁ k → i < m.count → n ≡ within 256 m.order i → p ≡ within 200 starts n
      → Wrote (record_of s p m) k b₁ b₂ r → Listed s starts m (i + 1) at b b₂ r
  unfolding records_of
  listed_more {n} {p} {i} u h e f v = let node : ℕ → ℕ = within 256 m.order in record {
    few = omega arith;
    wrote = wrote_text (wrote_then u.wrote v)
        (sym (ap (records_of s starts m) (ap (λ (k : ℕ). listing k node) (add-one i) ∙ listing_more i node)
        ∙ records_append s starts m (listing i node) (node i ∷ [])
        ∙ ap (λ (l : List ℕ). records_of s starts m (listing i node) ++ l)
        (append-nil (record_of s (within 200 starts (node i)) m) ∙ ap (λ (k : ℕ). record_of s k m) (sym (f ∙ ap (λ (k : ℕ). within 200 starts k) e)))));
  }

  pub listed_all : {i at r : ℕ} {b b' : List ℕ} → Listed s starts m i at b b' r → m.count ≤ i → Wrote (records_of s starts m (named m)) at b b' r
  unfolding named
  listed_all {i} l h =
      let node : ℕ → ℕ = within 256 m.order in
      let q : i ≡ m.count = omega (arith, l.few) in
      wrote_text l.wrote (ap (λ (k : ℕ). records_of s starts m (listing k node)) q)

pub roots_append : (rs qs : List ℕ) → roots_of (rs ++ qs) ≡ roots_of rs ++ roots_of qs
unfolding roots_of
roots_append [] qs = refl
roots_append (r ∷ rs) qs = ap (λ (l : List ℕ). 0x20 ∷ r ∷ l) (roots_append rs qs)

-- i sections are written
pub record Rooted (s : List ℕ) (m : Anew) (i at : ℕ) (b b' : List ℕ) (r : ℕ) : Type 0 where
  pub wrote : Wrote (roots_of (listing i (λ j. new_node m (section_at s j)))) at b b' r

module _ {s : List ℕ} {m : Anew} where
  pub rooted_none : {at r : ℕ} {b b' : List ℕ} → Wrote [] at b b' r → Rooted s m 0 at b b' r
  unfolding roots_of
  rooted_none w = record { wrote = w }

  pub rooted_more : {i n v at j r : ℕ} {b b₁ b₂ : List ℕ} → Rooted s m i at b b₁ j → n ≡ section_at s i → v ≡ new_node m n
      → Wrote (0x20 ∷ v ∷ []) j b₁ b₂ r → Rooted s m (i + 1) at b b₂ r
  unfolding roots_of
  rooted_more {i} {v = v} u e f w = let root : ℕ → ℕ = λ j. new_node m (section_at s j) in record {
    wrote = wrote_text (wrote_then u.wrote w)
        (sym (ap roots_of (ap (λ (k : ℕ). listing k root) (add-one i) ∙ listing_more i root) ∙ roots_append (listing i root) (root i ∷ [])
        ∙ ap (λ (a : ℕ). roots_of (listing i root) ++ 0x20 ∷ a ∷ []) (sym (f ∙ ap (new_node m) e))));
  }

  pub rooted_all : {i n at r : ℕ} {b b' : List ℕ} → Rooted s m i at b b' r → i ≡ n → Wrote (sections_of s n m) at b b' r
  unfolding sections_of
  rooted_all u q = wrote_text u.wrote (ap (λ (k : ℕ). roots_of (listing k (λ j. new_node m (section_at s j)))) q)

-- a root is a byte
pub byte_root : (s : List ℕ) (i : ℕ) {n : ℕ} → n ≡ section_at s i → Fits w8 (get_or s (4 + 2 * i) 0) → n < 256
unfolding section_at
byte_root s i e f = omega (arith, e, f.fits)

-- so is every number of a slice of bytes
pub bytes_known : (s : List ℕ) → ((i : ℕ) → Fits w8 (get_or s i 0)) → Bytes s
bytes_known [] h = tt
bytes_known (b ∷ s) h = (omega (arith, (h 0).fits), bytes_known s (λ i. h (suc i)))

-- A RECORD, byte by byte

-- i bytes of the record at byte p are written
pub record Copied (s : List ℕ) (p : ℕ) (m : Anew) (i to : ℕ) (b b' : List ℕ) (r : ℕ) : Type 0 where
  pub few : i ≤ kind_width (get_or s (p + 0) 0)
  pub wrote : Wrote (listing i (λ j. byte_anew (new_node m) (new_section m) (part_at (get_or s (p + 0) 0) j) (get_or s (p + j) 0))) to b b' r

module _ {s : List ℕ} {p : ℕ} {m : Anew} where
  pub copied_none : {to r : ℕ} {b b' : List ℕ} → Wrote [] to b b' r → Copied s p m 0 to b b' r
  copied_none w = record { few = omega arith; wrote = w }

  pub copied_more : {i to j r kind part byte v : ℕ} {b b₁ b₂ : List ℕ} → Copied s p m i to b b₁ j → i < kind_width (get_or s (p + 0) 0)
      → kind ≡ get_or s (p + 0) 0 → part ≡ part_at kind i → byte ≡ get_or s (p + i) 0 → v ≡ chosen_of part byte (new_node m byte) (new_section m byte)
      → Wrote (v ∷ []) j b₁ b₂ r → Copied s p m (i + 1) to b b₂ r
  unfolding chosen_of byte_anew
  copied_more {i} {kind = kind} {part} {byte} {v} c h ke pe be ve w = record {
    few = omega arith;
    wrote = wrote_listing (λ j. byte_anew (new_node m) (new_section m) (part_at (get_or s (p + 0) 0) j) (get_or s (p + j) 0)) i c.wrote w (rw (ve, pe, ke, be));
  }

  pub copied_all : {i to r : ℕ} {b b' : List ℕ} → Copied s p m i to b b' r → kind_width (get_or s (p + 0) 0) ≤ i → Wrote (record_of s p m) to b b' r
  unfolding record_of record_anew
  copied_all {i} c h =
      let q : i ≡ kind_width (get_or s (p + 0) 0) = omega (arith, c.few) in
      wrote_text c.wrote (ap (λ (k : ℕ). listing k (λ j. byte_anew (new_node m) (new_section m) (part_at (get_or s (p + 0) 0) j) (get_or s (p + j) 0))) q)

-- A TABLE OF NUMBERS

-- i numbers are set, and zeros stand behind them
pub record Shifted (by i : ℕ) (l : List ℕ) : Type 0 where
  pub few : i ≤ 256
  pub so_far : l ≡ listing i (λ j. (by + j) % 256) ++ replicate (256 - i) 0

pub shift_none : {by : ℕ} → Shifted by 0 (replicate 256 0)
shift_none = record { few = omega arith; so_far = refl }

pub shift_more : {by i : ℕ} {l : List ℕ} → Shifted by i l → i < 256 → Shifted by (i + 1) (set l i ((by + i) % 256))
shift_more {by} {i} {l} s h =
    let k : ℕ → ℕ = λ j. (by + j) % 256 in
    let q : 256 - i ≡ suc (256 - (i + 1)) = omega arith in
    record {
      few = omega arith;
      so_far = ap (λ (x : List ℕ). set x i (k i)) (rw q at s.so_far)
          ∙ set_at (listing i k) 0 (replicate (256 - (i + 1)) 0) (k i) i (listing_long i k)
          ∙ sym (ap (λ (x : List ℕ). x ++ replicate (256 - (i + 1)) 0) (ap (λ (n : ℕ). listing n k) (add-one i) ∙ listing_more i k)
          ∙ append_assoc (listing i k) (k i ∷ []) (replicate (256 - (i + 1)) 0));
    }

pub shift_all : {by i : ℕ} {l : List ℕ} → Shifted by i l → 256 ≤ i → l ≡ shifted_by by
unfolding shifted_by
shift_all {by} {i} s h = let q : i ≡ 256 = omega (arith, s.few) in rw q at s.so_far ∙ append-nil (listing 256 (λ j. (by + j) % 256))

pub shift_at : (by i : ℕ) → by + i < 256 → get_or (shifted_by by) i 0 ≡ by + i
unfolding shifted_by
shift_at by i h = listing_at 256 (λ j. (by + j) % 256) i (omega arith) ∙ omega arith

-- THE SHEET'S NODES RENUMBERED

-- node n, each node and section that it names with its new number
pub record Renumbers (sh : Sheet) (m : Anew) (f g : ℕ → ℕ) (n : ℕ) : Type 0 where
  pub inside : n < length sh.nodes
  pub nodes : Every (λ c. new_node m c ≡ f c) (children (get_or sh.nodes n False))
  pub sections : Every (λ c. new_section m c ≡ g c) (calls (get_or sh.nodes n False))

module _ (s : List ℕ) {t : Table} {sh : Sheet} (table : t ≡ table_of sh) (read : read_sheet s ≡ ok sh) where
  pub made_there : (i : ℕ) → i < length sh.nodes → Made s (get_or t.starts i 0) (get_or sh.nodes i False)
  made_there i h =
      rw (ap (λ (x : Table). get_or x.starts i 0) table ∙ table_start sh i h) (node_made s read i h)

  module _ (small : Bytes s) (m : Anew) (f g : ℕ → ℕ) where
    record_is : (n : ℕ) → n < 200 → Renumbers sh m f g n → record_of s (within 200 t.starts n) m ≡ written (renumber f g (get_or sh.nodes n False))
    unfolding record_of
    record_is n h r =
        ap (λ (k : ℕ). record_of s k m) (within_in 200 t.starts n h)
        ∙ record_anew_lem (new_node m) (new_section m) (made_there n r.inside) small
        ∙ ap written (renumbered_alike (new_node m) (new_section m) f g (get_or sh.nodes n False) r.nodes r.sections)

    pub records_are : (ns : List ℕ) → Every (Renumbers sh m f g) ns
        → records_of s t.starts m ns ≡ all_written (map (λ n. renumber f g (get_or sh.nodes n False)) ns)
    unfolding records_of
    records_are [] r = refl
    records_are (n ∷ ns) r =
        ap (λ (l : List ℕ). l ++ records_of s t.starts m ns) (record_is n (omega (arith, r.0.inside, (sheet_ranges s read).few_nodes)) r.0)
        ∙ ap (λ (l : List ℕ). written (renumber f g (get_or sh.nodes n False)) ++ l) (records_are ns r.1)

pub roots_written_lem : (rs l : List ℕ) → roots_written rs l ≡ roots_of rs ++ l
unfolding roots_of
roots_written_lem [] l = refl
roots_written_lem (r ∷ rs) l = ap (λ (k : List ℕ). 0x20 ∷ r ∷ k) (roots_written_lem rs l)
