-- Parts of the arena's bytes, and what a change leaves alone.
use Rattle.std.specs.Prelude.{◌≡◌, refl, List, [], ◌∷◌, ◌++◌, ℕ, zero, suc, ◌+◌, ◌≤◌, ◌<◌, length, take, drop, get_or, set}
use Rattle.std.proofs.Common.{sym, ap, ◌∙◌, append_assoc, zero-add, suc-add, le_refl}
use Rattle.std.proofs.Common.{add-one, arith, length-set, length-append, length-drop, take-take, take-add}
use Rattle.std.proofs.Common.{drop-drop, get_or-take, length-take-le, take_at, drop_at, drop-cons, get_or-set_same, get_or-set_other, ext_get_or}
use Rattle.std.proofs.Math.Decide.{dec_lt}
use Rattle.std.proofs.Math.Seq.{take-nil, paste}
use Rattle.std.proofs.lemmas.List.Edits.{length-paste}
use Rattle.std.proofs.lemmas.List.{take-set-le}

-- the n bytes from index i
abbrev pub part : List ℕ → ℕ → ℕ → List ℕ
part a i n = take n (drop i a)

pub take-drop : (i n : ℕ) (l : List ℕ) → take n (drop i l) ≡ drop i (take (i + n) l)
take-drop zero n l = rw zero-add
take-drop (suc i) n [] = rw (take-nil, take-nil)
take-drop (suc i) n (x ∷ xs) = rw suc-add (take-drop i n xs)

-- b became a, with the k bytes at the front left alone, and the length
pub record SameBelow (k : ℕ) (b a : List ℕ) : Type 0 where
  pub same : take k a ≡ take k b
  pub long : length a ≡ length b

-- what leaves the bytes below k alone leaves each part below k alone
pub part_kept : {k : ℕ} {b a : List ℕ} → SameBelow k b a → (i n : ℕ) → i + n ≤ k → part a i n ≡ part b i n
part_kept {k} {b} {a} e i n h =
    take-drop i n a ∙ ap (drop i) (sym (take-take (i + n) k a h) ∙ ap (take (i + n)) e.same ∙ take-take (i + n) k b h) ∙ sym (take-drop i n b)

pub kept_below : {k : ℕ} {b a : List ℕ} → SameBelow k b a → (j : ℕ) → j ≤ k → SameBelow j b a
kept_below {k} {b} {a} e j h = record { same = sym (take-take j k a h) ∙ ap (take j) e.same ∙ take-take j k b h; long = e.long }

pub kept_refl : (k : ℕ) (b : List ℕ) → SameBelow k b b
kept_refl k b = record { same = refl; long = refl }

-- one change after another
pub kept_then : {j k : ℕ} {c b a : List ℕ} → SameBelow j c b → SameBelow k b a → j ≤ k → SameBelow j c a
kept_then {j} {k} {c} {b} {a} p q h = let r : SameBelow j b a = kept_below q j h in record { same = r.same ∙ p.same; long = r.long ∙ p.long }

pub kept_set : (k : ℕ) (a : List ℕ) (i v : ℕ) → k ≤ i → SameBelow k a (set a i v)
kept_set k a i v h = record { same = take-set-le k a i v h; long = length-set a i v }

pub part_join : (a : List ℕ) (i m n : ℕ) → part a i (m + n) ≡ part a i m ++ part a (i + m) n
part_join a i m n = take-add m n (drop i a) ∙ ap (λ (l : List ℕ). part a i m ++ take n l) (drop-drop m i a)

pub part_length : (a : List ℕ) (i n : ℕ) → i + n ≤ length a → length (part a i n) ≡ n
part_length a i n h = length-take-le n (drop i a) (rw length-drop (omega arith))

pub part-cons : (a : List ℕ) (i n : ℕ) → i < length a → part a i (n + 1) ≡ get_or a i 0 ∷ part a (i + 1) n
part-cons a i n h = rw (add-one, add-one, drop-cons a i 0 h)

pub part-one : (a : List ℕ) (i : ℕ) → i < length a → part a i 1 ≡ get_or a i 0 ∷ []
part-one a i h = rw (drop-cons a i 0 h)

-- two parts of a part that is a list and then another
pub part_split : (a x y : List ℕ) (i n m : ℕ) → part a i (n + m) ≡ x ++ y → length x ≡ n → (part a i n ≡ x) × (part a (i + n) m ≡ y)
part_split a x y i n m e l = (
  sym (take-take n (n + m) (drop i a) (omega arith)) ∙ ap (take n) e ∙ take_at x y n l,
  ap (take m) (sym (drop-drop n i a)) ∙ take-drop n m (drop i a) ∙ ap (drop n) e ∙ drop_at x y n l,
)

-- the byte k was written at `top`
pub record Marked (k top : ℕ) (b m : List ℕ) : Type 0 where
  pub is : m ≡ set b top k
  pub inside : top < length b

pub marked : (k top : ℕ) (b : List ℕ) → top < length b → Marked k top b (set b top k)
marked k top b h = record { is = refl; inside = h }

pub marked_kept : {k top : ℕ} {b m : List ℕ} → Marked k top b m → SameBelow top b m
marked_kept {k} {top} {b} w = rw w.is (kept_set top b top k (le_refl top))

pub marked_part : {k top : ℕ} {b m : List ℕ} → Marked k top b m → part m top 1 ≡ k ∷ []
marked_part {k} {top} {b} {m} w = rw w.is (part-one (set b top k) top (simp length-set w.inside) ∙ rw (get_or-set_same b top k 0 w.inside))

-- A COPY of n bytes within the arena

-- n bytes were copied, and the bytes below are as they were
pub record Copied (from to n : ℕ) (b a : List ℕ) : Type 0 where
  pub kept : SameBelow to b a
  pub bytes : part a to n ≡ part b from n

module _ (b : List ℕ) (from to n : ℕ) (hf : from + n ≤ length b) (ht : to + n ≤ length b) where
  copied_part : part (paste b to (drop from b) n) to n ≡ part b from n
  copied_part =
      let l : length (take to b) ≡ to = length-take-le to b (omega arith) in
      let m : length (take n (drop from b)) ≡ n = part_length b from n hf in
      ap (λ (x : List ℕ). take n x)
      (ap (drop to) (append_assoc (take to b) (take n (drop from b)) (drop (to + n) b)) ∙ drop_at (take to b) (take n (drop from b) ++ drop (to + n) b) to l)
      ∙ take_at (take n (drop from b)) (drop (to + n) b) n m

  copied_kept : SameBelow to b (paste b to (drop from b) n)
  copied_kept =
      let l : length (take to b) ≡ to = length-take-le to b (omega arith) in
      record {
        same = ap (take to) (append_assoc (take to b) (take n (drop from b)) (drop (to + n) b))
            ∙ take_at (take to b) (take n (drop from b) ++ drop (to + n) b) to l;
        long = length-paste b to (drop from b) n ht (rw length-drop (omega arith));
      }

-- the library's copy within a slice
pub copied_within : {from to n k : ℕ} {b a : List ℕ} → from + n ≤ length b → to + n ≤ length b → k ≡ n → a ≡ paste b to (drop from b) k
    → Copied from to n b a
copied_within {from} {to} {n} {b = b} hf ht e made =
    rw (made, e) (record { kept = copied_kept b from to n hf ht; bytes = copied_part b from to n hf ht })

-- nothing is copied where the place is the same
pub copied_same : (from to n : ℕ) (b : List ℕ) → from ≡ to → Copied from to n b b
copied_same from to n b e = rw e (record { kept = kept_refl to b; bytes = refl })

-- BYTES COPIED TO THE FRONT

-- s stands at the front
pub record CopiedIn (s b a : List ℕ) : Type 0 where
  pub bytes : part a 0 (length s) ≡ s
  pub long : length a ≡ length b

-- i bytes of it are copied
pub record CopyingIn (i : ℕ) (s b a : List ℕ) : Type 0 where
  pub long : length a ≡ length b
  pub same : (j : ℕ) → j < i → get_or a j 0 ≡ get_or s j 0

pub copying_in_none : (s b : List ℕ) → CopyingIn 0 s b b
copying_in_none s b = record { long = refl; same = λ j h. absurd (omega arith) }

module _ {i : ℕ} {s b a : List ℕ} (m : CopyingIn i s b a) where
  pub copying_in_more : i < length b → CopyingIn (i + 1) s b (set a i (get_or s i 0))
  copying_in_more h = record { long = length-set a i (get_or s i 0) ∙ m.long; same = λ j lt. go j lt (dec_lt j i) }
    where
      go : (j : ℕ) → j < i + 1 → Dec (j < i) → get_or (set a i (get_or s i 0)) j 0 ≡ get_or s j 0
      go j lt (yes y) = get_or-set_other a i j (get_or s i 0) 0 (λ e. omega arith) ∙ m.same j y
      go j lt (no n) = let e : j ≡ i = omega arith in rw e (get_or-set_same a i (get_or s i 0) 0 (omega (arith, m.long)))

  pub copying_in_all : length s ≤ i → length s ≤ length b → CopiedIn s b a
  copying_in_all h k =
      let l : length (part a 0 (length s)) ≡ length s = part_length a 0 (length s) (omega (arith, m.long)) in
      record {
        bytes = ext_get_or 0 (part a 0 (length s)) s l (λ j lt. get_or-take (length s) a j 0 (omega arith) ∙ m.same j (omega arith));
        long = m.long;
      }

pub copied_in : {s b f : List ℕ} → length s ≤ length b → f ≡ s → CopiedIn s b (f ++ drop (length s) b)
copied_in {s} {b} h e = rw e (record {
  bytes = take_at s (drop (length s) b) (length s) refl;
  long = length-append s (drop (length s) b) ∙ rw length-drop (omega arith);
})

pub marked_by : {k k' top : ℕ} {b : List ℕ} → k ≡ k' → top < length b → Marked k' top b (set b top k)
marked_by {k} {k'} {top} {b} e h = record { is = ap (λ (x : ℕ). set b top x) e; inside = h }
