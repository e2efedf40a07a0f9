-- Text written into a lent buffer at a place: as far as there is room, and nothing else changes.
use Rattle.std.specs.Prelude.{◌≡◌, refl, List, [], ◌∷◌, ◌++◌, ℕ, suc, ◌+◌, ◌≤◌, ◌<◌, min, length, take, drop, get_or, set}
use Rattle.std.proofs.Common.{sym, ap, ◌∙◌, add-one, arith, length-append, length-set, length-take-le, take-suc, take_all}
use Rattle.std.proofs.Math.Decide.{dec_le}
use Rattle.std.proofs.lemmas.List.Edits.{sets, sets-eq}
use Rattle.std.proofs.Math.Seq.{length-sets, take-append_seam, set_out}

-- the text t at place i of the buffer b: b' has it, and r is the place behind it. Where the buffer ends first, the text is cut there
pub record Wrote (t : List ℕ) (i : ℕ) (b b' : List ℕ) (r : ℕ) : Type 0 where
  pub made : b' ≡ sets b i t
  pub end : r ≡ min (i + length t) (length b)
  pub inside : r ≤ length b'
  pub front : r ≡ length (take r b')

pub wrote : {t : List ℕ} {i : ℕ} {b b' : List ℕ} {r : ℕ} → b' ≡ sets b i t → r ≡ min (i + length t) (length b) → Wrote t i b b' r
wrote {t} {i} {b} {b'} {r} m e =
    let h : r ≤ length b' = rw (m, length-sets) (omega arith) in
    record { made = m; end = e; inside = h; front = sym (length-take-le r b' h) }

-- a byte
pub wrote_byte : {i v : ℕ} {b : List ℕ} → i < length b → Wrote (v ∷ []) i b (set b i v) (i + 1)
wrote_byte h = wrote refl (omega arith)

pub wrote_cut : {i v : ℕ} {b : List ℕ} → length b ≤ i → Wrote (v ∷ []) i b b (length b)
wrote_cut {i} {v} {b} h = wrote (sym (set_out b i v h)) (omega arith)

-- ONE TEXT BEHIND ANOTHER

pub sets_out : (t b : List ℕ) (i : ℕ) → length b ≤ i → sets b i t ≡ b
sets_out [] b i h = refl
sets_out (v ∷ t) b i h = sets_out t (set b i v) (suc i) (rw length-set (omega arith)) ∙ set_out b i v h

sets-min : (t b : List ℕ) (i : ℕ) → sets b (min i (length b)) t ≡ sets b i t
sets-min t b i = go (dec_le i (length b))
  where
    go : Dec (i ≤ length b) → sets b (min i (length b)) t ≡ sets b i t
    go (yes h) = let e : min i (length b) ≡ i = omega arith in rw e
    go (no h) = sets_out t b (min i (length b)) (omega arith) ∙ sym (sets_out t b i (omega arith))

sets-append : (s t b : List ℕ) (i : ℕ) → sets b i (s ++ t) ≡ sets (sets b i s) (i + length s) t
sets-append [] t b i = let e : i + 0 ≡ i = omega arith in rw e
sets-append (v ∷ s) t b i = let e : i + suc (length s) ≡ suc i + length s = omega arith in rw e (sets-append s t (set b i v) (suc i))

pub wrote_then : {s t : List ℕ} {i m r : ℕ} {b b₁ b₂ : List ℕ} → Wrote s i b b₁ m → Wrote t m b₁ b₂ r → Wrote (s ++ t) i b b₂ r
wrote_then {s} {t} {i} {m} {r} {b} {b₁} {b₂} p q =
    let l : length b₁ ≡ length b = ap length p.made ∙ length-sets b i s in
    wrote
    (q.made ∙ ap (λ (k : ℕ). sets b₁ k t) (p.end ∙ ap (min (i + length s)) (sym l)) ∙ sets-min t b₁ (i + length s)
    ∙ ap (λ (c : List ℕ). sets c (i + length s) t) p.made ∙ sym (sets-append s t b i))
    (rw length-append (omega (arith, q.end, p.end, l)))

pub wrote_long : {t : List ℕ} {i r : ℕ} {b b' : List ℕ} → Wrote t i b b' r → length b' ≡ length b
wrote_long {t} {i} {b = b} p = ap length p.made ∙ length-sets b i t

pub wrote_text : {s t : List ℕ} {i r : ℕ} {b b' : List ℕ} → Wrote s i b b' r → s ≡ t → Wrote t i b b' r
wrote_text p e = rw e at p

-- what is written byte by byte: the first i of its bytes, and then all
pub wrote_more : (bs : List ℕ) (i : ℕ) {p m r : ℕ} {b b₁ b₂ : List ℕ} → i < length bs
    → Wrote (take i bs) p b b₁ m → Wrote (get_or bs i 0 ∷ []) m b₁ b₂ r → Wrote (take (i + 1) bs) p b b₂ r
wrote_more bs i h p q = wrote_text (wrote_then p q) (sym (rw (add-one, take-suc bs i 0 h)))

pub wrote_all : (f : List ℕ → List ℕ) (bs : List ℕ) (i : ℕ) {p r : ℕ} {b b' : List ℕ} → length bs ≤ i → Wrote (f (take i bs)) p b b' r → Wrote (f bs) p b b' r
wrote_all f bs i h p = wrote_text p (ap f (take_all i bs h))

-- A WHOLE TEXT AT THE FRONT OF A BUFFER

-- the text t is at the front of the buffer b, which became b' and is unchanged behind it; r is the text's length
pub record Front (t b b' : List ℕ) (r : ℕ) : Type 0 where
  pub made : b' ≡ t ++ drop r b
  pub long : r ≡ length t
  pub inside : r ≤ length b'
  pub front : r ≡ length (take r b')

pub front_read : {t b b' : List ℕ} {r : ℕ} → Front t b b' r → take r b' ≡ t
front_read {t} {b} {b'} {r} f = rw (f.made, f.long) (take-append_seam t (drop (length t) b))

-- text that has room is whole
pub wrote_front : {t b b' : List ℕ} {r : ℕ} → Wrote t 0 b b' r → length t ≤ length b → Front t b b' r
wrote_front {t} {b} {b'} {r} p h =
    let l : r ≡ length t = omega (arith, p.end) in
    let z : 0 + length t ≡ r = omega arith in
    record { made = p.made ∙ sets-eq t b 0 (omega arith) ∙ ap (λ (k : ℕ). t ++ drop k b) z; long = l; inside = p.inside; front = p.front }
