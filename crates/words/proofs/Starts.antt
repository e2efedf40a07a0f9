-- Starts, as a line has them: written one after another.
use Rattle.std.specs.Prelude.{◌≡◌, refl, List, [], ◌∷◌, ◌++◌, map, ℕ, zero, suc, ◌+◌, ◌≤◌, ◌<◌, min, length, get_or, take}
use Rattle.std.proofs.Common.{sym, ap, add-one, arith, take-suc}
use Rattle.report.specs.Text.{words}
use Rattle.report.proofs.TextLaws.{wrote_words}
use Rattle.report.specs.Writing.{Wrote, wrote_text}
use Rattle.starts.specs.declared.Starts.{Starts}
use Rattle.starts.specs.Starts.{firsts, numbers}

-- as many starts as the count says, at most 16
abbrev pub kept : Starts → List ℕ
kept s = firsts (min s.count 16) s.at

pub kept_all : (s : Starts) → s.count ≤ 16 → kept s ≡ numbers s
kept_all s h = let e : min s.count 16 ≡ s.count = omega arith in ap (λ (n : ℕ). firsts n s.at) e

pub map-append : {X : Type 0} (f : X → List ℕ) (s t : List X) → map f (s ++ t) ≡ map f s ++ map f t
map-append f [] t = refl
map-append f (n ∷ s) t = rw (map-append f s t)

-- as many as there are
pub firsts-take : (n : ℕ) (l : List ℕ) → n ≤ length l → take n l ≡ firsts n l
firsts-take zero l h = refl
firsts-take (suc n) [] h = absurd (omega arith)
firsts-take (suc n) (x ∷ l) h = ap (λ (z : List ℕ). x ∷ z) (firsts-take n l (omega arith))

-- numbers written one after another: the first i of them, and one more
pub wrote_number : {X : Type 0} (f : X → List ℕ) (l : List X) (i : ℕ) (x : X) → i < length l → x ≡ get_or l i x → {p m r : ℕ} {b b₁ b₂ : List ℕ}
    → Wrote (words (map f (take i l))) p b b₁ m → Wrote (words (f x ∷ [])) m b₁ b₂ r → Wrote (words (map f (take (i + 1) l))) p b b₂ r
wrote_number f l i x h e v w =
    wrote_text (wrote_words (map f (take i l)) (f x ∷ []) v w)
    (sym (ap words (rw (add-one i, take-suc l i x h, ← e) (map-append f (take i l) (x ∷ [])))))
