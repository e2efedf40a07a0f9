-- When two texts are the same: what the test `same` says.
use Rattle.std.specs.Prelude.{◌≡◌, refl, Bool, true, false, ◌&&◌, List, [], ◌∷◌, ℕ, eqb}
use Rattle.std.proofs.Common.{ap, ◌∙◌, arith, eq-eqb, eqb-true}
use Rattle.tokens.specs.Tokens.{same}

pub and-true : (a b : Bool) → a && b ≡ true → (a ≡ true) × (b ≡ true)
and-true true b e = (refl, e)
and-true false b e = let z : ◌≡◌ {A = ℕ} 0 1 = cc in absurd (omega arith)

pub same_self : (w : List ℕ) → same w w ≡ true
unfolding same
same_self [] = refl
same_self (c ∷ w) = rw (eq-eqb c c refl) (same_self w)

pub same_true : (v w : List ℕ) → same v w ≡ true → v ≡ w
unfolding same
same_true [] [] e = refl
same_true [] (c ∷ w) e = let z : ◌≡◌ {A = ℕ} 0 1 = cc in absurd (omega arith)
same_true (c ∷ v) [] e = let z : ◌≡◌ {A = ℕ} 0 1 = cc in absurd (omega arith)
same_true (c ∷ v) (d ∷ w) e =
    let p = and-true (eqb c d) (same v w) e in
    ap (λ (x : ℕ). x ∷ v) (eqb-true c d p.0) ∙ ap (λ (l : List ℕ). d ∷ l) (same_true v w p.1)

pub same_not : (v w : List ℕ) → (v ≡ w → ⊥) → same v w ≡ false
same_not v w f = go (same v w) refl
  where
    go : (b : Bool) → same v w ≡ b → same v w ≡ false
    go true e = absurd (f (same_true v w e))
    go false e = e
