-- Lists related member by member, and a list's elements by their index.
use Rattle.std.specs.Prelude.{◌≡◌, refl, List, [], ◌∷◌, ◌++◌, ℕ, zero, suc, length, take, set}
use Rattle.std.proofs.Common.{ap, subst, arith}
use Rattle.std.proofs.Math.Option.{some, none-ne-some, some-injective}
use Rattle.std.proofs.Math.ListN.{get_elem?}
use Rattle.rules.specs.Laws.Related.{All2, ends, more}

module _ {A B : Type 0} {R : A → B → Type 0} where
  pub all2_map : {S : A → B → Type 0} {xs : List A} {ys : List B} → ((a : A) (b : B) → R a b → S a b) → All2 R xs ys → All2 S xs ys
  all2_map f ends = ends
  all2_map f (more r h) = more (f _ _ r) (all2_map f h)

  pub all2_append : {xs us : List A} {ys vs : List B} → All2 R xs ys → All2 R us vs → All2 R (xs ++ us) (ys ++ vs)
  all2_append ends k = k
  all2_append (more r h) k = more r (all2_append h k)

  pub all2_at : {xs : List A} {ys : List B} {a : A} (x : ℕ) → All2 R xs ys → get_elem? xs x ≡ some a → (b : B) × (get_elem? ys x ≡ some b) × R a b
  all2_at x ends e = absurd (none-ne-some _ e)
  all2_at zero (more {b} r h) e = (b, refl, subst (λ c. R c b) (some-injective _ _ e) r)
  all2_at (suc x) (more r h) e = all2_at x h e

  pub all2_of : (xs : List A) (ys : List B) → length xs ≡ length ys
      → ((x : ℕ) (a : A) (b : B) → get_elem? xs x ≡ some a → get_elem? ys x ≡ some b → R a b) → All2 R xs ys
  all2_of [] [] e h = ends
  all2_of [] (b ∷ ys) e h = absurd (omega arith)
  all2_of (a ∷ xs) [] e h = absurd (omega arith)
  all2_of (a ∷ xs) (b ∷ ys) e h = more (h 0 a b refl refl) (all2_of xs ys (omega arith) λ x. h (suc x))

  pub all2_flip : {xs : List A} {ys : List B} → All2 R xs ys → All2 (λ b a. R a b) ys xs
  all2_flip ends = ends
  all2_flip (more r h) = more r (all2_flip h)

  pub all2_length : {xs : List A} {ys : List B} → All2 R xs ys → length xs ≡ length ys
  all2_length ends = refl
  all2_length (more r h) = ap suc (all2_length h)

  pub all2_take : {xs : List A} (ys zs : List B) → All2 R xs (ys ++ zs) → All2 R (take (length ys) xs) ys
  all2_take [] zs h = ends
  all2_take (y ∷ ys) zs (more {a = a} {xs = xs} r h) = more r (all2_take {xs = xs} ys zs h)

  pub all2_set : {xs : List A} {ys : List B} {b : B} (x : ℕ) (a : A) → All2 R xs ys → get_elem? ys x ≡ some b → R a b → All2 R (set xs x a) ys
  all2_set x a ends e r = ends
  all2_set zero a (more q h) e r = more (rw (← some-injective _ _ e) at r) h
  all2_set (suc x) a (more q h) e r = more q (all2_set x a h e r)

module _ {A : Type 0} where
  pub at_left : (xs ys : List A) (x : ℕ) {a : A} → get_elem? xs x ≡ some a → get_elem? (xs ++ ys) x ≡ some a
  at_left [] ys x e = absurd (none-ne-some _ e)
  at_left (b ∷ xs) ys zero e = e
  at_left (b ∷ xs) ys (suc x) e = at_left xs ys x e

  pub at_behind : (xs : List A) (a : A) (ys : List A) → get_elem? (xs ++ a ∷ ys) (length xs) ≡ some a
  at_behind [] a ys = refl
  at_behind (c ∷ xs) a ys = at_behind xs a ys

  pub at_seam : (xs : List A) (a b : A) → get_elem? (xs ++ a ∷ b ∷ []) (length xs) ≡ some a
  at_seam xs a b = at_behind xs a (b ∷ [])

  pub at_last : (xs : List A) (a b : A) → get_elem? (xs ++ a ∷ b ∷ []) (suc (length xs)) ≡ some b
  at_last [] a b = refl
  at_last (c ∷ xs) a b = at_last xs a b

  pub at_take : (n : ℕ) (xs : List A) (x : ℕ) {a : A} → get_elem? (take n xs) x ≡ some a → get_elem? xs x ≡ some a
  at_take zero xs x e = absurd (none-ne-some _ e)
  at_take (suc n) [] x e = e
  at_take (suc n) (b ∷ xs) zero e = e
  at_take (suc n) (b ∷ xs) (suc x) e = at_take n xs x e

  pub at_set : (xs : List A) (x : ℕ) (a : A) {b : A} → get_elem? xs x ≡ some b → get_elem? (set xs x a) x ≡ some a
  at_set [] x a e = absurd (none-ne-some _ e)
  at_set (c ∷ xs) zero a e = refl
  at_set (c ∷ xs) (suc x) a e = at_set xs x a e

module _ {A : Type 0} {R : A → A → Type 0} where
  pub all2_self : ((a : A) → R a a) → (xs : List A) → All2 R xs xs
  all2_self f [] = ends
  all2_self f (a ∷ xs) = more (f a) (all2_self f xs)

  pub all2_join : {xs ys zs : List A} → ((a b c : A) → R a b → R b c → R a c) → All2 R xs ys → All2 R ys zs → All2 R xs zs
  all2_join f ends ends = ends
  all2_join f (more r h) (more q k) = more (f _ _ _ r q) (all2_join f h k)
