-- Lists related member by member, and a list's elements by their index.
use Rattle.std.specs.Prelude.{List, [], ◌∷◌}

pub data All2 {A B : Type 0} (R : A → B → Type 0) : List A → List B → Type 0 where
  ends : All2 R [] []
  more : {a : A} {b : B} {xs : List A} {ys : List B} → R a b → All2 R xs ys → All2 R (a ∷ xs) (b ∷ ys)
