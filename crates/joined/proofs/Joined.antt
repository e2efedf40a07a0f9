-- Two sheets joined (document 02, request 7): node 0 is a pair of the two roots, the first sheet's nodes follow, then the second's. It gets
-- and puts as the first part and then the second do, each with one level less.
use Rattle.std.specs.Prelude.{◌≡◌, refl, List, ◌++◌, map, length, get_or, replicate}
use Rattle.std.proofs.Math.Path.{ap}
use Rattle.std.proofs.Common.{sym, ◌∙◌, get_or-append-add}
use Rattle.std.proofs.Math.Option.{none}
use Prim.Native.Nat.{ℕ, suc, ◌+◌, ◌≤◌, ◌<◌}
use native.Mathlib.Omega.{arith}
use Rattle.std.proofs.Math.Decide.{dec_le}
use Rattle.std.proofs.lemmas.List.{length-map}
use Rattle.std.proofs.Math.ListN.{get_or-append}
use Rattle.value.specs.Value.{Value, pair, size}
use Rattle.value.specs.Views.{as_pair}
use Rattle.node.specs.declared.Node.TheVariants.{False}
use Rattle.sheet.specs.Renumbering.{renumber}
use Rattle.sheet.specs.Sheet.{Sheet}
use Rattle.sheet.specs.Laws.{Ranges}
use Rattle.sheet.proofs.Ranging.{map_at}
use Rattle.rules.specs.Outcome.{done, plus, ◌>>=◌, given}
use Rattle.rules.specs.Allowance.{within}
use Rattle.rules.proofs.Laws.Allowances.{done-within}
use Rattle.rules.specs.Semantics
use Rattle.rules.specs.Counting.{Env, Cells, bounded, get, put}
use Rattle.rules.specs.Answer.{count, get_walk, put_walk}
use Rattle.rules.proofs.Laws.Outcomes.{given_yes}
use Rattle.rules.proofs.Laws.Scope.{bind_ext, given_ext}
use Rattle.rules.specs.Laws.Embedding.{Holds, itself}
use Rattle.embedding.specs.Whole.{whole_held}
use Rattle.embedding.specs.EmbeddingLaws.{get_embedded, put_embedded}
use Rattle.joined.specs.Joined.{joined, node_behind, section_behind}

-- an entry of the second of two lists that were mapped
pub behind_at : {A B : Type 0} (h k : A → B) (xs ys : List A) (i : ℕ) (d : A) (e : B) → i < length ys
    → get_or (map h xs ++ map k ys) (length xs + i) e ≡ k (get_or ys i d)
behind_at h k xs ys i d e z =
    ap (λ n. get_or (map h xs ++ map k ys) (n + i) e) (sym (length-map xs h)) ∙ get_or-append-add (map h xs) (map k ys) i e ∙ map_at k ys i d e z

pub front_at : {A B : Type 0} (h k : A → B) (xs ys : List A) (i : ℕ) (d : A) (e : B) → i < length xs
    → get_or (map h xs ++ map k ys) i e ≡ h (get_or xs i d)
front_at h k xs ys i d e z = get_or-append (map h xs) (map k ys) e i (rw length-map z) ∙ map_at h xs i d e z

module _ {a b : Sheet} (ra : Ranges a) (rb : Ranges b) where
  pub first_held : Holds (λ n. n < length a.nodes) suc itself a (joined a b)
  unfolding joined
  first_held = whole_held ra (λ n h. front_at (renumber suc itself) _ a.nodes b.nodes n False False h)
      (λ i h. front_at suc _ a.sections b.sections i 0 0 h)

  pub second_held : Holds (λ n. n < length b.nodes) (node_behind a) (section_behind a) b (joined a b)
  unfolding joined
  second_held = whole_held rb (λ n h. behind_at _ (renumber (node_behind a) (section_behind a)) a.nodes b.nodes n False False h)
      (λ i h. behind_at _ (node_behind a) a.sections b.sections i 0 0 h)

  -- THE WALKS: a step for the pair, then the first part and the second, with one level less
  pub get-joined : (l : ℕ) (μ : Env)
      → get (suc l) (joined a b) 0 μ ≡ plus 1 (get l a a.root μ >>= λ u. get l b b.root μ >>= λ v. bounded (pair u v))
  unfolding Semantics.get Semantics.get_node joined
  get-joined l μ = ap (plus 1) (bind_ext (get_embedded first_held l a.root μ ra.root) λ u.
      bind_ext (get_embedded second_held l b.root μ rb.root) λ v. refl)

  pub put-joined : (l : ℕ) (μ : Env) (σ : List ℕ) (v : Value) (W : Cells)
      → put (suc l) (joined a b) 0 μ σ v W ≡ plus 1 (given 51 (as_pair v) λ c. put l a a.root μ σ c.0 W >>= λ X. put l b b.root μ σ c.1 X)
  unfolding Semantics.put Semantics.put_node Semantics.both joined
  put-joined l μ σ v W = ap (plus 1) (given_ext 51 (as_pair v) λ c. bind_ext (put_embedded first_held l a.root μ σ c.0 W ra.root) λ X.
      put_embedded second_held l b.root μ σ c.1 X rb.root)

  -- WHOLE WALKS, exactly: refusals and steps too
  pub get_walk-joined : (allowance : ℕ) (μ : Env)
      → get_walk allowance (joined a b) μ ≡ within allowance (plus 1 (get 47 a a.root μ >>= λ u. get 47 b b.root μ >>= λ v. bounded (pair u v)))
  unfolding get_walk joined
  get_walk-joined allowance μ = ap (within allowance) (get-joined 47 μ)

  pub put_walk-joined : (allowance : ℕ) (μ : Env) (v : Value)
      → put_walk allowance (joined a b) μ v ≡ within allowance (plus 1 (given 51 (as_pair v) λ c.
      put 47 a a.root μ (count 0 (length μ)) c.0 (replicate (length μ) none) >>= λ X. put 47 b b.root μ (count 0 (length μ)) c.1 X))
  unfolding put_walk Semantics.put Semantics.put_node Semantics.both joined
  put_walk-joined allowance μ v = ap (λ o. within allowance (plus 1 o)) (given_ext 51 (as_pair v) λ c.
      bind_ext (put_embedded first_held 47 a.root μ (count 0 (length μ)) c.0 (replicate (length μ) none) ra.root) λ X.
      put_embedded second_held 47 b.root μ (count 0 (length μ)) c.1 X rb.root)

  -- so where both parts read out with 47 levels and the pair fits, the joined sheet gives the pair
  pub get_walk-pair : (allowance : ℕ) (μ : Env) {u v : Value} {s t : ℕ} → get 47 a a.root μ ≡ done u s → get 47 b b.root μ ≡ done v t
      → size (pair u v) ≤ 256 → 1 + s + t ≤ allowance → get_walk allowance (joined a b) μ ≡ done (pair u v) (1 + s + t)
  unfolding ◌>>=◌ plus Semantics.bounded
  get_walk-pair allowance μ {u} {v} {s} {t} ea eb fits few =
      let q : (1 + (s + (t + 0))) ≡ 1 + s + t = omega arith in
      get_walk-joined allowance μ ∙ rw (ea, eb, given_yes 44 (dec_le (size (pair u v)) 256) {x = done (pair u v) 0} fits, q) (done-within allowance _ _ few)

  -- and where both take their part of the view, one after the other, the joined sheet takes the view
  pub put_walk-pair : (allowance : ℕ) (μ : Env) (x y : Value) {X Y : Cells} {s t : ℕ}
      → put 47 a a.root μ (count 0 (length μ)) x (replicate (length μ) none) ≡ done X s → put 47 b b.root μ (count 0 (length μ)) y X ≡ done Y t
      → 1 + s + t ≤ allowance → put_walk allowance (joined a b) μ (pair x y) ≡ done Y (1 + s + t)
  unfolding ◌>>=◌ plus given as_pair
  put_walk-pair allowance μ x y {X} {Y} {s} {t} ea eb few =
      let q : 1 + (s + t) ≡ 1 + s + t = omega arith in
      put_walk-joined allowance μ (pair x y) ∙ rw (ea, eb, q) (done-within allowance _ _ few)
