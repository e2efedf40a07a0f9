-- What every get and put keeps, in any reading whose operations keep it: one induction over the kinds of node. With it, a cell once written
-- stays as it is through every put.
use Rattle.std.specs.Prelude.{◌≡◌, Bool, true, false, not, length, take}
use Rattle.std.proofs.Math.Path.{refl}
use Rattle.std.proofs.Math.Option.{Option, none, some, none-ne-some}
use mathlib.Core.List.{List, [], ◌∷◌, ◌++◌}
use Prim.Native.Nat.{ℕ, zero, suc, ◌+◌}
use Rattle.std.proofs.Math.ListN.{get_elem?}
use Rattle.value.specs.Value.{Value, Values, nil, cons, size}
use Rattle.node.specs.declared.Node.{Node}
use Rattle.node.specs.declared.Node.TheVariants.{Var, False, True, Empty, Number, Front, Pair, ListCase, TruthCase, Split, Call, Add, Each, Wide}
use Rattle.node.specs.Kinds.{children, calls}
use Rattle.sheet.specs.Sheet.{Sheet}
use Rattle.rules.specs.Semantics
use Rattle.rules.specs.Semantics.{Reading, Env, two, pick, on_list}
use Rattle.rules.specs.Nodes.{entries, ◌∈◌, here, there, refusals, Way, out, back, may_refuse, among, MayRefuse, MayAsk}
use Rattle.rules.proofs.Laws.Related.{all2_at, at_behind, at_seam, at_last}
use Rattle.rules.specs.Laws.Cells.{Grows, WrittenBy, empty, blank}
use Rattle.rules.proofs.Laws.Cells.{grows_refl, grows_trans, grows_take, grows_set, written_grown, written_append, written_at}
use Rattle.rules.specs.Laws.Invariant.{Invariant, Any}

picked : {f t : ℕ} {ns : List ℕ} (b : Bool) → f ∈ ns → t ∈ ns → pick b f t ∈ ns
picked false h j = h
picked true h j = j

-- what is there is not none
there_is : {A B : Type 0} {o : Option A} {a : A} → o ≡ some a → o ≡ none → B
there_is {a = a} e n = absurd (none-ne-some a (rw n at e))

module _ {R : Reading} {sh : Sheet} (X : Invariant R sh) where
  open X use {In, By, Rule, Walk, gives, binds, givens, sees, chooses, clashes, enters, deeps, goes, looks, marks, leads}

  module _ {w : Way} {nd : Node} {l : ℕ} where
    asks : {A B : Type 0} {Q : B → Type 0} (c : ℕ) (o : Option A) {k : A → R.M B} → MayAsk w nd c → ((a : A) → Rule w nd l Q (k a))
        → Rule w nd l Q (R.given c o k)
    asks c o r h = givens c o (λ _. r) λ a _. h a

    lists : {A : Type 0} {Q : A → Type 0} (m : Values) {x : R.M A} {f : Value → Values → R.M A} → Rule w nd l Q x
        → ((v : Value) (r : Values) → Rule w nd l Q (f v r)) → Rule w nd l Q (on_list m x f)
    unfolding on_list
    lists nil h j = h
    lists (cons v r) h j = j v r

    -- GET

    bounded_holds : (v : Value) → MayAsk w nd 44 → Rule w nd l Any (Semantics.bounded R v)
    unfolding Semantics.bounded
    bounded_holds v r = asks _ _ r λ _. gives v tt

    tested_holds : (t : ℕ) {m : R.M Value} → MayAsk w nd 46 → Rule w nd l Any m → Rule w nd l Any (Semantics.tested R t m)
    unfolding Semantics.tested
    tested_holds t r h = binds h λ v _. asks _ _ r λ _. gives v tt

    get_each_holds : (g : Semantics.Getter R) (root : ℕ) → MayAsk w nd 44 → ((μ : Env) → Rule w nd l Any (g root μ)) → (a : Value) (n : ℕ) (m : Values)
        → Rule w nd l Any (Semantics.get_each R g root a n m)
    unfolding Semantics.get_each
    get_each_holds g root q h a n nil = gives _ tt
    get_each_holds g root q h a n (cons m r) = binds (h _) λ v _. asks _ _ q λ _. binds (get_each_holds g root q h a (n + suc (size v)) r) λ vs _. gives _ tt

  -- of the nodes that a node may enter
  abbrev Gets : Way → Node → ℕ → Semantics.Getter R → Type 0
  Gets w nd l g = (n : ℕ) (μ : Env) → n ∈ entries sh nd → Rule w nd l Any (g n μ)

  module _ {l : ℕ} (g : Semantics.Getter R) (μ : Env) where
    get_node_holds : (nd : Node) → Gets out nd l g → Rule out nd l Any (Semantics.get_node R g sh nd μ)
    unfolding Semantics.get_node entries children calls may_refuse refusals among
    get_node_holds (Var x) h = asks _ _ refl λ v. gives v tt
    get_node_holds False h = gives _ tt
    get_node_holds True h = gives _ tt
    get_node_holds Empty h = gives _ tt
    get_node_holds (Number n) h = gives _ tt
    get_node_holds (Wide n) h = gives _ tt
    get_node_holds (Front a b) h = binds (h a μ here) λ f _. binds (h b μ (there here)) λ r _. sees _ _ _ refl λ m. bounded_holds _ refl
    get_node_holds (Pair a b) h = binds (h a μ here) λ u _. binds (h b μ (there here)) λ v _. bounded_holds _ refl
    get_node_holds (ListCase s e te n tn df dr) h = binds (h s μ here) λ v _. sees _ _ _ refl λ m.
        lists m.0 (tested_holds te refl (h e μ (there here))) λ f r. tested_holds tn refl (h n _ (there (there here)))
    get_node_holds (TruthCase s f tf t t₁) h = binds (h s μ here) λ v _. sees _ _ _ refl λ b.
        tested_holds _ refl (h _ μ (picked b.0 (there here) (there (there here))))
    get_node_holds (Split s i) h = binds (h s μ here) λ v _. sees _ _ _ refl λ p. h i _ (there here)
    get_node_holds (Call sec x y) h = asks _ _ refl λ a. asks _ _ refl λ b. h _ _ here
    get_node_holds (Add n k) h = binds (h n μ here) λ v _. sees _ _ _ refl λ m. asks _ _ refl λ _. gives _ tt
    get_node_holds (Each s sec x d) h = binds (h s μ here) λ v _. sees _ _ _ refl λ m. asks _ _ refl λ a.
        binds (get_each_holds g _ refl (λ ν. h _ ν (there (there here))) a _ m.0) λ ws _. gives _ tt

  pub get_holds : (l n : ℕ) (μ : Env) → In n → Walk out l n Any (Semantics.get R l sh n μ)
  unfolding Semantics.get
  get_holds zero n μ i = deeps n i
  get_holds (suc l) n μ i = enters n i (get_node_holds (Semantics.get R l sh) μ _ λ m ν e. goes e (get_holds l m ν (leads i e)))

  -- PUT, of cells W that have grown from Z

  abbrev Puts : Node → ℕ → Semantics.Putter R → Type 0
  Puts nd l p = (n : ℕ) (μ : Env) (σ : List ℕ) (v : Value) (Z W : Semantics.Cells R) → n ∈ entries sh nd → WrittenBy By Z → Grows By Z W
      → Rule back nd l (Grows By Z) (p n μ σ v W)

  module _ {nd : Node} {l : ℕ} where
    module _ (p : Semantics.Putter R) (h : Puts nd l p) (μ : Env) (σ : List ℕ) (v : Value) (Z W : Semantics.Cells R) (k : WrittenBy By Z) (g : Grows By Z W)
      where
        both_holds : (a : ℕ) (x : Value) (b : ℕ) (u : Value) → a ∈ entries sh nd → b ∈ entries sh nd
            → Rule back nd l (Grows By Z) (Semantics.both R p μ σ W a x b u)
        unfolding Semantics.both
        both_holds a x b u i j = binds (h a μ σ x Z W i k g) λ Y y. h b μ σ u Z Y j k y

        under_holds : (b s : ℕ) (mk : Value → Value → Option Value) (f r : Value) → MayAsk back nd 43 → MayAsk back nd 44
            → b ∈ entries sh nd → s ∈ entries sh nd → Rule back nd l (Grows By Z) (Semantics.under R p μ σ W b v s mk f r)
        unfolding Semantics.under
        under_holds b s mk f r m₁ m₂ i j =
            let start : Semantics.Cells R = W ++ two none none in
            binds (h b _ _ v start start i (written_append (written_grown g k) (blank (blank empty))) (grows_refl start)) λ Y y.
            givens _ _ (there_is (all2_at (length W) y (at_seam W none none)).1) λ x _.
            givens _ _ (there_is (all2_at (suc (length W)) y (at_last W none none)).1) λ z _.
            sees _ _ _ m₁ λ u. asks _ _ m₂ λ _. h s μ σ u Z (take (length W) Y) j k (grows_trans g (grows_take W (two none none) y))

        constant_holds : (u : Value) → MayAsk back nd 50 → Rule back nd l (Grows By Z) (Semantics.constant R v u W)
        unfolding Semantics.constant
        constant_holds u r = asks _ _ r λ _. gives W g

        -- a cell that is written stays as it is
        write_holds : (n c : ℕ) → In n → MayRefuse back nd 54 → (o : Option R.Cell) → get_elem? W c ≡ some o
            → Rule back nd l (Grows By Z) (Semantics.write R (R.mark n) c v W o)
        unfolding Semantics.write
        write_holds n c i r none e = gives _ (grows_trans g (grows_set W c (R.mark n v) e (marks n v i)))
        write_holds n c i r (some w) e = clashes w _ r (written_at c w (written_grown g k) e) λ _. gives _ g

  module _ {nd : Node} {l : ℕ} (g : Semantics.Getter R) (gets : Gets back nd l g) (p : Semantics.Putter R) (h : Puts nd l p) (Z : Semantics.Cells R)
      (k : WrittenBy By Z) where
    put_each_holds : (root d c : ℕ) → MayAsk back nd 44 → root ∈ entries sh nd → d ∈ entries sh nd
        → (a : Value) (n : ℕ) (old m : Values) (W : Semantics.Cells R)
        → Grows By Z W → Rule back nd l (λ (q : Values × Semantics.Cells R). Grows By Z q.1) (Semantics.put_each R g p root d c a n old m W)
    unfolding Semantics.put_each Semantics.stood_for
    put_each_holds root d c q i j a n old nil W y = gives _ y
    put_each_holds root d c q i j a n old (cons u r) W y =
        let start : Semantics.Cells R = W ++ none ∷ [] in
        binds (lists {Q = Any} old (gets d [] j) λ m _. gives m tt) λ m _.
        binds (h root _ _ u start start i (written_append (written_grown y k) (blank empty)) (grows_refl start)) λ Y z.
        givens _ _ (there_is (all2_at (length W) z (at_behind W none [])).1) λ o _. asks _ _ q λ _.
        binds (put_each_holds root d c q i j a (n + suc (size (Semantics.or_old R o m))) _ r _ (grows_trans y (grows_take W (none ∷ []) z))) λ t e. gives _ e

  module _ {l : ℕ} (g : Semantics.Getter R) (p : Semantics.Putter R) (μ : Env) (σ : List ℕ) (v : Value) (Z W : Semantics.Cells R) (k : WrittenBy By Z)
      (y : Grows By Z W) where
    put_node_holds : (n : ℕ) → In n → (nd : Node) → Gets back nd l g → Puts nd l p
        → Rule back nd l (Grows By Z) (Semantics.put_node R (R.mark n) g p sh nd μ σ v W)
    unfolding Semantics.put_node entries children calls may_refuse refusals among
    put_node_holds n i (Var x) gets h = asks _ _ refl λ c. givens _ _ (λ _. refl) λ o e. write_holds p h μ σ v Z W k y n c i refl o e
    put_node_holds n i False gets h = constant_holds p h μ σ v Z W k y _ refl
    put_node_holds n i True gets h = constant_holds p h μ σ v Z W k y _ refl
    put_node_holds n i Empty gets h = constant_holds p h μ σ v Z W k y _ refl
    put_node_holds n i (Number m) gets h = constant_holds p h μ σ v Z W k y _ refl
    put_node_holds n i (Wide m) gets h = constant_holds p h μ σ v Z W k y _ refl
    put_node_holds n i (Front a b) gets h = sees _ _ _ refl λ c. both_holds p h μ σ v Z W k y _ _ _ _ here (there here)
    put_node_holds n i (Pair a b) gets h = sees _ _ _ refl λ c. both_holds p h μ σ v Z W k y _ _ _ _ here (there here)
    put_node_holds n i (ListCase s e te m tn df dr) gets h = binds (gets s μ here) λ o _. sees _ _ _ refl λ q. lists q.0
        (chooses _ _ refl (both_holds p h μ σ v Z W k y _ _ _ _ (there here) here)
        (binds (gets df _ (there (there (there here)))) λ f _. binds (gets dr _ (there (there (there (there here))))) λ r _.
        sees _ _ _ refl λ _. under_holds p h μ σ v Z W k y _ _ _ _ _ refl refl (there (there here)) here))
        (λ f r. chooses _ _ refl (under_holds p h μ σ v Z W k y _ _ _ _ _ refl refl (there (there here)) here)
        (both_holds p h μ σ v Z W k y _ _ _ _ (there here) here))
    put_node_holds n i (TruthCase s f tf t t₁) gets h = binds (gets s μ here) λ o _. sees _ _ _ refl λ b. chooses _ _ refl
        (both_holds p h μ σ v Z W k y _ _ _ _ (picked b.0 (there here) (there (there here))) here)
        (both_holds p h μ σ v Z W k y _ _ _ _ (picked (not b.0) (there here) (there (there here))) here)
    put_node_holds n i (Split s b) gets h = binds (gets s μ here) λ o _. sees _ _ _ refl λ c.
        under_holds p h μ σ v Z W k y _ _ _ _ _ refl refl (there here) here
    put_node_holds n i (Call sec x z) gets h = asks _ _ refl λ a. asks _ _ refl λ c. asks _ _ refl λ b. asks _ _ refl λ d. h _ _ _ v Z W here k y
    put_node_holds n i (Add m j) gets h = sees _ _ _ refl λ a. asks _ _ refl λ _. h _ _ _ _ Z W here k y
    put_node_holds n i (Each s sec x d) gets h = sees _ _ _ refl λ q. binds (gets s μ here) λ o _. sees _ _ _ refl λ old. asks _ _ refl λ a. asks _ _ refl λ c.
        binds (put_each_holds g gets p h Z k _ d c refl (there (there here)) (there here) a _ old.0 q.0 W y) λ t e. h s μ σ _ Z _ here k e

  pub put_holds : (l n : ℕ) (μ : Env) (σ : List ℕ) (v : Value) (Z W : Semantics.Cells R) → In n → WrittenBy By Z → Grows By Z W
      → Walk back l n (Grows By Z) (Semantics.put R l sh n μ σ v W)
  unfolding Semantics.put
  put_holds zero n μ σ v Z W i k y = deeps n i
  put_holds (suc l) n μ σ v Z W i k y = enters n i (put_node_holds (Semantics.get R l sh) (Semantics.put R l sh) μ σ v Z W k y n i _
      (λ m ν e. looks e (get_holds l m ν (leads i e))) λ m ν τ u S T e q z. goes e (put_holds l m ν τ u S T (leads i e) q z))
