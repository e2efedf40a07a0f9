-- What a refusal says, in the explaining reading: its chain begins with the node that was entered, leads from each node to one that it may
-- enter, and is no longer than the levels allow; its last node is of a kind that refuses so; of 54, and 54 alone, a node wrote first.
use Rattle.std.proofs.Math.Path.{◌≡◌, refl}
use Rattle.std.proofs.Common.{subst, arith}
use Rattle.std.proofs.Math.Option.{Option, none, some}
use Rattle.std.specs.Prelude.{List, [], ◌∷◌, get_or}
use Prim.Native.Nat.{ℕ, zero, suc, ◌-◌, ◌≤◌}
use Rattle.std.proofs.Math.ListN.{get_elem?}
use Rattle.value.specs.Value.{Value}
use Rattle.node.specs.declared.Node.{Node}
use Rattle.node.specs.declared.Node.TheVariants.{False}
use Rattle.sheet.specs.Sheet.{Sheet}
use Rattle.rules.specs.Semantics.{Env}
pub use Rattle.rules.specs.Nodes.{◌∈◌, here, there}
use Rattle.rules.specs.Nodes.{entries, Way, out, back, MayRefuse, MayAsk, ask_refuse, own_above, out-back}
use Rattle.rules.specs.Explain.{
  Cause,
  Exit,
  got,
  met,
  Explained,
  more,
  below,
  entered,
  choice,
  follow,
  next,
  wanted,
  Cell,
  Cells,
  explaining,
  own,
  barred,
  get,
  put,
}
use Rattle.rules.proofs.Laws.Related.{all2_at}
use Rattle.rules.specs.Laws.Cells.{Grows, WrittenBy, empty, blank, held}
use Rattle.rules.proofs.Laws.Cells.{grew_kept, grows_refl}
use Rattle.rules.specs.Laws.Invariant.{Invariant, Any}
use Rattle.rules.proofs.Laws.Invariant.{get_holds, put_holds}
use Rattle.rules.specs.Explain.Chain.{Chain, Wrote, nobody, somebody, Refuses, Below, further, itself, Meets, came, stop, Ends, ended, stopped, Always, Whoever}

-- THE READING KEEPS IT

module _ {A : Type 0} {P : Cause → Type 0} {Q : A → Type 0} where
  -- `ended` and `stopped` with their goal read first
  ends : {a : A} {s left : ℕ} → s ≤ left → Q a → Ends P Q left (got a s)
  ends h q = ended h q

  stops : {y : Cause} {s left : ℕ} → (y.code ≡ 41 → s ≡ left) → P y → Ends P Q left (met y s)
  stops h p = stopped h p

  always_gives : (a : A) → Q a → Always P Q (λ _. got a 0)
  always_gives a q = record { at = λ left. ends (omega arith) q }

  ends_more : (s left : ℕ) {t : Exit A} → s ≤ left → Ends P Q (left - s) t → Ends P Q left (more s t)
  unfolding more
  ends_more s left h (ended k q) = ends (omega arith) q
  ends_more s left h (stopped {y} k p) = stops (λ (e : y.code ≡ 41). let z = k e in omega arith) p

module _ {A B : Type 0} {P : Cause → Type 0} {Q : A → Type 0} {S : B → Type 0} where
  ends_follow : (left : ℕ) {t : Exit A} {f : A → ℕ → Exit B} → Ends P Q left t → ((a : A) (s : ℕ) → Q a → Ends P S (left - s) (f a s))
      → Ends P S left (follow t f)
  unfolding follow
  ends_follow left (ended h q) j = ends_more _ left h (j _ _ q)
  ends_follow left (stopped h p) j = stopped h p

  always_binds : {m : Explained A} {f : A → Explained B} → Always P Q m → ((a : A) → Q a → Always P S (f a)) → Always P S (next m f)
  unfolding next
  always_binds {m} {f} h j = record { at = λ left. ends_follow left (h.at left) λ a s q. (j a q).at (left - s) }

module _ {P : ℕ → Type 0} {w : Way} {sh : Sheet} {nd : Node} {l : ℕ} where
  module _ {B : Type 0} {S : B → Type 0} where
    -- a refusal of the node's own
    refusing : (c : ℕ) (f : Option ℕ) → MayRefuse w nd c → Wrote P (own c f) → Always {A = B} (Below P w sh nd l) S (λ _. met (own c f) 0)
    refusing c f r q =
        record { at = λ left. stopped {y = own c f} (λ (e : c ≡ 41). let z = own_above w nd c r in absurd (omega arith)) (itself refl r q) }

    always_asks : {A : Type 0} (c : ℕ) (o : Option A) {k : A → Explained B} → (o ≡ none → MayAsk w nd c)
        → ((a : A) → o ≡ some a → Always (Below P w sh nd l) S (k a)) → Always (Below P w sh nd l) S (wanted (own c none) o k)
    unfolding wanted
    always_asks c none r h = let z = ask_refuse w nd c (r refl) in refusing c _ z.0 (nobody refl z.1)
    always_asks c (some a) r h = h a refl

    always_chooses : {X Y : Type 0} (p : Dec X) (q : Dec Y) {x y : Explained B} → MayRefuse w nd 53 → Always (Below P w sh nd l) S x
        → Always (Below P w sh nd l) S y → Always (Below P w sh nd l) S (choice p q x y)
    unfolding choice
    always_chooses (yes p) q r h j = h
    always_chooses (no p) (yes q) r h j = j
    always_chooses (no p) (no q) r h j = refusing 53 _ r (nobody refl λ (e : ◌≡◌ {A = ℕ} 53 54). absurd (omega arith))

    always_clashes : {A : Type 0} (n : ℕ) (o : Option A) {k : A → Explained B} → MayRefuse w nd 54 → P n → ((a : A) → Always (Below P w sh nd l) S (k a))
        → Always (Below P w sh nd l) S (wanted (own 54 (some n)) o k)
    unfolding wanted
    always_clashes n none r i h = refusing 54 (some n) r (somebody refl i refl)
    always_clashes n (some a) r i h = h a

-- a node that is entered
wrote_below : {P : ℕ → Type 0} {y : Cause} (n : ℕ) → Wrote P y → Wrote P (record { code = y.code; chain = n ∷ y.chain; first = y.first })
wrote_below n (nobody e c) = nobody e c
wrote_below n (somebody e i c) = somebody e i c

module _ {P : ℕ → Type 0} {w : Way} {sh : Sheet} where
  refuses_below : {l : ℕ} {y : Cause} (n : ℕ) → Below P w sh (get_or sh.nodes n False) l y
      → Refuses P w sh n (suc l) (record { code = y.code; chain = n ∷ y.chain; first = y.first })
  refuses_below {l} {y} n (itself e r q) = record {
    chain = record {
      rest = [];
      begins = rw e refl;
      leads = tt;
      short = omega arith;
      deepest = λ (d : y.code ≡ 40). let z = own_above w _ y.code r in absurd (omega arith);
    };
    kind = λ _. r;
    wrote = wrote_below n q;
  }
  refuses_below {l} {y} n (further {n = m} i h) = let c = h.chain in record {
    chain = record {
      rest = m ∷ c.rest;
      begins = rw c.begins refl;
      leads = (i, c.leads);
      short = omega (arith, c.short);
      deepest = λ (d : y.code ≡ 40). omega (arith, c.deepest d);
    };
    kind = h.kind;
    wrote = wrote_below n h.wrote;
  }

  -- one that could not be entered
  refuses_barred : {l : ℕ} (c n : ℕ) → c ≤ 41 → (c ≡ 40 → l ≡ 0) → Refuses P w sh n l (barred c n)
  refuses_barred {l} c n h d = record {
    chain = record { rest = []; begins = refl; leads = tt; short = omega arith; deepest = λ (e : c ≡ 40). let z = d e in omega arith };
    kind = λ (k : 42 ≤ c). absurd (omega arith);
    wrote = nobody refl λ (e : c ≡ 54). absurd (omega arith);
  }

module _ {P : ℕ → Type 0} {w : Way} {sh : Sheet} {A : Type 0} {Q : A → Type 0} where
  ends_below : {l : ℕ} (n left : ℕ) {t : Exit A} → Ends (Below P w sh (get_or sh.nodes n False) l) Q left t
      → Ends (Refuses P w sh n (suc l)) Q (suc left) (below n t)
  unfolding below
  ends_below n left (ended h q) = ends (omega arith) q
  ends_below n left (stopped {y} h p) = stops (λ (e : y.code ≡ 41). let z = h e in omega arith) (refuses_below n p)

  always_enters : {l : ℕ} {m : Explained A} (n : ℕ) → Always (Below P w sh (get_or sh.nodes n False) l) Q m → Always (Refuses P w sh n (suc l)) Q (entered n m)
  unfolding entered
  always_enters {l} {m} n h = record { at = go }
    where
      go : (left : ℕ) → Ends (Refuses P w sh n (suc l)) Q left (entered n m left)
      go zero = stopped {y = barred 41 n} (λ _. refl) (refuses_barred 41 n (omega arith) λ (e : ◌≡◌ {A = ℕ} 41 40). absurd (omega arith))
      go (suc left) = ends_below n left (h.at left)

  always_deeps : (n : ℕ) → Always (Refuses P w sh n 0) Q (λ _. met (barred 40 n) 0)
  always_deeps n =
      record { at = λ left. stopped {y = barred 40 n} (λ (e : ◌≡◌ {A = ℕ} 40 41). absurd (omega arith)) (refuses_barred 40 n (omega arith) λ _. refl) }

module _ {A : Type 0} {P S : Cause → Type 0} {Q : A → Type 0} where
  always_map : {m : Explained A} → ((y : Cause) → P y → S y) → Always P Q m → Always S Q m
  always_map f h = record { at = λ left. go (h.at left) }
    where
      go : {left : ℕ} {t : Exit A} → Ends P Q left t → Ends S Q left t
      go (ended k q) = ended k q
      go (stopped k p) = stopped k (f _ p)

pub refuses_back : {P : ℕ → Type 0} {sh : Sheet} {n l : ℕ} {y : Cause} → Refuses P out sh n l y → Refuses P back sh n l y
refuses_back {y = y} h = record { chain = h.chain; kind = λ k. out-back _ y.code (h.kind k); wrote = h.wrote }

module _ (sh : Sheet) (P : ℕ → Type 0) where
  abbrev RuleOf : Way → Node → ℕ → {A : Type 0} → (A → Type 0) → Explained A → Type 0
  RuleOf w nd l Q m = Always (Below P w sh nd l) Q m

  abbrev WalkOf : Way → ℕ → ℕ → {A : Type 0} → (A → Type 0) → Explained A → Type 0
  WalkOf w l n Q m = Always (Refuses P w sh n l) Q m

  abbrev kept : ((n m : ℕ) → P n → m ∈ entries sh (get_or sh.nodes n False) → P m) → Invariant explaining sh
  kept leads = record {
    In = P;
    By = λ c. P c.by;
    Rule = RuleOf;
    Walk = WalkOf;
    gives = always_gives;
    binds = always_binds;
    givens = always_asks;
    sees = λ c v o r k. always_asks c o (λ _. r) λ a _. k a;
    chooses = always_chooses;
    clashes = λ c o r i k. always_clashes c.by o r i k;
    enters = λ n i h. always_enters n h;
    deeps = λ n i. always_deeps n;
    goes = λ i h. always_map (λ y p. further i p) h;
    looks = λ i h. always_map (λ y p. further i (refuses_back p)) h;
    marks = λ n v i. i;
    leads = λ i e. leads _ _ i e;
  }

-- OF ANY NODE

module _ {sh : Sheet} {P : ℕ → Type 0} (leads : (n m : ℕ) → P n → m ∈ entries sh (get_or sh.nodes n False) → P m) where
  pub get_ends : (l n : ℕ) (μ : Env) (left : ℕ) → P n → Ends (Refuses P out sh n l) Any left (get l sh n μ left)
  get_ends l n μ left i = (get_holds (kept sh P leads) l n μ i).at left

  pub put_ends : (l n : ℕ) (μ : Env) (σ : List ℕ) (v : Value) (W : Cells) (left : ℕ) → P n → WrittenBy (λ (c : Cell). P c.by) W
      → Ends (Refuses P back sh n l) (Grows (λ (c : Cell). P c.by) W) left (put l sh n μ σ v W left)
  put_ends l n μ σ v W left i k = (put_holds (kept sh P leads) l n μ σ v W W i k (grows_refl W)).at left

anyhow : (W : Cells) → WrittenBy (λ (c : Cell). Whoever c.by) W
anyhow [] = empty
anyhow (none ∷ W) = blank (anyhow W)
anyhow (some c ∷ W) = held tt (anyhow W)

module _ (l : ℕ) (sh : Sheet) (n : ℕ) (μ : Env) (left : ℕ) where
  pub get_refuses : Ends (Refuses Whoever out sh n l) Any left (get l sh n μ left)
  get_refuses = get_ends (λ _ _ _ _. tt) l n μ left tt

  module _ (σ : List ℕ) (v : Value) (W : Cells) where
    pub put_refuses : Ends (Refuses Whoever back sh n l) (Grows (λ (c : Cell). Whoever c.by) W) left (put l sh n μ σ v W left)
    put_refuses = put_ends (λ _ _ _ _. tt) l n μ σ v W left tt (anyhow W)

    -- a cell once written keeps its writer and its value through every put
    pub cell_kept : {X : Cells} {s : ℕ} → put l sh n μ σ v W left ≡ got X s → (c : ℕ) (w : Cell) → get_elem? W c ≡ some (some w)
        → get_elem? X c ≡ some (some w)
    cell_kept {X} {s} e c w h = go (subst (Ends (Refuses Whoever back sh n l) (Grows (λ (d : Cell). Whoever d.by) W) left) e put_refuses)
      where
        go : Ends {A = Cells} (Refuses Whoever back sh n l) (Grows (λ (d : Cell). Whoever d.by) W) left (got X s) → get_elem? X c ≡ some (some w)
        go (ended _ g) = let (o, eo, r) = all2_at c g h in let z = grew_kept r refl in cc

-- for 41 the steps taken are those that were left
ends_spent : {A : Type 0} {P : Cause → Type 0} {Q : A → Type 0} {left : ℕ} {t : Exit A} {y : Cause} {s : ℕ} → Ends P Q left t → t ≡ met y s → y.code ≡ 41
    → s ≡ left
ends_spent {A} {P} {Q} {left} {t} {y} {s} h e c = go (subst (Ends P Q left) e h)
  where
    go : Ends {A = A} P Q left (met y s) → s ≡ left
    go (stopped k p) = k c

module _ (l : ℕ) (sh : Sheet) (n : ℕ) (μ : Env) (left : ℕ) {y : Cause} {s : ℕ} where
  pub get_spent : get l sh n μ left ≡ met y s → y.code ≡ 41 → s ≡ left
  get_spent e c = ends_spent (get_refuses l sh n μ left) e c

  pub put_spent : (σ : List ℕ) (v : Value) (W : Cells) → put l sh n μ σ v W left ≡ met y s → y.code ≡ 41 → s ≡ left
  put_spent σ v W e c = ends_spent (put_refuses l sh n μ left σ v W) e c

chained : {A : Type 0} {P : ℕ → Type 0} {w : Way} {sh : Sheet} {n l left : ℕ} {Q : A → Type 0} {t : Exit A} → Ends (Refuses P w sh n l) Q left t
    → Meets (Chain sh n l) t
chained (ended k q) = came
chained (stopped k p) = stop p.chain

pub get_chain : (l : ℕ) (sh : Sheet) (n : ℕ) (μ : Env) (left : ℕ) → Meets (Chain sh n l) (get l sh n μ left)
get_chain l sh n μ left = chained (get_refuses l sh n μ left)

pub put_chain : (l : ℕ) (sh : Sheet) (n : ℕ) (μ : Env) (σ : List ℕ) (v : Value) (W : Cells) (left : ℕ) → Meets (Chain sh n l) (put l sh n μ σ v W left)
put_chain l sh n μ σ v W left = chained (put_refuses l sh n μ left σ v W)
