-- Our cells and the published writes: cells merged with writes, through the cell that each variable is.
use Rattle.std.specs.Prelude.{◌≡◌, refl, List, [], ◌∷◌, ◌++◌, ℕ, zero, suc, length, take, set}
use Rattle.std.proofs.Common.{sym}
use Rattle.std.proofs.Math.Option.{Option, none, some, none-ne-some}
use Rattle.std.proofs.Math.ListN.{get_elem?}
use Rattle.value.specs.Value.{Value}
use Rattle.rules.specs.Counting.{Env, Cells, two}
use Rattle.rules.specs.Laws.Related.{All2, ends, more}
use Rattle.rules.proofs.Laws.Related.{all2_map, all2_append, all2_at, all2_flip, all2_length, all2_take, all2_set, at_left, at_seam, at_last, at_set}
use Rattle.rules.proofs.Laws.Consistency.{Later, later_refl, later_trans}
use Rattle.published.specs.Published.{Writes, Over, blank, only, Merge1, neither, left, right, same, Merge, m_ends, m_more}

-- THE DEFINITIONS

-- each variable of μ has its cell in W
pub record Sits (W : Cells) (c : ℕ) (m : Value) : Type 0 where
  pub cell : Option Value
  pub there : get_elem? W c ≡ some cell

abbrev pub Laid : Cells → List ℕ → Env → Type 0
Laid W σ μ = All2 (Sits W) σ μ

-- what ω binds, X has in the variable's cell
pub record Has (X : Cells) (o : Option Value) (c : ℕ) : Type 0 where
  pub has : (v : Value) → o ≡ some v → get_elem? X c ≡ some (some v)

abbrev pub Seen : Writes → List ℕ → Cells → Type 0
Seen ω σ X = All2 (Has X) ω σ

-- X is W merged with ω through σ: the least cells that have what W has and what ω binds. There are none where W and ω, or two
-- variables of one cell, differ
pub record Joined (σ : List ℕ) (W : Cells) (ω : Writes) (X : Cells) : Type 0 where
  pub later : Later W X
  pub seen : Seen ω σ X
  pub least : (Y : Cells) → Later W Y → Seen ω σ Y → Later X Y

-- LISTS

module _ {A B C : Type 0} {R : A → B → Type 0} {S : B → C → Type 0} where
  pub all2_through : {T : A → C → Type 0} {xs : List A} {ys : List B} {zs : List C} → ((a : A) (b : B) (c : C) → R a b → S b c → T a c)
      → All2 R xs ys → All2 S ys zs → All2 T xs zs
  all2_through f ends ends = ends
  all2_through f (more r h) (more s k) = more (f _ _ _ r s) (all2_through f h k)

  all2_with : {T : A → B → Type 0} {xs : List A} {ys : List B} {zs : List C} → ((a : A) (b : B) (c : C) → R a b → S b c → T a b)
      → All2 R xs ys → All2 S ys zs → All2 T xs ys
  all2_with f ends ends = ends
  all2_with f (more r h) (more s k) = more (f _ _ _ r s) (all2_with f h k)

module _ {A B : Type 0} {R : A → B → Type 0} where
  pub all2_cut : {xs : List A} (ys zs : List B) → All2 R xs (ys ++ zs) → (us vs : List A) × (xs ≡ us ++ vs) × All2 R us ys × All2 R vs zs
  all2_cut {xs} [] zs h = ([], xs, refl, ends, h)
  all2_cut (y ∷ ys) zs (more {a = a} {xs = xs} r h) = let (us, vs, e, hu, hv) = all2_cut {xs = xs} ys zs h in (a ∷ us, vs, cc, more r hu, hv)

  pub all2_split : {S : A → B → Type 0} {us vs : List A} {ys zs : List B} → All2 S us ys → All2 R (us ++ vs) (ys ++ zs) → All2 R us ys × All2 R vs zs
  all2_split ends h = (ends, h)
  all2_split (more s k) (more r h) = let (hu, hv) = all2_split k h in (more r hu, hv)

  all2_zip : {S T : A → B → Type 0} {xs : List A} {ys : List B} → ((a : A) (b : B) → R a b → S a b → T a b) → All2 R xs ys → All2 S xs ys → All2 T xs ys
  all2_zip f ends ends = ends
  all2_zip f (more r h) (more s k) = more (f _ _ r s) (all2_zip f h k)

  pub all2_one : {a : A} {b : B} → All2 R (a ∷ []) (b ∷ []) → R a b
  all2_one (more r ends) = r

  pub all2_two : {a x : A} {b y : B} → All2 R (two a x) (two b y) → R a b × R x y
  all2_two (more r (more s ends)) = (r, s)

  pub all2_swap : {a x : A} {b y : B} → All2 R (two a x) (two b y) → All2 R (two x a) (two y b)
  all2_swap (more r (more s ends)) = more s (more r ends)

take_at : {A B : Type 0} (W : List A) (X : List B) (c : ℕ) {a : A} {b : B} → get_elem? W c ≡ some a → get_elem? X c ≡ some b
    → get_elem? (take (length W) X) c ≡ some b
take_at [] X c e k = absurd (none-ne-some _ e)
take_at (w ∷ W) [] c e k = k
take_at (w ∷ W) (x ∷ X) zero e k = k
take_at (w ∷ W) (x ∷ X) (suc c) e k = take_at W X c e k

same_option : (o q : Option Value) → ((w : Value) → o ≡ some w → q ≡ some w) → ((w : Value) → q ≡ some w → o ≡ some w) → o ≡ q
same_option none none h k = refl
same_option none (some w) h k = k w refl
same_option (some w) q h k = sym (h w refl)

-- LATER CELLS

pub seen_later : {ω : Writes} {σ : List ℕ} {X Y : Cells} → Seen ω σ X → Later X Y → Seen ω σ Y
seen_later h k = all2_map (λ o c f. record { has = λ v e. let (q, eq, g) = all2_at c k (f.has v e) in let eg = g v refl in cc }) h

pub laid_later : {σ : List ℕ} {μ : Env} {W X : Cells} → Laid W σ μ → Later W X → Laid X σ μ
laid_later h k = all2_map (λ c m f. let (q, eq, _) = all2_at c k f.there in record { cell = q; there = eq }) h

-- cells each later than the other are the same, so a merge is one
pub later_same : {X Y : Cells} → Later X Y → Later Y X → X ≡ Y
later_same ends ends = refl
later_same (more f h) (more g k) = let e = same_option _ _ f g in let es = later_same h k in cc

pub joined_one : {σ : List ℕ} {W X Y : Cells} {ω : Writes} → Joined σ W ω X → Joined σ W ω Y → X ≡ Y
joined_one j k = later_same (j.least _ k.later k.seen) (k.least _ j.later j.seen)

-- MERGED WRITES

merge1_left : {o p q : Option Value} → Merge1 o p q → (v : Value) → o ≡ some v → q ≡ some v
merge1_left neither v e = e
merge1_left left v e = e
merge1_left right v e = absurd (none-ne-some _ e)
merge1_left (same h) v e = cc

merge1_right : {o p q : Option Value} → Merge1 o p q → (v : Value) → p ≡ some v → q ≡ some v
merge1_right neither v e = e
merge1_right left v e = absurd (none-ne-some _ e)
merge1_right right v e = e
merge1_right (same h) v e = e

merge1_seen : {X : Cells} {c : ℕ} {o p q : Option Value} → Merge1 o p q → Has X o c → Has X p c → Has X q c
merge1_seen neither f g = f
merge1_seen left f g = f
merge1_seen right f g = g
merge1_seen (same h) f g = g

pub merge1_is : {X : Cells} {c : ℕ} (o p : Option Value) → Has X o c → Has X p c → (q : Option Value) × Merge1 o p q
merge1_is none none f g = (none, neither)
merge1_is (some v) none f g = (some v, left)
merge1_is none (some v) f g = (some v, right)
merge1_is (some v) (some u) f g = let e : v ≡ u = cc (f.has v refl, g.has u refl) in (some u, same e)

pub seen_left : {ω₁ ω₂ ω : Writes} {σ : List ℕ} {X : Cells} → Merge ω₁ ω₂ ω → Seen ω σ X → Seen ω₁ σ X
seen_left m_ends ends = ends
seen_left (m_more m ms) (more f h) = more (record { has = λ v e. f.has v (merge1_left m v e) }) (seen_left ms h)

pub seen_right : {ω₁ ω₂ ω : Writes} {σ : List ℕ} {X : Cells} → Merge ω₁ ω₂ ω → Seen ω σ X → Seen ω₂ σ X
seen_right m_ends ends = ends
seen_right (m_more m ms) (more f h) = more (record { has = λ v e. f.has v (merge1_right m v e) }) (seen_right ms h)

pub seen_merge : {ω₁ ω₂ ω : Writes} {σ : List ℕ} {X : Cells} → Merge ω₁ ω₂ ω → Seen ω₁ σ X → Seen ω₂ σ X → Seen ω σ X
seen_merge m_ends ends ends = ends
seen_merge (m_more m ms) (more f h) (more g k) = more (merge1_seen m f g) (seen_merge ms h k)

-- writes that are seen in the same cells agree
pub merge_is : {X : Cells} {ω₁ ω₂ : Writes} {σ : List ℕ} → Seen ω₁ σ X → Seen ω₂ σ X → (ω : Writes) × Merge ω₁ ω₂ ω
merge_is ends ends = ([], m_ends)
merge_is (more f h) (more g k) = let (q, m) = merge1_is _ _ f g in let (ω, ms) = merge_is h k in (q ∷ ω, m_more m ms)

-- one after the other
pub joined_merge : {σ : List ℕ} {W X Y : Cells} {ω₁ ω₂ ω : Writes} → Joined σ W ω₁ X → Joined σ X ω₂ Y → Merge ω₁ ω₂ ω → Joined σ W ω Y
joined_merge j k m = record {
  later = later_trans j.later k.later;
  seen = seen_merge m (seen_later j.seen k.later) k.seen;
  least = λ Z h s. k.least Z (j.least Z h (seen_left m s)) (seen_right m s);
}

-- ∅ AND ONE VARIABLE

no_binding : {X : Cells} {c : ℕ} → Has X none c
no_binding = record { has = λ v e. absurd (none-ne-some v e) }

pub seen_blank : {W X : Cells} {σ : List ℕ} {μ : Env} → Laid W σ μ → Seen (blank μ) σ X
unfolding blank
seen_blank ends = ends
seen_blank (more r h) = more no_binding (seen_blank h)

pub blank_at : (μ : Env) (x : ℕ) {m : Value} → get_elem? μ x ≡ some m → get_elem? (blank μ) x ≡ some none
unfolding blank
blank_at [] x e = absurd (none-ne-some _ e)
blank_at (v ∷ μ) zero e = refl
blank_at (v ∷ μ) (suc x) e = blank_at μ x e

pub joined_blank : {σ : List ℕ} {W : Cells} {μ : Env} → Laid W σ μ → Joined σ W (blank μ) W
joined_blank {W = W} h = record { later = later_refl W; seen = seen_blank h; least = λ Y k s. k }

module _ (σ : List ℕ) (μ : Env) (x c : ℕ) (m : Value) (em : get_elem? μ x ≡ some m) (ec : get_elem? σ x ≡ some c) where
  pub only_seen : {o : Option Value} {W X : Cells} → Laid W σ μ → Has X o c → Seen (only μ x o) σ X
  unfolding only
  only_seen {o = o} h f = all2_set x o (seen_blank h) ec f

  pub seen_only : {X : Cells} (o : Option Value) → Seen (only μ x o) σ X → Has X o c
  unfolding only
  seen_only o h = let (d, ed, f) = all2_at x h (at_set (blank μ) x o (blank_at μ x em)) in let z : d ≡ c = cc in rw z at f

  -- a variable takes v: its cell is blank, or has v
  pub joined_new : {W : Cells} (v : Value) → Laid W σ μ → get_elem? W c ≡ some none → Joined σ W (only μ x (some v)) (set W c (some v))
  joined_new {W} v h e = record {
    later = all2_flip (all2_set c (some v) (all2_flip (later_refl W)) e (λ w ew. absurd (none-ne-some w ew)));
    seen = only_seen h (record { has = λ w ew. rw (← ew) (at_set W c (some v) e) });
    least = λ Y k s. all2_set c (some v) k ((seen_only (some v) s).has v refl) (λ w ew. ew);
  }

  pub joined_same : {W : Cells} (v : Value) → Laid W σ μ → get_elem? W c ≡ some (some v) → Joined σ W (only μ x (some v)) W
  joined_same {W} v h e = record { later = later_refl W; seen = only_seen h (record { has = λ w ew. rw (← ew) e }); least = λ Y k s. k }

-- A SECTION: its two variables are x and y of the caller

-- one of them
pub laid_at : {σ : List ℕ} {μ : Env} {W : Cells} {a : Value} {c : ℕ} → Laid W σ μ → (x : ℕ) → get_elem? μ x ≡ some a → get_elem? σ x ≡ some c
    → Laid W (c ∷ []) (a ∷ [])
laid_at h x ea ec = let (m, _, s) = all2_at x h ec in more (record { cell = s.cell; there = s.there }) ends

pub laid_section : {σ : List ℕ} {μ : Env} {W : Cells} {a b : Value} {c d : ℕ} → Laid W σ μ → (x y : ℕ) → get_elem? μ x ≡ some a → get_elem? σ x ≡ some c
    → get_elem? μ y ≡ some b → get_elem? σ y ≡ some d → Laid W (two c d) (two a b)
laid_section h x y ea ec eb ed = all2_append (laid_at h x ea ec) (laid_at h y eb ed)

module _ (σ : List ℕ) (μ : Env) (x c : ℕ) (m : Value) (em : get_elem? μ x ≡ some m) (ec : get_elem? σ x ≡ some c) where
  pub joined_only : {o : Option Value} {W X : Cells} → Laid W σ μ → Joined (c ∷ []) W (o ∷ []) X → Joined σ W (only μ x o) X
  joined_only {o} h j = record {
    later = j.later;
    seen = only_seen σ μ x c m em ec h (all2_one j.seen);
    least = λ Y k s. j.least Y k (more (seen_only σ μ x c m em ec o s) ends);
  }

module _ (σ : List ℕ) (μ : Env) (x c : ℕ) (m : Value) (em : get_elem? μ x ≡ some m) (ec : get_elem? σ x ≡ some c)
    (y d : ℕ) (n : Value) (en : get_elem? μ y ≡ some n) (ed : get_elem? σ y ≡ some d) where
  pub section_seen : {o q : Option Value} {ω : Writes} {X : Cells} → Merge (only μ x o) (only μ y q) ω → Seen ω σ X → Seen (two o q) (two c d) X
  section_seen {o} {q} ms h = more (seen_only σ μ x c m em ec o (seen_left ms h)) (more (seen_only σ μ y d n en ed q (seen_right ms h)) ends)

  pub joined_section : {o q : Option Value} {ω : Writes} {W X : Cells} → Laid W σ μ → Joined (two c d) W (two o q) X → Merge (only μ x o) (only μ y q) ω
      → Joined σ W ω X
  joined_section h j ms = record {
    later = j.later;
    seen = seen_section ms j.seen;
    least = λ Y k s. j.least Y k (section_seen ms s);
  }
    where
      seen_section : {o q : Option Value} {ω : Writes} {X : Cells} → Merge (only μ x o) (only μ y q) ω → Seen (two o q) (two c d) X → Seen ω σ X
      seen_section ms (more f (more g ends)) = seen_merge ms (only_seen σ μ x c m em ec h f) (only_seen σ μ y d n en ed h g)

-- NEW VARIABLES have the cells behind W. These are ν, they hold nothing (N), and ωᵢ is what is written to them

pub record Behind (W : Cells) (ν : List ℕ) (N : Cells) (ωᵢ : Writes) : Type 0 where
  pub blank : Later N ωᵢ
  pub at : (Y : Cells) → length W ≡ length Y → All2 (λ o c. get_elem? (Y ++ ωᵢ) c ≡ some o) ωᵢ ν

-- a member's variable has one, a branch's two have two
pub one_behind : (W : Cells) (x : Option Value) → Behind W (length W ∷ []) (none ∷ []) (x ∷ [])
one_behind W x = record { blank = more (λ w e. absurd (none-ne-some w e)) ends; at = λ Y e. rw e (more (at_end Y) ends) }
  where
    at_end : (Y : Cells) → get_elem? (Y ++ x ∷ []) (length Y) ≡ some x
    at_end [] = refl
    at_end (o ∷ Y) = at_end Y

pub two_behind : (W : Cells) (x y : Option Value) → Behind W (two (length W) (suc (length W))) (two none none) (two x y)
two_behind W x y = record {
  blank = more (λ w e. absurd (none-ne-some w e)) (more (λ w e. absurd (none-ne-some w e)) ends);
  at = λ Y e. rw e (more (at_seam Y x y) (more (at_last Y x y) ends));
}

laid_wider : {σ ν : List ℕ} {μ μᵢ : Env} {W N : Cells} → Behind W ν N N → Over N μᵢ → Laid W σ μ → Laid (W ++ N) (σ ++ ν) (μ ++ μᵢ)
laid_wider {W = W} b o h = all2_append (all2_map (λ c m s. record { cell = s.cell; there = at_left W _ c s.there }) h)
    (all2_through (λ c o m e _. record { cell = o; there = e }) (all2_flip (b.at W refl)) o)

module _ {W N : Cells} {ν : List ℕ} {ωᵢ : Writes} (b : Behind W ν N ωᵢ) where
  pub wider_later : {Y : Cells} → Later W Y → Later (W ++ N) (Y ++ ωᵢ)
  wider_later h = all2_append h b.blank

  pub wider_seen : {ω : Writes} {σ : List ℕ} {Y : Cells} → Later W Y → Seen ω σ Y → Seen (ω ++ ωᵢ) (σ ++ ν) (Y ++ ωᵢ)
  wider_seen {Y = Y} k h = all2_append (all2_map (λ o c f. record { has = λ v e. at_left Y _ c (f.has v e) }) h)
      (all2_map (λ o c e. record { has = λ v ev. rw (← ev) e }) (b.at Y (all2_length k)))

  module _ {σ : List ℕ} {μ : Env} {ω : Writes} {X : Cells} (laid : Laid W σ μ) (over : Over ω μ) (j : Joined (σ ++ ν) (W ++ N) (ω ++ ωᵢ) X) where
    parts : Seen ω σ X × Seen ωᵢ ν X
    parts = let s : All2 (λ (o : Option Value) (c : ℕ). Unit {0}) ω σ = all2_through (λ a b c _ _. tt) over (all2_flip laid) in all2_split s j.seen

    kept_later : Later W (take (length W) X)
    kept_later = all2_flip (all2_take W _ (all2_flip j.later))

    kept_seen : Seen ω σ (take (length W) X)
    kept_seen = all2_with (λ o c m f s. record { has = λ v e. take_at W X c s.there (f.has v e) }) parts.0 laid

    below : (Y : Cells) → Later W Y → Seen ω σ Y → Later X (Y ++ ωᵢ)
    below Y k s = j.least (Y ++ ωᵢ) (wider_later k) (wider_seen k s)

    -- the new cells dropped, W is merged with what was written to the others
    pub joined_outside : Joined σ W ω (take (length W) X)
    joined_outside = record { later = kept_later; seen = kept_seen; least = λ Y k s. rw (all2_length k) (all2_take Y _ (below Y k s)) }

    -- and the new cells have what was written to them
    cell_is : (o : Option Value) (c : ℕ) → Has X o c → get_elem? (take (length W) X ++ ωᵢ) c ≡ some o → get_elem? X c ≡ some o
    cell_is o c f e =
        let (q, eq, h) = all2_at c (all2_flip (below _ kept_later kept_seen)) e in
        let z : q ≡ o = same_option q o h (λ w ew. cc (f.has w ew)) in cc

    pub cells_inside : All2 (λ o c. get_elem? X c ≡ some o) ωᵢ ν
    cells_inside = all2_zip cell_is parts.1 (b.at (take (length W) X) (all2_length kept_later))

-- A BRANCH: its two variables are the last

pub laid_branch : {σ : List ℕ} {μ : Env} (W : Cells) (f r : Value) → Laid W σ μ
    → Laid (W ++ two none none) (σ ++ two (length W) (suc (length W))) (μ ++ two f r)
laid_branch W f r h = laid_wider (two_behind W none none) (more tt (more tt ends)) h

-- writes seen through a branch's cells are those outside and its two
pub seen_cut : {ω : Writes} {X : Cells} (σ : List ℕ) (c d : ℕ) → Seen ω (σ ++ two c d) X
    → (ω₁ : Writes) × (x y : Option Value) × (ω ≡ ω₁ ++ two x y) × Seen ω₁ σ X
seen_cut {ω} {X} σ c d h = let (us, vs, e, hu, hv) = all2_cut σ (two c d) h in go us e hu hv
  where
    go : (us : Writes) {vs : Writes} → ω ≡ us ++ vs → Seen us σ X → Seen vs (two c d) X
        → (ω₁ : Writes) × (x y : Option Value) × (ω ≡ ω₁ ++ two x y) × Seen ω₁ σ X
    go us e hu (more {a = x} f (more {a = y} g ends)) = (us, x, y, e, hu)

pub seen_over : {ω : Writes} {σ : List ℕ} {μ : Env} {W X : Cells} → Seen ω σ X → Laid W σ μ → Over ω μ
seen_over = all2_through λ o c m _ _. tt

-- A MEMBER of a list: its own variable is the first, and the second is the caller's, whose cell is c
module _ {W : Cells} {c : ℕ} {b : Value} (laid : Laid W (c ∷ []) (b ∷ [])) where
  pub laid_member : (m : Value) → Laid (W ++ none ∷ []) (two (length W) c) (two m b)
  laid_member m = all2_swap (laid_wider (one_behind W none) (more tt ends) laid)

  pub joined_member : (o q : Option Value) (X : Cells) → Joined (two (length W) c) (W ++ none ∷ []) (two o q) X
      → Joined (c ∷ []) W (q ∷ []) (take (length W) X) × (get_elem? X (length W) ≡ some o)
  joined_member o q X j =
      let k : Joined ((c ∷ []) ++ length W ∷ []) (W ++ none ∷ []) ((q ∷ []) ++ o ∷ []) X =
      record { later = j.later; seen = all2_swap j.seen; least = λ Y h s. j.least Y h (all2_swap s) } in
      (joined_outside (one_behind W o) laid (more tt ends) k, all2_one (cells_inside (one_behind W o) laid (more tt ends) k))
