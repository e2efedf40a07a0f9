-- What a node may do, by its kind: the nodes that it may enter, which are the sheet's, and the numbers with which its own rule refuses.
use Rattle.std.specs.Prelude.{◌≡◌, refl, Bool, true, false, not, ◌||◌, ◌&&◌, List, [], ◌∷◌, ◌++◌, map, ℕ, ◌≤◌, ◌<◌, eqb, leb, length, get_or}
use Rattle.std.proofs.lemmas.Bool.{false≢true}
use Rattle.std.proofs.Common.{eqb-true, leb-true}
use Rattle.node.specs.declared.Node.{Node}
use Rattle.node.specs.declared.Node.TheVariants.{Var, False, True, Empty, Number, Front, Pair, ListCase, TruthCase, Split, Call, Add, Each, Wide}
use Rattle.node.specs.Kinds.{children, calls}
use Rattle.sheet.specs.Sheet.{Sheet}
use Rattle.sheet.specs.Laws.{Ranged, Ranges}

-- the nodes that a node may enter: its children, the defaults of 17 and of 1C among them, and the root of the section that it calls (1A, 1C)
unfoldable pub entries : Sheet → Node → List ℕ
entries sh nd = children nd ++ map (λ s. get_or sh.sections s 0) (calls nd)

-- n is one of them
infixl 20 ◌∈◌
pub data ◌∈◌ (n : ℕ) : List ℕ → Type 0 where
  here : {ns : List ℕ} → n ∈ (n ∷ ns)
  there : {m : ℕ} {ns : List ℕ} → n ∈ ns → n ∈ (m ∷ ns)

-- all below b
abbrev pub Inside : (b : ℕ) → List ℕ → Type 0
Inside b [] = Unit
Inside b (n ∷ ns) = (n < b) × Inside b ns

pub inside_one : {n : ℕ} (b : ℕ) (l : List ℕ) → Inside b l → n ∈ l → n < b
inside_one b (m ∷ l) i here = i.0
inside_one b (m ∷ l) i (there e) = inside_one b l i.1 e
inside_one {n = n} b [] i x'' = elim x'' [ ]

-- a node of a sheet that was read enters nodes of that sheet
module _ {sh : Sheet} (r : Ranges sh) where
  entries_in : (own : ℕ) (nd : Node) → Ranged (length sh.nodes) (length sh.sections) own nd → Inside (length sh.nodes) (entries sh nd)
  unfolding entries children calls
  entries_in own (Var x) h = tt
  entries_in own False h = tt
  entries_in own True h = tt
  entries_in own Empty h = tt
  entries_in own (Number n) h = tt
  entries_in own (Wide n) h = tt
  entries_in own (Front a b) h = (h.0.inside, (h.1.0.inside, tt))
  entries_in own (Pair a b) h = (h.0.inside, (h.1.0.inside, tt))
  entries_in own (ListCase s e te n tn df dr) h =
      (h.0.inside, (h.1.0.inside, (h.1.1.1.0.inside, (h.1.1.1.1.1.0.inside, (h.1.1.1.1.1.1.0.inside, tt)))))
  entries_in own (TruthCase s f tf t t₁) h = (h.0.inside, (h.1.0.inside, (h.1.1.1.0.inside, tt)))
  entries_in own (Split s i) h = (h.0.inside, (h.1.0.inside, tt))
  entries_in own (Call sec x y) h = (r.section sec h.0, tt)
  entries_in own (Add n k) h = (h.0.inside, tt)
  entries_in own (Each s sec x d) h = (h.0.inside, (h.1.1.1.0.inside, (r.section sec h.1.0, tt)))

  pub entry_in : (n m : ℕ) → n < length sh.nodes → m ∈ entries sh (get_or sh.nodes n False) → m < length sh.nodes
  entry_in n m h e = inside_one (length sh.nodes) _ (entries_in n (get_or sh.nodes n False) (r.node n h)) e

-- the numbers of a get, and those that a put adds. A put gets subjects and defaults too
unfoldable pub refusals : Node → List ℕ × List ℕ
refusals (Var x) = (42 ∷ [], 54 ∷ [])
refusals False = ([], 50 ∷ [])
refusals True = ([], 50 ∷ [])
refusals Empty = ([], 50 ∷ [])
refusals (Number n) = ([], 50 ∷ [])
refusals (Wide n) = ([], 50 ∷ [])
refusals (Front a b) = (43 ∷ 44 ∷ [], 51 ∷ [])
refusals (Pair a b) = (44 ∷ [], 51 ∷ [])
refusals (ListCase s e te n tn df dr) = (43 ∷ 46 ∷ [], 44 ∷ 53 ∷ [])
refusals (TruthCase s f tf t tt) = (43 ∷ 46 ∷ [], 53 ∷ [])
refusals (Split s i) = (43 ∷ [], 44 ∷ [])
refusals (Call sec x y) = (42 ∷ [], [])
refusals (Add n k) = (43 ∷ 45 ∷ [], 51 ∷ 52 ∷ [])
refusals (Each s sec x d) = (42 ∷ 43 ∷ 44 ∷ [], 51 ∷ [])

-- a get, or a put
pub data Way : Type 0 where
  out : Way
  back : Way

unfoldable pub may_refuse : Way → Node → List ℕ
may_refuse out nd = (refusals nd).0
may_refuse back nd = (refusals nd).0 ++ (refusals nd).1

unfoldable pub among : ℕ → List ℕ → Bool
among c [] = false
among c (x ∷ xs) = eqb c x || among c xs

-- the rule of nd may refuse with c
abbrev pub MayRefuse : Way → Node → ℕ → Type 0
MayRefuse w nd c = among c (may_refuse w nd) ≡ true

-- with c, and not for the sake of a cell, which is 54
abbrev pub MayAsk : Way → Node → ℕ → Type 0
MayAsk w nd c = (among c (may_refuse w nd) && not (eqb c 54)) ≡ true

pub and-true_both : (a b : Bool) → (a && b) ≡ true → (a ≡ true) × (b ≡ true)
and-true_both true b e = (refl, e)
and-true_both false b e = absurd (false≢true e)

pub ask_refuse : (w : Way) (nd : Node) (c : ℕ) → MayAsk w nd c → MayRefuse w nd c × (c ≡ 54 → ⊥)
ask_refuse w nd c e =
    let z = and-true_both (among c (may_refuse w nd)) (not (eqb c 54)) e in
    (z.0, λ (h : c ≡ 54). let k : not (eqb 54 54) ≡ true = rw h at z.1 in absurd (false≢true k))

-- what a test says of every number of a list it says of a number among them
unfoldable pub everywhere : (ℕ → Bool) → List ℕ → Bool
everywhere p [] = true
everywhere p (x ∷ xs) = p x && everywhere p xs

pub among_all : (p : ℕ → Bool) (c : ℕ) (xs : List ℕ) → everywhere p xs ≡ true → among c xs ≡ true → p c ≡ true
unfolding among everywhere
among_all p c [] h e = absurd (false≢true e)
among_all p c (x ∷ xs) h e = let l = and-true_both (p x) (everywhere p xs) h in go (eqb c x) refl l.0 (λ q. among_all p c xs l.1 (rw q at e))
  where
    go : (b : Bool) → eqb c x ≡ b → p x ≡ true → (eqb c x ≡ false → p c ≡ true) → p c ≡ true
    go true q k f = rw (eqb-true c x q) k
    go false q k f = f q

or_left : (b x y : Bool) → (x ≡ true → y ≡ true) → (b || x) ≡ true → (b || y) ≡ true
or_left true x y f h = refl
or_left false x y f h = f h

among_left : (c : ℕ) (xs ys : List ℕ) → among c xs ≡ true → among c (xs ++ ys) ≡ true
unfolding among
among_left c [] ys e = absurd (false≢true e)
among_left c (x ∷ xs) ys e = or_left (eqb c x) (among c xs) (among c (xs ++ ys)) (λ h. among_left c xs ys h) e

-- a put may refuse with what a get does
pub out-back : (nd : Node) (c : ℕ) → MayRefuse out nd c → MayRefuse back nd c
unfolding may_refuse
out-back nd c e = among_left c (refusals nd).0 (refusals nd).1 e

-- the numbers of the table
unfoldable pub own_numbers : List ℕ
own_numbers = 42 ∷ 43 ∷ 44 ∷ 45 ∷ 46 ∷ 50 ∷ 51 ∷ 52 ∷ 53 ∷ 54 ∷ []

abbrev Own : List ℕ → Type 0
Own xs = everywhere (λ c. among c own_numbers) xs ≡ true

every_row : (nd : Node) → Own (may_refuse back nd)
unfolding everywhere among may_refuse refusals own_numbers
every_row (Var x) = refl
every_row False = refl
every_row True = refl
every_row Empty = refl
every_row (Number n) = refl
every_row (Wide n) = refl
every_row (Front a b) = refl
every_row (Pair a b) = refl
every_row (ListCase s e te n tn df dr) = refl
every_row (TruthCase s f tf t t₁) = refl
every_row (Split s i) = refl
every_row (Call sec x y) = refl
every_row (Add n k) = refl
every_row (Each s sec x d) = refl

as_back : (w : Way) (nd : Node) (c : ℕ) → MayRefuse w nd c → MayRefuse back nd c
as_back out nd c e = out-back nd c e
as_back back nd c e = e

pub own_number : (w : Way) (nd : Node) (c : ℕ) (p : ℕ → Bool) → everywhere p own_numbers ≡ true → MayRefuse w nd c → p c ≡ true
own_number w nd c p h e = among_all p c own_numbers h (among_all (λ x. among x own_numbers) c (may_refuse back nd) (every_row nd) (as_back w nd c e))

pub own_above : (w : Way) (nd : Node) (c : ℕ) → MayRefuse w nd c → 42 ≤ c
unfolding everywhere own_numbers
own_above w nd c e = leb-true 42 c (own_number w nd c (leb 42) refl e)
