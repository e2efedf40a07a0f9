-- The check of a sheet against the types lent beside it, on bytes (document 02, request 6).
use Rattle.std.specs.Prelude.{◌≡◌, refl, Bool, true, false, cond, List, [], ◌∷◌, ◌++◌, map, ℕ, zero, suc, ◌+◌, ◌*◌, eqb, ltb, length, get_or, take}
use Rattle.std.specs.Prelude.{drop, replicate}
use Rattle.std.proofs.Common.{ap, arith}
use Rattle.std.proofs.Math.Option.{Option, none, some, none-ne-some, some-injective}
use Rattle.std.proofs.Math.Decide.{ℕ_discrete}
use Rattle.std.proofs.Math.ListN.{get_elem?}
use Rattle.value.specs.Result.{Result, ok, refusal}
use Rattle.node.specs.declared.Node.{Node}
use Rattle.node.specs.declared.Node.TheVariants.{Var, False, True, Empty, Number, Front, Pair, ListCase, TruthCase, Split, Call, Add, Each, Wide}
use Rattle.node.specs.Kinds.{children}
use Rattle.sheet.specs.Sheet.{Sheet, read_sheet}
use Rattle.typing.specs.Numbers.{longest_type}
use Rattle.typing.specs.Types.{Ty, truths, numbers, lists, pairs, Ty-discrete}
use Rattle.typing.specs.Fits.{Section, Lent, Scope, node_of, type_of, section_of, Fits, places, In, here, there, Root, roots, Placed, Right}

-- TYPES FROM BYTES

-- 32 and 33 stand before their parts
unfoldable pub make_list : List Ty × List ℕ → Option (List Ty × List ℕ)
make_list ([], bs) = none
make_list (t ∷ ts, bs) = some (lists t ∷ ts, bs)

unfoldable pub make_pair : List Ty × List ℕ → Option (List Ty × List ℕ)
make_pair ([], bs) = none
make_pair (t ∷ [], bs) = none
make_pair (t ∷ u ∷ ts, bs) = some (pairs t u ∷ ts, bs)

unfoldable pub also : Ty → List Ty × List ℕ → Option (List Ty × List ℕ)
also t (ts, bs) = some (t ∷ ts, bs)

unfoldable pub and_then : {A B : Type 0} → Option A → (A → Option B) → Option B
and_then none f = none
and_then (some a) f = f a

pub data Kind : Type 0 where
  k_truth k_number k_list k_pair unknown : Kind

unfoldable pub kind_of : ℕ → Kind
kind_of b = get_or (replicate 0x30 unknown ++ k_truth ∷ k_number ∷ k_list ∷ k_pair ∷ []) b unknown

-- `next` reads as many types as it is told
unfoldable pub begin : (ℕ → Option (List Ty × List ℕ)) → ℕ → Kind → Option (List Ty × List ℕ)
begin next n k_truth = and_then (next n) (also truths)
begin next n k_number = and_then (next n) (also numbers)
begin next n k_list = and_then (next (suc n)) make_list
begin next n k_pair = and_then (next (suc (suc n))) make_pair
begin next n unknown = none

-- so many types from the bytes, of which `room` may be taken, and the bytes behind
unfoldable pub read_types : List ℕ → ℕ → ℕ → Option (List Ty × List ℕ)
read_types [] room zero = some ([], [])
read_types [] room (suc n) = none
read_types (b ∷ bs) room zero = some ([], b ∷ bs)
read_types (b ∷ bs) zero (suc n) = none
read_types (b ∷ bs) (suc room) (suc n) = begin (read_types bs room) n (kind_of b)

-- so many types of at most 256 bytes each, one after another, and nothing behind them
unfoldable pub on_type : {A : Type 0} → Option (List Ty × List ℕ) → (Ty → List ℕ → Option A) → Option A
on_type none f = none
on_type (some ([], bs)) f = none
on_type (some (t ∷ ts, bs)) f = f t bs

unfoldable pub read_all : ℕ → List ℕ → Option (List Ty)
read_all zero [] = some []
read_all zero (b ∷ bs) = none
read_all (suc k) bs = on_type (read_types bs longest_type 1) λ t more. and_then (read_all k more) λ ts. some (t ∷ ts)

-- which type is whose: k for the plan, three for each section, the view's, the nodes'
unfoldable pub threes : ℕ → List Ty → List Section
threes zero ts = []
threes (suc n) ts = record { first = get_or ts 0 truths; second = get_or ts 1 truths; result = get_or ts 2 truths } ∷ threes n (drop 3 ts)

unfoldable pub many : Sheet → ℕ
many sh = sh.k + 3 * length sh.sections + 1 + length sh.nodes

unfoldable pub lent_of : Sheet → List Ty → Lent
lent_of sh ts = record {
  plan = take sh.k ts;
  sections = threes (length sh.sections) (drop sh.k ts);
  view = get_or ts (sh.k + 3 * length sh.sections) truths;
  nodes = drop (sh.k + 3 * length sh.sections + 1) ts;
}

-- A NODE USED TWICE

unfoldable pub count : ℕ → List ℕ → ℕ
count n [] = 0
count n (m ∷ ms) = cond (eqb n m) 1 0 + count n ms

-- the roots, and the children of the first i nodes
unfoldable pub used : Sheet → ℕ → List ℕ
used sh zero = sh.root ∷ sh.sections
used sh (suc i) = used sh i ++ children (node_of sh i)

unfoldable pub twice : Sheet → ℕ → Bool
twice sh n = ltb 1 (count n (used sh (length sh.nodes)))

-- A NODE THAT DOES NOT FIT

-- what a decision refutes
unfoldable pub refuted : {A : Type 0} → Dec A → Bool
refuted (yes a) = false
refuted (no a) = true

-- what stands beside the number n first
unfoldable pub found : {A : Type 0} → ℕ → List (ℕ × A) → Option A
found n [] = none
found n (x ∷ xs) = cond (eqb n x.0) (some x.1) (found n xs)

-- decisions: of two, three, four facts; of a type that is there; of a type of lists, or of pairs
unfoldable pub and? : {A B : Type 0} → Dec A → Dec B → Dec (A × B)
and? (yes a) (yes b) = yes (a, b)
and? (yes a) (no b) = no λ q. b q.1
and? (no a) b = no λ q. a q.0

unfoldable pub and3? : {A B C : Type 0} → Dec A → Dec B → Dec C → Dec (A × B × C)
and3? (yes a) (yes b) (yes c) = yes (a, b, c)
and3? (yes a) (yes b) (no c) = no λ q. c q.2
and3? (yes a) (no b) c = no λ q. b q.1
and3? (no a) b c = no λ q. a q.0

unfoldable pub and4? : {A B C D : Type 0} → Dec A → Dec B → Dec C → Dec D → Dec (A × B × C × D)
and4? (yes a) (yes b) (yes c) (yes d) = yes (a, b, c, d)
and4? (yes a) (yes b) (yes c) (no d) = no λ q. d q.3
and4? (yes a) (yes b) (no c) d = no λ q. c q.2
and4? (yes a) (no b) c d = no λ q. b q.1
and4? (no a) b c d = no λ q. a q.0

unfoldable pub if? : {A B : Type 0} → Dec A → Dec B → Dec (A → B)
if? (yes a) (yes b) = yes λ _. b
if? (yes a) (no b) = no λ f. b (f a)
if? (no a) b = yes λ q. absurd (a q)

unfoldable pub some? : {u t : Ty} → Dec (u ≡ t) → Dec (some u ≡ some t)
some? (yes e) = yes (ap some e)
some? (no e) = no λ q. e (some-injective _ _ q)

unfoldable pub at? : (o : Option Ty) (t : Ty) → Dec (o ≡ some t)
at? none t = no λ e. none-ne-some t e
at? (some u) t = some? (Ty-discrete u t)

pub apart : {A : Type 0} → ◌≡◌ {A = ℕ} 0 1 → A
apart e = absurd (omega arith)

unfoldable pub lists? : (t : Ty) → Dec ((u : Ty) × (t ≡ lists u))
lists? truths = no λ q. let e = q.1 in apart (cc)
lists? numbers = no λ q. let e = q.1 in apart (cc)
lists? (lists u) = yes (u, refl)
lists? (pairs a b) = no λ q. let e = q.1 in apart (cc)

unfoldable pub pairs? : {A : Type 0} (t : Ty) → Dec A → Dec ((a : Ty) × (b : Ty) × (t ≡ pairs a b) × A)
pairs? truths d = no λ q. let e = q.2 in apart (cc)
pairs? numbers d = no λ q. let e = q.2 in apart (cc)
pairs? (lists u) d = no λ q. let e = q.2 in apart (cc)
pairs? (pairs a b) (yes h) = yes (a, b, refl, h)
pairs? (pairs a b) (no h) = no λ q. h q.3

-- a node, by its kind
unfoldable pub fits? : (ts : Lent) (nd : Node) (t : Ty) (Γ : Scope) → Dec (Fits ts nd t Γ)
fits? ts (Var x) t Γ = at? (get_elem? Γ x) t
fits? ts False t Γ = Ty-discrete t truths
fits? ts True t Γ = Ty-discrete t truths
fits? ts Empty t Γ = lists? t
fits? ts (Number n) t Γ = Ty-discrete t numbers
fits? ts (Wide n) t Γ = Ty-discrete t numbers
fits? ts (Front a b) t Γ = and? (Ty-discrete t (lists (type_of ts a))) (Ty-discrete (type_of ts b) t)
fits? ts (Pair a b) t Γ = Ty-discrete t (pairs (type_of ts a) (type_of ts b))
fits? ts (ListCase s e te n tn df dr) t Γ =
    and4? (Ty-discrete (type_of ts s) (lists (type_of ts df))) (Ty-discrete (type_of ts dr) (type_of ts s)) (Ty-discrete (type_of ts e) t)
    (Ty-discrete (type_of ts n) t)
fits? ts (TruthCase s f tf g tg) t Γ = and3? (Ty-discrete (type_of ts s) truths) (Ty-discrete (type_of ts f) t) (Ty-discrete (type_of ts g) t)
fits? ts (Split s i) t Γ = pairs? (type_of ts s) (Ty-discrete (type_of ts i) t)
fits? ts (Call c x y) t Γ =
    and3? (at? (get_elem? Γ x) (section_of ts c).first) (at? (get_elem? Γ y) (section_of ts c).second) (Ty-discrete t (section_of ts c).result)
fits? ts (Add n k) t Γ = and? (Ty-discrete t numbers) (Ty-discrete (type_of ts n) numbers)
fits? ts (Each s c x d) t Γ =
    and4? (Ty-discrete (type_of ts s) (lists (section_of ts c).first)) (Ty-discrete (type_of ts d) (section_of ts c).first)
    (at? (get_elem? Γ x) (section_of ts c).second) (Ty-discrete t (lists (section_of ts c).result))

pub none_in : {A B : Type 0} {a : A} {l : List A} → In a l → l ≡ [] → B
none_in here e = apart (cc)
none_in (there i) e = apart (cc)

pub in_cons : {A : Type 0} (Q : A → Type 0) {b : A} {l : List A} → Q b → ((a : A) → In a l → Q a) → (a : A) → In a (b ∷ l) → Q a
in_cons Q q h a here = q
in_cons Q q h a (there i) = h a i

-- every entry of a list
unfoldable pub every? : {A : Type 0} (Q : A → Type 0) → ((a : A) → Dec (Q a)) → (l : List A) → Dec ((a : A) → In a l → Q a)
every? Q d [] = yes λ a i. none_in i refl
every? Q d (b ∷ l) = each? (d b) (every? Q d l)
  where
    each? : Dec (Q b) → Dec ((a : _) → In a l → Q a) → Dec ((a : _) → In a (b ∷ l) → Q a)
    each? (yes q) (yes h) = yes (in_cons Q q h)
    each? (yes q) (no h) = no λ k. h λ a i. k a (there i)
    each? (no q) h = no λ k. q (k b here)

module _ (sh : Sheet) (ts : Lent) where
  unfoldable pub placed? : (n : ℕ) → Dec (Placed sh ts n)
  placed? n = every? (λ r. r.node ≡ n → type_of ts n ≡ r.type) (λ r. if? (ℕ_discrete r.node n) (Ty-discrete (type_of ts n) r.type)) (roots sh ts)

  unfoldable pub rightly? : {n : ℕ} {Γ : Scope} → Dec (Fits ts (node_of sh n) (type_of ts n) Γ) → Dec (Placed sh ts n) → Dec (Right sh ts n Γ)
  rightly? (yes f) (yes p) = yes (record { fits = f; placed = p })
  rightly? (yes f) (no p) = no λ r. p r.placed
  rightly? (no f) p = no λ r. f r.fits

  unfoldable pub right? : (n : ℕ) (Γ : Scope) → Dec (Right sh ts n Γ)
  right? n Γ = rightly? (fits? ts (node_of sh n) (type_of ts n) Γ) (placed? n)

  -- where the roots stand and, of the first i nodes that are reached, the children: each number with its scope
  unfoldable pub below : ℕ → Option Scope → List (ℕ × Scope)
  below i none = []
  below i (some Γ) = places ts (node_of sh i) (type_of ts i) Γ

  unfoldable pub standing : ℕ → List (ℕ × Scope)
  standing zero = map (λ (r : Root). (r.node, r.scope)) (roots sh ts)
  standing (suc i) = standing i ++ below i (found i (standing i))

  unfoldable pub misfits : (n : ℕ) → Option Scope → Bool
  misfits n none = false
  misfits n (some Γ) = refuted (right? n Γ)

  -- a node stands behind those that name it: the first n tell its scope
  unfoldable pub unfit : ℕ → Bool
  unfit n = misfits n (found n (standing n))

-- THE CHECK

-- the lowest number from i on, of so many, that says yes
unfoldable pub lowest : (ℕ → Bool) → ℕ → ℕ → Option ℕ
lowest p i zero = none
lowest p i (suc left) = cond (p i) (some i) (lowest p (suc i) left)

pub data Verdict : Type 0 where
  passes : Verdict
  refused : ℕ → Verdict
  refused_at : ℕ → ℕ → Verdict

unfoldable pub unless_at : ℕ → Option ℕ → Verdict → Verdict
unless_at c none v = v
unless_at c (some n) v = refused_at c n

-- 81 a node used twice, 82 one that does not fit
unfoldable pub check_sheet : Sheet → Lent → Verdict
check_sheet sh ts =
    unless_at 81 (lowest (twice sh) 0 (length sh.nodes)) (unless_at 82 (lowest (unfit sh ts) 0 (length sh.nodes)) passes)

-- after the sheet's own refusals 80, a type malformed or too long, or too few or too many
unfoldable pub on_types : Option (List Ty) → (List Ty → Verdict) → Verdict
on_types none f = refused 80
on_types (some ts) f = f ts

unfoldable pub on_sheet : Result Sheet → (Sheet → Verdict) → Verdict
on_sheet (ok sh) f = f sh
on_sheet (refusal c) f = refused c

unfoldable pub check : (sheet types : List ℕ) → Verdict
check sheet types = on_sheet (read_sheet sheet) λ sh. on_types (read_all (many sh) types) λ ts. check_sheet sh (lent_of sh ts)
