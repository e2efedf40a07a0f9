-- Laws of the kinds of nodes: what holds of each row of the table of forms holds of every kind byte.
use Rattle.std.specs.Prelude.{◌≡◌, refl, ◌⊎◌, List, [], ◌∷◌, ◌++◌, map, ℕ, zero, suc, ◌+◌, ◌≤◌, ◌<◌, T, leb, length, get_or, replicate}
use Rattle.std.proofs.Common.{sym, ap, ◌∙◌, inl, inr, add-zero, zero-add, le_of_suc-le-suc, not-suc-le-zero, arith, leb→le, get_or-append-add, le-leb}
use Rattle.std.proofs.Math.Option.{Option, none, some}
use Rattle.std.proofs.Math.Decide.{dec_lt}
use Rattle.std.proofs.Math.ListN.{get_or-eq_default, get_or-append, get_or-map}
use Rattle.std.proofs.lemmas.List.{get_or-replicate}
use Rattle.node.specs.Kinds.{Role, Field, ◌of◌, Row, ◌is◌, row, Form, forms, past, form_of, made, roles_of}
use Rattle.node.specs.Kinds.{roles, values, values_of, size, sizes, body_width, make, width}
use Rattle.node.specs.Decoding.{node_of, of_form, if_whole, form_width, kind_width}
use Rattle.node.specs.declared.Node.{Node}
use Rattle.node.specs.declared.Node.TheVariants.{Var, False, True, Empty, Number, Front, Pair, ListCase, TruthCase, Split, Call, Add, Each, Wide}

-- P at every entry of a list, and its place, counted from i
abbrev pub AllFrom : {A : Type 0} → (ℕ → A → Type 0) → ℕ → List A → Type 0
AllFrom P i [] = Unit
AllFrom P i (x ∷ xs) = P i x × AllFrom P (suc i) xs

all_from : {A : Type 0} (P : ℕ → A → Type 0) (l : List A) (d : A) (i : ℕ) → AllFrom P i l → ((k : ℕ) → P k d) → (k : ℕ) → P (i + k) (get_or l k d)
all_from P [] d i a p k = p (i + k)
all_from P (x ∷ xs) d i a p zero = rw add-zero a.0
all_from P (x ∷ xs) d i a p (suc k) = let q : suc i + k ≡ i + suc k = omega arith in rw q at (all_from P xs d (suc i) a.1 p k)

-- the values that v gives
abbrev pub listing : ℕ → (ℕ → ℕ) → List ℕ
listing zero v = []
listing (suc n) v = v 0 ∷ listing n (λ i. v (suc i))

abbrev pub fields_of : List Role → List ℕ → List Field
fields_of [] vs = []
fields_of (r ∷ rs) [] = []
fields_of (r ∷ rs) (v ∷ vs) = (r of v) ∷ fields_of rs vs

-- THE law of the table, row by row: the nodes of form f, at place b, have the kind b and fields of the form's roles, and at most 8 bytes
pub record Told (b : ℕ) (f : Form) : Type 0 where
  pub rows : (v : ℕ → ℕ) → row (made f (listing f.fields v)) ≡ (b is fields_of (roles_of f) (listing f.fields v))
  pub many : length (roles_of f) ≡ f.fields
  pub small : body_width f ≤ 7

abbrev IfTold : ℕ → Option Form → Type 0
IfTold b none = Unit
IfTold b (some f) = Told b f

told : {b : ℕ} {f : Form} → ((v : ℕ → ℕ) → row (made f (listing f.fields v)) ≡ (b is fields_of (roles_of f) (listing f.fields v)))
    → length (roles_of f) ≡ f.fields → T (leb (body_width f) 7) → Told b f
told {b} {f} r m t = record { rows = r; many = m; small = leb→le (body_width f) 7 t }

infixr 20 ◌and◌
◌and◌ : {A B : Type 0} → A → B → A × B
a and b = (a, b)

behind : (n i : ℕ) (l : List (Option Form)) → AllFrom IfTold (n + i) l → AllFrom IfTold i (replicate n none ++ l)
behind zero i l a = rw zero-add at a
behind (suc n) i l a = let q : suc n + i ≡ n + suc i = omega arith in (tt, behind n (suc i) l (rw q at a))

all_told : AllFrom IfTold 0 (replicate 16 none ++ forms)
unfolding body_width
all_told = behind 16 0 forms
    (told (λ v. refl) refl tt
    and told (λ v. refl) refl tt
    and told (λ v. refl) refl tt
    and told (λ v. refl) refl tt
    and told (λ v. refl) refl tt
    and told (λ v. refl) refl tt
    and told (λ v. refl) refl tt
    and told (λ v. refl) refl tt
    and told (λ v. refl) refl tt
    and told (λ v. refl) refl tt
    and told (λ v. refl) refl tt
    and told (λ v. refl) refl tt
    and told (λ v. refl) refl tt
    and told (λ v. refl) refl tt
    and tt)

pub form_told : (b : ℕ) {f : Form} → form_of b ≡ some f → Told b f
unfolding form_of
form_told b e = rw (zero-add, e) at (all_from IfTold (replicate 16 none ++ forms) none 0 all_told (λ k. tt) b)

-- and each node is of the form of its kind
pub record Built (n : Node) : Type 0 where
  pub form : Form
  pub known : form_of (row n).kind ≡ some form
  pub node : made form (values (row n).body) ≡ n
  pub many : length (row n).body ≡ form.fields

by_row : {n : Node} {f : Form} → form_of (row n).kind ≡ some f → made f (values (row n).body) ≡ n → length (row n).body ≡ f.fields → Built n
by_row {f = f} e m l = record { form = f; known = e; node = m; many = l }

pub built : (n : Node) → Built n
unfolding form_of
built (Var x) = by_row refl refl refl
built False = by_row refl refl refl
built True = by_row refl refl refl
built Empty = by_row refl refl refl
built (Number n) = by_row refl refl refl
built (Front a b) = by_row refl refl refl
built (Pair a b) = by_row refl refl refl
built (ListCase s e te n tn df dr) = by_row refl refl refl
built (TruthCase s f tf t tt) = by_row refl refl refl
built (Split s i) = by_row refl refl refl
built (Call c x y) = by_row refl refl refl
built (Add n a) = by_row refl refl refl
built (Each s c x d) = by_row refl refl refl
built (Wide n) = by_row refl refl refl

-- a byte below 10 or behind the last is no node's kind
pub no_form : (b : ℕ) → (b < 16) ⊎ (past ≤ b) → form_of b ≡ none
unfolding form_of
no_form b (inl h) = get_or-append (replicate 16 none) forms none b h ∙ get_or-replicate 16 b none none h
no_form b (inr h) = get_or-eq_default (replicate 16 none ++ forms) none h

-- the node of a record of a known kind k, of which no byte is missing
pub node_whole : (r : List ℕ) {k : ℕ} → get_or r 0 0 ≡ k → {f : Form} → form_of k ≡ some f → body_width f < length r →
    node_of r ≡ make f (λ i. get_or r (suc i) 0)
unfolding node_of of_form if_whole
node_whole [] e q h = absurd (not-suc-le-zero h)
node_whole (b ∷ bs) e {f} q h = rw (e, q, le-leb (body_width f) (length bs) (le_of_suc-le-suc h))

-- b is none of the n numbers from a on, as a `match` on b leaves it behind its arms
abbrev pub NoneFrom : ℕ → ℕ → ℕ → Type 0
NoneFrom a zero b = Unit
NoneFrom a (suc n) b = NoneFrom a n b × (b ≡ n + a → ⊥)

either : {a b : ℕ} → Dec (b < a) → (b < a) ⊎ (0 + a ≤ b)
either (yes h) = inl h
either (no h) = inr (omega arith)

above : (n : ℕ) {a b : ℕ} → (b < a) ⊎ (n + a ≤ b) → (b ≡ n + a → ⊥) → (b < a) ⊎ (suc n + a ≤ b)
above n (inl h) e = inl h
above n (inr h) e = inr (omega arith)

-- then it lies below or above them
pub beyond : (n : ℕ) {a b : ℕ} → NoneFrom a n b → (b < a) ⊎ (n + a ≤ b)
beyond zero {a} {b} w = either (dec_lt b a)
beyond (suc n) w = above n (beyond n w.0) w.1

-- the node of a whole record whose first byte x is k
pub decoded : (r : List ℕ) {x k : ℕ} → x ≡ get_or r 0 0 → x ≡ k → {f : Form} → form_of k ≡ some f → kind_width (get_or r 0 0) ≤ length r
    → node_of r ≡ make f (λ i. get_or r (suc i) 0)
unfolding kind_width form_width
decoded r {x} {k} b e {f} q h =
    let z : get_or r 0 0 ≡ k = sym b ∙ e in
    let w : kind_width (get_or r 0 0) ≡ suc (body_width f) = ap kind_width z ∙ ap form_width q in
    node_whole r z q (omega arith)

-- no node has the kind that the bytes begin with
pub node_unknown : (r : List ℕ) → form_of (get_or r 0 0) ≡ none → node_of r ≡ False
unfolding node_of of_form
node_unknown [] e = refl
node_unknown (b ∷ bs) e = rw e

-- the widths by kind, from 10 on
pub kind_width_lem : (k : ℕ) → kind_width (16 + k) ≡ get_or (map form_width forms) k 0
unfolding kind_width form_of form_width
kind_width_lem k = ap form_width (get_or-append-add (replicate 16 none) forms k none) ∙ sym (get_or-map form_width forms k none)

-- THE LAW FOR ANY VALUES

listed : (n : ℕ) (vs : List ℕ) → length vs ≡ n → listing n (λ i. get_or vs i 0) ≡ vs
listed zero [] e = refl
listed zero (v ∷ vs) e = absurd (omega arith)
listed (suc n) [] e = absurd (omega arith)
listed (suc n) (v ∷ vs) e = ap (λ (l : List ℕ). v ∷ l) (listed n vs (omega arith))

pub roles_of_lem : (rs : List Role) (vs : List ℕ) → length vs ≡ length rs → roles (fields_of rs vs) ≡ rs
roles_of_lem [] vs e = refl
roles_of_lem (r ∷ rs) [] e = absurd (omega arith)
roles_of_lem (r ∷ rs) (v ∷ vs) e = ap (λ (l : List Role). r ∷ l) (roles_of_lem rs vs (omega arith))

-- the fields of a form's node are its roles with the values that it is made of
pub row_made : {b : ℕ} {f : Form} → Told b f → (vs : List ℕ) → length vs ≡ f.fields → row (made f vs) ≡ (b is fields_of (roles_of f) vs)
row_made {b} {f} t vs e = rw (listed f.fields vs e) at (t.rows (λ i. get_or vs i 0))

pub length_values : (rs : List Role) (b : ℕ → ℕ) → length (values_of rs b) ≡ length rs
length_values [] b = refl
length_values (r ∷ rs) b = ap suc (length_values rs (λ i. b (size r + i)))

-- a form's node is as wide as the form says
pub wide_form : (b : ℕ) {f : Form} → form_of b ≡ some f → (g : ℕ → ℕ) → width (make f g) ≡ suc (body_width f)
unfolding width make body_width
wide_form b {f} e g =
    let t = form_told b e in
    let vs : List ℕ = values_of (roles_of f) g in
    let l : length vs ≡ length (roles_of f) = length_values (roles_of f) g in
    ap (λ (r : Row). suc (sizes (roles r.body))) (row_made t vs (l ∙ t.many)) ∙ ap (λ (rs : List Role). suc (sizes rs)) (roles_of_lem (roles_of f) vs l)
