-- What the code decides on bytes is what the definition decides on types.
use Rattle.std.specs.Prelude.{◌≡◌, Bool, true, false, ◌&&◌, ◌==◌, ℕ, ◌+◌, ◌*◌, ◌<◌, eqb, get_or}
use Rattle.std.proofs.Math.Path.{refl, ap₂}
use Rattle.std.proofs.Common.{sym, ap, ◌∙◌, add-zero, arith}
use Rattle.std.proofs.Math.Option.{Option, none}
use mathlib.Core.List.{List, ◌∷◌, ◌++◌}
use Rattle.std.proofs.Math.ListN.{get_elem?}
use Rattle.shapes.specs.Parts.{same_bytes}
use Rattle.shapes.proofs.PartsLaws.{same_bytes_lem, same_refl}
use Rattle.node.specs.declared.Node.{Node}
use Rattle.node.specs.declared.Node.TheVariants.{Var, False, True, Empty, Number, Front, Pair, ListCase, TruthCase, Split, Call, Add, Each, Wide}
use Rattle.sheet.specs.Laws.{Ranged}
use Rattle.typing.specs.Types.{Ty, truths, numbers, lists, pairs, Ty-discrete}
use Rattle.typing.specs.Fits.{Lent, Scope, type_of, section_of}
use Rattle.typing.specs.Check.{apart, and?, and3?, and4?, some?, at?, lists?, pairs?, fits?}
use Rattle.typing.specs.Written.{bytes_of}
use Rattle.typing.proofs.Written.{bytes_same}
use Rattle.types.specs.Slots.{part_at, At, Laid}
use Rattle.types.specs.Scopes.{Entry, StandsIn, IsType, is_type}

-- what a decision says
unfoldable pub holds : {A : Type 0} → Dec A → Bool
holds (yes a) = true
holds (no a) = false

pub decided : {A : Type 0} (d : Dec A) (b : Bool) → (b ≡ true → A) → (A → b ≡ true) → b ≡ holds d
unfolding holds
decided (yes a) b f g = g a
decided (no n) true f g = absurd (n (f refl))
decided (no n) false f g = refl

module _ {A B : Type 0} where
  holds-and : (d : Dec A) (e : Dec B) → holds (and? d e) ≡ holds d && holds e
  unfolding holds and?
  holds-and (yes a) (yes b) = refl
  holds-and (yes a) (no b) = refl
  holds-and (no a) b = refl

module _ {A B C : Type 0} where
  holds_and3 : (d : Dec A) (e : Dec B) (f : Dec C) → holds (and3? d e f) ≡ holds d && holds e && holds f
  unfolding holds and3?
  holds_and3 (yes a) (yes b) (yes c) = refl
  holds_and3 (yes a) (yes b) (no c) = refl
  holds_and3 (yes a) (no b) c = refl
  holds_and3 (no a) b c = refl

module _ {A B C D : Type 0} where
  holds_and4 : (d : Dec A) (e : Dec B) (f : Dec C) (g : Dec D) → holds (and4? d e f g) ≡ holds d && holds e && holds f && holds g
  unfolding holds and4?
  holds_and4 (yes a) (yes b) (yes c) (yes d) = refl
  holds_and4 (yes a) (yes b) (yes c) (no d) = refl
  holds_and4 (yes a) (yes b) (no c) d = refl
  holds_and4 (yes a) (no b) c d = refl
  holds_and4 (no a) b c d = refl

-- TYPES COMPARED

same_is : (t u : Ty) → same_bytes (bytes_of t) (bytes_of u) ≡ holds (Ty-discrete t u)
same_is t u = decided (Ty-discrete t u) _ (λ e. bytes_same t u (same_bytes_lem (bytes_of t) (bytes_of u) e)) λ e. rw e (same_refl (bytes_of u))

kind_truths : (t : Ty) → eqb (get_or (bytes_of t) 0 0) 0x30 ≡ holds (Ty-discrete t truths)
unfolding bytes_of
kind_truths truths = decided (Ty-discrete truths truths) true (λ e. refl) (λ e. refl)
kind_truths numbers = decided (Ty-discrete numbers truths) false (λ e. apart (cc)) (λ e. apart (cc))
kind_truths (lists t) = decided (Ty-discrete (lists t) truths) false (λ e. apart (cc)) (λ e. apart (cc))
kind_truths (pairs a b) = decided (Ty-discrete (pairs a b) truths) false (λ e. apart (cc)) (λ e. apart (cc))

kind_numbers : (t : Ty) → eqb (get_or (bytes_of t) 0 0) 0x31 ≡ holds (Ty-discrete t numbers)
unfolding bytes_of
kind_numbers truths = decided (Ty-discrete truths numbers) false (λ e. apart (cc)) (λ e. apart (cc))
kind_numbers numbers = decided (Ty-discrete numbers numbers) true (λ e. refl) (λ e. refl)
kind_numbers (lists t) = decided (Ty-discrete (lists t) numbers) false (λ e. apart (cc)) (λ e. apart (cc))
kind_numbers (pairs a b) = decided (Ty-discrete (pairs a b) numbers) false (λ e. apart (cc)) (λ e. apart (cc))

kind_lists : (t : Ty) → eqb (get_or (bytes_of t) 0 0) 0x32 ≡ holds (lists? t)
unfolding bytes_of holds lists?
kind_lists truths = refl
kind_lists numbers = refl
kind_lists (lists t) = refl
kind_lists (pairs a b) = refl

kind_pairs : {A : Type 0} (t : Ty) (d : Dec A) → eqb (get_or (bytes_of t) 0 0) 0x33 && holds d ≡ holds (pairs? t d)
unfolding bytes_of holds pairs?
kind_pairs truths d = refl
kind_pairs numbers d = refl
kind_pairs (lists t) d = refl
kind_pairs (pairs a b) (yes h) = refl
kind_pairs (pairs a b) (no h) = refl

var_is : {o : Option Ty} {v : List ℕ} (t : Ty) → IsType v o → same_bytes v (bytes_of t) ≡ holds (at? o t)
unfolding at? holds some?
var_is t (is_type u e) = rw e (same_is u t ∙ go (Ty-discrete u t))
  where
    go : (d : Dec (u ≡ t)) → holds d ≡ holds (some? d)
    go (yes e) = refl
    go (no e) = refl

pub var_none : {o : Option Ty} (u : Ty) → o ≡ none → false ≡ holds (at? o u)
unfolding holds at?
var_none u e = rw e

-- in slots
module _ {types starts : List ℕ} where
  pub same_types : {x y : ℕ} {t u : Ty} {r : Bool} → At types starts x t → At types starts y u → r ≡ same_bytes (part_at types starts x)
      (part_at types starts y)
      → r ≡ holds (Ty-discrete t u)
  same_types {t} {u} a b e = e ∙ ap₂ same_bytes a.is b.is ∙ same_is t u

  pub list_types : {x y : ℕ} {t u : Ty} {r : Bool} → At types starts x t → At types starts y u
      → r ≡ same_bytes (part_at types starts x) (0x32 ∷ part_at types starts y) → r ≡ holds (Ty-discrete t (lists u))
  unfolding bytes_of
  list_types {t} {u} a b e = e ∙ ap₂ (λ l m. same_bytes l (0x32 ∷ m)) a.is b.is ∙ same_is t (lists u)

  pub pair_types : {x y z : ℕ} {t u v : Ty} {r : Bool} → At types starts x t → At types starts y u → At types starts z v
      → r ≡ same_bytes (part_at types starts x) (0x33 ∷ (part_at types starts y ++ part_at types starts z)) → r ≡ holds (Ty-discrete t (pairs u v))
  unfolding bytes_of
  pair_types {t} {u} {v} a b c e =
      e ∙ ap₂ (λ l m. same_bytes l (0x33 ∷ m)) a.is (ap₂ ◌++◌ b.is c.is) ∙ same_is t (pairs u v)

  pub kind_is : (k : ℕ) {x : ℕ} {t : Ty} {r : Bool} → At types starts x t → r ≡ (get_or (part_at types starts x) 0 0 == k)
      → r ≡ (get_or (bytes_of t) 0 0 == k)
  kind_is k a e = e ∙ ap (λ l. get_or l 0 0 == k) a.is

  pub var_types : {y : ℕ} {u : Ty} {o : Option Ty} {v w : List ℕ} {r : Bool} → At types starts y u → IsType v o → w ≡ part_at types starts y
      → r ≡ same_bytes v w
      → r ≡ holds (at? o u)
  var_types {u} b d f e = e ∙ ap (same_bytes _) (f ∙ b.is) ∙ var_is u d

-- A NODE

-- node i is n, and stands in the scope Γ
pub record Stood (types starts : List ℕ) (stand : List Entry) (sections nodes : ℕ) (ts : Lent) (i : ℕ) (n : Node) (Γ : Scope) : Type 0 where
  pub laid : Laid types starts sections nodes ts
  pub ranged : Ranged nodes sections i n
  pub own : i < nodes
  pub scoped : StandsIn types starts stand i Γ

pub ranged_as : {types starts : List ℕ} {stand : List Entry} {sections nodes : ℕ} {ts : Lent} {i : ℕ} {n m : Node} {Γ : Scope}
    → Stood types starts stand sections nodes ts i n Γ → n ≡ m → Ranged nodes sections i m
ranged_as k e = rw e at k.ranged

-- what the code is to find of it
abbrev pub Fitted : (types starts : List ℕ) (stand : List Entry) (i : ℕ) (n : Node) → Bool → Type 0
Fitted types starts stand i n r =
    (sections nodes : ℕ) (ts : Lent) (Γ : Scope) → Stood types starts stand sections nodes ts i n Γ → r ≡ holds (fits? ts n (type_of ts i) Γ)

-- the slots as the code gives them
module _ {types starts : List ℕ} {sections nodes : ℕ} {ts : Lent} (k : Laid types starts sections nodes ts) where
  pub in_node : {a r : ℕ} → a < nodes → (a < 200 → r ≡ 41 + a) → At types starts r (type_of ts a)
  in_node {a} h e = rw (e (omega (arith, k.few_nodes))) (k.node a h)

  pub in_first : {c r : ℕ} → c < sections → (c < 8 → r ≡ 16 + 3 * c + 0) → At types starts r (section_of ts c).first
  in_first {c} h e = rw (e (omega (arith, k.few_sections)), add-zero (16 + 3 * c)) (k.first c h)

  pub in_second : {c r : ℕ} → c < sections → (c < 8 → r ≡ 16 + 3 * c + 1) → At types starts r (section_of ts c).second
  in_second {c} h e = rw (e (omega (arith, k.few_sections))) (k.second c h)

  pub in_result : {c r : ℕ} → c < sections → (c < 8 → r ≡ 16 + 3 * c + 2) → At types starts r (section_of ts c).result
  in_result {c} h e = rw (e (omega (arith, k.few_sections))) (k.result c h)

-- by kind: what the code found is what the definition says
module _ (ts : Lent) {n : Node} (t : Ty) (Γ : Scope) where
  pub fits_var : {p : Bool} {x : ℕ} → n ≡ Var x → p ≡ holds (at? (get_elem? Γ x) t) → p ≡ holds (fits? ts n t Γ)
  unfolding fits?
  fits_var e a = rw e a

  pub fits_false : {p : Bool} → n ≡ False → p ≡ (get_or (bytes_of t) 0 0 == 0x30) → p ≡ holds (fits? ts n t Γ)
  unfolding fits?
  fits_false e a = rw (e, a) (kind_truths t)

  pub fits_true : {p : Bool} → n ≡ True → p ≡ (get_or (bytes_of t) 0 0 == 0x30) → p ≡ holds (fits? ts n t Γ)
  unfolding fits?
  fits_true e a = rw (e, a) (kind_truths t)

  pub fits_empty : {p : Bool} → n ≡ Empty → p ≡ (get_or (bytes_of t) 0 0 == 0x32) → p ≡ holds (fits? ts n t Γ)
  unfolding fits?
  fits_empty e a = rw (e, a) (kind_lists t)

  pub fits_number : {v : ℕ} {p : Bool} → n ≡ Number v → p ≡ (get_or (bytes_of t) 0 0 == 0x31) → p ≡ holds (fits? ts n t Γ)
  unfolding fits?
  fits_number e a = rw (e, a) (kind_numbers t)

  pub fits_wide : {v : ℕ} {p : Bool} → n ≡ Wide v → p ≡ (get_or (bytes_of t) 0 0 == 0x31) → p ≡ holds (fits? ts n t Γ)
  unfolding fits?
  fits_wide e a = rw (e, a) (kind_numbers t)

  pub fits_front : {p q : Bool} {a b : ℕ} → n ≡ Front a b → p ≡ holds (Ty-discrete t (lists (type_of ts a))) → q ≡ holds (Ty-discrete (type_of ts b) t)
      → p && q ≡ holds (fits? ts n t Γ)
  unfolding fits?
  fits_front e x y = rw (e, x, y) (sym (holds-and _ _))

  pub fits_pair : {p : Bool} {a b : ℕ} → n ≡ Pair a b → p ≡ holds (Ty-discrete t (pairs (type_of ts a) (type_of ts b))) → p ≡ holds (fits? ts n t Γ)
  unfolding fits?
  fits_pair e x = rw e x

  pub fits_list : {p q r s : Bool} {su e te f tf df dr : ℕ} → n ≡ ListCase su e te f tf df dr → p ≡ holds (Ty-discrete (type_of ts su) (lists (type_of ts df)))
      → q ≡ holds (Ty-discrete (type_of ts dr) (type_of ts su)) → r ≡ holds (Ty-discrete (type_of ts e) t) → s ≡ holds (Ty-discrete (type_of ts f) t)
      → p && q && r && s ≡ holds (fits? ts n t Γ)
  unfolding fits?
  fits_list e x y z w = rw (e, x, y, z, w) (sym (holds_and4 _ _ _ _))

  pub fits_truth : {p q r : Bool} {su f tf g tg : ℕ} → n ≡ TruthCase su f tf g tg → p ≡ (get_or (bytes_of (type_of ts su)) 0 0 == 0x30)
      → q ≡ holds (Ty-discrete (type_of ts f) t) → r ≡ holds (Ty-discrete (type_of ts g) t) → p && q && r ≡ holds (fits? ts n t Γ)
  unfolding fits?
  fits_truth {su} e x y z = rw (e, x, y, z, kind_truths (type_of ts su)) (sym (holds_and3 _ _ _))

  pub fits_split : {p q : Bool} {su b : ℕ} → n ≡ Split su b → p ≡ (get_or (bytes_of (type_of ts su)) 0 0 == 0x33)
      → q ≡ holds (Ty-discrete (type_of ts b) t) → p && q ≡ holds (fits? ts n t Γ)
  unfolding fits?
  fits_split {su} e x y = rw (e, x, y) (kind_pairs (type_of ts su) _)

  pub fits_call : {p q r : Bool} {c x y : ℕ} → n ≡ Call c x y → p ≡ holds (at? (get_elem? Γ x) (section_of ts c).first)
      → q ≡ holds (at? (get_elem? Γ y) (section_of ts c).second)
      → r ≡ holds (Ty-discrete t (section_of ts c).result) → p && q && r ≡ holds (fits? ts n t Γ)
  unfolding fits?
  fits_call e x y z = rw (e, x, y, z) (sym (holds_and3 _ _ _))

  pub fits_add : {m a : ℕ} {p q : Bool} → n ≡ Add m a → p ≡ (get_or (bytes_of t) 0 0 == 0x31) → q ≡ (get_or (bytes_of (type_of ts m)) 0 0 == 0x31)
      → p && q ≡ holds (fits? ts n t Γ)
  unfolding fits?
  fits_add {m} e x y = rw (e, x, y, kind_numbers t, kind_numbers (type_of ts m)) (sym (holds-and _ _))

  pub fits_each : {p q r s : Bool} {su c x d : ℕ} → n ≡ Each su c x d → p ≡ holds (Ty-discrete (type_of ts su) (lists (section_of ts c).first))
      → q ≡ holds (Ty-discrete (type_of ts d) (section_of ts c).first) → r ≡ holds (at? (get_elem? Γ x) (section_of ts c).second)
      → s ≡ holds (Ty-discrete t (lists (section_of ts c).result)) → p && q && r && s ≡ holds (fits? ts n t Γ)
  unfolding fits?
  fits_each e x y z w = rw (e, x, y, z, w) (sym (holds_and4 _ _ _ _))
