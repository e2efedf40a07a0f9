-- TWO READINGS of one text, with other numbers for its sections, find the same nodes but for these numbers: as many, and as many sections.
use Rattle.std.specs.Prelude.{◌≡◌, Bool}
use Rattle.std.proofs.Math.Path.{refl}
use Rattle.std.proofs.Common.{ap}
use Rattle.std.proofs.Math.Bool.{true, false}
use mathlib.Core.List.{List, [], ◌∷◌, ◌++◌}
use Prim.Native.Nat.{ℕ, suc, ◌+◌}
use Rattle.std.proofs.Math.ListN.{length}
use Rattle.node.specs.declared.Node.{Node}
use Rattle.tokens.specs.Quoted.{bytes}
use Rattle.tokens.specs.Tokens.{Token, first, rest, mark_of, same}
use Rattle.syntax.specs.Reader.{Out, ok, fault, ◌>>=◌, Scope}
use Rattle.syntax.specs.Reader.{Behind, a_comma, a_bar, an_end, none_of, behind_of, Branch, truths, lists}
use Rattle.syntax.specs.Reader.{neither, branch_of, Part, whole, more, Reader, pair_of, behind, back, front_of, list_by}
use Rattle.syntax.specs.Reader.{list_of, let_in, amount_by, truth_case, list_case, branches, case_of}

pub data Alike {A : Type 0} (R : A → A → Type 0) : Out A → Out A → Type 0 where
  both : {a b : A} → R a b → Alike R (ok a) (ok b)
  left : {c l i d : ℕ} {o : Out A} → Alike R (fault c l i d) o
  right : {c l i d : ℕ} {o : Out A} → Alike R o (fault c l i d)

module _ {A B : Type 0} {S : B → B → Type 0} where
  pub alike : {R : A → A → Type 0} {e e' : Out A} (f g : A → Out B) → Alike R e e' → ((a b : A) → R a b → Alike S (f a) (g b)) → Alike S (e >>= f) (e' >>= g)
  unfolding ◌>>=◌
  alike f g (both {a} {b} r) h = h a b r
  alike f g left h = left
  alike f g right h = right

  pub alike_same : (e : Out A) (f g : A → Out B) → ((a : A) → Alike S (f a) (g a)) → Alike S (e >>= f) (e >>= g)
  unfolding ◌>>=◌
  alike_same (ok a) f g h = h a
  alike_same (fault c l i d) f g h = left

-- as many nodes
pub data As : (a b : List Node) → Type 0 where
  nil : As [] []
  one : {x y : Node} {a b : List Node} → As a b → As (x ∷ a) (y ∷ b)

as_self : (a : List Node) → As a a
as_self [] = nil
as_self (x ∷ a) = one (as_self a)

pub as_long : {a b : List Node} → As a b → length a ≡ length b
as_long nil = refl
as_long (one s) = ap suc (as_long s)

pub app : {a b c d : List Node} → As a b → As c d → As (a ++ c) (b ++ d)
app nil t = t
app (one s) t = one (app s t)

-- and the same tokens behind them
pub data Like : (x y : List Node × List Token) → Type 0 where
  like : {a b : List Node} {ts : List Token} → As a b → Like (a, ts) (b, ts)

pub alike_read : {B : Type 0} {S : B → B → Type 0} {e e' : Out (List Node × List Token)} (f g : List Node × List Token → Out B) → Alike Like e e'
    → ((a b : List Node) (ts : List Token) → As a b → Alike S (f (a, ts)) (g (b, ts))) → Alike S (e >>= f) (e' >>= g)
alike_read {S = S} f g r h = alike f g r (λ x y l. go x y l)
  where
    go : (x y : List Node × List Token) → Like x y → Alike S (f x) (g y)
    go x y (like {a} {b} {ts} l) = h a b ts l

pub like_self : (e : Out (List Node × List Token)) → Alike Like e e
like_self (ok (a, ts)) = both (like (as_self a))
like_self (fault c l i d) = left

abbrev pub Same : Reader → Reader → Type 0
Same rd rd' = (p : Part) (sc : Scope) (n : ℕ) (ts : List Token) → Alike Like (rd p sc n ts) (rd' p sc n ts)

module _ (rd rd' : Reader) (s : Same rd rd') (sc : Scope) (n : ℕ) where
  pub alike_pair : (ts : List Token) → Alike Like (pair_of rd sc n ts) (pair_of rd' sc n ts)
  unfolding pair_of
  alike_pair ts =
      alike_read _ _ (s whole sc (suc n) ts) λ a b ts₁ l. rw (as_long l) (
      alike_same _ _ _ λ ts₂.
      alike_read _ _ (s whole sc (suc n + length b) ts₂) λ c d ts₃ l'.
      alike_same _ _ _ λ ts₄.
      both (like (one (app l (app l' nil)))))

  alike_behind : (b : Behind) (m : ℕ) (ts : List Token) → Alike Like (behind rd b sc m ts) (behind rd' b sc m ts)
  unfolding behind
  alike_behind a_comma m ts = s more sc m ts
  alike_behind a_bar m ts =
      alike_read _ _ (s whole sc m (rest ts)) λ a b ts₁ l.
      alike_same _ _ _ λ ts₂.
      both (like l)
  alike_behind an_end m ts = like_self _
  alike_behind none_of m ts = left

  pub alike_front : (ts : List Token) → Alike Like (front_of rd sc n ts) (front_of rd' sc n ts)
  unfolding front_of back
  alike_front ts =
      alike_read _ _ (s whole sc (suc n) ts) λ a b ts₁ l. rw (as_long l) (
      alike_read _ _ (alike_behind (behind_of (mark_of (first ts₁))) (suc n + length b) ts₁) λ c d ts₂ l'.
      both (like (one (app l (app l' nil)))))

  pub alike_list : (ts : List Token) → Alike Like (list_of rd sc n ts) (list_of rd' sc n ts)
  unfolding list_of
  alike_list ts = go (same (mark_of (first ts)) (bytes "]"))
    where
      go : (b : Bool) → Alike Like (list_by rd b sc n ts) (list_by rd' b sc n ts)
      go true = unfold list_by in both (like (one nil))
      go false = unfold list_by in alike_front ts

  pub alike_let : (ts : List Token) → Alike Like (let_in rd sc n ts) (let_in rd' sc n ts)
  unfolding let_in
  alike_let ts =
      alike_same _ _ _ λ ts₁.
      alike_same _ _ _ λ x.
      alike_same _ _ _ λ ts₃.
      alike_same _ _ _ λ y.
      alike_same _ _ _ λ ts₅.
      alike_same _ _ _ λ ts₆.
      alike_read _ _ (s whole sc (suc n) ts₆) λ a b ts₇ l. rw (as_long l) (
      alike_same _ _ _ λ ts₈.
      alike_read _ _ (s whole _ (suc n + length b) ts₈) λ c d ts₉ l'.
      both (like (one (app l (app l' nil)))))

  pub alike_amount : (p b : Bool) (ts : List Token) (v : ℕ) → Alike Like (amount_by rd p b sc n ts v) (amount_by rd' p b sc n ts v)
  unfolding amount_by
  alike_amount true true ts v =
      alike_read _ _ (s whole sc (suc n) (rest ts)) λ a b ts₁ l.
      both (like (one (app l nil)))
  alike_amount true false ts v = left
  alike_amount false b ts v = like_self _

  alike_truth : (a b : List Node) (ts : List Token) → As a b → Alike Like (truth_case rd sc n a ts) (truth_case rd' sc n b ts)
  unfolding truth_case
  alike_truth a b ts l = rw (as_long l) (
      alike_same _ _ _ λ ts₁.
      alike_read _ _ (s whole sc (suc n + length b) ts₁) λ c d ts₂ l₂. rw (as_long l₂) (
      alike_same _ _ _ λ t.
      alike_same _ _ _ λ ts₄.
      alike_same _ _ _ λ ts₅.
      alike_read _ _ (s whole sc (suc n + length b + length d) ts₅) λ e f ts₆ l₆.
      alike_same _ _ _ λ u.
      alike_same _ _ _ λ ts₈.
      both (like (one (app l (app l₂ (app l₆ nil)))))))

  alike_cases : (a b : List Node) (ts : List Token) → As a b → Alike Like (list_case rd sc n a ts) (list_case rd' sc n b ts)
  unfolding list_case
  alike_cases a b ts l = rw (as_long l) (
      alike_same _ _ _ λ ts₁.
      alike_same _ _ _ λ ts₂.
      alike_read _ _ (s whole sc (suc n + length b) ts₂) λ c d ts₃ l₃. rw (as_long l₃) (
      alike_same _ _ _ λ t.
      alike_same _ _ _ λ ts₅.
      alike_same _ _ _ λ x.
      alike_same _ _ _ λ ts₇.
      alike_same _ _ _ λ y.
      alike_same _ _ _ λ ts₉.
      alike_same _ _ _ λ us₀.
      alike_read _ _ (s whole _ (suc n + length b + length d) us₀) λ e f us₁ m₁. rw (as_long m₁) (
      alike_same _ _ _ λ u.
      alike_same _ _ _ λ us₃.
      alike_same _ _ _ λ us₄.
      alike_same _ _ _ λ us₅.
      alike_read _ _ (s whole _ (suc n + length b + length d + length f) us₅) λ g h us₆ m₆. rw (as_long m₆) (
      alike_same _ _ _ λ us₇.
      alike_same _ _ _ λ us₈.
      alike_same _ _ _ λ us₉.
      alike_read _ _ (s whole _ (suc n + length b + length d + length f + length h) us₉) λ i j vs₀ k₀.
      alike_same _ _ _ λ vs₁.
      both (like (one (app l (app l₃ (app m₁ (app m₆ (app k₀ nil)))))))))))

  alike_branches : (k : Branch) (a b : List Node) (ts : List Token) → As a b → Alike Like (branches rd k sc n a ts) (branches rd' k sc n b ts)
  unfolding branches
  alike_branches truths a b ts l = alike_truth a b (rest ts) l
  alike_branches lists a b ts l = alike_cases a b (rest ts) l
  alike_branches neither a b ts l = left

  pub alike_case : (ts : List Token) → Alike Like (case_of rd sc n ts) (case_of rd' sc n ts)
  unfolding case_of
  alike_case ts =
      alike_read _ _ (s whole sc (suc n) ts) λ a b ts₁ l.
      alike_same _ _ _ λ ts₂.
      alike_branches (branch_of (first ts₂)) a b ts₂ l
