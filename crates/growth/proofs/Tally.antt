-- That r counts what a walk enters: a third reading of the one text of get, in which a node costs 1 where it is a 10 record for x and else nothing.
-- Where get is done, so is that reading, with the same value, and its cost is r.
use Rattle.std.specs.Prelude.{◌≡◌, T, get_or}
use Rattle.std.proofs.Math.Path.{refl}
use Rattle.std.proofs.Math.Option.{Option, some}
use Prim.Native.Nat.{ℕ, zero, suc, ◌+◌}
use Rattle.value.specs.Value.{Value}
use Rattle.node.specs.declared.Node.{Node}
use Rattle.node.specs.declared.Node.TheVariants.{Var, False, True, Empty, Number, Front, Pair, ListCase, TruthCase, Split, Call, Add, Each, Wide}
use Rattle.node.specs.Kinds.{children}
use Rattle.sheet.specs.Sheet.{Sheet}
use Rattle.sheet.specs.Laws.{Ranges}
use Rattle.rules.specs.Outcome.{Out, done, refused, plus, ◌>>=◌, given, choose}
use Rattle.rules.specs.Semantics
use Rattle.rules.specs.Semantics.{Reading}
use Rattle.rules.specs.Counting.{Env, Getter, get_node, get}
use Rattle.rules.specs.Laws.Outcomes.{After, stopped}
use Rattle.rules.proofs.Laws.Outcomes.{fine, after_map, after_plus, after_bind, after_given}
use Rattle.growth.specs.Growth.{plain, own, total, entered}
use Rattle.growth.proofs.Counts.{entered_at}

abbrev pub tallying : Sheet → ℕ → Reading
tallying sh x = record {
  M = Out;
  give = λ a. done a 0;
  bind = ◌>>=◌;
  given = given;
  seen = λ c v. given c;
  choose = choose;
  enter = λ n. plus (own x (get_or sh.nodes n False));
  deep = λ n. refused 40 0;
  Cell = Value;
  mark = λ n v. v;
  held = λ w. w;
  clash = λ w. given 54;
}

module _ {A B : Type 0} where
  bind_is : {m : Out A} {a : A} {s : ℕ} (f : A → Out B) {b : B} {t : ℕ} → m ≡ done a s → f a ≡ done b t → (m >>= f) ≡ done b (s + t)
  unfolding ◌>>=◌ plus
  bind_is f e h = rw (e, h)

  given_is : (c : ℕ) {o : Option A} {a : A} (f : A → Out B) {q : Out B} → o ≡ some a → f a ≡ q → given c o f ≡ q
  unfolding given
  given_is c f e h = rw (e, h)

module _ (sh : Sheet) (x : ℕ) where
  -- o, a tally, is done where the get is, with its value, and r is the tally
  abbrev Tallies : ℕ → Out Value → Out Value → Type 0
  Tallies r o q = After (Unit {0}) (λ v s. o ≡ done v r) q

  module _ (r : ℕ → ℕ) (h : Semantics.Getter (tallying sh x)) (g : Getter) (μ : Env) (ih : (n : ℕ) → Tallies (r n) (h n μ) (g n μ)) where
    node_tallies : (nd : Node) → T (plain nd) → Tallies (total r (children nd)) (Semantics.get_node (tallying sh x) h sh nd μ) (get_node g sh nd μ)
    unfolding Semantics.get_node Semantics.bounded children
    node_tallies (Var y) p = after_given _ λ v e. fine (given_is 42 _ e refl)
    node_tallies False p = fine refl
    node_tallies True p = fine refl
    node_tallies Empty p = fine refl
    node_tallies (Number n) p = fine refl
    node_tallies (Wide n) p = fine refl
    node_tallies (Front a b) p = after_bind (ih a) λ f i _ hf. after_bind (ih b) λ l j _ hl. after_given _ λ c ec. after_given _ λ z ez.
        fine (bind_is _ hf (bind_is _ hl (given_is 43 _ ec (given_is 44 _ ez refl))))
    node_tallies (Pair a b) p = after_bind (ih a) λ f i _ hf. after_bind (ih b) λ l j _ hl. after_given _ λ z ez. fine
        (bind_is _ hf (bind_is _ hl (given_is 44 _ ez refl)))
    node_tallies (ListCase s b tb n tn df dr) p = absurd p
    node_tallies (TruthCase s f tf t t₁) p = absurd p
    node_tallies (Split s b) p = absurd p
    node_tallies (Call c y z) p = absurd p
    node_tallies (Add n k) p = after_bind (ih n) λ v i _ hv. after_given _ λ m em. after_given _ λ z ez. fine
        (bind_is _ hv (given_is 43 _ em (given_is 45 _ ez refl)))
    node_tallies (Each s c y d) p = absurd p

  module _ (ranges : Ranges sh) (kinds : (n : ℕ) → T (plain (get_or sh.nodes n False))) where
    pub tallies : (l n : ℕ) (μ : Env) → Tallies (entered sh x n) (Semantics.get (tallying sh x) l sh n μ) (get l sh n μ)
    unfolding Semantics.get plus
    tallies zero n μ = stopped tt
    tallies (suc l) n μ = rw (entered_at sh ranges x n) (after_plus 1 (after_map
        (node_tallies (entered sh x) (Semantics.get (tallying sh x) l sh) (get l sh) μ (λ m. tallies l m μ) _ (kinds n)) λ v s e. rw e))
