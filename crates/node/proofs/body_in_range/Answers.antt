-- `node::body_in_range` meets its contract: in each arm the kind byte picks a row of the table of forms, and its numbers are judged as the row's are.
-- Assumes nothing.
use mathlib.Core.Path.{◌≡◌, refl, sym, ap, ◌∙◌}
use mathlib.Core.Bool.{Bool, true, ◌&&◌, and-true, and_assoc}
use mathlib.Core.Option.{some}
use Prim.Native.Nat.{ℕ, suc, ◌+◌, ◌*◌}
use native.Mathlib.Omega.{arith}
use lib.Dec.{leb, ltb}
use lib.ListN.{get_or}
use Rattle.node.specs.Kinds.{Form, form_of, make, node_in_range}
use Rattle.node.specs.Forms.{no_form, beyond, decoded, node_unknown}
use Rattle.node.specs.Decoding.{node_of}
use Rattle.node.specs.declared.Node.TheVariants.{Var, False, True, Empty, Number, Front, Pair, ListCase, TruthCase, Split, Call, Add, Each, Wide}
use Rattle.node.proofs.body_in_range.Goals as goal
use Rattle.node.proofs.body_in_range.Goals.{After-byte_at-kind}

-- the node, where the kind is known
told : (c : After-byte_at-kind) {k : ℕ} → c.byte_at-kind.result ≡ k → {f : Form} → form_of k ≡ some f
    → let r = c.args.r.now in node_of r ≡ make f (λ i. get_or r (suc i) 0)
told c e q = decoded c.args.r.now c.byte_at-kind.ensures e q c.requires.1

-- the numbers of a row, one behind the other, as the arms have judged them
one : {w : Bool} (a : Bool) → w ≡ a → w ≡ a && true
one a p = p ∙ sym (and-true a)

module _ (own nodes : ℕ) where
  abbrev below : ℕ → Bool
  below v = ltb own v && ltb v nodes

  two : {w : Bool} (a b : ℕ) → w ≡ below a && below b → w ≡ below a && (below b && true)
  two a b p = rw p (ap (λ x. below a && x) (sym (and-true (below b))))

  added : {w x : Bool} (a : ℕ) (b : Bool) → w ≡ below a → x ≡ b → w && x ≡ below a && (b && true)
  added a b p q = rw (p, q) (ap (λ x. below a && x) (sym (and-true b)))

  each_of : {w x y : Bool} (a : ℕ) (b : Bool) (c : ℕ) → w ≡ below a → x ≡ b → y ≡ below c → w && x && y ≡ below a && (b && (below c && true))
  each_of a b c p q s = rw (p, q, s) (all (below a) b (below c))
    where
      all : (a b c : Bool) → a && b && c ≡ a && (b && (c && true))
      all a b c = simp (and-true, and_assoc)

  truths : {w x y : Bool} (a b c d e : ℕ) → w ≡ below a → x ≡ below b && leb c 6 → y ≡ below d && leb e 6
      → w && x && y ≡ below a && (below b && (leb c 6 && (below d && (leb e 6 && true))))
  truths a b c d e p q s = rw (p, q, s) (all (below a) (below b) (leb c 6) (below d) (leb e 6))
    where
      all : (a b c d e : Bool) → a && (b && c) && (d && e) ≡ a && (b && (c && (d && (e && true))))
      all a b c d e = simp (and-true, and_assoc)

  lists : {w x y z : Bool} (a b c d e f g : ℕ) → w ≡ below a → x ≡ below b && leb c 6 → y ≡ below d && leb e 6 → z ≡ below f && below g
      → w && x && y && z ≡ below a && (below b && (leb c 6 && (below d && (leb e 6 && (below f && (below g && true))))))
  lists a b c d e f g p q s t = rw (p, q, s, t) (all (below a) (below b) (leb c 6) (below d) (leb e 6) (below f) (below g))
    where
      all : (a b c d e f g : Bool) → a && (b && c) && (d && e) && (f && g) ≡ a && (b && (c && (d && (e && (f && (g && true))))))
      all a b c d e f g = simp (and-true, and_assoc)

pub returns-in-16 : goal.returns-in-16
unfolding form_of make node_in_range
returns-in-16 c =
    let r = c.args.r.now in
    let e : node_of r ≡ Var (get_or r 1 0) = told (goal.at.returns-in-16 c).After-byte_at-kind c.in-16.is refl in
    rw e

pub returns-in-17 : goal.returns-in-17
unfolding form_of make node_in_range
returns-in-17 c =
    let r = c.args.r.now in
    let e : node_of r ≡ False = told (goal.at.returns-in-17 c).After-byte_at-kind c.in-17.is refl in
    rw e

pub returns-in-18 : goal.returns-in-18
unfolding form_of make node_in_range
returns-in-18 c =
    let r = c.args.r.now in
    let e : node_of r ≡ True = told (goal.at.returns-in-18 c).After-byte_at-kind c.in-18.is refl in
    rw e

pub returns-in-19 : goal.returns-in-19
unfolding form_of make node_in_range
returns-in-19 c =
    let r = c.args.r.now in
    let e : node_of r ≡ Empty = told (goal.at.returns-in-19 c).After-byte_at-kind c.in-19.is refl in
    rw e

pub returns-in-20 : goal.returns-in-20
unfolding form_of make node_in_range
returns-in-20 c =
    let r = c.args.r.now in
    let e : node_of r ≡ Number (256 * get_or r 1 0 + get_or r 2 0) = told (goal.at.returns-in-20 c).After-byte_at-kind c.in-20.is refl in
    rw e (one (leb (256 * get_or r 1 0 + get_or r 2 0) 65535) (ap (λ n. leb n 65535) c.pair_at.ensures))

pub returns-in-21 : goal.returns-in-21
unfolding form_of make node_in_range
returns-in-21 c =
    let r = c.args.r.now in
    let e : node_of r ≡ Front (get_or r 1 0) (get_or r 2 0) = told (goal.at.returns-in-21 c).After-byte_at-kind c.in-21.is refl in
    rw e (two c.args.own c.args.nodes (get_or r 1 0) (get_or r 2 0) c.both_below.ensures)

pub returns-in-22 : goal.returns-in-22
unfolding form_of make node_in_range
returns-in-22 c =
    let r = c.args.r.now in
    let e : node_of r ≡ Pair (get_or r 1 0) (get_or r 2 0) = told (goal.at.returns-in-22 c).After-byte_at-kind c.in-22.is refl in
    rw e (two c.args.own c.args.nodes (get_or r 1 0) (get_or r 2 0) c.both_below-in-22.ensures)

pub returns-in-23 : goal.returns-in-23
unfolding form_of make node_in_range
returns-in-23 c =
    let r = c.args.r.now in
    let e : node_of r ≡ ListCase (get_or r 1 0) (get_or r 2 0) (get_or r 3 0) (get_or r 4 0) (get_or r 5 0) (get_or r 6 0) (get_or r 7 0) =
    told (goal.at.returns-in-23 c).After-byte_at-kind c.in-23.is refl in
    rw e
    (lists c.args.own c.args.nodes (get_or r 1 0) (get_or r 2 0) (get_or r 3 0) (get_or r 4 0) (get_or r 5 0) (get_or r 6 0) (get_or r 7 0)
    c.is_below.ensures c.is_branch.ensures c.is_branch-in-23.ensures
    c.both_below-in-23.ensures)

pub returns-in-24 : goal.returns-in-24
unfolding form_of make node_in_range
returns-in-24 c =
    let r = c.args.r.now in
    let e : node_of r ≡ TruthCase (get_or r 1 0) (get_or r 2 0) (get_or r 3 0) (get_or r 4 0) (get_or r 5 0) = told
    (goal.at.returns-in-24 c).After-byte_at-kind c.in-24.is refl in
    rw e
    (truths c.args.own c.args.nodes (get_or r 1 0) (get_or r 2 0) (get_or r 3 0) (get_or r 4 0) (get_or r 5 0)
    c.is_below-in-24.ensures c.is_branch-in-24.ensures c.is_branch-in-24-2.ensures)

pub returns-in-25 : goal.returns-in-25
unfolding form_of make node_in_range
returns-in-25 c =
    let r = c.args.r.now in
    let e : node_of r ≡ Split (get_or r 1 0) (get_or r 2 0) = told (goal.at.returns-in-25 c).After-byte_at-kind c.in-25.is refl in
    rw e (two c.args.own c.args.nodes (get_or r 1 0) (get_or r 2 0) c.both_below-in-25.ensures)

pub returns-in-26 : goal.returns-in-26
unfolding form_of make node_in_range
returns-in-26 c =
    let r = c.args.r.now in
    let e : node_of r ≡ Call (get_or r 1 0) (get_or r 2 0) (get_or r 3 0) = told (goal.at.returns-in-26 c).After-byte_at-kind c.in-26.is refl in
    rw e (one (ltb (get_or r 1 0) c.args.sections) (ap (λ n. ltb n c.args.sections) c.at.ensures))

pub returns-in-27 : goal.returns-in-27
unfolding form_of make node_in_range
returns-in-27 c =
    let r = c.args.r.now in
    let e : node_of r ≡ Add (get_or r 1 0) (256 * get_or r 2 0 + get_or r 3 0) = told (goal.at.returns-in-27 c).After-byte_at-kind c.in-27.is refl in
    rw e
    (added c.args.own c.args.nodes (get_or r 1 0) (leb (256 * get_or r 2 0 + get_or r 3 0) 65535) c.is_below-in-27.ensures
    (ap (λ n. leb n 65535) c.pair_at-in-27.ensures))

pub returns-in-28 : goal.returns-in-28
unfolding form_of make node_in_range
returns-in-28 c =
    let r = c.args.r.now in
    let e : node_of r ≡ Each (get_or r 1 0) (get_or r 2 0) (get_or r 3 0) (get_or r 4 0) = told (goal.at.returns-in-28 c).After-byte_at-kind c.in-28.is refl in
    rw e
    (each_of c.args.own c.args.nodes (get_or r 1 0) (ltb (get_or r 2 0) c.args.sections) (get_or r 4 0) c.is_below-in-28.ensures
    (ap (λ n. ltb n c.args.sections) c.at-in-28.ensures)
    c.is_below-in-28-2.ensures)

pub returns-in-29 : goal.returns-in-29
unfolding form_of make node_in_range
returns-in-29 c =
    let r = c.args.r.now in
    let v = c.four_at.result in
    let w = 256 * (256 * (256 * get_or r 1 0 + get_or r 2 0) + get_or r 3 0) + get_or r 4 0 in
    let q : v ≡ w = omega (arith, c.four_at.ensures) in
    let e : node_of r ≡ Wide w = told (goal.at.returns-in-29 c).After-byte_at-kind c.in-29.is refl in
    rw e (one (ltb 65535 w && leb w 4294967295) (rw q at c.is_wide.ensures))

pub returns-in_default : goal.returns-in_default
unfolding node_in_range
returns-in_default c =
    let r = c.args.r.now in
    rw (node_unknown r (rw c.byte_at-kind.ensures at (no_form _ (beyond 14 c.in_default.in_default-own.rest))))
