-- `node::decode` meets its contract: in each arm the kind byte picks a row of the table of forms.
use mathlib.Core.Path.{◌≡◌, refl, sym, ap, ◌∙◌}
use mathlib.Core.Option.{some}
use Prim.Native.Nat.{ℕ, suc}
use native.Mathlib.Omega.{arith}
use lib.ListN.{get_or}
use Rattle.node.specs.Kinds.{Form, form_of, make}
use Rattle.node.specs.Forms.{no_form, beyond, decoded, node_unknown}
use Rattle.node.specs.Decoding.{node_of}
use Rattle.node.specs.declared.Node.TheVariants.{Wide}
use Rattle.node.proofs.decode.Goals as goal
use Rattle.node.proofs.decode.Goals.{After-byte_at-kind}

-- the node, where the kind is known
told : (c : After-byte_at-kind) {k : ℕ} → c.byte_at-kind.result ≡ k → {f : Form} → form_of k ≡ some f
    → let r = c.args.r.now in make f (λ i. get_or r (suc i) 0) ≡ node_of r
told c e q = sym (decoded c.args.r.now c.byte_at-kind.ensures e q c.requires.1)

pub returns-in-16 : goal.returns-in-16
unfolding form_of make
returns-in-16 c = rw c.at.ensures (told (goal.at.returns-in-16 c).After-byte_at-kind c.in-16.is refl)

pub returns-in-17 : goal.returns-in-17
unfolding form_of make
returns-in-17 c = told (goal.at.returns-in-17 c).After-byte_at-kind c.in-17.is refl

pub returns-in-18 : goal.returns-in-18
unfolding form_of make
returns-in-18 c = told (goal.at.returns-in-18 c).After-byte_at-kind c.in-18.is refl

pub returns-in-19 : goal.returns-in-19
unfolding form_of make
returns-in-19 c = told (goal.at.returns-in-19 c).After-byte_at-kind c.in-19.is refl

pub returns-in-20 : goal.returns-in-20
unfolding form_of make
returns-in-20 c = rw c.pair_at.ensures (told (goal.at.returns-in-20 c).After-byte_at-kind c.in-20.is refl)

pub returns-in-21 : goal.returns-in-21
unfolding form_of make
returns-in-21 c = rw (c.at-in-21.ensures, c.at-in-21-2.ensures) (told (goal.at.returns-in-21 c).After-byte_at-kind c.in-21.is refl)

pub returns-in-22 : goal.returns-in-22
unfolding form_of make
returns-in-22 c = rw (c.at-in-22.ensures, c.at-in-22-2.ensures) (told (goal.at.returns-in-22 c).After-byte_at-kind c.in-22.is refl)

pub returns-in-23 : goal.returns-in-23
unfolding form_of make
returns-in-23 c = c.list_case.ensures ∙ told (goal.at.returns-in-23 c).After-byte_at-kind c.in-23.is refl

pub returns-in-24 : goal.returns-in-24
unfolding form_of make
returns-in-24 c = c.truth_case.ensures ∙ told (goal.at.returns-in-24 c).After-byte_at-kind c.in-24.is refl

pub returns-in-25 : goal.returns-in-25
unfolding form_of make
returns-in-25 c = rw (c.at-in-25.ensures, c.at-in-25-2.ensures) (told (goal.at.returns-in-25 c).After-byte_at-kind c.in-25.is refl)

pub returns-in-26 : goal.returns-in-26
unfolding form_of make
returns-in-26 c = rw (c.at-in-26.ensures, c.at-in-26-2.ensures, c.at-in-26-3.ensures)
    (told (goal.at.returns-in-26 c).After-byte_at-kind c.in-26.is refl)

pub returns-in-27 : goal.returns-in-27
unfolding form_of make
returns-in-27 c = rw (c.at-in-27.ensures, c.pair_at-in-27.ensures) (told (goal.at.returns-in-27 c).After-byte_at-kind c.in-27.is refl)

pub returns-in-28 : goal.returns-in-28
unfolding form_of make
returns-in-28 c = c.each.ensures ∙ told (goal.at.returns-in-28 c).After-byte_at-kind c.in-28.is refl

pub returns-in-29 : goal.returns-in-29
unfolding form_of make
returns-in-29 c = ap Wide (c.four_at.ensures ∙ omega arith) ∙ told (goal.at.returns-in-29 c).After-byte_at-kind c.in-29.is refl

pub returns-in_default : goal.returns-in_default
returns-in_default c = sym (node_unknown c.args.r.now (rw c.byte_at-kind.ensures at (no_form _ (beyond 14 c.in_default.in_default-own.rest))))
