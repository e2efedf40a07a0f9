-- `bring` meets its contract.
-- Assumes nothing.
use mathlib.Core.Path.{refl, sym, ◌∙◌}
use native.Mathlib.Omega.{arith}
use mathlib.Core.Bool.{false≢true}
use Rattle.walk.proofs.got.bring.Goals as goal

pub returns-then-is_refused : goal.returns-then-is_refused
returns-then-is_refused c = let e = sym c.is_refused.ensures ∙ c.if-is_refused.true in record {
  refused = λ _. (refl, refl);
  moved = λ q. absurd (false≢true (sym q ∙ e));
}

pub copy-requires : goal.copy-requires
copy-requires c =
    let m = c.requires (sym c.is_refused.ensures ∙ c.if-is_refused.false) in
    (omega (arith, m.inside, c.start.ensures, c.len-len.ensures), omega (arith, m.room, c.len-len.ensures))

pub returns : goal.returns
returns c =
    let n = sym c.is_refused.ensures ∙ c.if-is_refused.false in
    let l = c.len-len.ensures in
    record {
      refused = λ q. absurd (false≢true (sym n ∙ q));
      moved = λ _. record {
        is = rw (← l, ← c.steps.ensures) c.done.ensures;
        low = (c.requires n).low;
        copied = rw (← l, ← c.start.ensures) c.copy.ensures;
      };
    }
