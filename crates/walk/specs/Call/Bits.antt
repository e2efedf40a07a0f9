-- Which variables a put wrote, as the slots of their cells have it, and as a put gives it beside the walk's answer.
use Rattle.std.specs.Prelude.{◌≡◌, refl, Bool, List, [], ◌∷◌, map, ℕ, suc, ◌+◌, ◌<◌, length, get_or, Ok, Err}
use Rattle.std.proofs.Common.{sym, ap, ap₂, ◌∙◌, arith, eq-eqb, ne_eqb}
use Rattle.std.proofs.Math.Option.{Option, none}
use Rattle.rules.specs.Explain.{Cell, Cells}
use Rattle.rules.specs.Explain.Erasure.{value_of, strip}
use Rattle.rules.specs.Bits.{took, put_written}
use Rattle.arena.specs.Bits.{filled, filled_from}
use Rattle.refusal.specs.declared.Refusal.{Refusal}
use Rattle.walk.specs.declared.PutWalked.{PutWalked}
use Rattle.walk.specs.declared.chain.Met.{Met}
use Rattle.walk.specs.Reply.{Reply}
use Rattle.walk.specs.Arena.Cells.{Slot, blank, full, CellsHold}
use Rattle.walk.specs.Call.NewStarts.{refused_put}

-- the bits of a walk that is done; none with a refusal
unfoldable pub new_written : (sheet plan view : List ℕ) (allowance : ℕ) → Reply → ℕ
new_written sheet plan view allowance (Ok d) = put_written sheet plan view allowance
new_written sheet plan view allowance (Err c) = 0

pub none_set : {r : PutWalked} (c : Refusal) (m : Met) → r ≡ refused_put c m → (sheet plan view : List ℕ) (allowance : ℕ)
    → r.written ≡ new_written sheet plan view allowance r.walked
unfolding refused_put new_written
none_set c m e sheet plan view allowance = rw e

-- WHAT THE SLOTS SAY

slot_took : {a : List ℕ} {start s : ℕ} {o : Option Cell} → Slot a start s o → filled s ≡ took (value_of o)
unfolding filled took
slot_took {s = s} (blank z) = rw (eq-eqb s 0 z)
slot_took {s = s} (full h) = rw (ne_eqb s 0 h.there)

-- the slots say which cells took a view
pub slots_took : {a slots : List ℕ} {n : ℕ} {X : Cells} → CellsHold a slots n X → filled_from slots 0 n ≡ map took (strip X)
unfolding filled_from
slots_took {slots = slots} {X = X} w =
    ap (filled_from slots 0) (sym w.count) ∙ go 0 X (λ j h. later j (omega arith) (slot_took (w.each j (omega (arith, w.count)))))
  where
    later : {m : ℕ} {b : Bool} (n : ℕ) → m ≡ n → filled (get_or slots n 0) ≡ b → filled (get_or slots m 0) ≡ b
    later n e h = rw e h

    go : (i : ℕ) (X : Cells) → ((j : ℕ) → j < length X → filled (get_or slots (i + j) 0) ≡ took (value_of (get_or X j none)))
        → filled_from slots i (length X) ≡ map took (strip X)
    go i [] f = refl
    go i (o ∷ X) f = ap₂ ◌∷◌ (later (i + 0) (omega arith) (f 0 (omega arith))) (go (suc i) X (λ j h. later (i + suc j) (omega arith) (f (suc j) (omega arith))))
