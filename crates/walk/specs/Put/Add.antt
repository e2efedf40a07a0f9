-- Add: what each return of put shows of an amount subtracted, and what the call asks.
use Rattle.std.specs.Prelude.{◌≡◌, refl, List, [], ◌∷◌, ℕ, suc, ◌+◌, ◌-◌, ◌*◌, ◌/◌, ◌%◌, ◌≤◌, ◌<◌, get_or}
use Rattle.std.proofs.Math.Path.{sym}
use Rattle.std.proofs.Common.{ap, ◌∙◌, le_refl, arith}
use Rattle.value.specs.Value.{Value, number, encode}
use Rattle.shapes.specs.Parts.{shape_of}
use Rattle.shapes.specs.declared.Shape.TheVariants as shapes
use Rattle.rules.specs.Semantics
use Rattle.rules.proofs.Laws.Readable.{number_readable}
use Rattle.rules.specs.Numbers.{chain_start}
use Rattle.walk.specs.Decoded.{refused_decoded, decoded}
use Rattle.walk.specs.Represents.{give_some, give_none, give_yes, give_no}
use Rattle.walk.specs.Arena.Cells.{Shown}
use Rattle.walk.specs.Arena.Frames.{frame_refl}
use Rattle.walk.specs.Arena.Shapes.{NumberOf, number_of, no_number}
use Rattle.walk.specs.Get.Add.{amount_at}
use Rattle.walk.specs.Put.{enter, run, PutHere, PutAsked, PutAsks, PutTold, PutTells}
use Rattle.walk.specs.Put.Requires.{ready_for, given_shown}
use Rattle.walk.specs.Put.Two.{shown_shape}

module _ {h : PutHere} {view : List ℕ} {x k n : ℕ} (w : PutAsked h (Shown view) x k n) (add : k ≡ 0x1B) where
  the_number : {i : ℕ} {v : Value} → shapes.Number i ≡ shape_of view → Shown view v → NumberOf v i
  the_number {v = v} e s = number_of v (shown_shape s e) s.readable

  pub add_51 : {r : ℕ} → ((i : ℕ) → shapes.Number i ≡ shape_of view → ⊥) → r ≡ 51 → PutTells h (Shown view) h.arena h.slots r x k n
  unfolding run Semantics.put_node
  add_51 other e = rw add (record {
    frame = frame_refl _ _;
    long = refl;
    told = λ {v = v} m. give_none 51 _ (no_number v (λ i q. other i (q ∙ sym (shown_shape m.shown refl))))
        (ap (decoded _ _) e ∙ refused_decoded _ _ (omega arith) (omega arith));
  })

  module _ {i : ℕ} (num : shapes.Number i ≡ shape_of view) where
    pub add_52 : {r : ℕ} → i < amount_at h.sheet n → r ≡ 52 → PutTells h (Shown view) h.arena h.slots r x k n
    unfolding run Semantics.put_node
    add_52 lt e = rw add (record {
      frame = frame_refl _ _;
      long = refl;
      told = λ m. give_some 51 _ (the_number num m.shown).seen (give_no 52 _ _ (λ le. omega arith)
          (ap (decoded _ _) e ∙ refused_decoded _ _ (omega arith) (omega arith)));
    })

    -- the view of what is left
    abbrev pub less_view : List ℕ
    less_view = 4 ∷ (i - amount_at h.sheet n) / 256 ∷ (i - amount_at h.sheet n) % 256 ∷ []

    less : Shown less_view (number (i - amount_at h.sheet n))
    unfolding encode
    less = record { bytes = refl; readable = number_readable (omega (arith, (the_number num w.given.shown).small)) }

    pub add_asks : PutAsks h (Shown less_view) (enter (get_or h.sheet (n + 1) 0))
    add_asks =
        let z : h.top + 513 * suc h.levels ≤ chain_start = w.room in
        ready_for w (rw add at w.known.1.1).0.inside (given_shown w.given less) refl (omega arith) (omega arith) (le_refl _) (omega arith)

    pub add_told : {a slots : List ℕ} {r : ℕ} → amount_at h.sheet n ≤ i → PutTold h (Shown less_view) a slots r (enter (get_or h.sheet (n + 1) 0))
        → PutTells h (Shown view) a slots r x k n
    unfolding run Semantics.put_node
    add_told le g = rw add (record {
      frame = g.frame;
      long = g.long;
      told = λ m. give_some 51 _ (the_number num m.shown).seen (give_yes 52 _ _ le (λ _. g.told (given_shown m less)));
    })
