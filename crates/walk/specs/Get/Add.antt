-- Add: what get shows of an amount added.
use Rattle.std.specs.Prelude.{◌≡◌, true, false, List, set}
use Rattle.std.proofs.Math.Path.{refl, sym, ap}
use Rattle.std.proofs.Common.{◌∙◌}
use Prim.Native.Nat.{ℕ, suc, ◌+◌, ◌*◌, ◌/◌, ◌%◌, ◌≤◌, ◌<◌}
use Rattle.std.proofs.Math.Nat.{le_refl}
use native.Mathlib.Omega.{arith}
use Rattle.std.proofs.Math.ListN.{length, get_or}
use Rattle.outcome.specs.Outcome.{is_refusal, len_of, start_of, steps_of}
use Rattle.value.specs.Value.{Value, encode, size}
use Rattle.shapes.specs.Parts.{shape_of}
use Rattle.shapes.specs.declared.Shape.TheVariants as shapes
use Rattle.rules.specs.Semantics
use Rattle.rules.proofs.Laws.Readable.{number_readable}
use Rattle.rules.specs.Numbers.{scratch_size, chain_start}
use Rattle.walk.specs.Decoded.{Done, Own, after, refused_decoded, decoded, decoded_done, decoded_refused}
use Rattle.walk.specs.Arena.Parts.{part, kept_then, kept_set}
use Rattle.walk.specs.Arena.{Held, on_stack}
use Rattle.walk.specs.Arena.Bytes.{held_head, held_shape}
use Rattle.walk.specs.Arena.Shapes.{NumberOf, number_of, no_number}
use Rattle.walk.specs.Represents.{finish, then_done, then_refused, give_some, give_none, give_yes, give_no, had, not_had}
use Rattle.walk.specs.Get.{run, Here, Asked, Asks, Tells}
use Rattle.walk.specs.Get.Requires.{first_asks}
use Rattle.walk.specs.Get.Top.{AtTop}
use Rattle.walk.specs.Get.Leaf.{number_bytes}

-- the amount of the record
abbrev pub amount_at : List ℕ → ℕ → ℕ
amount_at s n = 256 * get_or s (n + 2) 0 + get_or s (n + 3) 0

-- WHAT `added` ASKS AND GIVES: the number that was got stands at the top

pub record Addable (a : List ℕ) (got top : ℕ) : Type 0 where
  pub there : start_of got ≡ top
  pub inside : start_of got + len_of got ≤ length a
  pub small : (m : ℕ) → shapes.Number m ≡ shape_of (part a (start_of got) (len_of got)) → (m ≤ 65535) × (len_of got ≡ 3)

pub data Added (amount got top : ℕ) (b a : List ℕ) (r : ℕ) : Type 0 where
  passed_on : is_refusal got ≡ true → r ≡ got → a ≡ b → Added amount got top b a r
  other : is_refusal got ≡ false → ((m : ℕ) → shapes.Number m ≡ shape_of (part b (start_of got) (len_of got)) → ⊥) → r ≡ 43 → a ≡ b → Added amount got top b a r
  over : {m : ℕ} → is_refusal got ≡ false → shapes.Number m ≡ shape_of (part b (start_of got) (len_of got)) → 65535 < m + amount → r ≡ 45 → a ≡ b
      → Added amount got top b a r
  sums : {m : ℕ} → is_refusal got ≡ false → shapes.Number m ≡ shape_of (part b (start_of got) (len_of got)) → m + amount ≤ 65535 → r ≡ got
      → a ≡ set (set b (top + 1) ((m + amount) / 256)) (top + 2) ((m + amount) % 256) → Added amount got top b a r

module _ {h : Here} {k n : ℕ} (w : Asked h k n) (add : k ≡ 0x1B) where
  pub add_asks : Asks h (get_or h.sheet (n + 1) 0)
  add_asks = first_asks w (rw add at w.known.1).0.inside

  module _ {a : List ℕ} {g : ℕ} (t : AtTop h a g (get_or h.sheet (n + 1) 0)) where
    -- the number that was got
    the_number : {m len start : ℕ} {v : Value} → shapes.Number m ≡ shape_of (part a start len) → {top : ℕ} → Held a top start len v → NumberOf v m
    the_number {v = v} e d = number_of v (held_shape d e) d.readable

    pub addable : is_refusal g ≡ false → Addable a g h.top
    unfolding size
    addable e =
        let d = had (t.gives.told w.sheet.sh w.sheet.read w.env w.scoped) (decoded_done _ _ g e) in
        let s = t.sized.at e in
        let z : h.top + 513 * suc h.levels ≤ chain_start = w.room in
        record {
          there = t.there e;
          inside = omega (arith, t.gives.kept.long, w.long);
          small = λ m f.
              let v = d.that.held in
              let x = the_number f v in
              (x.small, v.long ∙ ap size x.whole);
        }

    pub add_told : {a₂ : List ℕ} {r : ℕ} → Added (amount_at h.sheet n) g h.top a a₂ r → Tells h a₂ r k n
    unfolding run Semantics.get_node encode size after
    add_told (passed_on e is f) = rw (is, f, add) (record {
      kept = t.gives.kept;
      told = λ sh es μ m. let x = decoded_refused _ _ g e in then_refused _ _ (not_had (t.gives.told sh es μ m) x).1 x;
    })
    add_told {r = r} (other e not is f) = rw (f, add) (record {
      kept = t.gives.kept;
      told = λ sh es μ m.
          let d = had (t.gives.told sh es μ m) (decoded_done _ _ g e) in
          let x : decoded a h.levels r ≡ Own 43 = ap (decoded _ _) is ∙ refused_decoded _ _ (omega arith) (omega arith) in
          then_done _ _ {q = Own 43} d.is (give_none _ _ (no_number d.value (λ i q. not i (q ∙ sym (held_shape d.that.held refl)))) refl) x;
    })
    add_told {r = r} (over {m = i} e num lt is f) = rw (f, add) (record {
      kept = t.gives.kept;
      told = λ sh es μ m.
          let d = had (t.gives.told sh es μ m) (decoded_done _ _ g e) in
          let v = the_number num d.that.held in
          let x : decoded a h.levels r ≡ Own 45 = ap (decoded _ _) is ∙ refused_decoded _ _ (omega arith) (omega arith) in
          then_done _ _ {q = Own 45} d.is (give_some _ _ v.seen (give_no _ _ _ (λ le. omega arith) refl)) x;
    })
    add_told {a₂} {r} (sums {m = i} e num le is f) =
        let top = h.top in
        let sum = i + amount_at h.sheet n in
        let z : top + 513 * suc h.levels ≤ chain_start = w.room in
        let long : length a ≡ scratch_size = t.gives.kept.long ∙ w.long in
        let p = t.there e in
        rw (is, add) (record {
          kept = rw f (kept_then (kept_then t.gives.kept (kept_set top a (top + 1) (sum / 256) (omega arith)) (le_refl top))
              (kept_set top (set a (top + 1) (sum / 256)) (top + 2) (sum % 256) (omega arith)) (le_refl top));
          told = λ sh es μ m.
              let d = had (t.gives.told sh es μ m) (decoded_done _ _ g e) in
              let v = the_number num d.that.held in
              let three : len_of g ≡ 3 = d.that.held.long ∙ ap size v.whole in
              let head : get_or a top 0 ≡ 4 = ap (λ (j : ℕ). get_or a j 0) (sym p) ∙ held_head d.that.held
              ∙ ap (λ (y : Value). get_or (encode y) 0 0) v.whole in
              let y : steps_of g + 0 ≡ steps_of g = omega arith in
              let x : decoded a₂ h.levels g ≡ Done top 3 (steps_of g + 0) = decoded_done _ _ g e ∙ rw (p, three, y) in
              then_done _ _ {q = Done top 3 0} d.is (give_some _ _ v.seen (give_yes _ _ _ le (λ _. finish refl (record {
                low = le_refl top;
                held = record {
                  place = on_stack w.base (le_refl _);
                  long = refl;
                  bytes = rw f (number_bytes a top sum (omega arith) head);
                  readable = number_readable le;
                };
              })))) x;
        })
