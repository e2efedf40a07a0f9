-- A number's digits, set from the last to the first into twenty bytes.
use Rattle.std.specs.Prelude.{◌≡◌, refl, List, [], ◌∷◌, ◌++◌, ℕ, zero, suc, ◌-◌, ◌/◌, ◌%◌, ◌^◌, ◌≤◌, ◌<◌, length, drop, set}
use Rattle.std.proofs.Common.{sym, ap, ◌∙◌, append-nil, append_assoc, pow-suc, arith, length-set, length-drop}
use Rattle.std.proofs.Math.Seq.{drop-length}
use Rattle.std.proofs.lemmas.List.{take_all}
use Rattle.std.proofs.Math.ListN.{take as front}
use Rattle.report.specs.Text.{digit_of, decimal_of}
use Rattle.report.proofs.TextLaws.{decimal_small, decimal_more}

-- the digits behind place i are those of n behind m, and there is room for m's
pub record Set (n : ℕ) (ds : List ℕ) (m i : ℕ) : Type 0 where
  pub twenty : length ds ≡ 20
  pub inside : i < 20
  pub room : m < 10 ^ suc i
  pub digits : decimal_of n ≡ decimal_of m ++ drop (suc i) ds

pub none_set : (n : ℕ) (ds : List ℕ) → length ds ≡ 20 → n < 18446744073709551616 → Set n ds n 19
none_set n ds e h =
    let z : drop 20 ds ≡ [] = rw (← e) (drop-length ds) in
    record { twenty = e; inside = omega arith; room = omega arith; digits = sym (ap (λ (t : List ℕ). decimal_of n ++ t) z ∙ append-nil (decimal_of n)) }

-- where a digit is left, so is a place
pub room_left : (m i : ℕ) → 9 < m → m < 10 ^ suc i → 0 < i
room_left m zero h r = absurd (omega arith)
room_left m (suc i) h r = omega arith

drop_here : (ds : List ℕ) (i x : ℕ) → i < length ds → drop i (set ds i x) ≡ x ∷ drop (suc i) ds
drop_here [] i x h = absurd (omega arith)
drop_here (d ∷ ds) zero x h = refl
drop_here (d ∷ ds) (suc i) x h = drop_here ds i x (omega arith)

pub set_more : {n : ℕ} {ds : List ℕ} {m : ℕ} (i : ℕ) {x : ℕ} → Set n ds m i → 9 < m → x ≡ digit_of (m % 10) → Set n (set ds i x) (m / 10) (i - 1)
set_more {n} {ds} {m} zero {x} p h e = absurd (omega (arith, room_left m 0 h p.room))
set_more {n} {ds} {m} (suc i) {x} p h e =
    let j : suc i - 1 ≡ i = omega arith in
    let q : decimal_of n ≡ decimal_of (m / 10) ++ drop (suc i) (set ds (suc i) x) =
    p.digits ∙ ap (λ (t : List ℕ). t ++ drop (suc (suc i)) ds) (decimal_more m (omega arith))
    ∙ append_assoc (decimal_of (m / 10)) (digit_of (m % 10) ∷ []) (drop (suc (suc i)) ds)
    ∙ ap (λ (d : ℕ). decimal_of (m / 10) ++ (d ∷ drop (suc (suc i)) ds)) (sym e)
    ∙ ap (λ (t : List ℕ). decimal_of (m / 10) ++ t) (sym (drop_here ds (suc i) x (omega (arith, p.twenty, p.inside)))) in
    rw j record {
      twenty = length-set ds (suc i) x ∙ p.twenty;
      inside = omega (arith, p.inside);
      room = omega (arith, p.room, pow-suc 10 (suc i));
      digits = q;
    }

-- with the first digit, the bytes from place i on are those of the number
pub all_set : {n : ℕ} {ds : List ℕ} {m i x : ℕ} → Set n ds m i → m ≤ 9 → x ≡ digit_of m → front (20 - i) (drop i (set ds i x)) ≡ decimal_of n
all_set {n} {ds} {m} {i} {x} p h e =
    take_all (20 - i) (drop i (set ds i x)) (rw (length-drop i (set ds i x), length-set ds i x) (omega (arith, p.twenty)))
    ∙ drop_here ds i x (omega (arith, p.twenty, p.inside)) ∙ ap (λ (d : ℕ). d ∷ drop (suc i) ds) e
    ∙ ap (λ (t : List ℕ). t ++ drop (suc i) ds) (sym (decimal_small m (omega arith))) ∙ sym p.digits
