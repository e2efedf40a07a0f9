-- THE PARTS OF A TEXT between one node and the next, and that numbers are said as `report` writes them.
use Rattle.std.specs.Prelude.{◌≡◌, refl, Bool, true, false, List, [], ◌∷◌, ◌++◌, ℕ, zero, suc, min, ◌+◌, ◌/◌, ◌%◌, ◌≤◌, ◌<◌, length, replicate}
use Rattle.std.proofs.Common.{sym, ap, ◌∙◌, append_assoc, append-nil, add-one, arith, lt-ltb, le-ltb}
use Rattle.report.specs.Text.{digit_of, decimal_of}
use Rattle.report.proofs.TextLaws.{decimal_small, decimal_more, by_digits}
use Rattle.report.specs.Writing.{Wrote, wrote_then, wrote_text}
use Rattle.tokens.specs.Quoted.{bytes}
use Rattle.tokens.specs.Laid.{spelled}
use Rattle.syntax.specs.NameLaws.{small_dec, large_dec}
use Rattle.syntax.specs.Printer.{Reach, reach, dec, decimal, suffix, name_of, called, part_name, variable_said, test_name, line, or_line, unless_plain}
use Rattle.printing.specs.declared.pieces.First.{First}
use Rattle.printing.specs.declared.pieces.First.TheVariants.{A, Sent}
use Rattle.printing.specs.declared.pieces.Scope.{Scope}

-- the first variable is what was sent
abbrev pub is_sent : First → Bool
is_sent A = false
is_sent Sent = true

abbrev pub reach_of : Scope → Reach
reach_of w = reach w.count (is_sent w.first)

-- few variables and few blanks
pub record Bounded (w : Scope) : Type 0 where
  pub few : w.count ≤ 2000
  pub shallow : w.indent ≤ 2000

-- THE TEXTS

unfoldable pub test_text : ℕ → List ℕ
test_text zero = []
test_text (suc t) = bytes " with " ++ test_name (suc t)

module _ (r : Reach) where
  abbrev x : List ℕ
  x = called r.is_sent r.count

  abbrev y : List ℕ
  y = called r.is_sent (r.count + 1)

  unfoldable pub call_text : ℕ → ℕ → ℕ → List ℕ
  call_text c u v = part_name c ++ (40 ∷ (spelled (variable_said r u) ++ (44 ∷ 32 ∷ (spelled (variable_said r v) ++ (41 ∷ [])))))

  unfoldable pub binders_text : List ℕ
  binders_text = bytes "let (" ++ (x ++ (bytes ", " ++ (y ++ bytes ") = ")))

  unfoldable pub empty_text : ℕ → List ℕ
  empty_text i = bytes " of" ++ (line (i + 2) ++ (bytes "[]" ++ (replicate (length x + length y + 4) 32 ++ bytes "->")))

  unfoldable pub front_text : ℕ → List ℕ
  front_text i = line (i + 2) ++ (bytes "[" ++ (x ++ (bytes " | " ++ (y ++ bytes "] ->"))))

  unfoldable pub first_text : ℕ → List ℕ
  first_text i = line (i + 4) ++ (bytes "default " ++ (x ++ bytes " ="))

  unfoldable pub rest_text : List ℕ
  rest_text = bytes ", " ++ (y ++ bytes " =")

  unfoldable pub with_text : ℕ → List ℕ
  with_text u = bytes ", " ++ (spelled (variable_said r u) ++ bytes ") default ")

unfoldable pub each_text : ℕ → List ℕ
each_text c = bytes "each " ++ (part_name c ++ bytes "(")

-- DECIMAL: the digits one by one, and all at once before what follows

digit_small : (n : ℕ) → n < 10 → digit_of n ≡ 48 + n
unfolding digit_of
digit_small n h = rw (lt-ltb n 10 h)

dec_is : (n : ℕ) → (f : ℕ) (acc : List ℕ) → n < f → dec f n acc ≡ decimal_of n ++ acc
dec_is = by_digits (λ n. (f : ℕ) (acc : List ℕ) → n < f → dec f n acc ≡ decimal_of n ++ acc) small more
  where
    small : (n : ℕ) → n < 10 → (f : ℕ) (acc : List ℕ) → n < f → dec f n acc ≡ decimal_of n ++ acc
    small n s zero acc h = absurd (omega arith)
    small n s (suc f) acc h = rw (small_dec f n acc s, decimal_small n s, digit_small n s)

    more : (n : ℕ) → 10 ≤ n → ((f : ℕ) (acc : List ℕ) → n / 10 < f → dec f (n / 10) acc ≡ decimal_of (n / 10) ++ acc)
        → (f : ℕ) (acc : List ℕ) → n < f → dec f n acc ≡ decimal_of n ++ acc
    more n s r zero acc h = absurd (omega arith)
    more n s r (suc f) acc h =
        large_dec f n acc (λ z. omega arith) ∙ r f ((48 + n % 10) ∷ acc) (omega arith)
        ∙ sym (rw (decimal_more n s, digit_small (n % 10) (omega arith)) (append_assoc (decimal_of (n / 10)) ((48 + n % 10) ∷ []) acc))

pub decimal_is : (n : ℕ) → decimal_of n ≡ decimal n
unfolding decimal
decimal_is n = sym (dec_is n (suc n) [] (omega arith) ∙ append-nil (decimal_of n))

-- NAMES

pub name_sent : (s : Bool) (n : ℕ) → n ≡ 0 → s ≡ true → called s n ≡ bytes "sent"
unfolding called
name_sent s n z e = rw (e, z) refl

pub name_a : (s : Bool) (n : ℕ) → n ≡ 0 → s ≡ false → called s n ≡ bytes "a"
unfolding called name_of suffix
name_a s n z e = rw (e, z) refl

pub name_first : (s : Bool) (n : ℕ) → (n ≡ 0 → ⊥) → n < 26 → called s n ≡ (97 + n % 26) ∷ []
unfolding called name_of suffix
name_first false n f h = let z : n / 26 ≡ 0 = omega arith in rw z
name_first true zero f h = absurd (f refl)
name_first true (suc n) f h = let z : suc n / 26 ≡ 0 = omega arith in rw z

suffix_more : (q : ℕ) → 1 ≤ q → suffix q ≡ decimal_of q
unfolding suffix
suffix_more zero h = absurd (omega arith)
suffix_more (suc q) h = sym (decimal_is (suc q))

pub name_more : (s : Bool) (n : ℕ) → 26 ≤ n → called s n ≡ (97 + n % 26) ∷ decimal_of (n / 26)
unfolding called name_of
name_more false n h = rw (suffix_more (n / 26) (omega arith))
name_more true zero h = absurd (omega arith)
name_more true (suc n) h = rw (suffix_more (suc n / 26) (omega arith))

pub variable_in : (w : Scope) (n : ℕ) → n < w.count → spelled (variable_said (reach_of w) n) ≡ called (is_sent w.first) n
unfolding variable_said spelled
variable_in w n h = rw (lt-ltb n w.count h)

pub variable_out : (w : Scope) (n : ℕ) → w.count ≤ n → spelled (variable_said (reach_of w) n) ≡ 35 ∷ decimal_of n
unfolding variable_said spelled
variable_out w n h = rw (le-ltb n w.count h) (ap (λ (l : List ℕ). 35 ∷ l) (sym (decimal_is n)))

pub part_is : (i : ℕ) → part_name i ≡ bytes "part" ++ decimal_of i
unfolding part_name
part_is i = rw (decimal_is i)

-- BLANKS

abbrev pub blank : ℕ → List ℕ
blank n = replicate n 32

pub blank_more : (n : ℕ) → blank n ++ (32 ∷ []) ≡ blank (n + 1)
blank_more n = go n ∙ ap blank (sym (add-one n))
  where
    go : (n : ℕ) → blank n ++ (32 ∷ []) ≡ blank (suc n)
    go zero = refl
    go (suc n) = ap (λ (l : List ℕ). 32 ∷ l) (go n)

pub line_few : (i : ℕ) → i < 32 → line i ≡ 10 ∷ replicate i 32
line_few i h = let z : min i 32 ≡ i = omega arith in rw z

pub line_many : (i : ℕ) → 32 ≤ i → line i ≡ 10 ∷ replicate 32 32
line_many i h = let z : min i 32 ≡ 32 = omega arith in rw z

-- TESTS
pub test_many : (t : ℕ) → (t ≡ 0 → ⊥) → (t ≡ 1 → ⊥) → (t ≡ 2 → ⊥) → (t ≡ 3 → ⊥) → (t ≡ 4 → ⊥) → (t ≡ 5 → ⊥) → test_text t ≡ bytes " with many"
unfolding test_text test_name
test_many zero a b c d e f = absurd (a refl)
test_many (suc zero) a b c d e f = absurd (b refl)
test_many (suc (suc zero)) a b c d e f = absurd (c refl)
test_many (suc (suc (suc zero))) a b c d e f = absurd (d refl)
test_many (suc (suc (suc (suc zero)))) a b c d e f = absurd (e refl)
test_many (suc (suc (suc (suc (suc zero))))) a b c d e f = absurd (f refl)
test_many (suc (suc (suc (suc (suc (suc t)))))) a b c d e f = refl

-- WHAT WAS WRITTEN, by whether there is a case
module _ (p : Bool) {at r : ℕ} {b b' : List ℕ} where
  pub or_flat : (g : List ℕ) (i : ℕ) → p ≡ true → Wrote g at b b' r → Wrote (or_line p g i) at b b' r
  or_flat g i e w = wrote_text w (sym (ap (λ q. or_line q g i) e))

  pub or_deep : (g : List ℕ) (i : ℕ) → p ≡ false → Wrote (line i) at b b' r → Wrote (or_line p g i) at b b' r
  or_deep g i e w = wrote_text w (sym (ap (λ q. or_line q g i) e))

  pub open_flat : {m : ℕ} → p ≡ true → Wrote (m ∷ []) at b b' r → Wrote (m ∷ unless_plain p) at b b' r
  open_flat {m} e w = wrote_text w (sym (ap (λ q. m ∷ unless_plain q) e))

  pub open_deep : {m : ℕ} → p ≡ false → Wrote (m ∷ 32 ∷ []) at b b' r → Wrote (m ∷ unless_plain p) at b b' r
  open_deep {m} e w = wrote_text w (sym (ap (λ q. m ∷ unless_plain q) e))

  pub close_flat : {m : ℕ} → p ≡ true → Wrote (m ∷ []) at b b' r → Wrote (unless_plain p ++ (m ∷ [])) at b b' r
  close_flat {m} e w = wrote_text w (sym (ap (λ q. unless_plain q ++ (m ∷ [])) e))

  pub close_deep : {m : ℕ} → p ≡ false → Wrote (32 ∷ m ∷ []) at b b' r → Wrote (unless_plain p ++ (m ∷ [])) at b b' r
  close_deep {m} e w = wrote_text w (sym (ap (λ q. unless_plain q ++ (m ∷ [])) e))

-- the blanks before the first arrow, as many as the names before the second take
pub empty_put : (q : Reach) (i : ℕ) {u v at m₁ m₂ m₃ m₄ r : ℕ} {b b₁ b₂ b₃ b₄ b₅ : List ℕ} → u ≡ length (x q) → v ≡ length (y q)
    → Wrote (bytes " of") at b b₁ m₁ → Wrote (line (i + 2)) m₁ b₁ b₂ m₂ → Wrote (bytes "[]") m₂ b₂ b₃ m₃ → Wrote (blank (u + v + 4)) m₃ b₃ b₄ m₄
    → Wrote (bytes "->") m₄ b₄ b₅ r → Wrote (empty_text q i) at b b₅ r
unfolding empty_text
empty_put q i e f p₁ p₂ p₃ p₄ p₅ = wrote_then p₁ (wrote_then p₂ (wrote_then p₃ (wrote_then (rw (e, f) at p₄) p₅)))
