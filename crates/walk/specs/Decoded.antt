-- What an answer says: a value and where it stands, or a refusal and the nodes down to where it was met, which stand in the arena.
use Rattle.std.specs.Prelude.{◌≡◌, Bool, List, [], ◌∷◌, ℕ, zero, suc, ◌+◌, ◌%◌, ◌≤◌, ◌<◌, length, get_or, set}
use Rattle.std.proofs.Math.Path.{refl, ap}
use Rattle.std.proofs.Common.{sym, ◌∙◌, get_or-set_same, get_or-set_other}
use Rattle.std.proofs.Math.Bool.{true, false}
use Rattle.std.proofs.Math.Option.{Option, none, some}
use native.Mathlib.Omega.{arith}
use Rattle.outcome.specs.Outcome.{
  done_as,
  refused_by,
  is_refusal,
  code_of,
  len_of,
  start_of,
  steps_of,
  deeper_as,
  later_as,
  len_small,
  start_small,
  small_refusal,
  refusal_by,
  deeper_refusal,
  deeper_nodes,
  deeper_first,
  done_there,
  len_done,
  start_done,
  steps_done,
  later_refused,
  later_done,
}
use Rattle.arena.specs.Chain.{chain_at, chained, left_as, in_place, chained_refused, chained_done, left_refused, left_done}
use Rattle.rules.specs.Numbers.{scratch_size, chain_start}
use Rattle.rules.specs.Explain.{Cause, own, barred}

-- a value that starts there and is so long, or nothing where a view was put back, and the steps taken; or a refusal
pub data Decoded : Type 0 where
  Done : (start len steps : ℕ) → Decoded
  Refused : Cause → Decoded

-- a refusal of the node's own rule
abbrev pub Own : ℕ → Decoded
Own c = Refused (own c none)

-- the same where n steps more were taken before
unfoldable pub after : ℕ → Decoded → Decoded
after n (Done start len steps) = Done start len (n + steps)
after n (Refused y) = Refused y

pub after_twice : (m n : ℕ) (p : Decoded) → after m (after n p) ≡ after (m + n) p
unfolding after
after_twice m n (Done start len steps) = ap (Done start len) (omega arith)
after_twice m n (Refused y) = refl

-- the same once the node x was entered: its step, or its place at the front of a refusal's chain
unfoldable pub beneath : ℕ → Decoded → Decoded
beneath x (Done start len steps) = Done start len (1 + steps)
beneath x (Refused y) = Refused (record { code = y.code; chain = x ∷ y.chain; first = y.first })

-- d bytes from byte i on
unfoldable pub bytes_at : List ℕ → (i d : ℕ) → List ℕ
bytes_at a i zero = []
bytes_at a i (suc d) = get_or a i 0 ∷ bytes_at a (suc i) d

-- one less, where there is one
unfoldable pub writer : ℕ → Option ℕ
writer zero = none
writer (suc n) = some n

-- why the answer r is a refusal, which was met with l levels left
unfoldable pub why_in : (a : List ℕ) (l r : ℕ) → Cause
why_in a l r = record { code = code_of r; chain = bytes_at a (chain_at l) (len_of r); first = writer (start_of r) }

unfoldable told : Bool → (a : List ℕ) (l r : ℕ) → Decoded
told true a l r = Refused (why_in a l r)
told false a l r = Done (start_of r) (len_of r) (steps_of r)

-- what it says
unfoldable pub decoded : (a : List ℕ) (l r : ℕ) → Decoded
unfolding told
decoded a l r = told (is_refusal r) a l r

-- LAWS

pub length_bytes : (a : List ℕ) (i d : ℕ) → length (bytes_at a i d) ≡ d
unfolding bytes_at
length_bytes a i zero = refl
length_bytes a i (suc d) = ap suc (length_bytes a (suc i) d)

-- a byte before them is another
bytes_behind : (a : List ℕ) (j x i d : ℕ) → j < i → bytes_at (set a j x) i d ≡ bytes_at a i d
unfolding bytes_at
bytes_behind a j x i zero h = refl
bytes_behind a j x i (suc d) h = rw (get_or-set_other a j i x 0 (λ e. omega arith), bytes_behind a j x (suc i) d (omega arith)) refl

module _ (a : List ℕ) (l : ℕ) where
  -- a refusal, and a success
  pub decoded_refused : (r : ℕ) → is_refusal r ≡ true → decoded a l r ≡ Refused (why_in a l r)
  unfolding decoded told
  decoded_refused r e = ap (λ (q : Bool). told q a l r) e

  pub decoded_done : (r : ℕ) → is_refusal r ≡ false → decoded a l r ≡ Done (start_of r) (len_of r) (steps_of r)
  unfolding decoded told
  decoded_done r e = ap (λ (q : Bool). told q a l r) e

  -- a refusal that is made
  pub refused_decoded : {r : ℕ} → 1 ≤ r → r < 256 → decoded a l r ≡ Own r
  unfolding why_in bytes_at writer
  refused_decoded {r} least few =
      let z = small_refusal least few in
      decoded_refused r z.0 ∙ ap Refused (rw (z.1, z.2, z.3) refl)

  pub refused_by_said : {c n : ℕ} → 1 ≤ c → c < 256 → n < 256 → decoded a l (refused_by c n) ≡ Refused (own c (some n))
  unfolding why_in bytes_at writer
  refused_by_said {c} {n} least few h =
      let z = refusal_by least few h in
      decoded_refused (refused_by c n) z.0 ∙ ap Refused (rw (z.1, z.2, z.3) refl)

  -- a success that is made
  pub done_said : (start len steps : ℕ) → start < 65536 → len < 65536 → steps < 16777216 → decoded a l (done_as start len steps) ≡ Done start len steps
  done_said start len steps h k few = decoded_done (done_as start len steps) (done_there start len steps)
      ∙ rw (start_done start len steps h k few, len_done start len steps h k few, steps_done start len steps h k few)

  -- what `later` answers
  pub later_said : (r n : ℕ) → (is_refusal r ≡ false → n + steps_of r < 16777216) → decoded a l (later_as r n) ≡ after n (decoded a l r)
  unfolding after
  later_said r n few = go (is_refusal r) refl
    where
      go : (p : Bool) → is_refusal r ≡ p → decoded a l (later_as r n) ≡ after n (decoded a l r)
      go true e = rw (later_refused r n e, decoded_refused r e)
      go false e =
          let few' = few e in
          let z : n % 16777216 ≡ n = omega arith in
          rw (later_done r n e, decoded_done r e, z) (done_said (start_of r) (len_of r) (n + steps_of r) (start_small r) (len_small r) few')

-- THE WAY OUT OF A NODE x: the answer r is made of g, and the arena a of b

pub data Left (x levels g : ℕ) (b a : List ℕ) (r : ℕ) : Type 0 where
  up : is_refusal g ≡ true → a ≡ set b (chain_at levels) x → r ≡ deeper_as g → Left x levels g b a r
  on : is_refusal g ≡ false → a ≡ b → r ≡ later_as g 1 → Left x levels g b a r

-- as the code has it
pub left_by : {x levels g r : ℕ} {b a : List ℕ} → x < 200 → levels ≤ chain_start → (r ≡ left_as g) × (a ≡ chained b g x levels) → Left x levels g b a r
left_by {x} {levels} {g} {r} {b} {a} few deep p = go (is_refusal g) refl
  where
    small : x % 256 ≡ x
    small = omega arith

    go : (q : Bool) → is_refusal g ≡ q → Left x levels g b a r
    go true e = up e (p.1 ∙ chained_refused b g x levels e ∙ sym (in_place b x levels (omega arith)) ∙ ap (set b (chain_at levels)) small)
        (p.0 ∙ left_refused g e)
    go false e = on e (p.1 ∙ chained_done b g x levels e) (p.0 ∙ left_done g e)

-- of an answer by another name
pub left_as_lem : {x levels g g' r : ℕ} {b a : List ℕ} → g ≡ g' → Left x levels g b a r → Left x levels g' b a r
left_as_lem e l = rw e at l

-- the refusal of a node that could not be entered
pub barred_said : {x levels c r : ℕ} {b a : List ℕ} → 1 ≤ c → c < 256 → length b ≡ scratch_size → levels ≤ chain_start → Left x levels c b a r
    → decoded a levels r ≡ Refused (barred c x)
unfolding why_in bytes_at writer
barred_said {x} {levels} {c} {b = b} least few long deep (up e f g) =
    let z = small_refusal least few in
    let d = deeper_refusal c e in
    let n : len_of (deeper_as c) ≡ 1 = deeper_nodes c (omega (arith, z.2)) ∙ ap suc z.2 in
    let y : get_or (set b (chain_at levels) x) (chain_at levels) 0 ≡ x = get_or-set_same b (chain_at levels) x 0 (omega arith) in
    rw (f, g) (decoded_refused _ _ (deeper_as c) d.0 ∙ ap Refused (rw (d.1, z.1, n, deeper_first c, z.3, y) refl))
barred_said {c = c} least few long deep (on e f g) = absurd (let z = (small_refusal least few).0 in let y : true ≡ false = cc in let u : ◌≡◌ {A = ℕ} 0 1 = cc
    in omega arith)

-- the answer of a node that was entered
pub left_said : {x l g r : ℕ} {b a : List ℕ} → length b ≡ scratch_size → l < chain_start → (is_refusal g ≡ true → len_of g < 65535)
    → (is_refusal g ≡ false → 1 + steps_of g < 16777216) → Left x (suc l) g b a r → decoded a (suc l) r ≡ beneath x (decoded b l g)
unfolding after beneath why_in bytes_at
left_said {x} {l} {g} {b = b} long deep nodes few (up e f q) =
    let d = deeper_refusal g e in
    let n = deeper_nodes g (nodes e) in
    let i : suc (chain_at (suc l)) ≡ chain_at l = omega arith in
    let y : get_or (set b (chain_at (suc l)) x) (chain_at (suc l)) 0 ≡ x = get_or-set_same b (chain_at (suc l)) x 0 (omega arith) in
    let z = bytes_behind b (chain_at (suc l)) x (suc (chain_at (suc l))) (len_of g) (omega arith) in
    rw (f, q, decoded_refused b l g e) (decoded_refused _ _ (deeper_as g) d.0 ∙ ap Refused (rw (d.1, n, deeper_first g, y, z, i) refl))
left_said {x} {l} {g} {b = b} long deep nodes few (on e f q) =
    rw (f, q, decoded_done b l g e) (later_said _ _ g 1 few ∙ (let z = decoded_done b (suc l) g e in rw z refl))
