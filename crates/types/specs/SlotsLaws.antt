-- Laws of types where they stand: how a length is found byte by byte, and which slot is lent.
use Rattle.std.specs.Prelude.{◌≡◌, refl, ◌⊎◌, Bool, true, false, List, [], ◌∷◌, ◌++◌, leb, ltb, min, take, drop, ◌==◌}
use Rattle.std.proofs.Math.Path.{sym, ap}
use Rattle.std.proofs.Common.{◌∙◌, inl, inr, drop_at, length-drop, drop_of_length-le, take-append-drop}
use Rattle.std.proofs.Math.Bool.{cond}
use Rattle.std.specs.Prelude.{None, Some, unwrap_or}
use Rattle.std.specs.Prelude as Code
use Rattle.std.proofs.Math.Option.{Option, none, some}
use Prim.Native.Nat.{ℕ, suc, ◌+◌, ◌*◌, ◌-◌, ◌≤◌, ◌<◌}
use native.Mathlib.Omega.{arith}
use Rattle.std.proofs.Math.Decide.{dec_lt}
use Rattle.std.proofs.Math.Seq.{take_at}
use Rattle.std.proofs.Math.ListN.{length, get_or, length-append}
use Rattle.std.proofs.lemmas.List.{get_or-take, length-take}
use borrow.Author.Tests.{lt-ltb, le-ltb, le-leb, lt-leb, eq-eqb}
use Rattle.shapes.specs.Parts.{both, same_bytes}
use Rattle.shapes.proofs.PartsLaws.{same_bytes_lem, same_refl}
use Rattle.node.specs.Places.{take_rest, rest_begins}
use Rattle.typing.specs.Numbers.{longest_type, past_slots}
use Rattle.typing.specs.Types.{Ty, truths, numbers, lists, pairs}
use Rattle.typing.specs.Fits.{added}
use Rattle.rules.specs.Semantics.{two}
use Rattle.typing.specs.Check.{apart, make_list, make_pair, also, and_then, k_truth, k_number, k_list, k_pair, unknown, kind_of, begin, read_types}
use Rattle.typing.specs.Check as Checks
use Rattle.typing.specs.Written.{bytes_of, Short, Taken, nothing, taken, Names, is_truth, is_number, is_list, is_pair}
use Rattle.typing.proofs.Written.{takes, none_owed, one_back}
use Rattle.typing.specs.Written.{is_other}
use Rattle.typing.proofs.Written.{names}
use Rattle.types.specs.declared.lent.Kind.{Kind}
use Rattle.types.specs.declared.lent.Kind.TheVariants.{Truths, Numbers, Lists, Pairs}
use Rattle.types.specs.Slots.{kind_told, kind_named, byte_of, owed_behind, behind, up_to, type_len, part_at, clamp, lent_below}

-- THE LENGTH OF A TYPE

also-behind : (t : Ty) (o : Option (List Ty × List ℕ)) → behind (and_then o (also t)) ≡ behind o
unfolding behind and_then also
also-behind t none = refl
also-behind t (some (ts, bs)) = refl

list_behind : {bs : List ℕ} {room n : ℕ} {o : Option (List Ty × List ℕ)} → Taken bs room (suc n) o → behind (and_then o make_list) ≡ behind o
unfolding behind and_then make_list
list_behind nothing = refl
list_behind (taken {ts = []} e l f) = absurd (omega arith)
list_behind (taken {ts = t ∷ ts} e l f) = refl

pair_behind : {bs : List ℕ} {room n : ℕ} {o : Option (List Ty × List ℕ)} → Taken bs room (suc (suc n)) o → behind (and_then o make_pair) ≡ behind o
unfolding behind and_then make_pair
pair_behind nothing = refl
pair_behind (taken {ts = []} e l f) = absurd (omega arith)
pair_behind (taken {ts = t ∷ []} e l f) = absurd (omega arith)
pair_behind (taken {ts = t ∷ u ∷ ts} e l f) = refl

-- THE KINDS

kind_byte : {b : ℕ} {k : Kind} → kind_named b ≡ Some k → b ≡ byte_of k
unfolding kind_told
kind_byte {b} {k} e = go (names b) e
  where
    go : {b : ℕ} {n : Checks.Kind} → Names b n → kind_told n ≡ Some k → b ≡ byte_of k
    go is_truth e = let q : Truths ≡ k = cc in rw (← q)
    go is_number e = let q : Numbers ≡ k = cc in rw (← q)
    go is_list e = let q : Lists ≡ k = cc in rw (← q)
    go is_pair e = let q : Pairs ≡ k = cc in rw (← q)
    go is_other e = apart (cc)

pub kind_none : (b : ℕ) → (b ≡ 0x30 → ⊥) → (b ≡ 0x31 → ⊥) → (b ≡ 0x32 → ⊥) → (b ≡ 0x33 → ⊥) → None ≡ kind_named b
unfolding kind_told
kind_none b t n l p = go (names b) t n l p
  where
    go : {b : ℕ} {k : Checks.Kind} → Names b k → (b ≡ 0x30 → ⊥) → (b ≡ 0x31 → ⊥) → (b ≡ 0x32 → ⊥) → (b ≡ 0x33 → ⊥) → None ≡ kind_told k
    go is_truth t n l p = absurd (t refl)
    go is_number t n l p = absurd (n refl)
    go is_list t n l p = absurd (l refl)
    go is_pair t n l p = absurd (p refl)
    go is_other t n l p = refl

-- no byte is of no kind
pub no_byte : (l : List ℕ) (k : Kind) → length l ≡ 0 → false ≡ (get_or l 0 0 == byte_of k)
no_byte [] Truths h = refl
no_byte [] Numbers h = refl
no_byte [] Lists h = refl
no_byte [] Pairs h = refl
no_byte (x ∷ l) k h = absurd (omega arith)

-- `at` bytes are read, and `owed` types are still to come
pub record Owing (s : List ℕ) (at owed : ℕ) : Type 0 where
  pub inside : at ≤ length s
  pub few : at ≤ longest_type
  pub small : owed ≤ at + 1
  pub same : behind (read_types s longest_type 1) ≡ behind (read_types (drop at s) (longest_type - at) owed)

pub owing_one : (s : List ℕ) → Owing s 0 1
owing_one s = record { inside = omega arith; few = omega arith; small = omega arith; same = refl }

module _ (s : List ℕ) {at owed : ℕ} (w : Owing s at owed) where
  len_none : behind (read_types (drop at s) (longest_type - at) owed) ≡ none → None ≡ type_len s
  unfolding type_len up_to
  len_none e = rw (w.same, e)

  pub len_done : owed ≡ 0 → Some at ≡ type_len s
  unfolding type_len up_to behind
  len_done e =
      let z : at ≡ length s - length (drop at s) = omega (arith, length-drop at s, w.inside) in
      ap Some z ∙ rw (w.same, e, none_owed (drop at s) (longest_type - at))

  module _ (some-owed : 1 ≤ owed) where
    owes : owed ≡ suc (owed - 1)
    owes = omega arith

    pub len_past : length s ≤ at → None ≡ type_len s
    unfolding behind read_types
    len_past h = len_none (rw (drop_of_length-le s h, owes))

    pub len_long : at < length s → longest_type ≤ at → None ≡ type_len s
    unfolding behind read_types
    len_long h f = let z : longest_type - at ≡ 0 = omega arith in len_none (rw (rest_begins s at h, z, owes))

    module _ {m : ℕ} (least : m ≡ min (length s) longest_type) where
      pub len_end : length (take m s) ≤ at → None ≡ type_len s
      len_end h = go (dec_lt at (length s))
        where
          go : Dec (at < length s) → None ≡ type_len s
          go (yes l) = len_long l (omega (arith, length-take m s))
          go (no l) = len_past (omega arith)

      module _ (h : at < length (take m s)) where
        inside : at < length s
        inside = omega (arith, length-take m s)

        few : at < longest_type
        few = omega (arith, length-take m s)

        pub owed_few : owed ≤ longest_type
        owed_few = omega (arith, few, w.small)

        -- the next byte
        here : get_or (take m s) at 0 ≡ get_or s at 0
        here = get_or-take m s at 0 (omega (arith, length-take m s))

        next : behind (read_types (drop at s) (longest_type - at) owed)
            ≡ behind (begin (read_types (drop (at + 1) s) (longest_type - (at + 1))) (owed - 1) (kind_of (get_or s at 0)))
        unfolding read_types
        next = go owed owes
          where
            go : (o : ℕ) → o ≡ suc (owed - 1) → behind (read_types (drop at s) (longest_type - at) o)
                ≡ behind (begin (read_types (drop (at + 1) s) (longest_type - (at + 1))) (owed - 1) (kind_of (get_or s at 0)))
            go o e = let z : longest_type - at ≡ suc (longest_type - (at + 1)) = omega (arith, few) in rw (rest_begins s at inside, z, e)

        pub len_unknown : kind_named (get_or (take m s) at 0) ≡ None → None ≡ type_len s
        unfolding kind_told begin behind
        len_unknown e = len_none (next ∙ go (kind_of (get_or s at 0)) (rw here at e))
          where
            go : (k : Checks.Kind) → kind_told k ≡ None
                → behind (begin (read_types (drop (at + 1) s) (longest_type - (at + 1))) (owed - 1) k) ≡ none
            go k_truth e = apart (cc)
            go k_number e = apart (cc)
            go k_list e = apart (cc)
            go k_pair e = apart (cc)
            go unknown e = refl

        owing_next : (n : ℕ) → n ≤ at + 1 + 1
            → behind (begin (read_types (drop (at + 1) s) (longest_type - (at + 1))) (owed - 1) (kind_of (get_or s at 0)))
            ≡ behind (read_types (drop (at + 1) s) (longest_type - (at + 1)) n) → Owing s (at + 1) n
        owing_next n l e = record { inside = omega (arith, inside); few = omega (arith, few); small = l; same = w.same ∙ next ∙ e }

        pub owing_kind : (k : Kind) → kind_named (get_or (take m s) at 0) ≡ Some k → Owing s (at + 1) (owed_behind k owed)
        unfolding begin kind_of
        owing_kind k e = go k (sym here ∙ kind_byte e)
          where
            go : (k : Kind) → get_or s at 0 ≡ byte_of k → Owing s (at + 1) (owed_behind k owed)
            go Truths e = owing_next (owed - 1) (omega (arith, w.small))
                (rw e (also-behind truths (read_types (drop (at + 1) s) (longest_type - (at + 1)) (owed - 1))))
            go Numbers e = owing_next (owed - 1) (omega (arith, w.small))
                (rw e (also-behind numbers (read_types (drop (at + 1) s) (longest_type - (at + 1)) (owed - 1))))
            go Lists e =
                let n : Owing s (at + 1) (suc (owed - 1)) = owing_next (suc (owed - 1)) (omega (arith, w.small, owes))
                (rw e (list_behind (takes (drop (at + 1) s) (longest_type - (at + 1)) (suc (owed - 1))))) in
                rw (← owes) at n
            go Pairs e = let z : owed + 1 ≡ suc (suc (owed - 1)) = omega (arith, owes) in
                owing_next (owed + 1) (omega (arith, w.small))
                (rw (e, z) (pair_behind (takes (drop (at + 1) s) (longest_type - (at + 1)) (suc (suc (owed - 1))))))

-- WHICH SLOT IS LENT

module _ (low n slot : ℕ) where
  pub clamp_before : slot ≤ low → clamp low n slot ≡ 0
  unfolding clamp
  clamp_before h = omega arith

  pub clamp_in : low ≤ slot → slot ≤ low + n → clamp low n slot + low ≡ slot
  unfolding clamp
  clamp_in h l = omega arith

  pub clamp_past : low + n ≤ slot → clamp low n slot ≡ n
  unfolding clamp
  clamp_past h = omega arith

  -- one slot more
  pub clamp_next : low ≤ slot → slot < low + n → clamp low n (slot + 1) ≡ suc (clamp low n slot)
  unfolding clamp
  clamp_next h l = omega arith

  pub clamp_same : low + n ≤ slot → clamp low n (slot + 1) ≡ clamp low n slot
  unfolding clamp
  clamp_same h = omega arith

  pub clamp_more : (d : ℕ) → clamp low n slot ≤ clamp low n (slot + d)
  unfolding clamp
  clamp_more d = omega arith

pub lent_none : (k sections nodes : ℕ) → lent_below k sections nodes 0 ≡ 0
unfolding lent_below
lent_none k sections nodes = omega (
  arith,
  clamp_before 0 k 0 (omega arith),
  clamp_before 16 (3 * sections) 0 (omega arith),
  clamp_before 40 (suc nodes) 0
      (omega arith),
)

pub lent_up : (k sections nodes i j : ℕ) → i ≤ j → lent_below k sections nodes i ≤ lent_below k sections nodes j
unfolding lent_below
lent_up k sections nodes i j h =
    let z : i + (j - i) ≡ j = omega arith in
    let a : clamp 0 k i ≤ clamp 0 k j = rw z at (clamp_more 0 k i (j - i)) in
    let b : clamp 16 (3 * sections) i ≤ clamp 16 (3 * sections) j = rw z at (clamp_more 16 (3 * sections) i (j - i)) in
    let c : clamp 40 (suc nodes) i ≤ clamp 40 (suc nodes) j = rw z at (clamp_more 40 (suc nodes) i (j - i)) in
    sums a b c
  where
    sums : {a b c x y z : ℕ} → a ≤ x → b ≤ y → c ≤ z → a + b + c ≤ x + y + z
    sums p q r = omega arith

module _ (k sections nodes slot : ℕ) (few : k ≤ 16) (few_sections : sections ≤ 8) where
  pub lent_plan : slot < 16 → lent_below k sections nodes (slot + 1) ≡ cond (ltb slot k) 1 0 + lent_below k sections nodes slot
  unfolding lent_below
  lent_plan h = go (dec_lt slot k)
    where
      go : Dec (slot < k) → lent_below k sections nodes (slot + 1) ≡ cond (ltb slot k) 1 0 + lent_below k sections nodes slot
      go (yes q) = rw (lt-ltb slot k q) (omega (
        arith,
        clamp_next 0 k slot (omega arith) (omega arith),
        clamp_before 16 (3 * sections) slot (omega arith),
        clamp_before 16 (3 * sections) (slot + 1) (omega arith),
        clamp_before 40 (suc nodes) slot (omega arith),
        clamp_before 40 (suc nodes) (slot + 1) (omega arith),
      ))
      go (no q) = let l : k ≤ slot = omega arith in rw (le-ltb slot k l) (omega (
        arith,
        clamp_same 0 k slot (omega arith),
        clamp_before 16 (3 * sections) slot (omega arith),
        clamp_before 16 (3 * sections) (slot + 1) (omega arith),
        clamp_before 40 (suc nodes) slot (omega arith),
        clamp_before 40 (suc nodes) (slot + 1) (omega arith),
      ))

  pub lent_section : 16 ≤ slot → slot < 40
      → lent_below k sections nodes (slot + 1) ≡ cond (ltb (slot - 16) (3 * sections)) 1 0 + lent_below k sections nodes slot
  unfolding lent_below
  lent_section f h = go (dec_lt (slot - 16) (3 * sections))
    where
      go : Dec (slot - 16 < 3 * sections)
          → lent_below k sections nodes (slot + 1) ≡ cond (ltb (slot - 16) (3 * sections)) 1 0 + lent_below k sections nodes slot
      go (yes q) = rw (lt-ltb (slot - 16) (3 * sections) q) (omega (
        arith,
        clamp_next 16 (3 * sections) slot (omega arith) (omega arith),
        clamp_same 0 k slot (omega arith),
        clamp_before 40 (suc nodes) slot (omega arith),
        clamp_before 40 (suc nodes) (slot + 1) (omega arith),
      ))
      go (no q) = let l : 3 * sections ≤ slot - 16 = omega arith in rw (le-ltb (slot - 16) (3 * sections) l)
          (omega (
            arith,
            clamp_same 16 (3 * sections) slot (omega arith),
            clamp_same 0 k slot (omega arith),
            clamp_before 40 (suc nodes) slot (omega arith),
            clamp_before 40 (suc nodes) (slot + 1) (omega arith),
          ))

  pub lent_node : 40 ≤ slot → lent_below k sections nodes (slot + 1) ≡ cond (leb (slot - 40) nodes) 1 0 + lent_below k sections nodes slot
  unfolding lent_below
  lent_node f = go (dec_lt nodes (slot - 40))
    where
      go : Dec (nodes < slot - 40) → lent_below k sections nodes (slot + 1) ≡ cond (leb (slot - 40) nodes) 1 0 + lent_below k sections nodes slot
      go (yes q) = rw (lt-leb (slot - 40) nodes q) (omega (
        arith,
        clamp_same 40 (suc nodes) slot (omega arith),
        clamp_same 0 k slot (omega arith),
        clamp_same 16 (3 * sections) slot (omega arith),
      ))
      go (no q) = let l : slot - 40 ≤ nodes = omega arith in rw (le-leb (slot - 40) nodes l) (omega (
        arith,
        clamp_next 40 (suc nodes) slot (omega arith) (omega arith),
        clamp_same 0 k slot (omega arith),
        clamp_same 16 (3 * sections) slot (omega arith),
      ))

-- THE BYTES IN A SLOT

module _ (types starts : List ℕ) (slot : ℕ) where
  pub part_past : past_slots ≤ slot → [] ≡ part_at types starts slot
  unfolding part_at
  part_past h = rw (le-ltb slot past_slots h)

  module _ (lt : slot < past_slots) {s e : ℕ} (p : s ≡ get_or starts slot 0) (q : e ≡ get_or starts (slot + 1) 0) where
    pub part_back : e < s → [] ≡ part_at types starts slot
    unfolding part_at
    part_back h = rw (← p, ← q, lt-ltb slot past_slots lt, lt-leb s e h)

    module _ (le : s ≤ e) where
      pub part_out : length types < e → [] ≡ part_at types starts slot
      unfolding part_at
      part_out h = rw (← p, ← q, lt-ltb slot past_slots lt, le-leb s e le, lt-leb e (length types) h)

      pub part_in : e ≤ length types → take (e - s) (drop s types) ≡ part_at types starts slot
      unfolding part_at
      part_in h = rw (← p, ← q, lt-ltb slot past_slots lt, le-leb s e le, le-leb e (length types) h)

-- COMPARING

both_is : (a b : List ℕ) {c : Bool} → (c ≡ true → a ≡ b) → (a ≡ b → c ≡ true) → c ≡ same_bytes a b
both_is a b {c} f g = go (either (same_bytes a b)) c f g
  where
    either : (x : Bool) → (x ≡ true) ⊎ (x ≡ false)
    either true = inl refl
    either false = inr refl

    go : (same_bytes a b ≡ true) ⊎ (same_bytes a b ≡ false) → (c : Bool) → (c ≡ true → a ≡ b) → (a ≡ b → c ≡ true) → c ≡ same_bytes a b
    go (inl t) c f g = g (same_bytes_lem a b t) ∙ sym t
    go (inr e) true f g = let q : same_bytes a b ≡ true = rw (f refl) (same_refl b) in apart (cc)
    go (inr e) false f g = sym e

none_first : (l : List ℕ) → length l ≡ 0 → 0 ≡ get_or l 0 0
none_first [] h = refl
none_first (x ∷ l) h = absurd (omega arith)

front : (l m : List ℕ) (b : ℕ) → 0 < length l → get_or l 0 0 ≡ b → same_bytes (drop 1 l) m ≡ same_bytes l (b ∷ m)
unfolding same_bytes both
front [] m b s h = absurd (omega arith)
front (x ∷ l) m b s h = rw (eq-eqb x b h)

begins : (l : List ℕ) (b n : ℕ) → n < length l → get_or l 0 0 ≡ b → l ≡ b ∷ (take n (drop 1 l) ++ drop (1 + n) l)
begins [] b n h e = absurd (omega arith)
begins (x ∷ l) b n h e = let z : 1 + n ≡ suc n = omega arith in rw (z, take-append-drop n l) (ap (λ y. y ∷ l) e)

-- the list l, as it was handed out
module _ {l L : List ℕ} (e : l ≡ L) where
  pub first_none : length l ≡ 0 → 0 ≡ get_or L 0 0
  first_none h = rw (← e) (none_first l h)

  pub same_none : (m : List ℕ) (b : ℕ) → length l ≡ 0 → false ≡ same_bytes L (b ∷ m)
  same_none m b h = both_is L (b ∷ m) (λ q. apart (cc)) λ q. absurd (omega (arith, ap length e, ap length q))

  pub same_other : (m : List ℕ) (b : ℕ) → (get_or l 0 0 ≡ b → ⊥) → false ≡ same_bytes L (b ∷ m)
  same_other m b h = both_is L (b ∷ m) (λ q. apart (cc)) λ q. absurd (h (rw e (rw q)))

  pub same_front : {m M : List ℕ} (b : ℕ) → m ≡ M → 0 < length l → get_or l 0 0 ≡ b → same_bytes (take (length l - 1) (drop 1 l)) m ≡ same_bytes L (b ∷ M)
  same_front {m} b d s h = rw (← e, ← d, take_rest l 1) (front l m b s h)

  module _ {a A : List ℕ} (d : a ≡ A) (b : ℕ) where
    pub same_short : (M : List ℕ) → length l ≤ length a → false ≡ same_bytes L (b ∷ (A ++ M))
    same_short M h = both_is L (b ∷ (A ++ M)) (λ q. apart (cc)) λ q. absurd (omega (arith, ap length e, ap length d, ap length q, length-append A M))

    module _ (h : length a < length l) (f : get_or l 0 0 ≡ b) where
      pub same_not_first : (M : List ℕ) → same_bytes (take (1 + length a - 1) (drop 1 l)) a ≡ false → false ≡ same_bytes L (b ∷ (A ++ M))
      same_not_first M q = both_is L (b ∷ (A ++ M)) (λ q. apart (cc)) λ y.
          let z : 1 + length a - 1 ≡ length a = omega arith in let t : l ≡ b ∷ (a ++ M) = e ∙ y ∙ ap (λ x. b ∷ (x ++ M)) (sym d) in
          let w : same_bytes a a ≡ false = rw (z, t, take_at a M (length a) refl) at q in let x = same_refl a in apart (cc)

      pub same_two : {m M : List ℕ} → m ≡ M → same_bytes (take (1 + length a - 1) (drop 1 l)) a ≡ true
          → same_bytes (take (length l - (1 + length a)) (drop (1 + length a) l)) m ≡ same_bytes L (b ∷ (A ++ M))
      same_two {m} g q =
          let z : 1 + length a - 1 ≡ length a = omega arith in let z' : 1 + length a ≡ suc (length a) = omega arith in
          let p : take (length a) (drop 1 l) ≡ a = rw z at (same_bytes_lem _ _ q) in
          rw (← e, ← d, ← g, take_rest l (1 + length a)) (both_is l (b ∷ (a ++ m))
          (λ y. let x : drop (1 + length a) l ≡ m = same_bytes_lem _ _ y in rw (p, x) at (begins l b (length a) h f))
          (λ y. let x : drop (1 + length a) l ≡ m = rw (y, z', drop_at a m (length a) refl) in rw x (same_refl m)))

-- THE PARTS OF A TYPE

pub type_some : (t : Ty) → 0 < length (bytes_of t)
unfolding bytes_of
type_some truths = omega arith
type_some numbers = omega arith
type_some (lists t) = omega arith
type_some (pairs a b) = omega arith

pub type_long : (t : Ty) (bs : List ℕ) → Short t → type_len (bytes_of t ++ bs) ≡ Some (length (bytes_of t))
unfolding type_len up_to behind and_then also
type_long t bs h =
    let q : longest_type ≡ length (bytes_of t) + (longest_type - length (bytes_of t)) = omega arith in
    let z : length (bytes_of t) + length bs - length bs ≡ length (bytes_of t) = omega arith in
    rw (
      one_back t bs (longest_type - length (bytes_of t)) longest_type 0 q,
      none_owed bs (longest_type - length (bytes_of t)),
      length-append (bytes_of t) bs,
      z,
    )

pub len_inside : (s : List ℕ) {n : ℕ} → type_len s ≡ Some n → n ≤ length s
unfolding type_len up_to
len_inside s {n} e = go (behind (read_types s longest_type 1)) e
  where
    go : (o : Option ℕ) → up_to (length s) o ≡ Some n → n ≤ length s
    go none e = apart (cc)
    go (some m) e = let q : length s - m ≡ n = cc in omega arith

-- where the first of two parts ends
pub middle_inside : (l : List ℕ) {n : ℕ} → n ≡ unwrap_or (type_len (take (length l - 1) (drop 1 l))) 0 → 0 < length l → n + 1 ≤ length l
middle_inside l {n} e h = go (type_len (take (length l - 1) (drop 1 l))) refl e
  where
    go : (o : Code.Option ℕ) → type_len (take (length l - 1) (drop 1 l)) ≡ o → n ≡ unwrap_or o 0 → n + 1 ≤ length l
    go None f e = omega (arith, e, h)
    go (Some m) f e = omega (arith, e, len_inside (drop 1 l) (rw (take_rest l 1) at f), length-drop 1 l)

-- the parts of the type u
module _ (l : List ℕ) (u a b : Ty) (e : l ≡ bytes_of u) (d : added u ≡ two a b) where
  pub parts_kind : kind_named (get_or l 0 0) ≡ None → ⊥
  unfolding bytes_of kind_told kind_of
  parts_kind n = go u (rw e at n)
    where
      go : (u : Ty) → kind_named (get_or (bytes_of u) 0 0) ≡ None → ⊥
      go truths n = cc
      go numbers n = cc
      go (lists t) n = cc
      go (pairs p q) n = cc

  pub list_parts : (kind_named (get_or l 0 0) ≡ Some Pairs → ⊥) → (take (length l - 1) (drop 1 l) ≡ bytes_of a) × (l ≡ bytes_of b)
  unfolding bytes_of kind_told kind_of
  list_parts n = rw (take_rest l 1) (rw e (go u (rw e at n) d))
    where
      go : (u : Ty) → (kind_named (get_or (bytes_of u) 0 0) ≡ Some Pairs → ⊥) → added u ≡ two a b
          → (drop 1 (bytes_of u) ≡ bytes_of a) × (bytes_of u ≡ bytes_of b)
      go truths n d = apart (cc)
      go numbers n d = apart (cc)
      go (lists t) n d = let p : t ≡ a = cc in let q : lists t ≡ b = cc in (ap bytes_of p, ap bytes_of q)
      go (pairs p q) n d = absurd (n refl)

  module _ (s : Short u) (k : kind_named (get_or l 0 0) ≡ Some Pairs) where
    parts : (p : Ty) × ((q : Ty) × ((drop 1 l ≡ bytes_of p ++ bytes_of q) × ((Short p) × ((p ≡ a) × (q ≡ b)))))
    unfolding bytes_of kind_told kind_of
    parts = rw e (go u s (rw e at k) d)
      where
        go : (u : Ty) → Short u → kind_named (get_or (bytes_of u) 0 0) ≡ Some Pairs → added u ≡ two a b
            → (p : Ty) × ((q : Ty) × ((drop 1 (bytes_of u) ≡ bytes_of p ++ bytes_of q) × ((Short p) × ((p ≡ a) × (q ≡ b)))))
        go truths s k d = apart (cc)
        go numbers s k d = apart (cc)
        go (lists t) s k d = apart (cc)
        go (pairs p q) s k d = (p, (q, (refl, (omega (arith, length-append (bytes_of p) (bytes_of q)), (cc, cc)))))

    first_long : type_len (take (length l - 1) (drop 1 l)) ≡ Some (length (bytes_of a))
    first_long = let (p, (q, (w, (h, (f, g))))) = parts in
        ap type_len (take_rest l 1 ∙ w) ∙ type_long p (bytes_of q) h ∙ ap (λ (t : Ty). Some (length (bytes_of t))) f

    pub pair_none : type_len (take (length l - 1) (drop 1 l)) ≡ None → ⊥
    pair_none n = let f = first_long in cc

    pub pair_parts : {n : ℕ} → type_len (take (length l - 1) (drop 1 l)) ≡ Some n
        → (take n (take (length l - 1) (drop 1 l)) ≡ bytes_of a) × (drop n (take (length l - 1) (drop 1 l)) ≡ bytes_of b)
    pair_parts {n} z =
        let (p, (q, (w, (h, (f, g))))) = parts in
        let x : Some n ≡ Some (length (bytes_of a)) = sym z ∙ first_long in
        let y : n ≡ length (bytes_of a) = cc in
        let m : length (bytes_of p) ≡ n = ap (λ (t : Ty). length (bytes_of t)) f ∙ sym y in
        rw (take_rest l 1, w) (take_at (bytes_of p) (bytes_of q) n m ∙ ap bytes_of f, drop_at (bytes_of p) (bytes_of q) n m ∙ ap bytes_of g)
