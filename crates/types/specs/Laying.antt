-- Laws of reading types into their slots, one slot after another.
use Rattle.std.specs.Prelude.{◌≡◌, refl, Bool, true, false, cond, List, [], ◌∷◌, ◌++◌, ℕ, suc, ◌+◌, ◌*◌, ◌-◌, ◌≤◌, ◌<◌, eqb, length, get_or}
use Rattle.std.specs.Prelude.{take, drop, set, replicate}
use Rattle.std.proofs.Common.{sym, ◌∙◌, append_assoc, append-nil, add-zero, take_at, drop_at, drop-drop, get_or-set_same, get_or-append-add}
use Rattle.std.proofs.Common.{eq-eqb, ne_eqb, length-append, length-drop, length-set, drop_of_length-le}
use Rattle.std.proofs.Math.Path.{ap}
use Rattle.std.specs.Prelude.{None, Some}
use Rattle.std.specs.Bool.{then_some}
use Rattle.std.proofs.Math.Option.{Option, none, some}
use native.Mathlib.Omega.{arith}
use Rattle.std.proofs.Math.Decide.{ℕ_discrete}
use Rattle.std.proofs.Math.Seq.{get_or-set_other}
use Rattle.std.proofs.Math.ListN.{get_or-append}
use Rattle.node.specs.Places.{take_rest, rest_begins}
use Rattle.typing.specs.Numbers.{longest_type, past_slots}
use Rattle.typing.specs.Types.{Ty, truths}
use Rattle.typing.specs.Check.{apart, and_then, read_types, on_type, read_all}
use Rattle.typing.specs.Written.{bytes_of, flat, Short, Taken, nothing, taken}
use Rattle.typing.proofs.Written.{takes}
use Rattle.types.specs.Slots.{behind, up_to, type_len, part_at, At, Slotted, TypesRead, not_read, is_read}
use Rattle.types.specs.SlotsLaws.{part_in}

-- THE NEXT TYPE

-- the bytes begin with the type t, of n bytes
pub record Begins (bs : List ℕ) (n : ℕ) (t : Ty) : Type 0 where
  pub short : Short t
  pub is : bs ≡ bytes_of t ++ drop n bs
  pub long : length (bytes_of t) ≡ n
  pub more : (k : ℕ) → read_all (suc k) bs ≡ and_then (read_all k (drop n bs)) (λ ts. some (t ∷ ts))

next_type : {bs : List ℕ} {n : ℕ} {o : Option (List Ty × List ℕ)} → read_types bs longest_type 1 ≡ o → Taken bs longest_type 1 o
    → up_to (length bs) (behind o) ≡ Some n → (t : Ty) × Begins bs n t
unfolding up_to behind flat read_all on_type
next_type q nothing h = apart (cc)
next_type q (taken {ts = []} e l f) h = absurd (omega arith)
next_type {bs} {n} q (taken {ts = t ∷ []} {more} e l f) h =
    let z : bytes_of t ++ [] ≡ bytes_of t = append-nil (bytes_of t) in
    let d : bs ≡ bytes_of t ++ more = rw z at e in
    let k : length bs - length more ≡ n = cc in
    let g : length (bytes_of t) ≡ n = omega (arith, length-append (bytes_of t) more, ap length d) in
    let m : drop n bs ≡ more = ap (drop n) d ∙ drop_at (bytes_of t) more n g in
    (t, record { short = rw z at f; is = rw m d; long = g; more = λ k. rw (q, m) })
next_type q (taken {ts = t ∷ u ∷ ts} e l f) h = absurd (omega arith)

pub type_there : (bs : List ℕ) {n : ℕ} → type_len bs ≡ Some n → (t : Ty) × Begins bs n t
unfolding type_len
type_there bs h = next_type refl (takes bs longest_type 1) h

no_type : (bs : List ℕ) (k : ℕ) {o : Option (List Ty × List ℕ)} → read_types bs longest_type 1 ≡ o → up_to (length bs) (behind o) ≡ None
    → read_all (suc k) bs ≡ none
unfolding up_to behind read_all on_type
no_type bs k {o = none} q h = rw q
no_type bs k {o = some (ts, more)} q h = apart (cc)

pub type_none : (bs : List ℕ) (k : ℕ) → type_len bs ≡ None → read_all (suc k) bs ≡ none
unfolding type_len
type_none bs k h = no_type bs k refl h

-- SLOT AFTER SLOT

then_none : {A : Type 0} (o : Option (List A)) → and_then o (λ ts. some ([] ++ ts)) ≡ o
unfolding and_then
then_none none = refl
then_none (some l) = refl

then_one : {A : Type 0} (o : Option (List A)) (xs : List A) (x : A)
    → and_then (and_then o (λ ts. some (x ∷ ts))) (λ ts. some (xs ++ ts)) ≡ and_then o (λ ts. some ((xs ++ (x ∷ [])) ++ ts))
unfolding and_then
then_one none xs x = refl
then_one (some l) xs x = ap some (sym (append_assoc xs (x ∷ []) l))

-- the slots below `slot` are read, up to byte `at`
pub record Reading (types : List ℕ) (f : ℕ → ℕ) (starts : List ℕ) (at slot : ℕ) : Type 0 where
  pub done : List Ty
  pub few : at ≤ 256 * slot
  pub inside : at ≤ length types
  pub far : slot ≤ past_slots
  pub long : length starts ≡ 242
  pub here : get_or starts slot 0 ≡ at
  pub many : length done ≡ f slot
  pub rest : read_all (f past_slots) types ≡ and_then (read_all (f past_slots - f slot) (drop at types)) (λ ts. some (done ++ ts))
  pub slots : (i : ℕ) → i < slot → f (i + 1) ≡ suc (f i) → At types starts i (get_or done (f i) truths)

module _ (types : List ℕ) (f : ℕ → ℕ) (up : (i j : ℕ) → i ≤ j → f i ≤ f j) where
  pub reading_none : f 0 ≡ 0 → Reading types f (replicate 242 0) 0 0
  reading_none z =
      let q : f past_slots - f 0 ≡ f past_slots = omega arith in
      record {
        done = [];
        few = omega arith;
        inside = omega arith;
        far = omega arith;
        long = refl;
        here = refl;
        many = sym z;
        rest = rw q (sym (then_none (read_all (f past_slots) types)));
        slots = λ i h. absurd (omega arith);
      }

  module _ {starts : List ℕ} {at slot : ℕ} (r : Reading types f starts at slot) where
    left : slot < past_slots → f (slot + 1) ≡ suc (f slot) → f past_slots - f slot ≡ suc (f past_slots - f (slot + 1))
    left h e = omega (arith, up (slot + 1) past_slots (omega arith))

    pub reading_failed : slot < past_slots → f (slot + 1) ≡ suc (f slot) → type_len (drop at types) ≡ None → read_all (f past_slots) types ≡ none
    unfolding and_then
    reading_failed h e z = r.rest ∙ rw (left h e, type_none (drop at types) (f past_slots - f (slot + 1)) z)

    -- a start that is set later
    module _ (v : ℕ) where
      before : (i : ℕ) → i < slot → (t : Ty) → At types starts i t → At types (set starts (slot + 1) v) i t
      unfolding part_at
      before i h t a = record {
        is = rw (get_or-set_other starts (slot + 1) i v 0 (omega arith), get_or-set_other starts (slot + 1) (i + 1) v 0 (omega arith)) a.is;
        short = a.short;
      }

      here_set : get_or (set starts (slot + 1) v) slot 0 ≡ at
      here_set = get_or-set_other starts (slot + 1) slot v 0 (omega arith) ∙ r.here

      next_set : slot < past_slots → get_or (set starts (slot + 1) v) (slot + 1) 0 ≡ v
      next_set h = get_or-set_same starts (slot + 1) v 0 (omega (arith, r.long))

    skip : slot < past_slots → f (slot + 1) ≡ f slot → Reading types f (set starts (slot + 1) at) at (slot + 1)
    skip h e = record {
      done = r.done;
      few = omega (arith, r.few);
      inside = r.inside;
      far = omega arith;
      long = length-set starts (slot + 1) at ∙ r.long;
      here = next_set at h;
      many = r.many ∙ sym e;
      rest = rw e r.rest;
      slots = λ i l q. go i l q (ℕ_discrete i slot);
    }
      where
        go : (i : ℕ) → i < slot + 1 → f (i + 1) ≡ suc (f i) → Dec (i ≡ slot) → At types (set starts (slot + 1) at) i (get_or r.done (f i) truths)
        go i l q (yes d) = let z : f (slot + 1) ≡ suc (f slot) = rw d at q in absurd (omega arith)
        go i l q (no d) = before at i (omega arith) _ (r.slots i (omega arith) q)

    module _ {n : ℕ} {t : Ty} (b : Begins (drop at types) n t) where
      ends : at + n ≤ length types
      ends = omega (arith, ap length b.is, length-append (bytes_of t) (drop n (drop at types)), length-drop at types, b.long, r.inside)

      one : slot < past_slots → f (slot + 1) ≡ suc (f slot) → Reading types f (set starts (slot + 1) (at + n)) (at + n) (slot + 1)
      one h e = record {
        done = r.done ++ (t ∷ []);
        few = omega (arith, r.few, b.long, b.short);
        inside = ends;
        far = omega arith;
        long = length-set starts (slot + 1) (at + n) ∙ r.long;
        here = next_set (at + n) h;
        many = omega (arith, length-append r.done (t ∷ []), r.many, e);
        rest = r.rest ∙ rw (left h e, b.more (f past_slots - f (slot + 1)), drop-drop n at types)
            (then_one (read_all (f past_slots - f (slot + 1)) (drop (at + n) types)) r.done t);
        slots = λ i l q. go i l q (ℕ_discrete i slot);
      }
        where
          last : At types (set starts (slot + 1) (at + n)) slot t
          last = record {
            is = sym (part_in types (set starts (slot + 1) (at + n)) slot h (sym (here_set (at + n))) (sym (next_set (at + n) h)) (omega arith) ends)
                ∙ (let z : at + n - at ≡ n = omega arith in rw z (ap (take n) b.is ∙ take_at (bytes_of t) (drop n (drop at types)) n b.long));
            short = b.short;
          }

          go : (i : ℕ) → i < slot + 1 → f (i + 1) ≡ suc (f i) → Dec (i ≡ slot)
              → At types (set starts (slot + 1) (at + n)) i (get_or (r.done ++ (t ∷ [])) (f i) truths)
          go i l q (yes d) =
              let w : f i ≡ length r.done + 0 = ap f d ∙ sym r.many ∙ sym (add-zero (length r.done)) in
              rw (w, get_or-append-add r.done (t ∷ []) 0 truths, d) last
          go i l q (no d) =
              let w : f i < length r.done = omega (arith, r.many, q, up (i + 1) slot (omega arith)) in
              rw (get_or-append r.done (t ∷ []) truths (f i) w) (before (at + n) i (omega arith) _ (r.slots i (omega arith) q))

    -- the next slot, as the code takes it
    module _ (h : slot < past_slots) where
      pub reading_skip : {b : Bool} → b ≡ false → f (slot + 1) ≡ cond b 1 0 + f slot → Reading types f (set starts (slot + 1) at) at (slot + 1)
      reading_skip z e = skip h (omega (arith, rw z at e))

      module _ {b : Bool} (z : b ≡ true) (e : f (slot + 1) ≡ cond b 1 0 + f slot) where
        pub reading_next : {n : ℕ} → type_len (take (length types - at) (drop at types)) ≡ Some n
            → Reading types f (set starts (slot + 1) (at + n)) (at + n) (slot + 1)
        reading_next q = let d = type_there (drop at types) (rw (take_rest types at) at q) in one d.1 h (omega (arith, rw z at e))

        pub reading_ends : type_len (take (length types - at) (drop at types)) ≡ None → TypesRead types f None
        reading_ends q = not_read (reading_failed h (omega (arith, rw z at e)) (rw (take_rest types at) at q))

    -- the last
    pub reading-done : past_slots ≤ slot → TypesRead types f (then_some (eqb at (length types)) starts)
    unfolding and_then read_all
    reading-done h = go (ℕ_discrete at (length types))
      where
        z : f past_slots - f slot ≡ 0
        z = let y : slot ≡ past_slots = omega (arith, r.far) in let x = ap f y in omega arith

        go : Dec (at ≡ length types) → TypesRead types f (then_some (eqb at (length types)) starts)
        go (yes e) =
            let le : length types ≤ at = omega arith in
            let read : read_all (f past_slots) types ≡ some r.done = r.rest ∙ rw (z, drop_of_length-le types le) (ap some (append-nil r.done)) in
            rw (eq-eqb at (length types) e) (is_read r.done (record { read = read; at = λ i l q. r.slots i (omega arith) q }))
        go (no e) = rw (ne_eqb at (length types) e) (not_read (r.rest ∙ rw (z, rest_begins types at (omega (arith, r.inside, e)))))

-- what was read
pub types_of : {types starts : List ℕ} {f : ℕ → ℕ} → TypesRead types f (Some starts) → (ts : List Ty) × Slotted types starts f ts
types_of (is_read ts s) = (ts, s)

pub no_types : {types : List ℕ} {f : ℕ → ℕ} → TypesRead types f None → read_all (f past_slots) types ≡ none
no_types (not_read e) = e
