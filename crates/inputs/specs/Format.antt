-- A job, as the program reads it: 47 (get) or 50 (put), allowance in three bytes, sheet length in two, sheet, plan length in two, plan,
-- then for put the view to the end, for get nothing.
use Rattle.std.specs.Prelude.{Bool, true, false, cond, Option, Some, None, List, ◌≡◌, refl, ℕ, ◌+◌, ◌-◌, ◌*◌, ◌≤◌, ◌<◌, leb, eqb, length, get_or, take, drop}
use Rattle.std.proofs.Math.Path.{sym}
use Rattle.std.proofs.Common.{◌∙◌, zero-le, arith, length-drop, take_all, drop-drop}
use Rattle.std.proofs.Math.ListN.{get_or-eq_default}
use borrow.Author.Tests.{le-leb, lt-leb, eq-eqb, ne_eqb, leb-true}
use Rattle.inputs.specs.declared.fields.Fields.{Fields}
use Rattle.inputs.specs.declared.Job.{Job}
use Rattle.inputs.specs.declared.Job.TheVariants.{Get, Put}

-- the number of two bytes at a place, high byte first
abbrev pub two : List ℕ → ℕ → ℕ
two bs i = 256 * get_or bs i 0 + get_or bs (i + 1) 0

-- n bytes from place i on
abbrev pub part : List ℕ → ℕ → ℕ → List ℕ
part bs i n = take n (drop i bs)

abbrev pub allowance : List ℕ → ℕ
allowance bs = 65536 * get_or bs 1 0 + two bs 2

-- what stands behind the letter: the allowance, and the lengths of the sheet and of the plan
unfoldable pub fields_of : List ℕ → Option Fields
fields_of bs =
    let n = two bs 4 in
    let m = two bs (6 + n) in
    cond (leb (8 + n) (length bs)) (cond (leb (8 + n + m) (length bs)) (Some (record { allowance = allowance bs; sheet = n; plan = m })) None) None

-- the sheet, the plan behind it, and the view behind the plan
abbrev pub sheet_of : List ℕ → Fields → List ℕ
sheet_of bs f = part bs 6 f.sheet

abbrev pub plan_of : List ℕ → Fields → List ℕ
plan_of bs f = part bs (8 + f.sheet) f.plan

abbrev pub view_of : List ℕ → Fields → List ℕ
view_of bs f = drop (8 + f.sheet + f.plan) bs

-- the number of each case in document 01: the byte that a job begins with, and the refusal of what is none
abbrev pub job_number : Option Job → ℕ
job_number (Some (Get f)) = 0x47
job_number (Some (Put f)) = 0x50
job_number None = 60

-- the letter says which it is, of these fields; a get has nothing behind its plan
unfoldable pub job_by : List ℕ → Option Fields → Option Job
job_by bs None = None
job_by bs (Some f) =
    cond (eqb (get_or bs 0 0) (job_number (Some (Get f))))
    (cond (eqb (length bs) (8 + f.sheet + f.plan)) (Some (Get f)) None)
    (cond (eqb (get_or bs 0 0) (job_number (Some (Put f)))) (Some (Put f)) None)

unfoldable pub job_of : List ℕ → Option Job
job_of bs = job_by bs (fields_of bs)

-- NUMBERS AND PARTS

pub two_none : (bs : List ℕ) (i : ℕ) → length bs ≤ i → 0 ≡ two bs i
two_none bs i h = sym (rw (get_or-eq_default bs 0 h, get_or-eq_default bs 0 {n = i + 1} (omega arith)))

-- from a place up to the end
pub to_end : (bs : List ℕ) (i : ℕ) → part bs i (length bs - i) ≡ drop i bs
to_end bs i = take_all (length bs - i) (drop i bs) (omega (arith, length-drop i bs))

-- a place behind another
pub part_behind : (bs : List ℕ) (i j n : ℕ) → part (drop i bs) j n ≡ part bs (i + j) n
part_behind bs i j n = rw (drop-drop j i bs)

-- WHAT SHOWS EACH CASE

module _ (bs : List ℕ) where
  pub fields_cut : {n : ℕ} → n ≡ two bs 4 → length bs < 8 + n → None ≡ fields_of bs
  unfolding fields_of
  fields_cut {n} e h = sym (rw (← e, lt-leb (8 + n) (length bs) h))

  module _ {n m : ℕ} (en : n ≡ two bs 4) (hn : 8 + n ≤ length bs) (em : m ≡ two bs (6 + n)) where
    pub fields_cut_plan : length bs < 8 + n + m → None ≡ fields_of bs
    unfolding fields_of
    fields_cut_plan h = sym (rw (← en, le-leb (8 + n) (length bs) hn, ← em, lt-leb (8 + n + m) (length bs) h))

    pub fields_whole : {a : ℕ} → 8 + n + m ≤ length bs → a ≡ allowance bs → Some (record { allowance = a; sheet = n; plan = m }) ≡ fields_of bs
    unfolding fields_of
    fields_whole h e = sym (rw (← en, le-leb (8 + n) (length bs) hn, ← em, le-leb (8 + n + m) (length bs) h, e))

  module _ {t : Option Fields} (e : t ≡ fields_of bs) where
    pub job_cut : t ≡ None → None ≡ job_of bs
    unfolding job_of job_by
    job_cut q = sym (rw (sym e ∙ q))

    module _ {f : Fields} (q : t ≡ Some f) where
      pub job_get : get_or bs 0 0 ≡ 0x47 → length bs ≡ 8 + f.sheet + f.plan → Some (Get f) ≡ job_of bs
      unfolding job_of job_by
      job_get k l = sym (rw (sym e ∙ q, eq-eqb (get_or bs 0 0) 0x47 k, eq-eqb (length bs) (8 + f.sheet + f.plan) l))

      pub job_more : get_or bs 0 0 ≡ 0x47 → (length bs ≡ 8 + f.sheet + f.plan → ⊥) → None ≡ job_of bs
      unfolding job_of job_by
      job_more k l = sym (rw (sym e ∙ q, eq-eqb (get_or bs 0 0) 0x47 k, ne_eqb (length bs) (8 + f.sheet + f.plan) l))

      pub job_put : (get_or bs 0 0 ≡ 0x47 → ⊥) → get_or bs 0 0 ≡ 0x50 → Some (Put f) ≡ job_of bs
      unfolding job_of job_by
      job_put k p = sym (rw (sym e ∙ q, ne_eqb (get_or bs 0 0) 0x47 k, eq-eqb (get_or bs 0 0) 0x50 p))

      pub job_other : (get_or bs 0 0 ≡ 0x47 → ⊥) → (get_or bs 0 0 ≡ 0x50 → ⊥) → None ≡ job_of bs
      unfolding job_of job_by
      job_other k p = sym (rw (sym e ∙ q, ne_eqb (get_or bs 0 0) 0x47 k, ne_eqb (get_or bs 0 0) 0x50 p))

-- the parts of whole fields lie within the input
unfoldable pub taken : Option Fields → ℕ
taken (Some f) = 8 + f.sheet + f.plan
taken None = 0

fields_inside : (bs : List ℕ) → taken (fields_of bs) ≤ length bs
unfolding fields_of taken
fields_inside bs = let n = two bs 4 in go (leb (8 + n) (length bs)) (leb (8 + n + two bs (6 + n)) (length bs)) refl
  where
    go : (p q : Bool) → leb (8 + two bs 4 + two bs (6 + two bs 4)) (length bs) ≡ q
        → let n = two bs 4 in taken (cond p (cond q (Some (record { allowance = allowance bs; sheet = n; plan = two bs (6 + n) })) None) None) ≤ length bs
    go false q e = zero-le
    go true false e = zero-le
    go true true e = leb-true _ _ e

pub whole_inside : (bs : List ℕ) {t : Option Fields} {f : Fields} → t ≡ fields_of bs → t ≡ Some f → 8 + f.sheet + f.plan ≤ length bs
unfolding taken
whole_inside bs {f = f} e q = rw (sym e ∙ q) at (fields_inside bs)
