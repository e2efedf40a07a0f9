-- Laws of a put's bits on the bytes of plans: a variable whose bit is clear has its old bytes, and a screen that is drawn anew where a bit is set
-- shows the new plan, behind one put and behind two in a row (document 02, request 8).
use Rattle.std.specs.Prelude.{◌≡◌, refl, Bool, true, false, cond, ◌||◌, List, ℕ, ◌<◌, length, get_or}
use Rattle.std.proofs.Common.{sym, ap, ◌∙◌, arith}
use Rattle.std.proofs.Math.Decide.{dec_lt}
use Rattle.value.specs.Result.{Result, ok}
use Rattle.value.specs.Value.{Value, vfalse, encode}
use Rattle.value.specs.Reading.{read_plan}
use Rattle.value.proofs.Laws.{read_values_sound}
use Rattle.sheet.specs.Sheet.{Sheet, read_sheet}
use Rattle.starts.specs.declared.Place.{Place}
use Rattle.starts.specs.Starts.{load_of, starts_in, find_of, part_of}
use Rattle.starts.proofs.StartsLaws.{loaded_part, loaded_none}
use Rattle.rules.specs.Answer.{success, put_answer}
use Rattle.rules.proofs.Laws.Answers.{put_shows}
use Rattle.rules.proofs.Laws.Trips.{put_writes}
use Rattle.rules.specs.Bits.{bit, put_written}
use Rattle.rules.proofs.Bits.Laws.{clear_kept}

-- the bytes of variable i of a plan, by the starts that loading the plan gives; none where it has no such variable
abbrev pub bytes_at : (sheet plan : List ℕ) (i : ℕ) → List ℕ
bytes_at sheet plan i = part_of (find_of (starts_in (load_of sheet plan)) (length plan) i) plan

-- what a screen shows for variable i: drawn anew where the bit is set, and else as it was
unfoldable pub redrawn : (bits : ℕ) (old new : ℕ → List ℕ) → ℕ → List ℕ
redrawn bits old new i = cond (bit i bits) (new i) (old i)

-- u has the bits that a or b has, as `a | b` of C and Rust
abbrev pub Union : (u a b : ℕ) → Type 0
Union u a b = (i : ℕ) → bit i u ≡ bit i a || bit i b

-- two plans of one sheet with the same value at i have the same bytes there
same_bytes_lem : (sheet plan new : List ℕ) (i : ℕ) {sh : Sheet} {μ ν : List Value} → read_sheet sheet ≡ ok sh → read_plan sh.k plan ≡ ok μ
    → read_plan sh.k new ≡ ok ν → get_or ν i vfalse ≡ get_or μ i vfalse → bytes_at sheet new i ≡ bytes_at sheet plan i
unfolding part_of
same_bytes_lem sheet plan new i {sh} {μ} {ν} s p q e = go (dec_lt i sh.k)
  where
    old : length μ ≡ sh.k
    old = (read_values_sound 20 sh.k plan p).count

    now : length ν ≡ sh.k
    now = (read_values_sound 20 sh.k new q).count

    go : Dec (i < sh.k) → bytes_at sheet new i ≡ bytes_at sheet plan i
    go (yes h) = loaded_part sheet new s q i (omega (arith, now)) ∙ ap encode e ∙ sym (loaded_part sheet plan s p i (omega (arith, old)))
    go (no h) =
        ap (λ (f : Result Place). part_of f new) (loaded_none sheet new s q i (omega (arith, now)))
        ∙ sym (ap (λ (f : Result Place). part_of f plan) (loaded_none sheet plan s p i (omega (arith, old))))

-- what is drawn where a bit is set, and shown as it was elsewhere, is right where a clear bit leaves it be
drawn : (bits : ℕ) (old new : ℕ → List ℕ) (i : ℕ) → (bit i bits ≡ false → new i ≡ old i) → redrawn bits old new i ≡ new i
unfolding redrawn
drawn bits old new i h = go (bit i bits) h
  where
    go : (b : Bool) → (b ≡ false → new i ≡ old i) → cond b (new i) (old i) ≡ new i
    go true h = refl
    go false h = sym (h refl)

neither : (a b : Bool) → (a || b) ≡ false → (a ≡ false) × (b ≡ false)
neither true b e = let z : ◌≡◌ {A = ℕ} 0 1 = cc in absurd (omega arith)
neither false b e = (refl, e)

-- ONE PUT
module _ (sheet plan view : List ℕ) (allowance output scratch : ℕ) {new : List ℕ} {n : ℕ}
    (e : put_answer sheet plan view allowance output scratch ≡ success new n) (i : ℕ) where
  -- a variable whose bit is clear has its old bytes
  pub clear_bytes : bit i (put_written sheet plan view allowance) ≡ false → bytes_at sheet new i ≡ bytes_at sheet plan i
  clear_bytes h =
      let p = (put_shows e).1 in
      let q = (put_writes p).new_read in
      same_bytes_lem sheet plan new i p.sheet_read p.plan_read q
      (clear_kept sheet plan view allowance output scratch e p.sheet_read i p.plan_read q h)

  -- a screen that is drawn anew where a bit is set shows the new plan
  pub redrawn_once : redrawn (put_written sheet plan view allowance) (bytes_at sheet plan) (bytes_at sheet new) i ≡ bytes_at sheet new i
  redrawn_once = drawn (put_written sheet plan view allowance) (bytes_at sheet plan) (bytes_at sheet new) i clear_bytes

-- TWO PUTS IN A ROW, the second into the new plan of the first: the union of their bits
module _ (sheet plan view view₂ : List ℕ) (allowance output scratch allowance₂ output₂ scratch₂ : ℕ) {new newest : List ℕ} {n m : ℕ}
    (e : put_answer sheet plan view allowance output scratch ≡ success new n)
    (f : put_answer sheet new view₂ allowance₂ output₂ scratch₂ ≡ success newest m)
    (u : ℕ) (w : Union u (put_written sheet plan view allowance) (put_written sheet new view₂ allowance₂)) (i : ℕ) where
  -- a variable whose bit is clear in both has the bytes that it had before the first
  pub union_bytes : bit i u ≡ false → bytes_at sheet newest i ≡ bytes_at sheet plan i
  union_bytes h =
      let (a, b) = neither _ _ (sym (w i) ∙ h) in
      clear_bytes sheet new view₂ allowance₂ output₂ scratch₂ f i b ∙ clear_bytes sheet plan view allowance output scratch e i a

  -- a screen of the first plan that is drawn anew once, where either put has set a bit, shows the last plan
  pub redrawn_union : redrawn u (bytes_at sheet plan) (bytes_at sheet newest) i ≡ bytes_at sheet newest i
  redrawn_union = drawn u (bytes_at sheet plan) (bytes_at sheet newest) i union_bytes
