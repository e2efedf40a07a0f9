-- Refusals whose numbers are bytes.
use Rattle.std.specs.Prelude.{◌≡◌, refl, Bool, true, false, List, [], ◌∷◌, ℕ, zero, suc, ◌+◌, ◌<◌}
use Rattle.std.proofs.Common.{arith}
use Rattle.value.specs.Result.{Result, ok, refusal, and_then, map_result, unless}
use Rattle.value.specs.Value.{Value}
use Rattle.value.specs.Reading.{Found, whole, malformed, too_long, nothing, a_value, value, read_value, on_value, read_values, read_plan, read_view}
use Rattle.sheet.specs.Sheet.{read_sheet}
use Rattle.letters.specs.LoadLaws.{sheet_small}

pub data Small {A : Type 0} : Result A → Type 0 where
  done : {a : A} → Small (ok a)
  no : {c : ℕ} → c < 256 → Small (refusal c)

pub small_number : {A : Type 0} {r : Result A} → Small r → (c : ℕ) → r ≡ refusal c → c < 256
small_number done c e = let z : ◌≡◌ {A = ℕ} 0 1 = cc in absurd (omega arith)
small_number (no {c = d} h) c e = let z : d ≡ c = cc in omega arith

pub small_unless : {A : Type 0} {r : Result A} (c : ℕ) (p : Bool) → c < 256 → Small r → Small (unless c p r)
unfolding unless
small_unless c true h s = s
small_unless c false h s = no h

pub small_then : {A B : Type 0} {r : Result A} {f : A → Result B} → Small r → ((a : A) → Small (f a)) → Small (and_then r f)
unfolding and_then
small_then done f = f _
small_then (no h) f = no h

pub small_map : {A B : Type 0} {r : Result A} (f : A → B) → Small r → Small (map_result f r)
unfolding map_result
small_map f done = done
small_map f (no h) = no h

pub small_of : {A : Type 0} (r : Result A) → ((c : ℕ) → r ≡ refusal c → c < 256) → Small r
small_of (ok a) h = done
small_of (refusal c) h = no (h c refl)

-- a sheet's own
pub small_sheet : (s : List ℕ) → Small (read_sheet s)
small_sheet s = small_of (read_sheet s) (λ c e. sheet_small s e)

-- those of values, whose numbers begin at c
small_value : {A : Type 0} (c : ℕ) → c + 2 < 256 → (v : Found (value ∷ [])) (f : Value → List ℕ → Result A)
    → ((w : Value) (bs : List ℕ) → Small (f w bs)) → Small (on_value c v f)
unfolding on_value
small_value c h (whole (a_value v nothing) bs) f k = k v bs
small_value c h malformed f k = no {c = c} (omega arith)
small_value c h too_long f k = no {c = c + 1} (omega arith)

small_values : (c : ℕ) → c + 2 < 256 → (k : ℕ) (bs : List ℕ) → Small (read_values c k bs)
unfolding read_values
small_values c h zero [] = done
small_values c h zero (b ∷ bs) = no {c = c + 2} h
small_values c h (suc k) [] = no {c = c + 2} h
small_values c h (suc k) (b ∷ bs) = small_value c h (read_value (b ∷ bs)) _ λ v more. small_map _ (small_values c h k more)

-- a view's own
pub small_view : (bs : List ℕ) → Small (read_view bs)
small_view bs = small_values 30 (omega arith) 1 bs

-- a plan's own
pub small_plan : (k : ℕ) (bs : List ℕ) → Small (read_plan k bs)
small_plan k bs = small_values 20 (omega arith) k bs
