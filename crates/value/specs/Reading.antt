-- Reading values from bytes, each byte judged in turn: input ended, 257th byte, kind unknown or rest not a list
-- (document 01, "Where each refusal is met").
use Rattle.std.specs.Prelude.{List, [], ◌∷◌, Bool, true, false, ◌&&◌, ℕ, zero, suc, ◌+◌, ◌*◌, ltb, leb, get_or}
use Rattle.value.specs.Result.{Result, ok, refusal, map_result}
use Rattle.value.specs.Value.{Value, Values, vfalse, vtrue, list, number, wide, pair, nil, cons, least_wide}

-- what is still owed: a value of any kind, a list's rest, or a byte of a number's body. Of such a byte it is known which number there must be
-- at least, how many bytes of it follow, and the number that the bytes before make
pub data Owed : Type 0 where
  value rest : Owed
  byte : ℕ → ℕ → ℕ → Owed

-- what was read for each of them; for a byte of a number's body it and those that follow
pub data Things : List Owed → Type 0 where
  nothing : Things []
  a_value : {os : List Owed} → Value → Things os → Things (value ∷ os)
  a_rest : {os : List Owed} → Values → Things os → Things (rest ∷ os)
  a_body : {os : List Owed} {least follow before : ℕ} → List ℕ → Things os → Things (byte least follow before ∷ os)

-- all of them, with the bytes that stand behind; or why not
pub data Found (os : List Owed) : Type 0 where
  whole : Things os → List ℕ → Found os
  malformed too_long : Found os

unfoldable pub on_whole : {os ps : List Owed} → (Things os → Things ps) → Found os → Found ps
on_whole f (whole t bs) = whole (f t) bs
on_whole f malformed = malformed
on_whole f too_long = too_long

-- the kinds of values
pub data Kind : Type 0 where
  k_false k_true k_empty k_front k_number k_pair k_wide unknown : Kind

unfoldable pub kind_of : ℕ → Kind
kind_of b = get_or (k_false ∷ k_true ∷ k_empty ∷ k_front ∷ k_number ∷ k_pair ∷ k_wide ∷ []) b unknown

-- the parts that follow a kind byte make one thing
unfoldable pub make_front : {os : List Owed} → Things (value ∷ rest ∷ os) → Things (value ∷ os)
make_front (a_value v (a_rest l t)) = a_value (list (cons v l)) t

-- (the number that bytes make, high byte first, behind those that make h)
unfoldable pub joined : ℕ → List ℕ → ℕ
joined h [] = h
joined h (b ∷ bs) = joined (256 * h + b) bs

unfoldable pub make_number : {os : List Owed} → Things (byte 0 1 0 ∷ os) → Things (value ∷ os)
make_number (a_body bs t) = a_value (number (joined 0 bs)) t

unfoldable pub make_wide : {os : List Owed} → Things (byte least_wide 3 0 ∷ os) → Things (value ∷ os)
make_wide (a_body bs t) = a_value (wide (joined 0 bs)) t

unfoldable pub make_body : {os : List Owed} {least follow h : ℕ} (b : ℕ) → Things (byte least follow (256 * h + b) ∷ os)
    → Things (byte least (suc follow) h ∷ os)
make_body b (a_body bs t) = a_body (b ∷ bs) t

unfoldable pub make_pair : {os : List Owed} → Things (value ∷ value ∷ os) → Things (value ∷ os)
make_pair (a_value a (a_value b t)) = a_value (pair a b) t

unfoldable pub make_rest : {os : List Owed} → Things (value ∷ rest ∷ os) → Things (rest ∷ os)
make_rest (a_value v (a_rest l t)) = a_rest (cons v l) t

-- a value, a rest, a byte begins; `next` reads what is then owed
unfoldable pub begin_value : (os : List Owed) → ((ps : List Owed) → Found ps) → Kind → Found (value ∷ os)
begin_value os next k_false = on_whole (a_value vfalse) (next os)
begin_value os next k_true = on_whole (a_value vtrue) (next os)
begin_value os next k_empty = on_whole (a_value (list nil)) (next os)
begin_value os next k_front = on_whole make_front (next (value ∷ rest ∷ os))
begin_value os next k_number = on_whole make_number (next (byte 0 1 0 ∷ os))
begin_value os next k_pair = on_whole make_pair (next (value ∷ value ∷ os))
begin_value os next k_wide = on_whole make_wide (next (byte least_wide 3 0 ∷ os))
begin_value os next unknown = malformed

unfoldable pub begin_rest : (os : List Owed) → ((ps : List Owed) → Found ps) → Kind → Found (rest ∷ os)
begin_rest os next k_false = malformed
begin_rest os next k_true = malformed
begin_rest os next k_empty = on_whole (a_rest nil) (next os)
begin_rest os next k_front = on_whole make_rest (next (value ∷ rest ∷ os))
begin_rest os next k_number = malformed
begin_rest os next k_pair = malformed
begin_rest os next k_wide = malformed
begin_rest os next unknown = malformed

-- what the bytes so far must make at least, where so many follow: the number is judged at its last byte
unfoldable pub due : (least follow : ℕ) → ℕ
due least zero = least
due least (suc follow) = 0

-- whether b may be that byte (a number over 255 is none)
unfoldable pub may_be : (least follow h b : ℕ) → Bool
may_be least follow h b = ltb b 256 && leb (due least follow) (256 * h + b)

unfoldable pub begin_byte : (os : List Owed) → ((ps : List Owed) → Found ps) → (least follow h b : ℕ) → Bool → Found (byte least follow h ∷ os)
begin_byte os next least zero h b true = on_whole (a_body (b ∷ [])) (next os)
begin_byte os next least (suc follow) h b true = on_whole (make_body b) (next (byte least follow (256 * h + b) ∷ os))
begin_byte os next least zero h b false = malformed
begin_byte os next least (suc follow) h b false = malformed

-- what is owed is read from the bytes, of which `room` may still be taken
unfoldable pub read : List ℕ → ℕ → (os : List Owed) → Found os
read [] room [] = whole nothing []
read [] room (o ∷ os) = malformed
read (b ∷ bs) room [] = whole nothing (b ∷ bs)
read (b ∷ bs) zero (o ∷ os) = too_long
read (b ∷ bs) (suc room) (value ∷ os) = begin_value os (read bs room) (kind_of b)
read (b ∷ bs) (suc room) (rest ∷ os) = begin_rest os (read bs room) (kind_of b)
read (b ∷ bs) (suc room) (byte least follow h ∷ os) = begin_byte os (read bs room) least follow h b (may_be least follow h b)

-- the value that the bytes begin with
unfoldable pub read_value : List ℕ → Found (value ∷ [])
read_value bs = read bs 256 (value ∷ [])

-- k values and nothing behind them, front to back. Refusals: c a value malformed, c + 1 one over 256 bytes,
-- c + 2 the end where a value should begin, or bytes behind the last
unfoldable pub on_value : {A : Type 0} → ℕ → Found (value ∷ []) → (Value → List ℕ → Result A) → Result A
on_value c (whole (a_value v nothing) bs) f = f v bs
on_value c malformed f = refusal c
on_value c too_long f = refusal (c + 1)

unfoldable pub read_values : ℕ → ℕ → List ℕ → Result (List Value)
read_values c zero [] = ok []
read_values c zero (b ∷ bs) = refusal (c + 2)
read_values c (suc k) [] = refusal (c + 2)
read_values c (suc k) (b ∷ bs) = on_value c (read_value (b ∷ bs)) λ v more. map_result (λ vs. v ∷ vs) (read_values c k more)

-- a plan is k values, for variables 0 to k - 1 (the source); a view is one value
abbrev pub read_plan : ℕ → List ℕ → Result (List Value)
read_plan = read_values 20

abbrev pub read_view : List ℕ → Result (List Value)
read_view = read_values 30 1
