-- Types as bytes: what the check reads is exactly so many types of at most 256 bytes each, one after another.
use Rattle.std.specs.Prelude.{◌≡◌, ℕ, zero, suc, ◌+◌, ◌-◌, ◌<◌, length, get_or, replicate}
use Rattle.std.proofs.Math.Path.{refl, ap}
use Rattle.std.proofs.Common.{sym, ◌∙◌, arith, length-append, get_or-append-add}
use Rattle.std.proofs.Math.Option.{Option, none, some, none-ne-some, some-injective}
use mathlib.Core.List.{List, [], ◌∷◌, ◌++◌, append_assoc, append-nil}
use Rattle.std.proofs.Math.Decide.{dec_lt}
use Rattle.std.proofs.Math.ListN.{get_or-append}
use Rattle.std.proofs.lemmas.List.{get_or-replicate}
use Rattle.value.specs.All.{All}
use Rattle.typing.specs.Types.{Ty, truths, numbers, lists, pairs}
use Rattle.typing.specs.Numbers.{longest_type}
use Rattle.typing.specs.Check.{make_list, make_pair, also, and_then, Kind, k_truth, k_number, k_list, k_pair, unknown, kind_of, begin, read_types}
use Rattle.typing.specs.Check.{on_type, read_all}
use Rattle.typing.specs.Written.{bytes_of, Short, flat, Taken, nothing, taken, Names, is_list, is_other, is_pair, is_truth, is_number, Reads, fails}
use Rattle.typing.specs.Written.{reads, ReadAs}

-- WHAT IS WRITTEN READS BACK
module _ (t u : Ty) where
  list_again : (o : Option (List Ty × List ℕ)) → and_then (and_then o (also t)) make_list ≡ and_then o (also (lists t))
  unfolding and_then also make_list
  list_again none = refl
  list_again (some (ts, bs)) = refl

  pair_again : (o : Option (List Ty × List ℕ)) → and_then (and_then (and_then o (also u)) (also t)) make_pair ≡ and_then o (also (pairs t u))
  unfolding and_then also make_pair
  pair_again none = refl
  pair_again (some (ts, bs)) = refl

pub one_back : (t : Ty) (bs : List ℕ) (room k n : ℕ) → k ≡ length (bytes_of t) + room
    → read_types (bytes_of t ++ bs) k (suc n) ≡ and_then (read_types bs room n) (also t)
unfolding bytes_of read_types begin kind_of
one_back truths bs room k n e = let q : k ≡ suc room = omega arith in rw q
one_back numbers bs room k n e = let q : k ≡ suc room = omega arith in rw q
one_back (lists t) bs room k n e = let q : k ≡ suc (length (bytes_of t) + room) = omega arith in
    rw q (ap (λ o. and_then o make_list) (one_back t bs room _ n refl) ∙ list_again t t (read_types bs room n))
one_back (pairs a b) bs room k n e =
    let q : k ≡ suc (length (bytes_of a) + (length (bytes_of b) + room)) = omega (arith, e, length-append (bytes_of a) (bytes_of b)) in
    rw (q, append_assoc (bytes_of a) (bytes_of b) bs) (ap (λ o. and_then o make_pair) (one_back a (bytes_of b ++ bs) (length (bytes_of b) + room) _ (suc n) refl
    ∙ ap (λ o. and_then o (also a)) (one_back b bs room _ n refl)) ∙ pair_again a b (read_types bs room n))

pub none_owed : (bs : List ℕ) (room : ℕ) → read_types bs room 0 ≡ some ([], bs)
unfolding read_types
none_owed [] room = refl
none_owed (b ∷ bs) room = refl

pub types_back : {ts : List Ty} → All Short ts → read_all (length ts) (flat ts) ≡ some ts
unfolding read_all flat on_type and_then also
types_back All.none = refl
types_back (All.each {a = t} {l = ts} h hs) =
    let q : longest_type ≡ length (bytes_of t) + (longest_type - length (bytes_of t)) = omega arith in
    rw (one_back t (flat ts) (longest_type - length (bytes_of t)) longest_type 0 q, none_owed (flat ts) (longest_type - length (bytes_of t)))
    (ap (λ o. and_then o λ us. some (t ∷ us)) (types_back hs))

-- one type begins in one way only: two that begin the same bytes are one, and so are the bytes behind
pub bytes_front : (a b : Ty) (x y : List ℕ) → bytes_of a ++ x ≡ bytes_of b ++ y → (a ≡ b) × (x ≡ y)
unfolding and_then also
bytes_front a b x y e =
    let k : ℕ = length (bytes_of a) + length (bytes_of b) in
    let p = one_back a x (length (bytes_of b)) k 0 refl in
    let q = one_back b y (length (bytes_of a)) k 0 (omega arith) in
    let z : ◌≡◌ {A = Option (List Ty × List ℕ)} (some (a ∷ [], x)) (some (b ∷ [], y)) =
    rw (none_owed x (length (bytes_of b))) at (sym p) ∙ ap (λ l. read_types l k 1) e ∙ (rw (none_owed y (length (bytes_of a))) at q) in
    let u = some-injective _ _ z in let heads : a ∷ [] ≡ b ∷ [] = ap (λ t. t.0) u in
    (cc, ap (λ t. t.1) u)

pub bytes_same : (a b : Ty) → bytes_of a ≡ bytes_of b → a ≡ b
bytes_same a b e = (bytes_front a b [] [] (ap (λ l. l ++ []) e)).0

module _ {bs : List ℕ} {room n : ℕ} where
  taken_one : {b : ℕ} {o : Option (List Ty × List ℕ)} (t : Ty) → bytes_of t ≡ b ∷ [] → Taken bs room n o →
      Taken (b ∷ bs) (suc room) (suc n) (and_then o (also t))
  unfolding and_then also flat
  taken_one t e nothing = nothing
  taken_one {b} t e (taken {ts} {more} q l f) = taken {ts = t ∷ ts} {more = more} (rw (e, q)) (rw l) (rw e (omega arith))

  taken_list : {o : Option (List Ty × List ℕ)} → Taken bs room (suc n) o → Taken (0x32 ∷ bs) (suc room) (suc n) (and_then o make_list)
  unfolding and_then make_list flat bytes_of
  taken_list nothing = nothing
  taken_list (taken {ts = []} q l f) = nothing
  taken_list (taken {ts = t ∷ ts} {more} q l f) = taken {ts = lists t ∷ ts} {more = more} (ap (λ z. 0x32 ∷ z) q) l (omega arith)

  taken_pair : {o : Option (List Ty × List ℕ)} → Taken bs room (suc (suc n)) o → Taken (0x33 ∷ bs) (suc room) (suc n) (and_then o make_pair)
  unfolding and_then make_pair flat bytes_of
  taken_pair nothing = nothing
  taken_pair (taken {ts = []} q l f) = nothing
  taken_pair (taken {ts = t ∷ []} q l f) = nothing
  taken_pair (taken {ts = t ∷ u ∷ ts} {more} q l f) =
      let a = append_assoc (bytes_of t) (bytes_of u) (flat ts) in
      taken {ts = pairs t u ∷ ts} {more = more} (ap (λ z. 0x33 ∷ z) (q ∙ ap (λ z. z ++ more) (sym a))) (omega arith) (rw a (omega arith))

names_from : (k : ℕ) → Names (0x30 + k) (get_or (k_truth ∷ k_number ∷ k_list ∷ k_pair ∷ []) k unknown)
names_from zero = is_truth
names_from (suc zero) = is_number
names_from (suc (suc zero)) = is_list
names_from (suc (suc (suc zero))) = is_pair
names_from (suc (suc (suc (suc k)))) = is_other

pub names : (b : ℕ) → Names b (kind_of b)
unfolding kind_of
names b = go (dec_lt b 0x30)
  where
    go : Dec (b < 0x30) → Names b (get_or (replicate 0x30 unknown ++ k_truth ∷ k_number ∷ k_list ∷ k_pair ∷ []) b unknown)
    go (yes h) = rw (get_or-append (replicate 0x30 unknown) (k_truth ∷ k_number ∷ k_list ∷ k_pair ∷ []) unknown b h, get_or-replicate 0x30 b unknown unknown h)
        is_other
    go (no h) = let q : 0x30 + (b - 0x30) ≡ b = omega arith in
        rw q at (rw (← get_or-append-add (replicate 0x30 unknown) (k_truth ∷ k_number ∷ k_list ∷ k_pair ∷ []) (b - 0x30) unknown) at (names_from (b - 0x30)))

pub takes : (bs : List ℕ) (room n : ℕ) → Taken bs room n (read_types bs room n)
unfolding read_types flat begin bytes_of
takes [] room zero = taken {ts = []} {more = []} refl refl (omega arith)
takes [] room (suc n) = nothing
takes (b ∷ bs) room zero = taken {ts = []} {more = b ∷ bs} refl refl (omega arith)
takes (b ∷ bs) zero (suc n) = nothing
takes (b ∷ bs) (suc room) (suc n) = go (λ k. takes bs room k) (names b)
  where
    go : ((k : ℕ) → Taken bs room k (read_types bs room k)) → {b : ℕ} {k : Kind} → Names b k →
        Taken (b ∷ bs) (suc room) (suc n) (begin (read_types bs room) n k)
    go h is_truth = taken_one truths refl (h n)
    go h is_number = taken_one numbers refl (h n)
    go h is_list = taken_list (h (suc n))
    go h is_pair = taken_pair (h (suc (suc n)))
    go h is_other = nothing

one_more : (t : Ty) {k : ℕ} {bs more : List ℕ} {o : Option (List Ty)} → bs ≡ bytes_of t ++ more → Short t → Reads k more o
    → Reads (suc k) bs (and_then o λ ts. some (t ∷ ts))
unfolding and_then flat
one_more t e h fails = fails
one_more t e h (reads {ts} r) = reads (record { bytes = e ∙ ap (λ z. bytes_of t ++ z) r.bytes; many = ap suc r.many; short = All.each h r.short })

read_one : (k : ℕ) (bs : List ℕ) {o : Option (List Ty × List ℕ)} → ((more : List ℕ) → Reads k more (read_all k more)) → Taken bs longest_type 1 o
    → Reads (suc k) bs (on_type o λ t more. and_then (read_all k more) λ ts. some (t ∷ ts))
unfolding on_type flat
read_one k bs h nothing = fails
read_one k bs h (taken {ts = []} e l f) = fails
read_one k bs h (taken {ts = t ∷ []} {more} e l f) =
    let z : bytes_of t ++ [] ≡ bytes_of t = append-nil (bytes_of t) in one_more t (rw z at e) (rw z at f) (h more)
read_one k bs h (taken {ts = t ∷ u ∷ ts} e l f) = absurd (omega arith)

reads_all : (k : ℕ) (bs : List ℕ) → Reads k bs (read_all k bs)
unfolding read_all flat
reads_all zero [] = reads (record { bytes = refl; many = refl; short = All.none })
reads_all zero (b ∷ bs) = fails
reads_all (suc k) bs = read_one k bs (λ more. reads_all k more) (takes bs longest_type 1)

pub types_read : (k : ℕ) (bs : List ℕ) {ts : List Ty} → read_all k bs ≡ some ts → ReadAs k bs ts
types_read k bs e = go (rw e at (reads_all k bs))
  where
    go : {ts : List Ty} → Reads k bs (some ts) → ReadAs k bs ts
    go (reads r) = r

-- so 80 says that the bytes are no such types
pub types_refused : (k : ℕ) (bs : List ℕ) → read_all k bs ≡ none → (ts : List Ty) → ReadAs k bs ts → ⊥
types_refused k bs e ts r = none-ne-some ts (sym e ∙ rw (r.bytes, ← r.many) (types_back r.short))
