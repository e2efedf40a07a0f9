-- PIECES SET AS A TEXT: what the printer says is a text laid out, so its tokens are read from it.
use Rattle.std.specs.Prelude.{◌≡◌, Bool, false, not, ◌||◌, cond, List, [], ◌∷◌, ℕ, zero, suc, pred, min, ◌+◌, ◌%◌, ◌/◌, ◌≤◌, ltb, replicate}
use Rattle.std.proofs.Math.Path.{refl}
use Rattle.std.proofs.Common.{arith, le-leb, ne_eqb}
use Rattle.std.proofs.Math.Bool.{true}
use Rattle.std.proofs.Math.ListN.{length}
use Rattle.std.proofs.lemmas.Bool.{lt-leb}
use Rattle.node.specs.declared.Node.{Node}
use Rattle.node.specs.declared.Node.TheVariants.{Var, False, True, Empty, Number, Front, Pair, ListCase, TruthCase, Split, Call, Add, Each, Wide}
use Rattle.sheet.specs.Sheet.{Sheet}
use Rattle.sheet.specs.Rows.{Every}
use Rattle.preorder.specs.Numbering.{node_of}
use Rattle.tokens.specs.Quoted.{bytes}
use Rattle.tokens.specs.Tokens.{Token, word, digits, hash, mark, letter, digit, class_of, same}
use Rattle.syntax.specs.Printer.{Piece, tok, gap, sign, space, line, or_line, unless_plain, decimal, suffix, name_of, part_name}
use Rattle.syntax.specs.Printer.{Reach, reach, called, variable_said, wide, test_name, test_said, TailOf, a_front, the_end, another, tail_of}
use Rattle.syntax.specs.Printer.{alone, in_list, Speaker, body_said, spoken, tailed, plain_node, said, root_said, plan_said, sections_said, sheet_said}
use Rattle.syntax.specs.NameLaws.{Digit, decimal_digits, suffix_digits, some_digit}
use Rattle.tokens.specs.Laid.{letters, numerals, good, is_mark}
use Rattle.syntax.specs.Setting.{blanks, Fit, end, open', next}

-- GOOD TOKENS

letter_class : (c : ℕ) → 97 ≤ c → c ≤ 122 → class_of c ≡ letter
unfolding class_of
letter_class c a b = rw (
  ne_eqb c 32 (λ e. omega arith),
  ne_eqb c 9 (λ e. omega arith),
  ne_eqb c 10 (λ e. omega arith),
  ne_eqb c 13 (λ e. omega arith),
  le-leb 97 c a,
  le-leb c 122 b,
)

digit_class : (c : ℕ) → 48 ≤ c → c ≤ 57 → class_of c ≡ digit
unfolding class_of
digit_class c a b = rw (
  ne_eqb c 32 (λ e. omega arith),
  ne_eqb c 9 (λ e. omega arith),
  ne_eqb c 10 (λ e. omega arith),
  ne_eqb c 13 (λ e. omega arith),
  lt-leb 97 c (omega arith),
  lt-leb 65 c (omega arith),
  ne_eqb c 95 (λ e. omega arith),
  le-leb 48 c a,
  le-leb c 57 b,
)

digits_letters : (ds : List ℕ) → Every Digit ds → letters ds ≡ true
unfolding letters
digits_letters [] h = refl
digits_letters (d ∷ ds) h = rw (digit_class d h.0.0 h.0.1) (digits_letters ds h.1)

digits_numerals : (ds : List ℕ) → Every Digit ds → numerals ds ≡ true
unfolding numerals
digits_numerals [] h = refl
digits_numerals (d ∷ ds) h = rw (digit_class d h.0.0 h.0.1) (digits_numerals ds h.1)

number_good : (n : ℕ) → good (digits (decimal n) false) ≡ true
unfolding good
number_good n = let (d, ds, e) = some_digit n in rw e (rw e at (digits_numerals (decimal n) (decimal_digits n)))

hash-good : (n : ℕ) → good (hash (decimal n) false) ≡ true
unfolding good
hash-good n = digits_numerals (decimal n) (decimal_digits n)

name_good : (x : ℕ) → good (word (name_of x)) ≡ true
unfolding good name_of
name_good x = rw (letter_class (97 + x % 26) (omega arith) (omega arith)) (digits_letters (suffix (x / 26)) (suffix_digits (x / 26)))

called-good : (s : Bool) (x : ℕ) → good (word (called s x)) ≡ true
unfolding called good letters class_of
called-good false x = name_good x
called-good true zero = refl
called-good true (suc x) = name_good (suc x)

part_good : (i : ℕ) → good (word (part_name i)) ≡ true
unfolding good part_name letters class_of
part_good i = digits_letters (decimal i) (decimal_digits i)

variable_good : (r : Reach) (x : ℕ) → good (variable_said r x) ≡ true
unfolding variable_said
variable_good r x = go (ltb x r.count)
  where
    go : (b : Bool) → good (cond b (word (called r.is_sent x)) (hash (decimal x) false)) ≡ true
    go true = called-good r.is_sent x
    go false = hash-good x

test_good : (t : ℕ) → good (word (test_name t)) ≡ true
unfolding good test_name letters class_of
test_good zero = refl
test_good (suc zero) = refl
test_good (suc (suc zero)) = refl
test_good (suc (suc (suc zero))) = refl
test_good (suc (suc (suc (suc zero)))) = refl
test_good (suc (suc (suc (suc (suc zero))))) = refl
test_good (suc (suc (suc (suc (suc (suc n)))))) = refl

-- PIECES THAT FIT

weaken : {p : Bool} {k : List Piece} → Fit p k → Fit false k
weaken end = end
weaken (open' g b h) = open' g b (weaken h)
weaken (next t g m h) = next t g (either (is_mark t)) h
  where
    either : (b : Bool) → b || true ≡ true
    either true = refl
    either false = refl

any : (q : Bool) {k : List Piece} → Fit true k → Fit q k
any true h = h
any false h = weaken h

-- a mark, behind anything
sgn : {q : Bool} {m : List ℕ} {k : List Piece} → good (mark m) ≡ true → Fit false k → Fit q (sign m ∷ k)
unfolding is_mark
sgn {m = m} g h = next (mark m) g refl h

-- another token, where nothing is wanted
tkn : {t : Token} {k : List Piece} → good t ≡ true → Fit true k → Fit false (tok t ∷ k)
tkn {t} g h = next t g (either (is_mark t)) (any (not (is_mark t)) h)
  where
    either : (b : Bool) → b || true ≡ true
    either true = refl
    either false = refl

-- a gap that is there
wide_gap : (q : Bool) (c : ℕ) (cs : List ℕ) {k : List Piece} → blanks (c ∷ cs) ≡ true → Fit false k → Fit q (gap (c ∷ cs) ∷ k)
wide_gap true c cs b h = open' (c ∷ cs) b h
wide_gap false c cs b h = open' (c ∷ cs) b h

spc : {q : Bool} {k : List Piece} → Fit false k → Fit q (space ∷ k)
unfolding class_of
spc {q} h = wide_gap q 32 [] refl h

spaces : (n : ℕ) → blanks (replicate n 32) ≡ true
unfolding class_of
spaces zero = refl
spaces (suc n) = spaces n

line_blank : (i : ℕ) → blanks (line i) ≡ true
unfolding class_of
line_blank i = spaces (min i 32)

lin : {q : Bool} {k : List Piece} (i : ℕ) → Fit false k → Fit q (gap (line i) ∷ k)
lin {q} i h = wide_gap q 10 (replicate (min i 32) 32) (line_blank i) h

orl : {q : Bool} {k : List Piece} (p : Bool) (i : ℕ) → Fit false k → Fit q (gap (or_line p (bytes " ") i) ∷ k)
orl true i h = spc h
orl false i h = lin i h

-- a gap that may be there: where nothing is wanted, or before a mark
opt : {k : List Piece} (p : Bool) → Fit false k → Fit false (gap (unless_plain p) ∷ k)
opt true h = open' [] refl h
opt false h = spc h

ops : {q : Bool} {m : List ℕ} {k : List Piece} (p : Bool) → good (mark m) ≡ true → Fit false k → Fit q (gap (unless_plain p) ∷ sign m ∷ k)
ops true g h = open' [] refl (sgn g h)
ops false g h = spc (sgn g h)

orm : {q : Bool} {m : List ℕ} {k : List Piece} (p : Bool) (i : ℕ) → good (mark m) ≡ true → Fit false k → Fit q (gap (or_line p [] i) ∷ sign m ∷ k)
orm true i g h = open' [] refl (sgn g h)
orm false i g h = lin i (sgn g h)

pad : {k : List Piece} (n : ℕ) → Fit false k → Fit false (gap (replicate n 32) ∷ k)
pad n h = open' (replicate n 32) (spaces n) h

tst : {k : List Piece} (t : ℕ) → Fit true k → Fit true (test_said t k)
unfolding test_said good letters class_of
tst zero h = h
tst (suc t) h = spc (tkn refl (spc (tkn (test_good (suc t)) h)))

-- NODES

record Fits (say : Speaker) : Type 0 where
  one : (r : Reach) (i n : ℕ) {k : List Piece} → Fit true k → Fit false (say alone r i n k)
  listed : (p : Bool) (r : Reach) (i n : ℕ) {k : List Piece} → Fit true k → Fit true (say (in_list p) r i n k)

module _ (say : Speaker) (plain : ℕ → Bool) (fits : Fits say) where
  sa : (r : Reach) (i n : ℕ) {k : List Piece} → Fit true k → Fit false (say alone r i n k)
  sa = fits.one

  si : (p : Bool) (r : Reach) (i n : ℕ) {k : List Piece} → Fit true k → Fit true (say (in_list p) r i n k)
  si = fits.listed

  bdy : {q : Bool} {k : List Piece} (r : Reach) (i n : ℕ) → Fit true k → Fit q (body_said say plain r i n k)
  bdy r i n h = orl (plain n) i (sa r i n h)

  fit_spoken : (p : Bool) (r : Reach) (i : ℕ) (n : Node) {k : List Piece} → Fit true k → Fit false (spoken say plain p r i n k)
  unfolding spoken good letters class_of same
  fit_spoken p r i (Var x) h = tkn (variable_good r x) h
  fit_spoken p r i False h = tkn refl h
  fit_spoken p r i True h = tkn refl h
  fit_spoken p r i Empty h = sgn refl (sgn refl (weaken h))
  fit_spoken p r i (Number n) h = tkn (number_good n) h
  fit_spoken p r i (Front a b) h = sgn refl (opt p (sa r (i + 2) a (si p r i b h)))
  fit_spoken p r i (Pair a b) h = sgn refl (opt p (sa r (i + 2) a (orm p i refl (spc (sa r (i + 2) b (ops p refl (weaken h)))))))
  fit_spoken p r i (ListCase s e t n u d d') h =
      let x = called-good r.is_sent r.count in
      let y = called-good r.is_sent (suc r.count) in
      tkn refl (spc (sa r (i + 2) s (spc
      (tkn refl (lin (i + 2) (sgn refl
      (sgn refl (pad (length (called r.is_sent r.count) + length (called r.is_sent (suc r.count)) + 4) (sgn refl (bdy r (i + 4) e (tst t (
      lin (i + 2) (sgn refl (tkn x (spc (sgn refl (spc (tkn y (sgn refl (spc (sgn refl (bdy (wide r) (i + 4) n (tst u (
      lin (i + 4) (tkn refl (spc (tkn x (spc (sgn refl (bdy (reach 1 true) (i + 6) d (
      sgn refl (spc (tkn y (spc (sgn refl (bdy (reach 1 true) (i + 6) d' (lin i (tkn refl h))))))))))))))))))))))))))))))))))))))
  fit_spoken p r i (TruthCase s f t n u) h =
      tkn refl (spc (sa r (i + 2) s (spc (tkn refl (lin (i + 2) (tkn refl (spc (sgn refl (bdy r (i + 4) f (tst t (
      lin (i + 2) (tkn refl (wide_gap true 32 (32 ∷ []) refl (sgn refl (bdy r (i + 4) n (tst u (lin i (tkn refl h))))))))))))))))))
  fit_spoken p r i (Split s n) h =
      let x = called-good r.is_sent r.count in
      let y = called-good r.is_sent (suc r.count) in
      tkn refl (spc (sgn refl (tkn x (sgn refl (spc (tkn y (sgn refl (spc (sgn refl (spc (sa r (i + 2) s (
      spc (tkn refl (orl p i (sa (wide r) i n h)))))))))))))))
  fit_spoken p r i (Call c x y) h =
      tkn (part_good c) (sgn refl (tkn (variable_good r x) (sgn refl (spc (tkn (variable_good r y) (sgn refl (weaken h)))))))
  fit_spoken p r i (Add n a) h = tkn (number_good a) (spc (sgn refl (spc (sa r i n h))))
  fit_spoken p r i (Each s c x d) h =
      tkn refl (spc (tkn (part_good c) (sgn refl (sa r (i + 2) s (
      sgn refl (spc (tkn (variable_good r x) (sgn refl (spc (tkn refl (spc (sa (reach 0 false) (i + 2) d h))))))))))))
  fit_spoken p r i (Wide n) h = tkn (number_good n) h

  fit_tailed : (p q : Bool) (r : Reach) (i : ℕ) {n : Node} (t : TailOf n) {k : List Piece} → Fit true k → Fit true (tailed say plain p q r i t k)
  unfolding tailed good class_of
  fit_tailed p q r i (a_front {a} {b}) h = orm p i refl (spc (sa r (i + 2) a (si p r i b h)))
  fit_tailed p q r i the_end h = ops p refl (weaken h)
  fit_tailed p q r i (another {n}) h = orl p i (sgn refl (spc (fit_spoken q r (i + 2) n (ops p refl (weaken h)))))

fit_said : (sh : Sheet) (l : ℕ) → Fits (said sh l)
unfolding said
fit_said sh zero = record { one = λ r i n h. weaken h; listed = λ p r i n h. h }
fit_said sh (suc l) = record {
  one = λ r i n h. fit_spoken (said sh l) (plain_node sh) (fit_said sh l) (plain_node sh n) r i (node_of sh n) h;
  listed = λ p r i n h. fit_tailed (said sh l) (plain_node sh) (fit_said sh l) p (plain_node sh n) r i (tail_of (node_of sh n)) h;
}

-- THE WHOLE SHEET

fit_root : (sh : Sheet) {q : Bool} {k : List Piece} (r : Reach) (n : ℕ) → Fit true k → Fit q (root_said sh r n k)
fit_root sh r n h = orl (plain_node sh n) 2 ((fit_said sh (length sh.nodes)).one r 2 n h)

fit_plan : (i j : ℕ) {k : List Piece} → Fit true k → Fit false (plan_said i j k)
unfolding plan_said good class_of
fit_plan i zero h = tkn (called-good false i) h
fit_plan i (suc j) h = tkn (called-good false i) (sgn refl (spc (fit_plan (suc i) j h)))

fit_sections : (sh : Sheet) (i : ℕ) (ns : List ℕ) → Fit true (sections_said sh i ns)
unfolding sections_said good letters class_of
fit_sections sh i [] = open' (bytes "\n") refl end
fit_sections sh i (n ∷ ns) =
    open' (bytes "\n\n") refl (tkn refl (spc (tkn (part_good i) (sgn refl (tkn (called-good false 0) (sgn refl (spc (tkn (called-good false 1) (sgn refl
    (spc (sgn refl (fit_root sh (reach 2 false) n (fit_sections sh (suc i) ns)))))))))))))

pub fit_sheet : (sh : Sheet) → Fit false (sheet_said sh)
unfolding sheet_said good letters class_of
fit_sheet sh =
    tkn refl (spc (fit_plan 0 (pred sh.k) (open' (bytes "\n") refl (tkn refl (spc (sgn refl
    (fit_root sh (reach sh.k false) sh.root (fit_sections sh 0 sh.sections))))))))
