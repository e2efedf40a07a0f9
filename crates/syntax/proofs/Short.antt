-- HOW LONG A TEXT IS: what is printed of a sheet has at most 16,384 bytes. A node with all below it, n nodes, takes at most 75 n - 57 bytes, the gap
-- before it among them.
use Rattle.std.specs.Prelude.{◌≡◌, Bool, true, cond, ltb, get_or}
use Rattle.std.proofs.Math.Path.{refl}
use Rattle.std.proofs.Common.{ap, ◌∙◌, lt-ltb, le-ltb, ltb-false}
use Rattle.std.proofs.Math.Bool.{false}
use mathlib.Core.List.{List, [], ◌∷◌, ◌++◌}
use Prim.Native.Nat.{ℕ, zero, suc, pred, min, ◌+◌, ◌*◌, ◌≤◌, ◌<◌}
use native.Mathlib.Omega.{arith}
use Rattle.std.proofs.Math.Decide.{dec_lt}
use Rattle.std.proofs.Math.ListN.{length, length-append, length-replicate}
use Rattle.node.specs.declared.Node.{Node}
use Rattle.node.specs.declared.Node.TheVariants.{Var, False, True, Empty, Number, Front, Pair, ListCase, TruthCase, Split, Call, Add, Each, Wide}
use Rattle.node.specs.Kinds.{row, children}
use Rattle.sheet.specs.Sheet.{Sheet, read_sheet}
use Rattle.sheet.specs.Laws.{Ranges, Ranged, Child, sheet_ranges}
use Rattle.sheet.specs.Rows.{Small, Every}
use Rattle.value.specs.Result.{Result, ok, refusal}
use Rattle.sheet.proofs.Written.{Bytes}
use Rattle.sheet.proofs.Ranging.{children_in}
use Rattle.preorder.specs.Numbering.{gathered, node_of, met_from, roots, order}
use Rattle.preorder.specs.NumberingLaws.{Once, uses}
use Rattle.preorder.proofs.NumberingLaws.{uses_in, order_short}
use Rattle.preorder.specs.Uses.{lowest_twice}
use Rattle.preorder.proofs.Uses.{all_once}
use Rattle.preorder.specs.NumberAnswer.{Answer, done, refused, twice}
use Rattle.tokens.specs.Quoted.{bytes}
use Rattle.tokens.specs.Tokens.{Token, word, hash}
use Rattle.syntax.specs.Printer.{Piece, tok, gap, sign, line, or_line, unless_plain, decimal, part_name, Reach}
use Rattle.syntax.specs.Printer.{reach, called, wide, variable_said, test_name, test_said, TailOf, a_front, the_end, another, tail_of, no_case}
use Rattle.syntax.specs.Printer.{all_plain, plain_from, alone, in_list, spoken, tailed, plain_node, said, root_said, plan_said}
use Rattle.syntax.specs.Printer.{sections_said, sheet_said}
use Rattle.syntax.specs.NameLaws.{limit}
use Rattle.tokens.specs.Laid.{spelled}
use Rattle.syntax.specs.Setting.{text_in}
use Rattle.syntax.specs.Texts.{text_of, sheet_printed, printed_bytes, sheet_smalls}
use Rattle.syntax.specs.Short.{decimal_short, name_short}

size : List Piece → ℕ
size [] = 0
size (tok t ∷ k) = length (spelled t) + size k
size (gap g ∷ k) = length g + size k

text_size : (k : List Piece) → length (text_in k) ≡ size k
unfolding text_in size
text_size [] = refl
text_size (tok t ∷ k) = length-append (spelled t) (text_in k) ∙ ap (λ (n : ℕ). length (spelled t) + n) (text_size k)
text_size (gap g ∷ k) = length-append g (text_in k) ∙ ap (λ (n : ℕ). length g + n) (text_size k)

variable_short : (r : Reach) (x : ℕ) → r.count < 2600 → x < 256 → length (spelled (variable_said r x)) ≤ 4
unfolding variable_said spelled
variable_short r x b h = go (dec_lt x r.count)
  where
    go : Dec (x < r.count) → length (spelled (cond (ltb x r.count) (word (called r.is_sent x)) (hash (decimal x) false))) ≤ 4
    go (yes l) = rw (lt-ltb x r.count l) (name_short r.is_sent x (omega arith))
    go (no l) = rw (le-ltb x r.count (omega arith)) (omega (arith, decimal_short 2 x (unfold limit in omega arith)))

part_short : (c : ℕ) → c < 10 → length (part_name c) ≤ 5
unfolding part_name
part_short c h = omega (arith, decimal_short 0 c (unfold limit in h))

test_short : (t : ℕ) → length (test_name t) ≤ 7
unfolding test_name
test_short zero = omega arith
test_short (suc zero) = omega arith
test_short (suc (suc zero)) = omega arith
test_short (suc (suc (suc zero))) = omega arith
test_short (suc (suc (suc (suc zero)))) = omega arith
test_short (suc (suc (suc (suc (suc zero))))) = omega arith
test_short (suc (suc (suc (suc (suc (suc n)))))) = omega arith

-- GAPS

line_short : (i : ℕ) → length (line i) ≤ 33
line_short i = omega (arith, length-replicate {A = ℕ} (min i 32) 32)

or_short : (p : Bool) (i : ℕ) → length (or_line p (bytes " ") i) ≤ 33
or_short true i = omega arith
or_short false i = line_short i

or_none : (p : Bool) (i : ℕ) → length (or_line p [] i) ≤ 33
or_none true i = omega arith
or_none false i = line_short i

unless_short : (p : Bool) → length (unless_plain p) ≤ 1
unless_short true = omega arith
unless_short false = omega arith

-- PIECES OF AT MOST SO MANY BYTES

record Within (k : List Piece) (b : ℕ) : Type 0 where
  most : size k ≤ b

all : (k : List Piece) → Within k (size k)
all k = record { most = omega arith }

to : {k : List Piece} {b c : ℕ} → Within k b → b ≤ c → Within k c
to w h = record { most = omega (arith, w.most) }

tk : {t : Token} {k : List Piece} {b : ℕ} → Within k b → Within (tok t ∷ k) (length (spelled t) + b)
unfolding size
tk w = record { most = omega (arith, w.most) }

gp : {g : List ℕ} {k : List Piece} {b : ℕ} → Within k b → Within (gap g ∷ k) (length g + b)
unfolding size
gp w = record { most = omega (arith, w.most) }

behind : {g : List ℕ} {k : List Piece} {b : ℕ} → Within (gap g ∷ k) b → Within k b
unfolding size
behind w = record { most = omega (arith, w.most) }

tst : {k : List Piece} {b : ℕ} (t : ℕ) → Within k b → Within (test_said t k) (13 + b)
unfolding test_said spelled
tst zero w = to w (omega arith)
tst (suc t) w = to (gp (tk (gp (tk w)))) (omega (arith, test_short (suc t)))

-- NODES

module _ (sh : Sheet) where
  -- what a node with all below it takes, with l levels
  abbrev cost : ℕ → ℕ → ℕ
  cost l n = 18 + 75 * pred (length (met_from l sh n))

  record Short (l n : ℕ) : Type 0 where
    some : 1 ≤ length (met_from l sh n)
    one : (r : Reach) (i j : ℕ) {k : List Piece} {b : ℕ} → r.count + 2 * l ≤ 2500 → Within k b
        → Within (gap (or_line (plain_node sh n) (bytes " ") j) ∷ said sh l alone r i n k) (cost l n + b)
    listed : (p : Bool) (r : Reach) (i : ℕ) {k : List Piece} {b : ℕ} → r.count + 2 * l ≤ 2500 → Within k b
        → Within (said sh l (in_list p) r i n k) (37 + (cost l n + b))

  abbrev AllShort : ℕ → List ℕ → Type 0
  AllShort l [] = Unit {0}
  AllShort l (n ∷ ns) = Short l n × AllShort l ns

  module _ (l : ℕ) (p : Bool) (r : Reach) (i j : ℕ) (few : r.count + 2 * suc l ≤ 2500) {k : List Piece} {b : ℕ} (w : Within k b) where
    abbrev Fits : Node → Type 0
    Fits n = Within (gap (or_line p (bytes " ") j) ∷ spoken (said sh l) (plain_node sh) p r i n k)
        (18 + 75 * length (gathered (met_from l sh) (children n)) + b)

    sa : {n : ℕ} (r : Reach) (i : ℕ) → r.count + 2 * l ≤ 2500 → Short l n → {k : List Piece} {b : ℕ} → Within k b
        → Within (said sh l alone r i n k) (cost l n + b)
    sa r i h c w = behind (c.one r i 0 h w)

    short_var : (x : ℕ) → x < 256 → p ≡ true → Fits (Var x)
    unfolding spoken children
    short_var x h e = rw e (to (gp (tk w)) (omega (arith, variable_short r x (omega arith) h)))

    short_false : p ≡ true → Fits False
    unfolding spoken children spelled
    short_false e = rw e (to (gp (tk w)) (omega arith))

    short_true : p ≡ true → Fits True
    unfolding spoken children spelled
    short_true e = rw e (to (gp (tk w)) (omega arith))

    short_empty : p ≡ true → Fits Empty
    unfolding spoken children spelled
    short_empty e = rw e (to (gp (tk (tk w))) (omega arith))

    short_number : (v : ℕ) → v ≤ 65535 → p ≡ true → Fits (Number v)
    unfolding spoken children spelled limit
    short_number v h e = rw e (to (gp (tk w)) (omega (arith, decimal_short 4 v (omega arith))))

    short_wide : (v : ℕ) → v ≤ 4294967295 → p ≡ true → Fits (Wide v)
    unfolding spoken children spelled limit
    short_wide v h e = rw e (to (gp (tk w)) (omega (arith, decimal_short 9 v (omega arith))))

    short_call : (c x y : ℕ) → c < 10 → x < 256 → y < 256 → p ≡ true → Fits (Call c x y)
    unfolding spoken children spelled
    short_call c x y hc hx hy e =
        rw e
        (to (gp (tk (tk (tk (tk (gp (tk (tk w))))))))
        (omega (arith, part_short c hc, variable_short r x (omega arith) hx, variable_short r y (omega arith) hy)))

    short_add : (a v : ℕ) → v ≤ 65535 → AllShort l (a ∷ []) → Fits (Add a v)
    unfolding spoken children spelled limit
    short_add a v h (ca, u) =
        to (gp (tk (gp (tk (gp (sa r i (omega arith) ca w))))))
        (omega (arith, decimal_short 4 v (omega arith), or_short p j, ca.some, length-append (met_from l sh a) []))

    short_pair : (a c : ℕ) → AllShort l (a ∷ c ∷ []) → Fits (Pair a c)
    unfolding spoken children spelled
    short_pair a c (ca, (cc', u)) =
        to (gp (tk (gp (sa r (i + 2) (omega arith) ca (gp (tk (gp (sa r (i + 2) (omega arith) cc' (gp (tk w))))))))))
        (omega (
          arith,
          or_short p j,
          or_none p i,
          unless_short p,
          ca.some,
          cc'.some,
          length-append (met_from l sh a) (met_from l sh c ++ []),
          length-append (met_from l sh c) [],
        ))

    short_front : (a c : ℕ) → AllShort l (a ∷ c ∷ []) → Fits (Front a c)
    unfolding spoken children spelled
    short_front a c (ca, (cc', u)) =
        to (gp (tk (gp (sa r (i + 2) (omega arith) ca (cc'.listed p r i (omega arith) w)))))
        (omega (
          arith,
          or_short p j,
          unless_short p,
          ca.some,
          cc'.some,
          length-append (met_from l sh a) (met_from l sh c ++ []),
          length-append (met_from l sh c) [],
        ))

    short_split : (a c : ℕ) → AllShort l (a ∷ c ∷ []) → Fits (Split a c)
    unfolding spoken children spelled
    short_split a c (ca, (cc', u)) =
        to (gp (tk (gp (tk (tk (tk (gp (tk (tk (gp (tk (gp (sa r (i + 2) (omega arith) ca (gp (tk (gp (sa (wide r) i (omega arith) cc' w)))))))))))))))))
        (omega (
          arith,
          or_short p j,
          or_short p i,
          name_short r.is_sent r.count (omega arith),
          name_short r.is_sent (suc r.count) (omega arith),
          ca.some,
          cc'.some,
          length-append (met_from l sh a) (met_from l sh c ++ []),
          length-append (met_from l sh c) [],
        ))

    short_each : (a s x c : ℕ) → s < 10 → x < 256 → AllShort l (a ∷ c ∷ []) → Fits (Each a s x c)
    unfolding spoken children spelled
    short_each a s x c hs hx (ca, (cc', u)) =
        to (gp (tk (gp (tk (tk (sa r (i + 2) (omega arith) ca (tk (gp (tk (tk (gp (tk (gp (sa (reach 0 false) (i + 2) (omega arith) cc' w))))))))))))))
        (omega (
          arith,
          or_short p j,
          part_short s hs,
          variable_short r x (omega arith) hx,
          ca.some,
          cc'.some,
          length-append (met_from l sh a) (met_from l sh c ++ []),
          length-append (met_from l sh c) [],
        ))

    short_truth : (a c t d u : ℕ) → AllShort l (a ∷ c ∷ d ∷ []) → Fits (TruthCase a c t d u)
    unfolding spoken children spelled
    short_truth a c t d u (ca, (cc', (cd, z))) =
        to (gp (tk (gp (sa r (i + 2) (omega arith) ca (gp (tk (gp (tk (gp (tk (cc'.one r (i + 4) (i + 4) (omega arith) (tst t
        (gp (tk (gp (tk (cd.one r (i + 4) (i + 4) (omega arith) (tst u (gp (tk w))))))))))))))))))))
        (omega (
          arith,
          or_short p j,
          line_short (i + 2),
          line_short i,
          ca.some,
          cc'.some,
          cd.some,
          length-append (met_from l sh a) (met_from l sh c ++ (met_from l sh d ++ [])),
          length-append (met_from l sh c) (met_from l sh d ++ []),
          length-append (met_from l sh d) [],
        ))

    short_list : (a c t d u e f : ℕ) → AllShort l (a ∷ c ∷ d ∷ e ∷ f ∷ []) → Fits (ListCase a c t d u e f)
    unfolding spoken children spelled
    short_list a c t d u e f (ca, (cc', (cd, (ce, (cf, z))))) =
        let x = name_short r.is_sent r.count (omega arith) in
        let y = name_short r.is_sent (suc r.count) (omega arith) in
        let pad = length-replicate {A = ℕ} (length (called r.is_sent r.count) + length (called r.is_sent (suc r.count)) + 4) 32 in
        to (gp (tk (gp (sa r (i + 2) (omega arith) ca (gp (tk (gp (tk (tk (gp (tk (cc'.one r (i + 4) (i + 4) (omega arith) (tst t
        (gp (tk (tk (gp (tk (gp (tk (tk (gp (tk (cd.one (wide r) (i + 4) (i + 4) (omega arith) (tst u
        (gp (tk (gp (tk (gp (tk (ce.one (reach 1 true) (i + 6) (i + 6) (omega arith)
        (tk (gp (tk (gp (tk (cf.one (reach 1 true) (i + 6) (i + 6) (omega arith) (gp (tk w))))))))))))))))))))))))))))))))))))))))
        (omega (
          arith,
          or_short p j,
          line_short (i + 2),
          line_short (i + 4),
          line_short i,
          x,
          y,
          pad,
          ca.some,
          cc'.some,
          cd.some,
          ce.some,
          cf.some,
          length-append (met_from l sh a) (met_from l sh c ++ (met_from l sh d ++ (met_from l sh e ++ (met_from l sh f ++ [])))),
          length-append (met_from l sh c) (met_from l sh d ++ (met_from l sh e ++ (met_from l sh f ++ []))),
          length-append (met_from l sh d) (met_from l sh e ++ (met_from l sh f ++ [])),
          length-append (met_from l sh e) (met_from l sh f ++ []),
          length-append (met_from l sh f) [],
        ))

    short_node : (own nodes secs : ℕ) (n : Node) → Ranged nodes secs own n → Small (row n).body → secs ≤ 8 → (no_case n ≡ true → children n ≡ [] → p ≡ true)
        → AllShort l (children n) → Fits n
    unfolding children no_case
    short_node own nodes secs (Var x) g s f e c = short_var x s.0 (e refl refl)
    short_node own nodes secs False g s f e c = short_false (e refl refl)
    short_node own nodes secs True g s f e c = short_true (e refl refl)
    short_node own nodes secs Empty g s f e c = short_empty (e refl refl)
    short_node own nodes secs (Number n) g s f e c = short_number n g.0 (e refl refl)
    short_node own nodes secs (Front x y) g s f e c = short_front x y c
    short_node own nodes secs (Pair x y) g s f e c = short_pair x y c
    short_node own nodes secs (ListCase x y t z u d d') g s f e c = short_list x y t z u d d' c
    short_node own nodes secs (TruthCase x y t z u) g s f e c = short_truth x y t z u c
    short_node own nodes secs (Split x y) g s f e c = short_split x y c
    short_node own nodes secs (Call a x y) g s f e c = short_call a x y (omega (arith, g.0)) s.1.0 s.1.1.0 (e refl refl)
    short_node own nodes secs (Add n a) g s f e c = short_add n a g.1.0 c
    short_node own nodes secs (Each x a y d) g s f e c = short_each x a y d (omega (arith, g.1.0)) s.1.1.0 c
    short_node own nodes secs (Wide n) g s f e c = short_wide n g.0.1 (e refl refl)

  -- the rest of a list
  short_tail : (l : ℕ) (p q : Bool) (r : Reach) (i : ℕ) → r.count + 2 * suc l ≤ 2500 → {k : List Piece} {b : ℕ} → Within k b → {n : Node} (t : TailOf n)
      → AllShort l (children n)
      → Within (spoken (said sh l) (plain_node sh) q r (i + 2) n (gap (unless_plain p) ∷ sign (bytes "]") ∷ k))
      (18 + 75 * length (gathered (met_from l sh) (children n)) + (1 + (1 + b)))
      → Within (tailed (said sh l) (plain_node sh) p q r i t k) (37 + (18 + 75 * length (gathered (met_from l sh) (children n)) + b))
  unfolding tailed children spelled
  short_tail l p q r i few w (a_front {a = x} {b = y}) (cx, (cy, u)) e =
      to (gp (tk (gp (behind (cx.one r (i + 2) 0 (omega arith) (cy.listed p r i (omega arith) w))))))
      (omega (arith, or_none p i, cx.some, cy.some, length-append (met_from l sh x) (met_from l sh y ++ []), length-append (met_from l sh y) []))
  short_tail l p q r i few w the_end c e = to (gp (tk w)) (omega (arith, unless_short p))
  short_tail l p q r i few w (another {n}) c e = to (gp (tk (gp e))) (omega (arith, or_short p i))

  plain_leaf : (l n : ℕ) → 1 ≤ l → no_case (node_of sh n) ≡ true → children (node_of sh n) ≡ [] → plain_from l sh n ≡ true
  unfolding plain_from all_plain
  plain_leaf zero n h e q = absurd (omega arith)
  plain_leaf (suc l) n h e q = rw (e, q)

  module _ (rg : Ranges sh) (smalls : (n : ℕ) → n < length sh.nodes → Small (row (node_of sh n)).body) where
    abbrev N : ℕ
    N = length sh.nodes

    abbrev Fine : ℕ → Type 0
    Fine l = (n : ℕ) → n < N → N ≤ n + l → Short l n

    kids_short : (l own : ℕ) → Fine l → N ≤ suc own + l → (ns : List ℕ) → Every (Child N own) ns → AllShort l ns
    kids_short l own ih deep [] c = tt
    kids_short l own ih deep (n ∷ ns) c = let z = c.0 in (ih n z.inside (omega arith), kids_short l own ih deep ns c.1)

    all_short : (l : ℕ) → Fine l
    unfolding met_from said spelled
    all_short zero n h deep = absurd (omega arith)
    all_short (suc l) n h deep = short (kids_short l n (all_short l) (omega arith) (children (node_of sh n)) (children_in rg n h))
      where
        node : (r : Reach) (i j : ℕ) {k : List Piece} {b : ℕ} → r.count + 2 * suc l ≤ 2500 → Within k b → AllShort l (children (node_of sh n))
            → Within (gap (or_line (plain_node sh n) (bytes " ") j) ∷ spoken (said sh l) (plain_node sh) (plain_node sh n) r i (node_of sh n) k)
            (18 + 75 * length (gathered (met_from l sh) (children (node_of sh n))) + b)
        node r i j few w c = short_node l (plain_node sh n) r i j few w n N (length sh.sections) (node_of sh n) (rg.node n h) (smalls n h) rg.few_sections
            (plain_leaf N n rg.some_node) c

        short : AllShort l (children (node_of sh n)) → Short (suc l) n
        short c = record {
          some = omega arith;
          one = λ r i j few w. to (node r i j few w c) (omega arith);
          listed = λ p r i few w. to (short_tail l p (plain_node sh n) r i few w (tail_of (node_of sh n)) c
              (to (behind (node r (i + 2) 0 few (gp (tk w)) c)) (omega (arith, unless_short p)))) (omega arith);
        }

    -- THE WHOLE SHEET

    root_short : (r : Reach) (n : ℕ) {k : List Piece} {b : ℕ} → n < N → r.count ≤ 16 → Within k b → Within (root_said sh r n k) (cost N n + b)
    root_short r n h c w = (all_short N n h (omega arith)).one r 2 2 (omega (arith, rg.few_nodes)) w

    sections_short : (i : ℕ) (ns : List ℕ) → i + length ns ≤ 8 → Every (λ n. n < N) ns
        → Within (sections_said sh i ns) (1 + 75 * length (gathered (met_from N sh) ns))
    unfolding sections_said spelled
    sections_short i [] h e = to (gp (all [])) (unfold size in omega arith)
    sections_short i (n ∷ ns) h e =
        let c = all_short N n e.0 (omega arith) in
        to (gp (tk (gp (tk (tk (tk (tk (gp
        (tk (tk (gp (tk (root_short (reach 2 false) n e.0 (omega arith) (sections_short (suc i) ns (omega arith) e.1))))))))))))))
        (omega (
          arith,
          part_short i (omega arith),
          name_short false 0 (omega arith),
          name_short false 1 (omega arith),
          c.some,
          length-append (met_from N sh n) (gathered (met_from N sh) ns),
        ))

    plan_short : (i j : ℕ) {k : List Piece} {b : ℕ} → i + j < 16 → Within k b → Within (plan_said i j k) (6 * suc j + b)
    unfolding plan_said spelled
    plan_short i zero h w = to (tk w) (omega (arith, name_short false i (omega arith)))
    plan_short i (suc j) h w = to (tk (tk (gp (plan_short (suc i) j (omega arith) w)))) (omega (arith, name_short false i (omega arith)))

    roots_all : Every (λ n. n < N) sh.sections
    roots_all = go sh.sections rg.section
      where
        go : (l : List ℕ) → ((i : ℕ) → i < length l → get_or l i 0 < N) → Every (λ n. n < N) l
        go [] h = tt
        go (x ∷ l) h = (h 0 (omega arith), go l (λ i z. h (suc i) (omega arith)))

    sheet_short : length (order sh) ≤ 200 → Within (sheet_said sh) 15115
    unfolding sheet_said spelled order roots
    sheet_short h =
        let c = all_short N sh.root rg.root (omega arith) in
        to (tk (gp (plan_short 0 (pred sh.k) (omega (arith, rg.few_variables, rg.some_variable))
        (gp (tk (gp (tk (root_short (reach sh.k false) sh.root rg.root rg.few_variables
        (sections_short 0 sh.sections (omega (arith, rg.few_sections)) roots_all)))))))))
        (omega (arith, rg.few_variables, rg.some_variable, c.some, length-append (met_from N sh sh.root) (gathered (met_from N sh) sh.sections)))

    pub text_short : Once (uses sh) → length (text_of sh) ≤ 16384
    unfolding text_of
    text_short once = omega (arith, text_size (sheet_said sh), (sheet_short (omega (arith, order_short rg once, rg.few_nodes))).most)

-- ON BYTES
pub printed_short : (s : List ℕ) {x : List ℕ} → Bytes s → printed_bytes s ≡ done x → length x ≤ 16384
unfolding printed_bytes sheet_printed
printed_short s {x} small e = go (read_sheet s) refl e
  where
    of : List ℕ → Answer → List ℕ
    of d (done y) = y
    of d (refused c) = d
    of d (twice n) = d

    pass : (sh : Sheet) → read_sheet s ≡ ok sh → (b : Bool) → ltb (lowest_twice sh) (length sh.nodes) ≡ b
        → cond b (twice (lowest_twice sh)) (done (text_of sh)) ≡ done x → length x ≤ 16384
    pass sh q true o e = let z : ◌≡◌ {A = ℕ} 0 1 = cc in absurd (omega arith)
    pass sh q false o e =
        let r = sheet_ranges s q in
        let once = all_once sh (ltb-false (lowest_twice sh) (length sh.nodes) o) (λ n i. uses_in r i) in
        rw (← ap (of []) e) (text_short sh r (sheet_smalls s small q) once)

    go : (r : Result Sheet) → read_sheet s ≡ r → sheet_printed r ≡ done x → length x ≤ 16384
    go (ok sh) q e = pass sh q (ltb (lowest_twice sh) (length sh.nodes)) refl e
    go (refusal c) q e = let z : ◌≡◌ {A = ℕ} 0 1 = cc in absurd (omega arith)
