-- What the printer says is read: a node of a sheet whose nodes are used once each is read as that node, numbered anew, with all below it.
use Rattle.std.specs.Prelude.{◌≡◌, Bool, true, false, not, List, [], ◌∷◌, ◌++◌, map, ℕ, zero, suc, ◌+◌, ◌≤◌, ◌<◌, length}
use Rattle.std.proofs.Math.Path.{refl}
use Rattle.std.proofs.Common.{sym, ap, ◌∙◌, arith}
use Rattle.std.proofs.Math.Option.{Option, some}
use Rattle.std.proofs.lemmas.List.{map-append}
use Rattle.std.proofs.Math.Decide.{dec_lt}
use borrow.Author.Tests.{le-leb, lt-leb, lt-ltb, le-ltb, not-true}
use Rattle.node.specs.declared.Node.{Node}
use Rattle.node.specs.declared.Node.TheVariants.{Var, False, True, Empty, Number, Front, Pair, ListCase, TruthCase, Split, Call, Add, Each, Wide}
use Rattle.node.specs.Kinds.{row, children, form_of}
use Rattle.sheet.specs.Renumbering.{renumber, of_kind}
use Rattle.sheet.specs.Sheet.{Sheet}
use Rattle.sheet.specs.Laws.{Ranged}
use Rattle.sheet.specs.Rows.{Small}
use Rattle.preorder.specs.Numbering.{gathered, node_of, met_from}
use Rattle.tokens.specs.Quoted.{bytes}
use Rattle.tokens.specs.Tokens.{Token, hash, mark, first, rest, word_of, mark_of, same}
use Rattle.syntax.specs.Reader.{ok, Name, find, is_name, symbol, keyword}
use Rattle.syntax.specs.Reader.{known, variable_by, variable, word_begin, begin_of, behind_of, branch_of, whole}
use Rattle.syntax.specs.Reader.{Nodes, begun, constant, pair_of, behind, back, front_of, list_by, list_of, let_in, amount_by, amount_of}
use Rattle.syntax.specs.Reader.{truth_case, list_case, branches, case_of, call_of, each_of, named, shaped, parted, read}
use Rattle.syntax.specs.Printer.{Piece, gap, sign, unless_plain, tokens_in, decimal, part_name, Reach, reach, called, wide, variable_said}
use Rattle.syntax.specs.Printer.{test_said, TailOf, a_front, the_end, another, alone, in_list, spoken, tailed, plain_node, said}
use Rattle.tokens.specs.Same.{and-true}
use Rattle.syntax.specs.NameLaws.{called_is, part_is, called_apart, stack}
use Rattle.syntax.proofs.NameLaws.{number-decimal, hash_decimal}
use Rattle.syntax.specs.NameLaws.{find_in}
use Rattle.syntax.specs.ReadLaws.{then, room_ok, quiet, scope_of, bind_read, test_read, keyword_read, section_named, said_in, said_out}

no_bracket : (ts : List Token) → quiet ts ≡ true → same (mark_of (first ts)) (bytes "(") ≡ false
no_bracket ts e = not-true _ (and-true (not (same (mark_of (first ts)) (bytes "("))) (not (same (mark_of (first ts)) (bytes "+"))) e).0

no_plus : (ts : List Token) → quiet ts ≡ true → same (mark_of (first ts)) (bytes "+") ≡ false
no_plus ts e = not-true _ (and-true (not (same (mark_of (first ts)) (bytes "("))) (not (same (mark_of (first ts)) (bytes "+"))) e).1

pub variable_read : (r : Reach) (lost x : ℕ) (ts : List Token) → x < 256 → variable (scope_of r lost) (variable_said r x ∷ ts) ≡ ok (x, ts)
unfolding variable variable_said variable_by first rest known
variable_read r lost x ts h = go (dec_lt x r.count)
  where
    go : Dec (x < r.count) → variable (scope_of r lost) (variable_said r x ∷ ts) ≡ ok (x, ts)
    go (yes l) = rw (lt-ltb x r.count l) (then _ (rw (called_is r.is_sent x, find_in (called r.is_sent) (called_apart r.is_sent) r.count x l)) refl)
    go (no l) = rw (le-ltb x r.count (omega arith)) (then _ (hash_decimal (length (hash (decimal x) false ∷ ts)) x (omega arith)) refl)

test_quiet : (t : ℕ) (k : List Piece) → quiet (tokens_in k) ≡ true → quiet (tokens_in (test_said t k)) ≡ true
unfolding tokens_in test_said first mark_of same
test_quiet zero k q = q
test_quiet (suc t) k q = refl

known_read : {o : Option ℕ} {x : ℕ} (left d : ℕ) → o ≡ some x → known o left d ≡ ok x
unfolding known
known_read left d e = rw e

-- A NODE

module _ (sh : Sheet) (ρ ψ : ℕ → ℕ) (resolve : Name → Option ℕ) where
  abbrev pub anew : ℕ → Node
  anew n = renumber ρ ψ (node_of sh n)

  abbrev pub met : ℕ → ℕ → List Node
  met l n = map anew (met_from l sh n)

  -- node n, said with l levels, is read with f levels from number m on
  abbrev pub Whole : (l f m n : ℕ) → Type 0
  Whole l f m n = (r : Reach) (i lost : ℕ) (k : List Piece) → quiet (tokens_in k) ≡ true
      → read resolve f whole (scope_of r lost) m (tokens_in (said sh l alone r i n k)) ≡ ok (met l n, tokens_in k)

  -- and so it is where it is the rest of a list
  abbrev pub Tail : (l f m n : ℕ) → Type 0
  Tail l f m n = (p : Bool) (r : Reach) (i lost : ℕ) (k : List Piece)
      → back (read resolve f) (scope_of r lost) m (tokens_in (said sh l (in_list p) r i n k)) ≡ ok (met l n, tokens_in k)

  abbrev pub Opens : (l n : ℕ) → Type 0
  Opens l n = (r : Reach) (i : ℕ) (k : List Piece) → same (mark_of (first (tokens_in (said sh l alone r i n k)))) (bytes "]") ≡ false

  abbrev pub Quiets : (l n : ℕ) → Type 0
  Quiets l n = (p : Bool) (r : Reach) (i : ℕ) (k : List Piece) → quiet (tokens_in (said sh l (in_list p) r i n k)) ≡ true

  -- a child: its number, and how it is read
  pub record Ready (l f m n : ℕ) : Type 0 where
    pub number : ρ n ≡ m
    pub whole : Whole l f m n
    pub tail : Tail l f m n
    pub opens : Opens l n
    pub quiets : Quiets l n

  -- the children, one behind the other
  abbrev pub AllReady : (l f m : ℕ) → List ℕ → Type 0
  AllReady l f m [] = Unit {0}
  AllReady l f m (n ∷ ns) = Ready l f m n × AllReady l f (m + length (met l n)) ns

  abbrev parts : ℕ → List ℕ → List Node
  parts l [] = []
  parts l (n ∷ ns) = met l n ++ parts l ns

  in_parts : (l : ℕ) (ns : List ℕ) → parts l ns ≡ map anew (gathered (met_from l sh) ns)
  in_parts l [] = refl
  in_parts l (n ∷ ns) = ap (λ (z : List Node). met l n ++ z) (in_parts l ns) ∙ sym (map-append anew (met_from l sh n) (gathered (met_from l sh) ns))

  done : (l : ℕ) (ns : List ℕ) (k : List Token) {x y : Node} → x ≡ y
      → ◌≡◌ {A = Nodes} (ok (x ∷ parts l ns, k)) (ok (y ∷ map anew (gathered (met_from l sh) ns), k))
  done l ns k {x} {y} e = ap (λ (z : Node). ok (z ∷ parts l ns, k)) e ∙ ap (λ (z : List Node). ok (y ∷ z, k)) (in_parts l ns)

  module _ (l f m : ℕ) (h : m < 200) (p : Bool) (r : Reach) (i lost : ℕ) (k : List Piece) where
    abbrev Reads : Node → Type 0
    Reads n = parted resolve (read resolve f) whole (scope_of r lost) m (tokens_in (spoken (said sh l) (plain_node sh) p r i n k))
        ≡ ok (renumber ρ ψ n ∷ map anew (gathered (met_from l sh) (children n)), tokens_in k)

    read_false : Reads False
    unfolding parted begun begin_of word_begin shaped is_name find same first rest tokens_in spoken children renumber of_kind form_of
    read_false = room_ok _ _ h refl

    read_true : Reads True
    unfolding parted begun begin_of word_begin shaped is_name find same first rest tokens_in spoken children renumber of_kind form_of
    read_true = room_ok _ _ h refl

    read_empty : Reads Empty
    unfolding parted begun begin_of shaped list_of list_by same first rest tokens_in mark_of spoken children renumber of_kind form_of
    read_empty = room_ok _ _ h refl

    read_var : (x : ℕ) → x < 256 → quiet (tokens_in k) ≡ true → Reads (Var x)
    unfolding parted begun begin_of word_begin shaped named first rest tokens_in spoken children renumber of_kind form_of
    read_var x small q = go (dec_lt x r.count)
      where
        go : Dec (x < r.count) → Reads (Var x)
        go (yes j) = rw (said_in r x j, called_is r.is_sent x)
            (room_ok _ _ h (rw (no_bracket (tokens_in k) q) (then _ (rw (said_in r x j) at (variable_read r lost x (tokens_in k) small)) refl)))
        go (no j) = rw (said_out r x j) (room_ok _ _ h (then _ (rw (said_out r x j) at (variable_read r lost x (tokens_in k) small)) refl))

    read_number : (v : ℕ) → v ≤ 65535 → quiet (tokens_in k) ≡ true → Reads (Number v)
    unfolding parted begun begin_of shaped amount_of amount_by constant first rest tokens_in spoken children renumber of_kind form_of
    read_number v small q = room_ok _ _ h (then _ (number-decimal 4294967295 60 _ 0 v (omega arith)) (rw (no_plus (tokens_in k) q, le-leb v 65535 small)))

    read_wide : (v : ℕ) → 65535 < v → v ≤ 4294967295 → quiet (tokens_in k) ≡ true → Reads (Wide v)
    unfolding parted begun begin_of shaped amount_of amount_by constant first rest tokens_in spoken children renumber of_kind form_of
    read_wide v large small q = room_ok _ _ h (then _ (number-decimal 4294967295 60 _ 0 v small) (rw (no_plus (tokens_in k) q, lt-leb v 65535 large)))

    read_add : (a v : ℕ) → v ≤ 65535 → AllReady l f (suc m) (a ∷ []) → quiet (tokens_in k) ≡ true → Reads (Add a v)
    unfolding parted begun begin_of shaped amount_of amount_by same mark_of first rest tokens_in spoken children renumber of_kind form_of
    read_add a v small (ca, u) q =
        room_ok _ _ h
        (then _ (number-decimal 4294967295 60 _ 0 v (omega arith))
        (rw (le-leb v 65535 small) (then _ (ca.whole r _ lost k q) (done l (a ∷ []) (tokens_in k) (rw ca.number)))))

    read_pair : (a b : ℕ) → AllReady l f (suc m) (a ∷ b ∷ []) → Reads (Pair a b)
    unfolding parted begun begin_of shaped pair_of symbol same first rest tokens_in mark_of spoken children renumber of_kind form_of
    read_pair a b (ca, (cb, u)) =
        room_ok _ _ h
        (then _ (ca.whole r _ lost _ refl)
        (then _ refl
        (then _ (cb.whole r _ lost _ refl)
        (then _ refl (done l (a ∷ b ∷ []) (tokens_in k) (rw (ca.number, cb.number)))))))

    read_front : (a b : ℕ) → AllReady l f (suc m) (a ∷ b ∷ []) → Reads (Front a b)
    unfolding parted begun begin_of shaped list_of list_by front_of same first rest tokens_in mark_of spoken children renumber of_kind form_of
    read_front a b (ca, (cb, u)) =
        room_ok _ _ h
        (rw (ca.opens r (i + 2) (said sh l (in_list p) r i b k))
        (then _ (ca.whole r _ lost _ (cb.quiets p r i k))
        (then _ (cb.tail p r i lost k) (done l (a ∷ b ∷ []) (tokens_in k) (rw (ca.number, cb.number))))))

    read_split : (a b : ℕ) → AllReady l f (suc m) (a ∷ b ∷ []) → quiet (tokens_in k) ≡ true → Reads (Split a b)
    unfolding parted begun begin_of word_begin shaped is_name find let_in symbol keyword same first rest tokens_in word_of mark_of spoken stack children
        renumber of_kind form_of
    read_split a b (ca, (cb, u)) q =
        room_ok _ _ h
        (then _ refl
        (then _ (bind_read r.is_sent r.count _)
        (then _ refl
        (then _ (bind_read r.is_sent (suc r.count) _)
        (then _ refl
        (then _ refl
        (then _ (ca.whole r _ lost _ refl)
        (then _ refl
        (then _ (cb.whole (wide r) _ lost k q) (done l (a ∷ b ∷ []) (tokens_in k) (rw (ca.number, cb.number))))))))))))

    read_call : (c x y : ℕ) → resolve (part_name c) ≡ some (ψ c) → x < 256 → y < 256 → Reads (Call c x y)
    unfolding parted begun begin_of word_begin shaped named call_of symbol same first rest tokens_in mark_of spoken children renumber of_kind form_of
    read_call c x y e hx hy =
        rw (part_is c)
        (room_ok _ _ h
        (then _ (known_read _ 43 e)
        (then _ (variable_read r lost x _ hx)
        (then _ refl
        (then _ (variable_read r lost y _ hy)
        (then _ refl refl))))))

    read_each : (a c x b : ℕ) → resolve (part_name c) ≡ some (ψ c) → x < 256 → AllReady l f (suc m) (a ∷ b ∷ []) → quiet (tokens_in k) ≡ true
        → Reads (Each a c x b)
    unfolding parted begun begin_of word_begin shaped is_name find each_of symbol keyword same first rest tokens_in word_of mark_of spoken stack children
        renumber of_kind form_of
    read_each a c x b e hx (ca, (cb, u)) q =
        room_ok _ _ h
        (then _ (section_named c _)
        (then _ (known_read _ 43 e)
        (then _ refl
        (then _ (ca.whole r _ lost _ refl)
        (then _ refl
        (then _ (variable_read r lost x _ hx)
        (then _ refl
        (then _ refl
        (then _ (cb.whole (reach 0 false) _ 42 k q) (done l (a ∷ b ∷ []) (tokens_in k) (rw (ca.number, cb.number))))))))))))

    read_truth : (s a t b u : ℕ) → t ≤ 6 → u ≤ 6 → AllReady l f (suc m) (s ∷ a ∷ b ∷ []) → Reads (TruthCase s a t b u)
    unfolding parted begun begin_of word_begin shaped is_name find case_of branches branch_of truth_case symbol keyword same first rest tokens_in word_of
        mark_of spoken children
        renumber of_kind form_of
    read_truth s a t b u ht hu (cs, (ca, (cb, z))) =
        room_ok _ _ h
        (then _ (cs.whole r _ lost _ refl)
        (then _ refl
        (then _ refl
        (then _ (ca.whole r _ lost _ (test_quiet t _ refl))
        (then _ (test_read 28 29 t _ ht refl)
        (then _ refl
        (then _ refl
        (then _ (cb.whole r _ lost _ (test_quiet u _ refl))
        (then _ (test_read 30 31 u _ hu refl)
        (then _ refl (done l (s ∷ a ∷ b ∷ []) (tokens_in k) (rw (cs.number, ca.number, cb.number)))))))))))))

    read_list : (s a t b u d e : ℕ) → t ≤ 6 → u ≤ 6 → AllReady l f (suc m) (s ∷ a ∷ b ∷ d ∷ e ∷ []) → Reads (ListCase s a t b u d e)
    unfolding parted begun begin_of word_begin shaped is_name find case_of branches branch_of list_case symbol keyword same first rest tokens_in word_of
        mark_of spoken stack called
        children renumber of_kind form_of
    read_list s a t b u d e ht hu (cs, (ca, (cb, (cd, (ce, z))))) =
        room_ok _ _ h
        (then _ (cs.whole r _ lost _ refl)
        (then _ refl
        (then _ refl
        (then _ refl
        (then _ (ca.whole r _ lost _ (test_quiet t _ refl))
        (then _ (test_read 20 21 t _ ht refl)
        (then _ refl
        (then _ (bind_read r.is_sent r.count _)
        (then _ refl
        (then _ (bind_read r.is_sent (suc r.count) _)
        (then _ refl
        (then _ refl
        (then _ (cb.whole (wide r) _ lost _ (test_quiet u _ refl))
        (then _ (test_read 24 25 u _ hu refl)
        (then _ refl
        (then _ (keyword_read (called r.is_sent r.count) 26 _)
        (then _ refl
        (then _ (cd.whole (reach 1 true) _ 41 _ refl)
        (then _ refl
        (then _ (keyword_read (called r.is_sent (suc r.count)) 27 _)
        (then _ refl
        (then _ (ce.whole (reach 1 true) _ 41 _ refl)
        (then _ refl (done l (s ∷ a ∷ b ∷ d ∷ e ∷ []) (tokens_in k)
        (rw (cs.number, ca.number, cb.number, cd.number, ce.number))))))))))))))))))))))))))

    -- THE NODE: of any kind
    pub read_node : (own nodes secs : ℕ) (n : Node) → Ranged nodes secs own n → Small (row n).body → ((j : ℕ) → j < secs → resolve (part_name j) ≡ some (ψ j))
        → AllReady l f (suc m) (children n) → quiet (tokens_in k) ≡ true → Reads n
    unfolding children
    read_node own nodes secs (Var x) g s e c q = read_var x s.0 q
    read_node own nodes secs False g s e c q = read_false
    read_node own nodes secs True g s e c q = read_true
    read_node own nodes secs Empty g s e c q = read_empty
    read_node own nodes secs (Number n) g s e c q = read_number n g.0 q
    read_node own nodes secs (Front a b) g s e c q = read_front a b c
    read_node own nodes secs (Pair a b) g s e c q = read_pair a b c
    read_node own nodes secs (ListCase a b t n u d d') g s e c q = read_list a b t n u d d' g.1.1.0 g.1.1.1.1.0 c
    read_node own nodes secs (TruthCase a b t n u) g s e c q = read_truth a b t n u g.1.1.0 g.1.1.1.1.0 c
    read_node own nodes secs (Split a b) g s e c q = read_split a b c q
    read_node own nodes secs (Call j x y) g s e c q = read_call j x y (e j g.0) s.1.0 s.1.1.0
    read_node own nodes secs (Add n a) g s e c q = read_add n a g.1.0 c q
    read_node own nodes secs (Each a j x d) g s e c q = read_each a j x d (e j g.1.0) s.1.1.0 c q
    read_node own nodes secs (Wide n) g s e c q = read_wide n g.0.0 g.0.1 q

    -- and as the rest of a list
    abbrev Ends : (q : Bool) → Node → Type 0
    Ends q n = parted resolve (read resolve f) whole (scope_of r lost) m
        (tokens_in (spoken (said sh l) (plain_node sh) q r (i + 2) n (gap (unless_plain p) ∷ sign (bytes "]") ∷ k)))
        ≡ ok (renumber ρ ψ n ∷ map anew (gathered (met_from l sh) (children n)), mark (bytes "]") ∷ tokens_in k)

    pub read_tail : (q : Bool) {n : Node} (t : TailOf n) → AllReady l f (suc m) (children n) → Ends q n
        → back (read resolve (suc f)) (scope_of r lost) m (tokens_in (tailed (said sh l) (plain_node sh) p q r i t k))
        ≡ ok (renumber ρ ψ n ∷ map anew (gathered (met_from l sh) (children n)), tokens_in k)
    unfolding back behind behind_of read parted front_of symbol same first rest tokens_in mark_of tailed children renumber of_kind form_of
    read_tail q (a_front {a} {b}) (ca, (cb, u)) w =
        room_ok _ _ h
        (then _ (ca.whole r _ lost _ (cb.quiets p r i k))
        (then _ (cb.tail p r i lost k) (done l (a ∷ b ∷ []) (tokens_in k) (rw (ca.number, cb.number)))))
    read_tail q the_end c w = room_ok _ _ h refl
    read_tail q (another {n}) c w = then _ w (then _ refl refl)
