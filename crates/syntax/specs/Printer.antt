-- THE PRINTER (docs/SHEETS.md, "The text of a sheet"): each function says a thing before what follows it, in pieces, which are tokens and gaps between them.
-- Names are its own: variable x is a .. z, a1 .. z1, a2 .., by its number alone; in a default of a case variable 0 is `sent`; a variable out of scope
-- is #x; section i is part i. What has no case in it stands on one line; no line is indented by more than 32 blanks.
use Rattle.std.specs.Prelude.{Bool, true, false, ◌&&◌, cond, List, [], ◌∷◌, ◌++◌, ℕ, zero, suc, pred, min, ◌+◌, ◌/◌, ◌%◌, ltb, length, replicate}
use Rattle.node.specs.declared.Node.{Node}
use Rattle.node.specs.declared.Node.TheVariants.{Var, False, True, Empty, Number, Front, Pair, ListCase, TruthCase, Split, Call, Add, Each, Wide}
use Rattle.node.specs.Kinds.{children}
use Rattle.sheet.specs.Sheet.{Sheet}
use Rattle.preorder.specs.Numbering.{node_of}
use Rattle.tokens.specs.Quoted.{bytes}
use Rattle.tokens.specs.Tokens.{Token, word, digits, hash, mark, arrow}
use Rattle.syntax.specs.Reader.{Name, sent}

-- PIECES

pub data Piece : Type 0 where
  tok : Token → Piece
  gap : List ℕ → Piece

-- the tokens among them
unfoldable pub tokens_in : List Piece → List Token
tokens_in [] = []
tokens_in (tok t ∷ ps) = t ∷ tokens_in ps
tokens_in (gap g ∷ ps) = tokens_in ps

abbrev pub the : List ℕ → Piece
the w = tok (word w)

abbrev pub sign : List ℕ → Piece
sign m = tok (mark m)

abbrev pub space : Piece
space = gap (bytes " ")

abbrev pub line : ℕ → List ℕ
line i = 10 ∷ replicate (min i 32) 32

-- where a thing with no case in it has so many blanks, and another a new line
abbrev pub or_line : Bool → List ℕ → ℕ → List ℕ
or_line true g i = g
or_line false g i = line i

abbrev pub unless_plain : Bool → List ℕ
unless_plain true = []
unless_plain false = bytes " "

-- NUMBERS: in decimal, before these bytes. (A number has fewer digits than it says, so it is fuel enough)
unfoldable pub dec_by : Bool → ℕ → (Unit {0} → List ℕ) → List ℕ → List ℕ
dec_by true n go acc = (48 + n) ∷ acc
dec_by false n go acc = go tt

unfoldable pub dec : ℕ → ℕ → List ℕ → List ℕ
dec zero n acc = acc
dec (suc f) n acc = dec_by (ltb n 10) n (λ u. dec f (n / 10) ((48 + n % 10) ∷ acc)) acc

unfoldable pub decimal : ℕ → List ℕ
decimal n = dec (suc n) n []

-- NAMES

unfoldable pub suffix : ℕ → List ℕ
suffix zero = []
suffix (suc q) = decimal (suc q)

unfoldable pub name_of : ℕ → Name
name_of x = (97 + x % 26) ∷ suffix (x / 26)

unfoldable pub part_name : ℕ → Name
part_name i = bytes "part" ++ decimal i

-- how many variables there are, and whether the first is what was sent
pub record Reach : Type 0 where
  pub count : ℕ
  pub is_sent : Bool

abbrev pub reach : ℕ → Bool → Reach
reach k s = record { count = k; is_sent = s }

unfoldable pub called : Bool → ℕ → Name
called false x = name_of x
called true zero = sent
called true (suc x) = name_of (suc x)

unfoldable pub variable_said : Reach → ℕ → Token
variable_said r x = cond (ltb x r.count) (word (called r.is_sent x)) (hash (decimal x) false)

abbrev pub binder : Reach → ℕ → Piece
binder r x = the (called r.is_sent x)

abbrev pub wide : Reach → Reach
wide r = reach (suc (suc r.count)) r.is_sent

unfoldable pub test_name : ℕ → Name
test_name zero = bytes "any"
test_name (suc zero) = bytes "empty"
test_name (suc (suc zero)) = bytes "members"
test_name (suc (suc (suc zero))) = bytes "false"
test_name (suc (suc (suc (suc zero)))) = bytes "true"
test_name (suc (suc (suc (suc (suc zero))))) = bytes "one"
test_name (suc (suc (suc (suc (suc (suc n)))))) = bytes "many"

-- `with any` is left out
unfoldable pub test_said : ℕ → List Piece → List Piece
test_said zero k = k
test_said (suc t) k = space ∷ the (bytes "with") ∷ space ∷ the (test_name (suc t)) ∷ k

-- NODES

pub data TailOf : Node → Type 0 where
  a_front : {a b : ℕ} → TailOf (Front a b)
  the_end : TailOf Empty
  another : {n : Node} → TailOf n

unfoldable pub tail_of : (n : Node) → TailOf n
tail_of (Var x) = another
tail_of False = another
tail_of True = another
tail_of Empty = the_end
tail_of (Number n) = another
tail_of (Front a b) = a_front
tail_of (Pair a b) = another
tail_of (ListCase s e te n tn df dr) = another
tail_of (TruthCase s f tf t tu) = another
tail_of (Split s i) = another
tail_of (Call c x y) = another
tail_of (Add n a) = another
tail_of (Each s c x d) = another
tail_of (Wide n) = another

-- is there no case in it?
unfoldable pub no_case : Node → Bool
no_case (Var x) = true
no_case False = true
no_case True = true
no_case Empty = true
no_case (Number n) = true
no_case (Front a b) = true
no_case (Pair a b) = true
no_case (ListCase s e te n tn df dr) = false
no_case (TruthCase s f tf t tu) = false
no_case (Split s i) = true
no_case (Call c x y) = true
no_case (Add n a) = true
no_case (Each s c x d) = true
no_case (Wide n) = true

unfoldable pub all_plain : (ℕ → Bool) → List ℕ → Bool
all_plain plain [] = true
all_plain plain (n ∷ ns) = plain n && all_plain plain ns

unfoldable pub plain_from : ℕ → Sheet → ℕ → Bool
plain_from zero sh n = true
plain_from (suc l) sh n = no_case (node_of sh n) && all_plain (plain_from l sh) (children (node_of sh n))

-- a node alone, or as the rest of a list, which has no case in it or has one
pub data Where : Type 0 where
  alone : Where
  in_list : Bool → Where

abbrev pub Speaker : Type 0
Speaker = Where → Reach → ℕ → ℕ → List Piece → List Piece

module _ (say : Speaker) (plain : ℕ → Bool) where
  -- behind an arrow or an `=`: on the same line, or on lines of its own
  abbrev pub body_said : Reach → ℕ → ℕ → List Piece → List Piece
  body_said r i n k = gap (or_line (plain n) (bytes " ") i) ∷ say alone r i n k

  -- the node, p where there is no case in it; a line of it is indented by i
  unfoldable pub spoken : Bool → Reach → ℕ → Node → List Piece → List Piece
  spoken p r i (Var x) k = tok (variable_said r x) ∷ k
  spoken p r i False k = the (bytes "false") ∷ k
  spoken p r i True k = the (bytes "true") ∷ k
  spoken p r i Empty k = sign (bytes "[") ∷ sign (bytes "]") ∷ k
  spoken p r i (Number n) k = tok (digits (decimal n) false) ∷ k
  spoken p r i (Front a b) k = sign (bytes "[") ∷ gap (unless_plain p) ∷ say alone r (i + 2) a (say (in_list p) r i b k)
  spoken p r i (Pair a b) k =
      sign (bytes "(") ∷ gap (unless_plain p) ∷ say alone r (i + 2) a (
      gap (or_line p [] i) ∷ sign (bytes ",") ∷ space ∷ say alone r (i + 2) b (
      gap (unless_plain p) ∷ sign (bytes ")") ∷ k))
  spoken p r i (ListCase s e te n tn df dr) k =
      let x = called r.is_sent r.count in
      let y = called r.is_sent (suc r.count) in
      the (bytes "case") ∷ space ∷ say alone r (i + 2) s (space ∷ the (bytes "of") ∷ gap (line (i + 2))
      ∷ sign (bytes "[") ∷ sign (bytes "]") ∷ gap (replicate (length x + length y + 4) 32) ∷ sign arrow ∷ body_said r (i + 4) e (test_said te (
      gap (line (i + 2)) ∷ sign (bytes "[") ∷ the x ∷ space ∷ sign (bytes "|") ∷ space ∷ the y ∷ sign (bytes "]") ∷ space ∷ sign arrow
      ∷ body_said (wide r) (i + 4) n (test_said tn (
      gap (line (i + 4)) ∷ the (bytes "default") ∷ space ∷ the x ∷ space ∷ sign (bytes "=") ∷ body_said (reach 1 true) (i + 6) df (
      sign (bytes ",") ∷ space ∷ the y ∷ space ∷ sign (bytes "=") ∷ body_said (reach 1 true) (i + 6) dr (
      gap (line i) ∷ the (bytes "end") ∷ k)))))))
  spoken p r i (TruthCase s f tf t tu) k =
      the (bytes "case") ∷ space ∷ say alone r (i + 2) s (space ∷ the (bytes "of")
      ∷ gap (line (i + 2)) ∷ the (bytes "false") ∷ space ∷ sign arrow ∷ body_said r (i + 4) f (test_said tf (
      gap (line (i + 2)) ∷ the (bytes "true") ∷ gap (bytes "  ") ∷ sign arrow ∷ body_said r (i + 4) t (test_said tu (
      gap (line i) ∷ the (bytes "end") ∷ k)))))
  spoken p r i (Split s n) k =
      the (bytes "let") ∷ space ∷ sign (bytes "(") ∷ binder r r.count ∷ sign (bytes ",") ∷ space ∷ binder r (suc r.count) ∷ sign (bytes ")")
      ∷ space ∷ sign (bytes "=") ∷ space ∷ say alone r (i + 2) s (
      space ∷ the (bytes "in") ∷ gap (or_line p (bytes " ") i) ∷ say alone (wide r) i n k)
  spoken p r i (Call c x y) k =
      the (part_name c) ∷ sign (bytes "(") ∷ tok (variable_said r x) ∷ sign (bytes ",") ∷ space ∷ tok (variable_said r y) ∷ sign (bytes ")") ∷ k
  spoken p r i (Add n a) k = tok (digits (decimal a) false) ∷ space ∷ sign (bytes "+") ∷ space ∷ say alone r i n k
  spoken p r i (Each s c x d) k =
      the (bytes "each") ∷ space ∷ the (part_name c) ∷ sign (bytes "(") ∷ say alone r (i + 2) s (
      sign (bytes ",") ∷ space ∷ tok (variable_said r x) ∷ sign (bytes ")") ∷ space ∷ the (bytes "default") ∷ space ∷ say alone (reach 0 false) (i + 2) d k)
  spoken p r i (Wide n) k = tok (digits (decimal n) false) ∷ k

  -- the rest of a list, behind a member; p where the list has no case in it, q where the rest has none
  unfoldable pub tailed : (p q : Bool) → Reach → ℕ → {n : Node} → TailOf n → List Piece → List Piece
  tailed p q r i (a_front {a} {b}) k = gap (or_line p [] i) ∷ sign (bytes ",") ∷ space ∷ say alone r (i + 2) a (say (in_list p) r i b k)
  tailed p q r i the_end k = gap (unless_plain p) ∷ sign (bytes "]") ∷ k
  tailed p q r i (another {n}) k =
      gap (or_line p (bytes " ") i) ∷ sign (bytes "|") ∷ space ∷ spoken q r (i + 2) n (gap (unless_plain p) ∷ sign (bytes "]") ∷ k)

-- the node n, with l levels: as many as nodes are enough
module _ (sh : Sheet) where
  abbrev pub plain_node : ℕ → Bool
  plain_node = plain_from (length sh.nodes) sh

  unfoldable pub said : ℕ → Speaker
  said zero w r i n k = k
  said (suc l) alone r i n k = spoken (said l) plain_node (plain_node n) r i (node_of sh n) k
  said (suc l) (in_list p) r i n k = tailed (said l) plain_node p (plain_node n) r i (tail_of (node_of sh n)) k

  -- a root
  abbrev pub root_said : Reach → ℕ → List Piece → List Piece
  root_said r n k = body_said (said (length sh.nodes)) plain_node r 2 n k

-- THE WHOLE SHEET

-- the plan's names from i on, and so many more
unfoldable pub plan_said : ℕ → ℕ → List Piece → List Piece
plan_said i zero k = the (called false i) ∷ k
plan_said i (suc l) k = the (called false i) ∷ sign (bytes ",") ∷ space ∷ plan_said (suc i) l k

unfoldable pub sections_said : Sheet → ℕ → List ℕ → List Piece
sections_said sh i [] = gap (bytes "\n") ∷ []
sections_said sh i (n ∷ ns) =
    gap (bytes "\n\n") ∷ the (bytes "section") ∷ space ∷ the (part_name i) ∷ sign (bytes "(") ∷ the (called false 0) ∷ sign (bytes ",") ∷ space
    ∷ the (called false 1) ∷ sign (bytes ")") ∷ space ∷ sign (bytes "=") ∷ root_said sh (reach 2 false) n (sections_said sh (suc i) ns)

unfoldable pub sheet_said : Sheet → List Piece
sheet_said sh =
    the (bytes "plan") ∷ space ∷ plan_said 0 (pred sh.k) (gap (bytes "\n") ∷ the (bytes "list") ∷ space ∷ sign (bytes "=")
    ∷ root_said sh (reach sh.k false) sh.root (sections_said sh 0 sh.sections))
