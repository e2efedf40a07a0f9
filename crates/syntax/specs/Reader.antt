-- THE READER (definition.py), over tokens: which sheet they say, or which fault. A function of the grammar takes the tokens ahead and gives what it
-- read and the tokens behind it. An expression gives its nodes in the order in which they are met, the first of which has the number n: so a child's
-- number is n and as many nodes as stand before it. A scope is a stack of names; the number of a name is how many stand below it.
use Rattle.std.specs.Prelude.{Bool, true, false, not, ◌&&◌, ◌||◌, cond, List, [], ◌∷◌, ◌++◌, ℕ, zero, suc, ◌+◌, ◌*◌, ◌-◌, leb, eqb, length, get_or}
use Rattle.std.proofs.Math.Option.{Option, none, some}
use Rattle.node.specs.declared.Node.{Node}
use Rattle.node.specs.declared.Node.TheVariants.{Var, False, True, Empty, Number, Front, Pair, ListCase, TruthCase, Split, Call, Add, Each, Wide}
use Rattle.sheet.specs.Sheet.{Sheet}
use Rattle.sheet.specs.Rows.{sheet_written}
use Rattle.tokens.specs.Quoted.{bytes}
use Rattle.tokens.specs.Tokens.{Token, word, digits, hash, mark, between, arrow, tokens, places, first, rest, word_of, mark_of, same}

-- what was read, or a fault: its number, how many tokens stand from its token on, how many bytes of that token stand before it, its detail
pub data Out (A : Type 0) : Type 0 where
  ok : A → Out A
  fault : (number left inside detail : ℕ) → Out A

infixl 15 ◌>>=◌
unfoldable pub ◌>>=◌ : {A B : Type 0} → Out A → (A → Out B) → Out B
ok a >>= f = f a
fault c l i d >>= f = fault c l i d

abbrev pub Name : Type 0
Name = List ℕ

abbrev pub Read : Type 0 → Type 0
Read A = Out (A × List Token)

-- NAMES

-- the number of a name: how many stand below it
unfoldable pub find : List Name → Name → Option ℕ
find [] w = none
find (x ∷ xs) w = cond (same x w) (some (length xs)) (find xs w)

abbrev pub is_some : Option ℕ → Bool
is_some none = false
is_some (some x) = true

abbrev pub words : List Name
words =
    bytes "plan" ∷ bytes "list" ∷ bytes "section" ∷ bytes "case" ∷ bytes "of" ∷ bytes "with" ∷ bytes "default" ∷ bytes "end" ∷ bytes "let" ∷ bytes "in"
    ∷ bytes "each" ∷ bytes "true" ∷ bytes "false" ∷ []

abbrev pub wild : Name
wild = bytes "_"

abbrev pub sent : Name
sent = bytes "sent"

-- the tests, by their numbers
abbrev pub tests : List Name
tests = bytes "many" ∷ bytes "one" ∷ bytes "true" ∷ bytes "false" ∷ bytes "members" ∷ bytes "empty" ∷ bytes "any" ∷ []

abbrev pub some_byte : Name → Bool
some_byte [] = false
some_byte (c ∷ cs) = true

unfoldable pub is_name : Name → Bool
is_name w = some_byte w && (not (same w wild) && not (is_some (find words w)))

pub record Scope : Type 0 where
  pub names : List Name
  pub lost : ℕ

abbrev pub scope : List Name → ℕ → Scope
scope ns l = record { names = ns; lost = l }

-- TOKENS EXPECTED

unfoldable pub symbol : List ℕ → ℕ → List Token → Out (List Token)
symbol m d ts = cond (same (mark_of (first ts)) m) (ok (rest ts)) (fault 90 (length ts) 0 d)

unfoldable pub keyword : Name → ℕ → List Token → Out (List Token)
keyword w d ts = cond (same (word_of (first ts)) w) (ok (rest ts)) (fault 90 (length ts) 0 d)

-- a name that is new among these, or _
unfoldable pub bind : List Name → List Token → Read Name
bind names ts =
    let w = word_of (first ts) in
    cond (is_name w || same w wild)
    (cond (not (same w wild) && is_some (find names w)) (fault 92 (length ts) 0 50) (ok (w, rest ts)))
    (fault 90 (length ts) 0 2)

unfoldable pub section_name : List Token → Read Name
section_name ts = cond (is_name (word_of (first ts))) (ok (word_of (first ts), rest ts)) (fault 90 (length ts) 0 7)

unfoldable pub known : Option ℕ → ℕ → ℕ → Out ℕ
known none left d = fault 91 left 0 d
known (some x) left d = ok x

-- NUMBERS

-- the value of digits behind a number, or how many digits are left where it is too large
pub data Valued : Type 0 where
  is : ℕ → Valued
  over : ℕ → Valued

unfoldable pub value : ℕ → ℕ → List ℕ → Valued
value most v [] = is v
value most v (d ∷ ds) = cond (leb (10 * v + (d - 48)) most) (value most (10 * v + (d - 48)) ds) (over (suc (length ds)))

unfoldable pub zero_first : List ℕ → Bool
zero_first [] = false
zero_first (d ∷ []) = false
zero_first (d ∷ e ∷ ds) = eqb d 48

unfoldable pub valued : Bool → (left behind long detail : ℕ) → Valued → Out ℕ
valued b left behind long detail (is v) = cond b (fault 93 left (behind + long) 62) (ok v)
valued b left behind long detail (over r) = fault 93 left (behind + (long - r)) detail

-- digits, behind so many bytes of their token
unfoldable pub number : (most detail left behind : ℕ) → List ℕ → Bool → Out ℕ
number most detail left behind ds b = cond (zero_first ds) (fault 93 left (behind + 1) 61) (valued b left behind (length ds) detail (value most 0 ds))

unfoldable pub by_number : ℕ → List ℕ → Bool → Out ℕ
by_number left [] b = fault 90 left 1 12
by_number left (d ∷ ds) b = number 255 64 left 1 (d ∷ ds) b

unfoldable pub variable_by : Scope → ℕ → Token → Out ℕ
variable_by sc left (word w) = cond (is_name w) (known (find sc.names w) left sc.lost) (fault 90 left 0 11)
variable_by sc left (digits ds b) = fault 90 left 0 11
variable_by sc left (hash ds b) = by_number left ds b
variable_by sc left (mark m) = fault 90 left 0 11

unfoldable pub variable : Scope → List Token → Read ℕ
variable sc ts = variable_by sc (length ts) (first ts) >>= λ x. ok (x, rest ts)

-- a test, and the detail for what must follow it
unfoldable pub test_by : Option ℕ → ℕ → List Token → ℕ → Read (ℕ × ℕ)
test_by none left ts d = fault 90 left 0 23
test_by (some t) left ts d = ok ((t, d), ts)

unfoldable pub test : (bare after : ℕ) → List Token → Read (ℕ × ℕ)
test bare after ts =
    cond (same (word_of (first ts)) (bytes "with"))
    (test_by (find tests (word_of (first (rest ts)))) (length (rest ts)) (rest (rest ts)) after)
    (ok ((0, bare), ts))

-- WHAT AN EXPRESSION BEGINS WITH

pub data Begin : Type 0 where
  nothing : Begin
  a_false : Begin
  a_true : Begin
  a_let : Begin
  a_case : Begin
  an_each : Begin
  a_pair : Begin
  a_list : Begin
  a_name : Name → Begin
  a_hash : List ℕ → Bool → Begin
  a_number : List ℕ → Bool → Begin

unfoldable pub word_begin : Name → Begin
word_begin w =
    cond (is_name w) (a_name w)
    (cond (same w (bytes "false")) a_false
    (cond (same w (bytes "true")) a_true
    (cond (same w (bytes "let")) a_let (cond (same w (bytes "case")) a_case (cond (same w (bytes "each")) an_each nothing)))))

unfoldable pub begin_of : Token → Begin
begin_of (word w) = word_begin w
begin_of (digits ds b) = a_number ds b
begin_of (hash ds b) = a_hash ds b
begin_of (mark m) = cond (same m (bytes "(")) a_pair (cond (same m (bytes "[")) a_list nothing)

-- what stands behind a member of a list, and what a case's first branch is of
pub data Behind : Type 0 where
  a_comma : Behind
  a_bar : Behind
  an_end : Behind
  none_of : Behind

unfoldable pub behind_of : List ℕ → Behind
behind_of m = cond (same m (bytes ",")) a_comma (cond (same m (bytes "|")) a_bar (cond (same m (bytes "]")) an_end none_of))

pub data Branch : Type 0 where
  truths : Branch
  lists : Branch
  neither : Branch

unfoldable pub branch_of : Token → Branch
branch_of t = cond (same (word_of t) (bytes "false")) truths (cond (same (mark_of t) (bytes "[")) lists neither)

-- EXPRESSIONS

-- an expression, or a further front of a list, which begins at its comma
pub data Part : Type 0 where
  whole : Part
  more : Part

abbrev pub Nodes : Type 0
Nodes = Read (List Node)

abbrev pub Reader : Type 0
Reader = Part → Scope → ℕ → List Token → Nodes

unfoldable pub room : {A : Type 0} → ℕ → List Token → (Unit {0} → Out A) → Out A
room n ts f = cond (eqb n 200) (λ u. fault 94 (length ts) 0 72) f tt

unfoldable pub begun : ℕ → List Token → Begin → (Begin → Nodes) → Nodes
begun n ts nothing f = fault 90 (length ts) 0 5
begun n ts a_false f = room n ts λ u. f a_false
begun n ts a_true f = room n ts λ u. f a_true
begun n ts a_let f = room n ts λ u. f a_let
begun n ts a_case f = room n ts λ u. f a_case
begun n ts an_each f = room n ts λ u. f an_each
begun n ts a_pair f = room n ts λ u. f a_pair
begun n ts a_list f = room n ts λ u. f a_list
begun n ts (a_name w) f = room n ts λ u. f (a_name w)
begun n ts (a_hash ds b) f = room n ts λ u. f (a_hash ds b)
begun n ts (a_number ds b) f = room n ts λ u. f (a_number ds b)

-- a constant number: of two bytes, or of four
unfoldable pub constant : ℕ → Node
constant v = cond (leb v 65535) (Number v) (Wide v)

module _ (rd : Reader) where
  unfoldable pub pair_of : Scope → ℕ → List Token → Nodes
  pair_of sc n ts =
      rd whole sc (suc n) ts >>= λ (a, ts₁).
      symbol (bytes ",") 9 ts₁ >>= λ ts₂.
      rd whole sc (suc n + length a) ts₂ >>= λ (b, ts₃).
      symbol (bytes ")") 10 ts₃ >>= λ ts₄.
      ok (Pair (suc n) (suc n + length a) ∷ a ++ (b ++ []), ts₄)

  -- the rest of a list, at what stands behind a member
  unfoldable pub behind : Behind → Scope → ℕ → List Token → Nodes
  behind a_comma sc n ts = rd more sc n ts
  behind a_bar sc n ts =
      rd whole sc n (rest ts) >>= λ (b, ts₁).
      symbol (bytes "]") 14 ts₁ >>= λ ts₂.
      ok (b, ts₂)
  behind an_end sc n ts = room n ts λ u. ok (Empty ∷ [], rest ts)
  behind none_of sc n ts = fault 90 (length ts) 0 13

  unfoldable pub back : Scope → ℕ → List Token → Nodes
  back sc n ts = behind (behind_of (mark_of (first ts))) sc n ts

  unfoldable pub front_of : Scope → ℕ → List Token → Nodes
  front_of sc n ts =
      rd whole sc (suc n) ts >>= λ (a, ts₁).
      back sc (suc n + length a) ts₁ >>= λ (b, ts₂).
      ok (Front (suc n) (suc n + length a) ∷ a ++ (b ++ []), ts₂)

  unfoldable pub list_by : Bool → Scope → ℕ → List Token → Nodes
  list_by true sc n ts = ok (Empty ∷ [], rest ts)
  list_by false sc n ts = front_of sc n ts

  unfoldable pub list_of : Scope → ℕ → List Token → Nodes
  list_of sc n ts = list_by (same (mark_of (first ts)) (bytes "]")) sc n ts

  unfoldable pub let_in : Scope → ℕ → List Token → Nodes
  let_in sc n ts =
      symbol (bytes "(") 8 ts >>= λ ts₁.
      bind sc.names ts₁ >>= λ (x, ts₂).
      symbol (bytes ",") 9 ts₂ >>= λ ts₃.
      bind (x ∷ sc.names) ts₃ >>= λ (y, ts₄).
      symbol (bytes ")") 10 ts₄ >>= λ ts₅.
      symbol (bytes "=") 4 ts₅ >>= λ ts₆.
      rd whole sc (suc n) ts₆ >>= λ (a, ts₇).
      keyword (bytes "in") 15 ts₇ >>= λ ts₈.
      rd whole (scope (y ∷ x ∷ sc.names) sc.lost) (suc n + length a) ts₈ >>= λ (b, ts₉).
      ok (Split (suc n) (suc n + length a) ∷ a ++ (b ++ []), ts₉)

  -- an amount and what it is added to, at its plus; or a constant number
  unfoldable pub amount_by : (plus small : Bool) → Scope → ℕ → List Token → ℕ → Nodes
  amount_by true true sc n ts v = rd whole sc (suc n) (rest ts) >>= λ (a, ts₁). ok (Add (suc n) v ∷ a ++ [], ts₁)
  amount_by true false sc n ts v = fault 93 (length ts) 0 63
  amount_by false small sc n ts v = ok (constant v ∷ [], ts)

  unfoldable pub amount_of : Scope → ℕ → List Token → ℕ → Nodes
  amount_of sc n ts v = amount_by (same (mark_of (first ts)) (bytes "+")) (leb v 65535) sc n ts v

  unfoldable pub truth_case : Scope → ℕ → List Node → List Token → Nodes
  truth_case sc n s ts =
      symbol arrow 19 ts >>= λ ts₁.
      rd whole sc (suc n + length s) ts₁ >>= λ (a, ts₂).
      test 28 29 ts₂ >>= λ (t, ts₃).
      keyword (bytes "true") t.1 ts₃ >>= λ ts₄.
      symbol arrow 19 ts₄ >>= λ ts₅.
      rd whole sc (suc n + length s + length a) ts₅ >>= λ (b, ts₆).
      test 30 31 ts₆ >>= λ (u, ts₇).
      keyword (bytes "end") u.1 ts₇ >>= λ ts₈.
      ok (TruthCase (suc n) (suc n + length s) t.0 (suc n + length s + length a) u.0 ∷ s ++ (a ++ (b ++ [])), ts₈)

  unfoldable pub list_case : Scope → ℕ → List Node → List Token → Nodes
  list_case sc n s ts =
      let i = suc n + length s in
      symbol (bytes "]") 18 ts >>= λ ts₁.
      symbol arrow 19 ts₁ >>= λ ts₂.
      rd whole sc i ts₂ >>= λ (a, ts₃).
      test 20 21 ts₃ >>= λ (t, ts₄).
      symbol (bytes "[") t.1 ts₄ >>= λ ts₅.
      bind sc.names ts₅ >>= λ (x, ts₆).
      symbol (bytes "|") 22 ts₆ >>= λ ts₇.
      bind (x ∷ sc.names) ts₇ >>= λ (y, ts₈).
      symbol (bytes "]") 14 ts₈ >>= λ ts₉.
      symbol arrow 19 ts₉ >>= λ us₀.
      rd whole (scope (y ∷ x ∷ sc.names) sc.lost) (i + length a) us₀ >>= λ (b, us₁).
      test 24 25 us₁ >>= λ (u, us₂).
      keyword (bytes "default") u.1 us₂ >>= λ us₃.
      keyword x 26 us₃ >>= λ us₄.
      symbol (bytes "=") 4 us₄ >>= λ us₅.
      rd whole (scope (sent ∷ []) 41) (i + length a + length b) us₅ >>= λ (f, us₆).
      symbol (bytes ",") 9 us₆ >>= λ us₇.
      keyword y 27 us₇ >>= λ us₈.
      symbol (bytes "=") 4 us₈ >>= λ us₉.
      rd whole (scope (sent ∷ []) 41) (i + length a + length b + length f) us₉ >>= λ (r, vs₀).
      keyword (bytes "end") 31 vs₀ >>= λ vs₁.
      ok (
        ListCase (suc n) i t.0 (i + length a) u.0 (i + length a + length b) (i + length a + length b + length f)
            ∷ s ++ (a ++ (b ++ (f ++ (r ++ [])))),
        vs₁,
      )

  unfoldable pub branches : Branch → Scope → ℕ → List Node → List Token → Nodes
  branches truths sc n s ts = truth_case sc n s (rest ts)
  branches lists sc n s ts = list_case sc n s (rest ts)
  branches neither sc n s ts = fault 90 (length ts) 0 17

  unfoldable pub case_of : Scope → ℕ → List Token → Nodes
  case_of sc n ts =
      rd whole sc (suc n) ts >>= λ (s, ts₁).
      keyword (bytes "of") 16 ts₁ >>= λ ts₂.
      branches (branch_of (first ts₂)) sc n s ts₂

-- the number of each section's name; what is not among them is refused (91)
module _ (resolve : Name → Option ℕ) where
  -- behind its bracket; left: at its name
  unfoldable pub call_of : Name → ℕ → Scope → List Token → Nodes
  call_of w left sc ts =
      known (resolve w) left 43 >>= λ c.
      variable sc ts >>= λ (x, ts₁).
      symbol (bytes ",") 9 ts₁ >>= λ ts₂.
      variable sc ts₂ >>= λ (y, ts₃).
      symbol (bytes ")") 10 ts₃ >>= λ ts₄.
      ok (Call c x y ∷ [], ts₄)

  unfoldable pub each_of : Reader → Scope → ℕ → List Token → Nodes
  each_of rd sc n ts =
      section_name ts >>= λ (w, ts₁).
      known (resolve w) (length ts) 43 >>= λ c.
      symbol (bytes "(") 8 ts₁ >>= λ ts₂.
      rd whole sc (suc n) ts₂ >>= λ (a, ts₃).
      symbol (bytes ",") 9 ts₃ >>= λ ts₄.
      variable sc ts₄ >>= λ (x, ts₅).
      symbol (bytes ")") 10 ts₅ >>= λ ts₆.
      keyword (bytes "default") 25 ts₆ >>= λ ts₇.
      rd whole (scope [] 42) (suc n + length a) ts₇ >>= λ (d, ts₈).
      ok (Each (suc n) c x (suc n + length a) ∷ a ++ (d ++ []), ts₈)

  unfoldable pub named : Name → Scope → List Token → Nodes
  named w sc ts =
      cond (same (mark_of (first (rest ts))) (bytes "(")) (call_of w (length ts) sc (rest (rest ts)))
      (variable sc ts >>= λ (x, ts₁). ok (Var x ∷ [], ts₁))

  unfoldable pub shaped : Reader → Scope → ℕ → List Token → Begin → Nodes
  shaped rd sc n ts nothing = fault 90 (length ts) 0 5
  shaped rd sc n ts a_false = ok (False ∷ [], rest ts)
  shaped rd sc n ts a_true = ok (True ∷ [], rest ts)
  shaped rd sc n ts a_let = let_in rd sc n (rest ts)
  shaped rd sc n ts a_case = case_of rd sc n (rest ts)
  shaped rd sc n ts an_each = each_of rd sc n (rest ts)
  shaped rd sc n ts a_pair = pair_of rd sc n (rest ts)
  shaped rd sc n ts a_list = list_of rd sc n (rest ts)
  shaped rd sc n ts (a_name w) = named w sc ts
  shaped rd sc n ts (a_hash ds b) = variable sc ts >>= λ (x, ts₁). ok (Var x ∷ [], ts₁)
  shaped rd sc n ts (a_number ds b) = number 4294967295 60 (length ts) 0 ds b >>= λ v. amount_of rd sc n (rest ts) v

  unfoldable pub parted : Reader → Reader
  parted rd whole sc n ts = begun n ts (begin_of (first ts)) (shaped rd sc n ts)
  parted rd more sc n ts = room n ts λ u. front_of rd sc n (rest ts)

  -- (each level is a node, and the 201st is refused: so many levels are enough)
  unfoldable pub read : ℕ → Reader
  read zero = parted λ p sc n ts. fault 94 (length ts) 0 72
  read (suc f) = parted (read f)

-- THE WHOLE TEXT

-- the names of the plan's values, of which so many more may come; these are behind us
unfoldable pub plan : ℕ → List Name → List Token → Read (List Name)
plan zero names ts =
    let w = word_of (first ts) in
    cond (is_name w || same w wild) (fault 94 (length ts) 0 70) (fault 90 (length ts) 0 2)
plan (suc l) names ts =
    bind names ts >>= λ (w, ts₁).
    cond (same (mark_of (first ts₁)) (bytes ",")) (plan l (w ∷ names) (rest ts₁)) (ok (w ∷ names, ts₁))

-- the sections: their names, their roots and their nodes
pub record Sections : Type 0 where
  pub names : List Name
  pub roots : List ℕ
  pub nodes : List Node

unfoldable pub unknown : Option ℕ → ℕ → Out (Unit {0})
unknown none left = ok tt
unknown (some x) left = fault 92 left 0 51

module _ (resolve : Name → Option ℕ) where
  -- a section: its name and its nodes
  unfoldable pub section : List Name → ℕ → List Token → Read (Name × List Node)
  section names n ts =
      section_name ts >>= λ (w, ts₁).
      unknown (find names w) (length ts) >>= λ u.
      symbol (bytes "(") 8 ts₁ >>= λ ts₂.
      bind [] ts₂ >>= λ (x, ts₃).
      symbol (bytes ",") 9 ts₃ >>= λ ts₄.
      bind (x ∷ []) ts₄ >>= λ (y, ts₅).
      symbol (bytes ")") 10 ts₅ >>= λ ts₆.
      symbol (bytes "=") 4 ts₆ >>= λ ts₇.
      read resolve 200 whole (scope (y ∷ x ∷ []) 40) n ts₇ >>= λ (a, ts₈).
      ok ((w, a), ts₈)

  -- of which so many more may come
  unfoldable pub sections : ℕ → List Name → ℕ → List Token → Out Sections
  sections zero names n [] = ok (record { names = names; roots = []; nodes = [] })
  sections zero names n (t ∷ ts) = cond (same (word_of t) (bytes "section")) (fault 94 (suc (length ts)) 0 71) (fault 90 (suc (length ts)) 0 6)
  sections (suc l) names n [] = ok (record { names = names; roots = []; nodes = [] })
  sections (suc l) names n (t ∷ ts) =
      keyword (bytes "section") 6 (t ∷ ts) >>= λ ts₁.
      section names n ts₁ >>= λ ((w, a), ts₂).
      sections l (w ∷ names) (n + length a) ts₂ >>= λ r.
      ok (record { names = r.names; roots = n ∷ r.roots; nodes = a ++ r.nodes })

  unfoldable pub text_of_tokens : List Token → Out (List Name × Sheet)
  text_of_tokens ts =
      keyword (bytes "plan") 1 ts >>= λ ts₁.
      plan 16 [] ts₁ >>= λ (names, ts₂).
      keyword (bytes "list") 3 ts₂ >>= λ ts₃.
      symbol (bytes "=") 4 ts₃ >>= λ ts₄.
      read resolve 200 whole (scope names 40) 0 ts₄ >>= λ (a, ts₅).
      sections 8 [] (length a) ts₅ >>= λ r.
      ok (r.names, record { k = length names; root = 0; sections = r.roots; nodes = a ++ r.nodes })

-- read once for the names of the sections, and once more with them
unfoldable pub sheet_of_tokens : List Token → Out Sheet
sheet_of_tokens ts =
    text_of_tokens (λ w. some 0) ts >>= λ (names, sh).
    text_of_tokens (find names) ts >>= λ (names', sh').
    ok sh'

-- A TEXT: the sheet's bytes, or the refusal's number, its place and its detail
pub data Said : Type 0 where
  says : List ℕ → Said
  refused : (number place detail : ℕ) → Said

unfoldable pub placed : List ℕ → Out Sheet → Said
placed t (ok sh) = says (sheet_written sh)
placed t (fault c left inside d) = let ps = places 0 between t in refused c (get_or ps (length ps - left) (length t) + inside) d

unfoldable pub sheet_of : List ℕ → Said
sheet_of t = placed t (sheet_of_tokens (tokens between t))
