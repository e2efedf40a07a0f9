-- THE KINDS OF NODES (document 01, "Sheet records"; docs/SHEETS.md, "All kinds on one page"). A kind is one row: its byte and the fields of
-- its body in order. All else is read off the row.
use Rattle.std.specs.Prelude.{Bool, true, false, ◌&&◌, List, [], ◌∷◌, ◌++◌, map, ℕ, zero, suc, ◌+◌, ◌*◌, ◌/◌, ◌%◌, leb, ltb, eqb, get_or, replicate}
use Rattle.std.proofs.Math.Option.{Option, none, some}
use Rattle.node.specs.declared.Node.{Node}
use Rattle.node.specs.declared.Node.TheVariants.{Var, False, True, Empty, Number, Front, Pair, ListCase, TruthCase, Split, Call, Add, Each, Wide}

-- what a field of a body is: one byte, and a number two or, where it is a wide one, four, the high byte first
pub data Role : Type 0 where
  a_node : Role
  a_section : Role
  a_variable : Role
  a_test : Role
  a_number : Role
  a_wide : Role

pub record Field : Type 0 where
  pub role : Role
  pub value : ℕ

infixl 20 ◌of◌
abbrev pub ◌of◌ : Role → ℕ → Field
r of v = record { role = r; value = v }

pub record Row : Type 0 where
  pub kind : ℕ
  pub body : List Field

infixl 20 ◌is◌
abbrev pub ◌is◌ : ℕ → List Field → Row
k is fs = record { kind = k; body = fs }

abbrev pub node : ℕ → Field
node v = a_node of v

abbrev pub section : ℕ → Field
section v = a_section of v

abbrev pub variable : ℕ → Field
variable v = a_variable of v

abbrev pub test : ℕ → Field
test v = a_test of v

abbrev pub number : ℕ → Field
number v = a_number of v

abbrev pub wide : ℕ → Field
wide v = a_wide of v

-- THE ROWS
abbrev pub row : Node → Row
row (Var x) = 0x10 is (variable x ∷ [])
row False = 0x11 is []
row True = 0x12 is []
row Empty = 0x13 is []
row (Number n) = 0x14 is (number n ∷ [])
row (Front a b) = 0x15 is (node a ∷ node b ∷ [])
row (Pair a b) = 0x16 is (node a ∷ node b ∷ [])
row (ListCase s e te n tn df dr) = 0x17 is (node s ∷ node e ∷ test te ∷ node n ∷ test tn ∷ node df ∷ node dr ∷ [])
row (TruthCase s f tf t tt) = 0x18 is (node s ∷ node f ∷ test tf ∷ node t ∷ test tt ∷ [])
row (Split s i) = 0x19 is (node s ∷ node i ∷ [])
row (Call c x y) = 0x1A is (section c ∷ variable x ∷ variable y ∷ [])
row (Add n a) = 0x1B is (node n ∷ number a ∷ [])
row (Each s c x d) = 0x1C is (node s ∷ section c ∷ variable x ∷ node d ∷ [])
row (Wide n) = 0x1D is (wide n ∷ [])

-- a node for each choice of n values
abbrev pub Maker : ℕ → Type 0
Maker zero = Node
Maker (suc n) = ℕ → Maker n

pub record Form : Type 0 where
  pub fields : ℕ
  pub maker : Maker fields

abbrev pub form : (n : ℕ) → Maker n → Option Form
form n m = some (record { fields = n; maker = m })

-- the constructors with the number of their fields, kinds 10 to 1D in order
abbrev pub forms : List (Option Form)
forms =
    form 1 Var ∷ form 0 False ∷ form 0 True ∷ form 0 Empty ∷ form 1 Number ∷ form 2 Front ∷ form 2 Pair
    ∷ form 7 ListCase ∷ form 5 TruthCase ∷ form 2 Split ∷ form 3 Call ∷ form 2 Add ∷ form 4 Each ∷ form 1 Wide ∷ []

-- the first byte behind them
abbrev pub past : ℕ
past = 0x1E

-- the form of a kind byte: of a known one it computes, and `form_of` is the same, shut
abbrev pub form_at : ℕ → Option Form
form_at b = get_or (replicate 16 none ++ forms) b none

unfoldable pub form_of : ℕ → Option Form
form_of b = form_at b

-- READ OFF THE ROW

-- the bytes of a field, its value from its first bytes, and its bytes
abbrev pub size : Role → ℕ
size a_node = 1
size a_section = 1
size a_variable = 1
size a_test = 1
size a_number = 2
size a_wide = 4

abbrev pub value_of : Role → (ℕ → ℕ) → ℕ
value_of a_node b = b 0
value_of a_section b = b 0
value_of a_variable b = b 0
value_of a_test b = b 0
value_of a_number b = 256 * b 0 + b 1
value_of a_wide b = 256 * (256 * (256 * b 0 + b 1) + b 2) + b 3

abbrev pub bytes_of : Role → ℕ → List ℕ
bytes_of a_node v = v ∷ []
bytes_of a_section v = v ∷ []
bytes_of a_variable v = v ∷ []
bytes_of a_test v = v ∷ []
bytes_of a_number v = v / 256 ∷ v % 256 ∷ []
bytes_of a_wide v = v / 256 / 256 / 256 ∷ v / 256 / 256 % 256 ∷ v / 256 % 256 ∷ v % 256 ∷ []

abbrev pub sizes : List Role → ℕ
sizes [] = 0
sizes (r ∷ rs) = size r + sizes rs

abbrev pub values_of : List Role → (ℕ → ℕ) → List ℕ
values_of [] b = []
values_of (r ∷ rs) b = value_of r b ∷ values_of rs (λ i. b (size r + i))

abbrev pub body_bytes : List Field → List ℕ
body_bytes [] = []
body_bytes (f ∷ fs) = bytes_of f.role f.value ++ body_bytes fs

abbrev pub roles : List Field → List Role
roles = map (λ (f : Field). f.role)

abbrev pub values : List Field → List ℕ
values = map (λ (f : Field). f.value)

-- the constructor of these values; 0 stands for one that is missing
abbrev pub apply : (n : ℕ) → Maker n → List ℕ → Node
apply zero m vs = m
apply (suc n) m [] = apply n (m 0) []
apply (suc n) m (v ∷ vs) = apply n (m v) vs

abbrev pub made : Form → List ℕ → Node
made f = apply f.fields f.maker

abbrev pub roles_of : Form → List Role
roles_of f = roles (row (made f [])).body

-- how many bytes follow the kind, and the node that they make
unfoldable pub body_width : Form → ℕ
body_width f = sizes (roles_of f)

unfoldable pub make : Form → (ℕ → ℕ) → Node
make f b = made f (values_of (roles_of f) b)

-- the bytes of a node's record: how many, and which
unfoldable pub width : Node → ℕ
width n = suc (sizes (roles (row n).body))

unfoldable pub written : Node → List ℕ
written n = (row n).kind ∷ body_bytes (row n).body

-- the numbers of one role, in body order
abbrev pub place : Role → ℕ
place a_node = 0
place a_section = 1
place a_variable = 2
place a_test = 3
place a_number = 4
place a_wide = 5

abbrev pub keep : Bool → ℕ → List ℕ → List ℕ
keep true v vs = v ∷ vs
keep false v vs = vs

abbrev pub pick : Role → List Field → List ℕ
pick r [] = []
pick r (f ∷ fs) = keep (eqb (place f.role) (place r)) f.value (pick r fs)

unfoldable pub children : Node → List ℕ
children n = pick a_node (row n).body

unfoldable pub calls : Node → List ℕ
calls n = pick a_section (row n).body

unfoldable pub variables : Node → List ℕ
variables n = pick a_variable (row n).body

-- NUMBERS IN RANGE: a node that node `own` names has a higher number
module _ (nodes sections : ℕ) where
  abbrev pub fits : ℕ → Role → ℕ → Bool
  fits own a_node v = ltb own v && ltb v nodes
  fits own a_section v = ltb v sections
  fits own a_variable v = true
  fits own a_test v = leb v 6
  fits own a_number v = leb v 65535  -- (two bytes hold no other)
  fits own a_wide v = ltb 65535 v && leb v 4294967295  -- (four bytes hold none above)

  abbrev pub all_fit : ℕ → List Field → Bool
  all_fit own [] = true
  all_fit own (f ∷ fs) = fits own f.role f.value && all_fit own fs

  unfoldable pub node_in_range : ℕ → Node → Bool
  node_in_range own n = all_fit own (row n).body
