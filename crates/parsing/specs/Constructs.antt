-- THE CONSTRUCTS: what each function of an expression asks and answers.
use Rattle.std.specs.Prelude.{◌≡◌, List, [], ◌∷◌, ℕ, suc, ◌+◌, ◌*◌, ◌≤◌, ◌<◌, length, get_or}
use Rattle.std.specs.Prelude.{Some}
use Rattle.std.proofs.Math.Option.{Option}
use Rattle.node.specs.declared.Node.{Node}
use Rattle.tokens.specs.Quoted.{bytes}
use Rattle.tokens.specs.Tokens.{Token, arrow, first}
use Rattle.syntax.specs.Reader.{Out, ok, ◌>>=◌, Name, Scope, scope, sent, symbol, bind}
use Rattle.syntax.specs.Reader.{begin_of, branch_of, whole, Nodes, Reader, pair_of, back, front_of, list_of, let_in}
use Rattle.syntax.specs.Reader.{truth_case, list_case, branches, case_of, each_of, shaped}
use Rattle.syntax.specs.Reader as reader
use Rattle.lexing.specs.Lexing.{Between, ahead, token_at, Next}
use Rattle.parsing.specs.Cursor.{Told, With, Carries}
use Rattle.parsing.specs.Names.{name_at, stack_of}
use Rattle.parsing.specs.Expect.{resolve_by, scope_at}
use Rattle.parsing.specs.Nodes.{Slots, Kept}
use Rattle.parsing.specs.Expressions.{begin_named, Stored, Below}
use Rattle.parsing.specs.declared.cursor.Cursor.{Cursor}
use Rattle.parsing.specs.declared.expr.Begin.{Begin as Begins}
use Rattle.lexing.specs.declared.Lexeme.{Lexeme}
use Rattle.parsing.specs.declared.expect.Scope.{Scope as Names}

-- WHAT IS ASKED: what is lent has its size, and there is room for two names more for each node that is left
pub record Ready (table names slots top : ℕ) (c : Cursor) : Type 0 where
  pub table_few : table ≤ 9
  pub names_long : names ≡ 416
  pub slots_long : slots ≡ 1600
  pub few : c.count ≤ 200
  pub low : top ≤ 16 + 2 * c.count

-- of a construct: its node has a number
pub record Inner (table names slots top : ℕ) (c : Cursor) : Type 0 where
  pub ready : Ready table names slots top c
  pub free : c.count < 200
  pub clear : c.code ≡ 0

-- the token that it begins with, and what that says
pub record Begun (s : List ℕ) (t : Lexeme) (b : Begins) (c : Cursor) : Type 0 where
  pub is_next : Next s c.at t
  pub coded : Some b ≡ begin_named (begin_of (token_at s t))

-- of the branches of a case, whose number is n
pub record Cased (table names slots top n : ℕ) (c : Cursor) : Type 0 where
  pub table_few : table ≤ 9
  pub names_long : names ≡ 416
  pub slots_long : slots ≡ 1600
  pub few : c.count ≤ 200
  pub after : n < c.count
  pub low : top ≤ 16 + 2 * n

-- WHAT IS ANSWERED: names below the top and nodes below the first number stay, and a definition is told. `over` is 1 for a construct, whose parts have
-- higher numbers than its own, so that the parts may go one level less deep
pub record Parsed (over : ℕ) (def : Reader → Scope → ℕ → List Token → Nodes) (s table names slots : List ℕ) (sc : Names) (c : Cursor) (names' slots' : List ℕ)
    (r : Cursor) : Type 0 where
  pub carries : Carries c r
  pub later : c.count ≤ r.count
  pub few : r.count ≤ 200
  pub below : Below (sc.base + sc.many) names names'
  pub kept : Kept c.count slots slots'
  pub told : c.code ≡ 0 → Between s c.at → sc.many ≤ 16 + c.count → (f : ℕ) → 200 ≤ over + c.count + f
      → Told s (With s (Stored slots' c.count)) (def (reader.read (resolve_by s table) f) (scope_at s names sc) c.count (ahead s c.at)) r

-- a scope, and two names more
abbrev pub with_two : Names → Names
with_two sc = record { base = sc.base; many = sc.many + 2; lost = sc.lost }

-- what the functions read
abbrev pub an_expr : Reader → Scope → ℕ → List Token → Nodes
an_expr rd S n ts = rd whole S n ts

abbrev pub a_branch : Reader → Scope → ℕ → List Token → Nodes
a_branch rd S n ts = symbol arrow 19 ts >>= λ ts₁. rd whole S n ts₁

abbrev pub a_default : Reader → Scope → ℕ → List Token → Nodes
a_default rd S n ts = symbol (bytes "=") 4 ts >>= λ ts₁. rd whole (scope (sent ∷ []) 41) n ts₁

abbrev pub by_begin : (Name → Option ℕ) → Reader → Scope → ℕ → List Token → Nodes
by_begin resolve rd S n ts = shaped resolve rd S n ts (begin_of (first ts))

module _ (s table names slots : List ℕ) (sc : Names) (c : Cursor) (names' slots' : List ℕ) (r : Cursor) where
  abbrev pub Expr : Type 0
  Expr = Parsed 0 an_expr s table names slots sc c names' slots' r

  abbrev pub Shaped : Type 0
  Shaped = Parsed 1 (by_begin (resolve_by s table)) s table names slots sc c names' slots' r

  abbrev pub Pair : Type 0
  Pair = Parsed 1 pair_of s table names slots sc c names' slots' r

  abbrev pub Listed : Type 0
  Listed = Parsed 1 list_of s table names slots sc c names' slots' r

  abbrev pub Front : Type 0
  Front = Parsed 1 front_of s table names slots sc c names' slots' r

  abbrev pub Back : Type 0
  Back = Parsed 0 back s table names slots sc c names' slots' r

  abbrev pub Let : Type 0
  Let = Parsed 1 let_in s table names slots sc c names' slots' r

  abbrev pub Each : Type 0
  Each = Parsed 1 (each_of (resolve_by s table)) s table names slots sc c names' slots' r

  abbrev pub Case : Type 0
  Case = Parsed 1 case_of s table names slots sc c names' slots' r

  abbrev pub Branch : Type 0
  Branch = Parsed 0 a_branch s table names slots sc c names' slots' r

-- `=` and a default of a case: no name but `sent`, which stands at the top
abbrev pub topped : ℕ → Names
topped top = record { base = top; many = 0; lost = 41 }

module _ (s table names slots : List ℕ) (top : ℕ) (c : Cursor) (names' slots' : List ℕ) (r : Cursor) where
  abbrev pub Default : Type 0
  Default = Parsed 0 a_default s table names slots (topped top) c names' slots' r

abbrev pub by_branch : Reader → Scope → ℕ → List Node → List Token → Nodes
by_branch rd S n x ts = branches rd (branch_of (first ts)) S n x ts

-- the branches of a case n, whose subject's nodes stand behind it
pub record Cases (def : Reader → Scope → ℕ → List Node → List Token → Nodes) (s table : List ℕ) (n : ℕ) (names slots : List ℕ) (sc : Names) (c : Cursor)
    (names' slots' : List ℕ) (r : Cursor) : Type 0 where
  pub carries : Carries c r
  pub later : c.count ≤ r.count
  pub few : r.count ≤ 200
  pub below : Below (sc.base + sc.many) names names'
  pub kept : Kept n slots slots'
  pub told : c.code ≡ 0 → Between s c.at → sc.many ≤ 16 + n → (x : List Node) → 0 < length x → Slots slots (suc n) x → c.count ≡ suc n + length x
      → (f : ℕ) → 200 ≤ suc n + f
      → Told s (With s (Stored slots' n)) (def (reader.read (resolve_by s table) f) (scope_at s names sc) n x (ahead s c.at)) r

module _ (s table : List ℕ) (n : ℕ) (names slots : List ℕ) (sc : Names) (c : Cursor) (names' slots' : List ℕ) (r : Cursor) where
  abbrev pub Branches : Type 0
  Branches = Cases by_branch s table n names slots sc c names' slots' r

  abbrev pub Truth : Type 0
  Truth = Cases truth_case s table n names slots sc c names' slots' r

  abbrev pub Lists : Type 0
  Lists = Cases list_case s table n names slots sc c names' slots' r

-- two new names
abbrev pub together : Name → Name × List Token → Out ((Name × Name) × List Token)
together x p = ok ((x, p.0), p.1)

unfoldable pub two_of : List Name → List ℕ → ℕ → List Token → Out ((Name × Name) × List Token)
two_of names m d ts =
    bind names ts >>= λ (x, ts₁). symbol m d ts₁ >>= λ ts₂. bind (x ∷ names) ts₂ >>= together x

pub record Both (s names : List ℕ) (top : ℕ) (w : Name × Name) (r : Cursor) : Type 0 where
  pub first_is : name_at s (get_or names top 0) ≡ w.0
  pub second_is : name_at s (get_or names (top + 1) 0) ≡ w.1
  pub first_some : 0 < length w.0
  pub second_some : 0 < length w.1

pub record Two (s names : List ℕ) (sc : Names) (m : List ℕ) (d : ℕ) (c : Cursor) (names' : List ℕ) (r : Cursor) : Type 0 where
  pub same_count : r.count ≡ c.count
  pub carries : Carries c r
  pub below : Below (sc.base + sc.many) names names'
  pub told : c.code ≡ 0 → Between s c.at
      → Told s (With s (Both s names' (sc.base + sc.many))) (two_of (stack_of s names sc.base sc.many) m d (ahead s c.at)) r
