-- EXPRESSIONS: what the functions of the constructs answer, each from the answers of those that it calls.
use Rattle.std.specs.Prelude.{◌≡◌, Bool, cond, List, [], ◌∷◌, ℕ, zero, suc, ◌+◌, ◌*◌, ◌/◌, ◌%◌, ◌≤◌, ◌<◌, eqb, length, take, drop}
use Rattle.std.proofs.Math.Path.{refl}
use Rattle.std.proofs.Common.{arith, mod-eq_of_lt}
use Rattle.std.proofs.Math.Bool.{true, false}
use Rattle.std.specs.Prelude as std
use Rattle.std.specs.Prelude.{Some, None}
use Rattle.std.proofs.lemmas.List.Edits.{sets}
use borrow.Author.Tests.{ne_eqb, le-leb, lt-leb}
use Rattle.node.specs.declared.Node.{Node}
use Rattle.node.specs.declared.Node.TheVariants as node
use Rattle.node.specs.Kinds.{width, written}
use Rattle.tokens.specs.Quoted.{bytes}
use Rattle.tokens.specs.Tokens.{Token, mark, arrow, word_of, same}
use Rattle.syntax.specs.Reader.{Out, ok, ◌>>=◌, Scope, is_name, symbol, variable}
use Rattle.syntax.specs.Reader.{Begin, nothing, a_false, a_true, a_let, a_case, an_each, a_pair, a_list, a_name, a_hash, a_number, word_begin, begin_of}
use Rattle.syntax.specs.Reader.{Nodes, constant}
use Rattle.syntax.specs.Reader.{call_of}
use Rattle.tokens.specs.Ahead.{letter_first, place_at}
use Rattle.lexing.specs.Lexing.{Between, ahead, part, token_of, token_at}
use Rattle.parsing.specs.Cursor.{entered, Told, on, Behind, With, Carries, carries_then, Goes, told_then}
use Rattle.parsing.specs.Names.{same_sym}
use Rattle.parsing.specs.Expect.{marked, IsVariable, resolve_by}
use Rattle.parsing.specs.Expect.{Resolves, scope_at}
use Rattle.parsing.specs.Nodes.{Slots, none as no_slots, Kept, store_kept, store_more}
use Rattle.parsing.specs.declared.cursor.Cursor.{Cursor}
use Rattle.parsing.specs.declared.expr.Begin.{Begin as Begins}
use Rattle.parsing.specs.declared.expr.Begin.TheVariants as begins
use Rattle.lexing.specs.declared.Kind.{Kind}
use Rattle.lexing.specs.declared.Kind.TheVariants as kind
use Rattle.lexing.specs.declared.Lexeme.{Lexeme}
use Rattle.parsing.specs.declared.expect.Scope.{Scope as Names}

-- WHAT AN EXPRESSION BEGINS WITH, as code has it
unfoldable pub begin_named : Begin → std.Option Begins
begin_named nothing = None
begin_named a_false = Some begins.False
begin_named a_true = Some begins.True
begin_named a_let = Some begins.Let
begin_named a_case = Some begins.Case
begin_named an_each = Some begins.Each
begin_named a_pair = Some begins.Pair
begin_named a_list = Some begins.List
begin_named (a_name w) = Some begins.Name
begin_named (a_hash ds b) = Some begins.Hash
begin_named (a_number ds b) = Some begins.Number

-- what is said besides: a name, or digits and whether a letter stands behind them
unfoldable pub said : Begin → List ℕ
said (a_name w) = w
said (a_hash ds l) = ds
said (a_number ds l) = ds
said nothing = []
said a_false = []
said a_true = []
said a_let = []
said a_case = []
said an_each = []
said a_pair = []
said a_list = []

unfoldable pub lettered : Begin → Bool
lettered (a_hash ds l) = l
lettered (a_number ds l) = l
lettered nothing = false
lettered a_false = false
lettered a_true = false
lettered a_let = false
lettered a_case = false
lettered an_each = false
lettered a_pair = false
lettered a_list = false
lettered (a_name w) = false

unfoldable pub begin_by : Begins → List ℕ → Bool → Begin
begin_by begins.False w l = a_false
begin_by begins.True w l = a_true
begin_by begins.Let w l = a_let
begin_by begins.Case w l = a_case
begin_by begins.Each w l = an_each
begin_by begins.Pair w l = a_pair
begin_by begins.List w l = a_list
begin_by begins.Name w l = a_name w
begin_by begins.Hash w l = a_hash w l
begin_by begins.Number w l = a_number w l

pub begin_coded : (x : Begin) {b : Begins} → Some b ≡ begin_named x → x ≡ begin_by b (said x) (lettered x)
unfolding begin_named begin_by said lettered
begin_coded nothing e = cc
begin_coded a_false {b} e = let q : b ≡ begins.False = cc in rw q
begin_coded a_true {b} e = let q : b ≡ begins.True = cc in rw q
begin_coded a_let {b} e = let q : b ≡ begins.Let = cc in rw q
begin_coded a_case {b} e = let q : b ≡ begins.Case = cc in rw q
begin_coded an_each {b} e = let q : b ≡ begins.Each = cc in rw q
begin_coded a_pair {b} e = let q : b ≡ begins.Pair = cc in rw q
begin_coded a_list {b} e = let q : b ≡ begins.List = cc in rw q
begin_coded (a_name w) {b} e = let q : b ≡ begins.Name = cc in rw q
begin_coded (a_hash ds l) {b} e = let q : b ≡ begins.Hash = cc in rw q
begin_coded (a_number ds l) {b} e = let q : b ≡ begins.Number = cc in rw q

pub begin_none : (x : Begin) → None ≡ begin_named x → x ≡ nothing
unfolding begin_named
begin_none nothing e = refl
begin_none a_false e = cc
begin_none a_true e = cc
begin_none a_let e = cc
begin_none a_case e = cc
begin_none an_each e = cc
begin_none a_pair e = cc
begin_none a_list e = cc
begin_none (a_name w) e = cc
begin_none (a_hash ds l) e = cc
begin_none (a_number ds l) e = cc

-- ROWS: the record of a node, filled up to eight bytes
abbrev pub row_of : ℕ → List ℕ → List ℕ
row_of k [] = k ∷ 0 ∷ 0 ∷ 0 ∷ 0 ∷ 0 ∷ 0 ∷ 0 ∷ []
row_of k (a ∷ []) = k ∷ a ∷ 0 ∷ 0 ∷ 0 ∷ 0 ∷ 0 ∷ 0 ∷ []
row_of k (a ∷ b ∷ []) = k ∷ a ∷ b ∷ 0 ∷ 0 ∷ 0 ∷ 0 ∷ 0 ∷ []
row_of k (a ∷ b ∷ c ∷ []) = k ∷ a ∷ b ∷ c ∷ 0 ∷ 0 ∷ 0 ∷ 0 ∷ []
row_of k (a ∷ b ∷ c ∷ d ∷ []) = k ∷ a ∷ b ∷ c ∷ d ∷ 0 ∷ 0 ∷ 0 ∷ []
row_of k (a ∷ b ∷ c ∷ d ∷ e ∷ l) = k ∷ a ∷ b ∷ c ∷ d ∷ e ∷ l

-- NODES READ: from number n on, up to a cursor
pub record Stored (slots : List ℕ) (n : ℕ) (a : List Node) (r : Cursor) : Type 0 where
  pub counted : r.count ≡ n + length a
  pub some : 0 < length a
  pub held : Slots slots n a

-- names below a height are as they were
pub record Below (top : ℕ) (names names' : List ℕ) : Type 0 where
  pub long : length names' ≡ length names
  pub same : take top names' ≡ take top names

-- A NODE OF ONE TOKEN OR A CALL: what is asked
pub record Leafy (names slots : ℕ) (sc : Names) (c : Cursor) : Type 0 where
  pub few : c.count < 200
  pub names_in : sc.base + sc.many ≤ names
  pub slots_long : slots ≡ 1600

-- a constant number in its slot
abbrev pub Constant : List ℕ → ℕ → ℕ → List ℕ → Type 0
Constant slots n v slots' = Slots slots' n (constant v ∷ [])

-- what is told of a leaf: from its cursor, of any tokens, by a definition
pub record Leaf (s slots : List ℕ) (sc : Names) (def : List Token → Nodes) (c : Cursor) (slots' : List ℕ) (r : Cursor) : Type 0 where
  pub later : r.count ≡ c.count + 1
  pub kept : Kept c.count slots slots'
  pub carries : Carries c r
  pub told : c.code ≡ 0 → Between s c.at → sc.many ≤ 256 → Told s (With s (Stored slots' c.count)) (def (ahead s c.at)) r

abbrev pub var_def : Scope → List Token → Nodes
var_def sc ts = variable sc ts >>= λ (x, ts₁). ok (node.Var x ∷ [], ts₁)

abbrev pub Var : List ℕ → List ℕ → List ℕ → Names → Cursor → List ℕ → Cursor → Type 0
Var s names slots sc c slots' r = Leaf s slots sc (var_def (scope_at s names sc)) c slots' r

pub record Call (s table names slots : List ℕ) (sc : Names) (t : Lexeme) (c : Cursor) (slots' : List ℕ) (r : Cursor) : Type 0 where
  pub later : r.count ≡ c.count + 1
  pub kept : Kept c.count slots slots'
  pub told : c.code ≡ 0 → Between s c.at → sc.many ≤ 256 → (left : ℕ) → place_at s left ≡ t.at
      → Told s (With s (Stored slots' c.count)) (call_of (resolve_by s table) (word_of (token_at s t)) left (scope_at s names sc) (ahead s c.at)) r

-- THE LAWS OF THE SMALL FUNCTIONS

-- what a word begins with: a name, or what a word of the language says
pub begin_name : (w : List ℕ) → is_name w ≡ true → Some begins.Name ≡ begin_named (word_begin w)
unfolding word_begin begin_named
begin_name w e = rw e

abbrev pub key_named : List ℕ → std.Option Begins
key_named w =
    cond (same (bytes "false") w) (Some begins.False)
    (cond (same (bytes "true") w) (Some begins.True)
    (cond (same (bytes "let") w) (Some begins.Let) (cond (same (bytes "case") w) (Some begins.Case) (cond (same (bytes "each") w) (Some begins.Each) None))))

pub begin_key : (w : List ℕ) → is_name w ≡ false → key_named w ≡ begin_named (word_begin w)
unfolding word_begin begin_named
begin_key w e = rw (e, same_sym (bytes "false") w, same_sym (bytes "true") w, same_sym (bytes "let") w, same_sym (bytes "case") w, same_sym (bytes "each") w)
    (go (same w (bytes "false")) (same w (bytes "true")) (same w (bytes "let")) (same w (bytes "case")) (same w (bytes "each")))
  where
    go : (b c d e f : Bool) → cond b (Some begins.False) (cond c (Some begins.True) (cond d (Some begins.Let) (cond e (Some begins.Case)
        (cond f (Some begins.Each) None)))) ≡ begin_named (cond b a_false (cond c a_true (cond d a_let (cond e a_case (cond f an_each nothing)))))
    go true c d e f = refl
    go false true d e f = refl
    go false false true e f = refl
    go false false false true f = refl
    go false false false false true = refl
    go false false false false false = refl

-- which tokens begin with a name, and which with a number
word_said : (w : List ℕ) → Some begins.Name ≡ begin_named (word_begin w) → said (word_begin w) ≡ w
unfolding word_begin begin_named said
word_said w = go (is_name w) (same w (bytes "false")) (same w (bytes "true")) (same w (bytes "let")) (same w (bytes "case")) (same w (bytes "each"))
  where
    go : (a b c d e f : Bool) → let x = cond a (a_name w) (cond b a_false (cond c a_true (cond d a_let (cond e a_case (cond f an_each nothing))))) in
        Some begins.Name ≡ begin_named x → said x ≡ w
    go true b c d e f q = refl
    go false true c d e f q = cc
    go false false true d e f q = cc
    go false false false true e f q = cc
    go false false false false true f q = cc
    go false false false false false true q = cc
    go false false false false false false q = cc

no_word_number : (w : List ℕ) → Some begins.Number ≡ begin_named (word_begin w) → ⊥
unfolding word_begin begin_named
no_word_number w = go (is_name w) (same w (bytes "false")) (same w (bytes "true")) (same w (bytes "let")) (same w (bytes "case")) (same w (bytes "each"))
  where
    go : (a b c d e f : Bool)
        → Some begins.Number ≡ begin_named (cond a (a_name w) (cond b a_false (cond c a_true (cond d a_let (cond e a_case (cond f an_each nothing)))))) → ⊥
    go true b c d e f q = cc
    go false true c d e f q = cc
    go false false true d e f q = cc
    go false false false true e f q = cc
    go false false false false true f q = cc
    go false false false false false true q = cc
    go false false false false false false q = cc

module _ (m : List ℕ) where
  no_mark_name : Some begins.Name ≡ begin_named (begin_of (mark m)) → ⊥
  unfolding begin_of begin_named
  no_mark_name = go (same m (bytes "(")) (same m (bytes "["))
    where
      go : (a b : Bool) → Some begins.Name ≡ begin_named (cond a a_pair (cond b a_list nothing)) → ⊥
      go true b q = cc
      go false true q = cc
      go false false q = cc

  no_mark_number : Some begins.Number ≡ begin_named (begin_of (mark m)) → ⊥
  unfolding begin_of begin_named
  no_mark_number = go (same m (bytes "(")) (same m (bytes "["))
    where
      go : (a b : Bool) → Some begins.Number ≡ begin_named (cond a a_pair (cond b a_list nothing)) → ⊥
      go true b q = cc
      go false true q = cc
      go false false q = cc

module _ (s : List ℕ) (t : Lexeme) where
  pub name_kind : Some begins.Name ≡ begin_named (begin_of (token_at s t)) → t.kind ≡ kind.Word
  unfolding token_of token_at
  name_kind = go t.kind
    where
      go : (k : Kind) → Some begins.Name ≡ begin_named (begin_of (token_of s t.at t.end k)) → k ≡ kind.Word
      go kind.Word q = refl
      go kind.Digits q = unfold begin_of begin_named in cc
      go kind.Hash q = unfold begin_of begin_named in cc
      go kind.Arrow q = absurd (no_mark_name arrow q)
      go kind.End q = absurd (no_mark_name [] q)
      go (kind.Mark c) q = absurd (no_mark_name (c ∷ []) q)

  pub number_kind : Some begins.Number ≡ begin_named (begin_of (token_at s t)) → t.kind ≡ kind.Digits
  unfolding token_of token_at
  number_kind = go t.kind
    where
      go : (k : Kind) → Some begins.Number ≡ begin_named (begin_of (token_of s t.at t.end k)) → k ≡ kind.Digits
      go kind.Word q = absurd (no_word_number (part s t.at t.end) (unfold begin_of in q))
      go kind.Digits q = refl
      go kind.Hash q = unfold begin_of begin_named in cc
      go kind.Arrow q = absurd (no_mark_number arrow q)
      go kind.End q = absurd (no_mark_number [] q)
      go (kind.Mark c) q = absurd (no_mark_number (c ∷ []) q)

  pub name_said : Some begins.Name ≡ begin_named (begin_of (token_at s t)) → said (begin_of (token_at s t)) ≡ word_of (token_at s t)
  unfolding token_of token_at begin_of word_of
  name_said q = let k = name_kind q in rw k (word_said (part s t.at t.end) (rw k at q))

  pub number_said : t.kind ≡ kind.Digits
      → (said (begin_of (token_at s t)) ≡ part s t.at t.end) × (lettered (begin_of (token_at s t)) ≡ letter_first (drop t.end s))
  unfolding token_of token_at begin_of said lettered
  number_said k = (rw k, rw k)

-- what any other token begins with
module _ (s : List ℕ) (t : Lexeme) where
  pub begin_word : t.kind ≡ kind.Word → begin_named (word_begin (word_of (token_at s t))) ≡ begin_named (begin_of (token_at s t))
  unfolding token_at token_of begin_of word_of
  begin_word k = rw k

  pub begin_digits : t.kind ≡ kind.Digits → Some begins.Number ≡ begin_named (begin_of (token_at s t))
  unfolding token_at token_of begin_of begin_named
  begin_digits k = rw k

  pub begin_hash : t.kind ≡ kind.Hash → Some begins.Hash ≡ begin_named (begin_of (token_at s t))
  unfolding token_at token_of begin_of begin_named
  begin_hash k = rw k

  pub begin_pair : t.kind ≡ kind.Mark 40 → Some begins.Pair ≡ begin_named (begin_of (token_at s t))
  unfolding token_at token_of begin_of begin_named same
  begin_pair k = rw k

  pub begin_list : t.kind ≡ kind.Mark 91 → Some begins.List ≡ begin_named (begin_of (token_at s t))
  unfolding token_at token_of begin_of begin_named same
  begin_list k = rw k

  pub begin_arrow : t.kind ≡ kind.Arrow → None ≡ begin_named (begin_of (token_at s t))
  unfolding token_at token_of begin_of begin_named same
  begin_arrow k = rw k

  pub begin_end : t.kind ≡ kind.End → None ≡ begin_named (begin_of (token_at s t))
  unfolding token_at token_of begin_of begin_named same
  begin_end k = rw k

  -- a mark that begins nothing
  pub begin_mark : {c : ℕ} → t.kind ≡ kind.Mark c → (c ≡ 40 → ⊥) → (c ≡ 91 → ⊥) → None ≡ begin_named (begin_of (token_at s t))
  unfolding token_at token_of begin_of begin_named same
  begin_mark {c} k p q = rw (k, ne_eqb c 40 p, ne_eqb c 91 q)

pub ruleset begin_tokens = (begin_word, begin_digits, begin_hash, begin_pair, begin_list, begin_arrow, begin_end)

-- A STEP FROM ANY TOKENS: those behind its cursor
pub goes_told : {s : List ℕ} {X : Type 0} {Q : X → Cursor → Type 0} {f : List Token → Out X} {c r : Cursor} → Goes s Q f c r → c.code ≡ 0
    → {ts : List Token} → Behind s ts c → Told s Q (f ts) r
goes_told {f = f} g z b = rw b.tokens (g.told z b.here)

-- a node more
pub enters : (c : Cursor) → Carries c (entered c)
enters c h = record { code_is = refl; at_is = refl; detail_is = refl }

small_mod : (x : ℕ) → x < 256 → x % 256 ≡ x
small_mod x h = mod-eq_of_lt h

-- a node stored where its number says
module _ (slots : List ℕ) {slots' : List ℕ} {n : ℕ} (few : n < 200) (long : length slots ≡ 1600) (row : List ℕ) (l : length row ≡ 8)
    (e : slots' ≡ sets slots (8 * n) row) where
  pub stored_kept : Kept n slots slots'
  stored_kept = rw e (store_kept slots n row l (omega arith))

  pub stored_more : {x : Node} {a : List Node} → take (width x) row ≡ written x → Slots slots (suc n) a → Slots slots' n (x ∷ a)
  stored_more q a = rw e (store_more slots n row l (omega arith) q a)

-- A VARIABLE
pub var_told : {s : List ℕ} (names : List ℕ) {slots slots' : List ℕ} {sc : Names} {c x r : Cursor} → Leafy (length names) (length slots) sc c
    → Goes s (With s (IsVariable sc)) (variable (scope_at s names sc)) c x → slots' ≡ sets slots (8 * c.count) (row_of 16 (x.found % 256 ∷ [])) → r ≡ entered x
    → Var s names slots sc c slots' r
var_told {s} names {slots} {slots'} {sc} {c} {x} {r} w g e f = rw f (record {
  later = let q = g.same in omega arith;
  kept = stored_kept slots w.few w.slots_long (row_of 16 (x.found % 256 ∷ [])) refl e;
  carries = carries_then g.carries (enters x);
  told = λ z b m. told_then _ (goes_told g z (record { here = b; tokens = refl })) (enters x) (λ (v, ts) q u.
      let y = u.value.small m in
      let i = u.value.is_found in
      let p = g.same in
      on {x = (node.Var v ∷ [], ts)} {r = entered x} q (record {
        stands = record { here = u.stands.here; tokens = u.stands.tokens };
        value = record {
          counted = omega arith;
          some = omega arith;
          held = stored_more slots w.few w.slots_long
              (row_of 16 (x.found % 256 ∷ [])) refl e {x = node.Var v} (var_row x.found v i y) no_slots;
        };
      }));
})
  where
    var_row : (a v : ℕ) → a ≡ v → v < 256 → take (width (node.Var v)) (row_of 16 (a % 256 ∷ [])) ≡ written (node.Var v)
    var_row a v i y = unfold width written in rw (i, small_mod v y)

-- A CONSTANT NUMBER
pub constant_small : (slots : List ℕ) {slots' : List ℕ} {n : ℕ} (v : ℕ) → n < 200 → length slots ≡ 1600 → v ≤ 65535
    → slots' ≡ sets slots (8 * n) (row_of 20 (v / 256 % 256 ∷ v % 256 ∷ [])) → Constant slots n v slots'
unfolding constant
constant_small slots v few long h e = rw (le-leb v 65535 h) (stored_more slots few long
    (row_of 20 (v / 256 % 256 ∷ v % 256 ∷ [])) refl e {x = node.Number v} row no_slots)
  where
    row : take (width (node.Number v)) (row_of 20 (v / 256 % 256 ∷ v % 256 ∷ [])) ≡ written (node.Number v)
    row = unfold width written in rw (small_mod (v / 256) (omega arith))

pub constant_wide : (slots : List ℕ) {slots' : List ℕ} {n : ℕ} (v : ℕ) → n < 200 → length slots ≡ 1600 → 65535 < v → v ≤ 4294967295
    → slots' ≡ sets slots (8 * n) (row_of 29 (v / 256 / 256 / 256 % 256 ∷ v / 256 / 256 % 256 ∷ v / 256 % 256 ∷ v % 256 ∷ [])) → Constant slots n v slots'
unfolding constant
constant_wide slots v few long g h e = rw (lt-leb v 65535 g) (stored_more slots few long
    (row_of 29 (v / 256 / 256 / 256 % 256 ∷ v / 256 / 256 % 256 ∷ v / 256 % 256 ∷ v % 256 ∷ [])) refl e {x = node.Wide v} row no_slots)
  where
    row : take (width (node.Wide v)) (row_of 29 (v / 256 / 256 / 256 % 256 ∷ v / 256 / 256 % 256 ∷ v / 256 % 256 ∷ v % 256 ∷ [])) ≡ written (node.Wide v)
    row = unfold width written in rw (small_mod (v / 256 / 256 / 256) (omega arith))

-- A CALL
pub call_told : {s table : List ℕ} (names : List ℕ) {slots slots' : List ℕ} {sc : Names} {t : Lexeme} {c w x m y e r : Cursor}
    → Leafy (length names) (length slots) sc c
    → Resolves s table t c w → Goes s (With s (IsVariable sc)) (variable (scope_at s names sc)) w x → Goes s (Behind s) (symbol (marked (kind.Mark 44)) 9) x m
    → Goes s (With s (IsVariable sc)) (variable (scope_at s names sc)) m y → Goes s (Behind s) (symbol (marked (kind.Mark 41)) 10) y e
    → slots' ≡ sets slots (8 * c.count) (row_of 26 (w.found % 256 ∷ x.found % 256 ∷ y.found % 256 ∷ [])) → r ≡ entered e
    → Call s table names slots sc t c slots' r
unfolding call_of marked
call_told {s} {table} names {slots} {slots'} {sc} {t} {c} {w} {x} {m} {y} {e} {r} k gw gx gm gy ge q f = rw f (record {
  later = count_is;
  kept = stored_kept slots k.few k.slots_long (row_of 26 (w.found % 256 ∷ x.found % 256 ∷ y.found % 256 ∷ [])) refl q;
  told = λ z b many left place.
      told_then _ (gw.told left place) (carries_then (carries_then (carries_then (carries_then gx.carries gm.carries) gy.carries) ge.carries)
      (enters e)) (λ v zw uw.
      told_then _ (goes_told gx zw (record { here = rw uw.stays b; tokens = rw uw.stays }))
      (carries_then (carries_then (carries_then gm.carries gy.carries) ge.carries) (enters e)) (λ (a, ts) zx ux.
      told_then _ (goes_told gm zx ux.stands) (carries_then (carries_then gy.carries ge.carries) (enters e)) (λ ts₁ zm um.
      told_then _ (goes_told gy zm um) (carries_then ge.carries (enters e)) (λ (b₁, ts₂) zy uy.
      told_then _ (goes_told ge zy uy.stands) (enters e) (λ ts₃ ze ue.
      on {x = (node.Call v a b₁ ∷ [], ts₃)} {r = entered e} ze (record {
        stands = record { here = ue.here; tokens = ue.tokens };
        value = record {
          counted = count-one;
          some = omega arith;
          held = stored_more slots k.few k.slots_long (row_of 26 (w.found % 256 ∷ x.found % 256 ∷ y.found % 256 ∷ [])) refl q {x = node.Call v a b₁}
              (call_row w.found x.found y.found v a b₁ uw.is_callee.is_found ux.value.is_found uy.value.is_found
              uw.is_callee.small (ux.value.small many) (uy.value.small many)) no_slots;
        };
      }))))));
})
  where
    count_is : (entered e).count ≡ c.count + 1
    count_is = let a = gw.same in let b = gx.same in let d = gm.same in let f = gy.same in let g = ge.same in omega arith

    count-one : (entered e).count ≡ c.count + 1
    count-one = count_is

    call_row : (a b d x y z : ℕ) → a ≡ x → b ≡ y → d ≡ z → x < 256 → y < 256 → z < 256
        → take (width (node.Call x y z)) (row_of 26 (a % 256 ∷ b % 256 ∷ d % 256 ∷ [])) ≡ written (node.Call x y z)
    call_row a b d x y z p q r i j k = unfold width written in rw (p, q, r, small_mod x i, small_mod y j, small_mod z k)
