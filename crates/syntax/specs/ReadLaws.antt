-- What the printer says is read: a node of a sheet whose nodes are used once each is read as that node, numbered anew, with all below it.
use Rattle.std.specs.Prelude.{◌≡◌, Bool, false, not, ◌&&◌, List, [], ◌∷◌, ℕ, zero, suc, ◌≤◌, ◌<◌}
use Rattle.std.proofs.Math.Path.{refl}
use Rattle.std.proofs.Common.{arith}
use Rattle.std.proofs.Math.Decide.{dec_lt}
use borrow.Author.Tests.{lt-ltb, le-ltb, ne_eqb}
use Rattle.node.specs.declared.Node.{Node}
use Rattle.node.specs.declared.Node.TheVariants.{Var, False, True, Empty, Number, Front, Pair, ListCase, TruthCase, Split, Call, Add, Each, Wide}
use Rattle.tokens.specs.Quoted.{bytes}
use Rattle.tokens.specs.Tokens.{Token, word, hash, first, rest, word_of, mark_of, same}
use Rattle.syntax.specs.Reader.{Out, ok, ◌>>=◌, Name, Scope, scope, find, keyword, bind, section_name}
use Rattle.syntax.specs.Reader.{test_by, test}
use Rattle.syntax.specs.Reader.{room}
use Rattle.syntax.specs.Printer.{Piece, tokens_in, decimal, part_name, Reach, called, variable_said, test_name}
use Rattle.syntax.specs.Printer.{test_said, Speaker, spoken}
use Rattle.tokens.specs.Same.{same_self}
use Rattle.syntax.specs.NameLaws.{called_is, called-wild, part_is, called_apart, stack}
use Rattle.syntax.specs.NameLaws.{find_new}

-- STEPS

pub then : {A B : Type 0} {e : Out A} {a : A} {x : Out B} (f : A → Out B) → e ≡ ok a → f a ≡ x → e >>= f ≡ x
unfolding ◌>>=◌
then f p q = rw p q

pub room_ok : {A : Type 0} {n : ℕ} {x : Out A} (ts : List Token) (f : Unit {0} → Out A) → n < 200 → f tt ≡ x → room n ts f ≡ x
unfolding room
room_ok {n = n} ts f h q = rw (ne_eqb n 200 (λ e. omega arith)) q

-- what may stand behind an expression
abbrev pub quiet : List Token → Bool
quiet ts = not (same (mark_of (first ts)) (bytes "(")) && not (same (mark_of (first ts)) (bytes "+"))

-- names
abbrev pub scope_of : Reach → ℕ → Scope
scope_of r lost = scope (stack (called r.is_sent) r.count) lost

pub bind_read : (s : Bool) (k : ℕ) (ts : List Token) → bind (stack (called s) k) (word (called s k) ∷ ts) ≡ ok (called s k, ts)
unfolding bind first rest word_of
bind_read s k ts = rw (called_is s k, called-wild s k, find_new (called s) (called_apart s) k k (omega arith))

-- tests
abbrev detail_of : (t bare after : ℕ) → ℕ
detail_of zero bare after = bare
detail_of (suc t) bare after = after

pub test_read : (bare after t : ℕ) (k : List Piece) → t ≤ 6 → same (word_of (first (tokens_in k))) (bytes "with") ≡ false
    → test bare after (tokens_in (test_said t k)) ≡ ok ((t, detail_of t bare after), tokens_in k)
unfolding test tokens_in test_said test_by test_name first rest word_of find same
test_read bare after zero k h q = rw q
test_read bare after (suc zero) k h q = refl
test_read bare after (suc (suc zero)) k h q = refl
test_read bare after (suc (suc (suc zero))) k h q = refl
test_read bare after (suc (suc (suc (suc zero)))) k h q = refl
test_read bare after (suc (suc (suc (suc (suc zero))))) k h q = refl
test_read bare after (suc (suc (suc (suc (suc (suc zero)))))) k h q = refl
test_read bare after (suc (suc (suc (suc (suc (suc (suc t))))))) k h q = absurd (omega arith)

pub keyword_read : (w : Name) (d : ℕ) (ts : List Token) → keyword w d (word w ∷ ts) ≡ ok ts
unfolding keyword first rest word_of
keyword_read w d ts = rw (same_self w)

pub section_named : (i : ℕ) (ts : List Token) → section_name (word (part_name i) ∷ ts) ≡ ok (part_name i, ts)
unfolding section_name first rest word_of
section_named i ts = rw (part_is i)

pub said_in : (r : Reach) (x : ℕ) → x < r.count → variable_said r x ≡ word (called r.is_sent x)
unfolding variable_said
said_in r x h = rw (lt-ltb x r.count h)

pub said_out : (r : Reach) (x : ℕ) → (x < r.count → ⊥) → variable_said r x ≡ hash (decimal x) false
unfolding variable_said
said_out r x h = rw (le-ltb x r.count (omega arith))

-- no expression begins as a list ends
variable_opens : (r : Reach) (x : ℕ) → mark_of (variable_said r x) ≡ []
unfolding mark_of
variable_opens r x = go (dec_lt x r.count)
  where
    go : Dec (x < r.count) → mark_of (variable_said r x) ≡ []
    go (yes h) = rw (said_in r x h)
    go (no h) = rw (said_out r x h)

pub opens : (say : Speaker) (plain : ℕ → Bool) (p : Bool) (r : Reach) (i : ℕ) (n : Node) (k : List Piece)
    → same (mark_of (first (tokens_in (spoken say plain p r i n k)))) (bytes "]") ≡ false
unfolding spoken tokens_in first mark_of same
opens say plain p r i (Var x) k = rw (variable_opens r x)
opens say plain p r i False k = refl
opens say plain p r i True k = refl
opens say plain p r i Empty k = refl
opens say plain p r i (Number n) k = refl
opens say plain p r i (Front a b) k = refl
opens say plain p r i (Pair a b) k = refl
opens say plain p r i (ListCase s e te n tn df dr) k = refl
opens say plain p r i (TruthCase s f tf t tu) k = refl
opens say plain p r i (Split s n) k = refl
opens say plain p r i (Call c x y) k = refl
opens say plain p r i (Add n a) k = refl
opens say plain p r i (Each s c x d) k = refl
opens say plain p r i (Wide n) k = refl
