-- TOKENS (docs/SHEETS.md, "Sheets as text"). A text is read byte by byte; a mode is what stands before a byte and is not yet ended. A fault names its
-- token by how many tokens stand from it on, so that no token holds a place; `places` has the place of each.
use Rattle.std.specs.Prelude.{Bool, true, false, ◌&&◌, ◌||◌, cond, List, [], ◌∷◌, ◌++◌, map, ℕ, suc, ◌-◌, leb, eqb, length}
use Rattle.tokens.specs.Quoted.{bytes}

-- a word, or digits and whether a letter stands right behind them, or # and the digits right behind it, or any other bytes
pub data Token : Type 0 where
  word : List ℕ → Token
  digits : List ℕ → Bool → Token
  hash : List ℕ → Bool → Token
  mark : List ℕ → Token

-- BYTES

pub data Class : Type 0 where
  blank : Class
  letter : Class
  digit : Class
  dash : Class
  sharp : Class
  other : Class

abbrev pub within : ℕ → ℕ → ℕ → Bool
within a b c = leb a c && leb c b

abbrev pub is_blank : ℕ → Bool
is_blank c = eqb c 32 || eqb c 9 || eqb c 10 || eqb c 13

abbrev pub is_letter : ℕ → Bool
is_letter c = within 97 122 c || within 65 90 c || eqb c 95

abbrev pub is_digit : ℕ → Bool
is_digit c = within 48 57 c

unfoldable pub class_of : ℕ → Class
class_of c = cond (is_blank c) blank (cond (is_letter c) letter (cond (is_digit c) digit (cond (eqb c 45) dash (cond (eqb c 35) sharp other))))

-- MODES

pub data Mode : Type 0 where
  between : Mode
  comment : Mode
  dashed : Mode
  in_word : List ℕ → Mode
  in_digits : List ℕ → Mode
  in_hash : List ℕ → Mode

-- what a byte does: the token before it that it ends, the token that it is, the mode behind it
pub record Act : Type 0 where
  pub ended : List Token
  pub own : List Token
  pub next : Mode

abbrev pub into : Mode → Act
into m = record { ended = []; own = []; next = m }

-- between two tokens
unfoldable pub begin : Class → ℕ → Act
begin blank c = into between
begin letter c = into (in_word (c ∷ []))
begin digit c = into (in_digits (c ∷ []))
begin dash c = into dashed
begin sharp c = into (in_hash [])
begin other c = record { ended = []; own = mark (c ∷ []) ∷ []; next = between }

-- behind a token that ends here
abbrev pub ends : Token → Act → Act
ends t a = record { ended = t ∷ []; own = a.own; next = a.next }

unfoldable pub on_word : Class → ℕ → List ℕ → Act
on_word letter c w = into (in_word (w ++ c ∷ []))
on_word digit c w = into (in_word (w ++ c ∷ []))
on_word blank c w = ends (word w) (begin blank c)
on_word dash c w = ends (word w) (begin dash c)
on_word sharp c w = ends (word w) (begin sharp c)
on_word other c w = ends (word w) (begin other c)

unfoldable pub on_digits : (List ℕ → Bool → Token) → (List ℕ → Mode) → Class → ℕ → List ℕ → Act
on_digits t m digit c w = into (m (w ++ c ∷ []))
on_digits t m letter c w = ends (t w true) (begin letter c)
on_digits t m blank c w = ends (t w false) (begin blank c)
on_digits t m dash c w = ends (t w false) (begin dash c)
on_digits t m sharp c w = ends (t w false) (begin sharp c)
on_digits t m other c w = ends (t w false) (begin other c)

abbrev pub arrow : List ℕ
arrow = bytes "->"

unfoldable pub act : Mode → ℕ → Act
act between c = begin (class_of c) c
act comment c = into (cond (eqb c 10) between comment)
act dashed c = cond (eqb c 45) (into comment) (cond (eqb c 62) (ends (mark arrow) (into between)) (ends (mark (bytes "-")) (begin (class_of c) c)))
act (in_word w) c = on_word (class_of c) c w
act (in_digits w) c = on_digits digits in_digits (class_of c) c w
act (in_hash w) c = on_digits hash in_hash (class_of c) c w

unfoldable pub last : Mode → List Token
last between = []
last comment = []
last dashed = mark (bytes "-") ∷ []
last (in_word w) = word w ∷ []
last (in_digits w) = digits w false ∷ []
last (in_hash w) = hash w false ∷ []

-- THE TOKENS OF A TEXT

unfoldable pub tokens : Mode → List ℕ → List Token
tokens m [] = last m
tokens m (c ∷ cs) = (act m c).ended ++ ((act m c).own ++ tokens (act m c).next cs)

-- and their places: of what a mode holds, so many bytes stand before the present place
unfoldable pub held : Mode → ℕ
held between = 0
held comment = 0
held dashed = 1
held (in_word w) = length w
held (in_digits w) = length w
held (in_hash w) = suc (length w)

unfoldable pub places : ℕ → Mode → List ℕ → List ℕ
places p m [] = map (λ t. p - held m) (last m)
places p m (c ∷ cs) = map (λ t. p - held m) (act m c).ended ++ (map (λ t. p) (act m c).own ++ places (suc p) (act m c).next cs)

-- THE TOKEN AHEAD: at the end of the text, one that is nothing
unfoldable pub first : List Token → Token
first [] = mark []
first (t ∷ ts) = t

unfoldable pub rest : List Token → List Token
rest [] = []
rest (t ∷ ts) = ts

unfoldable pub word_of : Token → List ℕ
word_of (word w) = w
word_of (digits w b) = []
word_of (hash w b) = []
word_of (mark m) = []

unfoldable pub mark_of : Token → List ℕ
mark_of (word w) = []
mark_of (digits w b) = []
mark_of (hash w b) = []
mark_of (mark m) = m

unfoldable pub same : List ℕ → List ℕ → Bool
same [] [] = true
same [] (y ∷ ys) = false
same (x ∷ xs) [] = false
same (x ∷ xs) (y ∷ ys) = eqb x y && same xs ys
