-- What the functions of this crate give, for every input.
use Rattle.std.specs.Prelude.{◌≡◌, cond, List, ℕ, zero, suc, ◌+◌, ◌-◌, ◌*◌, ◌/◌, ◌%◌, ltb, get_or, set}
use Rattle.scopes.specs.declared.Scope.{Scope}
use Rattle.scopes.specs.declared.Span.{Span}
use Rattle.rules.specs.Numbers.{slots_start, slot_size, variable_limit}

-- r is x where P holds, and y elsewhere
pub record When {A : Type 0} (P : Type 0) (r x y : A) : Type 0 where
  pub inside : P → r ≡ x
  pub outside : (P → ⊥) → r ≡ y

-- two entries at the front of a list
abbrev pub front_two : List ℕ → ℕ → ℕ → List ℕ
front_two l a b = set (set l 0 a) 1 b

-- entries x and y of a list, at its front
abbrev pub picked_two : List ℕ → ℕ → ℕ → List ℕ
picked_two l x y = front_two l (get_or l x 0) (get_or l y 0)

-- two entries from n on
abbrev pub added_two : List ℕ → ℕ → ℕ → ℕ → List ℕ
added_two l n a b = set (set l n a) (n + 1) b

-- the two variables x and y alone
abbrev pub picked : Scope → ℕ → ℕ → Scope
picked s x y = record { count = 2; starts = picked_two s.starts x y; lens = picked_two s.lens x y }

-- a variable's number where a scope has room for it; elsewhere 0
unfoldable pub in_room : ℕ → ℕ
in_room x = cond (ltb x variable_limit) x 0

-- what is noted of a slot that a node wrote so many bytes to; of one that nothing was written to, 0
unfoldable pub note_of : (by len : ℕ) → ℕ
note_of by len = 256 * suc by + (len - 1)

-- the length and the node that a note has
unfoldable pub noted_len : ℕ → ℕ
noted_len note = suc (note % 256)

unfoldable pub noted_by : ℕ → ℕ
noted_by note = note / 256 - 1

-- where the slot of a cell starts in the arena
abbrev pub slot_of : ℕ → ℕ
slot_of cell = slots_start + slot_size * cell

-- where a variable's value stands: in the slot of its cell where it was written, or else where it stood
unfoldable pub place_of : (note cell start len : ℕ) → Span
place_of zero cell start len = record { start = start; len = len }
place_of (suc w) cell start len = record { start = slot_of cell; len = noted_len (suc w) }

-- no place
abbrev pub nowhere : Span
nowhere = record { start = 0; len = 0 }
