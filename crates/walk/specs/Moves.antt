-- Where a walk is, after each of its moves.
use Rattle.std.specs.Prelude.{ℕ, ◌+◌, ◌-◌, ◌≤◌, ◌<◌, ◌≡◌, ltb}
use Rattle.std.proofs.Common.{arith, lt-ltb, le-ltb}
use Rattle.std.proofs.Math.Decide.{dec_lt}
use Rattle.outcome.specs.Outcome.{len_of, start_of, steps_of}
use Rattle.decisions.specs.Decisions.{where_so}
use Rattle.walk.specs.declared.at.At.{At}

abbrev pub below_of : At → At
below_of at = record { levels = at.levels - 1; left = at.left - 1; top = at.top; cells = at.cells }

abbrev pub raised_of : At → ℕ → At
raised_of at n = record { levels = at.levels; left = at.left; top = at.top + n; cells = at.cells }

abbrev pub after_of : At → ℕ → At
after_of at a = record { levels = at.levels; left = at.left - steps_of a; top = at.top; cells = at.cells }

-- the top of the stack behind a value
unfoldable pub top_after : (top start len : ℕ) → ℕ
top_after top start len = where_so (ltb (start + len) top) top (start + len)

abbrev pub behind_of : At → ℕ → At
behind_of at g = record { levels = at.levels; left = at.left - steps_of g; top = top_after at.top (start_of g) (len_of g); cells = at.cells }

-- n cells more: one, and two
abbrev pub with_cells_of : At → ℕ → At
with_cells_of at n = record { levels = at.levels; left = at.left; top = at.top; cells = at.cells + n }

abbrev pub with_cell_of : At → At
with_cell_of at = with_cells_of at 1

abbrev pub with_two_cells_of : At → At
with_two_cells_of at = with_cells_of at 2

-- a value that starts no higher than `top` ends by top', which is no further up than its length
pub record Above (top start len top' : ℕ) : Type 0 where
  pub over : top ≤ top'
  pub clear : start + len ≤ top'
  pub near : top' ≤ top + len

pub top_below : (top start len : ℕ) → start + len < top → top_after top start len ≡ top
unfolding top_after where_so
top_below top start len h = rw (lt-ltb (start + len) top h)

pub top_above : (top start len : ℕ) → top ≤ start + len → top_after top start len ≡ start + len
unfolding top_after where_so
top_above top start len h = rw (le-ltb (start + len) top h)

pub above : (top start len : ℕ) → start ≤ top → Above top start len (top_after top start len)
above top start len low = go (dec_lt (start + len) top)
  where
    go : Dec (start + len < top) → Above top start len (top_after top start len)
    go (yes h) = rw (top_below top start len h) (record { over = omega arith; clear = omega arith; near = omega arith })
    go (no n) = rw (top_above top start len (omega arith)) (record { over = omega arith; clear = omega arith; near = omega arith })
