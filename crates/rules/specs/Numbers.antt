-- The numbers of whole calls, by the names that the code has for them (src/lib.rt).
use Rattle.std.specs.Prelude.{◌≡◌, refl, ℕ, ◌+◌, ◌*◌}

-- the levels of a walk: the root is at depth 1, and a node at depth 49 is refused
abbrev pub level_limit : ℕ
level_limit = 48

-- the largest allowance of steps
abbrev pub allowance_limit : ℕ
allowance_limit = 1000000

-- how many times the steps of a get an allowance has to be, for the put of its list to succeed: the levels
abbrev pub factor : ℕ
factor = level_limit

-- the most variables in scope, and the most cells of a put: a plan's 16, and two more for each level below the root's
abbrev pub variable_limit : ℕ
variable_limit = 110

-- the bytes of scratch that a call takes
abbrev pub scratch_size : ℕ
scratch_size = 65536

-- where the stack begins in them, and an answer's bytes at the end
abbrev pub stack_start : ℕ
stack_start = 32256

-- where the stack has ended, and the chain of a refusal begins
abbrev pub chain_start : ℕ
chain_start = 65487

-- the most nodes of a chain, a byte for each: as many as there are levels, and the one for which none is left
abbrev pub chain_limit : ℕ
chain_limit = 49

-- the bytes of output that a get takes, which a value has at most, and a put, which a plan has at most
abbrev pub get_output : ℕ
get_output = 256

abbrev pub put_output : ℕ
put_output = 4096

-- where the slots of the cells begin in scratch, behind the plan, and the bytes of a slot
abbrev pub slots_start : ℕ
slots_start = put_output

abbrev pub slot_size : ℕ
slot_size = get_output

-- THEY FIT: the stack begins behind the slots, the chain is the end of scratch, and it has a byte for each level and one more

stack_behind : slots_start + slot_size * variable_limit ≡ stack_start
stack_behind = refl

chain_last : chain_start + chain_limit ≡ scratch_size
chain_last = refl

chain_levels : level_limit + 1 ≡ chain_limit
chain_levels = refl
