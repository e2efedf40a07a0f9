-- When a node has its lent type, and what a sheet that passes is (document 02, request 6).
use Rattle.std.specs.Prelude.{◌≡◌, List, [], ◌∷◌, ℕ, zero, suc, ◌+◌, ◌<◌, length, get_or}
use Rattle.std.proofs.Common.{add-zero, zero-add, arith}
use Rattle.sheet.specs.Sheet.{Sheet}
use Rattle.typing.specs.Fits.{In, Lent, here, section_root, section_roots, there, root_of, roots}

section_in : (ts : Lent) (c k : ℕ) (rs : List ℕ) → k < length rs → In (section_root ts (c + k) (get_or rs k 0)) (section_roots ts c rs)
section_in ts c k [] h = absurd (omega arith)
section_in ts c zero (r ∷ rs) h = rw add-zero here
section_in ts c (suc k) (r ∷ rs) h = let q : suc c + k ≡ c + suc k = omega arith in there (rw q at (section_in ts (suc c) k rs (omega arith)))

-- the root of section c
pub section_root_lem : (sh : Sheet) (ts : Lent) (c : ℕ) → c < length sh.sections → In (section_root ts c (root_of sh c)) (roots sh ts)
section_root_lem sh ts c h = there (rw zero-add at (section_in ts 0 c sh.sections h))
