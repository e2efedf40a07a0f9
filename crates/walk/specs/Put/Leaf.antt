-- Put into a variable or a constant: what each return shows.
use Rattle.std.specs.Prelude.{◌≡◌, Bool, true, false, List, [], ◌∷◌, set}
use Rattle.std.proofs.Math.Path.{refl, ap}
use Rattle.std.proofs.Common.{sym, ◌∙◌, arith}
use Rattle.std.proofs.Math.Option.{Option, none, some}
use Prim.Native.Nat.{ℕ, zero, suc, ◌+◌, ◌-◌, ◌*◌, ◌/◌, ◌%◌, ◌≤◌, ◌<◌}
use Rattle.std.proofs.Math.Decide.{dec_lt}
use Rattle.std.proofs.Math.ListN.{length, get_or, length-set, get_elem?}
use Rattle.std.proofs.Math.Seq.{paste}
use Rattle.outcome.specs.Outcome.{done_as, refused_by}
use Rattle.value.specs.Value.{Value, vfalse, vtrue, list, number, wide, nil, encode, encodes, size}
use Rattle.value.proofs.Encoding.{size-encode, size_pos}
use Rattle.shapes.specs.Parts.{same_bytes}
use Rattle.shapes.proofs.PartsLaws.{same_values, other_values}
use Rattle.sheet.specs.Sheet.{Sheet}
use Rattle.sheet.specs.Laws.{sheet_ranges}
use Rattle.rules.specs.Semantics
use Rattle.rules.specs.Semantics.{Env}
use Rattle.rules.specs.Explain.{own as own_rule, Cell, Cells, constant}
use Rattle.rules.specs.Numbers.{scratch_size, variable_limit}
use Rattle.scopes.specs.declared.Scope.{Scope}
use Rattle.scopes.specs.Scopes.{note_of, noted_len, noted_by, slot_of}
use Rattle.decisions.specs.Decisions.{judged}
use Rattle.arena.specs.Writing.{Takes, Writes, first_wrote, again_wrote}
use Rattle.walk.specs.Decoded.{Done, Refused, decoded, done_said, refused_decoded, refused_by_said}
use Rattle.walk.specs.Arena.Parts.{part}
use Rattle.walk.specs.Arena.Bytes.{elem_at, elem_none}
use Rattle.walk.specs.Represents.{Represents, answer_by, finish, give_some, give_none, give_yes, give_no, clash_yes, clash_no}
use Rattle.walk.specs.Arena.Cells.{Holds, Slot, blank, full, CellsHold, Shown}
use Rattle.walk.specs.Arena.Frames.{frame_refl}
use Rattle.walk.specs.Arena.CellLaws.{filled, filled_frame, written_set}
use Rattle.node.specs.Wide.{wide_bytes}
use Rattle.walk.specs.Get.Leaf.{Childless}
use Rattle.walk.specs.Put.{own, run, Given, Wrote, PutHere, PutAsked, PutTells}

-- the bytes of the constant number whose record starts at byte n of the sheet s
abbrev pub number_bytes : List ℕ → ℕ → List ℕ
number_bytes s n = 4 ∷ (256 * get_or s (n + 1) 0 + get_or s (n + 2) 0) / 256 ∷ (256 * get_or s (n + 1) 0 + get_or s (n + 2) 0) % 256 ∷ []

-- nothing was got, and no step was taken
nothing : (a : List ℕ) (l : ℕ) → decoded a l (done_as 0 0 0) ≡ Done 0 0 0
nothing a l = done_said a l 0 0 0 (omega arith) (omega arith) (omega arith)

-- CONSTANTS

-- the value of each kind, and its bytes
record Constant (x kind : ℕ) (s : List ℕ) (n : ℕ) (bytes : List ℕ) : Type 0 where
  value : Value
  are : bytes ≡ encode value
  rule : (l : ℕ) (sh : Sheet) (c : ℕ) (μ : Env) (σ : List ℕ) (v : Value) (W : Cells) → run l sh c (own x kind s n) μ σ v W ≡ constant v value W

same_constant : (u v : Value) (l : ℕ) {b slots view : List ℕ} {left n : ℕ} {W : Cells} {q : Bool} → Shown view v → q ≡ same_bytes view (encode u)
    → CellsHold b slots n W
    → Represents (Wrote b slots n) (decoded b l (judged 50 q)) left (constant v u W)
unfolding judged Semantics.constant
same_constant u v l {q = true} h e w = give_yes 50 _ _ (same_values v u (rw h.bytes at (sym e))) λ _. finish (nothing _ _) (record { written = w })
same_constant u v l {q = false} h e w = give_no 50 _ _ (other_values v u (rw h.bytes at (sym e))) (refused_decoded _ _ (omega arith) (omega arith))

constant_gives : {h : PutHere} {view bytes : List ℕ} {x kind n r : ℕ} → PutAsked h (Shown view) x kind n → Constant x kind h.sheet n bytes
    → r ≡ judged 50 (same_bytes view bytes)
    → PutTells h (Shown view) h.arena h.slots r x kind n
constant_gives {h} {view} {bytes} _ k is = record {
  frame = frame_refl h.top h.arena;
  long = refl;
  told = λ {sh} {μ} {σ} {v} {W} w.
      rw is (answer_by (same_constant k.value v h.levels w.shown (ap (same_bytes view) k.are) w.written)
      (k.rule h.levels sh h.count μ σ v W));
}

constants : (x kind : ℕ) (s : List ℕ) (n i : ℕ) → kind ≡ 0x11 + i → i ≤ 2 → Constant x kind s n ((kind - 0x11) ∷ [])
unfolding run Semantics.put_node encode encodes
constants x kind s n zero e h = rw e (record { value = vfalse; are = refl; rule = λ _ _ _ _ _ _ _. refl })
constants x kind s n (suc zero) e h = rw e (record { value = vtrue; are = refl; rule = λ _ _ _ _ _ _ _. refl })
constants x kind s n (suc (suc zero)) e h = rw e (record { value = list nil; are = refl; rule = λ _ _ _ _ _ _ _. refl })
constants x kind s n (suc (suc (suc i))) e h = absurd (omega arith)

module _ {h : PutHere} {view : List ℕ} {x kind n r : ℕ} (w : PutAsked h (Shown view) x kind n) where
  pub constant_told : Childless kind → (kind ≡ 0x10 → ⊥) → (kind ≡ 0x14 → ⊥) → r ≡ judged 50 (same_bytes view ((kind - 0x11) ∷ []))
      → PutTells h (Shown view) h.arena h.slots r x kind n
  constant_told c v m is = constant_gives w (constants x kind h.sheet n (kind - 0x11) (omega (arith, c.low)) (omega (arith, c.high))) is

  pub number_told : kind ≡ 0x14 → r ≡ judged 50 (same_bytes view (number_bytes h.sheet n)) → PutTells h (Shown view) h.arena h.slots r x kind n
  unfolding run Semantics.put_node encode
  number_told e is = constant_gives w (rw e (record { value = number _; are = refl; rule = λ _ _ _ _ _ _ _. refl })) is

  pub wide_told : kind ≡ 0x1D → r ≡ judged 50 (same_bytes view (wide_bytes h.sheet n)) → PutTells h (Shown view) h.arena h.slots r x kind n
  unfolding run Semantics.put_node
  wide_told e is = constant_gives w (rw e (record { value = wide _; are = refl; rule = λ _ _ _ _ _ _ _. refl })) is

-- a constant's bytes as they are in its record
pub number_as : (s : List ℕ) (n : ℕ) {a b : ℕ} → a ≡ get_or s (n + 1) 0 → b ≡ get_or s (n + 2) 0 → b < 256 → 4 ∷ a ∷ b ∷ [] ≡ number_bytes s n
number_as s n {a} {b} e f h =
    let y : (256 * a + b) / 256 ≡ a = omega arith in
    let z : (256 * a + b) % 256 ≡ b = omega arith in
    rw (← e, ← f, y, z)

-- VARIABLES

-- what `write` asks and gives
pub record Writable (a slots : List ℕ) (c : ℕ) (view : List ℕ) : Type 0 where
  pub cell : c < variable_limit
  pub long : length a ≡ scratch_size
  pub slots_long : length slots ≡ variable_limit
  pub some : 1 ≤ length view
  pub view_short : length view ≤ 256

pub data Write (c x : ℕ) (view b a slots slots' : List ℕ) (r : ℕ) : Type 0 where
  first : get_or slots c 0 ≡ 0 → a ≡ paste b (slot_of c) view (length view) → slots' ≡ set slots c (note_of x (length view)) → r ≡ done_as 0 0 0
      → Write c x view b a slots slots' r
  again : (get_or slots c 0 ≡ 0 → ⊥) → a ≡ b → slots' ≡ slots
      → r ≡ judged (refused_by 54 (noted_by (get_or slots c 0))) (same_bytes (part b (slot_of c) (noted_len (get_or slots c 0))) view)
      → Write c x view b a slots slots' r

-- as the code has it
pub write_by : {view b a slots slots' : List ℕ} {c x r : ℕ} → Writable b slots c view → x < 200 → Writes b slots c x view r a slots'
    → Write c x view b a slots slots' r
write_by {view} {b} {a} {slots} {slots'} {c} {x} {r} w few p = go (dec_lt (get_or slots c 0) 1)
  where
    takes : Takes b c x view
    takes = (w.cell, omega (arith, w.cell, w.long), omega arith, w.some, w.view_short)

    go : Dec (get_or slots c 0 < 1) → Write c x view b a slots slots' r
    go (yes h) = let z : get_or slots c 0 ≡ 0 = omega arith in let q = first_wrote b slots c x view takes z p in first z q.1 q.2 q.0
    go (no h) = let q = again_wrote b slots c x view takes (λ z. h (omega (arith, z))) p in again (λ z. h (omega (arith, z))) q.0 q.1 q.2

-- the same for a cell by another name
pub writable_as : {a slots view : List ℕ} {c d : ℕ} → c ≡ d → Writable a slots d view → Writable a slots c view
writable_as e w = rw e w

pub write_as : {view b a slots slots' : List ℕ} {c d x r : ℕ} → c ≡ d → Write c x view b a slots slots' r → Write d x view b a slots slots' r
write_as e w = rw e at w

judged_so : (c : ℕ) {p : Bool} → p ≡ true → judged c p ≡ done_as 0 0 0
unfolding judged
judged_so c e = rw e

judged_not : (c : ℕ) {p : Bool} → p ≡ false → judged c p ≡ c
unfolding judged
judged_not c e = rw e

slot_none : {a : List ℕ} {start note : ℕ} {o : Option Cell} → Slot a start note o → note ≡ 0 → o ≡ none
slot_none (blank z) e = refl
slot_none (full s) e = absurd (s.there e)

-- a slot that holds a value
record Full (a : List ℕ) (start note : ℕ) (o : Option Cell) : Type 0 where
  cell : Cell
  is : o ≡ some cell
  held : Holds a start note cell

slot_full : {a : List ℕ} {start note : ℕ} {o : Option Cell} → Slot a start note o → (note ≡ 0 → ⊥) → Full a start note o
slot_full (blank z) n = absurd (n z)
slot_full (full s) n = record { cell = _; is = refl; held = s }

-- the cell c of the variable x
record CellOf (n x c : ℕ) (a slots σ : List ℕ) (W : Cells) : Type 0 where
  named : get_elem? σ x ≡ some c
  inside : c < n
  there : get_elem? W c ≡ some (get_or W c none)
  slot : Slot a (slot_of c) (get_or slots c 0) (get_or W c none)

cell : {b slots s cells : List ℕ} {P : Value → Type 0} {sc : Scope} {count top x : ℕ} {sh : Sheet} {μ : Env} {σ : List ℕ} {v : Value} {W : Cells}
    → x < sc.count
    → Given b slots s P sc cells count count top sh μ σ v W → CellOf count x (get_or cells x 0) b slots σ W
cell {cells = cells} {count = count} {x = x} {σ = σ} {W = W} lt w =
    let h : x < length σ = omega (arith, w.as_many, w.scoped.count) in
    let e : get_or cells x 0 ≡ get_or σ x 0 = w.named.each x h in
    let i : get_or σ x 0 < count = w.named.inside x h in
    rw e (record {
      named = elem_at σ x 0 h;
      inside = i;
      there = elem_at W (get_or σ x 0) none (omega (arith, w.written.count));
      slot = w.written.each (get_or σ x 0) i;
    })

pub shown_short : {view : List ℕ} {v : Value} → Shown view v → length view ≤ 256
shown_short {view} {v} h = let z : length view ≡ size v = rw h.bytes (size-encode v) in omega (arith, h.readable.fits)

pub shown_some : {view : List ℕ} {v : Value} → Shown view v → 1 ≤ length view
shown_some {view} {v} h = let z : length view ≡ size v = rw h.bytes (size-encode v) in omega (arith, size_pos v)

module _ {h : PutHere} {view : List ℕ} {by kind n : ℕ} (w : PutAsked h (Shown view) by kind n) (var : kind ≡ 0x10) where
  abbrev x : ℕ
  x = get_or h.sheet (n + 1) 0

  pub var_42 : {r : ℕ} → h.scope.count ≤ x → r ≡ 42 → PutTells h (Shown view) h.arena h.slots r by kind n
  unfolding run Semantics.put_node
  var_42 le e = rw var (record {
    frame = frame_refl _ _;
    long = refl;
    told = λ {σ = σ} g. give_none 42 _ (elem_none σ x (omega (arith, g.as_many, g.scoped.count)))
        (ap (decoded _ _) e ∙ refused_decoded _ _ (omega arith) (omega arith));
  })

  -- the nodes are few
  few : by < 256
  few = omega (arith, w.known.0, (sheet_ranges h.sheet w.sheet.read).few_nodes)

  module _ (lt : x < h.scope.count) where
    abbrev c : ℕ
    c = get_or h.cells x 0

    pub var_writable : Writable h.arena h.slots c view
    var_writable =
        let q = cell lt w.given in
        let g = w.given.written in
        record {
          cell = omega (arith, q.inside, g.few);
          long = w.long;
          slots_long = g.long;
          some = shown_some w.given.shown;
          view_short = shown_short
              w.given.shown;
        }

    pub var_told : {a slots : List ℕ} {r : ℕ} → Write c by view h.arena a h.slots slots r → PutTells h (Shown view) a slots r by kind n
    unfolding run Semantics.put_node Semantics.write
    var_told (first z e f is) =
        let u = var_writable in
        let fill = rw (← e) at (filled h.arena view (slot_of c) (omega (arith, u.cell, u.view_short, u.long))) in
        rw (f, var) (record {
          frame = filled_frame fill u.view_short h.top u.cell;
          long = length-set h.slots c (note_of by (length view));
          told = λ {v = v} {W = W} g.
              let q = cell lt g in
              let len : length view ≡ size v = rw g.shown.bytes (size-encode v) in
              give_some 42 _ q.named (give_some 42 _ (q.there ∙ ap some (slot_none q.slot z))
              (finish (ap (decoded _ _) is ∙ nothing _ _)
              (record { written = written_set fill u.view_short by few g.written q.inside len g.shown.bytes g.shown.readable })));
        })
    var_told {r = r} (again z e f is) = rw (e, f, var) (by_test (same_bytes (part h.arena (slot_of c) (noted_len note)) view) refl)
      where
        note : ℕ
        note = get_or h.slots c 0

        compared : (u v : Value) (p : Bool) → same_bytes (part h.arena (slot_of c) (noted_len note)) view ≡ p
            → part h.arena (slot_of c) (noted_len note) ≡ encode u
            → Shown view v → same_bytes (encode u) (encode v) ≡ p
        compared u v p i q s = rw (q, s.bytes) at i

        by_test : (p : Bool) → same_bytes (part h.arena (slot_of c) (noted_len note)) view ≡ p
            → PutTells h (Shown view) h.arena h.slots r by 0x10 n
        by_test true i = record {
          frame = frame_refl _ _;
          long = refl;
          told = λ {v = v} g.
              let q = cell lt g in
              let k = slot_full q.slot z in
              give_some 42 _ q.named (give_some 42 _ (q.there ∙ ap some k.is)
              (clash_yes k.cell.by _ _ (same_values k.cell.value v (compared _ _ true i k.held.bytes g.shown)) λ _.
              finish (ap (decoded _ _) (is ∙ judged_so _ i) ∙ nothing _ _) (record { written = g.written })));
        }
        by_test false i = record {
          frame = frame_refl _ _;
          long = refl;
          told = λ {v = v} g.
              let q = cell lt g in
              let k = slot_full q.slot z in
              let s : decoded h.arena h.levels r ≡ Refused (own_rule 54 (some k.cell.by)) =
              ap (decoded _ _) (is ∙ judged_not _ i) ∙ refused_by_said _ _ (omega arith) (omega arith) (omega (arith, k.held.by, k.held.few)) ∙ ap
              (λ (j : ℕ). Refused (own_rule 54 (some j))) k.held.by in
              give_some 42 _ q.named (give_some 42 _ (q.there ∙ ap some k.is)
              (clash_no k.cell.by _ _ (other_values k.cell.value v (compared _ _ false i k.held.bytes g.shown)) s));
        }
