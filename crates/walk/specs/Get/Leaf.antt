-- Variables, constants and numbers: what get shows of them.
use Rattle.std.specs.Prelude.{◌≡◌, refl, true, false, List, [], ◌∷◌, ℕ, zero, suc, ◌+◌, ◌-◌, ◌*◌, ◌/◌, ◌%◌, ◌≤◌, ◌<◌, length, get_or, set}
use Rattle.std.specs.Int.{from_be_bytes}
use Rattle.std.proofs.Common.{ap, ◌∙◌, le_refl, arith, w16, length-set, get_or-set_same, get_or-set_other}
use Rattle.std.proofs.Math.Decide.{dec_lt}
use Rattle.std.proofs.Math.Seq.{paste}
use Rattle.outcome.specs.Outcome.{done_as}
use Rattle.value.specs.Value.{Value, vfalse, vtrue, list, nil, number, encode, encodes, size, sizes}
use Rattle.value.specs.Laws.{Readable}
use Rattle.node.specs.Wide.{wide_bytes}
use Rattle.rules.specs.Semantics
use Rattle.rules.specs.Semantics.{Env}
use Rattle.rules.specs.Explain.{give}
use Rattle.rules.proofs.Laws.Readable.{nil_readable, truth_readable, number_readable, wide_readable}
use Rattle.rules.specs.Numbers.{scratch_size, variable_limit}
use Rattle.scopes.specs.declared.Scope.{Scope}
use Rattle.scopes.specs.Scopes.{When}
use Rattle.walk.specs.Decoded.{done_said, refused_decoded, decoded}
use Rattle.walk.specs.Arena.Parts.{part, kept_refl, kept_then, kept_set, part-one, part-cons, marked, marked_kept, marked_part}
use Rattle.walk.specs.Arena.{on_stack, below_ends, below_later}
use Rattle.walk.specs.Arena.Bytes.{elem_at, elem_none, held_some, held_short}
use Rattle.walk.specs.Arena.CellLaws.{filled}
use Rattle.walk.specs.Represents.{answer_by, finish, give_some, give_none}
use Rattle.walk.specs.Get.{Task, own, run, Ready, Here, Asked, Tells}

-- the first kinds without children
pub record Childless (kind : ℕ) : Type 0 where
  pub low : 0x10 ≤ kind
  pub high : kind ≤ 0x14

-- VARIABLES

-- where a variable stands
record Place (sc : Scope) (x : ℕ) : Type 0 where
  few : x < variable_limit
  start_small : get_or sc.starts x 0 < scratch_size
  short : get_or sc.lens x 0 + 1 ≤ 256

place : {s table b : List ℕ} {sc : Scope} {top levels left x : ℕ} {t : Task} → Ready s table b sc top (suc levels) left t → x < sc.count → Place sc x
place {sc = sc} {x = x} w h =
    let e = w.scoped in
    let v = e.each x (omega (arith, e.count)) in
    record { few = omega (arith, w.variables); start_small = omega (arith, below_ends v.place w.base, w.room, held_some v); short = held_short v }

-- what the code's answer says
pub var_told : {h : Here} {n r kind : ℕ} → kind ≡ 0x10 → (w : Asked h kind n)
    → When ((get_or h.sheet (n + 1) 0 < h.scope.count) × (get_or h.sheet (n + 1) 0 < variable_limit)) r
    (done_as (get_or h.scope.starts (get_or h.sheet (n + 1) 0) 0) (get_or h.scope.lens (get_or h.sheet (n + 1) 0) 0 + 1) 0) 42
    → Tells h h.arena r kind n
unfolding run Semantics.get_node
var_told {h} {n} {r} var w e = rw var (go (dec_lt (get_or h.sheet (n + 1) 0) h.scope.count))
  where
    x : ℕ
    x = get_or h.sheet (n + 1) 0

    go : Dec (get_or h.sheet (n + 1) 0 < h.scope.count) → Tells h h.arena r 0x10 n
    go (yes lt) =
        let z = place w lt in
        let q = e.inside (lt, z.few) in
        let d = ap (decoded h.arena h.levels) q ∙ done_said h.arena h.levels _ _ _ z.start_small (omega (arith, z.short)) (omega arith) in
        record {
          kept = kept_refl h.top h.arena;
          told = λ sh es μ m.
              let i : get_or h.sheet (n + 1) 0 < length μ = omega (arith, m.count, lt) in
              let v = m.each (get_or h.sheet (n + 1) 0) i in
              give_some _ _ (elem_at μ (get_or h.sheet (n + 1) 0) vfalse i) (finish d (record {
                low = omega (arith, below_ends v.place w.base);
                held = record {
                  place = below_later (h.top + (get_or h.scope.lens (get_or h.sheet (n + 1) 0) 0 + 1)) (omega arith) v.place;
                  long = v.long;
                  bytes = v.bytes;
                  readable = v.readable;
                };
              }));
        }
    go (no n') =
        let d = ap (decoded h.arena h.levels) (e.outside (λ p. n' p.0)) ∙ refused_decoded h.arena h.levels (omega arith) (omega arith) in
        record {
          kept = kept_refl h.top h.arena;
          told = λ sh es μ m. give_none _ _ (elem_none μ (get_or h.sheet (n + 1) 0) (omega (arith, m.count, n'))) d;
        }

-- CONSTANTS: one byte was written, the bytes of the value v

-- the value of each kind, and its byte
pub record Constant (kind : ℕ) (s : List ℕ) (n : ℕ) : Type 0 where
  pub value : Value
  pub bytes : (kind - 0x11) ∷ [] ≡ encode value
  pub long : 1 ≡ size value
  pub readable : Readable value
  pub is : (l : ℕ) (sh : _) (μ : Env) → run l sh (own kind s n) μ ≡ give value

constants : (kind : ℕ) (s : List ℕ) (n i : ℕ) → kind ≡ 0x11 + i → i ≤ 2 → Constant kind s n
unfolding run Semantics.get_node encode encodes size sizes
constants kind s n zero e h = rw e (record { value = vfalse; bytes = refl; long = refl; readable = truth_readable false; is = λ l sh μ. refl })
constants kind s n (suc zero) e h = rw e (record { value = vtrue; bytes = refl; long = refl; readable = truth_readable true; is = λ l sh μ. refl })
constants kind s n (suc (suc zero)) e h = rw e (record { value = list nil; bytes = refl; long = refl; readable = nil_readable; is = λ l sh μ. refl })
constants kind s n (suc (suc (suc i))) e h = absurd (omega arith)

pub constant_told : {h : Here} {n r kind : ℕ} {a : List ℕ} → Childless kind → (kind ≡ 0x10 → ⊥) → (kind ≡ 0x14 → ⊥) → Asked h kind n
    → a ≡ set h.arena h.top (kind - 0x11) → r ≡ done_as h.top 1 0 → Tells h a r kind n
constant_told {h} {n} {kind = kind} c v m w e f =
    let k = constants kind h.sheet n (kind - 0x11) (omega (arith, c.low)) (omega (arith, c.high)) in
    let a' : List ℕ = set h.arena h.top (kind - 0x11) in
    let d = ap (decoded a' h.levels) f ∙ done_said a' h.levels h.top 1 0 (omega (arith, w.room)) (omega arith) (omega arith) in
    let mark = marked (kind - 0x11) h.top h.arena (omega (arith, w.long, w.room)) in
    rw e (record {
      kept = marked_kept mark;
      told = λ sh es μ _.
          answer_by (finish d (record {
            low = le_refl h.top;
            held = record { place = on_stack w.base (le_refl _); long = k.long; bytes = marked_part mark ∙ k.bytes; readable = k.readable };
          })) (k.is h.levels sh μ);
    })

-- NUMBERS

-- a number by its two bytes
pub sum_as : {n : ℕ} (a b : ℕ) {x y : ℕ} → n ≡ from_be_bytes w16 (a ∷ b ∷ []) → a ≡ x → b ≡ y → n ≡ 256 * x + y
sum_as a b e f g = omega (arith, e, f, g)

-- a number's three bytes are written
abbrev pub numbered : List ℕ → ℕ → ℕ → List ℕ
numbered b top n = set (set (set b top 4) (top + 1) (n / 256)) (top + 2) (n % 256)

-- the two bytes of a number, behind its kind byte
pub number_bytes : (b : List ℕ) (top n : ℕ) → top + 3 ≤ length b → get_or b top 0 ≡ 4
    → part (set (set b (top + 1) (n / 256)) (top + 2) (n % 256)) top 3 ≡ encode (number n)
unfolding encode
number_bytes b top n h k =
    let c : List ℕ = set b (top + 1) (n / 256) in
    let a : List ℕ = set c (top + 2) (n % 256) in
    let lc : length c ≡ length b = length-set b (top + 1) (n / 256) in
    let la : length a ≡ length b = length-set c (top + 2) (n % 256) ∙ lc in
    let e₀ : get_or a top 0 ≡ 4 = get_or-set_other c (top + 2) top (n % 256) 0 (λ q. omega arith) ∙ get_or-set_other b (top + 1) top (n / 256) 0
    (λ q. omega arith)
    ∙ k in
    let e₁ : get_or a (top + 1) 0 ≡ n / 256 = get_or-set_other c (top + 2) (top + 1) (n % 256) 0 (λ q. omega arith)
    ∙ get_or-set_same b (top + 1) (n / 256) 0 (omega arith) in
    let e₂ : get_or a (top + 2) 0 ≡ n % 256 = get_or-set_same c (top + 2) (n % 256) 0 (omega arith) in
    let z : top + 1 + 1 ≡ top + 2 = omega arith in
    part-cons a top 2 (omega arith) ∙ rw (part-cons a (top + 1) 1 (omega arith), z, part-one a (top + 2) (omega arith), e₀, e₁, e₂)

pub number_told : {h : Here} {n r kind : ℕ} {a : List ℕ} → kind ≡ 0x14 → Asked h kind n
    → a ≡ numbered h.arena h.top (256 * get_or h.sheet (n + 1) 0 + get_or h.sheet (n + 2) 0) → r ≡ done_as h.top 3 0 → Tells h a r kind n
unfolding run Semantics.get_node size
number_told {h} {n} {a = a} num w e f =
    let d = ap (decoded a h.levels) f ∙ done_said a h.levels h.top 3 0 (omega (arith, w.room)) (omega arith) (omega arith) in
    let top = h.top in
    let b = h.arena in
    let m = 256 * get_or h.sheet (n + 1) 0 + get_or h.sheet (n + 2) 0 in
    let c : List ℕ = set b top 4 in
    let lc : length c ≡ length b = length-set b top 4 in
    let le : m ≤ 65535 = (rw num at w.known.1).0 in
    rw num (record {
      kept = rw e (kept_then (kept_then (kept_set top b top 4 (le_refl top)) (kept_set top c (top + 1) (m / 256) (omega arith)) (le_refl top))
          (kept_set top (set c (top + 1) (m / 256)) (top + 2) (m % 256) (omega arith)) (le_refl top));
      told = λ sh es μ _. finish d (record {
        low = le_refl top;
        held = record {
          place = on_stack w.base (le_refl _);
          long = refl;
          bytes = rw e (number_bytes c top m (omega (arith, w.long, w.room)) (get_or-set_same b top 4 0 (omega (arith, w.long, w.room))));
          readable = number_readable le;
        };
      });
    })

-- WIDE NUMBERS

pub wide_told : {h : Here} {n r kind : ℕ} {a : List ℕ} → kind ≡ 0x1D → Asked h kind n
    → a ≡ paste h.arena h.top (wide_bytes h.sheet n) 5 → r ≡ done_as h.top 5 0 → Tells h a r kind n
unfolding run Semantics.get_node size encode
wide_told {h} {n} {a = a} num w e f =
    let d = ap (decoded a h.levels) f ∙ done_said a h.levels h.top 5 0 (omega (arith, w.room)) (omega arith) (omega arith) in
    let p = filled h.arena (wide_bytes h.sheet n) h.top (omega (arith, w.long, w.room)) in
    rw num (record {
      kept = rw e p.below;
      told = λ sh es μ _. finish d (record {
        low = le_refl h.top;
        held = record { place = on_stack w.base (le_refl _); long = refl; bytes = rw e p.bytes; readable = wide_readable (rw num at w.known.1).0 };
      });
    })
