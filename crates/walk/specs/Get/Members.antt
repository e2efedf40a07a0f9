-- What a section gives for the members of a list, one after another, made into a list (1C): what is asked, the list so far, and its end.
use Rattle.std.specs.Prelude.{◌≡◌, List, [], ℕ, ◌+◌, ◌-◌, ◌*◌, ◌≤◌, ◌<◌, get_or}
use Rattle.std.proofs.Math.Path.{refl, ap}
use Rattle.std.proofs.Common.{sym, ◌∙◌}
use Rattle.std.proofs.Math.Nat.{le_refl}
use native.Mathlib.Omega.{arith}
use Rattle.outcome.specs.Outcome.{done_as}
use Rattle.value.specs.Result.{ok}
use Rattle.value.specs.Value.{Value, Values, vfalse, list, nil, encode, encodes, size, sizes, Encodables, e_list, e_nil}
use Rattle.sheet.specs.Sheet.{Sheet, read_sheet}
use Rattle.rules.specs.Semantics.{Env}
use Rattle.rules.specs.Explain.{Explained, get}
use Rattle.rules.specs.Numbers.{chain_start, variable_limit}
use Rattle.scopes.specs.declared.Scope.{Scope}
use Rattle.walk.specs.Decoded.{Done, after, done_said, decoded}
use Rattle.walk.specs.declared.at.At.{At}
use Rattle.walk.specs.Arena.Parts.{part, SameBelow, kept_refl, kept_then, part_kept, part_join, Marked, marked_kept, marked_part}
use Rattle.walk.specs.Arena.{below_ends, on_stack, Held, Scoped, held_later}
use Rattle.walk.specs.Arena.Bytes.{held_some, held_head}
use Rattle.walk.specs.Members.{onto, fronts, front_sizes, get_from, more_none, onto_bytes, onto_size, get_end, end_rest}
use Rattle.walk.specs.Represents.{StepsTo, answer_by, finish, steps_to}
use Rattle.walk.specs.Get.{enter, members, run, Ready, GetShows, Here}

-- WHAT `get_members` ASKS AND GIVES: a list stands from `start` to `end`, and x is in scope; what is made of it takes up to 256 bytes of the stack

pub record MembersAsked (s table a : List ℕ) (sc : Scope) (top levels left x root start end : ℕ) : Type 0 where
  pub asked : Ready s table a sc top levels left (enter root)
  pub room : top + 256 + 513 * levels ≤ chain_start
  pub inside : x < sc.count
  pub narrow : sc.count ≤ variable_limit
  pub some : Values
  pub held : Held a top start (end - start) (list some)

pub record MembersTold (b a s : List ℕ) (sc : Scope) (top left r l x root start end : ℕ) : Type 0 where
  pub told : {ms : Values} → Held b top start (end - start) (list ms) → GetShows b a s sc top top left r l (members x root ms)

-- where it is
abbrev pub members_here : {s table a : List ℕ} {sc : Scope} {top levels left x root start end : ℕ} → MembersAsked s table a sc top levels left x root start end
    → Here
members_here {s} {table} {a} {sc} {top} {levels} {left} w =
    record { sheet = s; table = table; arena = a; scope = sc; top = top; left = left; levels = levels }

abbrev pub AsksMembers : Here → (x root start end : ℕ) → Type 0
AsksMembers h x root start end = MembersAsked h.sheet h.table h.arena h.scope h.top h.levels h.left x root start end

abbrev pub TellsMembers : Here → List ℕ → (r x root start end : ℕ) → Type 0
TellsMembers h a r x root start end = MembersTold h.arena a h.sheet h.scope h.top h.left r h.levels x root start end

-- THE LIST SO FAR

-- what is left of the list where vs were got and the old members l are not yet
abbrev pub left_of : Here → (x root : ℕ) → Sheet → Env → List Value → Values → Explained Value
left_of h x root sh μ vs l = get_from (get h.levels sh) root (get_or μ x vfalse) vs l

-- vs were got of the members ms, and stand from the base up to `top`; the others, `rest`, stand from `next` on
pub record Reached (h : Here) (x root end : ℕ) (a : List ℕ) (top left next : ℕ) (sh : Sheet) (μ : Env) (ms : Values) : Type 0 where
  pub vs : List Value
  pub rest : Values
  pub long : top ≡ h.top + front_sizes vs
  pub bytes : part a h.top (front_sizes vs) ≡ fronts vs
  pub encodable : {l : Values} → Encodables l → Encodables (onto vs l)
  pub held : Held h.arena h.top next (end - next) (list rest)
  pub onwards : StepsTo h.left (left_of h x root sh μ [] ms) (h.left - left) left (left_of h x root sh μ vs rest)

-- the list is built up to the place `to`, whatever the members are
pub record Building (h : Here) (x root start end : ℕ) (a : List ℕ) (to : At) (next : ℕ) : Type 0 where
  pub level : to.levels ≡ h.levels
  pub kept : SameBelow h.top h.arena a
  pub low : h.top ≤ to.top
  pub short : to.top + 1 ≤ h.top + 256
  pub few : to.left ≤ h.left
  pub reached : (sh : Sheet) → read_sheet h.sheet ≡ ok sh → (μ : Env) → Scoped h.arena h.scope h.top μ → {ms : Values}
      → Held h.arena h.top start (end - start) (list ms) → Reached h x root end a to.top to.left next sh μ ms

-- nothing is built
pub building_none : {h : Here} {x root start end : ℕ} (at : At) → at.levels ≡ h.levels → at.top ≡ h.top → at.left ≡ h.left
    → Building h x root start end h.arena at start
unfolding fronts front_sizes onto
building_none {h} {x} {root} at l t e = record {
  level = l;
  kept = kept_refl _ _;
  low = omega arith;
  short = omega arith;
  few = omega arith;
  reached = λ sh es μ m {ms} v. record {
    vs = [];
    rest = ms;
    long = omega arith;
    bytes = refl;
    encodable = λ q. q;
    held = v;
    onwards = let z : h.left - h.left ≡ 0 = omega arith in rw (e, z) (record { is = sym (more_none _) });
  };
}

module _ {h : Here} {x root start end : ℕ} {a : List ℕ} {to : At} {next : ℕ} (w : AsksMembers h x root start end)
    (b : Building h x root start end a to next) where
  pub held_now : {i n : ℕ} {v : Value} → Held h.arena h.top i n v → Held a h.top i n v
  held_now v = held_later b.kept w.asked.base h.top (le_refl _) v

  pub some_reached : Reached h x root end a to.top to.left next w.asked.sheet.sh w.asked.env w.some
  some_reached = b.reached _ w.asked.sheet.read _ w.asked.scoped w.held

  -- the rest of the old list stands below the new one
  pub rest_inside : (next < end) × (end ≤ h.top)
  rest_inside =
      let v = some_reached.held in
      let s = held_some v in
      let p = below_ends v.place w.asked.base in
      (omega arith, omega arith)

  -- THE END: 02 is written behind the last member
  module _ (stop : get_or a next 0 ≡ 3 → ⊥) {m : List ℕ} (mark : Marked 2 to.top a m) where
    whole_bytes : (vs : List Value) → to.top ≡ h.top + front_sizes vs → part a h.top (front_sizes vs) ≡ fronts vs
        → part m h.top (front_sizes vs + 1) ≡ encode (list (onto vs nil))
    unfolding encode encodes
    whole_bytes vs e p = part_join m h.top (front_sizes vs) 1
        ∙ rw (part_kept (marked_kept mark) h.top (front_sizes vs) (omega arith), ← e, p, marked_part mark) (sym (onto_bytes vs nil))

    pub members_end : {r : ℕ} → r ≡ done_as h.top (to.top + 1 - h.top) (h.left - to.left) → TellsMembers h m r x root start end
    unfolding run after size sizes
    members_end {r} is = record {
      told = λ v. record {
        kept = kept_then b.kept (marked_kept mark) b.low;
        told = λ sh es μ e.
            let q = b.reached sh es μ e v in
            let last = end_rest q.rest (λ f. stop (held_head (held_now q.held) ∙ f)) in
            let room = w.room in
            let low = b.low in
            let short = b.short in
            let len : to.top + 1 - h.top ≡ front_sizes q.vs + 1 = omega (arith, q.long) in
            let d : decoded m h.levels r ≡ Done h.top (front_sizes q.vs + 1) (h.left - to.left)
            = ap (decoded m h.levels) is ∙ done_said m h.levels _ _ _ (omega arith) (omega arith) (omega (arith, w.asked.few))
            ∙ ap (λ (i : ℕ). Done h.top i (h.left - to.left)) len in
            let z : h.left - to.left ≡ h.left - to.left + 0 = omega arith in
            let long : front_sizes q.vs + 1 ≡ sizes (onto q.vs nil) = omega (arith, onto_size q.vs nil) in
            steps_to q.onwards (answer_by (finish refl (record {
              low = le_refl _;
              held = record {
                place = on_stack w.asked.base (le_refl _);
                long = long;
                bytes = whole_bytes q.vs q.long q.bytes;
                readable = record { fits = omega (arith, q.long); encodable = e_list (q.encodable e_nil) };
              };
            })) (ap (left_of h x root sh μ q.vs) last ∙ get_end _ root _ q.vs))
            (d ∙ ap (Done h.top (front_sizes q.vs + 1)) z);
      };
    }
