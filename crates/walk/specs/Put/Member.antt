-- One member of a put of each (1C): what it held_at for, its put into the section's root, and what it is then.
use Rattle.std.specs.Option.{unwrap_or}
use Rattle.std.specs.Prelude.{◌≡◌, Option, Some, None, true, false, ℕ, suc, ◌+◌, ◌-◌, ◌*◌, ◌≤◌, ◌<◌, length, take, drop, get_or, set}
use Rattle.std.proofs.Math.Path.{refl, ap}
use Rattle.std.proofs.Common.{sym, ap₂, ◌∙◌, le_refl, length-drop, take-append-drop, take-suc-set}
use Rattle.std.proofs.Math.Option.{none, some}
use mathlib.Core.List.{List, [], ◌∷◌, ◌++◌, append_assoc}
use native.Mathlib.Omega.{arith}
use Rattle.std.proofs.Math.ListN.{get_elem?, length-set}
use Rattle.std.proofs.Math.Seq.{paste}
use Rattle.std.proofs.lemmas.List.Edits.{take-paste}
use Rattle.outcome.specs.Outcome.{is_refusal, done_as, len_of, start_of, steps_of}
use Rattle.value.specs.Result.{ok}
use Rattle.value.specs.Value.{Value, Values, vfalse, list, nil, cons, encode, size, sizes}
use Rattle.value.specs.Laws.{Readable}
use Rattle.shapes.specs.Parts.{shape_of, middle_of}
use Rattle.shapes.proofs.PartsLaws.{shape, shape-encode}
use Rattle.sheet.specs.Sheet.{Sheet, read_sheet}
use Rattle.std.proofs.Math.Decide.{dec_le}
use Rattle.rules.specs.Outcome.{when}
use Rattle.rules.specs.Semantics
use Rattle.rules.specs.Semantics.{Env, on_list, two}
use Rattle.rules.specs.Explain.{Cells, Explained, Getter, Putter, ◌>>=◌, get, give, given, got, or_old, put, stood_for, within}
use Rattle.rules.specs.Numbers.{allowance_limit, scratch_size, stack_start, chain_start}
use Rattle.scopes.specs.declared.Scope.{Scope}
use Rattle.scopes.specs.declared.Span.{Span}
use Rattle.scopes.specs.Scopes.{front_two, place_of}
use Rattle.walk.specs.Decoded.{Done, Own, Refused, after, done_said, refused_decoded, decoded, decoded_done, decoded_refused}
use Rattle.walk.specs.declared.putter.Members.{Members}
use Rattle.walk.specs.Arena.Parts.{SameBelow, kept_refl}
use Rattle.walk.specs.Moves.{top_after, Above, above}
use Rattle.walk.specs.Scope.{no_variable, with_member}
use Rattle.walk.specs.Arena.{Held, below_ends, below_later, env_member, env_later}
use Rattle.walk.specs.Arena.Bytes.{elem_at, held_some, held_short, held_front}
use Rattle.walk.specs.Represents.{Represents, answer_by, finish, then_done, then_refused, give_some, give_yes, give_no, Had, had, not_had}
use Rattle.walk.specs.Members.{put_member}
use Rattle.walk.specs.Get as gets
use Rattle.walk.specs.Get.{Tabled, GotAt}
use Rattle.walk.specs.Get.Case.{held_above}
use Rattle.walk.specs.Steps.{Frugal, frugal_give, frugal_next, frugal_given, get_frugal, put_frugal}
use Rattle.walk.specs.Arena.Cells.{Frame, CellsHold, Shown}
use Rattle.walk.specs.Arena.Frames.{frame_then, kept_frame, held_framed, written_kept}
use Rattle.walk.specs.Arena.CellLaws.{named_member, written_one, written_less}
use Rattle.walk.specs.Put.{enter, pair, run, Any, SomeView, Given, Ready, Few, Inner, PutHere, PutAsks, PutTold}
use Rattle.walk.specs.Put.Switch.{env_none}
use Rattle.walk.specs.Put.Rebuilt.{HeldAt as Found, held_at}

-- THE OLD MEMBERS THAT ARE LEFT

-- some stand as a list at `old`
pub record SomeOld (a : List ℕ) (top old : ℕ) : Type 0 where
  pub members : Values
  pub len : ℕ
  pub held : Held a top old len (list members)

-- how many bytes the first of them takes, with the 03 before it; 0 where there is none
unfoldable pub first_byte_count : Values → ℕ
first_byte_count nil = 0
first_byte_count (cons m r) = 1 + size m

-- where its rest starts, as the code finds it
pub first_middle : {a : List ℕ} {top old len : ℕ} {mid : Option ℕ} {l : Values} → Held a top old len (list l) → mid ≡ middle_of (shape_of (drop old a))
    → mid ≡ middle_of (shape (list l))
first_middle {a} {old = old} {len = len} {l = l} h e =
    let s : drop old a ≡ encode (list l) ++ drop len (drop old a)
    = sym (take-append-drop len (drop old a)) ∙ ap (λ (x : List ℕ). x ++ drop len (drop old a)) h.bytes in
    e ∙ ap (λ (x : List ℕ). middle_of (shape_of x)) s ∙ ap middle_of (shape-encode h.readable _)

pub first_some : (l : Values) {m : ℕ} → Some m ≡ middle_of (shape (list l)) → 1 ≤ m
unfolding shape middle_of
first_some nil e = absurd (cc)
first_some (cons v r) {m} e = let z : m ≡ 1 + size v = cc in omega arith

pub first_bytes : {a : List ℕ} {top old len : ℕ} {mid : Option ℕ} {l : Values} → Held a top old len (list l) → mid ≡ middle_of (shape_of (drop old a))
    → unwrap_or mid 0 ≡ first_byte_count l
unfolding shape middle_of first_byte_count
first_bytes {mid = mid} {l = l} h e = ap (λ (o : Option ℕ). unwrap_or o 0) (first_middle h e) ∙ go l
  where
    go : (l : Values) → unwrap_or (middle_of (shape (list l))) 0 ≡ first_byte_count l
    go nil = refl
    go (cons m r) = refl

pub first_short : {a : List ℕ} {top old len mid : ℕ} {l : Values} → Held a top old len (list l) → mid ≡ first_byte_count l → mid ≤ 256
unfolding first_byte_count size sizes
first_short {l = nil} h e = omega arith
first_short {l = cons m r} h e = omega (arith, h.readable.fits)

-- WHAT `stood_for` ASKS AND GIVES

pub record StoodAsked (s table a : List ℕ) (d old : ℕ) (mid : Option ℕ) (top levels left : ℕ) : Type 0 where
  pub long : length a ≡ scratch_size
  pub few : left ≤ allowance_limit
  pub base : stack_start ≤ top
  pub room : top + 513 * levels ≤ chain_start
  pub deep : 2 * levels ≤ 112
  pub sheet : Tabled s table
  pub known : d < length sheet.sh.nodes
  pub some : SomeOld a top old
  pub middle : mid ≡ middle_of (shape_of (drop old a))

pub record Stood (s b a : List ℕ) (d old top levels left r : ℕ) : Type 0 where
  pub kept : SameBelow top b a
  pub told : {sh : Sheet} → read_sheet s ≡ ok sh → {l : Values} {len : ℕ} → Held b top old len (list l)
      → Represents (GotAt a top) (decoded a levels r) left (stood_for (get levels sh) d l)

module _ {s table b : List ℕ} {d old : ℕ} {mid : Option ℕ} {top levels left : ℕ} (w : StoodAsked s table b d old mid top levels left) where
  -- an old member
  pub old_stood : {m r : ℕ} → mid ≡ Some m → r ≡ done_as (old + 1) (m - 1) 0 → Stood s b b d old top levels left r
  unfolding Semantics.stood_for on_list shape middle_of
  old_stood {m} {r} n e = record { kept = kept_refl top b; told = λ {sh} es {l} h. go sh l (sym n ∙ first_middle h w.middle) h }
    where
      go : (sh : Sheet) (l : Values) {len : ℕ} → Some m ≡ middle_of (shape (list l)) → Held b top old len (list l)
          → Represents (GotAt b top) (decoded b levels r) left (stood_for (get levels sh) d l)
      go sh nil f h = absurd (cc)
      go sh (cons v rest) f h =
          let z : m ≡ 1 + size v = cc in
          let t = held_front z h in
          let z = below_ends t.first.place w.base in
          let y = held_short t.first in
          let x = held_some t.first in
          finish (ap (decoded _ _) e ∙ done_said _ _ _ _ _ (omega (arith, w.room, x)) (omega arith) (omega arith)) (record {
            low = omega (arith, x);
            held = record {
              place = below_later (top + (m - 1)) (omega arith) t.first.place;
              long = t.first.long;
              bytes = t.first.bytes;
              readable = t.first.readable;
            };
          })

  -- the default
  pub default_asks : gets.Ready s table b no_variable top levels left (gets.enter d)
  default_asks = record {
    long = w.long;
    few = w.few;
    base = w.base;
    room = omega (arith, w.room);
    variables = omega (arith, w.deep);
    sheet = w.sheet;
    known = w.known;
    env = [];
    scoped = env_none b top;
  }

  pub default_stood : {a : List ℕ} {r : ℕ} → mid ≡ None → gets.GetShows b a s no_variable top top left r levels (gets.enter d) →
      Stood s b a d old top levels left r
  unfolding Semantics.stood_for on_list shape middle_of gets.run
  default_stood {a} {r} n g = record { kept = g.kept; told = λ {sh} es {l} h. go sh es l (sym n ∙ first_middle h w.middle) }
    where
      go : (sh : Sheet) → read_sheet s ≡ ok sh → (l : Values) → None ≡ middle_of (shape (list l))
          → Represents (GotAt a top) (decoded a levels r) left (stood_for (get levels sh) d l)
      go sh es nil f = g.told sh es [] (env_none b top)
      go sh es (cons m rest) f = absurd (cc)

-- WHAT `put_one` ASKS AND GIVES

-- the section's root, the default and the subject are nodes; the caller's variable is in scope; there is room for the default and for a cell
pub record MembersAsked (s table a slots : List ℕ) (sc : Scope) (cells : List ℕ) (by : Members) (count top levels left : ℕ) : Type 0 where
  pub ready : Ready s table a slots Any sc cells count count top levels left (pair by.root by.default vfalse)
  pub inner : Inner sc count levels
  pub room : top + 256 + 513 * levels ≤ chain_start
  pub subject : (sh : Sheet) → read_sheet s ≡ ok sh → by.subject < length sh.nodes
  pub variable : by.x < sc.count
  pub old : SomeOld a top by.old

-- what the member is then, behind a 03 in `whole`, and what was written. The answer's start is how many bytes it took of the old list, and
-- its length how many `whole` has more than the `built` before
pub record Remade (a slots before whole : List ℕ) (count built : ℕ) (old : Values) (start len : ℕ) (q : Value × Cells) : Type 0 where
  pub written : CellsHold a slots count q.1
  pub took : start ≡ first_byte_count old
  pub long : len ≡ suc (size q.0)
  pub bytes : take (built + len) whole ≡ take built before ++ 3 ∷ encode q.0
  pub short : built + len + 1 ≤ 256
  pub readable : Readable q.0

-- the put of one member u, where the variables in scope stand for μ and are the cells σ
abbrev pub one_member : (l : ℕ) → Sheet → Members → (built : ℕ) → Env → List ℕ → Values → Value → Cells → Explained (Value × Cells)
one_member l sh by built μ σ old u W =
    put_member (get l sh) (put l sh) by.root by.default (get_or σ by.x 0) (get_or μ by.x vfalse) (suc built) old u W

stood_frugal : (l : ℕ) (sh : Sheet) (d : ℕ) (old : Values) → Frugal (stood_for (get l sh) d old)
unfolding Semantics.stood_for on_list
stood_frugal l sh d nil = get_frugal l sh d []
stood_frugal l sh d (cons m rest) = frugal_give m

pub member_frugal : (l : ℕ) (sh : Sheet) (by : Members) (built : ℕ) (μ : Env) (σ : List ℕ) (old : Values) (u : Value) (W : Cells)
    → Frugal (one_member l sh by built μ σ old u W)
unfolding put_member
member_frugal l sh by built μ σ old u W = frugal_next (stood_frugal l sh _ old) λ m. frugal_next (put_frugal l sh _ _ _ u _) λ X. frugal_given _ _ λ o.
    frugal_given _ _ λ _. frugal_give _

pub record MemberTold (s b a slots slots' before whole : List ℕ) (sc : Scope) (cells : List ℕ) (by : Members) (view : List ℕ)
    (built count top levels left r : ℕ) : Type 0 where
  pub frame : Frame top b a
  pub long : length slots' ≡ length slots
  pub whole_long : length whole ≡ length before
  pub told : {sh : Sheet} {μ : Env} {σ : List ℕ} {v : Value} {W : Cells} → Given b slots s Any sc cells count count top sh μ σ v W
      → {u : Value} → Shown view u → {old : Values} {len : ℕ} → Held b top by.old len (list old)
      → Represents (Remade a slots' before whole count built old) (decoded a levels r) left (one_member levels sh by built μ σ old u W)

-- a value of the arena behind a 03, in `whole`
whole_bytes : (before a : List ℕ) (built : ℕ) (p : Span) {v : Value} → Found a p v → built + (1 + p.len) ≤ length before → length a ≡ scratch_size
    → take (built + (1 + p.len)) (paste (set before built 3) (built + 1) (drop p.start a) p.len) ≡ take built before ++ 3 ∷ encode v
whole_bytes before a built p {v} f h l =
    let z : built + (1 + p.len) ≡ built + 1 + p.len = omega arith in
    let y : built + 1 ≡ suc built = omega arith in
    let n : p.len ≤ length (drop p.start a) = rw length-drop (omega (arith, f.inside)) in
    let u : take (built + 1) (set before built 3) ≡ take built before ++ 3 ∷ [] = rw y (take-suc-set before built 3 (omega arith)) in
    ap (λ (k : ℕ). take k (paste (set before built 3) (built + 1) (drop p.start a) p.len)) z
    ∙ take-paste (set before built 3) (built + 1) (drop p.start a) p.len (rw length-set (omega arith)) n
    ∙ ap₂ ◌++◌ u f.bytes ∙ append_assoc (take built before) (3 ∷ []) (encode v)

-- with the number of cells for the length of what was written
member_run : (g : Getter) (p : Putter) (root d c : ℕ) (a : Value) (k : ℕ) (old : Values) (v : Value) (W : Cells) (n : ℕ) → length W ≡ n
    → put_member g p root d c a k old v W ≡ (stood_for g d old >>= λ m. p root (two m a) (two n c) v (W ++ none ∷ []) >>= λ X. given 42 (get_elem? X n) λ o.
    given 44 (when (dec_le (k + suc (size (or_old o m))) 256)) λ _. give (or_old o m, take n X))
unfolding put_member
member_run g p root d c a k old v W n e = rw e

-- what `stood_for` is asked then
pub stood_asked : {s table a slots cells : List ℕ} {sc : Scope} {by : Members} {count top levels left : ℕ} {mid : Option ℕ}
    → MembersAsked s table a slots sc cells by count top levels left → mid ≡ middle_of (shape_of (drop by.old a))
    → StoodAsked s table a by.default by.old mid top levels left
stood_asked w e =
    let r = w.ready in
    record {
      long = r.long;
      few = r.few;
      base = r.base;
      room = omega (arith, w.room);
      deep = omega (arith, w.inner.more_cells);
      sheet = r.sheet;
      known = r.known.1;
      some = w.old;
      middle = e;
    }

-- AT A STAGE: what the member held_at for was found, as the answer g
pub record MemberStood (h : PutHere) (by : Members) (a : List ℕ) (g : ℕ) : Type 0 where
  pub asked : MembersAsked h.sheet h.table h.arena h.slots h.scope h.cells by h.count h.top h.levels h.left
  pub stood : Stood h.sheet h.arena a by.default by.old h.top h.levels h.left g

-- what is told there, with the arena, the slots and the whole as they are left
abbrev pub MemberTells : (h : PutHere) (by : Members) (view : List ℕ) (built : ℕ) (before a slots whole : List ℕ) (r : ℕ) → Type 0
MemberTells h by view built before a slots whole r =
    MemberTold h.sheet h.arena a h.slots slots before whole h.scope h.cells by view built h.count h.top h.levels h.left r

module _ {h : PutHere} {by : Members} {a₁ : List ℕ} {g : ℕ} (w : MemberStood h by a₁ g) where
  -- what is given to the caller
  abbrev GivenHere : Sheet → Env → List ℕ → Value → Cells → Type 0
  GivenHere = Given h.arena h.slots h.sheet Any h.scope h.cells h.count h.count h.top

  abbrev OldHere : Values → ℕ → Type 0
  OldHere l len = Held h.arena h.top by.old len (list l)

  pub stood_refused : {view before : List ℕ} {built : ℕ} → is_refusal g ≡ true → MemberTells h by view built before a₁ h.slots before g
  unfolding put_member
  stood_refused e = let x = decoded_refused _ _ g e in record {
    frame = kept_frame w.stood.kept w.asked.ready.base;
    long = refl;
    whole_long = refl;
    told = λ m s o. then_refused _ _ (not_had (w.stood.told m.read o) x).1 x;
  }

  module _ (e : is_refusal g ≡ false) where
    abbrev HadValue : Sheet → Values → Type 0
    HadValue sh l = Had (GotAt a₁ h.top) (start_of g) (len_of g) (steps_of g) (within h.left (stood_for (get h.levels sh) by.default l))

    the_value : {sh : Sheet} → read_sheet h.sheet ≡ ok sh → {l : Values} {len : ℕ} → OldHere l len → HadValue sh l
    the_value r o = had (w.stood.told r o) (decoded_done _ _ g e)

    pub stood_sizes : (start_of g ≤ h.top) × (1 ≤ len_of g) × (len_of g ≤ 256) × (steps_of g ≤ h.left)
    stood_sizes =
        let d = the_value w.asked.ready.sheet.read w.asked.old.held in
        (d.that.low, held_some d.that.held, held_short d.that.held, (stood_frugal _ _ _ _).few h.left d.is)

    abbrev top' : ℕ
    top' = top_after h.top (start_of g) (len_of g)

    up : Above h.top (start_of g) (len_of g) top'
    up = above _ _ _ stood_sizes.0

    -- where the member is put: its own scope of two variables, its new cell
    abbrev pub member_here : PutHere
    member_here = record {
      sheet = h.sheet;
      table = h.table;
      arena = a₁;
      slots = set h.slots h.count 0;
      scope = with_member h.scope by.x (start_of g) (len_of g);
      cells = front_two h.cells h.count (get_or h.cells by.x 0);
      count = h.count + 1;
      top = top';
      left = h.left - steps_of g;
      levels = h.levels;
    }

    given_member : {view : List ℕ} {sh : Sheet} {μ : Env} {σ : List ℕ} {v u m : Value} {W : Cells} → GivenHere sh μ σ v W → Shown view u
        → GotAt a₁ h.top (start_of g) (len_of g) m
        → Given a₁ member_here.slots h.sheet (Shown view) member_here.scope member_here.cells (h.count + 1) (h.count + 1) top' sh
        (two m (get_or μ by.x vfalse)) (two h.count (get_or σ by.x 0)) u (W ++ none ∷ [])
    given_member c s t =
        let i = w.asked.inner in
        record {
          read = c.read;
          scoped = env_member (env_later w.stood.kept w.asked.ready.base top' up.over c.scoped)
              (omega (arith, c.scoped.count, w.asked.variable)) (held_above up t.held);
          named = named_member c.named (omega (arith, c.as_many, c.scoped.count, w.asked.variable));
          as_many = refl;
          written = written_one (written_kept w.stood.kept w.asked.ready.base c.written) (omega (arith, i.more_cells, i.some));
          shown = s;
        }

    pub member_asks : {view : List ℕ} → SomeView view → PutAsks member_here (Shown view) (enter by.root)
    member_asks v =
        let a = w.asked.ready in
        let i = w.asked.inner in
        let z = stood_sizes in
        let u = up in
        record {
          long = w.stood.kept.long ∙ a.long;
          few = omega (arith, a.few);
          base = omega (arith, a.base);
          room = omega (arith, w.asked.room);
          variables = omega (arith, i.variables);
          more_cells = omega (arith, i.more_cells);
          sheet = a.sheet;
          known = a.known.0;
          env = _;
          names = _;
          value = _;
          cells_now = _;
          given = given_member a.given v.shown (the_value a.sheet.read w.asked.old.held).that;
        }

    -- THE MEMBER WAS PUT
    module _ {view a₂ slots₂ : List ℕ} {r₂ : ℕ} (t : PutTold member_here (Shown view) a₂ slots₂ r₂ (enter by.root)) where
      frame₂ : Frame h.top h.arena a₂
      frame₂ = frame_then (kept_frame w.stood.kept w.asked.ready.base) t.frame w.asked.ready.base up.over

      long₂ : length slots₂ ≡ length h.slots
      long₂ = t.long ∙ simp length-set

      pub put_refused : {before : List ℕ} {built : ℕ} → is_refusal r₂ ≡ true → MemberTells h by view built before a₂ slots₂ before r₂
      unfolding run after
      put_refused e₂ = let x = decoded_refused _ _ r₂ e₂ in record {
        frame = frame₂;
        long = long₂;
        whole_long = refl;
        told = λ {W = W} c s o.
            let d = the_value c.read o in
            answer_by (then_done _ _ {q = Refused _} d.is (then_refused _ _ (not_had (t.told (given_member c s d.that)) x).1 refl) x)
            (member_run _ _ _ _ _ _ _ _ _ W h.count c.written.count);
      }

      module _ (e₂ : is_refusal r₂ ≡ false) (few : Few (h.left - steps_of g) r₂) {now : Span}
          (is : now ≡ place_of (get_or slots₂ h.count 0) h.count (start_of g) (len_of g)) where
        -- what is known then: the cells, and where the member's value held_at
        record Then (sh : Sheet) (μ : Env) (σ : List ℕ) (u : Value) (W : Cells) (m : Value) : Type 0 where
          X : Cells
          put_is : within (h.left - steps_of g) (put h.levels sh by.root (two m (get_or μ by.x vfalse)) (two h.count (get_or σ by.x 0)) u
              (W ++ none ∷ [])) ≡ got X (steps_of r₂)
          there : get_elem? X h.count ≡ some (get_or X h.count none)
          stands_now : Found a₂ now (or_old (get_or X h.count none) m)
          written : CellsHold a₂ slots₂ h.count (take h.count X)

        after_put : {sh : Sheet} {μ : Env} {σ : List ℕ} {v u m : Value} {W : Cells} → GivenHere sh μ σ v W → Shown view u
            → GotAt a₁ h.top (start_of g) (len_of g) m → Then sh μ σ u W m
        unfolding run
        after_put c s st =
            let d = had (t.told (given_member c s st)) (decoded_done _ _ r₂ e₂) in
            let x = d.that.written in
            let i = w.asked.inner in
            let y = up in
            let z = stood_sizes in
            let base : stack_start ≤ top' = omega (arith, w.asked.ready.base) in
            let most : top' ≤ scratch_size = omega (arith, w.asked.room) in
            record {
              X = d.value;
              put_is = d.is;
              there = elem_at d.value h.count none (omega (arith, x.count));
              stands_now = rw is (held_at (x.each h.count (omega arith)) (omega (arith, i.more_cells, i.some))
                  (held_framed t.frame top' (le_refl _) (held_above up st.held)) base most);
              written = written_less (omega arith) x;
            }

        -- for the code's indices
        pub now_there : SomeView view → (now.len ≤ 256) × (now.start + now.len ≤ length a₂)
        now_there v =
            let a = w.asked.ready in
            let d = the_value a.sheet.read w.asked.old.held in
            let n = (after_put a.given v.shown d.that).stands_now in
            (omega (arith, n.long, n.readable.fits), omega (arith, n.inside, frame₂.long, a.long))

        -- the list would be too long
        pub member_44 : {before : List ℕ} {built r : ℕ} → 256 < built + (1 + now.len) + 1 → r ≡ 44 → MemberTells h by view built before a₂ slots₂ before r
        unfolding after
        member_44 {built = built} {r = r} long f = record {
          frame = frame₂;
          long = long₂;
          whole_long = refl;
          told = λ {W = W} c s o.
              let d = the_value c.read o in
              let n = after_put c s d.that in
              let x : decoded a₂ h.levels r ≡ Own 44 = ap (decoded _ _) f ∙ refused_decoded _ _ (omega arith) (omega arith) in
              answer_by (then_done _ _ {q = Own 44} d.is (then_done _ _ {q = Own 44} n.put_is (give_some 42 _ n.there
              (give_no 44 _ _ (λ z. omega (arith, n.stands_now.long)) refl)) refl) x)
              (member_run _ _ _ _ _ _ _ _ _ W h.count c.written.count);
        }

        -- it is there
        pub member_done : {before whole : List ℕ} {o : Option ℕ} {built mid r : ℕ} → built + (1 + now.len) + 1 ≤ 256 → length before ≡ 256
            → whole ≡ paste (set before built 3) (built + 1) (drop now.start a₂) now.len → length whole ≡ length (set before built 3)
            → o ≡ middle_of (shape_of (drop by.old h.arena)) → mid ≡ unwrap_or o 0
            → r ≡ done_as mid (1 + now.len) (steps_of g + steps_of r₂) → MemberTells h by view built before a₂ slots₂ whole r
        unfolding after
        member_done {before} {whole} {o} {built} {mid} {r} short l is' same mi un f = record {
          frame = frame₂;
          long = long₂;
          whole_long = same ∙ length-set before built 3;
          told = λ {W = W} c s ol.
              let d = the_value c.read ol in
              let n = after_put c s d.that in
              let y : steps_of g + steps_of r₂ ≡ steps_of g + (steps_of r₂ + 0) = omega arith in
              let z = first_short ol (un ∙ first_bytes ol mi) in
              let k = stood_sizes in
              let x : decoded a₂ h.levels r ≡ Done mid (1 + now.len) (steps_of g + (steps_of r₂ + 0)) = ap (decoded _ _) f
              ∙ done_said _ _ mid (1 + now.len) _ (omega arith) (omega arith) (omega (arith, w.asked.ready.few, few.at e₂)) ∙ ap
              (Done mid (1 + now.len)) y in
              answer_by (then_done _ _ {q = Done mid (1 + now.len) (steps_of r₂ + 0)} d.is (then_done _ _ {q = Done mid (1 + now.len) 0} n.put_is
              (give_some 42 _ n.there (give_yes 44 _ _ (omega (arith, n.stands_now.long)) (λ _. finish refl (record {
                written = n.written;
                took = un ∙ first_bytes ol mi;
                long = omega (arith, n.stands_now.long);
                bytes = ap (take (built + (1 + now.len))) is'
                    ∙ whole_bytes before a₂ built now n.stands_now (omega arith) (frame₂.long ∙ w.asked.ready.long);
                short = omega arith;
                readable = n.stands_now.readable;
              })))) refl) x)
              (member_run _ _ _ _ _ _ _ _ _ W h.count c.written.count);
        }
