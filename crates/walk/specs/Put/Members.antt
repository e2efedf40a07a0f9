-- The members of a view, one after another, and then the list of what they are into the subject (1C).
use Rattle.std.specs.Prelude.{◌≡◌, refl, true, false, drop, get_or, set}
use Rattle.std.proofs.Math.Path.{sym, ap}
use Rattle.std.proofs.Common.{◌∙◌, le_refl, length-drop, get_or-drop, drop-drop}
use mathlib.Core.List.{List, [], ◌∷◌, ◌++◌}
use Prim.Native.Nat.{ℕ, suc, ◌+◌, ◌-◌, ◌≤◌, ◌<◌}
use native.Mathlib.Omega.{arith}
use Rattle.std.proofs.Math.ListN.{length, take}
use Rattle.std.proofs.Math.Seq.{take-suc-set}
use Rattle.outcome.specs.Outcome.{is_refusal, later_as, len_of, start_of, steps_of}
use Rattle.value.specs.Value.{Value, Values, vfalse, list, nil, cons, encode, encodes, size, sizes, Encodables, e_nil, e_cons, e_list}
use Rattle.value.proofs.Encoding.{size-encode, size_pos}
use Rattle.value.proofs.Laws.{readable_front}
use Rattle.shapes.specs.Parts.{shape_of, first_part}
use Rattle.shapes.proofs.PartsLaws.{shape_whole, first_of_list, rest_of_list}
use Rattle.sheet.specs.Sheet.{Sheet}
use Rattle.rules.specs.Semantics.{Env, rest_of}
use Rattle.rules.specs.Explain.{Cells, Explained, ◌>>=◌, get, got, put, within}
use Rattle.rules.specs.Numbers.{scratch_size}
use Rattle.scopes.specs.declared.Scope.{Scope}
use Rattle.walk.specs.Decoded.{later_said, decoded, decoded_done, decoded_refused}
use Rattle.walk.specs.declared.at.At.{At}
use Rattle.walk.specs.declared.putter.Members.{Members}
use Rattle.walk.specs.Moves.{after_of}
use Rattle.walk.specs.Arena.{Held, below_ends}
use Rattle.walk.specs.Arena.Bytes.{held_front}
use Rattle.walk.specs.Represents.{StepsTo, steps_to_done, steps_to_refused, then_steps_to, Represents, then_done, then_refused, had, not_had}
use Rattle.walk.specs.Members.{
  onto,
  fronts,
  front_sizes,
  onto_one,
  fronts_one,
  onto_bytes,
  onto_size,
  sizes_one,
  more_none,
  front_rest,
  end_rest,
  first_bytes_of,
  front_middle,
  put_from,
  put_end,
  put_member_lem,
}
use Rattle.walk.specs.Steps.{Frugal, frugal_give, frugal_next, put_frugal, put_each_frugal}
use Rattle.walk.specs.Arena.Cells.{Frame, CellsHold, Shown}
use Rattle.walk.specs.Arena.Frames.{frame_refl, frame_then, held_framed}
use Rattle.walk.specs.Put.{enter, run, Any, SomeView, Given, Wrote, Few, PutHere, PutAsks, PutTold}
use Rattle.walk.specs.Put.Requires.{ready_for, given_after}
use Rattle.walk.specs.Put.Member.{first_byte_count, MembersAsked, one_member, member_frugal, MemberTold}

-- WHAT `put_all` ASKS AND GIVES

pub record SomeList (view : List ℕ) : Type 0 where
  pub members : Values
  pub shown : Shown view (list members)

-- the rule from the members on, where the variables in scope stand for μ and are the cells σ
abbrev pub members_put : (l : ℕ) → Sheet → Members → Env → List ℕ → List Value → Values → Values → Cells → Explained (Values × Cells)
members_put l sh by μ σ vs old us W = put_from (get l sh) (put l sh) by.root by.default (get_or σ by.x 0) (get_or μ by.x vfalse) vs old us W

unfoldable pub members_run : (l : ℕ) → Sheet → Members → Env → List ℕ → Values → Values → Cells → Explained Cells
members_run l sh by μ σ old us W = members_put l sh by μ σ [] old us W >>= λ q. put l sh by.subject μ σ (list q.0) q.1

pub members_frugal : (l : ℕ) (sh : Sheet) (by : Members) (μ : Env) (σ : List ℕ) (old us : Values) (W : Cells) → Frugal (members_run l sh by μ σ old us W)
unfolding members_run put_from
members_frugal l sh by μ σ old us W =
    frugal_next (frugal_next (put_each_frugal l sh _ _ _ _ _ old us W) λ q. frugal_give _) λ q. put_frugal l sh _ μ σ _ _

pub record MembersTold (s b a slots slots' : List ℕ) (sc : Scope) (cells : List ℕ) (by : Members) (view : List ℕ) (count top levels left r : ℕ) : Type 0 where
  pub frame : Frame top b a
  pub long : length slots' ≡ length slots
  pub told : {sh : Sheet} {μ : Env} {σ : List ℕ} {v : Value} {W : Cells} → Given b slots s Any sc cells count count top sh μ σ v W
      → {us : Values} → Shown view (list us) → {old : Values} {len : ℕ} → Held b top by.old len (list old)
      → Represents (Wrote a slots' count) (decoded a levels r) left (members_run levels sh by μ σ old us W)

-- BEHIND SOME MEMBERS: the values that they are then (their bytes in `whole`), the old ones and the view's that are left, and what was written
pub record Reached (l : ℕ) (by : Members) (count top all left : ℕ) (view a slots whole : List ℕ) (old-at from built : ℕ)
    (sh : Sheet) (μ : Env) (σ : List ℕ) (old us : Values) (W : Cells) : Type 0 where
  pub values : List Value
  pub olds : Values
  pub len : ℕ
  pub rest : Values
  pub X : Cells
  pub written : CellsHold a slots count X
  pub held : Held a top old-at len (list olds)
  pub shown : Shown (drop from view) (list rest)
  pub bytes : take built whole ≡ fronts values
  pub many : built ≡ front_sizes values
  pub encodable : {l : Values} → Encodables l → Encodables (onto values l)
  pub fewer : left ≤ all
  pub on : StepsTo all (members_put l sh by μ σ [] old us W) (all - left) left (members_put l sh by μ σ values olds rest X)

-- a member and then the others
member_next : (l : ℕ) (sh : Sheet) (by : Members) (μ : Env) (σ : List ℕ) (vs : List Value) (old : Values) (u : Value) (r : Values) (X : Cells) {built : ℕ}
    → built ≡ front_sizes vs → members_put l sh by μ σ vs old (cons u r) X
    ≡ (one_member l sh by built μ σ old u X >>= λ q. members_put l sh by μ σ (vs ++ q.0 ∷ []) (rest_of old) r q.1)
member_next l sh by μ σ vs old u r X e = rw e (put_member_lem _ _ _ _ _ _ old X vs u r)

-- where the loop is: `at` and `by` are those of its beginning
pub record Turned (s b slots₀ : List ℕ) (sc : Scope) (cells : List ℕ) (by : Members) (view : List ℕ) (at : At) (a slots whole : List ℕ)
    (to : At) (next : Members) (from built : ℕ) : Type 0 where
  pub frame : Frame at.top b a
  pub long : length slots ≡ length slots₀
  pub whole_long : length whole ≡ 256
  pub place : to ≡ record { levels = at.levels; left = to.left; top = at.top; cells = at.cells }
  pub same : next ≡ record { subject = by.subject; x = by.x; root = by.root; default = by.default; old = next.old }
  pub short : built + 1 ≤ 256
  pub reached : {sh : Sheet} {μ : Env} {σ : List ℕ} {v : Value} {W : Cells}
      → Given b slots₀ s Any sc cells at.cells at.cells at.top sh μ σ v W
      → {us : Values} → Shown view (list us) → {old : Values} {len : ℕ} → Held b at.top by.old len (list old)
      → Reached at.levels by at.cells at.top at.left to.left view a slots whole next.old from built sh μ σ old us W

-- at its beginning
pub turned_none : {s b slots whole cells view : List ℕ} {sc : Scope} {by : Members} {at : At} → length whole ≡ 256
    → Turned s b slots sc cells by view at b slots whole at by 0 0
unfolding fronts front_sizes onto
turned_none {b = b} {at = at} l = record {
  frame = frame_refl _ _;
  long = refl;
  whole_long = l;
  place = refl;
  same = refl;
  short = omega arith;
  reached = λ {W = W} g {us} s {old} {len} o.
      record {
        values = [];
        olds = old;
        len = len;
        rest = us;
        X = W;
        written = g.written;
        held = o;
        shown = s;
        bytes = refl;
        many = refl;
        encodable = λ q. q;
        fewer = le_refl _;
        on = let z : at.left - at.left ≡ 0 = omega arith in rw z (record { is = sym (more_none _) });
      };
}

-- THE SAME at a place and with members by other names
module _ {at at' : At} {by by' : Members} (e : at ≡ at') (f : by ≡ by') where
  pub asked_as : {s table a slots cells : List ℕ} {sc : Scope} → MembersAsked s table a slots sc cells by' at'.cells at'.top at'.levels at'.left
      → MembersAsked s table a slots sc cells by at.cells at.top at.levels at.left
  asked_as w = rw (e, f) w

  pub told_as : {s b a slots slots' cells view : List ℕ} {sc : Scope} {r : ℕ}
      → MembersTold s b a slots slots' sc cells by view at.cells at.top at.levels at.left r
      → MembersTold s b a slots slots' sc cells by' view at'.cells at'.top at'.levels at'.left r
  told_as w = rw (e, f) at w

module _ {at at' : At} {by by' : Members} {view view' : List ℕ} (e : at ≡ at') (f : by ≡ by') (g : view ≡ view') where
  pub member_as : {s b a slots slots' before whole cells : List ℕ} {sc : Scope} {built r : ℕ}
      → MemberTold s b a slots slots' before whole sc cells by view built at.cells at.top at.levels at.left r
      → MemberTold s b a slots slots' before whole sc cells by' view' built at'.cells at'.top at'.levels at'.left r
  member_as w = rw (e, f, g) at w

pub some_view_as : {view view' : List ℕ} → view ≡ view' → SomeView view' → SomeView view
some_view_as e v = rw e v

pub turned_as : {s b slots₀ cells view a slots whole : List ℕ} {sc : Scope} {by next next' : Members} {at to to' : At} {from from' built built' : ℕ} → to ≡ to'
    → next ≡ next' → from ≡ from' → built ≡ built' → Turned s b slots₀ sc cells by view at a slots whole to' next' from' built'
    → Turned s b slots₀ sc cells by view at a slots whole to next from built
turned_as e f g h w = rw (e, f, g, h) w

-- AT A STAGE: `put_all` was asked, and the loop is somewhere
pub record Looping (s table b slots₀ : List ℕ) (sc : Scope) (cells : List ℕ) (by : Members) (view : List ℕ) (at : At) (a slots whole : List ℕ)
    (to : At) (next : Members) (from built : ℕ) : Type 0 where
  pub asked : MembersAsked s table b slots₀ sc cells by at.cells at.top at.levels at.left
  pub list_shown : SomeList view
  pub turned : Turned s b slots₀ sc cells by view at a slots whole to next from built

-- the first member of a list that is shown, and its rest
record Fronted (view : List ℕ) (mid : ℕ) (u : Value) (r : Values) : Type 0 where
  at : mid ≡ 1 + size u
  first : Shown (first_part view mid) u
  rest : Shown (drop mid view) (list r)

fronted : {view : List ℕ} {mid : ℕ} {u : Value} {r : Values} → Shown view (list (cons u r)) → mid ≡ first_bytes_of (shape_of view) → Fronted view mid u r
fronted {view} {mid} {u} {r} s e =
    let z : mid ≡ 1 + size u = e ∙ ap (λ (x : List ℕ). first_bytes_of (shape_of x)) s.bytes ∙ ap first_bytes_of (shape_whole s.readable) ∙ front_middle u r in
    let f = readable_front s.readable in
    record {
      at = z;
      first = record { bytes = rw (z, s.bytes) (first_of_list u r); readable = f.0 };
      rest = record { bytes = rw (z, s.bytes) (rest_of_list u r); readable = f.1 };
    }

-- the old members behind the first, if there is one
held_rest : {a : List ℕ} {top old len start : ℕ} (l : Values) → Held a top old len (list l) → start ≡ first_byte_count l
    → (len' : ℕ) × Held a top (old + start) len' (list (rest_of l))
unfolding first_byte_count rest_of
held_rest {old = old} {len = len} nil h e = let z : old + 0 ≡ old = omega arith in (len, rw (e, z) h)
held_rest {old = old} {len = len} {start = start} (cons m r) h e = (len - start, (held_front e h).second)

module _ {s table b slots₀ cells view a slots whole : List ℕ} {sc : Scope} {by next : Members} {at to : At} {from built : ℕ}
    (w : Looping s table b slots₀ sc cells by view at a slots whole to next from built) where
  abbrev GivenFirst : Sheet → Env → List ℕ → Value → Cells → Type 0
  GivenFirst = Given b slots₀ s Any sc cells at.cells at.cells at.top

  abbrev ReachedOf : Sheet → Env → List ℕ → Values → Values → Cells → Type 0
  ReachedOf = Reached at.levels by at.cells at.top at.left to.left view a slots whole next.old from built

  -- what is given now
  given_now : {sh : Sheet} {μ : Env} {σ : List ℕ} {v : Value} {W X : Cells} → GivenFirst sh μ σ v W → CellsHold a slots at.cells X
      → Given a slots s Any sc cells at.cells at.cells at.top sh μ σ v X
  given_now g x = given_after g w.turned.frame x tt

  some : ReachedOf w.asked.ready.sheet.sh w.asked.ready.env w.asked.ready.names w.asked.old.members w.list_shown.members
      w.asked.ready.cells_now
  some = w.turned.reached w.asked.ready.given w.list_shown.shown w.asked.old.held

  pub from_inside : from < length view
  from_inside =
      let z = some.shown in
      omega (arith, length-drop from view, ap length z.bytes, size-encode (list some.rest), size_pos (list some.rest))

  -- for the code's sums
  pub old_small : next.old ≤ scratch_size
  old_small = omega (arith, below_ends some.held.place w.asked.ready.base, w.asked.ready.room)

  pub left_fewer : to.left ≤ at.left
  left_fewer = some.fewer

  -- the byte that the loop looks at
  head_is : {sh : Sheet} {μ : Env} {σ : List ℕ} {old us : Values} {W : Cells} (z : ReachedOf sh μ σ old us W)
      → get_or view from 0 ≡ get_or (encode (list z.rest)) 0 0
  head_is z = let y : from + 0 ≡ from = omega arith in
      ap (λ (i : ℕ). get_or view i 0) (sym y) ∙ sym (get_or-drop from view 0 0) ∙ ap (λ (x : List ℕ). get_or x 0 0) z.shown.bytes

  -- ANOTHER MEMBER
  module _ (three : get_or view from 0 ≡ 3) {mid : ℕ} (middle : mid ≡ first_bytes_of (shape_of (drop from view))) where
    -- it is there, and what is left begins with it
    record More (sh : Sheet) (μ : Env) (σ : List ℕ) (old us : Values) (W : Cells) (z : ReachedOf sh μ σ old us W) : Type 0 where
      u : Value
      r : Values
      parts : Fronted (drop from view) mid u r
      rule : members_put at.levels sh by μ σ z.values z.olds z.rest z.X ≡ (one_member at.levels sh by built μ σ z.olds u z.X
          >>= λ q. members_put at.levels sh by μ σ (z.values ++ q.0 ∷ []) (rest_of z.olds) r q.1)

    more : {sh : Sheet} {μ : Env} {σ : List ℕ} {old us : Values} {W : Cells} (z : ReachedOf sh μ σ old us W) → More sh μ σ old us W z
    more {sh} {μ} {σ} z =
        let (u, r, e) = front_rest z.rest (sym (head_is z) ∙ three) in
        record {
          u = u;
          r = r;
          parts = fronted (rw e at z.shown) middle;
          rule = ap (λ (l : Values). members_put at.levels sh by μ σ z.values z.olds l z.X) e
              ∙ member_next at.levels sh by μ σ z.values z.olds u r z.X z.many;
        }

    pub mid_inside : (1 ≤ mid) × (from + mid < length view) × (length view ≤ 256)
    mid_inside =
        let m = more some in
        let k = m.parts.rest.bytes in
        let v = w.list_shown.shown in
        let x = length-drop from view in
        let y = length-drop mid (drop from view) in (
          omega (arith, m.parts.at),
          omega (arith, ap length k, size-encode (list m.r), size_pos (list m.r)),
          omega (arith, ap length v.bytes, size-encode (list w.list_shown.members), v.readable.fits),
        )

    pub member_view : SomeView (first_part (drop from view) mid)
    member_view = record { value = _; shown = (more some).parts.first }

    abbrev by' : Members
    by' = record { subject = by.subject; x = by.x; root = by.root; default = by.default; old = next.old }

    pub member_asked : MembersAsked s table a slots sc cells by' at.cells at.top at.levels to.left
    member_asked =
        let q = w.asked in
        let k = w.turned in
        let e = some.fewer in
        record {
          ready = ready_for q.ready q.ready.known (given_now q.ready.given some.written) k.frame.long e (le_refl _) (le_refl _)
              q.ready.room;
          inner = q.inner;
          room = q.room;
          subject = q.subject;
          variable = q.variable;
          old = record { members = some.olds; len = some.len; held = some.held };
        }

    -- the member was put
    module _ {a₂ slots₂ whole₂ : List ℕ} {r : ℕ}
        (t : MemberTold s a a₂ slots slots₂ whole whole₂ sc cells by' (first_part (drop from view) mid) built at.cells at.top at.levels to.left
        r) where
      frame₂ : Frame at.top b a₂
      frame₂ = frame_then w.turned.frame t.frame w.asked.ready.base (le_refl _)

      pub member_stops : is_refusal r ≡ true → MembersTold s b a₂ slots₀ slots₂ sc cells by view at.cells at.top at.levels at.left r
      unfolding members_run
      member_stops e = let x = decoded_refused _ _ r e in record {
        frame = frame₂;
        long = t.long ∙ w.turned.long;
        told = λ g v o.
            let z = w.turned.reached g v o in
            let m = more z in
            then_refused _ _ (steps_to_refused z.on _ _ m.rule (not_had (t.told (given_now g z.written) m.parts.first z.held) x).1) x;
      }

      module _ (e : is_refusal r ≡ false) where
        pub member_steps : steps_of r ≤ to.left
        member_steps = (member_frugal at.levels _ by' built w.asked.ready.env w.asked.ready.names some.olds (more some).u some.X).few
            to.left
            (had (t.told (given_now w.asked.ready.given some.written) (more some).parts.first some.held) (decoded_done _ _ r e)).is

        pub member_turned : Turned s b slots₀ sc cells by view at a₂ slots₂ whole₂ (after_of to r)
            (record { subject = by.subject; x = by.x; root = by.root; default = by.default; old = next.old + start_of r }) (from + mid) (built + len_of r)
        member_turned = record {
          frame = frame₂;
          long = t.long ∙ w.turned.long;
          whole_long = t.whole_long ∙ w.turned.whole_long;
          place = ap (λ (x : At). after_of x r) w.turned.place;
          same = refl;
          short = (had (t.told (given_now w.asked.ready.given some.written) (more some).parts.first some.held) (decoded_done _ _ r e)).that.short;
          reached = λ {sh} {μ} {σ} g v o.
              let z = w.turned.reached g v o in
              let m = more z in
              let d = had (t.told (given_now g z.written) m.parts.first z.held) (decoded_done _ _ r e) in
              let k = (member_frugal at.levels sh by' built μ σ z.olds m.u z.X).few to.left d.is in
              let j = z.fewer in
              let (len', h) = held_rest z.olds z.held d.that.took in
              record {
                values = z.values ++ d.value.0 ∷ [];
                olds = rest_of z.olds;
                len = len';
                rest = m.r;
                X = d.value.1;
                written = d.that.written;
                held = held_framed t.frame at.top (le_refl _) h;
                shown = rw (← drop-drop mid from view) m.parts.rest;
                bytes = d.that.bytes ∙ ap (λ (x : List ℕ). x ++ 3 ∷ encode d.value.0) z.bytes ∙ sym (fronts_one z.values d.value.0);
                many = omega (arith, z.many, d.that.long, sizes_one z.values d.value.0);
                encodable = λ q. rw onto_one (z.encodable (e_cons d.that.readable.encodable q));
                fewer = omega arith;
                on = then_steps_to _ _ z.on m.rule d.is refl (omega arith);
              };
        }

  -- NO OTHER MEMBER
  module _ (none : get_or view from 0 ≡ 3 → ⊥) {bytes : List ℕ} (is : bytes ≡ set whole built 2) where
    abbrev pub end_view : List ℕ
    end_view = take (built + 1) bytes

    -- the list of what the members are
    end_shown : {sh : Sheet} {μ : Env} {σ : List ℕ} {old us : Values} {W : Cells} (z : ReachedOf sh μ σ old us W) → Shown end_view (list (onto z.values nil))
    unfolding encode encodes size sizes
    end_shown z =
        let y : built + 1 ≡ suc built = omega arith in
        let k = w.turned in
        record {
          bytes = ap (take (built + 1)) is ∙ ap (λ (n : ℕ). take n (set whole built 2)) y ∙ take-suc-set whole built 2 (omega (arith, k.short, k.whole_long))
              ∙ ap (λ (x : List ℕ). x ++ 2 ∷ []) z.bytes ∙ sym (onto_bytes z.values nil);
          readable = record { fits = omega (arith, onto_size z.values nil, z.many, k.short); encodable = e_list (z.encodable e_nil) };
        }

    pub end_long : built + 1 ≡ length end_view
    unfolding size sizes
    end_long = sym (ap length (end_shown some).bytes ∙ size-encode (list (onto some.values nil))
        ∙ omega (arith, onto_size some.values nil, some.many))

    end_left : {sh : Sheet} {μ : Env} {σ : List ℕ} {old us : Values} {W : Cells} (z : ReachedOf sh μ σ old us W)
        → within at.left (members_put at.levels sh by μ σ [] old us W) ≡ got (onto z.values nil, z.X) (at.left - to.left)
    end_left {sh} {μ} {σ} z = steps_to_done z.on (ap (λ (l : Values). members_put at.levels sh by μ σ z.values z.olds l z.X)
        (end_rest z.rest (λ e. none (head_is z ∙ e))) ∙ put_end _ _ _ _ _ _ z.olds z.X z.values)

    -- where it is put
    abbrev pub end_here : PutHere
    end_here = record {
      sheet = s;
      table = table;
      arena = a;
      slots = slots;
      scope = sc;
      cells = cells;
      count = at.cells;
      top = at.top;
      left = to.left;
      levels = at.levels;
    }

    pub end_asks : PutAsks end_here (Shown end_view) (enter by.subject)
    end_asks =
        let q = w.asked.ready in
        ready_for q (w.asked.subject q.sheet.sh q.sheet.read) (given_after q.given w.turned.frame some.written (end_shown some))
        w.turned.frame.long some.fewer (le_refl _) (le_refl _) q.room

    pub end_told : {a₂ slots₂ : List ℕ} {q r : ℕ} → PutTold end_here (Shown end_view) a₂ slots₂ q (enter by.subject) → Few to.left q
        → r ≡ later_as q (at.left - to.left) → MembersTold s b a₂ slots₀ slots₂ sc cells by view at.cells at.top at.levels at.left r
    unfolding members_run run
    end_told {q = q} t few e = record {
      frame = frame_then w.turned.frame t.frame w.asked.ready.base (le_refl _);
      long = t.long ∙ w.turned.long;
      told = λ g v o.
          let z = w.turned.reached g v o in
          let k = z.fewer in
          let y : at.left - (at.left - to.left) ≡ to.left = omega arith in
          then_done _ _ (end_left z) (rw y (t.told (given_after g w.turned.frame z.written (end_shown z))))
          (ap (decoded _ _) e ∙ later_said _ _ q (at.left - to.left) (λ n. let x = few.at n in omega (arith, w.asked.ready.few)));
    }
