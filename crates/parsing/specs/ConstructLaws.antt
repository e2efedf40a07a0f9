-- HOW THE ANSWER OF A CONSTRUCT follows from those of its parts: each law has the answers in the order of the code, and ends with the construct's own.
use Rattle.std.specs.Prelude.{◌≡◌, Bool, true, false, length, get_or, take, set}
use Rattle.std.proofs.Math.Path.{refl, ap}
use Rattle.std.proofs.Common.{sym, subst, ◌∙◌, arith, mod-eq_of_lt, length-append, length-set, get_or-take, take-take, get_or-set_same, get_or-set_other}
use Rattle.std.specs.Prelude.{Some, None}
use Rattle.std.proofs.Math.Option.{Option}
use mathlib.Core.List.{List, [], ◌∷◌, ◌++◌}
use Prim.Native.Nat.{ℕ, zero, suc, ◌+◌, ◌*◌, ◌/◌, ◌%◌, ◌≤◌, ◌<◌}
use Rattle.std.proofs.Math.Numerals.{add-one}
use Rattle.std.proofs.lemmas.List.Edits.{sets}
use Rattle.std.proofs.lemmas.List.{take-set-le}
use borrow.Author.Tests.{ne_eqb, eq-eqb, le-leb, lt-leb}
use Rattle.node.specs.declared.Node.{Node}
use Rattle.node.specs.declared.Node.TheVariants as node
use Rattle.node.specs.Kinds.{width, written}
use Rattle.tokens.specs.Quoted.{bytes}
use Rattle.tokens.specs.Tokens.{Token, first, rest, word_of, mark_of, same}
use Rattle.syntax.specs.Reader.{Out, ok, fault, ◌>>=◌, Name, Scope, scope, is_name, sent, symbol, keyword, bind, known, variable, test}
use Rattle.syntax.specs.Reader.{Begin, nothing, a_false, a_true, a_let, a_case, an_each, a_pair, a_list, a_name, a_hash, a_number, word_begin}
use Rattle.syntax.specs.Reader.{begin_of, behind_of, branch_of}
use Rattle.syntax.specs.Reader.{whole, Nodes, Reader, room, begun, constant, pair_of, behind, back, front_of, list_by, list_of, let_in, amount_by, amount_of}
use Rattle.syntax.specs.Reader.{truth_case, list_case, branches, case_of, each_of, named, shaped, parted}
use Rattle.syntax.specs.Reader as reader
use Rattle.lexing.specs.Lexing.{Between, ahead, token_at, Next}
use Rattle.parsing.specs.Cursor.{fault_at, entered, Told, on, fault_told, Behind, With, fault_same, Carries, carries_then, Goes, told_then}
use Rattle.parsing.specs.Cursor as cursor
use Rattle.parsing.specs.Names.{name_at, name_sent, stack_of, stack_kept}
use Rattle.parsing.specs.Expect.{marked, mark_is, mark_own, mark_other, Again, Binds, Named, Numbers, Number, IsVariable, IsTest}
use Rattle.parsing.specs.Expect.{IsCallee, resolve_by, callee_of, scope_at, fault_here}
use Rattle.parsing.specs.Nodes.{Slots, slots_append, Kept, kept_refl, kept_fewer, kept_then, slots_kept}
use Rattle.parsing.specs.Nodes.{none as no_slots}
use Rattle.parsing.specs.Expressions.{begin_named, begin_by, said, lettered, begin_coded, begin_none, name_said}
use Rattle.parsing.specs.Expressions.{number_kind, number_said, row_of, Stored, Below, Leafy, Var, Call}
use Rattle.parsing.specs.Expressions.{Constant, goes_told, stored_kept, stored_more}
use Rattle.parsing.specs.declared.cursor.Cursor.{Cursor}
use Rattle.parsing.specs.declared.expr.Begin.{Begin as Begins}
use Rattle.parsing.specs.declared.expr.Begin.TheVariants as begins
use Rattle.lexing.specs.declared.Kind.{Kind}
use Rattle.lexing.specs.declared.Kind.TheVariants as kind
use Rattle.lexing.specs.declared.Lexeme.{Lexeme}
use Rattle.parsing.specs.declared.expect.Scope.{Scope as Names}
use Rattle.parsing.specs.Constructs.{Ready, Inner, Begun, Cased, Parsed, by_begin, Expr}
use Rattle.parsing.specs.Constructs.{Shaped, Pair, Listed, Front, Back, Let, Each, Case, Branch}
use Rattle.parsing.specs.Constructs.{with_two, Default, Branches, Truth, Lists, together, two_of, Both, Two}

-- NAMES
pub below_refl : (top : ℕ) (names : List ℕ) → Below top names names
below_refl top names = record { long = refl; same = refl }

pub below_then : {top : ℕ} {a b c : List ℕ} → Below top a b → Below top b c → Below top a c
below_then x y = record { long = y.long ∙ x.long; same = y.same ∙ x.same }

pub below_lower : {top : ℕ} (low : ℕ) {a b : List ℕ} → low ≤ top → Below top a b → Below low a b
below_lower {top} low {a} {b} h x = record {
  long = x.long;
  same = sym (take-take low top b h) ∙ ap (take low) x.same ∙ take-take low top a h;
}

pub below_set : (top : ℕ) (names : List ℕ) (i v : ℕ) → top ≤ i → Below top names (set names i v)
below_set top names i v h = record { long = length-set names i v; same = take-set-le top names i v h }

pub scope_kept : (s names : List ℕ) {names' : List ℕ} (sc : Names) → Below (sc.base + sc.many) names names' → scope_at s names sc ≡ scope_at s names' sc
unfolding scope_at
scope_kept s names {names'} sc b = ap (λ (l : List Name). scope l sc.lost) (stack_kept s names names' sc.base sc.many (sym b.same))

-- STEPS

-- a step that is two of the definition's
assoc : {A B C : Type 0} (m : Out A) (f : A → Out B) (g : B → Out C) → (m >>= f) >>= g ≡ m >>= (λ x. f x >>= g)
unfolding ◌>>=◌
assoc (ok a) f g = refl
assoc (fault n l i d) f g = refl

pub told_both : {s : List ℕ} {A B C : Type 0} {Q : B → Cursor → Type 0} {S : C → Cursor → Type 0} (m : Out A) (f : A → Out B) (g : B → Out C) {c r : Cursor}
    → Told s Q (m >>= f) c → Carries c r → ((x : B) → c.code ≡ 0 → Q x c → Told s S (g x) r) → Told s S (m >>= (λ x. f x >>= g)) r
told_both {s} {S = S} m f g {r = r} t k h = subst (λ (o : Out _). Told s S o r) (assoc m f g) (told_then g t k h)

-- what a part tells, of tokens, number and scope as the definition has them
pub part_told : {def : Reader → Scope → ℕ → List Token → Nodes} {s table names slots : List ℕ} {sc : Names} {c : Cursor} {names' slots' : List ℕ} {r : Cursor}
    → Parsed 0 def s table names slots sc c names' slots' r → c.code ≡ 0 → {ts : List Token} → Behind s ts c → {m : ℕ} → c.count ≡ m
    → {S : Scope} → S ≡ scope_at s names sc → sc.many ≤ 16 + m → (f : ℕ) → 200 ≤ m + f
    → Told s (With s (Stored slots' m)) (def (reader.read (resolve_by s table) f) S m ts) r
part_told e z b q p h f g = rw (b.tokens, p, ← q) (e.told z b.here (rw q h) f (rw q (omega arith)))

-- a fault that is given is handed on
pub parsed_on : {over : ℕ} {def : Reader → Scope → ℕ → List Token → Nodes} {s table names slots : List ℕ} {sc : Names} {c : Cursor} → c.count ≤ 200
    → (c.code ≡ 0 → ⊥)
    → Parsed over def s table names slots sc c names slots c
parsed_on {names = names} {slots = slots} {c = c} few h = record {
  carries = λ q. fault_same c;
  later = omega arith;
  few = few;
  below = below_refl _ names;
  kept = kept_refl c.count slots;
  told = λ z. absurd (h z);
}

-- a fault that is met
pub parsed_fault : {over : ℕ} {def : Reader → Scope → ℕ → List Token → Nodes} {s table names slots : List ℕ} {sc : Names} {c : Cursor} (code at d : ℕ)
    → c.count ≤ 200 → c.code ≡ 0
    → (Between s c.at → (f : ℕ) → 200 ≤ over + c.count + f
    → Told s (With s (Stored slots c.count)) (def (reader.read (resolve_by s table) f) (scope_at s names sc) c.count (ahead s c.at))
    (fault_at c code at d))
    → Parsed over def s table names slots sc c names slots (fault_at c code at d)
parsed_fault {names = names} {slots = slots} {c = c} code at d few z t = record {
  carries = λ q. absurd (q z);
  later = omega arith;
  few = few;
  below = below_refl _ names;
  kept = kept_refl c.count slots;
  told = λ q b m f g. t b f g;
}

-- NODES OF THE PARTS, one behind the other
abbrev pub parts : List (List Node) → List Node
parts [] = []
parts (a ∷ bs) = a ++ parts bs

abbrev pub lengths : List (List Node) → ℕ
lengths [] = 0
lengths (a ∷ bs) = length a + lengths bs

pub parts_long : (bs : List (List Node)) → length (parts bs) ≡ lengths bs
parts_long [] = refl
parts_long (a ∷ bs) = length-append a (parts bs) ∙ ap (λ (n : ℕ). length a + n) (parts_long bs)

-- ROWS: what is stored is the record
pub row_two : (k : ℕ) (x : ℕ → ℕ → Node) {a b i j : ℕ} → ((i j : ℕ) → take (width (x i j)) (row_of k (i ∷ j ∷ [])) ≡ written (x i j)) → a ≡ i → b ≡ j
    → take (width (x i j)) (row_of k (a ∷ b ∷ [])) ≡ written (x i j)
row_two k x {i = i} {j = j} f e g = rw (e, g) (f i j)

pub pair_row : (i j : ℕ) → take (width (node.Pair i j)) (row_of 22 (i ∷ j ∷ [])) ≡ written (node.Pair i j)
unfolding width written
pair_row i j = refl

pub front_row : (i j : ℕ) → take (width (node.Front i j)) (row_of 21 (i ∷ j ∷ [])) ≡ written (node.Front i j)
unfolding width written
front_row i j = refl

pub split_row : (i j : ℕ) → take (width (node.Split i j)) (row_of 25 (i ∷ j ∷ [])) ≡ written (node.Split i j)
unfolding width written
split_row i j = refl

-- A PAIR
pub pair_parsed : {s table : List ℕ} {sc : Names} {c : Cursor} {names slots names₁ slots₁ names₂ slots₂ slots₃ : List ℕ} {a m b r : Cursor}
    → Inner (length table) (length names) (length slots) (sc.base + sc.many) c
    → Expr s table names slots sc (entered c) names₁ slots₁ a → Goes s (Behind s) (symbol (marked (kind.Mark 44)) 9) a m
    → Expr s table names₁ slots₁ sc m names₂ slots₂ b
    → Goes s (Behind s) (symbol (marked (kind.Mark 41)) 10) b r → slots₃ ≡ sets slots₂ (8 * c.count) (row_of 22 ((c.count + 1) ∷ m.count ∷ []))
    → Pair s table names slots sc c names₂ slots₃ r
unfolding pair_of marked
pair_parsed {s} {table} {sc} {c} {names} {slots} {names₁} {slots₁} {names₂} {slots₂} {slots₃} {a} {m} {b} {r} w ea gm eb ge st = record {
  carries = λ q. absurd (q w.clear);
  later = let i = ea.later in let j = eb.later in omega (arith, gm.same, ge.same);
  few = let i = eb.few in omega (arith, ge.same);
  below = below_then ea.below eb.below;
  kept = kept_then (kept_then (kept_fewer (omega arith) ea.kept) (kept_fewer (let i = ea.later in omega (arith, gm.same)) eb.kept))
      (stored_kept slots₂ w.free long₂ row refl st);
  told = λ z h many f g.
      told_then _ (part_told ea z (record { here = h; tokens = refl }) (add-one c.count) refl (omega arith) f (omega arith))
      (carries_then (carries_then gm.carries eb.carries) ge.carries) (λ (x, ts₁) za ua.
      told_then _ (goes_told gm za ua.stands) (carries_then eb.carries ge.carries) (λ ts₂ zm um.
      let i = ua.value.counted in
      let j : m.count ≡ suc c.count + length x = gm.same ∙ i in
      told_then _ (part_told eb zm um j (scope_kept s names sc ea.below) (omega arith) f (omega arith)) ge.carries (λ (y, ts₃) zb ub.
      told_then _ (goes_told ge zb ub.stands) (λ q. fault_same r) (λ ts₄ ze ue.
      let l = parts_long (x ∷ y ∷ []) in
      on {x = (node.Pair (suc c.count) (suc c.count + length x) ∷ x ++ (y ++ []), ts₄)} {r = r} ze (record {
        stands = ue;
        value = record {
          counted = omega (arith, ge.same, ub.value.counted);
          some = omega arith;
          held = stored_more slots₂ w.free long₂ row refl st (row_two 22 node.Pair pair_row (add-one c.count) j)
              (slots_append (slots_kept eb.kept (omega arith) ua.value.held) (slots_append ub.value.held no_slots));
        };
      })))));
}
  where
    row : List ℕ
    row = row_of 22 ((c.count + 1) ∷ m.count ∷ [])

    long₂ : length slots₂ ≡ 1600
    long₂ = eb.kept.long ∙ ea.kept.long ∙ w.ready.slots_long

-- A MEMBER IN FRONT OF A LIST
pub front_parsed : {s table : List ℕ} {sc : Names} {c : Cursor} {names slots names₁ slots₁ names₂ slots₂ slots₃ : List ℕ} {a r : Cursor}
    → Inner (length table) (length names) (length slots) (sc.base + sc.many) c
    → Expr s table names slots sc (entered c) names₁ slots₁ a → Back s table names₁ slots₁ sc a names₂ slots₂ r
    → slots₃ ≡ sets slots₂ (8 * c.count) (row_of 21 ((c.count + 1) ∷ a.count ∷ []))
    → Front s table names slots sc c names₂ slots₃ r
unfolding front_of
front_parsed {s} {table} {sc} {c} {names} {slots} {names₁} {slots₁} {names₂} {slots₂} {slots₃} {a} {r} w ea eb st = record {
  carries = λ q. absurd (q w.clear);
  later = let i = ea.later in let j = eb.later in omega arith;
  few = eb.few;
  below = below_then ea.below eb.below;
  kept = kept_then (kept_then (kept_fewer (omega arith) ea.kept) (kept_fewer (let i = ea.later in omega arith) eb.kept))
      (stored_kept slots₂ w.free long₂ row refl st);
  told = λ z h many f g.
      told_then _ (part_told ea z (record { here = h; tokens = refl }) (add-one c.count) refl (omega arith) f (omega arith)) eb.carries (λ (x, ts₁) za ua.
      let i = ua.value.counted in
      told_then _ (part_told eb za ua.stands i (scope_kept s names sc ea.below) (omega arith) f (omega arith)) (λ q. fault_same r) (λ (y, ts₂) zb ub.
      let l = parts_long (x ∷ y ∷ []) in
      on {x = (node.Front (suc c.count) (suc c.count + length x) ∷ x ++ (y ++ []), ts₂)} {r = r} zb (record {
        stands = ub.stands;
        value = record {
          counted = omega (arith, ub.value.counted);
          some = omega arith;
          held = stored_more slots₂ w.free long₂ row refl st (row_two 21 node.Front front_row (add-one c.count) i)
              (slots_append (slots_kept eb.kept (omega arith) ua.value.held) (slots_append ub.value.held no_slots));
        };
      })));
}
  where
    row : List ℕ
    row = row_of 21 ((c.count + 1) ∷ a.count ∷ [])

    long₂ : length slots₂ ≡ 1600
    long₂ = eb.kept.long ∙ ea.kept.long ∙ w.ready.slots_long

-- A NODE WITHOUT FIELDS, at a token
module _ {s : List ℕ} (c : Cursor) {t : Lexeme} (slots : List ℕ) {slots₁ : List ℕ} {d r : Cursor} (n : Next s c.at t) (few : c.count < 200)
    (long : length slots ≡ 1600)
    (e : d ≡ cursor.behind c t.end 0 0) (k : ℕ) (st : slots₁ ≡ sets slots (8 * d.count) (row_of k [])) (f : r ≡ entered d) where
  bare_told : (x : Node) → take (width x) (row_of k []) ≡ written x → Between s c.at
      → Told s (With s (Stored slots₁ c.count)) (ok (x ∷ [], rest (ahead s c.at))) r
  bare_told x row b =
      let i : r.code ≡ 0 = rw (f, e) in
      let j : r.count ≡ c.count + 1 = rw (f, e) in
      let l : r.at ≡ t.end = rw (f, e) in
      on {x = (x ∷ [], rest (ahead s c.at))} {r = r} i (record {
        stands = record { here = rw l (n.here b); tokens = rw l n.behind };
        value = record { counted = j; some = omega arith; held = stored_more slots few long (row_of k []) refl (rw e at st) row no_slots };
      })

  bare_parsed : {over : ℕ} {def : Reader → Scope → ℕ → List Token → Nodes} {table names : List ℕ} {sc : Names} → c.code ≡ 0
      → (Between s c.at → (g : ℕ) → 200 ≤ over + c.count + g
      → Told s (With s (Stored slots₁ c.count)) (def (reader.read (resolve_by s table) g) (scope_at s names sc) c.count (ahead s c.at)) r)
      → Parsed over def s table names slots sc c names slots₁ r
  bare_parsed {names = names} z t =
      let j : r.count ≡ c.count + 1 = rw (f, e) in
      record {
        carries = λ q. absurd (q z);
        later = omega arith;
        few = omega arith;
        below = below_refl _ names;
        kept = stored_kept slots few long (row_of k []) refl (rw e at st);
        told = λ q b m g h. t b g h;
      }

-- A LIST: the empty one
pub list_empty : {s table : List ℕ} {sc : Names} {c : Cursor} {names slots slots₁ : List ℕ} {d r : Cursor} {t : Lexeme}
    → Inner (length table) (length names) (length slots) (sc.base + sc.many) c
    → Next s c.at t → t.kind ≡ kind.Mark 93 → d ≡ cursor.behind c t.end 0 0 → slots₁ ≡ sets slots (8 * d.count) (row_of 19 []) → r ≡ entered d
    → Listed s table names slots sc c names slots₁ r
unfolding list_of list_by width written marked
list_empty {s} {c = c} {slots = slots} {t = t} w n k e st f =
    bare_parsed c slots n w.free w.ready.slots_long e 19 st f w.clear
    (λ b g h. rw (n.token, mark_is s t, k, mark_own (kind.Mark 93) refl) (bare_told c slots n w.free w.ready.slots_long e 19 st f node.Empty refl b))

-- or one with members
pub list_front : {s table : List ℕ} {sc : Names} {c : Cursor} {names slots names₁ slots₁ : List ℕ} {r : Cursor} {t : Lexeme} → Next s c.at t
    → (t.kind ≡ kind.Mark 93 → ⊥)
    → Front s table names slots sc c names₁ slots₁ r → Listed s table names slots sc c names₁ slots₁ r
unfolding list_of list_by marked
list_front {s} {t = t} n k e = record {
  carries = e.carries;
  later = e.later;
  few = e.few;
  below = e.below;
  kept = e.kept;
  told = λ z b many f g. rw (n.token, mark_is s t, mark_other t.kind (kind.Mark 93) refl k) (e.told z b many f g);
}

-- THE REST OF A LIST
module _ {s table : List ℕ} {sc : Names} {c : Cursor} {t : Lexeme} (n : Next s c.at t) (z : c.code ≡ 0) where
  pub back_bar : {names slots names₁ slots₁ : List ℕ} {d b r : Cursor} → t.kind ≡ kind.Mark 124 → d ≡ cursor.behind c t.end 0 0
      → Expr s table names slots sc d names₁ slots₁ b
      → Goes s (Behind s) (symbol (marked (kind.Mark 93)) 14) b r → Back s table names slots sc c names₁ slots₁ r
  unfolding back behind_of behind marked same
  back_bar {names} {slots} {names₁} {slots₁} {d} {b} {r} k e eb ge =
      let i : d.count ≡ c.count = rw e in
      let y : d.code ≡ 0 = rw e in
      let l : d.at ≡ t.end = rw e in
      record {
        carries = λ q. absurd (q z);
        later = let j = eb.later in omega (arith, ge.same);
        few = let j = eb.few in omega (arith, ge.same);
        below = eb.below;
        kept = rw i at eb.kept;
        told = λ q h many f g. rw (n.token, mark_is s t, k)
            (told_then _ (part_told eb y (record { here = rw l (n.here h); tokens = rw l n.behind }) i refl many f (omega arith)) ge.carries
            (λ (x, ts₁) zb ub.
            told_then _ (goes_told ge zb ub.stands) (λ q. fault_same r) (λ ts₂ ze ue.
            on {x = (x, ts₂)} {r = r} ze (record
            { stands = ue; value = record { counted = ge.same ∙ ub.value.counted; some = ub.value.some; held = ub.value.held } }))));
      }

  pub back_full : {names slots : List ℕ} → t.kind ≡ kind.Mark 44 → c.count ≡ 200 → Back s table names slots sc c names slots (fault_at c 94 t.at 72)
  unfolding back behind_of behind marked same
  back_full {names} {slots} k m = parsed_fault 94 t.at 72 (omega arith) z (λ b f g. rw (n.token, mark_is s t, k) (full f b))
    where
      full : (f : ℕ) → Between s c.at
          → Told s (With s (Stored slots c.count)) (reader.read (resolve_by s table) f reader.more (scope_at s names sc) c.count (ahead s c.at))
          (fault_at c 94 t.at 72)
      full zero b = unfold reader.read parted room in rw (eq-eqb c.count 200 m) (fault_here c n b (omega arith))
      full (suc f) b = unfold reader.read parted room in rw (eq-eqb c.count 200 m) (fault_here c n b (omega arith))

  pub back_comma : {names slots names₁ slots₁ : List ℕ} {d r : Cursor} → t.kind ≡ kind.Mark 44 → c.count < 200 → d ≡ cursor.behind c t.end 0 0
      → Front s table names slots sc d names₁ slots₁ r → Back s table names slots sc c names₁ slots₁ r
  unfolding back behind_of behind marked same
  back_comma {names} {slots} {names₁} {slots₁} {d} {r} k m e ef =
      let i : d.count ≡ c.count = rw e in
      let y : d.code ≡ 0 = rw e in
      let l : d.at ≡ t.end = rw e in
      record {
        carries = λ q. absurd (q z);
        later = let j = ef.later in omega arith;
        few = ef.few;
        below = ef.below;
        kept = rw i at ef.kept;
        told = λ q h many f g. rw (n.token, mark_is s t, k) (goes f h many g i y l);
      }
    where
      goes : (f : ℕ) → Between s c.at → sc.many ≤ 16 + c.count → 200 ≤ 0 + c.count + f → d.count ≡ c.count → d.code ≡ 0 → d.at ≡ t.end
          → Told s (With s (Stored slots₁ c.count)) (reader.read (resolve_by s table) f reader.more (scope_at s names sc) c.count (ahead s c.at)) r
      goes zero h many g i y l = absurd (omega arith)
      goes (suc f) h many g i y l = unfold reader.read parted room in rw (ne_eqb c.count 200 (λ q. omega arith), n.behind, ← l, ← i)
          (ef.told y (rw l (n.here h)) (rw i many) f (omega arith))

  pub back_end_full : {names slots : List ℕ} → t.kind ≡ kind.Mark 93 → c.count ≡ 200 → Back s table names slots sc c names slots (fault_at c 94 t.at 72)
  unfolding back behind_of behind marked same room
  back_end_full k m = parsed_fault 94 t.at 72 (omega arith) z (λ b f g. rw (n.token, mark_is s t, k, eq-eqb c.count 200 m)
      (fault_here c n b (omega arith)))

  pub back_end : {names slots slots₁ : List ℕ} {d r : Cursor} → length slots ≡ 1600 → t.kind ≡ kind.Mark 93 → c.count < 200 → d ≡ cursor.behind c t.end 0 0
      → slots₁ ≡ sets slots (8 * d.count) (row_of 19 []) → r ≡ entered d → Back s table names slots sc c names slots₁ r
  unfolding back behind_of behind marked same room width written
  back_end {slots = slots} long k m e st f =
      bare_parsed c slots n m long e 19 st f z
      (λ b g h. rw (n.token, mark_is s t, k, ne_eqb c.count 200 (λ q. omega arith)) (bare_told c slots n m long e 19 st f node.Empty refl b))

  pub back_none : {names slots : List ℕ} → c.count ≤ 200 → (t.kind ≡ kind.Mark 124 → ⊥) → (t.kind ≡ kind.Mark 44 → ⊥) → (t.kind ≡ kind.Mark 93 → ⊥)
      → Back s table names slots sc c names slots (fault_at c 90 t.at 13)
  unfolding back behind_of behind marked
  back_none few a b d = parsed_fault 90 t.at 13 few z (λ h f g.
      rw (n.token, mark_is s t, mark_other t.kind (kind.Mark 44) refl b, mark_other t.kind (kind.Mark 124) refl a, mark_other t.kind (kind.Mark 93) refl d)
      (fault_here c n h (omega arith)))

-- TWO NEW NAMES

-- a name on top of those in scope
pub stack_one : (s names names' : List ℕ) (base many : ℕ) {w : Name} → Below (base + many) names names' → name_at s (get_or names' (base + many) 0) ≡ w
    → stack_of s names' base (many + 1) ≡ w ∷ stack_of s names base many
unfolding stack_of
stack_one s names names' base many b e = rw (add-one many, e, stack_kept s names' names base many b.same)

pub stack_two : (s names names' : List ℕ) (base many : ℕ) {w v : Name} → Below (base + many) names names' → name_at s (get_or names' (base + many) 0) ≡ w
    → name_at s (get_or names' (base + many + 1) 0) ≡ v → stack_of s names' base (many + 2) ≡ v ∷ w ∷ stack_of s names base many
unfolding stack_of
stack_two s names names' base many b e f =
    let z : many + 2 ≡ suc (suc many) = omega arith in
    let y : base + suc many ≡ base + many + 1 = omega arith in
    rw (z, y, e, f, stack_kept s names' names base many b.same)

get_below : {top : ℕ} (i : ℕ) (a b : List ℕ) → i < top → Below top a b → get_or b i 0 ≡ get_or a i 0
get_below {top} i a b h x = sym (get_or-take top b i 0 h) ∙ ap (λ (l : List ℕ). get_or l i 0) x.same ∙ get_or-take top a i 0 h

pub two_told : {s names names₁ names₂ : List ℕ} {sc : Names} (mk : Kind) {d : ℕ} {c x m r : Cursor} → Binds s names sc.base sc.many c names₁ x
    → Goes s (Behind s) (symbol (marked mk) d) x m → Binds s names₁ sc.base (sc.many + 1) m names₂ r → Two s names sc (marked mk) d c names₂ r
unfolding two_of
two_told {s} {names} {names₁} {names₂} {sc} mk {d} {c} {x} {m} {r} bx gm by = record {
  same_count = by.same ∙ gm.same ∙ bx.same;
  carries = carries_then (carries_then bx.carries gm.carries) by.carries;
  below = below_then first_kept second_kept;
  told = λ z b.
      told_then _ (bx.told z b) (carries_then gm.carries by.carries) (λ (w, ts₁) zx ux.
      told_then _ (goes_told gm zx ux.stands) by.carries (λ ts₂ zm um.
      let e = stack_one s names names₁ sc.base sc.many first_kept (ap (name_at s) ux.value.noted ∙ ux.value.name) in
      told_then {Q = With s (Named s names₂ (sc.base + (sc.many + 1)))} _ (rw (um.tokens, ← e) (by.told zm um.here)) (λ q. fault_same r)
      (λ (v, ts₃) zy uy.
      let g = get_below top names₁ names₂ (omega arith) last_kept in
      let i : sc.base + (sc.many + 1) ≡ top + 1 = omega arith in
      on {x = ((w, v), ts₃)} {r = r} zy (record {
        stands = uy.stands;
        value = record {
          first_is = ap (name_at s) (g ∙ ux.value.noted) ∙ ux.value.name;
          second_is = ap (λ (n : ℕ). name_at s (get_or names₂ n 0)) (sym i) ∙ ap (name_at s) uy.value.noted ∙ uy.value.name;
          first_some = ux.value.some;
          second_some = uy.value.some;
        };
      }))));
}
  where
    top : ℕ
    top = sc.base + sc.many

    first_kept : Below (sc.base + sc.many) names names₁
    first_kept = record { long = bx.long; same = bx.kept }

    last_kept : Below (sc.base + (sc.many + 1)) names₁ names₂
    last_kept = record { long = by.long; same = by.kept }

    second_kept : Below (sc.base + sc.many) names₁ names₂
    second_kept = below_lower (sc.base + sc.many) (omega arith) last_kept

-- two places noted
pushed_first : (a : List ℕ) {b : List ℕ} (top x y : ℕ) → b ≡ set (set a top x) (top + 1) y → top + 1 < length a → get_or b top 0 ≡ x
pushed_first a top x y e h = rw e (get_or-set_other (set a top x) (top + 1) top y 0 (λ q. omega arith) ∙ get_or-set_same a top x 0 (omega arith))

pushed_second : (a : List ℕ) {b : List ℕ} (top x y : ℕ) → b ≡ set (set a top x) (top + 1) y → top + 1 < length a → get_or b (top + 1) 0 ≡ y
pushed_second a top x y e h = rw e (get_or-set_same (set a top x) (top + 1) y 0 (rw length-set (omega arith)))

-- the steps of the definition that are one of the code's
two_flat : {Y : Type 0} (ns : List Name) (m : List ℕ) (d : ℕ) (ts : List Token) (g : Name → Name → List Token → Out Y)
    → two_of ns m d ts >>= (λ (w, ts₃). g w.0 w.1 ts₃)
    ≡ bind ns ts >>= λ (x, ts₁). symbol m d ts₁ >>= λ ts₂. bind (x ∷ ns) ts₂ >>= λ (y, ts₃). g x y ts₃
unfolding two_of ◌>>=◌
two_flat {Y} ns m d ts g = one (bind ns ts)
  where
    three : (x : Name) (o : Out (Name × List Token)) → (o >>= together x) >>= (λ (w, ts₃). g w.0 w.1 ts₃) ≡ o >>= λ (y, ts₃). g x y ts₃
    three x (ok (y, ts₃)) = refl
    three x (fault n l i e) = refl

    second : (x : Name) (o : Out (List Token)) → (o >>= λ ts₂. bind (x ∷ ns) ts₂ >>= together x) >>= (λ (w, ts₃). g w.0 w.1 ts₃)
        ≡ o >>= λ ts₂. bind (x ∷ ns) ts₂ >>= λ (y, ts₃). g x y ts₃
    second x (ok ts₂) = three x (bind (x ∷ ns) ts₂)
    second x (fault n l i e) = refl

    one : (o : Out (Name × List Token))
        → (o >>= λ (x, ts₁). symbol m d ts₁ >>= λ ts₂. bind (x ∷ ns) ts₂ >>= together x) >>= (λ (w, ts₃). g w.0 w.1 ts₃)
        ≡ o >>= λ (x, ts₁). symbol m d ts₁ >>= λ ts₂. bind (x ∷ ns) ts₂ >>= λ (y, ts₃). g x y ts₃
    one (ok (x, ts₁)) = second x (symbol m d ts₁)
    one (fault n l i e) = refl

pub told_two : {s : List ℕ} {Y : Type 0} {P : Name × Name → Cursor → Type 0} {S : Y → Cursor → Type 0} (ns : List Name) (m : List ℕ) (d : ℕ) (ts : List Token)
    (g : Name → Name → List Token → Out Y) {c r : Cursor} → Told s (With s P) (two_of ns m d ts) c → Carries c r
    → ((x y : Name) (ts₃ : List Token) → c.code ≡ 0 → With s P ((x, y), ts₃) c → Told s S (g x y ts₃) r)
    → Told s S (bind ns ts >>= λ (x, ts₁). symbol m d ts₁ >>= λ ts₂. bind (x ∷ ns) ts₂ >>= λ (y, ts₃). g x y ts₃) r
told_two {s} {Y} {S = S} ns m d ts g {r = r} t k h =
    subst (λ (o : Out Y). Told s S o r) (two_flat ns m d ts g) (told_then (λ (w, ts₃). g w.0 w.1 ts₃) t k (λ (w, ts₃) z u. h w.0 w.1 ts₃ z u))

pub two_at : {s names : List ℕ} {sc : Names} {m : List ℕ} {d : ℕ} {c : Cursor} {names' : List ℕ} {r : Cursor} → Two s names sc m d c names' r → c.code ≡ 0
    → {ts : List Token} → Behind s ts c → Told s (With s (Both s names' (sc.base + sc.many))) (two_of (stack_of s names sc.base sc.many) m d ts) r
two_at t z b = rw b.tokens (t.told z b.here)

-- A SPLIT
pub let_parsed : {s table : List ℕ} {sc : Names} {c : Cursor} {names slots names₁ names₂ slots₂ names₃ names₄ slots₄ slots₅ : List ℕ} {o b p q a i r : Cursor}
    → Inner (length table) (length names) (length slots) (sc.base + sc.many) c
    → Goes s (Behind s) (symbol (marked (kind.Mark 40)) 8) (entered c) o → Two s names sc (marked (kind.Mark 44)) 9 o names₁ b
    → Goes s (Behind s) (symbol (marked (kind.Mark 41)) 10) b p
    → Goes s (Behind s) (symbol (marked (kind.Mark 61)) 4) p q → Expr s table names₁ slots sc q names₂ slots₂ a
    → Goes s (Behind s) (keyword (bytes "in") 15) a i
    → names₃ ≡ set (set names₂ (sc.base + sc.many) (get_or names₁ (sc.base + sc.many) 0)) (sc.base + sc.many + 1) (get_or names₁ (sc.base + sc.many + 1) 0)
    → Expr s table names₃ slots₂ (with_two sc) i names₄ slots₄ r
    → slots₅ ≡ sets slots₄ (8 * c.count) (row_of 25 ((c.count + 1) ∷ i.count ∷ []))
    → Let s table names slots sc c names₄ slots₅ r
unfolding let_in marked scope_at
let_parsed {s} {table} {sc} {c} {names} {slots} {names₁} {names₂} {slots₂} {names₃} {names₄} {slots₄} {slots₅} {o} {b} {p} {q} {a} {i} {r} w go tb gp gq ea
    gi st₃ eb st = record {
      carries = λ y. absurd (y w.clear);
      later = let j = ea.later in let k = eb.later in omega (arith, counts, gi.same);
      few = eb.few;
      below = below_then pushed (below_lower top (omega arith) eb.below);
      kept = kept_then (kept_then (kept_fewer (omega (arith, counts)) ea.kept)
          (kept_fewer (let j = ea.later in omega (arith, counts, gi.same)) eb.kept))
          (stored_kept slots₄ w.free long₄ row refl st);
      told = λ z h many f g.
          told_then _ (goes_told go z (record { here = h; tokens = refl })) (carries_then tb.carries (carries_then gp.carries end₁)) (λ ts₁ zo uo.
          told_two (stack_of s names sc.base sc.many) _ 9 ts₁ _ (two_at tb zo uo) (carries_then gp.carries end₁) (λ x y ts₄ zb ub.
          told_then _ (goes_told gp zb ub.stands) end₁ (λ ts₅ zp up.
          told_then _ (goes_told gq zp up) end₂ (λ ts₆ zq uq.
          told_then _ (part_told ea zq uq counts (scope_kept s names sc tb.below) (omega arith) f (omega arith)) (carries_then gi.carries eb.carries)
          (λ (v, ts₇) za ua.
          told_then _ (goes_told gi za ua.stands) eb.carries (λ ts₈ zi ui.
          let j : i.count ≡ suc c.count + length v = gi.same ∙ ua.value.counted in
          let k = ua.value.some in
          told_then _ (part_told eb zi ui j (wider ub.value) (omega arith) f (omega arith)) (λ y. fault_same r) (λ (u, ts₉) zr ur.
          let l = parts_long (v ∷ u ∷ []) in
          on {x = (node.Split (suc c.count) (suc c.count + length v) ∷ v ++ (u ++ []), ts₉)} {r = r} zr (record {
            stands = ur.stands;
            value = record {
              counted = omega (arith, ur.value.counted);
              some = omega arith;
              held = stored_more slots₄ w.free long₄ row refl st (row_two 25 node.Split split_row (add-one c.count) j)
                  (slots_append (slots_kept eb.kept (omega arith) ua.value.held) (slots_append ur.value.held no_slots));
            };
          }))))))));
    }
  where
    top : ℕ
    top = sc.base + sc.many

    counts : q.count ≡ suc c.count
    counts = gq.same ∙ gp.same ∙ tb.same_count ∙ go.same ∙ add-one c.count

    row : List ℕ
    row = row_of 25 ((c.count + 1) ∷ i.count ∷ [])

    long₄ : length slots₄ ≡ 1600
    long₄ = eb.kept.long ∙ ea.kept.long ∙ w.ready.slots_long

    end₂ : Carries q r
    end₂ = carries_then ea.carries (carries_then gi.carries eb.carries)

    end₁ : Carries p r
    end₁ = carries_then gq.carries end₂

    kept₂ : Below (sc.base + sc.many) names names₂
    kept₂ = below_then tb.below ea.below

    pushed : Below (sc.base + sc.many) names names₃
    pushed = rw st₃ (below_then kept₂
        (below_then (below_set (sc.base + sc.many) names₂ (sc.base + sc.many) _ (omega arith))
        (below_set (sc.base + sc.many) _ (sc.base + sc.many + 1) _ (omega arith))))

    wider : {x y : Name} → Both s names₁ (sc.base + sc.many) (x, y) b
        → scope (y ∷ x ∷ stack_of s names sc.base sc.many) sc.lost ≡ scope_at s names₃ (with_two sc)
    wider u =
        let l = w.ready.names_long in
        let k = kept₂.long in
        let t = w.ready.low in
        let v = w.free in
        unfold scope_at in ap (λ (ns : List Name). scope ns sc.lost) (sym (stack_two s names names₃ sc.base sc.many pushed
        (ap (name_at s) (pushed_first names₂ _ _ _ st₃ (omega arith)) ∙ u.first_is)
        (ap (name_at s) (pushed_second names₂ _ _ _ st₃ (omega arith)) ∙ u.second_is)))

-- AN ARROW AND AN EXPRESSION
pub branch_parsed : {s table : List ℕ} {sc : Names} {c : Cursor} {names slots names₁ slots₁ : List ℕ} {a r : Cursor}
    → Goes s (Behind s) (symbol (marked kind.Arrow) 19) c a
    → Expr s table names slots sc a names₁ slots₁ r → Branch s table names slots sc c names₁ slots₁ r
unfolding marked
branch_parsed {s} {sc = sc} {c = c} {slots = slots} {slots₁ = slots₁} {r = r} ga e = record {
  carries = carries_then ga.carries e.carries;
  later = let i = e.later in omega (arith, ga.same);
  few = e.few;
  below = e.below;
  kept = rw ga.same at e.kept;
  told = λ z h many f g. told_then _ (ga.told z h) e.carries (λ ts zr ur. part_told e zr ur ga.same refl many f (omega arith));
}

-- `=` AND A DEFAULT
sees_sent : (s names : List ℕ) {names₁ : List ℕ} (top : ℕ) → top < length names → names₁ ≡ set names top (length s)
    → scope (sent ∷ []) 41 ≡ scope_at s names₁ (record { base = top; many = 1; lost = 41 })
unfolding scope_at stack_of
sees_sent s names {names₁} top h e =
    let i : top + 0 ≡ top = omega arith in
    let j : get_or names₁ (top + 0) 0 ≡ length s = rw (i, e) (get_or-set_same names top (length s) 0 h) in
    rw (j, name_sent s (length s) (omega arith))

pub default_parsed : {s table : List ℕ} {top : ℕ} {c : Cursor} {names slots names₁ names₂ slots₂ : List ℕ} {a r : Cursor} → top < length names
    → Goes s (Behind s) (symbol (marked (kind.Mark 61)) 4) c a → names₁ ≡ set names top (length s)
    → Expr s table names₁ slots (record { base = top; many = 1; lost = 41 }) a names₂ slots₂ r → Default s table names slots top c names₂ slots₂ r
unfolding marked
default_parsed {s} {table} {top} {c} {names} {slots} {names₁} {names₂} {slots₂} {a} {r} inside ga st e = record {
  carries = carries_then ga.carries e.carries;
  later = let i = e.later in omega (arith, ga.same);
  few = e.few;
  below = below_then noted (below_lower (top + 0) (omega arith) e.below);
  kept = rw ga.same at e.kept;
  told = λ z h many f g. told_then _ (ga.told z h) e.carries (λ ts zr ur. part_told e zr ur ga.same (sees_sent s names top inside st) (omega arith) f
      (omega arith));
}
  where
    noted : Below (top + 0) names names₁
    noted = rw st (below_set (top + 0) names top (length s) (omega arith))

small_mod : (x : ℕ) → x < 256 → x % 256 ≡ x
small_mod x h = mod-eq_of_lt h

-- THE BRANCHES FOR FALSE AND TRUE
truth_row : {a b t d u i j k : ℕ} (v w : ℕ) → a ≡ i → b ≡ j → t ≡ v → v ≤ 6 → d ≡ k → u ≡ w → w ≤ 6
    → take (width (node.TruthCase i j v k w)) (row_of 24 (a ∷ b ∷ t % 256 ∷ d ∷ u % 256 ∷ 0 ∷ 0 ∷ [])) ≡ written (node.TruthCase i j v k w)
unfolding width written
truth_row v w p q r x y z o = rw (p, q, r, y, z, small_mod v (omega arith), small_mod w (omega arith))

pub truth_parsed : {s table : List ℕ} {n : ℕ} {sc : Names} {c : Cursor} {names slots names₁ slots₁ names₂ slots₂ slots₃ : List ℕ} {a t m b u r : Cursor}
    → Cased (length table) (length names) (length slots) (sc.base + sc.many) n c → c.code ≡ 0
    → Branch s table names slots sc c names₁ slots₁ a → Goes s (With s IsTest) (test 28 29) a t → Goes s (Behind s) (keyword (bytes "true") t.detail) t m
    → Branch s table names₁ slots₁ sc m names₂ slots₂ b → Goes s (With s IsTest) (test 30 31) b u → Goes s (Behind s) (keyword (bytes "end") u.detail) u r
    → slots₃ ≡ sets slots₂ (8 * n) (row_of 24 ((n + 1) ∷ c.count ∷ t.found % 256 ∷ m.count ∷ u.found % 256 ∷ 0 ∷ 0 ∷ []))
    → Truth s table n names slots sc c names₂ slots₃ r
unfolding truth_case
truth_parsed {s} {table} {n} {sc} {c} {names} {slots} {names₁} {slots₁} {names₂} {slots₂} {slots₃} {a} {t} {m} {b} {u} {r} w z ea gt gm eb gu ge st = record {
  carries = λ q. absurd (q z);
  later = let i = ea.later in let j = eb.later in omega (arith, gt.same, gm.same, gu.same, ge.same);
  few = let i = eb.few in omega (arith, gu.same, ge.same);
  below = below_then ea.below eb.below;
  kept = kept_then (kept_then (kept_fewer (let h = w.after in omega arith) ea.kept)
      (kept_fewer (let h = w.after in let i = ea.later in omega (arith, gt.same, gm.same)) eb.kept)) (stored_kept slots₂ free long₂ row refl st);
  told = λ _ h many x some held count f g.
      told_both _ _ _ (part_told ea z (record { here = h; tokens = refl }) count refl (omega arith) f (omega arith)) (carries_then gt.carries end₁)
      (λ (y, ts₂) za ua.
      told_then _ (goes_told gt za ua.stands) end₁ (λ (v, ts₃) zt ut.
      told_then {Q = Behind s} _ (rw (← ut.value.is_detail) (goes_told gm zt ut.stands)) end₂ (λ ts₄ zm um.
      let i : m.count ≡ suc n + length x + length y = gm.same ∙ gt.same ∙ ua.value.counted in
      told_both _ _ _ (part_told eb zm um i (scope_kept s names sc ea.below) (omega arith) f (omega arith)) (carries_then gu.carries ge.carries)
      (λ (o, ts₆) zb ub.
      told_then _ (goes_told gu zb ub.stands) ge.carries (λ (k, ts₇) zu uu.
      told_then {Q = Behind s} _ (rw (← uu.value.is_detail) (goes_told ge zu uu.stands)) (λ q. fault_same r) (λ ts₈ ze ue.
      let l = parts_long (x ∷ y ∷ o ∷ []) in
      on {x = (node.TruthCase (suc n) (suc n + length x) v.0 (suc n + length x + length y) k.0 ∷ x ++ (y ++ (o ++ [])), ts₈)} {r = r} ze (record {
        stands = ue;
        value = record {
          counted = omega (arith, ge.same, gu.same, ub.value.counted);
          some = omega arith;
          held = stored_more slots₂ free long₂ row refl st
              (truth_row v.0 k.0 (add-one n) count ut.value.is_found ut.value.small i uu.value.is_found uu.value.small)
              (slots_append (slots_kept eb.kept (omega arith) (slots_kept ea.kept (omega arith) held))
              (slots_append (slots_kept eb.kept (omega arith) ua.value.held) (slots_append ub.value.held no_slots)));
        };
      })))))));
}
  where
    row : List ℕ
    row = row_of 24 ((n + 1) ∷ c.count ∷ t.found % 256 ∷ m.count ∷ u.found % 256 ∷ 0 ∷ 0 ∷ [])

    free : n < 200
    free = let h = w.after in let i = w.few in omega arith

    long₂ : length slots₂ ≡ 1600
    long₂ = eb.kept.long ∙ ea.kept.long ∙ w.slots_long

    end₂ : Carries m r
    end₂ = carries_then eb.carries (carries_then gu.carries ge.carries)

    end₁ : Carries t r
    end₁ = carries_then gm.carries end₂

-- THE BRANCHES FOR THE EMPTY LIST AND ANY OTHER
lists_row : {a b t d u e f i j k l m : ℕ} (v w : ℕ) → a ≡ i → b ≡ j → t ≡ v → v ≤ 6 → d ≡ k → u ≡ w → w ≤ 6 → e ≡ l → f ≡ m
    → take (width (node.ListCase i j v k w l m)) (row_of 23 (a ∷ b ∷ t % 256 ∷ d ∷ u % 256 ∷ e ∷ f ∷ [])) ≡ written (node.ListCase i j v k w l m)
unfolding width written
lists_row v w p q r x y z o e f = rw (p, q, r, y, z, e, f, small_mod v (omega arith), small_mod w (omega arith))

pub again_told : {s : List ℕ} {place d : ℕ} {c r : Cursor} {w : Name} → Again s place d c r → c.code ≡ 0 → {ts : List Token} → Behind s ts c
    → name_at s place ≡ w
    → 0 < length w → Told s (Behind s) (keyword w d ts) r
again_told g z b e h = rw (b.tokens, ← e) (g.told z b.here (rw e h))

pub lists_parsed : {s table : List ℕ} {n : ℕ} {sc : Names} {c : Cursor}
    {names slots names₁ slots₁ names₂ names₃ slots₃ names₄ slots₄ names₅ slots₅ slots₆ : List ℕ}
    {e a t o p q b u m x d k y f r : Cursor} → Cased (length table) (length names) (length slots) (sc.base + sc.many) n c → c.code ≡ 0
    → Goes s (Behind s) (symbol (marked (kind.Mark 93)) 18) c e → Branch s table names slots sc e names₁ slots₁ a → Goes s (With s IsTest) (test 20 21) a t
    → Goes s (Behind s) (symbol (marked (kind.Mark 91)) t.detail) t o → Two s names₁ sc (marked (kind.Mark 124)) 22 o names₂ p
    → Goes s (Behind s) (symbol (marked (kind.Mark 93)) 14) p q
    → Branch s table names₂ slots₁ (with_two sc) q names₃ slots₃ b
    → Goes s (With s IsTest) (test 24 25) b u → Goes s (Behind s) (keyword (bytes "default") u.detail) u m
    → Again s (get_or names₂ (sc.base + sc.many) 0) 26 m x → Default s table names₃ slots₃ (sc.base + sc.many) x names₄ slots₄ d
    → Goes s (Behind s) (symbol (marked (kind.Mark 44)) 9) d k → Again s (get_or names₂ (sc.base + sc.many + 1) 0) 27 k y
    → Default s table names₄ slots₄ (sc.base + sc.many) y names₅ slots₅ f → Goes s (Behind s) (keyword (bytes "end") 31) f r
    → slots₆ ≡ sets slots₅ (8 * n) (row_of 23 ((n + 1) ∷ c.count ∷ t.found % 256 ∷ q.count ∷ u.found % 256 ∷ x.count ∷ y.count ∷ []))
    → Lists s table n names slots sc c names₅ slots₆ r
unfolding list_case marked scope_at
lists_parsed {s} {table} {n} {sc} {c} {names} {slots} {names₁} {slots₁} {names₂} {names₃} {slots₃} {names₄} {slots₄} {names₅} {slots₅} {slots₆}
    {e} {a} {t} {o} {p} {q} {b} {u} {m} {x} {d} {k} {y} {f} {r} w z ge ea gt go tb gq eb gu gm gx ed gk gy ef gr st = record {
      carries = λ i. absurd (i z);
      later = let i₁ = ea.later in let i₂ = eb.later in let i₃ = ed.later in let i₄ = ef.later in
          omega (arith, ge.same, gt.same, go.same, tb.same_count, gq.same, gu.same, gm.same, gx.same, gk.same, gy.same, gr.same);
      few = let i = ef.few in omega (arith, gr.same);
      below = below_then (below_then upto₂ (below_lower (sc.base + sc.many) (omega arith) eb.below))
          (below_then (below_lower (sc.base + sc.many) (omega arith) ed.below) (below_lower (sc.base + sc.many) (omega arith) ef.below));
      kept = kept_then (kept_then (kept_then (kept_fewer low₁ ea.kept) (kept_fewer low₂ eb.kept))
          (kept_then (kept_fewer low₃ ed.kept) (kept_fewer low₄ ef.kept)))
          (stored_kept slots₅ free long₅ row refl st);
      told = λ _ h many v some held count g fuel.
          told_then _ (goes_told ge z (record { here = h; tokens = refl })) end_e (λ ts₁ ze ue.
          told_both _ _ _ (part_told ea ze ue (ge.same ∙ count) refl (omega arith) g (omega arith)) end_a (λ (v₁, ts₃) za ua.
          told_then _ (goes_told gt za ua.stands) end_t (λ (t₁, ts₄) zt ut.
          told_then {Q = Behind s} _ (rw (← ut.value.is_detail) (goes_told go zt ut.stands)) end_o (λ ts₅ zo uo.
          told_two (stack_of s names sc.base sc.many) _ 22 ts₅ _ (two_here ts₅ (two_at tb zo uo)) end_p (λ w₁ w₂ ts₈ zp up.
          told_then _ (goes_told gq zp up.stands) end_q (λ ts₉ zq uq.
          let i₁ : q.count ≡ suc n + length v + length v₁ = gq.same ∙ tb.same_count ∙ go.same ∙ gt.same ∙ ua.value.counted in
          told_both _ _ _ (part_told eb zq uq i₁ (wider up.value) (let j = ua.value.some in omega arith) g (omega arith)) end_b (λ (v₂, us₁) zb ub.
          told_then _ (goes_told gu zb ub.stands) end_u (λ (t₂, us₂) zu uu.
          told_then {Q = Behind s} _ (rw (← uu.value.is_detail) (goes_told gm zu uu.stands)) end_m (λ us₃ zm um.
          told_then _ (again_told gx zm um up.value.first_is up.value.first_some) end_x (λ us₄ zx ux.
          let i₂ : x.count ≡ suc n + length v + length v₁ + length v₂ = gx.same ∙ gm.same ∙ gu.same ∙ ub.value.counted in
          told_both _ _ _ (part_told ed zx ux i₂ refl (omega arith) g (omega arith)) end_d (λ (v₃, us₆) zd ud.
          told_then _ (goes_told gk zd ud.stands) end_k (λ us₇ zk uk.
          told_then _ (again_told gy zk uk up.value.second_is up.value.second_some) end_y (λ us₈ zy uy.
          let i₃ : y.count ≡ suc n + length v + length v₁ + length v₂ + length v₃ = gy.same ∙ gk.same ∙ ud.value.counted in
          told_both _ _ _ (part_told ef zy uy i₃ refl (omega arith) g (omega arith)) gr.carries (λ (v₄, vs₀) zf uf.
          told_then _ (goes_told gr zf uf.stands) (λ j. fault_same r) (λ vs₁ zr ur.
          let l = parts_long (v ∷ v₁ ∷ v₂ ∷ v₃ ∷ v₄ ∷ []) in
          on {x = (
            node.ListCase (suc n) (suc n + length v) t₁.0 (suc n + length v + length v₁) t₂.0 (suc n + length v + length v₁ + length v₂)
                (suc n + length v + length v₁ + length v₂ + length v₃) ∷ v ++ (v₁ ++ (v₂ ++ (v₃ ++ (v₄ ++ [])))),
            vs₁,
          )} {r = r} zr (record {
            stands = ur;
            value = record {
              counted = omega (arith, gr.same, uf.value.counted);
              some = omega arith;
              held = stored_more slots₅ free long₅ row refl st
                  (lists_row t₁.0 t₂.0 (add-one n) count ut.value.is_found ut.value.small i₁ uu.value.is_found uu.value.small i₂ i₃)
                  (slots_append (stay₄ (stay₃ (stay₂ (slots_kept ea.kept (omega (arith, ge.same)) held) (omega arith)) (omega arith)) (omega arith))
                  (slots_append (stay₄ (stay₃ (stay₂ ua.value.held (omega arith)) (omega arith)) (omega arith))
                  (slots_append (stay₄ (stay₃ ub.value.held (omega arith)) (omega arith))
                  (slots_append (stay₄ ud.value.held (omega arith)) (slots_append uf.value.held no_slots)))));
            };
          }))))))))))))))));
    }
  where
    row : List ℕ
    row = row_of 23 ((n + 1) ∷ c.count ∷ t.found % 256 ∷ q.count ∷ u.found % 256 ∷ x.count ∷ y.count ∷ [])

    free : n < 200
    free = let h = w.after in let i = w.few in omega arith

    long₅ : length slots₅ ≡ 1600
    long₅ = ef.kept.long ∙ ed.kept.long ∙ eb.kept.long ∙ ea.kept.long ∙ w.slots_long

    -- numbers only grow
    low₁ : n ≤ e.count
    low₁ = let h = w.after in omega (arith, ge.same)

    low₂ : n ≤ q.count
    low₂ = let i = ea.later in omega (arith, low₁, gt.same, go.same, tb.same_count, gq.same)

    low₃ : n ≤ x.count
    low₃ = let i = eb.later in omega (arith, low₂, gu.same, gm.same, gx.same)

    low₄ : n ≤ y.count
    low₄ = let i = ed.later in omega (arith, low₃, gk.same, gy.same)

    -- nodes stay
    stay₂ : {i : ℕ} {l : List Node} → Slots slots₁ i l → i + length l ≤ q.count → Slots slots₃ i l
    stay₂ h j = slots_kept eb.kept j h

    stay₃ : {i : ℕ} {l : List Node} → Slots slots₃ i l → i + length l ≤ x.count → Slots slots₄ i l
    stay₃ h j = slots_kept ed.kept j h

    stay₄ : {i : ℕ} {l : List Node} → Slots slots₄ i l → i + length l ≤ y.count → Slots slots₅ i l
    stay₄ h j = slots_kept ef.kept j h

    -- names stay
    upto₂ : Below (sc.base + sc.many) names names₂
    upto₂ = below_then ea.below tb.below

    two_here : (ts : List Token) → Told s (With s (Both s names₂ (sc.base + sc.many))) (two_of (stack_of s names₁ sc.base sc.many) (124 ∷ []) 22 ts) p
        → Told s (With s (Both s names₂ (sc.base + sc.many))) (two_of (stack_of s names sc.base sc.many) (124 ∷ []) 22 ts) p
    two_here ts j = rw (stack_kept s names names₁ sc.base sc.many (sym ea.below.same)) j

    wider : {v v' : Name} → Both s names₂ (sc.base + sc.many) (v, v') p
        → scope (v' ∷ v ∷ stack_of s names sc.base sc.many) sc.lost
        ≡ scope_at s names₂ (with_two sc)
    wider j = unfold scope_at in ap (λ (ns : List Name). scope ns sc.lost)
        (sym (stack_two s names names₂ sc.base sc.many upto₂ j.first_is j.second_is))

    -- faults are handed on
    end_y : Carries y r
    end_y = carries_then ef.carries gr.carries

    end_k : Carries k r
    end_k = carries_then gy.carries end_y

    end_d : Carries d r
    end_d = carries_then gk.carries end_k

    end_x : Carries x r
    end_x = carries_then ed.carries end_d

    end_m : Carries m r
    end_m = carries_then gx.carries end_x

    end_u : Carries u r
    end_u = carries_then gm.carries end_m

    end_b : Carries b r
    end_b = carries_then gu.carries end_u

    end_q : Carries q r
    end_q = carries_then eb.carries end_b

    end_p : Carries p r
    end_p = carries_then gq.carries end_q

    end_o : Carries o r
    end_o = carries_then tb.carries end_p

    end_t : Carries t r
    end_t = carries_then go.carries end_o

    end_a : Carries a r
    end_a = carries_then gt.carries end_t

    end_e : Carries e r
    end_e = carries_then ea.carries end_a

-- A SECTION FOR EACH MEMBER
abbrev found_before : List Token → ℕ → Out (ℕ × List Token)
found_before ts₁ x = ok (x, ts₁)

callee_flat : {Y : Type 0} (resolve : Name → Option ℕ) (ts : List Token) (g : ℕ → List Token → Out Y)
    → callee_of resolve ts >>= (λ (x, ts₁). g x ts₁) ≡ reader.section_name ts >>= λ (w, ts₁). known (resolve w) (length ts) 43 >>= λ x. g x ts₁
unfolding callee_of ◌>>=◌
callee_flat {Y} resolve ts g = one (reader.section_name ts)
  where
    two : (ts₁ : List Token) (o : Out ℕ) → (o >>= found_before ts₁) >>= (λ (x, us). g x us) ≡ o >>= λ x. g x ts₁
    two ts₁ (ok x) = refl
    two ts₁ (fault n l i e) = refl

    one : (o : Out (Name × List Token)) → (o >>= λ (w, ts₁). known (resolve w) (length ts) 43 >>= found_before ts₁) >>= (λ (x, us). g x us)
        ≡ o >>= λ (w, ts₁). known (resolve w) (length ts) 43 >>= λ x. g x ts₁
    one (ok (w, ts₁)) = two ts₁ (known (resolve w) (length ts) 43)
    one (fault n l i e) = refl

told_callee : {s : List ℕ} {Y : Type 0} {P : ℕ → Cursor → Type 0} {S : Y → Cursor → Type 0} (resolve : Name → Option ℕ) (ts : List Token)
    (g : ℕ → List Token → Out Y)
    {c r : Cursor} → Told s (With s P) (callee_of resolve ts) c → Carries c r
    → ((x : ℕ) (ts₁ : List Token) → c.code ≡ 0 → With s P (x, ts₁) c → Told s S (g x ts₁) r)
    → Told s S (reader.section_name ts >>= λ (w, ts₁). known (resolve w) (length ts) 43 >>= λ x. g x ts₁) r
told_callee {s} {Y} {S = S} resolve ts g {r = r} t k h =
    subst (λ (o : Out Y). Told s S o r) (callee_flat resolve ts g) (told_then (λ (x, ts₁). g x ts₁) t k (λ (x, ts₁) z u. h x ts₁ z u))

each_row : {a d i j : ℕ} (v w : ℕ) {k l : ℕ} → a ≡ i → k ≡ v → v < 256 → l ≡ w → w < 256 → d ≡ j
    → take (width (node.Each i v w j)) (row_of 28 (a ∷ k % 256 ∷ l % 256 ∷ d ∷ [])) ≡ written (node.Each i v w j)
unfolding width written
each_row v w p q r x y z = rw (p, q, x, z, small_mod v r, small_mod w y)

no_names : (s names names' : List ℕ) (top lost : ℕ) → scope [] lost ≡ scope_at s names (record { base = top; many = 0; lost = lost })
unfolding scope_at stack_of
no_names s names names' top lost = refl

pub each_parsed : {s table : List ℕ} {sc : Names} {c : Cursor} {names slots names₁ slots₁ names₂ slots₂ slots₃ : List ℕ} {e o a m x q k r : Cursor}
    → Inner (length table) (length names) (length slots) (sc.base + sc.many) c
    → Goes s (With s IsCallee) (callee_of (resolve_by s table)) (entered c) e → Goes s (Behind s) (symbol (marked (kind.Mark 40)) 8) e o
    → Expr s table names slots sc o names₁ slots₁ a → Goes s (Behind s) (symbol (marked (kind.Mark 44)) 9) a m
    → Goes s (With s (IsVariable sc)) (variable (scope_at s names₁ sc)) m x → Goes s (Behind s) (symbol (marked (kind.Mark 41)) 10) x q
    → Goes s (Behind s) (keyword (bytes "default") 25) q k
    → Expr s table names₁ slots₁ (record { base = sc.base + sc.many; many = 0; lost = 42 }) k names₂ slots₂ r
    → slots₃ ≡ sets slots₂ (8 * c.count) (row_of 28 ((c.count + 1) ∷ e.found % 256 ∷ x.found % 256 ∷ k.count ∷ []))
    → Each s table names slots sc c names₂ slots₃ r
unfolding each_of marked
each_parsed {s} {table} {sc} {c} {names} {slots} {names₁} {slots₁} {names₂} {slots₂} {slots₃} {e} {o} {a} {m} {x} {q} {k} {r} w ge go ea gm gx gq gk ed
    st = record {
      carries = λ y. absurd (y w.clear);
      later = let i = ea.later in let j = ed.later in omega (arith, counts, gm.same, gx.same, gq.same, gk.same);
      few = ed.few;
      below = below_then ea.below (below_lower (sc.base + sc.many) (omega arith) ed.below);
      kept = kept_then (kept_then (kept_fewer (omega (arith, counts)) ea.kept)
          (kept_fewer (let i = ea.later in omega (arith, counts, gm.same, gx.same, gq.same, gk.same)) ed.kept))
          (stored_kept slots₂ w.free long₂ row refl st);
      told = λ z h many f g.
          told_callee (resolve_by s table) _ _ (ge.told z h) (carries_then go.carries end_o) (λ v ts₁ ze ue.
          told_then _ (goes_told go ze ue.stands) end_o (λ ts₂ zo uo.
          told_then _ (part_told ea zo uo counts refl (omega arith) f (omega arith)) end_a (λ (y, ts₃) za ua.
          told_then _ (goes_told gm za ua.stands) end_m (λ ts₄ zm um.
          told_then {Q = With s (IsVariable sc)} _ (rw (scope_kept s names sc ea.below) (goes_told gx zm um)) end_x (λ (b, ts₅) zx ux.
          told_then _ (goes_told gq zx ux.stands) end_q (λ ts₆ zq uq.
          told_then _ (goes_told gk zq uq) ed.carries (λ ts₇ zk uk.
          let i : k.count ≡ suc c.count + length y = gk.same ∙ gq.same ∙ gx.same ∙ gm.same ∙ ua.value.counted in
          let n = w.free in
          told_then _ (part_told ed zk uk i (no_names s names₁ names₁ (sc.base + sc.many) 42) (omega arith) f (omega arith)) (λ j. fault_same r)
          (λ (d, ts₈) zd ud.
          let l = parts_long (y ∷ d ∷ []) in
          on {x = (node.Each (suc c.count) v b (suc c.count + length y) ∷ y ++ (d ++ []), ts₈)} {r = r} zd (record {
            stands = ud.stands;
            value = record {
              counted = omega (arith, ud.value.counted);
              some = omega arith;
              held = stored_more slots₂ w.free long₂ row refl st
                  (each_row v b (add-one c.count) ue.value.is_found ue.value.small ux.value.is_found (ux.value.small (omega arith)) i)
                  (slots_append (slots_kept ed.kept (omega arith) ua.value.held) (slots_append ud.value.held no_slots));
            };
          })))))))));
    }
  where
    row : List ℕ
    row = row_of 28 ((c.count + 1) ∷ e.found % 256 ∷ x.found % 256 ∷ k.count ∷ [])

    counts : o.count ≡ suc c.count
    counts = go.same ∙ ge.same ∙ add-one c.count

    long₂ : length slots₂ ≡ 1600
    long₂ = ed.kept.long ∙ ea.kept.long ∙ w.ready.slots_long

    end_q : Carries q r
    end_q = carries_then gk.carries ed.carries

    end_x : Carries x r
    end_x = carries_then gq.carries end_q

    end_m : Carries m r
    end_m = carries_then gx.carries end_x

    end_a : Carries a r
    end_a = carries_then gm.carries end_m

    end_o : Carries o r
    end_o = carries_then ea.carries end_a

-- A CASE
pub case_parsed : {s table : List ℕ} {sc : Names} {c : Cursor} {names slots names₁ slots₁ names₂ slots₂ : List ℕ} {a o r : Cursor}
    → Inner (length table) (length names) (length slots) (sc.base + sc.many) c → Expr s table names slots sc (entered c) names₁ slots₁ a
    → Goes s (Behind s) (keyword (bytes "of") 16) a o → Branches s table c.count names₁ slots₁ sc o names₂ slots₂ r
    → Case s table names slots sc c names₂ slots₂ r
unfolding case_of
case_parsed {s} {table} {sc} {c} {names} {slots} {names₁} {slots₁} {names₂} {slots₂} {a} {o} {r} w ea go eb = record {
  carries = λ y. absurd (y w.clear);
  later = let i = ea.later in let j = eb.later in omega (arith, go.same);
  few = eb.few;
  below = below_then ea.below eb.below;
  kept = kept_then (kept_fewer (omega arith) ea.kept) eb.kept;
  told = λ z h many f g.
      told_then _ (part_told ea z (record { here = h; tokens = refl }) (add-one c.count) refl (omega arith) f (omega arith))
      (carries_then go.carries eb.carries) (λ (x, ts₁) za ua.
      told_then _ (goes_told go za ua.stands) eb.carries (λ ts₂ zo uo.
      rw (uo.tokens, scope_kept s names sc ea.below)
      (eb.told zo uo.here many x ua.value.some ua.value.held (go.same ∙ ua.value.counted) f (omega arith))));
}

-- behind a token
record Moved (c : Cursor) (at : ℕ) (d : Cursor) : Type 0 where
  count_is : d.count ≡ c.count
  code_is : d.code ≡ 0
  at_is : d.at ≡ at

moved : (c : Cursor) {d : Cursor} {at : ℕ} → d ≡ cursor.behind c at 0 0 → Moved c at d
moved c e = record { count_is = rw e; code_is = rw e; at_is = rw e }

-- THE BRANCHES OF A CASE
module _ {s table : List ℕ} {n : ℕ} {sc : Names} {c : Cursor} where
  pub branches_on : {names slots : List ℕ} → c.count ≤ 200 → (c.code ≡ 0 → ⊥) → Branches s table n names slots sc c names slots c
  branches_on {names} {slots} few h = record {
    carries = λ q. fault_same c;
    later = omega arith;
    few = few;
    below = below_refl _ names;
    kept = kept_refl n slots;
    told = λ z. absurd (h z);
  }

  module _ {t : Lexeme} (nx : Next s c.at t) (z : c.code ≡ 0) where
    pub branches_none : {names slots : List ℕ} → c.count ≤ 200 → same (word_of (token_at s t)) (bytes "false") ≡ false → (t.kind ≡ kind.Mark 91 → ⊥)
        → Branches s table n names slots sc c names slots (fault_at c 90 t.at 17)
    unfolding branch_of branches marked
    branches_none {names} {slots} few e k = record {
      carries = λ q. absurd (q z);
      later = omega arith;
      few = few;
      below = below_refl _ names;
      kept = kept_refl n slots;
      told = λ _ h many x some held count f g. rw (nx.token, e, mark_is s t, mark_other t.kind (kind.Mark 91) refl k) (fault_here c nx h (omega arith));
    }

    module _ {names slots names₁ slots₁ : List ℕ} {d r : Cursor} (e : d ≡ cursor.behind c t.end 0 0) where
      pub branches_truth : same (word_of (token_at s t)) (bytes "false") ≡ true → Truth s table n names slots sc d names₁ slots₁ r
          → Branches s table n names slots sc c names₁ slots₁ r
      unfolding branch_of branches
      branches_truth k w = record {
        carries = λ q. absurd (q z);
        later = let i = w.later in omega (arith, (moved c e).count_is);
        few = w.few;
        below = w.below;
        kept = w.kept;
        told = λ _ h many x some held count f g.
            rw (nx.token, k, nx.behind, ← (moved c e).at_is)
            (w.told (moved c e).code_is (rw (moved c e).at_is (nx.here h)) many x some held ((moved c e).count_is ∙ count) f g);
      }

      pub branches_lists : same (word_of (token_at s t)) (bytes "false") ≡ false → t.kind ≡ kind.Mark 91 → Lists s table n names slots sc d names₁ slots₁ r
          → Branches s table n names slots sc c names₁ slots₁ r
      unfolding branch_of branches marked
      branches_lists k m w = record {
        carries = λ q. absurd (q z);
        later = let i = w.later in omega (arith, (moved c e).count_is);
        few = w.few;
        below = w.below;
        kept = w.kept;
        told = λ _ h many x some held count f g.
            rw (nx.token, k, mark_is s t, m, mark_own (kind.Mark 91) refl, nx.behind, ← (moved c e).at_is)
            (w.told (moved c e).code_is (rw (moved c e).at_is (nx.here h)) many x some held ((moved c e).count_is ∙ count) f g);
      }

-- AN EXPRESSION, by what it begins with
second_mark : {s : List ℕ} {t : Lexeme} {b : Begins} {c : Cursor} {u : Lexeme} → Begun s t b c → Next s t.end u
    → mark_of (first (rest (ahead s c.at))) ≡ marked u.kind
second_mark {s} {u = u} g m = rw (g.is_next.behind, m.token) (mark_is s u)

begin_is : {s : List ℕ} {t : Lexeme} {b : Begins} {c : Cursor} → Begun s t b c
    → begin_of (first (ahead s c.at)) ≡ begin_by b (said (begin_of (token_at s t))) (lettered (begin_of (token_at s t)))
begin_is {s} {t} w = rw w.is_next.token (begin_coded (begin_of (token_at s t)) w.coded)

-- a node that one leaf says
from_leaf : {s table : List ℕ} {sc : Names} {c : Cursor} → c.code ≡ 0 → {names slots slots₁ : List ℕ} {r : Cursor} → c.count < 200 → r.count ≡ c.count + 1
    → Kept c.count slots slots₁
    → (Between s c.at → sc.many ≤ 256 → (f : ℕ)
    → Told s (With s (Stored slots₁ c.count)) (by_begin (resolve_by s table) (reader.read (resolve_by s table) f) (scope_at s names sc) c.count
    (ahead s c.at)) r)
    → Shaped s table names slots sc c names slots₁ r
from_leaf z {names} few e k t = record {
  carries = λ q. absurd (q z);
  later = omega arith;
  few = omega arith;
  below = below_refl _ names;
  kept = k;
  told = λ q h many f m. t h (omega arith) f;
}

module _ {s table : List ℕ} {sc : Names} {c : Cursor} {t : Lexeme} (z : c.code ≡ 0) where
  shape_inner : {D : Reader → Scope → ℕ → List Token → Nodes} {names slots names₁ slots₁ : List ℕ} {d r : Cursor} {b : Begins}
      → ((rd : Reader) (S : Scope) (n : ℕ) (ts : List Token) (w : List ℕ) (l : Bool)
      → shaped (resolve_by s table) rd S n ts (begin_by b w l) ≡ D rd S n (rest ts))
      → Begun s t b c → d ≡ cursor.behind c t.end 0 0 → Parsed 1 D s table names slots sc d names₁ slots₁ r → Shaped s table names slots sc c names₁ slots₁ r
  shape_inner {names = names} {d = d} eq g f w =
      let i : d.count ≡ c.count = rw f in
      let y : d.code ≡ 0 = rw f in
      let l : d.at ≡ t.end = rw f in
      record {
        carries = λ q. absurd (q z);
        later = let j = w.later in omega arith;
        few = w.few;
        below = w.below;
        kept = rw i at w.kept;
        told = λ q h many f m. rw (begin_is g, eq _ _ _ _ _ _, g.is_next.behind, ← l, ← i)
            (w.told y (rw l (g.is_next.here h)) (rw i many) f (omega arith));
      }

  module _ {names slots names₁ slots₁ : List ℕ} {d r : Cursor} where
    pub shaped_let : Begun s t begins.Let c → d ≡ cursor.behind c t.end 0 0 → Let s table names slots sc d names₁ slots₁ r
        → Shaped s table names slots sc c names₁ slots₁ r
    unfolding shaped begin_by
    shaped_let = shape_inner (λ rd S n ts w l. refl)

    pub shaped_case : Begun s t begins.Case c → d ≡ cursor.behind c t.end 0 0 → Case s table names slots sc d names₁ slots₁ r
        → Shaped s table names slots sc c names₁ slots₁ r
    unfolding shaped begin_by
    shaped_case = shape_inner (λ rd S n ts w l. refl)

    pub shaped_each : Begun s t begins.Each c → d ≡ cursor.behind c t.end 0 0 → Each s table names slots sc d names₁ slots₁ r
        → Shaped s table names slots sc c names₁ slots₁ r
    unfolding shaped begin_by
    shaped_each = shape_inner (λ rd S n ts w l. refl)

    pub shaped_pair : Begun s t begins.Pair c → d ≡ cursor.behind c t.end 0 0 → Pair s table names slots sc d names₁ slots₁ r
        → Shaped s table names slots sc c names₁ slots₁ r
    unfolding shaped begin_by
    shaped_pair = shape_inner (λ rd S n ts w l. refl)

    pub shaped_list : Begun s t begins.List c → d ≡ cursor.behind c t.end 0 0 → Listed s table names slots sc d names₁ slots₁ r
        → Shaped s table names slots sc c names₁ slots₁ r
    unfolding shaped begin_by
    shaped_list = shape_inner (λ rd S n ts w l. refl)

  -- FALSE AND TRUE
  pub leaf_false : {names slots slots₁ : List ℕ} {d r : Cursor} → Begun s t begins.False c → c.count < 200 → length slots ≡ 1600 → d ≡ cursor.behind c t.end 0 0
      → slots₁ ≡ sets slots (8 * d.count) (row_of 17 []) → r ≡ entered d → Shaped s table names slots sc c names slots₁ r
  unfolding shaped begin_by width written
  leaf_false {slots = slots} g few long f st m =
      bare_parsed c slots g.is_next few long f 17 st m z (λ h i j. rw (begin_is g) (bare_told c slots g.is_next few long f 17 st m node.False refl h))

  pub leaf_true : {names slots slots₁ : List ℕ} {d r : Cursor} → Begun s t begins.True c → c.count < 200 → length slots ≡ 1600 → d ≡ cursor.behind c t.end 0 0
      → slots₁ ≡ sets slots (8 * d.count) (row_of 18 []) → r ≡ entered d → Shaped s table names slots sc c names slots₁ r
  unfolding shaped begin_by width written
  leaf_true {slots = slots} g few long f st m =
      bare_parsed c slots g.is_next few long f 18 st m z (λ h i j. rw (begin_is g) (bare_told c slots g.is_next few long f 18 st m node.True refl h))

  -- A VARIABLE
  pub leaf_hash : {names slots slots₁ : List ℕ} {r : Cursor} → Begun s t begins.Hash c → c.count < 200 → Var s names slots sc c slots₁ r
      → Shaped s table names slots sc c names slots₁ r
  unfolding shaped begin_by
  leaf_hash g few v = from_leaf z few v.later v.kept (λ h many f. rw (begin_is g) (v.told z h many))

  -- a name: of a variable, or of a section that is called
  module _ (g : Begun s t begins.Name c) {u : Lexeme} (m : Next s t.end u) where
    pub leaf_name : {names slots slots₁ : List ℕ} {r : Cursor} → (u.kind ≡ kind.Mark 40 → ⊥) → c.count < 200 → Var s names slots sc c slots₁ r
        → Shaped s table names slots sc c names slots₁ r
    unfolding shaped begin_by named marked
    leaf_name q few v = from_leaf z few v.later v.kept (λ h many f. rw (begin_is g, second_mark g m, mark_other u.kind (kind.Mark 40) refl q) (v.told z h many))

    pub leaf_call : {names slots slots₁ : List ℕ} {d r : Cursor} → u.kind ≡ kind.Mark 40 → c.count < 200 → d ≡ cursor.behind c u.end 0 0
        → Call s table names slots sc t d slots₁ r → Shaped s table names slots sc c names slots₁ r
    unfolding shaped begin_by named marked
    leaf_call {names} {slots} {slots₁} {d} {r} q few f v =
        let i : d.count ≡ c.count = rw f in
        let y : d.code ≡ 0 = rw f in
        let l : d.at ≡ u.end = rw f in
        let o : rest (rest (ahead s c.at)) ≡ ahead s d.at = rw (g.is_next.behind, m.behind, l) in
        from_leaf z few (v.later ∙ ap (λ (n : ℕ). n + 1) i) (rw i at v.kept) (λ h many x.
        rw (begin_is g, second_mark g m, q, mark_own (kind.Mark 40) refl, name_said s t g.coded, o, ← i)
        (v.told y (rw l (m.here (g.is_next.here h))) many (length (ahead s c.at)) (g.is_next.place h)))

-- A NUMBER, or an amount and what it is added to
add_row : {a i v w : ℕ} → a ≡ i → w ≡ v → v ≤ 65535 → take (width (node.Add i v)) (row_of 27 (a ∷ w / 256 ∷ w % 256 ∷ [])) ≡ written (node.Add i v)
unfolding width written
add_row p q r = rw (p, q)

module _ {s : List ℕ} (table : List ℕ) (sc : Names) {c : Cursor} {t : Lexeme} {v : Cursor} (g : Begun s t begins.Number c) (z : c.code ≡ 0)
    (gn : Numbers s t.at t.end 4294967295 60 c v) where
  -- the number, and then
  number_then : (names : List ℕ) {slots' : List ℕ} {r : Cursor} (f : ℕ) → Between s c.at → Carries v r
      → ((x : ℕ) → v.code ≡ 0 → Number t.end 4294967295 x v
      → Told s (With s (Stored slots' c.count)) (amount_of (reader.read (resolve_by s table) f) (scope_at s names sc) c.count (ahead s t.end) x) r)
      → Told s (With s (Stored slots' c.count)) (by_begin (resolve_by s table) (reader.read (resolve_by s table) f) (scope_at s names sc) c.count
      (ahead s c.at)) r
  unfolding shaped begin_by
  number_then names f h carry next =
      let k = number_said s t (number_kind s t g.coded) in
      rw (begin_is g, k.0, k.1, g.is_next.behind)
      (told_then _ (gn.told (length (ahead s c.at)) 0 (let e = g.is_next.place h in omega arith)) carry next)

  pub amount_fault : {names slots : List ℕ} → c.count ≤ 200 → (v.code ≡ 0 → ⊥) → Shaped s table names slots sc c names slots v
  amount_fault {names} {slots} few h = record {
    carries = λ q. absurd (q z);
    later = let e = gn.same in omega arith;
    few = let e = gn.same in omega arith;
    below = below_refl _ names;
    kept = kept_refl c.count slots;
    told = λ q b many f m. number_then names f b (λ y. fault_same v) (λ x y. absurd (h y));
  }

  module _ (y : v.code ≡ 0) {p : Lexeme} (m : Next s t.end p) where
    pub amount_constant : {names slots slots₁ : List ℕ} {r : Cursor} → c.count < 200 → (p.kind ≡ kind.Mark 43 → ⊥) → r ≡ entered v
        → (v.found ≤ 4294967295 → Constant slots v.count v.found slots₁) → Kept v.count slots slots₁ → Shaped s table names slots sc c names slots₁ r
    unfolding amount_of amount_by marked
    amount_constant {names} {slots} {slots₁} {r} few h e st k =
        let i : v.count ≡ c.count = gn.same in
        let j : r.count ≡ c.count + 1 = rw (e, i) in
        record {
          carries = λ q. absurd (q z);
          later = omega arith;
          few = omega arith;
          below = below_refl _ names;
          kept = rw i at k;
          told = λ q b many f o. number_then names f b (λ a. absurd (a y)) (λ x _ u.
              rw (m.token, mark_is s p, mark_other p.kind (kind.Mark 43) refl h) (constant_told x u b j e (λ l. rw i at (st l))));
        }
      where
        constant_told : (x : ℕ) → Number t.end 4294967295 x v → Between s c.at → r.count ≡ c.count + 1 → r ≡ entered v
            → (v.found ≤ 4294967295 → Constant slots c.count v.found slots₁)
            → Told s (With s (Stored slots₁ c.count)) (ok (constant x ∷ [], ahead s t.end)) r
        constant_told x u b j e st =
            let a = u.is_found in
            let l : r.at ≡ t.end = ap (λ (o : Cursor). o.at) e ∙ u.is_behind in
            let n : r.code ≡ 0 = ap (λ (o : Cursor). o.code) e ∙ y in
            let w : Slots slots₁ c.count (constant x ∷ []) = rw a at (st (let q = u.fits in omega arith)) in
            on {x = (constant x ∷ [], ahead s t.end)} {r = r} n (record {
              stands = record { here = rw l (g.is_next.here b); tokens = rw l };
              value = record { counted = j; some = omega arith; held = w };
            })

    pub amount_large : {names slots : List ℕ} → c.count ≤ 200 → p.kind ≡ kind.Mark 43 → 65535 < v.found
        → Shaped s table names slots sc c names slots (fault_at c 93 p.at 63)
    unfolding amount_of amount_by marked
    amount_large {names} {slots} few k h = record {
      carries = λ q. absurd (q z);
      later = omega arith;
      few = few;
      below = below_refl _ names;
      kept = kept_refl c.count slots;
      told = λ q b many f o. number_then names f b (λ a. absurd (a y)) (λ x _ u.
          let a = u.is_found in
          rw (m.token, mark_is s p, k, mark_own (kind.Mark 43) refl, lt-leb x 65535 (omega arith))
          (fault_told c 93 (length (ahead s t.end)) 0 63 p.at (omega arith) (let i = m.place (g.is_next.here b) in omega arith)));
    }

    pub amount_added : {names slots names₁ slots₁ slots₂ : List ℕ} {d r : Cursor} → c.count < 200 → length slots ≡ 1600 → p.kind ≡ kind.Mark 43
        → v.found ≤ 65535
        → d ≡ entered (cursor.behind c p.end 0 0) → Expr s table names slots sc d names₁ slots₁ r
        → slots₂ ≡ sets slots₁ (8 * c.count) (row_of 27 ((c.count + 1) ∷ v.found / 256 ∷ v.found % 256 ∷ []))
        → Shaped s table names slots sc c names₁ slots₂ r
    unfolding amount_of amount_by marked
    amount_added {names} {slots} {names₁} {slots₁} {slots₂} {d} {r} few long k h e ea st =
        let i : d.count ≡ c.count + 1 = rw e in
        let j : d.code ≡ 0 = rw e in
        let l : d.at ≡ p.end = rw e in
        record {
          carries = λ q. absurd (q z);
          later = let a = ea.later in omega arith;
          few = ea.few;
          below = ea.below;
          kept = kept_then (kept_fewer (omega arith) ea.kept) (stored_kept slots₁ few long₁ row refl st);
          told = λ q b many f o. number_then names f b (λ a. absurd (a y)) (λ x _ u.
              let a = u.is_found in
              rw (m.token, mark_is s p, k, mark_own (kind.Mark 43) refl, le-leb x 65535 (omega arith))
              (told_then _ (part_told ea j (record { here = rw l (m.here (g.is_next.here b)); tokens = rw l m.behind }) (i ∙ add-one c.count) refl
              (omega arith) f (omega arith))
              (λ a. fault_same r) (λ (w, ts) zr ur.
              let n = parts_long (w ∷ []) in
              on {x = (node.Add (suc c.count) x ∷ w ++ [], ts)} {r = r} zr (record {
                stands = ur.stands;
                value = record {
                  counted = omega (arith, ur.value.counted);
                  some = omega arith;
                  held = stored_more slots₁ few long₁ row refl st (add_row (add-one c.count) a (omega arith)) (slots_append ur.value.held no_slots);
                };
              }))));
        }
      where
        row : List ℕ
        row = row_of 27 ((c.count + 1) ∷ v.found / 256 ∷ v.found % 256 ∷ [])

        long₁ : length slots₁ ≡ 1600
        long₁ = ea.kept.long ∙ long

-- ANY EXPRESSION
begun-room : (n : ℕ) (ts : List Token) (x : Begin) {b : Begins} (f : Begin → Nodes) → Some b ≡ begin_named x → begun n ts x f ≡ room n ts (λ u. f x)
unfolding begun begin_named
begun-room n ts nothing f e = cc
begun-room n ts a_false f e = refl
begun-room n ts a_true f e = refl
begun-room n ts a_let f e = refl
begun-room n ts a_case f e = refl
begun-room n ts an_each f e = refl
begun-room n ts a_pair f e = refl
begun-room n ts a_list f e = refl
begun-room n ts (a_name w) f e = refl
begun-room n ts (a_hash ds l) f e = refl
begun-room n ts (a_number ds l) f e = refl

module _ (R : Name → Option ℕ) (S : Scope) (n : ℕ) (ts : List Token) where
  read_none : (f : ℕ) → begin_of (first ts) ≡ nothing → reader.read R f whole S n ts ≡ fault 90 (length ts) 0 5
  unfolding reader.read parted begun
  read_none zero e = rw e
  read_none (suc f) e = rw e

  module _ {b : Begins} (h : Some b ≡ begin_named (begin_of (first ts))) where
    read_full : (f : ℕ) → n ≡ 200 → reader.read R f whole S n ts ≡ fault 94 (length ts) 0 72
    unfolding reader.read parted room
    read_full zero e = begun-room n ts (begin_of (first ts)) _ h ∙ rw (eq-eqb n 200 e)
    read_full (suc f) e = begun-room n ts (begin_of (first ts)) _ h ∙ rw (eq-eqb n 200 e)

    read_more : (f : ℕ) → (n ≡ 200 → ⊥) → reader.read R (suc f) whole S n ts ≡ shaped R (reader.read R f) S n ts (begin_of (first ts))
    unfolding reader.read parted room
    read_more f e = begun-room n ts (begin_of (first ts)) _ h ∙ rw (ne_eqb n 200 e)

pub expr_none : {s table : List ℕ} {sc : Names} {c : Cursor} {t : Lexeme} {names slots : List ℕ} → Next s c.at t → c.code ≡ 0 → c.count ≤ 200
    → None ≡ begin_named (begin_of (token_at s t)) → Expr s table names slots sc c names slots (fault_at c 90 t.at 5)
expr_none {s} {table} {sc} {c} {t} {names} n z few e = parsed_fault 90 t.at 5 few z (λ h f m.
    rw (read_none (resolve_by s table) (scope_at s names sc) c.count (ahead s c.at) f (rw n.token (begin_none (begin_of (token_at s t)) e)))
    (fault_here c n h (omega arith)))

its_code : {s : List ℕ} {t : Lexeme} {b : Begins} {c : Cursor} → Begun s t b c → Some b ≡ begin_named (begin_of (first (ahead s c.at)))
its_code g = rw g.is_next.token g.coded

module _ {s table : List ℕ} {sc : Names} {c : Cursor} {t : Lexeme} {b : Begins} (g : Begun s t b c) (z : c.code ≡ 0) where
  pub expr_full : {names slots : List ℕ} → c.count ≡ 200 → Expr s table names slots sc c names slots (fault_at c 94 t.at 72)
  expr_full {names} q = parsed_fault 94 t.at 72 (omega arith) z (λ h f m.
      rw (read_full (resolve_by s table) (scope_at s names sc) c.count (ahead s c.at) (its_code g) f q) (fault_here c g.is_next h (omega arith)))

  pub expr_shaped : {names slots names₁ slots₁ : List ℕ} {r : Cursor} → c.count < 200 → Shaped s table names slots sc c names₁ slots₁ r
      → Expr s table names slots sc c names₁ slots₁ r
  expr_shaped {names} {slots} {names₁} {slots₁} {r} q w = record {
    carries = w.carries;
    later = w.later;
    few = w.few;
    below = w.below;
    kept = w.kept;
    told = λ y h many f m. goes f h many m;
  }
    where
      goes : (f : ℕ) → Between s c.at → sc.many ≤ 16 + c.count → 200 ≤ 0 + c.count + f
          → Told s (With s (Stored slots₁ c.count)) (reader.read (resolve_by s table) f whole (scope_at s names sc) c.count (ahead s c.at)) r
      goes zero h many m = absurd (omega arith)
      goes (suc f) h many m =
          rw (read_more (resolve_by s table) (scope_at s names sc) c.count (ahead s c.at) (its_code g) f (λ i. omega arith))
          (w.told z h many f (omega arith))

-- WHAT THE CALLS ASK

pub count-entered : (c : Cursor) {d : Cursor} → d ≡ entered c → d.count ≡ c.count + 1
count-entered c e = rw e

pub count-behind : (c : Cursor) {d : Cursor} {at f k : ℕ} → d ≡ cursor.behind c at f k → d.count ≡ c.count
count-behind c e = rw e

pub code-behind : (c : Cursor) {d : Cursor} {at f k : ℕ} → d ≡ cursor.behind c at f k → d.code ≡ 0
code-behind c e = rw e

pub inner_ready : {T N L N' L' top : ℕ} {c : Cursor} → Inner T N L top c → {d : Cursor} → N' ≡ N → L' ≡ L → c.count < d.count → d.count ≤ 200 → {high : ℕ}
    → high ≤ top + 2
    → Ready T N' L' high d
inner_ready w n l h few k =
    let r = w.ready in
    let i = r.low in
    record { table_few = r.table_few; names_long = n ∙ r.names_long; slots_long = l ∙ r.slots_long; few = few; low = omega arith }

pub cased_ready : {T N L N' L' top n : ℕ} {c : Cursor} → Cased T N L top n c → {d : Cursor} → N' ≡ N → L' ≡ L → n < d.count → d.count ≤ 200 → {high : ℕ}
    → high ≤ top + 2
    → Ready T N' L' high d
cased_ready w n l h few k =
    let i = w.low in
    record { table_few = w.table_few; names_long = n ∙ w.names_long; slots_long = l ∙ w.slots_long; few = few; low = omega arith }

pub wider_top : (sc : Names) {wider : Names} → wider ≡ with_two sc → wider.base + wider.many ≡ sc.base + sc.many + 2
wider_top sc e = rw e (omega arith)

-- behind what was read since
pub ready_on : {T N L N' L' top : ℕ} {c : Cursor} → Ready T N L top c → {d : Cursor} → N' ≡ N → L' ≡ L → c.count ≤ d.count → d.count ≤ 200 → {high : ℕ}
    → high ≤ top
    → Ready T N' L' high d
ready_on w n l h few k =
    let i = w.low in
    record { table_few = w.table_few; names_long = n ∙ w.names_long; slots_long = l ∙ w.slots_long; few = few; low = omega arith }

pub ready_inner : {T N L top : ℕ} (c : Cursor) {d : Cursor} {at f k : ℕ} → Ready T N L top c → c.count < 200 → d ≡ cursor.behind c at f k → Inner T N L top d
ready_inner c w h e =
    let i = count-behind c e in
    let l = w.low in
    record {
      ready = record { table_few = w.table_few; names_long = w.names_long; slots_long = w.slots_long; few = omega arith; low = omega arith };
      free = omega arith;
      clear = code-behind c e;
    }

pub leafy : {T N L : ℕ} {sc : Names} {c : Cursor} → Inner T N L (sc.base + sc.many) c → Leafy N L sc c
leafy w =
    let r = w.ready in
    let i = r.low in
    let j = r.names_long in
    let f = w.free in
    record { few = w.free; names_in = omega arith; slots_long = r.slots_long }

pub leafy_behind : {T N L : ℕ} {sc : Names} (c : Cursor) {d : Cursor} {at f k : ℕ} → Inner T N L (sc.base + sc.many) c → d ≡ cursor.behind c at f k
    → Leafy N L sc d
leafy_behind c w e =
    let r = w.ready in
    let i = r.low in
    let j = r.names_long in
    let f = w.free in
    let n = count-behind c e in
    record { few = omega arith; names_in = omega arith; slots_long = r.slots_long }

-- an answer from a cursor that is another one
pub parsed_at : {over : ℕ} {def : Reader → Scope → ℕ → List Token → Nodes} {s table names slots : List ℕ} {sc : Names} {c d : Cursor}
    {names' slots' : List ℕ} {r : Cursor}
    → c ≡ d → Parsed over def s table names slots sc c names' slots' r → Parsed over def s table names slots sc d names' slots' r
parsed_at e w = rw e at w

-- and in a scope that is another one
pub parsed_in : {over : ℕ} {def : Reader → Scope → ℕ → List Token → Nodes} {s table names slots : List ℕ} {sc sc' : Names} {c : Cursor}
    {names' slots' : List ℕ} {r : Cursor}
    → sc ≡ sc' → Parsed over def s table names slots sc c names' slots' r → Parsed over def s table names slots sc' c names' slots' r
parsed_in e w = rw e at w

pub goes_at : {s : List ℕ} {X : Type 0} {Q : X → Cursor → Type 0} {f : List Token → Out X} {c d r : Cursor} → c ≡ d → Goes s Q f c r → Goes s Q f d r
goes_at e w = rw e at w
