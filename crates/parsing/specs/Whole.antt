-- A WHOLE TEXT: what the functions answer that read the plan's names, the sections and all of a text.
use Rattle.std.specs.Prelude.{◌≡◌, Bool, true, false, ◌||◌, ℕ, zero, suc, ◌+◌, ◌*◌, ◌-◌, ◌≤◌, ◌<◌, length, get_or, take, set}
use Rattle.std.proofs.Math.Path.{refl, sym, ap}
use Rattle.std.proofs.Common.{subst, ◌∙◌, zero-add, length-append, length-set, take-suc-set, get_or-set_same}
use mathlib.Core.List.{List, [], ◌∷◌, ◌++◌, append_assoc, append-nil}
use Rattle.std.proofs.Math.Option.{Option, none, some}
use native.Mathlib.Omega.{arith}
use Rattle.node.specs.declared.Node.{Node}
use Rattle.sheet.specs.Sheet.{Sheet}
use Rattle.sheet.specs.Rows.{roots_written}
use Rattle.tokens.specs.Quoted.{bytes}
use Rattle.tokens.specs.Tokens.{Token, between, tokens, first, rest, word_of, mark_of, same}
use Rattle.syntax.specs.Reader.{Out, ok, fault, ◌>>=◌, Name, Scope, scope, find, is_some, is_name, wild, symbol, keyword, bind, section_name, unknown}
use Rattle.syntax.specs.Reader.{whole, plan, section}
use Rattle.syntax.specs.Reader.{sections, text_of_tokens}
use Rattle.syntax.specs.Reader as reader
use Rattle.tokens.specs.Ahead.{here_first}
use Rattle.lexing.specs.Lexing.{Between, ahead, token_at, Next}
use Rattle.parsing.specs.Cursor.{fault_at, Told, on, off, fault_told, Behind, With, Fault, fault_same, Carries, carries_then, Goes, told_then}
use Rattle.parsing.specs.Cursor as cursor
use Rattle.parsing.specs.Names.{name_at, name_read, stack_of, stack-length}
use Rattle.parsing.specs.Expect.{marked, mark_is, mark_own, mark_other, Binds, Named, resolve_by, scope_at, fault_here, over_it, name_kind}
use Rattle.parsing.specs.Nodes.{Slots, slots_append, Kept, kept_refl, kept_fewer, kept_then, slots_kept}
use Rattle.parsing.specs.Nodes.{none as no_slots}
use Rattle.parsing.specs.Expressions.{Stored, Below, goes_told}
use Rattle.parsing.specs.Constructs.{Expr, Both, Two}
use Rattle.parsing.specs.ConstructLaws.{told_two, two_at, below_refl, below_set, stack_one, stack_two, part_told}
use Rattle.parsing.specs.declared.cursor.Cursor.{Cursor}
use Rattle.lexing.specs.declared.Kind.TheVariants as kind
use Rattle.lexing.specs.declared.Lexeme.{Lexeme}
use Rattle.parsing.specs.declared.expect.Scope.{Scope as Names}

-- THE PLAN'S NAMES

-- so many names, and they are these
pub record Counted (s names : List ℕ) (ns : List Name) (r : Cursor) : Type 0 where
  pub are : ns ≡ stack_of s names 0 r.found
  pub few : r.found ≤ 16

pub record Full (s : List ℕ) (c r : Cursor) : Type 0 where
  pub same_count : r.count ≡ c.count
  pub told : Between s c.at → (names : List Name) (names' : List ℕ) → Told s (With s (Counted s names')) (plan 0 names (ahead s c.at)) r

pub record Planned (s names : List ℕ) (i : ℕ) (c : Cursor) (names' : List ℕ) (r : Cursor) : Type 0 where
  pub same_count : r.count ≡ c.count
  pub carries : Carries c r
  pub long : length names' ≡ length names
  pub told : c.code ≡ 0 → Between s c.at → Told s (With s (Counted s names')) (plan (16 - i) (stack_of s names 0 i) (ahead s c.at)) r

or-true : (b : Bool) → b || true ≡ true
or-true true = refl
or-true false = refl

module _ {s : List ℕ} {c : Cursor} {t : Lexeme} (n : Next s c.at t) where
  pub full_wild : same (word_of (token_at s t)) wild ≡ true → Full s c (fault_at c 94 t.at 70)
  unfolding plan
  full_wild e = record {
    same_count = refl;
    told = λ b names names'. rw (n.token, e, or-true (is_name (word_of (token_at s t))))
        (fault_here c n b (omega arith));
  }

  pub full_name : same (word_of (token_at s t)) wild ≡ false → is_name (word_of (token_at s t)) ≡ true → Full s c (fault_at c 94 t.at 70)
  unfolding plan
  full_name e f = record { same_count = refl; told = λ b names names'. rw (n.token, e, f) (fault_here c n b (omega arith)) }

  pub full_none : same (word_of (token_at s t)) wild ≡ false → is_name (word_of (token_at s t)) ≡ false → Full s c (fault_at c 90 t.at 2)
  unfolding plan
  full_none e f = record { same_count = refl; told = λ b names names'. rw (n.token, e, f) (fault_here c n b (omega arith)) }

pub plan_on : (s names : List ℕ) (i : ℕ) (c : Cursor) → (c.code ≡ 0 → ⊥) → Planned s names i c names c
plan_on s names i c h = record { same_count = refl; carries = λ q. fault_same c; long = refl; told = λ z. absurd (h z) }

pub plan_full : {s : List ℕ} (names : List ℕ) {i : ℕ} {c r : Cursor} → i ≡ 16 → c.code ≡ 0 → Full s c r → Planned s names i c names r
plan_full {s} names {i} e z w = record {
  same_count = w.same_count;
  carries = λ q. absurd (q z);
  long = refl;
  told = λ _ b. let l : 16 - i ≡ 0 = omega arith in rw l (w.told b (stack_of s names 0 i) names);
}

first_mark : {s : List ℕ} {p : ℕ} {t : Lexeme} → Next s p t → {ts : List Token} → ts ≡ ahead s p → mark_of (first ts) ≡ marked t.kind
first_mark {s} {t = t} n e = rw (e, n.token) (mark_is s t)

-- a name, and then
module _ {s names names₁ : List ℕ} {i : ℕ} {c b : Cursor} (few : i < 16) (z : c.code ≡ 0) (w : Binds s names 0 i c names₁ b) where
  next_is : 16 - i ≡ suc (16 - (i + 1))
  next_is = omega arith

  bound_below : Below (0 + i) names names₁
  bound_below = record { long = w.long; same = w.kept }

  pub plan_fault : (b.code ≡ 0 → ⊥) → Planned s names i c names₁ b
  unfolding plan
  plan_fault h = record {
    same_count = w.same;
    carries = w.carries;
    long = w.long;
    told = λ _ h'. rw next_is (told_then _ (w.told z h') (λ q. fault_same b) (λ x y. absurd (h y)));
  }

  module _ (y : b.code ≡ 0) {t : Lexeme} (n : Next s b.at t) where
    pub plan_last : (t.kind ≡ kind.Mark 44 → ⊥) → Planned s names i c names₁ (cursor.behind b b.at (i + 1) 0)
    unfolding plan marked
    plan_last h = record {
      same_count = w.same;
      carries = λ q. absurd (q z);
      long = w.long;
      told = λ _ h'. rw next_is (told_then _ (w.told z h') (λ q. absurd (q y)) (λ (v, ts) _ u.
          rw (first_mark n u.stands.tokens, mark_other t.kind (kind.Mark 44) refl h)
          (on {x = (v ∷ stack_of s names 0 i, ts)} {r = cursor.behind b b.at (i + 1) 0} refl (record {
            stands = record { here = u.stands.here; tokens = u.stands.tokens };
            value = record { are = sym (stack_one s names names₁ 0 i bound_below (ap (name_at s) u.value.noted ∙ u.value.name)); few = omega arith };
          }))));
    }

    pub plan_more : {names₂ : List ℕ} {d r : Cursor} → t.kind ≡ kind.Mark 44 → d ≡ cursor.behind b t.end 0 0 → Planned s names₁ (i + 1) d names₂ r
        → Planned s names i c names₂ r
    unfolding plan marked
    plan_more {names₂} {d} {r} k e p =
        let l : d.at ≡ t.end = rw e in
        let o : d.code ≡ 0 = rw e in
        let m : d.count ≡ b.count = rw e in
        record {
          same_count = p.same_count ∙ m ∙ w.same;
          carries = λ q. absurd (q z);
          long = p.long ∙ w.long;
          told = λ _ h'. rw next_is (told_then {Q = With s (Named s names₁ (0 + i))} _ (w.told z h') (λ q. absurd (q y)) (λ (v, ts) _ u.
              let f = stack_one s names names₁ 0 i bound_below (ap (name_at s) u.value.noted ∙ u.value.name) in
              let g : rest ts ≡ ahead s d.at = rw (u.stands.tokens, l) n.behind in
              rw (first_mark n u.stands.tokens, k, mark_own (kind.Mark 44) refl, g, ← f) (p.told o (rw l (n.here u.stands.here)))));
        }

-- THE NAME OF A SECTION
unfoldable pub title_of : List Name → List Token → Out (Name × List Token)
title_of names ts = section_name ts >>= λ (w, ts₁). unknown (find names w) (length ts) >>= λ u. ok (w, ts₁)

-- it is noted behind those before it
pub record Noted (s fresh : List ℕ) (i : ℕ) (w : Name) (r : Cursor) : Type 0 where
  pub name : name_at s (get_or fresh (1 + i) 0) ≡ w

pub record Titled (s fresh : List ℕ) (i : ℕ) (c : Cursor) (fresh' : List ℕ) (r : Cursor) : Type 0 where
  pub same_count : r.count ≡ c.count
  pub carries : Carries c r
  pub below : Below (1 + i) fresh fresh'
  pub told : c.code ≡ 0 → Between s c.at → Told s (With s (Noted s fresh' i)) (title_of (stack_of s fresh 1 i) (ahead s c.at)) r

pub title_on : (s fresh : List ℕ) (i : ℕ) (c : Cursor) → (c.code ≡ 0 → ⊥) → Titled s fresh i c fresh c
title_on s fresh i c h = record { same_count = refl; carries = λ q. fault_same c; below = below_refl (1 + i) fresh; told = λ z. absurd (h z) }

met_some : (o : Option ℕ) (left : ℕ) → is_some o ≡ true → unknown o left ≡ fault 92 left 0 51
unfolding unknown
met_some none left e = cc
met_some (some x) left e = refl

met_none : (o : Option ℕ) (left : ℕ) → is_some o ≡ false → unknown o left ≡ ok tt
unfolding unknown
met_none none left e = refl
met_none (some x) left e = cc

module _ {s : List ℕ} (fresh : List ℕ) {i : ℕ} {c : Cursor} {t : Lexeme} (n : Next s c.at t) (z : c.code ≡ 0) where
  pub title_none : is_name (word_of (token_at s t)) ≡ false → Titled s fresh i c fresh (fault_at c 90 t.at 7)
  unfolding title_of section_name ◌>>=◌
  title_none e = record {
    same_count = refl;
    carries = λ q. absurd (q z);
    below = below_refl (1 + i) fresh;
    told = λ _ b. rw (n.token, e) (fault_here c n b (omega arith));
  }

  pub title_taken : is_name (word_of (token_at s t)) ≡ true → is_some (find (stack_of s fresh 1 i) (word_of (token_at s t))) ≡ true
      → Titled s fresh i c fresh (fault_at c 92 t.at 51)
  unfolding title_of section_name unknown ◌>>=◌
  title_taken e g = record {
    same_count = refl;
    carries = λ q. absurd (q z);
    below = below_refl (1 + i) fresh;
    told = λ _ b. rw (n.token, e, met_some (find (stack_of s fresh 1 i) (word_of (token_at s t))) (length (ahead s c.at)) g) (fault_here c n b (omega arith));
  }

  pub title_new : is_name (word_of (token_at s t)) ≡ true → is_some (find (stack_of s fresh 1 i) (word_of (token_at s t))) ≡ false → 1 + i < length fresh
      → Titled s fresh i c (set fresh (1 + i) t.at) (cursor.behind c t.end 0 0)
  unfolding title_of section_name unknown ◌>>=◌
  title_new e g l = record {
    same_count = refl;
    carries = λ q. absurd (q z);
    below = below_set (1 + i) fresh (1 + i) t.at (omega arith);
    told = λ _ b. rw (n.token, e, met_none (find (stack_of s fresh 1 i) (word_of (token_at s t))) (length (ahead s c.at)) g)
        (on {x = (word_of (token_at s t), rest (ahead s c.at))} {r = cursor.behind c t.end 0 0} refl (record {
          stands = over_it c n 0 0 b;
          value = record { name = ap (name_at s) (get_or-set_same fresh (1 + i) t.at 0 l) ∙ name_read n.shape (name_kind s t e) };
        }));
  }

-- A SECTION: what is lent
pub record Lent (table names slots : ℕ) (c : Cursor) : Type 0 where
  pub table_few : table ≤ 9
  pub names_long : names ≡ 416
  pub slots_long : slots ≡ 1600
  pub few : c.count ≤ 200

pub record Ending (s slots fresh : List ℕ) (n i : ℕ) (x : Name × List Node) (r : Cursor) : Type 0 where
  pub stored : Stored slots n x.1 r
  pub noted : name_at s (get_or fresh (1 + i) 0) ≡ x.0

pub record Sectioned (s table names slots fresh : List ℕ) (i : ℕ) (c : Cursor) (names' slots' fresh' : List ℕ) (r : Cursor) : Type 0 where
  pub carries : Carries c r
  pub few : r.count ≤ 200
  pub later : c.count ≤ r.count
  pub long : length names' ≡ length names
  pub kept : Kept c.count slots slots'
  pub below : Below (1 + i) fresh fresh'
  pub told : c.code ≡ 0 → Between s c.at
      → Told s (With s (Ending s slots' fresh' c.count i)) (section (resolve_by s table) (stack_of s fresh 1 i) c.count (ahead s c.at)) r

abbrev named : Name → List Token → Unit {0} → Out (Name × List Token)
named w ts₁ u = ok (w, ts₁)

title_flat : {Y : Type 0} (names : List Name) (ts : List Token) (g : Name → List Token → Out Y)
    → title_of names ts >>= (λ (w, ts₁). g w ts₁) ≡ section_name ts >>= λ (w, ts₁). unknown (find names w) (length ts) >>= λ u. g w ts₁
unfolding title_of ◌>>=◌
title_flat {Y} names ts g = one (section_name ts)
  where
    two : (w : Name) (ts₁ : List Token) (o : Out (Unit {0})) → (o >>= named w ts₁) >>= (λ (v, us). g v us) ≡ o >>= λ u. g w ts₁
    two w ts₁ (ok u) = refl
    two w ts₁ (fault n l i e) = refl

    one : (o : Out (Name × List Token)) → (o >>= λ (w, ts₁). unknown (find names w) (length ts) >>= named w ts₁) >>= (λ (v, us). g v us)
        ≡ o >>= λ (w, ts₁). unknown (find names w) (length ts) >>= λ u. g w ts₁
    one (ok (w, ts₁)) = two w ts₁ (unknown (find names w) (length ts))
    one (fault n l i e) = refl

told_title : {s : List ℕ} {Y : Type 0} {P : Name → Cursor → Type 0} {S : Y → Cursor → Type 0} (names : List Name) (ts : List Token)
    (g : Name → List Token → Out Y)
    {c r : Cursor} → Told s (With s P) (title_of names ts) c → Carries c r
    → ((w : Name) (ts₁ : List Token) → c.code ≡ 0 → With s P (w, ts₁) c → Told s S (g w ts₁) r)
    → Told s S (section_name ts >>= λ (w, ts₁). unknown (find names w) (length ts) >>= λ u. g w ts₁) r
told_title {s} {Y} {S = S} names ts g {r = r} t k h =
    subst (λ (o : Out Y). Told s S o r) (title_flat names ts g) (told_then (λ (w, ts₁). g w ts₁) t k (λ (w, ts₁) z u. h w ts₁ z u))

abbrev pub sees : ℕ → Names
sees many = record { base = 0; many = many; lost = 40 }

both_seen : (s names names' : List ℕ) {x y : Name} {r : Cursor} → Below (0 + 0) names names' → Both s names' (0 + 0) (x, y) r
    → scope (y ∷ x ∷ []) 40 ≡ scope_at s names' (sees 2)
unfolding scope_at stack_of
both_seen s names names' b u = ap (λ (ns : List Name). scope ns 40) (sym (stack_two s names names' 0 0 b u.first_is u.second_is))

pub section_parsed : {s table names slots fresh : List ℕ} {i : ℕ} {c : Cursor} {fresh₁ names₁ names₂ slots₂ : List ℕ} {a o b p q r : Cursor}
    → Lent (length table) (length names) (length slots) c → Titled s fresh i c fresh₁ a → Goes s (Behind s) (symbol (marked (kind.Mark 40)) 8) a o
    → Two s names (sees 0) (marked (kind.Mark 44)) 9 o names₁ b → Goes s (Behind s) (symbol (marked (kind.Mark 41)) 10) b p
    → Goes s (Behind s) (symbol (marked (kind.Mark 61)) 4) p q
    → Expr s table names₁ slots (sees 2) q names₂ slots₂ r → Sectioned s table names slots fresh i c names₂ slots₂ fresh₁ r
unfolding section marked stack_of
section_parsed {s} {table} {names} {slots} {fresh} {i} {c} {fresh₁} {names₁} {names₂} {slots₂} {a} {o} {b} {p} {q} {r} l ta go tb gp gq e = record {
  carries = carries_then ta.carries end_a;
  few = e.few;
  later = let j = e.later in omega (arith, counts);
  long = e.below.long ∙ tb.below.long;
  kept = rw counts at e.kept;
  below = ta.below;
  told = λ z h.
      told_title (stack_of s fresh 1 i) _ _ (ta.told z h) end_a (λ w ts₁ za ua.
      told_then _ (goes_told go za ua.stands) end_o (λ ts₂ zo uo.
      told_two [] _ 9 ts₂ _ (two_at tb zo uo) end_b (λ x y ts₅ zb ub.
      told_then _ (goes_told gp zb ub.stands) end_p (λ ts₆ zp up.
      told_then _ (goes_told gq zp up) e.carries (λ ts₇ zq uq.
      told_then _ (part_told e zq uq counts (both_seen s names names₁ tb.below ub.value) (omega arith) 200 (omega arith)) (λ j. fault_same r)
      (λ (v, ts₈) zr ur.
      on {x = ((w, v), ts₈)} {r = r} zr (record { stands = ur.stands; value = record { stored = ur.value; noted = ua.value.name } })))))));
}
  where
    counts : q.count ≡ c.count
    counts = gq.same ∙ gp.same ∙ tb.same_count ∙ go.same ∙ ta.same_count

    end_p : Carries p r
    end_p = carries_then gq.carries e.carries

    end_b : Carries b r
    end_b = carries_then gp.carries end_p

    end_o : Carries o r
    end_o = carries_then tb.carries end_b

    end_a : Carries a r
    end_a = carries_then go.carries end_o

-- THE SECTIONS
pub record Closing (s slots front front' fresh : List ℕ) (i n : ℕ) (x : reader.Sections) (r : Cursor) : Type 0 where
  pub many : r.found ≡ i + length x.roots
  pub few : r.found ≤ 8
  pub counted : r.count ≡ n + length x.nodes
  pub held : Slots slots n x.nodes
  pub fronted : take (3 + 2 * r.found) front' ≡ take (3 + 2 * i) front ++ roots_written x.roots []
  pub names_are : x.names ≡ stack_of s fresh 1 r.found

pub record Sections (s table slots front fresh : List ℕ) (i : ℕ) (c : Cursor) (slots' front' fresh' : List ℕ) (r : Cursor) : Type 0 where
  pub carries : Carries c r
  pub later : c.count ≤ r.count
  pub few : r.count ≤ 200
  pub front_long : length front' ≡ length front
  pub fresh_long : length fresh' ≡ length fresh
  pub kept : Kept c.count slots slots'
  pub told : c.code ≡ 0 → Between s c.at
      → Told s (Closing s slots' front front' fresh' i c.count) (sections (resolve_by s table) (8 - i) (stack_of s fresh 1 i) c.count (ahead s c.at)) r

module _ {s table slots front fresh : List ℕ} {i : ℕ} {c : Cursor} (few : c.count ≤ 200) where
  sections_stay : {r : Cursor} → r.count ≡ c.count → Carries c r
      → (c.code ≡ 0 → Between s c.at
      → Told s (Closing s slots front front fresh i c.count) (sections (resolve_by s table) (8 - i) (stack_of s fresh 1 i) c.count (ahead s c.at)) r)
      → Sections s table slots front fresh i c slots front fresh r
  sections_stay e k t = record {
    carries = k;
    later = omega arith;
    few = omega arith;
    front_long = refl;
    fresh_long = refl;
    kept = kept_refl c.count slots;
    told = t;
  }

  pub sections_on : (c.code ≡ 0 → ⊥) → Sections s table slots front fresh i c slots front fresh c
  sections_on h = sections_stay refl (λ q. fault_same c) (λ z. absurd (h z))

  module _ {t : Lexeme} (n : Next s c.at t) (z : c.code ≡ 0) where
    pub sections_end : i ≤ 8 → t.kind ≡ kind.End → Sections s table slots front fresh i c slots front fresh (cursor.behind c c.at i 0)
    sections_end h k = sections_stay refl (λ q. absurd (q z)) (λ _ b. rw (n.ended k) (all_read (8 - i)))
      where
        all_read : (l : ℕ) → Told s (Closing s slots front front fresh i c.count) (sections (resolve_by s table) l (stack_of s fresh 1 i) c.count [])
            (cursor.behind c c.at i 0)
        all_read l = rw (none_left l) (on {r = cursor.behind c c.at i 0} refl (record {
          many = let e : i ≡ i + 0 = omega arith in e;
          few = h;
          counted = let e : c.count ≡ c.count + 0 = omega arith in e;
          held = no_slots;
          fronted = sym (append-nil (take (3 + 2 * i) front));
          names_are = refl;
        }))
          where
            none_left : (l : ℕ) → sections (resolve_by s table) l (stack_of s fresh 1 i) c.count []
                ≡ ok (record { names = stack_of s fresh 1 i; roots = []; nodes = [] })
            none_left zero = unfold sections in refl
            none_left (suc l) = unfold sections in refl

    pub sections_none : (t.kind ≡ kind.End → ⊥) → same (word_of (token_at s t)) (bytes "section") ≡ false
        → Sections s table slots front fresh i c slots front fresh (fault_at c 90 t.at 6)
    sections_none k e = sections_stay refl (λ q. absurd (q z)) (λ _ b. rw (not_one (8 - i)) (fault_here c n b (omega arith)))
      where
        not_one : (l : ℕ) → sections (resolve_by s table) l (stack_of s fresh 1 i) c.count (ahead s c.at) ≡ fault 90 (length (ahead s c.at)) 0 6
        not_one zero = unfold sections in rw (n.some k, e)
        not_one (suc l) = unfold sections keyword first ◌>>=◌ in rw (n.some k, e)

    pub sections_full : i ≡ 8 → (t.kind ≡ kind.End → ⊥) → same (word_of (token_at s t)) (bytes "section") ≡ true
        → Sections s table slots front fresh i c slots front fresh (fault_at c 94 t.at 71)
    sections_full h k e = sections_stay refl (λ q. absurd (q z)) (λ _ b. rw (ninth (8 - i) (omega arith)) (fault_here c n b (omega arith)))
      where
        ninth : (l : ℕ) → l ≡ 0 → sections (resolve_by s table) l (stack_of s fresh 1 i) c.count (ahead s c.at) ≡ fault 94 (length (ahead s c.at)) 0 71
        ninth zero q = unfold sections in rw (n.some k, e)
        ninth (suc l) q = absurd (omega arith)

-- a section's record noted
front_noted : (a : List ℕ) {b : List ℕ} (i v : ℕ) → b ≡ set (set a (3 + 2 * i) 32) (4 + 2 * i) v → 4 + 2 * i < length a
    → take (3 + 2 * (i + 1)) b ≡ take (3 + 2 * i) a ++ (32 ∷ v ∷ [])
front_noted a {b} i v e h =
    let l : 3 + 2 * (i + 1) ≡ suc (4 + 2 * i) = omega arith in
    let m : 4 + 2 * i ≡ suc (3 + 2 * i) = omega arith in
    let c = set a (3 + 2 * i) 32 in
    let k : 4 + 2 * i < length c = rw length-set h in
    ap (take (3 + 2 * (i + 1))) e ∙ ap (λ (n : ℕ). take n (set c (4 + 2 * i) v)) l ∙ take-suc-set c (4 + 2 * i) v k
    ∙ ap (λ (x : List ℕ). x ++ v ∷ []) (ap (λ (n : ℕ). take n c) m ∙ take-suc-set a (3 + 2 * i) 32 (omega arith))
    ∙ append_assoc (take (3 + 2 * i) a) (32 ∷ []) (v ∷ [])

pub sections_more : {s table names slots front fresh : List ℕ} {i : ℕ} {c : Cursor} {t : Lexeme} {front₁ names₁ slots₁ fresh₁ slots₂ front₂ fresh₂ : List ℕ}
    {d a r : Cursor}
    → Next s c.at t → c.code ≡ 0 → i < 8 → length front ≡ 19 → (t.kind ≡ kind.End → ⊥) → same (word_of (token_at s t)) (bytes "section") ≡ true
    → d ≡ cursor.behind c t.end 0 0 → front₁ ≡ set (set front (3 + 2 * i) 32) (4 + 2 * i) c.count
    → Sectioned s table names slots fresh i d names₁ slots₁ fresh₁ a → Sections s table slots₁ front₁ fresh₁ (i + 1) a slots₂ front₂ fresh₂ r
    → Sections s table slots front fresh i c slots₂ front₂ fresh₂ r
unfolding sections keyword first rest
sections_more {s} {table} {names} {slots} {front} {fresh} {i} {c} {t} {front₁} {names₁} {slots₁} {fresh₁} {slots₂} {front₂} {fresh₂} {d} {a} {r} n z few long
    k e f st w es =
    let o : d.count ≡ c.count = rw f in
    let y : d.code ≡ 0 = rw f in
    let l : d.at ≡ t.end = rw f in
    let m : 8 - i ≡ suc (8 - (i + 1)) = omega arith in
    let g : front₁ ≡ set (set front (3 + 2 * i) 32) (4 + 2 * i) c.count = st in
    record {
      carries = λ q. absurd (q z);
      later = let p = w.later in let q = es.later in omega arith;
      few = es.few;
      front_long = es.front_long ∙ rw st (simp length-set);
      fresh_long = es.fresh_long ∙ w.below.long;
      kept = kept_then (rw o at w.kept) (kept_fewer (let p = w.later in omega arith) es.kept);
      told = λ _ b. rw (m, n.some k, e)
          (told_then {Q = λ ts a'. (ts ≡ ahead s t.end) × (a'.count ≡ c.count)} _ (on {r = d} y (refl, o)) (λ q. absurd (q y)) (λ ts _ u.
          told_then {Q = With s (Ending s slots₁ fresh₁ c.count i)} _ (section-at u b l o y) es.carries (λ (x, ts₂) za ua.
          let v = ua.value.stored.counted in
          let h = stack_one s fresh fresh₁ 1 i w.below ua.value.noted in
          told_then {Q = Closing s slots₂ front₁ front₂ fresh₂ (i + 1) (c.count + length x.1)} _
          (rw (ua.stands.tokens, ← v, ← h) (es.told za ua.stands.here))
          (λ q. fault_same r) (λ p zr up.
          on {x = record { names = p.names; roots = c.count ∷ p.roots; nodes = x.1 ++ p.nodes }} {r = r} zr (record {
            many = let j = up.many in omega arith;
            few = up.few;
            counted = let j = up.counted in let q = length-append x.1 p.nodes in omega arith;
            held = slots_append (slots_kept es.kept (omega arith) ua.value.stored.held) up.held;
            fronted = up.fronted ∙ ap (λ (q : List ℕ). q ++ roots_written p.roots []) (front_noted front i c.count st (omega arith))
                ∙ append_assoc (take (3 + 2 * i) front) (32 ∷ c.count ∷ []) (roots_written p.roots []);
            names_are = up.names_are;
          })))));
    }
  where
    section-at : {ts : List Token} → (ts ≡ ahead s t.end) × (d.count ≡ c.count) → Between s c.at → d.at ≡ t.end → d.count ≡ c.count → d.code ≡ 0
        → Told s (With s (Ending s slots₁ fresh₁ c.count i)) (section (resolve_by s table) (stack_of s fresh 1 i) c.count ts) a
    section-at u b l o y = rw (u.0, ← l, ← o) (w.told y (rw l (n.here b)))

-- THE WHOLE TEXT
pub record Read (s slots front fresh : List ℕ) (x : List Name × Sheet) (r : Cursor) : Type 0 where
  pub counted : r.count ≡ length x.1.nodes
  pub held : Slots slots 0 x.1.nodes
  pub few : r.found ≤ 8
  pub fronted : take (3 + 2 * r.found) front ≡ 1 ∷ x.1.k ∷ x.1.root ∷ roots_written x.1.sections []
  pub names_are : x.0 ≡ stack_of s fresh 1 r.found

pub record Passed (s table slots front fresh : List ℕ) (r : Cursor) : Type 0 where
  pub few : r.count ≤ 200
  pub told : Told s (Read s slots front fresh) (text_of_tokens (resolve_by s table) (tokens between s)) r

plan_told : {s names : List ℕ} {c : Cursor} {names' : List ℕ} {r : Cursor} → Planned s names 0 c names' r → c.code ≡ 0 → {ts : List Token} → Behind s ts c
    → Told s (With s (Counted s names')) (plan 16 [] ts) r
unfolding stack_of
plan_told p z b = rw b.tokens (p.told z b.here)

front_first : (a : List ℕ) {b : List ℕ} (k : ℕ) → b ≡ set (set (set a 0 1) 1 k) 2 0 → length a ≡ 19 → take 3 b ≡ 1 ∷ k ∷ 0 ∷ []
front_first [] k e h = absurd (omega arith)
front_first (x ∷ []) k e h = absurd (omega arith)
front_first (x ∷ y ∷ []) k e h = absurd (omega arith)
front_first (x ∷ y ∷ z ∷ a) k e h = rw e

pub start_here : (s : List ℕ) → Between s 0
start_here s = here_first s

pub pass_fault : {s table names slots front fresh : List ℕ} {m k : Cursor}
    → Goes s (Behind s) (keyword (bytes "plan") 1) (cursor.behind (record { at = 0; count = 0; found = 0; code = 0; detail = 0 }) 0 0 0) m
    → {names₁ : List ℕ} → Planned s names 0 m names₁ k → (k.code ≡ 0 → ⊥) → Passed s table slots front fresh k
unfolding text_of_tokens
pass_fault {s} {k = k} gm p h = record {
  few = omega (arith, p.same_count, gm.same);
  told = told_then _ (gm.told refl (start_here s)) p.carries (λ ts zm um.
      told_then _ (plan_told p zm um) (λ q. fault_same k) (λ x y. absurd (h y)));
}

pub pass_parsed : {s table names slots : List ℕ} (front : List ℕ) {fresh : List ℕ} {m k l q a r : Cursor}
    {names₁ names₂ slots₂ front₂ slots₃ front₃ fresh₃ : List ℕ}
    → Goes s (Behind s) (keyword (bytes "plan") 1) (cursor.behind (record { at = 0; count = 0; found = 0; code = 0; detail = 0 }) 0 0 0) m
    → Planned s names 0 m names₁ k → k.code ≡ 0
    → length front ≡ 19 → front₂ ≡ set (set (set front 0 1) 1 k.found) 2 0 → Goes s (Behind s) (keyword (bytes "list") 3) k l
    → Goes s (Behind s) (symbol (marked (kind.Mark 61)) 4) l q → Expr s table names₁ slots (record { base = 0; many = k.found; lost = 40 }) q names₂ slots₂ a
    → Sections s table slots₂ front₂ fresh 0 a slots₃ front₃ fresh₃ r → Passed s table slots₃ front₃ fresh₃ r
unfolding text_of_tokens marked stack_of
pass_parsed {s} {table} {names} {slots} front {fresh} {m} {k} {l} {q} {a} {r} {names₁} {names₂} {slots₂} {front₂} {slots₃} {front₃} {fresh₃} gm p y long st
    gl gq e es = record {
      few = es.few;
      told = told_then _ (gm.told refl (start_here s)) (carries_then p.carries end_k) (λ ts₁ zm um.
          told_then _ (plan_told p zm um) end_k (λ (ns, ts₂) zk uk.
          told_then _ (goes_told gl zk uk.stands) (carries_then gq.carries (carries_then e.carries es.carries)) (λ ts₃ zl ul.
          told_then _ (goes_told gq zl ul) (carries_then e.carries es.carries) (λ ts₄ zq uq.
          told_then _ (part_told e zq uq counts (seen uk.value.are) (let f = uk.value.few in omega arith) 200 (omega arith)) es.carries
          (λ (x, ts₅) za ua.
          let v : a.count ≡ length x = (let i = ua.value.counted in omega arith) in
          told_then {Q = Closing s slots₃ front₂ front₃ fresh₃ 0 (length x)} _ (rw (ua.stands.tokens, ← v) (es.told za ua.stands.here))
          (λ j. fault_same r) (λ o zr ur.
          on {x = (o.names, record { k = length ns; root = 0; sections = o.roots; nodes = x ++ o.nodes })} {r = r} zr (record {
            counted = let i = length-append x o.nodes in let j = ur.counted in omega arith;
            held = slots_append (slots_kept es.kept (let i = ua.value.counted in omega arith) ua.value.held) (rw (zero-add (length x)) ur.held);
            few = ur.few;
            fronted = ur.fronted ∙ ap (λ (b : List ℕ). b ++ roots_written o.roots []) (front_first front k.found st long)
                ∙ ap (λ (n : ℕ). 1 ∷ n ∷ 0 ∷ roots_written o.roots []) (sym (ap length uk.value.are ∙ stack-length s names₁ 0 k.found));
            names_are = ur.names_are;
          })))))));
    }
  where
    end_k : Carries k r
    end_k = carries_then gl.carries (carries_then gq.carries (carries_then e.carries es.carries))

    counts : q.count ≡ 0
    counts = gq.same ∙ gl.same ∙ p.same_count ∙ gm.same

    seen : {ns : List Name} → ns ≡ stack_of s names₁ 0 k.found → scope ns 40 ≡ scope_at s names₁ (record { base = 0; many = k.found; lost = 40 })
    seen j = unfold scope_at in ap (λ (b : List Name). scope b 40) j

pub lent_behind : {T N L : ℕ} (c : Cursor) {d : Cursor} {at f k : ℕ} → Lent T N L c → d ≡ cursor.behind c at f k → Lent T N L d
lent_behind c l e = record { table_few = l.table_few; names_long = l.names_long; slots_long = l.slots_long; few = rw e l.few }

-- a plan that is read has at most 16 names
found_in : {s names : List ℕ} {o : Out (List Name × List Token)} {k : Cursor} → Told s (With s (Counted s names)) o k → k.code ≡ 0 → k.found ≤ 16
found_in (on e u) z = u.value.few
found_in (off h e p d) z = absurd (omega arith)

pub plan_found : {s names : List ℕ} {m k : Cursor} {names₁ : List ℕ} {f : List Token → Out (List Token)} (c : Cursor) → c.code ≡ 0 → Between s c.at
    → Goes s (Behind s) f c m → Planned s names 0 m names₁ k → k.code ≡ 0 → k.found ≤ 16
plan_found {s} {names} {m} {k} {names₁} c z h g p y = go (g.told z h)
  where
    go : {o : Out (List Token)} → Told s (Behind s) o m → k.found ≤ 16
    go (on e b) = found_in (p.told e b.here) y
    go (off l e q t) = let f = p.carries (λ i. omega arith) in let j = f.code_is in absurd (omega arith)
