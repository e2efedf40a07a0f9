-- What each return of the writer's functions shows, and what their calls ask: a value, the members of a list, a pair.
use Rattle.std.specs.Prelude.{◌≡◌, length, drop}
use Rattle.std.proofs.Math.Path.{refl, sym}
use Rattle.std.proofs.Common.{ap, ◌∙◌, arith, length-append, length-drop, drop-drop, get_or-drop}
use mathlib.Core.List.{List, [], ◌∷◌, ◌++◌, append_assoc}
use Prim.Native.Nat.{ℕ, suc, ◌+◌, ◌-◌, ◌≤◌, ◌<◌, max, zero-le}
use Rattle.std.proofs.Math.ListN.{get_or}
use Rattle.value.specs.Value.{Value, Values, list, pair, nil, cons, encode, encodes, size, sizes}
use Rattle.value.proofs.Encoding.{size_encodes, size_pos}
use Rattle.report.specs.Writing.{Wrote, wrote_long, wrote_text, wrote_then}
use Rattle.notation.specs.Text.{json_of, members_of, more_of, depth, depths}
use Rattle.json_codec.specs.Writer.{
  Puts,
  p_done,
  p_deep,
  puts_long,
  puts_end,
  Held,
  HeldList,
  HeldTwo,
  Holds,
  HoldsList,
  HoldsTwo,
  HoldsScalar,
  Writes,
  WritesList,
  WritesTwo,
  Headed,
  h_false,
  h_true,
  h_nil,
  h_cons,
  h_number,
  h_pair,
  h_wide,
  kind_at,
  inside,
  behind,
}
use Rattle.std.specs.Prelude.{Err}
use Rattle.refusal.specs.declared.Refusal.{Refusal}
use Rattle.refusal.specs.declared.Refusal.TheVariants.{JsonDepth}
use Rattle.json_codec.specs.Steps.{Answer, done}

-- BEHIND THE FIRST BYTE
tail : (v : List ℕ) (at : ℕ) {k : ℕ} {l : List ℕ} → drop at v ≡ k ∷ l → drop (at + 1) v ≡ l
tail v at e = sym (drop-drop 1 at v) ∙ ap (drop 1) e

-- A VALUE

as_pair : {x : Value} → Headed x 5 → (a : Value) × (b : Value) × (x ≡ pair a b)
as_pair (h_pair {a} {b}) = (a, b, refl)

module _ {v : List ℕ} {at : ℕ} where
  pub value_there : Holds v at → at < length v
  value_there q = omega (arith, inside q.held, size_pos q.x)

  -- a scalar, by its kind
  pub is_scalar : Holds v at → (get_or v at 0 ≡ 2 → ⊥) → (get_or v at 0 ≡ 3 → ⊥) → (get_or v at 0 ≡ 5 → ⊥) → HoldsScalar v at
  is_scalar q n c p = record { holds = q; no_nil = n; no_cons = c; no_pair = p }

  -- a list, by its kind
  module _ (lo : 2 ≤ get_or v at 0) (hi : get_or v at 0 < 4) where
    as_list : {x : Value} {more : List ℕ} {k : ℕ} → Held v at x more → Headed x k → get_or v at 0 ≡ k → (l : Values) × (x ≡ list l)
    as_list h h_false e = absurd (omega arith)
    as_list h h_true e = absurd (omega arith)
    as_list h h_nil e = (nil, refl)
    as_list h (h_cons {x} {l}) e = (cons x l, refl)
    as_list h h_number e = absurd (omega arith)
    as_list h h_pair e = absurd (omega arith)
    as_list h h_wide e = absurd (omega arith)

    list_held : {l : Values} {more : List ℕ} → Held v at (list l) more → HeldList v at l more
    unfolding encode
    list_held h = record { bytes = h.bytes }

    pub list_there : Holds v at → HoldsList v at
    list_there q =
        let (l, e) = as_list q.held (kind_at q.held) refl in
        record { l = l; more = q.more; held = list_held (rw e at q.held) }

    pub list_deep : (levels put : ℕ) → levels ≡ 0 → (b : List ℕ) → Writes v at levels put b b (Err JsonDepth)
    unfolding depth
    list_deep levels put z b = record { puts = λ x more h. let (l, e) = as_list h (kind_at h) refl in go x l e }
      where
        go : (x : Value) (l : Values) → x ≡ list l → Puts (json_of x) (depth x) levels (at + size x) put b b (Err JsonDepth)
        go x l e = rw e (p_deep refl (omega arith) refl)

    pub value_list : (levels put : ℕ) → (levels ≡ 0 → ⊥) → {b b' : List ℕ} {r : Answer}
        → WritesList v at (levels - 1) put b b' r → Writes v at levels put b b' r
    unfolding depth size
    value_list levels put z {b} {b'} {r} w =
        record { puts = λ x more h. let (l, e) = as_list h (kind_at h) refl in rw e (go l (w.puts l more (list_held (rw e at h)))) }
      where
        go : (l : Values) {r : Answer} → Puts (json_of (list l)) (depths l) (levels - 1) (at + sizes l) put b b' r
            → Puts (json_of (list l)) (depth (list l)) levels (at + size (list l)) put b b' r
        go l (p_done e h q) = p_done e (omega arith) q
        go l (p_deep e h y) = p_deep e (omega arith) y

  -- a pair, by its kind
  module _ (k : get_or v at 0 ≡ 5) where
    its_kind : {x : Value} {more : List ℕ} → Held v at x more → Headed x 5
    its_kind h = rw k at (kind_at h)

    two_held : {a b : Value} {more : List ℕ} → Held v at (pair a b) more → HeldTwo v (at + 1) a b more
    unfolding encode
    two_held {a} {b} {more} h = record { bytes = tail v at h.bytes ∙ append_assoc (encode a) (encode b) more }

    pub two_there : Holds v at → HoldsTwo v (at + 1)
    two_there q = let (a, b, e) = as_pair (its_kind q.held) in record { a = a; b = b; more = q.more; held = two_held (rw e at q.held) }

    pub pair_deep : (levels put : ℕ) → levels ≡ 0 → (b : List ℕ) → Writes v at levels put b b (Err JsonDepth)
    unfolding depth
    pair_deep levels put z b = record { puts = λ x more h. let (a, c, e) = as_pair (its_kind h) in go x a c e }
      where
        go : (x a c : Value) → x ≡ pair a c → Puts (json_of x) (depth x) levels (at + size x) put b b (Err JsonDepth)
        go x a c e = rw e (p_deep refl (omega arith) refl)

    pub value_pair : (levels put : ℕ) → (levels ≡ 0 → ⊥) → {b b' : List ℕ} {r : Answer} → WritesTwo v (at + 1) (levels - 1) put b b' r
        → Writes v at levels put b b' r
    unfolding depth size
    value_pair levels put z {b} {b'} {r} w =
        record { puts = λ x more h. let (a, c, e) = as_pair (its_kind h) in rw e (go a c (w.puts a c more (two_held (rw e at h)))) }
      where
        go : (a c : Value) {r : Answer} → Puts (json_of (pair a c)) (max (depth a) (depth c)) (levels - 1) (at + 1 + (size a + size c)) put b b' r
            → Puts (json_of (pair a c)) (depth (pair a c)) levels (at + size (pair a c)) put b b' r
        go a c (p_done e h q) = p_done (e ∙ omega arith) (omega arith) q
        go a c (p_deep e h y) = p_deep e (omega arith) y

-- A LIST

data HeadedList : Values → ℕ → Type 0 where
  l_nil : HeadedList nil 2
  l_cons : {x : Value} {l : Values} → HeadedList (cons x l) 3

headed_list : (l : Values) (more : List ℕ) → HeadedList l (get_or (encodes l ++ more) 0 0)
unfolding encodes
headed_list nil more = l_nil
headed_list (cons x l) more = l_cons

size_list : (l : Values) → 1 ≤ sizes l
unfolding sizes
size_list nil = omega arith
size_list (cons x l) = omega arith

module _ {v : List ℕ} {at : ℕ} {l : Values} {more : List ℕ} (h : HeldList v at l more) where
  list_kind : HeadedList l (get_or v at 0)
  list_kind =
      let z : at + 0 ≡ at = omega arith in
      let e : get_or v (at + 0) 0 ≡ get_or (encodes l ++ more) 0 0 = sym (get_or-drop at v 0 0) ∙ ap (λ (l : List ℕ). get_or l 0 0) h.bytes in
      rw (rw z at e) (headed_list l more)

  pub list_inside : at + sizes l ≤ length v
  list_inside = omega (arith, ap length h.bytes, length-drop at v, length-append (encodes l) more, size_encodes l, size_list l)

  pub list_begins : at < length v
  list_begins = omega (arith, list_inside, size_list l)

-- some members are written, and x is the next: the text so far is `text`, and they nest `done` deep
pub record Turning (v : List ℕ) (at levels put : ℕ) (b₀ : List ℕ) (l : Values) (more : List ℕ) (i : ℕ) (b : List ℕ) (p : ℕ) : Type 0 where
  pub x : Value
  pub m : Values
  pub held : HeldList v i (cons x m) more
  pub later : at ≤ i
  pub done : ℕ
  pub within : done ≤ levels
  pub deep : depths l ≡ max done (max (depth x) (depths m))
  pub end : at + sizes l ≡ i + suc (size x + sizes m)
  pub text : List ℕ
  pub wrote : Wrote text put b₀ b p
  pub whole : json_of (list l) ≡ text ++ (json_of x ++ more_of m)

-- x is written too, and its bytes end at i
pub record Turned (v : List ℕ) (at levels put : ℕ) (b₀ : List ℕ) (l : Values) (more : List ℕ) (i : ℕ) (b : List ℕ) (p : ℕ) : Type 0 where
  pub m : Values
  pub held : HeldList v i m more
  pub later : at ≤ i
  pub done : ℕ
  pub within : done ≤ levels
  pub deep : depths l ≡ max done (depths m)
  pub end : at + sizes l ≡ i + sizes m
  pub text : List ℕ
  pub wrote : Wrote text put b₀ b p
  pub whole : json_of (list l) ≡ text ++ more_of m

module _ {v : List ℕ} {at : ℕ} (levels put : ℕ) where
  -- the empty list
  pub array_none : get_or v at 0 ≡ 2 → {b b₁ b₂ : List ℕ} {p q : ℕ} → Wrote (0x5B ∷ []) put b b₁ p → Wrote (0x5D ∷ []) p b₁ b₂ q
      → WritesList v at levels put b b₂ (done (at + 1) q)
  unfolding json_of members_of depths sizes
  array_none k {b} {b₂} {q} w y = record { puts = λ l more h. go (rw k at (list_kind h)) }
    where
      go : {l : Values} → HeadedList l 2 → Puts (json_of (list l)) (depths l) levels (at + sizes l) put b b₂ (done (at + 1) q)
      go l_nil = p_done refl zero-le (wrote_then w y)

  -- the first member
  pub array_some : (get_or v at 0 ≡ 2 → ⊥) → {l : Values} {more b b₁ : List ℕ} {p : ℕ} → HeldList v at l more → Wrote (0x5B ∷ []) put b b₁ p
      → Turning v at levels put b l more at b₁ p
  unfolding json_of members_of depths sizes
  array_some k {more} {b} {b₁} {p} h w = go h (list_kind h) refl
    where
      go : {l : Values} {c : ℕ} → HeldList v at l more → HeadedList l c → get_or v at 0 ≡ c → Turning v at levels put b l more at b₁ p
      go h l_nil e = absurd (k e)
      go h (l_cons {x} {l}) e = record {
        x = x;
        m = l;
        held = h;
        later = omega arith;
        done = 0;
        within = zero-le;
        deep = omega arith;
        end = refl;
        text = 0x5B ∷ [];
        wrote = w;
        whole = refl;
      }

module _ {v : List ℕ} {at levels put : ℕ} {b₀ : List ℕ} {l : Values} {more : List ℕ} {i : ℕ} {b : List ℕ} {p : ℕ}
    (t : Turning v at levels put b₀ l more i b p) where
  pub member_held : Held v (i + 1) t.x (encodes t.m ++ more)
  unfolding encodes
  member_held = record { bytes = tail v i t.held.bytes ∙ append_assoc (encode t.x) (encodes t.m) more }

  pub member_holds : Holds v (i + 1)
  member_holds = record { x = t.x; more = encodes t.m ++ more; held = member_held }

  pub member_there : i < length v
  member_there = list_begins t.held

  pub member_end : {b' : List ℕ} {r : Answer} {n q : ℕ} → Writes v (i + 1) levels p b b' r → r ≡ done n q → i < n
  member_end w e = omega (arith, puts_end (w.puts t.x (encodes t.m ++ more) member_held) e)

  pub member_deep : {b' : List ℕ} {r : Answer} {c : Refusal} → Writes v (i + 1) levels p b b' r → r ≡ Err c
      → Puts (json_of (list l)) (depths l) levels (at + sizes l) put b₀ b' (Err c)
  member_deep {b'} {r} {c} w e = go (rw e at (w.puts t.x (encodes t.m ++ more) member_held))
    where
      go : Puts (json_of t.x) (depth t.x) levels (i + 1 + size t.x) p b b' (Err c)
          → Puts (json_of (list l)) (depths l) levels (at + sizes l) put b₀ b' (Err c)
      go (p_deep e h y) = p_deep e (omega (arith, t.deep)) (y ∙ wrote_long t.wrote)

  pub member_done : {b' : List ℕ} {r : Answer} {n q : ℕ} → Writes v (i + 1) levels p b b' r → r ≡ done n q → Turned v at levels put b₀ l more n b' q
  member_done {b'} {r} {n} {q} w e = go (rw e at (w.puts t.x (encodes t.m ++ more) member_held))
    where
      go : Puts (json_of t.x) (depth t.x) levels (i + 1 + size t.x) p b b' (done n q) → Turned v at levels put b₀ l more n b' q
      go (p_done f h y) = record {
        m = t.m;
        held = record { bytes = ap (λ (k : ℕ). drop k v) f ∙ behind member_held };
        later = omega (arith, t.later);
        done = max t.done (depth t.x);
        within = omega (arith, t.within);
        deep = omega (arith, t.deep);
        end = omega (arith, t.end);
        text = t.text ++ json_of t.x;
        wrote = wrote_then t.wrote y;
        whole = t.whole ∙ sym (append_assoc t.text (json_of t.x) (more_of t.m));
      }

module _ {v : List ℕ} {at levels put : ℕ} {b₀ : List ℕ} {l : Values} {more : List ℕ} {i : ℕ} {b : List ℕ} {p : ℕ}
    (t : Turned v at levels put b₀ l more i b p) where
  pub rest_there : i < length v
  rest_there = list_begins t.held

  pub list_closed : get_or v i 0 ≡ 2 → {b' : List ℕ} {q : ℕ} → Wrote (0x5D ∷ []) p b b' q
      → Puts (json_of (list l)) (depths l) levels (at + sizes l) put b₀ b' (done (i + 1) q)
  unfolding more_of depths sizes
  list_closed k {b'} {q} w = go t.m (rw k at (list_kind t.held)) t.deep t.end t.whole
    where
      go : (m : Values) → HeadedList m 2 → depths l ≡ max t.done (depths m) → at + sizes l ≡ i + sizes m → json_of (list l) ≡ t.text ++ more_of m
          → Puts (json_of (list l)) (depths l) levels (at + sizes l) put b₀ b' (done (i + 1) q)
      go m l_nil d e f = p_done (sym e) (omega (arith, t.within)) (wrote_text (wrote_then t.wrote w) (sym f))

  pub list_goes_on : (get_or v i 0 ≡ 2 → ⊥) → {b' : List ℕ} {q : ℕ} → Wrote (0x2C ∷ []) p b b' q → Turning v at levels put b₀ l more i b' q
  unfolding more_of depths sizes
  list_goes_on k {b'} {q} w = go t.m t.held (list_kind t.held) refl t.deep t.end t.whole
    where
      go : (m : Values) {c : ℕ} → HeldList v i m more → HeadedList m c → get_or v i 0 ≡ c → depths l ≡ max t.done (depths m) → at + sizes l ≡ i + sizes m
          → json_of (list l) ≡ t.text ++ more_of m → Turning v at levels put b₀ l more i b' q
      go m h l_nil z d e f = absurd (k z)
      go m h (l_cons {x} {l = r}) z d e f = record {
        x = x;
        m = r;
        held = h;
        later = t.later;
        done = t.done;
        within = t.within;
        deep = d;
        end = e;
        text = t.text ++ (0x2C ∷ []);
        wrote = wrote_then t.wrote w;
        whole = f ∙ sym (append_assoc t.text (0x2C ∷ []) (json_of x ++ more_of r));
      }

-- A PAIR

-- before the first value, and between the two
abbrev pub pair_open : List ℕ
pair_open = 0x7B ∷ 0x22 ∷ 0x61 ∷ 0x22 ∷ 0x3A ∷ []

abbrev pub pair_between : List ℕ
pair_between = 0x2C ∷ 0x22 ∷ 0x62 ∷ 0x22 ∷ 0x3A ∷ []

module _ {v : List ℕ} {at : ℕ} where
  first_held : {a c : Value} {more : List ℕ} → HeldTwo v at a c more → Held v at a (encode c ++ more)
  first_held h = record { bytes = h.bytes }

  second_held : {a c : Value} {more : List ℕ} {i : ℕ} → HeldTwo v at a c more → i ≡ at + size a → Held v i c more
  second_held {a} {c} {more} h e = record { bytes = ap (λ (k : ℕ). drop k v) e ∙ behind (first_held h) }

  pub first_holds : HoldsTwo v at → Holds v at
  first_holds q = record { x = q.a; more = encode q.b ++ q.more; held = first_held q.held }

  module _ {levels put : ℕ} {b b₁ b₂ : List ℕ} {p : ℕ} {r : Answer} (w : Wrote pair_open put b b₁ p) (f : Writes v at levels p b₁ b₂ r) where
    pub first_deep : {c : Refusal} → r ≡ Err c → WritesTwo v at levels put b b₂ (Err c)
    first_deep {c} e = record { puts = λ a d more h. go a d (rw e at (f.puts a (encode d ++ more) (first_held h))) }
      where
        go : (a d : Value) → Puts (json_of a) (depth a) levels (at + size a) p b₁ b₂ (Err c)
            → Puts (json_of (pair a d)) (max (depth a) (depth d)) levels (at + (size a + size d)) put b b₂ (Err c)
        go a d (p_deep e h y) = p_deep e (omega arith) (y ∙ wrote_long w)

    module _ {i q : ℕ} (e : r ≡ done i q) where
      first_end : {a c : Value} {more : List ℕ} → HeldTwo v at a c more → i ≡ at + size a
      first_end {a} {c} {more} h = puts_end (f.puts a (encode c ++ more) (first_held h)) e

      pub second_holds : HoldsTwo v at → (at < i) × Holds v i
      second_holds k = (
        omega (arith, first_end k.held, size_pos k.a),
        record { x = k.b; more = k.more; held = second_held k.held (first_end k.held) },
      )

      module _ {b₃ b₄ : List ℕ} {t : ℕ} {u : Answer} (y : Wrote pair_between q b₂ b₃ t) (g : Writes v i levels t b₃ b₄ u) where
        pub second_deep : {c : Refusal} → u ≡ Err c → WritesTwo v at levels put b b₄ (Err c)
        second_deep {c} z = record {
          puts = λ a d more h. go a d (puts_long (f.puts a (encode d ++ more) (first_held h))) (rw z at (g.puts d more (second_held h (first_end h))));
        }
          where
            go : (a d : Value) → length b₂ ≡ length b₁ → Puts (json_of d) (depth d) levels (i + size d) t b₃ b₄ (Err c)
                → Puts (json_of (pair a d)) (max (depth a) (depth d)) levels (at + (size a + size d)) put b b₄ (Err c)
            go a d k (p_deep e h l) = p_deep e (omega arith) (l ∙ wrote_long y ∙ k ∙ wrote_long w)

        pub pair_done : {j n : ℕ} → u ≡ done j n → {b₅ : List ℕ} {m : ℕ} → Wrote (0x7D ∷ []) n b₄ b₅ m → WritesTwo v at levels put b b₅ (done j m)
        unfolding json_of
        pair_done {j} {n} z {b₅} {m} x = record {
          puts = λ a d more h. go a d (rw e at (f.puts a (encode d ++ more) (first_held h))) (rw z at (g.puts d more (second_held h (first_end h))));
        }
          where
            go : (a d : Value) → Puts (json_of a) (depth a) levels (at + size a) p b₁ b₂ (done i q)
                → Puts (json_of d) (depth d) levels (i + size d) t b₃ b₄ (done j n)
                → Puts (json_of (pair a d)) (max (depth a) (depth d)) levels (at + (size a + size d)) put b b₅ (done j m)
            go a d (p_done k l s) (p_done k' l' s') = p_done {n = j} (omega arith) (omega arith) (wrote_then w (wrote_then s (wrote_then y (wrote_then s' x))))

-- the buffer keeps its length
pub writes_long : {v : List ℕ} {at levels put : ℕ} {b b' : List ℕ} {r : Answer} → Holds v at → Writes v at levels put b b' r → length b' ≡ length b
writes_long q w = puts_long (w.puts q.x q.more q.held)

pub writes_list_long : {v : List ℕ} {at levels put : ℕ} {b b' : List ℕ} {r : Answer} → HoldsList v at → WritesList v at levels put b b' r → length b' ≡ length b
writes_list_long q w = puts_long (w.puts q.l q.more q.held)

pub writes_two_long : {v : List ℕ} {at levels put : ℕ} {b b' : List ℕ} {r : Answer} → HoldsTwo v at → WritesTwo v at levels put b b' r → length b' ≡ length b
writes_two_long q w = puts_long (w.puts q.a q.b q.more q.held)
