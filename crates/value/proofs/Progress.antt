-- How a plan is read, value by value: what holds before each, and the ways to answer.
use Rattle.std.specs.Prelude.{◌≡◌, refl, Option, Some, None, Ok, Err, set, replicate}
use Rattle.std.proofs.Math.Path.{sym, ap, ap₂}
use Rattle.std.proofs.Common.{◌∙◌, add-zero, le-leb, drop-drop, drop_at}
use mathlib.Core.List.{List, [], ◌∷◌, ◌++◌, map, append-nil}
use Prim.Native.Nat.{ℕ, suc, ◌+◌, ◌-◌, ◌*◌, ◌≤◌, ◌<◌}
use native.Mathlib.Omega.{arith}
use Rattle.std.proofs.lemmas.Bool.{lt-leb}
use Rattle.std.proofs.Math.ListN.{length, drop, length-append, length-drop, length-map, drop_of_length-le}
use Rattle.std.proofs.Math.Seq.{drop-cons, set-append_seam, append_snoc}
use Rattle.value.specs.Result.{Result, ok, refusal, map_result}
use Rattle.value.specs.Value.{Value, encode, size, flat}
use Rattle.value.proofs.Encoding.{size-encode, flat_append}
use Rattle.value.specs.Reading.{Found, whole, malformed, too_long, value, nothing, a_value, read_value, on_value, read_values, read_plan}
use Rattle.value.specs.Laws.{Readable}
use Rattle.value.proofs.Laws.{read_sound}
use Rattle.value.specs.Reader.{Read, outcome, from}
use Rattle.value.proofs.Reader.{from-drop}
use Rattle.value.specs.Spans.{next_of, places, starts, spans, within16, plan_of, spans_of, view_of}
use Rattle.value.specs.declared.Fault.TheVariants.{Malformed, TooLong}
use Rattle.value.specs.declared.Spans.{Spans}

-- no next value, and its refusal's number in a row of three: malformed, too long, missing
pub data Lacks : Option Read → ℕ → Type 0 where
  as_malformed : Lacks (Some (Err Malformed)) 0
  as_too_long : Lacks (Some (Err TooLong)) 1
  as_missing : Lacks None 2

-- what the next value says of the reading of several, whose refusals start at `base`
pub data NextIs (base : ℕ) (bs : List ℕ) : Option Read → Type 0 where
  n_lacks : {r : Option Read} {c : ℕ} → Lacks r c → ((m : ℕ) → read_values base (suc m) bs ≡ refusal (base + c)) → NextIs base bs r
  n_value : {n : ℕ} (v : Value) (more : List ℕ) → size v ≡ n → bs ≡ encode v ++ more → Readable v →
      ((m : ℕ) → read_values base (suc m) bs ≡ map_result (λ vs. v ∷ vs) (read_values base m more)) → NextIs base bs (Some (Ok n))

pub next_is : (base : ℕ) (bs : List ℕ) {r : Option Read} → r ≡ next_of bs → NextIs base bs r
unfolding next_of outcome read_values on_value
next_is base bs e = rw e (all bs)
  where
    one : (b : ℕ) (bs : List ℕ) (x : Found (value ∷ [])) → read_value (b ∷ bs) ≡ x → NextIs base (b ∷ bs) (Some (outcome x))
    one b bs (whole (a_value v nothing) more) e = let s = read_sound (b ∷ bs) e in n_value v more refl s.0 s.1 (λ m. rw e)
    one b bs malformed e = n_lacks as_malformed (λ m. rw (e, add-zero))
    one b bs too_long e = n_lacks as_too_long (λ m. rw e)

    all : (bs : List ℕ) → NextIs base bs (next_of bs)
    all [] = n_lacks as_missing (λ m. refl)
    all (b ∷ bs) = one b bs (read_value (b ∷ bs)) refl

lacks : {base : ℕ} {s : List ℕ} {r : Option Read} {c : ℕ} → Lacks r c → NextIs base s r → (m : ℕ) → read_values base (suc m) s ≡ refusal (base + c)
lacks as_malformed (n_lacks as_malformed e) = e
lacks as_too_long (n_lacks as_too_long e) = e
lacks as_missing (n_lacks as_missing e) = e

-- a view is one value
pub view_refused : {s : List ℕ} {r : Option Read} {c : ℕ} → Lacks r c → NextIs 30 s r → refusal (30 + c) ≡ view_of s
unfolding view_of map_result
view_refused k w = rw (lacks k w 0)

pub next_short : {base : ℕ} {s : List ℕ} {n : ℕ} → NextIs base s (Some (Ok n)) → (n ≤ length s) × (n ≤ 256)
next_short (n_value v more l e h f) = (omega (arith, ap length e, length-append (encode v) more, size-encode v), omega (arith, h.fits))
next_short {base = base} {s = s} {n = n} (n_lacks {c = c} x3 _) = elim x3 [ ]

pub view_more : {s : List ℕ} {n : ℕ} → NextIs 30 s (Some (Ok n)) → n < length s → refusal 32 ≡ view_of s
unfolding view_of read_values map_result
view_more {s} (n_value v more l e h f) lt = rw (f 0) (go more (omega (arith, ap length e, length-append (encode v) more, size-encode v)))
  where
    go : (more : List ℕ) → 0 < length more → refusal 32 ≡ map_result (λ (vs : List Value). tt {0}) (map_result (λ vs. v ∷ vs) (read_values 30 0 more))
    go [] lt = absurd (omega arith)
    go (b ∷ bs) lt = refl
view_more {s = s} {n = n} (n_lacks {c = c} x5 _) lt = elim x5 [ ]

pub view_read : {s : List ℕ} {n : ℕ} → NextIs 30 s (Some (Ok n)) → length s ≤ n → ok tt ≡ view_of s
unfolding view_of read_values map_result
view_read {s} (n_value v more l e h f) le = rw (f 0) (go more (omega (arith, ap length e, length-append (encode v) more, size-encode v)))
  where
    go : (more : List ℕ) → length more ≡ 0 → ok tt ≡ map_result (λ (vs : List Value). tt {0}) (map_result (λ vs. v ∷ vs) (read_values 30 0 more))
    go [] z = refl
    go (b ∷ bs) z = absurd (omega arith)
view_read {s = s} {n = n} (n_lacks {c = c} x5 _) le = elim x5 [ ]

-- the places of one value more
places_more : (l : List ℕ) (x : ℕ) → length l < 16 → set (places l) (length l) x ≡ places (l ++ (x ∷ []))
unfolding places
places_more l x h =
    let a : 16 - length l ≡ suc (15 - length l) = omega arith in
    let b : length (l ++ (x ∷ [])) ≡ length l + 1 = length-append l (x ∷ []) in
    let d : 16 - length (l ++ (x ∷ [])) ≡ 15 - length l = omega arith in
    rw (a, d) (set-append_seam l 0 (replicate (15 - length l) 0) x ∙ sym (append_snoc l x (replicate (15 - length l) 0)))

filled : (l : List ℕ) (x : ℕ) {y : List ℕ} {i : ℕ} → y ≡ places l → length l ≡ i → i < 16 → set y i x ≡ places (l ++ (x ∷ []))
filled l x e a h = ap₂ (λ (y : List ℕ) (i : ℕ). set y i x) e (sym a) ∙ places_more l x (omega arith)

pub starts-length : (at : ℕ) (vs : List Value) → length (starts at vs) ≡ length vs
unfolding starts
starts-length at [] = refl
starts-length at (v ∷ vs) = ap suc (starts-length (at + size v) vs)

starts_more : (at : ℕ) (vs : List Value) (v : Value) → starts at (vs ++ (v ∷ [])) ≡ starts at vs ++ ((at + length (flat vs)) ∷ [])
unfolding starts flat
starts_more at [] v = rw add-zero
starts_more at (w ∷ vs) v =
    let e : at + size w + length (flat vs) ≡ at + length (encode w ++ flat vs) = rw (length-append, size-encode) (omega arith) in
    ap (λ (l : List ℕ). at ∷ l) (starts_more (at + size w) vs v ∙ rw e)

-- the places of the starts of one value more, which starts where the others end
pub starts_filled : (vs : List Value) (v : Value) {ss : List ℕ} {at i : ℕ} → ss ≡ places (starts 0 vs) → length vs ≡ i → i < 16 → at ≡ length (flat vs)
    → set ss i at ≡ places (starts 0 (vs ++ (v ∷ [])))
starts_filled vs v {at = at} e c h z =
    let y : at ≡ 0 + length (flat vs) = omega (arith, z) in
    filled (starts 0 vs) at e (starts-length 0 vs ∙ c) h ∙ ap places (ap (λ (x : ℕ). starts 0 vs ++ (x ∷ [])) y ∙ sym (starts_more 0 vs v))

sizes_more : (vs : List Value) (v : Value) → map size (vs ++ (v ∷ [])) ≡ map size vs ++ (size v ∷ [])
sizes_more [] v = refl
sizes_more (w ∷ vs) v = ap (λ (l : List ℕ). size w ∷ l) (sizes_more vs v)

-- the values read so far, whose bytes end at `at`, and how the reading goes on there
pub record Progress (k : ℕ) (s ss ls : List ℕ) (at i : ℕ) : Type 0 where
  pub vs : List Value
  pub count : length vs ≡ i
  pub ends : length (flat vs) ≡ at
  pub goes : read_plan k s ≡ map_result (λ ws. vs ++ ws) (read_values 20 (k - i) (drop at s))
  pub ss_are : ss ≡ places (starts 0 vs)
  pub ls_are : ls ≡ places (map size vs)
  pub inside : at ≤ length s
  pub small : at ≤ 256 * i
  pub few : i ≤ k

map_id : (r : Result (List Value)) → r ≡ map_result (λ ws. [] ++ ws) r
unfolding map_result
map_id (ok vs) = refl
map_id (refusal c) = refl

map_map : (vs : List Value) (v : Value) (r : Result (List Value))
    → map_result (λ ws. vs ++ ws) (map_result (λ ws. v ∷ ws) r) ≡ map_result (λ ws. (vs ++ (v ∷ [])) ++ ws) r
unfolding map_result
map_map vs v (ok ws) = ap ok (sym (append_snoc vs v ws))
map_map vs v (refusal c) = refl

pub at_start : (k : ℕ) (s : List ℕ) → Progress k s (replicate 16 0) (replicate 16 0) 0 0
unfolding flat places starts
at_start k s =
    let e : k - 0 ≡ k = omega arith in
    record {
      vs = [];
      count = refl;
      ends = refl;
      goes = rw e (map_id (read_plan k s));
      ss_are = refl;
      ls_are = refl;
      inside = omega arith;
      small = omega arith;
      few = omega arith;
    }

pub too_many : (k : ℕ) (s : List ℕ) → 16 < k → refusal 13 ≡ spans_of k s
unfolding spans_of plan_of within16 map_result
too_many k s h = rw (lt-leb k 16 h)

module _ {k : ℕ} {s ss ls : List ℕ} {at i : ℕ} (p : Progress k s ss ls at i) (b : k ≤ 16) where
  answer : {r : Result (List Value)} → read_plan k s ≡ r → map_result spans r ≡ spans_of k s
  unfolding spans_of plan_of within16
  answer e = rw (le-leb k 16 b, e)

  pub stops : {r : Option Read} {c : ℕ} → i < k → Lacks r c → NextIs 20 (from at s) r → refusal (20 + c) ≡ spans_of k s
  unfolding map_result
  stops lt l w =
      let m : k - i ≡ suc (k - (i + 1)) = omega arith in
      answer {r = refusal _} (p.goes ∙ rw (m, ← from-drop at s, lacks l w (k - (i + 1))))

  pub goes_on : {n : ℕ} → i < k → NextIs 20 (from at s) (Some (Ok n)) → Progress k s (set ss i at) (set ls i n) (at + n) (i + 1)
  unfolding flat
  goes_on {n} lt (n_value v more l e h f) =
      let vs = p.vs in
      let m : k - i ≡ suc (k - (i + 1)) = omega arith in
      let d : drop at s ≡ encode v ++ more = sym (from-drop at s) ∙ e in
      let g : drop (at + n) s ≡ more = sym (drop-drop n at s) ∙ rw d (drop_at (encode v) more n (size-encode v ∙ l)) in
      let q : length (drop at s) ≡ size v + length more = rw d (length-append (encode v) more ∙ rw size-encode) in
      let t : length (encode v ++ []) ≡ n = ap length (append-nil (encode v)) ∙ size-encode v ∙ l in
      let c : length (map size vs) ≡ i = length-map vs size ∙ p.count in
      record {
        vs = vs ++ (v ∷ []);
        count = length-append vs (v ∷ []) ∙ ap (λ (j : ℕ). j + 1) p.count;
        ends = ap length (flat_append vs (v ∷ [])) ∙ length-append (flat vs) (encode v ++ []) ∙ ap₂ ◌+◌ p.ends t;
        goes = p.goes ∙ rw (m, ← from-drop at s, f (k - (i + 1)), g) (map_map vs v (read_values 20 (k - (i + 1)) more));
        ss_are = starts_filled vs v p.ss_are p.count (omega arith) (sym p.ends);
        ls_are = filled (map size vs) n p.ls_are c (omega arith) ∙ ap places (ap (λ (x : ℕ). map size vs ++ (x ∷ [])) (sym l) ∙ sym (sizes_more vs v));
        inside = omega (arith, q, length-drop at s, p.inside);
        small = omega (arith, p.small, h.fits);
        few = omega arith;
      }
  goes_on {n = n} lt (n_lacks {c = c} x3 _) = elim x3 [ ]

  -- all k values are read, and the bytes end there or do not
  pub ends_well : i ≡ k → at ≡ length s → ok (record { starts = ss; lens = ls }) ≡ spans_of k s
  unfolding read_values map_result spans
  ends_well e f =
      let z : k - i ≡ 0 = omega arith in
      let a : drop at s ≡ [] = drop_of_length-le s {i = at} (omega arith) in
      let r : read_plan k s ≡ ok p.vs = p.goes ∙ rw (z, a) (ap ok (append-nil p.vs)) in
      ap₂ (λ (x y : List ℕ). let s : Spans = record { starts = x; lens = y } in ok s) p.ss_are p.ls_are ∙ answer {r = ok p.vs} r

  pub more_bytes : i ≡ k → at < length s → refusal 22 ≡ spans_of k s
  unfolding read_values map_result
  more_bytes e lt =
      let z : k - i ≡ 0 = omega arith in
      answer {r = refusal 22} (p.goes ∙ rw (z, drop-cons s at 0 lt))

-- next_value
pub next_none : (s : List ℕ) → length s ≡ 0 → None ≡ next_of s
unfolding next_of
next_none [] e = refl
next_none (b ∷ bs) e = absurd (omega arith)

pub next_some : (s : List ℕ) → (length s ≡ 0 → ⊥) → {r : Read} → r ≡ outcome (read_value s) → Some r ≡ next_of s
unfolding next_of
next_some [] h e = absurd (h refl)
next_some (b ∷ bs) h e = ap Some e
