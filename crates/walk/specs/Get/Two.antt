-- Front and pair: what get shows at each return, and what its calls ask.
use Rattle.std.specs.Prelude.{◌≡◌, true, false, List, [], ◌∷◌, ◌++◌, length}
use Rattle.std.proofs.Math.Path.{refl, sym, ap}
use Rattle.std.proofs.Common.{◌∙◌}
use Prim.Native.Nat.{ℕ, suc, ◌+◌, ◌-◌, ◌*◌, ◌≤◌, ◌<◌}
use Rattle.std.proofs.Math.Nat.{le_refl}
use Rattle.std.proofs.Math.Decide.{dec_lt}
use native.Mathlib.Omega.{arith}
use Rattle.std.proofs.Math.ListN.{get_or}
use Rattle.outcome.specs.Outcome.{is_refusal, done_as, len_of, start_of, steps_of}
use Rattle.value.specs.Result.{ok}
use Rattle.value.specs.Value.{Value, encode}
use Rattle.sheet.specs.Sheet.{Sheet, read_sheet}
use Rattle.rules.specs.Semantics
use Rattle.rules.specs.Semantics.{Env}
use Rattle.rules.specs.Explain.{Cause, bounded, get, given, got, met, within}
use Rattle.rules.specs.Numbers.{scratch_size, chain_start}
use Rattle.decisions.specs.Decisions.{unfit_rest, made_of}
use Rattle.decisions.specs.DecisionLaws.{made_front, made_pair}
use Rattle.walk.specs.Decoded.{Done, Own, Refused, Decoded, after, done_said, refused_decoded, decoded, decoded_done, decoded_refused}
use Rattle.walk.specs.Arena.Parts.{part, SameBelow, part_kept, kept_then, part_join, Marked, marked_kept, marked_part}
use Rattle.walk.specs.Arena.{on_stack, Scoped, env_later}
use Rattle.walk.specs.Arena.Bytes.{held_head}
use Rattle.walk.specs.Arena.Compound.{Made, a_list, a_pair, maker, Whole, whole, no_whole, given-list, given_pair}
use Rattle.walk.specs.Represents.{Represents, answer_by, finish, then_done, then_refused, give_some, give_none, give_yes, give_no, had, not_had}
use Rattle.walk.specs.Get.{own, run, Known, GotAt, Here, further, Asked, Asks, Tells}
use Rattle.walk.specs.Get.Requires.{ready_later}
use Rattle.walk.specs.Get.Top.{AtTop}

pub data Two (k : ℕ) : Type 0 where
  a_front : k ≡ 0x15 → Two k
  a_two : k ≡ 0x16 → Two k

pub two_kind : {k : ℕ} → 0x15 ≤ k → k < 0x17 → Two k
two_kind {k} lo hi = go (dec_lt k 0x16)
  where
    go : Dec (k < 0x16) → Two k
    go (yes h) = a_front (omega arith)
    go (no h) = a_two (omega arith)

pub two_made : {k : ℕ} → Two k → Made (made_of k)
two_made (a_front e) = a_list (sym (made_front e))
two_made (a_two e) = a_pair (sym (made_pair (λ y. omega (arith, e, y)) (λ y. omega (arith, e, y))))

-- the rule, once both nodes are got
module _ {P : (start len : ℕ) → Value → Type 0} {r : Decoded} {left k : ℕ} (two : Two k) (n l : ℕ) (s : List ℕ) (sh : Sheet) (μ : Env) where
  two_done : {u v : Value} {i j : ℕ} {q : Decoded} → within left (get l sh (get_or s (n + 1) 0) μ) ≡ got u i
      → within (left - i) (get l sh (get_or s (n + 2) 0) μ) ≡ got v j
      → Represents P q (left - i - j) (given 43 (maker (made_of k) u v) bounded) → r ≡ after i (after j q) → Represents P r left (run l sh (own k s n) μ)
  unfolding run Semantics.get_node
  two_done {u} {v} e f t d = go two
    where
      go : Two k → Represents P r left (run l sh (own k s n) μ)
      go (a_front x) = rw x (then_done _ _ e (then_done _ _ f (answer_by (rw (← made_front x) at t) (given-list u v bounded)) refl) d)
      go (a_two x) = rw x (then_done _ _ e
          (then_done _ _ f (answer_by (rw (← made_pair {kind = k} (λ y. omega (arith, x, y)) (λ y. omega (arith, x, y))) at t) (given_pair u v bounded)) refl)
          d)

  two_none₁ : {c : Cause} {i : ℕ} → within left (get l sh (get_or s (n + 1) 0) μ) ≡ met c i → r ≡ Refused c → Represents P r left (run l sh (own k s n) μ)
  unfolding run Semantics.get_node
  two_none₁ e d = go two
    where
      go : Two k → Represents P r left (run l sh (own k s n) μ)
      go (a_front x) = rw x (then_refused _ _ e d)
      go (a_two x) = rw x (then_refused _ _ e d)

  two_none₂ : {u : Value} {c : Cause} {i j : ℕ} → within left (get l sh (get_or s (n + 1) 0) μ) ≡ got u i
      → within (left - i) (get l sh (get_or s (n + 2) 0) μ) ≡ met c j → r ≡ Refused c
      → Represents P r left (run l sh (own k s n) μ)
  unfolding run Semantics.get_node after
  two_none₂ {c = c} e f d = go two
    where
      go : Two k → Represents P r left (run l sh (own k s n) μ)
      go (a_front x) = rw x (then_done _ _ {q = Refused c} e (then_refused _ _ f refl) d)
      go (a_two x) = rw x (then_done _ _ {q = Refused c} e (then_refused _ _ f refl) d)

-- WHAT `joined` ASKS AND GIVES

pub record Joinable (a : List ℕ) (top first : ℕ) : Type 0 where
  pub inside : top + 1 + len_of first < length a
  pub few : top < scratch_size

pub data Joined (a : List ℕ) (kind top first second r : ℕ) : Type 0 where
  passed_on : is_refusal second ≡ true → r ≡ second → Joined a kind top first second r
  unfit : is_refusal second ≡ false → unfit_rest kind (get_or a (top + 1 + len_of first) 0) ≡ true → r ≡ 43 → Joined a kind top first second r
  long : is_refusal second ≡ false → unfit_rest kind (get_or a (top + 1 + len_of first) 0) ≡ false → 256 < 1 + len_of first + len_of second → r ≡ 44
      → Joined a kind top first second r
  fits : is_refusal second ≡ false → unfit_rest kind (get_or a (top + 1 + len_of first) 0) ≡ false → 1 + len_of first + len_of second ≤ 256
      → r ≡ done_as top (1 + len_of first + len_of second) (steps_of first + steps_of second) → Joined a kind top first second r

-- two values that stand one after the other behind a kind byte
together : (a : List ℕ) (k top f r : ℕ) (u v : List ℕ) → part a top 1 ≡ k ∷ [] → part a (top + 1) f ≡ u → part a (top + 1 + f) r ≡ v
    → part a top (1 + f + r) ≡ k ∷ (u ++ v)
together a k top f r u v e p q =
    let z : top + (1 + f) ≡ top + 1 + f = omega arith in
    part_join a top (1 + f) r ∙ rw (part_join a top 1 f, z, e, p, q)

-- the nodes of both parts are in range
pub two_known : (s : List ℕ) (sh : Sheet) (n : ℕ) {k : ℕ} → Two k → Known sh (own k s n)
    → (get_or s (n + 1) 0 < length sh.nodes) × (get_or s (n + 2) 0 < length sh.nodes)
two_known s sh n (a_front e) r = let c = rw e at r.1 in (c.0.inside, c.1.0.inside)
two_known s sh n (a_two e) r = let c = rw e at r.1 in (c.0.inside, c.1.0.inside)

-- AT A STAGE: the kind byte is written at the top
pub record TwoAsked (h : Here) (k n : ℕ) (m : List ℕ) : Type 0 where
  pub asked : Asked h k n
  pub two : Two k
  pub marked : Marked (made_of k) h.top h.arena m

module _ {h : Here} {k n : ℕ} {m : List ℕ} (w : TwoAsked h k n m) where
  -- where the first node is got, and where the second
  abbrev pub one_here : Here
  one_here = further h m (h.top + 1) h.left

  abbrev pub two_here : List ℕ → ℕ → Here
  two_here a f = further h a (h.top + 1 + len_of f) (h.left - steps_of f)

  pub one_asks : Asks one_here (get_or h.sheet (n + 1) 0)
  one_asks =
      let z : h.top + 513 * suc h.levels ≤ chain_start = w.asked.room in
      ready_later w.asked (marked_kept w.marked) (h.top + 1) h.levels h.left (omega arith) (omega (arith, w.asked.few)) (omega arith)
      (omega arith) (two_known h.sheet w.asked.sheet.sh n w.two w.asked.known).0

  env₁ : {μ : Env} → Scoped h.arena h.scope h.top μ → Scoped m h.scope (h.top + 1) μ
  env₁ e = env_later (marked_kept w.marked) w.asked.base (h.top + 1) (omega arith) e

  module _ {a₁ : List ℕ} {f : ℕ} (t₁ : AtTop one_here a₁ f (get_or h.sheet (n + 1) 0)) where
    kept₁ : SameBelow h.top h.arena a₁
    kept₁ = kept_then (marked_kept w.marked) t₁.gives.kept (omega arith)

    pub one_refused : is_refusal f ≡ true → Tells h a₁ f k n
    unfolding run
    one_refused e = record {
      kept = kept₁;
      told = λ sh es μ m. let x = decoded_refused _ _ f e in two_none₁ w.two n h.levels h.sheet sh μ (not_had (t₁.gives.told sh es μ (env₁ m))
          x).1 x;
    }

    module _ (e₁ : is_refusal f ≡ false) where
      pub two_asks : Asks (two_here a₁ f) (get_or h.sheet (n + 2) 0)
      two_asks =
          let z : h.top + 513 * suc h.levels ≤ chain_start = w.asked.room in
          let s = t₁.sized.at e₁ in
          ready_later w.asked kept₁ (h.top + 1 + len_of f) h.levels (h.left - steps_of f) (omega arith) (omega (arith, w.asked.few)) (omega arith)
          (omega arith) (two_known h.sheet w.asked.sheet.sh n w.two w.asked.known).1

      -- what `joined` asks
      pub joinable : {a₂ : List ℕ} {g : ℕ} → AtTop (two_here a₁ f) a₂ g (get_or h.sheet (n + 2) 0) → is_refusal g ≡ false → Joinable a₂ h.top f
      joinable t₂ e₂ =
          let z : h.top + 513 * suc h.levels ≤ chain_start = w.asked.room in
          let s = t₁.sized.at e₁ in
          let x = t₂.gives.kept.long in
          let y = kept₁.long in
          record { inside = omega (arith, w.asked.long); few = omega arith }

      env₂ : {μ : Env} → Scoped h.arena h.scope h.top μ → Scoped a₁ h.scope (h.top + 1 + len_of f) μ
      env₂ e = env_later kept₁ w.asked.base (h.top + 1 + len_of f) (omega arith) e

      module _ {a₂ : List ℕ} {g : ℕ} (t₂ : AtTop (two_here a₁ f) a₂ g (get_or h.sheet (n + 2) 0)) where
        kept₂ : SameBelow h.top h.arena a₂
        kept₂ = kept_then kept₁ t₂.gives.kept (omega arith)

        -- both are got: the first stands behind the kind byte, the second behind it
        record Both (sh : Sheet) (μ : Env) : Type 0 where
          u : Value
          v : Value
          first : within h.left (get h.levels sh (get_or h.sheet (n + 1) 0) μ) ≡ got u (steps_of f)
          second : within (h.left - steps_of f) (get h.levels sh (get_or h.sheet (n + 2) 0) μ) ≡ got v (steps_of g)
          one : GotAt a₁ (h.top + 1) (start_of f) (len_of f) u
          two : GotAt a₂ (h.top + 1 + len_of f) (start_of g) (len_of g) v
          bytes : part a₂ h.top (1 + len_of f + len_of g) ≡ made_of k ∷ (encode u ++ encode v)
          head : get_or a₂ (h.top + 1 + len_of f) 0 ≡ get_or (encode v) 0 0

        both : is_refusal g ≡ false → (sh : Sheet) → read_sheet h.sheet ≡ ok sh → (μ : Env) → Scoped h.arena h.scope h.top μ → Both sh μ
        unfolding run
        both e₂ sh es μ m =
            let d = had (t₁.gives.told sh es μ (env₁ m)) (decoded_done _ _ f e₁) in
            let d' = had (t₂.gives.told sh es μ (env₂ m)) (decoded_done _ _ g e₂) in
            let p = t₁.there e₁ in
            let q = t₂.there e₂ in
            let x : part a₁ (h.top + 1) (len_of f) ≡ encode d.value = ap (λ (i : ℕ). part a₁ i (len_of f)) (sym p) ∙ d.that.held.bytes in
            let y : part a₂ (h.top + 1 + len_of f) (len_of g) ≡ encode d'.value = ap (λ (i : ℕ). part a₂ i (len_of g)) (sym q) ∙ d'.that.held.bytes in
            record {
              u = d.value;
              v = d'.value;
              first = d.is;
              second = d'.is;
              one = d.that;
              two = d'.that;
              bytes = together a₂ (made_of k) h.top (len_of f) (len_of g) _ _
                  (part_kept (kept_then t₁.gives.kept t₂.gives.kept (omega arith)) h.top 1 (omega arith) ∙ marked_part w.marked)
                  (part_kept t₂.gives.kept (h.top + 1) (len_of f) (le_refl _) ∙ x) y;
              head = ap (λ (i : ℕ). get_or a₂ i 0) (sym q) ∙ held_head d'.that.held;
            }

        made : Made (made_of k)
        made = two_made w.two

        whole_of : {sh : Sheet} {μ : Env} (d : Both sh μ) → unfit_rest (made_of k) (get_or a₂ (h.top + 1 + len_of f) 0) ≡ false → Whole (made_of k) d.u d.v
        whole_of d fit = whole _ _ made (ap (unfit_rest (made_of k)) (sym d.head) ∙ fit) d.one.held.readable.encodable
            d.two.held.readable.encodable

        -- what is told
        pub two_told : {r : ℕ} → Joined a₂ (made_of k) h.top f g r → Tells h a₂ r k n
        unfolding run Semantics.bounded after
        two_told (passed_on e₂ is) = rw is (record {
          kept = kept₂;
          told = λ sh es μ m.
              let x = decoded_refused _ _ g e₂ in
              two_none₂ w.two n h.levels h.sheet sh μ (had (t₁.gives.told sh es μ (env₁ m)) (decoded_done _ _ f e₁)).is
              (not_had (t₂.gives.told sh es μ (env₂ m)) x).1 x;
        })
        two_told {r} (unfit e₂ bad is) = record {
          kept = kept₂;
          told = λ sh es μ m.
              let d = both e₂ sh es μ m in
              let x : decoded a₂ h.levels r ≡ Own 43 = ap (decoded _ _) is ∙ refused_decoded _ _ (omega arith) (omega arith) in
              two_done w.two n h.levels h.sheet sh μ {q = Own 43} d.first d.second
              (give_none _ _ (no_whole _ _ made (ap (unfit_rest (made_of k)) (sym d.head) ∙ bad)) refl) x;
        }
        two_told {r} (long e₂ fit lt is) = record {
          kept = kept₂;
          told = λ sh es μ m.
              let d = both e₂ sh es μ m in
              let b = whole_of d fit in
              let x : decoded a₂ h.levels r ≡ Own 44 = ap (decoded _ _) is ∙ refused_decoded _ _ (omega arith) (omega arith) in
              two_done w.two n h.levels h.sheet sh μ {q = Own 44} d.first d.second
              (give_some _ _ b.is (give_no _ _ _ (λ le. omega (arith, b.long, d.one.held.long, d.two.held.long)) refl)) x;
        }
        two_told {r} (fits e₂ fit le is) = record {
          kept = kept₂;
          told = λ sh es μ m.
              let d = both e₂ sh es μ m in
              let b = whole_of d fit in
              let z : steps_of f + steps_of g ≡ steps_of f + (steps_of g + 0) = omega arith in
              let room : h.top + 513 * suc h.levels ≤ chain_start = w.asked.room in
              let s₁ = t₁.sized.at e₁ in
              let s₂ = t₂.sized.at e₂ in
              let x : decoded a₂ h.levels r ≡ Done h.top (1 + len_of f + len_of g) (steps_of f + steps_of g)
              = ap (decoded _ _) is ∙ done_said _ _ _ _ _ (omega arith) (omega arith) (omega (arith, w.asked.few)) in
              two_done w.two n h.levels h.sheet sh μ {q = Done h.top (1 + len_of f + len_of g) 0} d.first d.second
              (give_some _ _ b.is (give_yes _ _ _ (omega (arith, b.long, d.one.held.long, d.two.held.long)) (λ small. finish refl (record {
                low = le_refl _;
                held = record {
                  place = on_stack w.asked.base (omega arith);
                  long = omega (arith, b.long, d.one.held.long, d.two.held.long);
                  bytes = d.bytes ∙ sym b.bytes;
                  readable = record { fits = small; encodable = b.encodable };
                };
              })))) (x ∙ ap (Done h.top (1 + len_of f + len_of g)) z);
        }

pub joined_as : {a : List ℕ} {kind kind' top first second r : ℕ} → kind ≡ kind' → Joined a kind top first second r → Joined a kind' top first second r
joined_as e j = rw e at j
