-- Put and the published relation: sound, complete up to our limits, exact in its steps, and one set of writes.
use Rattle.std.specs.Prelude.{◌≡◌, Bool, not, ℕ, zero, suc, ◌+◌, ◌-◌, ◌≤◌, length, get_or, take}
use Rattle.std.proofs.Math.Path.{refl, subst}
use Rattle.std.proofs.Common.{sym, arith}
use Rattle.std.proofs.Math.Bool.{true, false}
use Rattle.std.proofs.Math.Option.{Option, none, some, some-injective, map-eq-some_iff}
use mathlib.Core.List.{List, [], ◌∷◌, ◌++◌, append-nil}
use Rattle.std.proofs.Math.ListN.{get_elem?}
use Rattle.value.specs.Value.{Value, Values, vfalse, vtrue, list, number, wide, pair, nil, cons, size, truth}
use Rattle.value.specs.Views.{as_list, as_front, as_pair, as_truth}
use Rattle.value.proofs.Encoding.{size_pos}
use Rattle.value.specs.Tests.{Passes, passes}
use Rattle.node.specs.declared.Node.{Node}
use Rattle.node.specs.declared.Node.TheVariants.{Var, False, True, Empty, Number, Front, Pair, ListCase, TruthCase, Split, Call, Add, Each, Wide}
use Rattle.sheet.specs.Sheet.{Sheet}
use Rattle.rules.specs.Outcome.{Out, done, ◌>>=◌, choose}
use Rattle.rules.specs.Allowance.{within}
use Rattle.rules.specs.Semantics
use Rattle.rules.specs.Counting.{counting, Env, Cells, Getter, Putter, two, pick, on_list, rest_of, get, or_old, constant, write, both, under, mk_list, mk_pair}
use Rattle.rules.specs.Counting.{stood_for, put_each, put_node, put}
use Rattle.rules.specs.Laws.Outcomes.{After, stopped}
use Rattle.rules.proofs.Laws.Outcomes.{fine, after_map, after_at, as_number_lem, after_plus, after_bind, after_given, after_list}
use Rattle.rules.proofs.Laws.Allowances.{within-done}
use Rattle.rules.specs.Laws.Related.{All2, ends, more}
use Rattle.rules.proofs.Laws.Related.{all2_at, all2_flip, all2_set}
use Rattle.rules.proofs.Laws.Consistency.{Later}
use Rattle.published.specs.Published.{
  Writes,
  Over,
  blank,
  only,
  Merge1,
  neither,
  left,
  right,
  same,
  Merge,
  m_ends,
  m_more,
  ◌◁◌,
  Pattern,
  pattern_false,
  pattern_true,
  pattern_empty,
  pattern_front,
  pattern_pair,
  Match,
  m_false,
  m_true,
  m_empty,
  m_front,
  m_pair,
  Branch,
  plain,
  opened,
  Expr,
  var,
  const,
  front,
  case,
  couple,
  call,
  add,
  members,
  let_in,
  each,
  expr,
  node,
  residual,
  Get,
  StoodFor,
  s_old,
  s_new,
  Put,
  p_var,
  p_const,
  p_cons,
  p_case,
  p_case_switch,
  p_let,
  p_pair,
  p_call,
  p_add,
  p_each,
  p_end,
  p_next,
}
use Rattle.published.proofs.PublishedGet.{GetsSoundly, gets_soundly, GetsAll, gets_all, match_env, match_value, Fair, fair, at_one, list_one, get_one}
use Rattle.published.proofs.PublishedCells.{
  Laid,
  Seen,
  Joined,
  seen_later,
  laid_later,
  joined_one,
  seen_left,
  seen_right,
  merge1_is,
  merge_is,
  joined_merge,
  joined_blank,
  only_seen,
  seen_only,
  joined_new,
  joined_same,
  all2_one,
  all2_two,
  all2_swap,
  laid_at,
  laid_section,
  joined_only,
  section_seen,
  joined_section,
  one_behind,
  two_behind,
  wider_later,
  wider_seen,
  joined_outside,
  cells_inside,
  laid_branch,
  seen_cut,
  seen_over,
  laid_member,
  joined_member,
}
use Rattle.published.specs.PublishedCost.{Cost, free, built, ◌⊕◌, get_cost, defaults_cost, stood_cost, put_below, put_cost}
use Rattle.published.proofs.UpTo.{deep, Costs, UpTo, Comes, Exactly, stops, reach, up_as, up_map, up_enter, up_within, up_costs, up_exactly}
use Rattle.published.proofs.UpTo.{up_bind, comes_bind, up_last, up_given, up_when, up_bytes, up_size, up_first, up_second}

-- SOUND

-- X is W merged with the writes of the published relation
pub record Written (sh : Sheet) (μ : Env) (v : Value) (e : Expr) (σ : List ℕ) (W X : Cells) : Type 0 where
  pub ω : Writes
  pub rel : Put sh μ v e ω
  pub joined : Joined σ W ω X

abbrev pub PutsSoundly : Sheet → Putter → Type 0
PutsSoundly sh p = (n : ℕ) (μ : Env) (σ : List ℕ) (v : Value) (W : Cells) → Laid W σ μ
    → After (Unit {0}) (λ X s. Written sh μ v (residual sh n) σ W X) (p n μ σ v W)

after_choice : {A P Q : Type 0} {S : A → ℕ → Type 0} {x y : Out A} (p : Dec P) (q : Dec Q)
    → (P → After (Unit {0}) S x) → (¬ P → Q → After (Unit {0}) S y) → After (Unit {0}) S (choose p q x y)
unfolding choose
after_choice (yes p) q h k = h p
after_choice (no p) (yes q) h k = k p q
after_choice (no p) (no q) h k = stopped tt

-- v into node a, then u into node b
record Twice (sh : Sheet) (μ : Env) (v : Value) (a : ℕ) (u : Value) (b : ℕ) (σ : List ℕ) (W X : Cells) : Type 0 where
  ω₁ : Writes
  ω₂ : Writes
  ω : Writes
  first : Put sh μ v (residual sh a) ω₁
  over : Over ω₁ μ
  second : Put sh μ u (residual sh b) ω₂
  merged : Merge ω₁ ω₂ ω
  joined : Joined σ W ω X

-- v into a branch that binds μᵢ, then the rebuilt subject: what the rules of case and let have in common
record Back (sh : Sheet) (μ : Env) (v : Value) (p : Pattern) (b : ℕ) (μᵢ : Env) (s : ℕ) (ω' : Writes) : Type 0 where
  ω : Writes
  ωᵢ : Writes
  ω₀ : Writes
  u : Value
  branch : Put sh (μ ++ μᵢ) v (residual sh b) (ω ++ ωᵢ)
  over : Over ω μ
  overᵢ : Over ωᵢ μᵢ
  rebuilt : Match p u (ωᵢ ◁ μᵢ)
  subject : Put sh μ u (residual sh s) ω₀
  merged : Merge ω ω₀ ω'

record Taken (sh : Sheet) (μ : Env) (v : Value) (p : Pattern) (b : ℕ) (μᵢ : Env) (s : ℕ) (σ : List ℕ) (W X : Cells) : Type 0 where
  ω' : Writes
  back : Back sh μ v p b μᵢ s ω'
  joined : Joined σ W ω' X

mk_list_match : (a b u : Value) → mk_list a b ≡ some u → Match pattern_front u (two a b)
unfolding mk_list
mk_list_match a b u e = let (l, el, eu) = (map-eq-some_iff _ (as_list b)).0 e in go l.0 l.1 eu
  where
    go : (l : Values) → b ≡ list l → list (cons a l) ≡ u → Match pattern_front u (two a b)
    go l eb eu = rw (eb, ← eu) m_front

mk_pair_match : (a b u : Value) → mk_pair a b ≡ some u → Match pattern_pair u (two a b)
unfolding mk_pair
mk_pair_match a b u e = rw (← some-injective _ _ e) m_pair

module _ {sh : Sheet} {μ : Env} {v : Value} {σ : List ℕ} {W : Cells} where
  -- a branch that binds nothing
  taken_plain : {X : Cells} {p : Pattern} {b s : ℕ} {u : Value} → Match p u [] → Twice sh μ v b u s σ W X → Taken sh μ v p b [] s σ W X
  unfolding ◌◁◌
  taken_plain m t = record {
    ω' = t.ω;
    back = record {
      ω = t.ω₁;
      ωᵢ = [];
      ω₀ = t.ω₂;
      u = _;
      branch = rw (append-nil, append-nil) t.first;
      over = t.over;
      overᵢ = ends;
      rebuilt = m;
      subject = t.second;
      merged = t.merged;
    };
    joined = t.joined;
  }

  stays : {X : Cells} {s : ℕ} {b₁ b₂ : Branch} {v₀ : Value} {μᵢ : Env} (i : Bool) → Get sh μ (residual sh s) v₀ → Match (pick i b₁ b₂).pattern v₀ μᵢ
      → Passes (pick i b₁ b₂).exit v → Taken sh μ v (pick i b₁ b₂).pattern (pick i b₁ b₂).body μᵢ s σ W X → Written sh μ v (case s b₁ b₂) σ W X
  stays i d m h t =
      let b = t.back in
      record { ω = t.ω'; rel = p_case i d m h b.branch b.over b.overᵢ b.rebuilt b.subject b.merged; joined = t.joined }

  switches : {X : Cells} {s : ℕ} {b₁ b₂ : Branch} {v₀ u₀ : Value} {μᵢ μⱼ : Env} (i : Bool) → Get sh μ (residual sh s) v₀ → Match (pick i b₁ b₂).pattern v₀ μᵢ
      → ¬ Passes (pick i b₁ b₂).exit v → Passes (pick (not i) b₁ b₂).exit v → All2 (λ n w. Get sh (v ∷ []) (residual sh n) w) (pick (not i) b₁ b₂).by μⱼ
      → Match (pick (not i) b₁ b₂).pattern u₀ μⱼ
      → Taken sh μ v (pick (not i) b₁ b₂).pattern (pick (not i) b₁ b₂).body μⱼ s σ W X → Written sh μ v (case s b₁ b₂) σ W X
  switches i d m h k ds m₀ t =
      let b = t.back in
      record { ω = t.ω'; rel = p_case_switch i d m h k ds m₀ b.branch b.over b.overᵢ b.rebuilt b.subject b.merged; joined = t.joined }

  written_front : {X : Cells} {a b : ℕ} (f : Value) (r : Values) → v ≡ list (cons f r) → Twice sh μ f a (list r) b σ W X → Written sh μ v (front a b) σ W X
  written_front f r e t = rw e (record { ω = t.ω; rel = p_cons t.first t.second t.merged; joined = t.joined })

  written_pair : {X : Cells} {a b : ℕ} (x y : Value) → v ≡ pair x y → Twice sh μ x a y b σ W X → Written sh μ v (couple a b) σ W X
  written_pair x y e t = rw e (record { ω = t.ω; rel = p_pair t.first t.second t.merged; joined = t.joined })

  written_add : {X : Cells} {n k : ℕ} (m : ℕ) → v ≡ number m → m ≤ 65535 → k ≤ m → Written sh μ (number (m - k)) (residual sh n) σ W X
      → Written sh μ v (add n k) σ W X
  written_add m e z low t = rw e (record { ω = t.ω; rel = p_add z low t.rel; joined = t.joined })

  -- what is written to a section's two variables
  written_call : {X : Cells} {sec x y : ℕ} {a b : Value} {c d : ℕ} → Laid W σ μ → get_elem? μ x ≡ some a → get_elem? σ x ≡ some c → get_elem? μ y ≡ some b
      → get_elem? σ y ≡ some d
      → Written sh (two a b) v (residual sh (get_or sh.sections sec 0)) (two c d) W X → Written sh μ v (call sec x y) σ W X
  written_call {X} {sec} {x} {y} {a} {b} {c} {d} laid ea ec eb ed t = go t.rel t.joined t.joined.seen
    where
      go : {ω : Writes} → Put sh (two a b) v (residual sh (get_or sh.sections sec 0)) ω → Joined (two c d) W ω X → Seen ω (two c d) X
          → Written sh μ v (call sec x y) σ W X
      go r j (more {a = o} f (more {a = q} h ends)) =
          let (ω', m) = merge_is (only_seen σ μ x c a ea ec laid f) (only_seen σ μ y d b eb ed laid h) in
          record { ω = ω'; rel = p_call ea eb r m; joined = joined_section σ μ x c a ea ec y d b eb ed laid j m }

-- v into a section whose variables stand for a member m and for b: o is what is written to the member's cell
record Member (sh : Sheet) (root : ℕ) (m b v : Value) (c : ℕ) (W : Cells) (o : Option Value) (X : Cells) : Type 0 where
  q : Option Value
  rel : Put sh (two m b) v (residual sh root) (two o q)
  joined : Joined (c ∷ []) W (q ∷ []) (take (length W) X)

-- the views vs into a section for each member of old: z is the members as they are then, and the cells
record Members (sh : Sheet) (root d : ℕ) (b : Value) (old vs : Values) (c : ℕ) (W : Cells) (z : Values × Cells) : Type 0 where
  q : Option Value
  rel : Put sh (two (list old) b) (list vs) (members root d) (two (some (list z.0)) q)
  joined : Joined (c ∷ []) W (q ∷ []) z.1

module _ {sh : Sheet} {root c : ℕ} {b : Value} {W : Cells} (laid : Laid W (c ∷ []) (b ∷ [])) where
  member_of : {m v : Value} {X : Cells} (o : Option Value) → Written sh (two m b) v (residual sh root) (two (length W) c) (W ++ none ∷ []) X
      → get_elem? X (length W) ≡ some o → Member sh root m b v c W o X
  member_of {m} {v} {X} o h eo = go h.rel h.joined h.joined.seen
    where
      go : {ω : Writes} → Put sh (two m b) v (residual sh root) ω → Joined (two (length W) c) (W ++ none ∷ []) ω X → Seen ω (two (length W) c) X
          → Member sh root m b v c W o X
      go r j (more {a = o'} f (more {a = q} k ends)) =
          let (j₁, e) = joined_member laid o' q X j in let z : o' ≡ o = cc in record { q = q; rel = rw z at r; joined = j₁ }

  members_next : {d : ℕ} {m v : Value} {old vs us : Values} {o : Option Value} {X Z : Cells} → StoodFor sh d old m → Member sh root m b v c W o X
      → Members sh root d b (rest_of old) vs c (take (length W) X) (us, Z) → Members sh root d b old (cons v vs) c W (cons (or_old o m) us, Z)
  members_next s h k =
      let (q, mg) = merge1_is _ _ (all2_one (seen_later h.joined.seen k.joined.later)) (all2_one k.joined.seen) in
      record { q = q; rel = p_next s h.rel k.rel mg; joined = joined_merge h.joined k.joined (m_more mg m_ends) }

module _ (sh : Sheet) (g : Getter) (gets : GetsSoundly sh g) (p : Putter) (ih : PutsSoundly sh p) where
  stood_sound : (d : ℕ) (old : Values) → After (Unit {0}) (λ m s. StoodFor sh d old m) (stood_for g d old)
  unfolding Semantics.stood_for on_list
  stood_sound d nil = after_map (gets d []) λ m s h. s_new h
  stood_sound d (cons m old) = fine s_old

  put_each_sound : (root d c : ℕ) (b : Value) (n : ℕ) (old vs : Values) (W : Cells) → Laid W (c ∷ []) (b ∷ [])
      → After (Unit {0}) (λ z s. Members sh root d b old vs c W z) (put_each g p root d c b n old vs W)
  unfolding Semantics.put_each blank
  put_each_sound root d c b n old nil W laid = fine (record { q = none; rel = p_end; joined = joined_blank laid })
  put_each_sound root d c b n old (cons v vs) W laid = after_bind (stood_sound d old) λ m s _ st.
      after_bind (ih root _ _ v _ (laid_member laid m)) λ X t _ w. after_given _ λ o eo. after_given _ λ _ _. let h = member_of laid o w eo in
      after_bind (put_each_sound root d c b (n + suc (size (Semantics.or_old counting o m))) (rest_of old) vs _ (laid_later laid h.joined.later)) λ z i _ k.
      fine (members_next laid st h k)

module _ (sh : Sheet) (g : Getter) (gets : GetsSoundly sh g) (p : Putter) (ih : PutsSoundly sh p) (μ : Env) (σ : List ℕ) (v : Value) (W : Cells)
    (laid : Laid W σ μ) where
  abbrev Sound : Expr → Out Cells → Type 0
  Sound e = After (Unit {0}) (λ X s. Written sh μ v e σ W X)

  constant_sound : (u : Value) → Sound (const u) (constant v u W)
  unfolding Semantics.constant
  constant_sound u = after_given _ λ e _. fine (record { ω = blank μ; rel = rw e p_const; joined = joined_blank laid })

  write_sound : (x c : ℕ) (m : Value) (o : Option Value) → get_elem? μ x ≡ some m → get_elem? σ x ≡ some c → get_elem? W c ≡ some o →
      Sound (var x) (write c v W o)
  unfolding Semantics.write
  write_sound x c m none em ec eo = fine (record { ω = only μ x (some v); rel = p_var em; joined = joined_new σ μ x c m em ec v laid eo })
  write_sound x c m (some w) em ec eo = after_given _ λ e _.
      fine (record { ω = only μ x (some v); rel = p_var em; joined = joined_same σ μ x c m em ec v laid (rw e at eo) })

  both_sound : (a b : ℕ) (x y : Value) → After (Unit {0}) (λ X s. Twice sh μ x a y b σ W X) (both p μ σ W a x b y)
  unfolding Semantics.both
  both_sound a b x y = after_bind (ih a μ σ x W laid) λ X s _ h. after_map (ih b μ σ y X (laid_later laid h.joined.later)) λ Y t k.
      let (ω, m) = merge_is (seen_later h.joined.seen k.joined.later) k.joined.seen in record {
        ω₁ = h.ω;
        ω₂ = k.ω;
        ω = ω;
        first = h.rel;
        over = seen_over h.joined.seen laid;
        second = k.rel;
        merged = m;
        joined = joined_merge h.joined k.joined m;
      }

  under_sound : (b s : ℕ) (q : Pattern) (mk : Value → Value → Option Value) (f r : Value) → ((x y u : Value) → mk x y ≡ some u → Match q u (two x y))
      → After (Unit {0}) (λ X t. Taken sh μ v q b (two f r) s σ W X) (under p μ σ W b v s mk f r)
  unfolding Semantics.under ◌◁◌
  under_sound b s q mk f r k = after_bind (ih b _ _ v _ (laid_branch W f r laid)) λ X i _ h. after_given _ λ x' ex. after_given _ λ y' ey.
      after_given _ λ u eu. after_given _ λ _ _.
      let (ω, x, y, e, _) = seen_cut σ _ _ h.joined.seen in
      let j : Joined (σ ++ two (length W) (suc (length W))) (W ++ two none none) (ω ++ two x y) X = rw e at h.joined in
      let o : Over ω μ = seen_over (seen_cut σ _ _ h.joined.seen).4 laid in
      let new = two_behind W x y in let j₁ = joined_outside new laid o j in let (cx, cy) = all2_two (cells_inside new laid o j) in
      let zx : x' ≡ x = cc in let zy : y' ≡ y = cc in
      after_map (ih s μ σ u _ (laid_later laid j₁.later)) λ Z t h₀.
      let (ω', m) = merge_is (seen_later j₁.seen h₀.joined.later) h₀.joined.seen in record {
        ω' = ω';
        back = record {
          ω = ω;
          ωᵢ = two x y;
          ω₀ = h₀.ω;
          u = u;
          branch = rw e at h.rel;
          over = o;
          overᵢ = more tt (more tt ends);
          rebuilt = k _ _ u (rw (zx, zy) at eu);
          subject = h₀.rel;
          merged = m;
        };
        joined = joined_merge j₁ h₀.joined m;
      }

  put_node_sound : (nd : Node) → Sound (expr nd) (put_node g p sh nd μ σ v W)
  unfolding Semantics.put_node
  put_node_sound (Var x) = after_given _ λ c ec. after_given _ λ o eo. let (m, em, _) = all2_at x laid ec in write_sound x c m o em ec eo
  put_node_sound False = constant_sound vfalse
  put_node_sound True = constant_sound vtrue
  put_node_sound Empty = constant_sound (list nil)
  put_node_sound (Number n) = constant_sound (number n)
  put_node_sound (Wide n) = constant_sound (wide n)
  put_node_sound (Front a b) = after_given _ λ c _. after_map (both_sound a b _ _) λ X s t. written_front c.0 c.1 c.2 t
  put_node_sound (Pair a b) = after_given _ λ c _. after_map (both_sound a b _ _) λ X s t. written_pair c.0 c.1 c.2 t
  put_node_sound (ListCase s e te n tn df dr) = after_bind (gets s μ) λ o i _ ds. after_given _ λ l _. after_list l.0
      (λ el. let d : Get sh μ (residual sh s) (list nil) = rw (l.1, el) at ds in after_choice _ _
      (λ h. after_map (both_sound e s v (list nil)) λ X t k. stays false d m_empty h (taken_plain m_empty k))
      (λ h k. after_bind (gets df (v ∷ [])) λ f i₁ _ dF. after_bind (gets dr (v ∷ [])) λ r i₂ _ dR. after_given _ λ q _.
      after_map (under_sound n s pattern_front mk_list f r mk_list_match) λ X t w.
      switches {u₀ = list (cons f q.0)} false d m_empty h k (more dF (more dR ends)) (rest_list f r q.0 q.1) w))
      (λ f r el. let d : Get sh μ (residual sh s) (list (cons f r)) = rw (l.1, el) at ds in after_choice _ _
      (λ h. after_map (under_sound n s pattern_front mk_list f (list r) mk_list_match) λ X t w. stays true d m_front h w)
      (λ h k. after_map (both_sound e s v (list nil)) λ X t w. switches true d m_front h k ends m_empty (taken_plain m_empty w)))
    where
      rest_list : (f r : Value) (q : Values) → r ≡ list q → Match pattern_front (list (cons f q)) (two f r)
      rest_list f r q eq = rw eq m_front
  put_node_sound (TruthCase s f tf t t₁) = after_bind (gets s μ) λ o i _ ds. after_given _ λ b _. side b.0 (rw b.1 at ds)
    where
      side : (b : Bool) → Get sh μ (residual sh s) (truth b) → Sound (expr (TruthCase s f tf t t₁))
          (choose (passes (pick b tf t₁) v) (passes (pick (not b) tf t₁) v) (both p μ σ W (pick b f t) v s (truth b))
          (both p μ σ W (pick (not b) f t) v s (truth (not b))))
      side false d = after_choice _ _
          (λ h. after_map (both_sound f s v vfalse) λ X j w. stays false d m_false h (taken_plain m_false w))
          (λ h k. after_map (both_sound t s v vtrue) λ X j w. switches false d m_false h k ends m_true (taken_plain m_true w))
      side true d = after_choice _ _
          (λ h. after_map (both_sound t s v vtrue) λ X j w. stays true d m_true h (taken_plain m_true w))
          (λ h k. after_map (both_sound f s v vfalse) λ X j w. switches true d m_true h k ends m_false (taken_plain m_false w))
  put_node_sound (Split s i) = after_bind (gets s μ) λ o j _ ds. after_given _ λ c _. let d : Get sh μ (residual sh s) (pair c.0 c.1) = rw c.2 at ds in
      after_map (under_sound i s pattern_pair mk_pair c.0 c.1 mk_pair_match) λ X t w.
      let b = w.back in record { ω = w.ω'; rel = p_let d m_pair b.branch b.over b.overᵢ b.rebuilt b.subject b.merged; joined = w.joined }
  put_node_sound (Call sec x y) = after_given _ λ a ea. after_given _ λ c ec. after_given _ λ b eb. after_given _ λ d ed.
      after_map (ih _ _ _ v W (laid_section laid x y ea ec eb ed)) λ X s t. written_call laid ea ec eb ed t
  put_node_sound (Add n k) = after_given _ λ m _. after_given _ λ low _. after_map (ih n μ σ _ W laid) λ X s t. written_add m.0 m.1 m.2 low t
  put_node_sound (Each s sec x d) = after_given _ λ l _. after_bind (gets s μ) λ o i _ ds. after_given _ λ old _. after_given _ λ a ea. after_given _ λ c ec.
      after_bind (put_each_sound sh g gets p ih _ d c a 1 old.0 l.0 W (laid_at laid x ea ec)) λ z j _ w.
      let j₁ = joined_only σ μ x c a ea ec laid w.joined in after_map (ih s μ σ _ z.1 (laid_later laid j₁.later)) λ X t h.
      let (ω, m) = merge_is (seen_later j₁.seen h.joined.later) h.joined.seen in
      rw l.1 (record { ω = ω; rel = p_each (rw old.1 at ds) ea w.rel h.rel m; joined = joined_merge j₁ h.joined m })

pub puts_soundly : (l : ℕ) (sh : Sheet) → PutsSoundly sh (put l sh)
unfolding Semantics.put
puts_soundly zero sh n μ σ v W h = stopped tt
puts_soundly (suc l) sh n μ σ v W h = after_plus 1 (put_node_sound sh (get l sh) (gets_soundly l sh) (put l sh) (puts_soundly l sh) μ σ v W h _)

-- COMPLETE UP TO OUR LIMITS

-- where W and the published writes have cells Y in common
abbrev pub PutsAll : (l a : ℕ) → Sheet → Putter → Type 0
PutsAll l a sh p = (n : ℕ) (μ : Env) (σ : List ℕ) (v : Value) (W : Cells) (ω : Writes) (Y : Cells) → Laid W σ μ → (d : Put sh μ v (residual sh n) ω)
    → Later W Y → Seen ω σ Y → UpTo l a (put_cost d) (Joined σ W ω) (p n μ σ v W)

match_mk_list : (a b u : Value) → Match pattern_front u (two a b) → mk_list a b ≡ some u
unfolding mk_list as_list
match_mk_list a b u m_front = refl

match_mk_pair : (a b u : Value) → Match pattern_pair u (two a b) → mk_pair a b ≡ some u
unfolding mk_pair
match_mk_pair a b u m_pair = refl

-- a value that binds nothing is never too long
match_short : {q : Pattern} {u : Value} → Match q u [] → size u ≤ 256
unfolding size
match_short m_false = omega arith
match_short m_true = omega arith
match_short m_empty = omega arith

abbrev back_cost : {sh : Sheet} {μ : Env} {v : Value} {q : Pattern} {b : ℕ} {μᵢ : Env} {s : ℕ} {ω : Writes} → Back sh μ v q b μᵢ s ω → Cost
back_cost k = put_cost k.branch ⊕ built k.u ⊕ put_cost k.subject

-- what a put into an expression is made of: its rule. (The scope is an argument here, so that the rules of `members` are ruled out.)
module _ {sh : Sheet} where
  by-var : {μ : Env} {v : Value} {x : ℕ} {ω : Writes} (Q : (ω : Writes) → Put sh μ v (var x) ω → Type 0)
      → ((old : Value) (e : get_elem? μ x ≡ some old) → Q (only μ x (some v)) (p_var e)) → (d : Put sh μ v (var x) ω) → Q ω d
  by-var Q f (p_var e) = f _ e

  by-const : {μ : Env} {v c : Value} {ω : Writes} (Q : (v : Value) (ω : Writes) → Put sh μ v (const c) ω → Type 0) → Q c (blank μ) p_const
      → (d : Put sh μ v (const c) ω) → Q v ω d
  by-const Q f p_const = f

  by-cons : {μ : Env} {v : Value} {a b : ℕ} {ω : Writes} (Q : (v : Value) (ω : Writes) → Put sh μ v (front a b) ω → Type 0)
      → ((f : Value) (r : Values) (ω₁ ω₂ ω : Writes) (d₁ : Put sh μ f (residual sh a) ω₁) (d₂ : Put sh μ (list r) (residual sh b) ω₂)
      (m : Merge ω₁ ω₂ ω) → Q (list (cons f r)) ω (p_cons d₁ d₂ m)) → (d : Put sh μ v (front a b) ω) → Q v ω d
  by-cons Q f (p_cons d₁ d₂ m) = f _ _ _ _ _ d₁ d₂ m

  by-pair : {μ : Env} {v : Value} {a b : ℕ} {ω : Writes} (Q : (v : Value) (ω : Writes) → Put sh μ v (couple a b) ω → Type 0)
      → ((x y : Value) (ω₁ ω₂ ω : Writes) (d₁ : Put sh μ x (residual sh a) ω₁) (d₂ : Put sh μ y (residual sh b) ω₂)
      (m : Merge ω₁ ω₂ ω) → Q (pair x y) ω (p_pair d₁ d₂ m)) → (d : Put sh μ v (couple a b) ω) → Q v ω d
  by-pair Q f (p_pair d₁ d₂ m) = f _ _ _ _ _ d₁ d₂ m

  by-let : {μ : Env} {v : Value} {p : Pattern} {s e : ℕ} {ω : Writes} (Q : (ω : Writes) → Put sh μ v (let_in p s e) ω → Type 0)
      → ((μᵢ : Env) (v₀ u : Value) (ω ωᵢ ω₀ ω' : Writes) (g : Get sh μ (residual sh s) v₀) (m : Match p v₀ μᵢ)
      (d : Put sh (μ ++ μᵢ) v (residual sh e) (ω ++ ωᵢ)) (o : Over ω μ) (oᵢ : Over ωᵢ μᵢ) (r : Match p u (ωᵢ ◁ μᵢ))
      (d₀ : Put sh μ u (residual sh s) ω₀) (mg : Merge ω ω₀ ω') → Q ω' (p_let g m d o oᵢ r d₀ mg)) → (d : Put sh μ v (let_in p s e) ω) → Q ω d
  by-let Q f (p_let g m d o oᵢ r d₀ mg) = f _ _ _ _ _ _ _ g m d o oᵢ r d₀ mg

  by-call : {μ : Env} {v : Value} {sec x y : ℕ} {ω : Writes} (Q : (ω : Writes) → Put sh μ v (call sec x y) ω → Type 0)
      → ((a b : Value) (o q : Option Value) (ω : Writes) (ea : get_elem? μ x ≡ some a) (eb : get_elem? μ y ≡ some b)
      (d : Put sh (two a b) v (residual sh (get_or sh.sections sec 0)) (two o q)) (m : Merge (only μ x o) (only μ y q) ω)
      → Q ω (p_call ea eb d m)) → (d : Put sh μ v (call sec x y) ω) → Q ω d
  by-call Q f (p_call ea eb d m) = f _ _ _ _ _ ea eb d m

  by-add : {μ : Env} {v : Value} {n k : ℕ} {ω : Writes} (Q : (v : Value) (ω : Writes) → Put sh μ v (add n k) ω → Type 0)
      → ((m : ℕ) (ω : Writes) (z : m ≤ 65535) (low : k ≤ m) (d : Put sh μ (number (m - k)) (residual sh n) ω) → Q (number m) ω (p_add z low d))
      → (d : Put sh μ v (add n k) ω) → Q v ω d
  by-add Q f (p_add z low d) = f _ _ z low d

  by-each : {μ : Env} {v : Value} {s sec x d : ℕ} {ω : Writes} (Q : (v : Value) (ω : Writes) → Put sh μ v (each s sec x d) ω → Type 0)
      → ((a : Value) (old vs us : Values) (q : Option Value) (ω₀ ω : Writes) (g : Get sh μ (residual sh s) (list old)) (ea : get_elem? μ x ≡ some a)
      (k : Put sh (two (list old) a) (list vs) (members (get_or sh.sections sec 0) d) (two (some (list us)) q))
      (d₀ : Put sh μ (list us) (residual sh s) ω₀) (m : Merge (only μ x q) ω₀ ω) → Q (list vs) ω (p_each g ea k d₀ m))
      → (k : Put sh μ v (each s sec x d) ω) → Q v ω k
  by-each Q f (p_each g ea k d₀ m) = f _ _ _ _ _ _ _ g ea k d₀ m

-- Q of the cost of each way to put into a case: the branch is kept, or switched
abbrev Stays : Sheet → Env → Value → ℕ → Branch → Branch → Writes → (Cost → Type 0) → Type 0
Stays sh μ v s b₁ b₂ ω Q = (i : Bool) (v₀ : Value) (μᵢ : Env) (g : Get sh μ (residual sh s) v₀) → Match (pick i b₁ b₂).pattern v₀ μᵢ
    → Passes (pick i b₁ b₂).exit v → (k : Back sh μ v (pick i b₁ b₂).pattern (pick i b₁ b₂).body μᵢ s ω) → Q (get_cost g ⊕ back_cost k)

abbrev Switches : Sheet → Env → Value → ℕ → Branch → Branch → Writes → (Cost → Type 0) → Type 0
Switches sh μ v s b₁ b₂ ω Q = (i : Bool) (v₀ u₀ : Value) (μᵢ μⱼ : Env) (g : Get sh μ (residual sh s) v₀) → Match (pick i b₁ b₂).pattern v₀ μᵢ
    → ¬ Passes (pick i b₁ b₂).exit v → Passes (pick (not i) b₁ b₂).exit v → (gs : All2 (λ n w. Get sh (v ∷ []) (residual sh n) w) (pick (not i) b₁ b₂).by μⱼ)
    → Match (pick (not i) b₁ b₂).pattern u₀ μⱼ → (k : Back sh μ v (pick (not i) b₁ b₂).pattern (pick (not i) b₁ b₂).body μⱼ s ω)
    → Q (get_cost g ⊕ defaults_cost gs (back_cost k))

by_case : {sh : Sheet} {μ : Env} {v : Value} {s : ℕ} {b₁ b₂ : Branch} {ω : Writes} (Q : Cost → Type 0) (d : Put sh μ v (case s b₁ b₂) ω)
    → Stays sh μ v s b₁ b₂ ω Q → Switches sh μ v s b₁ b₂ ω Q → Q (put_below d)
unfolding put_below
by_case Q (p_case i ds mᵢ q d o oᵢ r d₀ m) f g =
    f i _ _ ds mᵢ q (record { ω = _; ωᵢ = _; ω₀ = _; u = _; branch = d; over = o; overᵢ = oᵢ; rebuilt = r; subject = d₀; merged = m })
by_case Q (p_case_switch i ds mᵢ q q' dd mⱼ d o oⱼ r d₀ m) f g =
    g i _ _ _ _ ds mᵢ q q' dd mⱼ (record { ω = _; ωᵢ = _; ω₀ = _; u = _; branch = d; over = o; overᵢ = oⱼ; rebuilt = r; subject = d₀; merged = m })

module _ {l a : ℕ} (sh : Sheet) (g : Getter) (gets : GetsAll l a sh g) (p : Putter) (ih : PutsAll l a sh p) where
  stood_complete : (d : ℕ) {old : Values} {m : Value} (s : StoodFor sh d old m) → Comes l a (stood_cost s) m (stood_for g d old)
  unfolding Semantics.stood_for on_list stood_cost
  stood_complete d s_old = reach refl
  stood_complete d (s_new h) = gets d [] _ h

  -- the list so far, with its 02, has n bytes, and the whole list those of u
  put_each_complete : (root d c : ℕ) (b u : Value) (n : ℕ) {old vs us : Values} {q : Option Value} (W Y : Cells) → Laid W (c ∷ []) (b ∷ []) → Later W Y
      → Seen (q ∷ []) (c ∷ []) Y → n ≤ 256 → suc (size u) ≡ n + size (list us)
      → (h : Put sh (two (list old) b) (list vs) (members root d) (two (some (list us)) q))
      → UpTo l a (put_below h ⊕ built u) (λ z. (z.0 ≡ us) × Joined (c ∷ []) W (q ∷ []) z.1) (put_each g p root d c b n old vs W)
  unfolding Semantics.put_each put_below size blank
  put_each_complete root d c b u n W Y laid later seen z e p_end = up_as _ (omega arith) (reach (refl, joined_blank laid))
  put_each_complete root d c b u n W Y laid later seen z e (p_next {m = m} {v = v} {us = us} {o = o} {q₁ = q₁} s h k mg) =
      let ms = m_more mg m_ends in let new = one_behind W o in up_as _ (omega arith) (comes_bind _ (stood_complete d s)
      (up_bind _ (ih root _ _ v _ (two o q₁) (Y ++ o ∷ []) (laid_member laid m) h (wider_later new later)
      (all2_swap (wider_seen new later (seen_left ms seen)))) λ X j.
      let (j₁, eo) = joined_member laid o q₁ X j in up_given _ _ eo (up_bytes _ (omega (arith, size_pos (list us))) λ z'.
      up_last _ (put_each_complete root d c b u _ _ Y (laid_later laid j₁.later) (j₁.least Y later (seen_left ms seen)) (seen_right ms seen) z'
      (omega arith) k) λ r w. reach (cc, joined_merge j₁ w.1 ms))))

module _ {l a : ℕ} (sh : Sheet) (g : Getter) (gets : GetsAll l a sh g) (p : Putter) (ih : PutsAll l a sh p)
    (μ : Env) (σ : List ℕ) (W : Cells) (laid : Laid W σ μ) (Y : Cells) (later : Later W Y) where
  constant_all : (v : Value) → UpTo l a free (Joined σ W (blank μ)) (constant v v W)
  unfolding Semantics.constant
  constant_all v = up_when _ _ refl λ _. reach (joined_blank laid)

  write_all : (v : Value) (x c : ℕ) (m : Value) (o : Option Value) → get_elem? μ x ≡ some m → get_elem? σ x ≡ some c → get_elem? W c ≡ some o
      → Seen (only μ x (some v)) σ Y → UpTo l a free (Joined σ W (only μ x (some v))) (write c v W o)
  unfolding Semantics.write
  write_all v x c m none em ec eo s = reach (joined_new σ μ x c m em ec v laid eo)
  write_all v x c m (some w) em ec eo s =
      let (q, eq, h) = all2_at c later eo in let e : w ≡ v = cc (h w refl, (seen_only σ μ x c m em ec (some v) s).has v refl) in
      up_when _ _ e λ _. reach (joined_same σ μ x c m em ec v laid (rw e at eo))

  -- the first node that is put into here, in the scope μ
  first_all : (n : ℕ) (v : Value) {ν : Env} {ψ ω : Writes} → ν ≡ μ → ψ ≡ ω → (d : Put sh ν v (residual sh n) ψ) → Seen ω σ Y
      → UpTo l a (put_cost d) (Joined σ W ω) (p n μ σ v W)
  first_all n v {ν} {ψ} {ω} e e' d h = subst (λ ν. UpTo l a (put_cost d) (Joined σ W ω) (p n ν σ v W)) e
      (subst (λ ψ. UpTo l a (put_cost d) (Joined σ W ψ) (p n ν σ v W)) e' (ih n ν σ v W ψ Y (rw e laid) d later (rw e' h)))

  both_all : {c : Cost} (n b : ℕ) (x y : Value) (ω₁ ω₂ ω : Writes) → UpTo l a c (Joined σ W ω₁) (p n μ σ x W)
      → (d : Put sh μ y (residual sh b) ω₂) → Merge ω₁ ω₂ ω → Seen ω σ Y → UpTo l a (c ⊕ put_cost d) (Joined σ W ω) (both p μ σ W n x b y)
  unfolding Semantics.both
  both_all n b x y ω₁ ω₂ ω k d m s = up_bind _ k λ X j.
      up_map (ih b μ σ y X ω₂ Y (laid_later laid j.later) d (j.least Y later (seen_left m s)) (seen_right m s)) λ Z k. joined_merge j k m

  under_all : (v : Value) (b s : ℕ) (mk : Value → Value → Option Value) (f r u : Value) (ω : Writes) (x y : Option Value) (ω₀ ω' : Writes)
      (d : Put sh (μ ++ two f r) v (residual sh b) (ω ++ two x y)) → Over ω μ → mk (or_old x f) (or_old y r) ≡ some u
      → (d₀ : Put sh μ u (residual sh s) ω₀) → Merge ω ω₀ ω' → Seen ω' σ Y
      → UpTo l a (put_cost d ⊕ built u ⊕ put_cost d₀) (Joined σ W ω') (under p μ σ W b v s mk f r)
  unfolding Semantics.under
  under_all v b s mk f r u ω x y ω₀ ω' d over eu d₀ m h =
      let new = two_behind W x y in
      up_bind _ (ih b _ _ v _ (ω ++ two x y) (Y ++ two x y) (laid_branch W f r laid) d (wider_later new later)
      (wider_seen new later (seen_left m h))) λ X j.
      let j₁ = joined_outside new laid over j in let (cx, cy) = all2_two (cells_inside new laid over j) in
      up_given _ _ cx (up_given _ _ cy (up_given _ _ eu (up_size u λ _.
      up_map (ih s μ σ u _ ω₀ Y (laid_later laid j₁.later) d₀ (j₁.least Y later (seen_left m h)) (seen_right m h)) λ Z k. joined_merge j₁ k m)))

  back_plain : {v : Value} {q : Pattern} {b s : ℕ} {u : Value} {ω' : Writes} → Match q u [] → (k : Back sh μ v q b [] s ω') → Seen ω' σ Y
      → UpTo l a (back_cost k) (Joined σ W ω') (both p μ σ W b v s u)
  unfolding ◌◁◌
  back_plain {v} {q} {b} {s} {u} {ω'} m k h = go k.branch k.overᵢ k.rebuilt
    where
      go : {ωᵢ : Writes} (d : Put sh (μ ++ []) v (residual sh b) (k.ω ++ ωᵢ)) → Over ωᵢ [] → Match q k.u (ωᵢ ◁ [])
          → UpTo l a (put_cost d ⊕ built k.u ⊕ put_cost k.subject) (Joined σ W ω') (both p μ σ W b v s u)
      go d ends m' =
          let z = match_short m' in let first = first_all b v (append-nil μ) (append-nil k.ω) d (seen_left k.merged h) in
          subst (λ w. UpTo l a (put_cost d ⊕ built k.u ⊕ put_cost k.subject) (Joined σ W ω') (both p μ σ W b v s w)) (match_value m' m)
          (up_as _ (omega arith) (both_all b s v k.u k.ω k.ω₀ ω' first k.subject k.merged h))

  back_open : {v : Value} {q : Pattern} {b s : ℕ} {f r : Value} {ω' : Writes} (mk : Value → Value → Option Value)
      → ((x y u : Value) → Match q u (two x y) → mk x y ≡ some u) → (k : Back sh μ v q b (two f r) s ω') → Seen ω' σ Y
      → UpTo l a (back_cost k) (Joined σ W ω') (under p μ σ W b v s mk f r)
  unfolding ◌◁◌
  back_open {v} {q} {b} {s} {f} {r} {ω'} mk inv k h = go k.branch k.overᵢ k.rebuilt
    where
      go : {ωᵢ : Writes} (d : Put sh (μ ++ two f r) v (residual sh b) (k.ω ++ ωᵢ)) → Over ωᵢ (two f r) → Match q k.u (ωᵢ ◁ two f r)
          → UpTo l a (put_cost d ⊕ built k.u ⊕ put_cost k.subject) (Joined σ W ω') (under p μ σ W b v s mk f r)
      go d (more {a = x} _ (more {a = y} _ ends)) m' =
          under_all v b s mk f r k.u k.ω x y k.ω₀ ω' d k.over (inv _ _ _ m') k.subject k.merged h

  -- the members, then the rebuilt list
  each_all : (s root d x c : ℕ) (b : Value) (us : Values) {old vs : Values} {q : Option Value} {ω₀ ω : Writes} → get_elem? μ x ≡ some b
      → get_elem? σ x ≡ some c → (k : Put sh (two (list old) b) (list vs) (members root d) (two (some (list us)) q))
      → (d₀ : Put sh μ (list us) (residual sh s) ω₀) → Merge (only μ x q) ω₀ ω → Seen ω σ Y
      → UpTo l a ((put_below k ⊕ built (list us)) ⊕ put_cost d₀) (Joined σ W ω)
      (put_each g p root d c b 1 old vs W >>= λ z. p s μ σ (list z.0) z.1)
  each_all s root d x c b us {q = q} eb ec k d₀ m h =
      let seen = more (seen_only σ μ x c b eb ec q (seen_left m h)) ends in
      up_bind _ (put_each_complete sh g gets p ih root d c b (list us) 1 W Y (laid_at laid x eb ec) later seen (omega arith) (omega arith) k) λ z w.
      let j = joined_only σ μ x c b eb ec laid w.1 in rw w.0
      (up_map (ih s μ σ _ _ _ Y (laid_later laid j.later) d₀ (j.least Y later (seen_left m h)) (seen_right m h)) λ X i. joined_merge j i m)

  abbrev Puts : Node → Value → Writes → Cost → Type 0
  Puts nd v ω c = UpTo l a c (Joined σ W ω) (put_node g p sh nd μ σ v W)

  put_node_complete : (nd : Node) (v : Value) {ω : Writes} (d : Put sh μ v (expr nd) ω) → Seen ω σ Y → Puts nd v ω (put_below d)
  unfolding Semantics.put_node as_list as_front as_pair as_truth on_list put_below defaults_cost
  put_node_complete (Var x) v rel h = by-var (λ ω d. Seen ω σ Y → Puts (Var x) v ω (put_below d)) (λ _ em h.
      let (c, ec, _) = all2_at x (all2_flip laid) em in let (m, _, t) = all2_at x laid ec in
      up_given _ _ ec (up_given _ _ t.there (write_all v x c _ t.cell em ec t.there h))) rel h
  put_node_complete False v rel h = by-const (λ v ω d. Seen ω σ Y → Puts False v ω (put_below d)) (λ h. constant_all _) rel h
  put_node_complete True v rel h = by-const (λ v ω d. Seen ω σ Y → Puts True v ω (put_below d)) (λ h. constant_all _) rel h
  put_node_complete Empty v rel h = by-const (λ v ω d. Seen ω σ Y → Puts Empty v ω (put_below d)) (λ h. constant_all _) rel h
  put_node_complete (Number n) v rel h = by-const (λ v ω d. Seen ω σ Y → Puts (Number n) v ω (put_below d)) (λ h. constant_all _) rel h
  put_node_complete (Wide n) v rel h = by-const (λ v ω d. Seen ω σ Y → Puts (Wide n) v ω (put_below d)) (λ h. constant_all _) rel h
  put_node_complete (Front a b) v rel h = by-cons (λ v ω d. Seen ω σ Y → Puts (Front a b) v ω (put_below d)) (λ _ _ _ _ _ d₁ d₂ m h.
      up_given _ _ refl (both_all a b _ _ _ _ _ (first_all a _ refl refl d₁ (seen_left m h)) d₂ m h)) rel h
  put_node_complete (Pair a b) v rel h = by-pair (λ v ω d. Seen ω σ Y → Puts (Pair a b) v ω (put_below d)) (λ _ _ _ _ _ d₁ d₂ m h.
      up_given _ _ refl (both_all a b _ _ _ _ _ (first_all a _ refl refl d₁ (seen_left m h)) d₂ m h)) rel h
  put_node_complete (ListCase s e te n tn df dr) v {ω = ω} rel h = by_case (Puts (ListCase s e te n tn df dr) v ω) rel stay switch
    where
      stay : Stays sh μ v s (plain pattern_empty e te) (opened n tn df dr) ω (Puts (ListCase s e te n tn df dr) v ω)
      stay false v₀ μᵢ ds m_empty q b = comes_bind _ (gets s μ _ ds) (up_given _ _ refl (up_first _ _ _ q (back_plain m_empty b h)))
      stay true v₀ μᵢ ds m_front q b = comes_bind _ (gets s μ _ ds) (up_given _ _ refl (up_first _ _ _ q (back_open mk_list match_mk_list b h)))

      switch : Switches sh μ v s (plain pattern_empty e te) (opened n tn df dr) ω (Puts (ListCase s e te n tn df dr) v ω)
      switch false v₀ u₀ μᵢ μⱼ ds m_empty q q' (more dF (more dR ends)) m_front b = comes_bind _ (gets s μ _ ds) (up_given _ _ refl (up_second _ _ _ q q'
          (comes_bind _ (gets df (v ∷ []) _ dF) (comes_bind _ (gets dr (v ∷ []) _ dR) (up_given _ _ refl (back_open mk_list match_mk_list b h))))))
      switch true v₀ u₀ μᵢ μⱼ ds m_front q q' ends m_empty b = comes_bind _ (gets s μ _ ds) (up_given _ _ refl (up_second _ _ _ q q' (back_plain m_empty b h)))
  put_node_complete (TruthCase s f tf t t₁) v {ω = ω} rel h = by_case (Puts (TruthCase s f tf t t₁) v ω) rel stay switch
    where
      stay : Stays sh μ v s (plain pattern_false f tf) (plain pattern_true t t₁) ω (Puts (TruthCase s f tf t t₁) v ω)
      stay false v₀ μᵢ ds m_false q b = comes_bind _ (gets s μ _ ds) (up_given _ _ refl (up_first _ _ _ q (back_plain m_false b h)))
      stay true v₀ μᵢ ds m_true q b = comes_bind _ (gets s μ _ ds) (up_given _ _ refl (up_first _ _ _ q (back_plain m_true b h)))

      switch : Switches sh μ v s (plain pattern_false f tf) (plain pattern_true t t₁) ω (Puts (TruthCase s f tf t t₁) v ω)
      switch false v₀ u₀ μᵢ μⱼ ds m_false q q' ends m_true b = comes_bind _ (gets s μ _ ds) (up_given _ _ refl (up_second _ _ _ q q' (back_plain m_true b h)))
      switch true v₀ u₀ μᵢ μⱼ ds m_true q q' ends m_false b = comes_bind _ (gets s μ _ ds) (up_given _ _ refl (up_second _ _ _ q q' (back_plain m_false b h)))
  put_node_complete (Split s i) v rel h = by-let (λ ω d. Seen ω σ Y → Puts (Split s i) v ω (put_below d)) (λ _ _ _ _ _ _ _ ds mp d o oᵢ r d₀ m h. go ds mp d o
      oᵢ r d₀ m h) rel h
    where
      go : {μᵢ : Env} {v₀ u : Value} {ω ωᵢ ω₀ ω' : Writes} (g : Get sh μ (residual sh s) v₀) (mp : Match pattern_pair v₀ μᵢ)
          (d : Put sh (μ ++ μᵢ) v (residual sh i) (ω ++ ωᵢ)) (o : Over ω μ) (oᵢ : Over ωᵢ μᵢ) (r : Match pattern_pair u (ωᵢ ◁ μᵢ))
          (d₀ : Put sh μ u (residual sh s) ω₀) (m : Merge ω ω₀ ω') → Seen ω' σ Y → Puts (Split s i) v ω' (put_below (p_let g mp d o oᵢ r d₀ m))
      go ds m_pair d o oᵢ r d₀ m h = comes_bind _ (gets s μ _ ds) (up_given _ _ refl (back_open mk_pair match_mk_pair
          (record { ω = _; ωᵢ = _; ω₀ = _; u = _; branch = d; over = o; overᵢ = oᵢ; rebuilt = r; subject = d₀; merged = m }) h))
  put_node_complete (Call sec x y) v rel h = by-call (λ ω d. Seen ω σ Y → Puts (Call sec x y) v ω (put_below d)) (λ a b _ _ _ ea eb d m h.
      let (c, ec, _) = all2_at x (all2_flip laid) ea in let (e, ee, _) = all2_at y (all2_flip laid) eb in
      up_given _ _ ea (up_given _ _ ec (up_given _ _ eb (up_given _ _ ee
      (up_map (ih _ _ _ v W _ Y (laid_section laid x y ea ec eb ee) d later (section_seen σ μ x c a ea ec y e b eb ee m h)) λ X j.
      joined_section σ μ x c a ea ec y e b eb ee laid j m))))) rel h
  put_node_complete (Add n k) v rel h = by-add (λ v ω d. Seen ω σ Y → Puts (Add n k) v ω (put_below d)) (λ m _ z low d h.
      let (z', e) = as_number_lem m z in up_given _ _ e (up_when _ _ low λ _. ih n μ σ _ W _ Y laid d later h)) rel h
  put_node_complete (Each s sec x d) v rel h = by-each (λ v ω k. Seen ω σ Y → Puts (Each s sec x d) v ω (put_below k)) (λ _ _ _ _ _ _ _ ds ea k d₀ m h.
      let (c, ec, _) = all2_at x (all2_flip laid) ea in
      up_given _ _ refl (comes_bind _ (gets s μ _ ds) (up_given _ _ refl (up_given _ _ ea (up_given _ _ ec (each_all s _ d x c _ _ ea ec k d₀ m h)))))) rel h

pub puts_all : (l a : ℕ) (sh : Sheet) → PutsAll l a sh (put l sh)
unfolding Semantics.put
puts_all zero a sh n μ σ v W ω Y laid d later h = stops (omega arith) (deep (omega arith))
puts_all (suc l) a sh n μ σ v W ω Y laid d later h =
    up_enter (put_node_complete sh (get l sh) (gets_all l a sh) (put l sh) (puts_all l a sh) μ σ W laid Y later _ v d h)

-- ONE SET OF WRITES

merge1_one : {o p q q' : Option Value} → Merge1 o p q → Merge1 o p q' → q ≡ q'
merge1_one neither neither = refl
merge1_one left left = refl
merge1_one right right = refl
merge1_one (same e) (same e') = refl

merge_one : {ω₁ ω₂ ω ω' : Writes} → Merge ω₁ ω₂ ω → Merge ω₁ ω₂ ω' → ω ≡ ω'
merge_one m_ends m_ends = refl
merge_one (m_more m ms) (m_more k ks) = let e = merge1_one m k in let es = merge_one ms ks in cc

-- writes to a branch's scope have one part outside and one of its own
over_one : {ω ω₁ : Writes} (ωᵢ ωⱼ : Writes) {μ : Env} → Over ω μ → Over ω₁ μ → ω ++ ωᵢ ≡ ω₁ ++ ωⱼ → (ω ≡ ω₁) × (ωᵢ ≡ ωⱼ)
over_one ωᵢ ωⱼ ends ends e = (refl, e)
over_one ωᵢ ωⱼ (more _ h) (more _ k) e = let (p, q) = over_one ωᵢ ωⱼ h k (cc) in (cc, q)

const_one : {sh : Sheet} {μ : Env} {v c : Value} {ω : Writes} → Put sh μ v (const c) ω → ω ≡ blank μ
const_one p_const = refl

defaults_one : {sh : Sheet} {v : Value} {ns : List ℕ} {μ μ' : Env} → All2 (λ n w. Get sh (v ∷ []) (residual sh n) w) ns μ
    → All2 (λ n w. Get sh (v ∷ []) (residual sh n) w) ns μ' → μ ≡ μ'
defaults_one ends ends = refl
defaults_one {sh} (more {a = n} d ds) (more d' ds') = let e = get_one sh (fair (node sh n)) d d' in let es = defaults_one ds ds' in cc

stood_one : {sh : Sheet} {d : ℕ} {old : Values} {m m' : Value} → StoodFor sh d old m → StoodFor sh d old m' → m ≡ m'
stood_one s_old s_old = refl
stood_one {sh} {d} (s_new h) (s_new h') = get_one sh (fair (node sh d)) h h'

-- what two variables are updated to, and a rebuilt list
two_one : {a b c d : Option Value} → two a b ≡ two c d → (a ≡ c) × (b ≡ d)
two_one e = (cc, cc)

written_one : {l l' : Values} → ◌≡◌ {A = Option Value} (some (list l)) (some (list l')) → l ≡ l'
written_one e = list_one (some-injective _ _ e)

rebuilt_one : {o o' q q' : Option Value} {n n' : Value} {us us' : Values} → o ≡ o' → n ≡ n' → us ≡ us' → q ≡ q'
    → two (some (list (cons (or_old o n) us))) q ≡ two (some (list (cons (or_old o' n') us'))) q'
rebuilt_one e f g h = rw (e, f, g, h)

module _ (sh : Sheet) where
  pub put_one : {μ : Env} {v : Value} {e : Expr} {ω ω' : Writes} → Fair e → Put sh μ v e ω → Put sh μ v e ω' → ω ≡ ω'
  put_one f (p_var e) (p_var e') = refl
  put_one f p_const d = sym (const_one d)
  put_one f (p_cons {a = a} {b = b} d₁ d₂ m) (p_cons d₁' d₂' m') =
      let e₁ = put_one (fair (node sh a)) d₁ d₁' in let e₂ = put_one (fair (node sh b)) d₂ d₂' in merge_one m (rw (← e₁, ← e₂) at m')
  put_one f (p_case {s = s} {b₁ = b₁} {b₂ = b₂} i ds m h d o oᵢ r d₀ mg) (p_case j ds' m' h' d' o' oᵢ' r' d₀' mg') =
      let es = get_one sh (fair (node sh s)) ds ds' in let ei = f i j _ _ _ m (rw (← es) at m') in let eμ = match_env m (rw (← es, ← ei) at m') in
      let ed = put_one (fair (node sh (pick i b₁ b₂).body)) d (rw (← ei, ← eμ) at d') in let (e₁, e₂) = over_one _ _ o o' ed in
      let eu = match_value r (rw (← ei, ← eμ, ← e₂) at r') in let e₀ = put_one (fair (node sh s)) d₀ (rw (← eu) at d₀') in
      merge_one mg (rw (← e₁, ← e₀) at mg')
  put_one f (p_case {s = s} i ds m h d o oᵢ r d₀ mg) (p_case_switch j ds' m' h' k' dd' n' d' o' oᵢ' r' d₀' mg') =
      let es = get_one sh (fair (node sh s)) ds ds' in let ei = f i j _ _ _ m (rw (← es) at m') in absurd (h' (rw ei at h))
  put_one f (p_case_switch {s = s} i ds m h k dd n d o oᵢ r d₀ mg) (p_case j ds' m' h' d' o' oᵢ' r' d₀' mg') =
      let es = get_one sh (fair (node sh s)) ds ds' in let ei = f i j _ _ _ m (rw (← es) at m') in absurd (h (rw (← ei) at h'))
  put_one f (p_case_switch {s = s} {b₁ = b₁} {b₂ = b₂} i ds m h k dd n d o oᵢ r d₀ mg) (p_case_switch j ds' m' h' k' dd' n' d' o' oᵢ' r' d₀' mg') =
      let es = get_one sh (fair (node sh s)) ds ds' in let ei = f i j _ _ _ m (rw (← es) at m') in let eμ = defaults_one dd (rw (← ei) at dd') in
      let ed = put_one (fair (node sh (pick (not i) b₁ b₂).body)) d (rw (← ei, ← eμ) at d') in let (e₁, e₂) = over_one _ _ o o' ed in
      let eu = match_value r (rw (← ei, ← eμ, ← e₂) at r') in let e₀ = put_one (fair (node sh s)) d₀ (rw (← eu) at d₀') in
      merge_one mg (rw (← e₁, ← e₀) at mg')
  put_one f (p_let {s = s} {e = b} ds m d o oᵢ r d₀ mg) (p_let ds' m' d' o' oᵢ' r' d₀' mg') =
      let es = get_one sh (fair (node sh s)) ds ds' in let eμ = match_env m (rw (← es) at m') in
      let ed = put_one (fair (node sh b)) d (rw (← eμ) at d') in let (e₁, e₂) = over_one _ _ o o' ed in
      let eu = match_value r (rw (← eμ, ← e₂) at r') in let e₀ = put_one (fair (node sh s)) d₀ (rw (← eu) at d₀') in
      merge_one mg (rw (← e₁, ← e₀) at mg')
  put_one f (p_pair {a = a} {b = b} d₁ d₂ m) (p_pair d₁' d₂' m') =
      let e₁ = put_one (fair (node sh a)) d₁ d₁' in let e₂ = put_one (fair (node sh b)) d₂ d₂' in merge_one m (rw (← e₁, ← e₂) at m')
  put_one f (p_call {sec = sec} ea eb d m) (p_call ea' eb' d' m') =
      let (eo, eq) = two_one (put_one (fair (node sh (get_or sh.sections sec 0))) d (rw (← at_one ea ea', ← at_one eb eb') at d')) in
      merge_one m (rw (← eo, ← eq) at m')
  put_one f (p_add {n = n} z low d) (p_add z' low' d') = put_one (fair (node sh n)) d d'
  put_one f (p_each {s = s} ds e d d₀ m) (p_each ds' e' d' d₀' m') =
      let eo = list_one (get_one sh (fair (node sh s)) ds ds') in let ea = at_one e e' in
      let (eu, eq) = two_one (put_one tt d (rw (← ea, ← eo) at d')) in
      let e₀ = put_one (fair (node sh s)) d₀ (rw (← written_one eu) at d₀') in merge_one m (rw (← eq, ← e₀) at m')
  put_one f p_end p_end = refl
  put_one f (p_next {root = root} s d ds m) (p_next s' d' ds' m') =
      let en = stood_one s s' in let (eo, e₁) = two_one (put_one (fair (node sh root)) d (rw (← en) at d')) in
      let (eu, e₂) = two_one (put_one tt ds ds') in rebuilt_one eo en (written_one eu) (merge1_one m (rw (← e₁, ← e₂) at m'))

-- and they are of the variables in scope
over_blank : (μ : Env) → Over (blank μ) μ
unfolding blank
over_blank [] = ends
over_blank (v ∷ μ) = more tt (over_blank μ)

over_only : (μ : Env) (x : ℕ) (o : Option Value) {m : Value} → get_elem? μ x ≡ some m → Over (only μ x o) μ
unfolding only
over_only μ x o e = all2_set x o (over_blank μ) e tt

over_merge : {ω₁ ω₂ ω : Writes} {μ : Env} → Merge ω₁ ω₂ ω → Over ω₁ μ → Over ω μ
over_merge m_ends ends = ends
over_merge (m_more m ms) (more _ h) = more tt (over_merge ms h)

pub put_over : {sh : Sheet} {μ : Env} {v : Value} {e : Expr} {ω : Writes} → Put sh μ v e ω → Over ω μ
put_over (p_var {μ = μ} {x = x} e) = over_only μ x _ e
put_over (p_const {μ = μ}) = over_blank μ
put_over (p_cons d₁ d₂ m) = over_merge m (put_over d₁)
put_over (p_case i ds m h d o oᵢ r d₀ mg) = over_merge mg o
put_over (p_case_switch i ds m h k dd n d o oᵢ r d₀ mg) = over_merge mg o
put_over (p_let ds m d o oᵢ r d₀ mg) = over_merge mg o
put_over (p_pair d₁ d₂ m) = over_merge m (put_over d₁)
put_over (p_call {μ = μ} {x = x} ea eb d m) = over_merge m (over_only μ x _ ea)
put_over (p_add z low d) = put_over d
put_over (p_each {μ = μ} {x = x} ds e d d₀ m) = over_merge m (over_only μ x _ e)
put_over p_end = more tt (more tt ends)
put_over (p_next s d ds m) = more tt (more tt ends)

-- THE THEOREMS, for every sheet, node, environment, number of levels and allowance; σ says which cell each variable is, and W
-- what was written before
module _ (sh : Sheet) (n : ℕ) (μ : Env) (v : Value) (σ : List ℕ) (W : Cells) (laid : Laid W σ μ) where
  -- where put succeeds, the published relation holds, and W was merged with its writes
  pub put_sound : (l a s : ℕ) (X : Cells) → within a (put l sh n μ σ v W) ≡ done X s → Written sh μ v (residual sh n) σ W X
  put_sound l a s X e = after_at (rw (within-done a (put l sh n μ σ v W) e).0 at (puts_soundly l sh n μ σ v W laid))

  -- where the published relation holds and X is W merged with its writes, put gives X or is refused with 40, 41 or 44: with 40
  -- only where the derivation has more than l levels, with 41 only where it has more than a nodes
  pub put_complete : (l a : ℕ) (ω : Writes) (X : Cells) (d : Put sh μ v (residual sh n) ω) → Joined σ W ω X
      → Comes l a (put_cost d) X (within a (put l sh n μ σ v W))
  put_complete l a ω X d j = up_within (up_map (puts_all l a sh n μ σ v W ω X laid d j.later j.seen) λ Z k. joined_one k j)

  -- so a derivation of at most l levels and a nodes gives X, in exactly as many steps as it has nodes, or refusal 44
  pub put_exact : (l a : ℕ) (ω : Writes) (X : Cells) (d : Put sh μ v (residual sh n) ω) → Joined σ W ω X → (put_cost d).height ≤ l → (put_cost d).nodes ≤ a
      → Exactly (put_cost d) X (within a (put l sh n μ σ v W))
  put_exact l a ω X d j h k = up_exactly (put_complete l a ω X d j) h k

  -- and where put succeeds, there is a derivation of at most l levels and of exactly as many nodes as the steps
  pub put_counted : (l a s : ℕ) (X : Cells) → within a (put l sh n μ σ v W) ≡ done X s
      → (w : Written sh μ v (residual sh n) σ W X) × Costs l s (put_cost w.rel)
  put_counted l a s X e = let w = put_sound l a s X e in (w, up_costs (rw e at (put_complete l a w.ω X w.rel w.joined)))

-- one set of writes
pub put_functional : (sh : Sheet) (n : ℕ) (μ : Env) (v : Value) (ω ω' : Writes) → Put sh μ v (residual sh n) ω → Put sh μ v (residual sh n) ω' → ω ≡ ω'
put_functional sh n μ v ω ω' d d' = put_one sh (fair (node sh n)) d d'
