-- Law 2, acceptability: what get has given, put takes back and changes nothing.
use Rattle.std.specs.Prelude.{◌≡◌, ℕ, zero, suc, ◌+◌, ◌*◌, ◌≤◌, length}
use Rattle.std.proofs.Math.Path.{refl}
use Rattle.std.proofs.Common.{sym}
use Rattle.std.proofs.Math.Option.{Option, none, some, none-ne-some, some-injective}
use mathlib.Core.List.{List, [], ◌∷◌, ◌++◌}
use native.Mathlib.Omega.{arith}
use Rattle.std.proofs.Math.Nat.{add-sub_cancel}
use Rattle.std.proofs.Math.ListN.{get_elem?}
use Rattle.value.specs.Value.{Value, Values, vfalse, vtrue, list, number, wide, pair, nil, cons, size, sizes, Fits}
use Rattle.value.proofs.Encoding.{size_pos}
use Rattle.value.specs.Views.{as_list, as_front, as_pair, as_number, as_truth}
use Rattle.node.specs.declared.Node.{Node}
use Rattle.node.specs.declared.Node.TheVariants.{Var, False, True, Empty, Number, Front, Pair, ListCase, TruthCase, Split, Call, Add, Each, Wide}
use Rattle.sheet.specs.Sheet.{Sheet}
use Rattle.rules.specs.Outcome.{Out, done, ◌>>=◌}
-- the worked rows and the law of cells are checked before this, so that a wrong rule is refused by them first
use Rattle.rules.specs.Semantics
use Rattle.rules.specs.Counting.{Env, Cells, Getter, Putter, two, on_list, rest_of, get_each, get_node, get, or_old, constant, write, both, under}
use Rattle.rules.specs.Counting.{put_each, mk_list, mk_pair, put_node, put}
use Rattle.rules.specs.Laws.Outcomes.{After, stopped}
use Rattle.rules.proofs.Laws.Outcomes.{fine, after_map, after_at, gives_of, after_out, after_plus, after_bind, gives_bind, after_given, given-some}
use Rattle.rules.proofs.Laws.Outcomes.{given-when, given-number, after_list, choose_first}
use Rattle.rules.specs.Laws.Related.{All2, ends, more}
use Rattle.rules.proofs.Laws.Related.{all2_map, all2_append, all2_at, all2_of, all2_flip, all2_length, all2_take, all2_set, at_left, at_behind}
use Rattle.rules.proofs.Laws.Related.{at_seam, at_last}

-- the cells' old values are ω: those of the variables, and what is written is no other
abbrev pub Old : List ℕ → Env → Env → Type 0
Old σ ω μ = All2 (λ c m. (get_elem? ω c ≡ some m) × Fits m) σ μ

abbrev pub Keeps : Cells → Env → Type 0
Keeps W ω = All2 (λ o m. (w : Value) → o ≡ some w → w ≡ m) W ω

-- o is done, in at most b steps, and keeps the old values
abbrev pub KeepsWithin : Env → ℕ → Out Cells → Type 0
KeepsWithin ω b = After ⊥ (λ X t. Keeps X ω × (t ≤ b))

-- v fits, and P takes it back whatever is written
abbrev pub Accepts : (Value → Cells → Out Cells) → Env → Value → ℕ → Type 0
Accepts P ω v b = Fits v × ((W : Cells) → Keeps W ω → KeepsWithin ω b (P v W))

abbrev pub Stable : Getter → Putter → ℕ → Type 0
Stable g p l = (n : ℕ) (μ : Env) (σ : List ℕ) (ω : Env) → Old σ ω μ → After (Unit {0}) (λ v s. Accepts (p n μ σ) ω v (l * s)) (g n μ)

kept_le : {ω : Env} {b d : ℕ} {o : Out Cells} → KeepsWithin ω b o → b ≤ d → KeepsWithin ω d o
kept_le h k = after_map h λ X t p. (p.0, omega arith)

-- the subject's get, made again, takes the steps it took
kept_again : {A : Type 0} {ω : Env} {b d s : ℕ} {a : A} {m : Out A} (f : A → Out Cells) → m ≡ done a s → KeepsWithin ω b (f a) → s + b ≤ d
    → KeepsWithin ω d (m >>= f)
kept_again f e h k = gives_bind f (gives_of e) λ t ht. after_map h λ X u p. (p.0, omega arith)

take_same : (v : Value) (ω : Env) (b : ℕ) (W : Cells) → Keeps W ω → KeepsWithin ω b (constant v v W)
unfolding Semantics.constant
take_same v ω b W k = given-when _ _ refl λ _. fine (k, omega arith)

take_write : (c : ℕ) (m : Value) (ω : Env) (b : ℕ) (W : Cells) (o : Option Value) → get_elem? ω c ≡ some m → Keeps W ω → ((w : Value) → o ≡ some w → w ≡ m)
    → KeepsWithin ω b (write c m W o)
unfolding Semantics.write
take_write c m ω b W none e k h = fine (all2_set c (some m) k e (λ w ew. sym (some-injective _ _ ew)), omega arith)
take_write c m ω b W (some w) e k h = given-when _ _ (h w refl) λ _. fine (k, omega arith)

pub or_old_lem : (o : Option Value) (m : Value) → ((w : Value) → o ≡ some w → w ≡ m) → or_old o m ≡ m
unfolding Semantics.or_old
or_old_lem none m h = refl
or_old_lem (some w) m h = h w refl

pub free : (m w : Value) → none ≡ some w → w ≡ m
free m w e = absurd (none-ne-some w e)

module _ (g : Getter) (p : Putter) (l : ℕ) (ih : Stable g p l) (root d c : ℕ) (a : Value) (ω : Env) (e : get_elem? ω c ≡ some a) (za : Fits a) where
  -- what the members give is taken back, and the members are the old ones: k and n are the bytes of those before, with the 02
  each_accepts : (k : ℕ) (old : Values) → k ≤ 256 → Fits (list old) → After (Unit {0}) (λ ws s. (k + sizes ws ≤ 257)
      × ((n : ℕ) (W : Cells) → n + sizes old ≤ 257 → Keeps W ω
      → After ⊥ (λ q t. (q.0 ≡ old) × Keeps q.1 ω × (t ≤ l * s)) (put_each g p root d c a n old ws W))) (get_each g root a k old)
  unfolding Semantics.get_each Semantics.put_each Semantics.stood_for on_list rest_of size sizes
  each_accepts k nil zk z = fine (omega arith, λ n W zn kw. fine (refl, kw, omega arith))
  each_accepts k (cons m r) zk z =
      after_bind (ih root _ _ (ω ++ m ∷ []) (more (at_behind ω m [], omega arith) (more (at_left ω _ c e, za) ends))) λ w i _ hw. after_given _ λ z' _.
      after_bind (each_accepts (k + suc (size w)) r z' (omega arith)) λ ws j _ h. fine (
        omega (arith, h.0),
        λ n W zn kw.
            rw (all2_length kw) (gives_bind _ (gives_of refl) λ y hy. after_bind (hw.1 _ (all2_append kw (more (free m) ends))) λ X t _ hx.
            let (o, eo, ko) = all2_at _ (all2_flip hx.0) (at_behind ω m []) in given-some _ _ eo (rw (or_old_lem o m ko)
            (given-when _ _ (omega (arith, size_pos (list r))) λ _. after_bind (h.1 _ _ (omega arith) (all2_take ω _ hx.0)) λ q u _ hq.
            fine (rw hq.0 refl, hq.1, omega (arith, hq.2))))),
      )

module _ (g : Getter) (p : Putter) (l : ℕ) (ih : Stable g p l) (sh : Sheet) (μ : Env) (σ : List ℕ) (ω : Env) (old : Old σ ω μ) where
  both_takes : (a b : ℕ) (x y : Value) (i j : ℕ) → Accepts (p a μ σ) ω x i → Accepts (p b μ σ) ω y j → (W : Cells) → Keeps W ω
      → KeepsWithin ω (i + j) (both p μ σ W a x b y)
  unfolding Semantics.both
  both_takes a b x y i j ha hb W k = after_bind (ha.1 W k) λ X t _ hx. after_map (hb.1 X hx.0) λ Y u hy. (hy.0, omega arith)

  under_takes : (b s : ℕ) (mk : Value → Value → Option Value) (f r u v : Value) (i j : ℕ) → mk f r ≡ some u
      → Accepts (p b (μ ++ two f r) (σ ++ two (length ω) (suc (length ω)))) (ω ++ two f r) v i → Accepts (p s μ σ) ω u j
      → (W : Cells) → Keeps W ω → KeepsWithin ω (i + j) (under p μ σ W b v s mk f r)
  unfolding Semantics.under
  under_takes b s mk f r u v i j e hb hs W k = rw (all2_length k)
      (after_bind (hb.1 (W ++ two none none) (all2_append k (more (free f) (more (free r) ends)))) λ X t _ hx.
      let (x, ex, kx) = all2_at _ (all2_flip hx.0) (at_seam ω f r) in let (y, ey, ky) = all2_at _ (all2_flip hx.0) (at_last ω f r) in
      given-some _ _ ex (given-some _ _ ey (given-some _ _ (rw (or_old_lem x f kx, or_old_lem y r ky) e) (given-when _ _ hs.0 λ _.
      after_map (hs.1 _ (all2_take ω _ hx.0)) λ Y t₁ hy. (hy.0, omega arith)))))

  -- the old values of a branch that binds f and r
  deeper : (f r : Value) → Fits f → Fits r → Old (σ ++ two (length ω) (suc (length ω))) (ω ++ two f r) (μ ++ two f r)
  deeper f r zf zr = all2_append (all2_map (λ c m h. (at_left ω _ c h.0, h.1)) old) (more (at_seam ω f r, zf) (more (at_last ω f r, zr) ends))

  node_accepts : (n : Node) → After (Unit {0}) (λ v s. Accepts (put_node g p sh n μ σ) ω v (s + l * s)) (get_node g sh n μ)
  unfolding Semantics.get_node Semantics.put_node size Semantics.bounded as_list as_front as_pair as_number as_truth Semantics.tested on_list mk_pair mk_list
  node_accepts (Var x) = after_given _ λ m em. let (c, ec, h) = all2_at x (all2_flip old) em in
      fine (h.1, λ W k. let (o, eo, ho) = all2_at c (all2_flip k) h.0 in given-some _ _ ec (given-some _ _ eo (take_write c m ω _ W o h.0 k ho)))
  node_accepts False = fine (omega arith, take_same vfalse ω _)
  node_accepts True = fine (omega arith, take_same vtrue ω _)
  node_accepts Empty = fine (omega arith, take_same (list nil) ω _)
  node_accepts (Number n) = fine (omega arith, take_same (number n) ω _)
  node_accepts (Wide n) = fine (omega arith, take_same (wide n) ω _)
  node_accepts (Front a b) = after_bind (ih a μ σ ω old) λ f s _ hf. after_bind (ih b μ σ ω old) λ r t _ hr. after_given _ λ c _. after_given _ λ z _.
      fine (z, λ W k. given-some _ _ refl (kept_le (both_takes a b _ _ _ _ hf (rw c.1 at hr) W k) (omega arith)))
  node_accepts (Pair a b) = after_bind (ih a μ σ ω old) λ f s _ hf. after_bind (ih b μ σ ω old) λ r t _ hr. after_given _ λ z _.
      fine (z, λ W k. given-some _ _ refl (kept_le (both_takes a b _ _ _ _ hf hr W k) (omega arith)))
  node_accepts (ListCase s e te n tn df dr) = after_bind (ih s μ σ ω old) λ o i eo ho. after_given _ λ c ec. after_list c.0
      (λ el. after_bind (ih e μ σ ω old) λ v j _ hv. after_given _ λ t _. fine (
        hv.0,
        λ W k.
            kept_again {b = l * j + l * i} _ eo
            (given-some _ _ ec (rw el (choose_first _ _ _ t (both_takes e s v (list nil) _ _ hv (rw (c.1, el) at ho) W k)))) (omega arith),
      ))
      (λ f r el. let z : Fits (list (cons f r)) = rw (c.1, el) at ho.0 in
      after_bind (ih n _ _ _ (deeper f (list r) (omega arith) (omega arith))) λ v j _ hv. after_given _ λ t _. fine (
        hv.0,
        λ W k.
            kept_again {b = l * j + l * i} _ eo
            (given-some _ _ ec (rw el
            (choose_first _ _ _ t (under_takes n s mk_list f (list r) (list (cons f r)) v _ _ refl hv (rw (c.1, el) at ho) W k)))) (omega arith),
      ))
  node_accepts (TruthCase s f tf t t₁) = after_bind (ih s μ σ ω old) λ o i eo ho. after_given _ λ b eb. after_bind (ih _ μ σ ω old) λ v j _ hv.
      after_given _ λ h _.
      fine (hv.0, λ W k. kept_again _ eo (given-some _ _ eb (choose_first _ _ _ h (both_takes _ s v _ _ _ hv (rw b.1 at ho) W k))) (omega arith))
  node_accepts (Split s b) = after_bind (ih s μ σ ω old) λ o i eo ho. after_given _ λ c ec. let z : Fits (pair c.0 c.1) = rw c.2 at ho.0 in
      after_map (ih b _ _ _ (deeper c.0 c.1 (omega arith) (omega arith))) λ v j hv. (
        hv.0,
        λ W k.
            kept_again _ eo (given-some _ _ ec (under_takes b s mk_pair c.0 c.1 _ v _ _ refl hv (rw c.2 at ho) W k)) (omega arith),
      )
  node_accepts (Call sec x y) = after_given _ λ a ea. after_given _ λ b eb.
      let (c, ec, hc) = all2_at x (all2_flip old) ea in let (d, ed, hd) = all2_at y (all2_flip old) eb in
      after_map (ih _ _ _ ω (more hc (more hd ends))) λ v s h.
      (h.0, λ W k. given-some _ _ ea (given-some _ _ ec (given-some _ _ eb (given-some _ _ ed (kept_le (h.1 W k) (omega arith))))))
  node_accepts (Add n k) = after_bind (ih n μ σ ω old) λ o s _ h. after_given _ λ m _. after_given _ λ q _. fine (
    omega arith,
    λ W kw.
        given-number (m.0 + k) _ _ q λ _. given-when _ _ (omega arith) λ _. rw add-sub_cancel (kept_le ((rw m.1 at h).1 W kw) (omega arith)),
  )
  node_accepts (Each s sec x d) = after_bind (ih s μ σ ω old) λ o i eo ho. after_given _ λ m em. after_given _ λ a ea.
      let (c, ec, hc) = all2_at x (all2_flip old) ea in let hm : Accepts (p s μ σ) ω (list m.0) (l * i) = rw m.1 at ho in
      after_bind (each_accepts g p l ih _ d c a ω hc.0 hc.1 _ m.0 (omega arith) hm.0) λ ws j _ h. fine (
        omega (arith, h.0),
        λ W k.
            given-some _ _ refl (kept_again {b = l * j + l * i} _ eo (given-some _ _ em (given-some _ _ ea (given-some _ _ ec
            (after_bind (h.1 _ W (omega (arith, hm.0)) k) λ q t _ hq. rw hq.0 (after_map (hm.1 q.1 hq.1) λ X u hx.
            (hx.0, omega (arith, hq.2))))))) (omega arith)),
      )

pub stable : (l : ℕ) (sh : Sheet) → Stable (get l sh) (put l sh) l
unfolding Semantics.get Semantics.put
stable zero sh n μ σ ω old = stopped tt
stable (suc l) sh n μ σ ω old = after_plus 1 (after_map (node_accepts (get l sh) (put l sh) l (stable l sh) sh μ σ ω old _) λ v s h.
    (h.0, λ W k. after_plus 1 (after_map (h.1 W k) λ X t hx. (hx.0, omega arith))))

-- The law, in plain words.
module _ (l : ℕ) (sh : Sheet) (n : ℕ) (μ : Env) (σ : List ℕ) (v : Value) (s : ℕ) (get_done : get l sh n μ ≡ done v s) (ω : Env) where
  pub acceptability : length σ ≡ length μ
      → ((x c : ℕ) (m : Value) → get_elem? σ x ≡ some c → get_elem? μ x ≡ some m → (get_elem? ω c ≡ some m) × Fits m)
      → (W : Cells) → Keeps W ω → (X : Cells) × (t : ℕ) × (put l sh n μ σ v W ≡ done X t) × Keeps X ω × (t ≤ l * s)
  acceptability e h W k = let r = after_out ((after_at (rw get_done at (stable l sh n μ σ ω (all2_of σ μ e h)))).1 W k) in (r.0, r.1, r.2, r.3.0, r.3.1)
