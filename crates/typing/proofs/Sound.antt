-- Soundness: in a sheet that passed, a node that is reached gives values of its type, keeps cells to theirs, and is refused only as allowed.
use Rattle.std.specs.Prelude.{◌≡◌, ◌+◌, Bool, not, List, [], ◌∷◌, ◌++◌, length, take}
use Rattle.std.proofs.Math.Path.{refl}
use Rattle.std.proofs.Math.Bool.{true, false}
use Rattle.std.proofs.Math.Option.{Option, none, some}
use Prim.Native.Nat.{ℕ, zero, suc, ◌-◌}
use Rattle.std.proofs.Common.{arith}
use Rattle.std.proofs.Math.ListN.{get_elem?}
use Rattle.value.specs.Value.{Value, Values, vfalse, vtrue, list, number, wide, pair, nil, cons, size, truth}
use Rattle.value.specs.Views.{as_list}
use Rattle.node.specs.declared.Node.{Node}
use Rattle.node.specs.declared.Node.TheVariants.{Var, False, True, Empty, Number, Front, Pair, ListCase, TruthCase, Split, Call, Add, Each, Wide}
use Rattle.sheet.specs.Sheet.{Sheet}
use Rattle.sheet.specs.Laws.{Ranged}
use Rattle.rules.specs.Semantics
use Rattle.rules.specs.Semantics.{Env, two, pick, rest_of, mk_list, mk_pair}
use Rattle.rules.specs.Explain.{own, Cell}
use Rattle.rules.specs.Laws.Related.{ends, more}
use Rattle.rules.proofs.Laws.Related.{all2_map, all2_append, all2_at, all2_flip, all2_length, all2_take, all2_set, at_left, at_behind, at_last}
use Rattle.typing.specs.Types.{Ty, lists, pairs, Of, is_false, is_true, is_list, is_number, is_wide, is_pair, is_nil, is_cons}
use Rattle.typing.specs.Types as Types
use Rattle.typing.specs.Fits.{Lent, Scope, node_of, root_of, type_of, Fits, places, In, here, there, Reached, root, child, Passed}
use Rattle.typing.proofs.Fits.{section_root_lem}
use Rattle.typing.specs.Judging.{Judging, judging, Cells, Getter, Putter}
use Rattle.typing.specs.Ends.{wide_got, wide_put, Allowed, plain, Inside, further, Always}
use Rattle.typing.proofs.Ends.{gives, refuses, always_list, always_map, always_next}
use Rattle.typing.proofs.Ends.{there_is, asked, chosen, enters, saw_list, saw_truth, saw_pair, saw_number, saw_front}
use Rattle.typing.specs.Sound.{Scoped, Gets, CellOf, blank, full, Held, Named, At, Puts}

-- GET
module _ {sh : Sheet} {P : ℕ → Type 0} {nd : Node} {t : Ty} where
  bounded_ends : {v : Value} → Of P t v → Always (Inside sh P nd) (Of P t) (Semantics.bounded judging v)
  unfolding Semantics.bounded
  bounded_ends h = asked (own 44 none) none _ (omega arith) λ _. gives h

  tested_ends : (k : ℕ) {m : Judging Value} → Always (Inside sh P nd) (Of P t) m → Always (Inside sh P nd) (Of P t) (Semantics.tested judging k m)
  unfolding Semantics.tested
  tested_ends k h = always_next h λ v o. asked (own 46 none) none _ (omega arith) λ _. gives o

  get_each_ends : {u w : Ty} {a : Value} (g : Getter) (root : ℕ) → ((ν : Env) → Scoped P (two u w) ν → Always (Inside sh P nd) (Of P t) (g root ν))
      → Of P w a → (n : ℕ) (l : Values) → Types.Each P u l → Always (Inside sh P nd) (Types.Each P t) (Semantics.get_each judging g root a n l)
  unfolding Semantics.get_each
  get_each_ends g r₀ h oa n nil is_nil = gives is_nil
  get_each_ends g r₀ h oa n (cons m r) (is_cons om hr) = always_next (h _ (more om (more oa ends))) λ w ow. asked (own 44 none) none _ (omega arith) λ _.
      always_next (get_each_ends g r₀ h oa (n + suc (size w)) r hr) λ ws hs. gives (is_cons ow hs)

module _ (sh : Sheet) (ts : Lent) (P : ℕ → Type 0) (g : Getter) (t : Ty) (Γ : Scope) (μ : Env) (sc : Scoped P Γ μ) (nodes own' : ℕ) where
  get_node_ends : (nd : Node) → Fits ts nd t Γ → Ranged nodes (length sh.sections) own' nd → ((w : ℕ) → nd ≡ Wide w → P w) → Gets sh ts P nd t Γ g
      → Always (Inside sh P nd) (Of P t) (Semantics.get_node judging g sh nd μ)
  unfolding Semantics.get_node
  get_node_ends (Var x) f r w h = let (v, e, o) = all2_at x sc f in there_is _ _ _ e (gives o)
  get_node_ends False f r w h = gives (rw f is_false)
  get_node_ends True f r w h = gives (rw f is_true)
  get_node_ends Empty f r w h = gives (rw f.1 (is_list is_nil))
  get_node_ends (Number n) f r w h = gives (rw f (is_number r.0))
  get_node_ends (Wide n) f r w h = gives (rw f (is_wide (w n refl)))
  get_node_ends (Front a b) f r w h = always_next (h.child here sc) λ u ou. always_next (h.child (there here) sc) λ v ov.
      saw_list _ _ (rw (f.1, f.0) at ov) λ l el. bounded_ends (rw f.0 (is_list (is_cons ou el)))
  get_node_ends (Pair a b) f r w h = always_next (h.child here sc) λ u ou. always_next (h.child (there here) sc) λ v ov.
      bounded_ends (rw f (is_pair ou ov))
  get_node_ends (ListCase s e te n tn df dr) f r w h = always_next (h.child here sc) λ v ov. saw_list _ _ (rw f.0 at ov) λ l el.
      always_list el (λ _. tested_ends te (rw f.2 at (h.child (there here) sc)))
      λ x y ox ey. tested_ends tn (rw f.3 at
      (h.child {ν = μ ++ two x (list y)} (there (there here)) (rw f.0 (all2_append sc (more ox (more (is_list ey) ends))))))
  get_node_ends (TruthCase s f₁ tf t₁ tt₁) f r w h = always_next (h.child here sc) λ v ov. saw_truth _ _ (rw f.0 at ov) λ b. tested_ends _ (side b.0)
    where
      side : (b : Bool) → Always (Inside sh P (TruthCase s f₁ tf t₁ tt₁)) (Of P t) (g (pick b f₁ t₁) μ)
      side false = rw f.1 at (h.child (there here) sc)
      side true = rw f.2 at (h.child (there (there here)) sc)
  get_node_ends (Split s i) f r w h = always_next (h.child here sc) λ v ov. saw_pair _ _ (rw f.2 at ov) λ c oa ob.
      rw f.3 at (h.child {ν = μ ++ two c.0 c.1} (there here) (rw f.2 (all2_append sc (more oa (more ob ends)))))
  get_node_ends (Call c x y) f r w h = let (a, ea, oa) = all2_at x sc f.0 in let (b, eb, ob) = all2_at y sc f.1 in
      there_is _ _ _ ea (there_is _ _ _ eb (rw f.2 (h.root c r.0 (more oa (more ob ends)))))
  get_node_ends (Add m k) f r w h = always_next (h.child here sc) λ v ov. saw_number (own 43 none) refl (λ i p. wide_got p) (rw f.1 at ov) λ n.
      asked (own 45 none) none _ (omega arith) λ le. gives (rw f.0 (is_number le))
  get_node_ends (Each s c x d) f r w h = always_next (h.child here sc) λ v ov. saw_list _ _ (rw f.0 at ov) λ l el.
      let (a, ea, oa) = all2_at x sc f.2 in there_is _ _ _ ea (
      always_next (get_each_ends g (root_of sh c) (λ ν sν. h.root c r.1.0 sν) oa 1 l.0 el) λ ws es. gives (rw f.3 (is_list es)))

old_typed : {P : ℕ → Type 0} {t : Ty} {o : Option Cell} {v : Value} → CellOf P t o → Of P t v → Of P t (Semantics.or_old judging o v)
unfolding Semantics.or_old
old_typed blank h = h
old_typed (full k) h = k

module _ {P : ℕ → Type 0} {Θ : List Ty} {W : Cells} (hw : Held P Θ W) where
  here_is : (a : Ty) (zs : List Ty) → get_elem? (Θ ++ a ∷ zs) (length W) ≡ some a
  here_is a zs = rw (all2_length hw) at (at_behind Θ a zs)

  next_is : (a b : Ty) → get_elem? (Θ ++ two a b) (suc (length W)) ≡ some b
  next_is a b = rw (all2_length hw) at (at_last Θ a b)

  cut : {X : Cells} (zs : List Ty) → Held P (Θ ++ zs) X → Held P Θ (take (length W) X)
  cut zs hx = rw (all2_length hw) at (all2_flip (all2_take Θ zs (all2_flip hx)))

wider : (Θ zs : List Ty) {Γ : Scope} {σ : List ℕ} → Named Θ Γ σ → Named (Θ ++ zs) Γ σ
wider Θ zs nm = all2_map (λ t c e. at_left Θ zs c e) nm

module _ {P : ℕ → Type 0} {Θ : List Ty} {Γ : Scope} {μ : Env} {σ : List ℕ} {W : Cells} where
  -- a branch's two variables are two cells more
  branch_at : {a b : Ty} {u v : Value} → At P Θ Γ μ σ → Held P Θ W → Of P a u → Of P b v
      → At P (Θ ++ two a b) (Γ ++ two a b) (μ ++ two u v) (σ ++ two (length W) (suc (length W)))
  branch_at {a} {b} at hw ou ov = record {
    values = all2_append at.values (more ou (more ov ends));
    cells = all2_append (wider Θ (two a b) at.cells) (more (here_is hw a (b ∷ [])) (more (next_is hw a b) ends));
  }

module _ (sh : Sheet) (ts : Lent) (P : ℕ → Type 0) (g : Getter) (p : Putter) (t : Ty) (Γ : Scope) (Θ : List Ty) (μ : Env) (σ : List ℕ) (v : Value) (W : Cells)
    (at : At P Θ Γ μ σ) (ov : Of P t v) (hw : Held P Θ W) where
  constant_ends : (nd : Node) (u : Value) → Always (Inside sh P nd) (Held P Θ) (Semantics.constant judging v u W)
  unfolding Semantics.constant
  constant_ends nd u = asked (own 50 none) none _ (omega arith) λ _. gives hw

  write_ends : (nd : Node) (n c : ℕ) (o : Option Cell) → get_elem? Θ c ≡ some t
      → Always (Inside sh P nd) (Held P Θ) (Semantics.write judging (judging.mark n) c v W o)
  unfolding Semantics.write
  write_ends nd n c none e = gives (all2_flip (all2_set c _ (all2_flip hw) e (full ov)))
  write_ends nd n c (some w) e = asked (own 54 (some w.by)) none _ (omega arith) λ _. gives hw

  both_ends : {nd : Node} → Puts sh ts P nd t Γ p → {a b : ℕ} {x y : Value} → In (a, Γ) (places ts nd t Γ) → In (b, Γ) (places ts nd t Γ)
      → Of P (type_of ts a) x → Of P (type_of ts b) y → Always (Inside sh P nd) (Held P Θ) (Semantics.both judging p μ σ W a x b y)
  unfolding Semantics.both
  both_ends h i j ox oy = always_next (h.child i at ox hw) λ X hx. h.child j at oy hx

  under_ends : {nd : Node} → Puts sh ts P nd t Γ p → {b s : ℕ} (mk : Value → Value → Option Value) {x y : Value} {c d : Ty}
      → In (b, Γ ++ two c d) (places ts nd t Γ) → In (s, Γ) (places ts nd t Γ) → type_of ts b ≡ t
      → ((x y : Value) → Of P c x → Of P d y → (u : Value) × (mk x y ≡ some u) × Of P (type_of ts s) u)
      → Of P c x → Of P d y → Always (Inside sh P nd) (Held P Θ) (Semantics.under judging p μ σ W b v s mk x y)
  unfolding Semantics.under
  under_ends h mk {c} {d} i j e k ox oy = always_next (h.child i (branch_at at hw ox oy) (rw e ov) (all2_append hw (more blank (more blank ends)))) λ X hx.
      let (m, em, om) = all2_at (length W) hx (here_is hw c (d ∷ [])) in let (n, en, on) = all2_at (suc (length W)) hx (next_is hw c d) in
      let (u, eu, ou) = k _ _ (old_typed om ox) (old_typed on oy) in
      there_is _ _ _ em (there_is _ _ _ en (there_is _ _ _ eu (asked (own 44 none) none _ (omega arith) λ _. h.child j at ou (cut hw (two c d) hx))))

  stood_ends : {nd : Node} → Gets sh ts P nd t Γ g → {d : ℕ} {u : Ty} → In (d, []) (places ts nd t Γ) → type_of ts d ≡ u → (old : Values) → Types.Each P u old
      → Always (Inside sh P nd) (Of P u) (Semantics.stood_for judging g d old)
  unfolding Semantics.stood_for
  stood_ends h i e old k = always_list k (λ _. rw e at (h.child i ends)) λ m _ om _. gives om

rest_typed : {P : ℕ → Type 0} {t : Ty} {l : Values} → Types.Each P t l → Types.Each P t (rest_of l)
unfolding rest_of
rest_typed is_nil = is_nil
rest_typed (is_cons o h) = h

mk_list_lem : {P : ℕ → Type 0} {t u : Ty} → u ≡ lists t → (x y : Value) → Of P t x → Of P (lists t) y → (z : Value) × (mk_list x y ≡ some z) × Of P u z
unfolding mk_list as_list
mk_list_lem e x (list l) ox (is_list h) = (list (cons x l), refl, rw e (is_list (is_cons ox h)))
mk_list_lem {P = P} {t = t} {u = u} e x vfalse ox x3 = elim x3 [ ]
mk_list_lem {P = P} {t = t} {u = u} e x vtrue ox x4 = elim x4 [ ]
mk_list_lem {P = P} {t = t} {u = u} e x (number _) ox x6 = elim x6 [ ]
mk_list_lem {P = P} {t = t} {u = u} e x (wide _) ox x7 = elim x7 [ ]
mk_list_lem {P = P} {t = t} {u = u} e x (pair _ _) ox x9 = elim x9 [ ]

mk_pair_lem : {P : ℕ → Type 0} {a b u : Ty} → u ≡ pairs a b → (x y : Value) → Of P a x → Of P b y → (z : Value) × (mk_pair x y ≡ some z) × Of P u z
unfolding mk_pair
mk_pair_lem e x y ox oy = (pair x y, refl, rw e (is_pair ox oy))

module _ {sh : Sheet} {P : ℕ → Type 0} {nd : Node} (g : Getter) (p : Putter) (root d : ℕ) {u w t : Ty}
    (stood : (old : Values) → Types.Each P u old → Always (Inside sh P nd) (Of P u) (Semantics.stood_for judging g d old))
    (puts : (ν : Env) (ρ : List ℕ) (z : Value) (Θ : List Ty) (X : Cells) → At P Θ (two u w) ν ρ → Of P t z → Held P Θ X
    → Always (Inside sh P nd) (Held P Θ) (p root ν ρ z X))
    (Θ : List Ty) (c : ℕ) (ec : get_elem? Θ c ≡ some w) (a : Value) (oa : Of P w a) where
  put_each_ends : (n : ℕ) (old l : Values) (W : Cells) → Types.Each P u old → Types.Each P t l → Held P Θ W
      → Always (Inside sh P nd) (λ q. Types.Each P u q.0 × Held P Θ q.1) (Semantics.put_each judging g p root d c a n old l W)
  unfolding Semantics.put_each
  put_each_ends n old nil W ho is_nil hw = gives (is_nil, hw)
  put_each_ends n old (cons v r) W ho (is_cons ov hr) hw = always_next (stood old ho) λ m om.
      let at : At P (Θ ++ u ∷ []) (two u w) (two m a) (two (length W) c) = record {
        values = more om (more oa ends);
        cells = more (here_is hw u []) (more (at_left Θ (u ∷ []) c ec) ends);
      } in
      always_next (puts _ _ v _ _ at ov (all2_append hw (more blank ends))) λ X hx. let (o, eo, oo) = all2_at (length W) hx (here_is hw u []) in
      there_is _ _ _ eo (asked (own 44 none) none _ (omega arith) λ _.
      always_next (put_each_ends (n + suc (size (Semantics.or_old judging o m))) (rest_of old) r _ (rest_typed ho) hr (cut hw (u ∷ []) hx)) λ q hq. gives
      (is_cons (old_typed oo om) hq.0, hq.1))

module _ (sh : Sheet) (ts : Lent) (P : ℕ → Type 0) (g : Getter) (p : Putter) (t : Ty) (Γ : Scope) (Θ : List Ty) (μ : Env) (σ : List ℕ) (v : Value) (W : Cells)
    (at : At P Θ Γ μ σ) (ov : Of P t v) (hw : Held P Θ W) (nodes own' : ℕ) where
  put_node_ends : (i : ℕ) (nd : Node) → Fits ts nd t Γ → Ranged nodes (length sh.sections) own' nd → Gets sh ts P nd t Γ g → Puts sh ts P nd t Γ p
      → Always (Inside sh P nd) (Held P Θ) (Semantics.put_node judging (judging.mark i) g p sh nd μ σ v W)
  unfolding Semantics.put_node
  put_node_ends i (Var x) f r gs h = let (c, ec, et) = all2_at x at.cells f in let (o, eo, _) = all2_at c hw et in
      there_is _ _ _ ec (there_is _ _ _ eo (write_ends sh ts P g p t Γ Θ μ σ v W at ov hw _ i c o et))
  put_node_ends i False f r gs h = constant_ends sh ts P g p t Γ Θ μ σ v W at ov hw _ _
  put_node_ends i True f r gs h = constant_ends sh ts P g p t Γ Θ μ σ v W at ov hw _ _
  put_node_ends i Empty f r gs h = constant_ends sh ts P g p t Γ Θ μ σ v W at ov hw _ _
  put_node_ends i (Number n) f r gs h = constant_ends sh ts P g p t Γ Θ μ σ v W at ov hw _ _
  put_node_ends i (Wide n) f r gs h = constant_ends sh ts P g p t Γ Θ μ σ v W at ov hw _ _
  put_node_ends i (Front a b) f r gs h = saw_front (rw f.0 at ov) λ c ou er.
      both_ends sh ts P g p t Γ Θ μ σ v W at ov hw h here (there here) ou (rw (f.1, f.0) (is_list er))
  put_node_ends i (Pair a b) f r gs h = saw_pair _ _ (rw f at ov) λ c oa ob. both_ends sh ts P g p t Γ Θ μ σ v W at ov hw h here (there here) oa ob
  put_node_ends i (ListCase s e te n tn df dr) f r gs h = always_next (gs.child here at.values) λ o oo. saw_list _ _ (rw f.0 at oo) λ l el.
      always_list el
      (λ _. chosen _ _ empty (always_next (gs.child (there (there (there here))) (more ov ends)) λ x ox.
      always_next (gs.child (there (there (there (there here)))) (more ov ends)) λ y oy.
      let oy' : Of P (lists (type_of ts df)) y = rw (f.1, f.0) at oy in saw_list _ _ oy' λ _ _. full_branch x y ox oy'))
      λ x y ox ey. chosen _ _ (full_branch x (list y) ox (is_list ey)) empty
    where
      empty : Always (Inside sh P (ListCase s e te n tn df dr)) (Held P Θ) (Semantics.both judging p μ σ W e v s (list nil))
      empty = both_ends sh ts P g p t Γ Θ μ σ v W at ov hw h (there here) here (rw f.2 ov) (rw f.0 (is_list is_nil))

      branch : In (n, Γ ++ two (type_of ts df) (lists (type_of ts df))) (places ts (ListCase s e te n tn df dr) t Γ)
      branch = rw f.0 (there (there here))

      full_branch : (x y : Value) → Of P (type_of ts df) x → Of P (lists (type_of ts df)) y
          → Always (Inside sh P (ListCase s e te n tn df dr)) (Held P Θ) (Semantics.under judging p μ σ W n v s mk_list x y)
      full_branch x y ox oy = under_ends sh ts P g p t Γ Θ μ σ v W at ov hw h mk_list branch here f.3 (mk_list_lem f.0) ox oy
  put_node_ends i (TruthCase s f₁ tf t₁ tt₁) f r gs h = always_next (gs.child here at.values) λ o oo. saw_truth _ _ (rw f.0 at oo) λ b.
      chosen _ _ (side b.0) (side (not b.0))
    where
      side : (b : Bool) → Always (Inside sh P (TruthCase s f₁ tf t₁ tt₁)) (Held P Θ) (Semantics.both judging p μ σ W (pick b f₁ t₁) v s (truth b))
      side false = both_ends sh ts P g p t Γ Θ μ σ v W at ov hw h (there here) here (rw f.1 ov) (rw f.0 is_false)
      side true = both_ends sh ts P g p t Γ Θ μ σ v W at ov hw h (there (there here)) here (rw f.2 ov) (rw f.0 is_true)
  put_node_ends i (Split s b) f r gs h = always_next (gs.child here at.values) λ o oo. saw_pair _ _ (rw f.2 at oo) λ c oa ob.
      under_ends sh ts P g p t Γ Θ μ σ v W at ov hw h mk_pair branch here f.3 (mk_pair_lem f.2) oa ob
    where
      branch : In (b, Γ ++ two f.0 f.1) (places ts (Split s b) t Γ)
      branch = rw f.2 (there here)
  put_node_ends i (Call c x y) f r gs h =
      let (a, ea, oa) = all2_at x at.values f.0 in let (b, eb, ob) = all2_at y at.values f.1 in
      let (j, ej, tj) = all2_at x at.cells f.0 in let (k, ek, tk) = all2_at y at.cells f.1 in
      there_is _ _ _ ea (there_is _ _ _ ej (there_is _ _ _ eb (there_is _ _ _ ek (
      h.root c r.0 (record { values = more oa (more ob ends); cells = more tj (more tk ends) }) (rw f.2 at ov) hw))))
  put_node_ends i (Add m k) f r gs h = saw_number (own 51 none) refl (λ w pw. wide_put pw) (rw f.0 at ov) λ n.
      asked (own 52 none) none _ (omega arith) λ _. h.child here at (rw f.1 (is_number {n = n.0 - k} (omega (arith, n.2)))) hw
  put_node_ends i (Each s c x d) f r gs h = saw_list _ _ (rw f.3 at ov) λ l el. always_next (gs.child here at.values) λ o oo.
      saw_list _ _ (rw f.0 at oo) λ old eold.
      let (a, ea, oa) = all2_at x at.values f.2 in let (j, ej, tj) = all2_at x at.cells f.2 in
      there_is _ _ _ ea (there_is _ _ _ ej (always_next
      (put_each_ends g p (root_of sh c) d (stood_ends sh ts P g p t Γ Θ μ σ v W at ov hw gs (there here) f.1)
      (λ ν ρ z Φ X at' oz hx. h.root c r.1.0 at' oz hx) Θ j tj a oa 1 old.0 l.0 W eold el hw) λ q hq.
      h.child here at (rw f.0 (is_list hq.0)) hq.1))

-- WHOLE WALKS OF A SHEET THAT PASSED
module _ (sh : Sheet) (ts : Lent) (P : ℕ → Type 0) (passed : Passed sh ts)
    (ranged : (n : ℕ) → Ranged (length sh.nodes) (length sh.sections) n (node_of sh n)) (wides : (n w : ℕ) → node_of sh n ≡ Wide w → P w) where
  module _ (l : ℕ)
      (ih : (n : ℕ) (Γ : Scope) (μ : Env) → Reached sh ts n Γ → Scoped P Γ μ → Always (Allowed sh P) (Of P (type_of ts n)) (Semantics.get judging l sh n μ))
    where
      gets_below : {n : ℕ} {Γ : Scope} → Reached sh ts n Γ → Gets sh ts P (node_of sh n) (type_of ts n) Γ (Semantics.get judging l sh)
      gets_below r = record {
        child = λ i sc. always_map (ih _ _ _ (child r i) sc) (λ y v h. further h) λ a o. o;
        root = λ c lt sc. always_map (ih _ _ _ (root (section_root_lem sh ts c lt)) sc) (λ y v h. further h)
            λ a o. rw ((passed _ _ (root (section_root_lem sh ts c lt))).placed _ (section_root_lem sh ts c lt) refl) at o;
      }

  pub get_sound : (l n : ℕ) (Γ : Scope) (μ : Env) → Reached sh ts n Γ → Scoped P Γ μ
      → Always (Allowed sh P) (Of P (type_of ts n)) (Semantics.get judging l sh n μ)
  unfolding Semantics.get
  get_sound zero n Γ μ r sc = refuses (plain (omega arith))
  get_sound (suc l) n Γ μ r sc = enters n (get_node_ends sh ts P (Semantics.get judging l sh) (type_of ts n) Γ μ sc (length sh.nodes) n (node_of sh n)
      (passed n Γ r).fits (ranged n) (wides n) (gets_below l (get_sound l) r))

  module _ (l : ℕ)
      (ih : (n : ℕ) (Γ : Scope) (Θ : List Ty) (μ : Env) (σ : List ℕ) (v : Value) (W : Cells) → Reached sh ts n Γ → At P Θ Γ μ σ → Of P (type_of ts n) v
      → Held P Θ W → Always (Allowed sh P) (Held P Θ) (Semantics.put judging l sh n μ σ v W)) where
    puts_below : {n : ℕ} {Γ : Scope} → Reached sh ts n Γ → Puts sh ts P (node_of sh n) (type_of ts n) Γ (Semantics.put judging l sh)
    puts_below r = record {
      child = λ i at o h. always_map (ih _ _ _ _ _ _ _ (child r i) at o h) (λ y v h. further h) λ a o. o;
      root = λ c lt at o h. always_map (ih _ _ _ _ _ _ _ (root (section_root_lem sh ts c lt)) at
          (rw ((passed _ _ (root (section_root_lem sh ts c lt))).placed _ (section_root_lem sh ts c lt) refl) o) h)
          (λ y v h. further h) λ a o. o;
    }

  pub put_sound : (l n : ℕ) (Γ : Scope) (Θ : List Ty) (μ : Env) (σ : List ℕ) (v : Value) (W : Cells) → Reached sh ts n Γ → At P Θ Γ μ σ
      → Of P (type_of ts n) v → Held P Θ W → Always (Allowed sh P) (Held P Θ) (Semantics.put judging l sh n μ σ v W)
  unfolding Semantics.put
  put_sound zero n Γ Θ μ σ v W r at ov hw = refuses (plain (omega arith))
  put_sound (suc l) n Γ Θ μ σ v W r at ov hw = enters n (put_node_ends sh ts P (Semantics.get judging l sh) (Semantics.put judging l sh) (type_of ts n) Γ Θ μ σ
      v W
      at ov hw (length sh.nodes) n n (node_of sh n) (passed n Γ r).fits (ranged n) (gets_below l (get_sound l) r) (puts_below l (put_sound l) r))
