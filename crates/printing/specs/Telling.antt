-- EACH KIND OF NODE, said part by part: from what its parts wrote to what the definition says of the node.
use Rattle.std.specs.Prelude.{◌≡◌, refl, Bool, false, get_or}
use Rattle.std.proofs.Math.Path.{sym, ap, subst}
use Rattle.std.proofs.Common.{◌∙◌, arith, add-one}
use mathlib.Core.List.{List, [], ◌∷◌, ◌++◌, append_assoc}
use Prim.Native.Nat.{ℕ, zero, suc, ◌+◌, ◌≤◌, ◌<◌}
use Rattle.std.proofs.Math.ListN.{length, replicate}
use Rattle.report.specs.Text.{decimal_of}
use Rattle.report.specs.Writing.{Wrote}
use Rattle.node.specs.declared.Node.{Node}
use Rattle.node.specs.declared.Node.TheVariants.{Var, False, True, Empty, Number, Front, Pair, ListCase, TruthCase, Split, Call, Add, Each, Wide}
use Rattle.node.specs.Kinds.{row}
use Rattle.sheet.specs.Sheet.{Sheet}
use Rattle.node.specs.Decoding.{node_at}
use Rattle.sheet.specs.Laws.{Ranged, Child}
use Rattle.preorder.specs.Numbering.{node_of}
use Rattle.tokens.specs.Quoted.{bytes}
use Rattle.tokens.specs.Tokens.{arrow}
use Rattle.tokens.specs.Laid.{spelled}
use Rattle.syntax.specs.Printer.{Piece, tok, gap, the, sign, space, line, or_line, unless_plain, called, part_name, variable_said, test_said}
use Rattle.syntax.specs.Printer.{alone, spoken, tailed, TailOf, another, tail_of, plain_node, said, binder}
use Rattle.syntax.specs.Setting.{text_in}
use Rattle.printing.specs.declared.nodes.Source.{Source}
use Rattle.printing.specs.declared.pieces.First.TheVariants.{A, Sent}
use Rattle.printing.specs.declared.pieces.Scope.{Scope}
use Rattle.printing.specs.Pieces.{is_sent, reach_of, test_text, call_text, binders_text, empty_text, front_text, first_text, rest_text}
use Rattle.printing.specs.Pieces.{each_text, with_text, decimal_is}
use Rattle.printing.specs.Saying.{Says, says_then, Known, Ready, Standing, Trailing, Alone, Rest, Body, Branch, Defaults, defaults_said, meant, Tells}

-- a text that was written, as what is said
pub says_text : (f : List Piece → List Piece) {t : List ℕ} {i r : ℕ} {b b' : List ℕ} → Wrote t i b b' r → ((k : List Piece) → text_in (f k) ≡ t ++ text_in k)
    → Says f i b b' r
says_text f {t} w e = record { text = t; put = w; is = e }

-- the same of a text in parts
abbrev joined : List ℕ → List (List ℕ) → List ℕ
joined t [] = t
joined t (u ∷ us) = t ++ joined u us

abbrev before : List ℕ → List (List ℕ) → List ℕ → List ℕ
before t [] k = t ++ k
before t (u ∷ us) k = t ++ before u us k

before_is : (t : List ℕ) (us : List (List ℕ)) (k : List ℕ) → before t us k ≡ joined t us ++ k
before_is t [] k = refl
before_is t (u ∷ us) k = ap (λ (l : List ℕ). t ++ l) (before_is u us k) ∙ sym (append_assoc t (joined u us) k)

says_parts : (f : List Piece → List Piece) (t : List ℕ) (us : List (List ℕ)) {i r : ℕ} {b b' : List ℕ} → Wrote (joined t us) i b b' r
    → ((k : List Piece) → text_in (f k) ≡ before t us (text_in k)) → Says f i b b' r
says_parts f t us w e = record { text = joined t us; put = w; is = λ k. e k ∙ before_is t us (text_in k) }

-- two ways to say the same
pub says_as : {f g : List Piece → List Piece} {i r : ℕ} {b b' : List ℕ} → Says f i b b' r → ((k : List Piece) → text_in (g k) ≡ text_in (f k)) → Says g i b b' r
says_as p e = record { text = p.text; put = p.put; is = λ k. e k ∙ p.is k }

abbrev pub deeper : Scope → ℕ → Scope
deeper w i = record { count = w.count; first = w.first; indent = w.indent + i }

abbrev pub wider : Scope → Scope
wider w = record { count = w.count + 2; first = w.first; indent = w.indent }

abbrev pub sent_in : ℕ → Scope
sent_in i = record { count = 1; first = Sent; indent = i }

plus_two : (n : ℕ) → n + 2 ≡ suc (suc n)
plus_two n = omega arith

-- A NODE WITH WHAT IT NAMES

module _ {src : Source} {n : ℕ} where
  ranged : {sh : Sheet} {x : Node} → Known src sh → n < length sh.nodes → node_at src.sheet.now (get_or src.table n 0) ≡ x
      → Ranged (length sh.nodes) (length sh.sections) n x
  ranged {sh} {x} k h e = let z : node_of sh n ≡ x = sym (k.node n h) ∙ e in rw z at (k.ranges.node n h)

module _ {src : Source} {n : ℕ} {w : Scope} where
  -- what a node names stands behind it, and may be said
  pub next_ready : (q : Ready src n w) {c : ℕ} {w' : Scope} → Child (length q.sheet.nodes) n c → w'.count ≤ w.count + 2
      → w'.indent ≤ w.indent + 6 → Ready src c w'
  next_ready q g f d = record {
    sheet = q.sheet;
    known = q.known;
    inside = g.inside;
    few = omega (arith, q.few, g.above);
    shallow = omega (arith, q.shallow, g.above);
  }

  pub trailing_ready : Trailing src n w → {w' : Scope} → w'.count ≤ w.count → w'.indent ≤ w.indent + 2 → Ready src n w'
  trailing_ready q f d = record {
    sheet = q.ready.sheet;
    known = q.ready.known;
    inside = q.ready.inside;
    few = omega (arith, q.ready.few);
    shallow = omega (arith, q.shallower);
  }

  -- what node n names
  pub names : (q : Ready src n w) {x : Node} → node_at src.sheet.now (get_or src.table n 0) ≡ x → Ranged (length q.sheet.nodes) (length q.sheet.sections) n x
  names q e = ranged q.known q.inside e

  pub next_trailing : (q : Ready src n w) {c : ℕ} → Child (length q.sheet.nodes) n c → Trailing src c w
  next_trailing q g = record { ready = next_ready q g (omega arith) (omega arith); shallower = omega (arith, q.shallow, g.above) }

  module _ {at r : ℕ} {b b' : List ℕ} where
    -- the node itself, with one level less for what it names
    tells_deep : {x : Node} → node_at src.sheet.now (get_or src.table n 0) ≡ x
        → ((sh : Sheet) → Known src sh → n < length sh.nodes → (l : ℕ) → length sh.nodes ≤ n + suc l
        → Says (spoken (said sh l) (plain_node sh) (get_or src.plain n false) (reach_of w) w.indent x) at b b' r)
        → Tells src n (Alone w) at b b' r
    unfolding said
    tells_deep {x} e f = record { told = go }
      where
        go : (sh : Sheet) → Known src sh → n < length sh.nodes → (l : ℕ) → length sh.nodes ≤ n + l → Says (meant (Alone w) n sh l) at b b' r
        go sh k h zero d = absurd (omega arith)
        go sh k h (suc l) d =
            let z : node_of sh n ≡ x = sym (k.node n h) ∙ e in
            subst (λ (y : Node). Says (spoken (said sh l) (plain_node sh) (plain_node sh n) (reach_of w) w.indent y) at b b' r) (sym z)
            (subst (λ (p : Bool). Says (spoken (said sh l) (plain_node sh) p (reach_of w) w.indent x) at b b' r) (k.flat n h) (f sh k h l d))

    pub tells_node : {x : Node} → node_at src.sheet.now (get_or src.table n 0) ≡ x
        → ((sh : Sheet) → Known src sh → Ranged (length sh.nodes) (length sh.sections) n x → (l : ℕ)
        → ((c : ℕ) → Child (length sh.nodes) n c → length sh.nodes ≤ c + l)
        → Says (spoken (said sh l) (plain_node sh) (get_or src.plain n false) (reach_of w) w.indent x) at b b' r)
        → Tells src n (Alone w) at b b' r
    tells_node e f = tells_deep e λ sh k h l d. f sh k (ranged k h e) l (λ c g. omega (arith, g.above))

    -- the rest of a list
    pub tells_rest : (p : Bool) {x : Node} → node_at src.sheet.now (get_or src.table n 0) ≡ x
        → ((sh : Sheet) → Known src sh → n < length sh.nodes → Ranged (length sh.nodes) (length sh.sections) n x → (l : ℕ)
        → length sh.nodes ≤ n + suc l
        → Says (tailed (said sh l) (plain_node sh) p (plain_node sh n) (reach_of w) w.indent (tail_of x)) at b b' r)
        → Tells src n (Rest p w) at b b' r
    unfolding said
    tells_rest p {x} e f = record { told = go }
      where
        go : (sh : Sheet) → Known src sh → n < length sh.nodes → (l : ℕ) → length sh.nodes ≤ n + l → Says (meant (Rest p w) n sh l) at b b' r
        go sh k h zero d = absurd (omega arith)
        go sh k h (suc l) d =
            let z : node_of sh n ≡ x = sym (k.node n h) ∙ e in
            subst (λ (y : Node). Says (tailed (said sh l) (plain_node sh) p (plain_node sh n) (reach_of w) w.indent (tail_of y)) at b b' r) (sym z)
            (f sh k h (ranged k h e) l d)

module _ {src : Source} {n : ℕ} {w : Scope} {node : Node} {kind : ℕ} (q : Standing src n w node kind) where
  pub kids : {x : Node} → node ≡ x → Ranged (length q.ready.sheet.nodes) (length q.ready.sheet.sections) n x
  kids e = ranged q.ready.known q.ready.inside (q.is ∙ e)

  abbrev flat : Bool
  flat = get_or src.plain n false

  pub pair_tells : {x y at m₁ m₂ m₃ m₄ m₅ : ℕ} {b b₁ b₂ b₃ b₄ b₅ : List ℕ} → node ≡ Pair x y → Wrote (40 ∷ unless_plain flat) at b b₁ m₁
      → Tells src x (Alone (deeper w 2)) m₁ b₁ b₂ m₂
      → Wrote (or_line flat [] w.indent ++ (44 ∷ 32 ∷ [])) m₂ b₂ b₃ m₃ → Tells src y (Alone (deeper w 2)) m₃ b₃ b₄ m₄
      → Wrote (unless_plain flat ++ (41 ∷ [])) m₄ b₄ b₅ m₅ → Tells src n (Alone w) at b b₅ m₅
  unfolding spoken text_in spelled
  pair_tells e p₁ t₁ p₂ t₂ p₃ = tells_node (q.is ∙ e) λ sh k g l d. says_as
      (says_then (says_text (λ k. sign (bytes "(") ∷ gap (unless_plain flat) ∷ k) p₁ (λ k. refl))
      (says_then (t₁.told sh k g.0.inside l (d _ g.0))
      (says_then (says_parts (λ k. gap (or_line flat [] w.indent) ∷ sign (bytes ",") ∷ space ∷ k) (or_line flat [] w.indent) (bytes ", " ∷ []) p₂
      (λ k. refl))
      (says_then (t₂.told sh k g.1.0.inside l (d _ g.1.0))
      (says_parts (λ k. gap (unless_plain flat) ∷ sign (bytes ")") ∷ k) (unless_plain flat) (bytes ")" ∷ []) p₃ (λ k. refl)))))) (λ k. refl)

  pub front_tells : {x y at m₁ m₂ m₃ : ℕ} {b b₁ b₂ b₃ : List ℕ} → node ≡ Front x y → Wrote (91 ∷ unless_plain flat) at b b₁ m₁
      → Tells src x (Alone (deeper w 2)) m₁ b₁ b₂ m₂
      → Tells src y (Rest flat w) m₂ b₂ b₃ m₃ → Tells src n (Alone w) at b b₃ m₃
  unfolding spoken text_in spelled
  front_tells e p₁ t₁ t₂ = tells_node (q.is ∙ e) λ sh k g l d. says_as
      (says_then (says_text (λ k. sign (bytes "[") ∷ gap (unless_plain flat) ∷ k) p₁ (λ k. refl))
      (says_then (t₁.told sh k g.0.inside l (d _ g.0)) (t₂.told sh k g.1.0.inside l (d _ g.1.0)))) (λ k. refl)

  pub split_tells : {x y at m₁ m₂ m₃ m₄ m₅ : ℕ} {b b₁ b₂ b₃ b₄ b₅ : List ℕ} → node ≡ Split x y → Wrote (binders_text (reach_of w)) at b b₁ m₁
      → Tells src x (Alone (deeper w 2)) m₁ b₁ b₂ m₂
      → Wrote (bytes " in") m₂ b₂ b₃ m₃ → Wrote (or_line flat (bytes " ") w.indent) m₃ b₃ b₄ m₄
      → Tells src y (Alone (wider w)) m₄ b₄ b₅ m₅ → Tells src n (Alone w) at b b₅ m₅
  unfolding spoken text_in spelled binders_text
  split_tells e p₁ t₁ p₂ p₃ t₂ = tells_node (q.is ∙ e) λ sh k g l d. says_as
      (says_then (says_parts (λ k. the (bytes "let") ∷ space ∷ sign (bytes "(") ∷ binder (reach_of w) w.count ∷ sign (bytes ",") ∷ space
      ∷ binder (reach_of w) (w.count + 1) ∷ sign (bytes ")") ∷ space ∷ sign (bytes "=") ∷ space ∷ k)
      (bytes "let (") (called (is_sent w.first) w.count ∷ bytes ", " ∷ called (is_sent w.first) (w.count + 1) ∷ bytes ") = " ∷ []) p₁ (λ k. refl))
      (says_then (t₁.told sh k g.0.inside l (d _ g.0))
      (says_then (says_text (λ k. space ∷ the (bytes "in") ∷ k) p₂ (λ k. refl))
      (says_then (says_text (λ k. gap (or_line flat (bytes " ") w.indent) ∷ k) p₃ (λ k. refl))
      (t₂.told sh k g.1.0.inside l (d _ g.1.0)))))) (λ k. rw (add-one w.count, plus_two w.count))

  pub add_tells : {x v at m₁ m₂ m₃ : ℕ} {b b₁ b₂ b₃ : List ℕ} → node ≡ Add x v → Wrote (decimal_of v) at b b₁ m₁ → Wrote (bytes " + ") m₁ b₁ b₂ m₂
      → Tells src x (Alone w) m₂ b₂ b₃ m₃ → Tells src n (Alone w) at b b₃ m₃
  unfolding spoken text_in spelled
  add_tells {v = v} e p₁ p₂ t₁ = tells_node (q.is ∙ e) λ sh k g l d. says_as
      (says_then (says_text (λ k. gap (decimal_of v) ∷ k) p₁ (λ k. refl))
      (says_then (says_text (λ k. space ∷ sign (bytes "+") ∷ space ∷ k) p₂ (λ k. refl))
      (t₁.told sh k g.0.inside l (d _ g.0)))) (λ k. rw (decimal_is v))

  pub each_tells : {x c u y at m₁ m₂ m₃ m₄ : ℕ} {b b₁ b₂ b₃ b₄ : List ℕ} → node ≡ Each x c u y → Wrote (each_text c) at b b₁ m₁
      → Tells src x (Alone (deeper w 2)) m₁ b₁ b₂ m₂
      → Wrote (with_text (reach_of w) u) m₂ b₂ b₃ m₃
      → Tells src y (Alone (record { count = 0; first = A; indent = w.indent + 2 })) m₃ b₃ b₄ m₄ → Tells src n (Alone w) at b b₄ m₄
  unfolding spoken text_in spelled each_text with_text
  each_tells {c = c} {u} e p₁ t₁ p₂ t₂ = tells_node (q.is ∙ e) λ sh k g l d. says_as
      (says_then (says_parts (λ k. the (bytes "each") ∷ space ∷ the (part_name c) ∷ sign (bytes "(") ∷ k) (bytes "each ") (part_name c ∷ bytes "(" ∷ []) p₁
      (λ k. refl))
      (says_then (t₁.told sh k g.0.inside l (d _ g.0))
      (says_then (says_parts (λ k. sign (bytes ",") ∷ space ∷ tok (variable_said (reach_of w) u) ∷ sign (bytes ")") ∷ space ∷ the (bytes "default") ∷ space ∷ k)
      (bytes ", ") (spelled (variable_said (reach_of w) u) ∷ bytes ") default " ∷ []) p₂ (λ k. refl))
      (t₂.told sh k g.1.1.1.0.inside l (d _ g.1.1.1.0))))) (λ k. refl)

  pub truth_tells : {x y t z u at m₁ m₂ m₃ m₄ m₅ m₆ m₇ m₈ : ℕ} {b b₁ b₂ b₃ b₄ b₅ b₆ b₇ b₈ : List ℕ} → node ≡ TruthCase x y t z u
      → Wrote (bytes "case ") at b b₁ m₁ → Tells src x (Alone (deeper w 2)) m₁ b₁ b₂ m₂ → Wrote (bytes " of") m₂ b₂ b₃ m₃
      → Wrote (line (w.indent + 2) ++ bytes "false ->") m₃ b₃ b₄ m₄ → Tells src y (Branch (deeper w 4) t) m₄ b₄ b₅ m₅
      → Wrote (line (w.indent + 2) ++ bytes "true  ->") m₅ b₅ b₆ m₆ → Tells src z (Branch (deeper w 4) u) m₆ b₆ b₇ m₇
      → Wrote (line w.indent ++ bytes "end") m₇ b₇ b₈ m₈ → Tells src n (Alone w) at b b₈ m₈
  unfolding spoken text_in spelled
  truth_tells e p₁ t₁ p₂ p₃ t₂ p₄ t₃ p₅ = tells_node (q.is ∙ e) λ sh k g l d. says_as
      (says_then (says_text (λ k. the (bytes "case") ∷ space ∷ k) p₁ (λ k. refl))
      (says_then (t₁.told sh k g.0.inside l (d _ g.0))
      (says_then (says_text (λ k. space ∷ the (bytes "of") ∷ k) p₂ (λ k. refl))
      (says_then (says_parts (λ k. gap (line (w.indent + 2)) ∷ the (bytes "false") ∷ space ∷ sign arrow ∷ k) (line (w.indent + 2)) (bytes "false ->"
      ∷ []) p₃ (λ k. refl))
      (says_then (t₂.told sh k g.1.0.inside l (d _ g.1.0))
      (says_then (says_parts (λ k. gap (line (w.indent + 2)) ∷ the (bytes "true") ∷ gap (bytes "  ") ∷ sign arrow ∷ k) (line (w.indent + 2))
      (bytes "true  ->" ∷ []) p₄
      (λ k. refl))
      (says_then (t₃.told sh k g.1.1.1.0.inside l (d _ g.1.1.1.0))
      (says_parts (λ k. gap (line w.indent) ∷ the (bytes "end") ∷ k) (line w.indent) (bytes "end" ∷ []) p₅ (λ k. refl))))))))) (λ k. refl)

  -- the defaults
  pub defaults_tells : {x y t z u d₁ d₂ at m₁ m₂ m₃ m₄ m₅ : ℕ} {b b₁ b₂ b₃ b₄ b₅ : List ℕ} → node ≡ ListCase x y t z u d₁ d₂
      → Wrote (first_text (reach_of w) w.indent) at b b₁ m₁ → Tells src d₁ (Body (sent_in (w.indent + 6))) m₁ b₁ b₂ m₂
      → Wrote (rest_text (reach_of w)) m₂ b₂ b₃ m₃ → Tells src d₂ (Body (sent_in (w.indent + 6))) m₃ b₃ b₄ m₄
      → Wrote (line w.indent ++ bytes "end") m₄ b₄ b₅ m₅ → Tells src n (Defaults w node) at b b₅ m₅
  unfolding defaults_said text_in spelled first_text rest_text
  defaults_tells {x} {y} {t} {z} {u} {d₁} {d₂} {at} {m₅ = m₅} {b} {b₅ = b₅} e p₁ t₁ p₂ t₂ p₃ = record { told = go }
    where
      go : (sh : Sheet) → Known src sh → n < length sh.nodes → (l : ℕ) → length sh.nodes ≤ n + l
          → Says (meant (Defaults w node) n sh l) at b b₅ m₅
      go sh k h zero d = absurd (omega arith)
      go sh k h (suc l) d =
          let g = ranged k h (q.is ∙ e) in
          let first = g.1.1.1.1.1.0 in
          let rest = g.1.1.1.1.1.1.0 in
          subst (λ (v : Node). Says (λ k. defaults_said (said sh l) (plain_node sh) (reach_of w) w.indent v k) at b b₅ m₅) (sym e)
          (says_as
          (says_then (says_parts (λ k. gap (line (w.indent + 4)) ∷ the (bytes "default") ∷ space ∷ the (called (is_sent w.first) w.count) ∷ space ∷ sign
          (bytes "=") ∷ k)
          (line (w.indent + 4)) (bytes "default " ∷ called (is_sent w.first) w.count ∷ bytes " =" ∷ []) p₁ (λ k. refl))
          (says_then (t₁.told sh k first.inside l (omega (arith, first.above)))
          (says_then (says_parts (λ k. sign (bytes ",") ∷ space ∷ the (called (is_sent w.first) (w.count + 1)) ∷ space ∷ sign (bytes "=") ∷ k) (bytes ", ")
          (called (is_sent w.first) (w.count + 1) ∷ bytes " =" ∷ []) p₂ (λ k. refl))
          (says_then (t₂.told sh k rest.inside l (omega (arith, rest.above)))
          (says_parts (λ k. gap (line w.indent) ∷ the (bytes "end") ∷ k) (line w.indent) (bytes "end" ∷ []) p₃ (λ k. refl))))))
          (λ k. rw (add-one w.count)))

  -- the same node by another name
  pub standing_as : {x : Node} → node ≡ x → Standing src n w x kind
  standing_as e = record { ready = q.ready; is = q.is ∙ e; of_kind = sym (ap (λ y. (row y).kind) e) ∙ q.of_kind }

  pub list_tells : {x y t z u d₁ d₂ at m₁ m₂ m₃ m₄ m₅ m₆ m₇ : ℕ} {b b₁ b₂ b₃ b₄ b₅ b₆ b₇ : List ℕ} → node ≡ ListCase x y t z u d₁ d₂
      → Wrote (bytes "case ") at b b₁ m₁ → Tells src x (Alone (deeper w 2)) m₁ b₁ b₂ m₂
      → Wrote (empty_text (reach_of w) w.indent) m₂ b₂ b₃ m₃ → Tells src y (Branch (deeper w 4) t) m₃ b₃ b₄ m₄
      → Wrote (front_text (reach_of w) w.indent) m₄ b₄ b₅ m₅ → Tells src z (Branch (deeper (wider w) 4) u) m₅ b₅ b₆ m₆
      → Tells src n (Defaults w (ListCase x y t z u d₁ d₂)) m₆ b₆ b₇ m₇ → Tells src n (Alone w) at b b₇ m₇
  unfolding spoken text_in spelled empty_text front_text defaults_said
  list_tells e p₁ t₁ p₂ t₂ p₃ t₃ t₄ = tells_deep (q.is ∙ e) λ sh k h l d.
      let g = ranged k h (q.is ∙ e) in
      let x₁ = called (is_sent w.first) w.count in
      let y₁ = called (is_sent w.first) (w.count + 1) in
      says_as
      (says_then (says_text (λ k. the (bytes "case") ∷ space ∷ k) p₁ (λ k. refl))
      (says_then (t₁.told sh k g.0.inside l (omega (arith, g.0.above)))
      (says_then (says_parts (λ k. space ∷ the (bytes "of") ∷ gap (line (w.indent + 2)) ∷ sign (bytes "[") ∷ sign (bytes "]")
      ∷ gap (replicate (length x₁ + length y₁ + 4) 32) ∷ sign arrow ∷ k)
      (bytes " of") (line (w.indent + 2) ∷ bytes "[]" ∷ replicate (length x₁ + length y₁ + 4) 32 ∷ bytes "->" ∷ []) p₂ (λ k. refl))
      (says_then (t₂.told sh k g.1.0.inside l (omega (arith, g.1.0.above)))
      (says_then (says_parts (λ k. gap (line (w.indent + 2)) ∷ sign (bytes "[") ∷ the x₁ ∷ space ∷ sign (bytes "|") ∷ space ∷ the y₁ ∷ sign (bytes "]") ∷ space
      ∷ sign arrow ∷ k) (line (w.indent + 2)) (bytes "[" ∷ x₁ ∷ bytes " | " ∷ y₁ ∷ bytes "] ->" ∷ []) p₃ (λ k. refl))
      (says_then (t₃.told sh k g.1.1.1.0.inside l (omega (arith, g.1.1.1.0.above)))
      (t₄.told sh k h (suc l) d)))))))
      (λ k. rw (add-one w.count, plus_two w.count))

-- A NODE THAT NAMES NONE
module _ {src : Source} {n : ℕ} {w : Scope} {at r : ℕ} {b b' : List ℕ} where
  pub var_tells : {x : ℕ} → node_at src.sheet.now (get_or src.table n 0) ≡ Var x → Wrote (spelled (variable_said (reach_of w) x)) at b b' r
      → Tells src n (Alone w) at b b' r
  unfolding spoken text_in
  var_tells e p = tells_node e λ sh k g l d. says_text _ p (λ k. refl)

  pub false_tells : node_at src.sheet.now (get_or src.table n 0) ≡ False → Wrote (bytes "false") at b b' r → Tells src n (Alone w) at b b' r
  unfolding spoken text_in spelled
  false_tells e p = tells_node e λ sh k g l d. says_text _ p (λ k. refl)

  pub true_tells : node_at src.sheet.now (get_or src.table n 0) ≡ True → Wrote (bytes "true") at b b' r → Tells src n (Alone w) at b b' r
  unfolding spoken text_in spelled
  true_tells e p = tells_node e λ sh k g l d. says_text _ p (λ k. refl)

  pub empty_tells : node_at src.sheet.now (get_or src.table n 0) ≡ Empty → Wrote (bytes "[]") at b b' r → Tells src n (Alone w) at b b' r
  unfolding spoken text_in spelled
  empty_tells e p = tells_node e λ sh k g l d. says_text _ p (λ k. refl)

  pub number_tells : {v : ℕ} → node_at src.sheet.now (get_or src.table n 0) ≡ Number v → Wrote (decimal_of v) at b b' r → Tells src n (Alone w) at b b' r
  unfolding spoken text_in spelled
  number_tells {v} e p = tells_node e λ sh k g l d. says_text _ p (λ k. rw (decimal_is v))

  pub wide_tells : {v : ℕ} → node_at src.sheet.now (get_or src.table n 0) ≡ Wide v → Wrote (decimal_of v) at b b' r → Tells src n (Alone w) at b b' r
  unfolding spoken text_in spelled
  wide_tells {v} e p = tells_node e λ sh k g l d. says_text _ p (λ k. rw (decimal_is v))

  pub call_tells : {c x y : ℕ} → node_at src.sheet.now (get_or src.table n 0) ≡ Call c x y → Wrote (call_text (reach_of w) c x y) at b b' r
      → Tells src n (Alone w) at b b' r
  unfolding spoken text_in spelled call_text
  call_tells {c} {x} {y} e p = tells_node e λ sh k g l d. says_parts _ (part_name c)
      (bytes "(" ∷ spelled (variable_said (reach_of w) x) ∷ bytes ", " ∷ spelled (variable_said (reach_of w) y) ∷ bytes ")" ∷ []) p (λ k. refl)

-- BEHIND AN ARROW, with and without a test
module _ {src : Source} {n : ℕ} {w : Scope} {at m r : ℕ} {b b₁ b₂ : List ℕ} where
  pub body_tells : Wrote (or_line (get_or src.plain n false) (bytes " ") w.indent) at b b₁ m → Tells src n (Alone w) m b₁ b₂ r
      → Tells src n (Body w) at b b₂ r
  unfolding text_in
  body_tells p t = record {
    told = λ sh k h l d. says_as
        (says_then (says_text (λ k. gap (or_line (get_or src.plain n false) (bytes " ") w.indent) ∷ k) p (λ k. refl)) (t.told sh k h l d))
        (λ z. ap (λ (q : Bool). or_line q (bytes " ") w.indent ++ text_in (said sh l alone (reach_of w) w.indent n z)) (sym (k.flat n h)));
  }

test_said_lem : (t : ℕ) (k : List Piece) → text_in (test_said t k) ≡ test_text t ++ text_in k
unfolding test_said test_text text_in spelled
test_said_lem zero k = refl
test_said_lem (suc t) k = simp append_assoc

module _ {src : Source} {n : ℕ} {w : Scope} {at m r : ℕ} {b b₁ b₂ : List ℕ} where
  pub branch_tells : {t : ℕ} → Tells src n (Body w) at b b₁ m → Wrote (test_text t) m b₁ b₂ r → Tells src n (Branch w t) at b b₂ r
  branch_tells {t} u p = record { told = λ sh k h l d. says_then (u.told sh k h l d) (says_text (λ k. test_said t k) p (test_said_lem t)) }

-- THE REST OF A LIST
module _ {src : Source} {n : ℕ} {w : Scope} (p : Bool) where
  pub end_tells : {at r : ℕ} {b b' : List ℕ} → node_at src.sheet.now (get_or src.table n 0) ≡ Empty → Wrote (unless_plain p ++ (93 ∷ [])) at b b' r
      → Tells src n (Rest p w) at b b' r
  unfolding tailed tail_of text_in spelled
  end_tells e t = tells_rest p e λ sh k h g l d. says_parts (λ k. gap (unless_plain p) ∷ sign (bytes "]") ∷ k) (unless_plain p) (bytes "]" ∷ []) t (λ k. refl)

  pub member_tells : {x y at m₁ m₂ r : ℕ} {b b₁ b₂ b' : List ℕ} → node_at src.sheet.now (get_or src.table n 0) ≡ Front x y
      → Wrote (or_line p [] w.indent ++ (44 ∷ 32 ∷ [])) at b b₁ m₁ → Tells src x (Alone (deeper w 2)) m₁ b₁ b₂ m₂
      → Tells src y (Rest p w) m₂ b₂ b' r → Tells src n (Rest p w) at b b' r
  unfolding tailed tail_of text_in spelled
  member_tells e t₁ t₂ t₃ = tells_rest p e λ sh k h g l d. says_as
      (says_then (says_parts (λ k. gap (or_line p [] w.indent) ∷ sign (bytes ",") ∷ space ∷ k) (or_line p [] w.indent) (bytes ", " ∷ []) t₁ (λ k. refl))
      (says_then (t₂.told sh k g.0.inside l (omega (arith, g.0.above))) (t₃.told sh k g.1.0.inside l (omega (arith, g.1.0.above))))) (λ k. refl)

  -- a node that is neither a front nor the end
  pub other_tells : {x : Node} {at m₁ m₂ m₃ r : ℕ} {b b₁ b₂ b₃ b' : List ℕ} → node_at src.sheet.now (get_or src.table n 0) ≡ x → tail_of x ≡ another
      → Wrote (or_line p (bytes " ") w.indent) at b b₁ m₁ → Wrote (bytes "| ") m₁ b₁ b₂ m₂ → Tells src n (Alone (deeper w 2)) m₂ b₂ b₃ m₃
      → Wrote (unless_plain p ++ (93 ∷ [])) m₃ b₃ b' r → Tells src n (Rest p w) at b b' r
  unfolding tailed text_in spelled said
  other_tells {x} e z t₁ t₂ t₃ t₄ = tells_rest p e λ sh k h g l d.
      let y : node_of sh n ≡ x = sym (k.node n h) ∙ e in
      says_as
      (says_then (says_text (λ k. gap (or_line p (bytes " ") w.indent) ∷ k) t₁ (λ k. refl))
      (says_then (says_text (λ k. sign (bytes "|") ∷ space ∷ k) t₂ (λ k. refl))
      (says_then (t₃.told sh k h (suc l) d)
      (says_parts (λ k. gap (unless_plain p) ∷ sign (bytes "]") ∷ k) (unless_plain p) (bytes "]" ∷ []) t₄ (λ k. refl)))))
      (λ k. ap (λ (t : TailOf x). text_in (tailed (said sh l) (plain_node sh) p (plain_node sh n) (reach_of w) w.indent t k)) z
      ∙ ap (λ (v : Node). or_line p (bytes " ") w.indent ++ (124 ∷ 32 ∷ text_in (spoken (said sh l) (plain_node sh) (plain_node sh n) (reach_of w)
      (w.indent + 2) v
      (gap (unless_plain p) ∷ sign (bytes "]") ∷ k)))) (sym y))
