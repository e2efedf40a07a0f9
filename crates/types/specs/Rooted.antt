-- Whether a node that is a root has the type that is asked there: the main root's, then section by section.
use Rattle.std.specs.Prelude.{◌≡◌, refl, Bool, cond, List, ◌∷◌, ℕ, suc, ◌+◌, ◌*◌, ◌≤◌, ◌<◌, eqb, length, get_or}
use Rattle.std.proofs.Common.{sym, ap, ◌∙◌, add-zero, zero-add, arith, eqb-true, eq-eqb}
use Rattle.std.proofs.Math.Bool.{true, false}
use Rattle.std.proofs.Math.Decide.{ℕ_discrete}
use Rattle.shapes.specs.Parts.{same_bytes}
use Rattle.shapes.proofs.PartsLaws.{same_bytes_lem, same_refl}
use Rattle.sheet.specs.Sheet.{Sheet}
use Rattle.sheet.specs.Table.{section_at}
use Rattle.typing.specs.Types.{Ty}
use Rattle.typing.specs.Fits.{Lent, root_of, type_of, section_of, In, here, there, Root, section_root, section_roots, main_root, Placed}
use Rattle.typing.proofs.Fits.{section_root_lem}
use Rattle.typing.specs.Check.{apart, placed?}
use Rattle.typing.specs.Written.{bytes_of}
use Rattle.typing.proofs.Written.{bytes_same}
use Rattle.types.specs.Slots.{part_at, At, Laid}
use Rattle.types.specs.Uses.{Roots}
use Rattle.types.specs.Decided.{holds, decided, in_result}

-- what the code is told of the roots, and of the types
pub record Rooted (sheet types starts : List ℕ) (root sections i : ℕ) (sh : Sheet) (ts : Lent) : Type 0 where
  pub main : root ≡ sh.root
  pub roots : Roots sheet sections sh.sections
  pub laid : Laid types starts sections (length sh.nodes) ts
  pub own : i < length sh.nodes

-- the type of node i, where it is asked
unfoldable pub asked : (types starts : List ℕ) (i slot : ℕ) → Bool → Bool
asked types starts i slot b = cond b (same_bytes (part_at types starts (41 + i)) (part_at types starts slot)) true

-- asked of the main root and of the first c sections'
pub record PlacedTo (sh : Sheet) (ts : Lent) (i c : ℕ) : Type 0 where
  pub main : sh.root ≡ i → type_of ts i ≡ ts.view
  pub each : (j : ℕ) → j < c → root_of sh j ≡ i → type_of ts i ≡ (section_of ts j).result

in_sections : (ts : Lent) (c : ℕ) (l : List ℕ) {r : Root} → In r (section_roots ts c l) → (j : ℕ) × (j < length l)
    × (r ≡ section_root ts (c + j) (get_or l j 0))
in_sections ts c mathlib.Core.List.[] {r = r} x' = elim x' [ ]
in_sections ts c (x ∷ l) here = (0, omega arith, rw (add-zero c))
in_sections ts c (x ∷ l) (there k) =
    let q = in_sections ts (suc c) l k in let z : suc c + q.0 ≡ c + suc q.0 = omega arith in
    (suc q.0, omega (arith, q.1), rw z at q.2)

module _ (sh : Sheet) (ts : Lent) (i : ℕ) where
  placed_all : PlacedTo sh ts i (length sh.sections) → Placed sh ts i
  placed_all k r here e = k.main e
  placed_all k r (there j) e =
      let q = in_sections ts 0 sh.sections j in
      let z : r ≡ section_root ts q.0 (root_of sh q.0) = rw (zero-add q.0) at q.2 in
      let n : root_of sh q.0 ≡ i = sym (ap (λ (x : Root). x.node) z) ∙ e in
      k.each q.0 q.1 n ∙ sym (ap (λ (x : Root). x.type) z)

module _ {sheet types starts : List ℕ} {root sections i : ℕ} {sh : Sheet} {ts : Lent} (k : Rooted sheet types starts root sections i sh ts) where
  asked_yes : {slot : ℕ} {u : Ty} {b r : Bool} → At types starts slot u → r ≡ asked types starts i slot b → r ≡ true → b ≡ true → type_of ts i ≡ u
  unfolding asked
  asked_yes {u = u} a e t h =
      let o = k.laid.node i k.own in let q = rw (h, o.is, a.is) at (sym t ∙ e) in
      bytes_same (type_of ts i) u (same_bytes_lem (bytes_of (type_of ts i)) (bytes_of u) (sym q))

  asked_no : {slot : ℕ} {u : Ty} (b : Bool) {r : Bool} → At types starts slot u → r ≡ asked types starts i slot b → r ≡ false
      → (b ≡ true) × (type_of ts i ≡ u → ⊥)
  unfolding asked
  asked_no {u = u} true a e f =
      let o = k.laid.node i k.own in let q = rw (o.is, a.is) at (sym f ∙ e) in
      (refl, λ z. let y = rw z at q in let x = same_refl (bytes_of u) in apart (cc))
  asked_no false a e f = apart (cc)

  pub main_yes : {r : Bool} → r ≡ asked types starts i 40 (eqb root i) → r ≡ true → PlacedTo sh ts i 0
  main_yes e t = record {
    main = λ z. asked_yes k.laid.view e t (eq-eqb root i (k.main ∙ z));
    each = λ j h. absurd (omega arith);
  }

  pub main_no : {r : Bool} → r ≡ asked types starts i 40 (eqb root i) → r ≡ false → false ≡ holds (placed? sh ts i)
  main_no e f = decided (placed? sh ts i) false (λ z. apart (cc)) λ p.
      let q = asked_no (eqb root i) k.laid.view e f in
      absurd (q.1 (p (main_root sh ts) here (sym k.main ∙ eqb-true root i q.0)))

  module _ {c s slot : ℕ} (h : c < sections) (n : s ≡ section_at sheet c) (e : c < 8 → slot ≡ 16 + 3 * c + 2) {r : Bool}
      (q : r ≡ asked types starts i slot (eqb s i)) where
    root_is : s ≡ root_of sh c
    root_is = n ∙ k.roots.each c (omega (arith, k.roots.many))

    pub section_yes : PlacedTo sh ts i c → r ≡ true → PlacedTo sh ts i (c + 1)
    section_yes p t = record { main = p.main; each = λ j l z. go j l z (ℕ_discrete j c) }
      where
        go : (j : ℕ) → j < c + 1 → root_of sh j ≡ i → Dec (j ≡ c) → type_of ts i ≡ (section_of ts j).result
        go j l z (yes d) =
            let y : s ≡ i = root_is ∙ sym (ap (root_of sh) d) ∙ z in
            asked_yes (in_result k.laid h e) q t (eq-eqb s i y) ∙ ap (λ m. (section_of ts m).result) (sym d)
        go j l z (no d) = p.each j (omega arith) z

    pub section_no : r ≡ false → false ≡ holds (placed? sh ts i)
    section_no f = decided (placed? sh ts i) false (λ z. apart (cc)) λ p.
        let x = asked_no (eqb s i) (in_result k.laid h e) q f in
        absurd (x.1 (p (section_root ts c (root_of sh c)) (section_root_lem sh ts c (omega (arith, k.roots.many))) (sym root_is ∙ eqb-true s i x.0)))

  pub placed_done : {c : ℕ} → sections ≤ c → PlacedTo sh ts i c → true ≡ holds (placed? sh ts i)
  placed_done {c} h p = decided (placed? sh ts i) true (λ _. placed_all sh ts i (record { main = p.main; each = go })) λ _. refl
    where
      go : (j : ℕ) → j < length sh.sections → root_of sh j ≡ i → type_of ts i ≡ (section_of ts j).result
      go j l z = p.each j (omega (arith, l, h, k.roots.many)) z
