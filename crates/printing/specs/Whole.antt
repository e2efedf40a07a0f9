-- THE WHOLE SHEET, part by part: the plan, the list, each section.
use Rattle.std.specs.Prelude.{◌≡◌, refl, false, List, [], ◌∷◌, ◌++◌, ℕ, zero, suc, pred, ◌+◌, ◌≤◌, ◌<◌, length, get_or, drop}
use Rattle.std.proofs.Common.{sym, ap, subst, ◌∙◌, append_assoc, arith, add-one, drop_of_length-le}
use Rattle.report.specs.Writing.{Wrote, wrote_then, wrote_text, wrote_long}
use Rattle.sheet.specs.declared.Table.{Table}
use Rattle.sheet.specs.Sheet.{Sheet}
use Rattle.sheet.specs.Table.{section_at}
use Rattle.sheet.specs.Laws.{Reads}
use Rattle.tokens.specs.Quoted.{bytes}
use Rattle.tokens.specs.Laid.{spelled}
use Rattle.syntax.specs.Printer.{Piece, gap, the, sign, space, part_name, called}
use Rattle.syntax.specs.Printer.{reach, root_said, plan_said, sections_said, sheet_said, name_of, suffix}
use Rattle.syntax.specs.Setting.{text_in}
use Rattle.syntax.specs.Texts.{text_of}
use Rattle.printing.specs.declared.nodes.Source.{Source}
use Rattle.printing.specs.declared.pieces.First.TheVariants.{A}
use Rattle.printing.specs.declared.pieces.Scope.{Scope}
use Rattle.printing.specs.Flat.{Flats}
use Rattle.printing.specs.Saying.{Says, says_then, Known, Ready, Body, Tells}
use Rattle.printing.specs.Telling.{says_text, says_as}

-- THE PLAN with j names behind the first
pub record Planned (j at : ℕ) (b b' : List ℕ) (r : ℕ) : Type 0 where
  pub said : Says (λ k. the (bytes "plan") ∷ space ∷ plan_said 0 j k) at b b' r

unfoldable pub head_text : ℕ → List ℕ
head_text i = bytes "\n\nsection " ++ (part_name i ++ bytes "(a, b) =")

-- THE SECTIONS

-- so many sections, and their roots
pub record Roots (s : List ℕ) (count : ℕ) (sh : Sheet) : Type 0 where
  pub many : count ≡ length sh.sections
  pub root : (i : ℕ) → i < length sh.sections → section_at s i ≡ get_or sh.sections i 0

pub record Lent (src : Source) (count : ℕ) : Type 0 where
  pub sheet : Sheet
  pub known : Known src sheet
  pub roots : Roots src.sheet.now count sheet

-- the first i sections are written
pub record Sectioned (sh : Sheet) (i at : ℕ) (b b' : List ℕ) (r : ℕ) : Type 0 where
  pub text : List ℕ
  pub put : Wrote text at b b' r
  pub is : text_in (sections_said sh 0 sh.sections) ≡ text ++ text_in (sections_said sh i (drop i sh.sections))

pub record SectionsPut (src : Source) (count i at : ℕ) (b b' : List ℕ) (r : ℕ) : Type 0 where
  pub told : (sh : Sheet) → Known src sh → Roots src.sheet.now count sh → Sectioned sh i at b b' r

-- THE TEXT of whatever sheet is read
pub record Prints (s : List ℕ) (t : Table) (b b' : List ℕ) (r : ℕ) : Type 0 where
  pub told : (sh : Sheet) → Reads s t sh → Wrote (text_of sh) 0 b b' r

-- WHAT THEY ARE LENT
module _ {s : List ℕ} {t : Table} {sh : Sheet} (r : Reads s t sh) where
  pub known_of : {src : Source} → src.sheet.now ≡ s → src.table ≡ t.starts → Flats sh 0 src.plain → Known src sh
  known_of e q f = record { node = rw (e, q) r.node; flat = λ i h. f.told i (omega arith) h; ranges = r.ranges }

  pub roots_of : Roots s t.sections sh
  roots_of = record { many = r.sections; root = r.section }

-- the list's root, and a section's
pub root_ready : {s : List ℕ} {t : Table} {sh : Sheet} {src : Source} {w : Scope} → Reads s t sh → Known src sh → w.count ≡ t.k → w.indent ≡ 2
    → Ready src t.root w
root_ready {sh = sh} r f e d = record {
  sheet = sh;
  known = f;
  inside = omega (arith, r.root, r.ranges.root);
  few = omega (arith, r.k, r.ranges.few_variables);
  shallow = omega arith;
}

pub section_ready : {src : Source} {count i n : ℕ} {w : Scope}
    → (q : Lent src count) → i < count → n ≡ section_at src.sheet.now i → w.count ≡ 2
    → w.indent ≡ 2 → Ready src n w
section_ready {i = i} {n} q h e f d =
    let l : i < length q.sheet.sections = omega (arith, q.roots.many) in
    let z : n ≡ get_or q.sheet.sections i 0 = e ∙ q.roots.root i l in
    record {
      sheet = q.sheet;
      known = q.known;
      inside = omega (arith, q.known.ranges.section i l);
      few = omega arith;
      shallow = omega arith;
    }

-- THE PLAN'S NAMES, one by one

pub plan_first : {at r : ℕ} {b b' : List ℕ} → Wrote (bytes "plan a") at b b' r → Planned 0 at b b' r
unfolding plan_said text_in spelled called name_of suffix
plan_first w = record { said = says_text (λ k. the (bytes "plan") ∷ space ∷ plan_said 0 0 k) w (λ k. refl) }

plan_last : (i j : ℕ) (k : List Piece) → plan_said i (suc j) k ≡ plan_said i j (sign (bytes ",") ∷ space ∷ the (called false (i + suc j)) ∷ k)
unfolding plan_said
plan_last i zero k = let z : suc i ≡ i + 1 = omega arith in ap (λ (n : ℕ). the (called false i) ∷ sign (bytes ",") ∷ space ∷ the (called false n) ∷ k) z
plan_last i (suc j) k =
    let z : suc i + suc j ≡ i + suc (suc j) = omega arith in
    ap (λ (l : List Piece). the (called false i) ∷ sign (bytes ",") ∷ space ∷ l)
    (plan_last (suc i) j k ∙ ap (λ (n : ℕ). plan_said (suc i) j (sign (bytes ",") ∷ space ∷ the (called false n) ∷ k)) z)

plan_next : {j at m₁ m₂ r : ℕ} {b b₁ b₂ b₃ : List ℕ} → Planned j at b b₁ m₁ → Wrote (bytes ", ") m₁ b₁ b₂ m₂ → Wrote (called false (suc j)) m₂ b₂ b₃ r
    → Planned (suc j) at b b₃ r
unfolding text_in spelled
plan_next {j} p w v = record {
  said = says_as
      (says_then p.said (says_then (says_text (λ k. sign (bytes ",") ∷ space ∷ k) w (λ k. refl)) (says_text (λ k. the (called false (suc j)) ∷ k) v
      (λ k. refl))))
      (λ k. let z : 0 + suc j ≡ suc j = omega arith in
      ap (λ (l : List Piece). text_in (the (bytes "plan") ∷ space ∷ l))
      (plan_last 0 j k ∙ ap (λ (n : ℕ). plan_said 0 j (sign (bytes ",") ∷ space ∷ the (called false n) ∷ k)) z));
}

pub plan_more : (i : ℕ) {at m₁ m₂ r : ℕ} {b b₁ b₂ b₃ : List ℕ} → 1 ≤ i → Planned (pred i) at b b₁ m₁ → Wrote (bytes ", ") m₁ b₁ b₂ m₂
    → Wrote (called false i) m₂ b₂ b₃ r → Planned (pred (i + 1)) at b b₃ r
plan_more zero h p w v = absurd (omega arith)
plan_more (suc j) {at} {r = r} {b} {b₃ = b₃} h p w v =
    let z : suc j ≡ pred (suc j + 1) = omega arith in subst (λ (n : ℕ). Planned n at b b₃ r) z (plan_next p w v)

pub plan_all : {i k at r : ℕ} {b b' : List ℕ} → Planned (pred i) at b b' r → pred i ≤ pred k → k ≤ i → Planned (pred k) at b b' r
plan_all {i} {k} {at} {r} {b} {b'} p h l = let z : pred i ≡ pred k = omega arith in subst (λ (n : ℕ). Planned n at b b' r) z p

-- THE SECTIONS, one by one

pub sections_none : {src : Source} {count at r : ℕ} {b b' : List ℕ} → Wrote [] at b b' r → SectionsPut src count 0 at b b' r
sections_none w = record { told = λ sh k g. record { text = []; put = w; is = refl } }

drop_next : (l : List ℕ) (i : ℕ) → i < length l → drop i l ≡ get_or l i 0 ∷ drop (suc i) l
drop_next [] i h = absurd (omega arith)
drop_next (x ∷ l) zero h = refl
drop_next (x ∷ l) (suc i) h = drop_next l i (omega arith)

pub sections_more : {src : Source} {count i n at m₁ m₂ r : ℕ} {b b₁ b₂ b₃ : List ℕ}
    → SectionsPut src count i at b b₁ m₁ → i < count
    → Wrote (head_text i) m₁ b₁ b₂ m₂ → n ≡ section_at src.sheet.now i → Tells src n (Body (record { count = 2; first = A; indent = 2 })) m₂ b₂ b₃ r
    → SectionsPut src count (i + 1) at b b₃ r
unfolding text_in spelled sections_said head_text called name_of suffix
sections_more {i = i} {n} u h w e t = record {
  told = λ sh k g.
      let z = u.told sh k g in
      let l : i < length sh.sections = omega (arith, g.many) in
      let root : n ≡ get_or sh.sections i 0 = e ∙ g.root i l in
      let y = t.told sh k (omega (arith, k.ranges.section i l)) (length sh.nodes) (omega arith) in
      let rest = sections_said sh (suc i) (drop (suc i) sh.sections) in
      record {
        text = z.text ++ ((bytes "\n\nsection " ++ (part_name i ++ bytes "(a, b) =")) ++ y.text);
        put = wrote_then z.put (wrote_then w y.put);
        is = z.is ∙ ap (λ (q : List ℕ). z.text ++ q) (ap (λ (q : List ℕ). text_in (sections_said sh i q)) (drop_next sh.sections i l)
            ∙ ap (λ (m : ℕ). bytes "\n\nsection " ++ (part_name i ++ (bytes "(a, b) =" ++ text_in (root_said sh (reach 2 false) m rest)))) (sym root)
            ∙ ap (λ (q : List ℕ). bytes "\n\nsection " ++ (part_name i ++ (bytes "(a, b) =" ++ q))) (y.is rest)
            ∙ four (bytes "\n\nsection ") (part_name i) (bytes "(a, b) =") y.text (text_in rest))
            ∙ sym (append_assoc z.text _ (text_in rest)) ∙ ap (λ (j : ℕ). (z.text ++ ((bytes "\n\nsection " ++ (part_name i ++ bytes "(a, b) =")) ++ y.text))
            ++ text_in (sections_said sh j (drop j sh.sections))) (sym (add-one i));
      };
}
  where
    four : (a c d f k : List ℕ) → a ++ (c ++ (d ++ (f ++ k))) ≡ ((a ++ (c ++ d)) ++ f) ++ k
    four a c d f k = simp append_assoc

pub sections_all : {src : Source} {count i at r : ℕ} {b b' : List ℕ} → SectionsPut src count i at b b' r
    → i ≤ count → count ≤ i → SectionsPut src count count at b b' r
sections_all {src} {count} {i} {at} {r} {b} {b'} u h l =
    let z : i ≡ count = omega arith in subst (λ (n : ℕ). SectionsPut src count n at b b' r) z u

pub sections_long : {src : Source} {count i at r : ℕ} {b b' : List ℕ} → Lent src count
    → SectionsPut src count i at b b' r
    → length b' ≡ length b
sections_long q u = wrote_long (u.told q.sheet q.known q.roots).put

-- THE WHOLE
pub prints : {src : Source} {t : Table} {m₁ m₂ m₃ m₄ r : ℕ} {b b₁ b₂ b₃ b₄ b₅ : List ℕ} → ((sh : Sheet) → Reads src.sheet.now t sh → Known src sh)
    → Planned (pred t.k) 0 b b₁ m₁ → Wrote (bytes "\nlist =") m₁ b₁ b₂ m₂
    → Tells src t.root (Body (record { count = t.k; first = A; indent = 2 })) m₂ b₂ b₃ m₃
    → SectionsPut src t.sections t.sections m₃ b₃ b₄ m₄ → Wrote (bytes "\n") m₄ b₄ b₅ r → Prints src.sheet.now t b b₅ r
unfolding text_of sheet_said text_in spelled sections_said
prints {t = t} known p w body sections v = record {
  told = λ sh q.
      let k = known sh q in
      let u = body.told sh k (omega (arith, q.root, q.ranges.root)) (length sh.nodes) (omega arith) in
      let z = sections.told sh k (roots_of q) in
      let none : drop t.sections sh.sections ≡ [] = drop_of_length-le sh.sections {i = t.sections} (omega (arith, q.sections)) in
      let last : text_in (sections_said sh 0 sh.sections) ≡ z.text ++ bytes "\n"
      = z.is ∙ ap (λ (l : List ℕ). z.text ++ text_in (sections_said sh t.sections l)) none in
      let secs = sections_said sh 0 sh.sections in
      wrote_text (wrote_then p.said.put (wrote_then w (wrote_then u.put (wrote_then z.put v))))
      (sym (ap (λ (j : ℕ). text_in (the (bytes "plan") ∷ space ∷ plan_said 0 (pred j) (gap (bytes "\n") ∷ the (bytes "list") ∷ space ∷ sign (bytes "=")
      ∷ root_said sh (reach j false) sh.root secs))) (sym q.k)
      ∙ ap (λ (n : ℕ). text_in (the (bytes "plan") ∷ space ∷ plan_said 0 (pred t.k) (gap (bytes "\n") ∷ the (bytes "list") ∷ space ∷ sign (bytes "=")
      ∷ root_said sh (reach t.k false) n secs))) (sym q.root)
      ∙ p.said.is (gap (bytes "\n") ∷ the (bytes "list") ∷ space ∷ sign (bytes "=") ∷ root_said sh (reach t.k false) t.root secs)
      ∙ ap (λ (l : List ℕ). p.said.text ++ (bytes "\nlist =" ++ l)) (u.is secs ∙ ap (λ (l : List ℕ). u.text ++ l) last)));
}

pub prints_long : {s : List ℕ} {t : Table} {sh : Sheet} {r : ℕ} {b b' : List ℕ} → Reads s t sh → Prints s t b b' r → length b' ≡ length b
prints_long {sh = sh} q p = wrote_long (p.told sh q)
