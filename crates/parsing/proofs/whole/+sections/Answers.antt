use mathlib.Core.Path.{refl, sym, ◌∙◌}
use native.Mathlib.Omega.{arith}
use lib.ListN.{length-set}
use Rattle.parsing.specs.Names.{fails}
use Rattle.parsing.specs.Whole.{sections_on, sections_end, sections_none, sections_full, sections_more, lent_behind}
use Rattle.parsing.proofs.whole.+sections.Goals as goal

pub returns-then-c-ne0 : goal.returns-then-c-ne0
returns-then-c-ne0 t c = record { sections = sections_on c.requires.3.few c.if-c-ne0.true; names_len_unchanged = refl }

pub returns-then-is : goal.returns-then-is
returns-then-is t c = record {
  sections = rw c.read.ensures (sections_end c.requires.3.few c.next-t.ensures c.if-c-ne0.false c.requires.0
      (c.is.ensures.0 c.if-is.true));
  names_len_unchanged = refl;
}

pub returns-then-not-is_word : goal.returns-then-not-is_word
returns-then-not-is_word t c = record {
  sections = rw c.fault.ensures (sections_none c.requires.3.few c.next-t.ensures c.if-c-ne0.false (fails c.is.ensures c.if-is.false)
      (sym c.is_word.ensures ∙ c.if-not-is_word.true));
  names_len_unchanged = refl;
}

pub returns-then-i-eq8 : goal.returns-then-i-eq8
returns-then-i-eq8 t c = record {
  sections = rw c.fault-then-i-eq8.ensures (sections_full c.requires.3.few c.next-t.ensures c.if-c-ne0.false c.if-i-eq8.true (fails c.is.ensures c.if-is.false)
      (sym c.is_word.ensures ∙ c.if-not-is_word.false));
  names_len_unchanged = refl;
}

pub overflow_mul-front : goal.overflow_mul-front
overflow_mul-front t c =
    let h = c.requires.0 in omega arith

pub overflow_add-front : goal.overflow_add-front
overflow_add-front t c =
    let h = c.requires.0 in omega arith

pub bounds-front-i : goal.bounds-front-i
bounds-front-i t c =
    let h = c.requires.0 in let q = c.if-i-eq8.false in let l = c.requires.2 in omega arith

pub overflow_cast-front : goal.overflow_cast-front
overflow_cast-front t c =
    let f = c.requires.3.few in omega arith

pub overflow_mul-front-2 : goal.overflow_mul-front-2
overflow_mul-front-2 t c =
    let h = c.requires.0 in omega arith

pub overflow_add-front-2 : goal.overflow_add-front-2
overflow_add-front-2 t c =
    let h = c.requires.0 in omega arith

pub bounds-front-i-2 : goal.bounds-front-i-2
bounds-front-i-2 t c =
    let h = c.requires.0 in let q = c.if-i-eq8.false in let l = c.requires.2 in rw length-set (omega arith)

pub section-s-requires : goal.section-s-requires
section-s-requires t c =
    let h = c.requires.0 in
    let q = c.if-i-eq8.false in
    (omega arith, c.requires.1, lent_behind c.args.c c.requires.3 c.read-2.ensures)

pub overflow_add-i : goal.overflow_add-i
overflow_add-i t c =
    let h = c.requires.0 in omega arith

pub sections-requires : goal.sections-requires
sections-requires t c =
    let h = c.requires.0 in
    let q = c.if-i-eq8.false in
    let p = c.section-s.ensures in
    let l = c.requires.3 in (
      omega (arith, c.decreases),
      (
        omega arith,
        p.below.long
            ∙ c.requires.1,
        simp length-set c.requires.2,
        record {
          table_few = l.table_few;
          names_long = p.long ∙ l.names_long;
          slots_long = p.kept.long
              ∙ l.slots_long;
          few = p.few;
        },
      ),
    )

pub returns : goal.returns
returns t c =
    let h = c.requires.0 in
    let q = c.if-i-eq8.false in record {
      sections = sections_more c.next-t.ensures c.if-c-ne0.false (omega arith) c.requires.2 (fails c.is.ensures c.if-is.false)
          (sym c.is_word.ensures ∙ c.if-not-is_word.false)
          c.read-2.ensures refl c.section-s.ensures c.sections.ensures.sections;
      names_len_unchanged = c.sections.ensures.names_len_unchanged ∙ c.section-s.ensures.long;
    }
