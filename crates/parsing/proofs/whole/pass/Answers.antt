-- `pass` meets its contract. Assumes nothing.
use mathlib.Core.Path.{refl, ◌∙◌}
use native.Mathlib.Omega.{arith}
use lib.ListN.{length-set}
use Rattle.parsing.specs.Whole.{pass_fault, pass_parsed, plan_found, start_here}
use Rattle.parsing.proofs.whole.pass.Goals as goal

pub plan-k-requires : goal.plan-k-requires
plan-k-requires c =
    (omega arith, c.requires.1)

pub shape_of-names-then-k-ne0 : goal.shape_of-names-then-k-ne0
shape_of-names-then-k-ne0 c =
    c.plan-k.ensures.long

pub returns-then-k-ne0 : goal.returns-then-k-ne0
returns-then-k-ne0 c = record {
  passed = pass_fault c.keyword-opened.ensures c.plan-k.ensures c.if-k-ne0.true;
  names_len = (c.plan-k.ensures.long ∙ c.requires.1, c.requires.2, c.requires.3, c.requires.4);
}

pub bounds-front-0 : goal.bounds-front-0
bounds-front-0 c =
    let h = c.requires.3 in omega arith

pub overflow_cast-front : goal.overflow_cast-front
overflow_cast-front c =
    let f = plan_found (record { at = 0; count = 0; found = 0; code = 0; detail = 0 }) refl (start_here c.args.text.now) c.keyword-opened.ensures
    c.plan-k.ensures c.if-k-ne0.false in omega arith

pub bounds-front-1 : goal.bounds-front-1
bounds-front-1 c =
    let h = c.requires.3 in rw length-set (omega arith)

pub bounds-front-2 : goal.bounds-front-2
bounds-front-2 c =
    let h = c.requires.3 in rw (length-set, length-set) (omega arith)

pub expr-a-requires : goal.expr-a-requires
expr-a-requires c =
    let f = plan_found (record { at = 0; count = 0; found = 0; code = 0; detail = 0 }) refl (start_here c.args.text.now) c.keyword-opened.ensures
    c.plan-k.ensures c.if-k-ne0.false in
    let j = c.symbol-equals.ensures.same ∙ c.keyword-list.ensures.same ∙ c.plan-k.ensures.same_count ∙ c.keyword-opened.ensures.same in
    record { table_few = c.requires.0; names_long = c.plan-k.ensures.long ∙ c.requires.1; slots_long = c.requires.2; few = omega arith; low = omega arith }

pub sections-requires : goal.sections-requires
sections-requires c =
    let y = c.expr-a.ensures in (
      omega arith,
      c.requires.4,
      simp length-set c.requires.3,
      record {
        table_few = c.requires.0;
        names_long = y.below.long ∙ c.plan-k.ensures.long ∙ c.requires.1;
        slots_long = y.kept.long ∙ c.requires.2;
        few = y.few;
      },
    )

pub shape_of-names : goal.shape_of-names
shape_of-names c =
    c.sections.ensures.names_len_unchanged ∙ c.expr-a.ensures.below.long ∙ c.plan-k.ensures.long

pub shape_of-slots : goal.shape_of-slots
shape_of-slots c =
    c.sections.ensures.sections.kept.long ∙ c.expr-a.ensures.kept.long

pub shape_of-front : goal.shape_of-front
shape_of-front c =
    c.sections.ensures.sections.front_long ∙ simp length-set

pub shape_of-fresh : goal.shape_of-fresh
shape_of-fresh c =
    c.sections.ensures.sections.fresh_long

pub returns : goal.returns
returns c =
    let s = c.sections.ensures.sections in record {
      passed = pass_parsed c.args.front.now c.keyword-opened.ensures c.plan-k.ensures c.if-k-ne0.false c.requires.3 refl c.keyword-list.ensures
          c.symbol-equals.ensures
          c.expr-a.ensures s;
      names_len = (
        c.sections.ensures.names_len_unchanged ∙ c.expr-a.ensures.below.long ∙ c.plan-k.ensures.long ∙ c.requires.1,
        s.kept.long ∙ c.expr-a.ensures.kept.long ∙ c.requires.2,
        s.front_long ∙ simp length-set c.requires.3,
        s.fresh_long ∙ c.requires.4,
      );
    }
