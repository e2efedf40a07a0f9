-- `read` meets its contract. Assumes nothing.
use mathlib.Core.Path.{refl, sym, ◌∙◌}
use native.Mathlib.Omega.{arith}
use Prim.Native.Nat.{◌+◌, ◌*◌}
use lib.Seq.{length-take-le}
use Rattle.report.specs.Writing.{wrote_long}
use Rattle.parsing.specs.Calls.{short_front, first_fault, second_fault, second_done, few_titles, told_met, kept_met}
use Rattle.parsing.proofs.whole.read.Goals as goal

pub pass-first-requires : goal.pass-first-requires
pass-first-requires c =
    (omega arith, refl, refl, refl, refl)

pub returns-then-first-ne0 : goal.returns-then-first-ne0
returns-then-first-ne0 c =
    let a = c.pass-first.result in
    let f = first_fault c.pass-first.ensures.passed c.if-first-ne0.true in record {
      value = c.met.ensures ∙ told_met a.code a.at a.detail f;
      out_after = kept_met a.code a.at a.detail c.args.out.now f;
    }

pub overflow_add-titles : goal.overflow_add-titles
overflow_add-titles c =
    let f = few_titles c.pass-first.ensures.passed c.if-first-ne0.false in omega arith

pub slice_bounds-titles-end : goal.slice_bounds-titles-end
slice_bounds-titles-end c =
    let f = few_titles c.pass-first.ensures.passed c.if-first-ne0.false in omega arith

pub slice_bounds-pass-end-6 : goal.slice_bounds-pass-end-6
slice_bounds-pass-end-6 c =
    let f = few_titles c.pass-first.ensures.passed c.if-first-ne0.false in let l = c.pass-first.ensures.names_len.3 in
    sym (length-take-le (c.pass-first.result.found + 1) _ (omega arith))

pub pass-second-requires : goal.pass-second-requires
pass-second-requires c =
    let f = few_titles c.pass-first.ensures.passed c.if-first-ne0.false in
    let l = c.pass-first.ensures.names_len in
    (short_front _ (c.pass-first.result.found + 1) (omega arith), l.0, l.1, l.2, refl)

pub returns-then-second-ne0 : goal.returns-then-second-ne0
returns-then-second-ne0 c =
    let a = c.pass-second.result in
    let f = second_fault c.pass-first.ensures.passed c.if-first-ne0.false c.pass-first.ensures.names_len.3 c.pass-second.ensures.passed c.if-second-ne0.true in
    record { value = c.met-then-second-ne0.ensures ∙ told_met a.code a.at a.detail f; out_after = kept_met a.code a.at a.detail c.args.out.now f }

pub overflow_mul-front : goal.overflow_mul-front
overflow_mul-front c =
    let f = few_titles c.pass-second.ensures.passed c.if-second-ne0.false in omega arith

pub overflow_add-front : goal.overflow_add-front
overflow_add-front c =
    let f = few_titles c.pass-second.ensures.passed c.if-second-ne0.false in omega arith

pub slice_bounds-front-end : goal.slice_bounds-front-end
slice_bounds-front-end c =
    let f = few_titles c.pass-second.ensures.passed c.if-second-ne0.false in omega arith

pub slice_bounds-write-end : goal.slice_bounds-write-end
slice_bounds-write-end c =
    let f = few_titles c.pass-second.ensures.passed c.if-second-ne0.false in let l = c.pass-second.ensures.names_len.2 in
    sym (length-take-le (3 + 2 * c.pass-second.result.found) _ (omega arith))

pub write-requires : goal.write-requires
write-requires c =
    (c.pass-second.ensures.passed.few, c.pass-second.ensures.names_len.1)

pub shape_of-out : goal.shape_of-out
shape_of-out c =
    wrote_long c.write.ensures

pub returns : goal.returns
returns c = let both = second_done c.pass-first.ensures.passed c.if-first-ne0.false c.pass-first.ensures.names_len.3 c.pass-second.ensures.passed
    c.if-second-ne0.false c.requires c.write.ensures in record { value = both.0; out_after = both.1 }
