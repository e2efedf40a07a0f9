-- `write_scalar` meets its contract: the kind byte decides. Assumes nothing.
use Prim.Native.Nat.{◌+◌, ◌*◌}
use mathlib.Core.Path.{◌≡◌, ap}
use native.Mathlib.Omega.{arith}
use lib.ListN.{get_or}
use Rattle.report.specs.Text.{decimal_of}
use Rattle.report.specs.Writing.{wrote_text}
use Rattle.json_codec.specs.Writer.{scalar_there, number_there, wide_there, put_false, put_true, put_number, put_wide}
use Rattle.json_codec.proofs.write_scalar.Goals as goal

pub bounds-v-at : goal.bounds-v-at
bounds-v-at c = omega (arith, scalar_there c.requires)

pub overflow_add-result : goal.overflow_add-result
overflow_add-result c = omega (arith, scalar_there c.requires)

pub returns-in-0 : goal.returns-in-0
returns-in-0 c levels = put_false c.args.v.now c.args.at levels c.args.put c.in-0.is c.bytes.ensures

pub returns-in-1 : goal.returns-in-1
returns-in-1 c levels = put_true c.args.v.now c.args.at levels c.args.put c.in-1.is c.bytes-in-1.ensures

pub bounds-v-at-in-4 : goal.bounds-v-at-in-4
bounds-v-at-in-4 c = omega (arith, number_there c.requires c.in-4.is)

pub bounds-v-at-in-4-2 : goal.bounds-v-at-in-4-2
bounds-v-at-in-4-2 c = omega (arith, number_there c.requires c.in-4.is)

pub returns-in-4 : goal.returns-in-4
returns-in-4 c levels =
    let e : c.from.result ≡ 256 * get_or c.args.v.now (c.args.at + 1) 0 + get_or c.args.v.now (c.args.at + 2) 0
    = omega (arith, c.from.ensures, c.from_be_bytes-n.ensures) in
    put_number c.args.v.now c.args.at levels c.args.put c.in-4.is (wrote_text c.decimal.ensures (ap decimal_of e))

pub bounds-v-at-in_default : goal.bounds-v-at-in_default
bounds-v-at-in_default c = omega (arith, wide_there c.requires (λ e. omega arith) (λ e. omega arith) (λ e. omega arith))

pub bounds-v-at-in_default-2 : goal.bounds-v-at-in_default-2
bounds-v-at-in_default-2 c = omega (arith, wide_there c.requires (λ e. omega arith) (λ e. omega arith) (λ e. omega arith))

pub bounds-v-at-in_default-3 : goal.bounds-v-at-in_default-3
bounds-v-at-in_default-3 c = omega (arith, wide_there c.requires (λ e. omega arith) (λ e. omega arith) (λ e. omega arith))

pub bounds-v-at-in_default-4 : goal.bounds-v-at-in_default-4
bounds-v-at-in_default-4 c = omega (arith, wide_there c.requires (λ e. omega arith) (λ e. omega arith) (λ e. omega arith))

pub returns-in_default : goal.returns-in_default
returns-in_default c levels =
    let e : c.from_be_bytes-n-in_default.result ≡ 65536 * (256 * get_or c.args.v.now (c.args.at + 1) 0 + get_or c.args.v.now (c.args.at + 2) 0)
    + (256 * get_or c.args.v.now (c.args.at + 3) 0 + get_or c.args.v.now (c.args.at + 4) 0) = omega (arith, c.from_be_bytes-n-in_default.ensures) in
    put_wide c.requires (λ e. omega arith) (λ e. omega arith) (λ e. omega arith) levels c.args.put
    (wrote_text c.decimal-in_default.ensures (ap decimal_of e))
