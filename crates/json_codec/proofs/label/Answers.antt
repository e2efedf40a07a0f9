-- `label` meets its contract: the name is passed part by part. Assumes nothing.
use Rattle.value.proofs.Numbered.{passed_on}
use Rattle.json_codec.specs.Reader.{name_none, name_inside, name_other, name_named, name_open, name_passed}
use Rattle.json_codec.proofs.label.Goals as goal

pub returns-in_err-open : goal.returns-in_err-open
returns-in_err-open c =
    rw (passed_on c.from_residual.result c.from_residual.ensures.1) (name_none c.args.letter c.requires c.pass.ensures c.in_err-open.was)

pub exact-requires : goal.exact-requires
exact-requires c = name_inside c.args.letter c.requires c.pass.ensures c.in_ok-open.was

pub returns-in_err-named : goal.returns-in_err-named
returns-in_err-named c =
    rw (passed_on c.from_residual-in_err-named.result c.from_residual-in_err-named.ensures.1)
    (name_other c.args.letter c.requires c.pass.ensures c.in_ok-open.was c.exact.ensures c.in_err-named.was)

pub exact-requires-2 : goal.exact-requires-2
exact-requires-2 c = name_named c.args.letter c.requires c.pass.ensures c.in_ok-open.was c.exact.ensures c.in_ok-named.was

pub returns-in_err-close : goal.returns-in_err-close
returns-in_err-close c =
    rw (passed_on c.from_residual-in_err-close.result c.from_residual-in_err-close.ensures.1)
    (name_open c.args.letter c.requires c.pass.ensures c.in_ok-open.was c.exact.ensures c.in_ok-named.was c.exact-2.ensures c.in_err-close.was)

pub returns : goal.returns
returns c =
    name_passed c.args.letter c.requires c.pass.ensures c.in_ok-open.was c.exact.ensures c.in_ok-named.was c.exact-2.ensures c.in_ok-close.was
    c.pass-2.ensures
