-- `store` meets its contract: the kind byte and the number's bytes. Assumes nothing.
use mathlib.Core.Path.{refl}
use Rattle.report.specs.Writing.{wrote_then}
use Rattle.json_codec.specs.Reader.{stored_small, stored_four}
use Rattle.json_codec.proofs.store.Goals as goal

pub returns-then-n-lt65536 : goal.returns-then-n-lt65536
returns-then-n-lt65536 c =
    stored_small c.if-n-lt65536.true c.byte-kind.ensures refl
    (rw c.to_be_bytes.ensures at (wrote_then c.byte-first.ensures c.byte.ensures))

pub returns : goal.returns
returns c = stored_four c.requires c.if-n-lt65536.false c.byte-end.ensures c.to_be_bytes-2.ensures c.bytes.ensures
