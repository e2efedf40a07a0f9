-- `bits_word` meets its contract: both bytes. Assumes nothing.
use Rattle.std.specs.Prelude.{◌≡◌, ◌/◌, ◌%◌}
use native.Mathlib.Omega.{arith}
use Rattle.words.specs.Answers.{bits_word}
use Rattle.words.proofs.bits_word.Goals as goal

pub returns : goal.returns
unfolding bits_word
returns c =
    let e : c.args.bits / 256 % 256 ≡ c.args.bits / 256 = omega arith in
    rw (c.to_be_bytes.ensures, e) at c.hex_word.ensures
