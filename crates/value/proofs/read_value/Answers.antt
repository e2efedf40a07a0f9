-- `value::read_value` meets its contract: 256 bytes of room.
use Rattle.value.proofs.Reader.{answers}
use Rattle.value.proofs.read_value.Goals as goal

pub returns : goal.returns
returns c = answers c.value.ensures
