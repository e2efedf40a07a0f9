-- `lookup` meets its contract: the names from i on are others. Assumes nothing.
use Rattle.tokens.specs.Tokens.{word_of}
use Rattle.lexing.specs.Lexing.{token_at}
use Rattle.parsing.specs.Names.{Above}
use Rattle.parsing.proofs.names.lookup.Given as goal

abbrev pub invariant-loop-i : goal.invariant-loop-i
invariant-loop-i l = Above l.text l.names l.base l.many (word_of (token_at l.text l.t)) l.i
