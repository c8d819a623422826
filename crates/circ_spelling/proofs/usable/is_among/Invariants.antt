use Rattle.std.proofs.Common.{◌↔◌, drop}
use Rattle.circ_spelling.specs.Usable.{IsAmong}
use Rattle.circ_spelling.proofs.usable.is_among.Given as goal

abbrev pub invariant-loop-token : goal.invariant-loop-token
invariant-loop-token l = IsAmong (drop l.token-index l.tokens) l.word ↔ IsAmong l.tokens l.word
