use Rattle.std.proofs.Common.{◌↔◌, drop}
use Rattle.circ_spelling.specs.Usable.{HasTokens}
use Rattle.circ_spelling.proofs.usable.has_tokens.Given as goal

abbrev pub invariant-loop-symbol : goal.invariant-loop-symbol
invariant-loop-symbol l = HasTokens l.tokens (drop l.symbol-index l.symbols) ↔ HasTokens l.tokens l.symbols
