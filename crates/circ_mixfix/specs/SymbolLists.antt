-- Symbols as the code has them.
use Rattle.circ_mixfix.specs.Symbols as symbols
use Rattle.circ_mixfix.specs.declared.spelling.Symbol.{Symbol}
use Rattle.circ_mixfix.specs.declared.spelling.Symbol.TheVariants.{Word, Hole}

abbrev pub symbol_of : Symbol → symbols.Symbol
symbol_of (Word w) = symbols.Word w.now
symbol_of (Hole s b) = symbols.Hole s b
