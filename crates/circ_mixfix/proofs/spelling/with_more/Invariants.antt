use Rattle.std.proofs.Common.{◌≡◌, ◌++◌, drop, map}
use Rattle.circ_mixfix.specs.Symbols.{more_arguments}
use Rattle.circ_mixfix.specs.SymbolLists.{symbol_of}
use Rattle.circ_mixfix.proofs.spelling.with_more.Given as goal

abbrev pub invariant-loop-sort : goal.invariant-loop-sort
invariant-loop-sort l = map symbol_of l.all.items ++ more_arguments (drop l.sort-index l.sorts) ≡ map symbol_of l.initial.all.items ++ more_arguments l.sorts
