use Rattle.std.proofs.Common.{[], List, map, subst, append-nil}
use Rattle.std.proofs.lemmas.List.{drop_all}
use Rattle.circ_spelling.specs.declared.grammar.Symbol as chart_symbol
use Rattle.circ_mixfix.specs.SymbolLists.{symbol_of}
use Rattle.circ_mixfix.specs.Coding.{AreSymbols}
use Rattle.circ_mixfix.proofs.FromLeft.{next_symbol, numbers_rest, below_rest}
use Rattle.circ_mixfix.proofs.rules.coded.Goals as goal

pub returns : goal.returns
returns c =
    let us = c.args.symbols.now in
    let e = drop_all c.loop-symbol.symbol-index us c.loop-symbol-test.false in
    let P : List chart_symbol.Symbol → Type 0 = AreSymbols c.args.words.now (map symbol_of us) in
    subst P (append-nil c.loop-symbol.out.items) (c.loop-symbol.invariant.made [] (rw e tt))

pub loop-symbol-preserved : goal.loop-symbol-preserved
loop-symbol-preserved c =
    let at = c.loop-symbol in
    let ws = c.args.words.now in
    let us = c.args.symbols.now in
    let within = c.loop-symbol-test.true in
    record {
      made = next_symbol symbol_of ws us at.symbol-index _ c.in-Some.symbol at.out.items c.push.new.self.items within c.in-Some.ensures c.in_ok-push-in-Some.ensures.items
          at.invariant.made;
      numbers = λ have. numbers_rest symbol_of ws us at.symbol-index within (at.invariant.numbers have);
      below = below_rest symbol_of us at.symbol-index within at.invariant.below;
    }
