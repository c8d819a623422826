use Rattle.std.proofs.Common.{sym, arith, ap}
use Rattle.std.specs.List.{list_any}
use Rattle.circ_lexer.specs.TokenList.{tokens_of}
use Rattle.circ_read.specs.Text.{is_stop}
use Rattle.circ_read.proofs.Places.{range_none, no_stop_more, stop_found, none_found}
use Rattle.circ_read.proofs.text.next_stop.Goals as goal

pub loop-n-init : goal.loop-n-init
loop-n-init c = ap (list_any is_stop) (range_none (tokens_of c.args.tokens.now) c.args.at)

pub loop-n-preserved : goal.loop-n-preserved
loop-n-preserved c = no_stop_more (tokens_of c.args.tokens.now) c.args.at c.loop-n.n c.loop-n.auto.n (omega arith) c.loop-n.invariant (sym c.if-has_word.ensures)

pub returns-then-has_word-clause-stop : goal.returns-then-has_word-clause-stop
returns-then-has_word-clause-stop c = stop_found (tokens_of c.args.tokens.now) c.args.at c.loop-n.n c.loop-n.auto.n c.loop-n.invariant (sym c.if-has_word.ensures)

pub returns-clause-stop : goal.returns-clause-stop
returns-clause-stop c = none_found (tokens_of c.args.tokens.now) c.args.at c.loop-n.n (omega arith) c.loop-n.invariant
