use Rattle.std.proofs.Common.{arith}
use Rattle.circ_mixfix.specs.Variables.{vars_in}
use Rattle.circ_mixfix.proofs.Assembly.{grammar_of, have_words}
use Rattle.circ_mixfix.proofs.grammars.grammar.Goals as goal

pub rules-requires : goal.rules-requires
rules-requires c = let g = c.in_ok-variables.ensures.grows.few in let r = c.requires.few in record { few = omega arith }

pub returns-clause-grammar : goal.returns-clause-grammar
returns-clause-grammar c =
    let w = c.known-2.ensures in
    grammar_of c.args.scope.now.theory.now.signature (vars_in c.args.scope.now) c.args.scope.now.hole c.args.words.now c.variables.new.words c.args.most c.in_ok-candidates.candidates.least.items
    c.in_ok-candidates.candidates.ops.items c.args.count (record { rules = c.in_ok-rules.rules; variables = c.in_ok-variables.variables }) c.requires.begin c.requires.count c.in_ok-variables.ensures.grows
    c.known.ensures w.operators c.in_ok-rules.ensures (rw (c.deref.ensures.value) at c.in_ok-candidates.ensures.least) c.in_ok-candidates.ensures.ops c.in_ok-variables.ensures.variables

pub returns-clause-words : goal.returns-clause-words
returns-clause-words c =
    have_words c.args.scope.now.theory.now c.variables.new.words c.args.most c.in_ok-candidates.candidates.least.items c.in_ok-candidates.candidates.ops.items
    (record { rules = c.in_ok-rules.rules; variables = c.in_ok-variables.variables }) c.known-2.ensures c.in_ok-rules.ensures
