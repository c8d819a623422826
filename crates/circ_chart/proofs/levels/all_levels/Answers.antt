use Rattle.circ_chart.proofs.levels.all_levels.Goals as goal

pub returns-then-tokens-lt-SOME_TOKENS : goal.returns-then-tokens-lt-SOME_TOKENS
returns-then-tokens-lt-SOME_TOKENS c = c.no_levels.ensures c.args.grammar.now c.args.tokens.now

pub returns-then-has_loose_hole : goal.returns-then-has_loose_hole
returns-then-has_loose_hole c = c.no_levels-then-has_loose_hole.ensures c.args.grammar.now c.args.tokens.now
