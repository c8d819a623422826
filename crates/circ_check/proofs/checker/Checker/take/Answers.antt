use Rattle.std.proofs.Common.{sym, ◌∙◌}
use Rattle.circ_table.specs.Part.{plain_part}
use Rattle.circ_check.proofs.Watching.{follows_ready, follows_behind, took_stands}
use Rattle.circ_check.proofs.checker.Checker.take.Goals as goal

pub take_part-requires-clause-ready : goal.take_part-requires-clause-ready
take_part-requires-clause-ready c =
    follows_ready c.args.self.now (plain_part c.args.part) c.known.ensures (c.requires (λ e. absurd (let f = sym c.if-self.false ∙ e in cc)))

pub take_part-requires-clause-behind : goal.take_part-requires-clause-behind
take_part-requires-clause-behind c =
    follows_behind c.args.self.now (plain_part c.args.part) (c.requires (λ e. absurd (let f = sym c.if-self.false ∙ e in cc)))

pub returns-in-Ok-clause-taken : goal.returns-in-Ok-clause-taken
returns-in-Ok-clause-taken c th xs s = took_stands th xs (plain_part c.args.part) c.args.self.now c.take_part.new.self s c.in-Ok.ensures.took
