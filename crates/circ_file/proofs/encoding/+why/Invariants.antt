use Rattle.std.proofs.Common.{◌+◌, ◌*◌}
use Rattle.circ_proof.specs.Plain.{plain_why, plain_whys}
use Rattle.circ_replay.proofs.Reasons.{why_depth, whys_depth}
use Rattle.circ_grammar.specs.Grammar.{whys_lines}
use Rattle.circ_file.proofs.Written.{IsLeft}
use Rattle.circ_file.proofs.encoding.+why.Given as goal

abbrev pub decreases-put_why : goal.decreases-put_why
decreases-put_why l = 2 * why_depth (plain_why l.why.now)

abbrev pub decreases-put_whys : goal.decreases-put_whys
decreases-put_whys l = 2 * whys_depth (plain_whys l.whys.now) + 1

abbrev pub invariant-put_whys-loop-why : goal.invariant-put_whys-loop-why
invariant-put_whys-loop-why l = IsLeft (λ xs. whys_lines (plain_whys xs)) l.fn.out.items l.out.items l.whys l.why-index
