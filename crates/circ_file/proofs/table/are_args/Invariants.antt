use Rattle.std.proofs.Common.{◌≡◌, drop}
use Rattle.circ_proof_text.specs.TableText.{firsts_at}
use Rattle.circ_file.specs.Adding.{have_sorts}
use Rattle.circ_file.proofs.table.are_args.Given as goal

abbrev pub invariant-loop-i : goal.invariant-loop-i
invariant-loop-i l = have_sorts (firsts_at l.rows (drop l.i l.numbers)) (drop l.i l.sorts) ≡ have_sorts (firsts_at l.rows l.numbers) l.sorts
