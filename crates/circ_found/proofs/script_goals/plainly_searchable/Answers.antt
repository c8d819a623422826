use Rattle.std.proofs.Common.{sym}
use Rattle.circ_script.specs.Script.{plain_script}
use Rattle.circ_found.proofs.Searchables.{script_plainly_searchable}
use Rattle.circ_found.proofs.script_goals.plainly_searchable.Goals as goal

pub returns-clause-searchable : goal.returns-clause-searchable
returns-clause-searchable c =
    script_plainly_searchable c.args.theory.now (plain_script c.args.script.now) c.requires.fit c.requires.goals
    (rw (sym c.as_slice.ensures.value) c.blocks_within.ensures)
