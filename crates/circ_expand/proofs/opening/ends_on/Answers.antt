use Rattle.std.proofs.Common.{◌≡◌, ap, sym, ◌∙◌}
use Rattle.circ_term.specs.Limits.{first_limit}
use Rattle.circ_entry.specs.Entries.{bare_entries}
use Rattle.circ_expansion.specs.Expand.{stages}
use Rattle.circ_uses.specs.Uses.{entries_of}
use Rattle.circ_uses.proofs.Rising.{names_first}
use Rattle.circ_uses.proofs.Rising.{first_both, names_both}
use Rattle.circ_expand.proofs.opening.ends_on.Goals as goal

pub returns-in-Err : goal.returns-in-Err
returns-in-Err c =
    let es = bare_entries (entries_of c.args.frame.now.theory.now c.args.entries.now) in
    names_first (stages es c.args.left.now) (stages es c.args.right.now) c.in-Err.fault c.in-Err.ensures

pub returns-in-Err-experiment : goal.returns-in-Err-experiment
returns-in-Err-experiment c =
    let es = bare_entries (entries_of c.args.frame.now.theory.now c.args.entries.now) in
    names_both (stages es c.args.left.now) (stages es c.args.right.now) c.in-Err-experiment.fault c.in-Ok.ensures.1 c.in-Err-experiment.ensures

pub returns : goal.returns
returns c =
    let es = bare_entries (entries_of c.args.frame.now.theory.now c.args.entries.now) in (
      c.in-Ok.ensures.0,
      first_both (stages es c.args.left.now) (stages es c.args.right.now) c.in-Ok.ensures.1 c.in-Ok-experiment.ensures.1,
      ap first_limit (sym c.in-Ok.ensures.0) ∙ c.known.ensures,
      ap first_limit (sym c.in-Ok-experiment.ensures.0) ∙ c.known-2.ensures,
    )
