use Rattle.std.proofs.Common.{◌∙◌, codes, map}
use Rattle.clap.proofs.WalkLemmas.{first_value-rows, raw_values-rows}
use Rattle.clap.specs.Matches.{found_of}
use Rattle.circ_top.proofs.WordRows.{no_steps, no_derives, no_name, none_given, finds}
use Rattle.circ_top.proofs.words.found.Goals as goal

pub returns-in_err-steps : goal.returns-in_err-steps
returns-in_err-steps c =
    rw c.from_residual.ensures (no_steps _ _ (c.get_str.ensures ∙ first_value-rows (found_of c.args.matches.now) (codes "steps")) c.in_err-steps.ensures)

pub returns-in_err-derives : goal.returns-in_err-derives
returns-in_err-derives c =
    rw c.from_residual-in_err-derives.ensures (no_derives _ _ (c.get_str-2.ensures ∙ first_value-rows (found_of c.args.matches.now) (codes "derives")) c.in_err-derives.ensures)

pub returns-in_err-name : goal.returns-in_err-name
returns-in_err-name c = rw c.from_residual-in_err-name.ensures (no_name _ (c.in_err-name.ensures ∙ first_value-rows (found_of c.args.matches.now) (codes "command")))

pub returns-in_err-given : goal.returns-in_err-given
returns-in_err-given c = rw c.from_residual-in_err-given.ensures (none_given _ (c.in_err-given.ensures ∙ raw_values-rows (found_of c.args.matches.now) (codes "words")))

pub returns : goal.returns
returns c =
    finds _ _ _ _ _
    (record { steps = c.in_ok-steps.steps; derives = c.in_ok-derives.derives; split = c.is_set-split.result; rewrite = c.is_set-rewrite.result }) c.in_ok-name.name.now (map (λ x. x.now) c.in_ok-given.given.now)
    (c.get_str.ensures ∙ first_value-rows (found_of c.args.matches.now) (codes "steps")) c.in_ok-steps.ensures
    (c.get_str-2.ensures ∙ first_value-rows (found_of c.args.matches.now) (codes "derives")) c.in_ok-derives.ensures
    (c.get_str-3.ensures ∙ first_value-rows (found_of c.args.matches.now) (codes "split")) c.is_set-split.ensures
    (c.get_str-4.ensures ∙ first_value-rows (found_of c.args.matches.now) (codes "rewrite")) c.is_set-rewrite.ensures
    (c.in_ok-name.ensures ∙ first_value-rows (found_of c.args.matches.now) (codes "command"))
    (c.in_ok-given.ensures ∙ raw_values-rows (found_of c.args.matches.now) (codes "words"))
