use Rattle.std.proofs.Common.{Bool, [], subst}
use Rattle.circ_mixfix.specs.Answers.{lists_in}
use Rattle.circ_mixfix.specs.Choices.{ReadsOn}
use Rattle.circ_mixfix.specs.Variables.{vars_in}
use Rattle.circ_mixfix.proofs.Twos.{all_chosen, none_chosen}
use Rattle.circ_mixfix.proofs.parse.read_list.Goals as goal

pub returns-then-branch : goal.returns-then-branch
returns-then-branch c =
    let sig = c.args.scope.now.theory.now.signature in
    let vars = vars_in c.args.scope.now in
    let lists = lists_in c.args.tokens.now c.args.spans.now in
    let P : Bool → Type 0 = ReadsOn sig vars lists [] c.read_pairs.new.choices in
    all_chosen sig vars lists c.read_pairs.new.choices (subst P c.if-branch.true c.in_ok-read_pairs.ensures) c.chosen.result c.chosen.ensures

pub returns-else-branch : goal.returns-else-branch
returns-else-branch c =
    let sig = c.args.scope.now.theory.now.signature in
    let vars = vars_in c.args.scope.now in
    let lists = lists_in c.args.tokens.now c.args.spans.now in
    let P : Bool → Type 0 = ReadsOn sig vars lists [] c.read_pairs.new.choices in
    none_chosen sig vars lists (subst P c.if-branch.false c.in_ok-read_pairs.ensures)
