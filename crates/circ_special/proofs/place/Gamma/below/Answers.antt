use Rattle.std.proofs.Common.{refl, sym, ap, subst, ◌∙◌}
use Rattle.std.specs.List.{slice_get}
use Rattle.std.specs.Option.{option_copied}
use Rattle.circ_term.specs.Tree.{Tree, args_of, trees_of}
use Rattle.circ_special.specs.Places.{GoesBelow}
use Rattle.circ_special.proofs.Places.{goes_below}
use Rattle.circ_special.proofs.place.Gamma.below.Goals as goal

pub returns-else-not-has : goal.returns-else-not-has
returns-else-not-has c =
    let i = c.args.place in
    let value = c.in-Application.ensures.value in
    let P : Tree → Type 0 = λ t. GoesBelow c.args.self.now t i (option_copied c.arg.result) in
    subst P value (goes_below c.args.self.now c.in-Application.op c.in-Application.sort i (trees_of c.in-Application.args.now) (option_copied c.arg.result)
    (c.if-not-has.ensures.0 refl) (c.arg.ensures ∙ ap (λ t. slice_get (args_of t) i) (sym value)))
