use Rattle.std.proofs.Common.{sym, ap, subst, ◌∙◌}
use Rattle.std.specs.List.{Contains}
use Rattle.circ_theory.specs.Signature.{IsSort}
use Rattle.circ_theory.specs.Names.{AreDifferent, names_of}
use Rattle.circ_mixfix.specs.Answers.{declared_by}
use Rattle.circ_script.proofs.variables.declare_copies.Goals as goal

pub declare-requires-clause-different : goal.declare-requires-clause-different
declare-requires-clause-different c =
    let is = ap declared_by c.as_slice.ensures.value ∙ c.in_ok-copies.ensures in subst (λ ds. AreDifferent (names_of ds)) (sym is)
    c.known_names.ensures.variables

pub put_vars-requires : goal.put_vars-requires
put_vars-requires c = λ d h.
    let signature = ap (λ th. th.signature) c.in-Err.ensures.kept ∙ ap (λ th. th.signature) c.take_vars-vars.ensures.left in
    subst (λ sig. IsSort sig d.sort) (sym signature) (c.known.ensures.variables d (subst (λ vs. Contains vs d) c.take_vars-vars.ensures.taken h))
