use Rattle.std.proofs.Common.{Some, sym, ap, ◌∙◌}
use Rattle.std.proofs.lemmas.List.{nil_from_length}
use Rattle.std.proofs.lemmas.Option.{slice_get_within}
use Rattle.circ_term.proofs.Replaced.{kept_within, fault_at}
use Rattle.circ_term.specs.Tree.{replaced}
use Rattle.circ_term.proofs.node.Term.+replace.Goals as goal

pub returns-in_default : goal.returns-in_default
returns-in_default t c = (
  ap (λ p. replaced c.args.self.now p c.args.new.now) (nil_from_length c.args.path.now c.in_default.ensures.cases) ∙ ap Some (sym c.in_ok-share.ensures.same),
  rw c.in_ok-share.ensures.same c.in_ok-share.ensures.within,
)

pub rebuilt-requires-clause-place : goal.rebuilt-requires-clause-place
rebuilt-requires-clause-place t c = rw c.args-in-Ok-Some.ensures.value (slice_get_within _ _ _ (sym c.in-Some-arg.ensures))

pub returns-in-Err : goal.returns-in-Err
returns-in-Err t c =
    fault_at c.in-Err.fault c.args.self.now c.args.path.now c.in-Some.place.now c.in-Some.rest.now c.args.new.now c.in-Some-arg.arg.now
    c.in-Some.ensures.cases.0 c.in-Some-arg.ensures
    (rw (← c.self.view_is) (kept_within c.self.inside.shape c.self.invariant))
    c.in-Err.ensures
