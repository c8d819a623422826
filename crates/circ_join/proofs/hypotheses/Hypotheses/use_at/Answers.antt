use Rattle.std.proofs.Common.{◌≡◌, ◌/◌, Some, ap, sym, ◌∙◌, refl, length, map, arith}
use Rattle.std.specs.List.{slice_get}
use Rattle.std.proofs.lemmas.Option.{same_Some, slice_get_read}
use Rattle.circ_term.specs.Subst.{substitution_of}
use Rattle.circ_theory.specs.Pairs.{plain_pair}
use Rattle.circ_theory.specs.Goal.{Goal}
use Rattle.circ_rewrite.specs.Plain.{plain_passes}
use Rattle.circ_join.specs.Binding.{BindsRest, have_pair_variable}
use Rattle.circ_join.specs.Trying.{normaliser_of}
use Rattle.circ_join.proofs.BothSides.{hypothesis_terms}
use Rattle.circ_join.proofs.UsesMade.{use_hindered, no_use_made, use_made}
use Rattle.circ_join.proofs.hypotheses.Hypotheses.use_at.Goals as goal

pub returns-in-Err-clause-exact : goal.returns-in-Err-clause-exact
returns-in-Err-clause-exact c = λ h g.
    let H = c.args.self.now.all in
    let n = c.args.place / 2 in
    let q = c.index-goals-place.result in
    let there : slice_get H n ≡ Some q = slice_get_read H (length H) n q refl (omega (arith, c.requires.there)) (rw c.goals.ensures at c.index-goals-place.is) in
    let conds : map plain_pair c.as_slice.result.now ≡ h.conds = c.as_slice.ensures ∙ ap (λ (x : Goal). x.conds) (same_Some q h (sym there ∙ g)) in
    use_hindered (normaliser_of c.args.reducer.now) c.args.place h c.args.path.now c.args.new.now (substitution_of c.args.subst) c.args.budget.now c.in-Err.fault c.passes.new.budget
    (rw conds at c.in-Err.ensures.exact)

pub returns-in-Ok-None-clause-exact : goal.returns-in-Ok-None-clause-exact
returns-in-Ok-None-clause-exact c = λ h g.
    let H = c.args.self.now.all in
    let n = c.args.place / 2 in
    let q = c.index-goals-place.result in
    let there : slice_get H n ≡ Some q = slice_get_read H (length H) n q refl (omega (arith, c.requires.there)) (rw c.goals.ensures at c.index-goals-place.is) in
    let conds : map plain_pair c.as_slice.result.now ≡ h.conds = c.as_slice.ensures ∙ ap (λ (x : Goal). x.conds) (same_Some q h (sym there ∙ g)) in
    no_use_made (normaliser_of c.args.reducer.now) c.args.place h c.args.path.now c.args.new.now (substitution_of c.args.subst) c.args.budget.now c.passes.new.budget
    (rw (c.in-Ok-None.field-0-is, conds) at c.in-Ok-None.ensures.exact)

pub returns-clause-exact : goal.returns-clause-exact
returns-clause-exact c = λ h g.
    let H = c.args.self.now.all in
    let n = c.args.place / 2 in
    let q = c.index-goals-place.result in
    let there : slice_get H n ≡ Some q = slice_get_read H (length H) n q refl (omega (arith, c.requires.there)) (rw c.goals.ensures at c.index-goals-place.is) in
    let is : q ≡ h = same_Some q h (sym there ∙ g) in
    let conds : map plain_pair c.as_slice.result.now ≡ h.conds = c.as_slice.ensures ∙ ap (λ (x : Goal). x.conds) is in
    let rest : BindsRest (have_pair_variable h.conds) c.args.subst c.bind_conditions.new.subst =
    rw (c.as_slice-2.ensures ∙ ap (λ (x : Goal). x.conds) is) at c.in_ok-bind_conditions.ensures in
    use_made (normaliser_of c.args.reducer.now) c.args.place h c.args.path.now c.args.new.now (substitution_of c.args.subst) c.args.budget.now c.passes.new.budget
    (plain_passes c.in-Ok-Some.passes.items) (rw (c.in-Ok-Some.field-0-is, conds) at c.in-Ok-Some.ensures.exact)
    refl c.way_at.ensures c.in_ok-from_slice.ensures.ok
    (c.in_ok-terms.ensures.terms ∙ hypothesis_terms h c.args.subst c.bind_conditions.new.subst (c.requires.binds h g) rest c.in_ok-terms.ensures.ordered)
    c.in_ok-chains_of.ensures c.in_ok-share.ensures.same
