use Rattle.std.proofs.Common.{length, map, ap, sym, ◌∙◌, arith}
use Rattle.circ_term.specs.Tree.{trees_of}
use Rattle.circ_special.specs.Fitting.{fits}
use Rattle.circ_nodes.specs.Named.{tree_at}
use Rattle.circ_nodes.proofs.Located.{tree_named}
use Rattle.circ_certificates.proofs.Fits.{other_sort, parameter, hole, no_application, other_operator, other_result, same_operator, other_length, fit_next, fit_stops, fit_all}
use Rattle.circ_certificates.proofs.Members.{above_least, above_each, all_there, args_there}
use Rattle.circ_certificates.proofs.fitting.+fits.Goals as goal

pub fits-returns-then-sort-own : goal.fits-returns-then-sort-own
fits-returns-then-sort-own t c =
    let nodes = c.args.nodes.now in
    let v = c.in-Variable in
    let b = tree_at nodes c.args.body in
    other_sort c.args.id c.args.sort v.number v.own b (tree_at nodes c.args.term) (v.ensures.shape b (tree_named nodes c.args.body c.requires.body))
    (λ e. c.if-sort-own.true (c.sort.ensures ∙ e))

pub fits-returns-then-number-ne0 : goal.fits-returns-then-number-ne0
fits-returns-then-number-ne0 t c =
    let nodes = c.args.nodes.now in
    let v = c.in-Variable in
    let b = tree_at nodes c.args.body in
    parameter c.args.id c.args.sort v.number v.own b (tree_at nodes c.args.term) (v.ensures.shape b (tree_named nodes c.args.body c.requires.body))
    (sym c.sort.ensures ∙ c.if-sort-own.false) c.if-number-ne0.true

pub fits-returns-else-number-ne0 : goal.fits-returns-else-number-ne0
fits-returns-else-number-ne0 t c =
    let nodes = c.args.nodes.now in
    let v = c.in-Variable in
    let b = tree_at nodes c.args.body in
    hole c.args.id c.args.sort v.number v.own b (tree_at nodes c.args.term) (v.ensures.shape b (tree_named nodes c.args.body c.requires.body))
    (sym c.sort.ensures ∙ c.if-sort-own.false) c.if-number-ne0.false c.is_variable.result c.is_variable.ensures

pub fits-fits_application-requires : goal.fits-fits_application-requires
fits-fits_application-requires t c =
    let nodes = c.args.nodes.now in
    let app = c.in-Application in
    let there = args_there nodes c.args.body app.op app.own app.args.now c.requires.body app.ensures.shape in
    let least = above_least app.args.now c.args.body app.ensures.before in
    (omega (arith, least), (there.0, c.requires.term))

pub fits-returns-in-Application : goal.fits-returns-in-Application
fits-returns-in-Application t c =
    let nodes = c.args.nodes.now in
    let app = c.in-Application in
    let there = args_there nodes c.args.body app.op app.own app.args.now c.requires.body app.ensures.shape in
    c.fits_application.ensures ∙ ap (λ b. fits c.args.id c.args.sort b (tree_at nodes c.args.term)) (sym there.1)

pub fits_application-returns-in-Variable : goal.fits_application-returns-in-Variable
fits_application-returns-in-Variable t c =
    let nodes = c.args.nodes.now in
    let v = c.in-Variable in
    let u = tree_at nodes c.args.term in
    no_application c.args.id c.args.sort c.args.op c.args.own v.number v.sort (trees_of (map (tree_at nodes) c.args.args.now)) u
    (v.ensures.shape u (tree_named nodes c.args.term c.requires.term))

pub fits_application-returns-then-op-other_op : goal.fits_application-returns-then-op-other_op
fits_application-returns-then-op-other_op t c =
    let nodes = c.args.nodes.now in
    let app = c.in-Application in
    let there = args_there nodes c.args.term app.other_op app.other_sort app.other_args.now c.requires.term app.ensures.shape in
    other_operator c.args.id c.args.sort c.args.op c.args.own app.other_op app.other_sort (trees_of (map (tree_at nodes) c.args.args.now))
    (trees_of (map (tree_at nodes) app.other_args.now)) (tree_at nodes c.args.term) there.1 c.if-op-other_op.true

pub fits_application-returns-then-own-other_sort : goal.fits_application-returns-then-own-other_sort
fits_application-returns-then-own-other_sort t c =
    let nodes = c.args.nodes.now in
    let app = c.in-Application in
    let there = args_there nodes c.args.term app.other_op app.other_sort app.other_args.now c.requires.term app.ensures.shape in
    other_result c.args.id c.args.sort c.args.op c.args.own app.other_op app.other_sort (trees_of (map (tree_at nodes) c.args.args.now))
    (trees_of (map (tree_at nodes) app.other_args.now)) (tree_at nodes c.args.term) there.1 c.if-op-other_op.false c.if-own-other_sort.true

pub fits_application-all_fit-requires : goal.fits_application-all_fit-requires
fits_application-all_fit-requires t c =
    let nodes = c.args.nodes.now in
    let app = c.in-Application in
    let there = args_there nodes c.args.term app.other_op app.other_sort app.other_args.now c.requires.term app.ensures.shape in
    (omega arith, (c.requires.args, there.0))

pub fits_application-returns-else-own-other_sort : goal.fits_application-returns-else-own-other_sort
fits_application-returns-else-own-other_sort t c =
    let nodes = c.args.nodes.now in
    let app = c.in-Application in
    let there = args_there nodes c.args.term app.other_op app.other_sort app.other_args.now c.requires.term app.ensures.shape in
    same_operator c.args.id c.args.sort c.args.op c.args.own app.other_op app.other_sort (trees_of (map (tree_at nodes) c.args.args.now))
    (trees_of (map (tree_at nodes) app.other_args.now)) (tree_at nodes c.args.term) there.1 c.if-op-other_op.false c.if-own-other_sort.false c.all_fit.result
    c.all_fit.ensures

pub all_fit-returns-then-bodies-terms : goal.all_fit-returns-then-bodies-terms
all_fit-returns-then-bodies-terms t c = other_length c.args.id c.args.sort c.args.nodes.now c.args.bodies.now c.args.terms.now c.if-bodies-terms.true

pub all_fit-fits-requires : goal.all_fit-fits-requires
all_fit-fits-requires t c =
    let i = c.loop-i.i in
    let bs = c.args.bodies.now in
    let us = c.args.terms.now in
    let count = length c.args.nodes.now in
    let below = above_each bs i c.loop-i-test.true in (
      omega (arith, below),
      (all_there count bs i c.requires.bodies c.loop-i-test.true, all_there count us i c.requires.terms (omega (arith, c.loop-i-test.true, c.if-bodies-terms.false))),
    )

pub all_fit-returns-then-not-fits : goal.all_fit-returns-then-not-fits
all_fit-returns-then-not-fits t c =
    fit_stops c.args.id c.args.sort c.args.nodes.now c.args.bodies.now c.args.terms.now c.loop-i.i c.loop-i-test.true c.if-bodies-terms.false
    (sym c.if-not-fits.true ∙ c.fits.ensures) c.loop-i.invariant

pub all_fit-loop-i-preserved : goal.all_fit-loop-i-preserved
all_fit-loop-i-preserved t c =
    fit_next c.args.id c.args.sort c.args.nodes.now c.args.bodies.now c.args.terms.now c.loop-i.i c.loop-i-test.true c.if-bodies-terms.false
    (sym c.if-not-fits.false ∙ c.fits.ensures) c.loop-i.invariant

pub all_fit-returns : goal.all_fit-returns
all_fit-returns t c =
    fit_all c.args.id c.args.sort c.args.nodes.now c.args.bodies.now c.args.terms.now c.loop-i.i c.loop-i-test.false c.if-bodies-terms.false c.loop-i.invariant
