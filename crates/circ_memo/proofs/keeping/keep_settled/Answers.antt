use Rattle.std.proofs.Common.{[], inl, refl, arith}
use Rattle.circ_chain.proofs.Roots.{readies_self}
use Rattle.circ_memo.proofs.Telling.{kept_put, kept_same, stays_on, stays_same, way_stays}
use Rattle.circ_memo.proofs.Stepping.{still_form, settled_form}
use Rattle.circ_memo.proofs.keeping.keep_settled.Goals as goal

pub returns-in_err-keep-2-clause-kept : goal.returns-in_err-keep-2-clause-kept
returns-in_err-keep-2-clause-kept c = λ due b t u kept here way none told.
    let nodes = c.args.store.now.nodes in
    let first =
    kept_put due nodes c.args.way.ready u _ _ _ c.in_ok-keep.ensures.kept way.there (still_form due nodes u _ way.readies.settled none way.there refl)
    (record { ready = u; known = []; big = 0; deep = 0; there = way.there; readies = readies_self due u way.readies.settled; way = inl refl; next = none }) kept in
    rw (c.keep-2.ensures.nodes, c.keep.ensures.nodes)
    (kept_same due nodes _ _ c.in_err-keep-2.ensures.err first.0, stays_on _ _ _ first.1 (stays_same _ _ c.in_err-keep-2.ensures.err))

pub returns-clause-kept : goal.returns-clause-kept
returns-clause-kept c = λ due b t u kept here way none told.
    let nodes = c.args.store.now.nodes in
    let first =
    kept_put due nodes c.args.way.ready u _ _ _ c.in_ok-keep.ensures.kept way.there (still_form due nodes u _ way.readies.settled none way.there refl)
    (record { ready = u; known = []; big = 0; deep = 0; there = way.there; readies = readies_self due u way.readies.settled; way = inl refl; next = none }) kept in
    let second =
    kept_put due nodes c.args.here t _ _ _ c.in_ok-keep-2.ensures.kept here (settled_form due nodes b t c.args.way u _ way none refl refl refl refl)
    (record {
      ready = u;
      known = way.traces;
      big = c.args.way.big;
      deep = c.args.way.deep;
      there = way.there;
      readies = way.readies;
      way = way_stays _ _ first.1 nodes c.args.here t c.args.way.ready c.args.way.count told;
      next = none;
    }) first.0 in
    rw (c.keep-2.ensures.nodes, c.keep.ensures.nodes) (second.0, stays_on _ _ _ first.1 second.1)

pub returns-clause-form : goal.returns-clause-form
returns-clause-form c = λ due b t u way none.
    let nodes = c.args.store.now.nodes in
    rw (c.keep-2.ensures.nodes, c.keep.ensures.nodes)
    (settled_form due nodes b t c.args.way u _ way none refl refl refl refl, record { small = way.small; shallow = way.shallow })

pub returns-clause-there : goal.returns-clause-there
returns-clause-there c = (_, c.in_ok-keep-2.ensures.kept.there, omega arith)

pub returns-in_err-keep-clause-kept : goal.returns-in_err-keep-clause-kept
returns-in_err-keep-clause-kept c = λ due b t u kept here way none told.
    rw c.keep.ensures.nodes (kept_same due c.args.store.now.nodes _ _ c.in_err-keep.ensures.err kept, stays_same _ _ c.in_err-keep.ensures.err)
