use Rattle.std.proofs.Common.{get_or, refl, ◌∙◌, arith}
use Rattle.std.proofs.lemmas.List.{drop_more}
use Rattle.circ_special.specs.Special.{place}
use Rattle.circ_contexts.proofs.Dropping.{traces_first, traces_next, traces_last, one_candidate}
use Rattle.circ_contexts.proofs.candidates.Means.traces.Goals as goal

pub loop-place-init : goal.loop-place-init
loop-place-init c =
    record { reducer = refl; traces = rw c.new-traces.ensures.items (traces_first c.args.self.now.theory.now c.args.self.now.budget c.args.places.now) }

pub push_traces-requires : goal.push_traces-requires
push_traces-requires c =
    let g = get_or c.args.places.now c.loop-place.place-index (place 0 0) in
    let read = drop_more c.args.places.now c.loop-place.place-index (place 0 0) c.loop-place-test.true in
    record {
      reducer = c.loop-place.invariant.reducer ∙ c.requires.reducer;
      candidate = one_candidate c.args.self.now.theory.now c.args.self.now.budget c.args.places.now c.loop-place.place-index g read c.requires.candidates;
    }

pub loop-place-preserved : goal.loop-place-preserved
loop-place-preserved c =
    let g = get_or c.args.places.now c.loop-place.place-index (place 0 0) in
    let read = drop_more c.args.places.now c.loop-place.place-index (place 0 0) c.loop-place-test.true in
    record {
      reducer = c.push_traces.ensures.same ∙ c.loop-place.invariant.reducer;
      traces = traces_next c.args.self.now.theory.now c.args.self.now.budget c.args.places.now c.loop-place.place-index g c.loop-place.traces.items
          c.push_traces.new.traces.items read c.loop-place.invariant.traces c.in_ok-push_traces.ensures.added;
    }

pub returns : goal.returns
returns c =
    traces_last c.args.self.now.theory.now c.args.self.now.budget c.args.places.now c.loop-place.place-index c.loop-place.traces.items (omega (arith, c.loop-place-test.false))
    c.loop-place.invariant.traces
