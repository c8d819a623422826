use Rattle.std.proofs.Common.{◌≡◌, ◌++◌, ◌∷◌, [], length, get_or, inr, ap, sym, subst, ◌∙◌, arith}
use Rattle.std.proofs.lemmas.Option.{slice_get-get_or}
use Rattle.circ_term.specs.Tree.{App, list_of, args_of, put_at}
use Rattle.circ_rewrite.specs.Plain.{plain_traces}
use Rattle.circ_rewrite.specs.Replacement.{placed, traced}
use Rattle.circ_nodes.specs.Named.{IsNamed}
use Rattle.circ_memo.specs.Keeping.{IsNextKept}
use Rattle.circ_nodes.proofs.Numbers.{named_below, named_one, are_named_at, are_named_length}
use Rattle.circ_due.specs.Chosen.{due_by}
use Rattle.circ_chain.specs.Listed.{Lists, ListsThrough}
use Rattle.circ_chain.proofs.Roots.{root_settled}
use Rattle.circ_chain.proofs.Listing.{lists_start, lists_on, lists_root, lists_arg}
use Rattle.circ_memo.specs.Listing.{count_at}
use Rattle.circ_memo.proofs.Lists.{number_count, fewer, arg_kept, arg_less, lists_ready}
use Rattle.circ_memo.proofs.listing.+list.Goals.{list_step-then-entry-here+in_ok-list_args, list_step-else-entry-here}
use Rattle.circ_memo.proofs.listing.+list.Goals as goal

pub list-returns-in-None-clause-lists : goal.list-returns-in-None-clause-lists
list-returns-in-None-clause-lists t c = λ u n.
    let due = due_by c.args.means.now in
    let i = c.loop-next.invariant in
    let w = i.lists in
    let same = named_one c.args.store.now.nodes c.args.number w.0 u w.2 n in
    let done = rw (c.in-None.is, i.path) at (c.in_ok-list_step.ensures.lists w.1 w.3) in (
      done.0,
      done.1,
      subst (λ x. Lists due c.args.path.now.items x done.0 (plain_traces c.args.traces.now.items) (plain_traces c.list_step.new.traces.items)) same
          (lists_on due c.args.path.now.items w.0 w.1 done.0 (plain_traces c.args.traces.now.items) (plain_traces c.loop-next.traces.items) (plain_traces c.list_step.new.traces.items) w.4 done.2),
    )

pub list-loop-next-preserved : goal.list-loop-next-preserved
list-loop-next-preserved t c =
    let due = due_by c.args.means.now in
    let i = c.loop-next.invariant in
    let w = i.lists in
    let step = rw (c.in-Some.is, i.path) at (c.in_ok-list_step.ensures.lists w.1 w.3) in
    let next = rw c.in-Some.is at c.in_ok-list_step.ensures.next in
    record {
      kept = (next.0, next.1);
      built = c.list_step.ensures.built;
      path = c.in_ok-list_step.ensures.path ∙ i.path;
      lists = (
        w.0,
        step.0,
        w.2,
        step.1,
        lists_on due c.args.path.now.items w.0 w.1 step.0 (plain_traces c.args.traces.now.items) (plain_traces c.loop-next.traces.items) (plain_traces c.list_step.new.traces.items) w.4 step.2,
      );
      fewer = inr (fewer c.args.store.now.entries c.in-Some.next c.loop-next.here c.args.number next.0 (number_count c.args.store.now.entries c.in-Some.next next.0 next.1) next.2 i.fewer);
    }

pub list_arg-returns-clause-lists : goal.list_arg-returns-clause-lists
list_arg-returns-clause-lists t c = λ u n. rw c.in_ok-push.ensures.ok at (c.in_ok-list.ensures.lists u n)

pub list_args-overflow_cast-place : goal.list_args-overflow_cast-place
list_args-overflow_cast-place t c =
    let k = c.requires.kept in
    let shape = c.in-Application.ensures.shape k.0 k.1 in
    omega (
      arith,
      c.in-Application.ensures.few k.0 k.1,
      ap (λ x. length (args_of x)) shape.1,
      are_named_length c.args.store.now.nodes c.in-Application.args.now shape.0 shape.2,
      c.loop-place-test.true,
    )

pub list_args-list_arg-requires : goal.list_args-list_arg-requires
list_args-list_arg-requires t c =
    let nodes = c.args.store.now.nodes in
    let es = c.args.store.now.entries in
    let k = c.requires.kept in
    let shape = c.in-Application.ensures.shape k.0 k.1 in
    let at = slice_get-get_or c.in-Application.args.now c.loop-place.place 0 c.loop-place-test.true in (
      omega (
        arith,
        arg_less nodes es c.known.ensures.once k.0 (count_at es c.args.here) k.2 c.in-Application.op c.in-Application.sort shape.0 c.in-Application.args.now shape.1 shape.2 c.loop-place.place
            (get_or c.in-Application.args.now c.loop-place.place 0) c.args.here at k.1 (omega arith),
      ),
      (
        c.requires.store,
        (
          (
            count_at es c.args.here,
            arg_kept nodes es c.known.ensures.once k.0 (count_at es c.args.here) k.2 c.in-Application.op c.in-Application.sort shape.0 c.in-Application.args.now shape.1 shape.2 c.loop-place.place
                (get_or c.in-Application.args.now c.loop-place.place 0) at,
          ),
          c.loop-place.invariant.built,
        ),
      ),
    )

pub list_args-loop-place-preserved : goal.list_args-loop-place-preserved
list_args-loop-place-preserved t c =
    let due = due_by c.args.means.now in
    let i = c.loop-place.invariant in
    let l = i.lists in
    let at = slice_get-get_or c.in-Application.args.now c.loop-place.place 0 c.loop-place-test.true in
    let a = are_named_at c.args.store.now.nodes c.in-Application.args.now l.2 c.loop-place.place (get_or c.in-Application.args.now c.loop-place.place 0) l.5 at in
    let done = rw i.path at (c.in_ok-list_arg.ensures.lists a.0 a.2) in
    record {
      built = c.list_arg.ensures.built;
      path = c.in_ok-list_arg.ensures.path ∙ i.path;
      lists = (
        l.0,
        l.1,
        l.2,
        put_at l.3 c.loop-place.place done.0,
        l.4,
        l.5,
        lists_arg due c.args.path.now.items l.0 l.1 c.loop-place.place l.2 l.3 a.0 done.0 (plain_traces c.args.traces.now.items) (plain_traces c.loop-place.traces.items)
            (plain_traces c.list_arg.new.traces.items) l.6 a.1 done.2 done.1,
      );
    }

pub list_args-returns-clause-lists : goal.list_args-returns-clause-lists
list_args-returns-clause-lists t c = λ u n.
    let l = c.loop-place.invariant.lists in
    let same = named_one c.args.store.now.nodes c.args.here u (App l.0 l.1 l.2) n l.4 in
    let all : c.loop-place.place ≡ length (list_of l.2) =
    omega (arith, are_named_length c.args.store.now.nodes c.in-Application.args.now l.2 l.5, c.loop-place.auto.place-end, c.loop-place-test.false) in (
      l.0,
      l.1,
      l.2,
      l.3,
      same,
      subst (λ k. ListsThrough (due_by c.args.means.now) c.args.path.now.items l.0 l.1 k l.2 l.3 (plain_traces c.args.traces.now.items) (plain_traces c.loop-place.traces.items)) all l.6,
    )

pub list_step-returns-in_default-next-clause-lists : goal.list_step-returns-in_default-next-clause-lists
list_step-returns-in_default-next-clause-lists t c = λ u n.
    let due = due_by c.args.means.now in
    let nodes = c.args.store.now.nodes in
    let es = c.args.store.now.entries in
    let kept = c.requires.store.kept c.args.here c.in-Some.entry (sym c.entry.ensures ∙ c.in-Some.is) in
    let told = kept.told in
    let none = subst (λ o. IsNextKept due nodes es told.ready c.in-Some.entry.count o) c.in_default-next.is told.next in
    let before : Lists due c.args.path.now.items kept.term told.ready (plain_traces c.args.traces.now.items) (plain_traces c.if-entry-here.traces.items) =
    elim c.if-entry-here.branch [
      | list_step-then-entry-here+in_ok-list_args w ↦
          subst (λ ts. Lists due c.args.path.now.items kept.term told.ready (plain_traces c.args.traces.now.items) (plain_traces ts.items)) (sym w.traces-is)
          (lists_ready due told.big told.deep c.args.path.now.items kept.term told.ready told.known (plain_traces c.args.traces.now.items) (plain_traces w.list_args.new.traces.items)
          (w.in_ok-list_args.ensures.lists kept.term kept.here) told.readies)
      | list_step-else-entry-here w ↦
          subst (λ ts. Lists due c.args.path.now.items kept.term told.ready (plain_traces c.args.traces.now.items) (plain_traces ts.items)) (sym w.traces-is)
          (subst (λ x. Lists due c.args.path.now.items kept.term x (plain_traces c.args.traces.now.items) (plain_traces c.args.traces.now.items))
          (named_one nodes c.args.here kept.term told.ready kept.here (subst (λ k. IsNamed nodes k told.ready) w.if-entry-here.false told.there))
          (lists_start due c.args.path.now.items kept.term (plain_traces c.args.traces.now.items)))
    ] in (
      told.ready,
      root_settled due told.ready told.readies.settled none,
      subst (λ x. Lists due c.args.path.now.items x told.ready (plain_traces c.args.traces.now.items) (plain_traces c.if-entry-here.traces.items)) (named_one nodes c.args.here kept.term u kept.here n)
          before,
    )

pub list_step-list_root-requires-clause-there : goal.list_step-list_root-requires-clause-there
list_step-list_root-requires-clause-there t c =
    let kept = c.requires.store.kept c.args.here c.in-Some.entry (sym c.entry.ensures ∙ c.in-Some.is) in
    let next =
    subst (λ o. IsNextKept (due_by c.args.means.now) c.args.store.now.nodes c.args.store.now.entries kept.told.ready c.in-Some.entry.count o) c.in-Some-next.is kept.told.next in
    named_below c.args.store.now.nodes c.in-Some-next.next next.0.new next.2

pub list_step-returns-clause-lists : goal.list_step-returns-clause-lists
list_step-returns-clause-lists t c = λ u n.
    let due = due_by c.args.means.now in
    let nodes = c.args.store.now.nodes in
    let es = c.args.store.now.entries in
    let kept = c.requires.store.kept c.args.here c.in-Some.entry (sym c.entry.ensures ∙ c.in-Some.is) in
    let told = kept.told in
    let next = subst (λ o. IsNextKept due nodes es told.ready c.in-Some.entry.count o) c.in-Some-next.is told.next in
    let before : Lists due c.args.path.now.items kept.term told.ready (plain_traces c.args.traces.now.items) (plain_traces c.if-entry-here.traces.items) =
    elim c.if-entry-here.branch [
      | list_step-then-entry-here+in_ok-list_args w ↦
          subst (λ ts. Lists due c.args.path.now.items kept.term told.ready (plain_traces c.args.traces.now.items) (plain_traces ts.items)) (sym w.traces-is)
          (lists_ready due told.big told.deep c.args.path.now.items kept.term told.ready told.known (plain_traces c.args.traces.now.items) (plain_traces w.list_args.new.traces.items)
          (w.in_ok-list_args.ensures.lists kept.term kept.here) told.readies)
      | list_step-else-entry-here w ↦
          subst (λ ts. Lists due c.args.path.now.items kept.term told.ready (plain_traces c.args.traces.now.items) (plain_traces ts.items)) (sym w.traces-is)
          (subst (λ x. Lists due c.args.path.now.items kept.term x (plain_traces c.args.traces.now.items) (plain_traces c.args.traces.now.items))
          (named_one nodes c.args.here kept.term told.ready kept.here (subst (λ k. IsNamed nodes k told.ready) w.if-entry-here.false told.there))
          (lists_start due c.args.path.now.items kept.term (plain_traces c.args.traces.now.items)))
    ] in
    let path : c.as_slice.result.now ≡ c.args.path.now.items =
    elim c.if-entry-here.branch [
      | list_step-then-entry-here+in_ok-list_args w ↦ c.as_slice.ensures ∙ ap (λ p. p.items) w.path-is ∙ w.in_ok-list_args.ensures.path
      | list_step-else-entry-here w ↦ c.as_slice.ensures ∙ ap (λ p. p.items) w.path-is
    ] in
    let mid = plain_traces c.if-entry-here.traces.items in
    let root = c.in_ok-list_root.ensures.listed told.ready next.0 told.there next.1 next.2 ∙ ap (λ q. mid ++ traced (placed q next.0) ∷ []) path in
    let after : Lists due c.args.path.now.items told.ready next.0.new mid (plain_traces c.list_root.new.traces.items) =
    subst (λ ts. Lists due c.args.path.now.items told.ready next.0.new mid ts) (sym root) (lists_root due c.args.path.now.items told.ready next.0 mid told.readies.settled next.1) in (
      next.0.new,
      next.2,
      subst (λ x. Lists due c.args.path.now.items x next.0.new (plain_traces c.args.traces.now.items) (plain_traces c.list_root.new.traces.items)) (named_one nodes c.args.here kept.term u kept.here n)
          (lists_on due c.args.path.now.items kept.term told.ready next.0.new (plain_traces c.args.traces.now.items) mid (plain_traces c.list_root.new.traces.items) before after),
    )
