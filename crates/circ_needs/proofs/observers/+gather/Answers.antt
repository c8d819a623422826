use Rattle.std.proofs.Common.{ℕ, ◌<◌, length, refl, ap, sym, subst, arith}
use Rattle.std.proofs.lemmas.Option.{slice_get_read, slice_get_within}
use Rattle.circ_term.specs.Tree.{Tree, depth_of}
use Rattle.circ_term.proofs.Within.{depth_at}
use Rattle.circ_needs.specs.Observing.{IsFound}
use Rattle.circ_needs.proofs.Observing.{variable_found, application_by, args_next, on_ok, noted_adds, noted_hole}
use Rattle.circ_needs.proofs.observers.+gather.Goals as goal

pub gather-returns-in-Variable-clause-found : goal.gather-returns-in-Variable-clause-found
gather-returns-in-Variable-clause-found t c =
    let v = c.in-Variable in
    subst (IsFound c.args.look c.args.looks.now.entries) v.ensures.value (variable_found c.args.look c.args.looks.now.entries v.number v.sort)

pub gather-returns-in-Application-clause-found : goal.gather-returns-in-Application-clause-found
gather-returns-in-Application-clause-found t c =
    let v = c.in-Application in
    on_ok c.gather_all.result (application_by c.args.look c.gather_all.new.looks.entries v.op v.sort v.args.now c.args.subterm.now v.ensures.value) c.gather_all.ensures.found

pub gather_all-gather_arg-requires : goal.gather_all-gather_arg-requires
gather_all-gather_arg-requires t c =
    let deep = depth_at c.args.args.now c.loop-arg.arg-index c.arg-item.result c.loop-arg-test.true c.arg-item.is in
    (omega arith, omega (arith, c.requires))

pub gather_all-loop-arg-preserved : goal.gather_all-loop-arg-preserved
gather_all-loop-arg-preserved t c =
    let i = c.loop-arg.arg-index in
    let read = slice_get_read c.args.args.now (length c.args.args.now) i c.arg-item.result refl c.loop-arg-test.true c.arg-item.is in
    record {
      adds = λ f x h. c.in_ok-gather_arg.ensures.adds f x (c.loop-arg.invariant.adds f x h);
      each = args_next c.args.op c.args.look c.loop-arg.looks.entries c.gather_arg.new.looks.entries c.args.args.now i c.arg-item.result read c.in_ok-gather_arg.ensures.adds
          c.in_ok-gather_arg.ensures.found c.loop-arg.invariant.each;
    }

pub gather_all-returns-clause-found : goal.gather_all-returns-clause-found
gather_all-returns-clause-found t c =
    λ i u e. c.loop-arg.invariant.each i u (omega (arith, slice_get_within c.args.args.now i u e, c.loop-arg-test.false)) e

pub gather_arg-returns-then-is_hole-clause-found : goal.gather_arg-returns-then-is_hole-clause-found
gather_arg-returns-then-is_hole-clause-found t c =
    on_ok c.note.result (λ n. noted_hole c.args.looks.now.entries c.note.new.looks.entries c.args.op c.args.look n c.args.arg.now (c.is_hole.ensures.0 c.if-is_hole.true)) c.note.ensures
