use Rattle.std.proofs.Common.{ap, ◌∙◌, arith, length, get_or, ◌<◌}
use Rattle.std.specs.List.{slice_get}
use Rattle.std.proofs.lemmas.Option.{slice_get-get_or}
use Rattle.circ_term.specs.Tree.{args_of}
use Rattle.circ_nodes.proofs.Numbers.{there_named, are_named_at, are_named_length}
use Rattle.circ_tries.proofs.making.arg_at.Goals as goal

pub unreachable-requires : goal.unreachable-requires
unreachable-requires c =
    let t = there_named c.args.nodes.now c.args.number c.requires.there in
    let v = c.in-Variable.ensures.shape t.0 t.1 in
    omega (arith, c.requires.place t.0 t.1, ap (λ u. length (args_of u)) v)

pub bounds-args-place : goal.bounds-args-place
bounds-args-place c =
    let t = there_named c.args.nodes.now c.args.number c.requires.there in
    let s = c.in-Application.ensures.shape t.0 t.1 in
    omega (arith, c.requires.place t.0 t.1, ap (λ u. length (args_of u)) s.1, are_named_length c.args.nodes.now c.in-Application.args.now s.0 s.2)

pub offset_bounds-args-place : goal.offset_bounds-args-place
offset_bounds-args-place c =
    let t = there_named c.args.nodes.now c.args.number c.requires.there in
    omega (arith, c.requires.place t.0 t.1, c.in-Application.ensures.few t.0 t.1)

pub returns-clause-few : goal.returns-clause-few
returns-clause-few c =
    let t = there_named c.args.nodes.now c.args.number c.requires.there in
    omega (arith, c.requires.place t.0 t.1, c.in-Application.ensures.few t.0 t.1)

pub returns-clause-arg : goal.returns-clause-arg
returns-clause-arg c = λ t named.
    let nodes = c.args.nodes.now in
    let args = c.in-Application.args.now in
    let s = c.in-Application.ensures.shape t named in
    let below : c.args.place < length args =
    omega (arith, c.requires.place t named, ap (λ u. length (args_of u)) s.1, are_named_length nodes args s.0 s.2) in
    let a = are_named_at nodes args s.0 c.args.place (get_or args c.args.place 0) s.2 (slice_get-get_or args c.args.place 0 below) in
    (a.0, ap (λ u. slice_get (args_of u) c.args.place) s.1 ∙ a.1, a.2)
