use Rattle.std.proofs.Common.{ap, sym, subst, ◌∙◌, ◌∷◌, [], arith, length, get_or, ◌<◌}
use Rattle.std.proofs.lemmas.Option.{same_Some, slice_get-get_or}
use Rattle.circ_term.specs.Tree.{Tree, App, args_of, put_at, replaced}
use Rattle.circ_nodes.specs.Named.{Interns}
use Rattle.circ_nodes.proofs.Numbers.{there_named, all_below, are_named_at, are_named_length, are_named_set}
use Rattle.circ_tries.proofs.Arguments.{length_set, put_is}
use Rattle.circ_tries.proofs.making.put.Goals as goal

pub unreachable-requires : goal.unreachable-requires
unreachable-requires c =
    let t = there_named c.args.nodes.now c.args.number c.requires.there in
    let v = c.in-Variable.ensures.shape t.0 t.1 in
    omega (arith, c.requires.place t.0 t.1, ap (λ u. length (args_of u)) v)

pub set-requires : goal.set-requires
set-requires c =
    let t = there_named c.args.nodes.now c.args.number c.requires.there in
    let s = c.in-Application.ensures.shape t.0 t.1 in
    omega (
      arith,
      c.requires.place t.0 t.1,
      ap (λ u. length (args_of u)) s.1,
      are_named_length c.args.nodes.now c.in-Application.args.now s.0 s.2,
      ap length c.in_ok-args-in-Application.ensures.ok,
    )

pub app-requires-clause-few : goal.app-requires-clause-few
app-requires-clause-few c =
    let t = there_named c.args.nodes.now c.args.number c.requires.there in
    let s = c.in-Application.ensures.shape t.0 t.1 in
    omega (
      arith,
      c.in-Application.ensures.few t.0 t.1,
      ap (λ u. length (args_of u)) s.1,
      are_named_length c.args.nodes.now c.in-Application.args.now s.0 s.2,
      ap length c.in_ok-args-in-Application.ensures.ok,
      ap length c.set.ensures,
      length_set c.in_ok-args-in-Application.args.items c.args.place c.args.new,
    )

pub app-requires-clause-there : goal.app-requires-clause-there
app-requires-clause-there c =
    let nodes = c.args.nodes.now in
    let t = there_named nodes c.args.number c.requires.there in
    let u = there_named nodes c.args.new c.requires.new in
    let s = c.in-Application.ensures.shape t.0 t.1 in
    rw (c.set.ensures, c.in_ok-args-in-Application.ensures.ok)
    (all_below nodes _ (put_at s.0 c.args.place u.0) (are_named_set nodes c.in-Application.args.now s.0 c.args.place c.args.new u.0 s.2 u.1))

pub returns-clause-interns : goal.returns-clause-interns
returns-clause-interns c = λ t u v named nu r.
    let nodes = c.args.nodes.now in
    let args = c.in-Application.args.now in
    let i = c.args.place in
    let s = c.in-Application.ensures.shape t named in
    let below : i < length args = omega (arith, c.requires.place t named, ap (λ x. length (args_of x)) s.1, are_named_length nodes args s.0 s.2) in
    let a = are_named_at nodes args s.0 i (get_or args i 0) s.2 (slice_get-get_or args i 0 below) in
    let whole : Tree = App c.in-Application.op c.in-Application.sort (put_at s.0 i u) in
    let is = same_Some whole v (sym (ap (λ x. replaced x (i ∷ []) u) s.1 ∙ put_is c.in-Application.op c.in-Application.sort i s.0 a.0 u a.1) ∙ r) in
    subst (λ x. Interns c.app.new.self c.app.result x) is
    (c.app.ensures.interns (put_at s.0 i u) (rw (c.set.ensures, c.in_ok-args-in-Application.ensures.ok) (are_named_set nodes args s.0 i c.args.new u s.2 nu)))
