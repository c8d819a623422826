use Rattle.std.proofs.Common.{◌≡◌, ◌<◌, map, length, sym, subst, ◌∙◌, arith}
use Rattle.std.specs.List.{AllByRecursion}
use Rattle.circ_term.specs.Tree.{Trees, trees_of}
use Rattle.circ_term.specs.Limits.{IsWithinLimits}
use Rattle.circ_term.specs.Substitution.{instance, instances}
use Rattle.circ_term.proofs.Instances.{instance-is_ground}
use Rattle.circ_nodes.specs.Named.{tree_at, IsNamed, Interns}
use Rattle.circ_nodes.proofs.Numbers.{all_below, named_later, grows_more}
use Rattle.circ_nodes.proofs.Located.{tree_named}
use Rattle.circ_shared.proofs.Loops.{above_least, above_each, all_there, below_later, first_fault, first_next, first_all}
use Rattle.circ_shared.proofs.Shapes.{shape_at, args_there, instance_taken, fault_taken, few_taken, made_here}
use Rattle.circ_shared.proofs.instances.+instance.Goals as goal

pub instance-returns-then-is_ground-clause-interns : goal.instance-returns-then-is_ground-clause-interns
instance-returns-then-is_ground-clause-interns t c = λ σ made.
    let nodes = c.args.nodes.now in
    let term = tree_at nodes c.args.pattern in
    let e : instance σ term ≡ term = instance-is_ground σ term (sym c.is_ground.ensures ∙ c.if-is_ground.true) in
    subst (λ u. IsNamed nodes c.args.pattern u × IsWithinLimits u) (sym e) (c.known_at.ensures.named, c.known_at.ensures.within)

pub instance-returns-in-Some-clause-interns : goal.instance-returns-in-Some-clause-interns
instance-returns-in-Some-clause-interns t c = λ σ made.
    made_here σ c.args.nodes.now c.args.pattern c.in-Some.number.now (made.each c.args.pattern c.in-Some.number.now (sym c.in-Some.ensures.value))

pub instance-instances-requires : goal.instance-instances-requires
instance-instances-requires t c =
    let nodes = c.args.nodes.now in
    let app = c.in-Application in
    let args = c.as_slice.result.now in
    let copied : args ≡ app.args.now = c.as_slice.ensures ∙ c.in_ok-args-in-Application.ensures.ok in
    let shape = shape_at nodes c.args.pattern app.op app.sort app.args.now args copied app.ensures.shape in
    let before = subst (AllByRecursion (λ m. m < c.args.pattern)) (sym copied) app.ensures.before in
    let least = above_least args c.args.pattern before in
    (omega (arith, least), (args_there nodes c.args.pattern app.op app.sort args c.requires.there shape, c.requires.made))

pub instance-returns-in-Err-clause-interns : goal.instance-returns-in-Err-clause-interns
instance-returns-in-Err-clause-interns t c = λ σ made.
    let nodes = c.args.nodes.now in
    let app = c.in-Application in
    let args = c.as_slice.result.now in
    let copied : args ≡ app.args.now = c.as_slice.ensures ∙ c.in_ok-args-in-Application.ensures.ok in
    let shape = shape_at nodes c.args.pattern app.op app.sort app.args.now args copied app.ensures.shape in
    fault_taken nodes c.args.pattern app.op app.sort args c.requires.there shape σ c.in-Err.fault (c.in-Err.ensures.interns σ made)

pub instance-enter-requires-clause-few : goal.instance-enter-requires-clause-few
instance-enter-requires-clause-few t c =
    let nodes = c.args.nodes.now in
    let app = c.in-Application in
    let args = c.as_slice.result.now in
    let copied : args ≡ app.args.now = c.as_slice.ensures ∙ c.in_ok-args-in-Application.ensures.ok in
    let shape = shape_at nodes c.args.pattern app.op app.sort app.args.now args copied app.ensures.shape in
    let any = c.requires.made in
    few_taken nodes c.args.pattern app.op app.sort args c.requires.there shape any.0 c.instances.new.nodes c.in-Ok.numbers.items _
    (c.in-Ok.ensures.interns any.0 any.1).0 app.ensures.few

pub instance-enter-requires-clause-there : goal.instance-enter-requires-clause-there
instance-enter-requires-clause-there t c =
    let any = c.requires.made in
    all_below c.instances.new.nodes c.in-Ok.numbers.items (instances any.0 (trees_of (map (tree_at c.args.nodes.now) c.as_slice.result.now)))
    (c.in-Ok.ensures.interns any.0 any.1).0

pub instance-returns-clause-interns : goal.instance-returns-clause-interns
instance-returns-clause-interns t c = λ σ made.
    let nodes = c.args.nodes.now in
    let app = c.in-Application in
    let args = c.as_slice.result.now in
    let copied : args ≡ app.args.now = c.as_slice.ensures ∙ c.in_ok-args-in-Application.ensures.ok in
    let shape = shape_at nodes c.args.pattern app.op app.sort app.args.now args copied app.ensures.shape in
    let us : Trees = instances σ (trees_of (map (tree_at nodes) args)) in
    subst (Interns c.enter.new.nodes c.enter.result) (sym (instance_taken nodes c.args.pattern app.op app.sort args c.requires.there shape σ))
    (c.enter.ensures.interns us (c.in-Ok.ensures.interns σ made).0)

pub instance-returns-clause-made : goal.instance-returns-clause-made
instance-returns-clause-made t c = λ σ made.
    let nodes = c.args.nodes.now in
    let app = c.in-Application in
    let args = c.as_slice.result.now in
    let copied : args ≡ app.args.now = c.as_slice.ensures ∙ c.in_ok-args-in-Application.ensures.ok in
    let shape = shape_at nodes c.args.pattern app.op app.sort app.args.now args copied app.ensures.shape in
    let us : Trees = instances σ (trees_of (map (tree_at nodes) args)) in
    let term = tree_at nodes c.args.pattern in
    c.enter.ensures.made σ term us (c.in-Ok.ensures.interns σ made).0
    (named_later nodes c.instances.new.nodes c.args.pattern term c.in-Ok.ensures.grows (tree_named nodes c.args.pattern c.requires.there))
    (instance_taken nodes c.args.pattern app.op app.sort args c.requires.there shape σ) (c.in-Ok.ensures.made σ made)

pub instances-instance-requires : goal.instances-instance-requires
instances-instance-requires t c =
    let at = c.loop-pattern in
    let below = above_each c.args.patterns.now at.pattern-index c.loop-pattern-test.true in
    let there = all_there (length at.nodes) c.args.patterns.now at.pattern-index
    (below_later c.args.nodes.now at.nodes c.args.patterns.now at.invariant.grows c.requires.there) c.loop-pattern-test.true in
    let any = c.requires.made in
    (omega (arith, below), (there, (any.0, (at.invariant.made any.0 any.1).0)))

pub instances-returns-in-Err-clause-interns : goal.instances-returns-in-Err-clause-interns
instances-returns-in-Err-clause-interns t c = λ σ made.
    let at = c.loop-pattern in
    let so_far = at.invariant.made σ made in
    first_fault σ c.args.nodes.now c.args.patterns.now at.nodes at.numbers.items at.pattern-index at.invariant.grows c.requires.there c.loop-pattern-test.true so_far.1
    c.in-Err.fault (c.in-Err.ensures.interns σ so_far.0)

pub instances-loop-pattern-preserved : goal.instances-loop-pattern-preserved
instances-loop-pattern-preserved t c =
    let at = c.loop-pattern in
    record {
      grows = grows_more c.args.nodes.now at.nodes c.instance.new.nodes at.invariant.grows c.in-Ok.ensures.grows;
      made = λ σ made.
          let so_far = at.invariant.made σ made in
          let one = c.in-Ok.ensures.interns σ so_far.0 in (
            c.in-Ok.ensures.made σ so_far.0,
            first_next σ c.args.nodes.now c.args.patterns.now at.nodes at.numbers.items at.pattern-index at.invariant.grows c.requires.there c.loop-pattern-test.true so_far.1
                c.instance.new.nodes c.push.new.self.items c.in-Ok.number c.in-Ok.ensures.grows one.0 one.1 c.in_ok-push-in-Ok.ensures.ok,
          );
    }

pub instances-returns-clause-interns : goal.instances-returns-clause-interns
instances-returns-clause-interns t c = λ σ made.
    let at = c.loop-pattern in
    first_all σ c.args.nodes.now c.args.patterns.now at.nodes at.numbers.items at.pattern-index (at.invariant.made σ made).1 (omega (arith, c.loop-pattern-test.false))

-- ---- the table grows

pub instance-returns-clause-grows : goal.instance-returns-clause-grows
instance-returns-clause-grows t c =
    grows_more c.args.nodes.now c.instances.new.nodes c.enter.new.nodes c.in-Ok.ensures.grows c.enter.ensures.grows

pub instances-returns-in-Err-clause-grows : goal.instances-returns-in-Err-clause-grows
instances-returns-in-Err-clause-grows t c =
    grows_more c.args.nodes.now c.loop-pattern.nodes c.instance.new.nodes c.loop-pattern.invariant.grows c.in-Err.ensures.grows

pub instances-returns-in_err-push-in-Ok-clause-grows : goal.instances-returns-in_err-push-in-Ok-clause-grows
instances-returns-in_err-push-in-Ok-clause-grows t c =
    grows_more c.args.nodes.now c.loop-pattern.nodes c.instance.new.nodes c.loop-pattern.invariant.grows c.in-Ok.ensures.grows
