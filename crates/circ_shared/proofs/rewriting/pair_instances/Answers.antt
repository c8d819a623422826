use Rattle.std.proofs.Common.{◌≡◌, ℕ, List, Option, get_or, ap, sym, subst, ◌∙◌}
use Rattle.std.specs.Option.{IfSome}
use Rattle.circ_term.specs.Limits.{IsWithinLimits}
use Rattle.circ_term.specs.Substitution.{instance}
use Rattle.circ_term.specs.Tree.{Tree}
use Rattle.circ_nodes.specs.Named.{tree_at}
use Rattle.circ_nodes.proofs.Located.{tree_later}
use Rattle.circ_nodes.proofs.Numbers.{grows_self, grows_more}
use Rattle.circ_replay.specs.Rewriting.{GivesInstance}
use Rattle.circ_shared.specs.Memo.{IsMade}
use Rattle.circ_shared.specs.declared.patterns.Sides.{Sides}
use Rattle.circ_shared.proofs.Meets.{unread, read_again, sides_there}
use Rattle.circ_shared.proofs.Paired.{AreInstances, instances_none, pair_within, instances_next, instances_all}
use Rattle.circ_shared.proofs.Sharing.{of_some, term_later}
use Rattle.circ_shared.proofs.rewriting.pair_instances.Goals as goal

pub loop-pair-init : goal.loop-pair-init
loop-pair-init c =
    let nodes = c.args.nodes.now in
    record {
      grows = grows_self nodes;
      made = λ σ made.
          let P : List Sides → Type 0 = λ ms. AreInstances σ nodes c.args.pairs.now nodes ms 0 in
          (made, subst P (sym c.new-instances.ensures.items) (instances_none σ nodes c.args.pairs.now nodes));
    }

pub instance_within-requires-clause-there : goal.instance_within-requires-clause-there
instance_within-requires-clause-there c =
    let start = c.args.nodes.now in
    let at = c.loop-pair in
    let ps = c.args.pairs.now in
    let x = get_or ps at.pair-index unread in
    term_later start at.nodes at.invariant.grows x.left (sides_there start ps at.pair-index x c.requires.there c.loop-pair-test.true (read_again ps at.pair-index c.loop-pair-test.true)).0

pub instance_within-requires-clause-made : goal.instance_within-requires-clause-made
instance_within-requires-clause-made c = let any = c.requires.made in (any.0, (c.loop-pair.invariant.made any.0 any.1).0)

pub returns-in_default-clause-exact : goal.returns-in_default-clause-exact
returns-in_default-clause-exact c = λ σ made w.
    let start = c.args.nodes.now in
    let at = c.loop-pair in
    let ps = c.args.pairs.now in
    let x = get_or ps at.pair-index unread in
    let so_far = at.invariant.made σ made in
    let past = rw c.in_default.is at (c.in_ok-left.ensures.gives σ so_far.0) in
    let there = sides_there start ps at.pair-index x c.requires.there c.loop-pair-test.true (read_again ps at.pair-index c.loop-pair-test.true) in
    let P : Tree → Type 0 = λ t. IsWithinLimits (instance σ t) in
    past (subst P (sym (tree_later start at.nodes x.left at.invariant.grows there.0)) (pair_within σ start ps at.nodes at.instances.items at.pair-index x c.loop-pair-test.true (read_again ps at.pair-index c.loop-pair-test.true) so_far.1 w).0)

pub instance_within-requires-in-loop-pair-clause-there : goal.instance_within-requires-in-loop-pair-clause-there
instance_within-requires-in-loop-pair-clause-there c =
    let start = c.args.nodes.now in
    let at = c.loop-pair in
    let ps = c.args.pairs.now in
    let x = get_or ps at.pair-index unread in
    let g = grows_more start at.nodes c.instance_within.new.nodes at.invariant.grows c.in_ok-left.ensures.grows in
    term_later start c.instance_within.new.nodes g x.right (sides_there start ps at.pair-index x c.requires.there c.loop-pair-test.true (read_again ps at.pair-index c.loop-pair-test.true)).1

pub instance_within-requires-in-loop-pair-clause-made : goal.instance_within-requires-in-loop-pair-clause-made
instance_within-requires-in-loop-pair-clause-made c =
    let any = c.requires.made in
    let P : Option ℕ → Type 0 = λ o. IfSome o (λ n. IsMade any.0 c.instance_within.new.nodes c.instance_within.new.made.entries) in
    (any.0, subst P c.in-Some.is (c.in_ok-left.ensures.made any.0 (c.loop-pair.invariant.made any.0 any.1).0))

pub returns-in_default-2-clause-exact : goal.returns-in_default-2-clause-exact
returns-in_default-2-clause-exact c = λ σ made w.
    let start = c.args.nodes.now in
    let at = c.loop-pair in
    let ps = c.args.pairs.now in
    let x = get_or ps at.pair-index unread in
    let first = c.instance_within.new.nodes in
    let g = grows_more start at.nodes first at.invariant.grows c.in_ok-left.ensures.grows in
    let so_far = at.invariant.made σ made in
    let Q : Option ℕ → Type 0 = λ o. IfSome o (λ n. IsMade σ first c.instance_within.new.made.entries) in
    let later = subst Q c.in-Some.is (c.in_ok-left.ensures.made σ so_far.0) in
    let past = rw c.in_default-2.is at (c.in_ok-right.ensures.gives σ later) in
    let there = sides_there start ps at.pair-index x c.requires.there c.loop-pair-test.true (read_again ps at.pair-index c.loop-pair-test.true) in
    let P : Tree → Type 0 = λ t. IsWithinLimits (instance σ t) in
    past (subst P (sym (tree_later start first x.right g there.1)) (pair_within σ start ps at.nodes at.instances.items at.pair-index x c.loop-pair-test.true (read_again ps at.pair-index c.loop-pair-test.true) so_far.1 w).1)

pub loop-pair-preserved : goal.loop-pair-preserved
loop-pair-preserved c =
    let start = c.args.nodes.now in
    let at = c.loop-pair in
    let ps = c.args.pairs.now in
    let x = get_or ps at.pair-index unread in
    let first = c.instance_within.new.nodes in
    let second = c.instance_within-in-loop-pair.new.nodes in
    let g0 = at.invariant.grows in
    let g1 = c.in_ok-left.ensures.grows in
    let g2 = c.in_ok-right.ensures.grows in
    let there = sides_there start ps at.pair-index x c.requires.there c.loop-pair-test.true (read_again ps at.pair-index c.loop-pair-test.true) in
    record {
      grows = grows_more start first second (grows_more start at.nodes first g0 g1) g2;
      made = λ σ made.
          let so_far = at.invariant.made σ made in
          let one = of_some first (GivesInstance σ (tree_at at.nodes x.left)) c.in_ok-left.field-0 c.in-Some.left c.in-Some.is (c.in_ok-left.ensures.gives σ so_far.0) in
          let Q : Option ℕ → Type 0 = λ o. IfSome o (λ n. IsMade σ first c.instance_within.new.made.entries) in
          let later = subst Q c.in-Some.is (c.in_ok-left.ensures.made σ so_far.0) in
          let two = of_some second (GivesInstance σ (tree_at first x.right)) c.in_ok-right.field-0 c.in-Some-2.right c.in-Some-2.is (c.in_ok-right.ensures.gives σ later) in
          let R : Option ℕ → Type 0 = λ o. IfSome o (λ n. IsMade σ second c.instance_within-in-loop-pair.new.made.entries) in
          let made_last = subst R c.in-Some-2.is (c.in_ok-right.ensures.made σ later) in
          let k : Sides = record { left = c.in-Some.left; right = c.in-Some-2.right } in
          let left_is = tree_later first second c.in-Some.left g2 one.0 in
          let left : tree_at second c.in-Some.left ≡ instance σ (tree_at start x.left) = left_is ∙ one.1.0 ∙ ap (instance σ) (tree_later start at.nodes x.left g0 there.0) in
          let right : tree_at second c.in-Some-2.right ≡ instance σ (tree_at start x.right) =
          two.1.0 ∙ ap (instance σ) (tree_later start first x.right (grows_more start at.nodes first g0 g1) there.1) in
          let within_left = subst IsWithinLimits (sym left_is ∙ left) one.1.1 in
          let within_right = subst IsWithinLimits right two.1.1 in (
            made_last,
            instances_next σ start ps at.nodes at.instances.items at.pair-index x c.loop-pair-test.true (read_again ps at.pair-index c.loop-pair-test.true) so_far.1 second c.push.new.self.items k
                (grows_more at.nodes first second g1 g2) (term_later first second g2 c.in-Some.left one.0, two.0) left within_left right within_right c.in_ok-push.ensures.items,
          );
    }

pub returns-clause-exact : goal.returns-clause-exact
returns-clause-exact c = λ σ made.
    let at = c.loop-pair in
    instances_all σ c.args.nodes.now c.args.pairs.now at.nodes at.instances.items at.pair-index (at.invariant.made σ made).1 c.loop-pair-test.false

-- ---- the table grows

pub returns-in_err-left-clause-grows : goal.returns-in_err-left-clause-grows
returns-in_err-left-clause-grows c =
    grows_more c.args.nodes.now c.loop-pair.nodes c.instance_within.new.nodes c.loop-pair.invariant.grows c.instance_within.ensures.grows

pub returns-in_default-clause-grows : goal.returns-in_default-clause-grows
returns-in_default-clause-grows c =
    grows_more c.args.nodes.now c.loop-pair.nodes c.instance_within.new.nodes c.loop-pair.invariant.grows c.in_ok-left.ensures.grows

pub returns-in_err-right-clause-grows : goal.returns-in_err-right-clause-grows
returns-in_err-right-clause-grows c =
    grows_more c.args.nodes.now c.instance_within.new.nodes c.instance_within-in-loop-pair.new.nodes (grows_more c.args.nodes.now c.loop-pair.nodes c.instance_within.new.nodes c.loop-pair.invariant.grows c.in_ok-left.ensures.grows) c.instance_within-in-loop-pair.ensures.grows

pub returns-in_default-2-clause-grows : goal.returns-in_default-2-clause-grows
returns-in_default-2-clause-grows c =
    grows_more c.args.nodes.now c.instance_within.new.nodes c.instance_within-in-loop-pair.new.nodes (grows_more c.args.nodes.now c.loop-pair.nodes c.instance_within.new.nodes c.loop-pair.invariant.grows c.in_ok-left.ensures.grows) c.in_ok-right.ensures.grows

pub returns-in_err-push-clause-grows : goal.returns-in_err-push-clause-grows
returns-in_err-push-clause-grows c =
    grows_more c.args.nodes.now c.instance_within.new.nodes c.instance_within-in-loop-pair.new.nodes (grows_more c.args.nodes.now c.loop-pair.nodes c.instance_within.new.nodes c.loop-pair.invariant.grows c.in_ok-left.ensures.grows) c.in_ok-right.ensures.grows

pub returns-clause-grows : goal.returns-clause-grows
returns-clause-grows c =
    c.loop-pair.invariant.grows
