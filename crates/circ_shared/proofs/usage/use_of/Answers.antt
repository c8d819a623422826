use Rattle.std.proofs.Common.{List, sym, subst, Some}
use Rattle.std.specs.Option.{IfSome}
use Rattle.circ_term.specs.Substitution.{instance}
use Rattle.circ_term.specs.Tree.{Tree}
use Rattle.circ_theory.specs.Theory.{Pair}
use Rattle.circ_nodes.specs.Named.{tree_at}
use Rattle.circ_nodes.proofs.Located.{tree_later}
use Rattle.circ_nodes.proofs.Numbers.{grows_more}
use Rattle.circ_replay.specs.Rewriting.{GivesExchange, GivesPairs, AreWithin}
use Rattle.circ_shared.specs.Memo.{IsMade}
use Rattle.circ_shared.specs.Patterns.{pairs_at}
use Rattle.circ_shared.proofs.Sharing.{of_some, term_later, are_there_later, pairs_later}
use Rattle.circ_shared.proofs.usage.use_of.Goals as goal

pub returns-in_default-clause-exact : goal.returns-in_default-clause-exact
returns-in_default-clause-exact c = λ σ made u r w. (rw c.in_default.is at (c.in_ok-term.ensures.exact σ made)) u r

pub pair_instances-requires-clause-there : goal.pair_instances-requires-clause-there
pair_instances-requires-clause-there c = are_there_later c.args.nodes.now c.rewrite.new.nodes c.in_ok-term.ensures.grows c.args.conds.now c.requires.conditions

pub pair_instances-requires-clause-made : goal.pair_instances-requires-clause-made
pair_instances-requires-clause-made c =
    let any = c.requires.made in
    (any.0, subst (λ o. IfSome o (λ n. IsMade any.0 c.rewrite.new.nodes c.rewrite.new.made.entries)) c.in-Some.is (c.in_ok-term.ensures.made any.0 any.1))

pub returns-in_default-2-clause-exact : goal.returns-in_default-2-clause-exact
returns-in_default-2-clause-exact c = λ σ made u r w.
    let nodes = c.args.nodes.now in
    let first = c.rewrite.new.nodes in
    let later = subst (λ o. IfSome o (λ n. IsMade σ first c.rewrite.new.made.entries)) c.in-Some.is (c.in_ok-term.ensures.made σ made) in
    let never = rw c.in_default-2.is at (c.in_ok-conds.ensures.exact σ later) in
    never (subst (AreWithin σ) (sym (pairs_later nodes first c.in_ok-term.ensures.grows c.args.conds.now c.requires.conditions)) w)

pub returns-clause-exact : goal.returns-clause-exact
returns-clause-exact c = λ σ made.
    let nodes = c.args.nodes.now in
    let first = c.rewrite.new.nodes in
    let second = c.pair_instances.new.nodes in
    let g = c.in_ok-conds.ensures.grows in
    let later = subst (λ o. IfSome o (λ n. IsMade σ first c.rewrite.new.made.entries)) c.in-Some.is (c.in_ok-term.ensures.made σ made) in
    let from = instance σ (tree_at nodes c.args.sides.from) in
    let to = instance σ (tree_at nodes c.args.sides.to) in
    let one = of_some first (GivesExchange (tree_at nodes c.args.term) c.args.path.now from to) c.in_ok-term.field-0 c.in-Some.term c.in-Some.is (c.in_ok-term.ensures.exact σ made) in
    let two = rw c.in-Some-2.is at (c.in_ok-conds.ensures.exact σ later) in
    let P : Tree → Type 0 = λ u. GivesExchange (tree_at nodes c.args.term) c.args.path.now from to (Some u) in
    let Q : List Pair → Type 0 = λ E. GivesPairs σ E (Some (pairs_at second c.in-Some-2.conds.items)) in
    let pairs = subst Q (pairs_later nodes first c.in_ok-term.ensures.grows c.args.conds.now c.requires.conditions) two.1 in (
      term_later first second g c.in-Some.term one.0,
      two.0,
      (subst P (sym (tree_later first second c.in-Some.term g one.0)) one.1, pairs.0, pairs.1),
    )

-- ---- the table grows

pub returns-in_err-conds-clause-grows : goal.returns-in_err-conds-clause-grows
returns-in_err-conds-clause-grows c =
    grows_more c.args.nodes.now c.rewrite.new.nodes c.pair_instances.new.nodes c.in_ok-term.ensures.grows c.pair_instances.ensures.grows

pub returns-in_default-2-clause-grows : goal.returns-in_default-2-clause-grows
returns-in_default-2-clause-grows c =
    grows_more c.args.nodes.now c.rewrite.new.nodes c.pair_instances.new.nodes c.in_ok-term.ensures.grows c.in_ok-conds.ensures.grows

pub returns-clause-grows : goal.returns-clause-grows
returns-clause-grows c =
    grows_more c.args.nodes.now c.rewrite.new.nodes c.pair_instances.new.nodes c.in_ok-term.ensures.grows c.in_ok-conds.ensures.grows
