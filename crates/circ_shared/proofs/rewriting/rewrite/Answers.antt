use Rattle.std.proofs.Common.{◌≡◌, IfOk, ap, sym, subst, ◌∙◌}
use Rattle.std.specs.Option.{IfSome}
use Rattle.circ_term.specs.Limits.{IsWithinLimits}
use Rattle.circ_term.specs.Substitution.{instance}
use Rattle.circ_term.specs.Tree.{Tree}
use Rattle.circ_term.proofs.Limits.{at_within, replaced_within}
use Rattle.circ_nodes.specs.Named.{tree_at}
use Rattle.circ_nodes.proofs.Located.{tree_later}
use Rattle.circ_nodes.proofs.Numbers.{grows_more}
use Rattle.circ_replay.specs.Rewriting.{GivesInstance, GivesExchange}
use Rattle.circ_shared.specs.Interned.{OfTerm}
use Rattle.circ_shared.specs.Memo.{IsMade}
use Rattle.circ_shared.proofs.Made.{made_later}
use Rattle.circ_shared.proofs.Sharing.{of_none, of_some, if_some_same, term_later}
use Rattle.circ_shared.proofs.rewriting.rewrite.Goals as goal

pub returns-in_default-clause-exact : goal.returns-in_default-clause-exact
returns-in_default-clause-exact c = λ σ made u r.
    let nodes = c.args.nodes.now in
    let past = of_none c.instance_within.new.nodes (GivesInstance σ (tree_at nodes c.args.sides.from)) c.in_ok-from.field-0 c.in_default.is (c.in_ok-from.ensures.gives σ made) in
    past (at_within c.args.path.now (tree_at nodes c.args.term) (instance σ (tree_at nodes c.args.sides.from)) r.there c.known_at.ensures.within)

pub returns-in_default-2-clause-exact : goal.returns-in_default-2-clause-exact
returns-in_default-2-clause-exact c = λ σ made u r.
    let nodes = c.args.nodes.now in
    let first = c.instance_within.new.nodes in
    let made_first = subst (λ o. IfSome o (λ n. IsMade σ first c.instance_within.new.made.entries)) c.in-Some.is (c.in_ok-from.ensures.made σ made) in
    let past = of_none c.instance_within-2.new.nodes (GivesInstance σ (tree_at first c.args.sides.to)) c.in_ok-to.field-0 c.in_default-2.is (c.in_ok-to.ensures.gives σ made_first) in
    let same = tree_later nodes first c.args.sides.to c.in_ok-from.ensures.grows c.requires.to in
    past (subst (λ t. IsWithinLimits (instance σ t)) (sym same)
    (replaced_within c.args.path.now (tree_at nodes c.args.term) (instance σ (tree_at nodes c.args.sides.to)) u r.made r.within))

pub exchange-requires-clause-from : goal.exchange-requires-clause-from
exchange-requires-clause-from c =
    let nodes = c.args.nodes.now in
    let first = c.instance_within.new.nodes in
    let any = c.requires.made in
    let one = of_some first (GivesInstance any.0 (tree_at nodes c.args.sides.from)) c.in_ok-from.field-0 c.in-Some.from c.in-Some.is (c.in_ok-from.ensures.gives any.0 any.1) in
    term_later first c.instance_within-2.new.nodes c.in_ok-to.ensures.grows c.in-Some.from one.0

pub exchange-requires-clause-to : goal.exchange-requires-clause-to
exchange-requires-clause-to c =
    let first = c.instance_within.new.nodes in
    let second = c.instance_within-2.new.nodes in
    let any = c.requires.made in
    let made_first = subst (λ o. IfSome o (λ n. IsMade any.0 first c.instance_within.new.made.entries)) c.in-Some.is (c.in_ok-from.ensures.made any.0 any.1) in
    (of_some second (GivesInstance any.0 (tree_at first c.args.sides.to)) c.in_ok-to.field-0 c.in-Some-2.to c.in-Some-2.is (c.in_ok-to.ensures.gives any.0 made_first)).0

pub returns-clause-exact : goal.returns-clause-exact
returns-clause-exact c = λ σ made.
    let nodes = c.args.nodes.now in
    let first = c.instance_within.new.nodes in
    let second = c.instance_within-2.new.nodes in
    let g1 = c.in_ok-from.ensures.grows in
    let g2 = c.in_ok-to.ensures.grows in
    let one = of_some first (GivesInstance σ (tree_at nodes c.args.sides.from)) c.in_ok-from.field-0 c.in-Some.from c.in-Some.is (c.in_ok-from.ensures.gives σ made) in
    let made_first = subst (λ o. IfSome o (λ n. IsMade σ first c.instance_within.new.made.entries)) c.in-Some.is (c.in_ok-from.ensures.made σ made) in
    let two = of_some second (GivesInstance σ (tree_at first c.args.sides.to)) c.in_ok-to.field-0 c.in-Some-2.to c.in-Some-2.is (c.in_ok-to.ensures.gives σ made_first) in
    let from : tree_at second c.in-Some.from ≡ instance σ (tree_at nodes c.args.sides.from) = tree_later first second c.in-Some.from g2 one.0 ∙ one.1.0 in
    let to : tree_at second c.in-Some-2.to ≡ instance σ (tree_at nodes c.args.sides.to) = two.1.0 ∙ ap (instance σ) (tree_later nodes first c.args.sides.to g1 c.requires.to) in
    let term = tree_later nodes second c.args.term (grows_more nodes first second g1 g2) c.requires.term in
    let P : Tree → Tree → Tree → Type 0 = λ t x y. IfOk c.exchange.result (OfTerm c.exchange.new.nodes (GivesExchange t c.args.path.now x y)) in
    subst (λ t. P t (instance σ (tree_at nodes c.args.sides.from)) (instance σ (tree_at nodes c.args.sides.to))) term
    (subst (λ x. P (tree_at second c.args.term) x (instance σ (tree_at nodes c.args.sides.to))) from
    (subst (λ y. P (tree_at second c.args.term) (tree_at second c.in-Some.from) y) to c.exchange.ensures.exact))

pub returns-clause-made : goal.returns-clause-made
returns-clause-made c = λ σ made.
    let first = c.instance_within.new.nodes in
    let second = c.instance_within-2.new.nodes in
    let entries = c.instance_within-2.new.made.entries in
    let made_first = subst (λ o. IfSome o (λ n. IsMade σ first c.instance_within.new.made.entries)) c.in-Some.is (c.in_ok-from.ensures.made σ made) in
    let made_second = subst (λ o. IfSome o (λ n. IsMade σ second entries)) c.in-Some-2.is (c.in_ok-to.ensures.made σ made_first) in
    if_some_same (IsMade σ c.exchange.new.nodes entries) (made_later σ second c.exchange.new.nodes entries c.exchange.ensures.grows made_second) c.exchange.result

-- ---- the table grows

pub returns-in_err-to-clause-grows : goal.returns-in_err-to-clause-grows
returns-in_err-to-clause-grows c =
    grows_more c.args.nodes.now c.instance_within.new.nodes c.instance_within-2.new.nodes c.in_ok-from.ensures.grows c.instance_within-2.ensures.grows

pub returns-in_default-2-clause-grows : goal.returns-in_default-2-clause-grows
returns-in_default-2-clause-grows c =
    grows_more c.args.nodes.now c.instance_within.new.nodes c.instance_within-2.new.nodes c.in_ok-from.ensures.grows c.in_ok-to.ensures.grows

pub returns-clause-grows : goal.returns-clause-grows
returns-clause-grows c =
    grows_more c.args.nodes.now c.instance_within-2.new.nodes c.exchange.new.nodes (grows_more c.args.nodes.now c.instance_within.new.nodes c.instance_within-2.new.nodes c.in_ok-from.ensures.grows c.in_ok-to.ensures.grows) c.exchange.ensures.grows
