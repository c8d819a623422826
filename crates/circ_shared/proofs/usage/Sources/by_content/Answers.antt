use Rattle.std.proofs.Common.{slice_index_or, refl, sym, subst}
use Rattle.circ_aci.specs.Content.{HasContentOf}
use Rattle.circ_proof.specs.Plain.{Content_link}
use Rattle.circ_term.specs.Tree.{Tree}
use Rattle.circ_theory.specs.Rewriting.{named}
use Rattle.circ_nodes.specs.Named.{tree_at}
use Rattle.circ_nodes.proofs.Located.{named_tree, tree_named}
use Rattle.circ_nodes.proofs.Numbers.{named_below}
use Rattle.circ_replay.specs.Following.{Follows}
use Rattle.circ_replay.specs.Rewriting.{GivesReplaced}
use Rattle.circ_replay.proofs.Contents.{content_other}
use Rattle.circ_shared.specs.Settings.{setting_at, table_at}
use Rattle.circ_shared.proofs.Giving.{named_in}
use Rattle.circ_shared.proofs.Sharing.{if_of_term}
use Rattle.circ_shared.proofs.Using.{replaced_content}
use Rattle.circ_shared.proofs.usage.Sources.by_content.Goals as goal

pub has_content_of-requires-clause-old : goal.has_content_of-requires-clause-old
has_content_of-requires-clause-old c =
    let nodes = c.args.nodes.now in
    let old = c.in-Some.ensures (tree_at nodes c.args.term) (tree_named nodes c.args.term c.requires.term) in
    named_below nodes c.in-Some.old old.0 old.2

pub returns-then-not-branch-clause-exact : goal.returns-then-not-branch-clause-exact
returns-then-not-branch-clause-exact c = λ ss.
    let nodes = c.args.nodes.now in
    let self = c.args.self.now in
    let term = named (table_at nodes self) c.args.new in
    let old = c.in-Some.ensures (tree_at nodes c.args.term) (tree_named nodes c.args.term c.requires.term) in
    let new = named_in nodes self.table.now c.args.new c.requires.in_table in
    let said = rw c.if-not-branch.true at c.in_ok-has_content_of.ensures in
    let P : Tree → Type 0 = λ x. HasContentOf self.theory.now.signature c.args.op x (tree_at nodes (slice_index_or self.table.now c.args.new 0)) in
    content_other (setting_at nodes self ss) c.args.op c.args.path.now term (tree_at nodes c.args.term) old.0 old.1
    (λ h. absurd (let never = said.1 (subst P (sym (named_tree nodes c.in-Some.old old.0 old.2)) (subst (HasContentOf self.theory.now.signature c.args.op old.0) new h)) in cc))

pub returns-clause-exact : goal.returns-clause-exact
returns-clause-exact c = λ ss.
    let nodes = c.args.nodes.now in
    let self = c.args.self.now in
    let s = setting_at nodes self ss in
    let term = named (table_at nodes self) c.args.new in
    let t = tree_at nodes c.args.term in
    let old = c.in-Some.ensures t (tree_named nodes c.args.term c.requires.term) in
    let new = named_in nodes self.table.now c.args.new c.requires.in_table in
    let said = (rw c.if-not-branch.false at c.in_ok-has_content_of.ensures).0 refl in
    let P : Tree → Type 0 = λ x. HasContentOf self.theory.now.signature c.args.op x (tree_at nodes (slice_index_or self.table.now c.args.new 0)) in
    let content : HasContentOf self.theory.now.signature c.args.op old.0 term =
    subst (HasContentOf self.theory.now.signature c.args.op old.0) (sym new) (subst P (named_tree nodes c.in-Some.old old.0 old.2) said) in
    if_of_term c.replaced_at.new.nodes (GivesReplaced t c.args.path.now term) (Follows s (Content_link c.args.op c.args.path.now term) t)
    (replaced_content s c.args.op c.args.path.now term t old.0 old.1 content) c.replaced_at.result
    (rw (← new) at c.replaced_at.ensures.exact)
