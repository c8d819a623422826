use Rattle.std.proofs.Common.{◌≡◌, ℕ, ap, subst, ◌∙◌}
use Rattle.circ_theory.specs.Theory.{pair_with, sides}
use Rattle.circ_proof.specs.Plain.{plain_why}
use Rattle.circ_proof.specs.Link.{setting}
use Rattle.circ_proof.specs.Justified.{IsWhyInTable}
use Rattle.circ_nodes.specs.Named.{tree_at}
use Rattle.circ_nodes.proofs.Located.{named_tree}
use Rattle.circ_nodes.proofs.Numbers.{named_below, named_later, grows_more}
use Rattle.circ_shared.specs.Settings.{setting_at, table_at}
use Rattle.circ_calls.proofs.Judged.{entered_later, counted, justified_of}
use Rattle.circ_calls.proofs.following.follow_why.Goals as goal

pub follow_why-requires : goal.follow_why-requires
follow_why-requires c =
    let th = c.args.theory.now in
    let table = c.args.table.now in
    let H = c.args.hyps.now in
    let g = c.args.goal.now in
    let m = c.intern.new.self in
    let n = c.intern-2.new.self in
    let grows = grows_more c.enter.new.nodes m n c.in_ok-left.ensures.grows c.in_ok-right.ensures.grows in
    let now = entered_later th table H g.conds c.enter.new.nodes n grows c.in_ok-entered.entered (rw c.as_slice.ensures at c.in_ok-entered.ensures.entered) in
    let w = plain_why c.args.why.now in
    let P : ℕ → Type 0 = λ k. IsWhyInTable k w in
    let left = named_later m n c.in_ok-left.left g.left c.in_ok-right.ensures.grows c.in_ok-left.ensures.named in
    record {
      shared = c.sources-sources.ensures.shared table n H g.conds now;
      in_table = subst P (counted n table c.sources-sources.result.table.now (c.sources-sources.ensures.table table n H g.conds now)) c.requires.in_table;
      conditions = rw c.as_slice-2.ensures.value now.there;
      sides = (named_below n c.in_ok-left.left g.left left, named_below n c.in_ok-right.right g.right c.in_ok-right.ensures.named);
    }

pub returns : goal.returns
returns c =
    let th = c.args.theory.now in
    let table = c.args.table.now in
    let H = c.args.hyps.now in
    let g = c.args.goal.now in
    let m = c.intern.new.self in
    let n = c.intern-2.new.self in
    let grows = grows_more c.enter.new.nodes m n c.in_ok-left.ensures.grows c.in_ok-right.ensures.grows in
    let now = entered_later th table H g.conds c.enter.new.nodes n grows c.in_ok-entered.entered (rw c.as_slice.ensures at c.in_ok-entered.ensures.entered) in
    let r = c.sources-sources.result in
    let s = setting th c.args.gamma.now H g.conds in
    let same : setting_at n r c.as_slice-2.result.now ≡ s
    = ap (setting_at n r) c.as_slice-2.ensures.value ∙ c.sources-sources.ensures.setting table n H g.conds now in
    let left = named_tree n c.in_ok-left.left g.left (named_later m n c.in_ok-left.left g.left c.in_ok-right.ensures.grows c.in_ok-left.ensures.named) in
    let right = named_tree n c.in_ok-right.right g.right c.in_ok-right.ensures.named in
    let pair : pair_with (tree_at n c.in_ok-left.left) (tree_at n c.in_ok-right.right) ≡ sides g
    = ap (λ t. pair_with t (tree_at n c.in_ok-right.right)) left ∙ ap (pair_with g.left) right in
    justified_of (plain_why c.args.why.now) (setting_at n r c.as_slice-2.result.now) s (table_at n r) table _ (sides g) c.follow_why.result same
    (c.sources-sources.ensures.table table n H g.conds now) pair c.follow_why.ensures.exact
