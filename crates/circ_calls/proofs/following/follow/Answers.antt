use Rattle.std.proofs.Common.{◌≡◌, ℕ, map, ap, subst, ◌∙◌}
use Rattle.circ_term.specs.Tree.{sort_of}
use Rattle.circ_theory.specs.Signature.{IsWellSorted}
use Rattle.circ_theory.specs.Pairs.{plain_pair}
use Rattle.circ_proof.specs.Plain.{plain_link}
use Rattle.circ_proof.specs.Link.{setting, resolved_link, IsInTable, LinkDerives}
use Rattle.circ_proof.proofs.Leading.{link_sorted, link_resolved, link_derives, derives_resolved, sorted_setting}
use Rattle.circ_nodes.specs.Named.{tree_at}
use Rattle.circ_nodes.proofs.Located.{named_tree}
use Rattle.circ_nodes.proofs.Numbers.{named_below}
use Rattle.circ_replay.specs.Following.{Follows}
use Rattle.circ_shared.specs.Settings.{setting_at, table_at}
use Rattle.circ_calls.proofs.Judged.{entered_later, there_if, built_is, said_of, counted, if_follows}
use Rattle.circ_calls.proofs.following.follow.Goals as goal

pub follow-requires : goal.follow-requires
follow-requires c =
    let table = c.args.table.now in
    let H = c.args.hyps.now in
    let A = map plain_pair c.args.assumptions.now in
    let n = c.intern.new.self in
    let now = entered_later c.args.theory.now table H A c.enter.new.nodes n c.in_ok-first.ensures.grows c.in_ok-entered.entered c.in_ok-entered.ensures.entered in
    let l = plain_link c.args.link.now in
    let P : ℕ → Type 0 = λ k. IsInTable k l in
    record {
      shared = c.sources-sources.ensures.shared table n H A now;
      in_table = subst P (counted n table c.sources-sources.result.table.now (c.sources-sources.ensures.table table n H A now)) c.requires.in_table;
      assumptions = rw c.as_slice.ensures.value now.there;
      term = named_below n c.in_ok-first.first c.args.term.now c.in_ok-first.ensures.named;
    }

pub built-requires : goal.built-requires
built-requires c =
    let n = c.intern.new.self in
    let r = c.sources-sources.result in
    there_if c.follow.new.nodes (Follows (setting_at n r c.as_slice.result.now) (resolved_link (table_at n r) (plain_link c.args.link.now)) (tree_at n c.in_ok-first.first))
    c.in_ok-last.last c.in_ok-last.ensures.exact

pub returns-clause-exact : goal.returns-clause-exact
returns-clause-exact c =
    let th = c.args.theory.now in
    let table = c.args.table.now in
    let H = c.args.hyps.now in
    let A = map plain_pair c.args.assumptions.now in
    let n = c.intern.new.self in
    let now = entered_later th table H A c.enter.new.nodes n c.in_ok-first.ensures.grows c.in_ok-entered.entered c.in_ok-entered.ensures.entered in
    let l = plain_link c.args.link.now in
    let t = c.args.term.now in
    let s = setting th c.args.gamma.now H A in
    let r = c.sources-sources.result in
    let same : setting_at n r c.as_slice.result.now ≡ s = ap (setting_at n r) c.as_slice.ensures.value ∙ c.sources-sources.ensures.setting table n H A now in
    let said = said_of c.follow.new.nodes (λ x S u. Follows x (resolved_link S l) u) (setting_at n r c.as_slice.result.now) s (table_at n r) table
    (tree_at n c.in_ok-first.first) t c.in_ok-last.last same (c.sources-sources.ensures.table table n H A now)
    (named_tree n c.in_ok-first.first t c.in_ok-first.ensures.named) c.in_ok-last.ensures.exact in
    built_is c.follow.new.nodes (Follows s (resolved_link table l) t) c.in_ok-last.last c.built.result said c.built.ensures

pub returns-clause-derivable : goal.returns-clause-derivable
returns-clause-derivable c =
    let th = c.args.theory.now in
    let table = c.args.table.now in
    let H = c.args.hyps.now in
    let A = map plain_pair c.args.assumptions.now in
    let l = plain_link c.args.link.now in
    let t = c.args.term.now in
    let s = setting th c.args.gamma.now H A in
    let is = sorted_setting th c.known.ensures c.args.gamma.now H A c.requires.hyps_sorted c.requires.assumptions_sorted in
    let a = link_resolved th.signature table c.requires.table_sorted l c.requires.in_table in
    if_follows (LinkDerives th A l t) s (resolved_link table l) t c.built.result (returns-clause-exact c)
    (λ u e. derives_resolved th A table l t u (link_derives s is (resolved_link table l) a t u c.requires.term_sorted e))

pub returns-clause-well_sorted : goal.returns-clause-well_sorted
returns-clause-well_sorted c =
    let th = c.args.theory.now in
    let table = c.args.table.now in
    let H = c.args.hyps.now in
    let A = map plain_pair c.args.assumptions.now in
    let l = plain_link c.args.link.now in
    let t = c.args.term.now in
    let s = setting th c.args.gamma.now H A in
    let is = sorted_setting th c.known.ensures c.args.gamma.now H A c.requires.hyps_sorted c.requires.assumptions_sorted in
    let a = link_resolved th.signature table c.requires.table_sorted l c.requires.in_table in
    if_follows (IsWellSorted th.signature) s (resolved_link table l) t c.built.result (returns-clause-exact c)
    (λ u e. (link_sorted s is (resolved_link table l) a t u c.requires.term_sorted e).well_sorted)

pub returns-clause-same_sort : goal.returns-clause-same_sort
returns-clause-same_sort c =
    let th = c.args.theory.now in
    let table = c.args.table.now in
    let H = c.args.hyps.now in
    let A = map plain_pair c.args.assumptions.now in
    let l = plain_link c.args.link.now in
    let t = c.args.term.now in
    let s = setting th c.args.gamma.now H A in
    let is = sorted_setting th c.known.ensures c.args.gamma.now H A c.requires.hyps_sorted c.requires.assumptions_sorted in
    let a = link_resolved th.signature table c.requires.table_sorted l c.requires.in_table in
    if_follows (λ u. sort_of u ≡ sort_of t) s (resolved_link table l) t c.built.result (returns-clause-exact c)
    (λ u e. (link_sorted s is (resolved_link table l) a t u c.requires.term_sorted e).same_sort)
