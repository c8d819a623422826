use Rattle.std.proofs.Common.{◌<◌, ◌+◌, ◌↔◌, ℕ, List, None, IsTrue, true, false, get_or, length, refl, ap, sym, subst, ◌∙◌, arith}
use Rattle.std.specs.Prelude.{nat_eq}
use Rattle.circ_term.specs.Tree.{Tree}
use Rattle.circ_theory.specs.Rewriting.{named}
use Rattle.circ_proof.specs.Plain.{LinkOf, ChainsOf, Same_why, map_chains, chains_in, plain_link, plain_links, plain_chain}
use Rattle.circ_proof.specs.Nesting.{links_nesting, chains_nesting}
use Rattle.circ_proof.specs.Runs.{Runs}
use Rattle.circ_proof.specs.Link.{Setting, Leads, AllOfChains, resolved_link, resolved_links, resolved_chain}
use Rattle.circ_proof.specs.Justified.{Justified}
use Rattle.circ_nodes.specs.Named.{tree_at}
use Rattle.circ_nodes.proofs.Located.{named_tree, tree_later}
use Rattle.circ_nodes.proofs.Numbers.{grows_more, named_below}
use Rattle.circ_replay.specs.Following.{Follows, FollowsAll}
use Rattle.circ_replay.specs.Usage.{AllMeet}
use Rattle.circ_replay.proofs.Meeting.{link_at, chain_at, each_chain, all_of_chains, chains_depth, chains_mapped}
use Rattle.circ_replay.proofs.Reasons.{same_tells}
use Rattle.circ_replay.proofs.Running.{links_from, links_next, links_end, runs_on, runs_stuck, each_link}
use Rattle.circ_shared.specs.Chains.{FollowsSides}
use Rattle.circ_shared.specs.Patterns.{pair_at, pairs_at}
use Rattle.circ_shared.specs.Settings.{setting_at, table_at}
use Rattle.circ_shared.specs.Usage.{use_at, Uses}
use Rattle.circ_shared.proofs.Cases.{same_number}
use Rattle.circ_shared.proofs.Lighter.{within_grown, lighter_grows}
use Rattle.circ_shared.proofs.Meets.{unread, read_again, sides_parts, sides_counted, sides_there}
use Rattle.circ_shared.proofs.Sharing.{of_none, of_some, term_later, there_later, are_there_later, pair_later, shared_later, read_before}
use Rattle.circ_shared.proofs.Using.{use_none, use_some, used_leads, used_stuck}
use Rattle.circ_shared.proofs.usage.Sources.+follow.Goals as goal

-- ---- links, one after another

pub follow_all-follow-requires : goal.follow_all-follow-requires
follow_all-follow-requires t c =
    let start = c.args.nodes.now in
    let at = c.loop-link in
    let self = c.args.self.now in
    let count = length self.table.now in
    let below = link_at c.args.links.now at.link-index c.link-item.result c.loop-link-test.true c.link-item.is in (
      omega (arith, below),
      (
        shared_later start at.nodes at.invariant.grows self c.requires.shared,
        (
          each_link (λ n. n < count) c.args.links.now at.link-index c.link-item.result c.requires.in_table c.loop-link-test.true c.link-item.is,
          (are_there_later start at.nodes at.invariant.grows c.args.assumptions.now c.requires.assumptions, at.invariant.there),
        ),
      ),
    )

pub follow_all-returns-in-None-clause-exact : goal.follow_all-returns-in-None-clause-exact
follow_all-returns-in-None-clause-exact t c = λ u r.
    let start = c.args.nodes.now in
    let at = c.loop-link in
    let self = c.args.self.now in
    let ss = c.args.assumptions.now in
    let s : Setting = setting_at start self ss in
    let table = table_at start self in
    let l = c.link-item.result in
    let here = tree_at at.nodes at.here in
    let next = links_next table c.args.links.now at.link-index l c.loop-link-test.true c.link-item.is in
    let none = of_none c.follow.new.nodes (Follows (setting_at at.nodes self ss) (resolved_link (table_at at.nodes self) (plain_link l)) here)
    c.in_ok-next.field-0 c.in-None.is c.in_ok-next.ensures.exact in
    let stuck = read_before start at.nodes at.invariant.grows self ss c.requires.shared c.requires.assumptions (λ k m. Follows k (resolved_link m (plain_link l)) here None) none in
    runs_stuck s (resolved_link table (plain_link l)) (links_from table c.args.links.now (at.link-index + 1)) (links_from table c.args.links.now at.link-index) here next
    stuck u ((at.invariant.runs u).1 r)

pub follow_all-lightened-requires : goal.follow_all-lightened-requires
follow_all-lightened-requires t c =
    let start = c.args.nodes.now in
    let at = c.loop-link in
    let after = c.follow.new.nodes in
    let self = c.args.self.now in
    let ss = c.args.assumptions.now in
    let l = c.link-item.result in
    let here = tree_at at.nodes at.here in
    let some = of_some after (Follows (setting_at at.nodes self ss) (resolved_link (table_at at.nodes self) (plain_link l)) here)
    c.in_ok-next.field-0 c.in-Some.next c.in-Some.is c.in_ok-next.ensures.exact in
    record {
      within = within_grown start after c.len-count.result c.len-count.ensures (grows_more start at.nodes after at.invariant.grows c.in_ok-next.ensures.grows);
      there = some.0;
    }

pub follow_all-returns-in_err-next-clause-grows : goal.follow_all-returns-in_err-next-clause-grows
follow_all-returns-in_err-next-clause-grows t c =
    grows_more c.args.nodes.now c.loop-link.nodes c.follow.new.nodes c.loop-link.invariant.grows c.follow.ensures.grows

pub follow_all-returns-in_err-here-in-Some-clause-grows : goal.follow_all-returns-in_err-here-in-Some-clause-grows
follow_all-returns-in_err-here-in-Some-clause-grows t c =
    let start = c.args.nodes.now in
    let after = c.follow.new.nodes in
    let grown = grows_more start c.loop-link.nodes after c.loop-link.invariant.grows c.in_ok-next.ensures.grows in
    lighter_grows start after c.lightened.new.nodes c.len-count.result c.len-count.ensures grown c.lightened.ensures.grows

pub follow_all-returns-in-None-clause-grows : goal.follow_all-returns-in-None-clause-grows
follow_all-returns-in-None-clause-grows t c =
    grows_more c.args.nodes.now c.loop-link.nodes c.follow.new.nodes c.loop-link.invariant.grows c.in_ok-next.ensures.grows

pub follow_all-loop-link-preserved : goal.follow_all-loop-link-preserved
follow_all-loop-link-preserved t c =
    let start = c.args.nodes.now in
    let at = c.loop-link in
    let after = c.follow.new.nodes in
    let self = c.args.self.now in
    let ss = c.args.assumptions.now in
    let s : Setting = setting_at start self ss in
    let table = table_at start self in
    let l = c.link-item.result in
    let here = tree_at at.nodes at.here in
    let last = c.lightened.new.nodes in
    let n = c.in_ok-here-in-Some.here in
    let there = tree_at after c.in-Some.next in
    let next = links_next table c.args.links.now at.link-index l c.loop-link-test.true c.link-item.is in
    let some = of_some after (Follows (setting_at at.nodes self ss) (resolved_link (table_at at.nodes self) (plain_link l)) here)
    c.in_ok-next.field-0 c.in-Some.next c.in-Some.is c.in_ok-next.ensures.exact in
    let leads = read_before start at.nodes at.invariant.grows self ss c.requires.shared c.requires.assumptions (λ k m. Leads k (resolved_link m (plain_link l)) here there) some.1 in
    let grown = grows_more start at.nodes after at.invariant.grows c.in_ok-next.ensures.grows in
    let named = c.in_ok-here-in-Some.ensures.named in
    let P : Tree → Type 0 = λ x. (u : Tree) → Runs (Leads s) (links_from table c.args.links.now (at.link-index + 1)) x u
    ↔ Runs (Leads s) (links_from table c.args.links.now 0) (tree_at start c.args.term) u in
    record {
      grows = lighter_grows start after last c.len-count.result c.len-count.ensures grown c.lightened.ensures.grows;
      there = named_below last n there named;
      runs = subst P (sym (named_tree last n there named)) (λ u.
          let on = runs_on s (resolved_link table (plain_link l)) (links_from table c.args.links.now (at.link-index + 1)) (links_from table c.args.links.now at.link-index) here there next leads u in
          ((λ r. (at.invariant.runs u).0 (on.0 r)), (λ r. on.1 ((at.invariant.runs u).1 r))));
    }

pub follow_all-returns-clause-exact : goal.follow_all-returns-clause-exact
follow_all-returns-clause-exact t c =
    let start = c.args.nodes.now in
    let at = c.loop-link in
    let self = c.args.self.now in
    let s : Setting = setting_at start self c.args.assumptions.now in
    let table = table_at start self in
    let here = tree_at at.nodes at.here in
    let P : List (LinkOf Tree) → Type 0 = λ xs. Runs (Leads s) xs here here in
    (at.invariant.there, (at.invariant.runs here).0 (subst P (sym (links_end table c.args.links.now at.link-index c.loop-link-test.false)) refl))

-- ---- a link

pub follow-returns-in_default-clause-exact : goal.follow-returns-in_default-clause-exact
follow-returns-in_default-clause-exact t c =
    let start = c.args.nodes.now in
    let self = c.args.self.now in
    let l = resolved_link (table_at start self) (plain_link c.args.link.now) in
    use_none c.used.new.nodes (Uses (setting_at start self c.args.assumptions.now) l (tree_at start c.args.term)) c.in_ok-made.field-0 c.in_default.is c.in_ok-made.ensures.exact

pub follow-all_meet-requires : goal.follow-all_meet-requires
follow-all_meet-requires t c =
    let start = c.args.nodes.now in
    let used = c.used.new.nodes in
    let g = c.in_ok-made.ensures.grows in
    let self = c.args.self.now in
    let P : ℕ → Type 0 = λ n. n < length self.table.now in
    let Q : ChainsOf ℕ → Type 0 = AllOfChains P in
    let l : LinkOf ℕ = plain_link c.args.link.now in
    let below = ap chains_nesting c.chains.ensures ∙ chains_depth l in
    let some = use_some used (Uses (setting_at start self c.args.assumptions.now) (resolved_link (table_at start self) l) (tree_at start c.args.term))
    c.in_ok-made.field-0 c.in-Some.made c.in-Some.is c.in_ok-made.ensures.exact in (
      omega (arith, below),
      (
        shared_later start used g self c.requires.shared,
        (
          subst Q (sym c.chains.ensures) (all_of_chains P l c.requires.in_table),
          (are_there_later start used g c.args.assumptions.now c.requires.assumptions, rw c.as_slice.ensures.value some.1),
        ),
      ),
    )

pub follow-returns-then-not-branch-clause-exact : goal.follow-returns-then-not-branch-clause-exact
follow-returns-then-not-branch-clause-exact t c =
    let start = c.args.nodes.now in
    let used = c.used.new.nodes in
    let self = c.args.self.now in
    let ss = c.args.assumptions.now in
    let s : Setting = setting_at start self ss in
    let table = table_at start self in
    let l : LinkOf ℕ = plain_link c.args.link.now in
    let term = tree_at start c.args.term in
    let x = c.in-Some.made in
    let some = use_some used (Uses s (resolved_link table l) term) c.in_ok-made.field-0 x c.in-Some.is c.in_ok-made.ensures.exact in
    let tells = rw (c.if-not-branch.true, c.as_slice.ensures.value, c.chains.ensures) at c.in_ok-all_meet.ensures.exact in
    let told = read_before start used c.in_ok-made.ensures.grows self ss c.requires.shared c.requires.assumptions
    (λ k m. IsTrue false ↔ AllMeet k (pairs_at used x.conds.items) (map_chains (named m) (chains_in l))) tells in
    used_stuck s (resolved_link table l) term (use_at used x) (map_chains (named table) (chains_in l)) (chains_mapped (named table) l)
    some.2 (λ m. absurd (let never = told.1 m in cc))

pub follow-returns-clause-exact : goal.follow-returns-clause-exact
follow-returns-clause-exact t c =
    let start = c.args.nodes.now in
    let used = c.used.new.nodes in
    let last = c.all_meet.new.nodes in
    let self = c.args.self.now in
    let ss = c.args.assumptions.now in
    let s : Setting = setting_at start self ss in
    let table = table_at start self in
    let l : LinkOf ℕ = plain_link c.args.link.now in
    let term = tree_at start c.args.term in
    let x = c.in-Some.made in
    let g = c.in_ok-all_meet.ensures.grows in
    let some = use_some used (Uses s (resolved_link table l) term) c.in_ok-made.field-0 x c.in-Some.is c.in_ok-made.ensures.exact in
    let tells = rw (c.if-not-branch.false, c.as_slice.ensures.value, c.chains.ensures) at c.in_ok-all_meet.ensures.exact in
    let told = read_before start used c.in_ok-made.ensures.grows self ss c.requires.shared c.requires.assumptions
    (λ k m. IsTrue true ↔ AllMeet k (pairs_at used x.conds.items) (map_chains (named m) (chains_in l))) tells in
    let leads = used_leads s (resolved_link table l) term (use_at used x) (map_chains (named table) (chains_in l)) (chains_mapped (named table) l) some.2 (told.0 refl) in
    let P : Tree → Type 0 = Leads s (resolved_link table l) term in
    (term_later used last g x.term some.0, subst P (sym (tree_later used last x.term g some.0)) leads)

-- ---- conditions

pub all_meet-returns-then-pairs-chains-clause-exact : goal.all_meet-returns-then-pairs-chains-clause-exact
all_meet-returns-then-pairs-chains-clause-exact t c =
    let nodes = c.args.nodes.now in
    let self = c.args.self.now in (
      (λ never. absurd (cc)),
      (λ m. absurd
          (c.if-pairs-chains.true
          (sides_counted (setting_at nodes self c.args.assumptions.now) (named (table_at nodes self)) nodes c.args.pairs.now c.args.chains.now m))),
    )

pub all_meet-meets-requires : goal.all_meet-meets-requires
all_meet-meets-requires t c =
    let start = c.args.nodes.now in
    let at = c.loop-i in
    let self = c.args.self.now in
    let count = length self.table.now in
    let chains = c.args.chains.now in
    let g = at.invariant.grows in
    let below = chain_at chains at.i c.index-chains-i.result c.loop-i-test.true c.index-chains-i.is in
    let within : at.i < length c.args.pairs.now = omega (arith, c.loop-i-test.true, c.if-pairs-chains.false) in
    let x = get_or c.args.pairs.now at.i unread in (
      omega (arith, below),
      (
        shared_later start at.nodes g self c.requires.shared,
        (
          each_chain (λ n. n < count) chains at.i c.index-chains-i.result c.requires.in_table c.loop-i-test.true c.index-chains-i.is,
          (
            are_there_later start at.nodes g c.args.assumptions.now c.requires.assumptions,
            there_later start at.nodes g x (sides_there start c.args.pairs.now at.i x c.requires.pairs within (read_again c.args.pairs.now at.i within)),
          ),
        ),
      ),
    )

pub all_meet-returns-then-not-branch-clause-exact : goal.all_meet-returns-then-not-branch-clause-exact
all_meet-returns-then-not-branch-clause-exact t c =
    let start = c.args.nodes.now in
    let at = c.loop-i in
    let self = c.args.self.now in
    let ss = c.args.assumptions.now in
    let chain = c.index-chains-i.result in
    let x = get_or c.args.pairs.now at.i unread in
    let g = at.invariant.grows in
    let within : at.i < length c.args.pairs.now = omega (arith, c.loop-i-test.true, c.if-pairs-chains.false) in
    let there = sides_there start c.args.pairs.now at.i x c.requires.pairs within (read_again c.args.pairs.now at.i within) in
    let tells = rw c.if-not-branch.true at c.in_ok-meets.ensures.exact in
    let same = pair_later start at.nodes g x there in
    let told = read_before start at.nodes g self ss c.requires.shared c.requires.assumptions
    (λ k m. IsTrue false ↔ Justified k (pair_at start x) (Same_why (resolved_chain m (plain_chain chain)))) (rw same at tells) in
    let parts = sides_parts (setting_at start self ss) (table_at start self) start c.args.pairs.now c.args.chains.now at.i x chain within (read_again c.args.pairs.now at.i within) c.loop-i-test.true c.index-chains-i.is in
    ((λ never. absurd (cc)), (λ m. told.1 (parts.0 (at.invariant.rest.1 m)).0))

pub all_meet-loop-i-preserved : goal.all_meet-loop-i-preserved
all_meet-loop-i-preserved t c =
    let start = c.args.nodes.now in
    let at = c.loop-i in
    let self = c.args.self.now in
    let ss = c.args.assumptions.now in
    let chain = c.index-chains-i.result in
    let x = get_or c.args.pairs.now at.i unread in
    let g = at.invariant.grows in
    let within : at.i < length c.args.pairs.now = omega (arith, c.loop-i-test.true, c.if-pairs-chains.false) in
    let there = sides_there start c.args.pairs.now at.i x c.requires.pairs within (read_again c.args.pairs.now at.i within) in
    let tells = rw c.if-not-branch.false at c.in_ok-meets.ensures.exact in
    let same = pair_later start at.nodes g x there in
    let told = read_before start at.nodes g self ss c.requires.shared c.requires.assumptions
    (λ k m. IsTrue true ↔ Justified k (pair_at start x) (Same_why (resolved_chain m (plain_chain chain)))) (rw same at tells) in
    let parts = sides_parts (setting_at start self ss) (table_at start self) start c.args.pairs.now c.args.chains.now at.i x chain within (read_again c.args.pairs.now at.i within) c.loop-i-test.true c.index-chains-i.is in
    record {
      grows = grows_more start at.nodes c.meets.new.nodes g c.in_ok-meets.ensures.grows;
      rest = ((λ m. at.invariant.rest.0 (parts.1 (told.0 refl, m))), (λ m. (parts.0 (at.invariant.rest.1 m)).1));
    }

-- ---- chains

pub meets-returns-in_default-clause-exact : goal.meets-returns-in_default-clause-exact
meets-returns-in_default-clause-exact t c =
    let none = rw c.in_default.is at c.in_ok-end.ensures.exact in
    ((λ never. absurd (cc)), (λ r. absurd (none _ r.1)))

pub meets-returns-clause-exact : goal.meets-returns-clause-exact
meets-returns-clause-exact t c =
    let nodes = c.args.nodes.now in
    let after = c.follow_chain.new.nodes in
    let self = c.args.self.now in
    let s = setting_at nodes self c.args.assumptions.now in
    let chain = resolved_chain (table_at nodes self) (plain_chain c.args.chain.now) in
    let end = c.in-Some.end in
    let some = subst (FollowsSides after s chain (pair_at nodes c.args.pair)) c.in-Some.is c.in_ok-end.ensures.exact in
    same_tells s chain (pair_at nodes c.args.pair) (pair_at after end) (nat_eq end.left end.right) some.1 (same_number after end c.known.ensures.once some.0)

pub follow_chain-returns-in_default-clause-exact : goal.follow_chain-returns-in_default-clause-exact
follow_chain-returns-in_default-clause-exact t c = λ q r.
    let nodes = c.args.nodes.now in
    let self = c.args.self.now in
    let ls = resolved_links (table_at nodes self) (plain_links c.args.chain.now.left.items) in
    of_none c.follow_all.new.nodes (FollowsAll (setting_at nodes self c.args.assumptions.now) ls (tree_at nodes c.args.pair.left)) c.in_ok-left.field-0 c.in_default.is
    (rw c.as_slice.ensures.value at c.in_ok-left.ensures.exact) q.left r.left

pub follow_chain-follow_all-requires-2 : goal.follow_chain-follow_all-requires-2
follow_chain-follow_all-requires-2 t c =
    let nodes = c.args.nodes.now in
    let first = c.follow_all.new.nodes in
    let g = c.in_ok-left.ensures.grows in
    let same = ap (λ xs. links_nesting (plain_links xs)) c.as_slice-2.ensures.value in (
      omega (arith, same),
      (
        shared_later nodes first g c.args.self.now c.requires.shared,
        (
          rw c.as_slice-2.ensures.value c.requires.in_table.1,
          (are_there_later nodes first g c.args.assumptions.now c.requires.assumptions, term_later nodes first g c.args.pair.right c.requires.pair.1),
        ),
      ),
    )

pub follow_chain-returns-in_default-2-clause-exact : goal.follow_chain-returns-in_default-2-clause-exact
follow_chain-returns-in_default-2-clause-exact t c = λ q r.
    let nodes = c.args.nodes.now in
    let first = c.follow_all.new.nodes in
    let self = c.args.self.now in
    let ss = c.args.assumptions.now in
    let g = c.in_ok-left.ensures.grows in
    let ls = plain_links c.args.chain.now.right.items in
    let none = of_none c.follow_all-2.new.nodes (FollowsAll (setting_at first self ss) (resolved_links (table_at first self) ls) (tree_at first c.args.pair.right))
    c.in_ok-right.field-0 c.in_default-2.is (rw c.as_slice-2.ensures.value at c.in_ok-right.ensures.exact) in
    let same = tree_later nodes first c.args.pair.right g c.requires.pair.1 in
    (read_before nodes first g self ss c.requires.shared c.requires.assumptions (λ k m. FollowsAll k (resolved_links m ls) (tree_at nodes c.args.pair.right) None) (rw same at none)) q.right r.right

pub follow_chain-returns-clause-exact : goal.follow_chain-returns-clause-exact
follow_chain-returns-clause-exact t c =
    let nodes = c.args.nodes.now in
    let first = c.follow_all.new.nodes in
    let second = c.follow_all-2.new.nodes in
    let self = c.args.self.now in
    let ss = c.args.assumptions.now in
    let s = setting_at nodes self ss in
    let table = table_at nodes self in
    let g = c.in_ok-left.ensures.grows in
    let h = c.in_ok-right.ensures.grows in
    let lefts = plain_links c.args.chain.now.left.items in
    let rights = plain_links c.args.chain.now.right.items in
    let one = of_some first (FollowsAll s (resolved_links table lefts) (tree_at nodes c.args.pair.left)) c.in_ok-left.field-0 c.in-Some.left c.in-Some.is
    (rw c.as_slice.ensures.value at c.in_ok-left.ensures.exact) in
    let two = of_some second (FollowsAll (setting_at first self ss) (resolved_links (table_at first self) rights) (tree_at first c.args.pair.right))
    c.in_ok-right.field-0 c.in-Some-2.right c.in-Some-2.is (rw c.as_slice-2.ensures.value at c.in_ok-right.ensures.exact) in
    let same = tree_later nodes first c.args.pair.right g c.requires.pair.1 in
    let right = read_before nodes first g self ss c.requires.shared c.requires.assumptions
    (λ k m. Runs (Leads k) (resolved_links m rights) (tree_at nodes c.args.pair.right) (tree_at second c.in-Some-2.right)) (rw same at two.1) in
    let P : Tree → Type 0 = Runs (Leads s) (resolved_links table lefts) (tree_at nodes c.args.pair.left) in (
      (term_later first second h c.in-Some.left one.0, two.0),
      record { left = subst P (sym (tree_later first second c.in-Some.left h one.0)) one.1; right = right },
    )

-- ---- the table grows

pub follow-returns-in_err-all_meet-clause-grows : goal.follow-returns-in_err-all_meet-clause-grows
follow-returns-in_err-all_meet-clause-grows t c =
    grows_more c.args.nodes.now c.used.new.nodes c.all_meet.new.nodes c.in_ok-made.ensures.grows c.all_meet.ensures.grows

pub follow-returns-then-not-branch-clause-grows : goal.follow-returns-then-not-branch-clause-grows
follow-returns-then-not-branch-clause-grows t c =
    grows_more c.args.nodes.now c.used.new.nodes c.all_meet.new.nodes c.in_ok-made.ensures.grows c.in_ok-all_meet.ensures.grows

pub follow-returns-clause-grows : goal.follow-returns-clause-grows
follow-returns-clause-grows t c =
    grows_more c.args.nodes.now c.used.new.nodes c.all_meet.new.nodes c.in_ok-made.ensures.grows c.in_ok-all_meet.ensures.grows

pub all_meet-returns-in_err-meets-clause-grows : goal.all_meet-returns-in_err-meets-clause-grows
all_meet-returns-in_err-meets-clause-grows t c =
    grows_more c.args.nodes.now c.loop-i.nodes c.meets.new.nodes c.loop-i.invariant.grows c.meets.ensures.grows

pub all_meet-returns-then-not-branch-clause-grows : goal.all_meet-returns-then-not-branch-clause-grows
all_meet-returns-then-not-branch-clause-grows t c =
    grows_more c.args.nodes.now c.loop-i.nodes c.meets.new.nodes c.loop-i.invariant.grows c.in_ok-meets.ensures.grows

pub follow_chain-returns-in_err-right-clause-grows : goal.follow_chain-returns-in_err-right-clause-grows
follow_chain-returns-in_err-right-clause-grows t c =
    grows_more c.args.nodes.now c.follow_all.new.nodes c.follow_all-2.new.nodes c.in_ok-left.ensures.grows c.follow_all-2.ensures.grows

pub follow_chain-returns-in_default-2-clause-grows : goal.follow_chain-returns-in_default-2-clause-grows
follow_chain-returns-in_default-2-clause-grows t c =
    grows_more c.args.nodes.now c.follow_all.new.nodes c.follow_all-2.new.nodes c.in_ok-left.ensures.grows c.in_ok-right.ensures.grows

pub follow_chain-returns-clause-grows : goal.follow_chain-returns-clause-grows
follow_chain-returns-clause-grows t c =
    grows_more c.args.nodes.now c.follow_all.new.nodes c.follow_all-2.new.nodes c.in_ok-left.ensures.grows c.in_ok-right.ensures.grows
