use Rattle.std.proofs.Common.{◌≡◌, ◌<◌, ◌∙◌, ℕ, ◌∷◌, [], ◌++◌, List, Some, None, IsTrue, IfOk, ◌↔◌, length, take, get_or, slice_index_or, refl, ap, sym, subst, arith}
use Rattle.std.proofs.Math.Seq.{take-append_seam}
use Rattle.circ_term.specs.Tree.{Tree, App, none, sort_of}
use Rattle.circ_theory.specs.Observing.{cases_of, case_list}
use Rattle.circ_theory.specs.Rewriting.{named}
use Rattle.circ_theory.specs.Theory.{Pair, pair_with}
use Rattle.circ_proof.specs.Plain.{WhyOf, map_whys, plain_why, plain_whys, plain_chain}
use Rattle.circ_proof.specs.Link.{Setting, resolved_chain, resolved_why}
use Rattle.circ_proof.specs.Justified.{Justified, EachJustified, IsWhyInTable}
use Rattle.circ_proof.proofs.Rows.{split_plain}
use Rattle.circ_nodes.specs.Named.{tree_at}
use Rattle.circ_nodes.proofs.Located.{tree_later}
use Rattle.circ_nodes.proofs.Numbers.{grows_more}
use Rattle.circ_replay.proofs.Reasons.{why_depth, whys_depth, depth_at, each_why, each_parts, each_counted, unlisted_split, stuck_split, split_tells, if_tells}
use Rattle.circ_shared.specs.Patterns.{pair_at, pairs_at, AreThere}
use Rattle.circ_shared.specs.Settings.{setting_at, table_at}
use Rattle.circ_shared.specs.declared.patterns.Sides.{Sides}
use Rattle.circ_shared.proofs.Cases.{case_there, case_assumed, justified_before}
use Rattle.circ_shared.proofs.Giving.{named_in}
use Rattle.circ_shared.proofs.Loops.{all_there}
use Rattle.circ_shared.proofs.Sharing.{term_later, there_later, are_there_later, shared_later, read_before}
use Rattle.circ_shared.proofs.usage.Sources.+justify.Goals as goal

-- ---- by a chain, or by a split

pub is_justified-returns-in-Same-clause-exact : goal.is_justified-returns-in-Same-clause-exact
is_justified-returns-in-Same-clause-exact t c = rw c.in-Same.is (rw c.as_slice.ensures.value at c.meets.ensures.exact)

pub is_justified-is_split-requires : goal.is_justified-is_split-requires
is_justified-is_split-requires t c =
    let x = c.in-Split in
    let e = ap plain_why x.is ∙ split_plain x.chain x.term x.whys in
    let P : WhyOf ℕ → Type 0 = IsWhyInTable (length c.args.self.now.table.now) in
    let d = ap why_depth e in
    let same = ap (λ ws. whys_depth (plain_whys ws)) c.as_slice-in-Split.ensures.value in
    let there = subst P e c.requires.in_table in
    (omega (arith, d, same), (c.requires.shared, (there.0, (there.1, (rw c.as_slice-in-Split.ensures.value there.2, (c.requires.assumptions, c.requires.pair))))))

pub is_justified-returns-in-Split-clause-exact : goal.is_justified-returns-in-Split-clause-exact
is_justified-returns-in-Split-clause-exact t c =
    let x = c.in-Split in
    let nodes = c.args.nodes.now in
    let self = c.args.self.now in
    let s : Setting = setting_at nodes self c.args.assumptions.now.items in
    let e = ap plain_why x.is ∙ split_plain x.chain x.term x.whys in
    let P : WhyOf ℕ → Type 0 = λ w. IfOk c.is_split.result (λ b. IsTrue b ↔ Justified s (pair_at nodes c.args.pair) (resolved_why (table_at nodes self) w)) in
    subst P (sym e) (rw c.as_slice-in-Split.ensures.value at c.is_split.ensures.exact)

pub is_split-returns-in_default-clause-exact : goal.is_split-returns-in_default-clause-exact
is_split-returns-in_default-clause-exact t c =
    let nodes = c.args.nodes.now in
    let self = c.args.self.now in
    let table = table_at nodes self in
    let chain = resolved_chain table (plain_chain c.args.chain.now) in
    let s : Setting = setting_at nodes self c.args.assumptions.now.items in
    let u = named table c.args.term in
    let is = named_in nodes self.table.now c.args.term c.requires.term in
    let sort : c.sort.result ≡ sort_of u = c.sort.ensures ∙ ap sort_of (sym is) in
    let none : cases_of s.theory (sort_of u) ≡ None = ap (cases_of s.theory) (sym sort) ∙ sym c.in_default.ensures in (
      (λ never. absurd (cc)),
      (λ r. absurd (unlisted_split s (pair_at nodes c.args.pair) chain u (map_whys (named table) (plain_whys c.args.whys.now)) none r)),
    )

pub is_split-returns-in_default-2-clause-exact : goal.is_split-returns-in_default-2-clause-exact
is_split-returns-in_default-2-clause-exact t c =
    let nodes = c.args.nodes.now in
    let self = c.args.self.now in
    let table = table_at nodes self in
    let chain = resolved_chain table (plain_chain c.args.chain.now) in
    let s : Setting = setting_at nodes self c.args.assumptions.now.items in (
      (λ never. absurd (cc)),
      (λ r. absurd
          (stuck_split s (pair_at nodes c.args.pair) chain (named table c.args.term) (map_whys (named table) (plain_whys c.args.whys.now))
          (rw (c.in_default-2.is, c.as_slice.ensures.value) at c.in_ok-sides.ensures.exact) r)),
    )

pub is_split-each_justified-requires : goal.is_split-each_justified-requires
is_split-each_justified-requires t c =
    let nodes = c.args.nodes.now in
    let after = c.follow_chain.new.nodes in
    let self = c.args.self.now in
    let g = c.in_ok-sides.ensures.grows in
    let there = all_there (length nodes) self.table.now c.args.term c.requires.shared.table c.requires.term in
    let some = rw c.in-Some-2.is at c.in_ok-sides.ensures.exact in (
      omega arith,
      (
        shared_later nodes after g self c.requires.shared,
        (
          c.requires.whys,
          (are_there_later nodes after g c.args.assumptions.now.items c.requires.assumptions, (some.0, term_later nodes after g (slice_index_or self.table.now c.args.term 0) there)),
        ),
      ),
    )

pub is_split-returns-clause-exact : goal.is_split-returns-clause-exact
is_split-returns-clause-exact t c =
    let nodes = c.args.nodes.now in
    let after = c.follow_chain.new.nodes in
    let self = c.args.self.now in
    let ss = c.args.assumptions.now.items in
    let table = table_at nodes self in
    let s : Setting = setting_at nodes self ss in
    let p : Pair = pair_at nodes c.args.pair in
    let chain = resolved_chain table (plain_chain c.args.chain.now) in
    let ks = c.in-Some.constants.now in
    let ws = map_whys (named table) (plain_whys c.args.whys.now) in
    let q = pair_at after c.in-Some-2.sides in
    let n = slice_index_or self.table.now c.args.term 0 in
    let u = named table c.args.term in
    let is : u ≡ tree_at nodes n = named_in nodes self.table.now c.args.term c.requires.term in
    let sort : c.sort.result ≡ sort_of u = c.sort.ensures ∙ ap sort_of (sym is) in
    let some : cases_of s.theory (sort_of u) ≡ Some ks = ap (cases_of s.theory) (sym sort) ∙ sym c.in-Some.ensures in
    let leads = rw (c.in-Some-2.is, c.as_slice.ensures.value) at c.in_ok-sides.ensures.exact in
    let there = all_there (length nodes) self.table.now c.args.term c.requires.shared.table c.requires.term in
    let g = c.in_ok-sides.ensures.grows in
    let same : tree_at after n ≡ u = tree_later nodes after n g there ∙ sym is in
    if_tells c.each_justified.result _ _ c.each_justified.ensures.exact
    (λ b h.
    let R : Setting → Tree → List Tree → Type 0 = λ k v m. IsTrue b ↔ EachJustified k q v (case_list (sort_of v) ks) ks (map_whys (named m) (plain_whys c.args.whys.now)) in
    let S : Tree → Type 0 = λ v. R s v table in
    let told = read_before nodes after g self ss c.requires.shared c.requires.assumptions (λ k m. R k (tree_at after n) m) h in
    split_tells s c.known.ensures p chain u ks ws q b some leads.1 (subst S same told))

-- ---- in each case

pub each_justified-returns-then-constants-whys-clause-exact : goal.each_justified-returns-then-constants-whys-clause-exact
each_justified-returns-then-constants-whys-clause-exact t c =
    let nodes = c.args.nodes.now in
    let u = tree_at nodes c.args.term in (
      (λ never. absurd (cc)),
      (λ r. absurd
          (c.if-constants-whys.true
          (each_counted (setting_at nodes c.args.self.now c.args.assumptions.now.items) (pair_at nodes c.args.pair) u
          (case_list (sort_of u) c.args.constants.now) c.args.constants.now (named (table_at nodes c.args.self.now)) c.args.whys.now r))),
    )

pub each_justified-is_justified-requires : goal.each_justified-is_justified-requires
each_justified-is_justified-requires t c =
    let start = c.args.nodes.now in
    let at = c.loop-i in
    let after = c.assume.new.nodes in
    let self = c.args.self.now in
    let count = length self.table.now in
    let g = grows_more start at.nodes after at.invariant.grows c.in_ok-assume.ensures.grows in
    let d = depth_at c.args.whys.now at.i c.index-whys-i.result c.loop-i-test.true c.index-whys-i.is in
    let before = subst (AreThere start) (sym at.invariant.same) c.requires.assumptions in (
      omega (arith, d),
      (
        shared_later start after g self c.requires.shared,
        (
          each_why (λ n. n < count) c.args.whys.now at.i c.index-whys-i.result c.requires.in_table c.loop-i-test.true c.index-whys-i.is,
          (
            case_there after at.assumptions.items c.assume.new.assumptions.items c.args.term _ _ c.in_ok-assume.ensures.assumed (term_later start after g c.args.term c.requires.term)
                (are_there_later start after g at.assumptions.items before),
            there_later start after g c.args.pair c.requires.pair,
          ),
        ),
      ),
    )

pub each_justified-returns-then-not-justified-clause-exact : goal.each_justified-returns-then-not-justified-clause-exact
each_justified-returns-then-not-justified-clause-exact t c =
    let start = c.args.nodes.now in
    let at = c.loop-i in
    let after = c.assume.new.nodes in
    let self = c.args.self.now in
    let old = c.args.assumptions.now.items in
    let why = c.index-whys-i.result in
    let ks = c.args.constants.now in
    let u = tree_at start c.args.term in
    let g2 = c.in_ok-assume.ensures.grows in
    let g = grows_more start at.nodes after at.invariant.grows g2 in
    let s : Setting = setting_at start self old in
    let assumed = case_assumed start at.nodes after at.invariant.grows g2 old at.assumptions.items c.assume.new.assumptions.items c.args.term (get_or ks at.i 0)
    c.requires.term at.invariant.same c.requires.assumptions c.in_ok-assume.ensures.assumed in
    let told = justified_before start after g self c.assume.new.assumptions.items
    (pairs_at start old ++ pair_with u (App (get_or ks at.i 0) (sort_of u) none) ∷ []) c.args.pair (plain_why why) c.in_ok-justified.justified
    c.requires.shared c.requires.pair assumed c.in_ok-justified.ensures.exact in
    let parts = each_parts s (pair_at start c.args.pair) u ks (table_at start self) c.args.whys.now at.i why (omega arith) c.loop-i-test.true c.index-whys-i.is in (
      (λ never. absurd (cc)),
      (λ r. let no = (rw c.if-not-justified.true at told).1 (parts.0 (at.invariant.rest.1 r)).0 in absurd (cc)),
    )

pub each_justified-returns-then-not-justified-clause-same : goal.each_justified-returns-then-not-justified-clause-same
each_justified-returns-then-not-justified-clause-same t c =
    let at = c.loop-i in
    let old = c.args.assumptions.now.items in
    let adds = c.in_ok-assume.ensures.assumed in
    let x : Sides = record { left = c.args.term; right = adds.right } in
    let put = adds.put ∙ ap (λ ss. ss ++ x ∷ []) at.invariant.same in
    c.truncate.ensures.items ∙ ap (take c.len-count.result) (c.in_ok-justified.ensures.same ∙ put)
    ∙ ap (λ n. take n (old ++ x ∷ [])) (c.len-count.ensures ∙ c.args.assumptions.now.ok.0) ∙ take-append_seam old (x ∷ [])

pub each_justified-loop-i-preserved : goal.each_justified-loop-i-preserved
each_justified-loop-i-preserved t c =
    let start = c.args.nodes.now in
    let at = c.loop-i in
    let after = c.assume.new.nodes in
    let last = c.is_justified.new.nodes in
    let self = c.args.self.now in
    let old = c.args.assumptions.now.items in
    let why = c.index-whys-i.result in
    let ks = c.args.constants.now in
    let u = tree_at start c.args.term in
    let g2 = c.in_ok-assume.ensures.grows in
    let g = grows_more start at.nodes after at.invariant.grows g2 in
    let s : Setting = setting_at start self old in
    let adds = c.in_ok-assume.ensures.assumed in
    let x : Sides = record { left = c.args.term; right = adds.right } in
    let assumed = case_assumed start at.nodes after at.invariant.grows g2 old at.assumptions.items c.assume.new.assumptions.items c.args.term (get_or ks at.i 0)
    c.requires.term at.invariant.same c.requires.assumptions adds in
    let told = justified_before start after g self c.assume.new.assumptions.items
    (pairs_at start old ++ pair_with u (App (get_or ks at.i 0) (sort_of u) none) ∷ []) c.args.pair (plain_why why) c.in_ok-justified.justified
    c.requires.shared c.requires.pair assumed c.in_ok-justified.ensures.exact in
    let parts = each_parts s (pair_at start c.args.pair) u ks (table_at start self) c.args.whys.now at.i why (omega arith) c.loop-i-test.true c.index-whys-i.is in
    let holds = (rw c.if-not-justified.false at told).0 refl in
    let put = adds.put ∙ ap (λ ss. ss ++ x ∷ []) at.invariant.same in
    record {
      grows = grows_more start after last g c.in_ok-justified.ensures.grows;
      same =
          c.truncate.ensures.items ∙ ap (take c.len-count.result) (c.in_ok-justified.ensures.same ∙ put)
          ∙ ap (λ n. take n (old ++ x ∷ [])) (c.len-count.ensures ∙ c.args.assumptions.now.ok.0) ∙ take-append_seam old (x ∷ []);
      rest = (λ h. at.invariant.rest.0 (parts.1 (holds, h)), λ h. (parts.0 (at.invariant.rest.1 h)).1);
    }

-- ---- the table grows

pub is_split-returns-clause-grows : goal.is_split-returns-clause-grows
is_split-returns-clause-grows t c =
    grows_more c.args.nodes.now c.follow_chain.new.nodes c.each_justified.new.nodes c.in_ok-sides.ensures.grows c.each_justified.ensures.grows

pub each_justified-returns-in_err-assume-clause-grows : goal.each_justified-returns-in_err-assume-clause-grows
each_justified-returns-in_err-assume-clause-grows t c =
    grows_more c.args.nodes.now c.loop-i.nodes c.assume.new.nodes c.loop-i.invariant.grows c.assume.ensures.grows

pub each_justified-returns-in_err-justified-clause-grows : goal.each_justified-returns-in_err-justified-clause-grows
each_justified-returns-in_err-justified-clause-grows t c =
    grows_more c.args.nodes.now c.assume.new.nodes c.is_justified.new.nodes (grows_more c.args.nodes.now c.loop-i.nodes c.assume.new.nodes c.loop-i.invariant.grows c.in_ok-assume.ensures.grows) c.is_justified.ensures.grows

pub each_justified-returns-then-not-justified-clause-grows : goal.each_justified-returns-then-not-justified-clause-grows
each_justified-returns-then-not-justified-clause-grows t c =
    grows_more c.args.nodes.now c.assume.new.nodes c.is_justified.new.nodes (grows_more c.args.nodes.now c.loop-i.nodes c.assume.new.nodes c.loop-i.invariant.grows c.in_ok-assume.ensures.grows) c.in_ok-justified.ensures.grows
