-- Pairs whose sides lead to one term by chains, one after another, and how deep the chains lie.
use Rattle.std.proofs.Common.{◌≡◌, ◌↔◌, ◌<◌, ◌≤◌, ◌+◌, ℕ, zero, suc, List, [], ◌∷◌, map, length, drop, get_or, Some, refl, ap, sym, subst, arith}
use Rattle.circ_term.specs.Tree.{Tree}
use Rattle.circ_term.proofs.Within.{drop_read}
use Rattle.circ_theory.specs.Theory.{Pair}
use Rattle.circ_theory.specs.Pairs.{plain_pair}
use Rattle.circ_theory.specs.Rewriting.{named}
use Rattle.circ_theory.specs.Pairs.{PairOfTerms}
use Rattle.circ_proof.specs.declared.links.Link.{Link}
use Rattle.circ_proof.specs.declared.links.Chain.{Chain}
use Rattle.circ_proof.specs.Plain.{LinkOf, LinksOf, ChainsOf, ChainOf, Equation_link, Hypothesis_link, Assumption_link, Content_link, Same_why}
use Rattle.circ_proof.specs.Plain.{map_link, map_row, map_chains, row_of, chains_in, plain_link, plain_links, plain_chain, plain_chains}
use Rattle.circ_proof.specs.Nesting.{link_nesting, links_nesting, chain_nesting, chains_nesting}
use Rattle.circ_proof.specs.Link.{Setting, AllOfLink, AllOfChains, resolved_chain}
use Rattle.circ_proof.specs.Justified.{Justified, AllOfChain}
use Rattle.circ_proof.proofs.LinkRows.{row_runs, row_mapped, all_of_row, row_depth}
use Rattle.circ_replay.specs.Usage.{Meets, AllMeet}

-- the pair is the same by the chain exactly where its sides meet
meets_same : (c : Setting) (table : List Tree) (chain : ChainOf ℕ) (p : Pair)
    → Meets c (map_row (named table) (row_of chain.left)) (map_row (named table) (row_of chain.right)) p ↔ Justified c p (Same_why (resolved_chain table chain))
meets_same c table chain p =
    let ls = map (map_link (named table)) chain.left in
    let rs = map (map_link (named table)) chain.right in
    let a = row_mapped (named table) chain.left in
    let b = row_mapped (named table) chain.right in
    let P : LinksOf Tree → Type 0 = λ x. Meets c x (map_row (named table) (row_of chain.right)) p in
    let Q : LinksOf Tree → Type 0 = λ x. Meets c (row_of ls) x p in (
      (λ h.
          let z = subst Q b (subst P a h) in
          (z.0, record { left = (row_runs c ls p.left z.0).0 z.1; right = (row_runs c rs p.right z.0).0 z.2 })),
      (λ j. subst P (sym a) (subst Q (sym b) (j.0, (row_runs c ls p.left j.0).1 j.1.left, (row_runs c rs p.right j.0).1 j.1.right))),
    )

-- the pairs from one on meet by their chains
abbrev pub MeetFrom : Setting → (table : List Tree) → List PairOfTerms → List (Chain ℕ) → ℕ → Type 0
MeetFrom c table ps cs i = AllMeet c (map plain_pair (drop i ps)) (map_chains (named table) (plain_chains (drop i cs)))

-- those from one on are that one and those from the next one on
pub meet_parts : (c : Setting) (table : List Tree) (ps : List PairOfTerms) (cs : List (Chain ℕ)) (i : ℕ) (p : PairOfTerms) (chain : Chain ℕ)
    → i < length ps → p ≡ get_or ps i p → i < length cs → chain ≡ get_or cs i chain
    → MeetFrom c table ps cs i ↔ (Justified c (plain_pair p) (Same_why (resolved_chain table (plain_chain chain))) × MeetFrom c table ps cs (i + 1))
meet_parts c table ps cs i p chain h e k f =
    let a = drop_read ps i p h e in
    let b = drop_read cs i chain k f in
    let P : List PairOfTerms → Type 0 = λ xs. AllMeet c (map plain_pair xs) (map_chains (named table) (plain_chains (drop i cs))) in
    let Q : List (Chain ℕ) → Type 0 = λ ys. AllMeet c (map plain_pair (p ∷ drop (i + 1) ps)) (map_chains (named table) (plain_chains ys)) in
    let same = meets_same c table (plain_chain chain) (plain_pair p) in (
      (λ m. let z = subst Q b (subst P a m) in (same.0 z.0, z.1)),
      (λ m. subst P (sym a) (subst Q (sym b) (same.1 m.0, m.1))),
    )

-- a property of the terms of all chains is one of each
pub each_chain : (P : ℕ → Type 0) (cs : List (Chain ℕ)) (i : ℕ) (d : Chain ℕ) → AllOfChains P (plain_chains cs) → i < length cs → d ≡ get_or cs i d
    → AllOfChain P (plain_chain d)
each_chain P [] i d a h e = absurd (omega arith)
each_chain P (x ∷ cs) zero d a h e =
    let Q : Chain ℕ → Type 0 = λ y. AllOfChain P (plain_chain y) in
    subst Q (sym e) (all_of_row P (plain_links x.left.items) a.0, all_of_row P (plain_links x.right.items) a.1)
each_chain P (x ∷ cs) (suc i) d a h e = each_chain P cs i d a.2 (omega arith) e

-- ---- the chains of a link

pub chains_mapped : (f : ℕ → Tree) (l : LinkOf ℕ) → map_chains f (chains_in l) ≡ chains_in (map_link f l)
chains_mapped f (Equation_link number way path terms conds) = refl
chains_mapped f (Hypothesis_link number way path terms conds) = refl
chains_mapped f (Assumption_link number way path) = refl
chains_mapped f (Content_link op path term) = refl

pub all_of_chains : (P : ℕ → Type 0) (l : LinkOf ℕ) → AllOfLink P l → AllOfChains P (chains_in l)
all_of_chains P (Equation_link number way path terms conds) a = a.1
all_of_chains P (Hypothesis_link number way path terms conds) a = a.1
all_of_chains P (Assumption_link number way path) a = tt
all_of_chains P (Content_link op path term) a = tt

pub chains_depth : (l : LinkOf ℕ) → chains_nesting (chains_in l) ≡ link_nesting l
chains_depth (Equation_link number way path terms conds) = refl
chains_depth (Hypothesis_link number way path terms conds) = refl
chains_depth (Assumption_link number way path) = refl
chains_depth (Content_link op path term) = refl

-- ---- how deep

pub link_at : (ls : List (Link ℕ)) (i : ℕ) (x : Link ℕ) → i < length ls → x ≡ get_or ls i x → link_nesting (plain_link x) ≤ links_nesting (plain_links ls)
link_at [] i x h e = absurd (omega (arith, h))
link_at (l ∷ ls) zero x h e = let same = ap (λ y. link_nesting (plain_link y)) e in omega (arith, same)
link_at (l ∷ ls) (suc i) x h e = omega (arith, link_at ls i x (omega (arith, h)) e)

pub chain_at : (cs : List (Chain ℕ)) (i : ℕ) (x : Chain ℕ) → i < length cs → x ≡ get_or cs i x → chain_nesting (plain_chain x) + 1 ≤ chains_nesting (plain_chains cs)
chain_at [] i x h e = absurd (omega (arith, h))
chain_at (d ∷ cs) zero x h e =
    let same = ap (λ y. chain_nesting (plain_chain y)) e in
    omega (arith, same, row_depth (plain_links d.left.items), row_depth (plain_links d.right.items))
chain_at (d ∷ cs) (suc i) x h e = omega (arith, chain_at cs i x (omega (arith, h)) e)
