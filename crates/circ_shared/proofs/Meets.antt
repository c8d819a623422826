-- Pairs by number whose sides lead to one term by chains, one after another.
use Rattle.std.proofs.Common.{◌≡◌, ◌↔◌, ◌<◌, ◌+◌, ℕ, zero, suc, List, [], ◌∷◌, length, drop, get_or, refl, ap, sym, subst, arith}
use Rattle.circ_term.proofs.Within.{drop_read}
use Rattle.circ_term.specs.Tree.{Tree}
use Rattle.circ_theory.specs.Rewriting.{named}
use Rattle.circ_theory.specs.Pairs.{PairOfTerms}
use Rattle.circ_proof.specs.declared.links.Chain.{Chain}
use Rattle.circ_proof.specs.Plain.{Same_why, map_row, map_chains, row_of, plain_links, plain_chain, plain_chains}
use Rattle.circ_proof.specs.Link.{Setting, resolved_chain}
use Rattle.circ_proof.specs.Justified.{Justified}
use Rattle.circ_nodes.specs.Named.{tree_at}
use Rattle.circ_replay.proofs.Meeting.{meet_parts}
use Rattle.circ_replay.specs.Usage.{Meets, AllMeet}
use Rattle.circ_shared.specs.declared.patterns.Sides.{Sides}
use Rattle.circ_shared.specs.Patterns.{pair_at, pairs_at, IsThere, AreThere}

-- the pair is the same by the chain exactly where its sides meet
meets_same : (c : Setting) (table : List Tree) (chain : Chain ℕ) (nodes : List Tree) (s : Sides)
    → Meets c (map_row (named table) (row_of (plain_links chain.left.items))) (map_row (named table) (row_of (plain_links chain.right.items))) (pair_at nodes s)
    ↔ Justified c (pair_at nodes s) (Same_why (resolved_chain table (plain_chain chain)))
meets_same c table chain nodes s =
    let p : PairOfTerms = record { left = tree_at nodes s.left; right = tree_at nodes s.right } in
    let h = meet_parts c table (p ∷ []) (chain ∷ []) 0 p chain (omega arith) refl (omega arith) refl in
    ((λ m. (h.0 (m, tt)).0), (λ j. (h.1 (j, tt)).0))

-- the pairs from one on meet by their chains
abbrev pub MeetFrom : Setting → (table nodes : List Tree) → List Sides → List (Chain ℕ) → ℕ → Type 0
MeetFrom c table nodes ss cs i = AllMeet c (pairs_at nodes (drop i ss)) (map_chains (named table) (plain_chains (drop i cs)))

-- those from one on are that one and those from the next one on
pub sides_parts : (c : Setting) (table nodes : List Tree) (ss : List Sides) (cs : List (Chain ℕ)) (i : ℕ) (s : Sides) (chain : Chain ℕ)
    → i < length ss → s ≡ get_or ss i s → i < length cs → chain ≡ get_or cs i chain
    → MeetFrom c table nodes ss cs i ↔ (Justified c (pair_at nodes s) (Same_why (resolved_chain table (plain_chain chain))) × MeetFrom c table nodes ss cs (i + 1))
sides_parts c table nodes ss cs i s chain h e k f =
    let a = drop_read ss i s h e in
    let b = drop_read cs i chain k f in
    let P : List Sides → Type 0 = λ xs. AllMeet c (pairs_at nodes xs) (map_chains (named table) (plain_chains (drop i cs))) in
    let Q : List (Chain ℕ) → Type 0 = λ ys. AllMeet c (pairs_at nodes (s ∷ drop (i + 1) ss)) (map_chains (named table) (plain_chains ys)) in
    let same = meets_same c table chain nodes s in (
      (λ m. let z = subst Q b (subst P a m) in (same.0 z.0, z.1)),
      (λ m. subst P (sym a) (subst Q (sym b) (same.1 m.0, m.1))),
    )

-- there are as many pairs as chains
pub sides_counted : (c : Setting) (f : ℕ → Tree) (nodes : List Tree) (ss : List Sides) (cs : List (Chain ℕ))
    → AllMeet c (pairs_at nodes ss) (map_chains f (plain_chains cs)) → length ss ≡ length cs
sides_counted c f nodes [] [] m = refl
sides_counted c f nodes [] (d ∷ cs) m = absurd m
sides_counted c f nodes (s ∷ ss) [] m = absurd m
sides_counted c f nodes (s ∷ ss) (d ∷ cs) m = ap suc (sides_counted c f nodes ss cs m.1)

-- an element, by whichever default it is read
abbrev pub unread : Sides
unread = record { left = 0; right = 0 }

pub read_again : (ss : List Sides) (i : ℕ) → i < length ss → get_or ss i unread ≡ get_or ss i (get_or ss i unread)
read_again [] i h = absurd (omega (arith, h))
read_again (s ∷ ss) zero h = refl
read_again (s ∷ ss) (suc i) h = read_again ss i (omega (arith, h))

-- each is there
pub sides_there : (nodes : List Tree) (ss : List Sides) (i : ℕ) (s : Sides) → AreThere nodes ss → i < length ss → s ≡ get_or ss i s → IsThere nodes s
sides_there nodes [] i s a h e = absurd (omega (arith, h))
sides_there nodes (x ∷ ss) zero s a h e = subst (IsThere nodes) (sym e) a.0
sides_there nodes (x ∷ ss) (suc i) s a h e = sides_there nodes ss i s a.1 (omega (arith, h)) e
