-- Chains that lie in a list: how deep they lie in one another, their terms, and their numbers.
use Rattle.std.proofs.Common.{◌≡◌, ◌≤◌, ◌<◌, ◌+◌, ℕ, zero, suc, List, [], ◌∷◌, ◌++◌, length, map, get_or, refl, ap, sym, ◌∙◌, append_assoc, arith}
use Rattle.std.specs.Prelude.{flat_map}
use Rattle.circ_term.specs.Tree.{Tree}
use Rattle.circ_proof.specs.Plain.{LinkOf, more_chains, row_of, chains_of, map_row, map_chain, map_chains, plain_link, plain_links, plain_chain, plain_chains}
use Rattle.circ_proof.specs.declared.links.Link.{Link}
use Rattle.circ_proof.specs.declared.links.Chain.{Chain}
use Rattle.circ_proof.specs.Link.{terms_of, row_terms, chains_terms}
use Rattle.circ_proof.specs.Nesting.{link_nesting, links_nesting, chain_nesting, chains_nesting}
use Rattle.circ_proof.proofs.LinkRows.{row_depth, row_mapped}
use Rattle.circ_plain_search.specs.Numbering.{links_terms, chain_terms}

pub link_in : (ls : List (Link Tree)) (i : ℕ) (l : Link Tree) → i < length ls → l ≡ get_or ls i l
    → link_nesting (plain_link l) ≤ links_nesting (plain_links ls)
link_in [] i l h e = absurd (omega (arith, h))
link_in (x ∷ ls) zero l h e = let d = ap (λ y. link_nesting (plain_link y)) e in omega (arith, d)
link_in (x ∷ ls) (suc i) l h e = let d = link_in ls i l (omega (arith, h)) e in omega (arith, d)

-- a chain lies less deep than the list that it is in
pub chain_in : (cs : List (Chain Tree)) (i : ℕ) (c : Chain Tree) → i < length cs → c ≡ get_or cs i c
    → chain_nesting (plain_chain c) + 1 ≤ chains_nesting (plain_chains cs)
chain_in [] i c h e = absurd (omega (arith, h))
chain_in (x ∷ cs) zero c h e =
    let d = ap (λ y. chain_nesting (plain_chain y)) e in
    let left = row_depth (plain_chain x).left in
    let right = row_depth (plain_chain x).right in
    omega (arith, d, left, right)
chain_in (x ∷ cs) (suc i) c h e = let d = chain_in cs i c (omega (arith, h)) e in omega (arith, d)

row_flat : (ls : List (LinkOf Tree)) → row_terms (row_of ls) ≡ links_terms ls
row_flat [] = refl
row_flat (l ∷ ls) = ap (λ ts. terms_of l ++ ts) (row_flat ls)

pub chains_flat : (cs : List (Chain Tree)) → chains_terms (plain_chains cs) ≡ flat_map (λ c. chain_terms (plain_chain c)) cs
chains_flat [] = refl
chains_flat (c ∷ cs) =
    let l : List (LinkOf Tree) = (plain_chain c).left in
    let r : List (LinkOf Tree) = (plain_chain c).right in
    ap (λ ts. ts ++ (row_terms (row_of r) ++ chains_terms (plain_chains cs))) (row_flat l)
    ∙ ap (λ ts. links_terms l ++ (ts ++ chains_terms (plain_chains cs))) (row_flat r)
    ∙ ap (λ ts. links_terms l ++ (links_terms r ++ ts)) (chains_flat cs)
    ∙ sym (append_assoc (links_terms l) (links_terms r) (flat_map (λ c. chain_terms (plain_chain c)) cs))

chains_mapped : (h : Tree → ℕ) (cs : List (Chain Tree)) → map_chains h (plain_chains cs) ≡ chains_of (map (λ c. map_chain h (plain_chain c)) cs)
chains_mapped h [] = refl
chains_mapped h (c ∷ cs) =
    ap (λ x. more_chains x (map_row h (row_of (plain_chain c).right)) (map_chains h (plain_chains cs))) (row_mapped h (plain_chain c).left)
    ∙ ap (λ x. more_chains (row_of (map_chain h (plain_chain c)).left) x (map_chains h (plain_chains cs))) (row_mapped h (plain_chain c).right)
    ∙ ap (more_chains (row_of (map_chain h (plain_chain c)).left) (row_of (map_chain h (plain_chain c)).right)) (chains_mapped h cs)

pub chains_named : (h : Tree → ℕ) (vs : List (Chain ℕ)) (cs : List (Chain Tree)) → map plain_chain vs ≡ map (λ c. map_chain h (plain_chain c)) cs
    → plain_chains vs ≡ map_chains h (plain_chains cs)
chains_named h vs cs e = ap chains_of e ∙ sym (chains_mapped h cs)
