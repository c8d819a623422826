use Rattle.std.proofs.Common.{◌+◌, ℕ, List, refl, sym, subst, slice_index_or, slice_set}
use Rattle.std.proofs.lemmas.Option.{slice_get-get_or}
use Rattle.circ_hash_chains.specs.declared.hash_chains.Link.{Link}
use Rattle.circ_hash_chains.specs.Chains.{keys_of, IsLinked}
use Rattle.circ_hash_chains.proofs.Lists.{get_map}
use Rattle.circ_hash_chains.proofs.Linking.{keys_set, linked_more}
use Rattle.circ_hash_chains.proofs.hash_chains.enter.Goals as goal

pub returns-clause-keys : goal.returns-clause-keys
returns-clause-keys c =
    let links = c.args.links.now in
    let none : Link = record { next = 0; key = 0 } in
    let old = slice_index_or links c.args.number none in
    keys_set links c.args.number old (record { next = slice_index_or c.args.heads.now c.chain_of-chain.result 0; key = old.key })
    (slice_get-get_or links c.args.number none c.requires.number) refl

pub returns-clause-linked : goal.returns-clause-linked
returns-clause-linked c =
    let links = c.args.links.now in
    let heads = c.args.heads.now in
    let n = c.args.number in
    let none : Link = record { next = 0; key = 0 } in
    let old = slice_index_or links n none in
    let link : Link = record { next = slice_index_or heads c.chain_of-chain.result 0; key = old.key } in
    let read = slice_get-get_or links n none c.requires.number in
    let more =
    linked_more (keys_of links) links heads n c.chain_of-chain.result link (get_map (λ l. l.key) links n old read) (sym c.chain_of-chain.ensures.is)
    (slice_get-get_or heads c.chain_of-chain.result 0 c.chain_of-chain.ensures.within) c.requires.linked in
    let P : List ℕ → Type 0 = λ ks. IsLinked ks (slice_set links n link) (slice_set heads c.chain_of-chain.result (n + 1)) (n + 1) in
    subst P (sym (keys_set links n old link read refl)) more
