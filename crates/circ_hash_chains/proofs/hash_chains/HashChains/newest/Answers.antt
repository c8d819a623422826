use Rattle.std.proofs.Common.{◌≡◌, ◌<◌, ℕ, List, length, refl, ap, sym, subst, ◌∙◌, arith, get_or}
use Rattle.std.proofs.lemmas.List.{length-map}
use Rattle.std.proofs.lemmas.Option.{slice_get_read}
use Rattle.circ_hash_chains.specs.Keys.{IsLastBelow}
use Rattle.circ_hash_chains.specs.Chains.{chain_of, keys_of}
use Rattle.circ_hash_chains.proofs.Walking.{last_below}
use Rattle.circ_hash_chains.proofs.hash_chains.HashChains.newest.Goals as goal

pub returns : goal.returns
returns c =
    let k = c.self.inside.chains in
    let links = k.links.items in
    let heads = k.heads.items in
    let key = c.args.key in
    let chain : c.chain_of-chain.result ≡ chain_of key (length heads) = c.chain_of-chain.ensures.is ∙ ap (λ n. chain_of key n) (c.len.ensures ∙ k.heads.ok.0) in
    let within : chain_of key (length heads) < length heads = omega (arith, chain, c.chain_of-chain.ensures.within, c.len.ensures, k.heads.ok.0) in
    let read =
    slice_get_read heads (length heads) (chain_of key (length heads)) c.index.result.now refl within
    (c.index.ensures ∙ ap (λ n. get_or heads n c.index.result.now) chain) in
    let newest = c.self.invariant.linked.newest (chain_of key (length heads)) c.index.result.now read in
    let told = last_below (keys_of links) (length heads) key (length links) c.index.result.now newest c.walk.result c.walk.ensures in
    let P : ℕ → Type 0 = λ n. IsLastBelow (keys_of links) key n c.walk.result in
    let Q : List ℕ → Type 0 = λ ks. IsLastBelow ks key (length ks) c.walk.result in
    subst Q c.self.view_is (subst P (sym (length-map links (λ l. l.key))) told)
