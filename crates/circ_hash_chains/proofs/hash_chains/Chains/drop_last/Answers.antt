use Rattle.std.proofs.Common.{◌≡◌, ◌+◌, ◌++◌, ◌∷◌, [], ◌∙◌, ℕ, List, length, length-append, ap, sym, subst, slice_set, arith}
use Rattle.std.proofs.lemmas.List.{length-set}
use Rattle.circ_hash_chains.specs.declared.hash_chains.Link.{Link}
use Rattle.circ_hash_chains.specs.Chains.{keys_of, chain_of, IsLinked}
use Rattle.circ_hash_chains.proofs.Linking.{linked_less}
use Rattle.circ_hash_chains.proofs.hash_chains.Chains.drop_last.Goals as goal

pub returns-in-Some-clause-chains : goal.returns-in-Some-clause-chains
returns-in-Some-clause-chains c =
    let k = c.args.self.now in
    let front = c.pop.new.self.items in
    let heads = k.heads.items in
    let last = c.in-Some.link in
    let whole : k.links.items ≡ front ++ last ∷ [] = c.in-Some.ensures.items in
    let count : length k.links.items ≡ length front + 1 = ap length whole ∙ length-append front (last ∷ []) in
    let P : List Link → Type 0 = λ ls. IsLinked (keys_of ls) ls heads (length front + 1) in
    let Q : ℕ → Type 0 = λ n. IsLinked (keys_of k.links.items) k.links.items heads n in
    let less = linked_less front last heads (subst P whole (subst Q count c.requires.chains.linked)) in
    let chain : c.chain_of-chain.result ≡ chain_of last.key (length heads) = c.chain_of-chain.ensures.is ∙ ap (λ n. chain_of last.key n) (c.len.ensures ∙ k.heads.ok.0) in
    let R : ℕ → Type 0 = λ n. IsLinked (keys_of front) front (slice_set heads n last.next) (length front) in
    record {
      few = omega (arith, count, c.requires.chains.few);
      wide = omega (arith, count, c.requires.chains.wide, length-set heads c.chain_of-chain.result last.next);
      linked = subst R (sym chain) less;
    }
