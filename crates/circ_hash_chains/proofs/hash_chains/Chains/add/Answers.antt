use Rattle.std.proofs.Common.{◌∙◌}
use Rattle.circ_hash_chains.proofs.Linking.{linked_next}
use Rattle.circ_hash_chains.proofs.hash_chains.Chains.add.Goals as goal

pub enter-requires-clause-linked : goal.enter-requires-clause-linked
enter-requires-clause-linked c =
    let k = c.args.self.now in
    rw (c.as_mut_slice.ensures.value ∙ c.push_reserved.ensures.items, c.as_mut_slice-2.ensures.value, c.len-place.ensures ∙ k.links.ok.0)
    (linked_next k.links.items (record { next = 0; key = c.args.key }) k.heads.items c.requires.chains.linked)
