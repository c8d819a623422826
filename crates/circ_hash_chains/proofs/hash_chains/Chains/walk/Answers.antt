use Rattle.std.proofs.Common.{◌-◌, length, refl, arith}
use Rattle.std.proofs.lemmas.Option.{slice_get_read}
use Rattle.circ_hash_chains.specs.Chains.{keys_of}
use Rattle.circ_hash_chains.proofs.Walking.{walk_within, walk_on}
use Rattle.circ_hash_chains.proofs.hash_chains.Chains.walk.Goals as goal

pub loop-link-preserved : goal.loop-link-preserved
loop-link-preserved c =
    let links = c.args.self.now.links.items in
    let heads = c.args.self.now.heads.items in
    let within = walk_within (keys_of links) (length heads) c.args.key (length links) c.args.start c.loop-link.link c.requires.start c.loop-link.invariant (omega arith) in
    let read = slice_get_read links (length links) (c.loop-link.link - 1) c.index.result.now refl within c.index.ensures in
    (walk_on links heads c.args.key c.args.start c.loop-link.link c.index.result.now c.requires.chains.linked within c.loop-link.invariant (omega arith) read c.if-other-key.false).0
