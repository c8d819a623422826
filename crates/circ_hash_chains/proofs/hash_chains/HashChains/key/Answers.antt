use Rattle.std.proofs.Common.{◌<◌, length, refl, ap, sym, ◌∙◌, arith}
use Rattle.std.specs.List.{slice_get}
use Rattle.std.proofs.lemmas.List.{length-map}
use Rattle.std.proofs.lemmas.Option.{slice_get_read}
use Rattle.circ_hash_chains.proofs.Lists.{get_map}
use Rattle.circ_hash_chains.proofs.hash_chains.HashChains.key.Goals as goal

pub returns : goal.returns
returns c =
    let links = c.self.inside.chains.links.items in
    let on = c.index.result.now in
    let within : c.args.number < length links = omega (arith, length-map links (λ l. l.key), ap length c.self.view_is, c.requires) in
    let read = slice_get_read links (length links) c.args.number on refl within c.index.ensures in
    sym (ap (λ ks. slice_get ks c.args.number) c.self.view_is) ∙ get_map (λ l. l.key) links c.args.number on read
