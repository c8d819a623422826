use Rattle.std.proofs.Common.{◌<◌, ℕ, List, length, refl, ap, sym, subst, ◌∙◌, arith}
use Rattle.std.specs.List.{slice_get}
use Rattle.std.proofs.lemmas.List.{length-map}
use Rattle.std.proofs.lemmas.Option.{slice_get_read, same_Some}
use Rattle.circ_hash_chains.specs.Keys.{IsLastBelow}
use Rattle.circ_hash_chains.specs.Chains.{keys_of}
use Rattle.circ_hash_chains.proofs.Lists.{get_map}
use Rattle.circ_hash_chains.proofs.Walking.{last_below}
use Rattle.circ_hash_chains.proofs.hash_chains.HashChains.older.Goals as goal

pub returns : goal.returns
returns c = λ k e.
    let links = c.self.inside.chains.links.items in
    let on = c.index-link.result.now in
    let within : c.args.number < length links = omega (arith, length-map links (λ l. l.key), ap length c.self.view_is, c.requires) in
    let read = slice_get_read links (length links) c.args.number on refl within c.index-link.ensures in
    let key = same_Some on.key k (sym (get_map (λ l. l.key) links c.args.number on read) ∙ ap (λ ks. slice_get ks c.args.number) c.self.view_is ∙ e) in
    let told = last_below (keys_of links) (length c.self.inside.chains.heads.items) on.key c.args.number on.next (c.self.invariant.linked.older c.args.number on within read) c.walk.result c.walk.ensures in
    let P : ℕ → Type 0 = λ n. IsLastBelow c.args.self.now n c.args.number c.walk.result in
    let Q : List ℕ → Type 0 = λ ks. IsLastBelow ks on.key c.args.number c.walk.result in
    subst P key (subst Q c.self.view_is told)
