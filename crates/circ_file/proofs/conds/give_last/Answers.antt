use Rattle.std.proofs.Common.{◌∙◌, ◌++◌, ◌∷◌, [], sym, ap, Some}
use Rattle.std.specs.Option.{option_map}
use Rattle.std.proofs.lemmas.List.{map_push}
use Rattle.circ_proof.specs.Plain.{plain_link, plain_links, plain_chain}
use Rattle.circ_file.proofs.OpenConds.{links_given}
use Rattle.circ_file.proofs.conds.give_last.Goals as goal

pub returns-in_default-2 : goal.returns-in_default-2
returns-in_default-2 c =
    let ls = c.pop.new.self.items in
    links_given c.args.links.now.items ls c.in-Some.link (plain_chain c.args.cond) c.in_ok-link.field-0 c.in-Some.ensures.items c.in_ok-link.ensures
    ∙ ap (option_map (λ m. plain_links ls ++ plain_link m ∷ [])) c.in_default-2.is

pub returns : goal.returns
returns c =
    let ls = c.pop.new.self.items in
    links_given c.args.links.now.items ls c.in-Some.link (plain_chain c.args.cond) c.in_ok-link.field-0 c.in-Some.ensures.items c.in_ok-link.ensures
    ∙ ap (option_map (λ m. plain_links ls ++ plain_link m ∷ [])) c.in-Some-2.is
    ∙ ap (λ x. Some x) (sym (ap plain_links c.in_ok-push.ensures.items ∙ map_push plain_link ls c.in-Some-2.link))
