use Rattle.std.proofs.Common.{ap, sym, ◌∙◌}
use Rattle.circ_conditional_norm.specs.Work.{Made}
use Rattle.circ_proof.specs.Plain.{plain_links}
use Rattle.circ_content_join.specs.Moves.{make_all}
use Rattle.circ_moves.specs.Plain.{plain_moves}
use Rattle.circ_rounds.proofs.Closing.{closed}
use Rattle.circ_rounds.proofs.run.Run.close.Goals as goal

pub returns : goal.returns
returns c = λ ps again k.
    let run = c.args.self.now in
    let made = ap (λ m. make_all run.left (plain_moves m)) (sym c.as_slice.ensures.value) ∙ c.in-Ok.ensures in
    ap (λ o. Made o k)
    (closed run.left c.in-Ok.field-0 run.chain.left.items c.in_ok-links.links.items c.append.new.self.items (plain_links run.chain.right.items)
    (plain_moves c.args.moves.items) made c.in_ok-links.ensures c.in_ok-append.ensures.items)
