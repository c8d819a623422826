use Rattle.circ_needs.proofs.Owing.{front_here, front_fits}
use Rattle.circ_needs.proofs.walking.Asked.fits_front.Goals as goal

pub returns-then-rest-eq1 : goal.returns-then-rest-eq1
returns-then-rest-eq1 c =
    let p = c.requires in
    let there = front_here c.args.self.now c.args.front.now c.args.rest.now c.args.here.now p.0 p.1 c.if-rest-eq1.true in
    front_fits c.args.self.now c.args.front.now c.args.body.now c.args.here.now c.fits.result there c.fits.ensures
