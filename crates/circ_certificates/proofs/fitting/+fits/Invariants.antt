use Rattle.std.proofs.Common.{◌≡◌, ◌+◌, ◌*◌, drop}
use Rattle.circ_special.specs.Fitting.{all_fit}
use Rattle.circ_certificates.proofs.Fits.{row_of}
use Rattle.circ_certificates.proofs.Members.{above}
use Rattle.circ_certificates.proofs.fitting.+fits.Given as goal

abbrev pub decreases-fits : goal.decreases-fits
decreases-fits l = 3 * l.body + 2

abbrev pub decreases-fits_application : goal.decreases-fits_application
decreases-fits_application l = 3 * above l.args.now + 1

abbrev pub decreases-all_fit : goal.decreases-all_fit
decreases-all_fit l = 3 * above l.bodies.now

abbrev pub invariant-all_fit-loop-i : goal.invariant-all_fit-loop-i
invariant-all_fit-loop-i l =
    all_fit l.id l.sort (row_of l.nodes (drop l.i l.bodies)) (row_of l.nodes (drop l.i l.terms)) ≡ all_fit l.id l.sort (row_of l.nodes l.bodies) (row_of l.nodes l.terms)
