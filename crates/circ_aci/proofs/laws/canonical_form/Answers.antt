use Rattle.circ_aci.proofs.Again.{is_canonical}
use Rattle.circ_aci.proofs.laws.canonical_form.Goals as goal

pub returns : goal.returns
returns c = is_canonical
