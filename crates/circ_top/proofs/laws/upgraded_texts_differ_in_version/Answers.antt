use Rattle.circ_top.proofs.Upgraded.{differ_in_version}
use Rattle.circ_top.proofs.laws.upgraded_texts_differ_in_version.Goals as goal

pub returns : goal.returns
returns c = differ_in_version
