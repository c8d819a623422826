use Rattle.std.proofs.Common.{refl}
use Rattle.circ_theory.proofs.Conditions.{without_conditions}
use Rattle.circ_regex.specs.Lang.{LANG}
use Rattle.circ_regex.proofs.laws.lang_has_no_conditions.Goals as goal

pub returns : goal.returns
unfolding LANG
returns c = (without_conditions LANG).0 refl
