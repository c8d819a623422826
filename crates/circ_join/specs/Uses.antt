-- What contracts see of uses of hypotheses and lemmas.
use Rattle.std.specs.Prelude.{List, map}
use Rattle.circ_proof.specs.Plain.{plain_chains}
use Rattle.circ_plain_search.specs.Joining.{HypothesisUse}
use Rattle.circ_join.specs.declared.uses.HypothesisUse.{HypothesisUse as TheUse}

abbrev pub plain_use : TheUse → HypothesisUse
plain_use u = record {
  number = u.number;
  way = u.way;
  path = u.path.items;
  terms = u.terms.items;
  conds = plain_chains u.conds.items;
  new = u.new;
}

abbrev pub plain_uses : List TheUse → List HypothesisUse
plain_uses us = map plain_use us
