use Rattle.std.proofs.Common.{[], map, refl, ap, arith}
use Rattle.circ_check.specs.Deciding.{plain_list}
use Rattle.circ_reports.specs.Incoming.{all_checked}
use Rattle.circ_reports.proofs.incoming.Incoming.new.Goals as goal

pub returns : goal.returns
returns c = record {
  theory = refl;
  sound = c.new.ensures.sound;
  lines = omega (arith, c.new.ensures.lines);
  follows = all_checked [] (record { read = c.new.ensures.stands; checked = c.new-2.ensures; goals = ap (map plain_list) c.new-3.ensures.items })
      c.new.ensures.none;
}
