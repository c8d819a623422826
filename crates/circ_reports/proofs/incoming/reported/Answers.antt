use Rattle.std.proofs.Common.{refl}
use Rattle.circ_reports.proofs.incoming.reported.Goals as goal

pub returns-in_ok-relation_text-in-Relation : goal.returns-in_ok-relation_text-in-Relation
returns-in_ok-relation_text-in-Relation c p e =
    rw (
      c.in_ok-relation_text-in-Relation.ensures.text,
      c.in_ok-put_goals.ensures,
      c.in_ok-out.ensures.items,
      c.in-Relation.is,
      e,
    ) refl
