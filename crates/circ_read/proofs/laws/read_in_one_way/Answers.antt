use Rattle.std.proofs.Common.{ap}
use Rattle.circ_read.specs.Includes.{AddsIn}
use Rattle.circ_read.specs.RefusesIn.{RefusesIn}
use Rattle.circ_read.specs.ReadsAs.{begun}
use Rattle.circ_read.proofs.Once.{SaidOnce}
use Rattle.circ_read.proofs.TextOnce.{CutOnce, leads_once, leads_or_fails, fails_once}
use Rattle.circ_read.proofs.StatementOnce.{scope_once}
use Rattle.circ_read.proofs.laws.read_in_one_way.Goals as goal

cut : (c : goal.After-said_in_one_way) → CutOnce
cut c = record { tokens = c.cut_in_one_way.ensures.tokens; one = c.cut_in_one_way.ensures.one }

law : (c : goal.After-said_in_one_way) → SaidOnce
law c = record { said = c.said_in_one_way.ensures.said; out = c.said_in_one_way.ensures.left_out }

pub returns-clause-theory : goal.returns-clause-theory
returns-clause-theory c = λ bytes th u h k. ap (λ s. s.theory) (leads_once (cut c) (law c) AddsIn RefusesIn (scope_once (cut c) (law c)) begun bytes _ _ h.leads k.leads)

pub returns-clause-either : goal.returns-clause-either
returns-clause-either c = λ bytes th n d h k. leads_or_fails (cut c) (law c) AddsIn RefusesIn (scope_once (cut c) (law c)) begun bytes _ n d h.leads k

pub returns-clause-number : goal.returns-clause-number
returns-clause-number c = λ bytes n m d e h k. (fails_once (cut c) (law c) AddsIn RefusesIn (scope_once (cut c) (law c)) begun bytes n m d e h k).0

pub returns-clause-cause : goal.returns-clause-cause
returns-clause-cause c = λ bytes n m d e h k. (fails_once (cut c) (law c) AddsIn RefusesIn (scope_once (cut c) (law c)) begun bytes n m d e h k).1
