use Rattle.circ_expansion.proofs.Expanding.{expansion_goes, given_leads, never_stops}
use Rattle.circ_expansion.proofs.laws.expansion_leads.Goals as goal

pub returns-clause-leads : goal.returns-clause-leads
returns-clause-leads c = λ th ok p f pl a n g e ws w k m xs h. given_leads th p k n g ws (expansion_goes th ok p f pl a n g e ws w k) m xs h

pub returns-clause-never_stops : goal.returns-clause-never_stops
returns-clause-never_stops c = λ th ok p f pl a n g e ws w k h. never_stops th p k n g ws (expansion_goes th ok p f pl a n g e ws w k) h
