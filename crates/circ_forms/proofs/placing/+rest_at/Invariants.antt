use Rattle.circ_forms.proofs.placing.+rest_at.Given as goal

abbrev pub decreases-rest_at : goal.decreases-rest_at
decreases-rest_at l = l.place
