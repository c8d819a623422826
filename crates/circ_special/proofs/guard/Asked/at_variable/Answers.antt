use Rattle.circ_special.proofs.guard.Asked.at_variable.Goals as goal

pub returns-then-is_variable : goal.returns-then-is_variable
returns-then-is_variable c =
    ((λ h e. c.is_guarded.ensures.0 h), (λ g. c.is_guarded.ensures.1 (g (c.is_variable.ensures.same.0 c.if-is_variable.true))))
