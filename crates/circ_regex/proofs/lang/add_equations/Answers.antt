use Rattle.std.proofs.Common.{◌≡◌, ◌∷◌, ◌++◌, [], List, reverse, ap, sym, ◌∙◌}
use Rattle.std.proofs.lemmas.List.{reverse-append}
use Rattle.circ_term.specs.Tree.{Tree}
use Rattle.circ_regex.specs.Making.{with_rules}
use Rattle.circ_regex.proofs.lang.add_equations.Goals as goal

popped : (all mid rest : List Tree) (left right : Tree) → all ≡ mid ++ left ∷ [] → mid ≡ rest ++ right ∷ [] → reverse all ≡ left ∷ right ∷ reverse rest
popped all mid rest left right e f = ap reverse e ∙ reverse-append mid (left ∷ []) ∙ ap (λ z. left ∷ z) (ap reverse f ∙ reverse-append rest (right ∷ []))

pub loop-left-preserved : goal.loop-left-preserved
loop-left-preserved c = λ ts e.
    let rest = c.pop-in-Some.new.self.items in
    let both = popped c.loop-left.sides.items c.pop.new.self.items rest c.in-Some.left c.in-Some-pop.right c.in-Some.ensures.items c.in-Some-pop.ensures.items in
    ap (λ th. with_rules th (reverse rest)) c.in_ok-add_equation.ensures ∙ ap (with_rules c.loop-left.theory) (sym both) ∙ c.loop-left.invariant ts e
