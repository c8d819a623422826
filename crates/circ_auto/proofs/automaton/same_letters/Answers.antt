use Rattle.std.proofs.Common.{◌≡◌, List, ℕ, sym, ◌∙◌, ap}
use Rattle.circ_auto.proofs.Repeating.{same_texts}
use Rattle.circ_auto.proofs.automaton.same_letters.Goals as goal

pub returns : goal.returns
returns c = rw (← c.second.view_is, ← c.first.view_is, c.eq.ensures) (same_texts (λ v. v.items) c.second.inside.letters.items c.first.inside.letters.items)
