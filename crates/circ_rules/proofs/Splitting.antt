-- Cases puts in place of the first goal that goal in each case of a term.
use Rattle.std.specs.Prelude.{◌≡◌, ◌<◌, ℕ, List, [], ◌∷◌, ◌++◌, drop, length, Some, None, refl}
use Rattle.std.proofs.Common.{ap, ◌∙◌, subst, arith, get_or}
use Rattle.circ_term.specs.Tree.{Tree, sort_of}
use Rattle.circ_theory.specs.Limits.{condition_limit}
use Rattle.circ_theory.specs.Theory.{Theory}
use Rattle.circ_theory.specs.Observing.{cases_of, case_list}
use Rattle.circ_theory.specs.Goal.{Goal}
use Rattle.circ_special.specs.declared.place.Place.{Place}
use Rattle.circ_proof.specs.Rules.{state, Cases, cases_on, StepOn}

pub splits : (th : Theory) (G : List Place) (u : Tree) (ks : List ℕ) (H gs : List Goal) (first : Goal) (hs : List Goal) → 0 < length gs → first ≡ get_or gs 0 first
    → length first.conds < condition_limit → cases_of th (sort_of u) ≡ Some ks → hs ≡ cases_on first u (case_list (sort_of u) ks)
    → StepOn th G (Cases u) H gs (state H (hs ++ drop 1 gs))
splits th G u ks H [] first hs h e few listed made = absurd (omega arith)
splits th G u ks H (g ∷ gs) first hs h e few listed made =
    let P : Goal → Type 0 = λ x. length x.conds < condition_limit in
    (ks, listed, subst P e few, ap (λ xs. state H (xs ++ gs)) (made ∙ ap (λ x. cases_on x u (case_list (sort_of u) ks)) e))
