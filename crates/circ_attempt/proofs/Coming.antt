-- What is known of each of what the search comes to; and that it ends as the search does.
use Rattle.std.proofs.Common.{◌≡◌, List, ◌∷◌, Ok, refl, subst, arith}
use Rattle.circ_theory.specs.Theory.{Theory, goal}
use Rattle.circ_theory.specs.WellFormed.{IsWellFormed}
use Rattle.circ_theory.specs.Goal.{Goal}
use Rattle.circ_special.specs.declared.place.Place.{Place}
use Rattle.circ_plain_search.specs.BlockRules.{block_rules}
use Rattle.circ_plain_search.specs.Search.{Standing, Ending, Sides}
use Rattle.circ_plain_search.proofs.Runs.{bound}
use Rattle.circ_conditional_search.specs.Coming.{IsSmallTrying, IsReadyTrying}
use Rattle.circ_conditional_search.specs.ConditionalSearch.{CanAllBeSearched}
use Rattle.circ_conditional_search.specs.Search.{Manner, normal_sides_trying, with_sides_of}
use Rattle.circ_conditional_search.proofs.Coming.{Good, start_good, opened_small, ready_if}
use Rattle.circ_conditional_search.proofs.Runs.{Held, Opened, original}
use Rattle.circ_conditional_search.proofs.Splits.{normal_sides_led}
use Rattle.circ_conditional_search.proofs.Turns.{rules_here, assumptions_of, sides_held}
use Rattle.circ_attempt.specs.RewritingSearch.{ComesRewriting, here_so, further_so, first_going}
use Rattle.circ_attempt.specs.Search.{Conduct, Going, FinishesRewriting, goes_on_so}
use Rattle.circ_attempt.proofs.Turns.{keeps_good}

pub comes_finishes : (th : Theory) (G : List Place) (l : Conduct) (first x : Going) (e : Ending) → ComesRewriting th G l first x → FinishesRewriting th G l x e
    → FinishesRewriting th G l first e
comes_finishes th G l first x e here_so r = r
comes_finishes th G l first x e (further_so mid _ c t) r = comes_finishes th G l first mid e c (goes_on_so mid x e t r)

module _ (th : Theory) (wf : IsWellFormed th) (G : List Place) (l : Conduct) (blocks : List (List Goal)) (can : CanAllBeSearched th blocks) where
  abbrev m : Manner
  m = l.manner

  comes_good : (x : Going) → ComesRewriting th G l (first_going l blocks) x → Good th wf G m blocks x.standing
  comes_good _ here_so = start_good th wf G m blocks can
  comes_good _ (further_so x next c t) = keeps_good th wf G l blocks x next (comes_good x c) t

  pub standing_small : (x : Going) → ComesRewriting th G l (first_going l blocks) x → IsSmallTrying x.standing
  standing_small x c = opened_small th wf G m blocks x.standing x.standing.queue refl (comes_good x c)

  -- the goal in hand, with its sides in normal form
  pub normal_goal_ready : (x : Going) → ComesRewriting th G l (first_going l blocks) x → (g : Goal) (rest : List Goal) → x.standing.queue ≡ g ∷ rest → (n : Sides)
      → normal_sides_trying th (block_rules th x.standing.earlier) g.conds g.left g.right x.standing.budget ≡ Ok n → IsReadyTrying th (goal g.conds n.left n.right)
  normal_goal_ready x c g rest is n e =
      let st : Standing = x.standing in
      let P : List Goal → Type 0 = Opened th G blocks st in
      let o = subst P is (comes_good x c) in
      let h : Held th G blocks st o.0 g rest = o.1 in
      let Q : List Goal = original o.0 g ∷ rest in
      let led = normal_sides_led th wf (bound st) (omega arith) G st.hypotheses (block_rules th st.earlier) (rules_here th wf G m blocks st Q h.ran) g.conds
      (assumptions_of th wf G m blocks (bound st) g.conds h.fine.conds) g.left g.right st.budget n h.fine.left h.fine.right e in
      let held = sides_held th wf G m blocks st o.0 g rest n h led.left led.right in
      ready_if th wf G m blocks (with_sides_of st g rest n) Q (goal g.conds n.left n.right) held.ran held.fine
