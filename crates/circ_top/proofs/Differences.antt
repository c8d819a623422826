-- What `differ` answers.
use Rattle.std.proofs.Common.{◌≡◌, ◌-◌, ◌≤◌, ℕ, List, length, refl, sym, ◌∙◌, ap, subst, Option, Some, None}
use Rattle.std.specs.List.{slice_get}
use Rattle.circ_outer.specs.Shelf.{ShelfState}
use Rattle.circ_term.specs.Tree.{Tree}
use Rattle.circ_term.specs.Limits.{Limit, Big, Deep}
use Rattle.circ_theory.specs.Theory.{Theory}
use Rattle.circ_theory.specs.Goal.{Goal}
use Rattle.circ_entry.specs.Entries.{Written}
use Rattle.circ_refute.specs.PlainRefutation.{Refuted, Told_apart, Alike, Spent, Past_limit, Decision, goals_in}
use Rattle.circ_refute.specs.Difference.{DiffersBy, IsRightOf}
use Rattle.circ_status.specs.declared.status.Status.{Status}
use Rattle.circ_status.specs.declared.status.Status.TheVariants as status
use Rattle.circ_found.specs.Differing.{differs_text, limit_ending, refuted_ending, decision_ending, DifferEnds}
use Rattle.circ_status.specs.Ending.{Stored, Ending, ending}
use Rattle.circ_top.specs.Differ.{DifferenceSought, IsDifferenceSought}
use Rattle.circ_top.specs.Scripted.{to_differ, IsDoneOn}
use Rattle.circ_top.proofs.ScriptOutcomes.{EndsOnce}
use Rattle.circ_top.proofs.Searches.{IsSearchEnd}
use Rattle.circ_turn.specs.declared.search.Limits.{Limits}

-- looking for a difference ends in one way
pub one_difference : (limits : Limits) → EndsOnce (DifferenceSought limits)
one_difference limits th blocks d e a b = sym a ∙ b

-- what is answered is what the plain refutation finds
pub difference_done : (limits : Limits) (theory script : List ℕ) (e : Ending) (before : ShelfState) → IsDifferenceSought limits theory script e before
    → IsDoneOn to_differ theory script (DifferenceSought limits) e before
difference_done limits theory script e before a = record {
  th = a.done.th;
  sc = a.done.sc;
  ends = ap (decision_ending a.done.th limits.steps limits.derives) a.done.ends.found ∙ a.done.ends.is;
  takes_theory = a.done.takes_theory;
  takes_script = a.done.takes_script;
}

-- it ends as a search may, stores nothing, and never since a text is too long
abbrev pub IsDifferenceEnd : Ending → Type 0
IsDifferenceEnd e = IsSearchEnd e.status × (e.stored ≡ None) × ((file n : ℕ) → e.status ≡ status.TooLong file n → ⊥)

module _ (th : Theory) (g n d : ℕ) where
  limit_end : (l : Limit) → IsDifferenceEnd (limit_ending l)
  limit_end (Big nodes) = (tt, refl, λ file k e. cc)
  limit_end (Deep depth) = (tt, refl, λ file k e. cc)

  refuted_end : (r : Refuted) → IsDifferenceEnd (refuted_ending th g n d r)
  refuted_end (Told_apart ws l m) = (tt, refl, λ file k e. cc)
  refuted_end Alike = (tt, refl, λ file k e. cc)
  refuted_end Spent = (tt, refl, λ file k e. cc)
  refuted_end (Past_limit l) = limit_end l

  -- what status 11 says
  pub record Apart (gs : List Goal) (count : ℕ) (text : List ℕ) : Type 0 where
    pub counted : 1 ≤ g
    pub told_apart : Goal
    pub goal_is : slice_get gs (g - 1) ≡ Some told_apart
    pub entries : List Written
    pub left : Tree
    pub right : Tree
    pub differs : DiffersBy th told_apart entries left right
    pub count_is : count ≡ length entries
    pub text_is : text ≡ differs_text th g entries left right

  limit_not_apart : (l : Limit) (count : ℕ) → (limit_ending l).status ≡ status.Differ count → ⊥
  limit_not_apart (Big nodes) count e = cc
  limit_not_apart (Deep depth) count e = cc

  apart : (gs : List Goal) (count : ℕ) (text : List ℕ) (stored : Option Stored) (r : Refuted) → IsRightOf th 1 gs g r
      → refuted_ending th g n d r ≡ ending (status.Differ count) text stored → Apart gs count text
  apart gs count text stored (Told_apart ws l m) right e = record {
    counted = right.3;
    told_apart = right.0;
    goal_is = right.1;
    entries = ws;
    left = l;
    right = m;
    differs = right.2;
    count_is = let same : status.Differ (length ws) ≡ status.Differ count = ap (λ x. x.status) e in cc;
    text_is = sym (ap (λ x. x.text) e);
  }
  apart gs count text stored Alike right e = absurd (let never : status.Ok ≡ status.Differ count = ap (λ x. x.status) e in cc)
  apart gs count text stored Spent right e = absurd (let never : status.Spent n d 0 ≡ status.Differ count = ap (λ x. x.status) e in cc)
  apart gs count text stored (Past_limit l) right e = absurd (limit_not_apart l count (ap (λ x. x.status) e))

module _ (th : Theory) (steps derives : ℕ) (blocks : List (List Goal)) where
  pub difference_end : (e : Ending) → DifferEnds th steps derives blocks e → IsDifferenceEnd e
  difference_end e a =
      let x = a.decision in
      subst IsDifferenceEnd a.is (refuted_end th x.goal (steps - x.conclusion.rewrites) (derives - x.conclusion.derives) x.conclusion.refuted)

  pub told_apart : (count : ℕ) (text : List ℕ) (stored : Option Stored) (a : DifferEnds th steps derives blocks (ending (status.Differ count) text stored))
      → Apart th a.decision.goal (steps - a.decision.conclusion.rewrites) (derives - a.decision.conclusion.derives) (goals_in blocks) count text
  told_apart count text stored a =
      let x = a.decision in
      apart th x.goal (steps - x.conclusion.rewrites) (derives - x.conclusion.derives) (goals_in blocks) count text stored x.conclusion.refuted a.right a.is
