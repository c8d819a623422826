-- Simplify puts a goal in the first one's place.
use Rattle.std.specs.Prelude.{◌≡◌, ◌<◌, List, [], ◌∷◌, drop, length, slice_set, None, refl}
use Rattle.std.proofs.Common.{ap, sym, subst, arith, get_or}
use Rattle.circ_term.specs.Tree.{Tree}
use Rattle.circ_theory.specs.Theory.{Theory, Pair, goal, sides, IsWellSortedPair, IsWellSortedGoal}
use Rattle.circ_theory.specs.Goal.{Goal}
use Rattle.circ_special.specs.declared.place.Place.{Place}
use Rattle.circ_proof.specs.Plain.{ChainOf}
use Rattle.circ_proof.specs.Goals.{AreSortedGoals}
use Rattle.circ_proof.specs.Link.{setting, Leads}
use Rattle.circ_proof.specs.Justified.{ChainLeads}
use Rattle.circ_replay.specs.Following.{FollowsChain}
use Rattle.circ_proof.specs.Rules.{State, state, Simplify, StepOn, IsSortedState}
use Rattle.circ_rules.specs.Simplifying.{put_sides_on}
use Rattle.circ_proof.proofs.Sorted.{sorted_more, sorted_first, sorted_rest}

-- the chain leads from the first goal to q
pub simplifies : (th : Theory) (G : List Place) (chain : ChainOf Tree) (H gs : List Goal) (first : Goal) (q : Pair) → 0 < length gs → first ≡ get_or gs 0 first
    → ChainLeads (Leads (setting th G H first.conds)) chain (sides first) q → StepOn th G (Simplify chain) H gs (put_sides_on H gs q)
simplifies th G chain H [] first q h e leads = absurd (omega arith)
simplifies th G chain H (g ∷ gs) first q h e leads =
    let P : Goal → Type 0 = λ x. ChainLeads (Leads (setting th G H x.conds)) chain (sides x) q in
    (q, subst P e leads, refl)

-- it leads to none
pub none_simplifies : (th : Theory) (G : List Place) (chain : ChainOf Tree) (H gs : List Goal) (first : Goal) → first ≡ get_or gs 0 first
    → FollowsChain (setting th G H first.conds) chain (sides first) None → (b : State) → StepOn th G (Simplify chain) H gs b → ⊥
none_simplifies th G chain H [] first e none b r = r
none_simplifies th G chain H (g ∷ gs) first e none b r =
    let P : Goal → Type 0 = λ x. ChainLeads (Leads (setting th G H x.conds)) chain (sides x) r.0 in
    none r.0 (subst P (sym e) r.1)

-- the first of well-sorted goals, and those behind it

pub front_sorted : (th : Theory) (gs : List Goal) (first : Goal) → 0 < length gs → first ≡ get_or gs 0 first → AreSortedGoals th gs → IsWellSortedGoal th first
front_sorted th [] first h e a = absurd (omega arith)
front_sorted th (g ∷ gs) first h e a = let P : Goal → Type 0 = IsWellSortedGoal th in subst P (sym e) (sorted_first th g gs a)
