-- What is made of both sides, and how their chain is closed.
use Rattle.std.proofs.Common.{◌≡◌, ℕ, ◌==◌, length, true, false, List, [], ◌∷◌, ◌++◌, map, Some, Ok, refl, ap, sym, ◌∙◌}
use Rattle.std.proofs.lemmas.List.{append-nil, map-append}
use Rattle.circ_term.specs.Tree.{Tree}
use Rattle.circ_theory.specs.Theory.{Theory, Pair}
use Rattle.circ_proof.specs.Plain.{LinkOf, plain_link, plain_links}
use Rattle.circ_proof.specs.declared.links.Link.{Link}
use Rattle.circ_rewrite.specs.Links.{link_of}
use Rattle.circ_rewrite.specs.Norm.{Normalised, Normal_form}
use Rattle.circ_rewrite.specs.Plain.{Faults}
use Rattle.circ_rewrite.specs.Replacement.{Traced}
use Rattle.circ_rewrite.specs.declared.fault.RewriteFault.{RewriteFault}
use Rattle.circ_rewrite.specs.declared.parts.Rule.{Rule}
use Rattle.circ_conditional_norm.specs.Norm.{conditional_norm}
use Rattle.circ_conditional_norm.specs.Work.{Work, Made, normal_then}
use Rattle.circ_tries.specs.Trying.{Hinders}
use Rattle.circ_tries.proofs.Faulting.{hinders_normal, hinders_same}
use Rattle.circ_plain_search.specs.Joining.{use_link}
use Rattle.circ_plain_search.specs.Search.{Sides, sides_with, chain_with, chained, has_links}
use Rattle.circ_content_join.specs.Moves.{Move, move_link, make_all}
use Rattle.circ_attempt.specs.Attempt.{both_normal, unless_stopped, join_chain}
use Rattle.circ_join.specs.Uses.{plain_uses}
use Rattle.circ_join.specs.declared.uses.HypothesisUse.{HypothesisUse as TheUse}

-- ---- both normal forms

module _ (th : Theory) (R : List Rule) (A : List Pair) (s t : Tree) (k : ℕ) where
  abbrev norm : (budget : ℕ) → Tree → Normalised
  norm = conditional_norm 0 th.signature R A

  abbrev whole : Tree → List Traced → Tree → List Traced → (budget : ℕ) → Work Sides
  whole a ts b us m = Made (sides_with a b (chain_with (map link_of ts) (map link_of us)) m) m

  module _ (a : Tree) (ts : List Traced) (l : ℕ) (first : norm k s ≡ Normal_form a ts l) where
    left_made : both_normal th R A s t k ≡ normal_then (norm l t) (whole a ts)
    left_made = ap (λ o. normal_then o (λ a ts m. normal_then (norm m t) (whole a ts))) first

    pub right_hindered : (e : RewriteFault) (m : ℕ) → Faults e m (norm l t) → Hinders e m (both_normal th R A s t k)
    right_hindered e m h =
        hinders_same e m (both_normal th R A s t k) (normal_then (norm l t) (whole a ts)) left_made (hinders_normal (whole a ts) e m (norm l t) h)

    pub both_made : (b : Tree) (us : List Traced) (m : ℕ) (ls rs : List (LinkOf Tree)) → norm l t ≡ Normal_form b us m → ls ≡ map link_of ts → rs ≡ map link_of us
        → both_normal th R A s t k ≡ Made (sides_with a b (chain_with ls rs) m) m
    both_made b us m ls rs e left right =
        left_made ∙ ap (λ o. normal_then o (whole a ts)) e ∙ ap (λ x. Made (sides_with a b (chain_with x (map link_of us)) m) m) (sym left)
        ∙ ap (λ x. Made (sides_with a b (chain_with ls x) m) m) (sym right)

-- ---- the chain of sides that join

-- the links of the moves are put behind those of the left side
pub closed : (s u : Tree) (ls more new : List (Link Tree)) (rs : List (LinkOf Tree)) (vs : List Move) → make_all s vs ≡ Ok u → plain_links more ≡ map move_link vs
    → new ≡ ls ++ more → join_chain s (chain_with (plain_links ls) rs) vs ≡ Some (chain_with (plain_links new) rs)
closed s u ls more new rs vs made links e =
    let left : plain_links new ≡ plain_links ls ++ map move_link vs = ap plain_links e ∙ map-append plain_link ls more ∙ ap (λ x. plain_links ls ++ x) links in
    ap (λ r. unless_stopped r (chained (chain_with (plain_links ls) rs) (chain_with (map move_link vs) []))) made
    ∙ ap (λ x. Some (chain_with (plain_links ls ++ map move_link vs) x)) (append-nil rs) ∙ ap (λ x. Some (chain_with x rs)) (sym left)
