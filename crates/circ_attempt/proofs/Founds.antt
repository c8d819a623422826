-- A search finds one thing, it cannot find nothing, and what it finds to be proved is a proof of the given goals.
use Rattle.std.proofs.Common.{◌≡◌, List, [], ◌∷◌, map, refl, ap, sym, subst, ◌∙◌}
use Rattle.std.specs.List.{AllByRecursion}
use Rattle.circ_theory.specs.Theory.{Theory}
use Rattle.circ_theory.specs.WellFormed.{IsWellFormed}
use Rattle.circ_theory.specs.Goal.{Goal}
use Rattle.circ_special.specs.declared.place.Place.{Place}
use Rattle.circ_proof.specs.Proof.{Proof}
use Rattle.circ_rewrite.specs.Links.{link_of}
use Rattle.circ_plain_search.specs.Numbering.{Found, Proved, Special, special}
use Rattle.circ_plain_search.specs.PlainSearch.{IsProofOf}
use Rattle.circ_plain_search.specs.Search.{Ending, All_done, Is_stuck, Is_spent, Is_too_big, Is_too_deep}
use Rattle.circ_plain_search.proofs.Existing.{some_set}
use Rattle.circ_plain_search.proofs.Unique.{one_set}
use Rattle.circ_conditional_search.specs.ConditionalSearch.{CanAllBeSearched}
use Rattle.circ_conditional_search.specs.Versions.{versioned_found}
use Rattle.circ_conditional_search.proofs.Accepting.{IsGivenBlock, whole_found, blocks_given, fine_blocks}
use Rattle.circ_conditional_search.proofs.Certificates.{IsCertifiedSet, greatest_certified}
use Rattle.circ_attempt.specs.RewritingSearch.{RewritingSearch, first_going}
use Rattle.circ_attempt.specs.Search.{Conduct, FinishesRewriting}
use Rattle.circ_attempt.proofs.Answers.{one_ending, some_ending}
use Rattle.circ_attempt.proofs.Ends.{search_whole}

pub one_found : (th : Theory) (blocks : List (List Goal)) (l : Conduct) (f g : Found) → RewritingSearch th blocks l f → RewritingSearch th blocks l g → f ≡ g
one_found th blocks l f g s t =
    let same = one_set th l.manner.limits.steps s.places t.places s.traces t.traces s.greatest t.greatest in
    let P : List Place → Type 0 = λ G. FinishesRewriting th G l (first_going l blocks) s.ending in
    let ending = one_ending th t.places l (first_going l blocks) s.ending t.ending (subst P same.0 s.run) t.run in
    s.is ∙ ap (λ G. versioned_found (special G (map (map link_of) s.traces)) s.ending) same.0
    ∙ ap (λ ts. versioned_found (special t.places (map (map link_of) ts)) s.ending) same.1
    ∙ ap (versioned_found (special t.places (map (map link_of) t.traces))) ending ∙ sym t.is

pub some_found : (th : Theory) (blocks : List (List Goal)) (l : Conduct) → ((f : Found) → RewritingSearch th blocks l f → ⊥) → ⊥
some_found th blocks l none =
    some_set th l.manner.limits.steps
    (λ G tss g.
    let e = some_ending th G l (first_going l blocks) in
    none (versioned_found (special G (map (map link_of) tss)) e.0)
    (record { places = G; traces = tss; greatest = g; ending = e.0; run = e.1; is = refl }))

module _ (th : Theory) (wf : IsWellFormed th) (s : Special) (set : IsCertifiedSet th s.places s.certificates) (l : Conduct) (b : List Goal) (bs : List (List Goal))
    (given : AllByRecursion (IsGivenBlock th) (b ∷ bs)) (p : Proof) where
  ended_found : (e : Ending) → FinishesRewriting th s.places l (first_going l (b ∷ bs)) e → versioned_found s e ≡ Proved p → IsProofOf th (b ∷ bs) p
  ended_found (All_done found d n x) r e =
      let fine = fine_blocks th (b ∷ bs) given in
      whole_found th wf s set l.manner b bs given p found d n x (search_whole th wf s.places l b bs fine.0 fine.1 found d n x r) e
  ended_found (Is_stuck k g t u A) r e = absurd (cc)
  ended_found (Is_spent i j k) r e = absurd (cc)
  ended_found (Is_too_big n) r e = absurd (cc)
  ended_found (Is_too_deep n) r e = absurd (cc)

pub proved_accepted : (th : Theory) → IsWellFormed th → (blocks : List (List Goal)) → CanAllBeSearched th blocks → (l : Conduct) (p : Proof)
    → RewritingSearch th blocks l (Proved p) → IsProofOf th blocks p
proved_accepted th wf blocks a l p s = go blocks a s
  where
    go : (bs : List (List Goal)) → CanAllBeSearched th bs → RewritingSearch th bs l (Proved p) → IsProofOf th bs p
    go [] a s = absurd (a.some_block refl)
    go (b ∷ bs) a s =
        ended_found th wf (record { places = s.places; certificates = map (map link_of) s.traces })
        (greatest_certified th wf l.manner.limits.steps s.places s.traces s.greatest) l b bs (blocks_given th (b ∷ bs) a.some_goal a.goals) p s.ending s.run (sym s.is)
