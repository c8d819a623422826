-- The candidates among places, one after another.
use Rattle.std.specs.Prelude.{◌≡◌, ◌≤◌, ◌<◌, ◌+◌, ℕ, List, [], ◌∷◌, ◌++◌, length, drop, Some, None}
use Rattle.std.specs.List.{AllByRecursion}
use Rattle.std.proofs.Common.{get_or, ap, sym, subst, ◌∙◌}
use Rattle.std.proofs.Math.ListN.{drop_of_length-le}
use Rattle.std.proofs.lemmas.List.{map-append, drop_more}
use Rattle.circ_theory.specs.Theory.{Theory}
use Rattle.circ_special.specs.declared.place.Place.{Place}
use Rattle.circ_special.specs.Special.{place}
use Rattle.circ_contexts.specs.Candidates.{AddsKept, IsFound, GivesCandidate, AreCandidates, places_of}
use Rattle.circ_plain_search.specs.Greatest.{IsCandidate}
use Rattle.circ_contexts.specs.declared.candidates.Candidate.{Candidate}
use Rattle.circ_contexts.proofs.Adding.{adds_start, adds_kept, adds_dropped, adds_last}
use Rattle.circ_contexts.proofs.Dropping.{is_candidate}

all_and : {X : Type 0} (P : X → Type 0) (xs : List X) (x : X) → AllByRecursion P xs → P x → AllByRecursion P (xs ++ x ∷ [])
all_and P [] x a p = (p, tt)
all_and P (y ∷ xs) x a p = (a.0, all_and P xs x a.1 p)

module _ (th : Theory) (budget : ℕ) (gs : List Place) where
  -- What is found up to the place of number i.
  pub record Gathered (i : ℕ) (cs : List Candidate) : Type 0 where
    pub kept : AddsKept (IsCandidate th budget) gs (drop i gs) [] (places_of cs)
    pub all : AllByRecursion (IsFound th budget) cs

  pub gather_start : Gathered 0 []
  gather_start = record { kept = adds_start (IsCandidate th budget) gs []; all = tt }

  module _ (i : ℕ) (cs : List Candidate) (within : i < length gs) (st : Gathered i cs) where
    abbrev g : Place
    g = get_or gs i (place 0 0)

    next : drop i gs ≡ g ∷ drop (i + 1) gs
    next = drop_more gs i (place 0 0) within

    pub gather_one : (c : Candidate) → GivesCandidate th budget g (Some c) → Gathered (i + 1) (cs ++ c ∷ [])
    gather_one c h =
        let Q : List Place → Type 0 = λ ps. AddsKept (IsCandidate th budget) gs (drop (i + 1) gs) [] ps in
        let one : places_of (cs ++ c ∷ []) ≡ places_of cs ++ g ∷ []
        = map-append (λ (c : Candidate). c.place) cs (c ∷ []) ∙ ap (λ p. places_of cs ++ p ∷ []) h.0 in
        let is : IsCandidate th budget g = subst (IsCandidate th budget) h.0 (is_candidate th budget c h.1) in
        record {
          kept = subst Q (sym one) (adds_kept (IsCandidate th budget) gs (drop i gs) (drop (i + 1) gs) [] (places_of cs) g next st.kept is);
          all = all_and (IsFound th budget) cs c st.all h.1;
        }

    pub gather_none : GivesCandidate th budget g None → Gathered (i + 1) cs
    gather_none h = record {
      kept = adds_dropped (IsCandidate th budget) gs (drop i gs) (drop (i + 1) gs) [] (places_of cs) g next st.kept h;
      all = st.all;
    }

  pub gather_last : (i : ℕ) (cs : List Candidate) → length gs ≤ i → Gathered i cs → AreCandidates th budget gs cs
  gather_last i cs past st = record {
    kept = adds_last (IsCandidate th budget) gs (drop i gs) (places_of cs) (drop_of_length-le gs past) st.kept;
    found = st.all;
  }
