-- All occurrences, from the left.
use Rattle.std.proofs.Common.{◌≡◌, ◌≤◌, ℕ, List, [], ◌∷◌, ap, sym, ◌∙◌, subst, arith}
use Rattle.circ_term.specs.Tree.{Tree, sort_of}
use Rattle.circ_term.specs.Substitution.{Substitution, instance}
use Rattle.circ_theory.specs.Signature.{IsSort, IsWellSorted, IsSubstitution}
use Rattle.circ_theory.proofs.Sorting.{at_sorted, replaced_sorted}
use Rattle.circ_special.specs.Guarded.{Guarded}
use Rattle.circ_expansion.specs.Followed.{goal_in, put_or_same}
use Rattle.circ_expansion.specs.Pieces.{Pieces, no_piece, PiecesLead}
use Rattle.circ_expansion.specs.Expand.{Spending, continued, counted, tested, Layer, layered, Background, Call, Expander, base, whole_with, and_pieces, Case}
use Rattle.circ_expansion.specs.Expand.{guard_case, occurrence_call, occurrence_use, occurrences_written}
use Rattle.circ_expansion.proofs.Going.{Goes, goes_on, goes_counted, goes_tested, goes_all_tested, goes_value}
use Rattle.circ_expansion.proofs.Putting.{put_is}
use Rattle.circ_expansion.proofs.Standing.{IsFollowed, IsBackground, AreLayers, IsEnd, Stands, IsSound, whole_there, whole_sorted}
use Rattle.circ_expansion.proofs.Linking.{Sided, some_more}
use Rattle.circ_expansion.proofs.Casing.{case_holds}
use Rattle.circ_expansion.proofs.Passing.{occurrence_leads}
use Rattle.circ_expansion.proofs.Moving.{Moves}

module _ (f : Background) (fr : IsBackground f) (run : Expander) (depth : ℕ) (so : IsSound f depth run) (c : Call) (x : Tree) (st : Stands f c x)
    (fo : IsFollowed f c.goal)
    (xs : List Layer) (it : AreLayers f xs (instance c.by (goal_in c.goal.history).left)) (σ τ : Substitution) (iσ : IsSubstitution f.theory.signature σ)
    (iτ : IsSubstitution f.theory.signature τ) (s : ℕ) (hs : IsSort f.theory.signature s)
    (ea : σ 0 s ≡ layered xs (instance c.by (goal_in c.goal.history).left)) (eb : τ 0 s ≡ layered xs (instance c.by (goal_in c.goal.history).right))
    (last : Tree) (wl : IsWellSorted f.theory.signature last)
    (guarded : Guarded f.theory f.places last 0 s) where
  pub occurrences_lead : (ps : List (List ℕ)) (u w : Tree) → Moves σ τ 0 s last ps u w → IsEnd f.theory (whole_with c u) → sort_of u ≡ sort_of x
      → (n : ℕ) → n ≤ depth → Goes (Sided f c u w) n (occurrences_written run f c xs (layered xs (instance c.by (goal_in c.goal.history).right)) last ps u n)
  occurrences_lead [] u w mv eu su n le =
      let E : Tree → Type 0 = λ y. IsEnd f.theory (whole_with c y) in
      goes_value (Sided f c u w) n no_piece (record { lead = ap (whole_with c) mv; end = subst E mv eu })
  occurrences_lead (p ∷ ps) u w mv eu su n le =
      let th = f.theory in
      let b : Tree = layered xs (instance c.by (goal_in c.goal.history).right) in
      let v : Tree = mv.0 in
      let ch = mv.1 in
      let first_is : put_or_same u p b ≡ v = ap (put_or_same u p) (sym eb) ∙ put_is p u (τ 0 s) v ch.new in
      let S : Pieces → Type 0 = Sided f c u w in
      let W : Pieces → Type 0 = λ ys. PiecesLead th c.assumptions ys (whole_with c u) (whole_with c v) in
      let rest : Tree → Pieces → ℕ → Spending Pieces = λ y ys k. and_pieces ys (occurrences_written run f c xs b last ps y k) in
      let k : Case = guard_case th f.places last p in
      let step : ℕ → Spending Pieces = λ j. occurrence_use run f k (occurrence_call run f c xs u p k) j in
      let F : Tree → ℕ → Spending Pieces = λ y j. tested y (tested (whole_with c y) (continued (step j) (rest y))) in
      let G : Tree → Type 0 = λ y. Goes S n (counted n (F y)) in
      let wu = at_sorted th (base c) (whole_with c u) u eu.well_sorted (whole_there f c x st u) in
      let a = iσ 0 s hs in
      let z = iτ 0 s hs in
      let kept = replaced_sorted th p u (σ 0 s) (τ 0 s) v wu ch.old (record { well_sorted = z.1; same_sort = z.0 ∙ sym a.0 }) ch.new in
      let whole = whole_sorted f c x st u v eu.well_sorted kept.well_sorted kept.same_sort in
      let is_case = case_holds th fr.well_formed f.places last s p (guarded p ch.variable) in
      goes_all_tested S n (u ∷ whole_with c u ∷ []) (counted n (F (put_or_same u p b)))
      (subst G (sym first_is)
      (goes_counted S n (F v) (λ j lt.
      goes_tested S j v (tested (whole_with c v) (continued (step j) (rest v))) (λ alone.
      goes_tested S j (whole_with c v) (continued (step j) (rest v)) (λ h.
      let ev : IsEnd th (whole_with c v) = record { well_sorted = whole; within = h } in
      goes_on W S j (step j) (rest v)
      (occurrence_leads f fr run depth so c x st fo u v su eu ev xs it σ τ iσ iτ s ea eb last wl p ch k is_case j (omega (arith, lt, le)))
      (λ ys i li lead.
      some_more f fr c st.assumptions ys u v w eu lead i (occurrences_written run f c xs b last ps v i)
      (λ e. occurrences_lead ps v w mv.2 e (kept.same_sort ∙ su) i (omega (arith, li, lt, le)))))))))
