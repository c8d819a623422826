-- One occurrence, by its case.
use Rattle.std.proofs.Common.{◌≡◌, ◌<◌, ℕ, List, [], ◌∷◌, ◌++◌, Some, unwrap_or, ap, sym, ◌∙◌, subst}
use Rattle.circ_term.specs.Tree.{Tree, sort_of, at, replaced}
use Rattle.circ_term.specs.Substitution.{Substitution, instance}
use Rattle.circ_theory.specs.Signature.{IsWellSorted, IsSubstitution}
use Rattle.circ_theory.specs.Theory.{Derivative, IsVisible}
use Rattle.circ_theory.specs.Experiment.{derived}
use Rattle.circ_theory.proofs.Casing.{hidden_tells}
use Rattle.circ_theory.proofs.Rewriting.{contains_at}
use Rattle.circ_theory.proofs.Sorting.{at_sorted}
use Rattle.circ_rewrite.specs.Matching.{matching}
use Rattle.circ_soundness.proofs.Filling.{fills_special}
use Rattle.circ_soundness.proofs.Changing.{Changes, Mixed}
use Rattle.circ_entry.specs.Entries.{Numbered, derivative_at, no_derivative}
use Rattle.circ_expansion.specs.Followed.{goal_in}
use Rattle.circ_expansion.specs.Pieces.{Pieces, PiecesLead}
use Rattle.circ_expansion.specs.Expand.{Layer, By_entry, layered, places_on, Background, Call, Expander, base, whole_with, Case, Visible_case, Place_case}
use Rattle.circ_expansion.specs.Expand.{Hidden_case, No_case, occurrence_call, occurrence_use}
use Rattle.circ_expansion.proofs.Going.{Goes}
use Rattle.circ_expansion.proofs.Standing.{IsFollowed, IsBackground, AreLayers, IsEnd, Stands, IsSound, whole_there}
use Rattle.circ_expansion.proofs.Casing.{above_sort, stood, IsCase}
use Rattle.circ_expansion.proofs.Occurring.{along_leads, visible_leads}

module _ (f : Background) (fr : IsBackground f) (run : Expander) (depth : ℕ) (so : IsSound f depth run) (c : Call) (x : Tree) (st : Stands f c x)
    (fo : IsFollowed f c.goal) (u v : Tree) (su : sort_of u ≡ sort_of x) (eu : IsEnd f.theory (whole_with c u)) (ev : IsEnd f.theory (whole_with c v))
    (xs : List Layer) (it : AreLayers f xs (instance c.by (goal_in c.goal.history).left)) (σ τ : Substitution) (iσ : IsSubstitution f.theory.signature σ)
    (iτ : IsSubstitution f.theory.signature τ) (s : ℕ)
    (ea : σ 0 s ≡ layered xs (instance c.by (goal_in c.goal.history).left)) (eb : τ 0 s ≡ layered xs (instance c.by (goal_in c.goal.history).right))
    (last : Tree) (wl : IsWellSorted f.theory.signature last) (p : List ℕ) (ch : Changes σ τ 0 s last p u v) where
  wu : IsWellSorted f.theory.signature u
  wu = at_sorted f.theory (base c) (whole_with c u) u eu.well_sorted (whole_there f c x st u)

  -- the change, at the hole's sort of the derivative
  abbrev change : (d : Derivative) → d.hole ≡ s → Changes σ τ 0 d.hole last p u v
  change d h = let P : ℕ → Type 0 = λ r. Changes σ τ 0 r last p u v in subst P (sym h) ch

  pub occurrence_leads : (k : Case) → IsCase f.theory f.places last p k → (n : ℕ) → n < depth
      → Goes (λ ys. PiecesLead f.theory c.assumptions ys (whole_with c u) (whole_with c v)) n (occurrence_use run f k (occurrence_call run f c xs u p k) n)
  occurrence_leads No_case i n lt = absurd i
  occurrence_leads Place_case i n lt =
      along_leads f fr run depth so c x st fo u v su eu ev p (fills_special (Mixed σ τ) f.places p last u ch.mixed i) xs it (ch.old
      ∙ ap Some ea) (ap (replaced u p) (sym eb) ∙ ch.new) n lt
  occurrence_leads (Visible_case k q) i n lt =
      let th = f.theory in
      let d : Derivative = i.0 in
      let l = contains_at th.derivatives k d i.1 in
      let h = above_sort th fr.well_formed d l last p q i.3 s ch.variable in
      let r = stood th fr.well_formed d l σ τ iσ iτ last u v p q wl (change d h) i.3 wu in
      let fa : σ 0 d.hole ≡ layered xs (instance c.by (goal_in c.goal.history).left) = ap (σ 0) h ∙ ea in
      let fb : τ 0 d.hole ≡ layered xs (instance c.by (goal_in c.goal.history).right) = ap (τ 0) h ∙ eb in
      let hole : d.hole ≡ sort_of (layered xs (instance c.by (goal_in c.goal.history).left)) =
      sym (iσ 0 d.hole (fr.well_formed.derivatives d l).hole).0 ∙ ap sort_of fa in
      let is_d : derivative_at th k ≡ d = ap (λ o. unwrap_or o no_derivative) i.1 in
      let is_part : unwrap_or (at u q) u ≡ r.0 = ap (λ o. unwrap_or o u) r.1.there in
      let call : Derivative → Tree → Call =
      λ b y. record c {
        whole = whole_with c u;
        path = base c ++ q;
        entries = record {
          number = k;
          entry = record {
            derivative = b;
            parameters = matching b.body y;
          };
        } ∷ [];
        along = Some xs;
      } in
      let W : Pieces → Type 0 = λ ys. PiecesLead th c.assumptions ys (whole_with c u) (whole_with c v) in
      let R : Derivative → Type 0 = λ b. Goes W n (run (call b (unwrap_or (at u q) u)) n) in
      let T : Tree → Type 0 = λ y. Goes W n (run (call d y) n) in
      let vis : IsVisible th (sort_of d.body) = λ hid. absurd (let z = (hidden_tells th (sort_of d.body)).1 hid in let w = i.2 in cc) in
      subst R (sym is_d) (subst T (sym is_part)
      (visible_leads f fr run depth so c x st fo u v su eu ev q (record {
        number = k;
        entry = record {
          derivative = d;
          parameters = matching d.body r.0;
        };
      }) i.1 vis r.1.sorted xs it hole
      (r.1.there ∙ ap Some r.1.is ∙ ap (λ y. Some (derived d y (matching d.body r.0))) fa)
      (ap (λ y. replaced u q (derived d y (matching d.body r.0))) (sym fb) ∙ r.1.made) n lt))
  occurrence_leads (Hidden_case k q) i n lt =
      let th = f.theory in
      let d : Derivative = i.0 in
      let l = contains_at th.derivatives k d i.1 in
      let h = above_sort th fr.well_formed d l last p q i.2 s ch.variable in
      let r = stood th fr.well_formed d l σ τ iσ iτ last u v p q wl (change d h) i.2 wu in
      let fa : σ 0 d.hole ≡ layered xs (instance c.by (goal_in c.goal.history).left) = ap (σ 0) h ∙ ea in
      let fb : τ 0 d.hole ≡ layered xs (instance c.by (goal_in c.goal.history).right) = ap (τ 0) h ∙ eb in
      let hole : d.hole ≡ sort_of (layered xs (instance c.by (goal_in c.goal.history).left)) =
      sym (iσ 0 d.hole (fr.well_formed.derivatives d l).hole).0 ∙ ap sort_of fa in
      let is_d : derivative_at th k ≡ d = ap (λ o. unwrap_or o no_derivative) i.1 in
      let is_part : unwrap_or (at u q) u ≡ r.0 = ap (λ o. unwrap_or o u) r.1.there in
      let entry : Derivative → Tree → Numbered = λ b y. record { number = k; entry = record { derivative = b; parameters = matching b.body y } } in
      let call : Derivative → Tree → Call = λ b y. record c { whole = whole_with c u; along = Some (places_on u q ++ By_entry (entry b y) ∷ xs) } in
      let W : Pieces → Type 0 = λ ys. PiecesLead th c.assumptions ys (whole_with c u) (whole_with c v) in
      let R : Derivative → Type 0 = λ b. Goes W n (run (call b (unwrap_or (at u q) u)) n) in
      let T : Tree → Type 0 = λ y. Goes W n (run (call d y) n) in
      subst R (sym is_d) (subst T (sym is_part)
      (along_leads f fr run depth so c x st fo u v su eu ev q (fills_special (Mixed σ τ) f.places q last u ch.mixed i.3) (By_entry (entry d r.0) ∷ xs)
      (i.1, r.1.sorted, hole, it)
      (r.1.there ∙ ap Some r.1.is ∙ ap (λ y. Some (derived d y (matching d.body r.0))) fa)
      (ap (λ y. replaced u q (derived d y (matching d.body r.0))) (sym fb) ∙ r.1.made) n lt))
