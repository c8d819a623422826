-- The uses of Ly for one occurrence: along the places of a special path, or at an instance of a visible derivative.
use Rattle.std.proofs.Common.{◌≡◌, ◌<◌, ℕ, List, [], ◌∷◌, ◌++◌, Some, unwrap_or, refl, ap, sym, ◌∙◌, subst}
use Rattle.std.specs.List.{slice_get}
use Rattle.circ_term.specs.Tree.{Tree, App, sort_of, at, replaced, put_at}
use Rattle.circ_term.specs.Substitution.{instance}
use Rattle.circ_term.proofs.Paths.{replaced_self}
use Rattle.circ_theory.specs.Signature.{IsSubstitution}
use Rattle.circ_theory.specs.Theory.{Derivative, IsVisible}
use Rattle.circ_theory.specs.Experiment.{Fits, derived, on}
use Rattle.circ_theory.proofs.Rewriting.{contains_at}
use Rattle.circ_special.specs.Special.{IsSpecial}
use Rattle.circ_entry.specs.Entries.{Numbered, bare_entries}
use Rattle.circ_expansion.specs.Followed.{goal_in, put_or_same}
use Rattle.circ_expansion.specs.Pieces.{PiecesLead}
use Rattle.circ_expansion.specs.Expand.{Layer, At_place, By_entry, layered, places_on, Background, Call, Expander, base, whole_with}
use Rattle.circ_expansion.proofs.Going.{Goes}
use Rattle.circ_expansion.proofs.Lifting.{places_filled}
use Rattle.circ_expansion.proofs.Standing.{IsFollowed, IsBackground, AreLayers, left_of, right_of, end_of, IsEnd, Stands, IsSound, path_there, end_is}
use Rattle.circ_expansion.proofs.Standing.{whole_below, below_there, places_items}

pub filled_append : (xs ys : List Layer) (t : Tree) → layered (xs ++ ys) t ≡ layered xs (layered ys t)
filled_append [] ys t = refl
filled_append (At_place f s i ts ∷ xs) ys t = ap (λ y. App f s (put_at ts i y)) (filled_append xs ys t)
filled_append (By_entry c ∷ xs) ys t = ap (λ y. derived c.entry.derivative y c.entry.parameters) (filled_append xs ys t)

module _ (f : Background) (fr : IsBackground f) (run : Expander) (depth : ℕ) (so : IsSound f depth run) (c : Call) (x : Tree) (st : Stands f c x)
    (fo : IsFollowed f c.goal) (u v : Tree) (su : sort_of u ≡ sort_of x) (eu : IsEnd f.theory (whole_with c u)) (ev : IsEnd f.theory (whole_with c v)) where
  abbrev along_call : List Layer → Call
  along_call ys = record c { whole = whole_with c u; along = Some ys }

  -- cases 2 and 3
  pub along_leads : (q : List ℕ) → IsSpecial f.places u q → (zs : List Layer) → AreLayers f zs (instance c.by (goal_in c.goal.history).left)
      → at u q ≡ Some (layered zs (instance c.by (goal_in c.goal.history).left))
      → replaced u q (layered zs (instance c.by (goal_in c.goal.history).right)) ≡ Some v
      → (n : ℕ) → n < depth → Goes (λ ys. PiecesLead f.theory c.assumptions ys (whole_with c u) (whole_with c v)) n (run (record c {
        whole = whole_with c u;
        along = Some (places_on u q ++ zs);
      }) n)
  along_leads q sp zs it here made n lt =
      let l = instance c.by (goal_in c.goal.history).left in
      let r = instance c.by (goal_in c.goal.history).right in
      let c1 : Call = along_call (places_on u q ++ zs) in
      let left_is : left_of c1 ≡ u = filled_append (places_on u q) zs l ∙ places_filled q u (layered zs l) (layered zs l) here
      ∙ ap (λ o. unwrap_or o u) (replaced_self q u (layered zs l) here) in
      let right_is : right_of c1 ≡ v = filled_append (places_on u q) zs r ∙ places_filled q u (layered zs l) (layered zs r) here
      ∙ ap (λ o. unwrap_or o u) made in
      let end_same : end_of c1 ≡ whole_with c v =
      ap (λ y. put_or_same (whole_with c u) c.path (on (bare_entries c.entries) y)) right_is ∙ end_is f c x st u v in
      let FB : ℕ → Type 0 = Fits f.theory (bare_entries c.entries) in
      let S : Tree → Type 0 = Stands f c1 in
      let E : Tree → Type 0 = IsEnd f.theory in
      let stands : Stands f c1 u = record {
        by = st.by;
        numbered = st.numbered;
        there = path_there f c x st u;
        fits = subst FB (sym su) st.fits;
        assumptions = st.assumptions;
      } in
      let L : Tree → Type 0 = λ y. Goes (λ ys. PiecesLead f.theory c.assumptions ys (whole_with c u) y) n (run c1 n) in
      subst L end_same
      (so c1 n lt (record {
        followed = fo;
        stands = subst S (sym left_is) stands;
        items = places_items f q u l zs sp it;
        left = eu;
        right = subst E (sym end_same) ev;
      }))

  -- case 1
  pub visible_leads : (q : List ℕ) (e : Numbered) → slice_get f.theory.derivatives e.number ≡ Some e.entry.derivative
      → IsVisible f.theory (sort_of e.entry.derivative.body) → IsSubstitution f.theory.signature e.entry.parameters
      → (xs : List Layer) → AreLayers f xs (instance c.by (goal_in c.goal.history).left)
      → e.entry.derivative.hole ≡ sort_of (layered xs (instance c.by (goal_in c.goal.history).left))
      → at u q ≡ Some (derived e.entry.derivative (layered xs (instance c.by (goal_in c.goal.history).left)) e.entry.parameters)
      → replaced u q (derived e.entry.derivative (layered xs (instance c.by (goal_in c.goal.history).right)) e.entry.parameters) ≡ Some v
      → (n : ℕ) → n < depth
      → Goes (λ ys. PiecesLead f.theory c.assumptions ys (whole_with c u) (whole_with c v)) n (run (record c {
        whole = whole_with c u;
        path = base c ++ q;
        entries = e ∷ [];
        along = Some xs;
      }) n)
  visible_leads q e listed vis ie xs it hole here made n lt =
      let c1 : Call = record c { whole = whole_with c u; path = base c ++ q; entries = e ∷ []; along = Some xs } in
      let d : Derivative = e.entry.derivative in
      let b = derived d (layered xs (instance c.by (goal_in c.goal.history).right)) e.entry.parameters in
      let there = contains_at f.theory.derivatives e.number d listed in
      let end_same : end_of c1 ≡ whole_with c v = ap (λ o. unwrap_or o (whole_with c u)) (whole_below f c x st u v b q made) in
      let E : Tree → Type 0 = IsEnd f.theory in
      let L : Tree → Type 0 = λ y. Goes (λ ys. PiecesLead f.theory c.assumptions ys (whole_with c u) y) n (run c1 n) in
      subst L end_same
      (so c1 n lt (record {
        followed = fo;
        stands = record {
          by = st.by;
          numbered = (listed, fr.well_formed.derivatives d there, tt);
          there = below_there f c x st u (derived d (layered xs (instance c.by (goal_in c.goal.history).left)) e.entry.parameters) q here;
          fits = (there, hole, ie, vis);
          assumptions = st.assumptions;
        };
        items = it;
        left = eu;
        right = subst E (sym end_same) ev;
      }))
