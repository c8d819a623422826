-- Each use leads to its end, whatever the depth.
use Rattle.std.proofs.Common.{◌≡◌, ◌≤◌, ◌<◌, ℕ, List, [], ◌∷◌, zero, suc, Option, Some, None, refl, sym, subst, arith}
use Rattle.std.specs.Option.{option_map_or}
use Rattle.circ_term.specs.Tree.{Tree, Var, sort_of, at}
use Rattle.circ_term.specs.Substitution.{instance}
use Rattle.circ_term.proofs.Instances.{instance-Var}
use Rattle.circ_theory.specs.Signature.{IsWellSorted}
use Rattle.circ_theory.specs.Theory.{Derivative}
use Rattle.circ_theory.specs.Derivable.{Derivable}
use Rattle.circ_theory.specs.Experiment.{Fits, derived, on}
use Rattle.circ_theory.proofs.Derived.{derived_by}
use Rattle.circ_theory.proofs.Rewriting.{contains_at}
use Rattle.circ_theory.proofs.Sorting.{at_sorted}
use Rattle.circ_proof.proofs.Members.{nothing}
use Rattle.circ_entry.specs.Entries.{Numbered, bare_entries}
use Rattle.circ_expansion.specs.Followed.{goal_in, Followed}
use Rattle.circ_expansion.specs.Pieces.{Pieces, PiecesLead}
use Rattle.circ_expansion.specs.Expand.{hole_path, Layer, At_place, By_entry, layered, Background, Call, Expander, base, ex, ly, single_use, uses}
use Rattle.circ_expansion.proofs.Derives.{pieces_follow}
use Rattle.circ_expansion.proofs.Going.{Goes, goes_counted, goes_tested}
use Rattle.circ_expansion.proofs.Lifting.{AreNumbered, derived_there}
use Rattle.circ_expansion.proofs.Standing.{IsFollowed, IsBackground, end_of, IsEnd, Stands, IsCall, IsSound, base_there, whole_on}
use Rattle.circ_expansion.proofs.Exing.{ex_leads}
use Rattle.circ_expansion.proofs.Placing.{along, through_leads}

module _ (f : Background) (fr : IsBackground f) (run : Expander) (depth : ℕ) (so : IsSound f depth run) where
  none_leads : (c : Call) → IsCall f (along c None) → (n : ℕ) → n ≤ depth
      → Goes (λ xs. PiecesLead f.theory c.assumptions xs c.whole (end_of (along c None))) n (ex run f c c.goal.history c.entries n)
  none_leads c ic n le =
      let st : Stands f c (instance c.by (goal_in c.goal.history).left) =
      record { by = ic.stands.by; numbered = ic.stands.numbered; there = ic.stands.there; fits = ic.stands.fits; assumptions = ic.stands.assumptions } in
      let on_is = whole_on f c (instance c.by (goal_in c.goal.history).left) st (instance c.by (goal_in c.goal.history).right) in
      let E : Tree → Type 0 = IsEnd f.theory in
      let L : Tree → Type 0 = λ y. Goes (λ xs. PiecesLead f.theory c.assumptions xs c.whole y) n (ex run f c c.goal.history c.entries n) in
      subst L on_is (ex_leads f fr run depth so c c.goal.history ic.followed c.entries refl st ic.left (subst E (sym on_is) ic.right) n le)

  entry_leads : (c : Call) (e : Numbered) (ys : List Layer) → IsCall f (along c (Some (By_entry e ∷ ys))) → (n : ℕ) → n < depth
      → Goes (λ xs. PiecesLead f.theory c.assumptions xs c.whole (end_of (along c (Some (By_entry e ∷ ys))))) n (run (record c {
        entries = e ∷ c.entries;
        along = Some ys;
      }) n)
  entry_leads c e ys ic n lt =
      let th = f.theory in
      let sig = th.signature in
      let d : Derivative = e.entry.derivative in
      let q = e.entry.parameters in
      let t : Tree = layered ys (instance c.by (goal_in c.goal.history).left) in
      let listed = contains_at th.derivatives e.number d ic.items.0 in
      let der = fr.well_formed.derivatives d listed in
      let st : Stands f c (derived d t q) =
      record { by = ic.stands.by; numbered = ic.stands.numbered; there = ic.stands.there; fits = ic.stands.fits; assumptions = ic.stands.assumptions } in
      let num : AreNumbered th (e ∷ c.entries) = (ic.items.0, der, ic.stands.numbered) in
      let deep : IsWellSorted sig (derived d t q) = at_sorted th (base c) c.whole (derived d t q) ic.left.well_sorted (base_there f c (derived d t q) st) in
      let wt : IsWellSorted sig t = at_sorted th (hole_path d) (derived d t q) t deep (derived_there sig d der t q) in
      let body = derived_by sig d t q der (sym ic.items.2) wt ic.items.1 in
      let FB : ℕ → Type 0 = Fits th (bare_entries c.entries) in
      let fits : Fits th (bare_entries (e ∷ c.entries)) (sort_of t) = (listed, ic.items.2, ic.items.1, subst FB body.same_sort ic.stands.fits) in
      so (record c { entries = e ∷ c.entries; along = Some ys }) n lt
      (record {
        followed = ic.followed;
        stands = record { by = ic.stands.by; numbered = num; there = ic.stands.there; fits = fits; assumptions = ic.stands.assumptions };
        items = ic.items.3;
        left = ic.left;
        right = ic.right;
      })

  some_leads : (c : Call) (ys : List Layer) → IsCall f (along c (Some ys)) → (n : ℕ) → n ≤ depth
      → Goes (λ xs. PiecesLead f.theory c.assumptions xs c.whole (end_of (along c (Some ys)))) n (ly run f c ys n)
  some_leads c [] ia n le =
      goes_counted (λ xs. PiecesLead f.theory c.assumptions xs c.whole (end_of (along c None))) n (run (along c None)) (λ k lt.
      so (along c None) k (omega (arith, lt, le)) (record {
        followed = ia.followed;
        stands = record {
          by = ia.stands.by;
          numbered = ia.stands.numbered;
          there = ia.stands.there;
          fits = ia.stands.fits;
          assumptions = ia.stands.assumptions;
        };
        items = tt;
        left = ia.left;
        right = ia.right;
      }))
  some_leads c (By_entry e ∷ ys) ia n le =
      goes_counted (λ xs. PiecesLead f.theory c.assumptions xs c.whole (end_of (along c (Some (By_entry e ∷ ys))))) n
      (run (record c { entries = e ∷ c.entries; along = Some ys })) (λ k lt.
      entry_leads c e ys ia k (omega (arith, lt, le)))
  some_leads c (At_place h s i ts ∷ ys) ia n le = through_leads f fr run depth so c h s i ts ys ia c.entries refl n le

  pub one_use_sound : (c : Call) (n : ℕ) → n ≤ depth → IsCall f c
      → Goes (λ xs. PiecesLead f.theory c.assumptions xs c.whole (end_of c)) n (single_use run f c n)
  one_use_sound c n le ic =
      goes_tested (λ xs. PiecesLead f.theory c.assumptions xs c.whole (end_of c)) n c.whole
      (option_map_or (λ ys. ly run f c ys n) c.along (ex run f c c.goal.history c.entries n)) (λ h. go c.along refl)
    where
      W : Option (List Layer) → Type 0
      W o = Goes (λ xs. PiecesLead f.theory c.assumptions xs c.whole (end_of (along c o))) n
          (option_map_or (λ ys. ly run f c ys n) o (ex run f c c.goal.history c.entries n))

      go : (o : Option (List Layer)) → c.along ≡ o → W c.along
      go None e =
          let C : Option (List Layer) → Type 0 = λ o. IsCall f (along c o) in
          subst W (sym e) (none_leads c (subst C e ic) n le)
      go (Some ys) e =
          let C : Option (List Layer) → Type 0 = λ o. IsCall f (along c o) in
          subst W (sym e) (some_leads c ys (subst C e ic) n le)

-- by the depth
pub uses_sound : (f : Background) → IsBackground f → (k : ℕ) → IsSound f k (uses k f)
uses_sound f fr zero c n lt ic = absurd (omega (arith, lt))
uses_sound f fr (suc k) c n lt ic = one_use_sound f fr (uses k f) k (uses_sound f fr k) c n (omega (arith, lt)) ic

-- A goal as it is followed, in a fitting experiment, with a budget: what is given leads from the one whole term to the other.
abbrev pub whole_call : Followed → List Numbered → Call
whole_call g cs = record {
  whole = on (bare_entries cs) (goal_in g.history).left;
  path = [];
  entries = cs;
  along = None;
  goal = g;
  by = Var;
  assumptions = [];
}

pub expanded_leads : (f : Background) → IsBackground f → (g : Followed) → IsFollowed f g → (cs : List Numbered) → AreNumbered f.theory cs
    → Fits f.theory (bare_entries cs) (sort_of (goal_in g.history).left)
    → IsEnd f.theory (on (bare_entries cs) (goal_in g.history).left) → IsEnd f.theory (on (bare_entries cs) (goal_in g.history).right)
    → (k n : ℕ) → n < k
    → Goes (λ xs. PiecesLead f.theory [] xs (on (bare_entries cs) (goal_in g.history).left) (on (bare_entries cs) (goal_in g.history).right)) n
    (uses k f (whole_call g cs) n)
expanded_leads f fr g fo cs num fit el er k n lt =
    let th = f.theory in
    let s = (goal_in g.history).left in
    let t = (goal_in g.history).right in
    let S : Tree → Type 0 = λ y. at (on (bare_entries cs) s) [] ≡ Some (on (bare_entries cs) y) in
    let F : Tree → Type 0 = λ y. Fits th (bare_entries cs) (sort_of y) in
    let E : Tree → Type 0 = λ y. IsEnd th (on (bare_entries cs) y) in
    let L : Tree → Type 0 = λ y. Goes (λ xs. PiecesLead th [] xs (on (bare_entries cs) s) (on (bare_entries cs) y)) n (uses k f (whole_call g cs) n) in
    subst L (instance-Var t)
    (uses_sound f fr k (whole_call g cs) n lt
    (record {
      followed = fo;
      stands = record {
        by = λ i r h. (refl, h);
        numbered = num;
        there = subst S (sym (instance-Var s)) refl;
        fits = subst F (sym (instance-Var s)) fit;
        assumptions = λ p c. nothing p c;
      };
      items = tt;
      left = el;
      right = subst E (sym (instance-Var t)) er;
    }))

-- so the two are derivable from one another
pub expanded_derivable : (f : Background) → IsBackground f → (s t : Tree) → IsEnd f.theory s → (xs : Pieces) → PiecesLead f.theory [] xs s t
    → Derivable f.theory [] s t
expanded_derivable f fr s t el xs l = (pieces_follow f.theory fr.well_formed [] (λ p c. nothing p c) xs s t el.well_sorted l).derivable
