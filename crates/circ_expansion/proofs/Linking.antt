-- The links of one side lead from the whole term round one instance to that round the other.
use Rattle.std.proofs.Common.{◌≡◌, ◌≤◌, ◌<◌, ℕ, ◌+◌, List, [], ◌∷◌, ◌++◌, zero, suc, Bool, true, false, if◌then◌else◌, map, Some, None, unwrap_or, refl}
use Rattle.std.proofs.Common.{IsTrue, ◌↔◌, ap, sym, ◌∙◌, subst, arith, append-nil}
use Rattle.std.specs.List.{slice_get, AllByRecursion, Contains}
use Rattle.std.proofs.lemmas.Option.{same_Some}
use Rattle.circ_term.specs.Tree.{Tree, sort_of, at, replaced}
use Rattle.circ_term.specs.Limits.{IsWithinLimits}
use Rattle.circ_term.specs.Substitution.{Substitution, instance}
use Rattle.circ_term.proofs.Paths.{at_instance, replaced_instance, at_replaced, replaced_self}
use Rattle.circ_theory.specs.Signature.{IsWellSorted, IsSubstitution}
use Rattle.circ_theory.specs.Theory.{Pair, sides, goal_of, instance_pair, IsHidden, IsVisible, IsWellSortedPair, AreWellSortedPairs}
use Rattle.circ_theory.specs.Variables.{variables_of, sorted}
use Rattle.circ_theory.specs.Experiment.{Fits, on}
use Rattle.circ_theory.specs.Observing.{is_hidden}
use Rattle.circ_theory.specs.Rewriting.{from_side, to_side, by_terms, Replaces, RewritesBy}
use Rattle.circ_theory.specs.Goal.{Goal}
use Rattle.circ_theory.specs.declared.way.Way.{Way}
use Rattle.circ_theory.specs.declared.way.Way.TheVariants.{Forth, Back}
use Rattle.circ_theory.proofs.Casing.{hidden_tells}
use Rattle.circ_theory.proofs.Instances.{sort_of-instance_by, instance_well_sorted}
use Rattle.circ_theory.proofs.Rewriting.{given_substitution}
use Rattle.circ_theory.proofs.Sorting.{at_sorted}
use Rattle.circ_special.specs.Special.{IsSpecial}
use Rattle.circ_proof.specs.Plain.{LinkOf, ChainsOf, Equation_link, Hypothesis_link, Assumption_link, Content_link, no_chain}
use Rattle.circ_proof.specs.Runs.{Runs}
use Rattle.circ_proof.specs.Link.{setting, Leads, ConditionsLead, AllOfLink, AllOfLinks}
use Rattle.circ_proof.proofs.Leading.{IsSortedSetting, link_sorted}
use Rattle.circ_soundness.proofs.Agreeing.{special_instance}
use Rattle.circ_entry.specs.Entries.{bare_entries}
use Rattle.circ_expansion.specs.Followed.{goal_in, Followed, put_or_same, led}
use Rattle.circ_expansion.specs.Pieces.{Piece, Pieces, Equation_piece, Content_piece, Assumption_piece, no_piece, more_pieces, pieces_joined, turned, PieceLeads}
use Rattle.circ_expansion.specs.Pieces.{PiecesLead}
use Rattle.circ_expansion.specs.Expand.{Spending, Yields, continued, counted, tested, all_tested, places_on, Background, Call, Expander, base, whole_with}
use Rattle.circ_expansion.specs.Expand.{around, and_piece, and_pieces, by_way, start_of, followed_at, followed_goals, Basis, link_setting, bounds_of}
use Rattle.circ_expansion.specs.Expand.{hypothesis_call, links_written, stood, link_terms}
use Rattle.circ_expansion.proofs.Going.{Goes, goes_so, goes_on, goes_counted, goes_tested, goes_all_tested, goes_value}
use Rattle.circ_expansion.proofs.Putting.{put_is, replaced_back}
use Rattle.circ_expansion.proofs.Derives.{piece_follows, piece_within, pieces_follow, joined_lead, pieces_within, pieces_turned}
use Rattle.circ_expansion.proofs.Lifting.{fit_after, values_sorted, instance_from, instance_to, places_filled, bounds_sorted, bounds_first, bounds_second}
use Rattle.circ_expansion.proofs.Led.{link_led}
use Rattle.circ_expansion.proofs.Plainness.{AreBare, none_due}
use Rattle.circ_expansion.proofs.Standing.{block_hypotheses, setting_in, history_sorted, goals_sorted, IsFollowed, AreFollowed, IsBackground, AreLayers, left_of}
use Rattle.circ_expansion.proofs.Standing.{right_of, end_of, IsEnd, Stands, IsCall, IsSound, whole_below, below_there, path_there, end_is, whole_sorted}
use Rattle.circ_expansion.proofs.Standing.{places_items}

-- the pieces lead from the whole term round one term to that round another, which is an end
pub record Sided (f : Background) (c : Call) (here u : Tree) (xs : Pieces) : Type 0 where
  pub lead : PiecesLead f.theory c.assumptions xs (whole_with c here) (whole_with c u)
  pub end : IsEnd f.theory (whole_with c u)

-- the proof's assumptions, under the substitution, stand after the first ones of the tree
pub record IsBasis (f : Background) (c : Call) (b : Basis) : Type 0 where
  pub followed : AreFollowed f b.hypotheses
  pub sorted : AreWellSortedPairs f.theory.signature b.assumptions
  pub raised : (n : ℕ) (p : Pair) → slice_get b.assumptions n ≡ Some p → slice_get c.assumptions (b.raised + n) ≡ Some (instance_pair c.by p)

pub basis_setting : (f : Background) → IsBackground f → (c : Call) (b : Basis) → IsBasis f c b → IsSortedSetting (link_setting f b)
basis_setting f fr c b ib = record { well_formed = fr.well_formed; hypotheses = goals_sorted f b.hypotheses ib.followed; assumptions = ib.sorted }

-- a piece, and then those of the other links
one_more : (f : Background) → IsBackground f → (c : Call) → AreWellSortedPairs f.theory.signature c.assumptions → (x : Piece) (here m u : Tree)
    → IsEnd f.theory (whole_with c here)
    → PieceLeads f.theory c.assumptions x (whole_with c here) (whole_with c m) → (n : ℕ) (o : Spending Pieces)
    → (IsEnd f.theory (whole_with c m) → Goes (Sided f c m u) n o)
    → Goes (Sided f c here u) n (and_piece x o)
one_more f fr c sa x here m u e l n o rest =
    let k = piece_follows f.theory fr.well_formed c.assumptions sa x (whole_with c here) (whole_with c m) e.well_sorted l in
    let w = piece_within f.theory fr.well_formed c.assumptions x (whole_with c here) (whole_with c m) l e.within in
    goes_on (Sided f c m u) (Sided f c here u) n o (λ r j. Yields (more_pieces x r) j) (rest (record { well_sorted = k.well_sorted; within = w }))
    (λ r j le g. goes_value (Sided f c here u) j (more_pieces x r) (record { lead = (whole_with c m, l, g.lead); end = g.end }))

pub some_more : (f : Background) → IsBackground f → (c : Call) → AreWellSortedPairs f.theory.signature c.assumptions → (ys : Pieces) (here m u : Tree)
    → IsEnd f.theory (whole_with c here)
    → PiecesLead f.theory c.assumptions ys (whole_with c here) (whole_with c m) → (n : ℕ) (o : Spending Pieces)
    → (IsEnd f.theory (whole_with c m) → Goes (Sided f c m u) n o)
    → Goes (Sided f c here u) n (and_pieces ys o)
some_more f fr c sa ys here m u e l n o rest =
    let k = pieces_follow f.theory fr.well_formed c.assumptions sa ys (whole_with c here) (whole_with c m) e.well_sorted l in
    let w = pieces_within f.theory fr.well_formed c.assumptions ys (whole_with c here) (whole_with c m) l e.within in
    goes_on (Sided f c m u) (Sided f c here u) n o (λ r j. Yields (pieces_joined ys r) j) (rest (record { well_sorted = k.well_sorted; within = w }))
    (λ r j le g. goes_value (Sided f c here u) j (pieces_joined ys r)
    (record { lead = joined_lead f.theory c.assumptions ys r (whole_with c here) (whole_with c m) (whole_with c u) l g.lead; end = g.end }))

-- ---- the use of a hypothesis

-- the hypothesis of a number, as it is followed
hypothesis_is : (hs : List Followed) (n : ℕ) (g : Goal) → slice_get (followed_goals hs) n ≡ Some g
    → (goal_in (followed_at hs n).history ≡ g) × Contains hs (followed_at hs n)
hypothesis_is [] n g e = absurd (cc)
hypothesis_is (h ∷ hs) zero g e = (same_Some (goal_in h.history) g e, (zero, omega arith, refl))
hypothesis_is (h ∷ hs) (suc n) g e = let r = hypothesis_is hs n g e in (r.0, (suc r.1.0, omega (arith, r.1.1), r.1.2))

-- what a use of a hypothesis gives, in its way
module _ (f : Background) (fr : IsBackground f) (run : Expander) (d : ℕ) (so : IsSound f d run) (c : Call) (x : Tree) (st : Stands f c x) (h : Followed)
    (fo : IsFollowed f h) (path : List ℕ) (t u : Tree) (τ : Substitution) (iτ : IsSubstitution f.theory.signature τ) where
  abbrev here : Tree
  here = instance c.by t

  abbrev there : Tree
  there = instance c.by u

  abbrev hyp : Pair
  hyp = sides (goal_in h.history)

  sorted_hyp : IsWellSortedPair f.theory.signature hyp
  sorted_hyp = history_sorted (setting_in f (block_hypotheses f h.block)) h.history fo

  abbrev along : Tree → Call
  along w = record c { whole = w; along = Some (places_on here path); goal = h; by = τ }

  abbrev straight : Tree → Call
  straight w = record c { whole = w; path = base c ++ path; entries = []; along = None; goal = h; by = τ }

  hidden_call : (a y z : Tree) → at here path ≡ Some a → put_or_same here path (instance τ hyp.left) ≡ y → put_or_same here path (instance τ hyp.right) ≡ z
      → sort_of y ≡ sort_of x → IsSpecial f.places here path
      → IsEnd f.theory (whole_with c y) → IsEnd f.theory (whole_with c z) → (n : ℕ) → n < d
      → Goes (λ xs. PiecesLead f.theory c.assumptions xs (whole_with c y) (whole_with c z)) n (run (along (whole_with c y)) n)
  hidden_call a y z e ey ez sy special endy endz n lt =
      let left_is : left_of (along (whole_with c y)) ≡ y = places_filled path here a (instance τ hyp.left) e ∙ ey in
      let right_is : right_of (along (whole_with c y)) ≡ z = places_filled path here a (instance τ hyp.right) e ∙ ez in
      let end_same : end_of (along (whole_with c y)) ≡ whole_with c z =
      ap (λ w. put_or_same (whole_with c y) c.path (on (bare_entries c.entries) w)) right_is ∙ end_is f c x st y z in
      let S : Tree → Type 0 = Stands f (along (whole_with c y)) in
      let F : ℕ → Type 0 = Fits f.theory (bare_entries c.entries) in
      let stands : Stands f (along (whole_with c y)) y =
      record { by = iτ; numbered = st.numbered; there = path_there f c x st y; fits = subst F (sym sy) st.fits; assumptions = st.assumptions } in
      let E : Tree → Type 0 = IsEnd f.theory in
      let Q : List _ → Type 0 = λ ys. AreLayers f ys (instance τ hyp.left) in
      let items : AreLayers f (places_on here path) (instance τ hyp.left) =
      subst Q (append-nil (places_on here path)) (places_items f path here (instance τ hyp.left) [] special tt) in
      let call : IsCall f (along (whole_with c y)) =
      record { followed = fo; stands = subst S (sym left_is) stands; items = items; left = endy; right = subst E (sym end_same) endz } in
      let L : Tree → Type 0 = λ w. Goes (λ xs. PiecesLead f.theory c.assumptions xs (whole_with c y) w) n (run (along (whole_with c y)) n) in
      subst L end_same (so (along (whole_with c y)) n lt call)

  visible_call : (y z : Tree) → at y path ≡ Some (instance τ hyp.left) → replaced y path (instance τ hyp.right) ≡ Some z
      → IsVisible f.theory (sort_of hyp.left)
      → IsEnd f.theory (whole_with c y) → IsEnd f.theory (whole_with c z) → (n : ℕ) → n < d
      → Goes (λ xs. PiecesLead f.theory c.assumptions xs (whole_with c y) (whole_with c z)) n (run (straight (whole_with c y)) n)
  visible_call y z e r vis endy endz n lt =
      let end_same : end_of (straight (whole_with c y)) ≡ whole_with c z =
      put_is (base c ++ path) (whole_with c y) (instance τ hyp.right) (whole_with c z) (whole_below f c x st y z (instance τ hyp.right) path r) in
      let V : ℕ → Type 0 = IsVisible f.theory in
      let stands : Stands f (straight (whole_with c y)) (instance τ hyp.left) = record {
        by = iτ;
        numbered = tt;
        there = below_there f c x st y (instance τ hyp.left) path e;
        fits = subst V (sym (sort_of-instance_by f.theory.signature τ hyp.left iτ sorted_hyp.left)) vis;
        assumptions = st.assumptions;
      } in
      let E : Tree → Type 0 = IsEnd f.theory in
      let call : IsCall f (straight (whole_with c y)) =
      record { followed = fo; stands = stands; items = tt; left = endy; right = subst E (sym end_same) endz } in
      let L : Tree → Type 0 = λ w. Goes (λ xs. PiecesLead f.theory c.assumptions xs (whole_with c y) w) n (run (straight (whole_with c y)) n) in
      subst L end_same (so (straight (whole_with c y)) n lt call)

  use_leads : (way : Way) → sort_of here ≡ sort_of x → sort_of there ≡ sort_of x → at here path ≡ Some (instance τ (from_side way hyp))
      → replaced here path (instance τ (to_side way hyp)) ≡ Some there
      → (IsHidden f.theory (sort_of hyp.left) → IsSpecial f.places here path) → IsEnd f.theory (whole_with c here) → IsEnd f.theory (whole_with c there)
      → (n : ℕ) → n < d → Goes (λ xs. PiecesLead f.theory c.assumptions (by_way way xs) (whole_with c here) (whole_with c there)) n
      (run (hypothesis_call f c h way path t u τ) n)
  use_leads way sh sth at_here made sp eh et n lt =
      go (is_hidden f.theory (sort_of hyp.left)) refl (hidden_tells f.theory (sort_of hyp.left)) way at_here made
    where
      go : (b : Bool) → is_hidden f.theory (sort_of hyp.left) ≡ b → (IsTrue (is_hidden f.theory (sort_of hyp.left)) ↔ IsHidden f.theory (sort_of hyp.left))
          → (v : Way)
          → at here path ≡ Some (instance τ (from_side v hyp)) → replaced here path (instance τ (to_side v hyp)) ≡ Some there
          → Goes (λ xs. PiecesLead f.theory c.assumptions (by_way v xs) (whole_with c here) (whole_with c there)) n
          (run (if b then along (start_of v (whole_with c here) (whole_with c there)) else straight (start_of v (whole_with c here) (whole_with c there))) n)
      go true eb k Forth e r =
          hidden_call (instance τ hyp.left) here there e (put_is path here (instance τ hyp.left) here (replaced_self path here (instance τ hyp.left) e))
          (put_is path here (instance τ hyp.right) there r) sh (sp (k.0 eb)) eh et n lt
      go true eb k Back e r =
          goes_so (λ xs. PiecesLead f.theory c.assumptions xs (whole_with c there) (whole_with c here))
          (λ xs. PiecesLead f.theory c.assumptions (turned xs) (whole_with c here) (whole_with c there)) n
          (λ xs l. pieces_turned f.theory fr.well_formed c.assumptions xs (whole_with c there) (whole_with c here) l et.within)
          (run (along (whole_with c there)) n)
          (hidden_call (instance τ hyp.right) there here e (put_is path here (instance τ hyp.left) there r)
          (put_is path here (instance τ hyp.right) here (replaced_self path here (instance τ hyp.right) e)) sth (sp (k.0 eb)) et eh n lt)
      go false eb k Forth e r = visible_call here there e r (λ h2. absurd (let z = k.1 h2 in cc)) eh et n lt
      go false eb k Back e r =
          goes_so (λ xs. PiecesLead f.theory c.assumptions xs (whole_with c there) (whole_with c here))
          (λ xs. PiecesLead f.theory c.assumptions (turned xs) (whole_with c here) (whole_with c there)) n
          (λ xs l. pieces_turned f.theory fr.well_formed c.assumptions xs (whole_with c there) (whole_with c here) l et.within)
          (run (straight (whole_with c there)) n)
          (visible_call there here (at_replaced path here (instance τ hyp.left) there r)
          (replaced_back path here (instance τ hyp.right) (instance τ hyp.left) there e r) (λ h2. absurd (let z = k.1 h2 in cc)) et eh n lt)

-- ---- the links of one side

from_instance : (σ : Substitution) (w : Way) (p : Pair) → from_side w (instance_pair σ p) ≡ instance σ (from_side w p)
from_instance σ Forth p = refl
from_instance σ Back p = refl

to_instance : (σ : Substitution) (w : Way) (p : Pair) → to_side w (instance_pair σ p) ≡ instance σ (to_side w p)
to_instance σ Forth p = refl
to_instance σ Back p = refl

-- the replacement that a link makes, under the substitution
record Lifted (c : Call) (t u old new : Tree) (path : List ℕ) : Type 0 where
  here : at (instance c.by t) path ≡ Some (instance c.by old)
  is : replaced (instance c.by t) path (instance c.by new) ≡ Some (instance c.by u)
  there : at (around c t) (base c ++ path) ≡ Some (instance c.by old)
  made : replaced (around c t) (base c ++ path) (instance c.by new) ≡ Some (around c u)

lifted : (f : Background) (c : Call) (x : Tree) → Stands f c x → (t u old new : Tree) (path : List ℕ) → Replaces t path old new u → Lifted c t u old new path
lifted f c x st t u old new path r =
    let h = at_instance c.by path t old r.there in
    let m = replaced_instance c.by path t new u r.made in
    record {
      here = h;
      is = m;
      there = below_there f c x st (instance c.by t) (instance c.by old) path h;
      made = whole_below f c x st (instance c.by t) (instance c.by u) (instance c.by new) path m;
    }

module _ (f : Background) (fr : IsBackground f) (run : Expander) (d : ℕ) (so : IsSound f d run) (c : Call) (x : Tree) (st : Stands f c x) (b : Basis)
    (ib : IsBasis f c b) where
  -- the next term is well-sorted, and its instance has the sort of this one's
  record Kept (t v : Tree) : Type 0 where
    well_sorted : IsWellSorted f.theory.signature v
    same_sort : sort_of (instance c.by v) ≡ sort_of (instance c.by t)

  keeps : (l : LinkOf Tree) → AllOfLink (IsWellSorted f.theory.signature) l → (t v : Tree) → IsWellSorted f.theory.signature t
      → Leads (link_setting f b) l t v → Kept t v
  keeps l a t v wt r =
      let k = link_sorted (link_setting f b) (basis_setting f fr c b ib) l a t v wt r in
      let sig = f.theory.signature in
      record {
        well_sorted = k.well_sorted;
        same_sort = sort_of-instance_by sig c.by v st.by k.well_sorted ∙ k.same_sort ∙ sym (sort_of-instance_by sig c.by t st.by wt);
      }

  -- what the other links owe
  abbrev Rest : List (LinkOf Tree) → (v u : Tree) → Type 0
  Rest ls v u = IsEnd f.theory (around c v) → (n : ℕ) → n ≤ d → Goes (Sided f c (instance c.by v) (instance c.by u)) n (links_written run f c b ls v n)

  equation_leads : (number : ℕ) (way : Way) (path : List ℕ) (terms : List Tree) (conds : ChainsOf Tree) (ls : List (LinkOf Tree))
      → AllByRecursion (IsWellSorted f.theory.signature) terms
      → conds ≡ no_chain → (t v u : Tree) → IsWellSorted f.theory.signature t → Leads (link_setting f b) (Equation_link number way path terms conds) t v
      → IsEnd f.theory (around c t) → Rest ls v u
      → (n : ℕ) → n ≤ d → Goes (Sided f c (instance c.by t) (instance c.by u)) n
      (links_written run f c b (Equation_link number way path terms conds ∷ ls) t n)
  equation_leads number way path terms conds ls wts bare t v u wt lead e rest n le =
      let th = f.theory in
      let sig = th.signature in
      let r = lead.0 in
      let q : Goal = goal_of r.equation in
      let vs : List Tree = map (instance c.by) terms in
      let x1 : Piece = Equation_piece number way (base c ++ path) vs in
      let S : Pieces → Type 0 = Sided f c (instance c.by t) (instance c.by u) in
      let F : Tree → ℕ → Spending Pieces = λ y j. all_tested vs (tested (around c y) (and_piece x1 (links_written run f c b ls y j))) in
      let G : Tree → Type 0 = λ y. Goes S n (counted n (F y)) in
      let fit = r.rewrites.fit in
      let old : Tree = instance (by_terms q terms) (from_side way (sides q)) in
      let new : Tree = instance (by_terms q terms) (to_side way (sides q)) in
      let k = lifted f c x st t v old new path r.rewrites.replaces in
      let none : r.equation.conds ≡ [] = none_due (link_setting f b) (by_terms q terms) r.equation.conds conds bare lead.1 in
      let C : List Pair → Type 0 = λ E. ConditionsLead (setting th [] [] c.assumptions) (by_terms q vs) E no_chain in
      let one : IsWithinLimits (around c v) → PieceLeads th c.assumptions x1 (around c t) (around c v) = λ w. (
        values_sorted sig c.by st.by terms wts,
        (
          record {
            equation = r.equation;
            listed = r.listed;
            rewrites = record {
              fit = fit_after sig c.by st.by (sorted (variables_of q)) terms wts fit;
              replaces = record {
                there = k.there ∙ ap Some (instance_from c.by way q terms fit);
                made = ap (replaced (around c t) (base c ++ path)) (sym (instance_to c.by way q terms fit)) ∙ k.made;
                within = w;
              };
            };
          },
          subst C (sym none) tt,
        ),
      ) in
      let next : ℕ → Spending Pieces = λ j. and_piece x1 (links_written run f c b ls v j) in
      goes_all_tested S n (link_terms (link_setting f b) (Equation_link number way path terms conds) t) (counted n (F (led (link_setting f b) (Equation_link number way path terms conds) t)))
      (subst G (sym (link_led (link_setting f b) (Equation_link number way path terms conds) t v lead))
      (goes_counted S n (F v) (λ j lt.
      goes_all_tested S j vs (tested (around c v) (next j))
      (goes_tested S j (around c v) (next j) (λ w.
      one_more f fr c st.assumptions x1 (instance c.by t) (instance c.by v) (instance c.by u) e (one w) j (links_written run f c b ls v j)
      (λ ev. rest ev j (omega (arith, lt, le))))))))

  content_leads : (op : ℕ) (path : List ℕ) (term : Tree) (ls : List (LinkOf Tree)) → IsWellSorted f.theory.signature term
      → (t v u : Tree) → IsWellSorted f.theory.signature t → Leads (link_setting f b) (Content_link op path term) t v → IsEnd f.theory (around c t)
      → Rest ls v u
      → (n : ℕ) → n ≤ d → Goes (Sided f c (instance c.by t) (instance c.by u)) n (links_written run f c b (Content_link op path term ∷ ls) t n)
  content_leads op path term ls wn t v u wt lead e rest n le =
      let th = f.theory in
      let sig = th.signature in
      let old : Tree = lead.old in
      let x1 : Tree → Piece = λ y. Content_piece op (base c ++ path) y term (bounds_of c.by y term) in
      let there : Tree = unwrap_or (at t path) t in
      let S : Pieces → Type 0 = Sided f c (instance c.by t) (instance c.by u) in
      let F : Tree → Tree → ℕ → Spending Pieces =
      λ y z j. tested (instance c.by term) (tested (around c y) (and_piece (x1 z) (links_written run f c b ls y j))) in
      let G : Tree → Type 0 = λ y. Goes S n (counted n (F y there)) in
      let O : Tree → Type 0 = λ z. Goes S n (counted n (F v z)) in
      let k = lifted f c x st t v old term path lead.replaces in
      let one : IsWithinLimits (around c v) → PieceLeads th c.assumptions (x1 old) (around c t) (around c v) = λ w. record {
        content = lead.content;
        old_sorted = at_sorted th path t old wt lead.replaces.there;
        new_sorted = wn;
        by_sorted = bounds_sorted sig c.by st.by old term;
        replaces = record {
          there = k.there ∙ ap Some (sym (bounds_first c.by old term));
          made = ap (replaced (around c t) (base c ++ path)) (bounds_second c.by old term) ∙ k.made;
          within = w;
        };
      } in
      let next : ℕ → Spending Pieces = λ j. and_piece (x1 old) (links_written run f c b ls v j) in
      goes_all_tested S n (link_terms (link_setting f b) (Content_link op path term) t) (counted n (F (led (link_setting f b) (Content_link op path term) t) there))
      (subst G (sym (link_led (link_setting f b) (Content_link op path term) t v lead))
      (subst O (sym (ap (λ o. unwrap_or o t) lead.replaces.there))
      (goes_counted S n (F v old) (λ j lt.
      goes_tested S j (instance c.by term) (tested (around c v) (next j)) (λ h.
      goes_tested S j (around c v) (next j) (λ w.
      one_more f fr c st.assumptions (x1 old) (instance c.by t) (instance c.by v) (instance c.by u) e (one w) j (links_written run f c b ls v j)
      (λ ev. rest ev j (omega (arith, lt, le)))))))))

  assumption_leads : (number : ℕ) (way : Way) (path : List ℕ) (ls : List (LinkOf Tree))
      → (t v u : Tree) → IsWellSorted f.theory.signature t → Leads (link_setting f b) (Assumption_link number way path) t v → IsEnd f.theory (around c t)
      → Rest ls v u
      → (n : ℕ) → n ≤ d → Goes (Sided f c (instance c.by t) (instance c.by u)) n (links_written run f c b (Assumption_link number way path ∷ ls) t n)
  assumption_leads number way path ls t v u wt lead e rest n le =
      let th = f.theory in
      let x1 : Piece = Assumption_piece (b.raised + number) way (base c ++ path) in
      let S : Pieces → Type 0 = Sided f c (instance c.by t) (instance c.by u) in
      let F : Tree → ℕ → Spending Pieces = λ y j. tested (around c y) (and_piece x1 (links_written run f c b ls y j)) in
      let G : Tree → Type 0 = λ y. Goes S n (counted n (F y)) in
      let p : Pair = lead.assumed in
      let k = lifted f c x st t v (from_side way p) (to_side way p) path lead.replaces in
      let one : IsWithinLimits (around c v) → PieceLeads th c.assumptions x1 (around c t) (around c v) = λ w. record {
        assumed = instance_pair c.by p;
        listed = ib.raised number p lead.listed;
        replaces = record {
          there = k.there ∙ ap Some (sym (from_instance c.by way p));
          made = ap (replaced (around c t) (base c ++ path)) (to_instance c.by way p) ∙ k.made;
          within = w;
        };
      } in
      let next : ℕ → Spending Pieces = λ j. and_piece x1 (links_written run f c b ls v j) in
      goes_all_tested S n (link_terms (link_setting f b) (Assumption_link number way path) t) (counted n (F (led (link_setting f b) (Assumption_link number way path) t)))
      (subst G (sym (link_led (link_setting f b) (Assumption_link number way path) t v lead))
      (goes_counted S n (F v) (λ j lt.
      goes_tested S j (around c v) (next j) (λ w.
      one_more f fr c st.assumptions x1 (instance c.by t) (instance c.by v) (instance c.by u) e (one w) j (links_written run f c b ls v j)
      (λ ev. rest ev j (omega (arith, lt, le)))))))

  hypothesis_leads : (number : ℕ) (way : Way) (path : List ℕ) (terms : List Tree) (conds : ChainsOf Tree) (ls : List (LinkOf Tree))
      → AllByRecursion (IsWellSorted f.theory.signature) terms
      → (t v u : Tree) → IsWellSorted f.theory.signature t → Leads (link_setting f b) (Hypothesis_link number way path terms conds) t v → Kept t v
      → IsEnd f.theory (around c t) → sort_of (instance c.by t) ≡ sort_of x → Rest ls v u
      → (n : ℕ) → n ≤ d → Goes (Sided f c (instance c.by t) (instance c.by u)) n
      (links_written run f c b (Hypothesis_link number way path terms conds ∷ ls) t n)
  hypothesis_leads number way path terms conds ls wts t v u wt lead kept e se rest n le =
      let th = f.theory in
      let sig = th.signature in
      let h : Followed = followed_at b.hypotheses number in
      let q = hypothesis_is b.hypotheses number lead.0.hypothesis lead.0.listed in
      let q2 : Goal = goal_in h.history in
      let p : Pair = sides q2 in
      let fh : IsFollowed f h = ib.followed h q.1 in
      let sp : IsWellSortedPair sig p = history_sorted (setting_in f (block_hypotheses f h.block)) h.history fh in
      let vs : List Tree = map (instance c.by) terms in
      let τ : Substitution = by_terms q2 vs in
      let R : Goal → Type 0 = λ y. RewritesBy y way path terms t v in
      let rew : RewritesBy q2 way path terms t v = subst R (sym q.0) lead.0.rewrites in
      let old : Tree = instance (by_terms q2 terms) (from_side way p) in
      let new : Tree = instance (by_terms q2 terms) (to_side way p) in
      let k = lifted f c x st t v old new path rew.replaces in
      let new_is : instance c.by new ≡ instance τ (to_side way p) = instance_to c.by way q2 terms rew.fit in
      let old_is : instance c.by old ≡ instance τ (from_side way p) = instance_from c.by way q2 terms rew.fit in
      let iτ : IsSubstitution sig τ = given_substitution sig (sorted (variables_of q2)) vs
      (fit_after sig c.by st.by (sorted (variables_of q2)) terms wts rew.fit) (values_sorted sig c.by st.by terms wts) in
      let S : Pieces → Type 0 = Sided f c (instance c.by t) (instance c.by u) in
      let after : Tree → Pieces → ℕ → Spending Pieces = λ y ys j. and_pieces (by_way way ys) (links_written run f c b ls y j) in
      let F : Tree → ℕ → Spending Pieces = λ y j. all_tested vs (tested (around c y) (continued (run (hypothesis_call f c h way path t y τ) j) (after y))) in
      let G : Tree → Type 0 = λ y. Goes S n (counted n (F y)) in
      let whole : IsWellSorted sig (around c v) =
      whole_sorted f c x st (instance c.by t) (instance c.by v) e.well_sorted (instance_well_sorted sig c.by v st.by kept.well_sorted) kept.same_sort in
      let special : IsHidden th (sort_of p.left) → IsSpecial f.places (instance c.by t) path =
      λ hid. special_instance f.places c.by path t (let H : Goal → Type 0 = λ y. IsHidden th (sort_of y.left) in lead.0.special (subst H q.0 hid)) in
      let work : ℕ → Spending Pieces = λ j. run (hypothesis_call f c h way path t v τ) j in
      let U : Pieces → Type 0 = λ ys. PiecesLead th c.assumptions (by_way way ys) (around c t) (around c v) in
      goes_all_tested S n (link_terms (link_setting f b) (Hypothesis_link number way path terms conds) t ++ stood c t) (counted n (F (led (link_setting f b) (Hypothesis_link number way path terms conds) t)))
      (subst G (sym (link_led (link_setting f b) (Hypothesis_link number way path terms conds) t v lead))
      (goes_counted S n (F v) (λ j lt.
      goes_all_tested S j vs (tested (around c v) (continued (work j) (after v)))
      (goes_tested S j (around c v) (continued (work j) (after v)) (λ w.
      let ev : IsEnd th (around c v) = record { well_sorted = whole; within = w } in
      let used : Goes U j (work j) =
      use_leads f fr run d so c x st h fh path t v τ iτ way se (kept.same_sort ∙ se) (k.here
      ∙ ap Some old_is) (ap (replaced (instance c.by t) path) (sym new_is) ∙ k.is) special e ev j (omega (arith, lt, le)) in
      goes_on U S j (work j) (after v) used (λ ys i li l.
      some_more f fr c st.assumptions (by_way way ys) (instance c.by t) (instance c.by v) (instance c.by u) e l i (links_written run f c b ls v i)
      (λ w2. rest w2 i (omega (arith, li, lt, le)))))))))

  pub links_lead : (ls : List (LinkOf Tree)) → AllOfLinks (IsWellSorted f.theory.signature) ls → AreBare ls → (t u : Tree)
      → IsWellSorted f.theory.signature t → Runs (Leads (link_setting f b)) ls t u
      → IsEnd f.theory (around c t) → sort_of (instance c.by t) ≡ sort_of x → (n : ℕ) → n ≤ d
      → Goes (Sided f c (instance c.by t) (instance c.by u)) n (links_written run f c b ls t n)
  links_lead [] a bare t u wt r e se n le =
      let E : Tree → Type 0 = λ y. IsEnd f.theory (around c y) in
      goes_value (Sided f c (instance c.by t) (instance c.by u)) n no_piece (record { lead = ap (around c) r; end = subst E r e })
  links_lead (Equation_link number way path terms conds ∷ ls) a bare t u wt r e se n le =
      let k = keeps (Equation_link number way path terms conds) a.0 t r.0 wt r.1 in
      equation_leads number way path terms conds ls a.0.0 bare.0 t r.0 u wt r.1 e
      (λ ev j lj. links_lead ls a.1 bare.1 r.0 u k.well_sorted r.2 ev (k.same_sort ∙ se) j lj) n le
  links_lead (Content_link op path term ∷ ls) a bare t u wt r e se n le =
      let k = keeps (Content_link op path term) a.0 t r.0 wt r.1 in
      content_leads op path term ls a.0 t r.0 u wt r.1 e (λ ev j lj. links_lead ls a.1 bare.1 r.0 u k.well_sorted r.2 ev (k.same_sort ∙ se) j lj) n le
  links_lead (Assumption_link number way path ∷ ls) a bare t u wt r e se n le =
      let k = keeps (Assumption_link number way path) a.0 t r.0 wt r.1 in
      assumption_leads number way path ls t r.0 u wt r.1 e (λ ev j lj. links_lead ls a.1 bare.1 r.0 u k.well_sorted r.2 ev (k.same_sort ∙ se) j lj) n le
  links_lead (Hypothesis_link number way path terms conds ∷ ls) a bare t u wt r e se n le =
      let k = keeps (Hypothesis_link number way path terms conds) a.0 t r.0 wt r.1 in
      hypothesis_leads number way path terms conds ls a.0.0 t r.0 u wt r.1 k e se
      (λ ev j lj. links_lead ls a.1 bare.1 r.0 u k.well_sorted r.2 ev (k.same_sort ∙ se) j lj) n le
