-- What is known of a use.
use Rattle.std.proofs.Common.{◌≡◌, ◌<◌, ℕ, List, [], ◌∷◌, ◌++◌, ◌==◌, map, Option, Some, None, unwrap_or, find, ap, sym, ◌∙◌, subst}
use Rattle.std.specs.List.{slice_get, AllByRecursion, Contains}
use Rattle.circ_term.specs.Tree.{Tree, Var, App, sort_of, list_of, at, replaced}
use Rattle.circ_term.specs.Limits.{IsWithinLimits}
use Rattle.circ_term.specs.Substitution.{instance}
use Rattle.circ_term.proofs.Paths.{at-append, at_replaced, replaced_below, replaced_self, replaced_twice}
use Rattle.circ_theory.specs.Signature.{Operator, IsWellSorted, IsSubstitution}
use Rattle.circ_theory.specs.Theory.{Theory, Derivative, Pair, CaseList, sides, IsHidden, IsWellSortedPair, AreWellSortedPairs, AreConditions}
use Rattle.circ_theory.specs.Theory.{IsWellSortedGoal}
use Rattle.circ_theory.specs.WellFormed.{IsWellFormed}
use Rattle.circ_theory.specs.Experiment.{Fits, on}
use Rattle.circ_theory.specs.Goal.{Goal}
use Rattle.circ_theory.proofs.Sorting.{replaced_sorted}
use Rattle.circ_special.specs.declared.place.Place.{Place}
use Rattle.circ_special.specs.Special.{place, IsPlace, IsSpecial}
use Rattle.circ_proof.specs.Plain.{LinkOf}
use Rattle.circ_proof.specs.Goals.{AreSortedGoals}
use Rattle.circ_proof.specs.Link.{Setting, setting, Leads, AllOfLinks}
use Rattle.circ_proof.specs.Justified.{ChainLeads, Justified, AllOfChain, AllOfWhy}
use Rattle.circ_proof.specs.Certified.{Certified}
use Rattle.circ_proof.specs.Rules.{derivatives_on}
use Rattle.circ_proof.proofs.Members.{nothing, from_map}
use Rattle.circ_entry.specs.Entries.{bare_entries}
use Rattle.circ_expansion.specs.Followed.{History, Histories, Simplified, Reduced_by, Derived, Open, no_history, more_histories, goal_in, list_in, Followed}
use Rattle.circ_expansion.specs.Followed.{put_or_same}
use Rattle.circ_expansion.specs.Pieces.{PiecesLead}
use Rattle.circ_expansion.specs.Expand.{holes, Layer, At_place, By_entry, layered, places_on, Background, Call, Expander, base, whole_with, followed_goals}
use Rattle.circ_expansion.proofs.Going.{Goes}
use Rattle.circ_expansion.proofs.Putting.{put_is, put_there}
use Rattle.circ_expansion.proofs.Plainness.{AreBare, IsBareChain, IsBareWhy}
use Rattle.circ_expansion.proofs.Lifting.{AreNumbered, on_there, on_put}

-- ---- what is known

abbrev pub block_hypotheses : Background → ℕ → List Followed
block_hypotheses f b = unwrap_or (slice_get f.hypotheses b) []

-- a well-sorted goal without conditions
pub record IsBare (c : Setting) (g : Goal) : Type 0 where
  pub sorted : IsWellSortedPair c.theory.signature (sides g)
  pub no_conds : g.conds ≡ []

-- a history with its steps, each an instance of its rule and without conditions
abbrev mutual
  pub IsHistory : Setting → History → Type 0
  IsHistory c (Simplified p chain h) =
      IsBare c p × (AllOfChain (IsWellSorted c.theory.signature) chain × IsBareChain chain) × ChainLeads (Leads c) chain (sides p)
      (sides (goal_in h)) × IsHistory c h
  IsHistory c (Reduced_by p why) = IsBare c p × (AllOfWhy (IsWellSorted c.theory.signature) why × IsBareWhy why) × Justified c (sides p) why
  IsHistory c (Derived p hs) =
      IsBare c p × IsHidden c.theory (sort_of p.left) × (map goal_in (list_in hs) ≡ derivatives_on c.theory p) × AreHistories c hs
  IsHistory c Open = ⊥

  pub AreHistories : Setting → Histories → Type 0
  AreHistories c no_history = Unit {0}
  AreHistories c (more_histories h hs) = IsHistory c h × AreHistories c hs

pub history_bare : (c : Setting) (h : History) → IsHistory c h → IsBare c (goal_in h)
history_bare c (Simplified p chain h) i = i.0
history_bare c (Reduced_by p why) i = i.0
history_bare c (Derived p hs) i = i.0
history_bare c Open i = absurd i

pub history_sorted : (c : Setting) (h : History) → IsHistory c h → IsWellSortedPair c.theory.signature (sides (goal_in h))
history_sorted c h i = (history_bare c h i).sorted

abbrev pub setting_in : Background → List Followed → Setting
setting_in f hs = setting f.theory f.places (followed_goals hs) []

abbrev pub IsFollowed : Background → Followed → Type 0
IsFollowed f x = IsHistory (setting_in f (block_hypotheses f x.block)) x.history

abbrev pub AreFollowed : Background → List Followed → Type 0
AreFollowed f hs = (x : Followed) → Contains hs x → IsFollowed f x

-- the links certify the place for the derivative, and name well-sorted terms
pub record IsCertificate (th : Theory) (G : List Place) (g : Place) (d : Derivative) (ls : List (LinkOf Tree)) : Type 0 where
  pub sorted : AllOfLinks (IsWellSorted th.signature) ls
  pub bare : AreBare ls
  pub certified : Certified th G g d ls

pub record IsBackground (f : Background) : Type 0 where
  pub well_formed : IsWellFormed f.theory
  pub places : AllByRecursion (IsPlace f.theory) f.places
  pub one_list : (l : CaseList) → Contains f.theory.cases l → (s : ℕ) → s ≡ l.sort
      → unwrap_or (find (λ k. s == k.sort) f.theory.cases) (record { sort = s; constants = [] }) ≡ l
  pub followed : (b : ℕ) → AreFollowed f (block_hypotheses f b)
  pub certified : (g : Place) (o : Operator) (k : ℕ) (d : Derivative) → Contains f.places g → slice_get f.theory.signature.ops g.op ≡ Some o
      → slice_get f.theory.derivatives k ≡ Some d → d.hole ≡ o.result → IsCertificate f.theory f.places g d (f.certificate g k)

-- what is followed is well-sorted
pub goals_sorted : (f : Background) (hs : List Followed) → AreFollowed f hs → AreSortedGoals f.theory (followed_goals hs)
goals_sorted f hs fo g c =
    let r = from_map (λ (h : Followed). goal_in h.history) hs g c in
    let b = history_bare (setting_in f (block_hypotheses f r.0.block)) r.0.history (fo r.0 r.1) in
    let C : List Pair → Type 0 = AreConditions f.theory in
    let P : Goal → Type 0 = IsWellSortedGoal f.theory in
    subst P r.2 (record { sorted = b.sorted; conds = subst C (sym b.no_conds) (λ q d. nothing q d) })

-- places of the set, and entries that fit
abbrev pub AreLayers : Background → List Layer → Tree → Type 0
AreLayers f [] t = Unit {0}
AreLayers f (At_place g s i ts ∷ xs) t = Contains f.places (place g i) × (a : Tree) × (slice_get (list_of ts) i ≡ Some a) × AreLayers f xs t
AreLayers f (By_entry e ∷ xs) t =
    (slice_get f.theory.derivatives e.number ≡ Some e.entry.derivative) × IsSubstitution f.theory.signature e.entry.parameters ×
    (e.entry.derivative.hole ≡ sort_of (layered xs t)) × AreLayers f xs t

abbrev pub layers_of : Option (List Layer) → List Layer
layers_of None = []
layers_of (Some xs) = xs

abbrev pub left_of : Call → Tree
left_of c = layered (layers_of c.along) (instance c.by (goal_in c.goal.history).left)

abbrev pub right_of : Call → Tree
right_of c = layered (layers_of c.along) (instance c.by (goal_in c.goal.history).right)

-- the whole term to which the use is to lead
abbrev pub end_of : Call → Tree
end_of c = put_or_same c.whole c.path (on (bare_entries c.entries) (right_of c))

pub record IsEnd (th : Theory) (t : Tree) : Type 0 where
  pub well_sorted : IsWellSorted th.signature t
  pub within : IsWithinLimits t

-- A term stands at the hole of the experiment.
pub record Stands (f : Background) (c : Call) (x : Tree) : Type 0 where
  pub by : IsSubstitution f.theory.signature c.by
  pub numbered : AreNumbered f.theory c.entries
  pub there : at c.whole c.path ≡ Some (on (bare_entries c.entries) x)
  pub fits : Fits f.theory (bare_entries c.entries) (sort_of x)
  pub assumptions : AreWellSortedPairs f.theory.signature c.assumptions

pub record IsCall (f : Background) (c : Call) : Type 0 where
  pub followed : IsFollowed f c.goal
  pub stands : Stands f c (left_of c)
  pub items : AreLayers f (layers_of c.along) (instance c.by (goal_in c.goal.history).left)
  pub left : IsEnd f.theory c.whole
  pub right : IsEnd f.theory (end_of c)

-- what a use gives leads from its whole term to its end, with fewer units than the depth at first
abbrev pub IsSound : Background → (depth : ℕ) → Expander → Type 0
IsSound f d run = (c : Call) (n : ℕ) → n < d → IsCall f c → Goes (λ xs. PiecesLead f.theory c.assumptions xs c.whole (end_of c)) n (run c n)

-- ---- the whole term round a term at the hole

module _ (f : Background) (c : Call) (x : Tree) (st : Stands f c x) where
  pub base_there : at c.whole (base c) ≡ Some x
  base_there = at-append c.whole (on (bare_entries c.entries) x) c.path (holes c.entries) st.there ∙ on_there f.theory c.entries st.numbered x

  pub whole_is : (y : Tree) → replaced c.whole (base c) y ≡ Some (whole_with c y)
  whole_is y = put_there (base c) c.whole x y base_there

  pub whole_on : (y : Tree) → whole_with c y ≡ put_or_same c.whole c.path (on (bare_entries c.entries) y)
  whole_on y =
      ap (λ o. unwrap_or o c.whole)
      (replaced_below c.path (holes c.entries) c.whole (on (bare_entries c.entries) x) y (on (bare_entries c.entries) y) st.there
      (on_put f.theory c.entries st.numbered x y))

  pub whole_there : (y : Tree) → at (whole_with c y) (base c) ≡ Some y
  whole_there y = at_replaced (base c) c.whole y (whole_with c y) (whole_is y)

  pub whole_self : whole_with c x ≡ c.whole
  whole_self = put_is (base c) c.whole x c.whole (replaced_self (base c) c.whole x base_there)

  pub whole_over : (y z : Tree) → replaced (whole_with c y) (base c) z ≡ Some (whole_with c z)
  whole_over y z = replaced_twice (base c) c.whole y (whole_with c y) z (whole_is y) ∙ whole_is z

  pub whole_below : (y z b : Tree) (p : List ℕ) → replaced y p b ≡ Some z → replaced (whole_with c y) (base c ++ p) b ≡ Some (whole_with c z)
  whole_below y z b p r = replaced_below (base c) p (whole_with c y) y b z (whole_there y) r ∙ whole_over y z

  pub below_there : (y a : Tree) (p : List ℕ) → at y p ≡ Some a → at (whole_with c y) (base c ++ p) ≡ Some a
  below_there y a p e = at-append (whole_with c y) y (base c) p (whole_there y) ∙ e

  pub path_there : (y : Tree) → at (whole_with c y) c.path ≡ Some (on (bare_entries c.entries) y)
  path_there y =
      let P : Tree → Type 0 = λ w. at w c.path ≡ Some (on (bare_entries c.entries) y) in
      subst P (sym (whole_on y))
      (at_replaced c.path c.whole (on (bare_entries c.entries) y) (put_or_same c.whole c.path (on (bare_entries c.entries) y))
      (put_there c.path c.whole (on (bare_entries c.entries) x) (on (bare_entries c.entries) y) st.there))

  -- from one whole term the end is the other
  pub end_is : (y z : Tree) → put_or_same (whole_with c y) c.path (on (bare_entries c.entries) z) ≡ whole_with c z
  end_is y z =
      let w : Tree = put_or_same c.whole c.path (on (bare_entries c.entries) y) in
      let r = put_there c.path c.whole (on (bare_entries c.entries) x) (on (bare_entries c.entries) y) st.there in
      ap (λ v. put_or_same v c.path (on (bare_entries c.entries) z)) (whole_on y)
      ∙ put_is c.path w (on (bare_entries c.entries) z) (put_or_same c.whole c.path (on (bare_entries c.entries) z))
      (replaced_twice c.path c.whole (on (bare_entries c.entries) y) w (on (bare_entries c.entries) z) r
      ∙ put_there c.path c.whole (on (bare_entries c.entries) x) (on (bare_entries c.entries) z) st.there)
      ∙ sym (whole_on z)

-- a term of the same sort in place of the one at the hole
pub whole_sorted : (f : Background) (c : Call) (x : Tree) → Stands f c x → (y z : Tree) → IsWellSorted f.theory.signature (whole_with c y)
    → IsWellSorted f.theory.signature z → sort_of z ≡ sort_of y
    → IsWellSorted f.theory.signature (whole_with c z)
whole_sorted f c x st y z wy wz e =
    (replaced_sorted f.theory (base c) (whole_with c y) y z (whole_with c z) wy (whole_there f c x st y) (record {
      well_sorted = wz;
      same_sort = e;
    }) (whole_over f c x st y z)).well_sorted

pub places_items : (f : Background) (p : List ℕ) (t x : Tree) (xs : List Layer) → IsSpecial f.places t p → AreLayers f xs x
    → AreLayers f (places_on t p ++ xs) x
places_items f [] t x xs sp a = a
places_items f (i ∷ p) (Var n s) x xs sp a = absurd sp
places_items f (i ∷ p) (App g s ts) x xs sp a = (sp.0, sp.1, sp.2, let h = places_items f p sp.1 x xs sp.3 a in let e = sp.2 in rw e h)
