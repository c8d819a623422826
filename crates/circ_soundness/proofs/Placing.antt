-- The places of a set that is certified: where two arguments agree at a level, so do the terms.
use Rattle.std.proofs.Common.{◌≡◌, ℕ, zero, suc, List, [], ◌∷◌, length, Some, refl, ap, sym, subst, ◌∙◌, arith}
use Rattle.std.specs.List.{slice_get, Contains}
use Rattle.std.proofs.lemmas.Option.{same_Some}
use Rattle.circ_term.specs.Tree.{Tree, Trees, App, sort_of, list_of, put_at}
use Rattle.circ_term.specs.Substitution.{Substitution, instance}
use Rattle.circ_theory.specs.Signature.{Signature, Operator, IsSort, IsWellSorted, HaveSorts, IsSubstitution}
use Rattle.circ_theory.specs.Theory.{Theory, Pair, Derivative, IsHidden}
use Rattle.circ_theory.specs.WellFormed.{IsWellFormed}
use Rattle.circ_theory.specs.Experiment.{plug, derived}
use Rattle.circ_theory.proofs.Behaviour.{plug_substitution}
use Rattle.circ_theory.proofs.Instances.{sort_of-instance_by, instance_well_sorted}
use Rattle.circ_theory.proofs.Rewriting.{contains_at}
use Rattle.circ_special.specs.declared.place.Place.{Place}
use Rattle.circ_special.specs.Special.{place, IsPlace}
use Rattle.circ_special.specs.Guarded.{Guarded}
use Rattle.circ_proof.specs.Plain.{LinkOf}
use Rattle.circ_proof.specs.Link.{setting, AllOfLinks}
use Rattle.circ_theory.specs.Fresh.{numbered_from}
use Rattle.circ_proof.specs.Certified.{start_args, start_term, Certified}
use Rattle.circ_soundness.specs.Levels.{Agree, HypothesesAgree, PlacesAgree, Keeps}
use Rattle.circ_proof.proofs.Members.{nothing}
use Rattle.circ_soundness.proofs.Changing.{DifferAt}
use Rattle.circ_soundness.proofs.Agreeing.{fits_same, agree_chain, agree_symmetry, agree_weaken}
use Rattle.circ_soundness.proofs.Guarding.{IsChange, guarded_stays}
use Rattle.circ_soundness.proofs.Keeping.{IsGood, links_keep}
use Rattle.circ_soundness.proofs.Starting.{start_sorts, arg_sort, Starts, starts}

pub no_hypotheses : (th : Theory) (n : ℕ) → HypothesesAgree th n []
no_hypotheses th n = record { sorted = λ h c. nothing h c; agree = λ h c. nothing h c }

-- with no place, nothing is asked
pub no_places : (th : Theory) (n : ℕ) → PlacesAgree th [] n
no_places th n A f s i ts a b c = nothing (place f i) c

-- links that certify a place for a derivative, and name well-sorted terms
pub record HasCertificate (th : Theory) (G : List Place) (g : Place) (d : Derivative) : Type 0 where
  pub links : List (LinkOf Tree)
  pub sorted : AllOfLinks (IsWellSorted th.signature) links
  pub certified : Certified th G g d links

-- A set of places of a well-formed theory, each of which is certified for each derivative of its result sort.
pub record IsCertifiedSet (th : Theory) (G : List Place) : Type 0 where
  pub well_formed : IsWellFormed th
  pub places : (g : Place) → Contains G g → IsPlace th g
  pub certified : (g : Place) (o : Operator) (d : Derivative) → Contains G g → slice_get th.signature.ops g.op ≡ Some o
      → Contains th.derivatives d → d.hole ≡ o.result → HasCertificate th G g d

-- ---- start terms

pub start_sorted : (th : Theory) → IsWellFormed th → (o : Operator) (f i : ℕ) (d : Derivative) → slice_get th.signature.ops f ≡ Some o → Contains th.derivatives d
    → d.hole ≡ o.result → IsWellSorted th.signature (start_term o (place f i) d)
start_sorted th ok o f i d l c h =
    let sig : Signature = th.signature in
    let head : Tree = App f o.result (start_args i 1 o.args) in
    let whole : IsWellSorted sig head = (o, l, refl, start_sorts sig i 1 o.args (ok.operators o (contains_at sig.ops f o l)).args) in
    let fresh = numbered_from (length o.args) in
    let here = plug_substitution sig d.hole head fresh (sym h) whole (λ n r k. (refl, k)) in
    instance_well_sorted sig (plug d.hole head fresh) d.body here (ok.derivatives d c).body

-- Where a term keeps the level to one that is guarded in variable 0, instances of it agree at the level at which those of the variable agree, less one.
kept_guarded_agrees : (th : Theory) (A : List Pair) (G : List Place) (m : ℕ) (σ τ : Substitution) (s : ℕ) → IsChange th A G m σ τ 0 s → DifferAt 0 s σ τ
    → (t u : Tree) → IsWellSorted th.signature t → Keeps th [] m t u → Guarded th G u 0 s → Agree th A m (instance σ t) (instance τ t)
kept_guarded_agrees th A G m σ τ s g d t u w k guarded =
    let sig : Signature = th.signature in
    let same : (ρ : Substitution) → IsSubstitution sig ρ → sort_of (instance ρ u) ≡ sort_of (instance ρ t) = λ ρ i.
    sort_of-instance_by sig ρ u i k.well_sorted ∙ k.same_sort ∙ sym (sort_of-instance_by sig ρ t i w) in
    let x = guarded_stays th A G m σ τ 0 s g d u k.well_sorted guarded in
    let there = agree_weaken th A m (instance σ t) (instance σ u) (k.agree σ g.left) in
    let back = agree_weaken th A m (instance τ u) (instance τ t)
    (agree_symmetry th [] m (instance τ t) (instance τ u) (same τ g.right) (k.agree τ g.right)) in
    agree_chain th A m (instance σ t) (instance σ u) (instance τ t) (same σ g.left) there
    (agree_chain th A m (instance σ u) (instance τ u) (instance τ t) x.same_sort x.agree back)

-- ---- by induction on the level

-- what the start term's two instances are agree, since it leads to a term that is guarded in variable 0
started_agrees : (th : Theory) → IsWellFormed th → (A : List Pair) (G : List Place) (m : ℕ) → PlacesAgree th G m
    → (o : Operator) (g : Place) (d : Derivative) (s : ℕ) (a b t u : Tree) (p : Substitution) → Starts th o g d s a b t u p → IsSort th.signature s
    → IsWellSorted th.signature (start_term o g d) → (last : Tree) → Keeps th [] m (start_term o g d) last → Guarded th G last 0 s
    → Agree th A (suc m) a b → Agree th A m (derived d t p) (derived d u p)
started_agrees th ok A G m pl o g d s a b t u p x hs w last k guarded ag =
    let start : Tree = start_term o g d in
    let P : Tree → Type 0 = λ y. Agree th A (suc m) y (x.right 0 s) in
    let Q : Tree → Type 0 = Agree th A (suc m) a in
    let change : IsChange th A G m x.left x.right 0 s = record {
      well_formed = ok;
      places = pl;
      left = x.left_sorted;
      right = x.right_sorted;
      sort = hs;
      agree = subst P (sym x.left_here) (subst Q (sym x.right_here) ag);
    } in
    let all = kept_guarded_agrees th A G m x.left x.right s change x.differ start last w k guarded in
    let T : Tree → Type 0 = λ y. Agree th A m y (instance x.right start) in
    let U : Tree → Type 0 = Agree th A m (derived d t p) in
    subst U x.right_made (subst T x.left_made all)

-- one entry: its derivative on the two terms
place_agrees : (th : Theory) (G : List Place) → IsCertifiedSet th G → (m : ℕ) → PlacesAgree th G m
    → (A : List Pair) (f i : ℕ) (o : Operator) (ts : Trees) (a b : Tree) (d : Derivative) (p : Substitution)
    → Contains G (place f i) → slice_get th.signature.ops f ≡ Some o → HaveSorts th.signature ts o.args → slice_get (list_of ts) i ≡ Some a
    → IsWellSorted th.signature b → sort_of b ≡ sort_of a → Contains th.derivatives d → d.hole ≡ o.result → IsSubstitution th.signature p
    → Agree th A (suc m) a b → Agree th A m (derived d (App f o.result ts) p) (derived d (App f o.result (put_at ts i b)) p)
place_agrees th G is m pl A f i o ts a b d p c lo h e wb sb ld hole wp ag =
    let sig : Signature = th.signature in
    let ok : IsWellFormed th = is.well_formed in
    let has = is.certified (place f i) o d c lo ld hole in
    let cert = has.certified in
    let q : Operator = cert.place.operator in
    let s : ℕ = cert.place.sort in
    let same : q ≡ o = same_Some q o (sym cert.place.listed ∙ lo) in
    let H : Operator → Type 0 = λ x. HaveSorts sig ts x.args in
    let hq : HaveSorts sig ts q.args = subst H (sym same) h in
    let sa : sort_of a ≡ s = arg_sort sig ts q.args i a s hq e cert.place.argument in
    let x = starts th ok q f s i ts a b d p ld hq e cert.place.argument (sb ∙ sa, wb) wp in
    let w = start_sorted th ok q f i d cert.place.listed ld (hole ∙ ap (λ y. y.result) (sym same)) in
    let good : IsGood (setting th G [] []) m =
    record { well_formed = ok; assumptions = λ y z. nothing y z; hypotheses = no_hypotheses th m; places = pl } in
    let k = links_keep (setting th G [] []) m good has.links has.sorted (start_term q (place f i) d) cert.last w cert.leads in
    let sort : IsSort sig s = (ok.operators q (contains_at sig.ops f q cert.place.listed)).args s (contains_at q.args i s cert.place.argument) in
    let V : Operator → Type 0 = λ y. Agree th A m (derived d (App f y.result ts) p) (derived d (App f y.result (put_at ts i b)) p) in
    subst V same
    (started_agrees th ok A G m pl q (place f i) d s a b (App f q.result ts) (App f q.result (put_at ts i b)) p x sort w cert.last k cert.guarded ag)

-- the sort of a term at whose operator the set has a place
hidden_result : (th : Theory) (G : List Place) → IsCertifiedSet th G → (f s i : ℕ) (ts : Trees) → Contains G (place f i)
    → IsWellSorted th.signature (App f s ts) → IsHidden th s
hidden_result th G is f s i ts c wt =
    let g = is.places (place f i) c in
    let P : ℕ → Type 0 = IsHidden th in
    subst P (ap (λ y. y.result) (same_Some g.operator wt.0 (sym g.listed ∙ wt.1)) ∙ wt.2) g.hidden

-- The places of a certified set agree at each level.
pub places_agree : (th : Theory) (G : List Place) → IsCertifiedSet th G → (n : ℕ) → PlacesAgree th G n
places_agree th G is zero A f s i ts a b c wt e wb sb ag [] l fit = absurd (fit (hidden_result th G is f s i ts c wt))
places_agree th G is zero A f s i ts a b c wt e wb sb ag (x ∷ cs) l fit = absurd (omega (arith, l))
places_agree th G is (suc m) A f s i ts a b c wt e wb sb ag [] l fit = absurd (fit (hidden_result th G is f s i ts c wt))
places_agree th G is (suc m) A f s i ts a b c wt e wb sb ag (x ∷ cs) l fit =
    let sig : Signature = th.signature in
    let d : Derivative = x.derivative in
    let p : Substitution = x.parameters in
    let P : ℕ → Type 0 = λ r. Agree th A m (derived d (App f r ts) p) (derived d (App f r (put_at ts i b)) p) in
    let step : Agree th A m (derived d (App f s ts) p) (derived d (App f s (put_at ts i b)) p) =
    subst P wt.2 (place_agrees th G is m (places_agree th G is m) A f i wt.0 ts a b d p c wt.1 wt.3 e wb sb fit.0 (fit.1 ∙ sym wt.2) fit.2 ag) in
    let here = plug_substitution sig d.hole (App f s ts) p (sym fit.1) wt fit.2 in
    let sort = sort_of-instance_by sig (plug d.hole (App f s ts) p) d.body here (is.well_formed.derivatives d fit.0).body in
    step cs (omega (arith, l)) (fits_same th cs (sort_of d.body) (sort_of (derived d (App f s ts) p)) (sym sort) fit.3)
