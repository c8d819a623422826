-- Where two terms agree at a level, instances on them of a term that is guarded agree at the level below: the cases of `Guarded`.
use Rattle.std.proofs.Common.{◌≡◌, ℕ, suc, List, [], ◌++◌, Some, refl, ap, sym, subst, ◌∙◌, arith}
use Rattle.std.specs.List.{Contains}
use Rattle.std.proofs.lemmas.Option.{same_Some}
use Rattle.circ_term.specs.Tree.{Tree, Var, sort_of, at, replaced}
use Rattle.circ_term.specs.Substitution.{Substitution, instance}
use Rattle.circ_term.proofs.Paths.{at-append, at_instance, replaced_below}
use Rattle.circ_theory.specs.Signature.{Signature, IsSort, IsWellSorted, IsSubstitution}
use Rattle.circ_theory.specs.Theory.{Theory, Pair, Derivative, IsVisible}
use Rattle.circ_theory.specs.WellFormed.{IsWellFormed}
use Rattle.circ_theory.specs.Derivable.{Derivable}
use Rattle.circ_theory.specs.Experiment.{plug, derived}
use Rattle.circ_theory.proofs.Behaviour.{plug_substitution}
use Rattle.circ_theory.proofs.Congruence.{KeepsDerivable, replaced_keeps}
use Rattle.circ_theory.proofs.Instances.{sort_of-instance_by, instance_well_sorted}
use Rattle.circ_special.specs.declared.place.Place.{Place}
use Rattle.circ_special.specs.Guarded.{IsInstanceAt, IsGuardedAt, by_visible, by_place, by_hidden, Guarded}
use Rattle.circ_special.proofs.Distinct.{body_distinct}
use Rattle.circ_special.proofs.Sorted.{instance_sorted}
use Rattle.circ_soundness.specs.Levels.{Agree, PlacesAgree, Stays}
use Rattle.circ_soundness.proofs.Filling.{Fills, FillsAt, IsOfSort, OfSort, Makes, fills_instance, fills_sorted, fills_also, fills_at, fills_special, distinct_makes}
use Rattle.circ_soundness.proofs.Changing.{DifferAt, Mixed, mixed_sorted, Changes, passes, replaced_once}
use Rattle.circ_soundness.proofs.Parameters.{plug_hole, plug_parameter, plug_differs, same_body}
use Rattle.circ_soundness.proofs.Agreeing.{derivable_agrees, agree_same, agree_chain, agree_less, next_agrees, special_stays}

-- Two substitutions whose terms for the variable (k, s) agree at a level, where places agree at the level below.
pub record IsChange (th : Theory) (A : List Pair) (G : List Place) (m : ℕ) (σ τ : Substitution) (k s : ℕ) : Type 0 where
  pub well_formed : IsWellFormed th
  pub places : PlacesAgree th G m
  pub left : IsSubstitution th.signature σ
  pub right : IsSubstitution th.signature τ
  pub sort : IsSort th.signature s
  pub agree : Agree th A (suc m) (σ k s) (τ k s)

-- ---- instances of derivatives

-- at q stands the derivative on a, and the change makes it the one on b
record IsDerivedAt (th : Theory) (d : Derivative) (a b u v : Tree) (q : List ℕ) : Type 0 where
  parameters : Substitution
  sorted : IsSubstitution th.signature parameters
  there : at u q ≡ Some (derived d a parameters)
  made : replaced u q (derived d b parameters) ≡ Some v

-- what fills an instance of a derivative is one too, before and after the change of its hole
derived_at : (th : Theory) (A : List Pair) (G : List Place) (m : ℕ) (σ τ : Substitution) (k s : ℕ) → IsChange th A G m σ τ k s
    → (t u v : Tree) → IsWellSorted th.signature t → (d : Derivative) (q r : List ℕ) → IsInstanceAt th t k s d q r → Changes σ τ k s t (q ++ r) u v
    → IsDerivedAt th d (σ k s) (τ k s) u v q
derived_at th A G m σ τ k s g t u v w d q r i c =
    let sig : Signature = th.signature in
    let der = g.well_formed.derivatives d i.listed in
    let x = instance_sorted th t k s d q r w i in
    let π : Substitution = plug d.hole (Var k s) x.parameters in
    let wp : IsSubstitution sig π = plug_substitution sig d.hole (Var k s) x.parameters (sym i.sort) g.sort x.sorted in
    let f : FillsAt (Mixed σ τ) (instance π d.body) u q = fills_at (Mixed σ τ) q t (instance π d.body) u c.mixed x.there in
    let fills : Fills (OfSort sig) d.body f.part =
    fills_also sig (λ n j. Fills (Mixed σ τ) (π n j)) (OfSort sig)
    (λ n j y h z. let e = fills_sorted sig (Mixed σ τ) (mixed_sorted sig σ τ g.left g.right) (π n j) y (wp n j h).1 z in (e.0 ∙ (wp n j h).0, e.1))
    d.body f.part der.body (fills_instance (Mixed σ τ) π d.body f.part f.fills) in
    let by : Makes sig d.body f.part = distinct_makes sig d.body f.part (body_distinct sig d der) fills in
    let ρ : Substitution = by.by in
    let here : at f.part r ≡ Some (ρ 0 d.hole) = ap (λ y. at y r) (sym by.made) ∙ at_instance ρ r d.body (Var 0 d.hole) i.hole in
    let hole : ρ 0 d.hole ≡ σ k s = same_Some (ρ 0 d.hole) (σ k s) (sym here ∙ sym (at-append u f.part q r f.there) ∙ c.old) in
    let before : f.part ≡ derived d (σ k s) ρ =
    sym by.made ∙ same_body sig d der ρ (plug d.hole (σ k s) ρ) (hole ∙ sym (plug_hole d.hole (σ k s) ρ)) (λ n j. sym (plug_parameter d.hole (σ k s) ρ n j)) in
    let once : replaced (instance ρ d.body) r (plug d.hole (τ k s) ρ 0 d.hole) ≡ Some (derived d (τ k s) ρ) =
    replaced_once 0 d.hole ρ (plug d.hole (τ k s) ρ) (plug_differs d.hole (τ k s) ρ) r d.body (body_distinct sig d der) i.hole in
    let after : replaced f.part r (τ k s) ≡ Some (derived d (τ k s) ρ) =
    ap (λ y. replaced y r (τ k s)) (sym by.made) ∙ ap (replaced (instance ρ d.body) r) (sym (plug_hole d.hole (τ k s) ρ)) ∙ once in
    record {
      parameters = ρ;
      sorted = by.sorted;
      there = f.there ∙ ap Some before;
      made = sym (replaced_below q r u f.part (τ k s) (derived d (τ k s) ρ) f.there after) ∙ c.new;
    }

-- the derivative on the one term and on the other
record Sides (th : Theory) (A : List Pair) (m : ℕ) (d : Derivative) (a b : Tree) (p : Substitution) : Type 0 where
  sort : sort_of (derived d a p) ≡ sort_of d.body
  stays : Stays th A m (derived d a p) (derived d b p)

sides : (th : Theory) → IsWellFormed th → (A : List Pair) (m : ℕ) (d : Derivative) (a b : Tree) (p : Substitution) → Contains th.derivatives d
    → IsSubstitution th.signature p → IsOfSort th.signature d.hole a → IsOfSort th.signature d.hole b → Agree th A (suc m) a b → Sides th A m d a b p
sides th ok A m d a b p l w x y ag =
    let sig : Signature = th.signature in
    let body = (ok.derivatives d l).body in
    let pa = plug_substitution sig d.hole a p x.0 x.1 w in
    let pb = plug_substitution sig d.hole b p y.0 y.1 w in
    let ka = sort_of-instance_by sig (plug d.hole a p) d.body pa body in
    let kb = sort_of-instance_by sig (plug d.hole b p) d.body pb body in
    record {
      sort = ka;
      stays = record {
        well_sorted = instance_well_sorted sig (plug d.hole b p) d.body pb body;
        same_sort = kb ∙ sym ka;
        agree = next_agrees th A m d p a b l (sym x.0) w ka ag;
      };
    }

-- ---- one occurrence

-- the derivatives at the changed occurrence
sides_at : (th : Theory) (A : List Pair) (G : List Place) (m : ℕ) (σ τ : Substitution) (k s : ℕ) → IsChange th A G m σ τ k s
    → (t : Tree) (d : Derivative) (q r : List ℕ) → IsInstanceAt th t k s d q r → (p : Substitution) → IsSubstitution th.signature p
    → Sides th A m d (σ k s) (τ k s) p
sides_at th A G m σ τ k s g t d q r i p w =
    let a = g.left k s g.sort in
    let b = g.right k s g.sort in
    sides th g.well_formed A m d (σ k s) (τ k s) p i.listed w (a.0 ∙ sym i.sort, a.1) (b.0 ∙ sym i.sort, b.1) g.agree

one_stays : (th : Theory) (A : List Pair) (G : List Place) (m : ℕ) (σ τ : Substitution) (k s : ℕ) → IsChange th A G m σ τ k s
    → (t u v : Tree) → IsWellSorted th.signature t → IsWellSorted th.signature u → (p : List ℕ) → Changes σ τ k s t p u v → IsGuardedAt th G t k s p
    → Stays th A m u v
one_stays th A G m σ τ k s g t u v wt wu p c (by_place sp) =
    let a = g.left k s g.sort in
    let b = g.right k s g.sort in
    let x : Stays th A m (σ k s) (τ k s) =
    record { well_sorted = b.1; same_sort = b.0 ∙ sym a.0; agree = agree_less th A m (σ k s) (τ k s) g.agree } in
    special_stays th A G m g.places p u (σ k s) (τ k s) v (fills_special (Mixed σ τ) G p t u c.mixed sp) wu c.old x c.new
one_stays th A G m σ τ k s g t u v wt wu p c (by_hidden d q r e i h sp) =
    let P : List ℕ → Type 0 = λ x. Changes σ τ k s t x u v in
    let b = derived_at th A G m σ τ k s g t u v wt d q r i (subst P e c) in
    let x = sides_at th A G m σ τ k s g t d q r i b.parameters b.sorted in
    special_stays th A G m g.places q u (derived d (σ k s) b.parameters) (derived d (τ k s) b.parameters) v
    (fills_special (Mixed σ τ) G q t u c.mixed sp) wu b.there x.stays b.made
one_stays th A G m σ τ k s g t u v wt wu p c (by_visible d q r e i vis) =
    let P : List ℕ → Type 0 = λ x. Changes σ τ k s t x u v in
    let b = derived_at th A G m σ τ k s g t u v wt d q r i (subst P e c) in
    let x = sides_at th A G m σ τ k s g t d q r i b.parameters b.sorted in
    let y = derived d (σ k s) b.parameters in
    let z = derived d (τ k s) b.parameters in
    let V : ℕ → Type 0 = IsVisible th in
    let here : Derivable th A y z = x.stays.agree [] (omega arith) (subst V (sym x.sort) vis) in
    let f : KeepsDerivable th A u v = replaced_keeps th A q u y z v wu b.there x.stays.well_sorted x.stays.same_sort here b.made in
    record {
      well_sorted = f.well_sorted;
      same_sort = f.same_sort;
      agree = derivable_agrees th g.well_formed A m u v wu f.well_sorted f.same_sort f.derivable;
    }

-- ---- all of them

pub guarded_stays : (th : Theory) (A : List Pair) (G : List Place) (m : ℕ) (σ τ : Substitution) (k s : ℕ) → IsChange th A G m σ τ k s → DifferAt k s σ τ
    → (t : Tree) → IsWellSorted th.signature t → Guarded th G t k s → Stays th A m (instance σ t) (instance τ t)
guarded_stays th A G m σ τ k s g d t w guarded =
    let start = instance σ t in
    let ws = instance_well_sorted th.signature σ t g.left w in
    passes σ τ k s d t (Stays th A m start)
    (λ u v p c x.
    let y = one_stays th A G m σ τ k s g t u v w x.well_sorted p c (guarded p c.variable) in
    record { well_sorted = y.well_sorted; same_sort = y.same_sort ∙ x.same_sort; agree = agree_chain th A m start u v x.same_sort x.agree y.agree })
    (record { well_sorted = ws; same_sort = refl; agree = agree_same th g.well_formed A m start ws })
