-- The derivatives of a theory, one after another, and the instances of one on a goal.
use Rattle.std.specs.Prelude.{◌≡◌, ◌<◌, ◌+◌, ℕ, zero, suc, Bool, true, false, ◌==◌, List, [], ◌∷◌, length, drop, Option, Some, None, refl}
use Rattle.std.specs.List.{filter, slice_get}
use Rattle.std.specs.Option.{IfSome, option_map, option_map_or}
use Rattle.std.proofs.Common.{ap, sym, ◌∙◌, subst, arith}
use Rattle.std.proofs.lemmas.Bool.{eqb-true}
use Rattle.std.proofs.lemmas.Option.{same_Some}
use Rattle.circ_term.specs.Tree.{Tree, sort_of}
use Rattle.circ_theory.specs.Theory.{Theory, Derivative, IsWellSortedGoal}
use Rattle.circ_theory.specs.WellFormed.{IsWellFormed, IsDerivative}
use Rattle.circ_theory.specs.Experiment.{derived}
use Rattle.circ_theory.specs.Fresh.{fresh_in, numbered_from, given_parameters, parameter_sorts, variables_from, FitSome}
use Rattle.circ_theory.specs.Goal.{Goal}
use Rattle.circ_theory.proofs.Rewriting.{contains_at}
use Rattle.circ_theory.proofs.Derived.{derived-numbered_from, variables_fit}

pub if_some_at : {X : Type 0} (P : X → Type 0) (o : Option X) (x : X) → o ≡ Some x → P x → IfSome o P
if_some_at P o x e p = let Q : Option _ → Type 0 = λ o. IfSome o P in subst Q (sym e) p

pub some_if_at : {X : Type 0} (P : X → Type 0) (o : Option X) (x : X) → o ≡ Some x → IfSome o P → P x
some_if_at P o x e p = let Q : Option _ → Type 0 = λ o. IfSome o P in subst Q e p

-- the derivative that a hole's sort was read from
pub the_derivative : (o : Option Derivative) (s : ℕ) → option_map (λ d. d.hole) o ≡ Some s → (d : Derivative) × (o ≡ Some d) × (d.hole ≡ s)
the_derivative None s e = absurd (cc)
the_derivative (Some d) s e = (d, refl, same_Some d.hole s e)

-- a derivative of the theory on a goal, with variables numbered from k for its parameters
module _ (th : Theory) (ok : IsWellFormed th) (n : ℕ) (g : Goal) (w : IsWellSortedGoal th g) (k : ℕ) (fresh : k ≡ fresh_in g)
    (hole : option_map (λ d. d.hole) (slice_get th.derivatives n) ≡ Some (sort_of g.left)) (sorts : List ℕ)
    (listed : Some sorts ≡ option_map parameter_sorts (slice_get th.derivatives n)) (params : List Tree) (made : params ≡ variables_from k sorts) where
  abbrev pub d : Derivative
  d = (the_derivative (slice_get th.derivatives n) (sort_of g.left) hole).0

  there : slice_get th.derivatives n ≡ Some d
  there = (the_derivative (slice_get th.derivatives n) (sort_of g.left) hole).1

  sort_is : d.hole ≡ sort_of g.left
  sort_is = (the_derivative (slice_get th.derivatives n) (sort_of g.left) hole).2

  is_derivative : IsDerivative th.signature d
  is_derivative = ok.derivatives d (contains_at th.derivatives n d there)

  pub sorts_are : sorts ≡ parameter_sorts d
  sorts_are = same_Some sorts (parameter_sorts d) (listed ∙ ap (option_map parameter_sorts) there)

  params_are : params ≡ variables_from k (parameter_sorts d)
  params_are = made ∙ ap (variables_from k) sorts_are

  fits : (t : Tree) → sort_of t ≡ d.hole → FitSome (slice_get th.derivatives n) params t
  fits t e =
      let P : Option Derivative → Type 0 = λ o. FitSome o params t in
      let Q : List Tree → Type 0 = λ ps. FitSome (Some d) ps t in
      subst P (sym there) (subst Q (sym params_are) (variables_fit d t k e))

  pub left_fits : FitSome (slice_get th.derivatives n) params g.left
  left_fits = fits g.left (sym sort_is)

  pub right_fits : FitSome (slice_get th.derivatives n) params g.right
  right_fits = fits g.right (w.sorted.same_sort ∙ sym sort_is)

  -- its parameters are numbered behind the goal's variables
  pub numbered : (t : Tree) → derived d t (given_parameters params) ≡ derived d t (numbered_from (fresh_in g))
  numbered t =
      ap (λ ps. derived d t (given_parameters ps)) params_are ∙ derived-numbered_from th.signature d is_derivative t k
      ∙ ap (λ m. derived d t (numbered_from m)) fresh

-- ---- the loop over a theory's derivatives

-- the derivatives from a number on, of which the first is d
pub record StartsWith (ds : List Derivative) (i : ℕ) (d : Derivative) : Type 0 where
  pub there : slice_get ds i ≡ Some d
  pub rest : drop i ds ≡ d ∷ drop (i + 1) ds

pub derivative_at : (ds : List Derivative) (i : ℕ) → i < length ds → (d : Derivative) × StartsWith ds i d
derivative_at [] i h = absurd (omega arith)
derivative_at (d ∷ ds) zero h = (d, record { there = refl; rest = refl })
derivative_at (d ∷ ds) (suc i) h =
    let r = derivative_at ds i (omega arith) in
    let e : suc i + 1 ≡ suc (i + 1) = omega arith in
    (r.0, record { there = r.1.there; rest = rw e r.1.rest })

-- those of a sort, from a number on
abbrev pub from_number : (ds : List Derivative) (sort i : ℕ) → List Derivative
from_number ds s i = filter (λ d. d.hole == s) (drop i ds)

hole_test : (o : Option Derivative) (s : ℕ) (d : Derivative) (b : Bool) → o ≡ Some d → option_map_or (λ d. d.hole == s) o false ≡ b → (d.hole == s) ≡ b
hole_test o s d b there e = sym (ap (λ o. option_map_or (λ d. d.hole == s) o false) there) ∙ e

pub taken_next : (ds : List Derivative) (s i : ℕ) (d : Derivative) → StartsWith ds i d → option_map_or (λ d. d.hole == s) (slice_get ds i) false ≡ true
    → from_number ds s i ≡ d ∷ from_number ds s (i + 1)
taken_next ds s i d at e = ap (filter (λ d. d.hole == s)) at.rest ∙ (let t = hole_test (slice_get ds i) s d true at.there e in rw t refl)

pub passed_next : (ds : List Derivative) (s i : ℕ) (d : Derivative) → StartsWith ds i d → option_map_or (λ d. d.hole == s) (slice_get ds i) false ≡ false
    → from_number ds s i ≡ from_number ds s (i + 1)
passed_next ds s i d at e = ap (filter (λ d. d.hole == s)) at.rest ∙ (let t = hole_test (slice_get ds i) s d false at.there e in rw t refl)

-- that the hole was tested
pub hole_is : (ds : List Derivative) (s i : ℕ) → option_map_or (λ d. d.hole == s) (slice_get ds i) false ≡ true → option_map (λ d. d.hole) (slice_get ds i) ≡ Some s
hole_is ds s i e = go (slice_get ds i) e
  where
    go : (o : Option Derivative) → option_map_or (λ d. d.hole == s) o false ≡ true → option_map (λ d. d.hole) o ≡ Some s
    go None e = absurd (cc)
    go (Some d) e = ap Some (eqb-true d.hole s e)
