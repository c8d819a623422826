-- Start terms: their arguments, that they are small and well-sorted, and what certifies them.
use Rattle.std.specs.Prelude.{◌≡◌, ◌≤◌, ◌<◌, ◌↔◌, ◌+◌, ℕ, zero, suc, true, false, ◌==◌, if◌then◌else◌, List, [], ◌∷◌, length, Option, Some, None, Result, Ok, Err, IfOk, IsTrue, Bool, refl}
use Rattle.std.specs.List.{slice_get}
use Rattle.std.specs.Option.{IfSome, option_map}
use Rattle.std.proofs.Common.{ap, sym, ◌∙◌, subst, arith}
use Rattle.std.proofs.lemmas.Bool.{eq-eqb, ne_eqb}
use Rattle.std.proofs.lemmas.Option.{same_Some}
use Rattle.circ_term.specs.Tree.{Tree, Trees, Var, App, more, sort_of, trees_of, list_of, sizes_of, depths_of}
use Rattle.circ_term.proofs.Trees.{list_of-trees_of}
use Rattle.circ_term.specs.Limits.{Limit, IsWithinLimits, first_limit}
use Rattle.circ_term.proofs.Limits.{first_limit_none}
use Rattle.circ_theory.specs.Signature.{Operator, IsWellSorted}
use Rattle.circ_theory.specs.Theory.{Theory, Derivative}
use Rattle.circ_theory.specs.WellFormed.{IsWellFormed, IsDerivative}
use Rattle.circ_theory.specs.Experiment.{derived}
use Rattle.circ_theory.specs.Fresh.{numbered_from, given_parameters, parameter_sorts, variables_from, FitSome}
use Rattle.circ_theory.proofs.Rewriting.{contains_at}
use Rattle.circ_theory.proofs.Derived.{derived-numbered_from, variables_fit, derived_by, numbered_from_substitution}
use Rattle.circ_special.specs.declared.place.Place.{Place}
use Rattle.circ_special.specs.Special.{IsPlace}
use Rattle.circ_special.specs.Guarded.{Guarded}
use Rattle.circ_proof.specs.Plain.{LinkOf}
use Rattle.circ_proof.specs.Runs.{Runs}
use Rattle.circ_proof.specs.Link.{setting, Leads}
use Rattle.circ_replay.specs.Following.{FollowsAll}
use Rattle.circ_proof.specs.Certified.{start_args, start_term, Certified}
use Rattle.circ_rules.specs.Answers.{Gives}
use Rattle.circ_rules.specs.Deriving.{IsBuilt}
use Rattle.circ_proof.proofs.Leading.{one_end}
use Rattle.circ_proof.proofs.Starting.{applied_sorted}
use Rattle.circ_proof.proofs.Derivatives.{if_some_at, some_if_at, the_derivative}

-- ---- the arguments

-- what is left of them from the place j on; k is the next number
abbrev pub args_left : (i j k : ℕ) → List ℕ → List Tree
args_left i j k [] = []
args_left i j k (s ∷ ss) = if j == i then Var 0 s ∷ args_left i (j + 1) k ss else Var k s ∷ args_left i (j + 1) (k + 1) ss

left_behind : (i j k : ℕ) (ss : List ℕ) → i < j → args_left i j k ss ≡ variables_from k ss
left_behind i j k [] l = refl
left_behind i j k (s ∷ ss) l =
    let e : (j == i) ≡ false = ne_eqb j i (λ z. absurd (omega (arith, z, l))) in
    rw e (ap (λ ts. Var k s ∷ ts) (left_behind i (j + 1) (k + 1) ss (omega (arith, l))))

pub left_start : (i j k : ℕ) (ss : List ℕ) → trees_of (args_left (j + i) j k ss) ≡ start_args i k ss
left_start zero j k [] = refl
left_start zero j k (s ∷ ss) =
    let e : (j == j + 0) ≡ true = eq-eqb j (j + 0) (omega arith) in
    rw e (ap (λ ts. more (Var 0 s) (trees_of ts)) (left_behind (j + 0) (j + 1) k ss (omega arith)))
left_start (suc i) j k [] = refl
left_start (suc i) j k (s ∷ ss) =
    let e : (j == j + suc i) ≡ false = ne_eqb j (j + suc i) (λ z. absurd (omega (arith, z))) in
    let n : j + suc i ≡ j + 1 + i = omega arith in
    rw e (ap (more (Var k s)) (ap (λ m. trees_of (args_left m (j + 1) (k + 1) ss)) n ∙ left_start i (j + 1) (k + 1) ss))

-- how large they are
pub record AreSmall (ts : Trees) (ss : List ℕ) : Type 0 where
  pub sizes : sizes_of ts ≡ length ss
  pub depths : depths_of ts ≤ 1
  pub count : length (list_of ts) ≡ length ss

variables_small : (k : ℕ) (ss : List ℕ) → AreSmall (trees_of (variables_from k ss)) ss
variables_small k [] = record { sizes = refl; depths = omega arith; count = refl }
variables_small k (s ∷ ss) =
    let r = variables_small (k + 1) ss in
    record { sizes = omega (arith, r.sizes); depths = omega (arith, r.depths); count = omega (arith, r.count) }

pub args_small : (i k : ℕ) (ss : List ℕ) → AreSmall (start_args i k ss) ss
args_small i k [] = record { sizes = refl; depths = omega arith; count = refl }
args_small zero k (s ∷ ss) =
    let r = variables_small k ss in
    record { sizes = omega (arith, r.sizes); depths = omega (arith, r.depths); count = omega (arith, r.count) }
args_small (suc i) k (s ∷ ss) =
    let r = args_small i (k + 1) ss in
    record { sizes = omega (arith, r.sizes); depths = omega (arith, r.depths); count = omega (arith, r.count) }

-- an operator on them is within the limits
pub start_within : (f i k : ℕ) (ss : List ℕ) → length ss ≤ 16 → IsWithinLimits (App f k (start_args i 1 ss))
start_within f i k ss h =
    let r = args_small i 1 ss in
    first_limit_none (App f k (start_args i 1 ss)) (omega (arith, h, r.sizes)) (omega (arith, h, r.depths))

-- so many arguments can be applied
pub few_start : (i : ℕ) (ss : List ℕ) (ts : List Tree) → length ss ≤ 16 → trees_of ts ≡ start_args i 1 ss → length ts ≤ 65536
few_start i ss ts h e =
    let r = args_small i 1 ss in
    omega (arith, h, r.count, ap (λ us. length (list_of us)) e, ap length (list_of-trees_of ts))

pub start_not_past : (f i k : ℕ) (ss : List ℕ) (ts : List Tree) (l : Limit) → length ss ≤ 16 → trees_of ts ≡ start_args i 1 ss
    → first_limit (App f k (trees_of ts)) ≡ Some l → ⊥
start_not_past f i k ss ts l h e past_limit =
    let within : first_limit (App f k (trees_of ts)) ≡ None = ap (λ us. first_limit (App f k us)) e ∙ start_within f i k ss h in
    absurd (let z = sym within ∙ past_limit in cc)

-- A certificate whose place has this operator and this sort.
record IsCertified (th : Theory) (G : List Place) (g : Place) (o : Operator) (k : ℕ) (d : Derivative) (ls : List (LinkOf Tree)) : Type 0 where
  within : IsWithinLimits (start_term o g d)
  last : Tree
  leads : Runs (Leads (setting th G [] [])) ls (start_term o g d) last
  guarded : Guarded th G last 0 k

-- ---- the start term of a place, whose operator is o, and a derivative

module _ (th : Theory) (g : Place) (o : Operator) (listed : slice_get th.signature.ops g.op ≡ Some o) (n : ℕ)
    (hole : option_map (λ d. d.hole) (slice_get th.derivatives n) ≡ Some o.result) where
  abbrev d : Derivative
  d = (the_derivative (slice_get th.derivatives n) o.result hole).0

  there : slice_get th.derivatives n ≡ Some d
  there = (the_derivative (slice_get th.derivatives n) o.result hole).1

  hole_is : d.hole ≡ o.result
  hole_is = (the_derivative (slice_get th.derivatives n) o.result hole).2

  -- it is built from the operator on variables
  module _ (ok : IsWellFormed th) (sorts : List ℕ) (named : Some sorts ≡ option_map parameter_sorts (slice_get th.derivatives n)) (params : List Tree)
      (made : params ≡ variables_from (length o.args) sorts) (start : Tree) (is_start : start ≡ App g.op o.result (start_args g.arg 1 o.args)) where
    is_derivative : IsDerivative th.signature d
    is_derivative = ok.derivatives d (contains_at th.derivatives n d there)

    params_are : params ≡ variables_from (length o.args) (parameter_sorts d)
    params_are = made ∙ ap (variables_from (length o.args)) (same_Some sorts (parameter_sorts d) (named ∙ ap (option_map parameter_sorts) there))

    sort_is : sort_of start ≡ d.hole
    sort_is = ap sort_of is_start ∙ sym hole_is

    pub start_fits : FitSome (slice_get th.derivatives n) params start
    start_fits =
        let P : Option Derivative → Type 0 = λ o. FitSome o params start in
        let Q : List Tree → Type 0 = λ ps. FitSome (Some d) ps start in
        subst P (sym there) (subst Q (sym params_are) (variables_fit d start (length o.args) sort_is))

    starts : derived d start (given_parameters params) ≡ start_term o g d
    starts =
        ap (λ ps. derived d start (given_parameters ps)) params_are ∙ derived-numbered_from th.signature d is_derivative start (length o.args)
        ∙ ap (λ t. derived d t (numbered_from (length o.args))) is_start

    pub start_built : {E : Type 0} (r : Result (Option Tree) E)
        → IfSome (slice_get th.derivatives n) (λ d. IfOk r (Gives (IsBuilt (derived d start (given_parameters params)))))
        → IfSome (slice_get th.derivatives n) (λ d. IfOk r (Gives (IsBuilt (start_term o g d))))
    start_built r x =
        let P : Tree → Type 0 = λ t. IfOk r (Gives (IsBuilt t)) in
        if_some_at (λ d. IfOk r (Gives (IsBuilt (start_term o g d)))) (slice_get th.derivatives n) d there
        (subst P starts (some_if_at (λ d. IfOk r (Gives (IsBuilt (derived d start (given_parameters params))))) (slice_get th.derivatives n) d there x))

    start_sorted : IsWellSorted th.signature (start_term o g d)
    start_sorted =
        let w : IsWellSorted th.signature start = subst (IsWellSorted th.signature) (sym is_start) (applied_sorted th ok g.op g.arg o listed) in
        let z = derived_by th.signature d start (numbered_from (length o.args)) is_derivative sort_is w (numbered_from_substitution th.signature (length o.args)) in
        subst (IsWellSorted th.signature) (ap (λ t. derived d t (numbered_from (length o.args))) is_start) z.well_sorted

    pub built_sorted : {E : Type 0} (r : Result (Option Tree) E)
        → IfSome (slice_get th.derivatives n) (λ d. IfOk r (Gives (IsBuilt (derived d start (given_parameters params)))))
        → IfOk r (λ x. IfSome x (IsWellSorted th.signature))
    built_sorted r x = go r (some_if_at (λ d. IfOk r (Gives (IsBuilt (start_term o g d)))) (slice_get th.derivatives n) d there (start_built r x))
      where
        go : {E : Type 0} (r : Result (Option Tree) E) → IfOk r (Gives (IsBuilt (start_term o g d))) → IfOk r (λ x. IfSome x (IsWellSorted th.signature))
        go (Err e) y = tt
        go (Ok None) y = tt
        go (Ok (Some t)) y = subst (IsWellSorted th.signature) (sym y.same) start_sorted

  -- ---- certificates that start with it, where the argument has the sort k

  module _ (G : List Place) (p : IsPlace th g) (k : ℕ) (argument : slice_get o.args g.arg ≡ Some k) (ls : List (LinkOf Tree)) where
    -- an operator has one declaration, and an argument one sort
    to : Certified th G g d ls → IsCertified th G g o k d ls
    to x =
        let e : x.place.operator ≡ o = same_Some x.place.operator o (sym x.place.listed ∙ listed) in
        let f : x.place.sort ≡ k = same_Some x.place.sort k (sym x.place.argument ∙ ap (λ o. slice_get o.args g.arg) e ∙ argument) in
        let P : Operator → Type 0 = λ o. IsWithinLimits (start_term o g d) in
        let Q : Operator → Type 0 = λ o. Runs (Leads (setting th G [] [])) ls (start_term o g d) x.last in
        record { within = subst P e x.within; last = x.last; leads = subst Q e x.leads; guarded = subst (Guarded th G x.last 0) f x.guarded }

    from : IsCertified th G g o k d ls → Certified th G g d ls
    from x =
        let e : p.operator ≡ o = same_Some p.operator o (sym p.listed ∙ listed) in
        let f : p.sort ≡ k = same_Some p.sort k (sym p.argument ∙ ap (λ o. slice_get o.args g.arg) e ∙ argument) in
        let P : Operator → Type 0 = λ o. IsWithinLimits (start_term o g d) in
        let Q : Operator → Type 0 = λ o. Runs (Leads (setting th G [] [])) ls (start_term o g d) x.last in
        record {
          place = p;
          within = subst P (sym e) x.within;
          last = x.last;
          leads = subst Q (sym e) x.leads;
          guarded = subst (Guarded th G x.last 0) (sym f) x.guarded;
        }

    not_certified : (Certified th G g d ls → ⊥) → IfSome (slice_get th.derivatives n) (λ d. IsTrue false ↔ Certified th G g d ls)
    not_certified refuted =
        if_some_at (λ d. IsTrue false ↔ Certified th G g d ls) (slice_get th.derivatives n) d there (λ t. absurd (cc), λ x. absurd (refuted x))

    -- the start term passes a limit
    pub no_start : IfSome (slice_get th.derivatives n) (λ d. Gives (IsBuilt (start_term o g d)) None)
        → IfSome (slice_get th.derivatives n) (λ d. IsTrue false ↔ Certified th G g d ls)
    no_start past_limit =
        let none = some_if_at (λ d. Gives (IsBuilt (start_term o g d)) None) (slice_get th.derivatives n) d there past_limit in
        not_certified (λ x. none (start_term o g d) (record { within = (to x).within; same = refl }))

    module _ (first : Tree) (built : IfSome (slice_get th.derivatives n) (λ d. Gives (IsBuilt (start_term o g d)) (Some first))) where
      is_first : IsBuilt (start_term o g d) first
      is_first = some_if_at (λ d. Gives (IsBuilt (start_term o g d)) (Some first)) (slice_get th.derivatives n) d there built

      -- a link does not apply
      pub no_last : FollowsAll (setting th G [] []) ls first None → IfSome (slice_get th.derivatives n) (λ d. IsTrue false ↔ Certified th G g d ls)
      no_last nowhere =
          let P : Tree → Type 0 = λ t. FollowsAll (setting th G [] []) ls t None in
          not_certified (λ x. let y = to x in subst P is_first.same nowhere y.last y.leads)

      -- the last term decides
      pub last_decides : (last : Tree) (b : Bool) → Runs (Leads (setting th G [] [])) ls first last → (IsTrue b ↔ Guarded th G last 0 k)
          → IfSome (slice_get th.derivatives n) (λ d. IsTrue b ↔ Certified th G g d ls)
      last_decides last b leads told =
          let P : Tree → Type 0 = λ t. Runs (Leads (setting th G [] [])) ls t last in
          let run : Runs (Leads (setting th G [] [])) ls (start_term o g d) last = subst P is_first.same leads in
          let Q : Tree → Type 0 = λ t. Guarded th G t 0 k in
          if_some_at (λ d. IsTrue b ↔ Certified th G g d ls) (slice_get th.derivatives n) d there (
            (λ t. from (record { within = is_first.within; last = last; leads = run; guarded = told.0 t })),
            (λ x. let y = to x in told.1 (subst Q (one_end (setting th G [] []) ls (start_term o g d) y.last last y.leads run) y.guarded)),
          )
