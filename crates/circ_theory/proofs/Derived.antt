-- Instances of derivatives on terms for their parameters.
use Rattle.std.proofs.Common.{◌≡◌, ◌≤◌, ℕ, ◌+◌, ◌-◌, suc, Bool, true, false, ◌==◌, ◌&&◌, if◌then◌else◌, List, [], ◌∷◌, ◌++◌, map, length, Option, Some, Result}
use Rattle.std.proofs.Common.{refl, ap, sym, subst, ◌∙◌, arith}
use Rattle.std.specs.List.{AllByRecursion, filter, slice_get}
use Rattle.std.specs.Option.{IfSome}
use Rattle.std.proofs.lemmas.List.{length-map}
use Rattle.std.proofs.lemmas.Bool.{eqb-true, eq-eqb, ne_eqb}
use Rattle.circ_term.specs.Tree.{Tree, Trees, Var, App, none, more, sort_of}
use Rattle.circ_term.specs.Substitution.{Substitution, instance, instances}
use Rattle.circ_term.specs.Limits.{Builds}
use Rattle.circ_term.specs.declared.fault.TermFault.{TermFault}
use Rattle.circ_term.proofs.Instances.{instance-same}
use Rattle.circ_theory.specs.Signature.{Signature, IsWellSorted, IsSubstitution}
use Rattle.circ_theory.specs.Limits.{parameter_limit}
use Rattle.circ_theory.specs.Theory.{Theory, Derivative}
use Rattle.circ_pairs.specs.Variables.{Variable, occurrences, all_occurrences, AreNumberedFrom, numbered, given}
use Rattle.circ_theory.specs.WellFormed.{IsDerivative, IsWellFormed}
use Rattle.circ_theory.specs.Experiment.{plug, derived}
use Rattle.circ_pairs.specs.Slots.{is_hole, is_parameter}
use Rattle.circ_pairs.specs.Fresh.{variables_from}
use Rattle.circ_theory.specs.Fresh.{numbered_from, given_parameters, parameter_sorts, FitDerivative, FitSome}
use Rattle.circ_theory.proofs.Lists.{all_by}
use Rattle.circ_pairs.proofs.Numbering.{numbered-sorts}
use Rattle.circ_theory.proofs.Instances.{sort_of-instance_by, instance_well_sorted}
use Rattle.circ_theory.proofs.Rewriting.{contains_at}
use Rattle.circ_theory.proofs.Behaviour.{plug_substitution}

-- ---- sorts

-- an instance on well-sorted terms is well-sorted, of the body's sort
pub record IsWellDerived (sig : Signature) (d : Derivative) (u : Tree) : Type 0 where
  pub well_sorted : IsWellSorted sig u
  pub same_sort : sort_of u ≡ sort_of d.body

pub derived_by : (sig : Signature) (d : Derivative) (t : Tree) (p : Substitution) → IsDerivative sig d → sort_of t ≡ d.hole → IsWellSorted sig t
    → IsSubstitution sig p → IsWellDerived sig d (derived d t p)
derived_by sig d t p i e w s =
    let σ = plug_substitution sig d.hole t p e w s in
    record {
      well_sorted = instance_well_sorted sig (plug d.hole t p) d.body σ i.body;
      same_sort = sort_of-instance_by sig (plug d.hole t p) d.body σ i.body;
    }

pub numbered_from_substitution : (sig : Signature) (k : ℕ) → IsSubstitution sig (numbered_from k)
numbered_from_substitution sig k = λ n s h. (refl, h)

-- ---- substitutions that agree where variables occur

all_append : {X : Type 0} (P : X → Type 0) (xs ys : List X) → AllByRecursion P (xs ++ ys) → AllByRecursion P xs × AllByRecursion P ys
all_append P [] ys a = (tt, a)
all_append P (x ∷ xs) ys a = let r = all_append P xs ys a.1 in ((a.0, r.0), r.1)

-- the substitutions agree at the variable
abbrev pub AgreeAt : Substitution → Substitution → Variable → Type 0
AgreeAt σ τ v = σ v.number v.sort ≡ τ v.number v.sort

mutual
  pub instance-agree : (σ τ : Substitution) (t : Tree) → AllByRecursion (AgreeAt σ τ) (occurrences t) → instance σ t ≡ instance τ t
  instance-agree σ τ (Var n s) a = a.0
  instance-agree σ τ (App f s ts) a = ap (App f s) (instances-agree σ τ ts a)

  pub instances-agree : (σ τ : Substitution) (ts : Trees) → AllByRecursion (AgreeAt σ τ) (all_occurrences ts) → instances σ ts ≡ instances τ ts
  instances-agree σ τ none a = refl
  instances-agree σ τ (more t ts) a =
      let r = all_append (AgreeAt σ τ) (occurrences t) (all_occurrences ts) a in
      ap (λ x. more x (instances σ ts)) (instance-agree σ τ t r.0) ∙ ap (more (instance τ t)) (instances-agree σ τ ts r.1)

-- what holds of the holes and of the parameters holds of all variables
both_kinds : (P : Variable → Type 0) (vs : List Variable) → AllByRecursion P (filter is_hole vs) → AllByRecursion P (filter is_parameter vs)
    → AllByRecursion P vs
both_kinds P [] a b = tt
both_kinds P (v ∷ vs) a b = go (is_hole v) refl (λ x y. both_kinds P vs x y)
  where
    go : (h : Bool) → is_hole v ≡ h → (AllByRecursion P (filter is_hole vs) → AllByRecursion P (filter is_parameter vs) → AllByRecursion P vs)
        → AllByRecursion P (v ∷ vs)
    go true e ih = let x = rw e at a in let y = rw e at b in (x.0, ih x.1 y)
    go false e ih = let x = rw e at a in let y = rw e at b in (y.0, ih x y.1)

-- the holes are variables 0 of the sorts that are told
holes_are : (σ τ : Substitution) (h : ℕ) (vs : List Variable) → σ 0 h ≡ τ 0 h → AllByRecursion (λ s. s ≡ h) (map (λ v. v.sort) (filter is_hole vs))
    → AllByRecursion (AgreeAt σ τ) (filter is_hole vs)
holes_are σ τ h [] e a = tt
holes_are σ τ h (v ∷ vs) e a = go (is_hole v) refl (λ x. holes_are σ τ h vs e x)
  where
    go : (b : Bool) → is_hole v ≡ b → (AllByRecursion (λ s. s ≡ h) (map (λ v. v.sort) (filter is_hole vs)) → AllByRecursion (AgreeAt σ τ) (filter is_hole vs))
        → AllByRecursion (AgreeAt σ τ) (if is_hole v then v ∷ filter is_hole vs else filter is_hole vs)
    go true q ih =
        let x = rw q at a in
        let number : v.number ≡ 0 = eqb-true v.number 0 q in
        let here : σ v.number v.sort ≡ τ v.number v.sort =
        ap (λ n. σ n v.sort) number ∙ ap (σ 0) x.0 ∙ e ∙ ap (τ 0) (sym x.0) ∙ ap (λ n. τ n v.sort) (sym number) in
        rw q (here, ih x.1)
    go false q ih = let x = rw q at a in rw q (ih x)

-- substitutions that agree at the hole and at the parameters
pub derivative_agree : (sig : Signature) (d : Derivative) → IsDerivative sig d → (σ τ : Substitution) → σ 0 d.hole ≡ τ 0 d.hole
    → AllByRecursion (AgreeAt σ τ) (filter is_parameter (occurrences d.body)) → instance σ d.body ≡ instance τ d.body
derivative_agree sig d i σ τ hole params =
    let P : List ℕ → Type 0 = AllByRecursion (λ s. s ≡ d.hole) in
    instance-agree σ τ d.body
    (both_kinds (AgreeAt σ τ) (occurrences d.body) (holes_are σ τ d.hole (occurrences d.body) hole (subst P (sym i.one_hole) (refl, tt))) params)

pub plug_hole : (h : ℕ) (t : Tree) (p : Substitution) → plug h t p 0 h ≡ t
plug_hole h t p = let x = eq-eqb h h refl in rw x refl

pub plug_parameter : (h : ℕ) (t : Tree) (p : Substitution) (n s : ℕ) → plug h t p (suc n) s ≡ p (suc n) s
plug_parameter h t p n s = go (suc n == 0) refl
  where
    go : (b : Bool) → (suc n == 0) ≡ b → (if (suc n == 0) && (s == h) then t else p (suc n) s) ≡ p (suc n) s
    go true e = absurd (let z = eqb-true (suc n) 0 e in omega (arith, z))
    go false e = rw e refl

-- parameters that agree at each one that occurs
pub derived_agree : (sig : Signature) (d : Derivative) → IsDerivative sig d → (t : Tree) (p q : Substitution)
    → AllByRecursion (AgreeAt p q) (filter is_parameter (occurrences d.body)) → derived d t p ≡ derived d t q
derived_agree sig d i t p q a =
    let plugged : (v : Variable) → AgreeAt p q v → AgreeAt (plug d.hole t p) (plug d.hole t q) v
    = λ v e. ap (λ x. if (v.number == 0) && (v.sort == d.hole) then t else x) e in
    derivative_agree sig d i (plug d.hole t p) (plug d.hole t q) (plug_hole d.hole t p ∙ sym (plug_hole d.hole t q))
    (all_by (AgreeAt p q) (AgreeAt (plug d.hole t p) (plug d.hole t q)) (filter is_parameter (occurrences d.body)) plugged a)

-- ---- fresh parameters

pub sorts-variables_from : (k : ℕ) (ss : List ℕ) → map sort_of (variables_from k ss) ≡ ss
sorts-variables_from k [] = refl
sorts-variables_from k (s ∷ ss) = ap (λ xs. s ∷ xs) (sorts-variables_from (k + 1) ss)

-- variables numbered from j are given those numbered from k
record IsGivenFrom (k j : ℕ) (vs : List Variable) (v : Variable) : Type 0 where
  later : j ≤ v.number
  given_it : given vs (variables_from k (map (λ v. v.sort) vs)) v.number v.sort ≡ Var (k + (v.number - j)) v.sort

apart : {n m j : ℕ} → n ≡ m → n ≡ j → j + 1 ≤ m → ⊥
apart e f g = omega (arith, e, f, g)

given_from : (k j : ℕ) (vs : List Variable) → AreNumberedFrom j vs → AllByRecursion (IsGivenFrom k j vs) vs
given_from k j [] h = tt
given_from k j (v ∷ vs) h =
    (first, all_by (IsGivenFrom (k + 1) (j + 1) vs) (IsGivenFrom k j (v ∷ vs)) vs rest (given_from (k + 1) (j + 1) vs h.1))
  where
    first : IsGivenFrom k j (v ∷ vs) v
    first =
        let number = eq-eqb v.number v.number refl in
        let sort = eq-eqb v.sort v.sort refl in
        let e : k ≡ k + (v.number - j) = omega (arith, h.0) in
        record { later = omega (arith, h.0); given_it = rw (number, sort) (ap (λ n. Var n v.sort) e) }

    rest : (w : Variable) → IsGivenFrom (k + 1) (j + 1) vs w → IsGivenFrom k j (v ∷ vs) w
    rest w a =
        let other : (v.number == w.number) ≡ false = ne_eqb v.number w.number (λ e. apart e h.0 a.later) in
        let number : (k + 1) + (w.number - (j + 1)) ≡ k + (w.number - j) = omega (arith, a.later) in
        record { later = omega (arith, a.later); given_it = rw other (a.given_it ∙ ap (λ n. Var n w.sort) number) }

-- with variables numbered from k for the parameters, the instance is the one with the parameters numbered from k
pub derived-numbered_from : (sig : Signature) (d : Derivative) → IsDerivative sig d → (t : Tree) (k : ℕ)
    → derived d t (given_parameters (variables_from k (parameter_sorts d))) ≡ derived d t (numbered_from k)
derived-numbered_from sig d i t k =
    derived_agree sig d i t (given_parameters us) (numbered_from k)
    (all_by (IsGivenFrom k 1 ps) (AgreeAt (given_parameters us) (numbered_from k)) ps here (given_from k 1 ps i.numbered))
  where
    us : List Tree
    us = variables_from k (parameter_sorts d)

    ps : List Variable
    ps = filter is_parameter (occurrences d.body)

    own : numbered 1 (map sort_of (variables_from k (parameter_sorts d))) ≡ ps
    own = ap (numbered 1) (sorts-variables_from k (parameter_sorts d)) ∙ numbered-sorts 1 ps i.numbered

    here : (v : Variable) → IsGivenFrom k 1 ps v → AgreeAt (given_parameters us) (numbered_from k) v
    here v a = ap (λ ws. given ws us v.number v.sort) own ∙ a.given_it

-- such variables fit
pub variables_fit : (d : Derivative) (t : Tree) (k : ℕ) → sort_of t ≡ d.hole → FitDerivative d (variables_from k (parameter_sorts d)) t
variables_fit d t k e = record { parameters = sorts-variables_from k (parameter_sorts d); hole = e }

-- there are as few terms as a derivative may have parameters
pub few_given : (th : Theory) → IsWellFormed th → (n : ℕ) (d : Derivative) (ts : List Tree) (t : Tree) → slice_get th.derivatives n ≡ Some d
    → FitSome (slice_get th.derivatives n) ts t → length ts ≤ parameter_limit
few_given th ok n d ts t e f =
    let P : Option Derivative → Type 0 = λ o. FitSome o ts t in
    let g : FitDerivative d ts t = subst P e f in
    let i : IsDerivative th.signature d = ok.derivatives d (contains_at th.derivatives n d e) in
    let vs : List Variable = filter is_parameter (occurrences d.body) in
    omega (arith, i.few, length-map ts sort_of, ap length g.parameters, length-map vs (λ v. v.sort), length-map vs (λ v. v.number))

-- an instance under what puts the terms in their places
pub instance_built : (o : Option Derivative) (d : Derivative) (t : Tree) (p σ : Substitution) (r : Result Tree TermFault) → Some d ≡ o
    → ((n s : ℕ) → σ n s ≡ plug d.hole t p n s) → Builds r (instance σ d.body) → IfSome o (λ d. Builds r (derived d t p))
instance_built o d t p σ r e same b =
    let P : Tree → Type 0 = Builds r in
    let Q : Option Derivative → Type 0 = λ o. IfSome o (λ d. Builds r (derived d t p)) in
    subst Q e (subst P (instance-same σ (plug d.hole t p) d.body same) b)
