-- The normal forms of start terms, as the code finds them one by one.
use Rattle.std.specs.Prelude.{◌≡◌, ◌≤◌, ◌<◌, ◌==◌, ◌+◌, ℕ, true, false, List, [], ◌∷◌, ◌++◌, length, Option, Some, None, Result, Ok, Err, IfOk, Bool}
use Rattle.std.specs.List.{Contains, slice_get, filter}
use Rattle.std.specs.Option.{IfSome, option_map_or}
use Rattle.std.proofs.Common.{ap, sym, subst, ◌∙◌, append-nil, append_assoc}
use Rattle.std.proofs.Math.ListN.{drop_of_length-le}
use Rattle.std.proofs.lemmas.Option.{same_Some}
use Rattle.circ_term.specs.Tree.{Tree}
use Rattle.circ_term.specs.Limits.{IsWithinLimits}
use Rattle.circ_theory.specs.Signature.{Operator}
use Rattle.circ_theory.specs.Operators.{operator_of}
use Rattle.circ_theory.specs.Theory.{Theory, Derivative}
use Rattle.circ_theory.proofs.Casing.{contains_first}
use Rattle.circ_theory.proofs.Weakening.{in_rest}
use Rattle.circ_special.specs.declared.place.Place.{Place}
use Rattle.circ_special.specs.Special.{IsPlace}
use Rattle.circ_conditional_norm.specs.Norm.{conditional_norm}
use Rattle.circ_rewrite.specs.TheoryRules.{theory_rules}
use Rattle.circ_rewrite.specs.declared.parts.Normal.{Normal}
use Rattle.circ_rules.specs.Admitting.{IsStart}
use Rattle.circ_rules.specs.Answers.{Gives}
use Rattle.circ_proof.specs.Certified.{start_term, derivatives_at}
use Rattle.circ_rules.specs.Deriving.{IsBuilt}
use Rattle.circ_rules.specs.declared.certificates.Start.{Start}
use Rattle.circ_proof.proofs.Derivatives.{StartsWith, derivative_at, from_number, taken_next, passed_next, if_some_at, some_if_at}
use Rattle.circ_contexts.specs.Candidates.{ComesTo, GivesNormal, AreNormals}
use Rattle.circ_plain_search.specs.Greatest.{IsCandidate}

module _ (th : Theory) (budget : ℕ) where
  -- ---- one start term

  module _ (s : Start) (start : IsStart th s) (d : Derivative) where
    abbrev o : Operator
    o = operator_of s.decl.now

    its : (p : IsPlace th s.place) → p.operator ≡ o
    its p = same_Some p.operator o (sym p.listed ∙ start.listed)

    -- what it comes to
    pub start_comes : (t : Tree) → IsBuilt (start_term o s.place d) t → (x : Option Normal)
        → ComesTo (conditional_norm 0 th.signature (theory_rules th) [] budget t) x → GivesNormal th budget s.place d x
    start_comes t w None c = λ normal traces h.
        let same : conditional_norm 0 th.signature (theory_rules th) [] budget t ≡ conditional_norm 0 th.signature (theory_rules th) [] budget (start_term h.place.operator s.place d)
        = ap (conditional_norm 0 th.signature (theory_rules th) [] budget) w.same
        ∙ ap (λ o. conditional_norm 0 th.signature (theory_rules th) [] budget (start_term o s.place d)) (sym (its h.place)) in
        c normal traces h.left (same ∙ h.form)
    start_comes t w (Some n) c =
        let p = start.place in
        let P : Operator → Type 0 = λ o. IsWithinLimits (start_term o s.place d) in
        let same : conditional_norm 0 th.signature (theory_rules th) [] budget (start_term p.operator s.place d) ≡ conditional_norm 0 th.signature (theory_rules th) [] budget t
        = ap (λ o. conditional_norm 0 th.signature (theory_rules th) [] budget (start_term o s.place d)) (its p)
        ∙ ap (conditional_norm 0 th.signature (theory_rules th) [] budget) (sym w.same) in
        record { place = p; within = subst P (sym (its p)) w.within; left = c.0; form = same ∙ c.1 }

  -- the same for the derivative of a number
  module _ (s : Start) (start : IsStart th s) (i : ℕ) (d : Derivative) (there : slice_get th.derivatives i ≡ Some d) where
    pub comes_at : (t : Tree) → IfSome (slice_get th.derivatives i) (λ d. Gives (IsBuilt (start_term (operator_of s.decl.now) s.place d)) (Some t))
        → {E : Type 0} (r : Result (Option Normal) E)
        → IfOk r (ComesTo (conditional_norm 0 th.signature (theory_rules th) [] budget t)) → IfSome (slice_get th.derivatives i) (λ d. IfOk r (GivesNormal th budget s.place d))
    comes_at t x r y =
        let w = some_if_at (λ d. Gives (IsBuilt (start_term (operator_of s.decl.now) s.place d)) (Some t)) (slice_get th.derivatives i) d there x in
        if_some_at (λ d. IfOk r (GivesNormal th budget s.place d)) (slice_get th.derivatives i) d there (go r y w)
      where
        go : {E : Type 0} (r : Result (Option Normal) E) → IfOk r (ComesTo (conditional_norm 0 th.signature (theory_rules th) [] budget t))
            → IsBuilt (start_term (operator_of s.decl.now) s.place d) t → IfOk r (GivesNormal th budget s.place d)
        go (Ok x) y w = start_comes s start d t w x y
        go (Err x) y w = tt

  -- ---- those of a place, one after another

  -- What is found up to the derivative of number i, for a place whose operator has this result.
  pub record NormalsTo (g : Place) (result i : ℕ) (ns : List Normal) : Type 0 where
    pub rest : (ms : List Normal) → AreNormals th budget g (from_number th.derivatives result i) ms
        → AreNormals th budget g (derivatives_at th g) (ns ++ ms)
    pub among : (d : Derivative) → Contains (from_number th.derivatives result i) d → Contains (derivatives_at th g) d

  module _ (g : Place) (result i : ℕ) (ns : List Normal) (within : i < length th.derivatives) (st : NormalsTo g result i ns) where
    abbrev d : Derivative
    d = (derivative_at th.derivatives i within).0

    abbrev test : Bool
    test = option_map_or (λ d. d.hole == result) (slice_get th.derivatives i) false

    at : StartsWith th.derivatives i d
    at = (derivative_at th.derivatives i within).1

    is_next : test ≡ true → from_number th.derivatives result i ≡ d ∷ from_number th.derivatives result (i + 1)
    is_next e = taken_next th.derivatives result i d at e

    pub normals_passed : test ≡ false → NormalsTo g result (i + 1) ns
    normals_passed e =
        let next = passed_next th.derivatives result i d at e in
        record {
          rest = λ ms a. let Q : List Derivative → Type 0 = λ ds. AreNormals th budget g ds ms in st.rest ms (subst Q (sym next) a);
          among = λ x c. let Q : List Derivative → Type 0 = λ ds. Contains ds x in st.among x (subst Q (sym next) c);
        }

    pub normals_taken : test ≡ true → (n : Normal) → IfSome (slice_get th.derivatives i) (λ d. GivesNormal th budget g d (Some n))
        → NormalsTo g result (i + 1) (ns ++ n ∷ [])
    normals_taken e n x =
        let h = some_if_at (λ d. GivesNormal th budget g d (Some n)) (slice_get th.derivatives i) d at.there x in
        let next = is_next e in
        let all : List Normal → Type 0 = AreNormals th budget g (derivatives_at th g) in
        record {
          rest = λ ms a.
              let Q : List Derivative → Type 0 = λ ds. AreNormals th budget g ds (n ∷ ms) in
              subst all (sym (append_assoc ns (n ∷ []) ms)) (st.rest (n ∷ ms) (subst Q (sym next) (h, a)));
          among = λ y c.
              let Q : List Derivative → Type 0 = λ ds. Contains ds y in
              st.among y (subst Q (sym next) (in_rest d y (from_number th.derivatives result (i + 1)) c));
        }

    -- a start term without a normal form: the place is no candidate
    pub normals_missing : test ≡ true → IfSome (slice_get th.derivatives i) (λ d. GivesNormal th budget g d None) → IsCandidate th budget g → ⊥
    normals_missing e x c =
        let h = some_if_at (λ d. GivesNormal th budget g d None) (slice_get th.derivatives i) d at.there x in
        let Q : List Derivative → Type 0 = λ ds. Contains ds d in
        let has = c.normal_forms d (st.among d (subst Q (sym (is_next e)) (contains_first d (from_number th.derivatives result (i + 1))))) in
        h has.0 has.1 has.2

  pub normals_last : (g : Place) (result i : ℕ) (ns : List Normal) → length th.derivatives ≤ i → NormalsTo g result i ns
      → AreNormals th budget g (derivatives_at th g) ns
  normals_last g result i ns past st =
      let none : from_number th.derivatives result i ≡ [] = ap (filter (λ d. d.hole == result)) (drop_of_length-le th.derivatives past) in
      let Q : List Derivative → Type 0 = λ ds. AreNormals th budget g ds [] in
      subst (AreNormals th budget g (derivatives_at th g)) (append-nil ns) (st.rest [] (subst Q (sym none) tt))
