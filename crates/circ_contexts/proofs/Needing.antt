-- What the normal forms of start terms need, as the code finds them one by one.
use Rattle.std.specs.Prelude.{◌≡◌, ◌≤◌, ◌<◌, ◌==◌, ◌+◌, ℕ, true, false, List, [], ◌∷◌, length, Option, Some, None, Result, Ok, Err, IfOk, Bool, ◌↔◌}
use Rattle.std.specs.List.{Contains, slice_get, filter}
use Rattle.std.specs.Option.{IfSome, option_map_or}
use Rattle.std.proofs.Common.{ap, sym, subst, ◌∙◌}
use Rattle.std.proofs.Math.ListN.{drop_of_length-le}
use Rattle.std.proofs.lemmas.Option.{same_Some}
use Rattle.circ_term.specs.Tree.{Tree}
use Rattle.circ_term.specs.Limits.{IsWithinLimits}
use Rattle.circ_theory.specs.Signature.{Operator}
use Rattle.circ_theory.specs.Operators.{operator_of}
use Rattle.circ_theory.specs.Theory.{Theory, Derivative}
use Rattle.circ_theory.proofs.Casing.{contains_first}
use Rattle.circ_theory.proofs.Weakening.{in_rest}
use Rattle.circ_special.specs.declared.place.Place.{Place}
use Rattle.circ_special.specs.Special.{IsPlace}
use Rattle.circ_special.specs.Guarded.{Guarded}
use Rattle.circ_needs.specs.Needs.{HasAll}
use Rattle.circ_conditional_norm.specs.Norm.{conditional_norm}
use Rattle.circ_rewrite.specs.TheoryRules.{theory_rules}
use Rattle.circ_rewrite.specs.Replacement.{Traced}
use Rattle.circ_rules.specs.Admitting.{IsStart}
use Rattle.circ_rules.specs.Answers.{Gives}
use Rattle.circ_proof.specs.Certified.{start_term, derivatives_at}
use Rattle.circ_rules.specs.Deriving.{IsBuilt}
use Rattle.circ_rules.specs.declared.certificates.Start.{Start}
use Rattle.circ_proof.proofs.Derivatives.{StartsWith, derivative_at, from_number, taken_next, passed_next, if_some_at, some_if_at}
use Rattle.circ_contexts.specs.Candidates.{ComesToTerm, GivesTerm, HaveNormalForms, GuardsNormals, AddsNeeds, AreNeeds}
use Rattle.circ_plain_search.specs.Greatest.{HasNormalForm, IsCandidate}
use Rattle.circ_plain_search.proofs.Keeping.{contains_none, pick}
use Rattle.circ_plain_search.proofs.Unique.{one_normal}

module _ (th : Theory) (budget : ℕ) where
  -- ---- one start term

  module _ (s : Start) (start : IsStart th s) (d : Derivative) where
    abbrev o : Operator
    o = operator_of s.decl.now

    its : (p : IsPlace th s.place) → p.operator ≡ o
    its p = same_Some p.operator o (sym p.listed ∙ start.listed)

    -- what it comes to
    pub term_comes : (t : Tree) → IsBuilt (start_term o s.place d) t → (x : Option Tree)
        → ComesToTerm (conditional_norm 0 th.signature (theory_rules th) [] budget t) x → GivesTerm th budget s.place d x
    term_comes t w None c = λ normal traces h.
        let same : conditional_norm 0 th.signature (theory_rules th) [] budget t ≡ conditional_norm 0 th.signature (theory_rules th) [] budget (start_term h.place.operator s.place d)
        = ap (conditional_norm 0 th.signature (theory_rules th) [] budget) w.same
        ∙ ap (λ o. conditional_norm 0 th.signature (theory_rules th) [] budget (start_term o s.place d)) (sym (its h.place)) in
        c normal traces h.left (same ∙ h.form)
    term_comes t w (Some n) c =
        let p = start.place in
        let P : Operator → Type 0 = λ o. IsWithinLimits (start_term o s.place d) in
        let same : conditional_norm 0 th.signature (theory_rules th) [] budget (start_term p.operator s.place d) ≡ conditional_norm 0 th.signature (theory_rules th) [] budget t
        = ap (λ o. conditional_norm 0 th.signature (theory_rules th) [] budget (start_term o s.place d)) (its p)
        ∙ ap (conditional_norm 0 th.signature (theory_rules th) [] budget) (sym w.same) in
        (c.0, record { place = p; within = subst P (sym (its p)) w.within; left = c.1; form = same ∙ c.2 })

    -- the sort of its place
    pub sort_is : (p : IsPlace th s.place) → p.sort ≡ s.sort
    sort_is p =
        same_Some p.sort s.sort (sym p.argument ∙ ap (λ (x : Operator). slice_get x.args s.place.arg) (its p) ∙ start.argument)

  -- the same for the derivative of a number
  module _ (s : Start) (start : IsStart th s) (i : ℕ) (d : Derivative) (there : slice_get th.derivatives i ≡ Some d) where
    pub term_at : (t : Tree) → IfSome (slice_get th.derivatives i) (λ d. Gives (IsBuilt (start_term (operator_of s.decl.now) s.place d)) (Some t))
        → {E : Type 0} (r : Result (Option Tree) E)
        → IfOk r (ComesToTerm (conditional_norm 0 th.signature (theory_rules th) [] budget t)) → IfSome (slice_get th.derivatives i) (λ d. IfOk r (GivesTerm th budget s.place d))
    term_at t x r y =
        let w = some_if_at (λ d. Gives (IsBuilt (start_term (operator_of s.decl.now) s.place d)) (Some t)) (slice_get th.derivatives i) d there x in
        if_some_at (λ d. IfOk r (GivesTerm th budget s.place d)) (slice_get th.derivatives i) d there (go r y w)
      where
        go : {E : Type 0} (r : Result (Option Tree) E) → IfOk r (ComesToTerm (conditional_norm 0 th.signature (theory_rules th) [] budget t))
            → IsBuilt (start_term (operator_of s.decl.now) s.place d) t → IfOk r (GivesTerm th budget s.place d)
        go (Ok x) y w = term_comes s start d t w x y
        go (Err x) y w = tt

  -- the normal form, and what it needs
  pub adds_needs : (g : Place) (s : ℕ) (old new : List Place) (t : Tree) (o : Option Derivative) → IfSome o (λ d. GivesTerm th budget g d (Some t))
      → ((G : List Place) → HasAll G new ↔ (HasAll G old × Guarded th G t 0 s)) → IfSome o (λ d. AddsNeeds th budget g s d old new true)
  adds_needs g s old new t None x h = tt
  adds_needs g s old new t (Some d) x h = (t, x.0, x.1, h)

  -- ---- those of a place, one after another

  -- What is needed up to the derivative of number i, for a place whose operator has this result.
  pub record NeedsTo (g : Place) (result i : ℕ) (ps : List Place) : Type 0 where
    pub guards : (G : List Place) → (HasAll G ps × GuardsNormals th budget G g (from_number th.derivatives result i))
        ↔ GuardsNormals th budget G g (derivatives_at th g)
    pub forms : HaveNormalForms th budget g (from_number th.derivatives result i) → HaveNormalForms th budget g (derivatives_at th g)
    pub among : (d : Derivative) → Contains (from_number th.derivatives result i) d → Contains (derivatives_at th g) d

  -- the same of any derivatives
  abbrev NeedsBy : Place → List Place → (ds whole : List Derivative) → Type 0
  NeedsBy g ps ds whole = ((G : List Place) → (HasAll G ps × GuardsNormals th budget G g ds) ↔ GuardsNormals th budget G g whole)
      × (HaveNormalForms th budget g ds → HaveNormalForms th budget g whole) × ((d : Derivative) → Contains ds d → Contains whole d)

  pub needs_first : (g : Place) (result : ℕ) → derivatives_at th g ≡ from_number th.derivatives result 0 → NeedsTo g result 0 []
  needs_first g result e =
      let P : List Derivative → Type 0 = λ ds. NeedsBy g [] ds (derivatives_at th g) in
      let all : NeedsBy g [] (from_number th.derivatives result 0) (derivatives_at th g) = subst P e ((λ G. ((λ h. h.1), (λ h. (tt, h)))), (λ h. h), (λ d c. c)) in
      record { guards = all.0; forms = all.1; among = all.2 }

  module _ (g : Place) (result i : ℕ) (ps : List Place) (within : i < length th.derivatives) (st : NeedsTo g result i ps) where
    abbrev d : Derivative
    d = (derivative_at th.derivatives i within).0

    abbrev test : Bool
    test = option_map_or (λ d. d.hole == result) (slice_get th.derivatives i) false

    at : StartsWith th.derivatives i d
    at = (derivative_at th.derivatives i within).1

    abbrev later : List Derivative
    later = from_number th.derivatives result (i + 1)

    is_next : test ≡ true → from_number th.derivatives result i ≡ d ∷ later
    is_next e = taken_next th.derivatives result i d at e

    pub needs_passed : test ≡ false → NeedsTo g result (i + 1) ps
    needs_passed e =
        let P : List Derivative → Type 0 = λ ds. NeedsBy g ps ds (derivatives_at th g) in
        let next = passed_next th.derivatives result i d at e in
        let all = subst P next (st.guards, st.forms, st.among) in
        record { guards = all.0; forms = all.1; among = all.2 }

    -- the normal form of the next start term, and those of the others
    first_guards : (G : List Place) (s : ℕ) (t : Tree) (ts : List Traced) → HasNormalForm th budget g d t ts → ((p : IsPlace th g) → p.sort ≡ s)
        → (Guarded th G t 0 s × GuardsNormals th budget G g later) ↔ GuardsNormals th budget G g (d ∷ later)
    first_guards G s t ts h sorts = (
      (λ x e c u us k.
          let Q : Derivative → Type 0 = λ e. (us : List Traced) (k : HasNormalForm th budget g e u us) → Guarded th G u 0 k.place.sort in
          pick Q d e later
          (λ us k.
          let P : Tree → Type 0 = λ u. Guarded th G u 0 k.place.sort in
          subst P (one_normal th budget g d t u ts us h k) (subst (Guarded th G t 0) (sym (sorts k.place)) x.0))
          (λ y us k. x.1 e y u us k) c us k),
      (λ x. (
        subst (Guarded th G t 0) (sorts h.place) (x d (contains_first d later) t ts h),
        (λ e c u us k. x e (in_rest d e later c) u us k),
      )),
    )

    pub needs_taken : test ≡ true → (s : ℕ) → ((p : IsPlace th g) → p.sort ≡ s) → (qs : List Place)
        → IfSome (slice_get th.derivatives i) (λ d. AddsNeeds th budget g s d ps qs true) → NeedsTo g result (i + 1) qs
    needs_taken e s sorts qs x =
        let a = some_if_at (λ d. AddsNeeds th budget g s d ps qs true) (slice_get th.derivatives i) d at.there x in
        let next = is_next e in
        record {
          guards = λ G.
              let P : List Derivative → Type 0 = λ ds. (HasAll G ps × GuardsNormals th budget G g ds) ↔ GuardsNormals th budget G g (derivatives_at th g) in
              let before = subst P next (st.guards G) in
              let one = first_guards G s a.0 a.1 a.2 sorts in (
                (λ y. let z = (a.3 G).0 y.0 in before.0 (z.0, one.0 (z.1, y.1))),
                (λ y. let z = before.1 y in let w = one.1 z.1 in ((a.3 G).1 (z.0, w.0), w.1)),
              );
          forms = λ h.
              let P : List Derivative → Type 0 = λ ds. HaveNormalForms th budget g ds → HaveNormalForms th budget g (derivatives_at th g) in
              let Q : Derivative → Type 0 = λ d. (t : Tree) × (ts : List Traced) × HasNormalForm th budget g d t ts in
              subst P next st.forms (λ y c. pick Q d y later (a.0, a.1, a.2) (λ z. h y z) c);
          among = λ y c.
              let Q : List Derivative → Type 0 = λ ds. Contains ds y in
              st.among y (subst Q (sym next) (in_rest d y later c));
        }

    -- a start term without a normal form: the place is no candidate
    pub needs_missing : test ≡ true → (s : ℕ) (qs : List Place) → IfSome (slice_get th.derivatives i) (λ d. AddsNeeds th budget g s d ps qs false)
        → IsCandidate th budget g → ⊥
    needs_missing e s qs x c =
        let h = some_if_at (λ d. AddsNeeds th budget g s d ps qs false) (slice_get th.derivatives i) d at.there x in
        let Q : List Derivative → Type 0 = λ ds. Contains ds d in
        let has = c.normal_forms d (st.among d (subst Q (sym (is_next e)) (contains_first d later))) in
        h has.0 has.1 has.2

  pub needs_last : (g : Place) (result i : ℕ) (ps : List Place) → length th.derivatives ≤ i → NeedsTo g result i ps → AreNeeds th budget g ps
  needs_last g result i ps past st =
      let none : from_number th.derivatives result i ≡ [] = ap (filter (λ d. d.hole == result)) (drop_of_length-le th.derivatives past) in
      let P : List Derivative → Type 0 = HaveNormalForms th budget g in (
        st.forms (subst P (sym none) (λ d c. contains_none d c)),
        (λ G.
            let Q : List Derivative → Type 0 = GuardsNormals th budget G g in (
              (λ h. (st.guards G).0 (h, subst Q (sym none) (λ d c. contains_none d c))),
              (λ h. ((st.guards G).1 h).0),
            )),
      )
