-- The parameters of a term with its variables numbered anew are in order.
use Rattle.std.proofs.Common.{◌≡◌, ◌+◌, ◌++◌, ℕ, List, [], ◌∷◌, length, Bool, true, false, ◌==◌, ◌||◌, not, sym, ◌∙◌, ap, subst, refl, arith, append_assoc, append-nil}
use Rattle.std.specs.Prelude.{if◌then◌else◌}
use Rattle.std.specs.List.{list_any, filter}
use Rattle.std.proofs.lemmas.Bool.{eqb-true, eq-eqb, and_parts}
use Rattle.std.proofs.lemmas.Option.{slice_get_within}
use Rattle.std.proofs.lemmas.List.{map-append, length-map}
use Rattle.std.proofs.lemmas.List.Elements.{filter-append}
use Rattle.std.proofs.lemmas.List.Folds.{list_any-append}
use Rattle.circ_term.specs.Tree.{Tree, Trees, Var, App, none, more}
use Rattle.circ_term.specs.Substitution.{instance, instances}
use Rattle.circ_theory.specs.Variables.{Variable, is_variable, seen, seen_in, seen_in_all, AreNumberedFrom, numbered}
use Rattle.circ_theory.specs.Observing.{is_parameter, AreParametersInOrder}
use Rattle.circ_theory.proofs.Numbering.{numbered_are, numbered-push, any_there, any_absent}
use Rattle.circ_theory.specs.Renumbering.{renumbering}
use Rattle.circ_theory.proofs.Renumbering.{sorts_in, seen_number, new_number, all_seen_more}
use Rattle.circ_mixfix.specs.declared.TheConstants.{HOLE}
use Rattle.circ_mixfix.specs.declared.few.Few.{Few}
use Rattle.circ_mixfix.specs.Found.{KeepsReadings, OneRead, AreWithParameters}
use Rattle.circ_mixfix.specs.Numbering.{numbering, numbered_anew}

abbrev variable : ℕ → ℕ → Variable
variable n s = record { number = n; sort = s }

-- what is not the hole
abbrev is_other : Variable → Bool
is_other v = not (v.number == HOLE)

abbrev others : List Variable → List Variable
others vs = filter is_other vs

same : (v w : Variable) → is_variable v w ≡ true → v ≡ w
same v w e =
    let parts = and_parts (v.number == w.number) (v.sort == w.sort) e in
    ap (λ n. variable n v.sort) (eqb-true v.number w.number parts.0) ∙ ap (variable w.number) (eqb-true v.sort w.sort parts.1)

itself : (v : Variable) → is_variable v v ≡ true
itself v = let a = eq-eqb v.number v.number refl in let b = eq-eqb v.sort v.sort refl in rw (a, b) refl

-- what a filter picks of the seen variables
module _ (p : Variable → Bool) where
  any_picked : (v : Variable) (vs : List Variable) → p v ≡ true → list_any (is_variable v) (filter p vs) ≡ list_any (is_variable v) vs
  any_picked v [] h = refl
  any_picked v (w ∷ vs) h = go (any_picked v vs h) (is_variable v w) refl (p w) refl
    where
      go : list_any (is_variable v) (filter p vs) ≡ list_any (is_variable v) vs → (x : Bool) → is_variable v w ≡ x → (y : Bool) → p w ≡ y
          → list_any (is_variable v) (if y then w ∷ filter p vs else filter p vs) ≡ (is_variable v w || list_any (is_variable v) vs)
      go ih x e true f = ap (λ b. is_variable v w || b) ih
      go ih false e false f = rw e ih
      go ih true e false f = absurd (let z = sym h ∙ ap p (same v w e) ∙ f in cc z)

  picked : (v : Variable) (vs : List Variable) → p v ≡ true → filter p (seen v vs) ≡ seen v (filter p vs)
  picked v vs h = go (list_any (is_variable v) vs) ∙ ap (λ b. if b then filter p vs else filter p vs ++ v ∷ []) (sym (any_picked v vs h))
    where
      go : (b : Bool) → filter p (if b then vs else vs ++ v ∷ []) ≡ (if b then filter p vs else filter p vs ++ v ∷ [])
      go true = refl
      go false = filter-append p vs (v ∷ []) ∙ rw h refl

  dropped : (v : Variable) (vs : List Variable) → p v ≡ false → filter p (seen v vs) ≡ filter p vs
  dropped v vs h = go (list_any (is_variable v) vs)
    where
      go : (b : Bool) → filter p (if b then vs else vs ++ v ∷ []) ≡ filter p vs
      go true = refl
      go false = filter-append p vs (v ∷ []) ∙ rw h (append-nil (filter p vs))

any_seen : (v : Variable) (vs rest : List Variable) → list_any (is_variable v) (seen v vs ++ rest) ≡ true
any_seen v vs rest = list_any-append (is_variable v) (seen v vs) rest ∙ ap (λ b. b || list_any (is_variable v) rest) (go (list_any (is_variable v) vs) refl)
  where
    go : (b : Bool) → list_any (is_variable v) vs ≡ b → list_any (is_variable v) (if list_any (is_variable v) vs then vs else vs ++ v ∷ []) ≡ true
    go true e = rw e e
    go false e = rw e (list_any-append (is_variable v) vs (v ∷ []) ∙ rw (e, itself v) refl)

-- the hole is given 0
number_hole : (k : ℕ) (vs : List Variable) (n s : ℕ) → (n == HOLE) ≡ true → list_any (is_variable (variable n s)) vs ≡ true → numbering true k vs n s ≡ Var 0 s
number_hole k [] n s h a = absurd (cc)
number_hole k (v ∷ vs) n s h a = go (λ j. number_hole j vs n s h) (v.number == HOLE) refl (is_variable (variable n s) v) refl
  where
    go : ((j : ℕ) → list_any (is_variable (variable n s)) vs ≡ true → numbering true j vs n s ≡ Var 0 s)
        → (x : Bool) → (v.number == HOLE) ≡ x → (y : Bool) → is_variable (variable n s) v ≡ y → numbering true k (v ∷ vs) n s ≡ Var 0 s
    go ih true e true f = rw (e, f) refl
    go ih true e false f = rw (e, f) (ih k (rw f at a))
    go ih false e true f = absurd (let z = sym h ∙ ap (λ w. w.number == HOLE) (same (variable n s) v f) ∙ e in cc z)
    go ih false e false f = rw (e, f) (ih (k + 1) (rw f at a))

-- the others are numbered as if there were no hole
number_other : (k : ℕ) (vs : List Variable) (n s : ℕ) → (n == HOLE) ≡ false → numbering true k vs n s ≡ renumbering k (others vs) n s
number_other k [] n s h = refl
number_other k (v ∷ vs) n s h = go (λ j. number_other j vs n s h) (v.number == HOLE) refl (is_variable (variable n s) v) refl
  where
    go : ((j : ℕ) → numbering true j vs n s ≡ renumbering j (others vs) n s) → (x : Bool) → (v.number == HOLE) ≡ x → (y : Bool) → is_variable (variable n s) v ≡ y
        → numbering true k (v ∷ vs) n s ≡ renumbering k (others (v ∷ vs)) n s
    go ih true e true f = absurd (let z = sym h ∙ ap (λ w. w.number == HOLE) (same (variable n s) v f) ∙ e in cc z)
    go ih true e false f = rw (e, f) (ih k)
    go ih false e true f = rw (e, f) refl
    go ih false e false f = rw (e, f) (ih (k + 1))

not_zero : (m : ℕ) → not ((1 + m) == 0) ≡ true
not_zero m = go ((1 + m) == 0) refl
  where
    go : (b : Bool) → ((1 + m) == 0) ≡ b → not b ≡ true
    go true e = absurd (let z = eqb-true (1 + m) 0 e in omega arith)
    go false e = refl

-- the parameters among us are numbered from 1 and have the sorts of vs
abbrev Fit : List Variable → List Variable → Type 0
Fit us vs = filter is_parameter us ≡ numbered 1 (sorts_in vs)

parameter_in_order : (n s : ℕ) (us vs rest : List Variable) → Fit us vs → Fit (seen_in (renumbering 1 (seen (variable n s) vs ++ rest) n s) us) (seen (variable n s) vs)
parameter_in_order n s us vs rest h = go (list_any (is_variable v) vs) refl
  where
    v : Variable
    v = variable n s

    list : List Variable
    list = numbered 1 (sorts_in vs)

    see : (m : ℕ) (t : Tree) → t ≡ Var (1 + m) s → filter is_parameter (seen_in t us) ≡ seen (variable (1 + m) s) list
    see m t e =
        ap (λ t. filter is_parameter (seen_in t us)) e ∙ picked is_parameter (variable (1 + m) s) us (not_zero m) ∙ ap (seen (variable (1 + m) s)) h

    go : (b : Bool) → list_any (is_variable v) vs ≡ b
        → Fit (seen_in (renumbering 1 ((if list_any (is_variable v) vs then vs else vs ++ v ∷ []) ++ rest) n s) us) (if list_any (is_variable v) vs then vs else vs ++ v ∷ [])
    go true e =
        let r = seen_number 1 n s vs rest e in
        rw e (see r.place (renumbering 1 (vs ++ rest) n s) r.given
        ∙ ap (λ b. if b then list else list ++ variable (1 + r.place) s ∷ []) (any_there 1 r.place s (sorts_in vs) r.there))
    go false e =
        let l : length (sorts_in vs) ≡ length vs = length-map vs (λ v. v.sort) in
        let last : List ℕ → List Variable = λ ss. list ++ variable (1 + length ss) s ∷ [] in
        rw e (see (length vs) (renumbering 1 ((vs ++ v ∷ []) ++ rest) n s) (new_number 1 n s vs rest e)
        ∙ ap (λ b. if b then list else list ++ variable (1 + length vs) s ∷ [])
        (any_absent 1 (1 + length vs) s (sorts_in vs) (λ i q g. let w = slice_get_within (sorts_in vs) i s g in absurd (omega arith)))
        ∙ ap (λ m. list ++ variable (1 + m) s ∷ []) (sym l) ∙ sym (numbered-push 1 (sorts_in vs) s) ∙ ap (numbered 1) (sym (map-append (λ v. v.sort) vs (v ∷ []))))

variable_in_order : (n s : ℕ) (us vs rest : List Variable) → Fit us (others vs)
    → Fit (seen_in (numbering true 1 (seen (variable n s) vs ++ rest) n s) us) (others (seen (variable n s) vs))
variable_in_order n s us vs rest h = go (n == HOLE) refl
  where
    v : Variable
    v = variable n s

    see : Tree → List Variable
    see t = filter is_parameter (seen_in t us)

    go : (b : Bool) → (n == HOLE) ≡ b → Fit (seen_in (numbering true 1 (seen v vs ++ rest) n s) us) (others (seen v vs))
    go true e =
        ap see (number_hole 1 (seen v vs ++ rest) n s e (any_seen v vs rest)) ∙ dropped is_parameter (variable 0 s) us refl ∙ h
        ∙ ap (λ ws. numbered 1 (sorts_in ws)) (sym (dropped is_other v vs (ap not e)))
    go false e =
        let there = picked is_other v vs (ap not e) in
        ap see (number_other 1 (seen v vs ++ rest) n s e ∙ ap (λ ws. renumbering 1 ws n s) (filter-append is_other (seen v vs) rest ∙ ap (λ ws. ws ++ others rest) there))
        ∙ parameter_in_order n s us (others vs) (others rest) h ∙ ap (λ ws. numbered 1 (sorts_in ws)) (sym there)

mutual
  term_in_order : (t : Tree) (us vs rest : List Variable) → Fit us (others vs) → Fit (seen_in (instance (numbering true 1 (seen_in t vs ++ rest)) t) us) (others (seen_in t vs))
  term_in_order (Var n s) us vs rest h = variable_in_order n s us vs rest h
  term_in_order (App f s ts) us vs rest h = terms_in_order ts us vs rest h

  terms_in_order : (ts : Trees) (us vs rest : List Variable) → Fit us (others vs)
      → Fit (seen_in_all (instances (numbering true 1 (seen_in_all ts vs ++ rest)) ts) us) (others (seen_in_all ts vs))
  terms_in_order none us vs rest h = h
  terms_in_order (more t ts) us vs rest h =
      let b = all_seen_more ts (seen_in t vs) in
      let whole : seen_in_all ts (seen_in t vs) ++ rest ≡ seen_in t vs ++ (b.0 ++ rest) = ap (λ ws. ws ++ rest) b.1 ∙ append_assoc (seen_in t vs) b.0 rest in
      let P : List Variable → Type 0 = λ ws. Fit (seen_in (instance (numbering true 1 ws) t) us) (others (seen_in t vs)) in
      terms_in_order ts (seen_in (instance (numbering true 1 (seen_in_all ts (seen_in t vs) ++ rest)) t) us) (seen_in t vs) rest
      (subst P (sym whole) (term_in_order t us vs (b.0 ++ rest) h))

pub parameters_in_order : (t : Tree) → AreParametersInOrder (numbered_anew true t)
parameters_in_order t =
    let W = seen_in t [] in
    let P : List Variable → Type 0 = AreNumberedFrom 1 in
    let e : filter is_parameter (seen_in (instance (numbering true 1 W) t) []) ≡ numbered 1 (sorts_in (others W)) =
    ap (λ ws. filter is_parameter (seen_in (instance (numbering true 1 ws) t) [])) (sym (append-nil W)) ∙ term_in_order t [] [] [] refl in
    subst P (sym e) (numbered_are 1 (sorts_in (others W)))

-- what was read with a hole has its parameters in order
pub all_with_parameters : (found : Few) (us : List Tree) → KeepsReadings found (OneRead true us) → AreWithParameters found
all_with_parameters found us kept ts i = let r = kept.enough.sound ts i in (numbered_anew true r.from, r.is, parameters_in_order r.from)
