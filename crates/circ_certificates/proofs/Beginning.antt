-- The bodies of the derivatives that begin at a term, found one by one; and the arguments of bodies.
use Rattle.std.proofs.Common.{◌≡◌, ◌<◌, ◌≤◌, ◌+◌, ℕ, Bool, true, false, ◌==◌, ◌||◌, List, [], ◌∷◌, ◌++◌, map, drop, length, slice_index_or, get_or, Some, None, IsTrue, ◌↔◌, inl, inr, refl, ap, sym, subst, ◌∙◌, arith, append_assoc, append-nil}
use Rattle.std.specs.Prelude.{not}
use Rattle.std.specs.List.{slice_get, list_any, AllByRecursion, Contains}
use Rattle.std.proofs.lemmas.Bool.{cases_Bool, and_parts, eqb-true, eq-eqb, ne_eqb}
use Rattle.std.proofs.lemmas.List.{drop_all, map-append}
use Rattle.circ_term.specs.Tree.{Tree, Var, App, sort_of, args_of}
use Rattle.circ_theory.specs.Theory.{Derivative}
use Rattle.circ_theory.specs.Observing.{is_hidden}
use Rattle.circ_special.specs.Fitting.{fits, is_variable}
use Rattle.circ_proof.proofs.Derivatives.{StartsWith, derivative_at}
use Rattle.circ_proof.proofs.Members.{nothing, pick}
use Rattle.circ_nodes.specs.Named.{tree_at, Points}
use Rattle.circ_nodes.proofs.Located.{named_tree}
use Rattle.circ_nodes.proofs.Numbers.{named_below}
use Rattle.circ_steps.specs.declared.derivative.SharedDerivative.{SharedDerivative}
use Rattle.circ_steps.specs.Derivatives.{IsDerivativeAt}
use Rattle.circ_steps.proofs.Numbering.{derivatives_length, derivative_at as shared_at}
use Rattle.circ_certificates.specs.declared.guard.Asked.{Asked}
use Rattle.circ_certificates.specs.Covering.{IsAsked, numbered_terms, begins, begun, below}
use Rattle.circ_certificates.proofs.Members.{drop_here, one_more, first, later}

-- ---- whether a derivative begins

module _ (a : Asked) (here : Bool) (t : Tree) (d : Derivative) (x : SharedDerivative) (is : IsDerivativeAt a.nodes.now d x) where
  hole_sort : sort_of (tree_at a.nodes.now x.hole) ≡ d.hole
  hole_sort = ap sort_of (named_tree a.nodes.now x.hole (Var 0 d.hole) is.hole)

  body_is : tree_at a.nodes.now x.body ≡ d.body
  body_is = named_tree a.nodes.now x.body d.body is.body

  pub other_hole : (k : ℕ) → k ≡ sort_of (tree_at a.nodes.now x.hole) → (k ≡ a.sort → ⊥) → false ≡ begins a here t d
  other_hole k e h = let z = ne_eqb d.hole a.sort (λ y. h (e ∙ hole_sort ∙ y)) in rw z refl

  pub uncounted : (k j : ℕ) → k ≡ sort_of (tree_at a.nodes.now x.hole) → k ≡ a.sort → j ≡ sort_of (tree_at a.nodes.now x.body)
      → (not (is_hidden a.rules.theory.now j) || here) ≡ false → false ≡ begins a here t d
  uncounted k j e h f g =
      let z = eq-eqb d.hole a.sort (sym hole_sort ∙ sym e ∙ h) in
      let y : (not (is_hidden a.rules.theory.now (sort_of d.body)) || here) ≡ false
      = ap (λ i. not (is_hidden a.rules.theory.now i) || here) (sym (f ∙ ap sort_of body_is)) ∙ g in
      rw (z, y) refl

  pub counted : (k j : ℕ) → k ≡ sort_of (tree_at a.nodes.now x.hole) → k ≡ a.sort → j ≡ sort_of (tree_at a.nodes.now x.body)
      → (not (is_hidden a.rules.theory.now j) || here) ≡ true → (r : Bool) → r ≡ fits a.id a.sort (tree_at a.nodes.now x.body) t → r ≡ begins a here t d
  counted k j e h f g r q =
      let z = eq-eqb d.hole a.sort (sym hole_sort ∙ sym e ∙ h) in
      let y : (not (is_hidden a.rules.theory.now (sort_of d.body)) || here) ≡ true
      = ap (λ i. not (is_hidden a.rules.theory.now i) || here) (sym (f ∙ ap sort_of body_is)) ∙ g in
      rw (z, y) (q ∙ ap (λ b. fits a.id a.sort b t) body_is)

-- ---- one derivative after another

-- the derivative that has this number
pub derivative_here : (a : Asked) → IsAsked a → (i : ℕ) (x : SharedDerivative) → i < length a.rules.derivatives.now → x ≡ get_or a.rules.derivatives.now i x
    → (d : Derivative) × StartsWith a.rules.theory.now.derivatives i d × IsDerivativeAt a.nodes.now d x
derivative_here a asked i x l e =
    let ds = a.rules.theory.now.derivatives in
    let xs = a.rules.derivatives.now in
    let long = derivatives_length a.nodes.now ds xs asked.derivatives in
    let at = derivative_at ds i (omega (arith, long, l)) in
    (at.0, at.1, shared_at a.nodes.now ds xs i at.0 x asked.derivatives at.1.there e)

pub derivatives_over : (a : Asked) → IsAsked a → (i : ℕ) → length a.rules.derivatives.now ≤ i → length a.rules.theory.now.derivatives ≤ i
derivatives_over a asked i l = omega (arith, derivatives_length a.nodes.now a.rules.theory.now.derivatives a.rules.derivatives.now asked.derivatives, l)

-- the bodies of those of the first i derivatives that begin stand behind the others
pub record AreBegun (a : Asked) (here : Bool) (t : Tree) (ds : List Derivative) (start : List ℕ) (i : ℕ) (ns : List ℕ) : Type 0 where
  pub there : AllByRecursion (λ n. n < length a.nodes.now) ns
  pub made : numbered_terms a ns ++ begun a here t (drop i ds) ≡ numbered_terms a start ++ begun a here t ds

module _ (a : Asked) (here : Bool) (t : Tree) (ds : List Derivative) (start : List ℕ) where
  pub begun_first : (ns : List ℕ) → ns ≡ start → AllByRecursion (λ n. n < length a.nodes.now) start → AreBegun a here t ds start 0 ns
  begun_first ns e h = rw e (record { there = h; made = refl })

  pub begun_next : (i : ℕ) (d : Derivative) (x : SharedDerivative) (ns ms : List ℕ) → StartsWith ds i d → IsDerivativeAt a.nodes.now d x → true ≡ begins a here t d
      → ms ≡ ns ++ x.body ∷ [] → AreBegun a here t ds start i ns → AreBegun a here t ds start (i + 1) ms
  begun_next i d x ns ms at is e put h =
      let f = tree_at a.nodes.now in
      let rest : List Tree = begun a here t (drop (i + 1) ds) in
      let z : begins a here t d ≡ true = sym e in
      let from : begun a here t (drop i ds) ≡ d.body ∷ rest = ap (begun a here t) at.rest ∙ rw z refl in
      record {
        there = rw put (one_more (λ n. n < length a.nodes.now) ns x.body h.there (named_below a.nodes.now x.body d.body is.body));
        made =
            ap (λ xs. map f xs ++ rest) put ∙ ap (λ xs. xs ++ rest) (map-append f ns (x.body ∷ []))
            ∙ append_assoc (map f ns) (f x.body ∷ []) rest ∙ ap (λ y. map f ns ++ y ∷ rest) (named_tree a.nodes.now x.body d.body is.body)
            ∙ ap (λ xs. map f ns ++ xs) (sym from) ∙ h.made;
      }

  pub begun_over : (i : ℕ) (d : Derivative) (ns : List ℕ) → StartsWith ds i d → false ≡ begins a here t d → AreBegun a here t ds start i ns
      → AreBegun a here t ds start (i + 1) ns
  begun_over i d ns at e h =
      let z : begins a here t d ≡ false = sym e in
      let from : begun a here t (drop i ds) ≡ begun a here t (drop (i + 1) ds) = ap (begun a here t) at.rest ∙ rw z refl in
      record { there = h.there; made = ap (λ xs. numbered_terms a ns ++ xs) (sym from) ∙ h.made }

  pub begun_all : (i : ℕ) (ns : List ℕ) → length ds ≤ i → AreBegun a here t ds start i ns → numbered_terms a ns ≡ numbered_terms a start ++ begun a here t ds
  begun_all i ns l h = sym (append-nil (numbered_terms a ns)) ∙ ap (λ xs. numbered_terms a ns ++ begun a here t xs) (sym (drop_all i ds l)) ∙ h.made

-- ---- the arguments of bodies, one after another

pub record AreBelow (a : Asked) (place : ℕ) (bodies : List ℕ) (i : ℕ) (ns : List ℕ) : Type 0 where
  pub there : AllByRecursion (λ n. n < length a.nodes.now) ns
  pub made : numbered_terms a ns ++ below place (numbered_terms a (drop i bodies)) ≡ below place (numbered_terms a bodies)

module _ (a : Asked) (place : ℕ) (bodies : List ℕ) where
  pub below_first : (ns : List ℕ) → ns ≡ [] → AreBelow a place bodies 0 ns
  below_first ns e = rw e (record { there = tt; made = refl })

  pub below_next : (i n : ℕ) (ns ms : List ℕ) → i < length bodies
      → Points a.nodes.now (slice_get (args_of (tree_at a.nodes.now (slice_index_or bodies i 0))) place) (Some n) → ms ≡ ns ++ n ∷ []
      → AreBelow a place bodies i ns → AreBelow a place bodies (i + 1) ms
  below_next i n ns ms l p put h =
      let f = tree_at a.nodes.now in
      let rest : List Tree = below place (numbered_terms a (drop (i + 1) bodies)) in
      let got = p.1 in
      let from : below place (numbered_terms a (drop i bodies)) ≡ p.0 ∷ rest = ap (λ xs. below place (numbered_terms a xs)) (drop_here bodies i l) ∙ rw got refl in
      record {
        there = rw put (one_more (λ m. m < length a.nodes.now) ns n h.there (named_below a.nodes.now n p.0 p.2));
        made =
            ap (λ xs. map f xs ++ rest) put ∙ ap (λ xs. xs ++ rest) (map-append f ns (n ∷ []))
            ∙ append_assoc (map f ns) (f n ∷ []) rest ∙ ap (λ y. map f ns ++ y ∷ rest) (named_tree a.nodes.now n p.0 p.2)
            ∙ ap (λ xs. map f ns ++ xs) (sym from) ∙ h.made;
      }

  pub below_over : (i : ℕ) (ns : List ℕ) → i < length bodies
      → slice_get (args_of (tree_at a.nodes.now (slice_index_or bodies i 0))) place ≡ None → AreBelow a place bodies i ns → AreBelow a place bodies (i + 1) ns
  below_over i ns l got h =
      let from : below place (numbered_terms a (drop i bodies)) ≡ below place (numbered_terms a (drop (i + 1) bodies))
      = ap (λ xs. below place (numbered_terms a xs)) (drop_here bodies i l) ∙ rw got refl in
      record { there = h.there; made = ap (λ xs. numbered_terms a ns ++ xs) (sym from) ∙ h.made }

  pub below_all : (i : ℕ) (ns : List ℕ) → length bodies ≤ i → AreBelow a place bodies i ns → numbered_terms a ns ≡ below place (numbered_terms a bodies)
  below_all i ns l h =
      sym (append-nil (numbered_terms a ns)) ∙ ap (λ xs. numbered_terms a ns ++ below place (numbered_terms a xs)) (sym (drop_all i bodies l)) ∙ h.made

-- ---- the hole among bodies

variable_is : (n s : ℕ) (u : Tree) → is_variable n s u ≡ true → u ≡ Var n s
variable_is n s (Var m k) e = let h = and_parts (m == n) (k == s) e in ap (λ x. Var x k) (eqb-true m n h.0) ∙ ap (Var n) (eqb-true k s h.1)
variable_is n s (App f k ts) e = absurd (cc)

variable_itself : (n s : ℕ) → is_variable n s (Var n s) ≡ true
variable_itself n s = rw (eq-eqb n n refl, eq-eqb s s refl) refl

any_to : (n s : ℕ) (ts : List Tree) → list_any (is_variable n s) ts ≡ true → Contains ts (Var n s)
any_to n s [] e = absurd (cc)
any_to n s (t ∷ ts) e = elim (cases_Bool (is_variable n s t)) [
  | inl h ↦ subst (λ x. Contains (x ∷ ts) (Var n s)) (sym (variable_is n s t h)) (first (Var n s) ts)
  | inr h ↦ later (Var n s) t ts (any_to n s ts (rw h at e))
]

any_from : (n s : ℕ) (ts : List Tree) → Contains ts (Var n s) → list_any (is_variable n s) ts ≡ true
any_from n s [] c = nothing (Var n s) c
any_from n s (t ∷ ts) c =
    pick (λ g. g ≡ Var n s → list_any (is_variable n s) (t ∷ ts) ≡ true) t (Var n s) ts here (λ d e. there (is_variable n s t) (any_from n s ts d)) c refl
  where
    here : t ≡ Var n s → list_any (is_variable n s) (t ∷ ts) ≡ true
    here e = let z : is_variable n s t ≡ true = ap (is_variable n s) e ∙ variable_itself n s in rw z refl

    there : (b : Bool) → list_any (is_variable n s) ts ≡ true → (b || list_any (is_variable n s) ts) ≡ true
    there true h = refl
    there false h = h

module _ (a : Asked) (bodies : List ℕ) where
  abbrev pub any_from_place : ℕ → Bool
  any_from_place i = list_any (is_variable 0 a.sort) (numbered_terms a (drop i bodies))

  any_at : (i : ℕ) → i < length bodies
      → any_from_place i ≡ (is_variable 0 a.sort (tree_at a.nodes.now (slice_index_or bodies i 0)) || any_from_place (i + 1))
  any_at i l = ap (λ xs. list_any (is_variable 0 a.sort) (numbered_terms a xs)) (drop_here bodies i l)

  pub hole_found : (i : ℕ) → i < length bodies → true ≡ is_variable 0 a.sort (tree_at a.nodes.now (slice_index_or bodies i 0))
      → any_from_place i ≡ any_from_place 0 → IsTrue true ↔ Contains (numbered_terms a bodies) (Var 0 a.sort)
  hole_found i l e h =
      let one : any_from_place i ≡ true = any_at i l ∙ ap (λ b. b || any_from_place (i + 1)) (sym e) in
      ((λ t. any_to 0 a.sort (numbered_terms a bodies) (sym h ∙ one)), (λ c. refl))

  pub hole_over : (i : ℕ) → i < length bodies → false ≡ is_variable 0 a.sort (tree_at a.nodes.now (slice_index_or bodies i 0))
      → any_from_place i ≡ any_from_place 0 → any_from_place (i + 1) ≡ any_from_place 0
  hole_over i l e h = ap (λ b. b || any_from_place (i + 1)) e ∙ sym (any_at i l) ∙ h

  pub no_hole : (i : ℕ) → length bodies ≤ i → any_from_place i ≡ any_from_place 0 → IsTrue false ↔ Contains (numbered_terms a bodies) (Var 0 a.sort)
  no_hole i l h =
      let none : any_from_place i ≡ false = ap (λ xs. list_any (is_variable 0 a.sort) (numbered_terms a xs)) (drop_all i bodies l) in (
        (λ t. absurd (cc)),
        (λ c. absurd (let z = sym none ∙ h ∙ any_from 0 a.sort (numbered_terms a bodies) c in cc)),
      )
