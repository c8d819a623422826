-- The variables of derivatives.
use Rattle.std.proofs.Common.{◌≡◌, ℕ, ◌+◌, Bool, true, false, ◌==◌, ◌||◌, nat_eq, if◌then◌else◌, List, [], ◌∷◌, ◌++◌, map, drop, Some, Option, refl}
use Rattle.std.proofs.Common.{ap, sym, ◌∙◌, append_assoc}
use Rattle.std.specs.List.{list_any, filter}
use Rattle.std.proofs.lemmas.List.{map-append}
use Rattle.std.proofs.lemmas.List.Elements.{filter-append}
use Rattle.std.proofs.lemmas.List.Folds.{list_any-append}
use Rattle.std.proofs.lemmas.Bool.{eqb-true}
use Rattle.indexmap.specs.IndexSet.{insert_key}
use Rattle.circ_term.specs.Tree.{Tree, Trees, more, trees_of}
use Rattle.circ_pairs.specs.Variables.{Variable, occurrences, all_occurrences}
use Rattle.circ_pairs.specs.Slots.{is_hole, is_parameter, holes_in, all_holes_in, parameters_in, all_parameters_in, parameter_sorts_in, all_parameter_sorts_in, first_repeated}

picked : (f : Variable → ℕ) (p : Variable → Bool) (us vs : List Variable) → map f (filter p (us ++ vs)) ≡ map f (filter p us) ++ map f (filter p vs)
picked f p us vs = ap (map f) (filter-append p us vs) ∙ map-append f (filter p us) (filter p vs)

pub holes_more : (t : Tree) (ts : Trees) → all_holes_in (more t ts) ≡ holes_in t ++ all_holes_in ts
holes_more t ts = picked (λ v. v.sort) is_hole (occurrences t) (all_occurrences ts)

pub parameters_more : (t : Tree) (ts : Trees) → all_parameters_in (more t ts) ≡ parameters_in t ++ all_parameters_in ts
parameters_more t ts = picked (λ v. v.number) is_parameter (occurrences t) (all_occurrences ts)

pub parameter_sorts_more : (t : Tree) (ts : Trees) → all_parameter_sorts_in (more t ts) ≡ parameter_sorts_in t ++ all_parameter_sorts_in ts
parameter_sorts_more t ts = picked (λ v. v.sort) is_parameter (occurrences t) (all_occurrences ts)

-- one term more was read
pub read_more : (f : Tree → List ℕ) (all : Trees → List ℕ) → ((t : Tree) (ts : Trees) → all (more t ts) ≡ f t ++ all ts)
    → (terms : List Tree) (i : ℕ) (t : Tree) (mid new whole : List ℕ) → drop i terms ≡ t ∷ drop (i + 1) terms → new ≡ mid ++ f t
    → mid ++ all (trees_of (drop i terms)) ≡ whole → new ++ all (trees_of (drop (i + 1) terms)) ≡ whole
read_more f all more_is terms i t mid new whole read made before =
    let rest = trees_of (drop (i + 1) terms) in
    ap (λ ns. ns ++ all rest) made ∙ append_assoc mid (f t) (all rest) ∙ ap (λ ns. mid ++ ns) (sym (more_is t rest) ∙ ap (λ us. all (trees_of us)) (sym read)) ∙ before

-- what a set has after an insertion
pub any_inserted : (ks : List ℕ) (n m : ℕ) → list_any (nat_eq m) (insert_key nat_eq ks n) ≡ ((m == n) || list_any (nat_eq m) ks)
any_inserted ks n m = go (list_any (nat_eq n) ks) refl (m == n) refl
  where
    go : (b : Bool) → list_any (nat_eq n) ks ≡ b → (e : Bool) → (m == n) ≡ e
        → list_any (nat_eq m) (if b then ks else ks ++ n ∷ []) ≡ (e || list_any (nat_eq m) ks)
    go true h true e = ap (λ k. list_any (nat_eq k) ks) (eqb-true m n e) ∙ h
    go true h false e = refl
    go false h true e = list_any-append (nat_eq m) ks (n ∷ []) ∙ rw e (or_true (list_any (nat_eq m) ks))
      where
        or_true : (b : Bool) → (b || (true || false)) ≡ true
        or_true true = refl
        or_true false = refl
    go false h false e = list_any-append (nat_eq m) ks (n ∷ []) ∙ rw e (or_false (list_any (nat_eq m) ks))
      where
        or_false : (b : Bool) → (b || (false || false)) ≡ b
        or_false true = refl
        or_false false = refl

-- a number that was passed stands again
pub again : (n : ℕ) (ns : List ℕ) (found : Option ℕ) (b : Bool) → found ≡ first_repeated ns → list_any (nat_eq n) ns ≡ b
    → (if b then Some n else found) ≡ first_repeated (n ∷ ns)
again n ns found b e h = rw (e, h) refl
