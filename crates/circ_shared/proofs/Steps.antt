-- A step of a special path, by number.
use Rattle.std.proofs.Common.{◌≡◌, ℕ, List, ◌∷◌, Option, Some, None, ap, sym, subst, ◌∙◌}
use Rattle.std.specs.List.{slice_get, Contains}
use Rattle.circ_term.specs.Tree.{Tree, Trees, Var, App, args_of, list_of}
use Rattle.circ_special.proofs.Places.{goes_below}
use Rattle.circ_special.specs.Places.{GoesBelow}
use Rattle.circ_special.specs.Special.{IsSpecial, place}
use Rattle.circ_special.specs.declared.place.Place.{Place}
use Rattle.circ_nodes.proofs.Located.{named_tree}
use Rattle.circ_nodes.proofs.Numbers.{named_below}
use Rattle.circ_nodes.specs.Named.{Points, tree_at}
use Rattle.circ_shared.specs.Special.{StepsTo}

pub steps_from_variable : (G : List Place) (t : Tree) (n s i : ℕ) → t ≡ Var n s → (p : List ℕ) → IsSpecial G t (i ∷ p) → ⊥
steps_from_variable G t n s i e p h = let P : Tree → Type 0 = λ x. IsSpecial G x (i ∷ p) in subst P e h

pub steps_unlisted : (G : List Place) (t : Tree) (f s : ℕ) (ts : Trees) (i : ℕ) → t ≡ App f s ts → (Contains G (place f i) → ⊥) → (p : List ℕ) → IsSpecial G t (i ∷ p) → ⊥
steps_unlisted G t f s ts i e none p h = let P : Tree → Type 0 = λ x. IsSpecial G x (i ∷ p) in none (subst P e h).0

pub steps_to : (nodes : List Tree) (G : List Place) (t : Tree) (f s : ℕ) (ts : Trees) (i : ℕ) → t ≡ App f s ts → Contains G (place f i)
    → (o : Option ℕ) → Points nodes (slice_get (args_of t) i) o → StepsTo nodes G t i o
steps_to nodes G t f s ts i e listed None h =
    let P : Tree → Type 0 = λ x. GoesBelow G x i None in
    subst P (sym e) (goes_below G f s i ts None listed (sym h ∙ ap (λ x. slice_get (args_of x) i) e))
steps_to nodes G t f s ts i e listed (Some n) h =
    let P : Tree → Type 0 = λ x. GoesBelow G x i (Some (tree_at nodes n)) in
    let is : Some (tree_at nodes n) ≡ slice_get (list_of ts) i = ap Some (named_tree nodes n h.0 h.2) ∙ sym h.1 ∙ ap (λ x. slice_get (args_of x) i) e in
    (named_below nodes n h.0 h.2, subst P (sym e) (goes_below G f s i ts (Some (tree_at nodes n)) listed is))
