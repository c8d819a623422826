-- Declared variables in the map of their names.
use Rattle.std.proofs.Common.{◌≡◌, ℕ, List, [], ◌∷◌, ◌++◌, nat_eq, map, None, ap, sym, ◌∙◌}
use Rattle.std.specs.List.{position}
use Rattle.std.specs.Cmp.Lexicographic.{pointwise}
use Rattle.indexmap.specs.IndexMap.{insert_entry}
use Rattle.circ_theory.specs.Theory.{declared}
use Rattle.circ_theory.proofs.Lists.{position-map, map-push, entry_last}

module _ {K : Type 0} (items : K → List ℕ) (es : List (K × ℕ)) where
  -- the place of a name is the number of its variable
  pub name_position : (name : List ℕ) → position (λ k. pointwise nat_eq name (items k)) (map (λ e. e.0) es) ≡ position (λ d. pointwise nat_eq name d.name) (map (λ e. declared (items e.0) e.1) es)
  name_position name =
      position-map (λ k. pointwise nat_eq name (items k)) (λ e. e.0) es
      ∙ sym (position-map (λ d. pointwise nat_eq name d.name) (λ e. declared (items e.0) e.1) es)

  -- a new name goes last
  pub variable_last : (k : K) (sort : ℕ) → position (λ d. pointwise nat_eq (items k) d.name) (map (λ e. declared (items e.0) e.1) es) ≡ None
      → map (λ e. declared (items e.0) e.1) (insert_entry (λ a b. pointwise nat_eq (items a) (items b)) es k sort) ≡ map (λ e. declared (items e.0) e.1) es ++ declared (items k) sort ∷ []
  variable_last k sort none =
      ap (map (λ e. declared (items e.0) e.1)) (entry_last (λ a b. pointwise nat_eq (items a) (items b)) es k sort (name_position (items k) ∙ none))
      ∙ map-push (λ e. declared (items e.0) e.1) es (k, sort)
