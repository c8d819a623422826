-- Parts that are taken one after another.
use Rattle.std.proofs.Common.{◌≡◌, ℕ, ◌+◌, ◌<◌, Bool, false, List, [], ◌∷◌, ◌++◌, length, get_or, Some, refl, ap, subst, ◌∙◌, sym, ◌⊎◌, inl, inr}
use Rattle.std.specs.List.{slice_get}
use Rattle.std.proofs.lemmas.Option.{slice_get_read}
use Rattle.circ_term.specs.Tree.{Tree}
use Rattle.circ_nodes.proofs.Places.{get_last}
use Rattle.circ_keeping.specs.declared.taking.Part.{Part}
use Rattle.circ_keeping.specs.Taken.{TakesNode, AreTaken}

-- each part so far is that of its place
abbrev pub Each : (nodes : List Tree) (count : ℕ) (marks : List Bool) → List Part → Type 0
Each nodes count marks parts = (i : ℕ) (p : Part) → slice_get parts i ≡ Some p → TakesNode nodes (count + i) (get_or marks i false) p

pub each_more : (nodes : List Tree) (count place : ℕ) (marks : List Bool) (parts new : List Part) (part : Part) → length parts ≡ place
    → TakesNode nodes (count + place) (get_or marks place false) part → new ≡ parts ++ part ∷ [] → Each nodes count marks parts → Each nodes count marks new
each_more nodes count place marks parts new part long own e so_far i p at =
    go (get_last parts part p i (ap (λ xs. slice_get xs i) (sym e) ∙ at))
  where
    go : (slice_get parts i ≡ Some p) ⊎ ((i ≡ length parts) × (part ≡ p)) → TakesNode nodes (count + i) (get_or marks i false) p
    go (inl h) = so_far i p h
    go (inr h) =
        let P : ℕ → Type 0 = λ n. TakesNode nodes (count + n) (get_or marks n false) p in
        let Q : Part → Type 0 = TakesNode nodes (count + place) (get_or marks place false) in
        subst P (sym (h.0 ∙ long)) (subst Q h.1 own)

pub takes_read : (nodes : List Tree) (count : ℕ) (marks : List Bool) (parts read : List Part) (i : ℕ) (p : Part) → AreTaken nodes count marks parts → read ≡ parts
    → i < length read → p ≡ get_or read i p → TakesNode nodes (count + i) (get_or marks i false) p
takes_read nodes count marks parts read i p taken e within is =
    taken.each i p (ap (λ xs. slice_get xs i) (sym e) ∙ slice_get_read read (length read) i p refl within is)
