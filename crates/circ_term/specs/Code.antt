-- How a proof tells trees apart: a tree is one list of marks, in prefix order.
use Rattle.std.specs.Prelude.{◌≡◌, ℕ, List, [], ◌∷◌, ◌⊎◌, Bool, true, false, refl}
use Rattle.std.specs.Coded.{Coded, code_by, coded×, coded_ℕ, coded_list, coded⊎, coded_bool}
use Rattle.std.proofs.Common.{ap, ◌∙◌, inl, inr}
use Rattle.circ_term.specs.Tree.{Tree, Trees, Var, App, none, more}

abbrev pub Mark : Type 0
Mark = (ℕ × ℕ) ⊎ ((ℕ × ℕ) ⊎ Bool)

abbrev mutual
  pub marks : Tree → List Mark → List Mark
  marks (Var n s) k = inl (n, s) ∷ k
  marks (App f s ts) k = inr (inl (f, s)) ∷ row_marks ts k

  pub row_marks : Trees → List Mark → List Mark
  row_marks none k = inr (inr true) ∷ k
  row_marks (more t ts) k = inr (inr false) ∷ marks t (row_marks ts k)

pub data Part : Type 0 where
  one : Tree → Part
  row : Trees → Part

abbrev pub read_mark : Mark → List Part → List Part
read_mark (inl (n, s)) parts = one (Var n s) ∷ parts
read_mark (inr (inl (f, s))) (row ts ∷ parts) = one (App f s ts) ∷ parts
read_mark (inr (inl (f, s))) _ = []
read_mark (inr (inr true)) parts = row none ∷ parts
read_mark (inr (inr false)) (one t ∷ row ts ∷ parts) = row (more t ts) ∷ parts
read_mark (inr (inr false)) _ = []

abbrev pub parts_of : List Mark → List Part
parts_of [] = []
parts_of (m ∷ ms) = read_mark m (parts_of ms)

abbrev pub tree_in : List Part → Tree
tree_in (one t ∷ _) = t
tree_in _ = Var 0 0

mutual
  pub parts_of-marks : (t : Tree) (k : List Mark) → parts_of (marks t k) ≡ one t ∷ parts_of k
  parts_of-marks (Var n s) k = refl
  parts_of-marks (App f s ts) k = ap (read_mark (inr (inl (f, s)))) (parts_of-row_marks ts k)

  pub parts_of-row_marks : (ts : Trees) (k : List Mark) → parts_of (row_marks ts k) ≡ row ts ∷ parts_of k
  parts_of-row_marks none k = refl
  parts_of-row_marks (more t ts) k =
      ap (read_mark (inr (inr false))) (parts_of-marks t (row_marks ts k) ∙ ap (λ ps. one t ∷ ps) (parts_of-row_marks ts k))

abbrev pub tree_code : Coded Tree
tree_code =
    code_by (List Mark) (coded_list (coded⊎ (coded× coded_ℕ coded_ℕ) (coded⊎ (coded× coded_ℕ coded_ℕ) coded_bool)))
    (λ t. marks t [])
    (λ ms. tree_in (parts_of ms))
    (λ t. ap tree_in (parts_of-marks t []))
