-- Bodies that terms fit, by number.
use Rattle.std.proofs.Common.{◌≡◌, ◌<◌, ◌≤◌, ◌+◌, ℕ, zero, suc, Bool, true, false, ◌==◌, ◌&&◌, List, ◌∷◌, map, drop, length, slice_index_or, refl, ap, sym, ◌∙◌, arith}
use Rattle.std.proofs.lemmas.Bool.{eq-eqb, ne_eqb}
use Rattle.std.proofs.lemmas.List.{drop_all, length-map}
use Rattle.circ_term.specs.Tree.{Tree, Trees, Var, App, none, sort_of, trees_of}
use Rattle.circ_nodes.specs.Named.{tree_at}
use Rattle.circ_special.specs.Fitting.{is_variable, at_hole, fits, all_fit}
use Rattle.circ_special.proofs.Instances.{unfit_length}
use Rattle.circ_certificates.proofs.Members.{drop_here}

-- ---- a variable as the body

module _ (n s m k : ℕ) (b u : Tree) (is : b ≡ Var m k) where
  pub other_sort : (sort_of u ≡ k → ⊥) → false ≡ fits n s b u
  other_sort h = sym (ap (λ x. fits n s x u) is ∙ (let e = ne_eqb (sort_of u) k h in rw e refl))

  pub parameter : sort_of u ≡ k → (m ≡ 0 → ⊥) → true ≡ fits n s b u
  parameter e h = sym (ap (λ x. fits n s x u) is ∙ (let z = eq-eqb (sort_of u) k e in rw z (go m h)))
    where
      go : (m : ℕ) → (m ≡ 0 → ⊥) → at_hole m (is_variable n s u) ≡ true
      go zero h = absurd (h refl)
      go (suc m) h = refl

  pub hole : sort_of u ≡ k → m ≡ 0 → (r : Bool) → r ≡ is_variable n s u → r ≡ fits n s b u
  hole e z r h =
      h ∙ sym (ap (λ x. fits n s x u) is ∙ ap (λ x. (sort_of u == k) && at_hole x (is_variable n s u)) z ∙ (let y = eq-eqb (sort_of u) k e in rw y refl))

-- ---- an operator on bodies

pub no_application : (n s f k m j : ℕ) (bs : Trees) (u : Tree) → u ≡ Var m j → false ≡ fits n s (App f k bs) u
no_application n s f k m j bs u is = sym (ap (fits n s (App f k bs)) is)

module _ (n s f k g j : ℕ) (bs us : Trees) (u : Tree) (is : u ≡ App g j us) where
  pub other_operator : (f ≡ g → ⊥) → false ≡ fits n s (App f k bs) u
  other_operator h = sym (ap (fits n s (App f k bs)) is ∙ (let e = ne_eqb f g h in rw e refl))

  pub other_result : f ≡ g → (k ≡ j → ⊥) → false ≡ fits n s (App f k bs) u
  other_result e h = sym (ap (fits n s (App f k bs)) is ∙ (let x = eq-eqb f g e in let y = ne_eqb k j h in rw (x, y) refl))

  pub same_operator : f ≡ g → k ≡ j → (r : Bool) → r ≡ all_fit n s bs us → r ≡ fits n s (App f k bs) u
  same_operator e h r z = z ∙ sym (ap (fits n s (App f k bs)) is ∙ (let x = eq-eqb f g e in let y = eq-eqb k j h in rw (x, y) refl))

-- ---- lists

abbrev pub row_of : (nodes : List Tree) → List ℕ → Trees
row_of nodes ns = trees_of (map (tree_at nodes) ns)

module _ (n s : ℕ) (nodes : List Tree) where
  abbrev row : List ℕ → Trees
  row ns = row_of nodes ns

  pub other_length : (bs us : List ℕ) → (length bs ≡ length us → ⊥) → false ≡ all_fit n s (row bs) (row us)
  other_length bs us h =
      let f = tree_at nodes in
      sym (unfit_length n s (map f bs) (map f us) (λ e. h (sym (length-map bs f) ∙ e ∙ length-map us f)))

  -- with one place more
  row_at : (bs us : List ℕ) (i : ℕ) → i < length bs → length bs ≡ length us
      → all_fit n s (row (drop i bs)) (row (drop i us))
      ≡ (fits n s (tree_at nodes (slice_index_or bs i 0)) (tree_at nodes (slice_index_or us i 0)) && all_fit n s (row (drop (i + 1) bs)) (row (drop (i + 1) us)))
  row_at bs us i h e =
      ap (λ xs. all_fit n s (row xs) (row (drop i us))) (drop_here bs i h)
      ∙ ap (λ ys. all_fit n s (row (slice_index_or bs i 0 ∷ drop (i + 1) bs)) (row ys)) (drop_here us i (omega (arith, h, e)))

  pub fit_next : (bs us : List ℕ) (i : ℕ) → i < length bs → length bs ≡ length us
      → true ≡ fits n s (tree_at nodes (slice_index_or bs i 0)) (tree_at nodes (slice_index_or us i 0))
      → all_fit n s (row (drop i bs)) (row (drop i us)) ≡ all_fit n s (row bs) (row us)
      → all_fit n s (row (drop (i + 1) bs)) (row (drop (i + 1) us)) ≡ all_fit n s (row bs) (row us)
  fit_next bs us i h e t so_far = ap (λ b. b && all_fit n s (row (drop (i + 1) bs)) (row (drop (i + 1) us))) t ∙ sym (row_at bs us i h e) ∙ so_far

  pub fit_stops : (bs us : List ℕ) (i : ℕ) → i < length bs → length bs ≡ length us
      → false ≡ fits n s (tree_at nodes (slice_index_or bs i 0)) (tree_at nodes (slice_index_or us i 0))
      → all_fit n s (row (drop i bs)) (row (drop i us)) ≡ all_fit n s (row bs) (row us) → false ≡ all_fit n s (row bs) (row us)
  fit_stops bs us i h e t so_far = ap (λ b. b && all_fit n s (row (drop (i + 1) bs)) (row (drop (i + 1) us))) t ∙ sym (row_at bs us i h e) ∙ so_far

  pub fit_all : (bs us : List ℕ) (i : ℕ) → length bs ≤ i → length bs ≡ length us → all_fit n s (row (drop i bs)) (row (drop i us)) ≡ all_fit n s (row bs) (row us)
      → true ≡ all_fit n s (row bs) (row us)
  fit_all bs us i h e so_far =
      sym (ap (λ xs. all_fit n s (row xs) (row (drop i us))) (drop_all i bs h) ∙ ap (λ ys. all_fit n s none (row ys)) (drop_all i us (omega (arith, h, e)))) ∙ so_far
