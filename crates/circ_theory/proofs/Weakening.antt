-- What is derivable stays so under more premises.
use Rattle.std.specs.Prelude.{◌≡◌, ◌⊎◌, zero, suc, List, ◌∷◌}
use Rattle.std.specs.List.{Contains}
use Rattle.std.proofs.Common.{inl, inr, arith}
use Rattle.circ_term.specs.Tree.{Tree, Trees}
use Rattle.circ_pairs.specs.Pair.{Pair, Within}
use Rattle.circ_theory.specs.Theory.{Theory}
use Rattle.circ_theory.specs.Derivable.{Derivable, by_same, by_symmetry, by_chain, by_operator, by_equation, by_premise, by_cases, is_case, Gives}
use Rattle.circ_theory.specs.Derivable.{DerivableAll, no_args, more_args}

pub first_or_rest : {X : Type 0} (x y : X) (xs : List X) → Contains (x ∷ xs) y → (x ≡ y) ⊎ Contains xs y
first_or_rest x y xs (zero, h, e) = inl e
first_or_rest x y xs (suc k, h, e) = inr (k, omega arith, e)

pub in_rest : {X : Type 0} (x y : X) (xs : List X) → Contains xs y → Contains (x ∷ xs) y
in_rest x y xs c = (suc c.0, omega (arith, c.1), c.2)

pub within_more : (q : Pair) (H K : List Pair) → Within H K → Within (q ∷ H) (q ∷ K)
within_more q H K w p c = go (first_or_rest q p H c)
  where
    go : (q ≡ p) ⊎ Contains H p → Contains (q ∷ K) p
    go (inl e) = (zero, omega arith, e)
    go (inr d) = in_rest q p K (w p d)

mutual
  pub weaken : (th : Theory) {H : List Pair} {s t : Tree} → Derivable th H s t → (K : List Pair) → Within H K → Derivable th K s t
  weaken th (by_same t h) K w = by_same t h
  weaken th (by_symmetry d) K w = by_symmetry (weaken th d K w)
  weaken th (by_chain m d e) K w = by_chain m (weaken th d K w) (weaken th e K w)
  weaken th (by_operator f k a b ds) K w = by_operator f k a b (weaken_all th ds K w)
  weaken th (by_equation e σ c s d) K w = by_equation e σ c s (λ p k. weaken th (d p k) K w)
  weaken th (by_premise p c s) K w = by_premise p (w p c) s
  weaken th (by_cases {H = H} u l c a b f) K w =
      by_cases u l c a b (λ k h. weaken th (f k h) (is_case u l k ∷ K) (within_more (is_case u l k) H K w))

  pub weaken_all : (th : Theory) {H : List Pair} {ss ts : Trees} → DerivableAll th H ss ts → (K : List Pair) → Within H K → DerivableAll th K ss ts
  weaken_all th no_args K w = no_args
  weaken_all th (more_args d ds) K w = more_args (weaken th d K w) (weaken_all th ds K w)

gives_more : (th : Theory) (q : Pair) (H K : List Pair) → Gives th H K → Gives th (q ∷ H) (q ∷ K)
gives_more th q H K w p c s = go (first_or_rest q p H c)
  where
    go : (q ≡ p) ⊎ Contains H p → Derivable th (q ∷ K) p.left p.right
    go (inl e) = by_premise p (zero, omega arith, e) s
    go (inr d) = weaken th (w p d s) (q ∷ K) (λ x y. in_rest q x K y)

-- premises that follow from others may be cut
mutual
  pub cut : (th : Theory) {H : List Pair} {s t : Tree} → Derivable th H s t → (K : List Pair) → Gives th H K → Derivable th K s t
  cut th (by_same t h) K w = by_same t h
  cut th (by_symmetry d) K w = by_symmetry (cut th d K w)
  cut th (by_chain m d e) K w = by_chain m (cut th d K w) (cut th e K w)
  cut th (by_operator f k a b ds) K w = by_operator f k a b (cut_all th ds K w)
  cut th (by_equation e σ c s d) K w = by_equation e σ c s (λ p k. cut th (d p k) K w)
  cut th (by_premise p c s) K w = w p c s
  cut th (by_cases {H = H} u l c a b f) K w = by_cases u l c a b (λ k h. cut th (f k h) (is_case u l k ∷ K) (gives_more th (is_case u l k) H K w))

  pub cut_all : (th : Theory) {H : List Pair} {ss ts : Trees} → DerivableAll th H ss ts → (K : List Pair) → Gives th H K → DerivableAll th K ss ts
  cut_all th no_args K w = no_args
  cut_all th (more_args d ds) K w = more_args (cut th d K w) (cut_all th ds K w)
