-- What is kept of terms, with one more, or of the first alone.
use Rattle.std.proofs.Common.{◌≡◌, ◌<◌, ℕ, List, [], ◌∷◌, ◌++◌, length, map, take, None, refl, ap, sym, subst, ◌∙◌}
use Rattle.circ_term.specs.Tree.{Tree}
use Rattle.circ_term.specs.Fingerprint.{fingerprint_of}
use Rattle.circ_nodes.specs.Named.{HasShape, arguments_of}
use Rattle.circ_nodes.specs.declared.nodes.Shape.{Shape}
use Rattle.circ_nodes.specs.declared.nodes.Shape.TheVariants.{Variable, Application}
use Rattle.circ_nodes.specs.declared.rows.Rows.{Rows}
use Rattle.circ_nodes.specs.declared.rows.Weight.{Weight}
use Rattle.circ_nodes.specs.Rows.{PlainRoot, plain_root, arguments, roots, weights, IsLaid}
use Rattle.circ_nodes.specs.Roots.{HasRoot, HasWeight, Finds, IsKept, AreTerms, trees_with}
use Rattle.circ_nodes.proofs.Behind.{trees_pushed, trees_cut}
use Rattle.circ_nodes.proofs.Places.{map_push, map_taken}
use Rattle.circ_nodes.proofs.Rooted.{kept_push, kept_cut}

-- a term taken apart, as plain data

pub has_shape : (nodes : List Tree) (s : Shape) (t : Tree) → HasRoot nodes (plain_root s) t → HasShape nodes s t
has_shape nodes (Variable n s) t h = h
has_shape nodes (Application f s ns) t h = (h.0, h.1, h.2)

pub arguments_shape : (s : Shape) → arguments (plain_root s) ≡ arguments_of s
arguments_shape (Variable n s) = refl
arguments_shape (Application f s ns) = refl

-- what is kept

module _ (l new : Rows) (keys more : List ℕ) (h : AreTerms l keys) (laid : IsLaid new) where
  pub terms_push : (p : PlainRoot) (t : Tree) (w : Weight) (key : ℕ) → HasRoot (trees_with (roots l)) p t → HasWeight w t → Finds (trees_with (roots l)) t None
      → length (trees_with (roots l)) < 4294967295 → roots new ≡ roots l ++ p ∷ [] → weights new ≡ weights l ++ w ∷ [] → key ≡ fingerprint_of t → more ≡ keys ++ key ∷ [] → AreTerms new more
  terms_push p t w key root own fresh room with_root with_weight is with_key = record {
    rows = laid;
    kept =
        let P : List Tree → Type 0 = λ ts. IsKept ts (roots new) (weights new) in
        let Q : List PlainRoot → Type 0 = λ rs. IsKept (trees_with (roots l) ++ t ∷ []) rs (weights new) in
        let R : List Weight → Type 0 = IsKept (trees_with (roots l) ++ t ∷ []) (roots l ++ p ∷ []) in
        subst P (sym (trees_pushed (roots l) (roots new) p t root with_root))
        (subst Q (sym with_root) (subst R (sym with_weight) (kept_push h.kept p t root w own fresh room)));
    keyed =
        with_key ∙ ap (λ ks. ks ++ key ∷ []) h.keyed ∙ ap (λ k. map fingerprint_of (trees_with (roots l)) ++ k ∷ []) is
        ∙ sym (map_push fingerprint_of (trees_with (roots l)) t) ∙ sym (ap (map fingerprint_of) (trees_pushed (roots l) (roots new) p t root with_root));
  }

  pub terms_cut : (c : ℕ) → roots new ≡ take c (roots l) → weights new ≡ take c (weights l) → more ≡ take c keys → AreTerms new more
  terms_cut c first_roots first_weights first_keys = record {
    rows = laid;
    kept =
        let P : List Tree → Type 0 = λ ts. IsKept ts (roots new) (weights new) in
        let Q : List PlainRoot → Type 0 = λ rs. IsKept (take c (trees_with (roots l))) rs (weights new) in
        let R : List Weight → Type 0 = IsKept (take c (trees_with (roots l))) (take c (roots l)) in
        subst P (sym (trees_cut (roots l) (roots new) c first_roots)) (subst Q (sym first_roots) (subst R (sym first_weights) (kept_cut h.kept c)));
    keyed =
        first_keys ∙ ap (take c) h.keyed ∙ sym (map_taken fingerprint_of c (trees_with (roots l)))
        ∙ sym (ap (map fingerprint_of) (trees_cut (roots l) (roots new) c first_roots));
  }

  pub terms_same : roots new ≡ roots l → weights new ≡ weights l → more ≡ keys → AreTerms new more
  terms_same same_roots same_weights same_keys = record {
    rows = laid;
    kept =
        let P : List PlainRoot → Type 0 = λ rs. IsKept (trees_with rs) rs (weights new) in
        let Q : List Weight → Type 0 = IsKept (trees_with (roots l)) (roots l) in
        subst P (sym same_roots) (subst Q (sym same_weights) h.kept);
    keyed = same_keys ∙ h.keyed ∙ sym (ap (λ rs. map fingerprint_of (trees_with rs)) same_roots);
  }
