-- Terms that are compared with those of numbers.
use Rattle.std.specs.Prelude.{◌≡◌, ℕ, ◌+◌, ◌<◌, ◌≤◌, List, [], ◌∷◌, length, drop, Some, refl}
use Rattle.std.specs.List.{slice_get}
use Rattle.std.proofs.Common.{ap, sym, subst, ◌∙◌, get_or}
use Rattle.std.proofs.lemmas.List.{drop_all, drop_more}
use Rattle.std.proofs.lemmas.Option.{same_Some, slice_get-get_or, slice_get_read}
use Rattle.circ_term.specs.Tree.{Tree, Trees, Var, App, trees_of}
use Rattle.circ_term.proofs.Trees.{list_of-trees_of}
use Rattle.circ_term.proofs.Within.{drop_read}
use Rattle.circ_nodes.specs.Named.{IsNamed, AreNamed, tree_at}
use Rattle.circ_nodes.proofs.Located.{tree_named}
use Rattle.circ_nodes.proofs.Numbers.{are_named_at, are_named_one}

-- the roots are the same

pub same_variable : (nodes : List Tree) (n m s k j : ℕ) (t : Tree) → n < length nodes → ((u : Tree) → IsNamed nodes n u → u ≡ Var m s) → Var k j ≡ t → m ≡ k → s ≡ j
    → IsNamed nodes n t
same_variable nodes n m s k j t b shape is e f =
    let here = tree_named nodes n b in
    here ∙ ap Some (shape (tree_at nodes n) here ∙ ap (λ x. Var x s) e ∙ ap (Var k) f ∙ is)

pub same_application : (nodes : List Tree) (n f s g k : ℕ) (ns : List ℕ) (us : Trees) (t : Tree) → n < length nodes
    → ((u : Tree) → IsNamed nodes n u → (ts : Trees) × (u ≡ App f s ts) × AreNamed nodes ns ts) → App g k us ≡ t → f ≡ g → s ≡ k → AreNamed nodes ns us
    → IsNamed nodes n t
same_application nodes n f s g k ns us t b shape is e h named =
    let here = tree_named nodes n b in
    let there = shape (tree_at nodes n) here in
    here ∙ ap Some (there.1 ∙ ap (λ x. App x s there.0) e ∙ ap (λ x. App g x there.0) h ∙ ap (App g k) (are_named_one nodes ns there.0 us there.2 named) ∙ is)

-- the arguments, one after another

module _ (nodes : List Tree) (ns : List ℕ) (ts : List Tree) where
  -- the first are the same: all are, where the others are
  abbrev pub AgreeTo : ℕ → Type 0
  AgreeTo i = AreNamed nodes (drop i ns) (trees_of (drop i ts)) → AreNamed nodes ns (trees_of ts)

  pub agree_more : (i : ℕ) (t : Tree) → i < length ns → i < length ts → t ≡ get_or ts i t → IsNamed nodes (get_or ns i 0) t → AgreeTo i → AgreeTo (i + 1)
  agree_more i t b c read named so_far rest =
      let P : List ℕ → Type 0 = λ xs. AreNamed nodes xs (trees_of (drop i ts)) in
      let Q : List Tree → Type 0 = λ us. AreNamed nodes (get_or ns i 0 ∷ drop (i + 1) ns) (trees_of us) in
      so_far (subst P (sym (drop_more ns i 0 b)) (subst Q (sym (drop_read ts i t c read)) (named, rest)))

  pub agree_all : (i : ℕ) → length ns ≤ i → length ts ≤ i → AgreeTo i → AreNamed nodes ns (trees_of ts)
  agree_all i b c so_far =
      let P : List ℕ → Type 0 = λ xs. AreNamed nodes xs (trees_of (drop i ts)) in
      let Q : List Tree → Type 0 = λ us. AreNamed nodes [] (trees_of us) in
      so_far (subst P (sym (drop_all i ns b)) (subst Q (sym (drop_all i ts c)) tt))

  pub agree_at : (i : ℕ) (t : Tree) → i < length ns → i < length ts → t ≡ get_or ts i t → AreNamed nodes ns (trees_of ts) → IsNamed nodes (get_or ns i 0) t
  agree_at i t b c read h =
      let n = get_or ns i 0 in
      let x = are_named_at nodes ns (trees_of ts) i n h (slice_get-get_or ns i 0 b) in
      let there : slice_get ts i ≡ Some t = slice_get_read ts (length ts) i t refl c read in
      x.2 ∙ ap Some (same_Some x.0 t (sym x.1 ∙ ap (λ us. slice_get us i) (list_of-trees_of ts) ∙ there))
