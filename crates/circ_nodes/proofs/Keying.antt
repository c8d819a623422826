-- The keys of terms are their fingerprints.
use Rattle.std.specs.Prelude.{◌≡◌, ℕ, ◌<◌, List, length, Some}
use Rattle.std.specs.List.{slice_get}
use Rattle.std.proofs.Common.{ap, sym, ◌∙◌, arith}
use Rattle.std.proofs.lemmas.List.{length-map}
use Rattle.std.proofs.lemmas.Option.{slice_get_within, same_Some}
use Rattle.circ_term.specs.Tree.{Tree}
use Rattle.circ_term.specs.Fingerprint.{fingerprint_of}
use Rattle.circ_nodes.specs.Named.{IsNamed, tree_at}
use Rattle.circ_nodes.specs.declared.rows.Rows.{Rows}
use Rattle.circ_nodes.specs.Rows.{PlainRoot, roots}
use Rattle.circ_nodes.specs.Roots.{HasRoot, AreTerms, trees_with}
use Rattle.circ_nodes.proofs.Located.{tree_named}
use Rattle.circ_nodes.proofs.Numbers.{there_named}
use Rattle.circ_nodes.proofs.Places.{get_map}

module _ (l : Rows) (keys : List ℕ) (h : AreTerms l keys) where
  pub key_named : (t : Tree) (n : ℕ) → IsNamed (trees_with (roots l)) n t → slice_get keys n ≡ Some (fingerprint_of t)
  key_named t n e = ap (λ ks. slice_get ks n) h.keyed ∙ get_map fingerprint_of (trees_with (roots l)) n t e

  -- what is read at a number
  pub key_read : (nodes : List Tree) → trees_with (roots l) ≡ nodes → (n key : ℕ) → n < length nodes → slice_get keys n ≡ Some key → key ≡ fingerprint_of (tree_at nodes n)
  key_read nodes e n key b g =
      let here = ap (λ ts. slice_get ts n) e ∙ tree_named nodes n b in
      same_Some key (fingerprint_of (tree_at nodes n)) (sym g ∙ key_named (tree_at nodes n) n here)

  -- a root whose term has the key
  pub key_rooted : (key : ℕ) (p : PlainRoot) → ((t : Tree) → HasRoot (trees_with (roots l)) p t → key ≡ fingerprint_of t) → (n : ℕ) → slice_get (roots l) n ≡ Some p
      → slice_get keys n ≡ Some key
  key_rooted key p is n e =
      let b = slice_get_within (roots l) n p e in
      let there = there_named (trees_with (roots l)) n (omega (arith, b, h.kept.long)) in
      key_named there.0 n there.1 ∙ ap Some (sym (is there.0 (h.kept.rooted n p there.0 e there.1)))

  pub keys_long : length keys ≡ length (trees_with (roots l))
  keys_long = ap length h.keyed ∙ length-map (trees_with (roots l)) fingerprint_of

  -- a number that has a key has a term
  pub keyed_there : (nodes : List Tree) → trees_with (roots l) ≡ nodes → (n key : ℕ) → slice_get keys n ≡ Some key → n < length nodes
  keyed_there nodes e n key g = let b = slice_get_within keys n key g in omega (arith, b, keys_long, ap length e)
