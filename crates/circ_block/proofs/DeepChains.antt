-- Which links are deep, row by row and list by list.
use Rattle.std.proofs.Common.{◌≡◌, ◌||◌, ℕ, ◌+◌, ◌<◌, List, [], ◌∷◌, length, drop, get_or, refl, ap, sym, ◌∙◌}
use Rattle.std.specs.List.{list_any}
use Rattle.std.proofs.Math.Bool.{or_assoc}
use Rattle.std.proofs.lemmas.List.{drop_more}
use Rattle.circ_term.specs.Tree.{Tree}
use Rattle.circ_theory.specs.Theory.{Theory}
use Rattle.circ_theory.specs.Goal.{Goal}
use Rattle.circ_proof.specs.Plain.{LinkOf, row_of, plain_links, plain_chain, plain_chains}
use Rattle.circ_proof.specs.declared.links.Chain.{Chain}
use Rattle.circ_conditional_search.specs.Search.{link_is_deep, row_is_deep, chain_is_deep, chains_are_deep}

module _ (th : Theory) (H : List Goal) where
  row_any : (ls : List (LinkOf Tree)) → row_is_deep th H (row_of ls) ≡ list_any (link_is_deep th H) ls
  row_any [] = refl
  row_any (l ∷ ls) = ap (λ b. link_is_deep th H l || b) (row_any ls)

  -- one chain after the other
  pub chains_next : (c : Chain Tree) (cs : List (Chain Tree)) → chains_are_deep th H (plain_chains (c ∷ cs)) ≡ (chain_is_deep th H (plain_chain c) || chains_are_deep th H (plain_chains cs))
  chains_next c cs =
      (λ i. row_any (plain_links c.left.items) i || (row_any (plain_links c.right.items) i || chains_are_deep th H (plain_chains cs)))
      ∙ sym (or_assoc (list_any (link_is_deep th H) (plain_links c.left.items)) (list_any (link_is_deep th H) (plain_links c.right.items)) (chains_are_deep th H (plain_chains cs)))

  -- the chain at this place, and those behind it
  pub chain_at : (cs : List (Chain Tree)) (i : ℕ) (c : Chain Tree) → i < length cs → c ≡ get_or cs i c
      → chains_are_deep th H (plain_chains (drop i cs)) ≡ (chain_is_deep th H (plain_chain c) || chains_are_deep th H (plain_chains (drop (i + 1) cs)))
  chain_at cs i c h is =
      ap (λ xs. chains_are_deep th H (plain_chains xs)) (drop_more cs i c h)
      ∙ chains_next (get_or cs i c) (drop (i + 1) cs)
      ∙ ap (λ x. chain_is_deep th H (plain_chain x) || chains_are_deep th H (plain_chains (drop (i + 1) cs))) (sym is)
