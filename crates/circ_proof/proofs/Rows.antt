-- What contracts see of a link whose conditions' chains lie in a vector, and of a why with a vector of whys.
use Rattle.std.proofs.Common.{◌≡◌, ap, ◌∙◌, sym, refl, Vec, Global, ℕ, map}
use mathlib.Core.Former.{Count}
use Rattle.circ_theory.specs.declared.way.Way.{Way}
use Rattle.circ_proof.specs.declared.links.Link.{Link, Equation, Equation', Hypothesis, Hypothesis', Assumption, Content, Row_of-Link, end_of-Link, more_of-Link}
use Rattle.circ_proof.specs.declared.links.Link.{Row_of-Chain, end_of-Chain, more_of-Chain}
use Rattle.circ_proof.specs.declared.links.Link.{items-the_row-Link, items-the_row-Chain, items_shown-the_row-Link-0, items_hidden-the_row-Chain-1}
use Rattle.circ_proof.specs.declared.links.Chain.{Chain}
use Rattle.circ_proof.specs.declared.links.Why.{Why, Same, Split, Split', Row_of-Why, end_of-Why, more_of-Why, items-the_row-Why, items_hidden-the_row-Why-0}
use Rattle.circ_proof.specs.Plain.{Equation_link, Hypothesis_link, more_links, more_chains, Split_why, more_whys, row_of, chains_in}
use Rattle.circ_proof.specs.Plain.{plain_link, plain_link_row, plain_chain_row, plain_chain, plain_chains, plain_why, plain_why_row, plain_whys}

module _ {T : Type 0} where
  links_plain : (m : _) (row : Row_of-Link T m) → plain_link_row row ≡ row_of (map plain_link (items-the_row-Link T m row))
  links_plain m end_of-Link = refl
  links_plain m (more_of-Link link rest) = ap (more_links (plain_link link)) (links_plain _ rest)

  chains_plain : (m : _) (row : Row_of-Chain T m) → plain_chain_row row ≡ plain_chains (items-the_row-Chain T m row)
  chains_plain m end_of-Chain = refl
  chains_plain m (more_of-Chain shape left shape_right right rest) = λ i.
      more_chains
      ((links_plain _ left ∙ sym (ap (λ ls. row_of (map plain_link ls)) (items_shown-the_row-Link-0 T shape left))) i)
      ((links_plain _ right ∙ sym (ap (λ ls. row_of (map plain_link ls)) (items_shown-the_row-Link-0 T shape_right right))) i)
      (chains_plain _ rest i)

  abbrev row_in : Link T → (n : Count) × Row_of-Chain T n
  row_in (Equation' number way path terms shape row) = (_, row)
  row_in (Hypothesis' number way path terms shape row) = (_, row)
  row_in (Assumption number way path) = (_, end_of-Chain)
  row_in (Content op path term) = (_, end_of-Chain)

  equation_chains : (number : ℕ) (way : Way) (path : _) (terms : Vec T Global) (conds : Vec (Chain T) Global)
      → chains_in (plain_link (Equation number way path terms conds)) ≡ plain_chains conds.items
  equation_chains number way path terms conds =
      let row = row_in (Equation number way path terms conds) in
      chains_plain row.0 row.1 ∙ ap plain_chains (items_hidden-the_row-Chain-1 T conds)

  pub equation_plain : (number : ℕ) (way : Way) (path : _) (terms : Vec T Global) (conds : Vec (Chain T) Global)
      → plain_link (Equation number way path terms conds) ≡ Equation_link number way path.items terms.items (plain_chains conds.items)
  equation_plain number way path terms conds = ap (Equation_link number way path.items terms.items) (equation_chains number way path terms conds)

  hypothesis_chains : (number : ℕ) (way : Way) (path : _) (terms : Vec T Global) (conds : Vec (Chain T) Global)
      → chains_in (plain_link (Hypothesis number way path terms conds)) ≡ plain_chains conds.items
  hypothesis_chains number way path terms conds =
      let row = row_in (Hypothesis number way path terms conds) in
      chains_plain row.0 row.1 ∙ ap plain_chains (items_hidden-the_row-Chain-1 T conds)

  pub hypothesis_plain : (number : ℕ) (way : Way) (path : _) (terms : Vec T Global) (conds : Vec (Chain T) Global)
      → plain_link (Hypothesis number way path terms conds) ≡ Hypothesis_link number way path.items terms.items (plain_chains conds.items)
  hypothesis_plain number way path terms conds = ap (Hypothesis_link number way path.items terms.items) (hypothesis_chains number way path terms conds)

  whys_plain : (m : _) (row : Row_of-Why T m) → plain_why_row row ≡ plain_whys (items-the_row-Why T m row)
  whys_plain m end_of-Why = refl
  whys_plain m (more_of-Why why rest) = ap (more_whys (plain_why why)) (whys_plain _ rest)

  abbrev whys_in : Why T → (n : Count) × Row_of-Why T n
  whys_in (Same chain) = (_, end_of-Why)
  whys_in (Split' chain term shape row) = (_, row)

  pub split_plain : (chain : Chain T) (term : T) (whys : Vec (Why T) Global)
      → plain_why (Split chain term whys) ≡ Split_why (plain_chain chain) term (plain_whys whys.items)
  split_plain chain term whys =
      let row = whys_in (Split chain term whys) in
      ap (Split_why (plain_chain chain) term) (whys_plain row.0 row.1 ∙ ap plain_whys (items_hidden-the_row-Why-0 T whys))
