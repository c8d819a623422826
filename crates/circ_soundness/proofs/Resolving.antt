-- The links and steps of a proof with the terms of its table in place of their numbers.
use Rattle.std.proofs.Common.{◌<◌, ◌-◌, ℕ, List, [], ◌∷◌, map, length}
use Rattle.std.specs.List.{AllByRecursion}
use Rattle.circ_term.specs.Tree.{Tree}
use Rattle.circ_theory.specs.Signature.{Signature, IsWellSorted}
use Rattle.circ_theory.specs.Rewriting.{named}
use Rattle.circ_theory.proofs.Rewriting.{named_well_sorted}
use Rattle.circ_proof.specs.Plain.{LinkOf, LinksOf, ChainsOf, Equation_link, Hypothesis_link, Assumption_link, Content_link, no_link, more_links, no_chain, more_chains}
use Rattle.circ_proof.specs.Plain.{WhyOf, WhysOf, Same_why, Split_why, no_why, more_whys}
use Rattle.circ_proof.specs.Plain.{map_link, map_row, map_chains, map_why, map_whys}
use Rattle.circ_proof.specs.Link.{AllOfLink, AllOfRow, AllOfChains, AllOfLinks}
use Rattle.circ_proof.specs.Nesting.{nesting_limit}
use Rattle.circ_proof.specs.Justified.{AllOfWhy, AllOfWhys}
use Rattle.circ_proof.specs.Rules.{ProofStep, Simplify, Reduce, Derive, Cases, Done, map_step, AllOfStep}
use Rattle.circ_proof.specs.Proof.{IsLinkFor, IsRowFor, AreChainsFor, AreLinksFor, IsWhyFor, AreWhysFor, IsStepFor, split_limit}

-- ---- what a property becomes

module _ {T U : Type 0} (f : T → U) (P : T → Type 0) (Q : U → Type 0) (w : (t : T) → P t → Q (f t)) where
  all_mapped : (ts : List T) → AllByRecursion P ts → AllByRecursion Q (map f ts)
  all_mapped [] a = tt
  all_mapped (t ∷ ts) a = (w t a.0, all_mapped ts a.1)

  mutual
    link_mapped : (l : LinkOf T) → AllOfLink P l → AllOfLink Q (map_link f l)
    link_mapped (Equation_link number way path terms conds) a = (all_mapped terms a.0, chains_mapped conds a.1)
    link_mapped (Hypothesis_link number way path terms conds) a = (all_mapped terms a.0, chains_mapped conds a.1)
    link_mapped (Assumption_link number way path) a = tt
    link_mapped (Content_link op path term) a = w term a

    row_mapped : (ls : LinksOf T) → AllOfRow P ls → AllOfRow Q (map_row f ls)
    row_mapped no_link a = tt
    row_mapped (more_links l ls) a = (link_mapped l a.0, row_mapped ls a.1)

    chains_mapped : (cs : ChainsOf T) → AllOfChains P cs → AllOfChains Q (map_chains f cs)
    chains_mapped no_chain a = tt
    chains_mapped (more_chains l r cs) a = (row_mapped l a.0, row_mapped r a.1, chains_mapped cs a.2)

  links_mapped : (ls : List (LinkOf T)) → AllOfLinks P ls → AllOfLinks Q (map (map_link f) ls)
  links_mapped [] a = tt
  links_mapped (l ∷ ls) a = (link_mapped l a.0, links_mapped ls a.1)

  mutual
    why_mapped : (y : WhyOf T) → AllOfWhy P y → AllOfWhy Q (map_why f y)
    why_mapped (Same_why chain) a = (links_mapped chain.left a.0, links_mapped chain.right a.1)
    why_mapped (Split_why chain term whys) a = ((links_mapped chain.left a.0.0, links_mapped chain.right a.0.1), w term a.1, whys_mapped whys a.2)

    whys_mapped : (ys : WhysOf T) → AllOfWhys P ys → AllOfWhys Q (map_whys f ys)
    whys_mapped no_why a = tt
    whys_mapped (more_whys y ys) a = (why_mapped y a.0, whys_mapped ys a.1)

  step_mapped : (s : ProofStep T) → AllOfStep P s → AllOfStep Q (map_step f s)
  step_mapped (Simplify chain) a = (links_mapped chain.left a.0, links_mapped chain.right a.1)
  step_mapped (Reduce why) a = why_mapped why a
  step_mapped Derive a = tt
  step_mapped (Cases term) a = w term a
  step_mapped Done a = tt

-- ---- numbers in the table

mutual
  link_in_table : (count depth : ℕ) (l : LinkOf ℕ) → IsLinkFor count depth l → AllOfLink (λ n. n < count) l
  link_in_table count depth (Equation_link number way path terms conds) f = (f.2, chains_in_table count depth conds f.3)
  link_in_table count depth (Hypothesis_link number way path terms conds) f = (f.2, chains_in_table count depth conds f.3)
  link_in_table count depth (Assumption_link number way path) f = tt
  link_in_table count depth (Content_link op path term) f = f.2

  row_in_table : (count depth : ℕ) (ls : LinksOf ℕ) → IsRowFor count depth ls → AllOfRow (λ n. n < count) ls
  row_in_table count depth no_link f = tt
  row_in_table count depth (more_links l ls) f = (link_in_table count depth l f.0, row_in_table count depth ls f.1)

  chains_in_table : (count depth : ℕ) (cs : ChainsOf ℕ) → AreChainsFor count depth cs → AllOfChains (λ n. n < count) cs
  chains_in_table count depth no_chain f = tt
  chains_in_table count depth (more_chains l r cs) f =
      (row_in_table count (depth - 1) l f.1, row_in_table count (depth - 1) r f.2, chains_in_table count depth cs f.3)

links_in_table : (count : ℕ) (ls : List (LinkOf ℕ)) → AreLinksFor count ls → AllOfLinks (λ n. n < count) ls
links_in_table count [] f = tt
links_in_table count (l ∷ ls) f = (link_in_table count nesting_limit l f.0, links_in_table count ls f.1)

mutual
  why_in_table : (count splits : ℕ) (y : WhyOf ℕ) → IsWhyFor count splits y → AllOfWhy (λ n. n < count) y
  why_in_table count splits (Same_why chain) f = (links_in_table count chain.left f.0, links_in_table count chain.right f.1)
  why_in_table count splits (Split_why chain term whys) f =
      ((links_in_table count chain.left f.0.0, links_in_table count chain.right f.0.1), f.1, whys_in_table count _ whys f.4)

  whys_in_table : (count splits : ℕ) (ys : WhysOf ℕ) → AreWhysFor count splits ys → AllOfWhys (λ n. n < count) ys
  whys_in_table count splits no_why f = tt
  whys_in_table count splits (more_whys y ys) f = (why_in_table count splits y f.0, whys_in_table count splits ys f.1)

step_in_table : (count : ℕ) (s : ProofStep ℕ) → IsStepFor count s → AllOfStep (λ n. n < count) s
step_in_table count (Simplify chain) f = (links_in_table count chain.left f.0, links_in_table count chain.right f.1)
step_in_table count (Reduce why) f = why_in_table count split_limit why f
step_in_table count Derive f = tt
step_in_table count (Cases term) f = f
step_in_table count Done f = tt

pub certificates_in_table : (count : ℕ) (lss : List (List (LinkOf ℕ))) → AllByRecursion (AreLinksFor count) lss
    → AllByRecursion (AllOfLinks (λ n. n < count)) lss
certificates_in_table count [] f = tt
certificates_in_table count (ls ∷ lss) f = (links_in_table count ls f.0, certificates_in_table count lss f.1)

pub steps_in_table : (count : ℕ) (ss : List (ProofStep ℕ)) → AllByRecursion (IsStepFor count) ss → AllByRecursion (AllOfStep (λ n. n < count)) ss
steps_in_table count [] f = tt
steps_in_table count (s ∷ ss) f = (step_in_table count s f.0, steps_in_table count ss f.1)

-- ---- well-sorted terms

links_sorted : (sig : Signature) (table : List Tree) → AllByRecursion (IsWellSorted sig) table → (ls : List (LinkOf ℕ)) → AreLinksFor (length table) ls
    → AllOfLinks (IsWellSorted sig) (map (map_link (named table)) ls)
links_sorted sig table a ls f =
    links_mapped (named table) (λ n. n < length table) (IsWellSorted sig) (λ n l. named_well_sorted sig table n a l) ls (links_in_table (length table) ls f)

pub certificates_sorted : (sig : Signature) (table : List Tree) → AllByRecursion (IsWellSorted sig) table → (lss : List (List (LinkOf ℕ)))
    → AllByRecursion (AreLinksFor (length table)) lss → AllByRecursion (AllOfLinks (IsWellSorted sig)) (map (map (map_link (named table))) lss)
certificates_sorted sig table a [] f = tt
certificates_sorted sig table a (ls ∷ lss) f = (links_sorted sig table a ls f.0, certificates_sorted sig table a lss f.1)

pub steps_sorted_terms : (sig : Signature) (table : List Tree) → AllByRecursion (IsWellSorted sig) table → (ss : List (ProofStep ℕ))
    → AllByRecursion (IsStepFor (length table)) ss → AllByRecursion (AllOfStep (IsWellSorted sig)) (map (map_step (named table)) ss)
steps_sorted_terms sig table a [] f = tt
steps_sorted_terms sig table a (s ∷ ss) f = (
  step_mapped (named table) (λ n. n < length table) (IsWellSorted sig) (λ n l. named_well_sorted sig table n a l) s (step_in_table (length table) s f.0),
  steps_sorted_terms sig table a ss f.1,
)
