-- The table of a proof: its numbers name its terms, its entries stand on earlier ones, and what holds of the terms holds of the table.
use Rattle.std.proofs.Common.{◌≡◌, ◌<◌, length, Bool, true, false, if◌then◌else◌, List, [], ◌∷◌, ◌++◌, map, refl, ap, sym, subst, ◌∙◌, arith, append_assoc, append-nil}
use Rattle.std.specs.List.{AllByRecursion}
use Rattle.std.specs.Option.{unwrap_or}
use Rattle.circ_term.specs.Tree.{Tree, Trees, Var, App, none, more, list_of}
use Rattle.circ_term.specs.Growing.{Grows}
use Rattle.circ_theory.specs.Theory.{Theory}
use Rattle.circ_theory.specs.Rewriting.{named}
use Rattle.circ_theory.proofs.Lists.{all_push}
use Rattle.circ_proof.specs.Plain.{LinkOf, LinksOf, ChainsOf, Equation_link, Hypothesis_link, Assumption_link, Content_link, no_link, more_links, no_chain, more_chains, ChainOf, WhyOf, WhysOf, Same_why, Split_why, no_why, more_whys, map_link, map_row, map_chains, map_chain, map_why, map_whys}
use Rattle.circ_proof.specs.Link.{AllOfLink, AllOfRow, AllOfChains, AllOfLinks}
use Rattle.circ_proof.specs.Justified.{AllOfChain, AllOfWhy, AllOfWhys}
use Rattle.circ_proof.specs.Table.{has, number_in, entered, added, all_added}
use Rattle.circ_proof.proofs.Tables.{has_front, number_names, grows_self, grows_more, added_grows, added_has, all_added_have}
use Rattle.circ_proof.specs.Rules.{ProofStep, Simplify, Reduce, Derive, Cases, Done, map_step, AllOfStep}
use Rattle.circ_proof.specs.Proof.{IsEntry, AreEntries}
use Rattle.circ_proof.proofs.FewPlaces.{slice_bound}
use Rattle.circ_plain_search.specs.Numbering.{asked_for}
use Rattle.circ_plain_search.proofs.Terms.{Fine, FineTerms, args_fine}
use Rattle.circ_plain_search.proofs.Runs.{most}

-- ---- each term is there, and its number names it

abbrev pub Has : (table : List Tree) → Tree → Type 0
Has table t = has table t ≡ true

has_later : (old new : List Tree) (t : Tree) → Grows old new → Has old t → Has new t
has_later old new t a h = let P : List Tree → Type 0 = λ x. Has x t in subst P (sym a.1) (has_front old a.0 t h)

asked_grows : (table ts : List Tree) → Grows table (asked_for table ts)
asked_grows table [] = grows_self table
asked_grows table (t ∷ ts) =
    grows_more table (added table t) (asked_for (added table t) ts) (added_grows table t) (asked_grows (added table t) ts)

pub asked_has : (table ts : List Tree) → AllByRecursion (Has (asked_for table ts)) ts
asked_has table [] = tt
asked_has table (t ∷ ts) =
    (has_later (added table t) (asked_for (added table t) ts) t (asked_grows (added table t) ts) (added_has table t), asked_has (added table t) ts)

pub number_named : (table : List Tree) (t : Tree) → Has table t → named table (number_in table t) ≡ t
number_named table t h = ap (λ o. unwrap_or o (Var 0 0)) (number_names table t h)

pub number_less : (table : List Tree) (t : Tree) → Has table t → number_in table t < length table
number_less table t h = slice_bound table (number_in table t) t (number_names table t h)

-- ---- what a numbering undoes

module _ (table : List Tree) where
  abbrev back : Tree → Tree
  back t = named table (number_in table t)

  terms_named : (ts : List Tree) → AllByRecursion (Has table) ts → map (named table) (map (number_in table) ts) ≡ ts
  terms_named [] a = refl
  terms_named (t ∷ ts) a =
      ap (λ x. x ∷ map (named table) (map (number_in table) ts)) (number_named table t a.0) ∙ ap (λ x. t ∷ x) (terms_named ts a.1)

  mutual
    link_named : (l : LinkOf Tree) → AllOfLink (Has table) l → map_link (named table) (map_link (number_in table) l) ≡ l
    link_named (Equation_link n w p ts cs) a =
        ap (λ x. Equation_link n w p x (map_chains (named table) (map_chains (number_in table) cs))) (terms_named ts a.0)
        ∙ ap (Equation_link n w p ts) (chains_named cs a.1)
    link_named (Hypothesis_link n w p ts cs) a =
        ap (λ x. Hypothesis_link n w p x (map_chains (named table) (map_chains (number_in table) cs))) (terms_named ts a.0)
        ∙ ap (Hypothesis_link n w p ts) (chains_named cs a.1)
    link_named (Assumption_link n w p) a = refl
    link_named (Content_link f p t) a = ap (Content_link f p) (number_named table t a)

    row_named : (ls : LinksOf Tree) → AllOfRow (Has table) ls → map_row (named table) (map_row (number_in table) ls) ≡ ls
    row_named no_link a = refl
    row_named (more_links l ls) a =
        ap (λ x. more_links x (map_row (named table) (map_row (number_in table) ls))) (link_named l a.0) ∙ ap (more_links l) (row_named ls a.1)

    chains_named : (cs : ChainsOf Tree) → AllOfChains (Has table) cs → map_chains (named table) (map_chains (number_in table) cs) ≡ cs
    chains_named no_chain a = refl
    chains_named (more_chains l r cs) a =
        ap (λ x. more_chains x (map_row (named table) (map_row (number_in table) r)) (map_chains (named table) (map_chains (number_in table) cs)))
        (row_named l a.0)
        ∙ ap (λ x. more_chains l x (map_chains (named table) (map_chains (number_in table) cs))) (row_named r a.1)
        ∙ ap (more_chains l r) (chains_named cs a.2)

  pub links_named : (ls : List (LinkOf Tree)) → AllOfLinks (Has table) ls → map (map_link (named table)) (map (map_link (number_in table)) ls) ≡ ls
  links_named [] a = refl
  links_named (l ∷ ls) a =
      ap (λ x. x ∷ map (map_link (named table)) (map (map_link (number_in table)) ls)) (link_named l a.0) ∙ ap (λ x. l ∷ x) (links_named ls a.1)

  chain_named : (c : ChainOf Tree) → AllOfChain (Has table) c → map_chain (named table) (map_chain (number_in table) c) ≡ c
  chain_named c a =
      let P : List (LinkOf Tree) → List (LinkOf Tree) → ChainOf Tree = λ x y. record { left = x; right = y } in
      ap (λ x. P x (map (map_link (named table)) (map (map_link (number_in table)) c.right))) (links_named c.left a.0)
      ∙ ap (P c.left) (links_named c.right a.1)

  mutual
    why_named : (w : WhyOf Tree) → AllOfWhy (Has table) w → map_why (named table) (map_why (number_in table) w) ≡ w
    why_named (Same_why c) a = ap Same_why (chain_named c a)
    why_named (Split_why c u ws) a =
        ap (λ z. Split_why z (back u) (map_whys (named table) (map_whys (number_in table) ws))) (chain_named c a.0)
        ∙ ap (λ z. Split_why c z (map_whys (named table) (map_whys (number_in table) ws))) (number_named table u a.1)
        ∙ ap (Split_why c u) (whys_named ws a.2)

    whys_named : (ws : WhysOf Tree) → AllOfWhys (Has table) ws → map_whys (named table) (map_whys (number_in table) ws) ≡ ws
    whys_named no_why a = refl
    whys_named (more_whys w ws) a =
        ap (λ z. more_whys z (map_whys (named table) (map_whys (number_in table) ws))) (why_named w a.0) ∙ ap (more_whys w) (whys_named ws a.1)

  step_named : (s : ProofStep Tree) → AllOfStep (Has table) s → map_step (named table) (map_step (number_in table) s) ≡ s
  step_named (Simplify c) a = ap Simplify (chain_named c a)
  step_named (Reduce w) a = ap Reduce (why_named w a)
  step_named Derive a = refl
  step_named (Cases u) a = ap Cases (number_named table u a)
  step_named Done a = refl

  pub steps_named : (ss : List (ProofStep Tree)) → AllByRecursion (AllOfStep (Has table)) ss
      → map (map_step (named table)) (map (map_step (number_in table)) ss) ≡ ss
  steps_named [] a = refl
  steps_named (s ∷ ss) a =
      ap (λ x. x ∷ map (map_step (named table)) (map (map_step (number_in table)) ss)) (step_named s a.0) ∙ ap (λ x. s ∷ x) (steps_named ss a.1)

-- ---- entries

entries_more : (before ts : List Tree) (t : Tree) → AreEntries before ts → IsEntry (before ++ ts) t → AreEntries before (ts ++ t ∷ [])
entries_more before [] t a e = let P : List Tree → Type 0 = λ x. IsEntry x t in (subst P (append-nil before) e, tt)
entries_more before (u ∷ ts) t a e =
    let P : List Tree → Type 0 = λ x. IsEntry x t in
    (a.0, entries_more (before ++ u ∷ []) ts t a.1 (subst P (sym (append_assoc before (u ∷ []) ts)) e))

-- a table of fine terms, each of which stands on earlier ones
pub record IsFineTable (th : Theory) (table : List Tree) : Type 0 where
  pub entries : AreEntries [] table
  pub fine : FineTerms th most table

entered_fine : (th : Theory) (table : List Tree) (t : Tree) → IsFineTable th table → IsEntry table t → Fine th most t → IsFineTable th (entered table t)
entered_fine th table t a e f = go (has table t)
  where
    go : (b : Bool) → IsFineTable th (if b then table else table ++ t ∷ [])
    go true = a
    go false = record { entries = entries_more [] table t a.entries e; fine = all_push (Fine th most) table t a.fine f }

mutual
  added_fine : (th : Theory) (table : List Tree) (t : Tree) → IsFineTable th table → Fine th most t → IsFineTable th (added table t)
  added_fine th table (Var n s) a f = entered_fine th table (Var n s) a (let h = f.low in omega (arith, h)) f
  added_fine th table (App g s ts) a f =
      entered_fine th (all_added table ts) (App g s ts) (all_added_fine th table ts a (args_fine th most g s ts f)) (all_added_have table ts) f

  all_added_fine : (th : Theory) (table : List Tree) (ts : Trees) → IsFineTable th table → FineTerms th most (list_of ts)
      → IsFineTable th (all_added table ts)
  all_added_fine th table none a f = a
  all_added_fine th table (more t ts) a f = all_added_fine th (added table t) ts (added_fine th table t a f.0) f.1

pub asked_fine : (th : Theory) (table ts : List Tree) → IsFineTable th table → FineTerms th most ts → IsFineTable th (asked_for table ts)
asked_fine th table [] a f = a
asked_fine th table (t ∷ ts) a f = asked_fine th (added table t) ts (added_fine th table t a f.0) f.1
