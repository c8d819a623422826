-- Steps without a hidden hypothesis at a path that is not empty hold under no special set.
use Rattle.std.proofs.Common.{◌≡◌, ℕ, true, false, ◌||◌, List, [], ◌∷◌, ◌++◌, Some, ap, sym, ◌∙◌}
use Rattle.std.specs.List.{list_any, slice_get}
use Rattle.std.specs.Option.{option_map_or}
use Rattle.circ_term.specs.Tree.{Tree, sort_of}
use Rattle.circ_term.specs.Substitution.{Substitution, instance}
use Rattle.circ_theory.specs.Theory.{Theory, Pair, CaseList, sides, goal_of}
use Rattle.circ_theory.specs.Derivable.{is_case}
use Rattle.circ_theory.specs.Observing.{is_hidden}
use Rattle.circ_theory.proofs.Casing.{hidden_tells}
use Rattle.circ_special.specs.declared.place.Place.{Place}
use Rattle.circ_special.specs.Special.{IsSpecial}
use Rattle.circ_proof.specs.Runs.{Runs}
use Rattle.circ_plain_search.proofs.Deep.{or_false}
use Rattle.circ_proof.specs.Plain.{LinkOf, LinksOf, ChainsOf, Equation_link, Hypothesis_link, Assumption_link, Content_link, no_link, more_links, no_chain, more_chains, ChainOf, WhyOf, WhysOf, Same_why, Split_why, no_why, more_whys}
use Rattle.circ_theory.specs.Goal.{Goal}
use Rattle.circ_proof.specs.Link.{setting, Leads, RowLeads, ConditionsLead}
use Rattle.circ_theory.specs.Rewriting.{by_terms}
use Rattle.circ_proof.specs.Justified.{ChainLeads, Justified, EachJustified}
use Rattle.circ_proof.specs.Rules.{State, ProofStep, Simplify, Reduce, Derive, Cases, Done, StepOn, StepOf}
use Rattle.circ_conditional_search.specs.Search.{is_hidden_use, link_is_deep, row_is_deep, chains_are_deep, chain_is_deep, why_is_deep, whys_are_deep, step_is_deep}

module _ (th : Theory) (G : List Place) (H : List Goal) where
  flat_special : (n : ℕ) (p : List ℕ) (h : Goal) (t : Tree) → slice_get H n ≡ Some h → is_hidden_use th H n p ≡ false
      → is_hidden th (sort_of h.left) ≡ true → IsSpecial [] t p
  flat_special n [] h t g e x = tt
  flat_special n (i ∷ p) h t g e x =
      let seen : is_hidden th (sort_of h.left) ≡ false = ap (λ o. option_map_or (λ g. is_hidden th (sort_of g.left)) o false) (sym g) ∙ e in
      absurd (let z = sym x ∙ seen in cc)

  mutual
    flat_link : (A : List Pair) (l : LinkOf Tree) (t u : Tree) → Leads (setting th G H A) l t u → link_is_deep th H l ≡ false → Leads (setting th [] H A) l t u
    flat_link A (Equation_link n w p ts cs) t u k e =
        (record { equation = k.0.equation; listed = k.0.listed; rewrites = k.0.rewrites }, flat_conds A (by_terms (goal_of k.0.equation) ts) k.0.equation.conds cs k.1 e)
    flat_link A (Hypothesis_link n w p ts cs) t u k e =
        let b = or_false (is_hidden_use th H n p) (chains_are_deep th H cs) e in (
          record {
            hypothesis = k.0.hypothesis;
            listed = k.0.listed;
            rewrites = k.0.rewrites;
            special = λ h. flat_special n p k.0.hypothesis t k.0.listed b.0 ((hidden_tells th (sort_of k.0.hypothesis.left)).1 h);
          },
          flat_conds A (by_terms k.0.hypothesis ts) k.0.hypothesis.conds cs k.1 b.1,
        )
    flat_link A (Assumption_link n w p) t u k e = record { assumed = k.assumed; listed = k.listed; replaces = k.replaces }
    flat_link A (Content_link f p new) t u k e = record { old = k.old; content = k.content; replaces = k.replaces }

    flat_row : (A : List Pair) (ls : LinksOf Tree) (t u : Tree) → RowLeads (setting th G H A) ls t u → row_is_deep th H ls ≡ false → RowLeads (setting th [] H A) ls t u
    flat_row A no_link t u k e = k
    flat_row A (more_links l ls) t u k e =
        let b = or_false (link_is_deep th H l) (row_is_deep th H ls) e in
        (k.0, flat_link A l t k.0 k.1 b.0, flat_row A ls k.0 u k.2 b.1)

    flat_conds : (A : List Pair) (σ : Substitution) (ps : List Pair) (cs : ChainsOf Tree) → ConditionsLead (setting th G H A) σ ps cs
        → chains_are_deep th H cs ≡ false → ConditionsLead (setting th [] H A) σ ps cs
    flat_conds A σ [] no_chain k e = k
    flat_conds A σ [] (more_chains l r cs) k e = absurd k
    flat_conds A σ (p ∷ ps) no_chain k e = absurd k
    flat_conds A σ (p ∷ ps) (more_chains l r cs) k e =
        let b = or_false (row_is_deep th H l) (row_is_deep th H r || chains_are_deep th H cs) e in
        let d = or_false (row_is_deep th H r) (chains_are_deep th H cs) b.1 in
        (k.0, k.1, (k.2.0, flat_row A l (instance σ p.left) k.2.0 k.2.1 b.0, flat_row A r (instance σ p.right) k.2.0 k.2.2 d.0), flat_conds A σ ps cs k.3 d.1)

  flat_links : (A : List Pair) (ls : List (LinkOf Tree)) (t u : Tree) → Runs (Leads (setting th G H A)) ls t u → list_any (link_is_deep th H) ls ≡ false
      → Runs (Leads (setting th [] H A)) ls t u
  flat_links A [] t u k e = k
  flat_links A (l ∷ ls) t u k e =
      let p = or_false (link_is_deep th H l) (list_any (link_is_deep th H) ls) e in
      (k.0, flat_link A l t k.0 k.1 p.0, flat_links A ls k.0 u k.2 p.1)

  flat_chain : (A : List Pair) (c : ChainOf Tree) (p q : Pair) → ChainLeads (Leads (setting th G H A)) c p q → chain_is_deep th H c ≡ false
      → ChainLeads (Leads (setting th [] H A)) c p q
  flat_chain A c p q k e =
      let b = or_false (list_any (link_is_deep th H) c.left) (list_any (link_is_deep th H) c.right) e in
      record { left = flat_links A c.left p.left q.left k.left b.0; right = flat_links A c.right p.right q.right k.right b.1 }

  mutual
    flat_why : (A : List Pair) (w : WhyOf Tree) (p : Pair) → Justified (setting th G H A) p w → why_is_deep th H w ≡ false → Justified (setting th [] H A) p w
    flat_why A (Same_why c) p j e = (j.0, flat_chain A c p _ j.1 e)
    flat_why A (Split_why c u ws) p j e =
        let r = or_false (chain_is_deep th H c) (whys_are_deep th H ws) e in
        (j.0, flat_chain A c p j.0 j.1 r.0, j.2, j.3, j.4, flat_whys A ws j.0 u j.2 j.2.constants j.5 r.1)

    flat_whys : (A : List Pair) (ws : WhysOf Tree) (p : Pair) (u : Tree) (l : CaseList) (ks : List ℕ) → EachJustified (setting th G H A) p u l ks ws
        → whys_are_deep th H ws ≡ false → EachJustified (setting th [] H A) p u l ks ws
    flat_whys A no_why p u l [] j e = j
    flat_whys A no_why p u l (k ∷ ks) j e = absurd j
    flat_whys A (more_whys w ws) p u l [] j e = absurd j
    flat_whys A (more_whys w ws) p u l (k ∷ ks) j e =
        let b = or_false (why_is_deep th H w) (whys_are_deep th H ws) e in
        (flat_why (A ++ is_case u l k ∷ []) w p j.0 b.0, flat_whys A ws p u l ks j.1 b.1)

  flat_on : (s : ProofStep Tree) (gs : List Goal) (b : State) → StepOn th G s H gs b → step_is_deep th H s ≡ false → StepOn th [] s H gs b
  flat_on (Simplify c) [] b r e = r
  flat_on (Simplify c) (g ∷ gs) b r e = (r.0, flat_chain g.conds c (sides g) r.0 r.1 e, r.2)
  flat_on (Reduce w) [] b r e = r
  flat_on (Reduce w) (g ∷ gs) b r e = (flat_why g.conds w (sides g) r.0 e, r.1)
  flat_on Derive [] b r e = r
  flat_on Derive (g ∷ gs) b r e = r
  flat_on (Cases u) [] b r e = r
  flat_on (Cases u) (g ∷ gs) b r e = r
  flat_on Done [] b r e = r
  flat_on Done (g ∷ gs) b r e = r

pub flat_step : (th : Theory) (G : List Place) (s : ProofStep Tree) (a b : State) → StepOf th G s a b → step_is_deep th a.hypotheses s ≡ false → StepOf th [] s a b
flat_step th G s a b r e = flat_on th G a.hypotheses s a.goals b r e
