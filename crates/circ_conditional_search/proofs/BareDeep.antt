-- Where nothing has conditions, a hidden hypothesis is used at a path that is not empty exactly where the plain search sees it.
use Rattle.std.proofs.Common.{◌≡◌, ℕ, Bool, true, false, ◌||◌, List, [], ◌∷◌, ◌++◌, refl, ap, sym, subst, ◌∙◌}
use Rattle.std.specs.List.{list_any}
use Rattle.circ_term.specs.Tree.{Tree}
use Rattle.circ_theory.specs.Theory.{Theory, Pair, HasNoConditions, CaseList, sides, pair_with}
use Rattle.circ_theory.specs.Derivable.{is_case}
use Rattle.circ_theory.specs.Goal.{Goal}
use Rattle.circ_theory.proofs.Lists.{all_at}
use Rattle.circ_theory.proofs.Rewriting.{contains_at}
use Rattle.circ_special.specs.declared.place.Place.{Place}
use Rattle.circ_proof.specs.Plain.{LinkOf, Equation_link, Hypothesis_link, Assumption_link, Content_link, ChainOf, WhyOf, WhysOf, Same_why, Split_why, no_why, more_whys}
use Rattle.circ_proof.specs.Runs.{Runs}
use Rattle.circ_proof.specs.Link.{setting, Leads}
use Rattle.circ_proof.specs.Justified.{ChainLeads, Justified, EachJustified}
use Rattle.circ_proof.specs.Rules.{State, Reduce, StepOn}
use Rattle.circ_plain_search.specs.BlockRules.{HaveNoConditions}
use Rattle.circ_plain_search.specs.Search.{is_deep, is_deep_chain, is_deep_why, are_deep_whys}
use Rattle.circ_plain_search.proofs.Unconditional.{chains_none}
use Rattle.circ_conditional_search.specs.Search.{is_hidden_use, link_is_deep, chains_are_deep, chain_is_deep, why_is_deep, whys_are_deep}

or_none : (b : Bool) → (b || false) ≡ b
or_none true = refl
or_none false = refl

module _ (th : Theory) (none : HasNoConditions th) (G : List Place) (H : List Goal) (bare : HaveNoConditions H) where
  deep_link : (A : List Pair) (l : LinkOf Tree) (t u : Tree) → Leads (setting th G H A) l t u → link_is_deep th H l ≡ is_deep th H l
  deep_link A (Equation_link n w q ts cs) t u r =
      ap (chains_are_deep th H)
      (chains_none (setting th G H A) _ r.0.equation.conds cs (none r.0.equation (contains_at th.equations n r.0.equation r.0.listed)) r.1)
  deep_link A (Hypothesis_link n w [] ts cs) t u r =
      ap (chains_are_deep th H)
      (chains_none (setting th G H A) _ r.0.hypothesis.conds cs (all_at (λ h. h.conds ≡ []) H n r.0.hypothesis bare r.0.listed) r.1)
  deep_link A (Hypothesis_link n w (i ∷ q) ts cs) t u r =
      ap (λ z. is_hidden_use th H n (i ∷ q) || chains_are_deep th H z)
      (chains_none (setting th G H A) _ r.0.hypothesis.conds cs (all_at (λ h. h.conds ≡ []) H n r.0.hypothesis bare r.0.listed) r.1)
      ∙ or_none (is_hidden_use th H n (i ∷ q))
  deep_link A (Assumption_link n w q) t u r = refl
  deep_link A (Content_link f q new) t u r = refl

  pub deep_links : (A : List Pair) (ls : List (LinkOf Tree)) (t u : Tree) → Runs (Leads (setting th G H A)) ls t u
      → list_any (link_is_deep th H) ls ≡ list_any (is_deep th H) ls
  deep_links A [] t u r = refl
  deep_links A (l ∷ ls) t u r = λ i. deep_link A l t r.0 r.1 i || deep_links A ls r.0 u r.2 i

  deep_chain : (A : List Pair) (c : ChainOf Tree) (p q : Pair) → ChainLeads (Leads (setting th G H A)) c p q → chain_is_deep th H c ≡ is_deep_chain th H c
  deep_chain A c p q r = λ i. deep_links A c.left p.left q.left r.left i || deep_links A c.right p.right q.right r.right i

  mutual
    pub deep_why : (A : List Pair) (w : WhyOf Tree) (p : Pair) → Justified (setting th G H A) p w → why_is_deep th H w ≡ is_deep_why th H w
    deep_why A (Same_why c) p j = deep_chain A c p (pair_with j.0 j.0) j.1
    deep_why A (Split_why c u ws) p j = λ i. deep_chain A c p j.0 j.1 i || deep_whys A ws j.0 u j.2 j.2.constants j.5 i

    deep_whys : (A : List Pair) (ws : WhysOf Tree) (p : Pair) (u : Tree) (l : CaseList) (ks : List ℕ) → EachJustified (setting th G H A) p u l ks ws
        → whys_are_deep th H ws ≡ are_deep_whys th H ws
    deep_whys A no_why p u l ks j = refl
    deep_whys A (more_whys w ws) p u l [] j = absurd j
    deep_whys A (more_whys w ws) p u l (k ∷ ks) j =
        λ i. deep_why (A ++ is_case u l k ∷ []) w p j.0 i || deep_whys A ws p u l ks j.1 i

-- the reason of a Reduce step that leads to b
pub last_deep : (th : Theory) → HasNoConditions th → (G : List Place) (w : WhyOf Tree) (H gs : List Goal) (b : State) → HaveNoConditions b.hypotheses
    → StepOn th G (Reduce w) H gs b → why_is_deep th b.hypotheses w ≡ is_deep_why th b.hypotheses w
last_deep th none G w H [] b bare r = absurd r
last_deep th none G w H (g ∷ gs) b bare r =
    let e : H ≡ b.hypotheses = sym (ap (λ z. z.hypotheses) r.1) in
    let P : List Goal → Type 0 = λ K. Justified (setting th G K g.conds) (sides g) w in
    deep_why th none G b.hypotheses bare g.conds w (sides g) (subst P e r.0)
