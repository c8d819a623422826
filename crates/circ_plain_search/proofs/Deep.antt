-- Steps without a hidden hypothesis at a path that is not empty hold under no special set.
use Rattle.std.proofs.Common.{◌≡◌, ℕ, Bool, true, false, ◌||◌, List, [], ◌∷◌, ◌++◌, refl, ap, sym, ◌∙◌}
use Rattle.std.specs.List.{list_any}
use Rattle.std.specs.Option.{option_map_or}
use Rattle.circ_term.specs.Tree.{Tree, sort_of}
use Rattle.circ_theory.specs.Theory.{Theory, Pair, CaseList, HasNoConditions, sides}
use Rattle.circ_theory.specs.Derivable.{is_case}
use Rattle.circ_theory.specs.Observing.{is_hidden}
use Rattle.circ_theory.specs.Goal.{Goal}
use Rattle.circ_theory.proofs.Casing.{hidden_tells}
use Rattle.circ_theory.proofs.Lists.{all_at}
use Rattle.circ_theory.proofs.Rewriting.{contains_at}
use Rattle.circ_special.specs.declared.place.Place.{Place}
use Rattle.circ_proof.specs.Plain.{LinkOf, Equation_link, Hypothesis_link, Assumption_link, Content_link, ChainOf, WhyOf, WhysOf, Same_why, Split_why, no_why, more_whys}
use Rattle.circ_proof.specs.Runs.{Runs}
use Rattle.circ_proof.specs.Link.{setting, Leads}
use Rattle.circ_proof.specs.Justified.{ChainLeads, Justified, EachJustified}
use Rattle.circ_proof.specs.Rules.{State, ProofStep, Simplify, Reduce, Derive, Cases, Done, StepOn, StepOf}
use Rattle.circ_plain_search.specs.BlockRules.{HaveNoConditions}
use Rattle.circ_plain_search.specs.Search.{is_deep, is_deep_chain, is_deep_why, are_deep_whys, is_deep_step}
use Rattle.circ_plain_search.proofs.Unconditional.{none_anywhere}

pub or_false : (a b : Bool) → (a || b) ≡ false → (a ≡ false) × (b ≡ false)
or_false true b e = absurd (cc)
or_false false b e = (refl, e)

module _ (th : Theory) (none : HasNoConditions th) (G : List Place) (H : List Goal) (bare : HaveNoConditions H) where
  flat_link : (A : List Pair) (l : LinkOf Tree) (t u : Tree) → Leads (setting th G H A) l t u → is_deep th H l ≡ false → Leads (setting th [] H A) l t u
  flat_link A (Equation_link n w p ts cs) t u k e = (
    record { equation = k.0.equation; listed = k.0.listed; rewrites = k.0.rewrites },
    none_anywhere (setting th G H A) (setting th [] H A) _ k.0.equation.conds cs
        (none k.0.equation (contains_at th.equations n k.0.equation k.0.listed)) k.1,
  )
  flat_link A (Hypothesis_link n w [] ts cs) t u k e = (
    record { hypothesis = k.0.hypothesis; listed = k.0.listed; rewrites = k.0.rewrites; special = λ h. tt },
    none_anywhere (setting th G H A) (setting th [] H A) _ k.0.hypothesis.conds cs
        (all_at (λ g. g.conds ≡ []) H n k.0.hypothesis bare k.0.listed) k.1,
  )
  flat_link A (Hypothesis_link n w (i ∷ p) ts cs) t u k e = (
    record {
      hypothesis = k.0.hypothesis;
      listed = k.0.listed;
      rewrites = k.0.rewrites;
      special = λ h.
          let seen : is_hidden th (sort_of k.0.hypothesis.left) ≡ false
          = ap (λ o. option_map_or (λ g. is_hidden th (sort_of g.left)) o false) (sym k.0.listed) ∙ e in
          absurd (let z = sym ((hidden_tells th (sort_of k.0.hypothesis.left)).1 h) ∙ seen in cc);
    },
    none_anywhere (setting th G H A) (setting th [] H A) _ k.0.hypothesis.conds cs
        (all_at (λ g. g.conds ≡ []) H n k.0.hypothesis bare k.0.listed) k.1,
  )
  flat_link A (Assumption_link n w p) t u k e = record { assumed = k.assumed; listed = k.listed; replaces = k.replaces }
  flat_link A (Content_link f p new) t u k e = record { old = k.old; content = k.content; replaces = k.replaces }

  flat_links : (A : List Pair) (ls : List (LinkOf Tree)) (t u : Tree) → Runs (Leads (setting th G H A)) ls t u → list_any (is_deep th H) ls ≡ false
      → Runs (Leads (setting th [] H A)) ls t u
  flat_links A [] t u k e = k
  flat_links A (l ∷ ls) t u k e =
      let p = or_false (is_deep th H l) (list_any (is_deep th H) ls) e in
      (k.0, flat_link A l t k.0 k.1 p.0, flat_links A ls k.0 u k.2 p.1)

  flat_chain : (A : List Pair) (c : ChainOf Tree) (p q : Pair) → ChainLeads (Leads (setting th G H A)) c p q → is_deep_chain th H c ≡ false
      → ChainLeads (Leads (setting th [] H A)) c p q
  flat_chain A c p q k e =
      let b = or_false (list_any (is_deep th H) c.left) (list_any (is_deep th H) c.right) e in
      record { left = flat_links A c.left p.left q.left k.left b.0; right = flat_links A c.right p.right q.right k.right b.1 }

  mutual
    flat_why : (A : List Pair) (w : WhyOf Tree) (p : Pair) → Justified (setting th G H A) p w → is_deep_why th H w ≡ false → Justified (setting th [] H A) p w
    flat_why A (Same_why c) p j e = (j.0, flat_chain A c p _ j.1 e)
    flat_why A (Split_why c u ws) p j e =
        let r = or_false (is_deep_chain th H c) (are_deep_whys th H ws) e in
        (j.0, flat_chain A c p j.0 j.1 r.0, j.2, j.3, j.4, flat_whys A ws j.0 u j.2 j.2.constants j.5 r.1)

    flat_whys : (A : List Pair) (ws : WhysOf Tree) (p : Pair) (u : Tree) (l : CaseList) (ks : List ℕ) → EachJustified (setting th G H A) p u l ks ws
        → are_deep_whys th H ws ≡ false → EachJustified (setting th [] H A) p u l ks ws
    flat_whys A no_why p u l [] j e = j
    flat_whys A no_why p u l (k ∷ ks) j e = absurd j
    flat_whys A (more_whys w ws) p u l [] j e = absurd j
    flat_whys A (more_whys w ws) p u l (k ∷ ks) j e =
        let b = or_false (is_deep_why th H w) (are_deep_whys th H ws) e in
        (flat_why (A ++ is_case u l k ∷ []) w p j.0 b.0, flat_whys A ws p u l ks j.1 b.1)

  flat_on : (s : ProofStep Tree) (gs : List Goal) (b : State) → StepOn th G s H gs b → is_deep_step th H s ≡ false → StepOn th [] s H gs b
  flat_on (Simplify c) [] b r e = r
  flat_on (Simplify c) (g ∷ gs) b r e = (r.0, flat_chain g.conds c (sides g) r.0 r.1 e, r.2)
  flat_on (Reduce w) [] b r e = r
  flat_on (Reduce w) (g ∷ gs) b r e = (flat_why g.conds w (sides g) r.0 e, r.1)
  flat_on Derive [] b r e = r
  flat_on Derive (g ∷ gs) b r e = r
  flat_on (Cases u) [] b r e = r
  flat_on (Cases u) (g ∷ gs) b r e = r
  flat_on Done [] b r e = r
  flat_on Done (g ∷ gs) b r e = r

pub flat_step : (th : Theory) → HasNoConditions th → (G : List Place) (s : ProofStep Tree) (a b : State) → HaveNoConditions a.hypotheses → StepOf th G s a b → is_deep_step th a.hypotheses s ≡ false → StepOf th [] s a b
flat_step th none G s a b bare r e = flat_on th none G a.hypotheses bare s a.goals b r e
