-- What is told of the goals of an accepted block is so.
use Rattle.std.proofs.Common.{◌≡◌, ℕ, List, [], ◌∷◌, ◌++◌, map, length, refl, ap, sym, ◌∙◌, subst, append_assoc, append-nil}
use Rattle.std.specs.List.{AllByRecursion}
use Rattle.circ_term.specs.Tree.{Tree, sort_of}
use Rattle.circ_theory.specs.Signature.{IsWellSorted}
use Rattle.circ_theory.specs.Theory.{Theory, Pair, pair_with, goal, sides, goal_of, Derivative, CaseList}
use Rattle.circ_theory.specs.Rewriting.{by_terms}
use Rattle.circ_theory.specs.Fresh.{derivatives_of, fresh_in}
use Rattle.circ_theory.specs.WellFormed.{IsWellFormed}
use Rattle.circ_theory.specs.Derivable.{is_case}
use Rattle.circ_theory.specs.Goal.{Goal}
use Rattle.circ_theory.proofs.Lists.{slice_get-front}
use Rattle.circ_special.specs.declared.place.Place.{Place}
use Rattle.circ_proof.specs.Plain.{LinkOf, chains_in, no_chain, Equation_link, Hypothesis_link, Assumption_link, Content_link, ChainOf, WhyOf, WhysOf}
use Rattle.circ_proof.specs.Plain.{Same_why, Split_why, no_why, more_whys}
use Rattle.circ_proof.specs.Goals.{AreSortedGoals}
use Rattle.circ_proof.specs.Runs.{Runs}
use Rattle.circ_proof.specs.Link.{Setting, setting, assuming, Leads}
use Rattle.circ_proof.specs.Justified.{ChainLeads, Justified, EachJustified, AllOfChain}
use Rattle.circ_proof.specs.Rules.{State, state, ProofStep, Simplify, Reduce, Derive, Cases, Done, AllOfStep, StepsOf, IsSortedState, derived_goal}
use Rattle.circ_proof.specs.Rules.{derivatives_on}
use Rattle.circ_proof.proofs.Sorted.{sorted_first}
use Rattle.circ_proof.proofs.Stepping.{step_sorted}
use Rattle.circ_expansion.specs.Followed.{Histories, Simplified, Derived, no_history, more_histories, goal_in, list_in, first_history, other_histories}
use Rattle.circ_expansion.specs.Followed.{first_histories, histories_after, Told, told_as, told, and_simplified, led_all, led_goal}
use Rattle.circ_expansion.proofs.Led.{links_led}
use Rattle.circ_expansion.proofs.Plainness.{AreBare, IsBareChain, IsBareWhy, AreBareWhys, IsBareStep, AreBareGoals, none_due, none_asked}
use Rattle.circ_expansion.proofs.Standing.{IsBare, IsHistory, AreHistories}

-- ---- more hypotheses do no harm

abbrev wider : Setting → List Goal → Setting
wider c D = record c { hypotheses = c.hypotheses ++ D }

link_wider : (c : Setting) (D : List Goal) (l : LinkOf Tree) → chains_in l ≡ no_chain → (t u : Tree) → Leads c l t u → Leads (wider c D) l t u
link_wider c D (Equation_link number way path terms conds) e t u r =
    let q = r.0.equation in
    let none = none_due c (by_terms (goal_of q) terms) q.conds conds e r.1 in (
      record { equation = q; listed = r.0.listed; rewrites = r.0.rewrites },
      none_asked (wider c D) (by_terms (goal_of q) terms) q.conds conds none e,
    )
link_wider c D (Hypothesis_link number way path terms conds) e t u r =
    let q = r.0.hypothesis in
    let none = none_due c (by_terms q terms) q.conds conds e r.1 in (
      record { hypothesis = q; listed = slice_get-front c.hypotheses D number q r.0.listed; rewrites = r.0.rewrites; special = r.0.special },
      none_asked (wider c D) (by_terms q terms) q.conds conds none e,
    )
link_wider c D (Assumption_link number way path) e t u r = record { assumed = r.assumed; listed = r.listed; replaces = r.replaces }
link_wider c D (Content_link op path term) e t u r = record { old = r.old; content = r.content; replaces = r.replaces }

links_wider : (c : Setting) (D : List Goal) (ls : List (LinkOf Tree)) → AreBare ls → (t u : Tree) → Runs (Leads c) ls t u → Runs (Leads (wider c D)) ls t u
links_wider c D [] b t u r = r
links_wider c D (l ∷ ls) b t u r = (r.0, link_wider c D l b.0 t r.0 r.1, links_wider c D ls b.1 r.0 u r.2)

chain_wider : (c : Setting) (D : List Goal) (chain : ChainOf Tree) → IsBareChain chain → (p q : Pair) → ChainLeads (Leads c) chain p q
    → ChainLeads (Leads (wider c D)) chain p q
chain_wider c D chain b p q r = record {
  left = links_wider c D chain.left b.0 p.left q.left r.left;
  right = links_wider c D chain.right b.1 p.right q.right r.right;
}

mutual
  why_wider : (c : Setting) (D : List Goal) (p : Pair) (w : WhyOf Tree) → IsBareWhy w → Justified c p w → Justified (wider c D) p w
  why_wider c D p (Same_why chain) b j = (j.0, chain_wider c D chain b p (pair_with j.0 j.0) j.1)
  why_wider c D p (Split_why chain u ws) b j = (j.0, chain_wider c D chain b.0 p j.0 j.1, j.2, j.3, j.4, each_wider c D j.0 u j.2 j.2.constants ws b.1 j.5)

  each_wider : (c : Setting) (D : List Goal) (q : Pair) (u : Tree) (l : CaseList) (ks : List ℕ) (ws : WhysOf Tree) → AreBareWhys ws
      → EachJustified c q u l ks ws → EachJustified (wider c D) q u l ks ws
  each_wider c D q u l [] no_why b j = tt
  each_wider c D q u l [] (more_whys w ws) b j = absurd j
  each_wider c D q u l (k ∷ ks) no_why b j = absurd j
  each_wider c D q u l (k ∷ ks) (more_whys w ws) b j = (why_wider (assuming c (is_case u l k)) D q w b.0 j.0, each_wider c D q u l ks ws b.1 j.1)

-- ---- histories in lists

abbrev history_goals : Histories → List Goal
history_goals hs = map goal_in (list_in hs)

record Parts (c : Setting) (hs : Histories) (ps ds : List Goal) : Type 0 where
  first_goals : history_goals (first_histories (length ps) hs) ≡ ps
  other_goals : history_goals (histories_after (length ps) hs) ≡ ds
  first_are : AreHistories c (first_histories (length ps) hs)
  others_are : AreHistories c (histories_after (length ps) hs)

parts : (c : Setting) (hs : Histories) (ps ds : List Goal) → AreHistories c hs → history_goals hs ≡ ps ++ ds → Parts c hs ps ds
parts c hs [] ds a e = record { first_goals = refl; other_goals = e; first_are = tt; others_are = a }
parts c no_history (p ∷ ps) ds a e = absurd (cc)
parts c (more_histories h hs) (p ∷ ps) ds a e =
    let x : goal_in h ≡ p = cc in
    let y : history_goals hs ≡ ps ++ ds = cc in
    let r = parts c hs ps ds a.1 y in
    record {
      first_goals = ap (λ q. q ∷ history_goals (first_histories (length ps) hs)) x
          ∙ ap (λ qs. p ∷ qs) r.first_goals;
      other_goals = r.other_goals;
      first_are = (a.0, r.first_are);
      others_are = r.others_are;
    }

-- ---- what is told

pub record IsTold (th : Theory) (G : List Place) (H gs F : List Goal) (t : Told) : Type 0 where
  pub goals_are : map goal_in (list_in t.goals) ≡ gs
  pub goals_hold : AreHistories (setting th G F []) t.goals
  pub derived_hold : AreHistories (setting th G F []) t.derived
  pub whole : H ++ map goal_in (list_in t.derived) ≡ F

state_hypotheses : (H gs F K : List Goal) → state H gs ≡ state F K → H ≡ F
state_hypotheses H gs F K e = ap (λ (a : State). a.hypotheses) e

state_goals : (H gs F K : List Goal) → state H gs ≡ state F K → gs ≡ K
state_goals H gs F K e = ap (λ (a : State). a.goals) e

-- with no goal left nothing changes
none_left : (th : Theory) (G : List Place) (H F : List Goal) (ss : List (ProofStep Tree)) → StepsOf th G ss (state H []) (state F []) → H ≡ F
none_left th G H F [] r = state_hypotheses H [] F [] r
none_left th G H F (Simplify chain ∷ ss) r = absurd r.1
none_left th G H F (Reduce why ∷ ss) r = absurd r.1
none_left th G H F (Derive ∷ ss) r = absurd r.1
none_left th G H F (Cases u ∷ ss) r = absurd r.1
none_left th G H F (Done ∷ ss) r = let S : State → Type 0 = λ a. StepsOf th G ss a (state F []) in none_left th G H F ss (subst S r.1 r.2)

simplified_told : (th : Theory) (G : List Place) (H ps F : List Goal) (p q : Goal) (chain : ChainOf Tree) (t : Told)
    → ChainLeads (Leads (setting th G H [])) chain (sides p) (sides q) → IsBare (setting th G F []) p
    → AllOfChain (IsWellSorted th.signature) chain → IsBareChain chain → IsTold th G H (q ∷ ps) F t → IsTold th G H (p ∷ ps) F (and_simplified p chain t)
simplified_told th G H ps F p q chain t r wp f bc i = go t.goals i.goals_are i.goals_hold
  where
    chain_holds : ChainLeads (Leads (setting th G F [])) chain (sides p) (sides q)
    chain_holds =
        let P : List Goal → Type 0 = λ K. ChainLeads (Leads (setting th G K [])) chain (sides p) (sides q) in
        subst P i.whole (chain_wider (setting th G H []) (map goal_in (list_in t.derived)) chain bc (sides p) (sides q) r)

    go : (hs : Histories) → map goal_in (list_in hs) ≡ q ∷ ps → AreHistories (setting th G F []) hs
        → IsTold th G H (p ∷ ps) F (told_as (more_histories (Simplified p chain (first_history hs)) (other_histories hs)) t.derived)
    go no_history e a = absurd (cc)
    go (more_histories h hs) e a =
        let x : goal_in h ≡ q = cc in
        let y : map goal_in (list_in hs) ≡ ps = cc in
        let Q : Goal → Type 0 = λ z. ChainLeads (Leads (setting th G F [])) chain (sides p) (sides z) in
        record {
          goals_are = ap (λ qs. p ∷ qs) y;
          goals_hold = ((wp, (f, bc), subst Q (sym x) chain_holds, a.0), a.1);
          derived_hold = i.derived_hold;
          whole = i.whole;
        }

-- ---- goals without conditions

bare_append : (gs hs : List Goal) → AreBareGoals gs → AreBareGoals hs → AreBareGoals (gs ++ hs)
bare_append [] hs a b = b
bare_append (g ∷ gs) hs a b = (a.0, bare_append gs hs a.1 b)

derivatives_bare : (p : Goal) (k : ℕ) → p.conds ≡ [] → (ds : List Derivative) → AreBareGoals (map (λ d. derived_goal d p k) ds)
derivatives_bare p k e [] = tt
derivatives_bare p k e (d ∷ ds) = (e, derivatives_bare p k e ds)

pub told_holds : (th : Theory) → IsWellFormed th → (G : List Place) (H gs F : List Goal) → AreSortedGoals th H → AreSortedGoals th gs → AreBareGoals gs
    → (ss : List (ProofStep Tree)) → AllByRecursion (AllOfStep (IsWellSorted th.signature)) ss → AllByRecursion IsBareStep ss
    → StepsOf th G ss (state H gs) (state F []) → IsTold th G H gs F (told th G H gs ss)
told_holds th ok G H gs F sh sg bg [] f bs r =
    record { goals_are = sym (state_goals H gs F [] r); goals_hold = tt; derived_hold = tt; whole = append-nil H ∙ state_hypotheses H gs F [] r }
told_holds th ok G H [] F sh sg bg (s ∷ ss) f bs r =
    record { goals_are = refl; goals_hold = tt; derived_hold = tt; whole = append-nil H ∙ none_left th G H F (s ∷ ss) r }
told_holds th ok G H (p ∷ ps) F sh sg bg (Done ∷ ss) f bs r = absurd r.1
told_holds th ok G H (p ∷ ps) F sh sg bg (Cases u ∷ ss) f bs r = absurd bs.0
told_holds th ok G H (p ∷ ps) F sh sg bg (Simplify chain ∷ ss) f bs r =
    let Z : List Pair → Type 0 =
    λ E. (q : Pair) × ChainLeads (Leads (setting th G H E)) chain (sides p) q × (r.0 ≡ state H (goal E q.left q.right ∷ ps)) in
    let step : Z [] = subst Z bg.0 r.1 in
    let q : Goal = goal [] step.0.left step.0.right in
    let S : State → Type 0 = λ a. StepsOf th G ss a (state F []) in
    let IS : State → Type 0 = IsSortedState th in
    let so : IsSortedState th (state H (q ∷ ps)) = subst IS step.2 (step_sorted th ok G (Simplify chain) f.0 (state H (p ∷ ps)) r.0 (sh, sg) r.1) in
    let ih : IsTold th G H (q ∷ ps) F (told th G H (q ∷ ps) ss) = told_holds th ok G H (q ∷ ps) F sh so.1 (refl, bg.1) ss f.1 bs.1 (subst S step.2 r.2) in
    let c = setting th G H [] in
    let same : led_goal c chain p ≡ q =
    ap (λ E. goal E (led_all c chain.left p.left) (led_all c chain.right p.right)) bg.0
    ∙ ap (λ y. goal [] y (led_all c chain.right p.right)) (links_led c chain.left p.left q.left step.1.left)
    ∙ ap (goal [] q.left) (links_led c chain.right p.right q.right step.1.right) in
    let T : Goal → Type 0 = λ y. IsTold th G H (p ∷ ps) F (and_simplified p chain (told th G H (y ∷ ps) ss)) in
    subst T (sym same)
    (simplified_told th G H ps F p q chain (told th G H (q ∷ ps) ss) step.1 (record {
      sorted = (sorted_first th p ps sg).sorted;
      no_conds = bg.0;
    }) f.0 bs.0 ih)
told_holds th ok G H (p ∷ ps) F sh sg bg (Reduce why ∷ ss) f bs r =
    let step = r.1 in
    let S : State → Type 0 = λ a. StepsOf th G ss a (state F []) in
    let IS : State → Type 0 = IsSortedState th in
    let so : IsSortedState th (state H ps) = subst IS step.1 (step_sorted th ok G (Reduce why) f.0 (state H (p ∷ ps)) r.0 (sh, sg) step) in
    let t : Told = told th G H ps ss in
    let ih : IsTold th G H ps F t = told_holds th ok G H ps F sh so.1 bg.1 ss f.1 bs.1 (subst S step.1 r.2) in
    let E : List Pair → Type 0 = λ A. Justified (setting th G H A) (sides p) why in
    let J : List Goal → Type 0 = λ K. Justified (setting th G K []) (sides p) why in
    let why_holds : J F = subst J ih.whole (why_wider (setting th G H []) (map goal_in (list_in t.derived)) (sides p) why bs.0 (subst E bg.0 step.0)) in
    record {
      goals_are = ap (λ qs. p ∷ qs) ih.goals_are;
      goals_hold = ((record { sorted = (sorted_first th p ps sg).sorted; no_conds = bg.0 }, (f.0, bs.0), why_holds), ih.goals_hold);
      derived_hold = ih.derived_hold;
      whole = ih.whole;
    }
told_holds th ok G H (p ∷ ps) F sh sg bg (Derive ∷ ss) f bs r =
    let step = r.1 in
    let K : List Goal = H ++ p ∷ [] in
    let qs : List Goal = ps ++ derivatives_on th p in
    let S : State → Type 0 = λ a. StepsOf th G ss a (state F []) in
    let IS : State → Type 0 = IsSortedState th in
    let so : IsSortedState th (state K qs) = subst IS step.2 (step_sorted th ok G Derive f.0 (state H (p ∷ ps)) r.0 (sh, sg) step) in
    let t : Told = told th G K qs ss in
    let bq : AreBareGoals qs = bare_append ps (derivatives_on th p) bg.1 (derivatives_bare p (fresh_in p) bg.0 (derivatives_of th (sort_of p.left))) in
    let ih : IsTold th G K qs F t = told_holds th ok G K qs F so.0 so.1 bq ss f.1 bs.1 (subst S step.2 r.2) in
    let x = parts (setting th G F []) t.goals ps (derivatives_on th p) ih.goals_hold ih.goals_are in
    let bare : IsBare (setting th G F []) p = record { sorted = (sorted_first th p ps sg).sorted; no_conds = bg.0 } in
    let here : IsHistory (setting th G F []) (Derived p (histories_after (length ps) t.goals)) = (bare, step.0, x.other_goals, x.others_are) in
    record {
      goals_are = ap (λ ys. p ∷ ys) x.first_goals;
      goals_hold = (here, x.first_are);
      derived_hold = (here, ih.derived_hold);
      whole = sym (append_assoc H (p ∷ []) (map goal_in (list_in t.derived))) ∙ ih.whole;
    }
