-- What a link leads to: one term, which is well-sorted, of the same sort, and derivable from the assumptions where no hypothesis occurs in the link.
use Rattle.std.proofs.Common.{◌≡◌, ◌<◌, ℕ, List, [], ◌∷◌, map, length, refl, ap, sym, subst, ◌∙◌}
use Rattle.std.specs.List.{AllByRecursion, Contains}
use Rattle.std.proofs.lemmas.Option.{same_Some}
use Rattle.circ_term.specs.Tree.{Tree, sort_of, replaced}
use Rattle.circ_term.specs.Substitution.{Substitution, instance}
use Rattle.circ_theory.specs.Signature.{Signature, IsWellSorted, IsSubstitution}
use Rattle.circ_theory.specs.Theory.{Theory, Pair, sides, goal_of, pair_with, IsWellSortedPair, AreWellSortedPairs, AreConditions, IsWellSortedGoal}
use Rattle.circ_theory.specs.Variables.{variables_of, sorted}
use Rattle.circ_theory.specs.Derivable.{Derivable, by_same, by_symmetry, by_chain, by_premise}
use Rattle.circ_theory.specs.WellFormed.{IsWellFormed}
use Rattle.circ_theory.specs.Rewriting.{from_side, to_side, Replaces, named, by_terms, RewritesBy}
use Rattle.circ_theory.specs.Goal.{Goal}
use Rattle.circ_theory.specs.declared.way.Way.{Way}
use Rattle.circ_theory.specs.declared.way.Way.TheVariants.{Forth, Back}
use Rattle.circ_theory.proofs.Instances.{instance_well_sorted}
use Rattle.circ_theory.proofs.Sorting.{KeepsSort, replaced_sorted, at_sorted, sorted_to, sort_to, sort_instances}
use Rattle.circ_theory.proofs.Congruence.{KeepsDerivable, replaced_keeps}
use Rattle.circ_theory.proofs.Weakening.{in_rest}
use Rattle.circ_theory.proofs.Casing.{contains_first}
use Rattle.circ_theory.proofs.Rewriting.{ConditionsHold, contains_at, named_well_sorted, given_substitution, rewrite_keeps}
use Rattle.circ_special.specs.declared.place.Place.{Place}
use Rattle.circ_aci.proofs.Deriving.{same_content_derivable}
use Rattle.circ_proof.specs.Plain.{LinkOf, LinksOf, ChainsOf, Equation_link, Hypothesis_link, Assumption_link, Content_link, no_link, more_links, no_chain, more_chains}
use Rattle.circ_proof.specs.Plain.{ChainOf, WhyOf, WhysOf, Same_why, Split_why, no_why, more_whys, map_link, map_row, map_chains, map_whys}
use Rattle.circ_proof.specs.Goals.{AreSortedGoals}
use Rattle.circ_proof.specs.Runs.{Runs}
use Rattle.circ_proof.specs.Link.{Setting, setting, Leads, RowLeads, ConditionsLead, AllOfLink, AllOfRow, AllOfChains, AllOfLinks, IsInTable}
use Rattle.circ_proof.specs.Link.{resolved_link, resolved_chain, resolved_why, UsesNoHypothesis, RowUsesNoHypothesis, ChainsUseNoHypothesis, LinkDerives}
use Rattle.circ_proof.specs.Justified.{ChainLeads, AllOfChain, AllOfWhy, AllOfWhys, IsWhyInTable}
use Rattle.circ_proof.proofs.Members.{nothing, pick}

-- ---- one term

one_made : (t x y u v : Tree) (path : List ℕ) (a b : Tree) → x ≡ y → Replaces t path a x u → Replaces t path b y v → u ≡ v
one_made t x y u v path a b e r s = same_Some u v (sym r.made ∙ ap (replaced t path) e ∙ s.made)

one_rewriting : (p q : Goal) (way : Way) (path : List ℕ) (terms : List Tree) (t u v : Tree) → p ≡ q
    → RewritesBy p way path terms t u → RewritesBy q way path terms t v → u ≡ v
one_rewriting p q way path terms t u v e r s = one_made t (to p) (to q) u v path (from p) (from q) (ap to e) r.replaces s.replaces
  where
    from : Goal → Tree
    from x = instance (by_terms x terms) (from_side way (sides x))

    to : Goal → Tree
    to x = instance (by_terms x terms) (to_side way (sides x))

-- a link leads to one term
pub one_link : (c : Setting) (l : LinkOf Tree) (t u v : Tree) → Leads c l t u → Leads c l t v → u ≡ v
one_link c (Equation_link number way path terms conds) t u v r s =
    one_rewriting (goal_of r.0.equation) (goal_of s.0.equation) way path terms t u v
    (ap goal_of (same_Some r.0.equation s.0.equation (sym r.0.listed ∙ s.0.listed))) r.0.rewrites s.0.rewrites
one_link c (Hypothesis_link number way path terms conds) t u v r s =
    one_rewriting r.0.hypothesis s.0.hypothesis way path terms t u v (same_Some r.0.hypothesis s.0.hypothesis (sym r.0.listed ∙ s.0.listed))
    r.0.rewrites s.0.rewrites
one_link c (Assumption_link number way path) t u v r s =
    one_made t (to_side way r.assumed) (to_side way s.assumed) u v path (from_side way r.assumed) (from_side way s.assumed)
    (ap (to_side way) (same_Some r.assumed s.assumed (sym r.listed ∙ s.listed))) r.replaces s.replaces
one_link c (Content_link op path term) t u v r s = one_made t term term u v path r.old s.old refl r.replaces s.replaces

pub one_row : (c : Setting) (ls : LinksOf Tree) (t u v : Tree) → RowLeads c ls t u → RowLeads c ls t v → u ≡ v
one_row c no_link t u v r s = sym r ∙ s
one_row c (more_links l ls) t u v r s =
    let P : Tree → Type 0 = λ m. RowLeads c ls m u in
    one_row c ls s.0 u v (subst P (one_link c l t r.0 s.0 r.1 s.1) r.2) s.2

-- steps each of which leads to one state lead to one state
pub one_run : {X S : Type 0} (L : X → S → S → Type 0) → ((x : X) (a b c : S) → L x a b → L x a c → b ≡ c)
    → (xs : List X) (a b c : S) → Runs L xs a b → Runs L xs a c → b ≡ c
one_run L one [] a b c r s = sym r ∙ s
one_run {S = S} L one (x ∷ xs) a b c r s =
    let P : S → Type 0 = λ m. Runs L xs m b in
    one_run L one xs s.0 b c (subst P (one x a r.0 s.0 r.1 s.1) r.2) s.2

pub one_end : (c : Setting) (ls : List (LinkOf Tree)) (t u v : Tree) → Runs (Leads c) ls t u → Runs (Leads c) ls t v → u ≡ v
one_end c ls t u v = one_run (Leads c) (one_link c) ls t u v

pub one_chain : (c : Setting) (chain : ChainOf Tree) (p q r : Pair) → ChainLeads (Leads c) chain p q → ChainLeads (Leads c) chain p r → q ≡ r
one_chain c chain p q r x y =
    ap (λ t. pair_with t q.right) (one_end c chain.left p.left q.left r.left x.left y.left)
    ∙ ap (pair_with r.left) (one_end c chain.right p.right q.right r.right x.right y.right)

-- ---- sorts

-- What a setting has to be for links to keep sorts.
pub record IsSortedSetting (c : Setting) : Type 0 where
  pub well_formed : IsWellFormed c.theory
  pub hypotheses : AreSortedGoals c.theory c.hypotheses
  pub assumptions : AreWellSortedPairs c.theory.signature c.assumptions

exchanged : (th : Theory) (path : List ℕ) (t a b u : Tree) → IsWellSorted th.signature t → IsWellSorted th.signature b → sort_of b ≡ sort_of a
    → Replaces t path a b u → KeepsSort th t u
exchanged th path t a b u wt wb e r = replaced_sorted th path t a b u wt r.there (record { well_sorted = wb; same_sort = e }) r.made

-- the terms make a substitution
pub terms_substitution : (sig : Signature) (g : Goal) (way : Way) (path : List ℕ) (terms : List Tree) (t u : Tree) → AllByRecursion (IsWellSorted sig) terms
    → RewritesBy g way path terms t u → IsSubstitution sig (by_terms g terms)
terms_substitution sig g way path terms t u a r = given_substitution sig (sorted (variables_of g)) terms r.fit a

rewriting_sorted : (th : Theory) (g : Goal) → IsWellSortedGoal th g → (way : Way) (path : List ℕ) (terms : List Tree)
    → AllByRecursion (IsWellSorted th.signature) terms → (t u : Tree) → IsWellSorted th.signature t → RewritesBy g way path terms t u → KeepsSort th t u
rewriting_sorted th g w way path terms a t u wt r =
    let sig = th.signature in
    let p = sides g in
    let σ = by_terms g terms in
    let s = terms_substitution sig g way path terms t u a r in
    exchanged th path t (instance σ (from_side way p)) (instance σ (to_side way p)) u wt
    (instance_well_sorted sig σ (to_side way p) s (sorted_to sig way p w.sorted)) (sort_instances sig way p σ w.sorted s) r.replaces

-- a link leads to a well-sorted term of the same sort
pub link_sorted : (c : Setting) → IsSortedSetting c → (l : LinkOf Tree) → AllOfLink (IsWellSorted c.theory.signature) l → (t u : Tree)
    → IsWellSorted c.theory.signature t → Leads c l t u → KeepsSort c.theory t u
link_sorted c g (Equation_link number way path terms conds) a t u wt r =
    let e = r.0.equation in
    rewriting_sorted c.theory (goal_of e) (g.well_formed.equations e (contains_at c.theory.equations number e r.0.listed)) way path terms a.0 t u wt r.0.rewrites
link_sorted c g (Hypothesis_link number way path terms conds) a t u wt r =
    let h = r.0.hypothesis in
    rewriting_sorted c.theory h (g.hypotheses h (contains_at c.hypotheses number h r.0.listed)) way path terms a.0 t u wt r.0.rewrites
link_sorted c g (Assumption_link number way path) a t u wt r =
    let sig = c.theory.signature in
    let p = r.assumed in
    let w = g.assumptions p (contains_at c.assumptions number p r.listed) in
    exchanged c.theory path t (from_side way p) (to_side way p) u wt (sorted_to sig way p w) (sort_to sig way p w) r.replaces
link_sorted c g (Content_link op path term) a t u wt r = exchanged c.theory path t r.old term u wt a r.content.same_sort r.replaces

pub links_sorted : (c : Setting) → IsSortedSetting c → (ls : List (LinkOf Tree)) → AllOfLinks (IsWellSorted c.theory.signature) ls → (t u : Tree)
    → IsWellSorted c.theory.signature t → Runs (Leads c) ls t u → KeepsSort c.theory t u
links_sorted c g [] a t u wt e = let P : Tree → Type 0 = KeepsSort c.theory t in subst P e (record { well_sorted = wt; same_sort = refl })
links_sorted c g (l ∷ ls) a t u wt r =
    let x = link_sorted c g l a.0 t r.0 wt r.1 in
    let y = links_sorted c g ls a.1 r.0 u x.well_sorted r.2 in
    record { well_sorted = y.well_sorted; same_sort = y.same_sort ∙ x.same_sort }

pub chain_sorted : (c : Setting) → IsSortedSetting c → (chain : ChainOf Tree) → AllOfChain (IsWellSorted c.theory.signature) chain → (p q : Pair)
    → IsWellSortedPair c.theory.signature p → ChainLeads (Leads c) chain p q → IsWellSortedPair c.theory.signature q
chain_sorted c g chain a p q w r =
    let x = links_sorted c g chain.left a.0 p.left q.left w.left r.left in
    let y = links_sorted c g chain.right a.1 p.right q.right w.right r.right in
    record { left = x.well_sorted; right = y.well_sorted; same_sort = y.same_sort ∙ w.same_sort ∙ sym x.same_sort }

-- ---- derivations

assumed : (th : Theory) (A : List Pair) (way : Way) (p : Pair) → Contains A p → IsWellSortedPair th.signature p
    → Derivable th A (from_side way p) (to_side way p)
assumed th A Forth p k w = by_premise p k w
assumed th A Back p k w = by_symmetry (by_premise p k w)

-- What a link leads to is derivable from the assumptions, where no hypothesis occurs in it.
mutual
  pub link_follows : (c : Setting) → IsSortedSetting c → (l : LinkOf Tree) → AllOfLink (IsWellSorted c.theory.signature) l → UsesNoHypothesis l
      → (t u : Tree) → IsWellSorted c.theory.signature t → Leads c l t u → KeepsDerivable c.theory c.assumptions t u
  link_follows c g (Equation_link number way path terms conds) a none t u wt r =
      let e = r.0.equation in
      let there = contains_at c.theory.equations number e r.0.listed in
      let s = terms_substitution c.theory.signature (goal_of e) way path terms t u a.0 r.0.rewrites in
      let σ = by_terms (goal_of e) terms in
      rewrite_keeps c.theory g.well_formed c.assumptions e way σ path t u there s
      (conditions_follow c g σ s e.conds (g.well_formed.equations e there).conds conds a.1 none r.1) wt r.0.rewrites.replaces
  link_follows c g (Hypothesis_link number way path terms conds) a none t u wt r = absurd none
  link_follows c g (Assumption_link number way path) a none t u wt r =
      let sig = c.theory.signature in
      let p = r.assumed in
      let there = contains_at c.assumptions number p r.listed in
      let w = g.assumptions p there in
      replaced_keeps c.theory c.assumptions path t (from_side way p) (to_side way p) u wt r.replaces.there (sorted_to sig way p w) (sort_to sig way p w)
      (assumed c.theory c.assumptions way p there w) r.replaces.made
  link_follows c g (Content_link op path term) a none t u wt r =
      let h = r.content in
      let old = at_sorted c.theory path t r.old wt r.replaces.there in
      let same = same_content_derivable c.theory g.well_formed c.assumptions op h.operator h.there r.old term old a h.same_content in
      replaced_keeps c.theory c.assumptions path t r.old term u wt r.replaces.there a h.same_sort same r.replaces.made

  row_follows : (c : Setting) → IsSortedSetting c → (ls : LinksOf Tree) → AllOfRow (IsWellSorted c.theory.signature) ls → RowUsesNoHypothesis ls
      → (t u : Tree) → IsWellSorted c.theory.signature t → RowLeads c ls t u → KeepsDerivable c.theory c.assumptions t u
  row_follows c g no_link a none t u wt e =
      let P : Tree → Type 0 = KeepsDerivable c.theory c.assumptions t in
      subst P e (record { derivable = by_same t wt; well_sorted = wt; same_sort = refl })
  row_follows c g (more_links l ls) a none t u wt r =
      let x = link_follows c g l a.0 none.0 t r.0 wt r.1 in
      let y = row_follows c g ls a.1 none.1 r.0 u x.well_sorted r.2 in
      record { derivable = by_chain r.0 x.derivable y.derivable; well_sorted = y.well_sorted; same_sort = y.same_sort ∙ x.same_sort }

  conditions_follow : (c : Setting) → IsSortedSetting c → (σ : Substitution) → IsSubstitution c.theory.signature σ → (E : List Pair)
      → AreConditions c.theory E → (cs : ChainsOf Tree) → AllOfChains (IsWellSorted c.theory.signature) cs → ChainsUseNoHypothesis cs
      → ConditionsLead c σ E cs → ConditionsHold c.theory c.assumptions σ E
  conditions_follow c g σ s [] w cs a none r p k = nothing p k
  conditions_follow c g σ s (q ∷ E) w no_chain a none r p k = absurd r
  conditions_follow c g σ s (q ∷ E) w (more_chains ls rs cs) a none r p k =
      let sig = c.theory.signature in
      let z = (w q (contains_first q E)).sorted in
      let x = row_follows c g ls a.0 none.0 (instance σ q.left) r.2.0 (instance_well_sorted sig σ q.left s z.left) r.2.1 in
      let y = row_follows c g rs a.1 none.1 (instance σ q.right) r.2.0 (instance_well_sorted sig σ q.right s z.right) r.2.2 in
      let P : Pair → Type 0 = λ p. Derivable c.theory c.assumptions (instance σ p.left) (instance σ p.right) in
      pick P q p E (by_chain r.2.0 x.derivable (by_symmetry y.derivable))
      (λ d. conditions_follow c g σ s E (λ p e. w p (in_rest q p E e)) cs a.2 none.2 r.3 p d) k

pub link_derives : (c : Setting) → IsSortedSetting c → (l : LinkOf Tree) → AllOfLink (IsWellSorted c.theory.signature) l → (t u : Tree)
    → IsWellSorted c.theory.signature t → Leads c l t u → LinkDerives c.theory c.assumptions l t u
link_derives c g l a t u wt r none = (link_follows c g l a none t u wt r).derivable

-- ---- links with numbers of a table

terms_resolved : (sig : Signature) (table : List Tree) (ns : List ℕ) → AllByRecursion (IsWellSorted sig) table
    → AllByRecursion (λ n. n < length table) ns → AllByRecursion (IsWellSorted sig) (map (named table) ns)
terms_resolved sig table [] a h = tt
terms_resolved sig table (n ∷ ns) a h = (named_well_sorted sig table n a h.0, terms_resolved sig table ns a h.1)

-- the terms of a link in a table are those of the table
mutual
  pub link_resolved : (sig : Signature) (table : List Tree) → AllByRecursion (IsWellSorted sig) table → (l : LinkOf ℕ) → IsInTable (length table) l
      → AllOfLink (IsWellSorted sig) (resolved_link table l)
  link_resolved sig table a (Equation_link number way path terms conds) h = (terms_resolved sig table terms a h.0, chains_resolved sig table a conds h.1)
  link_resolved sig table a (Hypothesis_link number way path terms conds) h = (terms_resolved sig table terms a h.0, chains_resolved sig table a conds h.1)
  link_resolved sig table a (Assumption_link number way path) h = tt
  link_resolved sig table a (Content_link op path term) h = named_well_sorted sig table term a h

  row_resolved : (sig : Signature) (table : List Tree) → AllByRecursion (IsWellSorted sig) table → (ls : LinksOf ℕ)
      → AllOfRow (λ n. n < length table) ls → AllOfRow (IsWellSorted sig) (map_row (named table) ls)
  row_resolved sig table a no_link h = tt
  row_resolved sig table a (more_links l ls) h = (link_resolved sig table a l h.0, row_resolved sig table a ls h.1)

  chains_resolved : (sig : Signature) (table : List Tree) → AllByRecursion (IsWellSorted sig) table → (cs : ChainsOf ℕ)
      → AllOfChains (λ n. n < length table) cs → AllOfChains (IsWellSorted sig) (map_chains (named table) cs)
  chains_resolved sig table a no_chain h = tt
  chains_resolved sig table a (more_chains l r cs) h =
      (row_resolved sig table a l h.0, row_resolved sig table a r h.1, chains_resolved sig table a cs h.2)

pub links_resolved : (sig : Signature) (table : List Tree) → AllByRecursion (IsWellSorted sig) table → (ls : List (LinkOf ℕ))
    → AllOfLinks (λ n. n < length table) ls → AllOfLinks (IsWellSorted sig) (map (resolved_link table) ls)
links_resolved sig table a [] h = tt
links_resolved sig table a (l ∷ ls) h = (link_resolved sig table a l h.0, links_resolved sig table a ls h.1)

pub chain_resolved : (sig : Signature) (table : List Tree) → AllByRecursion (IsWellSorted sig) table → (chain : ChainOf ℕ)
    → AllOfChain (λ n. n < length table) chain → AllOfChain (IsWellSorted sig) (resolved_chain table chain)
chain_resolved sig table a chain h = (links_resolved sig table a chain.left h.0, links_resolved sig table a chain.right h.1)

mutual
  pub why_resolved : (sig : Signature) (table : List Tree) → AllByRecursion (IsWellSorted sig) table → (w : WhyOf ℕ)
      → IsWhyInTable (length table) w → AllOfWhy (IsWellSorted sig) (resolved_why table w)
  why_resolved sig table a (Same_why chain) h = chain_resolved sig table a chain h
  why_resolved sig table a (Split_why chain term whys) h =
      (chain_resolved sig table a chain h.0, named_well_sorted sig table term a h.1, whys_resolved sig table a whys h.2)

  pub whys_resolved : (sig : Signature) (table : List Tree) → AllByRecursion (IsWellSorted sig) table → (ws : WhysOf ℕ)
      → AllOfWhys (λ n. n < length table) ws → AllOfWhys (IsWellSorted sig) (map_whys (named table) ws)
  whys_resolved sig table a no_why h = tt
  whys_resolved sig table a (more_whys w ws) h = (why_resolved sig table a w h.0, whys_resolved sig table a ws h.1)

mutual
  none_resolved : (f : ℕ → Tree) (l : LinkOf ℕ) → UsesNoHypothesis l → UsesNoHypothesis (map_link f l)
  none_resolved f (Equation_link number way path terms conds) h = none_in_chains f conds h
  none_resolved f (Hypothesis_link number way path terms conds) h = h
  none_resolved f (Assumption_link number way path) h = h
  none_resolved f (Content_link op path term) h = h

  none_in_row : (f : ℕ → Tree) (ls : LinksOf ℕ) → RowUsesNoHypothesis ls → RowUsesNoHypothesis (map_row f ls)
  none_in_row f no_link h = h
  none_in_row f (more_links l ls) h = (none_resolved f l h.0, none_in_row f ls h.1)

  none_in_chains : (f : ℕ → Tree) (cs : ChainsOf ℕ) → ChainsUseNoHypothesis cs → ChainsUseNoHypothesis (map_chains f cs)
  none_in_chains f no_chain h = h
  none_in_chains f (more_chains l r cs) h = (none_in_row f l h.0, none_in_row f r h.1, none_in_chains f cs h.2)

pub derives_resolved : (th : Theory) (A : List Pair) (table : List Tree) (l : LinkOf ℕ) (t u : Tree)
    → LinkDerives th A (resolved_link table l) t u → LinkDerives th A l t u
derives_resolved th A table l t u d none = d (none_resolved (named table) l none)

-- ---- settings

pub sorted_setting : (th : Theory) → IsWellFormed th → (G : List Place) (H : List Goal) (A : List Pair) → AreSortedGoals th H
    → AreWellSortedPairs th.signature A → IsSortedSetting (setting th G H A)
sorted_setting th ok G H A h a = record { well_formed = ok; hypotheses = h; assumptions = a }

-- the conditions of a goal are well-sorted pairs
pub conditions_sorted : (th : Theory) (E : List Pair) → AreConditions th E → AreWellSortedPairs th.signature E
conditions_sorted th E w p k = (w p k).sorted
