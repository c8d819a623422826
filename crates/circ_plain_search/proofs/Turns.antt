-- A turn keeps what is known of the search, and the search ends with every goal done only where each block is whole.
use Rattle.std.proofs.Common.{◌≡◌, ℕ, zero, suc, ◌+◌, ◌*◌, ◌≤◌, Bool, true, false, if◌then◌else◌, List, [], ◌∷◌, ◌++◌, map, Option, Some, None, Result, Ok, Err, refl, ap, sym, subst, ◌∙◌, arith}
use Rattle.std.specs.Prelude.{nat_le, not}
use Rattle.std.specs.List.{slice_get, AllByRecursion}
use Rattle.std.proofs.lemmas.List.{length-map}
use Rattle.std.proofs.lemmas.Option.{same_Some}
use Rattle.circ_term.specs.Tree.{Tree, sort_of}
use Rattle.circ_term.specs.Limits.{Limit}
use Rattle.circ_theory.specs.Theory.{Theory, Pair, IsHidden, HasNoConditions, goal, sides, IsWellSortedGoal}
use Rattle.circ_theory.specs.WellFormed.{IsWellFormed}
use Rattle.circ_theory.specs.Observing.{is_hidden, case_list}
use Rattle.circ_theory.specs.Goal.{Goal}
use Rattle.circ_theory.proofs.Casing.{hidden_tells}
use Rattle.circ_theory.proofs.Lists.{all_at, all_by, slice_get-front}
use Rattle.circ_theory.proofs.Rewriting.{contains_at}
use Rattle.circ_special.specs.declared.place.Place.{Place}
use Rattle.circ_proof.specs.Plain.{LinkOf, LinksOf, ChainsOf, Equation_link, Hypothesis_link, Assumption_link, Content_link, no_link, more_links, no_chain, more_chains, ChainOf, WhyOf, WhysOf, Same_why, Split_why, no_why, more_whys}
use Rattle.circ_proof.specs.Goals.{AreSortedGoals}
use Rattle.circ_proof.specs.Runs.{Runs}
use Rattle.circ_proof.specs.Link.{Setting, setting, Leads, AllOfLink, AllOfRow, AllOfChains, AllOfLinks, terms_of, row_terms, chains_terms}
use Rattle.circ_proof.specs.Justified.{ChainLeads, Justified, AllOfChain, AllOfWhy, AllOfWhys}
use Rattle.circ_proof.proofs.Cases.{cases_listed}
use Rattle.circ_proof.specs.Rules.{ProofStep, Simplify, Reduce, Derive, Done, StepOf, state, derivatives_on}
use Rattle.circ_proof.specs.Proof.{step_limit, split_limit}
use Rattle.circ_proof.proofs.Sorted.{sorted_append, sorted_more, sorted_none}
use Rattle.circ_rewrite.specs.Links.{IsRuleOf}
use Rattle.circ_rewrite.specs.Due.{AreUnconditional}
use Rattle.circ_plain_search.specs.BlockRules.{HaveNoConditions, block_rules, hidden_lemmas}
use Rattle.circ_plain_search.specs.Joining.{Stop, HypothesisUse, use_link, joined, and_then, put_all, put_counted}
use Rattle.circ_plain_search.specs.Search.{Limits, proved_block, Standing, Ending, Sides, sides_with, chain_with, chained, no_links, normal_sides, split_cases, spent, or_end, record_step, is_nil, has_links, next_goal, with_sides, reduced, goals_limit, unless_past, derive_turn, simplified, hidden_turn, visible_turn, open_turn, pass_uses, swept_sides, pass_turn, join_turn, sides_turn, goal_turn, begun, with_this, next_block, turn_at, turn}
use Rattle.circ_plain_search.specs.Numbering.{links_terms, chain_terms, why_terms, whys_terms}
use Rattle.circ_plain_search.proofs.Terms.{Fine, FineTerms, fine_more}
use Rattle.circ_plain_search.proofs.Led.{all_append, runs_append, links_more}
use Rattle.circ_plain_search.proofs.Rules.{BeginsWith, block_rules_are, block_unconditional, hidden_lemmas_are}
use Rattle.circ_plain_search.proofs.Uses.{Through, through, same_Ok}
use Rattle.circ_plain_search.proofs.Joins.{joined_leads}
use Rattle.circ_plain_search.proofs.Passes.{counted, swept_leads}
use Rattle.circ_plain_search.proofs.Splits.{SidesLed, FitsIn, AllFitIn, normal_sides_led, split_is}
use Rattle.circ_plain_search.proofs.Derived.{FineGoal, FineGoals, goal_more, goal_sorted, goals_sorted, goals_bare, IsFineDerived, derivatives_fine}
use Rattle.circ_plain_search.proofs.Runs.{most, half, bound, Ran, after_step, recorded, recorded_room, ran_more, ran_same, Held, Opened, fresh_queue, Whole, done_whole, goals_of, goals_of_more}

-- ---- terms of links, chains and whys

module _ (th : Theory) (m : ℕ) where
  mutual
    link_fine : (l : LinkOf Tree) → AllOfLink (Fine th m) l → FineTerms th m (terms_of l)
    link_fine (Equation_link n w q ts cs) a = all_append (Fine th m) ts (chains_terms cs) a.0 (chains_fine cs a.1)
    link_fine (Hypothesis_link n w q ts cs) a = all_append (Fine th m) ts (chains_terms cs) a.0 (chains_fine cs a.1)
    link_fine (Assumption_link n w q) a = tt
    link_fine (Content_link f q t) a = (a, tt)

    row_fine : (ls : LinksOf Tree) → AllOfRow (Fine th m) ls → FineTerms th m (row_terms ls)
    row_fine no_link a = tt
    row_fine (more_links l ls) a = all_append (Fine th m) (terms_of l) (row_terms ls) (link_fine l a.0) (row_fine ls a.1)

    chains_fine : (cs : ChainsOf Tree) → AllOfChains (Fine th m) cs → FineTerms th m (chains_terms cs)
    chains_fine no_chain a = tt
    chains_fine (more_chains x y cs) a =
        all_append (Fine th m) (row_terms x) (row_terms y ++ chains_terms cs) (row_fine x a.0)
        (all_append (Fine th m) (row_terms y) (chains_terms cs) (row_fine y a.1) (chains_fine cs a.2))

pub links_fine : (th : Theory) (m : ℕ) (ls : List (LinkOf Tree)) → AllOfLinks (Fine th m) ls → FineTerms th m (links_terms ls)
links_fine th m [] a = tt
links_fine th m (l ∷ ls) a = all_append (Fine th m) (terms_of l) (links_terms ls) (link_fine th m l a.0) (links_fine th m ls a.1)

pub chain_fine : (th : Theory) (m : ℕ) (c : ChainOf Tree) → AllOfChain (Fine th m) c → FineTerms th m (chain_terms c)
chain_fine th m c a = all_append (Fine th m) (links_terms c.left) (links_terms c.right) (links_fine th m c.left a.0) (links_fine th m c.right a.1)

mutual
  pub why_fine : (th : Theory) (m k : ℕ) → m ≤ k → (w : WhyOf Tree) → AllOfWhy (Fine th m) w → FineTerms th k (why_terms w)
  why_fine th m k h (Same_why c) a = chain_fine th k c (links_more th m k c.left h a.0, links_more th m k c.right h a.1)
  why_fine th m k h (Split_why c u ws) a =
      all_append (Fine th k) (chain_terms c) (u ∷ whys_terms ws) (chain_fine th k c (links_more th m k c.left h a.0.0, links_more th m k c.right h a.0.1))
      (fine_more th m k u h a.1, whys_fine th m k h ws a.2)

  pub whys_fine : (th : Theory) (m k : ℕ) → m ≤ k → (ws : WhysOf Tree) → AllOfWhys (Fine th m) ws → FineTerms th k (whys_terms ws)
  whys_fine th m k h no_why a = tt
  whys_fine th m k h (more_whys w ws) a =
      all_append (Fine th k) (why_terms w) (whys_terms ws) (why_fine th m k h w a.0) (whys_fine th m k h ws a.1)

pub if_ended : {A : Type 0} (l : Limits) (st : Standing) (r : Result A Stop) (a : A) → or_end l st r ≡ Ok a → r ≡ Ok a
if_ended l st (Ok x) a e = ap Ok (same_Ok x a e)
if_ended l st (Err s) a e = absurd (cc)

pub if_false : {A : Type 0} (b : Bool) (x : Ending) (r : Result A Ending) (y : A) → (if b then Err x else r) ≡ Ok y → r ≡ Ok y
if_false true x r y e = absurd (cc)
if_false false x r y e = e

pub unless_passed : {A : Type 0} (o : Option Limit) (a b : A) → unless_past o a ≡ Ok b → (o ≡ None) × (a ≡ b)
unless_passed None a b e = (refl, same_Ok a b e)
unless_passed (Some x) a b e = absurd (cc)

module _ (th : Theory) (wf : IsWellFormed th) (none : HasNoConditions th) (G : List Place) (l : Limits) (blocks : List (List Goal)) where
  abbrev Good : Standing → Type 0
  Good st = Opened th G blocks st st.queue

  abbrev around : List Goal → Setting
  around H = setting th G H []

  bound_small : (st : Standing) (Q : List Goal) → Ran th G blocks st Q → bound st ≤ most
  bound_small st Q r = let a = r.few in let b = r.small in omega (arith, a, b)

  pub rules_here : (st : Standing) (Q : List Goal) → Ran th G blocks st Q → AllByRecursion (IsRuleOf th st.hypotheses) (block_rules th st.earlier)
  rules_here st Q r = block_rules_are th wf st.hypotheses st.earlier r.sorted r.begins

  each_bare : (E : List Goal) → ((n : ℕ) (g : Goal) → slice_get E n ≡ Some g → g.conds ≡ []) → HaveNoConditions E
  each_bare [] f = tt
  each_bare (g ∷ gs) f = (f zero g refl, each_bare gs (λ n h e. f (suc n) h e))

  pub bare_here : (st : Standing) (Q : List Goal) → Ran th G blocks st Q → HaveNoConditions st.earlier
  bare_here st Q r = each_bare st.earlier (λ n g e. all_at (λ h. h.conds ≡ []) st.hypotheses n g r.bare (r.begins n g e))

  pub unconditional_here : (st : Standing) (Q : List Goal) → Ran th G blocks st Q → AreUnconditional (block_rules th st.earlier)
  unconditional_here st Q r = block_unconditional th none st.earlier (bare_here st Q r)

  -- ---- the sides of the goal in hand

  pub sides_held : (st : Standing) (o g : Goal) (rest : List Goal) (k : ℕ) (n : Sides) → Held th G blocks st o g rest
      → SidesLed (around st.hypotheses) (bound st) g.left g.right k n → Held th G blocks (with_sides st rest n) o (goal [] n.left n.right) rest
  sides_held st o g rest k n h s =
      let small = bound_small st (o ∷ rest) h.ran in
      record {
        ran = ran_same th G blocks st (o ∷ rest) (goal [] n.left n.right ∷ rest) (chained st.chain n.chain) n.budget h.ran;
        bare = h.bare;
        left = runs_append (Leads (around st.hypotheses)) st.chain.left n.chain.left o.left g.left n.left h.left s.left.leads;
        right = runs_append (Leads (around st.hypotheses)) st.chain.right n.chain.right o.right g.right n.right h.right s.right.leads;
        links = (
          all_append _ st.chain.left n.chain.left h.links.0 (links_more th (bound st) most n.chain.left small s.left.terms),
          all_append _ st.chain.right n.chain.right h.links.1 (links_more th (bound st) most n.chain.right small s.right.terms),
        );
        fine = record { left = s.left.fine; right = s.right.fine; same_sort = s.right.same_sort ∙ h.fine.same_sort ∙ sym s.left.same_sort; bare = refl };
        fine_rest = h.fine_rest;
      }

  -- ---- a Reduce step

  reduces : (H : List Goal) (o : Goal) (rest : List Goal) (why : WhyOf Tree) → o.conds ≡ [] → Justified (around H) (sides o) why
      → StepOf th G (Reduce why) (state H (o ∷ rest)) (state H rest)
  reduces H o rest why bare j =
      let P : List Pair → Type 0 = λ E. Justified (setting th G H E) (sides o) why in
      (subst P (sym bare) j, refl)

  reduced_good : (st : Standing) (o : Goal) (rest : List Goal) (why : WhyOf Tree) (y : Standing) → Ran th G blocks st (o ∷ rest) → o.conds ≡ []
      → FineGoals th (bound st) rest → Justified (around st.hypotheses) (sides o) why → FitsIn 8 why → FineTerms th most (why_terms why)
      → reduced th l st rest why ≡ Ok y → Good y
  reduced_good st o rest why y h bare fr j fits terms e =
      let x : Through (record_step th l st (Reduce why)) (λ z. Ok (next_goal z.hypotheses rest z)) y = through _ _ y e in
      let a : Standing = after_step th st (Reduce why) in
      let it : after_step th st (Reduce why) ≡ x.value = recorded th l st (Reduce why) x.value x.first in
      let room = recorded_room th l st (Reduce why) x.value x.first in
      let Q : Standing → Type 0 = λ z. Good (next_goal z.hypotheses rest z) in
      let few = h.few in
      let taken = h.taken in
      let ran : Ran th G blocks (next_goal a.hypotheses rest a) rest
      = ran_more th none G blocks st (o ∷ rest) (Reduce why) st.hypotheses rest rest no_links (st.taken + 1) st.budget st.derives h
      (reduces st.hypotheses o rest why bare j) fits terms room h.begins h.sorted h.bare (omega (arith, few)) (omega (arith, taken)) in
      subst Good (same_Ok (next_goal x.value.hypotheses rest x.value) y x.last)
      (subst Q it (fresh_queue th G blocks (next_goal a.hypotheses rest a) rest refl ran fr))

  -- ---- Derive

  begins_more : (H E : List Goal) (g : Goal) → BeginsWith H E → BeginsWith (H ++ g ∷ []) E
  begins_more H E g b n h e = slice_get-front H (g ∷ []) n h (b n h e)

  derived_good : (st : Standing) (g : Goal) (rest : List Goal) (y : Standing) → Ran th G blocks st (g ∷ rest) → FineGoal th (bound st) g
      → FineGoals th (bound st) rest → IsHidden th (sort_of g.left) → derive_turn th l st g rest ≡ Ok y → Good y
  derived_good st g rest y h fg fr hidden e =
      let gs : List Goal = derivatives_on th g in
      let F : List Goal → Result Standing Ending
      = λ k. and_then (record_step th l st Derive) (λ x. Ok (next_goal (x.hypotheses ++ g ∷ []) (rest ++ k) (record x { derives = x.derives + 1 }))) in
      let u : Through (or_end l st (unless_past (goals_limit gs) gs)) F y
      = through _ _ y (if_false (nat_le step_limit st.made) (spent l st) _ y e) in
      let within = unless_passed (goals_limit gs) gs u.value (if_ended l st _ u.value u.first) in
      let x : Through (record_step th l st Derive) (λ z. Ok (next_goal (z.hypotheses ++ g ∷ []) (rest ++ u.value) (record z { derives = z.derives + 1 }))) y
      = through _ _ y u.last in
      let a : Standing = after_step th st Derive in
      let it : after_step th st Derive ≡ x.value = recorded th l st Derive x.value x.first in
      let room = recorded_room th l st Derive x.value x.first in
      let few = h.few in
      let taken = h.taken in
      let d : IsFineDerived th (bound st) g = derivatives_fine th wf (bound st) (omega (arith, few, room)) g fg within.0 in
      let b : Standing = next_goal (a.hypotheses ++ g ∷ []) (rest ++ gs) (record a { derives = a.derives + 1 }) in
      let L : List Goal = st.hypotheses ++ g ∷ [] in
      let sorted : AreSortedGoals th L
      = sorted_append th st.hypotheses (g ∷ []) h.sorted (sorted_more th g [] (goal_sorted th (bound st) g fg) (sorted_none th)) in
      let ran : Ran th G blocks b (rest ++ gs)
      = ran_more th none G blocks st (g ∷ rest) Derive L (rest ++ gs) (rest ++ gs) no_links (st.taken + 1) st.budget (st.derives + 1) h
      (hidden, d.derivable, refl) tt tt room (begins_more st.hypotheses st.earlier g h.begins) sorted
      (all_append (λ q. q.conds ≡ []) st.hypotheses (g ∷ []) h.bare (fg.bare, tt)) (omega (arith, few)) (omega (arith, taken)) in
      let up : bound st + 8 ≡ bound b = omega arith in
      let N : ℕ → Type 0 = λ m. FineGoals th m gs in
      let queue : FineGoals th (bound b) (rest ++ gs)
      = all_append (FineGoal th (bound b)) rest gs
      (all_by (FineGoal th (bound st)) (FineGoal th (bound b)) rest (λ q f. goal_more th (bound st) (bound b) q (omega arith) f) fr)
      (subst N up d.goals) in
      let Q : Standing → Type 0 = λ z. Good (next_goal (z.hypotheses ++ g ∷ []) (rest ++ u.value) (record z { derives = z.derives + 1 })) in
      let K : List Goal → Type 0 = λ k. Good (next_goal (a.hypotheses ++ g ∷ []) (rest ++ k) (record a { derives = a.derives + 1 })) in
      subst Good (same_Ok (next_goal (x.value.hypotheses ++ g ∷ []) (rest ++ u.value) (record x.value { derives = x.value.derives + 1 })) y x.last)
      (subst Q it (subst K within.1 (fresh_queue th G blocks b (rest ++ gs) refl ran queue)))

  -- ---- a Simplify step, where the chain has a link

  no_links_same : (H : List Goal) (c : ChainOf Tree) (o g : Goal) → o.conds ≡ [] → g.conds ≡ [] → has_links c ≡ false → Runs (Leads (around H)) c.left o.left g.left
      → Runs (Leads (around H)) c.right o.right g.right → o ≡ g
  no_links_same H c o g bo bg e a b = go c.left c.right e a b
    where
      both : o.left ≡ g.left → o.right ≡ g.right → o ≡ g
      both x y = ap (λ E. goal E o.left o.right) (bo ∙ sym bg) ∙ ap (λ z. goal g.conds z o.right) x ∙ ap (goal g.conds g.left) y

      go : (ls rs : List (LinkOf Tree)) → not (is_nil (ls ++ rs)) ≡ false → Runs (Leads (around H)) ls o.left g.left
          → Runs (Leads (around H)) rs o.right g.right → o ≡ g
      go [] [] z x y = both x y
      go [] (r ∷ rs) z x y = absurd (cc)
      go (k ∷ ls) rs z x y = absurd (cc)

  -- the run leaves the goal as it stands, and little else has changed
  record Simplified (st y : Standing) (g : Goal) (rest : List Goal) : Type 0 where
    ran : Ran th G blocks y (g ∷ rest)
    derives : y.derives ≡ st.derives

  simplifies : (H : List Goal) (c : ChainOf Tree) (o g : Goal) (rest : List Goal) → o.conds ≡ [] → g.conds ≡ []
      → ChainLeads (Leads (around H)) c (sides o) (sides g) → StepOf th G (Simplify c) (state H (o ∷ rest)) (state H (g ∷ rest))
  simplifies H c o g rest bo bg r =
      let P : List Pair → Type 0 = λ E. (q : Pair) × ChainLeads (Leads (setting th G H E)) c (sides o) q × (state H (g ∷ rest) ≡ state H (goal E q.left q.right ∷ rest)) in
      subst P (sym bo) (sides g, r, ap (λ E. state H (goal E g.left g.right ∷ rest)) bg)

  simplified_ran : (st : Standing) (o g : Goal) (rest : List Goal) (y : Standing) → Held th G blocks st o g rest → simplified th l st ≡ Ok y
      → Simplified st y g rest
  simplified_ran st o g rest y h e = go (has_links st.chain) refl e
    where
      x : ProofStep Tree
      x = Simplify st.chain

      go : (b : Bool) → has_links st.chain ≡ b → (if b then record_step th l st x else Ok st) ≡ Ok y → Simplified st y g rest
      go true k z =
          let room = recorded_room th l st x y z in
          let few = h.ran.few in
          let taken = h.ran.taken in
          let P : Standing → Type 0 = λ s. Simplified st s g rest in
          subst P (recorded th l st x y z) (record {
            ran = ran_more th none G blocks st (o ∷ rest) x st.hypotheses (g ∷ rest) st.queue st.chain st.taken st.budget st.derives h.ran
                (simplifies st.hypotheses st.chain o g rest h.bare h.fine.bare (record { left = h.left; right = h.right })) tt
                (chain_fine th most st.chain h.links) room h.ran.begins h.ran.sorted h.ran.bare (omega (arith, few)) (omega (arith, taken));
            derives = refl;
          })
      go false k z =
          let P : Standing → Type 0 = λ s. Simplified st s g rest in
          let Q : Goal → Type 0 = λ q. Ran th G blocks st (q ∷ rest) in
          subst P (same_Ok st y z) (record { ran = subst Q (no_links_same st.hypotheses st.chain o g h.bare h.fine.bare k h.left h.right) h.ran; derives = refl })

  -- ---- a hidden goal, a visible one

  hidden_good : (st : Standing) (o g : Goal) (rest : List Goal) (y : Standing) → Held th G blocks st o g rest → is_hidden th (sort_of g.left) ≡ true
      → hidden_turn th l st g rest ≡ Ok y → Good y
  hidden_good st o g rest y h hidden e =
      let x : Through (simplified th l st) (λ z. derive_turn th l z g rest) y
      = through _ _ y (if_false (nat_le l.derives st.derives) (spent l st) _ y e) in
      let s = simplified_ran st o g rest x.value h x.first in
      let P : ℕ → Type 0 = λ d. FineGoal th (half + 8 * d) g in
      let Q : ℕ → Type 0 = λ d. FineGoals th (half + 8 * d) rest in
      derived_good x.value g rest y s.ran (subst P (sym s.derives) h.fine) (subst Q (sym s.derives) h.fine_rest)
      ((hidden_tells th (sort_of g.left)).0 hidden) x.last

  eight : (i : ℕ) (c : ChainOf Tree) (u : Tree) (ws : WhysOf Tree) → split_limit ≡ suc i → AllFitIn i ws → FitsIn 8 (Split_why c u ws)
  eight i c u ws e f =
      let z : i ≡ 7 = omega (arith, e) in
      let P : ℕ → Type 0 = λ j. AllFitIn j ws in
      subst P z f

  visible_good : (st : Standing) (o g : Goal) (rest : List Goal) (y : Standing) → Held th G blocks st o g rest → visible_turn th l st g rest ≡ Ok y → Good y
  visible_good st o g rest y h e =
      let R = block_rules th st.earlier in
      let x : Through (or_end l st (split_cases th R split_limit [] g.left g.right st.budget))
      (λ c. reduced th l (record st { budget = c.budget }) rest (Split_why st.chain c.term c.whys)) y = through _ _ y e in
      let split = split_is th wf (bound st) (omega arith) G st.hypotheses R (rules_here st (o ∷ rest) h.ran)
      (unconditional_here st (o ∷ rest) h.ran) split_limit [] tt g.left g.right st.budget
      x.value h.fine.left h.fine.right (if_ended l st _ x.value x.first) in
      let s = split.2 in
      let small = bound_small st (o ∷ rest) h.ran in
      let why : WhyOf Tree = Split_why st.chain x.value.term x.value.whys in
      let ran = ran_same th G blocks st (o ∷ rest) st.queue st.chain x.value.budget h.ran in
      reduced_good (record st { budget = x.value.budget }) o rest why y ran h.bare h.fine_rest (
        sides g,
        record { left = h.left; right = h.right },
        case_list (sort_of x.value.term) s.constants,
        cases_listed th (sort_of x.value.term) s.constants s.listed,
        refl,
        s.each,
      )
      (eight split.0 st.chain x.value.term x.value.whys split.1 s.fits)
      (all_append (Fine th most) (chain_terms st.chain) (x.value.term ∷ whys_terms x.value.whys) (chain_fine th most st.chain h.links)
      (fine_more th (bound st) most x.value.term small s.term, whys_fine th (bound st) most small x.value.whys s.terms)) x.last

  open_good : (st : Standing) (o g : Goal) (rest : List Goal) (y : Standing) → Held th G blocks st o g rest → open_turn th l st g rest ≡ Ok y → Good y
  open_good st o g rest y h e = go (is_hidden th (sort_of g.left)) refl e
    where
      go : (v : Bool) → is_hidden th (sort_of g.left) ≡ v → (if v then hidden_turn th l st g rest else visible_turn th l st g rest) ≡ Ok y → Good y
      go true k z = hidden_good st o g rest y h k z
      go false k z = visible_good st o g rest y h z

  -- ---- a lemma pass

  swept_sides_led : (st : Standing) (o g : Goal) (rest : List Goal) (k : ℕ) (n : Sides) → Held th G blocks st o g rest
      → swept_sides th G st.earlier g.left g.right k ≡ Ok n → SidesLed (around st.hypotheses) (bound st) g.left g.right k n
  swept_sides_led st o g rest k n h e =
      let E : List Goal = st.earlier in
      let us : List HypothesisUse = pass_uses th G E g.left in
      let vs : List HypothesisUse = pass_uses th G E g.right in
      let c : ChainOf Tree = chain_with (map use_link us) (map use_link vs) in
      let x : Through (put_counted k g.left us) (λ a. and_then (put_counted a.1 g.right vs) (λ b. Ok (sides_with a.0 b.0 c b.1))) n = through _ _ n e in
      let y : Through (put_counted x.value.1 g.right vs) (λ b. Ok (sides_with x.value.0 b.0 c b.1)) n = through _ _ n x.last in
      let s = counted k g.left us x.value x.first in
      let t = counted x.value.1 g.right vs y.value y.first in
      let lemmas = hidden_lemmas_are th st.hypotheses E h.ran.begins in
      let L = hidden_lemmas th 0 E in
      let a = swept_leads th (bound st) G st.hypotheses h.ran.sorted h.ran.bare L lemmas g.left [] g.left x.value.0 h.fine.left h.fine.left refl tt s.put in
      let b = swept_leads th (bound st) G st.hypotheses h.ran.sorted h.ran.bare L lemmas g.right [] g.right y.value.0 h.fine.right h.fine.right refl tt t.put in
      let f1 = s.falls in
      let f2 = t.falls in
      let m1 = length-map us use_link in
      let m2 = length-map vs use_link in
      subst (SidesLed (around st.hypotheses) (bound st) g.left g.right k) (same_Ok (sides_with x.value.0 y.value.0 c y.value.1) n y.last)
      (record { left = a.lead.led; right = b.lead.led; count = omega (arith, f1, f2, m1, m2) })

  pass_good : (st : Standing) (o g : Goal) (rest : List Goal) (y : Standing) → Held th G blocks st o g rest → pass_turn th G l st g rest ≡ Ok y → Good y
  pass_good st o g rest y h e =
      let x : Through (or_end l st (swept_sides th G st.earlier g.left g.right st.budget))
      (λ n. if has_links n.chain then Ok (with_sides st rest n) else open_turn th l st g rest) y = through _ _ y e in
      go x.value (swept_sides_led st o g rest st.budget x.value h (if_ended l st _ x.value x.first)) (has_links x.value.chain) x.last
    where
      go : (n : Sides) → SidesLed (around st.hypotheses) (bound st) g.left g.right st.budget n → (v : Bool)
          → (if v then Ok (with_sides st rest n) else open_turn th l st g rest) ≡ Ok y → Good y
      go n s true z = subst Good (same_Ok (with_sides st rest n) y z) (o, sides_held st o g rest st.budget n h s)
      go n s false z = open_good st o g rest y h z

  -- ---- Join

  join_good : (st : Standing) (o g : Goal) (rest : List Goal) (y : Standing) → Held th G blocks st o g rest → (us : Option (List HypothesisUse))
      → joined G st.hypotheses [] g.left g.right ≡ us → join_turn th G l st g rest us ≡ Ok y → Good y
  join_good st o g rest y h None j e = pass_good st o g rest y h e
  join_good st o g rest y h (Some us) j e =
      let c : ChainOf Tree = chained st.chain (chain_with (map use_link us) []) in
      let x : Through (or_end l st (put_all g.left us)) (λ u. reduced th l st rest (Same_why c)) y = through _ _ y e in
      let d = joined_leads th (bound st) G st.hypotheses h.ran.sorted h.ran.bare g.left g.right [] us g.left x.value h.fine.left h.fine.left h.fine.right refl tt j
      (if_ended l st _ x.value x.first) in
      let equal : x.value ≡ g.right = same_Some x.value g.right (sym d.made) in
      let small = bound_small st (o ∷ rest) h.ran in
      let P : Tree → Type 0 = λ t. Runs (Leads (around st.hypotheses)) c.right o.right t in
      let links : AllOfChain (Fine th most) c = (
        all_append _ st.chain.left (map use_link us) h.links.0 (links_more th (bound st) most (map use_link us) small d.led.terms),
        all_append _ st.chain.right [] h.links.1 tt,
      ) in
      reduced_good st o rest (Same_why c) y h.ran h.bare h.fine_rest (
        x.value,
        record {
          left = runs_append (Leads (around st.hypotheses)) st.chain.left (map use_link us) o.left g.left x.value h.left d.led.leads;
          right = subst P (sym equal) (runs_append (Leads (around st.hypotheses)) st.chain.right [] o.right g.right g.right h.right refl);
        },
      ) tt (chain_fine th most c links) x.last

  -- ---- one goal, and the end of a block

  goal_good : (st : Standing) (o g : Goal) (rest : List Goal) (y : Standing) → Held th G blocks st o g rest → goal_turn th G l st g rest ≡ Ok y → Good y
  goal_good st o g rest y h e =
      let R = block_rules th st.earlier in
      let x : Through (or_end l st (normal_sides th R [] g.left g.right st.budget))
      (λ n. sides_turn th G l (with_sides st rest n) (goal [] n.left n.right) rest) y = through _ _ y e in
      let s = normal_sides_led th wf (bound st) (omega arith) G st.hypotheses R (rules_here st (o ∷ rest) h.ran)
      (unconditional_here st (o ∷ rest) h.ran) [] tt g.left g.right st.budget x.value
      h.fine.left h.fine.right (if_ended l st _ x.value x.first) in
      join_good (with_sides st rest x.value) o (goal [] x.value.left x.value.right) rest y (sides_held st o g rest st.budget x.value h s)
      (joined G st.hypotheses [] x.value.left x.value.right) refl x.last

  -- a block's Done has made it whole
  pub record IsWhole (st : Standing) (later : List (List Goal)) : Type 0 where
    pub whole : Whole th G blocks (with_this st) later st.deep st.made st.derives
    pub earlier : st.earlier ++ st.goals ≡ goals_of (with_this st)
    pub sorted : AreSortedGoals th (st.earlier ++ st.goals)
    pub bare : HaveNoConditions (st.earlier ++ st.goals)

  each_sorted : (E : List Goal) → ((n : ℕ) (g : Goal) → slice_get E n ≡ Some g → IsWellSortedGoal th g) → AreSortedGoals th E
  each_sorted [] f = sorted_none th
  each_sorted (g ∷ gs) f = sorted_more th g gs (f zero g refl) (each_sorted gs (λ n h e. f (suc n) h e))

  pub done_is_whole : (st y : Standing) → Ran th G blocks st [] → record_step th l st Done ≡ Ok y → IsWhole y y.later
  done_is_whole st y h e =
      let P : Standing → Type 0 = λ s. IsWhole s s.later in
      subst P (recorded th l st Done y e) (record {
        whole = done_whole th none G blocks st h (recorded_room th l st Done y e);
        earlier = ap (λ x. x ++ st.goals) h.earlier ∙ sym (goals_of_more st.finished (proved_block st.goals (st.steps ++ Done ∷ [])));
        sorted = sorted_append th st.earlier st.goals
            (each_sorted st.earlier (λ n g x. h.sorted g (contains_at st.hypotheses n g (h.begins n g x)))) (goals_sorted th half st.goals h.goals);
        bare = all_append (λ g. g.conds ≡ []) st.earlier st.goals (bare_here st [] h) (goals_bare th half st.goals h.goals);
      })

  next_good : (st : Standing) (later : List (List Goal)) (y : Standing) → IsWhole st later → next_block st later ≡ Ok y → Good y
  next_good st [] y w e = absurd (cc)
  next_good st (b ∷ bs) y w e =
      let h = w.whole in
      let n : Standing = begun (with_this st) (st.earlier ++ st.goals) b bs st.budget st.derives st.made st.deep in
      let count = h.counted in
      let ran : Ran th G blocks n b = record {
        finished = h.run;
        earlier = w.earlier;
        all = h.all;
        begins = λ i g x. x;
        sorted = w.sorted;
        bare = w.bare;
        run = record { under = refl; plain = λ x. refl };
        unfinished = tt;
        ended = h.ended;
        counted = omega (arith, count);
        small = h.small;
        few = h.few;
        taken = omega arith;
        finished_terms = h.terms;
        goals = h.later_goals.0;
        later = h.later_goals.1;
        terms = tt;
      } in
      subst Good (same_Ok n y e) (fresh_queue th G blocks n b refl ran
      (all_by (FineGoal th half) (FineGoal th (bound n)) b (λ q f. goal_more th half (bound n) q (omega arith) f) h.later_goals.0))

  pub turn_good : (st y : Standing) → Good st → turn th G l st ≡ Ok y → Good y
  turn_good st y h e = go st.queue h e
    where
      go : (Q : List Goal) → Opened th G blocks st Q → turn_at th G l st Q ≡ Ok y → Good y
      go [] o z =
          let x : Through (record_step th l st Done) (λ s. next_block s s.later) y = through _ _ y z in
          next_good x.value x.value.later y (done_is_whole st x.value o x.first) x.last
      go (g ∷ rest) o z = goal_good st o.0 g rest y o.1 z
