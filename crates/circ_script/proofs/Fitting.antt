-- What is true of each script that is read.
use Rattle.std.proofs.Common.{◌≡◌, ◌≢◌, ℕ, List, [], ◌∷◌, ◌++◌, Bool, true, false, if◌then◌else◌, is_some, Some, None, ◌⊎◌, inl, inr, refl, sym, ap}
use Rattle.std.proofs.Common.{◌∙◌, subst, length, arith}
use Rattle.std.specs.Option.{option_map}
use Rattle.std.specs.List.{Contains}
use Rattle.std.proofs.lemmas.List.Elements.{Contains-push_cases}
use Rattle.std.proofs.lemmas.List.Quantifiers.{position-Some}
use Rattle.circ_term.specs.Tree.{Tree}
use Rattle.circ_theory.specs.Signature.{IsSort}
use Rattle.circ_theory.specs.Goal.{Goal}
use Rattle.circ_theory.specs.Theory.{Theory, Declared, declared, Pair, sides}
use Rattle.circ_theory.specs.Adding.{sort_number, var_number, with_var, hidden_condition}
use Rattle.circ_theory.specs.Limits.{condition_limit}
use Rattle.circ_theory.specs.declared.fault.TheoryFault.TheVariants.{NotVisible}
use Rattle.circ_theory.specs.WellFormed.{IsWellFormed}
use Rattle.circ_theory.proofs.Casing.{contains_first}
use Rattle.circ_theory.proofs.Conditions.{visible_conditions}
use Rattle.circ_theory.proofs.Faults.{option_or_none, option_map_none}
use Rattle.circ_theory.proofs.Observers.{short_by}
use Rattle.circ_theory.proofs.Weakening.{in_rest}
use Rattle.circ_mixfix.specs.Answers.{long_count, first_long, HaveSorts}
use Rattle.circ_mixfix.specs.Found.{sides_of_pairs}
use Rattle.circ_mixfix.specs.Named.{Named}
use Rattle.circ_mixfix.specs.Readings.{ReadsOne, SpellTwos, numbered_list, ReadsTwos}
use Rattle.circ_mixfix.proofs.WellSorted.{one_sorted, twos_sorted}
use Rattle.circ_statement.specs.Words.{Word}
use Rattle.circ_read.specs.Adding.{with_all, with_variable, DeclaresVariables, equation_lists, goal_terms, ReadsEquation}
use Rattle.circ_read.proofs.GoalTerms.{goal_back, terms_sorted}
use Rattle.circ_script.specs.declared.job.Job.{Job}
use Rattle.circ_script.specs.declared.job.Job.TheVariants.{Prove, Differ, Reduce}
use Rattle.circ_script.specs.Script.{Script}
use Rattle.circ_script.specs.Items.{Item, variables, goal, coinduction, reduce, IsFor}
use Rattle.circ_script.specs.Drafts.{Draft, first_draft, script_of, AsksFor}
use Rattle.circ_script.specs.Adding.{ReadsTerm, goal_fault, AddsItem, TakesItems, start, next}
use Rattle.circ_script.specs.ReadsAsScript.{ReadsAsScript}
use Rattle.circ_script.specs.Fit.{IsFitGoal, IsFitTerm, IsFit, AreBare, IsScriptFor}
use Rattle.circ_script.specs.Steps.{IsButVariables}
use Rattle.circ_script.proofs.Copies.{but_itself, but_then, but_a_variable}
use Rattle.circ_script.proofs.Low.{one_low, twos_low}

none_in : {A : Type 0} (x : A) → Contains [] x → ⊥
none_in x c = omega (arith, c.1)

module _ (th : Theory) (formed : IsWellFormed th) where
  -- the theory with variables of its sorts
  record HasSorted (u : Theory) : Type 0 where
    but : IsButVariables th u
    sorts : HaveSorts th.signature u.variables

  one_more : (u : Theory) (name : List ℕ) (sort : ℕ) → IsSort th.signature sort → HasSorted u → HasSorted (with_var u name sort)
  one_more u name sort s h = record { but = but_then th u (with_var u name sort) h.but (but_a_variable u name sort); sorts = go (is_some (var_number u name)) }
    where
      go : (b : Bool) → HaveSorts th.signature (if b then u else record u { variables = u.variables ++ declared name sort ∷ [] }).variables
      go true = h.sorts
      go false = λ d c. either d (Contains-push_cases u.variables (declared name sort) d c)
        where
          either : (d : Declared) → Contains u.variables d ⊎ (declared name sort ≡ d) → IsSort th.signature d.sort
          either d (inl c) = h.sorts d c
          either d (inr e) = subst (λ x. IsSort th.signature x.sort) e s

  all_more : (u : Theory) (names : List Word) (sort : ℕ) → IsSort th.signature sort → HasSorted u → HasSorted (with_all (with_variable sort) u names)
  all_more u [] sort s h = h
  all_more u (w ∷ ws) sort s h = all_more (with_variable sort u w) ws sort s (one_more u w sort s h)

  declared_sorts : (u v : Theory) (names : List Word) (sort : Word) → HasSorted u → DeclaresVariables u names sort v → HasSorted v
  declared_sorts u v names sort h d =
      let same : u.signature ≡ th.signature = ap (λ x. x.signature) h.but in
      let n : sort_number th.signature sort ≡ Some d.number = ap (λ sig. sort_number sig sort) (sym same) ∙ d.sort_is in
      let s : IsSort th.signature d.number = (position-Some _ th.signature.sorts d.number sort n).0 in
      subst HasSorted (sym d.adds.is) (all_more u names d.number s h)

  record IsFitDraft (d : Draft) : Type 0 where
    theory : HasSorted d.theory
    goals : (g : Goal) → Contains d.goals g → IsFitGoal th g
    blocks : (block : List Goal) (g : Goal) → Contains d.blocks block → Contains block g → IsFitGoal th g
    some : (block : List Goal) → Contains d.blocks block → block ≢ []
    terms : (t : Tree) → Contains d.terms t → IsFitTerm th.signature t

  fit_begun : IsFitDraft (first_draft th)
  fit_begun = record {
    theory = record { but = but_itself th; sorts = formed.variables };
    goals = λ g c. absurd (none_in g c);
    blocks = λ b g c k. absurd (none_in b c);
    some = λ b c. absurd (none_in b c);
    terms = λ t c. absurd (none_in t c);
  }

  same_signature : (d : Draft) → IsFitDraft d → d.theory.signature ≡ th.signature
  same_signature d h = ap (λ x. x.signature) h.theory.but

  goal_fit : (d : Draft) (lists : List (List Word)) (g : Goal) → IsFitDraft d → first_long lists ≡ None → ReadsEquation d.theory lists (goal_terms g)
      → goal_fault d.theory g.conds ≡ None → IsFitGoal th g
  goal_fit d lists g h short r none =
      let vars = d.theory.variables in
      let p : ReadsTwos th.signature vars lists (goal_terms g) = subst (λ x. ReadsTwos x vars lists (goal_terms g)) (same_signature d h) r in
      let all = terms_sorted (goal_terms g) g (goal_back g) th.signature (twos_sorted th vars lists (goal_terms g) formed h.theory.sorts p) in
      let plain : goal_fault th g.conds ≡ None = sym (ap (λ x. goal_fault x g.conds) h.theory.but) ∙ none in
      let fine = option_or_none (option_map NotVisible (hidden_condition th g.conds)) _ plain in
      record {
        sorted = record {
          sorted = all (sides g) (contains_first (sides g) g.conds);
          conds = visible_conditions th g.conds (λ p k. all p (in_rest (sides g) p g.conds k)) (option_map_none NotVisible (hidden_condition th g.conds) fine.0);
        };
        few_conds = short_by condition_limit (length g.conds) fine.1;
        low = twos_low th.signature vars lists (goal_terms g) short p;
      }

  term_fit : (d : Draft) (ws : List Word) (t : Tree) → IsFitDraft d → long_count ws ≡ None → ReadsTerm d.theory ws (t ∷ []) → IsFitTerm th.signature t
  term_fit d ws t h short r =
      let vars = d.theory.variables in
      let l : r.0 ≡ t = let z = r.1 in cc in
      let p : ReadsOne th.signature vars false ws t = subst (λ x. ReadsOne th.signature vars false ws x) l
      (subst (λ x. ReadsOne x vars false ws r.0) (same_signature d h) r.2) in
      record { sorted = one_sorted th vars false ws t formed h.theory.sorts p; low = one_low th.signature vars ws t short p }

  fit_added : (d : Draft) (i : Item) (e : Draft) → IsFitDraft d → AddsItem d i e → IsFitDraft e
  fit_added d (variables names sort) e h a =
      subst IsFitDraft (sym a.1)
      (record { theory = declared_sorts d.theory e.theory names sort h.theory a.0; goals = h.goals; blocks = h.blocks; some = h.some; terms = h.terms })
  fit_added d (goal s cs) e h a =
      subst IsFitDraft (sym a.is)
      (record { theory = h.theory; goals = λ g c. either g (Contains-push_cases d.goals a.says g c); blocks = h.blocks; some = h.some; terms = h.terms })
    where
      either : (g : Goal) → Contains d.goals g ⊎ (a.says ≡ g) → IsFitGoal th g
      either g (inl c) = h.goals g c
      either g (inr q) =
          subst (IsFitGoal th) q (goal_fit d (equation_lists s.left s.right cs) a.says h a.alone.short a.alone.reads a.no_fault)
  fit_added d coinduction e h a =
      subst IsFitDraft (sym a.1)
      (record {
        theory = h.theory;
        goals = λ g c. absurd (none_in g c);
        blocks = λ b g c k. block_goals b g k (Contains-push_cases d.blocks d.goals b c);
        some = λ b c. block_some b (Contains-push_cases d.blocks d.goals b c);
        terms = h.terms;
      })
    where
      block_goals : (b : List Goal) (g : Goal) → Contains b g → Contains d.blocks b ⊎ (d.goals ≡ b) → IsFitGoal th g
      block_goals b g k (inl c) = h.blocks b g c k
      block_goals b g k (inr q) = h.goals g (subst (λ x. Contains x g) (sym q) k)

      block_some : (b : List Goal) → Contains d.blocks b ⊎ (d.goals ≡ b) → b ≢ []
      block_some b (inl c) = h.some b c
      block_some b (inr q) = λ n. a.0 (q ∙ n)
  fit_added d (reduce term) e h a =
      subst IsFitDraft (sym a.is)
      (record { theory = h.theory; goals = h.goals; blocks = h.blocks; some = h.some; terms = λ t c. either t (Contains-push_cases d.terms a.term t c) })
    where
      either : (t : Tree) → Contains d.terms t ⊎ (a.term ≡ t) → IsFitTerm th.signature t
      either t (inl c) = h.terms t c
      either t (inr q) = subst (IsFitTerm th.signature) q (term_fit d term a.term h a.alone.short a.alone.reads)

  fit_reached : (job : Job) (tokens : List Word) (k : ℕ) (d : Draft) (left : List Word) → TakesItems job (first_draft th) tokens k d left → IsFitDraft d
  fit_reached job tokens k d left start = fit_begun
  fit_reached job tokens k d left (next i c e here before after r h n t) = fit_added c t.item e (fit_reached job tokens i c here r) t.adds

  pub script_fit : (job : Job) (bytes : List ℕ) (s : Script) → ReadsAsScript th job bytes s → IsFit th s
  script_fit job bytes s r =
      let h = fit_reached job r.tokens r.count r.last [] r.items in
      subst (IsFit th) (sym r.is) (record { goals = h.blocks; some = h.some; terms = h.terms })

-- a goal that is read without conditions has none
bare_read : (th : Theory) (left right : List Word) (g : Goal) → ReadsEquation th (equation_lists left right []) (goal_terms g) → g.conds ≡ []
bare_read th left right g r = go r.spelled r.spells r.are
  where
    none : (ps : List Pair) → sides_of_pairs ps ≡ [] → ps ≡ []
    none [] e = refl
    none (p ∷ ps) e = absurd (cc)

    go : (qs : List Named) → SpellTwos th.signature th.variables (left ∷ right ∷ []) qs → goal_terms g ≡ numbered_list qs → g.conds ≡ []
    go [] h e = absurd h
    go (q ∷ []) h e = absurd h
    go (q ∷ u ∷ []) h e = none g.conds (cc)
    go (q ∷ u ∷ x ∷ qs) h e = absurd h.1

abbrev AllBare : List Goal → Type 0
AllBare gs = (g : Goal) → Contains gs g → g.conds ≡ []

-- what is for another job is not there
abbrev LacksOthers : Job → Draft → Type 0
LacksOthers Prove d = d.terms ≡ []
LacksOthers Differ d = (d.terms ≡ []) × AllBare d.goals × AreBare d.blocks
LacksOthers Reduce d = (d.blocks ≡ []) × (d.goals ≡ [])

lacks_added : (job : Job) (d : Draft) (i : Item) (e : Draft) → LacksOthers job d → IsFor job i → AddsItem d i e → LacksOthers job e
lacks_added Prove d (variables names sort) e h f a = ap (λ x. x.terms) a.1 ∙ h
lacks_added Prove d (goal s cs) e h f a = ap (λ x. x.terms) a.is ∙ h
lacks_added Prove d coinduction e h f a = ap (λ x. x.terms) a.1 ∙ h
lacks_added Prove d (reduce term) e h f a = absurd (cc)
lacks_added Differ d (variables names sort) e h f a = subst (LacksOthers Differ) (sym a.1) h
lacks_added Differ d (goal s cs) e h f a =
    subst (LacksOthers Differ) (sym a.is) (h.0, (λ g c. either g (Contains-push_cases d.goals a.says g c)), h.2)
  where
    either : (g : Goal) → Contains d.goals g ⊎ (a.says ≡ g) → g.conds ≡ []
    either g (inl c) = h.1 g c
    either g (inr q) =
        subst (λ x. x.conds ≡ []) q
        (bare_read d.theory s.left s.right a.says
        (subst (λ x. ReadsEquation d.theory (equation_lists s.left s.right x) (goal_terms a.says)) (f.1 refl) a.alone.reads))
lacks_added Differ d coinduction e h f a =
    subst (LacksOthers Differ) (sym a.1) (h.0, (λ g c. absurd (none_in g c)), λ b g c k. either b g k (Contains-push_cases d.blocks d.goals b c))
  where
    either : (b : List Goal) (g : Goal) → Contains b g → Contains d.blocks b ⊎ (d.goals ≡ b) → g.conds ≡ []
    either b g k (inl c) = h.2 b g c k
    either b g k (inr q) = h.1 g (subst (λ x. Contains x g) (sym q) k)
lacks_added Differ d (reduce term) e h f a = absurd (cc)
lacks_added Reduce d (variables names sort) e h f a = (ap (λ x. x.blocks) a.1 ∙ h.0, ap (λ x. x.goals) a.1 ∙ h.1)
lacks_added Reduce d (goal s cs) e h f a = absurd f.0
lacks_added Reduce d coinduction e h f a = absurd f
lacks_added Reduce d (reduce term) e h f a = (ap (λ x. x.blocks) a.is ∙ h.0, ap (λ x. x.goals) a.is ∙ h.1)

lacks_begun : (th : Theory) (job : Job) → LacksOthers job (first_draft th)
lacks_begun th Prove = refl
lacks_begun th Differ = (refl, (λ g c. absurd (none_in g c)), λ b g c k. absurd (none_in b c))
lacks_begun th Reduce = (refl, refl)

lacks_reached : (th : Theory) (job : Job) (tokens : List Word) (k : ℕ) (d : Draft) (left : List Word) → TakesItems job (first_draft th) tokens k d left
    → LacksOthers job d
lacks_reached th job tokens k d left start = lacks_begun th job
lacks_reached th job tokens k d left (next i c e here before after r h n t) = lacks_added job c t.item e (lacks_reached th job tokens i c here r) t.is.is_for
    t.adds

pub script_for : (th : Theory) (job : Job) (bytes : List ℕ) (s : Script) → ReadsAsScript th job bytes s → IsScriptFor job s
script_for th job bytes s r = subst (IsScriptFor job) (sym r.is) (go job (lacks_reached th job r.tokens r.count r.last [] r.items) r.finished.asks)
  where
    go : (job : Job) → LacksOthers job r.last → AsksFor job r.last → IsScriptFor job (script_of r.last)
    go Prove h a = (a, h)
    go Differ h a = (a, h.0, h.2)
    go Reduce h a = (a, h.0)
