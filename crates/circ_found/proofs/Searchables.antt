-- That the goals of a script can be searched.
use Rattle.std.proofs.Common.{◌≡◌, ◌≢◌, ◌≤◌, ◌+◌, ◌*◌, ℕ, List, [], ◌∷◌, ◌++◌, length, max, refl, arith}
use Rattle.std.specs.List.{AllByRecursion, Contains}
use Rattle.circ_term.specs.Tree.{Tree, Trees, Var, App, none, more}
use Rattle.circ_theory.specs.Fresh.{above, all_above, fresh_after, above_pairs, fresh_in}
use Rattle.circ_theory.specs.Theory.{Theory, Pair}
use Rattle.circ_theory.specs.Variables.{occurrences, all_occurrences}
use Rattle.circ_theory.specs.Goal.{Goal}
use Rattle.circ_theory.proofs.Casing.{contains_first}
use Rattle.circ_theory.proofs.Weakening.{in_rest}
use Rattle.circ_mixfix.specs.Found.{sides_of_pairs}
use Rattle.circ_read.specs.Adding.{goal_terms}
use Rattle.circ_plain_search.specs.PlainSearch.{IsSearchable}
use Rattle.circ_conditional_search.specs.ConditionalSearch.{CanBeSearched, CanAllBeSearched}
use Rattle.circ_script.specs.Fit.{HasNumbersUpTo, IsFitGoal, IsFit, AreBare, IsScriptFor}
use Rattle.circ_script.specs.Script.{Script}
use Rattle.circ_script.specs.declared.job.Job.TheVariants.{Differ}
use Rattle.circ_found.specs.Searchable.{IsWithinGoal, AreWithin, ArePlainlySearchable}

parts : {X : Type 0} (P : X → Type 0) (xs ys : List X) → AllByRecursion P (xs ++ ys) → AllByRecursion P xs × AllByRecursion P ys
parts P [] ys h = (tt, h)
parts P (x ∷ xs) ys h = let r = parts P xs ys h.1 in ((h.0, r.0), r.1)

both_below : (n a b : ℕ) → a ≤ n + 1 → b ≤ n + 1 → max a b ≤ n + 1
both_below n a b h k = grind (arith, h, k)

module _ (n : ℕ) where
  mutual
    low : (t : Tree) → HasNumbersUpTo n t → above t ≤ n + 1
    low (Var k s) h = omega (arith, h.0)
    low (App f s ts) h = all_low ts h

    all_low : (ts : Trees) → AllByRecursion (λ v. v.number ≤ n) (all_occurrences ts) → all_above ts ≤ n + 1
    all_low none h = omega arith
    all_low (more t ts) h =
        let r = parts (λ v. v.number ≤ n) (occurrences t) (all_occurrences ts) h in both_below n (above t) (all_above ts) (low t r.0) (all_low ts r.1)

  pairs_low : (ps : List Pair) → AllByRecursion (HasNumbersUpTo n) (sides_of_pairs ps) → above_pairs ps ≤ n + 1
  pairs_low [] h = omega arith
  pairs_low (p ∷ ps) h =
      both_below n (fresh_after p.left p.right) (above_pairs ps) (both_below n (above p.left) (above p.right) (low p.left h.0) (low p.right h.1.0))
      (pairs_low ps h.1.1)

  goal_low : (g : Goal) → AllByRecursion (HasNumbersUpTo n) (goal_terms g) → fresh_in g ≤ n + 1
  goal_low g h =
      both_below n (fresh_after g.left g.right) (above_pairs g.conds) (both_below n (above g.left) (above g.right) (low g.left h.0) (low g.right h.1.0))
      (pairs_low g.conds h.1.1)

two_each : (ps : List Pair) → length (sides_of_pairs ps) ≡ 2 * length ps
two_each [] = refl
two_each (p ∷ ps) = let e = two_each ps in omega arith

module _ (th : Theory) where
  one_goal : (g : Goal) → IsFitGoal th g → IsWithinGoal g → CanBeSearched th g
  one_goal g f w = record {
    sorted = f.sorted;
    left_within = w.left;
    right_within = w.right;
    conds_within = w.conds;
    few_conds = f.few_conds;
    numbers =
        let few = f.few_conds in
        let two = two_each g.conds in
        let l = goal_low (256 * length (goal_terms g)) g f.low in
        omega (arith, few, two, l);
  }

  goals_of : (gs : List Goal) → ((g : Goal) → Contains gs g → IsFitGoal th g) → AllByRecursion IsWithinGoal gs → AllByRecursion (CanBeSearched th) gs
  goals_of [] fit w = tt
  goals_of (g ∷ gs) fit w = (one_goal g (fit g (contains_first g gs)) w.0, goals_of gs (λ h d. fit h (in_rest g h gs d)) w.1)

  blocks_fit : (bs : List (List Goal)) → ((b : List Goal) (g : Goal) → Contains bs b → Contains b g → IsFitGoal th g) → AreWithin bs
      → AllByRecursion (λ b. AllByRecursion (CanBeSearched th) b) bs
  blocks_fit [] fit w = tt
  blocks_fit (b ∷ bs) fit w =
      (goals_of b (λ g d. fit b g (contains_first b bs) d) w.0, blocks_fit bs (λ c g d e. fit c g (in_rest b c bs d) e) w.1)

  some_goals : (bs : List (List Goal)) → ((b : List Goal) → Contains bs b → b ≢ []) → AllByRecursion (λ b. b ≢ []) bs
  some_goals [] some = tt
  some_goals (b ∷ bs) some = (some b (contains_first b bs), some_goals bs (λ c d. some c (in_rest b c bs d)))

  pub script_searchable : (sc : Script) → IsFit th sc → sc.blocks ≢ [] → AreWithin sc.blocks → CanAllBeSearched th sc.blocks
  script_searchable sc fit some w =
      record { some_block = some; some_goal = some_goals sc.blocks fit.some; goals = blocks_fit sc.blocks fit.goals w }

  -- without conditions a goal can be searched plainly
  plain_goal : (g : Goal) → CanBeSearched th g → g.conds ≡ [] → IsSearchable th g
  plain_goal g c bare =
      record { sorted = c.sorted; no_conds = bare; left_within = c.left_within; right_within = c.right_within; numbers = c.numbers }

  plain_goals : (gs : List Goal) → ((g : Goal) → Contains gs g → g.conds ≡ []) → AllByRecursion (CanBeSearched th) gs → AllByRecursion (IsSearchable th) gs
  plain_goals [] bare c = tt
  plain_goals (g ∷ gs) bare c = (plain_goal g c.0 (bare g (contains_first g gs)), plain_goals gs (λ h d. bare h (in_rest g h gs d)) c.1)

  plain_blocks : (bs : List (List Goal)) → AreBare bs → AllByRecursion (λ b. AllByRecursion (CanBeSearched th) b) bs
      → AllByRecursion (λ b. AllByRecursion (IsSearchable th) b) bs
  plain_blocks [] bare c = tt
  plain_blocks (b ∷ bs) bare c =
      (plain_goals b (λ g d. bare b g (contains_first b bs) d) c.0, plain_blocks bs (λ e g d k. bare e g (in_rest b e bs d) k) c.1)

  pub script_plainly_searchable : (sc : Script) → IsFit th sc → IsScriptFor Differ sc → AreWithin sc.blocks → ArePlainlySearchable th sc.blocks
  script_plainly_searchable sc fit goals w =
      let c = script_searchable sc fit goals.0 w in
      record { some_block = c.some_block; some_goal = c.some_goal; goals = plain_blocks sc.blocks goals.2 c.goals }
