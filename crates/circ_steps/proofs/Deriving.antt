-- Derive by number: the instances of a derivative, its goals, and the state.
use Rattle.std.proofs.Common.{◌≡◌, ◌<◌, ◌≤◌, ◌+◌, ◌^◌, ℕ, Bool, true, false, ◌==◌, ◌&&◌, if◌then◌else◌, List, [], ◌∷◌, ◌++◌, map, drop, length, get_or, Option, Some, None, Result, Ok, Err, refl, ap, sym, subst, ◌∙◌, arith, append-nil}
use Rattle.std.proofs.lemmas.Bool.{eqb-true, eq-eqb}
use Rattle.std.proofs.lemmas.List.{map-append, drop_all}
use Rattle.std.specs.Prelude.{IfOk}
use Rattle.std.specs.List.{slice_get, filter, AllByRecursion}
use Rattle.std.specs.Option.{IfSome, option_map, option_map_or}
use Rattle.circ_term.specs.Growing.{Grows}
use Rattle.circ_term.specs.Tree.{Tree, sort_of}
use Rattle.circ_term.specs.Limits.{IsWithinLimits}
use Rattle.circ_term.specs.Substitution.{Substitution, instance}
use Rattle.circ_term.specs.declared.fault.TermFault.{TermFault}
use Rattle.circ_term.proofs.Instances.{instance-same}
use Rattle.circ_theory.specs.Theory.{Theory, Derivative, goal}
use Rattle.circ_theory.specs.Variables.{numbered, given}
use Rattle.circ_theory.specs.Experiment.{plug, derived}
use Rattle.circ_theory.specs.Theory.{IsHidden}
use Rattle.circ_theory.specs.Theory.{IsWellSortedGoal}
use Rattle.circ_theory.specs.WellFormed.{IsWellFormed}
use Rattle.circ_theory.specs.Fresh.{fresh_in, given_parameters, parameter_sorts, variables_from, derivatives_of, FitDerivative}
use Rattle.circ_theory.specs.Goal.{Goal}
use Rattle.circ_special.specs.declared.place.Place.{Place}
use Rattle.circ_proof.specs.Rules.{State, state, Derive, StepOf, derived_goal, derivatives_on}
use Rattle.circ_proof.proofs.Derivatives.{if_some_at, some_if_at, from_number}
use Rattle.circ_proof.proofs.Derivatives.{derivative_at as derivative_of}
use Rattle.std.specs.Prelude.{nat_eq, cond}
use Rattle.std.specs.Map.{lookup}
use Rattle.circ_nodes.specs.Named.{tree_at, Interns, IsOnce}
use Rattle.circ_nodes.proofs.Located.{named_tree, tree_named, tree_later, trees_later}
use Rattle.circ_nodes.proofs.Numbers.{named_later, named_below}
use Rattle.circ_shared.specs.Binding.{AreGiven}
use Rattle.circ_shared.specs.Memo.{IsMade}
use Rattle.circ_shared.proofs.Giving.{given_put, given_made}
use Rattle.circ_rules.specs.Answers.{Applies}
use Rattle.circ_rules.specs.declared.fault.DeriveFault.{DeriveFault}
use Rattle.circ_rules.specs.Derivatives.{Cause, first_cause, instances_on, NamesCause, BuildsBoth, MakesDerivative}
use Rattle.circ_rules.proofs.Meaning.{all_derivable, no_first_cause}
use Rattle.circ_rules.specs.declared.fault.DeriveFault.TheVariants as fault
use Rattle.circ_rules.proofs.Making.{left_fails, right_fails, is_made, is_not_made, stands_taken, stands_passed}
use Rattle.circ_rules.proofs.Making.{Stands as StandsOnTerms}
use Rattle.circ_shared.specs.Patterns.{pairs_at, goal_at, IsPattern, IsThere}
use Rattle.circ_shared.specs.declared.patterns.Pattern.{Pattern}
use Rattle.circ_shared.proofs.Sharing.{goals_later, patterns_later, pairs_later, are_there_later}
use Rattle.circ_steps.specs.declared.states.SharedGoal.{SharedGoal}
use Rattle.circ_steps.specs.declared.states.SharedState.{SharedState}
use Rattle.circ_steps.specs.declared.derivative.SharedDerivative.{SharedDerivative}
use Rattle.circ_steps.specs.declared.rules.Rules.{Rules}
use Rattle.circ_steps.specs.Derivatives.{IsDerivativeAt, BuildsBothAt, MakesDerivativeAt}
use Rattle.circ_steps.specs.Judging.{AreRules}
use Rattle.circ_steps.proofs.Numbering.{derivatives_later, all_later, if_some_to}
use Rattle.circ_steps.specs.States.{shared_goal, shared_goals, state_at, IsGoalThere, IsStateThere}
use Rattle.circ_steps.proofs.Fronts.{rest_there}
use Rattle.circ_steps.proofs.Splitting.{all_both}
use Rattle.circ_steps.proofs.Staying.{shared_goals_later, goals_there_later}

-- ---- the instance of a derivative

turned_test : (a b : ℕ) → (a == b) ≡ (b == a)
turned_test a b = go (a == b) (b == a) refl refl
  where
    go : (x y : Bool) → (a == b) ≡ x → (b == a) ≡ y → x ≡ y
    go true true e f = refl
    go false false e f = refl
    go true false e f = sym (eq-eqb b a (sym (eqb-true a b e))) ∙ f
    go false true e f = sym e ∙ eq-eqb a b (sym (eqb-true b a f))

-- the hole is given t, and the parameters are given ts
abbrev pub giving : Derivative → Tree → List Tree → Substitution
giving d t ts = λ n s. if (0 == n) && (d.hole == s) then t else given (numbered 1 (parameter_sorts d)) ts n s

giving_plugs : (d : Derivative) (t : Tree) (ts : List Tree) → map sort_of ts ≡ parameter_sorts d → (n s : ℕ) → giving d t ts n s ≡ plug d.hole t (given_parameters ts) n s
giving_plugs d t ts e n s =
    ap (λ b. if b && (d.hole == s) then t else given (numbered 1 (parameter_sorts d)) ts n s) (turned_test 0 n)
    ∙ ap (λ b. if (n == 0) && b then t else given (numbered 1 (parameter_sorts d)) ts n s) (turned_test d.hole s)
    ∙ ap (λ ss. if (n == 0) && (s == d.hole) then t else given (numbered 1 ss) ts n s) (sym e)

pub interns_derived : (d : Derivative) (t : Tree) (ts : List Tree) → map sort_of ts ≡ parameter_sorts d → (nodes : List Tree) (u : Tree) → u ≡ d.body
    → (r : Result ℕ TermFault) → Interns nodes r (instance (giving d t ts) u) → Interns nodes r (derived d t (given_parameters ts))
interns_derived d t ts e nodes u is r h =
    subst (Interns nodes r) (ap (instance (giving d t ts)) is ∙ instance-same (giving d t ts) (plug d.hole t (given_parameters ts)) d.body (giving_plugs d t ts e)) h

-- what has been made of a derivative's variables
pub made_for : (nodes : List Tree) (once : IsOnce nodes) (d : Derivative) (x : SharedDerivative) → IsDerivativeAt nodes d x → (term : ℕ) → term < length nodes
    → IsWithinLimits (tree_at nodes term) → (ts : List Tree) (old new : List (ℕ × ℕ)) → AreGiven (given (numbered 1 (parameter_sorts d)) ts) nodes old
    → ((q : ℕ) → lookup (nat_eq q) new ≡ cond (nat_eq x.hole q) (Some term) (lookup (nat_eq q) old)) → IsMade (giving d (tree_at nodes term) ts) nodes new
made_for nodes once d x is term there within ts old new h changes =
    given_made (giving d (tree_at nodes term) ts) nodes new
    (given_put (given (numbered 1 (parameter_sorts d)) ts) (record { number = 0; sort = d.hole }) (tree_at nodes term) nodes once x.hole term is.hole
    (tree_named nodes term there) within old new h changes)

-- ---- both sides

-- where the derivative on the left side stops
pub left_stops : (nodes : List Tree) (d : Derivative) (ts : List Tree) (g : Goal) (e : TermFault) (r : Result ℕ TermFault) → r ≡ Err e
    → Interns nodes r (derived d g.left (given_parameters ts)) → BuildsBothAt nodes (instances_on d ts g) (Err e)
left_stops nodes d ts g e r is h = left_fails (instances_on d ts g) e (rw is at h)

pub right_stops : (nodes mid : List Tree) (d : Derivative) (ts : List Tree) (g : Goal) (l : ℕ) (e : TermFault) (q r : Result ℕ TermFault) → q ≡ Ok l → r ≡ Err e
    → Interns mid q (derived d g.left (given_parameters ts)) → Interns nodes r (derived d g.right (given_parameters ts))
    → BuildsBothAt nodes (instances_on d ts g) (Err e)
right_stops nodes mid d ts g l e q r isq isr h k = right_fails (instances_on d ts g) e (rw isq at h).1 (rw isr at k)

pub both_made : (old mid new : List Tree) (a : Grows old mid) (b : Grows mid new) (k : Grows old new) (d : Derivative) (ts : List Tree) (p : Pattern) → IsPattern old p
    → (l r : ℕ) (q s : Result ℕ TermFault) → q ≡ Ok l → s ≡ Ok r → Interns mid q (derived d (goal_at old p).left (given_parameters ts))
    → Interns new s (derived d (goal_at old p).right (given_parameters ts)) → (y : SharedGoal) → y.conds.items ≡ p.conds.items → y.sides ≡ record { left = l; right = r }
    → BuildsBothAt new (instances_on d ts (goal_at old p)) (Ok y)
both_made old mid new a b k d ts p is l r q s isq iss h j y conds sides =
    let left = rw isq at h in
    let right = rw iss at j in
    let named_l = named_later mid new l (derived d (goal_at old p).left (given_parameters ts)) b left.0 in
    let there : IsThere new (record { left = l; right = r }) =
    (named_below new l (derived d (goal_at old p).left (given_parameters ts)) named_l, named_below new r (derived d (goal_at old p).right (given_parameters ts)) right.0) in (
      record { conditions = rw conds (are_there_later old new k p.conds.items is.conditions); sides = rw sides there },
      ap (λ ss. goal (pairs_at new ss) (tree_at new y.sides.left) (tree_at new y.sides.right)) conds
          ∙ ap (λ x. goal (pairs_at new p.conds.items) (tree_at new x.left) (tree_at new x.right)) sides
          ∙ ap (λ E. goal E (tree_at new l) (tree_at new r)) (pairs_later old new k p.conds.items is.conditions)
          ∙ ap (λ t. goal (pairs_at old p.conds.items) t (tree_at new r)) (named_tree new l (derived d (goal_at old p).left (given_parameters ts)) named_l)
          ∙ ap (goal (pairs_at old p.conds.items) (derived d (goal_at old p).left (given_parameters ts))) (named_tree new r (derived d (goal_at old p).right (given_parameters ts)) right.0),
      rw (left.1, right.1) refl,
    )

-- what is said of terms by number stays when terms are added
module _ (old mid : List Tree) (g : Grows old mid) (ns : List ℕ) (are : AllByRecursion (λ n. n < length old) ns) (n : ℕ) (is : n < length old) (d : Derivative) where
  pub fits_later : FitDerivative d (map (tree_at old) ns) (tree_at old n) → FitDerivative d (map (tree_at mid) ns) (tree_at mid n)
  fits_later f =
      let Q : List Tree → Type 0 = λ ts. FitDerivative d ts (tree_at mid n) in
      let R : Tree → Type 0 = λ t. FitDerivative d (map (tree_at old) ns) t in
      subst Q (sym (trees_later old mid ns g are)) (subst R (sym (tree_later old mid n g is)) f)

  pub interned_before : (nodes : List Tree) (r : Result ℕ TermFault) → Interns nodes r (derived d (tree_at mid n) (given_parameters (map (tree_at mid) ns)))
      → Interns nodes r (derived d (tree_at old n) (given_parameters (map (tree_at old) ns)))
  interned_before nodes r h =
      let Q : List Tree → Type 0 = λ ts. Interns nodes r (derived d (tree_at old n) (given_parameters ts)) in
      let R : Tree → Type 0 = λ t. Interns nodes r (derived d t (given_parameters (map (tree_at mid) ns))) in
      subst Q (trees_later old mid ns g are) (subst R (tree_later old mid n g is) h)

pub rules_later : (old new : List Tree) (g : Grows old new) (r : Rules) → AreRules old r → AreRules new r
rules_later old new g r h = record {
  equations = goals_later old new g r.equations.now h.patterns ∙ h.equations;
  patterns = patterns_later old new g r.equations.now h.patterns;
  derivatives = derivatives_later old new g r.theory.now.derivatives r.derivatives.now h.derivatives;
  table = all_later old new g r.table.now h.table;
}

-- ---- one derivative

both : {X : Type 0} (P Q R : X → Type 0) (o : Option X) → IfSome o P → IfSome o Q → ((x : X) → P x → Q x → R x) → IfSome o R
both P Q R None p q f = tt
both P Q R (Some x) p q f = f x p q

module _ (th : Theory) (ok : IsWellFormed th) (n : ℕ) (g : Goal) (w : IsWellSortedGoal th g) (k : ℕ) (fresh : k ≡ fresh_in g)
    (hole : option_map (λ d. d.hole) (slice_get th.derivatives n) ≡ Some (sort_of g.left)) (sorts : List ℕ)
    (listed : Some sorts ≡ option_map parameter_sorts (slice_get th.derivatives n)) (few : k + length sorts ≤ 2 ^ 32) (params : List Tree)
    (made : params ≡ variables_from k sorts) (nodes : List Tree) where
  pub makes_one : (y : SharedGoal) → IfSome (slice_get th.derivatives n) (λ x. BuildsBothAt nodes (instances_on x params g) (Ok y))
      → IfSome (slice_get th.derivatives n) (λ x. MakesDerivativeAt nodes g x (Ok y))
  makes_one y h =
      let P : Derivative → Type 0 = λ x. BuildsBothAt nodes (instances_on x params g) (Ok y) in
      let Q : Derivative → Type 0 = λ x. MakesDerivative g x (Ok (shared_goal nodes y)) in
      let B : Derivative → Type 0 = λ x. BuildsBoth (instances_on x params g) (Ok (shared_goal nodes y)) in
      let built : IfSome (slice_get th.derivatives n) B = if_some_to P B (slice_get th.derivatives n) h (λ x e p. (p.1, p.2)) in
      both P Q (λ x. MakesDerivativeAt nodes g x (Ok y)) (slice_get th.derivatives n) h
      (is_made th ok n g w k fresh hole sorts listed few params made (shared_goal nodes y) built) (λ x p q. (p.0, q.0, q.1))

  pub makes_none : (e : TermFault) → IfSome (slice_get th.derivatives n) (λ x. BuildsBothAt nodes (instances_on x params g) (Err e))
      → IfSome (slice_get th.derivatives n) (λ x. MakesDerivativeAt nodes g x (Err (fault.Term e)))
  makes_none e h = is_not_made th ok n g w k fresh hole sorts listed few params made e h

-- ---- one derivative after another

-- What the loop keeps.
pub record Stands (th : Theory) (g : Goal) (nodes : List Tree) (i : ℕ) (hs : List SharedGoal) : Type 0 where
  pub there : AllByRecursion (IsGoalThere nodes) hs
  pub so_far : StandsOnTerms th g i (shared_goals nodes hs)

pub stands_none : (th : Theory) (g : Goal) (nodes : List Tree) → Stands th g nodes 0 []
stands_none th g nodes = record { there = tt; so_far = record { cause = refl; derived = refl } }

pub stands_all : (th : Theory) (g : Goal) (nodes : List Tree) (i : ℕ) (hs : List SharedGoal) → length th.derivatives ≤ i → Stands th g nodes i hs
    → AllByRecursion (IsGoalThere nodes) hs × (first_cause g (derivatives_of th (sort_of g.left)) ≡ None) × (shared_goals nodes hs ≡ derivatives_on th g)
stands_all th g nodes i hs h s =
    let none : drop i th.derivatives ≡ [] = drop_all i th.derivatives h in
    let f : Derivative → Goal = λ d. derived_goal d g (fresh_in g) in
    let left : from_number th.derivatives (sort_of g.left) i ≡ [] = ap (filter (λ d. d.hole == sort_of g.left)) none in (
      s.there,
      s.so_far.cause ∙ ap (first_cause g) left,
      sym (append-nil (shared_goals nodes hs)) ∙ ap (λ ds. shared_goals nodes hs ++ map f ds) (sym left) ∙ s.so_far.derived,
    )

pushed : (nodes : List Tree) (hs : List SharedGoal) (y : SharedGoal) → AllByRecursion (IsGoalThere nodes) hs → IsGoalThere nodes y
    → AllByRecursion (IsGoalThere nodes) (hs ++ y ∷ [])
pushed nodes hs y a h = all_both nodes hs (y ∷ []) a (h, tt)

pub stands_next : (th : Theory) (g : Goal) (old new : List Tree) (k : Grows old new) (i : ℕ) (hs ks : List SharedGoal) (y : SharedGoal) → i < length th.derivatives
    → option_map_or (λ d. d.hole == sort_of g.left) (slice_get th.derivatives i) false ≡ true
    → IfSome (slice_get th.derivatives i) (λ d. MakesDerivativeAt new g d (Ok y)) → ks ≡ hs ++ y ∷ [] → Stands th g old i hs → Stands th g new (i + 1) ks
stands_next th g old new k i hs ks y within takes h put s =
    let at = derivative_of th.derivatives i within in
    let is = some_if_at (λ d. MakesDerivativeAt new g d (Ok y)) (slice_get th.derivatives i) at.0 at.1.there h in
    let made : IfSome (slice_get th.derivatives i) (λ d. MakesDerivative g d (Ok (shared_goal new y)))
    = if_some_at (λ d. MakesDerivative g d (Ok (shared_goal new y))) (slice_get th.derivatives i) at.0 at.1.there (is.1, is.2) in
    let T : List SharedGoal → Type 0 = AllByRecursion (IsGoalThere new) in
    let S : List Goal → Type 0 = StandsOnTerms th g (i + 1) in
    let seen : shared_goals old hs ++ shared_goal new y ∷ [] ≡ shared_goals new ks =
    ap (λ xs. xs ++ shared_goal new y ∷ []) (sym (shared_goals_later old new k hs s.there)) ∙ sym (map-append (shared_goal new) hs (y ∷ [])) ∙ ap (shared_goals new) (sym put) in
    record {
      there = subst T (sym put) (pushed new hs y (goals_there_later old new k hs s.there) is.0);
      so_far = subst S seen (stands_taken th g i (shared_goals old hs) (shared_goal new y) within takes made s.so_far);
    }

pub stands_over : (th : Theory) (g : Goal) (nodes : List Tree) (i : ℕ) (hs : List SharedGoal) → i < length th.derivatives
    → option_map_or (λ d. d.hole == sort_of g.left) (slice_get th.derivatives i) false ≡ false → Stands th g nodes i hs → Stands th g nodes (i + 1) hs
stands_over th g nodes i hs within passes s = record { there = s.there; so_far = stands_passed th g i (shared_goals nodes hs) within passes s.so_far }

-- ---- the state

-- a goal that is first goes behind the hypotheses, and others go last
pub derives : (th : Theory) (G : List Place) (H gs hs : List Goal) (g : Goal) → 0 < length gs → g ≡ get_or gs 0 g → IsHidden th (sort_of g.left)
    → first_cause g (derivatives_of th (sort_of g.left)) ≡ None → hs ≡ derivatives_on th g
    → StepOf th G Derive (state H gs) (state (H ++ g ∷ []) (drop 1 (gs ++ hs)))
derives th G H [] hs g h e hidden none made = absurd (omega (arith, h))
derives th G H (x ∷ gs) hs g h e hidden none made =
    let P : Goal → Type 0 = λ y. StepOf th G Derive (state H (y ∷ gs)) (state (H ++ g ∷ []) (gs ++ hs)) in
    subst P e (hidden, all_derivable g (derivatives_of th (sort_of g.left)) none, ap (λ ks. state (H ++ g ∷ []) (gs ++ ks)) made)

pub derived_state : (th : Theory) (G : List Place) (H gs hs : List Goal) (g q : Goal) (after : State) → 0 < length gs → g ≡ get_or gs 0 g → q ≡ g
    → IsHidden th (sort_of g.left) → first_cause q (derivatives_of th (sort_of q.left)) ≡ None → hs ≡ derivatives_on th q
    → after ≡ state (H ++ q ∷ []) (drop 1 (gs ++ hs)) → StepOf th G Derive (state H gs) after
derived_state th G H gs hs g q after h e same hidden none made is =
    let N : Goal → Type 0 = λ x. first_cause x (derivatives_of th (sort_of x.left)) ≡ None in
    let M : Goal → Type 0 = λ x. hs ≡ derivatives_on th x in
    subst (StepOf th G Derive (state H gs)) (sym (is ∙ ap (λ x. state (H ++ x ∷ []) (drop 1 (gs ++ hs))) same))
    (derives th G H gs hs g h e hidden (subst N same none) (subst M same made))

pub underived : (th : Theory) (G : List Place) (H gs : List Goal) (g : Goal) → g ≡ get_or gs 0 g
    → (IsHidden th (sort_of g.left) → first_cause g (derivatives_of th (sort_of g.left)) ≡ None → ⊥) → (b : State) → StepOf th G Derive (state H gs) b → ⊥
underived th G H [] g e never b s = absurd s
underived th G H (x ∷ gs) g e never b s =
    let P : Goal → Type 0 = λ y. IsHidden th (sort_of y.left) in
    let Q : Goal → Type 0 = λ y. first_cause y (derivatives_of th (sort_of y.left)) ≡ None in
    never (subst P (sym e) s.0) (subst Q (sym e) (no_first_cause x (derivatives_of th (sort_of x.left)) s.1))

module _ (old mid new : List Tree) (g : Grows old mid) (h : Grows mid new) (k : Grows old new) (a b : SharedState) (there : IsStateThere old a) (p : Pattern)
    (is : IsPattern mid p) (hs : List SharedGoal) (hyps : b.hyps.items ≡ a.hyps.items ++ p ∷ []) (put : b.goals.items ≡ drop 1 (a.goals.items ++ hs)) where
  both_patterns : (ps : List Pattern) → AllByRecursion (IsPattern new) ps → IsPattern new p → AllByRecursion (IsPattern new) (ps ++ p ∷ [])
  both_patterns [] x y = (y, tt)
  both_patterns (q ∷ ps) x y = (x.0, both_patterns ps x.1 y)

  dropped : (gs : List SharedGoal) → AllByRecursion (IsGoalThere new) gs → AllByRecursion (IsGoalThere new) (drop 1 gs)
  dropped gs x = rest_there new gs x

  pub moved_there : AllByRecursion (IsGoalThere new) hs → IsStateThere new b
  moved_there made = record {
    hypotheses = rw hyps (both_patterns a.hyps.items (patterns_later old new k a.hyps.items there.hypotheses) (patterns_later mid new h (p ∷ []) (is, tt)).0);
    goals = rw put (dropped (a.goals.items ++ hs) (all_both new a.goals.items hs (goals_there_later old new k a.goals.items there.goals) made));
  }

  drop_seen : (gs : List SharedGoal) → shared_goals new (drop 1 gs) ≡ drop 1 (shared_goals new gs)
  drop_seen [] = refl
  drop_seen (x ∷ gs) = refl

  pub moved_seen : state_at new b ≡ state (map (goal_at old) a.hyps.items ++ goal_at mid p ∷ []) (drop 1 (shared_goals old a.goals.items ++ shared_goals new hs))
  moved_seen =
      let H : List Goal = map (goal_at old) a.hyps.items ++ goal_at mid p ∷ [] in
      ap (λ ps. state (map (goal_at new) ps) (shared_goals new b.goals.items)) hyps
      ∙ ap (λ gs. state gs (shared_goals new b.goals.items)) (
      map-append (goal_at new) a.hyps.items (p ∷ [])
      ∙ ap (λ xs. xs ++ goal_at new p ∷ []) (goals_later old new k a.hyps.items there.hypotheses)
      ∙ ap (λ xs. map (goal_at old) a.hyps.items ++ xs) (goals_later mid new h (p ∷ []) (is, tt))
      )
      ∙ ap (λ gs. state H (shared_goals new gs)) put
      ∙ ap (state H) (
      drop_seen (a.goals.items ++ hs) ∙ ap (drop 1) (map-append (shared_goal new) a.goals.items hs)
      ∙ ap (λ xs. drop 1 (xs ++ shared_goals new hs)) (shared_goals_later old new k a.goals.items there.goals)
      )

-- the items are as before
module _ (old new : List Tree) (g : Grows old new) (a b : SharedState) (there : IsStateThere old a) (hyps : b.hyps.items ≡ a.hyps.items)
    (goals : b.goals.items ≡ a.goals.items) where
  pub kept_there : IsStateThere new b
  kept_there = record {
    hypotheses = rw hyps (patterns_later old new g a.hyps.items there.hypotheses);
    goals = rw goals (goals_there_later old new g a.goals.items there.goals);
  }

  pub kept_seen : state_at new b ≡ state_at old a
  kept_seen =
      ap (λ ps. state (map (goal_at new) ps) (shared_goals new b.goals.items)) hyps
      ∙ ap (λ H. state H (shared_goals new b.goals.items)) (goals_later old new g a.hyps.items there.hypotheses)
      ∙ ap (λ gs. state (map (goal_at old) a.hyps.items) (shared_goals new gs)) goals
      ∙ ap (state (map (goal_at old) a.hyps.items)) (shared_goals_later old new g a.goals.items there.goals)

-- a cause stands in the way, or memory ran out
pub refused : {E : Type 0} (th : Theory) (G : List Place) (H gs : List Goal) (g : Goal) (after : State) (e : DeriveFault) (r : Result Bool E) → g ≡ get_or gs 0 g
    → NamesCause e (first_cause g (derivatives_of th (sort_of g.left))) → after ≡ state H gs
    → IfOk r (λ b. (b ≡ false) × ((o : Option Cause) → NamesCause e o → o ≡ None → ⊥)) → IfOk r (Applies th G Derive (state H gs) after)
refused th G H gs g after e (Err x) first cause same h = tt
refused th G H gs g after e (Ok true) first cause same h = absurd (let never : true ≡ false = h.0 in cc)
refused th G H gs g after e (Ok false) first cause same h =
    (underived th G H gs g first (λ hidden none. h.1 (first_cause g (derivatives_of th (sort_of g.left))) cause none), same)

-- the goal of a pattern that is made of a shared goal
pub pattern_goal : (old mid : List Tree) (g : Grows old mid) (x : SharedGoal) (p : Pattern) → IsGoalThere old x → p.conds.items ≡ x.conds.items → p.sides ≡ x.sides
    → (shared_goal mid x ≡ shared_goal old x) → goal_at mid p ≡ shared_goal old x
pattern_goal old mid g x p there conds sides later =
    ap (λ ss. goal (pairs_at mid ss) (tree_at mid p.sides.left) (tree_at mid p.sides.right)) conds
    ∙ ap (λ s. goal (pairs_at mid x.conds.items) (tree_at mid s.left) (tree_at mid s.right)) sides ∙ later
