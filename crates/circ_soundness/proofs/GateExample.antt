-- The gate is well-formed, its proof fits and is accepted, and its steps fail where a condition is left out.
use Rattle.std.proofs.Common.{◌≡◌, ◌<◌, ◌≤◌, ℕ, List, [], ◌∷◌, zero, map, length, Some, inr, refl, sym, ◌∙◌, subst, arith}
use Rattle.std.specs.List.{AllByRecursion, Contains, slice_get}
use Rattle.std.proofs.lemmas.Option.{same_Some}
use Rattle.circ_term.specs.Tree.{Tree, sort_of}
use Rattle.circ_form.specs.declared.forms.Piece.TheVariants.{Word}
use Rattle.circ_theory.specs.Goal.{Equation}
use Rattle.circ_theory.specs.Goal.{Goal}
use Rattle.circ_form.specs.Form.{IsForm}
use Rattle.circ_theory.specs.Signature.{Operator, IsWellSorted}
use Rattle.circ_theory.specs.Theory.{Pair, pair_with, goal, goal_of, CaseList, Derivative, IsHidden, IsVisible, IsCondition, IsWellSortedGoal}
use Rattle.circ_theory.specs.Variables.{IsInOrder}
use Rattle.circ_theory.specs.Operators.{IsOperator}
use Rattle.circ_theory.specs.WellFormed.{IsWellFormed, IsDerivative, IsCaseList}
use Rattle.circ_theory.specs.Examples.{plain_op}
use Rattle.circ_theory.specs.Experiment.{Behaves}
use Rattle.circ_theory.specs.Rewriting.{named, by_terms}
use Rattle.circ_theory.proofs.Casing.{contains_first}
use Rattle.circ_theory.proofs.Linear.{distinct_by}
use Rattle.circ_proof.specs.Plain.{no_link, map_chains}
use Rattle.circ_proof.specs.Link.{setting, ConditionsLead}
use Rattle.circ_proof.specs.Rules.{State, state, map_step, Derive, StepOf, StepsOf}
use Rattle.circ_proof.specs.Proof.{Block, ProofFor, IsBlockFor}
use Rattle.circ_proof.specs.Accepted.{Accepted, Derives}
use Rattle.circ_proof.proofs.Members.{nothing, pick, all_of}
use Rattle.circ_soundness.specs.GateExample.{off, on, hd, tl, gate, x, s, head_derivative, if_x, gates, given_by, first_step, heads_step, tails_step}
use Rattle.circ_soundness.specs.GateExample.{last_step, through, gate_steps, gate_table, gate_names, lets_through}
use Rattle.circ_soundness.proofs.Sound.{goals_behave}

-- ---- the theory

abbrev IsTerm : Tree → Type 0
IsTerm t = IsWellSorted gates.signature t

x_sorted : IsTerm x
x_sorted = omega arith

s_sorted : IsTerm s
s_sorted = omega arith

on_sorted : IsTerm on
on_sorted = (_, refl, refl, tt)

off_sorted : IsTerm off
off_sorted = (_, refl, refl, tt)

hd_sorted : (t : Tree) → IsTerm t → sort_of t ≡ 1 → IsTerm (hd t)
hd_sorted t w e = (_, refl, refl, (e, w, tt))

tl_sorted : (t : Tree) → IsTerm t → sort_of t ≡ 1 → IsTerm (tl t)
tl_sorted t w e = (_, refl, refl, (e, w, tt))

gate_sorted : (t : Tree) → IsTerm t → sort_of t ≡ 1 → IsTerm (gate x t)
gate_sorted t w e = (_, refl, refl, (refl, x_sorted, (e, w, tt)))

stream_hidden : IsHidden gates 1
stream_hidden = record { derivative = head_derivative; listed = (zero, omega arith, refl); hole = refl }

bit_visible : IsVisible gates 0
bit_visible h =
    let one : h.derivative.hole ≡ 1 = all_of (λ (d : Derivative). d.hole ≡ 1) gates.derivatives h.derivative (refl, (refl, tt)) h.listed in
    let hole = h.hole in
    absurd (omega arith)

is_condition : (b : Tree) → IsTerm b → sort_of b ≡ 0 → (p : Pair) → Contains (if_x b) p → IsCondition gates p
is_condition b w e p c =
    pick (IsCondition gates) (pair_with x b) p [] (record { sorted = record { left = x_sorted; right = w; same_sort = e }; visible = bit_visible }) (λ d. nothing p d) c

whole_sorted : IsTerm (gate x s)
whole_sorted = gate_sorted s s_sorted refl

equations_sorted : AllByRecursion (λ (e : Equation). IsWellSortedGoal gates (goal_of e)) gates.equations
equations_sorted = (
  record {
    sorted = record { left = hd_sorted (gate x s) whole_sorted refl; right = hd_sorted s s_sorted refl; same_sort = refl };
    conds = is_condition on on_sorted refl;
  },
  (
    record {
      sorted = record { left = hd_sorted (gate x s) whole_sorted refl; right = off_sorted; same_sort = refl };
      conds = is_condition off off_sorted refl;
    },
    (
      record {
        sorted = record { left = tl_sorted (gate x s) whole_sorted refl; right = gate_sorted (tl s) (tl_sorted s s_sorted refl) refl; same_sort = refl };
        conds = λ p c. nothing p c;
      },
      tt,
    ),
  ),
)

equations_in_order : AllByRecursion (λ (e : Equation). IsInOrder (goal_of e)) gates.equations
equations_in_order = ((refl, (refl, tt)), ((refl, (refl, tt)), ((refl, (refl, tt)), tt)))

equations_few : AllByRecursion (λ (e : Equation). length e.conds ≤ 8) gates.equations
equations_few = (omega arith, (omega arith, (omega arith, tt)))

operator : (w args : List ℕ) (r : ℕ) → IsForm (Word w ∷ []) → r < 2 → AllByRecursion (λ j. j < 2) args → length args ≤ 2
    → IsOperator gates.signature (plain_op w args r)
operator w args r i l a few = record {
  is_form = i;
  args = λ j c. all_of (λ k. k < 2) args j a c;
  result = l;
  few = omega (arith, few);
  fits = refl;
  marked = λ e. absurd (cc);
}

operators_fine : AllByRecursion (IsOperator gates.signature) gates.signature.ops
operators_fine = (
  operator _ [] 0 (record { cut = refl; sound = refl }) (omega arith) tt (omega arith),
  (
    operator _ [] 0 (record { cut = refl; sound = refl }) (omega arith) tt (omega arith),
    (
      operator _ (1 ∷ []) 0 (record { cut = refl; sound = refl }) (omega arith) (omega arith, tt) (omega arith),
      (
        operator _ (1 ∷ []) 1 (record { cut = refl; sound = refl }) (omega arith) (omega arith, tt) (omega arith),
        (operator _ (0 ∷ 1 ∷ []) 1 (record { cut = refl; sound = refl }) (omega arith) (omega arith, (omega arith, tt)) (omega arith), tt),
      ),
    ),
  ),
)

derivatives_fine : AllByRecursion (IsDerivative gates.signature) gates.derivatives
derivatives_fine = (
  record { hole = omega arith; body = (_, refl, refl, (refl, omega arith, tt)); one_hole = refl; numbered = tt; few = omega arith },
  (record { hole = omega arith; body = (_, refl, refl, (refl, omega arith, tt)); one_hole = refl; numbered = tt; few = omega arith }, tt),
)

abbrev bits : CaseList
bits = record { sort = 0; constants = 0 ∷ 1 ∷ [] }

abbrev IsBit : ℕ → Type 0
IsBit c = (o : Operator) × ((slice_get gates.signature.ops c ≡ Some o) × (o.args ≡ []) × (o.result ≡ 0))

bits_fine : IsCaseList gates bits
bits_fine = record {
  sort = omega arith;
  visible = bit_visible;
  some = λ e. cc e;
  different = distinct_by (0 ∷ 1 ∷ []) refl;
  constants = λ c k. all_of IsBit (0 ∷ 1 ∷ []) c ((_, (refl, refl, refl)), ((_, (refl, refl, refl)), tt)) k;
  few = omega arith;
}

pub gates_well_formed : IsWellFormed gates
gates_well_formed = record {
  equations = λ e c. all_of (λ d. IsWellSortedGoal gates (goal_of d)) gates.equations e equations_sorted c;
  in_order = λ e c. all_of (λ d. IsInOrder (goal_of d)) gates.equations e equations_in_order c;
  few_conds = λ e c. all_of (λ (d : Equation). length d.conds ≤ 8) gates.equations e equations_few c;
  variables = λ d c. absurd (omega (arith, c.1));
  operators = λ o c. all_of (IsOperator gates.signature) gates.signature.ops o operators_fine c;
  derivatives = λ d c. all_of (IsDerivative gates.signature) gates.derivatives d derivatives_fine c;
  cases = λ l c. pick (IsCaseList gates) bits l [] bits_fine (λ d. nothing l d) c;
  one_list = distinct_by (0 ∷ []) refl;
  few_sorts = omega arith;
  few_variables = omega arith;
  few_ops = omega arith;
  few_equations = omega arith;
  few_derivatives = omega arith;
}

-- ---- the steps

abbrev assumed : Goal
assumed = goal (if_x on) (gate on s) s

abbrev heads : Goal
heads = goal (if_x on) (hd (gate on s)) (hd s)

abbrev tails : Goal
tails = goal (if_x on) (tl (gate on s)) (tl s)

simplifies : StepOf gates [] (map_step (named gate_table) first_step) (state [] (through ∷ [])) (state [] (assumed ∷ []))
simplifies = (
  pair_with (gate on s) s,
  record {
    left = (gate on s, record { assumed = pair_with x on; listed = refl; replaces = record { there = refl; made = refl; within = refl } }, refl);
    right = refl;
  },
  refl,
)

derives : StepOf gates [] Derive (state [] (assumed ∷ [])) (state (assumed ∷ []) (heads ∷ tails ∷ []))
derives = (
  stream_hidden,
  (record { numbers = omega arith; left = refl; right = refl }, (record { numbers = omega arith; left = refl; right = refl }, tt)),
  refl,
)

heads_hold : StepOf gates [] (map_step (named gate_table) heads_step) (state (assumed ∷ []) (heads ∷ tails ∷ [])) (state (assumed ∷ []) (tails ∷ []))
heads_hold = (
  (
    hd s,
    record {
      left = (
        hd s,
        (
          record { equation = _; listed = refl; rewrites = record { fit = (refl, (refl, tt)); replaces = record { there = refl; made = refl; within = refl } } },
          (refl, refl, (on, refl, refl), tt),
        ),
        refl,
      );
      right = refl;
    },
  ),
  refl,
)

tails_hold : StepOf gates [] (map_step (named gate_table) last_step) (state (assumed ∷ []) (tails ∷ [])) (state (assumed ∷ []) [])
tails_hold = (
  (
    tl s,
    record {
      left = (
        gate on (tl s),
        (record { equation = _; listed = refl; rewrites = record { fit = (refl, (refl, tt)); replaces = record { there = refl; made = refl; within = refl } } }, tt),
        (
          tl s,
          (
            record {
              hypothesis = assumed;
              listed = refl;
              rewrites = record { fit = (refl, (refl, tt)); replaces = record { there = refl; made = refl; within = refl } };
              special = λ h. tt;
            },
            (
              refl,
              refl,
              (on, (on, record { assumed = pair_with x on; listed = refl; replaces = record { there = refl; made = refl; within = refl } }, refl), refl),
              tt,
            ),
          ),
          refl,
        ),
      );
      right = refl;
    },
  ),
  refl,
)

run : StepsOf gates [] (map (map_step (named gate_table)) gate_steps) (state [] (through ∷ [])) (state (assumed ∷ []) [])
run = (
  state [] (assumed ∷ []),
  simplifies,
  (
    state (assumed ∷ []) (heads ∷ tails ∷ []),
    derives,
    (state (assumed ∷ []) (tails ∷ []), heads_hold, (state (assumed ∷ []) [], tails_hold, (state (assumed ∷ []) [], refl, refl))),
  ),
)

gate_derives : Derives gates lets_through ((assumed ∷ []) ∷ [])
gate_derives = record { admissible = tt; blocks = (run, tt) }

pub gate_accepted : Accepted gates lets_through
gate_accepted = ((assumed ∷ []) ∷ [], gate_derives)

-- ---- without a condition

pub not_without_given : (b : State) → StepOf gates [] (map_step (named gate_table) first_step) (state [] (goal [] (gate x s) s ∷ [])) b → ⊥
not_without_given b r = let none = r.1.left.1.listed in cc

pub not_without_condition : (b : State) → StepOf gates [] (map_step (named gate_table) (tails_step no_link)) (state (assumed ∷ []) (tails ∷ [])) b → ⊥
not_without_condition b r =
    let chain = r.0.1.left.2.1 in
    let c = setting gates [] (assumed ∷ []) (if_x on) in
    let same : chain.0.hypothesis ≡ assumed = same_Some chain.0.hypothesis assumed (sym chain.0.listed) in
    let P : Goal → Type 0 = λ y. ConditionsLead c (by_terms y (x ∷ tl s ∷ [])) y.conds (map_chains (named gate_table) (given_by no_link)) in
    let held = subst P same chain.1 in
    let one : x ≡ on = held.2.1 ∙ sym held.2.2 in
    cc

-- ---- the proof fits

block_fits : AllByRecursion (IsBlockFor gates lets_through.table) lets_through.blocks
block_fits = (
  record {
    some_goal = λ e. cc e;
    names = (
      record {
        left = omega arith;
        right = omega arith;
        same_sort = refl;
        conds = (record { left = omega arith; right = omega arith; same_sort = refl; visible = bit_visible }, tt);
        few_conds = omega arith;
      },
      tt,
    );
    goals = refl;
    steps = (
      (((omega arith, (omega arith, (omega arith, tt))), tt), tt),
      (
        tt,
        (
          (((omega arith, (omega arith, tt), (omega arith, (omega arith, tt)), (omega arith, tt, tt, tt)), tt), tt),
          (
            (
              (
                (omega arith, (omega arith, tt), (omega arith, (omega arith, tt)), tt),
                ((omega arith, (omega arith, tt), (omega arith, (omega arith, tt)), (omega arith, ((omega arith, (omega arith, tt)), tt), tt, tt)), tt),
              ),
              tt,
            ),
            (tt, tt),
          ),
        ),
      ),
    );
    ended = ((λ e. cc e), ((λ e. cc e), ((λ e. cc e), ((λ e. cc e), refl))));
  },
  tt,
)

pub gate_fits : ProofFor gates lets_through
gate_fits = record {
  version = inr refl;
  sorted = (x_sorted, (s_sorted, (whole_sorted, (on_sorted, (tl_sorted s s_sorted refl, tt)))));
  within = (refl, (refl, (refl, (refl, (refl, tt)))));
  entries = (omega arith, (omega arith, ((refl, (refl, tt)), (tt, ((refl, tt), tt)))));
  short_table = omega arith;
  places = record { increasing = tt; places = tt };
  one_each = refl;
  certificates = tt;
  some_block = λ e. cc e;
  blocks = block_fits;
  few_steps = omega arith;
}

-- so the gate lets the stream through where the bit is 1
pub gate_behaves : Behaves gates through
gate_behaves =
    let b : Block = record { goals = through ∷ []; names = gate_names ∷ []; steps = gate_steps } in
    goals_behave gates gates_well_formed lets_through gate_fits ((assumed ∷ []) ∷ []) gate_derives b (contains_first b []) through (contains_first through [])
