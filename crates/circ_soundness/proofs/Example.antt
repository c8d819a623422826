-- The example is well-formed, its proof fits and is accepted.
use Rattle.std.proofs.Common.{◌≡◌, ◌<◌, ◌≤◌, ℕ, length, List, [], ◌∷◌, zero, suc, map, Some, inl, inr, refl, sym, subst, arith}
use Rattle.std.specs.List.{AllByRecursion, Contains, slice_get}
use Rattle.std.proofs.lemmas.Option.{same_Some}
use Rattle.circ_term.specs.Tree.{Tree, Var, App, sort_of}
use Rattle.circ_term.specs.Substitution.{Substitution, instance}
use Rattle.circ_term.proofs.Paths.{nowhere}
use Rattle.circ_form.specs.declared.forms.Piece.TheVariants.{Word}
use Rattle.circ_form.specs.Form.{IsForm}
use Rattle.circ_theory.specs.Signature.{IsWellSorted}
use Rattle.circ_theory.specs.Theory.{Pair, goal, goal_of, Derivative, IsHidden, IsVisible, IsWellSortedGoal}
use Rattle.circ_theory.specs.Variables.{IsInOrder, variables_of, sorted, FitVariables, given}
use Rattle.circ_theory.specs.Operators.{IsOperator}
use Rattle.circ_theory.specs.WellFormed.{IsWellFormed, IsDerivative}
use Rattle.circ_theory.specs.Examples.{plain_op}
use Rattle.circ_theory.specs.Experiment.{Behaves}
use Rattle.circ_theory.specs.Goal.{Equation}
use Rattle.circ_theory.specs.Goal.{Goal}
use Rattle.circ_theory.specs.Rewriting.{named, Replaces}
use Rattle.circ_theory.proofs.Casing.{contains_first}
use Rattle.circ_theory.proofs.Linear.{distinct_by}
use Rattle.circ_special.specs.Special.{place, IsPlace, IsSpecial}
use Rattle.circ_special.specs.declared.place.Place.{Place}
use Rattle.circ_special.specs.Guarded.{IsInstanceAt, by_visible, by_hidden, Guarded}
use Rattle.circ_proof.specs.Plain.{map_link, Hypothesis_link, no_chain, Same_why}
use Rattle.circ_proof.specs.Link.{setting, Leads, ConditionsLead}
use Rattle.circ_proof.specs.Rules.{State, state, map_step, Reduce, Derive, StepOf, StepsOf}
use Rattle.circ_proof.specs.Certified.{Certified}
use Rattle.circ_proof.specs.Proof.{Block, ProofFor, IsBlockFor, IsPlain}
use Rattle.circ_proof.specs.Accepted.{Accepted, Derives, FirstFail}
use Rattle.circ_theory.specs.declared.way.Way.TheVariants.{Forth}
use Rattle.circ_soundness.specs.Example.{hd, tl, g, f, k, x, head_derivative, tail_derivative, twins, by, chain_of, steps, names, first, second, twins_alike, twins_bare}
use Rattle.circ_proof.proofs.Members.{nothing, all_of}
use Rattle.circ_soundness.proofs.Sound.{goals_behave}

-- ---- the theory

abbrev IsTerm : Tree → Type 0
IsTerm t = IsWellSorted twins.signature t

x_sorted : IsTerm x
x_sorted = omega arith

hd_sorted : (t : Tree) → IsTerm t → sort_of t ≡ 1 → IsTerm (hd t)
hd_sorted t w e = (_, refl, refl, (e, w, tt))

tl_sorted : (t : Tree) → IsTerm t → sort_of t ≡ 1 → IsTerm (tl t)
tl_sorted t w e = (_, refl, refl, (e, w, tt))

g_sorted : (t : Tree) → IsTerm t → sort_of t ≡ 1 → IsTerm (g t)
g_sorted t w e = (_, refl, refl, (e, w, tt))

f_sorted : (t : Tree) → IsTerm t → sort_of t ≡ 1 → IsTerm (f t)
f_sorted t w e = (_, refl, refl, (e, w, tt))

k_sorted : (t : Tree) → IsTerm t → sort_of t ≡ 1 → IsTerm (k t)
k_sorted t w e = (_, refl, refl, (e, w, tt))

head_sorted : IsTerm (hd x)
head_sorted = hd_sorted x x_sorted refl

tail_sorted : IsTerm (tl x)
tail_sorted = tl_sorted x x_sorted refl

-- an equation that keeps the head
keeps_head : (t : Tree) → IsTerm t → sort_of t ≡ 1 → IsWellSortedGoal twins (goal [] (hd t) (hd x))
keeps_head t w e = record { sorted = record { left = hd_sorted t w e; right = head_sorted; same_sort = refl }; conds = λ p c. nothing p c }

-- an equation for the tail
gives_tail : (t u : Tree) → IsTerm t → sort_of t ≡ 1 → IsTerm u → sort_of u ≡ 1 → IsWellSortedGoal twins (goal [] (tl t) (g u))
gives_tail t u w e v d = record { sorted = record { left = tl_sorted t w e; right = g_sorted u v d; same_sort = refl }; conds = λ p c. nothing p c }

equations_sorted : AllByRecursion (λ (e : Equation). IsWellSortedGoal twins (goal_of e)) twins.equations
equations_sorted = (
  keeps_head (g x) (g_sorted x x_sorted refl) refl,
  (
    gives_tail (g x) (tl x) (g_sorted x x_sorted refl) refl tail_sorted refl,
    (
      keeps_head (f x) (f_sorted x x_sorted refl) refl,
      (
        gives_tail (f x) (f (tl x)) (f_sorted x x_sorted refl) refl (f_sorted (tl x) tail_sorted refl) refl,
        (
          keeps_head (k x) (k_sorted x x_sorted refl) refl,
          (gives_tail (k x) (k (tl x)) (k_sorted x x_sorted refl) refl (k_sorted (tl x) tail_sorted refl) refl, tt),
        ),
      ),
    ),
  ),
)

equations_few : AllByRecursion (λ (e : Equation). length e.conds ≤ 8) twins.equations
equations_few = (omega arith, (omega arith, (omega arith, (omega arith, (omega arith, (omega arith, tt))))))

equations_in_order : AllByRecursion (λ (e : Equation). IsInOrder (goal_of e)) twins.equations
equations_in_order = ((refl, tt), ((refl, tt), ((refl, tt), ((refl, tt), ((refl, tt), ((refl, tt), tt))))))

operator : (w : List ℕ) (r : ℕ) → IsForm (Word w ∷ []) → r < 2 → IsOperator twins.signature (plain_op w (1 ∷ []) r)
operator w r i l = record {
  is_form = i;
  args = λ s c. all_of (λ j. j < 2) (1 ∷ []) s (omega arith, tt) c;
  result = l;
  few = omega arith;
  fits = refl;
  marked = λ e. absurd (cc);
}

operators_fine : AllByRecursion (IsOperator twins.signature) twins.signature.ops
operators_fine = (
  operator _ 0 (record { cut = refl; sound = refl }) (omega arith),
  (
    operator _ 1 (record { cut = refl; sound = refl }) (omega arith),
    (
      operator _ 1 (record { cut = refl; sound = refl }) (omega arith),
      (
        operator _ 1 (record { cut = refl; sound = refl }) (omega arith),
        (operator _ 1 (record { cut = refl; sound = refl }) (omega arith), tt),
      ),
    ),
  ),
)

derivatives_fine : AllByRecursion (IsDerivative twins.signature) twins.derivatives
derivatives_fine = (
  record { hole = omega arith; body = head_sorted; one_hole = refl; numbered = tt; few = omega arith },
  (record { hole = omega arith; body = tail_sorted; one_hole = refl; numbered = tt; few = omega arith }, tt),
)

pub well_formed : IsWellFormed twins
well_formed = record {
  equations = λ e c. all_of (λ d. IsWellSortedGoal twins (goal_of d)) twins.equations e equations_sorted c;
  in_order = λ e c. all_of (λ d. IsInOrder (goal_of d)) twins.equations e equations_in_order c;
  few_conds = λ e c. all_of (λ (d : Equation). length d.conds ≤ 8) twins.equations e equations_few c;
  variables = λ d c. absurd (omega (arith, c.1));
  operators = λ o c. all_of (IsOperator twins.signature) twins.signature.ops o operators_fine c;
  derivatives = λ d c. all_of (IsDerivative twins.signature) twins.derivatives d derivatives_fine c;
  cases = λ l c. absurd (omega (arith, c.1));
  one_list = distinct_by [] refl;
  few_sorts = omega arith;
  few_variables = omega arith;
  few_ops = omega arith;
  few_equations = omega arith;
  few_derivatives = omega arith;
}

-- ---- the place of g

has_head : Contains twins.derivatives head_derivative
has_head = (zero, omega arith, refl)

has_tail : Contains twins.derivatives tail_derivative
has_tail = (suc zero, omega arith, refl)

stream_hidden : IsHidden twins 1
stream_hidden = record { derivative = head_derivative; listed = has_head; hole = refl }

bit_visible : IsVisible twins 0
bit_visible h =
    let one : h.derivative.hole ≡ 1 = all_of (λ (d : Derivative). d.hole ≡ 1) twins.derivatives h.derivative (refl, (refl, tt)) h.listed in
    let hole = h.hole in
    absurd (omega arith)

is_place : IsPlace twins (place 2 0)
is_place = record { operator = _; sort = 1; listed = refl; argument = refl; hidden = stream_hidden; hidden_argument = stream_hidden }

-- in hd(x) the variable is the hole of hd, which is visible
head_guarded : Guarded twins twins_alike.places (hd x) 0 1
head_guarded [] e = absurd (let same : hd x ≡ Var 0 1 = same_Some (hd x) (Var 0 1) e in cc)
head_guarded (zero ∷ []) e =
    let i : IsInstanceAt twins (hd x) 0 1 head_derivative [] (0 ∷ []) =
    record { listed = has_head; sort = refl; hole = refl; parameters = Var; keeps_sorts = λ n s. refl; there = refl } in
    by_visible head_derivative [] (0 ∷ []) refl i bit_visible
head_guarded (zero ∷ i ∷ p) e = nowhere p (Var 0 1) e
head_guarded (suc n ∷ p) e = nowhere p (Var 0 1) e

-- in g(tl(x)) it is the hole of tl, which stands at the place of g
tail_guarded : Guarded twins twins_alike.places (g (tl x)) 0 1
tail_guarded [] e = absurd (let same : g (tl x) ≡ Var 0 1 = same_Some (g (tl x)) (Var 0 1) e in cc)
tail_guarded (zero ∷ []) e = absurd (let same : tl x ≡ Var 0 1 = same_Some (tl x) (Var 0 1) e in cc)
tail_guarded (zero ∷ zero ∷ []) e =
    let i : IsInstanceAt twins (g (tl x)) 0 1 tail_derivative (0 ∷ []) (0 ∷ []) =
    record { listed = has_tail; sort = refl; hole = refl; parameters = Var; keeps_sorts = λ n s. refl; there = refl } in
    by_hidden tail_derivative (0 ∷ []) (0 ∷ []) refl i stream_hidden (contains_first (place 2 0) [], tl x, refl, tt)
tail_guarded (zero ∷ zero ∷ i ∷ p) e = nowhere p (Var 0 1) e
tail_guarded (zero ∷ suc n ∷ p) e = nowhere p (Var 0 1) e
tail_guarded (suc n ∷ p) e = nowhere p (Var 0 1) e

-- x for the equation's one variable
abbrev for_x : Equation → Substitution
for_x e = given (sorted (variables_of (goal_of e))) (x ∷ [])

-- an equation that leads from t to u at the root, for x, whatever the special set is
equation_leads : (G : List Place) (H : List Goal) (number : ℕ) (e : Equation) (t u : Tree) → slice_get twins.equations number ≡ Some e → e.conds ≡ []
    → FitVariables (sorted (variables_of (goal_of e))) (x ∷ [])
    → Replaces t [] (instance (for_x e) e.left) (instance (for_x e) e.right) u
    → Leads (setting twins G H []) (map_link (named twins_alike.table) (by number)) t u
equation_leads G H number e t u l c f r =
    let P : List Pair → Type 0 = λ E. ConditionsLead (setting twins G H []) (for_x e) E no_chain in
    (record { equation = e; listed = l; rewrites = record { fit = f; replaces = r } }, subst P (sym c) tt)

head_certified : Certified twins twins_alike.places (place 2 0) head_derivative (map_link (named twins_alike.table) (by 0) ∷ [])
unfolding is_place
head_certified = record {
  place = is_place;
  within = refl;
  last = hd x;
  leads = (hd x, equation_leads twins_alike.places [] 0 _ (hd (g x)) (hd x) refl refl (refl, tt) (record { there = refl; made = refl; within = refl }), refl);
  guarded = head_guarded;
}

tail_certified : Certified twins twins_alike.places (place 2 0) tail_derivative (map_link (named twins_alike.table) (by 1) ∷ [])
unfolding is_place
tail_certified = record {
  place = is_place;
  within = refl;
  last = g (tl x);
  leads = (g (tl x), equation_leads twins_alike.places [] 1 _ (tl (g x)) (g (tl x)) refl refl (refl, tt) (record { there = refl; made = refl; within = refl }), refl);
  guarded = tail_guarded;
}

-- ---- the steps

abbrev start : Goal
start = goal [] first second

abbrev heads : Goal
heads = goal [] (hd (f x)) (hd (k x))

abbrev tails : Goal
tails = goal [] (tl (f x)) (tl (k x))

run : StepsOf twins twins_alike.places (map (map_step (named twins_alike.table)) steps) (state [] (start ∷ [])) (state (start ∷ []) [])
run = (
  state (start ∷ []) (heads ∷ tails ∷ []),
  (stream_hidden, (record { numbers = omega arith; left = refl; right = refl }, (record { numbers = omega arith; left = refl; right = refl }, tt)), refl),
  (
    state (start ∷ []) (tails ∷ []),
    (
      (
        hd x,
        record {
          left = (hd x, equation_leads twins_alike.places (start ∷ []) 2 _ (hd (f x)) (hd x) refl refl (refl, tt) (record { there = refl; made = refl; within = refl }), refl);
          right = (hd x, equation_leads twins_alike.places (start ∷ []) 4 _ (hd (k x)) (hd x) refl refl (refl, tt) (record { there = refl; made = refl; within = refl }), refl);
        },
      ),
      refl,
    ),
    (
      state (start ∷ []) [],
      (
        (
          g (k (tl x)),
          record {
            left = (
              g (f (tl x)),
              equation_leads twins_alike.places (start ∷ []) 3 _ (tl (f x)) (g (f (tl x))) refl refl (refl, tt) (record { there = refl; made = refl; within = refl }),
              (
                g (k (tl x)),
                (
                  record {
                    hypothesis = start;
                    listed = refl;
                    rewrites = record { fit = (refl, tt); replaces = record { there = refl; made = refl; within = refl } };
                    special = λ h. (contains_first (place 2 0) [], f (tl x), refl, tt);
                  },
                  tt,
                ),
                refl,
              ),
            );
            right = (
              g (k (tl x)),
              equation_leads twins_alike.places (start ∷ []) 5 _ (tl (k x)) (g (k (tl x))) refl refl (refl, tt) (record { there = refl; made = refl; within = refl }),
              refl,
            );
          },
        ),
        refl,
      ),
      (state (start ∷ []) [], refl, refl),
    ),
  ),
)

pub derives : Derives twins twins_alike ((start ∷ []) ∷ [])
derives = record { admissible = (head_certified, (tail_certified, tt)); blocks = (run, tt) }

pub accepted : Accepted twins twins_alike
accepted = ((start ∷ []) ∷ [], derives)

-- ---- without the place

no_place : (t : Tree) (i : ℕ) (p : List ℕ) → IsSpecial [] t (i ∷ p) → ⊥
no_place (Var n s) i p h = h
no_place (App o s ts) i p h = omega (arith, h.0.1)

-- the hypothesis is of streams, so it cannot be used at argument 0
stuck : (t u : Tree) → Leads (setting twins [] (start ∷ []) []) (Hypothesis_link 0 Forth (0 ∷ []) (tl x ∷ []) no_chain) t u → ⊥
stuck t u l =
    let P : Goal → Type 0 = λ h. IsHidden twins (sort_of h.left) in
    no_place t 0 [] (l.0.special (subst P (same_Some start l.0.hypothesis l.0.listed) stream_hidden))

pub needed : FirstFail twins twins_bare 3
needed = inr (tt, 3, refl, inl (inr (state (start ∷ []) (heads ∷ tails ∷ []), derived, 2, refl, inr (state (start ∷ []) (tails ∷ []), reduced, 1, refl, inl (refl, fails)))))
  where
    derived : StepOf twins [] Derive (state [] (start ∷ [])) (state (start ∷ []) (heads ∷ tails ∷ []))
    derived = (
      stream_hidden,
      (record { numbers = omega arith; left = refl; right = refl }, (record { numbers = omega arith; left = refl; right = refl }, tt)),
      refl,
    )

    reduced : StepOf twins [] (map_step (named twins_bare.table) (Reduce (Same_why (chain_of (by 2 ∷ []) (by 4 ∷ []))))) (state (start ∷ []) (heads ∷ tails ∷ []))
        (state (start ∷ []) (tails ∷ []))
    reduced = (
      (
        hd x,
        record {
          left = (hd x, equation_leads [] (start ∷ []) 2 _ (hd (f x)) (hd x) refl refl (refl, tt) (record { there = refl; made = refl; within = refl }), refl);
          right = (hd x, equation_leads [] (start ∷ []) 4 _ (hd (k x)) (hd x) refl refl (refl, tt) (record { there = refl; made = refl; within = refl }), refl);
        },
      ),
      refl,
    )

    fails : (b : State)
        → StepOf twins [] (map_step (named twins_bare.table)
        (Reduce (Same_why (chain_of (by 3 ∷ Hypothesis_link 0 Forth (0 ∷ []) (1 ∷ []) no_chain ∷ []) (by 5 ∷ []))))) (state (start ∷ []) (tails ∷ [])) b → ⊥
    fails b r = stuck r.0.1.left.0 r.0.1.left.2.0 r.0.1.left.2.1

-- ---- the proof fits

block_fits : AllByRecursion (IsBlockFor twins twins_alike.table) twins_alike.blocks
block_fits = (
  record {
    some_goal = λ e. cc e;
    names = (record { left = omega arith; right = omega arith; same_sort = refl; conds = tt; few_conds = omega arith }, tt);
    goals = refl;
    steps = (
      tt,
      (
        (((omega arith, (omega arith, tt), (omega arith, tt), tt), tt), ((omega arith, (omega arith, tt), (omega arith, tt), tt), tt)),
        (
          (
            ((omega arith, (omega arith, tt), (omega arith, tt), tt), ((omega arith, (omega arith, (omega arith, tt)), (omega arith, tt), tt), tt)),
            ((omega arith, (omega arith, tt), (omega arith, tt), tt), tt),
          ),
          (tt, tt),
        ),
      ),
    );
    ended = ((λ e. cc e), ((λ e. cc e), ((λ e. cc e), refl)));
  },
  tt,
)

plain : IsPlain twins_alike
plain = record {
  certificates = ((refl, tt), ((refl, tt), tt));
  blocks = (record { names = (refl, tt); steps = (tt, (((refl, tt), (refl, tt)), (((refl, (refl, tt)), (refl, tt)), (tt, tt)))) }, tt);
}

pub fits : ProofFor twins twins_alike
fits = record {
  version = inl (refl, plain);
  sorted = (x_sorted, (tail_sorted, (f_sorted x x_sorted refl, (k_sorted x x_sorted refl, tt))));
  within = (refl, (refl, (refl, (refl, tt))));
  entries = (omega arith, ((refl, tt), ((refl, tt), ((refl, tt), tt))));
  short_table = omega arith;
  places = record { increasing = tt; places = (is_place, tt) };
  one_each = refl;
  certificates = (((omega arith, (omega arith, tt), (omega arith, tt), tt), tt), (((omega arith, (omega arith, tt), (omega arith, tt), tt), tt), tt));
  some_block = λ e. cc e;
  blocks = block_fits;
  few_steps = omega arith;
}

-- so the two streams behave alike
pub same_behaviour : Behaves twins start
same_behaviour =
    let b : Block = record { goals = start ∷ []; names = names ∷ []; steps = steps } in
    goals_behave twins well_formed twins_alike fits ((start ∷ []) ∷ []) derives b (contains_first b []) start (contains_first start [])
