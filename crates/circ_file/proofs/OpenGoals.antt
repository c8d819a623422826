-- A condition of the last goal.
use Rattle.std.specs.Prelude.{◌≡◌, ℕ, Bool, true, false, List, [], ◌∷◌, ◌++◌, map, Option, Some, None, refl}
use Rattle.std.specs.Option.{option_map}
use Rattle.std.proofs.Common.{sym, ◌∙◌, ap, append-nil, Vec, Global}
use Rattle.std.proofs.lemmas.List.{map_push}
use Rattle.circ_term.specs.Tree.{Tree}
use Rattle.circ_theory.specs.Pair.{Pair}
use Rattle.circ_theory.specs.Theory.{goal}
use Rattle.circ_theory.specs.Rewriting.{named}
use Rattle.circ_theory.specs.Goal.{Goal}
use Rattle.circ_proof.specs.PlainProof.{plain_names}
use Rattle.circ_proof.specs.Proof.{GoalNames, pair_at, goal_at}
use Rattle.circ_proof.specs.declared.proof.GoalNames.{GoalNames as TheNames}
use Rattle.circ_line.specs.Line.{given_line}
use Rattle.circ_grammar.specs.Machine.{add_given, with_given}
use Rattle.circ_grammar.specs.Now.{Opened, next_given}
use Rattle.circ_file.specs.Givens.{with_pair, add_pair, Gives}
use Rattle.circ_file.specs.View.{now_at, now_of, queue_of, IsMachineOf, IsMachineAt, Moves}
use Rattle.circ_file.specs.declared.machine.Mode.{Mode}
use Rattle.circ_file.specs.declared.machine.Mode.TheVariants as mode
use Rattle.circ_file.specs.declared.machine.Machine.{Machine}

-- ---- the last of a list

last_pair : (front : List Goal) (g : Goal) (q : Pair) → add_pair (front ++ g ∷ []) q ≡ Some (front ++ with_pair g q ∷ [])
last_pair [] g q = refl
last_pair (x ∷ []) g q = refl
last_pair (x ∷ y ∷ front) g q = ap (option_map (λ r. x ∷ r)) (last_pair (y ∷ front) g q)

last_given : (front : List GoalNames) (g : GoalNames) (p : ℕ × ℕ) → add_given (front ++ g ∷ []) p ≡ Some (front ++ with_given g p ∷ [])
last_given [] g p = refl
last_given (x ∷ []) g p = refl
last_given (x ∷ y ∷ front) g p = ap (option_map (λ r. x ∷ r)) (last_given (y ∷ front) g p)

pub pair_given : (old front new : List Goal) (g : Goal) (q : Pair) (cs : List Pair) → old ≡ front ++ g ∷ [] → cs ≡ g.conds ++ q ∷ []
    → new ≡ front ++ record g { conds = cs } ∷ [] → add_pair old q ≡ Some new
pair_given old front new g q cs e c n =
    ap (λ x. add_pair x q) e ∙ last_pair front g q ∙ ap (λ x. Some (front ++ record g { conds = x } ∷ [])) (sym c) ∙ ap (λ x. Some x) (sym n)

pub names_given : (old front new : List TheNames) (n : TheNames) (p : ℕ × ℕ) (v : Vec (ℕ × ℕ) Global) → old ≡ front ++ n ∷ []
    → v.items ≡ n.conds.items ++ p ∷ [] → new ≡ front ++ record n { conds = v } ∷ [] → add_given (map plain_names old) p ≡ Some (map plain_names new)
names_given old front new n p v e c m =
    let fronts : List GoalNames = map plain_names front in
    let named_more : plain_names (record n { conds = v }) ≡ with_given (plain_names n) p = ap (λ x. record (plain_names n) { conds = x }) c in
    let new_names : map plain_names new ≡ fronts ++ with_given (plain_names n) p ∷ []
    = ap (map plain_names) m ∙ map_push plain_names front (record n { conds = v }) ∙ ap (λ x. fronts ++ x ∷ []) named_more in
    ap (λ x. add_given x p) (ap (map plain_names) e ∙ map_push plain_names front n) ∙ last_given fronts (plain_names n) p
    ∙ ap (λ x. Some x) (sym new_names)

-- ---- the goals of their numbers

-- the terms of a goal with a condition more
with_pair_at : (ts : List Tree) (n : GoalNames) (p : ℕ × ℕ) → with_pair (goal_at ts n) (pair_at ts p) ≡ goal_at ts (with_given n p)
with_pair_at ts n p = ap (λ x. goal x (named ts n.left) (named ts n.right)) (sym (map_push (pair_at ts) n.conds p))

pairs_given : (ts : List Tree) (ns : List GoalNames) (p : ℕ × ℕ) → add_pair (map (goal_at ts) ns) (pair_at ts p) ≡ option_map (map (goal_at ts)) (add_given ns p)
pairs_given ts [] p = refl
pairs_given ts (n ∷ []) p = ap (λ g. Some (g ∷ [])) (with_pair_at ts n p)
pairs_given ts (n ∷ m ∷ ns) p = ap (option_map (λ r. goal_at ts n ∷ r)) (pairs_given ts (m ∷ ns) p) ∙ both (add_given (m ∷ ns) p)
  where
    both : (o : Option (List GoalNames)) → option_map (λ r. goal_at ts n ∷ r) (option_map (map (goal_at ts)) o) ≡ option_map (map (goal_at ts)) (option_map (λ r. n ∷ r) o)
    both None = refl
    both (Some r) = refl

kept_opened : (k : Mode) (ts : List Tree) (m : Machine) → k ≡ mode.Opened → IsMachineAt k ts m → m.goals.items ≡ map (goal_at ts) (map plain_names m.names.items)
kept_opened mode.Opened ts m e h = h
kept_opened _ ts m e h = absurd (cc)

opened_kept : (k : Mode) (ts : List Tree) (m : Machine) → k ≡ mode.Opened → m.goals.items ≡ map (goal_at ts) (map plain_names m.names.items) → IsMachineAt k ts m
opened_kept mode.Opened ts m e h = h
opened_kept _ ts m e h = absurd (cc)

-- what becomes of the goals is what becomes of their numbers
goals_follow : (ts : List Tree) (m : Machine) (p : ℕ × ℕ) (q : Pair) → m.mode ≡ mode.Opened → IsMachineOf ts m → q ≡ pair_at ts p
    → add_pair m.goals.items q ≡ option_map (map (goal_at ts)) (add_given (map plain_names m.names.items) p)
goals_follow ts m p q e k z =
    ap (λ x. add_pair x q) (kept_opened m.mode ts m e k) ∙ ap (add_pair (map (goal_at ts) (map plain_names m.names.items))) z
    ∙ pairs_given ts (map plain_names m.names.items) p

opened_next : (m : Machine) (p : ℕ × ℕ) → m.mode ≡ mode.Opened → next_given (now_of m) p ≡ option_map Opened (add_given (map plain_names m.names.items) p)
opened_next m p e = ap (λ x. next_given x p) (ap (λ x. now_at x m) e)

-- without a goal there is none whose condition it is
pub no_goal : (ts : List Tree) (m : Machine) (a b : ℕ) (q : Pair) → m.mode ≡ mode.Opened → add_pair m.goals.items q ≡ None → IsMachineOf ts m
    → q ≡ pair_at ts (a, b) → Moves false ts m (given_line a b) m
no_goal ts m a b q e n k z =
    opened_next m (a, b) e ∙ ap (option_map Opened) (none (add_given (map plain_names m.names.items) (a, b)) (sym (goals_follow ts m (a, b) q e k z) ∙ n))
  where
    none : (o : Option (List GoalNames)) → option_map (map (goal_at ts)) o ≡ None → o ≡ None
    none None h = refl
    none (Some x) h = absurd (cc)

pub given_moves : (given : Bool) (ts : List Tree) (m : Machine) (a b : ℕ) (q : Pair) (hs : Vec Goal Global) (ks : Vec TheNames Global) → m.mode ≡ mode.Opened
    → add_pair m.goals.items q ≡ Some hs.items → Gives given (add_given (map plain_names m.names.items) (a, b)) (map plain_names ks.items)
    → IsMachineOf ts m → q ≡ pair_at ts (a, b) → Moves given ts m (given_line a b) (record m { goals = hs; names = ks })
given_moves false ts m a b q hs ks e f h k z = opened_next m (a, b) e ∙ ap (option_map Opened) h
given_moves true ts m a b q hs ks e f h k z =
    let new : Machine = record m { goals = hs; names = ks } in
    let goals : Some hs.items ≡ Some (map (goal_at ts) (map plain_names ks.items))
    = sym f ∙ goals_follow ts m (a, b) q e k z ∙ ap (option_map (map (goal_at ts))) h in
    let same : hs.items ≡ map (goal_at ts) (map plain_names ks.items) = cc in
    record {
      next = opened_next m (a, b) e ∙ ap (option_map Opened) h ∙ ap (λ x. Some x) (sym (ap (λ x. now_at x new) e));
      queue = sym (append-nil (queue_of m));
      places = refl;
      kept = opened_kept m.mode ts new e same;
    }
