-- What contracts see of answers, and of the pairs that a refutation keeps.
use Rattle.std.specs.Prelude.{◌≡◌, ◌≤◌, ◌<◌, ◌+◌, ◌^◌, ◌==◌, ℕ, List, [], ◌∷◌, ◌++◌, length, if◌then◌else◌, Option, Some, None, Result, Ok, Err}
use Rattle.std.specs.List.{slice_get, AllByRecursion}
use Rattle.std.specs.Option.{unwrap_or}
use Rattle.circ_term.specs.Tree.{Tree, sort_of}
use Rattle.circ_term.specs.Limits.{Limit, Big, Deep, first_limit, or_else, Names}
use Rattle.circ_term.specs.declared.fault.TermFault.{TermFault}
use Rattle.circ_term.specs.declared.fault.TermFault.TheVariants as term
use Rattle.circ_theory.specs.Theory.{Theory, Pair, pair_with, Derivative}
use Rattle.circ_theory.specs.Experiment.{derived}
use Rattle.circ_theory.specs.Fresh.{numbered_from}
use Rattle.circ_rewrite.specs.declared.fault.RewriteFault.{RewriteFault}
use Rattle.circ_rewrite.specs.declared.fault.RewriteFault.TheVariants as rewrite
use Rattle.circ_entry.specs.Entries.{Written, derivative_at}
use Rattle.circ_entry.specs.Plain.{plain_entries}
use Rattle.circ_refute.specs.PlainRefutation.{Waiting, waiting, Refuted, Told_apart, Alike, Spent, Past_limit, conclude, Decision, decide, entry_from}
use Rattle.circ_refute.specs.declared.refuted.Refuted.{Refuted as TheRefuted}
use Rattle.circ_refute.specs.declared.refuted.Refuted.TheVariants as refuted
use Rattle.circ_refute.specs.declared.refuted.Decision.{Decision as TheDecision}
use Rattle.circ_refute.specs.declared.halt.Halt.{Halt}
use Rattle.circ_refute.specs.declared.halt.Halt.TheVariants as halt
use Rattle.circ_refute.specs.declared.descendant.Descendant.{Descendant}
use Rattle.circ_refute.specs.declared.descendant.Origin.{Origin}

-- ---- answers

abbrev pub plain_refuted : TheRefuted → Refuted
plain_refuted (refuted.Differs entries left right) = Told_apart (plain_entries entries.items) left right
plain_refuted refuted.Alike = Alike
plain_refuted refuted.Spent = Spent
plain_refuted (refuted.TooBig nodes) = Past_limit (Big nodes)
plain_refuted (refuted.TooDeep depth) = Past_limit (Deep depth)

-- a decision, with the rewrites and the Derives that are left
abbrev pub plain_decision : TheDecision → (rewrites derives : ℕ) → Decision
plain_decision x n d = decide x.goal (conclude (plain_refuted x.refuted) n d)

abbrev pub term_halt : TermFault → Halt
term_halt (term.TooBig nodes) = halt.Found (refuted.TooBig nodes)
term_halt (term.TooDeep depth) = halt.Found (refuted.TooDeep depth)
term_halt term.Memory = halt.Memory

abbrev pub rewrite_halt : RewriteFault → Halt
rewrite_halt rewrite.Spent = halt.Found refuted.Spent
rewrite_halt (rewrite.TooBig nodes) = halt.Found (refuted.TooBig nodes)
rewrite_halt (rewrite.TooDeep depth) = halt.Found (refuted.TooDeep depth)
rewrite_halt rewrite.Memory = halt.Memory

-- ---- pairs with the expanded pair that each came from

abbrev pub pair_of : Descendant → Pair
pair_of x = pair_with x.left x.right

abbrev pub entry_of : Theory → Origin → Written
entry_of th o = entry_from o.first o.derivative (derivative_at th o.derivative)

-- the entries that led to a pair of this origin, by those that led to the pairs that were expanded
abbrev pub entries_by : Theory → (led : List (List Written)) → Option Origin → List Written
entries_by th led None = []
entries_by th led (Some o) = unwrap_or (slice_get led o.parent) [] ++ entry_of th o ∷ []

-- the entries that led to each of the pairs that were expanded, after others
abbrev pub led_after : Theory → (led : List (List Written)) → (expanded : List Descendant) → List (List Written)
led_after th led [] = led
led_after th led (x ∷ xs) = led_after th (led ++ entries_by th led x.origin ∷ []) xs

abbrev pub led_to : Theory → (expanded : List Descendant) → List (List Written)
led_to th xs = led_after th [] xs

abbrev pub plain_waiting : Theory → (led : List (List Written)) → Descendant → Waiting
plain_waiting th led x = waiting x.left x.right (entries_by th led x.origin)

-- The pair came from the goal, or from one of so many that were expanded; and its parameters have numbers.
pub record IsFrom (count : ℕ) (o : Origin) : Type 0 where
  pub parent : o.parent < count
  pub numbers : o.first + 8 ≤ 2 ^ 32

abbrev pub HasOrigin : (count : ℕ) → Option Origin → Type 0
HasOrigin count None = Unit {0}
HasOrigin count (Some o) = IsFrom count o

-- each came from one before it; the first is number i
abbrev pub ComeInOrder : (i : ℕ) → List Descendant → Type 0
ComeInOrder i [] = Unit {0}
ComeInOrder i (x ∷ xs) = HasOrigin i x.origin × ComeInOrder (i + 1) xs

-- Pairs that were expanded come from those before them, and pairs that wait from them.
pub record HaveOrigins (expanded queue : List Descendant) : Type 0 where
  pub before : ComeInOrder 0 expanded
  pub waiting : AllByRecursion (λ x. HasOrigin (length expanded) x.origin) queue

-- ---- children

-- the derivative of this number on both terms of the expanded pair `parent`
abbrev pub descendant : (parent : ℕ) (l m : Tree) (k number : ℕ) → Derivative → Descendant
descendant parent l m k i d = record {
  left = derived d l (numbered_from k);
  right = derived d m (numbered_from k);
  origin = Some (record { parent = parent; derivative = i; first = k });
}

-- one for each derivative whose hole has the terms' sort
abbrev pub descendants : (parent : ℕ) (l m : Tree) (k i : ℕ) → List Derivative → List Descendant
descendants parent l m k i [] = []
descendants parent l m k i (d ∷ ds) =
    if d.hole == sort_of l then descendant parent l m k i d ∷ descendants parent l m k (i + 1) ds else descendants parent l m k (i + 1) ds

abbrev pub descendants_limit : List Descendant → Option Limit
descendants_limit [] = None
descendants_limit (x ∷ xs) = or_else (first_limit x.left) (or_else (first_limit x.right) (descendants_limit xs))

-- the pair, or the first limit that one of its terms passes
abbrev pub GivesDescendant : Descendant → Result Descendant TermFault → Type 0
GivesDescendant x (Ok y) = (y ≡ x) × (descendants_limit (x ∷ []) ≡ None)
GivesDescendant x (Err e) = Names e (descendants_limit (x ∷ []))

-- these are put last, or the first limit is told that one of them passes
abbrev pub PutsLast : {X : Type 0} → List Descendant → (old new : List Descendant) → Result X TermFault → Type 0
PutsLast xs old new (Ok y) = (descendants_limit xs ≡ None) × (new ≡ old ++ xs)
PutsLast xs old new (Err e) = Names e (descendants_limit xs)
