-- How a canonical form is found and made.
use Rattle.std.specs.Prelude.{◌≡◌, ◌<◌, ℕ, Bool, true, false, List, length, None}
use Rattle.circ_term.specs.Tree.{Tree}
use Rattle.circ_theory.specs.Signature.{Operator}
use Rattle.circ_theory.specs.Theory.{twice}
use Rattle.circ_aci.specs.Canonical.{canonical}
use Rattle.circ_aci.specs.Operands.{operands}
use Rattle.circ_aci.specs.Row.{may_follow, first_in}
use Rattle.circ_nodes.specs.Named.{tree_at}
use Rattle.circ_forms.specs.declared.deciding.Way.{Way}
use Rattle.circ_forms.specs.declared.deciding.Way.TheVariants.{Same, Two, Merged, Joined}

-- the tests by which the operator's application to a and b is its own canonical form, if its sort fits; the first: it is associative
abbrev pub MayJoinBy : Bool → (o : Operator) (f : ℕ) → (a b : Tree) → Type 0
MayJoinBy true o f a b = (operands f a ≡ None) × (may_follow o a (first_in f b) ≡ true) × (canonical o f b ≡ b)
MayJoinBy false o f a b = may_follow o a b ≡ true

abbrev pub MayJoin : (o : Operator) (f : ℕ) → (a b : Tree) → Type 0
MayJoin o f a b = MayJoinBy o.assoc o f a b

-- the canonical form of t is made in this way
abbrev pub IsWay : (nodes : List Tree) (o : Operator) (f : ℕ) → (t : Tree) → Way → Type 0
IsWay nodes o f t (Same n) = (n < length nodes) × (canonical o f t ≡ tree_at nodes n)
IsWay nodes o f t (Two a b) = (a < length nodes) × (b < length nodes) × (canonical o f t ≡ twice f o.result (tree_at nodes a) (tree_at nodes b))
IsWay nodes o f t (Merged a b) =
    (o.assoc ≡ true) × (a < length nodes) × (b < length nodes) × (canonical o f (tree_at nodes a) ≡ tree_at nodes a)
    × (canonical o f (tree_at nodes b) ≡ tree_at nodes b) × (k : ℕ) × (canonical o f t ≡ canonical o f (twice f k (tree_at nodes a) (tree_at nodes b)))
IsWay nodes o f t (Joined a b) =
    (o.assoc ≡ true) × (a < length nodes) × (b < length nodes) × (k : ℕ) × (canonical o f t ≡ canonical o f (twice f k (tree_at nodes a) (tree_at nodes b)))
