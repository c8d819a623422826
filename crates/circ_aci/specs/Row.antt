-- The test by which the code finds that a term is its own canonical form.
use Rattle.std.specs.Prelude.{ℕ, Bool, true, not, ◌==◌, ◌&&◌, if◌then◌else◌, is_none}
use Rattle.circ_term.specs.Tree.{Tree, App, none, more}
use Rattle.circ_term.specs.Order.{is_same, comes_before}
use Rattle.circ_theory.specs.Signature.{Operator}
use Rattle.circ_aci.specs.Operands.{operands}

-- whether b may stand behind a in a content
abbrev pub may_follow : Operator → (a b : Tree) → Bool
may_follow o a b = not (o.comm && comes_before b a) && not (o.idem && is_same b a)

-- the first argument of f, where f is the term's operator, or the term
abbrev pub first_in : (f : ℕ) → Tree → Tree
first_in f (App g s (more a (more b none))) = if f == g then a else App g s (more a (more b none))
first_in f t = t

-- whether the applications of f at the top are grouped to the right, and what they join may follow one another
abbrev pub is_row : Operator → (f : ℕ) → Tree → Bool
is_row o f (App g s (more a (more b none))) =
    if f == g then (s == o.result) && (is_none (operands f a) && (may_follow o a (first_in f b) && is_row o f b)) else true
is_row o f t = true
