-- What the code finds at the top of a term.
use Rattle.std.specs.Prelude.{ℕ, ◌==◌, if◌then◌else◌, Option, Some, None}
use Rattle.circ_term.specs.Tree.{Tree, Trees, App, none, more}
use Rattle.circ_theory.specs.Signature.{Operator}
use Rattle.circ_theory.specs.Operators.{has_mark}

-- the two arguments, where there are two
abbrev pub two_of : Trees → Option (Tree × Tree)
two_of (more a (more b none)) = Some (a, b)
two_of ts = None

-- the two arguments of the operator number f, where it is the term's operator
abbrev pub operands : (f : ℕ) → Tree → Option (Tree × Tree)
operands f (App g s (more a (more b none))) = if f == g then Some (a, b) else None
operands f t = None

-- the same for the operator o, where it has a mark
abbrev pub marked_operands : (o : Operator) (f : ℕ) → Tree → Option (Tree × Tree)
marked_operands o f t = if has_mark o then operands f t else None
