-- The table of a proof: the term of each line, and the line of each term.
use Rattle.std.specs.Prelude.{nat_lt, if◌then◌else◌, List, [], ◌∷◌, ◌++◌, length, map, Option, Some, None}
use Rattle.std.specs.Option.{option_and_then}
use Rattle.circ_term.specs.Tree.{Tree, Var, App, list_of}
use Rattle.circ_theory.specs.Signature.{Signature}
use Rattle.circ_theory.specs.Adding.{application}
use Rattle.circ_proof.specs.Table.{number_in}
pub use Rattle.circ_table.specs.Table.{first_at, firsts_at}
use Rattle.circ_line.specs.Line.{TableLine, Variable_line, Application_line}

-- The term of a line, where the lines before it have the terms of the table. The sort exists, or the operator does and takes the named terms; each
-- argument is named by its least number.
abbrev pub term_for : Signature → List Tree → TableLine → Option Tree
term_for sig table (Variable_line n s) = if nat_lt s (length sig.sorts) then Some (Var n s) else None
term_for sig table (Application_line f ns) = option_and_then (application sig f) (firsts_at table ns)

-- the line of a term, where the lines before it have the terms of the table
abbrev pub entry_of : List Tree → Tree → TableLine
entry_of table (Var n s) = Variable_line n s
entry_of table (App f s ts) = Application_line f (map (number_in table) (list_of ts))

-- the lines of the terms of a table, after the terms before them
abbrev pub entries_of : (before table : List Tree) → List TableLine
entries_of before [] = []
entries_of before (t ∷ ts) = entry_of before t ∷ entries_of (before ++ t ∷ []) ts
