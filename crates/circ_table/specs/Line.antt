-- A line of a table.
use Rattle.std.specs.Prelude.{◌≡◌, ℕ, List, [], Some}
use Rattle.circ_term.specs.Tree.{Tree, Var, App, trees_of}
use Rattle.circ_table.specs.Table.{firsts_at}
use Rattle.circ_table.specs.declared.line.Line.{Line}
use Rattle.circ_table.specs.declared.line.Line.TheVariants as line

-- the term taken apart by one node: its arguments go by the least numbers of their terms
abbrev pub IsLine : (table : List Tree) → Line → Tree → Type 0
IsLine table (line.Variable number sort) t = t ≡ Var number sort
IsLine table (line.Application op sort args) t = (ts : List Tree) × (t ≡ App op sort (trees_of ts)) × (firsts_at table args.now ≡ Some ts)

-- the numbers of the arguments
abbrev pub numbers_in : Line → List ℕ
numbers_in (line.Variable number sort) = []
numbers_in (line.Application op sort args) = args.now
