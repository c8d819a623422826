-- A table that is whole.
use Rattle.std.specs.Prelude.{List, []}
use Rattle.circ_term.specs.Tree.{Tree}
use Rattle.circ_table.specs.Lines.{trees, AreLines}
use Rattle.circ_table.specs.declared.table.Held.{Held}
use Rattle.circ_table.specs.declared.table.Held.TheVariants as held

abbrev pub trees_held : Held → List Tree
trees_held held.Nothing = []
trees_held (held.Lines rc) = trees rc.value

abbrev pub AreHeld : Held → Type 0
AreHeld held.Nothing = Unit {0}
AreHeld (held.Lines rc) = AreLines rc.value
