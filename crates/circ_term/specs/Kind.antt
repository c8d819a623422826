-- What a match on a term sees.
use Rattle.circ_term.specs.Tree.{Tree, Var, App, trees_of}
use Rattle.circ_term.specs.declared.node.Kind.{Kind}
use Rattle.circ_term.specs.declared.node.Kind.TheVariants.{Variable, Application}

abbrev pub tree_of_kind : Kind → Tree
tree_of_kind (Variable n s) = Var n s
tree_of_kind (Application f s args) = App f s (trees_of args.now)
