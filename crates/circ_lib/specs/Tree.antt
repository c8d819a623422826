-- The text of TREE.
use Rattle.std.specs.Prelude.{ℕ, List, ◌++◌, codes}

unfoldable pub tree_text : List ℕ
tree_text =
    codes "theory TREE is\n"
    ++ codes "  sorts Elt Tree .\n"
    ++ codes "  op root : Tree -> Elt .\n"
    ++ codes "  ops lc rc : Tree -> Tree .\n"
    ++ codes "  derivative root(*:Tree) .\n"
    ++ codes "  derivative lc(*:Tree) .\n"
    ++ codes "  derivative rc(*:Tree) .\n"
    ++ codes "  op node : Elt Tree Tree -> Tree .\n"
    ++ codes "  op mirror : Tree -> Tree .\n"
    ++ codes "  op repeat : Elt -> Tree .\n"
    ++ codes "  var E : Elt .\n"
    ++ codes "  vars T U : Tree .\n"
    ++ codes "  eq root(node(E, T, U)) = E .\n"
    ++ codes "  eq lc(node(E, T, U)) = T .\n"
    ++ codes "  eq rc(node(E, T, U)) = U .\n"
    ++ codes "  eq root(mirror(T)) = root(T) .\n"
    ++ codes "  eq lc(mirror(T)) = mirror(rc(T)) .\n"
    ++ codes "  eq rc(mirror(T)) = mirror(lc(T)) .\n"
    ++ codes "  eq root(repeat(E)) = E .\n"
    ++ codes "  eq lc(repeat(E)) = repeat(E) .\n"
    ++ codes "  eq rc(repeat(E)) = repeat(E) .\n"
    ++ codes "endtheory\n"
