-- The variables of a term that are gathered in order.
use Rattle.std.specs.Prelude.{List, [], ◌∷◌}
use Rattle.std.specs.declared.cmp.Ordering.{Ordering}
use Rattle.std.specs.Ordering.{nat_cmp, ordering_then}
use Rattle.std.specs.BTreeSet.{insert_key}
use Rattle.circ_term.specs.Tree.{Tree, Trees, Var, App, none, more}
use Rattle.circ_theory.specs.Theory.{Pair}
use Rattle.circ_theory.specs.Variables.{Variable}

-- by number, then sort
abbrev pub variable_cmp : Variable → Variable → Ordering
variable_cmp v w = ordering_then (nat_cmp v.number w.number) (nat_cmp v.sort w.sort)

-- The variables in order, with those of a term, each at its place unless it is there.
abbrev mutual
  pub gathered : Tree → List Variable → List Variable
  gathered (Var n s) vs = insert_key variable_cmp vs (record { number = n; sort = s })
  gathered (App f s ts) vs = gathered_all ts vs

  pub gathered_all : Trees → List Variable → List Variable
  gathered_all none vs = vs
  gathered_all (more t ts) vs = gathered_all ts (gathered t vs)

abbrev pub gathered_pairs : List Pair → List Variable → List Variable
gathered_pairs [] vs = vs
gathered_pairs (p ∷ ps) vs = gathered_pairs ps (gathered p.right (gathered p.left vs))
