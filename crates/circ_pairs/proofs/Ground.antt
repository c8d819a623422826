-- Terms without a variable.
use Rattle.std.proofs.Common.{◌≡◌, true, arith}
use Rattle.std.proofs.lemmas.Bool.{and_parts}
use Rattle.circ_term.specs.Tree.{Tree, Trees, Var, App, none, more, is_ground, are_ground}
use Rattle.circ_pairs.specs.Fresh.{above, all_above}

mutual
  pub above-is_ground : (t : Tree) → is_ground t ≡ true → above t ≡ 0
  above-is_ground (Var n s) e = absurd (cc)
  above-is_ground (App f s ts) e = all_above-are_ground ts e

  all_above-are_ground : (ts : Trees) → are_ground ts ≡ true → all_above ts ≡ 0
  all_above-are_ground none e = omega arith
  all_above-are_ground (more t ts) e =
      let parts = and_parts (is_ground t) (are_ground ts) e in
      omega (arith, above-is_ground t parts.0, all_above-are_ground ts parts.1)
