-- The order in which an ordered rule goes down.
use Rattle.std.specs.Prelude.{nat_lt, Bool, true, false, ◌==◌, ◌&&◌, ◌||◌, if◌then◌else◌}
use Rattle.circ_term.specs.Tree.{Tree, Trees, Var, App, none, more, sizes_of}
use Rattle.circ_term.specs.Order.{is_same}

-- Fewer nodes come first; then a variable, by number, then sort, before an application; then the operator's number; then the arguments.
abbrev mutual
  pub is_below : Tree → Tree → Bool
  is_below (Var n s) (Var m k) = nat_lt n m || ((n == m) && nat_lt s k)
  is_below (Var n s) (App g k us) = true
  is_below (App f s ts) (Var m k) = false
  is_below (App f s ts) (App g k us) =
      nat_lt (sizes_of ts) (sizes_of us) || ((sizes_of ts == sizes_of us) && (nat_lt f g || ((f == g) && are_below ts us)))

  -- the first arguments from the left that differ decide
  pub are_below : Trees → Trees → Bool
  are_below none us = false
  are_below (more t ts) none = false
  are_below (more t ts) (more u us) = if is_same t u then are_below ts us else is_below t u
