-- How a term stands to another in the order in which an ordered rule goes down: Less where it is below it, Equal where both are the same, and else Greater.
use Rattle.std.specs.Prelude.{◌+◌, Bool, ◌==◌, if◌then◌else◌, Option, Some, None}
use Rattle.std.specs.Ordering.{nat_cmp, ordering_then}
use Rattle.std.proofs.Common.{Ordering, Less, Equal, Greater}
use Rattle.circ_term.specs.Tree.{Tree, Trees, Var, App, none, more, sizes_of}

abbrev pub equal_or_greater : Bool → Ordering
equal_or_greater b = if b then Equal else Greater

-- by the number of nodes, then by operator, then by arguments; variables come first, by number, then sort
abbrev mutual
  pub term_order : Tree → Tree → Ordering
  term_order (Var n s) (Var m k) = ordering_then (nat_cmp n m) (nat_cmp s k)
  term_order (Var n s) (App g k us) = Less
  term_order (App f s ts) (Var m k) = Greater
  term_order (App f s ts) (App g k us) =
      ordering_then (ordering_then (nat_cmp (sizes_of ts + 1) (sizes_of us + 1)) (ordering_then (nat_cmp f g) (terms_order ts us))) (equal_or_greater (s == k))

  -- the first arguments from the left that differ decide
  pub terms_order : Trees → Trees → Ordering
  terms_order none none = Equal
  terms_order none (more u us) = Greater
  terms_order (more t ts) none = Greater
  terms_order (more t ts) (more u us) = ordering_then (term_order t u) (terms_order ts us)

-- the same to a term that may be missing
abbrev pub order_to : Tree → Option Tree → Ordering
order_to t None = Greater
order_to t (Some u) = term_order t u
