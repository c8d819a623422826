-- What two contents have in common, and the rest of each.
use Rattle.std.specs.Prelude.{nat_lt, length, Bool, not, ◌&&◌, ◌||◌, if◌then◌else◌, List, [], ◌∷◌, Option, Some, None}
use Rattle.std.specs.Option.{option_map, option_map_or}
use Rattle.circ_term.specs.Tree.{Tree}
use Rattle.circ_term.specs.Order.{is_same}
use Rattle.circ_plain_search.specs.Search.{is_nil}

-- the entries that are set aside, in the left content's order, and the rest of each content in its order
pub record Apart : Type 0 where
  pub both : List Tree
  pub left : List Tree
  pub right : List Tree

abbrev pub apart : (both left right : List Tree) → Apart
apart c l r = record { both = c; left = l; right = r }

-- the entries without the first that is x, if there is one
abbrev pub without : Tree → List Tree → Option (List Tree)
without x [] = None
without x (y ∷ ys) = if is_same x y then Some ys else option_map (λ zs. y ∷ zs) (without x ys)

abbrev pub with_common : Tree → Apart → Apart
with_common x d = apart (x ∷ d.both) d.left d.right

abbrev pub with_left : Tree → Apart → Apart
with_left x d = apart d.both (x ∷ d.left) d.right

-- each entry of xs, from the left, is set aside with the first of ys that is the same and is left
abbrev pub set_aside : (xs ys : List Tree) → Apart
set_aside [] ys = apart [] [] ys
set_aside (x ∷ xs) ys = option_map_or (λ zs. with_common x (set_aside xs zs)) (without x ys) (with_left x (set_aside xs ys))

-- something is set aside, both leave something, and one of them leaves two entries or more
abbrev pub leaves_rests : Apart → Bool
leaves_rests d =
    not (is_nil d.both) && (not (is_nil d.left) && (not (is_nil d.right) && (nat_lt 1 (length d.left) || nat_lt 1 (length d.right))))
