-- What the parts of Join up to content answer.
use Rattle.std.specs.Prelude.{◌≡◌, ℕ, ◌==◌, ◌&&◌, if◌then◌else◌, List, Option, Some, None, Result, Ok, Err}
use Rattle.circ_term.specs.Tree.{Tree, Var, App}
use Rattle.circ_term.specs.Limits.{Names, IsWithinLimits, first_limit, or_else}
use Rattle.circ_term.specs.declared.fault.TermFault.{TermFault}
use Rattle.circ_theory.specs.Signature.{Signature}
use Rattle.circ_theory.specs.Goal.{Goal}
use Rattle.circ_special.specs.declared.place.Place.{Place}
use Rattle.circ_aci.specs.Canonical.{join}
use Rattle.circ_conditional_norm.specs.Tries.{Normaliser}
use Rattle.circ_conditional_norm.specs.Work.{Work, or_next}
use Rattle.circ_content_join.specs.Apart.{Apart}
use Rattle.circ_content_join.specs.Joining.{no_move, contents_joined, all_joined_by_content}
use Rattle.circ_content_join.specs.Moves.{Move}
use Rattle.circ_moves.specs.declared.rests.Rests.{Rests}

-- Join of two terms that differ, where no hypothesis is used on them: by their contents, or else by their arguments
abbrev pub inside_by_content : Normaliser → Signature → List Place → List Goal → (q : List ℕ) → (a b : Tree) → (budget : ℕ)
    → Work (Option (List Move))
inside_by_content normal sig G H q (Var n s) b = no_move
inside_by_content normal sig G H q (App f s ts) (Var m j) = no_move
inside_by_content normal sig G H q (App f s ts) (App g j us) =
    if (f == g) && (s == j)
    then (λ l. or_next (contents_joined normal sig G H f q (App f s ts) (App g j us) l) (all_joined_by_content normal sig G H f q 0 ts us))
    else no_move

-- the rests, each joined, and what was set aside
pub record AreRests (f k : ℕ) (d : Apart) (r : Rests) : Type 0 where
  pub left : r.left ≡ join f k d.left
  pub right : r.right ≡ join f k d.right
  pub both : r.both.items ≡ d.both
  pub within : or_else (first_limit (join f k d.left)) (first_limit (join f k d.right)) ≡ None

-- the answer is the rests, each joined; or the first limit that is passed
abbrev pub BuildsRests : (f k : ℕ) → Apart → Result Rests TermFault → Type 0
BuildsRests f k d (Ok r) = AreRests f k d r
BuildsRests f k d (Err e) = Names e (or_else (first_limit (join f k d.left)) (first_limit (join f k d.right)))

-- the term, or none where it passes a limit
abbrev pub IsWhole : Tree → Option Tree → Type 0
IsWhole t (Some u) = u ≡ t
IsWhole t None = IsWithinLimits t → ⊥
