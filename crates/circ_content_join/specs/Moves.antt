-- What Join up to content does to a term: hypotheses are used in it, and subterms become others of the same content.
use Rattle.std.specs.Prelude.{ℕ, List, [], ◌∷◌, Option, Result, Ok}
use Rattle.std.specs.Option.{unwrap_or}
use Rattle.circ_term.specs.Tree.{Tree, replaced}
use Rattle.circ_term.specs.Limits.{Limit, first_limit, or_else}
use Rattle.circ_proof.specs.Plain.{LinkOf, Content_link}
use Rattle.circ_plain_search.specs.Joining.{Stop, HypothesisUse, use_link, put_in, within_or, and_then}
use Rattle.circ_conditional_search.specs.Joining.{put_limit}

-- a hypothesis is used; or the subterm at the path becomes this term, which has the same content under the operator
pub data Move : Type 0 where
  Using : (hypothesis : HypothesisUse) → Move
  Regrouping : (op : ℕ) (path : List ℕ) (term : Tree) → Move

abbrev pub move_link : Move → LinkOf Tree
move_link (Using u) = use_link u
move_link (Regrouping f q t) = Content_link f q t

-- the term after the move
abbrev pub move_in : Tree → Move → Tree
move_in t (Using u) = put_in t u
move_in t (Regrouping f q x) = unwrap_or (replaced t q x) t

-- the first limit that is passed: the new subterm is built first, then the term around it
abbrev pub move_limit : Tree → Move → Option Limit
move_limit t (Using u) = put_limit t u
move_limit t (Regrouping f q x) = or_else (first_limit x) (first_limit (unwrap_or (replaced t q x) t))

-- the moves, one after another, which are not counted
abbrev pub make_all : Tree → List Move → Result Tree Stop
make_all t [] = Ok t
make_all t (v ∷ vs) = and_then (within_or (move_limit t v) (move_in t v)) (λ u. make_all u vs)
