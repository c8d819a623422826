-- A move that is made, and those behind it.
use Rattle.std.proofs.Common.{◌≡◌, ℕ, List, ◌∷◌, Some, Ok, Err, ap}
use Rattle.std.specs.Option.{unwrap_or}
use Rattle.circ_term.specs.Tree.{Tree, replaced}
use Rattle.circ_term.specs.Limits.{Limit, Big, Deep, first_limit, or_else, Names}
use Rattle.circ_term.specs.declared.fault.TermFault.{TermFault}
use Rattle.circ_term.specs.declared.fault.TermFault.TheVariants as term
use Rattle.circ_plain_search.specs.Joining.{Past_limit, and_then, within_or}
use Rattle.circ_join.specs.Stopping.{Stops, term_stop}
use Rattle.circ_join.specs.declared.stop.Stop.{Stop as TheStop}
use Rattle.circ_join.proofs.PutIn.{stops_all}
use Rattle.circ_content_join.specs.Moves.{Move, make_all}
use Rattle.circ_moves.specs.Making.{made, put_here}

-- where the new term passes a limit, it is not put in
past : (t : Tree) (q : List ℕ) (x : Tree) (l : Limit) → first_limit x ≡ Some l → put_here t q x ≡ Err (Past_limit l)
past t q x l h = ap (λ o. within_or (or_else o (first_limit (unwrap_or (replaced t q x) t))) (unwrap_or (replaced t q x) t)) h

pub not_put : (t : Tree) (q : List ℕ) (x : Tree) (e : TermFault) → Names e (first_limit x) → Stops (put_here t q x) (term_stop e)
not_put t q x (term.TooBig n) h = past t q x (Big n) h
not_put t q x (term.TooDeep n) h = past t q x (Deep n) h
not_put t q x term.Memory h = tt

-- the answers of the whole, from the first move on
pub made_first : (t u : Tree) (v : Move) (vs : List Move) → made t v ≡ Ok u → make_all t (v ∷ vs) ≡ make_all u vs
made_first t u v vs e = ap (λ r. and_then r (λ w. make_all w vs)) e

pub made_first_stops : (t : Tree) (v : Move) (vs : List Move) (e : TheStop) → Stops (made t v) e → Stops (make_all t (v ∷ vs)) e
made_first_stops t v vs e h = stops_all (made t v) (λ w. make_all w vs) e h
