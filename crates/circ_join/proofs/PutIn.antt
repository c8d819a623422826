-- A use that is put into a term, and those behind it.
use Rattle.std.proofs.Common.{◌≡◌, List, ◌∷◌, None, Some, Result, Ok, Err, ap, ◌∙◌}
use Rattle.circ_term.specs.Tree.{Tree}
use Rattle.circ_term.specs.Limits.{Limit, Big, Deep, first_limit, or_else, Names}
use Rattle.circ_term.specs.declared.fault.TermFault.{TermFault}
use Rattle.circ_term.specs.declared.fault.TermFault.TheVariants as term
use Rattle.circ_plain_search.specs.Joining.{HypothesisUse, Stop, Past_limit, and_then, within_or, put, put_in, put_all}
use Rattle.circ_join.specs.Stopping.{Stops, term_stop}
use Rattle.circ_join.specs.declared.stop.Stop.{Stop as TheStop}
use Rattle.circ_join.specs.declared.stop.Stop.TheVariants as stop

module _ (t : Tree) (u : HypothesisUse) (new : first_limit u.new ≡ None) where
  around : put t u ≡ within_or (first_limit (put_in t u)) (put_in t u)
  around = ap (λ o. within_or (or_else o (first_limit (put_in t u))) (put_in t u)) new

  pub put_made : first_limit (put_in t u) ≡ None → put t u ≡ Ok (put_in t u)
  put_made e = around ∙ ap (λ o. within_or o (put_in t u)) e

  past : (l : Limit) → first_limit (put_in t u) ≡ Some l → put t u ≡ Err (Past_limit l)
  past l e = around ∙ ap (λ o. within_or o (put_in t u)) e

  pub put_stops : (e : TermFault) → Names e (first_limit (put_in t u)) → Stops (put t u) (term_stop e)
  put_stops (term.TooBig n) h = past (Big n) h
  put_stops (term.TooDeep n) h = past (Deep n) h
  put_stops term.Memory h = tt

pub stops_all : (r : Result Tree Stop) (f : Tree → Result Tree Stop) (e : TheStop) → Stops r e → Stops (and_then r f) e
stops_all r f stop.Spent h = ap (λ x. and_then x f) h
stops_all r f (stop.TooBig n) h = ap (λ x. and_then x f) h
stops_all r f (stop.TooDeep n) h = ap (λ x. and_then x f) h
stops_all r f (stop.Stuck s v A) h = ap (λ x. and_then x f) h
stops_all r f stop.Memory h = tt

-- the answers of the whole, from the first use on
pub put_first : (t v : Tree) (u : HypothesisUse) (us : List HypothesisUse) → put t u ≡ Ok v → put_all t (u ∷ us) ≡ put_all v us
put_first t v u us e = ap (λ r. and_then r (λ w. put_all w us)) e

pub put_first_stops : (t : Tree) (u : HypothesisUse) (us : List HypothesisUse) (e : TheStop) → Stops (put t u) e → Stops (put_all t (u ∷ us)) e
put_first_stops t u us e h = stops_all (put t u) (λ w. put_all w us) e h
