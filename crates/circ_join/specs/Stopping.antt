-- What parts of a search answer that may stop it.
use Rattle.std.specs.Prelude.{◌≡◌, map, Result, Ok, Err}
use Rattle.circ_term.specs.Tree.{Tree}
use Rattle.circ_term.specs.Limits.{Big, Deep}
use Rattle.circ_term.specs.declared.fault.TermFault.{TermFault}
use Rattle.circ_term.specs.declared.fault.TermFault.TheVariants as term
use Rattle.circ_theory.specs.Pairs.{plain_pair}
use Rattle.circ_rewrite.specs.declared.fault.RewriteFault.{RewriteFault}
use Rattle.circ_rewrite.specs.declared.fault.RewriteFault.TheVariants as rewrite
use Rattle.circ_plain_search.specs.Joining.{Stop, No_budget, Past_limit, Not_split}
use Rattle.circ_join.specs.declared.stop.Stop.{Stop as TheStop}
use Rattle.circ_join.specs.declared.stop.Stop.TheVariants as stop

-- the search stops for what is said, or memory ran out
abbrev pub Stops : {A : Type 0} → Result A Stop → TheStop → Type 0
Stops r stop.Spent = r ≡ Err No_budget
Stops r (stop.TooBig nodes) = r ≡ Err (Past_limit (Big nodes))
Stops r (stop.TooDeep depth) = r ≡ Err (Past_limit (Deep depth))
Stops r (stop.Stuck s t A) = r ≡ Err (Not_split s t (map plain_pair A.items))
Stops r stop.Memory = Unit {0}

abbrev pub term_stop : TermFault → TheStop
term_stop (term.TooBig nodes) = stop.TooBig nodes
term_stop (term.TooDeep depth) = stop.TooDeep depth
term_stop term.Memory = stop.Memory

abbrev pub rewrite_stop : RewriteFault → TheStop
rewrite_stop rewrite.Spent = stop.Spent
rewrite_stop (rewrite.TooBig nodes) = stop.TooBig nodes
rewrite_stop (rewrite.TooDeep depth) = stop.TooDeep depth
rewrite_stop rewrite.Memory = stop.Memory

-- what a call that puts uses into a term answers
abbrev pub Puts : Result Tree Stop → Result Tree TheStop → Type 0
Puts r (Ok t) = r ≡ Ok t
Puts r (Err e) = Stops r e
