use Rattle.circ_proof_text.proofs.TableText.{entry_args, entry_term, term_entry}
use Rattle.circ_proof_text.proofs.laws.a_line_and_its_term.Goals as goal

pub returns-clause-term : goal.returns-clause-term
returns-clause-term c = λ sig table t h. entry_term sig table t (entry_args table t h)

pub returns-clause-line : goal.returns-clause-line
returns-clause-line c = λ sig table l t g e. let h = term_entry sig table l t g e in (h.entry, h.sorted)
