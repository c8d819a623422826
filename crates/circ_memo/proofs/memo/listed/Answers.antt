use Rattle.circ_rewrite.specs.Plain.{plain_traces}
use Rattle.circ_nodes.proofs.Numbers.{named_one}
use Rattle.circ_due.specs.Chosen.{due_by}
use Rattle.circ_chain.proofs.Listing.{lists_all}
use Rattle.circ_memo.proofs.memo.listed.Goals as goal

pub returns-clause-listed : goal.returns-clause-listed
returns-clause-listed c = λ t n f.
    let done = rw (c.new-path.ensures.items, c.new-traces.ensures.items) at (c.in_ok-done.ensures.lists t n) in (
      named_one c.args.store.now.nodes c.args.entry.value c.in_ok-term.field-0 f.value c.in_ok-term.ensures.named f.there,
      lists_all (due_by c.args.means.now) c.args.entry.big c.args.entry.deep t done.0 f.value f.traces (plain_traces c.list-done.new.traces.items) done.2 done.1 f.form.reduces,
    )
