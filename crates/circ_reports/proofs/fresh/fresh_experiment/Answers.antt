use Rattle.std.proofs.Common.{◌≡◌, List, length, sym, ◌∙◌, ap, subst, arith}
use Rattle.circ_entry.specs.Entries.{Written, HaveParameters}
use Rattle.circ_entry.specs.Plain.{plain_entries}
use Rattle.circ_files.proofs.FileFaults.{if_ok}
use Rattle.circ_reports.specs.Expand.{entries_named}
use Rattle.circ_reports.proofs.FreshNumbers.{free_count, entries_fit}
use Rattle.circ_reports.proofs.fresh.fresh_experiment.Goals as goal

pub returns-clause-parameters : goal.returns-clause-parameters
returns-clause-parameters c =
    let th = c.args.theory.now in
    let ns = c.as_slice.result.now in
    let ks = c.args.derivatives.now in
    let many : length ns ≡ c.in_ok-count.count =
    ap length (c.as_slice.ensures.value ∙ c.in_ok-numbers.ensures) ∙ free_count c.args.goal.now c.in_ok-count.count in
    if_ok (λ v. plain_entries v.items ≡ entries_named th ns ks) (λ v. HaveParameters th (plain_entries v.items)) c.entries_named.result c.entries_named.ensures
    (λ v e.
    let P : List Written → Type 0 = HaveParameters th in
    subst P (sym e) (entries_fit th c.known.ensures ns ks (omega (arith, many, c.in_ok-count.ensures))))
