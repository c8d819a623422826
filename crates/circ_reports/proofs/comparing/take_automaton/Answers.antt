use Rattle.std.proofs.Common.{refl}
use Rattle.circ_auto.specs.Text.{ReadsAsAutomaton}
use Rattle.circ_files.proofs.FileFaults.{only_read}
use Rattle.circ_reports.specs.Same.{AutomatonRefusal}
use Rattle.circ_reports.proofs.comparing.take_automaton.Goals as goal

pub returns-in-Ok-read_automaton-clause-takes : goal.returns-in-Ok-read_automaton-clause-takes
returns-in-Ok-read_automaton-clause-takes g c =
    let bytes = c.in-Ok.bytes.items in
    let m = c.in-Ok-read_automaton.automaton in
    let reads = rw c.as_slice.ensures.value at c.in-Ok-read_automaton.ensures.gives in
    record {
      bytes = record { bytes = bytes; short = c.in-Ok.ensures.short; are = reads };
      reads = λ t. only_read (g.S.Shelf.state c.args.shelf.now).holds c.args.name.now bytes ReadsAsAutomaton m (c.in-Ok.ensures.content t)
          c.in-Ok.ensures.short (reads, λ q other. c.read_in_one_way.ensures.automaton bytes m q reads other);
    }

pub returns-in-Err-Statement-clause-fault : goal.returns-in-Err-Statement-clause-fault
returns-in-Err-Statement-clause-fault g c =
    let bytes = c.in-Ok.bytes.items in
    let first = rw (c.as_slice.ensures.value, c.in-Err-Statement.field-0-is) at c.in-Err-Statement.ensures.gives in
    let refused : AutomatonRefusal c.in-Err-Statement.number c.cause_of.result bytes = (c.in-Err-Statement.cause, (first, c.cause_of.ensures)) in (
      refl,
      record { bytes = bytes; short = c.in-Ok.ensures.short; are = refused },
      λ t. record { bytes = bytes; bytes_are = c.in-Ok.ensures.content t; short = c.in-Ok.ensures.short; are = refused },
    )
