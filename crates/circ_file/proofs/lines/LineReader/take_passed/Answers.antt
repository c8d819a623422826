use Rattle.std.proofs.Common.{◌≡◌, true, false, [], sym, arith}
use Rattle.circ_line.specs.Plain.{plain_line}
use Rattle.circ_proof_text.specs.Checks.{limit_at}
use Rattle.circ_file.specs.Lines.{seen_of, Advances}
use Rattle.circ_file.specs.declared.lines.LineReader.{LineReader}
use Rattle.circ_proof.proofs.FewPlaces.{few_due}
use Rattle.circ_file.proofs.Taking.{ready_then, other_handled}
use Rattle.circ_file.proofs.lines.LineReader.take_passed.Goals as goal

pub with-counts-requires-clause-certificates : goal.with-counts-requires-clause-certificates
with-counts-requires-clause-certificates c =
    let old = c.args.self.now in
    omega (arith, c.requires.reader.certificates, c.requires.reader.due, few_due old.theory.now old.machine.places.items c.known.ensures c.requires.reader.set)

pub with-counts-requires-clause-due : goal.with-counts-requires-clause-due
with-counts-requires-clause-due c =
    let old = c.args.self.now in
    omega (arith, c.requires.reader.due, few_due old.theory.now old.machine.places.items c.known.ensures c.requires.reader.set)

pub advance-requires-clause-ready : goal.advance-requires-clause-ready
advance-requires-clause-ready c =
    let old = c.args.self.now in
    ready_then old.theory.now (seen_of [] old) (plain_line c.args.line) c.known.ensures c.requires.in_range (c.requires.passes [])

pub returns-clause-taken : goal.returns-clause-taken
returns-clause-taken c w open_splits =
    let old = c.args.self.now in
    let l = plain_line c.args.line in
    let counted = c.with-counts.ensures in
    let within : limit_at old.theory.now (seen_of w old) l ≡ false = sym (c.if-is_over.ensures w open_splits) in
    let new : LineReader = record c.advance.new.self { counts = c.with-counts.result } in
    let moved : Advances true old l c.advance.new.self = rw c.if-not-branch.false at c.in_ok-advance.ensures.taken in
    other_handled w old new l c.requires.reader c.requires.other c.advance.ensures.theory (c.requires.passes w) within moved
    (counted.due old.machine.places.items c.requires.reader.due)
    (λ i. record {
      version = counted.version i;
      certificates = counted.certificates i;
      steps = counted.steps i;
      givens = counted.givens i;
      ifs = counted.ifs i;
    })

pub with-counts-requires-clause-ifs : goal.with-counts-requires-clause-ifs
with-counts-requires-clause-ifs c = omega (arith, c.requires.reader.ifs)
