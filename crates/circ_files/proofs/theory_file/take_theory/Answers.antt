use Rattle.circ_read.specs.ReadsAs.{ReadsAs}
use Rattle.circ_files.proofs.FileFaults.{only_read}
use Rattle.circ_files.proofs.theory_file.take_theory.Goals as goal

pub returns-in-Ok-read_theory-clause-takes : goal.returns-in-Ok-read_theory-clause-takes
returns-in-Ok-read_theory-clause-takes g c =
    let bytes = c.in-Ok.bytes.items in
    let th = c.in-Ok-read_theory.theory in
    let reads = rw c.as_slice.ensures.value at c.in-Ok-read_theory.ensures.gives in
    record {
      bytes = record { bytes = bytes; short = c.in-Ok.ensures.short; are = reads };
      well_formed = c.known.ensures;
      reads = λ t. only_read (g.S.Shelf.state c.args.shelf.now).holds c.args.name.now bytes ReadsAs th (c.in-Ok.ensures.content t) c.in-Ok.ensures.short
          (reads, λ u other. c.read_in_one_way.ensures.theory bytes th u reads other);
    }
