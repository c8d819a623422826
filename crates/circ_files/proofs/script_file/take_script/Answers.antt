use Rattle.circ_script.specs.ReadsAsScript.{ReadsAsScript}
use Rattle.circ_script.specs.Script.{plain_script}
use Rattle.circ_files.proofs.FileFaults.{only_read}
use Rattle.circ_files.proofs.script_file.take_script.Goals as goal

pub returns-in-Ok-read_script-clause-takes : goal.returns-in-Ok-read_script-clause-takes
returns-in-Ok-read_script-clause-takes g c =
    let bytes = c.in-Ok.bytes.items in
    let th = c.args.theory.now in
    let s = plain_script c.in-Ok-read_script.script in
    let reads = rw c.as_slice.ensures.value at c.in-Ok-read_script.ensures.gives in
    record {
      bytes = record { bytes = bytes; short = c.in-Ok.ensures.short; are = reads };
      reads = λ t. only_read (g.S.Shelf.state c.args.shelf.now).holds c.args.name.now bytes (ReadsAsScript th c.args.job) s (c.in-Ok.ensures.content t)
          c.in-Ok.ensures.short (reads, λ q other. c.read_in_one_way.ensures.script th c.args.job bytes s q reads other);
    }
