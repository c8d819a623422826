-- What contracts see of the parts of a proof.
use Rattle.std.specs.Prelude.{map}
use Rattle.circ_proof.specs.Plain.{plain_links}
use Rattle.circ_proof.specs.PlainProof.{plain_names, plain_step}
use Rattle.circ_proof.specs.Parts.{Part, Head, Certificate, Goals}
use Rattle.circ_proof.specs.Parts as parts
use Rattle.circ_table.specs.declared.part.Part.{Part as ThePart}
use Rattle.circ_table.specs.declared.part.Part.TheVariants as part

-- the parts of a proof that a reader hands out
abbrev pub plain_part : ThePart → Part
plain_part (part.Head table gamma) = Head table gamma
plain_part (part.Certificate links) = Certificate (plain_links links.items)
plain_part (part.Goals goals names) = Goals goals.items (map plain_names names.items)
plain_part (part.Step step) = parts.Step (plain_step step)
