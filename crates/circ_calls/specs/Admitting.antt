-- What certificates come to.
use Rattle.std.specs.Prelude.{List}
use Rattle.circ_term.specs.Tree.{Tree}
use Rattle.circ_theory.specs.Theory.{Theory}
use Rattle.circ_special.specs.declared.place.Place.{Place}
use Rattle.circ_proof.specs.Plain.{LinkOf}
use Rattle.circ_proof.specs.Certified.{due, AreCertified, CertificateFails}
use Rattle.circ_calls.specs.declared.admitting.Admission.{Admission}
use Rattle.circ_calls.specs.declared.admitting.Admission.TheVariants as admission

-- each certificate certifies what is due, or this is the first that does not
abbrev pub Admits : Theory → List Place → List (List (LinkOf Tree)) → Admission → Type 0
Admits th G lss admission.Yes = AreCertified th G (due th G) lss
Admits th G lss (admission.No n) = CertificateFails th G (due th G) lss n
