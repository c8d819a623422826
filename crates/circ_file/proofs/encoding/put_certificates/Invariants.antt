use Rattle.circ_proof.specs.PlainProof.{plain_certificates}
use Rattle.circ_grammar.specs.Grammar.{lines_of, certificate_lines}
use Rattle.circ_file.proofs.Written.{IsLeft}
use Rattle.circ_file.proofs.encoding.put_certificates.Given as goal

abbrev pub invariant-loop-links : goal.invariant-loop-links
invariant-loop-links l = IsLeft (λ xs. lines_of certificate_lines (plain_certificates xs)) l.fn.out.items l.out.items l.certificates l.links-index
