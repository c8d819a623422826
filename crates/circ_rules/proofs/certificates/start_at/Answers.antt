use Rattle.std.proofs.Common.{length, refl, sym}
use Rattle.std.proofs.lemmas.Option.{slice_get_read}
use Rattle.circ_theory.specs.Operators.{operator_of}
use Rattle.circ_proof.proofs.Starting.{few_args}
use Rattle.circ_rules.proofs.certificates.start_at.Goals as goal

pub start_application-requires : goal.start_application-requires
start_application-requires c = few_args c.args.theory.now c.known.ensures c.args.place.op (operator_of c.in-Some.decl.now) (sym c.in-Some.ensures)

pub returns : goal.returns
returns c =
    let ss = c.in-Some.decl.now.args.items in
    let there = rw c.deref.ensures.value at c.in-Some-get.ensures.lookup in
    record {
      place = refl;
      start = record {
        place = c.requires;
        listed = sym c.in-Some.ensures;
        argument = slice_get_read ss (length ss) c.args.place.arg c.in-Some-get.sort.now refl there.3.0 there.1;
        term = c.in_ok-term.ensures;
      };
    }
