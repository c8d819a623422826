use Rattle.std.proofs.Common.{◌∙◌, List, [], length, sym, ap, subst, arith}
use Rattle.circ_special.specs.declared.place.Place.{Place}
use Rattle.circ_special.specs.Special.{IsSet}
use Rattle.circ_proof.specs.Certified.{due}
use Rattle.circ_file.specs.Adding.{terms_in}
use Rattle.circ_file.specs.Lines.{IsInStep}
use Rattle.circ_file.proofs.lines.LineReader.new.Goals as goal

pub returns-clause-reader : goal.returns-clause-reader
returns-clause-reader c =
    let th = c.args.theory.now in
    let none : IsSet th [] = record { increasing = tt; places = tt } in
    let P : List Place → Type 0 = λ x. IsSet th x in
    record {
      kept = c.new.ensures.kept (terms_in c.new-2.result);
      set = subst P (sym c.new.ensures.places) none;
      step = subst (λ n. IsInStep n c.new-2.result) (sym c.new.ensures.begin) c.new-2.ensures.state;
      due = c.new-3.ensures.due ∙ sym (ap (λ x. length (due th x)) c.new.ensures.places);
      certificates = omega (arith, c.new-3.ensures.certificates);
      steps = omega (arith, c.new-3.ensures.steps);
      givens = omega (arith, c.new-3.ensures.givens);
      ifs = omega (arith, c.new-3.ensures.ifs);
    }
