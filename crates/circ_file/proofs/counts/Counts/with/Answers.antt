use Rattle.std.proofs.Common.{◌≡◌, ◌+◌, ◌∙◌, ◌++◌, ◌∷◌, [], ap, arith, sym, length}
use Rattle.circ_special.specs.Special.{place}
use Rattle.circ_line.specs.Plain.{plain_line}
use Rattle.circ_proof.specs.Certified.{due}
use Rattle.circ_file.specs.View.{places_with}
use Rattle.circ_file.proofs.Counted.{due_more}
use Rattle.circ_file.proofs.counts.Counts.with.Goals as goal

pub returns-in-Place-clause-due : goal.returns-in-Place-clause-due
returns-in-Place-clause-due c gs e =
    let th = c.args.theory.now in
    let g = place c.in-Place.op c.in-Place.arg in
    let all : c.args.self.due + c.derivative_count_at.result ≡ length (due th (gs ++ g ∷ [])) = omega (arith, e, c.derivative_count_at.ensures.exact c.in-Place.arg, due_more th gs g) in
    all ∙ sym (ap (λ l. length (due th (places_with gs (plain_line l)))) c.in-Place.is)
