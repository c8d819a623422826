use Rattle.std.proofs.Common.{ap, sym, subst, arith}
use Rattle.circ_theory.specs.Theory.{Theory}
use Rattle.circ_refute.specs.Progress.{Progress, progress, first_progress, HasRoom}
use Rattle.circ_refute.proofs.refuter.Refuter.refute.Goals as goal

pub run-requires-clause-room : goal.run-requires-clause-room
run-requires-clause-room c =
    let s = c.args.self.now in
    let th = s.theory.now in
    let room : HasRoom th (first_progress c.args.goal.now s.rewrites s.derives) = record {
      bound = 2147483648;
      some = omega arith;
      room = omega (arith, c.requires.few);
      pairs = (record { sorted = c.requires.sorted; left = omega (arith, c.requires.low); right = omega (arith, c.requires.low) }, tt);
    } in
    let P : Progress → Type 0 = HasRoom th in
    let T : Theory → Type 0 = λ t. HasRoom t (progress c.begin.new.self) in
    subst T (sym (ap (λ t. t.now) c.in_ok-begin.ensures.theory)) (subst P (sym c.in_ok-begin.ensures.begun) room)
