use Rattle.std.proofs.Common.{ℕ, List, map, refl, sym, subst, ap, ◌∙◌}
use Rattle.circ_term.specs.Tree.{App}
use Rattle.circ_nodes.specs.Named.{AreNamed}
use Rattle.circ_nodes.proofs.Numbers.{all_there_named}
use Rattle.circ_keeping.specs.declared.taking.Part.{Part}
use Rattle.circ_keeping.specs.Moved.{moved_number, Becomes}
use Rattle.circ_keeping.proofs.Entered.{adds_entered, one_entered}
use Rattle.circ_keeping.proofs.keeping.enter.Goals as goal

pub returns-in-Ok-clause-adds : goal.returns-in-Ok-clause-adds
returns-in-Ok-clause-adds c =
    let nodes = c.args.nodes.now in
    let app = c.in-Application in
    let f = moved_number c.args.count c.args.moved.now in
    let e = c.in_ok-args-in-Application.ensures ∙ ap (map f) c.as_slice.ensures in
    let may = rw app.is at c.requires in
    let ts = all_there_named nodes (map f app.args.items) may.1 in
    let t = App app.op app.sort ts.0 in
    let P : List ℕ → Type 0 = λ ns. AreNamed nodes ns ts.0 in
    let Q : Part → Type 0 = λ p. Becomes nodes c.args.count c.args.moved.now p t in
    adds_entered (Becomes nodes c.args.count c.args.moved.now c.args.part.now) nodes c.app.new.self t (subst Q (sym app.is) (ts.0, refl, ts.1))
    (c.in-Ok.ensures.enters ts.0 (subst P (sym e) ts.1))

pub returns-in-Ok-clause-one : goal.returns-in-Ok-clause-one
returns-in-Ok-clause-one c =
    let nodes = c.args.nodes.now in
    let app = c.in-Application in
    let f = moved_number c.args.count c.args.moved.now in
    let e = c.in_ok-args-in-Application.ensures ∙ ap (map f) c.as_slice.ensures in
    let may = rw app.is at c.requires in
    let ts = all_there_named nodes (map f app.args.items) may.1 in
    let P : List ℕ → Type 0 = λ ns. AreNamed nodes ns ts.0 in
    one_entered nodes c.app.new.self (App app.op app.sort ts.0) (c.in-Ok.ensures.enters ts.0 (subst P (sym e) ts.1))
