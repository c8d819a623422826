use Rattle.std.proofs.Common.{ℕ, take, List, subst, sym}
use Rattle.circ_term.specs.Tree.{Tree}
use Rattle.circ_replay.specs.Fingerprints.{IsKeyed}
use Rattle.circ_replay.proofs.Keyed.{keyed_take}
use Rattle.circ_replay.proofs.table.TableBuilder.cut.Goals as goal

pub invariant_of-self : goal.invariant_of-self
invariant_of-self c =
    let old = c.self.inside in
    let P : List Tree → Type 0 = λ ts. IsKeyed ts c.truncate-2.new.self in
    let Q : List ℕ → Type 0 = IsKeyed (take c.args.count old.terms.items) in
    subst P (sym c.truncate.ensures.items) (subst Q (sym c.truncate-2.ensures) (keyed_take c.args.count old.terms.items old.chains c.self.invariant))
