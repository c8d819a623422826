use Rattle.std.proofs.Common.{◌≡◌, ◌≤◌, ℕ, List, ◌-◌, ◌+◌, length, length-append, ap, take, drop, sym, subst, ◌∙◌, arith}
use Rattle.std.proofs.lemmas.List.{take-append-drop, length-take-le}
use Rattle.std.proofs.Math.Seq.{take-length}
use Rattle.circ_needs.specs.Owing.{OwesThere}
use Rattle.circ_theory.specs.WellFormed.{IsWellFormed}
use Rattle.circ_needs.proofs.Owing.{owes_by_look, sorts_same}
use Rattle.circ_needs.proofs.walking.Asked.owed_by.Goals as goal

pub returns : goal.returns
returns c =
    let p = c.args.path.now in
    let x = c.args.look in
    let cut = length p - x.steps in
    let ok = subst IsWellFormed c.theory-theory.ensures c.known.ensures in
    let whole = take-append-drop cut p in
    let less : cut ≤ length p = omega arith in
    let front = length-take-le cut p less in
    let long : length (drop cut p) ≡ x.steps = omega (arith, front, ap length whole, length-append (take cut p) (drop cut p), c.if-look-path.false) in
    let e : length p - cut ≡ length (drop cut p) = omega (arith, front, ap length whole, length-append (take cut p) (drop cut p)) in
    let same : take (length p - cut) (drop cut p) ≡ drop cut p = ap (λ n. take n (drop cut p)) e ∙ take-length (drop cut p) in
    let P : List ℕ → Type 0 = λ r. OwesThere c.args.self.now (take cut p) r c.in-Some.body.now c.owed_there.result in
    let sort = rw c.theory-theory.ensures at c.hole_sort.ensures in
    owes_by_look c.args.self.now ok p (take cut p) (drop cut p) whole x c.in-Some.body.now (rw c.theory-theory.ensures at c.in-Some.ensures)
    (sorts_same c.hole_sort.result c.args.self.now.sort (sym c.ne.ensures ∙ c.if-ne.false) ∙ sort) long c.owed_there.result
    (subst P same c.owed_there.ensures)
