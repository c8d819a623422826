use Rattle.std.proofs.Common.{◌≡◌, [], ◌∷◌, ap, sym, subst, ◌∙◌}
use Rattle.std.proofs.lemmas.Option.{same_Some}
use Rattle.circ_term.specs.Tree.{replaced}
use Rattle.circ_term.proofs.Paths.{replaced_self}
use Rattle.circ_nodes.specs.Named.{IsNamed}
use Rattle.circ_nodes.proofs.Numbers.{named_one}
use Rattle.circ_tries.proofs.Faulting.{put_fault}
use Rattle.circ_tries.proofs.making.put_value.Goals as goal

pub returns-then-value-arg-clause-puts : goal.returns-then-value-arg-clause-puts
returns-then-value-arg-clause-puts c = λ t a v u named there na nv r w.
    let nodes = c.args.nodes.now in
    let one : a ≡ v = named_one nodes c.args.arg a v na (subst (λ n. IsNamed nodes n v) c.if-value-arg.true nv) in
    let same : t ≡ u = same_Some t u (sym (replaced_self (c.args.place ∷ []) t a there) ∙ ap (replaced t (c.args.place ∷ [])) one ∙ r) in
    subst (IsNamed nodes c.args.number) same named

pub returns-in-Err-clause-puts : goal.returns-in-Err-clause-puts
returns-in-Err-clause-puts c = λ t a v u named there na nv r w.
    rw c.rewrite_fault.ensures (put_fault u c.in-Err.fault (c.in-Err.ensures.interns t v u named nv r) w)
