use Rattle.std.proofs.Common.{◌≡◌, ◌∷◌, [], ◌++◌, length, take, ap, sym, ◌∙◌}
use Rattle.circ_uses.specs.Fronts.{shared_in}
use Rattle.circ_uses.proofs.Fronting.{cut_rest, shared_last}
use Rattle.circ_uses.proofs.fronts.Front.cut.Goals as goal

pub returns-in_ok-clone-in-Some-2 : goal.returns-in_ok-clone-in-Some-2
returns-in_ok-clone-in-Some-2 g c =
    let f = c.args.self.now in
    let xs = f.items.value.items in
    let rest = c.in-Some.rest.now in
    let whole : take f.count xs ≡ rest ++ c.in-Some.last.now ∷ [] = sym c.as_slice.ensures ∙ c.in-Some.ensures.cases.0 in
    ap shared_in whole ∙ shared_last rest c.in-Some.last.now ∙ ap (λ x. shared_in rest ++ x ∷ []) (sym c.in_ok-clone-in-Some.ensures.cases)
    ∙ ap (λ ys. shared_in ys ++ c.in_ok-clone-in-Some.field-0.value ∷ []) (sym (cut_rest xs rest f.count c.in-Some.last.now whole)
    ∙ ap (λ v. take (length rest) v.items) (sym c.in_ok-clone-in-Some-2.ensures.cases))
