use Rattle.std.proofs.Common.{◌≡◌, ◌++◌, ◌∷◌, [], map, ap, ◌∙◌}
use Rattle.std.proofs.lemmas.List.{map-append}
use Rattle.circ_term.specs.Tree.{App, none, sort_of}
use Rattle.circ_theory.specs.Theory.{pair_with}
use Rattle.circ_theory.specs.Pairs.{plain_pair}
use Rattle.circ_theory.specs.Derivable.{is_case}
use Rattle.circ_theory.specs.Observing.{case_list}
use Rattle.circ_expansion.specs.Expand.{basis}
use Rattle.circ_tasks.specs.Tasks.{basis_of, followed_at_end}
use Rattle.circ_link_steps.proofs.reason_steps.case_basis.Goals as goal

pub returns : goal.returns
returns c = λ all.
    let fr = c.args.frame.now in
    let b = c.args.basis.now in
    let t = c.args.term.now in
    let k = c.args.constant in
    let left = c.in_ok-left.ensures.same in
    let right = c.in_ok-right.ensures ∙ ap (λ s. App k s none) c.sort.ensures in
    let before = c.in_ok-assumptions.ensures ∙ ap (map plain_pair) c.as_slice.ensures.value in
    let list : map plain_pair c.push.new.self.items ≡ map plain_pair b.assumptions.items ++ is_case t (case_list (sort_of t) all) k ∷ [] =
    ap (map plain_pair) c.in_ok-push.ensures.items
    ∙ map-append plain_pair c.in_ok-assumptions.assumptions.items (record { left = c.in_ok-left.left; right = c.in_ok-right.right } ∷ [])
    ∙ (λ i. before i ++ pair_with (left i) (right i) ∷ []) in
    ap (basis_of fr) c.in_ok-new.ensures.ok ∙ ap (basis (followed_at_end fr b.block) b.raised) list
