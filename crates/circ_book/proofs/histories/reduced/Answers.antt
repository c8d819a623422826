use Rattle.std.proofs.Common.{◌≡◌, ◌∷◌, ◌++◌, [], length, refl, ap, ◌∙◌, arith}
use Rattle.circ_proof.specs.Plain.{plain_why}
use Rattle.circ_proof.specs.Link.{resolved_why}
use Rattle.circ_expansion.specs.Followed.{and_reduced}
use Rattle.circ_book.specs.declared.histories.Node.{Node}
use Rattle.circ_book.specs.declared.histories.What.TheVariants as what
use Rattle.circ_book.proofs.Below.{told_lists, tells_reduced, told_of, more_in, new_in}
use Rattle.circ_expansion.proofs.Alike.{longer}
use Rattle.circ_book.proofs.histories.reduced.Goals as goal

pub returns : goal.returns
returns c = λ a.
    let ns = c.args.nodes.now.items in
    let ms = c.push.new.self.items in
    let gs = c.args.told.now.goals.items in
    let ds = c.args.told.now.derived.items in
    let us = c.push_front.new.self.items in
    let x : Node = record { goal = c.args.goal; what = what.Reduced c.args.why } in
    let e : ms ≡ ns ++ x ∷ [] = c.in_ok-push.ensures.items in
    let f : us ≡ length ns ∷ gs = c.in_ok-push_front.ensures.items ∙ ap (λ k. k ∷ gs) (c.len.ensures ∙ c.args.nodes.now.ok.0) in (
      (x ∷ [], e),
      omega (arith, ap length e, longer ns x),
      record { goals = new_in ns ms x e gs us a.goals f; derived = more_in ns ms x e ds a.derived },
      λ table.
          let w = resolved_why table (plain_why c.args.why.now) in
          told_of table ns ms x e (length ns ∷ gs) ds us ds f refl (and_reduced c.args.goal w (told_lists table ns gs ds))
          (tells_reduced table ns x c.args.goal w gs ds a.goals a.derived refl),
    )
