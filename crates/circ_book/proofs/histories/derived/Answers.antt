use Rattle.std.proofs.Common.{◌≡◌, ◌∷◌, ◌++◌, [], length, take, map, ap, ◌∙◌, arith}
use Rattle.circ_expansion.specs.Followed.{and_derived, Derived}
use Rattle.circ_book.specs.Histories.{history_at, histories_of}
use Rattle.circ_book.specs.declared.histories.Node.{Node}
use Rattle.circ_book.specs.declared.histories.What.TheVariants as what
use Rattle.circ_book.proofs.Below.{told_lists, tells_derived, told_of, new_in, taken_in}
use Rattle.circ_expansion.proofs.Alike.{longer}
use Rattle.circ_book.proofs.histories.derived.Goals as goal

pub returns : goal.returns
returns c = λ a.
    let ns = c.args.nodes.now.items in
    let ms = c.push.new.self.items in
    let gs = c.args.told.now.goals.items in
    let ds = c.args.told.now.derived.items in
    let us = c.push_front.new.self.items in
    let vs = c.push_front-2.new.self.items in
    let n = c.args.met.others in
    let x : Node = record { goal = c.args.met.goal; what = what.Derived c.in_ok-children.children } in
    let e : ms ≡ ns ++ x ∷ [] = c.in_ok-push.ensures.items in
    let f : us ≡ length ns ∷ take n gs =
    c.in_ok-push_front.ensures.items ∙ ap (λ k. k ∷ c.behind.new.goals.items) (c.len-number.ensures ∙ c.args.nodes.now.ok.0) ∙ ap (λ ks. length ns ∷ ks) c.in_ok-children.ensures.kept in
    let g : vs ≡ length ns ∷ ds = c.in_ok-push_front-2.ensures.items ∙ ap (λ k. k ∷ ds) (c.len-number.ensures ∙ c.args.nodes.now.ok.0) in (
      (x ∷ [], e),
      omega (arith, ap length e, longer ns x),
      record { goals = new_in ns ms x e (take n gs) us (taken_in (length ns) n gs a.goals) f; derived = new_in ns ms x e ds vs a.derived g },
      λ table.
          told_of table ns ms x e (length ns ∷ take n gs) (length ns ∷ ds) us vs f g (and_derived c.args.met.goal n (told_lists table ns gs ds))
          (tells_derived table ns x c.args.met.goal n gs ds (taken_in (length ns) n gs a.goals) a.derived
          (ap (λ ks. Derived c.args.met.goal (histories_of (map (history_at table ns) ks))) c.in_ok-children.ensures.taken)),
    )
