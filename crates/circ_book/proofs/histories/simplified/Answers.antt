use Rattle.std.proofs.Common.{◌≡◌, ◌∷◌, ◌++◌, [], length, refl, ap, ◌∙◌, arith}
use Rattle.circ_proof.specs.Plain.{plain_chain}
use Rattle.circ_proof.specs.Link.{resolved_chain}
use Rattle.circ_expansion.specs.Followed.{and_simplified, Simplified}
use Rattle.circ_book.specs.Histories.{history_at}
use Rattle.circ_book.specs.declared.histories.Node.{Node}
use Rattle.circ_book.specs.declared.histories.What.TheVariants as what
use Rattle.circ_book.proofs.Below.{told_lists, tells_simplified, told_of, more_in, new_in, rest_in, rest_of, first_or, rest_dropped, first_popped}
use Rattle.circ_expansion.proofs.Alike.{longer}
use Rattle.circ_book.proofs.histories.simplified.Goals as goal

pub returns : goal.returns
returns c = λ a.
    let ns = c.args.nodes.now.items in
    let ms = c.push.new.self.items in
    let gs = c.args.told.now.goals.items in
    let ds = c.args.told.now.derived.items in
    let us = c.push_front.new.self.items in
    let x : Node = record { goal = c.args.goal; what = what.Simplified c.args.chain c.unwrap_or-next.result } in
    let e : ms ≡ ns ++ x ∷ [] = c.in_ok-push.ensures.items in
    let popped : c.pop_front.new.self.items ≡ rest_of gs = c.pop_front.ensures.rest ∙ rest_dropped gs in
    let next : c.unwrap_or-next.result ≡ first_or (length ns) gs =
    c.unwrap_or-next.ensures ∙ first_popped gs c.pop_front.new.self.items c.pop_front.result c.pop_front.ensures.items (λ h. c.pop_front.ensures.variant.1 (omega (arith, h, c.args.told.now.goals.ok.0))) c.len-number.result
    ∙ ap (λ n. first_or n gs) (c.len-number.ensures ∙ c.args.nodes.now.ok.0) in
    let f : us ≡ length ns ∷ rest_of gs =
    c.in_ok-push_front.ensures.items ∙ ap (λ k. k ∷ c.pop_front.new.self.items) (c.len-number.ensures ∙ c.args.nodes.now.ok.0) ∙ ap (λ ks. length ns ∷ ks) popped in (
      (x ∷ [], e),
      omega (arith, ap length e, longer ns x),
      record { goals = new_in ns ms x e (rest_of gs) us (rest_in (length ns) gs a.goals) f; derived = more_in ns ms x e ds a.derived },
      λ table.
          let chain = resolved_chain table (plain_chain c.args.chain.now) in
          told_of table ns ms x e (length ns ∷ rest_of gs) ds us ds f refl (and_simplified c.args.goal chain (told_lists table ns gs ds))
          (tells_simplified table ns x c.args.goal chain gs ds a.goals a.derived (ap (λ k. Simplified c.args.goal chain (history_at table ns k)) next)),
    )
