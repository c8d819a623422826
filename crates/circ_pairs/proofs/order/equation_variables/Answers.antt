use Rattle.std.proofs.Common.{◌≡◌, [], map, length, ap, ◌∙◌, sym, arith}
use Rattle.std.specs.Bool.{⊤}
use Rattle.std.proofs.lemmas.Bool.Decides.{when_true}
use Rattle.circ_pairs.specs.Variables.{seen_in, seen_in_pairs, numbered}
use Rattle.circ_pairs.proofs.Numbering.{sorts-numbered, seen_in_before, seen_in_pairs_before}
use Rattle.circ_pairs.proofs.Ruling.{bound_by}
use Rattle.circ_pairs.proofs.order.equation_variables.Goals as goals

pub returns : goals.returns
returns c =
    let l = c.args.left.now in
    let r = c.args.right.now in
    let E = c.args.conds.now in
    let sides = seen_in_pairs_before E (seen_in r (seen_in l [])) c.requires in
    let answer = rw c.new-sorts.ensures.items at c.in_ok-visit.ensures.answer in
    let seen = rw c.new-sorts.ensures.items at c.in_ok-visit.ensures.seen in
    let first : numbered 0 c.visit.new.sorts.items ≡ seen_in l [] = when_true _ ⊤ (answer.1 (seen_in_before r (seen_in l []) sides)) seen in
    let answer-2 = rw first at c.in_ok-visit-2.ensures.answer in
    let seen-2 = rw first at c.in_ok-visit-2.ensures.seen in
    let both : numbered 0 c.visit-2.new.sorts.items ≡ seen_in r (seen_in l []) = when_true _ ⊤ (answer-2.1 sides) seen-2 in
    let answer-3 = rw (both, c.as_slice.ensures) at c.in_ok-visit_pairs.ensures.answer in
    let seen-3 = rw (both, c.as_slice.ensures) at c.in_ok-visit_pairs.ensures.seen in
    let all : numbered 0 c.visit_pairs.new.sorts.items ≡ seen_in_pairs E (seen_in r (seen_in l [])) = when_true _ ⊤ (answer-3.1 c.requires) seen-3 in
    let count : c.len-count.result ≡ length c.visit.new.sorts.items = omega arith in
    let whole : c.len.result ≡ length c.visit_pairs.new.sorts.items = omega arith in
    record {
      sorts = sym (sorts-numbered 0 c.visit_pairs.new.sorts.items) ∙ ap (map (λ v. v.sort)) all;
      few = c.in_ok-visit_pairs.ensures.few (c.in_ok-visit-2.ensures.few (c.in_ok-visit.ensures.few (rw c.new-sorts.ensures.items (omega arith))));
      bound = rw (whole, count) (bound_by l r E c.visit.new.sorts.items c.visit_pairs.new.sorts.items first all);
    }
