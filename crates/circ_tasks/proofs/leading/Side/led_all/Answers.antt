use Rattle.std.proofs.Common.{◌+◌, ℕ, List, Option, drop, ap, sym, subst, ◌∙◌}
use Rattle.circ_term.specs.Limits.{Limit, Names}
use Rattle.circ_term.proofs.Within.{drop_read}
use Rattle.circ_proof.specs.Plain.{plain_link, plain_links}
use Rattle.circ_proof.specs.Link.{resolved_link, resolved_links}
use Rattle.circ_proof.specs.declared.links.Link.{Link}
use Rattle.circ_expansion.specs.Followed.{led, led_all}
use Rattle.circ_expansion.specs.Expand.{link_terms, trail}
use Rattle.circ_tasks.specs.Settings.{setting_of}
use Rattle.circ_uses.specs.Uses.{first_of}
use Rattle.circ_uses.proofs.Rising.{names_first, none_first}
use Rattle.circ_tasks.proofs.leading.Side.led_all.Goals as goal

pub returns-in-Err : goal.returns-in-Err
returns-in-Err c =
    let self = c.args.self.now in
    let S = setting_of self in
    let table = self.table.now in
    let R = λ (xs : List (Link ℕ)). resolved_links table (plain_links xs) in
    let i = c.loop-link.link-index in
    let x = c.link-item.result in
    let t = c.loop-link.here in
    let e = drop_read c.args.links.now i x c.loop-link-test.true c.link-item.is in
    let l = resolved_link table (plain_link x) in
    let N : Option Limit → Type 0 = Names c.in-Err.fault in
    subst N (ap (λ xs. first_of (trail S (R xs) t)) (sym e) ∙ c.loop-link.invariant.limits)
    (names_first (link_terms S l t) (trail S (R (drop (i + 1) c.args.links.now)) (led S l t)) c.in-Err.fault c.in-Err.ensures)

pub loop-link-preserved : goal.loop-link-preserved
loop-link-preserved c =
    let self = c.args.self.now in
    let S = setting_of self in
    let table = self.table.now in
    let R = λ (xs : List (Link ℕ)). resolved_links table (plain_links xs) in
    let i = c.loop-link.link-index in
    let x = c.link-item.result in
    let t = c.loop-link.here in
    let e = drop_read c.args.links.now i x c.loop-link-test.true c.link-item.is in
    let l = resolved_link table (plain_link x) in
    let rest = R (drop (i + 1) c.args.links.now) in
    record {
      same = ap (led_all S rest) c.in-Ok.ensures.0 ∙ ap (λ xs. led_all S (R xs) t) (sym e) ∙ c.loop-link.invariant.same;
      limits = ap (λ u. first_of (trail S rest u)) c.in-Ok.ensures.0
          ∙ sym (none_first (link_terms S l t) (trail S rest (led S l t)) c.in-Ok.ensures.1)
          ∙ ap (λ xs. first_of (trail S (R xs) t)) (sym e) ∙ c.loop-link.invariant.limits;
    }
