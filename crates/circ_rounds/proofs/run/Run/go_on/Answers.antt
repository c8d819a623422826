use Rattle.std.proofs.Common.{ap, ◌∙◌}
use Rattle.circ_attempt.specs.Attempt.{has_stood}
use Rattle.circ_rounds.specs.Running.{sides_of, stood_of}
use Rattle.circ_rounds.proofs.Standing.{stood_reversed, stood_more, stood_ends, stood_goes}
use Rattle.circ_rounds.proofs.run.Run.go_on.Goals as goal

pub returns-then-has_stood : goal.returns-then-has_stood
returns-then-has_stood c = λ again k.
    let r = c.args.self.now in
    let stands = stood_reversed r.left r.right r.stood.items c.has_stood.result (c.has_stood.ensures ∙ ap (has_stood r.left r.right) c.as_slice.ensures.value) in
    stood_ends (stood_of r) (sides_of r) again k (stands ∙ c.if-has_stood.true)

pub returns : goal.returns
returns c = λ again k.
    let r = c.args.self.now in
    let stands = stood_reversed r.left r.right r.stood.items c.has_stood.result (c.has_stood.ensures ∙ ap (has_stood r.left r.right) c.as_slice.ensures.value) in
    let more =
    stood_more r.left r.right c.in_ok-share.field-0 c.in_ok-share-2.field-0 r.stood.items c.push-2.new.self.items c.in_ok-push.ensures.items c.in_ok-share.ensures.same
    c.in_ok-share-2.ensures.same in
    stood_goes (stood_of r) _ (sides_of r) again k (stands ∙ c.if-has_stood.false) more
