use Rattle.circ_top.proofs.Requests.{expand_of}
use Rattle.circ_top.proofs.request.of_expand.Goals as goal

pub returns : goal.returns
returns c =
    let are = rw c.in-Some-2.is at c.in_ok-derivatives.ensures in
    expand_of c.args.words.now.limits c.args.words.now.name.now _ c.in-Some.goal c.in-Some-2.derivatives.items c.requires c.in-Some.ensures.1
    c.args.words.now.given.now c.in-len3-up.len_at_least c.in-Some.ensures.0 are
