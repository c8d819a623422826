use Rattle.std.proofs.Common.{◌<◌, length, ap, subst, arith}
use Rattle.std.specs.List.{Contains}
use Rattle.circ_read.specs.Steps.{scope_of}
use Rattle.circ_read.proofs.Growing.{text_grows}
use Rattle.circ_read.proofs.Texts.{included_anew, included_broken}
use Rattle.circ_read.proofs.reader.Reader.include_text.Goals as goal

pub returns-in-Err : goal.returns-in-Err
returns-in-Err c =
    included_broken (scope_of c.args.self.now) c.args.name.now c.args.text.now c.requires.new c.requires.text c.take_vars-vars.new.self c.take_vars-vars.ensures.left c.in-Err.fault c.add_text.new.theory _ c.in-Err.ensures

pub returns : goal.returns
returns c =
    let w = included_anew (scope_of c.args.self.now) c.args.name.now c.args.text.now c.requires.new c.requires.text c.take_vars-vars.new.self c.take_vars-vars.ensures.left c.add_text.new.theory c.in-Ok.ensures in
    rw (c.put_vars.ensures, c.take_vars-vars.ensures.taken, c.in_ok-push.ensures.items, c.in_ok-name.ensures) w

pub put_vars-requires : goal.put_vars-requires
put_vars-requires c = λ d h.
    let g = text_grows c.take_vars-vars.new.self c.args.text.now c.add_text.new.theory c.in-Ok.ensures in
    let sort : d.sort < length c.args.self.now.theory.signature.sorts = c.known.ensures.variables d (subst (λ vs. Contains vs d) c.take_vars-vars.ensures.taken h) in
    let same = ap (λ th. length th.signature.sorts) c.take_vars-vars.ensures.left in
    omega arith
