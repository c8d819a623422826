use Rattle.std.proofs.Common.{◌∙◌}
use Rattle.circ_written.proofs.Ropes.{put_half, put_whole, put_is}
use Rattle.circ_written.proofs.nodes.put_node.Goals as goal

pub returns-in_err-push-2-clause-whole : goal.returns-in_err-push-2-clause-whole
returns-in_err-push-2-clause-whole c =
    put_half c.args.nodes.now.items c.push.new.self.items c.args.stack.now.items c.push-2.new.self.items c.args.node c.in_ok-push.ensures.items
    c.in_err-push-2.ensures.items c.requires.whole c.requires.before

pub returns-clause-whole : goal.returns-clause-whole
returns-clause-whole c =
    put_whole c.args.nodes.now.items c.push.new.self.items c.args.stack.now.items c.push-2.new.self.items c.args.node c.len-number.result
    c.in_ok-push.ensures.items c.in_ok-push-2.ensures.items (c.len-number.ensures ∙ c.args.nodes.now.ok.0) c.requires.whole c.requires.before

pub returns-clause-added : goal.returns-clause-added
returns-clause-added c =
    put_is c.args.nodes.now.items c.push.new.self.items c.args.stack.now.items c.push-2.new.self.items c.args.node c.len-number.result
    c.in_ok-push.ensures.items c.in_ok-push-2.ensures.items (c.len-number.ensures ∙ c.args.nodes.now.ok.0) c.requires.whole
