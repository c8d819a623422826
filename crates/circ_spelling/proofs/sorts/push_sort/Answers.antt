use Rattle.circ_spelling.proofs.SortLists.{pushed_here, pushed_stay, pushed_seen}
use Rattle.circ_spelling.proofs.sorts.push_sort.Goals as goal

pub returns-clause-seen : goal.returns-clause-seen
returns-clause-seen c = pushed_seen c.args.seen.now.items c.see.new.seen.items c.args.sorts.now.items c.push.new.self.items c.args.sort c.in_ok-push.ensures.items c.see.ensures c.requires

pub returns-clause-here : goal.returns-clause-here
returns-clause-here c = pushed_here c.args.sorts.now.items c.push.new.self.items c.args.sort c.in_ok-push.ensures.items

pub returns-clause-stay : goal.returns-clause-stay
returns-clause-stay c = pushed_stay c.args.sorts.now.items c.push.new.self.items c.args.sort c.in_ok-push.ensures.items
