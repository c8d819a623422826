use Rattle.std.proofs.Common.{◌∙◌}
use Rattle.circ_plain_search.specs.BlockRules.{hidden_lemmas}
use Rattle.circ_join.specs.Sweeping.{plain_swept}
use Rattle.circ_trace.proofs.Accounts.{swept_here, left_hindered, right_hindered, both_swept}
use Rattle.circ_trace.proofs.accounting.pass_deed.Goals as goal

pub returns-in-Err-clause-exact : goal.returns-in-Err-clause-exact
returns-in-Err-clause-exact c = λ E red lemmas.
    let th = c.args.search.now.theory.now in
    let G = c.args.search.now.gamma.now in
    let g = c.args.goal.now in
    let h = rw c.in-Err.is at (swept_here plain_swept th E g.conds c.args.reducer.now G c.args.lemmas.now (hidden_lemmas th 0 E) g.left c.args.budget c.pass.new.budget c.pass.result
    red lemmas c.pass.ensures.exact) in
    left_hindered th G E g c.in-Err.fault c.args.budget c.pass.new.budget h c.ends_unless_memory.result c.ends_unless_memory.ensures.ends
    c.ends_unless_memory.ensures.stopped

pub returns-in-Err-pass-clause-exact : goal.returns-in-Err-pass-clause-exact
returns-in-Err-pass-clause-exact c = λ E red lemmas.
    let th = c.args.search.now.theory.now in
    let G = c.args.search.now.gamma.now in
    let g = c.args.goal.now in
    let one = rw c.in-Ok.is at (swept_here plain_swept th E g.conds c.args.reducer.now G c.args.lemmas.now (hidden_lemmas th 0 E) g.left c.args.budget c.pass.new.budget
    c.pass.result red lemmas c.pass.ensures.exact) in
    let h = rw c.in-Err-pass.is at (swept_here plain_swept th E g.conds c.pass.new.reducer G c.args.lemmas.now (hidden_lemmas th 0 E) g.right c.pass.new.budget
    c.pass-in-Ok.new.budget c.pass-in-Ok.result (c.pass.ensures.same ∙ red) lemmas c.pass-in-Ok.ensures.exact) in
    right_hindered th G E g (plain_swept c.in-Ok.left) c.in-Err-pass.fault c.args.budget c.pass.new.budget c.pass-in-Ok.new.budget one h
    c.ends_unless_memory-in-Err-pass.result c.ends_unless_memory-in-Err-pass.ensures.ends c.ends_unless_memory-in-Err-pass.ensures.stopped

pub returns-clause-exact : goal.returns-clause-exact
returns-clause-exact c = λ E red lemmas.
    let th = c.args.search.now.theory.now in
    let G = c.args.search.now.gamma.now in
    let g = c.args.goal.now in
    let one = rw c.in-Ok.is at (swept_here plain_swept th E g.conds c.args.reducer.now G c.args.lemmas.now (hidden_lemmas th 0 E) g.left c.args.budget c.pass.new.budget
    c.pass.result red lemmas c.pass.ensures.exact) in
    let other = rw c.in-Ok-pass.is at (swept_here plain_swept th E g.conds c.pass.new.reducer G c.args.lemmas.now (hidden_lemmas th 0 E) g.right c.pass.new.budget
    c.pass-in-Ok.new.budget c.pass-in-Ok.result (c.pass.ensures.same ∙ red) lemmas c.pass-in-Ok.ensures.exact) in
    both_swept th G E g (plain_swept c.in-Ok.left) (plain_swept c.in-Ok-pass.right) c.args.budget c.pass.new.budget c.pass-in-Ok.new.budget one other c.swept_deed.result
    (rw (c.as_slice.ensures.value, c.as_slice-in-Ok-pass.ensures.value) at c.swept_deed.ensures)
