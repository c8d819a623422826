use Rattle.circ_chart.proofs.memo.kept.Goals as goal

pub returns-clause-kept : goal.returns-clause-kept
returns-clause-kept c = λ g ts a h. c.in_ok-keep.ensures g ts a (rw (c.in_ok-copy.ensures) h)
