use Rattle.std.proofs.Common.{◌+◌, arith}
use Rattle.circ_spelling.proofs.reached.after.Goals as goal

pub returns-in-Word : goal.returns-in-Word
returns-in-Word c = rw (c.in-Word.is) (λ ps m j a h r. (m + 1, omega arith, c.after_word.ensures m a h r.0, r.1))

pub returns-in-Hole : goal.returns-in-Hole
returns-in-Hole c = rw (c.in-Hole.is) (λ ps m j a h r.
    let l = r.1 in
    let n = r.2 in
    (r.0, omega arith, c.after_hole.ensures m a (omega arith) h r.0 r.3, r.4))
