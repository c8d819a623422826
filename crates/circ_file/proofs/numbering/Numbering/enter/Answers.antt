use Rattle.std.proofs.Common.{◌<◌, ◌≤◌, ◌++◌, ◌∷◌, [], ◌∙◌, ℕ, List, length, length-append, ap, sym, subst, arith}
use Rattle.circ_file.specs.Numbering.{AreNumbered}
use Rattle.circ_file.proofs.Numbered.{entry_args, entry_grown, entered_old, entered_new}
use Rattle.circ_file.proofs.numbering.Numbering.enter.Goals as goal

pub enter-requires : goal.enter-requires
enter-requires c = entry_args c.requires.1.numbered c.args.term.now c.requires.2

pub unreachable-requires : goal.unreachable-requires
unreachable-requires c =
    let a = rw c.in-None.is at c.in_ok-number.ensures in
    let g = entry_grown c.requires.1.numbered c.args.term.now in
    omega (arith, a.1, g, c.requires.3)

pub returns-then-number-len : goal.returns-then-number-len
returns-then-number-len c table is e short =
    let a = rw c.in-Some.is at c.in_ok-number.ensures in
    let t = c.args.term.now in
    let below : c.in-Some.number < length c.args.self.now.firsts.items = omega arith in
    record {
      lines = omega (arith, is.lines, length-append table (t ∷ []));
      short_table = omega (arith, short, length-append table (t ∷ []));
      numbered = entered_old is.numbered t c.enter.new.self c.in-Some.number a.0 a.1 below;
    }

pub returns : goal.returns
returns c table is e short =
    let a = rw c.in-Some.is at c.in_ok-number.ensures in
    let t = c.args.term.now in
    let firsts = c.args.self.now.firsts.items in
    let above : length firsts ≤ c.in-Some.number = omega arith in
    let P : List ℕ → Type 0 = λ fs. AreNumbered (table ++ t ∷ []) c.enter.new.self fs in
    record {
      lines = omega (arith, is.lines, length-append table (t ∷ []));
      short_table = omega (arith, short, length-append table (t ∷ []));
      numbered = subst P (sym (c.in_ok-push-in-Some.ensures.items ∙ ap (λ n. firsts ++ n ∷ []) is.lines))
          (entered_new is.numbered t c.enter.new.self c.in-Some.number a.0 a.1 above);
    }
