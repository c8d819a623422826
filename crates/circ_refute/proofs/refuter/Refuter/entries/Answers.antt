use Rattle.std.proofs.Common.{◌≡◌, ◌<◌, ◌+◌, ◌∷◌, [], ◌++◌, List, Some, length, reverse, refl, ap, ◌∙◌, arith}
use Rattle.std.specs.List.{slice_get}
use Rattle.std.proofs.lemmas.Option.{slice_get_read}
use Rattle.circ_theory.proofs.Lists.{map-push}
use Rattle.circ_entry.specs.Entries.{Written}
use Rattle.circ_entry.specs.Plain.{plain_entry, plain_entries}
use Rattle.circ_refute.specs.Plain.{entries_by, entry_of, led_to}
use Rattle.circ_refute.specs.declared.descendant.Descendant.{Descendant}
use Rattle.circ_refute.proofs.Origins.{entries_step, map_reverse, origin_at, origin_more, steps_fewer, steps_left}
use Rattle.circ_refute.proofs.refuter.Refuter.entries.Goals as goal

pub loop-last-smaller : goal.loop-last-smaller
loop-last-smaller c =
    let xs : List Descendant = c.args.self.now.expanded.items in
    let o = c.in-Some.origin in
    let x : Descendant = c.index.result.now in
    let last = rw c.in-Some.is at c.loop-last.invariant.last in
    let there : slice_get xs o.parent ≡ Some x = slice_get_read xs (length xs) o.parent x refl last.parent c.index.ensures in
    let fewer = steps_fewer (0 + o.parent) x.origin (origin_at 0 xs c.requires.origins.before o.parent x there) in
    let e = ap steps_left c.in-Some.is in
    let less : steps_left x.origin < steps_left c.loop-last.last = omega (arith, fewer, e) in
    less

pub loop-last-preserved : goal.loop-last-preserved
loop-last-preserved c =
    let th = c.args.self.now.theory.now in
    let xs : List Descendant = c.args.self.now.expanded.items in
    let o = c.in-Some.origin in
    let x : Descendant = c.index.result.now in
    let last = rw c.in-Some.is at c.loop-last.invariant.last in
    let there : slice_get xs o.parent ≡ Some x = slice_get_read xs (length xs) o.parent x refl last.parent c.index.ensures in
    let from = origin_at 0 xs c.requires.origins.before o.parent x there in
    let es : List Written = plain_entries c.loop-last.entries.items in
    let pushed : plain_entries c.push.new.self.items ≡ es ++ entry_of th o ∷ [] =
    ap plain_entries c.in_ok-push.ensures.items ∙ map-push plain_entry c.loop-last.entries.items c.in_ok-entry.field-0
    ∙ ap (λ e. es ++ e ∷ []) c.in_ok-entry.ensures in
    record {
      last = origin_more (0 + o.parent) (length xs) x.origin (omega (arith, last.parent)) from;
      entries = ap (λ ys. entries_by th (led_to th xs) x.origin ++ reverse ys) pushed ∙ entries_step th xs c.requires.origins.before o x there es
          ∙ (rw c.in-Some.is at c.loop-last.invariant.entries);
    }

pub returns : goal.returns
returns c =
    ap plain_entries c.reverse.ensures.items ∙ map_reverse plain_entry c.loop-last.entries.items ∙ (rw c.in_default.is at c.loop-last.invariant.entries)
