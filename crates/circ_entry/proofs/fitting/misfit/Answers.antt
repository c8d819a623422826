-- Where no entry is a misfit, all fit.
use Rattle.std.proofs.Common.{◌≡◌, ◌+◌, List, [], None, false, sym, ◌∙◌, subst, refl}
use Rattle.std.proofs.lemmas.List.{drop_all}
use Rattle.circ_theory.specs.Observing.{is_hidden}
use Rattle.circ_entry.specs.declared.entries.Entry.{Entry}
use Rattle.circ_entry.specs.Entries.{first_misfit}
use Rattle.circ_entry.specs.Plain.{plain_entries}
use Rattle.circ_entry.proofs.Written.{no_misfit}
use Rattle.circ_entry.proofs.fitting.misfit.Goals as goal

pub returns-clause-fits : goal.returns-clause-fits
returns-clause-fits c = λ a e.
    let th = c.args.theory.now in
    let k = c.loop-place.place in
    let gone = drop_all k c.args.entries.now c.loop-place-test.false in
    let P : List Entry → Type 0 = λ es. first_misfit th (k + 1) c.loop-place.here (plain_entries es) ≡ first_misfit th 1 c.args.sort (plain_entries c.args.entries.now) in
    let left : first_misfit th (k + 1) c.loop-place.here [] ≡ first_misfit th 1 c.args.sort (plain_entries c.args.entries.now) = subst P gone c.loop-place.invariant in
    let seen : is_hidden th c.loop-place.here ≡ false = sym c.is_hidden.ensures.exact ∙ c.if-is_hidden.false in
    let none : first_misfit th (k + 1) c.loop-place.here [] ≡ None = rw seen refl in
    no_misfit th 1 c.args.sort (plain_entries c.args.entries.now) a (sym left ∙ none)
