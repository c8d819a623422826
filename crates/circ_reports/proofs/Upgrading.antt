-- Want of memory refuses `upgrade`.
use Rattle.std.proofs.Common.{◌≡◌, List, ℕ, sym, subst}
use Rattle.circ_outer.specs.Shelf.{ShelfState}
use Rattle.circ_status.specs.declared.status.Status.{Status}
use Rattle.circ_status.specs.declared.status.Status.TheVariants as status
use Rattle.circ_reports.specs.Upgrade.{RefusesUpgrade, theory_fault}

pub memory_refuses : (theory proof : List ℕ) (before after : ShelfState) (s : Status) → s ≡ status.Memory → RefusesUpgrade theory proof before after s
memory_refuses theory proof before after s e =
    let P : Status → Type 0 = RefusesUpgrade theory proof before after in subst P (sym e) (theory_fault status.Memory tt)

pub ruleset refusing = (memory_refuses)
