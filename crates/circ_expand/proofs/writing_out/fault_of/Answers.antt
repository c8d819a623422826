use Rattle.std.proofs.Common.{refl, subst}
use Rattle.circ_tasks.specs.Tasks.{Halts}
use Rattle.circ_tasks.specs.declared.tasks.Halt.{Halt}
use Rattle.circ_expand.proofs.writing_out.fault_of.Goals as goal

pub returns-in-Long : goal.returns-in-Long
returns-in-Long c = λ o h. let P : Halt → Type 0 = λ x. Halts o x in (subst P c.in-Long.is h, refl)

pub returns-in-Past : goal.returns-in-Past
returns-in-Past c = λ o h. let P : Halt → Type 0 = λ x. Halts o x in c.past.ensures o (subst P c.in-Past.is h)
