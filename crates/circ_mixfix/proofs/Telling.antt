-- The answer that tells of what was found.
use Rattle.std.proofs.Common.{◌≡◌, ◌⊎◌, List, None, Result, inl, inr, sym, ◌∙◌, subst, refl}
use Rattle.std.specs.Prelude.{IfOk}
use Rattle.circ_term.specs.Tree.{Tree}
use Rattle.circ_chart.specs.Few.{Differ}
use Rattle.circ_mixfix.specs.declared.few.Reading.{Reading}
use Rattle.circ_mixfix.specs.declared.few.Few.{Few}
use Rattle.circ_mixfix.specs.declared.few.Few.TheVariants.{Empty, One, Two}
use Rattle.circ_mixfix.specs.declared.parse.ParseFault.{ParseFault}
use Rattle.circ_mixfix.specs.Answers.{GivesReading}
use Rattle.circ_mixfix.specs.Found.{In, KeepsReadings, Tells}

pub told : (found : Few) (r : Result Reading ParseFault) (P : List Tree → Type 0) → KeepsReadings found P → Tells found r → GivesReading r None P
told Empty r P k e =
    let Q : Result Reading ParseFault → Type 0 = λ x. GivesReading x None P in
    subst Q (sym e) (refl, λ ts p. none ts (k.enough.enough ts p))
  where
    none : (ts : List Tree) → (In Empty ts ⊎ Differ (In Empty)) → ⊥
    none ts (inl h) = h
    none ts (inr d) = d.in_first
told (One a) r P k e =
    let Q : Result Reading ParseFault → Type 0 = λ x. GivesReading x None P in
    subst Q (sym e) (refl, k.enough.sound a.terms.items refl, λ ts p. only ts (k.enough.enough ts p))
  where
    only : (ts : List Tree) → (In (One a) ts ⊎ Differ (In (One a))) → ts ≡ a.terms.items
    only ts (inl h) = h
    only ts (inr d) = absurd (d.apart (d.in_first ∙ sym d.in_second))
told (Two a b) r P k e =
    let Q : Result Reading ParseFault → Type 0 = λ x. GivesReading x None P in
    subst Q (sym e) (refl, k.enough.sound a.terms.items (inl refl), k.enough.sound b.terms.items (inr refl), k.ordered)

-- what is true of all that was found is true of what is answered
pub if_answered : (found : Few) (r : Result Reading ParseFault) (Q : List Tree → Type 0) → Tells found r → ((ts : List Tree) → In found ts → Q ts) → IfOk r (λ x. Q x.terms.items)
if_answered Empty r Q t h = let P : Result Reading ParseFault → Type 0 = λ y. IfOk y (λ x. Q x.terms.items) in subst P (sym t) tt
if_answered (One a) r Q t h = let P : Result Reading ParseFault → Type 0 = λ y. IfOk y (λ x. Q x.terms.items) in subst P (sym t) (h a.terms.items refl)
if_answered (Two a b) r Q t h = let P : Result Reading ParseFault → Type 0 = λ y. IfOk y (λ x. Q x.terms.items) in subst P (sym t) tt
