use Rattle.std.proofs.Common.{◌≡◌, ◌-◌, ◌≤◌, ℕ, Option, Some, suc, ap, sym, subst, ◌∙◌, arith}
use Rattle.circ_term.specs.Limits.{first_limit, Names}
use Rattle.circ_nodes.specs.Named.{tree_at}
use Rattle.circ_nodes.proofs.Building.{built_later}
use Rattle.circ_nodes.proofs.Numbers.{named_below, named_one}
use Rattle.circ_due.proofs.Later.{ready_later}
use Rattle.circ_rewrite.specs.Plain.{rewrite_fault}
use Rattle.circ_rewrite.specs.Replacement.{Replacement}
use Rattle.circ_conditional_norm.specs.Work.{Work, Made, LeavesAtMost}
use Rattle.circ_conditional_norm.specs.Within.{is_past}
use Rattle.circ_conditional_norm.proofs.Within.{inside}
use Rattle.circ_tries.specs.declared.parts.Stop.TheVariants as stop
use Rattle.circ_tries.specs.Turning.{plain_room, StopsAt}
use Rattle.circ_tries.proofs.Rooting.{IsNamedWithin, choice_later, found_later, make_spent, make_faults, make_outgrows, make_steps}
use Rattle.circ_tries.proofs.making.make.Goals as goal

made_less : (k l : ℕ) (d : Replacement) (w : Work (Option Replacement)) → w ≡ Made (Some d) l → LeavesAtMost k w → l ≤ k
made_less k l d w e h = subst (LeavesAtMost k) e h

pub returns-then-budget-eq0-clause-makes : goal.returns-then-budget-eq0-clause-makes
returns-then-budget-eq0-clause-makes c = λ due falls from t d k named f root e.
    make_spent due falls c.args.room c.args.nodes.now from t d k root (e ∙ ap (Made (Some d)) c.if-budget-eq0.true) c.args.budget.now c.if-budget-eq0.true

pub build-requires-clause-chosen : goal.build-requires-clause-chosen
build-requires-clause-chosen c = let f = c.requires.found in (f.0, f.3.0, f.3.1)

pub returns-in-Err-clause-makes : goal.returns-in-Err-clause-makes
returns-in-Err-clause-makes c = λ due falls from t d k named f root e.
    let z : suc (c.args.budget.now - 1) ≡ c.args.budget.now = omega (arith, c.if-budget-eq0.false) in
    let names = c.in-Err.ensures.interns t f.0 named f.1 in
    let new : f.0.new ≡ d.new = ap (λ (x : Replacement). x.new) (sym f.2) in
    rw c.rewrite_fault.ensures
    (subst (λ n. StopsAt due c.args.room c.build.new.nodes from t k n (stop.Fault (rewrite_fault c.in-Err.fault))) z
    (make_faults due falls c.args.room c.build.new.nodes from t d k root (c.args.budget.now - 1) (e ∙ ap (Made (Some d)) (sym z)) c.in-Err.fault
    (subst (λ x. Names c.in-Err.fault (first_limit x)) new names)))

pub known_at-requires : goal.known_at-requires
known_at-requires c =
    let f = c.requires.found in
    named_below c.build.new.nodes c.in-Ok.new f.3.0.new (c.in-Ok.ensures.interns f.0 f.3.0 f.2 f.3.1).0

pub returns-then-is_past-clause-makes : goal.returns-then-is_past-clause-makes
returns-then-is_past-clause-makes c = λ due falls from t d k named f root e.
    let r : Replacement = f.0 in
    let made = c.in-Ok.ensures.interns t r named f.1 in
    let is = named_one c.build.new.nodes c.in-Ok.new (tree_at c.build.new.nodes c.in-Ok.new) r.new c.known_at.ensures.named made.0 in
    let new : r.new ≡ d.new = ap (λ (x : Replacement). x.new) (sym f.2) in
    let z : suc (c.args.budget.now - 1) ≡ c.args.budget.now = omega (arith, c.if-budget-eq0.false) in
    let here = subst (λ x. IsNamedWithin c.build.new.nodes c.in-Ok.new x) new made in
    subst (λ n. StopsAt due c.args.room c.build.new.nodes from t k n (stop.Outgrows c.in-Ok.new)) z
    (make_outgrows due falls c.args.room c.build.new.nodes from t d k root (c.args.budget.now - 1) c.in-Ok.new (e ∙ ap (Made (Some d)) (sym z)) here.0 here.1
    (ap (is_past (plain_room c.args.room)) (sym (is ∙ new)) ∙ sym c.is_past.ensures ∙ c.if-is_past.true))

pub write-requires-clause-ready : goal.write-requires-clause-ready
write-requires-clause-ready c = ready_later c.args.nodes.now c.build.new.nodes c.args.means.now c.build.ensures.grows c.requires.ready

pub write-requires-clause-there : goal.write-requires-clause-there
write-requires-clause-there c =
    let f = c.requires.found in
    named_below c.build.new.nodes c.in-Ok.new f.3.0.new (c.in-Ok.ensures.interns f.0 f.3.0 f.2 f.3.1).0

pub write-requires-clause-chosen : goal.write-requires-clause-chosen
write-requires-clause-chosen c =
    let f = c.requires.found in
    (f.0, f.3.0, choice_later c.args.nodes.now c.build.new.nodes c.build.ensures.grows c.args.means.now f.0 c.args.found.choice f.3.0 f.3.1)

pub write-requires-clause-built : goal.write-requires-clause-built
write-requires-clause-built c = built_later c.args.nodes.now c.build.new.nodes c.args.terms.now c.build.ensures.grows c.requires.built

pub returns-clause-makes : goal.returns-clause-makes
returns-clause-makes c = λ due falls from t d k named f root e.
    let r : Replacement = f.0 in
    let path = c.args.course.now.path.items in
    let new = c.build.new.nodes in
    let made = c.in-Ok.ensures.interns t r named f.1 in
    let is = named_one new c.in-Ok.new (tree_at new c.in-Ok.new) r.new c.known_at.ensures.named made.0 in
    let same : r.new ≡ d.new = ap (λ (x : Replacement). x.new) (sym f.2) in
    let z : suc (c.args.budget.now - 1) ≡ c.args.budget.now = omega (arith, c.if-budget-eq0.false) in
    let here = subst (λ x. IsNamedWithin new c.in-Ok.new x) same made in
    let within = inside (plain_room c.args.room) d.new (ap (is_past (plain_room c.args.room)) (sym (is ∙ same)) ∙ sym c.is_past.ensures ∙ c.if-is_past.false) in
    let later = found_later c.args.nodes.now new c.build.ensures.grows c.args.means.now t c.args.found d f in
    make_steps due falls c.args.room new from t d k root path c.args.course.now c.write.new.course (c.args.budget.now - 1) c.in-Ok.new (e ∙ ap (Made (Some d)) (sym z))
    (omega (arith, c.if-budget-eq0.false, made_less k c.args.budget.now d (due k t) e (falls k t))) here.0 here.1 (record { small = within.0; shallow = within.1 })
    (c.in_ok-write.ensures.writes t d later here.0)
