use Rattle.std.proofs.Common.{◌≡◌, ◌≢◌, ◌<◌, ◌-◌, ◌+◌, List, ℕ, [], ◌∷◌, ◌++◌, map, Option, refl, ap, sym, ◌∙◌, subst, arith}
use Rattle.circ_term.specs.Limits.{Limit, Names}
use Rattle.circ_theory.proofs.Lists.{map-push}
use Rattle.circ_entry.specs.Entries.{Written}
use Rattle.circ_refute.specs.PlainRefutation.{first_parameter}
use Rattle.circ_refute.specs.Plain.{pair_of, entries_by, led_to, descendants, HaveOrigins}
use Rattle.circ_refute.specs.Progress.{Progress, progress, progress_of, progress_with, conclusion_from, conclusion_of_expanding, work, HasRoom, HaltsWith}
use Rattle.circ_refute.specs.declared.descendant.Descendant.{Descendant}
use Rattle.circ_refute.specs.declared.halt.Halt.{Halt}
use Rattle.circ_refute.proofs.Origins.{this, new, children_limit, queue_after, origins_after}
use Rattle.circ_refute.proofs.Turning.{after_expanding, expand_on, expand_past, room_after, work_after, first_low}
use Rattle.circ_refute.proofs.refuter.Refuter.expand.Goals as goal

pub returns-clause-goes : goal.returns-clause-goes
returns-clause-goes c =
    let s = c.args.self.now in
    let th = s.theory.now in
    let xs : List Descendant = s.expanded.items in
    let ys : List Descendant = s.queue.items in
    let p : Progress = progress s in
    let o = c.args.origin in
    let by : List Written = entries_by th (led_to th xs) o in
    let l = c.args.left in
    let m = c.args.right in
    let k : ℕ = first_parameter l m in
    let some : p.derives ≢ 0 = λ e. absurd (omega (arith, c.if-self-eq0.false, e)) in
    let made = rw c.in-Ok.is at c.push_children.ensures in
    let put = ap (λ n. ys ++ descendants n l m k 0 th.derivatives) (c.len-parent.ensures ∙ s.expanded.ok.0) in
    let within = children_limit by c.len-parent.result l m k 0 th.derivatives ∙ made.0 in
    let xs' : List Descendant = xs ++ this th xs ys c.requires.origins l m o c.requires.origin k ∷ [] in
    let ys' : List Descendant = ys ++ new th xs ys c.requires.origins l m o c.requires.origin k in
    let after : Progress = after_expanding th p by l m in
    let is : progress_of th xs' ys' s.rewrites (s.derives - 1) ≡ after
    = ap (λ ws. progress_with ws (map pair_of xs') s.rewrites (s.derives - 1)) (queue_after th xs ys c.requires.origins l m o c.requires.origin k)
    ∙ ap (λ es. progress_with after.queue es s.rewrites (s.derives - 1)) (map-push pair_of xs _) in
    let P : Progress → Type 0 = λ q. (conclusion_of_expanding th p by l m ≡ conclusion_from th q) × HasRoom th q × (work q < work p + 1) in
    let all : P after = (
      expand_on th p by l m some within,
      room_after th c.known.ensures p c.requires.room.rest by l m c.requires.room.pair some,
      work_after th c.known.ensures p by l m some,
    ) in
    let Q : List Descendant → Type 0 = λ qs. P (progress_of th xs' qs s.rewrites (s.derives - 1)) in
    let E : List Descendant → Type 0 = λ es. P (progress_of th es c.push_children.new.queue.items s.rewrites (s.derives - 1)) in
    subst E (sym c.in_ok-push.ensures.items) (subst Q (sym (made.1 ∙ put)) (subst P (sym is) all))

pub returns-clause-origins : goal.returns-clause-origins
returns-clause-origins c =
    let s = c.args.self.now in
    let th = s.theory.now in
    let xs : List Descendant = s.expanded.items in
    let ys : List Descendant = s.queue.items in
    let o = c.args.origin in
    let l = c.args.left in
    let m = c.args.right in
    let k : ℕ = first_parameter l m in
    let made = rw c.in-Ok.is at c.push_children.ensures in
    let put = ap (λ n. ys ++ descendants n l m k 0 th.derivatives) (c.len-parent.ensures ∙ s.expanded.ok.0) in
    let r = c.requires.room.rest in
    let low = first_low th r.bound r.some l m c.requires.room.pair in
    let xs' : List Descendant = xs ++ this th xs ys c.requires.origins l m o c.requires.origin k ∷ [] in
    let all = origins_after th xs ys c.requires.origins l m o c.requires.origin k (omega (arith, low, r.room)) in
    let Q : List Descendant → Type 0 = λ qs. HaveOrigins xs' qs in
    let E : List Descendant → Type 0 = λ es. HaveOrigins es c.push_children.new.queue.items in
    subst E (sym c.in_ok-push.ensures.items) (subst Q (sym (made.1 ∙ put)) all)

pub returns-in-Err-clause-goes : goal.returns-in-Err-clause-goes
returns-in-Err-clause-goes c =
    let s = c.args.self.now in
    let th = s.theory.now in
    let xs : List Descendant = s.expanded.items in
    let p : Progress = progress s in
    let by : List Written = entries_by th (led_to th xs) c.args.origin in
    let l = c.args.left in
    let m = c.args.right in
    let some : p.derives ≢ 0 = λ e. absurd (omega (arith, c.if-self-eq0.false, e)) in
    let N : Option Limit → Type 0 = Names c.in-Err.fault in
    let past = subst N (sym (children_limit by c.len-parent.result l m (first_parameter l m) 0 th.derivatives)) (rw c.in-Err.is at c.push_children.ensures) in
    let new : Progress = progress_of th xs c.push_children.new.queue.items s.rewrites (s.derives - 1) in
    let H : Halt → Type 0 = HaltsWith (conclusion_of_expanding th p by l m) new in
    subst H (sym c.of_term.ensures) (expand_past th p by l m new some c.in-Err.fault past refl refl)
