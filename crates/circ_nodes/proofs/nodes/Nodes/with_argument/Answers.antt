use Rattle.std.proofs.Common.{◌<◌, ℕ, List, length, Option, Err, refl, ap, sym, subst, inl, arith}
use Rattle.std.specs.List.{AllByRecursion}
use Rattle.circ_term.specs.Tree.{Tree, App}
use Rattle.circ_term.specs.Limits.{IsWithinLimits}
use Rattle.circ_nodes.specs.Named.{tree_at, AreNamed, InternsSome, EntersSome}
use Rattle.circ_nodes.proofs.Changing.{other_args, other_named, few_other, all_other, replaced_here, replaced_nowhere, replaced_same, replaced_variable}
use Rattle.circ_nodes.proofs.Located.{tree_named}
use Rattle.circ_nodes.proofs.Numbers.{named_below, named_one}
use Rattle.circ_nodes.proofs.nodes.Nodes.with_argument.Goals as goal

pub returns-in-Variable-clause-interns : goal.returns-in-Variable-clause-interns
returns-in-Variable-clause-interns c =
    let nodes = c.args.self.now in
    let t = tree_at nodes c.args.number in
    replaced_variable t (tree_at nodes c.args.new) _ _ c.args.place (c.in-Variable.ensures.shape t (tree_named nodes c.args.number c.requires.number))

pub returns-in-Variable-clause-enters : goal.returns-in-Variable-clause-enters
returns-in-Variable-clause-enters c =
    let nodes = c.args.self.now in
    let t = tree_at nodes c.args.number in
    let P : Option Tree → Type 0 = EntersSome nodes nodes in
    subst P (sym (replaced_variable t (tree_at nodes c.args.new) _ _ c.args.place (c.in-Variable.ensures.shape t (tree_named nodes c.args.number c.requires.number)))) refl

pub returns-then-place-args-clause-interns : goal.returns-then-place-args-clause-interns
returns-then-place-args-clause-interns c =
    let app = c.in-Application in
    replaced_nowhere c.args.self.now c.args.number app.op app.sort app.args.now c.args.place c.args.new c.requires.number c.requires.new app.ensures.shape
    (omega (arith, c.if-place-args.true))

pub returns-then-place-args-clause-enters : goal.returns-then-place-args-clause-enters
returns-then-place-args-clause-enters c =
    let nodes = c.args.self.now in
    let app = c.in-Application in
    let P : Option Tree → Type 0 = EntersSome nodes nodes in
    subst P (sym (replaced_nowhere nodes c.args.number app.op app.sort app.args.now c.args.place c.args.new c.requires.number c.requires.new app.ensures.shape
    (omega (arith, c.if-place-args.true)))) refl

pub returns-then-args-place-clause-interns : goal.returns-then-args-place-clause-interns
returns-then-args-place-clause-interns c =
    let nodes = c.args.self.now in
    let app = c.in-Application in (
      tree_at nodes c.args.number,
      replaced_same nodes c.args.number app.op app.sort app.args.now c.args.place c.args.new c.requires.number c.requires.new app.ensures.shape
          (omega (arith, c.if-place-args.false)) (omega (arith, c.if-args-place.true)),
      c.known_at.ensures.named,
      c.known_at.ensures.within,
    )

pub returns-then-args-place-clause-enters : goal.returns-then-args-place-clause-enters
returns-then-args-place-clause-enters c =
    let nodes = c.args.self.now in
    let app = c.in-Application in
    let P : Option Tree → Type 0 = EntersSome nodes nodes in
    subst P (sym (replaced_same nodes c.args.number app.op app.sort app.args.now c.args.place c.args.new c.requires.number c.requires.new app.ensures.shape
    (omega (arith, c.if-place-args.false)) (omega (arith, c.if-args-place.true)))) (inl (c.args.number, c.known_at.ensures.named, refl))

pub changed_fingerprint-key-requires : goal.changed_fingerprint-key-requires
changed_fingerprint-key-requires c =
    let app = c.in-Application in
    all_other c.args.self.now c.args.number app.op app.sort app.args.now c.args.place c.args.new c.requires.number c.requires.new app.ensures.shape

pub known_at-requires-in-Some : goal.known_at-requires-in-Some
known_at-requires-in-Some c =
    let nodes = c.args.self.now in
    let app = c.in-Application in
    let us = other_args nodes c.args.number app.op app.sort app.args.now c.args.place c.args.new c.requires.number c.requires.new app.ensures.shape in
    let named = other_named nodes c.args.number app.op app.sort app.args.now c.args.place c.args.new c.requires.number c.requires.new app.ensures.shape in
    let few = few_other nodes c.args.number app.op app.sort app.args.now c.args.place c.args.new c.requires.number c.requires.new app.ensures.shape _ app.ensures.few in
    let t = App app.op app.sort us in
    named_below nodes c.in-Some.found t (c.in-Some.ensures t (us, refl, named, few))

pub returns-in-Some-clause-interns : goal.returns-in-Some-clause-interns
returns-in-Some-clause-interns c =
    let nodes = c.args.self.now in
    let app = c.in-Application in
    let us = other_args nodes c.args.number app.op app.sort app.args.now c.args.place c.args.new c.requires.number c.requires.new app.ensures.shape in
    let named = other_named nodes c.args.number app.op app.sort app.args.now c.args.place c.args.new c.requires.number c.requires.new app.ensures.shape in
    let few = few_other nodes c.args.number app.op app.sort app.args.now c.args.place c.args.new c.requires.number c.requires.new app.ensures.shape _ app.ensures.few in
    let here = replaced_here nodes c.args.number app.op app.sort app.args.now c.args.place c.args.new c.requires.number c.requires.new app.ensures.shape
    (omega (arith, c.if-place-args.false)) in
    let t = App app.op app.sort us in
    let n = c.in-Some.found in
    let found = c.in-Some.ensures t (us, refl, named, few) in
    (t, here, found, subst IsWithinLimits (named_one nodes n (tree_at nodes n) t c.known_at-in-Some.ensures.named found) c.known_at-in-Some.ensures.within)

pub returns-in-Some-clause-enters : goal.returns-in-Some-clause-enters
returns-in-Some-clause-enters c =
    let nodes = c.args.self.now in
    let app = c.in-Application in
    let us = other_args nodes c.args.number app.op app.sort app.args.now c.args.place c.args.new c.requires.number c.requires.new app.ensures.shape in
    let named = other_named nodes c.args.number app.op app.sort app.args.now c.args.place c.args.new c.requires.number c.requires.new app.ensures.shape in
    let few = few_other nodes c.args.number app.op app.sort app.args.now c.args.place c.args.new c.requires.number c.requires.new app.ensures.shape _ app.ensures.few in
    let here = replaced_here nodes c.args.number app.op app.sort app.args.now c.args.place c.args.new c.requires.number c.requires.new app.ensures.shape
    (omega (arith, c.if-place-args.false)) in
    let P : Option Tree → Type 0 = EntersSome nodes nodes in
    subst P (sym here) (inl (c.in-Some.found, c.in-Some.ensures (App app.op app.sort us) (us, refl, named, few), refl))

pub put_copy-requires-clause-few : goal.put_copy-requires-clause-few
put_copy-requires-clause-few c =
    let app = c.in-Application in
    let few = few_other c.args.self.now c.args.number app.op app.sort app.args.now c.args.place c.args.new c.requires.number c.requires.new app.ensures.shape _ app.ensures.few in
    omega (arith, few, ap length c.in_ok-args-in-Application.ensures)

pub put_copy-requires-clause-there : goal.put_copy-requires-clause-there
put_copy-requires-clause-there c =
    let nodes = c.args.self.now in
    let app = c.in-Application in
    subst (AllByRecursion (λ n. n < length nodes)) (sym c.in_ok-args-in-Application.ensures)
    (all_other nodes c.args.number app.op app.sort app.args.now c.args.place c.args.new c.requires.number c.requires.new app.ensures.shape)

pub put_copy-requires-clause-key : goal.put_copy-requires-clause-key
put_copy-requires-clause-key c = λ ts named.
    let nodes = c.args.self.now in
    let app = c.in-Application in
    let P : List ℕ → Type 0 = λ ns. AreNamed nodes ns ts in
    let here = subst P c.in_ok-args-in-Application.ensures named in
    let few = few_other nodes c.args.number app.op app.sort app.args.now c.args.place c.args.new c.requires.number c.requires.new app.ensures.shape _ app.ensures.few in
    c.changed_fingerprint-key.ensures (App app.op app.sort ts) (ts, refl, here, few)

pub put_copy-requires-clause-fresh : goal.put_copy-requires-clause-fresh
put_copy-requires-clause-fresh c = λ ts named.
    let nodes = c.args.self.now in
    let app = c.in-Application in
    let P : List ℕ → Type 0 = λ ns. AreNamed nodes ns ts in
    let here = subst P c.in_ok-args-in-Application.ensures named in
    let few = few_other nodes c.args.number app.op app.sort app.args.now c.args.place c.args.new c.requires.number c.requires.new app.ensures.shape _ app.ensures.few in
    c.in_default.ensures (App app.op app.sort ts) (ts, refl, here, few)

pub returns-in-Ok-clause-interns : goal.returns-in-Ok-clause-interns
returns-in-Ok-clause-interns c =
    let nodes = c.args.self.now in
    let app = c.in-Application in
    let us = other_args nodes c.args.number app.op app.sort app.args.now c.args.place c.args.new c.requires.number c.requires.new app.ensures.shape in
    let named = other_named nodes c.args.number app.op app.sort app.args.now c.args.place c.args.new c.requires.number c.requires.new app.ensures.shape in
    let here = replaced_here nodes c.args.number app.op app.sort app.args.now c.args.place c.args.new c.requires.number c.requires.new app.ensures.shape
    (omega (arith, c.if-place-args.false)) in
    let P : List ℕ → Type 0 = λ ns. AreNamed nodes ns us in
    let made = c.in-Ok.ensures.interns us (subst P (sym c.in_ok-args-in-Application.ensures) named) in
    (App app.op app.sort us, here, made.0, made.1)

pub returns-in-Ok-clause-enters : goal.returns-in-Ok-clause-enters
returns-in-Ok-clause-enters c =
    let nodes = c.args.self.now in
    let app = c.in-Application in
    let us = other_args nodes c.args.number app.op app.sort app.args.now c.args.place c.args.new c.requires.number c.requires.new app.ensures.shape in
    let named = other_named nodes c.args.number app.op app.sort app.args.now c.args.place c.args.new c.requires.number c.requires.new app.ensures.shape in
    let here = replaced_here nodes c.args.number app.op app.sort app.args.now c.args.place c.args.new c.requires.number c.requires.new app.ensures.shape
    (omega (arith, c.if-place-args.false)) in
    let P : List ℕ → Type 0 = λ ns. AreNamed nodes ns us in
    subst (EntersSome nodes c.put_copy.new.self) (sym here)
    (c.in-Ok.ensures.enters us (subst P (sym c.in_ok-args-in-Application.ensures) named))

pub returns-in-Err-clause-interns : goal.returns-in-Err-clause-interns
returns-in-Err-clause-interns c =
    let nodes = c.args.self.now in
    let app = c.in-Application in
    let us = other_args nodes c.args.number app.op app.sort app.args.now c.args.place c.args.new c.requires.number c.requires.new app.ensures.shape in
    let named = other_named nodes c.args.number app.op app.sort app.args.now c.args.place c.args.new c.requires.number c.requires.new app.ensures.shape in
    let here = replaced_here nodes c.args.number app.op app.sort app.args.now c.args.place c.args.new c.requires.number c.requires.new app.ensures.shape
    (omega (arith, c.if-place-args.false)) in
    let P : List ℕ → Type 0 = λ ns. AreNamed nodes ns us in
    subst (InternsSome c.put_copy.new.self (Err c.in-Err.fault)) (sym here)
    (c.in-Err.ensures.interns us (subst P (sym c.in_ok-args-in-Application.ensures) named))
