use Rattle.std.proofs.Common.{◌≡◌, ℕ, List, ◌++◌, ◌∷◌, [], ◌<◌, ◌+◌, length, length-set, length-append, take, refl, sym, ap, subst, ◌∙◌, arith, rules, Some}
use Rattle.std.proofs.lemmas.Option.{slice_get_read}
use Rattle.std.proofs.lemmas.List.{length-take-le}
use Rattle.circ_term.specs.Tree.{Tree, App, at, args_of, trees_of, depth_of}
use Rattle.circ_term.proofs.Trees.{list_of-trees_of}
use Rattle.circ_term.proofs.Within.{depth_at}
use Rattle.circ_special.specs.declared.place.Place.{Place}
use Rattle.circ_special.specs.Special.{place}
use Rattle.circ_special.proofs.Occurrences.{path_here, path_kept}
use Rattle.circ_needs.specs.Owing.{Owes, IsParent, Passes, OwesTo}
use Rattle.circ_needs.proofs.Owing.{owes_variable, owes_nothing, owes_app, owes_first, owes_next, owes_last, arg_there}
use Rattle.circ_needs.proofs.walking.Asked.+below.Goals as goal

pub below-all_below-requires : goal.below-all_below-requires
below-all_below-requires t c =
    let v = c.in-Application in
    let value = v.ensures.value in
    let depth = ap depth_of value in
    let few = ap (λ u. length (args_of u)) value in
    let list = ap length (list_of-trees_of v.args.now) in
    (omega arith, (omega (arith, c.requires.room), (omega (arith, v.ensures.few), (c.requires.there, (v.sort, sym value)))))

pub below-returns-in-Variable-clause-exact : goal.below-returns-in-Variable-clause-exact
below-returns-in-Variable-clause-exact t c =
    let a = c.args.self.now in
    let q = take c.args.len c.args.path.now in
    let old = c.args.needs.now in
    let v = c.in-Variable in
    let P : Tree → Type 0 = λ u. Owes a q old old u 0 in
    subst P v.ensures.value (owes_nothing a q old v.number v.sort (λ e. c.requires.other (sym v.ensures.value ∙ e)))

pub below-returns-in-Application-clause-exact : goal.below-returns-in-Application-clause-exact
below-returns-in-Application-clause-exact t c =
    let v = c.in-Application in
    owes_app c.args.self.now (take c.args.len c.args.path.now) c.args.needs.now c.all_below.new.needs v.op v.sort v.args.now c.args.here.now v.ensures.value c.all_below.result
    c.all_below.ensures.exact

pub all_below-arg_below-requires : goal.all_below-arg_below-requires
all_below-arg_below-requires t c =
    let a = c.args.self.now in
    let i = c.loop-i.i in
    let arg = c.index-args-i.result in
    let q = take c.args.len c.args.path.now in
    let len = c.args.len in
    let room : len < length c.loop-i.path = omega (arith, c.requires.room, c.loop-i.invariant.long) in
    let path = path_here len i c.args.path.now c.loop-i.path room c.loop-i.invariant.same in
    let read = slice_get_read c.args.args.now (length c.args.args.now) i arg refl c.loop-i-test.true c.index-args-i.is in
    let deep = depth_at c.args.args.now i arg c.loop-i-test.true c.index-args-i.is in
    let here = c.requires.here in
    let there = arg_there a q i c.args.op here.0 c.args.args.now c.args.here.now arg c.requires.there here.1 read in
    let P : List ℕ → Type 0 = λ p. at a.root.now p ≡ Some arg in
    let parent : IsParent a (q ++ i ∷ []) c.args.here.now c.args.op =
    record { front = q; step = i; cut = refl; sort = here.0; args = trees_of c.args.args.now; is = here.1; there = c.requires.there } in
    let Q : List ℕ → Type 0 = λ p. IsParent a p c.args.here.now c.args.op in (
      omega arith,
      (
        omega (arith, c.requires.room, c.loop-i.invariant.long, length-set c.loop-i.path len i),
        (subst P (sym path) there, subst Q (sym path) parent),
      ),
    )

pub all_below-loop-i-preserved : goal.all_below-loop-i-preserved
all_below-loop-i-preserved t c =
    let a = c.args.self.now in
    let i = c.loop-i.i in
    let arg = c.index-args-i.result in
    let len = c.args.len in
    let q = take len c.args.path.now in
    let room : len < length c.loop-i.path = omega (arith, c.requires.room, c.loop-i.invariant.long) in
    let path = path_here len i c.args.path.now c.loop-i.path room c.loop-i.invariant.same in
    let read = slice_get_read c.args.args.now (length c.args.args.now) i arg refl c.loop-i-test.true c.index-args-i.is in
    let here = c.requires.here in
    let Q : Tree → Type 0 = λ u. at a.root.now q ≡ Some u in
    let long : length q ≡ len = length-take-le len c.args.path.now (omega (arith, c.requires.room)) in
    let old = c.args.needs.now in
    let mid = c.arg_below.new.needs in
    let new = c.pass.new.self in
    let P : List ℕ → Type 0 = λ p. Owes a p c.loop-i.needs mid arg c.in_ok-steps.steps in
    let R : ℕ → Type 0 = λ n. Passes (place c.args.op i) c.in_ok-steps.steps n mid new c.in_ok-steps-2.steps in
    record {
      same = path_kept len i c.args.path.now c.loop-i.path c.arg_below.new.path c.loop-i.invariant.same c.arg_below.ensures.same;
      long = search (rules, c.arg_below.ensures.long, c.loop-i.invariant.long);
      owes = rw c.greater-owed.ensures (owes_next a q i c.args.op here.0 c.args.args.now arg (subst Q here.1 c.requires.there) read c.loop-i.owed c.in_ok-steps.steps c.in_ok-steps-2.steps old c.loop-i.needs mid new
          c.loop-i.invariant.owes (subst P path c.in_ok-steps.ensures.exact) (subst R (sym long) c.in_ok-steps-2.ensures.passes));
      kept = λ G h. c.loop-i.invariant.kept G (c.arg_below.ensures.kept G (c.pass.ensures.kept G h));
    }

pub all_below-returns-clause-exact : goal.all_below-returns-clause-exact
all_below-returns-clause-exact t c =
    owes_last c.args.self.now (take c.args.len c.args.path.now) c.args.needs.now c.loop-i.needs c.args.args.now c.loop-i.i c.loop-i.owed (omega (arith, c.loop-i-test.false))
    c.loop-i.invariant.owes

pub arg_below-returns-then-is_variable-clause-exact : goal.arg_below-returns-then-is_variable-clause-exact
arg_below-returns-then-is_variable-clause-exact t c =
    owes_variable c.args.self.now (take (c.args.len + 1) c.args.path.now) c.args.needs.now c.args.arg.now c.owed.result (c.is_variable.ensures.same.0 c.if-is_variable.true) c.owed.ensures

pub all_below-returns-in_err-steps-clause-same : goal.all_below-returns-in_err-steps-clause-same
all_below-returns-in_err-steps-clause-same t c =
    path_kept c.args.len c.loop-i.i c.args.path.now c.loop-i.path c.arg_below.new.path c.loop-i.invariant.same c.arg_below.ensures.same

pub all_below-returns-in_err-steps-2-clause-same : goal.all_below-returns-in_err-steps-2-clause-same
all_below-returns-in_err-steps-2-clause-same t c =
    path_kept c.args.len c.loop-i.i c.args.path.now c.loop-i.path c.arg_below.new.path c.loop-i.invariant.same c.arg_below.ensures.same

pub all_below-returns-in_err-steps-clause-kept : goal.all_below-returns-in_err-steps-clause-kept
all_below-returns-in_err-steps-clause-kept t c = λ G h. c.loop-i.invariant.kept G (c.arg_below.ensures.kept G h)

pub all_below-returns-in_err-steps-2-clause-kept : goal.all_below-returns-in_err-steps-2-clause-kept
all_below-returns-in_err-steps-2-clause-kept t c = λ G h. c.loop-i.invariant.kept G (c.arg_below.ensures.kept G (c.pass.ensures.kept G h))
