use Rattle.std.proofs.Common.{ℕ, List, IsTrue, ◌↔◌, ◌<◌, length, length-set, take, refl, sym, ap, subst, arith, rules}
use Rattle.std.proofs.lemmas.Option.{slice_get_read, slice_get_within}
use Rattle.circ_term.specs.Tree.{Tree, args_of, trees_of, depth_of}
use Rattle.circ_term.proofs.Trees.{list_of-trees_of}
use Rattle.circ_term.proofs.Within.{depth_at}
use Rattle.circ_special.specs.Occurrences.{GuardedBelow, AllGuardedBelow}
use Rattle.circ_special.proofs.Occurrences.{variable_below, application_below, path_here, path_kept, one_more}
use Rattle.circ_special.proofs.guard.Asked.+below.Goals as goal

pub below-all_below-requires : goal.below-all_below-requires
below-all_below-requires t c =
    let value = c.in-Application.ensures.value in
    let depth = ap depth_of value in
    let few = ap (λ u. length (args_of u)) value in
    let list = ap length (list_of-trees_of c.in-Application.args.now) in
    (omega arith, (omega (arith, c.requires), omega (arith, c.in-Application.ensures.few)))

pub below-returns-in-Variable-clause-exact : goal.below-returns-in-Variable-clause-exact
below-returns-in-Variable-clause-exact t c =
    let a = c.args.self.now in
    let q = take c.args.len c.args.path.now in
    let v = c.in-Variable in
    let P : Tree → Type 0 = λ u. IsTrue c.at_variable.result ↔ GuardedBelow a q u in
    subst P v.ensures.value (variable_below a q v.number v.sort c.at_variable.result (rw (← v.ensures.value) at c.at_variable.ensures))

pub below-returns-in-Application-clause-exact : goal.below-returns-in-Application-clause-exact
below-returns-in-Application-clause-exact t c =
    let a = c.args.self.now in
    let q = take c.args.len c.args.path.now in
    let v = c.in-Application in
    let r = c.all_below.result in
    let P : Tree → Type 0 = λ u. IsTrue r ↔ GuardedBelow a q u in
    let Q : List Tree → Type 0 = λ us. IsTrue r ↔ AllGuardedBelow a q us in
    let args = subst Q (sym (list_of-trees_of v.args.now)) c.all_below.ensures.exact in
    subst P v.ensures.value (application_below a q v.op v.sort (trees_of v.args.now) r args)

pub all_below-below-requires : goal.all_below-below-requires
all_below-below-requires t c =
    let deep = depth_at c.args.args.now c.loop-i.i c.index-args-i.result c.loop-i-test.true c.index-args-i.is in
    (omega arith, omega (arith, c.requires.room, c.loop-i.invariant.long, length-set c.loop-i.path c.args.len c.loop-i.i))

pub all_below-returns-then-not-below-clause-exact : goal.all_below-returns-then-not-below-clause-exact
all_below-returns-then-not-below-clause-exact t c =
    let i = c.loop-i.i in
    let arg = c.index-args-i.result in
    let room : c.args.len < length c.loop-i.path = omega (arith, c.requires.room, c.loop-i.invariant.long) in
    let here = path_here c.args.len i c.args.path.now c.loop-i.path room c.loop-i.invariant.same in
    let read = slice_get_read c.args.args.now (length c.args.args.now) i arg refl c.loop-i-test.true c.index-args-i.is in
    let P : List ℕ → Type 0 = λ q. GuardedBelow c.args.self.now q arg in
    ((λ never. absurd (cc)), (λ g. c.if-not-below.ensures.exact.1 (subst P (sym here) (g i arg read))))

pub all_below-returns-then-not-below-clause-same : goal.all_below-returns-then-not-below-clause-same
all_below-returns-then-not-below-clause-same t c =
    path_kept c.args.len c.loop-i.i c.args.path.now c.loop-i.path c.below.new.path c.loop-i.invariant.same c.below.ensures.same

pub all_below-loop-i-preserved : goal.all_below-loop-i-preserved
all_below-loop-i-preserved t c =
    let a = c.args.self.now in
    let i = c.loop-i.i in
    let arg = c.index-args-i.result in
    let q = take c.args.len c.args.path.now in
    let room : c.args.len < length c.loop-i.path = omega (arith, c.requires.room, c.loop-i.invariant.long) in
    let here = path_here c.args.len i c.args.path.now c.loop-i.path room c.loop-i.invariant.same in
    let read = slice_get_read c.args.args.now (length c.args.args.now) i arg refl c.loop-i-test.true c.index-args-i.is in
    let P : List ℕ → Type 0 = λ p. GuardedBelow a p arg in
    record {
      same = path_kept c.args.len i c.args.path.now c.loop-i.path c.below.new.path c.loop-i.invariant.same c.below.ensures.same;
      long = search (rules, c.below.ensures.long, c.loop-i.invariant.long);
      each = one_more a q c.args.args.now i arg read (subst P here (c.if-not-below.ensures.exact.0 refl)) c.loop-i.invariant.each;
    }

pub all_below-returns-clause-exact : goal.all_below-returns-clause-exact
all_below-returns-clause-exact t c = (
  (λ _ i u e. c.loop-i.invariant.each i u (omega (arith, slice_get_within c.args.args.now i u e, c.loop-i-test.false)) e),
  (λ _. refl),
)
