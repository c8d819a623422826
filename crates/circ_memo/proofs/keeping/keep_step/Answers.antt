use Rattle.std.proofs.Common.{ℕ, ◌+◌, ◌<◌, List, [], Option, Some, inl, refl, ap, sym, subst, arith}
use Rattle.circ_term.specs.Tree.{Tree, size_of, depth_of}
use Rattle.circ_rewrite.specs.Replacement.{Replacement}
use Rattle.circ_nodes.proofs.Numbers.{named_one}
use Rattle.circ_memo.specs.Keeping.{Puts, IsNumberKept, IsWayKept, Stays, IsForm, IsNextKept, AreKept}
use Rattle.circ_memo.specs.Settling.{IsPassed, IsLinked}
use Rattle.circ_memo.specs.declared.parts.Bounds.{Bounds}
use Rattle.circ_memo.specs.declared.parts.Entry.{Entry}
use Rattle.circ_nodes.specs.Named.{IsNamed, tree_at}
use Rattle.circ_chain.proofs.Roots.{readies_self}
use Rattle.circ_memo.proofs.Telling.{kept_put, kept_same, stays_on, stays_same, number_stays, linked_stays, way_more}
use Rattle.circ_memo.proofs.Stepping.{after_form, whole_form}
use Rattle.circ_memo.proofs.keeping.keep_step.Goals.{After-max-4}
use Rattle.circ_memo.proofs.keeping.keep_step.Goals as goal

abbrev after : After-max-4 → Entry
after c = record {
  value = c.args.last.value;
  count = 1 + c.args.last.count;
  big = c.max.result;
  deep = c.max-2.result;
  ready = c.args.step.way.ready;
  next = Some c.args.step.next;
}

abbrev whole : After-max-4 → Entry
whole c = record {
  value = c.args.last.value;
  count = c.args.step.way.count + (1 + c.args.last.count);
  big = c.max-3.result;
  deep = c.max-4.result;
  ready = c.args.step.way.ready;
  next = Some c.args.step.next;
}

module _ (c : After-max-4) (due : Tree → Option Replacement) (b : Bounds) (t u : Tree) (p : IsPassed due c.args.store.now.nodes b t c.args.step u)
    (f : IsForm due c.args.store.now.nodes u c.args.last) where
  is_whole : IsForm due c.args.store.now.nodes t (whole c)
  is_whole =
      let is = named_one c.args.store.now.nodes c.args.step.next (tree_at c.args.store.now.nodes c.args.step.next) u c.known_at.ensures.named p.next in
      whole_form due c.args.store.now.nodes b t c.args.step u c.args.last (whole c) p f refl (omega arith) (omega (arith, c.max-3.ensures)) (omega (arith, c.max-4.ensures))
      (omega (arith, c.max-3.ensures, c.max.ensures)) (omega (arith, c.max-4.ensures, c.max-2.ensures))
      (omega (arith, c.max-3.ensures, c.max.ensures, c.size.ensures.exact, ap size_of is)) (omega (arith, c.max-4.ensures, c.max-2.ensures, c.depth.ensures.exact, ap depth_of is))

  is_after : IsForm due c.args.store.now.nodes p.ready (after c)
  is_after =
      let is = named_one c.args.store.now.nodes c.args.step.next (tree_at c.args.store.now.nodes c.args.step.next) u c.known_at.ensures.named p.next in
      after_form due c.args.store.now.nodes b t c.args.step u c.args.last (after c) p f refl (omega arith) (omega (arith, c.max.ensures)) (omega (arith, c.max-2.ensures))
      (omega (arith, c.max.ensures, c.size.ensures.exact, ap size_of is)) (omega (arith, c.max-2.ensures, c.depth.ensures.exact, ap depth_of is))

-- a replacement at the root leads to the next term, of which something is kept
is_next : (c : After-max-4) (due : Tree → Option Replacement) (b : Bounds) (t u : Tree) (es : List (Option Entry)) (count : ℕ) (p : IsPassed due c.args.store.now.nodes b t c.args.step u)
    → IsNumberKept es c.args.step.next c.args.last.count → c.args.last.count < count → IsNextKept due c.args.store.now.nodes es p.ready count (Some c.args.step.next)
is_next c due b t u es count p kept less =
    (p.replacement, p.is_due, subst (λ x. IsNamed c.args.store.now.nodes c.args.step.next x) (sym p.new) p.next, c.args.last.count, kept, less)

-- what is kept, once the entry of the term with normal arguments is put
put_after : (c : After-max-4) (due : Tree → Option Replacement) (b : Bounds) (t u : Tree) (es : List (Option Entry)) → Puts c.args.step.way.ready (after c) c.args.store.now.entries es
    → AreKept due c.args.store.now.nodes c.args.store.now.entries → IsPassed due c.args.store.now.nodes b t c.args.step u
    → IsForm due c.args.store.now.nodes u c.args.last → IsNumberKept c.args.store.now.entries c.args.step.next c.args.last.count
    → AreKept due c.args.store.now.nodes es × Stays c.args.store.now.entries es
put_after c due b t u es put kept p f next =
    kept_put due c.args.store.now.nodes c.args.step.way.ready p.ready (after c) c.args.store.now.entries es put p.way.there (is_after c due b t u p f)
    (record {
      ready = p.ready;
      known = [];
      big = 0;
      deep = 0;
      there = p.way.there;
      readies = readies_self due p.ready p.way.readies.settled;
      way = inl refl;
      next = is_next c due b t u c.args.store.now.entries (1 + c.args.last.count) p next (omega arith);
    }) kept

-- and that of the term itself
put_whole : (c : After-max-4) (due : Tree → Option Replacement) (b : Bounds) (t u : Tree) (es fs : List (Option Entry)) → Puts c.args.step.here (whole c) es fs
    → AreKept due c.args.store.now.nodes es → IsPassed due c.args.store.now.nodes b t c.args.step u
    → IsForm due c.args.store.now.nodes u c.args.last → IsLinked c.args.store.now.nodes es c.args.step.here c.args.step → IsNumberKept es c.args.step.next c.args.last.count
    → AreKept due c.args.store.now.nodes fs × Stays es fs
put_whole c due b t u es fs put kept p f linked next =
    let same = named_one c.args.store.now.nodes c.args.step.here linked.term t linked.named p.here in
    kept_put due c.args.store.now.nodes c.args.step.here t (whole c) es fs put p.here (is_whole c due b t u p f)
    (record {
      ready = p.ready;
      known = p.way.traces;
      big = c.args.step.way.big;
      deep = c.args.step.way.deep;
      there = p.way.there;
      readies = p.way.readies;
      way = way_more c.args.store.now.nodes es c.args.step.here t c.args.step.way.ready c.args.step.way.count (whole c).count (omega arith)
          (subst (λ x. IsWayKept c.args.store.now.nodes es c.args.step.here x c.args.step.way.ready c.args.step.way.count) same linked.way);
      next = is_next c due b t u es (whole c).count p next (omega arith);
    }) kept

pub returns-in_err-keep-clause-kept : goal.returns-in_err-keep-clause-kept
returns-in_err-keep-clause-kept c = λ due b t u kept p f linked next.
    rw c.keep.ensures.nodes (kept_same due c.args.store.now.nodes _ _ c.in_err-keep.ensures.err kept, stays_same _ _ c.in_err-keep.ensures.err)

pub returns-in_err-keep-2-clause-kept : goal.returns-in_err-keep-2-clause-kept
returns-in_err-keep-2-clause-kept c = λ due b t u kept p f linked next.
    let first = put_after (goal.at.returns-in_err-keep-2-clause-kept c).After-max-4 due b t u _ c.in_ok-keep.ensures.kept kept p f next in
    rw (c.keep-2.ensures.nodes, c.keep.ensures.nodes)
    (kept_same due c.args.store.now.nodes _ _ c.in_err-keep-2.ensures.err first.0, stays_on _ _ _ first.1 (stays_same _ _ c.in_err-keep-2.ensures.err))

pub returns-clause-kept : goal.returns-clause-kept
returns-clause-kept c = λ due b t u kept p f linked next.
    let d = (goal.at.returns-clause-kept c).After-max-4 in
    let first = put_after d due b t u _ c.in_ok-keep.ensures.kept kept p f next in
    let second =
    put_whole d due b t u _ _ c.in_ok-keep-2.ensures.kept first.0 p f (linked_stays _ _ first.1 c.args.store.now.nodes c.args.step.here c.args.step linked)
    (number_stays _ _ first.1 c.args.step.next c.args.last.count next) in
    rw (c.keep-2.ensures.nodes, c.keep.ensures.nodes) (second.0, stays_on _ _ _ first.1 second.1)

pub returns-clause-there : goal.returns-clause-there
returns-clause-there c = (whole (goal.at.returns-clause-there c).After-max-4, c.in_ok-keep-2.ensures.kept.there, omega arith)

pub returns-clause-form : goal.returns-clause-form
returns-clause-form c = λ due b t u p f within.
    let is = named_one c.args.store.now.nodes c.args.step.next (tree_at c.args.store.now.nodes c.args.step.next) u c.known_at.ensures.named p.next in
    rw (c.keep-2.ensures.nodes, c.keep.ensures.nodes) (
      is_whole (goal.at.returns-clause-form c).After-max-4 due b t u p f,
      record {
        small = omega (arith, c.max-3.ensures, c.max.ensures, c.size.ensures.exact, ap size_of is, p.way.small, within.small, p.small);
        shallow = omega (arith, c.max-4.ensures, c.max-2.ensures, c.depth.ensures.exact, ap depth_of is, p.way.shallow, within.shallow, p.shallow);
      },
    )
