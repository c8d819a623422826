use Rattle.std.proofs.Common.{◌≡◌, ◌+◌, ◌++◌, [], List, map, drop, length, IfOk, ap, sym, subst, ◌∙◌, arith, append-nil}
use Rattle.std.proofs.lemmas.List.{length-map, drop_all}
use Rattle.circ_term.specs.Tree.{Tree, App, args_of, trees_of}
use Rattle.circ_term.proofs.Trees.{list_of-trees_of}
use Rattle.circ_term.proofs.Within.{depth_at}
use Rattle.circ_mixfix.specs.Named.{NamedVariable, numbered, seen_in_all, place_from}
use Rattle.circ_mixfix.specs.Coding.{named_by, all_named_by}
use Rattle.circ_mixfix.specs.NamesSeen.{named_of, numbered_by}
use Rattle.circ_mixfix.proofs.FewSets.{drop_read}
use Rattle.circ_mixfix.proofs.NamesKept.{numbered_row, one_more}
use Rattle.circ_mixfix.proofs.variable_names.+naming.Goals as goal

pub push_numbered-numbered-requires : goal.push_numbered-numbered-requires
push_numbered-numbered-requires t c =
    let below = depth_at c.args.terms.now c.loop-term.term-index c.term-item.result c.loop-term-test.true c.term-item.is in
    (omega arith, tt)

pub numbered-application-requires : goal.numbered-application-requires
numbered-application-requires t c =
    let args = c.in-Application.args.now in
    let ws = c.args.words.now in
    let seen = map named_of c.push_numbered.new.seen.keys in
    let out = c.in_ok-push_numbered-in-Application.ensures.terms ∙ ap (λ z. z ++ numbered_by ws seen args) c.in_ok-out-in-Application.ensures.items in
    let few = c.in-Application.ensures.few in
    let e = ap args_of c.in-Application.ensures.value in
    omega (arith, few, ap length e, ap length (list_of-trees_of args), ap length out, length-map args (λ t. numbered (place_from 0 seen) (named_by ws t)))

pub numbered-returns-in_ok-push_numbered-in-Application-clause-term : goal.numbered-returns-in_ok-push_numbered-in-Application-clause-term
numbered-returns-in_ok-push_numbered-in-Application-clause-term t c =
    let args = c.in-Application.args.now in
    let ws = c.args.words.now in
    let seen = map named_of c.push_numbered.new.seen.keys in
    let out = c.in_ok-push_numbered-in-Application.ensures.terms ∙ ap (λ z. z ++ numbered_by ws seen args) c.in_ok-out-in-Application.ensures.items in
    let e = ap (λ z. App c.in-Application.op c.in-Application.sort (trees_of z)) out ∙ ap (App c.in-Application.op c.in-Application.sort) (numbered_row ws seen args)
    ∙ ap (λ u. numbered (place_from 0 seen) (named_by ws u)) c.in-Application.ensures.value in
    subst (λ u. IfOk c.application.result (λ t. t ≡ u)) e c.application.ensures

pub push_numbered-loop-term-preserved : goal.push_numbered-loop-term-preserved
push_numbered-loop-term-preserved t c =
    let us = c.args.terms.now in
    let ws = c.args.words.now in
    let old = map named_of c.loop-term.seen.keys in
    let new = map named_of c.numbered.new.seen.keys in
    let rest = drop (c.loop-term.term-index + 1) us in
    let e = drop_read us c.loop-term.term-index c.term-item.result c.loop-term-test.true c.term-item.is in
    let seen = c.in_ok-numbered.ensures.seen in
    record {
      seen = ap (seen_in_all (all_named_by ws (trees_of rest))) seen ∙ (rw e at c.loop-term.invariant.seen);
      terms = one_more ws old new c.loop-term.out.items c.push.new.self.items c.args.out.now.items c.term-item.result c.in_ok-numbered.field-0 rest us seen c.in_ok-numbered.ensures.term
          c.in_ok-push.ensures.items (rw e at c.loop-term.invariant.terms);
    }

pub push_numbered-returns-clause-terms : goal.push_numbered-returns-clause-terms
push_numbered-returns-clause-terms t c =
    let us = c.args.terms.now in
    let ws = c.args.words.now in
    let seen = map named_of c.loop-term.seen.keys in
    let e = drop_all c.loop-term.term-index us c.loop-term-test.false in
    let P : List Tree → List NamedVariable → Type 0 = λ ts vs. c.loop-term.out.items ++ numbered_by ws vs ts ≡ c.args.out.now.items ++ numbered_by ws vs us in
    let h = subst (λ ts. P ts (seen ++ [])) e (c.loop-term.invariant.terms []) in
    sym (append-nil c.loop-term.out.items) ∙ subst (P []) (append-nil seen) h
