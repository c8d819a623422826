use Rattle.std.proofs.Common.{◌∙◌, ℕ, length, Option, Some, IsTrue, false, refl, ap, sym, subst}
use Rattle.std.proofs.lemmas.Option.{slice_get_read, same_Some}
use Rattle.circ_hash_chains.specs.Keys.{IsLastBelow}
use Rattle.circ_replay.proofs.Keyed.{IsSought, sought_first, sought_next, sought_found, sought_ended}
use Rattle.circ_replay.proofs.table.find.Goals as goal

pub loop-last-init : goal.loop-last-init
loop-last-init c =
    let keys = c.args.chains.now in
    let P : ℕ → Type 0 = λ k. IsLastBelow keys k (length keys) c.newest-last.result in
    sought_first c.args.terms.now keys c.requires.keys c.args.term.now c.newest-last.result (subst P c.fingerprint.ensures c.newest-last.ensures)

pub returns-then-same : goal.returns-then-same
returns-then-same c =
    let terms = c.args.terms.now in
    let n = c.in-Some.number in
    let read = slice_get_read terms (length terms) n c.index-terms-number.result refl (c.loop-last.invariant.within n c.in-Some.is) c.index-terms-number.is in
    sought_found terms c.args.chains.now c.requires.keys c.args.term.now c.requires.table n (read ∙ ap Some (c.if-same.ensures.0 refl))

pub loop-last-preserved : goal.loop-last-preserved
loop-last-preserved c =
    let terms = c.args.terms.now in
    let keys = c.args.chains.now in
    let t = c.args.term.now in
    let n = c.in-Some.number in
    let read = slice_get_read terms (length terms) n c.index-terms-number.result refl (c.loop-last.invariant.within n c.in-Some.is) c.index-terms-number.is in
    let P : Option ℕ → Type 0 = IsSought terms keys t in
    (sought_next terms keys c.requires.keys t n (subst P c.in-Some.is c.loop-last.invariant)
    (λ e. absurd (let z : IsTrue false = c.if-same.ensures.1 (same_Some c.index-terms-number.result t (sym read ∙ e)) in cc)) c.older-last.result c.older-last.ensures).0

pub returns : goal.returns
returns c =
    let P : Option ℕ → Type 0 = IsSought c.args.terms.now c.args.chains.now c.args.term.now in
    sought_ended c.args.terms.now c.args.chains.now c.requires.keys c.args.term.now (subst P c.in_default.is c.loop-last.invariant)
