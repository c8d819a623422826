use Rattle.std.proofs.Common.{◌≡◌, ◌∙◌, ℕ, length, Option, Some, None, IsTrue, false, refl, ap, sym, subst}
use Rattle.std.specs.List.{slice_get}
use Rattle.std.proofs.lemmas.Option.{slice_get_read, same_Some}
use Rattle.circ_hash_chains.specs.Keys.{IsLastBelow}
use Rattle.circ_replay.proofs.Keyed.{IsSought, sought_first, sought_next, sought_found, sought_last, sought_none}
use Rattle.circ_replay.proofs.table.find_known.Goals as goal

pub unreachable-requires : goal.unreachable-requires
unreachable-requires c =
    let terms = c.args.terms.now in
    let keys = c.args.chains.now in
    let t = c.args.term.now in
    let P : ℕ → Type 0 = λ k. IsLastBelow keys k (length keys) None in
    sought_none terms keys c.requires.keyed.keys t c.requires.there
    (sought_first terms keys c.requires.keyed.keys t None (subst P c.fingerprint.ensures c.in_default.ensures))

pub loop-next-init : goal.loop-next-init
loop-next-init c =
    let keys = c.args.chains.now in
    let t = c.args.term.now in
    let P : ℕ → Type 0 = λ k. IsLastBelow keys k (length keys) c.newest.result in
    let Q : Option ℕ → Type 0 = IsSought c.args.terms.now keys t in
    subst Q c.in-Some.is (sought_first c.args.terms.now keys c.requires.keyed.keys t c.newest.result (subst P c.fingerprint.ensures c.newest.ensures))

pub returns-then-same : goal.returns-then-same
returns-then-same c =
    let terms = c.args.terms.now in
    let n = c.loop-next.last in
    let read = slice_get_read terms (length terms) n c.index-terms-last.result refl (c.loop-next.invariant.within n refl) c.index-terms-last.is in
    (sought_found terms c.args.chains.now c.requires.keyed.keys c.args.term.now c.requires.keyed.table n (read ∙ ap Some (c.if-same.ensures.0 refl))).1

pub loop-next-preserved : goal.loop-next-preserved
loop-next-preserved c =
    let terms = c.args.terms.now in
    let keys = c.args.chains.now in
    let t = c.args.term.now in
    let n = c.loop-next.last in
    let read = slice_get_read terms (length terms) n c.index-terms-last.result refl (c.loop-next.invariant.within n refl) c.index-terms-last.is in
    let Q : Option ℕ → Type 0 = IsSought terms keys t in
    subst Q c.in-Some-older.is (sought_next terms keys c.requires.keyed.keys t n c.loop-next.invariant
    (λ e. absurd (let z : IsTrue false = c.if-same.ensures.1 (same_Some c.index-terms-last.result t (sym read ∙ e)) in cc)) c.older.result c.older.ensures).0

pub returns : goal.returns
returns c =
    let keys = c.args.chains.now in
    let n = c.loop-next.last in
    let P : Option ℕ → Type 0 = λ o. (k : ℕ) → slice_get keys n ≡ Some k → IsLastBelow keys k n o in
    sought_last c.args.terms.now keys c.requires.keyed.keys c.args.term.now n c.requires.there c.loop-next.invariant (subst P c.in_default-older.is c.older.ensures)
