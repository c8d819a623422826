use Rattle.std.proofs.Common.{◌≡◌, ◌<◌, ◌+◌, length, Some, None, arith, refl, sym, subst, ◌∙◌}
use Rattle.std.specs.List.{slice_get}
use Rattle.std.proofs.lemmas.Option.{same_Some, slice_get_read}
use Rattle.circ_index.specs.Finding.{LeftMatches}
use Rattle.circ_index.specs.Keys.{term_keys}
use Rattle.circ_index.specs.Walking.{term_seats, IsOnWay, IsNextOn}
use Rattle.circ_index.proofs.Fitting.{lefts_serve}
use Rattle.circ_index.proofs.Seeking.{sought_first, sought_next, sought_found, sought_none, within, next_above}
use Rattle.circ_index.proofs.rules.first_on.Goals as goal

pub next_left-requires : goal.next_left-requires
next_left-requires c =
    let x = c.args.finder.now in
    let t = c.args.term.now in
    subst (λ ks. IsOnWay x ks (term_seats x ks t) c.args.from c.args.walk.now) (sym c.term_keys-keys.ensures) c.requires.way

pub loop-place-init : goal.loop-place-init
loop-place-init c =
    let x = c.args.finder.now in
    let t = c.args.term.now in
    sought_first (LeftMatches t) c.args.lefts.now x (term_keys t) (term_seats x (term_keys t) t) c.args.from c.in_ok-place.place c.next_left.new.walk
    (lefts_serve c.args.lefts.now x t c.requires.lefts) (omega (arith, c.ranges.from.fits))
    (subst (λ ks. IsNextOn x ks (term_seats x ks t) c.args.from c.next_left.new.walk c.in_ok-place.place) c.term_keys-keys.ensures c.in_ok-place.ensures)

pub returns-in-Some : goal.returns-in-Some
returns-in-Some c =
    let lefts = c.args.lefts.now in
    let x = c.args.finder.now in
    let t = c.args.term.now in
    let place = c.loop-place.place in
    let left = c.index-lefts-place.result in
    let there : slice_get lefts place ≡ Some left = slice_get_read lefts (length lefts) place left refl (omega (arith, c.loop-place-test.true)) c.index-lefts-place.is in
    sought_found (LeftMatches t) lefts x (term_keys t) (term_seats x (term_keys t) t) c.args.from place c.loop-place.walk left c.in-Some.subst c.loop-place.invariant there
    (rw c.in-Some.is at c.in_ok-subst.ensures)

pub pass-requires : goal.pass-requires
pass-requires c =
    let x = c.args.finder.now in
    let t = c.args.term.now in
    within (LeftMatches t) c.args.lefts.now x (term_keys t) (term_seats x (term_keys t) t) c.args.from c.loop-place.place c.loop-place.walk
    (lefts_serve c.args.lefts.now x t c.requires.lefts) c.loop-place.invariant (omega (arith, c.loop-place-test.true))

pub next_left-requires-in-loop-place : goal.next_left-requires-in-loop-place
next_left-requires-in-loop-place c =
    let x = c.args.finder.now in
    let t = c.args.term.now in
    subst (λ ks. IsOnWay x ks (term_seats x ks t) (c.loop-place.place + 1) c.pass.new.walk) (sym c.term_keys-keys.ensures)
    (c.pass.ensures (term_keys t) (term_seats x (term_keys t) t) c.loop-place.invariant.way)

pub loop-place-smaller : goal.loop-place-smaller
loop-place-smaller c =
    let x = c.args.finder.now in
    let ks = c.term_keys-keys.result in
    let below : c.loop-place.place < length c.args.lefts.now = omega (arith, c.loop-place-test.true) in
    omega (
      arith,
      next_above x ks (term_seats x ks c.args.term.now) (c.loop-place.place + 1) c.in_ok-place-2.place c.next_left-in-loop-place.new.walk
          (omega (arith, below, c.requires.lefts.few)) c.in_ok-place-2.ensures,
      below,
    )

pub loop-place-preserved : goal.loop-place-preserved
loop-place-preserved c =
    let lefts = c.args.lefts.now in
    let x = c.args.finder.now in
    let t = c.args.term.now in
    let place = c.loop-place.place in
    let left = c.index-lefts-place.result in
    let below : place < length lefts = omega (arith, c.loop-place-test.true) in
    let there : slice_get lefts place ≡ Some left = slice_get_read lefts (length lefts) place left refl below c.index-lefts-place.is in
    sought_next (LeftMatches t) lefts x (term_keys t) (term_seats x (term_keys t) t) c.args.from place c.in_ok-place-2.place c.loop-place.walk c.next_left-in-loop-place.new.walk
    (lefts_serve lefts x t c.requires.lefts) c.loop-place.invariant below
    (λ p g. subst (λ u. LeftMatches t u None) (same_Some left p (sym there ∙ g)) (rw c.in-None.is at c.in_ok-subst.ensures))
    (subst (λ ks. IsNextOn x ks (term_seats x ks t) (place + 1) c.next_left-in-loop-place.new.walk c.in_ok-place-2.place) c.term_keys-keys.ensures c.in_ok-place-2.ensures)

pub returns : goal.returns
returns c =
    let x = c.args.finder.now in
    let t = c.args.term.now in
    sought_none (LeftMatches t) c.args.lefts.now x (term_keys t) (term_seats x (term_keys t) t) c.args.from c.loop-place.place c.loop-place.walk c.loop-place.invariant
    (omega (arith, c.loop-place-test.false))
