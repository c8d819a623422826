use Rattle.std.proofs.Common.{◌+◌, length, arith, refl, sym, subst}
use Rattle.circ_index.specs.Finding.{PairMatches, both_ways}
use Rattle.circ_index.specs.Keys.{pair_keys}
use Rattle.circ_index.specs.Walking.{pair_seats, IsOnWay, IsNextOn}
use Rattle.circ_index.proofs.Fitting.{pairs_serve}
use Rattle.circ_index.proofs.Pairing.{length-both_ways, place_within, place_past, pair_at}
use Rattle.circ_index.proofs.Seeking.{sought_first, sought_next, sought_found, sought_none, within, next_above}
use Rattle.circ_index.proofs.pairs.first_on.Goals as goal

pub next_pair-requires : goal.next_pair-requires
next_pair-requires c =
    let x = c.args.finder.now in
    let a = c.args.a.now in
    let b = c.args.b.now in
    subst (λ ks. IsOnWay x ks (pair_seats x ks a b) c.args.from c.args.walk.now) (sym c.pair_keys-keys.ensures) c.requires.way

pub loop-place-init : goal.loop-place-init
loop-place-init c =
    let x = c.args.finder.now in
    let a = c.args.a.now in
    let b = c.args.b.now in
    sought_first (PairMatches a b) (both_ways c.args.pairs.now) x (pair_keys a b) (pair_seats x (pair_keys a b) a b) c.args.from c.in_ok-place.place c.next_pair.new.walk
    (pairs_serve c.args.pairs.now x a b c.requires.pairs) (omega (arith, c.ranges.from.fits))
    (subst (λ ks. IsNextOn x ks (pair_seats x ks a b) c.args.from c.next_pair.new.walk c.in_ok-place.place) c.pair_keys-keys.ensures c.in_ok-place.ensures)

pub try_at-requires : goal.try_at-requires
try_at-requires c = place_within c.args.pairs.now (length c.args.pairs.now) c.loop-place.place refl c.loop-place-test.true

pub returns-in-Some : goal.returns-in-Some
returns-in-Some c =
    let pairs = c.args.pairs.now in
    let x = c.args.finder.now in
    let a = c.args.a.now in
    let b = c.args.b.now in
    let place = c.loop-place.place in
    let p = pair_at (both_ways pairs) place (place_within pairs (length pairs) place refl c.loop-place-test.true) in
    sought_found (PairMatches a b) (both_ways pairs) x (pair_keys a b) (pair_seats x (pair_keys a b) a b) c.args.from place c.loop-place.walk p.0 c.in-Some.subst
    c.loop-place.invariant p.1 (rw c.in-Some.is at (c.in_ok-subst.ensures p.0 p.1))

pub pass-requires : goal.pass-requires
pass-requires c =
    let pairs = c.args.pairs.now in
    let x = c.args.finder.now in
    let a = c.args.a.now in
    let b = c.args.b.now in
    within (PairMatches a b) (both_ways pairs) x (pair_keys a b) (pair_seats x (pair_keys a b) a b) c.args.from c.loop-place.place c.loop-place.walk
    (pairs_serve pairs x a b c.requires.pairs) c.loop-place.invariant (place_within pairs (length pairs) c.loop-place.place refl c.loop-place-test.true)

pub next_pair-requires-in-loop-place : goal.next_pair-requires-in-loop-place
next_pair-requires-in-loop-place c =
    let x = c.args.finder.now in
    let a = c.args.a.now in
    let b = c.args.b.now in
    subst (λ ks. IsOnWay x ks (pair_seats x ks a b) (c.loop-place.place + 1) c.pass.new.walk) (sym c.pair_keys-keys.ensures)
    (c.pass.ensures (pair_keys a b) (pair_seats x (pair_keys a b) a b) c.loop-place.invariant.way)

pub loop-place-smaller : goal.loop-place-smaller
loop-place-smaller c =
    let pairs = c.args.pairs.now in
    let x = c.args.finder.now in
    let ks = c.pair_keys-keys.result in
    let below = place_within pairs (length pairs) c.loop-place.place refl c.loop-place-test.true in
    omega (
      arith,
      next_above x ks (pair_seats x ks c.args.a.now c.args.b.now) (c.loop-place.place + 1) c.in_ok-place-2.place c.next_pair-in-loop-place.new.walk
          (omega (arith, below, length-both_ways pairs, c.requires.pairs.few)) c.in_ok-place-2.ensures,
      below,
    )

pub loop-place-preserved : goal.loop-place-preserved
loop-place-preserved c =
    let pairs = c.args.pairs.now in
    let x = c.args.finder.now in
    let a = c.args.a.now in
    let b = c.args.b.now in
    let place = c.loop-place.place in
    sought_next (PairMatches a b) (both_ways pairs) x (pair_keys a b) (pair_seats x (pair_keys a b) a b) c.args.from place c.in_ok-place-2.place c.loop-place.walk
    c.next_pair-in-loop-place.new.walk (pairs_serve pairs x a b c.requires.pairs) c.loop-place.invariant (place_within pairs (length pairs) place refl c.loop-place-test.true)
    (λ p g. rw c.in-None.is at (c.in_ok-subst.ensures p g))
    (subst (λ ks. IsNextOn x ks (pair_seats x ks a b) (place + 1) c.next_pair-in-loop-place.new.walk c.in_ok-place-2.place) c.pair_keys-keys.ensures c.in_ok-place-2.ensures)

pub returns : goal.returns
returns c =
    let pairs = c.args.pairs.now in
    let x = c.args.finder.now in
    let a = c.args.a.now in
    let b = c.args.b.now in
    sought_none (PairMatches a b) (both_ways pairs) x (pair_keys a b) (pair_seats x (pair_keys a b) a b) c.args.from c.loop-place.place c.loop-place.walk c.loop-place.invariant
    (place_past pairs (length pairs) c.loop-place.place refl c.loop-place-test.false)
