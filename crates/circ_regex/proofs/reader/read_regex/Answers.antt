use Rattle.std.proofs.Common.{◌≡◌, ℕ, ◌<◌, ◌+◌, length, drop, get_or, arith, ap, sym, ◌∙◌}
use Rattle.std.proofs.lemmas.List.{drop_more}
use Rattle.std.specs.Option.{option_map}
use Rattle.circ_regex.specs.Matches.{plain_regex}
use Rattle.circ_regex.specs.Frames.{frame_of, frames_of}
use Rattle.circ_regex.proofs.Sound.{sound}
use Rattle.circ_regex.proofs.Finish.{not_read, stuck, finished, outer_left, none_left}
use Rattle.circ_regex.proofs.reader.read_regex.Goals as goal

pub returns-then-not-branch : goal.returns-then-not-branch
returns-then-not-branch c =
    let bytes = c.args.bytes.now in
    let i = c.loop-byte.byte-index in
    let x : ℕ = get_or bytes i 0 in
    let off = rw c.if-not-branch.true at c.in_ok-take.ensures in
    (c.if-bytes-gt-MOST_BYTES.false, not_read bytes (stuck bytes (drop (i + 1) bytes) i x (frames_of c.loop-byte.reader) (drop_more bytes i 0 c.loop-byte-test.true) c.loop-byte.invariant off))

pub returns-then-not-is_empty : goal.returns-then-not-is_empty
returns-then-not-is_empty c =
    let bytes = c.args.bytes.now in
    let r = c.loop-byte.reader in
    let some : 0 < length r.outer.items = grind (arith, c.is_empty.ensures, c.if-not-is_empty.true) in
    (c.if-bytes-gt-MOST_BYTES.false, not_read bytes (finished bytes c.loop-byte.byte-index (frames_of r) c.loop-byte-test.false c.loop-byte.invariant ∙ outer_left r.outer.items (frame_of r.now) some))

pub returns-in-Some : goal.returns-in-Some
returns-in-Some c =
    let bytes = c.args.bytes.now in
    let r = c.loop-byte.reader in
    let none : length r.outer.items ≡ 0 = grind (arith, c.is_empty.ensures, c.if-not-is_empty.false) in
    let made = ap (option_map plain_regex) (sym c.in-Some.is) ∙ c.in_ok-regex.ensures in (
      c.if-bytes-gt-MOST_BYTES.false,
      sound bytes (plain_regex c.in-Some.regex) (finished bytes c.loop-byte.byte-index (frames_of r) c.loop-byte-test.false c.loop-byte.invariant ∙ none_left r.outer.items (frame_of r.now) none ∙ sym made),
    )

pub returns : goal.returns
returns c =
    let bytes = c.args.bytes.now in
    let r = c.loop-byte.reader in
    let none : length r.outer.items ≡ 0 = grind (arith, c.is_empty.ensures, c.if-not-is_empty.false) in
    let made = ap (option_map plain_regex) (sym c.in-None.is) ∙ c.in_ok-regex.ensures in (
      c.if-bytes-gt-MOST_BYTES.false,
      not_read bytes (finished bytes c.loop-byte.byte-index (frames_of r) c.loop-byte-test.false c.loop-byte.invariant ∙ none_left r.outer.items (frame_of r.now) none ∙ sym made),
    )
