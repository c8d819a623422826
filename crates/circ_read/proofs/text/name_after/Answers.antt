use Rattle.std.proofs.Common.{◌≡◌, ◌+◌, ◌<◌, length, slice_get, Some, codes, sym, arith}
use Rattle.circ_lexer.specs.TokenList.{tokens_of}
use Rattle.circ_read.proofs.Places.{word_here, three_here, three_at, get_within}
use Rattle.circ_read.proofs.text.name_after.Goals as goal

pub returns-then-is_name : goal.returns-then-is_name
returns-then-is_name c =
    let ws = tokens_of c.args.tokens.now in
    let first = word_here ws c.args.at (codes "theory") (sym c.if-not-has_word.ensures) in
    let second : slice_get ws (c.args.at + 1) ≡ Some c.in_ok-name.name.now = sym c.in_ok-name.ensures in
    let third = word_here ws (c.args.at + 2) (codes "is") (sym c.if-not-has_word-2.ensures) in
    let within : c.args.at + 2 < length ws = get_within ws (c.args.at + 2) (codes "is") third in
    record { is_name = sym c.if-is_name.ensures; words = three_here ws c.args.at _ _ _ first second third; within = omega arith }

pub returns-else-is_name : goal.returns-else-is_name
returns-else-is_name c = λ name body is e.
    let ws = tokens_of c.args.tokens.now in
    let all = three_at ws c.args.at (codes "theory") name (codes "is") body e in
    let second : slice_get ws (c.args.at + 1) ≡ Some c.in_ok-name.name.now = sym c.in_ok-name.ensures in
    let same : name ≡ c.in_ok-name.name.now = cc (all.second) in
    let lacks = sym c.if-is_name.ensures in
    cc
