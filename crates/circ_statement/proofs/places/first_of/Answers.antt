use Rattle.std.proofs.Common.{◌≡◌, [], ◌∷◌, ◌+◌, sym, refl, ap, ◌∙◌, arith, unwrap_or, slice_get, slice_range}
use Rattle.circ_lexer.specs.TokenList.{tokens_of}
use Rattle.circ_statement.proofs.Ranges.{range_next}
use Rattle.circ_statement.proofs.places.first_of.Goals as goal

pub returns : goal.returns
returns c =
    let ws = tokens_of c.args.tokens.now in
    let is : unwrap_or (slice_get ws c.args.span.from) [] ≡ c.in_ok-word.word.now = ap (λ o. unwrap_or o []) (sym c.in_ok-word.ensures) in
    record {
      some = omega arith;
      place = refl;
      from = refl;
      to = refl;
      within = record { ahead = omega arith; within = c.requires.within };
      is_place = omega arith;
      token = is;
      words = range_next ws c.args.span.from c.args.span.to (omega arith) c.requires.within ∙ ap (λ w. w ∷ slice_range ws (c.args.span.from + 1) c.args.span.to) is;
    }
