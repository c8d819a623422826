use Rattle.std.proofs.Common.{refl, arith, ap, ◌∙◌, ◌++◌}
use Rattle.circ_lexer.specs.TokenList.{tokens_in}
use Rattle.circ_statement.proofs.Equations.{short_unmarked, length-tokens, rest_of, cut_mark, mark_at_end}
use Rattle.circ_statement.proofs.reading.unmarked.Goals as goal

pub returns-then-span-lt-MARK_TOKENS : goal.returns-then-span-lt-MARK_TOKENS
returns-then-span-lt-MARK_TOKENS c =
    let short = length-tokens c.args.tokens.now c.args.span c.requires in
    (c.requires, (refl, λ front. short_unmarked (tokens_in c.args.tokens.now c.args.span) front (omega (arith, short))))

pub returns-then-not-is_mark : goal.returns-then-not-is_mark
returns-then-not-is_mark c = (
  c.requires,
  (
    refl,
    λ front e.
        let yes = c.is_mark.ensures.1 (mark_at_end c.args.tokens.now c.args.span c.requires c.if-span-lt-MARK_TOKENS.false front e) in
        let no = c.if-not-is_mark.true in
        absurd (cc),
  ),
)

pub returns : goal.returns
returns c =
    let ts = c.args.tokens.now in
    let span = c.args.span in
    let long = c.if-span-lt-MARK_TOKENS.false in (
      record { ahead = omega arith; within = omega (arith, c.requires.within) },
      cut_mark ts span c.requires long ∙ ap (λ xs. tokens_in ts (rest_of ts span c.requires long) ++ xs) (c.is_mark.ensures.0 c.if-not-is_mark.false),
    )
