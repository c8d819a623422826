use Rattle.std.proofs.Common.{sym}
use Rattle.circ_lexer.proofs.Ordered.{inside, token_at}
use Rattle.circ_lexer.proofs.tokens.Tokens.token.Goals as goal

pub slice_at-requires-clause-ahead : goal.slice_at-requires-clause-ahead
slice_at-requires-clause-ahead c =
    (inside c.self.inside.source.now c.self.inside.spans.items c.args.n c.in_ok-span.span c.self.invariant (rw (← c.self.view_is) at (sym c.in_ok-span.ensures))).0

pub slice_at-requires-clause-within : goal.slice_at-requires-clause-within
slice_at-requires-clause-within c =
    (inside c.self.inside.source.now c.self.inside.spans.items c.args.n c.in_ok-span.span c.self.invariant (rw (← c.self.view_is) at (sym c.in_ok-span.ensures))).1

pub returns : goal.returns
returns c = token_at c.args.self.now c.args.n c.in_ok-span.span c.slice_at.result.now (sym c.in_ok-span.ensures) (rw (← c.self.view_is) c.slice_at.ensures)
