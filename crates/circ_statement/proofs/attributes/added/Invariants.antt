use Rattle.std.proofs.Common.{◌-◌}
use Rattle.circ_lexer.specs.TokenList.{tokens_in, IsWithin}
use Rattle.circ_statement.specs.declared.attributes.Attributes.{Attributes}
use Rattle.circ_statement.specs.Attributes.{no_attributes, AddsAttributes}
use Rattle.circ_statement.proofs.attributes.added.Given as goal

abbrev pub invariant-loop-rest : goal.invariant-loop-rest
invariant-loop-rest l = record {
  within : IsWithin l.tokens l.rest;
  sound : (b : Attributes) → AddsAttributes l.given (tokens_in l.tokens l.rest) b → AddsAttributes no_attributes (tokens_in l.tokens l.fn.inside) b;
  only : (b : Attributes) → AddsAttributes no_attributes (tokens_in l.tokens l.fn.inside) b → AddsAttributes l.given (tokens_in l.tokens l.rest) b;
}

abbrev pub decreases-loop-rest : goal.decreases-loop-rest
decreases-loop-rest l = l.rest.to - l.rest.from
