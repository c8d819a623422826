use Rattle.std.proofs.Common.{refl, arith}
use Rattle.std.proofs.lemmas.Fmt.{decimal_digit}
use Rattle.circ_mixfix.proofs.print_laws.printed_sums.Goals as goal

pub returns-clause-with_holes : goal.returns-clause-with_holes
returns-clause-with_holes c = rw (decimal_digit 0 (omega arith), decimal_digit 1 (omega arith)) refl

pub returns-clause-without_holes : goal.returns-clause-without_holes
returns-clause-without_holes c = rw (decimal_digit 0 (omega arith), decimal_digit 1 (omega arith)) refl

pub returns-clause-derivative : goal.returns-clause-derivative
returns-clause-derivative c = rw (decimal_digit 1 (omega arith)) refl

pub returns-clause-pair : goal.returns-clause-pair
returns-clause-pair c = rw (decimal_digit 0 (omega arith), decimal_digit 1 (omega arith)) refl
