-- A grammar of a theory's rules and variables.
use Rattle.std.proofs.Common.{◌≡◌, ℕ, List, length, Bool, arith}
use Rattle.std.specs.List.{Contains}
use Rattle.circ_spelling.specs.declared.grammar.Grammar.{Grammar}
use Rattle.circ_spelling.specs.Words.{HaveWords}
use Rattle.circ_theory.specs.Signature.{Signature, Operator}
use Rattle.circ_theory.specs.Theory.{Theory, Declared}
use Rattle.circ_theory.specs.Names.{AreDifferent}
use Rattle.circ_theory.specs.Operators.{IsOperator}
use Rattle.circ_theory.specs.WellFormed.{IsWellFormed}
use Rattle.circ_mixfix.specs.Coding.{HasRules, IsGrammarOf}
use Rattle.circ_mixfix.specs.Least.{StandsIn, AreLeast, AreCandidates}
use Rattle.circ_mixfix.specs.Variables.{HasVariables}
use Rattle.circ_mixfix.specs.WordLists.{GrowsTo, BeginAlike}
use Rattle.circ_mixfix.proofs.SymbolWords.{rule_words}
use Rattle.circ_mixfix.proofs.RuleLists.{first_number}
use Rattle.circ_theory.proofs.Rewriting.{contains_at}

pub grammar_of : (sig : Signature) (vars : List Declared) (hole : Bool) (old ws : List (List ℕ)) (most : ℕ) (least fs : List ℕ) (k : ℕ) (g : Grammar) → BeginAlike old → k ≡ length old
    → GrowsTo old ws k → AreDifferent ws → ((o : Operator) → Contains sig.ops o → IsOperator sig o) → HasRules sig ws most least (StandsIn fs) g.rules.items
    → AreLeast sig ws g.variables.items most least → AreCandidates sig ws most least fs → HasVariables sig vars hole ws k g.variables.items → IsGrammarOf sig vars hole ws k most g
grammar_of sig vars hole old ws most least fs k g b e grows d operators rules spelled candidates variables = record {
  different = d;
  count = let l = grows.longer in omega arith;
  opening = grows.kept 0 _ b.opening;
  closing = grows.kept 1 _ b.closing;
  rules = rules.rules;
  least = least;
  all_rules = λ f o l p h m. rules.all_rules f o (candidates f o l (first_number sig ws o (operators o (contains_at sig.ops f o l)) h) m) l p h m;
  least_operators = λ f o l h m. spelled.operators f o l (first_number sig ws o (operators o (contains_at sig.ops f o l)) h) m;
  least_variables = spelled.variables;
  variables = variables.variables;
  all_variables = variables.all_variables;
}

pub have_words : (th : Theory) (ws : List (List ℕ)) (most : ℕ) (least fs : List ℕ) (g : Grammar) → IsWellFormed th → HasRules th.signature ws most least (StandsIn fs) g.rules.items → HaveWords g
have_words th ws most least fs g w rules n r l =
    let h = rules.rules n r l in
    let i = h.3 in
    rule_words th.signature ws h.1 r.symbols.items (w.operators h.1 (contains_at th.signature.ops h.0 h.1 h.2)) i.symbols
