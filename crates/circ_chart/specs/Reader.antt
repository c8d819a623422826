-- What a reader asks, and what is right.
use Rattle.std.specs.Prelude.{◌≡◌, ◌+◌, ℕ, List, [], ◌∷◌, Some, drop}
use Rattle.std.specs.List.{slice_get}
use Rattle.circ_term.specs.Tree.{Tree, Trees}
use Rattle.circ_spelling.specs.declared.grammar.Symbol.{Symbol}
use Rattle.circ_spelling.specs.declared.grammar.Symbol.TheVariants.{Hole}
use Rattle.circ_spelling.specs.declared.grammar.Rule.{Rule}
use Rattle.circ_spelling.specs.declared.steps.Wanted.{Wanted}
use Rattle.circ_chart.specs.declared.asked.Part.{Part}
use Rattle.circ_chart.specs.declared.asked.Gap.{Gap}
use Rattle.circ_chart.specs.declared.memo.Memo.{Memo}
use Rattle.circ_chart.specs.declared.reader.Reader.{Reader}
use Rattle.circ_spelling.specs.Words.{HaveWords}
use Rattle.circ_spelling.specs.Reads.{Reads, Row}
use Rattle.circ_chart.specs.Rows.{RowsOf}
use Rattle.circ_chart.specs.Ways.{InParentheses, ByRule, AnyByRule, SplitAt}
use Rattle.circ_chart.specs.Places.{HaveTables}
use Rattle.circ_spelling.specs.May.{IsClosed}
use Rattle.circ_chart.specs.Asked.{AreAnswers}
use Rattle.circ_chart.specs.Levels.{AreLevels}

-- each rule has a word, the tables are those of the rules, the sets of ends leave out nothing, the levels are those of the tokens, and what is kept is right
pub record IsReady (r : Reader) (m : Memo) : Type 0 where
  pub words : HaveWords r.grammar.now
  pub tables : HaveTables r.tokens.now r.grammar.now.rules.items r.tables.now
  pub starts : IsClosed r.grammar.now r.tokens.now r.starts.now
  pub levels : AreLevels r.grammar.now r.tokens.now r.levels.now
  pub memo : AreAnswers r.grammar.now r.tokens.now m.entries.items

-- the part is of a rule of the grammar
abbrev pub IsPart : Reader → Part → Type 0
IsPart r p = slice_get r.grammar.now.rules.items p.number ≡ Some p.rule.now

abbrev pub symbols_of : Part → List Symbol
symbols_of p = drop p.place p.rule.now.symbols.items

-- the symbols behind the first of a part
abbrev pub behind : Part → List Symbol
behind p = drop (p.place + 1) p.rule.now.symbols.items

abbrev pub IsHole : Gap → Type 0
IsHole x = symbols_of x.part ≡ Hole x.wanted.sort x.wanted.below ∷ behind x.part

-- what the tokens from i up to j spell: the wanted terms, those in parentheses, those by all rules, by one rule
abbrev pub TermsOver : Reader → Wanted → ℕ → ℕ → Tree → Type 0
TermsOver r w i j = Reads r.grammar.now r.tokens.now w.below w.sort i j

abbrev pub ParenthesesOver : Reader → Wanted → ℕ → ℕ → Tree → Type 0
ParenthesesOver r w i j = InParentheses r.grammar.now r.tokens.now w.below w.sort i j

abbrev pub RulesOver : Reader → Wanted → ℕ → ℕ → Tree → Type 0
RulesOver r w i j = AnyByRule r.grammar.now r.tokens.now w.below w.sort i j r.grammar.now.rules.items

abbrev pub RuleOver : Reader → Wanted → ℕ → ℕ → Rule → Tree → Type 0
RuleOver r w i j q = ByRule r.grammar.now r.tokens.now w.below w.sort i j q

-- the arguments that the symbols of a part have
abbrev pub ArgumentsOver : Reader → Part → ℕ → ℕ → Trees → Type 0
ArgumentsOver r p i j = Row r.grammar.now r.tokens.now (symbols_of p) i j

-- the rows of a part, of what is behind its first symbol, of a last hole, and of a part whose first hole ends at m
abbrev pub RowsOver : Reader → Part → ℕ → ℕ → Tree → Type 0
RowsOver r p i j = RowsOf r.grammar.now r.tokens.now p.rule.now.op p.rule.now.sort (symbols_of p) i j

abbrev pub RestOver : Reader → Part → ℕ → ℕ → Tree → Type 0
RestOver r p i j = RowsOf r.grammar.now r.tokens.now p.rule.now.op p.rule.now.sort (behind p) i j

abbrev pub LastOver : Reader → Rule → Wanted → ℕ → ℕ → Tree → Type 0
LastOver r q w i j = RowsOf r.grammar.now r.tokens.now q.op q.sort (Hole w.sort w.below ∷ []) i j

abbrev pub SplitOver : Reader → Gap → ℕ → ℕ → ℕ → Tree → Type 0
SplitOver r x i m j = SplitAt r.grammar.now r.tokens.now x.part.rule.now.op x.part.rule.now.sort x.wanted.sort x.wanted.below (behind x.part) i j m
