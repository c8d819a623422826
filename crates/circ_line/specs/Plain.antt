-- What contracts see of lines, and what it is to read one.
use Rattle.std.specs.Prelude.{◌≡◌, ◌++◌, ℕ, List, Option, Some, None, nat_eq, false}
use Rattle.std.specs.List.{AllByRecursion}
use Rattle.circ_proof.specs.Plain.{plain_link}
use Rattle.circ_line.specs.Line.{TableLine, Variable_line, Application_line, Line, head_line, table_line, place_line, certificate_line, block_line, goal_line, given_line, simplify_line, reduce_line, derive_line, cases_line, done_line, same_line, split_line, if_line, left_line, right_line, end_line}
use Rattle.circ_line.specs.Text.{line_text, IsInRange}
use Rattle.circ_line.specs.declared.line.Line.{Line as CodeLine}
use Rattle.circ_line.specs.declared.line.Line.TheVariants as line
use Rattle.circ_line.specs.declared.line.TableLine.{TableLine as CodeTableLine}
use Rattle.circ_line.specs.declared.line.TableLine.TheVariants.{Variable, Application}

abbrev pub plain_table_line : CodeTableLine → TableLine
plain_table_line (Variable number sort) = Variable_line number sort
plain_table_line (Application op args) = Application_line op args.items

abbrev pub plain_line : CodeLine → Line
plain_line (line.Head version) = head_line version
plain_line (line.Table l) = table_line (plain_table_line l)
plain_line (line.Place op arg) = place_line op arg
plain_line line.Certificate = certificate_line
plain_line line.Block = block_line
plain_line (line.Goal left right) = goal_line left right
plain_line (line.Given left right) = given_line left right
plain_line line.Simplify = simplify_line
plain_line line.Reduce = reduce_line
plain_line line.Derive = derive_line
plain_line (line.Cases term) = cases_line term
plain_line line.Done = done_line
plain_line line.Same = same_line
plain_line (line.Split term count) = split_line term count
plain_line line.If = if_line
plain_line (line.Left link) = left_line (plain_link link)
plain_line (line.Right link) = right_line (plain_link link)
plain_line line.End = end_line

-- the one line in range that the bytes are the text of, or that they are the text of none
abbrev pub ReadsLine : List ℕ → Option Line → Type 0
ReadsLine bytes (Some l) = (bytes ≡ line_text l) × IsInRange l
ReadsLine bytes None = (l : Line) → IsInRange l → bytes ≡ line_text l → ⊥

-- two lines in range that have one text are the same
abbrev pub OneText : Type 0
OneText = (l m : Line) → IsInRange l → IsInRange m → line_text l ≡ line_text m → l ≡ m

abbrev pub NoFeed : List ℕ → Type 0
NoFeed bytes = AllByRecursion (λ b. nat_eq b 10 ≡ false) bytes

-- the text of a line in range has no line feed in it
abbrev pub NoFeedWithin : Type 0
NoFeedWithin = (l : Line) → IsInRange l → NoFeed (line_text l)

-- the text begins with this one
pub record Extends (front text : List ℕ) : Type 0 where
  pub rest : List ℕ
  pub is : text ≡ front ++ rest

-- what the old text begins with, the new one begins with
abbrev pub Keeps : List ℕ → List ℕ → Type 0
Keeps old new = (front : List ℕ) → Extends front old → Extends front new
