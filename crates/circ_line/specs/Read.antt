-- The line that bytes are the text of.
use Rattle.std.specs.Prelude.{◌^◌, ◌==◌, ℕ, List, [], ◌∷◌, Option, Some, None, if◌then◌else◌, codes}
use Rattle.std.specs.Option.{option_and_then, option_map}
use Rattle.std.specs.Str.{bytes_eq}
use Rattle.circ_theory.specs.declared.way.Way.{Way}
use Rattle.circ_theory.specs.declared.way.Way.TheVariants.{Forth, Back}
use Rattle.circ_proof.specs.Plain.{LinkOf, Equation_link, Hypothesis_link, Assumption_link, Content_link, no_chain}
use Rattle.circ_line.specs.Line.{Variable_line, Application_line, Line, head_line, table_line, place_line, certificate_line, block_line, goal_line, given_line, simplify_line, reduce_line, derive_line, cases_line, done_line, same_line, split_line, if_line, left_line, right_line, end_line}
use Rattle.circ_line.specs.Text.{line_text}
use Rattle.circ_line.specs.Front.{rest_after, marked, items_at, seq, ended, whole, then_whole, after_or}

-- a number after a space
abbrev pub field_at : List ℕ → Option (ℕ × List ℕ)
field_at bs = marked 32 (2 ^ 32) bs

-- numbers up to the end, a space before each
abbrev pub numbers_of : List ℕ → Option (List ℕ)
numbers_of bs = ended (items_at field_at bs)

abbrev pub number_of : List ℕ → Option ℕ
number_of bs = whole field_at bs

abbrev pub pair_of : List ℕ → Option (ℕ × ℕ)
pair_of bs = then_whole field_at number_of bs

abbrev pub way_at : List ℕ → Option (Way × List ℕ)
way_at bs = after_or (rest_after (codes " >") bs) (λ r. Some (Forth, r)) (option_map (λ r. (Back, r)) (rest_after (codes " <") bs))

-- the entries of a path after the first, with it
abbrev pub entries_at : ℕ → List ℕ → List ℕ × List ℕ
entries_at first bs = let s = items_at (marked 46 (2 ^ 16)) bs in (first ∷ s.0, s.1)

abbrev pub path_from : List ℕ → Option (ℕ × List ℕ) → Option (List ℕ × List ℕ)
path_from bs None = option_map (λ r. ([], r)) (rest_after (codes " -") bs)
path_from bs (Some r) = Some (entries_at r.0 r.1)

-- a path after a space
abbrev pub path_at : List ℕ → Option (List ℕ × List ℕ)
path_at bs = path_from bs (marked 32 (2 ^ 16) bs)

-- which way, the number of a rule, and where
abbrev pub rule_at : List ℕ → Option ((Way × (ℕ × List ℕ)) × List ℕ)
rule_at bs = seq way_at (seq field_at path_at) bs

-- a rule, and the numbers of terms
abbrev pub instance_of : List ℕ → Option ((Way × (ℕ × List ℕ)) × List ℕ)
instance_of bs = then_whole rule_at numbers_of bs

abbrev pub to_equation : (Way × (ℕ × List ℕ)) × List ℕ → LinkOf ℕ
to_equation p = Equation_link p.0.1.0 p.0.0 p.0.1.1 p.1 no_chain

abbrev pub to_hypothesis : (Way × (ℕ × List ℕ)) × List ℕ → LinkOf ℕ
to_hypothesis p = Hypothesis_link p.0.1.0 p.0.0 p.0.1.1 p.1 no_chain

abbrev pub to_assumption : Way × (ℕ × List ℕ) → LinkOf ℕ
to_assumption p = Assumption_link p.1.0 p.0 p.1.1

abbrev pub to_content : ℕ × (List ℕ × ℕ) → LinkOf ℕ
to_content p = Content_link p.0 p.1.0 p.1.1

abbrev pub content_of : List ℕ → Option (LinkOf ℕ)
content_of bs = option_map to_content (then_whole field_at (then_whole path_at number_of) bs)

abbrev pub assumption_of : List ℕ → Option (LinkOf ℕ)
assumption_of bs = option_map to_assumption (whole rule_at bs)

abbrev pub link_of : List ℕ → Option (LinkOf ℕ)
link_of bs =
    after_or (rest_after (codes "equation") bs) (λ r. option_map to_equation (instance_of r))
    (after_or (rest_after (codes "hypothesis") bs) (λ r. option_map to_hypothesis (instance_of r))
    (after_or (rest_after (codes "assumption") bs) assumption_of
    (after_or (rest_after (codes "content") bs) content_of None)))

-- the first of some lines that has the text
abbrev pub first_of : List Line → List ℕ → Option Line
first_of [] bs = None
first_of (line ∷ lines) bs = if bytes_eq bs (line_text line) then Some line else first_of lines bs

abbrev pub frame_lines : List Line
frame_lines = certificate_line ∷ block_line ∷ done_line ∷ end_line ∷ []

-- a line without numbers
abbrev pub word_line : List ℕ → Option Line
word_line bs = first_of (same_line ∷ reduce_line ∷ derive_line ∷ simplify_line ∷ if_line ∷ frame_lines) bs

abbrev pub to_variable : ℕ × ℕ → Line
to_variable p = table_line (Variable_line p.0 p.1)

abbrev pub to_goal : ℕ × ℕ → Line
to_goal p = goal_line p.0 p.1

abbrev pub to_given : ℕ × ℕ → Line
to_given p = given_line p.0 p.1

abbrev pub to_place : ℕ × ℕ → Line
to_place p = place_line p.0 p.1

abbrev pub to_split : ℕ × ℕ → Line
to_split p = split_line p.0 p.1

-- the first line, by its version
abbrev pub head_with : ℕ → Option Line
head_with v = if v == 1 then Some (head_line 1) else if v == 2 then Some (head_line 2) else None

abbrev pub head_of : List ℕ → Option Line
head_of bs = option_and_then head_with (number_of bs)

-- a line of two numbers, of one, or of none
abbrev pub short_line : List ℕ → Option Line
short_line bs =
    after_or (rest_after (codes "v") bs) (λ r. option_map to_variable (pair_of r))
    (after_or (rest_after (codes "goal") bs) (λ r. option_map to_goal (pair_of r))
    (after_or (rest_after (codes "given") bs) (λ r. option_map to_given (pair_of r))
    (after_or (rest_after (codes "place") bs) (λ r. option_map to_place (pair_of r))
    (after_or (rest_after (codes "split") bs) (λ r. option_map to_split (pair_of r))
    (after_or (rest_after (codes "cases") bs) (λ r. option_map cases_line (number_of r))
    (after_or (rest_after (codes "circproof") bs) head_of (word_line bs)))))))

abbrev pub to_application : ℕ × List ℕ → Line
to_application p = table_line (Application_line p.0 p.1)

abbrev pub application_of : List ℕ → Option Line
application_of bs = option_map to_application (then_whole field_at numbers_of bs)

abbrev pub line_of : List ℕ → Option Line
line_of bs =
    after_or (rest_after (codes "left ") bs) (λ r. option_map left_line (link_of r))
    (after_or (rest_after (codes "right ") bs) (λ r. option_map right_line (link_of r))
    (after_or (rest_after (codes "a") bs) application_of (short_line bs)))
