-- The text of a line, without its line feed.
use Rattle.std.specs.Prelude.{◌≡◌, ◌^◌, ◌<◌, ◌≤◌, ℕ, List, [], ◌∷◌, ◌++◌, map, flat_map, codes, decimal}
use Rattle.std.specs.List.{AllByRecursion}
use Rattle.circ_theory.specs.declared.way.Way.{Way}
use Rattle.circ_theory.specs.declared.way.Way.TheVariants.{Forth, Back}
use Rattle.circ_proof.specs.Plain.{LinkOf, Equation_link, Hypothesis_link, Assumption_link, Content_link, no_chain}
use Rattle.circ_line.specs.Line.{TableLine, Variable_line, Application_line, Line, head_line, table_line, place_line, certificate_line, block_line, goal_line, given_line, simplify_line, reduce_line, derive_line, cases_line, done_line, same_line, split_line, if_line, left_line, right_line, end_line}

-- words with a mark between each two
abbrev pub joined : (mark : ℕ) → List (List ℕ) → List ℕ
joined mark [] = []
joined mark (word ∷ words) = word ++ flat_map (λ w. mark ∷ w) words

-- the entries joined by dots, or a dash where there are none
abbrev pub path_word : List ℕ → List ℕ
path_word [] = codes "-"
path_word (n ∷ ns) = joined 46 (map decimal (n ∷ ns))

abbrev pub way_word : Way → List ℕ
way_word Forth = codes ">"
way_word Back = codes "<"

-- without the chains of its conditions
abbrev pub link_words : LinkOf ℕ → List (List ℕ)
link_words (Equation_link number way path terms conds) = codes "equation" ∷ way_word way ∷ decimal number ∷ path_word path ∷ map decimal terms
link_words (Hypothesis_link number way path terms conds) = codes "hypothesis" ∷ way_word way ∷ decimal number ∷ path_word path ∷ map decimal terms
link_words (Assumption_link number way path) = codes "assumption" ∷ way_word way ∷ decimal number ∷ path_word path ∷ []
link_words (Content_link op path term) = codes "content" ∷ decimal op ∷ path_word path ∷ decimal term ∷ []

abbrev pub table_words : TableLine → List (List ℕ)
table_words (Variable_line number sort) = codes "v" ∷ decimal number ∷ decimal sort ∷ []
table_words (Application_line op args) = codes "a" ∷ decimal op ∷ map decimal args

abbrev pub line_words : Line → List (List ℕ)
line_words (head_line version) = codes "circproof" ∷ decimal version ∷ []
line_words (table_line line) = table_words line
line_words (place_line op arg) = codes "place" ∷ decimal op ∷ decimal arg ∷ []
line_words certificate_line = codes "cert" ∷ []
line_words block_line = codes "block" ∷ []
line_words (goal_line left right) = codes "goal" ∷ decimal left ∷ decimal right ∷ []
line_words (given_line left right) = codes "given" ∷ decimal left ∷ decimal right ∷ []
line_words simplify_line = codes "simplify" ∷ []
line_words reduce_line = codes "reduce" ∷ []
line_words derive_line = codes "derive" ∷ []
line_words (cases_line term) = codes "cases" ∷ decimal term ∷ []
line_words done_line = codes "done" ∷ []
line_words same_line = codes "same" ∷ []
line_words (split_line term count) = codes "split" ∷ decimal term ∷ decimal count ∷ []
line_words if_line = codes "if" ∷ []
line_words (left_line link) = codes "left" ∷ link_words link
line_words (right_line link) = codes "right" ∷ link_words link
line_words end_line = codes "end" ∷ []

abbrev pub line_text : Line → List ℕ
line_text line = joined 32 (line_words line)

-- numbers are at most 4,294,967,295
abbrev pub AreNumbers : List ℕ → Type 0
AreNumbers ns = AllByRecursion (λ n. n < 2 ^ 32) ns

-- entries of a path are at most 65,535
abbrev pub IsPathInRange : List ℕ → Type 0
IsPathInRange ns = AllByRecursion (λ n. n < 2 ^ 16) ns

-- a link of a line has no chains: they are in the lines after it
abbrev pub IsLinkInRange : LinkOf ℕ → Type 0
IsLinkInRange (Equation_link number way path terms conds) = AreNumbers (number ∷ terms) × IsPathInRange path × (conds ≡ no_chain)
IsLinkInRange (Hypothesis_link number way path terms conds) = AreNumbers (number ∷ terms) × IsPathInRange path × (conds ≡ no_chain)
IsLinkInRange (Assumption_link number way path) = AreNumbers (number ∷ []) × IsPathInRange path
IsLinkInRange (Content_link op path term) = AreNumbers (op ∷ term ∷ []) × IsPathInRange path

-- the version is 1 or 2, numbers and links are in range
abbrev pub IsInRange : Line → Type 0
IsInRange (head_line version) = (1 ≤ version) × (version ≤ 2)
IsInRange (table_line (Variable_line number sort)) = AreNumbers (number ∷ sort ∷ [])
IsInRange (table_line (Application_line op args)) = AreNumbers (op ∷ args)
IsInRange (place_line op arg) = AreNumbers (op ∷ arg ∷ [])
IsInRange (goal_line left right) = AreNumbers (left ∷ right ∷ [])
IsInRange (given_line left right) = AreNumbers (left ∷ right ∷ [])
IsInRange (cases_line term) = AreNumbers (term ∷ [])
IsInRange (split_line term count) = AreNumbers (term ∷ count ∷ [])
IsInRange (left_line link) = IsLinkInRange link
IsInRange (right_line link) = IsLinkInRange link
IsInRange _ = Unit {0}
