-- The lines that `trace` prints of a turn.
use Rattle.std.specs.Prelude.{ℕ, ◌+◌, Bool, List, [], ◌∷◌, ◌++◌, length, flat_map, nat_lt, if◌then◌else◌, true, false, Option, Some, None, codes, decimal}
use Rattle.std.specs.List.{slice_get}
use Rattle.std.specs.Option.{option_map, option_map_or, option_or}
use Rattle.circ_term.specs.Tree.{Tree, sort_of, size_of}
use Rattle.circ_theory.specs.Signature.{Signature}
use Rattle.circ_theory.specs.Theory.{Theory}
use Rattle.circ_theory.specs.Observing.{is_hidden}
use Rattle.circ_theory.specs.Goal.{Goal}
use Rattle.circ_mixfix.specs.Printing.{text_of_term, text_of_goal}
use Rattle.circ_plain_search.specs.Joining.{first_open}
use Rattle.circ_plain_search.specs.Search.{Standing}
use Rattle.circ_trace.specs.Account.{Account}
use Rattle.circ_trace.specs.Deed.{Deed, Joins, Passes, Closes, Cases, Opens, Ends}
use Rattle.circ_trace.specs.Descents.{first_descent}
use Rattle.circ_trace.specs.declared.descent.Descent.{Descent}
use Rattle.circ_trace.specs.declared.descent.Descent.TheVariants.{Given, Derived, Case}

-- a term, or, where it has more than 1,000 nodes, how many
abbrev pub shown : Signature → Tree → List ℕ
shown sig t = if nat_lt 1000 (size_of t) then codes "(" ++ decimal (size_of t) ++ codes " nodes)" else text_of_term sig false t

abbrev pub shown_sides : Signature → (left right : Tree) → List ℕ
shown_sides sig s t = shown sig s ++ codes " = " ++ shown sig t

-- a goal with conditions is written out
abbrev pub shown_goal : Signature → Goal → List ℕ
shown_goal sig g = if nat_lt 0 (length g.conds) then text_of_goal sig g else shown_sides sig g.left g.right

abbrev pub shown_side : (label : List ℕ) → Signature → Tree → List ℕ
shown_side label sig t = label ++ shown sig t ++ codes "\n"

-- hypotheses are counted from 1
abbrev pub hypothesis_text : (number : ℕ) → List ℕ
hypothesis_text n = codes "hypothesis " ++ decimal n

-- blocks are counted from 1
abbrev pub block_text : Standing → List ℕ
block_text st = codes "block " ++ decimal (length st.finished + 1)

-- ---- which goal it is

abbrev pub derivative_text : Theory → (number : ℕ) → List ℕ
derivative_text th i = option_map_or (text_of_term th.signature true) (option_map (λ d. d.body) (slice_get th.derivatives i)) []

abbrev pub of_goal : (number : ℕ) → List ℕ
of_goal n = codes " of goal " ++ decimal n

-- cases are counted from 1
abbrev pub descent_text : Theory → Descent → List ℕ
descent_text th Given = []
descent_text th (Derived n i) = codes " = " ++ derivative_text th i ++ of_goal n
descent_text th (Case n k) = codes " = case " ++ decimal k ++ of_goal n

-- the number of the goal in hand, and how it came about
abbrev pub heading : Theory → List Descent → Standing → List ℕ
heading th ds st = block_text st ++ codes ", goal " ++ decimal (st.taken + 1) ++ descent_text th (first_descent ds) ++ codes "\n"

-- the goal as it stands
abbrev pub goal_line : Signature → Goal → List ℕ
goal_line sig g = codes "goal: " ++ shown_goal sig g ++ codes "\n"

-- ---- what is done with it

abbrev pub further_hypothesis : ℕ → List ℕ
further_hypothesis n = codes ", " ++ hypothesis_text (n + 1)

-- the hypotheses that are used, or this where none is
abbrev pub uses_line : (none some : List ℕ) → List ℕ → List ℕ
uses_line none some [] = none ++ codes "\n"
uses_line none some (n ∷ ns) = some ++ hypothesis_text (n + 1) ++ flat_map further_hypothesis ns ++ codes "\n"

abbrev pub split_line : Signature → Option Tree → List ℕ
split_line sig None = codes "no term to split on\n"
split_line sig (Some u) = codes "split on " ++ shown sig u ++ codes "\n"

-- the hidden goal gives way to its cases
abbrev pub cases_line : Signature → Tree → List ℕ
cases_line sig u = codes "cases on " ++ shown sig u ++ codes "\n"

-- the next hypothesis
abbrev pub derived_line : Standing → List ℕ
derived_line st = codes "derive: " ++ hypothesis_text (length st.hypotheses + 1) ++ codes "\n"

-- A hidden goal is derived, and so becomes a hypothesis. A visible one is split.
abbrev pub opening_line : Theory → Standing → (left right : Tree) → List ℕ
opening_line th st s t =
    if is_hidden th (sort_of s) then derived_line st else split_line th.signature (option_or (first_open th s) (first_open th t))

-- an attempt was made that closed nothing
abbrev pub attempt_line : (attempted : Bool) → List ℕ
attempt_line true = codes "attempt ends\n"
attempt_line false = []

-- nothing but the attempt's line where the search ends
abbrev pub deed_line : Theory → Standing → (left right : Tree) → Deed → List ℕ
deed_line th st s t (Joins ns) = uses_line (codes "equal") (codes "joins by ") ns
deed_line th st s t (Passes ns) = uses_line (codes "lemma pass") (codes "lemma pass by ") ns
deed_line th st s t (Closes ns) = uses_line (codes "closes") (codes "closes by ") ns
deed_line th st s t (Cases a u) = attempt_line a ++ cases_line th.signature u
deed_line th st s t (Opens a) = attempt_line a ++ opening_line th st s t
deed_line th st s t (Ends a) = attempt_line a

-- nothing where normalising ends the search
abbrev pub account_text : Theory → Standing → Option Account → List ℕ
account_text th st None = []
account_text th st (Some a) =
    shown_side (codes "left: ") th.signature a.left ++ shown_side (codes "right: ") th.signature a.right
    ++ deed_line th st a.left a.right a.deed

-- ---- where no goal is left

-- goals as hypotheses, of which the first has number n + 1
abbrev pub hypothesis_lines : Signature → (n : ℕ) → List Goal → List ℕ
hypothesis_lines sig n [] = []
hypothesis_lines sig n (g ∷ gs) = (hypothesis_text (n + 1) ++ codes ": " ++ shown_goal sig g ++ codes "\n") ++ hypothesis_lines sig (n + 1) gs

-- the goals of the block, which are hypotheses of the blocks to come, if there is one
abbrev pub handed_on : Signature → (n : ℕ) → (later : List (List Goal)) → List Goal → List ℕ
handed_on sig n [] gs = []
handed_on sig n (b ∷ bs) gs = hypothesis_lines sig n gs

abbrev pub done_text : Signature → Standing → List ℕ
done_text sig st = block_text st ++ codes ", done\n" ++ handed_on sig (length st.earlier) st.later st.goals

-- ---- a turn

abbrev pub text_at : Theory → List Descent → Standing → Option Account → (queue : List Goal) → List ℕ
text_at th ds st a [] = done_text th.signature st
text_at th ds st a (g ∷ rest) = heading th ds st ++ goal_line th.signature g ++ account_text th st a

abbrev pub turn_text : Theory → List Descent → Standing → Option Account → List ℕ
turn_text th ds st a = text_at th ds st a st.queue
