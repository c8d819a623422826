-- What `differ` answers by what is found of goals, with its text.
use Rattle.std.specs.Prelude.{◌≡◌, ℕ, ◌-◌, List, ◌++◌, length, flat_map, None, codes, decimal}
use Rattle.std.specs.List.{AllByRecursion}
use Rattle.circ_term.specs.Tree.{Tree}
use Rattle.circ_term.specs.Limits.{Limit, Big, Deep}
use Rattle.circ_theory.specs.Theory.{Theory}
use Rattle.circ_theory.specs.Goal.{Goal}
use Rattle.circ_entry.specs.Entries.{Written}
use Rattle.circ_show.specs.EntryText.{text_of_entry, IsEntry}
use Rattle.circ_refute.specs.PlainRefutation.{Refuted, Told_apart, Alike, Spent, Past_limit, Decision, PlainRefutation, goals_in}
use Rattle.circ_refute.specs.Difference.{IsRightDecision}
use Rattle.circ_status.specs.Texts.{spent_text, too_big_text, too_deep_text}
use Rattle.circ_status.specs.declared.status.Status.TheVariants as status
use Rattle.circ_found.specs.Answering.{side_line}
use Rattle.circ_status.specs.Ending.{Ending, ending}

-- an entry of the experiment, as a line
abbrev pub entry_line : Theory → Written → List ℕ
entry_line th w = codes "by: " ++ text_of_entry th w ++ codes "\n"

-- what is printed of a goal that is told apart: its number, the experiment, and the two constants
abbrev pub differs_text : Theory → (goal : ℕ) → List Written → (left right : Tree) → List ℕ
differs_text th n ws l m =
    codes "differs: goal " ++ decimal n ++ codes "\n" ++ flat_map (entry_line th) ws ++ side_line (codes "left: ") th.signature l
    ++ side_line (codes "right: ") th.signature m

-- the entries that are found are entries
abbrev pub AreEntries : Theory → Refuted → Type 0
AreEntries th (Told_apart ws l m) = AllByRecursion (IsEntry th) ws
AreEntries th Alike = Unit {0}
AreEntries th Spent = Unit {0}
AreEntries th (Past_limit limit) = Unit {0}

abbrev pub limit_ending : Limit → Ending
limit_ending (Big nodes) = ending (status.TooBig nodes) (too_big_text nodes) None
limit_ending (Deep depth) = ending (status.TooDeep depth) (too_deep_text depth) None

-- what is answered by what is found of the goal of this number, after so many rewrites and Derives
abbrev pub refuted_ending : Theory → (goal rewrites derives : ℕ) → Refuted → Ending
refuted_ending th g n d (Told_apart ws l m) = ending (status.Differ (length ws)) (differs_text th g ws l m) None
refuted_ending th g n d Alike = ending status.Ok (codes "no difference\n") None
refuted_ending th g n d Spent = ending (status.Spent n d 0) (spent_text n d 0) None
refuted_ending th g n d (Past_limit limit) = limit_ending limit

-- the same with the budgets, of which the decision tells what is left
abbrev pub decision_ending : Theory → (rewrites derives : ℕ) → Decision → Ending
decision_ending th n d x = refuted_ending th x.goal (n - x.conclusion.rewrites) (d - x.conclusion.derives) x.conclusion.refuted

-- What is found of the goals of these blocks, with so many rewrites and Derives, is right and is answered so.
pub record DifferEnds (th : Theory) (rewrites derives : ℕ) (blocks : List (List Goal)) (e : Ending) : Type 0 where
  pub decision : Decision
  pub found : PlainRefutation th blocks derives rewrites decision
  pub right : IsRightDecision th (goals_in blocks) decision
  pub is : decision_ending th rewrites derives decision ≡ e
