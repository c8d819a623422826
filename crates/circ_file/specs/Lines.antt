-- What contracts see of a reader of whole lines, and what it does with the next one.
use Rattle.std.specs.Prelude.{◌≡◌, ◌⊎◌, ◌≤◌, ℕ, Bool, true, false, List, ◌++◌, length, None, Some}
use Rattle.circ_special.specs.Special.{IsSet}
use Rattle.circ_line.specs.Line.{Line, table_line, goal_line, given_line}
use Rattle.circ_line.specs.Text.{line_text, IsInRange}
use Rattle.circ_grammar.specs.Now.{Now, Begin, Tabling, Opened, next_now}
use Rattle.circ_theory.specs.Limits.{condition_limit}
use Rattle.circ_proof.specs.Nesting.{nesting_limit}
use Rattle.circ_proof.specs.Certified.{due}
use Rattle.circ_proof.specs.Proof.{step_limit}
use Rattle.circ_proof_text.specs.Checks.{Seen, after, passes_at, limit_at}
use Rattle.circ_file.specs.View.{now_of, queue_of, parts_at, IsMachineOf, Moves}
use Rattle.circ_file.specs.Adding.{terms_in, is_open}
use Rattle.circ_file.specs.declared.table.ReadTable.{ReadTable}
use Rattle.circ_file.specs.declared.taken.Taken.{Taken}
use Rattle.circ_file.specs.declared.taken.Taken.TheVariants as taken
use Rattle.circ_file.specs.declared.lines.LineReader.{LineReader}

-- What the lines so far have given, where the open splits want these numbers of whys.
abbrev pub seen_of : (wanted : List ℕ) → LineReader → Seen
seen_of wanted r = record {
  version = r.counts.version;
  terms = terms_in r.table;
  places = r.machine.places.items;
  certificates = r.counts.certificates;
  steps = r.counts.steps;
  givens = r.counts.givens;
  ifs = r.counts.ifs;
  wanted = wanted;
}

-- The table takes lines as long as they may come, and is closed where a goal may come.
abbrev pub IsInStep : Now → ReadTable → Type 0
IsInStep Begin t = is_open t ≡ true
IsInStep Tabling t = is_open t ≡ true
IsInStep (Opened names) t = is_open t ≡ false
IsInStep _ t = Unit {0}

-- what a reader keeps true
pub record IsReader (r : LineReader) : Type 0 where
  pub kept : IsMachineOf (terms_in r.table) r.machine
  pub set : IsSet r.theory.now r.machine.places.items
  pub step : IsInStep (now_of r.machine) r.table
  pub due : r.counts.due ≡ length (due r.theory.now r.machine.places.items)
  pub certificates : r.counts.certificates ≤ r.counts.due
  pub steps : r.counts.steps ≤ step_limit
  pub givens : r.counts.givens ≤ condition_limit
  pub ifs : r.counts.ifs ≤ nesting_limit

-- a line that is not of the table, and no goal and no condition of one
abbrev pub IsOther : Line → Type 0
IsOther (table_line l) = ⊥
IsOther (goal_line a b) = ⊥
IsOther (given_line a b) = ⊥
IsOther _ = Unit {0}

-- The line is the next one, and the machine and the table are as after it, with the same terms; or it cannot come here.
abbrev pub Advances : Bool → LineReader → Line → LineReader → Type 0
Advances true r l s = Moves true (terms_in r.table) r.machine l s.machine × (terms_in s.table ≡ terms_in r.table) × IsInStep (now_of s.machine) s.table
Advances false r l s = next_now (now_of r.machine) l ≡ None

-- The line is the next one, passes the checks and no limit, and what it gives is kept.
pub record Takes (wanted : List ℕ) (r : LineReader) (l : Line) (s : LineReader) : Type 0 where
  pub next : next_now (now_of r.machine) l ≡ Some (now_of s.machine)
  pub passes : passes_at r.theory.now (seen_of wanted r) l ≡ true
  pub within : limit_at r.theory.now (seen_of wanted r) l ≡ false
  pub seen : seen_of (after r.theory.now (seen_of wanted r) l).wanted s ≡ after r.theory.now (seen_of wanted r) l
  pub queue : queue_of s.machine ≡ queue_of r.machine ++ parts_at (terms_in r.table) (now_of r.machine) l
  pub reader : IsReader s

-- The line is taken; or it cannot come next, or fails a check; or it could be taken, and passes a limit.
abbrev pub Handles : Taken → (wanted : List ℕ) → LineReader → Line → LineReader → Type 0
Handles taken.Yes wanted r l s = Takes wanted r l s
Handles taken.Line wanted r l s = (next_now (now_of r.machine) l ≡ None) ⊎ (passes_at r.theory.now (seen_of wanted r) l ≡ false)
Handles taken.Limit wanted r l s = (n : Now) × (next_now (now_of r.machine) l ≡ Some n) × (passes_at r.theory.now (seen_of wanted r) l ≡ true)
    × (limit_at r.theory.now (seen_of wanted r) l ≡ true)

-- The same of the line that the bytes are the text of; or they are the text of none.
abbrev pub ReadsNext : Taken → (wanted : List ℕ) → LineReader → List ℕ → LineReader → Type 0
ReadsNext taken.Line wanted r bytes s =
    ((l : Line) → IsInRange l → bytes ≡ line_text l → ⊥)
    ⊎ ((l : Line) × (bytes ≡ line_text l) × IsInRange l × Handles taken.Line wanted r l s)
ReadsNext t wanted r bytes s = (l : Line) × (bytes ≡ line_text l) × IsInRange l × Handles t wanted r l s

-- what becomes of a line that passes the checks, by whether it may come next, and passes a limit
abbrev pub taken_where : (is_next is_over : Bool) → Taken
taken_where false is_over = taken.Line
taken_where true false = taken.Yes
taken_where true true = taken.Limit
