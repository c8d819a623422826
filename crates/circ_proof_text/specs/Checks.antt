-- What is checked of a line after the lines before it, and when it passes a limit.
use Rattle.std.specs.Prelude.{ℕ, ◌+◌, ◌-◌, ◌==◌, ◌&&◌, ◌||◌, not, nat_lt, Bool, true, false, zero, suc}
use Rattle.std.specs.Prelude.{if◌then◌else◌, List, [], ◌∷◌, ◌++◌, length, Option, Some, None, is_some}
use Rattle.std.specs.List.{slice_get, list_all}
use Rattle.std.specs.Option.{option_map_or}
use Rattle.circ_term.specs.Tree.{Tree, sort_of}
use Rattle.circ_term.specs.Limits.{first_limit}
use Rattle.circ_theory.specs.Theory.{Theory}
use Rattle.circ_theory.specs.Limits.{condition_limit}
use Rattle.circ_theory.specs.Rewriting.{named}
use Rattle.circ_theory.specs.Observing.{is_hidden}
use Rattle.circ_special.specs.declared.place.Place.{Place}
use Rattle.circ_special.specs.Special.{place, comes_before}
use Rattle.circ_proof.specs.Plain.{LinkOf, Equation_link, Hypothesis_link, Assumption_link, Content_link}
use Rattle.circ_proof.specs.Nesting.{nesting_limit}
use Rattle.circ_proof.specs.Table.{term_limit}
use Rattle.circ_proof.specs.Certified.{due}
use Rattle.circ_proof.specs.Proof.{split_limit, step_limit}
use Rattle.circ_line.specs.Line.{Line, head_line, table_line, place_line, certificate_line, block_line, goal_line, given_line, simplify_line}
use Rattle.circ_line.specs.Line.{reduce_line, derive_line, cases_line, done_line, same_line, split_line, if_line, left_line, right_line}
use Rattle.circ_proof_text.specs.TableText.{term_for}

-- What the lines so far have given: the version, the terms of the table, the places, how many certificates and steps were begun, how many conditions the
-- last goal has, how many conditions of links are open, and how many whys each split that is open still wants, the innermost first.
pub record Seen : Type 0 where
  pub version : ℕ
  pub terms : List Tree
  pub places : List Place
  pub certificates : ℕ
  pub steps : ℕ
  pub givens : ℕ
  pub ifs : ℕ
  pub wanted : List ℕ

abbrev pub nothing : Seen
nothing = record { version = 0; terms = []; places = []; certificates = 0; steps = 0; givens = 0; ifs = 0; wanted = [] }

abbrev pub with_version : Seen → ℕ → Seen
with_version c v = record c { version = v }

abbrev pub with_term : Seen → Option Tree → Seen
with_term c None = c
with_term c (Some t) = record c { terms = c.terms ++ t ∷ [] }

abbrev pub with_place : Seen → Place → Seen
with_place c g = record c { places = c.places ++ g ∷ [] }

abbrev pub with_certificate : Seen → Seen
with_certificate c = record c { certificates = c.certificates + 1 }

abbrev pub with_step : Seen → Seen
with_step c = record c { steps = c.steps + 1; givens = 0 }

abbrev pub with_givens : Seen → ℕ → Seen
with_givens c n = record c { givens = n }

abbrev pub with_ifs : Seen → ℕ → Seen
with_ifs c n = record c { ifs = n }

abbrev pub wanting : Seen → List ℕ → Seen
wanting c ns = record c { wanted = ns }

-- a why is whole: the innermost split wants one less, and where it wants no more it is whole itself
abbrev pub after_why : List ℕ → List ℕ
after_why [] = []
after_why (n ∷ ns) = if nat_lt 1 n then (n - 1) ∷ ns else after_why ns

-- a split opens, and is whole where it wants no why
abbrev pub after_split : List ℕ → (count : ℕ) → List ℕ
after_split ns n = if n == 0 then after_why ns else n ∷ ns

-- the innermost condition that is open is whole, or where none is open a why
abbrev pub after_same : Seen → (ifs : ℕ) → Seen
after_same c zero = wanting c (after_why c.wanted)
after_same c (suc n) = with_ifs c n

-- with one line more
abbrev pub after : Theory → Seen → Line → Seen
after th c (head_line v) = with_version c v
after th c (table_line l) = with_term c (term_for th.signature c.terms l)
after th c (place_line f i) = with_place c (place f i)
after th c certificate_line = with_certificate c
after th c (goal_line a b) = with_givens c 0
after th c (given_line a b) = with_givens c (c.givens + 1)
after th c simplify_line = with_step c
after th c reduce_line = wanting (with_step c) []
after th c derive_line = with_step c
after th c (cases_line t) = with_step c
after th c done_line = with_step c
after th c same_line = after_same c c.ifs
after th c if_line = with_ifs c (suc c.ifs)
after th c (split_line t n) = wanting c (after_split c.wanted n)
after th c _ = c

abbrev pub after_all : Theory → Seen → List Line → Seen
after_all th c [] = c
after_all th c (l ∷ ls) = after_all th (after th c l) ls

-- an argument of hidden sort of an operator of hidden sort
abbrev pub is_place : Theory → Place → Bool
is_place th g =
    option_map_or (λ o. is_hidden th o.result && option_map_or (is_hidden th) (slice_get o.args g.arg) false) (slice_get th.signature.ops g.op) false

-- the place is greater than the last of these
abbrev pub is_next : List Place → Place → Bool
is_next [] g = true
is_next (h ∷ []) g = comes_before h g
is_next (h ∷ i ∷ hs) g = is_next (i ∷ hs) g

-- both numbers are in the table, and their terms have one sort
abbrev pub is_goal : List Tree → (left right : ℕ) → Bool
is_goal table a b = nat_lt a (length table) && (nat_lt b (length table) && (sort_of (named table b) == sort_of (named table a)))

-- the same, and the sort is visible
abbrev pub is_condition : Theory → List Tree → (left right : ℕ) → Bool
is_condition th table a b = is_goal table a b && not (is_hidden th (sort_of (named table a)))

-- the terms that the link's own line names, without those of its conditions
abbrev pub own_terms : {T : Type 0} → LinkOf T → List T
own_terms (Equation_link number way path terms conds) = terms
own_terms (Hypothesis_link number way path terms conds) = terms
own_terms (Assumption_link number way path) = []
own_terms (Content_link op path term) = term ∷ []

-- each number of the link's line is in a table of this length
abbrev pub is_in_table : (count : ℕ) → LinkOf ℕ → Bool
is_in_table count l = list_all (λ n. nat_lt n count) (own_terms l)

abbrev pub path_of : {T : Type 0} → LinkOf T → List ℕ
path_of (Equation_link number way path terms conds) = path
path_of (Hypothesis_link number way path terms conds) = path
path_of (Assumption_link number way path) = path
path_of (Content_link op path term) = path

-- the lines that version 1 leaves out may stand
abbrev pub is_second : Seen → Bool
is_second c = c.version == 2

-- Whether the line passes the checks. There is a certificate for each that is due when a block begins, and never more.
abbrev pub passes_at : Theory → Seen → Line → Bool
passes_at th c (table_line l) = is_some (term_for th.signature c.terms l)
passes_at th c (place_line f i) = is_next c.places (place f i) && is_place th (place f i)
passes_at th c certificate_line = nat_lt c.certificates (length (due th c.places))
passes_at th c block_line = c.certificates == length (due th c.places)
passes_at th c (goal_line a b) = is_goal c.terms a b
passes_at th c (given_line a b) = is_second c && is_condition th c.terms a b
passes_at th c (cases_line t) = is_second c && nat_lt t (length c.terms)
passes_at th c if_line = is_second c
passes_at th c (split_line t n) = nat_lt t (length c.terms)
passes_at th c (left_line l) = is_in_table (length c.terms) l
passes_at th c (right_line l) = is_in_table (length c.terms) l
passes_at th c _ = true

-- the most entries of a path
abbrev pub path_limit : ℕ
path_limit = 1000

-- there is a term, and it has too many nodes or is too deep
abbrev pub is_too_large : Option Tree → Bool
is_too_large o = option_map_or (λ t. is_some (first_limit t)) o false

-- one more would be more than the limit
abbrev pub is_full : (limit count : ℕ) → Bool
is_full limit count = nat_lt limit (count + 1)

-- Whether the line passes a limit: of the terms of a table and of each of them, of conditions of a goal, of steps, of splits and of conditions of links
-- inside one another, of entries of a path.
abbrev pub limit_at : Theory → Seen → Line → Bool
limit_at th c (table_line l) = is_full term_limit (length c.terms) || is_too_large (term_for th.signature c.terms l)
limit_at th c simplify_line = is_full step_limit c.steps
limit_at th c reduce_line = is_full step_limit c.steps
limit_at th c derive_line = is_full step_limit c.steps
limit_at th c done_line = is_full step_limit c.steps
limit_at th c (given_line a b) = is_full condition_limit c.givens
limit_at th c (cases_line t) = is_full step_limit c.steps
limit_at th c if_line = is_full nesting_limit c.ifs
limit_at th c (split_line t n) = is_full split_limit (length c.wanted)
limit_at th c (left_line l) = nat_lt path_limit (length (path_of l))
limit_at th c (right_line l) = nat_lt path_limit (length (path_of l))
limit_at th c _ = false
