-- Entries of experiments with the numbers of their derivatives: two derivatives of a theory may be the same term.
use Rattle.std.specs.Prelude.{◌≡◌, ℕ, ◌+◌, List, [], ◌∷◌, Bool, false, ◌==◌, if◌then◌else◌, map, Option, unwrap_or, Some, None}
use Rattle.std.specs.List.{slice_get, AllByRecursion}
use Rattle.std.specs.Option.{option_map_or}
use Rattle.circ_term.specs.Tree.{Tree, Var, sort_of}
use Rattle.circ_theory.specs.Signature.{IsWellSorted}
use Rattle.circ_theory.specs.Theory.{Theory, Derivative, IsVisible}
use Rattle.circ_theory.specs.Experiment.{Entry}
use Rattle.circ_theory.specs.Fresh.{given_parameters, parameter_sorts}
use Rattle.circ_theory.specs.Observing.{is_hidden}

-- an entry of an experiment with its derivative's number
pub record Numbered : Type 0 where
  pub number : ℕ
  pub entry : Entry

abbrev pub bare_entries : List Numbered → List Entry
bare_entries cs = map (λ c. c.entry) cs

-- what stands for a derivative that does not exist
abbrev pub no_derivative : Derivative
no_derivative = record { hole = 0; body = Var 0 0 }

abbrev pub derivative_at : Theory → ℕ → Derivative
derivative_at th k = unwrap_or (slice_get th.derivatives k) no_derivative

-- an entry as it is written: the number of a derivative, and terms for its parameters
pub record Written : Type 0 where
  pub derivative : ℕ
  pub parameters : List Tree

abbrev pub written_entry : ℕ → List Tree → Written
written_entry k ts = record { derivative = k; parameters = ts }

abbrev pub numbered_of : Theory → Written → Numbered
numbered_of th w = record {
  number = w.derivative;
  entry = record { derivative = derivative_at th w.derivative; parameters = given_parameters w.parameters };
}

abbrev pub numbered_entries : Theory → List Written → List Numbered
numbered_entries th ws = map (numbered_of th) ws

-- the experiment that is written
abbrev pub written_entries : Theory → List Written → List Entry
written_entries th ws = bare_entries (numbered_entries th ws)

-- The derivative exists, and has such a hole. The terms are well-sorted, and fit its parameters.
pub record IsEntryFor (th : Theory) (w : Written) (sort : ℕ) (d : Derivative) : Type 0 where
  pub listed : slice_get th.derivatives w.derivative ≡ Some d
  pub hole : d.hole ≡ sort
  pub sorted : AllByRecursion (IsWellSorted th.signature) w.parameters
  pub fit : map sort_of w.parameters ≡ parameter_sorts d

-- What is written is an experiment that fits a sort.
abbrev pub FitsWritten : Theory → List Written → (sort : ℕ) → Type 0
FitsWritten th [] s = IsVisible th s
FitsWritten th (w ∷ ws) s = (d : Derivative) × IsEntryFor th w s d × FitsWritten th ws (sort_of d.body)

-- ---- which entry does not fit

-- each entry has a well-sorted term for each parameter of its derivative, of the parameter's sort
abbrev pub HaveParameters : Theory → List Written → Type 0
HaveParameters th ws =
    AllByRecursion (λ w. AllByRecursion (IsWellSorted th.signature) w.parameters × (map sort_of w.parameters ≡ parameter_sorts (derivative_at th w.derivative))) ws

-- whether there is a derivative of this number, with a hole of this sort
abbrev pub takes_sort : Theory → (derivative sort : ℕ) → Bool
takes_sort th k s = option_map_or (λ d. d.hole == s) (slice_get th.derivatives k) false

-- The first entry, counted from k, whose derivative does not take the sort that is reached; the number after the last where the last sort is hidden.
abbrev pub first_misfit : Theory → (k sort : ℕ) → List Written → Option ℕ
first_misfit th k s [] = if is_hidden th s then Some k else None
first_misfit th k s (w ∷ ws) =
    if takes_sort th w.derivative s then first_misfit th (k + 1) (sort_of (derivative_at th w.derivative).body) ws else Some k
