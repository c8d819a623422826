-- The split of a term between two sides.
use Rattle.std.specs.Prelude.{◌≡◌, ℕ, List, ◌∷◌, Result, Ok, Err}
use Rattle.circ_theory.specs.Rewriting.{named}
use Rattle.circ_proof.specs.Plain.{Split_why, plain_chain}
use Rattle.circ_proof.specs.Link.{resolved_chain}
use Rattle.circ_proof.specs.declared.links.Why.{Why}
use Rattle.circ_proof.specs.declared.links.Chain.{Chain}
use Rattle.circ_expansion.specs.Pieces.{no_piece}
use Rattle.circ_expansion.specs.Expand.{Spending, Yields}
use Rattle.circ_expansion.specs.Machine.{Task as Job, Value, Pending, pending, In_row, Begin_split, End_split, Put_between, reason_step, all_uses}
use Rattle.circ_tasks.specs.Tasks.{Halts, background_in, basis_of, begun_sides, call_of, reasons_job, split_term, whys_at}
use Rattle.circ_tasks.specs.declared.calls.Frame.{Frame}
use Rattle.circ_tasks.specs.declared.tasks.Halt.{Halt}
use Rattle.circ_tasks.specs.declared.tasks.Reason.{Reason}
use Rattle.circ_tasks.specs.declared.tasks.Reasons.{Reasons}

-- the step of a reason by the cases of the term of this number
abbrev pub split_stepped : Frame → Reason → Chain ℕ → (term : ℕ) → List (Why ℕ) → List Job → List Value → (left : ℕ) → Spending Pending
split_stepped fr q chain v ws js vs n =
    reason_step (all_uses (background_in fr)) (background_in fr) (call_of fr q.call.value) (basis_of fr q.basis.value)
    (Split_why (resolved_chain fr.table.now (plain_chain chain)) (named fr.table.now v) (whys_at fr ws)) q.left q.right js vs n

-- a split before others, and then it stands between two rows
abbrev pub split_jobs : Frame → Reasons → List Job → List Job
split_jobs fr r js = Begin_split (split_term r) ∷ reasons_job fr r ∷ End_split (split_term r) ∷ Put_between ∷ js

-- the split with which the step goes on, or why it halts
abbrev pub GivesSplit : Frame → Reason → Chain ℕ → (term : ℕ) → List (Why ℕ) → Result Reasons Halt → Type 0
GivesSplit fr q chain v ws (Ok r) =
    (js : List Job) (vs : List Value) (n : ℕ) → split_stepped fr q chain v ws js vs n
    ≡ Yields (pending (begun_sides fr q.call.value q.basis.value chain q.left q.right (split_jobs fr r js)) (In_row no_piece ∷ vs)) n
GivesSplit fr q chain v ws (Err h) = (js : List Job) (vs : List Value) (n : ℕ) → Halts (split_stepped fr q chain v ws js vs n) h
