-- What the checker answers, and what that means.
use Rattle.std.specs.Prelude.{ℕ, List, Option, Some, None, Vec}
use Rattle.std.specs.List.{Contains}
use Rattle.circ_theory.specs.Theory.{Theory}
use Rattle.circ_theory.specs.Experiment.{Behaves}
use Rattle.circ_theory.specs.Goal.{Goal}
use Rattle.circ_proof.specs.Proof.{Block, Proof}
use Rattle.circ_proof.specs.Accepted.{Accepted, FirstFail}
use Rattle.circ_check.specs.declared.checking.Verdict.{Verdict}
use Rattle.circ_check.specs.declared.checking.Verdict.TheVariants as verdict

-- nothing failed, and the proof is accepted; or this is where it fails first
abbrev pub Finds : Theory → Proof → Option ℕ → Type 0
Finds th p None = Accepted th p
Finds th p (Some n) = FirstFail th p n

-- where nothing failed, each goal of each block behaves
abbrev pub FoundBehave : Theory → Proof → Option ℕ → Type 0
FoundBehave th p None = (b : Block) → Contains p.blocks b → (g : Goal) → Contains b.goals g → Behaves th g
FoundBehave th p (Some n) = Unit {0}

-- where a verdict says that the proof fails, if it does
abbrev pub failure_of : Verdict → Option ℕ
failure_of verdict.Accepted = None
failure_of (verdict.Refused n) = Some n

-- the proof is accepted, or this is where it fails first
abbrev pub Decides : Theory → Proof → Verdict → Type 0
Decides th p v = Finds th p (failure_of v)

-- if it is accepted, each goal of each block behaves
abbrev pub GoalsBehave : Theory → Proof → Verdict → Type 0
GoalsBehave th p v = FoundBehave th p (failure_of v)

-- each derived goal of each block behaves
abbrev pub DerivedBehave : Theory → List (List Goal) → Type 0
DerivedBehave th dss = (ds : List Goal) → Contains dss ds → (g : Goal) → Contains ds g → Behaves th g

abbrev pub plain_list : {A : Type 0} → Vec Goal A → List Goal
plain_list gs = gs.items
