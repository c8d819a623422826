-- The operator of a place on variables is well-sorted.
use Rattle.std.specs.Prelude.{◌≡◌, ◌≤◌, ◌+◌, ℕ, zero, suc, List, [], ◌∷◌, length, Some, refl}
use Rattle.std.specs.List.{AllByRecursion, Contains, slice_get}
use Rattle.std.proofs.Common.{arith}
use Rattle.circ_term.specs.Tree.{App, trees_of}
use Rattle.circ_theory.specs.Signature.{Signature, Operator, IsSort, IsWellSorted, HaveSorts}
use Rattle.circ_theory.specs.Theory.{Theory}
use Rattle.circ_theory.specs.WellFormed.{IsWellFormed}
use Rattle.circ_theory.specs.Fresh.{variables_from}
use Rattle.circ_theory.proofs.Rewriting.{contains_at}
use Rattle.circ_proof.specs.Certified.{start_args}

contained_all : (P : ℕ → Type 0) (ss : List ℕ) → ((s : ℕ) → Contains ss s → P s) → AllByRecursion P ss
contained_all P [] f = tt
contained_all P (s ∷ ss) f = (f s (0, omega arith, refl), contained_all P ss (λ k c. f k (suc c.0, omega (arith, c.1), c.2)))

variables_sorted : (sig : Signature) (k : ℕ) (ss : List ℕ) → AllByRecursion (IsSort sig) ss → HaveSorts sig (trees_of (variables_from k ss)) ss
variables_sorted sig k [] a = tt
variables_sorted sig k (s ∷ ss) a = (refl, a.0, variables_sorted sig (k + 1) ss a.1)

args_sorted : (sig : Signature) (i k : ℕ) (ss : List ℕ) → AllByRecursion (IsSort sig) ss → HaveSorts sig (start_args i k ss) ss
args_sorted sig i k [] a = tt
args_sorted sig zero k (s ∷ ss) a = (refl, a.0, variables_sorted sig k ss a.1)
args_sorted sig (suc i) k (s ∷ ss) a = (refl, a.0, args_sorted sig i (k + 1) ss a.1)

pub applied_sorted : (th : Theory) → IsWellFormed th → (f i : ℕ) (o : Operator) → slice_get th.signature.ops f ≡ Some o
    → IsWellSorted th.signature (App f o.result (start_args i 1 o.args))
applied_sorted th ok f i o e =
    let op = ok.operators o (contains_at th.signature.ops f o e) in
    (o, e, refl, args_sorted th.signature i 1 o.args (contained_all (IsSort th.signature) o.args op.args))

pub few_args : (th : Theory) → IsWellFormed th → (f : ℕ) (o : Operator) → slice_get th.signature.ops f ≡ Some o → length o.args ≤ 16
few_args th ok f o e = (ok.operators o (contains_at th.signature.ops f o e)).few
