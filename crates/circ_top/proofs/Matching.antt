-- What `clap` answers of the simple command that it is asked for.
use Rattle.std.proofs.Common.{◌≡◌, inl, inr, List, [], true, Result, Ok, Err, refl, subst}
use Rattle.clap.specs.Faults.{fault_of, is_simple_and_free}
use Rattle.clap.specs.Kinds.{Kinds, HasKind, FailsBy}
use Rattle.clap.specs.Matches.{found_of}
use Rattle.clap.specs.Simple.{App, HasMatchesOf, is_simple, matches_of}
use Rattle.clap.specs.Walk.{Text, rows_of}
use Rattle.clap.specs.Values.{kind_of}
use Rattle.clap.specs.declared.error.Error.{Error}
use Rattle.clap.specs.declared.error.kind.ErrorKind.TheVariants.{OutOfMemory}
use Rattle.clap.specs.declared.parser.matches.ArgMatches.{ArgMatches}
use Rattle.circ_top.specs.Words.{circ_app}

simple : is_simple circ_app ≡ true
simple = refl

free : is_simple_and_free circ_app ≡ true
free = refl

-- the answer of such a command is by its faults
by_faults : {T : Type 0} (a : App) (ws : List Text) (r q : Result T Error) → a ≡ circ_app → r ≡ q → (is_simple_and_free a ≡ true → FailsBy (fault_of a ws) r)
    → FailsBy (fault_of circ_app ws) q
by_faults a ws r q e is h =
    let P : App → Type 0 = λ x. is_simple_and_free x ≡ true → FailsBy (fault_of x ws) r in
    let Q : Result _ Error → Type 0 = λ x. FailsBy (fault_of circ_app ws) x in
    subst Q is (subst P e h free)

-- where it answers, there is no fault
pub no_fault : {T : Type 0} (a : App) (ws : List Text) (r : Result T Error) (m : T) → a ≡ circ_app → r ≡ Ok m
    → (is_simple_and_free a ≡ true → FailsBy (fault_of a ws) r) → fault_of circ_app ws ≡ []
no_fault a ws r m e is h = by_faults a ws r (Ok m) e is h

-- and the rows are those of the command
pub rows_are : (a : App) (ws : List Text) (m : ArgMatches) → a ≡ circ_app → HasMatchesOf a ws m → rows_of (found_of m) ≡ matches_of circ_app ws
rows_are a ws m e h = let P : App → Type 0 = λ x. HasMatchesOf x ws m in (subst P e h simple).0

-- where it refuses, and memory did not run out, there is one
pub a_fault : {T : Type 0} (a : App) (ws : List Text) (r : Result T Error) (x : Error) → a ≡ circ_app → r ≡ Err x
    → (is_simple_and_free a ≡ true → FailsBy (fault_of a ws) r) → (kind_of x ≡ OutOfMemory → ⊥) → fault_of circ_app ws ≡ [] → ⊥
a_fault a ws r x e is h other none =
    let R : Kinds → Type 0 = λ y. HasKind y x in
    go (subst R none (by_faults a ws r (Err x) e is h))
  where
    go : HasKind [] x → ⊥
    go (inl w) = other w
    go (inr i) = i
