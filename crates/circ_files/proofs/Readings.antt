-- That theories read in one way, as the laws of the crate below say.
use Rattle.std.proofs.Common.{◌≡◌, ℕ, List, refl, sym, subst, Result, Err}
use Rattle.circ_theory.specs.Theory.{Theory}
use Rattle.circ_read.specs.Causes.{AreAlike, same, ambiguous}
use Rattle.circ_read.specs.Includes.{Scope}
use Rattle.circ_read.specs.ReadsAs.{ReadsAs, FirstCause}
use Rattle.circ_read.specs.declared.cause.Cause.{Cause}
use Rattle.circ_read.specs.declared.cause.Cause.TheVariants as cause
use Rattle.circ_files.specs.Like.{IsLikeCause, same_cause, other_readings}
use Rattle.circ_files.specs.TheoryFile.{TheoryRefusal}
use Rattle.circ_files.proofs.FileFaults.{IsOneWay}

-- theories are read in one way
pub record ReadsOnce : Type 0 where
  pub either : (bytes : List ℕ) (th : Theory) (n : ℕ) (c : Cause) → ReadsAs bytes th → FirstCause bytes n c → ⊥
  pub alike : IsOneWay TheoryRefusal
  pub theory : (bytes : List ℕ) (th u : Theory) → ReadsAs bytes th → ReadsAs bytes u → u ≡ th

-- the causes of bytes that are no theory, as the reader's law has them
pub like_causes : {A : Type 0} (c d : Cause) (x y : Result A Cause) → AreAlike x y → x ≡ Err c → y ≡ Err d → IsLikeCause c d
like_causes c d x _ same a b = let e : c ≡ d = cc in let P : Cause → Type 0 = IsLikeCause c in subst P e (same_cause c)
like_causes c d _ _ (ambiguous {s} {t} {u} {v}) a b =
    let P : Cause → Type 0 = λ z. IsLikeCause z d in
    let Q : Cause → Type 0 = IsLikeCause (cause.Ambiguous s t) in
    subst P (cc) (subst Q (cc) (other_readings s t u v))

pub reads_once : ((bytes : List ℕ) (th : Theory) (n : ℕ) (c : Cause) → ReadsAs bytes th → FirstCause bytes n c → ⊥)
    → ((bytes : List ℕ) (n m : ℕ) (c d : Cause) → FirstCause bytes n c → FirstCause bytes m d → m ≡ n)
    → ((bytes : List ℕ) (n m : ℕ) (c d : Cause) → FirstCause bytes n c → FirstCause bytes m d → AreAlike {A = Scope} (Err c) (Err d))
    → ((bytes : List ℕ) (th u : Theory) → ReadsAs bytes th → ReadsAs bytes u → u ≡ th) → ReadsOnce
reads_once e n l t =
    record { either = e; theory = t; alike = λ p q c d bytes a b. (sym (n bytes p q c d a b), like_causes c d (Err c) (Err d) (l bytes p q c d a b) refl refl) }
