-- No `same` is without an outcome.
use Rattle.std.proofs.Common.{◌≡◌, ◌<◌, ◌≤◌, ◌+◌, ◌⊎◌, ℕ, zero, suc, List, length, Bool, true, false, inl, inr, refl, arith, Option, Some, None}
use Rattle.circ_auto.specs.declared.fault.AutoCause.{AutoCause}
use Rattle.circ_auto.specs.Graph.{IsWord}
use Rattle.circ_auto.specs.Machine.{Machine, accepts, Differs, Compares}
use Rattle.circ_auto.specs.Text.{ReadsAsAutomaton, FirstAutoCause}
use Rattle.circ_read.specs.declared.cause.Cause.{Cause}
use Rattle.circ_read.specs.declared.cause.Cause.TheVariants as cause
use Rattle.circ_reports.specs.Same.{cause_of, AutomatonRefusal, ReadsOver, SecondRefusal}

-- bytes read as an automaton or have a first cause
abbrev pub AutomataDecided : Type 0
AutomataDecided = (bytes : List ℕ) → ((m : Machine) → ReadsAsAutomaton bytes m → ⊥) → ((k : ℕ) (c : AutoCause) → FirstAutoCause bytes k c → ⊥) → ⊥

pub first_decides : AutomataDecided → (bytes : List ℕ) → ((m : Machine) → ReadsAsAutomaton bytes m → ⊥)
    → ((place : ℕ) (c : Cause) → AutomatonRefusal place c bytes → ⊥) → ⊥
first_decides decided bytes none refused = decided bytes none (λ k a f. refused k (cause_of a) (a, (f, refl)))

pub second_decides : AutomataDecided → (m : Machine) → (bytes : List ℕ) → ((n : Machine) → ReadsOver m bytes n → ⊥)
    → ((place : ℕ) (c : Cause) → SecondRefusal m place c bytes → ⊥) → ⊥
second_decides decided m bytes none refused = decided bytes
    (λ n r. refused 2 cause.Shape (inr (record { n = n; reads = r; other = λ e. none n (r, e); place_is = refl; cause_is = refl })))
    (λ k a f. refused k (cause_of a) (inl (a, (f, refl))))

same_or_not : (c d : Bool) → (c ≡ d) ⊎ (c ≡ d → ⊥)
same_or_not true true = inl refl
same_or_not true false = inr (λ e. absurd (cc))
same_or_not false true = inr (λ e. absurd (cc))
same_or_not false false = inl refl

less_or_not : (m n : ℕ) → (m < n) ⊎ (n ≤ m)
less_or_not m n = grind arith

module _ (m n : Machine) (none : (o : Option (List ℕ)) → Compares m n o → ⊥) where
  -- the words below a length are accepted by both or by neither: else one of them is a shortest
  all_alike : (k : ℕ) (w : List ℕ) → length w < k → IsWord (length m.letters) w → accepts m w ≡ accepts n w
  all_alike zero w l i = absurd (omega (arith, l))
  all_alike (suc k) w l i = go (λ v less d. all_alike k v (omega (arith, l, less)) d) (same_or_not (accepts m w) (accepts n w))
    where
      least : ((v : List ℕ) → length v < length w → IsWord (length m.letters) v → accepts m v ≡ accepts n v)
          → (v : List ℕ) → Differs m n v → (length v < length w) ⊎ (length w ≤ length v) → length w ≤ length v
      least ih v d (inl less) = absurd (d.differs (ih v less d.word))
      least ih v d (inr more) = more

      go : ((v : List ℕ) → length v < length w → IsWord (length m.letters) v → accepts m v ≡ accepts n v)
          → (accepts m w ≡ accepts n w) ⊎ (accepts m w ≡ accepts n w → ⊥) → accepts m w ≡ accepts n w
      go ih (inl e) = e
      go ih (inr other) = absurd (none (Some w) (record { word = i; differs = other }, λ v d. least ih v d (less_or_not (length v) (length w))))

  pub compared_decides : ⊥
  compared_decides = none None (λ w i. all_alike (length w + 1) w (omega arith) i)
