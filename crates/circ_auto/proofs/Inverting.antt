-- What it takes that a step gives something.
use Rattle.std.specs.Prelude.{◌≡◌, ℕ, List, Bool, true, false, Option, Some, None, Result, Ok, Err, refl, if◌then◌else◌}
use Rattle.std.specs.Option.{option_and_then}
use Rattle.std.proofs.Common.{sym, ◌∙◌, ap}
use Rattle.std.proofs.lemmas.Option.{same_Some}
use Rattle.circ_auto.specs.declared.fault.AutoCause.{AutoCause}
use Rattle.circ_auto.specs.Parts.{Part, or_shape, unless_refused, followed}

same_ok : {A E : Type 0} (a b : A) → ◌≡◌ {A = Result A E} (Ok a) (Ok b) → a ≡ b
same_ok a b e = cc

pub ok_same : {A : Type 0} (a b : A) → ◌≡◌ {A = Part A} (Ok a) (Ok b) → a ≡ b
ok_same a b e = same_ok a b e

-- both parts give something
pub record Both {A B : Type 0} (p : Part A) (next : A → Part B) (b : B) : Type 0 where
  pub value : A
  pub first : p ≡ Ok value
  pub second : next value ≡ Ok b

pub both : {A B : Type 0} (p : Part A) (next : A → Part B) (b : B) → followed p next ≡ Ok b → Both p next b
both (Ok a) next b e = record { value = a; first = refl; second = e }
both (Err x) next b e = absurd (cc)

pub some_there : {A : Type 0} (n : ℕ) (o : Option A) (a : A) → or_shape n o ≡ Ok a → o ≡ Some a
some_there n None a e = absurd (cc)
some_there n (Some b) a e = ap Some (ok_same b a e)

pub no_cause : {A : Type 0} (n : ℕ) (c : Option AutoCause) (a b : A) → unless_refused n c a ≡ Ok b → (c ≡ None) × (a ≡ b)
no_cause n None a b e = (refl, ok_same a b e)
no_cause n (Some c) a b e = absurd (cc)

pub record BothSome {A B : Type 0} (next : A → Option B) (o : Option A) (b : B) : Type 0 where
  pub value : A
  pub first : o ≡ Some value
  pub second : next value ≡ Some b

pub both_some : {A B : Type 0} (next : A → Option B) (o : Option A) (b : B) → option_and_then next o ≡ Some b → BothSome next o b
both_some next None b e = absurd (cc)
both_some next (Some a) b e = record { value = a; first = refl; second = e }

pub if_some : {A : Type 0} (t : Bool) (a b : A) → (if t then Some a else None) ≡ Some b → (t ≡ true) × (a ≡ b)
if_some true a b e = (refl, same_Some a b e)
if_some false a b e = absurd (cc)

pub if_given : {A : Type 0} (t : Bool) (o : Option A) (b : A) → (if t then o else None) ≡ Some b → (t ≡ true) × (o ≡ Some b)
if_given true o b e = (refl, e)
if_given false o b e = absurd (cc)
