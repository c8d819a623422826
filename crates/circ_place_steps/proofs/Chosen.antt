-- A value, or another in its place.
use Rattle.std.proofs.Common.{◌≡◌, Bor, Option, Some, None, unwrap_or, refl}
use Rattle.std.specs.Option.{option_copied, option_map}
use Rattle.circ_term.specs.Tree.{Var}
use Rattle.circ_theory.specs.Theory.{Derivative}
use Rattle.circ_entry.specs.Entries.{no_derivative}

-- what is behind a reference, or behind another
pub copied_or : {X : Type 0} (o : Option (Bor X)) (r : Bor X) → (unwrap_or o r).now ≡ unwrap_or (option_copied o) r.now
copied_or None r = refl
copied_or (Some x) r = refl

pub body_or : (o : Option Derivative) → unwrap_or (option_map (λ (d : Derivative). d.body) o) (Var 0 0) ≡ (unwrap_or o no_derivative).body
body_or None = refl
body_or (Some d) = refl
