-- A use that is shared is the same use.
use Rattle.std.proofs.Common.{◌≡◌, Option, Some, None, refl, ap, sym, ◌∙◌}
use Rattle.std.specs.Option.{option_map}
use Rattle.circ_theory.specs.Theory.{Theory}
use Rattle.circ_uses.specs.Fronts.{front}
use Rattle.circ_uses.specs.Uses.{layers_of}
use Rattle.circ_uses.specs.declared.fronts.Front.{Front}
use Rattle.circ_uses.specs.declared.uses.Layer.{Layer as Kept}

pub along_shared : (th : Theory) (o p : Option (Front Kept)) → option_map front o ≡ option_map front p
    → option_map (λ xs. layers_of th (front xs)) o ≡ option_map (λ xs. layers_of th (front xs)) p
along_shared th o p e = twice o ∙ ap (option_map (layers_of th)) e ∙ sym (twice p)
  where
    twice : (x : Option (Front Kept)) → option_map (λ xs. layers_of th (front xs)) x ≡ option_map (layers_of th) (option_map front x)
    twice None = refl
    twice (Some f) = refl
