-- Texts that are joined.
use Rattle.std.proofs.Common.{◌≡◌, ℕ, List, ◌++◌, refl, ◌∙◌, append_assoc, Result, Ok, Err}
use Rattle.std.specs.Prelude.{is_ok, OnOk, if◌then◌else◌}

-- the last part of a joined text is appended
pub on_ok_joined : {E : Type 0} (r : Result (Unit {0}) E) (before after part goal : List ℕ) → after ≡ (if is_ok r then before ++ part else before)
    → before ++ part ≡ goal
    → OnOk r (after ≡ goal)
on_ok_joined (Ok u) before after part goal e h = e ∙ h
on_ok_joined (Err f) before after part goal e h = tt

pub place_joined : (out a f w p e : List ℕ) → ((out ++ (a ++ f)) ++ (w ++ p)) ++ e ≡ out ++ ((((a ++ f) ++ w) ++ p) ++ e)
place_joined out a f w p e = simp append_assoc refl
