-- The last of some places, and open splits that are counted.
use Rattle.std.specs.Prelude.{◌≡◌, ℕ, ◌+◌, ◌-◌, suc, true, List, [], ◌∷◌, length, refl}
use Rattle.std.specs.List.{slice_get}
use Rattle.std.specs.Option.{option_map_or}
use Rattle.std.proofs.Common.{sym, ◌∙◌, ap, arith}
use Rattle.circ_special.specs.declared.place.Place.{Place}
use Rattle.circ_special.specs.Special.{comes_before}
use Rattle.circ_grammar.specs.Machine.{OpenSplit}
use Rattle.circ_proof_text.specs.Checks.{is_next}
use Rattle.circ_file.specs.Splits.{plain_split, tops}
use Rattle.circ_file.specs.declared.splits.OpenSplit.{OpenSplit as CodeSplit}

pub after_last : (gs : List Place) (g : Place) → option_map_or (λ h. comes_before h g) (slice_get gs (length gs - 1)) true ≡ is_next gs g
after_last [] g = refl
after_last (h ∷ []) g = refl
after_last (h ∷ i ∷ gs) g =
    let e : length (h ∷ i ∷ gs) - 1 ≡ length gs + 1 = omega arith in
    let f : length (i ∷ gs) - 1 ≡ length gs = omega arith in
    ap (λ n. option_map_or (λ x. comes_before x g) (slice_get (h ∷ i ∷ gs) n) true) e
    ∙ further (length gs) ∙ sym (ap (λ n. option_map_or (λ x. comes_before x g) (slice_get (i ∷ gs) n) true) f) ∙ after_last (i ∷ gs) g
  where
    further : (n : ℕ) → option_map_or (λ x. comes_before x g) (slice_get (h ∷ i ∷ gs) (n + 1)) true ≡ option_map_or (λ x. comes_before x g) (slice_get (i ∷ gs) n) true
    further n = let e : n + 1 ≡ suc n = omega arith in rw e refl

pub length-tops : (ss : List CodeSplit) (k : List OpenSplit) → length (tops ss k) ≡ length ss + length k
length-tops [] k = omega arith
length-tops (s ∷ ss) k = omega (arith, length-tops ss (plain_split s ∷ k))
