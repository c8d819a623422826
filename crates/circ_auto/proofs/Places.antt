-- The words from a place on.
use Rattle.std.specs.Prelude.{◌≡◌, ℕ, ◌+◌, ◌<◌, ◌≤◌, zero, suc, List, [], ◌∷◌, length, drop, Option, Some, None, refl}
use Rattle.std.specs.List.{slice_get}
use Rattle.std.proofs.Common.{ap, ◌∙◌, arith}
use Rattle.std.proofs.lemmas.Option.{same_Some}
use Rattle.circ_statement.specs.Words.{Word}
use Rattle.circ_auto.specs.Reading.{front_of}

pub none_there : (ws : List Word) (i : ℕ) → length ws ≤ i → front_of (drop i ws) ≡ None
none_there [] zero l = refl
none_there [] (suc i) l = refl
none_there (w ∷ ws) zero l = absurd (omega (arith, l))
none_there (w ∷ ws) (suc i) l = none_there ws i (omega (arith, l))

pub word_there : (ws : List Word) (i : ℕ) (w : Word) → slice_get ws i ≡ Some w → front_of (drop i ws) ≡ Some (w, drop (i + 1) ws)
word_there [] i w e = absurd (cc)
word_there (v ∷ ws) zero w e = ap (λ x. Some (x, ws)) (same_Some v w e)
word_there (v ∷ ws) (suc i) w e =
    let next : suc (i + 1) ≡ suc i + 1 = omega arith in
    word_there ws i w e ∙ ap (λ k. Some (w, drop k (v ∷ ws))) next

pub none_left : (ws : List Word) (i : ℕ) → slice_get ws i ≡ None → front_of (drop i ws) ≡ None
none_left [] zero e = refl
none_left [] (suc i) e = refl
none_left (w ∷ ws) zero e = absurd (cc)
none_left (w ∷ ws) (suc i) e = none_left ws i e
