-- Texts of lists and of numbers, one item further on.
use Rattle.std.proofs.Common.{◌≡◌, ℕ, zero, suc, ◌+◌, ◌-◌, ◌<◌, List, [], ◌∷◌, ◌++◌, flat_map, length, drop, get_or, append-nil, append_assoc, refl, sym, ap, ◌∙◌, arith, Some, None, Result, Ok, Err}
use Rattle.std.specs.Prelude.{is_ok, OnOk, if◌then◌else◌}
use Rattle.std.specs.List.{slice_get}
use Rattle.std.proofs.lemmas.Option.{slice_get_within, get_or_from_slice_get}
use Rattle.circ_term.proofs.Within.{drop_read}
use Rattle.circ_form.specs.Form.{text_of}
use Rattle.circ_form.specs.declared.forms.Piece.{Piece}
use Rattle.circ_form.specs.declared.forms.Piece.TheVariants.{Hole, Word}
use Rattle.circ_show.specs.TheoryText.{by_number}

pub list_step : {X : Type 0} (f : X → List ℕ) (xs : List X) (n : ℕ) (x : X) (old new goal : List ℕ) → slice_get xs n ≡ Some x → new ≡ old ++ f x
    → old ++ flat_map f (drop n xs) ≡ goal → new ++ flat_map f (drop (n + 1) xs) ≡ goal
list_step f xs n x old new goal g e h =
    ap (λ ys. ys ++ flat_map f (drop (n + 1) xs)) e ∙ append_assoc old (f x) (flat_map f (drop (n + 1) xs))
    ∙ sym (ap (λ ys. old ++ flat_map f ys) (drop_read xs n x (slice_get_within xs n x g) (sym (get_or_from_slice_get xs n x x g)))) ∙ h

pub not_past : {X : Type 0} (xs : List X) (n : ℕ) → slice_get xs n ≡ None → n < length xs → ⊥
not_past [] n g h = omega (arith, h)
not_past (x ∷ xs) zero g h = let never : Some x ≡ None = g in cc
not_past (x ∷ xs) (suc n) g h = not_past xs n g (omega (arith, h))

pub number_step : (f : ℕ → List ℕ) (n count : ℕ) (old new goal : List ℕ) → n < count → new ≡ old ++ f n
    → old ++ by_number f n (count - n) ≡ goal → new ++ by_number f (n + 1) (count - (n + 1)) ≡ goal
number_step f n count old new goal h g e =
    let k : count - n ≡ suc (count - (n + 1)) = omega (arith, h) in
    ap (λ ys. ys ++ by_number f (n + 1) (count - (n + 1))) g ∙ append_assoc old (f n) (by_number f (n + 1) (count - (n + 1)))
    ∙ sym (ap (λ m. old ++ by_number f n m) k) ∙ e

-- a form, one piece further on
text_more : (p : Piece) (ps : List Piece) → text_of (p ∷ ps) ≡ text_of (p ∷ []) ++ text_of ps
text_more Hole ps = refl
text_more (Word w) ps = ap (λ x. x ++ text_of ps) (sym (append-nil w))

pub form_step : (ps : List Piece) (n : ℕ) (p : Piece) (old new goal : List ℕ) → n < length ps → p ≡ get_or ps n p → new ≡ old ++ text_of (p ∷ [])
    → old ++ text_of (drop n ps) ≡ goal → new ++ text_of (drop (n + 1) ps) ≡ goal
form_step ps n p old new goal h r e g =
    let rest : List ℕ = text_of (drop (n + 1) ps) in
    ap (λ x. x ++ rest) e ∙ append_assoc old (text_of (p ∷ [])) rest ∙ ap (λ x. old ++ x) (sym (text_more p (drop (n + 1) ps)))
    ∙ sym (ap (λ x. old ++ text_of x) (drop_read ps n p h r)) ∙ g

-- one text after another
pub joins : (old one two a b : List ℕ) → one ≡ old ++ a → two ≡ one ++ b → two ≡ old ++ (a ++ b)
joins old one two a b e f = f ∙ ap (λ x. x ++ b) e ∙ append_assoc old a b

pub ends : {E : Type 0} (r : Result (Unit {0}) E) (old one new a b : List ℕ) → one ≡ old ++ a → new ≡ (if is_ok r then one ++ b else one)
    → OnOk r (new ≡ old ++ (a ++ b))
ends (Ok u) old one new a b e f = joins old one new a b e f
ends (Err x) old one new a b e f = tt

pub joins_ok : {E : Type 0} (r : Result (Unit {0}) E) (old one new a b : List ℕ) → one ≡ old ++ a → OnOk r (new ≡ one ++ b) → OnOk r (new ≡ old ++ (a ++ b))
joins_ok (Ok u) old one new a b e f = joins old one new a b e f
joins_ok (Err x) old one new a b e f = tt
