-- Lines behind lines, turn by turn.
use Rattle.std.proofs.Common.{◌≡◌, ℕ, List, [], ◌∷◌, ◌++◌, Ok, Err, refl, ap, sym, subst, ◌∙◌, append_assoc}
use Rattle.circ_theory.specs.Theory.{Theory}
use Rattle.circ_special.specs.declared.place.Place.{Place}
use Rattle.circ_plain_search.specs.Search.{Standing, Ending}
use Rattle.circ_plain_search.proofs.Ends.{same_Err}
use Rattle.circ_plain_search.proofs.Uses.{same_Ok}
use Rattle.circ_attempt.specs.Search.{Conduct, Going, going, turn_rewriting, FinishesRewriting, stops_so, goes_on_so}
use Rattle.circ_trace.specs.Account.{account}
use Rattle.circ_trace.specs.Descents.{after_turn, given_row}
use Rattle.circ_trace.specs.TurnText.{turn_text}
use Rattle.circ_trace.specs.Tracing.{Turns, ends, goes, turns_text}
use Rattle.circ_trace.specs.Telling.{IsTold}
use Rattle.circ_trace.specs.declared.descent.Descent.{Descent}

module _ (th : Theory) (G : List Place) (l : Conduct) where
  -- Whatever turns come from here, their lines come behind those so far.
  abbrev pub GoesOn : (first : Standing) → (old : List ℕ) → List Descent → Going → (lines : List ℕ) → Type 0
  GoesOn first old ws x lines = (xs : List Going) (e : Ending) → Turns th G l x xs e → IsTold th G l first old (lines ++ turns_text th G l ws xs) e

  pub from_start : (first : Standing) (old : List ℕ) → GoesOn first old (given_row first.goals) (going first []) old
  from_start first old = λ xs e t. record { goings = xs; turns = t; appended = refl }

  abbrev lines_of : List Descent → Going → List ℕ
  lines_of ws x = turn_text th ws x.standing (account th G l x)

  abbrev next_waiting : List Descent → Going → List Descent
  next_waiting ws x = after_turn th ws x.standing (account th G l x)

  pub one_more : (first : Standing) (old : List ℕ) (ws vs : List Descent) (x next : Going) (lines new : List ℕ) → GoesOn first old ws x lines
      → turn_rewriting th G l x ≡ Ok next → new ≡ lines ++ lines_of ws x → vs ≡ next_waiting ws x → GoesOn first old vs next new
  one_more first old ws vs x next lines new c t a b = λ xs e r.
      let all = c (x ∷ xs) e (goes x next xs e t r) in
      let P : List ℕ → Type 0 = λ y. IsTold th G l first old y e in
      let is : lines ++ (lines_of ws x ++ turns_text th G l (next_waiting ws x) xs) ≡ new ++ turns_text th G l vs xs
      = sym (append_assoc lines (lines_of ws x) (turns_text th G l (next_waiting ws x) xs))
      ∙ ap (λ y. y ++ turns_text th G l (next_waiting ws x) xs) (sym a) ∙ ap (λ y. new ++ turns_text th G l y xs) (sym b) in
      subst P is all

  pub the_last : (first : Standing) (old : List ℕ) (ws : List Descent) (x : Going) (e : Ending) (lines new : List ℕ) → GoesOn first old ws x lines
      → turn_rewriting th G l x ≡ Err e → new ≡ lines ++ lines_of ws x → IsTold th G l first old new e
  the_last first old ws x e lines new c t a =
      let all = c (x ∷ []) e (ends x e t) in
      let P : List ℕ → Type 0 = λ y. IsTold th G l first old y e in
      subst P (ap (λ y. lines ++ y) (nil_right (lines_of ws x)) ∙ sym a) all
    where
      nil_right : (xs : List ℕ) → xs ++ [] ≡ xs
      nil_right [] = refl
      nil_right (x ∷ xs) = ap (λ r. x ∷ r) (nil_right xs)

  pub turns_finish : (x : Going) (xs : List Going) (e : Ending) → Turns th G l x xs e → FinishesRewriting th G l x e
  turns_finish x _ e (ends _ _ t) = stops_so x e t
  turns_finish x _ e (goes _ y xs _ t r) = goes_on_so x y e t (turns_finish y xs e r)

  -- a search has its turns in one way
  pub one_course : (x : Going) (xs ys : List Going) (e f : Ending) → Turns th G l x xs e → Turns th G l x ys f → (xs ≡ ys) × (e ≡ f)
  one_course x _ _ e f (ends _ _ t) (ends _ _ u) = (refl, same_Err e f (sym t ∙ u))
  one_course x _ _ e f (ends _ _ t) (goes _ y _ _ u s) = absurd (let z : Err e ≡ Ok y = sym t ∙ u in cc)
  one_course x _ _ e f (goes _ y _ _ t r) (ends _ _ u) = absurd (let z : Ok y ≡ Err f = sym t ∙ u in cc)
  one_course x _ _ e f (goes _ y xs _ t r) (goes _ z ys _ u s) =
      let is : y ≡ z = same_Ok y z (sym t ∙ u) in
      let P : Going → Type 0 = λ v. Turns th G l v xs e in
      let both = one_course z xs ys e f (subst P is r) s in
      (ap (λ vs. x ∷ vs) both.0, both.1)

  -- a search that reaches an ending has its turns
  pub some_turns : (x : Going) (e : Ending) → FinishesRewriting th G l x e → (xs : List Going) × Turns th G l x xs e
  some_turns x e (stops_so _ _ t) = (x ∷ [], ends x e t)
  some_turns x e (goes_on_so _ y _ t r) = let v = some_turns y e r in (x ∷ v.0, goes x y v.0 e t v.1)
