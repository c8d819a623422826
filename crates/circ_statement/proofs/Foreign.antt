-- The first token that may not stand among attributes.
use Rattle.std.proofs.Common.{◌≡◌, ◌<◌, ℕ, zero, suc, List, [], ◌∷◌, ◌++◌, length, Bool, true, false, ◌||◌, codes, slice_get, unwrap_or, Some, ◌⊎◌, inl, inr, refl, sym, ap, ◌∙◌, subst, arith}
use Rattle.std.proofs.lemmas.Bool.{cases_order}
use Rattle.std.proofs.lemmas.Option.{same_Some}
use Rattle.std.proofs.lemmas.List.{length-append}
use Rattle.circ_statement.specs.Words.{Word, is_word}
use Rattle.circ_statement.specs.Heads.{is_listed, follows_prec, IsForeign, IsFirstForeign}

pub get_at : (a b : List Word) (x : Word) → slice_get (a ++ x ∷ b) (length a) ≡ Some x
get_at [] b x = refl
get_at (y ∷ a) b x = get_at a b x

pub get_within : (ws : List Word) (n : ℕ) (x : Word) → slice_get ws n ≡ Some x → n < length ws
get_within [] n x e = absurd (cc)
get_within (w ∷ ws) zero x e = omega arith
get_within (w ∷ ws) (suc n) x e = let h = get_within ws n x e in omega arith

-- no word before this place is foreign
abbrev pub NoneBelow : List Word → ℕ → Type 0
NoneBelow ws n = (m : ℕ) (v : Word) → m < n → IsForeign ws m v → ⊥

module _ (ws a b : List Word) (x : Word) (words : ws ≡ a ++ x ∷ b) where
  here : slice_get ws (length a) ≡ Some x
  here = ap (λ l. slice_get l (length a)) words ∙ get_at a b x

  pub is_first : (is_number : Bool) → is_number ≡ follows_prec ws (length a) → (is_number || is_listed x) ≡ false → NoneBelow ws (length a) → IsFirstForeign ws x
  is_first true e h none = absurd (cc)
  is_first false e h none = record { place = length a; foreign = record { there = here; unlisted = h; no_number = sym e }; first = none }

  allowed_here : (is_number : Bool) → is_number ≡ follows_prec ws (length a) → (is_number || is_listed x) ≡ true → (v : Word) → IsForeign ws (length a) v → ⊥
  allowed_here true e h v f = let no = f.no_number in cc
  allowed_here false e h v f = let same : v ≡ x = same_Some v x (sym f.there ∙ here) in let no : is_listed x ≡ false = ap is_listed (sym same) ∙ f.unlisted in cc

  pub none_more : (is_number : Bool) → is_number ≡ follows_prec ws (length a) → (is_number || is_listed x) ≡ true → NoneBelow ws (length a) → NoneBelow ws (length (a ++ x ∷ []))
  none_more is_number e h none m v l f = go (cases_order m (length a))
    where
      go : (m ≡ length a) ⊎ ((m < length a) ⊎ (length a < m)) → ⊥
      go (inl same) = allowed_here is_number e h v (subst (λ k. IsForeign ws k v) same f)
      go (inr (inl less)) = none m v less f
      go (inr (inr more)) = omega (arith, length-append a (x ∷ []))

  pub flag_more : follows_prec ws (length (a ++ x ∷ [])) ≡ is_word x (codes "prec")
  flag_more =
      let n : length (a ++ x ∷ []) ≡ suc (length a) = length-append a (x ∷ []) ∙ omega arith in
      ap (follows_prec ws) n ∙ ap (λ o. is_word (unwrap_or o []) (codes "prec")) here

pub none_first : (ws : List Word) → NoneBelow ws (length ws) → (w : Word) → IsFirstForeign ws w → ⊥
none_first ws none w f = none f.place w (get_within ws f.place w f.foreign.there) f.foreign

pub first_same : (ws : List Word) (v w : Word) → IsFirstForeign ws v → IsFirstForeign ws w → v ≡ w
first_same ws v w f g = go (cases_order f.place g.place)
  where
    go : (f.place ≡ g.place) ⊎ ((f.place < g.place) ⊎ (g.place < f.place)) → v ≡ w
    go (inl same) = same_Some v w (sym f.foreign.there ∙ ap (slice_get ws) same ∙ g.foreign.there)
    go (inr (inl less)) = absurd (g.first f.place v less f.foreign)
    go (inr (inr more)) = absurd (f.first g.place w more g.foreign)
