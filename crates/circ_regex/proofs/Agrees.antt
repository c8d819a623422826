-- The term of an expression has the words that the expression matches.
use Rattle.std.specs.Prelude.{◌≡◌, List, [], ◌∷◌, ◌++◌, true, ◌&&◌, ◌⊎◌, ◌↔◌, refl}
use Rattle.std.proofs.Common.{ap, sym, subst, ◌∙◌, inl, inr}
use Rattle.circ_theory.specs.Experiment.{BehavesFrom}
use Rattle.circ_regex.specs.Matches.{Letter, a_letter, b_letter, Expression, no_word, empty_word, one_letter}
use Rattle.circ_regex.specs.Matches.{either_of, in_turn, any_number, Repeats, no_part, one_more_part, Cut, Matches}
use Rattle.circ_regex.specs.Languages.{Language, empty_word_only, letter_only, quotient, concatenated, iterated_from, iterated}
use Rattle.circ_regex.specs.Lang.{LANG}
use Rattle.circ_regex.specs.Member.{language_of, letter_term, expression_term}
use Rattle.circ_regex.proofs.Bools.{and_both, both_and, or_either, first_or, second_or}
use Rattle.circ_regex.proofs.Sorted.{term_sort}
use Rattle.circ_regex.proofs.Spelling.{behaves_same}

abbrev pub Has : Language → List Letter → Type 0
Has L w = L w ≡ true

pub product_cut : (L M : Language) (w : List Letter) → Has (concatenated L M) w → Cut (Has L) (Has M) w
product_cut L M [] e = let both = and_both (L []) (M []) e in ([], [], refl, both.0, both.1)
product_cut L M (x ∷ w) e = go (or_either (L [] && M (x ∷ w)) (concatenated (quotient x L) M w) e) (λ f. product_cut (quotient x L) M w f)
  where
    go : (((L [] && M (x ∷ w)) ≡ true) ⊎ (concatenated (quotient x L) M w ≡ true)) → (Has (concatenated (quotient x L) M) w → Cut (Has (quotient x L)) (Has M) w)
        → Cut (Has L) (Has M) (x ∷ w)
    go (inl f) ih = let both = and_both (L []) (M (x ∷ w)) f in ([], x ∷ w, refl, both.0, both.1)
    go (inr f) ih = let r = ih f in (x ∷ r.0, r.1, ap (λ z. x ∷ z) r.2, r.3, r.4)

cut_concatenated : (L M : Language) (u v : List Letter) → Has L u → Has M v → Has (concatenated L M) (u ++ v)
cut_concatenated L M [] [] e f = both_and (L []) (M []) e f
cut_concatenated L M [] (x ∷ v) e f = first_or (L [] && M (x ∷ v)) (concatenated (quotient x L) M v) (both_and (L []) (M (x ∷ v)) e f)
cut_concatenated L M (x ∷ u) v e f = second_or (L [] && M (x ∷ u ++ v)) (concatenated (quotient x L) M (u ++ v)) (cut_concatenated (quotient x L) M u v e f)

pub cut_product : (L M : Language) (w : List Letter) → Cut (Has L) (Has M) w → Has (concatenated L M) w
cut_product L M w c = let P : List Letter → Type 0 = Has (concatenated L M) in subst P (sym c.2) (cut_concatenated L M c.0 c.1 c.3 c.4)

iterated_cut : (L K : Language) (w : List Letter) → Has (iterated_from L K) w → Cut (Has K) (Repeats (Has L)) w
iterated_cut L K [] e = ([], [], refl, e, no_part)
iterated_cut L K (x ∷ w) e =
    go (or_either (K [] && iterated_from L (quotient x L) w) (iterated_from L (quotient x K) w) e) (λ f. iterated_cut L (quotient x L) w f) (λ f. iterated_cut L (quotient x K) w f)
  where
    go : (((K [] && iterated_from L (quotient x L) w) ≡ true) ⊎ (iterated_from L (quotient x K) w ≡ true))
        → (Has (iterated_from L (quotient x L)) w → Cut (Has (quotient x L)) (Repeats (Has L)) w)
        → (Has (iterated_from L (quotient x K)) w → Cut (Has (quotient x K)) (Repeats (Has L)) w)
        → Cut (Has K) (Repeats (Has L)) (x ∷ w)
    go (inl f) anew goes =
        let both = and_both (K []) (iterated_from L (quotient x L) w) f in
        let r = anew both.1 in
        ([], x ∷ w, refl, both.0, one_more_part x r.0 r.1 (x ∷ w) r.3 r.4 (ap (λ z. x ∷ z) r.2))
    go (inr f) anew goes = let r = goes f in (x ∷ r.0, r.1, ap (λ z. x ∷ z) r.2, r.3, r.4)

pub star_repeats : (L : Language) (w : List Letter) → Has (iterated L) w → Repeats (Has L) w
star_repeats L [] e = no_part
star_repeats L (x ∷ w) e = let r = iterated_cut L (quotient x L) w e in one_more_part x r.0 r.1 (x ∷ w) r.3 r.4 (ap (λ z. x ∷ z) r.2)

cut_iterated : (L K : Language) (u v : List Letter) → Has K u → Has (iterated L) v → Has (iterated_from L K) (u ++ v)
cut_iterated L K [] [] e f = e
cut_iterated L K [] (x ∷ v) e f =
    first_or (K [] && iterated_from L (quotient x L) v) (iterated_from L (quotient x K) v) (both_and (K []) (iterated_from L (quotient x L) v) e f)
cut_iterated L K (x ∷ u) v e f =
    second_or (K [] && iterated_from L (quotient x L) (u ++ v)) (iterated_from L (quotient x K) (u ++ v)) (cut_iterated L (quotient x K) u v e f)

pub repeats_star : (L : Language) (w : List Letter) → Repeats (Has L) w → Has (iterated L) w
repeats_star L w no_part = refl
repeats_star L w (one_more_part x u v y l r e) =
    let P : List Letter → Type 0 = Has (iterated L) in subst P (sym e) (cut_iterated L (quotient x L) u v l (repeats_star L v r))

-- what is repeated may be said in two ways
repeats_by : (P Q : List Letter → Type 0) → ((w : List Letter) → P w → Q w) → (w : List Letter) → Repeats P w → Repeats Q w
repeats_by P Q f w no_part = no_part
repeats_by P Q f w (one_more_part x u v y l r e) = one_more_part x u v w (f (x ∷ u) l) (repeats_by P Q f v r) e

empty_is : (w : List Letter) → Has empty_word_only w → w ≡ []
empty_is [] e = refl
empty_is (x ∷ w) e = absurd (cc)

letter_is : (x : Letter) (w : List Letter) → Has (letter_only x) w → w ≡ x ∷ []
letter_is x [] e = absurd (cc)
letter_is a_letter (a_letter ∷ w) e = ap (λ z. a_letter ∷ z) (empty_is w e)
letter_is a_letter (b_letter ∷ w) e = absurd (cc)
letter_is b_letter (a_letter ∷ w) e = absurd (cc)
letter_is b_letter (b_letter ∷ w) e = ap (λ z. b_letter ∷ z) (empty_is w e)

letter_words : (x : Letter) (w : List Letter) → language_of (letter_term x) w ≡ letter_only x w
letter_words a_letter w = refl
letter_words b_letter w = refl

letter_itself : (x : Letter) → Has (letter_only x) (x ∷ [])
letter_itself a_letter = refl
letter_itself b_letter = refl

pub has_matches : (e : Expression) (w : List Letter) → Has (language_of (expression_term e)) w → Matches e w
has_matches no_word w h = absurd (cc)
has_matches empty_word w h = empty_is w h
has_matches (one_letter x) w h = letter_is x w (sym (letter_words x w) ∙ h)
has_matches (either_of e f) w h =
    go (or_either (language_of (expression_term e) w) (language_of (expression_term f) w) h) (has_matches e w) (has_matches f w)
  where
    go : ((language_of (expression_term e) w ≡ true) ⊎ (language_of (expression_term f) w ≡ true))
        → (Has (language_of (expression_term e)) w → Matches e w) → (Has (language_of (expression_term f)) w → Matches f w) → Matches e w ⊎ Matches f w
    go (inl x) l r = inl (l x)
    go (inr x) l r = inr (r x)
has_matches (in_turn e f) w h =
    let r = product_cut (language_of (expression_term e)) (language_of (expression_term f)) w h in
    (r.0, r.1, r.2, has_matches e r.0 r.3, has_matches f r.1 r.4)
has_matches (any_number e) w h =
    repeats_by (Has (language_of (expression_term e))) (Matches e) (λ v l. has_matches e v l) w (star_repeats (language_of (expression_term e)) w h)

pub matches_has : (e : Expression) (w : List Letter) → Matches e w → Has (language_of (expression_term e)) w
matches_has no_word w m = absurd m
matches_has empty_word w m = let P : List Letter → Type 0 = Has empty_word_only in subst P (sym m) refl
matches_has (one_letter x) w m =
    let P : List Letter → Type 0 = Has (letter_only x) in letter_words x w ∙ subst P (sym m) (letter_itself x)
matches_has (either_of e f) w (inl m) = first_or (language_of (expression_term e) w) (language_of (expression_term f) w) (matches_has e w m)
matches_has (either_of e f) w (inr m) = second_or (language_of (expression_term e) w) (language_of (expression_term f) w) (matches_has f w m)
matches_has (in_turn e f) w m =
    cut_product (language_of (expression_term e)) (language_of (expression_term f)) w (m.0, m.1, m.2, matches_has e m.0 m.3, matches_has f m.1 m.4)
matches_has (any_number e) w m =
    repeats_star (language_of (expression_term e)) w (repeats_by (Matches e) (Has (language_of (expression_term e))) (λ v l. matches_has e v l) w m)

one_way : (e f : Expression) → ((w : List Letter) → language_of (expression_term e) w ≡ language_of (expression_term f) w) → (w : List Letter) → Matches e w → Matches f w
one_way e f same w m = has_matches f w (sym (same w) ∙ matches_has e w m)

-- Where the terms of two expressions behave alike, every word is matched by both or by neither.
pub behaves_matches : (e f : Expression) → BehavesFrom LANG [] (expression_term e) (expression_term f) → (w : List Letter) → Matches e w ↔ Matches f w
behaves_matches e f alike w =
    let same : (v : List Letter) → language_of (expression_term e) v ≡ language_of (expression_term f) v = behaves_same (expression_term e) (expression_term f) (term_sort e) alike in
    (one_way e f same w, one_way f e (λ v. sym (same v)) w)
