-- The experiment that asks whether a language has a word.
use Rattle.std.specs.Prelude.{◌≡◌, ℕ, zero, suc, List, [], ◌∷◌, refl}
use Rattle.std.specs.List.{Contains}
use Rattle.std.proofs.Common.{ap, sym, subst, ◌∙◌, arith}
use Rattle.circ_term.specs.Tree.{Tree, Var, sort_of}
use Rattle.circ_theory.specs.Theory.{Derivative, IsVisible}
use Rattle.circ_theory.specs.Experiment.{Entry, Fits, on, BehavesFrom}
use Rattle.circ_regex.specs.Matches.{Letter, a_letter, b_letter}
use Rattle.circ_regex.specs.Lang.{bit_sort, lang_sort, LANG, derivative_on, acc_term, da_term, db_term}
use Rattle.circ_regex.specs.Member.{language_of}
use Rattle.circ_regex.proofs.Keeps.{derived_words}

abbrev pub entry_with : (Tree → Tree) → Entry
entry_with d = record { derivative = derivative_on d; parameters = Var }

abbrev pub letter_entry : Letter → Entry
letter_entry a_letter = entry_with da_term
letter_entry b_letter = entry_with db_term

-- the letters of the word in order, and then whether the empty word is left
abbrev pub spelling : List Letter → List Entry
spelling [] = entry_with acc_term ∷ []
spelling (x ∷ w) = letter_entry x ∷ spelling w

pub on_spelling : (w : List Letter) (t : Tree) → language_of (on (spelling w) t) [] ≡ language_of t w
on_spelling [] t = refl
on_spelling (a_letter ∷ w) t = on_spelling w (da_term t)
on_spelling (b_letter ∷ w) t = on_spelling w (db_term t)

pub on_lang : (d : Derivative) → Contains LANG.derivatives d → lang_sort ≡ d.hole
unfolding LANG
on_lang d (zero, h, e) = ap (λ (x : Derivative). x.hole) e
on_lang d (suc zero, h, e) = ap (λ (x : Derivative). x.hole) e
on_lang d (suc (suc zero), h, e) = ap (λ (x : Derivative). x.hole) e
on_lang d (suc (suc (suc k)), h, e) = absurd (omega arith)

bit_is_visible : IsVisible LANG bit_sort
bit_is_visible hidden = let one : lang_sort ≡ hidden.derivative.hole = on_lang hidden.derivative hidden.listed in absurd (omega (arith, one, hidden.hole))

spelling_fits : (w : List Letter) → Fits LANG (spelling w) lang_sort
unfolding LANG
spelling_fits [] = ((0, omega arith, refl), refl, (λ n s h. (refl, h)), bit_is_visible)
spelling_fits (a_letter ∷ w) = ((1, omega arith, refl), refl, (λ n s h. (refl, h)), spelling_fits w)
spelling_fits (b_letter ∷ w) = ((2, omega arith, refl), refl, (λ n s h. (refl, h)), spelling_fits w)

-- languages that behave alike have the same words
pub behaves_same : (s t : Tree) → sort_of s ≡ lang_sort → BehavesFrom LANG [] s t → (w : List Letter) → language_of s w ≡ language_of t w
behaves_same s t e alike w =
    let P : ℕ → Type 0 = Fits LANG (spelling w) in
    sym (on_spelling w s)
    ∙ ap (λ L. L []) (derived_words (on (spelling w) s) (on (spelling w) t) (alike (spelling w) (subst P (sym e) (spelling_fits w))))
    ∙ on_spelling w t
