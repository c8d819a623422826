-- LANG tells of each expression which words it matches: experiments on its term have the value that they should have.
use Rattle.std.specs.Prelude.{◌≡◌, ℕ, zero, suc, List, [], ◌∷◌, Bool, true, false, ◌&&◌, ◌||◌, ◌⊎◌, ◌↔◌, refl}
use Rattle.std.specs.List.{Contains}
use Rattle.std.proofs.Common.{ap, sym, subst, ◌∙◌, arith, inl, inr}
use Rattle.circ_term.specs.Tree.{Tree, sort_of}
use Rattle.circ_theory.specs.Theory.{Derivative, IsHidden}
use Rattle.circ_theory.specs.Derivable.{Derivable, by_same, by_symmetry, by_chain}
use Rattle.circ_theory.specs.Experiment.{Entry, Fits, on, derived, BehavesFrom}
use Rattle.circ_regex.specs.Matches.{Letter, a_letter, b_letter, Expression, no_word, empty_word, one_letter, either_of, in_turn, any_number, Matches}
use Rattle.circ_regex.specs.Languages.{is_same_letter}
use Rattle.circ_regex.specs.Lang.{bit_sort, lang_sort, LANG, derivative_on, bit_var, lang_var, zero_term, one_term, or_term}
use Rattle.circ_regex.specs.Lang.{and_term, acc_term, da_term, db_term, empty_term, eps_term, star_term, product_term, sum_term, when_term}
use Rattle.circ_regex.specs.Member.{language_of, member, letter_term, expression_term}
use Rattle.circ_regex.proofs.Sorted.{term_sort, term_sorted}
use Rattle.circ_regex.proofs.Keeps.{derived_words}
use Rattle.circ_regex.proofs.Spelling.{spelling, on_spelling, on_lang}
use Rattle.circ_regex.proofs.Agrees.{has_matches, matches_has}
use Rattle.circ_regex.proofs.Rules.{IsOf, bit_term, letter_on, is_bit, is_or, is_and, is_acc, is_letter_on}
use Rattle.circ_regex.proofs.Rules.{is_sum, is_product, is_when, on_derived, on_both, by_bit_rule, by_lang_rule, by_ground_rule}

abbrev T : Expression → Tree
T e = expression_term e

is_term : (e : Expression) → IsOf lang_sort (T e)
is_term e = record { sort = term_sort e; sorted = term_sorted e }

-- whether an expression matches the empty word
abbrev pub is_nullable : Expression → Bool
is_nullable no_word = false
is_nullable empty_word = true
is_nullable (one_letter x) = false
is_nullable (either_of e f) = is_nullable e || is_nullable f
is_nullable (in_turn e f) = is_nullable e && is_nullable f
is_nullable (any_number e) = true

abbrev pub if_nullable : Bool → Expression → Expression
if_nullable true e = e
if_nullable false e = no_word

abbrev pub empty_if : Bool → Expression
empty_if true = empty_word
empty_if false = no_word

-- what an expression matches behind a letter
abbrev pub left_of : Letter → Expression → Expression
left_of x no_word = no_word
left_of x empty_word = no_word
left_of x (one_letter y) = empty_if (is_same_letter x y)
left_of x (either_of e f) = either_of (left_of x e) (left_of x f)
left_of x (in_turn e f) = either_of (in_turn (left_of x e) f) (if_nullable (is_nullable e) (left_of x f))
left_of x (any_number e) = in_turn (left_of x e) (any_number e)

-- truth values of constants
or_value : (b c : Bool) → Derivable LANG [] (or_term (bit_term b) (bit_term c)) (bit_term (b || c))
unfolding LANG
or_value true c = by_bit_rule (or_term one_term (bit_var 0)) one_term (1, omega arith, refl) (bit_term c) (is_bit c)
or_value false c = by_bit_rule (or_term zero_term (bit_var 0)) (bit_var 0) (0, omega arith, refl) (bit_term c) (is_bit c)

and_value : (b c : Bool) → Derivable LANG [] (and_term (bit_term b) (bit_term c)) (bit_term (b && c))
unfolding LANG
and_value true c = by_bit_rule (and_term one_term (bit_var 0)) (bit_var 0) (5, omega arith, refl) (bit_term c) (is_bit c)
and_value false c = by_bit_rule (and_term zero_term (bit_var 0)) zero_term (4, omega arith, refl) (bit_term c) (is_bit c)

acc_letter : (x : Letter) → Derivable LANG [] (acc_term (letter_term x)) zero_term
unfolding LANG
acc_letter a_letter = by_ground_rule (acc_term (letter_term a_letter)) zero_term (18, omega arith, refl)
acc_letter b_letter = by_ground_rule (acc_term (letter_term b_letter)) zero_term (19, omega arith, refl)

acc_sum : (t u : Tree) → IsOf lang_sort t → IsOf lang_sort u → Derivable LANG [] (acc_term (sum_term t u)) (or_term (acc_term t) (acc_term u))
unfolding LANG
acc_sum t u h k = by_lang_rule (acc_term (sum_term (lang_var 0) (lang_var 1))) (or_term (acc_term (lang_var 0)) (acc_term (lang_var 1))) (20, omega arith, refl) t u h k

acc_product : (t u : Tree) → IsOf lang_sort t → IsOf lang_sort u → Derivable LANG [] (acc_term (product_term t u)) (and_term (acc_term t) (acc_term u))
unfolding LANG
acc_product t u h k = by_lang_rule (acc_term (product_term (lang_var 0) (lang_var 1))) (and_term (acc_term (lang_var 0)) (acc_term (lang_var 1))) (21, omega arith, refl) t u h k

acc_value : (e : Expression) → Derivable LANG [] (acc_term (T e)) (bit_term (is_nullable e))
unfolding LANG
acc_value no_word = by_ground_rule (acc_term empty_term) zero_term (16, omega arith, refl)
acc_value empty_word = by_ground_rule (acc_term eps_term) one_term (17, omega arith, refl)
acc_value (one_letter x) = acc_letter x
acc_value (either_of e f) =
    let t = acc_term (T e) in let u = acc_term (T f) in
    let b = is_nullable e in let c = is_nullable f in
    let before = is_or t u (is_acc (T e) (is_term e)) (is_acc (T f) (is_term f)) in
    let behind = is_or (bit_term b) (bit_term c) (is_bit b) (is_bit c) in
    by_chain (or_term t u) (acc_sum (T e) (T f) (is_term e) (is_term f))
    (by_chain (or_term (bit_term b) (bit_term c)) (on_both 2 bit_sort t (bit_term b) u (bit_term c) before behind (acc_value e) (acc_value f)) (or_value b c))
acc_value (in_turn e f) =
    let t = acc_term (T e) in let u = acc_term (T f) in
    let b = is_nullable e in let c = is_nullable f in
    let before = is_and t u (is_acc (T e) (is_term e)) (is_acc (T f) (is_term f)) in
    let behind = is_and (bit_term b) (bit_term c) (is_bit b) (is_bit c) in
    by_chain (and_term t u) (acc_product (T e) (T f) (is_term e) (is_term f))
    (by_chain (and_term (bit_term b) (bit_term c)) (on_both 3 bit_sort t (bit_term b) u (bit_term c) before behind (acc_value e) (acc_value f)) (and_value b c))
acc_value (any_number e) = by_lang_rule (acc_term (star_term (lang_var 0))) one_term (22, omega arith, refl) (T e) (T e) (is_term e) (is_term e)

when_value : (b : Bool) (e : Expression) → Derivable LANG [] (when_term (bit_term b) (T e)) (T (if_nullable b e))
unfolding LANG
when_value true e = by_lang_rule (when_term one_term (lang_var 0)) (lang_var 0) (15, omega arith, refl) (T e) (T e) (is_term e) (is_term e)
when_value false e = by_lang_rule (when_term zero_term (lang_var 0)) empty_term (14, omega arith, refl) (T e) (T e) (is_term e) (is_term e)

letter_on_letter : (x y : Letter) → Derivable LANG [] (letter_on x (letter_term y)) (T (empty_if (is_same_letter x y)))
unfolding LANG
letter_on_letter a_letter a_letter = by_ground_rule (da_term (letter_term a_letter)) eps_term (26, omega arith, refl)
letter_on_letter a_letter b_letter = by_ground_rule (da_term (letter_term b_letter)) empty_term (27, omega arith, refl)
letter_on_letter b_letter a_letter = by_ground_rule (db_term (letter_term a_letter)) empty_term (34, omega arith, refl)
letter_on_letter b_letter b_letter = by_ground_rule (db_term (letter_term b_letter)) eps_term (35, omega arith, refl)

-- the equations of da and db
on_empty : (x : Letter) → Derivable LANG [] (letter_on x empty_term) empty_term
unfolding LANG
on_empty a_letter = by_ground_rule (da_term empty_term) empty_term (24, omega arith, refl)
on_empty b_letter = by_ground_rule (db_term empty_term) empty_term (32, omega arith, refl)

on_eps : (x : Letter) → Derivable LANG [] (letter_on x eps_term) empty_term
unfolding LANG
on_eps a_letter = by_ground_rule (da_term eps_term) empty_term (25, omega arith, refl)
on_eps b_letter = by_ground_rule (db_term eps_term) empty_term (33, omega arith, refl)

on_sum : (x : Letter) (t u : Tree) → IsOf lang_sort t → IsOf lang_sort u → Derivable LANG [] (letter_on x (sum_term t u)) (sum_term (letter_on x t) (letter_on x u))
unfolding LANG
on_sum a_letter t u h k = by_lang_rule (da_term (sum_term (lang_var 0) (lang_var 1))) (sum_term (da_term (lang_var 0)) (da_term (lang_var 1))) (28, omega arith, refl) t u h k
on_sum b_letter t u h k = by_lang_rule (db_term (sum_term (lang_var 0) (lang_var 1))) (sum_term (db_term (lang_var 0)) (db_term (lang_var 1))) (36, omega arith, refl) t u h k

abbrev product_on : Letter → Tree → Tree → Tree
product_on x t u = sum_term (product_term (letter_on x t) u) (when_term (acc_term t) (letter_on x u))

on_product : (x : Letter) (t u : Tree) → IsOf lang_sort t → IsOf lang_sort u → Derivable LANG [] (letter_on x (product_term t u)) (product_on x t u)
unfolding LANG
on_product a_letter t u h k = by_lang_rule (da_term (product_term (lang_var 0) (lang_var 1))) (product_on a_letter (lang_var 0) (lang_var 1)) (29, omega arith, refl) t u h k
on_product b_letter t u h k = by_lang_rule (db_term (product_term (lang_var 0) (lang_var 1))) (product_on b_letter (lang_var 0) (lang_var 1)) (37, omega arith, refl) t u h k

on_star : (x : Letter) (t : Tree) → IsOf lang_sort t → Derivable LANG [] (letter_on x (star_term t)) (product_term (letter_on x t) (star_term t))
unfolding LANG
on_star a_letter t h = by_lang_rule (da_term (star_term (lang_var 0))) (product_term (da_term (lang_var 0)) (star_term (lang_var 0))) (30, omega arith, refl) t t h h
on_star b_letter t h = by_lang_rule (db_term (star_term (lang_var 0))) (product_term (db_term (lang_var 0)) (star_term (lang_var 0))) (38, omega arith, refl) t t h h

letter_value : (x : Letter) (e : Expression) → Derivable LANG [] (letter_on x (T e)) (T (left_of x e))
letter_value x no_word = on_empty x
letter_value x empty_word = on_eps x
letter_value x (one_letter y) = letter_on_letter x y
letter_value x (either_of e f) =
    let t = letter_on x (T e) in let u = letter_on x (T f) in
    let r = left_of x e in let s = left_of x f in
    let before = is_sum t u (is_letter_on x (T e) (is_term e)) (is_letter_on x (T f) (is_term f)) in
    by_chain (sum_term t u) (on_sum x (T e) (T f) (is_term e) (is_term f))
    (on_both 13 lang_sort t (T r) u (T s) before (is_term (either_of r s)) (letter_value x e) (letter_value x f))
letter_value x (in_turn e f) =
    let t = letter_on x (T e) in let u = letter_on x (T f) in
    let b = is_nullable e in
    let r = left_of x e in let s = left_of x f in
    let first_is = is_product t (T f) (is_letter_on x (T e) (is_term e)) (is_term f) in
    let rest_is = is_when (acc_term (T e)) u (is_acc (T e) (is_term e)) (is_letter_on x (T f) (is_term f)) in
    let first = on_both 12 lang_sort t (T r) (T f) (T f) first_is (is_term (in_turn r f)) (letter_value x e) (by_same (T f) (term_sorted f)) in
    let bit = on_both 14 lang_sort (acc_term (T e)) (bit_term b) u (T s) rest_is (is_when (bit_term b) (T s) (is_bit b) (is_term s)) (acc_value e) (letter_value x f) in
    let rest = by_chain (when_term (bit_term b) (T s)) bit (when_value b s) in
    let before = is_sum (product_term t (T f)) (when_term (acc_term (T e)) u) first_is rest_is in
    let behind = is_term (either_of (in_turn r f) (if_nullable b s)) in
    by_chain (product_on x (T e) (T f)) (on_product x (T e) (T f) (is_term e) (is_term f))
    (on_both 13 lang_sort (product_term t (T f)) (T (in_turn r f)) (when_term (acc_term (T e)) u) (T (if_nullable b s)) before behind first rest)
letter_value x (any_number e) =
    let t = letter_on x (T e) in let u = star_term (T e) in
    let r = left_of x e in
    let before = is_product t u (is_letter_on x (T e) (is_term e)) (is_term (any_number e)) in
    by_chain (product_term t u) (on_star x (T e) (is_term e))
    (on_both 12 lang_sort t (T r) u u before (is_term (in_turn r (any_number e))) (letter_value x e) (by_same u (term_sorted (any_number e))))

-- experiments on what is derivable
on_derives : (w : List Letter) (t u : Tree) → IsOf lang_sort t → IsOf lang_sort u → Derivable LANG [] t u → Derivable LANG [] (on (spelling w) t) (on (spelling w) u)
on_derives [] t u h k d = on_derived 4 bit_sort t u (is_acc t h) (is_acc u k) d
on_derives (a_letter ∷ w) t u h k d =
    let is_t = is_letter_on a_letter t h in let is_u = is_letter_on a_letter u k in
    on_derives w (da_term t) (da_term u) is_t is_u (on_derived 5 lang_sort t u is_t is_u d)
on_derives (b_letter ∷ w) t u h k d =
    let is_t = is_letter_on b_letter t h in let is_u = is_letter_on b_letter u k in
    on_derives w (db_term t) (db_term u) is_t is_u (on_derived 6 lang_sort t u is_t is_u d)

abbrev pub left_of_word : List Letter → Expression → Expression
left_of_word [] e = e
left_of_word (x ∷ w) e = left_of_word w (left_of x e)

evaluates : (w : List Letter) (e : Expression) → Derivable LANG [] (on (spelling w) (T e)) (bit_term (is_nullable (left_of_word w e)))
evaluates [] e = acc_value e
evaluates (a_letter ∷ w) e =
    let r = left_of a_letter e in
    by_chain (on (spelling w) (T r)) (on_derives w (da_term (T e)) (T r) (is_letter_on a_letter (T e) (is_term e)) (is_term r) (letter_value a_letter e)) (evaluates w r)
evaluates (b_letter ∷ w) e =
    let r = left_of b_letter e in
    by_chain (on (spelling w) (T r)) (on_derives w (db_term (T e)) (T r) (is_letter_on b_letter (T e) (is_term e)) (is_term r) (letter_value b_letter e)) (evaluates w r)

bit_value : (b : Bool) → language_of (bit_term b) [] ≡ b
bit_value true = refl
bit_value false = refl

-- that value is the right one, since derivations keep words
value_is : (w : List Letter) (e : Expression) → is_nullable (left_of_word w e) ≡ member (T e) w
value_is w e =
    let b = is_nullable (left_of_word w e) in
    sym (bit_value b) ∙ sym (ap (λ L. L []) (derived_words (on (spelling w) (T e)) (bit_term b) (evaluates w e))) ∙ on_spelling w (T e)

-- what a derivative of LANG is
which_derivative : (d : Derivative) → Contains LANG.derivatives d
    → (derivative_on acc_term ≡ d) ⊎ ((derivative_on da_term ≡ d) ⊎ (derivative_on db_term ≡ d))
unfolding LANG
which_derivative d (zero, h, e) = inl e
which_derivative d (suc zero, h, e) = inr (inl e)
which_derivative d (suc (suc zero), h, e) = inr (inr e)
which_derivative d (suc (suc (suc k)), h, e) = absurd (omega arith)

lang_is_hidden : IsHidden LANG lang_sort
unfolding LANG
lang_is_hidden = record { derivative = derivative_on acc_term; listed = (0, omega arith, refl); hole = refl }

last_acc : (cs : List Entry) → Fits LANG cs bit_sort → cs ≡ []
last_acc [] fits = refl
last_acc (c ∷ cs) fits = let one : lang_sort ≡ c.derivative.hole = on_lang c.derivative fits.0 in absurd (omega (arith, one, fits.1))

-- the experiment asks whether a language has the word
abbrev Asks : List Entry → Type 0
Asks cs = (w : List Letter) × ((t : Tree) → on cs t ≡ on (spelling w) t)

-- each experiment that fits a language asks for some word
asked : (cs : List Entry) → Fits LANG cs lang_sort → Asks cs
asked [] visible = absurd (visible lang_is_hidden)
asked (c ∷ cs) fits = go (which_derivative c.derivative fits.0) (λ g. asked cs g)
  where
    rest : (d : Derivative) → d ≡ c.derivative → Fits LANG cs (sort_of d.body)
    rest d e = let P : Derivative → Type 0 = λ x. Fits LANG cs (sort_of x.body) in subst P (sym e) fits.3

    begins : (d : Derivative) → d ≡ c.derivative → (t : Tree) → on (c ∷ cs) t ≡ on cs (derived d t c.parameters)
    begins d e t = ap (λ x. on cs (derived x t c.parameters)) (sym e)

    go : (derivative_on acc_term ≡ c.derivative) ⊎ ((derivative_on da_term ≡ c.derivative) ⊎ (derivative_on db_term ≡ c.derivative))
        → (Fits LANG cs lang_sort → Asks cs) → Asks (c ∷ cs)
    go (inl e) later = ([], λ t. begins (derivative_on acc_term) e t ∙ ap (λ ds. on ds (acc_term t)) (last_acc cs (rest (derivative_on acc_term) e)))
    go (inr (inl e)) later = let r = later (rest (derivative_on da_term) e) in (a_letter ∷ r.0, λ t. begins (derivative_on da_term) e t ∙ r.1 (da_term t))
    go (inr (inr e)) later = let r = later (rest (derivative_on db_term) e) in (b_letter ∷ r.0, λ t. begins (derivative_on db_term) e t ∙ r.1 (db_term t))

same_value : (c d : Bool) → (c ≡ true → d ≡ true) → (d ≡ true → c ≡ true) → c ≡ d
same_value true d f g = sym (f refl)
same_value false true f g = g refl
same_value false false f g = refl

-- Where every word is matched by both or by neither, the terms of two expressions behave alike.
pub matches_behaves : (e f : Expression) → ((w : List Letter) → Matches e w ↔ Matches f w) → BehavesFrom LANG [] (T e) (T f)
matches_behaves e f same cs fits =
    let P : ℕ → Type 0 = Fits LANG cs in
    let asks = asked cs (subst P (term_sort e) fits) in
    let w = asks.0 in
    let alike : member (T e) w ≡ member (T f) w =
    same_value (member (T e) w) (member (T f) w) (λ h. matches_has f w ((same w).0 (has_matches e w h))) (λ h. matches_has e w ((same w).1 (has_matches f w h))) in
    let b = is_nullable (left_of_word w e) in
    let values : is_nullable (left_of_word w f) ≡ b = value_is w f ∙ sym alike ∙ sym (value_is w e) in
    let V : Bool → Type 0 = λ v. Derivable LANG [] (on (spelling w) (T f)) (bit_term v) in
    let both = by_chain (bit_term b) (evaluates w e) (by_symmetry (subst V values (evaluates w f))) in
    let L : Tree → Type 0 = λ t. Derivable LANG [] t (on (spelling w) (T f)) in
    let R : Tree → Type 0 = λ t. Derivable LANG [] (on cs (T e)) t in
    subst R (sym (asks.1 (T f))) (subst L (sym (asks.1 (T e))) both)
