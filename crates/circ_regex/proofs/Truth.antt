-- Each equation of LANG is true: under every substitution its two sides have the same words.
use Rattle.std.specs.Prelude.{◌≡◌, ℕ, zero, suc, List, [], ◌∷◌, ◌++◌, true, ◌&&◌, ◌||◌, Some, map, refl}
use Rattle.std.specs.List.{slice_get, AllByRecursion, Contains}
use Rattle.std.proofs.Common.{ap, sym, subst, ◌∙◌, arith}
use Rattle.std.proofs.lemmas.Option.{same_Some}
use Rattle.circ_term.specs.Tree.{Tree, Var, App, sort_of}
use Rattle.circ_term.specs.Substitution.{Substitution, instance}
use Rattle.circ_theory.specs.Goal.{Equation}
use Rattle.circ_theory.specs.Goal.{Goal}
use Rattle.circ_theory.specs.Signature.{Operator, IsWellSorted, IsSubstitution}
use Rattle.circ_theory.specs.Operators.{has_mark}
use Rattle.circ_theory.specs.Theory.{goal_of, IsEquation, listed, associative, commutative, idempotent}
use Rattle.circ_regex.specs.Matches.{Letter, a_letter, b_letter}
use Rattle.circ_regex.specs.Languages.{Language, quotient, concatenated}
use Rattle.circ_regex.specs.Lang.{LangOp, op_zero, op_one, op_or, op_and, op_acc, op_da, op_db, op_empty, op_eps, op_a, op_b, op_star, op_product, op_sum, op_when}
use Rattle.circ_regex.specs.Lang.{lang_ops, lang_operator, bit_sort, lang_sort, LANG}
use Rattle.circ_regex.specs.Lang.{bit_equations, unit_equations, acc_equations, da_equations, db_equations, lang_equations}
use Rattle.circ_regex.specs.Member.{operation, first_language, second_language, language_of, languages_of}
use Rattle.circ_regex.proofs.Bools.{or_false, or_true, and_false, and_true, or_swap, or_group, or_twice}
use Rattle.circ_regex.proofs.Words.{same_words, nothing_first, nothing_last, empty_first, empty_last, iterated-concatenated}

-- which one of LANG's operators an operator is
pub op_at : (ys : List LangOp) (f : ℕ) (o : Operator) → slice_get (map lang_operator ys) f ≡ Some o
    → (y : LangOp) × (slice_get ys f ≡ Some y) × (lang_operator y ≡ o)
op_at [] f o e = absurd (cc)
op_at (y ∷ ys) zero o e = (y, refl, same_Some (lang_operator y) o e)
op_at (y ∷ ys) (suc f) o e = op_at ys f o e

pub op_of_lang : (f : ℕ) (o : Operator) → slice_get LANG.signature.ops f ≡ Some o
    → (y : LangOp) × (slice_get lang_ops f ≡ Some y) × (lang_operator y ≡ o)
unfolding LANG
op_of_lang f o e = op_at lang_ops f o e

-- a bit has all words or none
steady_operation : (y : LangOp) (L M : Language) → (lang_operator y).result ≡ bit_sort → (w : List Letter) → operation y L M w ≡ operation y L M []
steady_operation op_zero L M e w = refl
steady_operation op_one L M e w = refl
steady_operation op_or L M e w = refl
steady_operation op_and L M e w = refl
steady_operation op_acc L M e w = refl
steady_operation op_da L M e w = absurd (omega (arith, e))
steady_operation op_db L M e w = absurd (omega (arith, e))
steady_operation op_empty L M e w = absurd (omega (arith, e))
steady_operation op_eps L M e w = absurd (omega (arith, e))
steady_operation op_a L M e w = absurd (omega (arith, e))
steady_operation op_b L M e w = absurd (omega (arith, e))
steady_operation op_star L M e w = absurd (omega (arith, e))
steady_operation op_product L M e w = absurd (omega (arith, e))
steady_operation op_sum L M e w = absurd (omega (arith, e))
steady_operation op_when L M e w = absurd (omega (arith, e))

pub steady : (t : Tree) → IsWellSorted LANG.signature t → sort_of t ≡ bit_sort → (w : List Letter) → language_of t w ≡ language_of t []
steady (Var n s) h e w = refl
steady (App f s ts) h e w =
    let found = op_of_lang f h.0 h.1 in
    let sorted : (lang_operator found.0).result ≡ bit_sort = ap (λ (o : Operator). o.result) found.2 ∙ h.2 ∙ e in
    rw found.1 (steady_operation found.0 (first_language (languages_of ts)) (second_language (languages_of ts)) sorted w)

-- the two sides have the same words under every substitution
abbrev pub IsTrueGoal : Goal → Type 0
IsTrueGoal g = (σ : Substitution) → IsSubstitution LANG.signature σ → language_of (instance σ g.left) ≡ language_of (instance σ g.right)

abbrev pub IsTrueEquation : Equation → Type 0
IsTrueEquation e = IsTrueGoal (goal_of e)

steady_at : (σ : Substitution) → IsSubstitution LANG.signature σ → (n : ℕ) (w : List Letter) → language_of (σ n bit_sort) [] ≡ language_of (σ n bit_sort) w
unfolding LANG
steady_at σ h n w = let at_bit = h n bit_sort (omega arith) in sym (steady (σ n bit_sort) at_bit.1 at_bit.0 w)

-- one behind the other: a pair written without parentheses
infixr 4 ◌▹◌
◌▹◌ : {A B : Type 0} → A → B → A × B
p ▹ q = (p, q)

bits_are_true : AllByRecursion IsTrueEquation bit_equations
bits_are_true =
    (λ σ h. same_words _ _ (λ w. steady_at σ h 0 w))
    ▹ (λ σ h. refl)
    ▹ (λ σ h. same_words _ _ (λ w. or_false (language_of (σ 0 bit_sort) []) ∙ steady_at σ h 0 w))
    ▹ (λ σ h. same_words _ _ (λ w. or_true (language_of (σ 0 bit_sort) [])))
    ▹ (λ σ h. refl)
    ▹ (λ σ h. same_words _ _ (λ w. steady_at σ h 0 w))
    ▹ (λ σ h. same_words _ _ (λ w. and_false (language_of (σ 0 bit_sort) [])))
    ▹ (λ σ h. same_words _ _ (λ w. and_true (language_of (σ 0 bit_sort) []) ∙ steady_at σ h 0 w))
    ▹ tt

units_are_true : AllByRecursion IsTrueEquation unit_equations
units_are_true =
    (λ σ h. refl)
    ▹ (λ σ h. same_words _ _ (λ w. or_false (language_of (σ 0 lang_sort) w)))
    ▹ (λ σ h. same_words _ _ (λ w. nothing_first (language_of (σ 0 lang_sort)) w))
    ▹ (λ σ h. same_words _ _ (λ w. nothing_last (language_of (σ 0 lang_sort)) w))
    ▹ (λ σ h. same_words _ _ (λ w. empty_first (language_of (σ 0 lang_sort)) w))
    ▹ (λ σ h. same_words _ _ (λ w. empty_last (language_of (σ 0 lang_sort)) w))
    ▹ (λ σ h. refl)
    ▹ (λ σ h. refl)
    ▹ tt

accs_are_true : AllByRecursion IsTrueEquation acc_equations
accs_are_true =
    (λ σ h. refl)
    ▹ (λ σ h. refl)
    ▹ (λ σ h. refl)
    ▹ (λ σ h. refl)
    ▹ (λ σ h. refl)
    ▹ (λ σ h. refl)
    ▹ (λ σ h. refl)
    ▹ (λ σ h. refl)
    ▹ tt

-- the product behind a letter
product_behind : (x : Letter) (L M : Language) (w : List Letter) → concatenated L M (x ∷ w) ≡ (concatenated (quotient x L) M w || (L [] && M (x ∷ w)))
product_behind x L M w = or_swap (L [] && M (x ∷ w)) (concatenated (quotient x L) M w)

das_are_true : AllByRecursion IsTrueEquation da_equations
das_are_true =
    (λ σ h. refl)
    ▹ (λ σ h. refl)
    ▹ (λ σ h. refl)
    ▹ (λ σ h. refl)
    ▹ (λ σ h. refl)
    ▹ (λ σ h. same_words _ _ (λ w. product_behind a_letter (language_of (σ 0 lang_sort)) (language_of (σ 1 lang_sort)) w))
    ▹ (λ σ h. same_words _ _ (λ w. iterated-concatenated (language_of (σ 0 lang_sort)) (quotient a_letter (language_of (σ 0 lang_sort))) w))
    ▹ (λ σ h. refl)
    ▹ tt

dbs_are_true : AllByRecursion IsTrueEquation db_equations
dbs_are_true =
    (λ σ h. refl)
    ▹ (λ σ h. refl)
    ▹ (λ σ h. refl)
    ▹ (λ σ h. refl)
    ▹ (λ σ h. refl)
    ▹ (λ σ h. same_words _ _ (λ w. product_behind b_letter (language_of (σ 0 lang_sort)) (language_of (σ 1 lang_sort)) w))
    ▹ (λ σ h. same_words _ _ (λ w. iterated-concatenated (language_of (σ 0 lang_sort)) (quotient b_letter (language_of (σ 0 lang_sort))) w))
    ▹ (λ σ h. refl)
    ▹ tt

all_append : {X : Type 0} (P : X → Type 0) (xs ys : List X) → AllByRecursion P xs → AllByRecursion P ys → AllByRecursion P (xs ++ ys)
all_append P [] ys front rest = rest
all_append P (x ∷ xs) ys front rest = (front.0, all_append P xs ys front.1 rest)

listed_are_true : AllByRecursion IsTrueEquation lang_equations
listed_are_true =
    let on_letters = da_equations ++ db_equations in
    let letters_are_true = all_append IsTrueEquation da_equations db_equations das_are_true dbs_are_true in
    let observed = acc_equations ++ on_letters in
    let observed_are_true = all_append IsTrueEquation acc_equations on_letters accs_are_true letters_are_true in
    let behind_bits = unit_equations ++ observed in
    all_append IsTrueEquation bit_equations behind_bits bits_are_true (all_append IsTrueEquation unit_equations observed units_are_true observed_are_true)

-- what is true of each item is true of an item that is in the list
pub of_contained : {X : Type 0} (P : X → Type 0) (xs : List X) → AllByRecursion P xs → (x : X) → Contains xs x → P x
of_contained P [] all x c = absurd (omega (arith, c.1))
of_contained P (y ∷ ys) all x (zero, h, e) = subst P e all.0
of_contained P (y ∷ ys) all x (suc k, h, e) = of_contained P ys all.1 x (k, omega arith, e)

listed_is_true : (e : Equation) → Contains LANG.equations e → IsTrueEquation e
unfolding LANG
listed_is_true e c = of_contained IsTrueEquation lang_equations listed_are_true e c

-- the one operator with marks is the sum
marked_is_sum : (y : LangOp) → has_mark (lang_operator y) ≡ true → y ≡ op_sum
marked_is_sum op_zero e = absurd (cc)
marked_is_sum op_one e = absurd (cc)
marked_is_sum op_or e = absurd (cc)
marked_is_sum op_and e = absurd (cc)
marked_is_sum op_acc e = absurd (cc)
marked_is_sum op_da e = absurd (cc)
marked_is_sum op_db e = absurd (cc)
marked_is_sum op_empty e = absurd (cc)
marked_is_sum op_eps e = absurd (cc)
marked_is_sum op_a e = absurd (cc)
marked_is_sum op_b e = absurd (cc)
marked_is_sum op_star e = absurd (cc)
marked_is_sum op_product e = absurd (cc)
marked_is_sum op_sum e = refl
marked_is_sum op_when e = absurd (cc)

sum_at : (f : ℕ) (o : Operator) → slice_get LANG.signature.ops f ≡ Some o → has_mark o ≡ true → slice_get lang_ops f ≡ Some op_sum
sum_at f o g m =
    let found = op_of_lang f o g in
    found.1 ∙ ap Some (marked_is_sum found.0 (ap has_mark found.2 ∙ m))

pub equation_is_true : (g : Goal) → IsEquation LANG g → IsTrueGoal g
equation_is_true g (listed e c) = listed_is_true e c
equation_is_true g (associative f o at m) = λ σ h.
    rw (sum_at f o at (ap (λ c. c || o.comm || o.idem) m))
    (same_words _ _ (λ w. or_group (language_of (σ 0 o.result) w) (language_of (σ 1 o.result) w) (language_of (σ 2 o.result) w)))
equation_is_true g (commutative f o at m) = λ σ h.
    rw (sum_at f o at (ap (λ c. (o.assoc || c) || o.idem) m ∙ ap (λ c. c || o.idem) (or_true o.assoc)))
    (same_words _ _ (λ w. or_swap (language_of (σ 0 o.result) w) (language_of (σ 1 o.result) w)))
equation_is_true g (idempotent f o at m) = λ σ h.
    rw (sum_at f o at (ap (λ c. (o.assoc || o.comm) || c) m ∙ or_true (o.assoc || o.comm)))
    (same_words _ _ (λ w. or_twice (language_of (σ 0 o.result) w)))
