-- Derivations in LANG: its equations, and its operators on what is derivable.
use Rattle.std.specs.Prelude.{◌≡◌, ℕ, [], Bool, true, false, ◌==◌, if◌then◌else◌, refl}
use Rattle.std.specs.List.{Contains}
use Rattle.std.proofs.Common.{sym, ◌∙◌, arith, eqb-true}
use Rattle.circ_term.specs.Tree.{Tree, Var, sort_of}
use Rattle.circ_term.specs.Substitution.{Substitution, instance}
use Rattle.circ_theory.specs.Signature.{IsWellSorted, IsSubstitution}
use Rattle.circ_theory.specs.Theory.{goal_of, listed}
use Rattle.circ_theory.specs.Derivable.{Derivable, by_operator, by_equation, no_args, more_args}
use Rattle.circ_regex.specs.Matches.{Letter, a_letter, b_letter}
use Rattle.circ_regex.specs.Lang.{op_zero, op_one, op_or, op_and, op_acc, op_da, op_db, op_product, op_sum, op_when, lang_operator, bit_sort, lang_sort, LANG, rule_with}
use Rattle.circ_regex.specs.Lang.{on_term, on_terms, zero_term, one_term, or_term, and_term, acc_term, da_term, db_term, product_term, sum_term, when_term}

-- a well-sorted term of this sort
pub record IsOf (s : ℕ) (t : Tree) : Type 0 where
  pub sort : sort_of t ≡ s
  pub sorted : IsWellSorted LANG.signature t

abbrev pub bit_term : Bool → Tree
bit_term true = one_term
bit_term false = zero_term

abbrev pub letter_on : Letter → Tree → Tree
letter_on a_letter t = da_term t
letter_on b_letter t = db_term t

pub is_bit : (b : Bool) → IsOf bit_sort (bit_term b)
unfolding LANG
is_bit true = record { sort = refl; sorted = (lang_operator op_one, refl, refl, tt) }
is_bit false = record { sort = refl; sorted = (lang_operator op_zero, refl, refl, tt) }

pub is_or : (x y : Tree) → IsOf bit_sort x → IsOf bit_sort y → IsOf bit_sort (or_term x y)
unfolding LANG
is_or x y h k = record { sort = refl; sorted = (lang_operator op_or, refl, refl, (h.sort, h.sorted, (k.sort, k.sorted, tt))) }

pub is_and : (x y : Tree) → IsOf bit_sort x → IsOf bit_sort y → IsOf bit_sort (and_term x y)
unfolding LANG
is_and x y h k = record { sort = refl; sorted = (lang_operator op_and, refl, refl, (h.sort, h.sorted, (k.sort, k.sorted, tt))) }

pub is_acc : (t : Tree) → IsOf lang_sort t → IsOf bit_sort (acc_term t)
unfolding LANG
is_acc t h = record { sort = refl; sorted = (lang_operator op_acc, refl, refl, (h.sort, h.sorted, tt)) }

pub is_letter_on : (x : Letter) (t : Tree) → IsOf lang_sort t → IsOf lang_sort (letter_on x t)
unfolding LANG
is_letter_on a_letter t h = record { sort = refl; sorted = (lang_operator op_da, refl, refl, (h.sort, h.sorted, tt)) }
is_letter_on b_letter t h = record { sort = refl; sorted = (lang_operator op_db, refl, refl, (h.sort, h.sorted, tt)) }

pub is_sum : (t u : Tree) → IsOf lang_sort t → IsOf lang_sort u → IsOf lang_sort (sum_term t u)
unfolding LANG
is_sum t u h k = record { sort = refl; sorted = (lang_operator op_sum, refl, refl, (h.sort, h.sorted, (k.sort, k.sorted, tt))) }

pub is_product : (t u : Tree) → IsOf lang_sort t → IsOf lang_sort u → IsOf lang_sort (product_term t u)
unfolding LANG
is_product t u h k = record { sort = refl; sorted = (lang_operator op_product, refl, refl, (h.sort, h.sorted, (k.sort, k.sorted, tt))) }

pub is_when : (x t : Tree) → IsOf bit_sort x → IsOf lang_sort t → IsOf lang_sort (when_term x t)
unfolding LANG
is_when x t h k = record { sort = refl; sorted = (lang_operator op_when, refl, refl, (h.sort, h.sorted, (k.sort, k.sorted, tt))) }

-- operators on what is derivable
pub on_derived : (f s : ℕ) (t u : Tree) → IsOf s (on_term f s t) → IsOf s (on_term f s u) → Derivable LANG [] t u → Derivable LANG [] (on_term f s t) (on_term f s u)
on_derived f s t u h k d = by_operator f s h.sorted k.sorted (more_args d no_args)

pub on_both : (f s : ℕ) (t u v w : Tree) → IsOf s (on_terms f s t v) → IsOf s (on_terms f s u w)
    → Derivable LANG [] t u → Derivable LANG [] v w → Derivable LANG [] (on_terms f s t v) (on_terms f s u w)
on_both f s t u v w h k d e = by_operator f s h.sorted k.sorted (more_args d (more_args e no_args))

-- a term for X, or two for R and S
abbrev pub with_bit : Tree → Substitution
with_bit x n s = if s == bit_sort then (if n == 0 then x else Var n s) else Var n s

abbrev pub with_langs : Tree → Tree → Substitution
with_langs t u n s = if s == lang_sort then (if n == 0 then t else if n == 1 then u else Var n s) else Var n s

bit_fits : (x : Tree) → IsOf bit_sort x → IsSubstitution LANG.signature (with_bit x)
bit_fits x h n s is = on_sort (s == bit_sort) refl
  where
    on_number : (v : Bool) → s ≡ bit_sort → (sort_of (if v then x else Var n s) ≡ s) × IsWellSorted LANG.signature (if v then x else Var n s)
    on_number true e = (h.sort ∙ sym e, h.sorted)
    on_number false e = (refl, is)

    on_sort : (v : Bool) → (s == bit_sort) ≡ v
        → (sort_of (if v then (if n == 0 then x else Var n s) else Var n s) ≡ s) × IsWellSorted LANG.signature (if v then (if n == 0 then x else Var n s) else Var n s)
    on_sort true e = on_number (n == 0) (eqb-true s bit_sort e)
    on_sort false e = (refl, is)

langs_fit : (t u : Tree) → IsOf lang_sort t → IsOf lang_sort u → IsSubstitution LANG.signature (with_langs t u)
langs_fit t u h k n s is = on_sort (s == lang_sort) refl
  where
    second : (v : Bool) → s ≡ lang_sort → (sort_of (if v then u else Var n s) ≡ s) × IsWellSorted LANG.signature (if v then u else Var n s)
    second true e = (k.sort ∙ sym e, k.sorted)
    second false e = (refl, is)

    first : (v : Bool) → s ≡ lang_sort
        → (sort_of (if v then t else if n == 1 then u else Var n s) ≡ s) × IsWellSorted LANG.signature (if v then t else if n == 1 then u else Var n s)
    first true e = (h.sort ∙ sym e, h.sorted)
    first false e = second (n == 1) e

    on_sort : (v : Bool) → (s == lang_sort) ≡ v
        → (sort_of (if v then (if n == 0 then t else if n == 1 then u else Var n s) else Var n s) ≡ s)
        × IsWellSorted LANG.signature (if v then (if n == 0 then t else if n == 1 then u else Var n s) else Var n s)
    on_sort true e = first (n == 0) (eqb-true s lang_sort e)
    on_sort false e = (refl, is)

-- an equation of the list, under a substitution
by_rule : (s t : Tree) → Contains LANG.equations (rule_with s t) → (σ : Substitution) → IsSubstitution LANG.signature σ → Derivable LANG [] (instance σ s) (instance σ t)
by_rule s t c σ h = by_equation (goal_of (rule_with s t)) σ (listed (rule_with s t) c) h (λ p none. absurd (omega (arith, none.1)))

pub by_bit_rule : (s t : Tree) → Contains LANG.equations (rule_with s t) → (x : Tree) → IsOf bit_sort x
    → Derivable LANG [] (instance (with_bit x) s) (instance (with_bit x) t)
by_bit_rule s t c x h = by_rule s t c (with_bit x) (bit_fits x h)

pub by_lang_rule : (s t : Tree) → Contains LANG.equations (rule_with s t) → (u v : Tree) → IsOf lang_sort u → IsOf lang_sort v
    → Derivable LANG [] (instance (with_langs u v) s) (instance (with_langs u v) t)
by_lang_rule s t c u v h k = by_rule s t c (with_langs u v) (langs_fit u v h k)

-- one that has no variables
pub by_ground_rule : (s t : Tree) → Contains LANG.equations (rule_with s t) → Derivable LANG [] (instance Var s) (instance Var t)
by_ground_rule s t c = by_rule s t c Var (λ n s h. (refl, h))
