-- What is derivable in LANG has the same words.
use Rattle.std.specs.Prelude.{◌≡◌, zero, suc, List, [], ◌∷◌, Bool, true, false, refl}
use Rattle.std.specs.List.{slice_get, Contains}
use Rattle.std.proofs.Common.{ap, sym, subst, ◌∙◌, arith}
use Rattle.circ_term.specs.Tree.{Tree, Trees, sort_of}
use Rattle.circ_theory.specs.Signature.{IsWellSorted}
use Rattle.circ_theory.specs.Theory.{Pair, CaseList}
use Rattle.circ_theory.specs.Derivable.{Derivable, by_same, by_symmetry, by_chain, by_operator, by_equation}
use Rattle.circ_theory.specs.Derivable.{by_premise, by_cases, DerivableAll, no_args, more_args, is_case}
use Rattle.circ_regex.specs.Lang.{lang_ops, bit_sort, bit_cases, LANG}
use Rattle.circ_regex.specs.Member.{applied_op, language_of, languages_of}
use Rattle.circ_regex.proofs.Words.{same_words}
use Rattle.circ_regex.proofs.Truth.{steady, equation_is_true}

-- each pair has sides with the same words
abbrev pub AreTrue : List Pair → Type 0
AreTrue H = (p : Pair) → Contains H p → language_of p.left ≡ language_of p.right

true_with : (H : List Pair) (q : Pair) → AreTrue H → language_of q.left ≡ language_of q.right → AreTrue (q ∷ H)
true_with H q all e p (zero, h, is) = let P : Pair → Type 0 = λ x. language_of x.left ≡ language_of x.right in subst P is e
true_with H q all e p (suc k, h, is) = all p (k, omega arith, is)

-- a bit is 0 or 1, whatever its variables stand for
is_a_constant : (u : Tree) → IsWellSorted LANG.signature u → sort_of u ≡ bit_sort → (v : Bool) → language_of u [] ≡ v → language_of u ≡ (λ w. v)
is_a_constant u h e v is = same_words _ _ (λ w. steady u h e w ∙ is)

-- the one case list
one_case_list : (l : CaseList) → Contains LANG.cases l → bit_cases ≡ l
unfolding LANG
one_case_list l (zero, h, is) = is
one_case_list l (suc k, h, is) = absurd (omega arith)

-- whatever value a bit has
by_value : (s t : Tree) (c v : Bool) → c ≡ v → (c ≡ false → language_of s ≡ language_of t) → (c ≡ true → language_of s ≡ language_of t) → language_of s ≡ language_of t
by_value s t c true is if_zero if_one = if_one is
by_value s t c false is if_zero if_one = if_zero is

mutual
  pub same_words_of : {H : List Pair} {s t : Tree} → Derivable LANG H s t → AreTrue H → language_of s ≡ language_of t
  same_words_of (by_same t h) all = refl
  same_words_of (by_symmetry d) all = sym (same_words_of d all)
  same_words_of (by_chain m d e) all = same_words_of d all ∙ same_words_of e all
  same_words_of (by_operator f k x y ds) all = ap (λ Ls. applied_op (slice_get lang_ops f) Ls) (same_words_of_all ds all)
  same_words_of (by_equation e σ c h given) all = equation_is_true e c σ h
  same_words_of (by_premise p c h) all = all p c
  same_words_of (by_cases {H = H} {s = s} {t = t} u l listed h sort ds) all =
      let is = one_case_list l listed in
      let sorted : sort_of u ≡ bit_sort = sort ∙ ap (λ (x : CaseList). x.sort) (sym is) in
      let zero_listed : Contains l.constants 0 = subst (λ (x : CaseList). Contains x.constants 0) is (0, omega arith, refl) in
      let one_listed : Contains l.constants 1 = subst (λ (x : CaseList). Contains x.constants 1) is (1, omega arith, refl) in
      by_value s t (language_of u []) (language_of u []) refl
      (λ v. same_words_of (ds 0 zero_listed) (true_with H (is_case u l 0) all (is_a_constant u h sorted false v)))
      (λ v. same_words_of (ds 1 one_listed) (true_with H (is_case u l 1) all (is_a_constant u h sorted true v)))

  pub same_words_of_all : {H : List Pair} {ss ts : Trees} → DerivableAll LANG H ss ts → AreTrue H → languages_of ss ≡ languages_of ts
  same_words_of_all no_args all = refl
  same_words_of_all (more_args {t = t} {ss = ss} d ds) all = ap (λ L. L ∷ languages_of ss) (same_words_of d all) ∙ ap (λ Ls. language_of t ∷ Ls) (same_words_of_all ds all)

pub derived_words : (s t : Tree) → Derivable LANG [] s t → language_of s ≡ language_of t
derived_words s t d = same_words_of d (λ p c. absurd (omega (arith, c.1)))
