-- Declared operators, and when two of them are the same.
use Rattle.std.specs.Prelude.{◌≡◌, ℕ, ◌+◌, ◌≤◌, if◌then◌else◌, List, [], ◌∷◌, Bool, true, ◌==◌, ◌&&◌, ◌||◌, not, nat_eq, length, Option, Some}
use Rattle.std.specs.List.{slice_get, Contains}
use Rattle.std.specs.Option.{option_eq}
use Rattle.std.specs.Cmp.Lexicographic.{pointwise}
use Rattle.circ_theory.specs.declared.parts.OpDecl.{OpDecl}
use Rattle.circ_theory.specs.Limits.{argument_limit}
use Rattle.circ_form.specs.Form.{IsForm, first_word, is_same_piece, hole_count}
use Rattle.circ_theory.specs.Signature.{Signature, Operator, IsSort}

-- the operator that a declaration declares
abbrev pub operator_of : OpDecl → Operator
operator_of d = record {
  form = d.form;
  args = d.args.items;
  result = d.result;
  prec = d.prec;
  side = d.side;
  assoc = d.assoc;
  comm = d.comm;
  idem = d.idem;
}

-- the same form, and the same argument sorts
abbrev pub is_same_operator : Operator → Operator → Bool
is_same_operator o p = pointwise is_same_piece o.form p.form && pointwise nat_eq o.args p.args

-- no two operators have one form and the same argument sorts
abbrev pub AreDifferentOperators : List Operator → Type 0
AreDifferentOperators os = (m n : ℕ) (o p : Operator) → slice_get os m ≡ Some o → slice_get os n ≡ Some p → o.form ≡ p.form → o.args ≡ p.args → m ≡ n

-- A form has a hole for each argument, or no hole.
abbrev pub form_fits : Operator → Bool
form_fits o = (hole_count o.form == 0) || (hole_count o.form == length o.args)

abbrev pub has_mark : Operator → Bool
has_mark o = o.assoc || o.comm || o.idem

-- both argument sorts and the result sort are one
abbrev pub is_binary : Operator → Bool
is_binary o = pointwise nat_eq o.args (o.result ∷ o.result ∷ [])

abbrev pub is_ill_sorted : Operator → Bool
is_ill_sorted o = not (form_fits o) || (has_mark o && not (is_binary o))

-- An operator of a theory: it has a form, its sorts exist, it has at most 16 arguments, and form and marks fit these.
pub record IsOperator (sig : Signature) (o : Operator) : Type 0 where
  pub is_form : IsForm o.form
  pub args : (s : ℕ) → Contains o.args s → IsSort sig s
  pub result : IsSort sig o.result
  pub few : length o.args ≤ argument_limit
  pub fits : form_fits o ≡ true
  pub marked : has_mark o ≡ true → o.args ≡ o.result ∷ o.result ∷ []

-- the places of the items that pass the test, the first being k
abbrev pub places_from : {X : Type 0} → (X → Bool) → (k : ℕ) → List X → List ℕ
places_from p k [] = []
places_from p k (x ∷ xs) = if p x then k ∷ places_from p (k + 1) xs else places_from p (k + 1) xs

-- the numbers, increasing, of the operators whose form has this as its first word
abbrev pub ops_by_word : Signature → List ℕ → List ℕ
ops_by_word sig w = places_from (λ o. pointwise nat_eq w (first_word o.form)) 0 sig.ops

-- the sort of the first argument; a constant has none
abbrev pub first_sort : Operator → Option ℕ
first_sort o = slice_get o.args 0

-- the numbers, increasing, of those of them whose first argument has this sort; of the constants, where no sort is given
abbrev pub ops_by_word_and_sort : Signature → List ℕ → (first : Option ℕ) → List ℕ
ops_by_word_and_sort sig w s = places_from (λ o. pointwise nat_eq w (first_word o.form) && option_eq nat_eq s (first_sort o)) 0 sig.ops
