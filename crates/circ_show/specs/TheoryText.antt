-- The text of a theory.
use Rattle.std.specs.Prelude.{◌≡◌, ◌↔◌, ℕ, zero, suc, ◌+◌, List, [], ◌++◌, Bool, true, flat_map, codes, length, if◌then◌else◌}
use Rattle.circ_theory.specs.Theory.{Theory}
use Rattle.circ_show.specs.Lines.{theory_line, sort_line, op_line, var_line, equation_line, derivative_line, cases_line, unobserved_line}
use Rattle.circ_show.specs.Observed.{IsUnobserved}

-- the texts of so many numbers, from this one on
abbrev pub by_number : (ℕ → List ℕ) → (from count : ℕ) → List ℕ
by_number f n zero = []
by_number f n (suc k) = f n ++ by_number f (n + 1) k

-- the parts of a theory, one a line, kind by kind; case lists by the numbers of their sorts
abbrev pub parts_text : Theory → List ℕ
parts_text th =
    theory_line th.name ++ flat_map sort_line th.signature.sorts ++ flat_map (op_line th.signature) th.signature.ops
    ++ flat_map (var_line th.signature) th.variables ++ flat_map (equation_line th.signature) th.equations
    ++ flat_map (λ d. derivative_line th.signature d.body) th.derivatives ++ by_number (cases_line th) 0 (length th.signature.sorts) ++ codes "endtheory\n"

-- the text of a number of which the test is true
abbrev pub text_where : (ℕ → Bool) → (ℕ → List ℕ) → ℕ → List ℕ
text_where test f n = if test n then f n else []

-- a line for each sort of which the test is true
abbrev pub unobserved_lines : Theory → (ℕ → Bool) → List ℕ
unobserved_lines th unobserved = by_number (text_where unobserved (unobserved_line th.signature)) 0 (length th.signature.sorts)

-- the text of a theory, by a test whether a sort is not observed
abbrev pub text_of_theory : Theory → (ℕ → Bool) → List ℕ
text_of_theory th unobserved = parts_text th ++ unobserved_lines th unobserved

-- The text of a theory, with a line for each sort that is not observed.
pub record IsTheoryText (th : Theory) (text : List ℕ) : Type 0 where
  pub unobserved : ℕ → Bool
  pub tells : (s : ℕ) → (unobserved s ≡ true) ↔ IsUnobserved th s
  pub is : text ≡ text_of_theory th unobserved
