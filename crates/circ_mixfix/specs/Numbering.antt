-- Terms of the chart, with their variables numbered anew: a variable's number is the number of its name.
use Rattle.std.specs.Prelude.{◌≡◌, ℕ, ◌+◌, List, [], ◌∷◌, Bool, true, false, ◌==◌, ◌&&◌, if◌then◌else◌}
use Rattle.circ_term.specs.Tree.{Tree, Var}
use Rattle.circ_term.specs.Substitution.{Substitution, instance}
use Rattle.circ_theory.specs.Variables.{Variable, is_variable, seen_in}
use Rattle.circ_mixfix.specs.declared.TheConstants.{HOLE}

-- the hole of a derivative, of whatever sort
abbrev pub is_hole : Bool → ℕ → Bool
is_hole hole n = hole && (n == HOLE)

-- each variable of the list is given a number, from k on, and the hole 0
abbrev pub numbering : Bool → ℕ → List Variable → Substitution
numbering hole k [] = Var
numbering hole k (v ∷ vs) =
    if is_hole hole v.number
    then (λ n s. if is_variable (record { number = n; sort = s }) v then Var 0 s else numbering hole k vs n s)
    else (λ n s. if is_variable (record { number = n; sort = s }) v then Var k s else numbering hole (k + 1) vs n s)

abbrev pub first_number : Bool → ℕ
first_number true = 1
first_number false = 0

-- The variables are numbered by first occurrence, from 0; where there is a hole, from 1.
abbrev pub numbered_anew : Bool → Tree → Tree
numbered_anew hole t = instance (numbering hole (first_number hole) (seen_in t [])) t

-- the substitution gives the variables of the list these numbers
abbrev pub Numbers : Bool → Substitution → List Variable → Type 0
Numbers hole σ vs = (n s : ℕ) → σ n s ≡ numbering hole (first_number hole) vs n s
