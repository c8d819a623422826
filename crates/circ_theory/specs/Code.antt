-- How a proof tells theories apart: each is the tuple of its parts.
use Rattle.std.specs.Prelude.{◌≡◌, ℕ, List, zero, suc, Bool, refl}
use Rattle.std.specs.Coded.{Coded, code_by, coded×, coded_ℕ, coded_bool, coded_list}
use Rattle.circ_term.specs.Tree.{Tree}
use Rattle.circ_term.specs.Code.{tree_code}
use Rattle.circ_form.specs.declared.forms.Piece.{Piece}
use Rattle.circ_theory.specs.declared.parts.Side.{Side}
use Rattle.circ_theory.specs.declared.parts.Side.TheVariants.{Neither, Left, Right}
use Rattle.circ_pairs.specs.declared.goals.Equation.{Equation}
use Rattle.circ_form.specs.Form.{form_code}
use Rattle.circ_pairs.specs.Pair.{Pair, pairs_code}
use Rattle.circ_theory.specs.Signature.{Signature, Operator}
use Rattle.circ_theory.specs.Theory.{Theory, Derivative, CaseList, Declared}

abbrev pub side_number : Side → ℕ
side_number Neither = 0
side_number Left = 1
side_number Right = 2

abbrev pub side_at : ℕ → Side
side_at zero = Neither
side_at (suc zero) = Left
side_at (suc (suc n)) = Right

pub side_at-side_number : (s : Side) → side_at (side_number s) ≡ s
side_at-side_number Neither = refl
side_at-side_number Left = refl
side_at-side_number Right = refl

abbrev pub side_code : Coded Side
side_code = code_by ℕ coded_ℕ side_number side_at side_at-side_number

abbrev pub operator_code : Coded Operator
operator_code =
    code_by (List Piece × (List ℕ × (ℕ × (ℕ × (Side × (Bool × (Bool × Bool)))))))
    (coded× form_code (coded× (coded_list coded_ℕ) (coded× coded_ℕ (coded× coded_ℕ (coded× side_code (coded× coded_bool (coded× coded_bool coded_bool)))))))
    (λ o. (o.form, (o.args, (o.result, (o.prec, (o.side, (o.assoc, (o.comm, o.idem))))))))
    (λ p. record {
      form = p.0;
      args = p.1.0;
      result = p.1.1.0;
      prec = p.1.1.1.0;
      side = p.1.1.1.1.0;
      assoc = p.1.1.1.1.1.0;
      comm = p.1.1.1.1.1.1.0;
      idem = p.1.1.1.1.1.1.1;
    })
    (λ _. refl)

abbrev pub signature_code : Coded Signature
signature_code =
    code_by (List (List ℕ) × List Operator) (coded× (coded_list (coded_list coded_ℕ)) (coded_list operator_code)) (λ g. (g.sorts, g.ops)) (λ p. record { sorts = p.0; ops = p.1 }) (λ _. refl)

abbrev pub equation_code : Coded Equation
equation_code =
    code_by (Tree × (Tree × (List Pair × Bool)))
    (coded× tree_code (coded× tree_code (coded× pairs_code coded_bool)))
    (λ e. (e.left, (e.right, (e.conds, e.exec))))
    (λ p. record { left = p.0; right = p.1.0; conds = p.1.1.0; exec = p.1.1.1 })
    (λ _. refl)

abbrev pub declared_code : Coded Declared
declared_code = code_by (List ℕ × ℕ) (coded× (coded_list coded_ℕ) coded_ℕ) (λ d. (d.name, d.sort)) (λ p. record { name = p.0; sort = p.1 }) (λ _. refl)

abbrev pub derivative_code : Coded Derivative
derivative_code = code_by (ℕ × Tree) (coded× coded_ℕ tree_code) (λ d. (d.hole, d.body)) (λ p. record { hole = p.0; body = p.1 }) (λ _. refl)

abbrev pub cases_code : Coded CaseList
cases_code = code_by (ℕ × List ℕ) (coded× coded_ℕ (coded_list coded_ℕ)) (λ l. (l.sort, l.constants)) (λ p. record { sort = p.0; constants = p.1 }) (λ _. refl)

abbrev pub theory_code : Coded Theory
theory_code =
    code_by (List ℕ × (Signature × (List Declared × (List Equation × (List Derivative × List CaseList)))))
    (coded× (coded_list coded_ℕ)
    (coded× signature_code
    (coded× (coded_list declared_code)
    (coded× (coded_list equation_code) (coded× (coded_list derivative_code) (coded_list cases_code))))))
    (λ th. (th.name, (th.signature, (th.variables, (th.equations, (th.derivatives, th.cases))))))
    (λ p. record {
      name = p.0;
      signature = p.1.0;
      variables = p.1.1.0;
      equations = p.1.1.1.0;
      derivatives = p.1.1.1.1.0;
      cases = p.1.1.1.1.1;
    })
    (λ _. refl)
