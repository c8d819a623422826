-- How a proof tells rules of a pass apart: each is the tuple of its parts.
use Rattle.std.specs.Prelude.{◌≡◌, ℕ, Bool, true, false, refl}
use Rattle.std.specs.Coded.{Coded, code_by, coded×, coded_ℕ, coded_bool}
use Rattle.circ_theory.specs.Goal.{Goal}
use Rattle.circ_theory.specs.declared.way.Way.{Way}
use Rattle.circ_theory.specs.declared.way.Way.TheVariants.{Forth, Back}
use Rattle.circ_rewrite.specs.Code.{goal_code}
use Rattle.circ_attempt.specs.Rules.{HypothesisRule}

abbrev pub is_forth : Way → Bool
is_forth Forth = true
is_forth Back = false

abbrev pub way_by : (forth : Bool) → Way
way_by true = Forth
way_by false = Back

pub way_by-is_forth : (w : Way) → way_by (is_forth w) ≡ w
way_by-is_forth Forth = refl
way_by-is_forth Back = refl

abbrev pub way_code : Coded Way
way_code = code_by Bool coded_bool is_forth way_by way_by-is_forth

abbrev pub hypothesis_rule_code : Coded HypothesisRule
hypothesis_rule_code =
    code_by (ℕ × (Way × (Goal × Bool)))
    (coded× coded_ℕ (coded× way_code (coded× goal_code coded_bool)))
    (λ r. (r.number, (r.way, (r.hypothesis, r.ordered))))
    (λ p. record { number = p.0; way = p.1.0; hypothesis = p.1.1.0; ordered = p.1.1.1 })
    (λ _. refl)
