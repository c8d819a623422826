-- A link leads to one term.
use Rattle.std.proofs.Common.{◌≡◌, List, [], ◌∷◌, unwrap_or, ap, ◌∙◌}
use Rattle.std.specs.Option.{option_map_or}
use Rattle.circ_term.specs.Tree.{Tree}
use Rattle.circ_term.specs.Substitution.{instance}
use Rattle.circ_theory.specs.Theory.{goal_of, sides}
use Rattle.circ_theory.specs.Rewriting.{to_side, by_terms}
use Rattle.circ_proof.specs.Plain.{LinkOf, Equation_link, Hypothesis_link, Assumption_link, Content_link}
use Rattle.circ_proof.specs.Runs.{Runs}
use Rattle.circ_proof.specs.Link.{Setting, Leads}
use Rattle.circ_expansion.specs.Followed.{put_or_same, no_pair, no_goal, equation_at, hypothesis_at, assumption_at, led, led_all}

pub link_led : (c : Setting) (l : LinkOf Tree) (t u : Tree) → Leads c l t u → led c l t ≡ u
link_led c (Equation_link number way path terms conds) t u r =
    let e : equation_at c.theory number ≡ goal_of r.0.equation = ap (λ o. option_map_or goal_of o no_goal) r.0.listed in
    ap (λ g. put_or_same t path (instance (by_terms g terms) (to_side way (sides g)))) e ∙ ap (λ o. unwrap_or o t) r.0.rewrites.replaces.made
link_led c (Hypothesis_link number way path terms conds) t u r =
    let e : hypothesis_at c.hypotheses number ≡ r.0.hypothesis = ap (λ o. unwrap_or o no_goal) r.0.listed in
    ap (λ g. put_or_same t path (instance (by_terms g terms) (to_side way (sides g)))) e ∙ ap (λ o. unwrap_or o t) r.0.rewrites.replaces.made
link_led c (Assumption_link number way path) t u r =
    let e : assumption_at c.assumptions number ≡ r.assumed = ap (λ o. unwrap_or o no_pair) r.listed in
    ap (λ p. put_or_same t path (to_side way p)) e ∙ ap (λ o. unwrap_or o t) r.replaces.made
link_led c (Content_link op path term) t u r = ap (λ o. unwrap_or o t) r.replaces.made

pub links_led : (c : Setting) (ls : List (LinkOf Tree)) (t u : Tree) → Runs (Leads c) ls t u → led_all c ls t ≡ u
links_led c [] t u r = r
links_led c (l ∷ ls) t u r = ap (led_all c ls) (link_led c l t r.0 r.1) ∙ links_led c ls r.0 u r.2
