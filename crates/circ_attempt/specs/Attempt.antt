-- The attempt at a hidden goal: passes in which the block's own rules are taken too, within limits of its own.
use Rattle.std.specs.Prelude.{ℕ, zero, suc, ◌+◌, ◌-◌, Bool, ◌&&◌, if◌then◌else◌, List, [], ◌∷◌, ◌++◌, map, length, drop, Option, Some, None, Result, Ok, Err}
use Rattle.std.specs.List.{list_any}
use Rattle.circ_term.specs.Tree.{Tree}
use Rattle.circ_term.specs.Order.{is_same}
use Rattle.circ_theory.specs.Theory.{Theory, Pair}
use Rattle.circ_theory.specs.Goal.{Goal}
use Rattle.circ_special.specs.declared.place.Place.{Place}
use Rattle.circ_proof.specs.Plain.{ChainOf}
use Rattle.circ_rewrite.specs.Links.{link_of}
use Rattle.circ_rewrite.specs.declared.parts.Rule.{Rule}
use Rattle.circ_conditional_norm.specs.Norm.{conditional_norm}
use Rattle.circ_conditional_norm.specs.Work.{Work, Made, Out, Past, normal_then}
use Rattle.circ_plain_search.specs.BlockRules.{block_rules}
use Rattle.circ_plain_search.specs.Joining.{Stop}
use Rattle.circ_plain_search.specs.Search.{Sides, sides_with, chain_with, chained, no_links, has_links}
use Rattle.circ_conditional_search.specs.Joining.{Swept, work_then}
use Rattle.circ_conditional_search.specs.Search.{condition_normaliser, pass_chain}
use Rattle.circ_content_join.specs.Joining.{joined_by_content}
use Rattle.circ_content_join.specs.Moves.{Move, move_link, make_all}
use Rattle.circ_attempt.specs.Passes.{both_swept}
use Rattle.circ_attempt.specs.Rules.{Taker, HypothesisRule, lemmas_of, own_rules, first_rule_use}

-- the pairs of sides that have stood
abbrev pub Stood : Type 0
Stood = List (Tree × Tree)

abbrev pub has_stood : (s t : Tree) → Stood → Bool
has_stood s t ps = list_any (λ p. is_same s p.0 && is_same t p.1) ps

-- the most rounds of an attempt, and the most rewrite steps
abbrev pub round_limit : ℕ
round_limit = 8

abbrev pub attempt_limit : ℕ
attempt_limit = 100

-- s is normalised, then t
abbrev pub both_normal : Theory → List Rule → (assumptions : List Pair) → (s t : Tree) → (budget : ℕ) → Work Sides
both_normal th R A s t k =
    normal_then (conditional_norm 0 th.signature R A k s) (λ a ts l. normal_then (conditional_norm 0 th.signature R A l t)
    (λ b us m. Made (sides_with a b (chain_with (map link_of ts) (map link_of us)) m) m))

-- the sides after a pass, and after they are normalised, with the whole chain to them
abbrev pub after_pass : Sides → Swept × Swept → (budget : ℕ) → Sides
after_pass x w k = sides_with w.0.whole w.1.whole (chained x.chain (pass_chain w)) k

abbrev pub after_normal : (before : Sides) → Sides → Sides
after_normal x n = sides_with n.left n.right (chained x.chain n.chain) n.budget

-- the chain, unless a term on its way passes a limit
abbrev pub unless_stopped : Result Tree Stop → ChainOf Tree → Option (ChainOf Tree)
unless_stopped (Ok u) c = Some c
unless_stopped (Err e) c = None

-- the chain with the links of Join behind those of the left side
abbrev pub join_chain : (s : Tree) → ChainOf Tree → List Move → Option (ChainOf Tree)
join_chain s c vs = unless_stopped (make_all s vs) (chained c (chain_with (map move_link vs) []))

-- how rounds go on from sides, where these pairs have stood: the whole chain, where the sides Join in the end
abbrev pub Rounds : Type 0
Rounds = Stood → Sides → (budget : ℕ) → Work (Option (ChainOf Tree))

-- The sides Join; or else, unless they have stood before, there is the next round.
abbrev pub join_or : Stood → Sides → Rounds → Option (List Move) → (budget : ℕ) → Work (Option (ChainOf Tree))
join_or ps x again (Some vs) k = Made (join_chain x.left x.chain vs) k
join_or ps x again None k = if has_stood x.left x.right ps then Made None k else again ((x.left, x.right) ∷ ps) x k

-- What an attempt comes to, for which so many steps of the budget were set aside: a limit that is passed ends the attempt and not the search, and
-- so does a step that is due where only what was set aside is left.
abbrev pub outcome : {A : Type 0} → (aside : ℕ) → Work (Option A) → Work (Option A)
outcome n (Made o k) = Made o (n + k)
outcome zero Out = Out
outcome (suc n) Out = Made None (suc n)
outcome n (Past l k) = Made None (n + k)

-- the rules of what the block has derived, behind so many goals of earlier blocks
abbrev pub derived_rules : (earlier hypotheses : List Goal) → (of_script : List Bool) → List HypothesisRule
derived_rules E H bs = own_rules (length E) bs (drop (length E) H)

module _ (th : Theory) (G : List Place) (E H : List Goal) (of_script : List Bool) (A : List Pair) where
  -- what a pass of the attempt takes: the hidden lemmas, and the own rules behind them
  abbrev pub attempt_taker : Taker
  attempt_taker = first_rule_use (condition_normaliser th E A) (lemmas_of th 0 E ++ derived_rules E H of_script)

  -- both sides are normalised; where they do not Join there is the next round
  abbrev pub normal_round : Rounds → Rounds
  normal_round again ps x k =
      work_then (both_normal th (block_rules th E) A x.left x.right k)
      (λ y l. work_then (joined_by_content (condition_normaliser th E A) th.signature G H [] y.left y.right l) (join_or ps (after_normal x y) again))

  -- A round is a pass over both sides, normal forms, and Join. There is none behind a pass that replaces nothing.
  abbrev pub rounds : (most : ℕ) → Rounds
  rounds zero ps x k = Made None k
  rounds (suc n) ps x k =
      work_then (both_swept attempt_taker G x.left x.right k)
      (λ w l. if has_links (pass_chain w) then normal_round (rounds n) ps (after_pass x w l) l else Made None l)

  -- The attempt at s and t, of eight rounds and a hundred steps at most: the chain that makes them equal, or none. The pair that it begins
  -- with has stood.
  abbrev pub attempt : (s t : Tree) → (budget : ℕ) → Work (Option (ChainOf Tree))
  attempt s t k =
      outcome (k - attempt_limit) (rounds round_limit ((s, t) ∷ []) (sides_with s t no_links k) (k - (k - attempt_limit)))
