-- The rounds of an attempt in steps.
use Rattle.std.proofs.Common.{◌≡◌, ℕ, zero, suc, ◌-◌, Bool, true, false, if◌then◌else◌, List, [], ◌∷◌, Option, Some, None, refl, ap, sym, ◌∙◌}
use Rattle.circ_term.specs.Tree.{Tree}
use Rattle.circ_theory.specs.Theory.{Theory, Pair}
use Rattle.circ_theory.specs.Goal.{Goal}
use Rattle.circ_special.specs.declared.place.Place.{Place}
use Rattle.circ_conditional_norm.specs.Work.{Work, Made, Out, Past}
use Rattle.circ_plain_search.specs.BlockRules.{block_rules}
use Rattle.circ_plain_search.specs.Search.{Sides, sides_with, chained, no_links, has_links}
use Rattle.circ_conditional_search.specs.Joining.{Swept, work_then}
use Rattle.circ_conditional_search.specs.Search.{condition_normaliser, pass_chain}
use Rattle.circ_content_join.specs.Joining.{joined_by_content}
use Rattle.circ_content_join.specs.Moves.{Move}
use Rattle.circ_attempt.specs.Attempt.{Stood, has_stood, round_limit, attempt_limit, outcome, attempt, Rounds, rounds, normal_round, attempt_taker, both_normal, after_normal, after_pass, join_or}
use Rattle.circ_attempt.specs.Passes.{both_swept}

then_same : {A B : Type 0} (w : Work A) (f g : A → ℕ → Work B) → ((a : A) (k : ℕ) → f a k ≡ g a k) → work_then w f ≡ work_then w g
then_same (Made a k) f g e = e a k
then_same Out f g e = refl
then_same (Past l k) f g e = refl

module _ (th : Theory) (G : List Place) (E H : List Goal) (bs : List Bool) (A : List Pair) where
  -- rounds do not look at what the sides say of the budget
  rounds_apart : (m : ℕ) (ps : Stood) (x : Sides) (b k : ℕ) → rounds th G E H bs A m ps x k ≡ rounds th G E H bs A m ps (sides_with x.left x.right x.chain b) k
  rounds_apart zero ps x b k = refl
  rounds_apart (suc m) ps x b k = refl

  -- an attempt by its rounds, for which so many steps are set aside
  pub attempt_is : (s t : Tree) (k aside : ℕ) → aside ≡ k - attempt_limit
      → attempt th G E H bs A s t k ≡ outcome aside (rounds th G E H bs A round_limit ((s, t) ∷ []) (sides_with s t no_links 0) (k - aside))
  attempt_is s t k aside e =
      ap (outcome (k - attempt_limit)) (rounds_apart round_limit ((s, t) ∷ []) (sides_with s t no_links k) 0 (k - (k - attempt_limit)))
      ∙ ap (λ n. outcome n (rounds th G E H bs A round_limit ((s, t) ∷ []) (sides_with s t no_links 0) (k - n))) (sym e)

module _ (th : Theory) (G : List Place) (E H : List Goal) (bs : List Bool) (A : List Pair) (n : ℕ) where
  abbrev again : Rounds
  again = rounds th G E H bs A n

  -- Join of both sides, and then the rounds that are left
  abbrev joined : Rounds
  joined ps x k =
      work_then (joined_by_content (condition_normaliser th E A) th.signature G H [] x.left x.right k) (join_or ps x again)

  or_apart : (ps : Stood) (x : Sides) (b : ℕ) (o : Option (List Move)) (k : ℕ) → join_or ps x again o k ≡ join_or ps (sides_with x.left x.right x.chain b) again o k
  or_apart ps x b (Some vs) k = refl
  or_apart ps x b None k = ap (λ w. if has_stood x.left x.right ps then Made None k else w) (rounds_apart th G E H bs A n ((x.left, x.right) ∷ ps) x b k)

  -- a pass that replaces something
  pub pass_goes : (ps : Stood) (x z : Sides) (w : Swept × Swept) (k l : ℕ) → both_swept (attempt_taker th G E H bs A) G x.left x.right k ≡ Made w l
      → has_links (pass_chain w) ≡ true → z ≡ sides_with w.0.whole w.1.whole (chained x.chain (pass_chain w)) 0
      → rounds th G E H bs A (suc n) ps x k ≡ normal_round th G E H bs A again ps z l
  pass_goes ps x z w k l e some s =
      ap (λ u. work_then u (λ w l. if has_links (pass_chain w) then normal_round th G E H bs A again ps (after_pass x w l) l else Made None l)) e
      ∙ ap (λ b. if b then normal_round th G E H bs A again ps (after_pass x w l) l else Made None l) some
      ∙ ap (λ y. normal_round th G E H bs A again ps y l) (sym s)

  -- a pass that replaces nothing
  pub pass_ends : (ps : Stood) (x : Sides) (w : Swept × Swept) (k l : ℕ) → both_swept (attempt_taker th G E H bs A) G x.left x.right k ≡ Made w l
      → has_links (pass_chain w) ≡ false → rounds th G E H bs A (suc n) ps x k ≡ Made None l
  pass_ends ps x w k l e none =
      ap (λ u. work_then u (λ w l. if has_links (pass_chain w) then normal_round th G E H bs A again ps (after_pass x w l) l else Made None l)) e
      ∙ ap (λ b. if b then normal_round th G E H bs A again ps (after_pass x w l) l else Made None l) none

  -- both sides in normal form
  pub normal_goes : (ps : Stood) (x y z : Sides) (k l : ℕ) → both_normal th (block_rules th E) A x.left x.right k ≡ Made y l
      → z ≡ sides_with y.left y.right (chained x.chain y.chain) 0 → normal_round th G E H bs A again ps x k ≡ joined ps z l
  normal_goes ps x y z k l e s =
      ap (λ w. work_then w (λ y l. joined ps (after_normal x y) l)) e
      ∙ then_same (joined_by_content (condition_normaliser th E A) th.signature G H [] y.left y.right l) (join_or ps (after_normal x y) again)
      (join_or ps (sides_with y.left y.right (chained x.chain y.chain) 0) again) (or_apart ps (after_normal x y) 0)
      ∙ ap (λ u. joined ps u l) (sym s)
