-- What the rounds of an attempt answer, in steps.
use Rattle.std.proofs.Common.{◌≡◌, ◌<◌, ◌≤◌, ℕ, suc, ◌+◌, ◌-◌, ◌++◌, Bool, true, false, if◌then◌else◌, List, [], Option, Some, None, Result, ap, sym, subst, arith, ◌∙◌}
use Rattle.circ_term.specs.Tree.{Tree}
use Rattle.circ_theory.specs.Theory.{Theory, Pair}
use Rattle.circ_theory.specs.Goal.{Goal}
use Rattle.circ_proof.specs.Plain.{ChainOf, plain_chain}
use Rattle.circ_rewrite.specs.declared.fault.RewriteFault.{RewriteFault}
use Rattle.circ_conditional_norm.specs.Work.{Work, Made}
use Rattle.circ_memo.specs.Value.{Rewriting}
use Rattle.circ_tries.specs.Trying.{Hinders}
use Rattle.circ_tries.proofs.Faulting.{hinders_same}
use Rattle.circ_plain_search.specs.BlockRules.{block_rules}
use Rattle.circ_plain_search.specs.Search.{Sides, sides_with, chained, has_links}
use Rattle.circ_conditional_search.specs.Joining.{Swept, work_then}
use Rattle.circ_conditional_search.specs.Search.{condition_normaliser, pass_chain}
use Rattle.circ_content_join.specs.Joining.{joined_by_content}
use Rattle.circ_content_join.specs.Moves.{Move}
use Rattle.circ_join.specs.Trying.{normaliser_of, Works}
use Rattle.circ_attempt.specs.Attempt.{Rounds, Stood, attempt_taker, both_normal, after_normal, after_pass, join_or}
use Rattle.circ_attempt.specs.Passes.{both_swept}
use Rattle.circ_attempt.specs.Rules.{first_rule_use}
use Rattle.circ_rounds.specs.Attempting.{AttemptsIn, rounds_in, normal_round_in, join_round_in}
use Rattle.circ_rounds.specs.Running.{GoesBy, RoundGoes, sides_of, stood_of}
use Rattle.circ_rounds.specs.declared.attempt.Attempting.{Attempting}
use Rattle.circ_rounds.specs.declared.run.Next.{Next}
use Rattle.circ_rounds.specs.declared.run.Next.TheVariants as next
use Rattle.circ_rounds.specs.declared.run.Run.{Run}
use Rattle.circ_rounds.proofs.Hindered.{hinders_then, normaliser_is, normal_is, taker_is}
use Rattle.circ_rounds.proofs.Rounding.{pass_goes, pass_ends, normal_goes}

-- what holds of a reducer holds where it is the same
pub attempts_same : (a : Attempting) (bs : List Bool) (A : List Pair) (r s : Rewriting) → r ≡ s → AttemptsIn a bs A r → AttemptsIn a bs A s
attempts_same a bs A r s e h = subst (AttemptsIn a bs A) e h

-- what holds of the work of an answer holds where it is the same
pub works_same : {B X : Type 0} (view : X → B) (l : ℕ) (v w : Work B) (r : Result X RewriteFault) → v ≡ w → Works view l w r → Works view l v r
works_same {B = B} view l v w r e h = let P : Work B → Type 0 = λ x. Works view l x r in subst P (sym e) h

-- all rounds are left at the start
pub all_left : (a : Attempting) (bs : List Bool) (A : List Pair) (most k : ℕ) (ps qs : Stood) (x y : Sides) → ps ≡ qs → x ≡ y
    → rounds_in a bs A most qs y k ≡ rounds_in a bs A (most - 0) ps x k
all_left a bs A most k ps qs x y stood sides =
    let all : most ≡ most - 0 = omega arith in
    ap (λ n. rounds_in a bs A n qs y k) all ∙ ap (λ q. rounds_in a bs A (most - 0) q y k) (sym stood)
    ∙ ap (λ z. rounds_in a bs A (most - 0) ps z k) (sym sides)

module _ (a : Attempting) (bs : List Bool) (A : List Pair) (most i : ℕ) (ps : Stood) (x : Sides) (k : ℕ) where
  -- the rounds that are left
  abbrev left : Work (Option (ChainOf Tree))
  left = rounds_in a bs A (most - i) ps x k

  -- those behind the next one
  abbrev again : Rounds
  again = rounds_in a bs A (most - (i + 1))

  -- none are left
  pub none_left : most ≤ i → left ≡ Made None k
  none_left e = let none : most - i ≡ 0 = omega (arith, e) in ap (λ n. rounds_in a bs A n ps x k) none

  module _ (more : i < most) where
    -- one is left, and others behind it
    pub one_left : left ≡ rounds_in a bs A (suc (most - (i + 1))) ps x k
    one_left = let one : most - i ≡ suc (most - (i + 1)) = omega (arith, more) in ap (λ n. rounds_in a bs A n ps x k) one

    module _ (r : Run) (l : ℕ) (y : Next) (goes : GoesBy again (rounds_in a bs A (suc (most - (i + 1))) ps x k) r l y) where
      pub left_open : y ≡ next.Open → left ≡ again (stood_of r) (sides_of r) l
      left_open e = one_left ∙ subst (GoesBy again (rounds_in a bs A (suc (most - (i + 1))) ps x k) r l) e goes

      pub left_closed : y ≡ next.Closed → left ≡ Made (Some (plain_chain r.chain)) l
      left_closed e = one_left ∙ subst (GoesBy again (rounds_in a bs A (suc (most - (i + 1))) ps x k) r l) e goes

      pub left_ended : y ≡ next.Ended → left ≡ Made None l
      left_ended e = one_left ∙ subst (GoesBy again (rounds_in a bs A (suc (most - (i + 1))) ps x k) r l) e goes

-- ---- a round

pub goes_on_same : (again : Rounds) (v w : Work (Option (ChainOf Tree))) (run : Run) (l : ℕ) (r : Result Next RewriteFault) → v ≡ w → RoundGoes again w run l r
    → RoundGoes again v run l r
goes_on_same again v w run l r e h = let P : Work (Option (ChainOf Tree)) → Type 0 = λ u. RoundGoes again u run l r in subst P (sym e) h

module _ (a : Attempting) (bs : List Bool) (A : List Pair) (r : Rewriting) (h : AttemptsIn a bs A r) (n : ℕ) (ps : Stood) (x : Sides) (k l : ℕ) where
  abbrev th : Theory
  th = a.theory.now

  abbrev E : List Goal
  E = a.hyps.now.earlier

  abbrev H : List Goal
  H = a.hyps.now.all

  -- what the pass comes to, as it is made
  abbrev pub passed : Work (Swept × Swept)
  passed = both_swept (first_rule_use (normaliser_of r) (a.lemmas.now ++ a.own.now)) a.gamma.now x.left x.right k

  passed_is : both_swept (attempt_taker th a.gamma.now E H bs A) a.gamma.now x.left x.right k ≡ passed
  passed_is =
      ap (λ f. both_swept f a.gamma.now x.left x.right k)
      (sym (taker_is r th E A h.theory h.rules h.conditions H bs a.lemmas.now a.own.now h.lemmas h.own))

  pub pass_hindered : (e : RewriteFault) → Hinders e l passed → Hinders e l (rounds_in a bs A (suc n) ps x k)
  pass_hindered e g =
      hinders_then (λ w m. if has_links (pass_chain w) then normal_round_in a bs A n ps (after_pass x w m) m else Made None m) e l
      (both_swept (attempt_taker th a.gamma.now E H bs A) a.gamma.now x.left x.right k) (hinders_same e l _ passed passed_is g)

  pub pass_ended : (w : Swept × Swept) → passed ≡ Made w l → has_links (pass_chain w) ≡ false → rounds_in a bs A (suc n) ps x k ≡ Made None l
  pass_ended w e none = pass_ends th a.gamma.now E H bs A n ps x w k l (passed_is ∙ e) none

  pub pass_gone : (w : Swept × Swept) (z : Sides) → passed ≡ Made w l → has_links (pass_chain w) ≡ true
      → z ≡ sides_with w.0.whole w.1.whole (chained x.chain (pass_chain w)) 0 → rounds_in a bs A (suc n) ps x k ≡ normal_round_in a bs A n ps z l
  pass_gone w z e some s = pass_goes th a.gamma.now E H bs A n ps x z w k l (passed_is ∙ e) some s

  -- what the normal forms come to, as they are made
  abbrev pub normalised : Work Sides
  normalised = both_normal r.theory r.rules r.assumptions x.left x.right k

  normalised_is : both_normal th (block_rules th E) A x.left x.right k ≡ normalised
  normalised_is = sym (normal_is r th E A h.theory h.rules h.conditions x.left x.right k)

  pub normal_hindered : (e : RewriteFault) → Hinders e l normalised → Hinders e l (normal_round_in a bs A n ps x k)
  normal_hindered e g =
      hinders_then (λ y m. join_round_in a bs A n ps (after_normal x y) m) e l (both_normal th (block_rules th E) A x.left x.right k)
      (hinders_same e l _ normalised normalised_is g)

  pub normal_gone : (y z : Sides) → normalised ≡ Made y l → z ≡ sides_with y.left y.right (chained x.chain y.chain) 0
      → normal_round_in a bs A n ps x k ≡ join_round_in a bs A n ps z l
  normal_gone y z e s = normal_goes th a.gamma.now E H bs A n ps x y z k l (normalised_is ∙ e) s

  -- what Join comes to, as it is made
  abbrev pub joined_so : Work (Option (List Move))
  joined_so = joined_by_content (normaliser_of r) th.signature a.gamma.now H [] x.left x.right k

  joined_is : joined_by_content (condition_normaliser th E A) th.signature a.gamma.now H [] x.left x.right k ≡ joined_so
  joined_is =
      ap (λ f. joined_by_content f th.signature a.gamma.now H [] x.left x.right k) (sym (normaliser_is r th E A h.theory h.rules h.conditions))

  pub join_hindered : (e : RewriteFault) → Hinders e l joined_so → Hinders e l (join_round_in a bs A n ps x k)
  join_hindered e g =
      hinders_then (join_or ps x (rounds_in a bs A n)) e l (joined_by_content (condition_normaliser th E A) th.signature a.gamma.now H [] x.left x.right k)
      (hinders_same e l _ joined_so joined_is g)

  pub join_gone : (o : Option (List Move)) → joined_so ≡ Made o l → join_round_in a bs A n ps x k ≡ join_or ps x (rounds_in a bs A n) o l
  join_gone o e = ap (λ w. work_then w (join_or ps x (rounds_in a bs A n))) (joined_is ∙ e)
