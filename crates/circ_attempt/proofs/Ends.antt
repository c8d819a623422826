-- The search ends with every goal done only behind the last block's Done, and each block is whole then.
use Rattle.std.proofs.Common.{◌≡◌, ℕ, Bool, true, false, if◌then◌else◌, List, [], ◌∷◌, map, Option, Some, None, Result, Ok, Err, refl, ap, ◌∙◌}
use Rattle.std.specs.List.{AllByRecursion}
use Rattle.circ_term.specs.Tree.{Tree}
use Rattle.circ_theory.specs.Theory.{Theory, goal}
use Rattle.circ_theory.specs.WellFormed.{IsWellFormed}
use Rattle.circ_theory.specs.Goal.{Goal}
use Rattle.circ_special.specs.declared.place.Place.{Place}
use Rattle.circ_proof.specs.Plain.{ChainOf, Same_why}
use Rattle.circ_proof.specs.Rules.{Done}
use Rattle.circ_plain_search.specs.BlockRules.{block_rules}
use Rattle.circ_plain_search.specs.Joining.{and_then}
use Rattle.circ_plain_search.specs.Search.{ProvedBlock, Standing, Ending, All_done, chain_with, chained, has_links, next_block}
use Rattle.circ_plain_search.proofs.Ends.{same_Err}
use Rattle.circ_plain_search.proofs.Runs.{half}
use Rattle.circ_conditional_search.specs.Joining.{Swept}
use Rattle.circ_conditional_search.specs.Search.{Manner, condition_normaliser, normal_sides_trying, step_recorded, with_sides_of, goal_reduced, open_turn_trying, worked, pass_chain, passed_sides, turn_trying}
use Rattle.circ_conditional_search.proofs.Derived.{FineGoals}
use Rattle.circ_conditional_search.proofs.Ends.{NotDone, not_then, not_ended, not_ok, not_recorded, not_reduced, not_open, not_worked, last_whole, turn_whole, start_opened}
use Rattle.circ_conditional_search.proofs.Runs.{Opened, Whole}
use Rattle.circ_conditional_search.proofs.Turns.{done_is_whole}
use Rattle.circ_content_join.specs.Joining.{joined_by_content}
use Rattle.circ_content_join.specs.Moves.{Move, move_link, make_all}
use Rattle.circ_attempt.specs.Attempt.{Stood, has_stood}
use Rattle.circ_attempt.specs.RewritingSearch.{first_going}
use Rattle.circ_attempt.specs.Search.{Conduct, Going, going, afresh, is_attempted, attempt_here, attempted_turn, attempt_turn, lemma_pass, after_pass_turn, pass_turn_rewriting, join_turn_rewriting, sides_turn_rewriting, goal_turn_rewriting, turn_rewriting_at, turn_rewriting, FinishesRewriting, stops_so, goes_on_so}
use Rattle.circ_attempt.proofs.Turns.{keeps_good}

not_afresh : (r : Result Standing Ending) → NotDone r → NotDone (afresh r)
not_afresh r n = not_then r (λ st. Ok (going st [])) n (λ st. not_ok (going st []))

-- what ends a part of a turn ends the turn
pub afresh_ends : (r : Result Standing Ending) (e : Ending) → afresh r ≡ Err e → r ≡ Err e
afresh_ends (Ok st) e z = absurd (cc)
afresh_ends (Err x) e z = ap Err (same_Err x e z)

module _ (th : Theory) (G : List Place) (m : Manner) where
  not_attempted : (st : Standing) (g : Goal) (rest : List Goal) (o : Option (ChainOf Tree)) → NotDone (attempted_turn th m st g rest o)
  not_attempted st g rest (Some c) = not_reduced th G m st rest (Same_why (chained st.chain c))
  not_attempted st g rest None = not_open th G m st g rest

  not_attempt : (st : Standing) (g : Goal) (rest : List Goal) → NotDone (attempt_turn th G m st g rest)
  not_attempt st g rest = go (is_attempted th st g)
    where
      go : (v : Bool) → NotDone (if v then worked m.limits st (attempt_here th G st g) (λ o x. attempted_turn th m x g rest o) else open_turn_trying th m st g rest)
      go true = not_worked th G m st (attempt_here th G st g) (λ o x. attempted_turn th m x g rest o) (λ o x. not_attempted x g rest o)
      go false = not_open th G m st g rest

  not_after_pass : (ps : Stood) (g : Goal) (rest : List Goal) (w : Swept × Swept) (x : Standing) → NotDone (after_pass_turn th G m ps g rest w x)
  not_after_pass ps g rest w x = go (has_links (pass_chain w))
    where
      next : Going
      next = going (with_sides_of x g rest (passed_sides w x.budget)) ((g.left, g.right) ∷ ps)

      go : (b : Bool) → NotDone (if b then Ok next else afresh (attempt_turn th G m x g rest))
      go true = not_ok next
      go false = not_afresh (attempt_turn th G m x g rest) (not_attempt x g rest)

  not_pass : (st : Standing) (ps : Stood) (g : Goal) (rest : List Goal) → NotDone (pass_turn_rewriting th G m st ps g rest)
  not_pass st ps g rest = go (has_stood g.left g.right ps)
    where
      go : (b : Bool) → NotDone (if b then afresh (attempt_turn th G m st g rest) else worked m.limits st (lemma_pass th G st g) (after_pass_turn th G m ps g rest))
      go true = not_afresh (attempt_turn th G m st g rest) (not_attempt st g rest)
      go false = not_worked th G m st (lemma_pass th G st g) (after_pass_turn th G m ps g rest) (not_after_pass ps g rest)

  not_joined : (st : Standing) (ps : Stood) (g : Goal) (rest : List Goal) (o : Option (List Move)) → NotDone (join_turn_rewriting th G m ps g rest o st)
  not_joined st ps g rest (Some vs) =
      not_afresh _ (not_then _ (λ u. goal_reduced th m.limits st rest (Same_why (chained st.chain (chain_with (map move_link vs) [])))) (not_ended m.limits st (make_all g.left vs))
      (λ u. not_reduced th G m st rest (Same_why (chained st.chain (chain_with (map move_link vs) [])))))
  not_joined st ps g rest None = not_pass st ps g rest

  not_goal : (st : Standing) (ps : Stood) (g : Goal) (rest : List Goal) → NotDone (goal_turn_rewriting th G m st ps g rest)
  not_goal st ps g rest =
      not_then _ (λ n. sides_turn_rewriting th G m (with_sides_of st g rest n) ps (goal g.conds n.left n.right) rest)
      (not_ended m.limits st (normal_sides_trying th (block_rules th st.earlier) g.conds g.left g.right st.budget))
      (λ n. not_worked th G m (with_sides_of st g rest n)
      (joined_by_content (condition_normaliser th st.earlier g.conds) th.signature G st.hypotheses [] n.left n.right n.budget)
      (join_turn_rewriting th G m ps (goal g.conds n.left n.right) rest) (λ o x. not_joined x ps (goal g.conds n.left n.right) rest o))

module _ (th : Theory) (wf : IsWellFormed th) (G : List Place) (l : Conduct) (blocks : List (List Goal)) where
  abbrev m : Manner
  m = l.manner

  ends_whole : (x : Going) (bs : List ProvedBlock) (d n : ℕ) (b : Bool) → Opened th G blocks x.standing x.standing.queue
      → turn_rewriting th G l x ≡ Err (All_done bs d n b) → Whole th G blocks bs [] b n d
  ends_whole x bs d n b h e = flag l.rewrite e
    where
      st : Standing
      st = x.standing

      last : (r : Result Standing Ending) → Opened th G blocks st [] → step_recorded th m.limits st Done ≡ r
          → and_then r (λ z. next_block z z.later) ≡ Err (All_done bs d n b) → Whole th G blocks bs [] b n d
      last (Ok y) o f z = last_whole th wf G m blocks y y.later bs d n b (done_is_whole th wf G m blocks st y o f) z
      last (Err y) o f z =
          absurd (not_recorded th G m st Done bs d n b (f ∙ (let s : y ≡ All_done bs d n b = same_Err y (All_done bs d n b) z in ap Err s)))

      go : (Q : List Goal) → Opened th G blocks st Q → turn_rewriting_at th G m st x.passed Q ≡ Err (All_done bs d n b) → Whole th G blocks bs [] b n d
      go [] o z = last (step_recorded th m.limits st Done) o refl (afresh_ends _ (All_done bs d n b) z)
      go (g ∷ rest) o z = absurd (not_goal th G m st x.passed g rest bs d n b z)

      flag : (v : Bool) → (if v then turn_rewriting_at th G m st x.passed st.queue else afresh (turn_trying th G m st)) ≡ Err (All_done bs d n b)
          → Whole th G blocks bs [] b n d
      flag true z = go st.queue h z
      flag false z = turn_whole th wf G m blocks st bs d n b h (afresh_ends (turn_trying th G m st) (All_done bs d n b) z)

  finish_whole : (x : Going) (e : Ending) → Opened th G blocks x.standing x.standing.queue → FinishesRewriting th G l x e → (bs : List ProvedBlock) (d n : ℕ) (b : Bool)
      → e ≡ All_done bs d n b → Whole th G blocks bs [] b n d
  finish_whole x e h (stops_so _ _ t) bs d n b it = ends_whole x bs d n b h (t ∙ ap Err it)
  finish_whole x e h (goes_on_so _ y _ t r) bs d n b it = finish_whole y e (keeps_good th wf G l blocks x y h t) r bs d n b it

-- A search that ends with every goal done has proved each of the given blocks.
pub search_whole : (th : Theory) → IsWellFormed th → (G : List Place) (l : Conduct) (b : List Goal) (bs : List (List Goal)) → FineGoals th half b
    → AllByRecursion (FineGoals th half) bs → (found : List ProvedBlock) (d n : ℕ) (x : Bool)
    → FinishesRewriting th G l (first_going l (b ∷ bs)) (All_done found d n x) → Whole th G (b ∷ bs) found [] x n d
search_whole th wf G l b bs fb fbs found d n x r =
    finish_whole th wf G l (b ∷ bs) (first_going l (b ∷ bs)) (All_done found d n x) (start_opened th G l.manner.limits b bs fb fbs) r found d n x refl
