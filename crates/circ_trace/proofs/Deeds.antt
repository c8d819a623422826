-- What a turn does where hypotheses are rules, by what Join, the lemma pass and the attempt come to.
use Rattle.std.proofs.Common.{◌≡◌, ℕ, true, false, if◌then◌else◌, List, [], Option, Result, Ok, Err, refl, ap, sym, subst, ◌∙◌}
use Rattle.std.specs.Prelude.{◌≢◌, IfOk, OnOk}
use Rattle.circ_term.specs.Tree.{Tree}
use Rattle.circ_theory.specs.Theory.{Theory, Pair}
use Rattle.circ_theory.specs.Goal.{Goal}
use Rattle.circ_special.specs.declared.place.Place.{Place}
use Rattle.circ_proof.specs.Plain.{ChainOf}
use Rattle.circ_rewrite.specs.declared.fault.RewriteFault.{RewriteFault}
use Rattle.circ_rewrite.specs.declared.fault.RewriteFault.TheVariants as fault
use Rattle.circ_conditional_norm.specs.Work.{Work}
use Rattle.circ_tries.specs.Trying.{Hinders}
use Rattle.circ_plain_search.specs.Search.{Standing}
use Rattle.circ_conditional_search.specs.Search.{condition_normaliser}
use Rattle.circ_content_join.specs.Joining.{joined_by_content}
use Rattle.circ_content_join.specs.Moves.{Move}
use Rattle.circ_attempt.specs.Attempt.{Stood, has_stood}
use Rattle.circ_attempt.specs.Search.{is_attempted, attempt_here, lemma_pass}
use Rattle.circ_memo.specs.Value.{Rewriting}
use Rattle.circ_join.specs.Trying.{normaliser_of, Works}
use Rattle.circ_turn.specs.Ending.{reducing}
use Rattle.circ_trace.specs.Deed.{Deed, Opens, Ends, deed_by, attempt_deed_by, plain_deed}
use Rattle.circ_trace.specs.RewritingDeed.{attempt_deed, pass_deed, lemma_deed}
use Rattle.circ_trace.specs.declared.account.Deed.{Deed as TheDeed}

-- a deed that is another one
pub same_deed : {E : Type 0} (d e : Deed) → d ≡ e → (r : Result TheDeed E) → IfOk r (λ x. plain_deed x ≡ e) → IfOk r (λ x. plain_deed x ≡ d)
same_deed d e h (Ok x) is = is ∙ sym h
same_deed d e h (Err x) is = tt

-- Join up to content by the rules of a block under the conditions of a goal
pub content_here : {X : Type 0} (view : X → Option (List Move)) (th : Theory) (E : List Goal) (A : List Pair) (red : Rewriting) (G : List Place) (H : List Goal)
    (s t : Tree) (k left : ℕ) (r : Result X RewriteFault) → red ≡ reducing th E A
    → Works view left (joined_by_content (normaliser_of red) th.signature G H [] s t k) r
    → Works view left (joined_by_content (condition_normaliser th E A) th.signature G H [] s t k) r
content_here view th E A red G H s t k left r e h =
    let P : Rewriting → Type 0 = λ x. Works view left (joined_by_content (normaliser_of x) th.signature G H [] s t k) r in subst P e h

-- an attempt that is hindered ends the search
pub attempt_hindered : {E : Type 0} (e : RewriteFault) (left : ℕ) (w : Work (Option (ChainOf Tree))) → Hinders e left w → (r : Result TheDeed E)
    → IfOk r (λ d. plain_deed d ≡ Ends true) → OnOk r (e ≢ fault.Memory) → IfOk r (λ d. plain_deed d ≡ attempt_deed_by w)
attempt_hindered e left w h (Ok d) is n = is ∙ sym (go e h n)
  where
    go : (x : RewriteFault) → Hinders x left w → x ≢ fault.Memory → attempt_deed_by w ≡ Ends true
    go fault.Spent z m = ap attempt_deed_by z.0
    go (fault.TooBig y) z m = ap attempt_deed_by z
    go (fault.TooDeep y) z m = ap attempt_deed_by z
    go fault.Memory z m = absurd (m refl)
attempt_hindered e left w h (Err x) is n = tt

module _ (th : Theory) (G : List Place) (st : Standing) (ps : Stood) (g : Goal) where
  -- a pass was made to this pair, or none was
  pub was_passed : has_stood g.left g.right ps ≡ true → lemma_deed th G st ps g ≡ attempt_deed th G st g
  was_passed e = ap (λ b. if b then attempt_deed th G st g else deed_by (lemma_pass th G st g) (pass_deed th G st g)) e

  pub not_passed : has_stood g.left g.right ps ≡ false → lemma_deed th G st ps g ≡ deed_by (lemma_pass th G st g) (pass_deed th G st g)
  not_passed e = ap (λ b. if b then attempt_deed th G st g else deed_by (lemma_pass th G st g) (pass_deed th G st g)) e

module _ (th : Theory) (G : List Place) (st : Standing) (g : Goal) where
  -- an attempt is made, or none is
  pub is_made : is_attempted th st g ≡ true → attempt_deed th G st g ≡ attempt_deed_by (attempt_here th G st g)
  is_made e = ap (λ b. if b then attempt_deed_by (attempt_here th G st g) else Opens false) e

  pub is_not_made : is_attempted th st g ≡ false → attempt_deed th G st g ≡ Opens false
  is_not_made e = ap (λ b. if b then attempt_deed_by (attempt_here th G st g) else Opens false) e
