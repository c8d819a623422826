-- Turns with hypotheses as rules, in steps.
use Rattle.std.proofs.Common.{◌≡◌, ℕ, ◌<◌, Bool, true, false, if◌then◌else◌, List, [], ◌∷◌, ◌++◌, map, drop, length, Option, Some, Result, Ok, Err, refl, ap, sym, subst, ◌∙◌, arith}
use Rattle.std.specs.Prelude.{IfOk}
use Rattle.std.specs.Bool.{OnTrue}
use Rattle.circ_term.specs.Tree.{Tree}
use Rattle.circ_theory.specs.Theory.{Theory, Pair, goal}
use Rattle.circ_theory.specs.Goal.{Goal}
use Rattle.circ_special.specs.declared.place.Place.{Place}
use Rattle.circ_proof.specs.Plain.{ChainOf, WhyOf, Same_why}
use Rattle.circ_conditional_norm.specs.Work.{Made}
use Rattle.circ_plain_search.specs.BlockRules.{block_rules}
use Rattle.circ_plain_search.specs.Joining.{and_then}
use Rattle.circ_plain_search.specs.Search.{Limits, Standing, Ending, All_done, Sides, chain_with, chained, has_links, or_end, done_turn}
use Rattle.circ_conditional_search.specs.Joining.{Swept}
use Rattle.circ_conditional_search.specs.Search.{Manner, condition_normaliser, normal_sides_trying, with_sides_of, goal_reduced, open_turn_trying, pass_chain, passed_sides, worked}
use Rattle.circ_content_join.specs.Joining.{joined_by_content}
use Rattle.circ_content_join.specs.Moves.{Move, make_all, move_link}
use Rattle.circ_attempt.specs.Attempt.{Stood, has_stood}
use Rattle.circ_attempt.specs.Search.{Going, going, afresh, is_attempted, attempt_here, attempted_turn, attempt_turn, lemma_pass, after_pass_turn, pass_turn_rewriting, join_turn_rewriting, sides_turn_rewriting, goal_turn_rewriting, turn_rewriting_at, turn_rewriting}
use Rattle.circ_attempt.specs.Following.{GoesOn, Begins}
use Rattle.circ_attempt.specs.Passes.{both_swept}
use Rattle.circ_attempt.proofs.Following.{goal_follows, done_follows}
use Rattle.circ_attempt.specs.Rules.{HypothesisRule, lemmas_of, first_rule_use}
use Rattle.circ_join.specs.Trying.{normaliser_of, Works}
use Rattle.circ_memo.specs.Value.{Rewriting}
use Rattle.circ_rewrite.specs.declared.fault.RewriteFault.{RewriteFault}
use Rattle.circ_turn.specs.Standing.{unlinked, with_budget}
use Rattle.circ_turn.specs.Ending.{EndsAs, GoesTo, RunEnds, reducing}
use Rattle.circ_turn.specs.declared.end.End.{End}
use Rattle.circ_turn.specs.declared.end.End.TheVariants as end
use Rattle.circ_turn.proofs.Turning.{ends_then, goes_same, reduced_unlinked}
use Rattle.circ_rewriting_turn.specs.Going.{TurnsTo, TurnsToOrDone}

-- a run that ends for want of memory says nothing
pub memory_ends : {X : Type 0} (R : Ending → Type 0) (st : Standing) (r : Result X End) → (e : End) × (r ≡ Err e) × (e ≡ end.Memory) → RunEnds R st r
memory_ends {X = X} R st r p = let P : Result X End → Type 0 = λ x. RunEnds R st x in subst P (sym (p.1 ∙ ap Err p.2)) tt

-- what a turn tells that goes on
pub tells_next : (r : Result Going Ending) (y : Going) (q : Result Bool End) (b : Bool) → q ≡ Ok b → b ≡ true → TurnsToOrDone r y q → r ≡ Ok y
tells_next r y q b e f h = let P : Result Bool End → Type 0 = λ x. TurnsToOrDone r y x in subst P (e ∙ ap (λ (d : Bool). Ok d) f) h

pub holds_next : (P : Type 0) (q : Result Bool End) (b : Bool) → q ≡ Ok b → b ≡ true → IfOk q (λ d. OnTrue d P) → P
holds_next P q b e f h = let Q : Result Bool End → Type 0 = λ x. IfOk x (λ d. OnTrue d P) in subst Q (e ∙ ap (λ (d : Bool). Ok d) f) h

-- what the last turn tells
pub tells_done : (r : Result Going Ending) (y : Going) (q : Result Bool End) (b : Bool) → q ≡ Ok b → b ≡ false → TurnsToOrDone r y q
    → r ≡ Err (All_done y.standing.finished y.standing.derives y.standing.made y.standing.deep)
tells_done r y q b e f h = let P : Result Bool End → Type 0 = λ x. TurnsToOrDone r y x in subst P (e ∙ ap (λ (d : Bool). Ok d) f) h

pub tells_end : (r : Result Going Ending) (y : Going) (q : Result Bool End) (e : End) → q ≡ Err e → TurnsToOrDone r y q → EndsAs r e
tells_end r y q e is h = let P : Result Bool End → Type 0 = λ x. TurnsToOrDone r y x in subst P is h

-- a goal that is done with goes on afresh
pub goes_afresh : {X : Type 0} (r : Result Standing Ending) (st : Standing) (x : Result X End) → GoesTo r st x → TurnsTo (afresh r) (going st []) x
goes_afresh r st (Ok v) h = ap afresh h
goes_afresh r st (Err e) h = ends_then e r (λ y. Ok (going y [])) h

pub goes_on_same : {X : Type 0} (r q : Result Going Ending) (y : Going) (x : Result X End) → r ≡ q → TurnsTo q y x → TurnsTo r y x
goes_on_same r q y x s h = let P : Result Going Ending → Type 0 = λ z. TurnsTo z y x in subst P (sym s) h

-- the goal is reduced where its links have been taken
pub reduced_goes : {X : Type 0} (th : Theory) (l : Limits) (st mid : Standing) (rest : List Goal) (why w : WhyOf Tree) (new : Standing) (r : Result X End)
    → mid ≡ unlinked st → w ≡ why → GoesTo (goal_reduced th l mid rest w) new r → GoesTo (goal_reduced th l st rest why) new r
reduced_goes th l st mid rest why w new r m e h =
    goes_same (goal_reduced th l st rest why) (goal_reduced th l mid rest w) new r
    (sym (reduced_unlinked th l st rest why) ∙ ap (goal_reduced th l (unlinked st) rest) (sym e) ∙ ap (λ x. goal_reduced th l x rest w) (sym m)) h

module _ (th : Theory) (G : List Place) (m : Manner) where
  -- where an attempt is made
  pub attempt_goes : {X : Type 0} (st : Standing) (g : Goal) (rest : List Goal) (o : Option (ChainOf Tree)) (k : ℕ) (new : Standing) (r : Result X End)
      → is_attempted th st g ≡ true → attempt_here th G st g ≡ Made o k → GoesTo (attempted_turn th m (with_budget st k) g rest o) new r
      → GoesTo (attempt_turn th G m st g rest) new r
  attempt_goes st g rest o k new r holds made h =
      goes_same (attempt_turn th G m st g rest) (attempted_turn th m (with_budget st k) g rest o) new r
      (ap (λ b. if b then worked m.limits st (attempt_here th G st g) (λ o x. attempted_turn th m x g rest o) else open_turn_trying th m st g rest) holds
      ∙ ap (λ w. worked m.limits st w (λ o x. attempted_turn th m x g rest o)) made)
      h

  -- and where none is made
  pub no_attempt : (st : Standing) (g : Goal) (rest : List Goal) → is_attempted th st g ≡ false → attempt_turn th G m st g rest ≡ open_turn_trying th m st g rest
  no_attempt st g rest fails =
      ap (λ b. if b then worked m.limits st (attempt_here th G st g) (λ o x. attempted_turn th m x g rest o) else open_turn_trying th m st g rest) fails

  -- a pair to which a pass was made
  pub passed_goes : (st : Standing) (ps : Stood) (g : Goal) (rest : List Goal) → has_stood g.left g.right ps ≡ true
      → pass_turn_rewriting th G m st ps g rest ≡ afresh (attempt_turn th G m st g rest)
  passed_goes st ps g rest holds =
      ap (λ b. if b then afresh (attempt_turn th G m st g rest) else worked m.limits st (lemma_pass th G st g) (after_pass_turn th G m ps g rest)) holds

  not_passed : (st : Standing) (ps : Stood) (g : Goal) (rest : List Goal) → has_stood g.left g.right ps ≡ false
      → pass_turn_rewriting th G m st ps g rest ≡ worked m.limits st (lemma_pass th G st g) (after_pass_turn th G m ps g rest)
  not_passed st ps g rest fails =
      ap (λ b. if b then afresh (attempt_turn th G m st g rest) else worked m.limits st (lemma_pass th G st g) (after_pass_turn th G m ps g rest)) fails

  pub pass_goes : {X : Type 0} (st : Standing) (ps : Stood) (g : Goal) (rest : List Goal) (w : Swept × Swept) (k : ℕ) (y : Going) (r : Result X End)
      → has_stood g.left g.right ps ≡ false → lemma_pass th G st g ≡ Made w k → TurnsTo (after_pass_turn th G m ps g rest w (with_budget st k)) y r
      → TurnsTo (pass_turn_rewriting th G m st ps g rest) y r
  pass_goes st ps g rest w k y r fails made h =
      goes_on_same _ (after_pass_turn th G m ps g rest w (with_budget st k)) y r
      (not_passed st ps g rest fails ∙ ap (λ v. worked m.limits st v (after_pass_turn th G m ps g rest)) made) h

  pub pass_ends : (st : Standing) (ps : Stood) (g : Goal) (rest : List Goal) (e : End) → has_stood g.left g.right ps ≡ false
      → EndsAs (worked m.limits st (lemma_pass th G st g) (after_pass_turn th G m ps g rest)) e → EndsAs (pass_turn_rewriting th G m st ps g rest) e
  pass_ends st ps g rest e fails h =
      let P : Result Going Ending → Type 0 = λ z. EndsAs z e in subst P (sym (not_passed st ps g rest fails)) h

  -- a pass that replaces nothing, and one that replaces something
  pub nothing_swept : (st : Standing) (ps : Stood) (g : Goal) (rest : List Goal) (w : Swept × Swept) → has_links (pass_chain w) ≡ false
      → after_pass_turn th G m ps g rest w st ≡ afresh (attempt_turn th G m st g rest)
  nothing_swept st ps g rest w fails =
      ap (λ b. if b then Ok (going (with_sides_of st g rest (passed_sides w st.budget)) ((g.left, g.right) ∷ ps)) else afresh (attempt_turn th G m st g rest)) fails

  pub something_swept : (st : Standing) (ps : Stood) (g : Goal) (rest : List Goal) (w : Swept × Swept) → has_links (pass_chain w) ≡ true
      → after_pass_turn th G m ps g rest w st ≡ Ok (going (with_sides_of st g rest (passed_sides w st.budget)) ((g.left, g.right) ∷ ps))
  something_swept st ps g rest w holds =
      ap (λ b. if b then Ok (going (with_sides_of st g rest (passed_sides w st.budget)) ((g.left, g.right) ∷ ps)) else afresh (attempt_turn th G m st g rest)) holds

  -- what is made of the goal where it is known whether its sides join
  pub sides_go : {X : Type 0} (st : Standing) (ps : Stood) (g : Goal) (rest : List Goal) (o : Option (List Move)) (k : ℕ) (y : Going) (r : Result X End)
      → joined_by_content (condition_normaliser th st.earlier g.conds) th.signature G st.hypotheses [] g.left g.right st.budget ≡ Made o k
      → TurnsTo (join_turn_rewriting th G m ps g rest o (with_budget st k)) y r → TurnsTo (sides_turn_rewriting th G m st ps g rest) y r
  sides_go st ps g rest o k y r made h =
      goes_on_same _ (join_turn_rewriting th G m ps g rest o (with_budget st k)) y r
      (ap (λ v. worked m.limits st v (join_turn_rewriting th G m ps g rest)) made) h

  -- the moves of a Join
  pub moves_go : {X : Type 0} (st : Standing) (ps : Stood) (g : Goal) (rest : List Goal) (vs : List Move) (u : Tree) (new : Standing) (r : Result X End)
      → make_all g.left vs ≡ Ok u → GoesTo (goal_reduced th m.limits st rest (Same_why (chained st.chain (chain_with (map move_link vs) [])))) new r
      → TurnsTo (join_turn_rewriting th G m ps g rest (Some vs) st) (going new []) r
  moves_go st ps g rest vs u new r made h =
      let why : WhyOf Tree = Same_why (chained st.chain (chain_with (map move_link vs) [])) in
      goes_afresh (and_then (or_end m.limits st (make_all g.left vs)) (λ u. goal_reduced th m.limits st rest why)) new r
      (goes_same _ (goal_reduced th m.limits st rest why) new r (ap (λ x. and_then (or_end m.limits st x) (λ u. goal_reduced th m.limits st rest why)) made) h)

  pub goal_goes_on : (st : Standing) (ps : Stood) (g : Goal) (rest : List Goal) (n : Sides)
      → normal_sides_trying th (block_rules th st.earlier) g.conds g.left g.right st.budget ≡ Ok n
      → goal_turn_rewriting th G m st ps g rest ≡ sides_turn_rewriting th G m (with_sides_of st g rest n) ps (goal g.conds n.left n.right) rest
  goal_goes_on st ps g rest n e =
      ap (λ x. and_then (or_end m.limits st x) (λ n. sides_turn_rewriting th G m (with_sides_of st g rest n) ps (goal g.conds n.left n.right) rest)) e

  pub goal_turn_goes_on : {X : Type 0} (st : Standing) (ps : Stood) (g : Goal) (rest : List Goal) (h : Goal) (n : Sides) (y : Going) (r : Result X End)
      → normal_sides_trying th (block_rules th st.earlier) g.conds g.left g.right st.budget ≡ Ok n → h.conds ≡ g.conds → n.left ≡ h.left → n.right ≡ h.right
      → TurnsTo (sides_turn_rewriting th G m (with_sides_of st h rest n) ps h rest) y r → TurnsTo (goal_turn_rewriting th G m st ps g rest) y r
  goal_turn_goes_on {X = X} st ps g rest h n y r e cs ls rs k =
      let whole : h ≡ goal g.conds n.left n.right = ap (λ c. goal c h.left h.right) cs ∙ ap (λ t. goal g.conds t h.right) (sym ls) ∙ ap (goal g.conds n.left) (sym rs) in
      let P : Goal → Type 0 = λ q. TurnsTo {X = X} (sides_turn_rewriting th G m (with_sides_of st q rest n) ps q rest) y r in
      goes_on_same _ (sides_turn_rewriting th G m (with_sides_of st g rest n) ps (goal g.conds n.left n.right) rest) y r (goal_goes_on st ps g rest n e)
      (subst P whole k)

  -- the goal in hand is the first of the queue as it stands now
  pub normal_turn_goes_on : {X : Type 0} (mid : Standing) (ps : Stood) (g : Goal) (rest : List Goal) (Q : List Goal) (at : Standing) (y : Going) (r : Result X End)
      → at ≡ mid → Q ≡ at.queue → drop 1 mid.queue ≡ rest → TurnsTo (sides_turn_rewriting th G m at ps g (drop 1 Q)) y r
      → TurnsTo (sides_turn_rewriting th G m mid ps g rest) y r
  normal_turn_goes_on {X = X} mid ps g rest Q at y r e queue d h =
      let tail : drop 1 Q ≡ rest = ap (drop 1) (queue ∙ ap (λ x. x.queue) e) ∙ d in
      let P : List Goal → Type 0 = λ x. TurnsTo {X = X} (sides_turn_rewriting th G m at ps g x) y r in
      let M : Standing → Type 0 = λ x. TurnsTo {X = X} (sides_turn_rewriting th G m x ps g rest) y r in
      subst M e (subst P tail h)

-- a lemma pass by the rules of a block under the conditions of a goal
pub pass_here : {X : Type 0} (view : X → Swept × Swept) (th : Theory) (E : List Goal) (A : List Pair) (red : Rewriting) (lemmas none : List HypothesisRule) (G : List Place)
    (s t : Tree) (k left : ℕ) (r : Result X RewriteFault) → red ≡ reducing th E A → lemmas ≡ lemmas_of th 0 E → none ≡ []
    → Works view left (both_swept (first_rule_use (normaliser_of red) (lemmas ++ none)) G s t k) r
    → Works view left (both_swept (first_rule_use (condition_normaliser th E A) (lemmas_of th 0 E)) G s t k) r
pass_here view th E A red lemmas none G s t k left r e l n h =
    let lists : lemmas ++ none ≡ lemmas_of th 0 E = ap (λ x. lemmas ++ x) n ∙ nil_right lemmas ∙ l in
    let P : List HypothesisRule → Type 0 = λ x. Works view left (both_swept (first_rule_use (normaliser_of red) x) G s t k) r in
    let Q : Rewriting → Type 0 = λ x. Works view left (both_swept (first_rule_use (normaliser_of x) (lemmas_of th 0 E)) G s t k) r in
    subst Q e (subst P lists h)
  where
    nil_right : (xs : List HypothesisRule) → xs ++ [] ≡ xs
    nil_right [] = refl
    nil_right (x ∷ xs) = ap (λ r. x ∷ r) (nil_right xs)

-- a turn on the first goal of the queue, and one at the end of a block
pub front_turns : (th : Theory) (G : List Place) (m : Manner) (st : Standing) (ps : Stood) (g : Goal) (rest : List Goal) → st.queue ≡ g ∷ rest
    → turn_rewriting th G (record { manner = m; rewrite = true }) (going st ps) ≡ goal_turn_rewriting th G m st ps g rest
front_turns th G m st ps g rest e = ap (turn_rewriting_at th G m st ps) e

pub empty_turns : (th : Theory) (G : List Place) (m : Manner) (st : Standing) (ps : Stood) → st.queue ≡ []
    → turn_rewriting th G (record { manner = m; rewrite = true }) (going st ps) ≡ afresh (done_turn th m.limits st)
empty_turns th G m st ps e = ap (turn_rewriting_at th G m st ps) e

pub some_front : {X : Type 0} (Q : List X) → 0 < length Q → (g : X) × (Q ≡ g ∷ drop 1 Q)
some_front [] e = absurd (omega (arith, e))
some_front (g ∷ Q) e = (g, refl)

module _ (th : Theory) (G : List Place) (m : Manner) (st : Standing) (ps : Stood) (next : Going) (some : 0 < length st.queue)
    (turned : (g : Goal) (rest : List Goal) → st.queue ≡ g ∷ rest → goal_turn_rewriting th G m st ps g rest ≡ Ok next) where
  -- what a turn on the first goal comes to
  pub front_turned : turn_rewriting th G (record { manner = m; rewrite = true }) (going st ps) ≡ Ok next
  front_turned = let f = some_front st.queue some in front_turns th G m st ps f.0 (drop 1 st.queue) f.1 ∙ turned f.0 (drop 1 st.queue) f.1

  -- and what it adds to the block
  pub front_more : GoesOn st next.standing
  front_more =
      let f = some_front st.queue some in goal_follows th G (record { manner = m; rewrite = true }) (going st ps) next front_turned f.0 (drop 1 st.queue) f.1

module _ (th : Theory) (G : List Place) (m : Manner) (st : Standing) (ps : Stood) (next : Standing) (none : st.queue ≡ []) (done : done_turn th m.limits st ≡ Ok next) where
  -- what the end of a block comes to
  pub block_turned : turn_rewriting th G (record { manner = m; rewrite = true }) (going st ps) ≡ Ok (going next [])
  block_turned = empty_turns th G m st ps none ∙ ap afresh done

  -- and what begins there
  pub block_begins : Begins st next
  block_begins = done_follows th G (record { manner = m; rewrite = true }) (going st ps) (going next []) block_turned none
