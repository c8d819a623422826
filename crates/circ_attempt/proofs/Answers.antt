-- A search ends in one way, and it ends.
use Rattle.std.proofs.Common.{◌≡◌, ℕ, zero, suc, ◌+◌, ◌-◌, ◌≤◌, ◌<◌, Bool, true, false, if◌then◌else◌, List, [], ◌∷◌, ◌++◌, map, length, Option, Some, None, Result, Ok, Err, refl, sym, subst, ◌∙◌, arith, length-append}
use Rattle.std.proofs.lemmas.List.{length-map}
use Rattle.circ_term.specs.Tree.{Tree}
use Rattle.circ_theory.specs.Theory.{Theory, goal}
use Rattle.circ_theory.specs.Goal.{Goal}
use Rattle.circ_special.specs.declared.place.Place.{Place}
use Rattle.circ_proof.specs.Plain.{ChainOf, Same_why}
use Rattle.circ_proof.specs.Proof.{step_limit}
use Rattle.circ_proof.specs.Rules.{Done}
use Rattle.circ_conditional_norm.specs.Work.{Work, Made, Out, Past}
use Rattle.circ_plain_search.specs.BlockRules.{block_rules}
use Rattle.circ_plain_search.specs.Joining.{use_link}
use Rattle.circ_plain_search.specs.Search.{Standing, Ending, Sides, chain_with, chained, or_end, has_links, next_block}
use Rattle.circ_plain_search.proofs.Ends.{same_Err}
use Rattle.circ_plain_search.proofs.Turns.{if_ended}
use Rattle.circ_plain_search.proofs.Uses.{Through, through, same_Ok}
use Rattle.circ_conditional_search.specs.Joining.{Swept}
use Rattle.circ_conditional_search.specs.Search.{Manner, condition_normaliser, normal_sides_trying, step_recorded, with_sides_of, goal_reduced, open_turn_trying, worked, pass_chain, passed_sides, turn_trying}
use Rattle.circ_conditional_search.proofs.Answers.{measure, sides_fall, recorded_less, reduced_less, open_less, cond_falls, some_links, next_less, turn_less}
use Rattle.circ_conditional_search.proofs.Turns.{worked_is}
use Rattle.circ_content_join.specs.Joining.{joined_by_content}
use Rattle.circ_content_join.specs.Moves.{Move, move_link, make_all}
use Rattle.circ_content_join.proofs.Falls.{joined_leaves}
use Rattle.circ_attempt.specs.Attempt.{Stood, has_stood}
use Rattle.circ_attempt.specs.Rules.{lemmas_of, first_rule_use}
use Rattle.circ_attempt.specs.Search.{Conduct, Going, going, afresh, of_script, is_attempted, attempt_here, attempted_turn, attempt_turn, lemma_pass, after_pass_turn, pass_turn_rewriting, join_turn_rewriting, sides_turn_rewriting, goal_turn_rewriting, turn_rewriting_at, turn_rewriting, FinishesRewriting, stops_so, goes_on_so}
use Rattle.circ_attempt.proofs.Falling.{BothPaid, rules_leave, both_paid, attempt_leaves}
use Rattle.circ_attempt.proofs.Parts.{leaves_made}
use Rattle.circ_attempt.proofs.Turns.{afresh_is}

pub one_ending : (th : Theory) (G : List Place) (l : Conduct) (x : Going) (e f : Ending) → FinishesRewriting th G l x e → FinishesRewriting th G l x f → e ≡ f
one_ending th G l x e f (stops_so _ _ t) (stops_so _ _ u) = same_Err e f (sym t ∙ u)
one_ending th G l x e f (stops_so _ _ t) (goes_on_so _ y _ u s) = absurd (let z : Err e ≡ Ok y = sym t ∙ u in cc)
one_ending th G l x e f (goes_on_so _ y _ t r) (stops_so _ _ u) = absurd (let z : Ok y ≡ Err f = sym t ∙ u in cc)
one_ending th G l x e f (goes_on_so _ y _ t r) (goes_on_so _ z _ u s) =
    let is : y ≡ z = same_Ok y z (sym t ∙ u) in
    let P : Going → Type 0 = λ v. FinishesRewriting th G l v e in
    one_ending th G l z e f (subst P is r) s

paid_for : (k : ℕ) (w : Work (Swept × Swept)) → BothPaid k w → (v : Swept × Swept) (l : ℕ) → w ≡ Made v l → l + length (v.0.uses ++ v.1.uses) ≤ k
paid_for k (Made a j) h v l e =
    let same : j ≡ l = cc in
    let is : a ≡ v = cc in
    let P : Swept × Swept → Type 0 = λ x. l + length (x.0.uses ++ x.1.uses) ≤ k in
    subst P is (omega (arith, h, same))
paid_for k Out h v l e = absurd (cc)
paid_for k (Past x j) h v l e = absurd (cc)

module _ (th : Theory) (G : List Place) (l : Conduct) where
  abbrev m : Manner
  m = l.manner

  attempted_less : (st : Standing) (g : Goal) (rest : List Goal) (o : Option (ChainOf Tree)) (y : Standing) → attempted_turn th m st g rest o ≡ Ok y → measure y < measure st
  attempted_less st g rest (Some c) y e = reduced_less th G m st rest (Same_why (chained st.chain c)) y e
  attempted_less st g rest None y e = open_less th G m st g rest y e

  attempt_less : (st : Standing) (g : Goal) (rest : List Goal) (y : Standing) → attempt_turn th G m st g rest ≡ Ok y → measure y < measure st
  attempt_less st g rest y e = go (is_attempted th st g) e
    where
      go : (v : Bool)
          → (if v then worked m.limits st (attempt_here th G st g) (λ o x. attempted_turn th m x g rest o) else open_turn_trying th m st g rest) ≡ Ok y
          → measure y < measure st
      go true z =
          let r = worked_is m.limits st (attempt_here th G st g) (λ o x. attempted_turn th m x g rest o) y z in
          let falls = attempt_leaves th G st.earlier st.hypotheses (of_script th st) g.conds g.left g.right st.budget in
          let j = leaves_made st.budget (attempt_here th G st g) falls r.0 r.1 r.2 in
          let t = attempted_less (record st { budget = r.1 }) g rest r.0 y r.3 in
          omega (arith, j, t)
      go false z = open_less th G m st g rest y z

  after_pass_less : (st : Standing) (g : Goal) (rest : List Goal) (ps : Stood) (w : Swept × Swept) (k : ℕ) (y : Going) → k + length (w.0.uses ++ w.1.uses) ≤ st.budget
      → after_pass_turn th G m ps g rest w (record st { budget = k }) ≡ Ok y → measure y.standing < measure st
  after_pass_less st g rest ps w k y s e = go (has_links (pass_chain w)) refl e
    where
      n : Sides
      n = passed_sides w k

      x : Standing
      x = record st { budget = k }

      go : (b : Bool) → has_links (pass_chain w) ≡ b
          → (if b then Ok (going (with_sides_of x g rest n) ((g.left, g.right) ∷ ps)) else afresh (attempt_turn th G m x g rest)) ≡ Ok y → measure y.standing < measure st
      go true h z =
          let P : Going → Type 0 = λ d. measure d.standing < measure st in
          let some = some_links th G m (map use_link w.0.uses ++ map use_link w.1.uses) h in
          let a = length-append (map use_link w.0.uses) (map use_link w.1.uses) in
          let b = length-append w.0.uses w.1.uses in
          let c = length-map w.0.uses use_link in
          let d = length-map w.1.uses use_link in
          subst P (same_Ok (going (with_sides_of x g rest n) ((g.left, g.right) ∷ ps)) y z) (omega (arith, s, some, a, b, c, d))
      go false h z = let r = attempt_less x g rest y.standing (afresh_is (attempt_turn th G m x g rest) y z) in omega (arith, r, s)

  pass_less : (st : Standing) (ps : Stood) (g : Goal) (rest : List Goal) (y : Going) → pass_turn_rewriting th G m st ps g rest ≡ Ok y → measure y.standing < measure st
  pass_less st ps g rest y e = go (has_stood g.left g.right ps) e
    where
      go : (v : Bool) → (if v then afresh (attempt_turn th G m st g rest) else worked m.limits st (lemma_pass th G st g) (after_pass_turn th G m ps g rest)) ≡ Ok y
          → measure y.standing < measure st
      go true z = attempt_less st g rest y.standing (afresh_is (attempt_turn th G m st g rest) y z)
      go false z =
          let r = worked_is m.limits st (lemma_pass th G st g) (after_pass_turn th G m ps g rest) y z in
          let f = condition_normaliser th st.earlier g.conds in
          let rules = lemmas_of th 0 st.earlier in
          let paid = both_paid (first_rule_use f rules) G (rules_leave f (cond_falls th G m st.earlier g.conds) rules) g.left g.right st.budget in
          after_pass_less st g rest ps r.0 r.1 y (paid_for st.budget (lemma_pass th G st g) paid r.0 r.1 r.2) r.3

  join_less : (st : Standing) (ps : Stood) (g : Goal) (rest : List Goal) (vs : Option (List Move)) (y : Going) → join_turn_rewriting th G m ps g rest vs st ≡ Ok y
      → measure y.standing < measure st
  join_less st ps g rest None y e = pass_less st ps g rest y e
  join_less st ps g rest (Some vs) y e =
      let c : ChainOf Tree = chained st.chain (chain_with (map move_link vs) []) in
      let x : Through (or_end m.limits st (make_all g.left vs)) (λ u. goal_reduced th m.limits st rest (Same_why c)) y.standing = through _ _ y.standing (afresh_is _ y e) in
      reduced_less th G m st rest (Same_why c) y.standing x.last

  goal_less : (st : Standing) (ps : Stood) (g : Goal) (rest : List Goal) (y : Going) → goal_turn_rewriting th G m st ps g rest ≡ Ok y → measure y.standing < measure st
  goal_less st ps g rest y e =
      let R = block_rules th st.earlier in
      let x : Through (or_end m.limits st (normal_sides_trying th R g.conds g.left g.right st.budget))
      (λ n. sides_turn_rewriting th G m (with_sides_of st g rest n) ps (goal g.conds n.left n.right) rest) y = through _ _ y e in
      let s = sides_fall th R g.conds g.left g.right st.budget x.value (if_ended m.limits st _ x.value x.first) in
      let n : Sides = x.value in
      let st' : Standing = with_sides_of st g rest n in
      let g' : Goal = goal g.conds n.left n.right in
      let f = condition_normaliser th st.earlier g.conds in
      let J = joined_by_content f th.signature G st.hypotheses [] n.left n.right n.budget in
      let r = worked_is m.limits st' J (join_turn_rewriting th G m ps g' rest) y x.last in
      let j = leaves_made n.budget J (joined_leaves f (cond_falls th G m st.earlier g.conds) th.signature G st.hypotheses [] n.left n.right n.budget) r.0 r.1 r.2 in
      let t = join_less (record st' { budget = r.1 }) ps g' rest r.0 y r.3 in
      omega (arith, s, j, t)

  pub goes_less : (x y : Going) → turn_rewriting th G l x ≡ Ok y
      → y.standing.budget + (step_limit - y.standing.made) < x.standing.budget + (step_limit - x.standing.made)
  goes_less x y e = flag l.rewrite e
    where
      st : Standing
      st = x.standing

      go : (Q : List Goal) → turn_rewriting_at th G m st x.passed Q ≡ Ok y → measure y.standing < measure st
      go [] z =
          let d : Through (step_recorded th m.limits st Done) (λ d. next_block d d.later) y.standing = through _ _ y.standing (afresh_is _ y z) in
          let r = (recorded_less th G m st Done d.value d.first).less in
          let n = next_less th G m d.value d.value.later y.standing d.last in
          omega (arith, r, n)
      go (g ∷ rest) z = goal_less st x.passed g rest y z

      flag : (v : Bool) → (if v then turn_rewriting_at th G m st x.passed st.queue else afresh (turn_trying th G m st)) ≡ Ok y → measure y.standing < measure st
      flag true z = go st.queue z
      flag false z = turn_less th G m st y.standing (afresh_is (turn_trying th G m st) y z)

  finishes_some : (n : ℕ) (x : Going) → measure x.standing < n → (e : Ending) × FinishesRewriting th G l x e
  finishes_some zero x h = absurd (omega (arith, h))
  finishes_some (suc n) x h = go (λ y z. finishes_some n y z) (turn_rewriting th G l x) refl
    where
      go : ((y : Going) → measure y.standing < n → (e : Ending) × FinishesRewriting th G l y e) → (r : Result Going Ending) → turn_rewriting th G l x ≡ r
          → (e : Ending) × FinishesRewriting th G l x e
      go ih (Err e) t = (e, stops_so x e t)
      go ih (Ok y) t =
          let less = goes_less x y t in
          let r = ih y (omega (arith, less, h)) in
          (r.0, goes_on_so x y r.0 t r.1)

  pub some_ending : (x : Going) → (e : Ending) × FinishesRewriting th G l x e
  some_ending x = finishes_some (measure x.standing + 1) x (omega arith)
