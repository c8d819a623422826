-- A turn keeps what is known of the search.
use Rattle.std.proofs.Common.{◌≡◌, ℕ, Bool, true, false, if◌then◌else◌, List, [], ◌∷◌, map, Option, Some, None, Result, Ok, Err, refl, ap, sym, subst, arith, ◌-◌}
use Rattle.std.proofs.lemmas.Option.{same_Some}
use Rattle.circ_term.specs.Tree.{Tree}
use Rattle.circ_theory.specs.Theory.{Theory, Pair, goal}
use Rattle.circ_theory.specs.WellFormed.{IsWellFormed}
use Rattle.circ_theory.specs.Goal.{Goal}
use Rattle.circ_special.specs.declared.place.Place.{Place}
use Rattle.circ_proof.specs.Justified.{AllOfChain}
use Rattle.circ_proof.specs.Link.{Setting, Leads}
use Rattle.circ_proof.specs.Plain.{ChainOf, Same_why}
use Rattle.circ_proof.specs.Rules.{Done}
use Rattle.circ_proof.specs.Runs.{Runs}
use Rattle.circ_conditional_norm.specs.Norm.{try_limit}
use Rattle.circ_conditional_norm.specs.Work.{Made}
use Rattle.circ_plain_search.specs.BlockRules.{block_rules}
use Rattle.circ_plain_search.specs.Search.{Standing, Ending, Sides, chain_with, chained, or_end, has_links, next_block}
use Rattle.circ_plain_search.proofs.Led.{all_append, runs_append, links_more}
use Rattle.circ_plain_search.proofs.Runs.{most, bound}
use Rattle.circ_plain_search.proofs.Terms.{Fine}
use Rattle.circ_plain_search.proofs.Turns.{chain_fine, if_ended}
use Rattle.circ_plain_search.proofs.Uses.{Through, through, same_Ok}
use Rattle.circ_conditional_search.specs.Joining.{Swept}
use Rattle.circ_conditional_search.specs.Search.{Manner, condition_normaliser, normal_sides_trying, step_recorded, with_sides_of, goal_reduced, open_turn_trying, worked, pass_chain, passed_sides, turn_trying}
use Rattle.circ_conditional_search.proofs.Derived.{goals_sorted}
use Rattle.circ_conditional_search.proofs.Nesting.{NestsIn, norm_nests}
use Rattle.circ_conditional_search.proofs.Runs.{Held, Opened, original}
use Rattle.circ_conditional_search.proofs.Splits.{normal_sides_led}
use Rattle.circ_conditional_search.proofs.Turns.{worked_is, around, bound_small, rules_here, assumptions_of, cond_links, cond_fine, sides_held, held_budget, reduced_good, open_good, SweptSides, done_is_whole, next_good, turn_good}
use Rattle.circ_content_join.specs.Joining.{joined_by_content}
use Rattle.circ_content_join.specs.Moves.{Move, move_link, make_all}
use Rattle.circ_content_join.proofs.Joins.{joined_leads}
use Rattle.circ_attempt.specs.Attempt.{Stood, has_stood, attempt}
use Rattle.circ_attempt.specs.Rules.{lemmas_of, first_rule_use}
use Rattle.circ_attempt.specs.Search.{Conduct, Going, going, afresh, of_script, is_attempted, attempt_here, attempted_turn, attempt_turn, lemma_pass, after_pass_turn, pass_turn_rewriting, join_turn_rewriting, sides_turn_rewriting, goal_turn_rewriting, turn_rewriting_at, turn_rewriting}
use Rattle.circ_attempt.proofs.Closed.{Closes, attempt_closes}
use Rattle.circ_attempt.proofs.Sweeping.{both_led}
use Rattle.circ_attempt.proofs.Taking.{lemmas_listed, rules_take}

-- what stands behind a part of a turn that ends the goal in hand
pub afresh_is : (r : Result Standing Ending) (y : Going) → afresh r ≡ Ok y → r ≡ Ok y.standing
afresh_is (Ok st) y e = let z : going st [] ≡ y = same_Ok (going st []) y e in ap (λ x. Ok x.standing) z
afresh_is (Err x) y e = absurd (cc)

module _ (th : Theory) (wf : IsWellFormed th) (G : List Place) (l : Conduct) (blocks : List (List Goal)) where
  abbrev m : Manner
  m = l.manner

  abbrev pub Good : Standing → Type 0
  Good st = Opened th G blocks st st.queue

  abbrev set : Standing → Goal → Setting
  set st g = around th wf G m blocks st.hypotheses g.conds

  attempt_leads : (st : Standing) (p : Pair) (g : Goal) (rest : List Goal) (d : ChainOf Tree) (bs : List Bool) (k j : ℕ) → Held th G blocks st p g rest
      → attempt th G st.earlier st.hypotheses bs g.conds g.left g.right k ≡ Made (Some d) j → Closes (set st g) (bound st) g.left g.right d
  attempt_leads st p g rest d bs k j h e =
      let E : List Goal = st.earlier in
      let Q : List Goal = original p g ∷ rest in
      attempt_closes th wf (bound st) (omega arith) G E st.hypotheses bs g.conds (rules_here th wf G m blocks st Q h.ran)
      (assumptions_of th wf G m blocks (bound st) g.conds h.fine.conds) h.ran.fine h.ran.begins
      (cond_links th wf G m blocks st Q h.ran g.conds h.fine.conds) (cond_fine th wf G m blocks st Q h.ran g.conds h.fine.conds)
      (norm_nests (try_limit - 1) th.signature (block_rules th E) g.conds) g.left g.right d k j h.fine.left h.fine.right e

  attempted_good : (st : Standing) (p : Pair) (g : Goal) (rest : List Goal) (y : Standing) → Held th G blocks st p g rest → (o : Option (ChainOf Tree)) (bs : List Bool) (k j : ℕ)
      → attempt th G st.earlier st.hypotheses bs g.conds g.left g.right k ≡ Made o j → attempted_turn th m st g rest o ≡ Ok y → Good y
  attempted_good st p g rest y h None bs k j i e = open_good th wf G m blocks st p g rest y h e
  attempted_good st p g rest y h (Some d) bs k j i e =
      let c : ChainOf Tree = chained st.chain d in
      let z = attempt_leads st p g rest d bs k j h i in
      let small = bound_small th wf G m blocks st (original p g ∷ rest) h.ran in
      let links : AllOfChain (Fine th most) c = (
        all_append _ st.chain.left d.left h.links.0 (links_more th (bound st) most d.left small z.left.terms),
        all_append _ st.chain.right d.right h.links.1 (links_more th (bound st) most d.right small z.right.terms),
      ) in
      reduced_good th wf G m blocks st (original p g) rest (Same_why c) y h.ran h.fine_rest (
        z.last,
        record {
          left = runs_append (Leads (set st g)) st.chain.left d.left p.left g.left z.last h.left z.left.leads;
          right = runs_append (Leads (set st g)) st.chain.right d.right p.right g.right z.last h.right z.right.leads;
        },
      ) (all_append (NestsIn 8) st.chain.left d.left h.nests.0 z.left.nests, all_append (NestsIn 8) st.chain.right d.right h.nests.1 z.right.nests)
      (chain_fine th most c links) e

  attempt_good : (st : Standing) (p : Pair) (g : Goal) (rest : List Goal) (y : Standing) → Held th G blocks st p g rest → attempt_turn th G m st g rest ≡ Ok y → Good y
  attempt_good st p g rest y h e = go (is_attempted th st g) e
    where
      go : (v : Bool)
          → (if v then worked m.limits st (attempt_here th G st g) (λ o x. attempted_turn th m x g rest o) else open_turn_trying th m st g rest) ≡ Ok y → Good y
      go true z =
          let r = worked_is m.limits st (attempt_here th G st g) (λ o x. attempted_turn th m x g rest o) y z in
          attempted_good (record st { budget = r.1 }) p g rest y (held_budget th wf G m blocks st p g rest r.1 h) r.0 (of_script th st) st.budget r.1 r.2 r.3
      go false z = open_good th wf G m blocks st p g rest y h z

  -- a lemma pass
  pass_led : (st : Standing) (p : Pair) (g : Goal) (rest : List Goal) (w : Swept × Swept) (j : ℕ) → Held th G blocks st p g rest
      → lemma_pass th G st g ≡ Made w j → SweptSides th wf G m blocks st g w
  pass_led st p g rest w j h e =
      let c = set st g in
      let Q : List Goal = original p g ∷ rest in
      let f = condition_normaliser th st.earlier g.conds in
      let rules = lemmas_of th 0 st.earlier in
      let takes = rules_take c (bound st) h.ran.fine f (cond_links th wf G m blocks st Q h.ran g.conds h.fine.conds) (cond_fine th wf G m blocks st Q h.ran g.conds h.fine.conds)
      (norm_nests (try_limit - 1) th.signature (block_rules th st.earlier) g.conds) rules (lemmas_listed th st.hypotheses st.earlier h.ran.begins) in
      let b = both_led c (bound st) (goals_sorted th (bound st) st.hypotheses h.ran.fine) (first_rule_use f rules) takes g.left g.right w st.budget j h.fine.left h.fine.right e in
      record { left = b.left; right = b.right }

  after_pass_good : (st : Standing) (p : Pair) (g : Goal) (rest : List Goal) (ps : Stood) (w : Swept × Swept) (k : ℕ) (y : Going) → Held th G blocks st p g rest
      → SweptSides th wf G m blocks st g w → after_pass_turn th G m ps g rest w (record st { budget = k }) ≡ Ok y → Good y.standing
  after_pass_good st p g rest ps w k y h s e = go (has_links (pass_chain w)) e
    where
      n : Sides
      n = passed_sides w k

      x : Standing
      x = record st { budget = k }

      go : (v : Bool) → (if v then Ok (going (with_sides_of x g rest n) ((g.left, g.right) ∷ ps)) else afresh (attempt_turn th G m x g rest)) ≡ Ok y → Good y.standing
      go true z =
          subst (λ r. Good r.standing) (same_Ok (going (with_sides_of x g rest n) ((g.left, g.right) ∷ ps)) y z)
          (p, sides_held th wf G m blocks x p g rest n (held_budget th wf G m blocks st p g rest k h) s.left s.right)
      go false z = attempt_good x p g rest y.standing (held_budget th wf G m blocks st p g rest k h) (afresh_is (attempt_turn th G m x g rest) y z)

  pass_good : (st : Standing) (ps : Stood) (p : Pair) (g : Goal) (rest : List Goal) (y : Going) → Held th G blocks st p g rest
      → pass_turn_rewriting th G m st ps g rest ≡ Ok y → Good y.standing
  pass_good st ps p g rest y h e = go (has_stood g.left g.right ps) e
    where
      go : (v : Bool) → (if v then afresh (attempt_turn th G m st g rest) else worked m.limits st (lemma_pass th G st g) (after_pass_turn th G m ps g rest)) ≡ Ok y
          → Good y.standing
      go true z = attempt_good st p g rest y.standing h (afresh_is (attempt_turn th G m st g rest) y z)
      go false z =
          let r = worked_is m.limits st (lemma_pass th G st g) (after_pass_turn th G m ps g rest) y z in
          after_pass_good st p g rest ps r.0 r.1 y h (pass_led st p g rest r.0 r.1 h r.2) r.3

  join_good : (st : Standing) (ps : Stood) (p : Pair) (g : Goal) (rest : List Goal) (y : Going) → Held th G blocks st p g rest → (vs : Option (List Move)) (k j : ℕ)
      → joined_by_content (condition_normaliser th st.earlier g.conds) th.signature G st.hypotheses [] g.left g.right k ≡ Made vs j → join_turn_rewriting th G m ps g rest vs st ≡ Ok y
      → Good y.standing
  join_good st ps p g rest y h None k j i e = pass_good st ps p g rest y h e
  join_good st ps p g rest y h (Some vs) k j i e =
      let c : ChainOf Tree = chained st.chain (chain_with (map move_link vs) []) in
      let Q : List Goal = original p g ∷ rest in
      let x : Through (or_end m.limits st (make_all g.left vs)) (λ u. goal_reduced th m.limits st rest (Same_why c)) y.standing = through _ _ y.standing (afresh_is _ y e) in
      let d = joined_leads (set st g) (bound st) (omega arith) wf h.ran.fine (condition_normaliser th st.earlier g.conds) (cond_links th wf G m blocks st Q h.ran g.conds h.fine.conds)
      (cond_fine th wf G m blocks st Q h.ran g.conds h.fine.conds) (norm_nests (try_limit - 1) th.signature (block_rules th st.earlier) g.conds) g.left g.right [] vs g.left x.value k j
      h.fine.left h.fine.left h.fine.right refl tt i (if_ended m.limits st _ x.value x.first) in
      let equal : x.value ≡ g.right = same_Some x.value g.right (sym d.made) in
      let small = bound_small th wf G m blocks st Q h.ran in
      let P : Tree → Type 0 = λ t. Runs (Leads (set st g)) c.right p.right t in
      let links : AllOfChain (Fine th most) c = (
        all_append _ st.chain.left (map move_link vs) h.links.0 (links_more th (bound st) most (map move_link vs) small d.led.terms),
        all_append _ st.chain.right [] h.links.1 tt,
      ) in
      reduced_good th wf G m blocks st (original p g) rest (Same_why c) y.standing h.ran h.fine_rest (
        x.value,
        record {
          left = runs_append (Leads (set st g)) st.chain.left (map move_link vs) p.left g.left x.value h.left d.led.leads;
          right = subst P (sym equal) (runs_append (Leads (set st g)) st.chain.right [] p.right g.right g.right h.right refl);
        },
      ) (all_append (NestsIn 8) st.chain.left (map move_link vs) h.nests.0 d.led.nests, all_append (NestsIn 8) st.chain.right [] h.nests.1 tt)
      (chain_fine th most c links) x.last

  goal_good : (st : Standing) (ps : Stood) (p : Pair) (g : Goal) (rest : List Goal) (y : Going) → Held th G blocks st p g rest
      → goal_turn_rewriting th G m st ps g rest ≡ Ok y → Good y.standing
  goal_good st ps p g rest y h e =
      let R = block_rules th st.earlier in
      let x : Through (or_end m.limits st (normal_sides_trying th R g.conds g.left g.right st.budget))
      (λ n. sides_turn_rewriting th G m (with_sides_of st g rest n) ps (goal g.conds n.left n.right) rest) y = through _ _ y e in
      let s = normal_sides_led th wf (bound st) (omega arith) G st.hypotheses R (rules_here th wf G m blocks st (original p g ∷ rest) h.ran) g.conds
      (assumptions_of th wf G m blocks (bound st) g.conds h.fine.conds) g.left g.right st.budget x.value h.fine.left h.fine.right (if_ended m.limits st _ x.value x.first) in
      let n : Sides = x.value in
      let st' : Standing = with_sides_of st g rest n in
      let g' : Goal = goal g.conds n.left n.right in
      let held = sides_held th wf G m blocks st p g rest n h s.left s.right in
      let r = worked_is m.limits st' (joined_by_content (condition_normaliser th st'.earlier g'.conds) th.signature G st'.hypotheses [] g'.left g'.right st'.budget) (join_turn_rewriting th G m ps g' rest) y x.last in
      join_good (record st' { budget = r.1 }) ps p g' rest y (held_budget th wf G m blocks st' p g' rest r.1 held) r.0 st'.budget r.1 r.2 r.3

  pub keeps_good : (x y : Going) → Good x.standing → turn_rewriting th G l x ≡ Ok y → Good y.standing
  keeps_good x y h e = flag l.rewrite e
    where
      st : Standing
      st = x.standing

      go : (Q : List Goal) → Opened th G blocks st Q → turn_rewriting_at th G m st x.passed Q ≡ Ok y → Good y.standing
      go [] o z =
          let d : Through (step_recorded th m.limits st Done) (λ s. next_block s s.later) y.standing = through _ _ y.standing (afresh_is _ y z) in
          next_good th wf G m blocks d.value d.value.later y.standing (done_is_whole th wf G m blocks st d.value o d.first) d.last
      go (g ∷ rest) o z = goal_good st x.passed o.0 g rest y o.1 z

      flag : (v : Bool) → (if v then turn_rewriting_at th G m st x.passed st.queue else afresh (turn_trying th G m st)) ≡ Ok y → Good y.standing
      flag true z = go st.queue h z
      flag false z = turn_good th wf G m blocks st y.standing h (afresh_is (turn_trying th G m st) y z)
