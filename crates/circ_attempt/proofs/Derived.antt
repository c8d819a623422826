-- What the search comes to has derived a hypothesis for each Derive step of its block; and so the block's rules grow as it goes on.
use Rattle.std.proofs.Common.{◌≡◌, ℕ, ◌+◌, List, [], ◌∷◌, ◌++◌, length, take, drop, refl, ap, sym, ◌∙◌, arith, append_assoc, append-nil, length-append, take_at, drop_at}
use Rattle.std.proofs.lemmas.List.{drop_all}
use Rattle.circ_theory.specs.Theory.{Theory}
use Rattle.circ_theory.specs.Goal.{Goal}
use Rattle.circ_special.specs.declared.place.Place.{Place}
use Rattle.circ_plain_search.specs.Search.{Limits, Standing, start}
use Rattle.circ_attempt.specs.Attempt.{derived_rules}
use Rattle.circ_attempt.specs.Following.{derives_in, script_left, left_of_script, GoesOn, Begins, Follows, in_block, to_next, HasDerived}
use Rattle.circ_attempt.specs.RewritingSearch.{ComesRewriting, here_so, further_so, first_going}
use Rattle.circ_attempt.specs.Rules.{own_rules, derived_of_script, lemmas_of}
use Rattle.circ_attempt.specs.Search.{Conduct, Going, of_script}
use Rattle.circ_attempt.proofs.Following.{turn_follows}
use Rattle.circ_attempt.proofs.OwnRules.{derives_append, script_append, script_length, left_append, derived_append, lemmas_append}

-- behind the earlier goals stand so many hypotheses as there are Derive steps
record Behind (st : Standing) : Type 0 where
  own : List Goal
  hypotheses : st.hypotheses ≡ st.earlier ++ own
  derived : length own ≡ derives_in st.steps

start_behind : (l : Limits) (blocks : List (List Goal)) → Behind (start l blocks)
start_behind l [] = record { own = []; hypotheses = refl; derived = refl }
start_behind l (b ∷ bs) = record { own = []; hypotheses = refl; derived = refl }

follows_behind : (st y : Standing) → Behind st → Follows st y → Behind y
follows_behind st y b (in_block r) =
    let all = derives_append st.steps r.more_steps in
    let long = length-append b.own r.more_hypotheses in
    let old = b.derived in
    let new = r.derived in
    let steps = ap derives_in r.steps in
    record {
      own = b.own ++ r.more_hypotheses;
      hypotheses = r.hypotheses ∙ ap (λ H. H ++ r.more_hypotheses) b.hypotheses ∙ append_assoc st.earlier b.own r.more_hypotheses
          ∙ ap (λ E. E ++ (b.own ++ r.more_hypotheses)) (sym r.earlier);
      derived = omega (arith, all, long, old, new, steps);
    }
follows_behind st y b (to_next r) = record { own = []; hypotheses = r.hypotheses ∙ sym (append-nil y.earlier); derived = ap derives_in (sym r.steps) }

comes_behind : (th : Theory) (G : List Place) (l : Conduct) (blocks : List (List Goal)) (x : Going) → ComesRewriting th G l (first_going l blocks) x → Behind x.standing
comes_behind th G l blocks _ here_so = start_behind l.manner.limits blocks
comes_behind th G l blocks _ (further_so x y c t) =
    follows_behind x.standing y.standing (comes_behind th G l blocks x c) (turn_follows th G l x y t)

pub comes_derived : (th : Theory) (G : List Place) (l : Conduct) (blocks : List (List Goal)) (x : Going) → ComesRewriting th G l (first_going l blocks) x
    → HasDerived th x.standing
comes_derived th G l blocks x c =
    let st : Standing = x.standing in
    let b = comes_behind th G l blocks x c in
    let k : ℕ = length st.earlier in
    let long = length-append st.earlier b.own in
    let all = ap length b.hypotheses in
    record {
      long = omega (arith, long, all);
      begins = ap (take k) b.hypotheses ∙ take_at st.earlier b.own k refl;
      derived = script_length th (length st.goals) st.steps ∙ sym b.derived ∙ ap length (sym (ap (drop k) b.hypotheses ∙ drop_at st.earlier b.own k refl));
    }

-- ---- the rules of a block that goes on

module _ (th : Theory) (st y : Standing) (r : GoesOn st y) where
  abbrev k : ℕ
  k = length st.goals

  pub script_goes : of_script th y ≡ of_script th st ++ derived_of_script th (left_of_script th st) r.more_steps
  script_goes = ap (λ gs. derived_of_script th (length gs) y.steps) r.goals ∙ ap (derived_of_script th k) r.steps ∙ script_append th k st.steps r.more_steps

  pub left_goes : left_of_script th y ≡ script_left th (left_of_script th st) r.more_steps
  left_goes = ap (λ gs. script_left th (length gs) y.steps) r.goals ∙ ap (script_left th k) r.steps ∙ left_append th k st.steps r.more_steps

  pub rules_go : HasDerived th st
      → derived_rules y.earlier y.hypotheses (of_script th y)
      ≡ derived_rules st.earlier st.hypotheses (of_script th st)
      ++ own_rules (length st.hypotheses) (derived_of_script th (left_of_script th st) r.more_steps) r.more_hypotheses
  rules_go h =
      ap (λ E. derived_rules E y.hypotheses (of_script th y)) r.earlier ∙ ap (λ H. derived_rules st.earlier H (of_script th y)) r.hypotheses
      ∙ ap (derived_rules st.earlier (st.hypotheses ++ r.more_hypotheses)) script_goes
      ∙ derived_append st.earlier st.hypotheses r.more_hypotheses (of_script th st) (derived_of_script th (left_of_script th st) r.more_steps) h.long h.derived

-- ---- the rules of a block that begins

module _ (th : Theory) (st y : Standing) (r : Begins st y) where
  pub no_rules : derived_rules y.earlier y.hypotheses (of_script th y) ≡ []
  no_rules =
      ap (λ H. derived_rules y.earlier H (of_script th y)) r.hypotheses ∙ ap (own_rules (length y.earlier) (of_script th y)) (drop_all (length y.earlier) y.earlier (omega arith))

  pub none_of_script : of_script th y ≡ []
  none_of_script = ap (derived_of_script th (length y.goals)) r.steps

  pub whole_script : left_of_script th y ≡ length y.goals
  whole_script = ap (script_left th (length y.goals)) r.steps

  pub lemmas_go : lemmas_of th 0 y.earlier ≡ lemmas_of th 0 st.earlier ++ lemmas_of th (length st.earlier) st.goals
  lemmas_go =
      let n : 0 + length st.earlier ≡ length st.earlier = omega arith in
      ap (lemmas_of th 0) r.earlier ∙ lemmas_append th 0 st.earlier st.goals ∙ ap (λ i. lemmas_of th 0 st.earlier ++ lemmas_of th i st.goals) n
