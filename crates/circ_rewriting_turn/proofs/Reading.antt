-- How rules are read, step by step.
use Rattle.std.proofs.Common.{◌≡◌, ℕ, zero, suc, ◌+◌, ◌<◌, ◌≤◌, Bool, List, [], ◌∷◌, ◌++◌, length, map, take, drop, Option, Some, None, refl, ap, sym, subst, ◌∙◌, arith}
use Rattle.std.specs.Prelude.{nat_lt}
use Rattle.circ_term.specs.Tree.{Tree}
use Rattle.circ_theory.specs.Theory.{Theory}
use Rattle.circ_theory.specs.Goal.{Goal}
use Rattle.circ_proof.specs.PlainProof.{plain_step, plain_steps}
use Rattle.circ_proof.specs.Rules.{ProofStep, Derive}
use Rattle.circ_proof.specs.declared.proof.Step.{Step}
use Rattle.circ_plain_search.specs.Search.{Limits, Standing, start}
use Rattle.circ_attempt.specs.Attempt.{derived_rules}
use Rattle.circ_attempt.specs.Following.{script_left, GoesOn, HasDerived}
use Rattle.circ_attempt.specs.Search.{of_script}
use Rattle.circ_attempt.proofs.Derived.{rules_go, left_goes}
use Rattle.circ_rewriting_turn.specs.PassRules.{ReadAt}
use Rattle.circ_rewriting_turn.specs.declared.pass_rules.PassRules.{PassRules}
use Rattle.circ_attempt.specs.Rules.{HypothesisRule, or_no_rule, own_rule, own_rules, script_goals_left, derived_of_script, lemma_of, lemmas_of}

no_rule : (o : Option HypothesisRule) (xs : List HypothesisRule) → or_no_rule o xs ≡ or_no_rule o [] ++ xs
no_rule None xs = refl
no_rule (Some r) xs = refl

behind : (xs ys zs : List HypothesisRule) → (xs ++ ys) ++ zs ≡ xs ++ (ys ++ zs)
behind [] ys zs = refl
behind (x ∷ xs) ys zs = ap (λ r. x ∷ r) (behind xs ys zs)

-- a hypothesis that a Derive step has made
pub derived_read : (th : Theory) (k n : ℕ) (old new : List HypothesisRule) (hyps : List Goal) (h : Goal) (rest : List Goal) (xs : List (ProofStep Tree))
    → new ≡ old ++ or_no_rule (own_rule n (nat_lt 0 k) h) [] → drop n hyps ≡ h ∷ rest
    → new ++ own_rules (n + 1) (derived_of_script th (script_goals_left k 0) xs) rest ≡ old ++ own_rules n (derived_of_script th k (Derive ∷ xs)) (drop n hyps)
derived_read th k n old new hyps h rest xs e d =
    let o = own_rule n (nat_lt 0 k) h in
    let more = own_rules (n + 1) (derived_of_script th (script_goals_left k 0) xs) rest in
    ap (λ x. x ++ more) e ∙ behind old (or_no_rule o []) more ∙ ap (λ x. old ++ x) (sym (no_rule o more))
    ∙ ap (λ x. old ++ own_rules n (derived_of_script th k (Derive ∷ xs)) x) (sym d)

rule_append : (o : Option HypothesisRule) (xs ys : List HypothesisRule) → or_no_rule o (xs ++ ys) ≡ or_no_rule o xs ++ ys
rule_append None xs ys = refl
rule_append (Some r) xs ys = refl

-- one goal more of earlier blocks, which has this number
pub goals_read : (th : Theory) (m n k : ℕ) (E : List Goal) (g : Goal) (rest : List Goal) → k ≡ m + n → drop n E ≡ g ∷ rest
    → lemmas_of th m (take (suc n) E) ≡ lemmas_of th m (take n E) ++ or_no_rule (lemma_of th k g) []
goals_read th m zero k [] g rest z e = absurd (cc)
goals_read th m zero k (x ∷ xs) g rest z e =
    let s : x ≡ g = cc in
    let w : m ≡ k = omega (arith, z) in
    ap (λ y. or_no_rule (lemma_of th m y) []) s ∙ ap (λ k. or_no_rule (lemma_of th k g) []) w
goals_read th m (suc n) k [] g rest z e = absurd (cc)
goals_read th m (suc n) k (x ∷ xs) g rest z e =
    let w : k ≡ m + 1 + n = omega (arith, z) in
    ap (or_no_rule (lemma_of th m x)) (goals_read th (m + 1) n k xs g rest w e)
    ∙ rule_append (lemma_of th m x) (lemmas_of th (m + 1) (take n xs)) (or_no_rule (lemma_of th k g) [])

pub take_few : {X : Type 0} (n : ℕ) (xs : List X) → length (take n xs) ≤ length xs
take_few zero xs = omega arith
take_few (suc n) [] = omega arith
take_few (suc n) (x ∷ xs) = let e = take_few n xs in omega (arith, e)

pub rule_few : (o : Option HypothesisRule) (old new : List HypothesisRule) → new ≡ old ++ or_no_rule o [] → length new ≤ length old + 1
rule_few o old new e = let l = ap length e in omega (arith, l, size old o)
  where
    size : (xs : List HypothesisRule) (o : Option HypothesisRule) → length (xs ++ or_no_rule o []) ≤ length xs + 1
    size [] None = omega arith
    size [] (Some r) = omega arith
    size (x ∷ xs) o = let e = size xs o in omega (arith, e)

drop_map : {X Y : Type 0} (f : X → Y) (n : ℕ) (xs : List X) → map f (drop n xs) ≡ drop n (map f xs)
drop_map f zero xs = refl
drop_map f (suc n) [] = refl
drop_map f (suc n) (x ∷ xs) = drop_map f n xs

drop_behind : {X : Type 0} (xs ys : List X) → drop (length xs) (xs ++ ys) ≡ ys
drop_behind [] ys = refl
drop_behind (x ∷ xs) ys = drop_behind xs ys

-- what stands behind so many of these, where all are those and some more
pub what_is_more : {X : Type 0} (xs ys all : List X) (n : ℕ) → n ≡ length xs → all ≡ xs ++ ys → drop n all ≡ ys
what_is_more xs ys all n e w = ap (λ k. drop k all) e ∙ ap (drop (length xs)) w ∙ drop_behind xs ys

pub steps_more : (items : List (Step Tree)) (xs more : List (ProofStep Tree)) (n : ℕ) → n ≡ length xs → plain_steps items ≡ xs ++ more → plain_steps (drop n items) ≡ more
steps_more items xs more n e w = drop_map plain_step n items ∙ what_is_more xs more (plain_steps items) n e w

-- what a turn adds to a block is read
pub read_on : (th : Theory) (st next : Standing) (more : GoesOn st next) → HasDerived th st → (old new : PassRules) → ReadAt th st old → new.lemmas ≡ old.lemmas
    → new.count ≡ old.count → new.script ≡ script_left th old.script more.more_steps
    → new.own ≡ old.own ++ own_rules (length st.hypotheses) (derived_of_script th old.script more.more_steps) more.more_hypotheses → ReadAt th next new
read_on th st next more derived old new r lemmas count script own = record {
  rules = record {
    lemmas = lemmas ∙ r.rules.lemmas ∙ ap (lemmas_of th 0) (sym more.earlier);
    own = own ∙ ap (λ x. x ++ own_rules (length st.hypotheses) (derived_of_script th old.script more.more_steps) more.more_hypotheses) r.rules.own
        ∙ ap (λ k. derived_rules st.earlier st.hypotheses (of_script th st) ++ own_rules (length st.hypotheses) (derived_of_script th k more.more_steps) more.more_hypotheses) r.script
        ∙ sym (rules_go th st next more derived);
  };
  script = script ∙ ap (λ k. script_left th k more.more_steps) r.script ∙ sym (left_goes th st next more);
  count = count ∙ r.count ∙ ap length (sym more.earlier);
}

drop_whole : {X : Type 0} (xs : List X) → drop (length xs) xs ≡ []
drop_whole [] = refl
drop_whole (x ∷ xs) = drop_whole xs

-- what is read where a block begins
pub begun_at : (th : Theory) (st : Standing) (new : PassRules) → st.hypotheses ≡ st.earlier → st.steps ≡ [] → new.lemmas ≡ lemmas_of th 0 st.earlier → new.own ≡ []
    → new.script ≡ length st.goals → new.count ≡ length st.earlier → ReadAt th st new
begun_at th st new h s lemmas own script count =
    let told : of_script th st ≡ [] = ap (derived_of_script th (length st.goals)) s in
    let none : derived_rules st.earlier st.hypotheses (of_script th st) ≡ [] =
    ap (derived_rules st.earlier st.hypotheses) told ∙ ap (λ H. derived_rules st.earlier H []) h ∙ ap (own_rules (length st.earlier) []) (drop_whole st.earlier) in
    record {
      rules = record { lemmas = lemmas; own = own ∙ sym none };
      script = script ∙ sym (ap (script_left th (length st.goals)) s);
      count = count;
    }

-- what is read before the first turn: no lemma and no rule, and so many goals of the script as the first block has
pub first_read : (th : Theory) (l : Limits) (bs : List (List Goal)) (st : Standing) (r : PassRules) → st ≡ start l bs → r.lemmas ≡ [] → r.own ≡ []
    → r.count ≡ 0 → r.script ≡ length st.goals → ReadAt th st r
first_read th l bs st r s lemmas own count script =
    let P : Standing → Type 0 = λ x. r.script ≡ length x.goals → ReadAt th x r in
    subst P (sym s) (go bs) script
  where
    go : (cs : List (List Goal)) → r.script ≡ length (start l cs).goals → ReadAt th (start l cs) r
    go [] e = record { rules = record { lemmas = lemmas; own = own }; script = e; count = count }
    go (b ∷ cs) e = record { rules = record { lemmas = lemmas; own = own }; script = e; count = count }
