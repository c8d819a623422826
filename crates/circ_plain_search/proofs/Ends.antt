-- The search ends with every goal done only behind the last block's Done, and each block is whole then.
use Rattle.std.proofs.Common.{◌≡◌, ℕ, ◌+◌, ◌*◌, Bool, true, false, if◌then◌else◌, List, [], ◌∷◌, ◌++◌, map, Option, Some, None, Result, Ok, Err, refl, ap, subst, ◌∙◌, arith}
use Rattle.std.specs.Prelude.{nat_le}
use Rattle.std.specs.List.{AllByRecursion}
use Rattle.circ_term.specs.Tree.{Tree, sort_of}
use Rattle.circ_term.specs.Limits.{Limit, Big, Deep}
use Rattle.circ_theory.specs.Theory.{Theory, HasNoConditions, goal}
use Rattle.circ_theory.specs.WellFormed.{IsWellFormed}
use Rattle.circ_theory.specs.Observing.{is_hidden}
use Rattle.circ_theory.specs.Goal.{Goal}
use Rattle.circ_special.specs.declared.place.Place.{Place}
use Rattle.circ_proof.specs.Plain.{WhyOf, Same_why, Split_why}
use Rattle.circ_proof.specs.Rules.{ProofStep, Simplify, Reduce, Derive, Done, derivatives_on}
use Rattle.circ_proof.specs.Proof.{step_limit, split_limit}
use Rattle.circ_proof.proofs.Sorted.{sorted_none}
use Rattle.circ_plain_search.specs.BlockRules.{block_rules}
use Rattle.circ_plain_search.specs.Joining.{Stop, No_budget, Past_limit, Not_split, HypothesisUse, use_link, joined, and_then, put_all}
use Rattle.circ_plain_search.specs.Search.{Limits, ProvedBlock, Standing, Ending, All_done, Sides, chain_with, chained, normal_sides, split_cases, spent, past, or_end, record_step, has_links, next_goal, with_sides, reduced, goals_limit, unless_past, derive_turn, hidden_turn, visible_turn, open_turn, swept_sides, join_turn, sides_turn, goal_turn, with_this, next_block, turn_at, turn, Reaches, ends, goes, start}
use Rattle.circ_plain_search.proofs.Derived.{FineGoals}
use Rattle.circ_plain_search.proofs.Runs.{half, after_step, Opened, fresh_queue, Whole}
use Rattle.circ_plain_search.proofs.Turns.{IsWhole, done_is_whole, turn_good}

-- the part of a turn does not end the search with every goal done
abbrev NotDone : {A : Type 0} → Result A Ending → Type 0
NotDone r = (bs : List ProvedBlock) (d m : ℕ) (x : Bool) → r ≡ Err (All_done bs d m x) → ⊥

pub same_Err : {A E : Type 0} (a b : E) → ◌≡◌ {A = Result A E} (Err a) (Err b) → a ≡ b
same_Err a b e = cc

not_then : {A B : Type 0} (r : Result A Ending) (f : A → Result B Ending) → NotDone r → ((a : A) → NotDone (f a)) → NotDone (and_then r f)
not_then (Ok a) f n k bs d m x e = k a bs d m x e
not_then (Err z) f n k bs d m x e = n bs d m x (let s : z ≡ All_done bs d m x = same_Err z (All_done bs d m x) e in ap Err s)

not_past : {A : Type 0} (l : Limit) → NotDone {A = A} (Err (past l))
not_past (Big n) bs d m x e = absurd (cc)
not_past (Deep n) bs d m x e = absurd (cc)

not_ended : {A : Type 0} (l : Limits) (st : Standing) (r : Result A Stop) → NotDone (or_end l st r)
not_ended l st (Ok a) bs d m x e = absurd (cc)
not_ended l st (Err No_budget) bs d m x e = absurd (cc)
not_ended {A = A} l st (Err (Past_limit y)) bs d m x e = not_past {A = A} y bs d m x e
not_ended l st (Err (Not_split s t A)) bs d m x e = absurd (cc)

not_spent : {A : Type 0} (b : Bool) (l : Limits) (st : Standing) (r : Result A Ending) → NotDone r → NotDone (if b then Err (spent l st) else r)
not_spent true l st r n bs d m x e = absurd (cc)
not_spent false l st r n bs d m x e = n bs d m x e

not_ok : {A : Type 0} (a : A) → NotDone (Ok a)
not_ok a bs d m x e = absurd (cc)

module _ (th : Theory) (G : List Place) (l : Limits) where
  not_recorded : (st : Standing) (y : ProofStep Tree) → NotDone (record_step th l st y)
  not_recorded st y = not_spent (nat_le step_limit st.made) l st (Ok (after_step th st y)) (not_ok (after_step th st y))

  not_reduced : (st : Standing) (rest : List Goal) (why : WhyOf Tree) → NotDone (reduced th l st rest why)
  not_reduced st rest why = not_then _ (λ x. Ok (next_goal x.hypotheses rest x)) (not_recorded st (Reduce why)) (λ x. not_ok (next_goal x.hypotheses rest x))

  not_derived : (st : Standing) (g : Goal) (rest : List Goal) → NotDone (derive_turn th l st g rest)
  not_derived st g rest =
      not_spent (nat_le step_limit st.made) l st _
      (not_then _ (λ gs. and_then (record_step th l st Derive)
      (λ x. Ok (next_goal (x.hypotheses ++ g ∷ []) (rest ++ gs) (record x { derives = x.derives + 1 }))))
      (not_ended l st (unless_past (goals_limit (derivatives_on th g)) (derivatives_on th g)))
      (λ gs. not_then _ (λ x. Ok (next_goal (x.hypotheses ++ g ∷ []) (rest ++ gs) (record x { derives = x.derives + 1 })))
      (not_recorded st Derive) (λ x. not_ok _)))

  not_open : (st : Standing) (g : Goal) (rest : List Goal) → NotDone (open_turn th l st g rest)
  not_open st g rest = go (is_hidden th (sort_of g.left))
    where
      simple : (b : Bool) → NotDone (if b then record_step th l st (Simplify st.chain) else Ok st)
      simple true = not_recorded st (Simplify st.chain)
      simple false = not_ok st

      go : (b : Bool) → NotDone (if b then hidden_turn th l st g rest else visible_turn th l st g rest)
      go true =
          not_spent (nat_le l.derives st.derives) l st _
          (not_then _ (λ x. derive_turn th l x g rest) (simple (has_links st.chain)) (λ x. not_derived x g rest))
      go false =
          not_then _ (λ c. reduced th l (record st { budget = c.budget }) rest (Split_why st.chain c.term c.whys))
          (not_ended l st (split_cases th (block_rules th st.earlier) split_limit [] g.left g.right st.budget))
          (λ c. not_reduced (record st { budget = c.budget }) rest (Split_why st.chain c.term c.whys))

  not_joined : (st : Standing) (g : Goal) (rest : List Goal) (o : Option (List HypothesisUse)) → NotDone (join_turn th G l st g rest o)
  not_joined st g rest (Some us) =
      not_then _ (λ u. reduced th l st rest (Same_why (chained st.chain (chain_with (map use_link us) [])))) (not_ended l st (put_all g.left us))
      (λ u. not_reduced st rest (Same_why (chained st.chain (chain_with (map use_link us) []))))
  not_joined st g rest None =
      not_then _ (λ n. if has_links n.chain then Ok (with_sides st rest n) else open_turn th l st g rest)
      (not_ended l st (swept_sides th G st.earlier g.left g.right st.budget)) (λ n. go n (has_links n.chain))
    where
      go : (n : Sides) (b : Bool) → NotDone (if b then Ok (with_sides st rest n) else open_turn th l st g rest)
      go n true = not_ok (with_sides st rest n)
      go n false = not_open st g rest

  not_goal : (st : Standing) (g : Goal) (rest : List Goal) → NotDone (goal_turn th G l st g rest)
  not_goal st g rest =
      not_then _ (λ n. sides_turn th G l (with_sides st rest n) (goal [] n.left n.right) rest)
      (not_ended l st (normal_sides th (block_rules th st.earlier) [] g.left g.right st.budget))
      (λ n. not_joined (with_sides st rest n) (goal [] n.left n.right) rest (joined G st.hypotheses [] n.left n.right))

module _ (th : Theory) (wf : IsWellFormed th) (none : HasNoConditions th) (G : List Place) (l : Limits) (blocks : List (List Goal)) where
  last_whole : (st : Standing) (later : List (List Goal)) (bs : List ProvedBlock) (d m : ℕ) (x : Bool) → IsWhole th wf none G l blocks st later
      → next_block st later ≡ Err (All_done bs d m x) → Whole th G blocks bs [] x m d
  last_whole st (b ∷ later) bs d m x h e = absurd (cc)
  last_whole st [] bs d m x h e =
      let it : All_done (with_this st) st.derives st.made st.deep ≡ All_done bs d m x = same_Err _ (All_done bs d m x) e in
      let a : with_this st ≡ bs = cc in
      let b : st.deep ≡ x = cc in
      let c : st.made ≡ m = cc in
      let f : st.derives ≡ d = cc in
      let P : List ProvedBlock → Type 0 = λ z. Whole th G blocks z [] x m d in
      let Q : Bool → Type 0 = λ z. Whole th G blocks (with_this st) [] z m d in
      let R : ℕ → Type 0 = λ z. Whole th G blocks (with_this st) [] st.deep z d in
      let S : ℕ → Type 0 = λ z. Whole th G blocks (with_this st) [] st.deep st.made z in
      subst P a (subst Q b (subst R c (subst S f h.whole)))

  turn_whole : (st : Standing) (bs : List ProvedBlock) (d m : ℕ) (x : Bool) → Opened th G blocks st st.queue
      → turn th G l st ≡ Err (All_done bs d m x) → Whole th G blocks bs [] x m d
  turn_whole st bs d m x h e = go st.queue h e
    where
      last : (r : Result Standing Ending) → Opened th G blocks st [] → record_step th l st Done ≡ r
          → and_then r (λ z. next_block z z.later) ≡ Err (All_done bs d m x) → Whole th G blocks bs [] x m d
      last (Ok y) o f z = last_whole y y.later bs d m x (done_is_whole th wf none G l blocks st y o f) z
      last (Err y) o f z =
          absurd (not_recorded th G l st Done bs d m x (f ∙ (let s : y ≡ All_done bs d m x = same_Err y (All_done bs d m x) z in ap Err s)))

      go : (Q : List Goal) → Opened th G blocks st Q → turn_at th G l st Q ≡ Err (All_done bs d m x) → Whole th G blocks bs [] x m d
      go [] o z = last (record_step th l st Done) o refl z
      go (g ∷ rest) o z = absurd (not_goal th G l st g rest bs d m x z)

  reaches_whole : (st : Standing) (e : Ending) → Opened th G blocks st st.queue → Reaches th G l st e → (bs : List ProvedBlock) (d m : ℕ) (x : Bool)
      → e ≡ All_done bs d m x → Whole th G blocks bs [] x m d
  reaches_whole st e h (ends _ _ t) bs d m x it = turn_whole st bs d m x h (t ∙ ap Err it)
  reaches_whole st e h (goes _ y _ t r) bs d m x it = reaches_whole y e (turn_good th wf none G l blocks st y h t) r bs d m x it

pub start_opened : (th : Theory) (G : List Place) (l : Limits) (b : List Goal) (bs : List (List Goal)) → FineGoals th half b
    → AllByRecursion (FineGoals th half) bs → Opened th G (b ∷ bs) (start l (b ∷ bs)) b
start_opened th G l b bs fb fbs =
    let n : Standing = start l (b ∷ bs) in
    fresh_queue th G (b ∷ bs) n b refl (record {
      finished = record { under = tt; plain = λ e. tt };
      earlier = refl;
      all = refl;
      begins = λ n h e. e;
      sorted = sorted_none th;
      bare = tt;
      run = record { under = refl; plain = λ e. refl };
      unfinished = tt;
      ended = tt;
      counted = refl;
      small = omega arith;
      few = omega arith;
      taken = omega arith;
      finished_terms = tt;
      goals = fb;
      later = fbs;
      terms = tt;
    }) (let e : half ≡ half + 8 * 0 = omega arith in let P : ℕ → Type 0 = λ m. FineGoals th m b in subst P e fb)

-- A search that ends with every goal done has proved each of the given blocks.
pub search_whole : (th : Theory) → IsWellFormed th → HasNoConditions th → (G : List Place) (l : Limits) (b : List Goal) (bs : List (List Goal)) → FineGoals th half b
    → AllByRecursion (FineGoals th half) bs → (found : List ProvedBlock) (d m : ℕ) (x : Bool) → Reaches th G l (start l (b ∷ bs)) (All_done found d m x)
    → Whole th G (b ∷ bs) found [] x m d
search_whole th wf none G l b bs fb fbs found d m x r =
    reaches_whole th wf none G l (b ∷ bs) (start l (b ∷ bs)) (All_done found d m x) (start_opened th G l b bs fb fbs) r found d m x refl
