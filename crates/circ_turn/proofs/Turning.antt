-- Turns in steps.
use Rattle.std.proofs.Common.{◌≡◌, ℕ, ◌≤◌, ◌<◌, ◌+◌, ◌^◌, length, Bool, true, false, not, ◌||◌, ◌==◌, if◌then◌else◌, List, [], ◌∷◌, ◌++◌, map, drop, Option, Some, None, Result, Ok, Err, refl, ap, sym, subst, ◌∙◌, arith}
use Rattle.std.specs.Prelude.{nat_le}
use Rattle.std.specs.List.{AllByRecursion}
use Rattle.circ_term.specs.Tree.{Tree}
use Rattle.circ_term.specs.Limits.{Limit}
use Rattle.circ_theory.specs.Theory.{Theory, Pair, goal}
use Rattle.circ_theory.specs.Goal.{Goal}
use Rattle.circ_special.specs.declared.place.Place.{Place}
use Rattle.circ_proof.specs.Plain.{LinkOf, ChainOf, WhyOf, Same_why, Split_why}
use Rattle.circ_proof.specs.Rules.{Simplify, Done, derivatives_on}
use Rattle.circ_proof.specs.Proof.{step_limit, split_limit}
use Rattle.circ_rewrite.specs.declared.parts.Rule.{Rule}
use Rattle.circ_rewrite.specs.declared.fault.RewriteFault.{RewriteFault}
use Rattle.circ_rewrite.specs.declared.fault.RewriteFault.TheVariants as fault
use Rattle.circ_conditional_norm.specs.Work.{Work, Made}
use Rattle.circ_tries.specs.Trying.{Hinders}
use Rattle.circ_plain_search.specs.BlockRules.{block_rules}
use Rattle.circ_plain_search.specs.Joining.{Stop, HypothesisUse, use_link, and_then, put_all}
use Rattle.circ_plain_search.specs.Search.{Limits, Standing, Ending, Sides, SplitReason, chain_with, chained, no_links, has_links, is_nil, or_end, spent, record_step, goals_limit, derive_turn, with_this, begun, next_block, done_turn}
use Rattle.circ_conditional_search.specs.Coming.{HasFewConditions, IsSmallTrying}
use Rattle.circ_conditional_search.specs.Joining.{Swept, joined_trying}
use Rattle.circ_conditional_search.specs.Search.{Manner, condition_normaliser, normal_sides_trying, split_cases_trying, step_is_deep, step_recorded, with_sides_of, goal_reduced, goal_simplified, cases_turn, derives_turn, visible_turn_trying, worked, swept_sides_trying, pass_turn_trying, join_turn_trying, sides_turn_trying, goal_turn_trying}
use Rattle.circ_memo.specs.Value.{Rewriting}
use Rattle.circ_join.specs.Stopping.{Stops, rewrite_stop}
use Rattle.circ_join.specs.Trying.{normaliser_of}
use Rattle.circ_join.specs.Uses.{plain_uses}
use Rattle.circ_join.specs.declared.uses.HypothesisUse.{HypothesisUse as TheUse}
use Rattle.circ_split.specs.Answers.{GivesSides, GivesCases}
use Rattle.circ_split.specs.declared.sides.Sides.{Sides as TheSides}
use Rattle.circ_split.specs.declared.splitting.Cases.{Cases as TheCases}
use Rattle.circ_join.specs.declared.stop.Stop.{Stop as TheStop}
use Rattle.circ_join.specs.declared.stop.Stop.TheVariants as stop
use Rattle.circ_turn.specs.declared.end.End.{End}
use Rattle.circ_turn.specs.declared.end.End.TheVariants as end
use Rattle.circ_turn.specs.Standing.{unlinked, with_budget}
use Rattle.circ_turn.specs.Ending.{EndsAs, GoesTo, GoesUnlinked, IsEnd, end_by, cases_made, swept_turn, reducing}

same_Ok : {A E : Type 0} (a b : A) → ◌≡◌ {A = Result A E} (Ok a) (Ok b) → a ≡ b
same_Ok a b e = cc

-- what ends a part ends the whole
pub ends_then : {A B : Type 0} (e : End) (r : Result A Ending) (f : A → Result B Ending) → EndsAs r e → EndsAs (and_then r f) e
ends_then (end.Stuck b g s t A) r f h = ap (λ x. and_then x f) h
ends_then (end.Spent r1 d m) r f h = ap (λ x. and_then x f) h
ends_then (end.TooBig n) r f h = ap (λ x. and_then x f) h
ends_then (end.TooDeep n) r f h = ap (λ x. and_then x f) h
ends_then end.Memory r f h = tt

pub ends_same : {A : Type 0} (e : End) (r q : Result A Ending) → r ≡ q → EndsAs q e → EndsAs r e
ends_same e r q s h = let P : Result _ Ending → Type 0 = λ x. EndsAs x e in subst P (sym s) h

-- what stops a part ends the search
pub stops_end : {A : Type 0} (l : Limits) (st : Standing) (e : TheStop) (r : Result A Stop) → Stops r e → EndsAs (or_end l st r) (end_by l st e)
stops_end l st stop.Spent r h = ap (or_end l st) h
stops_end l st (stop.TooBig n) r h = ap (or_end l st) h
stops_end l st (stop.TooDeep n) r h = ap (or_end l st) h
stops_end l st (stop.Stuck s t A) r h = ap (or_end l st) h
stops_end l st stop.Memory r h = tt

-- a part that stops ends the whole
pub part_ends : {A B : Type 0} (l : Limits) (st : Standing) (e : TheStop) (r : Result A Stop) (f : A → Result B Ending) → Stops r e → EndsAs (and_then (or_end l st r) f) (end_by l st e)
part_ends l st e r f h = ends_then (end_by l st e) (or_end l st r) f (stops_end l st e r h)

-- work that is hindered ends the search
pub work_ends : {A B : Type 0} (l : Limits) (st : Standing) (e : RewriteFault) (left : ℕ) (w : Work A) (f : A → Standing → Result B Ending) → Hinders e left w
    → EndsAs (worked l st w f) (end_by l st (rewrite_stop e))
work_ends l st fault.Spent left w f h = ap (λ x. worked l st x f) h.0
work_ends l st (fault.TooBig n) left w f h = ap (λ x. worked l st x f) h
work_ends l st (fault.TooDeep n) left w f h = ap (λ x. worked l st x f) h
work_ends l st fault.Memory left w f h = tt

pub goes_same : {X : Type 0} (r q : Result Standing Ending) (st : Standing) (x : Result X End) → r ≡ q → GoesTo q st x → GoesTo r st x
goes_same r q st x s h = let P : Result Standing Ending → Type 0 = λ y. GoesTo y st x in subst P (sym s) h

-- how conditions are normalised by the rules of a block
pub normaliser_is : (th : Theory) (E : List Goal) (A : List Pair) (r : Rewriting) → r ≡ reducing th E A → normaliser_of r ≡ condition_normaliser th E A
normaliser_is th E A r e = ap normaliser_of e

-- the rules of a block under the conditions of a goal
pub reducing_is : (th : Theory) (E : List Goal) (A B : List Pair) (r : Rewriting) → r ≡ reducing th E A → A ≡ B → r ≡ reducing th E B
reducing_is th E A B r e s = e ∙ ap (reducing th E) s

-- the sides in normal form by the rules of a block under the conditions of a goal
pub sides_here : (th : Theory) (E : List Goal) (A : List Pair) (red : Rewriting) (s t : Tree) (k left : ℕ) (r : Result TheSides TheStop) → red ≡ reducing th E A
    → GivesSides (normal_sides_trying red.theory red.rules red.assumptions s t k) left r
    → GivesSides (normal_sides_trying th (block_rules th E) A s t k) left r
sides_here th E A red s t k left r e h =
    let P : Rewriting → Type 0 = λ x. GivesSides (normal_sides_trying x.theory x.rules x.assumptions s t k) left r in subst P e h

-- the cases by the rules of a block under the conditions of a goal
pub cases_here : (th : Theory) (R S : List Rule) (A B : List Pair) (s t : Tree) (k left : ℕ) (r : Result TheCases TheStop) → R ≡ S → A ≡ B
    → GivesCases (split_cases_trying th R split_limit A s t k) left r → GivesCases (split_cases_trying th S split_limit B s t k) left r
cases_here th R S A B s t k left r rules conds h =
    let P : List Rule → Type 0 = λ x. GivesCases (split_cases_trying th x split_limit A s t k) left r in
    let Q : List Pair → Type 0 = λ x. GivesCases (split_cases_trying th S split_limit x s t k) left r in
    subst Q conds (subst P rules h)

-- ---- the links of the goal in hand count no more

pub reduced_unlinked : (th : Theory) (l : Limits) (st : Standing) (rest : List Goal) (why : WhyOf Tree) → goal_reduced th l (unlinked st) rest why ≡ goal_reduced th l st rest why
reduced_unlinked th l st rest why = go (nat_le step_limit st.made) refl
  where
    go : (b : Bool) → nat_le step_limit st.made ≡ b → goal_reduced th l (unlinked st) rest why ≡ goal_reduced th l st rest why
    go true e = rw e refl
    go false e = rw e refl

pub derive_unlinked : (th : Theory) (l : Limits) (st : Standing) (g : Goal) (rest : List Goal) → derive_turn th l (unlinked st) g rest ≡ derive_turn th l st g rest
derive_unlinked th l st g rest = go (nat_le step_limit st.made) (goals_limit (derivatives_on th g)) refl refl
  where
    go : (b : Bool) (o : Option Limit) → nat_le step_limit st.made ≡ b → goals_limit (derivatives_on th g) ≡ o → derive_turn th l (unlinked st) g rest ≡ derive_turn th l st g rest
    go true o e z = rw e refl
    go false None e z = rw (e, z) refl
    go false (Some x) e z = rw (e, z) refl

pub cases_unlinked : (th : Theory) (l : Limits) (st : Standing) (g : Goal) (rest : List Goal) (u : Tree) → cases_made th l (unlinked st) g rest u ≡ cases_made th l st g rest u
cases_unlinked th l st g rest u = go (nat_le step_limit st.made) refl
  where
    go : (b : Bool) → nat_le step_limit st.made ≡ b → cases_made th l (unlinked st) g rest u ≡ cases_made th l st g rest u
    go true e = rw e refl
    go false e = rw e refl

-- a standing that is reached from one whose links count no more
unlinked_then : {X Y : Type 0} (r : Result Standing Ending) (f : Standing → Result Standing Ending) (mid new : Standing) (x : Result X End) (u : Y)
    → ((y : Standing) → f (unlinked y) ≡ f y) → GoesUnlinked {X = Y} r mid (Ok u) → GoesTo (f mid) new x → GoesTo (and_then r f) new x
unlinked_then {X = X} r f mid new x u same h g =
    let P : Result Standing Ending → Type 0 = λ q. GoesTo {X = X} q new x in
    let Q : Standing → Type 0 = λ z. GoesTo {X = X} (f z) new x in
    subst P (sym (ap (λ q. and_then q f) h.1)) (subst P (same h.0) (subst Q h.2 g))

-- a Simplify step, and then Cases
pub cases_go : {X Y : Type 0} (th : Theory) (l : Limits) (st mid new : Standing) (g : Goal) (rest : List Goal) (t : Tree) (x : Result X End) (u : Y)
    → GoesUnlinked {X = Y} (goal_simplified th l st) mid (Ok u) → GoesTo (cases_made th l mid g rest t) new x → GoesTo (cases_turn th l st g rest t) new x
cases_go th l st mid new g rest t x u h k =
    unlinked_then (goal_simplified th l st) (λ z. cases_made th l z g rest t) mid new x u (λ y. cases_unlinked th l y g rest t) h k

-- a Simplify step, and then Derive, where the budget has a Derive left
pub derives_go : {X Y : Type 0} (th : Theory) (l : Limits) (st mid new : Standing) (g : Goal) (rest : List Goal) (x : Result X End) (u : Y)
    → nat_le l.derives st.derives ≡ false → GoesUnlinked {X = Y} (goal_simplified th l st) mid (Ok u) → GoesTo (derive_turn th l mid g rest) new x
    → GoesTo (derives_turn th l st g rest) new x
derives_go {X = X} th l st mid new g rest x u e h k =
    let P : Bool → Type 0 = λ b. GoesTo {X = X} (if b then Err (spent l st) else and_then (goal_simplified th l st) (λ z. derive_turn th l z g rest)) new x in
    subst P (sym e) (unlinked_then (goal_simplified th l st) (λ z. derive_turn th l z g rest) mid new x u (λ y. derive_unlinked th l y g rest) h k)

-- ---- a Simplify step

some_left : {X : Type 0} (f : X → LinkOf Tree) (xs : List X) (ys : List (LinkOf Tree)) → (length xs == 0) ≡ false → not (is_nil (map f xs ++ ys)) ≡ true
some_left f [] ys e = absurd (cc)
some_left f (x ∷ xs) ys e = refl

-- a chain has a link where its left side has
pub has_left : {X Y : Type 0} (f : X → LinkOf Tree) (g : Y → LinkOf Tree) (ls : List X) (rs : List Y) → (length ls == 0) ≡ false
    → has_links (chain_with (map f ls) (map g rs)) ≡ true
has_left f g ls rs e = some_left f ls (map g rs) e

no_links_left : (c : ChainOf Tree) → has_links c ≡ false → c ≡ no_links
no_links_left c e = go c.left c.right e
  where
    go : (ls rs : List (LinkOf Tree)) → not (is_nil (ls ++ rs)) ≡ false → chain_with ls rs ≡ no_links
    go [] [] e = refl
    go [] (r ∷ rs) e = absurd (cc)
    go (x ∷ ls) rs e = absurd (cc)

pub nothing_simplified : (th : Theory) (l : Limits) (st : Standing) → has_links st.chain ≡ false → (x : Standing) × (goal_simplified th l st ≡ Ok x) × (st ≡ unlinked x)
nothing_simplified th l st e = (st, rw e refl, ap (λ c. record st { chain = c }) (no_links_left st.chain e))

pub simplified_goes : {X : Type 0} (th : Theory) (l : Limits) (st mid new : Standing) (c : ChainOf Tree) (r : Result X End) → has_links st.chain ≡ true → mid ≡ unlinked st
    → c ≡ st.chain → GoesTo (step_recorded th l mid (Simplify c)) new r → GoesUnlinked (goal_simplified th l st) new r
simplified_goes {X = X} th l st mid new c r h m e g =
    let P : Standing → Type 0 = λ x. GoesTo (step_recorded th l x (Simplify c)) new r in
    let Q : ChainOf Tree → Type 0 = λ x. GoesTo (step_recorded th l (unlinked st) (Simplify x)) new r in
    let k : GoesTo (step_recorded th l (unlinked st) (Simplify st.chain)) new r = subst Q e (subst P m g) in
    go r (nat_le step_limit st.made) refl k
  where
    whole : goal_simplified th l st ≡ step_recorded th l st (Simplify st.chain)
    whole = rw h refl

    go : (r : Result X End) (b : Bool) → nat_le step_limit st.made ≡ b → GoesTo (step_recorded th l (unlinked st) (Simplify st.chain)) new r → GoesUnlinked (goal_simplified th l st) new r
    go (Ok x) true z k = absurd (let y = rw z at k in cc)
    go (Ok x) false z k =
        let y = rw z at k in
        let t : goal_simplified th l st ≡ Ok (record st { steps = st.steps ++ Simplify st.chain ∷ []; made = st.made + 1; deep = st.deep || step_is_deep th st.hypotheses (Simplify st.chain) }) = whole ∙ rw z refl in
        (_, t, sym (same_Ok _ new y))
    go (Err x) true z k = ends_same x (goal_simplified th l st) (step_recorded th l (unlinked st) (Simplify st.chain)) (whole ∙ rw z refl) k
    go (Err x) false z k = other x (rw z at k)
      where
        other : (x : End) → EndsAs (Ok (record (unlinked st) { steps = st.steps ++ Simplify st.chain ∷ []; made = st.made + 1; deep = st.deep || step_is_deep th st.hypotheses (Simplify st.chain) })) x → EndsAs (goal_simplified th l st) x
        other (end.Stuck b g s t A) q = absurd (cc)
        other (end.Spent r1 d m) q = absurd (cc)
        other (end.TooBig n) q = absurd (cc)
        other (end.TooDeep n) q = absurd (cc)
        other end.Memory q = tt

-- ---- parts of a turn

pub visible_goes : (th : Theory) (l : Limits) (st mid : Standing) (g : Goal) (rest : List Goal) (c : SplitReason) (why : WhyOf Tree)
    → split_cases_trying th (block_rules th st.earlier) split_limit g.conds g.left g.right st.budget ≡ Ok c → mid ≡ unlinked (record st { budget = c.budget })
    → why ≡ Split_why st.chain c.term c.whys → visible_turn_trying th l st g rest ≡ goal_reduced th l mid rest why
visible_goes th l st mid g rest c why e m w =
    let f : SplitReason → Result Standing Ending = λ c. goal_reduced th l (record st { budget = c.budget }) rest (Split_why st.chain c.term c.whys) in
    ap (λ x. and_then (or_end l st x) f) e
    ∙ sym (reduced_unlinked th l (record st { budget = c.budget }) rest (Split_why st.chain c.term c.whys))
    ∙ ap (goal_reduced th l (unlinked (record st { budget = c.budget })) rest) (sym w) ∙ ap (λ x. goal_reduced th l x rest why) (sym m)

pub join_goes : (th : Theory) (G : List Place) (m : Manner) (st mid : Standing) (g : Goal) (rest : List Goal) (us : List HypothesisUse) (u : Tree) (why : WhyOf Tree)
    → put_all g.left us ≡ Ok u → mid ≡ unlinked st → why ≡ Same_why (chained st.chain (chain_with (map use_link us) []))
    → join_turn_trying th G m st g rest (Some us) ≡ goal_reduced th m.limits mid rest why
join_goes th G m st mid g rest us u why e d w =
    let end_why : WhyOf Tree = Same_why (chained st.chain (chain_with (map use_link us) [])) in
    let f : Tree → Result Standing Ending = λ u. goal_reduced th m.limits st rest end_why in
    ap (λ x. and_then (or_end m.limits st x) f) e
    ∙ sym (reduced_unlinked th m.limits st rest end_why) ∙ ap (goal_reduced th m.limits (unlinked st) rest) (sym w) ∙ ap (λ x. goal_reduced th m.limits x rest why) (sym d)

-- what is made of the sides is what the pass makes of the goal
pub pass_turn_goes : {X : Type 0} (th : Theory) (G : List Place) (m : Manner) (st : Standing) (g : Goal) (rest : List Goal) (w : Swept × Swept) (k : ℕ) (new : Standing)
    (r : Result X End) → swept_sides_trying th G st.earlier g st.budget ≡ Made w k → GoesTo (swept_turn th m (with_budget st k) g rest w) new r
    → GoesTo (pass_turn_trying th G m st g rest) new r
pass_turn_goes th G m st g rest w k new r e h =
    goes_same (pass_turn_trying th G m st g rest) (swept_turn th m (with_budget st k) g rest w) new r
    (ap (λ x. worked m.limits st x (λ v y. swept_turn th m y g rest v)) e) h

-- what is made of the goal where it is known whether its sides join
pub sides_turn_goes : {X : Type 0} (th : Theory) (G : List Place) (m : Manner) (st : Standing) (g : Goal) (rest : List Goal) (o : Option (List HypothesisUse)) (k : ℕ)
    (new : Standing) (r : Result X End)
    → joined_trying (condition_normaliser th st.earlier g.conds) G st.hypotheses [] g.left g.right st.budget ≡ Made o k
    → GoesTo (join_turn_trying th G m (with_budget st k) g rest o) new r → GoesTo (sides_turn_trying th G m st g rest) new r
sides_turn_goes th G m st g rest o k new r e h =
    goes_same (sides_turn_trying th G m st g rest) (join_turn_trying th G m (with_budget st k) g rest o) new r
    (ap (λ x. worked m.limits st x (λ v y. join_turn_trying th G m y g rest v)) e) h

pub goal_goes : (th : Theory) (G : List Place) (m : Manner) (st : Standing) (g : Goal) (rest : List Goal) (n : Sides)
    → normal_sides_trying th (block_rules th st.earlier) g.conds g.left g.right st.budget ≡ Ok n
    → goal_turn_trying th G m st g rest ≡ sides_turn_trying th G m (with_sides_of st g rest n) (goal g.conds n.left n.right) rest
goal_goes th G m st g rest n e =
    let f : Sides → Result Standing Ending = λ n. sides_turn_trying th G m (with_sides_of st g rest n) (goal g.conds n.left n.right) rest in
    ap (λ x. and_then (or_end m.limits st x) f) e

done_goes : (th : Theory) (l : Limits) (st x : Standing) → record_step th l st Done ≡ Ok x → done_turn th l st ≡ next_block x x.later
done_goes th l st x e = ap (λ r. and_then r (λ x. next_block x x.later)) e

-- where a block begins, the goals of those before it are few
pub few_earlier : (th : Theory) (l : Limits) (st x : Standing) (b : List Goal) (bs : List (List Goal)) → record_step th l st Done ≡ Ok x → x.later ≡ b ∷ bs
    → ((y : Standing) → done_turn th l st ≡ Ok y → IsSmallTrying y) → length (x.earlier ++ x.goals) ≤ step_limit
few_earlier th l st x b bs e later next =
    let y : Standing = begun (with_this x) (x.earlier ++ x.goals) b bs x.budget x.derives x.made x.deep in
    let small : IsSmallTrying y = next y (done_goes th l st x e ∙ ap (next_block x) later) in
    small.earlier

-- the chain that Join leaves
pub joined_why : (c : ChainOf Tree) (ls rs more us new : List (LinkOf Tree)) → chain_with ls rs ≡ c → more ≡ us → new ≡ ls ++ more
    → Same_why (chain_with new rs) ≡ Same_why (chained c (chain_with us []))
joined_why c ls rs more us new a b e =
    let left : new ≡ c.left ++ us = e ∙ ap (λ x. ls ++ x) b ∙ ap (λ x. x.left ++ us) a in
    let right : rs ≡ c.right ++ [] = sym (nil_right rs) ∙ ap (λ x. x.right ++ []) a in
    ap (λ x. Same_why (chain_with x rs)) left ∙ ap (λ x. Same_why (chain_with (c.left ++ us) x)) right
  where
    nil_right : (xs : List (LinkOf Tree)) → xs ++ [] ≡ xs
    nil_right [] = refl
    nil_right (x ∷ xs) = ap (λ r. x ∷ r) (nil_right xs)

pub map_append : {X Y : Type 0} (f : X → Y) (xs ys : List X) → map f (xs ++ ys) ≡ map f xs ++ map f ys
map_append f [] ys = refl
map_append f (x ∷ xs) ys = ap (λ r. f x ∷ r) (map_append f xs ys)

-- what holds of the goal that is looked at holds of the queue's first
pub each_front : (Q : List Goal) (h : Goal) (P : Goal → List Goal → Type 0) → Q ≡ h ∷ drop 1 Q → P h (drop 1 Q) → (g : Goal) (rest : List Goal) → Q ≡ g ∷ rest → P g rest
each_front Q h P a p g rest e =
    let z : h ≡ g = first (h ∷ drop 1 Q) h g (drop 1 Q) rest refl (sym a ∙ e) in
    let y : drop 1 Q ≡ rest = ap (drop 1) e in
    subst (λ x. P g x) y (subst (λ x. P x (drop 1 Q)) z p)
  where
    first : (R : List Goal) (h g : Goal) (xs ys : List Goal) → R ≡ h ∷ xs → R ≡ g ∷ ys → h ≡ g
    first R h g xs ys a b = let z = sym a ∙ b in cc

-- the goal in hand is the first of the queue as it stands now
pub normal_turn_goes : {X : Type 0} (th : Theory) (G : List Place) (m : Manner) (mid : Standing) (g : Goal) (rest : List Goal) (Q : List Goal) (at : Standing) (new : Standing)
    (r : Result X End) → at ≡ mid → Q ≡ at.queue → drop 1 mid.queue ≡ rest → GoesTo (sides_turn_trying th G m at g (drop 1 Q)) new r
    → GoesTo (sides_turn_trying th G m mid g rest) new r
normal_turn_goes {X = X} th G m mid g rest Q at new r e queue d h =
    let tail : drop 1 Q ≡ rest = ap (drop 1) (queue ∙ ap (λ x. x.queue) e) ∙ d in
    let P : List Goal → Type 0 = λ x. GoesTo {X = X} (sides_turn_trying th G m at g x) new r in
    let M : Standing → Type 0 = λ x. GoesTo {X = X} (sides_turn_trying th G m x g rest) new r in
    subst M e (subst P tail h)

pub goal_turn_goes : {X : Type 0} (th : Theory) (G : List Place) (m : Manner) (st : Standing) (g : Goal) (rest : List Goal) (h : Goal) (n : Sides) (new : Standing)
    (r : Result X End) → normal_sides_trying th (block_rules th st.earlier) g.conds g.left g.right st.budget ≡ Ok n → h.conds ≡ g.conds → n.left ≡ h.left → n.right ≡ h.right
    → GoesTo (sides_turn_trying th G m (with_sides_of st h rest n) h rest) new r → GoesTo (goal_turn_trying th G m st g rest) new r
goal_turn_goes {X = X} th G m st g rest h n new r e cs ls rs k =
    let whole : h ≡ goal g.conds n.left n.right = ap (λ c. goal c h.left h.right) cs ∙ ap (λ t. goal g.conds t h.right) (sym ls) ∙ ap (goal g.conds n.left) (sym rs) in
    let P : Goal → Type 0 = λ q. GoesTo {X = X} (sides_turn_trying th G m (with_sides_of st q rest n) q rest) new r in
    goes_same (goal_turn_trying th G m st g rest) (sides_turn_trying th G m (with_sides_of st g rest n) (goal g.conds n.left n.right) rest) new r (goal_goes th G m st g rest n e)
    (subst P whole k)

-- a standing is as small with another budget
pub small_budget : (st : Standing) (k : ℕ) → IsSmallTrying st → IsSmallTrying (with_budget st k)
small_budget st k s = record {
  hypotheses = s.hypotheses;
  earlier = s.earlier;
  finished = s.finished;
  taken = s.taken;
  derives = s.derives;
  made = s.made;
  few_conds = s.few_conds;
}

-- and with another goal in hand, which has few conditions
pub small_hand : (st : Standing) (h : Goal) (n : Sides) → HasFewConditions h → IsSmallTrying st → IsSmallTrying (with_sides_of st h (drop 1 st.queue) n)
small_hand st h n few s = record {
  hypotheses = s.hypotheses;
  earlier = s.earlier;
  finished = s.finished;
  taken = s.taken;
  derives = s.derives;
  made = s.made;
  few_conds = (few, rest_few st.queue s.few_conds);
}
  where
    rest_few : (gs : List Goal) → AllByRecursion HasFewConditions gs → AllByRecursion HasFewConditions (drop 1 gs)
    rest_few [] a = tt
    rest_few (g ∷ gs) a = a.1

-- the first goal of the queue has few conditions
pub front_few : (Q : List Goal) (g : Goal) (rest : List Goal) → Q ≡ g ∷ rest → AllByRecursion HasFewConditions Q → length g.conds < 2 ^ 32
front_few Q g rest e a = let P : List Goal → Type 0 = AllByRecursion HasFewConditions in let few = (subst P e a).0 in omega (arith, few)

-- the ending that is told is such
pub is_end : {A : Type 0} (R : Ending → Type 0) (r : Result A Ending) (e : End) → ((x : Ending) → r ≡ Err x → R x) → EndsAs r e → IsEnd R e
is_end R r (end.Stuck b g s t A) f h = f _ h
is_end R r (end.Spent r1 d m) f h = f _ h
is_end R r (end.TooBig n) f h = f _ h
is_end R r (end.TooDeep n) f h = f _ h
is_end R r end.Memory f h = tt
