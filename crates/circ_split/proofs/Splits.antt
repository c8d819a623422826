-- Splits in steps.
use Rattle.std.proofs.Common.{◌≡◌, ◌≢◌, ◌≤◌, ◌<◌, ℕ, zero, suc, ◌+◌, ◌-◌, length, Bool, true, false, if◌then◌else◌, List, [], ◌∷◌, ◌++◌, drop, get_or, map, Result, Ok, Err, refl, ap, sym, subst, ◌∙◌, arith}
use Rattle.std.proofs.lemmas.List.{drop_all, drop_more}
use Rattle.circ_term.specs.Tree.{Tree}
use Rattle.circ_term.specs.Order.{is_same}
use Rattle.circ_term.proofs.Order.{same_here, same_itself}
use Rattle.circ_theory.specs.Theory.{Theory, Pair}
use Rattle.circ_theory.specs.Pairs.{plain_pair}
use Rattle.circ_theory.specs.Pairs.{PairOfTerms}
use Rattle.circ_proof.specs.Plain.{Same_why, Split_why, WhysOf, no_why, more_whys}
use Rattle.circ_rewrite.specs.declared.parts.Rule.{Rule}
use Rattle.circ_plain_search.specs.Joining.{Stop, and_then}
use Rattle.circ_plain_search.specs.Search.{Sides, Reason, reason_with, SplitReason, split_with, Splitter, case_reason, case_of}
use Rattle.circ_conditional_search.specs.Search.{normal_sides_trying, each_case_trying, open_cases_trying, first_open_of, split_cases_trying}
use Rattle.circ_plain_search.proofs.Uses.{map_append}
use Rattle.circ_proof.specs.Plain.{plain_why, plain_whys}
use Rattle.circ_proof.specs.declared.links.Why.{Why}
use Rattle.circ_join.specs.Stopping.{Stops}
use Rattle.circ_join.specs.declared.stop.Stop.{Stop as TheStop}
use Rattle.circ_join.specs.declared.stop.Stop.TheVariants as stop
use Rattle.circ_split.specs.Answers.{GivesReason, case_answer, onto}

-- a case that is assumed last
pub with_case : (old : List PairOfTerms) (p : PairOfTerms) (new : List PairOfTerms) (x : Pair) → new ≡ old ++ p ∷ [] → plain_pair p ≡ x
    → map plain_pair new ≡ map plain_pair old ++ x ∷ []
with_case old p new x e f = ap (map plain_pair) e ∙ map_append plain_pair old (p ∷ []) ∙ ap (λ y. map plain_pair old ++ y ∷ []) f

-- what an `and_then` that is Ok went through
record Through {A B E : Type 0} (r : Result A E) (f : A → Result B E) (b : B) : Type 0 where
  pub value : A
  pub first : r ≡ Ok value
  pub last : f value ≡ Ok b

through : {A B E : Type 0} (r : Result A E) (f : A → Result B E) (b : B) → and_then r f ≡ Ok b → Through r f b
through (Ok a) f b e = record { value = a; first = refl; last = e }
through (Err x) f b e = absurd (cc)

same_Ok : {A E : Type 0} (a b : A) → ◌≡◌ {A = Result A E} (Ok a) (Ok b) → a ≡ b
same_Ok a b e = cc

-- what stops a part stops the whole
pub stops_then : {A B : Type 0} (e : TheStop) (r : Result A Stop) (f : A → Result B Stop) → Stops r e → Stops (and_then r f) e
stops_then stop.Spent r f h = ap (λ x. and_then x f) h
stops_then (stop.TooBig n) r f h = ap (λ x. and_then x f) h
stops_then (stop.TooDeep n) r f h = ap (λ x. and_then x f) h
stops_then (stop.Stuck s t A) r f h = ap (λ x. and_then x f) h
stops_then stop.Memory r f h = tt

pub stops_same : {A : Type 0} (e : TheStop) (r q : Result A Stop) → r ≡ q → Stops q e → Stops r e
stops_same e r q s h = let P : Result _ Stop → Type 0 = λ x. Stops x e in subst P (sym s) h

pub onto_push : (ws : List (Why Tree)) (w : Why Tree) (k : WhysOf Tree) → onto (ws ++ w ∷ []) k ≡ onto ws (more_whys (plain_why w) k)
onto_push [] w k = refl
onto_push (v ∷ ws) w k = ap (more_whys (plain_why v)) (onto_push ws w k)

pub onto_none : (ws : List (Why Tree)) → onto ws no_why ≡ plain_whys ws
onto_none [] = refl
onto_none (v ∷ ws) = ap (more_whys (plain_why v)) (onto_none ws)

each_term : (th : Theory) (R : List Rule) (again : Splitter) (A : List Pair) (u s t : Tree) (cs : List ℕ) (k : ℕ) (b : SplitReason) → each_case_trying th R again A u s t cs k ≡ Ok b → b.term ≡ u
each_term th R again A u s t [] k b e = ap (λ x. x.term) (sym (same_Ok (split_with u no_why k) b e))
each_term th R again A u s t (c ∷ cs) k b e =
    let x : Through (and_then (normal_sides_trying th R (A ++ case_of u c ∷ []) s t k) (case_reason again (A ++ case_of u c ∷ [])))
    (λ r. and_then (each_case_trying th R again A u s t cs r.budget) (λ d. Ok (split_with u (more_whys r.why d.whys) d.budget))) b = through _ _ b e in
    let z : Through (each_case_trying th R again A u s t cs x.value.budget) (λ d. Ok (split_with u (more_whys x.value.why d.whys) d.budget)) b = through _ _ b x.last in
    ap (λ y. y.term) (sym (same_Ok (split_with u (more_whys x.value.why z.value.whys) z.value.budget) b z.last))

abbrev pub Rest : Result SplitReason Stop → Result SplitReason Stop → List (Why Tree) → Type 0
Rest whole rest ws = whole ≡ and_then rest (λ b. Ok (split_with b.term (onto ws b.whys) b.budget))

pub rest_start : (r : Result SplitReason Stop) → Rest r r []
rest_start (Ok b) = refl
rest_start (Err e) = refl

-- one case more
pub rest_next : (th : Theory) (R : List Rule) (room : ℕ) (A : List Pair) (u s t : Tree) (cs : List ℕ) (i k l : ℕ) (v : Why Tree) (whole : Result SplitReason Stop) (ws : List (Why Tree))
    → i < length cs → Rest whole (each_case_trying th R (split_cases_trying th R room) A u s t (drop i cs) k) ws
    → case_answer th R room (A ++ case_of u (get_or cs i 0) ∷ []) s t k ≡ Ok (reason_with (plain_why v) l) → Rest whole (each_case_trying th R (split_cases_trying th R room) A u s t (drop (i + 1) cs) l) (ws ++ v ∷ [])
rest_next th R room A u s t cs i k l v whole ws h r one =
    let read = drop_more cs i 0 h in
    let q = rw (read) at r in
    let z = rw one at q in
    z ∙ go (each_case_trying th R (split_cases_trying th R room) A u s t (drop (i + 1) cs) l) (λ b e. each_term th R (split_cases_trying th R room) A u s t (drop (i + 1) cs) l b e)
  where
    go : (o : Result SplitReason Stop) → ((b : SplitReason) → o ≡ Ok b → b.term ≡ u)
        → and_then (and_then o (λ d. Ok (split_with u (more_whys (plain_why v) d.whys) d.budget))) (λ b. Ok (split_with b.term (onto ws b.whys) b.budget)) ≡ and_then o (λ b. Ok (split_with b.term (onto (ws ++ v ∷ []) b.whys) b.budget))
    go (Ok b) f = ap (λ x. Ok (split_with x (onto ws (more_whys (plain_why v) b.whys)) b.budget)) (sym (f b refl)) ∙ ap (λ x. Ok (split_with b.term x b.budget)) (sym (onto_push ws v b.whys))
    go (Err e) f = refl

-- a case that stops
pub rest_stops : (th : Theory) (R : List Rule) (room : ℕ) (A : List Pair) (u s t : Tree) (cs : List ℕ) (i k : ℕ) (whole : Result SplitReason Stop) (ws : List (Why Tree)) (e : TheStop)
    → i < length cs → Rest whole (each_case_trying th R (split_cases_trying th R room) A u s t (drop i cs) k) ws
    → Stops (case_answer th R room (A ++ case_of u (get_or cs i 0) ∷ []) s t k) e → Stops whole e
rest_stops th R room A u s t cs i k whole ws e h r one =
    let read = drop_more cs i 0 h in
    let q = rw (read) at r in
    stops_same e whole _ q
    (stops_then e _ (λ b. Ok (split_with b.term (onto ws b.whys) b.budget))
    (stops_then e (case_answer th R room (A ++ case_of u (get_or cs i 0) ∷ []) s t k)
    (λ x. and_then (each_case_trying th R (split_cases_trying th R room) A u s t (drop (i + 1) cs) x.budget) (λ d. Ok (split_with u (more_whys x.why d.whys) d.budget))) one))

pub rest_end : (th : Theory) (R : List Rule) (room : ℕ) (A : List Pair) (u s t : Tree) (cs : List ℕ) (i k : ℕ) (whole : Result SplitReason Stop) (ws : List (Why Tree)) → length cs ≤ i
    → Rest whole (each_case_trying th R (split_cases_trying th R room) A u s t (drop i cs) k) ws → whole ≡ Ok (split_with u (plain_whys ws) k)
rest_end th R room A u s t cs i k whole ws h r =
    let z = rw (drop_all i cs h) at r in
    z ∙ ap (λ x. Ok (split_with u x k)) (onto_none ws)

-- with room for a split
pub split_open : (th : Theory) (R : List Rule) (n : ℕ) (A : List Pair) (s t : Tree) (k : ℕ) → n ≢ 0
    → split_cases_trying th R n A s t k ≡ open_cases_trying th R (split_cases_trying th R (n - 1)) (first_open_of th s t) A s t k
split_open th R zero A s t k h = absurd (h refl)
split_open th R (suc m) A s t k h =
    let e : m ≡ suc m - 1 = omega arith in
    ap (λ j. open_cases_trying th R (split_cases_trying th R j) (first_open_of th s t) A s t k) e

-- what a case gives, once its sides are there
pub case_given : (r : Result Sides Stop) (f : Sides → Result Reason Stop) (n : Sides) (k : ℕ) (w : Result (Why Tree) TheStop) → r ≡ Ok n
    → GivesReason (f n) k w → GivesReason (and_then r f) k w
case_given r f n k w e g = let P : Result Sides Stop → Type 0 = λ x. GivesReason (and_then x f) k w in subst P (sym e) g

-- sides that are the same end it
pub case_ends : (again : Splitter) (A : List Pair) (n : Sides) → n.left ≡ n.right → case_reason again A n ≡ Ok (reason_with (Same_why n.chain) n.budget)
case_ends again A n same =
    let P : Tree → Type 0 = λ x. is_same n.left x ≡ true in
    let z : is_same n.left n.right ≡ true = subst P same (same_itself n.left) in
    ap (λ b. if b then Ok (reason_with (Same_why n.chain) n.budget) else and_then (again A n.left n.right n.budget) (λ c. Ok (reason_with (Split_why n.chain c.term c.whys) c.budget))) z

-- sides that differ are split again
pub case_splits : (again : Splitter) (A : List Pair) (n : Sides) → (n.left ≡ n.right → ⊥)
    → case_reason again A n ≡ and_then (again A n.left n.right n.budget) (λ c. Ok (reason_with (Split_why n.chain c.term c.whys) c.budget))
case_splits again A n differ =
    ap (λ b. if b then Ok (reason_with (Same_why n.chain) n.budget) else and_then (again A n.left n.right n.budget) (λ c. Ok (reason_with (Split_why n.chain c.term c.whys) c.budget)))
    (no_test (is_same n.left n.right) refl)
  where
    no_test : (b : Bool) → is_same n.left n.right ≡ b → is_same n.left n.right ≡ false
    no_test true z = absurd (differ (same_here n.left n.right z))
    no_test false z = z
