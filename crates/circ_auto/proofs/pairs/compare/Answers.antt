use Rattle.std.proofs.Math.Bool.{beq}
use Rattle.std.proofs.Common.{◌≡◌, [], Bool, true, false, not, length, refl, ap, sym, subst, ◌∙◌, Result, Ok, Err, IfOk}
use Rattle.circ_auto.specs.Graph.{Graph, FindsGoal}
use Rattle.circ_auto.specs.Knows.{found_word}
use Rattle.circ_auto.specs.Machine.{is_accepting}
use Rattle.circ_auto.specs.Pairs.{one_of, pairs}
use Rattle.circ_auto.proofs.Product.{compared, goal_run}
use Rattle.circ_auto.proofs.pairs.compare.Goals as goal

if_ok : {T E : Type 0} {P Q : T → Type 0} (r : Result T E) → ((x : T) → P x → Q x) → IfOk r P → IfOk r Q
if_ok (Ok x) f p = f x p
if_ok (Err e) f p = tt

told_same : (a b : Bool) → not (beq a b) ≡ false → one_of a b ≡ false
told_same true true e = refl
told_same true false e = absurd (cc)
told_same false true e = absurd (cc)
told_same false false e = refl

pub begin-requires-clause-no_goal : goal.begin-requires-clause-no_goal
begin-requires-clause-no_goal c =
    let m = c.args.first.now in
    let n = c.args.second.now in
    let left : c.accepts_at.result ≡ is_accepting m m.start = c.accepts_at.ensures ∙ ap (is_accepting m) c.start.ensures.start in
    let right : c.accepts_at-2.result ≡ is_accepting n n.start = c.accepts_at-2.ensures ∙ ap (is_accepting n) c.start-2.ensures.start in
    ap (pairs m n).goal c.start_of-start.ensures.start ∙ goal_run m n c.known-2.ensures (ap length c.requires) [] tt
    ∙ ap (λ a. one_of a (is_accepting n n.start)) (sym left) ∙ ap (one_of c.accepts_at.result) (sym right)
    ∙ told_same c.accepts_at.result c.accepts_at-2.result c.if-accepts_at.false

pub returns : goal.returns
returns c =
    let m = c.args.first.now in
    let n = c.args.second.now in
    if_ok c.outcome.result
    (λ x found. let P : Graph → Type 0 = λ g. FindsGoal g (found_word x) in
    compared m n c.known-2.ensures (ap length c.requires) (found_word x) (subst P c.in_ok-search.ensures.graph found))
    c.outcome.ensures
