-- What a step acts on, and the steps after it.
use Rattle.std.proofs.Common.{◌≡◌, ◌≤◌, arith, ℕ, List, [], ◌∷◌, ◌++◌, map, length, refl, ap, sym, ◌∙◌, subst, append_assoc, append-nil}
use Rattle.std.specs.List.{AllByRecursion}
use Rattle.std.proofs.lemmas.List.{length-map}
use Rattle.circ_book.specs.declared.histories.Met.{Met}
use Rattle.circ_term.specs.Tree.{Tree, sort_of}
use Rattle.circ_theory.specs.Theory.{Theory, Pair, goal, sides, Derivative}
use Rattle.circ_theory.specs.Fresh.{fresh_in, derivatives_of}
use Rattle.circ_theory.specs.Goal.{Goal}
use Rattle.circ_special.specs.declared.place.Place.{Place}
use Rattle.circ_proof.specs.Plain.{ChainOf, map_chain}
use Rattle.circ_proof.specs.Link.{setting, Leads}
use Rattle.circ_proof.specs.Justified.{ChainLeads}
use Rattle.circ_proof.specs.Proof.{IsPlainStep}
use Rattle.circ_proof.specs.Rules.{State, state, ProofStep, Simplify, Reduce, Derive, Cases, Done, map_step, StepOf, StepsOf, derived_goal, derivatives_on}
use Rattle.circ_proof.proofs.Stepping.{step_one}
use Rattle.circ_expansion.specs.Followed.{led_all, led_goal, told, and_simplified, and_reduced, and_derived}
use Rattle.circ_proof.specs.PlainProof.{plain_step, plain_steps}
use Rattle.circ_proof.specs.declared.proof.Step.{Step}
use Rattle.circ_book.specs.Histories.{Meeting, meetings, Meets, Lengthens, told_from, meeting_of}
use Rattle.circ_expansion.proofs.Led.{links_led}

abbrev pub HaveNone : List Goal → Type 0
HaveNone gs = AllByRecursion (λ (g : Goal). g.conds ≡ []) gs

none_append : (gs hs : List Goal) → HaveNone gs → HaveNone hs → HaveNone (gs ++ hs)
none_append [] hs a b = b
none_append (g ∷ gs) hs a b = (a.0, none_append gs hs a.1 b)

derived_none : (p : Goal) (k : ℕ) → p.conds ≡ [] → (ds : List Derivative) → HaveNone (map (λ d. derived_goal d p k) ds)
derived_none p k e [] = tt
derived_none p k e (d ∷ ds) = (e, derived_none p k e ds)

pub record IsNext (th : Theory) (G : List Place) (p : Goal) (ps H : List Goal) (s : ProofStep Tree) (ss : List (ProofStep Tree)) (b : State) : Type 0 where
  pub goals : HaveNone b.goals
  pub met : meetings th G H (p ∷ ps) (s ∷ ss) ≡ (p, length ps) ∷ meetings th G b.hypotheses b.goals ss

-- the state after a step on a goal
pub is_next : (th : Theory) (G : List Place) (p : Goal) (ps H : List Goal) (f : ℕ → Tree) (s : ProofStep ℕ) (ss : List (ProofStep Tree)) (b : State)
    → IsPlainStep s → HaveNone (p ∷ ps) → StepOf th G (map_step f s) (state H (p ∷ ps)) b → IsNext th G p ps H (map_step f s) ss b
is_next th G p ps H f (Simplify raw) ss b i a r =
    let chain : ChainOf Tree = map_chain f raw in
    let Z : List Pair → Type 0 =
    λ E. (q : Pair) × ChainLeads (Leads (setting th G H E)) chain (sides p) q × (b ≡ state H (goal E q.left q.right ∷ ps)) in
    let step : Z [] = subst Z a.0 r in
    let q : Goal = goal [] step.0.left step.0.right in
    let c = setting th G H [] in
    let same : led_goal c chain p ≡ q =
    ap (λ E. goal E (led_all c chain.left p.left) (led_all c chain.right p.right)) a.0
    ∙ ap (λ y. goal [] y (led_all c chain.right p.right)) (links_led c chain.left p.left step.0.left step.1.left)
    ∙ ap (goal [] step.0.left) (links_led c chain.right p.right step.0.right step.1.right) in
    let N : State → Type 0 = λ x. HaveNone x.goals in
    record {
      goals = subst N (sym step.2) (refl, a.1);
      met = ap (λ y. (p, length ps) ∷ meetings th G H (y ∷ ps) ss) same
          ∙ ap (λ (x : State). (p, length ps) ∷ meetings th G x.hypotheses x.goals ss) (sym step.2);
    }
is_next th G p ps H f (Reduce why) ss b i a r =
    let N : State → Type 0 = λ x. HaveNone x.goals in
    record { goals = subst N (sym r.1) a.1; met = ap (λ (x : State). (p, length ps) ∷ meetings th G x.hypotheses x.goals ss) (sym r.1) }
is_next th G p ps H f Derive ss b i a r =
    let N : State → Type 0 = λ x. HaveNone x.goals in
    record {
      goals = subst N (sym r.2) (none_append ps (derivatives_on th p) a.1 (derived_none p (fresh_in p) a.0 (derivatives_of th (sort_of p.left))));
      met = ap (λ (x : State). (p, length ps) ∷ meetings th G x.hypotheses x.goals ss) (sym r.2);
    }
is_next th G p ps H f (Cases u) ss b i a r = absurd i
is_next th G p ps H f Done ss b i a r = absurd r

-- the steps after one lead on from where it leads
pub go_on : (th : Theory) (G : List Place) (s : ProofStep Tree) (ss : List (ProofStep Tree)) (a b c : State) → StepsOf th G (s ∷ ss) a c → StepOf th G s a b
    → StepsOf th G ss b c
go_on th G s ss a b c r o = let P : State → Type 0 = λ x. StepsOf th G ss x c in subst P (step_one th G s a r.0 b r.1 o) r.2

pub record IsMet (th : Theory) (G : List Place) (f : ℕ → Tree) (ys : List (Step ℕ)) (F : List Goal) (b : State) (ns whole : List Meeting) : Type 0 where
  pub none : HaveNone b.goals
  pub runs : StepsOf th G (map (map_step f) (plain_steps ys)) b (state F [])
  pub met : ns ++ meetings th G b.hypotheses b.goals (map (map_step f) (plain_steps ys)) ≡ whole

-- one more step is gone through
pub step_met : (th : Theory) (G : List Place) (f : ℕ → Tree) (x : Step ℕ) (ys : List (Step ℕ)) (H gs F : List Goal) (b : State)
    → (length gs ≡ 0 → ⊥) → IsPlainStep (plain_step x) → HaveNone gs
    → StepsOf th G (map (map_step f) (plain_steps (x ∷ ys))) (state H gs) (state F []) → StepOf th G (map_step f (plain_step x)) (state H gs) b
    → (ms ns whole : List Meeting) → Meets gs ms ns → ms ++ meetings th G H gs (map (map_step f) (plain_steps (x ∷ ys))) ≡ whole
    → IsMet th G f ys F b ns whole
step_met th G f x ys H [] F b some i a r o ms ns whole m e = absurd (some refl)
step_met th G f x ys H (p ∷ ps) F b some i a r o ms ns whole m e =
    let ss : List (ProofStep Tree) = map (map_step f) (plain_steps ys) in
    let s : ProofStep Tree = map_step f (plain_step x) in
    let n = is_next th G p ps H f (plain_step x) ss b i a o in
    record {
      none = n.goals;
      runs = go_on th G s ss (state H (p ∷ ps)) b (state F []) r o;
      met = ap (λ y. y ++ meetings th G b.hypotheses b.goals ss) (m p ps refl)
          ∙ append_assoc ms ((p, length ps) ∷ []) (meetings th G b.hypotheses b.goals ss) ∙ ap (λ y. ms ++ y) (sym n.met) ∙ e;
    }

-- a step puts hypotheses behind those that there were
pub hyps_grow : (th : Theory) (G : List Place) (f : ℕ → Tree) (s : ProofStep ℕ) (H gs : List Goal) (b : State) → IsPlainStep s
    → StepOf th G (map_step f s) (state H gs) b → Lengthens H b.hypotheses
hyps_grow th G f (Simplify chain) H [] b i r = absurd r
hyps_grow th G f (Simplify chain) H (g ∷ gs) b i r = ([], ap (λ (x : State). x.hypotheses) r.2 ∙ sym (append-nil H))
hyps_grow th G f (Reduce why) H [] b i r = absurd r
hyps_grow th G f (Reduce why) H (g ∷ gs) b i r = ([], ap (λ (x : State). x.hypotheses) r.1 ∙ sym (append-nil H))
hyps_grow th G f Derive H [] b i r = absurd r
hyps_grow th G f Derive H (g ∷ gs) b i r = (g ∷ [], ap (λ (x : State). x.hypotheses) r.2)
hyps_grow th G f (Cases u) H gs b i r = absurd i
hyps_grow th G f Done H [] b i r = ([], ap (λ (x : State). x.hypotheses) r ∙ sym (append-nil H))
hyps_grow th G f Done H (g ∷ gs) b i r = absurd r

pub longer_still : (H K L : List Goal) → Lengthens H K → Lengthens K L → Lengthens H L
longer_still H K L a b = (a.0 ++ b.0, b.1 ∙ ap (λ x. x ++ b.0) a.1 ∙ append_assoc H a.0 b.0)

-- no step acts on two goals
pub meetings_few : (th : Theory) (G : List Place) (H gs : List Goal) (ss : List (ProofStep Tree)) → length (meetings th G H gs ss) ≤ length ss
meetings_few th G H gs [] = omega arith
meetings_few th G H [] (s ∷ ss) = omega arith
meetings_few th G H (p ∷ ps) (Simplify chain ∷ ss) = omega (arith, meetings_few th G H (led_goal (setting th G H []) chain p ∷ ps) ss)
meetings_few th G H (p ∷ ps) (Reduce why ∷ ss) = omega (arith, meetings_few th G H ps ss)
meetings_few th G H (p ∷ ps) (Derive ∷ ss) = omega (arith, meetings_few th G (H ++ p ∷ []) (ps ++ derivatives_on th p) ss)
meetings_few th G H (p ∷ ps) (Cases u ∷ ss) = omega arith
meetings_few th G H (p ∷ ps) (Done ∷ ss) = omega arith

-- what is told is told by what the steps act on
pub told_is : (th : Theory) (G : List Place) (H gs : List Goal) (ss : List (ProofStep Tree)) → told_from (meetings th G H gs ss) ss ≡ told th G H gs ss
told_is th G H gs [] = refl
told_is th G H [] (s ∷ ss) = refl
told_is th G H (p ∷ ps) (Simplify chain ∷ ss) = ap (and_simplified p chain) (told_is th G H (led_goal (setting th G H []) chain p ∷ ps) ss)
told_is th G H (p ∷ ps) (Reduce why ∷ ss) = ap (and_reduced p why) (told_is th G H ps ss)
told_is th G H (p ∷ ps) (Derive ∷ ss) = ap (and_derived p (length ps)) (told_is th G (H ++ p ∷ []) (ps ++ derivatives_on th p) ss)
told_is th G H (p ∷ ps) (Cases u ∷ ss) = refl
told_is th G H (p ∷ ps) (Done ∷ ss) = refl

pub few_met : (th : Theory) (G : List Place) (f : ℕ → Tree) (H gs : List Goal) (steps : List (Step ℕ)) (ms : List Met)
    → map meeting_of ms ≡ meetings th G H gs (map (map_step f) (plain_steps steps)) → length ms ≤ length steps
few_met th G f H gs steps ms e =
    omega (
      arith,
      ap length e,
      length-map ms meeting_of,
      length-map steps plain_step,
      length-map (plain_steps steps) (map_step f),
      meetings_few th G H gs (map (map_step f) (plain_steps steps)),
    )

-- where no goal was open, these are that are put behind the others
pub begun : (a b : State) (gs hs : List Goal) → b ≡ state a.hypotheses (a.goals ++ gs) → a.goals ≡ [] → gs ≡ hs → b ≡ state a.hypotheses hs
begun a b gs hs e n g = e ∙ ap (λ x. state a.hypotheses (x ++ gs)) n ∙ ap (state a.hypotheses) g
