-- What was handed in as terms is there by number, and what is answered is given back as terms.
use Rattle.std.proofs.Common.{◌≡◌, ◌<◌, ◌↔◌, ℕ, Bool, IsTrue, List, map, Option, Some, None, Result, Ok, Err, IfOk, length, ap, sym, subst, ◌∙◌}
use Rattle.std.specs.List.{AllByRecursion}
use Rattle.std.proofs.lemmas.List.{length-map}
use Rattle.std.specs.Option.{IfSome, option_map}
use Rattle.circ_term.specs.Growing.{Grows}
use Rattle.circ_term.specs.Tree.{Tree}
use Rattle.circ_theory.specs.Theory.{Theory, Pair}
use Rattle.circ_theory.specs.Goal.{Goal}
use Rattle.circ_proof.specs.Plain.{LinkOf, WhyOf}
use Rattle.circ_proof.specs.Runs.{Runs}
use Rattle.circ_proof.specs.Link.{Setting, Leads, resolved_why}
use Rattle.circ_proof.specs.Justified.{Justified}
use Rattle.circ_nodes.specs.Named.{tree_at}
use Rattle.circ_nodes.proofs.Numbers.{grows_more}
use Rattle.circ_replay.specs.Following.{Follows, FollowsAll}
use Rattle.circ_shared.specs.Interned.{OfTerm}
use Rattle.circ_shared.specs.Patterns.{goal_at, pairs_at, AreThere, IsPattern}
use Rattle.circ_shared.proofs.Sharing.{goals_later, patterns_later, are_there_later, pairs_later}
use Rattle.circ_entering.specs.Numbered.{AreEnteredRules}
use Rattle.circ_entering.proofs.Judged.{numbered_later}
use Rattle.circ_calls.specs.declared.entered.Entered.{Entered}
use Rattle.circ_calls.specs.Entered.{IsEntered}

module _ (th : Theory) (table : List Tree) (H : List Goal) (A : List Pair) where
  -- the rules, the hypotheses and the assumptions got numbers one after another
  pub all_entered : (a b c : List Tree) → Grows a b → Grows b c → (x : Entered) → AreEnteredRules th table a x.numbered → AllByRecursion (IsPattern b) x.hyps.items
      → map (goal_at b) x.hyps.items ≡ H → AreThere c x.assumptions.items → pairs_at c x.assumptions.items ≡ A → IsEntered th table H A c x
  all_entered a b c g h x n p hyps t pairs = record {
    numbered = numbered_later th table a c (grows_more a b c g h) x.numbered n;
    patterns = patterns_later b c h x.hyps.items p;
    hypotheses = goals_later b c h x.hyps.items p ∙ hyps;
    there = t;
    assumptions = pairs;
  }

  -- and stay when terms are added
  pub entered_later : (old new : List Tree) → Grows old new → (x : Entered) → IsEntered th table H A old x → IsEntered th table H A new x
  entered_later old new g x h = record {
    numbered = numbered_later th table old new g x.numbered h.numbered;
    patterns = patterns_later old new g x.hyps.items h.patterns;
    hypotheses = goals_later old new g x.hyps.items h.patterns ∙ h.hypotheses;
    there = are_there_later old new g x.assumptions.items h.there;
    assumptions = pairs_later old new g x.assumptions.items h.there ∙ h.assumptions;
  }

-- ---- what is given back

pub there_if : (nodes : List Tree) (P : Option Tree → Type 0) (n : Option ℕ) → OfTerm nodes P n → IfSome n (λ k. k < length nodes)
there_if nodes P None h = tt
there_if nodes P (Some n) h = h.0

of_term : (nodes : List Tree) (P : Option Tree → Type 0) (n : Option ℕ) → OfTerm nodes P n → P (option_map (tree_at nodes) n)
of_term nodes P None h = h
of_term nodes P (Some n) h = h.1

pub built_is : {E : Type 0} (nodes : List Tree) (P : Option Tree → Type 0) (n : Option ℕ) (r : Result (Option Tree) E) → OfTerm nodes P n
    → IfOk r (λ o. o ≡ option_map (tree_at nodes) n) → IfOk r P
built_is nodes P n (Ok o) h e = subst P (sym e) (of_term nodes P n h)
built_is nodes P n (Err x) h e = tt

-- what is said over numbers is said over what was handed in
pub said_of : (nodes : List Tree) (Q : Setting → List Tree → Tree → Option Tree → Type 0) (c d : Setting) (S T : List Tree) (t u : Tree) (o : Option ℕ) → c ≡ d
    → S ≡ T → t ≡ u → OfTerm nodes (Q c S t) o → OfTerm nodes (Q d T u) o
said_of nodes Q c d S T t u o e f g h =
    let P : Setting → Type 0 = λ x. OfTerm nodes (Q x S t) o in
    let R : List Tree → Type 0 = λ x. OfTerm nodes (Q d x t) o in
    let W : Tree → Type 0 = λ x. OfTerm nodes (Q d T x) o in
    subst W g (subst R f (subst P e h))

pub justified_of : {E : Type 0} (w : WhyOf ℕ) (c d : Setting) (S T : List Tree) (p q : Pair) (r : Result Bool E) → c ≡ d → S ≡ T → p ≡ q
    → IfOk r (λ b. IsTrue b ↔ Justified c p (resolved_why S w)) → IfOk r (λ b. IsTrue b ↔ Justified d q (resolved_why T w))
justified_of w c d S T p q r e f g h =
    let P : Setting → Type 0 = λ x. IfOk r (λ b. IsTrue b ↔ Justified x p (resolved_why S w)) in
    let Q : List Tree → Type 0 = λ x. IfOk r (λ b. IsTrue b ↔ Justified d p (resolved_why x w)) in
    let R : Pair → Type 0 = λ x. IfOk r (λ b. IsTrue b ↔ Justified d x (resolved_why T w)) in
    subst R g (subst Q f (subst P e h))

-- as many terms as numbers
pub counted : (nodes table : List Tree) (ns : List ℕ) → map (tree_at nodes) ns ≡ table → length table ≡ length ns
counted nodes table ns e = ap length (sym e) ∙ length-map ns (tree_at nodes)

-- what holds of each term that a link leads to holds of the term that following it gives; and so for links

pub if_follows : {E : Type 0} (P : Tree → Type 0) (c : Setting) (l : LinkOf Tree) (t : Tree) (r : Result (Option Tree) E)
    → IfOk r (Follows c l t) → ((u : Tree) → Leads c l t u → P u) → IfOk r (λ o. IfSome o P)
if_follows P c l t (Ok None) f h = tt
if_follows P c l t (Ok (Some u)) f h = h u f
if_follows P c l t (Err e) f h = tt

pub if_follows_all : {E : Type 0} (P : Tree → Type 0) (c : Setting) (ls : List (LinkOf Tree)) (t : Tree) (r : Result (Option Tree) E)
    → IfOk r (FollowsAll c ls t) → ((u : Tree) → Runs (Leads c) ls t u → P u) → IfOk r (λ o. IfSome o P)
if_follows_all P c ls t (Ok None) f h = tt
if_follows_all P c ls t (Ok (Some u)) f h = h u f
if_follows_all P c ls t (Err e) f h = tt
