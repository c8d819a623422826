-- Reasons, when terms are added.
use Rattle.std.proofs.Common.{◌≡◌, ◌↔◌, ◌<◌, ℕ, List, [], ◌∷◌, ◌++◌, map, take, length, IsTrue, Some, Bool, ap, sym, subst, ◌∙◌}
use Rattle.std.proofs.Math.Seq.{take-append_seam}
use Rattle.std.proofs.lemmas.Bool.{eqb-true, eq-eqb}
use Rattle.std.proofs.lemmas.List.{map-append}
use Rattle.std.specs.Prelude.{nat_eq}
use Rattle.circ_term.specs.Growing.{Grows}
use Rattle.circ_term.specs.Tree.{Tree, App, none, sort_of}
use Rattle.circ_theory.specs.Theory.{Pair, pair_with}
use Rattle.circ_proof.specs.Link.{Setting, setting, resolved_why}
use Rattle.circ_proof.specs.Plain.{WhyOf}
use Rattle.circ_proof.specs.Justified.{Justified}
use Rattle.circ_nodes.specs.Named.{IsOnce, tree_at}
use Rattle.circ_nodes.proofs.Located.{named_tree, tree_named, tree_later}
use Rattle.circ_nodes.proofs.Numbers.{grows_more, named_below}
use Rattle.circ_shared.specs.Chains.{AddsCase}
use Rattle.circ_shared.specs.Patterns.{pair_at, pairs_at, goal_at, IsThere, AreThere}
use Rattle.circ_shared.specs.Settings.{AreShared, setting_at, table_at}
use Rattle.circ_shared.specs.declared.patterns.Sides.{Sides}
use Rattle.circ_shared.specs.declared.usage.Sources.{Sources}
use Rattle.circ_shared.proofs.Paired.{there_push}
use Rattle.circ_shared.proofs.Sharing.{pair_later, pairs_later, table_later, hypotheses_later}

-- the table is cut back to what it was
pub cut_back : (old new cut : List Tree) → Grows old new → cut ≡ take (length old) new → cut ≡ old
cut_back old new cut g e = e ∙ ap (take (length old)) g.1 ∙ take-append_seam old g.0

-- the same term has the same number
pub same_number : (nodes : List Tree) (s : Sides) → IsOnce nodes → IsThere nodes s → IsTrue (nat_eq s.left s.right) ↔ (tree_at nodes s.left ≡ tree_at nodes s.right)
same_number nodes s once there = (
  (λ t. ap (tree_at nodes) (eqb-true s.left s.right t)),
  (λ e. eq-eqb s.left s.right
      (once s.left s.right (tree_at nodes s.right) (tree_named nodes s.left there.0 ∙ ap Some e) (tree_named nodes s.right there.1))),
)

case_pairs : (nodes : List Tree) (old new : List Sides) (term constant sort : ℕ) → AddsCase nodes old new term constant sort
    → pairs_at nodes new ≡ pairs_at nodes old ++ pair_with (tree_at nodes term) (App constant sort none) ∷ []
case_pairs nodes old new term constant sort h =
    let s : Sides = record { left = term; right = h.right } in
    ap (pairs_at nodes) h.put ∙ map-append (pair_at nodes) old (s ∷ [])
    ∙ ap (λ t. pairs_at nodes old ++ pair_with (tree_at nodes term) t ∷ []) (named_tree nodes h.right (App constant sort none) h.named)

pub case_there : (nodes : List Tree) (old new : List Sides) (term constant sort : ℕ) → AddsCase nodes old new term constant sort → term < length nodes
    → AreThere nodes old → AreThere nodes new
case_there nodes old new term constant sort h there a =
    subst (AreThere nodes) (sym h.put)
    (there_push nodes old (record { left = term; right = h.right }) a (there, named_below nodes h.right (App constant sort none) h.named))

-- the assumptions of a case, as they were before it
pub case_assumed : (old middle new : List Tree) (g : Grows old middle) (k : Grows middle new) (before now after : List Sides) (term constant : ℕ) → term < length old
    → now ≡ before → AreThere old before → AddsCase new now after term constant (sort_of (tree_at middle term))
    → pairs_at new after ≡ pairs_at old before ++ pair_with (tree_at old term) (App constant (sort_of (tree_at old term)) none) ∷ []
case_assumed old middle new g k before now after term constant there same are h =
    let whole = grows_more old middle new g k in
    case_pairs new now after term constant (sort_of (tree_at middle term)) h
    ∙ ap (λ ss. pairs_at new ss ++ pair_with (tree_at new term) (App constant (sort_of (tree_at middle term)) none) ∷ []) same
    ∙ ap (λ ps. ps ++ pair_with (tree_at new term) (App constant (sort_of (tree_at middle term)) none) ∷ []) (pairs_later old new whole before are)
    ∙ ap (λ u. pairs_at old before ++ pair_with u (App constant (sort_of (tree_at middle term)) none) ∷ []) (tree_later old new term whole there)
    ∙ ap (λ u. pairs_at old before ++ pair_with (tree_at old term) (App constant (sort_of u) none) ∷ []) (tree_later old middle term g there)

-- what is justified in a case was so before
pub justified_before : (old new : List Tree) (g : Grows old new) (s : Sources) (after : List Sides) (B : List Pair) (q : Sides) (w : WhyOf ℕ) (b : Bool)
    → AreShared old s → IsThere old q → pairs_at new after ≡ B
    → IsTrue b ↔ Justified (setting_at new s after) (pair_at new q) (resolved_why (table_at new s) w)
    → IsTrue b ↔ Justified (setting s.theory.now s.gamma.now (map (goal_at old) s.hyps.now) B) (pair_at old q) (resolved_why (table_at old s) w)
justified_before old new g s after B q w b h there e j =
    let C : List Pair → Setting = setting s.theory.now s.gamma.now (map (goal_at old) s.hyps.now) in
    let P : Setting → Type 0 = λ c. IsTrue b ↔ Justified c (pair_at old q) (resolved_why (table_at old s) w) in
    let Q : Pair → Type 0 = λ p. IsTrue b ↔ Justified (setting_at new s after) p (resolved_why (table_at old s) w) in
    let R : List Tree → Type 0 = λ table. IsTrue b ↔ Justified (setting_at new s after) (pair_at new q) (resolved_why table w) in
    subst P (hypotheses_later old new g s h (pairs_at new after) ∙ ap C e) (subst Q (pair_later old new g q there) (subst R (table_later old new g s h) j))
