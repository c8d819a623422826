-- Words are one item at most.
use Rattle.std.proofs.Common.{◌≡◌, List, [], ◌∷◌, ◌++◌, false, codes, None, inl, inr, refl, sym, ap, ◌∙◌, subst}
use Rattle.circ_statement.specs.Words.{Word, is_word, keyword_of}
use Rattle.circ_statement.specs.Said as statement
use Rattle.circ_statement.specs.Said.{Said, SaidSides}
use Rattle.circ_statement.specs.Statement.{nonexec, AreSides, AreUnderConditions, IsStatement, IsLeftOut, IsOfKind, IsOutByKind}
use Rattle.circ_read.proofs.Once.{SaidOnce}
use Rattle.circ_script.specs.Items.{Item, variables, goal, coinduction, reduce, IsGoal, bare, conditional, IsItem}
use Rattle.circ_script.proofs.Words.{heads_apart}

-- words that begin with a word of no statement are none, and are not left out
no_statement : (ws : List Word) (w : Word) (rest : List Word) (said : Said) → keyword_of w ≡ None → ws ≡ w ∷ rest → IsStatement ws said → ⊥
no_statement ws w rest said none e h =
    let k : IsStatement (w ∷ rest) said = subst (λ x. IsStatement x said) e h in subst (λ o. IsOfKind o rest said) none k

pub not_out : (ws : List Word) (w : Word) (rest : List Word) (v : Word) → keyword_of w ≡ None → ws ≡ w ∷ rest → IsLeftOut ws v → ⊥
not_out ws w rest v none e h =
    let k : IsLeftOut (w ∷ rest) v = subst (λ x. IsLeftOut x v) e h in subst (λ o. IsOutByKind o w rest v) none k

abbrev as_item : Said → Item
as_item (statement.inclusion name) = coinduction
as_item (statement.sorts names) = coinduction
as_item (statement.operators forms args result a c i) = coinduction
as_item (statement.variables names sort) = variables names sort
as_item (statement.equation left right conds exec) = coinduction
as_item (statement.derivative term) = coinduction
as_item (statement.cases sort names) = coinduction

-- the words behind `add`
pub behind_add : (ws : List Word) (s : SaidSides) (conds : List SaidSides) → IsGoal ws s conds → (rest : List Word) × (ws ≡ codes "add" ∷ rest)
behind_add ws s conds (bare rest is h) = (codes "goal" ∷ rest, is)
behind_add ws s conds (conditional rest cs is h) = (codes "cgoal" ∷ rest, is)

-- sides, and sides under conditions, as a statement with a mark says them
marked : (body : List Word) (s : SaidSides) → AreSides body s
    → IsStatement (codes "eq" ∷ (body ++ nonexec)) (statement.equation s.left s.right [] false)
marked body s h = record { body = body; sides = s; exec = false; unmarked = refl; are_sides = h; says = refl }

marked_under : (body : List Word) (s : SaidSides) (conds : List SaidSides) → AreUnderConditions body s conds
    → IsStatement (codes "ceq" ∷ (body ++ nonexec)) (statement.equation s.left s.right conds false)
marked_under body s conds h = record { body = body; sides = s; conds = conds; exec = false; unmarked = refl; are = h; says = refl }

as_goal : (s t : SaidSides) (cs ds : List SaidSides) → statement.equation s.left s.right cs false ≡ statement.equation t.left t.right ds false
    → goal s cs ≡ goal t ds
as_goal s t cs ds e =
    let l : s.left ≡ t.left = cc in
    let r : s.right ≡ t.right = cc in
    let c : cs ≡ ds = cc in
    λ i. goal (record { left = l i; right = r i }) (c i)

module _ (law : SaidOnce) (ws : List Word) where
  apart : (r q : List Word) → codes "add" ∷ (codes "goal" ∷ r) ≡ codes "add" ∷ (codes "cgoal" ∷ q) → ⊥
  apart r q e = heads_apart (codes "goal") (codes "cgoal") r q refl (cc)

  goal_once : (s t : SaidSides) (cs ds : List SaidSides) → IsGoal ws s cs → IsGoal ws t ds → goal s cs ≡ goal t ds
  goal_once s t cs ds (bare r is h) (bare q iz k) =
      let e : r ≡ q = (let z = sym is ∙ iz in cc) in
      as_goal s t [] [] (law.said (codes "eq" ∷ (q ++ nonexec)) _ _ (marked q s (subst (λ x. AreSides x s) e h)) (marked q t k))
  goal_once s t cs ds (bare r is h) (conditional q ds' iz k) = absurd (apart r q (sym is ∙ iz))
  goal_once s t cs ds (conditional r cs' is h) (bare q iz k) = absurd (apart q r (sym iz ∙ is))
  goal_once s t cs ds (conditional r cs' is h) (conditional q ds' iz k) =
      let e : r ≡ q = (let z = sym is ∙ iz in cc) in
      as_goal s t cs ds
      (law.said (codes "ceq" ∷ (q ++ nonexec)) _ _ (marked_under q s cs (subst (λ x. AreUnderConditions x s cs) e h)) (marked_under q t ds k))

  reduced_once : (term other : List Word) → IsItem ws (reduce term) → IsItem ws (reduce other) → term ≡ other
  reduced_once term other (inl h) (inl k) = let e = sym h ∙ k in cc
  reduced_once term other (inl h) (inr k) = absurd (heads_apart (codes "reduce") (codes "red") term other refl (sym h ∙ k))
  reduced_once term other (inr h) (inl k) = absurd (heads_apart (codes "red") (codes "reduce") term other refl (sym h ∙ k))
  reduced_once term other (inr h) (inr k) = let e = sym h ∙ k in cc

  not_reduced : (w : Word) (rest term : List Word) → is_word w (codes "reduce") ≡ false → is_word w (codes "red") ≡ false → ws ≡ w ∷ rest
      → IsItem ws (reduce term) → ⊥
  not_reduced w rest term long short e (inl h) = heads_apart w (codes "reduce") rest term long (sym e ∙ h)
  not_reduced w rest term long short e (inr h) = heads_apart w (codes "red") rest term short (sym e ∙ h)

  -- words say one thing
  pub item_once : (i j : Item) → IsItem ws i → IsItem ws j → i ≡ j
  item_once (variables names sort) (variables ms s) h k = ap as_item (law.said ws (statement.variables names sort) (statement.variables ms s) h k)
  item_once (variables names sort) (goal s cs) h k =
      absurd (no_statement ws (codes "add") _ (statement.variables names sort) refl (behind_add ws s cs k).1 h)
  item_once (variables names sort) coinduction h k = absurd (no_statement ws (codes "coinduction") _ (statement.variables names sort) refl k h)
  item_once (variables names sort) (reduce term) h (inl k) = absurd (no_statement ws (codes "reduce") _ (statement.variables names sort) refl k h)
  item_once (variables names sort) (reduce term) h (inr k) = absurd (no_statement ws (codes "red") _ (statement.variables names sort) refl k h)
  item_once (goal s cs) (variables names sort) h k =
      absurd (no_statement ws (codes "add") _ (statement.variables names sort) refl (behind_add ws s cs h).1 k)
  item_once (goal s cs) (goal t ds) h k = goal_once s t cs ds h k
  item_once (goal s cs) coinduction h k = absurd (heads_apart (codes "add") (codes "coinduction") _ _ refl (sym (behind_add ws s cs h).1 ∙ k))
  item_once (goal s cs) (reduce term) h k = absurd (not_reduced (codes "add") _ term refl refl (behind_add ws s cs h).1 k)
  item_once coinduction (variables names sort) h k = absurd (no_statement ws (codes "coinduction") _ (statement.variables names sort) refl h k)
  item_once coinduction (goal s cs) h k = absurd (heads_apart (codes "coinduction") (codes "add") _ _ refl (sym h ∙ (behind_add ws s cs k).1))
  item_once coinduction coinduction h k = refl
  item_once coinduction (reduce term) h k = absurd (not_reduced (codes "coinduction") _ term refl refl h k)
  item_once (reduce term) (variables names sort) (inl h) k = absurd (no_statement ws (codes "reduce") _ (statement.variables names sort) refl h k)
  item_once (reduce term) (variables names sort) (inr h) k = absurd (no_statement ws (codes "red") _ (statement.variables names sort) refl h k)
  item_once (reduce term) (goal s cs) h k = absurd (not_reduced (codes "add") _ term refl refl (behind_add ws s cs k).1 h)
  item_once (reduce term) coinduction h k = absurd (not_reduced (codes "coinduction") _ term refl refl k h)
  item_once (reduce term) (reduce other) h k = ap reduce (reduced_once term other h k)
