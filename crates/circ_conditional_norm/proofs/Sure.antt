-- Forms that need no try are the same however many stand around them.
use Rattle.std.proofs.Common.{◌≡◌, ℕ, ◌+◌, ◌-◌, ◌≤◌, zero, suc, Bool, true, false, if◌then◌else◌, List, [], ◌∷◌, ◌++◌, map, length, Option, Some, None, refl, ap, sym, subst, ◌∙◌, arith, append_assoc, append-nil}
use Rattle.std.specs.List.{slice_get}
use Rattle.std.specs.Option.{option_or, option_map}
use Rattle.std.proofs.lemmas.Option.{same_Some}
use Rattle.circ_term.specs.Tree.{Tree, Trees, Var, App, none, more, list_of, at, walk, replaced, size_of, depth_of}
use Rattle.circ_term.proofs.Paths.{Down, down, replaced_twice, nowhere}
use Rattle.circ_term.proofs.Limits.{first_limit_none, within_limits}
use Rattle.circ_term.specs.Limits.{node_limit, depth_limit, IsWithinLimits}
use Rattle.circ_theory.specs.Signature.{Signature}
use Rattle.circ_theory.specs.Theory.{Pair}
use Rattle.circ_rewrite.specs.Matching.{matching, matches}
use Rattle.circ_rewrite.specs.Norm.{Normal_form, Budget_spent, first_due, first_dues}
use Rattle.circ_rewrite.specs.Replacement.{Passes, no_pass, Replacement, Placed, placed, below, Traced, traced}
use Rattle.circ_rewrite.specs.Standing.{IsSettled, AreSettled, Stands}
use Rattle.circ_rewrite.specs.declared.parts.Rule.{Rule}
use Rattle.circ_chain.specs.Chain.{under, IsStep, Chain}
use Rattle.circ_conditional_norm.specs.Norm.{look, looks, look_from, looks_from, looked, make, run_from, inner_norm, norm_with_room}
use Rattle.circ_conditional_norm.specs.Sure.{untried, first_matched, reached, IsSure, AreSure, IsSureForm, look_behind, looks_behind, run_behind}
use Rattle.circ_conditional_norm.specs.Tries.{rule_replaces, Normaliser, before_rules, tried, rules_tried, due_trying}
use Rattle.circ_conditional_norm.specs.Work.{Work, Made, Out, Past, or_next, map_found}
use Rattle.circ_rewrite.proofs.Standings.{stands_put, stands_at, stands_self}
use Rattle.circ_chain.proofs.Standings.{stands_below, size_put, depth_put}

-- ---- at a root

module _ (o : Option Normaliser) where
  no_conds : (E : List Pair) → untried E ≡ no_pass → E ≡ []
  no_conds [] e = refl
  no_conds (p ∷ ps) e = absurd (cc)

  not_matched : (rs : List Rule) (k : ℕ) (t : Tree) → first_matched rs t ≡ None → rules_tried o rs k t ≡ Made None k
  not_matched [] k t e = refl
  not_matched (r ∷ rs) k t e = go (matches r.left t) refl e (not_matched rs k t)
    where
      go : (b : Bool) → matches r.left t ≡ b
          → option_or (if b then Some (rule_replaces r t (untried r.conds)) else None)
          (first_matched rs t) ≡ None
          → (first_matched rs t ≡ None → rules_tried o rs k t ≡ Made None k) → rules_tried o (r ∷ rs) k t ≡ Made None k
      go true m x ih = absurd (cc)
      go false m x ih = rw m (ih x)

  sure_matched : (rs : List Rule) (k : ℕ) (t : Tree) (d : Replacement) → first_matched rs t ≡ Some d → IsSure d.reason → rules_tried o rs k t ≡ Made (Some d) k
  sure_matched [] k t d e s = absurd (cc)
  sure_matched (r ∷ rs) k t d e s = go (matches r.left t) refl e (λ x. sure_matched rs k t d x s)
    where
      new : Passes → Replacement
      new cs = rule_replaces r t cs

      go : (b : Bool) → matches r.left t ≡ b → option_or (if b then Some (new (untried r.conds)) else None) (first_matched rs t) ≡ Some d
          → (first_matched rs t ≡ Some d → rules_tried o rs k t ≡ Made (Some d) k) → rules_tried o (r ∷ rs) k t ≡ Made (Some d) k
      go false m x ih = rw m (ih x)
      go true m x ih =
          let is : new (untried r.conds) ≡ d = same_Some (new (untried r.conds)) d x in
          let none : untried r.conds ≡ no_pass = subst (λ y. IsSure y.reason) (sym is) s in
          let empty : r.conds ≡ [] = no_conds r.conds none in
          let held : tried o (matching r.left t) r.conds k ≡ Made (Some no_pass) k = ap (λ E. tried o (matching r.left t) E k) empty in
          rw (m, held) (ap (λ y. Made (Some y) k) (ap new (sym none) ∙ is))

  module _ (sig : Signature) (rs : List Rule) (A : List Pair) where
    pub not_reached : (k : ℕ) (t : Tree) → reached sig rs A t ≡ None → due_trying o sig rs A k t ≡ Made None k
    not_reached k (Var n s) e = ap (λ x. Made x k) e
    not_reached k (App f s ts) e = go (before_rules sig A (App f s ts)) refl e
      where
        go : (x : Option Replacement) → before_rules sig A (App f s ts) ≡ x → option_or x (first_matched rs (App f s ts)) ≡ None
            → due_trying o sig rs A k (App f s ts) ≡ Made None k
        go None g z = rw g (not_matched rs k (App f s ts) z)
        go (Some d) g z = absurd (cc)

    pub sure_reached : (k : ℕ) (t : Tree) (d : Replacement) → reached sig rs A t ≡ Some d → IsSure d.reason → due_trying o sig rs A k t ≡ Made (Some d) k
    sure_reached k (Var n s) d e sure = ap (λ x. Made x k) e
    sure_reached k (App f s ts) d e sure = go (before_rules sig A (App f s ts)) refl e
      where
        go : (x : Option Replacement) → before_rules sig A (App f s ts) ≡ x → option_or x (first_matched rs (App f s ts)) ≡ Some d
            → due_trying o sig rs A k (App f s ts) ≡ Made (Some d) k
        go None g z = rw g (sure_matched rs k (App f s ts) d z sure)
        go (Some y) g z = rw g (ap (λ x. Made x k) z)

-- ---- where what is due first stands

abbrev pub none_due : Tree → Option Replacement
none_due t = None

mutual
  none_first : (t : Tree) → first_due none_due t ≡ None
  none_first (Var n s) = refl
  none_first (App f s ts) = rw (none_firsts 0 ts) refl

  none_firsts : (j : ℕ) (ts : Trees) → first_dues none_due j ts ≡ None
  none_firsts j none = refl
  none_firsts j (more t ts) = rw (none_first t) (none_firsts (j + 1) ts)

none_settled : (i : ℕ) (ts : Trees) (a : Tree) → slice_get (list_of ts) i ≡ Some a → AreSettled none_due i ts
none_settled i none a g = absurd (cc)
none_settled zero (more t ts) a g = tt
none_settled (suc i) (more t ts) a g = (none_first t, none_settled i ts a g)

-- where nothing is ever due, each subterm stands
pub stands_there : (p : List ℕ) (w t : Tree) → at w p ≡ Some t → Stands none_due w p t
stands_there [] w t e = same_Some w t e
stands_there (i ∷ p) w t e =
    let d : Down w i p t = down w i p t e in
    subst (λ x. Stands none_due x (i ∷ p) t) (sym d.is) (d.arg, d.got, none_settled i d.args d.arg d.got, stands_there p d.arg t d.there)

module _ (pure : Tree → Option Replacement) where
  abbrev StandsDue : Tree → Placed → Type 0
  StandsDue t q = (a : Tree) × Stands pure t q.path a × (pure a ≡ Some q.replacement)

  abbrev StandsIn : (j : ℕ) → Trees → Placed → Type 0
  StandsIn j ts q = (i : ℕ) × (x : Tree) × (r : Placed) × (slice_get (list_of ts) i ≡ Some x) × (q ≡ below (j + i) r) × AreSettled pure i ts × StandsDue x r

  root_due : (t : Tree) (q : Placed) → option_map (placed []) (pure t) ≡ Some q → StandsDue t q
  root_due t q e = go (pure t) refl e
    where
      go : (o : Option Replacement) → pure t ≡ o → option_map (placed []) o ≡ Some q → StandsDue t q
      go None f x = absurd (cc)
      go (Some r) f x = subst (λ p. StandsDue t p) (same_Some (placed [] r) q x) (t, refl, f)

  mutual
    pub first_stands : (t : Tree) (q : Placed) → first_due pure t ≡ Some q → StandsDue t q
    first_stands (Var n s) q e = root_due (Var n s) q e
    first_stands (App f s ts) q e = go (first_dues pure 0 ts) refl (firsts_stand 0 ts) e
      where
        go : (o : Option Placed) → first_dues pure 0 ts ≡ o → ((r : Placed) → first_dues pure 0 ts ≡ Some r → StandsIn 0 ts r)
            → option_or o (option_map (placed []) (pure (App f s ts))) ≡ Some q → StandsDue (App f s ts) q
        go None d ih x = root_due (App f s ts) q x
        go (Some r) d ih x =
            let h = ih r d in
            let z : 0 + h.0 ≡ h.0 = omega arith in
            let is : below h.0 h.2 ≡ q = ap (λ j. below j h.2) (sym z) ∙ sym h.4 ∙ same_Some r q x in
            subst (λ p. StandsDue (App f s ts) p) is (h.6.0, (h.1, h.3, h.5, h.6.1), h.6.2)

    firsts_stand : (j : ℕ) (ts : Trees) (q : Placed) → first_dues pure j ts ≡ Some q → StandsIn j ts q
    firsts_stand j none q e = absurd (cc)
    firsts_stand j (more t ts) q e = go (first_due pure t) refl (first_stands t) (firsts_stand (j + 1) ts) e
      where
        go : (o : Option Placed) → first_due pure t ≡ o → ((r : Placed) → first_due pure t ≡ Some r → StandsDue t r)
            → ((r : Placed) → first_dues pure (j + 1) ts ≡ Some r → StandsIn (j + 1) ts r)
            → option_or (option_map (below j) o) (first_dues pure (j + 1) ts) ≡ Some q → StandsIn j (more t ts) q
        go (Some r) d here later x =
            let z : j ≡ j + 0 = omega arith in
            (0, t, r, refl, sym (same_Some (below j r) q x) ∙ ap (λ i. below i r) z, tt, here r d)
        go None d here later x =
            let h = later q x in
            let z : j + 1 + h.0 ≡ j + suc h.0 = omega arith in
            (suc h.0, h.1, h.2, h.3, h.4 ∙ ap (λ i. below i h.2) z, (d, h.5), h.6)

-- ---- looking

next_none : {A : Type 0} (w : Work (Option A)) → or_next w (λ l. Made None l) ≡ w
next_none (Made (Some a) k) = refl
next_none (Made None k) = refl
next_none Out = refl
next_none (Past l k) = refl

next_next : {A : Type 0} (w : Work (Option A)) (f g : ℕ → Work (Option A)) → or_next (or_next w f) g ≡ or_next w (λ l. or_next (f l) g)
next_next (Made (Some a) k) f g = refl
next_next (Made None k) f g = refl
next_next Out f g = refl
next_next (Past l k) f g = refl

map_next : {A B : Type 0} (h : A → B) (w : Work (Option A)) (f : ℕ → Work (Option A)) → map_found h (or_next w f) ≡ or_next (map_found h w) (λ l. map_found h (f l))
map_next h (Made (Some a) k) f = refl
map_next h (Made None k) f = refl
map_next h Out f = refl
map_next h (Past l k) f = refl

map_map : {A B C : Type 0} (g : B → C) (h : A → B) (w : Work (Option A)) → map_found g (map_found h w) ≡ map_found (λ a. g (h a)) w
map_map g h (Made (Some a) k) = refl
map_map g h (Made None k) = refl
map_map g h Out = refl
map_map g h (Past l k) = refl

map_same : {A : Type 0} (w : Work (Option A)) → map_found (λ a. a) w ≡ w
map_same (Made (Some a) k) = refl
map_same (Made None k) = refl
map_same Out = refl
map_same (Past l k) = refl

-- the same replacement, in a term in which this one stands at p
abbrev pub under_placed : List ℕ → Placed → Placed
under_placed p q = placed (p ++ q.path) q.replacement

module _ (due : (budget : ℕ) → Tree → Work (Option Replacement)) where
  -- looking from a path on in a subterm, and then behind it
  mutual
    pub look_split : (p r : List ℕ) (w t : Tree) (k : ℕ) → at w p ≡ Some t
        → look_from due (p ++ r) w k ≡ or_next (map_found (under_placed p) (look_from due r t k)) (look_behind due p w)
    look_split [] r w t k e =
        ap (λ x. look_from due r x k) (same_Some w t e) ∙ sym (map_same (look_from due r t k)) ∙ sym (next_none (map_found (λ a. a) (look_from due r t k)))
    look_split (i ∷ p) r (Var n s) t k e = absurd (let d = down (Var n s) i p t e in let z = d.is in cc)
    look_split (i ∷ p) r (App f s ts) t k e =
        ap (λ x. or_next x (λ l. map_found (placed []) (due l (App f s ts)))) (looks_split i p r 0 ts t k e)
        ∙ next_next (map_found (under_placed ((0 + i) ∷ p)) (look_from due r t k)) (looks_behind due i p 0 ts) (λ l. map_found (placed []) (due l (App f s ts)))
        ∙ ap (λ j. or_next (map_found (under_placed (j ∷ p)) (look_from due r t k)) (look_behind due (i ∷ p) (App f s ts))) z
      where
        z : 0 + i ≡ i
        z = omega arith

    looks_split : (i : ℕ) (p r : List ℕ) (j : ℕ) (ts : Trees) (t : Tree) (k : ℕ) → walk (slice_get (list_of ts) i) p ≡ Some t
        → looks_from due i (p ++ r) j ts k ≡ or_next (map_found (under_placed ((j + i) ∷ p)) (look_from due r t k)) (looks_behind due i p j ts)
    looks_split zero p r j none t k e = nowhere p t e
    looks_split (suc i) p r j none t k e = nowhere p t e
    looks_split zero p r j (more x ts) t k e =
        ap (λ y. or_next (map_found (below j) y) (looks due (j + 1) ts)) (look_split p r x t k e)
        ∙ ap (λ y. or_next y (looks due (j + 1) ts))
        (map_next (below j) (map_found (under_placed p) (look_from due r t k)) (look_behind due p x)
        ∙ ap (λ y. or_next y (λ l. map_found (below j) (look_behind due p x l))) (map_map (below j) (under_placed p) (look_from due r t k)))
        ∙ next_next (map_found (under_placed (j ∷ p)) (look_from due r t k)) (λ l. map_found (below j) (look_behind due p x l)) (looks due (j + 1) ts)
        ∙ ap (λ i. or_next (map_found (under_placed (i ∷ p)) (look_from due r t k)) (looks_behind due zero p j (more x ts))) z
      where
        z : j ≡ j + 0
        z = omega arith
    looks_split (suc i) p r j (more x ts) t k e =
        looks_split i p r (j + 1) ts t k e
        ∙ ap (λ m. or_next (map_found (under_placed (m ∷ p)) (look_from due r t k)) (looks_behind due i p (j + 1) ts)) z
      where
        z : j + 1 + i ≡ j + suc i
        z = omega arith

module _ (pure : Tree → Option Replacement) (due : (budget : ℕ) → Tree → Work (Option Replacement))
    (nothing : (k : ℕ) (t : Tree) → pure t ≡ None → due k t ≡ Made None k) where
  mutual
    pub look_none : (t : Tree) (k : ℕ) → IsSettled pure t → look due t k ≡ Made None k
    look_none (Var n s) k e = go (pure (Var n s)) refl e
      where
        go : (o : Option Replacement) → pure (Var n s) ≡ o → option_map (placed []) o ≡ None → look due (Var n s) k ≡ Made None k
        go None f x = ap (map_found (placed [])) (nothing k (Var n s) f)
        go (Some r) f x = absurd (cc)
    look_none (App f s ts) k e = go (first_dues pure 0 ts) refl (pure (App f s ts)) refl e (looks_none 0 ts k)
      where
        go : (o : Option Placed) → first_dues pure 0 ts ≡ o → (x : Option Replacement) → pure (App f s ts) ≡ x → option_or o (option_map (placed []) x) ≡ None
            → (first_dues pure 0 ts ≡ None → looks due 0 ts k ≡ Made None k) → look due (App f s ts) k ≡ Made None k
        go None g None h z ih = rw (ih g, nothing k (App f s ts) h) refl
        go None g (Some r) h z ih = absurd (cc)
        go (Some q) g x h z ih = absurd (cc)

    pub looks_none : (i : ℕ) (ts : Trees) (k : ℕ) → first_dues pure i ts ≡ None → looks due i ts k ≡ Made None k
    looks_none i none k e = refl
    looks_none i (more t ts) k e = go (first_due pure t) refl e (look_none t k) (looks_none (i + 1) ts k)
      where
        go : (o : Option Placed) → first_due pure t ≡ o → option_or (option_map (below i) o) (first_dues pure (i + 1) ts) ≡ None
            → (first_due pure t ≡ None → look due t k ≡ Made None k) → (first_dues pure (i + 1) ts ≡ None → looks due (i + 1) ts k ≡ Made None k)
            → looks due i (more t ts) k ≡ Made None k
        go None g z here later = rw (here g) (later z)
        go (Some q) g z here later = absurd (cc)

module _ (pure : Tree → Option Replacement) (due : (budget : ℕ) → Tree → Work (Option Replacement))
    (nothing : (k : ℕ) (t : Tree) → pure t ≡ None → due k t ≡ Made None k)
    (something : (k : ℕ) (t : Tree) (d : Replacement) → pure t ≡ Some d → IsSure d.reason → due k t ≡ Made (Some d) k) where
  root_sure : (t : Tree) (k : ℕ) (q : Placed) → option_map (placed []) (pure t) ≡ Some q → IsSure q.replacement.reason
      → map_found (placed []) (due k t) ≡ Made (Some q) k
  root_sure t k q e h = go (pure t) refl e
    where
      go : (o : Option Replacement) → pure t ≡ o → option_map (placed []) o ≡ Some q → map_found (placed []) (due k t) ≡ Made (Some q) k
      go None f x = absurd (cc)
      go (Some r) f x =
          let is : placed [] r ≡ q = same_Some (placed [] r) q x in
          let sure : IsSure r.reason = subst (λ y. IsSure y.replacement.reason) (sym is) h in
          rw (something k t r f sure) (ap (λ y. Made (Some y) k) is)

  mutual
    pub look_sure : (t : Tree) (k : ℕ) (q : Placed) → first_due pure t ≡ Some q → IsSure q.replacement.reason → look due t k ≡ Made (Some q) k
    look_sure (Var n s) k q e h = root_sure (Var n s) k q e h
    look_sure (App f s ts) k q e h = go (first_dues pure 0 ts) refl e (λ r x y. looks_sure 0 ts k r x y)
      where
        go : (o : Option Placed) → first_dues pure 0 ts ≡ o → option_or o (option_map (placed []) (pure (App f s ts))) ≡ Some q
            → ((r : Placed) → first_dues pure 0 ts ≡ Some r → IsSure r.replacement.reason → looks due 0 ts k ≡ Made (Some r) k)
            → look due (App f s ts) k ≡ Made (Some q) k
        go None g z ih = rw (looks_none pure due nothing 0 ts k g) (root_sure (App f s ts) k q z h)
        go (Some r) g z ih = rw (ih q (g ∙ z) h) refl

    looks_sure : (i : ℕ) (ts : Trees) (k : ℕ) (q : Placed) → first_dues pure i ts ≡ Some q → IsSure q.replacement.reason → looks due i ts k ≡ Made (Some q) k
    looks_sure i none k q e h = absurd (cc)
    looks_sure i (more t ts) k q e h = go (first_due pure t) refl e (λ r x y. look_sure t k r x y) (λ x. looks_sure (i + 1) ts k q x h)
      where
        go : (o : Option Placed) → first_due pure t ≡ o → option_or (option_map (below i) o) (first_dues pure (i + 1) ts) ≡ Some q
            → ((r : Placed) → first_due pure t ≡ Some r → IsSure r.replacement.reason → look due t k ≡ Made (Some r) k)
            → (first_dues pure (i + 1) ts ≡ Some q → looks due (i + 1) ts k ≡ Made (Some q) k)
            → looks due i (more t ts) k ≡ Made (Some q) k
        go None g z here later = rw (look_none pure due nothing t k g) (later z)
        go (Some r) g z here later =
            let is : below i r ≡ q = same_Some (below i r) q z in
            let sure : IsSure r.replacement.reason = subst (λ y. IsSure y.replacement.reason) (sym is) h in
            rw (here r g sure) (ap (λ y. Made (Some y) k) is)

  -- what is settled is passed over
  mutual
    pub look_skip : (r : List ℕ) (t a : Tree) (k : ℕ) → Stands pure t r a → look_from due r t k ≡ look due t k
    look_skip [] t a k s = refl
    look_skip (i ∷ r) (Var n m) a k s = absurd s
    look_skip (i ∷ r) (App f m ts) a k s = ap (λ x. or_next x (λ l. map_found (placed []) (due l (App f m ts)))) (looks_skip i r 0 ts s.0 a k s.1 s.2 s.3)

    looks_skip : (i : ℕ) (r : List ℕ) (j : ℕ) (ts : Trees) (x a : Tree) (k : ℕ) → slice_get (list_of ts) i ≡ Some x → AreSettled pure i ts → Stands pure x r a
        → looks_from due i r j ts k ≡ looks due j ts k
    looks_skip zero r j none x a k g s h = refl
    looks_skip (suc i) r j none x a k g s h = refl
    looks_skip zero r j (more t ts) x a k g s h =
        ap (λ y. or_next (map_found (below j) y) (looks due (j + 1) ts)) (look_skip r t a k (subst (λ y. Stands pure y r a) (sym (same_Some t x g)) h))
    looks_skip (suc i) r j (more t ts) x a k g s h = looks_skip i r (j + 1) ts x a k g s.1 h ∙ sym (rw (look_none pure due nothing t k s.0) refl)

  -- ---- a sure form of a subterm, wherever it stands

  behind_more : (n m : ℕ) (p : List ℕ) (w : Tree) (ts : List Traced) (k : ℕ) → n ≡ m → run_behind due n p w ts k ≡ run_behind due m p w ts k
  behind_more n m p w ts k e = ap (λ x. run_behind due x p w ts k) e

  by_look : (n : ℕ) (from p : List ℕ) (w : Tree) (ts : List Traced) (k : ℕ) → look_from due from w k ≡ look_behind due p w k → run_from due n from w ts k ≡ run_behind due n p w ts k
  by_look zero from p w ts k e = ap (looked due (λ q l. Budget_spent) w ts) e
  by_look (suc n) from p w ts k e = ap (looked due (make due (run_from due n) w ts) w ts) e

  pub run_sure : (big deep : ℕ) (ts : List Traced) (n k : ℕ) (p r : List ℕ) (w t a v x : Tree) (before : List Traced)
      → at w p ≡ Some t → Stands pure t r a → Chain pure big deep t ts v → IsSettled pure v → AreSure ts
      → size_of w + big ≤ node_limit + size_of t → depth_of w ≤ depth_limit → length p + deep ≤ depth_limit
      → replaced w p v ≡ Some x → length ts ≤ k → k ≤ n
      → run_from due n (p ++ r) w before k ≡ run_behind due (n - length ts) p x (before ++ map (under p) ts) (k - length ts)
  run_sure big deep [] n k p r w t a v x before there s c settled sure small dw dp put h g =
      let none : look due t k ≡ Made None k = look_none pure due nothing t k (ap (first_due pure) c ∙ settled) in
      let look : look_from due (p ++ r) w k ≡ look_behind due p w k =
      look_split due p r w t k there ∙ ap (λ y. or_next (map_found (under_placed p) y) (look_behind due p w)) (look_skip r t a k s ∙ none) in
      let same : w ≡ x = same_Some w x (sym (stands_self none_due p w t (stands_there p w t there)) ∙ ap (replaced w p) c ∙ put) in
      let z : n ≡ n - 0 = omega arith in
      let y : k ≡ k - 0 = omega arith in
      by_look n (p ++ r) p w before k look ∙ ap (λ u. run_behind due n p u before k) same ∙ ap (λ m. run_behind due m p x before k) z
      ∙ ap (run_behind due (n - 0) p x before) y ∙ ap (λ b. run_behind due (n - 0) p x b (k - 0)) (sym (append-nil before))
  run_sure big deep (tr ∷ ts) zero k p r w t a v x before there s c settled sure small dw dp put h g = absurd (omega (arith, h, g))
  run_sure big deep (tr ∷ ts) (suc n) zero p r w t a v x before there s c settled sure small dw dp put h g = absurd (omega (arith, h))
  run_sure big deep (tr ∷ ts) (suc n) (suc k) p r w t a v x before there s c settled sure small dw dp put h g =
      let u : Tree = c.0 in
      let step : IsStep pure big deep t tr u = c.1 in
      let d : Replacement = step.replacement in
      let q : Placed = placed tr.path d in
      let is_sure : IsSure d.reason = subst (λ y. IsSure y.reason) step.is_trace sure.0 in
      let whole = stands_there p w t there in
      let next = stands_put none_due p w t u whole in
      let sizes = size_put none_due p w t u next.0 whole next.1 in
      let depths = depth_put none_due p w t u next.0 whole next.1 in
      let within : IsWithinLimits next.0 = first_limit_none next.0 (omega (arith, step.small)) (omega (arith, step.shallow)) in
      let made_is : replaced w (p ++ tr.path) d.new ≡ Some next.0 = stands_below none_due p w t tr.path d.new u whole step.is_first.made ∙ next.1 in
      let found : look_from due (p ++ r) w (suc k) ≡ Made (Some (under_placed p q)) (suc k) =
      look_split due p r w t (suc k) there
      ∙ ap (λ y. or_next (map_found (under_placed p) y) (look_behind due p w)) (look_skip r t a (suc k) s ∙ look_sure t (suc k) q step.is_first.first is_sure) in
      let old = first_stands pure t q step.is_first.first in
      let new = stands_put pure tr.path t old.0 d.new old.1 in
      let same : new.0 ≡ u = same_Some new.0 u (sym new.1 ∙ step.is_first.made) in
      let stands : Stands pure u tr.path d.new = subst (λ y. Stands pure y tr.path d.new) same new.2 in
      let one : Traced = traced (under_placed p q) in
      let trace : one ≡ under p tr = ap (under p) (sym step.is_trace) in
      let rest = run_sure big deep ts n k p tr.path next.0 u d.new v x (before ++ one ∷ []) (stands_at none_due p next.0 u next.2) stands c.2 settled sure.1
      (omega (arith, step.small)) (omega (arith, step.shallow)) dp (replaced_twice p w u next.0 v next.1 ∙ put) (omega (arith, h)) (omega (arith, g)) in
      let most : n - length ts ≡ suc n - suc (length ts) = omega arith in
      let left : k - length ts ≡ suc k - suc (length ts) = omega arith in
      rw (found, made_is, within) (rest
      ∙ ap (λ b. run_behind due (n - length ts) p x b (k - length ts)) (append_assoc before (one ∷ []) (map (under p) ts) ∙ ap (λ y. before ++ y ∷ map (under p) ts) trace)
      ∙ ap (λ m. run_behind due m p x (before ++ under p tr ∷ map (under p) ts) (k - length ts)) most
      ∙ ap (run_behind due (suc n - suc (length ts)) p x (before ++ under p tr ∷ map (under p) ts)) left)

-- at the top, with any room for tries
pub sure_form_answers : (room : ℕ) (sig : Signature) (rs : List Rule) (A : List Pair) (k : ℕ) (t v : Tree) (ts : List Traced)
    → IsSureForm sig rs A t v ts node_limit depth_limit → IsWithinLimits t → length ts ≤ k → norm_with_room room sig rs A k t ≡ Normal_form v ts (k - length ts)
sure_form_answers room sig rs A k t v ts f w h =
    let o : Option Normaliser = inner_norm room sig rs A in
    let due : ℕ → Tree → Work (Option Replacement) = due_trying o sig rs A in
    let within = within_limits t w in
    run_sure (reached sig rs A) due (not_reached o sig rs A) (sure_reached o sig rs A) node_limit depth_limit ts k k [] [] t t t v v [] refl refl f.reduces.0 f.reduces.1 f.sure
    (omega arith) within.1 (omega arith) refl h (omega arith)
    ∙ ends due (k - length ts) v (map (under []) ts) (k - length ts) ∙ ap (λ us. Normal_form v us (k - length ts)) (under_nothing ts)
  where
    ends : (due : ℕ → Tree → Work (Option Replacement)) (n : ℕ) (x : Tree) (us : List Traced) (l : ℕ) → run_behind due n [] x us l ≡ Normal_form x us l
    ends due zero x us l = refl
    ends due (suc n) x us l = refl

    under_nothing : (us : List Traced) → map (under []) us ≡ us
    under_nothing [] = refl
    under_nothing (u ∷ us) = ap (λ y. u ∷ y) (under_nothing us)
