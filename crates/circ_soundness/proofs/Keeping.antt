-- What links keep at a level, under the assumptions of their setting.
use Rattle.std.proofs.Common.{◌≡◌, ℕ, List, [], ◌∷◌, map, inl, inr, refl, sym, subst, ◌∙◌, arith}
use Rattle.std.specs.List.{Contains}
use Rattle.circ_term.specs.Tree.{Tree, Var, sort_of}
use Rattle.circ_term.specs.Substitution.{Substitution, instance, composed}
use Rattle.circ_term.proofs.Instances.{instance-instance, instance-Var}
use Rattle.circ_term.proofs.Paths.{at_instance, replaced_instance}
use Rattle.circ_theory.specs.Signature.{Signature, IsWellSorted, IsSubstitution}
use Rattle.circ_theory.specs.Theory.{Theory, Pair, sides, goal_of, instance_pair, IsVisible, IsWellSortedPair, AreWellSortedPairs, AreConditions, IsWellSortedGoal}
use Rattle.circ_theory.specs.WellFormed.{IsWellFormed}
use Rattle.circ_theory.specs.Derivable.{Derivable, Gives, by_same, by_symmetry, by_chain, by_premise}
use Rattle.circ_theory.specs.Rewriting.{from_side, to_side, Replaces, by_terms}
use Rattle.circ_theory.specs.Goal.{Goal}
use Rattle.circ_theory.specs.declared.way.Way.{Way}
use Rattle.circ_theory.specs.declared.way.Way.TheVariants.{Forth, Back}
use Rattle.circ_theory.proofs.Casing.{contains_first, hidden_or_visible}
use Rattle.circ_theory.proofs.Congruence.{KeepsDerivable, replaced_keeps}
use Rattle.circ_theory.proofs.Instances.{sort_of-instance_by, instance_well_sorted, composed_substitution, derivable_instance}
use Rattle.circ_theory.proofs.Rewriting.{ConditionsHold, contains_at, rewrite_keeps}
use Rattle.circ_theory.proofs.Sorting.{at_sorted, sorted_from, sorted_to, sort_to, sort_instances}
use Rattle.circ_theory.proofs.Weakening.{in_rest, cut}
use Rattle.circ_aci.proofs.Deriving.{same_content_derivable}
use Rattle.circ_special.specs.Special.{IsSpecial}
use Rattle.circ_proof.specs.Plain.{LinkOf, LinksOf, ChainsOf, Equation_link, Hypothesis_link, Assumption_link, Content_link, no_link, more_links, no_chain, more_chains}
use Rattle.circ_proof.specs.Runs.{Runs}
use Rattle.circ_proof.specs.Link.{Setting, HypothesisLeads, Leads, RowLeads, ConditionsLead, AllOfLink, AllOfRow, AllOfChains, AllOfLinks}
use Rattle.circ_proof.proofs.Leading.{terms_substitution}
use Rattle.circ_proof.proofs.Members.{nothing, pick, from_map}
use Rattle.circ_soundness.specs.Levels.{Agree, AgreeGoal, HypothesesAgree, PlacesAgree, Stays, Keeps}
use Rattle.circ_soundness.proofs.Agreeing.{derivable_agrees, agree_symmetry, agree_chain, agree_cut, special_stays, special_instance}

-- ---- what is derivable

-- the sides of an instance, in either direction
turned : (th : Theory) (A : List Pair) (w : Way) (p : Pair) (σ : Substitution) → Derivable th A (instance σ p.left) (instance σ p.right)
    → Derivable th A (instance σ (from_side w p)) (instance σ (to_side w p))
turned th A Forth p σ d = d
turned th A Back p σ d = by_symmetry d

-- an instance of one side is replaced by that of the other
rewriting_derives : (th : Theory) (A : List Pair) (w : Way) (p : Pair) (σ : Substitution) (path : List ℕ) (t u : Tree) → IsWellSortedPair th.signature p
    → IsSubstitution th.signature σ → Derivable th A (instance σ p.left) (instance σ p.right) → IsWellSorted th.signature t
    → Replaces t path (instance σ (from_side w p)) (instance σ (to_side w p)) u → KeepsDerivable th A t u
rewriting_derives th A w p σ path t u s i d wt r =
    let new = instance_well_sorted th.signature σ (to_side w p) i (sorted_to th.signature w p s) in
    replaced_keeps th A path t (instance σ (from_side w p)) (instance σ (to_side w p)) u wt r.there new (sort_instances th.signature w p σ s i)
    (turned th A w p σ d) r.made

-- so each level is kept
pub derivable_keeps : (th : Theory) → IsWellFormed th → (A : List Pair) (n : ℕ) (t u : Tree) → IsWellSorted th.signature t → KeepsDerivable th A t u
    → Keeps th A n t u
derivable_keeps th ok A n t u wt f = record {
  well_sorted = f.well_sorted;
  same_sort = f.same_sort;
  agree = λ σ i.
      let sig = th.signature in
      derivable_agrees th ok (map (instance_pair σ) A) n (instance σ t) (instance σ u)
      (instance_well_sorted sig σ t i wt) (instance_well_sorted sig σ u i f.well_sorted)
      (sort_of-instance_by sig σ u i f.well_sorted ∙ f.same_sort ∙ sym (sort_of-instance_by sig σ t i wt))
      (derivable_instance th σ i f.derivable);
}

assumed : (th : Theory) (A : List Pair) (w : Way) (p : Pair) → Contains A p → IsWellSortedPair th.signature p → Derivable th A (from_side w p) (to_side w p)
assumed th A Forth p c s = by_premise p c s
assumed th A Back p c s = by_symmetry (by_premise p c s)

-- ---- conditions

-- each condition under the substitution is derivable, in each instance of the assumptions
abbrev pub AlwaysHold : Theory → (assumptions : List Pair) → Substitution → (conds : List Pair) → Type 0
AlwaysHold th A σ E =
    (p : Pair) → Contains E p → (τ : Substitution) → IsSubstitution th.signature τ
    → Derivable th (map (instance_pair τ) A) (instance τ (instance σ p.left)) (instance τ (instance σ p.right))

pub instance_pairs-Var : (A : List Pair) → map (instance_pair Var) A ≡ A
instance_pairs-Var [] = refl
instance_pairs-Var (p ∷ A) = rw (instance-Var p.left, instance-Var p.right, instance_pairs-Var A) refl

-- also under the assumptions as they stand
hold_here : (th : Theory) (A : List Pair) (σ : Substitution) (E : List Pair) → AlwaysHold th A σ E → ConditionsHold th A σ E
hold_here th A σ E h p c =
    rw (instance_pairs-Var A, instance-Var (instance σ p.left), instance-Var (instance σ p.right)) at (h p c Var (λ n s k. (refl, k)))

-- so they may be cut
hold_given : (th : Theory) (A : List Pair) (σ : Substitution) (E : List Pair) → AlwaysHold th A σ E → (τ : Substitution) → IsSubstitution th.signature τ
    → Gives th (map (instance_pair (composed τ σ)) E) (map (instance_pair τ) A)
hold_given th A σ E h τ j q c s =
    let r = from_map (instance_pair (composed τ σ)) E q c in
    let P : Pair → Type 0 = λ z. Derivable th (map (instance_pair τ) A) z.left z.right in
    subst P r.2 (rw (instance-instance τ σ r.0.left, instance-instance τ σ r.0.right) at (h r.0 r.1 τ j))

given_here : (th : Theory) (A : List Pair) (σ : Substitution) (E : List Pair) → ConditionsHold th A σ E → Gives th (map (instance_pair σ) E) A
given_here th A σ E h q c s =
    let r = from_map (instance_pair σ) E q c in
    let P : Pair → Type 0 = λ z. Derivable th A z.left z.right in
    subst P r.2 (h r.0 r.1)

-- two terms of a visible sort that lead to one are derivable from one another, in each instance
meeting_holds : (th : Theory) (A : List Pair) (n : ℕ) (a b m : Tree) → IsWellSorted th.signature a → IsWellSorted th.signature b → sort_of b ≡ sort_of a
    → IsVisible th (sort_of a) → Keeps th A n a m → Keeps th A n b m → (τ : Substitution) → IsSubstitution th.signature τ
    → Derivable th (map (instance_pair τ) A) (instance τ a) (instance τ b)
meeting_holds th A n a b m wa wb e v x y τ j =
    let V : ℕ → Type 0 = IsVisible th in
    let va = subst V (sym (sort_of-instance_by th.signature τ a j wa)) v in
    let vb = subst V (sym (sort_of-instance_by th.signature τ b j wb ∙ e)) v in
    by_chain (instance τ m) (x.agree τ j [] (omega arith) va) (by_symmetry (y.agree τ j [] (omega arith) vb))

-- ---- hypotheses

-- What is known of a setting: assumptions are well-sorted, and hypotheses and places agree at the level.
pub record IsGood (c : Setting) (level : ℕ) : Type 0 where
  pub well_formed : IsWellFormed c.theory
  pub assumptions : AreWellSortedPairs c.theory.signature c.assumptions
  pub hypotheses : HypothesesAgree c.theory level c.hypotheses
  pub places : PlacesAgree c.theory c.places level

-- a hypothesis in either direction
hypothesis_agrees : (th : Theory) (n : ℕ) (w : Way) (h : Goal) → IsWellSortedGoal th h → AgreeGoal th n h → (σ : Substitution)
    → IsSubstitution th.signature σ
    → Agree th (map (instance_pair σ) h.conds) n (instance σ (from_side w (sides h))) (instance σ (to_side w (sides h)))
hypothesis_agrees th n Forth h s a σ i = a σ i
hypothesis_agrees th n Back h s a σ i =
    agree_symmetry th (map (instance_pair σ) h.conds) n (instance σ h.left) (instance σ h.right) (sort_instances th.signature Forth (sides h) σ s.sorted i) (a σ i)

-- at a special path, whatever its sort, where its conditions hold
special_keeps : (c : Setting) (n : ℕ) → IsGood c n → (w : Way) (h : Goal) (σ : Substitution) (path : List ℕ) (t u : Tree)
    → IsWellSortedGoal c.theory h → AgreeGoal c.theory n h → AlwaysHold c.theory c.assumptions σ h.conds → IsSubstitution c.theory.signature σ
    → IsWellSorted c.theory.signature t → IsSpecial c.places t path
    → Replaces t path (instance σ (from_side w (sides h))) (instance σ (to_side w (sides h))) u → Keeps c.theory c.assumptions n t u
special_keeps c n g w h σ path t u s a holds i wt sp r =
    let th : Theory = c.theory in
    let sig : Signature = th.signature in
    let q : Pair = sides h in
    let x = instance σ (from_side w q) in
    let y = instance σ (to_side w q) in
    let wx = instance_well_sorted sig σ (from_side w q) i (sorted_from sig w q s.sorted) in
    let wy = instance_well_sorted sig σ (to_side w q) i (sorted_to sig w q s.sorted) in
    let kept : (τ : Substitution) → IsSubstitution sig τ → Stays th (map (instance_pair τ) c.assumptions) n (instance τ t) (instance τ u) = λ τ j.
    let B = map (instance_pair τ) c.assumptions in
    let ρ = composed τ σ in
    let from = instance ρ (from_side w q) in
    let to = instance ρ (to_side w q) in
    let here : Stays th B n (instance τ x) (instance τ y) = record {
      well_sorted = instance_well_sorted sig τ y j wy;
      same_sort = sort_of-instance_by sig τ y j wy ∙ sort_instances sig w q σ s.sorted i ∙ sym (sort_of-instance_by sig τ x j wx);
      agree = rw (instance-instance τ σ (from_side w q), instance-instance τ σ (to_side w q))
          (agree_cut th (map (instance_pair ρ) h.conds) B (hold_given th c.assumptions σ h.conds holds τ j) n from to
          (hypothesis_agrees th n w h s a ρ (composed_substitution sig τ σ j i)));
    } in
    special_stays th B c.places n g.places path (instance τ t) (instance τ x) (instance τ y) (instance τ u) (special_instance c.places τ path t sp)
    (instance_well_sorted sig τ t j wt) (at_instance τ path t x r.there) here (replaced_instance τ path t y u r.made) in
    let same = rw (instance-Var t, instance-Var u) at (kept Var (λ m k z. (refl, z))) in
    record { well_sorted = same.well_sorted; same_sort = same.same_sort; agree = λ τ j. (kept τ j).agree }

-- a hypothesis of visible sort is derivable in each instance, and one of hidden sort is used at a special path
hypothesis_keeps : (c : Setting) (n : ℕ) → IsGood c n → (number : ℕ) (way : Way) (path : List ℕ) (terms : List Tree) (t u : Tree)
    → IsWellSorted c.theory.signature t → (r : HypothesisLeads c number way path terms t u)
    → IsSubstitution c.theory.signature (by_terms r.hypothesis terms) → AlwaysHold c.theory c.assumptions (by_terms r.hypothesis terms) r.hypothesis.conds
    → Keeps c.theory c.assumptions n t u
hypothesis_keeps c n g number way path terms t u wt r i holds =
    let th : Theory = c.theory in
    let h : Goal = r.hypothesis in
    let σ : Substitution = by_terms h terms in
    let there = contains_at c.hypotheses number h r.listed in
    let s : IsWellSortedGoal th h = g.hypotheses.sorted h there in
    let a : AgreeGoal th n h = g.hypotheses.agree h there in
    elim (hidden_or_visible th (sort_of h.left)) [
      | inl x ↦ special_keeps c n g way h σ path t u s a holds i wt (r.special x) r.rewrites.replaces
      | inr v ↦
          let V : ℕ → Type 0 = IsVisible th in
          let d : Derivable th (map (instance_pair σ) h.conds) (instance σ h.left) (instance σ h.right) =
          a σ i [] (omega arith) (subst V (sym (sort_of-instance_by th.signature σ h.left i s.sorted.left)) v) in
          let e = cut th d c.assumptions (given_here th c.assumptions σ h.conds (hold_here th c.assumptions σ h.conds holds)) in
          derivable_keeps th g.well_formed c.assumptions n t u wt
          (rewriting_derives th c.assumptions way (sides h) σ path t u s.sorted i e wt r.rewrites.replaces)
    ]

-- ---- links

nothing_changed : (c : Setting) (n : ℕ) → IsGood c n → (t u : Tree) → IsWellSorted c.theory.signature t → t ≡ u → Keeps c.theory c.assumptions n t u
nothing_changed c n g t u wt e =
    let P : Tree → Type 0 = λ x. Keeps c.theory c.assumptions n t x in
    subst P e (derivable_keeps c.theory g.well_formed c.assumptions n t t wt (record { derivable = by_same t wt; well_sorted = wt; same_sort = refl }))

one_after_another : (c : Setting) (n : ℕ) (t m u : Tree) → IsWellSorted c.theory.signature t → Keeps c.theory c.assumptions n t m
    → Keeps c.theory c.assumptions n m u → Keeps c.theory c.assumptions n t u
one_after_another c n t m u wt x y = record {
  well_sorted = y.well_sorted;
  same_sort = y.same_sort ∙ x.same_sort;
  agree = λ σ i.
      let sig = c.theory.signature in
      let e = sort_of-instance_by sig σ m i x.well_sorted ∙ x.same_sort ∙ sym (sort_of-instance_by sig σ t i wt) in
      agree_chain c.theory (map (instance_pair σ) c.assumptions) n (instance σ t) (instance σ m) (instance σ u) e (x.agree σ i) (y.agree σ i);
}

mutual
  pub link_keeps : (c : Setting) (n : ℕ) → IsGood c n → (l : LinkOf Tree) → AllOfLink (IsWellSorted c.theory.signature) l
      → (t u : Tree) → IsWellSorted c.theory.signature t → Leads c l t u → Keeps c.theory c.assumptions n t u
  link_keeps c n g (Equation_link number way path terms conds) f t u wt r =
      let th : Theory = c.theory in
      let e = r.0.equation in
      let there = contains_at th.equations number e r.0.listed in
      let σ : Substitution = by_terms (goal_of e) terms in
      let i = terms_substitution th.signature (goal_of e) way path terms t u f.0 r.0.rewrites in
      let holds = conditions_hold c n g σ i e.conds (g.well_formed.equations e there).conds conds f.1 r.1 in
      derivable_keeps th g.well_formed c.assumptions n t u wt
      (rewrite_keeps th g.well_formed c.assumptions e way σ path t u there i (hold_here th c.assumptions σ e.conds holds) wt r.0.rewrites.replaces)
  link_keeps c n g (Hypothesis_link number way path terms conds) f t u wt r =
      let th : Theory = c.theory in
      let h : Goal = r.0.hypothesis in
      let there = contains_at c.hypotheses number h r.0.listed in
      let σ : Substitution = by_terms h terms in
      let i = terms_substitution th.signature h way path terms t u f.0 r.0.rewrites in
      hypothesis_keeps c n g number way path terms t u wt r.0 i (conditions_hold c n g σ i h.conds (g.hypotheses.sorted h there).conds conds f.1 r.1)
  link_keeps c n g (Assumption_link number way path) f t u wt r =
      let th : Theory = c.theory in
      let sig : Signature = th.signature in
      let p : Pair = r.assumed in
      let there = contains_at c.assumptions number p r.listed in
      let s = g.assumptions p there in
      derivable_keeps th g.well_formed c.assumptions n t u wt
      (replaced_keeps th c.assumptions path t (from_side way p) (to_side way p) u wt r.replaces.there (sorted_to sig way p s) (sort_to sig way p s)
      (assumed th c.assumptions way p there s) r.replaces.made)
  link_keeps c n g (Content_link op path term) f t u wt r =
      let th : Theory = c.theory in
      let h = r.content in
      let old = at_sorted th path t r.old wt r.replaces.there in
      let d : Derivable th c.assumptions r.old term =
      same_content_derivable th g.well_formed c.assumptions op h.operator h.there r.old term old f h.same_content in
      derivable_keeps th g.well_formed c.assumptions n t u wt
      (replaced_keeps th c.assumptions path t r.old term u wt r.replaces.there f h.same_sort d r.replaces.made)

  -- the links of a row, one after the other
  row_keeps : (c : Setting) (n : ℕ) → IsGood c n → (ls : LinksOf Tree) → AllOfRow (IsWellSorted c.theory.signature) ls
      → (t u : Tree) → IsWellSorted c.theory.signature t → RowLeads c ls t u → Keeps c.theory c.assumptions n t u
  row_keeps c n g no_link f t u wt e = nothing_changed c n g t u wt e
  row_keeps c n g (more_links l ls) f t u wt r =
      let x = link_keeps c n g l f.0 t r.0 wt r.1 in
      one_after_another c n t r.0 u wt x (row_keeps c n g ls f.1 r.0 u x.well_sorted r.2)

  -- the conditions of a link
  conditions_hold : (c : Setting) (n : ℕ) → IsGood c n → (σ : Substitution) → IsSubstitution c.theory.signature σ → (E : List Pair)
      → AreConditions c.theory E → (cs : ChainsOf Tree) → AllOfChains (IsWellSorted c.theory.signature) cs → ConditionsLead c σ E cs
      → AlwaysHold c.theory c.assumptions σ E
  conditions_hold c n g σ i [] w cs f r p k = nothing p k
  conditions_hold c n g σ i (q ∷ E) w no_chain f r p k = absurd r
  conditions_hold c n g σ i (q ∷ E) w (more_chains ls rs cs) f r p k =
      let th : Theory = c.theory in
      let sig : Signature = th.signature in
      let s = w q (contains_first q E) in
      let wa = instance_well_sorted sig σ q.left i s.sorted.left in
      let wb = instance_well_sorted sig σ q.right i s.sorted.right in
      let V : ℕ → Type 0 = IsVisible th in
      let v = subst V (sym (sort_of-instance_by sig σ q.left i s.sorted.left)) s.visible in
      let x = row_keeps c n g ls f.0 (instance σ q.left) r.2.0 wa r.2.1 in
      let y = row_keeps c n g rs f.1 (instance σ q.right) r.2.0 wb r.2.2 in
      let P : Pair → Type 0 = λ z. (τ : Substitution) → IsSubstitution sig τ
      → Derivable th (map (instance_pair τ) c.assumptions) (instance τ (instance σ z.left)) (instance τ (instance σ z.right)) in
      pick P q p E (meeting_holds th c.assumptions n (instance σ q.left) (instance σ q.right) r.2.0 wa wb (sort_instances sig Forth q σ s.sorted i) v x y)
      (conditions_hold c n g σ i E (λ z d. w z (in_rest q z E d)) cs f.2 r.3 p) k

-- the links of a list, one after the other
pub links_keep : (c : Setting) (n : ℕ) → IsGood c n → (ls : List (LinkOf Tree)) → AllOfLinks (IsWellSorted c.theory.signature) ls
    → (t u : Tree) → IsWellSorted c.theory.signature t → Runs (Leads c) ls t u → Keeps c.theory c.assumptions n t u
links_keep c n g [] f t u wt e = nothing_changed c n g t u wt e
links_keep c n g (l ∷ ls) f t u wt r =
    let x = link_keeps c n g l f.0 t r.0 wt r.1 in
    one_after_another c n t r.0 u wt x (links_keep c n g ls f.1 r.0 u x.well_sorted r.2)
