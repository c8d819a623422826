-- What an occurrence of a variable owes: so many first steps of its path must be special, so that it is guarded.
use Rattle.std.specs.Prelude.{◌≡◌, ◌≤◌, ◌<◌, ◌⊎◌, ◌↔◌, ℕ, ◌+◌, List, [], ◌∷◌, ◌++◌, Option, Some, None, true, length, take}
use Rattle.std.specs.List.{slice_get, Contains}
use Rattle.circ_term.specs.Tree.{Tree, Trees, Var, App, sort_of, at}
use Rattle.circ_theory.specs.Theory.{Derivative, IsVisible, IsHidden}
use Rattle.circ_special.specs.declared.place.Place.{Place}
use Rattle.circ_special.specs.Special.{IsSpecial}
use Rattle.circ_special.specs.Guarded.{IsInstanceAt, IsGuardedAt}
use Rattle.circ_special.specs.Fitting.{fits}
use Rattle.circ_needs.specs.Needs.{HasAll}
use Rattle.circ_needs.specs.declared.observers.Look.{Look}
use Rattle.circ_needs.specs.declared.walking.Asked.{Asked}

module _ (a : Asked) where
  -- the set guards the occurrence at the path p
  abbrev pub IsGuarded : (G : List Place) → (p : List ℕ) → Type 0
  IsGuarded G p = IsGuardedAt a.observers.now G a.root.now a.id a.sort p

  -- it guards each occurrence in t, the subterm at the path q
  abbrev pub GuardsBelow : (G : List Place) → (q : List ℕ) → Tree → Type 0
  GuardsBelow G q t = (p : List ℕ) → at t p ≡ Some (Var a.id a.sort) → IsGuarded G (q ++ p)

  -- the first k steps of the path are special
  abbrev pub AreSpecial : (G : List Place) → (k : ℕ) → (p : List ℕ) → Type 0
  AreSpecial G k p = IsSpecial G a.root.now (take k p)

  -- the path leads to an argument of the term, which has this operator
  pub record IsParent (p : List ℕ) (here : Tree) (op : ℕ) : Type 0 where
    pub front : List ℕ
    pub step : ℕ
    pub cut : p ≡ front ++ step ∷ []
    pub sort : ℕ
    pub args : Trees
    pub is : here ≡ App op sort args
    pub there : at a.root.now front ≡ Some here

  abbrev pub IsInstance : (q r : List ℕ) → Derivative → Type 0
  IsInstance q r d = IsInstanceAt a.observers.now a.root.now a.id a.sort d q r

  -- so many steps suffice for the occurrence at p
  pub record Suffices (p : List ℕ) (k : ℕ) : Type 0 where
    pub within : k ≤ length p
    pub guards : (G : List Place) → AreSpecial G k p → IsGuarded G p

  -- Exactly so many steps must be special.
  pub record OwesAt (p : List ℕ) (k : ℕ) : Type 0 where
    pub suffices : Suffices p k
    pub least : (G : List Place) → IsGuarded G p → AreSpecial G k p

  -- the occurrence at p is the hole of an instance, at q, of the derivative to which the look leads
  pub record IsSeen (p : List ℕ) (x : Look) (d : Derivative) (q r : List ℕ) : Type 0 where
    pub listed : slice_get a.observers.now.derivatives x.number ≡ Some d
    pub cut : p ≡ q ++ r
    pub long : length r ≡ x.steps
    pub instance : IsInstance q r d

  -- k is no more than an instance of the derivative at q asks for
  pub record IsAtMost (k : ℕ) (d : Derivative) (q : List ℕ) : Type 0 where
    pub visible : IsVisible a.observers.now (sort_of d.body) → k ≡ 0
    pub front : k ≤ length q

  -- the look leads to no instance, or to one by which so many steps suffice
  abbrev pub OwesBy : (p : List ℕ) → Look → Option ℕ → Type 0
  OwesBy p x None = (d : Derivative) (q r : List ℕ) → IsSeen p x d q r → ⊥
  OwesBy p x (Some k) = Suffices p k × ((d : Derivative) (q r : List ℕ) → IsSeen p x d q r → IsAtMost k d q)

  -- so many steps suffice, and are no more than each instance asks for to which one of the first n looks leads
  abbrev pub AreMet : (p : List ℕ) → List Look → (n k : ℕ) → Type 0
  AreMet p row n k = Suffices p k
      × ((i : ℕ) (x : Look) → i < n → slice_get row i ≡ Some x → (d : Derivative) (q r : List ℕ) → IsSeen p x d q r → IsAtMost k d q)

  -- what stands at the front of a path fits the body
  pub record FitsFront (front : List ℕ) (body : Tree) : Type 0 where
    pub subterm : Tree
    pub there : at a.root.now front ≡ Some subterm
    pub fit : fits a.id a.sort body subterm ≡ true

  -- .. whose hole is at the rest
  abbrev pub HasFit : (front rest : List ℕ) → (body : Tree) → Type 0
  HasFit front rest body = (at body rest ≡ Some (Var 0 a.sort)) × FitsFront front body

  -- nothing is owed by a visible body, and the front by a hidden one
  abbrev pub OwesThere : (front rest : List ℕ) → Tree → Option ℕ → Type 0
  OwesThere front rest body None = HasFit front rest body → ⊥
  OwesThere front rest body (Some k) = HasFit front rest body
      × ((IsVisible a.observers.now (sort_of body) × (k ≡ 0)) ⊎ (IsHidden a.observers.now (sort_of body) × (k ≡ length front)))

  -- Sets guard all in t, the subterm at q, exactly where they have what was needed then, and k first steps of q are special under them and they
  -- have what is needed now.
  abbrev pub Owes : (q : List ℕ) → (old new : List Place) → Tree → (k : ℕ) → Type 0
  Owes q old new t k = (k ≤ length q) × ((G : List Place) → (HasAll G new × AreSpecial G k q) ↔ (HasAll G old × GuardsBelow G q t))

  -- the set guards all in the arguments of the subterm at q
  abbrev pub GuardsArgs : (G : List Place) → (q : List ℕ) → List Tree → Type 0
  GuardsArgs G q ts = (i : ℕ) (t : Tree) → slice_get ts i ≡ Some t → GuardsBelow G (q ++ i ∷ []) t

  -- in the first n of them
  abbrev pub GuardsArgsTo : (G : List Place) → (q : List ℕ) → List Tree → (n : ℕ) → Type 0
  GuardsArgsTo G q ts n = (i : ℕ) (t : Tree) → i < n → slice_get ts i ≡ Some t → GuardsBelow G (q ++ i ∷ []) t

  abbrev pub OwesAll : (q : List ℕ) → (old new : List Place) → List Tree → (k : ℕ) → Type 0
  OwesAll q old new ts k = (k ≤ length q) × ((G : List Place) → (HasAll G new × AreSpecial G k q) ↔ (HasAll G old × GuardsArgs G q ts))

  abbrev pub OwesTo : (q : List ℕ) → (old new : List Place) → List Tree → (n k : ℕ) → Type 0
  OwesTo q old new ts n k = (k ≤ length q) × ((G : List Place) → (HasAll G new × AreSpecial G k q) ↔ (HasAll G old × GuardsArgsTo G q ts n))

-- no more steps are owed than the path has without its last one; or that is one of the places, and all others are owed
abbrev pub Passes : Place → (steps len : ℕ) → (old new : List Place) → (k : ℕ) → Type 0
Passes g steps len old new k = ((steps ≤ len) × (k ≡ steps) × (new ≡ old))
    ⊎ ((len < steps) × (k ≡ len) × ((G : List Place) → HasAll G new ↔ (HasAll G old × Contains G g)))
