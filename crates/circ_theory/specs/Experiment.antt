-- Experiments, and pairs that no experiment tells apart (behavioural equivalence).
use Rattle.std.specs.Prelude.{◌≡◌, ℕ, List, [], ◌∷◌, ◌==◌, ◌&&◌, if◌then◌else◌}
use Rattle.std.specs.List.{Contains}
use Rattle.circ_term.specs.Tree.{Tree, sort_of}
use Rattle.circ_term.specs.Substitution.{Substitution, instance}
use Rattle.circ_theory.specs.Signature.{IsSubstitution}
use Rattle.circ_pairs.specs.Pair.{Pair}
use Rattle.circ_theory.specs.Theory.{Theory, Derivative, IsVisible}
use Rattle.circ_theory.specs.Derivable.{Derivable}
use Rattle.circ_pairs.specs.declared.goals.Goal.{Goal}

-- a derivative with terms for its parameters
pub record Entry : Type 0 where
  pub derivative : Derivative
  pub parameters : Substitution

-- t at the hole, and the parameters elsewhere
abbrev pub plug : (hole : ℕ) → Tree → Substitution → Substitution
plug h t p = λ n s. if (n == 0) && (s == h) then t else p n s

-- the instance of a derivative on a term and parameters
abbrev pub derived : Derivative → Tree → Substitution → Tree
derived d t p = instance (plug d.hole t p) d.body

-- The empty experiment fits a visible sort. Any other fits the hole's sort of its first derivative, where its rest fits the sort of that derivative.
abbrev pub Fits : Theory → List Entry → ℕ → Type 0
Fits th [] s = IsVisible th s
Fits th (c ∷ cs) s =
    Contains th.derivatives c.derivative × (c.derivative.hole ≡ s) × IsSubstitution th.signature c.parameters × Fits th cs (sort_of c.derivative.body)

-- the experiment on a term
abbrev pub on : List Entry → Tree → Tree
on [] t = t
on (c ∷ cs) t = on cs (derived c.derivative t c.parameters)

-- Every fitting experiment on the two terms gives results that are derivable from one another, by the theory and the pairs H.
abbrev pub BehavesFrom : Theory → List Pair → Tree → Tree → Type 0
BehavesFrom th H s t = (cs : List Entry) → Fits th cs (sort_of s) → Derivable th H (on cs s) (on cs t)

-- .. by the theory and the goal's conditions
abbrev pub Behaves : Theory → Goal → Type 0
Behaves th g = BehavesFrom th g.conds g.left g.right
