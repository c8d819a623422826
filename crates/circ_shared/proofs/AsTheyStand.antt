-- A pattern without variables and conditions: its sides are replaced as they stand.
use Rattle.std.proofs.Common.{◌≡◌, ◌<◌, ℕ, List, [], ◌∷◌, length, Option, Some, None, Ok, refl, ap, sym, subst}
use Rattle.circ_term.specs.Tree.{Tree, Var}
use Rattle.circ_term.specs.Substitution.{instance}
use Rattle.circ_term.proofs.Instances.{instance-Var}
use Rattle.circ_theory.specs.Theory.{Pair, sides}
use Rattle.circ_theory.specs.Variables.{Variable, variables_of, sorted, FitVariables, given}
use Rattle.circ_theory.specs.Rewriting.{from_side, to_side, Replaces}
use Rattle.circ_theory.specs.declared.way.Way.{Way}
use Rattle.circ_nodes.specs.Named.{AreNamed, tree_at}
use Rattle.circ_replay.specs.Rewriting.{GivesExchange}
use Rattle.circ_shared.specs.declared.patterns.Pattern.{Pattern}
use Rattle.circ_shared.specs.declared.usage.Use.{Use}
use Rattle.circ_shared.specs.Interned.{OfTerm}
use Rattle.circ_shared.specs.Patterns.{variable_trees, pairs_at, goal_at, AreThere, IsPattern}
use Rattle.circ_shared.specs.Usage.{PlainUse, OfUse, GivesUse, GivesRewriting, IsUnconditional}
use Rattle.circ_shared.proofs.Using.{if_of_use, gives_rewriting}

no_variables : (nodes : List Tree) (ns : List ℕ) (vs : List Variable) → ns ≡ [] → AreNamed nodes ns (variable_trees vs) → vs ≡ []
no_variables nodes ns [] e h = refl
no_variables nodes [] (v ∷ vs) e h = absurd h
no_variables nodes (n ∷ ns) (v ∷ vs) e h = absurd (cc)

module _ (t : Tree) (path : List ℕ) (from to : Tree) where
  given_themselves : (u : Tree) → Replaces t path from to u → Replaces t path (instance Var from) (instance Var to) u
  given_themselves u r =
      let P : Tree → Type 0 = λ x. Replaces t path x (instance Var to) u in
      let Q : Tree → Type 0 = λ x. Replaces t path from x u in
      subst P (sym (instance-Var from)) (subst Q (sym (instance-Var to)) r)

  as_they_stand : (u : Tree) → Replaces t path (instance Var from) (instance Var to) u → Replaces t path from to u
  as_they_stand u r =
      let P : Tree → Type 0 = λ x. Replaces t path x (instance Var to) u in
      let Q : Tree → Type 0 = λ x. Replaces t path from x u in
      subst Q (instance-Var to) (subst P (instance-Var from) r)

  exchanged : (nodes : List Tree) (made : Option ℕ) (o : Option Use) → IsUnconditional made o → OfTerm nodes (GivesExchange t path from to) made
      → OfUse nodes (GivesUse Var from to [] path t) o
  exchanged nodes None None u h = λ v r w. h v (as_they_stand v r)
  exchanged nodes None (Some x) u h = absurd u
  exchanged nodes (Some n) None u h = absurd u
  exchanged nodes (Some n) (Some x) u h =
      let P : ℕ → Type 0 = λ m. (m < length nodes) × Replaces t path from to (tree_at nodes m) in
      let one = subst P (sym u.0) h in
      let there : AreThere nodes x.conds.items = subst (AreThere nodes) (sym u.1) tt in
      (one.0, there, (given_themselves (tree_at nodes x.term) one.1, tt, ap (pairs_at nodes) u.1))

-- what is answered is what the rewriting by the pattern leads to
pub plain_rewriting : (nodes new : List Tree) (p : Pattern) (way : Way) (path : List ℕ) (t from to : Tree) → IsPattern nodes p
    → p.variables.items ≡ [] → p.conds.items ≡ [] → from ≡ from_side way (sides (goal_at nodes p)) → to ≡ to_side way (sides (goal_at nodes p))
    → (made : Option ℕ) (o : Option Use) → IsUnconditional made o → OfTerm new (GivesExchange t path from to) made
    → OfUse new (GivesRewriting (goal_at nodes p) way path [] t) o
plain_rewriting nodes new p way path t from to is v c e f made o u h =
    if_of_use {E = ℕ} new (GivesUse Var from to [] path t) (GivesRewriting (goal_at nodes p) way path [] t) go (Ok o) (exchanged t path from to new made o u h)
  where
    none : sorted (variables_of (goal_at nodes p)) ≡ []
    none = no_variables nodes p.variables.items (sorted (variables_of (goal_at nodes p))) v is.variables

    go : (x : Option PlainUse) → GivesUse Var from to [] path t x → GivesRewriting (goal_at nodes p) way path [] t x
    go x k =
        let F : List Variable → Type 0 = λ vs. FitVariables vs [] in
        let P : List Variable → Type 0 = λ vs. GivesUse (given vs []) from to (goal_at nodes p).conds path t x in
        let Q : List Pair → Type 0 = λ ps. GivesUse Var from to ps path t x in
        gives_rewriting (goal_at nodes p) way path [] t from to (subst F (sym none) tt) e f x (subst P (sym none) (subst Q (sym (ap (pairs_at nodes) c)) k))
