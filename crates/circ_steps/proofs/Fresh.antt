-- One above the greatest variable number of a goal, by the list of its variables.
use Rattle.std.proofs.Common.{◌≡◌, ◌+◌, ◌≤◌, Bool, true, false, ◌==◌, ◌||◌, if◌then◌else◌, max, List, [], ◌∷◌, ◌++◌, refl, arith}
use Rattle.std.specs.List.{list_any}
use Rattle.std.proofs.lemmas.Bool.{eqb-true, and_parts}
use Rattle.circ_term.specs.Tree.{Tree, Trees, Var, App, none, more}
use Rattle.circ_theory.specs.Theory.{Pair}
use Rattle.circ_theory.specs.Variables.{Variable, is_variable, seen, seen_in, seen_in_all, seen_in_pairs, variables_of, is_before, put_in_order, sorted}
use Rattle.circ_theory.specs.Fresh.{above, all_above, above_pairs, fresh_in}
use Rattle.circ_theory.specs.Goal.{Goal}
use Rattle.circ_steps.specs.Derivatives.{above_variables}

above_push : (v : Variable) (vs : List Variable) → above_variables (vs ++ v ∷ []) ≡ max (above_variables vs) (v.number + 1)
above_push v [] = omega arith
above_push v (w ∷ vs) = let ih = above_push v vs in omega (arith, ih)

-- a variable that is there is below
above_there : (v : Variable) (vs : List Variable) → list_any (is_variable v) vs ≡ true → v.number + 1 ≤ above_variables vs
above_there v [] e = absurd (cc)
above_there v (w ∷ vs) e = go (is_variable v w) refl e (above_there v vs)
  where
    go : (b : Bool) → is_variable v w ≡ b → (b || list_any (is_variable v) vs) ≡ true
        → (list_any (is_variable v) vs ≡ true → v.number + 1 ≤ above_variables vs) → v.number + 1 ≤ above_variables (w ∷ vs)
    go true h f rest =
        let same : v.number ≡ w.number = eqb-true v.number w.number (and_parts (v.number == w.number) (v.sort == w.sort) h).0 in omega (arith, same)
    go false h f rest = let ih = rest f in omega (arith, ih)

above_seen : (v : Variable) (vs : List Variable) → above_variables (seen v vs) ≡ max (above_variables vs) (v.number + 1)
above_seen v vs = go (list_any (is_variable v) vs) refl
  where
    go : (b : Bool) → list_any (is_variable v) vs ≡ b → above_variables (if b then vs else vs ++ v ∷ []) ≡ max (above_variables vs) (v.number + 1)
    go true e = let h = above_there v vs e in omega (arith, h)
    go false e = above_push v vs

mutual
  above_seen_in : (t : Tree) (vs : List Variable) → above_variables (seen_in t vs) ≡ max (above_variables vs) (above t)
  above_seen_in (Var n s) vs = above_seen (record { number = n; sort = s }) vs
  above_seen_in (App f s ts) vs = above_seen_in_all ts vs

  above_seen_in_all : (ts : Trees) (vs : List Variable) → above_variables (seen_in_all ts vs) ≡ max (above_variables vs) (all_above ts)
  above_seen_in_all none vs = omega arith
  above_seen_in_all (more t ts) vs =
      let one = above_seen_in t vs in
      let rest = above_seen_in_all ts (seen_in t vs) in
      omega (arith, one, rest)

above_seen_in_pairs : (ps : List Pair) (vs : List Variable) → above_variables (seen_in_pairs ps vs) ≡ max (above_variables vs) (above_pairs ps)
above_seen_in_pairs [] vs = omega arith
above_seen_in_pairs (p ∷ ps) vs =
    let left = above_seen_in p.left vs in
    let right = above_seen_in p.right (seen_in p.left vs) in
    let rest = above_seen_in_pairs ps (seen_in p.right (seen_in p.left vs)) in
    omega (arith, left, right, rest)

above_put : (v : Variable) (ws : List Variable) → above_variables (put_in_order v ws) ≡ max (v.number + 1) (above_variables ws)
above_put v [] = refl
above_put v (w ∷ ws) = go (is_before w v) (above_put v ws)
  where
    go : (b : Bool) → above_variables (put_in_order v ws) ≡ max (v.number + 1) (above_variables ws)
        → above_variables (if b then w ∷ put_in_order v ws else v ∷ w ∷ ws) ≡ max (v.number + 1) (above_variables (w ∷ ws))
    go true ih = omega (arith, ih)
    go false ih = refl

above_sorted : (vs : List Variable) → above_variables (sorted vs) ≡ above_variables vs
above_sorted [] = refl
above_sorted (v ∷ vs) = let put = above_put v (sorted vs) in let ih = above_sorted vs in omega (arith, put, ih)

pub fresh_above : (g : Goal) → above_variables (sorted (variables_of g)) ≡ fresh_in g
fresh_above g =
    let left = above_seen_in g.left [] in
    let right = above_seen_in g.right (seen_in g.left []) in
    let conds = above_seen_in_pairs g.conds (seen_in g.right (seen_in g.left [])) in
    let all = above_sorted (variables_of g) in
    omega (arith, left, right, conds, all)
