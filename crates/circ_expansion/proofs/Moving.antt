-- From one instance to the other, one occurrence at a time, by the paths of the variable from the left.
use Rattle.std.proofs.Common.{◌≡◌, ℕ, List, [], ◌∷◌, ◌++◌, zero, suc, Bool, true, false, ◌==◌, ◌&&◌, if◌then◌else◌, map, Option, Some, None, refl, ap, sym}
use Rattle.std.proofs.Common.{◌∙◌, subst, inl}
use Rattle.std.specs.List.{slice_get}
use Rattle.std.proofs.lemmas.Bool.{eqb-true, and_parts}
use Rattle.std.proofs.lemmas.Option.{same_Some}
use Rattle.circ_term.specs.Tree.{Tree, Trees, Var, App, none, more, list_of, replaced, put_at}
use Rattle.circ_term.specs.Substitution.{Substitution, instance, instances}
use Rattle.circ_term.proofs.Trees.{trees_of-list_of}
use Rattle.circ_soundness.proofs.Filling.{Fills, FillsAll}
use Rattle.circ_soundness.proofs.Changing.{DifferAt, Mixed, Changes, all_fill_left, fills_right}
use Rattle.circ_expansion.specs.Expand.{next_arg, paths_of, paths_in}

abbrev pub Moves : (σ τ : Substitution) (k s : ℕ) (t : Tree) → List (List ℕ) → Tree → Tree → Type 0
Moves σ τ k s t [] u w = u ≡ w
Moves σ τ k s t (p ∷ ps) u w = (v : Tree) × Changes σ τ k s t p u v × Moves σ τ k s t ps v w

pub moves_append : (σ τ : Substitution) (k s : ℕ) (t : Tree) (ps qs : List (List ℕ)) (u v w : Tree) → Moves σ τ k s t ps u v → Moves σ τ k s t qs v w
    → Moves σ τ k s t (ps ++ qs) u w
moves_append σ τ k s t [] qs u v w m n = let P : Tree → Type 0 = λ x. Moves σ τ k s t qs x w in subst P (sym m) n
moves_append σ τ k s t (p ∷ ps) qs u v w m n = (m.0, m.1, moves_append σ τ k s t ps qs m.0 v w m.2 n)

in_first : (σ τ : Substitution) (k s f r : ℕ) (t : Tree) (ts us : Trees) → FillsAll (Mixed σ τ) ts us → (ps : List (List ℕ)) (u w : Tree)
    → Moves σ τ k s t ps u w
    → Moves σ τ k s (App f r (more t ts)) (map (λ p. zero ∷ p) ps) (App f r (more u us)) (App f r (more w us))
in_first σ τ k s f r t ts us h [] u w m = ap (λ x. App f r (more x us)) m
in_first σ τ k s f r t ts us h (p ∷ ps) u w m =
    let c = m.1 in (
      App f r (more m.0 us),
      record {
        variable = c.variable;
        mixed = (refl, refl, (c.mixed, h));
        old = c.old;
        new = let n = c.new in rw n (ap (λ x. Some (App f r (more m.0 x))) (trees_of-list_of us));
      },
      in_first σ τ k s f r t ts us h ps m.0 w m.2,
    )

in_others : (σ τ : Substitution) (k s f r : ℕ) (t u : Tree) (ts : Trees) → Fills (Mixed σ τ) t u → (ps : List (List ℕ)) (us ws : Trees)
    → Moves σ τ k s (App f r ts) ps (App f r us) (App f r ws)
    → Moves σ τ k s (App f r (more t ts)) (map next_arg ps) (App f r (more u us)) (App f r (more u ws))
in_others σ τ k s f r t u ts h [] us ws m = let e : us ≡ ws = cc in ap (λ x. App f r (more u x)) e
in_others σ τ k s f r t u ts h ([] ∷ ps) us ws m = absurd (let e : App f r ts ≡ Var k s = same_Some (App f r ts) (Var k s) m.1.variable in cc)
in_others σ τ k s f r t u ts h ((i ∷ p) ∷ ps) us ws m = go (slice_get (list_of us) i) refl (λ vs n. in_others σ τ k s f r t u ts h ps vs ws n)
  where
    onward : Type 0
    onward = Moves σ τ k s (App f r (more t ts)) ((suc i ∷ p) ∷ map next_arg ps) (App f r (more u us)) (App f r (more u ws))

    there : (x : Tree) → slice_get (list_of us) i ≡ Some x → (o : Option Tree) → replaced x p (τ k s) ≡ o
        → ((vs : Trees) → Moves σ τ k s (App f r ts) ps (App f r vs) (App f r ws)
        → Moves σ τ k s (App f r (more t ts)) (map next_arg ps) (App f r (more u vs)) (App f r (more u ws))) → onward
    there x c None n ih = absurd (let z = m.1.new in let y = rw (c, n) at z in cc)
    there x c (Some y) n ih =
        let z = m.1.new in
        let vs : Trees = put_at us i y in
        let same : App f r vs ≡ m.0 = same_Some (App f r vs) m.0 (rw (c, n) at z) in
        let P : Tree → Type 0 = λ v. Moves σ τ k s (App f r ts) ps v (App f r ws) in (
          App f r (more u vs),
          record { variable = m.1.variable; mixed = (refl, refl, (h, m.1.mixed.2)); old = m.1.old; new = rw (c, n) refl },
          ih vs (subst P (sym same) m.2),
        )

    go : (o : Option Tree) → slice_get (list_of us) i ≡ o
        → ((vs : Trees) → Moves σ τ k s (App f r ts) ps (App f r vs) (App f r ws)
        → Moves σ τ k s (App f r (more t ts)) (map next_arg ps) (App f r (more u vs)) (App f r (more u ws))) → onward
    go None c ih = absurd (let z = m.1.new in let y = rw c at z in cc)
    go (Some x) c ih = there x c (replaced x p (τ k s)) refl ih

-- each occurrence in turn
mutual
  pub moved : (σ τ : Substitution) (k s : ℕ) → DifferAt k s σ τ → (t : Tree) → Moves σ τ k s t (paths_of k s t) (instance σ t) (instance τ t)
  moved σ τ k s d (Var n r) = go ((n == k) && (r == s)) refl
    where
      go : (b : Bool) → ((n == k) && (r == s)) ≡ b → Moves σ τ k s (Var n r) (if b then [] ∷ [] else []) (σ n r) (τ n r)
      go true e =
          let en = eqb-true n k (and_parts (n == k) (r == s) e).0 in
          let er = eqb-true r s (and_parts (n == k) (r == s) e).1 in (
            τ n r,
            record {
              variable = ap (λ x. Some (Var x r)) en ∙ ap (λ x. Some (Var k x)) er;
              mixed = inl refl;
              old = ap (λ x. Some (σ x r)) en ∙ ap (λ x. Some (σ k x)) er;
              new = ap (λ x. Some (τ k x)) (sym er) ∙ ap (λ x. Some (τ x r)) (sym en);
            },
            refl,
          )
      go false e = d n r e
  moved σ τ k s d (App f r ts) = moved_in σ τ k s d f r ts

  moved_in : (σ τ : Substitution) (k s : ℕ) → DifferAt k s σ τ → (f r : ℕ) (ts : Trees)
      → Moves σ τ k s (App f r ts) (paths_in k s ts) (App f r (instances σ ts)) (App f r (instances τ ts))
  moved_in σ τ k s d f r none = refl
  moved_in σ τ k s d f r (more t ts) =
      moves_append σ τ k s (App f r (more t ts)) (map (λ p. zero ∷ p) (paths_of k s t)) (map next_arg (paths_in k s ts))
      (App f r (more (instance σ t) (instances σ ts))) (App f r (more (instance τ t) (instances σ ts))) (App f r (more (instance τ t) (instances τ ts)))
      (in_first σ τ k s f r t ts (instances σ ts) (all_fill_left σ τ ts) (paths_of k s t) (instance σ t) (instance τ t) (moved σ τ k s d t))
      (in_others σ τ k s f r t (instance τ t) ts (fills_right σ τ t) (paths_in k s ts) (instances σ ts) (instances τ ts) (moved_in σ τ k s d f r ts))
