-- A goal with its variables numbered anew is numbered in order.
use Rattle.std.proofs.Common.{◌≡◌, ℕ, suc, ◌+◌, List, [], ◌∷◌, ◌++◌, map, length, Bool, true, false, ◌==◌, if◌then◌else◌, Some, refl, ap, sym, subst}
use Rattle.std.proofs.Common.{◌∙◌, arith, append_assoc, append-nil}
use Rattle.std.proofs.lemmas.List.{length-map, map-append}
use Rattle.std.specs.List.{list_any, slice_get}
use Rattle.std.proofs.lemmas.Bool.{eqb-true, eq-eqb, and_parts}
use Rattle.circ_term.specs.Tree.{Tree, Trees, Var, App, none, more}
use Rattle.circ_term.specs.Substitution.{Substitution, instance, instances}
use Rattle.circ_pairs.specs.declared.goals.Goal.{Goal}
use Rattle.circ_pairs.specs.Pair.{Pair, instance_pair}
use Rattle.circ_pairs.specs.Goal.{sides}
use Rattle.circ_pairs.specs.Variables.{Variable, is_variable, seen, seen_in, seen_in_all, seen_in_pairs, variables_of, numbered, IsInOrder, AreNumberedFrom}
use Rattle.circ_pairs.specs.Renumbering.{renumbering, renumbered}
use Rattle.circ_pairs.proofs.Numbering.{numbered_are, seen_there, seen_next}

abbrev pub sorts_in : List Variable → List ℕ
sorts_in vs = map (λ v. v.sort) vs

-- a variable that was seen is given its place
pub record Placed (k n s : ℕ) (vs rest : List Variable) : Type 0 where
  pub place : ℕ
  pub given : renumbering k (vs ++ rest) n s ≡ Var (k + place) s
  pub there : slice_get (sorts_in vs) place ≡ Some s

pub seen_number : (k n s : ℕ) (vs rest : List Variable) → list_any (is_variable (record { number = n; sort = s })) vs ≡ true → Placed k n s vs rest
seen_number k n s [] rest h = absurd (cc)
seen_number k n s (v ∷ vs) rest h = go (λ h. seen_number (k + 1) n s vs rest h) (is_variable (record { number = n; sort = s }) v) refl
  where
    go : (list_any (is_variable (record { number = n; sort = s })) vs ≡ true → Placed (k + 1) n s vs rest) → (b : Bool)
        → is_variable (record { number = n; sort = s }) v ≡ b
        → Placed k n s (v ∷ vs) rest
    go ih true e = let z : k ≡ k + 0 = omega arith in record {
      place = 0;
      given = rw e (ap (λ m. Var m s) z);
      there = ap Some (sym (eqb-true s v.sort (and_parts (n == v.number) (s == v.sort) e).1));
    }
    go ih false e = let r = ih (rw e at h) in let z : k + 1 + r.place ≡ k + suc r.place = omega arith in record {
      place = suc r.place;
      given = rw e (r.given ∙ ap (λ m. Var m s) z);
      there = r.there;
    }

-- and one that is new is given the next place
pub new_number : (k n s : ℕ) (vs rest : List Variable) → list_any (is_variable (record { number = n; sort = s })) vs ≡ false
    → renumbering k ((vs ++ record { number = n; sort = s } ∷ []) ++ rest) n s ≡ Var (k + length vs) s
new_number k n s [] rest h =
    let a : (n == n) ≡ true = eq-eqb n n refl in
    let b : (s == s) ≡ true = eq-eqb s s refl in
    let z : k ≡ k + 0 = omega arith in
    rw (a, b) (ap (λ m. Var m s) z)
new_number k n s (v ∷ vs) rest h = go (λ h. new_number (k + 1) n s vs rest h) (is_variable (record { number = n; sort = s }) v) refl
  where
    go : (list_any (is_variable (record { number = n; sort = s })) vs ≡ false → renumbering (k + 1) ((vs ++ record { number = n; sort = s } ∷ []) ++ rest) n s ≡ Var (k + 1 + length vs) s)
        → (b : Bool) → is_variable (record { number = n; sort = s }) v ≡ b
        → renumbering k (((v ∷ vs) ++ record { number = n; sort = s } ∷ []) ++ rest) n s ≡ Var (k + length (v ∷ vs)) s
    go ih true e = absurd (let z = rw e at h in cc)
    go ih false e =
        let z : k + 1 + length vs ≡ k + suc (length vs) = omega arith in
        rw e (ih (rw e at h) ∙ ap (λ m. Var m s) z)

-- what was seen stays in front
mutual
  seen_more : (t : Tree) (vs : List Variable) → (ws : List Variable) × (seen_in t vs ≡ vs ++ ws)
  seen_more (Var n s) vs = go (list_any (is_variable (record { number = n; sort = s })) vs)
    where
      go : (b : Bool) → (ws : List Variable) × ((if b then vs else vs ++ record { number = n; sort = s } ∷ []) ≡ vs ++ ws)
      go true = ([], sym (append-nil vs))
      go false = (record { number = n; sort = s } ∷ [], refl)
  seen_more (App f s ts) vs = all_seen_more ts vs

  pub all_seen_more : (ts : Trees) (vs : List Variable) → (ws : List Variable) × (seen_in_all ts vs ≡ vs ++ ws)
  all_seen_more none vs = ([], sym (append-nil vs))
  all_seen_more (more t ts) vs =
      let a = seen_more t vs in
      let b = all_seen_more ts (seen_in t vs) in
      (a.0 ++ b.0, b.1 ∙ ap (λ us. us ++ b.0) a.1 ∙ append_assoc vs a.0 b.0)

-- numbered by a longer list, a term's variables are seen in order
variable_in_order : (n s : ℕ) (vs rest : List Variable)
    → seen_in (renumbering 0 (seen (record { number = n; sort = s }) vs ++ rest) n s) (numbered 0 (sorts_in vs)) ≡ numbered 0 (sorts_in (seen (record { number = n; sort = s }) vs))
variable_in_order n s vs rest = go (list_any (is_variable v) vs) refl
  where
    v : Variable
    v = record { number = n; sort = s }

    Ordered : List Variable → Type 0
    Ordered us = seen_in (renumbering 0 (us ++ rest) n s) (numbered 0 (sorts_in vs)) ≡ numbered 0 (sorts_in us)

    see : Tree → List Variable
    see t = seen_in t (numbered 0 (sorts_in vs))

    go : (b : Bool) → list_any (is_variable v) vs ≡ b → Ordered (if list_any (is_variable v) vs then vs else vs ++ v ∷ [])
    go true e =
        let r = seen_number 0 n s vs rest e in
        let z : 0 + r.place ≡ r.place = omega arith in
        rw e (ap see (r.given ∙ ap (λ m. Var m s) z) ∙ seen_there r.place s (sorts_in vs) r.there)
    go false e =
        let l : length vs ≡ length (sorts_in vs) = sym (length-map vs (λ v. v.sort)) in
        let z : 0 + length vs ≡ length vs = omega arith in
        rw e (ap see (new_number 0 n s vs rest e ∙ ap (λ m. Var m s) z) ∙ seen_next (length vs) s (sorts_in vs) l ∙ ap (numbered 0) (sym (map-append (λ v. v.sort) vs (v ∷ []))))

mutual
  term_in_order : (t : Tree) (vs rest : List Variable)
      → seen_in (instance (renumbering 0 (seen_in t vs ++ rest)) t) (numbered 0 (sorts_in vs)) ≡ numbered 0 (sorts_in (seen_in t vs))
  term_in_order (Var n s) vs rest = variable_in_order n s vs rest
  term_in_order (App f s ts) vs rest = terms_in_order ts vs rest

  terms_in_order : (ts : Trees) (vs rest : List Variable)
      → seen_in_all (instances (renumbering 0 (seen_in_all ts vs ++ rest)) ts) (numbered 0 (sorts_in vs)) ≡ numbered 0 (sorts_in (seen_in_all ts vs))
  terms_in_order none vs rest = refl
  terms_in_order (more t ts) vs rest =
      let b = all_seen_more ts (seen_in t vs) in
      let whole : seen_in_all ts (seen_in t vs) ++ rest ≡ seen_in t vs ++ (b.0 ++ rest) = ap (λ us. us ++ rest) b.1 ∙ append_assoc (seen_in t vs) b.0 rest in
      ap (λ us. seen_in_all (instances (renumbering 0 (seen_in_all ts (seen_in t vs) ++ rest)) ts) us)
      (ap (λ us. seen_in (instance (renumbering 0 us) t) (numbered 0 (sorts_in vs))) whole ∙ term_in_order t vs (b.0 ++ rest))
      ∙ terms_in_order ts (seen_in t vs) rest

pairs_seen_more : (ps : List Pair) (vs : List Variable) → (ws : List Variable) × (seen_in_pairs ps vs ≡ vs ++ ws)
pairs_seen_more [] vs = ([], sym (append-nil vs))
pairs_seen_more (p ∷ ps) vs =
    let a = seen_more p.left vs in
    let b = seen_more p.right (seen_in p.left vs) in
    let c = pairs_seen_more ps (seen_in p.right (seen_in p.left vs)) in (
      a.0 ++ (b.0 ++ c.0),
      c.1 ∙ ap (λ us. us ++ c.0) (b.1 ∙ ap (λ us. us ++ b.0) a.1 ∙ append_assoc vs a.0 b.0) ∙ append_assoc vs (a.0 ++ b.0) c.0 ∙ ap (λ us. vs ++ us) (append_assoc a.0 b.0 c.0),
    )

-- a term whose variables are in front of the longer list
one_in_order : (t : Tree) (vs whole : List Variable) (ws : List Variable) → whole ≡ seen_in t vs ++ ws
    → seen_in (instance (renumbering 0 whole) t) (numbered 0 (sorts_in vs)) ≡ numbered 0 (sorts_in (seen_in t vs))
one_in_order t vs whole ws e = ap (λ us. seen_in (instance (renumbering 0 us) t) (numbered 0 (sorts_in vs))) e ∙ term_in_order t vs ws

pairs_in_order : (ps : List Pair) (vs whole : List Variable) → whole ≡ seen_in_pairs ps vs
    → seen_in_pairs (map (instance_pair (renumbering 0 whole)) ps) (numbered 0 (sorts_in vs)) ≡ numbered 0 (sorts_in (seen_in_pairs ps vs))
pairs_in_order [] vs whole e = refl
pairs_in_order (p ∷ ps) vs whole e =
    let σ : Substitution = renumbering 0 whole in
    let l = seen_in p.left vs in
    let r = seen_in p.right l in
    let b = seen_more p.right l in
    let c = pairs_seen_more ps r in
    let left : whole ≡ l ++ (b.0 ++ c.0) = e ∙ c.1 ∙ ap (λ us. us ++ c.0) b.1 ∙ append_assoc l b.0 c.0 in
    let right : whole ≡ r ++ c.0 = e ∙ c.1 in
    ap (λ us. seen_in_pairs (map (instance_pair σ) ps) (seen_in (instance σ p.right) us)) (one_in_order p.left vs whole (b.0 ++ c.0) left)
    ∙ ap (seen_in_pairs (map (instance_pair σ) ps)) (one_in_order p.right l whole c.0 right)
    ∙ pairs_in_order ps r whole e

pub renumbered_in_order : (g : Goal) → IsInOrder (renumbered g)
renumbered_in_order g =
    let W = variables_of g in
    let P : List Variable → Type 0 = AreNumberedFrom 0 in
    subst P (sym (pairs_in_order (sides g ∷ g.conds) [] W refl)) (numbered_are 0 (sorts_in W))
