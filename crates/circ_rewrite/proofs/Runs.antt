-- A run that ends with a normal form makes what is due first, again and again.
use Rattle.std.proofs.Common.{◌≡◌, ℕ, ◌+◌, zero, suc, List, [], ◌∷◌, ◌++◌, Option, Some, None, refl, ap, sym, subst, ◌∙◌, arith, append_assoc, append-nil}
use Rattle.std.specs.List.{slice_get}
use Rattle.std.specs.Option.{option_map, option_or}
use Rattle.std.proofs.lemmas.Option.{same_Some}
use Rattle.circ_term.specs.Tree.{Tree, Trees, Var, App, none, more, list_of, at, walk, replaced}
use Rattle.circ_term.specs.Limits.{Limit, first_limit}
use Rattle.circ_term.proofs.Paths.{replaced_there}
use Rattle.circ_rewrite.specs.Replacement.{Replacement, Placed, Traced, placed, below, traced}
use Rattle.circ_rewrite.specs.Norm.{Normal_form, first_due, first_dues, run}
use Rattle.circ_rewrite.specs.Reductions.{IsReduction}

module _ (due : Tree → Option Replacement) where
  -- the replacement is due at the root of the subterm at its path
  abbrev IsDueAt : Tree → Placed → Type 0
  IsDueAt t q = (a : Tree) × (at t q.path ≡ Some a) × (due a ≡ Some q.replacement)

  -- the same in argument i of these, the first of which has the number j
  abbrev IsDueIn : (j : ℕ) → Trees → Placed → Type 0
  IsDueIn j ts q = (i : ℕ) × (x : Tree) × (r : Placed) × (slice_get (list_of ts) i ≡ Some x) × (q ≡ below (j + i) r) × IsDueAt x r

  at_root : (t : Tree) (q : Placed) → option_map (placed []) (due t) ≡ Some q → IsDueAt t q
  at_root t q e = go (due t) refl e
    where
      go : (o : Option Replacement) → due t ≡ o → option_map (placed []) o ≡ Some q → IsDueAt t q
      go None f x = absurd (cc)
      go (Some r) f x = subst (λ p. IsDueAt t p) (same_Some (placed [] r) q x) (t, refl, f)

  mutual
    due_there : (t : Tree) (q : Placed) → first_due due t ≡ Some q → IsDueAt t q
    due_there (Var n s) q e = at_root (Var n s) q e
    due_there (App f s ts) q e = go (first_dues due 0 ts) refl (due_in 0 ts) e
      where
        go : (o : Option Placed) → first_dues due 0 ts ≡ o → ((r : Placed) → first_dues due 0 ts ≡ Some r → IsDueIn 0 ts r)
            → option_or o (option_map (placed []) (due (App f s ts))) ≡ Some q → IsDueAt (App f s ts) q
        go None d ih x = at_root (App f s ts) q x
        go (Some r) d ih x =
            let h = ih r d in
            let z : 0 + h.0 ≡ h.0 = omega arith in
            let is : below h.0 h.2 ≡ q = ap (λ j. below j h.2) (sym z) ∙ sym h.4 ∙ same_Some r q x in
            subst (λ p. IsDueAt (App f s ts) p) is (h.5.0, ap (λ o. walk o h.2.path) h.3 ∙ h.5.1, h.5.2)

    due_in : (j : ℕ) (ts : Trees) (q : Placed) → first_dues due j ts ≡ Some q → IsDueIn j ts q
    due_in j none q e = absurd (cc)
    due_in j (more t ts) q e = go (first_due due t) refl (due_there t) (due_in (j + 1) ts) e
      where
        go : (o : Option Placed) → first_due due t ≡ o → ((r : Placed) → first_due due t ≡ Some r → IsDueAt t r)
            → ((r : Placed) → first_dues due (j + 1) ts ≡ Some r → IsDueIn (j + 1) ts r)
            → option_or (option_map (below j) o) (first_dues due (j + 1) ts) ≡ Some q → IsDueIn j (more t ts) q
        go (Some r) d here later x =
            let z : j ≡ j + 0 = omega arith in
            (0, t, r, refl, sym (same_Some (below j r) q x) ∙ ap (λ i. below i r) z, here r d)
        go None d here later x =
            let h = later q x in
            let z : j + 1 + h.0 ≡ j + suc h.0 = omega arith in
            (suc h.0, h.1, h.2, h.3, h.4 ∙ ap (λ i. below i h.2) z, h.5)

  -- what a run that began with the traces ts ends with
  record IsRun (budget : ℕ) (t u : Tree) (ts us : List Traced) (left : ℕ) : Type 0 where
    traces : List Traced
    are : us ≡ ts ++ traces
    reduction : IsReduction due budget t u traces left

  same_parts : (t u : Tree) (ts us : List Traced) (k left : ℕ) → Normal_form t ts k ≡ Normal_form u us left → (t ≡ u) × (ts ≡ us) × (k ≡ left)
  same_parts t u ts us k left e = (cc, cc, cc)

  ended : (k : ℕ) (t u : Tree) (ts us : List Traced) (left : ℕ) → first_due due t ≡ None → Normal_form t ts k ≡ Normal_form u us left → IsRun k t u ts us left
  ended k t u ts us left d e =
      let p = same_parts t u ts us k left e in
      record {
        traces = [];
        are = sym p.1 ∙ sym (append-nil ts);
        reduction = record { leads = p.0; settled = ap (first_due due) (sym p.0) ∙ d; count = omega (arith, p.2) };
      }

  run_reduces : (k : ℕ) (t u : Tree) (ts us : List Traced) (left : ℕ) → run due k t ts ≡ Normal_form u us left → IsRun k t u ts us left
  run_reduces zero t u ts us left e = go (first_due due t) refl
    where
      go : (o : Option Placed) → first_due due t ≡ o → IsRun 0 t u ts us left
      go None d = ended 0 t u ts us left d (rw d at e)
      go (Some q) d = absurd (let z = rw d at e in cc)
  run_reduces (suc k) t u ts us left e = go (first_due due t) refl (λ w tr. run_reduces k w u (ts ++ tr ∷ []) us left)
    where
      go : (o : Option Placed) → first_due due t ≡ o
          → ((w : Tree) (tr : Traced) → run due k w (ts ++ tr ∷ []) ≡ Normal_form u us left → IsRun k w u (ts ++ tr ∷ []) us left)
          → IsRun (suc k) t u ts us left
      go None d ih = ended (suc k) t u ts us left d (rw d at e)
      go (Some q) d ih = at_limit (first_limit new.0) refl
        where
          there : IsDueAt t q
          there = due_there t q d

          new : (v : Tree) × (replaced t q.path q.replacement.new ≡ Some v)
          new = replaced_there q.path t there.0 q.replacement.new there.1

          at_limit : (l : Option Limit) → first_limit new.0 ≡ l → IsRun (suc k) t u ts us left
          at_limit (Some l) g = absurd (let z = rw (d, new.1, g) at e in cc)
          at_limit None g =
              let rest = ih new.0 (traced q) (rw (d, new.1, g) at e) in
              record {
                traces = traced q ∷ rest.traces;
                are = rest.are ∙ append_assoc ts (traced q ∷ []) rest.traces;
                reduction = record {
                  leads =
                      (q.replacement, new.0, refl, record { old = there.0; there = there.1; is_due = there.2; made = new.1; within = g }, rest.reduction.leads);
                  settled = rest.reduction.settled;
                  count = omega (arith, rest.reduction.count);
                };
              }

  pub normal_form_reduces : (k : ℕ) (t u : Tree) (traces : List Traced) (left : ℕ) → run due k t [] ≡ Normal_form u traces left → IsReduction due k t u traces left
  normal_form_reduces k t u traces left e =
      let r = run_reduces k t u [] traces left e in
      subst (λ vs. IsReduction due k t u vs left) (sym r.are) r.reduction
