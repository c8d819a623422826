-- What is derivable behaves alike.
use Rattle.std.specs.Prelude.{◌≡◌, ℕ, List, [], ◌∷◌, Bool, true, false, ◌==◌, ◌&&◌, if◌then◌else◌, refl}
use Rattle.std.proofs.Common.{sym, ◌∙◌, subst}
use Rattle.std.proofs.lemmas.Bool.{eqb-true, and_parts}
use Rattle.circ_term.specs.Tree.{Tree, sort_of}
use Rattle.circ_term.specs.Substitution.{Substitution}
use Rattle.circ_theory.specs.Signature.{Signature, IsSort, IsWellSorted, IsSubstitution}
use Rattle.circ_pairs.specs.Pair.{Pair}
use Rattle.circ_theory.specs.Theory.{Theory}
use Rattle.circ_theory.specs.WellFormed.{IsWellFormed}
use Rattle.circ_theory.specs.Derivable.{Derivable, by_same}
use Rattle.circ_theory.specs.Experiment.{Entry, plug, derived, Fits, on, BehavesFrom}
use Rattle.circ_theory.proofs.Instances.{sort_of-instance_by, instance_well_sorted, instance_derivable}

pub plug_substitution : (sig : Signature) (h : ℕ) (t : Tree) (p : Substitution) → sort_of t ≡ h → IsWellSorted sig t → IsSubstitution sig p
    → IsSubstitution sig (plug h t p)
plug_substitution sig h t p e w q n s l = go ((n == 0) && (s == h)) refl
  where
    go : (v : Bool) → ((n == 0) && (s == h)) ≡ v → (sort_of (if v then t else p n s) ≡ s) × IsWellSorted sig (if v then t else p n s)
    go true z = (e ∙ sym (eqb-true s h (and_parts (n == 0) (s == h) z).1), w)
    go false z = q n s l

pub plug_derivable : (th : Theory) (H : List Pair) (h : ℕ) (s t : Tree) (p : Substitution) → Derivable th H s t → IsSubstitution th.signature p
    → (n k : ℕ) → IsSort th.signature k → Derivable th H (plug h s p n k) (plug h t p n k)
plug_derivable th H h s t p d q n k l = go ((n == 0) && (k == h))
  where
    go : (v : Bool) → Derivable th H (if v then s else p n k) (if v then t else p n k)
    go true = d
    go false = by_same (p n k) (q n k l).1

-- what is derivable stays so under each experiment
pub derivable_on : (th : Theory) → IsWellFormed th → (H : List Pair) (cs : List Entry) (s t : Tree)
    → IsWellSorted th.signature s → IsWellSorted th.signature t → sort_of t ≡ sort_of s → Derivable th H s t
    → Fits th cs (sort_of s) → Derivable th H (on cs s) (on cs t)
derivable_on th ok H [] s t ws wt e d f = d
derivable_on th ok H (c ∷ cs) s t ws wt e d f =
    let sig : Signature = th.signature in
    let h : ℕ = c.derivative.hole in
    let p : Substitution = c.parameters in
    let hs : sort_of s ≡ h = sym f.1 in
    let body : IsWellSorted sig c.derivative.body = (ok.derivatives c.derivative f.0).body in
    let σ : IsSubstitution sig (plug h s p) = plug_substitution sig h s p hs ws f.2 in
    let τ : IsSubstitution sig (plug h t p) = plug_substitution sig h t p (e ∙ hs) wt f.2 in
    let ks = sort_of-instance_by sig (plug h s p) c.derivative.body σ body in
    let kt = sort_of-instance_by sig (plug h t p) c.derivative.body τ body in
    derivable_on th ok H cs (derived c.derivative s p) (derived c.derivative t p)
    (instance_well_sorted sig (plug h s p) c.derivative.body σ body)
    (instance_well_sorted sig (plug h t p) c.derivative.body τ body)
    (kt ∙ sym ks)
    (instance_derivable th H (plug h s p) (plug h t p) σ τ (plug_derivable th H h s t p d f.2) c.derivative.body body)
    (let P : ℕ → Type 0 = Fits th cs in subst P (sym ks) f.3)

-- terms of one sort that are derivable from one another behave alike, whatever the sort
pub derivable_behaves : (th : Theory) → IsWellFormed th → (H : List Pair) (s t : Tree)
    → IsWellSorted th.signature s → IsWellSorted th.signature t → sort_of t ≡ sort_of s → Derivable th H s t → BehavesFrom th H s t
derivable_behaves th ok H s t ws wt e d = λ cs f. derivable_on th ok H cs s t ws wt e d f
