-- Laws of agreement at a level, and terms that are replaced along a special path.
use Rattle.std.proofs.Common.{◌≡◌, ℕ, suc, List, [], ◌∷◌, Option, Some, None, refl, ap, sym, subst, ◌∙◌, arith}
use Rattle.std.specs.List.{Contains}
use Rattle.std.specs.Option.{option_map}
use Rattle.std.proofs.lemmas.Option.{same_Some}
use Rattle.circ_term.specs.Tree.{Tree, Var, App, sort_of, at, put_at, replaced}
use Rattle.circ_term.specs.Substitution.{Substitution, instance}
use Rattle.circ_term.proofs.Paths.{list_of-instances}
use Rattle.circ_theory.specs.Signature.{IsWellSorted, IsSubstitution}
use Rattle.circ_theory.specs.Theory.{Theory, Pair, Derivative}
use Rattle.circ_theory.specs.WellFormed.{IsWellFormed}
use Rattle.circ_theory.specs.Derivable.{Derivable, Gives, by_same, by_symmetry, by_chain}
use Rattle.circ_theory.specs.Experiment.{Entry, Fits, on, derived}
use Rattle.circ_theory.proofs.Behaviour.{derivable_on}
use Rattle.circ_theory.proofs.Sorting.{arg_well_sorted, put_well_sorted}
use Rattle.circ_theory.proofs.Weakening.{weaken, cut}
use Rattle.circ_special.specs.declared.place.Place.{Place}
use Rattle.circ_special.specs.Special.{IsSpecial}
use Rattle.circ_soundness.specs.Levels.{Agree, PlacesAgree, Stays}
use Rattle.circ_proof.proofs.Members.{nothing}

-- what is derivable agrees at each level
pub derivable_agrees : (th : Theory) → IsWellFormed th → (A : List Pair) (n : ℕ) (s t : Tree)
    → IsWellSorted th.signature s → IsWellSorted th.signature t → sort_of t ≡ sort_of s → Derivable th A s t → Agree th A n s t
derivable_agrees th ok A n s t ws wt e d = λ cs l f. derivable_on th ok A cs s t ws wt e d f

pub agree_same : (th : Theory) → IsWellFormed th → (A : List Pair) (n : ℕ) (t : Tree) → IsWellSorted th.signature t → Agree th A n t t
agree_same th ok A n t w = derivable_agrees th ok A n t t w w refl (by_same t w)

-- an experiment that fits a sort fits the same sort
pub fits_same : (th : Theory) (cs : List Entry) (r s : ℕ) → r ≡ s → Fits th cs r → Fits th cs s
fits_same th cs r s e f = let P : ℕ → Type 0 = Fits th cs in subst P e f

pub agree_symmetry : (th : Theory) (A : List Pair) (n : ℕ) (s t : Tree) → sort_of t ≡ sort_of s → Agree th A n s t → Agree th A n t s
agree_symmetry th A n s t e a = λ cs l f. by_symmetry (a cs l (fits_same th cs (sort_of t) (sort_of s) e f))

pub agree_chain : (th : Theory) (A : List Pair) (n : ℕ) (s m t : Tree) → sort_of m ≡ sort_of s → Agree th A n s m → Agree th A n m t → Agree th A n s t
agree_chain th A n s m t e a b = λ cs l f. by_chain (on cs m) (a cs l f) (b cs l (fits_same th cs (sort_of s) (sort_of m) (sym e) f))

-- assumptions that follow from others may be cut
pub agree_cut : (th : Theory) (H K : List Pair) → Gives th H K → (n : ℕ) (s t : Tree) → Agree th H n s t → Agree th K n s t
agree_cut th H K w n s t a = λ cs l f. cut th (a cs l f) K w

-- what agrees under no assumptions does under any
pub agree_weaken : (th : Theory) (A : List Pair) (n : ℕ) (s t : Tree) → Agree th [] n s t → Agree th A n s t
agree_weaken th A n s t a = λ cs l f. weaken th (a cs l f) A (λ p c. nothing p c)

pub agree_less : (th : Theory) (A : List Pair) (m : ℕ) (s t : Tree) → Agree th A (suc m) s t → Agree th A m s t
agree_less th A m s t a = λ cs l f. a cs (omega (arith, l)) f

-- a derivative on both sides takes one entry
pub next_agrees : (th : Theory) (A : List Pair) (m : ℕ) (d : Derivative) (p : Substitution) (a b : Tree) → Contains th.derivatives d → d.hole ≡ sort_of a
    → IsSubstitution th.signature p → sort_of (derived d a p) ≡ sort_of d.body → Agree th A (suc m) a b → Agree th A m (derived d a p) (derived d b p)
next_agrees th A m d p a b l h w e ag = λ cs n f.
    ag (record { derivative = d; parameters = p } ∷ cs) (omega (arith, n)) (l, h, w, fits_same th cs (sort_of (derived d a p)) (sort_of d.body) e f)

-- a term is replaced at a special path by one that agrees with it
pub special_stays : (th : Theory) (A : List Pair) (G : List Place) (n : ℕ) → PlacesAgree th G n → (q : List ℕ) (t a b u : Tree) → IsSpecial G t q
    → IsWellSorted th.signature t → at t q ≡ Some a → Stays th A n a b → replaced t q b ≡ Some u → Stays th A n t u
special_stays th A G n pl [] t a b u sp wt g k r =
    let P : Tree → Type 0 = λ x. Stays th A n x b in
    let Q : Tree → Type 0 = λ x. Stays th A n t x in
    subst Q (same_Some b u r) (subst P (sym (same_Some t a g)) k)
special_stays th A G n pl (i ∷ q) (Var m s) a b u sp wt g k r = absurd sp
special_stays th A G n pl (i ∷ q) (App f s ts) a b u sp wt g k r =
    go (λ y m. special_stays th A G n pl q sp.1 a b y sp.3 (arg_well_sorted th ts wt.0.args i sp.1 wt.3 sp.2) (rw sp.2 at g) k m) (replaced sp.1 q b) refl
  where
    go : ((y : Tree) → replaced sp.1 q b ≡ Some y → Stays th A n sp.1 y) → (o : Option Tree) → replaced sp.1 q b ≡ o → Stays th A n (App f s ts) u
    go ih None m = absurd (let z = rw (sp.2, m) at r in cc)
    go ih (Some y) m =
        let x : Stays th A n sp.1 y = ih y m in
        let P : Tree → Type 0 = λ v. Stays th A n (App f s ts) v in
        subst P (same_Some (App f s (put_at ts i y)) u (rw (sp.2, m) at r)) (record {
          well_sorted = (wt.0, wt.1, wt.2, put_well_sorted th ts wt.0.args i sp.1 y wt.3 sp.2 x.same_sort x.well_sorted);
          same_sort = refl;
          agree = pl A f s i ts sp.1 y sp.0 wt sp.2 x.well_sorted x.same_sort x.agree;
        })

-- a special path of a term is one of its instances
pub special_instance : (G : List Place) (σ : Substitution) (q : List ℕ) (t : Tree) → IsSpecial G t q → IsSpecial G (instance σ t) q
special_instance G σ [] t sp = tt
special_instance G σ (i ∷ q) (Var n s) sp = absurd sp
special_instance G σ (i ∷ q) (App f s ts) sp =
    (sp.0, instance σ sp.1, list_of-instances σ ts i ∙ ap (option_map (instance σ)) sp.2, special_instance G σ q sp.1 sp.3)
