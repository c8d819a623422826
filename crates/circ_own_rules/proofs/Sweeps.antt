-- A pass over a term in steps, whatever is taken in it.
use Rattle.std.proofs.Common.{◌≡◌, ◌≤◌, ◌<◌, ℕ, ◌+◌, Bool, true, false, if◌then◌else◌, List, [], ◌∷◌, ◌++◌, drop, get_or, length, Option, Some, None, refl, ap, sym, ◌∙◌}
use Rattle.std.proofs.lemmas.List.{drop_all}
use Rattle.circ_term.specs.Tree.{Tree, Trees, Var, App, none, more, trees_of}
use Rattle.circ_term.proofs.Within.{drop_read}
use Rattle.circ_special.specs.declared.place.Place.{Place}
use Rattle.circ_rewrite.specs.declared.fault.RewriteFault.{RewriteFault}
use Rattle.circ_rewrite.specs.declared.fault.RewriteFault.TheVariants.{Spent, TooBig, TooDeep, Memory}
use Rattle.circ_conditional_norm.specs.Work.{Work, Made}
use Rattle.circ_tries.specs.Trying.{Hinders}
use Rattle.circ_tries.proofs.Faulting.{hinders_same}
use Rattle.circ_plain_search.specs.Joining.{HypothesisUse, is_place}
use Rattle.circ_plain_search.specs.Search.{is_nil}
use Rattle.circ_conditional_search.specs.Joining.{Swept, swept_with, work_then, put_swept, swept_or_inside}
use Rattle.circ_conditional_norm.specs.Tries.{Normaliser}
use Rattle.circ_join.specs.Sweeping.{swept_place}
use Rattle.circ_attempt.specs.Passes.{swept_taking, all_swept_taking, both_swept}
use Rattle.circ_attempt.specs.Rules.{Taker, HypothesisRule, first_rule_use}

-- what hinders a part of the work hinders what goes on from it
pub hinders_work : {A B : Type 0} (f : A → ℕ → Work B) (e : RewriteFault) (l : ℕ) (w : Work A) → Hinders e l w → Hinders e l (work_then w f)
hinders_work f Spent l w h = (ap (λ x. work_then x f) h.0, h.1)
hinders_work f (TooBig n) l w h = ap (λ x. work_then x f) h
hinders_work f (TooDeep n) l w h = ap (λ x. work_then x f) h
hinders_work f Memory l w h = tt

hinders_inside : (s : Swept) (inside : ℕ → Work Swept) (e : RewriteFault) (l : ℕ) (w : Work (Option HypothesisUse)) → Hinders e l w → Hinders e l (swept_or_inside s w inside)
hinders_inside s inside Spent l w h = (ap (λ x. swept_or_inside s x inside) h.0, h.1)
hinders_inside s inside (TooBig n) l w h = ap (λ x. swept_or_inside s x inside) h
hinders_inside s inside (TooDeep n) l w h = ap (λ x. swept_or_inside s x inside) h
hinders_inside s inside Memory l w h = tt

module _ (first : Taker) (G : List Place) where
  -- ---- a term

  -- what comes of a term where nothing is taken on it
  abbrev pub inside : List ℕ → Tree → Swept → ℕ → Work Swept
  inside q (Var n s) w k = Made w k
  inside q (App g s ts) w k = all_swept_taking first G g q 0 ts w k

  swept_is : (q : List ℕ) (t : Tree) (w : Swept) (k : ℕ) → swept_taking first G q t w k ≡ swept_or_inside w (first q t k) (inside q t w)
  swept_is q (Var n s) w k = refl
  swept_is q (App g s ts) w k = refl

  module _ (q : List ℕ) (t : Tree) (w : Swept) (k l : ℕ) where
    pub swept_used : (u : HypothesisUse) → first q t k ≡ Made (Some u) l → swept_taking first G q t w k ≡ put_swept w u l
    swept_used u e = swept_is q t w k ∙ ap (λ x. swept_or_inside w x (inside q t w)) e

    swept_inside : first q t k ≡ Made None l → swept_taking first G q t w k ≡ inside q t w l
    swept_inside e = swept_is q t w k ∙ ap (λ x. swept_or_inside w x (inside q t w)) e

    pub swept_hindered : (e : RewriteFault) → Hinders e l (first q t k) → Hinders e l (swept_taking first G q t w k)
    swept_hindered e h =
        hinders_same e l (swept_taking first G q t w k) (swept_or_inside w (first q t k) (inside q t w)) (swept_is q t w k)
        (hinders_inside w (inside q t w) e l (first q t k) h)

    pub swept_variable : (n s : ℕ) → Var n s ≡ t → first q t k ≡ Made None l → swept_taking first G q t w k ≡ Made w l
    swept_variable n s is e = swept_inside e ∙ ap (λ x. inside q x w l) (sym is)

    pub swept_all : (g s : ℕ) (ts : Trees) → App g s ts ≡ t → first q t k ≡ Made None l → swept_taking first G q t w k ≡ all_swept_taking first G g q 0 ts w l
    swept_all g s ts is e = swept_inside e ∙ ap (λ x. inside q x w l) (sym is)

  -- ---- arguments

  abbrev pub row_at : ℕ → List ℕ → List Tree → ℕ → Swept → ℕ → Work Swept
  row_at g q ts i w k = all_swept_taking first G g q i (trees_of (drop i ts)) w k

  abbrev pub one_at : ℕ → List ℕ → ℕ → Tree → Swept → ℕ → Work Swept
  one_at g q i t w k = swept_place (is_place G g i) (swept_taking first G (q ++ i ∷ []) t) w k

  module _ (g : ℕ) (q : List ℕ) (ts : List Tree) (i k l : ℕ) (t : Tree) (w : Swept) (h : i < length ts) (a : t ≡ get_or ts i t) where
    row_read : row_at g q ts i w k ≡ work_then (one_at g q i t w k) (λ v m. row_at g q ts (i + 1) v m)
    row_read = rw (drop_read ts i t h a) refl

    pub row_on : (v : Swept) → one_at g q i t w k ≡ Made v l → row_at g q ts i w k ≡ row_at g q ts (i + 1) v l
    row_on v e = row_read ∙ ap (λ x. work_then x (λ u m. row_at g q ts (i + 1) u m)) e

    pub row_hindered : (e : RewriteFault) → Hinders e l (one_at g q i t w k) → Hinders e l (row_at g q ts i w k)
    row_hindered e x =
        hinders_same e l (row_at g q ts i w k) (work_then (one_at g q i t w k) (λ v m. row_at g q ts (i + 1) v m)) row_read
        (hinders_work (λ v m. row_at g q ts (i + 1) v m) e l (one_at g q i t w k) x)

  pub row_end : (g : ℕ) (q : List ℕ) (ts : List Tree) (i k : ℕ) (w : Swept) → length ts ≤ i → row_at g q ts i w k ≡ Made w k
  row_end g q ts i k w h = rw (drop_all i ts h) refl

  -- ---- both sides

  module _ (s t : Tree) (k : ℕ) where
    abbrev right : Swept → ℕ → Work (Swept × Swept)
    right a m = work_then (swept_taking first G [] t (swept_with t []) m) (λ b n. Made (a, b) n)

    pub left_hinders : (e : RewriteFault) (l : ℕ) → Hinders e l (swept_taking first G [] s (swept_with s []) k) → Hinders e l (both_swept first G s t k)
    left_hinders e l h = hinders_work right e l (swept_taking first G [] s (swept_with s []) k) h

    module _ (a : Swept) (m : ℕ) (left : swept_taking first G [] s (swept_with s []) k ≡ Made a m) where
      left_made : both_swept first G s t k ≡ right a m
      left_made = ap (λ x. work_then x right) left

      pub right_hinders : (e : RewriteFault) (l : ℕ) → Hinders e l (swept_taking first G [] t (swept_with t []) m) → Hinders e l (both_swept first G s t k)
      right_hinders e l h =
          hinders_same e l (both_swept first G s t k) (right a m) left_made
          (hinders_work (λ b n. Made (a, b) n) e l (swept_taking first G [] t (swept_with t []) m) h)

      pub both_made : (b : Swept) (n : ℕ) → swept_taking first G [] t (swept_with t []) m ≡ Made b n → both_swept first G s t k ≡ Made (a, b) n
      both_made b n e = left_made ∙ ap (λ x. work_then x (λ c j. Made (a, c) j)) e

-- ---- without rules nothing is taken

module _ (f : Normaliser) (G : List Place) where
  mutual
    swept_nothing : (q : List ℕ) (t : Tree) (w : Swept) (k : ℕ) → swept_taking (first_rule_use f []) G q t w k ≡ Made w k
    swept_nothing q (Var n s) w k = refl
    swept_nothing q (App g s ts) w k = all_swept_nothing g q 0 ts w k

    all_swept_nothing : (g : ℕ) (q : List ℕ) (i : ℕ) (ts : Trees) (w : Swept) (k : ℕ) → all_swept_taking (first_rule_use f []) G g q i ts w k ≡ Made w k
    all_swept_nothing g q i none w k = refl
    all_swept_nothing g q i (more t ts) w k =
        ap (λ x. work_then (if is_place G g i then x else Made w k) (λ v l. all_swept_taking (first_rule_use f []) G g q (i + 1) ts v l)) (swept_nothing (q ++ i ∷ []) t w k)
        ∙ go (is_place G g i) ∙ all_swept_nothing g q (i + 1) ts w k
      where
        go : (b : Bool) → work_then (if b then Made w k else Made w k) (λ v l. all_swept_taking (first_rule_use f []) G g q (i + 1) ts v l)
            ≡ all_swept_taking (first_rule_use f []) G g q (i + 1) ts w k
        go true = refl
        go false = refl

  pub swept_empty : (L : List HypothesisRule) (q : List ℕ) (t : Tree) (w : Swept) (k : ℕ) → is_nil L ≡ true → swept_taking (first_rule_use f L) G q t w k ≡ Made w k
  swept_empty [] q t w k e = swept_nothing q t w k
  swept_empty (r ∷ L) q t w k e = absurd (cc)

pub not_nil : (L own : List HypothesisRule) → is_nil L ≡ false → false ≡ is_nil (L ++ own)
not_nil [] own e = absurd (cc)
not_nil (r ∷ L) own e = refl

pub nil_own : (L own : List HypothesisRule) → is_nil L ≡ true → is_nil own ≡ is_nil (L ++ own)
nil_own [] own e = refl
nil_own (r ∷ L) own e = absurd (cc)
