-- A pass over a term in which something is taken at its special paths.
use Rattle.std.specs.Prelude.{ℕ, ◌+◌, if◌then◌else◌, List, [], ◌∷◌, ◌++◌}
use Rattle.circ_term.specs.Tree.{Tree, Trees, Var, App, none, more}
use Rattle.circ_special.specs.declared.place.Place.{Place}
use Rattle.circ_conditional_norm.specs.Work.{Work, Made}
use Rattle.circ_plain_search.specs.Joining.{is_place}
use Rattle.circ_conditional_search.specs.Joining.{Swept, swept_with, swept_or_inside, work_then}
use Rattle.circ_attempt.specs.Rules.{Taker}

module _ (first : Taker) (G : List Place) where
  -- As a lemma pass: at the special paths, a term before its arguments, arguments from the left, and never into a new term.
  abbrev mutual
    pub swept_taking : (q : List ℕ) → Tree → Swept → (budget : ℕ) → Work Swept
    swept_taking q (Var n s) w k = swept_or_inside w (first q (Var n s) k) (Made w)
    swept_taking q (App f s ts) w k = swept_or_inside w (first q (App f s ts) k) (all_swept_taking f q 0 ts w)

    -- the same for the arguments of f from the left, where the first is argument i
    pub all_swept_taking : (f : ℕ) → (q : List ℕ) → (i : ℕ) → Trees → Swept → (budget : ℕ) → Work Swept
    all_swept_taking f q i none w k = Made w k
    all_swept_taking f q i (more t ts) w k =
        work_then (if is_place G f i then swept_taking (q ++ i ∷ []) t w k else Made w k) (λ v l. all_swept_taking f q (i + 1) ts v l)

  -- over s, then over t
  abbrev pub both_swept : (s t : Tree) → (budget : ℕ) → Work (Swept × Swept)
  both_swept s t k =
      work_then (swept_taking [] s (swept_with s []) k)
      (λ a m. work_then (swept_taking [] t (swept_with t []) m) (λ b n. Made (a, b) n))
