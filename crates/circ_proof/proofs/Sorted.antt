-- Lists of well-sorted goals, and the derivatives of a goal.
use Rattle.std.specs.Prelude.{◌≡◌, ◌⊎◌, ℕ, List, [], ◌∷◌, ◌++◌, map, Bool, true, false, ◌==◌, refl}
use Rattle.std.specs.List.{Contains, filter}
use Rattle.std.proofs.Common.{sym, ◌∙◌, subst, arith, inl, inr}
use Rattle.std.proofs.lemmas.Bool.{eqb-true}
use Rattle.std.proofs.lemmas.List.Elements.{Contains-append_cases}
use Rattle.circ_term.specs.Tree.{sort_of}
use Rattle.circ_theory.specs.Signature.{Signature, IsSubstitution}
use Rattle.circ_theory.specs.Theory.{Theory, Derivative, IsWellSortedGoal}
use Rattle.circ_theory.specs.WellFormed.{IsWellFormed}
use Rattle.circ_theory.specs.Experiment.{plug}
use Rattle.circ_theory.specs.Goal.{Goal}
use Rattle.circ_theory.proofs.Weakening.{first_or_rest, in_rest}
use Rattle.circ_theory.proofs.Casing.{contains_first}
use Rattle.circ_theory.proofs.Behaviour.{plug_substitution}
use Rattle.circ_theory.proofs.Instances.{instance_well_sorted, sort_of-instance_by}
use Rattle.circ_proof.specs.Goals.{AreSortedGoals}
use Rattle.circ_theory.specs.Fresh.{fresh_in, numbered_from}
use Rattle.circ_proof.specs.Rules.{derived_goal, derivatives_on}

pub sorted_none : (th : Theory) → AreSortedGoals th []
sorted_none th g c = absurd (omega (arith, c.1))

pub sorted_more : (th : Theory) (g : Goal) (gs : List Goal) → IsWellSortedGoal th g → AreSortedGoals th gs → AreSortedGoals th (g ∷ gs)
sorted_more th g gs w a h c = go (first_or_rest g h gs c)
  where
    go : (g ≡ h) ⊎ Contains gs h → IsWellSortedGoal th h
    go (inl e) = subst (IsWellSortedGoal th) e w
    go (inr d) = a h d

pub sorted_first : (th : Theory) (g : Goal) (gs : List Goal) → AreSortedGoals th (g ∷ gs) → IsWellSortedGoal th g
sorted_first th g gs a = a g (contains_first g gs)

pub sorted_rest : (th : Theory) (g : Goal) (gs : List Goal) → AreSortedGoals th (g ∷ gs) → AreSortedGoals th gs
sorted_rest th g gs a h c = a h (in_rest g h gs c)

pub sorted_append : (th : Theory) (gs hs : List Goal) → AreSortedGoals th gs → AreSortedGoals th hs → AreSortedGoals th (gs ++ hs)
sorted_append th gs hs a b h c = go (Contains-append_cases gs hs h c)
  where
    go : Contains gs h ⊎ Contains hs h → IsWellSortedGoal th h
    go (inl d) = a h d
    go (inr d) = b h d

-- ---- derivatives of a goal

pub derived_sorted : (th : Theory) → IsWellFormed th → (d : Derivative) → Contains th.derivatives d → (g : Goal) (k : ℕ) → d.hole ≡ sort_of g.left
    → IsWellSortedGoal th g → IsWellSortedGoal th (derived_goal d g k)
derived_sorted th ok d l g k e w =
    let sig : Signature = th.signature in
    let body = (ok.derivatives d l).body in
    let p : IsSubstitution sig (numbered_from k) = λ n s h. (refl, h) in
    let x = plug_substitution sig d.hole g.left (numbered_from k) (sym e) w.sorted.left p in
    let y = plug_substitution sig d.hole g.right (numbered_from k) (w.sorted.same_sort ∙ sym e) w.sorted.right p in
    record {
      sorted = record {
        left = instance_well_sorted sig (plug d.hole g.left (numbered_from k)) d.body x body;
        right = instance_well_sorted sig (plug d.hole g.right (numbered_from k)) d.body y body;
        same_sort = sort_of-instance_by sig (plug d.hole g.right (numbered_from k)) d.body y body
            ∙ sym (sort_of-instance_by sig (plug d.hole g.left (numbered_from k)) d.body x body);
      };
      conds = w.conds;
    }

-- what holds of the goal under each derivative of its sort
all_derived : (th : Theory) (s : ℕ) (g : Goal) (k : ℕ) (ds : List Derivative)
    → ((d : Derivative) → Contains ds d → d.hole ≡ s → IsWellSortedGoal th (derived_goal d g k))
    → AreSortedGoals th (map (λ d. derived_goal d g k) (filter (λ d. d.hole == s) ds))
all_derived th s g k [] w = sorted_none th
all_derived th s g k (d ∷ ds) w = go (d.hole == s) refl (all_derived th s g k ds (λ e c h. w e (in_rest d e ds c) h))
  where
    go : (b : Bool) → (d.hole == s) ≡ b → AreSortedGoals th (map (λ d. derived_goal d g k) (filter (λ d. d.hole == s) ds))
        → AreSortedGoals th (map (λ d. derived_goal d g k) (filter (λ d. d.hole == s) (d ∷ ds)))
    go true e rest =
        rw e (sorted_more th (derived_goal d g k) (map (λ d. derived_goal d g k) (filter (λ d. d.hole == s) ds))
        (w d (contains_first d ds) (eqb-true d.hole s e)) rest)
    go false e rest = rw e rest

pub derivatives_sorted : (th : Theory) → IsWellFormed th → (g : Goal) → IsWellSortedGoal th g → AreSortedGoals th (derivatives_on th g)
derivatives_sorted th ok g w =
    all_derived th (sort_of g.left) g (fresh_in g) th.derivatives (λ d c e. derived_sorted th ok d c g (fresh_in g) e w)
