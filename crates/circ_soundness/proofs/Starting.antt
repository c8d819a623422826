-- Start terms of certificates, and their instances.
use Rattle.std.proofs.Common.{◌≡◌, ◌<◌, ◌≤◌, ◌+◌, ℕ, zero, suc, false, List, [], ◌∷◌, length, Some}
use Rattle.std.proofs.Common.{refl, ap, sym, ◌∙◌, arith}
use Rattle.std.specs.List.{slice_get, Contains}
use Rattle.std.proofs.lemmas.Bool.{ne_eqb}
use Rattle.std.proofs.lemmas.Option.{same_Some, slice_get_within}
use Rattle.circ_term.specs.Tree.{Tree, Trees, Var, App, none, more, sort_of, list_of, trees_of, at, put_at, replaced}
use Rattle.circ_term.specs.Substitution.{Substitution, instance}
use Rattle.circ_term.proofs.Paths.{at_instance}
use Rattle.circ_theory.specs.Signature.{Signature, Operator, IsSort, HaveSorts, IsSubstitution}
use Rattle.circ_theory.specs.Theory.{Theory, Derivative}
use Rattle.circ_theory.specs.Variables.{all_occurrences}
use Rattle.circ_theory.specs.WellFormed.{IsWellFormed}
use Rattle.circ_theory.specs.Experiment.{plug, derived}
use Rattle.circ_theory.proofs.Behaviour.{plug_substitution}
use Rattle.circ_theory.proofs.Casing.{contains_first}
use Rattle.circ_theory.proofs.Weakening.{in_rest}
use Rattle.circ_special.specs.declared.place.Place.{Place}
use Rattle.circ_special.specs.Special.{place}
use Rattle.circ_special.proofs.Agreeing.{stands}
use Rattle.circ_special.proofs.Distinct.{AreDistinct}
use Rattle.circ_theory.specs.Fresh.{above, all_above, variables_from}
use Rattle.circ_proof.specs.Certified.{start_args, start_term}
use Rattle.circ_soundness.proofs.Filling.{FillsAll, IsOfSort, OfSort, MakesAll, all_distinct_make}
use Rattle.circ_soundness.proofs.Changing.{DifferAt, replaced_once}
use Rattle.circ_soundness.proofs.Parameters.{plug_hole, plug_differs, with_parameters, with_parameters_below, with_parameters_sorted, derived-with_parameters}

-- ---- the variables of a start term

-- variables of these sorts, numbered from k
abbrev variables : ℕ → List ℕ → Trees
variables k ss = trees_of (variables_from k ss)

-- each of these sorts exists
abbrev pub AreSorts : Signature → List ℕ → Type 0
AreSorts sig ss = (s : ℕ) → Contains ss s → IsSort sig s

variables_sorts : (sig : Signature) (k : ℕ) (ss : List ℕ) → AreSorts sig ss → HaveSorts sig (variables k ss) ss
variables_sorts sig k [] h = tt
variables_sorts sig k (s ∷ ss) h = (refl, h s (contains_first s ss), variables_sorts sig (k + 1) ss (λ r c. h r (in_rest s r ss c)))

pub start_sorts : (sig : Signature) (i k : ℕ) (ss : List ℕ) → AreSorts sig ss → HaveSorts sig (start_args i k ss) ss
start_sorts sig i k [] h = tt
start_sorts sig zero k (s ∷ ss) h = (refl, h s (contains_first s ss), variables_sorts sig k ss (λ r c. h r (in_rest s r ss c)))
start_sorts sig (suc i) k (s ∷ ss) h = (refl, h s (contains_first s ss), start_sorts sig i (k + 1) ss (λ r c. h r (in_rest s r ss c)))

-- any arguments of these sorts fill them
variables_fill : (sig : Signature) (k : ℕ) (ss : List ℕ) (ts : Trees) → HaveSorts sig ts ss → FillsAll (OfSort sig) (variables k ss) ts
variables_fill sig k [] none h = tt
variables_fill sig k [] (more t ts) h = absurd h
variables_fill sig k (s ∷ ss) none h = absurd h
variables_fill sig k (s ∷ ss) (more t ts) h = ((h.0, h.1), variables_fill sig (k + 1) ss ts h.2)

start_fills : (sig : Signature) (i k : ℕ) (ss : List ℕ) (ts : Trees) → HaveSorts sig ts ss → FillsAll (OfSort sig) (start_args i k ss) ts
start_fills sig i k [] none h = tt
start_fills sig i k [] (more t ts) h = absurd h
start_fills sig zero k (s ∷ ss) none h = absurd h
start_fills sig zero k (s ∷ ss) (more t ts) h = ((h.0, h.1), variables_fill sig k ss ts h.2)
start_fills sig (suc i) k (s ∷ ss) none h = absurd h
start_fills sig (suc i) k (s ∷ ss) (more t ts) h = ((h.0, h.1), start_fills sig i (k + 1) ss ts h.2)

-- no variable of a lesser number stands among them
none_lesser : (j r k : ℕ) (ss : List ℕ) → j < k → stands j r (all_occurrences (variables k ss)) ≡ false
none_lesser j r k [] l = refl
none_lesser j r k (s ∷ ss) l = rw (ne_eqb j k (λ e. absurd (omega arith)), none_lesser j r (k + 1) ss (omega arith)) refl

none_between : (j r i k : ℕ) (ss : List ℕ) → 0 < j → j < k → stands j r (all_occurrences (start_args i k ss)) ≡ false
none_between j r i k [] p l = refl
none_between j r zero k (s ∷ ss) p l = rw (ne_eqb j 0 (λ e. absurd (omega arith)), none_lesser j r k ss l) refl
none_between j r (suc i) k (s ∷ ss) p l = rw (ne_eqb j k (λ e. absurd (omega arith)), none_between j r i (k + 1) ss p (omega arith)) refl

-- so no variable stands twice
variables_distinct : (k : ℕ) (ss : List ℕ) → AreDistinct (all_occurrences (variables k ss))
variables_distinct k [] = tt
variables_distinct k (s ∷ ss) = (none_lesser k s (k + 1) ss (omega arith), variables_distinct (k + 1) ss)

start_distinct : (i k : ℕ) (ss : List ℕ) → 0 < k → AreDistinct (all_occurrences (start_args i k ss))
start_distinct i k [] p = tt
start_distinct zero k (s ∷ ss) p = (none_lesser 0 s k ss p, variables_distinct k ss)
start_distinct (suc i) k (s ∷ ss) p = (none_between k s i (k + 1) ss p (omega arith), start_distinct i (k + 1) ss (omega arith))

variables_above : (k : ℕ) (ss : List ℕ) → all_above (variables k ss) ≤ k + length ss
variables_above k [] = omega arith
variables_above k (s ∷ ss) = let h = variables_above (k + 1) ss in omega arith

start_above : (i k : ℕ) (ss : List ℕ) → 0 < k → i < length ss → all_above (start_args i k ss) + 1 ≤ k + length ss
start_above i k [] h l = absurd (omega (arith, l))
start_above zero k (s ∷ ss) h l = let x = variables_above k ss in omega arith
start_above (suc i) k (s ∷ ss) h l = let x = start_above i (k + 1) ss (omega arith) (omega (arith, l)) in omega arith

pub start_place : (i k : ℕ) (ss : List ℕ) (s : ℕ) → slice_get ss i ≡ Some s → slice_get (list_of (start_args i k ss)) i ≡ Some (Var 0 s)
start_place i k [] s e = absurd (cc)
start_place zero k (r ∷ ss) s e = ap (λ x. Some (Var 0 x)) (same_Some r s e)
start_place (suc i) k (r ∷ ss) s e = start_place i (k + 1) ss s e

pub arg_sort : (sig : Signature) (ts : Trees) (ss : List ℕ) (i : ℕ) (a : Tree) (s : ℕ) → HaveSorts sig ts ss → slice_get (list_of ts) i ≡ Some a
    → slice_get ss i ≡ Some s → sort_of a ≡ s
arg_sort sig none ss i a s h e f = absurd (cc)
arg_sort sig (more t ts) [] i a s h e f = absurd h
arg_sort sig (more t ts) (r ∷ ss) zero a s h e f = ap sort_of (sym (same_Some t a e)) ∙ h.0 ∙ same_Some r s f
arg_sort sig (more t ts) (r ∷ ss) (suc i) a s h e f = arg_sort sig ts ss i a s h.2 e f

-- ---- the derivative on two terms that differ at a place gives two instances of the start term, which differ at variable 0

pub record Starts (th : Theory) (o : Operator) (g : Place) (d : Derivative) (s : ℕ) (a b t u : Tree) (p : Substitution) : Type 0 where
  pub left : Substitution
  pub right : Substitution
  pub left_sorted : IsSubstitution th.signature left
  pub right_sorted : IsSubstitution th.signature right
  pub left_here : left 0 s ≡ a
  pub right_here : right 0 s ≡ b
  pub differ : DifferAt 0 s left right
  pub left_made : instance left (start_term o g d) ≡ derived d t p
  pub right_made : instance right (start_term o g d) ≡ derived d u p

-- a change at variable 0 below the parameters
parameters_differ : (k s : ℕ) (σ τ p : Substitution) → DifferAt 0 s σ τ → DifferAt 0 s (with_parameters k σ p) (with_parameters k τ p)
parameters_differ k s σ τ p d n r e = rw (d n r e) refl

pub starts : (th : Theory) → IsWellFormed th → (o : Operator) (f s i : ℕ) (ts : Trees) (a b : Tree) (d : Derivative) (p : Substitution)
    → Contains th.derivatives d → HaveSorts th.signature ts o.args → slice_get (list_of ts) i ≡ Some a → slice_get o.args i ≡ Some s → IsOfSort th.signature s b
    → IsSubstitution th.signature p → Starts th o (place f i) d s a b (App f o.result ts) (App f o.result (put_at ts i b)) p
starts th ok o f s i ts a b d p l h e es wb wp =
    let sig : Signature = th.signature in
    let der = ok.derivatives d l in
    let k : ℕ = length o.args in
    let vs : Trees = start_args i 1 o.args in
    let head : Tree = App f o.result vs in
    let m : MakesAll sig vs ts = all_distinct_make sig vs ts (start_distinct i 1 o.args (omega arith)) (start_fills sig i 1 o.args ts h) in
    let ρ : Substitution = m.by in
    let π : Substitution = plug s b ρ in
    let whole : instance ρ head ≡ App f o.result ts = ap (App f o.result) m.made in
    let inside : i < k = slice_get_within o.args i s es in
    let low : above head ≤ k = let x = start_above i 1 o.args (omega arith) inside in omega arith in
    let var : at head (i ∷ []) ≡ Some (Var 0 s) = start_place i 1 o.args s es in
    let here : ρ 0 s ≡ a =
    same_Some (ρ 0 s) a (sym (at_instance ρ (i ∷ []) head (Var 0 s) var) ∙ ap (λ x. at x (i ∷ [])) whole ∙ e) in
    let put : replaced (instance ρ head) (i ∷ []) (π 0 s) ≡ Some (instance π head) =
    replaced_once 0 s ρ π (plug_differs s b ρ) (i ∷ []) head (start_distinct i 1 o.args (omega arith)) var in
    let made : replaced (App f o.result ts) (i ∷ []) b ≡ Some (App f o.result (put_at ts i b)) = rw e refl in
    let next : instance π head ≡ App f o.result (put_at ts i b) =
    same_Some (instance π head) (App f o.result (put_at ts i b))
    (sym put ∙ ap (replaced (instance ρ head) (i ∷ [])) (plug_hole s b ρ) ∙ ap (λ x. replaced x (i ∷ []) b) whole ∙ made) in
    record {
      left = with_parameters k ρ p;
      right = with_parameters k π p;
      left_sorted = with_parameters_sorted sig k ρ p m.sorted wp;
      right_sorted = with_parameters_sorted sig k π p (plug_substitution sig s b ρ wb.0 wb.1 m.sorted) wp;
      left_here = with_parameters_below k ρ p 0 s (omega arith) ∙ here;
      right_here = with_parameters_below k π p 0 s (omega arith) ∙ plug_hole s b ρ;
      differ = parameters_differ k s ρ π p (plug_differs s b ρ);
      left_made = derived-with_parameters sig d der k ρ p head low ∙ ap (λ x. derived d x p) whole;
      right_made = derived-with_parameters sig d der k π p head low ∙ ap (λ x. derived d x p) next;
    }
