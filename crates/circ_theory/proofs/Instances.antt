-- Instances of what is derivable.
use Rattle.std.specs.Prelude.{◌≡◌, ℕ, List, [], ◌∷◌, map, zero, suc, refl}
use Rattle.std.specs.List.{Contains}
use Rattle.std.proofs.Common.{ap, ◌∙◌, arith, sym}
use Rattle.circ_term.specs.Tree.{Tree, Trees, Var, App, none, more, sort_of}
use Rattle.circ_term.specs.Substitution.{Substitution, instance, instances, composed}
use Rattle.circ_term.proofs.Instances.{instance-instance}
use Rattle.circ_theory.specs.Signature.{Signature, IsSort, IsWellSorted, HaveSorts, IsSubstitution}
use Rattle.circ_pairs.specs.Pair.{Pair, instance_pair}
use Rattle.circ_theory.specs.Theory.{Theory, IsWellSortedPair}
use Rattle.circ_theory.specs.Derivable.{Derivable, by_same, by_symmetry, by_chain, by_operator, by_equation, by_premise, by_cases, DerivableAll}
use Rattle.circ_theory.specs.Derivable.{no_args, more_args}

pub sort_of-instance_by : (sig : Signature) (σ : Substitution) (t : Tree) → IsSubstitution sig σ → IsWellSorted sig t → sort_of (instance σ t) ≡ sort_of t
sort_of-instance_by sig σ (Var n s) w h = (w n s h).0
sort_of-instance_by sig σ (App f s ts) w h = refl

-- an instance of a well-sorted term is well-sorted
mutual
  pub instance_well_sorted : (sig : Signature) (σ : Substitution) (t : Tree) → IsSubstitution sig σ → IsWellSorted sig t → IsWellSorted sig (instance σ t)
  instance_well_sorted sig σ (Var n s) w h = (w n s h).1
  instance_well_sorted sig σ (App f s ts) w h = (h.0, h.1, h.2, instances_have_sorts sig σ ts h.0.args w h.3)

  pub instances_have_sorts : (sig : Signature) (σ : Substitution) (ts : Trees) (ss : List ℕ) → IsSubstitution sig σ → HaveSorts sig ts ss
      → HaveSorts sig (instances σ ts) ss
  instances_have_sorts sig σ none [] w h = h
  instances_have_sorts sig σ none (s ∷ ss) w h = h
  instances_have_sorts sig σ (more t ts) [] w h = h
  instances_have_sorts sig σ (more t ts) (s ∷ ss) w h =
      (sort_of-instance_by sig σ t w h.1 ∙ h.0, instance_well_sorted sig σ t w h.1, instances_have_sorts sig σ ts ss w h.2)

pub composed_substitution : (sig : Signature) (τ σ : Substitution) → IsSubstitution sig τ → IsSubstitution sig σ → IsSubstitution sig (composed τ σ)
composed_substitution sig τ σ a b = λ n s h. (sort_of-instance_by sig τ (σ n s) a (b n s h).1 ∙ (b n s h).0, instance_well_sorted sig τ (σ n s) a (b n s h).1)

pub contains_instance : (τ : Substitution) (H : List Pair) (p : Pair) → Contains H p → Contains (map (instance_pair τ) H) (instance_pair τ p)
contains_instance τ [] p c = absurd (omega (arith, c.1))
contains_instance τ (q ∷ H) p (zero, h, e) = (zero, omega arith, ap (instance_pair τ) e)
contains_instance τ (q ∷ H) p (suc k, h, e) = let r = contains_instance τ H p (k, omega arith, e) in (suc r.0, omega (arith, r.1), r.2)

pub pair_instance : (sig : Signature) (τ : Substitution) (p : Pair) → IsSubstitution sig τ → IsWellSortedPair sig p → IsWellSortedPair sig (instance_pair τ p)
pair_instance sig τ p w h = record {
  left = instance_well_sorted sig τ p.left w h.left;
  right = instance_well_sorted sig τ p.right w h.right;
  same_sort = sort_of-instance_by sig τ p.right w h.right ∙ h.same_sort ∙ sym (sort_of-instance_by sig τ p.left w h.left);
}

-- an instance of what is derivable is derivable, from the instances of the premises
mutual
  pub derivable_instance : (th : Theory) (τ : Substitution) → IsSubstitution th.signature τ → {H : List Pair} {s t : Tree} → Derivable th H s t
      → Derivable th (map (instance_pair τ) H) (instance τ s) (instance τ t)
  derivable_instance th τ w (by_same t h) = by_same (instance τ t) (instance_well_sorted th.signature τ t w h)
  derivable_instance th τ w (by_symmetry d) = by_symmetry (derivable_instance th τ w d)
  derivable_instance th τ w (by_chain m d e) = by_chain (instance τ m) (derivable_instance th τ w d) (derivable_instance th τ w e)
  derivable_instance th τ w (by_operator {ss = ss} {ts = ts} f k a b ds) =
      by_operator f k (instance_well_sorted th.signature τ (App f k ss) w a) (instance_well_sorted th.signature τ (App f k ts) w b)
      (derivable_instances th τ w ds)
  derivable_instance th τ w (by_equation {H = H} e σ c s d) =
      rw (instance-instance τ σ e.left, instance-instance τ σ e.right)
      (by_equation e (composed τ σ) c (composed_substitution th.signature τ σ w s)
      (λ p k. rw (instance-instance τ σ p.left, instance-instance τ σ p.right) at (derivable_instance th τ w (d p k))))
  derivable_instance th τ w (by_premise {H = H} p c s) = by_premise (instance_pair τ p) (contains_instance τ H p c) (pair_instance th.signature τ p w s)
  derivable_instance th τ w (by_cases u l c a b f) =
      by_cases (instance τ u) l c (instance_well_sorted th.signature τ u w a) (sort_of-instance_by th.signature τ u w a ∙ b)
      (λ k h. derivable_instance th τ w (f k h))

  pub derivable_instances : (th : Theory) (τ : Substitution) → IsSubstitution th.signature τ → {H : List Pair} {ss ts : Trees} → DerivableAll th H ss ts
      → DerivableAll th (map (instance_pair τ) H) (instances τ ss) (instances τ ts)
  derivable_instances th τ w no_args = no_args
  derivable_instances th τ w (more_args d ds) = more_args (derivable_instance th τ w d) (derivable_instances th τ w ds)

-- substitutions that are derivable at each variable give derivable instances
mutual
  pub instance_derivable : (th : Theory) (H : List Pair) (σ τ : Substitution) → IsSubstitution th.signature σ → IsSubstitution th.signature τ
      → ((n s : ℕ) → IsSort th.signature s → Derivable th H (σ n s) (τ n s))
      → (t : Tree) → IsWellSorted th.signature t → Derivable th H (instance σ t) (instance τ t)
  instance_derivable th H σ τ a b d (Var n s) h = d n s h
  instance_derivable th H σ τ a b d (App f s ts) h =
      by_operator f s (instance_well_sorted th.signature σ (App f s ts) a h) (instance_well_sorted th.signature τ (App f s ts) b h)
      (instances_derivable th H σ τ a b d ts h.0.args h.3)

  pub instances_derivable : (th : Theory) (H : List Pair) (σ τ : Substitution) → IsSubstitution th.signature σ → IsSubstitution th.signature τ
      → ((n s : ℕ) → IsSort th.signature s → Derivable th H (σ n s) (τ n s))
      → (ts : Trees) (ss : List ℕ) → HaveSorts th.signature ts ss → DerivableAll th H (instances σ ts) (instances τ ts)
  instances_derivable th H σ τ a b d none ss h = no_args
  instances_derivable th H σ τ a b d (more t ts) [] h = absurd h
  instances_derivable th H σ τ a b d (more t ts) (s ∷ ss) h =
      more_args (instance_derivable th H σ τ a b d t h.1) (instances_derivable th H σ τ a b d ts ss h.2)
