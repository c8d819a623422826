-- What is written and fits is a fitting experiment.
use Rattle.std.proofs.Common.{◌≡◌, ℕ, ◌+◌, List, [], ◌∷◌, Bool, true, false, ◌==◌, if◌then◌else◌, map, Option, Some, None, unwrap_or, refl, ap, sym, subst}
use Rattle.std.specs.List.{slice_get, AllByRecursion, Contains}
use Rattle.std.specs.Option.{option_map_or}
use Rattle.std.proofs.lemmas.Bool.{eqb-true}
use Rattle.circ_term.specs.Tree.{Tree, sort_of}
use Rattle.circ_theory.specs.Signature.{Signature, IsWellSorted, IsSubstitution}
use Rattle.circ_theory.specs.Theory.{Theory, Derivative, IsVisible}
use Rattle.circ_theory.specs.Experiment.{Fits}
use Rattle.circ_theory.specs.Fresh.{given_parameters, parameter_sorts}
use Rattle.circ_theory.specs.Observing.{is_hidden}
use Rattle.circ_theory.specs.Variables.{FitVariables, numbered}
use Rattle.circ_theory.proofs.Casing.{hidden_tells}
use Rattle.circ_theory.proofs.Rewriting.{contains_at, given_substitution}
use Rattle.circ_entry.specs.Entries.{no_derivative, derivative_at, Written, written_entries, FitsWritten, HaveParameters, takes_sort, first_misfit}

numbers_fit : (k : ℕ) (ts : List Tree) → FitVariables (numbered k (map sort_of ts)) ts
numbers_fit k [] = tt
numbers_fit k (t ∷ ts) = (refl, numbers_fit (k + 1) ts)

pub given_sorted : (sig : Signature) (ts : List Tree) → AllByRecursion (IsWellSorted sig) ts → IsSubstitution sig (given_parameters ts)
given_sorted sig ts a = given_substitution sig (numbered 1 (map sort_of ts)) ts (numbers_fit 1 ts) a

pub derivative_is : (th : Theory) (k : ℕ) (d : Derivative) → slice_get th.derivatives k ≡ Some d → derivative_at th k ≡ d
derivative_is th k d e = ap (λ o. unwrap_or o no_derivative) e

pub written_fits : (th : Theory) (ws : List Written) (s : ℕ) → FitsWritten th ws s → Fits th (written_entries th ws) s
written_fits th [] s f = f
written_fits th (w ∷ ws) s f =
    let d : Derivative = f.0 in
    let e = sym (derivative_is th w.derivative d f.1.listed) in
    let C : Derivative → Type 0 = Contains th.derivatives in
    let H : Derivative → Type 0 = λ y. y.hole ≡ s in
    let F : Derivative → Type 0 = λ y. Fits th (written_entries th ws) (sort_of y.body) in
    (subst C e (contains_at th.derivatives w.derivative d f.1.listed), subst H e f.1.hole, given_sorted th.signature w.parameters f.1.sorted, subst F e (written_fits th ws (sort_of d.body) f.2))

-- ---- where no entry is a misfit, all fit

took : (th : Theory) (k s : ℕ) → takes_sort th k s ≡ true → (d : Derivative) × (slice_get th.derivatives k ≡ Some d) × (d.hole ≡ s)
took th k s e = go (slice_get th.derivatives k) refl e
  where
    go : (o : Option Derivative) → slice_get th.derivatives k ≡ o → option_map_or (λ (d : Derivative). d.hole == s) o false ≡ true
        → (d : Derivative) × (slice_get th.derivatives k ≡ Some d) × (d.hole ≡ s)
    go None h g = absurd (cc)
    go (Some d) h g = (d, h, eqb-true d.hole s g)

pub no_misfit : (th : Theory) (k s : ℕ) (ws : List Written) → HaveParameters th ws → first_misfit th k s ws ≡ None → FitsWritten th ws s
no_misfit th k s [] a e = go (is_hidden th s) refl e
  where
    go : (b : Bool) → is_hidden th s ≡ b → (if b then Some k else None) ≡ None → IsVisible th s
    go true h g = absurd (cc)
    go false h g = λ hid. absurd (let z = (hidden_tells th s).1 hid in cc)
no_misfit th k s (w ∷ ws) a e = go (takes_sort th w.derivative s) refl (λ x. no_misfit th (k + 1) (sort_of (derivative_at th w.derivative).body) ws a.1 x) e
  where
    go : (b : Bool) → takes_sort th w.derivative s ≡ b
        → (first_misfit th (k + 1) (sort_of (derivative_at th w.derivative).body) ws ≡ None → FitsWritten th ws (sort_of (derivative_at th w.derivative).body))
        → (if b then first_misfit th (k + 1) (sort_of (derivative_at th w.derivative).body) ws else Some k) ≡ None → FitsWritten th (w ∷ ws) s
    go false h ih g = absurd (cc)
    go true h ih g =
        let r = took th w.derivative s h in
        let d : Derivative = r.0 in
        let is : derivative_at th w.derivative ≡ d = derivative_is th w.derivative d r.1 in
        let P : Derivative → Type 0 = λ y. map sort_of w.parameters ≡ parameter_sorts y in
        let F : Derivative → Type 0 = λ y. FitsWritten th ws (sort_of y.body) in
        (d, record { listed = r.1; hole = r.2; sorted = a.0.0; fit = subst P is a.0.1 }, subst F is (ih g))
