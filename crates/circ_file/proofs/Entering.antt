-- The term of a line that is added to a table, and a limit that it passes.
use Rattle.std.specs.Prelude.{◌≡◌, ℕ, ◌+◌, ◌≤◌, ◌||◌, nat_eq, Bool, true, false, if◌then◌else◌, List, length, map, Option, Some, None, is_some, refl}
use Rattle.std.specs.List.{slice_get}
use Rattle.std.specs.Option.{option_and_then}
use Rattle.std.specs.Cmp.Lexicographic.{pointwise}
use Rattle.std.proofs.Common.{◌∙◌, ap, arith}
use Rattle.std.proofs.lemmas.Bool.{lt-ltb}
use Rattle.circ_term.specs.Tree.{Tree, App, sort_of, trees_of}
use Rattle.circ_term.specs.Limits.{Limit, first_limit}
use Rattle.circ_theory.specs.Signature.{Signature, Operator}
use Rattle.circ_theory.specs.Adding.{application}
use Rattle.circ_proof.specs.Table.{term_limit}
use Rattle.circ_line.specs.Line.{TableLine, Application_line}
use Rattle.circ_proof_text.specs.TableText.{firsts_at, term_for}
use Rattle.circ_proof_text.specs.Checks.{is_full, is_too_large}
use Rattle.circ_file.specs.Adding.{have_sorts, AddsLine}
use Rattle.circ_file.specs.declared.taken.Taken.TheVariants.{Limit as Over}

-- the operator on these terms, where it takes their sorts
abbrev applied : ℕ → List Tree → Operator → Option Tree
applied f ts o = if pointwise nat_eq (map sort_of ts) o.args then Some (App f o.result (trees_of ts)) else None

-- the term of a line whose operator takes its arguments
pub is_taken : (sig : Signature) (table : List Tree) (f : ℕ) (ns : List ℕ) (o : Operator) → slice_get sig.ops f ≡ Some o
    → have_sorts (firsts_at table ns) o.args ≡ true
    → (ts : List Tree) × (firsts_at table ns ≡ Some ts) × (term_for sig table (Application_line f ns) ≡ Some (App f o.result (trees_of ts)))
is_taken sig table f ns o e h = go (firsts_at table ns) refl h
  where
    go : (q : Option (List Tree)) → firsts_at table ns ≡ q → have_sorts q o.args ≡ true
        → (ts : List Tree) × (firsts_at table ns ≡ Some ts) × (term_for sig table (Application_line f ns) ≡ Some (App f o.result (trees_of ts)))
    go None a g = absurd (cc)
    go (Some ts) a g = (
      ts,
      a,
      ap (option_and_then (application sig f)) a ∙ ap (option_and_then (applied f ts)) e ∙ ap (λ b. if b then Some (App f o.result (trees_of ts)) else None) g,
    )

module _ (sig : Signature) (ts us : List Tree) (l : TableLine) (t : Tree) (e : term_for sig ts l ≡ Some t) where
  pub is_over : term_limit ≤ length ts → AddsLine sig ts l Over us
  is_over h = (t, e, ap (λ b. b || is_too_large (Some t)) (lt-ltb term_limit (length ts + 1) (omega (arith, h))))

  pub is_large : (x : Limit) → first_limit t ≡ Some x → AddsLine sig ts l Over us
  is_large x f = (t, e, ap (λ o. is_full term_limit (length ts) || is_some o) f ∙ go (is_full term_limit (length ts)))
    where
      go : (b : Bool) → (b || true) ≡ true
      go true = refl
      go false = refl
