-- Variables that are given terms, one after another from the last one back.
use Rattle.std.proofs.Common.{◌≡◌, ℕ, zero, suc, ◌+◌, ◌<◌, ◌≤◌, Bool, true, false, cond, ◌==◌, ◌&&◌, if◌then◌else◌, List, [], ◌∷◌, Some, None, length, map, drop, refl, ap, sym, subst, ◌∙◌, arith}
use Rattle.std.specs.Prelude.{nat_eq, slice_index_or}
use Rattle.std.specs.List.{AllByRecursion}
use Rattle.std.specs.Map.{lookup}
use Rattle.std.proofs.lemmas.Bool.{eqb-true, eq-eqb, and_parts}
use Rattle.std.proofs.lemmas.List.{drop_all}
use Rattle.std.proofs.lemmas.Option.{same_Some}
use Rattle.circ_term.specs.Tree.{Tree, Var}
use Rattle.circ_term.specs.Limits.{IsWithinLimits}
use Rattle.circ_term.specs.Substitution.{Substitution}
use Rattle.circ_theory.specs.Variables.{Variable, FitVariables}
use Rattle.circ_nodes.specs.Named.{tree_at, IsNamed, AreNamed, IsOnce}
use Rattle.circ_theory.specs.Rewriting.{named}
use Rattle.circ_shared.specs.Memo.{IsMade}
use Rattle.circ_shared.specs.Patterns.{variable_trees}
use Rattle.circ_shared.specs.Binding.{IsGiven, AreGiven, Binds}
use Rattle.circ_shared.proofs.Loops.{drop_here, all_there}

-- what is given is what has been made
pub given_made : (σ : Substitution) (nodes : List Tree) (made : List (ℕ × ℕ)) → AreGiven σ nodes made → IsMade σ nodes made
given_made σ nodes made h = record {
  each = λ p n e.
      let one = h.each p n e in
      record { pattern = Var one.variable.number one.variable.sort; named = one.named; made = one.given; within = one.within };
  free = h.free;
}

pub given_none : (nodes : List Tree) (made : List (ℕ × ℕ)) → made ≡ [] → AreGiven Var nodes made
given_none nodes made e = record {
  each = λ p n l. absurd (let never : None ≡ Some n = (rw e at l) in cc);
  free = λ n s absent. refl;
}

abbrev with_variable : Substitution → Variable → Tree → Substitution
with_variable σ v t = λ n s. if (v.number == n) && (v.sort == s) then t else σ n s

own : (σ : Substitution) (v : Variable) (t : Tree) → with_variable σ v t v.number v.sort ≡ t
own σ v t = rw (eq-eqb v.number v.number refl, eq-eqb v.sort v.sort refl) refl

module _ (σ : Substitution) (v : Variable) (t : Tree) (nodes : List Tree) (once : IsOnce nodes) (p to : ℕ)
    (there : IsNamed nodes p (Var v.number v.sort)) (term : IsNamed nodes to t) (within : IsWithinLimits t) where
  -- another variable is given what it was
  other : (q n s : ℕ) → IsNamed nodes q (Var n s) → nat_eq p q ≡ false → (b : Bool) → ((v.number == n) && (v.sort == s)) ≡ b → b ≡ false
  other q n s h f false e = refl
  other q n s h f true e =
      let both = and_parts (v.number == n) (v.sort == s) e in
      let number : v.number ≡ n = eqb-true v.number n both.0 in
      let sort : v.sort ≡ s = eqb-true v.sort s both.1 in
      let same : Var v.number v.sort ≡ Var n s = ap (λ x. Var x v.sort) number ∙ ap (Var n) sort in
      let one : p ≡ q = once p q (Var n s) (there ∙ ap Some same) h in
      absurd (let y = sym f ∙ eq-eqb p q one in cc)

  pub given_put : (old new : List (ℕ × ℕ)) → AreGiven σ nodes old
      → ((q : ℕ) → lookup (nat_eq q) new ≡ cond (nat_eq p q) (Some to) (lookup (nat_eq q) old)) → AreGiven (with_variable σ v t) nodes new
  given_put old new h changes = record { each = λ q m e. each q m e (nat_eq p q) refl; free = λ n s absent. free n s absent ((v.number == n) && (v.sort == s)) refl }
    where
      each : (q m : ℕ) → lookup (nat_eq q) new ≡ Some m → (b : Bool) → nat_eq p q ≡ b → IsGiven (with_variable σ v t) nodes q m
      each q m e true f =
          let same : p ≡ q = eqb-true p q f in
          let here : to ≡ m = same_Some to m (sym (changes q ∙ rw f refl) ∙ e) in
          record {
            variable = v;
            named = subst (λ x. IsNamed nodes x (Var v.number v.sort)) same there;
            given = subst (λ x. IsNamed nodes x (with_variable σ v t v.number v.sort)) here (subst (IsNamed nodes to) (sym (own σ v t)) term);
            within = subst IsWithinLimits (sym (own σ v t)) within;
          }
      each q m e false f =
          let one = h.each q m (sym (changes q ∙ rw f refl) ∙ e) in
          let w = one.variable in
          let apart : ((v.number == w.number) && (v.sort == w.sort)) ≡ false = other q w.number w.sort one.named f ((v.number == w.number) && (v.sort == w.sort)) refl in
          let same : σ w.number w.sort ≡ with_variable σ v t w.number w.sort = rw apart refl in
          record { variable = w; named = one.named; given = subst (IsNamed nodes m) same one.given; within = subst IsWithinLimits same one.within }

      before : (n s : ℕ) → ((q m : ℕ) → lookup (nat_eq q) new ≡ Some m → IsNamed nodes q (Var n s) → ⊥)
          → (q m : ℕ) → lookup (nat_eq q) old ≡ Some m → IsNamed nodes q (Var n s) → (b : Bool) → nat_eq p q ≡ b → ⊥
      before n s absent q m e is true f = absent q to (changes q ∙ rw f refl) is
      before n s absent q m e is false f = absent q m (changes q ∙ rw f e) is

      free : (n s : ℕ) → ((q m : ℕ) → lookup (nat_eq q) new ≡ Some m → IsNamed nodes q (Var n s) → ⊥) → (b : Bool) → ((v.number == n) && (v.sort == s)) ≡ b
          → (if b then t else σ n s) ≡ Var n s
      free n s absent true e =
          let both = and_parts (v.number == n) (v.sort == s) e in
          let number : v.number ≡ n = eqb-true v.number n both.0 in
          let sort : v.sort ≡ s = eqb-true v.sort s both.1 in
          let same : Var v.number v.sort ≡ Var n s = ap (λ x. Var x v.sort) number ∙ ap (Var n) sort in
          absurd (absent p to (changes p ∙ rw (eq-eqb p p refl) refl) (there ∙ ap Some same))
      free n s absent false e = h.free n s (λ q m l is. before n s absent q m l is (nat_eq p q) refl)

-- ---- the variables and the terms from one on

pub fit_length : (vs : List Variable) (ts : List Tree) → FitVariables vs ts → length vs ≡ length ts
fit_length [] [] h = refl
fit_length [] (t ∷ ts) h = absurd h
fit_length (v ∷ vs) [] h = absurd h
fit_length (v ∷ vs) (t ∷ ts) h = ap suc (fit_length vs ts h.1)

pub fit_drop : (vs : List Variable) (ts : List Tree) (i : ℕ) → FitVariables vs ts → FitVariables (drop i vs) (drop i ts)
fit_drop vs ts zero h = h
fit_drop [] [] (suc i) h = tt
fit_drop [] (t ∷ ts) (suc i) h = absurd h
fit_drop (v ∷ vs) [] (suc i) h = absurd h
fit_drop (v ∷ vs) (t ∷ ts) (suc i) h = fit_drop vs ts i h.1

pub variables_length : (nodes : List Tree) (ns : List ℕ) (vs : List Variable) → AreNamed nodes ns (variable_trees vs) → length ns ≡ length vs
variables_length nodes [] [] h = refl
variables_length nodes [] (v ∷ vs) h = absurd h
variables_length nodes (n ∷ ns) [] h = absurd h
variables_length nodes (n ∷ ns) (v ∷ vs) h = ap suc (variables_length nodes ns vs h.1)

-- the i-th variable
pub record HasVariable (nodes : List Tree) (ns : List ℕ) (vs : List Variable) (i : ℕ) : Type 0 where
  pub variable : Variable
  pub named : IsNamed nodes (slice_index_or ns i 0) (Var variable.number variable.sort)
  pub rest : drop i vs ≡ variable ∷ drop (i + 1) vs

pub variable_at : (nodes : List Tree) (ns : List ℕ) (vs : List Variable) (i : ℕ) → AreNamed nodes ns (variable_trees vs) → i < length ns → HasVariable nodes ns vs i
variable_at nodes [] vs i h b = absurd (omega (arith, b))
variable_at nodes (n ∷ ns) [] i h b = absurd h
variable_at nodes (n ∷ ns) (v ∷ vs) zero h b = record { variable = v; named = h.0; rest = refl }
variable_at nodes (n ∷ ns) (v ∷ vs) (suc i) h b =
    let ih = variable_at nodes ns vs i h.1 (omega (arith, b)) in
    let e : suc i + 1 ≡ suc (i + 1) = omega arith in
    record { variable = ih.variable; named = ih.named; rest = rw e ih.rest }

-- the term of the i-th number, in a table of numbers
named_map : (nodes : List Tree) (table : List ℕ) (n : ℕ) → n < length table → named (map (tree_at nodes) table) n ≡ tree_at nodes (slice_index_or table n 0)
named_map nodes [] n h = absurd (omega (arith, h))
named_map nodes (m ∷ table) zero h = refl
named_map nodes (m ∷ table) (suc n) h = named_map nodes table n (omega (arith, h))

pub named_in : (nodes : List Tree) (table : List ℕ) (n : ℕ) → n < length table → named (map (tree_at nodes) table) n ≡ tree_at nodes (slice_index_or table n 0)
named_in nodes table n h = named_map nodes table n h

drop_map : (ts : List ℕ) (f : ℕ → Tree) (i : ℕ) → drop i (map f ts) ≡ map f (drop i ts)
drop_map ts f zero = refl
drop_map [] f (suc i) = refl
drop_map (t ∷ ts) f (suc i) = drop_map ts f i

pub terms_at : (nodes : List Tree) (terms : List ℕ) (i : ℕ) → i < length terms
    → drop i (map (tree_at nodes) terms) ≡ tree_at nodes (slice_index_or terms i 0) ∷ drop (i + 1) (map (tree_at nodes) terms)
terms_at nodes terms i h =
    drop_map terms (tree_at nodes) i ∙ ap (map (tree_at nodes)) (drop_here terms i h)
    ∙ ap (λ xs. tree_at nodes (slice_index_or terms i 0) ∷ xs) (sym (drop_map terms (tree_at nodes) (i + 1)))

-- ---- numbers that stand in a table

index_there : (k : ℕ) (table : List ℕ) (n : ℕ) → AllByRecursion (λ m. m < k) table → n < length table → slice_index_or table n 0 < k
index_there k table n a h = all_there k table n a h

pub all_named : (nodes : List Tree) (table terms : List ℕ) → AllByRecursion (λ n. n < length nodes) table → AllByRecursion (λ n. n < length table) terms
    → AllByRecursion (λ n. n < length nodes) (map (λ n. slice_index_or table n 0) terms)
all_named nodes table [] a b = tt
all_named nodes table (t ∷ ts) a b = (index_there (length nodes) table t a b.0, all_named nodes table ts a b.1)

pub named_by_table : (nodes : List Tree) (table terms : List ℕ) → AllByRecursion (λ n. n < length table) terms
    → map (tree_at nodes) (map (λ n. slice_index_or table n 0) terms) ≡ map (named (map (tree_at nodes) table)) terms
named_by_table nodes table [] b = refl
named_by_table nodes table (t ∷ ts) b =
    ap (λ x. x ∷ map (tree_at nodes) (map (λ n. slice_index_or table n 0) ts)) (sym (named_in nodes table t b.0))
    ∙ ap (λ xs. named (map (tree_at nodes) table) t ∷ xs) (named_by_table nodes table ts b.1)

-- ---- what the loop over the variables keeps

pub binds_empty : (nodes : List Tree) (vs : List Variable) (ts : List Tree) (made : List (ℕ × ℕ)) (n : ℕ) → length vs ≤ n → length ts ≤ n → made ≡ []
    → Binds nodes (drop n vs) (drop n ts) made true
binds_empty nodes vs ts made n a b e =
    let P : List Variable → Type 0 = λ xs. Binds nodes xs (drop n ts) made true in
    let Q : List Tree → Type 0 = λ xs. Binds nodes [] xs made true in
    subst P (sym (drop_all n vs a)) (subst Q (sym (drop_all n ts b)) (tt, given_none nodes made e))

pub binds_step : (nodes : List Tree) (vs : List Variable) (ts : List Tree) (made : List (ℕ × ℕ)) (i : ℕ) (v : Variable) (t : Tree)
    → drop i vs ≡ v ∷ drop (i + 1) vs → drop i ts ≡ t ∷ drop (i + 1) ts → Binds nodes (v ∷ drop (i + 1) vs) (t ∷ drop (i + 1) ts) made true
    → Binds nodes (drop i vs) (drop i ts) made true
binds_step nodes vs ts made i v t e f b =
    let P : List Variable → Type 0 = λ xs. Binds nodes xs (drop i ts) made true in
    let Q : List Tree → Type 0 = λ xs. Binds nodes (v ∷ drop (i + 1) vs) xs made true in
    subst P (sym e) (subst Q (sym f) b)

pub unbound_step : (nodes : List Tree) (vs : List Variable) (ts : List Tree) (made : List (ℕ × ℕ)) (i : ℕ) (v : Variable) (t : Tree)
    → drop i vs ≡ v ∷ drop (i + 1) vs → drop i ts ≡ t ∷ drop (i + 1) ts → Binds nodes (v ∷ drop (i + 1) vs) (t ∷ drop (i + 1) ts) made false
    → FitVariables vs ts → ⊥
unbound_step nodes vs ts made i v t e f b fit =
    let P : List Variable → Type 0 = λ xs. FitVariables xs (drop i ts) in
    let Q : List Tree → Type 0 = λ xs. FitVariables (v ∷ drop (i + 1) vs) xs in
    b (subst Q f (subst P e (fit_drop vs ts i fit)))
