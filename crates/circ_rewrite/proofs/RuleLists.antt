-- The rules among equations: one equation further on, and that they are rewrite rules.
use Rattle.std.proofs.Common.{◌≡◌, ◌≤◌, ◌<◌, ◌^◌, ◌+◌, ◌&&◌, ℕ, zero, suc, Bool, true, false, List, [], ◌∷◌, ◌++◌, length, drop, if◌then◌else◌, Option, Some, None, refl, ap, sym, ◌∙◌, append_assoc, arith}
use Rattle.std.specs.Prelude.{is_some, Result, Ok, Err, IfOk, Vec}
use Rattle.std.proofs.Common.{Global}
use Rattle.std.specs.List.{slice_get, AllByRecursion, Contains}
use Rattle.std.proofs.lemmas.Bool.{and_parts}
use Rattle.std.proofs.lemmas.Option.{get_or_from_slice_get}
use Rattle.circ_term.specs.Tree.{operator_number}
use Rattle.circ_term.proofs.Within.{drop_read}
use Rattle.circ_theory.specs.Rule.{is_rule, is_bound}
use Rattle.circ_theory.specs.Theory.{Theory, goal_of, HasNoConditions}
use Rattle.circ_theory.specs.WellFormed.{IsWellFormed}
use Rattle.circ_theory.specs.Goal.{Equation}
use Rattle.circ_theory.specs.Goal.{Goal}
use Rattle.circ_theory.proofs.Rewriting.{contains_at}
use Rattle.circ_theory.proofs.Casing.{contains_first, contains_next}
use Rattle.circ_rewrite.specs.Due.{IsRewriteRule, AreUnconditional}
use Rattle.circ_rewrite.specs.Links.{IsRuleOf}
use Rattle.circ_rewrite.specs.declared.parts.Rule.{Rule}
use Rattle.circ_rewrite.specs.TheoryRules.{rule_of, rule_at, rules_from, theory_rules}

-- a rule before others, where there is one
abbrev pub with_rule : Option Rule → List Rule → List Rule
with_rule None rs = rs
with_rule (Some r) rs = r ∷ rs

first_rule : (n : ℕ) (e : Equation) (es : List Equation) → rules_from n (e ∷ es) ≡ with_rule (rule_at n (Some e)) (rules_from (n + 1) es)
first_rule n e es = go (is_rule e)
  where
    go : (b : Bool)
        → (if b then rule_of n e ∷ rules_from (n + 1) es else rules_from (n + 1) es) ≡ with_rule (if b then Some (rule_of n e) else None) (rules_from (n + 1) es)
    go true = refl
    go false = refl

not_past : {X : Type 0} (xs : List X) (n : ℕ) → slice_get xs n ≡ None → n < length xs → ⊥
not_past [] n g h = omega (arith, h)
not_past (x ∷ xs) zero g h = let never : Some x ≡ None = g in cc
not_past (x ∷ xs) (suc n) g h = not_past xs n g (omega (arith, h))

pub next_rule : (es : List Equation) (n : ℕ) → n < length es
    → rules_from n (drop n es) ≡ with_rule (rule_at n (slice_get es n)) (rules_from (n + 1) (drop (n + 1) es))
next_rule es n h = go (slice_get es n) refl
  where
    go : (o : Option Equation) → slice_get es n ≡ o → rules_from n (drop n es) ≡ with_rule (rule_at n o) (rules_from (n + 1) (drop (n + 1) es))
    go None g = absurd (not_past es n g h)
    go (Some e) g = ap (rules_from n) (drop_read es n e h (sym (get_or_from_slice_get es n e e g))) ∙ first_rule n e (drop (n + 1) es)

module _ (es : List Equation) (n : ℕ) (rs goal : List Rule) (h : n < length es) (i : rs ++ rules_from n (drop n es) ≡ goal) where
  -- the equation is a rule
  pub rule_added : (r : Rule) → Some r ≡ rule_at n (slice_get es n) → (rs ++ r ∷ []) ++ rules_from (n + 1) (drop (n + 1) es) ≡ goal
  rule_added r e =
      let rest : List Rule = rules_from (n + 1) (drop (n + 1) es) in
      append_assoc rs (r ∷ []) rest ∙ ap (λ o. rs ++ with_rule o rest) e ∙ sym (ap (λ xs. rs ++ xs) (next_rule es n h)) ∙ i

  -- it is none
  pub rule_passed : None ≡ rule_at n (slice_get es n) → rs ++ rules_from (n + 1) (drop (n + 1) es) ≡ goal
  rule_passed e =
      let rest : List Rule = rules_from (n + 1) (drop (n + 1) es) in
      ap (λ o. rs ++ with_rule o rest) e ∙ sym (ap (λ xs. rs ++ xs) (next_rule es n h)) ∙ i

a_rule : (n : ℕ) (e : Equation) → is_rule e ≡ true → IsRewriteRule (rule_of n e)
a_rule n e b =
    let parts = and_parts (e.exec && is_some (operator_number e.left)) (is_bound (goal_of e)) b in
    record { application = (and_parts e.exec (is_some (operator_number e.left)) parts.0).1; bound = parts.1 }

pub rules_rewrite : (n : ℕ) (es : List Equation) → AllByRecursion IsRewriteRule (rules_from n es)
rules_rewrite n [] = tt
rules_rewrite n (e ∷ es) = go (is_rule e) refl (rules_rewrite (n + 1) es)
  where
    go : (b : Bool) → is_rule e ≡ b → AllByRecursion IsRewriteRule (rules_from (n + 1) es)
        → AllByRecursion IsRewriteRule (if b then rule_of n e ∷ rules_from (n + 1) es else rules_from (n + 1) es)
    go true b ih = (a_rule n e b, ih)
    go false b ih = ih

rules_unconditional : (n : ℕ) (es : List Equation) → ((e : Equation) → Contains es e → e.conds ≡ []) → AreUnconditional (rules_from n es)
rules_unconditional n [] h = tt
rules_unconditional n (e ∷ es) h = go (is_rule e) (rules_unconditional (n + 1) es (λ d i. h d (contains_next e d es i)))
  where
    go : (b : Bool) → AreUnconditional (rules_from (n + 1) es)
        → AreUnconditional (if b then rule_of n e ∷ rules_from (n + 1) es else rules_from (n + 1) es)
    go true ih = (h e (contains_first e es), ih)
    go false ih = ih

-- a theory without conditions has rules without conditions
pub theory_unconditional : (th : Theory) → HasNoConditions th → AreUnconditional (theory_rules th)
theory_unconditional th h = rules_unconditional 0 th.equations h

rules_fewer : (n : ℕ) (es : List Equation) → length (rules_from n es) ≤ length es
rules_fewer n [] = omega arith
rules_fewer n (e ∷ es) = go (is_rule e) (rules_fewer (n + 1) es)
  where
    go : (b : Bool) → length (rules_from (n + 1) es) ≤ length es
        → length (if b then rule_of n e ∷ rules_from (n + 1) es else rules_from (n + 1) es) ≤ length (e ∷ es)
    go true ih = omega (arith, ih)
    go false ih = omega (arith, ih)

pub few_rules : (th : Theory) → IsWellFormed th → length (theory_rules th) < 2 ^ 32
few_rules th ok = omega (arith, rules_fewer 0 th.equations, ok.few_equations)

-- ---- they are rules of the theory

module _ (th : Theory) (ok : IsWellFormed th) (goals : List Goal) where
  equation_rule : (n : ℕ) (e : Equation) → slice_get th.equations n ≡ Some e → is_rule e ≡ true → IsRuleOf th goals (rule_of n e)
  equation_rule n e g b = record { rewrites = a_rule n e b; sorted = ok.equations e (contains_at th.equations n e g); named = (e, g, refl) }

  rules_are_from : (n : ℕ) (es : List Equation) → ((i : ℕ) (e : Equation) → slice_get es i ≡ Some e → slice_get th.equations (n + i) ≡ Some e)
      → AllByRecursion (IsRuleOf th goals) (rules_from n es)
  rules_are_from n [] h = tt
  rules_are_from n (e ∷ es) h = go (is_rule e) refl
      (rules_are_from (n + 1) es (λ i d g. let z : n + suc i ≡ n + 1 + i = omega arith in ap (slice_get th.equations) (sym z) ∙ h (suc i) d g))
    where
      here : slice_get th.equations n ≡ Some e
      here = let z : n + 0 ≡ n = omega arith in ap (slice_get th.equations) (sym z) ∙ h 0 e refl

      go : (b : Bool) → is_rule e ≡ b → AllByRecursion (IsRuleOf th goals) (rules_from (n + 1) es)
          → AllByRecursion (IsRuleOf th goals) (if b then rule_of n e ∷ rules_from (n + 1) es else rules_from (n + 1) es)
      go true b ih = (equation_rule n e here b, ih)
      go false b ih = ih

  pub rules_are : AllByRecursion (IsRuleOf th goals) (theory_rules th)
  rules_are = rules_are_from 0 th.equations (λ i e g. let z : 0 + i ≡ i = omega arith in ap (slice_get th.equations) z ∙ g)

-- ---- what is true of the list that the code makes

pub listed_rewrite : {E : Type 0} (th : Theory) (r : Result (Vec Rule Global) E) → IfOk r (λ v. v.items ≡ theory_rules th)
    → IfOk r (λ v. AllByRecursion IsRewriteRule v.items)
listed_rewrite th (Ok v) e = rw e (rules_rewrite 0 th.equations)
listed_rewrite th (Err x) e = tt

pub listed_few : {E : Type 0} (th : Theory) → IsWellFormed th → (r : Result (Vec Rule Global) E) → IfOk r (λ v. v.items ≡ theory_rules th)
    → IfOk r (λ v. length v.items < 2 ^ 32)
listed_few th ok (Ok v) e = rw e (few_rules th ok)
listed_few th ok (Err x) e = tt
