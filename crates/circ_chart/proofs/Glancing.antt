-- What a glance at a range tells: that it spells nothing.
use Rattle.std.proofs.Common.{◌≡◌, ◌<◌, ◌≤◌, ◌+◌, ℕ, List, ◌∷◌, length, get_or, drop, inl, inr, sym, ◌∙◌, ap, subst, arith}
use Rattle.std.proofs.lemmas.List.{drop_more, drop_all}
use Rattle.circ_term.specs.Tree.{Tree}
use Rattle.circ_spelling.specs.declared.grammar.Rule.{Rule}
use Rattle.circ_spelling.specs.declared.grammar.Grammar.{Grammar}
use Rattle.circ_spelling.specs.Limits.{opening}
use Rattle.circ_spelling.specs.Reads.{Reads, by_parentheses, by_variable, by_operator}
use Rattle.circ_chart.specs.Ways.{ByRule, AnyByRule}
use Rattle.circ_chart.proofs.Asking.{rule_in}

module _ (g : Grammar) (ts : List ℕ) (b s i j : ℕ) where
  -- it has some tokens, no parenthesis stands before them, and no rule spells it
  pub nothing_read : i + 1 < j → (get_or ts i 0 ≡ opening → ⊥) → ((t : Tree) → AnyByRule g ts b s i j g.rules.items t → ⊥) → (t : Tree) → Reads g ts b s i j t → ⊥
  nothing_read l o none t (by_parentheses m lo k r c e) = o k.is
  nothing_read l o none t (by_variable n v lo at k e f z) = absurd (omega (arith, l, e))
  nothing_read l o none t (by_operator n r args at p e row z) =
      none t (rule_in g ts b s i j g.rules.items t n r at (record { prec = p; sort = sym e; rows = record { args = args; row = row; is = z } }))

  -- a rule that does not spell it is passed
  pub rule_on : (rs : List Rule) (k : ℕ) (r : Rule) → k < length rs → r ≡ get_or rs k r → ((t : Tree) → ByRule g ts b s i j r t → ⊥)
      → (t : Tree) → AnyByRule g ts b s i j (drop k rs) t → AnyByRule g ts b s i j (drop (k + 1) rs) t
  rule_on rs k r l e none t h =
      let q : drop k rs ≡ r ∷ drop (k + 1) rs = drop_more rs k r l ∙ ap (λ x. x ∷ drop (k + 1) rs) (sym e) in
      let P : List Rule → Type 0 = λ x. AnyByRule g ts b s i j x t in
      go (subst P q h)
    where
      go : AnyByRule g ts b s i j (r ∷ drop (k + 1) rs) t → AnyByRule g ts b s i j (drop (k + 1) rs) t
      go (inl x) = absurd (none t x)
      go (inr x) = x

  pub rules_passed : (rs : List Rule) (k : ℕ) → length rs ≤ k → (t : Tree) → AnyByRule g ts b s i j (drop k rs) t → ⊥
  rules_passed rs k l t h = let P : List Rule → Type 0 = λ x. AnyByRule g ts b s i j x t in subst P (drop_all k rs l) h
