-- The goals of earlier blocks as rules, one by one.
use Rattle.std.proofs.Common.{◌≡◌, ℕ, ◌+◌, ◌≤◌, ◌<◌, ◌^◌, Bool, true, false, if◌then◌else◌, List, [], ◌∷◌, ◌++◌, length, refl, ap, sym, subst, ◌∙◌, arith, append_assoc, length-append}
use Rattle.std.proofs.lemmas.Bool.{and_parts}
use Rattle.std.proofs.lemmas.List.{append-nil}
use Rattle.circ_term.specs.Tree.{sort_of}
use Rattle.circ_theory.specs.Theory.{Theory, Pair}
use Rattle.circ_theory.specs.Observing.{is_hidden}
use Rattle.circ_theory.specs.WellFormed.{IsWellFormed}
use Rattle.circ_theory.specs.Rule.{is_rule}
use Rattle.circ_theory.specs.Goal.{Equation}
use Rattle.circ_theory.specs.Goal.{Goal}
use Rattle.circ_rewrite.specs.Due.{IsRewriteRule}
use Rattle.circ_rewrite.specs.TheoryRules.{theory_rules, rules_from, rule_of}
use Rattle.circ_rewrite.specs.declared.parts.Rule.{Rule}
use Rattle.circ_memo.specs.Value.{Rewriting}
use Rattle.circ_plain_search.specs.BlockRules.{can_rewrite, lemma_rule, passing, is_visible_lemma, is_hidden_lemma, lemma_rules, hidden_lemmas, block_rules}
use Rattle.circ_block.specs.Rules.{IsRulesOf, HaveRoom, rewriting_with, with_rule}
use Rattle.circ_block.specs.declared.block.BlockRules.{BlockRules}

-- one goal more
passing_more : (test : Goal → Bool) (n : ℕ) (gs : List Goal) (g : Goal) → passing test n (gs ++ g ∷ []) ≡ passing test n gs ++ passing test (n + length gs) (g ∷ [])
passing_more test n [] g = let z : n ≡ n + 0 = omega arith in ap (λ m. passing test m (g ∷ [])) z
passing_more test n (h ∷ gs) g = go (test h) (passing_more test (n + 1) gs g)
  where
    next : n + 1 + length gs ≡ n + length (h ∷ gs)
    next = omega arith

    go : (b : Bool) → passing test (n + 1) (gs ++ g ∷ []) ≡ passing test (n + 1) gs ++ passing test (n + 1 + length gs) (g ∷ [])
        → (if b then lemma_rule n h ∷ passing test (n + 1) (gs ++ g ∷ []) else passing test (n + 1) (gs ++ g ∷ []))
        ≡ (if b then lemma_rule n h ∷ passing test (n + 1) gs else passing test (n + 1) gs) ++ passing test (n + length (h ∷ gs)) (g ∷ [])
    go true ih = ap (λ rs. lemma_rule n h ∷ rs) (ih ∙ ap (λ m. passing test (n + 1) gs ++ passing test m (g ∷ [])) next)
    go false ih = ih ∙ ap (λ m. passing test (n + 1) gs ++ passing test m (g ∷ [])) next

passing_taken : (test : Goal → Bool) (gs : List Goal) (g : Goal) → test g ≡ true → passing test 0 (gs ++ g ∷ []) ≡ passing test 0 gs ++ lemma_rule (length gs) g ∷ []
passing_taken test gs g e =
    let z : 0 + length gs ≡ length gs = omega arith in
    let one : passing test (0 + length gs) (g ∷ []) ≡ lemma_rule (length gs) g ∷ [] = rw e (ap (λ k. lemma_rule k g ∷ []) z) in
    passing_more test 0 gs g ∙ ap (λ rs. passing test 0 gs ++ rs) one

passing_left : (test : Goal → Bool) (gs : List Goal) (g : Goal) → test g ≡ false → passing test 0 (gs ++ g ∷ []) ≡ passing test 0 gs
passing_left test gs g e =
    let none : passing test (0 + length gs) (g ∷ []) ≡ [] = rw e refl in passing_more test 0 gs g ∙ ap (λ rs. passing test 0 gs ++ rs) none ∙ append-nil (passing test 0 gs)

pub rewrites : (g : Goal) (n : ℕ) → can_rewrite g ≡ true → IsRewriteRule (lemma_rule n g)
rewrites g n e = let p = and_parts _ _ e in record { application = p.0; bound = p.1 }

passing_few : (test : Goal → Bool) (n : ℕ) (gs : List Goal) → length (passing test n gs) ≤ length gs
passing_few test n [] = omega arith
passing_few test n (g ∷ gs) = go (test g) (passing_few test (n + 1) gs)
  where
    go : (b : Bool) → length (passing test (n + 1) gs) ≤ length gs
        → length (if b then lemma_rule n g ∷ passing test (n + 1) gs else passing test (n + 1) gs) ≤ length (g ∷ gs)
    go true ih = omega (arith, ih)
    go false ih = omega (arith, ih)

rules_fewer : (n : ℕ) (es : List Equation) → length (rules_from n es) ≤ length es
rules_fewer n [] = omega arith
rules_fewer n (e ∷ es) = go (is_rule e) (rules_fewer (n + 1) es)
  where
    go : (b : Bool) → length (rules_from (n + 1) es) ≤ length es → length (if b then rule_of n e ∷ rules_from (n + 1) es else rules_from (n + 1) es) ≤ length (e ∷ es)
    go true ih = omega (arith, ih)
    go false ih = omega (arith, ih)

pub block_few : (th : Theory) → IsWellFormed th → (E : List Goal) → length E ≤ 100000 → length (block_rules th E) + 1 < 2 ^ 32
block_few th ok E few =
    omega (arith, length-append (theory_rules th) (lemma_rules th 0 E), rules_fewer 0 th.equations, ok.few_equations, passing_few (is_visible_lemma th) 0 E, few)

pub lemmas_few : (th : Theory) (E : List Goal) → length E ≤ 100000 → length (hidden_lemmas th 0 E) + 1 < 2 ^ 32
lemmas_few th E few = omega (arith, passing_few (is_hidden_lemma th) 0 E, few)

-- ---- the rules of a block after one goal more

module _ (th : Theory) (E : List Goal) (g : Goal) (r : BlockRules) (h : IsRulesOf th E r) (n : ℕ) (next : n ≡ r.count + 1) where
  abbrev all : List Goal
  all = E ++ g ∷ []

  abbrev by : List Rule → List Pair → Rewriting
  by R A = record { theory = th; rules = R; assumptions = A }

  counted : n ≡ length all
  counted = omega (arith, next, h.count, length-append E (g ∷ []))

  -- it does not rewrite
  pub put_none : can_rewrite g ≡ false → IsRulesOf th all (record r { count = n })
  put_none e =
      let rules : block_rules th E ≡ block_rules th all = sym (ap (λ rs. theory_rules th ++ rs) (passing_left (is_visible_lemma th) E g (rw e refl))) in
      record {
        goals = h.goals ∙ ap (λ R. by R r.goals.conds) rules;
        aside = h.aside ∙ ap (λ R. by R r.aside.conds) rules;
        theory = h.theory;
        rules = h.rules ∙ rules;
        lemmas = h.lemmas ∙ sym (passing_left (is_hidden_lemma th) E g (rw e refl));
        count = counted;
      }

  -- it is hidden
  pub put_hidden : (L : List Rule) → can_rewrite g ≡ true → is_hidden th (sort_of g.left) ≡ true → L ≡ r.lemmas ++ lemma_rule r.count g ∷ [] → IsRulesOf th all (record r { lemmas = L; count = n })
  put_hidden L e hidden added =
      let rules : block_rules th E ≡ block_rules th all = sym (ap (λ rs. theory_rules th ++ rs) (passing_left (is_visible_lemma th) E g (rw (e, hidden) refl))) in
      record {
        goals = h.goals ∙ ap (λ R. by R r.goals.conds) rules;
        aside = h.aside ∙ ap (λ R. by R r.aside.conds) rules;
        theory = h.theory;
        rules = h.rules ∙ rules;
        lemmas =
            added ∙ ap (λ rs. rs ++ lemma_rule r.count g ∷ []) h.lemmas ∙ ap (λ k. hidden_lemmas th 0 E ++ lemma_rule k g ∷ []) h.count
            ∙ sym (passing_taken (is_hidden_lemma th) E g (rw (e, hidden) refl));
        count = counted;
      }

  -- it is visible
  pub put_visible : (w : BlockRules) → can_rewrite g ≡ true → is_hidden th (sort_of g.left) ≡ false → w ≡ with_rule (lemma_rule r.count g) (record r { count = n })
      → IsRulesOf th all w
  put_visible w e visible is =
      let P : BlockRules → Type 0 = λ b. IsRulesOf th all b in
      subst P (sym is)
      (record {
        goals = ap (rewriting_with (lemma_rule r.count g)) h.goals ∙ ap (λ R. by R []) rules;
        aside = ap (rewriting_with (lemma_rule r.count g)) h.aside ∙ ap (λ R. by R []) rules;
        theory = h.theory;
        rules = ap (λ rs. rs ++ lemma_rule r.count g ∷ []) h.rules ∙ rules;
        lemmas = h.lemmas ∙ sym (passing_left (is_hidden_lemma th) E g (rw (e, visible) refl));
        count = counted;
      })
    where
      rules : block_rules th E ++ lemma_rule r.count g ∷ [] ≡ block_rules th all
      rules =
          ap (λ k. block_rules th E ++ lemma_rule k g ∷ []) h.count ∙ append_assoc (theory_rules th) (lemma_rules th 0 E) (lemma_rule (length E) g ∷ [])
          ∙ ap (λ rs. theory_rules th ++ rs) (sym (passing_taken (is_visible_lemma th) E g (rw (e, visible) refl)))

-- there is room for a rule more, and for a lemma more
pub rules_room : (th : Theory) → IsWellFormed th → (E : List Goal) (r : BlockRules) → IsRulesOf th E r → length E ≤ 100000 → HaveRoom r
rules_room th ok E r h few =
    let some = block_few th ok E few in
    record {
      goals = rw h.goals some;
      aside = rw h.aside some;
      cases = rw h.rules some;
    }

pub lemmas_room : (th : Theory) (E : List Goal) (r : BlockRules) → IsRulesOf th E r → length E ≤ 100000 → length r.lemmas + 1 < 2 ^ 32
lemmas_room th E r h few = rw h.lemmas (lemmas_few th E few)

-- nothing is assumed
pub forgotten : (th : Theory) (E : List Goal) (r w : BlockRules) → IsRulesOf th E r
    → w ≡ record r {
      goals = record { reducer = record r.goals.reducer { assumptions = [] }; conds = [] };
      aside = record { reducer = record r.aside.reducer { assumptions = [] }; conds = [] };
      cases = record r.cases { assumptions = [] };
    }
    → IsRulesOf th E w
forgotten th E r w h is =
    let bare : Rewriting → Rewriting = λ m. record m { assumptions = [] } in
    let P : BlockRules → Type 0 = λ b. IsRulesOf th E b in
    subst P (sym is)
    (record { goals = ap bare h.goals; aside = ap bare h.aside; theory = h.theory; rules = h.rules; lemmas = h.lemmas; count = h.count })
