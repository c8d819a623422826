-- The rules and the lemmas of a block are rules of the theory and of its hypotheses.
use Rattle.std.proofs.Common.{◌≡◌, ℕ, zero, suc, ◌+◌, Bool, true, false, if◌then◌else◌, List, [], ◌∷◌, Some, refl, ap, ◌∙◌, arith}
use Rattle.std.specs.Prelude.{not, is_some}
use Rattle.std.specs.List.{slice_get, AllByRecursion}
use Rattle.std.proofs.lemmas.Bool.{and_parts}
use Rattle.circ_term.specs.Tree.{sort_of, operator_number}
use Rattle.circ_theory.specs.Theory.{Theory, IsVisible, HasNoConditions}
use Rattle.circ_theory.specs.Rule.{is_bound}
use Rattle.circ_theory.specs.WellFormed.{IsWellFormed}
use Rattle.circ_theory.specs.Observing.{is_hidden}
use Rattle.circ_theory.specs.Goal.{Goal}
use Rattle.circ_theory.proofs.Casing.{hidden_tells}
use Rattle.circ_theory.proofs.Rewriting.{contains_at}
use Rattle.circ_proof.specs.Goals.{AreSortedGoals}
use Rattle.circ_rewrite.specs.TheoryRules.{theory_rules}
use Rattle.circ_rewrite.specs.Due.{IsRewriteRule, AreUnconditional}
use Rattle.circ_rewrite.specs.Links.{IsRuleOf}
use Rattle.circ_rewrite.specs.declared.parts.Rule.{Rule}
use Rattle.circ_rewrite.proofs.RuleLists.{rules_are, theory_unconditional}
use Rattle.circ_plain_search.specs.BlockRules.{HaveNoConditions, can_rewrite, lemma_rule, passing, is_visible_lemma, is_hidden_lemma, lemma_rules, hidden_lemmas, block_rules}
use Rattle.circ_plain_search.proofs.Led.{all_append}

-- the hypotheses begin with these goals
abbrev pub BeginsWith : (hypotheses goals : List Goal) → Type 0
BeginsWith H E = (n : ℕ) (g : Goal) → slice_get E n ≡ Some g → slice_get H n ≡ Some g

-- and stand there from a number on
abbrev StandsFrom : (hypotheses : List Goal) (n : ℕ) (goals : List Goal) → Type 0
StandsFrom H n gs = (k : ℕ) (g : Goal) → slice_get gs k ≡ Some g → slice_get H (k + n) ≡ Some g

stands_here : (H : List Goal) (n : ℕ) (g : Goal) (gs : List Goal) → StandsFrom H n (g ∷ gs) → slice_get H n ≡ Some g
stands_here H n g gs f = ap (slice_get H) (let e : n ≡ zero + n = omega arith in e) ∙ f zero g refl

stands_next : (H : List Goal) (n : ℕ) (g : Goal) (gs : List Goal) → StandsFrom H n (g ∷ gs) → StandsFrom H (n + 1) gs
stands_next H n g gs f k h e = ap (slice_get H) (let m : k + (n + 1) ≡ suc k + n = omega arith in m) ∙ f (suc k) h e

stands_all : (H E : List Goal) → BeginsWith H E → StandsFrom H 0 E
stands_all H E b k g e = ap (slice_get H) (let m : k + 0 ≡ k = omega arith in m) ∙ b k g e

-- what holds of each goal that passes the test, with its number, holds of the rules
each_passing : (P : Rule → Type 0) (test : Goal → Bool) (H : List Goal)
    → ((n : ℕ) (g : Goal) → slice_get H n ≡ Some g → test g ≡ true → P (lemma_rule n g))
    → (n : ℕ) (gs : List Goal) → StandsFrom H n gs → AllByRecursion P (passing test n gs)
each_passing P test H f n [] s = tt
each_passing P test H f n (g ∷ gs) s = go (test g) refl (each_passing P test H f (n + 1) gs (stands_next H n g gs s))
  where
    go : (b : Bool) → test g ≡ b → AllByRecursion P (passing test (n + 1) gs)
        → AllByRecursion P (if b then lemma_rule n g ∷ passing test (n + 1) gs else passing test (n + 1) gs)
    go true e r = (f n g (stands_here H n g gs s) e, r)
    go false e r = r

can_is : (n : ℕ) (g : Goal) → can_rewrite g ≡ true → IsRewriteRule (lemma_rule n g)
can_is n g e = let p = and_parts (is_some (operator_number g.left)) (is_bound g) e in record { application = p.0; bound = p.1 }

visible_is : (th : Theory) (s : ℕ) → not (is_hidden th s) ≡ true → IsVisible th s
visible_is th s e h = let t = (hidden_tells th s).1 h in absurd (let z = rw t at e in cc)

pub block_rules_are : (th : Theory) → IsWellFormed th → (H E : List Goal) → AreSortedGoals th H → BeginsWith H E
    → AllByRecursion (IsRuleOf th H) (block_rules th E)
block_rules_are th wf H E sorted begins =
    all_append (IsRuleOf th H) (theory_rules th) (lemma_rules th 0 E) (rules_are th wf H)
    (each_passing (IsRuleOf th H) (is_visible_lemma th) H
    (λ n g there e.
    let p = and_parts (can_rewrite g) (not (is_hidden th (sort_of g.left))) e in
    record {
      rewrites = can_is n g p.0;
      sorted = sorted g (contains_at H n g there);
      named = (there, visible_is th (sort_of g.left) p.1);
    })
    0 E (stands_all H E begins))

each_unconditional : (test : Goal → Bool) (n : ℕ) (gs : List Goal) → HaveNoConditions gs → AreUnconditional (passing test n gs)
each_unconditional test n [] a = tt
each_unconditional test n (g ∷ gs) a = go (test g) (each_unconditional test (n + 1) gs a.1)
  where
    go : (b : Bool) → AreUnconditional (passing test (n + 1) gs)
        → AreUnconditional (if b then lemma_rule n g ∷ passing test (n + 1) gs else passing test (n + 1) gs)
    go true r = (a.0, r)
    go false r = r

-- without conditions no rule has any
pub block_unconditional : (th : Theory) → HasNoConditions th → (E : List Goal) → HaveNoConditions E → AreUnconditional (block_rules th E)
block_unconditional th none E bare =
    all_append (λ r. r.conds ≡ []) (theory_rules th) (lemma_rules th 0 E) (theory_unconditional th none)
    (each_unconditional (is_visible_lemma th) 0 E bare)

-- A hidden lemma is a rewrite rule, and the hypothesis of its number.
pub record IsLemma (H : List Goal) (r : Rule) : Type 0 where
  pub number : ℕ
  pub hypothesis : Goal
  pub listed : slice_get H number ≡ Some hypothesis
  pub is : r ≡ lemma_rule number hypothesis
  pub rewrites : IsRewriteRule r

pub hidden_lemmas_are : (th : Theory) (H E : List Goal) → BeginsWith H E → AllByRecursion (IsLemma H) (hidden_lemmas th 0 E)
hidden_lemmas_are th H E begins =
    each_passing (IsLemma H) (is_hidden_lemma th) H
    (λ n g there e. record {
      number = n;
      hypothesis = g;
      listed = there;
      is = refl;
      rewrites = can_is n g (and_parts (can_rewrite g) (is_hidden th (sort_of g.left)) e).0;
    })
    0 E (stands_all H E begins)
