-- A term has outside parentheses no token of a level that is not below its bound.
use Rattle.std.proofs.Common.{◌≡◌, ◌⊎◌, ◌<◌, ◌≤◌, ◌+◌, ℕ, List, [], ◌∷◌, get_or, Some, inl, inr, sym, ◌∙◌, ap, subst, arith}
use Rattle.std.specs.List.{slice_get}
use Rattle.std.proofs.lemmas.Bool.{cases_eq, cases_lt}
use Rattle.std.proofs.lemmas.Option.{slice_get_within}
use Rattle.circ_term.specs.Tree.{Tree, Trees, none, more}
use Rattle.circ_spelling.specs.declared.grammar.Symbol.{Symbol}
use Rattle.circ_spelling.specs.declared.grammar.Symbol.TheVariants.{Word, Hole}
use Rattle.circ_spelling.specs.declared.grammar.Rule.{Rule}
use Rattle.circ_spelling.specs.declared.grammar.Variable.{Variable}
use Rattle.circ_spelling.specs.declared.grammar.Grammar.{Grammar}
use Rattle.circ_spelling.specs.Limits.{opening}
use Rattle.circ_spelling.specs.Words.{HaveWords}
use Rattle.circ_spelling.specs.Reads.{IsToken, Reads, Row, by_parentheses, by_variable, by_operator, row_end, row_word, row_hole}
use Rattle.circ_spelling.proofs.Sizes.{reads_forward}
use Rattle.circ_chart.specs.declared.levels.Levels.{Levels}
use Rattle.circ_chart.specs.Levels.{IsAtMost, AreAtMost, RulesAtMost, VariablesAtMost, AreLevels, IsAbove}

-- no parenthesis is opened from i up to m, m included
abbrev IsOpen : List ℕ → ℕ → ℕ → Type 0
IsOpen ts i m = (k : ℕ) → i ≤ k → k ≤ m → IsToken ts k opening → ⊥

either : (P Q R : Type 0) → (P ⊎ Q) → (P → R) → (Q → R) → R
either P Q R (inl x) f h = f x
either P Q R (inr x) f h = h x

at_most : (x b p : ℕ) → x < b → b ≤ p + 1 → x ≤ p
at_most x b p l k = omega arith

mutual
  level_reads : (g : Grammar) (ts : List ℕ) (l : Levels) (b s i j : ℕ) (t : Tree) → Reads g ts b s i j t → AreLevels g ts l → HaveWords g → b ≤ l.bound
      → (m : ℕ) → i ≤ m → m < j → IsOpen ts i m → get_or l.tokens.items m 0 < b
  level_reads g ts l b s i j t (by_parentheses n lo o r k e) h w c m low high clear = absurd (clear i (omega arith) low o)
  level_reads g ts l b s i j t (by_variable n v lo at k e f z) h w c m low high clear =
      let d : i ≡ m = omega arith in
      let q = h.variables (omega arith) n v (slice_get_within g.variables.items n v at) at in
      let P : ℕ → Type 0 = λ x. IsToken ts x v.word in
      let x = q m (subst P d k) in
      omega arith
  level_reads g ts l b s i j t (by_operator n r args at p e row z) h w c m low high clear =
      let q = h.rules n r (slice_get_within g.rules.items n r at) at (omega arith) in
      let x = level_row g ts l r.prec r.symbols.items i j args row h w (omega arith) q m low high clear in
      omega arith

  level_row : (g : Grammar) (ts : List ℕ) (l : Levels) (p : ℕ) (ps : List Symbol) (i j : ℕ) (args : Trees) → Row g ts ps i j args → AreLevels g ts l → HaveWords g → p < l.bound
      → AreAtMost ts l.tokens.items p ps → (m : ℕ) → i ≤ m → m < j → IsOpen ts i m → get_or l.tokens.items m 0 ≤ p
  level_row g ts l p [] i j none (row_end e) h w c a m low high clear = absurd (omega arith)
  level_row g ts l p (Word x ∷ ps) i j args (row_word t r) h w c a m low high clear =
      let P : ℕ → Type 0 = λ y. IsToken ts y x in
      either (i ≡ m) (i ≡ m → ⊥) (get_or l.tokens.items m 0 ≤ p) (cases_eq i m) (λ d. a.0 m (subst P d t))
      (λ d. level_row g ts l p ps (i + 1) j args r h w c a.1 m (omega arith) high (λ k u v. clear k (omega arith) v))
  level_row g ts l p (Hole s b ∷ ps) i j (more t args) (row_hole n d r) h w c a m low high clear =
      let a0 = a.0 in
      let f : i < n = reads_forward g ts b s i n t d w in
      either (m < n) (n ≤ m) (get_or l.tokens.items m 0 ≤ p) (cases_lt m n)
      (λ u. at_most (get_or l.tokens.items m 0) b p (level_reads g ts l b s i n t d h w (omega arith) m low u clear) a0)
      (λ u. level_row g ts l p ps n j args r h w c a.1 m u high (λ k y v. clear k (omega arith) v))

-- so such a token shows that there is no term
pub nothing_below : (g : Grammar) (ts : List ℕ) (l : Levels) (b s i j : ℕ) (t : Tree) → HaveWords g → AreLevels g ts l → IsAbove l b i j → Reads g ts b s i j t → ⊥
nothing_below g ts l b s i j t w h a r =
    let o = a.clear in
    let v = a.above in
    let lo = a.low in
    let x = level_reads g ts l b s i j t r h w a.bounded a.place a.low a.high (λ k y z q. h.opened i k y (omega arith) q) in
    absurd (omega arith)

-- a rule more, a variable more
pub rules_on : (ts ls : List ℕ) (rs : List Rule) (k bound new : ℕ) (q : Rule) → slice_get rs k ≡ Some q → new ≤ bound → RulesAtMost ts ls rs k bound
    → (q.prec < new → AreAtMost ts ls q.prec q.symbols.items) → RulesAtMost ts ls rs (k + 1) new
rules_on ts ls rs k bound new q at le h here n r l e p = go (cases_eq n k)
  where
    go : ((n ≡ k) ⊎ (n ≡ k → ⊥)) → AreAtMost ts ls r.prec r.symbols.items
    go (inl i) =
        let z : Some q ≡ Some r = sym at ∙ ap (slice_get rs) (sym i) ∙ e in
        let f : q ≡ r = cc z in
        let P : Rule → Type 0 = λ v. v.prec < new → AreAtMost ts ls v.prec v.symbols.items in
        subst P f here p
    go (inr i) = h n r (omega arith) e (omega arith)

pub variables_on : (ts ls : List ℕ) (vs : List Variable) (k : ℕ) (q : Variable) → slice_get vs k ≡ Some q → VariablesAtMost ts ls vs k → IsAtMost ts ls q.word 0
    → VariablesAtMost ts ls vs (k + 1)
variables_on ts ls vs k q at h here n v l e = go (cases_eq n k)
  where
    go : ((n ≡ k) ⊎ (n ≡ k → ⊥)) → IsAtMost ts ls v.word 0
    go (inl i) =
        let z : Some q ≡ Some v = sym at ∙ ap (slice_get vs) (sym i) ∙ e in
        let f : q ≡ v = cc z in
        let P : Variable → Type 0 = λ x. IsAtMost ts ls x.word 0 in
        subst P f here
    go (inr i) = h n v (omega arith) e

-- a place more
pub token_on : (ts ls : List ℕ) (w p k : ℕ) → ((m : ℕ) → m < k → IsToken ts m w → get_or ls m 0 ≤ p) → (IsToken ts k w → get_or ls k 0 ≤ p)
    → (m : ℕ) → m < k + 1 → IsToken ts m w → get_or ls m 0 ≤ p
token_on ts ls w p k h here m l t = go (cases_eq m k)
  where
    go : ((m ≡ k) ⊎ (m ≡ k → ⊥)) → get_or ls m 0 ≤ p
    go (inl e) =
        let P : ℕ → Type 0 = λ x. IsToken ts x w → get_or ls x 0 ≤ p in
        subst P (sym e) here t
    go (inr e) = h m (omega arith) t
