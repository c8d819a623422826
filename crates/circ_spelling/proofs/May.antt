-- What ranges may spell, where precedences are left aside.
use Rattle.std.proofs.Common.{◌≡◌, ◌⊎◌, ◌↔◌, Bool, true, false, ◌<◌, ◌≤◌, ◌+◌, ℕ, List, [], ◌∷◌, length, get_or, drop, Some, inl, inr, sym, ◌∙◌, ap, subst, arith}
use Rattle.std.specs.List.{slice_get}
use Rattle.std.proofs.lemmas.Bool.{cases_eq, cases_lt}
use Rattle.std.proofs.lemmas.List.{drop_all, drop_more}
use Rattle.std.proofs.lemmas.Option.{slice_get_within}
use Rattle.circ_term.specs.Tree.{Tree, Trees, none, more}
use Rattle.circ_spelling.specs.declared.grammar.Symbol.{Symbol}
use Rattle.circ_spelling.specs.declared.grammar.Symbol.TheVariants.{Word, Hole}
use Rattle.circ_spelling.specs.declared.grammar.Rule.{Rule}
use Rattle.circ_spelling.specs.declared.grammar.Variable.{Variable}
use Rattle.circ_spelling.specs.declared.grammar.Grammar.{Grammar}
use Rattle.circ_spelling.specs.declared.ends.Ends.{Ends}
use Rattle.circ_spelling.specs.declared.starts.Starts.{Starts}
use Rattle.circ_spelling.specs.Words.{words, HaveWords}
use Rattle.circ_spelling.specs.Reads.{CanBegin, IsToken, Reads, Row, by_parentheses, by_variable, by_operator, row_end, row_word, row_hole}
use Rattle.circ_spelling.specs.Ends.{Has, Keeps, every_place, ends_at}
use Rattle.circ_spelling.specs.May.{MayRow, RuleClosed, RulesClosed, VariablesClosed, PairClosed, IsClosed}
use Rattle.circ_spelling.proofs.Bits.{every_has}
use Rattle.circ_spelling.proofs.Sizes.{reads_size}

-- what a rule spells is in the sets
rule_has : (ts : List ℕ) (st : List Starts) (s : ℕ) (ps : List Symbol) (i j : ℕ) → ((m : ℕ) → m ≤ length ts → RuleClosed ts st s ps m) → i ≤ length ts → 0 < words ps → MayRow ts st ps i j → Has (ends_at st s i) j
rule_has ts st s [] i j c l w h = absurd (omega arith)
rule_has ts st s (Word x ∷ ps) i j c l w h = c i l j h
rule_has ts st s (Hole a b ∷ ps) i j c l w h = c h.0 h.2 i j h.1 h.3 h.4

-- sets that are closed leave out nothing
mutual
  pub may_reads : (g : Grammar) (ts : List ℕ) (st : List Starts) (b s i j : ℕ) (t : Tree) → Reads g ts b s i j t → IsClosed g ts st → HaveWords g → Has (ends_at st s i) j
  may_reads g ts st b s i j t (by_parentheses m lo o r k e) c w =
      let h = may_reads g ts st _ s (i + 1) m t r c w in
      let l = o.inside in
      subst (Has (ends_at st s i)) (sym e) ((c i (omega arith)).parentheses m o k s h)
  may_reads g ts st b s i j t (by_variable n v lo at k e f z) c w =
      let l = k.inside in
      let h = (c i (omega arith)).variables n v (slice_get_within g.variables.items n v at) at k in
      let P : ℕ → Type 0 = λ x. Has (ends_at st x i) (i + 1) in
      subst (Has (ends_at st s i)) (sym e) (subst P (sym f) h)
  may_reads g ts st b s i j t (by_operator n r args at p e row z) c w =
      let a = reads_size g ts b s i j t (by_operator n r args at p e row z) w in
      let a0 = a.0 in
      let a1 = a.1 in
      let P : ℕ → Type 0 = λ x. Has (ends_at st x i) j in
      subst P (sym e) (rule_has ts st r.sort r.symbols.items i j (λ m l. (c m l).rules n r (slice_get_within g.rules.items n r at) at) (omega arith) (w n r at)
      (may_row g ts st r.symbols.items i j args row c w))

  pub may_row : (g : Grammar) (ts : List ℕ) (st : List Starts) (ps : List Symbol) (i j : ℕ) (args : Trees) → Row g ts ps i j args → IsClosed g ts st → HaveWords g → MayRow ts st ps i j
  may_row g ts st [] i j none (row_end e) c w = e
  may_row g ts st (Word x ∷ ps) i j args (row_word t r) c w = (t, may_row g ts st ps (i + 1) j args r c w)
  may_row g ts st (Hole s b ∷ ps) i j (more t args) (row_hole m d r) c w =
      let a = reads_size g ts b s i m t d w in
      let a0 = a.0 in
      let a1 = a.1 in
      let a2 = a.2 in
      (m, omega arith, a1, may_reads g ts st b s i m t d c w, may_row g ts st ps m j args r c w)

-- no sets
rule_every : (ts : List ℕ) (s : ℕ) (ps : List Symbol) (m : ℕ) → RuleClosed ts [] s ps m
rule_every ts s [] m = tt
rule_every ts s (Word w ∷ ps) m = λ j h. every_has j
rule_every ts s (Hole a b ∷ ps) m = λ i j l k h. every_has j

pub closed_none : (g : Grammar) (ts : List ℕ) (st : List Starts) → st ≡ [] → IsClosed g ts st
closed_none g ts st e = subst (IsClosed g ts) (sym e) (λ i l. record {
  variables = λ k v m at t. every_has (i + 1);
  parentheses = λ m o k s h. every_has (m + 1);
  rules = λ k r m at. rule_every ts r.sort r.symbols.items i;
})

-- symbols that begin with a word
pub begins : (ts : List ℕ) (st : List Starts) (ps : List Symbol) (m j : ℕ) → MayRow ts st ps m j → CanBegin ts ps m
begins ts st [] m j h = tt
begins ts st (Word w ∷ ps) m j h = h.0
begins ts st (Hole s b ∷ ps) m j h = tt

pub word_closed : (ts : List ℕ) (st : List Starts) (s w : ℕ) (ps qs : List Symbol) (m : ℕ) → ps ≡ Word w ∷ qs → ((j : ℕ) → MayRow ts st ps m j → Has (ends_at st s m) j) → RuleClosed ts st s ps m
word_closed ts st s w ps qs m e h =
    let P : List Symbol → Type 0 = λ x. (j : ℕ) → MayRow ts st x m j → Has (ends_at st s m) j in
    let Q : List Symbol → Type 0 = λ x. RuleClosed ts st s x m in
    subst Q (sym e) (subst P e h)

pub hole_closed : (ts : List ℕ) (st : List Starts) (s a b : ℕ) (ps qs : List Symbol) (m : ℕ) → ps ≡ Hole a b ∷ qs
    → ((i j : ℕ) → i < m → Has (ends_at st a i) m → MayRow ts st (drop 1 ps) m j → Has (ends_at st s i) j) → RuleClosed ts st s ps m
hole_closed ts st s a b ps qs m e h =
    let P : List Symbol → Type 0 = λ x. (i j : ℕ) → i < m → Has (ends_at st a i) m → MayRow ts st (drop 1 x) m j → Has (ends_at st s i) j in
    let Q : List Symbol → Type 0 = λ x. RuleClosed ts st s x m in
    subst Q (sym e) (subst P e h)

pub empty_closed : (ts : List ℕ) (st : List Starts) (s : ℕ) (ps : List Symbol) (m : ℕ) → ps ≡ [] → RuleClosed ts st s ps m
empty_closed ts st s ps m e = let Q : List Symbol → Type 0 = λ x. RuleClosed ts st s x m in subst Q (sym e) tt

-- a rule more, a variable more
pub rules_more : (ts : List ℕ) (st : List Starts) (rs : List Rule) (k m : ℕ) (q : Rule) → slice_get rs k ≡ Some q → RulesClosed ts st rs k m → RuleClosed ts st q.sort q.symbols.items m → RulesClosed ts st rs (k + 1) m
rules_more ts st rs k m q at h here n r l e = go (cases_eq n k)
  where
    go : ((n ≡ k) ⊎ (n ≡ k → ⊥)) → RuleClosed ts st r.sort r.symbols.items m
    go (inl i) =
        let z : Some q ≡ Some r = sym at ∙ ap (slice_get rs) (sym i) ∙ e in
        let P : Rule → Type 0 = λ v. RuleClosed ts st v.sort v.symbols.items m in
        let f : q ≡ r = cc z in subst P f here
    go (inr i) = h n r (omega arith) e

pub variables_more : (ts : List ℕ) (st : List Starts) (vs : List Variable) (k i : ℕ) (q : Variable) → slice_get vs k ≡ Some q → VariablesClosed ts st vs k i
    → (IsToken ts i q.word → Has (ends_at st q.sort i) (i + 1)) → VariablesClosed ts st vs (k + 1) i
variables_more ts st vs k i q at h here n v l e = go (cases_eq n k)
  where
    go : ((n ≡ k) ⊎ (n ≡ k → ⊥)) → IsToken ts i v.word → Has (ends_at st v.sort i) (i + 1)
    go (inl d) =
        let z : Some q ≡ Some v = sym at ∙ ap (slice_get vs) (sym d) ∙ e in
        let P : Variable → Type 0 = λ x. IsToken ts i x.word → Has (ends_at st x.sort i) (i + 1) in
        let f : q ≡ v = cc z in subst P f here
    go (inr d) = h n v (omega arith) e

-- one number more
pub below_more : (P : ℕ → Type 0) (k : ℕ) → ((m : ℕ) → m < k → P m) → P k → (m : ℕ) → m < k + 1 → P m
below_more P k h here m l = go (cases_eq m k)
  where
    go : ((m ≡ k) ⊎ (m ≡ k → ⊥)) → P m
    go (inl e) = subst P (sym e) here
    go (inr e) = h m (omega arith)

-- the symbols from one on lead from a place that is reached to the end
pub record Leads (ts : List ℕ) (st : List Starts) (ps : List Symbol) (i j : ℕ) (at : Ends) : Type 0 where
  pub place : ℕ
  pub low : i ≤ place
  pub has : Has at place
  pub rest : MayRow ts st ps place j

-- a place more
pub word_past : (ts : List ℕ) (w low k : ℕ) (at out new : Ends) → ((m : ℕ) → low ≤ m → m < k → Has at m → IsToken ts m w → Has out (m + 1)) → Keeps out new
    → (Has at k → get_or ts k 0 ≡ w → Has new (k + 1)) → (m : ℕ) → low ≤ m → m < k + 1 → Has at m → IsToken ts m w → Has new (m + 1)
word_past ts w low k at out new h stay here m a b x t = go (cases_eq m k)
  where
    go : ((m ≡ k) ⊎ (m ≡ k → ⊥)) → Has new (m + 1)
    go (inl e) =
        let P : ℕ → Type 0 = λ y. get_or ts y 0 ≡ w in
        let Q : ℕ → Type 0 = λ y. Has new (y + 1) in
        subst Q (sym e) (here (subst (Has at) e x) (subst P e t.is))
    go (inr e) = stay (m + 1) (h m a (omega arith) x t)

pub hole_past : (st : List Starts) (s low k : ℕ) (at out new : Ends) → ((m : ℕ) → low ≤ m → m < k → Has at m → Keeps (ends_at st s m) out) → Keeps out new
    → (Has at k → Keeps (ends_at st s k) new) → (m : ℕ) → low ≤ m → m < k + 1 → Has at m → Keeps (ends_at st s m) new
hole_past st s low k at out new h stay here m a b x = go (cases_eq m k)
  where
    go : ((m ≡ k) ⊎ (m ≡ k → ⊥)) → Keeps (ends_at st s m) new
    go (inl e) = let Q : ℕ → Type 0 = λ y. Keeps (ends_at st s y) new in subst Q (sym e) (here (subst (Has at) e x))
    go (inr e) = λ j y. stay j (h m a (omega arith) x j y)

-- a symbol more
pub leads_on : (ts : List ℕ) (st : List Starts) (ps : List Symbol) (k : ℕ) (d : Symbol) (low j : ℕ) (at new : Ends) → k < length ps
    → ((qs : List Symbol) (m i : ℕ) → low ≤ m → Has at m → MayRow ts st (get_or ps k d ∷ qs) m i → (n : ℕ) × (low ≤ n) × Has new n × MayRow ts st qs n i)
    → Leads ts st (drop k ps) low j at → Leads ts st (drop (k + 1) ps) low j new
leads_on ts st ps k d low j at new l on h =
    let P : List Symbol → Type 0 = λ x. MayRow ts st x h.place j in
    let n = on (drop (k + 1) ps) h.place j h.low h.has (subst P (drop_more ps k d l) h.rest) in
    record { place = n.0; low = n.1; has = n.2; rest = n.3 }

pub leads_end : (ts : List ℕ) (st : List Starts) (ps : List Symbol) (k low j : ℕ) (at : Ends) → length ps ≤ k → Leads ts st (drop k ps) low j at → Has at j
leads_end ts st ps k low j at l h =
    let P : List Symbol → Type 0 = λ x. MayRow ts st x h.place j in
    let e : h.place ≡ j = subst P (drop_all k ps l) h.rest in
    subst (Has at) e h.has

-- what a test of a set says
pub tested : (e at : Ends) (m : ℕ) (b : Bool) → e ≡ at → (b ≡ true) ↔ Has e m → b ≡ true → Has at m
tested e at m b q t h = let P : Ends → Type 0 = λ x. Has x m in subst P q (t.0 h)

pub not_tested : (e at : Ends) (m : ℕ) (b : Bool) → e ≡ at → (b ≡ true) ↔ Has e m → b ≡ false → Has at m → ⊥
not_tested e at m b q t h x = let P : Ends → Type 0 = λ y. Has y m in let z = t.1 (subst P (sym q) x) in absurd (let w = sym z ∙ h in cc)

-- beyond the lists, everything is in the sets
pub pair_end : (st : List Starts) (i m k n : ℕ) → ((s : ℕ) → s < k → Has (ends_at st s (i + 1)) m → Has (ends_at st s i) (m + 1)) → n ≤ k → ((s : ℕ) → n ≤ s → ends_at st s i ≡ every_place) → PairClosed st i m
pair_end st i m k n h l w s x = go (cases_lt s k)
  where
    go : ((s < k) ⊎ (k ≤ s)) → Has (ends_at st s i) (m + 1)
    go (inl a) = h s a x
    go (inr a) = let P : Ends → Type 0 = λ e. Has e (m + 1) in subst P (sym (w s (omega arith))) (every_has (m + 1))
