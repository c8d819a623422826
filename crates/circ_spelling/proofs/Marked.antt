-- The part of a grammar by which lists of some tokens are spelled.
use Rattle.std.proofs.Common.{◌≡◌, ◌⊎◌, ◌<◌, ◌≤◌, ◌+◌, ◌++◌, ℕ, List, [], ◌∷◌, length, get_or, Bool, true, false, ◌||◌, Some, inl, inr, sym, ◌∙◌, ap, subst, refl, zero, suc, ◌-◌, arith}
use Rattle.std.specs.List.{slice_get}
use Rattle.std.proofs.lemmas.Bool.{cases_eq}
use Rattle.std.proofs.lemmas.List.{length-append}
use Rattle.std.proofs.lemmas.Option.{slice_get-get_or, slice_get_within}
use Rattle.circ_term.specs.Tree.{Tree, Trees, none, more}
use Rattle.circ_spelling.specs.declared.grammar.Symbol.{Symbol}
use Rattle.circ_spelling.specs.declared.grammar.Symbol.TheVariants.{Word, Hole}
use Rattle.circ_spelling.specs.declared.grammar.Rule.{Rule}
use Rattle.circ_spelling.specs.declared.grammar.Variable.{Variable}
use Rattle.circ_spelling.specs.declared.grammar.Grammar.{Grammar}
use Rattle.circ_spelling.specs.Generates.{Generates, GeneratesRow, in_parentheses, a_variable, an_operator, no_symbol, a_word, a_hole}
use Rattle.circ_spelling.specs.Words.{words, HaveWords}
use Rattle.circ_spelling.proofs.Pushed.{get_last, get_before}
use Rattle.circ_spelling.specs.Limits.{opening, closing}
use Rattle.circ_spelling.specs.Usable.{AreAmong, HasTokens, IsMarked, AreMarked, StayMarked, VariablesMarked, RulesMarked, Covers, IsSame, AddsRule, KeepsRules, GenerateAlike}

-- each word is a token
words_fit : (g : Grammar) (ps : List Symbol) (all : List ℕ) (args : Trees) → GeneratesRow g ps all args → words ps ≤ length all
words_fit g [] all args h = omega arith
words_fit g (Word w ∷ ps) all args (a_word rest r e) = let k = words_fit g ps rest args r in let l = ap length e in omega arith
words_fit g (Hole s b ∷ ps) all none h = elim h [ ]
words_fit g (Hole s b ∷ ps) all (more t args) (a_hole first rest h r e) =
    let k = words_fit g ps rest args r in let l = ap length e ∙ length-append first rest in omega arith

some_token : (g : Grammar) (b s : ℕ) (ts : List ℕ) (t : Tree) → HaveWords g → Generates g b s ts t → 0 < length ts
some_token g b s ts t worded (in_parentheses inner lo h e) = let l = ap length e in omega arith
some_token g b s ts t worded (a_variable n v lo l e f z) = let k = ap length e in omega arith
some_token g b s ts t worded (an_operator n r args l p f row z) =
    let k = words_fit g r.symbols.items ts args row in let w = worded n r l in omega arith

-- the arguments of a term have fewer tokens, by the words at least
row_marked : (g : Grammar) (n : ℕ) (marks : List Bool) (ps : List Symbol) (all : List ℕ) (args : Trees) → Covers g n marks
    → length all ≤ n + words ps → GeneratesRow g ps all args → AreMarked marks ps
row_marked g n marks [] all args c l h = tt
row_marked g n marks (Word w ∷ ps) all args c l (a_word rest r e) = let k = ap length e in row_marked g n marks ps rest args c (omega arith) r
row_marked g n marks (Hole s b ∷ ps) all none c l h = elim h [ ]
row_marked g n marks (Hole s b ∷ ps) all (more t args) c l (a_hole first rest h r e) =
    let k = ap length e ∙ length-append first rest in
    let w = words_fit g ps rest args r in
    (c b s first t (omega arith) h, row_marked g n marks ps rest args c (omega arith) r)

pub covers_none : (g : Grammar) (marks : List Bool) → HaveWords g → Covers g 0 marks
covers_none g marks worded b s ts t l h = let k = some_token g b s ts t worded h in absurd (omega arith)

-- each turn covers the lists that are longer by one
pub covers_more : (g : Grammar) (n : ℕ) (old new : List Bool) → HaveWords g → VariablesMarked g.variables.items (length g.variables.items) old → Covers g n old
    → RulesMarked g.rules.items (length g.rules.items) old new → StayMarked old new → Covers g (n + 1) new
covers_more g n old new worded variables c rules stay b s ts t l (in_parentheses inner lo h e) =
    let k = ap length e in let a = length-append inner (closing ∷ []) in stay s (c _ s inner t (omega arith) h)
covers_more g n old new worded variables c rules stay b s ts t l (a_variable m v lo at e f z) =
    let P : ℕ → Type 0 = IsMarked new in subst P (sym f) (stay v.sort (variables m v (slice_get_within g.variables.items m v at) at))
covers_more g n old new worded variables c rules stay b s ts t l (an_operator m r args at p f row z) =
    let P : ℕ → Type 0 = IsMarked new in
    let w = worded m r at in
    subst P (sym f) (rules m r (slice_get_within g.rules.items m r at) at (row_marked g n old r.symbols.items ts args c (omega arith) row))

pub variables_stay : (vs : List Variable) (m : ℕ) (old new : List Bool) → StayMarked old new → VariablesMarked vs m old → VariablesMarked vs m new
variables_stay vs m old new stay h n v l at = stay v.sort (h n v l at)

-- a turn that marks nothing is the last
pub covers_still : (g : Grammar) (n : ℕ) (marks : List Bool) → HaveWords g → VariablesMarked g.variables.items (length g.variables.items) marks → Covers g n marks
    → RulesMarked g.rules.items (length g.rules.items) marks marks → (k : ℕ) → Covers g (n + k) marks
covers_still g n marks worded variables c rules zero = let P : ℕ → Type 0 = λ x. Covers g x marks in let e : n ≡ n + 0 = omega arith in subst P e c
covers_still g n marks worded variables c rules (suc k) =
    let P : ℕ → Type 0 = λ x. Covers g x marks in
    let e : (n + k) + 1 ≡ n + suc k = omega arith in
    subst P e (covers_more g (n + k) marks marks worded variables (covers_still g n marks worded variables c rules k) rules (λ s h. h))

pub covers_to : (g : Grammar) (n m : ℕ) (old new : List Bool) → n ≤ m → new ≡ old → HaveWords g → VariablesMarked g.variables.items (length g.variables.items) old → Covers g n old
    → RulesMarked g.rules.items (length g.rules.items) old new → Covers g m new
covers_to g n m old new l same worded variables c rules =
    let P : List Bool → Type 0 = RulesMarked g.rules.items (length g.rules.items) old in
    let Q : ℕ → Type 0 = λ x. Covers g x old in
    let e : n + (m - n) ≡ m = omega arith in
    subst (Covers g m) (sym same) (subst Q e (covers_still g n old worded variables c (subst P same rules) (m - n)))

-- lists that are among those of L with all their parts
pub record IsClosed (L : List ℕ → Type 0) : Type 0 where
  pub tail : (x : ℕ) (a : List ℕ) → L (x ∷ a) → L a
  pub left : (a b : List ℕ) → L (a ++ b) → L a
  pub right : (a b : List ℕ) → L (a ++ b) → L b

-- the rules by which the lists of L are spelled are in P
module _ (L : List ℕ → Type 0) (closed : IsClosed L) (P : Rule → Type 0) (g h : Grammar)
    (used : (m : ℕ) (q : Rule) (ts : List ℕ) (args : Trees) → slice_get g.rules.items m ≡ Some q → L ts → GeneratesRow g q.symbols.items ts args → P q)
    (kept : KeepsRules P g.rules.items (length g.rules.items) h.rules.items) (same : h.variables.items ≡ g.variables.items) where
  mutual
    there : (b s : ℕ) (ts : List ℕ) (t : Tree) → L ts → Generates g b s ts t → Generates h b s ts t
    there b s ts t l (in_parentheses inner lo d e) =
        in_parentheses inner lo (there _ s inner t (closed.left inner (closing ∷ []) (closed.tail opening (inner ++ closing ∷ []) (subst L e l))) d) e
    there b s ts t l (a_variable m v lo at e f z) = a_variable m v lo (ap (λ vs. slice_get vs m) same ∙ at) e f z
    there b s ts t l (an_operator m q args at p f row z) =
        let k = kept.all m q (slice_get_within g.rules.items m q at) at (used m q ts args at l row) in
        let i = k.3 in
        let R : List Symbol → Type 0 = λ ps. GeneratesRow h ps ts args in
        let below : k.1.prec < b = let x = i.prec in omega arith in
        let is = ap (λ o. o) i.op in
        an_operator k.0 k.1 args k.2 below (f ∙ sym i.sort) (subst R (sym i.symbols) (row_there q.symbols.items ts args l row)) (cc)

    row_there : (ps : List Symbol) (ts : List ℕ) (args : Trees) → L ts → GeneratesRow g ps ts args → GeneratesRow h ps ts args
    row_there [] ts args l (no_symbol e) = no_symbol e
    row_there (Word x ∷ ps) ts args l (a_word rest r e) = a_word rest (row_there ps rest args (closed.tail x rest (subst L e l)) r) e
    row_there (Hole s b ∷ ps) ts none l d = elim d [ ]
    row_there (Hole s b ∷ ps) ts (more t args) l (a_hole first rest d r e) =
        a_hole first rest (there b s first t (closed.left first rest (subst L e l)) d) (row_there ps rest args (closed.right first rest (subst L e l)) r) e

  mutual
    back : (b s : ℕ) (ts : List ℕ) (t : Tree) → Generates h b s ts t → Generates g b s ts t
    back b s ts t (in_parentheses inner lo d e) = in_parentheses inner lo (back _ s inner t d) e
    back b s ts t (a_variable m v lo at e f z) = a_variable m v lo (ap (λ vs. slice_get vs m) (sym same) ∙ at) e f z
    back b s ts t (an_operator m r args at p f row z) =
        let k = kept.taken m r at in
        let i = k.3 in
        let R : List Symbol → Type 0 = λ ps. GeneratesRow g ps ts args in
        let below : k.1.prec < b = let x = i.prec in omega arith in
        an_operator k.0 k.1 args k.2 below (f ∙ i.sort) (subst R i.symbols (row_back r.symbols.items ts args row)) (cc)

    row_back : (ps : List Symbol) (ts : List ℕ) (args : Trees) → GeneratesRow h ps ts args → GeneratesRow g ps ts args
    row_back [] ts args (no_symbol e) = no_symbol e
    row_back (Word x ∷ ps) ts args (a_word rest r e) = a_word rest (row_back ps rest args r) e
    row_back (Hole s b ∷ ps) ts none d = elim d [ ]
    row_back (Hole s b ∷ ps) ts (more t args) (a_hole first rest d r e) = a_hole first rest (back b s first t d) (row_back ps rest args r) e

  pub alike : HaveWords g → GenerateAlike L g h
  alike w = record {
    there = there;
    back = back;
    words = λ m r at. let k = kept.taken m r at in let a = w k.0 k.1 k.2 in let R : List Symbol → Type 0 = λ ps. 0 < words ps in subst R (sym k.3.symbols) a;
  }

-- short lists
short_closed : (n : ℕ) → IsClosed (λ ts. length ts ≤ n)
short_closed n = record {
  tail = λ x a l. omega arith;
  left = λ a b l. let k = length-append a b in omega arith;
  right = λ a b l. let k = length-append a b in omega arith;
}

pub spelled_alike : (g h : Grammar) (n : ℕ) (marks : List Bool) → HaveWords g → Covers g n marks
    → KeepsRules (λ r. AreMarked marks r.symbols.items) g.rules.items (length g.rules.items) h.rules.items → h.variables.items ≡ g.variables.items
    → GenerateAlike (λ ts. length ts ≤ n) g h
spelled_alike g h n marks w c kept same = alike (λ ts. length ts ≤ n) (short_closed n) (λ r. AreMarked marks r.symbols.items) g h
    (λ m q ts args at l row. row_marked g n marks q.symbols.items ts args c (omega arith) row) kept same w

-- lists of some tokens
among_left : (us a b : List ℕ) → AreAmong us (a ++ b) → AreAmong us a
among_left us [] b h = tt
among_left us (x ∷ a) b h = (h.0, among_left us a b h.1)

among_right : (us a b : List ℕ) → AreAmong us (a ++ b) → AreAmong us b
among_right us [] b h = h
among_right us (x ∷ a) b h = among_right us a b h.1

among_closed : (us : List ℕ) → IsClosed (AreAmong us)
among_closed us = record { tail = λ x a h. h.1; left = among_left us; right = among_right us }

row_tokens : (g : Grammar) (us : List ℕ) (ps : List Symbol) (all : List ℕ) (args : Trees) → AreAmong us all → GeneratesRow g ps all args → HasTokens us ps
row_tokens g us [] all args h r = tt
row_tokens g us (Word w ∷ ps) all args h (a_word rest r e) = let k = subst (AreAmong us) e h in (k.0, row_tokens g us ps rest args k.1 r)
row_tokens g us (Hole s b ∷ ps) all none h r = elim r [ ]
row_tokens g us (Hole s b ∷ ps) all (more t args) h (a_hole first rest d r e) = row_tokens g us ps rest args (among_right us first rest (subst (AreAmong us) e h)) r

pub worded_alike : (g h : Grammar) (us : List ℕ) → HaveWords g
    → KeepsRules (λ r. HasTokens us r.symbols.items) g.rules.items (length g.rules.items) h.rules.items → h.variables.items ≡ g.variables.items
    → GenerateAlike (AreAmong us) g h
worded_alike g h us w kept same = alike (AreAmong us) (among_closed us) (λ r. HasTokens us r.symbols.items) g h
    (λ m q ts args at l row. row_tokens g us q.symbols.items ts args l row) kept same w

among_more : (us ts : List ℕ) (x : ℕ) → AreAmong us ts → AreAmong (x ∷ us) ts
among_more us [] x h = tt
among_more us (t ∷ ts) x h = (inr h.0, among_more us ts x h.1)

among_all : (us : List ℕ) → AreAmong us us
among_all [] = tt
among_all (x ∷ us) = (inl refl, among_more us us x (among_all us))

pub alike_itself : (L : List ℕ → Type 0) (g : Grammar) → HaveWords g → GenerateAlike L g g
alike_itself L g w = record { there = λ b s ts t l d. d; back = λ b s ts t d. d; words = w }

-- both
pub alike_both : (g h k : Grammar) (us : List ℕ) → GenerateAlike (AreAmong us) g h → GenerateAlike (λ ts. length ts ≤ length us) h k → GenerateAlike (λ ts. ts ≡ us) g k
alike_both g h k us a c = record {
  there = λ b s ts t e d.
      let P : List ℕ → Type 0 = AreAmong us in
      let l = ap length e in
      c.there b s ts t (omega arith) (a.there b s ts t (subst P (sym e) (among_all us)) d);
  back = λ b s ts t d. a.back b s ts t (c.back b s ts t d);
  words = c.words;
}

-- the rules, one more
pub no_rules : (P : Rule → Type 0) (rs some : List Rule) → some ≡ [] → KeepsRules P rs 0 some
no_rules P rs some e = record {
  taken = λ n r l. absurd (let w = slice_get_within some n r l in let len = ap length e in omega arith);
  all = λ k q l at m. absurd (omega arith);
}

rule_skip : (P : Rule → Type 0) (rs some : List Rule) (m : ℕ) (q : Rule) → slice_get rs m ≡ Some q → (P q → ⊥)
    → KeepsRules P rs m some → KeepsRules P rs (m + 1) some
rule_skip P rs some m q at unmarked u = record { taken = u.taken; all = λ k x l e a. go k x l e a (cases_eq k m) }
  where
    go : (k : ℕ) (x : Rule) → k < m + 1 → slice_get rs k ≡ Some x → P x → ((k ≡ m) ⊎ (k ≡ m → ⊥))
        → (n : ℕ) × (r : Rule) × (slice_get some n ≡ Some r) × IsSame x r
    go k x l e a (inl i) =
        let z : Some x ≡ Some q = sym e ∙ ap (slice_get rs) i ∙ at in
        let f : x ≡ q = cc z in absurd (unmarked (subst P f a))
    go k x l e a (inr i) = u.all k x (omega arith) e a

rule_more : (P : Rule → Type 0) (rs some new : List Rule) (m : ℕ) (q r : Rule) → slice_get rs m ≡ Some q → IsSame q r → new ≡ some ++ r ∷ []
    → KeepsRules P rs m some → KeepsRules P rs (m + 1) new
rule_more P rs some new m q r at same is u =
    let R : List Rule → Type 0 = KeepsRules P rs (m + 1) in
    subst R (sym is) (record { taken = λ n x l. sound n x l (cases_eq n (length some)); all = λ k x l e a. go k x l e a (cases_eq k m) })
  where
    sound : (n : ℕ) (x : Rule) → slice_get (some ++ r ∷ []) n ≡ Some x → ((n ≡ length some) ⊎ (n ≡ length some → ⊥))
        → (k : ℕ) × (y : Rule) × (slice_get rs k ≡ Some y) × IsSame y x
    sound n x l (inl w) =
        let z : Some r ≡ Some x = sym (get_last some r) ∙ ap (slice_get (some ++ r ∷ [])) (sym w) ∙ l in
        let Q : Rule → Type 0 = IsSame q in
        let f : r ≡ x = cc z in (m, q, at, subst Q f same)
    sound n x l (inr w) = let i = slice_get_within (some ++ r ∷ []) n x l in let len = length-append some (r ∷ []) in u.taken n x (sym (get_before some r n (omega arith)) ∙ l)

    go : (k : ℕ) (x : Rule) → k < m + 1 → slice_get rs k ≡ Some x → P x → ((k ≡ m) ⊎ (k ≡ m → ⊥))
        → (n : ℕ) × (y : Rule) × (slice_get (some ++ r ∷ []) n ≡ Some y) × IsSame x y
    go k x l e a (inl i) =
        let z : Some q ≡ Some x = sym at ∙ ap (slice_get rs) (sym i) ∙ e in
        let Q : Rule → Type 0 = λ v. IsSame v r in
        let f : q ≡ x = cc z in (length some, r, get_last some r, subst Q f same)
    go k x l e a (inr i) = let o = u.all k x (omega arith) e a in (o.0, o.1, get_before some r o.0 (slice_get_within some o.0 o.1 o.2) ∙ o.2, o.3)

pub rule_step : (P : Rule → Type 0) (rs some new : List Rule) (m : ℕ) (q : Rule) → slice_get rs m ≡ Some q → AddsRule P q some new
    → KeepsRules P rs m some → KeepsRules P rs (m + 1) new
rule_step P rs some new m q at (inl a) u = let R : List Rule
    → Type 0 = KeepsRules P rs (m + 1) in subst R (sym a.0) (rule_skip P rs some m q at a.1 u)
rule_step P rs some new m q at (inr a) u = rule_more P rs some new m q a.0 at a.1 a.2 u

-- the marks, one rule more
are_stay : (old new : List Bool) (ps : List Symbol) → StayMarked old new → AreMarked old ps → AreMarked new ps
are_stay old new [] stay h = tt
are_stay old new (Word w ∷ ps) stay h = are_stay old new ps stay h
are_stay old new (Hole s b ∷ ps) stay h = (stay s h.0, are_stay old new ps stay h.1)

pub rules_step : (rs : List Rule) (m : ℕ) (q : Rule) (old mid new : List Bool) → slice_get rs m ≡ Some q → RulesMarked rs m old mid → StayMarked old mid
    → StayMarked mid new
    → (AreMarked mid q.symbols.items → IsMarked new q.sort) → RulesMarked rs (m + 1) old new
rules_step rs m q old mid new at h before after marked n r l e a = go (cases_eq n m)
  where
    go : ((n ≡ m) ⊎ (n ≡ m → ⊥)) → IsMarked new r.sort
    go (inl i) =
        let z : Some q ≡ Some r = sym at ∙ ap (slice_get rs) (sym i) ∙ e in
        let P : Rule → Type 0 = λ v. AreMarked mid v.symbols.items → IsMarked new v.sort in
        let f : q ≡ r = cc z in subst P f marked (are_stay old mid r.symbols.items before a)
    go (inr i) = after r.sort (h n r (omega arith) e a)

pub variables_step : (vs : List Variable) (m : ℕ) (d : Variable) (old new : List Bool) → m < length vs → VariablesMarked vs m old
    → StayMarked old new → IsMarked new (get_or vs m d).sort → VariablesMarked vs (m + 1) new
variables_step vs m d old new within h stay marked n x l e = go (cases_eq n m)
  where
    go : ((n ≡ m) ⊎ (n ≡ m → ⊥)) → IsMarked new x.sort
    go (inl i) =
        let z : Some (get_or vs m d) ≡ Some x = sym (slice_get-get_or vs m d within) ∙ ap (slice_get vs) (sym i) ∙ e in
        let P : Variable → Type 0 = λ y. IsMarked new y.sort in
        let f : get_or vs m d ≡ x = cc z in subst P f marked
    go (inr i) = stay x.sort (h n x (omega arith) e)

-- no token spells nothing
pub no_token : (g : Grammar) (b s : ℕ) (ts : List ℕ) (t : Tree) → HaveWords g → length ts ≡ 0 → Generates g b s ts t → ⊥
no_token g b s ts t worded e h = let k = some_token g b s ts t worded h in absurd (omega arith)

pub neither : (a b : Bool) → (a || b) ≡ false → (a ≡ false) × (b ≡ false)
neither true b e = absurd (cc)
neither false b e = (refl, e)
