-- What is asked of a range is what it spells: nothing is lost by asking only for what a reading uses.
use Rattle.std.proofs.Common.{◌≡◌, ◌⊎◌, ◌<◌, ◌≤◌, ◌+◌, ◌-◌, ℕ, zero, suc, List, [], ◌∷◌, length, get_or, drop, Some, inl, inr, sym, ◌∙◌, ap, subst, refl, arith}
use Rattle.std.specs.List.{slice_get}
use Rattle.std.proofs.lemmas.Bool.{cases_eq, cases_lt}
use Rattle.std.proofs.lemmas.List.{drop_more, drop_all}
use Rattle.circ_term.specs.Tree.{Tree, Trees, App, none, more, trees_of, list_of, args_of}
use Rattle.circ_term.proofs.Trees.{trees_of-list_of}
use Rattle.circ_spelling.specs.declared.grammar.Symbol.{Symbol}
use Rattle.circ_spelling.specs.declared.grammar.Symbol.TheVariants.{Word, Hole}
use Rattle.circ_spelling.specs.declared.grammar.Rule.{Rule}
use Rattle.circ_spelling.specs.declared.grammar.Variable.{Variable}
use Rattle.circ_spelling.specs.declared.grammar.Grammar.{Grammar}
use Rattle.circ_chart.specs.declared.few.Few.{Few}
use Rattle.circ_chart.specs.declared.few.Few.TheVariants.{Empty, One, Two}
use Rattle.circ_chart.specs.Few.{Enough, Differ, Or}
use Rattle.circ_chart.proofs.Sets.{Joined, enough_joined, enough_all, enough_chain, enough_step, enough_or}
use Rattle.circ_chart.specs.Members.{In, IsApart, IsTwo, AddsTerm, KeepsTerms}
use Rattle.circ_chart.specs.Rows.{RowsOf, Longer, Extends, Product}
use Rattle.circ_spelling.specs.Reads.{CanBegin, IsToken, Reads, Row, by_parentheses, by_variable, by_operator, row_end, row_word, row_hole}
use Rattle.circ_chart.specs.Ways.{VariableHit, AnyVariable, InParentheses, ByRule, AnyByRule, Ways, SplitAt, SplitFrom}
use Rattle.circ_spelling.specs.Words.{HaveWords}
use Rattle.circ_spelling.specs.Limits.{opening, closing, every, most_tokens}
use Rattle.circ_chart.specs.Small.{IsSmall, IsSmallFew}
use Rattle.circ_spelling.specs.Steps.{AreWords}
use Rattle.circ_chart.proofs.RowCases.{row_case, by_args}
use Rattle.circ_chart.proofs.Members.{full_keeps}
use Rattle.circ_spelling.proofs.Sizes.{reads_forward, row_forward, reads_size}

-- variables
variable_out : (ts : List ℕ) (b s i j : ℕ) (vs : List Variable) (t : Tree) → AnyVariable ts b s i j vs t
    → (n : ℕ) × (v : Variable) × (slice_get vs n ≡ Some v) × VariableHit ts b s i j v t
variable_out ts b s i j [] t h = absurd h
variable_out ts b s i j (v ∷ vs) t (inl h) = (0, v, refl, h)
variable_out ts b s i j (v ∷ vs) t (inr h) = let k = variable_out ts b s i j vs t h in (suc k.0, k.1, k.2, k.3)

variable_in : (ts : List ℕ) (b s i j : ℕ) (vs : List Variable) (t : Tree) (n : ℕ) (v : Variable) → slice_get vs n ≡ Some v → VariableHit ts b s i j v t → AnyVariable ts b s i j vs t
variable_in ts b s i j [] t n v e h = absurd (cc)
variable_in ts b s i j (x ∷ vs) t zero v e h = let q : v ≡ x = cc in let P : Variable → Type 0 = λ z. VariableHit ts b s i j z t in inl (subst P q h)
variable_in ts b s i j (x ∷ vs) t (suc n) v e h = inr (variable_in ts b s i j vs t n v e h)

-- a range of more than one token is none
pub no_variables : (ts : List ℕ) (b s i j : ℕ) (vs : List Variable) → i + 1 < j → (t : Tree) → AnyVariable ts b s i j vs t → ⊥
no_variables ts b s i j vs l t h = let v = variable_out ts b s i j vs t h in let o = v.3.one in absurd (omega arith)

-- rules
rule_out : (g : Grammar) (ts : List ℕ) (b s i j : ℕ) (rs : List Rule) (t : Tree) → AnyByRule g ts b s i j rs t
    → (n : ℕ) × (r : Rule) × (slice_get rs n ≡ Some r) × ByRule g ts b s i j r t
rule_out g ts b s i j [] t h = absurd h
rule_out g ts b s i j (r ∷ rs) t (inl h) = (0, r, refl, h)
rule_out g ts b s i j (r ∷ rs) t (inr h) = let k = rule_out g ts b s i j rs t h in (suc k.0, k.1, k.2, k.3)

pub rule_in : (g : Grammar) (ts : List ℕ) (b s i j : ℕ) (rs : List Rule) (t : Tree) (n : ℕ) (r : Rule) → slice_get rs n ≡ Some r → ByRule g ts b s i j r t → AnyByRule g ts b s i j rs t
rule_in g ts b s i j [] t n r e h = absurd (cc)
rule_in g ts b s i j (x ∷ rs) t zero r e h = let q : r ≡ x = cc in let P : Rule → Type 0 = λ y. ByRule g ts b s i j y t in inl (subst P q h)
rule_in g ts b s i j (x ∷ rs) t (suc n) r e h = inr (rule_in g ts b s i j rs t n r e h)

-- a reading is one of the ways
pub ways : (g : Grammar) (ts : List ℕ) (b s i j : ℕ) → Enough (Ways g ts b s i j) (Reads g ts b s i j)
ways g ts b s i j = enough_all (Ways g ts b s i j) (Reads g ts b s i j) f k
  where
    f : (t : Tree) → Ways g ts b s i j t → Reads g ts b s i j t
    f t (inl (inl h)) = let v = variable_out ts b s i j g.variables.items t h in by_variable v.0 v.1 v.3.below v.2 v.3.token v.3.one (sym v.3.sort) v.3.is
    f t (inl (inr h)) = let l = h.last in by_parentheses (j - 1) h.below h.opened h.inner h.closed (omega arith)
    f t (inr h) = let v = rule_out g ts b s i j g.rules.items t h in by_operator v.0 v.1 v.3.rows.args v.2 v.3.prec (sym v.3.sort) v.3.rows.row v.3.rows.is

    k : (t : Tree) → Reads g ts b s i j t → Ways g ts b s i j t
    k t (by_parentheses m lo o r c e) =
        let q : m ≡ j - 1 = omega arith in
        let P : ℕ → Type 0 = λ x. IsToken ts x closing in
        let Q : ℕ → Type 0 = λ x. Reads g ts every s (i + 1) x t in
        inl (inr (record { below = lo; last = omega arith; opened = o; closed = subst P q c; inner = subst Q q r }))
    k t (by_variable n v lo l o e f z) = inl (inl (variable_in ts b s i j g.variables.items t n v l (record { one = e; below = lo; token = o; sort = sym f; is = z })))
    k t (by_operator n r args l p e row z) = inr (rule_in g ts b s i j g.rules.items t n r l (record { prec = p; sort = sym e; rows = record { args = args; row = row; is = z } }))

-- a row that begins with a word
pub word_rows : (g : Grammar) (ts : List ℕ) (op sort w : ℕ) (ps : List Symbol) (i j : ℕ) (E : Tree → Type 0) → IsToken ts i w
    → Enough E (RowsOf g ts op sort ps (i + 1) j) → Enough E (RowsOf g ts op sort (Word w ∷ ps) i j)
word_rows g ts op sort w ps i j E t a = enough_chain E (RowsOf g ts op sort ps (i + 1) j) (RowsOf g ts op sort (Word w ∷ ps) i j) a
    (enough_all (RowsOf g ts op sort ps (i + 1) j) (RowsOf g ts op sort (Word w ∷ ps) i j)
    (λ z h. record { args = h.args; row = row_word t h.row; is = h.is })
    (λ z h. record { args = h.args; row = (row_case g ts (Word w ∷ ps) i j h.args h.row).rest; is = h.is }))

pub no_word : (g : Grammar) (ts : List ℕ) (op sort w : ℕ) (ps : List Symbol) (i j : ℕ) (z : Tree) → RowsOf g ts op sort (Word w ∷ ps) i j z → IsToken ts i w
no_word g ts op sort w ps i j z h = (row_case g ts (Word w ∷ ps) i j h.args h.row).token

-- a row that begins with a hole is split at a place behind its first token, and before its end if more symbols follow
pub split_rows : (g : Grammar) (ts : List ℕ) (op sort s b : ℕ) (p : Symbol) (ps : List Symbol) (i j : ℕ) → HaveWords g
    → Enough (SplitFrom g ts op sort s b (p ∷ ps) i j (i + 1)) (RowsOf g ts op sort (Hole s b ∷ p ∷ ps) i j)
split_rows g ts op sort s b p ps i j words = enough_all (SplitFrom g ts op sort s b (p ∷ ps) i j (i + 1)) (RowsOf g ts op sort (Hole s b ∷ p ∷ ps) i j)
    (λ z h. record { args = more h.at.first h.at.others; row = row_hole h.to h.at.reads h.at.rest; is = h.at.is })
    (λ z h.
    let k = row_case g ts (Hole s b ∷ p ∷ ps) i j h.args h.row in
    let l = reads_forward g ts b s i k.to k.first k.reads words in
    record {
      to = k.to;
      low = omega arith;
      high = row_forward g ts (p ∷ ps) k.to j k.others k.rest words;
      at = record { first = k.first; others = k.others; reads = k.reads; rest = k.rest; is = h.is ∙ ap (App op sort) k.is };
    })

-- a last hole ends where the row does
pub last_rows : (g : Grammar) (ts : List ℕ) (op sort s b i j : ℕ) → Enough (SplitAt g ts op sort s b [] i j j) (RowsOf g ts op sort (Hole s b ∷ []) i j)
last_rows g ts op sort s b i j = enough_all (SplitAt g ts op sort s b [] i j j) (RowsOf g ts op sort (Hole s b ∷ []) i j)
    (λ z h. record { args = more h.first h.others; row = row_hole j h.reads h.rest; is = h.is })
    (λ z h.
    let k = row_case g ts (Hole s b ∷ []) i j h.args h.row in
    let e = (row_case g ts [] k.to j k.others k.rest).0 in
    let P : ℕ → Type 0 = λ x. Reads g ts b s i x k.first in
    let Q : ℕ → Type 0 = λ x. Row g ts [] x j k.others in
    record { first = k.first; others = k.others; reads = subst P e k.reads; rest = subst Q e k.rest; is = h.is ∙ ap (App op sort) k.is })

-- enough terms and enough rows give enough of the longer rows
pub product_split : (g : Grammar) (ts : List ℕ) (op sort s b : ℕ) (ps : List Symbol) (i j m : ℕ) (terms rows : Few)
    → Enough (In terms) (Reads g ts b s i m) → Enough (In rows) (RowsOf g ts op sort ps m j) → Enough (Product op sort terms rows) (SplitAt g ts op sort s b ps i j m)
product_split g ts op sort s b ps i j m terms rows a c =
    enough_chain (Product op sort terms rows) (Joined f E F) (SplitAt g ts op sort s b ps i j m) (enough_all (Product op sort terms rows) (Joined f E F) there back)
    (enough_chain (Joined f E F) (Joined f P Q) (SplitAt g ts op sort s b ps i j m)
    (enough_joined f E P F Q (λ x y u v q. cc) (λ x y u v q. cc) a (by_args g ts (In rows) op sort ps m j c))
    (enough_all (Joined f P Q) (SplitAt g ts op sort s b ps i j m)
    (λ z h. record { first = h.left; others = h.right; reads = h.in_left; rest = h.in_right; is = h.is })
    (λ z h. record { left = h.first; right = h.others; in_left = h.reads; in_right = h.rest; is = h.is })))
  where
    f : Tree → Trees → Tree
    f t args = App op sort (more t args)

    E : Tree → Type 0
    E = In terms

    P : Tree → Type 0
    P = Reads g ts b s i m

    F : Trees → Type 0
    F args = In rows (App op sort args)

    Q : Trees → Type 0
    Q = Row g ts ps m j

    there : (z : Tree) → Product op sort terms rows z → Joined f E F z
    there z h =
        let o = c.sound h.row h.in_rows in
        let e : args_of h.row ≡ list_of o.args = ap args_of o.is in
        record {
          left = h.first;
          right = o.args;
          in_left = h.in_terms;
          in_right = subst (In rows) o.is h.in_rows;
          is = h.is ∙ ap (λ v. f h.first (trees_of v)) e ∙ ap (f h.first) (trees_of-list_of o.args);
        }

    back : (z : Tree) → Joined f E F z → Product op sort terms rows z
    back z h = record { first = h.left; row = App op sort h.right; in_terms = h.in_left; in_rows = h.in_right; is = h.is ∙ ap (f h.left) (sym (trees_of-list_of h.right)) }

-- the splits from one place on are those at it and those behind it
pub split_more : (g : Grammar) (ts : List ℕ) (op sort s b : ℕ) (ps : List Symbol) (i j lo : ℕ) → lo < j
    → Enough (Or (SplitAt g ts op sort s b ps i j lo) (SplitFrom g ts op sort s b ps i j (lo + 1))) (SplitFrom g ts op sort s b ps i j lo)
split_more g ts op sort s b ps i j lo l = enough_all (Or (SplitAt g ts op sort s b ps i j lo) (SplitFrom g ts op sort s b ps i j (lo + 1))) (SplitFrom g ts op sort s b ps i j lo) f (λ z h. k z h (cases_eq h.to lo))
  where
    f : (z : Tree) → Or (SplitAt g ts op sort s b ps i j lo) (SplitFrom g ts op sort s b ps i j (lo + 1)) z → SplitFrom g ts op sort s b ps i j lo z
    f z (inl h) = record { to = lo; low = omega arith; high = l; at = h }
    f z (inr h) = let a = h.low in record { to = h.to; low = omega arith; high = h.high; at = h.at }

    k : (z : Tree) (h : SplitFrom g ts op sort s b ps i j lo z) → ((h.to ≡ lo) ⊎ (h.to ≡ lo → ⊥)) → Or (SplitAt g ts op sort s b ps i j lo) (SplitFrom g ts op sort s b ps i j (lo + 1)) z
    k z h (inl e) = let P : ℕ → Type 0 = λ x. SplitAt g ts op sort s b ps i j x z in inl (subst P e h.at)
    k z h (inr n) = let a = h.low in inr (record { to = h.to; low = omega arith; high = h.high; at = h.at })

pub no_split : (g : Grammar) (ts : List ℕ) (op sort s b : ℕ) (ps : List Symbol) (i j lo : ℕ) → j ≤ lo → (z : Tree) → SplitFrom g ts op sort s b ps i j lo z → ⊥
no_split g ts op sort s b ps i j lo l z h = let a = h.low in let c = h.high in absurd (omega arith)

split_some : (g : Grammar) (ts : List ℕ) (op sort s b : ℕ) (qs : List Symbol) (i j : ℕ) → 0 < length qs → HaveWords g
    → Enough (SplitFrom g ts op sort s b qs i j (i + 1)) (RowsOf g ts op sort (Hole s b ∷ qs) i j)
split_some g ts op sort s b [] i j l words = absurd (omega arith)
split_some g ts op sort s b (p ∷ ps) i j l words = split_rows g ts op sort s b p ps i j words

pub row_begins : (g : Grammar) (ts : List ℕ) (qs : List Symbol) (m j : ℕ) (args : Trees) → Row g ts qs m j args → CanBegin ts qs m
row_begins g ts [] m j args h = tt
row_begins g ts (Word w ∷ ps) m j args h = (row_case g ts (Word w ∷ ps) m j args h).token
row_begins g ts (Hole s b ∷ ps) m j args h = tt

pub add_two : (out m new : Few) (x y : Tree) → AddsTerm out x m → AddsTerm m y new → KeepsTerms new (Or (In out) (In (Two x y)))
add_two out m new x y h k = record { apart = k.apart; enough = enough_chain (In new) (Or (In m) Y) P k.enough (enough_step (In out) (In m) X Y P (enough_all (Or (In out) (Or X Y)) P (λ z e. e) (λ z e. e)) h.enough) }
  where
    X : Tree → Type 0
    X z = z ≡ x

    Y : Tree → Type 0
    Y z = z ≡ y

    P : Tree → Type 0
    P = Or (In out) (In (Two x y))

pub products_two : (op sort : ℕ) (a b : Tree) (rows out m new : Few) → Extends out op sort a rows m → Extends m op sort b rows new → KeepsTerms new (Or (In out) (Product op sort (Two a b) rows))
products_two op sort a b rows out m new h k = record { apart = k.apart; enough = enough_chain (In new) (Or (In m) B) P k.enough (enough_step (In out) (In m) A B P (enough_all (Or (In out) (Or A B)) P there back) h.enough) }
  where
    A : Tree → Type 0
    A = Longer op sort a rows

    B : Tree → Type 0
    B = Longer op sort b rows

    P : Tree → Type 0
    P = Or (In out) (Product op sort (Two a b) rows)

    there : (z : Tree) → Or (In out) (Or A B) z → P z
    there z (inl e) = inl e
    there z (inr (inl l)) = inr (record { first = a; row = l.rest; in_terms = inl refl; in_rows = l.listed; is = l.is })
    there z (inr (inr l)) = inr (record { first = b; row = l.rest; in_terms = inr refl; in_rows = l.listed; is = l.is })

    which : (z : Tree) (p : Product op sort (Two a b) rows z) → ((p.first ≡ a) ⊎ (p.first ≡ b)) → Or A B z
    which z p (inl e) = inl (record { rest = p.row; listed = p.in_rows; is = p.is ∙ ap (λ v. App op sort (more v (trees_of (args_of p.row)))) e })
    which z p (inr e) = inr (record { rest = p.row; listed = p.in_rows; is = p.is ∙ ap (λ v. App op sort (more v (trees_of (args_of p.row)))) e })

    back : (z : Tree) → P z → Or (In out) (Or A B) z
    back z (inl e) = inl e
    back z (inr p) = inr (which z p p.in_terms)

-- terms that a range spells are small
small_term : (g : Grammar) (ts : List ℕ) (b s i j : ℕ) (t : Tree) → HaveWords g → length ts ≤ most_tokens → Reads g ts b s i j t → IsSmall t
small_term g ts b s i j t h l r = let k = reads_size g ts b s i j t r h in let k0 = k.0 in let k1 = k.1 in omega arith

pub small_terms : (g : Grammar) (ts : List ℕ) (b s i j : ℕ) (few : Few) → HaveWords g → length ts ≤ most_tokens → ((t : Tree) → In few t → Reads g ts b s i j t) → IsSmallFew few
small_terms g ts b s i j Empty h l f = tt
small_terms g ts b s i j (One a) h l f = small_term g ts b s i j a h l (f a refl)
small_terms g ts b s i j (Two a c) h l f = (small_term g ts b s i j a h l (f a (inl refl)), small_term g ts b s i j c h l (f c (inr refl)))

-- what the functions that ask answer with
pub no_symbol_rows : (g : Grammar) (ts : List ℕ) (op sort i j : ℕ) (z : Tree) → i ≡ j → z ≡ App op sort none → KeepsTerms (One z) (RowsOf g ts op sort [] i j)
no_symbol_rows g ts op sort i j z e q = record {
  apart = tt;
  enough = enough_all (In (One z)) (RowsOf g ts op sort [] i j) (λ x h. record { args = none; row = row_end e; is = h ∙ q })
      (λ x h. let k = row_case g ts [] i j h.args h.row in inl_is x h k.1);
}
  where
    inl_is : (x : Tree) (h : RowsOf g ts op sort [] i j x) → h.args ≡ none → x ≡ z
    inl_is x h a = h.is ∙ ap (App op sort) a ∙ sym q

-- the ways, found one after the other
pub found_ways : (g : Grammar) (ts : List ℕ) (b s i j : ℕ) (first second all : Few) → Enough (In first) (AnyVariable ts b s i j g.variables.items)
    → Enough (In second) (Or (In first) (InParentheses g ts b s i j)) → KeepsTerms all (Or (In second) (AnyByRule g ts b s i j g.rules.items)) → KeepsTerms all (Reads g ts b s i j)
found_ways g ts b s i j first second all v p r = record {
  apart = r.apart;
  enough = enough_chain (In all) (Or (In second) R) (Reads g ts b s i j) r.enough
      (enough_chain (Or (In second) R) (Ways g ts b s i j) (Reads g ts b s i j) (enough_or (In second) (Or V P) R R both (enough_all R R (λ x h. h) (λ x h. h))) (ways g ts b s i j));
}
  where
    V : Tree → Type 0
    V = AnyVariable ts b s i j g.variables.items

    P : Tree → Type 0
    P = InParentheses g ts b s i j

    R : Tree → Type 0
    R = AnyByRule g ts b s i j g.rules.items

    both : Enough (In second) (Or V P)
    both = enough_chain (In second) (Or (In first) P) (Or V P) p (enough_or (In first) V P P v (enough_all P P (λ x h. h) (λ x h. h)))

-- nothing more
pub nothing_more : (out : Few) (P : Tree → Type 0) → IsApart out → ((t : Tree) → P t → ⊥) → KeepsTerms out (Or (In out) P)
nothing_more out P a n = record { apart = a; enough = enough_all (In out) (Or (In out) P) (λ t h. inl h) (λ t h. go t h) }
  where
    go : (t : Tree) → Or (In out) P t → In out t
    go t (inl h) = h
    go t (inr h) = absurd (n t h)

-- more terms that are enough of a set
pub with_enough : (out new : Few) (E P : Tree → Type 0) → KeepsTerms new (Or (In out) E) → Enough E P → KeepsTerms new (Or (In out) P)
with_enough out new E P k e = record { apart = k.apart; enough = enough_chain (In new) (Or (In out) E) (Or (In out) P) k.enough (enough_or (In out) (In out) E P (enough_all (In out) (In out) (λ x h. h) (λ x h. h)) e) }

-- the terms and the rows that were found give the rows whose first hole ends at one place
pub split_kept : (g : Grammar) (ts : List ℕ) (op sort s b : ℕ) (ps : List Symbol) (i j m : ℕ) (terms rows new : Few) → Enough (In terms) (Reads g ts b s i m) → Enough (In rows) (RowsOf g ts op sort ps m j)
    → KeepsTerms new (Or (In Empty) (Product op sort terms rows)) → KeepsTerms new (SplitAt g ts op sort s b ps i j m)
split_kept g ts op sort s b ps i j m terms rows new a c k = record {
  apart = k.apart;
  enough = enough_chain (In new) (Or (In Empty) (Product op sort terms rows)) (SplitAt g ts op sort s b ps i j m) k.enough
      (enough_chain (Or (In Empty) (Product op sort terms rows)) (Product op sort terms rows) (SplitAt g ts op sort s b ps i j m)
      (enough_all (Or (In Empty) (Product op sort terms rows)) (Product op sort terms rows) f (λ z h. inr h)) (product_split g ts op sort s b ps i j m terms rows a c));
}
  where
    f : (z : Tree) → Or (In Empty) (Product op sort terms rows) z → Product op sort terms rows z
    f z (inl h) = absurd h
    f z (inr h) = h

-- a rule's rows are its terms
pub rule_terms : (g : Grammar) (ts : List ℕ) (b s i j : ℕ) (r : Rule) (rows : Few) → r.prec < b → r.sort ≡ s → Enough (In rows) (RowsOf g ts r.op r.sort r.symbols.items i j) → Enough (In rows) (ByRule g ts b s i j r)
rule_terms g ts b s i j r rows p e k = enough_chain (In rows) (RowsOf g ts r.op r.sort r.symbols.items i j) (ByRule g ts b s i j r) k
    (enough_all (RowsOf g ts r.op r.sort r.symbols.items i j) (ByRule g ts b s i j r) (λ z h. record { prec = p; sort = e; rows = h }) (λ z h. h.rows))

-- a split more
split_step : (g : Grammar) (ts : List ℕ) (op sort s b : ℕ) (ps : List Symbol) (i j lo : ℕ) (all : Tree → Type 0) (out new : Few) → lo < j
    → Enough (Or (In out) (SplitFrom g ts op sort s b ps i j lo)) all → KeepsTerms new (Or (In out) (SplitAt g ts op sort s b ps i j lo))
    → Enough (Or (In new) (SplitFrom g ts op sort s b ps i j (lo + 1))) all
split_step g ts op sort s b ps i j lo all out new l inv put =
    enough_step (In out) (In new) (SplitAt g ts op sort s b ps i j lo) (SplitFrom g ts op sort s b ps i j (lo + 1)) all
    (enough_chain (Or (In out) (Or (SplitAt g ts op sort s b ps i j lo) (SplitFrom g ts op sort s b ps i j (lo + 1)))) (Or (In out) (SplitFrom g ts op sort s b ps i j lo)) all
    (enough_or (In out) (In out) (Or (SplitAt g ts op sort s b ps i j lo) (SplitFrom g ts op sort s b ps i j (lo + 1))) (SplitFrom g ts op sort s b ps i j lo) (enough_all (In out) (In out) (λ x h. h) (λ x h. h)) (split_more g ts op sort s b ps i j lo l)) inv) put.enough

pub none_of : (P : Tree → Type 0) → Enough (In Empty) P → (x : Tree) → P x → ⊥
none_of P e x p = go (e.enough x p)
  where
    go : (In Empty x ⊎ Differ (In Empty)) → ⊥
    go (inl h) = h
    go (inr d) = d.in_first

-- one step of the loop over the variables
pub variable_step : (ts : List ℕ) (i j s b : ℕ) (vs : List Variable) (k : ℕ) (d : Variable) (out new : Few) → k < length vs
    → Enough (Or (In out) (AnyVariable ts b s i j (drop k vs))) (AnyVariable ts b s i j vs) → KeepsTerms new (Or (In out) (VariableHit ts b s i j (get_or vs k d)))
    → record { enough : Enough (Or (In new) (AnyVariable ts b s i j (drop (k + 1) vs))) (AnyVariable ts b s i j vs); apart : IsApart new }
variable_step ts i j s b vs k d out new l inv put = record {
  enough = enough_step (In out) (In new) (VariableHit ts b s i j (get_or vs k d)) (AnyVariable ts b s i j (drop (k + 1) vs)) (AnyVariable ts b s i j vs) (subst P (drop_more vs k d l) inv) put.enough;
  apart = put.apart;
}
  where
    P : List Variable → Type 0
    P us = Enough (Or (In out) (AnyVariable ts b s i j us)) (AnyVariable ts b s i j vs)

-- a loop that finds terms by one rule after the other
module _ (g : Grammar) (ts : List ℕ) (b s i j : ℕ) (all : Tree → Type 0) where
  -- a rule more
  pub rule_step : (rs : List Rule) (k : ℕ) (r : Rule) (out new : Few) → k < length rs → r ≡ get_or rs k r
      → Enough (Or (In out) (AnyByRule g ts b s i j (drop k rs))) all → KeepsTerms new (Or (In out) (ByRule g ts b s i j r))
      → Enough (Or (In new) (AnyByRule g ts b s i j (drop (k + 1) rs))) all
  rule_step rs k r out new l e inv put =
      let q : drop k rs ≡ r ∷ drop (k + 1) rs = drop_more rs k r l ∙ ap (λ x. x ∷ drop (k + 1) rs) (sym e) in
      let P : List Rule → Type 0 = λ x. Enough (Or (In out) (AnyByRule g ts b s i j x)) all in
      enough_step (In out) (In new) (ByRule g ts b s i j r) (AnyByRule g ts b s i j (drop (k + 1) rs)) all (subst P q inv) put.enough

  -- a rule that adds nothing
  pub rule_passed : (rs : List Rule) (k : ℕ) (r : Rule) (out : Few) → k < length rs → r ≡ get_or rs k r → IsApart out
      → Enough (Or (In out) (AnyByRule g ts b s i j (drop k rs))) all → ((t : Tree) → ByRule g ts b s i j r t → ⊥)
      → Enough (Or (In out) (AnyByRule g ts b s i j (drop (k + 1) rs))) all
  rule_passed rs k r out l e a inv n = rule_step rs k r out out l e inv (nothing_more out (ByRule g ts b s i j r) a n)

  pub rules_full : (rs : List Rule) (k : ℕ) (new : Few) → IsTwo new → IsApart new → Enough (Or (In new) (AnyByRule g ts b s i j (drop (k + 1) rs))) all → KeepsTerms new all
  rules_full rs k new two apart e = full_keeps new (AnyByRule g ts b s i j (drop (k + 1) rs)) all two apart e

  pub rules_end : (rs : List Rule) (k : ℕ) (out : Few) → length rs ≤ k → IsApart out → Enough (Or (In out) (AnyByRule g ts b s i j (drop k rs))) all → KeepsTerms out all
  rules_end rs k out l a inv =
      let P : List Rule → Type 0 = λ x. Enough (Or (In out) (AnyByRule g ts b s i j x)) all in
      record { apart = a; enough = enough_chain (In out) (Or (In out) (AnyByRule g ts b s i j [])) all (nothing_more out (AnyByRule g ts b s i j []) a (λ t h. h)).enough (subst P (drop_all k rs l) inv) }

-- the rows of symbols, by the first of them
module _ (g : Grammar) (ts : List ℕ) (op sort i j : ℕ) (ps : List Symbol) where
  Rows : List Symbol → Few → Type 0
  Rows qs v = KeepsTerms v (RowsOf g ts op sort qs i j)

  pub kept_end : (v : Few) → ps ≡ [] → KeepsTerms v (RowsOf g ts op sort [] i j) → KeepsTerms v (RowsOf g ts op sort ps i j)
  kept_end v e k = let P : List Symbol → Type 0 = λ x. KeepsTerms v (RowsOf g ts op sort x i j) in subst P (sym e) k

  pub kept_word : (w : ℕ) (qs : List Symbol) (v : Few) → ps ≡ Word w ∷ qs → i < length ts → get_or ts i 0 ≡ w → KeepsTerms v (RowsOf g ts op sort qs (i + 1) j) → KeepsTerms v (RowsOf g ts op sort ps i j)
  kept_word w qs v e l t k =
      let P : List Symbol → Type 0 = λ x. KeepsTerms v (RowsOf g ts op sort x i j) in
      subst P (sym e) (record { apart = k.apart; enough = word_rows g ts op sort w qs i j (In v) (record { inside = l; is = t }) k.enough })

  none_kept : (qs : List Symbol) → ps ≡ qs → ((args : Trees) → Row g ts qs i j args → ⊥) → KeepsTerms Empty (RowsOf g ts op sort ps i j)
  none_kept qs e n =
      let P : List Symbol → Type 0 = λ x. KeepsTerms Empty (RowsOf g ts op sort x i j) in
      subst P (sym e) (record { apart = tt; enough = enough_all (In Empty) (RowsOf g ts op sort qs i j) (λ z h. absurd h) (λ z h. absurd (n h.args h.row)) })

  pub no_token : (w : ℕ) (qs : List Symbol) → ps ≡ Word w ∷ qs → (get_or ts i 0 ≡ w → ⊥) → KeepsTerms Empty (RowsOf g ts op sort ps i j)
  no_token w qs e n = none_kept (Word w ∷ qs) e (λ args h. n (row_case g ts (Word w ∷ qs) i j args h).token.is)

  pub no_tokens : (w : ℕ) (qs : List Symbol) → ps ≡ Word w ∷ qs → HaveWords g → j ≤ i → KeepsTerms Empty (RowsOf g ts op sort ps i j)
  no_tokens w qs e words l = none_kept (Word w ∷ qs) e (λ args h. let k : i < j = row_forward g ts (Word w ∷ qs) i j args h words in absurd (omega arith))

-- a last hole
pub no_last : (g : Grammar) (ts : List ℕ) (op sort s b i j : ℕ) → HaveWords g → i ≡ j → KeepsTerms Empty (RowsOf g ts op sort (Hole s b ∷ []) i j)
no_last g ts op sort s b i j words e = none_kept g ts op sort i j (Hole s b ∷ []) (Hole s b ∷ []) refl
    (λ args h. let k : i < j = row_forward g ts (Hole s b ∷ []) i j args h words in absurd (omega arith))

pub no_last_term : (g : Grammar) (ts : List ℕ) (op sort s b i j : ℕ) → Enough (In Empty) (Reads g ts b s i j) → KeepsTerms Empty (RowsOf g ts op sort (Hole s b ∷ []) i j)
no_last_term g ts op sort s b i j n = record {
  apart = tt;
  enough = enough_chain (In Empty) (SplitAt g ts op sort s b [] i j j) (RowsOf g ts op sort (Hole s b ∷ []) i j)
      (enough_all (In Empty) (SplitAt g ts op sort s b [] i j j) (λ z h. absurd h) (λ z h. absurd (none_of (Reads g ts b s i j) n h.first h.reads)))
      (last_rows g ts op sort s b i j);
}

pub last_found : (g : Grammar) (ts : List ℕ) (op sort s b i j : ℕ) (terms rows new : Few) → Enough (In terms) (Reads g ts b s i j) → Enough (In rows) (RowsOf g ts op sort [] j j)
    → KeepsTerms new (Or (In Empty) (Product op sort terms rows)) → KeepsTerms new (RowsOf g ts op sort (Hole s b ∷ []) i j)
last_found g ts op sort s b i j terms rows new a c k = record {
  apart = k.apart;
  enough = enough_chain (In new) (SplitAt g ts op sort s b [] i j j) (RowsOf g ts op sort (Hole s b ∷ []) i j)
      (split_kept g ts op sort s b [] i j j terms rows new a c k).enough (last_rows g ts op sort s b i j);
}

-- the loop over the places where the first hole can end
module _ (g : Grammar) (ts : List ℕ) (op sort s b : ℕ) (ps qs : List Symbol) (i j : ℕ) where
  -- no row goes on at the places that are passed over
  skip : (lo hi : ℕ) → lo ≤ hi → ((m : ℕ) → lo ≤ m → m < hi → CanBegin ts qs m → ⊥) → Enough (SplitFrom g ts op sort s b qs i j hi) (SplitFrom g ts op sort s b qs i j lo)
  skip lo hi l n = enough_all (SplitFrom g ts op sort s b qs i j hi) (SplitFrom g ts op sort s b qs i j lo)
      (λ z h. let a = h.low in record { to = h.to; low = omega arith; high = h.high; at = h.at }) (λ z h. go z h (cases_lt h.to hi))
    where
      go : (z : Tree) (h : SplitFrom g ts op sort s b qs i j lo z) → ((h.to < hi) ⊎ (hi ≤ h.to)) → SplitFrom g ts op sort s b qs i j hi z
      go z h (inl k) = absurd (n h.to h.low k (row_begins g ts qs h.to j h.at.others h.at.rest))
      go z h (inr k) = record { to = h.to; low = k; high = h.high; at = h.at }

  -- the splits that are found and those from one place on are all
  pub record Going (out : Few) (lo : ℕ) : Type 0 where
    pub enough : Enough (Or (In out) (SplitFrom g ts op sort s b qs i j lo)) (RowsOf g ts op sort ps i j)
    pub apart : IsApart out

  passed : (out : Few) (lo hi : ℕ) → lo ≤ hi → ((m : ℕ) → lo ≤ m → m < hi → CanBegin ts qs m → ⊥) → Going out lo → Going out hi
  passed out lo hi l n h = record {
    apart = h.apart;
    enough = enough_chain (Or (In out) (SplitFrom g ts op sort s b qs i j hi)) (Or (In out) (SplitFrom g ts op sort s b qs i j lo)) (RowsOf g ts op sort ps i j)
        (enough_or (In out) (In out) (SplitFrom g ts op sort s b qs i j hi) (SplitFrom g ts op sort s b qs i j lo) (enough_all (In out) (In out) (λ x e. e) (λ x e. e)) (skip lo hi l n)) h.enough;
  }

  pub going_first : (hi : ℕ) → HaveWords g → ps ≡ Hole s b ∷ qs → 0 < length qs → i + 1 ≤ hi → ((m : ℕ) → i + 1 ≤ m → m < hi → CanBegin ts qs m → ⊥) → Going Empty hi
  going_first hi words e some l n = passed Empty (i + 1) hi l n (record { apart = tt; enough = first })
    where
      P : List Symbol → Type 0
      P x = Enough (SplitFrom g ts op sort s b qs i j (i + 1)) (RowsOf g ts op sort x i j)

      first : Enough (Or (In Empty) (SplitFrom g ts op sort s b qs i j (i + 1))) (RowsOf g ts op sort ps i j)
      first = enough_chain (Or (In Empty) (SplitFrom g ts op sort s b qs i j (i + 1))) (SplitFrom g ts op sort s b qs i j (i + 1)) (RowsOf g ts op sort ps i j)
          (enough_all (Or (In Empty) (SplitFrom g ts op sort s b qs i j (i + 1))) (SplitFrom g ts op sort s b qs i j (i + 1)) f (λ z h. inr h)) (subst P (sym e) (split_some g ts op sort s b qs i j some words))
        where
          f : (z : Tree) → Or (In Empty) (SplitFrom g ts op sort s b qs i j (i + 1)) z → SplitFrom g ts op sort s b qs i j (i + 1) z
          f z (inl h) = absurd h
          f z (inr h) = h

  tried : (out new : Few) (lo : ℕ) → lo < j → Going out lo → KeepsTerms new (Or (In out) (SplitAt g ts op sort s b qs i j lo)) → Going new (lo + 1)
  tried out new lo l h put = record { apart = put.apart; enough = split_step g ts op sort s b qs i j lo (RowsOf g ts op sort ps i j) out new l h.enough put }

  pub going_on : (out new : Few) (lo hi : ℕ) → lo < j → Going out lo → KeepsTerms new (Or (In out) (SplitAt g ts op sort s b qs i j lo)) → lo + 1 ≤ hi → ((m : ℕ) → lo + 1 ≤ m → m < hi → CanBegin ts qs m → ⊥) → Going new hi
  going_on out new lo hi l h put a n = passed new (lo + 1) hi a n (tried out new lo l h put)

  pub going_full : (out new : Few) (lo : ℕ) → lo < j → Going out lo → KeepsTerms new (Or (In out) (SplitAt g ts op sort s b qs i j lo)) → IsTwo new → KeepsTerms new (RowsOf g ts op sort ps i j)
  going_full out new lo l h put two = full_keeps new (SplitFrom g ts op sort s b qs i j (lo + 1)) (RowsOf g ts op sort ps i j) two put.apart (tried out new lo l h put).enough

  pub going_end : (out : Few) (lo : ℕ) → j ≤ lo → Going out lo → KeepsTerms out (RowsOf g ts op sort ps i j)
  going_end out lo l h = record {
    apart = h.apart;
    enough = enough_chain (In out) (Or (In out) (SplitFrom g ts op sort s b qs i j lo)) (RowsOf g ts op sort ps i j)
        (nothing_more out (SplitFrom g ts op sort s b qs i j lo) h.apart (no_split g ts op sort s b qs i j lo l)).enough h.enough;
  }

-- parentheses
pub no_parentheses : (g : Grammar) (ts : List ℕ) (b s i j : ℕ) (out : Few) → IsApart out → ((t : Tree) → InParentheses g ts b s i j t → ⊥) → KeepsTerms out (Or (In out) (InParentheses g ts b s i j))
no_parentheses g ts b s i j out a n = nothing_more out (InParentheses g ts b s i j) a n

pub in_parentheses : (g : Grammar) (ts : List ℕ) (b s i j : ℕ) (out inner new : Few) → 0 < b → i < length ts → get_or ts i 0 ≡ opening → 0 < j → j ≤ length ts → get_or ts (j - 1) 0 ≡ closing
    → Enough (In inner) (Reads g ts every s (i + 1) (j - 1)) → KeepsTerms new (Or (In out) (In inner)) → KeepsTerms new (Or (In out) (InParentheses g ts b s i j))
in_parentheses g ts b s i j out inner new lo l o z w c e k = with_enough out new (In inner) (InParentheses g ts b s i j) k
    (enough_chain (In inner) (Reads g ts every s (i + 1) (j - 1)) (InParentheses g ts b s i j) e
    (enough_all (Reads g ts every s (i + 1) (j - 1)) (InParentheses g ts b s i j)
    (λ t r. record { below = lo; last = z; opened = record { inside = l; is = o }; closed = record { inside = omega arith; is = c }; inner = r }) (λ t h. h.inner)))

pub short_parentheses : (g : Grammar) (ts : List ℕ) (b s i j : ℕ) (out : Few) → HaveWords g → j - i < 3 → IsApart out → KeepsTerms out (Or (In out) (InParentheses g ts b s i j))
short_parentheses g ts b s i j out words l a = no_parentheses g ts b s i j out a (λ t h. let k = reads_forward g ts every s (i + 1) (j - 1) t h.inner words in omega arith)

pub keeps_none : (P : Tree → Type 0) → ((t : Tree) → P t → ⊥) → KeepsTerms Empty P
keeps_none P n = record { apart = tt; enough = enough_all (In Empty) P (λ t h. absurd h) (λ t h. absurd (n t h)) }

-- nothing is split at a place where the hole has no term, or what is behind it no row
pub no_first : (g : Grammar) (ts : List ℕ) (op sort s b : ℕ) (ps : List Symbol) (i j m : ℕ) → ((t : Tree) → Reads g ts b s i m t → ⊥) → KeepsTerms Empty (SplitAt g ts op sort s b ps i j m)
no_first g ts op sort s b ps i j m n = keeps_none (SplitAt g ts op sort s b ps i j m) (λ z h. n h.first h.reads)

pub no_rest : (g : Grammar) (ts : List ℕ) (op sort s b : ℕ) (ps : List Symbol) (i j m : ℕ) → Enough (In Empty) (RowsOf g ts op sort ps m j) → KeepsTerms Empty (SplitAt g ts op sort s b ps i j m)
no_rest g ts op sort s b ps i j m e = keeps_none (SplitAt g ts op sort s b ps i j m)
    (λ z h. none_of (RowsOf g ts op sort ps m j) e (App op sort h.others) (record { args = h.others; row = h.rest; is = refl }))

pub no_others : (g : Grammar) (ts : List ℕ) (op sort s b : ℕ) (ps : List Symbol) (i j m : ℕ) → ((args : Trees) → Row g ts ps m j args → ⊥) → KeepsTerms Empty (SplitAt g ts op sort s b ps i j m)
no_others g ts op sort s b ps i j m n = keeps_none (SplitAt g ts op sort s b ps i j m) (λ z h. n h.others h.rest)

-- a last hole without a term, and the same behind a word
pub no_last_row : (g : Grammar) (ts : List ℕ) (s b : ℕ) (ps : List Symbol) (i j : ℕ) → ps ≡ Hole s b ∷ [] → ((t : Tree) → Reads g ts b s i j t → ⊥) → (args : Trees) → Row g ts ps i j args → ⊥
no_last_row g ts s b ps i j is n args h =
    let P : List Symbol → Type 0 = λ x. Row g ts x i j args in
    let k = row_case g ts (Hole s b ∷ []) i j args (subst P is h) in
    let e = (row_case g ts [] k.to j k.others k.rest).0 in
    let Q : ℕ → Type 0 = λ x. Reads g ts b s i x k.first in
    n k.first (subst Q e k.reads)

pub no_word_row : (g : Grammar) (ts : List ℕ) (w : ℕ) (ps qs : List Symbol) (i j : ℕ) → ps ≡ Word w ∷ qs → ((args : Trees) → Row g ts qs (i + 1) j args → ⊥) → (args : Trees) → Row g ts ps i j args → ⊥
no_word_row g ts w ps qs i j is n args h =
    let P : List Symbol → Type 0 = λ x. Row g ts x i j args in
    n args (row_case g ts (Word w ∷ qs) i j args (subst P is h)).rest

-- words behind a hole say where it ends
pub words_end : (g : Grammar) (ts : List ℕ) (qs : List Symbol) (m j : ℕ) (args : Trees) → AreWords qs → Row g ts qs m j args → m + length qs ≡ j
words_end g ts [] m j args w h = let k = (row_case g ts [] m j args h).0 in omega arith
words_end g ts (Word x ∷ ps) m j args w h = let k = words_end g ts ps (m + 1) j args w (row_case g ts (Word x ∷ ps) m j args h).rest in omega arith
words_end g ts (Hole s b ∷ ps) m j args w h = absurd w

module _ (g : Grammar) (ts : List ℕ) (op sort s b : ℕ) (ps qs : List Symbol) (i j n : ℕ) (is : ps ≡ Hole s b ∷ qs) (words : AreWords qs) (count : n ≡ length qs) where
  pub before_none : HaveWords g → j - i ≤ n → KeepsTerms Empty (RowsOf g ts op sort ps i j)
  before_none worded l = none_kept g ts op sort i j ps (Hole s b ∷ qs) is (λ args h.
      let r = row_case g ts (Hole s b ∷ qs) i j args h in
      let f : i < r.to = reads_forward g ts b s i r.to r.first r.reads worded in
      let e : r.to + length qs ≡ j = words_end g ts qs r.to j r.others words r.rest in
      absurd (omega arith))

  pub before_kept : (new : Few) → KeepsTerms new (SplitAt g ts op sort s b qs i j (j - n)) → KeepsTerms new (RowsOf g ts op sort ps i j)
  before_kept new k =
      let P : List Symbol → Type 0 = λ x. KeepsTerms new (RowsOf g ts op sort x i j) in
      subst P (sym is) (record {
        apart = k.apart;
        enough = enough_chain (In new) (SplitAt g ts op sort s b qs i j (j - n)) (RowsOf g ts op sort (Hole s b ∷ qs) i j) k.enough
            (enough_all (SplitAt g ts op sort s b qs i j (j - n)) (RowsOf g ts op sort (Hole s b ∷ qs) i j) there back);
      })
    where
      there : (z : Tree) → SplitAt g ts op sort s b qs i j (j - n) z → RowsOf g ts op sort (Hole s b ∷ qs) i j z
      there z h = record { args = more h.first h.others; row = row_hole (j - n) h.reads h.rest; is = h.is }

      back : (z : Tree) → RowsOf g ts op sort (Hole s b ∷ qs) i j z → SplitAt g ts op sort s b qs i j (j - n) z
      back z h =
          let r = row_case g ts (Hole s b ∷ qs) i j h.args h.row in
          let f : r.to + length qs ≡ j = words_end g ts qs r.to j r.others words r.rest in
          let e : r.to ≡ j - n = omega arith in
          let P : ℕ → Type 0 = λ x. Reads g ts b s i x r.first in
          let Q : ℕ → Type 0 = λ x. Row g ts qs x j r.others in
          record { first = r.first; others = r.others; reads = subst P e r.reads; rest = subst Q e r.rest; is = h.is ∙ ap (App op sort) r.is }
