-- The line of a term has this term, and a line that has a term is that term's line.
use Rattle.std.specs.Prelude.{◌≡◌, ℕ, ◌<◌, ◌==◌, nat_eq, nat_lt, Bool, true, false, ◌||◌, if◌then◌else◌}
use Rattle.std.specs.Prelude.{List, [], ◌∷◌, ◌++◌, length, map, refl, Option, Some, None, zero, suc}
use Rattle.std.specs.List.{slice_get, AllByRecursion}
use Rattle.std.specs.Option.{option_map, option_and_then}
use Rattle.std.specs.Cmp.Lexicographic.{pointwise}
use Rattle.std.proofs.Common.{sym, ◌∙◌, ap, subst, arith}
use Rattle.std.proofs.lemmas.Bool.{eqb-true, eq-eqb, ltb-true, lt-ltb}
use Rattle.std.proofs.lemmas.Option.{same_Some, cond_some}
use Rattle.std.proofs.lemmas.Slice.Eq.{bytes_eq-Decides}
use Rattle.circ_term.specs.Tree.{Tree, Trees, Var, App, list_of, trees_of, sort_of}
use Rattle.circ_term.proofs.Trees.{list_of-trees_of, trees_of-list_of}
use Rattle.circ_term.specs.Order.{is_same}
use Rattle.circ_term.proofs.Order.{same_itself}
use Rattle.circ_theory.specs.Signature.{Signature, Operator, IsWellSorted, HaveSorts}
use Rattle.circ_theory.specs.Adding.{application}
use Rattle.circ_theory.proofs.Lists.{all_at}
use Rattle.circ_proof.specs.Table.{has, number_in}
use Rattle.circ_proof.proofs.Tables.{number_names}
use Rattle.circ_line.specs.Line.{TableLine, Variable_line, Application_line, table_line}
use Rattle.circ_line.specs.Text.{IsInRange}
use Rattle.circ_proof.specs.Proof.{IsEntry, AreEntries}
use Rattle.circ_proof_text.specs.TableText.{first_at, firsts_at, term_for, entry_of, entries_of}

-- each of these terms is in the table
abbrev pub Have : List Tree → List Tree → Type 0
Have table ts = AllByRecursion (λ a. has table a ≡ true) ts

-- the arguments of the term are in the table
abbrev pub HasArgs : List Tree → Tree → Type 0
HasArgs table (Var n s) = Unit {0}
HasArgs table (App f s ts) = Have table (list_of ts)

pub number_there : (table : List Tree) (t : Tree) → has table t ≡ true → number_in table t < length table
number_there table t h = within table (number_in table t) (number_names table t h)
  where
    within : (us : List Tree) (n : ℕ) → slice_get us n ≡ Some t → n < length us
    within [] n e = absurd (cc)
    within (u ∷ us) zero e = omega arith
    within (u ∷ us) (suc n) e = let r = within us n e in omega (arith, r)

pub has_at : (table : List Tree) (t : Tree) (n : ℕ) → slice_get table n ≡ Some t → has table t ≡ true
has_at [] t n e = absurd (cc)
has_at (u ∷ us) t zero e = let P : Tree → Type 0 = λ x. is_same t x ≡ true in
    let s : is_same t u ≡ true = subst P (sym (same_Some u t e)) (same_itself t) in rw s refl
has_at (u ∷ us) t (suc n) e = go (is_same t u) (has_at us t n e)
  where
    go : (b : Bool) → has us t ≡ true → (b || has us t) ≡ true
    go true h = refl
    go false h = h

-- least numbers

pub first_number : (table : List Tree) (t : Tree) → has table t ≡ true → first_at table (number_in table t) ≡ Some t
first_number table t h =
    ap (λ o. option_and_then (λ u. if number_in table u == number_in table t then Some u else None) o) (number_names table t h)
    ∙ ap (λ b. if b then Some t else None) (eq-eqb (number_in table t) (number_in table t) refl)

pub first_some : (table : List Tree) (n : ℕ) (t : Tree) → first_at table n ≡ Some t → (slice_get table n ≡ Some t) × (number_in table t ≡ n)
first_some table n t e = go (slice_get table n) refl e
  where
    go : (o : Option Tree) → slice_get table n ≡ o → option_and_then (λ u. if number_in table u == n then Some u else None) o ≡ Some t
        → (slice_get table n ≡ Some t) × (number_in table t ≡ n)
    go None f e = absurd (cc)
    go (Some u) f e = let p = cond_some (number_in table u == n) u t e in
        (f ∙ ap (λ x. Some x) p.1, ap (number_in table) (sym p.1) ∙ eqb-true (number_in table u) n p.0)

firsts_number : (table ts : List Tree) → Have table ts → firsts_at table (map (number_in table) ts) ≡ Some ts
firsts_number table [] h = refl
firsts_number table (t ∷ ts) h =
    ap (λ o. option_and_then (λ u. option_map (λ us. u ∷ us) (firsts_at table (map (number_in table) ts))) o) (first_number table t h.0)
    ∙ ap (option_map (λ us. t ∷ us)) (firsts_number table ts h.1)

firsts_some : (table : List Tree) (ns : List ℕ) (ts : List Tree) → firsts_at table ns ≡ Some ts → Have table ts × (map (number_in table) ts ≡ ns)
firsts_some table [] ts e = subst (λ x. Have table x × (map (number_in table) x ≡ [])) (same_Some [] ts e) (tt, refl)
firsts_some table (n ∷ ns) ts e = go (first_at table n) refl (firsts_at table ns) (λ us k. firsts_some table ns us k) refl e
  where
    go : (o : Option Tree) → first_at table n ≡ o → (q : Option (List Tree))
        → ((us : List Tree) → firsts_at table ns ≡ Some us → Have table us × (map (number_in table) us ≡ ns))
        → firsts_at table ns ≡ q → option_and_then (λ t. option_map (λ us. t ∷ us) q) o ≡ Some ts → Have table ts × (map (number_in table) ts ≡ n ∷ ns)
    go None f q ih g e = absurd (cc)
    go (Some t) f None ih g e = absurd (cc)
    go (Some t) f (Some us) ih g e =
        let p : Have table us × (map (number_in table) us ≡ ns) = ih us g in
        let a : (slice_get table n ≡ Some t) × (number_in table t ≡ n) = first_some table n t f in
        let P : List Tree → Type 0 = λ x. Have table x × (map (number_in table) x ≡ n ∷ ns) in
        subst P (same_Some (t ∷ us) ts e) ((has_at table t n a.0, p.0), ap (λ x. x ∷ map (number_in table) us) a.1 ∙ ap (λ xs. n ∷ xs) p.1)

-- applications

made : ℕ → List Tree → Operator → Option Tree
made f ts o = if pointwise nat_eq (map sort_of ts) o.args then Some (App f o.result (trees_of ts)) else None

same_sorts : (sig : Signature) (ts : List Tree) (ss : List ℕ) → HaveSorts sig (trees_of ts) ss → pointwise nat_eq (map sort_of ts) ss ≡ true
same_sorts sig [] [] h = refl
same_sorts sig [] (s ∷ ss) h = absurd h
same_sorts sig (t ∷ ts) [] h = absurd h
same_sorts sig (t ∷ ts) (s ∷ ss) h = rw (eq-eqb (sort_of t) s h.0, same_sorts sig ts ss h.2) refl

have_sorts : (sig : Signature) (ts : List Tree) (ss : List ℕ) → AllByRecursion (IsWellSorted sig) ts → map sort_of ts ≡ ss → HaveSorts sig (trees_of ts) ss
have_sorts sig [] [] g e = tt
have_sorts sig [] (s ∷ ss) g e = absurd (cc)
have_sorts sig (t ∷ ts) [] g e = absurd (cc)
have_sorts sig (t ∷ ts) (s ∷ ss) g e = (cc, g.0, have_sorts sig ts ss g.1 (cc))

good_application : (sig : Signature) (f s : ℕ) (ts : List Tree) → IsWellSorted sig (App f s (trees_of ts)) → application sig f ts ≡ Some (App f s (trees_of ts))
unfolding made
good_application sig f s ts w =
    ap (option_and_then (made f ts)) w.1
    ∙ ap (λ b. if b then Some (App f w.0.result (trees_of ts)) else None) (same_sorts sig ts w.0.args w.3) ∙ ap (λ r. Some (App f r (trees_of ts))) w.2

application_some : (sig : Signature) (f : ℕ) (ts : List Tree) (t : Tree) → AllByRecursion (IsWellSorted sig) ts → application sig f ts ≡ Some t
    → (s : ℕ) × (t ≡ App f s (trees_of ts)) × IsWellSorted sig (App f s (trees_of ts))
application_some sig f ts t g e = go (slice_get sig.ops f) refl e
  where
    go : (o : Option Operator) → slice_get sig.ops f ≡ o
        → option_and_then (λ o. if pointwise nat_eq (map sort_of ts) o.args then Some (App f o.result (trees_of ts)) else None) o ≡ Some t
        → (s : ℕ) × (t ≡ App f s (trees_of ts)) × IsWellSorted sig (App f s (trees_of ts))
    go None h e = absurd (cc)
    go (Some o) h e =
        let p = cond_some (pointwise nat_eq (map sort_of ts) o.args) (App f o.result (trees_of ts)) t e in
        (o.result, sym p.1, (o, h, refl, have_sorts sig ts o.args g ((bytes_eq-Decides (map sort_of ts) o.args).0 p.0)))

-- The line of a term has this term.
pub entry_term : (sig : Signature) (table : List Tree) (t : Tree) → HasArgs table t → IsWellSorted sig t → term_for sig table (entry_of table t) ≡ Some t
entry_term sig table (Var n s) h w = ap (λ b. if b then Some (Var n s) else None) (lt-ltb s (length sig.sorts) w)
entry_term sig table (App f s ts) h w =
    let P : Trees → Type 0 = λ x. IsWellSorted sig (App f s x) in
    ap (option_and_then (application sig f)) (firsts_number table (list_of ts) h)
    ∙ good_application sig f s (list_of ts) (subst P (sym (trees_of-list_of ts)) w) ∙ ap (λ x. Some (App f s x)) (trees_of-list_of ts)

sorted_among : (sig : Signature) (table ts : List Tree) → AllByRecursion (IsWellSorted sig) table → Have table ts → AllByRecursion (IsWellSorted sig) ts
sorted_among sig table [] g h = tt
sorted_among sig table (t ∷ ts) g h =
    (all_at (IsWellSorted sig) table (number_in table t) t g (number_names table t h.0), sorted_among sig table ts g h.1)

-- what the term of a line is
pub record HasEntry (sig : Signature) (table : List Tree) (l : TableLine) (t : Tree) : Type 0 where
  pub entry : entry_of table t ≡ l
  pub args : HasArgs table t
  pub sorted : IsWellSorted sig t

-- A line that has a term is that term's line.
pub term_entry : (sig : Signature) (table : List Tree) (l : TableLine) (t : Tree) → AllByRecursion (IsWellSorted sig) table → term_for sig table l ≡ Some t
    → HasEntry sig table l t
term_entry sig table (Variable_line n s) t g e =
    let p = cond_some (nat_lt s (length sig.sorts)) (Var n s) t e in
    let P : Tree → Type 0 = HasEntry sig table (Variable_line n s) in
    subst P p.1 (record { entry = refl; args = tt; sorted = ltb-true s (length sig.sorts) p.0 })
term_entry sig table (Application_line f ns) t g e = go (firsts_at table ns) refl e
  where
    go : (o : Option (List Tree)) → firsts_at table ns ≡ o → option_and_then (application sig f) o ≡ Some t → HasEntry sig table (Application_line f ns) t
    go None h e = absurd (cc)
    go (Some ts) h e =
        let a : Have table ts × (map (number_in table) ts ≡ ns) = firsts_some table ns ts h in
        let m : (s : ℕ) × (t ≡ App f s (trees_of ts)) × IsWellSorted sig (App f s (trees_of ts))
        = application_some sig f ts t (sorted_among sig table ts g a.0) e in
        let P : Tree → Type 0 = HasEntry sig table (Application_line f ns) in
        let Q : List Tree → Type 0 = Have table in
        subst P (sym m.1) (record {
          entry = ap (λ x. Application_line f (map (number_in table) x)) (list_of-trees_of ts) ∙ ap (Application_line f) a.1;
          args = subst Q (sym (list_of-trees_of ts)) a.0;
          sorted = m.2;
        })

pub is_entry : (sig : Signature) (table : List Tree) (l : TableLine) (t : Tree) → HasEntry sig table l t → IsInRange (table_line l) → IsEntry table t
is_entry sig table l (Var n s) h r = let P : TableLine → Type 0 = λ x. IsInRange (table_line x) in (subst P (sym h.entry) r).0
is_entry sig table l (App f s ts) h r = h.args

pub entry_args : (before : List Tree) (t : Tree) → IsEntry before t → HasArgs before t
entry_args before (Var n s) h = tt
entry_args before (App f s ts) h = h

-- A table is determined by its lines.
pub one_table : (sig : Signature) (before ts us : List Tree) → AreEntries before ts → AreEntries before us
    → AllByRecursion (IsWellSorted sig) ts → AllByRecursion (IsWellSorted sig) us → entries_of before ts ≡ entries_of before us → ts ≡ us
one_table sig before [] [] b c g h e = refl
one_table sig before [] (u ∷ us) b c g h e = absurd (cc)
one_table sig before (t ∷ ts) [] b c g h e = absurd (cc)
one_table sig before (t ∷ ts) (u ∷ us) b c g h e =
    let first : entry_of before t ≡ entry_of before u = cc in
    let same : t ≡ u = same_Some t u (sym (entry_term sig before t (entry_args before t b.0) g.0)
    ∙ ap (term_for sig before) first ∙ entry_term sig before u (entry_args before u c.0) h.0) in
    let P : Tree → Type 0 = λ x. AreEntries (before ++ x ∷ []) ts in
    let rest : entries_of (before ++ t ∷ []) ts ≡ entries_of (before ++ u ∷ []) us = cc in
    let back : entries_of (before ++ u ∷ []) ts ≡ entries_of (before ++ t ∷ []) ts = ap (λ x. entries_of (before ++ x ∷ []) ts) (sym same) in
    ap (λ x. x ∷ ts) same ∙ ap (λ xs. u ∷ xs) (one_table sig (before ++ u ∷ []) ts us (subst P same b.1) c.1 g.1 h.1 (back ∙ rest))
