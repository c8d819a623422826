-- Tables only grow, and the numbers of their terms stay.
use Rattle.std.specs.Prelude.{◌≡◌, ℕ, ◌+◌, ◌≤◌, Bool, true, false, ◌||◌, not, if◌then◌else◌, List, [], ◌∷◌, ◌++◌, length, find, Some, refl}
use Rattle.std.specs.List.{slice_get, AllByRecursion}
use Rattle.std.proofs.Common.{ap, sym, subst, ◌∙◌, arith, append_assoc, append-nil, length-append}
use Rattle.std.proofs.lemmas.List.Folds.{find_at}
use Rattle.circ_term.specs.Tree.{Tree, Trees, Var, App, none, more, list_of}
use Rattle.circ_term.specs.Order.{is_same}
use Rattle.circ_term.specs.Growing.{Grows}
use Rattle.circ_term.proofs.Order.{same_here, same_itself}
use Rattle.circ_proof.specs.Table.{has, number_in, entered, added, all_added}

-- which terms a table has

pub has_front : (table rest : List Tree) (t : Tree) → has table t ≡ true → has (table ++ rest) t ≡ true
has_front [] rest t h = absurd (cc)
has_front (u ∷ table) rest t h = go (is_same t u) (has_front table rest t) h
  where
    go : (b : Bool) → (has table t ≡ true → has (table ++ rest) t ≡ true) → (b || has table t) ≡ true → (b || has (table ++ rest) t) ≡ true
    go true ih h = refl
    go false ih h = ih h

has_last : (table : List Tree) (t : Tree) → has (table ++ t ∷ []) t ≡ true
has_last [] t = rw (same_itself t) refl
has_last (u ∷ table) t = go (is_same t u) (has_last table t)
  where
    go : (b : Bool) → has (table ++ t ∷ []) t ≡ true → (b || has (table ++ t ∷ []) t) ≡ true
    go true ih = refl
    go false ih = ih

-- the number of a term that is there

term_found : (table : List Tree) (t : Tree) → has table t ≡ true → find (is_same t) table ≡ Some t
term_found [] t h = absurd (cc)
term_found (u ∷ table) t h = go (is_same t u) refl (term_found table t) h
  where
    go : (b : Bool) → is_same t u ≡ b → (has table t ≡ true → find (is_same t) table ≡ Some t) → (b || has table t) ≡ true
        → (if b then Some u else find (is_same t) table) ≡ Some t
    go true e ih h = ap Some (sym (same_here t u e))
    go false e ih h = ih h

pub number_names : (table : List Tree) (t : Tree) → has table t ≡ true → slice_get table (number_in table t) ≡ Some t
number_names table t h = sym (find_at (is_same t) table) ∙ term_found table t h

pub number_stays : (table rest : List Tree) (t : Tree) → has table t ≡ true → number_in (table ++ rest) t ≡ number_in table t
number_stays [] rest t h = absurd (cc)
number_stays (u ∷ table) rest t h = go (is_same t u) (number_stays table rest t) h
  where
    go : (b : Bool) → (has table t ≡ true → number_in (table ++ rest) t ≡ number_in table t) → (b || has table t) ≡ true
        → (if not b then 1 + number_in (table ++ rest) t else 0) ≡ (if not b then 1 + number_in table t else 0)
    go true ih h = refl
    go false ih h = ap (λ n. 1 + n) (ih h)

pub number_bound : (table : List Tree) (t : Tree) → number_in table t ≤ length table
number_bound [] t = omega arith
number_bound (u ∷ table) t = go (is_same t u) (number_bound table t)
  where
    go : (b : Bool) → number_in table t ≤ length table → (if not b then 1 + number_in table t else 0) ≤ length (u ∷ table)
    go true ih = omega arith
    go false ih = omega (arith, ih)

-- a term that is not there gets the next number

pub number_absent : (table : List Tree) (t : Tree) → has table t ≡ false → number_in table t ≡ length table
number_absent [] t h = refl
number_absent (u ∷ table) t h = go (is_same t u) (number_absent table t) h
  where
    go : (b : Bool) → (has table t ≡ false → number_in table t ≡ length table) → (b || has table t) ≡ false
        → (if not b then 1 + number_in table t else 0) ≡ length (u ∷ table)
    go true ih h = absurd (cc)
    go false ih h = let r = ih h in omega (arith, r)

pub number_last : (table : List Tree) (t : Tree) → has table t ≡ false → number_in (table ++ t ∷ []) t ≡ length table
number_last [] t h = go (is_same t t) (same_itself t)
  where
    go : (b : Bool) → b ≡ true → (if not b then 1 + 0 else 0) ≡ 0
    go true e = refl
    go false e = absurd (cc)
number_last (u ∷ table) t h = go (is_same t u) (number_last table t) h
  where
    go : (b : Bool) → (has table t ≡ false → number_in (table ++ t ∷ []) t ≡ length table) → (b || has table t) ≡ false
        → (if not b then 1 + number_in (table ++ t ∷ []) t else 0) ≡ length (u ∷ table)
    go true ih h = absurd (cc)
    go false ih h = let r = ih h in omega (arith, r)

-- how tables go on

pub grows_self : (table : List Tree) → Grows table table
grows_self table = ([], sym (append-nil table))

pub grows_more : (old mid new : List Tree) → Grows old mid → Grows mid new → Grows old new
grows_more old mid new a b = (a.0 ++ b.0, b.1 ∙ ap (λ table. table ++ b.0) a.1 ∙ append_assoc old a.0 b.0)

pub grows_length : (old new : List Tree) → Grows old new → length old ≤ length new
grows_length old new a = let e = ap length a.1 ∙ length-append old a.0 in omega (arith, e)

entered_grows : (table : List Tree) (t : Tree) → Grows table (entered table t)
entered_grows table t = go (has table t)
  where
    go : (b : Bool) → Grows table (if b then table else table ++ t ∷ [])
    go true = grows_self table
    go false = (t ∷ [], refl)

mutual
  pub added_grows : (table : List Tree) (t : Tree) → Grows table (added table t)
  added_grows table (Var n s) = entered_grows table (Var n s)
  added_grows table (App f s ts) =
      grows_more table (all_added table ts) (added table (App f s ts)) (all_added_grows table ts) (entered_grows (all_added table ts) (App f s ts))

  pub all_added_grows : (table : List Tree) (ts : Trees) → Grows table (all_added table ts)
  all_added_grows table none = grows_self table
  all_added_grows table (more t ts) =
      grows_more table (added table t) (all_added table (more t ts)) (added_grows table t) (all_added_grows (added table t) ts)

has_later : (old new : List Tree) (t : Tree) → Grows old new → has old t ≡ true → has new t ≡ true
has_later old new t a h = let P : List Tree → Type 0 = λ x. has x t ≡ true in subst P (sym a.1) (has_front old a.0 t h)

-- what is added is there

entered_has : (table : List Tree) (t : Tree) → has (entered table t) t ≡ true
entered_has table t = go (has table t) refl
  where
    go : (b : Bool) → has table t ≡ b → has (if b then table else table ++ t ∷ []) t ≡ true
    go true h = h
    go false h = has_last table t

pub added_has : (table : List Tree) (t : Tree) → has (added table t) t ≡ true
added_has table (Var n s) = entered_has table (Var n s)
added_has table (App f s ts) = entered_has (all_added table ts) (App f s ts)

pub all_added_have : (table : List Tree) (ts : Trees) → AllByRecursion (λ t. has (all_added table ts) t ≡ true) (list_of ts)
all_added_have table none = tt
all_added_have table (more t ts) =
    (has_later (added table t) (all_added table (more t ts)) t (all_added_grows (added table t) ts) (added_has table t), all_added_have (added table t) ts)

pub added_names : (old new : List Tree) (t : Tree) (n : ℕ) → new ≡ added old t → n ≡ number_in new t → slice_get new n ≡ Some t
added_names old new t n e m =
    let P : List Tree → Type 0 = λ table. has table t ≡ true in
    ap (slice_get new) m ∙ number_names new t (subst P (sym e) (added_has old t))
