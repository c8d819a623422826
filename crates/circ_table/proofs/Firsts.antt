-- Terms by their least numbers: they stay when a table grows, and a term has one.
use Rattle.std.specs.Prelude.{◌≡◌, ℕ, zero, suc, ◌+◌, ◌<◌, ◌==◌, Bool, true, false, ◌||◌, if◌then◌else◌, List, [], ◌∷◌, ◌++◌, length, take, drop, Option, Some, None, refl}
use Rattle.std.specs.List.{slice_get, AllByRecursion}
use Rattle.std.specs.Option.{option_and_then, option_map}
use Rattle.std.proofs.Common.{ap, sym, subst, ◌∙◌, arith, append_assoc, get_or}
use Rattle.std.proofs.lemmas.Bool.{eqb-true, eq-eqb}
use Rattle.std.proofs.lemmas.List.{get_or-take, drop_more}
use Rattle.std.proofs.lemmas.Option.{same_Some, slice_get_within, slice_get_read, get_or_from_slice_get}
use Rattle.circ_hash_chains.proofs.Lists.{get_front}
use Rattle.circ_term.specs.Tree.{Tree, Var, trees_of}
use Rattle.circ_term.specs.Limits.{or_else, first_limits, IsWithinLimits}
use Rattle.circ_term.specs.Order.{is_same}
use Rattle.circ_term.proofs.Order.{same_itself}
use Rattle.circ_proof.specs.Table.{has, number_in}
use Rattle.circ_proof.proofs.Tables.{number_stays}
use Rattle.circ_table.specs.Table.{first_at, firsts_at}
use Rattle.circ_table.specs.Lines.{picked}

-- lists that go on

pub get_seam : {X : Type 0} (xs : List X) (x : X) (ys : List X) → slice_get (xs ++ x ∷ ys) (length xs) ≡ Some x
get_seam [] x ys = refl
get_seam (z ∷ xs) x ys = get_seam xs x ys

pub get_there : {X : Type 0} (xs : List X) (n : ℕ) → n < length xs → (x : X) × (slice_get xs n ≡ Some x)
get_there [] n h = absurd (omega arith)
get_there (x ∷ xs) zero h = (x, refl)
get_there (x ∷ xs) (suc n) h = get_there xs n (omega arith)

-- the term is there, by any number

pub has_at : (table : List Tree) (n : ℕ) (t : Tree) → slice_get table n ≡ Some t → has table t ≡ true
has_at [] n t e = absurd (cc)
has_at (u ∷ table) zero t e = let P : Tree → Type 0 = λ x. has (x ∷ table) t ≡ true in subst P (sym (same_Some u t e)) (rw (same_itself t) refl)
has_at (u ∷ table) (suc n) t e = go (is_same t u) (has_at table n t e)
  where
    go : (b : Bool) → has table t ≡ true → (b || has table t) ≡ true
    go true h = refl
    go false h = h

-- one term by its least number

pub first_made : (table : List Tree) (n : ℕ) (t : Tree) → slice_get table n ≡ Some t → number_in table t ≡ n → first_at table n ≡ Some t
first_made table n t e m = ap (λ o. option_and_then (λ u. if number_in table u == n then Some u else None) o) e ∙ ap (λ b. if b then Some t else None) (eq-eqb (number_in table t) n m)

pub first_parts : (table : List Tree) (n : ℕ) (t : Tree) → first_at table n ≡ Some t → (slice_get table n ≡ Some t) × (number_in table t ≡ n)
first_parts table n t e = go (slice_get table n) e
  where
    there : (u : Tree) (b : Bool) → (number_in table u == n) ≡ b → (if b then Some u else None) ≡ Some t → (Some u ≡ Some t) × (number_in table t ≡ n)
    there u true f h = (h, let P : Tree → Type 0 = λ x. number_in table x ≡ n in subst P (same_Some u t h) (eqb-true (number_in table u) n f))
    there u false f h = absurd (cc)

    go : (o : Option Tree) → option_and_then (λ u. if number_in table u == n then Some u else None) o ≡ Some t → (o ≡ Some t) × (number_in table t ≡ n)
    go None h = absurd (cc)
    go (Some u) h = there u (number_in table u == n) refl h

pub first_later : (table rest : List Tree) (n : ℕ) (t : Tree) → first_at table n ≡ Some t → first_at (table ++ rest) n ≡ Some t
first_later table rest n t e =
    let p = first_parts table n t e in
    first_made (table ++ rest) n t (get_front table rest n t p.0) (number_stays table rest t (has_at table n t p.0) ∙ p.1)

-- several

cons_parts : (o : Option Tree) (q : Option (List Tree)) (ts : List Tree) → option_and_then (λ t. option_map (λ us. t ∷ us) q) o ≡ Some ts
    → (t : Tree) × (us : List Tree) × (o ≡ Some t) × (q ≡ Some us) × (ts ≡ t ∷ us)
cons_parts None q ts e = absurd (cc)
cons_parts (Some t) None ts e = absurd (cc)
cons_parts (Some t) (Some us) ts e = (t, us, refl, refl, sym (same_Some (t ∷ us) ts e))

cons_made : (o : Option Tree) (q : Option (List Tree)) (t : Tree) (us : List Tree) → o ≡ Some t → q ≡ Some us → option_and_then (λ x. option_map (λ xs. x ∷ xs) q) o ≡ Some (t ∷ us)
cons_made o q t us e f = rw (e, f) refl

pub firsts_later : (table rest : List Tree) (ns : List ℕ) (ts : List Tree) → firsts_at table ns ≡ Some ts → firsts_at (table ++ rest) ns ≡ Some ts
firsts_later table rest [] ts e = e
firsts_later table rest (n ∷ ns) ts e =
    let p = cons_parts (first_at table n) (firsts_at table ns) ts e in
    cons_made (first_at (table ++ rest) n) (firsts_at (table ++ rest) ns) p.0 p.1 (first_later table rest n p.0 p.2) (firsts_later table rest ns p.1 p.3) ∙ ap Some (sym p.4)

pub firsts_below : (table : List Tree) (ns : List ℕ) (ts : List Tree) → firsts_at table ns ≡ Some ts → AllByRecursion (λ n. n < length table) ns
firsts_below table [] ts e = tt
firsts_below table (n ∷ ns) ts e =
    let p = cons_parts (first_at table n) (firsts_at table ns) ts e in
    (slice_get_within table n p.0 (first_parts table n p.0 p.2).0, firsts_below table ns p.1 p.3)

-- each number, and what is left behind it
pub firsts_next : (table : List Tree) (n : ℕ) (ns : List ℕ) (ts : List Tree) → firsts_at table (n ∷ ns) ≡ Some ts
    → (t : Tree) × (us : List Tree) × (first_at table n ≡ Some t) × (firsts_at table ns ≡ Some us) × (ts ≡ t ∷ us)
firsts_next table n ns ts e = cons_parts (first_at table n) (firsts_at table ns) ts e

pub firsts_once : (table : List Tree) (ns ms : List ℕ) (ts : List Tree) → firsts_at table ns ≡ Some ts → firsts_at table ms ≡ Some ts → ns ≡ ms
firsts_once table [] [] ts e f = refl
firsts_once table [] (m ∷ ms) ts e f = absurd (let p = firsts_next table m ms ts f in let z : Some [] ≡ Some (p.0 ∷ p.1) = e ∙ ap Some p.4 in cc)
firsts_once table (n ∷ ns) [] ts e f = absurd (let p = firsts_next table n ns ts e in let z : Some [] ≡ Some (p.0 ∷ p.1) = f ∙ ap Some p.4 in cc)
firsts_once table (n ∷ ns) (m ∷ ms) ts e f =
    let p = firsts_next table n ns ts e in
    let q = firsts_next table m ms ts f in
    let same : p.0 ∷ p.1 ≡ q.0 ∷ q.1 = sym p.4 ∙ q.4 in
    let head : p.0 ≡ q.0 = cc in
    let tail : p.1 ≡ q.1 = cc in
    let number : n ≡ m = sym (first_parts table n p.0 p.2).1 ∙ ap (number_in table) head ∙ (first_parts table m q.0 q.2).1 in
    ap (λ k. k ∷ ns) number ∙ ap (λ ks. m ∷ ks) (firsts_once table ns ms p.1 p.3 (q.3 ∙ ap Some (sym tail)))

-- how they are read

pub picked_firsts : (table : List Tree) (ns : List ℕ) (ts : List Tree) → firsts_at table ns ≡ Some ts → picked table ns ≡ ts
picked_firsts table [] ts e = same_Some [] ts e
picked_firsts table (n ∷ ns) ts e =
    let p = firsts_next table n ns ts e in
    ap (λ t. t ∷ picked table ns) (get_or_from_slice_get table n p.0 (Var 0 0) (first_parts table n p.0 p.2).0) ∙ ap (λ ts. p.0 ∷ ts) (picked_firsts table ns p.1 p.3) ∙ sym p.4

pub firsts_length : (table : List Tree) (ns : List ℕ) (ts : List Tree) → firsts_at table ns ≡ Some ts → length ts ≡ length ns
firsts_length table [] ts e = ap length (sym (same_Some [] ts e))
firsts_length table (n ∷ ns) ts e = let p = firsts_next table n ns ts e in ap length p.4 ∙ ap suc (firsts_length table ns p.1 p.3)

-- one more is picked
pub picked_next : (table : List Tree) (ns : List ℕ) (i : ℕ) (u : Tree) (copy new all : List Tree) → i < length ns → get_or ns i 0 < length table
    → u ≡ get_or table (get_or ns i 0) u → new ≡ copy ++ u ∷ [] → copy ++ picked table (drop i ns) ≡ all → new ++ picked table (drop (i + 1) ns) ≡ all
picked_next table ns i u copy new all within there read put so_far =
    let n = get_or ns i 0 in
    let rest = picked table (drop (i + 1) ns) in
    let first : get_or table n (Var 0 0) ≡ u = get_or_from_slice_get table n u (Var 0 0) (slice_get_read table (length table) n u refl there read) in
    ap (λ ts. ts ++ rest) put
    ∙ append_assoc copy (u ∷ []) rest
    ∙ ap (λ t. copy ++ t ∷ rest) (sym first)
    ∙ ap (λ ms. copy ++ picked table ms) (sym (drop_more ns i 0 within))
    ∙ so_far

pub picked_take : (table : List Tree) (m : ℕ) (ns : List ℕ) → AllByRecursion (λ n. n < m) ns → picked (take m table) ns ≡ picked table ns
picked_take table m [] h = refl
picked_take table m (n ∷ ns) h =
    ap (λ t. t ∷ picked (take m table) ns) (get_or-take m table n (Var 0 0) h.0) ∙ ap (λ ts. get_or table n (Var 0 0) ∷ ts) (picked_take table m ns h.1)

pub firsts_within : (table : List Tree) (ns : List ℕ) (ts : List Tree) → ((n : ℕ) (t : Tree) → slice_get table n ≡ Some t → IsWithinLimits t) → firsts_at table ns ≡ Some ts
    → first_limits (trees_of ts) ≡ None
firsts_within table [] ts h e = ap (λ us. first_limits (trees_of us)) (sym (same_Some [] ts e))
firsts_within table (n ∷ ns) ts h e =
    let p = firsts_next table n ns ts e in
    ap (λ us. first_limits (trees_of us)) p.4
    ∙ ap (λ o. or_else o (first_limits (trees_of p.1))) (h n p.0 (first_parts table n p.0 p.2).0)
    ∙ firsts_within table ns p.1 h p.3
