-- The first numbers that are free, and the entries whose parameters have them.
use Rattle.std.proofs.Common.{◌≡◌, ◌≢◌, ◌<◌, ◌≤◌, ◌+◌, ◌-◌, ◌||◌, ◌==◌, ℕ, zero, suc, max, List, [], ◌∷◌, ◌++◌, length, map, take, drop, nat_eq, Bool, not, true, false, refl, sym, ap, ◌∙◌, subst, arith, append_assoc, append-nil, length-append, if◌then◌else◌, Option, Some, None, unwrap_or}
use Rattle.std.specs.List.{slice_get, filter, list_any, AllByRecursion}
use Rattle.std.proofs.lemmas.Bool.{eqb-true, ne_eqb}
use Rattle.std.proofs.lemmas.List.Elements.{filter-append}
use Rattle.circ_term.specs.Tree.{Tree, Trees, Var, App, none, more, sort_of}
use Rattle.circ_theory.specs.Fresh.{above, all_above, fresh_after, parameter_sorts}
use Rattle.circ_theory.specs.Observing.{is_parameter}
use Rattle.circ_theory.specs.Signature.{Signature, IsWellSorted, HaveSorts, IsSort}
use Rattle.circ_theory.specs.Theory.{Theory, Derivative}
use Rattle.circ_theory.specs.Variables.{Variable, is_variable, seen, seen_in, seen_in_all, occurrences, all_occurrences}
use Rattle.circ_theory.specs.WellFormed.{IsWellFormed}
use Rattle.circ_theory.specs.Goal.{Goal}
use Rattle.circ_theory.proofs.Rewriting.{contains_at}
use Rattle.circ_entry.specs.Entries.{no_derivative, derivative_at, Written, HaveParameters}
use Rattle.circ_reports.specs.Expand.{numbers_from, numbers_in, is_free, free_numbers, variables_named, sorts_at, entries_named, parameter_count}

-- ---- numbers one after another

numbers_more : (k c d : ℕ) → numbers_from k (c + d) ≡ numbers_from k c ++ numbers_from (k + c) d
numbers_more k zero d =
    let z : 0 + d ≡ d = omega arith in
    let e : k ≡ k + 0 = omega arith in
    ap (numbers_from k) z ∙ ap (λ x. numbers_from x d) e
numbers_more k (suc c) d =
    let z : suc c + d ≡ suc (c + d) = omega arith in
    let e : (k + 1) + c ≡ k + suc c = omega arith in
    ap (numbers_from k) z ∙ ap (λ xs. k ∷ xs) (numbers_more (k + 1) c d ∙ ap (λ x. numbers_from (k + 1) c ++ numbers_from x d) e)

numbers_next : (n : ℕ) → numbers_from 0 (n + 1) ≡ numbers_from 0 n ++ n ∷ []
numbers_next n = let e : 0 + n ≡ n = omega arith in numbers_more 0 n 1 ∙ ap (λ m. numbers_from 0 n ++ m ∷ []) e

module _ (taken : List ℕ) where
  -- the free ones below n + 1
  free_next : (n : ℕ) → filter (is_free taken) (numbers_from 0 (n + 1)) ≡ filter (is_free taken) (numbers_from 0 n) ++ filter (is_free taken) (n ∷ [])
  free_next n = ap (filter (is_free taken)) (numbers_next n) ∙ filter-append (is_free taken) (numbers_from 0 n) (n ∷ [])

  pub taken_next : (n : ℕ) → list_any (nat_eq n) taken ≡ true → filter (is_free taken) (numbers_from 0 (n + 1)) ≡ filter (is_free taken) (numbers_from 0 n)
  taken_next n e = free_next n ∙ rw e (append-nil (filter (is_free taken) (numbers_from 0 n)))

  pub found_next : (n : ℕ) → list_any (nat_eq n) taken ≡ false
      → filter (is_free taken) (numbers_from 0 (n + 1)) ≡ filter (is_free taken) (numbers_from 0 n) ++ n ∷ []
  found_next n e = free_next n ∙ rw e refl

  -- from a number on all are free
  module _ (fresh : ℕ) (free : (n : ℕ) → fresh ≤ n → list_any (nat_eq n) taken ≡ false) where
    all_free : (k c : ℕ) → fresh ≤ k → filter (is_free taken) (numbers_from k c) ≡ numbers_from k c
    all_free k zero l = refl
    all_free k (suc c) l = rw (free k l) (ap (λ xs. k ∷ xs) (all_free (k + 1) c (omega (arith, l))))

    count_from : (k c : ℕ) → length (numbers_from k c) ≡ c
    count_from k zero = refl
    count_from k (suc c) = ap suc (count_from (k + 1) c)

    -- so many are free below this
    pub enough : (c : ℕ) → c ≤ length (filter (is_free taken) (numbers_from 0 (fresh + c)))
    enough c =
        let parts = ap (filter (is_free taken)) (numbers_more 0 fresh c) ∙ filter-append (is_free taken) (numbers_from 0 fresh) (numbers_from (0 + fresh) c) in
        let more = all_free (0 + fresh) c (omega arith) in
        let count = count_from (0 + fresh) c in
        let sum = length-append (filter (is_free taken) (numbers_from 0 fresh)) (filter (is_free taken) (numbers_from (0 + fresh) c)) in
        omega (arith, ap length parts, sum, ap length more, count)

-- the first of them, where so many are found
pub first_free : (taken : List ℕ) (n most count : ℕ) → n ≤ most → length (filter (is_free taken) (numbers_from 0 n)) ≡ count
    → take count (filter (is_free taken) (numbers_from 0 most)) ≡ filter (is_free taken) (numbers_from 0 n)
first_free taken n most count l e =
    let rest : n + (most - n) ≡ most = omega (arith, l) in
    let parts = ap (λ m. filter (is_free taken) (numbers_from 0 m)) (sym rest) ∙ ap (filter (is_free taken)) (numbers_more 0 n (most - n))
    ∙ filter-append (is_free taken) (numbers_from 0 n) (numbers_from (0 + n) (most - n)) in
    ap (take count) parts ∙ front (filter (is_free taken) (numbers_from 0 n)) (filter (is_free taken) (numbers_from (0 + n) (most - n))) count e
  where
    front : (xs ys : List ℕ) (c : ℕ) → length xs ≡ c → take c (xs ++ ys) ≡ xs
    front [] ys zero e = refl
    front [] ys (suc c) e = absurd (cc)
    front (x ∷ xs) ys zero e = absurd (cc)
    front (x ∷ xs) ys (suc c) e = ap (λ zs. x ∷ zs) (front xs ys c (cc))

-- ---- the numbers of a goal's variables are below the fresh ones

abbrev IsBelow : ℕ → Variable → Type 0
IsBelow b v = v.number < b

all_seen : (b : ℕ) (v : Variable) (vs : List Variable) → v.number < b → AllByRecursion (IsBelow b) vs → AllByRecursion (IsBelow b) (seen v vs)
all_seen b v vs l a = go (list_any (is_variable v) vs)
  where
    pushed : (ws : List Variable) → AllByRecursion (IsBelow b) ws → AllByRecursion (IsBelow b) (ws ++ v ∷ [])
    pushed [] x = (l, tt)
    pushed (w ∷ ws) x = (x.0, pushed ws x.1)

    go : (c : Bool) → AllByRecursion (IsBelow b) (if c then vs else vs ++ v ∷ [])
    go true = a
    go false = pushed vs a

mutual
  seen_below : (b : ℕ) (t : Tree) (vs : List Variable) → above t ≤ b → AllByRecursion (IsBelow b) vs → AllByRecursion (IsBelow b) (seen_in t vs)
  seen_below b (Var n s) vs l a = all_seen b (record { number = n; sort = s }) vs (omega (arith, l)) a
  seen_below b (App f s ts) vs l a = all_seen_below b ts vs l a

  all_seen_below : (b : ℕ) (ts : Trees) (vs : List Variable) → all_above ts ≤ b → AllByRecursion (IsBelow b) vs → AllByRecursion (IsBelow b) (seen_in_all ts vs)
  all_seen_below b none vs l a = a
  all_seen_below b (more t ts) vs l a = all_seen_below b ts (seen_in t vs) (omega (arith, l)) (seen_below b t vs (omega (arith, l)) a)

none_above : (b n : ℕ) (vs : List Variable) → b ≤ n → AllByRecursion (IsBelow b) vs → list_any (nat_eq n) (map (λ v. v.number) vs) ≡ false
none_above b n [] l a = refl
none_above b n (v ∷ vs) l a = let other = ne_eqb n v.number (λ e. absurd (omega (arith, l, a.0, e))) in rw other (none_above b n vs l a.1)

pub fresh_free : (g : Goal) (n : ℕ) → fresh_after g.left g.right ≤ n → list_any (nat_eq n) (numbers_in g) ≡ false
fresh_free g n l =
    let b = fresh_after g.left g.right in
    none_above b n (seen_in g.right (seen_in g.left [])) l
    (seen_below b g.right (seen_in g.left []) (omega arith) (seen_below b g.left [] (omega arith) tt))

-- ---- one number more is looked at

-- there is one more to be looked at where not enough are found
pub room : (g : Goal) (n count : ℕ) (free : List ℕ) → free ≡ filter (is_free (numbers_in g)) (numbers_from 0 n) → length free < count
    → n ≤ fresh_after g.left g.right + count → n < fresh_after g.left g.right + count
room g n count free e l m =
    let all = enough (numbers_in g) (fresh_after g.left g.right) (fresh_free g) count in
    let apart : n ≢ fresh_after g.left g.right + count = λ same.
    let same_count = ap length e ∙ ap (λ x. length (filter (is_free (numbers_in g)) (numbers_from 0 x))) same in omega (arith, all, l, same_count) in
    omega (arith, m, apart)

-- free among the keys of a set that has the goal's numbers
same_free : (g : Goal) (keys : List ℕ) → ((n : ℕ) → list_any (nat_eq n) keys ≡ list_any (nat_eq n) (numbers_in g)) → (n : ℕ)
    → filter (is_free keys) (n ∷ []) ≡ filter (is_free (numbers_in g)) (n ∷ [])
same_free g keys same n = ap (λ b. if not b then n ∷ [] else []) (same n)

pub more_free : (g : Goal) (keys : List ℕ) → ((n : ℕ) → list_any (nat_eq n) keys ≡ list_any (nat_eq n) (numbers_in g)) → (n next : ℕ) (free new : List ℕ)
    → next ≡ n + 1 → free ≡ filter (is_free (numbers_in g)) (numbers_from 0 n) → new ≡ free ++ filter (is_free keys) (n ∷ [])
    → new ≡ filter (is_free (numbers_in g)) (numbers_from 0 next)
more_free g keys same n next free new e f h =
    h ∙ ap (λ xs. xs ++ filter (is_free keys) (n ∷ [])) f ∙ ap (λ xs. filter (is_free (numbers_in g)) (numbers_from 0 n) ++ xs) (same_free g keys same n)
    ∙ sym (free_next (numbers_in g) n) ∙ ap (λ x. filter (is_free (numbers_in g)) (numbers_from 0 x)) (sym e)

-- at most one more
one_more : (p : ℕ → Bool) (n : ℕ) → length (filter p (n ∷ [])) ≤ 1
one_more p n = go (p n)
  where
    go : (b : Bool) → length (if b then n ∷ [] else []) ≤ 1
    go true = omega arith
    go false = omega arith

pub few_more : (keys : List ℕ) (n count : ℕ) (free new : List ℕ) → length free < count → new ≡ free ++ filter (is_free keys) (n ∷ []) → length new ≤ count
few_more keys n count free new l h =
    let one = one_more (is_free keys) n in
    omega (arith, l, one, ap length h, length-append free (filter (is_free keys) (n ∷ [])))

-- there are as many as are asked for
free_from_list : (taken : List ℕ) (most count : ℕ) → count ≤ length (filter (is_free taken) (numbers_from 0 most))
    → length (take count (filter (is_free taken) (numbers_from 0 most))) ≡ count
free_from_list taken most count l = front (filter (is_free taken) (numbers_from 0 most)) count l
  where
    front : (xs : List ℕ) (c : ℕ) → c ≤ length xs → length (take c xs) ≡ c
    front xs zero l = refl
    front [] (suc c) l = absurd (omega (arith, l))
    front (x ∷ xs) (suc c) l = ap suc (front xs c (omega (arith, l)))

pub free_count : (g : Goal) (count : ℕ) → length (free_numbers g count) ≡ count
free_count g count =
    free_from_list (numbers_in g) (fresh_after g.left g.right + count) count (enough (numbers_in g) (fresh_after g.left g.right) (fresh_free g) count)

-- ---- the entries have parameters that fit

all_filtered : {X : Type 0} (P : X → Type 0) (p : X → Bool) (xs : List X) → AllByRecursion P xs → AllByRecursion P (filter p xs)
all_filtered P p [] a = tt
all_filtered P p (x ∷ xs) a = go (p x) (all_filtered P p xs a.1)
  where
    go : (b : Bool) → AllByRecursion P (filter p xs) → AllByRecursion P (if b then x ∷ filter p xs else filter p xs)
    go true ih = (a.0, ih)
    go false ih = ih

all_mapped : {X Y : Type 0} (P : Y → Type 0) (f : X → Y) (xs : List X) → AllByRecursion (λ x. P (f x)) xs → AllByRecursion P (map f xs)
all_mapped P f [] a = tt
all_mapped P f (x ∷ xs) a = (a.0, all_mapped P f xs a.1)

all_joined : {X : Type 0} (P : X → Type 0) (xs ys : List X) → AllByRecursion P xs → AllByRecursion P ys → AllByRecursion P (xs ++ ys)
all_joined P [] ys a b = b
all_joined P (x ∷ xs) ys a b = (a.0, all_joined P xs ys a.1 b)

mutual
  sorts_occur : (sig : Signature) (t : Tree) → IsWellSorted sig t → AllByRecursion (λ (v : Variable). IsSort sig v.sort) (occurrences t)
  sorts_occur sig (Var n s) h = (h, tt)
  sorts_occur sig (App f s ts) h = all_sorts_occur sig ts h.0.args h.3

  all_sorts_occur : (sig : Signature) (ts : Trees) (ss : List ℕ) → HaveSorts sig ts ss → AllByRecursion (λ (v : Variable). IsSort sig v.sort) (all_occurrences ts)
  all_sorts_occur sig none ss h = tt
  all_sorts_occur sig (more t ts) [] h = absurd h
  all_sorts_occur sig (more t ts) (s ∷ ss) h =
      all_joined (λ (v : Variable). IsSort sig v.sort) (occurrences t) (all_occurrences ts) (sorts_occur sig t h.1) (all_sorts_occur sig ts ss h.2)

body_sorts : (sig : Signature) (d : Derivative) → IsWellSorted sig d.body → AllByRecursion (IsSort sig) (parameter_sorts d)
body_sorts sig d w =
    all_mapped (IsSort sig) (λ (v : Variable). v.sort) (filter is_parameter (occurrences d.body))
    (all_filtered (λ (v : Variable). IsSort sig v.sort) is_parameter (occurrences d.body) (sorts_occur sig d.body w))

sorts_exist : (th : Theory) → IsWellFormed th → (k : ℕ) → AllByRecursion (IsSort th.signature) (sorts_at th k)
sorts_exist th ok k = go (slice_get th.derivatives k) refl
  where
    go : (o : Option Derivative) → slice_get th.derivatives k ≡ o → AllByRecursion (IsSort th.signature) (parameter_sorts (unwrap_or o no_derivative))
    go None e = tt
    go (Some d) e = body_sorts th.signature d (ok.derivatives d (contains_at th.derivatives k d e)).body

named_sorted : (sig : Signature) (ns ss : List ℕ) → AllByRecursion (IsSort sig) ss → AllByRecursion (IsWellSorted sig) (variables_named ns ss)
named_sorted sig ns [] a = tt
named_sorted sig [] (s ∷ ss) a = tt
named_sorted sig (n ∷ ns) (s ∷ ss) a = (a.0, named_sorted sig ns ss a.1)

named_sorts : (ns ss : List ℕ) → length ss ≤ length ns → map sort_of (variables_named ns ss) ≡ ss
named_sorts ns [] l = refl
named_sorts [] (s ∷ ss) l = absurd (omega (arith, l))
named_sorts (n ∷ ns) (s ∷ ss) l = ap (λ xs. s ∷ xs) (named_sorts ns ss (omega (arith, l)))

pub no_numbers : (ss : List ℕ) → variables_named [] ss ≡ []
no_numbers [] = refl
no_numbers (s ∷ ss) = refl

pub no_length : (xs : List ℕ) → length xs ≡ 0 → xs ≡ []
no_length [] e = refl
no_length (x ∷ xs) e = absurd (omega (arith, e))

left_over : (ns : List ℕ) (c d : ℕ) → c + d ≤ length ns → d ≤ length (drop c ns)
left_over ns zero d l = omega (arith, l)
left_over [] (suc c) d l = absurd (omega (arith, l))
left_over (n ∷ ns) (suc c) d l = left_over ns c d (omega (arith, l))

pub entries_fit : (th : Theory) → IsWellFormed th → (ns ks : List ℕ) → parameter_count th ks ≤ length ns → HaveParameters th (entries_named th ns ks)
entries_fit th ok ns [] l = tt
entries_fit th ok ns (k ∷ ks) l = (
  (named_sorted th.signature ns (sorts_at th k) (sorts_exist th ok k), named_sorts ns (sorts_at th k) (omega (arith, l))),
  entries_fit th ok (drop (length (sorts_at th k)) ns) ks (left_over ns (length (sorts_at th k)) (parameter_count th ks) (omega (arith, l))),
)

-- the derivatives of the entries
pub entries_derivatives : (th : Theory) (ns ks : List ℕ) → map (λ w. w.derivative) (entries_named th ns ks) ≡ ks
entries_derivatives th ns [] = refl
entries_derivatives th ns (k ∷ ks) = ap (λ xs. k ∷ xs) (entries_derivatives th (drop (length (sorts_at th k)) ns) ks)
