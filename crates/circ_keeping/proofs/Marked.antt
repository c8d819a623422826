-- Marks that are set.
use Rattle.std.proofs.Common.{◌≡◌, ℕ, zero, suc, ◌+◌, ◌-◌, ◌<◌, ◌≤◌, Bool, true, false, List, [], ◌∷◌, ◌++◌, length, take, drop, get_or, Some, refl, ap, sym, subst, ◌∙◌, arith, ◌⊎◌, inl, inr}
use Rattle.std.specs.List.{slice_get, AllByRecursion}
use Rattle.std.proofs.Math.ListN.{set, length-set, replicate, length-replicate}
use Rattle.std.proofs.lemmas.Bool.{cases_eq, false≢true}
use Rattle.std.proofs.lemmas.List.{get_or-set_same, get_or-set_other, take_all, take-append-le}
use Rattle.std.proofs.lemmas.Option.{slice_get_within, slice_get-get_or, same_Some}
use Rattle.circ_term.specs.Tree.{Tree, Trees, App, none, more, args_of, list_of}
use Rattle.circ_term.proofs.Paths.{at-append}
use Rattle.circ_nodes.specs.Named.{IsNamed, AreNamed, IsPart, IsOnce, tree_at}
use Rattle.circ_nodes.proofs.Numbers.{are_named_at}
use Rattle.circ_nodes.proofs.Located.{named_tree}
use Rattle.circ_keeping.specs.Marks.{HasMark, SetsMarks, IsArgument, MarkParts}

marked_within : (marks : List Bool) (i : ℕ) → HasMark marks i → i < length marks
marked_within [] i h = absurd (cc)
marked_within (b ∷ marks) zero h = omega arith
marked_within (b ∷ marks) (suc i) h = let k = marked_within marks i h in omega (arith, k)

-- no mark is set
pub marks_none : (P : ℕ → Type 0) (marks : List Bool) → ((i : ℕ) → P i → ⊥) → SetsMarks P marks marks
marks_none P marks f = record { long = refl; stay = λ i h. h; set = λ i p. absurd (f i p); alone = λ i h. inl h }

pub marks_as : (P Q : ℕ → Type 0) (a b : List Bool) → ((i : ℕ) → P i → Q i) → ((i : ℕ) → Q i → P i) → SetsMarks P a b → SetsMarks Q a b
marks_as P Q a b f g m = record { long = m.long; stay = m.stay; set = λ i q. m.set i (g i q); alone = λ i h. go i (m.alone i h) }
  where
    go : (i : ℕ) → HasMark a i ⊎ P i → HasMark a i ⊎ Q i
    go i (inl h) = inl h
    go i (inr p) = inr (f i p)

-- a mark is set
pub mark_at : (count number place : ℕ) (a : List Bool) → count + place ≡ number → place < length a → SetsMarks (λ i. number ≡ count + i) a (set a place true)
mark_at count number place a e within = record {
  long = length-set a place true;
  stay = λ i h. stay i h (cases_eq i place);
  set = λ i same. let here : i ≡ place = omega (arith, e, same) in rw here (get_or-set_same a place true false within);
  alone = λ i h. alone i h (cases_eq i place);
}
  where
    stay : (i : ℕ) → HasMark a i → (i ≡ place) ⊎ (i ≡ place → ⊥) → HasMark (set a place true) i
    stay i h (inl here) = rw here (get_or-set_same a place true false within)
    stay i h (inr other) = get_or-set_other a place i true false other ∙ h

    alone : (i : ℕ) → HasMark (set a place true) i → (i ≡ place) ⊎ (i ≡ place → ⊥) → HasMark a i ⊎ (number ≡ count + i)
    alone i h (inl here) = inr (omega (arith, e, here))
    alone i h (inr other) = inl (sym (get_or-set_other a place i true false other) ∙ h)

-- marks at some numbers, one after another
abbrev pub AtFirst : (count : ℕ) (numbers : List ℕ) (n : ℕ) → ℕ → Type 0
AtFirst count numbers n i = (k : ℕ) × (k < n) × (slice_get numbers k ≡ Some (count + i))

pub first_more : (count n number : ℕ) (numbers : List ℕ) (a b c : List Bool) → n < length numbers → number ≡ get_or numbers n 0
    → SetsMarks (AtFirst count numbers n) a b → SetsMarks (λ i. number ≡ count + i) b c → SetsMarks (AtFirst count numbers (n + 1)) a c
first_more count n number numbers a b c within read m k = record {
  long = k.long ∙ m.long;
  stay = λ i h. k.stay i (m.stay i h);
  set = λ i p. place i p (cases_eq p.0 n);
  alone = λ i h. alone i (k.alone i h);
}
  where
    here : slice_get numbers n ≡ Some number
    here = slice_get-get_or numbers n 0 within ∙ ap Some (sym read)

    place : (i : ℕ) → (p : AtFirst count numbers (n + 1) i) → (p.0 ≡ n) ⊎ (p.0 ≡ n → ⊥) → HasMark c i
    place i p (inl same) = k.set i (same_Some number (count + i) (sym here ∙ ap (slice_get numbers) (sym same) ∙ p.2))
    place i p (inr other) = let below = p.1 in k.stay i (m.set i (p.0, omega (arith, below, other), p.2))

    wider : (i : ℕ) → AtFirst count numbers n i → AtFirst count numbers (n + 1) i
    wider i p = let below = p.1 in (p.0, omega (arith, below), p.2)

    before : (i : ℕ) → HasMark a i ⊎ AtFirst count numbers n i → HasMark a i ⊎ AtFirst count numbers (n + 1) i
    before i (inl h) = inl h
    before i (inr p) = inr (wider i p)

    alone : (i : ℕ) → HasMark b i ⊎ (number ≡ count + i) → HasMark a i ⊎ AtFirst count numbers (n + 1) i
    alone i (inl h) = before i (m.alone i h)
    alone i (inr e) = inr (n, omega arith, here ∙ ap Some e)

pub first_all : (count n : ℕ) (numbers : List ℕ) (a b : List Bool) → length numbers ≤ n → SetsMarks (AtFirst count numbers n) a b
    → SetsMarks (λ i. (k : ℕ) × (slice_get numbers k ≡ Some (count + i))) a b
first_all count n numbers a b end m =
    marks_as (AtFirst count numbers n) (λ i. (k : ℕ) × (slice_get numbers k ≡ Some (count + i))) a b (λ i p. (p.0, p.2))
    (λ i p. let in_list = slice_get_within numbers p.0 (count + i) p.1 in (p.0, omega (arith, end, in_list), p.1)) m

-- the numbers of the arguments

named_back : (nodes : List Tree) (ns : List ℕ) (ts : Trees) (k : ℕ) (t : Tree) → AreNamed nodes ns ts → slice_get (list_of ts) k ≡ Some t
    → (n : ℕ) × (slice_get ns k ≡ Some n) × IsNamed nodes n t
named_back nodes [] none k t h e = absurd (cc)
named_back nodes [] (more u us) k t h e = absurd h
named_back nodes (n ∷ ns) none k t h e = absurd h
named_back nodes (n ∷ ns) (more u us) zero t h e = (n, refl, h.0 ∙ e)
named_back nodes (n ∷ ns) (more u us) (suc k) t h e = named_back nodes ns us k t h.1 e

pub below_at : (ns : List ℕ) (n k m : ℕ) → AllByRecursion (λ m. m < n) ns → slice_get ns k ≡ Some m → m < n
below_at [] n k m h e = absurd (cc)
below_at (x ∷ ns) n zero m h e = let same : x ≡ m = same_Some x m e in let b = h.0 in omega (arith, b, same)
below_at (x ∷ ns) n (suc k) m h e = below_at ns n k m h.1 e

pub below_read : (ns : List ℕ) (i n : ℕ) → AllByRecursion (λ m. m < n) ns → i < length ns → get_or ns i 0 < n
below_read ns i n h within = below_at ns n i (get_or ns i 0) h (slice_get-get_or ns i 0 within)

pub all_lower : (ns : List ℕ) (n m : ℕ) → n ≤ m → AllByRecursion (λ x. x < n) ns → AllByRecursion (λ x. x < m) ns
all_lower [] n m le h = tt
all_lower (x ∷ ns) n m le h = let b = h.0 in (omega (arith, b, le), all_lower ns n m le h.1)

module _ (nodes : List Tree) (count n f s : ℕ) (ns : List ℕ) (ts : Trees) (is : tree_at nodes n ≡ App f s ts) (named : AreNamed nodes ns ts) where
  argument_at : (i : ℕ) → (k : ℕ) × (slice_get ns k ≡ Some (count + i)) → IsArgument nodes (count + i) n
  argument_at i p =
      let a = are_named_at nodes ns ts p.0 (count + i) named p.1 in
      (p.0, a.0, ap (λ t. slice_get (args_of t) p.0) is ∙ a.1, a.2)

  argument_from : IsOnce nodes → (i : ℕ) → IsArgument nodes (count + i) n → (k : ℕ) × (slice_get ns k ≡ Some (count + i))
  argument_from once i p =
      let a = named_back nodes ns ts p.0 p.1 named (sym (ap (λ t. slice_get (args_of t) p.0) is) ∙ p.2) in
      (p.0, a.1 ∙ ap Some (once a.0 (count + i) p.1 a.2 p.3))

  pub arguments_lower : (place : ℕ) → n ≡ count + place → IsOnce nodes → AllByRecursion (λ m. m < n) ns → (j : ℕ) → IsArgument nodes (count + j) n → j < place
  arguments_lower place e once below j p =
      let a = argument_from once j p in
      let b = below_at ns n a.0 (count + j) below a.1 in
      omega (arith, b, e)

  pub marks_arguments : (a b : List Bool) → IsOnce nodes → SetsMarks (λ i. (k : ℕ) × (slice_get ns k ≡ Some (count + i))) a b
      → SetsMarks (λ i. IsArgument nodes (count + i) n) a b
  marks_arguments a b once m =
      marks_as (λ i. (k : ℕ) × (slice_get ns k ≡ Some (count + i))) (λ i. IsArgument nodes (count + i) n) a b argument_at (argument_from once) m

-- going down, place by place

abbrev pub Arguments : (nodes : List Tree) (count place : ℕ) (marks : List Bool) → ℕ → Type 0
Arguments nodes count place marks i = HasMark marks place × IsArgument nodes (count + i) (count + place)

part_argument : (nodes : List Tree) (t : Tree) (m n : ℕ) → IsPart t (tree_at nodes n) → IsArgument nodes m n → IsPart t (tree_at nodes m)
part_argument nodes t m n p a =
    (p.0 ++ a.0 ∷ [], at-append t (tree_at nodes n) p.0 (a.0 ∷ []) p.1 ∙ a.2 ∙ ap Some (sym (named_tree nodes m a.1 a.3)))

pub marked_next : (nodes : List Tree) (count number place : ℕ) (a b : List Bool) → MarkParts nodes count number (place + 1) a
    → (HasMark a place → (j : ℕ) → IsArgument nodes (count + j) (count + place) → j < place)
    → SetsMarks (Arguments nodes count place a) a b → MarkParts nodes count number place b
marked_next nodes count number place a b k lower m = record {
  long = ap (λ x. count + x) m.long ∙ k.long;
  last = λ i e. m.stay i (k.last i e);
  parts = λ i h. part i (m.alone i h);
  closed = λ i j from h arg. closed i j from arg (m.alone i h) (cases_eq i place);
}
  where
    part : (i : ℕ) → HasMark a i ⊎ Arguments nodes count place a i → IsPart (tree_at nodes number) (tree_at nodes (count + i))
    part i (inl h) = k.parts i h
    part i (inr p) = part_argument nodes (tree_at nodes number) (count + i) (count + place) (k.parts place p.0) p.1

    closed : (i j : ℕ) → place ≤ i → IsArgument nodes (count + j) (count + i) → HasMark a i ⊎ Arguments nodes count place a i
        → (i ≡ place) ⊎ (i ≡ place → ⊥) → HasMark b j
    closed i j from arg (inr p) here = absurd (let l = lower p.0 i p.1 in omega (arith, l, from))
    closed i j from arg (inl h) (inl here) =
        let P : ℕ → Type 0 = λ x. HasMark a x in
        let Q : ℕ → Type 0 = λ x. IsArgument nodes (count + j) (count + x) in
        m.set j (subst P here h, subst Q here arg)
    closed i j from arg (inl h) (inr other) = m.stay j (k.closed i j (omega (arith, from, other)) h arg)

unset : (n i : ℕ) → get_or (replicate n false) i false ≡ false
unset zero i = refl
unset (suc n) zero = refl
unset (suc n) (suc i) = unset n i

-- before the first place
pub marked_first : (nodes : List Tree) (count number place : ℕ) (marks : List Bool) → number < length nodes → count + place ≡ number + 1 → marks ≡ replicate place false
    → MarkParts nodes count number place (set marks (place - 1) true)
marked_first nodes count number place marks there e is = record {
  long = let l = length-set marks (place - 1) true in omega (arith, l, e, long);
  last = λ i same. let here : i ≡ place - 1 = omega (arith, same, e) in rw here (get_or-set_same marks (place - 1) true false (omega (arith, long, e)));
  parts = λ i h. let here = only i h in subst (λ n. IsPart (tree_at nodes number) (tree_at nodes n)) here ([], refl);
  closed = λ i j from h arg. let l = marked_within (set marks (place - 1) true) i h in let k = length-set marks (place - 1) true in absurd (omega (arith, l, k, long, from));
}
  where
    long : length marks ≡ place
    long = ap length is ∙ length-replicate place false

    only : (i : ℕ) → HasMark (set marks (place - 1) true) i → number ≡ count + i
    only i h = go (cases_eq i (place - 1))
      where
        go : (i ≡ place - 1) ⊎ (i ≡ place - 1 → ⊥) → number ≡ count + i
        go (inl here) = let l = marked_within (set marks (place - 1) true) i h in let k = length-set marks (place - 1) true in omega (arith, here, e, l, k, long)
        go (inr other) = absurd (let a = sym (get_or-set_other marks (place - 1) i true false other) ∙ h in let b = ap (λ bs. get_or bs i false) is in false≢true (sym (unset place i) ∙ sym b ∙ a))

-- a slice of all is written back
pub written : (len : ℕ) (a b : List Bool) → len ≡ length a → length b ≡ length a → take len (b ++ drop (length b) a) ≡ b
written len a b e l = take-append-le len b (drop (length b) a) (omega (arith, e, l)) ∙ take_all len b (omega (arith, e, l))
