-- A pattern that matches has one of the keys that are looked for, and one of the seats; and it is no larger than what it becomes.
use Rattle.std.proofs.Common.{Bool, true, false, ◌&&◌, ◌≡◌, ℕ, ◌≤◌, ◌<◌, ◌^◌, List, map, length, Option, None, refl, ap, sym, subst, ◌∙◌, arith, ◌⊎◌, inl, inr}
use Rattle.std.specs.Prelude.{slice_index}
use Rattle.std.proofs.lemmas.Bool.{and_parts}
use Rattle.circ_term.specs.Tree.{Tree, Trees, Var, App, none, more, size_of, sizes_of, is_ground}
use Rattle.circ_term.specs.Substitution.{Substitution, instance, instances}
use Rattle.circ_term.proofs.Instances.{instance-is_ground}
use Rattle.circ_term.specs.Subst.{Bound}
use Rattle.circ_match.specs.Matcher.{Makes}
use Rattle.circ_index.specs.Finding.{LeftMatches, PairMatches, both_ways}
use Rattle.circ_index.specs.Indexed.{HaveSeats, ArePairs, AreLefts}
use Rattle.circ_index.specs.Keys.{root, key, ground_key, left_key, term_keys, pair_key, pair_keys}
use Rattle.circ_index.specs.declared.keys.TheConstants.{ANY}
use Rattle.circ_index.specs.Paths.{key_of_left, key_of_pair, keys_of_term, keys_of_two}
use Rattle.circ_index.specs.Walking.{term_seats, pair_seats}
use Rattle.circ_index.specs.declared.finder.Finder.{Finder}
use Rattle.circ_index.proofs.Leading.{left_leads, pair_leads}
use Rattle.circ_index.proofs.Pairing.{length-both_ways}
use Rattle.circ_index.proofs.Seeking.{Fits, Serves, rows_find, seats_find}

pub left_fits : (t : Tree) → Fits (LeftMatches t) left_key (term_keys t)
left_fits t l apart = λ τ k made. go τ l made apart
  where
    go : (τ : Substitution) (l : Tree) → instance τ l ≡ t
        → ((i : ℕ) → i < 3 → left_key l ≡ slice_index (term_keys t) i → ⊥) → ⊥
    go τ (Var n s) made apart = apart 2 (omega arith) refl
    go τ (App f s none) made apart = apart 1 (omega arith) (ap (λ u. key (root u) ANY) made)
    go τ (App f s (more (Var n k) ts)) made apart = apart 1 (omega arith) (ap (λ u. key (root u) ANY) made)
    go τ (App f s (more (App g k us) ts)) made apart = apart 0 (omega arith) (ap left_key made)

root_fits : (τ : Substitution) (l t : Tree) → instance τ l ≡ t → (root l ≡ ANY) ⊎ (root l ≡ root t)
root_fits τ (Var n s) t made = inl refl
root_fits τ (App f s ts) t made = inr (ap root made)

pub pair_fits : (a b : Tree) → Fits (PairMatches a b) pair_key (pair_keys a b)
pair_fits a b p apart = λ τ k made. by_ground (is_ground p.0 && is_ground p.1) refl τ made
  where
    by_roots : (root p.0 ≡ ANY) ⊎ (root p.0 ≡ root a) → (root p.1 ≡ ANY) ⊎ (root p.1 ≡ root b) → pair_key p ≡ key (root p.0) (root p.1) → ⊥
    by_roots (inr x) (inr y) e = apart 1 (omega arith) (e ∙ ap (λ n. key n (root p.1)) x ∙ ap (key (root a)) y)
    by_roots (inr x) (inl y) e = apart 2 (omega arith) (e ∙ ap (λ n. key n (root p.1)) x ∙ ap (key (root a)) y)
    by_roots (inl x) (inr y) e = apart 3 (omega arith) (e ∙ ap (λ n. key n (root p.1)) x ∙ ap (key ANY) y)
    by_roots (inl x) (inl y) e = apart 4 (omega arith) (e ∙ ap (λ n. key n (root p.1)) x ∙ ap (key ANY) y)

    itself : (τ : Substitution) (q t : Tree) → is_ground q ≡ true → Makes q t τ → q ≡ t
    itself τ q t g made = sym (instance-is_ground τ q g) ∙ made

    by_ground : (g : Bool) → (is_ground p.0 && is_ground p.1) ≡ g → (τ : Substitution) → Makes p.0 a τ × Makes p.1 b τ → ⊥
    by_ground true e τ made =
        let parts = and_parts (is_ground p.0) (is_ground p.1) e in
        let key_is : pair_key p ≡ ground_key p.0 p.1 = rw e refl in
        apart 0 (omega arith) (key_is ∙ ap (λ q. ground_key q p.1) (itself τ p.0 a parts.0 made.0) ∙ ap (ground_key a) (itself τ p.1 b parts.1 made.1))
    by_ground false e τ made =
        let key_is : pair_key p ≡ key (root p.0) (root p.1) = rw e refl in
        by_roots (root_fits τ p.0 a made.0) (root_fits τ p.1 b made.1) key_is

-- ---- by keys and by seats

-- for whatever has left sides
pub left_serves : {X : Type 0} (Answers : X → Option (List Bound) → Type 0) (left_of : X → Tree) (xs : List X) (x : Finder) (t : Tree) (keys : List ℕ) → length xs < 2 ^ 32
    → Fits Answers (λ p. left_key (left_of p)) keys → ((p : X) → ((τ : Substitution) → instance τ (left_of p) ≡ t → ⊥) → Answers p None)
    → x.rows.keys ≡ map (λ p. left_key (left_of p)) xs
    → HaveSeats x.whole (λ p. key_of_left x.paths (left_of p)) (λ p. left_key (left_of p)) xs x.seats
    → Serves Answers xs x keys (term_seats x keys t)
left_serves {X} Answers left_of xs x t keys few fits never rows seats = record {
  few = few;
  by_key = rows_find Answers (λ p. left_key (left_of p)) xs x.rows keys fits rows;
  by_seat = λ whole.
      seats_find Answers (λ p. key_of_left x.paths (left_of p)) (λ p. left_key (left_of p)) xs x.seats (keys_of_term x.paths t) keys fits
      (λ p k e apart. never p (λ τ made. apart (left_leads x.paths τ (left_of p) t k e made)))
      (subst (λ b. HaveSeats b (λ p. key_of_left x.paths (left_of p)) (λ p. left_key (left_of p)) xs x.seats) whole seats);
}

pub lefts_serve : (lefts : List Tree) (x : Finder) (t : Tree) → AreLefts lefts x → Serves (LeftMatches t) lefts x (term_keys t) (term_seats x (term_keys t) t)
lefts_serve lefts x t h = left_serves (LeftMatches t) (λ l. l) lefts x t (term_keys t) h.few (left_fits t) (λ l never τ k made. never τ made) h.has.keys h.has.seats

pub pairs_serve : (pairs : List (Tree × Tree)) (x : Finder) (a b : Tree) → ArePairs pairs x
    → Serves (PairMatches a b) (both_ways pairs) x (pair_keys a b) (pair_seats x (pair_keys a b) a b)
pairs_serve pairs x a b h = record {
  few = omega (arith, length-both_ways pairs, h.few);
  by_key = rows_find (PairMatches a b) pair_key (both_ways pairs) x.rows (pair_keys a b) (pair_fits a b) h.has.keys;
  by_seat = λ whole.
      seats_find (PairMatches a b) (key_of_pair x.paths) pair_key (both_ways pairs) x.seats (keys_of_two x.paths a b) (pair_keys a b) (pair_fits a b)
      (λ p k e apart. λ τ s made. apart (pair_leads x.paths τ p a b k e made.0 made.1))
      (subst (λ b. HaveSeats b (key_of_pair x.paths) pair_key (both_ways pairs) x.seats) whole h.has.seats);
}

-- ---- a pattern is no larger than what it becomes

some_size : (t : Tree) → 1 ≤ size_of t
some_size (Var n s) = omega arith
some_size (App f s ts) = omega arith

mutual
  size_of-instance : (τ : Substitution) (t : Tree) → size_of t ≤ size_of (instance τ t)
  size_of-instance τ (Var n s) = some_size (τ n s)
  size_of-instance τ (App f s ts) = omega (arith, sizes_of-instances τ ts)

  sizes_of-instances : (τ : Substitution) (ts : Trees) → sizes_of ts ≤ sizes_of (instances τ ts)
  sizes_of-instances τ none = omega arith
  sizes_of-instances τ (more t ts) = omega (arith, size_of-instance τ t, sizes_of-instances τ ts)

pub not_larger : (τ : Substitution) (pattern term : Tree) → Makes pattern term τ → size_of pattern ≤ size_of term
not_larger τ pattern term made = subst (λ t. size_of pattern ≤ size_of t) made (size_of-instance τ pattern)
