-- Seats stay where paths are added, and one more is put last.
use Rattle.std.proofs.Common.{◌≡◌, ℕ, Bool, true, false, List, [], ◌∷◌, ◌++◌, map, Option, Some, refl, ap, sym, subst, ◌∙◌, inl, inr}
use Rattle.circ_term.specs.Tree.{Tree}
use Rattle.circ_index.specs.Finding.{both_ways}
use Rattle.circ_index.specs.Indexed.{IsSeat, AreSeats, HaveSeats}
use Rattle.circ_index.specs.Keys.{left_key, pair_key}
use Rattle.circ_index.specs.Linked.{Keyed}
use Rattle.circ_index.specs.Paths.{Grows, key_of_left, key_of_pair}
use Rattle.circ_index.specs.declared.paths.Paths.{Paths}
use Rattle.circ_index.proofs.Growing.{left_later, pair_later, grows_more}
use Rattle.circ_index.proofs.Pairing.{both_ways-append}

seat_later : (o u : Option ℕ) (key k : ℕ) → ((n : ℕ) → o ≡ Some n → u ≡ Some n) → IsSeat o key k → IsSeat u key k
seat_later o u key k h (inl e) = inl (h k e)
seat_later o u key k h (inr e) = inr e

seats_later : {X : Type 0} (f g : X → Option ℕ) (key_of : X → ℕ) (xs : List X) (seats : List ℕ) → ((p : X) (k : ℕ) → f p ≡ Some k → g p ≡ Some k) → AreSeats f key_of xs seats
    → AreSeats g key_of xs seats
seats_later f g key_of [] [] h e = tt
seats_later f g key_of [] (k ∷ ks) h e = absurd e
seats_later f g key_of (p ∷ xs) [] h e = absurd e
seats_later f g key_of (p ∷ xs) (k ∷ ks) h e = (seat_later (f p) (g p) (key_of p) k (h p) e.0, seats_later f g key_of xs ks h e.1)

seats_more : {X : Type 0} (leaf_of : X → Option ℕ) (key_of : X → ℕ) (xs : List X) (seats : List ℕ) (p : X) (k : ℕ) → AreSeats leaf_of key_of xs seats
    → IsSeat (leaf_of p) (key_of p) k → AreSeats leaf_of key_of (xs ++ p ∷ []) (seats ++ k ∷ [])
seats_more leaf_of key_of [] [] p k h e = (e, tt)
seats_more leaf_of key_of [] (n ∷ ks) p k h e = absurd h
seats_more leaf_of key_of (q ∷ xs) [] p k h e = absurd h
seats_more leaf_of key_of (q ∷ xs) (n ∷ ks) p k h e = (h.0, seats_more leaf_of key_of xs ks p k h.1 e)

-- the keys and the seats of what has a pattern are those of the pattern

pub keys_of_map : {X Y : Type 0} (f : X → Y) (key_of : Y → ℕ) (xs : List X) (keys : List ℕ) → keys ≡ map key_of (map f xs) → keys ≡ map (λ p. key_of (f p)) xs
keys_of_map {X} f key_of xs keys e = e ∙ go xs
  where
    go : (ys : List X) → map key_of (map f ys) ≡ map (λ p. key_of (f p)) ys
    go [] = refl
    go (y ∷ ys) = ap (λ ks. key_of (f y) ∷ ks) (go ys)

pub seats_of_map : {X Y : Type 0} (whole : Bool) (f : X → Y) (leaf_of : Y → Option ℕ) (key_of : Y → ℕ) (xs : List X) (x : Keyed)
    → HaveSeats whole leaf_of key_of (map f xs) x → HaveSeats whole (λ p. leaf_of (f p)) (λ p. key_of (f p)) xs x
seats_of_map false f leaf_of key_of xs x h = tt
seats_of_map {X} true f leaf_of key_of xs x h = go xs x.keys h
  where
    go : (ys : List X) (ks : List ℕ) → AreSeats leaf_of key_of (map f ys) ks → AreSeats (λ p. leaf_of (f p)) (λ p. key_of (f p)) ys ks
    go [] [] e = tt
    go [] (k ∷ ks) e = absurd e
    go (y ∷ ys) [] e = absurd e
    go (y ∷ ys) (k ∷ ks) e = (e.0, go ys ks e.1)

pub left_seated : (x y : Paths) (lefts : List Tree) (seats new : List ℕ) (t : Tree) (k : ℕ) → Grows x y → AreSeats (key_of_left x) left_key lefts seats
    → IsSeat (key_of_left y t) (left_key t) k → new ≡ seats ++ k ∷ [] → AreSeats (key_of_left y) left_key (lefts ++ t ∷ []) new
left_seated x y lefts seats new t k g h seat added =
    subst (AreSeats (key_of_left y) left_key (lefts ++ t ∷ [])) (sym added)
    (seats_more (key_of_left y) left_key lefts seats t k (seats_later (key_of_left x) (key_of_left y) left_key lefts seats (λ l n e. left_later x y l n g e) h) seat)

pub pair_seated : (x y z : Paths) (pairs : List (Tree × Tree)) (seats new : List ℕ) (p : Tree × Tree) (k l : ℕ) → Grows x y → Grows y z
    → AreSeats (key_of_pair x) pair_key (both_ways pairs) seats → IsSeat (key_of_pair y p) (pair_key p) k → IsSeat (key_of_pair z (p.1, p.0)) (pair_key (p.1, p.0)) l
    → new ≡ seats ++ k ∷ l ∷ [] → AreSeats (key_of_pair z) pair_key (both_ways (pairs ++ p ∷ [])) new
pair_seated x y z pairs seats new p k l g h old seat turned added =
    let front = seats_later (key_of_pair x) (key_of_pair z) pair_key (both_ways pairs) seats (λ q n e. pair_later x z q n (grows_more x y z g h) e) old in
    let here = seat_later (key_of_pair y p) (key_of_pair z p) (pair_key p) k (λ n e. pair_later y z p n h e) seat in
    subst (AreSeats (key_of_pair z) pair_key (both_ways (pairs ++ p ∷ []))) (sym added)
    (subst (λ qs. AreSeats (key_of_pair z) pair_key qs (seats ++ k ∷ l ∷ [])) (sym (both_ways-append pairs p)) (two (both_ways pairs) seats front here))
  where
    two : (qs : List (Tree × Tree)) (ks : List ℕ) → AreSeats (key_of_pair z) pair_key qs ks → IsSeat (key_of_pair z p) (pair_key p) k
        → AreSeats (key_of_pair z) pair_key (qs ++ p ∷ (p.1, p.0) ∷ []) (ks ++ k ∷ l ∷ [])
    two [] [] a b = (b, (turned, tt))
    two [] (n ∷ ks) a b = absurd a
    two (q ∷ qs) [] a b = absurd a
    two (q ∷ qs) (n ∷ ks) a b = (a.0, two qs ks a.1 b)
