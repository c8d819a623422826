-- One word more, by the set of those before it.
use Rattle.std.specs.Prelude.{◌≡◌, ℕ, ◌+◌, ◌<◌, ◌++◌, zero, suc, List, [], ◌∷◌, Bool, true, false, not, nat_eq, nat_lt, length, map, drop, position, Option, Some, None, refl, if◌then◌else◌}
use Rattle.std.specs.List.{list_any, position_or_len}
use Rattle.std.specs.Cmp.Lexicographic.{pointwise, bytes_decides}
use Rattle.std.proofs.Common.{sym, ◌∙◌, ap, subst, arith}
use Rattle.std.proofs.lemmas.Bool.{le-ltb}
use Rattle.std.proofs.lemmas.List.{map-append}
use Rattle.indexmap.specs.IndexSet.{insert_key}
use Rattle.circ_auto.specs.Reading.{is_word}
use Rattle.circ_auto.specs.Parts.{or_place, repeat_after}

place_of_map : {X Y : Type 0} (p : Y → Bool) (f : X → Y) (xs : List X) → position_or_len p (map f xs) ≡ position_or_len (λ x. p (f x)) xs
place_of_map p f [] = refl
place_of_map p f (x ∷ xs) = go (p (f x)) refl (place_of_map p f xs)
  where
    go : (t : Bool) → p (f x) ≡ t → position_or_len p (map f xs) ≡ position_or_len (λ x. p (f x)) xs
        → position_or_len p (map f (x ∷ xs)) ≡ position_or_len (λ x. p (f x)) (x ∷ xs)
    go true e ih = rw e refl
    go false e ih = rw e (ap (λ k. 1 + k) ih)

length_of_map : {X Y : Type 0} (f : X → Y) (xs : List X) → length (map f xs) ≡ length xs
length_of_map f [] = refl
length_of_map f (x ∷ xs) = ap suc (length_of_map f xs)

position_of_map : {X Y : Type 0} (p : Y → Bool) (f : X → Y) (xs : List X) → position p (map f xs) ≡ position (λ x. p (f x)) xs
position_of_map p f xs = rw (place_of_map p f xs, length_of_map f xs) refl

none_among : {X : Type 0} (p : X → Bool) (xs : List X) → list_any p xs ≡ false → position_or_len p xs ≡ length xs
none_among p [] e = refl
none_among p (x ∷ xs) e = go (p x) refl (λ r. none_among p xs r)
  where
    go : (t : Bool) → p x ≡ t → (list_any p xs ≡ false → position_or_len p xs ≡ length xs) → position_or_len p (x ∷ xs) ≡ length (x ∷ xs)
    go true f ih = absurd (let z = rw f at e in cc)
    go false f ih =
        let r : list_any p xs ≡ false = rw f at e in
        let s : 1 + length xs ≡ suc (length xs) = omega arith in
        rw f (ap (λ k. 1 + k) (ih r) ∙ s)

no_position : {X : Type 0} (p : X → Bool) (xs : List X) → list_any p xs ≡ false → position p xs ≡ None
no_position p xs e = rw (none_among p xs e, le-ltb (length xs) (length xs) (omega arith)) refl

pub repeat_found : {K : Type 0} (f : K → List ℕ) (ks ws : List K) (i : ℕ) (k : K) (p : ℕ) → drop i ws ≡ k ∷ drop (i + 1) ws
    → position (λ x. pointwise nat_eq (f k) (f x)) ks ≡ Some p → repeat_after (map f ks) (map f (drop i ws)) ≡ Some p
repeat_found f ks ws i k p e h =
    ap (λ xs. repeat_after (map f ks) (map f xs)) e
    ∙ ap (λ o. or_place o (repeat_after (map f ks ++ f k ∷ []) (map f (drop (i + 1) ws)))) (position_of_map (is_word (f k)) f ks ∙ h)

pub repeat_grown : {K : Type 0} (f : K → List ℕ) (ks new ws : List K) (i : ℕ) (k : K) → drop i ws ≡ k ∷ drop (i + 1) ws
    → list_any (λ x. pointwise nat_eq (f k) (f x)) ks ≡ false → new ≡ insert_key (λ a b. pointwise nat_eq (f a) (f b)) ks k
    → repeat_after (map f new) (map f (drop (i + 1) ws)) ≡ repeat_after (map f ks) (map f (drop i ws))
repeat_grown f ks new ws i k e h g =
    let grown : new ≡ ks ++ k ∷ [] = g ∙ ap (λ t. if t then ks else ks ++ k ∷ []) h in
    ap (λ xs. repeat_after (map f xs) (map f (drop (i + 1) ws))) grown
    ∙ ap (λ xs. repeat_after xs (map f (drop (i + 1) ws))) (map-append f ks (k ∷ []))
    ∙ sym (ap (λ xs. repeat_after (map f ks) (map f xs)) e
    ∙ ap (λ o. or_place o (repeat_after (map f ks ++ f k ∷ []) (map f (drop (i + 1) ws))))
    (position_of_map (is_word (f k)) f ks ∙ no_position (λ x. pointwise nat_eq (f k) (f x)) ks h))

-- lists of texts are the same where they are so place by place
pub same_texts : {K : Type 0} (f : K → List ℕ) (xs ys : List K)
    → (pointwise (λ x y. pointwise nat_eq (f x) (f y)) xs ys ≡ true → map f xs ≡ map f ys)
    × (map f xs ≡ map f ys → pointwise (λ x y. pointwise nat_eq (f x) (f y)) xs ys ≡ true)
same_texts f [] [] = (λ e. refl, λ e. refl)
same_texts f [] (y ∷ ys) = (λ e. absurd (cc), λ e. absurd (cc))
same_texts f (x ∷ xs) [] = (λ e. absurd (cc), λ e. absurd (cc))
same_texts f (x ∷ xs) (y ∷ ys) = (λ e. there (pointwise nat_eq (f x) (f y)) refl e (same_texts f xs ys).0, λ e. back e (same_texts f xs ys).1)
  where
    use_decides : (v w : List ℕ) → pointwise nat_eq v w ≡ true → v ≡ w
    use_decides v w e = (bytes_decides v w).0 e

    there : (t : Bool) → pointwise nat_eq (f x) (f y) ≡ t → pointwise (λ x y. pointwise nat_eq (f x) (f y)) (x ∷ xs) (y ∷ ys) ≡ true
        → (pointwise (λ x y. pointwise nat_eq (f x) (f y)) xs ys ≡ true → map f xs ≡ map f ys) → map f (x ∷ xs) ≡ map f (y ∷ ys)
    there false g e ih = absurd (let z = rw g at e in cc)
    there true g e ih =
        let r : pointwise (λ x y. pointwise nat_eq (f x) (f y)) xs ys ≡ true = rw g at e in
        let a : f x ≡ f y = use_decides (f x) (f y) g in
        let b : map f xs ≡ map f ys = ih r in
        (λ i. a i ∷ b i)

    back : map f (x ∷ xs) ≡ map f (y ∷ ys) → (map f xs ≡ map f ys → pointwise (λ x y. pointwise nat_eq (f x) (f y)) xs ys ≡ true)
        → pointwise (λ x y. pointwise nat_eq (f x) (f y)) (x ∷ xs) (y ∷ ys) ≡ true
    back e ih =
        let a : f x ≡ f y = cc in
        let b : map f xs ≡ map f ys = cc in
        rw ((bytes_decides (f x) (f y)).1 a) (ih b)
