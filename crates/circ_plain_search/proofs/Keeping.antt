-- Lists from which some were dropped: what is left, and that nothing else was dropped.
use Rattle.std.specs.Prelude.{◌≡◌, ◌≤◌, ◌↔◌, IsTrue, Bool, true, false, List, [], ◌∷◌, ◌++◌, length, refl}
use Rattle.std.specs.List.{AllByRecursion, Contains, items_where_true}
use Rattle.std.specs.List.Retain.{IsFiltered, ReturnsInTurn}
use Rattle.std.proofs.Common.{ap, sym, subst, inl, inr, arith}
use Rattle.circ_theory.proofs.Casing.{contains_first}
use Rattle.circ_theory.proofs.Weakening.{first_or_rest, in_rest}
use Rattle.circ_plain_search.specs.Keeps.{Keeps, ends, keeps, drops}

pub contains_none : {X C : Type 0} (x : X) → Contains [] x → C
contains_none x c = absurd (omega (arith, c.1))

-- what holds of the first and of each of the rest
pub pick : {X : Type 0} (P : X → Type 0) (x y : X) (xs : List X) → P x → (Contains xs y → P y) → Contains (x ∷ xs) y → P y
pick P x y xs first rest c = elim (first_or_rest x y xs c) [
  | inl e ↦ subst P e first
  | inr d ↦ rest d
]

-- what is left is of the list, and has P
pub kept_from : {X : Type 0} (P : X → Type 0) {xs ys : List X} → Keeps P xs ys → (x : X) → Contains ys x → Contains xs x × P x
kept_from P ends x c = contains_none x c
kept_from {X = X} P (keeps {xs = xs} {ys = ys} y p k) x c =
    let Q : X → Type 0 = λ z. Contains (y ∷ xs) z × P z in
    pick Q y x ys (contains_first y xs, p) (λ d. let r = kept_from P k x d in (in_rest y x xs r.0, r.1)) c
kept_from P (drops {xs = xs} y n k) x c = let r = kept_from P k x c in (in_rest y x xs r.0, r.1)

-- what has P is left
pub kept_all : {X : Type 0} (P : X → Type 0) {xs ys : List X} → Keeps P xs ys → (x : X) → Contains xs x → P x → Contains ys x
kept_all P ends x c p = contains_none x c
kept_all {X = X} P (keeps {xs = xs} {ys = ys} y q k) x c p =
    let Q : X → Type 0 = λ z. P z → Contains (y ∷ ys) z in
    pick Q y x xs (λ _. contains_first y ys) (λ d h. in_rest y x ys (kept_all P k x d h)) c p
kept_all {X = X} P (drops {xs = xs} {ys = ys} y n k) x c p =
    let Q : X → Type 0 = λ z. P z → Contains ys z in
    pick Q y x xs (λ h. absurd (n h)) (λ d h. kept_all P k x d h) c p

pub kept_length : {X : Type 0} (P : X → Type 0) {xs ys : List X} → Keeps P xs ys → length ys ≤ length xs
kept_length P ends = omega arith
kept_length P (keeps x p k) = omega (arith, kept_length P k)
kept_length P (drops x n k) = omega (arith, kept_length P k)

-- where the list is no shorter nothing was dropped
pub same_kept : {X : Type 0} (P : X → Type 0) {xs ys : List X} → Keeps P xs ys → length xs ≤ length ys → ys ≡ xs
same_kept P ends h = refl
same_kept P (keeps x p k) h = ap (λ zs. x ∷ zs) (same_kept P k (omega (arith, h)))
same_kept P (drops x n k) h = absurd (omega (arith, h, kept_length P k))

pub all_kept : {X : Type 0} (P Q : X → Type 0) {xs ys : List X} → Keeps P xs ys → AllByRecursion Q xs → AllByRecursion Q ys
all_kept P Q ends a = tt
all_kept P Q (keeps x p k) a = (a.0, all_kept P Q k a.1)
all_kept P Q (drops x n k) a = all_kept P Q k a.1

-- one behind the other
pub kept_append : {X : Type 0} (P : X → Type 0) {xs ys zs ws : List X} → Keeps P xs ys → Keeps P zs ws → Keeps P (xs ++ zs) (ys ++ ws)
kept_append P ends l = l
kept_append P (keeps x p k) l = keeps x p (kept_append P k l)
kept_append P (drops x n k) l = drops x n (kept_append P k l)

-- it cannot be that no list is left
pub some_kept : {X : Type 0} (P : X → Type 0) (xs : List X) → ((ys : List X) → Keeps P xs ys → ⊥) → ⊥
some_kept P [] f = f [] ends
some_kept P (x ∷ xs) f = some_kept P xs (λ ys k. f ys (drops x (λ p. f (x ∷ ys) (keeps x p k)) k))

-- what `retain` leaves
pub keeps_filtered : {S X : Type 0} (R : S → X → Bool → S → Type 0) (P : X → Type 0) (f : S)
    → ((x : X) (b : Bool) (g : S) → R f x b g → (IsTrue b ↔ P x) × (g ≡ f)) → (xs ys : List X) → IsFiltered R f xs ys → Keeps P xs ys
keeps_filtered {S = S} {X = X} R P f h xs ys told = subst (Keeps P xs) (sym told.4) (go told.0 xs told.1 told.2 told.3)
  where
    next : (x : X) (xs : List X) (bs : List Bool) (b : Bool) → (IsTrue b ↔ P x) → Keeps P xs (items_where_true bs xs)
        → Keeps P (x ∷ xs) (items_where_true (b ∷ bs) (x ∷ xs))
    next x xs bs true p k = keeps x (p.0 refl) k
    next x xs bs false p k = drops x (λ q. let z = p.1 q in absurd (cc)) k

    go : (bs : List Bool) (xs : List X) (q : S) → length bs ≡ length xs → ReturnsInTurn R f bs xs q → Keeps P xs (items_where_true bs xs)
    go [] [] q l r = ends
    go [] (x ∷ xs) q l r = absurd (omega (arith, l))
    go (b ∷ bs) [] q l r = absurd r
    go (b ∷ bs) (x ∷ xs) q l r =
        let z = h x b r.0 r.1 in
        let T : S → Type 0 = λ j. ReturnsInTurn R j bs xs q in
        next x xs bs b z.0 (go bs xs q (omega (arith, l)) (subst T z.1 r.2))
