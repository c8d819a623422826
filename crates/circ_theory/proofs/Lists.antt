-- Facts on lists.
use Rattle.std.proofs.Common.{◌≡◌, ◌<◌, ◌+◌, ℕ, zero, suc, Bool, true, false, ◌||◌, not, nat_lt, nat_eq, if◌then◌else◌, List, [], ◌∷◌, ◌++◌, length}
use Rattle.std.proofs.Common.{map, get_or, Some, None, refl, ap, sym, subst, ◌∙◌, arith}
use Rattle.std.specs.List.{AllByRecursion, list_any, position, position_or_len, slice_get}
use Rattle.std.proofs.lemmas.List.{length-map}
use Rattle.std.proofs.lemmas.Option.{same_Some}
use Rattle.std.proofs.lemmas.Grind.{common_steps}
use Rattle.indexmap.specs.IndexMap.{insert_entry}
use Rattle.indexmap.specs.IndexSet.{insert_key}
use Rattle.std.specs.Cmp.Lexicographic.{pointwise}
pub use Rattle.circ_pairs.proofs.Lists.{list_any-map}

pub all_push : {X : Type 0} (P : X → Type 0) (xs : List X) (x : X) → AllByRecursion P xs → P x → AllByRecursion P (xs ++ x ∷ [])
all_push P [] x a p = (p, tt)
all_push P (y ∷ ys) x a p = (a.0, all_push P ys x a.1 p)

pub all_by : {X : Type 0} (P Q : X → Type 0) (xs : List X) → ((x : X) → P x → Q x) → AllByRecursion P xs → AllByRecursion Q xs
all_by P Q [] f a = tt
all_by P Q (x ∷ xs) f a = (f x a.0, all_by P Q xs f a.1)

pub all_at : {X : Type 0} (P : X → Type 0) (xs : List X) (i : ℕ) (x : X) → AllByRecursion P xs → slice_get xs i ≡ Some x → P x
all_at P [] i x a g = absurd (cc)
all_at P (y ∷ ys) zero x a g = subst P (same_Some y x g) a.0
all_at P (y ∷ ys) (suc i) x a g = all_at P ys i x a.1 g

pub all_read : {X : Type 0} (P : X → Type 0) (xs : List X) (i : ℕ) (d : X) → AllByRecursion P xs → i < length xs → P (get_or xs i d)
all_read P [] i d a h = absurd (omega arith)
all_read P (y ∷ ys) zero d a h = a.0
all_read P (y ∷ ys) (suc i) d a h = all_read P ys i d a.1 (omega arith)

pub slice_get-front : {X : Type 0} (xs ys : List X) (i : ℕ) (x : X) → slice_get xs i ≡ Some x → slice_get (xs ++ ys) i ≡ Some x
slice_get-front [] ys i x g = absurd (cc)
slice_get-front (z ∷ xs) ys zero x g = g
slice_get-front (z ∷ xs) ys (suc i) x g = slice_get-front xs ys i x g

pub map-push : {X Y : Type 0} (f : X → Y) (xs : List X) (x : X) → map f (xs ++ x ∷ []) ≡ map f xs ++ f x ∷ []
map-push f [] x = refl
map-push f (y ∷ xs) x = ap (λ ys. f y ∷ ys) (map-push f xs x)

position_or_len-map : {X Y : Type 0} (p : Y → Bool) (f : X → Y) (xs : List X) → position_or_len p (map f xs) ≡ position_or_len (λ x. p (f x)) xs
position_or_len-map p f [] = refl
position_or_len-map p f (x ∷ xs) = ap (λ n. if not (p (f x)) then 1 + n else 0) (position_or_len-map p f xs)

pub position-map : {X Y : Type 0} (p : Y → Bool) (f : X → Y) (xs : List X) → position p (map f xs) ≡ position (λ x. p (f x)) xs
position-map p f xs =
    ap (λ n. if nat_lt n (length (map f xs)) then Some n else None) (position_or_len-map p f xs)
    ∙ ap (λ m. if nat_lt (position_or_len (λ x. p (f x)) xs) m then Some (position_or_len (λ x. p (f x)) xs) else None) (length-map xs f)

position_or_len-same : {X : Type 0} (p q : X → Bool) (xs : List X) → AllByRecursion (λ x. p x ≡ q x) xs → position_or_len p xs ≡ position_or_len q xs
position_or_len-same p q [] a = refl
position_or_len-same p q (x ∷ xs) a =
    ap (λ b. if not b then 1 + position_or_len p xs else 0) a.0 ∙ ap (λ n. if not (q x) then 1 + n else 0) (position_or_len-same p q xs a.1)

pub position-same : {X : Type 0} (p q : X → Bool) (xs : List X) → AllByRecursion (λ x. p x ≡ q x) xs → position p xs ≡ position q xs
position-same p q xs a = ap (λ n. if nat_lt n (length xs) then Some n else None) (position_or_len-same p q xs a)

any_within : {X : Type 0} (p : X → Bool) (xs : List X) → list_any p xs ≡ true → position_or_len p xs < length xs
any_within p [] e = absurd (cc)
any_within p (x ∷ xs) e = go (λ h. any_within p xs h) (p x) refl
  where
    go : (list_any p xs ≡ true → position_or_len p xs < length xs) → (b : Bool) → p x ≡ b
        → (if not (p x) then 1 + position_or_len p xs else 0) < suc (length xs)
    go ih true f = rw f (omega arith)
    go ih false f = let l = ih (rw f at e) in rw f (omega arith)

-- what is at no position is not there
none_there : {X : Type 0} (p : X → Bool) (xs : List X) → position p xs ≡ None → list_any p xs ≡ false
none_there p xs e = go (list_any p xs) refl
  where
    go : (b : Bool) → list_any p xs ≡ b → b ≡ false
    go true f =
        let within = any_within p xs f in
        let test : nat_lt (position_or_len p xs) (length xs) ≡ true = grind (arith, common_steps) in
        absurd (let z = rw test at e in cc)
    go false f = refl

-- a new key goes last
pub insert_entry-last : {K V : Type 0} (eq : K → K → Bool) (es : List (K × V)) (k : K) (v : V) → list_any (λ e. eq k e.0) es ≡ false
    → insert_entry eq es k v ≡ es ++ (k, v) ∷ []
insert_entry-last eq [] k v h = refl
insert_entry-last eq (e ∷ es) k v h = go (λ g. insert_entry-last eq es k v g) (eq k e.0) refl
  where
    go : (list_any (λ e. eq k e.0) es ≡ false → insert_entry eq es k v ≡ es ++ (k, v) ∷ []) → (b : Bool) → eq k e.0 ≡ b
        → (if eq k e.0 then (e.0, v) ∷ es else e ∷ insert_entry eq es k v) ≡ e ∷ (es ++ (k, v) ∷ [])
    go ih true f = absurd (let z = rw f at h in cc)
    go ih false f = rw f (ap (λ l. e ∷ l) (ih (rw f at h)))

-- a new name goes last
pub name_last : {K : Type 0} (f : K → List ℕ) (ks : List K) (k : K) (name : List ℕ) → f k ≡ name → position (pointwise nat_eq name) (map f ks) ≡ None
    → map f (insert_key (λ a b. pointwise nat_eq (f a) (f b)) ks k) ≡ map f ks ++ name ∷ []
name_last f ks k name e none =
    let there : list_any (λ x. pointwise nat_eq name (f x)) ks ≡ false = sym (list_any-map (pointwise nat_eq name) f ks) ∙ none_there (pointwise nat_eq name) (map f ks) none in
    let absent : list_any (λ x. pointwise nat_eq (f k) (f x)) ks ≡ false = ap (λ n. list_any (λ x. pointwise nat_eq n (f x)) ks) e ∙ there in
    ap (λ b. map f (if b then ks else ks ++ k ∷ [])) absent ∙ map-push f ks k ∙ ap (λ n. map f ks ++ n ∷ []) e

-- a new entry goes last, where its key is at no position
pub entry_last : {K V : Type 0} (eq : K → K → Bool) (es : List (K × V)) (k : K) (v : V) → position (eq k) (map (λ e. e.0) es) ≡ None
    → insert_entry eq es k v ≡ es ++ (k, v) ∷ []
entry_last eq es k v none = insert_entry-last eq es k v (sym (list_any-map (eq k) (λ e. e.0) es) ∙ none_there (eq k) (map (λ e. e.0) es) none)
