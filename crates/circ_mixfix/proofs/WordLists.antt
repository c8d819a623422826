-- Places in lists of different texts.
use Rattle.std.proofs.Common.{◌≡◌, ◌⊎◌, ◌<◌, ◌≤◌, ◌+◌, ◌++◌, ℕ, zero, suc, List, [], ◌∷◌, map, length, get_or, Bool, true, false, ◌||◌, Some, option_map, nat_eq, inl, inr, sym, ◌∙◌, ap, subst, refl, arith, codes}
use Rattle.std.specs.Prelude.{if◌then◌else◌, position}
use Rattle.std.specs.List.{slice_get, list_any}
use Rattle.std.specs.Cmp.Lexicographic.{pointwise, bytes_decides}
use Rattle.std.proofs.lemmas.List.{length-append, map-append}
use Rattle.std.proofs.lemmas.List.Quantifiers.{position-Some}
use Rattle.std.proofs.lemmas.Bool.{cases_eq}
use Rattle.std.proofs.lemmas.Option.{slice_get_within, slice_get-get_or, slice_get-map}
use Rattle.indexmap.specs.IndexSet.{insert_key}
use Rattle.circ_theory.specs.Names.{AreDifferent}
use Rattle.circ_mixfix.specs.WordLists.{with_text, GrowsTo, BeginAlike}

-- what is not there has no place
not_there : (ws : List (List ℕ)) (w : List ℕ) → list_any (pointwise nat_eq w) ws ≡ false → (n : ℕ) → slice_get ws n ≡ Some w → ⊥
not_there [] w h n e = absurd (cc)
not_there (v ∷ ws) w h zero e =
    let q : v ≡ w = cc in
    let t : pointwise nat_eq w v ≡ true = (bytes_decides w v).1 (sym q) in
    absurd (let z = rw t at h in cc)
not_there (v ∷ ws) w h (suc n) e = go (λ k. not_there ws w k n e) (pointwise nat_eq w v) refl
  where
    go : (list_any (pointwise nat_eq w) ws ≡ false → ⊥) → (b : Bool) → pointwise nat_eq w v ≡ b → ⊥
    go ih true f = absurd (let z = rw f at h in cc)
    go ih false f = ih (rw f at h)

any-map : {K : Type 0} (p : List ℕ → Bool) (f : K → List ℕ) (ks : List K) → list_any p (map f ks) ≡ list_any (λ k. p (f k)) ks
any-map p f [] = refl
any-map p f (k ∷ ks) = ap (λ b. p (f k) || b) (any-map p f ks)

-- the place of a key is the number of its text
pub number_there : {K : Type 0} (f : K → List ℕ) (ks : List K) (w : List ℕ) (n : ℕ) → position (λ k. pointwise nat_eq w (f k)) ks ≡ Some n → slice_get (map f ks) n ≡ Some w
number_there f [] w n e = absurd (cc)
number_there f (k ∷ ks) w n e =
    let h = position-Some (λ x. pointwise nat_eq w (f x)) (k ∷ ks) n k e in
    slice_get-map f (k ∷ ks) n ∙ ap (option_map f) (slice_get-get_or (k ∷ ks) n k h.0) ∙ ap (λ v. Some v) (sym ((bytes_decides w (f (get_or (k ∷ ks) n k))).0 h.1))

pub number_absent : {K : Type 0} (f : K → List ℕ) (ks : List K) (w : List ℕ) → list_any (λ k. pointwise nat_eq w (f k)) ks ≡ false → (n : ℕ) → slice_get (map f ks) n ≡ Some w → ⊥
number_absent f ks w h = not_there (map f ks) w (any-map (pointwise nat_eq w) f ks ∙ h)

-- a key that is inserted adds its text
pub inserted : {K : Type 0} (f : K → List ℕ) (ks : List K) (k : K) (w : List ℕ) → f k ≡ w → map f (insert_key (λ a b. pointwise nat_eq (f a) (f b)) ks k) ≡ with_text (map f ks) w
inserted f ks k w e =
    let P : List ℕ → Type 0 = λ x. map f (insert_key (λ a b. pointwise nat_eq (f a) (f b)) ks k) ≡ with_text (map f ks) x in
    subst P e (go (list_any (λ x. pointwise nat_eq (f k) (f x)) ks) refl)
  where
    go : (b : Bool) → list_any (λ x. pointwise nat_eq (f k) (f x)) ks ≡ b → map f (insert_key (λ a b. pointwise nat_eq (f a) (f b)) ks k) ≡ with_text (map f ks) (f k)
    go true h = rw (any-map (pointwise nat_eq (f k)) f ks, h) refl
    go false h = rw (any-map (pointwise nat_eq (f k)) f ks, h) (map-append f ks (k ∷ []))

pub get_last : {X : Type 0} (xs : List X) (x : X) → slice_get (xs ++ x ∷ []) (length xs) ≡ Some x
get_last [] x = refl
get_last (y ∷ xs) x = get_last xs x

pub get_front : {X : Type 0} (xs : List X) (x : X) (k : ℕ) → k < length xs → slice_get (xs ++ x ∷ []) k ≡ slice_get xs k
get_front [] x k h = absurd (omega arith)
get_front (y ∷ xs) x zero h = refl
get_front (y ∷ xs) x (suc k) h = get_front xs x k (omega arith)

-- a text that is not there keeps the texts different
different_more : (ws : List (List ℕ)) (w : List ℕ) → AreDifferent ws → list_any (pointwise nat_eq w) ws ≡ false → AreDifferent (ws ++ w ∷ [])
different_more ws w d none m n v a b = go (cases_eq m (length ws)) (cases_eq n (length ws))
  where
    front : (k : ℕ) → (k ≡ length ws → ⊥) → slice_get (ws ++ w ∷ []) k ≡ Some v → slice_get ws k ≡ Some v
    front k x e = let i = slice_get_within (ws ++ w ∷ []) k v e in let l = length-append ws (w ∷ []) in sym (get_front ws w k (omega arith)) ∙ e

    last : (k : ℕ) → k ≡ length ws → slice_get (ws ++ w ∷ []) k ≡ Some v → w ≡ v
    last k x e = let z : Some w ≡ Some v = sym (get_last ws w) ∙ ap (slice_get (ws ++ w ∷ [])) (sym x) ∙ e in cc z

    clash : (k : ℕ) → slice_get ws k ≡ Some v → w ≡ v → ⊥
    clash k e q = not_there ws w none k (e ∙ ap (λ x. Some x) (sym q))

    go : ((m ≡ length ws) ⊎ (m ≡ length ws → ⊥)) → ((n ≡ length ws) ⊎ (n ≡ length ws → ⊥)) → m ≡ n
    go (inl x) (inl y) = x ∙ sym y
    go (inl x) (inr y) = absurd (clash n (front n y b) (last m x a))
    go (inr x) (inl y) = absurd (clash m (front m x a) (last n y b))
    go (inr x) (inr y) = d m n v (front m x a) (front n y b)

pub different_with : (ws : List (List ℕ)) (w : List ℕ) → AreDifferent ws → AreDifferent (with_text ws w)
different_with ws w d = go (list_any (pointwise nat_eq w) ws) refl
  where
    go : (b : Bool) → list_any (pointwise nat_eq w) ws ≡ b → AreDifferent (if list_any (pointwise nat_eq w) ws then ws else ws ++ w ∷ [])
    go true h = rw h d
    go false h = rw h (different_more ws w d h)

-- a text that is there
pub there : (ws : List (List ℕ)) (w : List ℕ) (n : ℕ) → slice_get ws n ≡ Some w → list_any (pointwise nat_eq w) ws ≡ true
there [] w n e = absurd (cc)
there (v ∷ ws) w zero e = let q : v ≡ w = cc in let t = (bytes_decides w v).1 (sym q) in rw t refl
there (v ∷ ws) w (suc n) e = go (there ws w n e) (pointwise nat_eq w v)
  where
    go : list_any (pointwise nat_eq w) ws ≡ true → (b : Bool) → (b || list_any (pointwise nat_eq w) ws) ≡ true
    go h true = refl
    go h false = h

-- stays where it is
pub with_there : (ws : List (List ℕ)) (w : List ℕ) (n : ℕ) → slice_get ws n ≡ Some w → with_text ws w ≡ ws
with_there ws w n e = rw (there ws w n e) refl

absent : (ws : List (List ℕ)) (w : List ℕ) → ((n : ℕ) → slice_get ws n ≡ Some w → ⊥) → list_any (pointwise nat_eq w) ws ≡ false
absent [] w h = refl
absent (v ∷ ws) w h = go (absent ws w (λ n. h (suc n))) (pointwise nat_eq w v) refl
  where
    go : list_any (pointwise nat_eq w) ws ≡ false → (b : Bool) → pointwise nat_eq w v ≡ b → (b || list_any (pointwise nat_eq w) ws) ≡ false
    go rest true e = absurd (h zero (ap (λ x. Some x) (sym ((bytes_decides w v).0 e))))
    go rest false e = rest

-- a new one goes last
pub last_added : (ws : List (List ℕ)) (w : List ℕ) → ((n : ℕ) → slice_get ws n ≡ Some w → ⊥) → slice_get (with_text ws w) (length ws) ≡ Some w
last_added ws w h = rw (absent ws w h) (get_last ws w)

pub grows_none : (ws : List (List ℕ)) → GrowsTo ws ws 0
grows_none ws = record { kept = λ i w e. e; longer = omega arith; few = omega arith }

pub grows_chain : (us ws vs : List (List ℕ)) (m n : ℕ) → GrowsTo us ws m → GrowsTo ws vs n → GrowsTo us vs (m + n)
grows_chain us ws vs m n a b = let x = a.longer in let y = b.longer in let p = a.few in let q = b.few in
    record { kept = λ i w e. b.kept i w (a.kept i w e); longer = omega arith; few = omega arith }

pub grows_more : (ws vs : List (List ℕ)) (m n : ℕ) → m ≤ n → GrowsTo ws vs m → GrowsTo ws vs n
grows_more ws vs m n l a = let x = a.longer in let p = a.few in record { kept = a.kept; longer = x; few = omega arith }

pub grows_with : (ws : List (List ℕ)) (w : List ℕ) → GrowsTo ws (with_text ws w) 1
grows_with ws w = go (list_any (pointwise nat_eq w) ws)
  where
    go : (b : Bool) → GrowsTo ws (if b then ws else ws ++ w ∷ []) 1
    go true = grows_more ws ws 0 1 (omega arith) (grows_none ws)
    go false = let l = length-append ws (w ∷ []) in
        record { kept = λ i v e. get_front ws w i (slice_get_within ws i v e) ∙ e; longer = omega arith; few = omega arith }

pub begin_kept : (ws vs : List (List ℕ)) (n : ℕ) → GrowsTo ws vs n → BeginAlike ws → BeginAlike vs
begin_kept ws vs n g b = record { opening = g.kept 0 (codes "(") b.opening; closing = g.kept 1 (codes ")") b.closing; hole = g.kept 2 [] b.hole }
