-- What the search knows stays true from step to step.
use Rattle.std.specs.Prelude.{◌≡◌, ℕ, ◌<◌, ◌≤◌, ◌+◌, zero, suc, List, [], ◌∷◌, ◌++◌, Bool, true, false, ◌⊎◌, length, Some, refl, slice_set, get_or}
use Rattle.std.specs.List.{slice_get}
use Rattle.std.proofs.Common.{ap, sym, subst, ◌∙◌, arith, inl, inr, length-append}
use Rattle.std.proofs.lemmas.Option.{same_Some}
use Rattle.circ_auto.specs.declared.visits.Visit.{Visit}
use Rattle.circ_auto.specs.Graph.{Graph, IsClosedGraph}
use Rattle.circ_auto.specs.Search.{IsAt, IsStartVisit, IsNextVisit, Reached, IsDone, Searched, unseen}
use Rattle.circ_auto.proofs.Shortest.{inside_list}

pub get_front : {X : Type 0} (xs ys : List X) (i : ℕ) (x : X) → slice_get xs i ≡ Some x → slice_get (xs ++ ys) i ≡ Some x
get_front [] ys i x e = absurd (cc)
get_front (z ∷ xs) ys zero x e = e
get_front (z ∷ xs) ys (suc i) x e = get_front xs ys i x e

pub get_last : {X : Type 0} (xs : List X) (y : X) → slice_get (xs ++ y ∷ []) (length xs) ≡ Some y
get_last [] y = refl
get_last (x ∷ xs) y = get_last xs y

pub get_pushed : {X : Type 0} (xs : List X) (y : X) (i : ℕ) (x : X) → slice_get (xs ++ y ∷ []) i ≡ Some x → (slice_get xs i ≡ Some x) ⊎ ((i ≡ length xs) × (y ≡ x))
get_pushed [] y zero x e = inr (refl, same_Some y x e)
get_pushed [] y (suc i) x e = absurd (cc)
get_pushed (z ∷ xs) y zero x e = inl e
get_pushed (z ∷ xs) y (suc i) x e = up (get_pushed xs y i x e)
  where
    up : ((slice_get xs i ≡ Some x) ⊎ ((i ≡ length xs) × (y ≡ x))) → (slice_get xs i ≡ Some x) ⊎ ((suc i ≡ length (z ∷ xs)) × (y ≡ x))
    up (inl f) = inl f
    up (inr f) = inr (omega (arith, f.0), f.1)

pub get_set : (bs : List Bool) (q p : ℕ) → slice_get (slice_set bs q true) p ≡ Some true → (p ≡ q) ⊎ (slice_get bs p ≡ Some true)
get_set [] q p e = inr e
get_set (b ∷ bs) zero zero e = inl refl
get_set (b ∷ bs) zero (suc p) e = inr e
get_set (b ∷ bs) (suc q) zero e = inr e
get_set (b ∷ bs) (suc q) (suc p) e = up (get_set bs q p e)
  where
    up : ((p ≡ q) ⊎ (slice_get bs p ≡ Some true)) → (suc p ≡ suc q) ⊎ (slice_get bs p ≡ Some true)
    up (inl f) = inl (ap suc f)
    up (inr f) = inr f

pub length_set : (bs : List Bool) (q : ℕ) → length (slice_set bs q true) ≡ length bs
length_set [] q = refl
length_set (b ∷ bs) zero = refl
length_set (b ∷ bs) (suc q) = ap suc (length_set bs q)

pub unseen_set : (bs : List Bool) (q : ℕ) → slice_get bs q ≡ Some false → unseen (slice_set bs q true) + 1 ≡ unseen bs
unseen_set [] q e = absurd (cc)
unseen_set (true ∷ bs) zero e = absurd (cc)
unseen_set (false ∷ bs) zero e = refl
unseen_set (true ∷ bs) (suc q) e = unseen_set bs q e
unseen_set (false ∷ bs) (suc q) e = ap (λ n. n + 1) (unseen_set bs q e)

-- a longer list of visits reaches what a shorter one does
pub reached_front : (visits more : List Visit) (p d : ℕ) → Reached visits p d → Reached (visits ++ more) p d
reached_front visits more p d r = record { place = r.place; visit = r.visit; there = get_front visits more r.place r.visit r.there; point = r.point; depth = r.depth }

pub next_front : (g : Graph) (visits more : List Visit) (i : ℕ) (n : Visit) → IsNextVisit g visits i n → IsNextVisit g (visits ++ more) i n
next_front g visits more i n f = record { parent = f.parent; there = get_front visits more n.parent f.parent f.there; earlier = f.earlier; letter = f.letter; point = f.point; depth = f.depth }

-- the step by one more letter is done
pub one_more : (g : Graph) (visits : List Visit) (seen : List Bool) (head x : ℕ) (h : Visit) → Searched g visits seen head x → IsAt visits head h
    → Reached visits (g.step h.point x) (h.depth + 1) → Searched g visits seen head (x + 1)
one_more g visits seen head x h ok at r = record {
  points = ok.points;
  counted = ok.counted;
  inside = ok.inside;
  shallow = ok.shallow;
  rooted = ok.rooted;
  started = ok.started;
  noted = ok.noted;
  closed = λ i y n there done letter. go i y n there letter done (cut y);
  sorted = ok.sorted;
  near = ok.near;
  none = ok.none;
}
  where
    cut : (y : ℕ) → (y < x + 1) → (y < x) ⊎ (y ≡ x)
    cut y l = within (y) x l
      where
        within : (y x : ℕ) → y < x + 1 → (y < x) ⊎ (y ≡ x)
        within zero zero l = inr refl
        within zero (suc x) l = inl (omega arith)
        within (suc y) zero l = absurd (omega (arith, l))
        within (suc y) (suc x) l = up (within y x (omega (arith, l)))
          where
            up : ((y < x) ⊎ (y ≡ x)) → (suc y < suc x) ⊎ (suc y ≡ suc x)
            up (inl a) = inl (omega (arith, a))
            up (inr a) = inr (ap suc a)

    here : (i y : ℕ) (n : Visit) → IsAt visits i n → y < g.letters → i ≡ head → ((y < x) ⊎ (y ≡ x)) → Reached visits (g.step n.point y) (n.depth + 1)
    here i y n there letter e (inl l) = ok.closed i y n there (inr (e, l)) letter
    here i y n there letter e (inr l) =
        let at_head : IsAt visits head n = subst (λ k. IsAt visits k n) e there in
        let same : h ≡ n = same_Some h n (sym at ∙ at_head) in
        let P : Visit → Type 0 = λ m. Reached visits (g.step m.point y) (m.depth + 1) in
        subst P same (subst (λ z. Reached visits (g.step h.point z) (h.depth + 1)) (sym l) r)

    go : (i y : ℕ) (n : Visit) → IsAt visits i n → y < g.letters → IsDone head (x + 1) i y → ((y < x + 1) → (y < x) ⊎ (y ≡ x)) → Reached visits (g.step n.point y) (n.depth + 1)
    go i y n there letter (inl before) c = ok.closed i y n there (inl before) letter
    go i y n there letter (inr f) c = here i y n there letter f.0 (c f.1)

-- all letters are done, and the next visit is taken
pub next_head : (g : Graph) (visits : List Visit) (seen : List Bool) (head : ℕ) (h : Visit) → Searched g visits seen head g.letters → IsAt visits head h → Searched g visits seen (head + 1) 0
next_head g visits seen head h ok at = record {
  points = ok.points;
  counted = ok.counted;
  inside = ok.inside;
  shallow = ok.shallow;
  rooted = ok.rooted;
  started = ok.started;
  noted = ok.noted;
  sorted = ok.sorted;
  none = ok.none;
  closed = λ i y n there done letter. ok.closed i y n there (earlier i y letter done) letter;
  near = λ i k n at_next there. omega (arith, ok.near i h n at there, ok.sorted head (head + 1) h k at at_next (omega arith));
}
  where
    cut : (i k : ℕ) → i < k + 1 → (i < k) ⊎ (i ≡ k)
    cut zero zero l = inr refl
    cut zero (suc k) l = inl (omega arith)
    cut (suc i) zero l = absurd (omega (arith, l))
    cut (suc i) (suc k) l = up (cut i k (omega (arith, l)))
      where
        up : ((i < k) ⊎ (i ≡ k)) → (suc i < suc k) ⊎ (suc i ≡ suc k)
        up (inl a) = inl (omega (arith, a))
        up (inr a) = inr (ap suc a)

    by_cut : (i y : ℕ) → y < g.letters → ((i < head) ⊎ (i ≡ head)) → IsDone head g.letters i y
    by_cut i y letter (inl a) = inl a
    by_cut i y letter (inr a) = inr (a, letter)

    earlier : (i y : ℕ) → y < g.letters → IsDone (head + 1) 0 i y → IsDone head g.letters i y
    earlier i y letter (inl a) = by_cut i y letter (cut i head a)
    earlier i y letter (inr a) = absurd (omega (arith, a.1))

-- a point that was not seen is added, one step from the visit at the head
pub pushed : (g : Graph) (visits : List Visit) (seen : List Bool) (head x : ℕ) (h n : Visit) → IsClosedGraph g → Searched g visits seen head x → IsAt visits head h
    → x < g.letters → n.point ≡ g.step h.point x → n.parent ≡ head → n.letter ≡ x → n.depth ≡ h.depth + 1 → g.goal n.point ≡ false → slice_get seen n.point ≡ Some false
    → Searched g (visits ++ n ∷ []) (slice_set seen n.point true) head x
pushed g visits seen head x h n good ok at letter point parent by depth goal new = record {
  counted = omega (arith, ok.counted, unseen_set seen n.point new, length-append visits (n ∷ []));
  shallow = λ i m there. shallow i m (get_pushed visits n i m there);
  points = length_set seen n.point ∙ ok.points;
  inside = λ i m there. inside i m (get_pushed visits n i m there);
  rooted = λ i m there. rooted i m (get_pushed visits n i m there);
  started = reached_front visits (n ∷ []) g.start 0 ok.started;
  noted = λ p e d deep. noted p d deep (get_set seen n.point p e);
  closed = λ i y m there done l. closed i y m done l (get_pushed visits n i m there);
  sorted = λ i j m k there after le. sorted i j m k le (get_pushed visits n i m there) (get_pushed visits n j k after);
  near = λ i k m at_head there. near i k m (get_pushed visits n head k at_head) (get_pushed visits n i m there);
  none = λ i m there. none i m (get_pushed visits n i m there);
}
  where
    all : List Visit
    all = visits ++ n ∷ []

    within : head < length visits
    within = inside_list visits head h at

    Is : ℕ → Visit → Type 0
    Is i m = IsAt visits i m ⊎ ((i ≡ length visits) × (n ≡ m))

    inside : (i : ℕ) (m : Visit) → Is i m → m.point < g.points
    inside i m (inl f) = ok.inside i m f
    inside i m (inr f) = subst (λ (k : Visit). k.point < g.points) f.1 (subst (λ q. q < g.points) (sym point) (good.step h.point x (ok.inside head h at) letter))

    shallow : (i : ℕ) (m : Visit) → Is i m → m.depth ≤ i
    shallow i m (inl f) = ok.shallow i m f
    shallow i m (inr f) = let same : n.depth ≡ m.depth = ap (λ (k : Visit). k.depth) f.1 in omega (arith, same, depth, f.0, within, ok.shallow head h at)

    front : (i : ℕ) (m : Visit) → (IsStartVisit g i m ⊎ IsNextVisit g visits i m) → IsStartVisit g i m ⊎ IsNextVisit g all i m
    front i m (inl f) = inl f
    front i m (inr f) = inr (next_front g visits (n ∷ []) i m f)

    rooted : (i : ℕ) (m : Visit) → Is i m → IsStartVisit g i m ⊎ IsNextVisit g all i m
    rooted i m (inl f) = front i m (ok.rooted i m f)
    rooted i m (inr f) = inr (subst (λ (k : Visit). IsNextVisit g all i k) f.1 (record {
      parent = h;
      there = get_front visits (n ∷ []) n.parent h (subst (λ k. IsAt visits k h) (sym parent) at);
      earlier = omega (arith, parent, within, f.0);
      letter = omega (arith, by, letter);
      point = point ∙ ap (λ y. g.step h.point y) (sym by);
      depth = depth;
    }))

    last : Reached all n.point n.depth
    last = record { place = length visits; visit = n; there = get_last visits n; point = refl; depth = omega arith }

    noted : (p d : ℕ) → ((i : ℕ) (m : Visit) → IsAt all i m → m.depth ≤ d) → ((p ≡ n.point) ⊎ (slice_get seen p ≡ Some true)) → Reached all p d
    noted p d deep (inl e) = record { place = length visits; visit = n; there = get_last visits n; point = sym e; depth = deep (length visits) n (get_last visits n) }
    noted p d deep (inr e) = reached_front visits (n ∷ []) p d (ok.noted p e d (λ i m there. deep i m (get_front visits (n ∷ []) i m there)))

    late : (i y : ℕ) → IsDone head x i y → i ≡ length visits → ⊥
    late i y (inl f) e = absurd (omega (arith, f, e, within))
    late i y (inr f) e = absurd (omega (arith, f.0, e, within))

    closed : (i y : ℕ) (m : Visit) → IsDone head x i y → y < g.letters → Is i m → Reached all (g.step m.point y) (m.depth + 1)
    closed i y m done l (inl f) = reached_front visits (n ∷ []) (g.step m.point y) (m.depth + 1) (ok.closed i y m f done l)
    closed i y m done l (inr f) = absurd (late i y done f.0)

    depth_of : (m : Visit) → n ≡ m → m.depth ≡ h.depth + 1
    depth_of m e = ap (λ (k : Visit). k.depth) (sym e) ∙ depth

    sorted : (i j : ℕ) (m k : Visit) → i ≤ j → Is i m → Is j k → m.depth ≤ k.depth
    sorted i j m k le (inl f) (inl e) = ok.sorted i j m k f e le
    sorted i j m k le (inl f) (inr e) = omega (arith, depth_of k e.1, ok.near i h m at f)
    sorted i j m k le (inr f) (inl e) = absurd (omega (arith, f.0, le, inside_list visits j k e))
    sorted i j m k le (inr f) (inr e) = omega (arith, depth_of k e.1, depth_of m f.1)

    near : (i : ℕ) (k m : Visit) → Is head k → Is i m → m.depth ≤ k.depth + 1
    near i k m (inl e) (inl f) = ok.near i k m e f
    near i k m (inl e) (inr f) = let same : h.depth ≡ k.depth = ap (λ (z : Visit). z.depth) (same_Some h k (sym at ∙ e)) in omega (arith, depth_of m f.1, same)
    near i k m (inr e) f = absurd (omega (arith, e.0, within))

    none : (i : ℕ) (m : Visit) → Is i m → g.goal m.point ≡ false
    none i m (inl f) = ok.none i m f
    none i m (inr f) = subst (λ (k : Visit). g.goal k.point ≡ false) f.1 goal

-- the first visit alone
pub begun : (g : Graph) (seen : List Bool) (n : Visit) → IsClosedGraph g → length seen ≡ g.points → unseen seen + 1 ≡ g.points → ((p : ℕ) → slice_get seen p ≡ Some true → p ≡ g.start)
    → n.point ≡ g.start → n.depth ≡ 0 → g.goal g.start ≡ false → Searched g (n ∷ []) seen 0 0
begun g seen n good points count only point depth goal = record {
  points = points;
  counted = count;
  shallow = λ i m there. omega (arith, deep m (one i m there).1);
  inside = λ i m there. subst (λ (k : Visit). k.point < g.points) (one i m there).1 (subst (λ q. q < g.points) (sym point) good.start);
  rooted = λ i m there. inl (subst (λ (k : Visit). IsStartVisit g i k) (one i m there).1 (record { place = (one i m there).0; point = point; depth = depth }));
  started = record { place = 0; visit = n; there = refl; point = point; depth = omega (arith, depth) };
  noted = λ p e d deep. record { place = 0; visit = n; there = refl; point = point ∙ sym (only p e); depth = deep 0 n refl };
  closed = λ i y m there done l. absurd (undone i y done);
  sorted = λ i j m k there after le. omega (arith, deep m (one i m there).1, deep k (one j k after).1);
  near = λ i k m at_head there. omega (arith, deep m (one i m there).1, deep k (one 0 k at_head).1);
  none = λ i m there. subst (λ (k : Visit). g.goal k.point ≡ false) (one i m there).1 (subst (λ q. g.goal q ≡ false) (sym point) goal);
}
  where
    one : (i : ℕ) (m : Visit) → IsAt (n ∷ []) i m → (i ≡ 0) × (n ≡ m)
    one zero m e = (refl, same_Some n m e)
    one (suc i) m e = absurd (cc)

    deep : (m : Visit) → n ≡ m → m.depth ≡ 0
    deep m e = ap (λ (k : Visit). k.depth) (sym e) ∙ depth

    undone : (i y : ℕ) → IsDone 0 0 i y → ⊥
    undone i y (inl f) = absurd (omega (arith, f))
    undone i y (inr f) = absurd (omega (arith, f.1))

pub get_is : {X : Type 0} (xs : List X) (i : ℕ) (v : X) → i < length xs → v ≡ get_or xs i v → slice_get xs i ≡ Some v
get_is [] i v l e = absurd (omega (arith, l))
get_is (x ∷ xs) zero v l e = ap Some (sym e)
get_is (x ∷ xs) (suc i) v l e = get_is xs i v (omega (arith, l)) e

-- the step leads to a point that was seen
pub step_seen : (g : Graph) (visits : List Visit) (seen : List Bool) (head x : ℕ) (h : Visit) → Searched g visits seen head x → IsAt visits head h
    → slice_get seen (g.step h.point x) ≡ Some true → Searched g visits seen head (x + 1)
step_seen g visits seen head x h ok at e = one_more g visits seen head x h ok at (ok.noted (g.step h.point x) e (h.depth + 1) (λ i n there. ok.near i h n at there))

-- the step leads to a point that was not seen
pub step_new : (g : Graph) (visits : List Visit) (seen : List Bool) (head x : ℕ) (h n : Visit) → IsClosedGraph g → Searched g visits seen head x → IsAt visits head h
    → x < g.letters → n.point ≡ g.step h.point x → n.parent ≡ head → n.letter ≡ x → n.depth ≡ h.depth + 1 → g.goal n.point ≡ false → slice_get seen n.point ≡ Some false
    → Searched g (visits ++ n ∷ []) (slice_set seen n.point true) head (x + 1) × IsAt (visits ++ n ∷ []) head h
step_new g visits seen head x h n good ok at letter point parent by depth goal new =
    let at_all = get_front visits (n ∷ []) head h at in
    let ok_all = pushed g visits seen head x h n good ok at letter point parent by depth goal new in (
      one_more g (visits ++ n ∷ []) (slice_set seen n.point true) head x h ok_all at_all
          (record { place = length visits; visit = n; there = get_last visits n; point = point; depth = omega (arith, depth) }),
      at_all,
    )

-- the steps at the head that are done may be forgotten
pub forgotten : (g : Graph) (visits : List Visit) (seen : List Bool) (head x : ℕ) → Searched g visits seen head x → Searched g visits seen head 0
forgotten g visits seen head x ok = record {
  points = ok.points;
  counted = ok.counted;
  inside = ok.inside;
  shallow = ok.shallow;
  rooted = ok.rooted;
  started = ok.started;
  noted = ok.noted;
  closed = λ i y n there done letter. ok.closed i y n there (fewer i y done) letter;
  sorted = ok.sorted;
  near = ok.near;
  none = ok.none;
}
  where
    fewer : (i y : ℕ) → IsDone head 0 i y → IsDone head x i y
    fewer i y (inl a) = inl a
    fewer i y (inr a) = absurd (omega (arith, a.1))
