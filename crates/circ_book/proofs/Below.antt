-- Nodes that are added behind others change nothing of those.
use Rattle.std.proofs.Common.{◌≡◌, ◌≤◌, ◌<◌, ℕ, Bool, true, false, nat_lt, ◌==◌, if◌then◌else◌, List, [], ◌∷◌, ◌++◌, zero, suc, map, length, take, drop, get_or, Option, Some, None, is_some, unwrap_or}
use Rattle.std.proofs.Common.{refl, ap, sym, ◌∙◌, subst, arith}
use Rattle.std.specs.List.{slice_get, AllByRecursion}
use Rattle.std.specs.Option.{option_map_or, option_to_list}
use Rattle.std.proofs.lemmas.Bool.{eqb-true, eq-eqb, ltb-true, ltb-false}
use Rattle.circ_term.specs.Tree.{Tree}
use Rattle.circ_theory.specs.Goal.{Goal}
use Rattle.circ_proof.specs.Plain.{ChainOf, WhyOf}
use Rattle.circ_expansion.specs.Followed.{History, Histories, Simplified, Reduced_by, Derived, Open, no_history, more_histories, Told, told_as, and_simplified}
use Rattle.circ_expansion.specs.Followed.{and_reduced, and_derived, first_histories, histories_after}
use Rattle.std.proofs.lemmas.Option.{same_Some}
use Rattle.circ_proof.specs.Rules.{ProofStep}
use Rattle.circ_book.specs.Histories.{histories_of, history_with, history_below, history_at, Meeting, told_by, told_from}
use Rattle.circ_book.specs.declared.histories.Node.{Node}
use Rattle.circ_expansion.proofs.Alike.{ext, longer}

get_front : {X : Type 0} (xs ys : List X) (k : ℕ) → k < length xs → slice_get (xs ++ ys) k ≡ slice_get xs k
get_front [] ys k h = absurd (omega arith)
get_front (x ∷ xs) ys zero h = refl
get_front (x ∷ xs) ys (suc k) h = get_front xs ys k (omega arith)

get_last : {X : Type 0} (xs : List X) (y : X) → slice_get (xs ++ y ∷ []) (length xs) ≡ Some y
get_last [] y = refl
get_last (x ∷ xs) y = get_last xs y

-- what becomes of a node by those below it
abbrev by_below : (table : List Tree) → (ℕ → History) → Option Node → History
by_below table h o = option_map_or (λ n. history_with table h n.goal n.what) o Open

first_same : (table : List Tree) (ns xs : List Node) (b : ℕ) → b ≤ length ns → (k : ℕ) → history_below table b (ns ++ xs) k ≡ history_below table b ns k
first_same table ns xs zero le k = refl
first_same table ns xs (suc b) le k = go (k == b) (first_same table ns xs b (omega arith))
  where
    go : (v : Bool) → ((j : ℕ) → history_below table b (ns ++ xs) j ≡ history_below table b ns j)
        → (if v then by_below table (history_below table b (ns ++ xs)) (slice_get (ns ++ xs) b) else history_below table b (ns ++ xs) k)
        ≡ (if v then by_below table (history_below table b ns) (slice_get ns b) else history_below table b ns k)
    go true ih =
        ap (λ h. by_below table h (slice_get (ns ++ xs) b)) (ext ih) ∙ ap (by_below table (history_below table b ns)) (get_front ns xs b (omega arith))
    go false ih = ih k

pub not_below : (table : List Tree) (ns : List Node) (b k : ℕ) → b ≤ k → history_below table b ns k ≡ Open
not_below table ns zero k le = refl
not_below table ns (suc b) k le = go (k == b) refl (not_below table ns b k (omega arith))
  where
    go : (v : Bool) → (k == b) ≡ v → history_below table b ns k ≡ Open
        → (if v then by_below table (history_below table b ns) (slice_get ns b) else history_below table b ns k) ≡ Open
    go true e ih = absurd (let z = eqb-true k b e in omega (arith, z))
    go false e ih = ih

other_below : (k b : ℕ) → k < suc b → (k == b) ≡ false → k < b
other_below k b lt e = less (nat_lt k b) refl
  where
    less : (v : Bool) → nat_lt k b ≡ v → k < b
    less true h = ltb-true k b h
    less false h = absurd (let y : k ≡ b = omega (arith, ltb-false k b h, lt) in let z = eq-eqb k b y in cc)

pub descend : (table : List Tree) (ns : List Node) (b k : ℕ) → k < b → history_below table b ns k ≡ by_below table (history_below table k ns) (slice_get ns k)
descend table ns zero k lt = absurd (omega arith)
descend table ns (suc b) k lt = go (k == b) refl (λ h. descend table ns b k h)
  where
    go : (v : Bool) → (k == b) ≡ v → (k < b → history_below table b ns k ≡ by_below table (history_below table k ns) (slice_get ns k))
        → (if v then by_below table (history_below table b ns) (slice_get ns b) else history_below table b ns k)
        ≡ by_below table (history_below table k ns) (slice_get ns k)
    go true e ih = ap (λ j. by_below table (history_below table j ns) (slice_get ns j)) (sym (eqb-true k b e))
    go false e ih = ih (other_below k b lt e)

-- a node among those that there are
pub node_is : (table : List Tree) (ns : List Node) (k : ℕ) → k < length ns → history_at table ns k ≡ by_below table (history_below table k ns) (slice_get ns k)
node_is table ns k lt = descend table ns (length ns) k lt

pub old_same : (table : List Tree) (ns xs : List Node) (k : ℕ) → k < length ns → history_at table (ns ++ xs) k ≡ history_at table ns k
old_same table ns xs k lt =
    descend table (ns ++ xs) (length (ns ++ xs)) k (long ns xs k lt)
    ∙ ap (λ h. by_below table h (slice_get (ns ++ xs) k)) (ext (first_same table ns xs k (omega arith)))
    ∙ ap (by_below table (history_below table k ns)) (get_front ns xs k lt) ∙ sym (node_is table ns k lt)
  where
    long : (us vs : List Node) (k : ℕ) → k < length us → k < length (us ++ vs)
    long [] vs k h = absurd (omega arith)
    long (u ∷ us) vs zero h = omega arith
    long (u ∷ us) vs (suc k) h = omega (arith, long us vs k (omega arith))

pub last_is : (table : List Tree) (ns : List Node) (x : Node) → history_at table (ns ++ x ∷ []) (length ns) ≡ history_with table (history_at table ns) x.goal x.what
last_is table ns x =
    let z = longer ns x in
    node_is table (ns ++ x ∷ []) (length ns) (omega (arith, z))
    ∙ ap (λ h. by_below table h (slice_get (ns ++ x ∷ []) (length ns))) (ext (first_same table ns (x ∷ []) (length ns) (omega arith)))
    ∙ ap (by_below table (history_at table ns)) (get_last ns x)

abbrev AreIn : List Node → List ℕ → Type 0
AreIn ns ks = AllByRecursion (λ k. k < length ns) ks

pub olds_same : (table : List Tree) (ns xs : List Node) (ks : List ℕ) → AllByRecursion (λ k. k < length ns) ks
    → map (history_at table (ns ++ xs)) ks ≡ map (history_at table ns) ks
olds_same table ns xs [] a = refl
olds_same table ns xs (k ∷ ks) a =
    ap (λ h. h ∷ map (history_at table (ns ++ xs)) ks) (old_same table ns xs k a.0) ∙ ap (λ hs. history_at table ns k ∷ hs) (olds_same table ns xs ks a.1)

-- ---- one step more

-- what is told of open goals and of those that are derived
abbrev pub told_lists : (table : List Tree) → List Node → (goals derived : List ℕ) → Told
told_lists table ns gs ds = told_as (histories_of (map (history_at table ns) gs)) (histories_of (map (history_at table ns) ds))

abbrev pub rest_of : List ℕ → List ℕ
rest_of [] = []
rest_of (k ∷ ks) = ks

abbrev pub first_or : ℕ → List ℕ → ℕ
first_or n [] = n
first_or n (k ∷ ks) = k

firsts : (h : ℕ → History) (c : ℕ) (gs : List ℕ) → first_histories c (histories_of (map h gs)) ≡ histories_of (map h (take c gs))
firsts h zero [] = refl
firsts h zero (g ∷ gs) = refl
firsts h (suc c) [] = refl
firsts h (suc c) (g ∷ gs) = ap (more_histories (h g)) (firsts h c gs)

afters : (h : ℕ → History) (c : ℕ) (gs : List ℕ) → histories_after c (histories_of (map h gs)) ≡ histories_of (map h (drop c gs))
afters h zero [] = refl
afters h zero (g ∷ gs) = refl
afters h (suc c) [] = refl
afters h (suc c) (g ∷ gs) = afters h c gs

-- the new node is that of the first goal
new_first : (table : List Tree) (ns : List Node) (x : Node) (gs : List ℕ) → AllByRecursion (λ k. k < length ns) gs
    → histories_of (map (history_at table (ns ++ x ∷ [])) (length ns ∷ gs))
    ≡ more_histories (history_with table (history_at table ns) x.goal x.what) (histories_of (map (history_at table ns) gs))
new_first table ns x gs a =
    ap (λ h. more_histories h (histories_of (map (history_at table (ns ++ x ∷ [])) gs))) (last_is table ns x)
    ∙ ap (λ hs. more_histories (history_with table (history_at table ns) x.goal x.what) (histories_of hs)) (olds_same table ns (x ∷ []) gs a)

others_same : (table : List Tree) (ns : List Node) (x : Node) (gs : List ℕ) → AllByRecursion (λ k. k < length ns) gs
    → histories_of (map (history_at table (ns ++ x ∷ [])) gs) ≡ histories_of (map (history_at table ns) gs)
others_same table ns x gs a = ap histories_of (olds_same table ns (x ∷ []) gs a)

told_parts : (a b c d : Histories) → a ≡ b → c ≡ d → told_as a c ≡ told_as b d
told_parts a b c d e f = ap (λ x. told_as x c) e ∙ ap (told_as b) f

pub tells_simplified : (table : List Tree) (ns : List Node) (x : Node) (p : Goal) (chain : ChainOf Tree) (gs ds : List ℕ)
    → AllByRecursion (λ k. k < length ns) gs → AllByRecursion (λ k. k < length ns) ds
    → history_with table (history_at table ns) x.goal x.what ≡ Simplified p chain (history_at table ns (first_or (length ns) gs))
    → told_lists table (ns ++ x ∷ []) (length ns ∷ rest_of gs) ds ≡ and_simplified p chain (told_lists table ns gs ds)
tells_simplified table ns x p chain [] ds a b e =
    told_parts (histories_of (map (history_at table (ns ++ x ∷ [])) (length ns ∷ []))) (more_histories (Simplified p chain Open) no_history)
    (histories_of (map (history_at table (ns ++ x ∷ [])) ds)) (histories_of (map (history_at table ns) ds))
    (new_first table ns x [] tt ∙ ap (λ h. more_histories h no_history) (e ∙ ap (Simplified p chain) (not_below table ns (length ns) (length ns) (omega arith))))
    (others_same table ns x ds b)
tells_simplified table ns x p chain (g ∷ gs) ds a b e =
    told_parts (histories_of (map (history_at table (ns ++ x ∷ [])) (length ns ∷ gs)))
    (more_histories (Simplified p chain (history_at table ns g)) (histories_of (map (history_at table ns) gs)))
    (histories_of (map (history_at table (ns ++ x ∷ [])) ds)) (histories_of (map (history_at table ns) ds))
    (new_first table ns x gs a.1 ∙ ap (λ h. more_histories h (histories_of (map (history_at table ns) gs))) e) (others_same table ns x ds b)

pub tells_reduced : (table : List Tree) (ns : List Node) (x : Node) (p : Goal) (why : WhyOf Tree) (gs ds : List ℕ)
    → AllByRecursion (λ k. k < length ns) gs → AllByRecursion (λ k. k < length ns) ds
    → history_with table (history_at table ns) x.goal x.what ≡ Reduced_by p why
    → told_lists table (ns ++ x ∷ []) (length ns ∷ gs) ds ≡ and_reduced p why (told_lists table ns gs ds)
tells_reduced table ns x p why gs ds a b e =
    told_parts (histories_of (map (history_at table (ns ++ x ∷ [])) (length ns ∷ gs)))
    (more_histories (Reduced_by p why) (histories_of (map (history_at table ns) gs)))
    (histories_of (map (history_at table (ns ++ x ∷ [])) ds)) (histories_of (map (history_at table ns) ds))
    (new_first table ns x gs a ∙ ap (λ h. more_histories h (histories_of (map (history_at table ns) gs))) e) (others_same table ns x ds b)

-- the first c stay, and the others are the children
pub tells_derived : (table : List Tree) (ns : List Node) (x : Node) (p : Goal) (c : ℕ) (gs ds : List ℕ)
    → AllByRecursion (λ k. k < length ns) (take c gs) → AllByRecursion (λ k. k < length ns) ds
    → history_with table (history_at table ns) x.goal x.what ≡ Derived p (histories_of (map (history_at table ns) (drop c gs)))
    → told_lists table (ns ++ x ∷ []) (length ns ∷ take c gs) (length ns ∷ ds) ≡ and_derived p c (told_lists table ns gs ds)
tells_derived table ns x p c gs ds a b e =
    let h : History = Derived p (histories_of (map (history_at table ns) (drop c gs))) in
    let same : h ≡ Derived p (histories_after c (histories_of (map (history_at table ns) gs))) = ap (Derived p) (sym (afters (history_at table ns) c gs)) in
    told_parts (histories_of (map (history_at table (ns ++ x ∷ [])) (length ns ∷ take c gs)))
    (more_histories (Derived p (histories_after c (histories_of (map (history_at table ns) gs)))) (first_histories c (histories_of (map (history_at table ns) gs))))
    (histories_of (map (history_at table (ns ++ x ∷ [])) (length ns ∷ ds)))
    (more_histories (Derived p (histories_after c (histories_of (map (history_at table ns) gs)))) (histories_of (map (history_at table ns) ds)))
    (new_first table ns x (take c gs) a ∙ ap (λ y. more_histories y (histories_of (map (history_at table ns) (take c gs)))) (e ∙ same)
    ∙ ap (more_histories (Derived p (histories_after c (histories_of (map (history_at table ns) gs))))) (sym (firsts (history_at table ns) c gs)))
    (new_first table ns x ds b ∙ ap (λ y. more_histories y (histories_of (map (history_at table ns) ds))) (e ∙ same))

-- ---- nodes that are added

pub more_in : (ns ms : List Node) (x : Node) → ms ≡ ns ++ x ∷ [] → (ks : List ℕ) → AllByRecursion (λ k. k < length ns) ks
    → AllByRecursion (λ k. k < length ms) ks
more_in ns ms x e [] a = tt
more_in ns ms x e (k ∷ ks) a = let z = ap length e ∙ longer ns x in (omega (arith, z, a.0), more_in ns ms x e ks a.1)

pub new_in : (ns ms : List Node) (x : Node) → ms ≡ ns ++ x ∷ [] → (ks us : List ℕ) → AllByRecursion (λ k. k < length ns) ks → us ≡ length ns ∷ ks
    → AllByRecursion (λ k. k < length ms) us
new_in ns ms x e ks us a f =
    let z = ap length e ∙ longer ns x in
    let P : List ℕ → Type 0 = λ ys. AllByRecursion (λ k. k < length ms) ys in
    subst P (sym f) (omega (arith, z), more_in ns ms x e ks a)

pub told_of : (table : List Tree) (ns ms : List Node) (x : Node) → ms ≡ ns ++ x ∷ [] → (gs ds us vs : List ℕ) → us ≡ gs → vs ≡ ds → (t : Told)
    → told_lists table (ns ++ x ∷ []) gs ds ≡ t → told_lists table ms us vs ≡ t
told_of table ns ms x e gs ds us vs f g t h =
    ap (λ y. told_lists table y us vs) e ∙ ap (λ y. told_lists table (ns ++ x ∷ []) y vs) f ∙ ap (told_lists table (ns ++ x ∷ []) gs) g ∙ h

pub taken_in : (n c : ℕ) (ks : List ℕ) → AllByRecursion (λ k. k < n) ks → AllByRecursion (λ k. k < n) (take c ks)
taken_in n zero [] a = tt
taken_in n zero (k ∷ ks) a = tt
taken_in n (suc c) [] a = tt
taken_in n (suc c) (k ∷ ks) a = (a.0, taken_in n c ks a.1)

pub rest_in : (n : ℕ) (ks : List ℕ) → AllByRecursion (λ k. k < n) ks → AllByRecursion (λ k. k < n) (rest_of ks)
rest_in n [] a = tt
rest_in n (k ∷ ks) a = a.1

-- what is taken from the front
pub rest_dropped : (gs : List ℕ) → drop 1 gs ≡ rest_of gs
rest_dropped [] = refl
rest_dropped (g ∷ gs) = none_dropped gs
  where
    none_dropped : (ks : List ℕ) → drop 0 ks ≡ ks
    none_dropped [] = refl
    none_dropped (k ∷ ks) = refl

pub first_popped : (gs hs : List ℕ) (r : Option ℕ) → gs ≡ option_to_list r ++ hs → (0 < length gs → is_some r ≡ true) → (n : ℕ) → unwrap_or r n ≡ first_or n gs
first_popped [] hs None e h n = refl
first_popped [] hs (Some k) e h n = absurd (cc)
first_popped (g ∷ gs) hs None e h n = absurd (let z = h (omega arith) in cc)
first_popped (g ∷ gs) hs (Some k) e h n = sym (ap (first_or n) e)

-- ---- the last of those that are left

pub drop_end : {X : Type 0} (xs : List X) (k : ℕ) (x : X) → slice_get xs k ≡ Some x → drop k xs ≡ x ∷ drop (suc k) xs
drop_end [] k x e = absurd (cc)
drop_end (y ∷ ys) zero x e = ap (λ z. z ∷ ys) (same_Some y x e) ∙ ap (λ zs. x ∷ zs) (sym (none_dropped ys))
  where
    none_dropped : {Y : Type 0} (zs : List Y) → drop 0 zs ≡ zs
    none_dropped [] = refl
    none_dropped (z ∷ zs) = refl
drop_end (y ∷ ys) (suc k) x e = drop_end ys k x e

pub one_told : (m : Meeting) (ms : List Meeting) (ss : List (ProofStep Tree)) (k : ℕ) (s : ProofStep Tree) → slice_get ss k ≡ Some s
    → told_by m s (told_from ms (drop (suc k) ss)) ≡ told_from (m ∷ ms) (drop k ss)
one_told m ms ss k s e = sym (ap (told_from (m ∷ ms)) (drop_end ss k s e))

pub step_there : {X Y Z : Type 0} (f : Y → Z) (g : X → Y) (xs : List X) (k : ℕ) (x : X) → k < length xs → x ≡ get_or xs k x
    → slice_get (map f (map g xs)) k ≡ Some (f (g x))
step_there f g [] k x h e = absurd (omega arith)
step_there f g (y ∷ ys) zero x h e = ap (λ z. Some (f (g z))) (sym e)
step_there f g (y ∷ ys) (suc k) x h e = step_there f g ys k x (omega arith) e
