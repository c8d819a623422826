-- The entries that led to pairs, by the pairs that they came from.
use Rattle.std.proofs.Common.{◌≡◌, ℕ, ◌+◌, ◌≤◌, ◌<◌, ◌^◌, length, reverse, append_assoc, Bool, true, false, ◌==◌, if◌then◌else◌, List, [], ◌∷◌, ◌++◌, map, Option, Some, None, zero, suc, refl, ap, sym, ◌∙◌, subst, arith}
use Rattle.std.specs.List.{slice_get, AllByRecursion}
use Rattle.std.specs.Option.{unwrap_or}
use Rattle.std.proofs.lemmas.List.{map-append, length-append, reverse-append}
use Rattle.std.proofs.lemmas.Option.{same_Some}
use Rattle.circ_term.specs.Tree.{Tree, sort_of}
use Rattle.circ_term.specs.Limits.{first_limit, or_else}
use Rattle.circ_theory.specs.Theory.{Theory, Derivative}
use Rattle.circ_theory.specs.Experiment.{derived}
use Rattle.circ_theory.specs.Fresh.{numbered_from}
use Rattle.circ_theory.proofs.Lists.{all_by}
use Rattle.circ_plain_search.proofs.Led.{all_append}
use Rattle.circ_entry.specs.Entries.{Written, derivative_at}
use Rattle.circ_entry.proofs.Written.{derivative_is}
use Rattle.circ_refute.specs.PlainRefutation.{waiting, children, child, entry_from, waiting_limit}
use Rattle.circ_refute.specs.Plain.{entry_of, entries_by, led_after, led_to, plain_waiting, HasOrigin, ComeInOrder, HaveOrigins, descendant, descendants, descendants_limit}
use Rattle.circ_refute.specs.Progress.{plain_queue}
use Rattle.circ_refute.specs.declared.descendant.Descendant.{Descendant}
use Rattle.circ_refute.specs.declared.descendant.Origin.{Origin}

-- ---- lists

get_before : {X : Type 0} (xs ys : List X) (i : ℕ) → i < length xs → slice_get (xs ++ ys) i ≡ slice_get xs i
get_before [] ys i h = absurd (omega (arith, h))
get_before (x ∷ xs) ys zero h = refl
get_before (x ∷ xs) ys (suc i) h = get_before xs ys i (omega (arith, h))

get_last : {X : Type 0} (xs : List X) (y : X) → slice_get (xs ++ y ∷ []) (length xs) ≡ Some y
get_last [] y = refl
get_last (x ∷ xs) y = get_last xs y

pub map_reverse : {X Y : Type 0} (f : X → Y) (xs : List X) → map f (reverse xs) ≡ reverse (map f xs)
map_reverse f [] = refl
map_reverse f (x ∷ xs) =
    ap (map f) (reverse-append (x ∷ []) xs) ∙ map-append f (reverse xs) (x ∷ []) ∙ ap (λ ys. ys ++ f x ∷ []) (map_reverse f xs)
    ∙ sym (reverse-append (f x ∷ []) (map f xs))

-- ---- the entries that led to the expanded pairs

module _ (th : Theory) where
  pub led_push : (led : List (List Written)) (xs : List Descendant) (x : Descendant)
      → led_after th led (xs ++ x ∷ []) ≡ led_after th led xs ++ entries_by th (led_after th led xs) x.origin ∷ []
  led_push led [] x = refl
  led_push led (y ∷ xs) x = led_push (led ++ entries_by th led y.origin ∷ []) xs x

  pub length_led : (led : List (List Written)) (xs : List Descendant) → length (led_after th led xs) ≡ length led + length xs
  length_led led [] = omega arith
  length_led led (x ∷ xs) =
      let e : List (List Written) = entries_by th led x.origin ∷ [] in
      let r = length_led (led ++ e) xs in
      omega (arith, r, length-append led e)

  -- what was led to stays
  get_after : (led : List (List Written)) (xs : List Descendant) (i : ℕ) → i < length led → slice_get (led_after th led xs) i ≡ slice_get led i
  get_after led [] i h = refl
  get_after led (x ∷ xs) i h =
      let e : List (List Written) = entries_by th led x.origin ∷ [] in
      get_after (led ++ e) xs i (omega (arith, h, length-append led e)) ∙ get_before led e i h

  entries_after : (led : List (List Written)) (xs : List Descendant) (o : Option Origin) → HasOrigin (length led) o
      → entries_by th (led_after th led xs) o ≡ entries_by th led o
  entries_after led xs None h = refl
  entries_after led xs (Some o) h = ap (λ y. unwrap_or y [] ++ entry_of th o ∷ []) (get_after led xs o.parent h.parent)

  entries_keep : (led ms : List (List Written)) (o : Option Origin) → HasOrigin (length led) o → entries_by th (led ++ ms) o ≡ entries_by th led o
  entries_keep led ms None h = refl
  entries_keep led ms (Some o) h = ap (λ y. unwrap_or y [] ++ entry_of th o ∷ []) (get_before led ms o.parent h.parent)

  led_there : (led : List (List Written)) (xs : List Descendant) → ComeInOrder (length led) xs → (i : ℕ) (x : Descendant) → slice_get xs i ≡ Some x
      → slice_get (led_after th led xs) (length led + i) ≡ Some (entries_by th (led_after th led xs) x.origin)
  led_there led [] c i x g = absurd (cc)
  led_there led (y ∷ ys) c zero x g =
      let e : List Written = entries_by th led y.origin in
      let more : List (List Written) = led ++ e ∷ [] in
      let all : List (List Written) = led_after th more ys in
      let long : length more ≡ length led + 1 = length-append led (e ∷ []) in
      let z : length led + 0 ≡ length led = omega arith in
      let same : entries_by th all y.origin ≡ e = entries_after led (y ∷ ys) y.origin c.0 in
      ap (slice_get all) z ∙ get_after more ys (length led) (omega (arith, long)) ∙ get_last led e ∙ ap Some (sym same)
      ∙ ap (λ w. Some (entries_by th all w.origin)) (same_Some y x g)
  led_there led (y ∷ ys) c (suc i) x g =
      let e : List Written = entries_by th led y.origin in
      let more : List (List Written) = led ++ e ∷ [] in
      let long : length more ≡ length led + 1 = length-append led (e ∷ []) in
      let z : length led + suc i ≡ length more + i = omega (arith, long) in
      let C : ℕ → Type 0 = λ n. ComeInOrder n ys in
      ap (slice_get (led_after th more ys)) z ∙ led_there more ys (subst C (sym long) c.1) i x g

  -- the entries to an expanded pair are those to its parent and one more
  pub parent_entries : (xs : List Descendant) → ComeInOrder 0 xs → (o : Origin) (x : Descendant) → slice_get xs o.parent ≡ Some x
      → entries_by th (led_to th xs) (Some o) ≡ entries_by th (led_to th xs) x.origin ++ entry_of th o ∷ []
  parent_entries xs c o x g =
      let z : 0 + o.parent ≡ o.parent = omega arith in
      let there = ap (slice_get (led_to th xs)) (sym z) ∙ led_there [] xs c o.parent x g in
      ap (λ y. unwrap_or y [] ++ entry_of th o ∷ []) there

-- ---- that pairs come in order

pub origin_at : (k : ℕ) (xs : List Descendant) → ComeInOrder k xs → (i : ℕ) (x : Descendant) → slice_get xs i ≡ Some x → HasOrigin (k + i) x.origin
origin_at k [] c i x g = absurd (cc)
origin_at k (y ∷ ys) c zero x g =
    let z : k ≡ k + 0 = omega arith in
    let P : ℕ → Type 0 = λ n. HasOrigin n x.origin in
    let Q : Descendant → Type 0 = λ w. HasOrigin k w.origin in
    subst P z (subst Q (same_Some y x g) c.0)
origin_at k (y ∷ ys) c (suc i) x g =
    let z : k + 1 + i ≡ k + suc i = omega arith in
    let P : ℕ → Type 0 = λ n. HasOrigin n x.origin in
    subst P z (origin_at (k + 1) ys c.1 i x g)

pub origin_more : (n m : ℕ) (o : Option Origin) → n ≤ m → HasOrigin n o → HasOrigin m o
origin_more n m None h a = tt
origin_more n m (Some o) h a = record { parent = omega (arith, h, a.parent); numbers = a.numbers }

come_push : (k : ℕ) (xs : List Descendant) (x : Descendant) → ComeInOrder k xs → HasOrigin (k + length xs) x.origin → ComeInOrder k (xs ++ x ∷ [])
come_push k [] x c h = let z : k + 0 ≡ k = omega arith in let P : ℕ → Type 0 = λ n. HasOrigin n x.origin in (subst P z h, tt)
come_push k (y ∷ ys) x c h =
    let z : k + suc (length ys) ≡ k + 1 + length ys = omega arith in
    let P : ℕ → Type 0 = λ n. HasOrigin n x.origin in
    (c.0, come_push (k + 1) ys x c.1 (subst P z h))

descendants_come : (parent : ℕ) (l m : Tree) (k i : ℕ) (ds : List Derivative) → k + 8 ≤ 2 ^ 32
    → AllByRecursion (λ x. HasOrigin (parent + 1) x.origin) (descendants parent l m k i ds)
descendants_come parent l m k i [] h = tt
descendants_come parent l m k i (d ∷ ds) h = go (d.hole == sort_of l) (descendants_come parent l m k (i + 1) ds h)
  where
    go : (b : Bool) → AllByRecursion (λ x. HasOrigin (parent + 1) x.origin) (descendants parent l m k (i + 1) ds)
        → AllByRecursion (λ x. HasOrigin (parent + 1) x.origin) (if b then descendant parent l m k i d ∷ descendants parent l m k (i + 1) ds else descendants parent l m k (i + 1) ds)
    go true ih = (record { parent = omega arith; numbers = h }, ih)
    go false ih = ih

-- ---- going back over the entries

-- how many pairs may still be gone back over
abbrev pub steps_left : Option Origin → ℕ
steps_left None = 0
steps_left (Some o) = suc o.parent

pub steps_fewer : (n : ℕ) (o : Option Origin) → HasOrigin n o → steps_left o ≤ n
steps_fewer n None h = omega arith
steps_fewer n (Some o) h = omega (arith, h.parent)

-- one entry more, from the last
pub entries_step : (th : Theory) (xs : List Descendant) → ComeInOrder 0 xs → (o : Origin) (x : Descendant) → slice_get xs o.parent ≡ Some x → (es : List Written)
    → entries_by th (led_to th xs) x.origin ++ reverse (es ++ entry_of th o ∷ []) ≡ entries_by th (led_to th xs) (Some o) ++ reverse es
entries_step th xs c o x g es =
    let before : List Written = entries_by th (led_to th xs) x.origin in
    ap (λ y. before ++ y) (reverse-append es (entry_of th o ∷ [])) ∙ sym (append_assoc before (entry_of th o ∷ []) (reverse es))
    ∙ ap (λ y. y ++ reverse es) (sym (parent_entries th xs c o x g))

-- ---- an expansion

-- the limits are the same, whatever led there
pub children_limit : (by : List Written) (parent : ℕ) (l m : Tree) (k i : ℕ) (ds : List Derivative)
    → waiting_limit (children by l m k i ds) ≡ descendants_limit (descendants parent l m k i ds)
children_limit by parent l m k i [] = refl
children_limit by parent l m k i (d ∷ ds) = go (d.hole == sort_of l) (children_limit by parent l m k (i + 1) ds)
  where
    go : (b : Bool) → waiting_limit (children by l m k (i + 1) ds) ≡ descendants_limit (descendants parent l m k (i + 1) ds)
        → waiting_limit (if b then child by l m k i d ∷ children by l m k (i + 1) ds else children by l m k (i + 1) ds)
        ≡ descendants_limit (if b then descendant parent l m k i d ∷ descendants parent l m k (i + 1) ds else descendants parent l m k (i + 1) ds)
    go true ih = ap (λ o. or_else (first_limit (derived d l (numbered_from k))) (or_else (first_limit (derived d m (numbered_from k))) o)) ih
    go false ih = ih

pub children_plain : (th : Theory) (led : List (List Written)) (parent : ℕ) (l m : Tree) (k i : ℕ) (ds : List Derivative)
    → ((j : ℕ) (d : Derivative) → slice_get ds j ≡ Some d → slice_get th.derivatives (i + j) ≡ Some d)
    → map (plain_waiting th led) (descendants parent l m k i ds) ≡ children (unwrap_or (slice_get led parent) []) l m k i ds
children_plain th led parent l m k i [] h = refl
children_plain th led parent l m k i (d ∷ ds) h =
    go (d.hole == sort_of l)
    (children_plain th led parent l m k (i + 1) ds (λ j x c. (let z : i + 1 + j ≡ i + suc j = omega arith in ap (slice_get th.derivatives) z) ∙ h (suc j) x c))
  where
    by : List Written
    by = unwrap_or (slice_get led parent) []

    is : derivative_at th i ≡ d
    is = derivative_is th i d ((let z : i ≡ i + 0 = omega arith in ap (slice_get th.derivatives) z) ∙ h 0 d refl)

    here : plain_waiting th led (descendant parent l m k i d) ≡ child by l m k i d
    here = ap (λ e. waiting (derived d l (numbered_from k)) (derived d m (numbered_from k)) (by ++ entry_from k i e ∷ [])) is

    go : (b : Bool) → map (plain_waiting th led) (descendants parent l m k (i + 1) ds) ≡ children by l m k (i + 1) ds
        → map (plain_waiting th led) (if b then descendant parent l m k i d ∷ descendants parent l m k (i + 1) ds else descendants parent l m k (i + 1) ds)
        ≡ (if b then child by l m k i d ∷ children by l m k (i + 1) ds else children by l m k (i + 1) ds)
    go true ih = ap (λ w. w ∷ map (plain_waiting th led) (descendants parent l m k (i + 1) ds)) here ∙ ap (λ ws. child by l m k i d ∷ ws) ih
    go false ih = ih

waiting_keep : (th : Theory) (led ms : List (List Written)) (n : ℕ) (ys : List Descendant) → length led ≡ n → AllByRecursion (λ x. HasOrigin n x.origin) ys
    → map (plain_waiting th (led ++ ms)) ys ≡ map (plain_waiting th led) ys
waiting_keep th led ms n [] e a = refl
waiting_keep th led ms n (y ∷ ys) e a =
    let P : ℕ → Type 0 = λ k. HasOrigin k y.origin in
    ap (λ es. waiting y.left y.right es ∷ map (plain_waiting th (led ++ ms)) ys) (entries_keep th led ms y.origin (subst P (sym e) a.0))
    ∙ ap (λ ws. plain_waiting th led y ∷ ws) (waiting_keep th led ms n ys e a.1)

module _ (th : Theory) (xs ys : List Descendant) (h : HaveOrigins xs ys) (l m : Tree) (o : Option Origin) (from : HasOrigin (length xs) o) (k : ℕ) where
  abbrev pub this : Descendant
  this = record { left = l; right = m; origin = o }

  abbrev pub new : List Descendant
  new = descendants (length xs) l m k 0 th.derivatives

  -- what waits after a pair was expanded
  pub queue_after : plain_queue th (xs ++ this ∷ []) (ys ++ new)
      ≡ plain_queue th xs ys ++ children (entries_by th (led_to th xs) o) l m k 0 th.derivatives
  queue_after =
      let led : List (List Written) = led_to th xs in
      let e : List Written = entries_by th led o in
      let more : List (List Written) = led ++ e ∷ [] in
      let long : length led ≡ length xs = length_led th [] xs ∙ omega arith in
      let there : slice_get more (length xs) ≡ Some e = ap (slice_get more) (sym long) ∙ get_last led e in
      ap (λ z. map (plain_waiting th z) (ys ++ new)) (led_push th [] xs this)
      ∙ map-append (plain_waiting th more) ys new
      ∙ ap (λ ws. ws ++ map (plain_waiting th more) new) (waiting_keep th led (e ∷ []) (length xs) ys long h.waiting)
      ∙ ap (λ ws. plain_queue th xs ys ++ ws)
      (children_plain th more (length xs) l m k 0 th.derivatives (λ j d c. (let z : 0 + j ≡ j = omega arith in ap (slice_get th.derivatives) z) ∙ c)
      ∙ ap (λ y. children (unwrap_or y []) l m k 0 th.derivatives) there)

  pub origins_after : k + 8 ≤ 2 ^ 32 → HaveOrigins (xs ++ this ∷ []) (ys ++ new)
  origins_after small =
      let long : length (xs ++ this ∷ []) ≡ length xs + 1 = length-append xs (this ∷ []) in
      let z : length xs ≡ 0 + length xs = omega arith in
      let P : ℕ → Type 0 = λ n. HasOrigin n o in
      let Q : ℕ → Type 0 = λ n. AllByRecursion (λ x. HasOrigin n x.origin) (ys ++ new) in
      record {
        before = come_push 0 xs this h.before (subst P z from);
        waiting = subst Q (sym long)
            (all_append (λ x. HasOrigin (length xs + 1) x.origin) ys new
            (all_by (λ x. HasOrigin (length xs) x.origin) (λ x. HasOrigin (length xs + 1) x.origin) ys (λ x a. origin_more (length xs) (length xs + 1) x.origin (omega arith) a) h.waiting)
            (descendants_come (length xs) l m k 0 th.derivatives small));
      }
