-- Which states are marked.
use Rattle.std.specs.Prelude.{◌≡◌, ℕ, ◌<◌, ◌||◌, zero, suc, List, [], ◌∷◌, Bool, true, false, nat_eq, length, get_or, replicate, slice_set, refl}
use Rattle.std.specs.List.{list_any}
use Rattle.std.proofs.Common.{sym, ◌∙◌, ap, subst, arith}
use Rattle.std.proofs.lemmas.List.{same_lists}
use Rattle.std.proofs.lemmas.Bool.{eqb-true, eqb-false}
use Rattle.circ_auto.specs.Parts.{marked}
use Rattle.circ_auto.proofs.Keeping.{length_set}
use Rattle.circ_auto.proofs.Ending.{length_unseen}

get_set_same : (bs : List Bool) (s : ℕ) → s < length bs → get_or (slice_set bs s true) s false ≡ true
get_set_same [] s l = absurd (omega (arith, l))
get_set_same (b ∷ bs) zero l = refl
get_set_same (b ∷ bs) (suc s) l = get_set_same bs s (omega (arith, l))

get_set_other : (bs : List Bool) (t s : ℕ) → (t ≡ s → ⊥) → get_or (slice_set bs t true) s false ≡ get_or bs s false
get_set_other [] t s other = refl
get_set_other (b ∷ bs) zero zero other = absurd (other refl)
get_set_other (b ∷ bs) zero (suc s) other = refl
get_set_other (b ∷ bs) (suc t) zero other = refl
get_set_other (b ∷ bs) (suc t) (suc s) other = get_set_other bs t s (λ e. other (ap suc e))

get_set_or : (bs : List Bool) (t s : ℕ) → s < length bs → get_or (slice_set bs t true) s false ≡ (nat_eq t s || get_or bs s false)
get_set_or bs t s l = go (nat_eq t s) refl (eqb-true t s) (eqb-false t s)
  where
    go : (c : Bool) → nat_eq t s ≡ c → (c ≡ true → t ≡ s) → (c ≡ false → t ≡ s → ⊥) → get_or (slice_set bs t true) s false ≡ (nat_eq t s || get_or bs s false)
    go true e is other =
        rw e (ap (λ x. get_or (slice_set bs x true) s false) (is refl) ∙ get_set_same bs s l)
    go false e is other = rw e (get_set_other bs t s (other refl))

pub length_marked : (ss : List ℕ) (bs : List Bool) → length (marked bs ss) ≡ length bs
length_marked [] bs = refl
length_marked (t ∷ ss) bs = length_marked ss (slice_set bs t true) ∙ length_set bs t

or_moved : (a x b : Bool) → (a || (x || b)) ≡ ((x || a) || b)
or_moved true true b = refl
or_moved true false b = refl
or_moved false true b = refl
or_moved false false b = refl

or_false : (a b : Bool) → b ≡ false → (a || b) ≡ a
or_false true b e = refl
or_false false b e = e

get_marked : (ss : List ℕ) (bs : List Bool) (s : ℕ) → s < length bs → get_or (marked bs ss) s false ≡ (list_any (λ t. nat_eq t s) ss || get_or bs s false)
get_marked [] bs s l = refl
get_marked (t ∷ ss) bs s l =
    get_marked ss (slice_set bs t true) s (omega (arith, l, length_set bs t))
    ∙ ap (λ x. list_any (λ t. nat_eq t s) ss || x) (get_set_or bs t s l)
    ∙ or_moved (list_any (λ t. nat_eq t s) ss) (nat_eq t s) (get_or bs s false)

none_marked : (n s : ℕ) → get_or (replicate n false) s false ≡ false
none_marked zero s = refl
none_marked (suc n) zero = refl
none_marked (suc n) (suc s) = none_marked n s

pub marked_listed : (n : ℕ) (ss : List ℕ) (s : ℕ) → s < n → get_or (marked (replicate n false) ss) s false ≡ list_any (λ t. nat_eq t s) ss
marked_listed n ss s l =
    get_marked ss (replicate n false) s (omega (arith, l, length_unseen n)) ∙ or_false (list_any (λ t. nat_eq t s) ss) (get_or (replicate n false) s false) (none_marked n s)

default_free : (bs : List Bool) (s : ℕ) (d e : Bool) → s < length bs → get_or bs s d ≡ get_or bs s e
default_free [] s d e l = absurd (omega (arith, l))
default_free (b ∷ bs) zero d e l = refl
default_free (b ∷ bs) (suc s) d e l = default_free bs s d e (omega (arith, l))

-- marks that say of each state whether it is listed are those of the list
pub marks_are : (n : ℕ) (ss : List ℕ) (bs : List Bool) → length bs ≡ n → ((s : ℕ) → s < n → get_or bs s false ≡ list_any (λ t. nat_eq t s) ss)
    → marked (replicate n false) ss ≡ bs
marks_are n ss bs e h =
    let same : length (marked (replicate n false) ss) ≡ n = length_marked ss (replicate n false) ∙ length_unseen n in
    same_lists (marked (replicate n false) ss) bs (same ∙ sym e) (λ k d l.
    let inside : k < n = omega (arith, l, same) in
    default_free (marked (replicate n false) ss) k d false l ∙ marked_listed n ss k inside ∙ sym (h k inside) ∙ default_free bs k false d (omega (arith, inside, e)))
