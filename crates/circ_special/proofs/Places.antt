-- A set is searched by halves, since its places increase; and steps of special paths.
use Rattle.std.proofs.Common.{◌≡◌, ◌+◌, ◌<◌, ◌≤◌, ℕ, true, false, IsTrue, ◌↔◌, Ordering, Less, Equal, Greater, Result, Ok, Err, List}
use Rattle.std.proofs.Common.{[], ◌∷◌, zero, suc, length, Option, Some, None, get_or, inl, inr, refl, ap, sym, subst, ◌∙◌, arith}
use Rattle.std.specs.List.{Contains, slice_get}
use Rattle.std.specs.List.Sorted.{IsBinarySearchResult, IsSearchInRange, IsSortedBy}
use Rattle.std.specs.Result.{is_ok}
use Rattle.std.specs.Ordering.{nat_cmp, ordering_then, is_lt}
use Rattle.std.specs.Cmp.{IsTotalOrder}
use Rattle.std.specs.FinMap.{nat_cmp-IsAntisymmetric}
use Rattle.std.proofs.lemmas.Cmp.{nat_cmp_total, then_total, on_total, tied_itself}
use Rattle.std.proofs.lemmas.Bool.{cases_lt}
use Rattle.std.proofs.lemmas.Bool.Decides.{nat_tests}
use Rattle.std.proofs.lemmas.List.Sorted.{searchable_from_sorted}
use Rattle.std.proofs.lemmas.Option.{same_Some}
use Rattle.circ_term.specs.Tree.{Tree, Trees, App, list_of}
use Rattle.circ_special.specs.declared.place.Place.{Place}
use Rattle.circ_special.specs.Special.{IsIncreasing, IsSpecial, comes_before, place}
use Rattle.circ_special.specs.Places.{GoesBelow}

abbrev pub place_cmp : Place → Place → Ordering
place_cmp g h = ordering_then (nat_cmp g.op h.op) (nat_cmp g.arg h.arg)

place_total : IsTotalOrder place_cmp
place_total = then_total (on_total (λ (g : Place). g.op) nat_cmp_total) (on_total (λ (g : Place). g.arg) nat_cmp_total)

behind : (g h : Place) → comes_before g h ≡ true → is_lt (place_cmp h g) ≡ false
behind g h e = grind (arith, nat_tests)

rises : (G : List Place) → IsIncreasing G → (k : ℕ) (d : Place) → k + 1 < length G → is_lt (place_cmp (get_or G (k + 1) d) (get_or G k d)) ≡ false
rises [] r k d l = absurd (omega (arith, l))
rises (g ∷ []) r k d l = absurd (omega (arith, l))
rises (g ∷ h ∷ G) r zero d l = behind g h r.0
rises (g ∷ h ∷ G) r (suc k) d l = let e : suc k + 1 ≡ suc (k + 1) = omega arith in rw e (rises (h ∷ G) r.1 k d (omega (arith, l)))

both_equal : (a b : Ordering) → ordering_then a b ≡ Equal → (a ≡ Equal) × (b ≡ Equal)
both_equal Less b e = absurd (cc)
both_equal Equal b e = (refl, e)
both_equal Greater b e = absurd (cc)

same_place : (g h : Place) → place_cmp g h ≡ Equal → g ≡ h
same_place g h e =
    let both = both_equal (nat_cmp g.op h.op) (nat_cmp g.arg h.arg) e in
    ap (λ n. record g { op = n }) (nat_cmp-IsAntisymmetric g.op h.op both.0) ∙ ap (λ n. record h { arg = n }) (nat_cmp-IsAntisymmetric g.arg h.arg both.1)

-- the search finds the place exactly where the set contains it
pub search_tells : (G : List Place) (g : Place) (r : Result ℕ ℕ) → IsIncreasing G → IsSearchInRange r (length G)
    → IsBinarySearchResult (λ h. place_cmp h g) G r → IsTrue (is_ok r) ↔ Contains G g
search_tells G g (Ok i) h range found = ((λ _. (i, range, same_place (get_or G i g) g (found g))), (λ _. refl))
search_tells G g (Err i) h range found =
    let sorted : IsSortedBy (λ x y. is_lt (place_cmp x y)) G = λ k d _ l. rises G h k d l in
    let cut = found (searchable_from_sorted place_total (λ x. x) G g sorted) in
    ((λ never. absurd (cc)), (λ c. absurd (never_there cut.0 cut.1 c)))
  where
    never_there : ((k : ℕ) (d : Place) → 0 ≤ k → k < i → place_cmp (get_or G k d) g ≡ Less)
        → ((k : ℕ) (d : Place) → i ≤ k → k < length G → place_cmp (get_or G k d) g ≡ Greater) → Contains G g → ⊥
    never_there below above c =
        let itself : place_cmp (get_or G c.0 g) g ≡ Equal = ap (λ x. place_cmp x g) c.2 ∙ tied_itself place_total g in
        elim (cases_lt c.0 i) [
          | inl l ↦ let x = below c.0 g (omega arith) l in absurd (cc)
          | inr l ↦ let x = above c.0 g l c.1 in absurd (cc)
        ]

-- the argument at a place of the set
pub goes_below : (G : List Place) (f s i : ℕ) (ts : Trees) (o : Option Tree) → Contains G (place f i) → o ≡ slice_get (list_of ts) i
    → GoesBelow G (App f s ts) i o
goes_below G f s i ts None c e = λ p h. let z = e ∙ h.2 in absurd (cc)
goes_below G f s i ts (Some a) c e = λ p. (
  (λ h. let P : Tree → Type 0 = λ x. IsSpecial G x p in subst P (same_Some h.1 a (sym h.2 ∙ sym e)) h.3),
  (λ h. (c, a, sym e, h)),
)
