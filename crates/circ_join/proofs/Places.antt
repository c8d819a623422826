-- Whether an argument is a place of a set.
use Rattle.std.proofs.Common.{◌≡◌, ◌↔◌, ◌<◌, ℕ, zero, suc, length, Bool, true, false, ◌==◌, ◌&&◌, ◌||◌, List, [], ◌∷◌, ap, sym, arith, refl}
use Rattle.std.specs.Prelude.{IsTrue, slice_index_or}
use Rattle.std.specs.List.{Contains}
use Rattle.std.proofs.lemmas.Bool.{eqb-true, eq-eqb, and_parts}
use Rattle.std.proofs.lemmas.Map.Views.{Contains-from_any}
use Rattle.circ_special.specs.declared.place.Place.{Place}
use Rattle.circ_special.specs.Special.{place}
use Rattle.circ_plain_search.specs.Joining.{is_place}

abbrev is_it : Place → Place → Bool
is_it g h = (h.op == g.op) && (h.arg == g.arg)

is_it_same : (g h : Place) → is_it g h ≡ true → g ≡ h
is_it_same g h e =
    let parts = and_parts (h.op == g.op) (h.arg == g.arg) e in
    let a = eqb-true h.op g.op parts.0 in
    let b = eqb-true h.arg g.arg parts.1 in
    λ i. record { op = (sym a) i; arg = (sym b) i }

same_is_it : (g h : Place) → h ≡ g → is_it g h ≡ true
same_is_it g h e = rw (eq-eqb h.op g.op (ap (λ x. x.op) e), eq-eqb h.arg g.arg (ap (λ x. x.arg) e)) refl

or_true : (b : Bool) → (b || true) ≡ true
or_true true = refl
or_true false = refl

contained : (g : Place) (G : List Place) (k : ℕ) → k < length G → slice_index_or G k g ≡ g → is_place G g.op g.arg ≡ true
contained g [] k l e = absurd (omega (arith, l))
contained g (h ∷ G) zero l e = rw (same_is_it g h e) refl
contained g (h ∷ G) (suc k) l e = rw (contained g G k (omega (arith, l)) e) (or_true (is_it g h))

-- the answer of a search in the set is the definition's
pub place_told : (G : List Place) (f i : ℕ) (r : Bool) → IsTrue r ↔ Contains G (place f i) → r ≡ is_place G f i
place_told G f i true h =
    let c = h.0 (let t : IsTrue true = refl in t) in
    sym (contained (place f i) G c.0 c.1 c.2)
place_told G f i false h = go (is_place G f i) refl
  where
    go : (b : Bool) → is_place G f i ≡ b → false ≡ b
    go true e = let t : IsTrue false = h.1 (Contains-from_any is_it_same (place f i) G e) in t
    go false e = refl
