-- Sets that have places.
use Rattle.std.proofs.Common.{◌≡◌, ℕ, ◌==◌, ◌&&◌, Bool, true, false, List, [], ◌∷◌, ◌++◌, ◌↔◌, refl, sym, ap, subst, if◌then◌else◌, ◌⊎◌, inl, inr}
use Rattle.std.specs.List.{AllByRecursion, Contains, list_any}
use Rattle.std.proofs.lemmas.Bool.{cases_Bool, and_parts, eqb-true}
use Rattle.std.proofs.lemmas.Option.{same_Some}
use Rattle.indexmap.specs.IndexSet.{insert_key}
use Rattle.circ_term.specs.Tree.{Tree, Var, at}
use Rattle.circ_term.proofs.Paths.{nowhere}
use Rattle.circ_theory.specs.Theory.{Theory}
use Rattle.circ_special.specs.declared.place.Place.{Place}
use Rattle.circ_special.specs.Special.{place}
use Rattle.circ_special.specs.Guarded.{Guarded, by_place}
use Rattle.circ_needs.specs.Needs.{HasAll}
use Rattle.circ_needs.specs.Places.{places_of}
use Rattle.circ_needs.specs.declared.needs.Need.{Need}

abbrev pub same_need : Need → Need → Bool
same_need a b = (a.op == b.op) && (a.arg == b.arg)

all_more : (G : List Place) (ns : List Need) (n : Need) → HasAll G (places_of (ns ++ n ∷ [])) ↔ (HasAll G (places_of ns) × Contains G (place n.op n.arg))
all_more G [] n = ((λ h. (tt, h.0)), (λ h. (h.1, tt)))
all_more G (m ∷ ns) n =
    let rest = all_more G ns n in ((λ h. let x = rest.0 h.1 in ((h.0, x.0), x.1)), (λ h. (h.0.0, rest.1 (h.0.1, h.1))))

-- a place that is there
listed : (G : List Place) (ns : List Need) (n : Need) → list_any (same_need n) ns ≡ true → HasAll G (places_of ns) → Contains G (place n.op n.arg)
listed G [] n e h = absurd (cc)
listed G (m ∷ ns) n e h = elim (cases_Bool (same_need n m)) [
  | inl x ↦
      let both = and_parts (n.op == m.op) (n.arg == m.arg) x in
      let P : ℕ → Type 0 = λ f. Contains G (place f m.arg) in
      let Q : ℕ → Type 0 = λ i. Contains G (place n.op i) in
      subst Q (sym (eqb-true n.arg m.arg both.1)) (subst P (sym (eqb-true n.op m.op both.0)) h.0)
  | inr x ↦ listed G ns n (rw x at e) h.1
]

-- one place more
pub has_inserted : (G : List Place) (ns : List Need) (n : Need) → HasAll G (places_of (insert_key same_need ns n)) ↔ (HasAll G (places_of ns) × Contains G (place n.op n.arg))
has_inserted G ns n = go (list_any (same_need n) ns) refl
  where
    go : (b : Bool) → list_any (same_need n) ns ≡ b
        → HasAll G (places_of (if b then ns else ns ++ n ∷ [])) ↔ (HasAll G (places_of ns) × Contains G (place n.op n.arg))
    go true e = ((λ h. (h, listed G ns n e h)), (λ h. h.0))
    go false e = all_more G ns n

-- a variable by itself is guarded
pub variable_guarded : (th : Theory) (G : List Place) (t : Tree) (n s : ℕ) → t ≡ Var n s → Guarded th G t n s
variable_guarded th G t n s e [] z = by_place tt
variable_guarded th G t n s e (i ∷ p) z = nowhere p (Var n s) (rw e at z)
