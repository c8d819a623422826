-- The case list of a sort is found.
use Rattle.std.proofs.Common.{◌≡◌, ◌⊎◌, ℕ, List, [], ◌∷◌, Bool, true, false, ◌==◌, nat_eq, if◌then◌else◌, map, find, unwrap_or, Some, refl, ap, sym, ◌∙◌, inl}
use Rattle.std.proofs.Common.{inr}
use Rattle.std.specs.List.{Contains, IsDistinct}
use Rattle.std.proofs.lemmas.Bool.{eq-eqb, eqb-true}
use Rattle.circ_theory.specs.Theory.{Theory, CaseList}
use Rattle.circ_theory.specs.WellFormed.{IsWellFormed}
use Rattle.circ_theory.proofs.Weakening.{first_or_rest}
use Rattle.circ_proof.proofs.Members.{nothing, in_map, all_of}

found : (ls : List CaseList) → IsDistinct nat_eq (map (λ l. l.sort) ls) → (l : CaseList) → Contains ls l → (s : ℕ) → s ≡ l.sort → (d : CaseList)
    → unwrap_or (find (λ k. s == k.sort) ls) d ≡ l
unfolding IsDistinct
found [] i l c s e d = nothing l c
found (x ∷ xs) i l c s e d = go (first_or_rest x l xs c) (λ k. found xs i.1 l k s e d)
  where
    first : (b : Bool) → (s == x.sort) ≡ b → b ≡ true → x ≡ l → unwrap_or (if b then Some x else find (λ k. s == k.sort) xs) d ≡ l
    first true h t q = q
    first false h t q = absurd (cc)

    later : (b : Bool) → (s == x.sort) ≡ b → b ≡ false → unwrap_or (find (λ k. s == k.sort) xs) d ≡ l
        → unwrap_or (if b then Some x else find (λ k. s == k.sort) xs) d ≡ l
    later true h t q = absurd (cc)
    later false h t q = q

    apart : Contains xs l → (b : Bool) → (s == x.sort) ≡ b → b ≡ false
    apart k false h = refl
    apart k true h = absurd (
        let z : nat_eq x.sort l.sort ≡ false =
        all_of (λ y. nat_eq x.sort y ≡ false) (map (λ (y : CaseList). y.sort) xs) l.sort i.0 (in_map (λ (y : CaseList). y.sort) xs l k) in
        let q : x.sort ≡ l.sort = sym (eqb-true s x.sort h) ∙ e in
        let w : nat_eq x.sort l.sort ≡ true = eq-eqb x.sort l.sort q in cc)

    go : (x ≡ l) ⊎ Contains xs l → (Contains xs l → unwrap_or (find (λ k. s == k.sort) xs) d ≡ l) → unwrap_or (find (λ k. s == k.sort) (x ∷ xs)) d ≡ l
    go (inl q) ih = first (s == x.sort) refl (eq-eqb s x.sort (e ∙ ap (λ (y : CaseList). y.sort) (sym q))) q
    go (inr k) ih = later (s == x.sort) refl (apart k (s == x.sort) refl) (ih k)

pub one_list_found : (th : Theory) → IsWellFormed th → (l : CaseList) → Contains th.cases l → (s : ℕ) → s ≡ l.sort
    → unwrap_or (find (λ k. s == k.sort) th.cases) (record { sort = s; constants = [] }) ≡ l
one_list_found th ok l c s e = found th.cases ok.one_list l c s e (record { sort = s; constants = [] })
