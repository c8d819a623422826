-- The first derivative by which an occurrence is guarded.
use Rattle.std.proofs.Common.{◌≡◌, ◌<◌, ℕ, ◌+◌, Bool, true, false, if◌then◌else◌, List, [], ◌∷◌, zero, suc, length, take, drop, Option, Some, None, refl, ap, sym, ◌∙◌, arith}
use Rattle.std.specs.List.{slice_get}
use Rattle.std.specs.Option.{option_map, option_map_or, option_or}
use Rattle.std.proofs.lemmas.Option.{same_Some}
use Rattle.circ_term.specs.Tree.{Tree, sort_of}
use Rattle.circ_theory.specs.Theory.{Theory, Derivative}
use Rattle.circ_theory.specs.Observing.{is_hidden}
use Rattle.circ_special.specs.declared.place.Place.{Place}
use Rattle.circ_expansion.specs.Expand.{Visible_case, Hidden_case, above_hole, is_special_path, visible_case, hidden_case}
use Rattle.circ_uses.specs.Guards.{visible_above, hidden_above}

pub drop_at : {X : Type 0} (xs : List X) (k : ℕ) (x : X) → slice_get xs k ≡ Some x → drop k xs ≡ x ∷ drop (k + 1) xs
drop_at [] k x e = absurd (cc)
drop_at (y ∷ ys) zero x e = ap (λ z. z ∷ ys) (same_Some y x e)
drop_at (y ∷ ys) (suc k) x e =
    (let z : suc (k + 1) ≡ suc k + 1 = omega arith in drop_at ys k x e ∙ ap (λ n. x ∷ drop n (y ∷ ys)) z)

pub some_at : {X : Type 0} (xs : List X) (k : ℕ) → k < length xs → (x : X) × (slice_get xs k ≡ Some x)
some_at [] k h = absurd (omega arith)
some_at (x ∷ xs) zero h = (x, refl)
some_at (x ∷ xs) (suc k) h = some_at xs k (omega arith)

-- with so many steps to it
taken : {A : Type 0} (F : List ℕ → A) (p : List ℕ) (o : Option ℕ) → option_map F (option_map (λ n. take n p) o) ≡ option_map (λ n. F (take n p)) o
taken F p None = refl
taken F p (Some n) = refl

visible_is : (th : Theory) (k : ℕ) (d : Derivative) (t : Tree) (p : List ℕ)
    → (if is_hidden th (sort_of d.body) then None else option_map (Visible_case k) (above_hole d t p)) ≡ option_map (Visible_case k) (visible_above th d t p)
visible_is th k d t p = go (is_hidden th (sort_of d.body))
  where
    go : (b : Bool) → (if b then None else option_map (Visible_case k) (above_hole d t p)) ≡ option_map (Visible_case k) (if b then None else above_hole d t p)
    go true = refl
    go false = refl

hidden_is : (th : Theory) (G : List Place) (k : ℕ) (d : Derivative) (t : Tree) (p : List ℕ)
    → (if is_hidden th (sort_of d.body)
    then option_map_or (λ q. if is_special_path G t q then Some (Hidden_case k q) else None) (above_hole d t p) None else None)
    ≡ option_map (Hidden_case k) (hidden_above th G d t p)
hidden_is th G k d t p = go (is_hidden th (sort_of d.body)) (above_hole d t p)
  where
    inner : (q : List ℕ) (b : Bool) → (if b then Some (Hidden_case k q) else None) ≡ option_map (Hidden_case k) (if b then Some q else None)
    inner q true = refl
    inner q false = refl

    go : (b : Bool) (o : Option (List ℕ))
        → (if b then option_map_or (λ q. if is_special_path G t q then Some (Hidden_case k q) else None) o None else None)
        ≡ option_map (Hidden_case k) (if b then option_map_or (λ q. if is_special_path G t q then Some q else None) o None else None)
    go false o = refl
    go true None = refl
    go true (Some q) = inner q (is_special_path G t q)

-- the derivative of this number, and those after it
pub visible_next : (th : Theory) (ds : List Derivative) (t : Tree) (p : List ℕ) (k : ℕ) (d : Derivative) → slice_get ds k ≡ Some d
    → (o : Option ℕ) → option_map (λ n. take n p) o ≡ visible_above th d t p
    → visible_case th k (drop k ds) t p ≡ option_or (option_map (λ n. Visible_case k (take n p)) o) (visible_case th (k + 1) (drop (k + 1) ds) t p)
visible_next th ds t p k d e o h =
    let rest = visible_case th (k + 1) (drop (k + 1) ds) t p in
    ap (λ xs. visible_case th k xs t p) (drop_at ds k d e)
    ∙ ap (λ x. option_or x rest) (visible_is th k d t p ∙ ap (option_map (Visible_case k)) (sym h) ∙ taken (Visible_case k) p o)

pub hidden_next : (th : Theory) (G : List Place) (ds : List Derivative) (t : Tree) (p : List ℕ) (k : ℕ) (d : Derivative) → slice_get ds k ≡ Some d
    → (o : Option ℕ) → option_map (λ n. take n p) o ≡ hidden_above th G d t p
    → hidden_case th G k (drop k ds) t p ≡ option_or (option_map (λ n. Hidden_case k (take n p)) o) (hidden_case th G (k + 1) (drop (k + 1) ds) t p)
hidden_next th G ds t p k d e o h =
    let rest = hidden_case th G (k + 1) (drop (k + 1) ds) t p in
    ap (λ xs. hidden_case th G k xs t p) (drop_at ds k d e)
    ∙ ap (λ x. option_or x rest) (hidden_is th G k d t p ∙ ap (option_map (Hidden_case k)) (sym h) ∙ taken (Hidden_case k) p o)
