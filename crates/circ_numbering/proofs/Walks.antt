-- A list of things whose terms are asked for, one thing after another.
use Rattle.std.proofs.Common.{◌≡◌, ◌<◌, ◌≤◌, ◌+◌, ℕ, List, [], ◌∷◌, ◌++◌, length, drop, map, get_or, refl, ap, sym, subst, ◌∙◌, append_assoc, append-nil}
use Rattle.std.specs.Prelude.{flat_map}
use Rattle.std.proofs.lemmas.List.{map-append, drop_all}
use Rattle.circ_term.specs.Tree.{Tree}
use Rattle.circ_term.specs.Growing.{Grows}
use Rattle.circ_term.proofs.Within.{drop_read}
use Rattle.circ_plain_search.specs.Numbering.{asked_for}
use Rattle.circ_numbering.specs.Asking.{IsFaultOf}
use Rattle.circ_numbering.specs.declared.fault.NumberFault.{NumberFault}
use Rattle.circ_numbering.proofs.Requests.{asked_append, first_fails, later_too}

-- Of these things, those from the one of number i on are left. Of the others ys are the answers, which f shows as g has them in each later table.
pub record IsOnItsWay {X Y Z : Type 0} (terms : X → List Tree) (f : Y → Z) (g : List Tree → X → Z) (first : List Tree) (xs left : List X) (now : List Tree)
    (ys : List Y) : Type 0 where
  pub asked : asked_for now (flat_map terms left) ≡ asked_for first (flat_map terms xs)
  pub named : (table : List Tree) → Grows now table → map f ys ++ map (g table) left ≡ map (g table) xs

module _ {X Y Z : Type 0} (terms : X → List Tree) (f : Y → Z) (g : List Tree → X → Z) (first : List Tree) (xs : List X) where
  pub on_its_way : (now : List Tree) (ys : List Y) → now ≡ first → ys ≡ [] → IsOnItsWay terms f g first xs xs now ys
  on_its_way now ys e n = record { asked = ap (λ x. asked_for x (flat_map terms xs)) e; named = λ table a. ap (λ z. map f z ++ map (g table) xs) n }

  -- one thing further on
  pub one_further : (x : X) (left : List X) (now new : List Tree) (ys zs : List Y) (y : Y) → IsOnItsWay terms f g first xs (x ∷ left) now ys
      → new ≡ asked_for now (terms x) → ((table : List Tree) → Grows new table → f y ≡ g table x) → zs ≡ ys ++ y ∷ []
      → IsOnItsWay terms f g first xs left new zs
  one_further x left now new ys zs y w e h z = record {
    asked = ap (λ t. asked_for t (flat_map terms left)) e ∙ sym (asked_append now (terms x) (flat_map terms left)) ∙ w.asked;
    named = λ table a.
        ap (λ l. map f l ++ map (g table) left) z ∙ ap (λ l. l ++ map (g table) left) (map-append f ys (y ∷ []))
        ∙ append_assoc (map f ys) (f y ∷ []) (map (g table) left) ∙ ap (λ q. map f ys ++ q ∷ map (g table) left) (h table a)
        ∙ w.named table (later_too now new (terms x) table e a);
  }

  -- it fails
  pub one_fails : (x : X) (left : List X) (now : List Tree) (ys : List Y) (e : NumberFault) → IsOnItsWay terms f g first xs (x ∷ left) now ys
      → IsFaultOf (asked_for now (terms x)) e → IsFaultOf (asked_for first (flat_map terms xs)) e
  one_fails x left now ys e w h = let P : List Tree → Type 0 = λ t. IsFaultOf t e in subst P w.asked (first_fails now (terms x) (flat_map terms left) e h)

  -- the end
  pub all_asked : (now : List Tree) (ys : List Y) → IsOnItsWay terms f g first xs [] now ys → now ≡ asked_for first (flat_map terms xs)
  all_asked now ys w = w.asked

  pub all_named : (now : List Tree) (ys : List Y) → IsOnItsWay terms f g first xs [] now ys → (table : List Tree) → Grows now table → map f ys ≡ map (g table) xs
  all_named now ys w table a = sym (append-nil (map f ys)) ∙ w.named table a

-- a list as it is walked
pub left_here : {X : Type 0} (xs : List X) (i : ℕ) (x : X) → i < length xs → x ≡ get_or xs i x → drop i xs ≡ x ∷ drop (i + 1) xs
left_here xs i x h e = drop_read xs i x h e

pub none_left : {X : Type 0} (xs : List X) (i : ℕ) → length xs ≤ i → drop i xs ≡ []
none_left xs i h = drop_all i xs h

pub each_alone : (ts : List Tree) → flat_map (λ t. t ∷ []) ts ≡ ts
each_alone [] = refl
each_alone (t ∷ ts) = ap (λ us. t ∷ us) (each_alone ts)

-- things seen through p
pub flat_seen : {X W : Type 0} (p : X → W) (terms : W → List Tree) (xs : List X) → flat_map terms (map p xs) ≡ flat_map (λ x. terms (p x)) xs
flat_seen p terms [] = refl
flat_seen p terms (x ∷ xs) = ap (λ ts. terms (p x) ++ ts) (flat_seen p terms xs)

pub map_seen : {X W Z : Type 0} (p : X → W) (g : W → Z) (xs : List X) → map g (map p xs) ≡ map (λ x. g (p x)) xs
map_seen p g [] = refl
map_seen p g (x ∷ xs) = ap (λ zs. g (p x) ∷ zs) (map_seen p g xs)

pub as_they_are : {X : Type 0} (xs : List X) → map (λ x. x) xs ≡ xs
as_they_are [] = refl
as_they_are (x ∷ xs) = ap (λ ys. x ∷ ys) (as_they_are xs)

-- a list that is walked by its places
module _ {X Y Z : Type 0} (terms : X → List Tree) (f : Y → Z) (g : List Tree → X → Z) (first : List Tree) (xs : List X) (i : ℕ) (now : List Tree) (ys : List Y)
    (w : IsOnItsWay terms f g first xs (drop i xs) now ys) where
  module _ (x : X) (h : i < length xs) (r : x ≡ get_or xs i x) where
    here : IsOnItsWay terms f g first xs (x ∷ drop (i + 1) xs) now ys
    here = let P : List X → Type 0 = λ l. IsOnItsWay terms f g first xs l now ys in subst P (drop_read xs i x h r) w

    pub walk_fails : (e : NumberFault) → IsFaultOf (asked_for now (terms x)) e → IsFaultOf (asked_for first (flat_map terms xs)) e
    walk_fails e k = one_fails terms f g first xs x (drop (i + 1) xs) now ys e here k

    pub walk_on : (new : List Tree) (zs : List Y) (y : Y) → new ≡ asked_for now (terms x) → ((table : List Tree) → Grows new table → f y ≡ g table x)
        → zs ≡ ys ++ y ∷ [] → IsOnItsWay terms f g first xs (drop (i + 1) xs) new zs
    walk_on new zs y e k z = one_further terms f g first xs x (drop (i + 1) xs) now new ys zs y here e k z

  module _ (h : length xs ≤ i) where
    over : IsOnItsWay terms f g first xs [] now ys
    over = let P : List X → Type 0 = λ l. IsOnItsWay terms f g first xs l now ys in subst P (drop_all i xs h) w

    pub walk_asked : now ≡ asked_for first (flat_map terms xs)
    walk_asked = all_asked terms f g first xs now ys over

    pub walk_named : (table : List Tree) → Grows now table → map f ys ≡ map (g table) xs
    walk_named table a = all_named terms f g first xs now ys over table a
