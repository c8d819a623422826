-- What is kept, by number.
use Rattle.std.proofs.Common.{◌≡◌, ℕ, ◌<◌, ◌≤◌, zero, suc, ◌⊎◌, inl, inr, List, [], ◌∷◌, ◌++◌, length, map, get_or, Option, Some, None, refl, ap, ◌∙◌, arith}
use Rattle.std.specs.Prelude.{slice_set}
use Rattle.std.proofs.lemmas.List.{length-map}
use Rattle.circ_memo.specs.Keeping.{kept_at, HasSame, Puts}
use Rattle.circ_memo.specs.Packing.{unpacked}
use Rattle.circ_memo.specs.declared.packed.Packed.{Packed}
use Rattle.circ_memo.specs.declared.parts.Entry.{Entry}

pub kept_read : (os : List (Option Entry)) (n : ℕ) → get_or os n None ≡ kept_at os n
kept_read [] n = refl
kept_read (p ∷ os) zero = refl
kept_read (p ∷ os) (suc n) = kept_read os n

pub kept_past : (os : List (Option Entry)) (n : ℕ) → length os ≤ n → kept_at os n ≡ None
kept_past [] n h = refl
kept_past (p ∷ os) zero h = absurd (omega arith)
kept_past (p ∷ os) (suc n) h = kept_past os n (omega arith)

pub same_push : (os : List (Option Entry)) → HasSame os (os ++ None ∷ [])
same_push [] zero = refl
same_push [] (suc n) = refl
same_push (p ∷ os) zero = refl
same_push (p ∷ os) (suc n) = same_push os n

pub same_on : (a b c : List (Option Entry)) → HasSame a b → HasSame b c → HasSame a c
same_on a b c g h n = h n ∙ g n

set_there : (os : List (Option Entry)) (n : ℕ) (e : Entry) → n < length os → kept_at (slice_set os n (Some e)) n ≡ Some e
set_there [] n e h = absurd (omega arith)
set_there (p ∷ os) zero e h = refl
set_there (p ∷ os) (suc n) e h = set_there os n e (omega arith)

set_others : (os : List (Option Entry)) (n : ℕ) (e : Entry) (m : ℕ) → (m ≡ n) ⊎ (kept_at (slice_set os n (Some e)) m ≡ kept_at os m)
set_others [] n e m = inr refl
set_others (p ∷ os) zero e zero = inl refl
set_others (p ∷ os) zero e (suc m) = inr refl
set_others (p ∷ os) (suc n) e zero = inr refl
set_others (p ∷ os) (suc n) e (suc m) = go (set_others os n e m)
  where
    go : (m ≡ n) ⊎ (kept_at (slice_set os n (Some e)) m ≡ kept_at os m) → (suc m ≡ suc n) ⊎ (kept_at (slice_set os n (Some e)) m ≡ kept_at os m)
    go (inl a) = inl (ap suc a)
    go (inr a) = inr a

pub puts_set : (os : List (Option Entry)) (n : ℕ) (e : Entry) → n < length os → Puts n e os (slice_set os n (Some e))
puts_set os n e h = record { there = set_there os n e h; others = set_others os n e }

pub puts_on : (n : ℕ) (e : Entry) (a b c : List (Option Entry)) → HasSame a b → Puts n e b c → Puts n e a c
puts_on n e a b c g h = record { there = h.there; others = λ m. go m (h.others m) }
  where
    go : (m : ℕ) → (m ≡ n) ⊎ (kept_at c m ≡ kept_at b m) → (m ≡ n) ⊎ (kept_at c m ≡ kept_at a m)
    go m (inl x) = inl x
    go m (inr x) = inr (x ∙ g m)

-- ---- in 24 bytes each

pub kept_packed : (ps : List Packed) (n : ℕ) (p : Packed) → p ≡ get_or ps n p → n < length ps → unpacked p ≡ kept_at (map unpacked ps) n
kept_packed [] n p e h = absurd (omega (arith, h))
kept_packed (q ∷ ps) zero p e h = ap unpacked e
kept_packed (q ∷ ps) (suc n) p e h = kept_packed ps n p e (omega (arith, h))

map_push : (ps : List Packed) (p : Packed) → map unpacked (ps ++ p ∷ []) ≡ map unpacked ps ++ unpacked p ∷ []
map_push [] p = refl
map_push (q ∷ ps) p = ap (λ os. unpacked q ∷ os) (map_push ps p)

-- room is made for one more
pub same_absent : (ps : List Packed) (p : Packed) → unpacked p ≡ None → HasSame (map unpacked ps) (map unpacked (ps ++ p ∷ []))
same_absent ps p e n = ap (λ os. kept_at os n) (map_push ps p ∙ ap (λ o. map unpacked ps ++ o ∷ []) e) ∙ same_push (map unpacked ps) n

map_set : (ps : List Packed) (n : ℕ) (p : Packed) → map unpacked (slice_set ps n p) ≡ slice_set (map unpacked ps) n (unpacked p)
map_set [] n p = refl
map_set (q ∷ ps) zero p = refl
map_set (q ∷ ps) (suc n) p = ap (λ os. unpacked q ∷ os) (map_set ps n p)

pub puts_packed : (ps : List Packed) (n : ℕ) (p : Packed) (e : Entry) → unpacked p ≡ Some e → n < length ps
    → Puts n e (map unpacked ps) (map unpacked (slice_set ps n p))
puts_packed ps n p e u h = rw (map_set ps n p, u) (puts_set (map unpacked ps) n e (omega (arith, h, length-map ps unpacked)))
