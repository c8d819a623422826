-- The entries of a content, and of what is set aside: what holds of a term and of its arguments holds of each, and each is of its operator's sort.
use Rattle.std.proofs.Common.{◌≡◌, ℕ, ◌≤◌, Bool, true, false, ◌==◌, ◌&&◌, if◌then◌else◌, List, [], ◌∷◌, ◌++◌, Option, Some, None, refl, subst, arith}
use Rattle.std.specs.Prelude.{not}
use Rattle.std.specs.List.{AllByRecursion, slice_get, dedup}
use Rattle.std.specs.Option.{option_map, option_map_or}
use Rattle.std.proofs.lemmas.Option.{same_Some}
use Rattle.circ_term.specs.Order.{is_same}
use Rattle.circ_term.specs.Tree.{Tree, Trees, Var, App, none, more, list_of, sort_of}
use Rattle.circ_theory.specs.Fresh.{above}
use Rattle.circ_theory.specs.Operators.{has_mark}
use Rattle.circ_theory.specs.Signature.{Operator, IsWellSorted}
use Rattle.circ_theory.specs.Theory.{Theory}
use Rattle.circ_theory.specs.WellFormed.{IsWellFormed}
use Rattle.circ_aci.specs.Canonical.{join}
use Rattle.circ_aci.specs.Content.{settled, leaves, content}
use Rattle.circ_aci.proofs.Deriving.{HasContent, alone, grouped, repeated, apart, has_content}
use Rattle.circ_aci.proofs.Regroup.{IsOf, leaves_fit}
use Rattle.circ_aci.proofs.Settled.{all_append, all_settled}
use Rattle.circ_content_join.specs.Apart.{Apart, without, with_common, with_left, set_aside}

pub settled_all : (P : Tree → Type 0) (o : Operator) (xs : List Tree) → AllByRecursion P xs → AllByRecursion P (settled o xs)
settled_all P o [] a = go o.comm o.idem
  where
    go : (c i : Bool) → AllByRecursion P (if i then dedup is_same (if c then [] else []) else (if c then [] else []))
    go true true = tt
    go true false = tt
    go false true = tt
    go false false = tt
settled_all P o (x ∷ xs) a = all_settled P o x xs a

module _ (P : Tree → Type 0) (down : (f s : ℕ) (ts : Trees) → P (App f s ts) → AllByRecursion P (list_of ts)) where
  pub leaves_all : (f : ℕ) (t : Tree) → P t → AllByRecursion P (leaves f t)
  leaves_all f (Var n s) p = (p, tt)
  leaves_all f (App g s none) p = (p, tt)
  leaves_all f (App g s (more a none)) p = (p, tt)
  leaves_all f (App g s (more a (more b (more c ts)))) p = (p, tt)
  leaves_all f (App g s (more a (more b none))) p = let d = down g s (more a (more b none)) p in go (f == g) (leaves_all f a d.0) (leaves_all f b d.1.0)
    where
      go : (v : Bool) → AllByRecursion P (leaves f a) → AllByRecursion P (leaves f b)
          → AllByRecursion P (if v then leaves f a ++ leaves f b else App g s (more a (more b none)) ∷ [])
      go true x y = all_append P (leaves f a) (leaves f b) x y
      go false x y = (p, tt)

  pub content_all : (o : Operator) (f : ℕ) (t : Tree) → P t → AllByRecursion P (content o f t)
  content_all o f (Var n s) p = (p, tt)
  content_all o f (App g s none) p = (p, tt)
  content_all o f (App g s (more a none)) p = (p, tt)
  content_all o f (App g s (more a (more b (more c ts)))) p = (p, tt)
  content_all o f (App g s (more a (more b none))) p =
      let d = down g s (more a (more b none)) p in
      go d.0 d.1.0 (not ((f == g) && has_mark o)) (o.idem && not o.assoc && is_same a b) o.assoc (content_all o f a d.0)
    where
      both : P a → P b → (v : Bool) → AllByRecursion P (if v then leaves f a ++ leaves f b else a ∷ b ∷ [])
      both x y true = all_append P (leaves f a) (leaves f b) (leaves_all f a x) (leaves_all f b y)
      both x y false = (x, (y, tt))

      go : P a → P b → (u v w : Bool) → AllByRecursion P (content o f a)
          → AllByRecursion P (if u then App g s (more a (more b none)) ∷ [] else if v then content o f a
          else settled o (if w then leaves f a ++ leaves f b else a ∷ b ∷ []))
      go x y true v w c = (p, tt)
      go x y false true w c = c
      go x y false false w c = settled_all P o (if w then leaves f a ++ leaves f b else a ∷ b ∷ []) (both x y w)

-- each entry is of the operator's sort, where the term is
entries_of : (th : Theory) (f : ℕ) (o : Operator) {t : Tree} {xs : List Tree} → HasContent th f o t xs → sort_of t ≡ o.result
    → AllByRecursion (IsOf th.signature o.result) xs
entries_of th f o (alone t w e) s = ((s, w), tt)
entries_of th f o (grouped {xs = xs} j m c d) s = settled_all (IsOf th.signature o.result) o xs (leaves_fit th [] f o j d)
entries_of th f o (repeated a j i p h) s = entries_of th f o h p.0
entries_of th f o (apart a b j m c p q n) s = settled_all (IsOf th.signature o.result) o (a ∷ b ∷ []) (p, (q, tt))

pub content_of : (th : Theory) → IsWellFormed th → (f : ℕ) (o : Operator) → slice_get th.signature.ops f ≡ Some o → (t : Tree) → IsWellSorted th.signature t
    → sort_of t ≡ o.result → AllByRecursion (IsOf th.signature o.result) (content o f t)
content_of th ok f o e t w s = entries_of th f o (has_content th ok f o e t w) s

pub both_all : {X : Type 0} (P Q : X → Type 0) (xs : List X) → AllByRecursion P xs → AllByRecursion Q xs → AllByRecursion (λ x. P x × Q x) xs
both_all P Q [] a b = tt
both_all P Q (x ∷ xs) a b = ((a.0, b.0), both_all P Q xs a.1 b.1)

-- ---- entries that are set aside

module _ (P : Tree → Type 0) where
  without_all : (x : Tree) (ys zs : List Tree) → AllByRecursion P ys → without x ys ≡ Some zs → AllByRecursion P zs
  without_all x [] zs a e = absurd (cc)
  without_all x (y ∷ ys) zs a e = go (is_same x y) (without x ys) (λ us. without_all x ys us a.1) refl e
    where
      go : (b : Bool) (o : Option (List Tree)) → ((us : List Tree) → without x ys ≡ Some us → AllByRecursion P us) → without x ys ≡ o
          → (if b then Some ys else option_map (λ us. y ∷ us) o) ≡ Some zs → AllByRecursion P zs
      go true o ih r z = subst (AllByRecursion P) (same_Some ys zs z) a.1
      go false None ih r z = absurd (cc)
      go false (Some us) ih r z = subst (AllByRecursion P) (same_Some (y ∷ us) zs z) (a.0, ih us r)

  pub record AllApart (d : Apart) : Type 0 where
    pub both : AllByRecursion P d.both
    pub left : AllByRecursion P d.left
    pub right : AllByRecursion P d.right

  pub aside_all : (xs ys : List Tree) → AllByRecursion P xs → AllByRecursion P ys → AllApart (set_aside xs ys)
  aside_all [] ys a b = record { both = tt; left = tt; right = b }
  aside_all (x ∷ xs) ys a b = go (without x ys) refl (λ zs c. aside_all xs zs a.1 c)
    where
      go : (o : Option (List Tree)) → without x ys ≡ o → ((zs : List Tree) → AllByRecursion P zs → AllApart (set_aside xs zs))
          → AllApart (option_map_or (λ zs. with_common x (set_aside xs zs)) o (with_left x (set_aside xs ys)))
      go None r ih = let h = ih ys b in record { both = h.both; left = (a.0, h.left); right = h.right }
      go (Some zs) r ih = let h = ih zs (without_all x ys zs b r) in record { both = (a.0, h.both); left = h.left; right = h.right }

-- ---- terms joined

pub join_low : (m f k : ℕ) (xs : List Tree) → 1 ≤ m → AllByRecursion (λ t. above t ≤ m) xs → above (join f k xs) ≤ m
join_low m f k [] h a = h
join_low m f k (x ∷ []) h a = a.0
join_low m f k (x ∷ y ∷ ys) h a = let r = join_low m f k (y ∷ ys) h a.1 in omega (arith, a.0, r)
