-- How the content of a well-sorted term comes about, and that the term leads to its content.
use Rattle.std.proofs.Common.{◌≡◌, ◌⊎◌, ℕ, ◌==◌, ◌&&◌, not, true, false, cond, List, [], ◌∷◌, ◌++◌, Some, refl, sym, ap, subst}
use Rattle.std.proofs.Common.{◌∙◌, inl, inr}
use Rattle.std.specs.List.{AllByRecursion, dedup, slice_get}
use Rattle.std.proofs.lemmas.Bool.{cases_Bool, eqb-true, and_parts}
use Rattle.std.proofs.lemmas.Option.{same_Some}
use Rattle.circ_term.specs.Tree.{Tree, App, none, more, sort_of}
use Rattle.circ_term.specs.Order.{is_same, comes_before}
use Rattle.circ_term.proofs.Order.{same_here, same_itself}
use Rattle.circ_theory.specs.Signature.{Operator, IsWellSorted, HaveSorts}
use Rattle.circ_theory.specs.Theory.{Theory, Pair, twice}
use Rattle.circ_theory.specs.Derivable.{Derivable, by_same, by_symmetry, by_chain}
use Rattle.circ_theory.specs.Operators.{has_mark}
use Rattle.circ_theory.specs.WellFormed.{IsWellFormed}
use Rattle.circ_theory.proofs.Rewriting.{contains_at}
use Rattle.circ_aci.specs.Content.{settled, leaves, content}
use Rattle.circ_aci.specs.Canonical.{join}
use Rattle.circ_aci.proofs.Settled.{settled_by, settled_some, all_settled, all_sorted, all_drop}
use Rattle.circ_aci.proofs.Finding.{by_marks}
use Rattle.circ_aci.proofs.Regroup.{IsJoiner, IsOf, HasLeaves, leaf, node, leaves_some}
use Rattle.circ_aci.proofs.Regroup.{same, exchange, merge, sorted_leads, drop_leads, two_fit, some_fit, leaves_fit, whole_fit, leaves_lead}

-- a marked operator joins two terms of its sort
joiner : (th : Theory) → IsWellFormed th → (f : ℕ) (o : Operator) → slice_get th.signature.ops f ≡ Some o → has_mark o ≡ true → IsJoiner th f o
joiner th ok f o e h = record { there = e; args = (ok.operators o (contains_at th.signature.ops f o e)).marked h }

-- an application of f to two terms of its sort
record JoinsTwo (th : Theory) (f : ℕ) (o : Operator) (t a b : Tree) : Type 0 where
  pub is : t ≡ twice f o.result a b
  pub first : IsOf th.signature o.result a
  pub second : IsOf th.signature o.result b

joins_two : (th : Theory) (f : ℕ) (o : Operator) → IsJoiner th f o → (g s : ℕ) (a b : Tree)
    → (f == g) ≡ true → IsWellSorted th.signature (App g s (more a (more b none))) → JoinsTwo th f o (App g s (more a (more b none))) a b
joins_two th f o j g s a b e w =
    let P : ℕ → Type 0 = λ n. slice_get th.signature.ops n ≡ Some w.0 in
    let same_op : w.0 ≡ o = same_Some w.0 o (sym (subst P (sym (eqb-true f g e)) w.1) ∙ j.there) in
    let sort : s ≡ o.result = sym w.2 ∙ ap (λ p. p.result) same_op in
    let Q : List ℕ → Type 0 = HaveSorts th.signature (more a (more b none)) in
    let h : HaveSorts th.signature (more a (more b none)) (o.result ∷ o.result ∷ []) = subst Q (ap (λ p. p.args) same_op ∙ j.args) w.3 in
    record {
      is = ap (λ n. App n s (more a (more b none))) (sym (eqb-true f g e)) ∙ ap (λ n. App f n (more a (more b none))) sort;
      first = (h.0, h.1);
      second = (h.2.0, h.2.1);
    }

pub has_leaves : (th : Theory) (f : ℕ) (o : Operator) → IsJoiner th f o → (t : Tree) → IsOf th.signature o.result t
    → HasLeaves th.signature f o.result t (leaves f t)
has_leaves th f o j (App g s (more a (more b none))) p = elim (cases_Bool (f == g)) [
  | inl e ↦ rw e
      (let two = joins_two th f o j g s a b e p.1 in
      let P : Tree → Type 0 = λ t. HasLeaves th.signature f o.result t (leaves f a ++ leaves f b) in
      subst P (sym two.is) (node (has_leaves th f o j a two.first) (has_leaves th f o j b two.second)))
  | inr n ↦ rw n (leaf (App g s (more a (more b none))) (p, rw n refl))
]
has_leaves th f o j t p = leaf t (p, refl)

-- A term and its content, by cases: the term alone; its leaves; the content of an argument that stands twice; two arguments.
pub data HasContent (th : Theory) (f : ℕ) (o : Operator) : Tree → List Tree → Type 0 where
  alone : (t : Tree) → IsWellSorted th.signature t → content o f t ≡ t ∷ [] → HasContent th f o t (t ∷ [])
  grouped : {t : Tree} {xs : List Tree} → IsJoiner th f o → has_mark o ≡ true → o.assoc ≡ true → HasLeaves th.signature f o.result t xs
      → HasContent th f o t (settled o xs)
  repeated : {xs : List Tree} (a : Tree) → IsJoiner th f o → o.idem ≡ true → IsOf th.signature o.result a → HasContent th f o a xs
      → HasContent th f o (twice f o.result a a) xs
  apart : (a b : Tree) → IsJoiner th f o → has_mark o ≡ true → o.assoc ≡ false → IsOf th.signature o.result a → IsOf th.signature o.result b
      → (o.idem ≡ true → is_same a b ≡ false) → HasContent th f o (twice f o.result a b) (settled o (a ∷ b ∷ []))

pub has_content : (th : Theory) → IsWellFormed th → (f : ℕ) (o : Operator) → slice_get th.signature.ops f ≡ Some o
    → (t : Tree) → IsWellSorted th.signature t → HasContent th f o t (content o f t)
has_content th ok f o e (App g s (more a (more b none))) w = elim (cases_Bool ((f == g) && has_mark o)) [
  | inl m ↦ let h = and_parts (f == g) (has_mark o) m in rw m (joined (joiner th ok f o e h.1) h.0 h.1 (λ v. has_content th ok f o e a v))
  | inr n ↦ rw n (alone (App g s (more a (more b none))) w (rw n refl))
]
  where
    both : List Tree
    both = cond (o.idem && not o.assoc && is_same a b) (content o f a) (settled o (cond o.assoc (leaves f a ++ leaves f b) (a ∷ b ∷ [])))

    joined : IsJoiner th f o → (f == g) ≡ true → has_mark o ≡ true → (IsWellSorted th.signature a → HasContent th f o a (content o f a))
        → HasContent th f o (App g s (more a (more b none))) both
    joined j q m first =
        let two = joins_two th f o j g s a b q w in
        let P : Tree → Type 0 = λ t. HasContent th f o t both in
        subst P (sym two.is)
        (by_marks (HasContent th f o (twice f o.result a b)) o o.idem o.assoc (is_same a b) (content o f a) (leaves f a ++ leaves f b) (a ∷ b ∷ [])
        (λ c. grouped j m c (node (has_leaves th f o j a two.first) (has_leaves th f o j b two.second)))
        (λ c i r. let Q : Tree → Type 0 = λ t. HasContent th f o (twice f o.result a t) (content o f a) in
        subst Q (same_here a b r) (repeated a j i two.first (first two.first.1)))
        (λ c n. apart a b j m c two.first two.second n))
has_content th ok f o e t w = alone t w refl

-- ---- two terms

pub other_way : (a b : Tree) → is_same a b ≡ false → is_same b a ≡ false
other_way a b e = elim (cases_Bool (is_same b a)) [
  | inl h ↦ absurd (let P : Tree → Type 0 = λ t. is_same a t ≡ false in let z = subst P (same_here b a h) e in let y = same_itself a in cc)
  | inr h ↦ h
]

-- in their order, or exchanged
abbrev pub Two : Operator → (a b : Tree) → List Tree → Type 0
Two o a b xs = (xs ≡ a ∷ b ∷ []) ⊎ ((o.comm ≡ true) × (xs ≡ b ∷ a ∷ []))

-- what two terms settle to, where they may be repeated or are not the same
pub two_settled : (o : Operator) (a b : Tree) → (o.idem ≡ true → is_same a b ≡ false) → Two o a b (settled o (a ∷ b ∷ []))
two_settled o a b n =
    settled_by (Two o a b) o a (b ∷ [])
    (λ c p. elim (cases_Bool (comes_before b a)) [
      | inl before ↦ inr (c, rw before refl)
      | inr after ↦ inl (rw after refl)
    ])
    (λ i y ys p. elim p [
      | inl e ↦ inl (ap (dedup is_same) e ∙ rw (other_way a b (n i)) refl)
      | inr e ↦ inr (e.0, ap (dedup is_same) e.1 ∙ rw (n i) refl)
    ])
    (inl refl)

-- ---- a term leads to its content

settled_leads : (th : Theory) (H : List Pair) (f : ℕ) (o : Operator) → IsJoiner th f o → o.assoc ≡ true → (x : Tree) (xs : List Tree)
    → AllByRecursion (IsOf th.signature o.result) (x ∷ xs)
    → Derivable th H (join f o.result (x ∷ xs)) (join f o.result (settled o (x ∷ xs)))
settled_leads th H f o j e x xs a =
    let Fit : Tree → Type 0 = IsOf th.signature o.result in
    let P : List Tree → Type 0 = λ ys. Derivable th H (join f o.result (x ∷ xs)) (join f o.result ys) × AllByRecursion Fit ys in
    (settled_by P o x xs
    (λ c p. (sorted_leads th H f o j e c x xs a.0 a.1, all_sorted Fit (x ∷ xs) a))
    (λ i y ys p. (by_chain (join f o.result (y ∷ ys)) p.0 (drop_leads th H f o j e i y ys p.1.0 p.1.1), all_drop Fit y ys p.1.0 p.1.1))
    (same th H f o j (join f o.result (x ∷ xs)) (some_fit th H f o j (x ∷ xs) tt a), a)).0

pub content_leads : (th : Theory) (H : List Pair) (f : ℕ) (o : Operator) {t : Tree} {xs : List Tree}
    → HasContent th f o t xs → Derivable th H t (join f o.result xs)
content_leads th H f o (alone t w e) = by_same t w
content_leads th H f o (grouped {t = t} {xs = []} j m c d) = absurd (leaves_some th.signature f o.result d)
content_leads th H f o (grouped {t = t} {xs = x ∷ xs} j m c d) =
    by_chain (join f o.result (x ∷ xs)) (leaves_lead th H f o j c d) (settled_leads th H f o j c x xs (leaves_fit th H f o j d))
content_leads th H f o (repeated {xs = xs} a j i p h) = by_chain a (merge th H f o j i a p) (content_leads th H f o h)
content_leads th H f o (apart a b j m c p q n) = elim (two_settled o a b n) [
  | inl e ↦ rw e (same th H f o j (twice f o.result a b) (two_fit th H f o j a b p q))
  | inr e ↦ rw e.1 (exchange th H f o j e.0 a b p q)
]

-- the content joined again is well-sorted, of the term's sort
pub content_fits : (th : Theory) (f : ℕ) (o : Operator) {t : Tree} {xs : List Tree}
    → HasContent th f o t xs → IsOf th.signature (sort_of t) (join f o.result xs)
content_fits th f o (alone t w e) = (refl, w)
content_fits th f o (grouped {t = t} {xs = []} j m c d) = absurd (leaves_some th.signature f o.result d)
content_fits th f o (grouped {t = t} {xs = x ∷ xs} j m c d) =
    let P : ℕ → Type 0 = λ k. IsOf th.signature k (join f o.result (settled o (x ∷ xs))) in
    let all = all_settled (IsOf th.signature o.result) o x xs (leaves_fit th [] f o j d) in
    subst P (sym (whole_fit th [] f o j d).0) (some_fit th [] f o j (settled o (x ∷ xs)) (settled_some o x xs) all)
content_fits th f o (repeated {xs = xs} a j i p h) =
    let P : ℕ → Type 0 = λ k. IsOf th.signature k (join f o.result xs) in subst P p.0 (content_fits th f o h)
content_fits th f o (apart a b j m c p q n) = elim (two_settled o a b n) [
  | inl e ↦ rw e (two_fit th [] f o j a b p q)
  | inr e ↦ rw e.1 (two_fit th [] f o j b a q p)
]

-- ---- terms of the same content

pub same_content_derivable : (th : Theory) → IsWellFormed th → (H : List Pair) (f : ℕ) (o : Operator) → slice_get th.signature.ops f ≡ Some o
    → (a b : Tree) → IsWellSorted th.signature a → IsWellSorted th.signature b → content o f a ≡ content o f b → Derivable th H a b
same_content_derivable th ok H f o e a b p q s =
    let P : List Tree → Type 0 = λ xs. Derivable th H b (join f o.result xs) in
    by_chain (join f o.result (content o f a)) (content_leads th H f o (has_content th ok f o e a p))
    (by_symmetry (subst P (sym s) (content_leads th H f o (has_content th ok f o e b q))))

pub same_content_sort : (th : Theory) → IsWellFormed th → (f : ℕ) (o : Operator) → slice_get th.signature.ops f ≡ Some o
    → (a b : Tree) → IsWellSorted th.signature a → IsWellSorted th.signature b → content o f a ≡ content o f b → sort_of b ≡ sort_of a
same_content_sort th ok f o e a b p q s =
    sym (content_fits th f o (has_content th ok f o e b q)).0
    ∙ ap (λ xs. sort_of (join f o.result xs)) (sym s)
    ∙ (content_fits th f o (has_content th ok f o e a p)).0
