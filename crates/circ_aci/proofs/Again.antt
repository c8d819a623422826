-- A term's content joined again has the same content: what canonical forms keep.
use Rattle.std.proofs.Common.{◌≡◌, ℕ, ◌&&◌, not, Bool, true, false, cond, List, [], ◌∷◌, ◌++◌, Some, None, refl, sym, ap, ◌∙◌, inl}
use Rattle.std.proofs.Common.{inr}
use Rattle.std.specs.List.{AllByRecursion, slice_get}
use Rattle.circ_term.specs.Tree.{Tree}
use Rattle.circ_term.specs.Order.{is_same}
use Rattle.circ_theory.specs.Signature.{Signature, Operator, IsWellSorted}
use Rattle.circ_theory.specs.Theory.{Theory, twice}
use Rattle.circ_theory.specs.Operators.{has_mark}
use Rattle.circ_theory.specs.WellFormed.{IsWellFormed}
use Rattle.circ_aci.specs.Content.{settled, leaves, content}
use Rattle.circ_aci.specs.Canonical.{join, canonical, IsCanonicalFormOf}
use Rattle.circ_aci.specs.Operands.{operands}
use Rattle.circ_aci.proofs.Settled.{settled_some, all_settled, settled_again, IsSome}
use Rattle.circ_aci.proofs.Regroup.{IsLeaf, all_leaf, leaves_some}
use Rattle.circ_aci.proofs.Finding.{content_leaf, leaves_leaf, content_twice, leaves_twice}
use Rattle.circ_aci.proofs.Deriving.{HasContent, alone, grouped, repeated, apart, has_content, other_way, two_settled, content_leads, content_fits}

pub content_many : (o : Operator) (f k : ℕ) (a b : Tree) → has_mark o ≡ true → o.assoc ≡ true
    → content o f (twice f k a b) ≡ settled o (leaves f a ++ leaves f b)
content_many o f k a b m c = content_twice o f k a b m ∙ many o.idem o.assoc c
  where
    many : (i c : Bool) → c ≡ true
        → cond (i && not c && is_same a b) (content o f a) (settled o (cond c (leaves f a ++ leaves f b) (a ∷ b ∷ [])))
        ≡ settled o (leaves f a ++ leaves f b)
    many true true e = refl
    many false true e = refl
    many i false e = absurd (cc)

pub content_two : (o : Operator) (f k : ℕ) (a b : Tree) → has_mark o ≡ true → o.assoc ≡ false → (o.idem ≡ true → is_same a b ≡ false)
    → content o f (twice f k a b) ≡ settled o (a ∷ b ∷ [])
content_two o f k a b m c n = content_twice o f k a b m ∙ few o.idem o.assoc (is_same a b) c n
  where
    few : (i c r : Bool) → c ≡ false → (i ≡ true → r ≡ false)
        → cond (i && not c && r) (content o f a) (settled o (cond c (leaves f a ++ leaves f b) (a ∷ b ∷ []))) ≡ settled o (a ∷ b ∷ [])
    few i true r e q = absurd (cc)
    few false false r e q = refl
    few true false true e q = let z = q refl in absurd (cc)
    few true false false e q = refl

-- f joins nothing in the term
abbrev pub IsAlone : ℕ → Tree → Type 0
IsAlone f t = operands f t ≡ None

all_alone : (sig : Signature) (f k : ℕ) (xs : List Tree) → AllByRecursion (IsLeaf sig f k) xs → AllByRecursion (IsAlone f) xs
all_alone sig f k [] a = tt
all_alone sig f k (x ∷ xs) a = (a.0.1, all_alone sig f k xs a.1)

leaves_join : (f k : ℕ) (x : Tree) (xs : List Tree) → AllByRecursion (IsAlone f) (x ∷ xs) → leaves f (join f k (x ∷ xs)) ≡ x ∷ xs
leaves_join f k x [] a = leaves_leaf f x a.0
leaves_join f k x (y ∷ ys) a =
    leaves_twice f k x (join f k (y ∷ ys))
    ∙ ap (λ zs. zs ++ leaves f (join f k (y ∷ ys))) (leaves_leaf f x a.0)
    ∙ ap (λ zs. x ∷ zs) (leaves_join f k y ys a.1)

-- leaves that are settled are the content of what joins them
content_join : (o : Operator) (f k : ℕ) → has_mark o ≡ true → o.assoc ≡ true
    → (xs : List Tree) → IsSome xs → AllByRecursion (IsAlone f) xs → settled o xs ≡ xs → content o f (join f k xs) ≡ xs
content_join o f k m c [] s a e = absurd s
content_join o f k m c (x ∷ []) s a e = content_leaf o f x a.0
content_join o f k m c (x ∷ y ∷ ys) s a e =
    content_many o f k x (join f k (y ∷ ys)) m c
    ∙ ap (settled o) (sym (leaves_twice f k x (join f k (y ∷ ys))) ∙ leaves_join f k x (y ∷ ys) a)
    ∙ e

content_again : (th : Theory) (f : ℕ) (o : Operator) {t : Tree} {xs : List Tree} → HasContent th f o t xs → content o f (join f o.result xs) ≡ xs
content_again th f o (alone t w e) = e
content_again th f o (grouped {t = t} {xs = []} j m c d) = absurd (leaves_some th.signature f o.result d)
content_again th f o (grouped {t = t} {xs = x ∷ xs} j m c d) =
    let alone = all_alone th.signature f o.result (x ∷ xs) (all_leaf th.signature f o.result d) in
    let all = all_settled (IsAlone f) o x xs alone in
    content_join o f o.result m c (settled o (x ∷ xs)) (settled_some o x xs) all (settled_again o x xs)
content_again th f o (repeated {xs = xs} a j i p h) = content_again th f o h
content_again th f o (apart a b j m c p q n) = elim (two_settled o a b n) [
  | inl e ↦ rw e (content_two o f o.result a b m c n ∙ e)
  | inr e ↦ rw e.1
      (content_two o f o.result b a m c (λ i. other_way a b (n i)) ∙ ap (settled o) (sym e.1) ∙ settled_again o a (b ∷ []) ∙ e.1)
]

pub is_canonical : (th : Theory) → IsWellFormed th → (f : ℕ) (o : Operator) → slice_get th.signature.ops f ≡ Some o
    → (t : Tree) → IsWellSorted th.signature t → IsCanonicalFormOf th o f t (canonical o f t)
is_canonical th ok f o e t w =
    let h = has_content th ok f o e t w in
    let s = content_fits th f o h in
    let c : content o f (canonical o f t) ≡ content o f t = content_again th f o h in
    record {
      same_content = c;
      its_own = ap (join f o.result) c;
      well_sorted = s.1;
      same_sort = s.0;
      derivable = λ H. content_leads th H f o h;
    }
