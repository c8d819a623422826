-- Numbers that are kept under words.
use Rattle.std.proofs.Common.{◌≡◌, ℕ, suc, ◌+◌, length, Bool, true, false, ◌&&◌, nat_eq, if◌then◌else◌, List, [], ◌∷◌, ◌++◌, Vec, Option, Some, None, Result, Ok}
use Rattle.std.proofs.Common.{Err, OnOk, OnErr, refl, ap, sym, ◌∙◌, arith}
use Rattle.std.specs.Cmp.Lexicographic.{pointwise, bytes_decides}
use Rattle.std.proofs.lemmas.Bool.{eqb-true, eq-eqb}
use Rattle.std.specs.Map.{lookup, set_value}
use Rattle.std.specs.Option.{option_map_or, option_eq}
use Rattle.indexmap.specs.IndexMap.{insert_entry}
use Rattle.circ_form.specs.Form.{first_word}
use Rattle.circ_theory.specs.Signature.{Signature, Operator}
use Rattle.circ_theory.specs.declared.overloads.Overloads.{Overloads}
use Rattle.circ_theory.specs.Operators.{places_from, ops_by_word, ops_by_word_and_sort, first_sort}
use Rattle.circ_theory.specs.Inside.{kept_at, kept_with, kept_under, kept_under_both, IsNoted, IsKeptSo}

places_push : {X : Type 0} (p : X → Bool) (k : ℕ) (xs : List X) (x : X)
    → places_from p k (xs ++ x ∷ []) ≡ (if p x then places_from p k xs ++ (k + length xs) ∷ [] else places_from p k xs)
places_push p k [] x = let z : k ≡ k + 0 = omega arith in ap (λ n. if p x then n ∷ [] else []) z
places_push p k (y ∷ xs) x =
    let z : k + 1 + length xs ≡ k + suc (length xs) = omega arith in
    ap (λ ns. if p y then k ∷ ns else ns) (places_push p (k + 1) xs x ∙ ap (λ n. if p x then places_from p (k + 1) xs ++ n ∷ [] else places_from p (k + 1) xs) z)
    ∙ go (p y) (p x) (places_from p (k + 1) xs) (k + suc (length xs))
  where
    go : (b c : Bool) (ns : List ℕ) (n : ℕ) → (if b then k ∷ (if c then ns ++ n ∷ [] else ns) else (if c then ns ++ n ∷ [] else ns))
        ≡ (if c then (if b then k ∷ ns else ns) ++ n ∷ [] else (if b then k ∷ ns else ns))
    go true true ns n = refl
    go true false ns n = refl
    go false true ns n = refl
    go false false ns n = refl

-- the numbers under a word after one operator more
pub word_more : (sig : Signature) (o : Operator) (w first kept : List ℕ) (n : ℕ) → first ≡ first_word o.form → kept ≡ ops_by_word sig w → n ≡ length sig.ops
    → (if pointwise nat_eq w first then kept ++ n ∷ [] else kept) ≡ places_from (λ o. pointwise nat_eq w (first_word o.form)) 0 (sig.ops ++ o ∷ [])
word_more sig o w first kept n a b e =
    let z : n ≡ 0 + length sig.ops = omega arith in
    rw (a, b, z) refl ∙ sym (places_push (λ o. pointwise nat_eq w (first_word o.form)) 0 sig.ops o)

-- the numbers under a word and a sort after one operator more
pub both_more : (sig : Signature) (o : Operator) (w first kept : List ℕ) (s sort : Option ℕ) (n : ℕ) → first ≡ first_word o.form → sort ≡ first_sort o → kept ≡ ops_by_word_and_sort sig w s
    → n ≡ length sig.ops
    → (if pointwise nat_eq w first && option_eq nat_eq s sort then kept ++ n ∷ [] else kept)
    ≡ places_from (λ o. pointwise nat_eq w (first_word o.form) && option_eq nat_eq s (first_sort o)) 0 (sig.ops ++ o ∷ [])
both_more sig o w first kept s sort n a b c d =
    let z : n ≡ 0 + length sig.ops = omega arith in
    rw (a, b, c, z) refl ∙ sym (places_push (λ o. pointwise nat_eq w (first_word o.form) && option_eq nat_eq s (first_sort o)) 0 sig.ops o)

-- sorts that are equal are the same
pub sorts_decide : (a b : Option ℕ) → (option_eq nat_eq a b ≡ true → a ≡ b) × (a ≡ b → option_eq nat_eq a b ≡ true)
sorts_decide None None = ((λ _. refl), (λ _. refl))
sorts_decide None (Some t) = ((λ e. absurd (cc)), (λ e. absurd (cc)))
sorts_decide (Some s) None = ((λ e. absurd (cc)), (λ e. absurd (cc)))
sorts_decide (Some s) (Some t) = ((λ e. ap (λ n. Some n) (eqb-true s t e)), (λ e. eq-eqb s t (cc e)))

pub on_err : {X E : Type 0} (r : Result X E) (P : Type 0) → P → OnErr r P
on_err (Ok x) P p = tt
on_err (Err e) P p = p

-- What is kept under a key that has the view `q`, and `d` where there is none.
module _ {K V Q A : Type 0} (of : K → Q) (E : Q → Q → Bool) (decides : (a b : Q) → (E a b ≡ true → a ≡ b) × (a ≡ b → E a b ≡ true)) (f : V → A) (d : A) where
  abbrev pub kept : List (K × V) → Q → A
  kept es q = option_map_or f (lookup (λ k. E q (of k)) es) d

  -- under another key there is what there was
  passed : (v w k : Q) (old new ns x : A) → E v k ≡ false → new ≡ (if E w v then x else old)
      → (if E w k then ns else new) ≡ (if E w v then x else if E w k then ns else old)
  passed v w k old new ns x other is = go (E w k) refl (E w v) refl
    where
      go : (b : Bool) → E w k ≡ b → (e : Bool) → E w v ≡ e → (if b then ns else new) ≡ (if e then x else if b then ns else old)
      go true h true f =
          let same : E v k ≡ true = (decides v k).1 (sym ((decides w v).0 f) ∙ (decides w k).0 h) in
          absurd (let z = sym same ∙ other in cc)
      go true h false f = refl
      go false h e f = is ∙ ap (λ b. if b then x else old) f

  kept_more : (k : K) (v : V) (es : List (K × V)) (w : Q) → kept ((k, v) ∷ es) w ≡ (if E w (of k) then f v else kept es w)
  kept_more k v es w = go (E w (of k))
    where
      go : (b : Bool) → option_map_or f (if b then Some v else lookup (λ k. E w (of k)) es) d ≡ (if b then f v else kept es w)
      go true = refl
      go false = refl

  pub kept-set : (v : Q) (x old : V) (w : Q) (es : List (K × V)) → lookup (λ k. E v (of k)) es ≡ Some old
      → kept (set_value (λ k. E v (of k)) es x) w ≡ (if E w v then f x else kept es w)
  kept-set v x old w [] h = absurd (cc)
  kept-set v x old w (e ∷ es) h = go (λ h. kept-set v x old w es h) (E v (of e.0)) refl
    where
      go : (lookup (λ k. E v (of k)) es ≡ Some old → kept (set_value (λ k. E v (of k)) es x) w ≡ (if E w v then f x else kept es w))
          → (b : Bool) → E v (of e.0) ≡ b
          → kept (if b then (e.0, x) ∷ es else e ∷ set_value (λ k. E v (of k)) es x) w ≡ (if E w v then f x else kept (e ∷ es) w)
      go ih true g =
          let here = kept_more e.0 x es w in
          let there = kept_more e.0 e.1 es w in
          here ∙ rw there (rw (sym ((decides v (of e.0)).0 g)) (twice (E w v)))
        where
          twice : (b : Bool) → (if b then f x else kept es w) ≡ (if b then f x else if b then f e.1 else kept es w)
          twice true = refl
          twice false = refl
      go ih false g =
          kept_more e.0 e.1 (set_value (λ k. E v (of k)) es x) w
          ∙ passed v w (of e.0) (kept es w) _ (f e.1) (f x) g (ih (rw g at h))
          ∙ ap (λ ns. if E w v then f x else ns) (sym (kept_more e.0 e.1 es w))

  pub kept-insert : (k : K) (v : V) (w : Q) (es : List (K × V)) → lookup (λ j. E (of k) (of j)) es ≡ None
      → kept (insert_entry (λ a b. E (of a) (of b)) es k v) w ≡ (if E w (of k) then f v else kept es w)
  kept-insert k v w [] h = kept_more k v [] w
  kept-insert k v w (e ∷ es) h = go (λ h. kept-insert k v w es h) (E (of k) (of e.0)) refl
    where
      go : (lookup (λ j. E (of k) (of j)) es ≡ None → kept (insert_entry (λ a b. E (of a) (of b)) es k v) w ≡ (if E w (of k) then f v else kept es w))
          → (b : Bool) → E (of k) (of e.0) ≡ b
          → kept (if b then (e.0, v) ∷ es else e ∷ insert_entry (λ a b. E (of a) (of b)) es k v) w ≡ (if E w (of k) then f v else kept (e ∷ es) w)
      go ih true g = absurd (let z = rw g at h in cc)
      go ih false g =
          kept_more e.0 e.1 (insert_entry (λ a b. E (of a) (of b)) es k v) w
          ∙ passed (of k) w (of e.0) (kept es w) _ (f e.1) (f v) g (ih (rw g at h))
          ∙ ap (λ ns. if E w (of k) then f v else ns) (sym (kept_more e.0 e.1 es w))

  -- what was there is changed under one key
  pub changed : (es new : List (K × V)) (v : Q) (x : A) (change : A → A) → ((w : Q) → kept new w ≡ (if E w v then x else kept es w)) → x ≡ change (kept es v)
      → (w : Q) → kept new w ≡ (if E w v then change (kept es w) else kept es w)
  changed es new v x change h is w = h w ∙ go (E w v) refl
    where
      go : (b : Bool) → E w v ≡ b → (if b then x else kept es w) ≡ (if b then change (kept es w) else kept es w)
      go true g = is ∙ ap (λ u. change (kept es u)) (sym ((decides w v).0 g))
      go false g = refl

  -- or not changed
  pub unchanged : (es new : List (K × V)) (v : Q) (x : A) → ((w : Q) → kept new w ≡ (if E w v then x else kept es w)) → x ≡ kept es v → (w : Q) → kept new w ≡ kept es w
  unchanged es new v x h is w = h w ∙ go (E w v) refl
    where
      go : (b : Bool) → E w v ≡ b → (if b then x else kept es w) ≡ kept es w
      go true g = is ∙ ap (kept es) (sym ((decides w v).0 g))
      go false g = refl

-- a number more under a sort
abbrev pub more_if : (b : Bool) → ℕ → List ℕ → List ℕ
more_if b n ns = if b then ns ++ n ∷ [] else ns

pub if_both : (a b : Bool) (n : ℕ) (ns : List ℕ) → (if a then more_if b n ns else ns) ≡ more_if (a && b) n ns
if_both true b n ns = refl
if_both false b n ns = refl

-- the operators of one word have one more
pub with_more : {A : Type 0} (es new : List (Vec ℕ A × Overloads)) (word : List ℕ) (x : Overloads) (sort : Option ℕ) (n : ℕ)
    → ((w : List ℕ) → kept_under new w ≡ (if pointwise nat_eq w word then x.all.items else kept_under es w))
    → ((s : Option ℕ) (w : List ℕ) → kept_under_both new w s ≡ (if pointwise nat_eq w word then kept_with x s else kept_under_both es w s))
    → x.all.items ≡ kept_under es word ++ n ∷ []
    → ((s : Option ℕ) → kept_with x s ≡ more_if (option_eq nat_eq s sort) n (kept_under_both es word s))
    → IsNoted es new word sort n
with_more es new word x sort n here both all by_sort = record {
  words = changed (λ k. k.items) (pointwise nat_eq) bytes_decides (λ o. o.all.items) [] es new word x.all.items (λ ns. ns ++ n ∷ []) here all;
  both = λ w s.
      changed (λ k. k.items) (pointwise nat_eq) bytes_decides (λ o. kept_with o s) [] es new word (kept_with x s) (more_if (option_eq nat_eq s sort) n) (both s) (by_sort s) w
      ∙ if_both (pointwise nat_eq w word) (option_eq nat_eq s sort) n (kept_under_both es w s);
}

-- or have the same
pub with_same : {A : Type 0} (es new : List (Vec ℕ A × Overloads)) (word : List ℕ) (x : Overloads)
    → ((w : List ℕ) → kept_under new w ≡ (if pointwise nat_eq w word then x.all.items else kept_under es w))
    → ((s : Option ℕ) (w : List ℕ) → kept_under_both new w s ≡ (if pointwise nat_eq w word then kept_with x s else kept_under_both es w s))
    → x.all.items ≡ kept_under es word → ((s : Option ℕ) → kept_with x s ≡ kept_under_both es word s) → IsKeptSo es new
with_same es new word x here both all by_sort = record {
  words = unchanged (λ k. k.items) (pointwise nat_eq) bytes_decides (λ o. o.all.items) [] es new word x.all.items here all;
  both = λ w s. unchanged (λ k. k.items) (pointwise nat_eq) bytes_decides (λ o. kept_with o s) [] es new word (kept_with x s) (both s) (by_sort s) w;
}

-- an operator was noted among those of a word, or not
module _ {A X E : Type 0} (r : Result X E) (es new : List (Vec ℕ A × Overloads)) (word : List ℕ) (old x : Overloads)
    (found : lookup (λ k. pointwise nat_eq word k.items) es ≡ Some old) (is : new ≡ set_value (λ k. pointwise nat_eq word k.items) es x) where
  here : (w : List ℕ) → kept_under new w ≡ (if pointwise nat_eq w word then x.all.items else kept_under es w)
  here w = ap (λ es. kept_under es w) is ∙ kept-set (λ k. k.items) (pointwise nat_eq) bytes_decides (λ o. o.all.items) [] word x old w es found

  both : (s : Option ℕ) (w : List ℕ) → kept_under_both new w s ≡ (if pointwise nat_eq w word then kept_with x s else kept_under_both es w s)
  both s w = ap (λ es. kept_under_both es w s) is ∙ kept-set (λ k. k.items) (pointwise nat_eq) bytes_decides (λ o. kept_with o s) [] word x old w es found

  was : kept_under es word ≡ old.all.items
  was = ap (λ o. option_map_or (λ v. v.all.items) o []) found

  was_both : (s : Option ℕ) → kept_under_both es word s ≡ kept_with old s
  was_both s = ap (λ o. option_map_or (λ v. kept_with v s) o []) found

  pub noted_more : (sort : Option ℕ) (n : ℕ) → OnOk r (x.all.items ≡ old.all.items ++ n ∷ [])
      → OnOk r ((s : Option ℕ) → kept_with x s ≡ more_if (option_eq nat_eq s sort) n (kept_with old s)) → OnOk r (IsNoted es new word sort n)
  noted_more sort n all by_sort = go r all by_sort
    where
      go : (r : Result X E) → OnOk r (x.all.items ≡ old.all.items ++ n ∷ [])
          → OnOk r ((s : Option ℕ) → kept_with x s ≡ more_if (option_eq nat_eq s sort) n (kept_with old s)) → OnOk r (IsNoted es new word sort n)
      go (Err e) a b = tt
      go (Ok v) a b = with_more es new word x sort n here both (a ∙ ap (λ ns. ns ++ n ∷ []) (sym was)) (λ s. b s ∙ ap (more_if (option_eq nat_eq s sort) n) (sym (was_both s)))

  pub noted_same : OnErr r (x.all.items ≡ old.all.items) → OnErr r ((s : Option ℕ) → kept_with x s ≡ kept_with old s) → OnErr r (IsKeptSo es new)
  noted_same all by_sort = go r all by_sort
    where
      go : (r : Result X E) → OnErr r (x.all.items ≡ old.all.items) → OnErr r ((s : Option ℕ) → kept_with x s ≡ kept_with old s) → OnErr r (IsKeptSo es new)
      go (Ok v) a b = tt
      go (Err e) a b = with_same es new word x here both (a ∙ sym was) (λ s. b s ∙ sym (was_both s))

-- a number was kept among those of a sort, or not
module _ {B X E : Type 0} (r : Result X E) (es new : List (Option ℕ × Vec ℕ B)) (sort : Option ℕ) (old x : Vec ℕ B)
    (found : lookup (option_eq nat_eq sort) es ≡ Some old) (is : new ≡ set_value (option_eq nat_eq sort) es x) where
  at_sort : (s : Option ℕ) → kept_at new s ≡ (if option_eq nat_eq s sort then x.items else kept_at es s)
  at_sort s = ap (λ es. kept_at es s) is ∙ kept-set (λ k. k) (option_eq nat_eq) sorts_decide (λ v. v.items) [] sort x old s es found

  was_kept : kept_at es sort ≡ old.items
  was_kept = ap (λ o. option_map_or (λ v. v.items) o []) found

  pub sort_more : (n : ℕ) → OnOk r (x.items ≡ old.items ++ n ∷ []) → OnOk r ((s : Option ℕ) → kept_at new s ≡ more_if (option_eq nat_eq s sort) n (kept_at es s))
  sort_more n all = go r all
    where
      go : (r : Result X E) → OnOk r (x.items ≡ old.items ++ n ∷ []) → OnOk r ((s : Option ℕ) → kept_at new s ≡ more_if (option_eq nat_eq s sort) n (kept_at es s))
      go (Err e) a = tt
      go (Ok v) a =
          changed (λ k. k) (option_eq nat_eq) sorts_decide (λ v. v.items) [] es new sort x.items (λ ns. ns ++ n ∷ []) at_sort (a ∙ ap (λ ns. ns ++ n ∷ []) (sym was_kept))

  pub sort_same : OnErr r (x.items ≡ old.items) → OnErr r ((s : Option ℕ) → kept_at new s ≡ kept_at es s)
  sort_same all = go r all
    where
      go : (r : Result X E) → OnErr r (x.items ≡ old.items) → OnErr r ((s : Option ℕ) → kept_at new s ≡ kept_at es s)
      go (Ok v) a = tt
      go (Err e) a = unchanged (λ k. k) (option_eq nat_eq) sorts_decide (λ v. v.items) [] es new sort x.items at_sort (a ∙ sym was_kept)
