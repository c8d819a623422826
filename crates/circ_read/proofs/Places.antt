-- Words at places of a list.
use Rattle.std.proofs.Common.{◌≡◌, ℕ, zero, suc, ◌+◌, ◌-◌, ◌<◌, ◌≤◌, List, [], ◌∷◌, ◌++◌, length, take, drop, slice_range, slice_get, unwrap_or, Bool, true, false, nat_eq, codes, Option, Some, None, refl, sym, ap, ◌∙◌, subst, arith, add-one}
use Rattle.std.proofs.Math.Seq.{take-add}
use Rattle.std.proofs.lemmas.List.{drop-drop, take_rest, length-drop}
use Rattle.std.proofs.lemmas.List.Folds.{drop_split, list_any-append}
use Rattle.std.proofs.lemmas.Slice.Eq.{bytes_eq-Decides}
use Rattle.std.specs.List.{list_any}
use Rattle.std.specs.Option.{option_map_or}
use Rattle.std.specs.Cmp.Lexicographic.{pointwise}
use Rattle.circ_read.specs.Text.{is_stop, HasNoStop, ending}
use Rattle.circ_read.specs.Steps.{has_word_at, IsStopAfter}
use Rattle.circ_read.proofs.Tokens.{range_next}

drop_suc : (ws : List (List ℕ)) (n : ℕ) (w : List ℕ) → slice_get ws n ≡ Some w → drop n ws ≡ w ∷ drop (suc n) ws
drop_suc [] n w e = absurd (cc)
drop_suc (v ∷ ws) zero w e = cc
drop_suc (v ∷ ws) (suc n) w e = drop_suc ws n w e

pub drop_at : (ws : List (List ℕ)) (n : ℕ) (w : List ℕ) → slice_get ws n ≡ Some w → drop n ws ≡ w ∷ drop (n + 1) ws
drop_at ws n w e = rw add-one (drop_suc ws n w e)

at_drop_suc : (ws : List (List ℕ)) (n : ℕ) (w : List ℕ) (rest : List (List ℕ)) → drop n ws ≡ w ∷ rest → (slice_get ws n ≡ Some w) × (drop (suc n) ws ≡ rest)
at_drop_suc [] zero w rest e = absurd (cc)
at_drop_suc [] (suc n) w rest e = absurd (cc)
at_drop_suc (v ∷ ws) zero w rest e = (cc, cc)
at_drop_suc (v ∷ ws) (suc n) w rest e = at_drop_suc ws n w rest e

pub at_drop : (ws : List (List ℕ)) (n : ℕ) (w : List ℕ) (rest : List (List ℕ)) → drop n ws ≡ w ∷ rest → (slice_get ws n ≡ Some w) × (drop (n + 1) ws ≡ rest)
at_drop ws n w rest e = rw add-one (at_drop_suc ws n w rest e)

pub get_within : (ws : List (List ℕ)) (n : ℕ) (w : List ℕ) → slice_get ws n ≡ Some w → n < length ws
get_within [] n w e = absurd (cc)
get_within (v ∷ ws) zero w e = omega arith
get_within (v ∷ ws) (suc n) w e = let h = get_within ws n w e in omega arith

pub word_here : (ws : List (List ℕ)) (n : ℕ) (w : List ℕ) → has_word_at ws n w ≡ true → slice_get ws n ≡ Some w
word_here ws n w h = go (slice_get ws n) h
  where
    go : (o : Option (List ℕ)) → option_map_or (λ v. pointwise nat_eq v w) o false ≡ true → o ≡ Some w
    go None e = absurd (cc)
    go (Some v) e = ap Some ((bytes_eq-Decides v w).0 e)

pub is_here : (ws : List (List ℕ)) (n : ℕ) (w : List ℕ) → slice_get ws n ≡ Some w → has_word_at ws n w ≡ true
is_here ws n w e = ap (λ o. option_map_or (λ v. pointwise nat_eq v w) o false) e ∙ (bytes_eq-Decides w w).1 refl

-- three words at a place
pub three_here : (ws : List (List ℕ)) (n : ℕ) (a b c : List ℕ) → slice_get ws n ≡ Some a → slice_get ws (n + 1) ≡ Some b → slice_get ws (n + 2) ≡ Some c → drop n ws ≡ a ∷ b ∷ c ∷ drop (n + 3) ws
three_here ws n a b c e f g =
    drop_at ws n a e ∙ ap (λ xs. a ∷ xs) (drop_at ws (n + 1) b f ∙ ap (λ xs. b ∷ xs) (ap (λ i. drop i ws) (omega arith) ∙ drop_at ws (n + 2) c g ∙ ap (λ i. c ∷ drop i ws) (omega arith)))

pub record AreThree (ws : List (List ℕ)) (n : ℕ) (a b c : List ℕ) : Type 0 where
  pub first : slice_get ws n ≡ Some a
  pub second : slice_get ws (n + 1) ≡ Some b
  pub third : slice_get ws (n + 2) ≡ Some c

pub three_at : (ws : List (List ℕ)) (n : ℕ) (a b c : List ℕ) (rest : List (List ℕ)) → drop n ws ≡ a ∷ b ∷ c ∷ rest → AreThree ws n a b c
three_at ws n a b c rest e =
    let one = at_drop ws n a (b ∷ c ∷ rest) e in
    let two = at_drop ws (n + 1) b (c ∷ rest) one.1 in
    let three = at_drop ws (n + 2) c rest (ap (λ i. drop i ws) (omega arith) ∙ two.1) in
    record { first = one.0; second = two.0; third = three.0 }

-- one word is left, or two
pub one_left : (ws : List (List ℕ)) (n : ℕ) (a : List ℕ) → slice_get ws n ≡ Some a → length ws - n ≡ 1 → drop n ws ≡ a ∷ []
one_left ws n a e l = drop_at ws n a e ∙ ap (λ xs. a ∷ xs) (none_left ws (n + 1) (omega arith))
  where
    none_left : (ws : List (List ℕ)) (n : ℕ) → length ws ≤ n → drop n ws ≡ []
    none_left [] zero l = refl
    none_left [] (suc n) l = refl
    none_left (v ∷ ws) zero l = absurd (omega arith)
    none_left (v ∷ ws) (suc n) l = none_left ws n (omega arith)

pub two_left : (ws : List (List ℕ)) (n : ℕ) (a b : List ℕ) → slice_get ws n ≡ Some a → slice_get ws (n + 1) ≡ Some b → length ws - n ≡ 2 → drop n ws ≡ a ∷ b ∷ []
two_left ws n a b e f l = drop_at ws n a e ∙ ap (λ xs. a ∷ xs) (one_left ws (n + 1) b f (omega arith))

pub count_left : (ws : List (List ℕ)) (n : ℕ) (rest : List (List ℕ)) → drop n ws ≡ rest → length ws - n ≡ length rest
count_left ws n rest e = sym (length-drop n ws) ∙ ap length e

-- no stop was found yet
pub range_none : (ws : List (List ℕ)) (a : ℕ) → slice_range ws a a ≡ []
range_none ws a = let n : a - a ≡ 0 = omega arith in ap (λ k. take k (drop a ws)) n

pub range_more : (ws : List (List ℕ)) (a b : ℕ) → a ≤ b → b < length ws → slice_range ws a (b + 1) ≡ slice_range ws a b ++ unwrap_or (slice_get ws b) [] ∷ []
range_more ws a b l m =
    let n : b + 1 - a ≡ (b - a) + (b + 1 - b) = omega arith in
    let k : a + (b - a) ≡ b = omega arith in
    ap (λ k. take k (drop a ws)) n ∙ take-add (b - a) (b + 1 - b) (drop a ws)
    ∙ ap (λ xs. take (b - a) (drop a ws) ++ take (b + 1 - b) xs) (drop-drop (b - a) a ws ∙ ap (λ i. drop i ws) k)
    ∙ ap (λ xs. slice_range ws a b ++ xs) (range_next ws b (b + 1) (omega arith) (omega arith) ∙ ap (λ xs. unwrap_or (slice_get ws b) [] ∷ xs) (range_none ws (b + 1)))

pub no_stop_more : (ws : List (List ℕ)) (a b : ℕ) → a ≤ b → b < length ws → HasNoStop (slice_range ws a b) → has_word_at ws b (codes ".") ≡ false → HasNoStop (slice_range ws a (b + 1))
no_stop_more ws a b l m h k =
    ap (list_any is_stop) (range_more ws a b l m) ∙ list_any-append is_stop (slice_range ws a b) (unwrap_or (slice_get ws b) [] ∷ []) ∙ rw (h, go (slice_get ws b) k) refl
  where
    go : (o : Option (List ℕ)) → option_map_or (λ v. pointwise nat_eq v (codes ".")) o false ≡ false → is_stop (unwrap_or o []) ≡ false
    go None e = refl
    go (Some v) e = e

pub stop_found : (ws : List (List ℕ)) (a b : ℕ) → a ≤ b → HasNoStop (slice_range ws a b) → has_word_at ws b (codes ".") ≡ true → IsStopAfter ws a b
stop_found ws a b l h k = record {
  ahead = l;
  within = get_within ws b (codes ".") (word_here ws b (codes ".") k);
  tokens = drop_split ws a b l ∙ ap (λ xs. slice_range ws a b ++ xs) (drop_at ws b (codes ".") (word_here ws b (codes ".") k));
  no_stop = h;
}

pub none_found : (ws : List (List ℕ)) (a b : ℕ) → b ≡ length ws → HasNoStop (slice_range ws a b) → HasNoStop (drop a ws)
none_found ws a b e h = subst HasNoStop (ap (λ n. take (n - a) (drop a ws)) e ∙ take_rest ws a) h

-- the end of a text at a place
pub end_first : (ws : List (List ℕ)) (n : ℕ) (opened : Bool) → drop n ws ≡ ending opened → has_word_at ws n (codes "endtheory") ≡ true
end_first ws n true e = is_here ws n _ (at_drop ws n _ _ e).0
end_first ws n false e = is_here ws n _ (at_drop ws n _ _ e).0

pub end_closed : (ws : List (List ℕ)) (n : ℕ) → has_word_at ws n (codes "endtheory") ≡ true → length ws - n ≡ 1 → drop n ws ≡ ending false
end_closed ws n h l = one_left ws n _ (word_here ws n _ h) l

pub end_opened : (ws : List (List ℕ)) (n : ℕ) → has_word_at ws n (codes "endtheory") ≡ true → length ws - n ≡ 2 → has_word_at ws (n + 1) (codes ")") ≡ true → drop n ws ≡ ending true
end_opened ws n h l k = two_left ws n _ _ (word_here ws n _ h) (word_here ws (n + 1) _ k) l

pub end_last : (ws : List (List ℕ)) (n : ℕ) → drop n ws ≡ ending true → has_word_at ws (n + 1) (codes ")") ≡ true
end_last ws n e = is_here ws (n + 1) _ (at_drop ws (n + 1) _ _ (at_drop ws n _ _ e).1).0
