-- Tokens as numbers of texts.
use Rattle.std.proofs.Common.{◌≡◌, ◌≤◌, ◌<◌, ◌+◌, ◌-◌, ◌++◌, ℕ, suc, List, [], ◌∷◌, length, take, drop, get_or, Some, unwrap_or, sym, ◌∙◌, ap, subst, refl, arith}
use Rattle.std.specs.List.{slice_get, slice_range}
use Rattle.std.proofs.lemmas.List.{map-append, length-map, get_or-drop, length-take-le, length-drop}
use Rattle.std.proofs.lemmas.Option.{slice_get_within, get_or_from_slice_get}
use Rattle.std.proofs.Math.Seq.{take-suc}
use Rattle.circ_mixfix.specs.Coding.{text_at, texts_at, AllBelow, AreNumbers}
use Rattle.circ_mixfix.specs.WordLists.{GrowsTo}
use Rattle.circ_mixfix.proofs.Coded.{text_listed}

-- numbers keep their texts
pub texts_kept : (ws vs : List (List ℕ)) (k : ℕ) (ns : List ℕ) → GrowsTo ws vs k → AllBelow (length ws) ns → texts_at vs ns ≡ texts_at ws ns
texts_kept ws vs k [] g l = refl
texts_kept ws vs k (n ∷ ns) g l =
    let e : text_at vs n ≡ text_at ws n = ap (λ o. unwrap_or o []) (g.kept n (text_at ws n) (text_listed ws n l.0)) in
    ap (λ x. x ∷ texts_at vs ns) e ∙ ap (λ xs. text_at ws n ∷ xs) (texts_kept ws vs k ns g l.1)

pub below_more : (j k : ℕ) (ns : List ℕ) → j ≤ k → AllBelow j ns → AllBelow k ns
below_more j k [] h l = tt
below_more j k (n ∷ ns) h l = let x = l.0 in (omega arith, below_more j k ns h l.1)

below_push : (k : ℕ) (ns : List ℕ) (n : ℕ) → AllBelow k ns → n < k → AllBelow k (ns ++ n ∷ [])
below_push k [] n l h = (h, tt)
below_push k (m ∷ ns) n l h = (l.0, below_push k ns n l.1 h)

pub no_numbers : (ws : List (List ℕ)) (ns : List ℕ) (us : List (List ℕ)) → ns ≡ [] → us ≡ [] → AreNumbers ws ns us
no_numbers ws ns us a b = record { texts = ap (texts_at ws) a ∙ sym b; below = let P : List ℕ → Type 0 = AllBelow (length ws) in subst P (sym a) tt }

-- the same texts, in a longer list
pub numbers_kept : (ws vs : List (List ℕ)) (k : ℕ) (ns : List ℕ) (us : List (List ℕ)) → GrowsTo ws vs k → AreNumbers ws ns us → AreNumbers vs ns us
numbers_kept ws vs k ns us g a = record { texts = texts_kept ws vs k ns g a.below ∙ a.texts; below = below_more (length ws) (length vs) ns g.longer a.below }

-- one number more
pub numbers_more : (ws vs : List (List ℕ)) (k : ℕ) (ns new : List ℕ) (n : ℕ) (us all : List (List ℕ)) (u : List ℕ) → GrowsTo ws vs k → AreNumbers ws ns us
    → slice_get vs n ≡ Some u → new ≡ ns ++ n ∷ [] → all ≡ us ++ u ∷ [] → AreNumbers vs new all
numbers_more ws vs k ns new n us all u g a at e f =
    let b = numbers_kept ws vs k ns us g a in
    let P : List ℕ → Type 0 = AllBelow (length vs) in
    record {
      texts = ap (texts_at vs) e ∙ map-append (text_at vs) ns (n ∷ []) ∙ ap (λ x. x ++ text_at vs n ∷ []) b.texts ∙ ap (λ o. us ++ unwrap_or o [] ∷ []) at ∙ sym f;
      below = subst P (sym e) (below_push (length vs) ns n b.below (slice_get_within vs n u at));
    }

pub range_none : {X : Type 0} (xs : List X) (at : ℕ) → slice_range xs at at ≡ []
range_none xs at = let e : at - at ≡ 0 = omega arith in ap (λ n. take n (drop at xs)) e

pub range_more : {X : Type 0} (xs : List X) (from to : ℕ) (x : X) → from ≤ to → slice_get xs to ≡ Some x → slice_range xs from (to + 1) ≡ slice_range xs from to ++ x ∷ []
range_more xs from to x l at =
    let w = slice_get_within xs to x at in
    let len = length-drop from xs in
    let e : to + 1 - from ≡ suc (to - from) = omega arith in
    let f : from + (to - from) ≡ to = omega arith in
    ap (λ n. take n (drop from xs)) e ∙ take-suc (drop from xs) (to - from) x (omega arith)
    ∙ ap (λ y. slice_range xs from to ++ y ∷ []) (get_or-drop from xs (to - from) x ∙ ap (λ n. get_or xs n x) f ∙ get_or_from_slice_get xs to x x at)

pub range_length : {X : Type 0} (xs : List X) (from to : ℕ) → to ≤ length xs → length (slice_range xs from to) ≡ to - from
range_length xs from to l = let len = length-drop from xs in length-take-le (to - from) (drop from xs) (omega arith)

-- there are as many numbers as texts
pub few_numbers : (ws : List (List ℕ)) (ns : List ℕ) (us : List (List ℕ)) → texts_at ws ns ≡ us → (k : ℕ) → length us ≤ k → length ns ≤ k
few_numbers ws ns us e k l = let a = length-map ns (text_at ws) in let b = ap length e in omega arith
