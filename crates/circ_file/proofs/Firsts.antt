-- Arguments that are found one after the other, and their sorts.
use Rattle.std.specs.Prelude.{◌≡◌, ℕ, ◌+◌, ◌≤◌, ◌<◌, ◌==◌, ◌&&◌, nat_eq, Bool, true, false, List, [], ◌∷◌, length, map, get_or, drop, refl, Option, Some, None}
use Rattle.std.specs.Option.{option_map, option_map_or, option_and_then}
use Rattle.std.specs.Cmp.Lexicographic.{as_long}
use Rattle.std.proofs.Common.{sym, ◌∙◌, ap, arith}
use Rattle.std.proofs.lemmas.List.{drop_more, drop_all, length-map}
use Rattle.std.proofs.lemmas.Option.{same_Some}
use Rattle.circ_term.specs.Tree.{Tree, sort_of}
use Rattle.circ_proof_text.specs.TableText.{first_at, firsts_at}
use Rattle.circ_file.specs.Adding.{have_sorts}

-- there is such a term, and it has this sort
abbrev pub has_sort : Option Tree → ℕ → Bool
has_sort o s = option_map_or (λ t. sort_of t == s) o false

next_sorts : (table : List Tree) (n s : ℕ) (ns ss : List ℕ)
    → have_sorts (firsts_at table (n ∷ ns)) (s ∷ ss) ≡ (has_sort (first_at table n) s && have_sorts (firsts_at table ns) ss)
next_sorts table n s ns ss = go (first_at table n) (firsts_at table ns)
  where
    none_left : (b : Bool) → false ≡ (b && false)
    none_left true = refl
    none_left false = refl

    go : (o : Option Tree) (q : Option (List Tree)) → have_sorts (option_and_then (λ t. option_map (λ ts. t ∷ ts) q) o) (s ∷ ss) ≡ (has_sort o s && have_sorts q ss)
    go None q = refl
    go (Some t) None = none_left (sort_of t == s)
    go (Some t) (Some ts) = refl

-- what is left of the numbers and the sorts
pub sorts_left : (table : List Tree) (ns ss : List ℕ) (i : ℕ) → i < length ns → i < length ss
    → have_sorts (firsts_at table (drop i ns)) (drop i ss)
    ≡ (has_sort (first_at table (get_or ns i 0)) (get_or ss i 0) && have_sorts (firsts_at table (drop (i + 1) ns)) (drop (i + 1) ss))
sorts_left table ns ss i l m =
    ap (λ x. have_sorts (firsts_at table x) (drop i ss)) (drop_more ns i 0 l)
    ∙ ap (λ x. have_sorts (firsts_at table (get_or ns i 0 ∷ drop (i + 1) ns)) x) (drop_more ss i 0 m)
    ∙ next_sorts table (get_or ns i 0) (get_or ss i 0) (drop (i + 1) ns) (drop (i + 1) ss)

pub none_left : (table : List Tree) (ns ss : List ℕ) (i : ℕ) → length ns ≤ i → length ss ≤ i → true ≡ have_sorts (firsts_at table (drop i ns)) (drop i ss)
none_left table ns ss i l m =
    ap (λ x. have_sorts (firsts_at table []) x) (sym (drop_all i ss m)) ∙ ap (λ x. have_sorts (firsts_at table x) (drop i ss)) (sym (drop_all i ns l))

found_long : (table : List Tree) (ns : List ℕ) (ts : List Tree) → Some ts ≡ firsts_at table ns → length ts ≡ length ns
found_long table [] ts e = ap length (same_Some ts [] e)
found_long table (n ∷ ns) ts e = go (first_at table n) (firsts_at table ns) (found_long table ns) e
  where
    go : (o : Option Tree) (q : Option (List Tree)) → ((us : List Tree) → Some us ≡ q → length us ≡ length ns)
        → Some ts ≡ option_and_then (λ t. option_map (λ us. t ∷ us) q) o → length ts ≡ length (n ∷ ns)
    go None q ih f = absurd (cc)
    go (Some t) None ih f = absurd (cc)
    go (Some t) (Some us) ih f = omega (arith, ap length (same_Some ts (t ∷ us) f), ih us refl)

-- there are as many sorts as numbers
pub same_count : (table : List Tree) (ns ss : List ℕ) → have_sorts (firsts_at table ns) ss ≡ true → length ns ≡ length ss
same_count table ns ss e = go (firsts_at table ns) (found_long table ns) e
  where
    go : (o : Option (List Tree)) → ((ts : List Tree) → Some ts ≡ o → length ts ≡ length ns) → have_sorts o ss ≡ true → length ns ≡ length ss
    go None l f = absurd (cc)
    go (Some ts) l f = omega (arith, as_long nat_eq (map sort_of ts) ss f, l ts refl, length-map ts sort_of)

pub other_count : (table : List Tree) (ns ss : List ℕ) → (length ns ≡ length ss → ⊥) → false ≡ have_sorts (firsts_at table ns) ss
other_count table ns ss d = go (have_sorts (firsts_at table ns) ss) (λ e. d (same_count table ns ss e))
  where
    go : (b : Bool) → (b ≡ true → ⊥) → false ≡ b
    go true f = absurd (f refl)
    go false f = refl
