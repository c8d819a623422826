-- Names as the code keeps them.
use Rattle.std.proofs.Common.{◌≡◌, ◌+◌, ◌++◌, ℕ, List, [], ◌∷◌, map, Bool, true, false, ◌==◌, ◌&&◌, nat_eq, cond, Result, Ok, Err, OnOk, sym, ◌∙◌, ap, subst, refl, arith, append_assoc}
use Rattle.std.specs.Prelude.{if◌then◌else◌}
use Rattle.std.specs.List.{list_any, position_or_len}
use Rattle.std.specs.Cmp.Lexicographic.{pointwise}
use Rattle.std.proofs.lemmas.List.{map-append}
use Rattle.std.proofs.lemmas.List.Recursion.{is_position_or_len}
use Rattle.std.specs.declared.alloc.AllocError.{AllocError}
use Rattle.indexmap.specs.IndexSet.{insert_key}
use Rattle.circ_term.specs.Tree.{Tree, more, trees_of}
use Rattle.circ_theory.proofs.Lists.{list_any-map}
use Rattle.circ_mixfix.specs.Named.{Named, NamedVariable, is_named, numbered, all_numbered, seen_in, seen_in_all, seen_in_list, place_from}
use Rattle.circ_mixfix.specs.Coding.{named_by, all_named_by}
use Rattle.circ_mixfix.specs.NamesSeen.{named_of, numbered_by}
use Rattle.circ_mixfix.specs.Choices.{names_of, Extends}
use Rattle.circ_mixfix.specs.declared.choices.Choice.{Choice}
use Rattle.circ_mixfix.specs.declared.variable_names.VariableName.{VariableName}
use Rattle.circ_mixfix.proofs.Naming.{seen_name, seen_more, number_stays, list_seen_more, list_stays}

abbrev is_name : VariableName → VariableName → Bool
is_name a b = pointwise nat_eq a.name.now b.name.now && (a.sort == b.sort)

-- a name that is inserted is one that is seen
pub inserted : (ks : List VariableName) (k : VariableName) → map named_of (insert_key is_name ks k) ≡ seen_name (named_of k) (map named_of ks)
inserted ks k = go (list_any (is_name k) ks) ∙ ap put (sym (list_any-map (is_named (named_of k)) named_of ks))
  where
    put : Bool → List NamedVariable
    put b = if b then map named_of ks else map named_of ks ++ named_of k ∷ []

    go : (b : Bool) → map named_of (if b then ks else ks ++ k ∷ []) ≡ put b
    go true = refl
    go false = map-append named_of ks (k ∷ [])

place_on : (k : ℕ) (vs : List NamedVariable) (n : List ℕ) (s : ℕ) → place_from k vs n s ≡ k + place_from 0 vs n s
place_on k [] n s = omega arith
place_on k (v ∷ vs) n s = go (is_named (record { name = n; sort = s }) v) (place_on (k + 1) vs n s) (place_on 1 vs n s)
  where
    go : (b : Bool) → place_from (k + 1) vs n s ≡ k + 1 + place_from 0 vs n s → place_from 1 vs n s ≡ 1 + place_from 0 vs n s
        → (if b then k else place_from (k + 1) vs n s) ≡ k + (if b then 0 else place_from 1 vs n s)
    go true e f = omega arith
    go false e f = omega arith

-- its place is its number
pub place_is : (ks : List VariableName) (k : VariableName) → position_or_len (is_name k) ks ≡ place_from 0 (map named_of ks) k.name.now k.sort
place_is ks k = sym (is_position_or_len (λ xs. place_from 0 (map named_of xs) k.name.now k.sort) (is_name k) refl step ks)
  where
    step : (x : VariableName) (xs : List VariableName)
        → place_from 0 (map named_of (x ∷ xs)) k.name.now k.sort ≡ cond (is_name k x) 0 (1 + place_from 0 (map named_of xs) k.name.now k.sort)
    step x xs = ap (λ m. if is_name k x then 0 else m) (place_on 1 (map named_of xs) k.name.now k.sort)

-- terms one after another
pub numbered_row : (ws : List (List ℕ)) (vs : List NamedVariable) (ts : List Tree) → trees_of (numbered_by ws vs ts) ≡ all_numbered (place_from 0 vs) (all_named_by ws (trees_of ts))
numbered_row ws vs [] = refl
numbered_row ws vs (t ∷ ts) = ap (more (numbered (place_from 0 vs) (named_by ws t))) (numbered_row ws vs ts)

pub row_seen : (ws : List (List ℕ)) (ts : List Tree) (vs : List NamedVariable) → seen_in_all (all_named_by ws (trees_of ts)) vs ≡ seen_in_list (map (named_by ws) ts) vs
row_seen ws [] vs = refl
row_seen ws (t ∷ ts) vs = row_seen ws ts (seen_in (named_by ws t) vs)

pub list_seen : (qs ps : List Named) (vs : List NamedVariable) → seen_in_list (qs ++ ps) vs ≡ seen_in_list ps (seen_in_list qs vs)
list_seen [] ps vs = refl
list_seen (q ∷ qs) ps vs = list_seen qs ps (seen_in q vs)

-- one term more, numbered among those seen up to it, keeps its number however many are seen behind it
pub one_more : (ws : List (List ℕ)) (old new : List NamedVariable) (out kept first : List Tree) (t x : Tree) (ts all : List Tree) → new ≡ seen_in (named_by ws t) old
    → x ≡ numbered (place_from 0 new) (named_by ws t) → kept ≡ out ++ x ∷ []
    → ((more_seen : List NamedVariable) → out ++ numbered_by ws (old ++ more_seen) (t ∷ ts) ≡ first ++ numbered_by ws (old ++ more_seen) all)
    → (more_seen : List NamedVariable) → kept ++ numbered_by ws (new ++ more_seen) ts ≡ first ++ numbered_by ws (new ++ more_seen) all
one_more ws old new out kept first t x ts all e f g h more_seen =
    let q = named_by ws t in
    let s = seen_more q old in
    let longer : new ++ more_seen ≡ old ++ (s.0 ++ more_seen) = ap (λ vs. vs ++ more_seen) (e ∙ s.1) ∙ append_assoc old s.0 more_seen in
    let P : List NamedVariable → Type 0 = λ vs. out ++ numbered_by ws vs (t ∷ ts) ≡ first ++ numbered_by ws vs all in
    let Q : List NamedVariable → Type 0 = λ vs. numbered (place_from 0 (vs ++ more_seen)) q ≡ numbered (place_from 0 vs) q in
    let stays : numbered (place_from 0 (new ++ more_seen)) q ≡ x = subst Q (sym e) (number_stays q old more_seen) ∙ sym f in
    ap (λ z. z ++ numbered_by ws (new ++ more_seen) ts) g ∙ append_assoc out (x ∷ []) (numbered_by ws (new ++ more_seen) ts)
    ∙ ap (λ z. out ++ z ∷ numbered_by ws (new ++ more_seen) ts) (sym stays) ∙ subst P (sym longer) (h (s.0 ++ more_seen))

mapped : (ws : List (List ℕ)) (ν : List ℕ → ℕ → ℕ) (ts : List Tree) → map (numbered ν) (map (named_by ws) ts) ≡ map (λ t. numbered ν (named_by ws t)) ts
mapped ws ν [] = refl
mapped ws ν (t ∷ ts) = ap (λ z. numbered ν (named_by ws t) ∷ z) (mapped ws ν ts)

-- a choice with the terms of one pair more
pub extended : (ws : List (List ℕ)) (ts : List Tree) (old new : Choice) → names_of new ≡ seen_in_all (all_named_by ws (trees_of ts)) (names_of old)
    → new.terms.items ≡ old.terms.items ++ numbered_by ws (names_of new) ts → Extends ws ts old new
extended ws ts old new e f qs h = record { seen = seen; terms = rows }
  where
    in_list : names_of new ≡ seen_in_list (map (named_by ws) ts) (names_of old)
    in_list = e ∙ row_seen ws ts (names_of old)

    seen : names_of new ≡ seen_in_list (qs ++ map (named_by ws) ts) []
    seen = in_list ∙ ap (seen_in_list (map (named_by ws) ts)) h.seen ∙ sym (list_seen qs (map (named_by ws) ts) [])

    rows : (more_seen : List NamedVariable) → new.terms.items ≡ map (numbered (place_from 0 (names_of new ++ more_seen))) (qs ++ map (named_by ws) ts)
    rows more_seen =
        let ν = place_from 0 (names_of new ++ more_seen) in
        let s = list_seen_more (map (named_by ws) ts) (names_of old) in
        let longer : names_of new ++ more_seen ≡ names_of old ++ (s.0 ++ more_seen) = ap (λ vs. vs ++ more_seen) (in_list ∙ s.1) ∙ append_assoc (names_of old) s.0 more_seen in
        let P : List NamedVariable → Type 0 = λ vs. old.terms.items ≡ map (numbered (place_from 0 vs)) qs in
        let Q : List NamedVariable → Type 0 = λ vs. map (numbered (place_from 0 (vs ++ more_seen))) (map (named_by ws) ts) ≡ map (numbered (place_from 0 vs)) (map (named_by ws) ts) in
        let stays = subst Q (sym in_list) (list_stays (map (named_by ws) ts) (names_of old) more_seen) in
        f ∙ ap (λ z. z ++ numbered_by ws (names_of new) ts) (subst P (sym longer) (h.terms (s.0 ++ more_seen)))
        ∙ ap (λ z. map (numbered ν) qs ++ z) (sym (mapped ws (place_from 0 (names_of new)) ts) ∙ sym stays) ∙ sym (map-append (numbered ν) qs (map (named_by ws) ts))

pub extended_if : (r : Result (Unit {0}) AllocError) (ws : List (List ℕ)) (ts : List Tree) (old new : Choice) → OnOk r (names_of new ≡ seen_in_all (all_named_by ws (trees_of ts)) (names_of old))
    → OnOk r (new.terms.items ≡ old.terms.items ++ numbered_by ws (names_of new) ts) → OnOk r (Extends ws ts old new)
extended_if (Ok u) ws ts old new e f = extended ws ts old new e f
extended_if (Err x) ws ts old new e f = tt
