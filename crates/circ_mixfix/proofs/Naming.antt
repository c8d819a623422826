-- Variables numbered by the places of their names.
use Rattle.std.proofs.Common.{◌≡◌, ◌+◌, ◌++◌, ℕ, suc, List, [], ◌∷◌, map, length, Bool, true, false, ◌==◌, ◌||◌, nat_eq, Some, sym, ◌∙◌, ap, subst, refl, arith, append_assoc, append-nil}
use Rattle.std.specs.Prelude.{if◌then◌else◌}
use Rattle.std.specs.List.{list_any, slice_get}
use Rattle.std.specs.Cmp.Lexicographic.{pointwise, bytes_decides}
use Rattle.std.proofs.lemmas.Bool.{eqb-true, eq-eqb, and_parts}
use Rattle.std.proofs.lemmas.List.{length-map, map-append}
use Rattle.std.proofs.lemmas.List.Folds.{list_any-append}
use Rattle.circ_term.specs.Tree.{Var, App, more}
use Rattle.circ_theory.specs.Variables as plain
use Rattle.circ_theory.proofs.Numbering.{seen_there, seen_next}
use Rattle.circ_mixfix.specs.Named.{Named, NamedList, Variable, Applied, no_terms, terms, NamedVariable, is_named, numbered, all_numbered, seen_in, seen_in_all, seen_in_list, place_from}

abbrev pub named : List ℕ → ℕ → NamedVariable
named n s = record { name = n; sort = s }

abbrev pub seen_name : NamedVariable → List NamedVariable → List NamedVariable
seen_name v vs = if list_any (is_named v) vs then vs else vs ++ v ∷ []

itself : (n : List ℕ) (s : ℕ) → is_named (named n s) (named n s) ≡ true
itself n s = let a = (bytes_decides n n).1 refl in let b = eq-eqb s s refl in rw (a, b) refl

any_last : (v : NamedVariable) (vs rest : List NamedVariable) → is_named v v ≡ true → list_any (is_named v) (seen_name v vs ++ rest) ≡ true
any_last v vs rest i = list_any-append (is_named v) (seen_name v vs) rest ∙ ap (λ b. b || list_any (is_named v) rest) (go (list_any (is_named v) vs) refl)
  where
    go : (b : Bool) → list_any (is_named v) vs ≡ b → list_any (is_named v) (if list_any (is_named v) vs then vs else vs ++ v ∷ []) ≡ true
    go true e = rw e e
    go false e = rw e (list_any-append (is_named v) vs (v ∷ []) ∙ rw (e, i) refl)

-- one that is there keeps its place in a longer list
place_front : (k : ℕ) (vs rest : List NamedVariable) (n : List ℕ) (s : ℕ) → list_any (is_named (named n s)) vs ≡ true → place_from k (vs ++ rest) n s ≡ place_from k vs n s
place_front k [] rest n s h = absurd (cc)
place_front k (w ∷ vs) rest n s h = go (place_front (k + 1) vs rest n s) (is_named (named n s) w) refl
  where
    go : (list_any (is_named (named n s)) vs ≡ true → place_from (k + 1) (vs ++ rest) n s ≡ place_from (k + 1) vs n s) → (b : Bool) → is_named (named n s) w ≡ b
        → place_from k ((w ∷ vs) ++ rest) n s ≡ place_from k (w ∷ vs) n s
    go ih true e = rw e refl
    go ih false e = rw e (ih (rw e at h))

-- and one that is not goes last
place_last : (k : ℕ) (vs : List NamedVariable) (n : List ℕ) (s : ℕ) → place_from k (vs ++ named n s ∷ []) n s ≡ place_from k vs n s
place_last k [] n s = rw (itself n s) refl
place_last k (w ∷ vs) n s = ap (λ m. if is_named (named n s) w then k else m) (place_last (k + 1) vs n s)

pub place_seen : (vs : List NamedVariable) (n : List ℕ) (s : ℕ) → place_from 0 (seen_name (named n s) vs) n s ≡ place_from 0 vs n s
place_seen vs n s = go (list_any (is_named (named n s)) vs)
  where
    go : (b : Bool) → place_from 0 (if b then vs else vs ++ named n s ∷ []) n s ≡ place_from 0 vs n s
    go true = refl
    go false = place_last 0 vs n s

-- what was seen stays in front
mutual
  pub seen_more : (q : Named) (vs : List NamedVariable) → (ws : List NamedVariable) × (seen_in q vs ≡ vs ++ ws)
  seen_more (Variable n s) vs = go (list_any (is_named (named n s)) vs)
    where
      go : (b : Bool) → (ws : List NamedVariable) × ((if b then vs else vs ++ named n s ∷ []) ≡ vs ++ ws)
      go true = ([], sym (append-nil vs))
      go false = (named n s ∷ [], refl)
  seen_more (Applied f s qs) vs = all_seen_more qs vs

  all_seen_more : (qs : NamedList) (vs : List NamedVariable) → (ws : List NamedVariable) × (seen_in_all qs vs ≡ vs ++ ws)
  all_seen_more no_terms vs = ([], sym (append-nil vs))
  all_seen_more (terms q qs) vs =
      let a = seen_more q vs in
      let b = all_seen_more qs (seen_in q vs) in
      (a.0 ++ b.0, b.1 ∙ ap (λ us. us ++ b.0) a.1 ∙ append_assoc vs a.0 b.0)

pub list_seen_more : (qs : List Named) (vs : List NamedVariable) → (ws : List NamedVariable) × (seen_in_list qs vs ≡ vs ++ ws)
list_seen_more [] vs = ([], sym (append-nil vs))
list_seen_more (q ∷ qs) vs =
    let a = seen_more q vs in
    let b = list_seen_more qs (seen_in q vs) in
    (a.0 ++ b.0, b.1 ∙ ap (λ us. us ++ b.0) a.1 ∙ append_assoc vs a.0 b.0)

-- a term's numbers stay when further variables are seen
mutual
  numbers_stay : (q : Named) (vs rest more_seen : List NamedVariable) → numbered (place_from 0 ((seen_in q vs ++ rest) ++ more_seen)) q ≡ numbered (place_from 0 (seen_in q vs ++ rest)) q
  numbers_stay (Variable n s) vs rest more_seen = ap (λ m. Var m s) (place_front 0 (seen_name (named n s) vs ++ rest) more_seen n s (any_last (named n s) vs rest (itself n s)))
  numbers_stay (Applied f s qs) vs rest more_seen = ap (App f s) (all_numbers_stay qs vs rest more_seen)

  all_numbers_stay : (qs : NamedList) (vs rest more_seen : List NamedVariable)
      → all_numbered (place_from 0 ((seen_in_all qs vs ++ rest) ++ more_seen)) qs ≡ all_numbered (place_from 0 (seen_in_all qs vs ++ rest)) qs
  all_numbers_stay no_terms vs rest more_seen = refl
  all_numbers_stay (terms q qs) vs rest more_seen =
      let b = all_seen_more qs (seen_in q vs) in
      let whole : seen_in_all qs (seen_in q vs) ++ rest ≡ seen_in q vs ++ (b.0 ++ rest) = ap (λ us. us ++ rest) b.1 ∙ append_assoc (seen_in q vs) b.0 rest in
      let P : List NamedVariable → Type 0 = λ us. numbered (place_from 0 (us ++ more_seen)) q ≡ numbered (place_from 0 us) q in
      let long : List ℕ → ℕ → ℕ = place_from 0 ((seen_in_all qs (seen_in q vs) ++ rest) ++ more_seen) in
      let short : List ℕ → ℕ → ℕ = place_from 0 (seen_in_all qs (seen_in q vs) ++ rest) in
      ap (λ t. more t (all_numbered long qs)) (subst P (sym whole) (numbers_stay q vs (b.0 ++ rest) more_seen)) ∙ ap (more (numbered short q)) (all_numbers_stay qs (seen_in q vs) rest more_seen)

pub number_stays : (q : Named) (vs more_seen : List NamedVariable) → numbered (place_from 0 (seen_in q vs ++ more_seen)) q ≡ numbered (place_from 0 (seen_in q vs)) q
number_stays q vs more_seen =
    let P : List NamedVariable → Type 0 = λ us. numbered (place_from 0 (us ++ more_seen)) q ≡ numbered (place_from 0 us) q in
    subst P (append-nil (seen_in q vs)) (numbers_stay q vs [] more_seen)

list_numbers_stay : (qs : List Named) (vs rest more_seen : List NamedVariable)
    → map (numbered (place_from 0 ((seen_in_list qs vs ++ rest) ++ more_seen))) qs ≡ map (numbered (place_from 0 (seen_in_list qs vs ++ rest))) qs
list_numbers_stay [] vs rest more_seen = refl
list_numbers_stay (q ∷ qs) vs rest more_seen =
    let b = list_seen_more qs (seen_in q vs) in
    let whole : seen_in_list qs (seen_in q vs) ++ rest ≡ seen_in q vs ++ (b.0 ++ rest) = ap (λ us. us ++ rest) b.1 ∙ append_assoc (seen_in q vs) b.0 rest in
    let P : List NamedVariable → Type 0 = λ us. numbered (place_from 0 (us ++ more_seen)) q ≡ numbered (place_from 0 us) q in
    let long : List ℕ → ℕ → ℕ = place_from 0 ((seen_in_list qs (seen_in q vs) ++ rest) ++ more_seen) in
    let short : List ℕ → ℕ → ℕ = place_from 0 (seen_in_list qs (seen_in q vs) ++ rest) in
    ap (λ t. t ∷ map (numbered long) qs) (subst P (sym whole) (numbers_stay q vs (b.0 ++ rest) more_seen)) ∙ ap (λ ts. numbered short q ∷ ts) (list_numbers_stay qs (seen_in q vs) rest more_seen)

pub list_stays : (qs : List Named) (vs more_seen : List NamedVariable) → map (numbered (place_from 0 (seen_in_list qs vs ++ more_seen))) qs ≡ map (numbered (place_from 0 (seen_in_list qs vs))) qs
list_stays qs vs more_seen =
    let P : List NamedVariable → Type 0 = λ us. map (numbered (place_from 0 (us ++ more_seen))) qs ≡ map (numbered (place_from 0 us)) qs in
    subst P (append-nil (seen_in_list qs vs)) (list_numbers_stay qs vs [] more_seen)

-- the variables of names by their places, by their sorts
abbrev sorts_seen : List NamedVariable → List ℕ
sorts_seen vs = map (λ v. v.sort) vs

abbrev pub in_places : List NamedVariable → List plain.Variable
in_places vs = plain.numbered 0 (sorts_seen vs)

record Placed (k : ℕ) (n : List ℕ) (s : ℕ) (vs rest : List NamedVariable) : Type 0 where
  place : ℕ
  given : place_from k (vs ++ rest) n s ≡ k + place
  there : slice_get (sorts_seen vs) place ≡ Some s

place_there : (k : ℕ) (n : List ℕ) (s : ℕ) (vs rest : List NamedVariable) → list_any (is_named (named n s)) vs ≡ true → Placed k n s vs rest
place_there k n s [] rest h = absurd (cc)
place_there k n s (v ∷ vs) rest h = go (λ h. place_there (k + 1) n s vs rest h) (is_named (named n s) v) refl
  where
    go : (list_any (is_named (named n s)) vs ≡ true → Placed (k + 1) n s vs rest) → (b : Bool) → is_named (named n s) v ≡ b → Placed k n s (v ∷ vs) rest
    go ih true e = let z : k ≡ k + 0 = omega arith in record {
      place = 0;
      given = rw e z;
      there = ap Some (sym (eqb-true s v.sort (and_parts (pointwise nat_eq n v.name) (s == v.sort) e).1));
    }
    go ih false e = let r = ih (rw e at h) in let z : k + 1 + r.place ≡ k + suc r.place = omega arith in record {
      place = suc r.place;
      given = rw e (r.given ∙ z);
      there = r.there;
    }

place_new : (k : ℕ) (n : List ℕ) (s : ℕ) (vs rest : List NamedVariable) → list_any (is_named (named n s)) vs ≡ false → place_from k ((vs ++ named n s ∷ []) ++ rest) n s ≡ k + length vs
place_new k n s [] rest h = let z : k ≡ k + 0 = omega arith in rw (itself n s) z
place_new k n s (v ∷ vs) rest h = go (λ h. place_new (k + 1) n s vs rest h) (is_named (named n s) v) refl
  where
    go : (list_any (is_named (named n s)) vs ≡ false → place_from (k + 1) ((vs ++ named n s ∷ []) ++ rest) n s ≡ k + 1 + length vs) → (b : Bool) → is_named (named n s) v ≡ b
        → place_from k (((v ∷ vs) ++ named n s ∷ []) ++ rest) n s ≡ k + length (v ∷ vs)
    go ih true e = absurd (let z = rw e at h in cc)
    go ih false e = let z : k + 1 + length vs ≡ k + suc (length vs) = omega arith in rw e (ih (rw e at h) ∙ z)

variable_in_order : (n : List ℕ) (s : ℕ) (vs rest : List NamedVariable)
    → plain.seen_in (Var (place_from 0 (seen_name (named n s) vs ++ rest) n s) s) (in_places vs) ≡ in_places (seen_name (named n s) vs)
variable_in_order n s vs rest = go (list_any (is_named v) vs) refl
  where
    v : NamedVariable
    v = named n s

    see : ℕ → List plain.Variable
    see m = plain.seen_in (Var m s) (in_places vs)

    go : (b : Bool) → list_any (is_named v) vs ≡ b
        → see (place_from 0 ((if list_any (is_named v) vs then vs else vs ++ v ∷ []) ++ rest) n s) ≡ in_places (if list_any (is_named v) vs then vs else vs ++ v ∷ [])
    go true e =
        let r = place_there 0 n s vs rest e in
        let z : 0 + r.place ≡ r.place = omega arith in
        rw e (ap see (r.given ∙ z) ∙ seen_there r.place s (sorts_seen vs) r.there)
    go false e =
        let l : length vs ≡ length (sorts_seen vs) = sym (length-map vs (λ v. v.sort)) in
        let z : 0 + length vs ≡ length vs = omega arith in
        rw e (ap see (place_new 0 n s vs rest e ∙ z) ∙ seen_next (length vs) s (sorts_seen vs) l ∙ ap (plain.numbered 0) (sym (map-append (λ v. v.sort) vs (v ∷ []))))

-- numbered by a longer list, a term's variables are seen in order
mutual
  term_in_order : (q : Named) (vs rest : List NamedVariable) → plain.seen_in (numbered (place_from 0 (seen_in q vs ++ rest)) q) (in_places vs) ≡ in_places (seen_in q vs)
  term_in_order (Variable n s) vs rest = variable_in_order n s vs rest
  term_in_order (Applied f s qs) vs rest = terms_in_order qs vs rest

  terms_in_order : (qs : NamedList) (vs rest : List NamedVariable)
      → plain.seen_in_all (all_numbered (place_from 0 (seen_in_all qs vs ++ rest)) qs) (in_places vs) ≡ in_places (seen_in_all qs vs)
  terms_in_order no_terms vs rest = refl
  terms_in_order (terms q qs) vs rest =
      let b = all_seen_more qs (seen_in q vs) in
      let whole : seen_in_all qs (seen_in q vs) ++ rest ≡ seen_in q vs ++ (b.0 ++ rest) = ap (λ us. us ++ rest) b.1 ∙ append_assoc (seen_in q vs) b.0 rest in
      ap (plain.seen_in_all (all_numbered (place_from 0 (seen_in_all qs (seen_in q vs) ++ rest)) qs))
      (ap (λ us. plain.seen_in (numbered (place_from 0 us) q) (in_places vs)) whole ∙ term_in_order q vs (b.0 ++ rest))
      ∙ terms_in_order qs (seen_in q vs) rest

-- in front of a longer list of terms
pub first_in_order : (q : Named) (qs : List Named) (vs whole : List NamedVariable) → whole ≡ seen_in_list (q ∷ qs) vs
    → plain.seen_in (numbered (place_from 0 whole) q) (in_places vs) ≡ in_places (seen_in q vs)
first_in_order q qs vs whole e =
    let b = list_seen_more qs (seen_in q vs) in
    ap (λ us. plain.seen_in (numbered (place_from 0 us) q) (in_places vs)) (e ∙ b.1) ∙ term_in_order q vs b.0
