-- The numbers of variables are as low as tokens are few.
use Rattle.std.proofs.Common.{◌≡◌, ℕ, ◌+◌, ◌*◌, ◌≤◌, List, [], ◌∷◌, ◌++◌, length, Bool, true, false, nat_lt, if◌then◌else◌, Option, Some, None, refl, sym}
use Rattle.std.proofs.Common.{ap, ◌∙◌, subst, map, arith}
use Rattle.std.proofs.lemmas.List.{length-append, length-map}
use Rattle.std.proofs.lemmas.Grind.{common_steps}
use Rattle.std.specs.List.{AllByRecursion, list_any}
use Rattle.std.specs.Option.{option_or}
use Rattle.circ_term.specs.Tree.{Tree}
use Rattle.circ_theory.specs.Signature.{Signature}
use Rattle.circ_theory.specs.Theory.{Declared}
use Rattle.circ_theory.specs.Variables.{occurrences, all_occurrences}
use Rattle.circ_mixfix.specs.Answers.{long_count, first_long}
use Rattle.circ_mixfix.specs.Named.{Named, NamedList, NamedVariable, Variable, Applied, no_terms, terms, is_named, seen_in, seen_in_all, seen_in_list, numbered}
use Rattle.circ_mixfix.specs.Named.{all_numbered, place_from}
use Rattle.circ_mixfix.specs.Symbols.{Symbol, Word, Hole, symbols_of}
use Rattle.circ_mixfix.specs.Spells.{Spells, in_parentheses, a_variable, an_operator, SpellsSymbols, no_symbol, a_word, a_hole}
use Rattle.circ_mixfix.specs.Readings.{ReadsOne, SpellTwos, ReadsTwos}
use Rattle.circ_script.specs.Fit.{HasNumbersUpTo}

-- a place in a list, from k on
place_low : (vs : List NamedVariable) (k : ℕ) (n : List ℕ) (s : ℕ) → place_from k vs n s ≤ k + length vs
place_low [] k n s = omega arith
place_low (v ∷ vs) k n s = go (is_named (record { name = n; sort = s }) v) (place_low vs (k + 1) n s)
  where
    go : (b : Bool) → place_from (k + 1) vs n s ≤ k + 1 + length vs → (if b then k else place_from (k + 1) vs n s) ≤ k + length (v ∷ vs)
    go true h = omega arith
    go false h = omega arith

-- a variable more is one variable more at most
seen_one : (v : NamedVariable) (vs : List NamedVariable) (b : Bool) → length (if b then vs else vs ++ v ∷ []) ≤ length vs + 1
seen_one v vs true = omega arith
seen_one v vs false = simp length-append (omega arith)

module _ (sig : Signature) (vars : List Declared) (hole : Bool) where
  -- as many variables as tokens, at most
  mutual
    seen_few : (b s : ℕ) (ws : List (List ℕ)) (q : Named) (vs : List NamedVariable) → Spells sig vars hole b s ws q
        → length (seen_in q vs) ≤ length vs + length ws
    seen_few b s ws q vs (in_parentheses inner lo d e) =
        let h = seen_few _ s inner q vs d in
        let l : length ws ≡ 2 + length inner = ap length e ∙ simp length-append (omega arith) in
        omega (arith, h, l)
    seen_few b s ws q vs (a_variable w n lo v e z) =
        let l : length ws ≡ 1 = ap length e in
        let h : length (seen_in (Variable n s) vs) ≤ length vs + 1 = seen_one (record { name = n; sort = s }) vs
        (list_any (is_named (record { name = n; sort = s })) vs) in
        let k : length (seen_in q vs) ≡ length (seen_in (Variable n s) vs) = ap (λ x. length (seen_in x vs)) z in
        omega (arith, h, l, k)
    seen_few b s ws q vs (an_operator f o args l p e row z) =
        let h = row_few (symbols_of o) ws args vs row in
        let k : length (seen_in q vs) ≡ length (seen_in_all args vs) = ap (λ x. length (seen_in x vs)) z in
        omega (arith, h, k)

    row_few : (ps : List Symbol) (ws : List (List ℕ)) (args : NamedList) (vs : List NamedVariable) → SpellsSymbols sig vars hole ps ws args
        → length (seen_in_all args vs) ≤ length vs + length ws
    row_few [] ws no_terms vs (no_symbol e) = omega arith
    row_few (Word w ∷ ps) ws args vs (a_word rest r e) =
        let h = row_few ps rest args vs r in
        let l : length ws ≡ 1 + length rest = ap length e ∙ omega arith in
        omega (arith, h, l)
    row_few (Hole s b ∷ ps) ws (terms q args) vs (a_hole first rest d r e) =
        let h = seen_few b s first q vs d in
        let k = row_few ps rest args (seen_in q vs) r in
        let l : length ws ≡ length first + length rest = ap length e ∙ length-append first rest in
        omega (arith, h, k, l)

all_append : {A : Type 0} (P : A → Type 0) (xs ys : List A) → AllByRecursion P xs → AllByRecursion P ys → AllByRecursion P (xs ++ ys)
all_append P [] ys h k = k
all_append P (x ∷ xs) ys h k = (h.0, all_append P xs ys h.1 k)

module _ (ν : List ℕ → ℕ → ℕ) (most : ℕ) (low : (n : List ℕ) (s : ℕ) → ν n s ≤ most) where
  mutual
    numbered_low : (q : Named) → HasNumbersUpTo most (numbered ν q)
    numbered_low (Variable n s) = (low n s, tt)
    numbered_low (Applied f s qs) = all_low qs

    all_low : (qs : NamedList) → AllByRecursion (λ v. v.number ≤ most) (all_occurrences (all_numbered ν qs))
    all_low no_terms = tt
    all_low (terms q qs) = all_append (λ v. v.number ≤ most) (occurrences (numbered ν q)) (all_occurrences (all_numbered ν qs)) (numbered_low q) (all_low qs)

  list_low : (qs : List Named) → AllByRecursion (HasNumbersUpTo most) (map (numbered ν) qs)
  list_low [] = tt
  list_low (q ∷ qs) = (numbered_low q, list_low qs)

few_tokens : (ws : List (List ℕ)) → long_count ws ≡ None → length ws ≤ 256
few_tokens ws e = go (nat_lt 256 (length ws)) refl e
  where
    go : (b : Bool) → nat_lt 256 (length ws) ≡ b → (if b then Some (length ws) else None) ≡ None → length ws ≤ 256
    go true t f = absurd (cc)
    go false t f = grind (arith, common_steps)

first_few : (ws : List (List ℕ)) (lists : List (List (List ℕ))) → first_long (ws ∷ lists) ≡ None → (length ws ≤ 256) × (first_long lists ≡ None)
first_few ws lists e = go (long_count ws) refl e
  where
    go : (o : Option ℕ) → long_count ws ≡ o → option_or o (first_long lists) ≡ None → (length ws ≤ 256) × (first_long lists ≡ None)
    go None p f = (few_tokens ws p, f)
    go (Some n) p f = absurd (cc)

pub one_low : (sig : Signature) (vars : List Declared) (ws : List (List ℕ)) (t : Tree) → long_count ws ≡ None → ReadsOne sig vars false ws t
    → HasNumbersUpTo 256 t
one_low sig vars ws t e r =
    let few = few_tokens ws e in
    let h = seen_few sig vars false _ r.sort ws r.spelled [] r.spells in
    subst (HasNumbersUpTo 256) (sym r.is)
    (numbered_low (place_from 0 (seen_in r.spelled [])) 256 (λ n s. let p = place_low (seen_in r.spelled []) 0 n s in omega (arith, p, h, few)) r.spelled)

module _ (sig : Signature) (vars : List Declared) where
  -- of each list, at most 256 variables
  lists_few : (lists : List (List (List ℕ))) (qs : List Named) (vs : List NamedVariable) → first_long lists ≡ None → SpellTwos sig vars lists qs
      → length (seen_in_list qs vs) ≤ length vs + 256 * length qs
  lists_few [] [] vs e h = omega arith
  lists_few [] (q ∷ qs) vs e h = absurd h
  lists_few (l ∷ []) qs vs e h = absurd h
  lists_few (l ∷ r ∷ lists) [] vs e h = absurd h
  lists_few (l ∷ r ∷ lists) (q ∷ []) vs e h = absurd h
  lists_few (l ∷ r ∷ lists) (q ∷ u ∷ qs) vs e h =
      let a = first_few l (r ∷ lists) e in
      let b = first_few r lists a.1 in
      let m = a.0 in
      let n = b.0 in
      let x = seen_few sig vars false _ h.0.sort l q vs h.0.spells_left in
      let y = seen_few sig vars false _ h.0.sort r u (seen_in q vs) h.0.spells_right in
      let z = lists_few lists qs (seen_in u (seen_in q vs)) b.1 h.1 in
      omega (arith, m, n, x, y, z)

  pub twos_low : (lists : List (List (List ℕ))) (ts : List Tree) → first_long lists ≡ None → ReadsTwos sig vars lists ts
      → AllByRecursion (HasNumbersUpTo (256 * length ts)) ts
  twos_low lists ts e r =
      let vs = seen_in_list r.spelled [] in
      let h = lists_few lists r.spelled [] e r.spells in
      let n : length ts ≡ length r.spelled = ap length r.are ∙ length-map r.spelled (numbered (place_from 0 vs)) in
      let low : (n : List ℕ) (s : ℕ) → place_from 0 vs n s ≤ 256 * length ts = λ m s. let p = place_low vs 0 m s in omega (arith, p, h, n) in
      subst (AllByRecursion (HasNumbersUpTo (256 * length ts))) (sym r.are) (list_low (place_from 0 vs) (256 * length ts) low r.spelled)
