-- What tokens read as is well-sorted.
use Rattle.std.proofs.Common.{◌≡◌, ◌++◌, ℕ, zero, suc, List, map, [], ◌∷◌, length, Bool, true, false, sym, ◌∙◌, ap, subst, refl, arith}
use Rattle.std.specs.List.{list_any, AllByRecursion, Contains}
use Rattle.std.proofs.lemmas.Option.{slice_get_within}
use Rattle.circ_term.specs.Tree.{Tree, sort_of}
use Rattle.circ_form.specs.declared.forms.Piece.{Piece}
use Rattle.circ_form.specs.declared.forms.Piece.TheVariants as piece
use Rattle.circ_theory.specs.declared.parts.Side.{Side}
use Rattle.circ_theory.specs.Signature as signature
use Rattle.circ_theory.specs.Signature.{Signature, Operator, IsSort, IsWellSorted}
use Rattle.circ_theory.specs.Theory.{Theory, Pair, Declared, pair_with, IsWellSortedPair}
use Rattle.circ_theory.specs.WellFormed.{IsWellFormed}
use Rattle.circ_form.specs.Form.{is_hole_piece, hole_count}
use Rattle.circ_theory.specs.Operators.{IsOperator}
use Rattle.circ_mixfix.specs.Named.{Named, NamedList, no_terms, terms, numbered, all_numbered, place_from, seen_in, seen_in_list}
use Rattle.circ_mixfix.specs.Symbols.{Symbol, Word, Hole, every, inner_symbols, form_symbols, more_arguments, arguments, symbols_of}
use Rattle.circ_mixfix.specs.Spells.{IsVariable, a_declared_one, a_written_one, the_hole, Spells, SpellsSymbols, in_parentheses, a_variable, an_operator, no_symbol, a_word, a_hole}
use Rattle.circ_mixfix.specs.Readings.{numbers_of, ReadsOne, ReadsPair, SpellTwos, ReadsTwos}
use Rattle.circ_mixfix.specs.Answers.{HaveSorts}
use Rattle.circ_mixfix.specs.Found.{sides_of_pairs, AreTwosSorted}
use Rattle.circ_mixfix.proofs.SymbolWords.{no_holes, some_hole, fits, one_more}
use Rattle.circ_theory.proofs.Rewriting.{contains_at}

-- the sorts of the holes
abbrev hole_sorts : List Symbol → List ℕ
hole_sorts [] = []
hole_sorts (Word w ∷ ps) = hole_sorts ps
hole_sorts (Hole s b ∷ ps) = s ∷ hole_sorts ps

sorts_append : (ps qs : List Symbol) → hole_sorts (ps ++ qs) ≡ hole_sorts ps ++ hole_sorts qs
sorts_append [] qs = refl
sorts_append (Word w ∷ ps) qs = sorts_append ps qs
sorts_append (Hole s b ∷ ps) qs = ap (λ x. s ∷ x) (sorts_append ps qs)

inner_sorts : (p : ℕ) (side : Side) (ps : List Piece) (ss : List ℕ) → hole_count ps ≡ length ss → hole_sorts (inner_symbols p side ps ss) ≡ ss
inner_sorts p side [] [] e = refl
inner_sorts p side [] (s ∷ ss) e = absurd (omega arith)
inner_sorts p side (piece.Word w ∷ ps) ss e = inner_sorts p side ps ss e
inner_sorts p side (piece.Hole ∷ ps) [] e = refl
inner_sorts p side (piece.Hole ∷ ps) (s ∷ ss) e = let n = one_more ps in ap (λ x. s ∷ x) (inner_sorts p side ps ss (omega arith))

form_sorts : (p : ℕ) (side : Side) (ps : List Piece) (ss : List ℕ) → hole_count ps ≡ length ss → hole_sorts (form_symbols p side ps ss) ≡ ss
form_sorts p side [] ss e = inner_sorts p side [] ss e
form_sorts p side (piece.Word w ∷ ps) ss e = inner_sorts p side (piece.Word w ∷ ps) ss e
form_sorts p side (piece.Hole ∷ ps) [] e = refl
form_sorts p side (piece.Hole ∷ ps) (s ∷ ss) e = let n = one_more ps in ap (λ x. s ∷ x) (inner_sorts p side ps ss (omega arith))

more_sorts : (ss : List ℕ) → hole_sorts (more_arguments ss) ≡ ss
more_sorts [] = refl
more_sorts (s ∷ ss) = ap (λ x. s ∷ x) (more_sorts ss)

argument_sorts : (ss : List ℕ) → hole_sorts (arguments ss) ≡ ss
argument_sorts [] = refl
argument_sorts (s ∷ ss) = ap (λ x. s ∷ x) (more_sorts ss)

-- the holes of an operator have the sorts of its arguments
symbol_sorts : (sig : Signature) (o : Operator) → IsOperator sig o → hole_sorts (symbols_of o) ≡ o.args
symbol_sorts sig o h = go (list_any is_hole_piece o.form) refl
  where
    go : (b : Bool) → list_any is_hole_piece o.form ≡ b → hole_sorts (symbols_of o) ≡ o.args
    go true e = rw e (form_sorts o.prec o.side o.form o.args (fits o h.fits (some_hole o.form e)))
    go false e =
        rw e (sorts_append (inner_symbols 0 o.side o.form []) (arguments o.args)
        ∙ ap (λ x. x ++ hole_sorts (arguments o.args)) (inner_sorts 0 o.side o.form [] (no_holes o.form e)) ∙ argument_sorts o.args)

module _ (th : Theory) (vars : List Declared) (hole : Bool) (formed : IsWellFormed th) (sorts : HaveSorts th.signature vars) (ν : List ℕ → ℕ → ℕ) where
  abbrev sig : Signature
  sig = th.signature

  variable_sort : (w n : List ℕ) (s : ℕ) → IsVariable sig vars hole w n s → IsSort sig s
  variable_sort w n s (a_declared_one c h a b) = sorts _ c
  variable_sort w n s (a_written_one sort l e h k m i star) = slice_get_within sig.sorts s sort l
  variable_sort w n s (the_hole sort t l e k m) = slice_get_within sig.sorts s sort l

  abbrev Sorted : ℕ → Named → Type 0
  Sorted s q = (sort_of (numbered ν q) ≡ s) × IsWellSorted sig (numbered ν q)

  mutual
    spelled_sorted : (b s : ℕ) (us : List (List ℕ)) (q : Named) → Spells sig vars hole b s us q → Sorted s q
    spelled_sorted b s us q (in_parentheses inner lo d e) = spelled_sorted every s inner q d
    spelled_sorted b s us q (a_variable w n lo v e z) = let P : Named → Type 0 = Sorted s in subst P (sym z) (refl, variable_sort w n s v)
    spelled_sorted b s us q (an_operator f o args l p e row z) =
        let P : Named → Type 0 = Sorted s in
        let is = symbol_sorts sig o (formed.operators o (contains_at sig.ops f o l)) in
        let Q : List ℕ → Type 0 = signature.HaveSorts sig (all_numbered ν args) in
        subst P (sym z) (sym e, (o, l, refl, subst Q is (row_sorted (symbols_of o) us args row)))

    row_sorted : (ps : List Symbol) (us : List (List ℕ)) (args : NamedList) → SpellsSymbols sig vars hole ps us args → signature.HaveSorts sig (all_numbered ν args) (hole_sorts ps)
    row_sorted [] us no_terms (no_symbol e) = tt
    row_sorted (Word w ∷ ps) us args (a_word rest r e) = row_sorted ps rest args r
    row_sorted (Hole s b ∷ ps) us (terms q args) (a_hole first rest d r e) =
        let x = spelled_sorted b s first q d in
        (x.0, x.1, row_sorted ps rest args r)

pub one_sorted : (th : Theory) (vars : List Declared) (hole : Bool) (tokens : List (List ℕ)) (t : Tree) → IsWellFormed th → HaveSorts th.signature vars → ReadsOne th.signature vars hole tokens t
    → IsWellSorted th.signature t
one_sorted th vars hole tokens t f h r =
    let P : Tree → Type 0 = IsWellSorted th.signature in
    subst P (sym r.is) (spelled_sorted th vars hole f h (numbers_of hole (seen_in r.spelled [])) every r.sort tokens r.spelled r.spells).1

-- what is true of each item, by recursion, is true of each that is contained
contained_all : {X : Type 0} (P : X → Type 0) (xs : List X) → AllByRecursion P xs → (x : X) → Contains xs x → P x
contained_all P [] h x c = absurd (let l = c.1 in omega arith)
contained_all P (y ∷ ys) h x (zero, l, e) = subst P e h.0
contained_all P (y ∷ ys) h x (suc k, l, e) = contained_all P ys h.1 x (k, omega arith, e)

module _ (th : Theory) (vars : List Declared) (formed : IsWellFormed th) (sorts : HaveSorts th.signature vars) (ν : List ℕ → ℕ → ℕ) where
  record SortedTwos (qs : List Named) : Type 0 where
    pairs : List Pair
    are : map (numbered ν) qs ≡ sides_of_pairs pairs
    sorted : AllByRecursion (IsWellSortedPair th.signature) pairs

  sorted_twos : (lists : List (List (List ℕ))) (qs : List Named) → SpellTwos th.signature vars lists qs → SortedTwos qs
  sorted_twos [] [] h = record { pairs = []; are = refl; sorted = tt }
  sorted_twos [] (q ∷ qs) h = absurd h
  sorted_twos (l ∷ []) qs h = absurd h
  sorted_twos (l ∷ r ∷ lists) [] h = absurd h
  sorted_twos (l ∷ r ∷ lists) (q ∷ []) h = absurd h
  sorted_twos (l ∷ r ∷ lists) (q ∷ u ∷ qs) h =
      let ih = sorted_twos lists qs h.1 in
      let a = spelled_sorted th vars false formed sorts ν every h.0.sort l q h.0.spells_left in
      let b = spelled_sorted th vars false formed sorts ν every h.0.sort r u h.0.spells_right in
      record {
        pairs = pair_with (numbered ν q) (numbered ν u) ∷ ih.pairs;
        are = ap (λ z. numbered ν q ∷ numbered ν u ∷ z) ih.are;
        sorted = (record { left = a.1; right = b.1; same_sort = b.0 ∙ sym a.0 }, ih.sorted);
      }

pub twos_sorted : (th : Theory) (vars : List Declared) (lists : List (List (List ℕ))) (ts : List Tree) → IsWellFormed th → HaveSorts th.signature vars
    → ReadsTwos th.signature vars lists ts → AreTwosSorted th.signature ts
twos_sorted th vars lists ts f h r =
    let s = sorted_twos th vars f h (place_from 0 (seen_in_list r.spelled [])) lists r.spelled r.spells in
    (s.pairs, r.are ∙ s.are, contained_all (IsWellSortedPair th.signature) s.pairs s.sorted)

pub pair_sorted : (th : Theory) (vars : List Declared) (left right : List (List ℕ)) (t u : Tree) → IsWellFormed th → HaveSorts th.signature vars → ReadsPair th.signature vars left right t u
    → IsWellSortedPair th.signature (pair_with t u)
pair_sorted th vars left right t u f h r =
    let ν = place_from 0 (seen_in r.second (seen_in r.first [])) in
    let a = spelled_sorted th vars false f h ν every r.sort left r.first r.spells_first in
    let b = spelled_sorted th vars false f h ν every r.sort right r.second r.spells_second in
    let P : Tree → Type 0 = IsWellSorted th.signature in
    record { left = subst P (sym r.first_is) a.1; right = subst P (sym r.second_is) b.1; same_sort = ap sort_of r.second_is ∙ b.0 ∙ sym a.0 ∙ ap sort_of (sym r.first_is) }
