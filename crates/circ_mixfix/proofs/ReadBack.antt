-- Where operators have words of their own, the tokens of a printed term spell this term alone.
use Rattle.std.proofs.Common.{◌≡◌, ◌<◌, ◌≤◌, ◌+◌, ◌++◌, ◌==◌, ◌&&◌, ℕ, suc, List, [], ◌∷◌, length, get_or, Bool, true, false, Some, None, codes, sym, ◌∙◌, ap, subst, refl, arith, append_assoc, append-nil}
use Rattle.std.specs.Prelude.{if◌then◌else◌}
use Rattle.std.specs.List.{slice_get, list_any, AllByRecursion, Contains}
use Rattle.std.specs.Option.{unwrap_or}
use Rattle.std.specs.Fmt.{decimal}
use Rattle.std.specs.Str.Parse.{digits_value}
use Rattle.std.proofs.lemmas.List.{append_cancel_left}
use Rattle.std.proofs.lemmas.Fmt.{decimal_is_IsNumeral}
use Rattle.std.proofs.lemmas.Bool.{eqb-true, and_parts}
use Rattle.std.proofs.lemmas.Option.{slice_get-get_or, get_or_from_slice_get}
use Rattle.circ_lexer.specs.TokenList.{AreTokens}
use Rattle.circ_lexer.proofs.Texts.{tokens_once}
use Rattle.circ_term.specs.Tree.{Tree, Trees, Var, App, none, more, sort_of}
use Rattle.circ_form.specs.declared.forms.Piece.{Piece}
use Rattle.circ_form.specs.declared.forms.Piece.TheVariants as piece
use Rattle.circ_form.specs.Form.{is_hole_piece, is_word, hole_count}
use Rattle.circ_theory.specs.declared.parts.Side.{Side}
use Rattle.circ_theory.specs.Signature.{Signature, Operator, IsSort, IsWellSorted, HaveSorts}
use Rattle.circ_theory.specs.Theory.{Declared}
use Rattle.circ_theory.specs.Names.{AreDifferent}
use Rattle.circ_theory.specs.Operators.{IsOperator, AreDifferentOperators}
use Rattle.circ_mixfix.specs.Named.{Named, NamedList, Variable, Applied, no_terms, terms}
use Rattle.circ_mixfix.specs.Symbols.{every, inner_symbols, form_symbols, more_arguments, arguments, symbols_of}
use Rattle.circ_mixfix.specs.Spells.{HasNoColon, IsVariable, Spells, SpellsSymbols, in_parentheses, a_variable, an_operator, no_symbol, a_word, a_hole}
use Rattle.circ_mixfix.specs.Printing.{printed_name, text_of_term}
use Rattle.circ_mixfix.specs.Printed.{IsPrintable, IsName, spelled_name, named_term, named_terms}
use Rattle.circ_mixfix.specs.OwnWords.{HolesApart, HaveOwnWords, IsReadBack, AreNoWords, IsNumbered, AreAllNumbered}
use Rattle.circ_mixfix.proofs.Cut.{prints_tokens}
use Rattle.circ_mixfix.proofs.FormWords.{decimal_plain}
use Rattle.circ_mixfix.proofs.Names.{before_colon, no_colon, colon_at}
use Rattle.circ_mixfix.proofs.Written.{gives_written, gives_hole}
use Rattle.circ_mixfix.proofs.SymbolWords.{one_more, some_hole, fits, form_word}
use Rattle.circ_mixfix.proofs.Levels.{is_open, is_comma, step, walk, counted, count, step_open, step_close, step_close_nothing, step_over, step_inside, step_stops, counted_over, walk_next, walk_on, deeper, same_front, count_both, none_stops, stops_none, none_wrapped}
use Rattle.circ_mixfix.proofs.PrintedTokens.{fill, more_tokens, arguments_tokens, application_tokens, operator_tokens, tokens_of_term, tokens_of_terms}
use Rattle.circ_mixfix.proofs.Printed.{spelled, not_star, first_of}
use Rattle.circ_mixfix.proofs.SpelledLevels.{AllInner, contains_inner, is_word_of, word_there, word_known, tested, some_tested, own_tested, colon_apart, listed, operator_inner, variable_inner, no_variable, spells_walk, word_counts, inner_count, plain_count, operator_count}

-- ---- lists of tokens that lead back outside

abbrev pub AllWalk : (List ℕ → Bool) → List (List (List ℕ)) → Type 0
AllWalk p xs = AllByRecursion (λ x. walk p 0 x ≡ Some 0) xs

pub fill_inside : (p : List ℕ → Bool) (ps : List Piece) (xs : List (List (List ℕ))) → AllInner ps → AllWalk is_comma xs → walk p 1 (fill ps xs) ≡ Some 1
fill_inside p [] xs i h = refl
fill_inside p (piece.Word w ∷ ps) xs i h = walk_next p 1 1 w (fill ps xs) (step_inside p 0 w i.0.0 i.0.1) ∙ fill_inside p ps xs i.1 h
fill_inside p (piece.Hole ∷ ps) [] i h = fill_inside p ps [] i h
fill_inside p (piece.Hole ∷ ps) (x ∷ xs) i h = walk_on p 1 1 x (fill ps xs) (deeper is_comma p 0 0 x h.0) ∙ fill_inside p ps xs i h.1

pub more_inside : (p : List ℕ → Bool) (xs : List (List (List ℕ))) → AllWalk is_comma xs → walk p 1 (more_tokens xs) ≡ Some 0
more_inside p [] h = walk_next p 1 0 (codes ")") [] (step_close p 0)
more_inside p (x ∷ xs) h =
    walk_next p 1 1 (codes ",") (x ++ more_tokens xs) (step_inside p 0 (codes ",") refl refl) ∙ walk_on p 1 1 x (more_tokens xs) (deeper is_comma p 0 0 x h.0) ∙ more_inside p xs h.1

arguments_walk : (p : List ℕ → Bool) (xs : List (List (List ℕ))) → AllWalk is_comma xs → walk p 0 (arguments_tokens xs) ≡ Some 0
arguments_walk p [] h = refl
arguments_walk p (x ∷ xs) h =
    walk_next p 0 1 (codes "(") (x ++ more_tokens xs) (step_open p 0) ∙ walk_on p 1 1 x (more_tokens xs) (deeper is_comma p 0 0 x h.0) ∙ more_inside p xs h.1

words_walk : (p : List ℕ → Bool) (ps : List Piece) (rest : List (List ℕ)) → AllInner ps → list_any is_hole_piece ps ≡ false → ((w : List ℕ) → Contains ps (piece.Word w) → p w ≡ false)
    → walk p 0 (fill ps [] ++ rest) ≡ walk p 0 rest
words_walk p [] rest i h q = refl
words_walk p (piece.Hole ∷ ps) rest i h q = absurd (cc)
words_walk p (piece.Word w ∷ ps) rest i h q =
    walk_next p 0 0 w (fill ps [] ++ rest) (step_over p 0 w i.0.0 i.0.1 (q w (0, omega arith, refl)))
    ∙ words_walk p ps rest i.1 h (λ v c. q v (suc c.0, omega arith, c.2))

pub fill_outside : (ps : List Piece) (xs : List (List (List ℕ))) → AllInner ps → AllWalk is_comma xs → walk is_comma 0 (fill ps xs) ≡ Some 0
fill_outside [] xs i h = refl
fill_outside (piece.Word w ∷ ps) xs i h = walk_next is_comma 0 0 w (fill ps xs) (step_over is_comma 0 w i.0.0 i.0.1 i.0.2) ∙ fill_outside ps xs i.1 h
fill_outside (piece.Hole ∷ ps) [] i h = fill_outside ps [] i h
fill_outside (piece.Hole ∷ ps) (x ∷ xs) i h = walk_on is_comma 0 0 x (fill ps xs) h.0 ∙ fill_outside ps xs i h.1

-- the words of a form count, and the arguments do not
fill_count : (p : List ℕ → Bool) (ps : List Piece) (xs : List (List (List ℕ))) → AllInner ps → AllWalk p xs → count p 0 (fill ps xs) ≡ tested p ps
fill_count p [] xs i h = refl
fill_count p (piece.Word w ∷ ps) xs i h = let a = word_counts p w (fill ps xs) i.0 in let b = fill_count p ps xs i.1 h in omega (arith, a, b)
fill_count p (piece.Hole ∷ ps) [] i h = fill_count p ps [] i h
fill_count p (piece.Hole ∷ ps) (x ∷ xs) i h =
    let a = count_both p p 0 0 x (fill ps xs) h.0 in
    let b = stops_none p 0 0 x h.0 in
    let c = fill_count p ps xs i h.1 in
    omega (arith, a, b, c)

words_count : (p : List ℕ → Bool) (ps : List Piece) (rest : List (List ℕ)) → AllInner ps → list_any is_hole_piece ps ≡ false → count p 0 (fill ps [] ++ rest) ≡ tested p ps + count p 0 rest
words_count p [] rest i h = omega arith
words_count p (piece.Hole ∷ ps) rest i h = absurd (cc)
words_count p (piece.Word w ∷ ps) rest i h = let a = word_counts p w (fill ps [] ++ rest) i.0 in let b = words_count p ps rest i.1 h in omega (arith, a, b)

nothing_behind : (us rest : List (List ℕ)) → us ++ rest ≡ [] → rest ≡ []
nothing_behind [] rest e = e
nothing_behind (u ∷ us) rest e = absurd (cc)

-- lists with one last token
same_but_last : (us vs : List (List ℕ)) (x : List ℕ) → us ++ x ∷ [] ≡ vs ++ x ∷ [] → us ≡ vs
same_but_last [] [] x e = refl
same_but_last [] (v ∷ vs) x e = let t : vs ++ x ∷ [] ≡ [] = cc in absurd (let z = nothing_behind vs (x ∷ []) t in cc)
same_but_last (u ∷ us) [] x e = let t : us ++ x ∷ [] ≡ [] = cc in absurd (let z = nothing_behind us (x ∷ []) t in cc)
same_but_last (u ∷ us) (v ∷ vs) x e =
    let h : u ≡ v = cc in
    let t : us ++ x ∷ [] ≡ vs ++ x ∷ [] = cc in
    ap (λ w. w ∷ us) h ∙ ap (λ ws. v ∷ ws) (same_but_last us vs x t)

-- a list that begins with the words of a form begins with no parenthesis
pub plain_front : (ps : List Piece) (rest us : List (List ℕ)) → AllInner ps → list_any is_hole_piece ps ≡ false → list_any is_word ps ≡ true → fill ps [] ++ rest ≡ codes "(" ∷ us → ⊥
plain_front [] rest us i h w e = absurd (cc)
plain_front (piece.Hole ∷ ps) rest us i h w e = absurd (cc)
plain_front (piece.Word v ∷ ps) rest us i h w e = let q : v ≡ codes "(" = cc in absurd (let z : true ≡ false = ap is_open (sym q) ∙ i.0.0 in cc)

-- one token of such a list is a word
plain_word : (ps : List Piece) (rest : List (List ℕ)) (v : List ℕ) → list_any is_hole_piece ps ≡ false → list_any is_word ps ≡ true → fill ps [] ++ rest ≡ v ∷ [] → Contains ps (piece.Word v)
plain_word [] rest v h w e = absurd (cc)
plain_word (piece.Hole ∷ ps) rest v h w e = absurd (cc)
plain_word (piece.Word u ∷ ps) rest v h w e = let q : u ≡ v = cc in (0, omega arith, ap piece.Word q)

comma_first : (us : List (List ℕ)) → codes "," ∷ us ≡ codes ")" ∷ [] → ⊥
comma_first us e = absurd (cc)

close_first : (us vs : List (List ℕ)) → codes ")" ∷ us ≡ codes "," ∷ vs → ⊥
close_first us vs e = absurd (cc)

-- what stands behind an argument
record Stop (us : List (List ℕ)) : Type 0 where
  first : List ℕ
  others : List (List ℕ)
  are : us ≡ first ∷ others
  stops : step is_comma 0 first ≡ None

more_stop : (xs : List (List (List ℕ))) → Stop (more_tokens xs)
more_stop [] = record { first = codes ")"; others = []; are = refl; stops = step_close_nothing is_comma }
more_stop (x ∷ xs) = record { first = codes ","; others = x ++ more_tokens xs; are = refl; stops = step_stops is_comma (codes ",") refl refl refl }

-- ---- printed variables

printed_plain : (hole : Bool) (n : ℕ) → HasNoColon (printed_name hole n)
printed_plain hole n = go (hole && (n == 0))
  where
    go : (b : Bool) → HasNoColon (if b then codes "*" else codes "V" ++ decimal n)
    go true = refl
    go false = (decimal_plain n).1

-- a printed variable has its colon behind its name
pub printed_colon : (sig : Signature) (hole : Bool) (n s : ℕ) → before_colon (printed_name hole n ++ codes ":" ++ unwrap_or (slice_get sig.sorts s) []) ≡ Some (printed_name hole n)
printed_colon sig hole n s =
    let sort = unwrap_or (slice_get sig.sorts s) [] in
    ap before_colon (append_assoc (printed_name hole n) (codes ":") sort) ∙ colon_at (printed_name hole n) sort (printed_plain hole n)

module _ (sig : Signature) (hole : Bool) (vars : List Declared) (ops : (o : Operator) → Contains sig.ops o → IsOperator sig o) (print : IsPrintable sig)
    (own : HaveOwnWords sig) (sorts : AreDifferent sig.sorts) (different : AreDifferentOperators sig.ops) (none_of : AreNoWords sig vars) where
  abbrev T : Tree → List (List ℕ)
  T t = tokens_of_term sig hole t

  abbrev Ts : Trees → List (List (List ℕ))
  Ts ts = tokens_of_terms sig hole ts

  -- the tokens spell the term alone
  abbrev Back : Tree → Type 0
  Back t = (b s : ℕ) (q : Named) → Spells sig vars hole b s (T t) q → (s ≡ sort_of t) × (q ≡ named_term hole t)

  abbrev AllBack : Trees → Type 0
  AllBack none = Unit {0}
  AllBack (more t ts) = Back t × AllBack ts

  walks : (b s : ℕ) (ts : List (List ℕ)) (q : Named) → Spells sig vars hole b s ts q → walk is_comma 0 ts ≡ Some 0
  walks b s ts q k = spells_walk sig hole vars ops none_of b s ts q k 0

  pub balanced : (t : Tree) → IsWellSorted sig t → walk is_comma 0 (T t) ≡ Some 0
  balanced t w = walks 1 (sort_of t) (T t) (named_term hole t) ((spelled sig hole ops print t w).spells vars 1 (omega arith))

  pub all_balanced : (ts : Trees) (ss : List ℕ) → HaveSorts sig ts ss → AllWalk is_comma (Ts ts)
  all_balanced none ss h = tt
  all_balanced (more t ts) [] h = absurd h
  all_balanced (more t ts) (s ∷ ss) h = (balanced t h.1, all_balanced ts ss h.2)

  -- a test that no variable passes, and no word of an operator without holes
  record IsQuiet (p : List ℕ → Bool) : Type 0 where
    colon : (w n : List ℕ) → before_colon w ≡ Some n → p w ≡ false
    words : (o : Operator) (w : List ℕ) → Contains sig.ops o → list_any is_hole_piece o.form ≡ false → Contains o.form (piece.Word w) → p w ≡ false

  abbrev token : ℕ → ℕ → List ℕ
  token n s = printed_name hole n ++ codes ":" ++ unwrap_or (slice_get sig.sorts s) []

  token_is : (n s : ℕ) → token n s ≡ printed_name hole n ++ 58 ∷ unwrap_or (slice_get sig.sorts s) []
  token_is n s = append_assoc (printed_name hole n) (codes ":") (unwrap_or (slice_get sig.sorts s) [])

  token_colon : (n s : ℕ) → before_colon (token n s) ≡ Some (printed_name hole n)
  token_colon n s = printed_colon sig hole n s

  quiet_walk : (p : List ℕ → Bool) → IsQuiet p → (t : Tree) → IsWellSorted sig t → walk p 0 (T t) ≡ Some 0
  quiet_walk p q (Var n s) w =
      let c = token_colon n s in
      walk_next p 0 0 (token n s) [] (step_over p 0 (token n s) (colon_apart (token n s) _ (codes "(") c refl) (colon_apart (token n s) _ (codes ")") c refl) (q.colon (token n s) _ c))
  quiet_walk p q (App f s ts) w = ap (λ r. walk p 0 (operator_tokens r (Ts ts))) w.1 ∙ go (list_any is_hole_piece o.form) refl
    where
      o : Operator
      o = w.0

      inner : AllInner o.form
      inner = operator_inner sig hole vars ops none_of f o w.1

      args : AllWalk is_comma (Ts ts)
      args = all_balanced ts o.args w.3

      go : (b : Bool) → list_any is_hole_piece o.form ≡ b
          → walk p 0 (if b then codes "(" ∷ (fill o.form (Ts ts) ++ codes ")" ∷ []) else fill o.form [] ++ arguments_tokens (Ts ts)) ≡ Some 0
      go true e =
          walk_next p 0 1 (codes "(") (fill o.form (Ts ts) ++ codes ")" ∷ []) (step_open p 0)
          ∙ walk_on p 1 1 (fill o.form (Ts ts)) (codes ")" ∷ []) (fill_inside p o.form (Ts ts) inner args) ∙ walk_next p 1 0 (codes ")") [] (step_close p 0)
      go false e =
          words_walk p o.form (arguments_tokens (Ts ts)) inner e (λ v c. q.words o v (listed sig hole vars ops none_of f o w.1) e c)
          ∙ arguments_walk p (Ts ts) args

  all_quiet : (p : List ℕ → Bool) → IsQuiet p → (ts : Trees) (ss : List ℕ) → HaveSorts sig ts ss → AllWalk p (Ts ts)
  all_quiet p q none ss h = tt
  all_quiet p q (more t ts) [] h = absurd h
  all_quiet p q (more t ts) (s ∷ ss) h = (quiet_walk p q t h.1, all_quiet p q ts ss h.2)

  -- a token with a colon is no word
  no_colon_word : (f : ℕ) (o : Operator) → slice_get sig.ops f ≡ Some o → (w n : List ℕ) → before_colon w ≡ Some n → is_word_of o.form w ≡ false
  no_colon_word f o l w n h = go (is_word_of o.form w) refl
    where
      go : (b : Bool) → is_word_of o.form w ≡ b → is_word_of o.form w ≡ false
      go false e = e
      go true e =
          let i = contains_inner o.form w (operator_inner sig hole vars ops none_of f o l) (word_there o.form w e) in
          absurd (let z : Some n ≡ None = sym h ∙ no_colon w i.3 in cc z)

  -- the words of an operator with holes are such a test
  form_quiet : (f : ℕ) (o : Operator) → slice_get sig.ops f ≡ Some o → list_any is_hole_piece o.form ≡ true → IsQuiet (is_word_of o.form)
  form_quiet f o l has = record { colon = no_colon_word f o l; words = words }
    where
      words : (p : Operator) (w : List ℕ) → Contains sig.ops p → list_any is_hole_piece p.form ≡ false → Contains p.form (piece.Word w) → is_word_of o.form w ≡ false
      words p w c e k = go (is_word_of o.form w) refl
        where
          go : (b : Bool) → is_word_of o.form w ≡ b → is_word_of o.form w ≡ false
          go false g = g
          go true g =
              let same = own.own o p w (listed sig hole vars ops none_of f o l) c (word_there o.form w g) k in
              absurd (let z : true ≡ false = sym has ∙ ap (list_any is_hole_piece) same ∙ e in cc)

  -- nothing stands outside of the parentheses of a printed application
  none_in_parentheses : (p : List ℕ → Bool) (o : Operator) (ts : Trees) → AllInner o.form → AllWalk is_comma (Ts ts) → count p 0 (codes "(" ∷ (fill o.form (Ts ts) ++ codes ")" ∷ [])) ≡ 0
  none_in_parentheses p o ts i h = none_wrapped is_comma p (fill o.form (Ts ts)) (fill_outside o.form (Ts ts) i h)

  -- what a printed variable spells
  one_variable : (n s : ℕ) → IsSort sig s → (x : List ℕ) (r : ℕ) → IsVariable sig vars hole (token n s) x r → (x ≡ spelled_name hole n) × (r ≡ s)
  one_variable n s k x r v = go (hole && (n == 0)) refl
    where
      name : List ℕ
      name = get_or sig.sorts s []

      at : slice_get sig.sorts s ≡ Some name
      at = slice_get-get_or sig.sorts s [] k

      is : IsName name
      is = print.sorts name (s, k, get_or_from_slice_get sig.sorts s name name at)

      whole : token n s ≡ printed_name hole n ++ 58 ∷ name
      whole = token_is n s ∙ ap (λ o. printed_name hole n ++ 58 ∷ unwrap_or o []) at

      of : (b : Bool) → (hole && (n == 0)) ≡ b → IsVariable sig vars hole ((if b then codes "*" else codes "V" ++ decimal n) ++ 58 ∷ name) x r
      of b e = let P : List ℕ → Type 0 = λ w. IsVariable sig vars hole w x r in subst P (whole ∙ ap (λ c. (if c then codes "*" else codes "V" ++ decimal n) ++ 58 ∷ name) e) v

      go : (b : Bool) → (hole && (n == 0)) ≡ b → (x ≡ (if hole && (n == 0) then [] else codes "V" ++ decimal n)) × (r ≡ s)
      go true e = rw e ((gives_hole sig vars hole (codes "*") name refl s sorts at is.some is.no_colon refl (first_of hole (n == 0) e)).1 x r (of true e))
      go false e = rw e ((gives_written sig vars hole (codes "V" ++ decimal n) name (decimal_plain n).1 s sorts at is.some is.no_colon (λ z. cc) (not_star (decimal n))).1 x r (of false e))

  -- ---- arguments in parentheses

  more_row_stop : (ss : List ℕ) (ts : List (List ℕ)) (args : NamedList) → SpellsSymbols sig vars hole (more_arguments ss) ts args → Stop ts
  more_row_stop [] ts args (a_word rest r e) = record { first = codes ")"; others = rest; are = e; stops = step_close_nothing is_comma }
  more_row_stop (s ∷ ss) ts args (a_word rest r e) = record { first = codes ","; others = rest; are = e; stops = step_stops is_comma (codes ",") refl refl refl }

  -- the first argument ends where it was printed to end
  argument_ends : (t : Tree) (xs : List (List (List ℕ))) (ss : List ℕ) (b s : ℕ) (first rest : List (List ℕ)) (q : Named) (args : NamedList) → IsWellSorted sig t → Spells sig vars hole b s first q
      → SpellsSymbols sig vars hole (more_arguments ss) rest args → T t ++ more_tokens xs ≡ first ++ rest → T t ≡ first
  argument_ends t xs ss b s first rest q args w k r e =
      let x = more_stop xs in
      let y = more_row_stop ss rest args r in
      same_front is_comma 0 (T t) first x.others y.others x.first y.first (balanced t w) (walks b s first q k) x.stops y.stops
      (ap (λ us. T t ++ us) (sym x.are) ∙ e ∙ ap (λ us. first ++ us) y.are)

  more_back : (ts : Trees) (ss os : List ℕ) (us : List (List ℕ)) (args : NamedList) → AllBack ts → HaveSorts sig ts os → us ≡ more_tokens (Ts ts)
      → SpellsSymbols sig vars hole (more_arguments ss) us args → (ss ≡ os) × (args ≡ named_terms hole ts)
  more_back none [] [] us no_terms back h e (a_word rest (no_symbol z) y) = (refl, refl)
  more_back none [] [] us (terms q args) back h e (a_word rest r y) = elim r [ ]
  more_back none [] (o ∷ os) us args back h e r = absurd h
  more_back none (s ∷ ss) os us args back h e (a_word rest r y) = absurd (comma_first rest (sym y ∙ e))
  more_back (more t ts) ss [] us args back h e r = absurd h
  more_back (more t ts) [] (o ∷ os) us args back h e (a_word rest r y) = absurd (close_first rest _ (sym y ∙ e))
  more_back (more t ts) (s ∷ ss) (o ∷ os) us no_terms back h e (a_word rest r y) = elim r [ ]
  more_back (more t ts) (s ∷ ss) (o ∷ os) us (terms q args) back h e (a_word rest (a_hole first others k r z) y) =
      let whole : codes "," ∷ (T t ++ more_tokens (Ts ts)) ≡ codes "," ∷ (first ++ others) = sym e ∙ y ∙ ap (λ vs. codes "," ∷ vs) z in
      let same : T t ++ more_tokens (Ts ts) ≡ first ++ others = cc in
      let ends = argument_ends t (Ts ts) ss every s first others q args h.1 k r same in
      let P : List (List ℕ) → Type 0 = λ vs. Spells sig vars hole every s vs q in
      let here = back.0 every s q (subst P (sym ends) k) in
      let behind = append_cancel_left (T t) others (more_tokens (Ts ts)) (ap (λ vs. vs ++ others) ends ∙ sym same) in
      let there = more_back ts ss os others args back.1 h.2 behind r in
      (ap (λ n. n ∷ ss) (here.0 ∙ h.0) ∙ ap (λ ns. o ∷ ns) there.0, ap (λ x. terms x args) here.1 ∙ ap (terms (named_term hole t)) there.1)

  arguments_back : (ts : Trees) (ss os : List ℕ) (us : List (List ℕ)) (args : NamedList) → AllBack ts → HaveSorts sig ts os → us ≡ arguments_tokens (Ts ts)
      → SpellsSymbols sig vars hole (arguments ss) us args → (ss ≡ os) × (args ≡ named_terms hole ts)
  arguments_back none [] [] us no_terms back h e (no_symbol z) = (refl, refl)
  arguments_back none [] [] us (terms q args) back h e r = elim r [ ]
  arguments_back none [] (o ∷ os) us args back h e r = absurd h
  arguments_back none (s ∷ ss) os us args back h e (a_word rest r y) = absurd (let z : codes "(" ∷ rest ≡ [] = sym y ∙ e in cc)
  arguments_back (more t ts) ss [] us args back h e r = absurd h
  arguments_back (more t ts) [] (o ∷ os) us no_terms back h e (no_symbol y) = absurd (let z : [] ≡ codes "(" ∷ (T t ++ more_tokens (Ts ts)) = sym y ∙ e in cc)
  arguments_back (more t ts) [] (o ∷ os) us (terms q args) back h e r = elim r [ ]
  arguments_back (more t ts) (s ∷ ss) (o ∷ os) us no_terms back h e (a_word rest r y) = elim r [ ]
  arguments_back (more t ts) (s ∷ ss) (o ∷ os) us (terms q args) back h e (a_word rest (a_hole first others k r z) y) =
      let whole : codes "(" ∷ (T t ++ more_tokens (Ts ts)) ≡ codes "(" ∷ (first ++ others) = sym e ∙ y ∙ ap (λ vs. codes "(" ∷ vs) z in
      let same : T t ++ more_tokens (Ts ts) ≡ first ++ others = cc in
      let ends = argument_ends t (Ts ts) ss every s first others q args h.1 k r same in
      let P : List (List ℕ) → Type 0 = λ vs. Spells sig vars hole every s vs q in
      let here = back.0 every s q (subst P (sym ends) k) in
      let behind = append_cancel_left (T t) others (more_tokens (Ts ts)) (ap (λ vs. vs ++ others) ends ∙ sym same) in
      let there = more_back ts ss os others args back.1 h.2 behind r in
      (ap (λ n. n ∷ ss) (here.0 ∙ h.0) ∙ ap (λ ns. o ∷ ns) there.0, ap (λ x. terms x args) here.1 ∙ ap (terms (named_term hole t)) there.1)

  -- behind the words of a form without holes
  words_back : (side : Side) (ps : List Piece) (ts : Trees) (ss os : List ℕ) (us : List (List ℕ)) (args : NamedList) → list_any is_hole_piece ps ≡ false → AllBack ts → HaveSorts sig ts os
      → us ≡ fill ps [] ++ arguments_tokens (Ts ts) → SpellsSymbols sig vars hole (inner_symbols 0 side ps [] ++ arguments ss) us args → (ss ≡ os) × (args ≡ named_terms hole ts)
  words_back side [] ts ss os us args none_there back h e r = arguments_back ts ss os us args back h e r
  words_back side (piece.Hole ∷ ps) ts ss os us args none_there back h e r = absurd (cc)
  words_back side (piece.Word w ∷ ps) ts ss os us args none_there back h e (a_word rest r y) =
      let z : w ∷ rest ≡ w ∷ (fill ps [] ++ arguments_tokens (Ts ts)) = sym y ∙ e in
      let same : rest ≡ fill ps [] ++ arguments_tokens (Ts ts) = cc in
      words_back side ps ts ss os rest args none_there back h same r

  -- ---- arguments in holes

  module _ (f : ℕ) (o : Operator) (l : slice_get sig.ops f ≡ Some o) (has : list_any is_hole_piece o.form ≡ true) where
    abbrev p : List ℕ → Bool
    p = is_word_of o.form

    -- the words are the form's
    abbrev AreOwn : List Piece → Type 0
    AreOwn ps = (w : List ℕ) → Contains ps (piece.Word w) → p w ≡ true

    later_own : (q : Piece) (ps : List Piece) → AreOwn (q ∷ ps) → AreOwn ps
    later_own q ps h w c = h w (suc c.0, omega arith, c.2)

    -- the first argument ends where it was printed to end, and the others begin there
    hole_ends : (prec : ℕ) (side : Side) (ps : List Piece) (t : Tree) (ts : Trees) (ss : List ℕ) (b s : ℕ) (first rest : List (List ℕ)) (q : Named) (args : NamedList) → AllInner ps
        → HolesApart (piece.Hole ∷ ps) → AreOwn ps → hole_count ps ≤ length ss → walk p 0 (T t) ≡ Some 0 → AllWalk p (Ts ts) → Spells sig vars hole b s first q
        → SpellsSymbols sig vars hole (inner_symbols prec side ps ss) rest args → T t ++ fill ps (Ts ts) ≡ first ++ rest → T t ≡ first
    hole_ends prec side [] t ts ss b s first rest q no_terms i apart are n w ws k (no_symbol z) e =
        sym (append-nil (T t)) ∙ e ∙ ap (λ us. first ++ us) z ∙ append-nil first
    hole_ends prec side [] t ts ss b s first rest q (terms x args) i apart are n w ws k r e = elim r [ ]
    hole_ends prec side (piece.Hole ∷ ps) t ts ss b s first rest q args i apart are n w ws k r e = absurd apart
    hole_ends prec side (piece.Word v ∷ ps) t ts ss b s first rest q args i apart are n w ws k (a_word others r z) e =
        let whole = count_both p p 0 0 (T t) (fill (piece.Word v ∷ ps) (Ts ts)) w in
        let nothing = stops_none p 0 0 (T t) w in
        let words = fill_count p (piece.Word v ∷ ps) (Ts ts) i ws in
        let split = ap (count p 0) e ∙ count_both is_comma p 0 0 first rest (walks b s first q k) in
        let low = inner_count sig hole vars ops none_of p prec side (piece.Word v ∷ ps) ss rest args i n (a_word others r z) in
        let empty : count p 0 first ≡ 0 = omega (arith, whole, nothing, words, split, low) in
        let stop = step_stops p v i.0.0 i.0.1 (are v (0, omega arith, refl)) in
        same_front p 0 (T t) first (fill ps (Ts ts)) others v v w (none_stops is_comma p 0 0 first (walks b s first q k) empty) stop stop (e ∙ ap (λ us. first ++ us) z)

    later_apart : (ps : List Piece) → HolesApart (piece.Hole ∷ ps) → HolesApart ps
    later_apart [] h = tt
    later_apart (piece.Hole ∷ ps) h = absurd h
    later_apart (piece.Word w ∷ ps) h = h

    -- one argument, and what the others are
    hole_back : (prec : ℕ) (side : Side) (ps : List Piece) (t : Tree) (ts : Trees) (ss os : List ℕ) (x b s : ℕ) (first rest : List (List ℕ)) (q : Named) (args : NamedList) → AllInner ps
        → HolesApart (piece.Hole ∷ ps) → AreOwn ps → hole_count ps ≤ length ss → AllBack (more t ts) → HaveSorts sig (more t ts) (x ∷ os) → AllWalk p (Ts (more t ts))
        → Spells sig vars hole b s first q → SpellsSymbols sig vars hole (inner_symbols prec side ps ss) rest args → T t ++ fill ps (Ts ts) ≡ first ++ rest
        → ((us : List (List ℕ)) (zs : NamedList) → us ≡ fill ps (Ts ts) → SpellsSymbols sig vars hole (inner_symbols prec side ps ss) us zs → (ss ≡ os) × (zs ≡ named_terms hole ts))
        → (s ∷ ss ≡ x ∷ os) × (terms q args ≡ terms (named_term hole t) (named_terms hole ts))
    hole_back prec side ps t ts ss os x b s first rest q args i apart are n back h ws k r same others =
        let ends = hole_ends prec side ps t ts ss b s first rest q args i apart are n ws.0 ws.1 k r same in
        let P : List (List ℕ) → Type 0 = λ vs. Spells sig vars hole b s vs q in
        let here = back.0 b s q (subst P (sym ends) k) in
        let behind = append_cancel_left (T t) rest (fill ps (Ts ts)) (ap (λ vs. vs ++ rest) ends ∙ sym same) in
        let there = others rest args behind r in
        (ap (λ y. y ∷ ss) (here.0 ∙ h.0) ∙ ap (λ ys. x ∷ ys) there.0, ap (λ y. terms y args) here.1 ∙ ap (terms (named_term hole t)) there.1)

    holes_back : (prec : ℕ) (side : Side) (ps : List Piece) (ts : Trees) (ss os : List ℕ) (us : List (List ℕ)) (args : NamedList) → AllInner ps → HolesApart ps → AreOwn ps → AllBack ts
        → HaveSorts sig ts os → AllWalk p (Ts ts) → hole_count ps ≡ length ss → hole_count ps ≡ length os → us ≡ fill ps (Ts ts)
        → SpellsSymbols sig vars hole (inner_symbols prec side ps ss) us args → (ss ≡ os) × (args ≡ named_terms hole ts)
    holes_back prec side [] none [] [] us no_terms i apart are back h ws n m e (no_symbol z) = (refl, refl)
    holes_back prec side [] none [] [] us (terms q args) i apart are back h ws n m e r = elim r [ ]
    holes_back prec side [] none [] (x ∷ os) us args i apart are back h ws n m e r = absurd h
    holes_back prec side [] none (s ∷ ss) os us args i apart are back h ws n m e r = absurd (omega arith)
    holes_back prec side [] (more t ts) ss [] us args i apart are back h ws n m e r = absurd h
    holes_back prec side [] (more t ts) ss (x ∷ os) us args i apart are back h ws n m e r = absurd (omega arith)
    holes_back prec side (piece.Word w ∷ ps) ts ss os us args i apart are back h ws n m e (a_word rest r z) =
        let y : w ∷ rest ≡ w ∷ fill ps (Ts ts) = sym z ∙ e in
        let same : rest ≡ fill ps (Ts ts) = cc in
        holes_back prec side ps ts ss os rest args i.1 apart (later_own (piece.Word w) ps are) back h ws n m same r
    holes_back prec side (piece.Hole ∷ ps) ts [] os us args i apart are back h ws n m e r = let k = one_more ps in absurd (omega (arith, k))
    holes_back prec side (piece.Hole ∷ ps) ts (s ∷ ss) [] us args i apart are back h ws n m e r = let k = one_more ps in absurd (omega (arith, k))
    holes_back prec side (piece.Hole ∷ ps) none (s ∷ ss) (x ∷ os) us args i apart are back h ws n m e r = absurd h
    holes_back prec side (piece.Hole ∷ ps) (more t ts) (s ∷ ss) (x ∷ os) us no_terms i apart are back h ws n m e r = elim r [ ]
    holes_back prec side (piece.Hole ∷ ps) (more t ts) (s ∷ ss) (x ∷ os) us (terms q args) i apart are back h ws n m e (a_hole first rest k r z) =
        let c = one_more ps in
        hole_back prec side ps t ts ss os x _ s first rest q args i apart (later_own piece.Hole ps are) (omega (arith, c)) back h ws k r (sym e ∙ z)
        (λ vs zs y j. holes_back prec side ps ts ss os vs zs i (later_apart ps apart) (later_own piece.Hole ps are) back.1 h.2 ws.1 (omega (arith, c)) (omega (arith, c)) y j)

    form_back : (prec : ℕ) (side : Side) (ps : List Piece) (ts : Trees) (ss os : List ℕ) (us : List (List ℕ)) (args : NamedList) → AllInner ps → HolesApart ps → AreOwn ps → AllBack ts
        → HaveSorts sig ts os → AllWalk p (Ts ts) → hole_count ps ≡ length ss → hole_count ps ≡ length os → us ≡ fill ps (Ts ts)
        → SpellsSymbols sig vars hole (form_symbols prec side ps ss) us args → (ss ≡ os) × (args ≡ named_terms hole ts)
    form_back prec side [] ts ss os us args i apart are back h ws n m e r = holes_back prec side [] ts ss os us args i apart are back h ws n m e r
    form_back prec side (piece.Word w ∷ ps) ts ss os us args i apart are back h ws n m e r = holes_back prec side (piece.Word w ∷ ps) ts ss os us args i apart are back h ws n m e r
    form_back prec side (piece.Hole ∷ ps) ts [] os us args i apart are back h ws n m e r = let k = one_more ps in absurd (omega (arith, k))
    form_back prec side (piece.Hole ∷ ps) ts (s ∷ ss) [] us args i apart are back h ws n m e r = let k = one_more ps in absurd (omega (arith, k))
    form_back prec side (piece.Hole ∷ ps) none (s ∷ ss) (x ∷ os) us args i apart are back h ws n m e r = absurd h
    form_back prec side (piece.Hole ∷ ps) (more t ts) (s ∷ ss) (x ∷ os) us no_terms i apart are back h ws n m e r = elim r [ ]
    form_back prec side (piece.Hole ∷ ps) (more t ts) (s ∷ ss) (x ∷ os) us (terms q args) i apart are back h ws n m e (a_hole first rest k r z) =
        let c = one_more ps in
        hole_back prec side ps t ts ss os x _ s first rest q args i apart (later_own piece.Hole ps are) (omega (arith, c)) back h ws k r (sym e ∙ z)
        (λ vs zs y j. holes_back prec side ps ts ss os vs zs i (later_apart ps apart) (later_own piece.Hole ps are) back.1 h.2 ws.1 (omega (arith, c)) (omega (arith, c)) y j)

  -- ---- operators

  -- what is read with the form and the argument sorts of an operator is read by it
  same_operator : (f g : ℕ) (o p : Operator) (ts : Trees) (args : NamedList) (q : Named) (s : ℕ) → slice_get sig.ops f ≡ Some o → slice_get sig.ops g ≡ Some p → p.form ≡ o.form
      → (p.args ≡ o.args) × (args ≡ named_terms hole ts) → s ≡ p.result → q ≡ Applied g p.result args → (s ≡ o.result) × (q ≡ Applied f o.result (named_terms hole ts))
  same_operator f g o p ts args q s l m form are r z =
      let number : g ≡ f = different g f p o m l form are.0 in
      let both : Some p ≡ Some o = sym m ∙ ap (slice_get sig.ops) number ∙ l in
      let same : p ≡ o = cc both in
      (r ∙ ap (λ x. x.result) same, z ∙ ap (Applied g p.result) are.1 ∙ ap (λ x. Applied g x.result (named_terms hole ts)) same ∙ ap (λ n. Applied n o.result (named_terms hole ts)) number)

  -- a word of one operator that is one of another's
  shared : (f g : ℕ) (o p : Operator) → slice_get sig.ops f ≡ Some o → slice_get sig.ops g ≡ Some p → 0 < tested (is_word_of p.form) o.form → p.form ≡ o.form
  shared f g o p l m h =
      let k = some_tested (is_word_of p.form) o.form h in
      own.own p o k.0 (listed sig hole vars ops none_of g p m) (listed sig hole vars ops none_of f o l) (word_there p.form k.0 k.2) k.1

  words_of : (f : ℕ) (o : Operator) → slice_get sig.ops f ≡ Some o → 0 < tested (is_word_of o.form) o.form
  words_of f o l = own_tested o.form (ops o (listed sig hole vars ops none_of f o l)).is_form

  has_word : (f : ℕ) (o : Operator) → slice_get sig.ops f ≡ Some o → list_any is_word o.form ≡ true
  has_word f o l = form_word o.form (ops o (listed sig hole vars ops none_of f o l)).is_form

  -- an operator's symbols, by whether its form has holes
  symbols_plain : (p : Operator) (us : List (List ℕ)) (args : NamedList) → list_any is_hole_piece p.form ≡ false → SpellsSymbols sig vars hole (symbols_of p) us args
      → SpellsSymbols sig vars hole (inner_symbols 0 p.side p.form [] ++ arguments p.args) us args
  symbols_plain p us args e r = rw e at r

  symbols_holed : (p : Operator) (us : List (List ℕ)) (args : NamedList) → list_any is_hole_piece p.form ≡ true → SpellsSymbols sig vars hole (symbols_of p) us args
      → SpellsSymbols sig vars hole (form_symbols p.prec p.side p.form p.args) us args
  symbols_holed p us args e r = rw e at r

  plain_back : (f : ℕ) (o : Operator) (ts : Trees) (us : List (List ℕ)) (b s : ℕ) (q : Named) → slice_get sig.ops f ≡ Some o → list_any is_hole_piece o.form ≡ false → AllBack ts
      → HaveSorts sig ts o.args → us ≡ fill o.form [] ++ arguments_tokens (Ts ts) → Spells sig vars hole b s us q → (s ≡ o.result) × (q ≡ Applied f o.result (named_terms hole ts))
  plain_back f o ts us b s q l e back h is (in_parentheses inner lo k y) =
      absurd (plain_front o.form (arguments_tokens (Ts ts)) (inner ++ codes ")" ∷ []) (operator_inner sig hole vars ops none_of f o l) e (has_word f o l) (sym is ∙ y))
  plain_back f o ts us b s q l e back h is (a_variable w n lo v y z) =
      absurd (no_variable sig hole vars ops none_of o w n s (listed sig hole vars ops none_of f o l) (plain_word o.form (arguments_tokens (Ts ts)) w e (has_word f o l) (sym is ∙ y)) v)
  plain_back f o ts us b s q l e back h is (an_operator g p args m lo z row y) =
      let r : List ℕ → Bool = is_word_of p.form in
      let low = operator_count sig hole vars ops none_of r g p us args m row in
      let some = words_of g p m in
      let here = ap (count r 0) is ∙ words_count r o.form (arguments_tokens (Ts ts)) (operator_inner sig hole vars ops none_of f o l) e in
      let nothing = stops_none r 0 0 (arguments_tokens (Ts ts)) (arguments_walk r (Ts ts) (all_balanced ts o.args h)) in
      let form = shared f g o p l m (omega (arith, low, some, here, nothing)) in
      let plain : list_any is_hole_piece p.form ≡ false = ap (list_any is_hole_piece) form ∙ e in
      let P : List Piece → Type 0 = λ ps. SpellsSymbols sig vars hole (inner_symbols 0 p.side ps [] ++ arguments p.args) us args in
      same_operator f g o p ts args q s l m form
      (words_back p.side o.form ts p.args o.args us args e back h is (subst P form (symbols_plain p us args plain row))) z y

  -- the inside of the parentheses
  inside_back : (f : ℕ) (o : Operator) (ts : Trees) (us : List (List ℕ)) (b s : ℕ) (q : Named) → slice_get sig.ops f ≡ Some o → list_any is_hole_piece o.form ≡ true → AllBack ts
      → HaveSorts sig ts o.args → us ≡ fill o.form (Ts ts) → Spells sig vars hole b s us q → (s ≡ o.result) × (q ≡ Applied f o.result (named_terms hole ts))
  inside_back f o ts us b s q l has back h is k = go k
    where
      inner : AllInner o.form
      inner = operator_inner sig hole vars ops none_of f o l

      args_quiet : AllWalk (is_word_of o.form) (Ts ts)
      args_quiet = all_quiet (is_word_of o.form) (form_quiet f o l has) ts o.args h

      counts : count (is_word_of o.form) 0 us ≡ tested (is_word_of o.form) o.form
      counts = ap (count (is_word_of o.form) 0) is ∙ fill_count (is_word_of o.form) o.form (Ts ts) inner args_quiet

      fit : hole_count o.form ≡ length o.args
      fit = fits o (ops o (listed sig hole vars ops none_of f o l)).fits (some_hole o.form has)

      by_form : (g : ℕ) (p : Operator) (args : NamedList) → slice_get sig.ops g ≡ Some p → p.form ≡ o.form → s ≡ p.result → SpellsSymbols sig vars hole (symbols_of p) us args
          → q ≡ Applied g p.result args → (s ≡ o.result) × (q ≡ Applied f o.result (named_terms hole ts))
      by_form g p args m form z row y =
          let holed : list_any is_hole_piece p.form ≡ true = ap (list_any is_hole_piece) form ∙ has in
          let P : List Piece → Type 0 = λ ps. SpellsSymbols sig vars hole (form_symbols p.prec p.side ps p.args) us args in
          let n : hole_count o.form ≡ length p.args = ap hole_count (sym form) ∙ fits p (ops p (listed sig hole vars ops none_of g p m)).fits (some_hole p.form holed) in
          same_operator f g o p ts args q s l m form
          (form_back f o l has p.prec p.side o.form ts p.args o.args us args inner (own.apart o (listed sig hole vars ops none_of f o l)) (λ w c. word_known o.form w c) back h args_quiet n fit is
          (subst P form (symbols_holed p us args holed row))) z y

      shared_form : (g : ℕ) (p : Operator) (args : NamedList) → slice_get sig.ops g ≡ Some p → SpellsSymbols sig vars hole (symbols_of p) us args
          → (b : Bool) → list_any is_hole_piece p.form ≡ b → p.form ≡ o.form
      shared_form g p args m row true e =
          let low = operator_count sig hole vars ops none_of (is_word_of p.form) g p us args m row in
          let some = words_of g p m in
          let here = ap (count (is_word_of p.form) 0) is ∙ fill_count (is_word_of p.form) o.form (Ts ts) inner (all_quiet (is_word_of p.form) (form_quiet g p m e) ts o.args h) in
          shared f g o p l m (omega (arith, low, some, here))
      shared_form g p args m row false e =
          let there = plain_count sig hole vars ops none_of (is_word_of o.form) p.side p.form p.args us args (operator_inner sig hole vars ops none_of g p m) e (symbols_plain p us args e row) in
          let some = words_of f o l in
          sym (shared g f p o m l (omega (arith, counts, there, some)))

      go : Spells sig vars hole b s us q → (s ≡ o.result) × (q ≡ Applied f o.result (named_terms hole ts))
      go (in_parentheses inside lo k y) =
          let nothing = ap (count (is_word_of o.form) 0) y ∙ none_wrapped is_comma (is_word_of o.form) inside (walks every s inside q k) in
          let some = words_of f o l in
          absurd (omega (arith, counts, nothing, some))
      go (a_variable w n lo v y z) = word (is_word_of o.form w) refl
        where
          word : (b : Bool) → is_word_of o.form w ≡ b → (s ≡ o.result) × (q ≡ Applied f o.result (named_terms hole ts))
          word true e = absurd (no_variable sig hole vars ops none_of o w n s (listed sig hole vars ops none_of f o l) (word_there o.form w e) v)
          word false e =
              let i = variable_inner sig hole vars ops none_of w n s v in
              let one = ap (count (is_word_of o.form) 0) y in
              let nothing : counted (is_word_of o.form) 0 w ≡ 0 = counted_over (is_word_of o.form) w i.0 i.1 ∙ ap (λ c. if c then 1 else 0) e in
              let some = words_of f o l in
              absurd (omega (arith, counts, one, nothing, some))
      go (an_operator g p args m lo z row y) = by_form g p args m (shared_form g p args m row (list_any is_hole_piece p.form) refl) z row y

  holed_back : (f : ℕ) (o : Operator) (ts : Trees) (us : List (List ℕ)) (b s : ℕ) (q : Named) → slice_get sig.ops f ≡ Some o → list_any is_hole_piece o.form ≡ true → AllBack ts
      → HaveSorts sig ts o.args → us ≡ codes "(" ∷ (fill o.form (Ts ts) ++ codes ")" ∷ []) → Spells sig vars hole b s us q → (s ≡ o.result) × (q ≡ Applied f o.result (named_terms hole ts))
  holed_back f o ts us b s q l has back h is (in_parentheses inner lo k y) =
      let z : codes "(" ∷ (inner ++ codes ")" ∷ []) ≡ codes "(" ∷ (fill o.form (Ts ts) ++ codes ")" ∷ []) = sym y ∙ is in
      let same : inner ++ codes ")" ∷ [] ≡ fill o.form (Ts ts) ++ codes ")" ∷ [] = cc in
      inside_back f o ts inner every s q l has back h (same_but_last inner (fill o.form (Ts ts)) (codes ")") same) k
  holed_back f o ts us b s q l has back h is (a_variable w n lo v y z) =
      let e : w ∷ [] ≡ codes "(" ∷ (fill o.form (Ts ts) ++ codes ")" ∷ []) = sym y ∙ is in
      let t : fill o.form (Ts ts) ++ codes ")" ∷ [] ≡ [] = cc in
      absurd (let x = nothing_behind (fill o.form (Ts ts)) (codes ")" ∷ []) t in cc)
  holed_back f o ts us b s q l has back h is (an_operator g p args m lo z row y) =
      let r : List ℕ → Bool = is_word_of p.form in
      let low = operator_count sig hole vars ops none_of r g p us args m row in
      let some = words_of g p m in
      let nothing = ap (count r 0) is ∙ none_in_parentheses r o ts (operator_inner sig hole vars ops none_of f o l) (all_balanced ts o.args h) in
      absurd (omega (arith, low, some, nothing))

  variable_back : (n s : ℕ) → IsSort sig s → (us : List (List ℕ)) (b r : ℕ) (q : Named) → us ≡ token n s ∷ [] → Spells sig vars hole b r us q → (r ≡ s) × (q ≡ Variable (spelled_name hole n) s)
  variable_back n s k us b r q is (in_parentheses inner lo i y) =
      let e : codes "(" ∷ (inner ++ codes ")" ∷ []) ≡ token n s ∷ [] = sym y ∙ is in
      let t : inner ++ codes ")" ∷ [] ≡ [] = cc in
      absurd (let x = nothing_behind inner (codes ")" ∷ []) t in cc)
  variable_back n s k us b r q is (a_variable w x lo v y z) =
      let e : w ∷ [] ≡ token n s ∷ [] = sym y ∙ is in
      let same : w ≡ token n s = cc in
      let P : List ℕ → Type 0 = λ u. IsVariable sig vars hole u x r in
      let once = one_variable n s k x r (subst P same v) in
      (once.1, z ∙ ap (λ u. Variable u r) once.0 ∙ ap (Variable (spelled_name hole n)) once.1)
  variable_back n s k us b r q is (an_operator g p args m lo z row y) =
      let t : List ℕ → Bool = is_word_of p.form in
      let low = operator_count sig hole vars ops none_of t g p us args m row in
      let some = words_of g p m in
      let c = token_colon n s in
      let other : is_word_of p.form (token n s) ≡ false = no_colon_word g p m (token n s) (printed_name hole n) c in
      let one = ap (count t 0) is in
      let nothing : counted t 0 (token n s) ≡ 0 =
      counted_over t (token n s) (colon_apart (token n s) _ (codes "(") c refl) (colon_apart (token n s) _ (codes ")") c refl) ∙ ap (λ b. if b then 1 else 0) other in
      absurd (omega (arith, low, some, one, nothing))

  mutual
    pub back : (t : Tree) → IsWellSorted sig t → Back t
    back (Var n s) w b r q k = variable_back n s w (T (Var n s)) b r q refl k
    back (App f s ts) w b r q k = application (all_back ts w.0.args w.3) (list_any is_hole_piece w.0.form) refl
      where
        o : Operator
        o = w.0

        tokens : T (App f s ts) ≡ application_tokens o (Ts ts)
        tokens = ap (λ x. operator_tokens x (Ts ts)) w.1

        named : (r ≡ o.result) × (q ≡ Applied f o.result (named_terms hole ts)) → (r ≡ s) × (q ≡ Applied f s (named_terms hole ts))
        named h = (h.0 ∙ w.2, h.1 ∙ ap (λ x. Applied f x (named_terms hole ts)) w.2)

        application : AllBack ts → (c : Bool) → list_any is_hole_piece o.form ≡ c → (r ≡ s) × (q ≡ Applied f s (named_terms hole ts))
        application are true e = named (holed_back f o ts (T (App f s ts)) b r q w.1 e are w.3 (rw e at tokens) k)
        application are false e = named (plain_back f o ts (T (App f s ts)) b r q w.1 e are w.3 (rw e at tokens) k)

    all_back : (ts : Trees) (ss : List ℕ) → HaveSorts sig ts ss → AllBack ts
    all_back none ss h = tt
    all_back (more t ts) [] h = absurd h
    all_back (more t ts) (s ∷ ss) h = (back t h.1, all_back ts ss h.2)

-- ---- printed texts

-- the text is cut into these tokens and no others
cut_so : (sig : Signature) (hole : Bool) (t : Tree) (ws : List (List ℕ)) → IsReadBack sig → IsWellSorted sig t → AreTokens (text_of_term sig hole t) ws → ws ≡ tokens_of_term sig hole t
cut_so sig hole t ws ok w cut =
    tokens_once (text_of_term sig hole t) (tokens_of_term sig hole t) ws (prints_tokens _ (tokens_of_term sig hole t) (spelled sig hole ok.operators ok.printable t w).prints) cut

pub spelled_once : (sig : Signature) (vars : List Declared) (hole : Bool) (t : Tree) (ws : List (List ℕ)) (b s : ℕ) (q : Named) → IsReadBack sig → AreNoWords sig vars → IsWellSorted sig t
    → AreTokens (text_of_term sig hole t) ws → Spells sig vars hole b s ws q → (s ≡ sort_of t) × (q ≡ named_term hole t)
spelled_once sig vars hole t ws b s q ok none_of w cut k =
    let P : List (List ℕ) → Type 0 = λ us. Spells sig vars hole b s us q in
    back sig hole vars ok.operators ok.printable ok.words ok.sorts ok.different none_of t w b s q (subst P (cut_so sig hole t ws ok w cut) k)

-- names give their variables back

same_decimal : (m n : ℕ) → m < 4294967296 → n < 4294967296 → decimal m ≡ decimal n → m ≡ n
same_decimal m n a b e = sym (decimal_is_IsNumeral m (omega arith)).1 ∙ ap (digits_value 10) e ∙ (decimal_is_IsNumeral n (omega arith)).1

same_name : (hole : Bool) (m n : ℕ) → m < 4294967296 → n < 4294967296 → spelled_name hole m ≡ spelled_name hole n → m ≡ n
same_name hole m n a b e = go (hole && (m == 0)) (hole && (n == 0)) refl refl e
  where
    go : (x y : Bool) → (hole && (m == 0)) ≡ x → (hole && (n == 0)) ≡ y → (if x then [] else codes "V" ++ decimal m) ≡ (if y then [] else codes "V" ++ decimal n) → m ≡ n
    go true true f g h = eqb-true m 0 (and_parts hole (m == 0) f).1 ∙ sym (eqb-true n 0 (and_parts hole (n == 0) g).1)
    go true false f g h = absurd (cc)
    go false true f g h = absurd (cc)
    go false false f g h = let z : decimal m ≡ decimal n = cc in same_decimal m n a b z

mutual
  same_term : (hole : Bool) (t u : Tree) → IsNumbered t → IsNumbered u → named_term hole t ≡ named_term hole u → t ≡ u
  same_term hole (Var m r) (Var n s) a b e =
      let x : spelled_name hole m ≡ spelled_name hole n = cc in
      let y : r ≡ s = cc in
      ap (λ k. Var k r) (same_name hole m n a b x) ∙ ap (Var n) y
  same_term hole (Var m r) (App g s us) a b e = absurd (cc)
  same_term hole (App f r ts) (Var n s) a b e = absurd (cc)
  same_term hole (App f r ts) (App g s us) a b e =
      let x : f ≡ g = cc in
      let y : r ≡ s = cc in
      let z : named_terms hole ts ≡ named_terms hole us = cc in
      ap (λ k. App k r ts) x ∙ ap (λ k. App g k ts) y ∙ ap (App g s) (same_terms hole ts us a b z)

  same_terms : (hole : Bool) (ts us : Trees) → AreAllNumbered ts → AreAllNumbered us → named_terms hole ts ≡ named_terms hole us → ts ≡ us
  same_terms hole none none a b e = refl
  same_terms hole none (more u us) a b e = absurd (cc)
  same_terms hole (more t ts) none a b e = absurd (cc)
  same_terms hole (more t ts) (more u us) a b e =
      let x : named_term hole t ≡ named_term hole u = cc in
      let y : named_terms hole ts ≡ named_terms hole us = cc in
      ap (λ k. more k ts) (same_term hole t u a.0 b.0 x) ∙ ap (more u) (same_terms hole ts us a.1 b.1 y)

pub nothing_declared : (sig : Signature) → AreNoWords sig []
nothing_declared sig d c = absurd (omega (arith, c.1))

-- terms of the same tokens are the same
pub same_tokens : (sig : Signature) (hole : Bool) (t u : Tree) → IsReadBack sig → IsWellSorted sig t → IsWellSorted sig u → IsNumbered t → IsNumbered u
    → tokens_of_term sig hole t ≡ tokens_of_term sig hole u → t ≡ u
same_tokens sig hole t u ok h k a b e =
    let P : List (List ℕ) → Type 0 = λ us. Spells sig [] hole 1 (sort_of u) us (named_term hole u) in
    let spells = subst P (sym e) ((spelled sig hole ok.operators ok.printable u k).spells [] 1 (omega arith)) in
    let once = back sig hole [] ok.operators ok.printable ok.words ok.sorts ok.different (nothing_declared sig) t h 1 (sort_of u) (named_term hole u) spells in
    same_term hole t u a b (sym once.1)

pub printed_once : (sig : Signature) (hole : Bool) (t u : Tree) → IsReadBack sig → IsWellSorted sig t → IsWellSorted sig u → IsNumbered t → IsNumbered u
    → text_of_term sig hole t ≡ text_of_term sig hole u → t ≡ u
printed_once sig hole t u ok h k a b e =
    let printed = spelled sig hole ok.operators ok.printable u k in
    let P : List ℕ → Type 0 = λ text. AreTokens text (tokens_of_term sig hole u) in
    let cut = subst P (sym e) (prints_tokens _ (tokens_of_term sig hole u) printed.prints) in
    same_tokens sig hole t u ok h k a b (sym (cut_so sig hole t (tokens_of_term sig hole u) ok h cut))
