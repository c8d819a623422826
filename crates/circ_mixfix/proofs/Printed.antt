-- Printed text is cut into tokens that spell the term.
use Rattle.std.proofs.Common.{get_or, ◌≡◌, ◌≢◌, ◌==◌, ◌&&◌, ◌+◌, ◌<◌, ◌++◌, ℕ, suc, List, [], ◌∷◌, length, Bool, true, false, Some, cond, codes, refl, ap, subst, ◌∙◌, arith, append_assoc}
use Rattle.std.specs.List.{slice_get, list_any, list_all, AllByRecursion, Contains}
use Rattle.std.specs.Option.{unwrap_or}
use Rattle.std.specs.Fmt.{decimal}
use Rattle.std.proofs.lemmas.List.Folds.{list_all-append}
use Rattle.std.proofs.lemmas.List.Recursion.{is_count_by}
use Rattle.std.proofs.lemmas.Bool.Decides.{nat_tests}
use Rattle.std.proofs.lemmas.Option.{slice_get_within, slice_get-get_or, get_or_from_slice_get}
use Rattle.circ_lexer.specs.Bytes.{is_plain, is_special}
use Rattle.circ_lexer.specs.TokenList.{IsToken, run_token}
use Rattle.circ_term.specs.Tree.{Tree, Trees, Var, App, none, more, sort_of}
use Rattle.circ_form.specs.declared.forms.Piece.{Piece}
use Rattle.circ_form.specs.declared.forms.Piece.TheVariants as piece
use Rattle.circ_theory.specs.declared.parts.Side.{Side}
use Rattle.circ_theory.specs.declared.parts.Side.TheVariants.{Neither, Left, Right}
use Rattle.circ_theory.specs.Signature.{Signature, Operator, IsWellSorted, HaveSorts}
use Rattle.circ_theory.specs.Theory.{Declared, Theory}
use Rattle.circ_theory.specs.WellFormed.{IsWellFormed}
use Rattle.circ_form.specs.Form.{is_hole_piece, hole_count}
use Rattle.circ_theory.specs.Operators.{form_fits, IsOperator}
use Rattle.circ_mixfix.specs.Named.{Named, NamedList, Variable, no_terms, terms}
use Rattle.circ_mixfix.specs.Symbols.{Symbol, Word, Hole, every, below_first, below_last, below_inner, inner_symbols, form_symbols, more_arguments, arguments}
use Rattle.circ_mixfix.specs.Spells.{HasNoColon, a_written_one, the_hole, Spells, SpellsSymbols, in_parentheses, a_variable, an_operator, no_symbol, a_word, a_hole}
use Rattle.circ_mixfix.specs.Printing.{further, joined, filled, arguments_text, text_of_term, texts_of_terms, text_of_pair}
use Rattle.circ_mixfix.specs.Printed.{IsName, IsPrintable, IsPrintableOperator, named_term, named_terms, IsSpelling, IsPairSpelling}
use Rattle.circ_mixfix.proofs.Cut.{Prints, Ends, prints_tokens, prints_nothing, prints_blank, prints_special, prints_token, prints_both}
use Rattle.circ_mixfix.proofs.PrintedTokens.{fill, more_tokens, arguments_tokens, tokens_of_term, tokens_of_terms}
use Rattle.circ_mixfix.proofs.FormWords.{IsTokenPiece, form_tokens, decimal_plain}

pub ends_further : (b : ℕ) (sep : List ℕ) (xs : List (List ℕ)) → Ends (b ∷ sep) → Ends (further (b ∷ sep) xs)
ends_further b sep [] h = record { ends = λ rest e. e }
ends_further b sep (x ∷ xs) h = record { ends = λ rest e. h.ends [] refl }

-- how many holes there are
holes : List Piece → ℕ
holes [] = 0
holes (piece.Hole ∷ ps) = suc (holes ps)
holes (piece.Word w ∷ ps) = holes ps

holes_counted : (ps : List Piece) → holes ps ≡ hole_count ps
unfolding holes
holes_counted ps = is_count_by holes is_hole_piece refl step ps
  where
    step : (p : Piece) (qs : List Piece) → holes (p ∷ qs) ≡ cond (is_hole_piece p) (1 + holes qs) (holes qs)
    step piece.Hole qs = omega arith
    step (piece.Word w) qs = refl

no_holes : (ps : List Piece) → list_any is_hole_piece ps ≡ false → holes ps ≡ 0
unfolding holes
no_holes [] e = refl
no_holes (piece.Hole ∷ ps) e = absurd (cc)
no_holes (piece.Word w ∷ ps) e = no_holes ps e

some_holes : (ps : List Piece) → list_any is_hole_piece ps ≡ true → 0 < holes ps
unfolding holes
some_holes [] e = absurd (cc)
some_holes (piece.Hole ∷ ps) e = omega arith
some_holes (piece.Word w ∷ ps) e = some_holes ps e

-- with holes, there is one for each argument
holes_fit : (o : Operator) → list_any is_hole_piece o.form ≡ true → form_fits o ≡ true → holes o.form ≡ length o.args
holes_fit o has fits = let some = some_holes o.form has in let same = holes_counted o.form in grind (arith, nat_tests)

pub not_star : (d : List ℕ) → 86 ∷ d ≢ codes "*"
not_star d e = let h = ap (λ (w : List ℕ). get_or w 0 0) e in omega arith

letter_token : (w : List ℕ) → list_all is_plain w ≡ true → IsToken (86 ∷ w)
letter_token w plain = run_token (86 ∷ w) (λ z. cc) plain refl

star_token : (w : List ℕ) → list_all is_plain w ≡ true → IsToken (42 ∷ 58 ∷ w)
star_token w plain = run_token (42 ∷ 58 ∷ w) (λ z. cc) plain refl

pub first_of : (a b : Bool) → (a && b) ≡ true → a ≡ true
first_of true b e = refl
first_of false b e = absurd (cc)

-- where the operator groups to a side, its precedence is above 0
abbrev Grouped : ℕ → Side → Type 0
Grouped p side = side ≢ Neither → 0 < p

first_some : (p : ℕ) (side : Side) → Grouped p side → 0 < below_first p side
first_some p Neither g = omega arith
first_some p Left g = omega arith
first_some p Right g = g (λ e. cc)

last_some : (p : ℕ) (side : Side) → Grouped p side → 0 < below_last p side
last_some p Neither g = omega arith
last_some p Left g = g (λ e. cc)
last_some p Right g = omega arith

inner_some : (p : ℕ) (side : Side) (ps : List Piece) → Grouped p side → 0 < below_inner p side ps
inner_some p side [] g = omega arith
inner_some p side (q ∷ []) g = last_some p side g
inner_some p side (q ∷ r ∷ ps) g = omega arith

module _ (sig : Signature) (hole : Bool) where
  -- a text that is cut into tokens that spell the term at each bound
  pub record SpelledAs (text : List ℕ) (tokens : List (List ℕ)) (s : ℕ) (q : Named) : Type 0 where
    pub prints : Prints text tokens
    pub spells : (vars : List Declared) (b : ℕ) → 0 < b → Spells sig vars hole b s tokens q

  abbrev pub Spelled : Tree → Type 0
  Spelled t = SpelledAs (text_of_term sig hole t) (tokens_of_term sig hole t) (sort_of t) (named_term hole t)

  abbrev AllSpelled : Trees → Type 0
  AllSpelled none = Unit {0}
  AllSpelled (more t ts) = Spelled t × AllSpelled ts

  -- symbols, a text that is cut into tokens that spell them, and the terms in their holes
  record Row (ps : List Symbol) (text : List ℕ) (tokens : List (List ℕ)) (qs : NamedList) : Type 0 where
    prints : Prints text tokens
    spells : (vars : List Declared) → SpellsSymbols sig vars hole ps tokens qs

  at_sort : (vars : List Declared) (t : Tree) (s b : ℕ) (k : Spelled t) → sort_of t ≡ s → 0 < b → Spells sig vars hole b s (tokens_of_term sig hole t) (named_term hole t)
  at_sort vars t s b k e h = subst (λ (r : ℕ). Spells sig vars hole b r (tokens_of_term sig hole t) (named_term hole t)) e (k.spells vars b h)

  no_row : Row [] [] [] no_terms
  no_row = record { prints = prints_nothing; spells = λ vars. no_symbol refl }

  word_row : (w text : List ℕ) (ps : List Symbol) (us : List (List ℕ)) (qs : NamedList) → IsToken w → Row ps text us qs → Ends text → Row (Word w ∷ ps) (w ++ text) (w ∷ us) qs
  word_row w text ps us qs h r e = record { prints = prints_both w text (w ∷ []) us (prints_token w h) r.prints e; spells = λ vars. a_word us (r.spells vars) refl }

  hole_row : (t : Tree) (s b : ℕ) (text : List ℕ) (ps : List Symbol) (us : List (List ℕ)) (qs : NamedList) → Spelled t → sort_of t ≡ s → 0 < b → Row ps text us qs → Ends text
      → Row (Hole s b ∷ ps) (text_of_term sig hole t ++ text) (tokens_of_term sig hole t ++ us) (terms (named_term hole t) qs)
  hole_row t s b text ps us qs k e h r f = record {
    prints = prints_both (text_of_term sig hole t) text (tokens_of_term sig hole t) us k.prints r.prints f;
    spells = λ vars. a_hole (tokens_of_term sig hole t) us (at_sort vars t s b k e h) (r.spells vars) refl;
  }

  blank_row : (text : List ℕ) (ps : List Symbol) (us : List (List ℕ)) (qs : NamedList) → Row ps text us qs → Row ps (32 ∷ text) us qs
  blank_row text ps us qs r = record { prints = prints_blank text us r.prints; spells = r.spells }

  special_row : (b : ℕ) (text : List ℕ) (ps : List Symbol) (us : List (List ℕ)) (qs : NamedList) → is_special b ≡ true → Row ps text us qs
      → Row (Word (b ∷ []) ∷ ps) (b ∷ text) ((b ∷ []) ∷ us) qs
  special_row b text ps us qs h r = record { prints = prints_special b text us h r.prints; spells = λ vars. a_word us (r.spells vars) refl }

  -- pieces behind the first one
  inner_row : (p : ℕ) (side : Side) (ps : List Piece) (ts : Trees) (ss : List ℕ) → (0 < length ss → Grouped p side) → AllByRecursion IsTokenPiece ps → HaveSorts sig ts ss → AllSpelled ts → holes ps ≡ length ss
      → Row (inner_symbols p side ps ss) (further (codes " ") (filled ps (texts_of_terms sig hole ts))) (fill ps (tokens_of_terms sig hole ts)) (named_terms hole ts)
  unfolding holes
  inner_row p side [] none ss g w h k n = no_row
  inner_row p side [] (more t ts) [] g w h k n = absurd h
  inner_row p side [] (more t ts) (s ∷ ss) g w h k n = absurd (omega arith)
  inner_row p side (piece.Word v ∷ ps) ts ss g w h k n =
      let more_text = further (codes " ") (filled ps (texts_of_terms sig hole ts)) in
      blank_row (v ++ more_text) _ _ _ (word_row v more_text _ _ _ w.0 (inner_row p side ps ts ss g w.1 h k n) (ends_further 32 [] _ (record { ends = λ rest e. refl })))
  inner_row p side (piece.Hole ∷ ps) none [] g w h k n = absurd (omega arith)
  inner_row p side (piece.Hole ∷ ps) none (s ∷ ss) g w h k n = absurd h
  inner_row p side (piece.Hole ∷ ps) (more t ts) [] g w h k n = absurd h
  inner_row p side (piece.Hole ∷ ps) (more t ts) (s ∷ ss) g w h k n =
      let more_text = further (codes " ") (filled ps (texts_of_terms sig hole ts)) in
      let b = below_inner p side (piece.Hole ∷ ps) in
      blank_row (text_of_term sig hole t ++ more_text) _ _ _
      (hole_row t s b more_text _ _ _ k.0 h.0 (inner_some p side (piece.Hole ∷ ps) (g (omega arith))) (inner_row p side ps ts ss (λ z. g (omega arith)) w.1 h.2 k.1 (omega arith)) (ends_further 32 [] _ (record { ends = λ rest e. refl })))

  -- all pieces of a form
  form_row : (p : ℕ) (side : Side) (ps : List Piece) (ts : Trees) (ss : List ℕ) → Grouped p side → AllByRecursion IsTokenPiece ps → HaveSorts sig ts ss → AllSpelled ts → holes ps ≡ length ss
      → Row (form_symbols p side ps ss) (joined (codes " ") (filled ps (texts_of_terms sig hole ts))) (fill ps (tokens_of_terms sig hole ts)) (named_terms hole ts)
  unfolding holes
  form_row p side [] none ss g w h k n = no_row
  form_row p side [] (more t ts) [] g w h k n = absurd h
  form_row p side [] (more t ts) (s ∷ ss) g w h k n = absurd (omega arith)
  form_row p side (piece.Word v ∷ ps) ts ss g w h k n =
      word_row v (further (codes " ") (filled ps (texts_of_terms sig hole ts))) _ _ _ w.0 (inner_row p side ps ts ss (λ z. g) w.1 h k n) (ends_further 32 [] _ (record { ends = λ rest e. refl }))
  form_row p side (piece.Hole ∷ ps) none [] g w h k n = absurd (omega arith)
  form_row p side (piece.Hole ∷ ps) none (s ∷ ss) g w h k n = absurd h
  form_row p side (piece.Hole ∷ ps) (more t ts) [] g w h k n = absurd h
  form_row p side (piece.Hole ∷ ps) (more t ts) (s ∷ ss) g w h k n =
      hole_row t s (below_first p side) (further (codes " ") (filled ps (texts_of_terms sig hole ts))) _ _ _ k.0 h.0 (first_some p side g)
      (inner_row p side ps ts ss (λ z. g) w.1 h.2 k.1 (omega arith)) (ends_further 32 [] _ (record { ends = λ rest e. refl }))

  -- a form without holes
  words_row : (side : Side) (ps : List Piece) → AllByRecursion IsTokenPiece ps → holes ps ≡ 0 → Row (inner_symbols 0 side ps []) (joined (codes " ") (filled ps [])) (fill ps []) no_terms
  unfolding holes
  words_row side [] w n = no_row
  words_row side (piece.Hole ∷ ps) w n = absurd (omega arith)
  words_row side (piece.Word v ∷ ps) w n =
      word_row v (further (codes " ") (filled ps [])) _ _ _ w.0 (inner_row 0 side ps none [] (λ z. absurd (omega arith)) w.1 tt tt n) (ends_further 32 [] _ (record { ends = λ rest e. refl }))

  ends_more : (xs : List (List ℕ)) → Ends (further (codes ", ") xs ++ codes ")")
  ends_more [] = record { ends = λ rest e. refl }
  ends_more (x ∷ xs) = record { ends = λ rest e. refl }

  -- arguments behind the first one
  more_row : (ts : Trees) (ss : List ℕ) → HaveSorts sig ts ss → AllSpelled ts → Row (more_arguments ss) (further (codes ", ") (texts_of_terms sig hole ts) ++ codes ")") (more_tokens (tokens_of_terms sig hole ts)) (named_terms hole ts)
  more_row none [] h k = special_row 41 [] [] [] no_terms refl no_row
  more_row none (s ∷ ss) h k = absurd h
  more_row (more t ts) [] h k = absurd h
  more_row (more t ts) (s ∷ ss) h k =
      let text = further (codes ", ") (texts_of_terms sig hole ts) in
      let r = hole_row t s every (text ++ codes ")") _ _ _ k.0 h.0 (omega arith) (more_row ts ss h.2 k.1) (ends_more (texts_of_terms sig hole ts)) in
      rw (append_assoc (text_of_term sig hole t) text (codes ")"))
      (special_row 44 (32 ∷ (text_of_term sig hole t ++ (text ++ codes ")"))) _ _ _ refl (blank_row _ _ _ _ r))

  arguments_row : (ts : Trees) (ss : List ℕ) → HaveSorts sig ts ss → AllSpelled ts → Row (arguments ss) (arguments_text (texts_of_terms sig hole ts)) (arguments_tokens (tokens_of_terms sig hole ts)) (named_terms hole ts)
  arguments_row none [] h k = no_row
  arguments_row none (s ∷ ss) h k = absurd h
  arguments_row (more t ts) [] h k = absurd h
  arguments_row (more t ts) (s ∷ ss) h k =
      let text = further (codes ", ") (texts_of_terms sig hole ts) ++ codes ")" in
      rw (append_assoc (text_of_term sig hole t) (further (codes ", ") (texts_of_terms sig hole ts)) (codes ")"))
      (special_row 40 (text_of_term sig hole t ++ text) _ _ _ refl (hole_row t s every text _ _ _ k.0 h.0 (omega arith) (more_row ts ss h.2 k.1) (ends_more (texts_of_terms sig hole ts))))

  -- symbols without holes, and what follows them
  symbols_both : {vars : List Declared} {ps qs : List Symbol} {us vs : List (List ℕ)} {none_of args : NamedList} → SpellsSymbols sig vars hole ps us none_of → none_of ≡ no_terms → SpellsSymbols sig vars hole qs vs args
      → SpellsSymbols sig vars hole (ps ++ qs) (us ++ vs) args
  symbols_both (no_symbol e) z k = rw e k
  symbols_both {vs = vs} (a_word rest h e) z k = a_word (rest ++ vs) (symbols_both h z k) (ap (λ xs. xs ++ vs) e)
  symbols_both (a_hole first rest h r e) z k = absurd (cc)

  ends_arguments : (xs : List (List ℕ)) → Ends (arguments_text xs)
  ends_arguments [] = record { ends = λ rest e. e }
  ends_arguments (x ∷ xs) = record { ends = λ rest e. refl }

  both_rows : (ps qs : List Symbol) (a b : List ℕ) (us vs : List (List ℕ)) (args : NamedList) → Row ps a us no_terms → Row qs b vs args → Ends b → Row (ps ++ qs) (a ++ b) (us ++ vs) args
  both_rows ps qs a b us vs args r l e = record { prints = prints_both a b us vs r.prints l.prints e; spells = λ vars. symbols_both (r.spells vars) refl (l.spells vars) }

  -- the text of an application
  with_holes : (f : ℕ) (o : Operator) (ts : Trees) → slice_get sig.ops f ≡ Some o → list_any is_hole_piece o.form ≡ true → o.prec < every
      → Row (form_symbols o.prec o.side o.form o.args) (joined (codes " ") (filled o.form (texts_of_terms sig hole ts))) (fill o.form (tokens_of_terms sig hole ts)) (named_terms hole ts) → Spelled (App f o.result ts)
  with_holes f o ts at has small r =
      record {
        prints = rw (at, has) (prints_special 40 _ _ refl (prints_both _ (codes ")") (fill o.form (tokens_of_terms sig hole ts)) (codes ")" ∷ []) r.prints (prints_special 41 [] [] refl prints_nothing) (record { ends = λ rest e. refl })));
        spells = λ vars b h. rw (at, has) (in_parentheses (fill o.form (tokens_of_terms sig hole ts)) h (an_operator {b = every} {all = fill o.form (tokens_of_terms sig hole ts)} f o (named_terms hole ts) at (rw has small) refl (rw has (r.spells vars)) refl) refl);
      }

  without_holes : (f : ℕ) (o : Operator) (ts : Trees) → slice_get sig.ops f ≡ Some o → list_any is_hole_piece o.form ≡ false
      → Row (inner_symbols 0 o.side o.form [] ++ arguments o.args) (joined (codes " ") (filled o.form []) ++ arguments_text (texts_of_terms sig hole ts))
      (fill o.form [] ++ arguments_tokens (tokens_of_terms sig hole ts)) (named_terms hole ts) → Spelled (App f o.result ts)
  without_holes f o ts at has r = record {
    prints = rw (at, has) r.prints;
    spells = λ vars b h. rw (at, has) (an_operator {b = b} {all = fill o.form [] ++ arguments_tokens (tokens_of_terms sig hole ts)} f o (named_terms hole ts) at (rw has h) refl (rw has (r.spells vars)) refl);
  }

  -- an operator's words are tokens
  operator_spelled : (f : ℕ) (o : Operator) (ts : Trees) → slice_get sig.ops f ≡ Some o → IsOperator sig o → IsPrintableOperator o → HaveSorts sig ts o.args → AllSpelled ts → Spelled (App f o.result ts)
  operator_spelled f o ts at is print h k = go (list_any is_hole_piece o.form) refl
    where
      go : (b : Bool) → list_any is_hole_piece o.form ≡ b → Spelled (App f o.result ts)
      go true e = with_holes f o ts at e (print.below e) (form_row o.prec o.side o.form ts o.args (print.sided e) (form_tokens o.form is.is_form print.words) h k (holes_fit o e is.fits))
      go false e = without_holes f o ts at e
          (both_rows (inner_symbols 0 o.side o.form []) (arguments o.args) _ _ _ _ _ (words_row o.side o.form (form_tokens o.form is.is_form print.words) (no_holes o.form e)) (arguments_row ts o.args h k) (ends_arguments (texts_of_terms sig hole ts)))

  -- a variable: the hole, or a number d with a name of its own
  variable_spelled : (d : List ℕ) (b : Bool) (s : ℕ) (name : List ℕ) → list_all is_plain d ≡ true → HasNoColon d → slice_get sig.sorts s ≡ Some name → IsName name → (b ≡ true → hole ≡ true)
      → SpelledAs (cond b (codes "*") (codes "V" ++ d) ++ codes ":" ++ unwrap_or (slice_get sig.sorts s) []) ((cond b (codes "*") (codes "V" ++ d) ++ codes ":" ++ unwrap_or (slice_get sig.sorts s) []) ∷ []) s
      (Variable (cond b [] (codes "V" ++ d)) s)
  variable_spelled d true s name plain colon at is h = record {
    prints = rw at (prints_token (42 ∷ 58 ∷ name) (star_token name is.plain));
    spells = λ vars c k. rw at (a_variable (42 ∷ 58 ∷ name) [] k (the_hole name (h refl) at refl is.no_colon is.some) refl refl);
  }
  variable_spelled d false s name plain colon at is h =
      let all : list_all is_plain (d ++ 58 ∷ name) ≡ true = list_all-append is_plain d (58 ∷ name) ∙ rw plain is.plain in
      record {
        prints = rw at (rw (append_assoc (codes "V" ++ d) (codes ":") name) (prints_token (86 ∷ (d ++ 58 ∷ name)) (letter_token (d ++ 58 ∷ name) all)));
        spells = λ vars c k. rw at (rw (append_assoc (codes "V" ++ d) (codes ":") name) (a_variable (86 ∷ (d ++ 58 ∷ name)) (86 ∷ d) k
            (a_written_one name at refl colon is.no_colon (λ (z : 86 ∷ d ≡ []). cc) is.some (not_star d)) refl refl));
      }

  module _ (ops : (o : Operator) → Contains sig.ops o → IsOperator sig o) (print : IsPrintable sig) where
    mutual
      pub spelled : (t : Tree) → IsWellSorted sig t → Spelled t
      spelled (Var n s) h =
          let name = get_or sig.sorts s [] in
          let at : slice_get sig.sorts s ≡ Some name = slice_get-get_or sig.sorts s [] h in
          variable_spelled (decimal n) (hole && (n == 0)) s name (decimal_plain n).0 (decimal_plain n).1 at (print.sorts name (s, h, get_or_from_slice_get sig.sorts s name name at)) (first_of hole (n == 0))
      spelled (App f s ts) h =
          let o : Operator = h.0 in
          let listed : Contains sig.ops o = (f, slice_get_within sig.ops f o h.1, get_or_from_slice_get sig.ops f o o h.1) in
          subst (λ (r : ℕ). Spelled (App f r ts)) h.2 (operator_spelled f o ts h.1 (ops o listed) (print.ops o listed) h.3 (all_spelled ts o.args h.3))

      all_spelled : (ts : Trees) (ss : List ℕ) → HaveSorts sig ts ss → AllSpelled ts
      all_spelled none ss h = tt
      all_spelled (more t ts) [] h = absurd h
      all_spelled (more t ts) (s ∷ ss) h = (spelled t h.1, all_spelled ts ss h.2)

equals_token : IsToken (codes "=")
equals_token = run_token (codes "=") (λ z. cc) refl refl

-- the text of a pair is cut into the tokens of its sides, and '=' between them
pub pair_prints : (sig : Signature) → ((o : Operator) → Contains sig.ops o → IsOperator sig o) → IsPrintable sig → (t u : Tree) → IsWellSorted sig t → IsWellSorted sig u
    → Prints (text_of_pair sig (record { left = t; right = u })) (tokens_of_term sig false t ++ codes "=" ∷ tokens_of_term sig false u)
pair_prints sig ops print t u h k =
    let l = spelled sig false ops print t h in
    let r = spelled sig false ops print u k in
    let a = text_of_term sig false t in
    let b = text_of_term sig false u in
    let ls = tokens_of_term sig false t in
    let rs = tokens_of_term sig false u in
    let right : Prints (32 ∷ b) rs = prints_blank b rs r.prints in
    let middle : Prints (32 ∷ 61 ∷ 32 ∷ b) (codes "=" ∷ rs) =
    prints_blank (61 ∷ 32 ∷ b) _ (prints_both (codes "=") (32 ∷ b) (codes "=" ∷ []) rs (prints_token (codes "=") equals_token) right (record { ends = λ rest e. refl })) in
    rw (append_assoc a (codes " = ") b) (prints_both a (32 ∷ 61 ∷ 32 ∷ b) ls (codes "=" ∷ rs) l.prints middle (record { ends = λ rest e. refl }))

module _ (th : Theory) (ok : IsWellFormed th) (print : IsPrintable th.signature) where
  pub term_printed : (hole : Bool) (t : Tree) → IsWellSorted th.signature t → IsSpelling th.signature hole t
  term_printed hole t h = let k = spelled th.signature hole ok.operators print t h in
      record { tokens = tokens_of_term th.signature hole t; cut = prints_tokens _ (tokens_of_term th.signature hole t) k.prints; spells = k.spells }

  pub pair_printed : (t u : Tree) → IsWellSorted th.signature t → IsWellSorted th.signature u → IsPairSpelling th.signature (record { left = t; right = u })
  pair_printed t u h k = record {
    left = tokens_of_term th.signature false t;
    right = tokens_of_term th.signature false u;
    cut = prints_tokens _ _ (pair_prints th.signature ok.operators print t u h k);
    spells_left = (spelled th.signature false ok.operators print t h).spells;
    spells_right = (spelled th.signature false ok.operators print u k).spells;
  }
