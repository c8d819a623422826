-- A list that spells a term leads back to the depth at which it begins, and no comma stands in it outside of parentheses.
use Rattle.std.proofs.Common.{◌≡◌, ◌<◌, ◌≤◌, ◌+◌, ◌++◌, ◌==◌, ◌||◌, ℕ, zero, suc, List, [], ◌∷◌, length, Bool, true, false, Option, Some, None, nat_eq, codes, sym, ◌∙◌, ap, subst, refl, arith}
use Rattle.std.specs.Prelude.{if◌then◌else◌}
use Rattle.std.specs.List.{slice_get, list_any, Contains}
use Rattle.std.specs.Option.{option_and_then}
use Rattle.std.specs.Cmp.Lexicographic.{pointwise, bytes_decides}
use Rattle.std.proofs.lemmas.Bool.Decides.{nat_tests}
use Rattle.std.proofs.lemmas.Option.{slice_get_within, get_or_from_slice_get}
use Rattle.circ_form.specs.declared.forms.Piece.{Piece}
use Rattle.circ_form.specs.declared.forms.Piece.TheVariants as piece
use Rattle.circ_form.specs.Form.{IsForm, text_of, is_bad_byte, is_bad_word, is_reserved, is_bad_piece, is_hole_piece, is_word, hole_count}
use Rattle.circ_theory.specs.declared.parts.Side.{Side}
use Rattle.circ_theory.specs.Signature.{Signature, Operator}
use Rattle.circ_theory.specs.Theory.{Declared, declared}
use Rattle.circ_theory.specs.Operators.{IsOperator}
use Rattle.circ_mixfix.specs.Named.{Named, NamedList, no_terms, terms}
use Rattle.circ_mixfix.specs.Symbols.{Symbol, Word, Hole, every, inner_symbols, form_symbols, more_arguments, arguments, symbols_of}
use Rattle.circ_mixfix.specs.Spells.{HasNoColon, IsVariable, a_declared_one, a_written_one, the_hole, Spells, SpellsSymbols, in_parentheses, a_variable, an_operator, no_symbol, a_word, a_hole}
use Rattle.circ_mixfix.specs.OwnWords.{AreNoWords}
use Rattle.circ_mixfix.proofs.FormWords.{or_false, no_bad_piece}
use Rattle.circ_mixfix.proofs.Names.{before_colon, no_colon, colon_at, apart}
use Rattle.circ_mixfix.proofs.SymbolWords.{one_more, some_hole, fits, form_word}
use Rattle.circ_mixfix.proofs.Levels.{is_open, is_close, is_comma, step, walk, next, count, step_open, step_close, step_over, step_inside, next_over, next_open, counted_open, counted_close, counted_over, counted_inside, walk_next, walk_on, deeper, count_both, none_inside}

-- ---- the words of forms

-- neither a parenthesis nor a comma, and without a colon
abbrev pub IsInner : List ℕ → Type 0
IsInner w = (is_open w ≡ false) × (is_close w ≡ false) × (is_comma w ≡ false) × HasNoColon w

abbrev pub AllInner : List Piece → Type 0
AllInner [] = Unit {0}
AllInner (piece.Hole ∷ ps) = AllInner ps
AllInner (piece.Word w ∷ ps) = IsInner w × AllInner ps

no_colon_byte : (b : ℕ) → is_bad_byte b ≡ false → (b == 58) ≡ false
no_colon_byte b e = grind (arith, nat_tests)

without_colon : (w : List ℕ) → list_any is_bad_byte w ≡ false → HasNoColon w
without_colon [] e = refl
without_colon (b ∷ w) e = let k = or_false (is_bad_byte b) (list_any is_bad_byte w) e in rw (no_colon_byte b k.0) (without_colon w k.1)

inner_word : (w : List ℕ) → list_any is_bad_byte w ≡ false → IsInner w
inner_word w e = (
  apart w (codes "(") (λ q. let z = ap (list_any is_bad_byte) (sym q) ∙ e in cc),
  apart w (codes ")") (λ q. let z = ap (list_any is_bad_byte) (sym q) ∙ e in cc),
  apart w (codes ",") (λ q. let z = ap (list_any is_bad_byte) (sym q) ∙ e in cc),
  without_colon w e,
)

all_inner : (ps : List Piece) → list_any is_bad_piece ps ≡ false → AllInner ps
all_inner [] e = tt
all_inner (piece.Hole ∷ ps) e = all_inner ps e
all_inner (piece.Word w ∷ ps) e =
    let k = or_false (is_bad_word w) (list_any is_bad_piece ps) e in
    (inner_word w (or_false (is_reserved w) (list_any is_bad_byte w) k.0).1, all_inner ps k.1)

pub form_inner : (ps : List Piece) → IsForm ps → AllInner ps
form_inner ps f = all_inner ps (subst (λ (qs : List Piece). list_any is_bad_piece qs ≡ false) f.cut (no_bad_piece (text_of ps) f.sound))

pub contains_inner : (ps : List Piece) (w : List ℕ) → AllInner ps → Contains ps (piece.Word w) → IsInner w
contains_inner [] w h (k, l, e) = absurd (omega arith)
contains_inner (piece.Hole ∷ ps) w h (zero, l, e) = absurd (cc)
contains_inner (piece.Hole ∷ ps) w h (suc k, l, e) = contains_inner ps w h (k, omega arith, e)
contains_inner (piece.Word v ∷ ps) w h (zero, l, e) = let q : v ≡ w = cc in subst (λ (x : List ℕ). IsInner x) q h.0
contains_inner (piece.Word v ∷ ps) w h (suc k, l, e) = contains_inner ps w h.1 (k, omega arith, e)

-- whether it is one of the words
abbrev pub is_word_of : List Piece → List ℕ → Bool
is_word_of [] w = false
is_word_of (piece.Hole ∷ ps) w = is_word_of ps w
is_word_of (piece.Word v ∷ ps) w = pointwise nat_eq w v || is_word_of ps w

pub word_there : (ps : List Piece) (w : List ℕ) → is_word_of ps w ≡ true → Contains ps (piece.Word w)
word_there [] w e = absurd (cc)
word_there (piece.Hole ∷ ps) w e = let k = word_there ps w e in (suc k.0, omega (arith, k.1), k.2)
word_there (piece.Word v ∷ ps) w e = go (λ h. word_there ps w h) (pointwise nat_eq w v) refl e
  where
    go : (is_word_of ps w ≡ true → Contains ps (piece.Word w)) → (b : Bool) → pointwise nat_eq w v ≡ b → (b || is_word_of ps w) ≡ true → Contains (piece.Word v ∷ ps) (piece.Word w)
    go ih true f h = let q = (bytes_decides w v).0 f in (0, omega arith, ap piece.Word (sym q))
    go ih false f h = let k = ih h in (suc k.0, omega (arith, k.1), k.2)

pub word_known : (ps : List Piece) (w : List ℕ) → Contains ps (piece.Word w) → is_word_of ps w ≡ true
word_known [] w (k, l, e) = absurd (omega arith)
word_known (piece.Hole ∷ ps) w (zero, l, e) = absurd (cc)
word_known (piece.Hole ∷ ps) w (suc k, l, e) = word_known ps w (k, omega arith, e)
word_known (piece.Word v ∷ ps) w (zero, l, e) = let q : v ≡ w = cc in rw ((bytes_decides w v).1 (sym q)) refl
word_known (piece.Word v ∷ ps) w (suc k, l, e) = go (pointwise nat_eq w v) (word_known ps w (k, omega arith, e))
  where
    go : (b : Bool) → is_word_of ps w ≡ true → (b || is_word_of ps w) ≡ true
    go true h = refl
    go false h = h

-- how many words pass a test
abbrev pub tested : (List ℕ → Bool) → List Piece → ℕ
tested p [] = 0
tested p (piece.Hole ∷ ps) = tested p ps
tested p (piece.Word w ∷ ps) = (if p w then 1 else 0) + tested p ps

pub some_tested : (p : List ℕ → Bool) (ps : List Piece) → 0 < tested p ps → (w : List ℕ) × Contains ps (piece.Word w) × (p w ≡ true)
some_tested p [] h = absurd (omega arith)
some_tested p (piece.Hole ∷ ps) h = let k = some_tested p ps h in (k.0, (suc k.1.0, omega (arith, k.1.1), k.1.2), k.2)
some_tested p (piece.Word w ∷ ps) h = go (λ l. some_tested p ps l) (p w) refl h
  where
    go : (0 < tested p ps → (v : List ℕ) × Contains ps (piece.Word v) × (p v ≡ true)) → (b : Bool) → p w ≡ b → 0 < (if b then 1 else 0) + tested p ps
        → (v : List ℕ) × Contains (piece.Word w ∷ ps) (piece.Word v) × (p v ≡ true)
    go ih true f l = (w, (0, omega arith, refl), f)
    go ih false f l = let k = ih (omega arith) in (k.0, (suc k.1.0, omega (arith, k.1.1), k.1.2), k.2)

word_tested : (p : List ℕ → Bool) (ps : List Piece) → list_any is_word ps ≡ true → ((w : List ℕ) → Contains ps (piece.Word w) → p w ≡ true) → 0 < tested p ps
word_tested p [] e h = absurd (cc)
word_tested p (piece.Hole ∷ ps) e h = word_tested p ps e (λ w c. h w (suc c.0, omega arith, c.2))
word_tested p (piece.Word w ∷ ps) e h = let f : p w ≡ true = h w (0, omega arith, refl) in rw f (omega arith)

pub own_tested : (ps : List Piece) → IsForm ps → 0 < tested (is_word_of ps) ps
own_tested ps f = word_tested (is_word_of ps) ps (form_word ps f) (λ w c. word_known ps w c)

-- ---- symbols

-- the depth behind symbols, each hole leading back to where it stands
abbrev level : ℕ → List Symbol → Option ℕ
level d [] = Some d
level d (Word w ∷ ps) = option_and_then (λ e. level e ps) (step is_comma d w)
level d (Hole s b ∷ ps) = level d ps

level_both : (d : ℕ) (ps qs : List Symbol) → level d (ps ++ qs) ≡ option_and_then (λ e. level e qs) (level d ps)
level_both d [] qs = refl
level_both d (Word w ∷ ps) qs = go (λ k. level_both k ps qs) (step is_comma d w)
  where
    go : ((k : ℕ) → level k (ps ++ qs) ≡ option_and_then (λ e. level e qs) (level k ps)) → (o : Option ℕ)
        → option_and_then (λ k. level k (ps ++ qs)) o ≡ option_and_then (λ e. level e qs) (option_and_then (λ k. level k ps) o)
    go ih None = refl
    go ih (Some k) = ih k
level_both d (Hole s b ∷ ps) qs = level_both d ps qs

level_next : (d e : ℕ) (w : List ℕ) (ps : List Symbol) → step is_comma d w ≡ Some e → level d (Word w ∷ ps) ≡ level e ps
level_next d e w ps h = ap (option_and_then (λ k. level k ps)) h

inner_level : (p : ℕ) (side : Side) (ps : List Piece) (ss : List ℕ) (d : ℕ) → AllInner ps → level d (inner_symbols p side ps ss) ≡ Some d
inner_level p side [] ss d h = refl
inner_level p side (piece.Word w ∷ ps) ss d h = level_next d d w (inner_symbols p side ps ss) (step_over is_comma d w h.0.0 h.0.1 h.0.2) ∙ inner_level p side ps ss d h.1
inner_level p side (piece.Hole ∷ ps) [] d h = refl
inner_level p side (piece.Hole ∷ ps) (s ∷ ss) d h = inner_level p side ps ss d h

form_level : (p : ℕ) (side : Side) (ps : List Piece) (ss : List ℕ) (d : ℕ) → AllInner ps → level d (form_symbols p side ps ss) ≡ Some d
form_level p side [] ss d h = refl
form_level p side (piece.Word w ∷ ps) ss d h = inner_level p side (piece.Word w ∷ ps) ss d h
form_level p side (piece.Hole ∷ ps) [] d h = refl
form_level p side (piece.Hole ∷ ps) (s ∷ ss) d h = inner_level p side ps ss d h

more_level : (ss : List ℕ) (d : ℕ) → level (suc d) (more_arguments ss) ≡ Some d
more_level [] d = level_next (suc d) d (codes ")") [] (step_close is_comma d)
more_level (s ∷ ss) d = level_next (suc d) (suc d) (codes ",") (Hole s every ∷ more_arguments ss) (step_inside is_comma d (codes ",") refl refl) ∙ more_level ss d

arguments_level : (ss : List ℕ) (d : ℕ) → level d (arguments ss) ≡ Some d
arguments_level [] d = refl
arguments_level (s ∷ ss) d = level_next d (suc d) (codes "(") (Hole s every ∷ more_arguments ss) (step_open is_comma d) ∙ more_level ss d

symbols_level : (o : Operator) (d : ℕ) → AllInner o.form → level d (symbols_of o) ≡ Some d
symbols_level o d h = go (list_any is_hole_piece o.form)
  where
    go : (b : Bool) → level d (if b then form_symbols o.prec o.side o.form o.args else inner_symbols 0 o.side o.form [] ++ arguments o.args) ≡ Some d
    go true = form_level o.prec o.side o.form o.args d h
    go false =
        level_both d (inner_symbols 0 o.side o.form []) (arguments o.args)
        ∙ ap (option_and_then (λ e. level e (arguments o.args))) (inner_level 0 o.side o.form [] d h) ∙ arguments_level o.args d

-- a text with a colon is none without one
pub colon_apart : (w n v : List ℕ) → before_colon w ≡ Some n → HasNoColon v → pointwise nat_eq w v ≡ false
colon_apart w n v h k = apart w v (λ e. let z : Some n ≡ None = sym h ∙ ap before_colon e ∙ no_colon v k in cc z)

-- a word counts where it passes the test
pub word_counts : (p : List ℕ → Bool) (w : List ℕ) (rest : List (List ℕ)) → IsInner w → count p 0 (w ∷ rest) ≡ (if p w then 1 else 0) + count p 0 rest
word_counts p w rest i =
    ap (λ k. k + count p (next 0 w) rest) (counted_over p w i.0 i.1) ∙ ap (λ k. (if p w then 1 else 0) + count p k rest) (next_over 0 w i.0 i.1)

-- ---- spelled lists

module _ (sig : Signature) (hole : Bool) (vars : List Declared) (ops : (o : Operator) → Contains sig.ops o → IsOperator sig o) (none : AreNoWords sig vars) where
  pub listed : (f : ℕ) (o : Operator) → slice_get sig.ops f ≡ Some o → Contains sig.ops o
  listed f o l = (f, slice_get_within sig.ops f o l, get_or_from_slice_get sig.ops f o o l)

  pub operator_inner : (f : ℕ) (o : Operator) → slice_get sig.ops f ≡ Some o → AllInner o.form
  operator_inner f o l = form_inner o.form (ops o (listed f o l)).is_form

  -- a variable is neither a parenthesis nor a comma
  pub variable_inner : (w n : List ℕ) (s : ℕ) → IsVariable sig vars hole w n s → (is_open w ≡ false) × (is_close w ≡ false) × (is_comma w ≡ false)
  variable_inner w n s (a_declared_one c h a b) = (apart w (codes "(") a, apart w (codes ")") b, apart w (codes ",") (none (declared w s) c).0)
  variable_inner w n s (a_written_one sort l e h k m i star) =
      let z : before_colon w ≡ Some n = ap before_colon e ∙ colon_at n sort h in
      (colon_apart w n (codes "(") z refl, colon_apart w n (codes ")") z refl, colon_apart w n (codes ",") z refl)
  variable_inner w n s (the_hole sort t l e k m) =
      let z : before_colon w ≡ Some (codes "*") = ap before_colon e in
      (colon_apart w (codes "*") (codes "(") z refl, colon_apart w (codes "*") (codes ")") z refl, colon_apart w (codes "*") (codes ",") z refl)

  -- and no word of an operator
  pub no_variable : (o : Operator) (w n : List ℕ) (s : ℕ) → Contains sig.ops o → Contains o.form (piece.Word w) → IsVariable sig vars hole w n s → ⊥
  no_variable o w n s i c (a_declared_one d h a b) = (none (declared w s) d).1 o i c
  no_variable o w n s i c (a_written_one sort l e h k m j star) =
      let q = contains_inner o.form w (form_inner o.form (ops o i).is_form) c in
      absurd (let z : Some n ≡ None = sym (ap before_colon e ∙ colon_at n sort h) ∙ no_colon w q.3 in cc z)
  no_variable o w n s i c (the_hole sort t l e k m) =
      let q = contains_inner o.form w (form_inner o.form (ops o i).is_form) c in
      absurd (let z : Some (codes "*") ≡ None = sym (ap before_colon e) ∙ no_colon w q.3 in cc z)

  mutual
    pub spells_walk : (b s : ℕ) (ts : List (List ℕ)) (q : Named) → Spells sig vars hole b s ts q → (d : ℕ) → walk is_comma d ts ≡ Some d
    spells_walk b s ts q (in_parentheses inner lo k e) d =
        ap (walk is_comma d) e ∙ walk_next is_comma d (suc d) (codes "(") (inner ++ codes ")" ∷ []) (step_open is_comma d)
        ∙ walk_on is_comma (suc d) (suc d) inner (codes ")" ∷ []) (spells_walk every s inner q k (suc d))
        ∙ walk_next is_comma (suc d) d (codes ")") [] (step_close is_comma d)
    spells_walk b s ts q (a_variable w n lo v e z) d =
        let i = variable_inner w n s v in
        ap (walk is_comma d) e ∙ walk_next is_comma d d w [] (step_over is_comma d w i.0 i.1 i.2)
    spells_walk b s ts q (an_operator f o args l p z row y) d = row_walk (symbols_of o) ts args row d ∙ symbols_level o d (operator_inner f o l)

    row_walk : (ps : List Symbol) (ts : List (List ℕ)) (args : NamedList) → SpellsSymbols sig vars hole ps ts args → (d : ℕ) → walk is_comma d ts ≡ level d ps
    row_walk [] ts no_terms (no_symbol e) d = ap (walk is_comma d) e
    row_walk (Word w ∷ ps) ts args (a_word rest r e) d = ap (walk is_comma d) e ∙ go (λ k. row_walk ps rest args r k) (step is_comma d w)
      where
        go : ((k : ℕ) → walk is_comma k rest ≡ level k ps) → (o : Option ℕ) → option_and_then (λ k. walk is_comma k rest) o ≡ option_and_then (λ k. level k ps) o
        go ih None = refl
        go ih (Some k) = ih k
    row_walk (Hole s b ∷ ps) ts (terms q args) (a_hole first rest k r e) d =
        ap (walk is_comma d) e ∙ walk_on is_comma d d first rest (spells_walk b s first q k d) ∙ row_walk ps rest args r d

  -- ---- the words of an operator stand outside of all parentheses

  pub inner_count : (p : List ℕ → Bool) (prec : ℕ) (side : Side) (ps : List Piece) (ss : List ℕ) (ts : List (List ℕ)) (args : NamedList) → AllInner ps → hole_count ps ≤ length ss
      → SpellsSymbols sig vars hole (inner_symbols prec side ps ss) ts args → tested p ps ≤ count p 0 ts
  inner_count p prec side [] ss ts args i l r = omega arith
  inner_count p prec side (piece.Word w ∷ ps) ss ts args i l (a_word rest r e) =
      let z = ap (count p 0) e ∙ word_counts p w rest i.0 in
      let more = inner_count p prec side ps ss rest args i.1 l r in
      omega (arith, z, more)
  inner_count p prec side (piece.Hole ∷ ps) [] ts args i l r = let m = one_more ps in absurd (omega (arith, m))
  inner_count p prec side (piece.Hole ∷ ps) (s ∷ ss) ts no_terms i l r = elim r [ ]
  inner_count p prec side (piece.Hole ∷ ps) (s ∷ ss) ts (terms q args) i l (a_hole first rest k r e) =
      let m = one_more ps in
      let z = ap (count p 0) e ∙ count_both is_comma p 0 0 first rest (spells_walk _ s first q k 0) in
      let more = inner_count p prec side ps ss rest args i (omega (arith, m)) r in
      omega (arith, z, more)

  form_count : (p : List ℕ → Bool) (prec : ℕ) (side : Side) (ps : List Piece) (ss : List ℕ) (ts : List (List ℕ)) (args : NamedList) → AllInner ps → hole_count ps ≤ length ss
      → SpellsSymbols sig vars hole (form_symbols prec side ps ss) ts args → tested p ps ≤ count p 0 ts
  form_count p prec side [] ss ts args i l r = omega arith
  form_count p prec side (piece.Word w ∷ ps) ss ts args i l r = inner_count p prec side (piece.Word w ∷ ps) ss ts args i l r
  form_count p prec side (piece.Hole ∷ ps) [] ts args i l r = let m = one_more ps in absurd (omega (arith, m))
  form_count p prec side (piece.Hole ∷ ps) (s ∷ ss) ts no_terms i l r = elim r [ ]
  form_count p prec side (piece.Hole ∷ ps) (s ∷ ss) ts (terms q args) i l (a_hole first rest k r e) =
      let m = one_more ps in
      let z = ap (count p 0) e ∙ count_both is_comma p 0 0 first rest (spells_walk _ s first q k 0) in
      let more = inner_count p prec side ps ss rest args i (omega (arith, m)) r in
      omega (arith, z, more)

  more_count : (p : List ℕ → Bool) (ss : List ℕ) (ts : List (List ℕ)) (args : NamedList) → SpellsSymbols sig vars hole (more_arguments ss) ts args → count p 1 ts ≡ 0
  more_count p [] ts no_terms (a_word rest (no_symbol z) e) =
      let a = ap (count p 1) (e ∙ ap (λ us. codes ")" ∷ us) z) in
      let b = counted_close p 1 in
      omega (arith, a, b)
  more_count p [] ts (terms q args) (a_word rest r e) = elim r [ ]
  more_count p (s ∷ ss) ts no_terms (a_word rest r e) = elim r [ ]
  more_count p (s ∷ ss) ts (terms q args) (a_word rest (a_hole first others k r z) e) =
      let a = ap (count p 1) (e ∙ ap (λ us. codes "," ∷ us) z) in
      let b = counted_inside p 0 (codes ",") in
      let n : count p (next 1 (codes ",")) (first ++ others) ≡ count p 1 (first ++ others) = ap (λ k. count p k (first ++ others)) (next_over 1 (codes ",") refl refl) in
      let h = spells_walk every s first q k 0 in
      let c = count_both is_comma p 1 1 first others (deeper is_comma is_comma 0 0 first h) in
      let d = none_inside is_comma p 0 0 first h in
      let f = more_count p ss others args r in
      omega (arith, a, b, n, c, d, f)

  arguments_count : (p : List ℕ → Bool) (ss : List ℕ) (ts : List (List ℕ)) (args : NamedList) → SpellsSymbols sig vars hole (arguments ss) ts args → count p 0 ts ≡ 0
  arguments_count p [] ts no_terms (no_symbol e) = ap (count p 0) e
  arguments_count p [] ts (terms q args) r = elim r [ ]
  arguments_count p (s ∷ ss) ts no_terms (a_word rest r e) = elim r [ ]
  arguments_count p (s ∷ ss) ts (terms q args) (a_word rest (a_hole first others k r z) e) =
      let a = ap (count p 0) (e ∙ ap (λ us. codes "(" ∷ us) z) in
      let b = counted_open p 0 in
      let n : count p (next 0 (codes "(")) (first ++ others) ≡ count p 1 (first ++ others) = ap (λ k. count p k (first ++ others)) (next_open 0) in
      let h = spells_walk every s first q k 0 in
      let c = count_both is_comma p 1 1 first others (deeper is_comma is_comma 0 0 first h) in
      let d = none_inside is_comma p 0 0 first h in
      let f = more_count p ss others args r in
      omega (arith, a, b, n, c, d, f)

  -- without holes no other ones do
  pub plain_count : (p : List ℕ → Bool) (side : Side) (ps : List Piece) (ss : List ℕ) (ts : List (List ℕ)) (args : NamedList) → AllInner ps → list_any is_hole_piece ps ≡ false
      → SpellsSymbols sig vars hole (inner_symbols 0 side ps [] ++ arguments ss) ts args → count p 0 ts ≡ tested p ps
  plain_count p side [] ss ts args i h r = arguments_count p ss ts args r
  plain_count p side (piece.Hole ∷ ps) ss ts args i h r = absurd (cc)
  plain_count p side (piece.Word w ∷ ps) ss ts args i h (a_word rest r e) =
      let z = ap (count p 0) e ∙ word_counts p w rest i.0 in
      let more = plain_count p side ps ss rest args i.1 h r in
      omega (arith, z, more)

  pub operator_count : (p : List ℕ → Bool) (f : ℕ) (o : Operator) (ts : List (List ℕ)) (args : NamedList) → slice_get sig.ops f ≡ Some o → SpellsSymbols sig vars hole (symbols_of o) ts args
      → tested p o.form ≤ count p 0 ts
  operator_count p f o ts args l row = go (list_any is_hole_piece o.form) refl row
    where
      go : (b : Bool) → list_any is_hole_piece o.form ≡ b
          → SpellsSymbols sig vars hole (if b then form_symbols o.prec o.side o.form o.args else inner_symbols 0 o.side o.form [] ++ arguments o.args) ts args → tested p o.form ≤ count p 0 ts
      go true e r =
          let n = fits o (ops o (listed f o l)).fits (some_hole o.form e) in
          form_count p o.prec o.side o.form o.args ts args (operator_inner f o l) (omega (arith, n)) r
      go false e r = let n = plain_count p o.side o.form o.args ts args (operator_inner f o l) e r in omega (arith, n)
