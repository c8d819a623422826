-- What the chart's grammar spells is what the signature spells.
use Rattle.std.proofs.Common.{◌≡◌, ◌≤◌, ◌<◌, ◌+◌, ◌++◌, ℕ, List, [], ◌∷◌, length, Some, Bool, codes, unwrap_or, sym, ◌∙◌, ap, subst, refl, arith}
use Rattle.std.specs.List.{slice_get}
use Rattle.std.proofs.lemmas.List.{map-append, length-append}
use Rattle.std.proofs.lemmas.Option.{slice_get_within, slice_get-get_or, unwrap_or-slice_get}
use Rattle.circ_term.specs.Tree.{Tree, Trees, Var, App, none, more}
use Rattle.circ_spelling.specs.declared.grammar.Grammar.{Grammar}
use Rattle.circ_spelling.specs.declared.grammar.Symbol as chart_symbol
use Rattle.circ_spelling.specs.declared.grammar.Symbol.TheVariants as chart
use Rattle.circ_spelling.specs.Generates as generating
use Rattle.circ_theory.specs.Signature.{Signature}
use Rattle.circ_theory.specs.Theory.{Declared}
use Rattle.circ_mixfix.specs.Named.{Named, NamedList, Variable, Applied, no_terms, terms}
use Rattle.circ_mixfix.specs.Symbols.{Symbol, Word, Hole, every, symbols_of}
use Rattle.circ_mixfix.specs.Spells.{IsVariable, Spells, SpellsSymbols, in_parentheses, a_variable, an_operator, no_symbol, a_word, a_hole}
use Rattle.circ_mixfix.specs.Coding.{text_at, texts_at, named_by, all_named_by, AreSymbols, HaveNumbers, IsGrammarOf, AllBelow}
use Rattle.circ_mixfix.specs.Least.{least_of, least_for}

pub text_is : (ws : List (List ℕ)) (n : ℕ) (w : List ℕ) → slice_get ws n ≡ Some w → text_at ws n ≡ w
text_is ws n w e = ap (λ o. unwrap_or o []) e

mutual
  pub from_chart : (sig : Signature) (vars : List Declared) (hole : Bool) (ws : List (List ℕ)) (k most : ℕ) (g : Grammar) → IsGrammarOf sig vars hole ws k most g
      → (b s : ℕ) (ns : List ℕ) (t : Tree) → generating.Generates g b s ns t → Spells sig vars hole b s (texts_at ws ns) (named_by ws t)
  from_chart sig vars hole ws k most g h b s ns t (generating.in_parentheses inner lo r e) =
      let q = from_chart sig vars hole ws k most g h _ s inner t r in
      in_parentheses (texts_at ws inner) lo q
      (ap (texts_at ws) e ∙ ap (λ x. x ∷ texts_at ws (inner ++ 1 ∷ [])) (text_is ws 0 (codes "(") h.opening)
      ∙ ap (λ x. codes "(" ∷ x) (map-append (text_at ws) inner (1 ∷ []) ∙ ap (λ x. texts_at ws inner ++ x ∷ []) (text_is ws 1 (codes ")") h.closing)))
  from_chart sig vars hole ws k most g h b s ns t (generating.a_variable n v lo l e f z) =
      let q = h.variables n v l in
      let P : ℕ → Type 0 = λ x. IsVariable sig vars hole q.0 q.1 x in
      a_variable q.0 q.1 lo (subst P (sym f) q.4) (ap (texts_at ws) e ∙ ap (λ x. x ∷ []) (text_is ws v.word q.0 q.2))
      (ap (named_by ws) z ∙ ap (λ x. Variable x v.sort) (text_is ws v.number q.1 q.3) ∙ ap (Variable q.1) (sym f))
  from_chart sig vars hole ws k most g h b s ns t (generating.an_operator n r args l p f row z) =
      let q = h.rules n r l in
      let m = q.3 in
      let w = m.prec in
      an_operator q.0 q.1 (all_named_by ws args) q.2 (omega arith) (f ∙ m.sort)
      (row_from_chart sig vars hole ws k most g h (symbols_of q.1) r.symbols.items ns args row m.symbols)
      (ap (named_by ws) z ∙ ap (λ x. Applied x r.sort (all_named_by ws args)) m.op ∙ ap (λ x. Applied q.0 x (all_named_by ws args)) m.sort)

  row_from_chart : (sig : Signature) (vars : List Declared) (hole : Bool) (ws : List (List ℕ)) (k most : ℕ) (g : Grammar) → IsGrammarOf sig vars hole ws k most g
      → (ps : List Symbol) (cs : List chart_symbol.Symbol) (ns : List ℕ) (args : Trees) → generating.GeneratesRow g cs ns args → AreSymbols ws ps cs
      → SpellsSymbols sig vars hole ps (texts_at ws ns) (all_named_by ws args)
  row_from_chart sig vars hole ws k most g h [] [] ns none (generating.no_symbol e) a = no_symbol (ap (texts_at ws) e)
  row_from_chart sig vars hole ws k most g h [] [] ns (more t args) r a = elim r [ ]
  row_from_chart sig vars hole ws k most g h [] (c ∷ cs) ns args r a = absurd a
  row_from_chart sig vars hole ws k most g h (p ∷ ps) [] ns args r a = absurd a
  row_from_chart sig vars hole ws k most g h (Word w ∷ ps) (chart.Word n ∷ cs) ns args (generating.a_word rest r e) a =
      a_word (texts_at ws rest) (row_from_chart sig vars hole ws k most g h ps cs rest args r a.1) (ap (texts_at ws) e ∙ ap (λ x. x ∷ texts_at ws rest) (text_is ws n w a.0))
  row_from_chart sig vars hole ws k most g h (Word w ∷ ps) (chart.Hole s b ∷ cs) ns args r a = absurd a.0
  row_from_chart sig vars hole ws k most g h (Hole s b ∷ ps) (chart.Word n ∷ cs) ns args r a = absurd a.0
  row_from_chart sig vars hole ws k most g h (Hole s b ∷ ps) (chart.Hole s2 b2 ∷ cs) ns none r a = elim r [ ]
  row_from_chart sig vars hole ws k most g h (Hole s b ∷ ps) (chart.Hole s2 b2 ∷ cs) ns (more t args) (generating.a_hole first rest d r e) a =
      let q = from_chart sig vars hole ws k most g h b2 s2 first t d in
      let P : ℕ → Type 0 = λ x. Spells sig vars hole x s2 (texts_at ws first) (named_by ws t) in
      let Q : ℕ → Type 0 = λ x. Spells sig vars hole b x (texts_at ws first) (named_by ws t) in
      a_hole (texts_at ws first) (texts_at ws rest) (subst Q (sym a.0.0) (subst P (sym a.0.1) q)) (row_from_chart sig vars hole ws k most g h ps cs rest args r a.1)
      (ap (texts_at ws) e ∙ map-append (text_at ws) first rest)

below_split : (k : ℕ) (ms ns : List ℕ) → AllBelow k (ms ++ ns) → AllBelow k ms × AllBelow k ns
below_split k [] ns h = (tt, h)
below_split k (m ∷ ms) ns h = let r = below_split k ms ns h.1 in ((h.0, r.0), r.1)

pub text_listed : (ws : List (List ℕ)) (n : ℕ) → n < length ws → slice_get ws n ≡ Some (text_at ws n)
text_listed ws n l = slice_get-get_or ws n [] l ∙ ap (λ w. Some w) (sym (unwrap_or-slice_get ws n []))

-- numbers whose texts are given
record First (ws : List (List ℕ)) (ns : List ℕ) (w : List ℕ) (ys : List (List ℕ)) : Type 0 where
  number : ℕ
  rest : List ℕ
  is : ns ≡ number ∷ rest
  text : text_at ws number ≡ w
  texts : texts_at ws rest ≡ ys

texts_first : (ws : List (List ℕ)) (ns : List ℕ) (w : List ℕ) (ys : List (List ℕ)) → texts_at ws ns ≡ w ∷ ys → First ws ns w ys
texts_first ws [] w ys e = absurd (cc)
texts_first ws (n ∷ ns) w ys e = let a : text_at ws n ≡ w = cc in let b : texts_at ws ns ≡ ys = cc in record { number = n; rest = ns; is = refl; text = a; texts = b }

texts_none : (ws : List (List ℕ)) (ns : List ℕ) → texts_at ws ns ≡ [] → ns ≡ []
texts_none ws [] e = refl
texts_none ws (n ∷ ns) e = absurd (cc)

record Parts (ws : List (List ℕ)) (ns : List ℕ) (xs ys : List (List ℕ)) : Type 0 where
  front : List ℕ
  back : List ℕ
  is : ns ≡ front ++ back
  first : texts_at ws front ≡ xs
  second : texts_at ws back ≡ ys

texts_parts : (ws : List (List ℕ)) (ns : List ℕ) (xs ys : List (List ℕ)) → texts_at ws ns ≡ xs ++ ys → Parts ws ns xs ys
texts_parts ws ns [] ys e = record { front = []; back = ns; is = refl; first = refl; second = e }
texts_parts ws [] (x ∷ xs) ys e = absurd (cc)
texts_parts ws (n ∷ ns) (x ∷ xs) ys e =
    let a : text_at ws n ≡ x = cc in let b : texts_at ws ns ≡ xs ++ ys = cc in let r = texts_parts ws ns xs ys b in
    record { front = n ∷ r.front; back = r.back; is = ap (λ z. n ∷ z) r.is; first = ap (λ z. z ∷ texts_at ws r.front) a ∙ ap (λ z. x ∷ z) r.first; second = r.second }

-- each text has one number
one_number : (sig : Signature) (vars : List Declared) (hole : Bool) (ws : List (List ℕ)) (k most : ℕ) (g : Grammar) → IsGrammarOf sig vars hole ws k most g
    → (n m : ℕ) (w : List ℕ) → n < k → text_at ws n ≡ w → slice_get ws m ≡ Some w → n ≡ m
one_number sig vars hole ws k most g h n m w l e f = let c = h.count in h.different n m w (text_listed ws n (omega arith) ∙ ap (λ x. Some x) e) f

-- the words of what is spelled have numbers
have_numbers : (sig : Signature) (vars : List Declared) (hole : Bool) (ws : List (List ℕ)) (k : ℕ) → k ≤ length ws → (ps : List Symbol) (us : List (List ℕ)) (args : NamedList) (ns : List ℕ)
    → SpellsSymbols sig vars hole ps us args → texts_at ws ns ≡ us → AllBelow k ns → HaveNumbers ws ps
have_numbers sig vars hole ws k c [] us args ns r e b = tt
have_numbers sig vars hole ws k c (Word w ∷ ps) us args ns (a_word rest r e1) e b =
    let f = texts_first ws ns w rest (e ∙ e1) in
    let P : List ℕ → Type 0 = AllBelow k in
    let d = subst P f.is b in
    let d0 = d.0 in
    ((f.number, text_listed ws f.number (omega arith) ∙ ap (λ x. Some x) f.text), have_numbers sig vars hole ws k c ps rest args f.rest r f.texts d.1)
have_numbers sig vars hole ws k c (Hole s b2 ∷ ps) us no_terms ns r e b = elim r [ ]
have_numbers sig vars hole ws k c (Hole s b2 ∷ ps) us (terms q args) ns (a_hole first rest d r e1) e b =
    let f = texts_parts ws ns first rest (e ∙ e1) in
    let P : List ℕ → Type 0 = AllBelow k in
    (tt, have_numbers sig vars hole ws k c ps rest args f.back r f.second (below_split k f.front f.back (subst P f.is b)).1)

-- what is spelled has so many tokens as its sort's number says, or more, and so have symbols
mutual
  sort_least : (sig : Signature) (vars : List Declared) (hole : Bool) (ws : List (List ℕ)) (k most : ℕ) (g : Grammar) (h : IsGrammarOf sig vars hole ws k most g)
      → (b s : ℕ) (us : List (List ℕ)) (q : Named) (ns : List ℕ) → Spells sig vars hole b s us q → texts_at ws ns ≡ us → AllBelow k ns → length ns ≤ most → least_of h.least s ≤ length ns
  sort_least sig vars hole ws k most g h b s us q ns (in_parentheses inner lo d e1) e l few =
      let f = texts_first ws ns (codes "(") (inner ++ codes ")" ∷ []) (e ∙ e1) in
      let c = texts_parts ws f.rest inner (codes ")" ∷ []) f.texts in
      let P : List ℕ → Type 0 = AllBelow k in
      let m = subst P f.is l in
      let x = ap length f.is in
      let y : length f.rest ≡ length c.front + length c.back = ap length c.is ∙ length-append c.front c.back in
      let r = sort_least sig vars hole ws k most g h every s inner q c.front d c.first (below_split k c.front c.back (subst P c.is m.1)).0 (omega arith) in
      omega arith
  sort_least sig vars hole ws k most g h b s us q ns (a_variable w name lo v e1 z) e l few =
      let f = texts_first ws ns w [] (e ∙ e1) in
      let P : List ℕ → Type 0 = AllBelow k in
      let m = (subst P f.is l).0 in
      let c = h.count in
      let a = h.all_variables f.number w name s m (text_listed ws f.number (omega arith) ∙ ap (λ x. Some x) f.text) v in
      let o = a.3 in
      let x = ap length f.is in
      let y : least_of h.least a.1.sort ≡ least_of h.least s = ap (least_of h.least) o.sort in
      let r = h.least_variables a.0 a.1 a.2 in
      omega arith
  sort_least sig vars hole ws k most g h b s us q ns (an_operator f o args lo p e2 row z) e l few =
      let r = symbols_least sig vars hole ws k most g h (symbols_of o) us args ns row e l few in
      let x = h.least_operators f o lo (have_numbers sig vars hole ws k h.count (symbols_of o) us args ns row e l) (omega arith) in
      let y : least_of h.least s ≡ least_of h.least o.result = ap (least_of h.least) e2 in
      omega arith

  symbols_least : (sig : Signature) (vars : List Declared) (hole : Bool) (ws : List (List ℕ)) (k most : ℕ) (g : Grammar) (h : IsGrammarOf sig vars hole ws k most g)
      → (ps : List Symbol) (us : List (List ℕ)) (args : NamedList) (ns : List ℕ) → SpellsSymbols sig vars hole ps us args → texts_at ws ns ≡ us → AllBelow k ns → length ns ≤ most
      → least_for h.least ps ≤ length ns
  symbols_least sig vars hole ws k most g h [] us args ns r e l few = omega arith
  symbols_least sig vars hole ws k most g h (Word w ∷ ps) us args ns (a_word rest r e1) e l few =
      let f = texts_first ws ns w rest (e ∙ e1) in
      let P : List ℕ → Type 0 = AllBelow k in
      let x = ap length f.is in
      let q = symbols_least sig vars hole ws k most g h ps rest args f.rest r f.texts (subst P f.is l).1 (omega arith) in
      omega arith
  symbols_least sig vars hole ws k most g h (Hole s b ∷ ps) us no_terms ns r e l few = elim r [ ]
  symbols_least sig vars hole ws k most g h (Hole s b ∷ ps) us (terms q args) ns (a_hole first rest d r e1) e l few =
      let f = texts_parts ws ns first rest (e ∙ e1) in
      let P : List ℕ → Type 0 = AllBelow k in
      let m = below_split k f.front f.back (subst P f.is l) in
      let x : length ns ≡ length f.front + length f.back = ap length f.is ∙ length-append f.front f.back in
      let y = sort_least sig vars hole ws k most g h b s first q f.front d f.first m.0 (omega arith) in
      let z = symbols_least sig vars hole ws k most g h ps rest args f.back r f.second m.1 (omega arith) in
      omega arith

-- a term of the chart that stands for the named one
pub record Few (ws : List (List ℕ)) (g : Grammar) (b s : ℕ) (ns : List ℕ) (q : Named) : Type 0 where
  pub term : Tree
  pub spells : generating.Generates g b s ns term
  pub is : named_by ws term ≡ q

pub record FoundRow (ws : List (List ℕ)) (g : Grammar) (cs : List chart_symbol.Symbol) (ns : List ℕ) (qs : NamedList) : Type 0 where
  pub args : Trees
  pub spells : generating.GeneratesRow g cs ns args
  pub is : all_named_by ws args ≡ qs

mutual
  pub to_chart : (sig : Signature) (vars : List Declared) (hole : Bool) (ws : List (List ℕ)) (k most : ℕ) (g : Grammar) → IsGrammarOf sig vars hole ws k most g
      → (b s : ℕ) (us : List (List ℕ)) (q : Named) (ns : List ℕ) → Spells sig vars hole b s us q → texts_at ws ns ≡ us → AllBelow k ns → length ns ≤ most → b ≤ every → Few ws g b s ns q
  to_chart sig vars hole ws k most g h b s us q ns (in_parentheses inner lo d e1) e l few le =
      let f = texts_first ws ns (codes "(") (inner ++ codes ")" ∷ []) (e ∙ e1) in
      let c = texts_parts ws f.rest inner (codes ")" ∷ []) f.texts in
      let z = texts_first ws c.back (codes ")") [] c.second in
      let P : List ℕ → Type 0 = AllBelow k in
      let m = subst P f.is l in
      let m2 = below_split k c.front c.back (subst P c.is m.1) in
      let m3 = subst P z.is m2.1 in
      let x = ap length f.is in
      let v : length f.rest ≡ length c.front + length c.back = ap length c.is ∙ length-append c.front c.back in
      let r = to_chart sig vars hole ws k most g h every s inner q c.front d c.first m2.0 (omega arith) (omega arith) in
      let a : f.number ≡ 0 = one_number sig vars hole ws k most g h f.number 0 (codes "(") m.0 f.text h.opening in
      let y : z.number ≡ 1 = one_number sig vars hole ws k most g h z.number 1 (codes ")") m3.0 z.text h.closing in
      record {
        term = r.term;
        is = r.is;
        spells = generating.in_parentheses c.front lo r.spells
            (f.is ∙ ap (λ x. x ∷ f.rest) a ∙ ap (λ x. 0 ∷ x) (c.is ∙ ap (λ x. c.front ++ x) (z.is ∙ ap (λ x. x ∷ z.rest) y ∙ ap (λ x. 1 ∷ x) (texts_none ws z.rest z.texts))));
      }
  to_chart sig vars hole ws k most g h b s us q ns (a_variable w name lo v e1 z) e l few le =
      let f = texts_first ws ns w [] (e ∙ e1) in
      let P : List ℕ → Type 0 = AllBelow k in
      let m = (subst P f.is l).0 in
      let c = h.count in
      let a = h.all_variables f.number w name s m (text_listed ws f.number (omega arith) ∙ ap (λ x. Some x) f.text) v in
      let o = a.3 in
      record {
        term = Var a.1.number a.1.sort;
        spells = generating.a_variable a.0 a.1 lo a.2 (f.is ∙ ap (λ x. x ∷ f.rest) (sym o.word) ∙ ap (λ x. a.1.word ∷ x) (texts_none ws f.rest f.texts)) (sym o.sort) refl;
        is = ap (λ x. Variable x a.1.sort) (text_is ws a.1.number name o.number) ∙ ap (Variable name) o.sort ∙ sym z;
      }
  to_chart sig vars hole ws k most g h b s us q ns (an_operator f o args lo p e2 row z) e l few le =
      let fit = symbols_least sig vars hole ws k most g h (symbols_of o) us args ns row e l few in
      let a = h.all_rules f o lo (omega arith) (have_numbers sig vars hole ws k h.count (symbols_of o) us args ns row e l) (omega arith) in
      let m = a.3 in
      let w = m.prec in
      let r = row_to_chart sig vars hole ws k most g h (symbols_of o) a.1.symbols.items us args ns row m.symbols e l few in
      record {
        term = App a.1.op a.1.sort r.args;
        spells = generating.an_operator a.0 a.1 r.args a.2 (omega arith) (e2 ∙ sym m.sort) r.spells refl;
        is = ap (λ x. Applied x a.1.sort (all_named_by ws r.args)) m.op ∙ ap (λ x. Applied f x (all_named_by ws r.args)) m.sort ∙ ap (Applied f o.result) r.is ∙ sym z;
      }

  pub row_to_chart : (sig : Signature) (vars : List Declared) (hole : Bool) (ws : List (List ℕ)) (k most : ℕ) (g : Grammar) → IsGrammarOf sig vars hole ws k most g
      → (ps : List Symbol) (cs : List chart_symbol.Symbol) (us : List (List ℕ)) (qs : NamedList) (ns : List ℕ) → SpellsSymbols sig vars hole ps us qs → AreSymbols ws ps cs
      → texts_at ws ns ≡ us → AllBelow k ns → length ns ≤ most → FoundRow ws g cs ns qs
  row_to_chart sig vars hole ws k most g h [] [] us no_terms ns (no_symbol e1) a e l few = record { args = none; spells = generating.no_symbol (texts_none ws ns (e ∙ e1)); is = refl }
  row_to_chart sig vars hole ws k most g h [] [] us (terms q qs) ns r a e l few = elim r [ ]
  row_to_chart sig vars hole ws k most g h [] (c ∷ cs) us qs ns r a e l few = absurd a
  row_to_chart sig vars hole ws k most g h (p ∷ ps) [] us qs ns r a e l few = absurd a
  row_to_chart sig vars hole ws k most g h (Word w ∷ ps) (chart.Word n ∷ cs) us qs ns (a_word rest r e1) a e l few =
      let f = texts_first ws ns w rest (e ∙ e1) in
      let P : List ℕ → Type 0 = AllBelow k in
      let m = subst P f.is l in
      let x = ap length f.is in
      let q = row_to_chart sig vars hole ws k most g h ps cs rest qs f.rest r a.1 f.texts m.1 (omega arith) in
      let y = one_number sig vars hole ws k most g h f.number n w m.0 f.text a.0 in
      record { args = q.args; spells = generating.a_word f.rest q.spells (f.is ∙ ap (λ x. x ∷ f.rest) y); is = q.is }
  row_to_chart sig vars hole ws k most g h (Word w ∷ ps) (chart.Hole s b ∷ cs) us qs ns r a e l few = absurd a.0
  row_to_chart sig vars hole ws k most g h (Hole s b ∷ ps) (chart.Word n ∷ cs) us qs ns r a e l few = absurd a.0
  row_to_chart sig vars hole ws k most g h (Hole s b ∷ ps) (chart.Hole s2 b2 ∷ cs) us no_terms ns r a e l few = elim r [ ]
  row_to_chart sig vars hole ws k most g h (Hole s b ∷ ps) (chart.Hole s2 b2 ∷ cs) us (terms q qs) ns (a_hole first rest d r e1) a e l few =
      let f = texts_parts ws ns first rest (e ∙ e1) in
      let P : List ℕ → Type 0 = AllBelow k in
      let m = below_split k f.front f.back (subst P f.is l) in
      let v : length ns ≡ length f.front + length f.back = ap length f.is ∙ length-append f.front f.back in
      let x = to_chart sig vars hole ws k most g h b s first q f.front d f.first m.0 (omega arith) a.0.2 in
      let y = row_to_chart sig vars hole ws k most g h ps cs rest qs f.back r a.1 f.second m.1 (omega arith) in
      let S : ℕ → Type 0 = λ v. generating.Generates g v s f.front x.term in
      let T : ℕ → Type 0 = λ v. generating.Generates g b2 v f.front x.term in
      record {
        args = more x.term y.args;
        spells = generating.a_hole f.front f.back (subst T a.0.0 (subst S a.0.1 x.spells)) y.spells f.is;
        is = ap (λ v. terms v (all_named_by ws y.args)) x.is ∙ ap (terms q) y.is;
      }

-- the variables' numbers are numbers of texts
abbrev mutual
  pub AreKnown : List (List ℕ) → Tree → Type 0
  AreKnown ws (Var n s) = n < length ws
  AreKnown ws (App f s ts) = AreAllKnown ws ts

  pub AreAllKnown : List (List ℕ) → Trees → Type 0
  AreAllKnown ws none = Unit {0}
  AreAllKnown ws (more t ts) = AreKnown ws t × AreAllKnown ws ts

mutual
  pub chart_known : (sig : Signature) (vars : List Declared) (hole : Bool) (ws : List (List ℕ)) (k most : ℕ) (g : Grammar) → IsGrammarOf sig vars hole ws k most g
      → (b s : ℕ) (ns : List ℕ) (t : Tree) → generating.Generates g b s ns t → AreKnown ws t
  chart_known sig vars hole ws k most g h b s ns t (generating.in_parentheses inner lo r e) = chart_known sig vars hole ws k most g h _ s inner t r
  chart_known sig vars hole ws k most g h b s ns t (generating.a_variable n v lo l e f z) =
      let q = h.variables n v l in let P : Tree → Type 0 = AreKnown ws in subst P (sym z) (slice_get_within ws v.number q.1 q.3)
  chart_known sig vars hole ws k most g h b s ns t (generating.an_operator n r args l p f row z) =
      let P : Tree → Type 0 = AreKnown ws in subst P (sym z) (row_known sig vars hole ws k most g h r.symbols.items ns args row)

  row_known : (sig : Signature) (vars : List Declared) (hole : Bool) (ws : List (List ℕ)) (k most : ℕ) (g : Grammar) → IsGrammarOf sig vars hole ws k most g
      → (cs : List chart_symbol.Symbol) (ns : List ℕ) (args : Trees) → generating.GeneratesRow g cs ns args → AreAllKnown ws args
  row_known sig vars hole ws k most g h [] ns none (generating.no_symbol e) = tt
  row_known sig vars hole ws k most g h (chart.Word n ∷ cs) ns args (generating.a_word rest r e) = row_known sig vars hole ws k most g h cs rest args r
  row_known sig vars hole ws k most g h (chart.Hole s b ∷ cs) ns (more t args) (generating.a_hole first rest d r e) =
      (chart_known sig vars hole ws k most g h b s first t d, row_known sig vars hole ws k most g h cs rest args r)

-- terms of the chart that stand for one named term are the same
mutual
  one_term : (ws : List (List ℕ)) → ((m n : ℕ) (w : List ℕ) → slice_get ws m ≡ Some w → slice_get ws n ≡ Some w → m ≡ n)
      → (t u : Tree) → AreKnown ws t → AreKnown ws u → named_by ws t ≡ named_by ws u → t ≡ u
  one_term ws d (Var n s) (Var m r) a b e =
      let x : text_at ws n ≡ text_at ws m = cc in let y : s ≡ r = cc in
      ap (λ v. Var v s) (d n m (text_at ws m) (text_listed ws n a ∙ ap (λ v. Some v) x) (text_listed ws m b)) ∙ ap (Var m) y
  one_term ws d (Var n s) (App f r us) a b e = absurd (cc)
  one_term ws d (App f s ts) (Var m r) a b e = absurd (cc)
  one_term ws d (App f s ts) (App g r us) a b e =
      let x : f ≡ g = cc in let y : s ≡ r = cc in let z : all_named_by ws ts ≡ all_named_by ws us = cc in
      ap (λ v. App v s ts) x ∙ ap (λ v. App g v ts) y ∙ ap (App g r) (one_terms ws d ts us a b z)

  one_terms : (ws : List (List ℕ)) → ((m n : ℕ) (w : List ℕ) → slice_get ws m ≡ Some w → slice_get ws n ≡ Some w → m ≡ n)
      → (ts us : Trees) → AreAllKnown ws ts → AreAllKnown ws us → all_named_by ws ts ≡ all_named_by ws us → ts ≡ us
  one_terms ws d none none a b e = refl
  one_terms ws d none (more u us) a b e = absurd (cc)
  one_terms ws d (more t ts) none a b e = absurd (cc)
  one_terms ws d (more t ts) (more u us) a b e =
      let x : named_by ws t ≡ named_by ws u = cc in let y : all_named_by ws ts ≡ all_named_by ws us = cc in
      ap (λ v. more v ts) (one_term ws d t u a.0 b.0 x) ∙ ap (more u) (one_terms ws d ts us a.1 b.1 y)

pub spelled_apart : (sig : Signature) (vars : List Declared) (hole : Bool) (ws : List (List ℕ)) (k most : ℕ) (g : Grammar) → IsGrammarOf sig vars hole ws k most g
    → (b s b2 s2 : ℕ) (ns : List ℕ) (t u : Tree) → generating.Generates g b s ns t → generating.Generates g b2 s2 ns u → named_by ws t ≡ named_by ws u → t ≡ u
spelled_apart sig vars hole ws k most g h b s b2 s2 ns t u x y e = one_term ws h.different t u (chart_known sig vars hole ws k most g h b s ns t x) (chart_known sig vars hole ws k most g h b2 s2 ns u y) e
