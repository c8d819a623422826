-- What the chart keeps of the terms of a token list is enough of its readings.
use Rattle.std.proofs.Common.{◌≤◌, ℕ, length, List, [], Bool, sym, subst, refl, arith}
use Rattle.circ_term.specs.Tree.{Tree}
use Rattle.circ_spelling.specs.declared.grammar.Grammar.{Grammar}
use Rattle.circ_chart.specs.declared.TheConstants.{EVERY}
use Rattle.circ_chart.specs.Few.{Enough}
use Rattle.circ_chart.proofs.Sets.{Some_of, enough_all, enough_chain, enough_some}
use Rattle.circ_chart.specs.Tops.{OfSort}
use Rattle.circ_spelling.specs.Generates as generating
use Rattle.circ_theory.specs.Signature.{Signature}
use Rattle.circ_theory.specs.Theory.{Declared}
use Rattle.circ_mixfix.specs.Named.{Named, seen_in}
use Rattle.circ_mixfix.specs.Symbols.{every}
use Rattle.circ_mixfix.specs.Spells.{Spells}
use Rattle.circ_mixfix.specs.Readings.{numbers_of, reading_of, ReadsOne}
use Rattle.circ_mixfix.specs.Coding.{texts_at, named_by, IsGrammarOf, AllBelow}
use Rattle.circ_mixfix.proofs.Names.{spellings_apart}
use Rattle.circ_mixfix.proofs.Coded.{from_chart, to_chart, spelled_apart}
use Rattle.circ_mixfix.specs.Found.{Image}
use Rattle.circ_mixfix.proofs.Images.{enough_image}

-- of the named terms of one sort
pub each_sort_named : (sig : Signature) (vars : List Declared) (hole : Bool) (ws : List (List ℕ)) (k most : ℕ) (g : Grammar) (ns : List ℕ) (us : List Tree) → IsGrammarOf sig vars hole ws k most g → AllBelow k ns
    → length ns ≤ most
    → ((s : ℕ) → Enough (OfSort us s) (generating.Generates g EVERY s ns)) → (s : ℕ) → Enough (Image (named_by ws) (OfSort us s)) (Spells sig vars hole every s (texts_at ws ns))
each_sort_named sig vars hole ws k most g ns us h l few each s =
    enough_chain (Image (named_by ws) (OfSort us s)) (Image (named_by ws) (generating.Generates g EVERY s ns)) (Spells sig vars hole every s (texts_at ws ns))
    (enough_image (named_by ws) (OfSort us s) (generating.Generates g EVERY s ns) (λ t u a b e. spelled_apart sig vars hole ws k most g h EVERY s EVERY s ns t u a b e) (each s))
    (enough_all (Image (named_by ws) (generating.Generates g EVERY s ns)) (Spells sig vars hole every s (texts_at ws ns)) out back)
  where
    out : (q : Named) → Image (named_by ws) (generating.Generates g EVERY s ns) q → Spells sig vars hole every s (texts_at ws ns) q
    out q i = let P : Named → Type 0 = Spells sig vars hole every s (texts_at ws ns) in subst P (sym i.is) (from_chart sig vars hole ws k most g h EVERY s ns i.from i.has)

    back : (q : Named) → Spells sig vars hole every s (texts_at ws ns) q → Image (named_by ws) (generating.Generates g EVERY s ns) q
    back q d = let f = to_chart sig vars hole ws k most g h every s (texts_at ws ns) q ns d refl l few (omega arith) in record { from = f.term; has = f.spells; is = sym f.is }

-- a named term that the tokens spell, of any sort
abbrev AnySort : Signature → List Declared → Bool → List (List ℕ) → Named → Type 0
AnySort sig vars hole tokens = Some_of (λ s. Spells sig vars hole every s tokens)

-- of the readings of one token list
pub reads_one : (sig : Signature) (vars : List Declared) (hole : Bool) (tokens : List (List ℕ)) (E : ℕ → Named → Type 0)
    → ((s : ℕ) → Enough (E s) (Spells sig vars hole every s tokens)) → Enough (Image (reading_of hole) (Some_of E)) (ReadsOne sig vars hole tokens)
reads_one sig vars hole tokens E each =
    enough_chain (Image (reading_of hole) (Some_of E)) (Image (reading_of hole) (AnySort sig vars hole tokens)) (ReadsOne sig vars hole tokens)
    (enough_image (reading_of hole) (Some_of E) (AnySort sig vars hole tokens)
    (λ q r a b e. spellings_apart sig vars hole tokens every a.index every b.index q r (numbers_of hole (seen_in q [])) (numbers_of hole (seen_in r [])) a.has b.has e)
    (enough_some E (λ s. Spells sig vars hole every s tokens) each))
    (enough_all (Image (reading_of hole) (AnySort sig vars hole tokens)) (ReadsOne sig vars hole tokens)
    (λ t i. record { sort = i.has.index; spelled = i.from; spells = i.has.has; is = i.is })
    (λ t r. record { from = r.spelled; has = record { index = r.sort; has = r.spells }; is = r.is }))
